use Rattle.std.proofs.Common.{inl}
use Rattle.std.proofs.lemmas.Result.{on_ok_weaker, on_err_weaker}
use Rattle.blob_store.proofs.StoreAfterPut.{store_of-with_object, store_of-with_note, store_of-called, writes-with_object, writes-with_note, writes-called}
use Rattle.blob_store.proofs.mem_keeper.MemKeeperKeeper.TheImpl.Goals as goal

pub put-tells : goal.put-tells
put-tells c =
    record {
      listed = λ _. on_ok_weaker c.result (writes-with_object c.args.self.now c.new.self.now c.args.name.now c.args.bytes.now) c.ensures.made;
      unlisted = λ _. on_err_weaker c.result (writes-called c.args.self.now c.new.self.now) c.ensures.kept;
      made = λ _. on_ok_weaker c.result (store_of-with_object c.args.self.now c.new.self.now c.args.name.now c.args.bytes.now) c.ensures.made;
      kept = λ _. on_err_weaker c.result (λ same. inl (store_of-called c.args.self.now c.new.self.now same)) c.ensures.kept;
      cause = c.ensures.cause;
      one = λ _. c.ensures.one;
    }

pub put_note-tells : goal.put_note-tells
put_note-tells c =
    record {
      listed = λ _. on_ok_weaker c.result (writes-with_note c.args.self.now c.new.self.now c.args.name.now c.args.bytes.now) c.ensures.made;
      unlisted = λ _. on_err_weaker c.result (writes-called c.args.self.now c.new.self.now) c.ensures.kept;
      made = λ _. on_ok_weaker c.result (store_of-with_note c.args.self.now c.new.self.now c.args.name.now c.args.bytes.now) c.ensures.made;
      kept = λ _. on_err_weaker c.result (λ same. inl (store_of-called c.args.self.now c.new.self.now same)) c.ensures.kept;
      cause = c.ensures.cause;
      one = λ _. c.ensures.one;
    }
