use Rattle.std.proofs.Common.{inl, ap}
use Rattle.std.proofs.lemmas.Result.{on_ok_weaker, on_err_weaker}
use Rattle.file_tree.specs.Memory.{Memory}
use Rattle.file_tree.proofs.TreeAsMap.{files_of-with_file, files_of-with_none, files_of-called}
use Rattle.file_tree.proofs.mem_tree.MemTreeTree.TheImpl.Goals as goal

pub write-tells : goal.write-tells
write-tells c =
    record {
      made = λ _. on_ok_weaker c.result (files_of-with_file c.args.self.now c.new.self.now c.args.path.now c.args.bytes.now) c.ensures.made;
      kept = λ _. on_err_weaker c.result (λ same. inl (files_of-called c.args.self.now c.new.self.now same)) c.ensures.kept;
      listed = λ _. on_ok_weaker c.result (ap (λ (t : Memory). t.changes)) c.ensures.made;
      unlisted = λ _. on_err_weaker c.result (ap (λ (t : Memory). t.changes)) c.ensures.kept;
      cause = c.ensures.cause;
      one = λ _. c.ensures.one;
    }

pub remove-tells : goal.remove-tells
remove-tells c =
    record {
      made = λ _. on_ok_weaker c.result (files_of-with_none c.args.self.now c.new.self.now c.args.path.now) c.ensures.made;
      kept = λ _. on_err_weaker c.result (λ same. inl (files_of-called c.args.self.now c.new.self.now same)) c.ensures.kept;
      listed = λ _. on_ok_weaker c.result (ap (λ (t : Memory). t.changes)) c.ensures.made;
      unlisted = λ _. on_err_weaker c.result (ap (λ (t : Memory). t.changes)) c.ensures.kept;
      cause = c.ensures.cause;
      one = λ _. c.ensures.one;
    }
