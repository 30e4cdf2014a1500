use Rattle.std.proofs.Common.{◌≡◌, ◌∙◌, Ok, List, ℕ, sym, ap, arith}
use Rattle.std.specs.Prelude.{bytes_eq, if◌then◌else◌, ◌++◌, ◌∷◌, []}
use Rattle.std.specs.List.{list_any}
use Rattle.include_scan.specs.Queue.{Waits}
use Rattle.include_scan.specs.Scanning.{visit_file}
use Rattle.include_scan.proofs.QueueKeepsWaiting.{leaves_fault, no_more, visited_full, visited_refused, visited_one, waits_more}
use Rattle.include_scan.proofs.queue.Queue.add.Goals as goal

pub returns-then-len-ge-MAX_FILES-clause-exact : goal.returns-then-len-ge-MAX_FILES-clause-exact
returns-then-len-ge-MAX_FILES-clause-exact c files index waits fresh read =
    (visited_full files c.args.path c.args.self.now.visited.keys fresh (let full = c.if-len-ge-MAX_FILES.true in let long = c.len.ensures.len in omega (arith, full, long)), tt)

pub returns-in_err-bytes-clause-exact : goal.returns-in_err-bytes-clause-exact
returns-in_err-bytes-clause-exact c files index waits fresh read = (
  leaves_fault (visit_file files c.args.path c.args.self.now.visited.keys) c.args.self.now.visited.keys c.in_err-bytes.field-0.0 c.from_residual.result c.from_residual.ensures
      (visited_refused files c.args.path c.args.self.now.visited.keys fresh (let room = c.if-len-ge-MAX_FILES.false in let long = c.len.ensures.len in omega (arith, room, long)) c.args.read read
      c.in_err-bytes.field-0.0 c.in_err-bytes.ensures),
  no_more (Waits files index record { visited = c.args.self.now.visited; waiting = c.args.self.now.waiting }) c.from_residual.result c.in_err-bytes.field-0.0 c.from_residual.ensures,
)

pub returns-clause-exact : goal.returns-clause-exact
returns-clause-exact c files index waits fresh read =
    let same : c.in_ok-copy.field-0 ≡ c.args.path = c.in_ok-copy.ensures in
    let keys : List (List ℕ) = c.args.self.now.visited.keys in
    let inserted = c.in_ok-insert.ensures.keys ∙ ap (λ path. if list_any (bytes_eq path) keys then keys else keys ++ path ∷ []) same in
    let one = visited_one files c.args.path keys fresh (let room = c.if-len-ge-MAX_FILES.false in let long = c.len.ensures.len in omega (arith, room, long)) c.args.read read c.in_ok-bytes.bytes c.in_ok-bytes.ensures in (
      one ∙ ap Ok (sym (inserted ∙ ap (λ test. if test then keys else keys ++ c.args.path ∷ []) fresh)),
      waits_more files index c.args.self.now record { visited = c.insert.new.self; waiting = c.push_back.new.self } waits c.args.path c.args.read c.in_ok-bytes.bytes fresh read c.in_ok-bytes.ensures
          inserted c.in_ok-push_back.ensures.items,
    )
