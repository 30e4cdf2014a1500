use Rattle.std.proofs.Common.{◌≡◌, ◌≤◌, ◌∙◌, ap, sym, length, List, true, None, ℕ, arith}
use Rattle.object_name.specs.Name.{ObjectName, name_of}
use Rattle.force_core.specs.Book.{Task}
use Rattle.force_core.specs.Known.{known}
use Rattle.force_core.specs.Index.{leads}
use Rattle.force_core.proofs.Indexed.{index-pushed}
use Rattle.force_core.proofs.Untaken.{count-push, bytes-push}
use Rattle.force_core.proofs.tasks.Tasks.add.Goals as goal

pub invariant_of-self : goal.invariant_of-self
invariant_of-self g c =
    let items : List Task = c.self.inside.entries.items in
    let entry : Task = c.args.entry in
    let room : 1 ≤ c.self.inside.room = rw (← c.self.view_is) at c.requires.room in
    let unknown : known entry.text entry.job items ≡ None = rw (← c.self.view_is) at c.requires.new in
    let place : c.len.result ≡ length items = omega (arith, c.len.ensures) in
    let led : leads c.add.new.self (name_of entry.text) (length items) ≡ true =
    ap (λ (n : ℕ). leads c.add.new.self (name_of entry.text) n) (sym place) ∙ ap (λ (name : ObjectName). leads c.add.new.self name c.len.result) (sym c.name.ensures) ∙ c.add.ensures.added in
    rw c.push_reserved.ensures.items (
      omega (arith, room, c.self.invariant.0, c.push_reserved.ensures.len, c.push_reserved.ensures.capacity),
      omega (arith, room, c.self.invariant.1, c.size.ensures.small),
      omega (arith, c.self.invariant.2, count-push items entry c.requires.untaken),
      omega (arith, c.self.invariant.3, c.size.ensures.size, bytes-push items entry c.requires.untaken),
      index-pushed c.self.inside.index c.add.new.self items entry c.self.invariant.4 c.add.ensures.kept led c.requires.untaken unknown,
      omega (arith, c.self.invariant.5),
      λ more. absurd (omega (arith, more, c.self.invariant.5)),
    )
