use Rattle.std.proofs.Common.{ℕ, List, ap, sym, ◌∙◌, eqb}
use Rattle.std.specs.List.{position}
use Rattle.force_core.proofs.Numbers.{removed}
use Rattle.force_core.proofs.index.take_out.Goals as goal

pub returns-in-Some-clause-kept : goal.returns-in-Some-clause-kept
returns-in-Some-clause-kept c =
    let at = ap (λ (xs : List ℕ). position (λ (x : ℕ). eqb x c.args.id) xs) (sym c.as_slice.ensures.value) ∙ sym c.place_of.ensures ∙ c.in-Some.is in
    λ number other among. rw c.remove.ensures.items (removed c.args.numbers.now.items c.in-Some.place c.args.id at number other among)
