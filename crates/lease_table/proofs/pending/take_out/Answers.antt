use Rattle.std.proofs.Common.{ap, sym, ◌∙◌, ℕ, List, eqb}
use Rattle.std.specs.List.{position}
use Rattle.lease_table.proofs.Kept.{without-found, without-none}
use Rattle.lease_table.proofs.pending.take_out.Goals as goal

pub returns-in-Some-clause-items : goal.returns-in-Some-clause-items
returns-in-Some-clause-items c =
    let at = ap (λ (xs : List ℕ). position (λ (x : ℕ). eqb x c.args.job) xs) (sym c.as_slice.ensures.value) ∙ sym c.place_of.ensures ∙ c.in-Some.is in
    c.remove.ensures.items ∙ without-found c.args.job c.args.jobs.now.items c.in-Some.place at

pub returns-in-None-clause-items : goal.returns-in-None-clause-items
returns-in-None-clause-items c =
    let at = ap (λ (xs : List ℕ). position (λ (x : ℕ). eqb x c.args.job) xs) (sym c.as_slice.ensures.value) ∙ sym c.place_of.ensures ∙ c.in-None.is in
    sym (without-none c.args.job c.args.jobs.now.items at)
