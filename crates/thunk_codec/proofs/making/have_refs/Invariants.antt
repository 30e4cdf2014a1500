use Rattle.std.proofs.Common.{take}
use Rattle.std.specs.List.{AllByRecursion}
use Rattle.thunk_codec.specs.Reference.{IsRef}
use Rattle.thunk_codec.proofs.making.have_refs.Given as goal

abbrev pub invariant-inputs : goal.invariant-inputs
invariant-inputs l = AllByRecursion (λ input. IsRef input.1) (take l.reference-index l.inputs)
