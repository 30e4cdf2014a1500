use Rattle.std.proofs.Common.{◌≡◌, take}
use Rattle.thunk_codec.specs.Resolved.{with_values, AreNames}
use Rattle.thunk_codec.proofs.resolving.inputs_with.Given as goal

abbrev pub invariant-inputs : goal.invariant-inputs
invariant-inputs l =
    record {
      made : l.made ≡ with_values (take l.i l.inputs) (take l.i l.values);
      names : AreNames (take l.i l.values);
    }
