use Rattle.std.proofs.Common.{◌≡◌, ◌++◌, take, map, true}
use Rattle.std.specs.List.{flat_map, list_all}
use Rattle.thunk_codec.specs.Path.{is_path}
use Rattle.thunk_codec.specs.Thunk.{input_line}
use Rattle.thunk_codec.proofs.encoding.write_inputs.Given as goal

abbrev pub invariant-inputs : goal.invariant-inputs
invariant-inputs l =
    record {
      lines : l.out ≡ l.initial.out ++ flat_map input_line (take l.path-index l.inputs);
      paths : list_all is_path (map (λ input. input.0) (take l.path-index l.inputs)) ≡ true;
    }
