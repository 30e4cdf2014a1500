use Rattle.std.proofs.Common.{◌≡◌, ◌++◌, take, true}
use Rattle.std.specs.List.{flat_map, list_all}
use Rattle.thunk_codec.specs.Path.{is_path}
use Rattle.thunk_codec.specs.Thunk.{output_line}
use Rattle.thunk_codec.proofs.encoding.write_outputs.Given as goal

abbrev pub invariant-outputs : goal.invariant-outputs
invariant-outputs l =
    record {
      lines : l.out ≡ l.initial.out ++ flat_map output_line (take l.output-index l.outputs);
      paths : list_all is_path (take l.output-index l.outputs) ≡ true;
    }
