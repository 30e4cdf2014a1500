use Rattle.std.proofs.Common.{◌≡◌, ◌++◌, take}
use Rattle.std.specs.List.{flat_map}
use Rattle.tool_bin.specs.Instruction.{instruction_text}
use Rattle.tool_bin.specs.Object.{line}
use Rattle.tool_bin.proofs.object.write_code.Given as goal

abbrev pub invariant-code : goal.invariant-code
invariant-code l = l.out ≡ l.initial.out ++ flat_map (λ instruction. line (instruction_text instruction)) (take l.instruction-index l.code)
