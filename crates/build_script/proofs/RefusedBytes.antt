-- A refusal of one byte is that of the line.
use Rattle.std.proofs.Common.{◌≡◌, ℕ, ◌≤◌, List, [], ◌∷◌, length, get_or, Result, IsErr, IsErrAnd, arith}
use Rattle.file_tree.proofs.PublicLaws.{refused_whole}
use Rattle.file_tree.specs.Planning.{Refuses, Finds}
use Rattle.file_tree.specs.declared.model_fault.PlanFault.{PlanFault}
use Rattle.build_script.specs.declared.line_words.LineWords.{LineWords}
use Rattle.build_script.specs.LineWords.{with_move, with_bytes}
use Rattle.build_script.specs.Moves.{move_of}

-- the next byte is refused
pub byte_refused : (rest : List ℕ) (given : LineWords) (whole : Result LineWords PlanFault) → 1 ≤ length rest → with_bytes rest given ≡ whole
    → (fault : PlanFault) → Refuses fault (with_move (move_of given.mode (get_or rest 0 0)) (get_or rest 0 0) given) → (result : Result LineWords PlanFault)
    → IsErr result × IsErrAnd result (λ other. other ≡ fault) → Finds result whole
byte_refused [] given whole some begins fault refuses result failed = absurd (omega (arith, some))
byte_refused (byte ∷ others) given whole some begins fault refuses result failed =
    refused_whole (with_move (move_of given.mode byte) byte given) (λ more. with_bytes others more) whole begins fault refuses result failed
