-- A refusal of one operand is that of all.
use Rattle.std.proofs.Common.{◌≡◌, ℕ, ◌≤◌, List, [], ◌∷◌, ◌++◌, length, get_or, Result, IsErr, IsErrAnd, ap, ◌∙◌, arith}
use Rattle.file_tree.proofs.PublicLaws.{refused_whole}
use Rattle.file_tree.specs.Planning.{◌>>=◌, place_after, Refuses, Finds}
use Rattle.file_tree.specs.declared.model_fault.PlanFault.{PlanFault}
use Rattle.model_binutils.specs.declared.operand.Operand.{Operand}
use Rattle.model_binutils.specs.Words.{operand_at, operands_after}

-- the next operand is refused
pub operand_refused : (wanted : Operand) (paths : List (List ℕ)) (at : ℕ) (rest : List (List ℕ)) (word : List ℕ) (whole : Result (List (List ℕ)) PlanFault)
    → 1 ≤ length rest → word ≡ get_or rest 0 word → operands_after wanted paths at rest ≡ whole
    → (fault : PlanFault) → Refuses fault (operand_at wanted at word) → (result : Result (List (List ℕ)) PlanFault) → IsErr result × IsErrAnd result (λ other. other ≡ fault)
    → Finds result whole
operand_refused wanted paths at [] word whole some is begins fault refuses result failed = absurd (omega (arith, some))
operand_refused wanted paths at (first ∷ others) word whole some is begins fault refuses result failed =
    refused_whole (operand_at wanted at word) (λ path. operands_after wanted (paths ++ path ∷ []) (place_after at) others) whole
    (ap (λ (w : List ℕ). operand_at wanted at w >>= λ path. operands_after wanted (paths ++ path ∷ []) (place_after at) others) is ∙ begins) fault refuses result failed
