-- The refusal of the next word is that of all words.
use Rattle.std.proofs.Common.{◌≡◌, ℕ, ◌≤◌, List, [], ◌∷◌, length, get_or, IsErr, IsErrAnd, ap, ◌∙◌, arith}
use Rattle.file_tree.specs.Planning.{◌>>=◌}
use Rattle.file_tree.specs.declared.model_fault.PlanFault.{PlanFault}
use Rattle.model_gcc.specs.declared.slots.Slots.{Slots}
use Rattle.file_tree.specs.Planning.{Refuses, Finds}
use Rattle.file_tree.proofs.PublicLaws.{refused_whole}
use Rattle.model_gcc.specs.Slots.{Reading, with_word, with_words}

-- the next word is refused
pub word_refused : (rest : List (List ℕ)) (word : List ℕ) (given : Slots) (whole : Reading) → 1 ≤ length rest → word ≡ get_or rest 0 word → with_words rest given ≡ whole
    → (fault : PlanFault) → Refuses fault (with_word word given) → (result : Reading) → IsErr result × IsErrAnd result (λ other. other ≡ fault) → Finds result whole
word_refused [] word given whole some is begins fault refuses result failed = absurd (omega (arith, some))
word_refused (first ∷ others) word given whole some is begins fault refuses result failed =
    refused_whole (with_word word given) (λ more. with_words others more) whole (ap (λ w. with_word w given >>= λ more. with_words others more) is ∙ begins) fault refuses result failed
