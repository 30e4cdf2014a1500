-- The first component of a path ends at its first slash.
use Rattle.std.proofs.Common.{◌≡◌, ℕ, ◌<◌, ◌≤◌, List, false, length, take, get_or, sym, ap, ◌∙◌, arith}
use Rattle.std.proofs.lemmas.List.{take_all}
use Rattle.std.proofs.lemmas.List.Sums.{position_or_len_is}
use Rattle.std.specs.List.{before_first}
use Rattle.thunk_codec.specs.Path.{is_slash}

-- no byte before this place is a slash
abbrev pub NoSlashBefore : List ℕ → ℕ → Type 0
NoSlashBefore text i = (k : ℕ) → k < i → is_slash (get_or text k 0) ≡ false

-- it ends at a slash that has none before it
pub ends_at_slash : (text : List ℕ) (i : ℕ) → i < length text → NoSlashBefore text i → get_or text i 0 ≡ 47 → take i text ≡ before_first is_slash text
ends_at_slash text i within before slash =
    ap (λ n. take n text) (sym (position_or_len_is is_slash text i 0 (omega (arith, within)) before (λ _. ap is_slash slash)))

-- it ends with the path, where that has no slash
pub ends_with_path : (text : List ℕ) (i : ℕ) → length text ≤ i → NoSlashBefore text i → text ≡ before_first is_slash text
ends_with_path text i past before =
    sym (take_all (length text) text (omega arith))
    ∙ ap (λ n. take n text) (sym (position_or_len_is is_slash text (length text) 0 (omega arith) (λ k below. before k (omega (arith, past, below))) (λ beyond. absurd (omega (arith, beyond)))))
