-- What a cut of a text at its last stop byte is.
use Rattle.std.proofs.Common.{◌≡◌, ◌≢◌, ℕ, ◌+◌, ◌<◌, ◌≤◌, List, [], ◌∷◌, ◌++◌, length, get_or, take, drop, Some, None, All, sym, refl, ap, ◌∙◌, subst, arith, length-drop, take-append-drop}
use Rattle.std.proofs.lemmas.Bool.{eq-eqb, ne_eqb}
use Rattle.std.proofs.lemmas.List.{drop_more, get_or-drop}
use Rattle.std.proofs.lemmas.List.Elements.{All-head, All-tail, All-from_get_or}
use Rattle.gg_cli.specs.WorkerWords.{split_at_last}

-- the byte is no stop
abbrev IsNot : ℕ → ℕ → Type 0
IsNot stop byte = byte ≢ stop

last_missed : (stop : ℕ) (text : List ℕ) → All (IsNot stop) text → split_at_last stop text ≡ None
unfolding split_at_last
last_missed stop [] none = refl
last_missed stop (byte ∷ text) none = rw (last_missed stop text (All-tail (IsNot stop) byte text none), ne_eqb byte stop (All-head (IsNot stop) byte text none)) refl

last_found : (stop : ℕ) (front behind : List ℕ) → All (IsNot stop) behind → split_at_last stop (front ++ stop ∷ behind) ≡ Some (front, behind)
unfolding split_at_last
last_found stop [] behind none = rw (last_missed stop behind none, eq-eqb stop stop refl) refl
last_found stop (byte ∷ front) behind none = rw (last_found stop front behind none) refl

-- from a place on no byte is a stop
none_from : (stop : ℕ) (text : List ℕ) (i : ℕ) → ((k : ℕ) → i ≤ k → k < length text → get_or text k 0 ≢ stop) → All (IsNot stop) (drop i text)
none_from stop text i reads =
    All-from_get_or (IsNot stop) (drop i text) 0 (λ k inside. subst (IsNot stop) (sym (get_or-drop i text k 0)) (reads (i + k) (omega arith) (omega (arith, length-drop i text))))

-- the cut at the last stop byte
pub split_last : (stop : ℕ) (text : List ℕ) (i : ℕ) → i < length text → get_or text i 0 ≡ stop → ((k : ℕ) → i + 1 ≤ k → k < length text → get_or text k 0 ≢ stop)
    → split_at_last stop text ≡ Some (take i text, drop (i + 1) text)
split_last stop text i inside here after =
    ap (split_at_last stop) (sym (take-append-drop i text) ∙ ap (λ l. take i text ++ l) (drop_more text i 0 inside ∙ ap (λ b. b ∷ drop (i + 1) text) here))
    ∙ last_found stop (take i text) (drop (i + 1) text) (none_from stop text (i + 1) after)

-- no byte is a stop
pub split_none : (stop : ℕ) (text : List ℕ) → All (IsNot stop) text → split_at_last stop text ≡ None
split_none = last_missed
