-- The longest prefix of a text whose bytes pass a test, by its length.
use Rattle.std.proofs.Common.{◌≡◌, ℕ, ◌<◌, ◌≤◌, Bool, true, false, List, length, drop, get_or, sym, ap, arith}
use Rattle.std.specs.List.{prefix_len}
use Rattle.std.proofs.lemmas.List.Sums.{prefix_len_is, prefix_len-le-length}
use Rattle.std.proofs.lemmas.List.Folds.{length-prefix_len}
use Rattle.tool_text.specs.Directive.{after_while}

-- each byte below an index passes a test
abbrev pub PassBelow : (ℕ → Bool) → List ℕ → ℕ → Type 0
PassBelow test text i = (k : ℕ) → k < i → test (get_or text k 0) ≡ true

pub run_stops : (test : ℕ → Bool) (text : List ℕ) (i : ℕ) → i < length text → test (get_or text i 0) ≡ false → PassBelow test text i → i ≡ prefix_len test text
run_stops test text i below stop pass = sym (prefix_len_is test text i 0 (omega arith) pass (λ _. stop))

pub run_is_all : (test : ℕ → Bool) (text : List ℕ) → PassBelow test text (length text) → length text ≡ prefix_len test text
run_is_all test text pass = sym (prefix_len_is test text (length text) 0 (omega arith) pass (λ below. absurd (omega (arith, below))))

pub run_fits : (test : ℕ → Bool) (text : List ℕ) → prefix_len test text ≤ length text
run_fits test text = prefix_len-le-length test text

pub rest_after : (test : ℕ → Bool) (text : List ℕ) → drop (prefix_len test text) text ≡ after_while test text
rest_after test text = ap (λ (n : ℕ). drop n text) (sym (length-prefix_len test text))
