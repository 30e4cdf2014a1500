-- Reading lines of a letter one after another, as a loop does.
use Rattle.std.proofs.Common.{◌≡◌, ℕ, zero, suc, ◌<◌, ◌≤◌, true, false, List, [], ◌∷◌, ◌++◌, length, drop, length-append, Option, Some, None, refl, sym, ap, subst, ◌∙◌, arith}
use Rattle.std.proofs.lemmas.List.{append-nil}
use Rattle.thunk_codec.specs.declared.decoding.DecodeFault.{DecodeFault}
use Rattle.thunk_codec.specs.declared.decoding.DecodeFault.TheVariants.{BadThunk, Memory}
use Rattle.thunk_codec.specs.Gives.{Refuses}
use Rattle.text_lines.specs.Maybe.{◌>>=◌}
use Rattle.text_lines.proofs.PublicLaws.{with_prefix, with_prefix-more}
use Rattle.thunk_codec.specs.Reading.{lines_at, all_lines_at}
use Rattle.thunk_codec.proofs.Fields.{IsReader}
use Rattle.thunk_codec.proofs.Texts.{begins, begins_with}

-- some lines are read, and the rest of the bytes gives what is left
pub record Going {A : Type 0} (letter : ℕ) (said_at : List ℕ → Option (A × List ℕ)) (bytes : List ℕ) (prefix : List A) (rest : List ℕ) : Type 0 where
  pub most : ℕ
  pub room : length rest ≤ most
  pub goes_on : with_prefix prefix (lines_at letter said_at most rest) ≡ all_lines_at letter said_at bytes

-- a line takes a byte at least
line_is_longer : {A : Type 0} {said_at : List ℕ → Option (A × List ℕ)} {said : A → List ℕ} {P Q : A → Type 0} (reader : IsReader said_at said P Q) (letter : ℕ) (rest : List ℕ) (x : A) (after : List ℕ)
    → begins letter rest ≡ true → said_at (drop 2 rest) ≡ Some (x, after) → length after < length rest
line_is_longer {A} {said_at} {said} reader letter rest x after begun read =
    let whole = ap length (begins_with letter rest begun) in
    let line = ap length (reader.takes (drop 2 rest) (x, after) read).0 in
    omega (arith, whole, line, length-append (said x) (10 ∷ after))

one_line : {A : Type 0} (letter : ℕ) (said_at : List ℕ → Option (A × List ℕ)) (most : ℕ) (rest : List ℕ) (x : A) (after : List ℕ) → begins letter rest ≡ true → said_at (drop 2 rest) ≡ Some (x, after)
    → lines_at letter said_at (suc most) rest ≡ (lines_at letter said_at most after >>= λ others. Some (x ∷ others.0, others.1))
unfolding lines_at
one_line letter said_at most rest x after begun read = rw (begun, read) refl

more_by : {A : Type 0} (letter : ℕ) (said_at : List ℕ → Option (A × List ℕ)) (bytes : List ℕ) (prefix : List A) (rest : List ℕ) (x : A) (after : List ℕ) (most : ℕ)
    → length rest ≤ most → with_prefix prefix (lines_at letter said_at most rest) ≡ all_lines_at letter said_at bytes
    → begins letter rest ≡ true → said_at (drop 2 rest) ≡ Some (x, after) → length after < length rest → Going letter said_at bytes (prefix ++ x ∷ []) after
more_by letter said_at bytes prefix rest x after zero room goes_on begun read shorter = absurd (omega (arith, room, shorter))
more_by letter said_at bytes prefix rest x after (suc most) room goes_on begun read shorter = record {
  most = most;
  room = omega (arith, room, shorter);
  goes_on = sym (ap (with_prefix prefix) (one_line letter said_at most rest x after begun read) ∙ with_prefix-more prefix x (lines_at letter said_at most after)) ∙ goes_on;
}

pub going_more : {A : Type 0} {said_at : List ℕ → Option (A × List ℕ)} {said : A → List ℕ} {P Q : A → Type 0} (reader : IsReader said_at said P Q) (letter : ℕ) (bytes : List ℕ) (prefix : List A) (rest : List ℕ) (x : A) (after : List ℕ)
    → Going letter said_at bytes prefix rest → begins letter rest ≡ true → said_at (drop 2 rest) ≡ Some (x, after) → Going letter said_at bytes (prefix ++ x ∷ []) after
going_more {A} {said_at} reader letter bytes prefix rest x after going begun read =
    more_by letter said_at bytes prefix rest x after going.most going.room going.goes_on begun read (line_is_longer reader letter rest x after begun read)

fails_by : {A : Type 0} (letter : ℕ) (said_at : List ℕ → Option (A × List ℕ)) (prefix : List A) (rest : List ℕ) (most : ℕ)
    → length rest ≤ most → begins letter rest ≡ true → said_at (drop 2 rest) ≡ None → with_prefix prefix (lines_at letter said_at most rest) ≡ None
unfolding lines_at
fails_by letter said_at prefix rest zero room begun read = absurd (omega (arith, room, ap length (begins_with letter rest begun)))
fails_by letter said_at prefix rest (suc most) room begun read = rw (begun, read) refl

pub going_fails : {A : Type 0} (letter : ℕ) (said_at : List ℕ → Option (A × List ℕ)) (bytes : List ℕ) (prefix : List A) (rest : List ℕ)
    → Going letter said_at bytes prefix rest → begins letter rest ≡ true → said_at (drop 2 rest) ≡ None → all_lines_at letter said_at bytes ≡ None
going_fails letter said_at bytes prefix rest going begun read = sym going.goes_on ∙ fails_by letter said_at prefix rest going.most going.room begun read

ends_by : {A : Type 0} (letter : ℕ) (said_at : List ℕ → Option (A × List ℕ)) (rest : List ℕ) (most : ℕ) → begins letter rest ≡ false → lines_at letter said_at most rest ≡ Some ([], rest)
unfolding lines_at
ends_by letter said_at rest zero done = refl
ends_by letter said_at rest (suc most) done = rw done refl

pub going_ends : {A : Type 0} (letter : ℕ) (said_at : List ℕ → Option (A × List ℕ)) (bytes : List ℕ) (prefix : List A) (rest : List ℕ)
    → Going letter said_at bytes prefix rest → begins letter rest ≡ false → all_lines_at letter said_at bytes ≡ Some (prefix, rest)
going_ends letter said_at bytes prefix rest going done =
    sym going.goes_on ∙ ap (with_prefix prefix) (ends_by letter said_at rest going.most done) ∙ ap (λ (v : List _). Some (v, rest)) (append-nil prefix)

-- ---- the same, as the code has it

-- the rest of a line that begins with the letter
abbrev pub LineOf : ℕ → List ℕ → List ℕ → Type 0
LineOf letter rest said = (begins letter rest ≡ true) × (said ≡ drop 2 rest)

pub lines_go_on : {A : Type 0} {said_at : List ℕ → Option (A × List ℕ)} {said : A → List ℕ} {P Q : A → Type 0} (reader : IsReader said_at said P Q) (letter : ℕ) (bytes rest text after : List ℕ) (prefix new : List A) (x : A)
    → Going letter said_at bytes prefix rest → LineOf letter rest text → said_at text ≡ Some (x, after) → new ≡ prefix ++ x ∷ [] → Going letter said_at bytes new after
lines_go_on {A} {said_at} reader letter bytes rest text after prefix new x going line read pushed =
    subst (λ (v : List A). Going letter said_at bytes v after) (sym pushed) (going_more reader letter bytes prefix rest x after going line.0 (ap said_at (sym line.1) ∙ read))

pub lines_shorten : {A : Type 0} {said_at : List ℕ → Option (A × List ℕ)} {said : A → List ℕ} {P Q : A → Type 0} (reader : IsReader said_at said P Q) (letter : ℕ) (rest text after : List ℕ) (x : A)
    → LineOf letter rest text → said_at text ≡ Some (x, after) → length after < length rest
lines_shorten {A} {said_at} reader letter rest text after x line read = line_is_longer reader letter rest x after line.0 (ap said_at (sym line.1) ∙ read)

pub lines_refused : {A : Type 0} (fault : DecodeFault) (letter : ℕ) (said_at : List ℕ → Option (A × List ℕ)) (bytes rest text : List ℕ) (prefix : List A)
    → Going letter said_at bytes prefix rest → LineOf letter rest text → Refuses fault (said_at text) → Refuses fault (all_lines_at letter said_at bytes)
lines_refused BadThunk letter said_at bytes rest text prefix going line refused = going_fails letter said_at bytes prefix rest going line.0 (ap said_at (sym line.1) ∙ refused)
lines_refused Memory letter said_at bytes rest text prefix going line refused = tt
