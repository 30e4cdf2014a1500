-- What is read from the prefix of a text stands there, and what stands there is read.
use Rattle.std.proofs.Common.{◌≡◌, ℕ, ◌^◌, ◌<◌, ◌≤◌, true, not, leb, List, [], ◌∷◌, ◌++◌, length, take, drop, length-append, append_assoc, Option, Some, refl, sym, ap, subst, ◌∙◌, arith}
use Rattle.std.specs.Prelude.{decimal, ◌==◌}
use Rattle.std.proofs.lemmas.Bool.{and_from, leb-true, le-leb}
use Rattle.std.proofs.lemmas.List.{take_at, drop_at, take-append-drop, length-take}
use Rattle.std.proofs.lemmas.List.Folds.{list_all-append}
use Rattle.std.proofs.lemmas.Option.{same_Some}
use Rattle.object_name.specs.Number.{number_of}
use Rattle.object_name.specs.Name.{spelling}
use Rattle.object_name.proofs.PublicLaws.{number_of-decimal, decimal-number_of, decimal_digit_at}
use Rattle.object_name.proofs.PublicLaws.{spelling_without_feed}
use Rattle.thunk_codec.specs.declared.reference.Ref.{Ref}
use Rattle.thunk_codec.specs.declared.reference.Ref.TheVariants.{Value, Out}
use Rattle.text_lines.specs.Maybe.{◌>>=◌, ◌>>◌, bind_some, test_some}
use Rattle.thunk_codec.specs.Reference.{IsRef, ref_text, ref_of}
use Rattle.thunk_codec.specs.Thunk.{counted}
use Rattle.text_lines.specs.Cuts.{strip_prefix, has_no, split_at_byte}
use Rattle.text_lines.proofs.PublicLaws.{has_no_from, strip_prefix_takes, split_takes, split_again}
use Rattle.thunk_codec.specs.Reading.{counted_at, ref_at, bytes_at, env_at, input_line_at}
use Rattle.thunk_codec.proofs.References.{ref_spelled, ref_again}

-- ---- bytes after their number

pub counted_takes : (bytes : List ℕ) (x : List ℕ × List ℕ) → counted_at bytes ≡ Some x → bytes ≡ counted x.0 ++ x.1
unfolding counted_at
counted_takes bytes x e =
    let a = bind_some (split_at_byte 58 bytes) (λ len. number_of len.0 >>= λ n. leb n (length len.1) >> Some (take n len.1, drop n len.1)) x e in
    let b = bind_some (number_of a.0.0) (λ n. leb n (length a.0.1) >> Some (take n a.0.1, drop n a.0.1)) x a.2 in
    let c = test_some (leb b.0 (length a.0.1)) (Some (take b.0 a.0.1, drop b.0 a.0.1)) x b.2 in
    let split = split_takes 58 bytes a.0 a.1 in
    let len : length (take b.0 a.0.1) ≡ b.0 = omega (arith, length-take b.0 a.0.1, leb-true _ _ c.0) in
    let prefix : a.0.0 ≡ decimal (length (take b.0 a.0.1)) = (decimal-number_of a.0.0 b.0 b.1).1 ∙ ap decimal (sym len) in
    let whole : bytes ≡ counted (take b.0 a.0.1) ++ drop b.0 a.0.1 =
    split.0 ∙ ap (λ (v : List ℕ). v ++ 58 ∷ a.0.1) prefix ∙ ap (λ (v : List ℕ). decimal (length (take b.0 a.0.1)) ++ 58 ∷ v) (sym (take-append-drop b.0 a.0.1))
    ∙ sym (append_assoc (decimal (length (take b.0 a.0.1))) (58 ∷ take b.0 a.0.1) (drop b.0 a.0.1)) in
    subst (λ (v : List ℕ × List ℕ). bytes ≡ counted v.0 ++ v.1) (same_Some _ x c.1) whole

decimal_without : (n stop : ℕ) → n < 2 ^ 64 → (48 ≤ stop → stop ≤ 57 → ⊥) → has_no stop (decimal n) ≡ true
decimal_without n stop fits other = has_no_from stop (decimal n) (λ i lt e. let digit = decimal_digit_at n i fits lt in other (rw e at digit.0) (rw e at digit.1))

pub counted_again : (text rest : List ℕ) → length text < 2 ^ 64 → counted_at (counted text ++ rest) ≡ Some (text, rest)
unfolding counted_at
counted_again text rest fits =
    let regrouped : counted text ++ rest ≡ decimal (length text) ++ 58 ∷ (text ++ rest) = append_assoc (decimal (length text)) (58 ∷ text) rest in
    let none : has_no 58 (decimal (length text)) ≡ true = decimal_without (length text) 58 fits (λ low high. omega (arith, high)) in
    let long : leb (length text) (length (text ++ rest)) ≡ true = le-leb _ _ (omega (arith, length-append text rest)) in
    ap counted_at regrouped ∙ rw (split_again 58 (decimal (length text)) (text ++ rest) none, number_of-decimal (length text) fits, long, take_at text rest (length text) refl, drop_at text rest (length text) refl) refl

-- ---- REFs

ref_without_feed : (r : Ref) → IsRef r → has_no 10 (ref_text r) ≡ true
ref_without_feed (Value name) h = spelling_without_feed name
ref_without_feed (Out name index) h =
    list_all-append (λ byte. not (byte == 10)) (spelling name) (35 ∷ decimal index)
    ∙ and_from _ _ (spelling_without_feed name) (decimal_without index 10 (omega (arith, h.2)) (λ low high. omega (arith, low)))

pub ref_takes : (bytes : List ℕ) (x : Ref × List ℕ) → ref_at bytes ≡ Some x → (bytes ≡ ref_text x.0 ++ 10 ∷ x.1) × IsRef x.0
unfolding ref_at
ref_takes bytes x e =
    let a = bind_some (split_at_byte 10 bytes) (λ text. ref_of text.0 >>= λ ref. Some (ref, text.1)) x e in
    let b = bind_some (ref_of a.0.0) (λ ref. Some (ref, a.0.1)) x a.2 in
    let split = split_takes 10 bytes a.0 a.1 in
    let spelled = ref_spelled a.0.0 b.0 b.1 in
    subst (λ (v : Ref × List ℕ). (bytes ≡ ref_text v.0 ++ 10 ∷ v.1) × IsRef v.0) (same_Some _ x b.2) (split.0 ∙ ap (λ (v : List ℕ). v ++ 10 ∷ a.0.1) spelled.1, spelled.0)

pub ref_at-again : (r : Ref) (rest : List ℕ) → IsRef r → ref_at (ref_text r ++ 10 ∷ rest) ≡ Some (r, rest)
unfolding ref_at
ref_at-again r rest h = rw (split_again 10 (ref_text r) rest (ref_without_feed r h), ref_again r h) refl

-- ---- what the lines say

-- a reader of what a line says up to its line feed, and what is so written
pub record IsReader {A : Type 0} (said_at : List ℕ → Option (A × List ℕ)) (said : A → List ℕ) (P Q : A → Type 0) : Type 0 where
  pub takes : (bytes : List ℕ) (x : A × List ℕ) → said_at bytes ≡ Some x → (bytes ≡ said x.0 ++ 10 ∷ x.1) × P x.0
  pub again : (x : A) (rest : List ℕ) → Q x → said_at (said x ++ 10 ∷ rest) ≡ Some (x, rest)

-- short enough for a number
abbrev pub IsShort : List ℕ → Type 0
IsShort text = length text < 2 ^ 64

bytes_take : (bytes : List ℕ) (x : List ℕ × List ℕ) → bytes_at bytes ≡ Some x → bytes ≡ counted x.0 ++ 10 ∷ x.1
unfolding bytes_at
bytes_take bytes x e =
    let a = bind_some (counted_at bytes) (λ said. strip_prefix (10 ∷ []) said.1 >>= λ rest. Some (said.0, rest)) x e in
    let b = bind_some (strip_prefix (10 ∷ []) a.0.1) (λ rest. Some (a.0.0, rest)) x a.2 in
    let first = counted_takes bytes a.0 a.1 in
    let second = strip_prefix_takes (10 ∷ []) a.0.1 b.0 b.1 in
    subst (λ (v : List ℕ × List ℕ). bytes ≡ counted v.0 ++ 10 ∷ v.1) (same_Some _ x b.2) (first ∙ ap (λ (v : List ℕ). counted a.0.0 ++ v) second)

bytes_again : (text rest : List ℕ) → IsShort text → bytes_at (counted text ++ 10 ∷ rest) ≡ Some (text, rest)
unfolding bytes_at
bytes_again text rest fits = rw (counted_again text (10 ∷ rest) fits) refl

pub bytes_reader : IsReader bytes_at counted (λ _. Unit {0}) IsShort
bytes_reader = record { takes = λ bytes x e. (bytes_take bytes x e, tt); again = bytes_again }

-- what an `e` line says
abbrev pub env_said : List ℕ × List ℕ → List ℕ
env_said env = counted (env.0 ++ 61 ∷ env.1)

env_take : (bytes : List ℕ) (x : (List ℕ × List ℕ) × List ℕ) → env_at bytes ≡ Some x → bytes ≡ env_said x.0 ++ 10 ∷ x.1
unfolding env_at
env_take bytes x e =
    let a = bind_some (bytes_at bytes) (λ said. split_at_byte 61 said.0 >>= λ env. Some (env, said.1)) x e in
    let b = bind_some (split_at_byte 61 a.0.0) (λ env. Some (env, a.0.1)) x a.2 in
    let first = bytes_take bytes a.0 a.1 in
    let split = split_takes 61 a.0.0 b.0 b.1 in
    subst (λ (v : (List ℕ × List ℕ) × List ℕ). bytes ≡ env_said v.0 ++ 10 ∷ v.1) (same_Some _ x b.2) (first ∙ ap (λ (v : List ℕ). counted v ++ 10 ∷ a.0.1) split.0)

-- a key without `=`, and a pair short enough for a number
abbrev pub IsPair : List ℕ × List ℕ → Type 0
IsPair env = (has_no 61 env.0 ≡ true) × IsShort (env.0 ++ 61 ∷ env.1)

env_again : (env : List ℕ × List ℕ) (rest : List ℕ) → IsPair env → env_at (env_said env ++ 10 ∷ rest) ≡ Some (env, rest)
unfolding env_at
env_again env rest h = rw (bytes_again (env.0 ++ 61 ∷ env.1) rest h.1, split_again 61 env.0 env.1 h.0) refl

pub env_reader : IsReader env_at env_said (λ _. Unit {0}) IsPair
env_reader = record { takes = λ bytes x e. (env_take bytes x e, tt); again = env_again }

-- what an `i` line says
abbrev pub input_said : List ℕ × Ref → List ℕ
input_said input = counted input.0 ++ 32 ∷ ref_text input.1

input_take : (bytes : List ℕ) (x : (List ℕ × Ref) × List ℕ) → input_line_at bytes ≡ Some x → (bytes ≡ input_said x.0 ++ 10 ∷ x.1) × IsRef x.0.1
unfolding input_line_at
input_take bytes x e =
    let a = bind_some (counted_at bytes) (λ path. strip_prefix (32 ∷ []) path.1 >>= λ text. ref_at text >>= λ ref. Some ((path.0, ref.0), ref.1)) x e in
    let b = bind_some (strip_prefix (32 ∷ []) a.0.1) (λ text. ref_at text >>= λ ref. Some ((a.0.0, ref.0), ref.1)) x a.2 in
    let d = bind_some (ref_at b.0) (λ ref. Some ((a.0.0, ref.0), ref.1)) x b.2 in
    let first = counted_takes bytes a.0 a.1 in
    let second = strip_prefix_takes (32 ∷ []) a.0.1 b.0 b.1 in
    let third = ref_takes b.0 d.0 d.1 in
    let whole : bytes ≡ input_said (a.0.0, d.0.0) ++ 10 ∷ d.0.1 =
    first ∙ ap (λ (v : List ℕ). counted a.0.0 ++ v) second ∙ ap (λ (v : List ℕ). counted a.0.0 ++ 32 ∷ v) third.0
    ∙ sym (append_assoc (counted a.0.0) (32 ∷ ref_text d.0.0) (10 ∷ d.0.1)) in
    subst (λ (v : (List ℕ × Ref) × List ℕ). (bytes ≡ input_said v.0 ++ 10 ∷ v.1) × IsRef v.0.1) (same_Some _ x d.2) (whole, third.1)

-- a path short enough for a number, and a REF
abbrev pub IsInput : List ℕ × Ref → Type 0
IsInput input = IsShort input.0 × IsRef input.1

input_again : (input : List ℕ × Ref) (rest : List ℕ) → IsInput input → input_line_at (input_said input ++ 10 ∷ rest) ≡ Some (input, rest)
unfolding input_line_at
input_again input rest h =
    let regrouped : input_said input ++ 10 ∷ rest ≡ counted input.0 ++ 32 ∷ (ref_text input.1 ++ 10 ∷ rest) = append_assoc (counted input.0) (32 ∷ ref_text input.1) (10 ∷ rest) in
    ap input_line_at regrouped ∙ rw (counted_again input.0 (32 ∷ (ref_text input.1 ++ 10 ∷ rest)) h.0, ref_at-again input.1 rest h.1) refl

pub input_reader : IsReader input_line_at input_said (λ input. IsRef input.1) IsInput
input_reader = record { takes = input_take; again = input_again }
