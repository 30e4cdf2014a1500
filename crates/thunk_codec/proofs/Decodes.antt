-- What decoding answers.
use Rattle.std.proofs.Common.{◌≡◌, ◌<◌, ◌≤◌, Bool, true, false, leb, List, ℕ, [], ◌++◌, length, Option, Some, None, Result, Ok, Err, refl, sym, ap, subst, ◌∙◌}
use Rattle.std.specs.Prelude.{IfOk, bytes_eq}
use Rattle.std.proofs.lemmas.Bool.{lt-leb, le-leb, false_from_ne_true}
use Rattle.std.proofs.lemmas.List.{append-nil}
use Rattle.std.proofs.lemmas.Option.{none-some}
use Rattle.std.proofs.lemmas.Slice.Eq.{bytes_eq-Decides}
use Rattle.object_name.specs.Name.{max_size}
use Rattle.thunk_codec.specs.declared.decoding.DecodeFault.{DecodeFault}
use Rattle.thunk_codec.specs.declared.decoding.DecodeFault.TheVariants.{BadThunk, Memory}
use Rattle.text_lines.specs.Maybe.{◌>>=◌, ◌>>◌}
use Rattle.thunk_codec.specs.Gives.{Gives, Refuses, only_if}
use Rattle.thunk_codec.specs.Raw.{HasRefs}
use Rattle.thunk_codec.specs.Thunk.{Parts, Text, text_of, keeps_rules}
use Rattle.thunk_codec.specs.Reading.{parts_at, thunk_of}
use Rattle.thunk_codec.proofs.Texts.{parts_take}
use Rattle.thunk_codec.proofs.Thunks.{thunk_of-text, text-thunk_of}

-- bytes over the limit are no thunk's text
pub too_long : (bytes : List ℕ) → max_size < length bytes → thunk_of bytes ≡ None
unfolding thunk_of
too_long bytes long =
    let test : leb (length bytes) max_size ≡ false = lt-leb _ _ long in
    rw test refl

no_thunk_by : (small : Bool) (read : Option (Parts × List ℕ)) → read ≡ None → (small >> (read >>= λ x. bytes_eq x.1 [] >> (keeps_rules x.0 >> Some x.0))) ≡ None
no_thunk_by true read e = rw e refl
no_thunk_by false read e = refl

-- nor are bytes that list no parts
pub no_parts : (fault : DecodeFault) (bytes : List ℕ) → Refuses fault (parts_at bytes) → Refuses fault (thunk_of bytes)
unfolding thunk_of
no_parts BadThunk bytes e = no_thunk_by (leb (length bytes) max_size) (parts_at bytes) e
no_parts Memory bytes e = tt

-- the steps after the parts, where the bytes aren't too long
after_parts : (bytes rest : List ℕ) (t : Parts) → length bytes ≤ max_size → parts_at bytes ≡ Some (t, rest) → thunk_of bytes ≡ (bytes_eq rest [] >> (keeps_rules t >> Some t))
unfolding thunk_of
after_parts bytes rest t small e =
    let test : leb (length bytes) max_size ≡ true = le-leb _ _ small in
    rw (test, e) refl

-- nor are bytes with more after the parts
pub more_left : (bytes rest : List ℕ) (t : Parts) → length bytes ≤ max_size → parts_at bytes ≡ Some (t, rest) → (rest ≡ [] → ⊥) → thunk_of bytes ≡ None
more_left bytes rest t small e some =
    let test : bytes_eq rest [] ≡ false = false_from_ne_true (bytes_eq rest []) (λ h. some ((bytes_eq-Decides rest []).0 h)) in
    after_parts bytes rest t small e ∙ rw test refl

-- otherwise the rules decide
pub rules_decide : (bytes rest : List ℕ) (t : Parts) → length bytes ≤ max_size → parts_at bytes ≡ Some (t, rest) → rest ≡ [] → thunk_of bytes ≡ only_if (keeps_rules t) t
rules_decide bytes rest t small e none =
    let test : bytes_eq rest [] ≡ true = (bytes_eq-Decides rest []).1 none in
    after_parts bytes rest t small e ∙ rw test refl

pub parts_refs : (bytes rest : List ℕ) (t : Parts) → parts_at bytes ≡ Some (t, rest) → HasRefs t
parts_refs bytes rest t e = (parts_take bytes (t, rest) e).1

pub parts_size : (bytes rest : List ℕ) (t : Parts) → length bytes ≤ max_size → parts_at bytes ≡ Some (t, rest) → rest ≡ [] → length (text_of t) ≤ max_size
parts_size bytes rest t small e none =
    let text : bytes ≡ text_of t = (parts_take bytes (t, rest) e).0 ∙ ap (λ (v : List ℕ). text_of t ++ v) none ∙ append-nil (text_of t) in
    subst (λ (v : List ℕ). length v ≤ max_size) text small

-- what decoding gives has the text
pub found_text : (bytes : List ℕ) (r : Result Parts DecodeFault) → Gives (λ t. t) r (thunk_of bytes) → IfOk r (λ t. Text bytes t)
found_text bytes (Ok t) e = thunk_of-text bytes t e
found_text bytes (Err fault) e = tt

-- a refusal for the bytes comes only where they are no thunk's text
pub bad_text : (bytes : List ℕ) (r : Result Parts DecodeFault) → Gives (λ t. t) r (thunk_of bytes) → r ≡ Err BadThunk → (t : Parts) → Text bytes t → ⊥
bad_text bytes r gives e t text =
    let none : thunk_of bytes ≡ None = subst (λ (v : Result Parts DecodeFault). Gives (λ x. x) v (thunk_of bytes)) e gives in
    none-some t (sym none ∙ text-thunk_of bytes t text)
