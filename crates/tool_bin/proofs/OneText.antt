-- An object that was read has the text that it was read from.
use Rattle.std.proofs.Common.{◌≡◌, ℕ, Bool, true, false, List, [], ◌∷◌, ◌++◌, length, take, append_assoc, nat_eq, codes, Option, Some, None, ◌&&◌, if◌then◌else◌, bytes_eq, refl, sym, ap, ◌∙◌}
use Rattle.std.proofs.lemmas.Bool.{and_parts, and_from, both_ways}
use Rattle.std.proofs.lemmas.Option.{cond_some}
use Rattle.std.proofs.lemmas.Slice.Eq.{bytes_eq-Decides}
use Rattle.text_lines.specs.Lines.{lines_of}
use Rattle.tool_bin.specs.declared.object.Object.{Object}
use Rattle.tool_bin.specs.ObjectBuilder.{empty_builder, object_in}
use Rattle.tool_bin.specs.Object.{line, symbol_text, debug_text, object_text, is_well_formed}
use Rattle.std.specs.List.{flat_map, starts_with}
use Rattle.std.specs.Cmp.Lexicographic.{pointwise}
use Rattle.tool_bin.specs.ObjectReading.{object_of, with_read_lines}

-- what the lines of some bytes say
abbrev pub gathered : List ℕ → Object
gathered bytes = object_in (with_read_lines (lines_of bytes) empty_builder)

pub record WasRead (head bytes : List ℕ) (object : Object) : Type 0 where
  pub same : gathered bytes ≡ object
  pub rules : is_well_formed object ≡ true
  pub text : object_text head object ≡ bytes

pub was_read : (head bytes : List ℕ) (object : Object) → object_of head bytes ≡ Some object → WasRead head bytes object
unfolding object_of
was_read head bytes object e =
    let made = cond_some (is_well_formed (gathered bytes) && bytes_eq (object_text head (gathered bytes)) bytes) (gathered bytes) object e in
    let parts = and_parts (is_well_formed (gathered bytes)) (bytes_eq (object_text head (gathered bytes)) bytes) made.0 in
    record {
      same = made.1;
      rules = sym (ap is_well_formed made.1) ∙ parts.0;
      text = sym (ap (object_text head) made.1) ∙ (bytes_eq-Decides (object_text head (gathered bytes)) bytes).0 parts.1;
    }

pub is_text : (head bytes : List ℕ) (object : Object) → object_of head bytes ≡ Some object → bytes ≡ object_text head object
is_text head bytes object e = sym (was_read head bytes object e).text

if_true : {A : Type 0} (test : Bool) (x : A) → test ≡ true → ◌≡◌ {A = Option A} (if test then Some x else None) (Some x)
if_true test x e = rw e refl

-- an object is read from its text, where its lines say it
pub reads : (head : List ℕ) (object : Object) → gathered (object_text head object) ≡ object → is_well_formed object ≡ true → object_of head (object_text head object) ≡ Some object
unfolding object_of
reads head object same rules =
    let text = object_text head object in
    if_true (is_well_formed (gathered text) && bytes_eq (object_text head (gathered text)) text) (gathered text)
    (and_from (is_well_formed (gathered text)) (bytes_eq (object_text head (gathered text)) text) (ap is_well_formed same ∙ rules)
    ((bytes_eq-Decides (object_text head (gathered text)) text).1 (ap (object_text head) same))) ∙ ap Some same

-- ---- texts that begin with another line

taken_prefix : (prefix rest : List ℕ) → take (length prefix) (prefix ++ rest) ≡ prefix
taken_prefix [] rest = refl
taken_prefix (byte ∷ prefix) rest = ap (λ (v : List ℕ). byte ∷ v) (taken_prefix prefix rest)

begins : (prefix rest : List ℕ) → starts_with nat_eq (prefix ++ rest) prefix ≡ true
begins prefix rest = ap (pointwise nat_eq prefix) (taken_prefix prefix rest) ∙ (bytes_eq-Decides prefix prefix).1 refl

text_begins : (head : List ℕ) (object : Object) → starts_with nat_eq (object_text head object) head ≡ true
unfolding object_text
text_begins head object =
    let rest = flat_map symbol_text object.symbols ++ (flat_map debug_text object.debug ++ line (codes "end")) in
    ap (λ (v : List ℕ). starts_with nat_eq v head) (append_assoc head (10 ∷ []) rest) ∙ begins head (10 ∷ [] ++ rest)

none_else : (read : Option Object) → ((object : Object) → read ≡ Some object → ⊥) → ◌≡◌ {A = Option Object} None read
none_else None f = refl
none_else (Some object) f = absurd (f object refl)

pub not_headed : (head bytes : List ℕ) → starts_with nat_eq bytes head ≡ false → ◌≡◌ {A = Option Object} None (object_of head bytes)
not_headed head bytes other = none_else (object_of head bytes) (λ object e.
    both_ways (starts_with nat_eq bytes head) other (ap (λ (v : List ℕ). starts_with nat_eq v head) (is_text head bytes object e) ∙ text_begins head object))
