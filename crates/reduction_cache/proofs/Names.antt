-- Names in lines are read as they are written.
use Rattle.std.proofs.Common.{◌≡◌, ℕ, zero, suc, ◌+◌, ◌-◌, ◌<◌, ◌≤◌, Bool, true, false, List, [], ◌∷◌, ◌++◌, length, get_or, take, drop, append_assoc, Option, Some, None, refl, sym, ap, subst, ◌∙◌, arith, inl, inr}
use Rattle.std.specs.Prelude.{nat_eq}
use Rattle.std.specs.List.{starts_with, flat_map, AllByRecursion}
use Rattle.std.proofs.lemmas.Bool.{cases_Bool}
use Rattle.std.proofs.lemmas.List.{append-nil, length-take, take_at, drop_at, take-append-drop}
use Rattle.std.proofs.lemmas.List.Concat.{flat_map-cons}
use Rattle.std.proofs.lemmas.Option.{same_Some}
use Rattle.object_name.specs.declared.kind.Kind.{Kind}
use Rattle.object_name.specs.declared.kind.Kind.TheVariants.{Value, Thunk}
use Rattle.object_name.specs.Kind.{letter_of_kind}
use Rattle.object_name.specs.Name.{ObjectName, IsName, spelling, named_by}
use Rattle.object_name.proofs.PublicLaws.{HasParts-spelling, length-spelling, named_by-spelling, spelling-named_by}
use Rattle.text_lines.specs.Maybe.{◌>>=◌, bind_some}
use Rattle.text_lines.specs.Cuts.{strip_prefix}
use Rattle.text_lines.proofs.PublicLaws.{strip_prefix_takes}
use Rattle.reduction_cache.specs.Note.{name_line, note_end}
use Rattle.reduction_cache.specs.Reading.{name_at, names_at}

-- ---- one name

pub name_takes : (bytes : List ℕ) (x : ObjectName × List ℕ) → name_at bytes ≡ Some x → (bytes ≡ name_line x.0 ++ x.1) × IsName x.0
unfolding name_at
name_takes bytes x e =
    let a = bind_some (named_by (take 52 bytes)) (λ name. strip_prefix (10 ∷ []) (drop 52 bytes) >>= λ rest. Some (name, rest)) x e in
    let b = bind_some (strip_prefix (10 ∷ []) (drop 52 bytes)) (λ rest. Some (a.0, rest)) x a.2 in
    let named = spelling-named_by (take 52 bytes) a.0 a.1 in
    let feed = strip_prefix_takes (10 ∷ []) (drop 52 bytes) b.0 b.1 in
    let whole : bytes ≡ name_line a.0 ++ b.0 =
    sym (take-append-drop 52 bytes)
    ∙ ap (λ (v : List ℕ). v ++ drop 52 bytes) named.1
    ∙ ap (λ (v : List ℕ). spelling a.0 ++ v) feed
    ∙ sym (append_assoc (spelling a.0) (10 ∷ []) b.0) in
    subst (λ (v : ObjectName × List ℕ). (bytes ≡ name_line v.0 ++ v.1) × IsName v.0) (same_Some _ x b.2) (whole, named.0)

pub name_again : (name : ObjectName) (rest : List ℕ) → IsName name → name_at (name_line name ++ rest) ≡ Some (name, rest)
unfolding name_at
name_again name rest h =
    let len = length-spelling name h in
    let prefix : take 52 (spelling name ++ 10 ∷ rest) ≡ spelling name = take_at (spelling name) (10 ∷ rest) 52 len in
    let back : drop 52 (spelling name ++ 10 ∷ rest) ≡ 10 ∷ rest = drop_at (spelling name) (10 ∷ rest) 52 len in
    ap name_at (append_assoc (spelling name) (10 ∷ []) rest) ∙ rw (prefix, back, named_by-spelling name h) refl

-- ---- names up to the last line

-- the text begins with the last line
abbrev pub ends : List ℕ → Bool
ends bytes = starts_with nat_eq bytes note_end

-- what is read is written so
pub record AreNames (most : ℕ) (bytes : List ℕ) (x : List ObjectName × List ℕ) : Type 0 where
  pub text : bytes ≡ flat_map name_line x.0 ++ x.1
  pub names : AllByRecursion IsName x.0
  pub few : length x.0 ≤ most

no_names : (most : ℕ) (bytes : List ℕ) → AreNames most bytes ([], bytes)
no_names most bytes = record { text = refl; names = tt; few = omega arith }

pub names_take : (most : ℕ) (bytes : List ℕ) (x : List ObjectName × List ℕ) → names_at most bytes ≡ Some x → AreNames most bytes x
unfolding names_at
names_take zero bytes x e = subst (AreNames zero bytes) (same_Some _ x e) (no_names zero bytes)
names_take (suc most) bytes x e =
    elim (cases_Bool (ends bytes)) [
      | inl done ↦ subst (AreNames (suc most) bytes) (same_Some _ x (rw done at e)) (no_names (suc most) bytes)
      | inr more ↦
          let a = bind_some (name_at bytes) (λ first. names_at most first.1 >>= λ others. Some (first.0 ∷ others.0, others.1)) x (rw more at e) in
          let b = bind_some (names_at most a.0.1) (λ others. Some (a.0.0 ∷ others.0, others.1)) x a.2 in
          let first = name_takes bytes a.0 a.1 in
          let others = names_take most a.0.1 b.0 b.1 in
          let whole : bytes ≡ flat_map name_line (a.0.0 ∷ b.0.0) ++ b.0.1 =
          first.0
          ∙ ap (λ (v : List ℕ). name_line a.0.0 ++ v) others.text
          ∙ sym (append_assoc (name_line a.0.0) (flat_map name_line b.0.0) b.0.1)
          ∙ ap (λ (v : List ℕ). v ++ b.0.1) (sym (flat_map-cons name_line a.0.0 b.0.0)) in
          subst (AreNames (suc most) bytes) (same_Some _ x b.2) (record { text = whole; names = (first.1, others.names); few = omega (arith, others.few) })
    ]

-- the last line begins as no name does
letter_goes_on : (letter : ℕ) (text rest : List ℕ) → get_or text 0 0 ≡ letter → ends (letter ∷ drop 1 text ++ rest) ≡ false → (letter ≡ 0 → ⊥) → ends (text ++ rest) ≡ false
letter_goes_on letter [] rest first other some = absurd (some (sym first))
letter_goes_on letter (byte ∷ text) rest first other some = subst (λ (b : ℕ). ends (b ∷ text ++ rest) ≡ false) (sym first) other

kind_goes_on : (kind : Kind) (text rest : List ℕ) → get_or text 0 0 ≡ letter_of_kind kind → ends (text ++ rest) ≡ false
kind_goes_on Value text rest first = letter_goes_on 86 text rest first refl (λ e. omega (arith, e))
kind_goes_on Thunk text rest first = letter_goes_on 84 text rest first refl (λ e. omega (arith, e))

name_goes_on : (name : ObjectName) (rest : List ℕ) → IsName name → ends (spelling name ++ rest) ≡ false
name_goes_on name rest h = kind_goes_on name.kind (spelling name) rest (HasParts-spelling name h).letter

pub names_again : (most : ℕ) (names : List ObjectName) (rest : List ℕ) → AllByRecursion IsName names → length names ≤ most → ends rest ≡ true
    → names_at most (flat_map name_line names ++ rest) ≡ Some (names, rest)
unfolding names_at
names_again zero [] rest h few done = refl
names_again (suc most) [] rest h few done = rw done refl
names_again zero (name ∷ names) rest h few done = absurd (omega (arith, few))
names_again (suc most) (name ∷ names) rest h few done =
    let others = flat_map name_line names ++ rest in
    let regrouped : flat_map name_line (name ∷ names) ++ rest ≡ name_line name ++ others =
    ap (λ (v : List ℕ). v ++ rest) (flat_map-cons name_line name names) ∙ append_assoc (name_line name) (flat_map name_line names) rest in
    let goes_on : ends (name_line name ++ others) ≡ false =
    ap ends (append_assoc (spelling name) (10 ∷ []) others) ∙ name_goes_on name (10 ∷ others) h.0 in
    ap (names_at (suc most)) regrouped
    ∙ rw (goes_on, name_again name others h.0, names_again most names rest h.1 (omega (arith, few)) done) refl

-- no name is shorter than 52 characters
named_short : (text : List ℕ) → length text < 52 → named_by text ≡ None
named_short text short =
    elim (named_by text) as (λ o. named_by text ≡ o → o ≡ None) [
      | None ↦ λ e. refl
      | Some name ↦ λ e.
          let named = spelling-named_by text name e in
          absurd (omega (arith, short, ap length named.1, length-spelling name named.0))
    ] refl

pub name_short : (bytes : List ℕ) → length bytes < 52 → None ≡ name_at bytes
unfolding name_at
name_short bytes short =
    let none : named_by (take 52 bytes) ≡ None = named_short (take 52 bytes) (omega (arith, short, length-take 52 bytes)) in
    rw none refl

-- ---- names one after another, as a loop reads them

-- what is read, with other names before it
abbrev pub names_before : List ObjectName → Option (List ObjectName × List ℕ) → Option (List ObjectName × List ℕ)
names_before prefix read = read >>= λ x. Some (prefix ++ x.0, x.1)

names_before-more : (prefix : List ObjectName) (name : ObjectName) (read : Option (List ObjectName × List ℕ)) → names_before prefix (read >>= λ others. Some (name ∷ others.0, others.1)) ≡ names_before (prefix ++ name ∷ []) read
names_before-more prefix name (Some others) = ap (λ (v : List ObjectName). Some (v, others.1)) (sym (append_assoc prefix (name ∷ []) others.0))
names_before-more prefix name None = refl

-- some names are read, and the rest of the bytes gives what is left
pub record Going (bytes : List ℕ) (prefix : List ObjectName) (rest : List ℕ) (count : ℕ) : Type 0 where
  pub goes_on : names_before prefix (names_at (64 - count) rest) ≡ names_at 64 bytes

names_before-nil : (read : Option (List ObjectName × List ℕ)) → names_before [] read ≡ read
names_before-nil (Some x) = refl
names_before-nil None = refl

pub going_start : (bytes : List ℕ) (prefix : List ObjectName) → prefix ≡ [] → Going bytes prefix bytes 0
going_start bytes prefix is = record { goes_on = ap (λ (v : List ObjectName). names_before v (names_at 64 bytes)) is ∙ names_before-nil (names_at 64 bytes) }

names_end : (most : ℕ) (rest : List ℕ) → ends rest ≡ true → names_at most rest ≡ Some ([], rest)
unfolding names_at
names_end zero rest done = refl
names_end (suc most) rest done = rw done refl

ends_by : (most : ℕ) (bytes : List ℕ) (prefix : List ObjectName) (rest : List ℕ) → names_before prefix (names_at most rest) ≡ names_at 64 bytes → names_at most rest ≡ Some ([], rest) → Some (prefix, rest) ≡ names_at 64 bytes
ends_by most bytes prefix rest goes_on done =
    sym (ap (names_before prefix) done ∙ ap (λ (v : List ObjectName). Some (v, rest)) (append-nil prefix)) ∙ goes_on

-- the last line ends it
pub going_ends : (bytes : List ℕ) (prefix : List ObjectName) (rest : List ℕ) (count : ℕ) → Going bytes prefix rest count → ends rest ≡ true → Some (prefix, rest) ≡ names_at 64 bytes
going_ends bytes prefix rest count going done = ends_by (64 - count) bytes prefix rest going.goes_on (names_end (64 - count) rest done)

no_more : (most : ℕ) (rest : List ℕ) → most ≡ 0 → names_at most rest ≡ Some ([], rest)
unfolding names_at
no_more most rest none = rw none refl

-- so many names end it
pub going_full : (bytes : List ℕ) (prefix : List ObjectName) (rest : List ℕ) (count : ℕ) → Going bytes prefix rest count → 64 ≤ count → Some (prefix, rest) ≡ names_at 64 bytes
going_full bytes prefix rest count going full = ends_by (64 - count) bytes prefix rest going.goes_on (no_more (64 - count) rest (omega (arith, full)))

one_more : (most next : ℕ) (rest : List ℕ) → most ≡ suc next → ends rest ≡ false → names_at most rest ≡ (name_at rest >>= λ first. names_at next first.1 >>= λ others. Some (first.0 ∷ others.0, others.1))
unfolding names_at
one_more most next rest is more = ap (λ (n : ℕ). names_at n rest) is ∙ rw more refl

-- what isn't a name ends it with nothing
pub going_fails : (bytes : List ℕ) (prefix : List ObjectName) (rest : List ℕ) (count : ℕ) → Going bytes prefix rest count → count < 64 → ends rest ≡ false → None ≡ name_at rest → None ≡ names_at 64 bytes
going_fails bytes prefix rest count going lt more none =
    let left : 64 - count ≡ suc (63 - count) = omega (arith, lt) in
    ap (λ (o : Option (ObjectName × List ℕ)). names_before prefix (o >>= λ first. names_at (63 - count) first.1 >>= λ others. Some (first.0 ∷ others.0, others.1))) none
    ∙ sym (ap (names_before prefix) (one_more (64 - count) (63 - count) rest left more)) ∙ going.goes_on

-- a name more
pub going_more : (bytes : List ℕ) (prefix new : List ObjectName) (rest after : List ℕ) (name : ObjectName) (count : ℕ) → Going bytes prefix rest count → count < 64 → ends rest ≡ false
    → Some (name, after) ≡ name_at rest → new ≡ prefix ++ name ∷ [] → Going bytes new after (count + 1)
going_more bytes prefix new rest after name count going lt more read pushed =
    let left : 64 - count ≡ suc (64 - (count + 1)) = omega (arith, lt) in
    record {
      goes_on =
          ap (λ (v : List ObjectName). names_before v (names_at (64 - (count + 1)) after)) pushed
          ∙ sym (names_before-more prefix name (names_at (64 - (count + 1)) after))
          ∙ ap (λ (o : Option (ObjectName × List ℕ)). names_before prefix (o >>= λ first. names_at (64 - (count + 1)) first.1 >>= λ others. Some (first.0 ∷ others.0, others.1))) read
          ∙ sym (ap (names_before prefix) (one_more (64 - count) (64 - (count + 1)) rest left more))
          ∙ going.goes_on;
    }
