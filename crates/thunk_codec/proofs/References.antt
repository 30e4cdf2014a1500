-- REFs are read as they are spelled.
use Rattle.std.proofs.Common.{◌≡◌, ℕ, ◌^◌, ◌<◌, Bool, true, false, cond, eqb, leb, ltb, List, [], ◌∷◌, ◌++◌, length, take, drop, get_or, length-append, append_assoc, Option, Some, None, refl, sym, ap, subst, ◌∙◌, arith, inl, inr}
use Rattle.std.specs.Prelude.{IfSome, decimal}
use Rattle.std.proofs.lemmas.Bool.{cases_Bool, leb-false, le-leb, lt-leb, ltb-true, lt-ltb, eqb-true, eq-eqb}
use Rattle.std.proofs.lemmas.List.{take_at, drop_at, get_or_at, take-append-drop, drop_more}
use Rattle.std.proofs.lemmas.Option.{same_Some}
use Rattle.object_name.specs.declared.kind.Kind.{Kind}
use Rattle.object_name.specs.declared.kind.Kind.TheVariants as kinds
use Rattle.object_name.specs.Kind.{is_thunk_kind}
use Rattle.object_name.specs.Number.{number_of}
use Rattle.object_name.specs.Name.{spelling, named_by}
use Rattle.object_name.proofs.PublicLaws.{length-spelling, named_by-spelling, spelling-named_by}
use Rattle.object_name.proofs.PublicLaws.{number_of-decimal, decimal-number_of}
use Rattle.thunk_codec.specs.declared.reference.Ref.{Ref}
use Rattle.thunk_codec.specs.declared.reference.Ref.TheVariants.{Value, Out}
use Rattle.text_lines.specs.Maybe.{◌>>=◌, ◌>>◌, bind_some, test_some}
use Rattle.thunk_codec.specs.Reference.{IsRef, ref_text, value_ref_of, out_ref_of, ref_of}

value_kind : (kind : Kind) → is_thunk_kind kind ≡ false → kind ≡ kinds.Value
value_kind kinds.Value e = refl
value_kind kinds.Thunk e = absurd cc

thunk_kind : (kind : Kind) → is_thunk_kind kind ≡ true → kind ≡ kinds.Thunk
thunk_kind kinds.Value e = absurd cc
thunk_kind kinds.Thunk e = refl

-- what is read is spelled so
abbrev pub Spells : List ℕ → Ref → Type 0
Spells text r = IsRef r × (text ≡ ref_text r)

cond_none : (b : Bool) (x y : Ref) → cond b None (Some x) ≡ Some y → (b ≡ false) × (x ≡ y)
cond_none true x y e = absurd cc
cond_none false x y e = (refl, cc)

value_spelled : (text : List ℕ) (r : Ref) → value_ref_of text ≡ Some r → Spells text r
value_spelled text r e =
    let a = bind_some (named_by text) (λ name. cond (is_thunk_kind name.kind) None (Some (Value name))) r e in
    let b = cond_none (is_thunk_kind a.0.kind) (Value a.0) r a.2 in
    let named = spelling-named_by text a.0 a.1 in
    subst (Spells text) b.1 ((named.0, value_kind a.0.kind b.0), named.1)

out_spelled : (text : List ℕ) (r : Ref) → 52 < length text → out_ref_of text ≡ Some r → Spells text r
out_spelled text r long e =
    let a = bind_some (named_by (take 52 text)) (λ name. is_thunk_kind name.kind >> (eqb (get_or text 52 0) 35 >> (number_of (drop 53 text) >>= λ index. ltb index (2 ^ 32) >> Some (Out name index)))) r e in
    let b = test_some (is_thunk_kind a.0.kind) (eqb (get_or text 52 0) 35 >> (number_of (drop 53 text) >>= λ index. ltb index (2 ^ 32) >> Some (Out a.0 index))) r a.2 in
    let c = test_some (eqb (get_or text 52 0) 35) (number_of (drop 53 text) >>= λ index. ltb index (2 ^ 32) >> Some (Out a.0 index)) r b.1 in
    let d = bind_some (number_of (drop 53 text)) (λ index. ltb index (2 ^ 32) >> Some (Out a.0 index)) r c.1 in
    let f = test_some (ltb d.0 (2 ^ 32)) (Some (Out a.0 d.0)) r d.2 in
    let named = spelling-named_by (take 52 text) a.0 a.1 in
    let numbered = decimal-number_of (drop 53 text) d.0 d.1 in
    let rest : drop 52 text ≡ 35 ∷ decimal d.0 = drop_more text 52 0 long ∙ ap (λ (b : ℕ). b ∷ drop 53 text) (eqb-true _ _ c.0) ∙ ap (λ (v : List ℕ). 35 ∷ v) numbered.1 in
    let whole : text ≡ spelling a.0 ++ 35 ∷ decimal d.0 = sym (take-append-drop 52 text) ∙ ap (λ (v : List ℕ). v ++ drop 52 text) named.1 ∙ ap (λ (v : List ℕ). spelling a.0 ++ v) rest in
    subst (Spells text) (same_Some (Out a.0 d.0) r f.1) ((named.0, thunk_kind a.0.kind b.0, ltb-true _ _ f.0), whole)

pub ref_spelled : (text : List ℕ) (r : Ref) → ref_of text ≡ Some r → Spells text r
unfolding ref_of
ref_spelled text r e =
    elim (cases_Bool (leb (length text) 52)) [
      | inl short ↦ value_spelled text r (rw short at e)
      | inr long ↦ out_spelled text r (leb-false _ _ long) (rw long at e)
    ]

-- what is spelled so is read
pub ref_again : (r : Ref) → IsRef r → ref_of (ref_text r) ≡ Some r
unfolding ref_of
ref_again (Value name) h =
    let short : leb (length (spelling name)) 52 ≡ true = le-leb _ _ (omega (arith, length-spelling name h.0)) in
    rw (short, named_by-spelling name h.0, h.1) refl
ref_again (Out name index) h =
    let len = length-spelling name h.0 in
    let long : leb (length (spelling name ++ 35 ∷ decimal index)) 52 ≡ false = lt-leb _ _ (omega (arith, len, length-append (spelling name) (35 ∷ decimal index))) in
    let prefix : take 52 (spelling name ++ 35 ∷ decimal index) ≡ spelling name = take_at (spelling name) (35 ∷ decimal index) 52 len in
    let mark : get_or (spelling name ++ 35 ∷ decimal index) 52 0 ≡ 35 = get_or_at (spelling name) 35 (decimal index) 0 52 len in
    let rest : drop 53 (spelling name ++ 35 ∷ decimal index) ≡ decimal index = ap (drop 53) (sym (append_assoc (spelling name) (35 ∷ []) (decimal index))) ∙ drop_at (spelling name ++ 35 ∷ []) (decimal index) 53 (length-append (spelling name) (35 ∷ []) ∙ omega (arith, len)) in
    let small : ltb index (2 ^ 32) ≡ true = lt-ltb _ _ h.2 in
    let kind : is_thunk_kind name.kind ≡ true = ap is_thunk_kind h.1 in
    rw (long, prefix, named_by-spelling name h.0, kind, eq-eqb _ _ mark, rest, number_of-decimal index (omega (arith, h.2)), small) refl

-- two REFs with one text are one
pub same_ref : (r s : Ref) → IsRef r → IsRef s → ref_text r ≡ ref_text s → r ≡ s
same_ref r s hr hs e = same_Some r s (sym (ref_again r hr) ∙ ap ref_of e ∙ ref_again s hs)

pub ref_found : (text : List ℕ) (found : Option Ref) → found ≡ ref_of text → IfSome found (λ r. IsRef r × (text ≡ ref_text r))
ref_found text None e = tt
ref_found text (Some r) e = ref_spelled text r (sym e)

pub ref_only : (text : List ℕ) (found : Option Ref) (r : Ref) → found ≡ ref_of text → IsRef r → text ≡ ref_text r → found ≡ Some r
ref_only text found r e h is = e ∙ ap ref_of is ∙ ref_again r h
