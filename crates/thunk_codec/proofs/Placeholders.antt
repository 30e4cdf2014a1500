-- Placeholders are read as they are written.
use Rattle.std.proofs.Common.{◌≡◌, ℕ, List, [], ◌∷◌, ◌++◌, Option, Some, None, refl, sym, ap, subst, ◌∙◌}
use Rattle.std.specs.Prelude.{IfSome, codes}
use Rattle.std.proofs.lemmas.Option.{same_Some}
use Rattle.object_name.specs.Name.{ObjectName}
use Rattle.thunk_codec.specs.declared.reference.Ref.{Ref}
use Rattle.thunk_codec.specs.declared.reference.Ref.TheVariants.{Value, Out}
use Rattle.text_lines.specs.Maybe.{◌>>=◌, bind_some}
use Rattle.thunk_codec.specs.Reference.{IsRef, ref_text, ref_of}
use Rattle.text_lines.specs.Cuts.{strip_prefix, before_feed}
use Rattle.thunk_codec.specs.Placeholder.{IsPlaceholder, output_of, placeholder_of}
use Rattle.thunk_codec.proofs.References.{ref_spelled, ref_again}
use Rattle.text_lines.proofs.PublicLaws.{strip_prefix_takes, strip_prefix_again, feed_takes, feed_again}

-- the first line
abbrev first_line : List ℕ
first_line = codes "gg-placeholder 1" ++ 10 ∷ []

output_is : (r : Ref) (read : ObjectName × ℕ) → output_of r ≡ Some read → r ≡ Out read.0 read.1
output_is (Value name) read e = absurd cc
output_is (Out name index) read e = ap (λ (v : ObjectName × ℕ). Out v.0 v.1) (same_Some (name, index) read e)

pub placeholder_of-text : (bytes : List ℕ) (read : ObjectName × ℕ) → placeholder_of bytes ≡ Some read → IsPlaceholder bytes read.0 read.1
unfolding placeholder_of
placeholder_of-text bytes read e =
    let a = bind_some (strip_prefix first_line bytes) (λ line. before_feed line >>= λ text. ref_of text >>= λ ref. output_of ref) read e in
    let b = bind_some (before_feed a.0) (λ text. ref_of text >>= λ ref. output_of ref) read a.2 in
    let c = bind_some (ref_of b.0) (λ ref. output_of ref) read b.2 in
    let r = output_is c.0 read c.2 in
    let spelled = subst (λ (v : Ref). IsRef v × (b.0 ≡ ref_text v)) r (ref_spelled b.0 c.0 c.1) in
    record {
      output = spelled.0;
      text = strip_prefix_takes first_line bytes a.0 a.1 ∙ ap (λ (v : List ℕ). first_line ++ v) (feed_takes a.0 b.0 b.1 ∙ ap (λ (v : List ℕ). v ++ 10 ∷ []) spelled.1);
    }

read_by : (mark bytes line text : List ℕ) (r : Ref) (read : ObjectName × ℕ) → strip_prefix mark bytes ≡ Some line → before_feed line ≡ Some text → ref_of text ≡ Some r → output_of r ≡ Some read
    → (strip_prefix mark bytes >>= λ line. before_feed line >>= λ text. ref_of text >>= λ ref. output_of ref) ≡ Some read
read_by mark bytes line text r read first feed ref output =
    ap (λ (v : Option (List ℕ)). v >>= λ line. before_feed line >>= λ text. ref_of text >>= λ ref. output_of ref) first
    ∙ ap (λ (v : Option (List ℕ)). v >>= λ text. ref_of text >>= λ ref. output_of ref) feed
    ∙ ap (λ (v : Option Ref). v >>= λ ref. output_of ref) ref
    ∙ output

pub text-placeholder_of : (bytes : List ℕ) (name : ObjectName) (index : ℕ) → IsPlaceholder bytes name index → placeholder_of bytes ≡ Some (name, index)
unfolding placeholder_of
text-placeholder_of bytes name index h =
    let text = ref_text (Out name index) in
    read_by first_line bytes (text ++ 10 ∷ []) text (Out name index) (name, index) (ap (strip_prefix first_line) h.text ∙ strip_prefix_again first_line (text ++ 10 ∷ [])) (feed_again text) (ref_again (Out name index) h.output) refl

pub placeholder_found : (bytes : List ℕ) (found : Option (ObjectName × ℕ)) → found ≡ placeholder_of bytes → IfSome found (λ read. IsPlaceholder bytes read.0 read.1)
placeholder_found bytes None e = tt
placeholder_found bytes (Some read) e = placeholder_of-text bytes read (sym e)

pub placeholder_only : (bytes : List ℕ) (found : Option (ObjectName × ℕ)) (name : ObjectName) (index : ℕ) → found ≡ placeholder_of bytes → IsPlaceholder bytes name index → found ≡ Some (name, index)
placeholder_only bytes found name index e h = e ∙ text-placeholder_of bytes name index h

pub one_placeholder : (bytes : List ℕ) (name other : ObjectName) (index place : ℕ) → IsPlaceholder bytes name index → IsPlaceholder bytes other place → (name ≡ other) × (index ≡ place)
one_placeholder bytes name other index place h k =
    let e : ◌≡◌ {A = ObjectName × ℕ} (name, index) (other, place) = same_Some _ _ (sym (text-placeholder_of bytes name index h) ∙ text-placeholder_of bytes other place k) in
    (ap (λ (v : ObjectName × ℕ). v.0) e, ap (λ (v : ObjectName × ℕ). v.1) e)
