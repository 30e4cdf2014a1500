use Rattle.std.proofs.Common.{◌≡◌, sym, ap, ◌∙◌, ℕ, length, take, Ok, Some, arith}
use Rattle.base64.specs.GeneralPurpose.{IsBytes, decode_of}
use Rattle.base64.specs.Engines.{url_safe_no_pad}
use Rattle.std.proofs.lemmas.List.{length-take}
use Rattle.object_name.proofs.SpellingLemmas.{digest-decode_of, decoded_once, not_refused}
use Rattle.object_name.proofs.spelling.read_digest.Goals as goal

pub returns-in_default-clause-only : goal.returns-in_default-clause-only
returns-in_default-clause-only c d bytes whole is =
    absurd (not_refused c.args.text.now d c.in_default.field-0 bytes is c.in_default.ensures.err)

pub returns-then-len-ne32-clause-only : goal.returns-then-len-ne32-clause-only
returns-then-len-ne32-clause-only c d bytes whole is =
    let decoded = c.in-Ok.ensures.ok in
    let e = decoded_once c.args.text.now d (take c.in-Ok.len c.decode_slice_unchecked.new.output) bytes is decoded.0 in
    let len = ap length e in
    absurd (omega (arith, len, decoded.2, whole, length-take {A = ℕ}))

pub returns-clause-found : goal.returns-clause-found
returns-clause-found c =
    let bytes : IsBytes c.args.text.now = λ i. omega (arith, c.type_inv.text i) in
    let is : c.in-Ok.len ≡ 32 = c.if-len-ne32.false in
    let ok : decode_of url_safe_no_pad c.args.text.now ≡ Ok c.decoded_digest.result =
    c.in-Ok.ensures.ok.0 ∙ ap (λ (n : ℕ). Ok (take n c.decode_slice_unchecked.new.output)) is ∙ ap Ok (sym c.decoded_digest.ensures.prefix) in
    (digest-decode_of c.args.text.now c.decoded_digest.result bytes ok, c.decoded_digest.ensures.bytes, c.decoded_digest.ensures.whole)

pub returns-clause-only : goal.returns-clause-only
returns-clause-only c d bytes whole is =
    let same : c.in-Ok.len ≡ 32 = c.if-len-ne32.false in
    let ok : decode_of url_safe_no_pad c.args.text.now ≡ Ok c.decoded_digest.result =
    c.in-Ok.ensures.ok.0 ∙ ap (λ (n : ℕ). Ok (take n c.decode_slice_unchecked.new.output)) same ∙ ap Ok (sym c.decoded_digest.ensures.prefix) in
    ap Some (decoded_once c.args.text.now d c.decoded_digest.result bytes is ok)
