-- What the parts of a name's spelling decode to.
use Rattle.std.proofs.Common.{◌≡◌, ◌≤◌, ℕ, suc, zero, List, [], ◌∷◌, take, Result, Ok, Err, refl, sym, ap, ◌∙◌, arith}
use Rattle.std.specs.Prelude.{MatchResult}
use Rattle.std.specs.Int.{w32, to_be_bytes, from_be_bytes}
use Rattle.std.proofs.lemmas.Nat.{from_be_bytes-to_be_bytes_4}
use Rattle.base64.specs.GeneralPurpose.{encode_of, decode_of, IsBytes}
use Rattle.base64.specs.Engines.{url_safe_no_pad}
use Rattle.base64.specs.declared.decode.DecodeError.{DecodeError}
use Rattle.base64.proofs.EngineFacts.{decode_of-encode_of, decode_of_strict}
use Rattle.hex.specs.Hex.{encode_lower, decode_sized}
use Rattle.hex.specs.declared.error.FromHexError.{FromHexError}
use Rattle.hex.proofs.HexLemmas.{decode_sized-encode_lower}
use Rattle.object_name.specs.Name.{max_size}

-- the text of a digest decodes to the digest
pub decode_of-digest : (text d : List ℕ) → IsBytes d → text ≡ encode_of url_safe_no_pad d → decode_of url_safe_no_pad text ≡ Ok d
decode_of-digest text d bytes e = rw e (decode_of-encode_of url_safe_no_pad d refl bytes)

-- a text that decodes is the text of what it decodes to
pub digest-decode_of : (text d : List ℕ) → IsBytes text → decode_of url_safe_no_pad text ≡ Ok d → text ≡ encode_of url_safe_no_pad d
digest-decode_of text d bytes e = decode_of_strict url_safe_no_pad text d (refl, refl) bytes e

-- a text decodes to one digest
pub decoded_once : (text d e : List ℕ) → IsBytes d → text ≡ encode_of url_safe_no_pad d → decode_of url_safe_no_pad text ≡ Ok e → e ≡ d
decoded_once text d e bytes is ok = let other = decode_of-digest text d bytes is in cc

-- the text of a digest is not refused
pub not_refused : (text d : List ℕ) (e : DecodeError) → IsBytes d → text ≡ encode_of url_safe_no_pad d → decode_of url_safe_no_pad text ≡ Err e → ⊥
not_refused text d e bytes is err = let other = decode_of-digest text d bytes is in cc

-- the four bytes of a size
pub IsBytes-size : (n : ℕ) → IsBytes (to_be_bytes w32 n)
IsBytes-size n zero = omega arith
IsBytes-size n (suc zero) = omega arith
IsBytes-size n (suc (suc zero)) = omega arith
IsBytes-size n (suc (suc (suc zero))) = omega arith
IsBytes-size n (suc (suc (suc (suc i)))) = omega arith

-- the text of a size decodes to its four bytes
pub decode_sized-size : (text : List ℕ) (n : ℕ) → text ≡ encode_lower (to_be_bytes w32 n) → decode_sized text 4 ≡ Ok (to_be_bytes w32 n)
decode_sized-size text n e = rw e (decode_sized-encode_lower (to_be_bytes w32 n) 4 refl (IsBytes-size n))

-- what decoding the text of a size answers
pub size_decoded : (text out : List ℕ) (n : ℕ) (r : Result Unit FromHexError) → MatchResult (decode_sized text 4) (λ bytes. (r ≡ Ok tt) × (out ≡ bytes)) (λ e. r ≡ Err e)
    → text ≡ encode_lower (to_be_bytes w32 n) → (r ≡ Ok tt) × (out ≡ to_be_bytes w32 n)
size_decoded text out n r h e = rw (decode_sized-size text n e) at h

-- the four bytes of a size make the size
pub from_be_bytes-size : (out : List ℕ) (m n : ℕ) → n ≤ max_size → out ≡ to_be_bytes w32 n → m ≡ from_be_bytes w32 out → m ≡ n
from_be_bytes-size out m n small e made = made ∙ ap (from_be_bytes w32) e ∙ from_be_bytes-to_be_bytes_4 n (omega arith)

-- a prefix of bytes is bytes
pub IsBytes-take : (n : ℕ) (xs : List ℕ) → IsBytes xs → IsBytes (take n xs)
IsBytes-take zero xs h i = omega arith
IsBytes-take (suc n) [] h i = omega arith
IsBytes-take (suc n) (x ∷ xs) h zero = h 0
IsBytes-take (suc n) (x ∷ xs) h (suc i) = IsBytes-take n xs (λ k. h (suc k)) i

-- no text of a size is unlike the text of the size that it decodes to
pub size_spelled_again : (text again : List ℕ) (m n : ℕ) → m ≡ n → text ≡ encode_lower (to_be_bytes w32 n) → again ≡ encode_lower (to_be_bytes w32 m) → text ≡ again
size_spelled_again text again m n e is spelled = is ∙ ap (λ (k : ℕ). encode_lower (to_be_bytes w32 k)) (sym e) ∙ sym spelled
