-- Bytes written or read piece by piece.
use Rattle.std.proofs.Common.{◌≡◌, ◌≤◌, ◌<◌, ◌+◌, ◌-◌, ℕ, List, ◌++◌, length, take, drop, Option, Some, None, ap, sym, ◌∙◌, subst, arith}
use Rattle.std.specs.Prelude.{IfSome}
use Rattle.std.specs.Io.KnownBytes.{Appends, Consumes, Keeps}
use Rattle.std.proofs.KnownBytes.{Appends-trans, Appends-kept, Consumes-trans}
use Rattle.std.proofs.lemmas.List.{take-append-drop, take_all, length-append, length-drop, length-take, length-take-le}
use Rattle.std.proofs.Math.Seq.{take-add}
use Rattle.object_name.specs.Streams.{AppendsPrefix, LosesPrefix, LosesUpTo}

-- a piece of what is left after a prefix
piece : (bytes : List ℕ) (at n : ℕ) → take at bytes ++ take n (take (length bytes - at) (drop at bytes)) ≡ take (at + n) bytes
piece bytes at n =
    let whole : take (length bytes - at) (drop at bytes) ≡ drop at bytes = take_all (length bytes - at) (drop at bytes) (omega (arith, length-drop at bytes)) in
    ap (λ (rest : List ℕ). take at bytes ++ take n rest) whole ∙ sym (take-add at n bytes)

-- a prefix was written, and then a piece of what was left
pub appends_more : (a b c : Option (List ℕ)) (bytes : List ℕ) (at n : ℕ) → Appends a b (take at bytes) → Appends b c (take n (take (length bytes - at) (drop at bytes))) → Appends a c (take (at + n) bytes)
appends_more a b c bytes at n before then_more =
    subst (λ (bs : List ℕ). Appends a c bs) (piece bytes at n) (Appends-trans a b c (take at bytes) (take n (take (length bytes - at) (drop at bytes))) before then_more)

-- a prefix was written, and then nothing
pub prefix_kept : (a b c : Option (List ℕ)) (bytes : List ℕ) (at : ℕ) → Appends a b (take at bytes) → Keeps b c → AppendsPrefix a c bytes
prefix_kept a b c bytes at before kept = record {
  prefix = take at bytes;
  is_prefix = record { rest = drop at bytes; whole = sym (take-append-drop at bytes) };
  grown = Appends-kept a b c (take at bytes) before kept;
}

-- a piece of what is left ends within it
pub piece_within : (bytes : List ℕ) (at n : ℕ) → at ≤ length bytes → n ≤ length (take (length bytes - at) (drop at bytes)) → at + n ≤ length bytes
piece_within bytes at n within short = omega (arith, within, short, length-take (length bytes - at) (drop at bytes), length-drop at bytes)

-- how many bytes a prefix and a piece are together
length-prefix : (bytes buf : List ℕ) (count : ℕ) → count ≤ length buf → length (bytes ++ take count buf) ≡ length bytes + count
length-prefix bytes buf count within = omega (arith, length-append bytes (take count buf), length-take-le count buf within)

-- a prefix was read, and then a piece: together so many bytes
pub loses_prefix : (a b c : Option (List ℕ)) (bytes buf : List ℕ) (count size : ℕ) → Consumes a b bytes → Consumes b c (take count buf) → count ≤ length buf → length bytes + count ≡ size → LosesPrefix a c size
loses_prefix a b c bytes buf count size before more within sum = record {
  prefix = bytes ++ take count buf;
  sized = length-prefix bytes buf count within ∙ sum;
  lost = Consumes-trans a b c bytes (take count buf) before more;
}

-- the same, so many bytes at most
pub loses_up_to : (a b c : Option (List ℕ)) (bytes buf : List ℕ) (count size : ℕ) → Consumes a b bytes → Consumes b c (take count buf) → count ≤ length buf → length bytes + count ≤ size → LosesUpTo a c size
loses_up_to a b c bytes buf count size before more within sum = record {
  prefix = bytes ++ take count buf;
  sized = omega (arith, length-prefix bytes buf count within, sum);
  lost = Consumes-trans a b c bytes (take count buf) before more;
}

-- what is past the limit is one byte past it, where no more was asked for
pub one_past : (piece : List ℕ) (asked want len count limit : ℕ) → count ≤ asked → asked ≡ length (take want piece) → want ≤ limit - len + 1 → limit - len < count → len ≤ limit → len + count ≡ limit + 1
one_past piece asked want len count limit within same most over below = omega (arith, within, same, most, over, below, length-take want piece)

-- bytes that lose one more than a limit are over it
pub loses_over : (a b : Option (List ℕ)) (limit : ℕ) → LosesPrefix a b (limit + 1) → IfSome a (λ all. limit < length all)
loses_over None b limit loss = tt
loses_over (Some all) None limit loss = absurd loss.lost
loses_over (Some all) (Some rest) limit loss =
    let whole = ap length loss.lost in
    omega (arith, whole, length-append loss.prefix rest, loss.sized)
