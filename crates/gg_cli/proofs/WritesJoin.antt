-- Writing one text after another.
use Rattle.std.proofs.Common.{◌≡◌, ℕ, List, ◌++◌, Result, Ok, Err, OnOk, append_assoc, sym, ◌∙◌, arith, refl, ap, IsErr, IsErrAnd}
use Rattle.std.specs.Prelude.{Option}
use Rattle.std.specs.Io.KnownBytes.{Appends}
use Rattle.std.proofs.KnownBytes.{Appends-trans}
use Rattle.object_name.specs.declared.trouble.Trouble.{Trouble}
use Rattle.object_name.specs.declared.trouble.Trouble.TheVariants.{Failed, Memory}
use Rattle.object_name.specs.Causes.{HasCause}
use Rattle.object_name.specs.Streams.{AppendsPrefix}
use Rattle.gg_cli.specs.Writing.{Writes}

-- a prefix of a text is a prefix of a longer one
pub AppendsPrefix-more : (b m : Option (List ℕ)) (x y : List ℕ) → AppendsPrefix b m x → AppendsPrefix b m (x ++ y)
AppendsPrefix-more b m x y h = record {
  prefix = h.prefix;
  is_prefix = record { rest = h.is_prefix.rest ++ y; whole = ap (λ l. l ++ y) h.is_prefix.whole ∙ append_assoc h.prefix h.is_prefix.rest y };
  grown = h.grown;
}

-- a prefix after a whole text
pub AppendsPrefix-after : (b m a : Option (List ℕ)) (x y : List ℕ) → Appends b m x → AppendsPrefix m a y → AppendsPrefix b a (x ++ y)
AppendsPrefix-after b m a x y first h = record {
  prefix = x ++ h.prefix;
  is_prefix = record { rest = h.is_prefix.rest; whole = ap (λ l. x ++ l) h.is_prefix.whole ∙ sym (append_assoc x h.prefix h.is_prefix.rest) };
  grown = Appends-trans b m a x h.prefix first h.grown;
}

-- a whole text after a whole text
whole_after : {U : Type 0} (b m a : Option (List ℕ)) (x y : List ℕ) (r : Result U Trouble) → Appends b m x → OnOk r (Appends m a y) → OnOk r (Appends b a (x ++ y))
whole_after b m a x y (Ok v) first second = Appends-trans b m a x y first second
whole_after b m a x y (Err e) first second = tt

-- a text after one that is written whole
pub Writes-then : {T U : Type 0} {x y : List ℕ} {b m a : Option (List ℕ)} {f g h : ℕ} {v : T} {q : Result T Trouble} {r : Result U Trouble}
    → Writes x b m f g q → q ≡ Ok v → Writes y m a g h r → Writes (x ++ y) b a f h r
Writes-then {x = x} {y = y} {b = b} {m = m} {a = a} {r = r} first is_ok second =
    let done = rw is_ok at first in
    let whole = done.whole in
    record {
      whole = whole_after b m a x y r whole second.whole;
      prefix = AppendsPrefix-after b m a x y whole second.prefix;
      cause = record {
        later = omega (arith, first.cause.later, second.cause.later);
        failed = λ failed. omega (arith, first.cause.later, second.cause.failed failed);
        most = omega (arith, done.cause.most, second.cause.most);
      };
    }

-- a refusal, whatever it would have given
Refused-cause : {T U : Type 0} (f g : ℕ) (e : Trouble) → HasCause {T = T} f g (Err e) → HasCause {T = U} f g (Err e)
Refused-cause f g Failed h = record { later = h.later; failed = λ _. h.failed refl; most = h.most }
Refused-cause f g Memory h = record { later = h.later; failed = λ failed. absurd (cc failed); most = h.most }

-- the refusal that a `?` hands on
handed_on : {U : Type 0} (r : Result U Trouble) (e : Trouble) → IsErrAnd r (λ d. d ≡ e) → r ≡ Err e
handed_on (Ok v) e h = absurd h
handed_on (Err d) e h = ap Err h

-- what follows a refusal isn't written
pub Writes-stop : {T U : Type 0} {x : List ℕ} {b m : Option (List ℕ)} {f g : ℕ} {e : Trouble} {q : Result T Trouble} {r : Result U Trouble} (y : List ℕ)
    → Writes x b m f g q → q ≡ Err e → IsErr r × IsErrAnd r (λ d. d ≡ e) → Writes (x ++ y) b m f g r
Writes-stop {x = x} {b = b} {m = m} {f = f} {g = g} {e = e} {r = r} y h was is = rw (handed_on r e is.1) (record {
  whole = tt;
  prefix = AppendsPrefix-more b m x y h.prefix;
  cause = Refused-cause f g e (rw was at h).cause;
})
