-- The workers' numbers together.
use Rattle.std.proofs.Common.{◌≡◌, ℕ, ◌+◌, List, [], ◌∷◌, ◌++◌, length, Bool, true, false, ◌&&◌, ◌||◌, refl, sym, ap, ◌∙◌, arith, append-nil, subst}
use Rattle.std.specs.Prelude.{sum_by}
use Rattle.std.specs.List.{AllZip, AllByRecursion}
use Rattle.std.proofs.lemmas.List.Sums.{sum_by-append}
use Rattle.std.proofs.lemmas.Bool.{false≢true}
use Rattle.thunk_codec.specs.declared.job.Job.{Job}
use Rattle.force_pool.specs.declared.worker_end.WorkerEnd.{WorkerEnd}
use Rattle.force_pool.specs.declared.worker_end.WorkerEnd.TheVariants.{Going, GaveUp, Differs, Memory}
use Rattle.force_pool.specs.Account.{Account, is_memory, is_given_up, ShowsUntold, Gives}
use Rattle.force_pool.specs.Links.{Mark, AllTold, IsLost, CountsOn}
use Rattle.force_pool.specs.Sums.{Sum, fresh, mark_of, IsEmpty, first_why, taken_in, Returns, ShowUntold, Fits, Parts, HasParts}

-- a worker that begins fits its link
pub gives_fresh : (tells : Job → Type 0) (retries : ℕ) (m : Mark) → Gives tells retries m.sent m.faults (fresh m retries)
gives_fresh tells retries m = record {
  tries = refl;
  more = [];
  prefix = sym (append-nil m.sent);
  later = omega arith;
  sent = omega arith;
  starts = λ memory below. omega arith;
  losses = λ memory below. omega arith;
  failures = omega arith;
  gave_up = λ up. absurd (false≢true up);
  differs = tt;
}

zip-push : {A B : Type 0} (P : A → B → Type 0) (xs : List A) (ys : List B) (x : A) (y : B) → AllZip P xs ys → P x y → AllZip P (xs ++ x ∷ []) (ys ++ y ∷ [])
zip-push P [] [] x y all one = (one, tt)
zip-push P [] (b ∷ bs) x y all one = absurd all
zip-push P (a ∷ as') [] x y all one = absurd all
zip-push P (a ∷ as') (b ∷ bs) x y all one = (all.0, zip-push P as' bs x y all.1 one)

all-front : {A : Type 0} (P : A → Type 0) (xs : List A) (x : A) → AllByRecursion P (xs ++ x ∷ []) → AllByRecursion P xs
all-front P [] x all = tt
all-front P (y ∷ ys) x all = (all.0, all-front P ys x all.1)

all-last : {A : Type 0} (P : A → Type 0) (xs : List A) (x : A) → AllByRecursion P (xs ++ x ∷ []) → P x
all-last P [] x all = all.0
all-last P (y ∷ ys) x all = all-last P ys x all.1

sum-push : {A : Type 0} (f : A → ℕ) (xs : List A) (x : A) → sum_by f (xs ++ x ∷ []) ≡ sum_by f xs + f x
sum-push f xs x = let s = sum_by-append f xs (x ∷ []) in omega (arith, s)

or-false : (a b : Bool) → (a || b) ≡ false → (a ≡ false) × (b ≡ false)
or-false true b is = absurd (false≢true (sym is))
or-false false b is = (refl, is)

and-true : (a b : Bool) → (a && b) ≡ true → (a ≡ true) × (b ≡ true)
and-true true b is = (refl, is)
and-true false b is = absurd (false≢true is)

module _ (tells : Job → Type 0) (retries : ℕ) where
  shows-new : (back : List Mark) (m : Mark) (e : WorkerEnd) → ShowsUntold tells m.sent e → ShowUntold tells retries (back ++ m ∷ []) e
  shows-new back m Going d = tt
  shows-new back m GaveUp d = tt
  shows-new back m (Differs resolved first second) d = (d.0, λ all. d.1 (all-last (λ (n : Mark). AllTold tells n.sent) back m all))
  shows-new back m Memory d = tt

  shows-push : (back : List Mark) (m : Mark) (old e : WorkerEnd) → ShowUntold tells retries back old → ShowsUntold tells m.sent e → ShowUntold tells retries (back ++ m ∷ []) (first_why old e)
  shows-push back m Going e d new = shows-new back m e new
  shows-push back m GaveUp e d new = shows-new back m e new
  shows-push back m (Differs resolved first second) e d new = (d.0, λ all. d.1 (all-front (λ (n : Mark). AllTold tells n.sent) back m all))
  shows-push back m Memory e d new = shows-new back m e new

  -- none has come back
  pub fits-empty : (s : Sum) → IsEmpty s → Fits tells retries [] s
  fits-empty s e = record {
    links = subst (λ (l : List Mark). AllZip Returns [] l) (sym e.back) tt;
    sent = rw (e.back, e.starts) (omega arith);
    starts = λ memory below. rw (e.back, e.starts) (omega arith);
    losses = λ memory below. rw (e.back, e.losses) (omega arith);
    lost = λ up. subst (λ (l : List Mark). AllZip (IsLost retries) [] l) (sym e.back) tt;
    differs = subst (λ (x : WorkerEnd). ShowUntold tells retries s.back x) (sym e.why) tt;
  }

  -- one more has come back
  pub fits-taken : (given : List Mark) (m : Mark) (s : Sum) (a : Account) → Fits tells retries given s → Gives tells retries m.sent m.faults a → Fits tells retries (given ++ m ∷ []) (taken_in s a)
  fits-taken given m s a f g =
      let n = mark_of a in
      let sent_g = sum-push (λ (x : Mark). length x.sent) given m in
      let sent_b = sum-push (λ (x : Mark). length x.sent) s.back n in
      let count_g = sum-push (λ (x : Mark). x.faults) given m in
      let count_b = sum-push (λ (x : Mark). x.faults) s.back n in
      record {
        links = zip-push Returns given s.back m n f.links (record { more = g.more; prefix = g.prefix; later = g.later });
        sent = omega (arith, sent_g, sent_b, f.sent, g.sent);
        starts = λ memory below.
            let p = or-false s.memory (is_memory a.ended) memory in
            omega (arith, sent_g, sent_b, count_g, count_b, f.starts p.0 (all-front CountsOn s.back n below), g.starts p.1 (all-last CountsOn s.back n below));
        losses = λ memory below.
            let p = or-false s.memory (is_memory a.ended) memory in
            omega (arith, count_g, count_b, f.losses p.0 (all-front CountsOn s.back n below), g.losses p.1 (all-last CountsOn s.back n below));
        lost = λ up.
            let p = and-true s.all_lost (is_given_up a.ended) up in
            zip-push (IsLost retries) given s.back m n (f.lost p.0) (g.gave_up p.1);
        differs = shows-push s.back n s.why a.ended f.differs g.differs;
      }

-- where a part of each was given for each link, and each came back, all are there
pub parts_same : (given all back : Parts) (n m : ℕ) → n ≡ m → HasParts given n all → HasParts given m back → back ≡ all
parts_same given all back n m same h k = λ i. record {
  starts = (sym k.starts ∙ ap (λ (x : ℕ). given.starts + x) (sym same) ∙ h.starts) i;
  replies = (sym k.replies ∙ ap (λ (x : ℕ). given.replies + x) (sym same) ∙ h.replies) i;
  losses = (sym k.losses ∙ ap (λ (x : ℕ). given.losses + x) (sym same) ∙ h.losses) i;
}

abbrev parts_of : ℕ → ℕ → ℕ → Parts
parts_of starts replies losses = record { starts = starts; replies = replies; losses = losses }

-- parts are the same where each of them is
pub parts_are : (a b c x y z : ℕ) → a ≡ x → b ≡ y → c ≡ z → parts_of a b c ≡ parts_of x y z
parts_are a b c x y z p q r = λ i. parts_of (p i) (q i) (r i)
