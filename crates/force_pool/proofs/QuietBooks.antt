-- What leaves the numbers of a book.
use Rattle.std.proofs.Common.{◌≡◌, ℕ, List, [], ◌∷◌, ◌++◌, Bool, true, false, cond, refl, sym, ◌∙◌, arith, subst, inl, inr, Result, Ok, Err, IfOk, OnErr}
use Rattle.std.specs.List.{count_by}
use Rattle.std.specs.Prelude.{sum_by}
use Rattle.std.proofs.lemmas.List.Sums.{sum_by-append}
use Rattle.need_eval.specs.declared.prepared.Prepared.{Prepared}
use Rattle.force_core.specs.declared.event.Event.{Event}
use Rattle.force_core.specs.declared.event.Event.TheVariants as events
use Rattle.force_core.specs.declared.offer.Need.{Need}
use Rattle.force_core.specs.declared.offer.Offer.{Offer}
use Rattle.force_core.specs.declared.offer.Offer.TheVariants as offers
use Rattle.force_core.specs.Known.{Offers}
use Rattle.force_core.specs.Book.{Core, closing}
use Rattle.force_pool.specs.Counting.{is_start, is_first, is_loss}
use Rattle.force_pool.specs.Settling.{OffersAll, OffersAs, OffersSome, Settles, Settlement}
use Rattle.force_pool.specs.Quiet.{IsQuiet}

pub quiet-same : (b : Core) → IsQuiet b b
quiet-same b = record { starts = refl; firsts = refl; losses = refl; workers = refl; retries = refl; copies = refl }

pub quiet-is : (b c : Core) → c ≡ b → IsQuiet b c
quiet-is b c e = subst (λ (x : Core). IsQuiet b x) (sym e) (quiet-same b)

pub quiet-trans : (a b c : Core) → IsQuiet a b → IsQuiet b c → IsQuiet a c
quiet-trans a b c p q = record { starts = q.starts ∙ p.starts; firsts = q.firsts ∙ p.firsts; losses = q.losses ∙ p.losses; workers = q.workers ∙ p.workers; retries = q.retries ∙ p.retries; copies = q.copies ∙ p.copies }

count-no : (f : Event → Bool) (es : List Event) (e : Event) → f e ≡ false → count_by f (es ++ e ∷ []) ≡ count_by f es
count-no f es e is =
    let w : Event → ℕ = λ x. cond (f x) 1 0 in
    let s = sum_by-append w es (e ∷ []) in
    let z : sum_by w (e ∷ []) ≡ 0 = rw is refl in
    omega (arith, s, z)

-- the book is closed
pub quiet-closing : (b : Bool) (c : Core) → IsQuiet c (closing b c)
quiet-closing true c = quiet-same c
quiet-closing false c = record {
  starts = count-no is_start c.history events.Closed refl;
  firsts = count-no is_first c.history events.Closed refl;
  losses = count-no is_loss c.history events.Closed refl;
  workers = refl;
  retries = refl;
  copies = refl;
}

quiet-offer : (before after : Core) (job : Prepared) (id : ℕ) → OffersAs before after job id → IsQuiet before after
quiet-offer before after job id (inl offers) =
    subst (λ (b : Core). IsQuiet before b) (sym offers.3)
    (record {
      starts = count-no is_start before.history (events.Offered id) refl;
      firsts = count-no is_first before.history (events.Offered id) refl;
      losses = count-no is_loss before.history (events.Offered id) refl;
      workers = refl;
      retries = refl;
      copies = refl;
    })
quiet-offer before after job id (inr known) = quiet-is before after known.1

quiet-offers : (before after : Core) (jobs : List Prepared) (ids : List ℕ) → OffersAll before after jobs ids → IsQuiet before after
quiet-offers before after [] [] same = quiet-is before after (sym same)
quiet-offers before after [] (id ∷ ids) none = absurd none
quiet-offers before after (job ∷ jobs) [] none = absurd none
quiet-offers before after (job ∷ jobs) (id ∷ ids) all = quiet-trans before all.0 after (quiet-offer before all.0 job id all.1) (quiet-offers all.0 after jobs ids all.2)

-- a job was offered
pub quiet-offered : (before after : Core) (job : Prepared) (need : Need) (offer : Offer) → Offers before after job need offer → IsQuiet before after
quiet-offered before after job need (offers.Known id) is = quiet-is before after is.1
quiet-offered before after job need (offers.Full back) is = quiet-is before after is.3
quiet-offered before after job need (offers.Offered id) is =
    subst (λ (b : Core). IsQuiet before b) (sym is.3)
    (record {
      starts = count-no is_start before.history (events.Offered id) refl;
      firsts = count-no is_first before.history (events.Offered id) refl;
      losses = count-no is_loss before.history (events.Offered id) refl;
      workers = refl;
      retries = refl;
      copies = refl;
    })

-- a job was offered, or memory was refused
pub quiet-offer-tried : {E : Type 0} (before after : Core) (job : Prepared) (need : Need) (r : Result Offer E) → IfOk r (λ offer. Offers before after job need offer) → OnErr r (after ≡ before) → IsQuiet before after
quiet-offer-tried before after job need (Ok offer) ok err = quiet-offered before after job need offer ok
quiet-offer-tried before after job need (Err e) ok err = quiet-is before after err

-- jobs were offered ahead
pub quiet-settled : {E : Type 0} (before after : Core) (ready : List Prepared) (r : Result Settlement E) → IfOk r (λ s. Settles before after ready s) → OnErr r (OffersSome before after ready) → IsQuiet before after
quiet-settled before after ready (Ok s) ok err = quiet-offers before after ok.prefix s.ids ok.offered
quiet-settled before after ready (Err e) ok err = quiet-offers before after err.prefix err.ids err.offered
