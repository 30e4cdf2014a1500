-- Jobs that are offered ahead to a book, one after another.
use Rattle.std.specs.Prelude.{◌≡◌, ◌⊎◌, ℕ, List, [], ◌∷◌, ◌++◌}
use Rattle.need_eval.specs.declared.prepared.Prepared.{Prepared}
use Rattle.force_core.specs.declared.offer.Need.TheVariants.{Ahead}
use Rattle.force_core.specs.declared.offer.Offer.TheVariants.{Offered, Known, Full}
use Rattle.force_core.specs.Book.{Core}
use Rattle.force_core.specs.Known.{Offers}

-- the numbers of the jobs that the book has taken on or knew, and the jobs that are left
pub record Settlement : Type 0 where
  pub ids : List ℕ
  pub left : List Prepared

-- a job was offered, and the book has taken it on or knew it, under this number
abbrev pub OffersAs : Core → Core → Prepared → ℕ → Type 0
OffersAs before after job id = Offers before after job Ahead (Offered id) ⊎ Offers before after job Ahead (Known id)

-- each of some jobs was offered so, in order, with these numbers
abbrev pub OffersAll : Core → Core → List Prepared → List ℕ → Type 0
OffersAll before after [] [] = before ≡ after
OffersAll before after [] (id ∷ ids) = ⊥
OffersAll before after (job ∷ jobs) [] = ⊥
OffersAll before after (job ∷ jobs) (id ∷ ids) = (between : Core) × OffersAs before between job id × OffersAll between after jobs ids

-- the book has no room for the first of these jobs
abbrev pub IsFull : Core → List Prepared → Type 0
IsFull book [] = Unit {0}
IsFull book (job ∷ jobs) = Offers book book job Ahead (Full job)

-- some jobs were offered in order, each of them, or those before the first for which the book has no room
pub record Settles (before after : Core) (ready : List Prepared) (s : Settlement) : Type 0 where
  pub prefix : List Prepared
  pub split : prefix ++ s.left ≡ ready
  pub offered : OffersAll before after prefix s.ids
  pub full : IsFull after s.left

-- those of a prefix of some jobs were offered
pub record OffersSome (before after : Core) (ready : List Prepared) : Type 0 where
  pub prefix : List Prepared
  pub others : List Prepared
  pub ids : List ℕ
  pub split : prefix ++ others ≡ ready
  pub offered : OffersAll before after prefix ids

-- a job was taken on or known, where none is left
pub record TakesOn (before after : Core) (left_before left_after : List Prepared) (job : Prepared) (id : ℕ) : Type 0 where
  pub none_left : left_before ≡ []
  pub none_still : left_after ≡ []
  pub offers : OffersAs before after job id

-- a job is left
pub record KeepsBack (before after : Core) (left_before left_after : List Prepared) (job : Prepared) : Type 0 where
  pub same : after ≡ before
  pub left : left_after ≡ left_before ++ job ∷ []
  pub full : IsFull after left_after
