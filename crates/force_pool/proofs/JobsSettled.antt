-- One job more is settled.
use Rattle.std.proofs.Common.{◌≡◌, ℕ, List, [], ◌∷◌, ◌++◌, refl, sym, ap, ◌∙◌, append_assoc, append-nil, subst}
use Rattle.need_eval.specs.declared.prepared.Prepared.{Prepared}
use Rattle.force_core.specs.Book.{Core}
use Rattle.force_pool.specs.Settling.{Settles, OffersAll, OffersAs, OffersSome, TakesOn, KeepsBack}

all-push : (before between after : Core) (jobs : List Prepared) (ids : List ℕ) (job : Prepared) (id : ℕ) → OffersAll before between jobs ids → OffersAs between after job id → OffersAll before after (jobs ++ job ∷ []) (ids ++ id ∷ [])
all-push before between after [] [] job id all one = (after, subst (λ (b : Core). OffersAs b after job id) (sym all) one, refl)
all-push before between after [] (i ∷ is) job id all one = absurd all
all-push before between after (q ∷ qs) [] job id all one = absurd all
all-push before between after (q ∷ qs) (i ∷ is) job id all one = (all.0, all.1, all-push all.0 between after qs is job id all.2 one)

-- a job was taken on or known
pub settles-taken : (first before after : Core) (done : List Prepared) (ids : List ℕ) (left_before left_after : List Prepared) (job : Prepared) (id : ℕ)
    → Settles first before done (record { ids = ids; left = left_before }) → TakesOn before after left_before left_after job id → Settles first after (done ++ job ∷ []) (record { ids = ids ++ id ∷ []; left = left_after })
settles-taken first before after done ids left_before left_after job id s t =
    let whole : s.prefix ≡ done = sym (append-nil s.prefix) ∙ ap (λ (l : List Prepared). s.prefix ++ l) (sym t.none_left) ∙ s.split in
    record {
      prefix = s.prefix ++ job ∷ [];
      split = rw t.none_still (append-nil (s.prefix ++ job ∷ []) ∙ ap (λ (l : List Prepared). l ++ job ∷ []) whole);
      offered = all-push first before after s.prefix ids job id s.offered t.offers;
      full = rw t.none_still tt;
    }

-- a job is left
pub settles-kept : (first before after : Core) (done : List Prepared) (ids : List ℕ) (left_before left_after : List Prepared) (job : Prepared)
    → Settles first before done (record { ids = ids; left = left_before }) → KeepsBack before after left_before left_after job → Settles first after (done ++ job ∷ []) (record { ids = ids; left = left_after })
settles-kept first before after done ids left_before left_after job s k = record {
  prefix = s.prefix;
  split = ap (λ (l : List Prepared). s.prefix ++ l) k.left ∙ sym (append_assoc s.prefix left_before (job ∷ [])) ∙ ap (λ (l : List Prepared). l ++ job ∷ []) s.split;
  offered = subst (λ (b : Core). OffersAll first b s.prefix ids) (sym k.same) s.offered;
  full = k.full;
}

-- where memory is refused, those before were offered
pub settles-some : (first now after : Core) (done rest ready : List Prepared) (ids : List ℕ) (left : List Prepared) → Settles first now done (record { ids = ids; left = left }) → done ++ rest ≡ ready → after ≡ now → OffersSome first after ready
settles-some first now after done rest ready ids left s split same = record {
  prefix = s.prefix;
  others = left ++ rest;
  ids = ids;
  split = sym (append_assoc s.prefix left rest) ∙ ap (λ (l : List Prepared). l ++ rest) s.split ∙ split;
  offered = subst (λ (b : Core). OffersAll first b s.prefix ids) (sym same) s.offered;
}
