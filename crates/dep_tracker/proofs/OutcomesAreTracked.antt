-- What a tracker has after any calls.
use Rattle.std.proofs.Common.{◌≡◌, List, [], ◌∷◌, fold, refl, sym, ap, ◌∙◌, subst}
use Rattle.object_name.specs.Name.{ObjectName}
use Rattle.thunk_codec.specs.declared.reference.Ref.{Ref}
use Rattle.dep_tracker.specs.Known.{Known, begun, same_ref}
use Rattle.dep_tracker.specs.Reach.{IsReach, leads_to}
use Rattle.dep_tracker.specs.Tracked.{Tracked, Call, IsReady, AreReady, IsTracked, Lists, Begins, Follows, Leads, done, called, IsAfter, learn, barred_by, unknown_still, with_all_new}
use Rattle.dep_tracker.proofs.NamesAreCompared.{ref-self, ref-equal}
use Rattle.dep_tracker.proofs.WalksMeetReach.{unique}
use Rattle.dep_tracker.proofs.ThunksAreReady.{picks_one}
use Rattle.dep_tracker.proofs.CallsAreTracked.{lists-tracked, listed-begun, tracked-after}

leads-tracked : (t : Tracked) (calls : List Call) (end : Tracked) → Leads t calls end → IsTracked t → IsTracked end
leads-tracked _ _ _ (done t) tracked = tracked
leads-tracked _ _ _ (called t call after calls end may follows rest) tracked =
    leads-tracked after calls end rest (tracked-after t tracked call after may follows)

-- whatever calls there were, what is unknown and ready is so by what is in reach
pub after-tracked : (roots : List Ref) (calls : List Call) (t : Tracked) → IsAfter roots calls t → IsTracked t
after-tracked roots calls t a =
    leads-tracked a.first calls t a.leads (lists-tracked (begun roots) [] [] a.first (listed-begun roots) a.begins)

leads-known : (t : Tracked) (calls : List Call) (end : Tracked) → Leads t calls end → end.known ≡ fold learn t.known calls
leads-known _ _ _ (done t) = refl
leads-known _ _ _ (called t call after calls end may follows rest) = leads-known after calls end rest ∙ ap (λ k. fold learn k calls) follows.same_known

leads-barred : (t : Tracked) (calls : List Call) (end : Tracked) → Leads t calls end → end.barred ≡ fold barred_by t.barred calls
leads-barred _ _ _ (done t) = refl
leads-barred _ _ _ (called t call after calls end may follows rest) = leads-barred after calls end rest ∙ ap (λ b. fold barred_by b calls) follows.same_barred

-- what is known and barred is given by the roots and the calls
pub after-known : (roots : List Ref) (calls : List Call) (t : Tracked) → IsAfter roots calls t → t.known ≡ fold learn (begun roots) calls
after-known roots calls t a = leads-known a.first calls t a.leads ∙ ap (λ k. fold learn k calls) a.begins.same_known

pub after-barred : (roots : List Ref) (calls : List Call) (t : Tracked) → IsAfter roots calls t → t.barred ≡ fold barred_by [] calls
after-barred roots calls t a = leads-barred a.first calls t a.leads ∙ ap (λ b. fold barred_by b calls) a.begins.same_barred

-- one state lists what is known, barred and listed
lists-one : (k : Known) (barred listed : List ObjectName) (t u : Tracked) → Lists k barred listed t → Lists k barred listed u → t ≡ u
lists-one k barred listed t u a b =
    let walks = unique same_ref (leads_to k.absorbed k.added) ref-equal ref-self [] k.roots a.reach b.reach a.walk b.walk in
    let known = a.same_known ∙ sym b.same_known in
    let same = a.same_barred ∙ sym b.same_barred in
    let unknown = a.unknown ∙ ap (with_all_new k barred listed) walks ∙ sym b.unknown in
    let ready = picks_one (IsReady k barred) k.added t.ready u.ready a.ready b.ready in
    λ i. record { known = known i; barred = same i; unknown = unknown i; ready = ready i }

leads-one : (t : Tracked) (calls : List Call) (one two : Tracked) → Leads t calls one → Leads t calls two → one ≡ two
leads-one _ _ _ _ (done t) (done _) = refl
leads-one _ _ _ _ (called t call after calls one may follows rest) (called _ _ other _ two _ follows' rest') =
    leads-one after calls one two rest (subst (λ s. Leads s calls two) (sym (lists-one _ _ _ after other follows follows')) rest')

-- the same roots and calls lead to the same
pub after-one : (roots : List Ref) (calls : List Call) (t u : Tracked) → IsAfter roots calls t → IsAfter roots calls u → t ≡ u
after-one roots calls t u a b =
    leads-one a.first calls t u a.leads (subst (λ s. Leads s calls u) (sym (lists-one _ _ _ a.first b.first a.begins b.begins)) b.leads)
