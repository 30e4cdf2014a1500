-- Where a walker waits at a job, the evaluation with the outcomes given so far stands there.
use Rattle.std.proofs.Common.{◌≡◌, List, ◌∷◌, ◌++◌, length, None, refl, sym, ap, ◌∙◌, arith}
use Rattle.std.proofs.lemmas.Option.{slice_get_past}
use Rattle.object_name.specs.Name.{ObjectName}
use Rattle.thunk_codec.specs.declared.reference.Ref.{Ref}
use Rattle.thunk_codec.specs.declared.job.Outcome.{Outcome}
use Rattle.blob_store.specs.Keeping.{Kept}
use Rattle.blob_store.specs.Store.{Write}
use Rattle.need_eval.specs.declared.prepared.Prepared.{Prepared}
use Rattle.need_eval.specs.declared.walker.Walker.{Walker}
use Rattle.need_eval.specs.Eval.{State, Stands, Ended, Stopped, go_on, start}
use Rattle.need_eval.specs.Evaluation.{values_of, by_list}
use Rattle.need_eval.specs.Machine.{resume}
use Rattle.need_eval.specs.WritePrefix.{state_after, StopsWith, ListsAll}
use Rattle.need_eval.specs.Walking.{walking, innermost, StandsAt}
use Rattle.need_eval.specs.Walk.{IsWalk}
use Rattle.need_eval.proofs.ListsAnswer.{list-answers}
use Rattle.need_eval.proofs.OneTurn.{turn-leave-ends, reduce-stands, after_leaving}

pub walk-stands : (refs : List Ref) (first : Kept) (given : List Outcome) (w : Walker) (now : Kept) (p : Prepared) → IsWalk refs first given w now → StandsAt w now.store p →
    StopsWith (Stands p.text p.job) (values_of (by_list given) w.budget refs (start first.store)) now.store × ListsAll first.writes (values_of (by_list given) w.budget refs (start first.store)) now
walk-stands refs first given w now p walk stands =
    let answer = by_list given in
    let s : State = walking w now.store walk.writes walk.asked in
    let inner = stands.inner in
    let none : answer (length s.asked) p.job ≡ None = slice_get_past given (length walk.asked) (omega (arith, walk.number)) in
    let stopped : values_of answer w.budget refs (start first.store) ≡ Stopped (Stands p.text p.job) s =
    walk.same answer (list-answers walk.asked given walk.number)
    ∙ ap (λ frames. resume answer w.budget frames w.level.done w.level.rest.items s) stands.frames
    ∙ ap (λ rest. resume answer w.budget (inner ∷ stands.outer) w.level.done rest s) stands.no_rest
    ∙ turn-leave-ends answer w.budget inner stands.outer w.level.done s
    ∙ ap (λ e. go_on e (after_leaving answer w.budget inner stands.outer))
    (reduce-stands answer inner.name (innermost inner w.level.done) p.job s stands.small stands.no_hit (stands.job s refl) none
    ∙ ap (λ text. Stopped (Stands text p.job) s) (sym stands.text)) in
    (record { last = s; stopped = stopped; store = refl }, walk.list ∙ ap (λ (writes : List Write). first.writes ++ writes) (sym (ap (λ (e : Ended (List ObjectName)). (state_after e).writes) stopped)))
