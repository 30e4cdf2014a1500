-- What is left of an evaluation after the outcome of a job.
use Rattle.std.proofs.Common.{◌≡◌, inl, ℕ, List, [], ◌∷◌, ◌++◌, length, drop, Option, Some, refl, sym, ap, subst, ◌∙◌, append-nil}
use Rattle.std.specs.Prelude.{if◌then◌else◌, IfSome, IsSome, None}
use Rattle.std.specs.Option.{option_map}
use Rattle.std.specs.Ordering.{eq_by_cmp}
use Rattle.object_name.specs.Name.{ObjectName, name_cmp}
use Rattle.thunk_codec.specs.declared.reference.Ref.TheVariants.{Out}
use Rattle.thunk_codec.specs.declared.job.Job.{Job}
use Rattle.thunk_codec.specs.declared.job.Outcome.{Outcome}
use Rattle.thunk_codec.specs.Thunk.{Parts}
use Rattle.blob_store.specs.Keeping.{Kept}
use Rattle.blob_store.specs.Store.{Write, written}
use Rattle.need_eval.specs.declared.fault.EvalFault.{EvalFault}
use Rattle.need_eval.specs.declared.fault.EvalFault.TheVariants as faults
use Rattle.need_eval.specs.declared.frame.Frame.{Frame}
use Rattle.need_eval.specs.declared.prepared.Prepared.{Prepared}
use Rattle.need_eval.specs.declared.stage.Stage.{Stage}
use Rattle.need_eval.specs.declared.waiting.Waiting.{Waiting}
use Rattle.need_eval.specs.declared.walker.Walker.{Walker}
use Rattle.need_eval.specs.Eval.{State, Ended, Got, Eval, go_on, ◌>>=◌, give, mark}
use Rattle.need_eval.specs.Evaluation.{finished, reduce}
use Rattle.need_eval.specs.Machine.{resume}
use Rattle.need_eval.specs.WritePrefix.{state_after, IsAt, StopsPartWay, Stops}
use Rattle.need_eval.specs.WriteContracts.{Puts, after_writes}
use Rattle.need_eval.specs.WalkerInvariant.{waiting_in}
use Rattle.need_eval.specs.Walking.{walking, left, reduced_at, innermost, StandsAt, Supplied}
use Rattle.need_eval.specs.TurnContracts.{IsReady, Leaves}
use Rattle.need_eval.proofs.StoreIsWritten.{Grows-stay}
use Rattle.need_eval.proofs.StopsFromEarlier.{Stops-earlier}
use Rattle.need_eval.proofs.StopsOfTheWhole.{Stops-on, turn-leave-faults}
use Rattle.need_eval.proofs.OneTurn.{marked, asked_for, turn-leave, reduce-run, marked-reduced}
use Rattle.need_eval.proofs.ThunkIsLeft.{prefix}

-- the frames of a walker, seen in another way, are the same
same-inner : {inner other : Frame} {outer others : List Frame} (w : Walker) → w.frames.items ≡ inner ∷ outer → w.frames.items ≡ other ∷ others → inner ≡ other
same-inner {inner = inner} w first second = ap (prefix inner) (sym first ∙ second)

same-outer : {inner other : Frame} {outer others : List Frame} (w : Walker) → w.frames.items ≡ inner ∷ outer → w.frames.items ≡ other ∷ others → outer ≡ others
same-outer w first second = ap (λ (frames : List Frame). drop 1 frames) (sym first ∙ second)

-- a thunk that was left, by those frames
leaves-as : (w after : Walker) (outputs : List ObjectName) → Leaves w after outputs → (inner : Frame) (outer : List Frame) → w.frames.items ≡ inner ∷ outer → Leaves w after outputs
leaves-as w after outputs leaves inner outer frames =
    let same = same-inner w leaves.frames frames in
    record {
      inner = inner;
      outer = outer;
      frames = frames;
      left_frames = leaves.left_frames ∙ same-outer w leaves.frames frames;
      done = leaves.done ∙ ap (λ (frame : Frame). frame.outer.done) same;
      rest = leaves.rest ∙ ap (λ (frame : Frame). Out frame.name frame.index ∷ frame.outer.rest.items) same;
      reduced = λ other. leaves.reduced other ∙ ap (λ (frame : Frame). if eq_by_cmp name_cmp frame.name other then Some outputs else reduced_at w other) same;
      steps = leaves.steps;
    }

-- what was put in is a prefix of all writes
puts-prefix : {A : Type 0} (m : Eval A) (x : A) (old now : Kept) → Puts m x old now → (first : List Write) (s : State) → IsAt first s old → StopsPartWay first s (m s) now
puts-prefix m x old now puts first s at = record {
  part = record {
    prefix = puts.made;
    others = [];
    list = ap (λ e. (state_after e).writes) (puts.does s at.store) ∙ ap (λ writes. s.writes ++ writes) (sym (append-nil puts.made));
    kept = puts.put ∙ ap (λ store. written store puts.made) (sym at.store);
  };
  listed = inl (puts.list ∙ ap (λ (writes : List Write). writes ++ puts.made) at.list);
}

-- what holds of the job that is waited for
pub for-blocked : (stage : Stage) (waiting : Waiting) (P : Prepared → Type 0) → waiting_in stage ≡ Some waiting → P waiting.prepared → IfSome (option_map (λ waiting. waiting.prepared) (waiting_in stage)) P
for-blocked stage waiting P is h = subst (λ (found : Option Waiting). IfSome (option_map (λ waiting. waiting.prepared) found) P) (sym is) h

pub of-blocked : (stage : Stage) (waiting : Waiting) (P : Prepared → Type 0) → waiting_in stage ≡ Some waiting → IfSome (option_map (λ waiting. waiting.prepared) (waiting_in stage)) P → P waiting.prepared
of-blocked stage waiting P is h = subst (λ (found : Option Waiting). IfSome (option_map (λ waiting. waiting.prepared) found) P) is h

-- where a job is waited for, that is known
pub some-waiting : (found : Option Waiting) → IsSome (option_map (λ (waiting : Waiting). waiting.prepared) found) → IsSome found
some-waiting (Some waiting) some = refl
some-waiting None some = some

module _ (w : Walker) (old : Kept) (p : Prepared) (outcome : Outcome) (stands : StandsAt w old.store p) where
  -- the resolved thunk, and its name
  abbrev pub whole : Parts
  whole = innermost stands.inner w.level.done

  pub same-name : (name : ObjectName) → IsReady w name → name ≡ stands.inner.name
  same-name name ready = ready.named ∙ ap (λ (frame : Frame). frame.name) (same-inner w ready.frames stands.frames)

  module _ (answer : ℕ → Job → Option Outcome) (writes : List Write) (asked : List Job) (answers : answer (length asked) p.job ≡ Some outcome) where
    abbrev here : State
    here = walking w old.store writes asked

    abbrev then_marked : List ObjectName → Eval (List ObjectName)
    then_marked outputs = mark stands.inner.name outputs >>= λ _. give outputs

    at-inner : left answer w here ≡ resume answer w.budget (stands.inner ∷ stands.outer) w.level.done [] here
    at-inner = λ i. resume answer w.budget (stands.frames i) w.level.done (stands.no_rest i) here

    runs : reduce answer stands.inner.name whole here ≡ go_on (finished stands.inner.name whole outcome (asked_for p.job here)) then_marked
    runs = reduce-run answer stands.inner.name whole p.job outcome here stands.small stands.no_hit (stands.job here refl) answers

    -- the writing fails
    pub supplies-stops : (now : Kept) (fault : EvalFault) → ((first : List Write) (s : State) → IsAt first s old → Stops first s (finished stands.inner.name whole outcome s) now fault) → (first : List Write) → old.writes ≡ first ++ writes → Stops first here (left answer w here) now fault
    supplies-stops now fault stops first list =
        let u = asked_for p.job here in
        let part : Stops first u (go_on (finished stands.inner.name whole outcome u) then_marked) now fault =
        Stops-on first u (finished stands.inner.name whole outcome u) then_marked now fault (λ outputs s. Grows-stay s _ refl refl) (stops first u (record { store = refl; list = list })) in
        let reduced : Stops first u (reduce answer stands.inner.name whole here) now fault = subst (λ (e : Ended (List ObjectName)). Stops first u e now fault) (sym runs) part in
        subst (λ (e : Ended (List ObjectName)). Stops first here e now fault) (sym at-inner)
        (turn-leave-faults answer w.budget stands.inner stands.outer w.level.done first here now fault
        (Stops-earlier first here u (reduce answer stands.inner.name whole here) now fault (Grows-stay here u refl refl) reduced))

    -- all is written, and then memory is wanted
    pub supplies-prefix : (outputs : List ObjectName) (now : Kept) → Puts (finished stands.inner.name whole outcome) outputs old now → (first : List Write) → old.writes ≡ first ++ writes → StopsPartWay first here (left answer w here) now
    supplies-prefix outputs now puts = supplies-stops now faults.Memory (puts-prefix (finished stands.inner.name whole outcome) outputs old now puts)

    -- all is written, and the thunk is left
    goes : (after : Walker) (outputs : List ObjectName) (now : Kept) (puts : Puts (finished stands.inner.name whole outcome) outputs old now) → after.budget ≡ w.budget → Leaves w after outputs → left answer w here ≡ left answer after (walking after now.store (writes ++ puts.made) (asked ++ p.job ∷ []))
    unfolding leaves-as
    goes after outputs now puts budget leaves =
        let there = leaves-as w after outputs leaves stands.inner stands.outer stands.frames in
        let u = after_writes (asked_for p.job here) puts.made in
        let last = marked stands.inner.name outputs u in
        let reduced : reduce answer stands.inner.name whole here ≡ Got outputs last = runs ∙ ap (λ e. go_on e then_marked) (puts.does (asked_for p.job here) refl) in
        let states : last ≡ walking after now.store (writes ++ puts.made) (asked ++ p.job ∷ []) = λ i. record {
          store = sym puts.put i;
          reduced = λ other. sym (there.reduced other) i;
          steps = sym there.steps i;
          writes = writes ++ puts.made;
          asked = asked ++ p.job ∷ [];
        } in
        at-inner
        ∙ turn-leave answer w.budget stands.inner stands.outer w.level.done outputs here last reduced (marked-reduced stands.inner.name outputs u)
        ∙ λ i. resume answer (sym budget i) (sym there.left_frames i) (sym there.done i) (sym there.rest i) (states i)

  pub supplied : (after : Walker) (outputs : List ObjectName) (now : Kept) → Puts (finished stands.inner.name whole outcome) outputs old now → after.budget ≡ w.budget → Leaves w after outputs → Supplied w after p outcome old now
  supplied after outputs now puts budget leaves = record {
    made = puts.made;
    put = puts.put;
    list = puts.list;
    goes = λ answer writes asked answers. goes answer writes asked answers after outputs now puts budget leaves;
  }
