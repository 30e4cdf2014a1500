-- All is gathered, and then files are changed.
use Rattle.std.proofs.Common.{◌≡◌, ◌+◌, ◌<◌, ℕ, zero, suc, List, [], ◌∷◌, ◌++◌, length, drop, get_or, map, Option, Some, None, Result, Ok, Err, refl, sym, ap, subst, ◌∙◌, append_assoc, append-nil, arith}
use Rattle.std.specs.List.{AllByRecursion}
use Rattle.object_name.specs.declared.trouble.Trouble.{Trouble}
use Rattle.object_name.specs.declared.trouble.Trouble.TheVariants as troubles
use Rattle.file_tree.specs.Files.{Files, Filed, ChangesPrefix, MayChange, after_change, all_changed, changed, filed_in}
use Rattle.file_tree.specs.declared.change.Change.{Change}
use Rattle.file_tree.specs.declared.model_fault.ApplyFault.TheVariants as faults
use Rattle.file_tree.proofs.PublicLaws.{may_be_changed}
use Rattle.build_plan.specs.declared.plan.Plan.{Plan}
use Rattle.build_plan.specs.declared.plan.Step.{Step}
use Rattle.build_plan.specs.Doing.{Why, Ended, Got, Doing, ◌>>=◌, give, go_on, each, state_after}
use Rattle.build_plan.specs.Way.{change_of, done, gathered, taken}
use Rattle.build_plan.proofs.FilesAreChanged.{HasChanged, changed-stop}
use Rattle.build_plan.proofs.FilesAreFound.{next-drop}
use Rattle.build_script.specs.declared.run_fault.RunFault.{RunFault}
use Rattle.build_script.specs.AtOnce.{Ran, file_changed, not_run}
use Rattle.build_script.specs.WholeTree.{ScansForCpp}
use Rattle.build_script.specs.WorkAtOnce.{Changes, DoesPlan, EndsPlan, Fares, Goes, Leads, PlanGoes, Reads, Stops, by_cards, fault_of_tree, why_of, with_done}
use Rattle.build_script.proofs.JobsAdded.{leads-more, leads-on, stops-bind, stops-on}
use Rattle.build_script.proofs.NothingDone.{no_changes}

-- ---- while steps are taken

module _ (steps : List Step) (files : Files) (i : ℕ) (items : List (List ℕ)) (so_far : Leads (gathered by_cards steps []) (gathered by_cards (drop i steps) items) files) (step : Step) (within : i < length steps) (is : step ≡ get_or steps i step) where
  abbrev later : List Step
  later = drop (i + 1) steps

  abbrev go : List ℕ → Doing Ran (List (List ℕ))
  go item = gathered by_cards later (items ++ item ∷ [])

  stands : Leads (gathered by_cards steps []) (gathered by_cards (step ∷ later) items) files
  stands = subst (λ (left : List Step). Leads (gathered by_cards steps []) (gathered by_cards left items) files) (next-drop steps i step within is) so_far

  pub steps-more : (item : List ℕ) → Goes (taken by_cards items step) files (Ok item) → Leads (gathered by_cards steps []) (gathered by_cards later (items ++ item ∷ [])) files
  steps-more item h = leads-on (gathered by_cards steps []) (gathered by_cards (step ∷ later) items) (go item) files stands (leads-more (taken by_cards items step) (give item) go files h)

  pub steps-stop : (why : Option Why) → Stops (taken by_cards items step) files why → Stops (gathered by_cards steps []) files why
  steps-stop why h = stops-on (gathered by_cards steps []) (gathered by_cards (step ∷ later) items) files why stands (stops-bind (taken by_cards items step) go files why h)

-- what holds of all steps holds of each
pub scan-step : (steps : List Step) (i : ℕ) (step : Step) → AllByRecursion ScansForCpp steps → i < length steps → step ≡ get_or steps i step → ScansForCpp step
scan-step [] i step h low is = absurd (omega (arith, low))
scan-step (x ∷ steps) zero step h low is = subst ScansForCpp (sym is) h.0
scan-step (x ∷ steps) (suc i) step h low is = scan-step steps i step h.1 (omega (arith, low)) is

-- while steps are taken, one after another
pub record IsTaking {T : Type 0} (tells : Type 0) (files : T → Files) (changes : T → List Change) (calls counts : T → ℕ) (retries : ℕ) (steps : List Step) (old now : T) (i : ℕ) (items : List (List ℕ)) : Type 0 where
  pub goes : tells → Leads (gathered by_cards steps []) (gathered by_cards (drop i steps) items) (files old)
  pub reads : Reads tells files changes calls counts retries old now 0

-- ---- changes

-- a change that failed was made or was not
pub changed-fault : (A : Type 0) (change : Change) (old new : Filed) (trouble : Trouble) → MayChange old.files change new.files → new.changes ≡ old.changes → Changes {A = A} (change ∷ []) old new (Err (fault_of_tree trouble))
changed-fault A change old new troubles.Failed may list = (refl, may_be_changed change old new may list)
changed-fault A change old new troubles.Memory may list = (refl, may_be_changed change old new may list)

-- while files are changed
pub record IsChanging {T : Type 0} (tells : Type 0) (files : T → Files) (changes : T → List Change) (calls counts : T → ℕ) (retries : ℕ) (all left : List Change) (old now : T) : Type 0 where
  pub made : tells → HasChanged all left (filed_in files changes old) (filed_in files changes now)
  pub fares : Fares tells calls counts retries old now 0

-- the next change is stopped
pub change-stop : (A B : Type 0) (all : List Change) (change : Change) (others : List Change) (before mid new : Filed) (fault : RunFault) → HasChanged all (change ∷ others) before mid
    → Changes {A = A} (change ∷ []) mid new (Err fault) → Changes {A = B} all before new (Err fault)
change-stop A B all change others before mid new fault h k = (k.0, changed-stop (Unit {0}) (Unit {0}) all change others before mid new faults.Memory h k.1)

-- ---- by the definition

-- a tree's files and its list, after some changes
abbrev with_changes : Ran → List Change → Ran
with_changes w changes = record w { files = changed w.files changes; changes = w.changes ++ changes }

record AllGiven (changes : List Change) (w : Ran) : Type 0 where
  given : List (Unit {0})
  got : each file_changed changes w ≡ Got given (with_changes w changes)

all-given : (changes : List Change) (w : Ran) → AllGiven changes w
all-given [] w = record { given = []; got = λ i. Got [] (record w { changes = sym (append-nil w.changes) i }) }
all-given (change ∷ changes) w =
    let next = record w { files = after_change w.files change; changes = w.changes ++ change ∷ [] } in
    let rest = all-given changes next in
    record {
      given = tt ∷ rest.given;
      got = ap (λ e. go_on e (λ ys. give (tt ∷ ys))) rest.got
          ∙ λ i. Got (tt ∷ rest.given) (record w { files = changed (after_change w.files change) changes; changes = append_assoc w.changes (change ∷ []) changes i });
    }

module _ (plan : Plan) (before mid after : Filed) (same : mid ≡ before) where
  abbrev plan_changes : List (List ℕ) → List Change
  plan_changes items = map (change_of by_cards items) plan.targets

  abbrev after_items : List (List ℕ) → Doing Ran (Unit {0})
  after_items items = each file_changed (plan_changes items) >>= λ given. give tt

  -- the steps stop
  pub plan-stops : (why : Option Why) → Stops (gathered by_cards plan.steps []) before.files why → EndsPlan plan before mid why
  plan-stops None h = no_changes _ before mid same
  plan-stops (Some why) h = (stops-bind (gathered by_cards plan.steps []) after_items before.files (Some why) h, same)

  module _ (items : List (List ℕ)) (taken : Goes (gathered by_cards plan.steps []) before.files (Ok items)) where
    plan-goes : (w : Ran) → w.files ≡ before.files → done by_cards plan w ≡ Got tt (with_done w taken.jobs (plan_changes items))
    plan-goes w at =
        let given = all-given (plan_changes items) (record w { jobs = w.jobs ++ taken.jobs }) in
        ap (λ e. go_on e after_items) (taken.goes_on w at) ∙ ap (λ e. go_on e (λ given. give tt)) given.got

    -- all changes are made
    plan-does : after ≡ all_changed mid (plan_changes items) → DoesPlan plan before after
    plan-does made = record { jobs = taken.jobs; changes = plan_changes items; goes = plan-goes; made = made ∙ ap (λ f. all_changed f (plan_changes items)) same }

    -- a prefix of them is
    plan-cut : (why : Option Why) → why ≡ None → ChangesPrefix (plan_changes items) mid after → EndsPlan plan before after why
    plan-cut why none h =
        subst (EndsPlan plan before after) (sym none)
        (subst (λ (e : Ended Ran (Unit {0})). ChangesPrefix (state_after e).changes before after) (sym (plan-goes (not_run before.files) refl)) (subst (λ f. ChangesPrefix (plan_changes items) f after) same h))

    pub plan-end : (r : Result (Unit {0}) RunFault) → Changes (plan_changes items) mid after r → PlanGoes plan before after r
    plan-end (Ok x) h = plan-does h
    plan-end (Err fault) h = plan-cut (why_of fault) h.0 h.1
