-- How each step of forcing over links ended makes the answer of the whole.
use Rattle.std.proofs.Common.{◌≡◌, ℕ, List, [], Option, Some, None, Result, Ok, Err, IsErr, IsErrAnd, refl, sym, ap, subst, Bool, true, false}
use Rattle.std.proofs.lemmas.Bool.{false≢true}
use Rattle.std.specs.List.{AllByRecursion}
use Rattle.object_name.specs.Name.{ObjectName}
use Rattle.thunk_codec.specs.declared.reference.Ref.{Ref}
use Rattle.thunk_codec.specs.declared.job.Job.{Job}
use Rattle.thunk_codec.specs.declared.job.Outcome.{Outcome}
use Rattle.blob_store.specs.Store.{Store, written}
use Rattle.blob_store.specs.Keeping.{Kept}
use Rattle.file_tree.specs.Files.{Filed, Files}
use Rattle.file_tree.specs.Wanted.{wanted_of}
use Rattle.file_tree.specs.declared.item.Item.{Item}
use Rattle.file_tree.specs.declared.refusal.FileRefusal.{FileRefusal}
use Rattle.need_eval.specs.declared.evaluating.Values.{Values}
use Rattle.need_eval.specs.declared.fault.EvalFault.{EvalFault}
use Rattle.need_eval.specs.declared.fault.EvalFault.TheVariants as evals
use Rattle.need_eval.specs.declared.fault.Refusal.{Refusal}
use Rattle.need_eval.specs.declared.fault.Refusal.TheVariants as refusals
use Rattle.need_eval.specs.Eval.{Ended, start}
use Rattle.need_eval.specs.Evaluation.{values_of, by_list}
use Rattle.need_eval.specs.Evaluating.{EvaluatesSome}
use Rattle.need_eval.specs.MetObjects.{AreHeld}
use Rattle.need_eval.specs.StepContracts.{HasKeeperCause, KeeperCause}
use Rattle.need_eval.specs.WritePrefix.{AreAnswers, Does, state_after}
use Rattle.need_eval.proofs.PublicLaws.{store_is_written, values-held, outputs-begin}
use Rattle.force_pool.specs.declared.fault.ForceFault.{ForceFault}
use Rattle.force_pool.specs.declared.fault.ForceFault.TheVariants as pools
use Rattle.force_pool.specs.declared.report.Report.{Report}
use Rattle.force_pool.specs.Forcing.{as_evaluated}
use Rattle.force_pool.proofs.CallsConclude.{unbegun-evaluates}
use Rattle.gg_cli.specs.declared.fault.TopFault.{TopFault}
use Rattle.gg_cli.specs.declared.fault.TopFault.TheVariants as tops
use Rattle.gg_cli.specs.declared.linked_fault.LinkedFault.{LinkedFault}
use Rattle.gg_cli.specs.declared.linked_fault.LinkedFault.TheVariants as linked
use Rattle.gg_cli.specs.Answer.{Answer, ended_by, forced_with, wanted_forced_with}
use Rattle.gg_cli.specs.Comes.{Made, Counts, TopCause}
use Rattle.gg_cli.specs.Endings.{ending_of}
use Rattle.gg_cli.specs.LowerFaults.{IsFaultOf}
use Rattle.gg_cli.specs.StepContracts.{EndsAt, HandsOutWith, HasValues}
use Rattle.gg_cli.specs.declared.command.Command.{Command}
use Rattle.gg_cli.specs.declared.command.Command.TheVariants.{ForceWith}
use Rattle.gg_cli.specs.Words.{command_linked}
use Rattle.gg_cli.specs.Linked.{asked_by, asked_for, command_answer, command_asks, linked_answer}
use Rattle.gg_cli.specs.LinkedSteps.{EndOverCause, EndsOver, EndsOverAt, EndsSome, HoldsValues, IsFaultOver, NamesOver, NoRunFailed, conclude_counts, conclude_made, linked_status}
use Rattle.gg_cli.proofs.PartsCauseTheWhole.{TopCause-within, Within}
use Rattle.gg_cli.proofs.StepsMakeTheAnswer.{ends_at, has_values, part_way, values_handed}

-- ---- results

abbrev is_ok : Result (List ObjectName) LinkedFault → Bool
is_ok (Ok names) = true
is_ok (Err fault) = false

ok≢err : (values : Values) (over : LinkedFault) → NamesOver (Ok values) (Err over) → ⊥
ok≢err values over is = false≢true (ap (λ (x : Result (List ObjectName) LinkedFault). is_ok x) is)

-- the names in an answer, if there are some
abbrev names_in : Result (List ObjectName) LinkedFault → List ObjectName
names_in (Ok names) = names
names_in (Err fault) = []

names_same : (values : Values) (names : List ObjectName) → NamesOver (Ok values) (Ok names) → names ≡ values.names
names_same values names is = ap (λ (x : Result (List ObjectName) LinkedFault). names_in x) is

-- ---- a fault that is handed on

pub EndsOver-handed : {T : Type 0} (a : Answer) (m : Made) (r : Result T LinkedFault) (fault : LinkedFault) → IsErr r × IsErrAnd r (λ d. d ≡ fault) → EndsOverAt a m fault → EndsOver a m r
EndsOver-handed a m (Ok v) fault h ends = absurd h.1
EndsOver-handed a m (Err d) fault h ends = rw h.1 ends

pub EndOverCause-handed : {T : Type 0} (retries : ℕ) (c : Counts) (r : Result T LinkedFault) (fault : LinkedFault) → IsErr r × IsErrAnd r (λ d. d ≡ fault) → TopCause retries c (linked_status fault)
    → EndOverCause retries c r
EndOverCause-handed retries c (Ok v) fault h cause = absurd h.1
EndOverCause-handed retries c (Err d) fault h cause = rw h.1 cause

-- ---- the values

module _ (outcomes : ℕ → Job → Option Outcome) (budget : ℕ) (refs : List Ref) (before now : Kept) where
  abbrev Evaluated : Ended (List ObjectName)
  Evaluated = values_of outcomes budget refs (start before.store)

  -- the evaluation gave these values, which are held
  pub values_over : (values : Values) → Does before.writes (start before.store) Evaluated now (Ok values) → HasValues Evaluated values.names before now
  values_over values does =
      has_values Evaluated before now (store_is_written outcomes budget refs before.store) values.names values.steps
      (λ last got. values-held outcomes budget refs (start before.store) values.names last (outputs-begin before.store) got) does.0 does.1

  module _ (text : List ObjectName → List Item → List ℕ) (items : List Item) (files : Filed) (told : Option (List ℕ)) where
    abbrev EndsHere : LinkedFault → Type 0
    EndsHere over = EndsOverAt (forced_with text items Evaluated) (conclude_made before now files files told told) over

    law : (state_after Evaluated).store ≡ written before.store (state_after Evaluated).writes
    law = store_is_written outcomes budget refs before.store

    evaluation_over : (fault : EvalFault) (over : LinkedFault) → Does before.writes (start before.store) Evaluated now (Err fault) → IsFaultOver (pools.Eval fault) over → EndsHere over
    evaluation_over fault (linked.Top top) does is = ends_at Evaluated before now law text items files told fault top does is
    evaluation_over fault (linked.Differs resolved first second) does is = absurd is
    evaluation_over fault linked.LinksLost does is = absurd is

    -- there are no values
    pub fault_over : (fault : ForceFault) (over : LinkedFault) → Does before.writes (start before.store) Evaluated now (as_evaluated (Err fault)) → IsFaultOver fault over → EndsHere over
    fault_over (pools.Eval fault) over does is = evaluation_over fault over does is
    fault_over (pools.Differs resolved first second) over does is = rw is (part_way Evaluated before now law text items files told does)
    fault_over pools.LinksLost over does is = rw is (part_way Evaluated before now law text items files told does)
    fault_over pools.Memory over does is = rw is (ends_at Evaluated before now law text items files told evals.Memory tops.Memory does refl)

-- values that links gave are held
pub holds_values : (tells : Job → Type 0) (outcome : Job → Outcome) (budget : ℕ) (refs : List Ref) (before now : Kept) (end' : Result Values ForceFault)
    → EvaluatesSome tells outcome budget refs before now (as_evaluated end') → HoldsValues now.store end'
holds_values tells outcome budget refs before now (Ok values) some = (values_over (by_list some.given) budget refs before now values some.does).held
holds_values tells outcome budget refs before now (Err fault) some = tt

-- no run failed
pub no_run_failed : (retries before after : ℕ) (end' : Result Values ForceFault) → HasKeeperCause retries before after (as_evaluated end') → NoRunFailed end'
no_run_failed retries before after (Ok values) cause = tt
no_run_failed retries before after (Err (pools.Eval (evals.Refused refusal))) cause = tt
no_run_failed retries before after (Err (pools.Eval (evals.Clash name found fresh))) cause = tt
no_run_failed retries before after (Err (pools.Eval evals.StoreFailed)) cause = tt
no_run_failed retries before after (Err (pools.Eval evals.RunFailed)) cause = cause.cause
no_run_failed retries before after (Err (pools.Eval evals.Memory)) cause = tt
no_run_failed retries before after (Err (pools.Differs resolved first second)) cause = tt
no_run_failed retries before after (Err pools.LinksLost) cause = tt
no_run_failed retries before after (Err pools.Memory) cause = tt

-- ---- names

-- the values have these names
pub names_over : (end' : Result Values ForceFault) (names : List ObjectName) (store : Store) → NamesOver end' (Ok names) → HoldsValues store end' → AreHeld store names
names_over (Ok values) names store is held = subst (λ (l : List ObjectName). AreHeld store l) (sym (names_same values names is)) held
names_over (Err fault) names store is held = absurd is

-- the evaluation gave values with these names
pub names_found : (outcomes : ℕ → Job → Option Outcome) (budget : ℕ) (refs : List Ref) (before now : Kept) (end' : Result Values ForceFault) (names : List ObjectName) → NamesOver end' (Ok names)
    → Does before.writes (start before.store) (values_of outcomes budget refs (start before.store)) now (as_evaluated end') → HasValues (values_of outcomes budget refs (start before.store)) names before now
names_found outcomes budget refs before now (Ok values) names is does =
    subst (λ (l : List ObjectName). HasValues (values_of outcomes budget refs (start before.store)) l before now) (sym (names_same values names is)) (values_over outcomes budget refs before now values does)
names_found outcomes budget refs before now (Err fault) names is does = absurd is

-- there are no names
pub names_missed : (outcomes : ℕ → Job → Option Outcome) (budget : ℕ) (refs : List Ref) (before now : Kept) (text : List ObjectName → List Item → List ℕ) (items : List Item) (files : Filed) (told : Option (List ℕ))
    (end' : Result Values ForceFault) (over : LinkedFault) → NamesOver end' (Err over)
    → Does before.writes (start before.store) (values_of outcomes budget refs (start before.store)) now (as_evaluated end')
    → EndsOverAt (forced_with text items (values_of outcomes budget refs (start before.store))) (conclude_made before now files files told told) over
names_missed outcomes budget refs before now text items files told (Ok values) over is does = absurd (ok≢err values over is)
names_missed outcomes budget refs before now text items files told (Err fault) over is does = fault_over outcomes budget refs before now text items files told fault over does is

-- the values were handed out
module _ (e : Ended (List ObjectName)) (text : List ObjectName → List Item → List ℕ) (items : List Item) (names : List ObjectName) (before now after : Kept) (files files_last : Filed) (b c : Option (List ℕ)) (found : HasValues e names before now) where
  pub handed_done : (v : Unit {0}) → HandsOutWith {T = Unit {0}} (text names items) names items now after files files_last b c (Ok v)
      → EndsOver {T = Unit {0}} (forced_with text items e) (conclude_made before after files files_last b c) (Ok v)
  handed_done v out = values_handed e text items names before now after files files_last b c (Ok v) found out

  -- or not all
  pub handed_stop : (fault : TopFault) → HandsOutWith {T = Unit {0}} (text names items) names items now after files files_last b c (Err fault)
      → EndsOver {T = Unit {0}} (forced_with text items e) (conclude_made before after files files_last b c) (Err (linked.Top fault))
  handed_stop fault out = values_handed {T = Unit {0}} e text items names before now after files files_last b c (Err fault) found out

-- ---- causes

refused_cause : (retries : ℕ) (counts : Counts) (refusal : Refusal) → TopCause retries counts (ending_of (tops.Refused refusal)).status
refused_cause retries counts (refusals.Missing name) = tt
refused_cause retries counts refusal = tt

module _ (retries before now files b : ℕ) where
  abbrev CauseHere : LinkedFault → Type 0
  CauseHere over = TopCause retries (conclude_counts before now files files b b) (linked_status over)

  top_cause : (fault : EvalFault) (top : TopFault) → KeeperCause retries before now fault → IsFaultOf fault top → CauseHere (linked.Top top)
  top_cause (evals.Refused refusal) top cause is = rw is (refused_cause retries _ refusal)
  top_cause (evals.Clash name found fresh) top cause is = rw is tt
  top_cause evals.StoreFailed top cause is = rw is cause
  top_cause evals.RunFailed top cause is = absurd cause
  top_cause evals.Memory top cause is = rw is tt

  evaluation_cause : (fault : EvalFault) (over : LinkedFault) → KeeperCause retries before now fault → IsFaultOver (pools.Eval fault) over → CauseHere over
  evaluation_cause fault (linked.Top top) cause is = top_cause fault top cause is
  evaluation_cause fault (linked.Differs resolved first second) cause is = absurd is
  evaluation_cause fault linked.LinksLost cause is = absurd is

  -- there are no names
  pub missed_cause : (end' : Result Values ForceFault) (over : LinkedFault) → NamesOver end' (Err over) → HasKeeperCause retries before now (as_evaluated end') → CauseHere over
  missed_cause (Ok values) over is cause = absurd (ok≢err values over is)
  missed_cause (Err (pools.Eval fault)) over is cause = evaluation_cause fault over cause.cause is
  missed_cause (Err (pools.Differs resolved first second)) over is cause = rw is tt
  missed_cause (Err pools.LinksLost) over is cause = rw is tt
  missed_cause (Err pools.Memory) over is cause = rw is tt

-- ---- the whole

module _ (outcomes : ℕ → Job → Option Outcome) (text : List ObjectName → List Item → List ℕ) (budget : ℕ) (items : List Item) (before : Kept) (refs : List Ref) (found : Result (List Ref) FileRefusal) (is : found ≡ Ok refs) where
  -- the evaluation is that of the references that were found
  pub forced_over : {T : Type 0} (after : Kept) (files files_mid files_last : Filed) (b c : Option (List ℕ)) (r : Result T LinkedFault) → files_mid ≡ files
      → EndsOver (forced_with text items (values_of outcomes budget refs (start before.store))) (conclude_made before after files_mid files_last b c) r
      → EndsOver (wanted_forced_with outcomes text budget items before.store found) (conclude_made before after files files_last b c) r
  forced_over after files files_mid files_last b c r same h =
      rw is (subst (λ (f : Filed). EndsOver (forced_with text items (values_of outcomes budget refs (start before.store))) (conclude_made before after f files_last b c) r) same h)

-- jobs of the evaluation that are told
pub all_told : (outcomes : ℕ → Job → Option Outcome) (budget : ℕ) (store : Store) (refs : List Ref) (found : Result (List Ref) FileRefusal) → found ≡ Ok refs → (tells : Job → Type 0)
    → AllByRecursion tells (asked_for outcomes budget store found) → AllByRecursion tells (state_after (values_of outcomes budget refs (start store))).asked
all_told outcomes budget store refs found is tells told = subst (λ (r : Result (List Ref) FileRefusal). AllByRecursion tells (asked_for outcomes budget store r)) is told

-- counts of a part of a call
pub over-within : {T : Type 0} (retries : ℕ) (part all : Counts) → Within part all → (r : Result T LinkedFault) → EndOverCause retries part r → EndOverCause retries all r
over-within retries part all h (Ok v) cause = tt
over-within retries part all h (Err fault) cause = TopCause-within retries part all h (linked_status fault) cause

-- whatever was found, there are outcomes for an evaluation that isn't begun
pub unbegun_given : (tells : Job → Type 0) (outcome : Job → Outcome) (budget : ℕ) (store : Store) (found : Result (List Ref) FileRefusal)
    → (given : List Outcome) × AreAnswers tells outcome (asked_for (by_list given) budget store found) given
unbegun_given tells outcome budget store (Err refusal) = ([], tt)
unbegun_given tells outcome budget store (Ok refs) =
    let some = (unbegun-evaluates (Unit {0}) (λ (k : Kept). k.store) (λ (k : Kept). k.writes) (λ (k : Kept). 0) tells outcome budget 0 refs (record { store = store; writes = [] })).does tt in
    (some.1.given, some.1.answers)

-- ---- nothing is started

module _ {T : Type 0} (r : Result T LinkedFault) (top fault : TopFault) (is : r ≡ Err (linked.Top top)) (same : top ≡ fault) where
  -- a fault before any job is started
  pub unstarted_ends : (a : Answer) (m : Made) → EndsAt a m fault → EndsOver a m r
  unstarted_ends a m h = rw (is, same) h

  pub unstarted_cause : (retries : ℕ) (counts : Counts) → TopCause retries counts (ending_of fault).status → EndOverCause retries counts r
  unstarted_cause retries counts h = rw (is, same) h

  -- whatever outcomes jobs would have
  pub unstarted_some : (tells : Job → Type 0) (outcome : Job → Outcome) (budget : ℕ) (store : Store) (found : Result (List Ref) FileRefusal) (answer : (ℕ → Job → Option Outcome) → Answer) (m : Made)
      → ((outcomes : ℕ → Job → Option Outcome) → EndsAt (answer outcomes) m fault) → EndsSome tells outcome (λ outcomes. asked_for outcomes budget store found) answer m r
  unstarted_some tells outcome budget store found answer m h =
      let given = unbegun_given tells outcome budget store found in
      record { given = given.0; answers = given.1; ends = unstarted_ends (answer (by_list given.0)) m (h (by_list given.0)) }

-- what was evaluated ends so for some outcomes
pub evaluated_some : {T : Type 0} (tells : Job → Type 0) (outcome : Job → Outcome) (budget : ℕ) (refs : List Ref) (before now : Kept) (found : Result (List Ref) FileRefusal) (is : found ≡ Ok refs) (values : Result Values EvalFault)
    (answer : (ℕ → Job → Option Outcome) → Answer) (m : Made) (r : Result T LinkedFault) → EvaluatesSome tells outcome budget refs before now values
    → ((outcomes : ℕ → Job → Option Outcome) → Does before.writes (start before.store) (values_of outcomes budget refs (start before.store)) now values → EndsOver (answer outcomes) m r)
    → EndsSome tells outcome (λ outcomes. asked_for outcomes budget before.store found) answer m r
evaluated_some tells outcome budget refs before now found is values answer m r some ends = record {
  given = some.given;
  answers = rw is some.answers;
  ends = ends (by_list some.given) some.does;
}

-- ---- the words

pub linked_answer-found : (outcomes : ℕ → Job → Option Outcome) (r : Report) (words : List (List ℕ)) (store : Store) (files : Files) (command : Command) → command_linked words ≡ Some command
    → linked_answer outcomes r words store files ≡ command_answer outcomes r (Some command) store files
unfolding linked_answer
linked_answer-found outcomes r words store files command is = ap (λ found. command_answer outcomes r found store files) is

pub asked_by-found : (outcomes : ℕ → Job → Option Outcome) (words : List (List ℕ)) (store : Store) (files : Files) (command : Command) → command_linked words ≡ Some command
    → asked_by outcomes words store files ≡ command_asks outcomes (Some command) store files
unfolding asked_by
asked_by-found outcomes words store files command is = ap (λ found. command_asks outcomes found store files) is

-- words that don't force over links
pub linked_answer-none : (outcomes : ℕ → Job → Option Outcome) (r : Report) (words : List (List ℕ)) (store : Store) (files : Files) → command_linked words ≡ None → linked_answer outcomes r words store files ≡ ended_by [] [] tops.Usage
unfolding linked_answer
linked_answer-none outcomes r words store files is = ap (λ found. command_answer outcomes r found store files) is

module _ (tells : Job → Type 0) (outcome : Job → Outcome) (store : Store) (files : Files) where
  command_given : (command : Option Command) → (given : List Outcome) × AreAnswers tells outcome (command_asks (by_list given) command store files) given
  command_given None = ([], tt)
  command_given (Some (ForceWith links setup report items)) = unbegun_given tells outcome setup.budget store (wanted_of files items)
  command_given (Some command) = ([], tt)

  -- whatever the words, there are outcomes where no job is started
  words_given : (words : List (List ℕ)) → (given : List Outcome) × AreAnswers tells outcome (asked_by (by_list given) words store files) given
  unfolding asked_by
  words_given words = command_given (command_linked words)

  -- the words were obeyed by a fault before any job was started
  pub unstarted_words : {T : Type 0} (r : Result T LinkedFault) (fault : TopFault) → r ≡ Err (linked.Top fault) → (words : List (List ℕ)) (answer : (ℕ → Job → Option Outcome) → Answer) (m : Made)
      → ((outcomes : ℕ → Job → Option Outcome) → EndsAt (answer outcomes) m fault) → EndsSome tells outcome (λ outcomes. asked_by outcomes words store files) answer m r
  unstarted_words r fault is words answer m h =
      let given = words_given words in
      record { given = given.0; answers = given.1; ends = unstarted_ends r fault fault is refl (answer (by_list given.0)) m (h (by_list given.0)) }

-- what is so of a command for some outcomes is so of the words that are it
pub some_found : {T : Type 0} (tells : Job → Type 0) (outcome : Job → Outcome) (report : Report) (words : List (List ℕ)) (store : Store) (files : Files) (command : Command) → command_linked words ≡ Some command → (m : Made) (r : Result T LinkedFault)
    → EndsSome tells outcome (λ outcomes. command_asks outcomes (Some command) store files) (λ outcomes. command_answer outcomes report (Some command) store files) m r
    → EndsSome tells outcome (λ outcomes. asked_by outcomes words store files) (λ outcomes. linked_answer outcomes report words store files) m r
some_found tells outcome report words store files command is m r some = record {
  given = some.given;
  answers = rw (asked_by-found (by_list some.given) words store files command is) some.answers;
  ends = rw (linked_answer-found (by_list some.given) report words store files command is) some.ends;
}
