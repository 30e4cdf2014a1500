-- How the build of the demonstration makes its answer.
use Rattle.std.proofs.Common.{◌≡◌, ℕ, List, [], ◌∷◌, Option, Result, Ok, Err, refl, sym, ap, subst, ◌∙◌, length}
use Rattle.object_name.specs.Name.{ObjectName}
use Rattle.object_name.specs.declared.trouble.Trouble.{Trouble}
use Rattle.thunk_codec.specs.declared.reference.Ref.{Ref}
use Rattle.blob_store.specs.Keeping.{Kept}
use Rattle.blob_store.specs.Store.{Store, Write}
use Rattle.blob_store.proofs.PublicLaws.{all_written-none}
use Rattle.file_tree.specs.Files.{Filed, Files}
use Rattle.file_tree.specs.Wanted.{ref_of_item}
use Rattle.file_tree.specs.WantAnswers.{Answers}
use Rattle.file_tree.specs.declared.item.Item.{Item}
use Rattle.file_tree.specs.declared.model_fault.ApplyFault.TheVariants as applies
use Rattle.file_tree.specs.declared.refusal.FileRefusal.{FileRefusal}
use Rattle.file_tree.specs.declared.refusal.WantFault.{WantFault}
use Rattle.file_tree.specs.declared.refusal.WantFault.TheVariants as wants
use Rattle.file_tree.proofs.PublicLaws.{all_changed-none}
use Rattle.build_plan.specs.Applying.{Sides}
use Rattle.build_plan.specs.Symbolic.{Work, begun}
use Rattle.build_script.specs.declared.inferring.Inferred.{Inferred}
use Rattle.build_script.specs.declared.line_fault.LineFault.{LineFault}
use Rattle.build_script.specs.declared.line_fault.LineFault.TheVariants as line_faults
use Rattle.build_script.specs.declared.lines.ScriptLine.{ScriptLine}
use Rattle.build_script.specs.Inferring.{InfersAll, InfersAs, at_most, end_of}
use Rattle.build_script.specs.Script.{ScriptEnd, script_inferred, state_at}
use Rattle.build_script.proofs.PublicLaws.{IsMade, lines-make}
use Rattle.need_eval.specs.declared.fault.EvalFault.{EvalFault}
use Rattle.need_eval.specs.declared.fault.EvalFault.TheVariants as evals
use Rattle.need_eval.specs.declared.fault.Refusal.TheVariants as refusals
use Rattle.need_eval.specs.declared.evaluating.Values.{Values}
use Rattle.need_eval.specs.Eval.{Ended, Got, State, Stop, Stopped, Refused, Clash, go_on, start}
use Rattle.need_eval.specs.Evaluating.{EvaluatesAll}
use Rattle.need_eval.specs.Evaluation.{by_function, value_of, values_of}
use Rattle.need_eval.specs.WritePrefix.{Stops}
use Rattle.sandbox_run.specs.Cards.{card_outcome}
use Rattle.gg_cli.specs.declared.demo_command.Program.{Program}
use Rattle.gg_cli.specs.declared.fault.TopFault.{TopFault}
use Rattle.gg_cli.specs.declared.fault.TopFault.TheVariants as tops
use Rattle.gg_cli.specs.Answer.{Answer, demo_text, demonstrated, done, ended_by, program_built, program_forced, program_wanted, stop_fault}
use Rattle.gg_cli.specs.Comes.{Counts, TopCause}
use Rattle.gg_cli.specs.Demo.{demo_files, demo_script, empty_store, program}
use Rattle.gg_cli.specs.Endings.{ending_of}
use Rattle.gg_cli.specs.ForceWords.{default_budget}
use Rattle.gg_cli.specs.LowerFaults.{IsFaultOf, line_fault, output_fault, own_fault, want_fault}
use Rattle.gg_cli.specs.StepContracts.{Ends, EndsAt, LeavesWork, ShowsProgram, StopsAt, file_faults_of, kept_faults_of, unkept}
use Rattle.gg_cli.specs.Writing.{Writes}
use Rattle.gg_cli.proofs.ReadingMakesTheAnswer.{stops_end}
use Rattle.gg_cli.proofs.StepsMakeTheAnswer.{all_told, printed_done, printed_ends}

-- ---- the script

module _ (lines : List ScriptLine) (s : Sides) where
  -- it ended at a fault
  pub script_stops : (fault : LineFault) → InfersAs lines s (Err fault) → StopsAt (program_built (end_of lines s)) (line_fault fault)
  script_stops (line_faults.Word line word reason) h = ap program_built h.halted
  script_stops (line_faults.Apply line (applies.Refused refusal)) h = ap program_built h.halted
  script_stops (line_faults.Apply line (applies.Reason reason)) h = absurd h
  script_stops (line_faults.Apply line (applies.Clash name found fresh)) h = ap program_built h.halted
  script_stops (line_faults.Apply line applies.StoreFailed) h = tt
  script_stops (line_faults.Apply line applies.FileFailed) h = tt
  script_stops (line_faults.Apply line applies.Memory) h = absurd h
  script_stops (line_faults.Tool line status) h = absurd h
  script_stops line_faults.Memory h = tt

  -- or all of its lines are done
  pub script_made : (inferred : Inferred) → InfersAll lines s inferred → LeavesWork (end_of lines s) s.kept_after.store s.files_after.files inferred.thunks
  script_made inferred h =
      let made : IsMade s.kept_before.store s.files_before.files h.last =
      subst (λ (e : ScriptEnd Work). IsMade s.kept_before.store s.files_before.files (state_at e)) h.finished
      (lines-make s.kept_before.store s.files_before.files lines 0 (begun s.kept_before.store s.files_before.files) (record { store = refl; files = refl })) in
      record {
        commands = h.count;
        last = h.last;
        finished = h.finished;
        thunks_made = h.thunks;
        same_store = ap (λ (k : Kept). k.store) h.all.kept ∙ sym made.store;
        same_files = ap (λ (f : Filed). f.files) h.all.files ∙ sym made.files;
      }

-- ---- the program

-- the evaluation of one reference, as that of a list of one
abbrev pub listed : Ended ObjectName → Ended (List ObjectName)
listed (Got name s) = Got (name ∷ []) s
listed (Stopped why s) = Stopped why s

-- what an evaluation gave, the steps that it took, and why it stopped, where it did
abbrev given : Ended (List ObjectName) → List ObjectName
given (Got names s) = names
given (Stopped why s) = []

abbrev steps_of : Ended (List ObjectName) → ℕ
steps_of (Got names s) = s.steps
steps_of (Stopped why s) = s.steps

abbrev why_of : Stop → Ended (List ObjectName) → Stop
why_of other (Got names s) = other
why_of other (Stopped why s) = why

abbrev first_of : ObjectName → List ObjectName → ObjectName
first_of other [] = other
first_of other (name ∷ names) = name

module _ (e : Ended ObjectName) where
  -- one name is given
  pub one_given : (names : List ObjectName) (last : State) → listed e ≡ Got names last → length names ≡ 1
  one_given = on e
    where
      on : (e : Ended ObjectName) (names : List ObjectName) (last : State) → listed e ≡ Got names last → length names ≡ 1
      on (Got name s) names last is = sym (ap (λ (e : Ended (List ObjectName)). length (given e)) is)
      on (Stopped why s) names last is = absurd (cc is)

  -- which is printed, with the steps
  pub one_forced : (thunks steps : ℕ) (names : List ObjectName) (name : ObjectName) (last : State) → listed e ≡ Got names last → steps ≡ last.steps → names ≡ name ∷ []
      → program_forced thunks e ≡ done [] [] (demo_text (at_most thunks) steps name)
  one_forced = on e
    where
      on : (e : Ended ObjectName) (thunks steps : ℕ) (names : List ObjectName) (name : ObjectName) (last : State) → listed e ≡ Got names last → steps ≡ last.steps → names ≡ name ∷ []
          → program_forced thunks e ≡ done [] [] (demo_text (at_most thunks) steps name)
      on (Got found s) thunks steps names name last is same one =
          let is_name : found ≡ name = ap (λ (e : Ended (List ObjectName)). first_of found (given e)) is ∙ ap (first_of found) one in
          let is_steps : s.steps ≡ steps = ap steps_of is ∙ sym same in
          λ i. done [] [] (demo_text (at_most thunks) (is_steps i) (is_name i))
      on (Stopped why s) thunks steps names name last is same one = absurd (cc is)

  -- it stopped
  one_stopped : (thunks : ℕ) (why : Stop) (last : State) → listed e ≡ Stopped why last → program_forced thunks e ≡ ended_by [] [] (stop_fault why)
  one_stopped = on e
    where
      on : (e : Ended ObjectName) (thunks : ℕ) (why : Stop) (last : State) → listed e ≡ Stopped why last → program_forced thunks e ≡ ended_by [] [] (stop_fault why)
      on (Got name s) thunks why last is = absurd (cc is)
      on (Stopped found s) thunks why last is = ap (λ (e : Ended (List ObjectName)). ended_by [] [] (stop_fault (why_of found e))) is

  pub forcing_stops : (thunks : ℕ) (before : List Write) (s : State) (now : Kept) (fault : EvalFault) (top : TopFault) → Stops before s (listed e) now fault → IsFaultOf fault top
      → StopsAt (program_forced thunks e) top
  forcing_stops thunks before s now (evals.Refused refusal) top h is = rw is (one_stopped thunks (Refused refusal) h.0.last h.0.stopped)
  forcing_stops thunks before s now (evals.Clash name found fresh) top h is = rw is (one_stopped thunks (Clash name found fresh) h.0.last h.0.stopped)
  forcing_stops thunks before s now evals.StoreFailed top h is = rw is tt
  forcing_stops thunks before s now evals.RunFailed top h is = absurd is
  forcing_stops thunks before s now evals.Memory top h is = rw is tt

module _ (before after : Kept) (refs : List Ref) (ref : Ref) (one : refs ≡ ref ∷ []) where
  -- the evaluation of the program's reference
  abbrev forced : Ended ObjectName
  forced = value_of (by_function card_outcome) default_budget ref (start before.store)

  listed-is : values_of (by_function card_outcome) default_budget refs (start before.store) ≡ listed forced
  listed-is = ap (λ (refs : List Ref). values_of (by_function card_outcome) default_budget refs (start before.store)) one ∙ on forced
    where
      on : (e : Ended ObjectName) → go_on e (λ (name : ObjectName) (s : State). Got (name ∷ []) s) ≡ listed e
      on (Got name s) = refl
      on (Stopped why s) = refl

  -- `evaluate` gave its value alone
  module _ (values : Values) (does : EvaluatesAll (λ job. Unit {0}) card_outcome default_budget refs before after (Ok values)) where
    pub value_alone : length values.names ≡ 1
    value_alone = let given = (does (all_told _)).0 in one_given forced values.names given.last (sym listed-is ∙ given.got)

    pub value_shown : (name : ObjectName) → values.names ≡ name ∷ [] → (thunks : ℕ) → program_forced thunks forced ≡ done [] [] (demo_text (at_most thunks) values.steps name)
    value_shown name is thunks =
        let given = (does (all_told _)).0 in
        one_forced forced thunks values.steps values.names name given.last (sym listed-is ∙ given.got) given.steps_used is

  -- or ended at a fault
  pub value_stops : (fault : EvalFault) (top : TopFault) → EvaluatesAll (λ job. Unit {0}) card_outcome default_budget refs before after (Err fault) → IsFaultOf fault top
      → (thunks : ℕ) → StopsAt (program_forced thunks forced) top
  value_stops fault top does is thunks =
      forcing_stops forced thunks before.writes (start before.store) after fault top
      (subst (λ (e : Ended (List ObjectName)). Stops before.writes (start before.store) e after fault) listed-is (does (all_told _))) is

-- its placeholder isn't read
pub wanting_stops : (thunks : ℕ) (store : Store) (files : Files) (item : Item) (fault : WantFault) → item ≡ program → Answers {T = Ref} (ref_of_item files item) (Err fault)
    → StopsAt (program_wanted thunks store (ref_of_item files program)) (want_fault fault)
wanting_stops thunks store files item fault is h = on (ref_of_item files program) fault (subst (λ (item : Item). Answers {T = Ref} (ref_of_item files item) (Err fault)) is h)
  where
    on : (found : Result Ref FileRefusal) (fault : WantFault) → Answers {T = Ref} found (Err fault) → StopsAt (program_wanted thunks store found) (want_fault fault)
    on found (wants.Refused refusal) h = ap (program_wanted thunks store) h
    on found wants.Failed h = tt
    on found wants.Memory h = tt

-- ---- both

module _ (e : ScriptEnd Work) (store : Store) (files : Files) (thunks : ℕ) (h : LeavesWork e store files thunks) where
  wanted-is : program_wanted h.last.thunks store (ref_of_item files program) ≡ program_built e
  wanted-is = (λ i. program_wanted h.last.thunks (h.same_store i) (ref_of_item (h.same_files i) program)) ∙ sym (ap program_built h.finished)

  pub program_shown : (shown : Program) → ShowsProgram h.last.thunks (program_wanted h.last.thunks store (ref_of_item files program)) (Ok shown)
      → program_built e ≡ done [] [] (demo_text thunks shown.steps shown.name)
  program_shown shown is = sym wanted-is ∙ is ∙ ap (λ (n : ℕ). done [] [] (demo_text n shown.steps shown.name)) (sym h.thunks_made)

  pub program_stops : (fault : TopFault) → StopsAt (program_wanted h.last.thunks store (ref_of_item files program)) fault → StopsAt (program_built e) fault
  program_stops fault stops = subst (λ (a : Answer). StopsAt a fault) wanted-is stops

-- a fault that ends an answer ends the same answer
pub same_stops : (a b : Answer) → a ≡ b → (fault : TopFault) → StopsAt a fault → StopsAt b fault
same_stops a b is fault stops = subst (λ (a : Answer). StopsAt a fault) is stops

-- the build is that of the definition
pub demonstrated-is : (count : ℕ) (script : List ℕ) (store : Store) (files : Files) → script ≡ demo_script count → store ≡ empty_store → files ≡ demo_files count
    → program_built (script_inferred script store files) ≡ demonstrated count
demonstrated-is count script store files is_script is_store are_files = λ i. program_built (script_inferred (is_script i) (is_store i) (are_files i))

-- ---- faults of a store and a tree of its own

pub own_stops : (a : Answer) (fault : TopFault) → StopsAt a fault → StopsAt a (own_fault fault)
own_stops a tops.StoreFailed h = tt
own_stops a tops.FileFailed h = tt
own_stops a tops.InputFailed h = absurd h
own_stops a tops.OutputFailed h = absurd h
own_stops a tops.Memory h = tt
own_stops a fault h = h

pub own_cause : (a : Answer) (fault : TopFault) → StopsAt a fault → (retries : ℕ) (counts : Counts) → TopCause retries counts (ending_of (own_fault fault)).status
own_cause a tops.StoreFailed h retries counts = tt
own_cause a tops.FileFailed h retries counts = tt
own_cause a tops.InputFailed h retries counts = absurd h
own_cause a tops.OutputFailed h retries counts = absurd h
own_cause a tops.Memory h retries counts = tt
own_cause a (tops.Refused (refusals.Missing name)) h retries counts = tt
own_cause a (tops.Refused refusal) h retries counts = tt
own_cause a fault h retries counts = tt

pub own_unkept : (fault : TopFault) → kept_faults_of (own_fault fault) ≡ 0
own_unkept tops.StoreFailed = refl
own_unkept tops.FileFailed = refl
own_unkept fault = refl

pub own_unfiled : (fault : TopFault) → file_faults_of (own_fault fault) ≡ 0
own_unfiled tops.StoreFailed = refl
own_unfiled tops.FileFailed = refl
own_unfiled fault = refl

-- ---- the whole

module _ (a : Answer) (kept : Kept) (files : Filed) where
  -- the build ended at a fault
  pub demo_stops : (fault : TopFault) → StopsAt a fault → (told : Option (List ℕ)) → EndsAt a (unkept kept files files told told) (own_fault fault)
  demo_stops fault h told = stops_end kept files told a (own_fault fault) (own_stops a fault h)

  module _ (text : List ℕ) (is : a ≡ done [] [] text) (b c : Option (List ℕ)) (f g : ℕ) where
    -- its numbers were printed
    pub demo_printed : {T : Type 0} (v : T) → Writes text b c f g (Ok v) → Ends {T = T} a (unkept kept files files b c) (Ok v)
    demo_printed v h =
        subst (λ (a : Answer). Ends a (unkept kept files files b c) (Ok v)) (sym is)
        (printed_done [] text kept kept (all_written-none kept) files files b c f g [] (all_changed-none files) v h)

    -- or a prefix of them
    pub demo_unprinted : (T : Type 0) (trouble : Trouble) → Writes {T = T} text b c f g (Err trouble) → EndsAt a (unkept kept files files b c) (output_fault trouble)
    demo_unprinted T trouble h =
        subst (λ (a : Answer). EndsAt a (unkept kept files files b c) (output_fault trouble)) (sym is)
        (printed_ends [] text kept kept (all_written-none kept) files files b c f g [] (all_changed-none files) T trouble h)
