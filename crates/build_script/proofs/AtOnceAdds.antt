-- Work at once goes on from earlier work as from the start, and what it changed and the jobs that it ran are added to that.
use Rattle.std.proofs.Common.{◌≡◌, ℕ, ◌+◌, List, [], ◌∷◌, ◌++◌, map, Option, Some, None, Result, Ok, Err, refl, sym, ap, ◌∙◌, append_assoc, append-nil}
use Rattle.thunk_codec.specs.declared.job.Job.{Job}
use Rattle.thunk_codec.specs.declared.job.Outcome.{Outcome}
use Rattle.file_tree.proofs.PublicLaws.{changed-append}
use Rattle.file_tree.specs.Files.{Files, after_change, changed, file_read}
use Rattle.file_tree.specs.declared.change.Change.{Change}
use Rattle.include_scan.specs.Scanned.{inputs_of}
use Rattle.include_scan.specs.Scanning.{scanned_paths}
use Rattle.build_plan.specs.declared.plan.Plan.{Plan}
use Rattle.build_plan.specs.declared.plan.Scanning.{Scanning}
use Rattle.build_plan.specs.declared.plan.Source.{Source}
use Rattle.build_plan.specs.declared.plan.Source.TheVariants.{File, Made}
use Rattle.build_plan.specs.declared.plan.Stage.{Stage}
use Rattle.build_plan.specs.declared.plan.Step.{Step}
use Rattle.build_plan.specs.declared.plan.Step.TheVariants.{Read, Take, Find, Run, Scan}
use Rattle.build_plan.specs.Doing.{Why, Ended, Got, Stopped, Doing, go_on, ◌>>=◌, ◌>>◌, give, current, unless, each, state_after}
use Rattle.build_plan.specs.Way.{bytes_or, first_found, found_or, scanned_or, scanned_stage, completed, taken, gathered, change_of, done}
use Rattle.build_script.specs.declared.line_command.LineCommand.{LineCommand}
use Rattle.build_script.specs.declared.lines.ScriptLine.{ScriptLine}
use Rattle.build_script.specs.AtOnce.{Ran, at_once, bytes_of, file_changed, input_bytes, job_by, job_run, not_run, output_by, read_bytes, scanned_run, source_bytes, tool_run}
use Rattle.build_script.specs.LineCommand.{Halt, line_command}
use Rattle.build_script.specs.Script.{ScriptEnd, Finished, Halted, state_at, go_on as then_on, line_end, command_done, line_done, lines_done}
use Rattle.build_script.proofs.ScriptAdds.{line_end-state}

-- some work after other work
abbrev pub ran_after : Ran → Ran → Ran
ran_after base s = record { files = s.files; changes = base.changes ++ s.changes; jobs = base.jobs ++ s.jobs }

-- how work ends that goes on from other work
abbrev moved : {A : Type 0} → Ran → Ended Ran A → Ended Ran A
moved base (Got x s) = Got x (ran_after base s)
moved base (Stopped why s) = Stopped why (ran_after base s)

-- the files are the old ones with the changes
abbrev pub HasChanged : Files → Ran → Type 0
HasChanged tree s = s.files ≡ changed tree s.changes

-- work goes on from other work, and lists all that it changes
record Adds {A : Type 0} (work : Doing Ran A) : Type 0 where
  pub moves : (base s : Ran) → work (ran_after base s) ≡ moved base (work s)
  pub makes : (tree : Files) (s : Ran) → HasChanged tree s → HasChanged tree (state_after (work s))

-- ---- one after another

adds-give : {A : Type 0} (x : A) → Adds (give x)
adds-give x = record { moves = λ base s. refl; makes = λ tree s made. made }

adds-unless : {A : Type 0} (found : Result A Why) → Adds (unless found)
adds-unless (Ok x) = adds-give x
adds-unless (Err why) = record { moves = λ base s. refl; makes = λ tree s made. made }

adds-then : {A B : Type 0} (work : Doing Ran A) (next : A → Doing Ran B) → Adds work → ((x : A) → Adds (next x)) → Adds (work >>= next)
adds-then {A} {B} work next first rest = record {
  moves = λ base s. ap (λ (e : Ended Ran A). go_on e next) (first.moves base s) ∙ on base (work s);
  makes = λ tree s made. ends tree (work s) (first.makes tree s made);
}
  where
    on : (base : Ran) (e : Ended Ran A) → go_on (moved base e) next ≡ moved base (go_on e next)
    on base (Got x t) = (rest x).moves base t
    on base (Stopped why t) = refl

    ends : (tree : Files) (e : Ended Ran A) → HasChanged tree (state_after e) → HasChanged tree (state_after (go_on e next))
    ends tree (Got x t) made = (rest x).makes tree t made
    ends tree (Stopped why t) made = made

-- what follows looks at the files alone
adds-current : {B : Type 0} (next : Ran → Doing Ran B) → ((base s : Ran) → next (ran_after base s) ≡ next s) → ((s : Ran) → Adds (next s)) → Adds (current >>= next)
adds-current next same all = record {
  moves = λ base s. (λ i. same base s i (ran_after base s)) ∙ (all s).moves base s;
  makes = λ tree s made. (all s).makes tree s made;
}

adds-each : {A B : Type 0} (work : A → Doing Ran B) → ((x : A) → Adds (work x)) → (xs : List A) → Adds (each work xs)
adds-each work all [] = adds-give []
adds-each work all (x ∷ xs) =
    adds-then (work x) (λ y. each work xs >>= λ ys. give (y ∷ ys)) (all x) (λ y. adds-then (each work xs) (λ ys. give (y ∷ ys)) (adds-each work all xs) (λ ys. adds-give (y ∷ ys)))

-- ---- what a plan does

adds-read : (path : List ℕ) → Adds (read_bytes path)
adds-read path = adds-current (λ (s : Ran). unless (bytes_of path (file_read (s.files path)))) (λ base s. refl) (λ s. adds-unless (bytes_of path (file_read (s.files path))))

adds-source : (items : List (List ℕ)) (source : Source) → Adds (source_bytes items source)
adds-source items (File path) = adds-read path
adds-source items (Made place) = record { moves = λ base s. refl; makes = λ tree s made. made }

adds-input : (items : List (List ℕ)) (input : List ℕ × Source) → Adds (input_bytes items input)
adds-input items input = adds-then (source_bytes items input.1) (λ bytes. give (input.0, bytes)) (adds-source items input.1) (λ bytes. adds-give (input.0, bytes))

adds-job : (job : Job) → Adds (job_run job)
adds-job job = record {
  moves = λ base s. λ i. Got tt (record (ran_after base s) { jobs = append_assoc base.jobs s.jobs (job ∷ []) i });
  makes = λ tree s made. made;
}

adds-ran : {A : Type 0} (job : Job) (found : Result A Why) → Adds (job_run job >> unless found)
adds-ran job found = adds-then (job_run job) (λ _. unless found) (adds-job job) (λ _. adds-unless found)

adds-changed : (change : Change) → Adds (file_changed change)
adds-changed change = record {
  moves = λ base s. λ i. Got tt (record (ran_after base s) { files = after_change s.files change; changes = append_assoc base.changes s.changes (change ∷ []) i });
  makes = λ tree s made. ap (λ (v : Files). after_change v change) made ∙ sym (changed-append tree s.changes (change ∷ []));
}

-- how a line ends that goes on from earlier lines
abbrev pub ran_moved : Ran → ScriptEnd Ran → ScriptEnd Ran
ran_moved base (Finished count s) = Finished count (ran_after base s)
ran_moved base (Halted halt s) = Halted halt (ran_after base s)

module _ (outcome : Job → Outcome) (whole : Files → Scanning → Outcome) where
  adds-tool : (items : List (List ℕ)) (stage : Stage) → Adds (tool_run outcome items stage)
  adds-tool items stage =
      adds-then (each (input_bytes items) stage.inputs) (λ inputs. job_run (job_by stage inputs) >> unless (output_by stage.target (outcome (job_by stage inputs))))
      (adds-each (input_bytes items) (adds-input items) stage.inputs) (λ inputs. adds-ran (job_by stage inputs) (output_by stage.target (outcome (job_by stage inputs))))

  adds-scanned : (scanning : Scanning) (paths : List (List ℕ)) → Adds (scanned_run outcome whole scanning paths)
  adds-scanned scanning paths =
      adds-current (λ (s : Ran). job_run (job_by (scanned_stage scanning paths) (inputs_of s.files paths)) >> unless (output_by scanning.target (whole s.files scanning))) (λ base s. refl)
      (λ s. adds-ran (job_by (scanned_stage scanning paths) (inputs_of s.files paths)) (output_by scanning.target (whole s.files scanning)))

  adds-taken : (items : List (List ℕ)) (step : Step) → Adds (taken (at_once outcome whole) items step)
  adds-taken items (Read path) = adds-read path
  adds-taken items (Take path) =
      adds-current (λ (s : Ran). unless (bytes_or path (file_read (s.files path))) >>= λ bytes. give bytes) (λ base s. refl)
      (λ s. adds-then (unless (bytes_or path (file_read (s.files path)))) (λ bytes. give bytes) (adds-unless (bytes_or path (file_read (s.files path)))) (λ bytes. adds-give bytes))
  adds-taken items (Find missing places) =
      adds-current (λ (s : Ran). unless (found_or missing (first_found s.files places)) >>= read_bytes) (λ base s. refl)
      (λ s. adds-then (unless (found_or missing (first_found s.files places))) read_bytes (adds-unless (found_or missing (first_found s.files places))) adds-read)
  adds-taken items (Run stage) = adds-current (λ (s : Ran). tool_run outcome items (completed s.files stage)) (λ base s. refl) (λ s. adds-tool items (completed s.files stage))
  adds-taken items (Scan scanning) =
      adds-current (λ (s : Ran). unless (scanned_or (scanned_paths s.files scanning.folders scanning.source)) >>= λ paths. scanned_run outcome whole scanning paths) (λ base s. refl)
      (λ s. adds-then (unless (scanned_or (scanned_paths s.files scanning.folders scanning.source))) (λ paths. scanned_run outcome whole scanning paths)
      (adds-unless (scanned_or (scanned_paths s.files scanning.folders scanning.source))) (λ paths. adds-scanned scanning paths))

  adds-gathered : (steps : List Step) (items : List (List ℕ)) → Adds (gathered (at_once outcome whole) steps items)
  adds-gathered [] items = adds-give items
  adds-gathered (step ∷ steps) items =
      adds-then (taken (at_once outcome whole) items step) (λ item. gathered (at_once outcome whole) steps (items ++ item ∷ [])) (adds-taken items step) (λ item. adds-gathered steps (items ++ item ∷ []))

  adds-plan : (plan : Plan) → Adds (done (at_once outcome whole) plan)
  adds-plan plan =
      adds-then (gathered (at_once outcome whole) plan.steps []) (λ items. each file_changed (map (change_of (at_once outcome whole) items) plan.targets) >>= λ all. give tt) (adds-gathered plan.steps [])
      (λ items. adds-then (each file_changed (map (change_of (at_once outcome whole) items) plan.targets)) (λ all. give tt)
      (adds-each file_changed adds-changed (map (change_of (at_once outcome whole) items) plan.targets)) (λ all. adds-give tt))

  -- ---- lines

  end-moves : {A : Type 0} (number : ℕ) (words : List (List ℕ)) (base : Ran) (e : Ended Ran A) → line_end number words (moved base e) ≡ ran_moved base (line_end number words e)
  end-moves number words base (Got x s) = refl
  end-moves number words base (Stopped why s) = refl

  command-moves : (number : ℕ) (command : Result (Option LineCommand) Halt) (base s : Ran)
      → command_done (at_once outcome whole) number command (ran_after base s) ≡ ran_moved base (command_done (at_once outcome whole) number command s)
  command-moves number (Ok None) base s = refl
  command-moves number (Ok (Some command)) base s =
      ap (λ (e : Ended Ran (Unit {0})). line_end number command.words e) ((adds-plan command.plan).moves base s) ∙ end-moves number command.words base (done (at_once outcome whole) command.plan s)
  command-moves number (Err halt) base s = refl

  -- a line goes on from earlier lines as from the start
  pub ran-line-moves : (line : ScriptLine) (base s : Ran) → line_done (at_once outcome whole) line (ran_after base s) ≡ ran_moved base (line_done (at_once outcome whole) line s)
  ran-line-moves line base s = command-moves line.number (line_command line) base s

  command-makes : (tree : Files) (number : ℕ) (command : Result (Option LineCommand) Halt) (s : Ran) → HasChanged tree s → HasChanged tree (state_at (command_done (at_once outcome whole) number command s))
  command-makes tree number (Ok None) s made = made
  command-makes tree number (Ok (Some command)) s made = rw (line_end-state number command.words (done (at_once outcome whole) command.plan s)) ((adds-plan command.plan).makes tree s made)
  command-makes tree number (Err halt) s made = made

  -- the files are those with all changes of some lines
  pub ran-lines-make : (tree : Files) (lines : List ScriptLine) (count : ℕ) (s : Ran) → HasChanged tree s → HasChanged tree (state_at (lines_done (at_once outcome whole) lines count s))
  ran-lines-make tree [] count s made = made
  ran-lines-make tree (line ∷ lines) count s made =
      on (line_done (at_once outcome whole) line s) (λ more t. ran-lines-make tree lines (count + more) t) (command-makes tree line.number (line_command line) s made)
    where
      on : (e : ScriptEnd Ran) → ((more : ℕ) (t : Ran) → HasChanged tree t → HasChanged tree (state_at (lines_done (at_once outcome whole) lines (count + more) t)))
          → HasChanged tree (state_at e) → HasChanged tree (state_at (then_on e (λ more t. lines_done (at_once outcome whole) lines (count + more) t)))
      on (Finished more t) next h = next more t h
      on (Halted halt t) next h = h

-- work is itself after the start
pub ran-after-start : (s : Ran) → ran_after s (not_run s.files) ≡ s
ran-after-start s = λ i. record s { changes = append-nil s.changes i; jobs = append-nil s.jobs i }
