-- One line inferred: its command is refused, or its work is done as its plan says.
use Rattle.std.proofs.Common.{◌≡◌, ℕ, ◌+◌, List, [], ◌∷◌, Option, Some, None, Result, Ok, Err, refl, sym, ap, subst, ◌∙◌, append-nil, arith, inl, inr}
use Rattle.blob_store.proofs.PublicLaws.{all_written-none}
use Rattle.file_tree.specs.Files.{Filed}
use Rattle.file_tree.proofs.PublicLaws.{all_changed-none}
use Rattle.file_tree.specs.declared.model_fault.ApplyFault.{ApplyFault}
use Rattle.file_tree.specs.declared.model_fault.ApplyFault.TheVariants as faults
use Rattle.file_tree.specs.declared.model_fault.Reason.{Reason}
use Rattle.build_plan.specs.Applying.{Sides, MakesAll, MakesPrefix, StopsFor, Does}
use Rattle.build_plan.specs.Doing.{Why, Ended, Got, Stopped, state_after}
use Rattle.build_plan.specs.Doing as doing
use Rattle.build_plan.specs.Symbolic.{Work, begun, symbolic, applied}
use Rattle.build_plan.specs.Way.{done}
use Rattle.build_script.specs.declared.inferring.Inferred.{Inferred}
use Rattle.build_script.specs.declared.line_command.LineCommand.{LineCommand}
use Rattle.build_script.specs.declared.line_fault.LineFault.{LineFault}
use Rattle.build_script.specs.declared.line_fault.LineFault.TheVariants.{Word, Apply, Tool, Memory}
use Rattle.build_script.specs.declared.lines.ScriptLine.{ScriptLine}
use Rattle.build_script.specs.Commands.{own_word}
use Rattle.build_script.specs.FoundCommands.{FindsCommand}
use Rattle.build_script.specs.LineCommand.{Halt, AtWord, halt_for, line_command}
use Rattle.build_script.specs.LineFaults.{WorkFaults}
use Rattle.build_script.specs.Script.{state_at, go_on, line_end, command_done, line_done, lines_done}
use Rattle.build_script.specs.Inferring.{at_most, end_of, InfersAll, HaltsFor, InfersSome, InfersUpTo, InfersAs}
use Rattle.build_script.proofs.NothingDone.{nothing_inferred}

-- ---- the end of a plan's work, and of applying it

-- the number of thunks
abbrev numbered : Ended Work (Unit {0}) → Ended Work ℕ
numbered e = doing.go_on e (λ _ t. Got (at_most t.thunks) t)

abbrev unnumbered : Ended Work ℕ → Ended Work (Unit {0})
unnumbered (Got x t) = Got tt t
unnumbered (Stopped why t) = Stopped why t

un-numbered : (e : Ended Work (Unit {0})) → e ≡ unnumbered (numbered e)
un-numbered (Got x t) = refl
un-numbered (Stopped why t) = refl

-- the number that was given
abbrev number_in : Ended Work ℕ → ℕ
number_in (Got x t) = x
number_in (Stopped why t) = 0

state-numbered : (e : Ended Work (Unit {0})) → state_after (numbered e) ≡ state_after e
state-numbered (Got x t) = refl
state-numbered (Stopped why t) = refl

state-line : {A : Type 0} (number : ℕ) (words : List (List ℕ)) (e : Ended Work A) → state_after e ≡ state_at (line_end number words e)
state-line number words (Got x t) = refl
state-line number words (Stopped why t) = refl

-- ---- prefixes

-- all of some work is a prefix of it
all_is_prefix : (work : Work) (s : Sides) → MakesAll work s → MakesPrefix work s
all_is_prefix work s all = inr (record {
  kept = all.kept;
  files = record {
    prefix = work.changes;
    is_prefix = record { rest = []; whole = sym (append-nil work.changes) };
    files = ap (λ (f : Filed). f.files) all.files;
    listed = inl (ap (λ (f : Filed). f.changes) all.files);
  };
})

-- nothing is made of the start
start_made : (s : Sides) → s.kept_after ≡ s.kept_before → s.files_after ≡ s.files_before → MakesAll (begun s.kept_before.store s.files_before.files) s
start_made s kept filed = record { kept = kept ∙ all_written-none s.kept_before; files = filed ∙ all_changed-none s.files_before }

module _ (line : ScriptLine) (others : List ScriptLine) (s : Sides) where
  abbrev start : Work
  start = begun s.kept_before.store s.files_before.files

  -- how the lines end where this is what the line says
  ends_by : (command : Result (Option LineCommand) Halt) → line_command line ≡ command
      → end_of (line ∷ others) s ≡ go_on (command_done symbolic line.number command start) (λ more t. lines_done symbolic others (0 + more) t)
  ends_by command is = ap (λ (c : Result (Option LineCommand) Halt). go_on (command_done symbolic line.number c start) (λ more t. lines_done symbolic others (0 + more) t)) is

  -- of the line's own work a prefix is made
  some_of_line : MakesPrefix (state_at (line_done symbolic line start)) s → InfersSome (line ∷ others) s
  some_of_line part = record {
    before = [];
    behind = line ∷ others;
    are = refl;
    count = 0;
    last = start;
    finished = refl;
    part = subst (λ (v : Sides). MakesPrefix (state_at (line_done symbolic line start)) v)
        (λ i. record s { kept_before = all_written-none s.kept_before i; files_before = all_changed-none s.files_before i }) part;
  }

  -- the line is refused
  pub line_refused : (fault : LineFault) → FindsCommand (Err fault) (line_command line) → s.kept_after ≡ s.kept_before → s.files_after ≡ s.files_before → InfersAs (line ∷ others) s (Err fault)
  line_refused (Word number word reason) finds kept filed = record { last = start; halted = ends_by (Err (AtWord number word reason)) finds; all = start_made s kept filed }
  line_refused (Apply number fault) finds kept filed = absurd finds
  line_refused (Tool number status) finds kept filed = absurd finds
  line_refused Memory finds kept filed = nothing_inferred (line ∷ others) s kept filed

  module _ (command : LineCommand) (says : line_command line ≡ Ok (Some command)) where
    abbrev ended : Ended Work (Unit {0})
    ended = done symbolic command.plan start

    ends_so : (e : Ended Work (Unit {0})) → ended ≡ e → end_of (line ∷ others) s ≡ go_on (line_end line.number command.words e) (λ more t. lines_done symbolic others (0 + more) t)
    ends_so e is =
        ends_by (Ok (Some command)) says
        ∙ ap (λ (e : Ended Work (Unit {0})). go_on (line_end line.number command.words e) (λ more t. lines_done symbolic others (0 + more) t)) is

    halts_so : (why : Why) → StopsFor (applied command.plan start) why s → HaltsFor (line ∷ others) s (halt_for line.number command.words why)
    halts_so why stops = record {
      last = stops.last;
      halted = ends_so (Stopped why stops.last) (un-numbered ended ∙ ap unnumbered stops.stopped);
      all = stops.all;
    }

    -- the state of the line's work
    own_state : state_after (applied command.plan start) ≡ state_at (line_done symbolic line start)
    own_state =
        state-numbered ended ∙ state-line line.number command.words ended
        ∙ sym (ap (λ (c : Result (Option LineCommand) Halt). state_at (command_done symbolic line.number c start)) says)

    some_so : MakesPrefix (state_after (applied command.plan start)) s → InfersSome (line ∷ others) s
    some_so part = some_of_line (subst (λ (w : Work). MakesPrefix w s) own_state part)

    up_to : MakesPrefix (state_after (applied command.plan start)) s → InfersUpTo line.number (line ∷ others) s
    unfolding some_so some_of_line
    up_to part = record { some = some_so part; next = refl }

    -- a reason is shown with the command's own word, or memory is refused for it
    reason_so : (reason : Reason) (fault : LineFault) → FindsCommand (Err fault) (Err (AtWord line.number (own_word command.words) reason)) → StopsFor (applied command.plan start) (doing.Unmodelled reason) s
        → InfersAs (line ∷ others) s (Err fault)
    reason_so reason (Word number word other) finds stops =
        subst (λ (h : Halt). HaltsFor (line ∷ others) s h) (same_halt _ _ finds) (halts_so (doing.Unmodelled reason) stops)
      where
        halt_or : Halt → Result (Option LineCommand) Halt → Halt
        halt_or h (Ok x) = h
        halt_or h (Err other) = other

        same_halt : (a b : Halt) → ◌≡◌ {A = Result (Option LineCommand) Halt} (Err a) (Err b) → a ≡ b
        same_halt a b is = ap (halt_or a) is
    reason_so reason (Apply number fault) finds stops = absurd finds
    reason_so reason (Tool number status) finds stops = absurd finds
    reason_so reason Memory finds stops =
        some_so (subst (λ (w : Work). MakesPrefix w s) (sym (ap state_after stops.stopped)) (all_is_prefix stops.last s stops.all))

    -- the line's work has a fault
    pub work_fails : (fault : ApplyFault) (answer : LineFault) → WorkFaults line.number command.words fault answer → Does (applied command.plan start) s (Err fault) → InfersAs (line ∷ others) s (Err answer)
    work_fails (faults.Refused refusal) answer is does = subst (λ (f : LineFault). InfersAs (line ∷ others) s (Err f)) (sym is) (halts_so (doing.File refusal) does)
    work_fails (faults.Reason reason) answer is does = reason_so reason answer is does
    work_fails (faults.Clash name found fresh) answer is does = subst (λ (f : LineFault). InfersAs (line ∷ others) s (Err f)) (sym is) (halts_so (doing.Clash name found fresh) does)
    work_fails faults.StoreFailed answer is does = subst (λ (f : LineFault). InfersAs (line ∷ others) s (Err f)) (sym is) (up_to does)
    work_fails faults.FileFailed answer is does = subst (λ (f : LineFault). InfersAs (line ∷ others) s (Err f)) (sym is) (up_to does)
    work_fails faults.Memory answer is does = subst (λ (f : LineFault). InfersAs (line ∷ others) s (Err f)) (sym is) (some_so does)

-- the line says nothing
pub line_idle : (line : ScriptLine) (s : Sides) (i : Inferred) → line_command line ≡ Ok None → i.commands ≡ 0 → i.thunks ≡ 0 → s.kept_after ≡ s.kept_before → s.files_after ≡ s.files_before
    → InfersAll (line ∷ []) s i
line_idle line s i says commands thunks kept filed = record {
  count = 0;
  last = begun s.kept_before.store s.files_before.files;
  finished = ends_by line [] s (Ok None) says;
  commands = commands;
  thunks = thunks;
  all = start_made s kept filed;
}

-- the line's work is done
pub work_done : (line : ScriptLine) (s : Sides) (command : LineCommand) → line_command line ≡ Ok (Some command) → (i : Inferred) → i.commands ≡ 1
    → Does (applied command.plan (begun s.kept_before.store s.files_before.files)) s (Ok i.thunks) → InfersAll (line ∷ []) s i
work_done line s command says i one does =
    let e = done symbolic command.plan (begun s.kept_before.store s.files_before.files) in
    let got : e ≡ Got tt does.last = un-numbered e ∙ ap unnumbered does.got in
    record {
      count = 1;
      last = does.last;
      finished = ends_so line [] s command says (Got tt does.last) got;
      commands = one ∙ omega arith;
      thunks = sym (ap number_in does.got) ∙ ap (λ (e : Ended Work (Unit {0})). number_in (numbered e)) got;
      all = does.all;
    }
