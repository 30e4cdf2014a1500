-- Lines built at once, one after another.
use Rattle.std.proofs.Common.{◌≡◌, ◌+◌, ◌<◌, ◌≤◌, ℕ, List, [], ◌∷◌, ◌++◌, length, drop, get_or, Option, Some, None, Result, Ok, Err, IsErr, IsErrAnd, refl, sym, ap, subst, ◌∙◌, append_assoc, append-nil, arith}
use Rattle.std.specs.Prelude.{min}
use Rattle.object_name.proofs.PublicLaws.{tries-trans}
use Rattle.file_tree.specs.Files.{Files, Filed, ChangesPrefix, all_changed, changed, filed_in}
use Rattle.file_tree.specs.declared.change.Change.{Change}
use Rattle.file_tree.specs.declared.model_fault.ApplyFault.{ApplyFault}
use Rattle.file_tree.specs.declared.model_fault.ApplyFault.TheVariants as faults
use Rattle.file_tree.specs.declared.model_fault.Reason.TheVariants.{TooMany as ManyFiles}
use Rattle.file_tree.proofs.PublicLaws.{all_changed-none, all_changed-append}
use Rattle.build_plan.specs.Doing.{Why, Stopped, File, state_after}
use Rattle.build_plan.specs.Doing.Why.{Tool as ToolFails}
use Rattle.build_plan.specs.Way.{done}
use Rattle.build_plan.proofs.FilesAreFound.{next-drop}
use Rattle.build_plan.proofs.StepsInOrder.{counted-more}
use Rattle.build_script.specs.declared.line_command.LineCommand.{LineCommand}
use Rattle.build_script.specs.declared.line_fault.LineFault.{LineFault}
use Rattle.build_script.specs.declared.line_fault.LineFault.TheVariants as line_faults
use Rattle.build_script.specs.declared.lines.ScriptLine.{ScriptLine}
use Rattle.build_script.specs.declared.run_fault.RunFault.{RunFault}
use Rattle.build_script.specs.declared.run_fault.RunFault.TheVariants.{Refused, TooMany, Tool, Failed, Memory}
use Rattle.build_script.specs.AtOnce.{Ran, not_run}
use Rattle.build_script.specs.Building.{BuildsAll, BuildsAs, BuildsSome, FailsAs, HaltsFor, end_of}
use Rattle.build_script.specs.Commands.{own_word}
use Rattle.build_script.specs.FoundCommands.{FindsCommand}
use Rattle.build_script.specs.Inferring.{at_most}
use Rattle.build_script.specs.LineCommand.{Halt, AtWord, AtWork, line_command}
use Rattle.build_script.specs.LineFaults.{TreeCause, line_file_failures}
use Rattle.build_script.specs.Script.{ScriptEnd, Finished, Halted, go_on, line_end, lines_done, state_at}
use Rattle.build_script.specs.WorkAtOnce.{CutsLine, DoesLine, DoesPlan, EndsPlan, FailsLine, Fares, FaresAs, HaltsLine, IsLineFault, LineGoes, by_cards, command_built, failures_of, why_of, with_done, with_jobs}
use Rattle.build_script.proofs.CallsCounted.{fares-then}
use Rattle.build_script.proofs.JobsAdded.{with_jobs-none}
use Rattle.build_script.proofs.NothingDone.{no_changes}
use Rattle.build_script.proofs.ScriptAdds.{line_end-state, lines-append}

-- a fault that a `?` hands on
pub line-handed : {A : Type 0} (P : Result A LineFault → Type 0) (r : Result A LineFault) (fault : LineFault) → IsErr r × IsErrAnd r (λ d. d ≡ fault) → P (Err fault) → P r
line-handed P (Ok x) fault h p = absurd h.1
line-handed P (Err d) fault h p = subst (λ e. P (Err e)) (sym h.1) p

-- ---- a command of a line

same_halt : {A : Type 0} (x y : Halt) → ◌≡◌ {A = Result A Halt} (Err x) (Err y) → x ≡ y
same_halt x y e = cc e

module _ (number : ℕ) (command : LineCommand) (before after : Filed) where
  abbrev work : Ran → ScriptEnd Ran
  work = command_built number (Ok (Some command))

  pub command-does : DoesPlan command.plan before after → DoesLine work before after 1
  command-does h = record { jobs = h.jobs; changes = h.changes; goes = λ w at. ap (line_end number command.words) (h.goes w at); made = h.made }

  cuts : ChangesPrefix (state_after (done by_cards command.plan (not_run before.files))).changes before after → CutsLine work before after
  cuts h = subst (λ (w : Ran). ChangesPrefix w.changes before after) (sym (line_end-state number command.words (done by_cards command.plan (not_run before.files)))) h

  halts : (why : Why) (halt : Halt) → ((w : Ran) → line_end {A = Unit {0}} number command.words (Stopped why w) ≡ Halted halt w) → EndsPlan command.plan before after (Some why) → HaltsLine work before after halt
  halts why halt is h = record { jobs = h.0.jobs; goes = λ w at. ap (line_end number command.words) (h.0.goes_on w at) ∙ is _; same = h.1 }

  -- a word that is refused, unless memory is wanting for it
  word-fault : (halt : Halt) (fault : LineFault) → FindsCommand (Err fault) (Err halt) → HaltsLine work before after halt → LineGoes work before after number (Err fault)
  word-fault halt (line_faults.Word line word reason) found h = subst (HaltsLine work before after) (same_halt halt (AtWord line word reason) found) h
  word-fault halt (line_faults.Apply line fault) found h = absurd found
  word-fault halt (line_faults.Tool line status) found h = absurd found
  word-fault halt line_faults.Memory found h = no_changes _ before after h.same

  pub command-fault : (fault : RunFault) (r : LineFault) → IsLineFault number (own_word command.words) fault r → EndsPlan command.plan before after (why_of fault) → LineGoes work before after number (Err r)
  command-fault (Refused refusal) r is h = subst (λ r. LineGoes work before after number (Err r)) (sym is) (halts (File refusal) (AtWork number (File refusal)) (λ w. refl) h)
  command-fault TooMany r is h = word-fault (AtWord number (own_word command.words) ManyFiles) r is (halts _ (AtWord number (own_word command.words) ManyFiles) (λ w. refl) h)
  command-fault (Tool status) r is h = subst (λ r. LineGoes work before after number (Err r)) (sym is) (halts (ToolFails status) (AtWork number (ToolFails status)) (λ w. refl) h)
  command-fault Failed r is h = subst (λ r. LineGoes work before after number (Err r)) (sym is) (refl, cuts h)
  command-fault Memory r is h = subst (λ r. LineGoes work before after number (Err r)) (sym is) (cuts h)

-- ---- what a line says

-- nothing
pub nothing-does : (number : ℕ) (before : Filed) → DoesLine (command_built number (Ok None)) before before 0
nothing-does number before = record {
  jobs = [];
  changes = [];
  goes = λ w at i. Finished 0 (record { files = w.files; changes = sym (append-nil w.changes) i; jobs = sym (append-nil w.jobs) i });
  made = all_changed-none before;
}

-- a word of it is refused
pub found-fault : (number : ℕ) (found : Result (Option LineCommand) Halt) (before : Filed) (fault : LineFault) → FindsCommand (Err fault) found → LineGoes (command_built number found) before before number (Err fault)
found-fault number found before (line_faults.Word line word reason) is =
    subst (λ found. HaltsLine (command_built number found) before before (AtWord line word reason)) (sym is)
    (record { jobs = []; goes = λ w at. ap (λ w. Halted (AtWord line word reason) w) (with_jobs-none w); same = refl })
found-fault number found before (line_faults.Apply line fault) is = absurd is
found-fault number found before (line_faults.Tool line status) is = absurd is
found-fault number found before line_faults.Memory is = no_changes _ before before refl

-- ---- lines

-- the first lines are done, and all of their changes are made
pub record HasBuilt (lines : List ScriptLine) (before now : Filed) (i commands : ℕ) : Type 0 where
  pub first : List ScriptLine
  pub are : lines ≡ first ++ drop i lines
  pub count : ℕ
  pub last : Ran
  pub finished : end_of first before ≡ Finished count last
  pub number : commands ≡ at_most count
  pub files : last.files ≡ now.files
  pub all : now ≡ all_changed before last.changes

pub built-none : (lines : List ScriptLine) (before : Filed) → HasBuilt lines before before 0 0
built-none lines before = record {
  first = [];
  are = refl;
  count = 0;
  last = not_run before.files;
  finished = refl;
  number = refl;
  files = refl;
  all = all_changed-none before;
}

module _ (lines : List ScriptLine) (before now new : Filed) (i commands : ℕ) (h : HasBuilt lines before now i commands) (line : ScriptLine) (within : i < length lines) (is : line ≡ get_or lines i line) where
  abbrev later : List ScriptLine
  later = drop (i + 1) lines

  abbrev this : Ran → ScriptEnd Ran
  this = command_built line.number (line_command line)

  are-next : lines ≡ h.first ++ line ∷ later
  are-next = h.are ∙ ap (λ left. h.first ++ left) (next-drop lines i line within is)

  -- one more is done
  pub built-more : (more next : ℕ) → DoesLine this now new more → next ≡ min (commands + more) 4294967295 → HasBuilt lines before new (i + 1) next
  built-more more next d number = record {
    first = h.first ++ line ∷ [];
    are = are-next ∙ sym (append_assoc h.first (line ∷ []) later);
    count = h.count + more;
    last = with_done h.last d.jobs d.changes;
    finished =
        lines-append by_cards h.first (line ∷ []) 0 (not_run before.files)
        ∙ ap (λ e. go_on e (λ count after. lines_done by_cards (line ∷ []) count after)) h.finished
        ∙ ap (λ e. go_on e (λ more after. Finished (h.count + more) after)) (d.goes h.last h.files);
    number = number ∙ counted-more commands h.count more h.number;
    files = ap (λ files. changed files d.changes) h.files ∙ sym (ap (λ (f : Filed). f.files) d.made);
    all = d.made ∙ ap (λ f. all_changed f d.changes) h.all ∙ sym (all_changed-append before h.last.changes d.changes);
  }

  -- the next one halts
  built-halts : (halt : Halt) → HaltsLine this now new halt → HaltsFor lines before new halt
  built-halts halt d = record {
    last = with_jobs h.last d.jobs;
    halted =
        ap (λ lines. end_of lines before) are-next
        ∙ lines-append by_cards h.first (line ∷ later) 0 (not_run before.files)
        ∙ ap (λ e. go_on e (λ count after. lines_done by_cards (line ∷ later) count after)) h.finished
        ∙ ap (λ e. go_on e (λ more after. lines_done by_cards later (h.count + more) after)) (d.goes h.last h.files);
    all = d.same ∙ h.all;
  }

  -- it is cut off
  built-cut : CutsLine this now new → BuildsSome lines before new
  built-cut d = record {
    first = h.first;
    behind = line ∷ later;
    are = are-next;
    count = h.count;
    last = h.last;
    finished = h.finished;
    part =
        subst (λ f. ChangesPrefix (state_at (this (not_run h.last.files))).changes f new) h.all
        (subst (λ files. ChangesPrefix (state_at (this (not_run files))).changes now new) (sym h.files) d);
  }

  built-fails : (number : ℕ) (fault : ApplyFault) → FailsLine this now new line.number number fault → FailsAs number lines before new fault
  unfolding built-cut
  built-fails number (faults.Refused refusal) d = built-halts (AtWork number (File refusal)) d
  built-fails number (faults.Reason reason) d = d
  built-fails number (faults.Clash name found fresh) d = d
  built-fails number faults.StoreFailed d = d
  built-fails number faults.FileFailed d = record { some = built-cut d.1; next = ap (λ n. Some n) (sym d.0) }
  built-fails number faults.Memory d = d

  pub built-fault : (fault : LineFault) → LineGoes this now new line.number (Err fault) → BuildsAs lines before new (Err fault)
  built-fault (line_faults.Word number word reason) d = built-halts (AtWord number word reason) d
  built-fault (line_faults.Apply number fault) d = built-fails number fault d
  built-fault (line_faults.Tool number status) d = built-halts (AtWork number (ToolFails status)) d
  built-fault line_faults.Memory d = built-cut d

-- no line is left
pub built-all : (lines : List ScriptLine) (before now : Filed) (i commands : ℕ) → HasBuilt lines before now i commands → drop i lines ≡ [] → BuildsAll lines before now commands
built-all lines before now i commands h none = record {
  count = h.count;
  last = h.last;
  finished = ap (λ lines. end_of lines before) (h.are ∙ ap (λ left. h.first ++ left) none ∙ append-nil h.first) ∙ h.finished;
  number = h.number;
  all = h.all;
}

-- ---- counts

module _ {T : Type 0} (tells : Type 0) (calls counts : T → ℕ) (retries : ℕ) where
  pub as-ok : {A : Type 0} (x : A) (old now : T) → Fares tells calls counts retries old now 0 → FaresAs tells calls counts retries old now (Ok x)
  as-ok x old now h = record { later = h.later; cause = tt; tries = h.tries }

  as-word : {A : Type 0} (halt : Halt) (old now : T) (fault : LineFault) → FindsCommand (Err fault) (Err halt) → Fares tells calls counts retries old now 0 → FaresAs {A = A} tells calls counts retries old now (Err fault)
  as-word halt old now (line_faults.Word line word reason) found h = record { later = h.later; cause = tt; tries = h.tries }
  as-word halt old now (line_faults.Apply line fault) found h = absurd found
  as-word halt old now (line_faults.Tool line status) found h = absurd found
  as-word halt old now line_faults.Memory found h = record { later = h.later; cause = tt; tries = h.tries }

  -- a fault of a command's work, in a line
  pub as-fault : {A : Type 0} (number : ℕ) (word : List ℕ) (old now : T) (fault : RunFault) (r : LineFault) → IsLineFault number word fault r → Fares tells calls counts retries old now (failures_of fault) → FaresAs {A = A} tells calls counts retries old now (Err r)
  as-fault {A} number word old now (Refused refusal) r is h = subst (λ r. FaresAs {A = A} tells calls counts retries old now (Err r)) (sym is) (record { later = h.later; cause = tt; tries = h.tries })
  as-fault {A} number word old now TooMany r is h = as-word _ old now r is h
  as-fault {A} number word old now (Tool status) r is h = subst (λ r. FaresAs {A = A} tells calls counts retries old now (Err r)) (sym is) (record { later = h.later; cause = tt; tries = h.tries })
  as-fault {A} number word old now Failed r is h = subst (λ r. FaresAs {A = A} tells calls counts retries old now (Err r)) (sym is) (record { later = h.later; cause = h.cause (omega arith); tries = h.tries })
  as-fault {A} number word old now Memory r is h = subst (λ r. FaresAs {A = A} tells calls counts retries old now (Err r)) (sym is) (record { later = h.later; cause = tt; tries = h.tries })

  -- a line that is refused before its work
  pub as-found : {A : Type 0} (found : Result (Option LineCommand) Halt) (old now : T) (fault : LineFault) → FindsCommand (Err fault) found → Fares tells calls counts retries old now 0 → FaresAs {A = A} tells calls counts retries old now (Err fault)
  as-found found old now (line_faults.Word line word reason) is h = record { later = h.later; cause = tt; tries = h.tries }
  as-found found old now (line_faults.Apply line fault) is h = absurd is
  as-found found old now (line_faults.Tool line status) is h = absurd is
  as-found found old now line_faults.Memory is h = record { later = h.later; cause = tt; tries = h.tries }

  cause-earlier : {A : Type 0} (f g h : ℕ) (r : Result A LineFault) → f ≤ g → TreeCause retries g h r → TreeCause retries f h r
  cause-earlier f g h (Ok x) low c = tt
  cause-earlier f g h (Err (line_faults.Word line word reason)) low c = tt
  cause-earlier f g h (Err (line_faults.Apply line (faults.Refused refusal))) low c = tt
  cause-earlier f g h (Err (line_faults.Apply line (faults.Reason reason))) low c = c
  cause-earlier f g h (Err (line_faults.Apply line (faults.Clash name found fresh))) low c = c
  cause-earlier f g h (Err (line_faults.Apply line faults.StoreFailed)) low c = c
  cause-earlier f g h (Err (line_faults.Apply line faults.FileFailed)) low c = omega (arith, c, low)
  cause-earlier f g h (Err (line_faults.Apply line faults.Memory)) low c = c
  cause-earlier f g h (Err (line_faults.Tool line status)) low c = tt
  cause-earlier f g h (Err line_faults.Memory) low c = tt

  -- one line after others
  pub as-then : {A : Type 0} (old mid now : T) (r : Result A LineFault) → Fares tells calls counts retries old mid 0 → FaresAs tells calls counts retries mid now r → FaresAs tells calls counts retries old now r
  as-then old mid now r first then = record {
    later = omega (arith, first.later, then.later);
    cause = cause-earlier (counts old) (counts mid) (counts now) r first.later then.cause;
    tries = λ told. tries-trans retries calls counts old mid now (line_file_failures r) (first.tries told) (then.tries told);
  }

  -- a line that was done
  of-ok : {A : Type 0} (x : A) (old now : T) → FaresAs tells calls counts retries old now (Ok x) → Fares tells calls counts retries old now 0
  of-ok x old now h = record { later = h.later; cause = λ some. absurd (omega (arith, some)); tries = h.tries }

  pub fares-more : {A : Type 0} (x : A) (old mid now : T) → Fares tells calls counts retries old mid 0 → FaresAs tells calls counts retries mid now (Ok x) → Fares tells calls counts retries old now 0
  fares-more x old mid now first then = fares-then tells calls counts retries old mid now 0 first (of-ok x mid now then)

  -- memory ran out before anything was done
  pub as-memory : (A : Type 0) (old : T) → Fares tells calls counts retries old old 0 → FaresAs {A = A} tells calls counts retries old old (Err line_faults.Memory)
  as-memory A old h = record { later = h.later; cause = tt; tries = h.tries }

-- while lines are done
pub record IsBuilding {T : Type 0} (tells : Type 0) (files : T → Files) (changes : T → List Change) (calls counts : T → ℕ) (retries : ℕ) (lines : List ScriptLine) (old now : T) (i commands : ℕ) : Type 0 where
  pub built : tells → HasBuilt lines (filed_in files changes old) (filed_in files changes now) i commands
  pub fares : Fares tells calls counts retries old now 0
