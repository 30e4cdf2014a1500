-- How a script that was inferred makes the answer.
use Rattle.std.proofs.Common.{◌≡◌, ℕ, List, [], ◌∷◌, Option, Ok, Err, inl, inr, refl, sym, ap, subst, ◌∙◌}
use Rattle.std.proofs.KnownBytes.{Appends-nil}
use Rattle.std.proofs.Math.Nat.{zero-add}
use Rattle.std.specs.Io.KnownBytes.{Appends}
use Rattle.object_name.specs.declared.trouble.Trouble.{Trouble}
use Rattle.blob_store.specs.Keeping.{all_written}
use Rattle.file_tree.specs.Files.{all_changed}
use Rattle.file_tree.specs.declared.model_fault.ApplyFault.TheVariants as applies
use Rattle.build_plan.specs.Applying.{MakesAll, MakesPrefix, Sides}
use Rattle.build_plan.specs.Doing as doing
use Rattle.build_plan.specs.Symbolic.{Work, begun, symbolic}
use Rattle.build_script.specs.declared.inferring.Inferred.{Inferred}
use Rattle.build_script.specs.declared.line_fault.LineFault.{LineFault}
use Rattle.build_script.specs.declared.line_fault.LineFault.TheVariants as line_faults
use Rattle.build_script.specs.declared.lines.ScriptLine.{ScriptLine}
use Rattle.build_script.specs.Inferring.{HaltsFor, InfersAll, InfersAs, InfersSome, end_of, from_work, next_work}
use Rattle.build_script.specs.LineCommand.{AtWord, AtWork, Halt, line_command}
use Rattle.build_script.specs.Script.{ScriptEnd, Finished, Halted, line_done, state_at}
use Rattle.build_script.specs.ScriptLines.{script_lines}
use Rattle.build_script.proofs.PublicLaws.{after, after-begun, command-moves, moved_end}
use Rattle.gg_cli.specs.declared.fault.TopFault.{TopFault}
use Rattle.gg_cli.specs.declared.fault.TopFault.TheVariants as tops
use Rattle.gg_cli.specs.declared.status.Status.TheVariants.{Done}
use Rattle.gg_cli.specs.Answer.{Answer, all_done, halted_by, halt_fault, infer_prints, inferred, inferred_text, scripted}
use Rattle.gg_cli.specs.Comes.{Comes, Made, MadeAll, MadePart, MadePrefix, from_parts}
use Rattle.gg_cli.specs.LowerFaults.{line_fault, output_fault}
use Rattle.gg_cli.specs.Parts.{Part, all_changes, all_writes, first_part, line_parts, work_part}
use Rattle.gg_cli.specs.StepContracts.{Ends, EndsAt, work_made}
use Rattle.gg_cli.specs.Writing.{Writes}
use Rattle.gg_cli.proofs.PartsJoin.{joined, parts-all, parts-append, parts-first}
use Rattle.gg_cli.proofs.StepsMakeTheAnswer.{all_printed, all_unprinted, handed}

-- ---- lines that are inferred

abbrev pub afresh : Work → Work
afresh work = begun work.store work.files

-- a line's work goes on from earlier work
no_count : (base : Work) (e : ScriptEnd Work) → moved_end 0 base e ≡ joined after base e
no_count base (Finished count s) = ap (λ (n : ℕ). Finished n (after base s)) (zero-add count)
no_count base (Halted halt s) = refl

line-moves : (line : ScriptLine) (s : Work) → line_done symbolic line s ≡ joined after s (line_done symbolic line (afresh s))
line-moves line s =
    ap (λ (w : Work). line_done symbolic line w) (sym (after-begun s)) ∙ command-moves line.number (line_command line) s (afresh s) ∙ no_count s (line_done symbolic line (afresh s))

abbrev pub parts_of : List ScriptLine → Work → List Part
parts_of = line_parts symbolic afresh work_part

module _ (lines : List ScriptLine) (s : Sides) where
  abbrev pub start : Work
  start = begun s.kept_before.store s.files_before.files

  -- all parts together write and change what the lines end with
  pub writes-all : all_writes (parts_of lines start) ≡ (state_at (end_of lines s)).writes
  writes-all = sym (parts-all symbolic afresh work_part after (λ base s. refl) line-moves (λ part. part.writes) all_writes refl (λ first others. refl) (λ base s. refl) lines 0 start)

  pub changes-all : all_changes (parts_of lines start) ≡ (state_at (end_of lines s)).changes
  changes-all = sym (parts-all symbolic afresh work_part after (λ base s. refl) line-moves (λ part. part.changes) all_changes refl (λ first others. refl) (λ base s. refl) lines 0 start)

  -- some work after some parts, whose state is this
  from-work : (last : Work) → state_at (end_of lines s) ≡ last → (told : Option (List ℕ)) → work_made told (from_work last s) ≡ from_parts (parts_of lines start) (work_made told s)
  from-work last is told = λ i. record (work_made told s) {
    kept_before = all_written s.kept_before ((ap (λ (w : Work). w.writes) (sym is) ∙ sym writes-all) i);
    files_before = all_changed s.files_before ((ap (λ (w : Work). w.changes) (sym is) ∙ sym changes-all) i);
  }

  -- all that the lines end with is made
  module _ (told : Option (List ℕ)) (a : Answer) (are : a.parts ≡ parts_of lines start) where
    all-made : (last : Work) → state_at (end_of lines s) ≡ last → MakesAll last s → MadeAll a (work_made told s)
    all-made last is h = record {
      kept = h.kept ∙ ap (all_written s.kept_before) (ap (λ (w : Work). w.writes) (sym is) ∙ sym writes-all ∙ ap all_writes (sym are));
      files = h.files ∙ ap (all_changed s.files_before) (ap (λ (w : Work). w.changes) (sym is) ∙ sym changes-all ∙ ap all_changes (sym are));
    }

-- the next line's own work is the first part behind
next-part : (behind : List ScriptLine) (last : Work) → work_part (next_work behind last) ≡ first_part (parts_of behind last)
next-part [] last = refl
next-part (line ∷ lines) last = sym (parts-first symbolic afresh work_part after (λ base s. refl) line-moves line lines last)

part-made : (work : Work) (s : Sides) (told : Option (List ℕ)) → MakesPrefix work s → MadePart (work_part work) (work_made told s)
part-made work s told (inl h) = inl (record { kept = h.kept; files = h.files })
part-made work s told (inr h) = inr (record { kept = h.kept; files = h.files })

-- the answer's parts are those of its lines
pub scripted-parts : {S : Type 0} (text : ℕ → S → List ℕ) (parts : List Part) (e : ScriptEnd S) → (scripted text parts e).parts ≡ parts
scripted-parts text parts (Finished count s) = refl
scripted-parts text parts (Halted halt s) = refl

module _ (text : List ℕ) (s : Sides) where
  abbrev lines : List ScriptLine
  lines = script_lines text

  abbrev first : Work
  first = begun s.kept_before.store s.files_before.files

  abbrev answer : Answer
  answer = inferred text s.kept_before.store s.files_before.files

  are : answer.parts ≡ parts_of lines first
  are = scripted-parts infer_prints (parts_of lines first) (end_of lines s)

  module _ (told : Option (List ℕ)) where
    -- some of it is
    prefix-made : InfersSome lines s → MadePrefix answer (work_made told s)
    prefix-made h = record {
      before = parts_of h.before first;
      behind = parts_of h.behind h.last;
      are = are ∙ ap (λ (ls : List ScriptLine). parts_of ls first) h.are
          ∙ parts-append symbolic afresh work_part after (λ base s. refl) line-moves h.before h.behind 0 h.count first h.last h.finished;
      part =
          subst (λ (m : Made). MadePart (first_part (parts_of h.behind h.last)) m) (from-work h.before s h.last (ap state_at h.finished) told)
          (subst (λ (p : Part). MadePart p (work_made told (from_work h.last s))) (next-part h.behind h.last)
          (part-made (next_work h.behind h.last) (from_work h.last s) told h.part));
    }

    -- a line halted
    refused-ends : (halt : Halt) (fault : TopFault) → halt_fault halt ≡ fault → ((m : Made) → MadeAll (halted_by (parts_of lines first) fault) m → Appends m.out_before m.out_after [] → EndsAt (halted_by (parts_of lines first) fault) m fault)
        → HaltsFor lines s halt → EndsAt answer (work_made told s) fault
    refused-ends halt fault is ends h =
        subst (λ (a : Answer). EndsAt a (work_made told s) fault) (sym (ap (scripted infer_prints (parts_of lines first)) h.halted ∙ ap (halted_by (parts_of lines first)) is))
        (ends (work_made told s) (all-made lines s told (halted_by (parts_of lines first) fault) refl h.last (ap state_at h.halted) h.all) (Appends-nil told))

    -- the script ended at a fault
    pub infer_ends : (fault : LineFault) → InfersAs lines s (Err fault) → EndsAt answer (work_made told s) (line_fault fault)
    infer_ends (line_faults.Word line word reason) h =
        refused-ends (AtWord line word reason) (tops.LineNotModelled line word reason) refl (λ m all none. record { comes = record { is_status = refl; all = all; text = none }; line = refl }) h
    infer_ends (line_faults.Apply line (applies.Refused refusal)) h =
        refused-ends (AtWork line (doing.File refusal)) (tops.FileRefused refusal) refl (λ m all none. record { comes = record { is_status = refl; all = all; text = none }; line = refl }) h
    infer_ends (line_faults.Apply line (applies.Reason reason)) h = absurd h
    infer_ends (line_faults.Apply line (applies.Clash name found fresh)) h =
        refused-ends (AtWork line (doing.Clash name found fresh)) (tops.Clash name) refl (λ m all none. record { comes = record { is_status = refl; all = all; text = none }; line = refl }) h
    infer_ends (line_faults.Apply line applies.StoreFailed) h = record { comes = record { prefix = prefix-made h.some; no_text = Appends-nil told }; line = refl }
    infer_ends (line_faults.Apply line applies.FileFailed) h = record { comes = record { prefix = prefix-made h.some; no_text = Appends-nil told }; line = refl }
    infer_ends (line_faults.Apply line applies.Memory) h = absurd h
    infer_ends (line_faults.Tool line status) h = absurd h
    infer_ends line_faults.Memory h = record { comes = inl (record { prefix = prefix-made h; no_text = Appends-nil told }); line = refl }

  -- all lines are done: the text is printed, or a prefix of it
  module _ (i : Inferred) (h : InfersAll lines s i) (b c : Option (List ℕ)) (f g : ℕ) where
    done-is : answer ≡ all_done (parts_of lines first) (inferred_text i.commands i.thunks)
    done-is = ap (scripted infer_prints (parts_of lines first)) h.finished ∙ (λ j. all_done (parts_of lines first) (inferred_text (sym h.commands j) (sym h.thunks j)))

    done-whole : MadeAll (all_done (parts_of lines first) (inferred_text i.commands i.thunks)) (handed s.kept_before s.kept_after s.files_before s.files_after b c)
    done-whole =
        let made = all-made lines s b (all_done (parts_of lines first) (inferred_text i.commands i.thunks)) refl h.last (ap state_at h.finished) h.all in
        record { kept = made.kept; files = made.files }

    pub infer_printed : {T : Type 0} (v : T) → Writes (inferred_text i.commands i.thunks) b c f g (Ok v)
        → Ends {T = T} answer (handed s.kept_before s.kept_after s.files_before s.files_after b c) (Ok v)
    infer_printed v written =
        subst (λ (a : Answer). Comes a (handed s.kept_before s.kept_after s.files_before s.files_after b c) Done) (sym done-is)
        (all_printed (parts_of lines first) (inferred_text i.commands i.thunks) (handed s.kept_before s.kept_after s.files_before s.files_after b c) f g done-whole v written)

    pub infer_unprinted : (T : Type 0) (trouble : Trouble) → Writes {T = T} (inferred_text i.commands i.thunks) b c f g (Err trouble)
        → EndsAt answer (handed s.kept_before s.kept_after s.files_before s.files_after b c) (output_fault trouble)
    infer_unprinted T trouble written =
        subst (λ (a : Answer). EndsAt a (handed s.kept_before s.kept_after s.files_before s.files_after b c) (output_fault trouble)) (sym done-is)
        (all_unprinted (parts_of lines first) (inferred_text i.commands i.thunks) (handed s.kept_before s.kept_after s.files_before s.files_after b c) f g done-whole T trouble written)
