-- How a script that was built at once makes the answer.
use Rattle.std.proofs.Common.{◌≡◌, ℕ, List, [], ◌∷◌, Option, Ok, Err, inl, inr, refl, sym, ap, subst, ◌∙◌, codes}
use Rattle.std.proofs.KnownBytes.{Appends-nil}
use Rattle.std.specs.Io.KnownBytes.{Appends}
use Rattle.object_name.specs.declared.trouble.Trouble.{Trouble}
use Rattle.blob_store.proofs.PublicLaws.{all_written-none}
use Rattle.blob_store.specs.Keeping.{Kept, all_written}
use Rattle.file_tree.specs.Files.{ChangesPrefix, Filed, all_changed}
use Rattle.file_tree.specs.declared.model_fault.ApplyFault.TheVariants as applies
use Rattle.sandbox_run.specs.Cards.{card_outcome}
use Rattle.build_plan.specs.Doing as doing
use Rattle.build_plan.specs.Way.{Way}
use Rattle.build_script.specs.declared.line_fault.LineFault.{LineFault}
use Rattle.build_script.specs.declared.line_fault.LineFault.TheVariants as line_faults
use Rattle.build_script.specs.declared.lines.ScriptLine.{ScriptLine}
use Rattle.build_script.specs.AtOnce.{Ran, at_once, not_run}
use Rattle.build_script.specs.Building.{BuildsAll, BuildsAs, BuildsSome, HaltsFor, end_of, next_work}
use Rattle.build_script.specs.LineCommand.{AtWord, AtWork, Halt}
use Rattle.build_script.specs.Script.{ScriptEnd, Finished, Halted, line_done, state_at}
use Rattle.build_script.specs.ScriptLines.{script_lines}
use Rattle.build_script.specs.WholeTree.{cpp_whole}
use Rattle.build_script.proofs.PublicLaws.{ran_after, ran_moved, ran-after-start, ran-line-moves}
use Rattle.gg_cli.specs.declared.fault.TopFault.{TopFault}
use Rattle.gg_cli.specs.declared.fault.TopFault.TheVariants as tops
use Rattle.gg_cli.specs.declared.status.Status.TheVariants.{Done}
use Rattle.gg_cli.specs.Answer.{Answer, all_done, build_prints, built, count_line, halted_by, halt_fault, scripted}
use Rattle.gg_cli.specs.Comes.{Comes, Made, MadeAll, MadePart, MadePrefix, from_parts}
use Rattle.gg_cli.specs.LowerFaults.{line_fault, output_fault}
use Rattle.gg_cli.specs.Parts.{Part, all_changes, all_writes, first_part, line_parts, ran_part}
use Rattle.gg_cli.specs.StepContracts.{Ends, EndsAt, unkept}
use Rattle.gg_cli.specs.Writing.{Writes}
use Rattle.gg_cli.proofs.PartsJoin.{joined, parts-all, parts-append, parts-first}
use Rattle.gg_cli.proofs.StepsMakeTheAnswer.{all_printed, all_unprinted}
use Rattle.gg_cli.proofs.ScriptsMakeTheAnswer.{scripted-parts}

-- ---- lines that are built at once

abbrev pub by_cards : Way Ran (List ℕ)
by_cards = at_once card_outcome cpp_whole

abbrev pub afresh : Ran → Ran
afresh ran = not_run ran.files

-- a line's work goes on from earlier work
same_moved : (base : Ran) (e : ScriptEnd Ran) → ran_moved base e ≡ joined ran_after base e
same_moved base (Finished count s) = refl
same_moved base (Halted halt s) = refl

line-moves : (line : ScriptLine) (s : Ran) → line_done by_cards line s ≡ joined ran_after s (line_done by_cards line (afresh s))
line-moves line s =
    ap (λ (w : Ran). line_done by_cards line w) (sym (ran-after-start s)) ∙ ran-line-moves card_outcome cpp_whole line s (afresh s) ∙ same_moved s (line_done by_cards line (afresh s))

abbrev pub parts_of : List ScriptLine → Ran → List Part
parts_of = line_parts by_cards afresh ran_part

module _ (lines : List ScriptLine) (before : Filed) where
  -- all parts together change what the lines end with, and write nothing
  pub changes-all : all_changes (parts_of lines (not_run before.files)) ≡ (state_at (end_of lines before)).changes
  changes-all =
      sym (parts-all by_cards afresh ran_part ran_after (λ base s. refl) line-moves (λ part. part.changes) all_changes refl (λ first others. refl) (λ base s. refl) lines 0 (not_run before.files))

  no-writes : [] ≡ all_writes (parts_of lines (not_run before.files))
  no-writes = parts-all by_cards afresh ran_part ran_after (λ base s. refl) line-moves (λ part. part.writes) all_writes refl (λ first others. refl) (λ base s. refl) lines 0 (not_run before.files)

  -- the store is as it was
  store-same : (kept : Kept) → kept ≡ all_written kept (all_writes (parts_of lines (not_run before.files)))
  store-same kept = all_written-none kept ∙ ap (all_written kept) no-writes

  files-same : (last : Ran) → state_at (end_of lines before) ≡ last → all_changed before last.changes ≡ all_changed before (all_changes (parts_of lines (not_run before.files)))
  files-same last is = ap (all_changed before) (ap (λ (w : Ran). w.changes) (sym is) ∙ sym changes-all)

  -- all that the lines end with is made
  all-made : (kept : Kept) (after : Filed) (b c : Option (List ℕ)) (a : Answer) → a.parts ≡ parts_of lines (not_run before.files) → (last : Ran) → state_at (end_of lines before) ≡ last
      → after ≡ all_changed before last.changes → MadeAll a (unkept kept before after b c)
  all-made kept after b c a are last is h = record {
    kept = store-same kept ∙ ap (λ (ps : List Part). all_written kept (all_writes ps)) (sym are);
    files = h ∙ files-same last is ∙ ap (λ (ps : List Part). all_changed before (all_changes ps)) (sym are);
  }

-- the next line's own work is the first part behind
next-part : (behind : List ScriptLine) (last : Ran) → ran_part (next_work behind last) ≡ first_part (parts_of behind last)
next-part [] last = refl
next-part (line ∷ lines) last = sym (parts-first by_cards afresh ran_part ran_after (λ base s. refl) line-moves line lines last)

module _ (text : List ℕ) (kept : Kept) (before after : Filed) where
  abbrev lines : List ScriptLine
  lines = script_lines text

  abbrev first : Ran
  first = not_run before.files

  abbrev answer : Answer
  answer = built text before.files

  are : answer.parts ≡ parts_of lines first
  are = scripted-parts build_prints (parts_of lines first) (end_of lines before)

  module _ (told : Option (List ℕ)) where
    -- some of it is
    prefix-made : BuildsSome lines before after → MadePrefix answer (unkept kept before after told told)
    prefix-made h = record {
      before = parts_of h.first first;
      behind = parts_of h.behind h.last;
      are = are ∙ ap (λ (ls : List ScriptLine). parts_of ls first) h.are
          ∙ parts-append by_cards afresh ran_part ran_after (λ base s. refl) line-moves h.first h.behind 0 h.count first h.last h.finished;
      part =
          subst (λ (p : Part). MadePart p (from_parts (parts_of h.first first) (unkept kept before after told told))) (next-part h.behind h.last) (inr (record {
            kept = store-same h.first before kept ∙ all_written-none (all_written kept (all_writes (parts_of h.first first)));
            files = subst (λ (f : Filed). ChangesPrefix (next_work h.behind h.last).changes f after) (files-same h.first before h.last (ap state_at h.finished)) h.part;
          }));
    }

    -- a line halted
    refused-ends : (halt : Halt) (fault : TopFault) → halt_fault halt ≡ fault → ((m : Made) → MadeAll (halted_by (parts_of lines first) fault) m → Appends m.out_before m.out_after [] → EndsAt (halted_by (parts_of lines first) fault) m fault)
        → HaltsFor lines before after halt → EndsAt answer (unkept kept before after told told) fault
    refused-ends halt fault is ends h =
        subst (λ (a : Answer). EndsAt a (unkept kept before after told told) fault) (sym (ap (scripted build_prints (parts_of lines first)) h.halted ∙ ap (halted_by (parts_of lines first)) is))
        (ends (unkept kept before after told told)
        (all-made lines before kept after told told (halted_by (parts_of lines first) fault) refl h.last (ap state_at h.halted) h.all) (Appends-nil told))

    -- the script ended at a fault
    pub build_ends : (fault : LineFault) → BuildsAs lines before after (Err fault) → EndsAt answer (unkept kept before after told told) (line_fault fault)
    build_ends (line_faults.Word line word reason) h =
        refused-ends (AtWord line word reason) (tops.LineNotModelled line word reason) refl (λ m all none. record { comes = record { is_status = refl; all = all; text = none }; line = refl }) h
    build_ends (line_faults.Apply line (applies.Refused refusal)) h =
        refused-ends (AtWork line (doing.File refusal)) (tops.FileRefused refusal) refl (λ m all none. record { comes = record { is_status = refl; all = all; text = none }; line = refl }) h
    build_ends (line_faults.Apply line (applies.Reason reason)) h = absurd h
    build_ends (line_faults.Apply line (applies.Clash name found fresh)) h = absurd h
    build_ends (line_faults.Apply line applies.StoreFailed) h = absurd h
    build_ends (line_faults.Apply line applies.FileFailed) h = record { comes = record { prefix = prefix-made h.some; no_text = Appends-nil told }; line = refl }
    build_ends (line_faults.Apply line applies.Memory) h = absurd h
    build_ends (line_faults.Tool line status) h =
        refused-ends (AtWork line (doing.Tool status)) (tops.ToolFailed line status) refl (λ m all none. record { comes = record { is_status = refl; all = all; text = none }; line = refl }) h
    build_ends line_faults.Memory h = record { comes = inl (record { prefix = prefix-made h; no_text = Appends-nil told }); line = refl }

  -- all lines are done: the text is printed, or a prefix of it
  module _ (commands : ℕ) (h : BuildsAll lines before after commands) (b c : Option (List ℕ)) (f g : ℕ) where
    abbrev done_text : List ℕ
    done_text = count_line (codes "commands ") commands

    done-is : answer ≡ all_done (parts_of lines first) done_text
    done-is = ap (scripted build_prints (parts_of lines first)) h.finished ∙ ap (λ (n : ℕ). all_done (parts_of lines first) (count_line (codes "commands ") n)) (sym h.number)

    done-whole : MadeAll (all_done (parts_of lines first) done_text) (unkept kept before after b c)
    done-whole = all-made lines before kept after b c (all_done (parts_of lines first) done_text) refl h.last (ap state_at h.finished) h.all

    pub build_printed : {T : Type 0} (v : T) → Writes done_text b c f g (Ok v) → Ends {T = T} answer (unkept kept before after b c) (Ok v)
    build_printed v written =
        subst (λ (a : Answer). Comes a (unkept kept before after b c) Done) (sym done-is) (all_printed (parts_of lines first) done_text (unkept kept before after b c) f g done-whole v written)

    pub build_unprinted : (T : Type 0) (trouble : Trouble) → Writes {T = T} done_text b c f g (Err trouble) → EndsAt answer (unkept kept before after b c) (output_fault trouble)
    build_unprinted T trouble written =
        subst (λ (a : Answer). EndsAt a (unkept kept before after b c) (output_fault trouble)) (sym done-is)
        (all_unprinted (parts_of lines first) done_text (unkept kept before after b c) f g done-whole T trouble written)
