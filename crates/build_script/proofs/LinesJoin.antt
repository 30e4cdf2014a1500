-- Lines that were inferred, and more lines that were inferred after them.
use Rattle.std.proofs.Common.{◌≡◌, ℕ, ◌+◌, List, [], ◌∷◌, ◌++◌, Err, refl, sym, ap, subst, ◌∙◌, append_assoc, arith}
use Rattle.std.proofs.Math.Nat.{add-zero}
use Rattle.blob_store.specs.Keeping.{Kept, all_written}
use Rattle.blob_store.proofs.PublicLaws.{all_written-none, all_written-append}
use Rattle.file_tree.specs.Files.{Filed, all_changed}
use Rattle.file_tree.proofs.PublicLaws.{all_changed-none, all_changed-append}
use Rattle.file_tree.specs.declared.model_fault.ApplyFault.{ApplyFault}
use Rattle.file_tree.specs.declared.model_fault.ApplyFault.TheVariants as faults
use Rattle.build_plan.specs.Applying.{Sides, MakesAll, MakesPrefix}
use Rattle.build_plan.specs.StepContracts.{between}
use Rattle.build_plan.specs.Symbolic.{Work, begun, symbolic}
use Rattle.build_script.specs.declared.inferring.Inferred.{Inferred}
use Rattle.build_script.specs.declared.line_fault.LineFault.{LineFault}
use Rattle.build_script.specs.declared.line_fault.LineFault.TheVariants.{Word, Apply, Tool, Memory}
use Rattle.build_script.specs.declared.lines.ScriptLine.{ScriptLine}
use Rattle.build_script.specs.LineCommand.{Halt}
use Rattle.build_script.specs.Script.{ScriptEnd, state_at, go_on, lines_done}
use Rattle.build_script.specs.Inferring.{at_most, end_of, InfersAll, HaltsFor, InfersSome, InfersUpTo, FailsAs, InfersAs, from_work, next_work, added}
use Rattle.build_script.proofs.SymbolicAdds.{after, IsMade, after-begun}
use Rattle.build_script.proofs.ScriptAdds.{lines-append, moved_end, lines-move, lines-make}

-- no line is inferred
pub none_inferred : (s : Sides) (i : Inferred) → i.commands ≡ 0 → i.thunks ≡ 0 → s.kept_after ≡ s.kept_before → s.files_after ≡ s.files_before → InfersAll [] s i
none_inferred s i commands thunks kept filed = record {
  count = 0;
  last = begun s.kept_before.store s.files_before.files;
  finished = refl;
  commands = commands;
  thunks = thunks;
  all = record { kept = kept ∙ all_written-none s.kept_before; files = filed ∙ all_changed-none s.files_before };
}

-- the next line's own work begins where the lines before ended
next-after : (behind : List ScriptLine) (base work : Work) → next_work behind work ≡ next_work behind (after base work)
next-after [] base work = refl
next-after (line ∷ lines) base work = refl

-- numbers of both
count_added : (a b n m : ℕ) → a ≡ at_most n → b ≡ at_most m → at_most (a + b) ≡ at_most (n + m)
count_added a b n m first more = rw (first, more) (limits n m)
  where
    limits : (n m : ℕ) → at_most (at_most n + at_most m) ≡ at_most (n + m)
    limits n m = omega arith

module _ (first : List ScriptLine) (k0 k1 k2 : Kept) (f0 f1 f2 : Filed) (some : Inferred) (all : InfersAll first (between k0 k1 f0 f1) some) where
  base_made : IsMade k0.store f0.files all.last
  base_made =
      subst (λ (e : ScriptEnd Work). IsMade k0.store f0.files (state_at e)) all.finished
      (lines-make k0.store f0.files first 0 (begun k0.store f0.files) (record { store = refl; files = refl }))

  -- the lines before ended in what is told between
  store_between : all.last.store ≡ k1.store
  store_between = base_made.store ∙ ap (λ (k : Kept). k.store) (sym all.all.kept)

  files_between : all.last.files ≡ f1.files
  files_between = base_made.files ∙ ap (λ (f : Filed). f.files) (sym all.all.files)

  goes_on : (rest : List ScriptLine) → end_of (first ++ rest) (between k0 k2 f0 f2) ≡ moved_end all.count all.last (end_of rest (between k1 k2 f1 f2))
  goes_on rest =
      let start = begun k0.store f0.files in
      lines-append symbolic first rest 0 start ∙ ap (λ (e : ScriptEnd Work). go_on e (λ n t. lines_done symbolic rest n t)) all.finished
      ∙ (λ i. lines_done symbolic rest (sym (add-zero all.count) i) (sym (after-begun all.last) i))
      ∙ lines-move rest all.count 0 all.last (begun all.last.store all.last.files)
      ∙ (λ i. moved_end all.count all.last (lines_done symbolic rest 0 (begun (store_between i) (files_between i))))

  makes_both : (more : Work) → MakesAll more (between k1 k2 f1 f2) → MakesAll (after all.last more) (between k0 k2 f0 f2)
  makes_both more made = record {
    kept = made.kept ∙ ap (λ (k : Kept). all_written k more.writes) all.all.kept ∙ sym (all_written-append k0 all.last.writes more.writes);
    files = made.files ∙ ap (λ (f : Filed). all_changed f more.changes) all.all.files ∙ sym (all_changed-append f0 all.last.changes more.changes);
  }

  pub all-join : (rest : List ScriptLine) (more whole : Inferred) → InfersAll rest (between k1 k2 f1 f2) more → whole ≡ added some more → InfersAll (first ++ rest) (between k0 k2 f0 f2) whole
  all-join rest more whole then is = record {
    count = all.count + then.count;
    last = after all.last then.last;
    finished = goes_on rest ∙ ap (λ (e : ScriptEnd Work). moved_end all.count all.last e) then.finished;
    commands = ap (λ (i : Inferred). i.commands) is ∙ count_added some.commands more.commands all.count then.count all.commands then.commands;
    thunks = ap (λ (i : Inferred). i.thunks) is ∙ count_added some.thunks more.thunks all.last.thunks then.last.thunks all.thunks then.thunks;
    all = makes_both then.last then.all;
  }

  halts-join : (rest : List ScriptLine) (halt : Halt) → HaltsFor rest (between k1 k2 f1 f2) halt → HaltsFor (first ++ rest) (between k0 k2 f0 f2) halt
  halts-join rest halt then = record {
    last = after all.last then.last;
    halted = goes_on rest ∙ ap (λ (e : ScriptEnd Work). moved_end all.count all.last e) then.halted;
    all = makes_both then.last then.all;
  }

  -- what is told from the work of both on
  from_both : (more : Work) → from_work more (between k1 k2 f1 f2) ≡ from_work (after all.last more) (between k0 k2 f0 f2)
  from_both more = λ i. between
      ((ap (λ (k : Kept). all_written k more.writes) all.all.kept ∙ sym (all_written-append k0 all.last.writes more.writes)) i) k2
      ((ap (λ (f : Filed). all_changed f more.changes) all.all.files ∙ sym (all_changed-append f0 all.last.changes more.changes)) i) f2

  pub some-join : (rest : List ScriptLine) → InfersSome rest (between k1 k2 f1 f2) → InfersSome (first ++ rest) (between k0 k2 f0 f2)
  some-join rest then = record {
    before = first ++ then.before;
    behind = then.behind;
    are = ap (λ (xs : List ScriptLine). first ++ xs) then.are ∙ sym (append_assoc first then.before then.behind);
    count = all.count + then.count;
    last = after all.last then.last;
    finished = goes_on then.before ∙ ap (λ (e : ScriptEnd Work). moved_end all.count all.last e) then.finished;
    part = subst (λ (v : Sides). MakesPrefix (next_work then.behind (after all.last then.last)) v) (from_both then.last)
        (subst (λ (w : Work). MakesPrefix w (from_work then.last (between k1 k2 f1 f2))) (next-after then.behind all.last then.last) then.part);
  }

  up_to-join : (number : ℕ) (rest : List ScriptLine) → InfersUpTo number rest (between k1 k2 f1 f2) → InfersUpTo number (first ++ rest) (between k0 k2 f0 f2)
  unfolding some-join
  up_to-join number rest then = record { some = some-join rest then.some; next = then.next }

  fails-join : (number : ℕ) (rest : List ScriptLine) (fault : ApplyFault) → FailsAs number rest (between k1 k2 f1 f2) fault → FailsAs number (first ++ rest) (between k0 k2 f0 f2) fault
  fails-join number rest (faults.Refused refusal) then = halts-join rest _ then
  fails-join number rest (faults.Reason reason) then = then
  fails-join number rest (faults.Clash name found fresh) then = halts-join rest _ then
  fails-join number rest faults.StoreFailed then = up_to-join number rest then
  fails-join number rest faults.FileFailed then = up_to-join number rest then
  fails-join number rest faults.Memory then = then

  -- a fault of the lines behind is that of all
  pub fault-join : (rest : List ScriptLine) (fault : LineFault) → InfersAs rest (between k1 k2 f1 f2) (Err fault) → InfersAs (first ++ rest) (between k0 k2 f0 f2) (Err fault)
  fault-join rest (Word number word reason) then = halts-join rest _ then
  fault-join rest (Apply number fault) then = fails-join number rest fault then
  fault-join rest (Tool number status) then = then
  fault-join rest Memory then = some-join rest then
