-- Lines go on from earlier lines as from the start.
use Rattle.std.proofs.Common.{◌≡◌, ℕ, ◌+◌, List, [], ◌∷◌, ◌++◌, Option, Some, None, Result, Ok, Err, refl, ap, ◌∙◌}
use Rattle.std.proofs.Math.Nat.{add_assoc, zero-add}
use Rattle.blob_store.specs.Store.{Store}
use Rattle.file_tree.specs.Files.{Files}
use Rattle.build_plan.specs.Doing.{Ended, Got, Stopped, state_after}
use Rattle.build_plan.specs.Symbolic.{Work, symbolic}
use Rattle.build_plan.specs.Way.{Way, done}
use Rattle.build_script.specs.declared.line_command.LineCommand.{LineCommand}
use Rattle.build_script.specs.declared.lines.ScriptLine.{ScriptLine}
use Rattle.build_script.specs.LineCommand.{Halt, line_command}
use Rattle.build_script.specs.Script.{ScriptEnd, Finished, Halted, state_at, go_on, line_end, command_done, line_done, lines_done}
use Rattle.build_script.proofs.SymbolicAdds.{after, moved, IsMade, adds-done}

-- lines after others, by any way
pub lines-append : {S A : Type 0} (way : Way S A) (xs ys : List ScriptLine) (count : ℕ) (s : S)
    → lines_done way (xs ++ ys) count s ≡ go_on (lines_done way xs count s) (λ n t. lines_done way ys n t)
lines-append way [] ys count s = refl
lines-append {S} way (x ∷ xs) ys count s = on (line_done way x s) (λ more t. lines-append way xs ys (count + more) t)
  where
    on : (e : ScriptEnd S)
        → ((more : ℕ) (t : S) → lines_done way (xs ++ ys) (count + more) t ≡ go_on (lines_done way xs (count + more) t) (λ n t. lines_done way ys n t))
        → go_on e (λ more t. lines_done way (xs ++ ys) (count + more) t) ≡ go_on (go_on e (λ more t. lines_done way xs (count + more) t)) (λ n t. lines_done way ys n t)
    on (Finished more t) next = next more t
    on (Halted halt t) next = refl

-- how lines end that go on from earlier lines
abbrev pub moved_end : ℕ → Work → ScriptEnd Work → ScriptEnd Work
moved_end n base (Finished count s) = Finished (n + count) (after base s)
moved_end n base (Halted halt s) = Halted halt (after base s)

line_end-moves : {A : Type 0} (number : ℕ) (words : List (List ℕ)) (base : Work) (e : Ended Work A) → line_end number words (moved base e) ≡ moved_end 0 base (line_end number words e)
line_end-moves number words base (Got x s) = refl
line_end-moves number words base (Stopped why s) = refl

-- a line's command goes on from earlier lines as from the start
pub command-moves : (number : ℕ) (command : Result (Option LineCommand) Halt) (base s : Work)
    → command_done symbolic number command (after base s) ≡ moved_end 0 base (command_done symbolic number command s)
command-moves number (Ok None) base s = refl
command-moves number (Ok (Some command)) base s =
    ap (λ (e : Ended Work (Unit {0})). line_end number command.words e) ((adds-done command.plan).moves base s) ∙ line_end-moves number command.words base (done symbolic command.plan s)
command-moves number (Err halt) base s = refl

pub lines-move : (lines : List ScriptLine) (n count : ℕ) (base s : Work) → lines_done symbolic lines (n + count) (after base s) ≡ moved_end n base (lines_done symbolic lines count s)
lines-move [] n count base s = refl
lines-move (line ∷ lines) n count base s =
    ap (λ (e : ScriptEnd Work). go_on e (λ more t. lines_done symbolic lines (n + count + more) t)) (command-moves line.number (line_command line) base s)
    ∙ on (line_done symbolic line s) (λ more t. lines-move lines n (count + more) base t)
  where
    on : (e : ScriptEnd Work)
        → ((more : ℕ) (t : Work) → lines_done symbolic lines (n + (count + more)) (after base t) ≡ moved_end n base (lines_done symbolic lines (count + more) t))
        → go_on (moved_end 0 base e) (λ more t. lines_done symbolic lines (n + count + more) t) ≡ moved_end n base (go_on e (λ more t. lines_done symbolic lines (count + more) t))
    on (Finished more t) next =
        ap (λ (k : ℕ). lines_done symbolic lines (n + count + k) (after base t)) (zero-add more)
        ∙ ap (λ (k : ℕ). lines_done symbolic lines k (after base t)) (add_assoc n count more) ∙ next more t
    on (Halted halt t) next = refl

-- ---- the store and the files are those with all writes and changes

pub line_end-state : {S A : Type 0} (number : ℕ) (words : List (List ℕ)) (e : Ended S A) → state_at (line_end number words e) ≡ state_after e
line_end-state number words (Got x s) = refl
line_end-state number words (Stopped why s) = refl

module _ (old : Store) (tree : Files) where
  command-makes : (number : ℕ) (command : Result (Option LineCommand) Halt) (s : Work) → IsMade old tree s → IsMade old tree (state_at (command_done symbolic number command s))
  command-makes number (Ok None) s made = made
  command-makes number (Ok (Some command)) s made = rw (line_end-state number command.words (done symbolic command.plan s)) ((adds-done command.plan).makes old tree s made)
  command-makes number (Err halt) s made = made

  pub lines-make : (lines : List ScriptLine) (count : ℕ) (s : Work) → IsMade old tree s → IsMade old tree (state_at (lines_done symbolic lines count s))
  lines-make [] count s made = made
  lines-make (line ∷ lines) count s made =
      on (line_done symbolic line s) (λ more t. lines-make lines (count + more) t) (command-makes line.number (line_command line) s made)
    where
      on : (e : ScriptEnd Work) → ((more : ℕ) (t : Work) → IsMade old tree t → IsMade old tree (state_at (lines_done symbolic lines (count + more) t)))
          → IsMade old tree (state_at e) → IsMade old tree (state_at (go_on e (λ more t. lines_done symbolic lines (count + more) t)))
      on (Finished more t) next h = next more t h
      on (Halted halt t) next h = h
