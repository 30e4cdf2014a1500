-- Passes over the objects of an archive, as a loop makes them.
use Rattle.std.proofs.Common.{◌≡◌, ℕ, zero, suc, ◌<◌, ◌-◌, List, length, Ok, Err, refl, sym, ap, ◌∙◌, arith}
use Rattle.std.proofs.lemmas.Bool.{eq-eqb, ne_eqb}
use Rattle.tool_bin.specs.declared.link_fault.LinkFault.{LinkFault}
use Rattle.tool_bin.specs.declared.program.Program.{Program}
use Rattle.tool_bin.specs.declared.object.Object.{Object}
use Rattle.tool_bin.specs.Link.{pass, searched}

pub failed_pass : (n : ℕ) (program : Program) (objects : List Object) (fault : LinkFault) → 0 < n → pass program objects ≡ Err fault → searched n program objects ≡ Err fault
failed_pass zero program objects fault some is = absurd (omega arith)
failed_pass (suc n) program objects fault some is = rw is refl

pub last_pass : (n : ℕ) (program more : Program) (objects : List Object) → 0 < n → pass program objects ≡ Ok more → length more.symbols ≡ length program.symbols → searched n program objects ≡ Ok more
last_pass zero program more objects some is same = absurd (omega arith)
last_pass (suc n) program more objects some is same = rw (is, eq-eqb (length more.symbols) (length program.symbols) same) refl

after_pass : (n : ℕ) (program more : Program) (objects : List Object) → pass program objects ≡ Ok more → (length more.symbols ≡ length program.symbols → ⊥) → searched (suc n) program objects ≡ searched n more objects
after_pass n program more objects is other = rw (is, ne_eqb (length more.symbols) (length program.symbols) other) refl

pub next_pass : (n : ℕ) (program more : Program) (objects : List Object) → 0 < n → pass program objects ≡ Ok more → (length more.symbols ≡ length program.symbols → ⊥) → searched (n - 1) more objects ≡ searched n program objects
next_pass zero program more objects some is other = absurd (omega arith)
next_pass (suc n) program more objects some is other =
    ap (λ (m : ℕ). searched m more objects) (omega arith) ∙ sym (after_pass n program more objects is other)
