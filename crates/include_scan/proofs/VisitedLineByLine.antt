-- How a line of a file goes on.
use Rattle.std.proofs.Common.{◌≡◌, ◌≤◌, ◌<◌, ◌+◌, ℕ, List, ◌∷◌, Ok, Err, length, sym, ap, subst, ◌∙◌, arith}
use Rattle.std.specs.Prelude.{min}
use Rattle.std.proofs.Math.Nat.{min-le_left, min-eq_left}
use Rattle.object_name.specs.Name.{max_size}
use Rattle.thunk_codec.specs.Files.{Files}
use Rattle.text_lines.specs.Lines.{lines_of}
use Rattle.tool_text.specs.Directive.{Target, directive_of}
use Rattle.tool_text.specs.IncludeLine.{IncludeForm, Other, Includes, Computed, include_of}
use Rattle.tool_text.specs.Including.{candidates, first_there}
use Rattle.tool_text.specs.Trying.{◌>>=◌}
use Rattle.include_scan.specs.declared.fault.ScanFault.{ScanFault}
use Rattle.include_scan.specs.declared.fault.ScanFault.TheVariants.{Refused, TooMany, Failed, Memory}
use Rattle.include_scan.specs.Scanning.{Visiting, visit_found, after_form, after_lines}
use Rattle.include_scan.specs.Queue.{Asks, Leaves}
use Rattle.include_scan.proofs.QueueKeepsWaiting.{leaves_on}

module _ (files : Files) (folders : List (List ℕ)) (path : List ℕ) where
  module _ (bytes rest line after : List ℕ) (number : ℕ) (cut : (lines_of rest ≡ line ∷ lines_of after) × (length after < length rest)) where
    -- the next line's number
    pub next_number : (next : ℕ) → next ≡ min (number + 1) 4294967295 → number + length rest ≤ 1 + length bytes → length bytes ≤ max_size → next ≡ number + 1
    next_number next is counted fits = let less = cut.1 in is ∙ min-eq_left (omega (arith, counted, fits, less))

    pub counted_on : (next : ℕ) → next ≡ min (number + 1) 4294967295 → number + length rest ≤ 1 + length bytes → next + length after ≤ 1 + length bytes
    counted_on next is counted =
        let least : next ≤ number + 1 = subst (λ n. n ≤ number + 1) (sym is) (min-le_left (number + 1) 4294967295) in
        let less = cut.1 in
        omega (arith, least, counted, less)

    module _ (visited : List (List ℕ)) where
      -- the lines that are left, the first of them first
      abbrev now_and_on : Visiting → Visiting
      now_and_on first = first >>= λ now. after_lines files folders path (number + 1) (lines_of after) now

      by_line : after_lines files folders path number (lines_of rest) visited ≡ now_and_on (after_form files folders path number (include_of (directive_of line)) visited)
      by_line = ap (λ lines. after_lines files folders path number lines visited) cut.0

      by_said : (form : IncludeForm) → include_of (directive_of line) ≡ form → after_lines files folders path number (lines_of rest) visited ≡ now_and_on (after_form files folders path number form visited)
      by_said form said = by_line ∙ ap (λ form. now_and_on (after_form files folders path number form visited)) said

      -- a line that asks for no file leaves what was visited
      pub other_line : (next : ℕ) → next ≡ number + 1 → (whole : Visiting) → include_of (directive_of line) ≡ Other → after_lines files folders path number (lines_of rest) visited ≡ whole
          → after_lines files folders path next (lines_of after) visited ≡ whole
      other_line next is whole said so_far = ap (λ n. after_lines files folders path n (lines_of after) visited) is ∙ (sym (by_said Other said) ∙ so_far)

      -- a line that asks for a file meets it
      pub asked_line : (next : ℕ) → next ≡ number + 1 → (whole : Visiting) (target : Target) → include_of (directive_of line) ≡ Includes target → (now : List (List ℕ))
          → visit_found files (first_there files (candidates folders path target)) visited ≡ Ok now
          → after_lines files folders path number (lines_of rest) visited ≡ whole → after_lines files folders path next (lines_of after) now ≡ whole
      asked_line next is whole target said now found so_far =
          ap (λ n. after_lines files folders path n (lines_of after) now) is ∙ (sym (by_said (Includes target) said ∙ ap now_and_on found) ∙ so_far)

      -- and ends where it is refused
      pub asked_fault : (whole : Visiting) (target : Target) → include_of (directive_of line) ≡ Includes target → after_lines files folders path number (lines_of rest) visited ≡ whole
          → (fault : ScanFault) (now later : List (List ℕ)) → Leaves (visit_found files (first_there files (candidates folders path target)) visited) now (Err fault) → Leaves whole later (Err fault)
      asked_fault whole target said so_far = leaves_on (visit_found files (first_there files (candidates folders path target)) visited) whole
          (λ fault is. sym so_far ∙ (by_said (Includes target) said ∙ ap now_and_on is))

      -- a line of another form is refused
      pub computed_line : (whole : Visiting) → after_lines files folders path number (lines_of rest) visited ≡ whole → (fault : ScanFault) (later : List (List ℕ))
          → Asks path number (include_of (directive_of line)) (Err fault) → Leaves whole later (Err fault)
      computed_line whole so_far (Refused refusal) later asks = sym so_far ∙ (by_said Computed asks.0 ∙ ap (λ r. Err (Refused r)) (sym asks.1))
      computed_line whole so_far TooMany later asks = absurd asks
      computed_line whole so_far Failed later asks = absurd asks
      computed_line whole so_far Memory later asks = tt
