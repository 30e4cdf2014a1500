-- How a file that waits goes on.
use Rattle.std.proofs.Common.{◌≡◌, ◌≤◌, ◌<◌, ◌+◌, ◌-◌, ℕ, zero, suc, List, [], ◌∷◌, Ok, Err, length, drop, refl, sym, ap, ◌∙◌, arith}
use Rattle.std.proofs.lemmas.List.{drop_all}
use Rattle.thunk_codec.specs.Files.{Files}
use Rattle.text_lines.specs.Lines.{lines_of}
use Rattle.tool_text.specs.Trying.{◌>>=◌}
use Rattle.include_scan.specs.declared.fault.ScanFault.{ScanFault}
use Rattle.include_scan.specs.Scanned.{bytes_at}
use Rattle.include_scan.specs.Scanning.{Visiting, max_files, visit_file, after_lines, after_first, gathered, scan_of}
use Rattle.include_scan.specs.Queue.{Leaves}
use Rattle.include_scan.proofs.QueueKeepsWaiting.{leaves_on}

module _ (files : Files) (folders : List (List ℕ)) where
  -- where none waits, none is visited
  pub gathered_none : (more index : ℕ) (visited : List (List ℕ)) → length visited ≤ index → gathered files folders more index visited ≡ Ok visited
  gathered_none zero index visited end = refl
  gathered_none (suc more) index visited end =
      ap (λ paths. after_first files folders paths visited >>= λ now. gathered files folders more (index + 1) now) (drop_all index visited end)
      ∙ gathered_none more (index + 1) visited (omega (arith, end))

  module _ (index : ℕ) (low : index < 4096) (visited others : List (List ℕ)) (path bytes : List ℕ) (keys : drop index visited ≡ path ∷ others) (held : bytes ≡ bytes_at files path) (whole : Visiting)
      (so_far : gathered files folders (4096 - index) index visited ≡ whole) where
    -- the files that wait, the first of them first
    abbrev now_and_on : Visiting → Visiting
    now_and_on first = first >>= λ now. gathered files folders (4096 - (index + 1)) (index + 1) now

    by_first : now_and_on (after_lines files folders path 1 (lines_of bytes) visited) ≡ whole
    by_first =
        let one_less : 4096 - index ≡ suc (4096 - (index + 1)) = omega (arith, low) in
        ap (λ b. now_and_on (after_lines files folders path 1 (lines_of b) visited)) held
        ∙ (sym (ap (λ more. gathered files folders more index visited) one_less ∙ ap (λ paths. now_and_on (after_first files folders paths visited)) keys) ∙ so_far)

    pub gathered_one : (now : List (List ℕ)) → after_lines files folders path 1 (lines_of bytes) visited ≡ Ok now → gathered files folders (4096 - (index + 1)) (index + 1) now ≡ whole
    gathered_one now is = sym (ap now_and_on is) ∙ by_first

    pub gathered_fault : (fault : ScanFault) (now later : List (List ℕ)) → Leaves (after_lines files folders path 1 (lines_of bytes) visited) now (Err fault) → Leaves whole later (Err fault)
    gathered_fault = leaves_on (after_lines files folders path 1 (lines_of bytes) visited) whole (λ fault is. sym by_first ∙ ap now_and_on is)

  module _ (source : List ℕ) where
    by_source : scan_of files folders source ≡ (visit_file files source [] >>= λ visited. gathered files folders max_files 0 visited)
    unfolding scan_of
    by_source = refl

    -- the source is visited first
    pub scan_first : (visited : List (List ℕ)) → visit_file files source [] ≡ Ok visited → scan_of files folders source ≡ gathered files folders max_files 0 visited
    scan_first visited is = by_source ∙ ap (λ m. m >>= λ visited. gathered files folders max_files 0 visited) is

    pub scan_fault : (fault : ScanFault) (visited later : List (List ℕ)) → Leaves (visit_file files source []) visited (Err fault) → Leaves (scan_of files folders source) later (Err fault)
    scan_fault = leaves_on (visit_file files source []) (scan_of files folders source) (λ fault is. by_source ∙ ap (λ m. m >>= λ visited. gathered files folders max_files 0 visited) is)
