-- The paths of a set, listed and sorted.
use Rattle.std.proofs.Common.{◌≡◌, List, [], ◌∷◌, ◌++◌, ℕ, length, Result, Ok, Err, append_assoc, append-nil, sym, ap, subst, ◌∙◌}
use Rattle.std.specs.Prelude.{bytes_eq, IfOk}
use Rattle.std.specs.List.{IsDistinct}
use Rattle.thunk_codec.specs.Sorted.{sorted_paths}
use Rattle.thunk_codec.proofs.PublicLaws.{sorted_paths-same, sorted_paths-rise, length-sorted_paths}
use Rattle.include_scan.specs.Scanning.{IsInOrder, StopsSo, Visiting}
use Rattle.include_scan.specs.declared.fault.ScanFault.{ScanFault}
use Rattle.include_scan.specs.declared.fault.ScanFault.TheVariants.{Refused, TooMany, Failed, Memory}
use Rattle.tool_text.specs.Trying.{◌>>=◌}

module _ {E : Type 0} (visited paths : List (List ℕ)) (listed : paths ≡ visited) where
  -- what sorting the listed paths gives
  pub sorted_of_listed : (result : Result (List (List ℕ)) E) → IfOk result (λ sorted. sorted ≡ sorted_paths paths) → IfOk result (λ sorted. sorted ≡ sorted_paths visited)
  sorted_of_listed (Ok sorted) is = is ∙ ap sorted_paths listed
  sorted_of_listed (Err error) is = tt

  pub as_many : (result : Result (List (List ℕ)) E) → IfOk result (λ sorted. sorted ≡ sorted_paths paths) → IfOk result (λ sorted. length sorted ≡ length visited)
  as_many (Ok sorted) is = ap length (is ∙ ap sorted_paths listed) ∙ length-sorted_paths visited
  as_many (Err error) is = tt

  -- they are in order
  pub listed_in_order : IsDistinct bytes_eq visited → (result : Result (List (List ℕ)) E) → IfOk result (λ sorted. sorted ≡ sorted_paths paths) → IfOk result (IsInOrder visited)
  listed_in_order distinct (Ok sorted) is =
      subst (IsInOrder visited) (sym (is ∙ ap sorted_paths listed)) (record { same = sorted_paths-same visited; rising = sorted_paths-rise visited distinct })
  listed_in_order distinct (Err error) is = tt

-- a scan in path order, where its files were found
pub scans_to : (wanted : Visiting) (visited paths : List (List ℕ)) → wanted ≡ Ok visited → paths ≡ sorted_paths visited → (wanted >>= λ found. Ok (sorted_paths found)) ≡ Ok paths
scans_to wanted visited paths is sorted = ap (λ found. found >>= λ now. Ok (sorted_paths now)) is ∙ ap Ok (sym sorted)

-- and where it stops
pub stops_alike : (wanted : Visiting) (fault : ScanFault) → StopsSo wanted fault → StopsSo (wanted >>= λ found. Ok (sorted_paths found)) fault
stops_alike wanted (Refused refusal) is = ap (λ found. found >>= λ now. Ok (sorted_paths now)) is
stops_alike wanted TooMany is = ap (λ found. found >>= λ now. Ok (sorted_paths now)) is
stops_alike wanted Failed is = tt
stops_alike wanted Memory is = tt

-- paths that were listed, and those that are left
pub listed_more : (before now left rest all : List (List ℕ)) (path : List ℕ) → now ≡ before ++ path ∷ [] → left ≡ path ∷ rest → before ++ left ≡ all → now ++ rest ≡ all
listed_more before now left rest all path is first so_far =
    ap (λ paths. paths ++ rest) is ∙ (append_assoc before (path ∷ []) rest ∙ (ap (λ paths. before ++ paths) (sym first) ∙ so_far))

pub all_listed : (before left all : List (List ℕ)) → left ≡ [] → before ++ left ≡ all → before ≡ all
all_listed before left all none so_far = sym (append-nil before) ∙ (ap (λ paths. before ++ paths) (sym none) ∙ so_far)
