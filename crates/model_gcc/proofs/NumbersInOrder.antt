-- So many numbers of four digits, from one on: they rise, are paths, and are short.
use Rattle.std.proofs.Common.{◌≡◌, ◌≤◌, ℕ, zero, suc, ◌+◌, ◌*◌, true, List, [], ◌∷◌, ◌++◌, length, refl, ap, ◌∙◌, arith}
use Rattle.std.specs.List.{list_all}
use Rattle.std.proofs.lemmas.Bool.{and_from}
use Rattle.std.proofs.lemmas.List.Sums.{sum_by-cons}
use Rattle.thunk_codec.specs.Fitting.{args_bound, paths_bound}
use Rattle.thunk_codec.specs.Path.{is_path}
use Rattle.thunk_codec.specs.Thunk.{has_no_zero, is_strictly_increasing}
use Rattle.build_plan.specs.Numbered.{four_digits}
use Rattle.build_plan.proofs.PublicLaws.{numbers_rise as number_rises}
use Rattle.model_gcc.proofs.FoldersAreShort.{path_no_zero}
use Rattle.model_gcc.proofs.KnownPaths.{four_digits_are_path}

pub numbers : ℕ → ℕ → List (List ℕ)
numbers first zero = []
numbers first (suc count) = four_digits first ∷ numbers (suc first) count

pub no_numbers : (first : ℕ) → numbers first 0 ≡ []
unfolding numbers
no_numbers first = refl

pub numbers_rise : (first count : ℕ) → first + count ≤ 10000 → is_strictly_increasing (numbers first count) ≡ true
unfolding numbers
numbers_rise first zero h = refl
numbers_rise first (suc zero) h = refl
numbers_rise first (suc (suc count)) h = and_from _ _ (number_rises first (suc first) (omega arith) (omega (arith, h))) (numbers_rise (suc first) (suc count) (omega (arith, h)))

pub numbers_are_paths : (first count : ℕ) → list_all is_path (numbers first count) ≡ true
unfolding numbers
numbers_are_paths first zero = refl
numbers_are_paths first (suc count) = and_from _ _ (four_digits_are_path first) (numbers_are_paths (suc first) count)

pub numbers_no_zero : (first count : ℕ) → list_all has_no_zero (numbers first count) ≡ true
unfolding numbers
numbers_no_zero first zero = refl
numbers_no_zero first (suc count) = and_from _ _ (path_no_zero (four_digits first) (four_digits_are_path first)) (numbers_no_zero (suc first) count)

pub numbers_count : (first count : ℕ) → length (numbers first count) ≡ count
unfolding numbers
numbers_count first zero = refl
numbers_count first (suc count) = ap suc (numbers_count (suc first) count)

pub numbers_args : (first count : ℕ) → args_bound (numbers first count) ≡ 16 * count
unfolding numbers
numbers_args first zero = omega arith
numbers_args first (suc count) = let rest = numbers_args (suc first) count in let all = sum_by-cons (λ (arg : List ℕ). 12 + length arg) (four_digits first) (numbers (suc first) count) in omega (arith, rest, all)

pub numbers_paths : (first count : ℕ) → paths_bound (numbers first count) ≡ 76 * count
unfolding numbers
numbers_paths first zero = omega arith
numbers_paths first (suc count) = let rest = numbers_paths (suc first) count in let all = sum_by-cons (λ (path : List ℕ). 72 + length path) (four_digits first) (numbers (suc first) count) in omega (arith, rest, all)

pub numbers_more : (first count : ℕ) → numbers first count ++ four_digits (first + count) ∷ [] ≡ numbers first (suc count)
unfolding numbers
numbers_more first zero = ap (λ (n : ℕ). four_digits n ∷ []) (let n : first + 0 ≡ first = omega arith in n)
numbers_more first (suc count) =
    ap (λ (n : ℕ). four_digits first ∷ (numbers (suc first) count ++ four_digits n ∷ [])) (let n : first + suc count ≡ suc first + count = omega arith in n)
    ∙ ap (λ (v : List (List ℕ)). four_digits first ∷ v) (numbers_more (suc first) count)
