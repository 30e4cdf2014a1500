-- The jobs of words keep the rules of a job and are within the limits.
use Rattle.std.proofs.Common.{◌≡◌, ◌≤◌, ℕ, ◌+◌, List, [], ◌∷◌, length, Bool, true, refl, sym, arith}
use Rattle.std.specs.Prelude.{nat_le, IsTrue}
use Rattle.std.proofs.lemmas.Bool.Decides.{nat_tests}
use Rattle.std.proofs.lemmas.List.Sums.{sum_by-cons}
use Rattle.object_name.specs.Name.{max_size}
use Rattle.thunk_codec.specs.Path.{is_path}
use Rattle.thunk_codec.specs.Job.{job_keeps_rules, job_size, max_job, size_by_lengths}
use Rattle.thunk_codec.proofs.PublicLaws.{job_size_by_lengths, path_length}
use Rattle.book_cases.specs.Words.{word_job, most_word}

pub word_rules : (function output : List ℕ) → length function ≤ most_word → job_keeps_rules (word_job function output) ≡ true
word_rules function output short =
    let small : nat_le (length function) max_size ≡ true = grind (arith, nat_tests) in
    rw small refl

pub word_size : (function output : List ℕ) → length function ≤ most_word → is_path output ≡ true → job_size (word_job function output) ≤ max_job
unfolding size_by_lengths
word_size function output short path = omega (arith, job_size_by_lengths (word_job function output), path_length output path)
