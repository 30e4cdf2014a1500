-- The outcome of each card has the form that its job wants.
use Rattle.std.proofs.Common.{◌≡◌, ◌≤◌, ◌+◌, ◌^◌, ◌∷◌, [], ℕ, List, length, true, Option, Some, None, Result, Ok, Err, cond, sym, eqb-true, leb-true, lit≤, arith}
use Rattle.std.specs.Prelude.{◌==◌, ◌&&◌, nat_lt, nat_le, bytes_eq, codes, unwrap_or}
use Rattle.std.specs.Option.{is_some}
use Rattle.std.proofs.lemmas.Bool.{and_parts, cond_both}
use Rattle.std.specs.Cmp.Lexicographic.{pointwise, as_long}
use Rattle.object_name.specs.Number.{number_of}
use Rattle.thunk_codec.specs.declared.job.Job.{Job}
use Rattle.thunk_codec.specs.declared.job.Outcome.TheVariants.{Done, Failed}
use Rattle.thunk_codec.specs.Job.{input_at}
use Rattle.thunk_codec.specs.Outcome.{HasForm}
use Rattle.text_lines.specs.Maybe.{◌>>=◌}
use Rattle.thunk_codec.specs.Files.{files_of}
use Rattle.tool_text.specs.declared.fib_thunks.Asked.{Asked}
use Rattle.tool_text.specs.declared.failure.Failure.{Failure}
use Rattle.tool_text.specs.declared.failure.Failure.TheVariants.{BadDirective, HeaderNotFound, TooDeep, TooManyLines, OutputTooLong}
use Rattle.tool_text.specs.Cpp.{Settings, no_settings, with_arguments, failure_status, result_outcome, outcome_with, arguments_outcome, cpp_outcome}
use Rattle.tool_text.specs.Preprocess.{State, preprocessed}
use Rattle.tool_text.specs.Numbers.{number_in}
use Rattle.tool_text.specs.Cat.{cat_outcome}
use Rattle.tool_text.specs.Fail.{status_in, status_of, fail_outcome}
use Rattle.tool_text.specs.Add.{sum_outcome, inputs_outcome, add_outcome}
use Rattle.tool_text.specs.Fib.{fib_outputs, contents_of, outcome_of, fib_outcome}

-- the status of a bad form
bad_form : (job : Job) → HasForm job (Failed 64)
bad_form job = (lit≤ tt, lit≤ tt)

-- the test that a job has no argument and one output
one_output : (job : Job) → (length job.args == 0) && (length job.outputs == 1) ≡ true → 1 ≡ length job.outputs
one_output job is_form = sym (eqb-true (length job.outputs) 1 (and_parts _ _ is_form).1)

pub cat_form : (job : Job) → HasForm job (cat_outcome job)
cat_form job = cond_both ((length job.args == 0) && (length job.outputs == 1)) _ _ (HasForm job) (one_output job) (λ _. bad_form job)

sum_form : (job : Job) (a b : Option ℕ) → 1 ≡ length job.outputs → HasForm job (sum_outcome a b)
sum_form job None b one = (lit≤ tt, lit≤ tt)
sum_form job (Some a) None one = (lit≤ tt, lit≤ tt)
sum_form job (Some a) (Some b) one = cond_both (nat_lt (a + b) (2 ^ 64)) _ _ (HasForm job) (λ _. one) (λ _. (lit≤ tt, lit≤ tt))

inputs_form : (job : Job) (inputs : List (List ℕ × List ℕ)) → 1 ≡ length job.outputs → HasForm job (inputs_outcome inputs)
inputs_form job [] one = bad_form job
inputs_form job (a ∷ []) one = bad_form job
inputs_form job (a ∷ b ∷ []) one =
    cond_both (bytes_eq a.0 (codes "a") && bytes_eq b.0 (codes "b")) _ _ (HasForm job) (λ _. sum_form job (number_in a.1) (number_in b.1) one) (λ _. bad_form job)
inputs_form job (a ∷ b ∷ c ∷ others) one = bad_form job

pub add_form : (job : Job) → HasForm job (add_outcome job)
add_form job =
    cond_both ((length job.args == 0) && (length job.outputs == 1)) _ _ (HasForm job) (λ is_form. inputs_form job job.inputs (one_output job is_form)) (λ _. bad_form job)

-- a status that was said, or the status of a bad form, is one
abbrev IsStatus : Option ℕ → Type 0
IsStatus said = (1 ≤ unwrap_or said 64) × (unwrap_or said 64 ≤ 204)

none_status : IsStatus None
none_status = (lit≤ tt, lit≤ tt)

number_status : (n : ℕ) → IsStatus (cond (nat_le 1 n && nat_le n 200) (Some n) None)
number_status n = cond_both (nat_le 1 n && nat_le n 200) _ _ IsStatus (λ small. let parts = and_parts (nat_le 1 n) (nat_le n 200) small in let low = leb-true 1 n parts.0 in let high = leb-true n 200 parts.1 in (low, omega (arith, high))) (λ _. none_status)

read_status : (read : Option ℕ) → IsStatus (read >>= λ n. cond (nat_le 1 n && nat_le n 200) (Some n) None)
read_status None = none_status
read_status (Some n) = number_status n

text_status : (text : List ℕ) → IsStatus (status_in text)
text_status text = read_status (number_of text)

args_status : (args : List (List ℕ)) → IsStatus (status_of args)
args_status [] = none_status
args_status (arg ∷ []) = text_status arg
args_status (arg ∷ other ∷ others) = none_status

pub fail_form : (job : Job) → HasForm job (fail_outcome job)
fail_form job = cond_both (length job.outputs == 1) _ _ IsStatus (λ _. args_status job.args) (λ _. none_status)

contents_form : (job : Job) (asked : Asked) → 3 ≡ length job.outputs → HasForm job (Done (contents_of asked))
contents_form job asked three = cond_both (nat_le asked.number 1) _ _ (λ contents. HasForm job (Done contents)) (λ _. three) (λ _. three)

asked_form : (job : Job) (asked : Option Asked) → 3 ≡ length job.outputs → HasForm job (outcome_of asked)
asked_form job None three = bad_form job
asked_form job (Some asked) three = contents_form job asked three

pub fib_form : (job : Job) → HasForm job (fib_outcome job)
fib_form job =
    cond_both (pointwise bytes_eq job.outputs fib_outputs) _ _ (λ asked. HasForm job (outcome_of asked))
    (λ same. asked_form job _ (sym (as_long bytes_eq job.outputs fib_outputs same))) (λ _. bad_form job)

failure_form : (job : Job) (failure : Failure) → HasForm job (Failed (failure_status failure))
failure_form job BadDirective = (lit≤ tt, lit≤ tt)
failure_form job HeaderNotFound = (lit≤ tt, lit≤ tt)
failure_form job TooDeep = (lit≤ tt, lit≤ tt)
failure_form job TooManyLines = (lit≤ tt, lit≤ tt)
failure_form job OutputTooLong = (lit≤ tt, lit≤ tt)

result_form : (job : Job) (result : Result State Failure) → 1 ≡ length job.outputs → HasForm job (result_outcome result)
result_form job (Ok state) one = one
result_form job (Err failure) one = failure_form job failure

settings_form : (job : Job) (source : List ℕ) (settings : Option Settings) → 1 ≡ length job.outputs → HasForm job (outcome_with job source settings)
settings_form job source None one = bad_form job
settings_form job source (Some settings) one = result_form job (preprocessed (files_of job) settings.folders settings.macros source) one

arguments_form : (job : Job) (args : List (List ℕ)) → 1 ≡ length job.outputs → HasForm job (arguments_outcome job args)
arguments_form job [] one = bad_form job
arguments_form job (source ∷ args) one =
    cond_both (is_some (input_at source job.inputs)) _ _ (HasForm job) (λ _. settings_form job source (with_arguments args no_settings) one) (λ _. bad_form job)

pub cpp_form : (job : Job) → HasForm job (cpp_outcome job)
unfolding cpp_outcome
cpp_form job =
    cond_both (length job.outputs == 1) _ _ (HasForm job) (λ is_one. arguments_form job job.args (sym (eqb-true (length job.outputs) 1 is_one))) (λ _. bad_form job)
