-- The function of jobs that cards give: each job is the work of the tool whose card its function is.
use Rattle.std.specs.Prelude.{ℕ, List, Bool, nat_le, sum_by, length, bytes_eq, codes, if◌then◌else◌}
use Rattle.object_name.specs.Name.{max_size}
use Rattle.thunk_codec.specs.Card.{card_text}
use Rattle.thunk_codec.specs.declared.job.Job.{Job}
use Rattle.thunk_codec.specs.declared.job.Outcome.{Outcome}
use Rattle.thunk_codec.specs.declared.job.Outcome.TheVariants.{Done, Failed}
use Rattle.tool_text.specs.Add.{add_outcome}
use Rattle.tool_text.specs.Cat.{cat_outcome}
use Rattle.tool_text.specs.Cpp.{cpp_outcome}
use Rattle.tool_text.specs.Fail.{fail_outcome}
use Rattle.tool_text.specs.Fib.{fib_outcome}
use Rattle.tool_bin.specs.Ar.{ar_outcome, ranlib_outcome}
use Rattle.tool_bin.specs.Assemble.{as_outcome}
use Rattle.tool_bin.specs.Compile.{cc1_outcome}
use Rattle.tool_bin.specs.Link.{ld_outcome}
use Rattle.tool_bin.specs.Strip.{strip_outcome}

-- whether function bytes are the card of this name
abbrev pub is_card : List ℕ → List ℕ → Bool
is_card name function = bytes_eq function (card_text name)

-- what the tool of a card gives, however long its outputs are; a function that is no card has status 203
unfoldable pub tool_outcome : List ℕ → Job → Outcome
tool_outcome function job =
    if is_card (codes "add") function then add_outcome job
    else if is_card (codes "ar") function then ar_outcome job
    else if is_card (codes "as") function then as_outcome job
    else if is_card (codes "cat") function then cat_outcome job
    else if is_card (codes "cc1") function then cc1_outcome job
    else if is_card (codes "cpp") function then cpp_outcome job
    else if is_card (codes "fail") function then fail_outcome job
    else if is_card (codes "fib") function then fib_outcome job
    else if is_card (codes "ld") function then ld_outcome job
    else if is_card (codes "ranlib") function then ranlib_outcome job
    else if is_card (codes "strip") function then strip_outcome job
    else Failed 203

-- status 201 in the place of outputs that are together over the size of an object
abbrev pub within_limit : Outcome → Outcome
within_limit (Done outputs) = if nat_le (sum_by length outputs) max_size then Done outputs else Failed 201
within_limit (Failed status) = Failed status

-- the outcome of a job
unfoldable pub card_outcome : Job → Outcome
card_outcome job = within_limit (tool_outcome job.function job)
