-- The cards `ar` and `ranlib`: putting members into an archive and giving it a table of symbols.
use Rattle.std.specs.Prelude.{ℕ, List, [], ◌∷◌, ◌++◌, ◌+◌, ◌-◌, ◌==◌, ◌||◌, length, fold, replicate, decimal, codes, bytes_eq, Bool, true, false, Option, Some, None, if◌then◌else◌}
use Rattle.std.specs.List.{list_all}
use Rattle.thunk_codec.specs.declared.job.Job.{Job}
use Rattle.thunk_codec.specs.declared.job.Outcome.{Outcome}
use Rattle.thunk_codec.specs.declared.job.Outcome.TheVariants.{Failed}
use Rattle.thunk_codec.specs.Job.{only_input}
use Rattle.text_lines.specs.Maybe.{◌>>=◌, ◌>>◌, check}
use Rattle.tool_bin.specs.Archive.{ArchiveMember, ArchiveContents, is_member, archive_text}
use Rattle.tool_bin.specs.ArchiveReading.{archive_of}
use Rattle.tool_bin.specs.OneOutput.{made_outcome}
use Rattle.tool_bin.specs.SymbolTable.{table_of}

-- what is asked for: whether there is to be a table of symbols, the members to put in, and the old archive, if there is one
pub record ArchiveTask : Type 0 where
  pub wants_table : Bool
  pub members : List ArchiveMember
  pub old : Option (List ℕ)

-- the path of the input of the member with this number: `m` and at least four digits
abbrev pub member_path : ℕ → List ℕ
member_path k = codes "m" ++ (replicate (4 - length (decimal k)) 48 ++ decimal k)

-- the member with this number and name whose contents are an input, where the input has its path
abbrev pub member_from : ℕ → List ℕ → List ℕ × List ℕ → Option ArchiveMember
member_from k name input = do
  check (bytes_eq input.0 (member_path k))
  Some (record { name = name; contents = input.1 })

-- the members with these names, whose contents are the first inputs, which are counted from a number; and the other inputs
unfoldable pub members_from : ℕ → List (List ℕ) → List (List ℕ × List ℕ) → Option (List ArchiveMember × List (List ℕ × List ℕ))
members_from k [] inputs = Some ([], inputs)
members_from k (name ∷ names) [] = None
members_from k (name ∷ names) (input ∷ inputs) = do
  member ← member_from k name input
  others ← members_from (k + 1) names inputs
  Some (member ∷ others.0, others.1)

-- the contents of the one input `old`, which may be absent
abbrev pub optional_old : List (List ℕ × List ℕ) → Option (Option (List ℕ))
optional_old [] = Some None
optional_old (input ∷ inputs) = only_input (codes "old") (input ∷ inputs) >>= λ old. Some (Some old)

-- the task to put members in
abbrev pub insertion_task : Bool → List (List ℕ) → List (List ℕ × List ℕ) → Option ArchiveTask
insertion_task wants_table names inputs = do
  given ← members_from 0 names inputs
  old ← optional_old given.1
  Some (record { wants_table = wants_table; members = given.0; old = old })

-- the task to give the old archive a table
abbrev pub table_task : List (List ℕ × List ℕ) → Option ArchiveTask
table_task inputs = do
  old ← only_input (codes "old") inputs
  Some (record { wants_table = true; members = []; old = Some old })

-- the task that the arguments and the inputs of a job of `ar` ask for
abbrev pub task_of : List (List ℕ) → List (List ℕ × List ℕ) → Option ArchiveTask
task_of [] inputs = None
task_of (letters ∷ names) inputs =
    if bytes_eq letters (codes "r") then insertion_task false names inputs
    else if bytes_eq letters (codes "rs") then insertion_task true names inputs
    else if bytes_eq letters (codes "s") then (length names == 0 >> table_task inputs)
    else None

-- whether a member has this name
abbrev pub is_named : List ℕ → ArchiveMember → Bool
is_named name member = bytes_eq member.name name

-- the first member of this name is replaced, or the member is added at the end
abbrev pub put : List ArchiveMember → ArchiveMember → List ArchiveMember
put [] new = new ∷ []
put (member ∷ members) new = if is_named new.name member then new ∷ members else member ∷ put members new

-- what the old archive holds: nothing, where there is none
abbrev pub old_contents : Option (List ℕ) → Option ArchiveContents
old_contents None = Some (record { has_table = false; members = [] })
old_contents (Some bytes) = archive_of bytes

-- the table of some members, where there is to be one
abbrev pub table_where : Bool → List ArchiveMember → Option (Option (List ℕ))
table_where false members = Some None
table_where true members = table_of members >>= λ table. Some (Some table)

-- the archive of some members, with a table where there is to be one
abbrev pub archive_with : Bool → List ArchiveMember → Option (List ℕ)
archive_with has_table members = do
  table ← table_where has_table members
  Some (archive_text table members)

-- the archive that a task asks for, if there can be one
abbrev pub archive_for : ArchiveTask → Option (List ℕ)
archive_for task = do
  old ← old_contents task.old
  check (list_all is_member task.members)
  archive_with (task.wants_table || old.has_table) (fold put old.members task.members)

-- the outcome of a job of the card `ar`: status 64 where it asks for nothing, and 83 where there can be no such archive
abbrev pub ar_outcome : Job → Outcome
ar_outcome job =
    if length job.outputs == 1 then made_outcome 83 archive_for (task_of job.args job.inputs) else Failed 64

-- the outcome of a job of the card `ranlib`: the same, without arguments
abbrev pub ranlib_outcome : Job → Outcome
ranlib_outcome job =
    if length job.outputs == 1
    then (if length job.args == 0 then made_outcome 83 archive_for (table_task job.inputs) else Failed 64)
    else Failed 64
