-- The card `ld`: objects and members of archives, joined into an executable.
use Rattle.std.specs.Prelude.{ℕ, zero, suc, List, [], ◌∷◌, ◌+◌, length, nat_eq, not, ◌==◌, ◌&&◌, Bool, Option, Some, None, is_some, Ok, Err, if◌then◌else◌}
use Rattle.std.specs.List.{flat_map, list_all, starts_with}
use Rattle.thunk_codec.specs.declared.job.Job.{Job}
use Rattle.thunk_codec.specs.declared.job.Outcome.{Outcome}
use Rattle.thunk_codec.specs.declared.job.Outcome.TheVariants.{Done, Failed}
use Rattle.thunk_codec.specs.Job.{input_at}
use Rattle.tool_bin.specs.declared.link_fault.LinkFault.TheVariants.{BadForm, BadArchive, NotAnObject}
use Rattle.tool_bin.specs.declared.program.Program.{Program}
use Rattle.tool_bin.specs.declared.object.Object.{Object}
use Rattle.tool_bin.specs.Archive.{ArchiveMember, ArchiveContents, archive_mark}
use Rattle.tool_bin.specs.ArchiveReading.{archive_of}
use Rattle.tool_bin.specs.LinkSteps.{Linked, ◌>>=◌, fault_status}
use Rattle.tool_bin.specs.Program.{empty_program, with_object, with_asked, all_defined}
use Rattle.text_lines.specs.Among.{is_among}
use Rattle.tool_bin.specs.Object.{object_head, executable_head, object_text}
use Rattle.tool_bin.specs.ObjectReading.{object_of}

-- the object that was read, if one was
abbrev pub some_object : Option Object → List Object
some_object None = []
some_object (Some object) = object ∷ []

-- the members of an archive that are objects
abbrev pub objects_in : List ArchiveMember → List Object
objects_in members = flat_map (λ member. some_object (object_of object_head member.contents)) members

-- a pass: objects are looked at in order, and those that define an undefined symbol are added
abbrev pub pass : Program → List Object → Linked
pass program [] = Ok program
pass program (object ∷ objects) = do
  more ← with_asked program object
  pass more objects

-- passes are made until one adds none, and no more than so many
abbrev pub searched : ℕ → Program → List Object → Linked
searched zero program objects = Ok program
searched (suc passes) program objects = do
  more ← pass program objects
  if length more.symbols == length program.symbols then Ok more else searched passes more objects

-- an archive is searched: each pass but the last adds an object, and no object is added again, so that many passes are enough
abbrev pub with_archive : Program → Option ArchiveContents → Linked
with_archive program None = Err BadArchive
with_archive program (Some archive) =
    let objects = objects_in archive.members in searched (length objects + 1) program objects

-- an object is added
abbrev pub with_file : Program → Option Object → Linked
with_file program None = Err NotAnObject
with_file program (Some object) = with_object program object

-- an input is taken: an archive, or else an object
abbrev pub with_input : Program → List ℕ → Linked
with_input program bytes =
    if starts_with nat_eq bytes archive_mark then with_archive program (archive_of bytes)
    else with_file program (object_of object_head bytes)

-- the input that an argument names is taken
abbrev pub with_named : Program → Option (List ℕ) → Linked
with_named program None = Err BadForm
with_named program (Some bytes) = with_input program bytes

-- the inputs that some arguments name are taken
abbrev pub with_inputs : List (List ℕ × List ℕ) → Program → List (List ℕ) → Linked
with_inputs inputs program [] = Ok program
with_inputs inputs program (arg ∷ args) = do
  more ← with_named program (input_at arg inputs)
  with_inputs inputs more args

-- whether a job is one of this card: one output; at least one argument, each the path of an input; and each input is named
abbrev pub is_link_job : Job → Bool
is_link_job job = (length job.outputs == 1)
    && (not (length job.args == 0)
    && (list_all (λ arg. is_some (input_at arg job.inputs)) job.args
    && list_all (λ input. is_among job.args input.0) job.inputs))

-- the program that a job asks for
unfoldable pub linked : Job → Linked
linked job = if is_link_job job then (do
  program ← with_inputs job.inputs empty_program job.args
  all_defined program) else Err BadForm

-- the executable of a program
abbrev pub executable_text : Program → List ℕ
executable_text program = object_text executable_head (record { symbols = program.symbols; debug = program.debug })

-- the executable of a program, or the status of the fault
abbrev pub executable_outcome : Linked → Outcome
executable_outcome (Ok program) = Done (executable_text program ∷ [])
executable_outcome (Err fault) = Failed (fault_status fault)

-- the outcome of a job
abbrev pub ld_outcome : Job → Outcome
ld_outcome job = executable_outcome (linked job)
