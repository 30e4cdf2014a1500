-- What the words of a plan have shown: there aren't too many files, and members have names.
use Rattle.std.proofs.Common.{◌≡◌, ℕ, ◌≤◌, Bool, true, false, not, List, [], ◌∷◌, ◌++◌, length, drop, Option, Some, None, Result, Ok, Err, refl, ap, subst, ◌∙◌}
use Rattle.std.specs.Prelude.{bytes_eq, codes, if◌then◌else◌}
use Rattle.std.specs.List.{list_all}
use Rattle.std.proofs.lemmas.Bool.{and_from, leb-true}
use Rattle.std.proofs.lemmas.List.Folds.{list_all-append}
use Rattle.thunk_codec.specs.Folder.{last_of}
use Rattle.file_tree.specs.Planning.{◌>>=◌, ◌>>◌, refuse_if, place_after}
use Rattle.file_tree.specs.declared.model_fault.Reason.{Reason}
use Rattle.file_tree.specs.declared.model_fault.Reason.TheVariants.{Unknown, BadValue, TooMany}
use Rattle.file_tree.specs.declared.model_fault.PlanFault.{PlanFault}
use Rattle.model_binutils.specs.declared.bin_plan.BinPlan.{BinPlan}
use Rattle.model_binutils.specs.declared.bin_plan.BinPlan.TheVariants.{Ar, Ranlib, Strip, Copy, Move, Remove, Nothing}
use Rattle.model_binutils.specs.declared.command.Command.{Command}
use Rattle.model_binutils.specs.declared.command.Command.TheVariants as commands
use Rattle.model_binutils.specs.declared.operand.Operand.TheVariants.{File, Member}
use Rattle.tool_bin.specs.Archive.{is_member_name}
use Rattle.model_binutils.specs.Words.{path_at, operand_at, first_path, one_path, operands_after, operands_from}
use Rattle.model_binutils.specs.Plan.{Planning, max_files, is_within, limited, plan_by, plan_of, command_of, letters_of, are_letters, has_replace, has_table, insertion_plan, table_plan, archive_plan, ar_plan, ranlib_path, is_strip_option, strip_into, strip_in_place, strip_plan, two_paths, remove_plan}
use Rattle.model_binutils.specs.PlanOf.{IsPlanned}

-- a path whose last component can be a member's name
abbrev pub is_named : List ℕ → Bool
is_named path = is_member_name (last_of path)

-- members have names
abbrev pub HasNames : BinPlan → Type 0
HasNames (Ar replace table archive members) = list_all is_named members ≡ true
HasNames (Ranlib archive) = Unit {0}
HasNames (Strip output files) = Unit {0}
HasNames (Copy from to) = Unit {0}
HasNames (Move from to) = Unit {0}
HasNames (Remove paths) = Unit {0}
HasNames Nothing = Unit {0}

-- ---- steps

same_found : {A : Type 0} (x y : A) → ◌≡◌ {A = Result A PlanFault} (Ok x) (Ok y) → x ≡ y
same_found x y e = ap (λ (r : Result _ PlanFault). elim r [ Ok z ↦ z | Err fault ↦ x ]) e

-- a step that found something, and what follows
step_found : {A B : Type 0} (step : Result A PlanFault) (next : A → Result B PlanFault) (y : B) → (step >>= next) ≡ Ok y → (x : A) × (step ≡ Ok x) × (next x ≡ Ok y)
step_found (Ok x) next y e = (x, refl, e)
step_found (Err fault) next y e = absurd cc

-- nothing was refused
not_refused : {A : Type 0} (fault : Option PlanFault) (next : Result A PlanFault) (y : A) → (fault >> next) ≡ Ok y → next ≡ Ok y
not_refused None next y e = e
not_refused (Some fault) next y e = absurd cc

-- a test held that would have refused
test_held : {A : Type 0} (test : Bool) (at : ℕ) (reason : Reason) (next : Result A PlanFault) (y : A) → (refuse_if (not test) at reason >> next) ≡ Ok y → (test ≡ true) × (next ≡ Ok y)
test_held true at reason next y e = (refl, e)
test_held false at reason next y e = absurd cc

-- ---- members

member_named : (at : ℕ) (word path : List ℕ) → operand_at Member at word ≡ Ok path → is_named path ≡ true
member_named at word path e =
    let first = step_found (path_at at word) (λ found. refuse_if (not (is_named found)) at BadValue >> Ok found) path e in
    let held = test_held (is_named first.0) at BadValue (Ok first.0) path first.2 in
    subst (λ (v : List ℕ). is_named v ≡ true) (same_found first.0 path held.1) held.0

members_named : (paths : List (List ℕ)) (at : ℕ) (words members : List (List ℕ)) → list_all is_named paths ≡ true → operands_after Member paths at words ≡ Ok members → list_all is_named members ≡ true
members_named paths at [] members h e = subst (λ (v : List (List ℕ)). list_all is_named v ≡ true) (same_found paths members e) h
members_named paths at (word ∷ words) members h e =
    let first = step_found (operand_at Member at word) (λ path. operands_after Member (paths ++ path ∷ []) (place_after at) words) members e in
    let more : list_all is_named (paths ++ first.0 ∷ []) ≡ true = list_all-append is_named paths (first.0 ∷ []) ∙ and_from _ _ h (and_from _ _ (member_named at word first.0 first.1) refl) in
    members_named (paths ++ first.0 ∷ []) (place_after at) words members more first.2

all_named : (at : ℕ) (words members : List (List ℕ)) → operands_from Member at words ≡ Ok members → list_all is_named members ≡ true
all_named at [] members e = absurd cc
all_named at (word ∷ words) members e = members_named [] at (word ∷ words) members refl e

-- ---- plans

-- a plan that is found
found_named : (given plan : BinPlan) → HasNames given → ◌≡◌ {A = Planning} (Ok given) (Ok plan) → HasNames plan
found_named given plan h e = subst HasNames (same_found given plan e) h

-- a plan behind a step
named_after : {A : Type 0} (step : Result A PlanFault) (next : A → Planning) → ((x : A) (plan : BinPlan) → next x ≡ Ok plan → HasNames plan) → (plan : BinPlan) → (step >>= next) ≡ Ok plan → HasNames plan
named_after (Ok x) next each plan e = each x plan e
named_after (Err fault) next each plan e = absurd cc

insertion_named : (table : Bool) (words : List (List ℕ)) (plan : BinPlan) → insertion_plan table words ≡ Ok plan → HasNames plan
unfolding insertion_plan
insertion_named table words plan e =
    named_after (first_path 2 words) (λ archive. operands_from Member 3 (drop 1 words) >>= λ members. Ok (Ar true table archive members))
    (λ archive own f. let rest = step_found (operands_from Member 3 (drop 1 words)) (λ members. Ok (Ar true table archive members)) own f in
    found_named (Ar true table archive rest.0) own (all_named 3 (drop 1 words) rest.0 rest.1) rest.2)
    plan e

table_named : (words : List (List ℕ)) (plan : BinPlan) → table_plan words ≡ Ok plan → HasNames plan
table_named words plan e = named_after (one_path 2 words) (λ archive. Ok (Ar false true archive [])) (λ archive own f. found_named (Ar false true archive []) own refl f) plan e

archive_named : (replace : Bool) (letters : List ℕ) (words : List (List ℕ)) (plan : BinPlan)
    → ◌≡◌ {A = Planning} (if replace then insertion_plan (has_table letters) words else table_plan words) (Ok plan) → HasNames plan
archive_named true letters words plan e = insertion_named (has_table letters) words plan e
archive_named false letters words plan e = table_named words plan e

ar_named : (words : List (List ℕ)) (plan : BinPlan) → ar_plan words ≡ Ok plan → HasNames plan
unfolding ar_plan
ar_named [] plan e = absurd cc
ar_named (word ∷ words) plan e =
    archive_named (has_replace (letters_of word)) (letters_of word) words plan (not_refused (refuse_if (not (are_letters (letters_of word))) 1 Unknown) (archive_plan (letters_of word) words) plan e)

in_place_named : (at : ℕ) (words : List (List ℕ)) (plan : BinPlan) → strip_in_place at words ≡ Ok plan → HasNames plan
in_place_named at words plan e = named_after (operands_from File at words) (λ paths. Ok (Strip None paths)) (λ paths own f. found_named (Strip None paths) own tt f) plan e

into_named : (at : ℕ) (words : List (List ℕ)) (plan : BinPlan) → strip_into at words ≡ Ok plan → HasNames plan
unfolding strip_into
into_named at words plan e =
    named_after (first_path at words) (λ output. one_path (place_after at) (drop 1 words) >>= λ path. Ok (Strip (Some output) (path ∷ [])))
    (λ output own f. named_after (one_path (place_after at) (drop 1 words)) (λ path. Ok (Strip (Some output) (path ∷ []))) (λ path other g. found_named (Strip (Some output) (path ∷ [])) other tt g) own f)
    plan e

-- one of three, by two tests
one_of_three : (first second : Bool) (x y z : Planning) (plan : BinPlan) → (x ≡ Ok plan → HasNames plan) → (y ≡ Ok plan → HasNames plan) → (z ≡ Ok plan → HasNames plan)
    → ◌≡◌ {A = Planning} (if first then x else if second then y else z) (Ok plan) → HasNames plan
one_of_three true second x y z plan hx hy hz e = hx e
one_of_three false true x y z plan hx hy hz e = hy e
one_of_three false false x y z plan hx hy hz e = hz e

strip_named : (at : ℕ) (words : List (List ℕ)) (plan : BinPlan) → strip_plan at words ≡ Ok plan → HasNames plan
unfolding strip_plan
strip_named at [] plan e = in_place_named at [] plan e
strip_named at (word ∷ words) plan e =
    one_of_three (is_strip_option word) (bytes_eq word (codes "-o")) (strip_plan (place_after at) words) (strip_into (place_after at) words) (strip_in_place at (word ∷ words)) plan
    (strip_named (place_after at) words plan) (into_named (place_after at) words plan) (in_place_named at (word ∷ words) plan) e

remove_named : (words : List (List ℕ)) (plan : BinPlan) → remove_plan words ≡ Ok plan → HasNames plan
unfolding remove_plan
remove_named [] plan e = absurd cc
remove_named (word ∷ words) plan e =
    named_after (operands_from File 2 words) (λ paths. Ok (Remove paths)) (λ paths own f. found_named (Remove paths) own tt f) plan
    (not_refused (refuse_if (not (bytes_eq word (codes "-f"))) 1 Unknown) (operands_from File 2 words >>= λ paths. Ok (Remove paths)) plan e)

plan_named : (command : Option Command) (words : List (List ℕ)) (plan : BinPlan) → plan_by command words ≡ Ok plan → HasNames plan
plan_named None words plan e = absurd cc
plan_named (Some commands.Ar) words plan e = ar_named words plan e
plan_named (Some commands.Ranlib) words plan e = named_after (ranlib_path words) (λ path. Ok (Ranlib path)) (λ path own f. found_named (Ranlib path) own tt f) plan e
plan_named (Some commands.Strip) words plan e = strip_named 1 words plan e
plan_named (Some commands.Copy) words plan e = named_after (two_paths words) (λ paths. Ok (Copy paths.0 paths.1)) (λ paths own f. found_named (Copy paths.0 paths.1) own tt f) plan e
plan_named (Some commands.Move) words plan e = named_after (two_paths words) (λ paths. Ok (Move paths.0 paths.1)) (λ paths own f. found_named (Move paths.0 paths.1) own tt f) plan e
plan_named (Some commands.Remove) words plan e = remove_named words plan e
plan_named (Some commands.Nothing) words plan e = found_named Nothing plan tt e

-- ---- all of it

-- a plan of some words has few files, and names for its members
pub record IsSmall (plan : BinPlan) : Type 0 where
  pub few : is_within plan ≡ true
  pub named : HasNames plan

limited_small : (given plan : BinPlan) → HasNames given → limited given ≡ Ok plan → IsSmall plan
unfolding limited
limited_small given plan h e =
    let held = test_held (is_within given) 0 TooMany (Ok given) plan e in
    subst IsSmall (same_found given plan held.1) (record { few = held.0; named = h })

pub plan_small : (words : List (List ℕ)) (plan : BinPlan) → plan_of words ≡ Ok plan → IsSmall plan
unfolding plan_of
plan_small [] plan e = absurd cc
plan_small (word ∷ words) plan e =
    let found = step_found (plan_by (command_of word) words) limited plan e in
    limited_small found.0 plan (plan_named (command_of word) words found.0 found.1) found.2

-- the files of `strip` are few
few_files : (plan : BinPlan) (output : Option (List ℕ)) (files : List (List ℕ)) → IsSmall plan → plan ≡ Strip output files → length files ≤ max_files
few_files plan output files h is = let own = subst IsSmall is h in leb-true _ _ own.few

pub planned_few : (plan : BinPlan) (output : Option (List ℕ)) (files : List (List ℕ)) → IsPlanned plan → plan ≡ Strip output files → length files ≤ max_files
planned_few plan output files planned is = few_files plan output files (plan_small planned.0 plan planned.1) is
