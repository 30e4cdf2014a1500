-- Each thunk of a plan of some words keeps a thunk's rules.
use Rattle.std.proofs.Common.{◌≡◌, ℕ, suc, ◌+◌, ◌*◌, ◌≤◌, ◌==◌, Bool, true, false, not, ◌&&◌, leb, List, [], ◌∷◌, ◌++◌, length, map, Option, Ok, refl, sym, ap, subst, arith}
use Rattle.std.specs.Prelude.{codes, is_some, if◌then◌else◌}
use Rattle.std.specs.List.{list_all, AllByRecursion}
use Rattle.std.proofs.lemmas.Bool.{and_parts, and_from, leb-true, ne_eqb}
use Rattle.std.proofs.lemmas.List.Sums.{sum_by-cons}
use Rattle.thunk_codec.specs.Fitting.{AreFit, args_bound, paths_bound}
use Rattle.thunk_codec.specs.Folder.{last_of}
use Rattle.thunk_codec.specs.Path.{is_path}
use Rattle.thunk_codec.specs.Thunk.{has_no_zero, is_strictly_increasing}
use Rattle.thunk_codec.proofs.PublicLaws.{path_length, in_is_path}
use Rattle.build_plan.specs.declared.plan.Source.{Source}
use Rattle.build_plan.specs.declared.plan.Source.TheVariants as sources
use Rattle.build_plan.specs.declared.plan.Plan.{Plan}
use Rattle.build_plan.specs.Fitting.{IsCardName, IsFitStep, IsFitStage, IsFitPlan}
use Rattle.build_plan.specs.Symbolic.{one_output}
use Rattle.build_plan.proofs.PublicLaws.{numbers_rise, stage_fits}
use Rattle.model_binutils.specs.declared.bin_plan.BinPlan.{BinPlan}
use Rattle.model_binutils.specs.declared.bin_plan.BinPlan.TheVariants.{Ar, Ranlib, Strip, Copy, Move, Remove, Nothing}
use Rattle.tool_bin.specs.Archive.{is_member_name, is_name_byte}
use Rattle.model_binutils.specs.Plan.{max_members, plan_of}
use Rattle.model_binutils.specs.PlanOf.{IsPlanned, run_over, member_input, member_inputs, insertion_letters, insertion, strip_step, stripped_path, build_of}
use Rattle.model_binutils.proofs.InputPaths.{old_is_path, member_is_path}
use Rattle.model_binutils.proofs.PlansAreSmall.{IsSmall, is_named, plan_small}

-- ---- a tool over one file

over_fits : (tool : List ℕ) (args : List (List ℕ)) (input path target : List ℕ) → IsCardName tool → list_all has_no_zero args ≡ true → args_bound args ≤ 1000 → is_path input ≡ true
    → IsFitStep (run_over tool args input path target)
over_fits tool args input path target card plain short normal = record {
  card = card;
  parts = λ files.
      let length_of = path_length input normal in
      let bound : paths_bound (input ∷ []) ≡ 72 + length input + 0 = sum_by-cons (λ (path : List ℕ). 72 + length path) input [] in
      stage_fits args (input ∷ []) (omega arith) plain refl (and_from _ _ normal refl) (omega (arith, length_of, bound, short));
}

-- ---- names of members

-- what a name of a member is
record IsName (name : List ℕ) : Type 0 where
  short : length name ≤ 15
  bytes : list_all is_name_byte name ≡ true

name_is : (name : List ℕ) → is_member_name name ≡ true → IsName name
name_is name h =
    let a = and_parts (leb 1 (length name)) (leb (length name) 15 && list_all is_name_byte name) h in
    let b = and_parts (leb (length name) 15) (list_all is_name_byte name) a.1 in
    record { short = leb-true _ _ b.0; bytes = b.1 }

byte_not_zero : (byte : ℕ) → is_name_byte byte ≡ true → not (byte == 0) ≡ true
byte_not_zero byte h =
    let low = leb-true 33 byte (and_parts (leb 33 byte) (leb byte 126 && not (byte == 47)) h).0 in
    ap not (ne_eqb byte 0 (λ is. omega (arith, low, is)))

name_plain : (name : List ℕ) → list_all is_name_byte name ≡ true → has_no_zero name ≡ true
name_plain [] h = refl
name_plain (byte ∷ name) h =
    let parts = and_parts (is_name_byte byte) (list_all is_name_byte name) h in
    and_from _ _ (byte_not_zero byte parts.0) (name_plain name parts.1)

names_plain : (members : List (List ℕ)) → list_all is_named members ≡ true → list_all has_no_zero (map last_of members) ≡ true
names_plain [] h = refl
names_plain (path ∷ members) h =
    let parts = and_parts (is_named path) (list_all is_named members) h in
    and_from _ _ (name_plain (last_of path) (name_is (last_of path) parts.0).bytes) (names_plain members parts.1)

names_short : (members : List (List ℕ)) → list_all is_named members ≡ true → args_bound (map last_of members) ≤ 27 * length members
names_short [] h = omega arith
names_short (path ∷ members) h =
    let parts = and_parts (is_named path) (list_all is_named members) h in
    let own = (name_is (last_of path) parts.0).short in
    let others = names_short members parts.1 in
    let cut = sum_by-cons (λ (arg : List ℕ). 12 + length arg) (last_of path) (map last_of members) in
    omega (arith, own, others, cut)

letters_plain : (table : Bool) → has_no_zero (insertion_letters table) ≡ true
letters_plain true = refl
letters_plain false = refl

letters_short : (table : Bool) → length (insertion_letters table) ≤ 2
letters_short true = omega arith
letters_short false = omega arith

-- ---- inputs

-- the old archive, if it is there
abbrev old_input : Bool → List ℕ → List (List ℕ × Source)
old_input true archive = (codes "old", sources.File archive) ∷ []
old_input false archive = []

abbrev path_of_input : List ℕ × Source → List ℕ
path_of_input input = input.0

-- the paths of the members from a number on, and of the old archive
abbrev input_paths : ℕ → List (List ℕ) → Bool → List ℕ → List (List ℕ)
input_paths number members there archive = map path_of_input (member_inputs number members ++ old_input there archive)

inputs_rise : (number : ℕ) (members : List (List ℕ)) (there : Bool) (archive : List ℕ) → number + length members ≤ 10000 → is_strictly_increasing (input_paths number members there archive) ≡ true
inputs_rise number [] true archive h = refl
inputs_rise number [] false archive h = refl
inputs_rise number (member ∷ []) true archive h = refl
inputs_rise number (member ∷ []) false archive h = refl
inputs_rise number (member ∷ next ∷ members) there archive h =
    and_from _ _ (numbers_rise number (suc number) (omega arith) (omega (arith, h))) (inputs_rise (suc number) (next ∷ members) there archive (omega (arith, h)))

inputs_normal : (number : ℕ) (members : List (List ℕ)) (there : Bool) (archive : List ℕ) → list_all is_path (input_paths number members there archive) ≡ true
inputs_normal number [] true archive = and_from _ _ old_is_path refl
inputs_normal number [] false archive = refl
inputs_normal number (member ∷ members) there archive = and_from _ _ (member_is_path number) (inputs_normal (suc number) members there archive)

inputs_few : (number : ℕ) (members : List (List ℕ)) (there : Bool) (archive : List ℕ) → length (input_paths number members there archive) ≤ length members + 1
inputs_few number [] true archive = omega arith
inputs_few number [] false archive = omega arith
inputs_few number (member ∷ members) there archive = let others = inputs_few (suc number) members there archive in omega (arith, others)

inputs_short : (number : ℕ) (members : List (List ℕ)) (there : Bool) (archive : List ℕ) → paths_bound (input_paths number members there archive) ≤ 77 * length members + 75
inputs_short number [] true archive = omega arith
inputs_short number [] false archive = omega arith
inputs_short number (member ∷ members) there archive =
    let others = inputs_short (suc number) members there archive in
    let cut = sum_by-cons (λ (path : List ℕ). 72 + length path) (member_input number) (input_paths (suc number) members there archive) in
    omega (arith, others, cut)

-- ---- ar

module _ (table : Bool) (archive : List ℕ) (members : List (List ℕ)) (few : length members ≤ max_members) (named : list_all is_named members ≡ true) where
  insertion_parts : (there : Bool) → AreFit (insertion_letters table ∷ map last_of members) [] (input_paths 0 members there archive) one_output
  insertion_parts there =
      let count = inputs_few 0 members there archive in
      let paths = inputs_short 0 members there archive in
      let letters = letters_short table in
      let names = names_short members named in
      let cut = sum_by-cons (λ (arg : List ℕ). 12 + length arg) (insertion_letters table) (map last_of members) in
      stage_fits (insertion_letters table ∷ map last_of members) (input_paths 0 members there archive) (omega (arith, count, few))
      (and_from _ _ (letters_plain table) (names_plain members named)) (inputs_rise 0 members there archive (omega (arith, few))) (inputs_normal 0 members there archive)
      (omega (arith, cut, letters, names, paths, few))

  insertion_fits : IsFitStage (insertion table archive members)
  insertion_fits = record {
    card = omega arith;
    parts = λ files. parts_where (is_some (files archive));
  }
    where
      parts_where : (there : Bool) → AreFit (insertion_letters table ∷ map last_of members) []
          (map path_of_input (member_inputs 0 members ++ (if there then (codes "old", sources.File archive) ∷ [] else []))) one_output
      parts_where true = insertion_parts true
      parts_where false = insertion_parts false

-- ---- strip

strips_fit : (output : Option (List ℕ)) (files : List (List ℕ)) → AllByRecursion IsFitStep (map (strip_step output) files)
strips_fit output [] = tt
strips_fit output (path ∷ files) =
    (over_fits (codes "strip") [] (codes "in") path (stripped_path output path) (omega arith) refl (omega arith) in_is_path, strips_fit output files)

-- ---- all plans

small_fits : (plan : BinPlan) → IsSmall plan → IsFitPlan (build_of plan)
small_fits (Ar true table archive members) h = (insertion_fits table archive members (leb-true _ _ h.few) h.named, tt)
small_fits (Ar false table archive members) h =
    (over_fits (codes "ar") (codes "s" ∷ []) (codes "old") archive archive (omega arith) refl (omega arith) old_is_path, tt)
small_fits (Ranlib archive) h = (over_fits (codes "ranlib") [] (codes "old") archive archive (omega arith) refl (omega arith) old_is_path, tt)
small_fits (Strip output files) h = strips_fit output files
small_fits (Copy from to) h = (tt, tt)
small_fits (Move from to) h = (tt, tt)
small_fits (Remove paths) h = tt
small_fits Nothing h = tt

pub plans_fit : (words : List (List ℕ)) (plan : BinPlan) → plan_of words ≡ Ok plan → IsFitPlan (build_of plan)
plans_fit words plan e = small_fits plan (plan_small words plan e)

-- so it is of each plan that was found
pub planned_fits : (plan : BinPlan) (made : Plan) → IsPlanned plan → made ≡ build_of plan → IsFitPlan made
planned_fits plan made planned is = subst IsFitPlan (sym is) (plans_fit planned.0 plan planned.1)
