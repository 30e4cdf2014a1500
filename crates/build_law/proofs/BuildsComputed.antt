-- A build at once, computed: a tool that joins its inputs, a copy, a move, a search and a removal.
use Rattle.std.proofs.Common.{◌≡◌, ℕ, List, [], ◌∷◌, ◌++◌, map, Option, Some, None, codes, refl}
use Rattle.thunk_codec.specs.declared.job.Job.{Job}
use Rattle.thunk_codec.specs.declared.job.Outcome.{Outcome}
use Rattle.thunk_codec.specs.declared.job.Outcome.TheVariants.{Done, Failed}
use Rattle.thunk_codec.specs.Placeholder.{placeholder_of}
use Rattle.file_tree.specs.Files.{Files, put_file, no_files}
use Rattle.build_plan.specs.declared.plan.Plan.{Plan}
use Rattle.build_plan.specs.declared.plan.Scanning.{Scanning}
use Rattle.build_plan.specs.declared.plan.Step.{Step}
use Rattle.build_plan.specs.declared.plan.Step.TheVariants.{Take, Find, Run}
use Rattle.build_plan.specs.declared.plan.Target.TheVariants.{Keep, Drop}
use Rattle.build_plan.specs.Doing.{Ended, Got, Stopped}
use Rattle.build_plan.specs.Way.{file_input, first_found}
use Rattle.build_script.specs.AtOnce.{Ran}
use Rattle.build_script.specs.Builds.{built_at_once}

-- the bytes of all inputs, in order
joined : List (List ℕ × List ℕ) → List ℕ
joined [] = []
joined (input ∷ inputs) = input.1 ++ joined inputs

cat : Job → Outcome
cat job = Done (joined job.inputs ∷ [])

no_whole : Files → Scanning → Outcome
no_whole files scanning = Failed 64

-- one step, whose item a file gets
kept : Step → List ℕ → Plan
kept step path = record { steps = step ∷ []; targets = Keep path 0 ∷ [] }

joining : List (List ℕ) → Option (List ℕ × List ℕ) → List ℕ → Plan
joining paths optional target = kept (Run (record { tool = codes "cat"; args = []; inputs = map file_input paths; optional = optional; target = target })) target

tree : Files
tree = put_file (put_file no_files (codes "a") (codes "A")) (codes "b") (codes "B")

-- the optional input `e` isn't there at first, and then it is; `z` isn't there
plans : List Plan
plans =
    joining (codes "a" ∷ codes "b" ∷ []) None (codes "c")
    ∷ joining (codes "b" ∷ codes "c" ∷ []) (Some (codes "old", codes "e")) (codes "d")
    ∷ kept (Take (codes "d")) (codes "e")
    ∷ joining (codes "a" ∷ []) (Some (codes "old", codes "e")) (codes "g")
    ∷ kept (Find (codes "x") (codes "z" ∷ codes "b" ∷ codes "c" ∷ [])) (codes "h")
    ∷ record { steps = Take (codes "c") ∷ []; targets = Keep (codes "f") 0 ∷ Drop (codes "c") ∷ [] }
    ∷ record { steps = []; targets = Drop (codes "a") ∷ Drop (codes "z") ∷ [] }
    ∷ []

end : Ended Ran (Unit {0})
end = built_at_once cat no_whole plans tree

files_at : List (List ℕ) → Ended Ran (Unit {0}) → List (Option (List ℕ))
files_at paths (Got done ran) = map ran.files paths
files_at paths (Stopped why ran) = []

left-is : files_at (codes "a" ∷ codes "b" ∷ codes "c" ∷ codes "d" ∷ codes "e" ∷ codes "f" ∷ codes "g" ∷ codes "h" ∷ []) end
    ≡ None ∷ Some (codes "B") ∷ None ∷ Some (codes "BAB") ∷ Some (codes "BAB") ∷ Some (codes "AB") ∷ Some (codes "ABAB") ∷ Some (codes "B") ∷ []
unfolding files_at end plans tree kept joining cat joined no_whole placeholder_of first_found
left-is = refl
