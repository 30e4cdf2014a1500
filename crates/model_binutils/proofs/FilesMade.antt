-- The inputs of members and the targets of `strip`, made one after another.
use Rattle.std.proofs.Common.{◌≡◌, ℕ, suc, ◌+◌, ◌-◌, ◌≤◌, ◌<◌, List, [], ◌∷◌, ◌++◌, length, get_or, take, drop, length-append, Option, refl, ap, ◌∙◌, arith}
use Rattle.std.proofs.lemmas.List.{take_rest}
use Rattle.build_plan.specs.declared.plan.Source.{Source}
use Rattle.build_plan.specs.declared.plan.Source.TheVariants as sources
use Rattle.build_plan.specs.declared.plan.Target.{Target}
use Rattle.build_plan.specs.declared.plan.Target.TheVariants.{Keep}
use Rattle.model_binutils.specs.PlanOf.{member_input, member_inputs, stripped_path, strip_targets}
use Rattle.model_binutils.proofs.ItemsMade.{item_made, all_made}

-- a member as an input
abbrev as_input : ℕ → List ℕ → List ℕ × Source
as_input number path = (member_input number, sources.File path)

-- one member more
pub member_made : (inputs more : List (List ℕ × Source)) (number : ℕ) (rest : List (List ℕ)) (path input file : List ℕ) (whole : List (List ℕ × Source)) → 1 ≤ length rest → path ≡ get_or rest 0 path
    → inputs ++ member_inputs (length inputs) rest ≡ whole → more ≡ inputs ++ (input, sources.File file) ∷ [] → number ≡ length inputs → input ≡ member_input number → file ≡ path
    → more ++ member_inputs (length more) (take (length rest - 1) (drop 1 rest)) ≡ whole
member_made inputs more number rest path input file whole some is so_far pushed count named same =
    let all : more ≡ inputs ++ as_input (length inputs) path ∷ []
    = pushed ∙ ap (λ (v : List ℕ). inputs ++ (v, sources.File file) ∷ []) (named ∙ ap member_input count) ∙ ap (λ (v : List ℕ). inputs ++ (member_input (length inputs), sources.File v) ∷ []) same in
    let appended = length-append inputs (as_input (length inputs) path ∷ []) in
    let size : length more ≡ suc (length inputs) = ap length all ∙ appended ∙ omega arith in
    rw (size, all) (item_made member_inputs as_input (λ n. refl) (λ n x xs. refl) (length inputs) rest path inputs whole some is so_far)

pub members_made : (inputs : List (List ℕ × Source)) (rest : List (List ℕ)) (whole : List (List ℕ × Source)) → length rest < 1 → inputs ++ member_inputs (length inputs) rest ≡ whole → inputs ≡ whole
members_made inputs rest whole none so_far = all_made member_inputs as_input (λ n. refl) (λ n x xs. refl) (length inputs) rest inputs whole none so_far

module _ (output : Option (List ℕ)) (files : List (List ℕ)) where
  -- a stripped file that is kept
  abbrev as_target : ℕ → List ℕ → Target
  as_target number path = Keep (stripped_path output path) number

  -- the targets so far, and how many steps they take
  pub record AreKept (targets : List Target) (step : ℕ) (rest : List (List ℕ)) : Type 0 where
    pub so_far : targets ++ strip_targets output step rest ≡ strip_targets output 0 files
    pub count : step + length rest ≡ length files

  -- one file more
  pub target_made : (targets more : List Target) (step next : ℕ) (rest : List (List ℕ)) (path target : List ℕ) → 1 ≤ length rest → path ≡ get_or rest 0 path → AreKept targets step rest
      → more ≡ targets ++ Keep target step ∷ [] → target ≡ stripped_path output path → next ≡ suc step → AreKept more next (take (length rest - 1) (drop 1 rest))
  target_made targets more step next [] path target some is h pushed named follows = absurd (omega (arith, some))
  target_made targets more step next (first ∷ others) path target some is h pushed named follows =
      let count = h.count in
      let all : more ≡ targets ++ as_target step path ∷ [] = pushed ∙ ap (λ (v : List ℕ). targets ++ Keep v step ∷ []) named in
      record {
        so_far = rw (follows, all) (item_made (strip_targets output) as_target (λ n. refl) (λ n x xs. refl) step (first ∷ others) path targets (strip_targets output 0 files) some is h.so_far);
        count = rw (take_rest (first ∷ others) 1) (omega (arith, count, follows));
      }

  pub targets_made : (targets : List Target) (step : ℕ) (rest : List (List ℕ)) → length rest < 1 → AreKept targets step rest → targets ≡ strip_targets output 0 files
  targets_made targets step rest none h = all_made (strip_targets output) as_target (λ n. refl) (λ n x xs. refl) step rest targets (strip_targets output 0 files) none h.so_far

  -- the number of the next step is no greater than the number of files
  pub step_fits : (targets : List Target) (step : ℕ) (rest : List (List ℕ)) → 1 ≤ length rest → AreKept targets step rest → step + 1 ≤ length files
  step_fits targets step rest some h = let count = h.count in omega (arith, count, some)
