-- Arguments and inputs that make a thunk with the one output of a stage.
use Rattle.std.proofs.Common.{◌≡◌, ℕ, ◌+◌, ◌≤◌, true, leb, List, [], ◌∷◌, length, map, refl, sym, ap, subst, arith}
use Rattle.std.specs.List.{list_all}
use Rattle.std.proofs.lemmas.Bool.{and_from, le-leb}
use Rattle.std.proofs.lemmas.List.{length-map}
use Rattle.thunk_codec.specs.declared.reference.Ref.{Ref}
use Rattle.thunk_codec.specs.Fitting.{AreFit, unknown_ref, unreferring, args_bound, paths_bound}
use Rattle.thunk_codec.specs.Path.{is_path}
use Rattle.thunk_codec.specs.Thunk.{has_no_zero, is_strictly_increasing, keeps_rules}
use Rattle.thunk_codec.proofs.PublicLaws.{parts-fit, out_is_path}
use Rattle.build_plan.specs.Symbolic.{one_output}

-- a path with a REF that stands where none is known
abbrev with_ref : List ℕ → List ℕ × Ref
with_ref path = (path, unknown_ref)

abbrev path_of_input : List ℕ × Ref → List ℕ
path_of_input input = input.0

-- the paths of such inputs are the paths
paths_beside : (paths : List (List ℕ)) → map path_of_input (map with_ref paths) ≡ paths
paths_beside [] = refl
paths_beside (path ∷ paths) = ap (λ (v : List (List ℕ)). path ∷ v) (paths_beside paths)

-- at most 4,096 inputs by paths in byte order, arguments without a zero byte, and lines that are short enough
pub stage_fits : (args paths : List (List ℕ)) → length paths ≤ 4096 → list_all has_no_zero args ≡ true → is_strictly_increasing paths ≡ true → list_all is_path paths ≡ true
    → args_bound args + paths_bound paths ≤ 16777000 → AreFit args [] paths one_output
stage_fits args paths few plain rising normal short =
    let number : leb (length (map with_ref paths)) 4096 ≡ true = le-leb _ 4096 (let same = length-map paths with_ref in omega (arith, same, few)) in
    let same = sym (paths_beside paths) in
    let order : is_strictly_increasing (map path_of_input (map with_ref paths)) ≡ true = subst (λ (v : List (List ℕ)). is_strictly_increasing v ≡ true) same rising in
    let good : list_all is_path (map path_of_input (map with_ref paths)) ≡ true = subst (λ (v : List (List ℕ)). list_all is_path v ≡ true) same normal in
    let rules : keeps_rules (unreferring args [] paths one_output) ≡ true
    = and_from _ _ (and_from _ _ number refl) (and_from _ _ (and_from _ _ plain refl) (and_from _ _ (and_from _ _ refl (and_from _ _ order refl)) (and_from _ _ good (and_from _ _ out_is_path refl)))) in
    parts-fit args [] paths one_output rules (omega (arith, short))
