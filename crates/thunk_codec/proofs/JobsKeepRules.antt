-- The job of a thunk keeps the rules of a job, and its length is known from the thunk.
use Rattle.std.proofs.Common.{◌≡◌, ◌&&◌, ℕ, true, leb, List, [], ◌∷◌, length, map, refl, sym, ap, ◌∙◌, le-leb}
use Rattle.std.specs.List.{list_all, AllByRecursion}
use Rattle.std.proofs.lemmas.Bool.{and_parts, and_from}
use Rattle.std.proofs.lemmas.List.{length-map}
use Rattle.object_name.specs.Kind.{max_outputs}
use Rattle.object_name.specs.Name.{max_size}
use Rattle.thunk_codec.specs.declared.job.Job.{Job}
use Rattle.thunk_codec.specs.declared.reference.Ref.{Ref}
use Rattle.thunk_codec.specs.Reference.{IsRef}
use Rattle.thunk_codec.specs.Thunk.{Parts, IsThunk, has_no_zero, is_identifier, is_strictly_increasing, are_distinct}
use Rattle.thunk_codec.specs.Job.{IsJobOf, job_keeps_rules, job_size, ref_name, resolved_size, size_by_lengths, with_length, with_size}
use Rattle.thunk_codec.proofs.Lengths.{job_size_by_lengths, ref_size}
use Rattle.thunk_codec.proofs.RulesKept.{rules_kept}

places : {A : Type 0} (size : A → ℕ) (inputs : List (List ℕ × A)) → map (λ (place : List ℕ × ℕ). place.0) (map (λ (input : List ℕ × A). (input.0, size input.1)) inputs) ≡ map (λ (input : List ℕ × A). input.0) inputs
places size [] = refl
places size (input ∷ inputs) = ap (λ (paths : List (List ℕ)). input.0 ∷ paths) (places size inputs)

-- the paths are those before which the lengths stand
paths_of : (inputs : List (List ℕ × List ℕ)) (wanted : List (List ℕ × Ref)) → map with_length inputs ≡ map with_size wanted
    → map (λ input. input.0) inputs ≡ map (λ input. input.0) wanted
paths_of inputs wanted same =
    sym (places (λ (bytes : List ℕ). length bytes) inputs) ∙ ap (map (λ (place : List ℕ × ℕ). place.0)) same ∙ places (λ (r : Ref). (ref_name r).size) wanted

-- objects of these lengths are within the limit
within : (inputs : List (List ℕ × List ℕ)) → list_all (λ (place : List ℕ × ℕ). leb place.1 max_size) (map with_length inputs) ≡ true → list_all (λ (input : List ℕ × List ℕ). leb (length input.1) max_size) inputs ≡ true
within [] is = refl
within (input ∷ inputs) is =
    let p = and_parts (leb (length input.1) max_size) _ is in
    and_from _ _ p.0 (within inputs p.1)

sizes_within : (inputs : List (List ℕ × Ref)) → AllByRecursion IsRef (map (λ input. input.1) inputs) → list_all (λ (place : List ℕ × ℕ). leb place.1 max_size) (map with_size inputs) ≡ true
sizes_within [] refs = refl
sizes_within (input ∷ inputs) refs = and_from _ _ (le-leb _ _ (ref_size input.1 refs.0)) (sizes_within inputs refs.1)

pub job_of-keeps_rules : (t : Parts) (job : Job) → IsThunk t → IsJobOf t job → job_keeps_rules job ≡ true
job_of-keeps_rules t job rules is =
    let kept = rules_kept t rules.rules in
    let paths = paths_of job.inputs t.inputs is.inputs in
    let number : length job.inputs ≡ length t.inputs =
    sym (length-map job.inputs (λ (i : List ℕ × List ℕ). i.0)) ∙ ap length paths ∙ length-map t.inputs (λ (i : List ℕ × Ref). i.0) in
    let bytes = and_parts (list_all has_no_zero t.args) _ kept.bytes in
    let keys = and_parts (list_all (λ (env : List ℕ × List ℕ). is_identifier env.0) t.envs) _ bytes.1 in
    let numbers = and_parts (leb (length t.inputs) 4096) _ kept.numbers in
    let orders = and_parts (is_strictly_increasing (map (λ env. env.0) t.envs)) _ kept.orders in
    let rising = and_parts (is_strictly_increasing (map (λ input. input.0) t.inputs)) _ orders.1 in
    and_from _ _ (ap (λ n. leb n max_size) is.function ∙ le-leb _ _ (ref_size t.function rules.function))
    (and_from _ _ (within job.inputs (ap (list_all (λ (place : List ℕ × ℕ). leb place.1 max_size)) is.inputs ∙ sizes_within t.inputs rules.input_refs))
    (and_from _ _ (and_from _ _ (ap (λ n. leb n 4096) number ∙ numbers.0) (ap (λ (o : List (List ℕ)). leb 1 (length o) && leb (length o) max_outputs) is.outputs ∙ numbers.1))
    (and_from _ _
    (and_from _ _ (ap (list_all has_no_zero) is.args ∙ bytes.0)
    (and_from _ _ (ap (list_all (λ (env : List ℕ × List ℕ). is_identifier env.0)) is.envs ∙ keys.0) (ap (list_all (λ (env : List ℕ × List ℕ). has_no_zero env.1)) is.envs ∙ keys.1)))
    (and_from _ _ (ap (λ (envs : List (List ℕ × List ℕ)). is_strictly_increasing (map (λ env. env.0) envs)) is.envs ∙ orders.0)
    (and_from _ _ (ap is_strictly_increasing paths ∙ rising.0) (ap are_distinct is.outputs ∙ rising.1))))))

pub job_of-size : (t : Parts) (job : Job) → IsJobOf t job → job_size job ≡ resolved_size t
unfolding resolved_size
job_of-size t job is =
    job_size_by_lengths job
    ∙ (λ i. size_by_lengths (is.function i) (is.args i) (is.envs i) (is.inputs i) (is.outputs i))
