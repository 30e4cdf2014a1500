-- An outcome's encoding is read as the outcome, and nothing else is.
use Rattle.std.proofs.Common.{◌≡◌, ℕ, ◌+◌, ◌^◌, ◌<◌, true, leb, eqb, List, [], ◌∷◌, ◌++◌, length, Option, Some, None, refl, sym, ap, subst, ◌∙◌, arith, sum_by, ◌*◌, inl, inr}
use Rattle.std.specs.Prelude.{bytes_eq}
use Rattle.std.specs.List.{flat_map}
use Rattle.std.proofs.lemmas.Bool.{cases_Bool, eqb-true, and_parts, and_from, leb-true, le-leb}
use Rattle.std.proofs.lemmas.List.{length-append, append-nil}
use Rattle.std.proofs.lemmas.List.Concat.{flat_map-cons}
use Rattle.std.proofs.lemmas.List.Sums.{sum_by-cons}
use Rattle.std.proofs.lemmas.Option.{same_Some}
use Rattle.std.proofs.lemmas.Slice.Eq.{bytes_eq-Decides}
use Rattle.object_name.specs.Name.{max_size}
use Rattle.text_lines.specs.Maybe.{bind_some, test_some}
use Rattle.thunk_codec.specs.declared.job.Outcome.{Outcome}
use Rattle.thunk_codec.specs.declared.job.Outcome.TheVariants.{Done, Failed}
use Rattle.thunk_codec.specs.Job.{encoded_count, encoded_string}
use Rattle.job_wire.specs.Frame.{IsBytes, IsOutcome, outcome_encoding}
use Rattle.job_wire.specs.Reading.{string_at, list_at, outputs_of, status_of, outcome_of}
use Rattle.job_wire.proofs.Fields.{IsBytes-rest, string_reader, list_reader}
use Rattle.job_wire.proofs.Jobs.{strings_short}

-- the outputs as strings: four bytes more each
pub strings_size : (outputs : List (List ℕ)) → length (flat_map encoded_string outputs) ≡ length outputs * 4 + sum_by length outputs
strings_size [] = refl
strings_size (output ∷ outputs) =
    let both : length (flat_map encoded_string (output ∷ outputs)) ≡ length (encoded_string output) + length (flat_map encoded_string outputs) = ap length (flat_map-cons encoded_string output outputs) ∙ length-append (encoded_string output) (flat_map encoded_string outputs) in
    let sum : sum_by length (output ∷ outputs) ≡ length output + sum_by length outputs = sum_by-cons length output outputs in
    omega (arith, both, sum, length-append output (flat_map encoded_string outputs), strings_size outputs)

pub outputs_small : (outputs : List (List ℕ)) → IsOutcome (Done outputs) → length (flat_map encoded_string outputs) < 2 ^ 32
outputs_small outputs h = omega (arith, strings_size outputs, h.1, h.2)

outputs_read : (bytes : List ℕ) (outcome : Outcome) → IsBytes bytes → outputs_of bytes ≡ Some outcome → (0 ∷ bytes ≡ outcome_encoding outcome) × IsOutcome outcome
unfolding outputs_of outcome_encoding
outputs_read bytes outcome fits e =
    let a = bind_some (list_at string_at bytes) _ outcome e in
    let b = test_some (bytes_eq a.0.1 []) _ outcome a.2 in
    let c = test_some _ _ outcome b.1 in
    let d = test_some (leb (sum_by length a.0.0) max_size) (Some (Done a.0.0)) outcome c.1 in
    let taken = (list_reader string_reader).takes bytes a.0 fits a.1 in
    let nothing : a.0.1 ≡ [] = (bytes_eq-Decides a.0.1 []).0 b.0 in
    let spelled = encoded_count (length a.0.0) ++ flat_map encoded_string a.0.0 in
    let text : bytes ≡ spelled = taken.0.parts ∙ ap (λ (v : List ℕ). spelled ++ v) nothing ∙ append-nil spelled in
    let number = and_parts (leb 1 (length a.0.0)) (leb (length a.0.0) 64) c.0 in
    subst (λ (v : Outcome). (0 ∷ bytes ≡ outcome_encoding v) × IsOutcome v) (same_Some (Done a.0.0) outcome d.1)
    (ap (λ (v : List ℕ). 0 ∷ v) text, (leb-true _ _ number.0, leb-true _ _ number.1, leb-true _ _ d.0))

status_read : (bytes : List ℕ) (outcome : Outcome) → status_of bytes ≡ Some outcome → (1 ∷ bytes ≡ outcome_encoding outcome) × IsOutcome outcome
unfolding outcome_encoding
status_read [] outcome e = absurd cc
status_read (status ∷ []) outcome e =
    let a = test_some _ (Some (Failed status)) outcome e in
    let number = and_parts (leb 1 status) (leb status 204) a.0 in
    subst (λ (v : Outcome). (1 ∷ status ∷ [] ≡ outcome_encoding v) × IsOutcome v) (same_Some (Failed status) outcome a.1) (refl, (leb-true _ _ number.0, leb-true _ _ number.1))
status_read (status ∷ other ∷ others) outcome e = absurd cc

abbrev nothing : Option Outcome
nothing = None

no_outcome : {P : Type 0} (outcome : Outcome) → nothing ≡ Some outcome → P
no_outcome outcome e = absurd cc

pub outcome_of-encoding : (bytes : List ℕ) (outcome : Outcome) → IsBytes bytes → outcome_of bytes ≡ Some outcome → (bytes ≡ outcome_encoding outcome) × IsOutcome outcome
unfolding outcome_of
outcome_of-encoding [] outcome fits e = absurd cc
outcome_of-encoding (flag ∷ bytes) outcome fits e =
    elim (cases_Bool (eqb flag 0)) [
      | inl done ↦
          subst (λ (k : ℕ). (k ∷ bytes ≡ outcome_encoding outcome) × IsOutcome outcome) (sym (eqb-true flag 0 done)) (outputs_read bytes outcome (IsBytes-rest flag bytes fits) (rw done at e))
      | inr not_done ↦ elim (cases_Bool (eqb flag 1)) [
        | inl failed ↦
            subst (λ (k : ℕ). (k ∷ bytes ≡ outcome_encoding outcome) × IsOutcome outcome) (sym (eqb-true flag 1 failed)) (status_read bytes outcome (rw (not_done, failed) at e))
        | inr none ↦ no_outcome outcome (rw (not_done, none) at e)
      ]
    ]

pub encoding-outcome_of : (outcome : Outcome) → IsOutcome outcome → outcome_of (outcome_encoding outcome) ≡ Some outcome
unfolding outcome_of outcome_encoding outputs_of
encoding-outcome_of (Done outputs) h =
    let spelled = encoded_count (length outputs) ++ flat_map encoded_string outputs in
    let read : list_at string_at spelled ≡ Some (outputs, []) =
    ap (list_at string_at) (sym (append-nil spelled)) ∙ (list_reader string_reader).again outputs [] (omega (arith, h.1), strings_short outputs (outputs_small outputs h)) in
    let number = and_from _ _ (le-leb _ _ h.0) (le-leb _ _ h.1) in
    let size : leb (sum_by length outputs) max_size ≡ true = le-leb _ _ h.2 in
    rw (read, number, size) refl
encoding-outcome_of (Failed status) h =
    let number = and_from _ _ (le-leb _ _ h.0) (le-leb _ _ h.1) in
    rw number refl
