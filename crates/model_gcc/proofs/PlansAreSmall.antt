-- What the limits on words give: few operands, and arguments whose lines are short.
use Rattle.std.proofs.Common.{◌≡◌, ◌≤◌, ℕ, ◌+◌, ◌*◌, Bool, true, false, not, leb, List, [], ◌∷◌, length, Option, Some, None, refl, ap, subst, arith}
use Rattle.std.specs.Prelude.{Result, Ok, Err, is_some}
use Rattle.std.specs.List.{list_all, AllByRecursion}
use Rattle.std.proofs.lemmas.Bool.{and_parts, leb-true}
use Rattle.thunk_codec.specs.Fitting.{args_bound}
use Rattle.thunk_codec.specs.Thunk.{has_no_zero}
use Rattle.file_tree.specs.Planning.{◌>>=◌, ◌>>◌, refuse_if, refuse_at}
use Rattle.file_tree.specs.declared.model_fault.PlanFault.{PlanFault}
use Rattle.file_tree.specs.declared.model_fault.Reason.TheVariants.{NoValue, OneFile, NoInput, NeedsOutput, WrongKind, TooMany}
use Rattle.model_gcc.specs.declared.gcc_plan.GccPlan.{GccPlan}
use Rattle.model_gcc.specs.declared.slots.Slots.{Slots}
use Rattle.model_gcc.specs.Checks.{max_operands, max_bytes, has_file, needs_output, shared_output, first_unfit, total_length, is_within}
use Rattle.model_gcc.specs.Operands.{IsOperand}
use Rattle.model_gcc.specs.Plan.{stop_of, plan_with, planned, plan_of}
use Rattle.model_gcc.specs.Slots.{Reading, no_words, with_words}
use Rattle.model_gcc.specs.Values.{after_first}
use Rattle.model_gcc.proofs.SlotsAreSound.{IsSound, SoundAfter, sound_first, words_sound}

-- what is known of each plan
pub record IsSmall (plan : GccPlan) : Type 0 where
  pub few : length plan.operands ≤ max_operands
  pub operands : AllByRecursion IsOperand plan.operands
  pub cpp : list_all has_no_zero plan.cpp_words ≡ true
  pub cc : list_all has_no_zero plan.cc_words ≡ true
  pub small : args_bound plan.cpp_words + args_bound plan.cc_words ≤ 8 * max_bytes

-- six tests that all were passed
six_passed : (a b c d e f : Option PlanFault) (last : Result GccPlan PlanFault) (plan : GccPlan) → (a >> (b >> (c >> (d >> (e >> (f >> last)))))) ≡ Ok plan → (f ≡ None) × (last ≡ Ok plan)
six_passed (Some x) b c d e f last plan h = absurd cc
six_passed None (Some x) c d e f last plan h = absurd cc
six_passed None None (Some x) d e f last plan h = absurd cc
six_passed None None None (Some x) e f last plan h = absurd cc
six_passed None None None None (Some x) f last plan h = absurd cc
six_passed None None None None None (Some x) last plan h = absurd cc
six_passed None None None None None None last plan h = (refl, h)

not_refused : (test : Bool) (fault : PlanFault) → ◌≡◌ {A = Option PlanFault} (elim test [ true ↦ Some fault | false ↦ None ]) None → test ≡ false
not_refused true fault e = absurd cc
not_refused false fault e = refl

within_is : (test : Bool) → refuse_if (not test) 0 TooMany ≡ None → test ≡ true
within_is true e = refl
within_is false e = absurd cc

same_plan : (x y : GccPlan) → ◌≡◌ {A = Result GccPlan PlanFault} (Ok x) (Ok y) → x ≡ y
same_plan x y e = ap (λ (r : Result GccPlan PlanFault). elim r [ Ok z ↦ z | Err fault ↦ x ]) e

total_after_first : (words : List (List ℕ)) → total_length (after_first words) ≤ total_length words
total_after_first [] = omega arith
total_after_first (word ∷ words) = omega arith

planned_small : (words : List (List ℕ)) (given : Slots) (plan : GccPlan) → IsSound (total_length (after_first words)) given → planned words given ≡ Ok plan → IsSmall plan
unfolding planned is_within
planned_small words given plan h e =
    let passed = six_passed (refuse_if (is_some given.waiting) given.at NoValue) (refuse_if (not (has_file given.operands)) 0 NoInput)
    (refuse_if (needs_output (stop_of given) given.output) 0 NeedsOutput) (refuse_at (shared_output given) OneFile)
    (refuse_at (first_unfit (stop_of given) given.operands given.places) WrongKind) (refuse_if (not (is_within words given.operands)) 0 TooMany) (Ok (plan_with given)) plan e in
    let limits = and_parts (leb (length given.operands) max_operands) (leb (total_length words) max_bytes) (within_is (is_within words given.operands) passed.0) in
    let few = leb-true _ _ limits.0 in
    let bytes = leb-true _ _ limits.1 in
    let small = h.small in
    let first = total_after_first words in
    subst IsSmall (same_plan (plan_with given) plan passed.1)
    (record { few = few; operands = h.operands; cpp = h.cpp; cc = h.cc; small = omega (arith, small, bytes, first) })

small_from : (words : List (List ℕ)) (reading : Reading) (plan : GccPlan) → SoundAfter (total_length (after_first words)) reading → (reading >>= λ given. planned words given) ≡ Ok plan → IsSmall plan
small_from words (Ok given) plan h e = planned_small words given plan h e
small_from words (Err fault) plan h e = absurd cc

-- each plan of some words is small
pub plan_small : (words : List (List ℕ)) (plan : GccPlan) → plan_of words ≡ Ok plan → IsSmall plan
plan_small words plan e =
    let sound : SoundAfter (total_length (after_first words)) (with_words (after_first words) no_words)
    = subst (λ (n : ℕ). SoundAfter n (with_words (after_first words) no_words)) (let n : 0 + total_length (after_first words) ≡ total_length (after_first words) = omega arith in n) (words_sound 0 (after_first words) no_words sound_first) in
    small_from words (with_words (after_first words) no_words) plan sound e
