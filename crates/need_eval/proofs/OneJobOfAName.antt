-- Two jobs of an evaluation whose resolved texts have one name are one job.
use Rattle.std.proofs.Common.{◌≡◌, ℕ, List, [], ◌∷◌, map, refl, sym, ap, subst, ◌∙◌}
use Rattle.std.specs.List.{AllByRecursion}
use Rattle.std.proofs.lemmas.Option.{same_Some}
use Rattle.thunk_codec.specs.declared.job.Job.{Job}
use Rattle.thunk_codec.specs.declared.reference.Ref.{Ref}
use Rattle.thunk_codec.specs.Job.{ref_name}
use Rattle.thunk_codec.specs.Thunk.{Parts, IsThunk, text_of}
use Rattle.thunk_codec.specs.Reading.{thunk_of}
use Rattle.thunk_codec.proofs.PublicLaws.{text-thunk_of}
use Rattle.need_eval.specs.MetObjects.{HaveOwnNames}
use Rattle.need_eval.specs.StopAndAgain.{value_input, resolved, resolved_name}

abbrev tail_of : {A : Type 0} → List A → List A
tail_of [] = []
tail_of (x ∷ xs) = xs

abbrev head_or : {A : Type 0} → A → List A → A
head_or other [] = other
head_or other (x ∷ xs) = x

abbrev IsCons : {A : Type 0} → List A → Type 0
IsCons [] = ⊥
IsCons (x ∷ xs) = Unit {0}

-- the objects of a job are met
abbrev pub MetJob : (List ℕ → Type 0) → Job → Type 0
MetJob Met job = Met job.function × AllByRecursion (λ i. Met i.1) job.inputs

module _ (Met : List ℕ → Type 0) (own_names : HaveOwnNames Met) where
  same-inputs : (a b : List (List ℕ × List ℕ)) → AllByRecursion (λ i. Met i.1) a → AllByRecursion (λ i. Met i.1) b → map value_input a ≡ map value_input b → a ≡ b
  same-inputs [] [] ma mb is = refl
  same-inputs [] (y ∷ b) ma mb is = absurd (subst IsCons (sym is) tt)
  same-inputs (x ∷ a) [] ma mb is = absurd (subst IsCons is tt)
  same-inputs (x ∷ a) (y ∷ b) ma mb is =
      let first : value_input x ≡ value_input y = ap (head_or (value_input x)) is in
      let path : x.0 ≡ y.0 = ap (λ (i : List ℕ × Ref). i.0) first in
      let bytes : x.1 ≡ y.1 = own_names x.1 y.1 ma.0 mb.0 (ap (λ (i : List ℕ × Ref). ref_name i.1) first) in
      let rest = same-inputs a b ma.1 mb.1 (ap tail_of is) in
      λ d. (path d, bytes d) ∷ rest d

  same-resolved : (a b : Job) → MetJob Met a → MetJob Met b → resolved a ≡ resolved b → a ≡ b
  same-resolved a b ma mb is =
      let function = own_names a.function b.function ma.0 mb.0 (ap (λ (t : Parts). ref_name t.function) is) in
      let inputs = same-inputs a.inputs b.inputs ma.1 mb.1 (ap (λ (t : Parts). t.inputs) is) in
      λ d. record { function = function d; args = (is d).args; envs = (is d).envs; inputs = inputs d; outputs = (is d).outputs }

  pub one-job : (a b : Job) → MetJob Met a → MetJob Met b → IsThunk (resolved a) → IsThunk (resolved b) → Met (text_of (resolved a)) → Met (text_of (resolved b)) → resolved_name a ≡ resolved_name b → a ≡ b
  one-job a b ma mb ra rb ta tb is =
      let text = own_names (text_of (resolved a)) (text_of (resolved b)) ta tb is in
      let one = text-thunk_of (text_of (resolved a)) (resolved a) (record { rules = ra; text = refl }) in
      let two = text-thunk_of (text_of (resolved b)) (resolved b) (record { rules = rb; text = refl }) in
      same-resolved a b ma mb (same_Some (resolved a) (resolved b) (sym one ∙ ap thunk_of text ∙ two))
