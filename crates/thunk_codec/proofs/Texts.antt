-- The two forms of a thunk's text are one.
use Rattle.std.proofs.Common.{◌≡◌, ℕ, zero, suc, ◌≤◌, Bool, true, false, eqb, List, [], ◌∷◌, ◌++◌, length, take, drop, length-append, append_assoc, Option, Some, refl, sym, ap, subst, ◌∙◌, arith, inl, inr}
use Rattle.std.specs.Prelude.{nat_eq}
use Rattle.std.specs.List.{starts_with, flat_map, AllByRecursion}
use Rattle.std.proofs.lemmas.Bool.{cases_Bool}
use Rattle.std.proofs.lemmas.List.{take-append-drop}
use Rattle.std.proofs.lemmas.List.Concat.{flat_map-cons}
use Rattle.std.proofs.lemmas.Option.{same_Some}
use Rattle.std.proofs.lemmas.Slice.Eq.{bytes_eq-Decides}
use Rattle.thunk_codec.specs.declared.reference.Ref.{Ref}
use Rattle.text_lines.specs.Maybe.{◌>>=◌, bind_some}
use Rattle.thunk_codec.specs.Reference.{IsRef, ref_text}
use Rattle.thunk_codec.specs.Thunk.{Parts, line, counted, head_line, end_line, function_line, arg_line, env_line, input_line, output_line, text_of}
use Rattle.thunk_codec.specs.Raw.{HasRefs}
use Rattle.text_lines.specs.Cuts.{strip_prefix}
use Rattle.text_lines.proofs.PublicLaws.{strip_prefix_takes}
use Rattle.thunk_codec.specs.Reading.{ref_at, bytes_at, env_at, input_line_at, lines_at, all_lines_at, parts_at}
use Rattle.thunk_codec.proofs.Fields.{IsReader, IsShort, IsPair, IsInput, env_said, input_said, ref_takes, ref_at-again, bytes_reader, env_reader, input_reader}

-- lines of a letter
abbrev pub lines_of : {A : Type 0} → ℕ → (A → List ℕ) → List A → List ℕ
lines_of letter said xs = flat_map (λ x. line letter (said x)) xs

-- the text begins with a line of the letter
abbrev pub begins : ℕ → List ℕ → Bool
begins letter bytes = starts_with nat_eq bytes (letter ∷ 32 ∷ [])

pub begins_with : (letter : ℕ) (bytes : List ℕ) → begins letter bytes ≡ true → bytes ≡ letter ∷ 32 ∷ drop 2 bytes
begins_with letter bytes h =
    let prefix : letter ∷ 32 ∷ [] ≡ take 2 bytes = (bytes_eq-Decides (letter ∷ 32 ∷ []) (take 2 bytes)).0 h in
    sym (take-append-drop 2 bytes) ∙ ap (λ (v : List ℕ). v ++ drop 2 bytes) (sym prefix)

begins_again : (letter : ℕ) (rest : List ℕ) → begins letter (letter ∷ 32 ∷ rest) ≡ true
begins_again letter rest = (bytes_eq-Decides (letter ∷ 32 ∷ []) (letter ∷ 32 ∷ [])).1 refl

-- a line before the rest
line_before : (letter : ℕ) (said rest : List ℕ) → line letter said ++ rest ≡ letter ∷ 32 ∷ (said ++ 10 ∷ rest)
line_before letter said rest = ap (λ (v : List ℕ). letter ∷ 32 ∷ v) (append_assoc said (10 ∷ []) rest)

pub lines_take : {A : Type 0} {said_at : List ℕ → Option (A × List ℕ)} {said : A → List ℕ} {P Q : A → Type 0} (reader : IsReader said_at said P Q) (letter most : ℕ) (bytes : List ℕ) (x : List A × List ℕ)
    → lines_at letter said_at most bytes ≡ Some x → (bytes ≡ lines_of letter said x.0 ++ x.1) × AllByRecursion P x.0
unfolding lines_at
lines_take {A} {said_at} {said} {P} {Q} reader letter zero bytes x e =
    subst (λ (v : List A × List ℕ). (bytes ≡ lines_of letter said v.0 ++ v.1) × AllByRecursion P v.0) (same_Some _ x e) (refl, tt)
lines_take {A} {said_at} {said} {P} {Q} reader letter (suc most) bytes x e =
    elim (cases_Bool (begins letter bytes)) [
      | inl more ↦
          let h = rw more at e in
          let a = bind_some (said_at (drop 2 bytes)) (λ first. lines_at letter said_at most first.1 >>= λ others. Some (first.0 ∷ others.0, others.1)) x h in
          let b = bind_some (lines_at letter said_at most a.0.1) (λ others. Some (a.0.0 ∷ others.0, others.1)) x a.2 in
          let first = reader.takes (drop 2 bytes) a.0 a.1 in
          let others = lines_take reader letter most a.0.1 b.0 b.1 in
          let whole : bytes ≡ lines_of letter said (a.0.0 ∷ b.0.0) ++ b.0.1 =
          begins_with letter bytes more
          ∙ ap (λ (v : List ℕ). letter ∷ 32 ∷ v) first.0
          ∙ sym (line_before letter (said a.0.0) a.0.1)
          ∙ ap (λ (v : List ℕ). line letter (said a.0.0) ++ v) others.0
          ∙ sym (append_assoc (line letter (said a.0.0)) (lines_of letter said b.0.0) b.0.1)
          ∙ ap (λ (v : List ℕ). v ++ b.0.1) (sym (flat_map-cons (λ x. line letter (said x)) a.0.0 b.0.0)) in
          subst (λ (v : List A × List ℕ). (bytes ≡ lines_of letter said v.0 ++ v.1) × AllByRecursion P v.0) (same_Some _ x b.2) (whole, (first.1, others.1))
      | inr done ↦
          subst (λ (v : List A × List ℕ). (bytes ≡ lines_of letter said v.0 ++ v.1) × AllByRecursion P v.0) (same_Some _ x (rw done at e)) (refl, tt)
    ]

pub lines_again : {A : Type 0} {said_at : List ℕ → Option (A × List ℕ)} {said : A → List ℕ} {P Q : A → Type 0} (reader : IsReader said_at said P Q) (letter most : ℕ) (xs : List A) (rest : List ℕ)
    → AllByRecursion Q xs → length xs ≤ most → begins letter rest ≡ false → lines_at letter said_at most (lines_of letter said xs ++ rest) ≡ Some (xs, rest)
unfolding lines_at
lines_again reader letter zero [] rest h few done = refl
lines_again reader letter (suc most) [] rest h few done = rw done refl
lines_again reader letter zero (x ∷ xs) rest h few done = absurd (omega (arith, few))
lines_again {A} {said_at} {said} reader letter (suc most) (x ∷ xs) rest h few done =
    let regrouped : lines_of letter said (x ∷ xs) ++ rest ≡ letter ∷ 32 ∷ (said x ++ 10 ∷ (lines_of letter said xs ++ rest)) =
    ap (λ (v : List ℕ). v ++ rest) (flat_map-cons (λ y. line letter (said y)) x xs)
    ∙ append_assoc (line letter (said x)) (lines_of letter said xs) rest
    ∙ line_before letter (said x) (lines_of letter said xs ++ rest) in
    ap (lines_at letter said_at (suc most)) regrouped
    ∙ rw (begins_again letter (said x ++ 10 ∷ (lines_of letter said xs ++ rest)), reader.again x (lines_of letter said xs ++ rest) h.0, lines_again reader letter most xs rest h.1 (omega (arith, few)) done) refl

-- there are no more lines than bytes
few_lines : {A : Type 0} (letter : ℕ) (said : A → List ℕ) (xs : List A) (rest : List ℕ) → length xs ≤ length (lines_of letter said xs ++ rest)
few_lines letter said [] rest = omega arith
few_lines letter said (x ∷ xs) rest =
    let grown = ap length (ap (λ (v : List ℕ). v ++ rest) (flat_map-cons (λ y. line letter (said y)) x xs) ∙ append_assoc (line letter (said x)) (lines_of letter said xs) rest) in
    omega (arith, grown, length-append (line letter (said x)) (lines_of letter said xs ++ rest), few_lines letter said xs rest)

pub all_lines_again : {A : Type 0} {said_at : List ℕ → Option (A × List ℕ)} {said : A → List ℕ} {P Q : A → Type 0} (reader : IsReader said_at said P Q) (letter : ℕ) (xs : List A) (rest : List ℕ)
    → AllByRecursion Q xs → begins letter rest ≡ false → all_lines_at letter said_at (lines_of letter said xs ++ rest) ≡ Some (xs, rest)
all_lines_again {A} {said_at} {said} reader letter xs rest h done =
    lines_again reader letter (length (lines_of letter said xs ++ rest)) xs rest h (few_lines letter said xs rest) done

-- after lines of another letter as before them
begins_after : {A : Type 0} (letter other : ℕ) (said : A → List ℕ) (xs : List A) (rest : List ℕ) → eqb letter other ≡ false → begins letter rest ≡ false → begins letter (lines_of other said xs ++ rest) ≡ false
begins_after letter other said [] rest ne h = h
begins_after letter other said (x ∷ xs) rest ne h = rw ne refl

-- ---- all parts

-- the text after the function's line
abbrev pub after_function : Parts → List ℕ → List ℕ
after_function t rest = flat_map arg_line t.args ++ (flat_map env_line t.envs ++ (flat_map input_line t.inputs ++ (flat_map output_line t.outputs ++ (end_line ++ rest))))

regroup : (h f a e i o x r : List ℕ) → (h ++ (f ++ (a ++ (e ++ (i ++ (o ++ x)))))) ++ r ≡ h ++ (f ++ (a ++ (e ++ (i ++ (o ++ (x ++ r))))))
regroup h f a e i o x r = simp append_assoc

text_before : (t : Parts) (rest : List ℕ) → text_of t ++ rest ≡ head_line ++ (102 ∷ 32 ∷ (ref_text t.function ++ 10 ∷ after_function t rest))
unfolding text_of
text_before t rest =
    regroup head_line (function_line t.function) (flat_map arg_line t.args) (flat_map env_line t.envs) (flat_map input_line t.inputs) (flat_map output_line t.outputs) end_line rest
    ∙ ap (λ (v : List ℕ). head_line ++ v) (line_before 102 (ref_text t.function) (after_function t rest))

-- the steps by which parts are read
record IsRead (bytes : List ℕ) (x : Parts × List ℕ) : Type 0 where
  first : List ℕ
  letter : List ℕ
  function : Ref × List ℕ
  args : List (List ℕ) × List ℕ
  envs : List (List ℕ × List ℕ) × List ℕ
  inputs : List (List ℕ × Ref) × List ℕ
  outputs : List (List ℕ) × List ℕ
  rest : List ℕ
  first_is : strip_prefix head_line bytes ≡ Some first
  letter_is : strip_prefix (102 ∷ 32 ∷ []) first ≡ Some letter
  function_is : ref_at letter ≡ Some function
  args_is : all_lines_at 97 bytes_at function.1 ≡ Some args
  envs_is : all_lines_at 101 env_at args.1 ≡ Some envs
  inputs_is : all_lines_at 105 input_line_at envs.1 ≡ Some inputs
  outputs_is : all_lines_at 111 bytes_at inputs.1 ≡ Some outputs
  rest_is : strip_prefix end_line outputs.1 ≡ Some rest
  whole : (record { function = function.0; args = args.0; envs = envs.0; inputs = inputs.0; outputs = outputs.0 }, rest) ≡ x

parts_read : (bytes : List ℕ) (x : Parts × List ℕ) → parts_at bytes ≡ Some x → IsRead bytes x
unfolding parts_at
parts_read bytes x e =
    let a = bind_some (strip_prefix head_line bytes) _ x e in
    let b = bind_some (strip_prefix (102 ∷ 32 ∷ []) a.0) _ x a.2 in
    let c = bind_some (ref_at b.0) _ x b.2 in
    let d = bind_some (all_lines_at 97 bytes_at c.0.1) _ x c.2 in
    let f = bind_some (all_lines_at 101 env_at d.0.1) _ x d.2 in
    let g = bind_some (all_lines_at 105 input_line_at f.0.1) _ x f.2 in
    let h = bind_some (all_lines_at 111 bytes_at g.0.1) _ x g.2 in
    let i = bind_some (strip_prefix end_line h.0.1) _ x h.2 in
    record {
      first = a.0;
      letter = b.0;
      function = c.0;
      args = d.0;
      envs = f.0;
      inputs = g.0;
      outputs = h.0;
      rest = i.0;
      first_is = a.1;
      letter_is = b.1;
      function_is = c.1;
      args_is = d.1;
      envs_is = f.1;
      inputs_is = g.1;
      outputs_is = h.1;
      rest_is = i.1;
      whole = same_Some _ x i.2;
    }

pub parts_take : (bytes : List ℕ) (x : Parts × List ℕ) → parts_at bytes ≡ Some x → (bytes ≡ text_of x.0 ++ x.1) × HasRefs x.0
parts_take bytes x e =
    let r = parts_read bytes x e in
    let t : Parts = record { function = r.function.0; args = r.args.0; envs = r.envs.0; inputs = r.inputs.0; outputs = r.outputs.0 } in
    let head = strip_prefix_takes head_line bytes r.first r.first_is in
    let mark = strip_prefix_takes (102 ∷ 32 ∷ []) r.first r.letter r.letter_is in
    let function = ref_takes r.letter r.function r.function_is in
    let args = lines_take bytes_reader 97 (length r.function.1) r.function.1 r.args r.args_is in
    let envs = lines_take env_reader 101 (length r.args.1) r.args.1 r.envs r.envs_is in
    let inputs = lines_take input_reader 105 (length r.envs.1) r.envs.1 r.inputs r.inputs_is in
    let outputs = lines_take bytes_reader 111 (length r.inputs.1) r.inputs.1 r.outputs r.outputs_is in
    let end = strip_prefix_takes end_line r.outputs.1 r.rest r.rest_is in
    let outputs_all = outputs.0 ∙ ap (λ (v : List ℕ). flat_map output_line r.outputs.0 ++ v) end in
    let inputs_all = inputs.0 ∙ ap (λ (v : List ℕ). flat_map input_line r.inputs.0 ++ v) outputs_all in
    let envs_all = envs.0 ∙ ap (λ (v : List ℕ). flat_map env_line r.envs.0 ++ v) inputs_all in
    let after_all : r.function.1 ≡ after_function t r.rest = args.0 ∙ ap (λ (v : List ℕ). flat_map arg_line r.args.0 ++ v) envs_all in
    let function_all = function.0 ∙ ap (λ (v : List ℕ). ref_text r.function.0 ++ 10 ∷ v) after_all in
    let all : bytes ≡ text_of t ++ r.rest = head ∙ ap (λ (v : List ℕ). head_line ++ v) (mark ∙ ap (λ (v : List ℕ). 102 ∷ 32 ∷ v) function_all) ∙ sym (text_before t r.rest) in
    subst (λ (v : Parts × List ℕ). (bytes ≡ text_of v.0 ++ v.1) × HasRefs v.0) r.whole (all, record { function = function.1; inputs = inputs.1 })

-- the parts are short enough for numbers, and their keys have no `=`
pub record IsReadable (t : Parts) : Type 0 where
  pub function : IsRef t.function
  pub args : AllByRecursion IsShort t.args
  pub envs : AllByRecursion IsPair t.envs
  pub inputs : AllByRecursion IsInput t.inputs
  pub outputs : AllByRecursion IsShort t.outputs

pub parts_again : (t : Parts) (rest : List ℕ) → IsReadable t → parts_at (text_of t ++ rest) ≡ Some (t, rest)
unfolding parts_at
parts_again t rest h =
    let after_outputs = end_line ++ rest in
    let after_inputs = flat_map output_line t.outputs ++ after_outputs in
    let after_envs = flat_map input_line t.inputs ++ after_inputs in
    let after_args = flat_map env_line t.envs ++ after_envs in
    let args = all_lines_again bytes_reader 97 t.args after_args h.args (begins_after 97 101 env_said t.envs after_envs refl (begins_after 97 105 input_said t.inputs after_inputs refl (begins_after 97 111 counted t.outputs after_outputs refl refl))) in
    let envs = all_lines_again env_reader 101 t.envs after_envs h.envs (begins_after 101 105 input_said t.inputs after_inputs refl (begins_after 101 111 counted t.outputs after_outputs refl refl)) in
    let inputs = all_lines_again input_reader 105 t.inputs after_inputs h.inputs (begins_after 105 111 counted t.outputs after_outputs refl refl) in
    let outputs = all_lines_again bytes_reader 111 t.outputs after_outputs h.outputs refl in
    ap parts_at (text_before t rest)
    ∙ rw (ref_at-again t.function (after_function t rest) h.function, args, envs, inputs, outputs) refl
