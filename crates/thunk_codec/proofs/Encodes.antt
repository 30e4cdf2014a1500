-- Lines that are appended one after another are the text.
use Rattle.std.proofs.Common.{◌≡◌, List, ℕ, [], ◌++◌, append_assoc, ap, ◌∙◌}
use Rattle.std.specs.List.{flat_map}
use Rattle.thunk_codec.specs.Thunk.{Parts, text_of, head_line, end_line, function_line, arg_line, env_line, input_line, output_line}

in_line : (a b c d e f g : List ℕ) → (((((a ++ b) ++ c) ++ d) ++ e) ++ f) ++ g ≡ a ++ (b ++ (c ++ (d ++ (e ++ (f ++ g)))))
in_line a b c d e f g = simp append_assoc

pub text_written : (t : Parts) (none function args envs inputs outputs all : List ℕ) → none ≡ [] → function ≡ none ++ (head_line ++ function_line t.function)
    → args ≡ function ++ flat_map arg_line t.args → envs ≡ args ++ flat_map env_line t.envs → inputs ≡ envs ++ flat_map input_line t.inputs
    → outputs ≡ inputs ++ flat_map output_line t.outputs → all ≡ outputs ++ end_line → all ≡ text_of t
unfolding text_of
text_written t none function args envs inputs outputs all n f a e i o end =
    end ∙ ap (λ (v : List ℕ). v ++ end_line) (o ∙ ap (λ (v : List ℕ). v ++ flat_map output_line t.outputs) (i ∙ ap (λ (v : List ℕ). v ++ flat_map input_line t.inputs)
    (e ∙ ap (λ (v : List ℕ). v ++ flat_map env_line t.envs) (a ∙ ap (λ (v : List ℕ). v ++ flat_map arg_line t.args) (f ∙ ap (λ (v : List ℕ). v ++ (head_line ++ function_line t.function)) n)))))
    ∙ in_line head_line (function_line t.function) (flat_map arg_line t.args) (flat_map env_line t.envs) (flat_map input_line t.inputs) (flat_map output_line t.outputs) end_line
