-- The lines of outputs, one after another.
use Rattle.std.proofs.Common.{◌≡◌, ℕ, suc, ◌+◌, ◌<◌, List, [], ◌∷◌, ◌++◌, length, take, get_or, codes, decimal, sym, ap, ◌∙◌, append_assoc, append-nil, arith, length-take-le, Result, Ok, Err, OnOk}
use Rattle.std.proofs.lemmas.List.{take_more}
use Rattle.std.specs.List.{flat_map}
use Rattle.gg_cli.specs.Description.{labelled, output_lines}

-- the line of an output
abbrev pub output_line : ℕ → List ℕ → List ℕ
output_line index output = labelled (codes "output") (decimal index ++ (32 ∷ output))

-- one output more
output_lines-push : (k : ℕ) (outputs : List (List ℕ)) (last : List ℕ) → output_lines k (outputs ++ last ∷ []) ≡ output_lines k outputs ++ output_line (k + length outputs) last
output_lines-push k [] last = append-nil (output_line k last) ∙ ap (λ n. output_line n last) (let same : k ≡ k + 0 = omega arith in same)
output_lines-push k (first ∷ outputs) last =
    let same : suc k + length outputs ≡ k + suc (length outputs) = omega arith in
    ap (λ l. output_line k first ++ l) (output_lines-push (suc k) outputs last ∙ ap (λ n. output_lines (suc k) outputs ++ output_line n last) same)
    ∙ sym (append_assoc (output_line k first) (output_lines (suc k) outputs) (output_line (k + suc (length outputs)) last))

-- the lines up to the next output
pub output_lines-more : (outputs : List (List ℕ)) (i : ℕ) (output : List ℕ) → i < length outputs → output ≡ get_or outputs i output
    → output_lines 0 (take (i + 1) outputs) ≡ output_lines 0 (take i outputs) ++ output_line i output
output_lines-more outputs i output lt is =
    let count : 0 + length (take i outputs) ≡ i = omega (arith, length-take-le i outputs (omega (arith, lt))) in
    ap (output_lines 0) (take_more outputs i output lt ∙ ap (λ last. take i outputs ++ last ∷ []) (sym is))
    ∙ output_lines-push 0 (take i outputs) output ∙ ap (λ n. output_lines 0 (take i outputs) ++ output_line n output) count

-- the text with one output more
pub outputs-more : (before : List ℕ) (outputs : List (List ℕ)) (text next : List ℕ) (i : ℕ) (output said : List ℕ) → i < length outputs → output ≡ get_or outputs i output → said ≡ output
    → text ≡ before ++ output_lines 0 (take i outputs) → next ≡ text ++ output_line i said → next ≡ before ++ output_lines 0 (take (i + 1) outputs)
outputs-more before outputs text next i output said lt is same so_far written =
    written ∙ (λ j. so_far j ++ output_line i (same j)) ∙ append_assoc before (output_lines 0 (take i outputs)) (output_line i output) ∙ ap (λ lines. before ++ lines) (sym (output_lines-more outputs i output lt is))

-- the text with one line more
pub line-grows : {T E : Type 0} (r : Result T E) (t0 t1 t2 t3 label said : List ℕ) → t1 ≡ t0 ++ (label ++ 32 ∷ []) → t2 ≡ t1 ++ said → OnOk r (t3 ≡ t2 ++ 10 ∷ []) → OnOk r (t3 ≡ t0 ++ labelled label said)
line-grows (Ok v) t0 t1 t2 t3 label said first second third =
    third ∙ (λ i. (second ∙ (λ j. first j ++ said)) i ++ 10 ∷ []) ∙ append_assoc (t0 ++ (label ++ 32 ∷ [])) said (10 ∷ [])
    ∙ append_assoc t0 (label ++ 32 ∷ []) (said ++ 10 ∷ []) ∙ ap (λ l. t0 ++ l) (append_assoc label (32 ∷ []) (said ++ 10 ∷ []))
line-grows (Err e) t0 t1 t2 t3 label said first second third = tt

-- the lines of some parts and of one more
flat-push : {A : Type 0} (said : A → List ℕ) (xs : List A) (x : A) → flat_map said (xs ++ x ∷ []) ≡ flat_map said xs ++ said x
flat-push said [] x = append-nil (said x)
flat-push said (y ∷ ys) x = ap (λ l. said y ++ l) (flat-push said ys x) ∙ sym (append_assoc (said y) (flat_map said ys) (said x))

-- the text with one part more
pub parts-more : {A : Type 0} (said : A → List ℕ) (before : List ℕ) (xs : List A) (text next : List ℕ) (i : ℕ) (x : A) → i < length xs → x ≡ get_or xs i x
    → text ≡ before ++ flat_map said (take i xs) → next ≡ text ++ said x → next ≡ before ++ flat_map said (take (i + 1) xs)
parts-more said before xs text next i x lt is so_far written =
    written ∙ ap (λ l. l ++ said x) so_far ∙ append_assoc before (flat_map said (take i xs)) (said x)
    ∙ ap (λ lines. before ++ lines) (sym (ap (flat_map said) (take_more xs i x lt ∙ ap (λ last. take i xs ++ last ∷ []) (sym is)) ∙ flat-push said (take i xs) x))
