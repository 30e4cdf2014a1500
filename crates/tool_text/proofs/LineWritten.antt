-- A line that is written, against the limit of the output.
use Rattle.std.proofs.Common.{◌≡◌, ℕ, ◌<◌, ◌≤◌, List, [], ◌∷◌, ◌++◌, length, Ok, Err, refl, sym, ap, ◌∙◌, append_assoc, length-append, arith}
use Rattle.std.proofs.lemmas.Bool.{le-leb, lt-leb}
use Rattle.object_name.specs.Name.{max_size}
use Rattle.tool_text.specs.declared.failure.Failure.TheVariants.{OutputTooLong}
use Rattle.tool_text.specs.declared.cpp_fault.CppFault.{CppFault}
use Rattle.tool_text.specs.declared.cpp_fault.CppFault.TheVariants.{Failed, Memory}
use Rattle.tool_text.specs.Expand.{expanded}
use Rattle.tool_text.specs.Preprocess.{State, written}
use Rattle.tool_text.specs.Tries.{Stops, StopsAbove}

written_fails : (line : List ℕ) (state : State) → max_size < length (state.out ++ (expanded state.macros line ++ 10 ∷ [])) → written line state ≡ Err OutputTooLong
unfolding written
written_fails line state above = rw (lt-leb _ _ above) refl

written_fits : (line : List ℕ) (state : State) → length (state.out ++ (expanded state.macros line ++ 10 ∷ [])) ≤ max_size
    → written line state ≡ Ok (record state { out = state.out ++ (expanded state.macros line ++ 10 ∷ []) })
unfolding written
written_fits line state fits = rw (le-leb _ _ fits) refl

-- the whole line, in the two steps in which it is written
joined : (old mid new text : List ℕ) → mid ≡ old ++ text → new ≡ mid ++ 10 ∷ [] → new ≡ old ++ (text ++ 10 ∷ [])
joined old mid new text one two = two ∙ ap (λ (v : List ℕ). v ++ 10 ∷ []) one ∙ append_assoc old text (10 ∷ [])

pub above_fails : (line : List ℕ) (state : State) (fault : CppFault) → StopsAbove (state.out ++ expanded state.macros line) fault → Stops fault (written line state)
above_fails line state (Failed failure) above =
    written_fails line state (omega (arith, above.1, length-append state.out (expanded state.macros line), length-append state.out (expanded state.macros line ++ 10 ∷ []), length-append (expanded state.macros line) (10 ∷ [])))
    ∙ ap Err (sym above.0)
above_fails line state Memory above = tt

pub write_fails : (line : List ℕ) (state : State) (mid new : List ℕ) → mid ≡ state.out ++ expanded state.macros line → new ≡ mid ++ 10 ∷ [] → max_size < length new → written line state ≡ Err OutputTooLong
write_fails line state mid new one two above =
    written_fails line state (omega (arith, above, ap length (joined state.out mid new (expanded state.macros line) one two)))

pub write_fits : (line : List ℕ) (state : State) (mid new : List ℕ) → mid ≡ state.out ++ expanded state.macros line → new ≡ mid ++ 10 ∷ [] → length new ≤ max_size
    → written line state ≡ Ok (record state { out = new })
write_fits line state mid new one two fits =
    let whole = joined state.out mid new (expanded state.macros line) one two in
    written_fits line state (omega (arith, fits, ap length whole)) ∙ ap (λ (v : List ℕ). Ok (record state { out = v })) (sym whole)
