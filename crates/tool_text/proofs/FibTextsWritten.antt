-- What is appended piece by piece is the text of a thunk, and is short.
use Rattle.std.proofs.Common.{◌≡◌, ℕ, ◌^◌, ◌<◌, ◌≤◌, List, [], ◌∷◌, ◌++◌, length, sym, ap, ◌∙◌, append_assoc, append-nil, length-append, arith}
use Rattle.std.specs.Prelude.{codes, decimal}
use Rattle.std.proofs.lemmas.Fmt.{length-decimal-le, decimal_digit}
use Rattle.object_name.specs.Name.{ObjectName, IsName, max_size, spelling}
use Rattle.object_name.proofs.PublicLaws.{length-spelling}
use Rattle.thunk_codec.specs.Thunk.{text_of, counted, line, head_line, end_line}
use Rattle.tool_text.specs.declared.fib_thunks.Asked.{Asked}
use Rattle.tool_text.specs.Fib.{fib_thunk, sum_thunk}

-- the pieces of these texts
abbrev pub prefix : List ℕ
prefix = codes "gg-thunk 1" ++ 10 ∷ codes "f "

abbrev pub before_number : List ℕ
before_number = 10 ∷ codes "a "

abbrev pub before_input : List ℕ
before_input = 10 ∷ codes "i 3:add "

abbrev pub fib_end : List ℕ
fib_end = 10 ∷ codes "o 3:out" ++ 10 ∷ codes "o 4:left" ++ 10 ∷ codes "o 5:right" ++ 10 ∷ codes "end" ++ 10 ∷ []

abbrev pub before_first : List ℕ
before_first = 10 ∷ codes "i 1:a "

abbrev pub before_second : List ℕ
before_second = codes "#0" ++ 10 ∷ codes "i 1:b "

abbrev pub sum_end : List ℕ
sum_end = codes "#0" ++ 10 ∷ codes "o 3:out" ++ 10 ∷ codes "end" ++ 10 ∷ []

-- seven pieces, one after another
in_line : (a b c d e f g t0 t1 t2 t3 t4 t5 t6 : List ℕ) → t0 ≡ a → t1 ≡ t0 ++ b → t2 ≡ t1 ++ c → t3 ≡ t2 ++ d → t4 ≡ t3 ++ e → t5 ≡ t4 ++ f → t6 ≡ t5 ++ g
    → t6 ≡ a ++ (b ++ (c ++ (d ++ (e ++ (f ++ g)))))
in_line a b c d e f g t0 t1 t2 t3 t4 t5 t6 h0 h1 h2 h3 h4 h5 h6 =
    h6 ∙ ap (λ (v : List ℕ). v ++ g) (h5 ∙ ap (λ (v : List ℕ). v ++ f) (h4 ∙ ap (λ (v : List ℕ). v ++ e) (h3 ∙ ap (λ (v : List ℕ). v ++ d)
    (h2 ∙ ap (λ (v : List ℕ). v ++ c) (h1 ∙ ap (λ (v : List ℕ). v ++ b) h0)))))
    ∙ joined a b c d e f g
  where
    joined : (a b c d e f g : List ℕ) → (((((a ++ b) ++ c) ++ d) ++ e) ++ f) ++ g ≡ a ++ (b ++ (c ++ (d ++ (e ++ (f ++ g)))))
    joined a b c d e f g = simp append_assoc

-- a line that was alone, before others
ended : (said others : List ℕ) → ((said ++ 10 ∷ []) ++ []) ++ others ≡ said ++ 10 ∷ others
ended said others = ap (λ (v : List ℕ). v ++ others) (append-nil (said ++ 10 ∷ [])) ∙ append_assoc said (10 ∷ []) others

-- the lines of these texts, with any digits for lengths
abbrev fib_lines : List ℕ → List ℕ → List ℕ → List ℕ → List ℕ → List ℕ → List ℕ
fib_lines function number add three four five =
    head_line ++ (line 102 function ++ ((line 97 number ++ []) ++ ([] ++ ((line 105 ((three ++ 58 ∷ codes "add") ++ 32 ∷ add) ++ [])
    ++ ((line 111 (three ++ 58 ∷ codes "out") ++ (line 111 (four ++ 58 ∷ codes "left") ++ (line 111 (five ++ 58 ∷ codes "right") ++ []))) ++ end_line)))))

abbrev sum_lines : List ℕ → List ℕ → List ℕ → List ℕ → List ℕ → List ℕ → List ℕ
sum_lines add left right zero one three =
    head_line ++ (line 102 add ++ ([] ++ ([] ++ ((line 105 ((one ++ 58 ∷ codes "a") ++ 32 ∷ (left ++ 35 ∷ zero)) ++ (line 105 ((one ++ 58 ∷ codes "b") ++ 32 ∷ (right ++ 35 ∷ zero)) ++ []))
    ++ ((line 111 (three ++ 58 ∷ codes "out") ++ []) ++ end_line)))))

abbrev fib_outputs_lines : List ℕ
fib_outputs_lines = codes "o 3:out" ++ 10 ∷ codes "o 4:left" ++ 10 ∷ codes "o 5:right" ++ 10 ∷ codes "end" ++ 10 ∷ []

abbrev fib_input_lines : List ℕ → List ℕ
fib_input_lines add = codes "i 3:add " ++ (((add ++ 10 ∷ []) ++ []) ++ fib_outputs_lines)

fib_in_line : (function number add three four five : List ℕ) → three ≡ codes "3" → four ≡ codes "4" → five ≡ codes "5"
    → fib_lines function number add three four five ≡ prefix ++ (function ++ (before_number ++ (number ++ (before_input ++ (add ++ fib_end)))))
fib_in_line function number add three four five is_three is_four is_five =
    rw (is_three, is_four, is_five)
    (ap (λ (v : List ℕ). prefix ++ v) (append_assoc function (10 ∷ []) (codes "a " ++ (((number ++ 10 ∷ []) ++ []) ++ fib_input_lines add))
    ∙ ap (λ (v : List ℕ). function ++ (before_number ++ v)) (ended number (fib_input_lines add)
    ∙ ap (λ (v : List ℕ). number ++ (before_input ++ v)) (ended add fib_outputs_lines))))

abbrev sum_output_line : List ℕ
sum_output_line = codes "o 3:out" ++ 10 ∷ codes "end" ++ 10 ∷ []

-- the two inputs of a sum, before other lines
two_inputs : (left right others : List ℕ) → (((left ++ codes "#0") ++ 10 ∷ []) ++ (codes "i 1:b " ++ (((right ++ codes "#0") ++ 10 ∷ []) ++ []))) ++ others
    ≡ left ++ (before_second ++ (right ++ (codes "#0" ++ 10 ∷ others)))
two_inputs left right others = parts left (codes "#0") (10 ∷ []) (codes "i 1:b ") right others
  where
    parts : (left place feed mark right others : List ℕ) → (((left ++ place) ++ feed) ++ (mark ++ (((right ++ place) ++ feed) ++ []))) ++ others
        ≡ left ++ (place ++ (feed ++ (mark ++ (right ++ (place ++ (feed ++ others))))))
    parts left place feed mark right others = simp (append_assoc, append-nil)

sum_in_line : (add left right zero one three : List ℕ) → zero ≡ codes "0" → one ≡ codes "1" → three ≡ codes "3"
    → sum_lines add left right zero one three ≡ prefix ++ (add ++ (before_first ++ (left ++ (before_second ++ (right ++ sum_end)))))
sum_in_line add left right zero one three is_zero is_one is_three =
    rw (is_zero, is_one, is_three)
    (ap (λ (v : List ℕ). prefix ++ v) (append_assoc add (10 ∷ []) (codes "i 1:a " ++ ((((left ++ codes "#0") ++ 10 ∷ []) ++ (codes "i 1:b " ++ (((right ++ codes "#0") ++ 10 ∷ []) ++ []))) ++ sum_output_line))
    ∙ ap (λ (v : List ℕ). add ++ (before_first ++ v)) (two_inputs left right sum_output_line)))

-- the text of a thunk of the card `fib`
pub fib_text_is : (asked : Asked) (n : ℕ) → text_of (fib_thunk asked n) ≡ prefix ++ (spelling asked.function ++ (before_number ++ (counted (decimal n) ++ (before_input ++ (spelling asked.add ++ fib_end)))))
unfolding text_of
fib_text_is asked n =
    fib_in_line (spelling asked.function) (counted (decimal n)) (spelling asked.add) (decimal 3) (decimal 4) (decimal 5)
    (decimal_digit 3 (omega arith)) (decimal_digit 4 (omega arith)) (decimal_digit 5 (omega arith))

-- the text of a sum
pub sum_text_is : (asked : Asked) (left right : ObjectName) → text_of (sum_thunk asked left right) ≡ prefix ++ (spelling asked.add ++ (before_first ++ (spelling left ++ (before_second ++ (spelling right ++ sum_end)))))
unfolding text_of
sum_text_is asked left right =
    sum_in_line (spelling asked.add) (spelling left) (spelling right) (decimal 0) (decimal 1) (decimal 3)
    (decimal_digit 0 (omega arith)) (decimal_digit 1 (omega arith)) (decimal_digit 3 (omega arith))

pub fib_written : (asked : Asked) (n : ℕ) (t0 t1 t2 t3 t4 t5 t6 : List ℕ) → t0 ≡ prefix → t1 ≡ t0 ++ spelling asked.function → t2 ≡ t1 ++ before_number → t3 ≡ t2 ++ counted (decimal n)
    → t4 ≡ t3 ++ before_input → t5 ≡ t4 ++ spelling asked.add → t6 ≡ t5 ++ fib_end → t6 ≡ text_of (fib_thunk asked n)
fib_written asked n t0 t1 t2 t3 t4 t5 t6 h0 h1 h2 h3 h4 h5 h6 =
    in_line prefix (spelling asked.function) before_number (counted (decimal n)) before_input (spelling asked.add) fib_end t0 t1 t2 t3 t4 t5 t6 h0 h1 h2 h3 h4 h5 h6 ∙ sym (fib_text_is asked n)

pub sum_written : (asked : Asked) (left right : ObjectName) (t0 t1 t2 t3 t4 t5 t6 : List ℕ) → t0 ≡ prefix → t1 ≡ t0 ++ spelling asked.add → t2 ≡ t1 ++ before_first → t3 ≡ t2 ++ spelling left
    → t4 ≡ t3 ++ before_second → t5 ≡ t4 ++ spelling right → t6 ≡ t5 ++ sum_end → t6 ≡ text_of (sum_thunk asked left right)
sum_written asked left right t0 t1 t2 t3 t4 t5 t6 h0 h1 h2 h3 h4 h5 h6 =
    in_line prefix (spelling asked.add) before_first (spelling left) before_second (spelling right) sum_end t0 t1 t2 t3 t4 t5 t6 h0 h1 h2 h3 h4 h5 h6 ∙ sym (sum_text_is asked left right)

-- a number with the number of its digits is at most 41 bytes
length-counted : (n : ℕ) → n < 2 ^ 64 → length (counted (decimal n)) ≤ 41
length-counted n fits =
    let digits = length-decimal-le 20 n (omega arith) (omega (arith, fits)) fits in
    let number = length-decimal-le 20 (length (decimal n)) (omega arith) (omega (arith, digits)) (omega (arith, digits)) in
    omega (arith, digits, number, length-append (decimal (length (decimal n))) (58 ∷ decimal n))

-- such a text is short
pub fib_is_short : (asked : Asked) (n : ℕ) (text : List ℕ) → n < 2 ^ 64 → IsName asked.function → IsName asked.add → text ≡ text_of (fib_thunk asked n) → length text ≤ max_size
fib_is_short asked n text fits function add is =
    let whole : length text ≡ length (prefix ++ (spelling asked.function ++ (before_number ++ (counted (decimal n) ++ (before_input ++ (spelling asked.add ++ fib_end))))))
    = ap length (is ∙ fib_text_is asked n) in
    let a = length-append (spelling asked.function) (before_number ++ (counted (decimal n) ++ (before_input ++ (spelling asked.add ++ fib_end)))) in
    let b = length-append (counted (decimal n)) (before_input ++ (spelling asked.add ++ fib_end)) in
    let d = length-append (spelling asked.add) fib_end in
    omega (arith, whole, a, b, d, length-spelling asked.function function, length-spelling asked.add add, length-counted n fits)

pub sum_is_short : (asked : Asked) (left right : ObjectName) → IsName asked.add → IsName left → IsName right → length (text_of (sum_thunk asked left right)) ≤ max_size
sum_is_short asked left right add first second =
    let whole = ap length (sum_text_is asked left right) in
    let a = length-append (spelling asked.add) (before_first ++ (spelling left ++ (before_second ++ (spelling right ++ sum_end)))) in
    let b = length-append (spelling left) (before_second ++ (spelling right ++ sum_end)) in
    let d = length-append (spelling right) sum_end in
    omega (arith, whole, a, b, d, length-spelling asked.add add, length-spelling left first, length-spelling right second)
