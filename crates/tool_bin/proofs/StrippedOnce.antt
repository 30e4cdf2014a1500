-- What is stripped once is stripped.
use Rattle.std.proofs.Common.{◌≡◌, ℕ, ◌<◌, ◌^◌, true, List, [], ◌∷◌, length, get_or, Option, Some, None, ◌&&◌, codes, bytes_eq, refl, sym, ap, subst, ◌∙◌, arith}
use Rattle.std.proofs.lemmas.Bool.{and_parts, cond_both, and_from}
use Rattle.std.specs.List.{list_all, AllByRecursion}
use Rattle.std.specs.Option.{option_or}
use Rattle.object_name.specs.Number.{number_of}
use Rattle.text_lines.specs.Lines.{lines_of}
use Rattle.text_lines.specs.Blanks.{words_of}
use Rattle.text_lines.specs.Maybe.{◌>>=◌}
use Rattle.tool_bin.specs.declared.object_builder.ObjectBuilder.{ObjectBuilder}
use Rattle.tool_bin.specs.declared.instruction.Instruction.{Instruction}
use Rattle.tool_bin.specs.declared.object.Object.{Object}
use Rattle.tool_bin.specs.declared.object.Symbol.{Symbol}
use Rattle.tool_bin.specs.ObjectBuilder.{empty_builder, all_symbols, with_label, symbol_with}
use Rattle.tool_bin.specs.Instruction.{instruction_of}
use Rattle.tool_bin.specs.Object.{object_head, executable_head, is_defined, are_new, names_of, are_in_order, object_text, is_well_formed}
use Rattle.tool_bin.specs.ObjectReading.{with_numbered, with_read_code, with_three, with_either, with_words, with_read_lines, three_of, object_of}
use Rattle.tool_bin.specs.Strip.{without_debug, stripped_with, stripped}
use Rattle.tool_bin.specs.Representable.{IsRepresentable}
use Rattle.tool_bin.proofs.TextsReadBack.{IsHead, reads_back, object_is_head, executable_is_head}
use Rattle.tool_bin.proofs.ReadIsRepresentable.{HasCode, instruction_representable, representable_object}
use Rattle.tool_bin.proofs.OneText.{gathered, was_read, is_text}
use Rattle.tool_bin.proofs.OnSome.{OnSome, all_more}

-- ---- instructions in a builder

pub record Coded (a : ObjectBuilder) : Type 0 where
  pub done : AllByRecursion HasCode a.done
  pub last : OnSome HasCode a.last

all_coded : (done : List Symbol) (last : Option Symbol) → AllByRecursion HasCode done → OnSome HasCode last → AllByRecursion HasCode (all_symbols done last)
all_coded done None p q = p
all_coded done (Some s) p q = all_more HasCode done s p q

last_coded : (i : Instruction) (last : Option Symbol) → IsRepresentable i → OnSome HasCode last → OnSome HasCode (symbol_with i last)
last_coded i None representable p = tt
last_coded i (Some s) representable p = all_more IsRepresentable s.code i p representable

label_coded : (name : List ℕ) (a : ObjectBuilder) → Coded a → Coded (with_label name a)
label_coded name a coded = record { done = all_coded a.done a.last coded.done coded.last; last = tt }

numbered_coded : (name : List ℕ) (n : Option ℕ) (a : ObjectBuilder) → Coded a → Coded (with_numbered name n a)
numbered_coded name None a coded = coded
numbered_coded name (Some n) a coded = record { done = coded.done; last = coded.last }

code_coded : (i : Option Instruction) (a : ObjectBuilder) → OnSome IsRepresentable i → Coded a → Coded (with_read_code i a)
code_coded None a representable coded = coded
code_coded (Some i) a representable coded = record { done = coded.done; last = last_coded i a.last representable coded.last }

three_coded : (kind name number : List ℕ) (a : ObjectBuilder) → Coded a → Coded (with_three kind name number a)
three_coded kind name number a coded =
    cond_both (bytes_eq kind (codes "sym")) _ _ Coded (λ _. label_coded name a coded)
    (λ _. cond_both (bytes_eq kind (codes "dbg")) _ _ Coded (λ _. numbered_coded name (number_of number) a coded) (λ _. coded))

either_coded : (three : Option (List ℕ × List ℕ × List ℕ)) (i : Option Instruction) (a : ObjectBuilder) → OnSome IsRepresentable i → Coded a → Coded (with_either three i a)
either_coded None i a representable coded = code_coded i a representable coded
either_coded (Some three) i a representable coded = three_coded three.0 three.1 three.2 a coded

lines_coded : (lines : List (List ℕ)) (a : ObjectBuilder) → Coded a → Coded (with_read_lines lines a)
lines_coded [] a coded = coded
lines_coded (line ∷ lines) a coded =
    lines_coded lines (with_words (words_of line) a) (either_coded (three_of (words_of line)) (instruction_of (words_of line)) a (instruction_representable (words_of line)) coded)

pub gathered_coded : (bytes : List ℕ) → AllByRecursion HasCode (gathered bytes).symbols
gathered_coded bytes =
    let coded = lines_coded (lines_of bytes) empty_builder (record { done = tt; last = tt }) in
    all_coded (with_read_lines (lines_of bytes) empty_builder).done (with_read_lines (lines_of bytes) empty_builder).last coded.done coded.last

-- ---- an object without its debug lines

bare_rules : (o : Object) → is_well_formed o ≡ true → is_well_formed (without_debug o) ≡ true
bare_rules o rules =
    let first = and_parts (list_all is_defined o.symbols) (are_new [] (names_of o.symbols) && are_in_order o.symbols o.debug) rules in
    let second = and_parts (are_new [] (names_of o.symbols)) (are_in_order o.symbols o.debug) first.1 in
    and_from (list_all is_defined o.symbols) (are_new [] (names_of o.symbols) && true) first.0 (and_from (are_new [] (names_of o.symbols)) true second.0 refl)

bare_reads : (head bytes : List ℕ) (o : Object) → IsHead head → object_of head bytes ≡ Some o → length (object_text head (without_debug o)) < 2 ^ 64
    → object_of head (object_text head (without_debug o)) ≡ Some (without_debug o)
bare_reads head bytes o is e short =
    let read = was_read head bytes o e in
    let coded = subst (λ (p : Object). AllByRecursion HasCode p.symbols) read.same (gathered_coded bytes) in
    reads_back head (without_debug o) is (representable_object head (without_debug o) coded tt short) (bare_rules o read.rules)

-- what stripping makes of a text with this first line, and of what it made
chosen_text : (head : List ℕ) (read : Option Object) (text : List ℕ) → (read >>= λ o. Some (object_text head (without_debug o))) ≡ Some text
    → (o : Object) × (read ≡ Some o) × (object_text head (without_debug o) ≡ text)
chosen_text head None text e = absurd cc
chosen_text head (Some o) text e = (o, refl, cc)

again_with : (head source text : List ℕ) → IsHead head → stripped_with head source ≡ Some text → length text < 2 ^ 64 → stripped_with head text ≡ Some text
again_with head source text is e short =
    let made = chosen_text head (object_of head source) text e in
    let bare = bare_reads head source made.0 is made.1 (omega (arith, ap length made.2, short)) in
    let read : object_of head text ≡ Some (without_debug made.0) = ap (object_of head) (sym made.2) ∙ bare in
    ap (λ (r : Option Object). r >>= λ o. Some (object_text head (without_debug o))) read ∙ ap Some made.2

-- ---- no object's text is an executable's

object_byte : (o : Object) → get_or (object_text object_head o) 3 0 ≡ 111
unfolding object_text
object_byte o = refl

executable_byte : (o : Object) → get_or (object_text executable_head o) 3 0 ≡ 101
unfolding object_text
executable_byte o = refl

none_from : (read : Option Object) → ((o : Object) → read ≡ Some o → ⊥) → read ≡ None
none_from None f = refl
none_from (Some o) f = absurd (f o refl)

no_object : (o : Object) → object_of object_head (object_text executable_head o) ≡ None
no_object o = none_from (object_of object_head (object_text executable_head o)) (λ p e.
    let same = is_text object_head (object_text executable_head o) p e in
    let a = object_byte p in
    let b = executable_byte o in
    let c : get_or (object_text executable_head o) 3 0 ≡ get_or (object_text object_head p) 3 0 = ap (λ (v : List ℕ). get_or v 3 0) same in
    omega (arith, a, b, c))

no_strip : (source text : List ℕ) → stripped_with executable_head source ≡ Some text → stripped_with object_head text ≡ None
no_strip source text e =
    let made = chosen_text executable_head (object_of executable_head source) text e in
    ap (λ (r : Option Object). r >>= λ o. Some (object_text object_head (without_debug o))) (ap (object_of object_head) (sym made.2) ∙ no_object (without_debug made.0))

-- ---- either

either_again : (source text : List ℕ) (first : Option (List ℕ)) → stripped_with object_head source ≡ first → option_or first (stripped_with executable_head source) ≡ Some text → length text < 2 ^ 64 → stripped text ≡ Some text
either_again source text None p e short =
    ap (λ (r : Option (List ℕ)). option_or r (stripped_with executable_head text)) (no_strip source text e) ∙ again_with executable_head source text executable_is_head e short
either_again source text (Some made) p e short =
    ap (λ (r : Option (List ℕ)). option_or r (stripped_with executable_head text)) (again_with object_head source text object_is_head (p ∙ e) short)

pub strips_once : (source text : List ℕ) → stripped source ≡ Some text → length text < 2 ^ 64 → stripped text ≡ Some text
strips_once source text e short = either_again source text (stripped_with object_head source) refl e short
