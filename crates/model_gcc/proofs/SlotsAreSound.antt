-- What the words of gcc give: arguments without zero bytes, whose lines are short for the bytes of the words, and operands.
use Rattle.std.proofs.Common.{◌≡◌, ◌≤◌, ℕ, ◌+◌, ◌*◌, Bool, true, false, not, leb, ◌==◌, ◌||◌, List, [], ◌∷◌, ◌++◌, length, length-append, Option, Some, None, refl, sym, ap, subst, ◌∙◌, arith, inl, inr}
use Rattle.std.specs.Prelude.{bytes_eq, codes, nat_eq, Ok, Err}
use Rattle.std.specs.List.{list_all, AllByRecursion}
use Rattle.std.proofs.lemmas.Bool.{and_parts, and_from, cases_Bool, eqb-true, ne_eqb, not_from_false}
use Rattle.std.proofs.lemmas.List.Folds.{list_all-append}
use Rattle.std.proofs.lemmas.List.Sums.{sum_by-append}
use Rattle.std.proofs.lemmas.Option.{same_Some}
use Rattle.text_lines.specs.Maybe.{◌>>◌, test_some}
use Rattle.text_lines.specs.Cuts.{split_at_byte}
use Rattle.text_lines.proofs.PublicLaws.{split_takes}
use Rattle.thunk_codec.specs.Fitting.{args_bound}
use Rattle.thunk_codec.specs.Folder.{folder_of}
use Rattle.thunk_codec.specs.Path.{path_of, is_path}
use Rattle.thunk_codec.specs.Thunk.{has_no_zero, is_identifier, is_letter, is_digit}
use Rattle.thunk_codec.proofs.PublicLaws.{path_is_path}
use Rattle.file_tree.specs.Planning.{◌>>=◌}
use Rattle.model_gcc.specs.declared.gcc_plan.Stop.{Stop}
use Rattle.model_gcc.specs.declared.gcc_plan.Operand.{Operand}
use Rattle.model_gcc.specs.declared.gcc_plan.Operand.TheVariants.{Library}
use Rattle.model_gcc.specs.declared.slots.Slots.{Slots}
use Rattle.model_gcc.specs.declared.word_class.Key.{Key}
use Rattle.model_gcc.specs.declared.word_class.Key.TheVariants.{Output, IncludeFolder, Define, Undefine, LibraryFolder, LibraryName}
use Rattle.model_gcc.specs.declared.word_class.WordClass.{WordClass}
use Rattle.model_gcc.specs.declared.word_class.WordClass.TheVariants.{StopAt, OutputOption, ValueOption, PassedOn, Unmodelled, File}
use Rattle.model_gcc.specs.Checks.{total_length}
use Rattle.model_gcc.specs.Operands.{IsOperand}
use Rattle.model_gcc.specs.Slots.{Reading, no_words, valid, with_value, with_option, with_output, stages_to, with_stop, with_class, with_next, with_word, with_words}
use Rattle.model_gcc.specs.Values.{after_option, is_library_byte, max_library_name, library_name_of, macro_name_of, definition_by, definition_of, passed_word_of, ends, operand_at}
use Rattle.model_gcc.specs.WordClass.{is_passed_on, class_of}
use Rattle.model_gcc.proofs.FoldersAreShort.{folder_short}

-- ---- values

-- an argument without zero bytes that is at most so long
record IsArg (most : ℕ) (arg : List ℕ) : Type 0 where
  short : length arg ≤ most
  no_zero : has_no_zero arg ≡ true

letter_no_zero : (byte : ℕ) → (is_letter byte || is_digit byte) ≡ true → not (byte == 0) ≡ true
letter_no_zero byte h = not_from_false _ (ne_eqb byte 0 (λ is. let none : (is_letter 0 || is_digit 0) ≡ true = subst (λ (v : ℕ). (is_letter v || is_digit v) ≡ true) is h in absurd cc))

letters_no_zero : (bytes : List ℕ) → list_all (λ byte. is_letter byte || is_digit byte) bytes ≡ true → has_no_zero bytes ≡ true
letters_no_zero [] h = refl
letters_no_zero (byte ∷ bytes) h =
    let parts = and_parts (is_letter byte || is_digit byte) _ h in
    and_from _ _ (letter_no_zero byte parts.0) (letters_no_zero bytes parts.1)

or_left : (a b : Bool) → a ≡ true → (a || b) ≡ true
or_left true b h = refl
or_left false b h = absurd cc

identifier_no_zero : (name : List ℕ) → is_identifier name ≡ true → has_no_zero name ≡ true
identifier_no_zero [] h = refl
identifier_no_zero (first ∷ others) h =
    let parts = and_parts (is_letter first) _ h in
    and_from _ _ (letter_no_zero first (or_left _ _ parts.0)) (letters_no_zero others parts.1)

zero-append : (first second : List ℕ) → has_no_zero first ≡ true → has_no_zero second ≡ true → has_no_zero (first ++ second) ≡ true
zero-append first second a b = list_all-append (λ byte. not (byte == 0)) first second ∙ and_from _ _ a b

definition_cut : (value : List ℕ) (cut : Option (List ℕ × List ℕ)) → cut ≡ split_at_byte 61 value → (definition : List ℕ) → definition_by value cut ≡ Some definition → IsArg (2 + length value) definition
definition_cut value None is definition e =
    let a = test_some (is_identifier value) (Some (value ++ codes "=1")) definition e in
    let whole = length-append value (codes "=1") in
    subst (λ (v : List ℕ). IsArg (2 + length value) v) (same_Some (value ++ codes "=1") definition a.1)
    (record { short = omega (arith, whole); no_zero = zero-append value (codes "=1") (identifier_no_zero value a.0) refl })
definition_cut value (Some cut) is definition e =
    let a = test_some (is_identifier cut.0) (has_no_zero cut.1 >> Some value) definition e in
    let b = test_some (has_no_zero cut.1) (Some value) definition a.1 in
    let parts = split_takes 61 value cut (sym is) in
    subst (λ (v : List ℕ). IsArg (2 + length value) v) (same_Some value definition b.1)
    (record { short = omega arith; no_zero = ap has_no_zero parts.0 ∙ zero-append cut.0 (61 ∷ cut.1) (identifier_no_zero cut.0 a.0) b.0 })

definition_is : (value definition : List ℕ) → definition_of value ≡ Some definition → IsArg (2 + length value) definition
unfolding definition_of
definition_is value definition e = definition_cut value (split_at_byte 61 value) refl definition e

macro_name_is : (value name : List ℕ) → macro_name_of value ≡ Some name → IsArg (length value) name
unfolding macro_name_of
macro_name_is value name e =
    let a = test_some (is_identifier value) (Some value) name e in
    subst (λ (v : List ℕ). IsArg (length value) v) (same_Some value name a.1) (record { short = omega arith; no_zero = identifier_no_zero value a.0 })

passed_word_is : (word passed : List ℕ) → passed_word_of word ≡ Some passed → IsArg (length word) passed
unfolding passed_word_of
passed_word_is word passed e =
    let a = test_some (has_no_zero word) (Some word) passed e in
    subst (λ (v : List ℕ). IsArg (length word) v) (same_Some word passed a.1) (record { short = omega arith; no_zero = a.0 })

library_same : (value name : List ℕ) → library_name_of value ≡ Some name → value ≡ name
unfolding library_name_of
library_same value name e =
    let a = test_some (not (bytes_eq value [])) (leb (length value) max_library_name >> (list_all is_library_byte value >> Some value)) name e in
    let b = test_some (leb (length value) max_library_name) (list_all is_library_byte value >> Some value) name a.1 in
    let c = test_some (list_all is_library_byte value) (Some value) name b.1 in
    same_Some value name c.1

library_is : (value name : List ℕ) → library_name_of value ≡ Some name → library_name_of name ≡ Some name
library_is value name e = subst (λ (v : List ℕ). library_name_of v ≡ Some name) (library_same value name e) e

-- the file at a path is an operand
operand_is : (path : List ℕ) → is_path path ≡ true → IsOperand (operand_at path)
unfolding operand_at
operand_is path h =
    elim (cases_Bool (ends path (codes ".c"))) [
      | inl c ↦ rw c h
      | inr c ↦ elim (cases_Bool (ends path (codes ".i"))) [
        | inl i ↦ rw (c, i) h
        | inr i ↦ elim (cases_Bool (ends path (codes ".s"))) [
          | inl s ↦ rw (c, i, s) h
          | inr s ↦ elim (cases_Bool (ends path (codes ".S"))) [
            | inl S ↦ rw (c, i, s, S) h
            | inr S ↦ rw (c, i, s, S) h
          ]
        ]
      ]
    ]

-- ---- what is given so far

-- the bytes that an argument may have before its value is read
pub credit : Option Key → ℕ
credit None = 0
credit (Some key) = 16

-- the lines of the arguments are no longer than eight times the bytes that were read
pub record IsSound (read : ℕ) (given : Slots) : Type 0 where
  pub cpp : list_all has_no_zero given.cpp_words ≡ true
  pub cc : list_all has_no_zero given.cc_words ≡ true
  pub small : args_bound given.cpp_words + args_bound given.cc_words + credit given.waiting ≤ 8 * read
  pub operands : AllByRecursion IsOperand given.operands

-- the same, where nothing is refused
abbrev pub SoundAfter : ℕ → Reading → Type 0
SoundAfter read (Ok given) = IsSound read given
SoundAfter read (Err fault) = Unit {0}

pub sound_first : IsSound 0 no_words
unfolding credit
sound_first = record { cpp = refl; cc = refl; small = omega arith; operands = tt }

-- a value is read next, for which there are 16 bytes
record IsReady (read : ℕ) (given : Slots) : Type 0 where
  cpp : list_all has_no_zero given.cpp_words ≡ true
  cc : list_all has_no_zero given.cc_words ≡ true
  small : args_bound given.cpp_words + args_bound given.cc_words + 16 ≤ 8 * read
  operands : AllByRecursion IsOperand given.operands
  none : given.waiting ≡ None

more : (read size : ℕ) (given : Slots) → IsSound read given → IsSound (read + size) given
more read size given h = record { cpp = h.cpp; cc = h.cc; small = (let small = h.small in omega (arith, small)); operands = h.operands }

args-more : (args : List (List ℕ)) (arg : List ℕ) → args_bound (args ++ arg ∷ []) ≡ args_bound args + (12 + length arg)
args-more args arg = sum_by-append (λ (a : List ℕ). 12 + length a) args (arg ∷ []) ∙ omega arith

all-more : (args : List (List ℕ)) (arg : List ℕ) → list_all has_no_zero args ≡ true → has_no_zero arg ≡ true → list_all has_no_zero (args ++ arg ∷ []) ≡ true
all-more args arg h a = list_all-append has_no_zero args (arg ∷ []) ∙ and_from _ _ h (and_from _ _ a refl)

operands-more : (operands : List Operand) (operand : Operand) → AllByRecursion IsOperand operands → IsOperand operand → AllByRecursion IsOperand (operands ++ operand ∷ [])
operands-more [] operand h o = (o, tt)
operands-more (first ∷ others) operand h o = (h.0, operands-more others operand h.1 o)

-- what is valid goes on
valid_sound : {A : Type 0} (read : ℕ) (given : Slots) (found : Option A) (next : A → Reading) → ((x : A) → found ≡ Some x → SoundAfter read (next x)) → SoundAfter read (valid given found >>= next)
valid_sound read given None next h = tt
valid_sound read given (Some x) next h = h x refl

module _ (read : ℕ) (value : List ℕ) (given : Slots) (h : IsReady read given) where
  -- an option of the preprocessor
  cpp_small : (option arg : List ℕ) → length option ≡ 2 → IsArg (2 + length value) arg
      → args_bound (given.cpp_words ++ (option ++ arg) ∷ []) + args_bound given.cc_words + credit given.waiting ≤ 8 * (read + length value)
  unfolding credit
  cpp_small option arg two a =
      let small = h.small in
      let short = a.short in
      let whole = length-append option arg in
      let all = args-more given.cpp_words (option ++ arg) in
      rw h.none (omega (arith, small, short, whole, two, all))

  cpp_zero : (option arg : List ℕ) → has_no_zero option ≡ true → IsArg (2 + length value) arg → list_all has_no_zero (given.cpp_words ++ (option ++ arg) ∷ []) ≡ true
  cpp_zero option arg z a = all-more given.cpp_words (option ++ arg) h.cpp (zero-append option arg z a.no_zero)

  -- nothing more for the tools
  same_small : args_bound given.cpp_words + args_bound given.cc_words + credit given.waiting ≤ 8 * (read + length value)
  unfolding credit
  same_small = let small = h.small in rw h.none (omega (arith, small))

  value_sound : (key : Key) → SoundAfter (read + length value) (with_value key value given)
  value_sound Output = valid_sound (read + length value) given (path_of value) _ (λ path e. record { cpp = h.cpp; cc = h.cc; small = same_small; operands = h.operands })
  value_sound IncludeFolder = valid_sound (read + length value) given (folder_of value) _ (λ folder e.
      let f = folder_short value folder e in
      let short = f.short in
      let a : IsArg (2 + length value) folder = record { short = omega (arith, short); no_zero = f.no_zero } in
      record { cpp = cpp_zero (codes "-I") folder refl a; cc = h.cc; small = cpp_small (codes "-I") folder refl a; operands = h.operands })
  value_sound Define = valid_sound (read + length value) given (definition_of value) _ (λ definition e.
      let a = definition_is value definition e in
      record { cpp = cpp_zero (codes "-D") definition refl a; cc = h.cc; small = cpp_small (codes "-D") definition refl a; operands = h.operands })
  value_sound Undefine = valid_sound (read + length value) given (macro_name_of value) _ (λ name e.
      let b = macro_name_is value name e in
      let short = b.short in
      let a : IsArg (2 + length value) name = record { short = omega (arith, short); no_zero = b.no_zero } in
      record { cpp = cpp_zero (codes "-U") name refl a; cc = h.cc; small = cpp_small (codes "-U") name refl a; operands = h.operands })
  value_sound LibraryFolder = valid_sound (read + length value) given (folder_of value) _ (λ folder e. record { cpp = h.cpp; cc = h.cc; small = same_small; operands = h.operands })
  value_sound LibraryName = valid_sound (read + length value) given (library_name_of value) _ (λ name e.
      record { cpp = h.cpp; cc = h.cc; small = same_small; operands = operands-more given.operands (Library name) h.operands (library_is value name e) })

-- ---- words

-- the words that give an argument or wait for one have two bytes at least
IsFor : WordClass → ℕ → Type 0
IsFor (StopAt stop) size = Unit {0}
IsFor OutputOption size = 2 ≤ size
IsFor (ValueOption key) size = 2 ≤ size
IsFor PassedOn size = 2 ≤ size
IsFor Unmodelled size = Unit {0}
IsFor File size = Unit {0}

long_for : (class : WordClass) (size : ℕ) → 2 ≤ size → IsFor class size
unfolding IsFor
long_for (StopAt stop) size h = tt
long_for OutputOption size h = h
long_for (ValueOption key) size h = h
long_for PassedOn size h = h
long_for Unmodelled size h = tt
long_for File size h = tt

dash_for : IsFor (class_of (45 ∷ [])) 1
unfolding IsFor class_of is_passed_on
dash_for = tt

other_for : (byte : ℕ) → nat_eq 45 byte ≡ false → nat_eq byte 45 ≡ false → (at : Bool) → nat_eq 64 byte ≡ at → IsFor (class_of (byte ∷ [])) 1
unfolding IsFor class_of is_passed_on
other_for byte no_dash not_dash true at = rw (no_dash, not_dash, at) tt
other_for byte no_dash not_dash false at = rw (no_dash, not_dash, at) tt

one_for : (byte : ℕ) → IsFor (class_of (byte ∷ [])) 1
one_for byte =
    elim (cases_Bool (nat_eq 45 byte)) [
      | inl dash ↦ subst (λ (b : ℕ). IsFor (class_of (b ∷ [])) 1) (eqb-true 45 byte dash) dash_for
      | inr other ↦ other_for byte other (ne_eqb byte 45 (λ is. let same : nat_eq 45 45 ≡ false = subst (λ (b : ℕ). nat_eq 45 b ≡ false) is other in absurd cc)) (nat_eq 64 byte) refl
    ]

class_for : (word : List ℕ) → IsFor (class_of word) (length word)
unfolding IsFor class_of is_passed_on
class_for [] = tt
class_for (byte ∷ []) = one_for byte
class_for (first ∷ second ∷ others) = long_for (class_of (first ∷ second ∷ others)) (length (first ∷ second ∷ others)) (omega arith)

after_option_length : (word : List ℕ) → bytes_eq (after_option word) [] ≡ false → length word ≡ 2 + length (after_option word)
unfolding after_option
after_option_length [] some = absurd cc
after_option_length (byte ∷ []) some = absurd cc
after_option_length (first ∷ second ∷ others) some = omega arith

module _ (read : ℕ) (word : List ℕ) (given : Slots) (h : IsSound read given) (none : given.waiting ≡ None) where
  -- nothing waits, so that the sum has no credit
  sum_small : args_bound given.cpp_words + args_bound given.cc_words ≤ 8 * read
  unfolding credit
  sum_small = let small : args_bound given.cpp_words + args_bound given.cc_words + credit None ≤ 8 * read = subst (λ (v : Option Key). args_bound given.cpp_words + args_bound given.cc_words + credit v ≤ 8 * read) none h.small in omega (arith, small)

  ready : IsReady (read + 2) given
  ready = record { cpp = h.cpp; cc = h.cc; small = (let small = sum_small in omega (arith, small)); operands = h.operands; none = none }

  option_sound : (key : Key) → 2 ≤ length word → SoundAfter (read + length word) (with_option key (after_option word) given)
  unfolding credit
  option_sound key long =
      elim (cases_Bool (bytes_eq (after_option word) [])) [
        | inl waits ↦ rw waits (record { cpp = h.cpp; cc = h.cc; small = (let small = sum_small in omega (arith, small, long)); operands = h.operands })
        | inr joined ↦ rw joined (let size = after_option_length word joined in let same : read + 2 + length (after_option word) ≡ read + length word = omega (arith, size) in
            subst (λ (n : ℕ). SoundAfter n (with_value key (after_option word) given)) same (value_sound (read + 2) (after_option word) given ready key))
      ]

stop_sound : (read : ℕ) (earlier : Option Stop) (stop : Stop) (given : Slots) → IsSound read given → SoundAfter read (with_stop earlier stop given)
stop_sound read None stop given h = record { cpp = h.cpp; cc = h.cc; small = h.small; operands = h.operands }
stop_sound read (Some earlier) stop given h =
    elim (cases_Bool (stages_to earlier == stages_to stop)) [ inl same ↦ rw same h | inr other ↦ rw other tt ]

output_sound : (read : ℕ) (earlier : Option ℕ) (word : List ℕ) (given : Slots) → IsSound read given → given.waiting ≡ None → 2 ≤ length word
    → SoundAfter (read + length word) (with_output earlier (after_option word) given)
output_sound read None word given h none long =
    option_sound read word (record given { output_at = Some given.at }) (record { cpp = h.cpp; cc = h.cc; small = h.small; operands = h.operands }) none Output long
output_sound read (Some earlier) word given h none long = tt

class_sound : (class : WordClass) (read : ℕ) (word : List ℕ) (given : Slots) → IsSound read given → given.waiting ≡ None → IsFor class (length word)
    → SoundAfter (read + length word) (with_class class word given)
unfolding IsFor credit
class_sound (StopAt stop) read word given h none long = stop_sound (read + length word) given.stop stop given (more read (length word) given h)
class_sound OutputOption read word given h none long = output_sound read given.output_at word given h none long
class_sound (ValueOption key) read word given h none long = option_sound read word given h none key long
class_sound PassedOn read word given h none long =
    valid_sound (read + length word) given (passed_word_of word) _ (λ passed e.
    let a = passed_word_is word passed e in
    let short = a.short in
    let small = sum_small read word given h none in
    let all = args-more given.cc_words passed in
    record { cpp = h.cpp; cc = all-more given.cc_words passed h.cc a.no_zero; small = rw none (omega (arith, short, small, all, long)); operands = h.operands })
class_sound Unmodelled read word given h none long = tt
class_sound File read word given h none long =
    valid_sound (read + length word) given (path_of word) _ (λ path e.
    let m = more read (length word) given h in
    record { cpp = m.cpp; cc = m.cc; small = m.small; operands = operands-more given.operands (operand_at path) m.operands (operand_is path (path_is_path word path e)) })

next_sound : (waiting : Option Key) (read : ℕ) (word : List ℕ) (given : Slots) → waiting ≡ given.waiting → IsSound read given → SoundAfter (read + length word) (with_next waiting word given)
unfolding credit
next_sound None read word given is h = class_sound (class_of word) read word given h (sym is) (class_for word)
next_sound (Some key) read word given is h =
    let small : args_bound given.cpp_words + args_bound given.cc_words + credit (Some key) ≤ 8 * read = subst (λ (v : Option Key). args_bound given.cpp_words + args_bound given.cc_words + credit v ≤ 8 * read) (sym is) h.small in
    value_sound read word (record given { waiting = None }) (record { cpp = h.cpp; cc = h.cc; small = small; operands = h.operands; none = refl }) key

word_sound : (read : ℕ) (word : List ℕ) (given : Slots) → IsSound read given → SoundAfter (read + length word) (with_word word given)
unfolding with_word
word_sound read word given h = next_sound given.waiting read word _ refl (record { cpp = h.cpp; cc = h.cc; small = h.small; operands = h.operands })

-- a word, and then others
then_sound : (read : ℕ) (words : List (List ℕ)) (step : Reading) → ((given : Slots) → step ≡ Ok given → SoundAfter read (with_words words given)) → SoundAfter read (step >>= λ given. with_words words given)
then_sound read words (Ok given) h = h given refl
then_sound read words (Err fault) h = tt

pub words_sound : (read : ℕ) (words : List (List ℕ)) (given : Slots) → IsSound read given → SoundAfter (read + total_length words) (with_words words given)
words_sound read [] given h = more read 0 given h
words_sound read (word ∷ words) given h =
    then_sound (read + total_length (word ∷ words)) words (with_word word given) (λ next e.
    let one : SoundAfter (read + length word) (Ok next) = subst (λ (v : Reading). SoundAfter (read + length word) v) e (word_sound read word given h) in
    let same : read + length word + total_length words ≡ read + total_length (word ∷ words) = omega arith in
    subst (λ (n : ℕ). SoundAfter n (with_words words next)) same (words_sound (read + length word) words next one))
