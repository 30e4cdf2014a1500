-- What is read from a text has names that are identifiers and numbers below 2 ^ 64.
use Rattle.std.proofs.Common.{◌≡◌, ℕ, ◌<◌, ◌≤◌, ◌^◌, ◌-◌, true, List, [], ◌∷◌, ◌++◌, length, take, length-append, Option, Some, None, codes, decimal, nat_eq, bytes_eq, arith}
use Rattle.std.specs.List.{flat_map, ends_with, AllByRecursion}
use Rattle.object_name.specs.Number.{number_of}
use Rattle.object_name.proofs.PublicLaws.{decimal-number_of}
use Rattle.text_lines.specs.Lines.{lines_of}
use Rattle.text_lines.specs.Blanks.{words_of}
use Rattle.thunk_codec.specs.Thunk.{is_identifier}
use Rattle.tool_bin.specs.declared.object_builder.ObjectBuilder.{ObjectBuilder}
use Rattle.tool_bin.specs.declared.instruction.Instruction.{Instruction}
use Rattle.tool_bin.specs.declared.object.Object.{Object}
use Rattle.tool_bin.specs.declared.object.Symbol.{Symbol}
use Rattle.tool_bin.specs.declared.statement.Statement.{Statement}
use Rattle.tool_bin.specs.declared.statement.Statement.TheVariants.{Label, Location, Code}
use Rattle.tool_bin.specs.Assemble as text
use Rattle.tool_bin.specs.ObjectBuilder.{empty_builder, all_symbols, with_label, with_instruction, symbol_with, with_debug, object_in}
use Rattle.tool_bin.specs.Instruction.{instruction_text, plain_of, push_of, call_of, operated_of, instruction_of}
use Rattle.tool_bin.specs.Object.{object_head, line, symbol_text, debug_text, object_text, is_well_formed}
use Rattle.tool_bin.specs.ObjectReading.{object_of}
use Rattle.tool_bin.specs.Representable.{IsRepresentable, IsRepresentableSymbol, IsRepresentableDebug, IsRepresentableObject}
use Rattle.tool_bin.proofs.TextsReadBack.{reads_back, object_is_head}
use Rattle.tool_bin.proofs.OnSome.{OnSome, on_if, on_either, on_or, on_step, at_some, all_more}

-- ---- instructions

plain_representable : (word : List ℕ) → OnSome IsRepresentable (plain_of word)
unfolding plain_of
plain_representable word =
    on_either IsRepresentable (bytes_eq word (codes "add")) _ _ tt
    (on_either IsRepresentable (bytes_eq word (codes "sub")) _ _ tt
    (on_either IsRepresentable (bytes_eq word (codes "mul")) _ _ tt
    (on_either IsRepresentable (bytes_eq word (codes "print")) _ _ tt
    (on_either IsRepresentable (bytes_eq word (codes "ret")) _ _ tt tt))))

push_representable : (operand : List ℕ) → OnSome IsRepresentable (push_of operand)
push_representable operand = on_step IsRepresentable (number_of operand) _ (λ n e. (decimal-number_of operand n e).0)

call_representable : (operand : List ℕ) → OnSome IsRepresentable (call_of operand)
call_representable operand = on_if IsRepresentable (is_identifier operand) _ (λ e. e)

operated_representable : (word operand : List ℕ) → OnSome IsRepresentable (operated_of word operand)
unfolding operated_of
operated_representable word operand =
    on_either IsRepresentable (bytes_eq word (codes "push")) _ _ (push_representable operand)
    (on_either IsRepresentable (bytes_eq word (codes "call")) _ _ (call_representable operand) tt)

pub instruction_representable : (words : List (List ℕ)) → OnSome IsRepresentable (instruction_of words)
instruction_representable [] = tt
instruction_representable (word ∷ []) = plain_representable word
instruction_representable (word ∷ operand ∷ []) = operated_representable word operand
instruction_representable (word ∷ operand ∷ other ∷ others) = tt

-- ---- statements

abbrev pub IsRepresentableStatement : Statement → Type 0
IsRepresentableStatement (Label name) = is_identifier name ≡ true
IsRepresentableStatement (Location number) = number < 2 ^ 64
IsRepresentableStatement (Code instruction) = IsRepresentable instruction

label_representable : (words : List (List ℕ)) → OnSome IsRepresentableStatement (text.label_of words)
label_representable [] = tt
label_representable (word ∷ []) = on_if IsRepresentableStatement (ends_with nat_eq word (58 ∷ [])) _ (λ a. on_if IsRepresentableStatement (is_identifier (take (length word - 1) word)) _ (λ b. b))
label_representable (word ∷ other ∷ others) = tt

location_representable : (words : List (List ℕ)) → OnSome IsRepresentableStatement (text.location_of words)
location_representable [] = tt
location_representable (word ∷ []) = tt
location_representable (word ∷ number ∷ []) = on_if IsRepresentableStatement (bytes_eq word (codes ".loc")) _ (λ a. on_step IsRepresentableStatement (number_of number) _ (λ n e. (decimal-number_of number n e).0))
location_representable (word ∷ number ∷ other ∷ others) = tt

code_representable : (words : List (List ℕ)) → OnSome IsRepresentableStatement (text.code_of words)
code_representable words = on_step IsRepresentableStatement (instruction_of words) _ (λ i e. at_some IsRepresentable (instruction_of words) i (instruction_representable words) e)

statement_representable : (words : List (List ℕ)) → OnSome IsRepresentableStatement (text.statement_of words)
statement_representable words = on_or IsRepresentableStatement (text.label_of words) _ (label_representable words) (on_or IsRepresentableStatement (text.location_of words) _ (location_representable words) (code_representable words))

-- ---- builders

-- a symbol whose instructions are so
abbrev pub HasCode : Symbol → Type 0
HasCode s = AllByRecursion IsRepresentable s.code

-- the last symbol of a builder
pub record IsLast (s : Symbol) : Type 0 where
  pub name : is_identifier s.name ≡ true
  pub code : HasCode s

pub record Sound (a : ObjectBuilder) : Type 0 where
  pub done : AllByRecursion HasCode a.done
  pub last : OnSome IsLast a.last
  pub debug : AllByRecursion IsRepresentableDebug a.debug

all_sound : (done : List Symbol) (last : Option Symbol) → AllByRecursion HasCode done → OnSome IsLast last → AllByRecursion HasCode (all_symbols done last)
all_sound done None p q = p
all_sound done (Some s) p q = all_more HasCode done s p q.code

label_sound : (name : List ℕ) (a : ObjectBuilder) → is_identifier name ≡ true → Sound a → Sound (with_label name a)
label_sound name a named sound = record { done = all_sound a.done a.last sound.done sound.last; last = record { name = named; code = tt }; debug = sound.debug }

last_sound : (i : Instruction) (last : Option Symbol) → IsRepresentable i → OnSome IsLast last → OnSome IsLast (symbol_with i last)
last_sound i None representable p = tt
last_sound i (Some s) representable p = record { name = p.name; code = all_more IsRepresentable s.code i p.code representable }

code_sound : (i : Instruction) (a : ObjectBuilder) → IsRepresentable i → Sound a → Sound (with_instruction i a)
code_sound i a representable sound = record { done = sound.done; last = last_sound i a.last representable sound.last; debug = sound.debug }

debug_sound : (name : List ℕ) (n : ℕ) (a : ObjectBuilder) → is_identifier name ≡ true → n < 2 ^ 64 → Sound a → Sound (with_debug name n a)
debug_sound name n a named fits sound = record { done = sound.done; last = sound.last; debug = all_more IsRepresentableDebug a.debug (record { name = name; number = n }) sound.debug (record { name = named; number = fits }) }

location_step : (n : ℕ) (last : Option Symbol) (a : ObjectBuilder) → n < 2 ^ 64 → OnSome IsLast last → Sound a → OnSome Sound (text.with_location n last a)
location_step n None a fits p sound = tt
location_step n (Some s) a fits p sound = debug_sound s.name n a p.name fits sound

code_step : (i : Instruction) (last : Option Symbol) (a : ObjectBuilder) → IsRepresentable i → Sound a → OnSome Sound (text.with_code i last a)
code_step i None a representable sound = tt
code_step i (Some s) a representable sound = code_sound i a representable sound

statement_step : (s : Statement) (a : ObjectBuilder) → IsRepresentableStatement s → Sound a → OnSome Sound (text.with_statement s a)
statement_step (Label name) a representable sound = label_sound name a representable sound
statement_step (Location n) a representable sound = location_step n a.last a representable sound.last sound
statement_step (Code i) a representable sound = code_step i a.last a representable sound

line_step : (words : List (List ℕ)) (a : ObjectBuilder) → Sound a → OnSome Sound (text.with_line words a)
line_step [] a sound = sound
line_step (word ∷ words) a sound = on_step Sound (text.statement_of (word ∷ words)) _ (λ s e. statement_step s a (at_some IsRepresentableStatement (text.statement_of (word ∷ words)) s (statement_representable (word ∷ words)) e) sound)

lines_step : (lines : List (List ℕ)) (a : ObjectBuilder) → Sound a → OnSome Sound (text.with_lines lines a)
lines_step [] a sound = sound
lines_step (line ∷ lines) a sound = on_step Sound (text.with_line (words_of line) a) _ (λ more e. lines_step lines more (at_some Sound (text.with_line (words_of line) a) more (line_step (words_of line) a sound) e))

nothing_sound : Sound empty_builder
nothing_sound = record { done = tt; last = tt; debug = tt }

-- ---- objects

-- what an object that was put together keeps
pub record IsSound (o : Object) : Type 0 where
  pub rules : is_well_formed o ≡ true
  pub symbols : AllByRecursion HasCode o.symbols
  pub debug : AllByRecursion IsRepresentableDebug o.debug

assembled_sound : (source : List ℕ) → OnSome IsSound (text.assembled source)
unfolding text.assembled
assembled_sound source = on_step IsSound (text.with_lines (lines_of source) empty_builder) _ (λ a e.
    let sound = at_some Sound (text.with_lines (lines_of source) empty_builder) a (lines_step (lines_of source) empty_builder nothing_sound) e in
    on_if IsSound (is_well_formed (object_in a)) _ (λ r. record { rules = r; symbols = all_sound a.done a.last sound.done sound.last; debug = sound.debug }))

-- ---- numbers of instructions

code_short : (code : List Instruction) → length code ≤ length (flat_map (λ i. line (instruction_text i)) code)
code_short [] = omega arith
code_short (i ∷ code) = omega (arith, code_short code, length-append (line (instruction_text i)) (flat_map (λ j. line (instruction_text j)) code), length-append (instruction_text i) (10 ∷ []))

symbol_short : (head : List ℕ) (code : List Instruction) → length code ≤ length (head ++ flat_map (λ i. line (instruction_text i)) code)
symbol_short head code = omega (arith, code_short code, length-append head (flat_map (λ i. line (instruction_text i)) code))

representable_symbols : (symbols : List Symbol) → AllByRecursion HasCode symbols → length (flat_map symbol_text symbols) < 2 ^ 64 → AllByRecursion IsRepresentableSymbol symbols
representable_symbols [] p short = tt
representable_symbols (s ∷ symbols) p short =
    let parts = length-append (symbol_text s) (flat_map symbol_text symbols) in
    let first : length s.code ≤ length (symbol_text s) = symbol_short (line (codes "sym " ++ (s.name ++ 32 ∷ decimal (length s.code)))) s.code in
    (record { code = p.0; count = omega (arith, first, parts, short) }, representable_symbols symbols p.1 (omega (arith, parts, short)))

symbols_short : (head : List ℕ) (o : Object) → length (flat_map symbol_text o.symbols) ≤ length (object_text head o)
unfolding object_text
symbols_short head o =
    let rest = flat_map debug_text o.debug ++ line (codes "end") in
    omega (arith, length-append (line head) (flat_map symbol_text o.symbols ++ rest), length-append (flat_map symbol_text o.symbols) rest)

pub representable_object : (head : List ℕ) (o : Object) → AllByRecursion HasCode o.symbols → AllByRecursion IsRepresentableDebug o.debug → length (object_text head o) < 2 ^ 64 → IsRepresentableObject o
representable_object head o symbols debug short = record { symbols = representable_symbols o.symbols symbols (omega (arith, symbols_short head o, short)); debug = debug }

pub assembled_reads : (source : List ℕ) (o : Object) → text.assembled source ≡ Some o → length (object_text object_head o) < 2 ^ 64 → object_of object_head (object_text object_head o) ≡ Some o
assembled_reads source o e short =
    let sound = at_some IsSound (text.assembled source) o (assembled_sound source) e in
    reads_back object_head o object_is_head (representable_object object_head o sound.symbols sound.debug short) sound.rules
