-- An object is read back from its text.
use Rattle.std.proofs.Common.{◌≡◌, ℕ, ◌<◌, ◌^◌, true, List, [], ◌∷◌, ◌++◌, length, append_assoc, Option, Some, None, ◌&&◌, codes, decimal, refl, sym, ap, ◌∙◌}
use Rattle.std.proofs.lemmas.Bool.{and_parts, and_from}
use Rattle.std.proofs.lemmas.List.{append-nil}
use Rattle.std.proofs.lemmas.List.Folds.{list_all-append}
use Rattle.std.specs.List.{flat_map, list_all, AllByRecursion}
use Rattle.object_name.proofs.PublicLaws.{number_of-decimal}
use Rattle.text_lines.specs.Lines.{lines_of}
use Rattle.text_lines.specs.Blanks.{words_of}
use Rattle.text_lines.specs.Maybe.{◌>>=◌}
use Rattle.thunk_codec.specs.Thunk.{is_identifier}
use Rattle.tool_bin.specs.declared.object_builder.ObjectBuilder.{ObjectBuilder}
use Rattle.tool_bin.specs.declared.instruction.Instruction.{Instruction}
use Rattle.tool_bin.specs.declared.instruction.Instruction.TheVariants.{Push, Add, Subtract, Multiply, Print, Call, Return}
use Rattle.tool_bin.specs.declared.object.DebugLine.{DebugLine}
use Rattle.tool_bin.specs.declared.object.Object.{Object}
use Rattle.tool_bin.specs.declared.object.Symbol.{Symbol}
use Rattle.tool_bin.specs.ObjectBuilder.{empty_builder, all_symbols, with_label, with_instruction, with_debug, object_in}
use Rattle.tool_bin.specs.Instruction.{instruction_text, plain_of, operated_of, instruction_of}
use Rattle.tool_bin.specs.Object.{object_head, executable_head, line, symbol_text, debug_text, object_text, has_code, is_defined, names_of, are_new, are_in_order, is_well_formed}
use Rattle.tool_bin.specs.ObjectReading.{with_numbered, with_read_code, with_either, with_words, with_read_lines, three_of, object_of}
use Rattle.tool_bin.specs.Representable.{IsRepresentable, IsRepresentableSymbol, IsRepresentableDebug, IsRepresentableObject}
use Rattle.tool_bin.proofs.WordsReadBack.{is_no_feed, no_feeds, line_first, word_first, word_last, plain_number, some_number, plain_identifier, some_identifier}
use Rattle.tool_bin.proofs.OneText.{gathered, reads}

-- ---- a line

one_line : (said rest : List ℕ) (a : ObjectBuilder) → list_all is_no_feed said ≡ true → with_read_lines (lines_of (line said ++ rest)) a ≡ with_read_lines (lines_of rest) (with_words (words_of said) a)
one_line said rest a p = ap (λ (ls : List (List ℕ)). with_read_lines ls a) (line_first said rest p)

prefix_line : (said more rest : List ℕ) (a b : ObjectBuilder) → list_all is_no_feed said ≡ true → with_words (words_of said) a ≡ b
    → with_read_lines (lines_of ((line said ++ more) ++ rest)) a ≡ with_read_lines (lines_of (more ++ rest)) b
prefix_line said more rest a b p q =
    ap (λ (t : List ℕ). with_read_lines (lines_of t) a) (append_assoc (line said) more rest) ∙ (one_line said (more ++ rest) a p ∙ ap (with_read_lines (lines_of (more ++ rest))) q)

-- ---- instructions

pub number_words : (n : ℕ) → n < 2 ^ 64 → words_of (decimal n) ≡ decimal n ∷ []
number_words n fits = word_last (decimal n) (plain_number n fits) (some_number n fits)

pub name_words : (name : List ℕ) → is_identifier name ≡ true → words_of name ≡ name ∷ []
name_words name p = word_last name (plain_identifier name p) (some_identifier name p)

push_reads : (n : ℕ) → n < 2 ^ 64 → operated_of (codes "push") (decimal n) ≡ Some (Push n)
unfolding operated_of
push_reads n fits = ap (λ (r : Option ℕ). r >>= λ m. Some (Push m)) (number_of-decimal n fits)

call_reads : (name : List ℕ) → is_identifier name ≡ true → operated_of (codes "call") name ≡ Some (Call name)
unfolding operated_of
call_reads name p = rw p refl

-- what the words of an instruction's line are
pub record SaysCode (words : List (List ℕ)) (i : Instruction) : Type 0 where
  pub not_three : three_of words ≡ None
  pub reads : instruction_of words ≡ Some i

two_words : (word operand : List ℕ) (words : List (List ℕ)) (i : Instruction) → words ≡ word ∷ operand ∷ [] → operated_of word operand ≡ Some i → SaysCode words i
two_words word operand words i e p = record { not_three = ap three_of e; reads = ap instruction_of e ∙ p }

one_word : (word : List ℕ) (words : List (List ℕ)) (i : Instruction) → words ≡ word ∷ [] → plain_of word ≡ Some i → SaysCode words i
one_word word words i e p = record { not_three = ap three_of e; reads = ap instruction_of e ∙ p }

pub says_code : (i : Instruction) → IsRepresentable i → SaysCode (words_of (instruction_text i)) i
unfolding plain_of
says_code (Push n) representable = two_words (codes "push") (decimal n) (words_of (instruction_text (Push n))) (Push n) (ap (λ (v : List (List ℕ)). codes "push" ∷ v) (number_words n representable)) (push_reads n representable)
says_code Add representable = one_word (codes "add") (words_of (instruction_text Add)) Add refl refl
says_code Subtract representable = one_word (codes "sub") (words_of (instruction_text Subtract)) Subtract refl refl
says_code Multiply representable = one_word (codes "mul") (words_of (instruction_text Multiply)) Multiply refl refl
says_code Print representable = one_word (codes "print") (words_of (instruction_text Print)) Print refl refl
says_code (Call name) representable = two_words (codes "call") name (words_of (instruction_text (Call name))) (Call name) (ap (λ (v : List (List ℕ)). codes "call" ∷ v) (name_words name representable)) (call_reads name representable)
says_code Return representable = one_word (codes "ret") (words_of (instruction_text Return)) Return refl refl

pub no_feed_in : (i : Instruction) → IsRepresentable i → list_all is_no_feed (instruction_text i) ≡ true
no_feed_in (Push n) representable = no_feeds (decimal n) (plain_number n representable)
no_feed_in Add representable = refl
no_feed_in Subtract representable = refl
no_feed_in Multiply representable = refl
no_feed_in Print representable = refl
no_feed_in (Call name) representable = no_feeds name (plain_identifier name representable)
no_feed_in Return representable = refl

code_step : (words : List (List ℕ)) (i : Instruction) (a : ObjectBuilder) → SaysCode words i → with_words words a ≡ with_instruction i a
code_step words i a says =
    ap (λ (t : Option (List ℕ × List ℕ × List ℕ)). with_either t (instruction_of words) a) says.not_three ∙ ap (λ (t : Option Instruction). with_read_code t a) says.reads

-- some instructions after a symbol's
abbrev pub code_line : Instruction → List ℕ
code_line i = line (instruction_text i)

with_all : List Instruction → ObjectBuilder → ObjectBuilder
with_all [] a = a
with_all (i ∷ code) a = with_all code (with_instruction i a)

code_lines : (code : List Instruction) (rest : List ℕ) (a : ObjectBuilder) → AllByRecursion IsRepresentable code → with_read_lines (lines_of (flat_map code_line code ++ rest)) a ≡ with_read_lines (lines_of rest) (with_all code a)
unfolding with_all
code_lines [] rest a wells = refl
code_lines (i ∷ code) rest a wells =
    prefix_line (instruction_text i) (flat_map code_line code) rest a (with_instruction i a) (no_feed_in i wells.0) (code_step (words_of (instruction_text i)) i a (says_code i wells.0))
    ∙ code_lines code rest (with_instruction i a) wells.1

-- a builder whose last symbol this is
begun : List Symbol → List ℕ → List Instruction → List DebugLine → ObjectBuilder
begun done name code debug = record { done = done; last = Some (record { name = name; code = code }); debug = debug }

all_code : (done : List Symbol) (name : List ℕ) (before code : List Instruction) (debug : List DebugLine) → with_all code (begun done name before debug) ≡ begun done name (before ++ code) debug
unfolding with_all begun
all_code done name before [] debug = ap (λ (c : List Instruction). begun done name c debug) (sym (append-nil before))
all_code done name before (i ∷ code) debug =
    all_code done name (before ++ i ∷ []) code debug ∙ ap (λ (c : List Instruction). begun done name c debug) (append_assoc before (i ∷ []) code)

-- ---- symbols

counted_words : (name : List ℕ) (n : ℕ) → is_identifier name ≡ true → n < 2 ^ 64 → words_of (name ++ 32 ∷ decimal n) ≡ name ∷ decimal n ∷ []
counted_words name n p fits =
    word_first name (decimal n) (plain_identifier name p) (some_identifier name p) ∙ ap (λ (v : List (List ℕ)). name ∷ v) (number_words n fits)

no_feed_counted : (name : List ℕ) (n : ℕ) → is_identifier name ≡ true → n < 2 ^ 64 → list_all is_no_feed (name ++ 32 ∷ decimal n) ≡ true
no_feed_counted name n p fits =
    list_all-append is_no_feed name (32 ∷ decimal n)
    ∙ and_from (list_all is_no_feed name) (list_all is_no_feed (decimal n)) (no_feeds name (plain_identifier name p)) (no_feeds (decimal n) (plain_number n fits))

label_step : (name : List ℕ) (n : ℕ) (a : ObjectBuilder) → is_identifier name ≡ true → n < 2 ^ 64 → with_words (words_of (codes "sym " ++ (name ++ 32 ∷ decimal n))) a ≡ with_label name a
label_step name n a p fits = ap (λ (v : List (List ℕ)). with_words (codes "sym" ∷ v) a) (counted_words name n p fits)

-- with a symbol
abbrev pub with_symbol : Symbol → ObjectBuilder → ObjectBuilder
with_symbol s a = record { done = all_symbols a.done a.last; last = Some s; debug = a.debug }

symbol_lines : (s : Symbol) (rest : List ℕ) (a : ObjectBuilder) → is_identifier s.name ≡ true → IsRepresentableSymbol s → with_read_lines (lines_of (symbol_text s ++ rest)) a ≡ with_read_lines (lines_of rest) (with_symbol s a)
unfolding begun
symbol_lines s rest a named representable =
    prefix_line (codes "sym " ++ (s.name ++ 32 ∷ decimal (length s.code))) (flat_map code_line s.code) rest a (with_label s.name a) (no_feed_counted s.name (length s.code) named representable.count) (label_step s.name (length s.code) a named representable.count)
    ∙ (code_lines s.code rest (with_label s.name a) representable.code
    ∙ ap (with_read_lines (lines_of rest)) (all_code (all_symbols a.done a.last) s.name [] s.code a.debug))

with_symbols : List Symbol → ObjectBuilder → ObjectBuilder
with_symbols [] a = a
with_symbols (s ∷ symbols) a = with_symbols symbols (with_symbol s a)

all_symbol_lines : (symbols : List Symbol) (rest : List ℕ) (a : ObjectBuilder) → list_all is_defined symbols ≡ true → AllByRecursion IsRepresentableSymbol symbols → with_read_lines (lines_of (flat_map symbol_text symbols ++ rest)) a ≡ with_read_lines (lines_of rest) (with_symbols symbols a)
unfolding with_symbols
all_symbol_lines [] rest a named wells = refl
all_symbol_lines (s ∷ symbols) rest a named wells =
    let parts = and_parts (is_defined s) (list_all is_defined symbols) named in
    let name = (and_parts (is_identifier s.name) (has_code s.code) parts.0).0 in
    ap (λ (t : List ℕ). with_read_lines (lines_of t) a) (append_assoc (symbol_text s) (flat_map symbol_text symbols) rest)
    ∙ (symbol_lines s (flat_map symbol_text symbols ++ rest) a name wells.0
    ∙ all_symbol_lines symbols rest (with_symbol s a) parts.1 wells.1)

symbols_in : (symbols : List Symbol) (a : ObjectBuilder) → object_in (with_symbols symbols a) ≡ record { symbols = all_symbols a.done a.last ++ symbols; debug = a.debug }
unfolding with_symbols
symbols_in [] a = ap (λ (l : List Symbol). record { symbols = l; debug = a.debug }) (sym (append-nil (all_symbols a.done a.last)))
symbols_in (s ∷ symbols) a =
    symbols_in symbols (with_symbol s a) ∙ ap (λ (l : List Symbol). record { symbols = l; debug = a.debug }) (append_assoc (all_symbols a.done a.last) (s ∷ []) symbols)

-- ---- debug lines

debug_step : (d : DebugLine) (a : ObjectBuilder) → IsRepresentableDebug d → with_words (words_of (codes "dbg " ++ (d.name ++ 32 ∷ decimal d.number))) a ≡ with_debug d.name d.number a
debug_step d a representable =
    ap (λ (v : List (List ℕ)). with_words (codes "dbg" ∷ v) a) (counted_words d.name d.number representable.name representable.number)
    ∙ ap (λ (r : Option ℕ). with_numbered d.name r a) (number_of-decimal d.number representable.number)

with_lines_of : List DebugLine → ObjectBuilder → ObjectBuilder
with_lines_of [] a = a
with_lines_of (d ∷ debug) a = with_lines_of debug (with_debug d.name d.number a)

debug_lines : (debug : List DebugLine) (rest : List ℕ) (a : ObjectBuilder) → AllByRecursion IsRepresentableDebug debug → with_read_lines (lines_of (flat_map debug_text debug ++ rest)) a ≡ with_read_lines (lines_of rest) (with_lines_of debug a)
unfolding with_lines_of
debug_lines [] rest a wells = refl
debug_lines (d ∷ debug) rest a wells =
    prefix_line (codes "dbg " ++ (d.name ++ 32 ∷ decimal d.number)) (flat_map debug_text debug) rest a (with_debug d.name d.number a) (no_feed_counted d.name d.number wells.0.name wells.0.number) (debug_step d a wells.0)
    ∙ debug_lines debug rest (with_debug d.name d.number a) wells.1

debug_in : (debug : List DebugLine) (a : ObjectBuilder) → object_in (with_lines_of debug a) ≡ record { symbols = all_symbols a.done a.last; debug = a.debug ++ debug }
unfolding with_lines_of
debug_in [] a = ap (λ (l : List DebugLine). record { symbols = all_symbols a.done a.last; debug = l }) (sym (append-nil a.debug))
debug_in (d ∷ debug) a =
    debug_in debug (with_debug d.name d.number a) ∙ ap (λ (l : List DebugLine). record { symbols = all_symbols a.done a.last; debug = l }) (append_assoc a.debug (d ∷ []) debug)

-- ---- the whole

-- a first line that says nothing
pub record IsHead (head : List ℕ) : Type 0 where
  pub feeds : list_all is_no_feed head ≡ true
  pub silent : (a : ObjectBuilder) → with_words (words_of head) a ≡ a

pub object_is_head : IsHead object_head
unfolding operated_of
object_is_head = record { feeds = refl; silent = λ a. refl }

pub executable_is_head : IsHead executable_head
unfolding operated_of
executable_is_head = record { feeds = refl; silent = λ a. refl }

end_lines : (a : ObjectBuilder) → with_read_lines (lines_of (line (codes "end"))) a ≡ a
unfolding plain_of
end_lines a = refl

said_by : (head : List ℕ) (o : Object) → IsHead head → list_all is_defined o.symbols ≡ true → IsRepresentableObject o
    → with_read_lines (lines_of (object_text head o)) empty_builder ≡ with_lines_of o.debug (with_symbols o.symbols empty_builder)
unfolding object_text
said_by head o is named representable =
    let after = flat_map debug_text o.debug ++ line (codes "end") in
    one_line head (flat_map symbol_text o.symbols ++ after) empty_builder is.feeds
    ∙ (ap (with_read_lines (lines_of (flat_map symbol_text o.symbols ++ after))) (is.silent empty_builder)
    ∙ (all_symbol_lines o.symbols after empty_builder named representable.symbols
    ∙ (debug_lines o.debug (line (codes "end")) (with_symbols o.symbols empty_builder) representable.debug
    ∙ end_lines (with_lines_of o.debug (with_symbols o.symbols empty_builder)))))

pub gathered_text : (head : List ℕ) (o : Object) → IsHead head → list_all is_defined o.symbols ≡ true → IsRepresentableObject o → gathered (object_text head o) ≡ o
gathered_text head o is named representable =
    let a = with_symbols o.symbols empty_builder in
    let held = symbols_in o.symbols empty_builder in
    ap object_in (said_by head o is named representable)
    ∙ (debug_in o.debug a
    ∙ (λ j. record { symbols = (held j).symbols; debug = (held j).debug ++ o.debug }))

pub reads_back : (head : List ℕ) (o : Object) → IsHead head → IsRepresentableObject o → is_well_formed o ≡ true → object_of head (object_text head o) ≡ Some o
reads_back head o is representable rules =
    let named = (and_parts (list_all is_defined o.symbols) (are_new [] (names_of o.symbols) && are_in_order o.symbols o.debug) rules).0 in
    reads head o (gathered_text head o is named representable) rules
