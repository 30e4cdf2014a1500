-- Each object is what some text is assembled into.
use Rattle.std.proofs.Common.{◌≡◌, ℕ, ◌<◌, ◌-◌, ◌^◌, Bool, true, false, List, [], ◌∷◌, ◌++◌, length, take, drop, length-append, append_assoc, append-nil, Option, Some, None, ◌&&◌, codes, decimal, nat_eq, bytes_eq, if◌then◌else◌, refl, sym, ap, subst, ◌∙◌, arith}
use Rattle.std.proofs.lemmas.Bool.{and_parts, and_from, cond_both, false≢true}
use Rattle.std.specs.Option.{option_or}
use Rattle.std.proofs.lemmas.List.Folds.{list_all-append}
use Rattle.std.proofs.lemmas.Slice.Eq.{bytes_eq-Decides}
use Rattle.std.proofs.Math.Seq.{take-append_seam, drop-append_seam}
use Rattle.std.specs.Cmp.Lexicographic.{pointwise}
use Rattle.std.specs.List.{flat_map, list_all, AllByRecursion, ends_with}
use Rattle.object_name.specs.Number.{number_of}
use Rattle.object_name.proofs.PublicLaws.{number_of-decimal, decimal-number_of}
use Rattle.text_lines.specs.Lines.{lines_of}
use Rattle.text_lines.specs.Blanks.{words_of}
use Rattle.text_lines.specs.Maybe.{◌>>=◌, ◌>>◌}
use Rattle.thunk_codec.specs.Thunk.{is_identifier}
use Rattle.tool_bin.specs.declared.object_builder.ObjectBuilder.{ObjectBuilder}
use Rattle.tool_bin.specs.declared.instruction.Instruction.{Instruction}
use Rattle.tool_bin.specs.declared.instruction.Instruction.TheVariants.{Push, Add, Subtract, Multiply, Print, Call, Return}
use Rattle.tool_bin.specs.declared.object.DebugLine.{DebugLine}
use Rattle.tool_bin.specs.declared.object.Object.{Object}
use Rattle.tool_bin.specs.declared.object.Symbol.{Symbol}
use Rattle.tool_bin.specs.declared.statement.Statement.{Statement}
use Rattle.tool_bin.specs.declared.statement.Statement.TheVariants.{Label, Location, Code}
use Rattle.tool_bin.specs.Assemble as text
use Rattle.tool_bin.specs.ObjectBuilder.{empty_builder, all_symbols, with_label, object_in}
use Rattle.tool_bin.specs.Instruction.{instruction_text, instruction_of}
use Rattle.tool_bin.specs.Object.{object_head, line, object_text, has_code, is_defined, from_named, has_symbol, names_of, are_new, are_in_order, is_well_formed}
use Rattle.tool_bin.specs.ObjectReading.{with_numbered, with_three, with_either, with_words, with_read_lines, three_of, object_of}
use Rattle.tool_bin.specs.Representable.{IsRepresentable}
use Rattle.tool_bin.proofs.OneText.{gathered, was_read}
use Rattle.tool_bin.proofs.ReadIsRepresentable.{HasCode}
use Rattle.tool_bin.proofs.StrippedOnce.{gathered_coded}
use Rattle.tool_bin.proofs.TextsReadBack.{says_code, no_feed_in, name_words, number_words}
use Rattle.tool_bin.proofs.WordsReadBack.{is_no_feed, is_plain, no_feeds, line_first, word_last, plain_number, plain_identifier}

-- ---- lines and the text of them

abbrev HasNoFeed : List ℕ → Type 0
HasNoFeed said = list_all is_no_feed said ≡ true

lines_back : (lines : List (List ℕ)) → AllByRecursion HasNoFeed lines → lines_of (flat_map line lines) ≡ lines
lines_back [] feeds = refl
lines_back (said ∷ lines) feeds = line_first said (flat_map line lines) feeds.0 ∙ ap (λ more. said ∷ more) (lines_back lines feeds.1)

-- a line that is a statement
one_line : (said word : List ℕ) (words lines : List (List ℕ)) (statement : Statement) (a b : ObjectBuilder) → words_of said ≡ word ∷ words → text.statement_of (word ∷ words) ≡ Some statement
    → text.with_statement statement a ≡ Some b → text.with_lines (said ∷ lines) a ≡ text.with_lines lines b
one_line said word words lines statement a b are is with_it =
    ap (λ v. text.with_line v a >>= λ more. text.with_lines lines more) are
    ∙ (ap (λ s. (s >>= λ said. text.with_statement said a) >>= λ more. text.with_lines lines more) is
    ∙ ap (λ r. r >>= λ more. text.with_lines lines more) with_it)

-- ---- labels

labelled_name : (name : List ℕ) → is_identifier name ≡ true → text.labelled (name ++ 58 ∷ []) ≡ Some (Label name)
labelled_name name p =
    let long : length (name ++ 58 ∷ []) - 1 ≡ length name = let all = length-append name (58 ∷ []) in omega (arith, all) in
    let word : List ℕ = take (length (name ++ 58 ∷ []) - 1) (name ++ 58 ∷ []) in
    let before : word ≡ name = ap (λ n. take n (name ++ 58 ∷ [])) long ∙ take-append_seam name (58 ∷ []) in
    let last : ends_with nat_eq (name ++ 58 ∷ []) (58 ∷ []) ≡ true =
    ap (λ n. pointwise nat_eq (58 ∷ []) (drop n (name ++ 58 ∷ []))) long ∙ ap (pointwise nat_eq (58 ∷ [])) (drop-append_seam name (58 ∷ [])) in
    ap (λ test. test >> (is_identifier word >> Some (Label word))) last
    ∙ (ap (λ word. is_identifier word >> Some (Label word)) before ∙ ap (λ test. test >> Some (Label name)) p)

plain_label : (name : List ℕ) → is_identifier name ≡ true → list_all is_plain (name ++ 58 ∷ []) ≡ true
plain_label name p = list_all-append is_plain name (58 ∷ []) ∙ and_from (list_all is_plain name) true (plain_identifier name p) refl

label_line : (name : List ℕ) (lines : List (List ℕ)) (a : ObjectBuilder) → is_identifier name ≡ true → text.with_lines ((name ++ 58 ∷ []) ∷ lines) a ≡ text.with_lines lines (with_label name a)
label_line name lines a p =
    one_line (name ++ 58 ∷ []) (name ++ 58 ∷ []) [] lines (Label name) a (with_label name a)
    (word_last (name ++ 58 ∷ []) (plain_label name p) (let all = length-append name (58 ∷ []) in omega (arith, all)))
    (ap (λ s. option_or s (option_or (text.location_of ((name ++ 58 ∷ []) ∷ [])) (text.code_of ((name ++ 58 ∷ []) ∷ [])))) (labelled_name name p)) refl

-- ---- locations

abbrev location_text : ℕ → List ℕ
location_text number = codes ".loc " ++ decimal number

located_number : (number : ℕ) → number < 2 ^ 64 → text.located (codes ".loc") (decimal number) ≡ Some (Location number)
located_number number fits = ap (λ r. r >>= λ n. Some (Location n)) (number_of-decimal number fits)

-- a builder whose last symbol this is
abbrev begun : List Symbol → List ℕ → List Instruction → List DebugLine → ObjectBuilder
begun done name code debug = record { done = done; last = Some (record { name = name; code = code }); debug = debug }

location_line : (number : ℕ) (lines : List (List ℕ)) (done : List Symbol) (name : List ℕ) (debug : List DebugLine) → number < 2 ^ 64
    → text.with_lines (location_text number ∷ lines) (begun done name [] debug) ≡ text.with_lines lines (begun done name [] (debug ++ (record { name = name; number = number }) ∷ []))
location_line number lines done name debug fits =
    one_line (location_text number) (codes ".loc") (decimal number ∷ []) lines (Location number) (begun done name [] debug) (begun done name [] (debug ++ (record { name = name; number = number }) ∷ []))
    (ap (λ v. codes ".loc" ∷ v) (number_words number fits))
    (ap (λ s. option_or s (text.code_of (codes ".loc" ∷ decimal number ∷ []))) (located_number number fits)) refl

-- ---- instructions

-- the words of an instruction say it
record SaysStatement (said : List ℕ) (statement : Statement) : Type 0 where
  pub word : List ℕ
  pub words : List (List ℕ)
  pub are : words_of said ≡ word ∷ words
  pub says : text.statement_of (word ∷ words) ≡ Some statement

one_word : (said word : List ℕ) (i : Instruction) → words_of said ≡ word ∷ [] → text.labelled word ≡ None → instruction_of (words_of said) ≡ Some i → SaysStatement said (Code i)
one_word said word i are no_label reads = record {
  word = word;
  words = [];
  are = are;
  says = ap (λ s. option_or s (text.code_of (word ∷ []))) no_label ∙ ap (λ r. r >>= λ i. Some (Code i)) (sym (ap instruction_of are) ∙ reads);
}

two_words : (said word operand : List ℕ) (i : Instruction) → words_of said ≡ word ∷ operand ∷ [] → text.located word operand ≡ None → instruction_of (words_of said) ≡ Some i → SaysStatement said (Code i)
two_words said word operand i are no_location reads = record {
  word = word;
  words = operand ∷ [];
  are = are;
  says = ap (λ s. option_or s (text.code_of (word ∷ operand ∷ []))) no_location ∙ ap (λ r. r >>= λ i. Some (Code i)) (sym (ap instruction_of are) ∙ reads);
}

says_statement : (i : Instruction) → IsRepresentable i → SaysStatement (instruction_text i) (Code i)
says_statement (Push n) representable = two_words (instruction_text (Push n)) (codes "push") (decimal n) (Push n) (ap (λ v. codes "push" ∷ v) (number_words n representable)) refl (says_code (Push n) representable).reads
says_statement Add representable = one_word (instruction_text Add) (codes "add") Add refl refl (says_code Add representable).reads
says_statement Subtract representable = one_word (instruction_text Subtract) (codes "sub") Subtract refl refl (says_code Subtract representable).reads
says_statement Multiply representable = one_word (instruction_text Multiply) (codes "mul") Multiply refl refl (says_code Multiply representable).reads
says_statement Print representable = one_word (instruction_text Print) (codes "print") Print refl refl (says_code Print representable).reads
says_statement (Call name) representable = two_words (instruction_text (Call name)) (codes "call") name (Call name) (ap (λ v. codes "call" ∷ v) (name_words name representable)) refl (says_code (Call name) representable).reads
says_statement Return representable = one_word (instruction_text Return) (codes "ret") Return refl refl (says_code Return representable).reads

-- the lines of some instructions
abbrev code_texts : List Instruction → List (List ℕ)
code_texts [] = []
code_texts (i ∷ code) = instruction_text i ∷ code_texts code

code_feeds : (code : List Instruction) (lines : List (List ℕ)) → AllByRecursion IsRepresentable code → AllByRecursion HasNoFeed lines → AllByRecursion HasNoFeed (code_texts code ++ lines)
code_feeds [] lines wells feeds = feeds
code_feeds (i ∷ code) lines wells feeds = (no_feed_in i wells.0, code_feeds code lines wells.1 feeds)

code_lines : (code : List Instruction) (lines : List (List ℕ)) (done : List Symbol) (name : List ℕ) (before : List Instruction) (debug : List DebugLine) → AllByRecursion IsRepresentable code
    → text.with_lines (code_texts code ++ lines) (begun done name before debug) ≡ text.with_lines lines (begun done name (before ++ code) debug)
code_lines [] lines done name before debug wells = ap (λ code. text.with_lines lines (begun done name code debug)) (sym (append-nil before))
code_lines (i ∷ code) lines done name before debug wells =
    let says = says_statement i wells.0 in
    one_line (instruction_text i) says.word says.words (code_texts code ++ lines) (Code i) (begun done name before debug) (begun done name (before ++ i ∷ []) debug) says.are says.says refl
    ∙ (code_lines code lines done name (before ++ i ∷ []) debug wells.1
    ∙ ap (λ code. text.with_lines lines (begun done name code debug)) (append_assoc before (i ∷ []) code))

-- ---- symbols, each with its debug lines

-- what some lines made: these symbols and debug lines, behind those before
record Made (done : List Symbol) (before : List DebugLine) (symbols : List Symbol) (debug : List DebugLine) (result : Option ObjectBuilder) : Type 0 where
  pub made : ObjectBuilder
  pub is : result ≡ Some made
  pub symbols_are : all_symbols made.done made.last ≡ done ++ symbols
  pub debug_is : made.debug ≡ before ++ debug

-- lines that make symbols and debug lines
record Source (symbols : List Symbol) (debug : List DebugLine) : Type 0 where
  pub lines : List (List ℕ)
  pub feeds : AllByRecursion HasNoFeed lines
  pub makes : (a : ObjectBuilder) → Made (all_symbols a.done a.last) a.debug symbols debug (text.with_lines lines a)

-- the same behind the label of the first symbol
record Inside (s : Symbol) (symbols : List Symbol) (debug : List DebugLine) : Type 0 where
  pub lines : List (List ℕ)
  pub feeds : AllByRecursion HasNoFeed lines
  pub makes : (done : List Symbol) (before : List DebugLine) → Made done before (s ∷ symbols) debug (text.with_lines lines (begun done s.name [] before))

abbrev Fits64 : DebugLine → Type 0
Fits64 debug = debug.number < 2 ^ 64

-- the code of a symbol, and the others
inside_code : (s : Symbol) (symbols : List Symbol) (debug : List DebugLine) → AllByRecursion IsRepresentable s.code → Source symbols debug → Inside s symbols debug
inside_code s symbols debug wells source = record {
  lines = code_texts s.code ++ source.lines;
  feeds = code_feeds s.code source.lines wells source.feeds;
  makes = λ done before.
      let others = source.makes (begun done s.name s.code before) in
      record {
        made = others.made;
        is = code_lines s.code source.lines done s.name [] before wells ∙ others.is;
        symbols_are = others.symbols_are ∙ append_assoc done (s ∷ []) symbols;
        debug_is = others.debug_is;
      };
}

-- a debug line of a symbol, and the rest
inside_debug : (s : Symbol) (symbols : List Symbol) (d : DebugLine) (debug : List DebugLine) → s.name ≡ d.name → Fits64 d → Inside s symbols debug → Inside s symbols (d ∷ debug)
inside_debug s symbols d debug named fits rest = record {
  lines = location_text d.number ∷ rest.lines;
  feeds = (no_feeds (decimal d.number) (plain_number d.number fits), rest.feeds);
  makes = λ done before.
      let own : DebugLine = record { name = s.name; number = d.number } in
      let others = rest.makes done (before ++ own ∷ []) in
      let same : own ≡ d = ap (λ name. record { name = name; number = d.number }) named in
      record {
        made = others.made;
        is = location_line d.number rest.lines done s.name before fits ∙ others.is;
        symbols_are = others.symbols_are;
        debug_is = others.debug_is ∙ (append_assoc before (own ∷ []) debug ∙ ap (λ own. before ++ own ∷ debug) same);
      };
}

-- debug lines in order: those of the first symbol, and those of the others
inside : (s : Symbol) (symbols : List Symbol) (debug : List DebugLine) → AllByRecursion IsRepresentable s.code → AllByRecursion Fits64 debug → are_in_order (s ∷ symbols) debug ≡ true
    → ((debug : List DebugLine) → AllByRecursion Fits64 debug → are_in_order symbols debug ≡ true → Source symbols debug) → Inside s symbols debug
inside s symbols [] wells fits order next = inside_code s symbols [] wells (next [] tt refl)
inside s symbols (d ∷ debug) wells fits order next = by_name (bytes_eq s.name d.name) refl (λ order. inside s symbols debug wells fits.1 order next) order where
  by_name : (test : Bool) → bytes_eq s.name d.name ≡ test → (are_in_order (s ∷ symbols) debug ≡ true → Inside s symbols debug)
      → (has_symbol (if test then s ∷ symbols else from_named d.name symbols) && are_in_order (if test then s ∷ symbols else from_named d.name symbols) debug) ≡ true → Inside s symbols (d ∷ debug)
  by_name true is rest order = inside_debug s symbols d debug ((bytes_eq-Decides s.name d.name).0 is) fits.0 (rest order)
  by_name false is rest order = inside_code s symbols (d ∷ debug) wells (next (d ∷ debug) fits order)

-- all of them
sourced : (symbols : List Symbol) (debug : List DebugLine) → list_all is_defined symbols ≡ true → AllByRecursion HasCode symbols → AllByRecursion Fits64 debug → are_in_order symbols debug ≡ true → Source symbols debug
sourced [] [] defined wells fits order = record {
  lines = [];
  feeds = tt;
  makes = λ a. record { made = a; is = refl; symbols_are = sym (append-nil (all_symbols a.done a.last)); debug_is = sym (append-nil a.debug) };
}
sourced [] (d ∷ debug) defined wells fits order = absurd (false≢true order)
sourced (s ∷ symbols) debug defined wells fits order =
    let parts = and_parts (is_defined s) (list_all is_defined symbols) defined in
    let named = (and_parts (is_identifier s.name) (has_code s.code) parts.0).0 in
    let rest = inside s symbols debug wells.0 fits order (λ debug. sourced symbols debug parts.1 wells.1) in
    record {
      lines = (s.name ++ 58 ∷ []) ∷ rest.lines;
      feeds = (no_feeds (s.name ++ 58 ∷ []) (plain_label s.name named), rest.feeds);
      makes = λ a.
          let others = rest.makes (all_symbols a.done a.last) a.debug in
          record { made = others.made; is = label_line s.name rest.lines a named ∙ others.is; symbols_are = others.symbols_are; debug_is = others.debug_is };
    }

-- ---- the numbers of debug lines that are read

all_fit : (debug : List DebugLine) (d : DebugLine) → AllByRecursion Fits64 debug → Fits64 d → AllByRecursion Fits64 (debug ++ d ∷ [])
all_fit [] d fits last = (last, tt)
all_fit (first ∷ debug) d fits last = (fits.0, all_fit debug d fits.1 last)

numbered_fits : (name : List ℕ) (number : Option ℕ) (a : ObjectBuilder) → ((n : ℕ) → number ≡ Some n → n < 2 ^ 64) → AllByRecursion Fits64 a.debug → AllByRecursion Fits64 (with_numbered name number a).debug
numbered_fits name None a small fits = fits
numbered_fits name (Some n) a small fits = all_fit a.debug (record { name = name; number = n }) fits (small n refl)

three_fits : (kind name number : List ℕ) (a : ObjectBuilder) → AllByRecursion Fits64 a.debug → AllByRecursion Fits64 (with_three kind name number a).debug
three_fits kind name number a fits =
    cond_both (bytes_eq kind (codes "sym")) (with_label name a) (if bytes_eq kind (codes "dbg") then with_numbered name (number_of number) a else a) (λ b. AllByRecursion Fits64 b.debug) (λ _. fits)
    (λ _. cond_both (bytes_eq kind (codes "dbg")) (with_numbered name (number_of number) a) a (λ b. AllByRecursion Fits64 b.debug)
    (λ _. numbered_fits name (number_of number) a (λ n e. (decimal-number_of number n e).0) fits) (λ _. fits))

either_fits : (three : Option (List ℕ × List ℕ × List ℕ)) (i : Option Instruction) (a : ObjectBuilder) → AllByRecursion Fits64 a.debug → AllByRecursion Fits64 (with_either three i a).debug
either_fits None None a fits = fits
either_fits None (Some i) a fits = fits
either_fits (Some three) i a fits = three_fits three.0 three.1 three.2 a fits

lines_fit : (lines : List (List ℕ)) (a : ObjectBuilder) → AllByRecursion Fits64 a.debug → AllByRecursion Fits64 (with_read_lines lines a).debug
lines_fit [] a fits = fits
lines_fit (said ∷ lines) a fits = lines_fit lines (with_words (words_of said) a) (either_fits (three_of (words_of said)) (instruction_of (words_of said)) a fits)

gathered_fits : (bytes : List ℕ) → AllByRecursion Fits64 (gathered bytes).debug
gathered_fits bytes = lines_fit (lines_of bytes) empty_builder tt

-- ---- objects

assembled_lines : (o : Object) (source : Source o.symbols o.debug) → is_well_formed o ≡ true → text.assembled (flat_map line source.lines) ≡ Some o
unfolding text.assembled
assembled_lines o source rules =
    let made = source.makes empty_builder in
    let same : object_in made.made ≡ o = λ j. record { symbols = made.symbols_are j; debug = made.debug_is j } in
    ap (λ lines. text.with_lines lines empty_builder >>= λ a. is_well_formed (object_in a) >> Some (object_in a)) (lines_back source.lines source.feeds)
    ∙ (ap (λ r. r >>= λ a. is_well_formed (object_in a) >> Some (object_in a)) made.is
    ∙ (ap (λ o. is_well_formed o >> Some o) same ∙ ap (λ test. test >> Some o) rules))

pub object_is_assembled : (bytes : List ℕ) (o : Object) → object_of object_head bytes ≡ Some o → (source : List ℕ) × (text.assembled_text source ≡ Some bytes)
object_is_assembled bytes o e =
    let read = was_read object_head bytes o e in
    let code = subst (λ (p : Object). AllByRecursion HasCode p.symbols) read.same (gathered_coded bytes) in
    let fits = subst (λ (p : Object). AllByRecursion Fits64 p.debug) read.same (gathered_fits bytes) in
    let first = and_parts (list_all is_defined o.symbols) (are_new [] (names_of o.symbols) && are_in_order o.symbols o.debug) read.rules in
    let order = (and_parts (are_new [] (names_of o.symbols)) (are_in_order o.symbols o.debug) first.1).1 in
    let source = sourced o.symbols o.debug first.0 code fits order in
    (flat_map line source.lines, ap (λ r. r >>= λ o. Some (object_text object_head o)) (assembled_lines o source read.rules) ∙ ap Some read.text)
