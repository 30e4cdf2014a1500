-- The files and the script of the demonstration grow by one function after another, their paths are paths, and its store holds nothing.
use Rattle.std.proofs.Common.{◌≡◌, ◌<◌, ◌≤◌, ℕ, suc, ◌+◌, ◌%◌, ◌^◌, List, [], ◌∷◌, ◌++◌, length, true, not, codes, decimal, refl, sym, ap, ◌∙◌, append_assoc, arith, length-append}
use Rattle.std.proofs.lemmas.Bool.{and_from, le-leb, ne_eqb}
use Rattle.std.proofs.lemmas.Fmt.{decimal_by_steps, length-decimal-le}
use Rattle.std.proofs.lemmas.List.Folds.{list_all-append}
use Rattle.thunk_codec.specs.Components.{is_plain, is_plain_byte}
use Rattle.thunk_codec.specs.Path.{is_path}
use Rattle.thunk_codec.proofs.PublicLaws.{component_is_path, plain_component}
use Rattle.std.specs.FinMap as map
use Rattle.std.specs.Prelude.{None, Result, Ok, Err, IfOk}
use Rattle.object_name.specs.Calls.{CallList}
use Rattle.object_name.specs.Maps.{map_of}
use Rattle.object_name.specs.Name.{ObjectName, name_cmp}
use Rattle.blob_store.specs.Memory.{Memory, store_of}
use Rattle.blob_store.specs.Store.{Contents, Write}
use Rattle.gg_cli.specs.Demo.{compile_line, compile_lines, demo_script, empty_store, line, object_word, object_words, source_path, source_text, sources}

-- ---- paths

digit_plain : (byte : ℕ) → 48 ≤ byte → byte ≤ 57 → is_plain_byte byte ≡ true
digit_plain byte low high =
    and_from _ _ (and_from _ _ (le-leb 32 byte (omega (arith, low))) (le-leb byte 126 (omega (arith, high)))) (ap not (ne_eqb byte 47 (λ is. absurd (omega (arith, low, is)))))

decimal_plain : (number : ℕ) → number < 2 ^ 64 → is_plain (decimal number) ≡ true
decimal_plain number fits =
    decimal_by_steps (λ n digits. is_plain digits ≡ true) (λ n small. and_from _ _ (digit_plain (48 + n) (omega arith) (omega (arith, small))) refl)
    (λ n digits ten plain. list_all-append is_plain_byte digits ((48 + n % 10) ∷ []) ∙ and_from _ _ plain (and_from _ _ (digit_plain (48 + n % 10) (omega arith) (omega arith)) refl))
    number fits

-- the path of a source is one
pub source_is_path : (number : ℕ) → number < 2 ^ 32 → is_path (source_path number) ≡ true
source_is_path number fits =
    let digits : length (decimal number) ≤ 10 = length-decimal-le 10 number (omega arith) (omega (arith, fits)) (omega (arith, fits)) in
    let plain : is_plain (source_path number) ≡ true =
    and_from _ _ refl (list_all-append is_plain_byte (decimal number) (codes ".c") ∙ and_from _ _ (decimal_plain number (omega (arith, fits))) refl) in
    component_is_path (source_path number) (plain_component 117 (decimal number ++ codes ".c") plain refl) (omega (arith, digits, length-append (decimal number) (codes ".c")))

-- and so are the other paths
pub header_is_path : is_path (codes "k.h") ≡ true
header_is_path = component_is_path (codes "k.h") refl (omega arith)

pub main_is_path : is_path (codes "main.c") ≡ true
main_is_path = component_is_path (codes "main.c") refl (omega arith)

pub program_is_path : is_path (codes "prog") ≡ true
program_is_path = component_is_path (codes "prog") refl (omega arith)

-- ---- one function more

next : (index : ℕ) → index + 1 ≡ suc index
next index = omega arith

-- one source more
pub sources_grow : (before files after : List (List ℕ × List ℕ)) (index : ℕ) (path text : List ℕ) → files ≡ before ++ sources index → path ≡ source_path (index + 1) → text ≡ source_text (index + 1)
    → after ≡ files ++ (path, text) ∷ [] → after ≡ before ++ sources (index + 1)
sources_grow before files after index path text so_far is_path is_text pushed =
    pushed ∙ (λ i. so_far i ++ (is_path i, is_text i) ∷ []) ∙ append_assoc before (sources index) ((source_path (index + 1), source_text (index + 1)) ∷ [])
    ∙ ap (λ l. before ++ l) (ap (λ n. sources index ++ (source_path n, source_text n) ∷ []) (next index) ∙ sym (ap sources (next index)))

-- one line more
pub compile_lines_grow : (before text after : List ℕ) (index : ℕ) → text ≡ before ++ compile_lines index → after ≡ text ++ compile_line (index + 1) → after ≡ before ++ compile_lines (index + 1)
compile_lines_grow before text after index so_far appended =
    appended ∙ ap (λ l. l ++ compile_line (index + 1)) so_far ∙ append_assoc before (compile_lines index) (compile_line (index + 1))
    ∙ ap (λ l. before ++ l) (ap (λ n. compile_lines index ++ compile_line n) (next index) ∙ sym (ap compile_lines (next index)))

-- one word more
pub object_words_grow : (before text after : List ℕ) (index : ℕ) → text ≡ before ++ object_words index → after ≡ text ++ object_word (index + 1) → after ≡ before ++ object_words (index + 1)
object_words_grow before text after index so_far appended =
    appended ∙ ap (λ l. l ++ object_word (index + 1)) so_far ∙ append_assoc before (object_words index) (object_word (index + 1))
    ∙ ap (λ l. before ++ l) (ap (λ n. object_words index ++ object_word n) (next index) ∙ sym (ap object_words (next index)))

-- ---- the whole

-- the script by its parts
pub script_is : (count : ℕ) (compiled archived with_words text : List ℕ) → compiled ≡ compile_lines count → archived ≡ compiled ++ codes "ar rcs libu.a" → with_words ≡ archived ++ object_words count
    → text ≡ with_words ++ (10 ∷ (line (codes "gcc main.c -L. -lu -o prog") ++ line (codes "strip prog"))) → text ≡ demo_script count
script_is count compiled archived with_words text first second third last =
    let lines = compile_lines count in
    let words = object_words count in
    let archive = codes "ar rcs libu.a" in
    let rest = line (codes "gcc main.c -L. -lu -o prog") ++ line (codes "strip prog") in
    last ∙ ap (λ l. l ++ (10 ∷ rest)) (third ∙ ap (λ l. l ++ words) (second ∙ ap (λ l. l ++ archive) first))
    ∙ append_assoc (lines ++ archive) words (10 ∷ rest) ∙ append_assoc lines archive (words ++ (10 ∷ rest))
    ∙ ap (λ l. lines ++ l) (sym (append_assoc archive words (10 ∷ rest)) ∙ sym (append_assoc (archive ++ words) (10 ∷ []) rest))

-- no pairs are no contents
no_contents : (pairs : List (ObjectName × List ℕ)) → pairs ≡ [] → ◌≡◌ {A = Contents} (λ name. map.get (map_of {R = name_cmp} pairs) name) (λ name. None)
no_contents pairs none = λ i name. (ap (λ (pairs : List (ObjectName × List ℕ)). map.get (map_of {R = name_cmp} pairs) name) none ∙ map.get-empty name_cmp name) i

-- a keeper of no pairs holds nothing
pub holds_nothing : {E : Type 0} (r : Result Memory E) (objects notes : List (ObjectName × List ℕ)) (calls : CallList) (writes : List Write) → objects ≡ [] → notes ≡ []
    → IfOk r (λ k. k ≡ record { objects = map_of objects; notes = map_of notes; calls = calls; writes = writes }) → IfOk r (λ k. store_of k ≡ empty_store)
holds_nothing (Ok k) objects notes calls writes no_objects no_notes is = ap store_of is ∙ (λ i. record { objects = no_contents objects no_objects i; notes = no_contents notes no_notes i })
holds_nothing (Err e) objects notes calls writes no_objects no_notes is = tt
