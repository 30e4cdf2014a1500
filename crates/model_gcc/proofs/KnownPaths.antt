-- Texts that are paths: numbers of four digits, outputs, files of libraries.
use Rattle.std.proofs.Common.{◌≡◌, ◌≤◌, ◌<◌, ℕ, suc, zero, ◌-◌, true, false, not, leb, ◌==◌, ◌&&◌, List, [], ◌∷◌, ◌++◌, length, take, drop, get_or, append_assoc, append-nil, length-append, Option, Some, None, refl, sym, ap, subst, ◌∙◌, arith}
use Rattle.std.specs.Prelude.{bytes_eq, codes, Result, Ok, Err, IfOk}
use Rattle.std.specs.List.{list_all}
use Rattle.std.proofs.lemmas.Bool.{and_parts, and_from, le-leb, leb-true, not_from_false, false_from_ne_true}
use Rattle.std.proofs.lemmas.List.{length-take, take_rest}
use Rattle.std.proofs.lemmas.List.Folds.{list_all-append}
use Rattle.std.proofs.lemmas.Option.{same_Some}
use Rattle.std.proofs.lemmas.Slice.Eq.{bytes_eq-Decides}
use Rattle.text_lines.specs.Maybe.{◌>>◌, test_some}
use Rattle.thunk_codec.specs.Components.{is_plain_byte, is_plain, is_component, with_component}
use Rattle.thunk_codec.specs.Folder.{folder_of, last_of, joined_from}
use Rattle.thunk_codec.specs.Path.{is_path, joined, components_of, after_pieces}
use Rattle.thunk_codec.proofs.PublicLaws.{digits_are_path, component_is_path, plain_component, path_parts, last_is, with_last, component_plain}
use Rattle.build_plan.specs.Numbered.{four_digits}
use Rattle.build_plan.proofs.PublicLaws.{four_are_digits}
use Rattle.model_gcc.specs.declared.gcc_plan.Stop.{Stop}
use Rattle.model_gcc.specs.declared.gcc_plan.Stop.TheVariants.{Preprocess, Compile, Assemble, Link}
use Rattle.model_gcc.specs.Libraries.{library_file, system_folder, and_path, seen_from}
use Rattle.model_gcc.specs.Outputs.{suffix_after, with_suffix}
use Rattle.model_gcc.specs.Values.{is_library_byte, library_name_of, max_library_name}

-- ---- numbers

-- four digits are a path
pub four_digits_are_path : (number : ℕ) → is_path (four_digits number) ≡ true
four_digits_are_path number = digits_are_path (four_digits number) (λ e. absurd cc) (four_are_digits number) (omega arith)

-- ---- outputs

plain_take : (n : ℕ) (piece : List ℕ) → is_plain piece ≡ true → is_plain (take n piece) ≡ true
plain_take zero piece h = refl
plain_take (suc n) [] h = refl
plain_take (suc n) (byte ∷ piece) h =
    let parts = and_parts (is_plain_byte byte) (is_plain piece) h in
    and_from _ _ parts.0 (plain_take n piece parts.1)

-- bytes that a component may have are one, where there are three or more
long_component : (piece : List ℕ) → is_plain piece ≡ true → 3 ≤ length piece → is_component piece ≡ true
long_component piece plain long =
    let differs : (other : List ℕ) → length other ≤ 2 → bytes_eq piece other ≡ false
    = λ other short. false_from_ne_true (bytes_eq piece other) (λ h. let e = ap length ((bytes_eq-Decides piece other).0 h) in omega (arith, e, short, long)) in
    and_from _ _ (not_from_false _ (differs [] (omega arith))) (and_from _ _ (not_from_false _ (differs (codes ".") (omega arith))) (and_from _ _ (not_from_false _ (differs (codes "..") (omega arith))) plain))

-- a suffix as it is used
record IsSuffix (suffix : List ℕ) : Type 0 where
  plain : is_plain suffix ≡ true
  alone : is_component suffix ≡ true
  two : length suffix ≡ 2

suffix_is : (stop : Stop) → IsSuffix (suffix_after stop)
suffix_is Preprocess = record { plain = refl; alone = refl; two = refl }
suffix_is Compile = record { plain = refl; alone = refl; two = refl }
suffix_is Assemble = record { plain = refl; alone = refl; two = refl }
suffix_is Link = record { plain = refl; alone = refl; two = refl }

stem_and_suffix : (stem suffix : List ℕ) → is_plain stem ≡ true → IsSuffix suffix → is_component (stem ++ suffix) ≡ true
stem_and_suffix [] suffix plain s = s.alone
stem_and_suffix (byte ∷ stem) suffix plain s =
    let two = s.two in
    let whole = length-append stem suffix in
    long_component (byte ∷ (stem ++ suffix)) (list_all-append is_plain_byte (byte ∷ stem) suffix ∙ and_from _ _ plain s.plain) (omega (arith, two, whole))

last_short : (before last : List ℕ) → length last ≤ length (with_component before last)
last_short [] last = omega arith
last_short (byte ∷ before) last = let whole = length-append (byte ∷ before) (47 ∷ last) in omega (arith, whole)

-- the last component of a path with another suffix is a path
pub other_suffix_is_path : (stop : Stop) (path : List ℕ) → is_path path ≡ true → is_path (with_suffix (suffix_after stop) (last_of path)) ≡ true
other_suffix_is_path stop path h =
    let j = path_parts path h in
    let component = (and_parts (is_component j.last) (list_all is_component j.before) j.good).0 in
    let s = suffix_is stop in
    let two = s.two in
    let fits = j.short in
    let within : length j.last ≤ length path = subst (λ (v : List ℕ). length j.last ≤ length v) (sym (with_last path j)) (last_short (joined j.before) j.last) in
    let stem = length-take (length j.last - 2) j.last in
    let whole = length-append (take (length j.last - 2) j.last) (suffix_after stop) in
    rw (last_is path j)
    (component_is_path (with_suffix (suffix_after stop) j.last) (stem_and_suffix (take (length j.last - 2) j.last) (suffix_after stop) (plain_take (length j.last - 2) j.last (component_plain j.last component)) s)
    (omega (arith, two, fits, within, stem, whole)))

pub program_is_path : is_path (codes "a.out") ≡ true
program_is_path = component_is_path (codes "a.out") refl (omega arith)

-- ---- libraries

pub system_folder_stands : folder_of (codes "sys/lib") ≡ Some (codes "sys/lib")
unfolding folder_of components_of after_pieces
system_folder_stands = refl

-- so it is found
pub system_folder_found : folder_of (codes "sys/lib") ≡ None → ⊥
system_folder_found none = let x : Some (codes "sys/lib") ≡ None = sym system_folder_stands ∙ none in absurd cc

pub system_folder_is : (folder : List ℕ) → Some folder ≡ folder_of (codes "sys/lib") → folder ≡ codes "sys/lib"
system_folder_is folder some = same_Some folder (codes "sys/lib") (some ∙ system_folder_stands)

-- one folder after another
seen_first : (paths : List (List ℕ)) (path : Option (List ℕ)) (others : List (List ℕ)) → paths ++ and_path path others ≡ (paths ++ and_path path []) ++ others
seen_first paths None others = ap (λ (v : List (List ℕ)). v ++ others) (sym (append-nil paths))
seen_first paths (Some path) others = sym (append_assoc paths (path ∷ []) others)

pub folder_seen : (paths more rest : List (List ℕ)) (folder file : List ℕ) (whole : List (List ℕ)) → 1 ≤ length rest → folder ≡ get_or rest 0 folder
    → more ≡ paths ++ seen_from (folder ∷ []) file → paths ++ seen_from (rest ++ system_folder ∷ []) file ≡ whole
    → more ++ seen_from (take (length rest - 1) (drop 1 rest) ++ system_folder ∷ []) file ≡ whole
folder_seen paths more [] folder file whole some is now before = absurd (omega (arith, some))
folder_seen paths more (first ∷ others) folder file whole some is now before =
    let all : more ≡ paths ++ and_path (joined_from first file) [] = now ∙ ap (λ (v : List ℕ). paths ++ and_path (joined_from v file) []) is in
    rw (take_rest (first ∷ others) 1, all) (sym (seen_first paths (joined_from first file) (seen_from (others ++ system_folder ∷ []) file)) ∙ before)

pub last_folder_seen : {E : Type 0} (paths rest : List (List ℕ)) (folder file : List ℕ) (whole : List (List ℕ)) (result : Result (List (List ℕ)) E) → length rest < 1 → folder ≡ system_folder
    → paths ++ seen_from (rest ++ system_folder ∷ []) file ≡ whole → IfOk result (λ more. more ≡ paths ++ seen_from (folder ∷ []) file) → IfOk result (λ more. more ≡ whole)
last_folder_seen paths [] folder file whole (Ok more) none is before now = now ∙ ap (λ (v : List ℕ). paths ++ seen_from (v ∷ []) file) is ∙ before
last_folder_seen paths [] folder file whole (Err fault) none is before now = tt
last_folder_seen paths (first ∷ others) folder file whole result none is before now = absurd (omega (arith, none))

-- the name of a library
pub record IsName (name : List ℕ) : Type 0 where
  pub short : length name ≤ 1000
  pub bytes : list_all is_library_byte name ≡ true

pub name_is : (name found : List ℕ) → library_name_of name ≡ Some found → IsName name
unfolding library_name_of
name_is name found e =
    let a = test_some (not (bytes_eq name [])) (leb (length name) max_library_name >> (list_all is_library_byte name >> Some name)) found e in
    let b = test_some (leb (length name) max_library_name) (list_all is_library_byte name >> Some name) found a.1 in
    let c = test_some (list_all is_library_byte name) (Some name) found b.1 in
    record { short = leb-true _ _ b.0; bytes = c.0 }

byte_plain : (byte : ℕ) → is_library_byte byte ≡ true → is_plain_byte byte ≡ true
byte_plain byte h =
    let a = and_parts (leb 33 byte && leb byte 126) (not (byte == 47)) h in
    let b = and_parts (leb 33 byte) (leb byte 126) a.0 in
    let low = leb-true 33 byte b.0 in
    and_from _ _ (and_from _ _ (le-leb 32 byte (omega (arith, low))) b.1) a.1

bytes_plain : (name : List ℕ) → list_all is_library_byte name ≡ true → is_plain name ≡ true
bytes_plain [] h = refl
bytes_plain (byte ∷ name) h =
    let parts = and_parts (is_library_byte byte) (list_all is_library_byte name) h in
    and_from _ _ (byte_plain byte parts.0) (bytes_plain name parts.1)

-- the file of a library is a path
pub library_file_is_path : (name : List ℕ) → IsName name → is_path (library_file name) ≡ true
library_file_is_path name h =
    let short = h.short in
    let whole = length-append name (codes ".a") in
    let plain : is_plain (library_file name) ≡ true = list_all-append is_plain_byte name (codes ".a") ∙ and_from _ _ (bytes_plain name h.bytes) refl in
    component_is_path (library_file name) (plain_component 108 (105 ∷ 98 ∷ (name ++ codes ".a")) plain refl) (omega (arith, short, whole))
