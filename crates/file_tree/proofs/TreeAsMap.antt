-- A tree in memory as a finite map, by the entries of the ordered map that holds it.
use Rattle.std.proofs.Common.{◌≡◌, ℕ, suc, ◌+◌, Bool, cond, List, [], ◌∷◌, ◌++◌, length, Option, Some, None, refl, sym, ap, ◌∙◌, arith}
use Rattle.std.specs.Prelude.{is_some}
use Rattle.std.specs.Cmp.Lexicographic.{nat_list_cmp_total}
use Rattle.std.specs.FinMap as map
use Rattle.std.specs.FinMap.{find, get-insert, get-remove, get-from_entries, len-insert, len-empty, same_map, nat_cmp-IsAntisymmetric, slice_cmp-IsAntisymmetric}
use Rattle.std.specs.List.{AllByRecursion}
use Rattle.std.specs.List.Sorted.{IsStrictlySortedBy}
use Rattle.std.specs.Map.{keys_of, lookup}
use Rattle.std.specs.Ordering.{eq_by_cmp, is_eq}
use Rattle.std.specs.declared.cmp.Ordering.TheVariants.{Less}
use Rattle.std.proofs.lemmas.Cmp.{eq_by_cmp_equiv}
use Rattle.std.proofs.lemmas.Map.Text.{is_eq-slice_cmp}
use Rattle.std.proofs.lemmas.List.Sums.{fold-append}
use Rattle.object_name.specs.Calls.{CallList, after_call}
use Rattle.object_name.specs.Maps.{map_of}
use Rattle.file_tree.specs.Files.{after_change, file_read}
use Rattle.file_tree.specs.declared.change.Change.{Change}
use Rattle.file_tree.specs.declared.change.Change.TheVariants.{Written, Removed}
use Rattle.file_tree.specs.declared.tree.FileRead.{FileRead}
use Rattle.file_tree.specs.Memory.{path_cmp, ByPath, Memory, files_of, with_file, with_none, called}

abbrev Entries : Type 0
Entries = List (List ℕ × List ℕ)

abbrev at_path : List ℕ → List ℕ → Bool
at_path path = λ key. eq_by_cmp path_cmp path key

-- what stands under a path, by the entries
pub get-lookup : (es : Entries) (path : List ℕ) → map.get (map.from_entries {R = path_cmp} es) path ≡ lookup (at_path path) es
get-lookup es path = get-from_entries nat_list_cmp_total es path ∙ found es where
  found : (es : Entries) → find path_cmp path es ≡ lookup (at_path path) es
  found [] = refl
  found (e ∷ es) = ap (cond (at_path path e.0) (Some e.1)) (found es)

-- the entries of a map in which one path has other bytes, or none
abbrev IsUpdate : Entries → Entries → List ℕ → Option (List ℕ) → Type 0
IsUpdate old new path bytes = (other : List ℕ) → lookup (at_path other) new ≡ cond (at_path path other) bytes (lookup (at_path other) old)

either_way : (path other : List ℕ) → at_path path other ≡ at_path other path
either_way path other = (eq_by_cmp_equiv nat_list_cmp_total).symm path other

updated : (old new : Entries) (path : List ℕ) (bytes : Option (List ℕ)) (other : List ℕ) → IsUpdate old new path bytes
    → map.get (map.from_entries {R = path_cmp} new) other ≡ cond (at_path other path) bytes (map.get (map.from_entries {R = path_cmp} old) other)
updated old new path bytes other is =
    get-lookup new other ∙ is other ∙ ap (λ b. cond b bytes (lookup (at_path other) old)) (either_way path other)
    ∙ ap (cond (at_path other path) bytes) (sym (get-lookup old other))

-- bytes put under a path
pub inserted : (old new : Entries) (path bytes : List ℕ) → IsUpdate old new path (Some bytes) → map.from_entries {R = path_cmp} new ≡ map.insert (map.from_entries old) path bytes
inserted old new path bytes is =
    same_map nat_list_cmp_total (slice_cmp-IsAntisymmetric nat_cmp-IsAntisymmetric) _ _
    (λ other. updated old new path (Some bytes) other is ∙ sym (get-insert nat_list_cmp_total (map.from_entries old) path bytes other))

-- nothing left under a path
pub taken_out : (old new : Entries) (path : List ℕ) → IsUpdate old new path None → map.from_entries {R = path_cmp} new ≡ map.remove (map.from_entries old) path
taken_out old new path is =
    same_map nat_list_cmp_total (slice_cmp-IsAntisymmetric nat_cmp-IsAntisymmetric) _ _
    (λ other. updated old new path None other is ∙ sym (get-remove nat_list_cmp_total (map.from_entries old) path other))

none_below : (path : List ℕ) (es : Entries) → AllByRecursion (λ other. path_cmp path other ≡ Less) (keys_of es) → find path_cmp path es ≡ None
none_below path [] below = refl
none_below path (e ∷ es) below = ap (λ r. cond (is_eq r) (Some e.1) (find path_cmp path es)) below.0 ∙ none_below path es below.1

one_longer : (a b n : ℕ) → a ≡ b → n ≡ b + 1 → suc a ≡ n
one_longer a b n e f = omega arith

-- entries whose paths rise have each path once
pub each_once : (es : Entries) → IsStrictlySortedBy path_cmp (keys_of es) → length es ≡ map.len (map.from_entries {R = path_cmp} es)
unfolding IsStrictlySortedBy
each_once [] rise = sym (len-empty path_cmp (List ℕ))
each_once (e ∷ es) rise =
    one_longer (length es) (map.len (map.from_entries {R = path_cmp} es)) (map.len (map.from_entries {R = path_cmp} (e ∷ es))) (each_once es rise.1)
    (len-insert nat_list_cmp_total (map.from_entries es) e.0 e.1
    ∙ ap (λ o. cond (is_some o) (map.len (map.from_entries {R = path_cmp} es)) (map.len (map.from_entries {R = path_cmp} es) + 1))
    (get-from_entries nat_list_cmp_total es e.0 ∙ none_below e.0 es rise.0))

-- and so has the map of them
pub once_in : (held : ByPath) (es files : Entries) → map.from_entries es ≡ held → files ≡ es → IsStrictlySortedBy path_cmp (keys_of es) → length files ≡ map.len held
once_in held es files view same rise = ap length same ∙ each_once es rise ∙ ap map.len view

-- a pair more in a map that is made of pairs
pub map_of-more : (pairs : Entries) (old new : Entries) (path bytes : List ℕ) → map.from_entries {R = path_cmp} old ≡ map_of pairs → IsUpdate old new path (Some bytes)
    → map.from_entries {R = path_cmp} new ≡ map_of (pairs ++ (path, bytes) ∷ [])
map_of-more pairs old new path bytes so_far update =
    inserted old new path bytes update ∙ ap (λ m. map.insert m path bytes) so_far
    ∙ sym (fold-append (λ (kept : ByPath) (pair : List ℕ × List ℕ). map.insert kept pair.0 pair.1) map.empty pairs ((path, bytes) ∷ []))

-- ---- what the tree tells

-- after a file was written
pub files_of-with_file : (old new : Memory) (path bytes : List ℕ) → new ≡ with_file old path bytes → files_of new ≡ after_change (files_of old) (Written path bytes)
files_of-with_file old new path bytes made =
    ap files_of made
    ∙ (λ i other. (get-insert nat_list_cmp_total old.held path bytes other ∙ ap (λ b. cond b (Some bytes) (map.get old.held other)) (is_eq-slice_cmp other path)) i)

-- and after one was removed
pub files_of-with_none : (old new : Memory) (path : List ℕ) → new ≡ with_none old path → files_of new ≡ after_change (files_of old) (Removed path)
files_of-with_none old new path made =
    ap files_of made
    ∙ (λ i other. (get-remove nat_list_cmp_total old.held path other ∙ ap (λ b. cond b None (map.get old.held other)) (is_eq-slice_cmp other path)) i)

-- a call that changed nothing leaves them
pub files_of-called : (old new : Memory) → new ≡ called old → files_of new ≡ files_of old
files_of-called old new same = ap files_of same

-- ---- the value of the tree

abbrev memory : Entries → CallList → List Change → Memory
memory es calls changes = record { held = map.from_entries es; calls = calls; changes = changes }

-- after an entry was put
pub memory-inserted : (tree : Memory) (old new : Entries) (calls after : CallList) (changes more : List Change) (path bytes : List ℕ) → memory old calls changes ≡ tree → after ≡ after_call calls
    → map.from_entries new ≡ map.insert (map.from_entries {R = path_cmp} old) path bytes → more ≡ changes ++ Written path bytes ∷ []
    → memory new after more ≡ with_file tree path bytes
memory-inserted tree old new calls after changes more path bytes view next put listed =
    (λ i. record { held = put i; calls = next i; changes = listed i }) ∙ ap (λ t. with_file t path bytes) view

-- after one was taken out
pub memory-removed : (tree : Memory) (old new : Entries) (calls after : CallList) (changes more : List Change) (path : List ℕ) → memory old calls changes ≡ tree → after ≡ after_call calls
    → IsUpdate old new path None → more ≡ changes ++ Removed path ∷ []
    → memory new after more ≡ with_none tree path
memory-removed tree old new calls after changes more path view next update listed =
    (λ i. record { held = taken_out old new path update i; calls = next i; changes = listed i }) ∙ ap (λ t. with_none t path) view

-- what reading answers, by what was found among the entries
pub read-found : (tree : Memory) (es : Entries) (calls : CallList) (changes : List Change) (path : List ℕ) (found : Option (List ℕ)) (read : FileRead)
    → memory es calls changes ≡ tree → found ≡ lookup (at_path path) es → read ≡ file_read found → read ≡ file_read (map.get tree.held path)
read-found tree es calls changes path found read view there is =
    is ∙ ap file_read (there ∙ sym (get-lookup es path) ∙ ap (λ t. map.get t.held path) view)
