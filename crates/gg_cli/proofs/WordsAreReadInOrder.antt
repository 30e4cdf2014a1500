-- Reading words, one after another.
use Rattle.std.proofs.Common.{◌≡◌, ℕ, ◌+◌, ◌-◌, ◌<◌, ◌≤◌, List, [], ◌∷◌, ◌++◌, length, map, take, drop, get_or, true, false, Option, Some, None, Result, Ok, Err, IsErr, IsErrAnd, refl, sym, ap, ◌∙◌, append_assoc, append-nil, arith}
use Rattle.std.specs.Prelude.{nat_eq, codes}
use Rattle.std.specs.List.{starts_with}
use Rattle.std.proofs.lemmas.List.{drop_more, drop_all, take_rest}
use Rattle.thunk_codec.specs.declared.reference.Ref.{Ref}
use Rattle.text_lines.specs.Maybe.{◌>>=◌}
use Rattle.thunk_codec.specs.Path.{path_of}
use Rattle.thunk_codec.specs.Reference.{ref_of}
use Rattle.file_tree.specs.declared.item.Item.{Item}
use Rattle.file_tree.specs.declared.item.Item.TheVariants.{File, Bare}
use Rattle.gg_cli.specs.declared.word_fault.WordFault.{WordFault}
use Rattle.gg_cli.specs.declared.word_fault.WordFault.TheVariants.{Usage, Memory}
use Rattle.gg_cli.specs.declared.force_words.Options.{Options}
use Rattle.gg_cli.specs.ForceWords.{with_option, options_of}
use Rattle.gg_cli.specs.ItemWords.{item_by, item_of, items_in}
use Rattle.gg_cli.specs.Reading.{Refuses, Finds}

-- ---- one item

pub item_of-option : (word : List ℕ) → starts_with nat_eq word (codes "-") ≡ true → item_of word ≡ None
unfolding item_of
item_of-option word is = rw is refl

item_of-other : (word : List ℕ) → starts_with nat_eq word (codes "-") ≡ false → item_of word ≡ item_by word (ref_of word)
unfolding item_of
item_of-other word is = rw is refl

pub item_of-ref : (word : List ℕ) (ref : Ref) → starts_with nat_eq word (codes "-") ≡ false → ref_of word ≡ Some ref → item_of word ≡ Some (Bare ref)
item_of-ref word ref other is = item_of-other word other ∙ ap (item_by word) is

pub item_of-path : (word path : List ℕ) → starts_with nat_eq word (codes "-") ≡ false → ref_of word ≡ None → path_of word ≡ Some path → item_of word ≡ Some (File path)
item_of-path word path other no_ref is = item_of-other word other ∙ ap (item_by word) no_ref ∙ rw is refl

pub item_of-none : (word : List ℕ) → starts_with nat_eq word (codes "-") ≡ false → ref_of word ≡ None → path_of word ≡ None → item_of word ≡ None
item_of-none word other no_ref is = item_of-other word other ∙ ap (item_by word) no_ref ∙ rw is refl

-- ---- the options

-- an option and its value are read
pub options_of-more : {X : Type 0} (bytes : X → List ℕ) (given more : Options) (left : List X) (word value : X) → 2 ≤ length left → word ≡ get_or left 0 word → value ≡ get_or left 1 value
    → with_option given (bytes word) (bytes value) ≡ Some more → options_of given (map bytes left) ≡ options_of more (map bytes (take (length left - 2) (drop 2 left)))
options_of-more bytes given more [] word value two w v is = absurd (omega (arith, two))
options_of-more bytes given more (first ∷ []) word value two w v is = absurd (omega (arith, two))
options_of-more bytes given more (first ∷ second ∷ rest) word value two w v is =
    let here : with_option given (bytes first) (bytes second) ≡ Some more = sym (λ i. with_option given (bytes (w i)) (bytes (v i))) ∙ is in
    rw (here, options_of) (ap (λ l. options_of more (map bytes l)) (sym (take_rest (first ∷ second ∷ rest) 2)))

-- ---- the items

-- these items, and then what else is found
abbrev pub then_found : List Item → Option (List Item) → Option (List Item)
then_found items None = None
then_found items (Some others) = Some (items ++ others)

-- these items are read, and what is left isn't
abbrev pub ReadsItems : List (List ℕ) → List Item → List (List ℕ) → Type 0
ReadsItems words items left = items_in words ≡ then_found items (items_in left)

then_found_more : (items : List Item) (item : Item) (found : Option (List Item)) → then_found items (found >>= λ others. Some (item ∷ others)) ≡ then_found (items ++ item ∷ []) found
then_found_more items item None = refl
then_found_more items item (Some others) = ap Some (sym (append_assoc items (item ∷ []) others))

-- the next word is the item
next_read : (word : List ℕ) (left : List (List ℕ)) (items : List Item) (item : Item) → item_of word ≡ Some item → then_found items (items_in (word ∷ left)) ≡ then_found (items ++ item ∷ []) (items_in left)
unfolding items_in
next_read word left items item is = rw is (then_found_more items item (items_in left))

-- the next word is none
next_refused : (word : List ℕ) (left : List (List ℕ)) (items : List Item) → item_of word ≡ None → then_found items (items_in (word ∷ left)) ≡ None
unfolding items_in
next_refused word left items is = rw is refl

nothing_left : (items : List Item) → then_found items (items_in []) ≡ Some items
unfolding items_in
nothing_left items = ap Some (append-nil items)

module _ {X : Type 0} (bytes : X → List ℕ) (words : List X) (index : ℕ) (items : List Item) (reads : ReadsItems (map bytes words) items (map bytes (drop index words))) where
  next_word : (word : X) → index < length words → word ≡ get_or words index word → map bytes (drop index words) ≡ bytes word ∷ map bytes (drop (index + 1) words)
  next_word word lt at = ap (map bytes) (drop_more words index word lt ∙ ap (λ first. first ∷ drop (index + 1) words) (sym at))

  -- one word more is read
  pub ReadsItems-more : (word : X) (item : Item) → index < length words → word ≡ get_or words index word → item_of (bytes word) ≡ Some item
      → ReadsItems (map bytes words) (items ++ item ∷ []) (map bytes (drop (index + 1) words))
  ReadsItems-more word item lt at is = reads ∙ ap (λ left. then_found items (items_in left)) (next_word word lt at) ∙ next_read (bytes word) (map bytes (drop (index + 1) words)) items item is

  -- a word that is none
  ReadsItems-stop : (word : X) → index < length words → word ≡ get_or words index word → item_of (bytes word) ≡ None → items_in (map bytes words) ≡ None
  ReadsItems-stop word lt at is = reads ∙ ap (λ left. then_found items (items_in left)) (next_word word lt at) ∙ next_refused (bytes word) (map bytes (drop (index + 1) words)) items is

  -- the refusal of a word is that of the words
  pub ReadsItems-refused : {T : Type 0} (word : X) → index < length words → word ≡ get_or words index word → (fault : WordFault) → Refuses fault (item_of (bytes word))
      → (result : Result T WordFault) → IsErr result × IsErrAnd result (λ other. other ≡ fault) → (wanted : Option T) → (items_in (map bytes words) ≡ None → wanted ≡ None) → Finds result wanted
  ReadsItems-refused word lt at fault refuses (Ok found) is wanted none = absurd is.1
  ReadsItems-refused word lt at Usage refuses (Err other) is wanted none = rw is.1 (none (ReadsItems-stop word lt at refuses))
  ReadsItems-refused word lt at Memory refuses (Err other) is wanted none = rw is.1 tt

  -- all words are read
  pub ReadsItems-all : length words ≤ index → items_in (map bytes words) ≡ Some items
  ReadsItems-all le = reads ∙ ap (λ left. then_found items (items_in (map bytes left))) (drop_all index words le) ∙ nothing_left items
