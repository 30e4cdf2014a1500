-- Items that repeat one before them.
use Rattle.std.proofs.Common.{◌≡◌, ℕ, ◌+◌, ◌<◌, ◌≤◌, Bool, true, false, cond, List, [], ◌∷◌, ◌++◌, length, map, take, drop, get_or, Some, None, refl, sym, ap, ◌∙◌}
use Rattle.std.specs.Prelude.{◌||◌, bytes_eq}
use Rattle.std.specs.List.{list_any}
use Rattle.std.proofs.lemmas.Bool.Decides.{same_from_decides}
use Rattle.std.proofs.lemmas.List.{take_more, drop_more, drop_all, map-append}
use Rattle.std.proofs.lemmas.List.Folds.{list_any-append}
use Rattle.std.proofs.lemmas.Slice.Eq.{bytes_eq-Decides}
use Rattle.file_tree.specs.Wanted.{item_text, full_text, first_repeated}
use Rattle.file_tree.specs.declared.item.Item.{Item}

no_more_repeated : (earlier : List (List ℕ)) → first_repeated earlier [] ≡ None
unfolding first_repeated
no_more_repeated earlier = refl

repeated_here : (earlier : List (List ℕ)) (item : Item) (items : List Item) → list_any (bytes_eq (full_text item)) earlier ≡ true → first_repeated earlier (item ∷ items) ≡ Some (item_text item)
unfolding first_repeated
repeated_here earlier item items is = rw is refl

repeated_later : (earlier : List (List ℕ)) (item : Item) (items : List Item) → list_any (bytes_eq (full_text item)) earlier ≡ false
    → first_repeated earlier (item ∷ items) ≡ first_repeated (earlier ++ full_text item ∷ []) items
unfolding first_repeated
repeated_later earlier item items is = rw is refl

abbrev texts_of : List Item → List (List ℕ)
texts_of items = map full_text items

-- the items up to an index have been looked at, and none is repeated among them
pub record HasLooked (items : List Item) (index : ℕ) (seen : List (List ℕ)) : Type 0 where
  pub so_far : first_repeated [] items ≡ first_repeated (texts_of (take index items)) (drop index items)
  pub among : (text : List ℕ) → list_any (bytes_eq text) seen ≡ list_any (bytes_eq text) (texts_of (take index items))

either_way : (a b : List ℕ) → bytes_eq a b ≡ bytes_eq b a
either_way a b = same_from_decides (bytes_eq a b) (bytes_eq b a) (bytes_eq-Decides a b) ((λ e. sym ((bytes_eq-Decides b a).0 e)), (λ e. (bytes_eq-Decides b a).1 (sym e)))

one_more : (a b : Bool) → cond a true b ≡ (b || (a || false))
one_more true true = refl
one_more true false = refl
one_more false true = refl
one_more false false = refl

module _ (items : List Item) (index : ℕ) (seen : List (List ℕ)) (looked : HasLooked items index seen) where
  -- no item is left
  pub none_repeated : length items ≤ index → first_repeated [] items ≡ None
  none_repeated le = looked.so_far ∙ ap (first_repeated (texts_of (take index items))) (drop_all index items le) ∙ no_more_repeated (texts_of (take index items))

  module _ (item : Item) (text : List ℕ) (lt : index < length items) (at : item ≡ get_or items index item) (is : text ≡ full_text item) where
    next_item : drop index items ≡ item ∷ drop (index + 1) items
    next_item = drop_more items index item lt ∙ ap (λ first. first ∷ drop (index + 1) items) (sym at)

    taken : texts_of (take (index + 1) items) ≡ texts_of (take index items) ++ text ∷ []
    taken =
        ap texts_of (take_more items index item lt ∙ ap (λ last. take index items ++ last ∷ []) (sym at))
        ∙ map-append full_text (take index items) (item ∷ []) ∙ ap (λ last. texts_of (take index items) ++ last ∷ []) (sym is)

    -- the next item repeats one before it
    pub is_repeated : list_any (bytes_eq text) seen ≡ true → first_repeated [] items ≡ Some (item_text item)
    is_repeated there =
        looked.so_far ∙ ap (first_repeated (texts_of (take index items))) next_item
        ∙ repeated_here (texts_of (take index items)) item (drop (index + 1) items)
        (ap (λ full. list_any (bytes_eq full) (texts_of (take index items))) (sym is) ∙ sym (looked.among text) ∙ there)

    -- the next item doesn't
    pub not_repeated : (after : List (List ℕ)) → list_any (bytes_eq text) seen ≡ false
        → ((other : List ℕ) → list_any (bytes_eq other) after ≡ cond (bytes_eq text other) true (list_any (bytes_eq other) seen)) → HasLooked items (index + 1) after
    not_repeated after absent put =
        record {
          so_far = looked.so_far ∙ ap (first_repeated (texts_of (take index items))) next_item
              ∙ repeated_later (texts_of (take index items)) item (drop (index + 1) items)
              (ap (λ full. list_any (bytes_eq full) (texts_of (take index items))) (sym is) ∙ sym (looked.among text) ∙ absent)
              ∙ ap (λ full. first_repeated (texts_of (take index items) ++ full ∷ []) (drop (index + 1) items)) (sym is)
              ∙ ap (λ earlier. first_repeated earlier (drop (index + 1) items)) (sym taken);
          among = λ other.
              put other
              ∙ ap (λ b. cond b true (list_any (bytes_eq other) seen)) (either_way text other)
              ∙ one_more (bytes_eq other text) (list_any (bytes_eq other) seen)
              ∙ ap (λ b. b || (bytes_eq other text || false)) (looked.among other)
              ∙ sym (ap (list_any (bytes_eq other)) taken ∙ list_any-append (bytes_eq other) (texts_of (take index items)) (text ∷ []));
        }
