-- References gathered item by item.
use Rattle.std.proofs.Common.{◌≡◌, ◌≤◌, ◌<◌, ◌+◌, ℕ, List, [], ◌∷◌, ◌++◌, length, take, drop, get_or, refl, sym, ap, subst, ◌∙◌}
use Rattle.std.specs.Prelude.{All, Result, Ok, Err, IsErr, IsErrAnd}
use Rattle.std.proofs.lemmas.List.{take_more, drop_more, take_all, take-append-drop}
use Rattle.std.proofs.lemmas.List.Elements.{All-push}
use Rattle.thunk_codec.specs.declared.reference.Ref.{Ref}
use Rattle.thunk_codec.specs.Reference.{IsRef}
use Rattle.file_tree.specs.Files.{Files}
use Rattle.object_name.specs.Causes.{TriesAtMost}
use Rattle.file_tree.specs.declared.change.Change.{Change}
use Rattle.file_tree.specs.Wanted.{ref_of_item, refs_of, item_then}
use Rattle.file_tree.specs.declared.item.Item.{Item}
use Rattle.file_tree.specs.WantAnswers.{Answers}
use Rattle.file_tree.specs.declared.refusal.FileRefusal.{FileRefusal}
use Rattle.file_tree.specs.declared.refusal.WantFault.{WantFault}
use Rattle.file_tree.specs.declared.refusal.WantFault.TheVariants.{Refused, Failed, Memory}

-- the references of the items up to a place are there, and the files and their changes are as they were
pub record HasGathered {T : Type 0} (tells : Type 0) (files : T → Files) (changes : T → List Change) (faults calls : T → ℕ) (retries : ℕ) (old now : T) (items : List Item) (index : ℕ) (refs : List Ref) : Type 0 where
  pub so_far : tells → refs_of (files old) (take index items) ≡ Ok refs
  pub same : tells → files now ≡ files old
  pub list : tells → changes now ≡ changes old
  pub later : faults old ≤ faults now
  pub tries : tells → TriesAtMost retries calls faults old now 0
  pub all_refs : All IsRef refs

-- references before others
abbrev refs_before : List Ref → Result (List Ref) FileRefusal → Result (List Ref) FileRefusal
refs_before refs (Ok later) = Ok (refs ++ later)
refs_before refs (Err refusal) = Err refusal

-- the references of some items and of those after them
abbrev joined : Result (List Ref) FileRefusal → Result (List Ref) FileRefusal → Result (List Ref) FileRefusal
joined (Ok refs) later = refs_before refs later
joined (Err refusal) later = Err refusal

joined-item : (first : Result Ref FileRefusal) (refs later : Result (List Ref) FileRefusal) → item_then first (joined refs later) ≡ joined (item_then first refs) later
joined-item (Err refusal) refs later = refl
joined-item (Ok ref) (Err refusal) later = refl
joined-item (Ok ref) (Ok refs) (Err refusal) = refl
joined-item (Ok ref) (Ok refs) (Ok later) = refl

joined-none : (later : Result (List Ref) FileRefusal) → later ≡ joined (Ok []) later
joined-none (Ok later) = refl
joined-none (Err refusal) = refl

module _ (files : Files) where
  pub no_refs : refs_of files [] ≡ Ok []
  unfolding refs_of
  no_refs = refl

  refs_of-item : (item : Item) (items : List Item) → refs_of files (item ∷ items) ≡ item_then (ref_of_item files item) (refs_of files items)
  unfolding refs_of
  refs_of-item item items = refl

  refs_of-append : (first later : List Item) → refs_of files (first ++ later) ≡ joined (refs_of files first) (refs_of files later)
  refs_of-append [] later = joined-none (refs_of files later) ∙ ap (λ r. joined r (refs_of files later)) (sym no_refs)
  refs_of-append (item ∷ first) later =
      refs_of-item item (first ++ later) ∙ ap (item_then (ref_of_item files item)) (refs_of-append first later)
      ∙ joined-item (ref_of_item files item) (refs_of files first) (refs_of files later) ∙ ap (λ r. joined r (refs_of files later)) (sym (refs_of-item item first))

  module _ (items : List Item) (index : ℕ) (refs : List Ref) (so_far : refs_of files (take index items) ≡ Ok refs) where
    -- no item is left
    pub all_gathered : length items ≤ index → refs_of files items ≡ Ok refs
    all_gathered le = ap (refs_of files) (sym (take_all index items le)) ∙ so_far

    module _ (item : Item) (lt : index < length items) (at : item ≡ get_or items index item) where
      -- the next item has a reference
      pub one_more : (ref : Ref) → ref_of_item files item ≡ Ok ref → refs_of files (take (index + 1) items) ≡ Ok (refs ++ ref ∷ [])
      one_more ref is =
          ap (refs_of files) (take_more items index item lt ∙ ap (λ last. take index items ++ last ∷ []) (sym at))
          ∙ refs_of-append (take index items) (item ∷ [])
          ∙ ap (λ r. joined r (refs_of files (item ∷ []))) so_far
          ∙ ap (refs_before refs) (refs_of-item item [] ∙ ap (item_then (ref_of_item files item)) no_refs ∙ ap (λ r. item_then r (Ok [])) is)

      -- the next item is refused
      pub one_refused : (refusal : FileRefusal) → ref_of_item files item ≡ Err refusal → refs_of files items ≡ Err refusal
      one_refused refusal is =
          ap (refs_of files) (sym (take-append-drop index items) ∙ ap (λ rest. take index items ++ rest) (drop_more items index item lt ∙ ap (λ first. first ∷ drop (index + 1) items) (sym at)))
          ∙ refs_of-append (take index items) (item ∷ drop (index + 1) items)
          ∙ ap (λ r. joined r (refs_of files (item ∷ drop (index + 1) items))) so_far
          ∙ ap (refs_before refs) (refs_of-item item (drop (index + 1) items) ∙ ap (λ r. item_then r (refs_of files (drop (index + 1) items))) is)

-- the fault that an item ends with is that of all the items
pub refused : (old now : Files) (items : List Item) (index : ℕ) (refs : List Ref) → refs_of old (take index items) ≡ Ok refs → now ≡ old
    → (item : Item) → index < length items → item ≡ get_or items index item → (fault : WantFault) (result : Result (List Ref) WantFault) → IsErr result × IsErrAnd result (λ other. other ≡ fault)
    → Answers (ref_of_item now item) (Err fault) → Answers (refs_of old items) result
refused old now items index refs so_far same item lt at fault (Ok value) is answers = absurd is.1
refused old now items index refs so_far same item lt at fault (Err other) is answers = rw is.1 (by fault answers) where
  by : (fault : WantFault) → Answers {T = Ref} (ref_of_item now item) (Err fault) → Answers {T = List Ref} (refs_of old items) (Err fault)
  by (Refused refusal) answers = one_refused old items index refs so_far item lt at refusal (ap (λ f. ref_of_item f item) (sym same) ∙ answers)
  by Failed answers = tt
  by Memory answers = tt

-- the reference of an item is one more
pub gathered : (old now : Files) (items : List Item) (index : ℕ) (refs : List Ref) → refs_of old (take index items) ≡ Ok refs → now ≡ old
    → (item : Item) → index < length items → item ≡ get_or items index item → (ref : Ref) (more : List Ref) → more ≡ refs ++ ref ∷ []
    → ref_of_item now item ≡ Ok ref → refs_of old (take (index + 1) items) ≡ Ok more
gathered old now items index refs so_far same item lt at ref more is answers =
    one_more old items index refs so_far item lt at ref (ap (λ f. ref_of_item f item) (sym same) ∙ answers) ∙ ap Ok (sym is)

-- and it names an object of its kind, as those before it
pub all_refs-more : (refs more : List Ref) (ref : Ref) → more ≡ refs ++ ref ∷ [] → All IsRef refs → IsRef ref → All IsRef more
all_refs-more refs more ref is are one = subst (All IsRef) (sym is) (All-push IsRef refs ref are one)
