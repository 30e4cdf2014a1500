-- Texts that are paths as they stand.
use Rattle.std.proofs.Common.{◌≡◌, ℕ, ◌<◌, Bool, true, false, List, length, map, get_or, Option, Some, None, refl, sym, ap, ◌∙◌}
use Rattle.std.specs.Prelude.{bytes_eq}
use Rattle.std.specs.List.{list_all}
use Rattle.std.proofs.lemmas.List.Folds.{list_all_at, list_all-map}
use Rattle.thunk_codec.specs.declared.decoding.DecodeFault.{DecodeFault}
use Rattle.thunk_codec.specs.declared.decoding.DecodeFault.TheVariants.{BadThunk, Memory}
use Rattle.thunk_codec.specs.declared.reference.Ref.{Ref}
use Rattle.thunk_codec.specs.Gives.{Refuses, only_if}
use Rattle.thunk_codec.specs.Path.{path_of, is_path, is_same_path}

pub only_if_none : {Y : Type 0} (test : Bool) (x : Y) → test ≡ false → only_if test x ≡ None
only_if_none test x e = rw e refl

pub none_is_false : {Y : Type 0} (test : Bool) (x : Y) → only_if test x ≡ None → test ≡ false
none_is_false true x e = absurd cc
none_is_false false x e = refl

-- a text without a path is none
pub no_path : (text : List ℕ) (found : Option (List ℕ)) → found ≡ path_of text → found ≡ None → only_if (is_path text) text ≡ None
unfolding is_path
no_path text found e none = only_if_none (is_same_path text (path_of text)) text (ap (is_same_path text) (sym e ∙ none))

-- nor is a text whose path is another
pub other_path : (text path : List ℕ) (found : Option (List ℕ)) → found ≡ path_of text → found ≡ Some path → bytes_eq path text ≡ false → only_if (is_path text) text ≡ None
unfolding is_path
other_path text path found e some other = only_if_none (is_same_path text (path_of text)) text (ap (is_same_path text) (sym e ∙ some) ∙ other)

-- an input whose text is no path
pub input_refused : (fault : DecodeFault) (inputs : List (List ℕ × Ref)) (i : ℕ) (input : List ℕ × Ref) → i < length inputs → input ≡ get_or inputs i input
    → Refuses fault (only_if (is_path input.0) input.0) → Refuses fault (only_if (list_all is_path (map (λ x. x.0) inputs)) inputs)
input_refused BadThunk inputs i input lt is refused =
    let no : is_path (get_or inputs i input).0 ≡ false = ap (λ (x : List ℕ × Ref). is_path x.0) (sym is) ∙ none_is_false (is_path input.0) input.0 refused in
    only_if_none (list_all is_path (map (λ x. x.0) inputs)) inputs (list_all-map is_path (λ (x : List ℕ × Ref). x.0) inputs ∙ list_all_at (λ (x : List ℕ × Ref). is_path x.0) inputs i input lt no)
input_refused Memory inputs i input lt is refused = tt
