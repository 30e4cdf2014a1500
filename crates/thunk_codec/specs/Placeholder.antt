-- Placeholders: files that stand for an output of a thunk, and their one text.
use Rattle.std.specs.Prelude.{◌≡◌, ℕ, List, [], ◌∷◌, ◌++◌, Option, Some, None, codes}
use Rattle.object_name.specs.Name.{ObjectName}
use Rattle.thunk_codec.specs.declared.reference.Ref.{Ref}
use Rattle.thunk_codec.specs.declared.reference.Ref.TheVariants.{Value, Out}
use Rattle.text_lines.specs.Maybe.{◌>>=◌}
use Rattle.thunk_codec.specs.Reference.{IsRef, ref_text, ref_of}
use Rattle.text_lines.specs.Cuts.{strip_prefix, before_feed}

-- the text: `gg-placeholder 1`, and the REF, each in a line
abbrev pub placeholder_text : ObjectName → ℕ → List ℕ
placeholder_text name index = codes "gg-placeholder 1" ++ 10 ∷ (ref_text (Out name index) ++ 10 ∷ [])

-- the bytes are the text of the placeholder of this output of this thunk
pub record IsPlaceholder (bytes : List ℕ) (name : ObjectName) (index : ℕ) : Type 0 where
  pub output : IsRef (Out name index)
  pub text : bytes ≡ placeholder_text name index

-- the thunk and the index of an output
abbrev pub output_of : Ref → Option (ObjectName × ℕ)
output_of (Value name) = None
output_of (Out name index) = Some (name, index)

-- the output whose placeholder's text this is, if there is one
unfoldable pub placeholder_of : List ℕ → Option (ObjectName × ℕ)
placeholder_of bytes = do
  line ← strip_prefix (codes "gg-placeholder 1" ++ 10 ∷ []) bytes
  text ← before_feed line
  ref ← ref_of text
  output_of ref
