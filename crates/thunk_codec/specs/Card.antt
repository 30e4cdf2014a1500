-- Cards of tools: the bytes of a function that names a tool.
use Rattle.std.specs.Prelude.{ℕ, List, [], ◌∷◌, ◌++◌, codes}

-- the card of the tool of a name: `gg-tool `, the name and a line feed
abbrev pub card_text : List ℕ → List ℕ
card_text name = codes "gg-tool " ++ (name ++ 10 ∷ [])
