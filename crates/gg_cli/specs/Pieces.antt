-- A text by its pieces.
use Rattle.std.specs.Prelude.{ℕ, List, [], ◌∷◌, ◌++◌, decimal}
use Rattle.object_name.specs.Name.{spelling}
use Rattle.gg_cli.specs.declared.pieces.Piece.{Piece}
use Rattle.gg_cli.specs.declared.pieces.Piece.TheVariants.{Text, Spelled, Number}

-- what a piece is written as
abbrev pub piece_text : Piece → List ℕ
piece_text (Text bytes) = bytes.now
piece_text (Spelled name) = spelling name
piece_text (Number number) = decimal number

-- some pieces, one after another
abbrev pub pieces_text : List Piece → List ℕ
pieces_text [] = []
pieces_text (last ∷ []) = piece_text last
pieces_text (first ∷ second ∷ rest) = piece_text first ++ pieces_text (second ∷ rest)
