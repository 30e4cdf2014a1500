-- The text of some pieces is that of the first and that of the others.
use Rattle.std.proofs.Common.{◌≡◌, ◌-◌, ◌≤◌, List, [], ◌∷◌, ◌++◌, length, take, drop, get_or, sym, ap, ◌∙◌, append-nil, arith}
use Rattle.std.proofs.lemmas.List.{take_rest}
use Rattle.gg_cli.specs.declared.pieces.Piece.{Piece}
use Rattle.gg_cli.specs.Pieces.{piece_text, pieces_text}

pub pieces_text-more : (pieces : List Piece) (first : Piece) → 1 ≤ length pieces → first ≡ get_or pieces 0 first → pieces_text pieces ≡ piece_text first ++ pieces_text (take (length pieces - 1) (drop 1 pieces))
pieces_text-more [] first some is = absurd (omega (arith, some))
pieces_text-more (piece ∷ []) first some is = sym (append-nil (piece_text piece)) ∙ ap (λ p. piece_text p ++ []) (sym is)
pieces_text-more (piece ∷ next ∷ rest) first some is =
    ap (λ p. piece_text p ++ pieces_text (next ∷ rest)) (sym is) ∙ ap (λ l. piece_text first ++ pieces_text l) (sym (take_rest (piece ∷ next ∷ rest) 1))
