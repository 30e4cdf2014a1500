use Rattle.std.proofs.Common.{ℕ, ◌<◌, List, [], ◌∷◌, string_bytes, ap, ◌∙◌, subst, sym}
use Rattle.folder_files.proofs.whole_file.path_in.Goals as goal
use Rattle.folder_files.proofs.PathGrown.{path_grown}

pub letters-preserved : goal.letters-preserved
letters-preserved c = λ ascii.
    let inside : List ℕ = c.args.inside.now in
    let small : c.from.result < 128 = subst (λ letter. letter < 128) (sym c.from.ensures) (ascii c.letters.letter-index) in
    path_grown c.args.folder.now inside (string_bytes c.letters.path) (string_bytes c.push.new.self) _ c.letters.letter-index
    c.letters-test.true (c.letters.invariant ascii) c.in_ok-push.ensures.bytes
    (c.in_ok-push.ensures.ascii small ∙ ap (λ letter. letter ∷ []) c.from.ensures)
