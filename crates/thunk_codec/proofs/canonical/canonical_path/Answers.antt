use Rattle.std.proofs.Common.{ap, sym, ◌∙◌, List, ℕ}
use Rattle.std.specs.Prelude.{bytes_eq}
use Rattle.std.proofs.lemmas.Bool.{not-true}
use Rattle.thunk_codec.proofs.CanonicalPaths.{no_path, other_path}
use Rattle.thunk_codec.proofs.canonical.canonical_path.Goals as goal

pub returns-in_default : goal.returns-in_default
returns-in_default c = no_path c.args.text.now c.in_ok-path.field-0 c.in_ok-path.ensures c.in_default.is

pub returns-then-ne : goal.returns-then-ne
returns-then-ne c =
    other_path c.args.text.now c.in-Some.path c.in_ok-path.field-0 c.in_ok-path.ensures c.in-Some.is
    (ap (λ (v : List ℕ). bytes_eq v c.args.text.now) (sym c.text.ensures.text) ∙ not-true _ (sym c.ne.ensures ∙ c.if-ne.true))
