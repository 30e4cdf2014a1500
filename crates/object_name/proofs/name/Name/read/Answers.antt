use Rattle.std.proofs.Common.{◌∙◌, sym, ap, length}
use Rattle.object_name.specs.Name.{ObjectName}
use Rattle.object_name.proofs.NameLemmas.{HasParts-spelled, length-spelling, none_named, some_named, spelling-HasParts, size_part}
use Rattle.object_name.proofs.name.Name.read.Goals as goal

pub returns-then-text-ne-SPELLING_LEN-clause-only : goal.returns-then-text-ne-SPELLING_LEN-clause-only
returns-then-text-ne-SPELLING_LEN-clause-only c n is e =
    let len = ap length e ∙ length-spelling n is in
    absurd (c.if-text-ne-SPELLING_LEN.true len)

pub returns-then-text-ne-SPELLING_LEN-clause-exact : goal.returns-then-text-ne-SPELLING_LEN-clause-exact
returns-then-text-ne-SPELLING_LEN-clause-exact c = none_named c.args.text.now (returns-then-text-ne-SPELLING_LEN-clause-only c)

pub returns-in_err-kind-clause-only : goal.returns-in_err-kind-clause-only
returns-in_err-kind-clause-only c n is e =
    let parts = HasParts-spelled c.args.text.now n is e in
    let read = sym c.in_err-kind.was ∙ c.of_letter.ensures.only n.kind parts.letter in
    cc read

pub returns-in_err-kind-clause-exact : goal.returns-in_err-kind-clause-exact
returns-in_err-kind-clause-exact c =
    c.from_residual.ensures ∙ none_named c.args.text.now (λ n is e. sym c.from_residual.ensures ∙ returns-in_err-kind-clause-only c n is e)

pub returns-in_err-digest-clause-only : goal.returns-in_err-digest-clause-only
returns-in_err-digest-clause-only c n is e =
    let parts = HasParts-spelled c.args.text.now n is e in
    let read = sym c.in_err-digest.was ∙ c.read_digest.ensures.only n.digest is.bytes is.digest parts.digest in
    cc read

pub returns-in_err-digest-clause-exact : goal.returns-in_err-digest-clause-exact
returns-in_err-digest-clause-exact c =
    c.from_residual-in_err-digest.ensures ∙ none_named c.args.text.now (λ n is e. sym c.from_residual-in_err-digest.ensures ∙ returns-in_err-digest-clause-only c n is e)

pub returns-in_err-size-clause-only : goal.returns-in_err-size-clause-only
returns-in_err-size-clause-only c n is e =
    let parts = HasParts-spelled c.args.text.now n is e in
    let read = sym c.in_err-size.was ∙ c.read_size.ensures.only n.size is.size (size_part c.args.text.now ∙ parts.size) in
    cc read

pub returns-in_err-size-clause-exact : goal.returns-in_err-size-clause-exact
returns-in_err-size-clause-exact c =
    c.from_residual-in_err-size.ensures ∙ none_named c.args.text.now (λ n is e. sym c.from_residual-in_err-size.ensures ∙ returns-in_err-size-clause-only c n is e)

pub returns-clause-found : goal.returns-clause-found
returns-clause-found c =
    let digest = c.in_ok-digest.ensures.found in
    let size = c.in_ok-size.ensures.found in
    let n : ObjectName = record { kind = c.in_ok-kind.kind; digest = c.in_ok-digest.digest; size = c.in_ok-size.size } in (
      record { digest = digest.2; bytes = digest.1; size = size.1 },
      spelling-HasParts c.args.text.now n c.if-text-ne-SPELLING_LEN.false
          (record { letter = c.in_ok-kind.ensures.found; digest = digest.0; size = sym (size_part c.args.text.now) ∙ size.0 }),
    )

pub returns-clause-only : goal.returns-clause-only
returns-clause-only c n is e =
    let found = returns-clause-found c in
    some_named c.args.text.now _ found.0 found.1 ∙ sym (some_named c.args.text.now n is e)

pub returns-clause-exact : goal.returns-clause-exact
returns-clause-exact c = let found = returns-clause-found c in some_named c.args.text.now _ found.0 found.1
