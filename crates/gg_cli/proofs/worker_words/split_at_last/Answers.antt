use Rattle.std.proofs.Common.{rules, sym}
use Rattle.std.proofs.lemmas.List.{take_rest}
use Rattle.gg_cli.proofs.AddressesAreCut.{split_last, split_none}
use Rattle.gg_cli.proofs.worker_words.split_at_last.Goals as goal

pub returns-in-Some : goal.returns-in-Some
returns-in-Some c =
    let found = split_last c.args.stop c.args.text.now c.in-Some.at (search rules) (search rules) (search rules) in
    rw (found, take_rest)

pub returns-in-None : goal.returns-in-None
returns-in-None c = sym (split_none c.args.stop c.args.text.now (search rules))
