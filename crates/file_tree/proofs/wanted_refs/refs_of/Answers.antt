use Rattle.std.proofs.Common.{rules, ◌∙◌}
use Rattle.file_tree.proofs.GatheredRefs.{no_refs, gathered, refused, all_refs-more}
use Rattle.file_tree.proofs.wanted_refs.refs_of.Goals as goal

pub items-init : goal.items-init
items-init g c =
    record {
      so_far = λ tells. search (no_refs, rules);
      same = λ tells. search rules;
      list = λ tells. search rules;
      later = search rules;
      tries = search rules;
      all_refs = search rules;
    }

pub returns-in_err-reference-clause-exact : goal.returns-in_err-reference-clause-exact
returns-in_err-reference-clause-exact g c tells =
    refused (g.T.Tree.files c.args.tree.now) (g.T.Tree.files c.items.tree) c.args.items.now c.items.item-index c.items.refs (c.items.invariant.so_far tells) (c.items.invariant.same tells)
    c.item-item.result c.items-test.true c.item-item.is _ _ c.from_residual.ensures (c.in_err-reference.ensures.exact tells)

pub items-preserved : goal.items-preserved
items-preserved g c =
    record {
      so_far = λ tells. gathered (g.T.Tree.files c.args.tree.now) (g.T.Tree.files c.items.tree) c.args.items.now c.items.item-index c.items.refs (c.items.invariant.so_far tells) (c.items.invariant.same tells)
          c.item-item.result c.items-test.true c.item-item.is c.in_ok-reference.reference c.push.new.self c.in_ok-push.ensures.ok (c.in_ok-reference.ensures.exact tells);
      same = λ tells. c.in_ok-reference.ensures.same tells ∙ c.items.invariant.same tells;
      list = λ tells. c.in_ok-reference.ensures.list tells ∙ c.items.invariant.list tells;
      later = search rules;
      tries = search rules;
      all_refs = all_refs-more c.items.refs c.push.new.self c.in_ok-reference.reference c.in_ok-push.ensures.ok c.items.invariant.all_refs c.in_ok-reference.ensures.refs;
    }
