use Rattle.std.proofs.Common.{arith, ap, subst, sym, [], ◌∷◌, ◌++◌, ◌≡◌, ◌∙◌}
use Rattle.object_name.specs.Name.{ObjectName}
use Rattle.object_name.specs.declared.kind.Kind.TheVariants as kinds
use Rattle.thunk_codec.specs.declared.reference.Ref.{Ref}
use Rattle.thunk_codec.proofs.Resolves.{with_values-more, names-more, pushed_as, kind_at}
use Rattle.thunk_codec.proofs.resolving.inputs_with.Goals as goal

pub inputs-preserved : goal.inputs-preserved
inputs-preserved c =
    let lt = c.inputs-test.true in
    let same = c.requires.as_many in
    record {
      made = with_values-more c.args.inputs.now c.args.values.now c.inputs.i c.index-inputs-i.result c.index-values-i.result c.inputs.made c.push.new.self c.in_ok-path.path lt same
          (c.in_ok-path.ensures ∙ ap (λ input. input.0) c.index-inputs-i.is) c.inputs.invariant.made
          (pushed_as c.inputs.made c.push.new.self c.in_ok-path.path c.index-values-i.result _ c.index-values-i.is (c.in_ok-push.ensures.ok ∙ ap (λ (r : Ref). c.inputs.made ++ (c.in_ok-path.path, r) ∷ []) c.value-value.ensures.made));
      names = names-more c.args.values.now c.inputs.i c.index-values-i.result c.index-values-i.result (omega (arith, lt, same)) c.inputs.invariant.names c.index-values-i.is c.value-value.ensures.name;
    }

pub value-value-requires : goal.value-value-requires
value-value-requires c =
    subst (λ (v : ObjectName). v.kind ≡ kinds.Value) (sym c.index-values-i.is)
    (kind_at c.args.values.now c.inputs.i c.index-values-i.result (omega (arith, c.inputs-test.true, c.requires.as_many)) c.requires.kinds)
