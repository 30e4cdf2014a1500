use Rattle.std.proofs.Common.{List, ap, subst, ◌∙◌}
use Rattle.std.proofs.lemmas.Result.{err_from_is_err_and}
use Rattle.object_name.specs.Name.{ObjectName, name_of}
use Rattle.object_name.proofs.PublicLaws.{eq_by_cmp-name}
use Rattle.blob_store.specs.Keeping.{kept}
use Rattle.blob_store.specs.Store.{Write}
use Rattle.need_eval.specs.Eval.{State}
use Rattle.need_eval.specs.Evaluation.{finished}
use Rattle.need_eval.specs.WritePrefix.{IsAt, Stops}
use Rattle.need_eval.specs.WriteContracts.{Puts}
use Rattle.need_eval.proofs.OutcomeIsSupplied.{whole, same-name, supplies-stops, supplies-prefix, supplied}
use Rattle.need_eval.proofs.WalkerStaysSound.{inside-entered, inside-gathered}
use Rattle.need_eval.proofs.walker.Walker.finish.Goals as goal

pub leave-requires-clause-inside : goal.leave-requires-clause-inside
leave-requires-clause-inside g c = inside-entered c.args.self.now.frames.items c.args.self.now.level.rest.items c.requires.inside

pub leave-requires-clause-gathered : goal.leave-requires-clause-gathered
leave-requires-clause-gathered g c = inside-gathered c.args.self.now.frames.items c.args.self.now.level.rest.items c.requires.inside

pub returns-in_err-outputs-clause-supplies : goal.returns-in_err-outputs-clause-supplies
returns-in_err-outputs-clause-supplies g c = λ told stands.
    let p = err_from_is_err_and c.from_residual.result c.from_residual.ensures.1 in
    let w = c.args.self.now in
    let old = kept g.K.Keeper.store g.K.Keeper.writes c.args.keeper.now in
    let now = kept g.K.Keeper.store g.K.Keeper.writes c.keep_outcome.new.keeper in
    let t = whole w old c.args.waiting.now.prepared c.args.outcome.now stands in
    rw (p.1, p.2) (λ answer writes asked answers.
    supplies-stops w old c.args.waiting.now.prepared c.args.outcome.now stands answer writes asked answers now c.in_err-outputs.field-0.0
    (subst (λ (name : ObjectName). (first : List Write) (s : State) → IsAt first s old → Stops first s (finished name t c.args.outcome.now s) now c.in_err-outputs.field-0.0)
    (same-name w old c.args.waiting.now.prepared c.args.outcome.now stands c.innermost_name-name.result c.innermost_name-name.ensures)
    (c.in_err-outputs.ensures.puts told t ((eq_by_cmp-name c.args.waiting.now.note_name (name_of c.args.waiting.now.prepared.text)).0 c.args.waiting.now.named ∙ ap name_of stands.text))))

pub returns-in_err-leave-clause-supplies : goal.returns-in_err-leave-clause-supplies
returns-in_err-leave-clause-supplies g c = λ told stands.
    let p = err_from_is_err_and c.from_residual-in_err-leave.result c.from_residual-in_err-leave.ensures.1 in
    let w = c.args.self.now in
    let old = kept g.K.Keeper.store g.K.Keeper.writes c.args.keeper.now in
    let now = kept g.K.Keeper.store g.K.Keeper.writes c.keep_outcome.new.keeper in
    let t = whole w old c.args.waiting.now.prepared c.args.outcome.now stands in
    rw (p.1, p.2) (λ answer writes asked answers.
    supplies-prefix w old c.args.waiting.now.prepared c.args.outcome.now stands answer writes asked answers c.in_ok-outputs.outputs now
    (subst (λ (name : ObjectName). Puts (finished name t c.args.outcome.now) c.in_ok-outputs.outputs old now)
    (same-name w old c.args.waiting.now.prepared c.args.outcome.now stands c.innermost_name-name.result c.innermost_name-name.ensures)
    (c.in_ok-outputs.ensures.puts told t ((eq_by_cmp-name c.args.waiting.now.note_name (name_of c.args.waiting.now.prepared.text)).0 c.args.waiting.now.named ∙ ap name_of stands.text))))

pub returns-clause-supplies : goal.returns-clause-supplies
returns-clause-supplies g c = λ told stands.
    let w = c.args.self.now in
    let old = kept g.K.Keeper.store g.K.Keeper.writes c.args.keeper.now in
    let now = kept g.K.Keeper.store g.K.Keeper.writes c.keep_outcome.new.keeper in
    let t = whole w old c.args.waiting.now.prepared c.args.outcome.now stands in
    supplied w old c.args.waiting.now.prepared c.args.outcome.now stands c.leave.new.self c.in_ok-outputs.outputs now
    (subst (λ (name : ObjectName). Puts (finished name t c.args.outcome.now) c.in_ok-outputs.outputs old now)
    (same-name w old c.args.waiting.now.prepared c.args.outcome.now stands c.innermost_name-name.result c.innermost_name-name.ensures)
    (c.in_ok-outputs.ensures.puts told t ((eq_by_cmp-name c.args.waiting.now.note_name (name_of c.args.waiting.now.prepared.text)).0 c.args.waiting.now.named ∙ ap name_of stands.text)))
    c.leave.ensures.in_turn.budget c.in_ok-leave.ensures.leaves
