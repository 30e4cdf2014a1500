use Rattle.std.proofs.Common.{IsSome, Option, sym, ap, subst, ◌∙◌}
use Rattle.need_eval.specs.declared.waiting.Waiting.{Waiting}
use Rattle.thunk_codec.specs.Outcome.{Fits}
use Rattle.need_eval.specs.WalkerInvariant.{waiting_in}
use Rattle.need_eval.proofs.OutcomeIsSupplied.{for-blocked, of-blocked, some-waiting}
use Rattle.need_eval.proofs.WalkerStaysSound.{ready-inside}
use Rattle.need_eval.proofs.walker.Walker.supply.Goals as goal

pub into_waiting-waiting-requires : goal.into_waiting-waiting-requires
into_waiting-waiting-requires g c = subst (λ (found : Option Waiting). IsSome found) (ap waiting_in (sym c.replace-stage.ensures.value)) (some-waiting (waiting_in c.args.self.now.stage) c.requires.blocked)

pub finish-requires-clause-inside : goal.finish-requires-clause-inside
finish-requires-clause-inside g c =
    ready-inside c.args.self.now.stage c.into_waiting-waiting.result c.args.self.now.frames.items c.args.self.now.level.rest.items
    (ap waiting_in (sym c.replace-stage.ensures.value) ∙ c.into_waiting-waiting.ensures) c.args.self.now.ready

pub finish-requires-clause-fits : goal.finish-requires-clause-fits
finish-requires-clause-fits g c =
    of-blocked c.args.self.now.stage c.into_waiting-waiting.result (λ prepared. Fits prepared.job c.args.outcome)
    (ap waiting_in (sym c.replace-stage.ensures.value) ∙ c.into_waiting-waiting.ensures) c.requires.fits

pub returns-clause-supplies : goal.returns-clause-supplies
returns-clause-supplies g c = λ told.
    for-blocked c.args.self.now.stage c.into_waiting-waiting.result _ (ap waiting_in (sym c.replace-stage.ensures.value) ∙ c.into_waiting-waiting.ensures)
    (λ stands answer writes asked answers first list. c.in-Err.ensures.supplies told
    (record { inner = stands.inner; outer = stands.outer; frames = stands.frames; no_rest = stands.no_rest; small = stands.small; no_hit = stands.no_hit; text = stands.text; job = stands.job })
    answer writes asked answers first list)

pub returns-in-Ok-clause-supplies : goal.returns-in-Ok-clause-supplies
returns-in-Ok-clause-supplies g c = λ told.
    for-blocked c.args.self.now.stage c.into_waiting-waiting.result _ (ap waiting_in (sym c.replace-stage.ensures.value) ∙ c.into_waiting-waiting.ensures)
    (λ stands. let done = c.in-Ok.ensures.supplies told
    (record { inner = stands.inner; outer = stands.outer; frames = stands.frames; no_rest = stands.no_rest; small = stands.small; no_hit = stands.no_hit; text = stands.text; job = stands.job }) in
    record { made = done.made; put = done.put; list = done.list; goes = done.goes })
