use Rattle.std.proofs.Common.{◌≡◌, ◌<◌, ◌∙◌, sym, refl, length, List, Some}
use Rattle.std.specs.Prelude.{slice_get}
use Rattle.std.proofs.lemmas.Option.{slice_get_read}
use Rattle.force_core.specs.Book.{Task}
use Rattle.force_core.proofs.Indexed.{index-replied}
use Rattle.force_core.proofs.Replied.{replied-count, replied-size}
use Rattle.force_core.proofs.tasks.Tasks.reply.Goals as goal

pub invariant_of-self : goal.invariant_of-self
invariant_of-self g c =
    let items : List Task = c.self.inside.entries.items in
    let task : Task = c.index_mut.result.now in
    let within : c.args.id < length items = rw (← c.self.view_is) at c.requires.within in
    let found : slice_get items c.args.id ≡ Some task = slice_get_read items (length items) c.args.id task refl within c.index_mut.ensures.value in (
      c.self.invariant.0,
      c.self.invariant.1,
      c.self.invariant.2 ∙ sym (replied-count items c.args.id task c.reply.new.self c.args.sealed c.reply.result c.reply.ensures.replied within c.index_mut.ensures.value),
      c.self.invariant.3 ∙ sym (replied-size items c.args.id task c.reply.new.self c.args.sealed c.reply.result c.reply.ensures.replied within c.index_mut.ensures.value),
      index-replied c.self.inside.index items c.args.id task c.reply.new.self c.args.sealed c.reply.result c.self.invariant.4 found c.reply.ensures.replied,
      c.self.invariant.5,
      c.self.invariant.6,
    )

pub returns-clause-replied : goal.returns-clause-replied
returns-clause-replied g c =
    let items : List Task = c.self.inside.entries.items in
    let within : c.args.id < length items = rw (← c.self.view_is) at c.requires.within in
    rw (← c.self.view_is) (record {
      task = c.index_mut.result.now;
      next = c.reply.new.self;
      found = slice_get_read items (length items) c.args.id c.index_mut.result.now refl within c.index_mut.ensures.value;
      set = refl;
      replied = c.reply.ensures.replied;
    })

pub returns-clause-agrees : goal.returns-clause-agrees
returns-clause-agrees g c =
    let items : List Task = c.self.inside.entries.items in
    let within : c.args.id < length items = rw (← c.self.view_is) at c.requires.within in
    rw (← c.self.view_is) (rw (slice_get_read items (length items) c.args.id c.index_mut.result.now refl within c.index_mut.ensures.value) c.reply.ensures.agrees)
