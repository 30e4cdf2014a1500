use Rattle.std.proofs.Common.{◌≤◌, List, ℕ, length, sym, subst}
use Rattle.object_name.specs.Name.{max_size}
use Rattle.thunk_codec.specs.Job.{max_job}
use Rattle.thunk_codec.proofs.PublicLaws.{job_of-keeps_rules, job_of-size}
use Rattle.force_pool.proofs.making.prepared.Goals as goal

pub invariant_of-result : goal.invariant_of-result
invariant_of-result c = record {
  small_text = subst (λ (text : List ℕ). length text ≤ max_size) (sym c.requires.text.text) c.requires.text.rules.size;
  small_job = subst (λ size. size ≤ max_job) (sym (job_of-size c.args.thunk.now c.args.job c.requires.parts)) c.requires.small;
  rules = job_of-keeps_rules c.args.thunk.now c.args.job c.requires.text.rules c.requires.parts;
}
