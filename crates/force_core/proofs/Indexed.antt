-- The index after a job more, after an outcome and after one that was taken; what is found by it.
use Rattle.std.proofs.Common.{◌≡◌, ◌≢◌, ℕ, List, [], ◌∷◌, ◌++◌, length, set, Bool, true, false, ◌&&◌, Option, Some, None, refl, ap, sym, ◌∙◌}
use Rattle.std.specs.Prelude.{slice_get, bytes_eq}
use Rattle.std.specs.Cmp.Lexicographic.{bytes_decides}
use Rattle.std.proofs.lemmas.Bool.{false≢true}
use Rattle.std.proofs.lemmas.Option.{none-some}
use Rattle.object_name.specs.Name.{ObjectName, name_of}
use Rattle.thunk_codec.specs.declared.job.Job.{Job}
use Rattle.thunk_codec.specs.declared.job.Outcome.{Outcome}
use Rattle.thunk_codec.specs.Job.{same_job}
use Rattle.thunk_codec.proofs.PublicLaws.{same_job-equal, equal-same_job}
use Rattle.force_core.specs.declared.index.Index.{Index}
use Rattle.force_core.specs.Book.{Task, taken}
use Rattle.force_core.specs.Known.{is_known, is_untaken, known, IsKnown}
use Rattle.force_core.specs.Index.{leads, is_known_task, is_known_at, IsIndex}
use Rattle.force_core.specs.declared.reply.Reply.{Reply}
use Rattle.force_core.specs.Reply.{Replied}
use Rattle.force_core.proofs.Replied.{replied-like}
use Rattle.force_core.proofs.Places.{position-push, position-push-new, position-set-away, position-set-like, get-push, get-set}
use Rattle.force_core.proofs.Same.{three-true, known-is}

-- what an index leads to after a change
abbrev pub Keeps : Index → Index → Type 0
Keeps before after = (name : ObjectName) (id : ℕ) → leads before name id ≡ true → leads after name id ≡ true

three-of : (a b c : Bool) → a ≡ true → b ≡ true → c ≡ true → (a && b && c) ≡ true
three-of a b c one two three = rw (one, two, three) refl

first-fails : (a b c : Bool) → a ≡ false → (a && b && c) ≡ false
first-fails a b c fails = rw fails refl

-- what is known is that job
known-task : (text : List ℕ) (job : Job) (tasks : List Task) (id : ℕ) (t : Option Task) → slice_get tasks id ≡ t → is_known_task text job t ≡ true → IsKnown text job tasks id
known-task text job tasks id None at is = absurd (false≢true is)
known-task text job tasks id (Some t) at is =
    let q = three-true (is_untaken t) (bytes_eq t.text text) (same_job t.job job) is in
    record { task = t; found = at; text_is = (bytes_decides t.text text).0 q.1; job_is = same_job-equal t.job job q.2; untaken = q.0 }

-- a job whose outcome was not taken is known as itself
known-self : (t : Task) → is_untaken t ≡ true → is_known t.text t.job t ≡ true
known-self t untaken =
    let text : bytes_eq t.text t.text ≡ true = (bytes_decides t.text t.text).1 refl in
    let job : same_job t.job t.job ≡ true = equal-same_job t.job t.job refl in
    three-of (is_untaken t) (bytes_eq t.text t.text) (same_job t.job t.job) untaken text job

-- a job whose outcome was taken is not known
known-gone : (text : List ℕ) (job : Job) (t : Task) → is_untaken t ≡ false → is_known text job t ≡ false
known-gone text job t gone = first-fails (is_untaken t) (bytes_eq t.text text) (same_job t.job job) gone

found-by : (index : Index) (tasks : List Task) (text : List ℕ) (job : Job) (id : ℕ) → IsIndex index tasks → IsKnown text job tasks id → known text job tasks ≡ Some id
found-by index tasks text job id is k =
    ap (λ (x : List ℕ). known x job tasks) (sym k.text_is) ∙ ap (λ (j : Job). known k.task.text j tasks) (sym k.job_is) ∙ is.single id k.task k.found k.untaken

-- a number at which a job is known is the one under which it is known
pub found-at : (index : Index) (tasks : List Task) (text : List ℕ) (job : Job) (id : ℕ) → IsIndex index tasks → is_known_at text job tasks id ≡ true → known text job tasks ≡ Some id
found-at index tasks text job id is at = found-by index tasks text job id is (known-task text job tasks id (slice_get tasks id) refl at)

is-known : (text : List ℕ) (job : Job) (t : Task) → t.text ≡ text → t.job ≡ job → is_untaken t ≡ true → is_known text job t ≡ true
is-known text job t text_is job_is untaken = ap (λ (x : List ℕ). is_known x job t) (sym text_is) ∙ ap (λ (j : Job). is_known t.text j t) (sym job_is) ∙ known-self t untaken

known-at : (index : Index) (tasks : List Task) (text : List ℕ) (job : Job) (id : ℕ) → IsIndex index tasks → ((id : ℕ) → leads index (name_of text) id ≡ true → is_known_at text job tasks id ≡ false) → IsKnown text job tasks id → ⊥
known-at index tasks text job id is none k =
    let led : leads index (name_of text) id ≡ true = ap (λ (x : List ℕ). leads index (name_of x) id) (sym k.text_is) ∙ is.reached id k.task k.found k.untaken in
    let yes : is_known_at text job tasks id ≡ true = ap (is_known_task text job) k.found ∙ is-known text job k.task k.text_is k.job_is k.untaken in
    false≢true (sym (none id led) ∙ yes)

missed-by : (index : Index) (tasks : List Task) (text : List ℕ) (job : Job) (o : Option ℕ) → IsIndex index tasks → ((id : ℕ) → leads index (name_of text) id ≡ true → is_known_at text job tasks id ≡ false) → known text job tasks ≡ o → o ≡ None
missed-by index tasks text job None is none at = refl
missed-by index tasks text job (Some id) is none at = absurd (known-at index tasks text job id is none (known-is text job tasks id at))

-- where a job is known at no number to which the index leads, it is not known
pub missed : (index : Index) (tasks : List Task) (text : List ℕ) (job : Job) → IsIndex index tasks → ((id : ℕ) → leads index (name_of text) id ≡ true → is_known_at text job tasks id ≡ false) → known text job tasks ≡ None
missed index tasks text job is none = missed-by index tasks text job (known text job tasks) is none refl

-- nothing was offered
pub index-empty : (index : Index) → IsIndex index []
index-empty index = record { reached = λ id t found untaken. absurd (none-some t found); single = λ id t found untaken. absurd (none-some t found) }

-- the index leads to as much
pub index-kept : (before after : Index) (tasks : List Task) → IsIndex before tasks → Keeps before after → IsIndex after tasks
index-kept before after tasks is keeps = record {
  reached = λ id t found untaken. keeps (name_of t.text) id (is.reached id t found untaken);
  single = is.single;
}

-- a job more, which was not known
pub index-pushed : (before after : Index) (tasks : List Task) (new : Task) → IsIndex before tasks → Keeps before after → leads after (name_of new.text) (length tasks) ≡ true
    → is_untaken new ≡ true → known new.text new.job tasks ≡ None → IsIndex after (tasks ++ new ∷ [])
index-pushed before after tasks new is keeps led untaken unknown = record {
  reached = λ id t found waits. get-push tasks new id t found
      (λ there. keeps (name_of t.text) id (is.reached id t there waits))
      (λ at same. rw (at, ← same) led);
  single = λ id t found waits. get-push tasks new id t found
      (λ there. position-push (is_known t.text t.job) tasks new id (is.single id t there waits))
      (λ at same. rw (at, ← same) (position-push-new (is_known new.text new.job) tasks new unknown (known-self new untaken)));
}

-- a job whose outcome was taken
pub index-taken : (before after : Index) (tasks : List Task) (id : ℕ) (gone : Task) → IsIndex before tasks → ((name : ObjectName) (number : ℕ) → number ≢ id → leads before name number ≡ true → leads after name number ≡ true)
    → is_untaken gone ≡ false → IsIndex after (set tasks id gone)
index-taken before after tasks id gone is keeps taken = record {
  reached = λ number t found waits. get-set tasks id gone number t found
      (λ away there. keeps (name_of t.text) number away (is.reached number t there waits))
      (λ at same. absurd (false≢true (sym taken ∙ ap (λ (t : Task). is_untaken t) same ∙ waits)));
  single = λ number t found waits. get-set tasks id gone number t found
      (λ away there. position-set-away (is_known t.text t.job) tasks id gone number (is.single number t there waits) (known-gone t.text t.job gone taken) away)
      (λ at same. absurd (false≢true (sym taken ∙ ap (λ (t : Task). is_untaken t) same ∙ waits)));
}

-- a job of which the same is known
alike : (t next : Task) → next.text ≡ t.text → next.job ≡ t.job → is_untaken next ≡ is_untaken t → (text : List ℕ) (job : Job) → is_known text job next ≡ is_known text job t
alike t next text_is job_is untaken_is text job =
    ap (λ (a : Bool). a && bytes_eq next.text text && same_job next.job job) untaken_is ∙ ap (λ (x : List ℕ). is_untaken t && bytes_eq x text && same_job next.job job) text_is
    ∙ ap (λ (j : Job). is_untaken t && bytes_eq t.text text && same_job j job) job_is

pub index-set : (index : Index) (tasks : List Task) (id : ℕ) (t next : Task) → IsIndex index tasks → slice_get tasks id ≡ Some t → next.text ≡ t.text → next.job ≡ t.job → is_untaken next ≡ is_untaken t
    → IsIndex index (set tasks id next)
index-set index tasks id t next is found text_is job_is untaken_is = record {
  reached = λ number u at waits. get-set tasks id next number u at
      (λ away there. is.reached number u there waits)
      (λ e same. rw (e, ← same, text_is) (is.reached id t found (sym untaken_is ∙ ap (λ (t : Task). is_untaken t) same ∙ waits)));
  single = λ number u at waits. position-set-like (is_known u.text u.job) tasks id t next found (alike t next text_is job_is untaken_is u.text u.job) ∙ get-set tasks id next number u at
      (λ away there. is.single number u there waits)
      (λ e same. rw (e, ← same, text_is, job_is) (is.single id t found (sym untaken_is ∙ ap (λ (t : Task). is_untaken t) same ∙ waits)));
}

-- an outcome of a job
pub index-replied : (index : Index) (tasks : List Task) (id : ℕ) (t next : Task) (o : Outcome) (reply : Reply) → IsIndex index tasks → slice_get tasks id ≡ Some t → Replied t next o reply → IsIndex index (set tasks id next)
index-replied index tasks id t next o reply is found replied =
    let like = replied-like t next o reply replied in
    index-set index tasks id t next is found like.0 like.1 like.2
