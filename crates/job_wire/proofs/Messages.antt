-- A message's frame is read as the message, and nothing else is.
use Rattle.std.proofs.Common.{◌≡◌, ℕ, ◌<◌, ◌≤◌, eqb, List, [], ◌∷◌, ◌++◌, length, drop, ◌-◌, Some, None, refl, sym, ap, subst, ◌∙◌, arith, inl, inr}
use Rattle.std.specs.Prelude.{bytes_eq}
use Rattle.std.proofs.lemmas.Bool.{cases_Bool, eqb-true}
use Rattle.std.proofs.lemmas.List.{length-append}
use Rattle.std.proofs.lemmas.Option.{same_Some}
use Rattle.std.proofs.lemmas.Slice.Eq.{bytes_eq-Decides}
use Rattle.text_lines.specs.Maybe.{◌>>=◌, bind_some, test_some}
use Rattle.thunk_codec.specs.declared.job.Outcome.{Outcome}
use Rattle.thunk_codec.specs.declared.job.Outcome.TheVariants.{Done, Failed}
use Rattle.thunk_codec.specs.Job.{encoded_count, job_encoding, max_job}
use Rattle.job_wire.specs.declared.message.Message.{Message}
use Rattle.job_wire.specs.declared.message.Message.TheVariants.{Start, Reply, Bye}
use Rattle.job_wire.specs.Frame.{IsBytes, IsOutcome, IsMessage, lease_number, outcome_encoding, contents, frame, max_contents}
use Rattle.job_wire.specs.Reading.{lease_at, job_of, outcome_of, start_of, reply_of, bye_of, message_of}
use Rattle.job_wire.proofs.Fields.{IsBytes-rest, lease_reader}
use Rattle.job_wire.proofs.Jobs.{job_of-encoding, encoding-job_of}
use Rattle.job_wire.proofs.Outcomes.{strings_size, outcome_of-encoding, encoding-outcome_of}

abbrev Reads : ℕ → List ℕ → Message → Type 0
Reads letter bytes message = (letter ∷ bytes ≡ contents message) × IsMessage message

start_read : (bytes : List ℕ) (message : Message) → IsBytes bytes → length bytes < max_contents → start_of bytes ≡ Some message → Reads 74 bytes message
unfolding start_of contents
start_read bytes message fits small e =
    let a = bind_some (lease_at bytes) (λ lease. job_of lease.1 >>= λ job. Some (Start lease.0 job)) message e in
    let b = bind_some (job_of a.0.1) (λ job. Some (Start a.0.0 job)) message a.2 in
    let t = lease_reader.takes bytes a.0 fits a.1 in
    let len = ap length t.0.parts ∙ length-append (lease_number a.0.0) a.0.1 in
    let j = job_of-encoding a.0.1 b.0 t.0.rest_fits (omega (arith, len, small)) b.1 in
    subst (Reads 74 bytes) (same_Some _ message b.2) (ap (λ (v : List ℕ). 74 ∷ v) (t.0.parts ∙ ap (λ (v : List ℕ). lease_number a.0.0 ++ v) j.0), (t.1, j.1))

reply_read : (bytes : List ℕ) (message : Message) → IsBytes bytes → reply_of bytes ≡ Some message → Reads 82 bytes message
unfolding reply_of contents
reply_read bytes message fits e =
    let a = bind_some (lease_at bytes) (λ lease. outcome_of lease.1 >>= λ outcome. Some (Reply lease.0 outcome)) message e in
    let b = bind_some (outcome_of a.0.1) (λ outcome. Some (Reply a.0.0 outcome)) message a.2 in
    let t = lease_reader.takes bytes a.0 fits a.1 in
    let j = outcome_of-encoding a.0.1 b.0 t.0.rest_fits b.1 in
    subst (Reads 82 bytes) (same_Some _ message b.2) (ap (λ (v : List ℕ). 82 ∷ v) (t.0.parts ∙ ap (λ (v : List ℕ). lease_number a.0.0 ++ v) j.0), (t.1, j.1))

bye_read : (bytes : List ℕ) (message : Message) → bye_of bytes ≡ Some message → Reads 66 bytes message
unfolding contents
bye_read bytes message e =
    let a = test_some (bytes_eq bytes []) (Some Bye) message e in
    subst (Reads 66 bytes) (same_Some _ message a.1) (ap (λ (v : List ℕ). 66 ∷ v) ((bytes_eq-Decides bytes []).0 a.0), tt)

pub message_of-contents : (bytes : List ℕ) (message : Message) → IsBytes bytes → length bytes ≤ max_contents → message_of bytes ≡ Some message → (bytes ≡ contents message) × IsMessage message
unfolding message_of
message_of-contents [] message fits small e = absurd cc
message_of-contents (letter ∷ bytes) message fits small e =
    elim (cases_Bool (eqb letter 74)) [
      | inl start ↦
          subst (λ (k : ℕ). (k ∷ bytes ≡ contents message) × IsMessage message) (sym (eqb-true letter 74 start)) (start_read bytes message (IsBytes-rest letter bytes fits) (omega (arith, small)) (rw start at e))
      | inr not_start ↦ elim (cases_Bool (eqb letter 82)) [
        | inl reply ↦
            subst (λ (k : ℕ). (k ∷ bytes ≡ contents message) × IsMessage message) (sym (eqb-true letter 82 reply)) (reply_read bytes message (IsBytes-rest letter bytes fits) (rw (not_start, reply) at e))
        | inr not_reply ↦ elim (cases_Bool (eqb letter 66)) [
          | inl bye ↦
              subst (λ (k : ℕ). (k ∷ bytes ≡ contents message) × IsMessage message) (sym (eqb-true letter 66 bye)) (bye_read bytes message (rw (not_start, not_reply, bye) at e))
          | inr none ↦
              let no : None ≡ Some message = rw (not_start, not_reply, none) at e in absurd cc
        ]
      ]
    ]

pub contents-message_of : (message : Message) → IsMessage message → message_of (contents message) ≡ Some message
unfolding message_of contents start_of reply_of
contents-message_of (Start lease job) h = rw (lease_reader.again lease (job_encoding job) h.0, encoding-job_of job h.1) refl
contents-message_of (Reply lease outcome) h = rw (lease_reader.again lease (outcome_encoding outcome) h.0, encoding-outcome_of outcome h.1) refl
contents-message_of Bye h = refl

outcome_small : (outcome : Outcome) → IsOutcome outcome → length (outcome_encoding outcome) ≤ max_job
unfolding outcome_encoding
outcome_small (Done outputs) h = omega (arith, strings_size outputs, h.1, h.2)
outcome_small (Failed status) h = omega arith

-- no frame is over the limit
pub contents_small : (message : Message) → IsMessage message → length (contents message) ≤ max_contents
unfolding contents
contents_small (Start lease job) h = omega (arith, h.1.size, length-append (lease_number lease) (job_encoding job))
contents_small (Reply lease outcome) h = omega (arith, outcome_small outcome h.1, length-append (lease_number lease) (outcome_encoding outcome))
contents_small Bye h = omega arith

pub contents_some : (message : Message) → 1 ≤ length (contents message)
unfolding contents
contents_some (Start lease job) = omega arith
contents_some (Reply lease outcome) = omega arith
contents_some Bye = omega arith

-- the contents behind room for their number, and then the number
pub framed : (message : Message) (before after : List ℕ) (len : ℕ) → before ≡ (0 ∷ 0 ∷ 0 ∷ 0 ∷ []) ++ contents message → len ≡ length before → after ≡ encoded_count (len - 4) ++ drop 4 before → after ≡ frame message
framed message before after len b l a =
    let size : len - 4 ≡ length (contents message) = omega (arith, l ∙ ap length b) in
    a ∙ ap (λ (k : ℕ). encoded_count k ++ drop 4 before) size ∙ ap (λ (v : List ℕ). encoded_count (length (contents message)) ++ drop 4 v) b
