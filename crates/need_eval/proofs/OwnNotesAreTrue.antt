-- The note that an evaluation writes for a job is true, and is the only one that says so.
use Rattle.std.proofs.Common.{◌≡◌, ◌≤◌, ℕ, List, [], ◌∷◌, Some, length, map, refl, sym, ap, subst, ◌∙◌, arith}
use Rattle.std.specs.Prelude.{sum_by}
use Rattle.std.specs.List.{AllByRecursion}
use Rattle.std.proofs.lemmas.List.{length-map}
use Rattle.std.proofs.lemmas.List.Sums.{sum_by-cons}
use Rattle.std.proofs.lemmas.Option.{same_Some}
use Rattle.object_name.specs.Name.{ObjectName, IsName, name_of, max_size}
use Rattle.thunk_codec.specs.declared.job.Job.{Job}
use Rattle.thunk_codec.specs.declared.job.Outcome.{Outcome}
use Rattle.thunk_codec.specs.declared.job.Outcome.TheVariants.{Done}
use Rattle.thunk_codec.specs.Outcome.{Fits}
use Rattle.reduction_cache.specs.Note.{NoteOf, note_text}
use Rattle.reduction_cache.specs.Reading.{note_of}
use Rattle.reduction_cache.proofs.PublicLaws.{note_of-text, text-note_of}
use Rattle.need_eval.specs.StopAndAgain.{resolved_name, IsTrueNote}
use Rattle.object_name.proofs.PublicLaws.{is-name}

-- the names of outputs that are together within the limit
pub are-names : (outputs : List (List ℕ)) → sum_by length outputs ≤ max_size → AllByRecursion IsName (map name_of outputs)
are-names [] small = tt
are-names (bytes ∷ outputs) small =
    let sum = sum_by-cons length bytes outputs in
    (is-name bytes (omega (arith, small, sum)), are-names outputs (omega (arith, small, sum)))

-- the note of a job with these outputs
abbrev pub own_note : ObjectName → List (List ℕ) → NoteOf
own_note name outputs = record { resolved = name; outputs = map name_of outputs }

pub own-true : (outcome : Job → Outcome) → ((job : Job) → Fits job (outcome job)) → (job : Job) (name : ObjectName) (outputs : List (List ℕ)) → resolved_name job ≡ name → outcome job ≡ Done outputs →
    IsTrueNote outcome job (note_text (own_note name outputs))
own-true outcome fits job name outputs named done note read resolved number =
    let fit : Fits job (Done outputs) = subst (Fits job) done (fits job) in
    let rules = (note_of-text (note_text (own_note name outputs)) note read).rules in
    let same : note.resolved ≡ name = resolved ∙ named in
    let long : length (map name_of outputs) ≡ length note.outputs = length-map outputs name_of ∙ fit.0 ∙ sym number in
    let own = text-note_of (note_text (own_note name outputs)) (own_note name outputs) (record {
      rules = record {
        resolved = subst IsName same rules.resolved;
        kind = ap (λ n. n.kind) (sym same) ∙ rules.kind;
        outputs = are-names outputs fit.1;
        some_output = (let some = rules.some_output in omega (arith, some, long));
        few_outputs = (let few = rules.few_outputs in omega (arith, few, long));
      };
      text = refl;
    }) in
    let is : note ≡ own_note name outputs = same_Some note (own_note name outputs) (sym read ∙ own) in
    (outputs, done, ap (λ (n : NoteOf). n.outputs) is)

-- bytes that are a note with these names are the text of it
pub note-bytes : (bytes : List ℕ) (note : NoteOf) (name : ObjectName) (outputs : List ObjectName) → note_of bytes ≡ Some note → note.resolved ≡ name → note.outputs ≡ outputs →
    bytes ≡ note_text (record { resolved = name; outputs = outputs })
note-bytes bytes note name outputs read resolved is =
    (note_of-text bytes note read).text ∙ λ i. note_text (record { resolved = resolved i; outputs = is i })
