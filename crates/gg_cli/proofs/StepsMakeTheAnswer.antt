-- How each step of `force` ended makes the answer of the whole.
use Rattle.std.proofs.Common.{◌≡◌, ℕ, List, [], ◌∷◌, Option, Result, Ok, Err, inl, inr, refl, sym, subst, ◌∙◌, append-nil}
use Rattle.std.specs.List.{AllByRecursion}
use Rattle.std.specs.Io.KnownBytes.{Appends}
use Rattle.std.proofs.KnownBytes.{Appends-nil}
use Rattle.object_name.specs.Name.{ObjectName}
use Rattle.object_name.specs.declared.trouble.Trouble.{Trouble}
use Rattle.object_name.specs.declared.trouble.Trouble.TheVariants as troubles
use Rattle.thunk_codec.specs.declared.reference.Ref.{Ref}
use Rattle.thunk_codec.specs.declared.job.Job.{Job}
use Rattle.thunk_codec.specs.declared.job.Outcome.{Outcome}
use Rattle.blob_store.specs.Store.{Store, Write, written}
use Rattle.blob_store.specs.Keeping.{Kept, all_written}
use Rattle.file_tree.specs.Files.{Filed, all_changed, ChangesPrefix}
use Rattle.file_tree.specs.declared.change.Change.{Change}
use Rattle.file_tree.specs.WantAnswers.{Answers, WantCause}
use Rattle.file_tree.specs.declared.item.Item.{Item}
use Rattle.file_tree.specs.declared.refusal.FileRefusal.{FileRefusal}
use Rattle.file_tree.specs.declared.refusal.WantFault.{WantFault}
use Rattle.file_tree.specs.declared.refusal.WantFault.TheVariants as wants
use Rattle.need_eval.specs.declared.fault.Refusal.{Refusal}
use Rattle.need_eval.specs.declared.fault.Refusal.TheVariants as refusals
use Rattle.need_eval.specs.declared.fault.EvalFault.{EvalFault}
use Rattle.need_eval.specs.declared.fault.EvalFault.TheVariants as faults
use Rattle.need_eval.specs.Eval.{State, Ended, Got, Stopped, Stop, Refused, Clash, start}
use Rattle.need_eval.specs.Evaluation.{values_of, by_function}
use Rattle.need_eval.specs.declared.evaluating.Values.{Values}
use Rattle.need_eval.specs.Evaluating.{EvaluatesAll}
use Rattle.object_name.specs.Made.{ListsMade}
use Rattle.need_eval.specs.WritePrefix.{state_after, ListsAll, StopsPartWay, Yields, StopsWith, Stops}
use Rattle.need_eval.specs.MetObjects.{AreHeld}
use Rattle.need_eval.proofs.PublicLaws.{store_is_written, values-held, outputs-begin}
use Rattle.sandbox_run.specs.Cards.{card_outcome}
use Rattle.gg_cli.specs.declared.fault.TopFault.{TopFault}
use Rattle.gg_cli.specs.declared.fault.TopFault.TheVariants as tops
use Rattle.gg_cli.specs.declared.fault.FilingFault.{FilingFault}
use Rattle.gg_cli.specs.declared.fault.FilingFault.TheVariants as filings
use Rattle.gg_cli.specs.Endings.{ending_of}
use Rattle.gg_cli.specs.ValueLines.{value_lines}
use Rattle.gg_cli.specs.ValueFiles.{filed}
use Rattle.gg_cli.specs.Answer.{all_done, done, ended_by, forced, forced_with, wanted_forced, wanted_forced_with}
use Rattle.gg_cli.specs.Parts.{Part, one_part}
use Rattle.gg_cli.specs.LowerFaults.{IsFaultOf, want_fault, filing_fault, output_fault}
use Rattle.gg_cli.specs.Comes.{Made, Counts, IsCallFault, MadePrefix, MadeAll, TopCause}
use Rattle.gg_cli.specs.StepContracts.{EndsAt, Ends, HasValues, HandsOut, HandsOutWith, FilesValues, FilingCause, only_store}
use Rattle.gg_cli.specs.Writing.{Writes}
use Rattle.blob_store.proofs.PublicLaws.{all_written-none}
use Rattle.file_tree.proofs.PublicLaws.{all_changed-none}
use Rattle.gg_cli.proofs.OnePart.{nothing-made, one-made, part-made}

-- ---- evaluation

-- every job is told
pub all_told : (jobs : List Job) → AllByRecursion (λ job. Unit {0}) jobs
all_told [] = tt
all_told (job ∷ jobs) = (tt, all_told jobs)

-- a refusal ends the answer: all that was to be done before it is done
refused_ends : (writes : List Write) (changes : List Change) (m : Made) (refusal : Refusal) → MadeAll (ended_by writes changes (tops.Refused refusal)) m → Appends m.out_before m.out_after []
    → EndsAt (ended_by writes changes (tops.Refused refusal)) m (tops.Refused refusal)
refused_ends writes changes m (refusals.Missing name) all text = record { comes = record { is_status = refl; all = all; text = text }; line = refl }
refused_ends writes changes m refusal all text = record { comes = record { is_status = refl; all = all; text = text }; line = refl }

-- the answer's one part: the writes of the evaluation, and the files that its values go to
abbrev forced_changes : List Item → Ended (List ObjectName) → List Change
forced_changes items (Got names s) = filed s.store.objects names items
forced_changes items (Stopped why s) = []

forced_parts : (text : List ObjectName → List Item → List ℕ) (items : List Item) (e : Ended (List ObjectName)) → (forced_with text items e).parts ≡ one_part (state_after e).writes (forced_changes items e)
forced_parts text items (Got names s) = refl
forced_parts text items (Stopped why s) = refl

module _ (e : Ended (List ObjectName)) (before after : Kept) (law : (state_after e).store ≡ written before.store (state_after e).writes) where
  -- the evaluation gave names
  pub has_values : (names : List ObjectName) (steps : ℕ) → ((last : State) → e ≡ Got names last → AreHeld last.store names) → Yields names steps e after.store → ListsAll before.writes e after → HasValues e names before after
  has_values names steps held gives list =
      let kept = rw gives.got at law in
      let writes = rw gives.got at list in
      record { last = gives.last; got = gives.got; store = gives.store; writes = λ i. record { store = (gives.store ∙ kept) i; writes = writes i }; held = subst (λ (s : Store). AreHeld s names) (sym gives.store) (held gives.last gives.got) }

  module _ (text : List ObjectName → List Item → List ℕ) (items : List Item) (files : Filed) (told : Option (List ℕ)) where
    -- a prefix of its writes is a prefix of the answer's
    made_prefix : StopsPartWay before.writes (start before.store) e after → MadePrefix (forced_with text items e) (only_store before after files told)
    made_prefix h = part-made (forced_with text items e) (only_store before after files told) (record { writes = (state_after e).writes; changes = forced_changes items e }) (forced_parts text items e) (inl (record {
      kept = record {
        prefix = h.part.prefix;
        is_prefix = record { rest = h.part.others; whole = h.part.list };
        store = h.part.kept;
        listed = subst (λ l. ListsMade l h.part.prefix after.writes) (append-nil before.writes) h.listed;
      };
      files = refl;
    }))

    -- the evaluation stopped, and all of its writes are made
    stopped_all : (why : Stop) → StopsWith why e after.store → ListsAll before.writes e after → MadeAll (forced_with text items e) (only_store before after files told)
    stopped_all why h list =
        let kept = rw h.stopped at law in
        let writes = rw h.stopped at list in
        rw h.stopped (one-made (forced_with text items (Stopped why h.last)) (only_store before after files told) h.last.writes [] refl (λ i. record { store = (h.store ∙ kept) i; writes = writes i }) (all_changed-none files))

    -- it stopped part way
    pub part_way : StopsPartWay before.writes (start before.store) e after → IsCallFault (forced_with text items e) (only_store before after files told)
    part_way h = record { prefix = made_prefix h; no_text = Appends-nil told }

    -- the evaluation ended at a fault
    pub ends_at : (fault : EvalFault) (top : TopFault) → Stops before.writes (start before.store) e after fault → IsFaultOf fault top → EndsAt (forced_with text items e) (only_store before after files told) top
    ends_at (faults.Refused refusal) top h is =
        let all = rw h.0.stopped at (stopped_all (Refused refusal) h.0 h.1) in
        rw (is, h.0.stopped) (refused_ends _ [] _ refusal all (Appends-nil told))
    ends_at (faults.Clash name found fresh) top h is =
        let all = rw h.0.stopped at (stopped_all (Clash name found fresh) h.0 h.1) in
        rw (is, h.0.stopped) (record { comes = record { is_status = refl; all = all; text = Appends-nil told }; line = refl })
    ends_at faults.StoreFailed top h is = rw is (record { comes = part_way h; line = refl })
    ends_at faults.RunFailed top h is = absurd is
    ends_at faults.Memory top h is = rw is (record { comes = inl (part_way h); line = refl })

module _ (budget : ℕ) (refs : List Ref) (before after : Kept) where
  -- `evaluate` gave values
  pub values_found : (values : Values) → EvaluatesAll (λ job. Unit {0}) card_outcome budget refs before after (Ok values)
      → HasValues (values_of (by_function card_outcome) budget refs (start before.store)) values.names before after
  values_found values does =
      has_values _ before after (store_is_written (by_function card_outcome) budget refs before.store) values.names values.steps
      (λ last got. values-held (by_function card_outcome) budget refs (start before.store) values.names last (outputs-begin before.store) got) (does (all_told _)).0 (does (all_told _)).1

  -- `evaluate` ended at a fault
  pub fault_found : (fault : EvalFault) (top : TopFault) → EvaluatesAll (λ job. Unit {0}) card_outcome budget refs before after (Err fault) → IsFaultOf fault top
      → (items : List Item) (files : Filed) (told : Option (List ℕ)) → EndsAt (forced items (values_of (by_function card_outcome) budget refs (start before.store))) (only_store before after files told) top
  fault_found fault top does is items files told = ends_at _ before after (store_is_written (by_function card_outcome) budget refs before.store) value_lines items files told fault top (does (all_told _)) is

-- ---- the files and the text

-- what was there before and after handing out
abbrev pub handed : Kept → Kept → Filed → Filed → Option (List ℕ) → Option (List ℕ) → Made
handed before after files_before files_after out_before out_after =
    record { kept_before = before; kept_after = after; files_before = files_before; files_after = files_after; out_before = out_before; out_after = out_after }

module _ (writes : List Write) (text : List ℕ) (before after : Kept) (made : after ≡ all_written before writes) (files_before files_after : Filed) (told : Option (List ℕ)) where
  filing_prefix : (changes : List Change) → ChangesPrefix changes files_before files_after → MadePrefix (done writes changes text) (handed before after files_before files_after told told)
  filing_prefix changes h =
      part-made (done writes changes text) (handed before after files_before files_after told told) (record { writes = writes; changes = changes }) refl (inr (record { kept = made; files = h }))

  -- the values didn't all go to their files
  pub filing_ends : (T : Type 0) (changes : List Change) (fault : FilingFault) → FilesValues {T = T} changes files_before files_after (Err fault)
      → EndsAt (done writes changes text) (handed before after files_before files_after told told) (filing_fault fault)
  filing_ends T changes (filings.Missing name) h = absurd h
  filing_ends T changes filings.StoreFailed h = record { comes = record { prefix = filing_prefix changes h; no_text = Appends-nil told }; line = refl }
  filing_ends T changes filings.FileFailed h = record { comes = record { prefix = filing_prefix changes h; no_text = Appends-nil told }; line = refl }
  filing_ends T changes filings.Memory h = record { comes = inl (record { prefix = filing_prefix changes h; no_text = Appends-nil told }); line = refl }

-- all is made, and then the text is written, or a prefix of it
module _ (parts : List Part) (text : List ℕ) (m : Made) (f g : ℕ) (all : MadeAll (all_done parts text) m) where
  pub all_printed : {T : Type 0} (v : T) → Writes text m.out_before m.out_after f g (Ok v) → Ends {T = T} (all_done parts text) m (Ok v)
  all_printed v h = record { is_status = refl; all = all; text = h.whole }

  pub all_unprinted : (T : Type 0) (e : Trouble) → Writes {T = T} text m.out_before m.out_after f g (Err e) → EndsAt (all_done parts text) m (output_fault e)
  all_unprinted T troubles.Failed h = record { comes = record { done = refl; prints = record { all = all; text = h.prefix } }; line = refl }
  all_unprinted T troubles.Memory h = record { comes = inr (record { all = all; text = h.prefix }); line = refl }

-- nothing is to be made, and the text is printed
module _ (text : List ℕ) (kept : Kept) (files : Filed) (b c : Option (List ℕ)) (f g : ℕ) where
  nothing-whole : MadeAll (all_done [] text) (handed kept kept files files b c)
  nothing-whole = record { kept = all_written-none kept; files = all_changed-none files }

  pub text_printed : {T : Type 0} (v : T) → Writes text b c f g (Ok v) → Ends {T = T} (all_done [] text) (handed kept kept files files b c) (Ok v)
  text_printed v h = all_printed [] text (handed kept kept files files b c) f g nothing-whole v h

  pub text_unprinted : (T : Type 0) (e : Trouble) → Writes {T = T} text b c f g (Err e) → EndsAt (all_done [] text) (handed kept kept files files b c) (output_fault e)
  text_unprinted T e h = all_unprinted [] text (handed kept kept files files b c) f g nothing-whole T e h

module _ (writes : List Write) (text : List ℕ) (before after : Kept) (made : after ≡ all_written before writes) (files_before files_after : Filed) (b c : Option (List ℕ)) (f g : ℕ)
    (changes : List Change) (all : files_after ≡ all_changed files_before changes) where
  whole : MadeAll (done writes changes text) (handed before after files_before files_after b c)
  whole = one-made (done writes changes text) (handed before after files_before files_after b c) writes changes refl made all

  -- all went to their files, and the text was written
  pub printed_done : {T : Type 0} (v : T) → Writes text b c f g (Ok v) → Ends {T = T} (done writes changes text) (handed before after files_before files_after b c) (Ok v)
  printed_done v h = all_printed (one_part writes changes) text (handed before after files_before files_after b c) f g whole v h

  -- or a prefix of it
  pub printed_ends : (T : Type 0) (e : Trouble) → Writes {T = T} text b c f g (Err e) → EndsAt (done writes changes text) (handed before after files_before files_after b c) (output_fault e)
  printed_ends T e h = all_unprinted (one_part writes changes) text (handed before after files_before files_after b c) f g whole T e h

-- ---- the items

module _ (outcomes : ℕ → Job → Option Outcome) (text : List ObjectName → List Item → List ℕ) (budget : ℕ) (items : List Item) (kept : Kept) (files files_after : Filed) (same : files_after ≡ files)
    (told : Option (List ℕ)) (found : Result (List Ref) FileRefusal) where
  -- nothing was done yet
  untouched : MadePrefix (wanted_forced_with outcomes text budget items kept.store found) (handed kept kept files files_after told told)
  untouched = nothing-made (wanted_forced_with outcomes text budget items kept.store found) (handed kept kept files files_after told told) refl same

  -- an item was refused, or the tree failed
  pub want_ends : (fault : WantFault) → Answers {T = List Ref} found (Err fault) → EndsAt (wanted_forced_with outcomes text budget items kept.store found) (handed kept kept files files_after told told) (want_fault fault)
  want_ends (wants.Refused refusal) h = rw h (record { comes = record { is_status = refl; all = record { kept = all_written-none kept; files = same ∙ all_changed-none files }; text = Appends-nil told }; line = refl })
  want_ends wants.Failed h = record { comes = record { prefix = untouched; no_text = Appends-nil told }; line = refl }
  want_ends wants.Memory h = record { comes = inl (record { prefix = untouched; no_text = Appends-nil told }); line = refl }

-- the values of an evaluation were handed out
module _ {T : Type 0} (e : Ended (List ObjectName)) (text : List ObjectName → List Item → List ℕ) (items : List Item) (names : List ObjectName) (before now after : Kept) (files files_last : Filed) (b c : Option (List ℕ)) (r : Result T TopFault) where
  pub values_handed : HasValues e names before now → HandsOutWith (text names items) names items now after files files_last b c r → Ends (forced_with text items e) (handed before after files files_last b c) r
  values_handed h out = rw h.got (subst (λ (s : Store). Ends (done h.last.writes (filed s.objects names items) (text names items)) (handed before after files files_last b c) r) h.store (out before h.last.writes h.writes))

module _ (budget : ℕ) (items : List Item) (before now : Kept) (files files_after : Filed) (same : files_after ≡ files) (refs : List Ref) (found : Result (List Ref) FileRefusal) (is : found ≡ Ok refs) where
  -- the evaluation ended at a fault
  pub values_end : (told : Option (List ℕ)) (fault : TopFault)
      → ((items : List Item) (files : Filed) (told : Option (List ℕ)) → EndsAt (forced items (values_of (by_function card_outcome) budget refs (start before.store))) (only_store before now files told) fault)
      → EndsAt (wanted_forced budget items before.store found) (handed before now files files_after told told) fault
  values_end told fault h = rw is (subst (λ (f : Filed). EndsAt (forced items (values_of (by_function card_outcome) budget refs (start before.store))) (handed before now f files_after told told) fault) same (h items files_after told))

  -- the values were handed out
  pub hands_end : {T : Type 0} (names : List ObjectName) (after : Kept) (files_last : Filed) (b c : Option (List ℕ)) (r : Result T TopFault)
      → HasValues (values_of (by_function card_outcome) budget refs (start before.store)) names before now → HandsOut names items now after files_after files_last b c r
      → Ends (wanted_forced budget items before.store found) (handed before after files files_last b c) r
  hands_end names after files_last b c r h out =
      rw is (subst (λ (f : Filed). Ends (forced items (values_of (by_function card_outcome) budget refs (start before.store))) (handed before after f files_last b c) r) same
      (values_handed (values_of (by_function card_outcome) budget refs (start before.store)) value_lines items names before now after files_after files_last b c r h out))

-- ---- causes

-- reading the items failed
pub want_cause : (T : Type 0) (retries : ℕ) (all : Counts) (fault : WantFault) → WantCause {T = T} retries all.files_before all.files_after (Err fault) → TopCause retries all (ending_of (want_fault fault)).status
want_cause T retries all (wants.Refused refusal) h = tt
want_cause T retries all wants.Failed h = h
want_cause T retries all wants.Memory h = tt

-- writing the files failed
pub filing_cause : (T : Type 0) (retries : ℕ) (all : Counts) (fault : FilingFault) → FilingCause {T = T} retries all.kept_before all.kept_after all.files_before all.files_after (Err fault)
    → TopCause retries all (ending_of (filing_fault fault)).status
filing_cause T retries all (filings.Missing name) h = tt
filing_cause T retries all filings.StoreFailed h = h
filing_cause T retries all filings.FileFailed h = h
filing_cause T retries all filings.Memory h = tt
