-- How reading the input makes the answer.
use Rattle.std.proofs.Common.{◌≡◌, ◌<◌, ◌≤◌, ℕ, List, [], length, Bool, true, false, Option, Some, Result, Ok, Err, IsErr, IsErrAnd, inl, inr, refl, sym, ap, subst, if◌then◌else◌}
use Rattle.std.specs.Prelude.{IfSome}
use Rattle.std.proofs.lemmas.Bool.{le-leb, lt-leb}
use Rattle.std.proofs.KnownBytes.{Appends-nil}
use Rattle.blob_store.proofs.PublicLaws.{all_written-none}
use Rattle.blob_store.specs.Keeping.{Kept}
use Rattle.blob_store.specs.Store.{Store}
use Rattle.file_tree.proofs.PublicLaws.{all_changed-none}
use Rattle.file_tree.specs.Files.{Filed, Files}
use Rattle.object_name.specs.Name.{max_size}
use Rattle.gg_cli.specs.declared.command.Command.{Command}
use Rattle.gg_cli.specs.declared.command.Command.TheVariants.{Force, ForceWith, CreateThunk, Model, Infer, Build, Describe, Demo, Worker, Help}
use Rattle.need_eval.specs.declared.fault.Refusal.TheVariants as refusals
use Rattle.gg_cli.specs.declared.fault.TopFault.{TopFault}
use Rattle.gg_cli.specs.declared.fault.TopFault.TheVariants as tops
use Rattle.gg_cli.specs.declared.status.Status.{Status}
use Rattle.gg_cli.specs.Answer.{Answer, answer_of_command, ended_by, within}
use Rattle.gg_cli.specs.Comes.{Counts, Made}
use Rattle.gg_cli.specs.Endings.{ending_of}
use Rattle.gg_cli.specs.InputText.{EndsInput, GivesText, Input, Leaves, LeavesInput, StopsInput, TellsText}
use Rattle.gg_cli.specs.StepContracts.{Ends, EndCause, EndsAt, InputEnd, Speaks, TopEndCause, TopEnds, file_faults_of, kept_faults_of, only_store}
use Rattle.gg_cli.specs.Words.{reads_input}
use Rattle.gg_cli.proofs.OnePart.{nothing-made}

-- ---- the text

-- an answer to a text that isn't too long, and to one that is
pub within-fits : (text : List ℕ) (a : Answer) → length text ≤ max_size → within text a ≡ a
within-fits text a fits = ap (λ (test : Bool). if test then a else ended_by [] [] tops.InputTooLong) (le-leb (length text) max_size fits)

within-over : (text : List ℕ) (a : Answer) → max_size < length text → within text a ≡ ended_by [] [] tops.InputTooLong
within-over text a over = ap (λ (test : Bool). if test then a else ended_by [] [] tops.InputTooLong) (lt-leb (length text) max_size over)

module _ (store : Store) (files : Files) where
  -- a command that reads none answers the same to each text
  unread-answer : (command : Command) → reads_input command ≡ false → (x y : List ℕ) → answer_of_command (Some command) x store files ≡ answer_of_command (Some command) y store files
  unread-answer (Force budget retries items) is x y = refl
  unread-answer (ForceWith links setup report items) is x y = refl
  unread-answer (CreateThunk recipe) is x y = refl
  unread-answer (Model words) is x y = refl
  unread-answer Infer is x y = absurd (cc is)
  unread-answer Build is x y = absurd (cc is)
  unread-answer (Describe item) is x y = refl
  unread-answer (Demo count) is x y = refl
  unread-answer (Worker address times) is x y = refl
  unread-answer Help is x y = refl

  -- one that reads it answers so where it is too long
  over-answer : (command : Command) → reads_input command ≡ true → (text : List ℕ) → max_size < length text → answer_of_command (Some command) text store files ≡ ended_by [] [] tops.InputTooLong
  over-answer (Force budget retries items) is text over = absurd (cc is)
  over-answer (ForceWith links setup report items) is text over = absurd (cc is)
  over-answer (CreateThunk recipe) is text over = absurd (cc is)
  over-answer (Model words) is text over = absurd (cc is)
  over-answer Infer is text over = within-over text _ over
  over-answer Build is text over = within-over text _ over
  over-answer (Describe item) is text over = absurd (cc is)
  over-answer (Demo count) is text over = absurd (cc is)
  over-answer (Worker address times) is text over = absurd (cc is)
  over-answer Help is text over = absurd (cc is)

-- the text that the input tells is the one that was read
told-text : (left : Option (List ℕ)) (text bytes : List ℕ) → left ≡ Some text → IfSome left (λ all. bytes ≡ all) → bytes ≡ text
told-text left text bytes is read = subst (λ (left : Option (List ℕ)). IfSome left (λ all. bytes ≡ all)) is read

told-over : (left : Option (List ℕ)) (text : List ℕ) → left ≡ Some text → IfSome left (λ all. max_size < length all) → max_size < length text
told-over left text is over = subst (λ (left : Option (List ℕ)). IfSome left (λ all. max_size < length all)) is over

-- what is done with a text that isn't too long
pub fits_ends : {T : Type 0} (text : List ℕ) (a : Answer) (m : Made) (r : Result T TopFault) → length text ≤ max_size → Ends a m r → Ends (within text a) m r
fits_ends text a m r fits h = subst (λ (a : Answer). Ends a m r) (sym (within-fits text a fits)) h

-- ---- what the command line ends with

-- done over the text that was read
done_ends : {T : Type 0} (a : Answer) (m : Made) (r : Result T TopFault) → Ends a m r → TopEnds a m r
done_ends a m (Ok v) h = h
done_ends a m (Err tops.InputFailed) h = tt
done_ends a m (Err fault) h = h

done_cause : {T : Type 0} (retries : ℕ) (counts : Counts) (r : Result T TopFault) → EndCause retries counts r → TopEndCause retries counts r
done_cause retries counts (Ok v) h = tt
done_cause retries counts (Err tops.InputFailed) h = tt
done_cause retries counts (Err fault) h = h

module _ (command : Command) (before after : Input) (store : Store) (files : Files) (text : List ℕ) (told : TellsText (Some command) before.left text) where
  -- the answer is that to the bytes that were read
  same-answer : (reads : Bool) → reads_input command ≡ reads → (bytes : List ℕ) → GivesText reads before after (Ok bytes)
      → answer_of_command (Some command) bytes store files ≡ answer_of_command (Some command) text store files
  same-answer true is bytes gives = ap (λ (text : List ℕ). answer_of_command (Some command) text store files) (told-text before.left text bytes (told is) gives.1.whole)
  same-answer false is bytes gives = unread-answer store files command is bytes text

  pub read_ends : {T : Type 0} (bytes : List ℕ) → GivesText (reads_input command) before after (Ok bytes) → (m : Made) (r : Result T TopFault)
      → Ends (answer_of_command (Some command) bytes store files) m r → TopEnds (answer_of_command (Some command) text store files) m r
  read_ends bytes gives m r h =
      subst (λ (a : Answer). TopEnds a m r) (same-answer (reads_input command) refl bytes gives) (done_ends (answer_of_command (Some command) bytes store files) m r h)

-- the input wasn't read
module _ (command : Command) (before after : Input) (kept : Kept) (files : Filed) (out : Option (List ℕ)) where
  over_ends : (text : List ℕ) → reads_input command ≡ true → max_size < length text → EndsAt (answer_of_command (Some command) text kept.store files.files) (only_store kept kept files out) tops.InputTooLong
  over_ends text reads over =
      subst (λ (a : Answer). EndsAt a (only_store kept kept files out) tops.InputTooLong) (sym (over-answer kept.store files.files command reads text over))
      (record { comes = record { is_status = refl; all = record { kept = all_written-none kept; files = all_changed-none files }; text = Appends-nil out }; line = refl })

  on_ends : (reads : Bool) → reads_input command ≡ reads → (text : List ℕ) → TellsText (Some command) before.left text → (fault : TopFault) → GivesText reads before after (Err fault)
      → TopEnds {T = Unit {0}} (answer_of_command (Some command) text kept.store files.files) (only_store kept kept files out) (Err fault)
  on_ends false is text told fault gives = absurd gives
  on_ends true is text told tops.InputTooLong gives = over_ends text is (told-over before.left text (told is) gives.1.over)
  on_ends true is text told tops.InputFailed gives = tt
  on_ends true is text told tops.Memory gives =
      record { comes = inl (record { prefix = nothing-made (answer_of_command (Some command) text kept.store files.files) (only_store kept kept files out) refl refl; no_text = Appends-nil out }); line = refl }
  on_ends true is text told fault gives = absurd gives.1

  pub unread_ends : (text : List ℕ) → TellsText (Some command) before.left text → (fault : TopFault) → GivesText (reads_input command) before after (Err fault)
      → TopEnds {T = Unit {0}} (answer_of_command (Some command) text kept.store files.files) (only_store kept kept files out) (Err fault)
  unread_ends = on_ends (reads_input command) refl

-- the input failed, and nothing is done
pub unread_input : (command : Command) (before after : Input) (kept : Kept) (files : Filed) (out : Option (List ℕ)) (fault : TopFault) → GivesText (reads_input command) before after (Err fault)
    → InputEnd {T = Unit {0}} (Some command) (only_store kept kept files out) before.faults after.faults (Err fault)
unread_input command before after kept files out = on (reads_input command) refl
  where
    on : (reads : Bool) → reads_input command ≡ reads → (fault : TopFault) → GivesText reads before after (Err fault)
        → InputEnd {T = Unit {0}} (Some command) (only_store kept kept files out) before.faults after.faults (Err fault)
    on false is fault gives = absurd gives
    on true is tops.InputFailed gives = record { is_read = is; rose = gives.1; nothing = record { kept = refl; files = refl; out = refl } }
    on true is fault gives = tt

-- no count of another part has risen
pub unread_cause : (reads : Bool) (before after : Input) (retries : ℕ) (counts : Counts) (fault : TopFault) → GivesText reads before after (Err fault) → TopEndCause {T = Unit {0}} retries counts (Err fault)
unread_cause false before after retries counts fault gives = absurd gives
unread_cause true before after retries counts tops.InputTooLong gives = tt
unread_cause true before after retries counts tops.InputFailed gives = tt
unread_cause true before after retries counts tops.Memory gives = tt
unread_cause true before after retries counts fault gives = absurd gives.1

pub unread_unkept : (reads : Bool) (before after : Input) (fault : TopFault) → GivesText reads before after (Err fault) → 0 ≡ kept_faults_of fault
unread_unkept false before after fault gives = absurd gives
unread_unkept true before after tops.InputTooLong gives = refl
unread_unkept true before after tops.InputFailed gives = refl
unread_unkept true before after tops.Memory gives = refl
unread_unkept true before after fault gives = absurd gives.1

pub unread_unfiled : (reads : Bool) (before after : Input) (fault : TopFault) → GivesText reads before after (Err fault) → 0 ≡ file_faults_of fault
unread_unfiled false before after fault gives = absurd gives
unread_unfiled true before after tops.InputTooLong gives = refl
unread_unfiled true before after tops.InputFailed gives = refl
unread_unfiled true before after tops.Memory gives = refl
unread_unfiled true before after fault gives = absurd gives.1

-- ---- what a `?` hands on

module _ {T : Type 0} (r : Result T TopFault) (fault : TopFault) (h : IsErr r × IsErrAnd r (λ d. d ≡ fault)) where
  pub handed_top : (P : Result T TopFault → Type 0) → P (Err fault) → P r
  handed_top P p = on r h
    where
      on : (r : Result T TopFault) → IsErr r × IsErrAnd r (λ d. d ≡ fault) → P r
      on (Ok v) h = absurd h.1
      on (Err d) h = subst (λ (d : TopFault). P (Err d)) (sym h.1) p

-- ---- what is left of the input

pub given_same : (before after : Input) (r : Result (List ℕ) TopFault) → GivesText false before after r → after ≡ before
given_same before after (Ok bytes) gives = gives
given_same before after (Err fault) gives = absurd gives

module _ (before after : Input) where
  pub read_leaves : {T : Type 0} (bytes : List ℕ) → GivesText true before after (Ok bytes) → (r : Result T TopFault) → Leaves before after r
  read_leaves bytes gives r = (gives.0, on r)
    where
      on : {T : Type 0} (r : Result T TopFault) → EndsInput before after r
      on (Ok v) = gives.1.at_end
      on (Err tops.InputTooLong) = inl gives.1.at_end
      on (Err tops.InputFailed) = tt
      on (Err tops.Memory) = tt
      on (Err fault) = gives.1.at_end

  pub unread_leaves : (T : Type 0) (fault : TopFault) → GivesText true before after (Err fault) → Leaves {T = T} before after (Err fault)
  unread_leaves T tops.InputTooLong gives = (gives.0, inr gives.1)
  unread_leaves T tops.InputFailed gives = (gives.0, tt)
  unread_leaves T tops.Memory gives = (gives.0, tt)
  unread_leaves T fault gives = absurd gives.1

  -- the same by the status
  status-stops : (T : Type 0) (fault : TopFault) → EndsInput {T = T} before after (Err fault) → StopsInput before after (ending_of fault).status
  status-stops T tops.Usage h = h
  status-stops T (tops.FileRefused refusal) h = inl h
  status-stops T (tops.Refused (refusals.Missing name)) h = h
  status-stops T (tops.Refused refusal) h = h
  status-stops T tops.OutputFailed h = tt
  status-stops T fault h = h

  pub leaves_said : (T : Type 0) (fault : TopFault) (status : Status) (b c : Option (List ℕ)) (f g : ℕ) → Speaks fault status b c f g → Leaves {T = T} before after (Err fault) → LeavesInput before after status
  leaves_said T fault status b c f g (inl h) left = rw h.0 (left.0, status-stops T fault left.1)
  leaves_said T fault status b c f g (inr h) left = rw h.0 (left.0, tt)
