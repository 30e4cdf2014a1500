-- What is said of how a command line ended fits its status.
use Rattle.std.proofs.Common.{◌≡◌, ◌⊎◌, ℕ, List, [], Some, None, Err, inl, inr, refl, sym, ap, subst}
use Rattle.std.specs.Prelude.{Option}
use Rattle.std.proofs.KnownBytes.{Appends-nil}
use Rattle.std.specs.Io.KnownBytes.{Appends}
use Rattle.object_name.specs.Streams.{AppendsPrefix}
use Rattle.blob_store.specs.Store.{Store}
use Rattle.blob_store.specs.Keeping.{Kept}
use Rattle.file_tree.specs.Files.{Files, Filed}
use Rattle.need_eval.specs.declared.fault.Refusal.TheVariants as refusals
use Rattle.gg_cli.specs.declared.fault.TopFault.{TopFault}
use Rattle.gg_cli.specs.declared.fault.TopFault.TheVariants as tops
use Rattle.gg_cli.specs.declared.status.Status.{Status}
use Rattle.gg_cli.specs.declared.status.Status.TheVariants.{Memory}
use Rattle.gg_cli.specs.declared.command.Command.{Command}
use Rattle.gg_cli.specs.Words.{command_here}
use Rattle.gg_cli.specs.Answer.{Answer, answer_of, answer_of_command}
use Rattle.gg_cli.specs.Endings.{ending_of, line_of}
use Rattle.gg_cli.specs.Comes.{Made, Comes, Counts, IsInputFault, Says, SaysUntold, SaysWhole, SaysPrefix, TopCause, status_line}
use Rattle.gg_cli.specs.StepContracts.{EndsAt, FailsBefore, InputEnd, Speaks, TopEnds, TopEndCause, only_store}
use Rattle.blob_store.proofs.PublicLaws.{all_written-none}
use Rattle.file_tree.proofs.PublicLaws.{all_changed-none}
use Rattle.gg_cli.proofs.EndsArePrefixes.{AppendsPrefix-whole, Comes-memory}
use Rattle.gg_cli.proofs.OnePart.{nothing-made}

-- ---- the answer, by the words

pub answer_of-found : (words : List (List ℕ)) (text : List ℕ) (store : Store) (files : Files) (command : Command) → command_here words ≡ Some command
    → answer_of words text store files ≡ answer_of_command (Some command) text store files
unfolding answer_of
answer_of-found words text store files command is = ap (λ found. answer_of_command found text store files) is

pub usage_ends : (words : List (List ℕ)) (text : List ℕ) (kept : Kept) (files : Filed) (told : Option (List ℕ)) → command_here words ≡ None
    → EndsAt (answer_of words text kept.store files.files) (only_store kept kept files told) tops.Usage
unfolding answer_of
usage_ends words text kept files told is = rw is (record { comes = record { is_status = refl; all = record { kept = all_written-none kept; files = all_changed-none files }; text = Appends-nil told }; line = refl })

-- ---- the status and the line

module _ (a : Answer) (m : Made) (fault : TopFault) (status : Status) (b c : Option (List ℕ)) (f g : ℕ) (ends : EndsAt a m fault) where
  top_comes : Speaks fault status b c f g → Comes a m status
  top_comes (inl h) = rw h.0 ends.comes
  top_comes (inr h) = rw h.0 (Comes-memory a m (ending_of fault).status ends.comes)

  -- a prefix of the fault's line is one of a line that a fault prints
  fault_prefix : AppendsPrefix b c (line_of fault) → SaysPrefix a b c
  fault_prefix h = record { line = line_of fault; is_line = inr ((ending_of fault).status, sym ends.line); prefix = h }

  -- a line that is said whole, or cut short
  said_prefix : SaysWhole (line_of fault) b c f g → SaysPrefix a b c
  said_prefix (inl h) = fault_prefix (AppendsPrefix-whole b c _ h)
  said_prefix (inr h) = fault_prefix h.0

  said_whole : SaysWhole (line_of fault) b c f g → SaysWhole (status_line a (ending_of fault).status) b c f g
  said_whole h = subst (λ line. SaysWhole line b c f g) (sym ends.line) h

-- a fault's line is what its status says
fault_says : (a : Answer) (fault : TopFault) (b c : Option (List ℕ)) (f g : ℕ) → SaysPrefix a b c → SaysWhole (status_line a (ending_of fault).status) b c f g → Says a (ending_of fault).status b c f g
fault_says a tops.Memory b c f g prefix whole = prefix
fault_says a (tops.Refused (refusals.Missing name)) b c f g prefix whole = whole
fault_says a (tops.Refused refusal) b c f g prefix whole = whole
fault_says a fault b c f g prefix whole = whole

-- the line that a status alone decides, unless the input failed
pub untold_line : (fault : TopFault) (b c : Option (List ℕ)) (f g : ℕ) → SaysWhole (line_of fault) b c f g → (fault ≡ tops.InputFailed) ⊎ SaysUntold (ending_of fault).status b c f g
untold_line tops.Usage b c f g said = inr said
untold_line tops.StoreFailed b c f g said = inr said
untold_line tops.FileFailed b c f g said = inr said
untold_line tops.InputFailed b c f g said = inl refl
untold_line tops.OutputFailed b c f g said = inr said
untold_line (tops.Refused (refusals.Missing name)) b c f g said = inr tt
untold_line (tops.Refused refusal) b c f g said = inr tt
untold_line fault b c f g said = inr tt

top_says : (a : Answer) (m : Made) (fault : TopFault) (status : Status) (b c : Option (List ℕ)) (f g : ℕ) → EndsAt a m fault → Speaks fault status b c f g → Says a status b c f g
top_says a m fault status b c f g ends (inl h) =
    rw h.0 (fault_says a fault b c f g (said_prefix a m fault status b c f g ends h.1) (said_whole a m fault status b c f g ends h.1))
top_says a m fault status b c f g ends (inr h) = rw h.0 (fault_prefix a m fault status b c f g ends h.1)

-- ---- the whole, whose input may fail too

ends_or : (a : Answer) (m : Made) (fault : TopFault) → TopEnds {T = Unit {0}} a m (Err fault) → (fault ≡ tops.InputFailed) ⊎ EndsAt a m fault
ends_or a m tops.InputFailed h = inl refl
ends_or a m fault h = inr h

cause_or : (retries : ℕ) (counts : Counts) (fault : TopFault) → TopEndCause {T = Unit {0}} retries counts (Err fault) → (fault ≡ tops.InputFailed) ⊎ TopCause retries counts (ending_of fault).status
cause_or retries counts tops.InputFailed h = inl refl
cause_or retries counts fault h = inr h

module _ (command : Option Command) (m : Made) (status : Status) (i j : ℕ) (b c : Option (List ℕ)) (f g : ℕ) where
  abbrev InputFault : Type 0
  InputFault = IsInputFault command m status i j b c f g

  -- the input failed: its line is said, or memory ran out for that
  input_or : FailsBefore command m i j → Speaks tops.InputFailed status b c f g → InputFault ⊎ ((status ≡ Memory) × AppendsPrefix b c (line_of tops.InputFailed))
  input_or end (inl h) = inl (record { is_read = end.is_read; is_status = h.0; rose = end.rose; nothing = end.nothing; line = h.1 })
  input_or end (inr h) = inr h

  module _ (fault : TopFault) (said : Speaks fault status b c f g) (end : InputEnd {T = Unit {0}} command m i j (Err fault)) where
    -- what is so where the input failed, by what is so where memory ran out then
    failed : {P : Type 0} → fault ≡ tops.InputFailed → (FailsBefore command m i j → status ≡ Memory → AppendsPrefix b c (line_of tops.InputFailed) → P) → InputFault ⊎ P
    failed is memory =
        let before = subst (λ (fault : TopFault). InputEnd {T = Unit {0}} command m i j (Err fault)) is end in
        elim (input_or before (subst (λ (fault : TopFault). Speaks fault status b c f g) is said)) [ inl h ↦ inl h | inr h ↦ inr (memory before h.0 h.1) ]

    pub whole_comes : (a : Answer) → TopEnds {T = Unit {0}} a m (Err fault) → InputFault ⊎ Comes a m status
    whole_comes a ends = elim (ends_or a m fault ends) [
      | inl is ↦ failed is (λ before out prefix. rw out (inl (record {
        prefix = nothing-made a m before.nothing.kept before.nothing.files;
        no_text = subst (λ (after : Option (List ℕ)). Appends m.out_before after []) (sym before.nothing.out) (Appends-nil m.out_before);
      })))
      | inr ends ↦ inr (top_comes a m fault status b c f g ends said)
    ]

    pub whole_says : (a : Answer) → TopEnds {T = Unit {0}} a m (Err fault) → InputFault ⊎ Says a status b c f g
    whole_says a ends = elim (ends_or a m fault ends) [
      | inl is ↦ failed is (λ before out prefix. rw out (record { line = line_of tops.InputFailed; is_line = inl refl; prefix = prefix }))
      | inr ends ↦ inr (top_says a m fault status b c f g ends said)
    ]

    pub whole_line : InputFault ⊎ SaysUntold status b c f g
    whole_line = elim said [
      | inl h ↦ elim (untold_line fault b c f g h.1) [ inl is ↦ failed is (λ before out prefix. rw out tt) | inr says ↦ inr (rw h.0 says) ]
      | inr h ↦ inr (rw h.0 tt)
    ]

    pub whole_cause : (retries : ℕ) (counts : Counts) → TopEndCause {T = Unit {0}} retries counts (Err fault) → InputFault ⊎ TopCause retries counts status
    whole_cause retries counts cause = elim (cause_or retries counts fault cause) [
      | inl is ↦ failed is (λ before out prefix. rw out tt)
      | inr cause ↦ inr (elim said [ inl h ↦ rw h.0 cause | inr h ↦ rw h.0 tt ])
    ]
