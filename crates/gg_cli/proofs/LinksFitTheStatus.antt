-- What is said of how forcing over links ended fits its status, and what is known of the links goes by it.
use Rattle.std.proofs.Common.{◌≡◌, ◌≢◌, ◌⊎◌, ℕ, List, Option, None, Err, Bool, true, false, inl, inr, refl, sym, ap, subst, ◌∙◌}
use Rattle.std.proofs.lemmas.Bool.{false≢true}
use Rattle.object_name.specs.Streams.{AppendsPrefix}
use Rattle.thunk_codec.specs.declared.job.Job.{Job}
use Rattle.need_eval.specs.declared.fault.Refusal.TheVariants as refusals
use Rattle.force_pool.specs.Links.{Mark}
use Rattle.gg_cli.specs.declared.fault.TopFault.{TopFault}
use Rattle.gg_cli.specs.declared.fault.TopFault.TheVariants as tops
use Rattle.gg_cli.specs.declared.linked_fault.LinkedFault.{LinkedFault}
use Rattle.gg_cli.specs.declared.linked_fault.LinkedFault.TheVariants as linked
use Rattle.gg_cli.specs.declared.status.Status.{Status}
use Rattle.gg_cli.specs.declared.status.Status.TheVariants as statuses
use Rattle.gg_cli.specs.Answer.{Answer}
use Rattle.gg_cli.specs.Comes.{Made, Counts, IsMemory, SaysUntold, SaysWhole, TopCause, status_line}
use Rattle.gg_cli.specs.Endings.{ending_of}
use Rattle.gg_cli.specs.Linked.{ComesOver, Differing, GivesDiffering, IsLinkedLine, SaysLinkedPrefix, SaysOver, SaysOverUntold}
use Rattle.gg_cli.specs.LinkedSteps.{DiffersAt, EndsOverAt, SpeaksOver, differing, linked_line, linked_status}
use Rattle.gg_cli.specs.StepContracts.{EndsAt}
use Rattle.gg_cli.proofs.EndsArePrefixes.{AppendsPrefix-whole, Comes-memory}
use Rattle.gg_cli.proofs.LinesFitTheStatus.{untold_line}

-- ---- the status

-- a fault that isn't of links comes as it does without them
top_comes : (a : Answer) (m : Made) (fault : TopFault) → EndsAt a m fault → ComesOver a m (ending_of fault).status
top_comes a m tops.Usage h = h.comes
top_comes a m (tops.Refused (refusals.Missing name)) h = h.comes
top_comes a m (tops.Refused refusal) h = h.comes
top_comes a m fault h = h.comes

fault_comes : (a : Answer) (m : Made) (fault : LinkedFault) → EndsOverAt a m fault → ComesOver a m (linked_status fault)
fault_comes a m (linked.Top fault) h = top_comes a m fault h
fault_comes a m (linked.Differs resolved first second) h = h
fault_comes a m linked.LinksLost h = h

fault_memory : (a : Answer) (m : Made) (fault : LinkedFault) → EndsOverAt a m fault → IsMemory a m
fault_memory a m (linked.Top fault) h = Comes-memory a m (ending_of fault).status h.comes
fault_memory a m (linked.Differs resolved first second) h = inl h
fault_memory a m linked.LinksLost h = inl h

-- ---- the line

fault_line-is : (a : Answer) (m : Made) (fault : LinkedFault) → EndsOverAt a m fault → IsLinkedLine a (linked_line fault)
fault_line-is a m (linked.Top fault) h = inl ((ending_of fault).status, sym h.line)
fault_line-is a m (linked.Differs resolved first second) h = inr (inl (resolved, refl))
fault_line-is a m linked.LinksLost h = inr (inr refl)

-- what a fault that isn't of links says
top_says : (a : Answer) (fault : TopFault) (b c : Option (List ℕ)) (f g : ℕ) → SaysLinkedPrefix a b c → SaysWhole (status_line a (ending_of fault).status) b c f g → SaysOver a None (ending_of fault).status b c f g
top_says a tops.Memory b c f g prefix whole = prefix
top_says a (tops.Refused (refusals.Missing name)) b c f g prefix whole = whole
top_says a (tops.Refused refusal) b c f g prefix whole = whole
top_says a fault b c f g prefix whole = whole

top_untold : (fault : TopFault) (b c : Option (List ℕ)) (f g : ℕ) → SaysUntold (ending_of fault).status b c f g → SaysOverUntold None (ending_of fault).status b c f g
top_untold tops.Usage b c f g said = said
top_untold (tops.Refused (refusals.Missing name)) b c f g said = said
top_untold (tops.Refused refusal) b c f g said = said
top_untold fault b c f g said = said

fault_says_whole : (a : Answer) (m : Made) (fault : LinkedFault) (b c : Option (List ℕ)) (f g : ℕ) → EndsOverAt a m fault → SaysLinkedPrefix a b c → SaysWhole (linked_line fault) b c f g
    → SaysOver a (differing fault) (linked_status fault) b c f g
fault_says_whole a m (linked.Top fault) b c f g ends prefix whole = top_says a fault b c f g prefix (subst (λ line. SaysWhole line b c f g) (sym ends.line) whole)
fault_says_whole a m (linked.Differs resolved first second) b c f g ends prefix whole = whole
fault_says_whole a m linked.LinksLost b c f g ends prefix whole = whole

fault_untold : (fault : LinkedFault) (b c : Option (List ℕ)) (f g : ℕ) → fault ≢ linked.Top tops.InputFailed → SaysWhole (linked_line fault) b c f g → SaysOverUntold (differing fault) (linked_status fault) b c f g
fault_untold (linked.Top fault) b c f g other whole = elim (untold_line fault b c f g whole) [
  | inl is ↦ absurd (other (ap linked.Top is))
  | inr says ↦ top_untold fault b c f g says
]
fault_untold (linked.Differs resolved first second) b c f g other whole = whole
fault_untold linked.LinksLost b c f g other whole = whole

-- ---- which fault it was

abbrev is_lost : Status → Bool
is_lost statuses.LinksLost = true
is_lost status = false

abbrev is_usage : Status → Bool
is_usage statuses.Usage = true
is_usage status = false

top-not_lost : (fault : TopFault) → is_lost (ending_of fault).status ≡ false
top-not_lost tops.Usage = refl
top-not_lost (tops.Refused (refusals.Missing name)) = refl
top-not_lost (tops.Refused refusal) = refl
top-not_lost fault = refl

lost-is : (fault : LinkedFault) → is_lost (linked_status fault) ≡ true → fault ≡ linked.LinksLost
lost-is (linked.Top fault) is = absurd (false≢true (sym (top-not_lost fault) ∙ is))
lost-is (linked.Differs resolved first second) is = absurd (false≢true is)
lost-is linked.LinksLost is = refl

top-usage : (fault : TopFault) → is_usage (ending_of fault).status ≡ true → fault ≡ tops.Usage
top-usage tops.Usage is = refl
top-usage (tops.Refused (refusals.Missing name)) is = absurd (false≢true is)
top-usage (tops.Refused refusal) is = absurd (false≢true is)
top-usage fault is = absurd (false≢true is)

usage-is : (fault : LinkedFault) → is_usage (linked_status fault) ≡ true → fault ≡ linked.Top tops.Usage
usage-is (linked.Top fault) is = ap linked.Top (top-usage fault is)
usage-is (linked.Differs resolved first second) is = absurd (false≢true is)
usage-is linked.LinksLost is = absurd (false≢true is)

module _ (tells : Job → Type 0) (back : List Mark) where
  top_gives : (fault : TopFault) → GivesDiffering tells back (ending_of fault).status None
  top_gives tops.Usage = refl
  top_gives (tops.Refused (refusals.Missing name)) = refl
  top_gives (tops.Refused refusal) = refl
  top_gives fault = refl

  fault_gives : (fault : LinkedFault) → DiffersAt {T = Unit {0}} tells back (Err fault) → GivesDiffering tells back (linked_status fault) (differing fault)
  fault_gives (linked.Top fault) d = top_gives fault
  fault_gives (linked.Differs resolved first second) d = d
  fault_gives linked.LinksLost d = refl

-- ---- the whole

module _ (fault : LinkedFault) (status : Status) (differs : Option Differing) (b c : Option (List ℕ)) (f g : ℕ) (said : SpeaksOver fault status differs b c f g) where
  module _ (a : Answer) (m : Made) (ends : EndsOverAt a m fault) where
    pub over_comes : ComesOver a m status
    over_comes = elim said [ inl h ↦ rw h.0 (fault_comes a m fault ends) | inr h ↦ rw h.0 (fault_memory a m fault ends) ]

    over_prefix : AppendsPrefix b c (linked_line fault) → SaysLinkedPrefix a b c
    over_prefix h = record { line = linked_line fault; is_line = fault_line-is a m fault ends; prefix = h }

    whole_prefix : SaysWhole (linked_line fault) b c f g → SaysLinkedPrefix a b c
    whole_prefix (inl h) = over_prefix (AppendsPrefix-whole b c _ h)
    whole_prefix (inr h) = over_prefix h.0

    pub over_says : SaysOver a differs status b c f g
    over_says = elim said [
      | inl h ↦ rw (h.0, h.1) (fault_says_whole a m fault b c f g ends (whole_prefix h.2) h.2)
      | inr h ↦ rw h.0 (over_prefix h.2)
    ]

  pub over_untold : fault ≢ linked.Top tops.InputFailed → SaysOverUntold differs status b c f g
  over_untold other = elim said [ inl h ↦ rw (h.0, h.1) (fault_untold fault b c f g other h.2) | inr h ↦ rw h.0 tt ]

  pub over_cause : (retries : ℕ) (counts : Counts) → TopCause retries counts (linked_status fault) → TopCause retries counts status
  over_cause retries counts cause = elim said [ inl h ↦ rw h.0 cause | inr h ↦ rw h.0 tt ]

  -- the status says which fault it was
  pub over_lost : status ≡ statuses.LinksLost → fault ≡ linked.LinksLost
  over_lost is = elim said [ inl h ↦ lost-is fault (ap (λ (x : Status). is_lost x) (sym h.0 ∙ is)) | inr h ↦ absurd (false≢true (ap (λ (x : Status). is_lost x) (sym h.0 ∙ is))) ]

  pub over_usage : status ≡ statuses.Usage → fault ≡ linked.Top tops.Usage
  over_usage is = elim said [ inl h ↦ usage-is fault (ap (λ (x : Status). is_usage x) (sym h.0 ∙ is)) | inr h ↦ absurd (false≢true (ap (λ (x : Status). is_usage x) (sym h.0 ∙ is))) ]

  pub over_other : status ≢ statuses.Memory → fault ≢ linked.Top tops.Memory
  over_other other is = elim said [ inl h ↦ other (h.0 ∙ ap (λ (x : LinkedFault). linked_status x) is) | inr h ↦ other h.0 ]

  pub over_gives : (tells : Job → Type 0) (back : List Mark) → DiffersAt {T = Unit {0}} tells back (Err fault) → GivesDiffering tells back status differs
  over_gives tells back d = elim said [ inl h ↦ rw (h.0, h.1) (fault_gives tells back fault d) | inr h ↦ rw (h.0, h.1) refl ]

  -- words that are no such command line
  pub over_no_command : (fault ≡ linked.Top tops.Usage) ⊎ (fault ≡ linked.Top tops.Memory) → (status ≡ statuses.Usage) ⊎ (status ≡ statuses.Memory)
  over_no_command which = elim said [
    | inl h ↦ elim which [ inl is ↦ inl (h.0 ∙ ap (λ (x : LinkedFault). linked_status x) is) | inr is ↦ inr (h.0 ∙ ap (λ (x : LinkedFault). linked_status x) is) ]
    | inr h ↦ inr h.0
  ]
