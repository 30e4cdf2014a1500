-- What was done up to a fault, seen from an earlier state.
use Rattle.std.proofs.Common.{inl, inr, ℕ, List, [], ◌∷◌, ◌++◌, Result, Ok, Err, sym, ap, subst, ◌∙◌, append_assoc, append-nil}
use Rattle.object_name.specs.Name.{ObjectName}
use Rattle.blob_store.specs.Keeping.{Kept}
use Rattle.blob_store.specs.Store.{Write, written}
use Rattle.need_eval.specs.declared.fault.EvalFault.{EvalFault}
use Rattle.need_eval.specs.declared.fault.EvalFault.TheVariants as faults
use Rattle.need_eval.specs.declared.evaluating.Values.{Values}
use Rattle.need_eval.specs.Eval.{State, Ended}
use Rattle.object_name.specs.Made.{ListsMade}
use Rattle.need_eval.specs.WritePrefix.{state_after, IsAt, StopsPartWay, Stops, Does}
use Rattle.need_eval.specs.StepContracts.{StopsReading, kept_in, RunCause}
use Rattle.blob_store.proofs.PublicLaws.{written-append}
use Rattle.need_eval.proofs.StoreIsWritten.{Grows}

-- nothing of what is to be written was written
pub part_way-unwritten : {A : Type 0} (first : List Write) (s : State) (e : Ended A) (now : Kept) → Grows s (state_after e) → IsAt first s now → StopsPartWay first s e now
part_way-unwritten first s e now grown at = record {
  part = record { prefix = []; others = grown.made; list = grown.writes; kept = sym at.store };
  listed = inl (at.list ∙ sym (append-nil (first ++ s.writes)));
}

-- writes that were put, and others before them
lists-earlier : (first made writes after : List Write) → ListsMade (first ++ made) writes after → ListsMade first (made ++ writes) after
lists-earlier first made writes after (inl is) = inl (is ∙ append_assoc first made writes)
lists-earlier first made writes after (inr h) = inr (record {
  prefix = made ++ h.prefix;
  last = h.last;
  split = ap (λ (writes : List Write). made ++ writes) h.split ∙ sym (append_assoc made h.prefix (h.last ∷ []));
  list = h.list ∙ append_assoc first made h.prefix;
})

-- from an earlier state
part_way-earlier : {A : Type 0} (first : List Write) (s t : State) (e : Ended A) (now : Kept) → Grows s t → StopsPartWay first t e now → StopsPartWay first s e now
part_way-earlier first s t e now grown h = record {
  part = record {
    prefix = grown.made ++ h.part.prefix;
    others = h.part.others;
    list = h.part.list ∙ ap (λ writes. writes ++ (h.part.prefix ++ h.part.others)) grown.writes
        ∙ append_assoc s.writes grown.made (h.part.prefix ++ h.part.others)
        ∙ ap (λ rest. s.writes ++ rest) (sym (append_assoc grown.made h.part.prefix h.part.others));
    kept = h.part.kept ∙ ap (λ store. written store h.part.prefix) grown.store ∙ sym (written-append s.store grown.made h.part.prefix);
  };
  listed = lists-earlier (first ++ s.writes) grown.made h.part.prefix now.writes
      (subst (λ (before : List Write). ListsMade before h.part.prefix now.writes) (ap (λ (writes : List Write). first ++ writes) grown.writes ∙ sym (append_assoc first s.writes grown.made)) h.listed);
}

pub Stops-earlier : {A : Type 0} (first : List Write) (s t : State) (e : Ended A) (now : Kept) (fault : EvalFault) → Grows s t → Stops first t e now fault → Stops first s e now fault
Stops-earlier first s t e now (faults.Refused refusal) grown h = h
Stops-earlier first s t e now (faults.Clash name found fresh) grown h = h
Stops-earlier first s t e now faults.StoreFailed grown h = part_way-earlier first s t e now grown h
Stops-earlier first s t e now faults.RunFailed grown h = part_way-earlier first s t e now grown h
Stops-earlier first s t e now faults.Memory grown h = part_way-earlier first s t e now grown h

pub Does-earlier : (first : List Write) (s t : State) (e : Ended (List ObjectName)) (now : Kept) (result : Result Values EvalFault) → Grows s t → Does first t e now result → Does first s e now result
Does-earlier first s t e now (Ok values) grown h = h
Does-earlier first s t e now (Err fault) grown h = Stops-earlier first s t e now fault grown h

-- nothing was written before a fault in reading
pub unwritten-reading : {A : Type 0} (first : List Write) (s : State) (e : Ended A) (now : Kept) (fault : EvalFault) → Grows s (state_after e) → IsAt first s now → StopsReading e (kept_in s) fault → Stops first s e now fault
unwritten-reading first s e now (faults.Refused refusal) grown at h = (
  record { last = h.last; stopped = h.stopped; store = sym at.store ∙ h.store },
  at.list ∙ ap (λ (writes : List Write). first ++ writes) (h.list ∙ sym (ap (λ e. (state_after e).writes) h.stopped)),
)
unwritten-reading first s e now (faults.Clash name found fresh) grown at h = absurd h
unwritten-reading first s e now faults.StoreFailed grown at h = part_way-unwritten first s e now grown at
unwritten-reading first s e now faults.RunFailed grown at h = absurd h
unwritten-reading first s e now faults.Memory grown at h = part_way-unwritten first s e now grown at

-- nor before a fault of the runner
pub unwritten-run : {A : Type 0} (first : List Write) (s : State) (e : Ended A) (now : Kept) (before after : ℕ) (fault : EvalFault) → Grows s (state_after e) → IsAt first s now → RunCause before after fault → Stops first s e now fault
unwritten-run first s e now before after (faults.Refused refusal) grown at h = absurd h
unwritten-run first s e now before after (faults.Clash name found fresh) grown at h = absurd h
unwritten-run first s e now before after faults.StoreFailed grown at h = absurd h
unwritten-run first s e now before after faults.RunFailed grown at h = part_way-unwritten first s e now grown at
unwritten-run first s e now before after faults.Memory grown at h = part_way-unwritten first s e now grown at
