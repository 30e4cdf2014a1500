-- What a step ended with ends the whole: a fault that is handed on, and a fault with a cause in a part of the call.
use Rattle.std.proofs.Common.{◌≡◌, ℕ, ◌≤◌, Result, Ok, Err, IsErr, IsErrAnd, arith}
use Rattle.gg_cli.specs.declared.fault.TopFault.{TopFault}
use Rattle.gg_cli.specs.declared.status.Status.{Status}
use Rattle.gg_cli.specs.declared.status.Status.TheVariants.{StoreFault, FileFault, ByteFault}
use Rattle.gg_cli.specs.Endings.{ending_of}
use Rattle.gg_cli.specs.Answer.{Answer}
use Rattle.gg_cli.specs.Comes.{Made, Counts, TopCause}
use Rattle.gg_cli.specs.StepContracts.{EndsAt, Ends, EndCause, kept_counts}

-- ---- a fault that a `?` hands on

pub Ends-handed : {T : Type 0} (a : Answer) (m : Made) (r : Result T TopFault) (fault : TopFault) → IsErr r × IsErrAnd r (λ d. d ≡ fault) → EndsAt a m fault → Ends a m r
Ends-handed a m (Ok v) fault h ends = absurd h.1
Ends-handed a m (Err d) fault h ends = rw h.1 ends

pub EndCause-handed : {T : Type 0} (retries : ℕ) (c : Counts) (r : Result T TopFault) (fault : TopFault) → IsErr r × IsErrAnd r (λ d. d ≡ fault) → TopCause retries c (ending_of fault).status
    → EndCause retries c r
EndCause-handed retries c (Ok v) fault h cause = tt
EndCause-handed retries c (Err d) fault h cause = rw h.1 cause

-- ---- counts of a part of a call

-- the counts of a part of what others count
pub record Within (part all : Counts) : Type 0 where
  pub kept_from : all.kept_before ≤ part.kept_before
  pub kept_to : part.kept_after ≤ all.kept_after
  pub files_from : all.files_before ≤ part.files_before
  pub files_to : part.files_after ≤ all.files_after
  pub out_from : all.out_before ≤ part.out_before
  pub out_to : part.out_after ≤ all.out_after

module _ (retries : ℕ) (part all : Counts) (h : Within part all) where
  pub TopCause-within : (status : Status) → TopCause retries part status → TopCause retries all status
  TopCause-within StoreFault cause = omega (arith, cause, h.kept_from, h.kept_to)
  TopCause-within FileFault cause = omega (arith, cause, h.files_from, h.files_to)
  TopCause-within ByteFault cause = omega (arith, cause, h.out_from, h.out_to)
  TopCause-within status cause = tt

  pub EndCause-within : {T : Type 0} (r : Result T TopFault) → EndCause retries part r → EndCause retries all r
  EndCause-within (Ok v) cause = tt
  EndCause-within (Err fault) cause = TopCause-within (ending_of fault).status cause

-- the keeper's count is that of a part
module _ (retries before after : ℕ) (all : Counts) (from : all.kept_before ≤ before) (to : after ≤ all.kept_after) where
  pub TopCause-kept : (status : Status) → TopCause retries (kept_counts before after) status → TopCause retries all status
  TopCause-kept StoreFault cause = omega (arith, cause, from, to)
  TopCause-kept FileFault cause = absurd (omega (arith, cause))
  TopCause-kept ByteFault cause = absurd (omega (arith, cause))
  TopCause-kept status cause = tt
