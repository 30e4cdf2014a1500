-- Tries of the keeper and of the tree, by the answer of a step and of those before it.
use Rattle.std.proofs.Common.{◌≡◌, ◌≤◌, inl, inr, ℕ, List, Option, Result, Ok, Err, IsErr, IsErrAnd, refl, arith}
use Rattle.file_tree.specs.declared.refusal.WantFault.{WantFault}
use Rattle.file_tree.specs.declared.refusal.WantFault.TheVariants as wants
use Rattle.file_tree.specs.WantAnswers.{want_failures}
use Rattle.object_name.specs.Causes.{TriesAtMost}
use Rattle.object_name.proofs.PublicLaws.{tries-more}
use Rattle.need_eval.specs.declared.fault.EvalFault.{EvalFault}
use Rattle.need_eval.specs.declared.fault.EvalFault.TheVariants as faults
use Rattle.need_eval.specs.StepContracts.{failures_of}
use Rattle.gg_cli.specs.declared.fault.TopFault.{TopFault}
use Rattle.gg_cli.specs.declared.fault.TopFault.TheVariants.{Usage, FileRefused, Refused, NotModelled, LineNotModelled, ToolFailed, Clash, InputTooLong, StoreFailed, FileFailed, InputFailed, OutputFailed, Memory}
use Rattle.gg_cli.specs.declared.fault.FilingFault.{FilingFault}
use Rattle.gg_cli.specs.declared.fault.FilingFault.TheVariants as filings
use Rattle.gg_cli.specs.declared.status.Status.{Status}
use Rattle.gg_cli.specs.Comes.{file_failures, kept_failures}
use Rattle.gg_cli.specs.Endings.{ending_of}
use Rattle.gg_cli.specs.LowerFaults.{IsFaultOf, want_fault}
use Rattle.gg_cli.specs.StepContracts.{EndCause, FilingCause, Speaks, answered, file_faults_of, kept_counts, kept_faults_filing, kept_faults_of}

-- a fault that a `?` hands on
pub handed : {T F : Type 0} (Tried : ℕ → Type 0) (count : F → ℕ) (r : Result T F) (fault : F) → IsErr r × IsErrAnd r (λ d. d ≡ fault) → Tried (count fault) → Tried (answered count r)
handed Tried count (Ok v) fault h tried = absurd h.1
handed Tried count (Err d) fault h tried = rw h.1 tried

-- reading the wanted items fails by the tree alone
pub want-unkept : (fault : WantFault) → kept_faults_of (want_fault fault) ≡ 0
want-unkept (wants.Refused refusal) = refl
want-unkept wants.Failed = refl
want-unkept wants.Memory = refl

pub want-fails : (T : Type 0) (fault : WantFault) → want_failures {T = T} (Err fault) ≡ file_faults_of (want_fault fault)
want-fails T (wants.Refused refusal) = refl
want-fails T wants.Failed = refl
want-fails T wants.Memory = refl

-- an evaluation fails by the keeper alone
pub eval-fails : (fault : EvalFault) (top : TopFault) → IsFaultOf fault top → failures_of fault ≡ kept_faults_of top
eval-fails (faults.Refused refusal) top is = rw is refl
eval-fails (faults.Clash name found fresh) top is = rw is refl
eval-fails faults.StoreFailed top is = rw is refl
eval-fails faults.RunFailed top is = absurd is
eval-fails faults.Memory top is = rw is refl

-- where no count of the tree may have risen, it didn't fail
pub kept-unfiled : (T : Type 0) (retries before after : ℕ) (fault : TopFault) → EndCause {T = T} retries (kept_counts before after) (Err fault) → file_faults_of fault ≡ 0
kept-unfiled T retries before after Usage cause = refl
kept-unfiled T retries before after (FileRefused refusal) cause = refl
kept-unfiled T retries before after (Refused refusal) cause = refl
kept-unfiled T retries before after (NotModelled word reason) cause = refl
kept-unfiled T retries before after (LineNotModelled line word reason) cause = refl
kept-unfiled T retries before after (ToolFailed line status) cause = refl
kept-unfiled T retries before after (Clash name) cause = refl
kept-unfiled T retries before after InputTooLong cause = refl
kept-unfiled T retries before after StoreFailed cause = refl
kept-unfiled T retries before after FileFailed cause = absurd (omega (arith, cause))
kept-unfiled T retries before after InputFailed cause = refl
kept-unfiled T retries before after OutputFailed cause = refl
kept-unfiled T retries before after Memory cause = refl

-- where no count of the keeper may have risen, it didn't fail
pub filed-unkept : {T : Type 0} (retries files_before files_after : ℕ) (r : Result T FilingFault) → FilingCause retries 0 0 files_before files_after r → answered kept_faults_filing r ≡ 0
filed-unkept retries files_before files_after (Ok v) cause = refl
filed-unkept retries files_before files_after (Err (filings.Missing name)) cause = refl
filed-unkept retries files_before files_after (Err filings.StoreFailed) cause = absurd (omega (arith, cause))
filed-unkept retries files_before files_after (Err filings.FileFailed) cause = refl
filed-unkept retries files_before files_after (Err filings.Memory) cause = refl

-- ---- the status of a fault

-- the failures that a fault is are those of its status, and of out of memory
kept_within : (fault : TopFault) → kept_faults_of fault ≤ kept_failures (ending_of fault).status
kept_within Usage = omega arith
kept_within (FileRefused refusal) = omega arith
kept_within (Refused refusal) = omega arith
kept_within (NotModelled word reason) = omega arith
kept_within (LineNotModelled line word reason) = omega arith
kept_within (ToolFailed line status) = omega arith
kept_within (Clash name) = omega arith
kept_within InputTooLong = omega arith
kept_within StoreFailed = omega arith
kept_within FileFailed = omega arith
kept_within InputFailed = omega arith
kept_within OutputFailed = omega arith
kept_within Memory = omega arith

kept_one : (fault : TopFault) → kept_faults_of fault ≤ 1
kept_one Usage = omega arith
kept_one (FileRefused refusal) = omega arith
kept_one (Refused refusal) = omega arith
kept_one (NotModelled word reason) = omega arith
kept_one (LineNotModelled line word reason) = omega arith
kept_one (ToolFailed line status) = omega arith
kept_one (Clash name) = omega arith
kept_one InputTooLong = omega arith
kept_one StoreFailed = omega arith
kept_one FileFailed = omega arith
kept_one InputFailed = omega arith
kept_one OutputFailed = omega arith
kept_one Memory = omega arith

file_within : (fault : TopFault) → file_faults_of fault ≤ file_failures (ending_of fault).status
file_within Usage = omega arith
file_within (FileRefused refusal) = omega arith
file_within (Refused refusal) = omega arith
file_within (NotModelled word reason) = omega arith
file_within (LineNotModelled line word reason) = omega arith
file_within (ToolFailed line status) = omega arith
file_within (Clash name) = omega arith
file_within InputTooLong = omega arith
file_within StoreFailed = omega arith
file_within FileFailed = omega arith
file_within InputFailed = omega arith
file_within OutputFailed = omega arith
file_within Memory = omega arith

file_one : (fault : TopFault) → file_faults_of fault ≤ 1
file_one Usage = omega arith
file_one (FileRefused refusal) = omega arith
file_one (Refused refusal) = omega arith
file_one (NotModelled word reason) = omega arith
file_one (LineNotModelled line word reason) = omega arith
file_one (ToolFailed line status) = omega arith
file_one (Clash name) = omega arith
file_one InputTooLong = omega arith
file_one StoreFailed = omega arith
file_one FileFailed = omega arith
file_one InputFailed = omega arith
file_one OutputFailed = omega arith
file_one Memory = omega arith

module _ (fault : TopFault) (status : Status) (before after : Option (List ℕ)) (faults_before faults_after : ℕ) (said : Speaks fault status before after faults_before faults_after) where
  kept_said : kept_faults_of fault ≤ kept_failures status
  kept_said = elim said [ inl h ↦ rw h.0 (kept_within fault) | inr h ↦ rw h.0 (kept_one fault) ]

  file_said : file_faults_of fault ≤ file_failures status
  file_said = elim said [ inl h ↦ rw h.0 (file_within fault) | inr h ↦ rw h.0 (file_one fault) ]

  -- the tries of a call, by the fault that it ended with, are those by the status
  pub kept_tries-said : {K : Type 0} (n : ℕ) (calls counts : K → ℕ) (old now : K) → TriesAtMost n calls counts old now (kept_faults_of fault) → TriesAtMost n calls counts old now (kept_failures status)
  kept_tries-said n calls counts old now = tries-more n calls counts old now (kept_faults_of fault) (kept_failures status) kept_said

  pub file_tries-said : {T : Type 0} (n : ℕ) (calls counts : T → ℕ) (old now : T) → TriesAtMost n calls counts old now (file_faults_of fault) → TriesAtMost n calls counts old now (file_failures status)
  file_tries-said n calls counts old now = tries-more n calls counts old now (file_faults_of fault) (file_failures status) file_said
