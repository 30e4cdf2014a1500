-- What causes the fault that a script ended with, and how many failures that fault is.
use Rattle.std.proofs.Common.{◌≡◌, ℕ, Err, refl}
use Rattle.file_tree.specs.declared.model_fault.ApplyFault.TheVariants as applies
use Rattle.build_script.specs.declared.line_fault.LineFault.{LineFault}
use Rattle.build_script.specs.declared.line_fault.LineFault.TheVariants.{Word, Apply, Tool, Memory}
use Rattle.build_script.specs.LineFaults.{LineCause, TreeCause, line_file_failures, line_kept_failures}
use Rattle.gg_cli.specs.Comes.{Counts, TopCause}
use Rattle.gg_cli.specs.Endings.{ending_of}
use Rattle.gg_cli.specs.LowerFaults.{line_fault}
use Rattle.gg_cli.specs.StepContracts.{file_counts, file_faults_of, kept_faults_of}

module _ (A : Type 0) where
  pub line_cause : (retries : ℕ) (all : Counts) (fault : LineFault) → LineCause {A = A} retries all.kept_before all.kept_after all.files_before all.files_after (Err fault)
      → TopCause retries all (ending_of (line_fault fault)).status
  line_cause retries all (Word line word reason) h = tt
  line_cause retries all (Apply line (applies.Refused refusal)) h = tt
  line_cause retries all (Apply line (applies.Reason reason)) h = tt
  line_cause retries all (Apply line (applies.Clash name found fresh)) h = tt
  line_cause retries all (Apply line applies.StoreFailed) h = h
  line_cause retries all (Apply line applies.FileFailed) h = h
  line_cause retries all (Apply line applies.Memory) h = tt
  line_cause retries all (Tool line status) h = tt
  line_cause retries all Memory h = tt

  pub tree_cause : (retries kept before after b c : ℕ) (fault : LineFault) → TreeCause {A = A} retries before after (Err fault)
      → TopCause retries (file_counts kept before after b c) (ending_of (line_fault fault)).status
  tree_cause retries kept before after b c (Word line word reason) h = tt
  tree_cause retries kept before after b c (Apply line (applies.Refused refusal)) h = tt
  tree_cause retries kept before after b c (Apply line (applies.Reason reason)) h = tt
  tree_cause retries kept before after b c (Apply line (applies.Clash name found fresh)) h = tt
  tree_cause retries kept before after b c (Apply line applies.StoreFailed) h = absurd h
  tree_cause retries kept before after b c (Apply line applies.FileFailed) h = h
  tree_cause retries kept before after b c (Apply line applies.Memory) h = tt
  tree_cause retries kept before after b c (Tool line status) h = tt
  tree_cause retries kept before after b c Memory h = tt

  -- where there is no keeper none failed
  pub tree_unkept : (retries before after : ℕ) (fault : LineFault) → TreeCause {A = A} retries before after (Err fault) → kept_faults_of (line_fault fault) ≡ 0
  tree_unkept retries before after (Word line word reason) h = refl
  tree_unkept retries before after (Apply line (applies.Refused refusal)) h = refl
  tree_unkept retries before after (Apply line (applies.Reason reason)) h = refl
  tree_unkept retries before after (Apply line (applies.Clash name found fresh)) h = refl
  tree_unkept retries before after (Apply line applies.StoreFailed) h = absurd h
  tree_unkept retries before after (Apply line applies.FileFailed) h = refl
  tree_unkept retries before after (Apply line applies.Memory) h = refl
  tree_unkept retries before after (Tool line status) h = refl
  tree_unkept retries before after Memory h = refl

  pub line_unkept : (fault : LineFault) → line_kept_failures {A = A} (Err fault) ≡ kept_faults_of (line_fault fault)
  line_unkept (Word line word reason) = refl
  line_unkept (Apply line (applies.Refused refusal)) = refl
  line_unkept (Apply line (applies.Reason reason)) = refl
  line_unkept (Apply line (applies.Clash name found fresh)) = refl
  line_unkept (Apply line applies.StoreFailed) = refl
  line_unkept (Apply line applies.FileFailed) = refl
  line_unkept (Apply line applies.Memory) = refl
  line_unkept (Tool line status) = refl
  line_unkept Memory = refl

  pub line_unfiled : (fault : LineFault) → line_file_failures {A = A} (Err fault) ≡ file_faults_of (line_fault fault)
  line_unfiled (Word line word reason) = refl
  line_unfiled (Apply line (applies.Refused refusal)) = refl
  line_unfiled (Apply line (applies.Reason reason)) = refl
  line_unfiled (Apply line (applies.Clash name found fresh)) = refl
  line_unfiled (Apply line applies.StoreFailed) = refl
  line_unfiled (Apply line applies.FileFailed) = refl
  line_unfiled (Apply line applies.Memory) = refl
  line_unfiled (Tool line status) = refl
  line_unfiled Memory = refl
