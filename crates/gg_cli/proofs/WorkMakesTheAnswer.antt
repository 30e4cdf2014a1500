-- How work that a command does makes its answer.
use Rattle.std.proofs.Common.{◌≡◌, ℕ, List, [], Option, Ok, Err, inl, inr, refl, sym, ap, append-nil}
use Rattle.std.proofs.KnownBytes.{Appends-nil}
use Rattle.object_name.specs.declared.trouble.Trouble.{Trouble}
use Rattle.blob_store.specs.Store.{Store}
use Rattle.blob_store.specs.Keeping.{Kept}
use Rattle.file_tree.specs.Files.{Files}
use Rattle.file_tree.specs.declared.model_fault.ApplyFault.{ApplyFault}
use Rattle.file_tree.specs.declared.model_fault.ApplyFault.TheVariants as applies
use Rattle.file_tree.specs.declared.model_fault.PlanFault.{PlanFault}
use Rattle.file_tree.specs.declared.model_fault.PlanFault.TheVariants as plans
use Rattle.file_tree.specs.Planning.{Refuses}
use Rattle.build_plan.specs.Doing.{Why, File, Unmodelled, Clash, Ended, Got, Stopped, state_after}
use Rattle.build_plan.specs.Symbolic.{Work}
use Rattle.build_plan.specs.Applying.{ApplyCause, Does, Gives, MakesPrefix, Sides, StopsFor, file_failures, kept_failures}
use Rattle.gg_cli.specs.declared.fault.TopFault.{TopFault}
use Rattle.gg_cli.specs.declared.fault.TopFault.TheVariants as tops
use Rattle.gg_cli.specs.Endings.{ending_of}
use Rattle.build_script.specs.Commands.{command_plan}
use Rattle.gg_cli.specs.Answer.{modelled, plan_modelled, worked}
use Rattle.gg_cli.specs.Parts.{one_part}
use Rattle.gg_cli.specs.Comes.{Counts, MadeAll, MadePart, MadePrefix, TopCause}
use Rattle.gg_cli.specs.LowerFaults.{IsPlanFault, IsWorkFault, output_fault}
use Rattle.gg_cli.specs.StepContracts.{EndsAt, Ends, file_faults_of, kept_faults_of, StopsAt, work_made}
use Rattle.gg_cli.specs.Writing.{Writes}
use Rattle.gg_cli.proofs.OnePart.{one-made, part-made}
use Rattle.gg_cli.proofs.StepsMakeTheAnswer.{handed, printed_done, printed_ends}

module _ {A : Type 0} (text : A → List ℕ) (word : List ℕ) where
  -- the answer's one part is what the work writes and changes
  worked_parts : (e : Ended Work A) → (worked text word e).parts ≡ one_part (state_after e).writes (state_after e).changes
  worked_parts (Got x work) = refl
  worked_parts (Stopped why work) = refl

  module _ (e : Ended Work A) (s : Sides) where
    module _ (told : Option (List ℕ)) where
      -- a prefix of what the work does is one of what the answer does
      work_prefix : MakesPrefix (state_after e) s → MadePrefix (worked text word e) (work_made told s)
      work_prefix h = part-made (worked text word e) (work_made told s) (record { writes = (state_after e).writes; changes = (state_after e).changes }) (worked_parts e) (on h)
        where
          on : MakesPrefix (state_after e) s → MadePart (record { writes = (state_after e).writes; changes = (state_after e).changes }) (work_made told s)
          on (inl h) = inl (record { kept = h.kept; files = h.files })
          on (inr h) = inr (record { kept = h.kept; files = h.files })

      -- all that the work had written by its stop is a prefix of it
      stop_prefix : (why : Why) → StopsFor e why s → MakesPrefix (state_after e) s
      stop_prefix why h = rw h.stopped (inl (record {
        kept = record {
          prefix = h.last.writes;
          is_prefix = record { rest = []; whole = sym (append-nil h.last.writes) };
          store = ap (λ (k : Kept). k.store) h.all.kept;
          listed = inl (ap (λ (k : Kept). k.writes) h.all.kept);
        };
        files = h.unchanged;
      }))

      -- work that stopped has made all that its answer does
      stop_all : (why : Why) → StopsFor e why s → MadeAll (worked text word e) (work_made told s)
      stop_all why h = rw h.stopped (one-made (worked text word (Stopped why h.last)) (work_made told s) h.last.writes h.last.changes refl h.all.kept h.all.files)

      -- memory ran out after a prefix
      memory_ends : MakesPrefix (state_after e) s → EndsAt (worked text word e) (work_made told s) tops.Memory
      memory_ends h = record { comes = inl (record { prefix = work_prefix h; no_text = Appends-nil told }); line = refl }

      -- work ended at a fault
      pub work_ends : (fault : ApplyFault) (top : TopFault) → Does {A = A} e s (Err fault) → IsWorkFault word fault top → EndsAt (worked text word e) (work_made told s) top
      work_ends (applies.Refused refusal) top h is =
          let all = rw h.stopped at (stop_all (File refusal) h) in
          rw (is, h.stopped) (record { comes = record { is_status = refl; all = all; text = Appends-nil told }; line = refl })
      work_ends (applies.Reason reason) top h (inl is) =
          let all = rw h.stopped at (stop_all (Unmodelled reason) h) in
          rw (is, h.stopped) (record { comes = record { is_status = refl; all = all; text = Appends-nil told }; line = refl })
      work_ends (applies.Reason reason) top h (inr is) = rw is (memory_ends (stop_prefix (Unmodelled reason) h))
      work_ends (applies.Clash name found fresh) top h is =
          let all = rw h.stopped at (stop_all (Clash name found fresh) h) in
          rw (is, h.stopped) (record { comes = record { is_status = refl; all = all; text = Appends-nil told }; line = refl })
      work_ends applies.StoreFailed top h is = rw is (record { comes = record { prefix = work_prefix h; no_text = Appends-nil told }; line = refl })
      work_ends applies.FileFailed top h is = rw is (record { comes = record { prefix = work_prefix h; no_text = Appends-nil told }; line = refl })
      work_ends applies.Memory top h is = rw is (memory_ends h)

      -- work is done, of which nothing is printed
      pub work_done : {T : Type 0} (x : A) (v : T) → text x ≡ [] → Gives e x s → Ends {T = T} (worked text word e) (work_made told s) (Ok v)
      work_done x v none h = rw h.got (record { is_status = refl; all = one-made (worked text word (Got x h.last)) (work_made told s) h.last.writes h.last.changes refl h.all.kept h.all.files; text = rw none (Appends-nil told) })

    -- work is done, and its text was printed
    module _ (b c : Option (List ℕ)) (f g : ℕ) (x : A) (h : Gives e x s) where
      pub work_printed : {T : Type 0} (v : T) → Writes (text x) b c f g (Ok v) → Ends {T = T} (worked text word e) (handed s.kept_before s.kept_after s.files_before s.files_after b c) (Ok v)
      work_printed v written = rw h.got (printed_done h.last.writes (text x) s.kept_before s.kept_after h.all.kept s.files_before s.files_after b c f g h.last.changes h.all.files v written)

      -- or a prefix of it
      pub work_unprinted : (T : Type 0) (trouble : Trouble) → Writes {T = T} (text x) b c f g (Err trouble)
          → EndsAt (worked text word e) (handed s.kept_before s.kept_after s.files_before s.files_after b c) (output_fault trouble)
      work_unprinted T trouble written =
          rw h.got (printed_ends h.last.writes (text x) s.kept_before s.kept_after h.all.kept s.files_before s.files_after b c f g h.last.changes h.all.files T trouble written)

-- ---- causes and tries

module _ (A : Type 0) (word : List ℕ) where
  pub work_cause : (retries : ℕ) (all : Counts) (fault : ApplyFault) (top : TopFault) → ApplyCause {A = A} retries all.kept_before all.kept_after all.files_before all.files_after (Err fault)
      → IsWorkFault word fault top → TopCause retries all (ending_of top).status
  work_cause retries all (applies.Refused refusal) top h is = rw is tt
  work_cause retries all (applies.Reason reason) top h (inl is) = rw is tt
  work_cause retries all (applies.Reason reason) top h (inr is) = rw is tt
  work_cause retries all (applies.Clash name found fresh) top h is = rw is tt
  work_cause retries all applies.StoreFailed top h is = rw is h
  work_cause retries all applies.FileFailed top h is = rw is h
  work_cause retries all applies.Memory top h is = rw is tt

  pub work_unkept : (fault : ApplyFault) (top : TopFault) → IsWorkFault word fault top → kept_failures {A = A} (Err fault) ≡ kept_faults_of top
  work_unkept (applies.Refused refusal) top is = rw is refl
  work_unkept (applies.Reason reason) top (inl is) = rw is refl
  work_unkept (applies.Reason reason) top (inr is) = rw is refl
  work_unkept (applies.Clash name found fresh) top is = rw is refl
  work_unkept applies.StoreFailed top is = rw is refl
  work_unkept applies.FileFailed top is = rw is refl
  work_unkept applies.Memory top is = rw is refl

  pub work_unfiled : (fault : ApplyFault) (top : TopFault) → IsWorkFault word fault top → file_failures {A = A} (Err fault) ≡ file_faults_of top
  work_unfiled (applies.Refused refusal) top is = rw is refl
  work_unfiled (applies.Reason reason) top (inl is) = rw is refl
  work_unfiled (applies.Reason reason) top (inr is) = rw is refl
  work_unfiled (applies.Clash name found fresh) top is = rw is refl
  work_unfiled applies.StoreFailed top is = rw is refl
  work_unfiled applies.FileFailed top is = rw is refl
  work_unfiled applies.Memory top is = rw is refl

-- ---- words that have no plan

module _ (words : List (List ℕ)) where
  pub plan_stops : (store : Store) (files : Files) (fault : PlanFault) (top : TopFault) → Refuses fault (command_plan words) → IsPlanFault words fault top → StopsAt (modelled words store files) top
  plan_stops store files (plans.Refused at reason) top refuses (inl is) = rw is (ap (λ plan. plan_modelled words plan store files) refuses)
  plan_stops store files (plans.Refused at reason) top refuses (inr is) = rw is tt
  plan_stops store files plans.Memory top refuses is = rw is tt

  pub plan_cause : (retries : ℕ) (all : Counts) (fault : PlanFault) (top : TopFault) → IsPlanFault words fault top → TopCause retries all (ending_of top).status
  plan_cause retries all (plans.Refused at reason) top (inl is) = rw is tt
  plan_cause retries all (plans.Refused at reason) top (inr is) = rw is tt
  plan_cause retries all plans.Memory top is = rw is tt

  pub plan_unkept : (fault : PlanFault) (top : TopFault) → IsPlanFault words fault top → 0 ≡ kept_faults_of top
  plan_unkept (plans.Refused at reason) top (inl is) = rw is refl
  plan_unkept (plans.Refused at reason) top (inr is) = rw is refl
  plan_unkept plans.Memory top is = rw is refl

  pub plan_unfiled : (fault : PlanFault) (top : TopFault) → IsPlanFault words fault top → 0 ≡ file_faults_of top
  plan_unfiled (plans.Refused at reason) top (inl is) = rw is refl
  plan_unfiled (plans.Refused at reason) top (inr is) = rw is refl
  plan_unfiled plans.Memory top is = rw is refl
