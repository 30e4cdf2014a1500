-- How a command that only reads makes its answer.
use Rattle.std.proofs.Common.{◌≡◌, ℕ, List, [], Option, Some, None, Result, Ok, Err, inl, refl, sym, ap, subst, ◌∙◌}
use Rattle.std.proofs.KnownBytes.{Appends-nil}
use Rattle.object_name.specs.Name.{ObjectName}
use Rattle.object_name.specs.declared.trouble.Trouble.{Trouble}
use Rattle.thunk_codec.specs.declared.reference.Ref.{Ref}
use Rattle.thunk_codec.specs.Job.{ref_name}
use Rattle.thunk_codec.specs.Reading.{thunk_of}
use Rattle.thunk_codec.specs.Thunk.{Parts}
use Rattle.blob_store.specs.Store.{Contents, Store, held}
use Rattle.blob_store.specs.Keeping.{Kept}
use Rattle.blob_store.proofs.PublicLaws.{all_written-none}
use Rattle.file_tree.specs.Files.{Filed}
use Rattle.file_tree.specs.WantAnswers.{Answers}
use Rattle.file_tree.specs.declared.refusal.FileRefusal.{FileRefusal}
use Rattle.file_tree.specs.declared.refusal.WantFault.{WantFault}
use Rattle.file_tree.specs.declared.refusal.WantFault.TheVariants as wants
use Rattle.file_tree.proofs.PublicLaws.{all_changed-none}
use Rattle.need_eval.specs.declared.fault.Refusal.{Refusal}
use Rattle.need_eval.specs.declared.fault.Refusal.TheVariants as refusals
use Rattle.gg_cli.specs.declared.fault.TopFault.{TopFault}
use Rattle.gg_cli.specs.declared.fault.TopFault.TheVariants as tops
use Rattle.gg_cli.specs.Answer.{Answer, bytes_described, ended_by, ref_described, thunk_described}
use Rattle.gg_cli.specs.Comes.{MadePrefix}
use Rattle.gg_cli.specs.Description.{description}
use Rattle.gg_cli.specs.LowerFaults.{output_fault, want_fault}
use Rattle.gg_cli.specs.StepContracts.{EndsAt, Ends, StopsAt, only_store}
use Rattle.gg_cli.specs.Writing.{Writes}
use Rattle.gg_cli.proofs.OnePart.{nothing-made}
use Rattle.gg_cli.proofs.StepsMakeTheAnswer.{handed, printed_done, printed_ends}

module _ (kept : Kept) (files : Filed) (told : Option (List ℕ)) where
  -- nothing was done yet
  untouched : (a : Answer) → MadePrefix a (only_store kept kept files told)
  untouched a = nothing-made a (only_store kept kept files told) refl refl

  -- a refusal before anything is done
  refusal_ends : (refusal : Refusal) → EndsAt (ended_by [] [] (tops.Refused refusal)) (only_store kept kept files told) (tops.Refused refusal)
  refusal_ends (refusals.Missing name) = record { comes = record { is_status = refl; all = record { kept = all_written-none kept; files = all_changed-none files }; text = Appends-nil told }; line = refl }
  refusal_ends refusal = record { comes = record { is_status = refl; all = record { kept = all_written-none kept; files = all_changed-none files }; text = Appends-nil told }; line = refl }

  -- a fault before anything is done ends the answer
  pub stops_end : (a : Answer) (fault : TopFault) → StopsAt a fault → EndsAt a (only_store kept kept files told) fault
  stops_end a tops.StoreFailed h = record { comes = record { prefix = untouched a; no_text = Appends-nil told }; line = refl }
  stops_end a tops.FileFailed h = record { comes = record { prefix = untouched a; no_text = Appends-nil told }; line = refl }
  stops_end a tops.InputFailed h = absurd h
  stops_end a tops.OutputFailed h = absurd h
  stops_end a tops.Memory h = record { comes = inl (record { prefix = untouched a; no_text = Appends-nil told }); line = refl }
  stops_end a (tops.Refused refusal) h = rw h (refusal_ends refusal)
  stops_end a fault h = rw h (record { comes = record { is_status = refl; all = record { kept = all_written-none kept; files = all_changed-none files }; text = Appends-nil told }; line = refl })

-- where the keeper and the tree tell what they told before
pub stops_after : (kept kept_after : Kept) (files files_after : Filed) → kept_after ≡ kept → files_after ≡ files → (told : Option (List ℕ)) (a : Answer) (fault : TopFault) → StopsAt a fault
    → EndsAt a (handed kept kept_after files files_after told told) fault
stops_after kept kept_after files files_after same_kept same_files told a fault h = rw (same_kept, same_files) (stops_end kept files told a fault h)

-- the item has no REF
pub item_stops : (store : Store) (found : Result Ref FileRefusal) (fault : WantFault) → Answers {T = Ref} found (Err fault) → StopsAt (ref_described store found) (want_fault fault)
item_stops store found (wants.Refused refusal) h = ap (ref_described store) h
item_stops store found wants.Failed h = tt
item_stops store found wants.Memory h = tt

module _ (objects : Contents) (name : ObjectName) where
  -- nothing is held
  pub missing_stops : held objects name ≡ None → StopsAt (bytes_described name (held objects name)) (tops.Refused (refusals.Missing name))
  missing_stops is = ap (bytes_described name) is

  -- the bytes are held, and their thunk is read or isn't
  pub held_reads : (bytes : List ℕ) → held objects name ≡ Some bytes → (thunk : Parts) → thunk_of bytes ≡ Some thunk → bytes_described name (held objects name) ≡ thunk_described name (Some thunk)
  held_reads bytes is thunk reads = ap (bytes_described name) is ∙ ap (thunk_described name) reads

  pub held_stops : (bytes : List ℕ) → held objects name ≡ Some bytes → (fault : TopFault) → StopsAt (thunk_described name (thunk_of bytes)) fault → StopsAt (bytes_described name (held objects name)) fault
  held_stops bytes is fault h = subst (λ (a : Answer). StopsAt a fault) (sym (ap (bytes_described name) is)) h

module _ (store : Store) (found : Result Ref FileRefusal) (ref : Ref) (is : found ≡ Ok ref) (name : ObjectName) (same : name ≡ ref_name ref) where
  -- the answer is that by the name of the REF
  by_name : ref_described store found ≡ bytes_described name (held store.objects name)
  by_name = ap (ref_described store) is ∙ sym (ap (λ n. bytes_described n (held store.objects n)) same)

  -- its thunk isn't read
  pub thunk_stops : (fault : TopFault) → StopsAt (bytes_described name (held store.objects name)) fault → StopsAt (ref_described store found) fault
  thunk_stops fault h = subst (λ (a : Answer). StopsAt a fault) (sym by_name) h

  module _ (thunk : Parts) (reads : bytes_described name (held store.objects name) ≡ thunk_described name (Some thunk))
      (kept kept_after : Kept) (same_kept : kept_after ≡ kept) (files files_after : Filed) (same_files : files_after ≡ files) (b c : Option (List ℕ)) (f g : ℕ) where
    -- it is read, and printed
    pub thunk_printed : {T : Type 0} (v : T) → Writes (description name thunk) b c f g (Ok v) → Ends {T = T} (ref_described store found) (handed kept kept_after files files_after b c) (Ok v)
    thunk_printed v written = subst (λ (a : Answer). Ends a (handed kept kept_after files files_after b c) (Ok v)) (sym (by_name ∙ reads))
        (printed_done [] (description name thunk) kept kept_after (same_kept ∙ all_written-none kept) files files_after b c f g [] (same_files ∙ all_changed-none files) v written)

    -- or a prefix of it is
    pub thunk_unprinted : (T : Type 0) (trouble : Trouble) → Writes {T = T} (description name thunk) b c f g (Err trouble) → EndsAt (ref_described store found) (handed kept kept_after files files_after b c) (output_fault trouble)
    thunk_unprinted T trouble written = subst (λ (a : Answer). EndsAt a (handed kept kept_after files files_after b c) (output_fault trouble)) (sym (by_name ∙ reads))
        (printed_ends [] (description name thunk) kept kept_after (same_kept ∙ all_written-none kept) files files_after b c f g [] (same_files ∙ all_changed-none files) T trouble written)
