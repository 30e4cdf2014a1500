-- Before anything is done nothing has changed.
use Rattle.std.proofs.Common.{◌≡◌, [], Result, Ok, Err, IsErr, IsErrAnd, refl, sym, subst, append-nil, inl, rules}
use Rattle.blob_store.specs.Keeping.{Kept}
use Rattle.file_tree.specs.Files.{Filed}
use Rattle.file_tree.specs.declared.model_fault.ApplyFault.{ApplyFault}
use Rattle.file_tree.specs.declared.model_fault.ApplyFault.TheVariants.{Memory}
use Rattle.build_plan.specs.Doing.{Ended}
use Rattle.build_plan.specs.Symbolic.{Work}
use Rattle.build_plan.specs.Applying.{Does, sides}

-- work that memory was refused for before it began
pub stopped_before : {A K T : Type 0} (work : Ended Work A) (tells : K → Kept) (filed : T → Filed) (keeper : K) (tree : T) (result : Result A ApplyFault)
    → IsErr result × IsErrAnd result (λ fault. fault ≡ Memory) → Does work (sides tells filed keeper keeper tree tree) result
stopped_before work tells filed keeper tree (Ok x) failed = absurd failed.1
stopped_before work tells filed keeper tree (Err fault) failed =
    subst (λ (v : ApplyFault). Does work (sides tells filed keeper keeper tree tree) (Err v)) (sym failed.1)
    (inl (record { kept = record { prefix = []; is_prefix = search rules; store = refl; listed = inl (sym (append-nil (tells keeper).writes)) }; files = refl }))
