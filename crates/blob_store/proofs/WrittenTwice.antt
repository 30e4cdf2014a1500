-- A write that is made twice is made once.
use Rattle.std.proofs.Common.{◌≡◌, inl, inr, ℕ, Bool, true, false, cond, List, Option, Some, refl, ap, ◌∙◌}
use Rattle.std.specs.Ordering.{eq_by_cmp}
use Rattle.object_name.specs.Name.{ObjectName, name_cmp}
use Rattle.blob_store.specs.Keeping.{MayWrite}
use Rattle.blob_store.specs.Store.{Store, Contents, Write, put, after_write}
use Rattle.blob_store.specs.Store.Write.{Object, Note}

-- of two choices by one test the inner one goes by the outer
chosen_once : {A : Type 0} (b : Bool) (x y z : A) → cond b x (cond b y z) ≡ cond b x z
chosen_once true x y z = refl
chosen_once false x y z = refl

-- a second put under a name leaves nothing of the first
pub put-put : (contents : Contents) (name : ObjectName) (first second : List ℕ) → put (put contents name first) name second ≡ put contents name second
put-put contents name first second =
    λ i other. chosen_once {A = Option (List ℕ)} (eq_by_cmp name_cmp other name) (Some second) (Some first) (contents other) i

-- a write made twice is made once
pub after_write-twice : (store : Store) (write : Write) → after_write (after_write store write) write ≡ after_write store write
after_write-twice store (Object name bytes) =
    ap (λ (contents : Contents). let made : Store = record { objects = contents; notes = store.notes } in made) (put-put store.objects name bytes bytes)
after_write-twice store (Note name bytes) =
    ap (λ (contents : Contents). let made : Store = record { objects = store.objects; notes = contents } in made) (put-put store.notes name bytes bytes)

-- a write that may have been made, and was tried again and made
made_again : (old now new : Store) (write : Write) → MayWrite old write now → new ≡ after_write now write → new ≡ after_write old write
made_again old now new write (inl e) made = made ∙ ap (λ (s : Store). after_write s write) e
made_again old now new write (inr e) made = made ∙ ap (λ (s : Store). after_write s write) e ∙ after_write-twice old write

-- a write that may have been made, and was tried again and may have been made
pub MayWrite-again : (old now new : Store) (write : Write) → MayWrite old write now → MayWrite now write new → MayWrite old write new
MayWrite-again old now new write (inl e) (inl f) = inl (f ∙ e)
MayWrite-again old now new write (inr e) (inl f) = inr (f ∙ e)
MayWrite-again old now new write may (inr f) = inr (made_again old now new write may f)
