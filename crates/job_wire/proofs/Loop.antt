-- Reading things one after the other, as a loop does.
use Rattle.std.proofs.Common.{◌≡◌, ℕ, suc, ◌-◌, ◌+◌, ◌≤◌, ◌<◌, List, [], ◌∷◌, ◌++◌, Option, Some, None, refl, sym, ap, ◌∙◌, arith}
use Rattle.std.proofs.lemmas.List.{append-nil}
use Rattle.text_lines.proofs.PublicLaws.{with_prefix, with_prefix-more}
use Rattle.job_wire.specs.declared.fault.ReadFault.{ReadFault}
use Rattle.job_wire.specs.declared.fault.ReadFault.TheVariants.{Bad, Memory}
use Rattle.job_wire.specs.Gives.{Refuses}
use Rattle.job_wire.specs.Reading.{things_at}

pub goes_on : {A : Type 0} (at : List ℕ → Option (A × List ℕ)) (before : List A) (number i : ℕ) (bytes : List ℕ) (thing : A) (after : List ℕ) (total : Option (List A × List ℕ)) → i < number → at bytes ≡ Some (thing, after)
    → with_prefix before (things_at at (number - i) bytes) ≡ total → with_prefix (before ++ thing ∷ []) (things_at at (number - (i + 1)) after) ≡ total
unfolding things_at
goes_on at before number i bytes thing after total lt read so_far =
    let left : number - i ≡ suc (number - (i + 1)) = omega arith in
    let one : with_prefix before (things_at at (number - i) bytes) ≡ with_prefix (before ++ thing ∷ []) (things_at at (number - (i + 1)) after) = rw (left, read) (with_prefix-more before thing (things_at at (number - (i + 1)) after)) in
    sym one ∙ so_far

pub ends : {A : Type 0} (at : List ℕ → Option (A × List ℕ)) (fault : ReadFault) (before : List A) (number i : ℕ) (bytes : List ℕ) (total : Option (List A × List ℕ)) → i < number → Refuses fault (at bytes)
    → with_prefix before (things_at at (number - i) bytes) ≡ total → Refuses fault total
unfolding things_at
ends at Memory before number i bytes total lt read so_far = tt
ends at Bad before number i bytes total lt read so_far =
    let left : number - i ≡ suc (number - (i + 1)) = omega arith in
    let one : with_prefix before (things_at at (number - i) bytes) ≡ None = rw (left, read) refl in
    sym so_far ∙ one

pub is_done : {A : Type 0} (at : List ℕ → Option (A × List ℕ)) (before : List A) (number i : ℕ) (bytes : List ℕ) (total : Option (List A × List ℕ)) → number ≤ i → with_prefix before (things_at at (number - i) bytes) ≡ total → total ≡ Some (before, bytes)
unfolding things_at
is_done at before number i bytes total le so_far =
    let left : number - i ≡ 0 = omega arith in
    let one : with_prefix before (things_at at (number - i) bytes) ≡ Some (before, bytes) = rw left (ap (λ (v : List _). Some (v, bytes)) (append-nil before)) in
    sym so_far ∙ one
