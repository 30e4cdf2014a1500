-- Jobs that are looked for among numbers.
use Rattle.std.proofs.Common.{◌≡◌, ℕ, ◌+◌, List, [], ◌∷◌, get_or, Bool, true, false, ◌||◌, Option, Some, None, refl, ap, sym, ◌∙◌, arith, eqb, cond}
use Rattle.std.specs.Prelude.{position, IfSome, IfNone}
use Rattle.std.specs.List.{position_from}
use Rattle.std.proofs.lemmas.Bool.{false≢true}
use Rattle.std.proofs.lemmas.Bool.Decides.{nat_tests}
use Rattle.std.proofs.lemmas.Iterator.Adapters.{position_from-zero}
use Rattle.std.proofs.lemmas.List.Quantifiers.{position-Some}
use Rattle.std.proofs.lemmas.Option.{none-some}
use Rattle.object_name.specs.Name.{name_of}
use Rattle.thunk_codec.specs.declared.job.Job.{Job}
use Rattle.force_core.specs.declared.index.Index.{Index}
use Rattle.force_core.specs.Book.{Task}
use Rattle.force_core.specs.Known.{known}
use Rattle.force_core.specs.Index.{is_number, is_among, first_at, is_known_at, IsIndex}
use Rattle.force_core.proofs.Indexed.{found-at, missed}

same-number : (x id : ℕ) → eqb x id ≡ true → x ≡ id
same-number x id is = grind (arith, nat_tests)

rest-none : (b : Bool) (n : ℕ) (o : Option ℕ) → cond b (Some n) o ≡ None → (b ≡ false) × (o ≡ None)
rest-none true n o is = absurd (none-some n (sym is))
rest-none false n o is = (refl, is)

here-or-later : (p : ℕ → Bool) (x id : ℕ) (xs : List ℕ) (same : Bool) → eqb x id ≡ same → p x ≡ false → (is_among id xs ≡ true → p id ≡ false) → (same || is_among id xs) ≡ true → p id ≡ false
here-or-later p x id xs true is fails later among = ap p (sym (same-number x id is)) ∙ fails
here-or-later p x id xs false is fails later among = later among

none-from : (p : ℕ → Bool) (n : ℕ) (xs : List ℕ) (id : ℕ) → position_from p n xs ≡ None → is_among id xs ≡ true → p id ≡ false
none-from p n [] id none among = absurd (false≢true among)
none-from p n (x ∷ xs) id none among =
    let q = rest-none (p x) n (position_from p (n + 1) xs) none in
    here-or-later p x id xs (eqb x id) refl q.0 (none-from p (n + 1) xs id q.1) among

-- where no number of a list passes, none that is among them does
pub none-among : (p : ℕ → Bool) (xs : List ℕ) (id : ℕ) → position p xs ≡ None → is_among id xs ≡ true → p id ≡ false
none-among p xs id none among = none-from p 0 xs id (sym (position_from-zero p xs) ∙ none) among

-- the number at the first place that passes
pub first-passes : (p : ℕ → Bool) (xs : List ℕ) (i : ℕ) → position p xs ≡ Some i → p (get_or xs i 0) ≡ true
first-passes p xs i is = (position-Some p xs i 0 is).1

either : {C : Type 0} (b c : Bool) → (b ≡ true → C) → (c ≡ true → C) → (b || c) ≡ true → C
either true c first second is = first refl
either false c first second is = second is

-- what is found among the other numbers, where the first one isn't it
pub found-other : (index : Index) (tasks : List Task) (text : List ℕ) (job : Job) (found : Option ℕ) → IsIndex index tasks
    → ((id : ℕ) → is_number id (first_at index (name_of text)) ≡ true → is_known_at text job tasks id ≡ false)
    → IfSome found (λ id. is_known_at text job tasks id ≡ true)
    → IfNone found ((id : ℕ) → is_among id index.others.items ≡ true → is_known_at text job tasks id ≡ false)
    → found ≡ known text job tasks
found-other index tasks text job None is first some none =
    sym (missed index tasks text job is (λ id led. either (is_number id (first_at index (name_of text))) (is_among id index.others.items) (first id) (none id) led))
found-other index tasks text job (Some id) is first some none = sym (found-at index tasks text job id is some)
