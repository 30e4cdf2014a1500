-- An evaluation that goes through a list, element by element.
use Rattle.std.proofs.Common.{◌≡◌, List, [], ◌∷◌, ◌++◌, refl, sym, ap, ◌∙◌, append_assoc, append-nil}
use Rattle.need_eval.specs.Eval.{State, Ended, Got, Stopped, Eval, go_on, ◌>>=◌, give, each}

-- some are done, and what is left of the whole is to go through the others from this state
abbrev pub IsLeft : {A B : Type 0} → (A → Eval B) → Ended (List B) → List B → List A → State → Type 0
IsLeft f whole done xs s = whole ≡ go_on (each f xs s) (λ ys. give (done ++ ys))

left-none : {B : Type 0} (e : Ended (List B)) → e ≡ go_on e (λ ys. give ([] ++ ys))
left-none (Got ys s) = refl
left-none (Stopped why s) = refl

-- at the start
pub IsLeft-start : {A B : Type 0} (f : A → Eval B) (xs : List A) (s : State) → IsLeft f (each f xs s) [] xs s
IsLeft-start f xs s = left-none (each f xs s)

left-one : {B : Type 0} (done : List B) (y : B) (e : Ended (List B)) → go_on (go_on e (λ ys. give (y ∷ ys))) (λ ys. give (done ++ ys)) ≡ go_on e (λ ys. give ((done ++ y ∷ []) ++ ys))
left-one done y (Got ys s) = ap (λ names. Got names s) (sym (append_assoc done (y ∷ []) ys))
left-one done y (Stopped why s) = refl

-- after one more
pub IsLeft-more : {A B : Type 0} (f : A → Eval B) (whole : Ended (List B)) (done : List B) (x : A) (xs : List A) (y : B) (s t : State) → f x s ≡ Got y t → IsLeft f whole done (x ∷ xs) s → IsLeft f whole (done ++ y ∷ []) xs t
IsLeft-more f whole done x xs y s t one left =
    left
    ∙ ap (λ e. go_on (go_on e (λ y. each f xs >>= λ ys. give (y ∷ ys))) (λ ys. give (done ++ ys))) one
    ∙ left-one done y (each f xs t)

-- at the end
pub IsLeft-end : {A B : Type 0} (f : A → Eval B) (whole : Ended (List B)) (done : List B) (s : State) → IsLeft f whole done [] s → whole ≡ Got done s
IsLeft-end f whole done s left = left ∙ ap (λ names. Got names s) (append-nil done)
