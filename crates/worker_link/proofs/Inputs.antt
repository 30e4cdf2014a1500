-- What in the input of a link over frames makes receiving fail.
use Rattle.std.proofs.Common.{◌≡◌, ℕ, ◌+◌, ◌^◌, ◌≤◌, List, [], ◌++◌, length, Option, Some, None, IfSome, Result, Err, false, inl, inr, length-append, append_assoc, refl, sym, ap, subst, ◌∙◌, arith}
use Rattle.std.specs.Option.{ok_or, is_some}
use Rattle.std.specs.Io.KnownBytes.{Consumes, IsAtEnd}
use Rattle.std.proofs.lemmas.List.{append-nil}
use Rattle.std.proofs.lemmas.Option.{same_Some}
use Rattle.thunk_codec.specs.declared.job.Job.{Job}
use Rattle.job_wire.specs.declared.message.Message.{Message}
use Rattle.job_wire.specs.Cut.{Cutting}
use Rattle.job_wire.specs.Frame.{frame, IsMessage}
use Rattle.job_wire.specs.Session.{Front, Short, TooLong, Bad, Whole, front}
use Rattle.job_wire.proofs.PublicLaws.{front_again, front_bad_more, front_long_more}
use Rattle.worker_link.specs.Ends.{IsTooMuch}
use Rattle.worker_link.specs.Stream.{input_of, IsNoReply, HasNoReply, IsNoInput}

-- the input is what the cutter keeps and the source has left
pub record IsInput (input : Option (List ℕ)) (at : ℕ) (c : Cutting) (left : Option (List ℕ)) : Type 0 where
  pub same : Consumes input (input_of c left) []
  pub place : c.at ≡ at

input_by : (sent : List (ℕ × Job)) (at : ℕ) (c : Cutting) (input left : Option (List ℕ)) → IsInput input at c left → ((rest : List ℕ) → left ≡ Some rest → IsNoInput sent c.at (c.kept ++ rest)) → IfSome input (IsNoInput sent at)
input_by sent at c None left is h = tt
input_by sent at c (Some all) None is h = absurd is.same
input_by sent at c (Some all) (Some rest) is h =
    subst (λ (v : List ℕ). IsNoInput sent at v) (sym is.same) (subst (λ (k : ℕ). IsNoInput sent k (c.kept ++ rest)) is.place (h rest refl))

by_front : (sent : List (ℕ × Job)) (at : ℕ) (bytes : List ℕ) (found : Front) → front bytes ≡ found → HasNoReply sent found → IsNoInput sent at bytes
by_front sent at bytes found e h = inl (subst (HasNoReply sent) (sym e) h)

-- another message comes next
pub input_of_message : (sent : List (ℕ × Job)) (at : ℕ) (c : Cutting) (input left : Option (List ℕ)) (message : Message) (kept : List ℕ) → IsInput input at c left → IsMessage message → c.kept ≡ frame message ++ kept → IsNoReply sent message → IfSome input (IsNoInput sent at)
input_of_message sent at c input left message kept is rules parts not =
    input_by sent at c input left is (λ rest _.
    by_front sent c.at (c.kept ++ rest) (Whole message (kept ++ rest))
    (ap (λ (v : List ℕ). front (v ++ rest)) parts ∙ ap front (append_assoc (frame message) kept rest) ∙ front_again message (kept ++ rest) rules) not)

-- a bad frame comes next
pub input_of_bad : (sent : List (ℕ × Job)) (at : ℕ) (c : Cutting) (input left : Option (List ℕ)) → IsInput input at c left → front c.kept ≡ Bad → IfSome input (IsNoInput sent at)
input_of_bad sent at c input left is e =
    input_by sent at c input left is (λ rest _. by_front sent c.at (c.kept ++ rest) Bad (front_bad_more c.kept rest e) tt)

-- a length over the limit comes next
pub input_of_long : (sent : List (ℕ × Job)) (at : ℕ) (c : Cutting) (input left : Option (List ℕ)) (len : ℕ) → IsInput input at c left → front c.kept ≡ TooLong len → IfSome input (IsNoInput sent at)
input_of_long sent at c input left len is e =
    input_by sent at c input left is (λ rest _. by_front sent c.at (c.kept ++ rest) (TooLong len) (front_long_more c.kept rest len e) tt)

rest_is : (xs ys rest : List ℕ) → xs ≡ [] ++ ys → ys ≡ [] → Some xs ≡ Some rest → rest ≡ []
rest_is xs ys rest same end e = sym (same_Some xs rest e) ∙ same ∙ end

none_left : (left : Option (List ℕ)) (left1 : Option (List ℕ)) (rest : List ℕ) → Consumes left left1 [] → IsAtEnd left1 → left ≡ Some rest → rest ≡ []
none_left None left1 rest same end e = absurd cc
none_left (Some xs) None rest same end e = absurd same
none_left (Some xs) (Some ys) rest same end e = rest_is xs ys rest same end e

-- the input ends
pub input_ends : (sent : List (ℕ × Job)) (at : ℕ) (c : Cutting) (input left left1 : Option (List ℕ)) → IsInput input at c left → front c.kept ≡ Short → Consumes left left1 [] → IsAtEnd left1 → IfSome input (IsNoInput sent at)
input_ends sent at c input left left1 is e same end =
    input_by sent at c input left is (λ rest some.
    by_front sent c.at (c.kept ++ rest) Short (ap (λ (v : List ℕ). front (c.kept ++ v)) (none_left left left1 rest same end some) ∙ ap front (append-nil c.kept) ∙ e) tt)

over_by : (c : Cutting) (left1 : Option (List ℕ)) (rest piece : List ℕ) → Consumes (Some rest) left1 piece → 2 ^ 64 ≤ c.at + length c.kept + length piece → 2 ^ 64 ≤ c.at + length (c.kept ++ rest)
over_by c None rest piece lost much = absurd lost
over_by c (Some rest1) rest piece lost much = omega (arith, much, ap length lost, length-append piece rest1, length-append c.kept rest)

over : (at : ℕ) (c : Cutting) (left left1 : Option (List ℕ)) (rest : List ℕ) → IsTooMuch c left left1 → left ≡ Some rest → 2 ^ 64 ≤ c.at + length (c.kept ++ rest)
over at c left left1 rest h some = over_by c left1 rest h.piece (subst (λ (v : Option (List ℕ)). Consumes v left1 h.piece) some h.lost) h.over

-- the session would be too long
pub input_too_much : (sent : List (ℕ × Job)) (at : ℕ) (c : Cutting) (input left left1 : Option (List ℕ)) → IsInput input at c left → IsTooMuch c left left1 → IfSome input (IsNoInput sent at)
input_too_much sent at c input left left1 is h =
    input_by sent at c input left is (λ rest some. inr (over at c left left1 rest h some))

-- a refusal stands in the place of nothing
pub ok_or_failed : {A E : Type 0} (o : Option A) (r : Result A E) (e f : E) → r ≡ ok_or o e → r ≡ Err f → is_some o ≡ false
ok_or_failed None r e f is failed = refl
ok_or_failed (Some x) r e f is failed = absurd cc
