-- A session that is cut into frames, piece by piece.
use Rattle.std.proofs.Common.{◌≡◌, ℕ, ◌+◌, List, [], ◌∷◌, ◌++◌, length, length-append, append_assoc, refl, sym, ap, ◌∙◌, arith}
use Rattle.std.specs.List.{flat_map, AllByRecursion}
use Rattle.std.proofs.lemmas.List.{append-nil}
use Rattle.std.proofs.lemmas.List.Concat.{flat_map-cons, flat_map-append}
use Rattle.job_wire.specs.declared.message.Message.{Message}
use Rattle.job_wire.specs.Frame.{frame, Frame, IsMessage}
use Rattle.job_wire.specs.Session.{Whole, front, Session, before, session, session_from}
use Rattle.job_wire.specs.Cut.{Cutting, IsCut, first_before}
use Rattle.job_wire.proofs.Sessions.{front_again, same_whole, session_again}

pub all_push : {A : Type 0} (P : A → Type 0) (xs : List A) (x : A) → AllByRecursion P xs → P x → AllByRecursion P (xs ++ x ∷ [])
all_push P [] x h p = (p, tt)
all_push P (y ∷ xs) x h p = (h.0, all_push P xs x h.1 p)

one_more : (given : List Message) (message : Message) → flat_map frame (given ++ message ∷ []) ≡ flat_map frame given ++ frame message
one_more given message = flat_map-append frame given (message ∷ []) ∙ ap (λ (v : List ℕ). flat_map frame given ++ v) (flat_map-cons frame message [] ∙ append-nil (frame message))

pub cut_started : IsCut [] [] (record { at = 0; kept = [] })
cut_started = record { rules = tt; taken = refl; at = refl }

pub cut_fed : (fed : List ℕ) (given : List Message) (c : Cutting) (piece : List ℕ) → IsCut fed given c → IsCut (fed ++ piece) given (record { at = c.at; kept = c.kept ++ piece })
cut_fed fed given c piece h = record {
  rules = h.rules;
  taken = ap (λ (v : List ℕ). v ++ piece) h.taken ∙ append_assoc (flat_map frame given) c.kept piece;
  at = h.at;
}

pub cut_taken : (fed : List ℕ) (given : List Message) (c : Cutting) (message : Message) (rest : List ℕ) → IsCut fed given c → IsMessage message → c.kept ≡ frame message ++ rest
    → IsCut fed (given ++ message ∷ []) (record { at = c.at + length (frame message); kept = rest })
cut_taken fed given c message rest h rules parts = record {
  rules = all_push IsMessage given message h.rules rules;
  taken = h.taken ∙ ap (λ (v : List ℕ). flat_map frame given ++ v) parts ∙ sym (append_assoc (flat_map frame given) (frame message) rest) ∙ ap (λ (v : List ℕ). v ++ rest) (sym (one_more given message));
  at = ap (λ (k : ℕ). k + length (frame message)) h.at ∙ sym (length-append (flat_map frame given) (frame message)) ∙ ap length (sym (one_more given message));
}

same_session : (s : Session) → s ≡ first_before [] s
same_session s = refl

pub given_before : (given : List Message) (at : ℕ) (rest : List ℕ) → AllByRecursion IsMessage given → session_from at (flat_map frame given ++ rest) ≡ first_before given (session_from (at + length (flat_map frame given)) rest)
given_before [] at rest h = ap (λ (k : ℕ). session_from k rest) (omega arith) ∙ same_session (session_from (at + 0) rest)
given_before (message ∷ given) at rest h =
    let regrouped : flat_map frame (message ∷ given) ++ rest ≡ frame message ++ (flat_map frame given ++ rest) = ap (λ (v : List ℕ). v ++ rest) (flat_map-cons frame message given) ∙ append_assoc (frame message) (flat_map frame given) rest in
    let place : at + length (frame message) + length (flat_map frame given) ≡ at + length (flat_map frame (message ∷ given)) = omega (arith, ap length (flat_map-cons frame message given), length-append (frame message) (flat_map frame given)) in
    ap (session_from at) regrouped ∙ session_again message at (flat_map frame given ++ rest) h.0
    ∙ ap (before message) (given_before given (at + length (frame message)) rest h.1 ∙ ap (λ (k : ℕ). first_before given (session_from k rest)) place)

pub cut_session : (fed : List ℕ) (given : List Message) (c : Cutting) → IsCut fed given c → session fed ≡ first_before given (session_from c.at c.kept)
cut_session fed given c h =
    let place : 0 + length (flat_map frame given) ≡ c.at = omega (arith, h.at) in
    ap session h.taken ∙ given_before given 0 c.kept h.rules ∙ ap (λ (k : ℕ). first_before given (session_from k c.kept)) place

pub one_frame : (bytes rest : List ℕ) (m n : Message) → Frame bytes m → Frame (bytes ++ rest) n → (m ≡ n) × (rest ≡ [])
one_frame bytes rest m n h g =
    let first : front (bytes ++ rest) ≡ Whole m rest = ap (λ (v : List ℕ). front (v ++ rest)) h.text ∙ front_again m rest h.rules in
    let second : front (bytes ++ rest) ≡ Whole n [] = ap front (g.text ∙ sym (append-nil (frame n))) ∙ front_again n [] g.rules in
    same_whole m n rest [] (sym first ∙ second)
