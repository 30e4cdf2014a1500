-- Sessions without their fuel, and frames at the front of bytes.
use Rattle.std.proofs.Common.{◌≡◌, ℕ, zero, suc, ◌+◌, ◌<◌, ◌≤◌, true, false, leb, ltb, List, [], ◌∷◌, ◌++◌, length, ◌-◌, take, drop, Option, Some, None, refl, sym, ap, subst, ◌∙◌, arith, inl, inr}
use Rattle.std.proofs.lemmas.Bool.{cases_Bool, ltb-false, le-ltb, lt-ltb, lt-leb, ltb-true, leb-true, le-leb}
use lib.Seq.{take-append-le, drop-append-le}
use Rattle.std.proofs.lemmas.List.{take_at, drop_at, take-append-drop, length-append, length-take, length-drop, drop-drop}
use Rattle.std.proofs.lemmas.Option.{same_Some}
use Rattle.std.specs.Int.{w32, from_be_bytes}
use Rattle.text_lines.specs.Maybe.{test_some}
use Rattle.thunk_codec.specs.Job.{encoded_count}
use Rattle.job_wire.specs.declared.message.Message.{Message}
use Rattle.job_wire.specs.Frame.{IsBytes, IsMessage, contents, frame, max_contents}
use Rattle.job_wire.specs.Reading.{count_at, message_of}
use Rattle.job_wire.specs.Session.{Front, Short, TooLong, Bad, Whole, read_as, by_length, front, Session, before, session_by, session_within, session_from}
use Rattle.job_wire.specs.declared.front.Found.TheVariants as found
use Rattle.job_wire.specs.Cut.{Sees}
use Rattle.job_wire.proofs.Fields.{IsBytes-drop, IsBytes-take, count_reader}
use Rattle.job_wire.proofs.Messages.{message_of-contents, contents-message_of, contents_small}

-- ---- one frame

-- the frame of a message in front is a whole frame
pub front_again : (message : Message) (rest : List ℕ) → IsMessage message → front (frame message ++ rest) ≡ Whole message rest
unfolding front
front_again message rest h =
    let c = contents message in
    let small = contents_small message h in
    let read : count_at (encoded_count (length c) ++ (c ++ rest)) ≡ Some (length c, c ++ rest) = count_reader.again (length c) (c ++ rest) (omega (arith, small)) in
    let limit : ltb max_contents (length c) ≡ false = le-ltb _ _ small in
    let there : leb (length c) (length (c ++ rest)) ≡ true = le-leb _ _ (omega (arith, length-append c rest)) in
    ap by_length read
    ∙ rw (limit, there, take_at c rest (length c) refl, drop_at c rest (length c) refl, contents-message_of message h) refl

-- what a whole frame is
pub record IsTaken (bytes : List ℕ) (message : Message) (rest : List ℕ) : Type 0 where
  pub parts : bytes ≡ frame message ++ rest
  pub rules : IsMessage message
  pub rest_fits : IsBytes rest

pub same_whole : (m n : Message) (a b : List ℕ) → Whole m a ≡ Whole n b → (m ≡ n) × (a ≡ b)
same_whole m n a b e = (cc, cc)

read_taken : (rest : List ℕ) (o : Option Message) (message : Message) (after : List ℕ) → read_as o rest ≡ Whole message after → (o ≡ Some message) × (rest ≡ after)
read_taken rest (Some m) message after e = let p = same_whole m message rest after e in (ap (λ (v : Message). Some v) p.0, p.1)
read_taken rest None message after e = absurd cc

record IsByLength (len : ℕ) (bytes : List ℕ) (message : Message) (rest : List ℕ) : Type 0 where
  limit : len ≤ max_contents
  there : len ≤ length bytes
  read : message_of (take len bytes) ≡ Some message
  behind : drop len bytes ≡ rest

count_taken : (o : Option (ℕ × List ℕ)) (message : Message) (rest : List ℕ) → by_length o ≡ Whole message rest → (x : ℕ × List ℕ) × (o ≡ Some x) × IsByLength x.0 x.1 message rest
count_taken None message rest e = absurd cc
count_taken (Some x) message rest e =
    elim (cases_Bool (ltb max_contents x.0)) [
      | inl long ↦ let no : TooLong x.0 ≡ Whole message rest = rw long at e in absurd cc
      | inr limit ↦ elim (cases_Bool (leb x.0 (length x.1))) [
        | inl there ↦
            let r = read_taken (drop x.0 x.1) (message_of (take x.0 x.1)) message rest (rw (limit, there) at e) in
            (x, refl, record { limit = ltb-false _ _ limit; there = leb-true _ _ there; read = r.0; behind = r.1 })
        | inr part ↦ let no : Short ≡ Whole message rest = rw (limit, part) at e in absurd cc
      ]
    ]

-- a whole frame is the frame of its message
pub front_takes : (bytes : List ℕ) (message : Message) (rest : List ℕ) → IsBytes bytes → front bytes ≡ Whole message rest → IsTaken bytes message rest
unfolding front
front_takes bytes message rest fits e =
    let a = count_taken (count_at bytes) message rest e in
    let len = a.0.0 in
    let others = a.0.1 in
    let l = a.2 in
    let t = count_reader.takes bytes a.0 fits a.1 in
    let m = message_of-contents (take len others) message (IsBytes-take len others t.0.rest_fits) (omega (arith, length-take len others, l.limit)) l.read in
    let size : length (contents message) ≡ len = ap length (sym m.0) ∙ omega (arith, length-take len others, l.there) in
    let split : others ≡ contents message ++ rest = sym (take-append-drop len others) ∙ ap (λ (v : List ℕ). v ++ drop len others) m.0 ∙ ap (λ (v : List ℕ). contents message ++ v) l.behind in
    let whole : bytes ≡ frame message ++ rest = t.0.parts ∙ ap (λ (v : List ℕ). encoded_count len ++ v) split ∙ ap (λ (k : ℕ). encoded_count k ++ (contents message ++ rest)) (sym size) in
    record { parts = whole; rules = m.1; rest_fits = subst IsBytes l.behind (IsBytes-drop len others t.0.rest_fits) }

-- ---- the fuel

count_behind : (bytes : List ℕ) (x : ℕ × List ℕ) → count_at bytes ≡ Some x → length x.1 < length bytes
unfolding count_at
count_behind bytes x read =
    let g = test_some (leb 4 (length bytes)) (Some (from_be_bytes w32 (take 4 bytes), drop 4 bytes)) x read in
    let behind : length (drop 4 bytes) ≡ length x.1 = ap (λ (v : ℕ × List ℕ). length v.1) (same_Some _ x g.1) in
    omega (arith, leb-true _ _ g.0, behind, length-drop 4 bytes)

-- what stands behind a whole frame is shorter
pub front_shorter : (bytes : List ℕ) (message : Message) (rest : List ℕ) → front bytes ≡ Whole message rest → length rest < length bytes
unfolding front
front_shorter bytes message rest e =
    let a = count_taken (count_at bytes) message rest e in
    let behind : length (drop a.0.0 a.0.1) ≡ length rest = ap length a.2.behind in
    omega (arith, count_behind bytes a.0 a.1, behind, length-drop a.0.0 a.0.1)

by_enough : (next more : ℕ → List ℕ → Session) (at : ℕ) (bytes : List ℕ) (f : Front) → front bytes ≡ f → ((at : ℕ) (rest : List ℕ) → length rest < length bytes → next at rest ≡ more at rest) → session_by next at bytes f ≡ session_by more at bytes f
by_enough next more at bytes Short e same = refl
by_enough next more at bytes Bad e same = refl
by_enough next more at bytes (TooLong len) e same = refl
by_enough next more at bytes (Whole message rest) e same = ap (before message) (same (at + length (frame message)) rest (front_shorter bytes message rest e))

front_nothing : front [] ≡ Short
unfolding front count_at
front_nothing = refl

-- fuel enough is fuel enough
enough : (n m at : ℕ) (bytes : List ℕ) → length bytes ≤ n → length bytes ≤ m → session_within n at bytes ≡ session_within m at bytes
unfolding session_within
enough zero zero at bytes few many = refl
enough zero (suc m) at [] few many = sym (ap (session_by (session_within m) at []) front_nothing)
enough zero (suc m) at (b ∷ bytes) few many = absurd (omega (arith, few))
enough (suc n) zero at [] few many = ap (session_by (session_within n) at []) front_nothing
enough (suc n) zero at (b ∷ bytes) few many = absurd (omega (arith, many))
enough (suc n) (suc m) at bytes few many =
    by_enough (session_within n) (session_within m) at bytes (front bytes) refl (λ place rest lt. enough n m place rest (omega (arith, lt, few)) (omega (arith, lt, many)))

-- the session of bytes, by what stands in front of them
pub session_is : (at : ℕ) (bytes : List ℕ) → session_from at bytes ≡ session_by session_from at bytes (front bytes)
unfolding session_from session_within
session_is at [] = sym (ap (session_by session_from at []) front_nothing)
session_is at (b ∷ bytes) =
    by_enough (session_within (length bytes)) session_from at (b ∷ bytes) (front (b ∷ bytes)) refl (λ place rest lt. enough (length bytes) (length rest) place rest (omega (arith, lt)) (omega arith))

-- a frame before other bytes
pub session_again : (message : Message) (at : ℕ) (rest : List ℕ) → IsMessage message → session_from at (frame message ++ rest) ≡ before message (session_from (at + length (frame message)) rest)
session_again message at rest h = session_is at (frame message ++ rest) ∙ ap (session_by session_from at (frame message ++ rest)) (front_again message rest h)

-- ---- what stands in front, as the code finds it

pub sees_short : (bytes : List ℕ) → count_at bytes ≡ None → front bytes ≡ Short
unfolding front
sees_short bytes e = ap by_length e

pub sees_long : (bytes rest : List ℕ) (len : ℕ) → count_at bytes ≡ Some (len, rest) → max_contents < len → front bytes ≡ TooLong len
unfolding front
sees_long bytes rest len e long = ap by_length e ∙ rw (lt-ltb max_contents len long) refl

pub sees_part : (bytes rest : List ℕ) (len : ℕ) → count_at bytes ≡ Some (len, rest) → len ≤ max_contents → length rest < len → front bytes ≡ Short
unfolding front
sees_part bytes rest len e limit part = ap by_length e ∙ rw (le-ltb _ _ limit, lt-leb _ _ part) refl

pub sees_whole : (bytes rest : List ℕ) (len : ℕ) → count_at bytes ≡ Some (len, rest) → len ≤ max_contents → len ≤ length rest → front bytes ≡ read_as (message_of (take len rest)) (drop len rest)
unfolding front
sees_whole bytes rest len e limit there = ap by_length e ∙ rw (le-ltb _ _ limit, le-leb _ _ there) refl

behind_count : (bytes rest : List ℕ) (len : ℕ) → count_at bytes ≡ Some (len, rest) → (rest ≡ drop 4 bytes) × (4 ≤ length bytes)
unfolding count_at
behind_count bytes rest len e =
    let g = test_some (leb 4 (length bytes)) (Some (from_be_bytes w32 (take 4 bytes), drop 4 bytes)) (len, rest) e in
    (sym (ap (λ (v : ℕ × List ℕ). v.1) (same_Some _ (len, rest) g.1)), leb-true _ _ g.0)

pub sees_message : (bytes rest : List ℕ) (len : ℕ) (message : Message) → IsBytes bytes → count_at bytes ≡ Some (len, rest) → len ≤ max_contents → len ≤ length rest → message_of (take len rest) ≡ Some message → Sees (found.Whole message (4 + len)) bytes
sees_message bytes rest len message fits e limit there read =
    let b = behind_count bytes rest len e in
    let behind : drop len rest ≡ drop (4 + len) bytes = ap (drop len) b.0 ∙ drop-drop len 4 bytes in
    let whole : front bytes ≡ Whole message (drop (4 + len) bytes) = sees_whole bytes rest len e limit there ∙ ap (λ (o : Option Message). read_as o (drop len rest)) read ∙ ap (Whole message) behind in
    let t = front_takes bytes message (drop (4 + len) bytes) fits whole in
    let size : length rest ≡ length bytes - 4 = ap length b.0 ∙ omega (arith, b.1, length-drop 4 bytes) in
    let parts = ap length t.parts ∙ length-append (frame message) (drop (4 + len) bytes) in
    record {
      stands = whole;
      there = omega (arith, size, there, b.1);
      whole = omega (arith, size, there, b.1, parts, length-drop (4 + len) bytes);
      rules = t.rules;
      parts = t.parts;
    }

pub sees_bad : (bytes rest : List ℕ) (len : ℕ) → count_at bytes ≡ Some (len, rest) → len ≤ max_contents → len ≤ length rest → message_of (take len rest) ≡ None → front bytes ≡ Bad
sees_bad bytes rest len e limit there read = sees_whole bytes rest len e limit there ∙ ap (λ (o : Option Message). read_as o (drop len rest)) read

-- ---- more bytes behind

count_more : (bytes rest : List ℕ) (x : ℕ × List ℕ) → count_at bytes ≡ Some x → count_at (bytes ++ rest) ≡ Some (x.0, x.1 ++ rest)
unfolding count_at
count_more bytes rest x e =
    let g = test_some (leb 4 (length bytes)) (Some (from_be_bytes w32 (take 4 bytes), drop 4 bytes)) x e in
    let long : 4 ≤ length bytes = leb-true _ _ g.0 in
    let there : leb 4 (length (bytes ++ rest)) ≡ true = le-leb _ _ (omega (arith, long, length-append bytes rest)) in
    let same = same_Some (from_be_bytes w32 (take 4 bytes), drop 4 bytes) x g.1 in
    rw (there, take-append-le 4 bytes rest long, drop-append-le 4 bytes rest long) (ap (λ (v : ℕ × List ℕ). Some (v.0, v.1 ++ rest)) same)

record IsBadLength (x : ℕ × List ℕ) : Type 0 where
  limit : x.0 ≤ max_contents
  there : x.0 ≤ length x.1
  read : message_of (take x.0 x.1) ≡ None

read_bad : (o : Option Message) (rest : List ℕ) → read_as o rest ≡ Bad → o ≡ None
read_bad None rest e = refl
read_bad (Some message) rest e = absurd cc

bad_length : (o : Option (ℕ × List ℕ)) → by_length o ≡ Bad → (x : ℕ × List ℕ) × (o ≡ Some x) × IsBadLength x
bad_length None e = absurd cc
bad_length (Some x) e =
    elim (cases_Bool (ltb max_contents x.0)) [
      | inl long ↦ let no : TooLong x.0 ≡ Bad = rw long at e in absurd cc
      | inr limit ↦ elim (cases_Bool (leb x.0 (length x.1))) [
        | inl there ↦ (x, refl, record { limit = ltb-false _ _ limit; there = leb-true _ _ there; read = read_bad (message_of (take x.0 x.1)) (drop x.0 x.1) (rw (limit, there) at e) })
        | inr part ↦ let no : Short ≡ Bad = rw (limit, part) at e in absurd cc
      ]
    ]

-- a bad frame stays one
pub front_bad_more : (bytes rest : List ℕ) → front bytes ≡ Bad → front (bytes ++ rest) ≡ Bad
unfolding front
front_bad_more bytes rest e =
    let a = bad_length (count_at bytes) e in
    let b = a.2 in
    sees_bad (bytes ++ rest) (a.0.1 ++ rest) a.0.0 (count_more bytes rest a.0 a.1) b.limit (omega (arith, b.there, length-append a.0.1 rest))
    (ap message_of (take-append-le a.0.0 a.0.1 rest b.there) ∙ b.read)

record IsLongLength (x : ℕ × List ℕ) (len : ℕ) : Type 0 where
  same : x.0 ≡ len
  over : max_contents < x.0

long_is : (m n : ℕ) → TooLong m ≡ TooLong n → m ≡ n
long_is m n e = cc

read_long : (o : Option Message) (rest : List ℕ) (len : ℕ) → read_as o rest ≡ TooLong len → ⊥
read_long None rest len e = absurd cc
read_long (Some message) rest len e = absurd cc

long_length : (o : Option (ℕ × List ℕ)) (len : ℕ) → by_length o ≡ TooLong len → (x : ℕ × List ℕ) × (o ≡ Some x) × IsLongLength x len
long_length None len e = absurd cc
long_length (Some x) len e =
    elim (cases_Bool (ltb max_contents x.0)) [
      | inl long ↦ (x, refl, record { same = long_is x.0 len (rw long at e); over = ltb-true _ _ long })
      | inr limit ↦ elim (cases_Bool (leb x.0 (length x.1))) [
        | inl there ↦ absurd (read_long (message_of (take x.0 x.1)) (drop x.0 x.1) len (rw (limit, there) at e))
        | inr part ↦ let no : Short ≡ TooLong len = rw (limit, part) at e in absurd cc
      ]
    ]

-- and a length over the limit
pub front_long_more : (bytes rest : List ℕ) (len : ℕ) → front bytes ≡ TooLong len → front (bytes ++ rest) ≡ TooLong len
unfolding front
front_long_more bytes rest len e =
    let a = long_length (count_at bytes) len e in
    sees_long (bytes ++ rest) (a.0.1 ++ rest) a.0.0 (count_more bytes rest a.0 a.1) a.2.over ∙ ap TooLong a.2.same
