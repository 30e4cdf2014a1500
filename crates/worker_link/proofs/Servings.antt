-- A worker in the midst of a session.
use Rattle.std.proofs.Common.{◌≡◌, ℕ, ◌+◌, ◌-◌, ◌*◌, ◌^◌, ◌<◌, ◌≤◌, List, [], ◌∷◌, ◌++◌, length, map, take, drop, leb, Option, Some, None, IfSome, Result, Ok, Err, length-append, append_assoc, refl, sym, ap, subst, ◌∙◌, arith}
use Rattle.std.specs.List.{flat_map, AllByRecursion}
use Rattle.std.specs.Io.KnownBytes.{Appends, Consumes, IsAtEnd}
use Rattle.std.proofs.KnownBytes.{Appends-nil, Appends-trans, Consumes-nil, Consumes-trans}
use Rattle.std.proofs.lemmas.List.{append-nil}
use Rattle.std.proofs.lemmas.List.Concat.{flat_map-cons, flat_map-append}
use Rattle.object_name.specs.Streams.{IsPrefix, AppendsPrefix}
use Rattle.thunk_codec.specs.declared.job.Job.{Job}
use Rattle.thunk_codec.specs.declared.job.Outcome.{Outcome}
use Rattle.job_wire.specs.declared.message.Message.{Message}
use Rattle.job_wire.specs.declared.message.Message.TheVariants.{Start, Reply, Bye}
use Rattle.job_wire.specs.Frame.{frame, IsMessage}
use Rattle.job_wire.specs.Session.{Front, Short, Bad, TooLong, Whole, front, end_of, Session, ends, before, session_by, session_from, session}
use Rattle.job_wire.specs.Session as session_ends
use Rattle.job_wire.specs.declared.cutter.CutFault.{CutFault}
use Rattle.job_wire.specs.Cut.{Cutting, IsCut, first_before, Cuts, TakesFrame}
use Rattle.job_wire.proofs.PublicLaws.{cut_started, cut_fed, cut_taken, cut_session}
use Rattle.job_wire.proofs.PublicLaws.{session_is, session_again, front_bad_more, front_long_more}
use Rattle.worker_link.specs.declared.worker_end.WorkerEnd.{WorkerEnd}
use Rattle.worker_link.specs.declared.worker_end.WorkerEnd.TheVariants.{Ended, Cut, BadFrame, FrameTooLong, TooMuch, SourceFailed, SinkFailed, RunFailed, Memory}
use Rattle.worker_link.specs.Serving.{started, end_after, jobs_of, worker_end, reply, answer, AreTold, WritesPrefix, WritesAll, Serves}
use Rattle.worker_link.specs.Ends.{IsFed, IsAnswerEnd, IsTooMuch}

-- the message that a job came by
abbrev pub start : ℕ × Job → Message
start job = Start job.0 job.1

-- ---- lists

map_push : {A B : Type 0} (f : A → B) (xs : List A) (x : A) → map f (xs ++ x ∷ []) ≡ map f xs ++ f x ∷ []
map_push f [] x = refl
map_push f (y ∷ xs) x = ap (λ (v : List _). f y ∷ v) (map_push f xs x)

all_front : {A : Type 0} (P : A → Type 0) (xs ys : List A) → AllByRecursion P (xs ++ ys) → AllByRecursion P xs
all_front P [] ys h = tt
all_front P (x ∷ xs) ys h = (h.0, all_front P xs ys h.1)

all_rest : {A : Type 0} (P : A → Type 0) (xs ys : List A) → AllByRecursion P (xs ++ ys) → AllByRecursion P ys
all_rest P [] ys h = h
all_rest P (x ∷ xs) ys h = all_rest P xs ys h.1

-- the jobs before other messages
started_before : (given : List (ℕ × Job)) (others : List Message) → started (map start given ++ others) ≡ given ++ started others
started_before [] others = refl
started_before (job ∷ given) others = ap (λ (v : List (ℕ × Job)). job ∷ v) (started_before given others)

end_before : (given : List (ℕ × Job)) (others : List Message) (end : session_ends.End) (at : ℕ) → end_after at (map start given ++ others) end ≡ end_after (at + length (flat_map frame (map start given))) others end
end_before [] others end at = ap (λ (k : ℕ). end_after k others end) (omega arith)
end_before (job ∷ given) others end at =
    let place : at + length (frame (start job)) + length (flat_map frame (map start given)) ≡ at + length (flat_map frame (map start (job ∷ given))) = omega (arith, ap length (flat_map-cons frame (start job) (map start given)), length-append (frame (start job)) (flat_map frame (map start given))) in
    end_before given others end (at + length (frame (start job))) ∙ ap (λ (k : ℕ). end_after k others end) place

-- no further job stands there, and this is the end
pub record EndsAt (at : ℕ) (s : Session) (last : WorkerEnd) : Type 0 where
  pub none : started s.messages ≡ []
  pub is : end_after at s.messages s.end ≡ last

-- ---- what the cutter gave

pub taken_is : (old new : Cutting) (o : Option Message) (m n : Message) → o ≡ Some m → m ≡ n → TakesFrame old new (Ok o) → IsMessage n × (old.kept ≡ frame n ++ new.kept)
taken_is old new o m n some is h = subst (λ (v : Option Message). TakesFrame old new (Ok v)) (some ∙ ap (λ (v : Message). Some v) is) h

pub place_is : (old new : Cutting) (o : Option Message) (m n : Message) → o ≡ Some m → m ≡ n → Cuts old new (Ok o) → new.at ≡ old.at + length (frame n)
place_is old new o m n some is h = (subst (λ (v : Option Message). Cuts old new (Ok v)) (some ∙ ap (λ (v : Message). Some v) is) h).1

pub short_is : (old new : Cutting) (o : Option Message) → o ≡ None → Cuts old new (Ok o) → (front old.kept ≡ Short) × (new ≡ old)
short_is old new o none h = subst (λ (v : Option Message). Cuts old new (Ok v)) none h

pub fault_is : (old new : Cutting) (e f : CutFault) → e ≡ f → Cuts old new (Err e) → Cuts old new (Err f)
fault_is old new e f is h = subst (λ (v : CutFault). Cuts old new (Err v)) is h

pub small_after : (old new : Cutting) (m : Message) → old.at + length old.kept < 2 ^ 64 → old.kept ≡ frame m ++ new.kept → new.at ≡ old.at + length (frame m) → new.at + length new.kept < 2 ^ 64
small_after old new m small parts place = omega (arith, small, ap length parts, length-append (frame m) new.kept, place)

-- ---- the midst

module _ (tells : Job → Type 0) (outcome : Job → Outcome) where
  -- the jobs given so far were answered, and the bytes fed so far came from the source
  pub record IsServing (left0 left wrote0 wrote : Option (List ℕ)) (c : Cutting) : Type 0 where
    pub fed : List ℕ
    pub given : List (ℕ × Job)
    pub cut : IsCut fed (map start given) c
    pub lost : Consumes left0 left fed
    pub written : AllByRecursion (λ job. tells job.1) given → Appends wrote0 wrote (flat_map (reply outcome) given)

  pub serving_starts : (left wrote : Option (List ℕ)) → IsServing left left wrote wrote (record { at = 0; kept = [] })
  serving_starts left wrote = record { fed = []; given = []; cut = cut_started; lost = Consumes-nil left; written = λ _. Appends-nil wrote }

  pub serving_feeds : (left0 left left1 wrote0 wrote : Option (List ℕ)) (c d : Cutting) → IsServing left0 left wrote0 wrote c → IsFed c d left left1 → IsServing left0 left1 wrote0 wrote d
  serving_feeds left0 left left1 wrote0 wrote c d h f = record {
    fed = h.fed ++ f.piece;
    given = h.given;
    cut = subst (IsCut (h.fed ++ f.piece) (map start h.given)) (sym f.fed) (cut_fed h.fed (map start h.given) c f.piece h.cut);
    lost = Consumes-trans left0 left left1 h.fed f.piece h.lost f.lost;
    written = h.written;
  }

  more_answers : (given : List (ℕ × Job)) (job : ℕ × Job) → flat_map (reply outcome) (given ++ job ∷ []) ≡ flat_map (reply outcome) given ++ reply outcome job
  more_answers given job = flat_map-append (reply outcome) given (job ∷ []) ∙ ap (λ (v : List ℕ). flat_map (reply outcome) given ++ v) (flat_map-cons (reply outcome) job [] ∙ append-nil (reply outcome job))

  pub serving_answers : (left0 left wrote0 wrote wrote1 : Option (List ℕ)) (c d : Cutting) (lease : ℕ) (job : Job) → IsServing left0 left wrote0 wrote c → IsMessage (Start lease job) → c.kept ≡ frame (Start lease job) ++ d.kept → d.at ≡ c.at + length (frame (Start lease job))
      → (tells job → Appends wrote wrote1 (reply outcome (lease, job))) → IsServing left0 left wrote0 wrote1 d
  serving_answers left0 left wrote0 wrote wrote1 c d lease job h rules parts place more = record {
    fed = h.fed;
    given = h.given ++ (lease, job) ∷ [];
    cut = subst (λ (v : List Message). IsCut h.fed v d) (sym (map_push start h.given (lease, job)))
        (subst (λ (k : ℕ). IsCut h.fed (map start h.given ++ Start lease job ∷ []) (record { at = k; kept = d.kept })) (sym place) (cut_taken h.fed (map start h.given) c (Start lease job) d.kept h.cut rules parts));
    lost = h.lost;
    written = λ told.
        subst (Appends wrote0 wrote1) (sym (more_answers h.given (lease, job)))
        (Appends-trans wrote0 wrote wrote1 (flat_map (reply outcome) h.given) (reply outcome (lease, job)) (h.written (all_front (λ j. tells j.1) h.given ((lease, job) ∷ []) told)) (more (all_rest (λ j. tells j.1) h.given ((lease, job) ∷ []) told).0));
  }

  -- the session, by what is kept and left
  record HasRest (all : List ℕ) (given : List (ℕ × Job)) (s : Session) (at : ℕ) : Type 0 where
    jobs : jobs_of all ≡ given ++ started s.messages
    end : worker_end all ≡ end_after at s.messages s.end

  rest_is : (all rest fed : List ℕ) (given : List (ℕ × Job)) (c : Cutting) → IsCut fed (map start given) c → all ≡ fed ++ rest → HasRest all given (session_from c.at (c.kept ++ rest)) c.at
  rest_is all rest fed given c cut whole =
      let s = session_from c.at (c.kept ++ rest) in
      let e : session all ≡ first_before (map start given) s = ap session whole ∙ cut_session (fed ++ rest) (map start given) (record { at = c.at; kept = c.kept ++ rest }) (cut_fed fed (map start given) c rest cut) in
      let place : 0 + length (flat_map frame (map start given)) ≡ c.at = omega (arith, cut.at) in
      record {
        jobs = ap (λ (v : Session). started v.messages) e ∙ started_before given s.messages;
        end = ap (λ (v : Session). end_after 0 v.messages v.end) e ∙ end_before given s.messages s.end 0 ∙ ap (λ (k : ℕ). end_after k s.messages s.end) place;
      }

  -- a prefix of the answers is written
  pub serving_prefix : (left0 left wrote0 wrote : Option (List ℕ)) (c : Cutting) → IsServing left0 left wrote0 wrote c → IfSome left0 (λ all. WritesPrefix tells outcome all wrote0 wrote)
  serving_prefix None left wrote0 wrote c h = tt
  serving_prefix (Some all) None wrote0 wrote c h = absurd h.lost
  serving_prefix (Some all) (Some rest) wrote0 wrote c h =
      let r = rest_is all rest h.fed h.given c h.cut h.lost in
      let others = started (session_from c.at (c.kept ++ rest)).messages in
      λ told.
      record {
        prefix = flat_map (reply outcome) h.given;
        is_prefix = record { rest = flat_map (reply outcome) others; whole = ap (flat_map (reply outcome)) r.jobs ∙ flat_map-append (reply outcome) h.given others };
        grown = h.written (all_front (λ j. tells j.1) h.given others (subst (AllByRecursion (λ j. tells j.1)) r.jobs told));
      }

  -- a prefix of one more answer
  pub serving_part : (left0 left wrote0 wrote wrote1 : Option (List ℕ)) (c : Cutting) (lease : ℕ) (job : Job) (kept : List ℕ) → IsServing left0 left wrote0 wrote c → IsMessage (Start lease job) → c.kept ≡ frame (Start lease job) ++ kept
      → (tells job → AppendsPrefix wrote wrote1 (reply outcome (lease, job))) → IfSome left0 (λ all. WritesPrefix tells outcome all wrote0 wrote1)
  serving_part None left wrote0 wrote wrote1 c lease job kept h rules parts more = tt
  serving_part (Some all) None wrote0 wrote wrote1 c lease job kept h rules parts more = absurd h.lost
  serving_part (Some all) (Some rest) wrote0 wrote wrote1 c lease job kept h rules parts more =
      let r = rest_is all rest h.fed h.given c h.cut h.lost in
      let s : session_from c.at (c.kept ++ rest) ≡ before (Start lease job) (session_from (c.at + length (frame (Start lease job))) (kept ++ rest)) =
      ap (λ (v : List ℕ). session_from c.at (v ++ rest)) parts ∙ ap (session_from c.at) (append_assoc (frame (Start lease job)) kept rest) ∙ session_again (Start lease job) c.at (kept ++ rest) rules in
      let others = started (session_from (c.at + length (frame (Start lease job))) (kept ++ rest)).messages in
      let jobs : jobs_of all ≡ h.given ++ (lease, job) ∷ others = r.jobs ∙ ap (λ (v : Session). h.given ++ started v.messages) s in
      let given_answers = flat_map (reply outcome) h.given in
      let this = reply outcome (lease, job) in
      let answers : answer outcome all ≡ given_answers ++ (this ++ flat_map (reply outcome) others) =
      ap (flat_map (reply outcome)) jobs ∙ flat_map-append (reply outcome) h.given ((lease, job) ∷ others) ∙ ap (λ (v : List ℕ). given_answers ++ v) (flat_map-cons (reply outcome) (lease, job) others) in
      λ told.
      let all_told = subst (AllByRecursion (λ j. tells j.1)) jobs told in
      let m = more (all_rest (λ j. tells j.1) h.given ((lease, job) ∷ others) all_told).0 in
      record {
        prefix = given_answers ++ m.prefix;
        is_prefix = record {
          rest = m.is_prefix.rest ++ flat_map (reply outcome) others;
          whole = answers ∙ ap (λ (v : List ℕ). given_answers ++ (v ++ flat_map (reply outcome) others)) m.is_prefix.whole
              ∙ ap (λ (v : List ℕ). given_answers ++ v) (append_assoc m.prefix m.is_prefix.rest (flat_map (reply outcome) others))
              ∙ sym (append_assoc given_answers m.prefix (m.is_prefix.rest ++ flat_map (reply outcome) others));
        };
        grown = Appends-trans wrote0 wrote wrote1 given_answers m.prefix (h.written (all_front (λ j. tells j.1) h.given ((lease, job) ∷ others) all_told)) m.grown;
      }

  -- what was written is all
  pub serving_ends : (left0 left wrote0 wrote : Option (List ℕ)) (c : Cutting) (end : WorkerEnd) → IsServing left0 left wrote0 wrote c → ((rest : List ℕ) → left ≡ Some rest → EndsAt c.at (session_from c.at (c.kept ++ rest)) end)
      → IfSome left0 (λ all. (end ≡ worker_end all) × WritesAll tells outcome all wrote0 wrote)
  serving_ends None left wrote0 wrote c end h stands = tt
  serving_ends (Some all) None wrote0 wrote c end h stands = absurd h.lost
  serving_ends (Some all) (Some rest) wrote0 wrote c end h stands =
      let r = rest_is all rest h.fed h.given c h.cut h.lost in
      let e = stands rest refl in
      let jobs : jobs_of all ≡ h.given = r.jobs ∙ ap (λ (v : List (ℕ × Job)). h.given ++ v) e.none ∙ append-nil h.given in
      (sym (r.end ∙ e.is), λ told. subst (λ (v : List (ℕ × Job)). Appends wrote0 wrote (flat_map (reply outcome) v)) (sym jobs) (h.written (subst (AllByRecursion (λ j. tells j.1)) jobs told)))

-- ---- the ends

-- the session of a message and more bytes
session_of_message : (message : Message) (at : ℕ) (bytes kept rest : List ℕ) → IsMessage message → bytes ≡ frame message ++ kept → session_from at (bytes ++ rest) ≡ before message (session_from (at + length (frame message)) (kept ++ rest))
session_of_message message at bytes kept rest rules parts =
    ap (λ (v : List ℕ). session_from at (v ++ rest)) parts ∙ ap (session_from at) (append_assoc (frame message) kept rest) ∙ session_again message at (kept ++ rest) rules

pub ends_at_bye : (at : ℕ) (bytes kept rest : List ℕ) → bytes ≡ frame Bye ++ kept → EndsAt at (session_from at (bytes ++ rest)) Ended
ends_at_bye at bytes kept rest parts =
    let s = session_of_message Bye at bytes kept rest tt parts in
    record { none = ap (λ (v : Session). started v.messages) s; is = ap (λ (v : Session). end_after at v.messages v.end) s }

pub ends_at_reply : (at lease : ℕ) (outcome : Outcome) (bytes kept rest : List ℕ) → IsMessage (Reply lease outcome) → bytes ≡ frame (Reply lease outcome) ++ kept → EndsAt at (session_from at (bytes ++ rest)) (BadFrame at)
ends_at_reply at lease outcome bytes kept rest rules parts =
    let s = session_of_message (Reply lease outcome) at bytes kept rest rules parts in
    record { none = ap (λ (v : Session). started v.messages) s; is = ap (λ (v : Session). end_after at v.messages v.end) s }

pub ends_at_bad : (at place : ℕ) (bytes rest : List ℕ) → place ≡ at → front bytes ≡ Bad → EndsAt at (session_from at (bytes ++ rest)) (BadFrame place)
ends_at_bad at place bytes rest is e =
    let s = session_is at (bytes ++ rest) ∙ ap (session_by session_from at (bytes ++ rest)) (front_bad_more bytes rest e) in
    record { none = ap (λ (v : Session). started v.messages) s; is = ap (λ (v : Session). end_after at v.messages v.end) s ∙ ap (λ (k : ℕ). BadFrame k) (sym is) }

pub ends_at_long : (at place len : ℕ) (bytes rest : List ℕ) → place ≡ at → front bytes ≡ TooLong len → EndsAt at (session_from at (bytes ++ rest)) (FrameTooLong place len)
ends_at_long at place len bytes rest is e =
    let s = session_is at (bytes ++ rest) ∙ ap (session_by session_from at (bytes ++ rest)) (front_long_more bytes rest len e) in
    record { none = ap (λ (v : Session). started v.messages) s; is = ap (λ (v : Session). end_after at v.messages v.end) s ∙ ap (λ (k : ℕ). FrameTooLong k len) (sym is) }

abbrev pub ended_or_cut : List ℕ → WorkerEnd
ended_or_cut [] = Ended
ended_or_cut (byte ∷ bytes) = Cut

at_end : (at : ℕ) (bytes : List ℕ) (s : Session) → s ≡ ends (end_of bytes) → EndsAt at s (ended_or_cut bytes)
at_end at [] s e = record { none = ap (λ (v : Session). started v.messages) e; is = ap (λ (v : Session). end_after at v.messages v.end) e }
at_end at (byte ∷ bytes) s e = record { none = ap (λ (v : Session). started v.messages) e; is = ap (λ (v : Session). end_after at v.messages v.end) e }

pub ends_short : (at : ℕ) (bytes rest : List ℕ) → front bytes ≡ Short → rest ≡ [] → EndsAt at (session_from at (bytes ++ rest)) (ended_or_cut bytes)
ends_short at bytes rest e none =
    at_end at bytes (session_from at (bytes ++ rest)) (ap (λ (v : List ℕ). session_from at (bytes ++ v)) none ∙ ap (session_from at) (append-nil bytes) ∙ session_is at bytes ∙ ap (session_by session_from at bytes) e)

pub at_rest_ended : (bytes : List ℕ) → bytes ≡ [] → ended_or_cut bytes ≡ Ended
at_rest_ended bytes e = ap ended_or_cut e

pub not_at_rest_cut : (bytes : List ℕ) → (bytes ≡ [] → ⊥) → ended_or_cut bytes ≡ Cut
not_at_rest_cut [] some = absurd (some refl)
not_at_rest_cut (byte ∷ bytes) some = refl

rest_nil : (left : Option (List ℕ)) (rest : List ℕ) → IsAtEnd left → left ≡ Some rest → rest ≡ []
rest_nil left rest h e = subst IsAtEnd e h

-- ---- the ends of the code

module _ (tells : Job → Type 0) (outcome : Job → Outcome) where
  serving_same : (left0 left left1 wrote0 wrote : Option (List ℕ)) (c : Cutting) → IsServing tells outcome left0 left wrote0 wrote c → Consumes left left1 [] → IsServing tells outcome left0 left1 wrote0 wrote c
  serving_same left0 left left1 wrote0 wrote c h same = record {
    fed = h.fed;
    given = h.given;
    cut = h.cut;
    lost = subst (Consumes left0 left1) (append-nil h.fed) (Consumes-trans left0 left left1 h.fed [] h.lost same);
    written = h.written;
  }

  -- the input has ended
  pub serving_at_end : (left0 left left1 wrote0 wrote : Option (List ℕ)) (c : Cutting) (last : WorkerEnd) → IsServing tells outcome left0 left wrote0 wrote c → front c.kept ≡ Short → Consumes left left1 [] → IsAtEnd left1 → ended_or_cut c.kept ≡ last
      → IfSome left0 (λ all. (last ≡ worker_end all) × WritesAll tells outcome all wrote0 wrote)
  serving_at_end left0 left left1 wrote0 wrote c last h short same at_end is =
      serving_ends tells outcome left0 left1 wrote0 wrote c last (serving_same left0 left left1 wrote0 wrote c h same)
      (λ rest e. subst (EndsAt c.at (session_from c.at (c.kept ++ rest))) is (ends_short c.at c.kept rest short (rest_nil left1 rest at_end e)))

  -- an answer stopped
  pub answer_stops : (left0 wrote0 wrote : Option (List ℕ)) (runs runs1 writes writes1 : ℕ) (last : WorkerEnd) → IsAnswerEnd runs runs1 writes writes1 last → IfSome left0 (λ all. WritesPrefix tells outcome all wrote0 wrote) → IfSome left0 (λ all. Serves tells outcome all wrote0 wrote last)
  answer_stops None wrote0 wrote runs runs1 writes writes1 last e h = tt
  answer_stops (Some all) wrote0 wrote runs runs1 writes writes1 RunFailed e h = h
  answer_stops (Some all) wrote0 wrote runs runs1 writes writes1 SinkFailed e h = h
  answer_stops (Some all) wrote0 wrote runs runs1 writes writes1 Memory e h = h
  answer_stops (Some all) wrote0 wrote runs runs1 writes writes1 Ended e h = absurd e
  answer_stops (Some all) wrote0 wrote runs runs1 writes writes1 Cut e h = absurd e
  answer_stops (Some all) wrote0 wrote runs runs1 writes writes1 (BadFrame at) e h = absurd e
  answer_stops (Some all) wrote0 wrote runs runs1 writes writes1 (FrameTooLong at len) e h = absurd e
  answer_stops (Some all) wrote0 wrote runs runs1 writes writes1 TooMuch e h = absurd e
  answer_stops (Some all) wrote0 wrote runs runs1 writes writes1 SourceFailed e h = absurd e

  -- more bytes come than are counted
  too_long : (all : List ℕ) (left left1 wrote0 wrote : Option (List ℕ)) (c : Cutting) → IsServing tells outcome (Some all) left wrote0 wrote c → IsTooMuch c left left1 → 2 ^ 64 ≤ length all
  too_long all None left1 wrote0 wrote c h e = absurd h.lost
  too_long all (Some rest) None wrote0 wrote c h e = absurd e.lost
  too_long all (Some rest) (Some rest1) wrote0 wrote c h e =
      omega (arith, h.cut.at, ap length h.lost, length-append h.fed rest, ap length h.cut.taken, length-append (flat_map frame (map start h.given)) c.kept, e.over, ap length e.lost, length-append e.piece rest1)

  pub serving_too_much : (left0 left left1 wrote0 wrote : Option (List ℕ)) (c : Cutting) → IsServing tells outcome left0 left wrote0 wrote c → IsTooMuch c left left1 → IfSome left0 (λ all. Serves tells outcome all wrote0 wrote TooMuch)
  serving_too_much None left left1 wrote0 wrote c h e = tt
  serving_too_much (Some all) left left1 wrote0 wrote c h e = (serving_prefix tells outcome (Some all) left wrote0 wrote c h, too_long all left left1 wrote0 wrote c h e)
