-- Keeping what a walker has gathered in order.
use Rattle.std.proofs.Common.{◌≡◌, ◌<◌, ◌+◌, ℕ, List, [], ◌∷◌, ◌++◌, length, drop, true, IsTrue, Some, Result, Ok, Err, refl, sym, ap, subst, ◌∙◌, arith, rules}
use Rattle.std.specs.Prelude.{◌==◌, OnOk, OnErr}
use Rattle.std.specs.List.{list_all, AllByRecursion}
use Rattle.std.proofs.lemmas.Bool.{and_parts, and_from, false≢true}
use Rattle.std.proofs.lemmas.List.{length_push}
use Rattle.std.proofs.lemmas.List.Folds.{list_all-append}
use Rattle.object_name.specs.declared.kind.Kind.TheVariants as kinds
use Rattle.object_name.specs.Name.{ObjectName}
use Rattle.thunk_codec.specs.declared.reference.Ref.{Ref}
use Rattle.thunk_codec.specs.declared.reference.Ref.TheVariants.{Value, Out}
use Rattle.thunk_codec.specs.Reference.{IsRef}
use Rattle.thunk_codec.specs.Thunk.{IsThunk}
use Rattle.thunk_codec.specs.Resolved.{refs_of, HaveValueKind}
use Rattle.need_eval.specs.declared.frame.Frame.{Frame}
use Rattle.need_eval.specs.declared.stage.Stage.{Stage}
use Rattle.need_eval.specs.declared.stage.Stage.TheVariants as stages
use Rattle.need_eval.specs.declared.waiting.Waiting.{Waiting}
use Rattle.need_eval.specs.WalkerInvariant.{waiting_in, is_inside, is_ready, is_value_kind, has_right_kind, is_gathered, fit_thunks, is_sound}

-- what a walker has gathered is in order
pub record IsSound (frames : List Frame) (done : List ObjectName) (rest : List Ref) : Type 0 where
  pub values : list_all (λ (name : ObjectName). is_value_kind name.kind) done ≡ true
  pub kinds : list_all has_right_kind rest ≡ true
  pub around : list_all (λ (frame : Frame). is_gathered frame.outer.done frame.outer.rest.items) frames ≡ true
  pub fit : fit_thunks frames (length done + length rest) ≡ true

pub IsSound-parts : (frames : List Frame) (done : List ObjectName) (rest : List Ref) → IsTrue (is_sound frames done rest) → IsSound frames done rest
IsSound-parts frames done rest h =
    let both = and_parts (is_gathered done rest) _ h in
    let gathered = and_parts (list_all (λ (name : ObjectName). is_value_kind name.kind) done) (list_all has_right_kind rest) both.0 in
    let others = and_parts (list_all (λ (frame : Frame). is_gathered frame.outer.done frame.outer.rest.items) frames) _ both.1 in
    record { values = gathered.0; kinds = gathered.1; around = others.0; fit = others.1 }

pub IsSound-whole : (frames : List Frame) (done : List ObjectName) (rest : List Ref) → IsSound frames done rest → IsTrue (is_sound frames done rest)
IsSound-whole frames done rest s = (and_from _ _ (and_from _ _ s.values s.kinds) (and_from _ _ s.around s.fit))

-- REFs have the right kind
right-ref : (r : Ref) → IsRef r → has_right_kind r ≡ true
right-ref (Value name) h = ap is_value_kind h.1
right-ref (Out name index) h = refl

right-refs : (refs : List Ref) → AllByRecursion IsRef refs → list_all has_right_kind refs ≡ true
right-refs [] h = refl
right-refs (r ∷ refs) h = and_from _ _ (right-ref r h.0) (right-refs refs h.1)

-- at the start
pub sound-fresh : (refs : List Ref) → AllByRecursion IsRef refs → IsTrue (is_sound [] [] refs)
sound-fresh refs h = IsSound-whole [] [] refs (record { values = refl; kinds = right-refs refs h; around = refl; fit = refl })

-- a value in place of a REF that was next
pub sound-gather : (frames : List Frame) (done : List ObjectName) (r : Ref) (rest : List Ref) (name : ObjectName) → is_value_kind name.kind ≡ true → IsTrue (is_sound frames done (r ∷ rest)) → IsTrue (is_sound frames (done ++ name ∷ []) rest)
sound-gather frames done r rest name kind h =
    let s = IsSound-parts frames done (r ∷ rest) h in
    let number : length done + length (r ∷ rest) ≡ length (done ++ name ∷ []) + length rest = omega (arith, length_push done name) in
    IsSound-whole frames (done ++ name ∷ []) rest (record {
      values = list_all-append (λ (name : ObjectName). is_value_kind name.kind) done (name ∷ []) ∙ and_from _ _ s.values (and_from _ _ kind refl);
      kinds = (and_parts (has_right_kind r) (list_all has_right_kind rest) s.kinds).1;
      around = s.around;
      fit = subst (λ (n : ℕ). fit_thunks frames n ≡ true) number s.fit;
    })

-- a value that is next
pub sound-value : (frames : List Frame) (done : List ObjectName) (name : ObjectName) (rest : List Ref) → IsTrue (is_sound frames done (Value name ∷ rest)) → IsTrue (is_sound frames (done ++ name ∷ []) rest)
sound-value frames done name rest h =
    let s = IsSound-parts frames done (Value name ∷ rest) h in
    sound-gather frames done (Value name) rest name (and_parts (is_value_kind name.kind) (list_all has_right_kind rest) s.kinds).0 h

-- a value that is next, taken or left
pub sound-gathering : {A E : Type 0} (result : Result A E) (frames : List Frame) (done done_now : List ObjectName) (rest rest_now : List Ref) (name : ObjectName) → rest ≡ Value name ∷ drop 1 rest
    → OnOk result (done_now ≡ done ++ name ∷ []) → OnOk result (rest_now ≡ drop 1 rest) → OnErr result (done_now ≡ done) → OnErr result (rest_now ≡ rest)
    → IsTrue (is_sound frames done rest) → IsTrue (is_sound frames done_now rest_now)
sound-gathering (Ok x) frames done done_now rest rest_now name next taken left same stays h =
    (λ i. is_sound frames (taken i) (left i)) ∙ sound-value frames done name (drop 1 rest) (subst (λ (rest : List Ref). IsTrue (is_sound frames done rest)) next h)
sound-gathering (Err fault) frames done done_now rest rest_now name next taken left same stays h = (λ i. is_sound frames (same i) (stays i)) ∙ h

-- an output in place of a REF that was next
pub sound-pass : (frames : List Frame) (done : List ObjectName) (r : Ref) (name : ObjectName) (index : ℕ) (rest : List Ref) → IsTrue (is_sound frames done (r ∷ rest)) → IsTrue (is_sound frames done (Out name index ∷ rest))
sound-pass frames done r name index rest h =
    let s = IsSound-parts frames done (r ∷ rest) h in
    IsSound-whole frames done (Out name index ∷ rest) (record {
      values = s.values;
      kinds = and_from true _ refl (and_parts (has_right_kind r) (list_all has_right_kind rest) s.kinds).1;
      around = s.around;
      fit = s.fit;
    })

-- without the thunks that were entered
pub sound-alone : (frames : List Frame) (done : List ObjectName) (rest : List Ref) → IsTrue (is_sound frames done rest) → IsTrue (is_sound [] done rest)
sound-alone frames done rest h =
    let s = IsSound-parts frames done rest h in
    IsSound-whole [] done rest (record { values = s.values; kinds = s.kinds; around = refl; fit = refl })

-- a thunk that is entered
pub sound-enter : (frames : List Frame) (done : List ObjectName) (rest : List Ref) (r : Ref) (next : List Ref) (frame : Frame) (new_frames : List Frame) (new_done : List ObjectName) (new_rest : List Ref) → rest ≡ r ∷ next → frame.outer.done ≡ done → frame.outer.rest.items ≡ next → new_frames ≡ frame ∷ frames → new_done ≡ [] → new_rest ≡ refs_of frame.thunk → IsThunk frame.thunk → IsTrue (is_sound frames done rest) → IsTrue (is_sound new_frames new_done new_rest)
sound-enter frames done rest r next frame new_frames new_done new_rest is dones rests framed nothing wanted thunk_rules h =
    let s = IsSound-parts frames done (r ∷ next) (subst (λ (rest : List Ref). IsTrue (is_sound frames done rest)) is h) in
    let number : length done + length (r ∷ next) ≡ length done + length next + 1 = omega arith in
    let here : fit_thunks frames (length frame.outer.done + length frame.outer.rest.items + 1) ≡ true =
    (λ i. fit_thunks frames (length (dones i) + length (rests i) + 1)) ∙ subst (λ (n : ℕ). fit_thunks frames n ≡ true) number s.fit in
    let gathered : is_gathered frame.outer.done frame.outer.rest.items ≡ true =
    (λ i. is_gathered (dones i) (rests i)) ∙ and_from _ _ s.values (and_parts (has_right_kind r) (list_all has_right_kind next) s.kinds).1 in
    (λ i. is_sound (framed i) (nothing i) (wanted i))
    ∙ IsSound-whole (frame ∷ frames) [] (refs_of frame.thunk) (record {
      values = refl;
      kinds = right-refs (refs_of frame.thunk) (thunk_rules.function, thunk_rules.input_refs);
      around = and_from _ _ gathered s.around;
      fit = and_from _ _ (search rules) here;
    })

-- a thunk that is left: the output that was wanted is next
pub sound-leave : (inner : Frame) (outer : List Frame) (done : List ObjectName) (rest : List Ref) (name : ObjectName) (index : ℕ) → IsTrue (is_sound (inner ∷ outer) done rest) → IsTrue (is_sound outer inner.outer.done (Out name index ∷ inner.outer.rest.items))
sound-leave inner outer done rest name index h =
    let s = IsSound-parts (inner ∷ outer) done rest h in
    let frames = and_parts (is_gathered inner.outer.done inner.outer.rest.items) _ s.around in
    let gathered = and_parts (list_all (λ (name : ObjectName). is_value_kind name.kind) inner.outer.done) (list_all has_right_kind inner.outer.rest.items) frames.0 in
    let fit = and_parts ((length done + length rest) == length (refs_of inner.thunk)) (fit_thunks outer (length inner.outer.done + length inner.outer.rest.items + 1)) s.fit in
    let number : length inner.outer.done + length inner.outer.rest.items + 1 ≡ length inner.outer.done + length (Out name index ∷ inner.outer.rest.items) = omega arith in
    IsSound-whole outer inner.outer.done (Out name index ∷ inner.outer.rest.items) (record {
      values = gathered.0;
      kinds = and_from true _ refl gathered.1;
      around = frames.1;
      fit = subst (λ (n : ℕ). fit_thunks outer n ≡ true) number fit.1;
    })

-- the values that were gathered for the innermost thunk are of the kind of values
value-kinds : (done : List ObjectName) → list_all (λ (name : ObjectName). is_value_kind name.kind) done ≡ true → HaveValueKind done
value-kinds [] h = tt
value-kinds (name ∷ done) h =
    let both = and_parts (is_value_kind name.kind) _ h in
    (of-value name.kind both.0, value-kinds done both.1)
  where
    of-value : (kind : Rattle.object_name.specs.declared.kind.Kind.Kind) → is_value_kind kind ≡ true → kind ≡ kinds.Value
    of-value kinds.Value e = refl
    of-value kinds.Thunk e = absurd (false≢true e)

pub sound-kinds : (frames : List Frame) (done : List ObjectName) (rest : List Ref) → IsTrue (is_sound frames done rest) → HaveValueKind done
sound-kinds frames done rest h = value-kinds done (IsSound-parts frames done rest h).values

-- inside a turn a walker needs nothing more
pub ready-turning : (stage : Stage) (frames : List Frame) (rest : List Ref) → stage ≡ stages.Turning → IsTrue (is_ready stage frames rest)
ready-turning stage frames rest is = subst (λ (stage : Stage). IsTrue (is_ready stage frames rest)) (sym is) refl

-- a walker that waits at a job is inside its thunk
pub ready-inside : (stage : Stage) (waiting : Waiting) (frames : List Frame) (rest : List Ref) → waiting_in stage ≡ Some waiting → IsTrue (is_ready stage frames rest) → IsTrue (is_inside frames rest)
ready-inside stages.Walking waiting frames rest is ready = cc
ready-inside stages.Turning waiting frames rest is ready = cc
ready-inside (stages.Blocked own) waiting frames rest is ready = ready
ready-inside stages.Ended waiting frames rest is ready = cc

-- inside a thunk there is one that was entered, and all values are there
pub inside-entered : (frames : List Frame) (rest : List Ref) → IsTrue (is_inside frames rest) → 0 < length frames
inside-entered [] rest h = absurd (false≢true h)
inside-entered (inner ∷ outer) rest h = omega arith

pub inside-gathered : (frames : List Frame) (rest : List Ref) → IsTrue (is_inside frames rest) → rest ≡ []
inside-gathered [] rest h = absurd (false≢true h)
inside-gathered (inner ∷ outer) [] h = refl
inside-gathered (inner ∷ outer) (next ∷ rest) h = absurd (false≢true h)

pub gathered-inside : (frames : List Frame) (rest : List Ref) (inner : Frame) (outer : List Frame) → frames ≡ inner ∷ outer → rest ≡ [] → IsTrue (is_inside frames rest)
gathered-inside frames rest inner outer entered gathered = subst (λ (frames : List Frame). IsTrue (is_inside frames rest)) (sym entered) (subst (λ (rest : List Ref). IsTrue (is_inside (inner ∷ outer) rest)) (sym gathered) refl)
