-- Work at once of which some is done goes on with what is left.
use Rattle.std.proofs.Common.{◌≡◌, List, [], ◌∷◌, ◌++◌, Option, Some, None, Result, Ok, Err, refl, sym, ap, subst, ◌∙◌, append_assoc, append-nil}
use Rattle.thunk_codec.specs.declared.job.Job.{Job}
use Rattle.file_tree.specs.Files.{Files}
use Rattle.build_plan.specs.Doing.{Why, Ended, Got, Stopped, Doing, ◌>>=◌, give, go_on, unless, each}
use Rattle.build_script.specs.declared.run_fault.RunFault.{RunFault}
use Rattle.build_script.specs.AtOnce.{Ran}
use Rattle.build_script.specs.WorkAtOnce.{Finds, Goes, IsStopped, Leads, Stops, behind, why_of, with_jobs}

-- ---- states with more jobs

pub with_jobs-none : (w : Ran) → w ≡ with_jobs w []
with_jobs-none w = λ i. record w { jobs = sym (append-nil w.jobs) i }

pub with_jobs-both : (w : Ran) (first others : List Job) → with_jobs (with_jobs w first) others ≡ with_jobs w (first ++ others)
with_jobs-both w first others = λ i. record w { jobs = append_assoc w.jobs first others i }

-- ---- what is left of some work

-- nothing is done yet
pub leads-none : {A : Type 0} (work left : Doing Ran A) (files : Files) → ((w : Ran) → w.files ≡ files → work w ≡ left w) → Leads work left files
leads-none work left files same = record { jobs = []; goes_on = λ w at. same w at ∙ ap left (with_jobs-none w) }

-- what is left after more is done
pub leads-on : {A : Type 0} (work middle left : Doing Ran A) (files : Files) → Leads work middle files → Leads middle left files → Leads work left files
leads-on work middle left files first then = record {
  jobs = first.jobs ++ then.jobs;
  goes_on = λ w at. first.goes_on w at ∙ then.goes_on (with_jobs w first.jobs) at ∙ ap left (with_jobs-both w first.jobs then.jobs);
}

-- the work may be said otherwise, and what is left too
pub leads-same : {A : Type 0} (work other left : Doing Ran A) (files : Files) → ((w : Ran) → w.files ≡ files → work w ≡ other w) → Leads other left files → Leads work left files
leads-same work other left files same h = record { jobs = h.jobs; goes_on = λ w at. same w at ∙ h.goes_on w at }

pub leads-left : {A : Type 0} (work left other : Doing Ran A) (files : Files) → ((w : Ran) → left w ≡ other w) → Leads work left files → Leads work other files
leads-left work left other files same h = record { jobs = h.jobs; goes_on = λ w at. h.goes_on w at ∙ same _ }

-- more work stands behind it
pub leads-more : {A B : Type 0} (work left : Doing Ran A) (next : A → Doing Ran B) (files : Files) → Leads work left files → Leads (work >>= next) (left >>= next) files
leads-more work left next files h = record { jobs = h.jobs; goes_on = λ w at. ap (λ e. go_on e next) (h.goes_on w at) }

-- where some is done, what is left ends the whole
pub stops-on : {A : Type 0} (work middle : Doing Ran A) (files : Files) (why : Option Why) → Leads work middle files → Stops middle files why → Stops work files why
stops-on work middle files None first h = tt
stops-on work middle files (Some why) first h = leads-on work middle (λ w. Stopped why w) files first h

pub goes-on : {A : Type 0} (work middle : Doing Ran A) (files : Files) (r : Result A RunFault) → Leads work middle files → Goes middle files r → Goes work files r
goes-on work middle files (Ok x) first h = leads-on work middle (give x) files first h
goes-on work middle files (Err fault) first h = stops-on work middle files (why_of fault) first h

pub goes-same : {A : Type 0} (work other : Doing Ran A) (files : Files) (r : Result A RunFault) → ((w : Ran) → w.files ≡ files → work w ≡ other w) → Goes other files r → Goes work files r
goes-same work other files r same h = goes-on work other files r (leads-none work other files same) h

-- work after work that gave something
pub goes-then : {A B : Type 0} (work : Doing Ran A) (next : A → Doing Ran B) (x : A) (files : Files) (r : Result B RunFault) → Goes work files (Ok x) → Goes (next x) files r → Goes (work >>= next) files r
goes-then work next x files r first h = goes-on (work >>= next) (next x) files r (leads-more work (give x) next files first) h

-- work after work that stopped
pub stops-bind : {A B : Type 0} (work : Doing Ran A) (next : A → Doing Ran B) (files : Files) (why : Option Why) → Stops work files why → Stops (work >>= next) files why
stops-bind work next files None h = tt
stops-bind work next files (Some why) h = leads-more work (λ w. Stopped why w) next files h

-- work that is what was found goes as it was found
pub stops-found : {A : Type 0} (work : Doing Ran A) (wanted : Result A Why) (files : Files) (why : Option Why) → ((w : Ran) → w.files ≡ files → work w ≡ unless wanted w) → IsStopped wanted why → Stops work files why
stops-found work wanted files None same h = tt
stops-found work wanted files (Some why) same h = leads-none work (λ w. Stopped why w) files (λ w at. same w at ∙ ap (λ r. unless r w) h)

pub goes-found : {A : Type 0} (work : Doing Ran A) (wanted : Result A Why) (files : Files) (r : Result A RunFault) → ((w : Ran) → w.files ≡ files → work w ≡ unless wanted w) → Finds wanted r → Goes work files r
goes-found work wanted files (Ok x) same h = leads-none work (give x) files (λ w at. same w at ∙ ap (λ r. unless r w) h)
goes-found work wanted files (Err fault) same h = stops-found work wanted files (why_of fault) same h

-- ---- each of some

-- two works after a first are the second, with the third after it
pub bind-bind : {A B C : Type 0} (e : Ended Ran A) (next : A → Doing Ran B) (last : B → Doing Ran C) → go_on (go_on e next) last ≡ go_on e (λ x. next x >>= last)
bind-bind (Got x w) next last = refl
bind-bind (Stopped why w) next last = refl

bind-none : {A : Type 0} (e : Ended Ran (List A)) → e ≡ go_on e (λ ys. give ([] ++ ys))
bind-none (Got ys w) = refl
bind-none (Stopped why w) = refl

behind-one : {B : Type 0} (before : List B) (y : B) (e : Ended Ran (List B)) → go_on (go_on e (λ ys. give (y ∷ ys))) (λ ys. give (before ++ ys)) ≡ go_on e (λ ys. give ((before ++ y ∷ []) ++ ys))
behind-one before y (Got ys w) = ap (λ l. Got l w) (sym (append_assoc before (y ∷ []) ys))
behind-one before y (Stopped why w) = refl

module _ {A B : Type 0} (work : A → Doing Ran B) where
  -- none is done yet
  pub each-start : (xs : List A) (files : Files) → Leads (each work xs) (behind work [] xs) files
  each-start xs files = leads-none (each work xs) (behind work [] xs) files (λ w at. bind-none (each work xs w))

  -- none is left
  pub each-end : (before : List B) (files : Files) → Leads (behind work before []) (give before) files
  each-end before files = leads-none (behind work before []) (give before) files (λ w at. ap (λ l. Got l w) (append-nil before))

  -- one more is done
  pub each-next : (before : List B) (x : A) (xs : List A) (y : B) (files : Files) → Goes (work x) files (Ok y) → Leads (behind work before (x ∷ xs)) (behind work (before ++ y ∷ []) xs) files
  each-next before x xs y files h =
      leads-left (behind work before (x ∷ xs)) ((each work xs >>= λ ys. give (y ∷ ys)) >>= λ more. give (before ++ more)) (behind work (before ++ y ∷ []) xs) files (λ w. behind-one before y (each work xs w))
      (leads-more (each work (x ∷ xs)) (each work xs >>= λ ys. give (y ∷ ys)) (λ more. give (before ++ more)) files
      (leads-more (work x) (give y) (λ y. each work xs >>= λ ys. give (y ∷ ys)) files h))

  -- the next one stops
  pub each-stop : (before : List B) (x : A) (xs : List A) (files : Files) (why : Option Why) → Stops (work x) files why → Stops (behind work before (x ∷ xs)) files why
  each-stop before x xs files why h =
      stops-bind (each work (x ∷ xs)) (λ more. give (before ++ more)) files why (stops-bind (work x) (λ y. each work xs >>= λ ys. give (y ∷ ys)) files why h)

  behind-more : (y : B) (ys : List A) (e : Ended Ran (List B)) → go_on (go_on e (λ before. behind work before ys)) (λ zs. give (y ∷ zs)) ≡ go_on (go_on e (λ before. give (y ∷ before))) (λ before. behind work before ys)
  behind-more y ys (Got before w) = by (each work ys w)
    where
      by : (e : Ended Ran (List B)) → go_on (go_on e (λ more. give (before ++ more))) (λ zs. give (y ∷ zs)) ≡ go_on e (λ more. give ((y ∷ before) ++ more))
      by (Got more u) = refl
      by (Stopped why u) = refl
  behind-more y ys (Stopped why w) = refl

  one-before : (x : A) (xs ys : List A) → ((w : Ran) → each work (xs ++ ys) w ≡ go_on (each work xs w) (λ before. behind work before ys)) → (e : Ended Ran B)
      → go_on e (λ y. each work (xs ++ ys) >>= λ zs. give (y ∷ zs)) ≡ go_on (go_on e (λ y. each work xs >>= λ zs. give (y ∷ zs))) (λ before. behind work before ys)
  one-before x xs ys same (Got y w) = ap (λ e. go_on e (λ zs. give (y ∷ zs))) (same w) ∙ behind-more y ys (each work xs w)
  one-before x xs ys same (Stopped why w) = refl

  -- some, and then others
  pub each-append : (xs ys : List A) (w : Ran) → each work (xs ++ ys) w ≡ (each work xs >>= λ before. behind work before ys) w
  each-append [] ys w = bind-none (each work ys w)
  each-append (x ∷ xs) ys w = one-before x xs ys (each-append xs ys) (work x w)

  -- all are done
  pub each-all : (xs left : List A) (files : Files) (before : List B) → Leads (each work xs) (behind work before left) files → left ≡ [] → Leads (each work xs) (give before) files
  each-all xs left files before h none =
      leads-on (each work xs) (behind work before []) (give before) files (subst (λ (left : List A). Leads (each work xs) (behind work before left) files) none h) (each-end before files)
