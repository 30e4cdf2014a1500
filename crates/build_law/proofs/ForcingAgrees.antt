-- Forcing all placeholders that a build leaves gives the tree of the build at once.
use Rattle.std.proofs.Common.{◌≡◌, ◌≤◌, ◌⊎◌, inl, inr, ℕ, ◌+◌, Bool, true, false, cond, List, [], ◌∷◌, ◌++◌, Option, Some, None, Ok, length, map, refl, sym, ap, subst, ◌∙◌, arith, le-leb, codes, decimal, length-append}
use Rattle.std.specs.Prelude.{bytes_eq, IsSome, nat_le}
use Rattle.std.specs.List.{AllByRecursion}
use Rattle.std.proofs.lemmas.Slice.Eq.{bytes_eq-Decides}
use Rattle.object_name.specs.Name.{ObjectName, name_of, max_size, spelling}
use Rattle.object_name.proofs.PublicLaws.{length-spelling}
use Rattle.std.proofs.lemmas.Fmt.{length-decimal-le}
use Rattle.thunk_codec.specs.declared.job.Job.{Job}
use Rattle.thunk_codec.specs.declared.reference.Ref.{Ref}
use Rattle.thunk_codec.specs.declared.reference.Ref.TheVariants.{Out}
use Rattle.thunk_codec.specs.declared.job.Outcome.{Outcome}
use Rattle.thunk_codec.specs.Placeholder.{placeholder_of, placeholder_text}
use Rattle.thunk_codec.proofs.PublicLaws.{placeholder_of-text}
use Rattle.blob_store.specs.Store.{Contents}
use Rattle.file_tree.specs.Files.{Files, changed, file_read, put_file}
use Rattle.file_tree.specs.declared.tree.FileRead.TheVariants as reads
use Rattle.file_tree.specs.declared.item.Item.TheVariants as items
use Rattle.file_tree.specs.Wanted.{wanted_of, refs_of, refs_once, ref_of_item, ref_of_read, ref_of_output, item_then}
use Rattle.need_eval.specs.Eval.{start}
use Rattle.build_plan.specs.Symbolic.{begun}
use Rattle.build_script.specs.AtOnce.{not_run}
use Rattle.build_law.specs.Agreement.{IsPlaceholderFile, IsOneOf, file_items, file_then, filed, BuildAgrees}
use Rattle.build_law.specs.Denoted.{IsRefOf}
use Rattle.build_law.proofs.Ledger.{Entry, denoted, left}
use Rattle.build_law.proofs.LedgerReached.{part_of}
use Rattle.build_law.proofs.PlansAgree.{Agree, built-agrees}
use Rattle.build_law.proofs.PremisesOfLedger.{fair, fair-part, good-start}
use Rattle.build_law.proofs.RefsEvaluate.{AreValues, HeldAll, came, came-all}
use Rattle.build_law.proofs.ThunksOfLedger.{alone}
use Rattle.build_law.proofs.TreesRelated.{FileRel, Related, Denoting}

-- ---- the start

start-file : (x : Option (List ℕ)) → (IsPlaceholderFile x → ⊥) → FileRel [] x x
start-file None plain = tt
start-file (Some x) plain = by (placeholder_of x) plain
  where
    by : (found : Option (ObjectName × ℕ)) → (IsSome found → ⊥) → Denoting [] x x found
    by None plain = refl
    by (Some output) plain = absurd (plain refl)

-- ---- the files that are wanted

record Wants (f : Files) (path : List ℕ) (r : Ref) : Type 0 where
  bytes : List ℕ
  output : ObjectName × ℕ
  there : f path ≡ Some bytes
  found : placeholder_of bytes ≡ Some output
  ref : r ≡ Out output.0 output.1

abbrev AllWanted : Files → List (List ℕ) → List Ref → Type 0
AllWanted f [] [] = Unit {0}
AllWanted f [] (r ∷ refs) = ⊥
AllWanted f (path ∷ paths) [] = ⊥
AllWanted f (path ∷ paths) (r ∷ refs) = Wants f path r × AllWanted f paths refs

-- the placeholder of a first output is short
placeholder-size : (bytes : List ℕ) (output : ObjectName × ℕ) → placeholder_of bytes ≡ Some output → output.1 ≡ 0 → length bytes ≤ max_size
placeholder-size bytes output found first =
    let is = placeholder_of-text bytes output found in
    let text : bytes ≡ placeholder_text output.0 0 = is.text ∙ ap (placeholder_text output.0) first in
    let name : length (spelling output.0) ≡ 52 = length-spelling output.0 is.output.0 in
    let number : length (decimal 0) ≤ 20 = length-decimal-le 20 0 (omega arith) (omega arith) (omega arith) in
    let whole : length bytes ≡ length (placeholder_text output.0 0) = ap length text in
    let sized = sizes (spelling output.0) (decimal 0) in
    omega (arith, name, number, whole, sized)
  where
    sizes : (name number : List ℕ) → length (codes "gg-placeholder 1" ++ 10 ∷ ((name ++ 35 ∷ number) ++ 10 ∷ [])) ≡ 17 + ((length name + (1 + length number)) + 1)
    sizes name number =
        let one = length-append (name ++ 35 ∷ number) (10 ∷ []) in
        let two = length-append name (35 ∷ number) in
        omega (arith, one, two)

record OneWanted (f : Files) (path : List ℕ) : Type 0 where
  ref : Ref
  wants : Wants f path ref
  is : ref_of_item f (items.File path) ≡ Ok ref

record AreWanted (f : Files) (paths : List (List ℕ)) : Type 0 where
  refs : List Ref
  wants : AllWanted f paths refs
  are : refs_of f (file_items paths) ≡ Ok refs

module _ (L : List Entry) (f g : Files) (related : Related L f g) where
  one_wanted : (path : List ℕ) → IsPlaceholderFile (f path) → OneWanted f path
  one_wanted path is = by (f path) refl is
    where
      first_output : (bytes : List ℕ) → f path ≡ Some bytes → (output : ObjectName × ℕ) → placeholder_of bytes ≡ Some output → (y : Option (List ℕ)) → g path ≡ y → FileRel L (Some bytes) y → output.1 ≡ 0
      first_output bytes there output p None o rel = absurd rel
      first_output bytes there output p (Some y) o rel = let d : Denoting L bytes y (Some output) = subst (Denoting L bytes y) p rel in d.0

      by_found : (bytes : List ℕ) → f path ≡ Some bytes → (found : Option (ObjectName × ℕ)) → placeholder_of bytes ≡ found → IsSome found → OneWanted f path
      by_found bytes there None p some = absurd (cc some)
      by_found bytes there (Some output) p some =
          let first = first_output bytes there output p (g path) refl (subst (λ (x : Option (List ℕ)). FileRel L x (g path)) there (related path)) in
          let small : nat_le (length bytes) max_size ≡ true = le-leb _ _ (placeholder-size bytes output p first) in
          record {
            ref = Out output.0 output.1;
            wants = record { bytes = bytes; output = output; there = there; found = p; ref = refl };
            is = ap (λ x. ref_of_read path (file_read x)) there ∙ ap (λ test. ref_of_read path (cond test (reads.Bytes bytes) reads.TooLong)) small ∙ ap (ref_of_output path) p;
          }

      by : (x : Option (List ℕ)) → f path ≡ x → IsPlaceholderFile x → OneWanted f path
      by None there is = absurd is
      by (Some bytes) there is = by_found bytes there (placeholder_of bytes) refl is

  are_wanted : (paths : List (List ℕ)) → AllByRecursion (λ path. IsPlaceholderFile (f path)) paths → AreWanted f paths
  unfolding refs_of
  are_wanted [] h = record { refs = []; wants = tt; are = refl }
  are_wanted (path ∷ paths) h =
      let one = one_wanted path h.0 in
      let rest = are_wanted paths h.1 in
      record { refs = one.ref ∷ rest.refs; wants = (one.wants, rest.wants); are = λ i. item_then (one.is i) (rest.are i) }

-- ---- what they are at once

-- the files have these bytes
abbrev AreFiles : Files → List (List ℕ) → List (List ℕ) → Type 0
AreFiles g [] [] = Unit {0}
AreFiles g [] (y ∷ ys) = ⊥
AreFiles g (path ∷ paths) [] = ⊥
AreFiles g (path ∷ paths) (y ∷ ys) = (g path ≡ Some y) × AreFiles g paths ys

record AtOnce (objects : Contents) (L : List Entry) (g : Files) (paths : List (List ℕ)) (refs : List Ref) : Type 0 where
  bytes : List (List ℕ)
  files : AreFiles g paths bytes
  values : AreValues (denoted objects L) refs bytes

module _ (objects : Contents) (L : List Entry) (f g : Files) (related : Related L f g) where
  record OneAtOnce (path : List ℕ) (r : Ref) : Type 0 where
    bytes : List ℕ
    file : g path ≡ Some bytes
    value : denoted objects L r ≡ Some bytes

  one_at_once : (path : List ℕ) (r : Ref) → Wants f path r → OneAtOnce path r
  one_at_once path r w = by (g path) refl (subst (λ (x : Option (List ℕ)). FileRel L x (g path)) w.there (related path))
    where
      by : (y : Option (List ℕ)) → g path ≡ y → FileRel L (Some w.bytes) y → OneAtOnce path r
      by None is rel = absurd rel
      by (Some y) is rel =
          let d : Denoting L w.bytes y (Some w.output) = subst (Denoting L w.bytes y) w.found rel in
          record { bytes = y; file = is; value = subst (λ (r : Ref). denoted objects L r ≡ Some y) (sym w.ref) (subst (λ k. denoted objects L (Out w.output.0 k) ≡ Some y) (sym d.0) d.1) }

  all_at_once : (paths : List (List ℕ)) (refs : List Ref) → AllWanted f paths refs → AtOnce objects L g paths refs
  all_at_once [] [] h = record { bytes = []; files = tt; values = tt }
  all_at_once [] (r ∷ refs) h = absurd h
  all_at_once (path ∷ paths) [] h = absurd h
  all_at_once (path ∷ paths) (r ∷ refs) h =
      let one = one_at_once path r h.0 in
      let rest = all_at_once paths refs h.1 in
      record { bytes = one.bytes ∷ rest.bytes; files = (one.file, rest.files); values = (one.value, rest.values) }

-- ---- the files are written

written-files : (objects : Contents) (g : Files) (paths ys : List (List ℕ)) → AreFiles g paths ys → HeldAll objects ys → (f : Files) (path : List ℕ) → ((f path ≡ g path) ⊎ IsOneOf path paths) →
    changed f (filed objects paths (map name_of ys)) path ≡ g path
written-files objects g [] [] files there f path (inl same) = same
written-files objects g [] [] files there f path (inr among) = absurd among
written-files objects g [] (y ∷ ys) files there f path among = absurd files
written-files objects g (p ∷ paths) [] files there f path among = absurd files
written-files objects g (p ∷ paths) (y ∷ ys) files there f path among =
    ap (λ found. changed f (file_then p found (filed objects paths (map name_of ys))) path) there.0
    ∙ written-files objects g paths ys files.1 there.1 (put_file f p y) path (by (bytes_eq path p) refl among)
  where
    by : (test : Bool) → bytes_eq path p ≡ test → ((f path ≡ g path) ⊎ IsOneOf path (p ∷ paths)) → ((cond test (Some y) (f path) ≡ g path) ⊎ IsOneOf path paths)
    by true is among = inl (sym files.0 ∙ ap g (sym ((bytes_eq-Decides path p).0 is)))
    by false is (inl same) = inl same
    by false is (inr (inr among)) = inr among
    by false is (inr (inl same)) = absurd (cc (sym is ∙ (bytes_eq-Decides path p).1 (sym same)))

-- a file that is no placeholder is the same on both sides
same-or-placeholder : (L : List Entry) (x y : Option (List ℕ)) → FileRel L x y → (x ≡ y) ⊎ IsPlaceholderFile x
same-or-placeholder L None None rel = inl refl
same-or-placeholder L None (Some y) rel = absurd rel
same-or-placeholder L (Some x) None rel = absurd rel
same-or-placeholder L (Some x) (Some y) rel = by (placeholder_of x) rel
  where
    by : (found : Option (ObjectName × ℕ)) → Denoting L x y found → (Some x ≡ Some y) ⊎ IsSome found
    by None rel = inl (ap (λ b. Some b) rel)
    by (Some output) rel = inr refl

either_way : (f g : Files) (path : List ℕ) (paths : List (List ℕ)) → (f path ≡ g path) ⊎ IsPlaceholderFile (f path) → (IsPlaceholderFile (f path) → IsOneOf path paths) → (f path ≡ g path) ⊎ IsOneOf path paths
either_way f g path paths (inl same) all = inl same
either_way f g path paths (inr is) all = inr (all is)

none-left : (L : List Entry) → left (λ name. None) L ≡ length L
none-left [] = refl
none-left (e ∷ L) = let rest = none-left L in omega (arith, rest)

-- what is known of some REFs
values-on : (old now : Ref → Option (List ℕ)) (refs : List Ref) (bs : List (List ℕ)) → ((r : Ref) (b : List ℕ) → IsRefOf r refs → old r ≡ Some b → now r ≡ Some b) → AreValues old refs bs → AreValues now refs bs
values-on old now [] [] knows h = tt
values-on old now [] (b ∷ bs) knows h = h
values-on old now (r ∷ refs) [] knows h = h
values-on old now (r ∷ refs) (b ∷ bs) knows h = (knows r b (inl refl) h.0, values-on old now refs bs (λ r b among. knows r b (inr among)) h.1)

-- ---- the law

pub build-agrees : (outcome : Job → Outcome) → BuildAgrees outcome
build-agrees outcome fits whole plans suits store files budget work ran paths b =
    let first : Agree outcome fits whole (begun store files) (not_run files) [] = record {
      ledger = tt;
      files = λ path. start-file (files path) (b.no_placeholder path);
      jobs = λ e among. absurd among;
      rules = λ e among. absurd among;
      few = omega arith;
    } in
    let next = built-agrees outcome fits whole plans suits (begun store files) (not_run files) [] first tt work tt ran b.symbolic b.once in
    let L = next.more in
    let agree : Agree outcome fits whole work ran L = next.agree in
    let fairly = fair outcome fits whole work ran L agree b.no_clash b.within in
    let wanted = are_wanted L work.files ran.files agree.files paths b.each in
    let is_wanted : wanted_of work.files (file_items paths) ≡ Ok wanted.refs = ap (refs_once work.files (file_items paths)) b.distinct ∙ wanted.are in
    let part = part_of outcome work.store.objects L agree.ledger wanted.refs in
    let facts = alone outcome work.store.objects part.part part.ledger in
    let good = good-start outcome fits whole work ran L agree b.no_clash part.part part.ledger part.sub store next.notes wanted.refs part.reached (b.true_notes wanted.refs is_wanted) in
    let fair_part = fair-part outcome fits whole work ran L agree b.no_clash part.part part.ledger part.sub fairly in
    let once = all_at_once work.store.objects L work.files ran.files agree.files paths wanted.refs wanted.wants in
    let values = values-on (denoted work.store.objects L) (denoted work.store.objects part.part) wanted.refs once.bytes part.values once.values in
    let room : (start work.store).steps + left (start work.store).reduced part.part ≤ budget =
    (let all = none-left part.part in let fewer = part.few in let few = agree.few in let enough = b.enough in omega (arith, all, fewer, few, enough)) in
    let all = came-all outcome budget work.store.objects part.part fair_part facts part.part (came outcome budget work.store.objects part.part fair_part facts part.part part.ledger (λ e among. among)) wanted.refs once.bytes values (start work.store) good room in
    record {
      refs = wanted.refs;
      wanted = is_wanted;
      names = map name_of once.bytes;
      last = all.after;
      values = all.got;
      files = λ i path. written-files all.after.store.objects ran.files paths once.bytes once.files all.there work.files path (either_way work.files ran.files path paths (same-or-placeholder L (work.files path) (ran.files path) (agree.files path)) (b.all path)) i;
    }
