-- A linked program is complete.
use Rattle.std.proofs.Common.{◌≡◌, ℕ, zero, suc, ◌+◌, Bool, true, false, List, [], ◌∷◌, ◌++◌, length, append_assoc, fold, Option, Some, None, Ok, Err, ◌==◌, not, nat_eq, codes, bytes_eq, if◌then◌else◌, refl, sym, ap, subst, ◌∙◌, inl, inr}
use Rattle.std.proofs.lemmas.Bool.{and_parts, cond_both, and_from, or_cases, or_left, or_right, not_from_false, cases_Bool}
use Rattle.std.proofs.lemmas.List.{append-nil}
use Rattle.std.proofs.lemmas.Slice.Eq.{bytes_eq-Decides}
use Rattle.std.specs.List.{list_all, AllByRecursion, starts_with}
use Rattle.thunk_codec.specs.declared.job.Job.{Job}
use Rattle.thunk_codec.specs.Job.{input_at}
use Rattle.tool_bin.specs.declared.instruction.Instruction.{Instruction}
use Rattle.tool_bin.specs.declared.instruction.Instruction.TheVariants.{Push, Add, Subtract, Multiply, Print, Call, Return}
use Rattle.tool_bin.specs.declared.link_fault.LinkFault.TheVariants.{BadForm, UndefinedSymbol}
use Rattle.tool_bin.specs.declared.program.Program.{Program}
use Rattle.tool_bin.specs.declared.object.Object.{Object}
use Rattle.tool_bin.specs.declared.object.Symbol.{Symbol}
use Rattle.tool_bin.specs.Archive.{ArchiveContents, archive_mark}
use Rattle.tool_bin.specs.ArchiveReading.{archive_of}
use Rattle.tool_bin.specs.LinkSteps.{Linked, ◌>>=◌}
use Rattle.tool_bin.specs.Link.{objects_in, pass, searched, with_archive, with_file, with_input, with_named, with_inputs, is_link_job, linked}
use Rattle.tool_bin.specs.Program.{empty_program, defined_with, wanted_by, wanted_with, joined_with, with_object, is_asked, with_asked, all_defined}
use Rattle.text_lines.specs.Among.{is_among}
use Rattle.tool_bin.specs.Names.{with_name}
use Rattle.tool_bin.specs.Object.{object_head, are_new, names_of}
use Rattle.tool_bin.specs.ObjectReading.{object_of}
use Rattle.tool_bin.specs.CompleteProgram.{IsResolved, AreResolved, IsComplete}

-- ---- names

pub more_kept : (n : List ℕ) (names : List (List ℕ)) (m : List ℕ) → is_among names n ≡ true → is_among (names ++ m ∷ []) n ≡ true
more_kept n [] m p = absurd cc
more_kept n (x ∷ names) m p = elim (or_cases (bytes_eq n x) (is_among names n) p) [
  | inl q ↦ or_left (bytes_eq n x) (is_among (names ++ m ∷ []) n) q
  | inr q ↦ or_right (bytes_eq n x) (is_among (names ++ m ∷ []) n) (more_kept n names m q)
]

pub last_there : (names : List (List ℕ)) (m : List ℕ) → is_among (names ++ m ∷ []) m ≡ true
last_there [] m = or_left (bytes_eq m m) false ((bytes_eq-Decides m m).1 refl)
last_there (x ∷ names) m = or_right (bytes_eq m x) (is_among (names ++ m ∷ []) m) (last_there names m)

-- what is among some names is among others
abbrev pub Grows : List (List ℕ) → List (List ℕ) → Type 0
Grows names others = (n : List ℕ) → is_among names n ≡ true → is_among others n ≡ true

name_grows : (names : List (List ℕ)) (m : List ℕ) → Grows names (with_name names m)
name_grows names m n p = elim (cases_Bool (is_among names m)) [
  | inl q ↦ ap (λ (b : Bool). is_among (if b then names else names ++ m ∷ []) n) q ∙ p
  | inr q ↦ ap (λ (b : Bool). is_among (if b then names else names ++ m ∷ []) n) q ∙ more_kept n names m p
]

name_there : (names : List (List ℕ)) (m : List ℕ) → is_among (with_name names m) m ≡ true
name_there names m = elim (cases_Bool (is_among names m)) [
  | inl q ↦ ap (λ (b : Bool). is_among (if b then names else names ++ m ∷ []) m) q ∙ q
  | inr q ↦ ap (λ (b : Bool). is_among (if b then names else names ++ m ∷ []) m) q ∙ last_there names m
]

all_grows : {A : Type 0} (P Q : A → Type 0) (xs : List A) → ((x : A) → P x → Q x) → AllByRecursion P xs → AllByRecursion Q xs
all_grows P Q [] f p = tt
all_grows P Q (x ∷ xs) f p = (f x p.0, all_grows P Q xs f p.1)

resolved_grows : (names others : List (List ℕ)) → Grows names others → (i : Instruction) → IsResolved names i → IsResolved others i
resolved_grows names others g (Call name) p = g name p
resolved_grows names others g (Push n) p = tt
resolved_grows names others g Add p = tt
resolved_grows names others g Subtract p = tt
resolved_grows names others g Multiply p = tt
resolved_grows names others g Print p = tt
resolved_grows names others g Return p = tt

symbols_grow : (names others : List (List ℕ)) → Grows names others → (symbols : List Symbol) → AreResolved names symbols → AreResolved others symbols
symbols_grow names others g symbols p = all_grows (λ (s : Symbol). AllByRecursion (IsResolved names) s.code) (λ (s : Symbol). AllByRecursion (IsResolved others) s.code) symbols
    (λ s q. all_grows (IsResolved names) (IsResolved others) s.code (resolved_grows names others g) q) p

-- ---- wanted names

by_grows : (i : Instruction) (names : List (List ℕ)) → Grows names (wanted_by names i)
by_grows (Call name) names = name_grows names name
by_grows (Push n) names = λ m p. p
by_grows Add names = λ m p. p
by_grows Subtract names = λ m p. p
by_grows Multiply names = λ m p. p
by_grows Print names = λ m p. p
by_grows Return names = λ m p. p

by_resolved : (i : Instruction) (names : List (List ℕ)) → IsResolved (wanted_by names i) i
by_resolved (Call name) names = name_there names name
by_resolved (Push n) names = tt
by_resolved Add names = tt
by_resolved Subtract names = tt
by_resolved Multiply names = tt
by_resolved Print names = tt
by_resolved Return names = tt

code_grows : (code : List Instruction) (names : List (List ℕ)) → Grows names (fold wanted_by names code)
code_grows [] names = λ n p. p
code_grows (i ∷ code) names = λ n p. code_grows code (wanted_by names i) n (by_grows i names n p)

code_resolved : (code : List Instruction) (names : List (List ℕ)) → AllByRecursion (IsResolved (fold wanted_by names code)) code
code_resolved [] names = tt
code_resolved (i ∷ code) names =
    (resolved_grows (wanted_by names i) (fold wanted_by (wanted_by names i) code) (code_grows code (wanted_by names i)) i (by_resolved i names), code_resolved code (wanted_by names i))

wanted_grows : (symbols : List Symbol) (names : List (List ℕ)) → Grows names (wanted_with names symbols)
wanted_grows [] names = λ n p. p
wanted_grows (s ∷ symbols) names = λ n p. wanted_grows symbols (fold wanted_by names s.code) n (code_grows s.code names n p)

wanted_resolved : (symbols : List Symbol) (names : List (List ℕ)) → AreResolved (wanted_with names symbols) symbols
wanted_resolved [] names = tt
wanted_resolved (s ∷ symbols) names =
    let before = fold wanted_by names s.code in
    (all_grows (IsResolved before) (IsResolved (wanted_with before symbols)) s.code (resolved_grows before (wanted_with before symbols) (wanted_grows symbols before)) (code_resolved s.code names), wanted_resolved symbols before)

-- ---- defined names

new_more : (before names : List (List ℕ)) (n : List ℕ) → are_new before names ≡ true → is_among (before ++ names) n ≡ false → are_new before (names ++ n ∷ []) ≡ true
new_more before [] n p q = and_from (not (is_among before n)) true (not_from_false (is_among before n) (ap (λ names. is_among names n) (sym (append-nil before)) ∙ q)) refl
new_more before (x ∷ names) n p q =
    let parts = and_parts (not (is_among before x)) (are_new (before ++ x ∷ []) names) p in
    and_from (not (is_among before x)) (are_new (before ++ x ∷ []) (names ++ n ∷ [])) parts.0
    (new_more (before ++ x ∷ []) names n parts.1 (ap (λ names. is_among names n) (append_assoc before (x ∷ []) names) ∙ q))

pub record Defines (defined : List (List ℕ)) (symbols : List Symbol) (made : List (List ℕ)) : Type 0 where
  pub names : made ≡ defined ++ names_of symbols
  pub new : are_new [] made ≡ true

define_next : (s : Symbol) (symbols : List Symbol) (defined made : List (List ℕ)) (among : Bool) → are_new [] defined ≡ true → is_among defined s.name ≡ among
    → ((d : List (List ℕ)) → are_new [] d ≡ true → defined_with d symbols ≡ Some made → Defines d symbols made)
    → (if among then None else defined_with (defined ++ s.name ∷ []) symbols) ≡ Some made → Defines defined (s ∷ symbols) made
define_next s symbols defined made true new is next e = absurd cc
define_next s symbols defined made false new is next e =
    let rest = next (defined ++ s.name ∷ []) (new_more [] defined s.name new is) e in
    record { names = rest.names ∙ append_assoc defined (s.name ∷ []) (names_of symbols); new = rest.new }

define_all : (symbols : List Symbol) (defined made : List (List ℕ)) → are_new [] defined ≡ true → defined_with defined symbols ≡ Some made → Defines defined symbols made
define_all [] defined made new e = let same : defined ≡ made = cc in record { names = sym same ∙ sym (append-nil defined); new = ap (are_new []) (sym same) ∙ new }
define_all (s ∷ symbols) defined made new e = define_next s symbols defined made (is_among defined s.name) new refl (λ d. define_all symbols d made) e

-- ---- a program as it is linked

-- what it keeps
pub record Kept (l : Program) : Type 0 where
  pub defined : l.defined ≡ names_of l.symbols
  pub new : are_new [] l.defined ≡ true
  pub main : is_among l.wanted (codes "main") ≡ true
  pub resolved : AreResolved l.wanted l.symbols

-- what a step gave keeps it
abbrev pub OnLinked : Linked → Type 0
OnLinked (Ok l) = Kept l
OnLinked (Err fault) = Unit {0}

on_link : (r : Linked) (f : Program → Linked) → OnLinked r → ((l : Program) → Kept l → OnLinked (f l)) → OnLinked (r >>= f)
on_link (Ok l) f p g = g l p
on_link (Err fault) f p g = tt

names_append : (xs ys : List Symbol) → names_of (xs ++ ys) ≡ names_of xs ++ names_of ys
names_append [] ys = refl
names_append (x ∷ xs) ys = ap (λ (v : List (List ℕ)). x.name ∷ v) (names_append xs ys)

all_append : {A : Type 0} (P : A → Type 0) (xs ys : List A) → AllByRecursion P xs → AllByRecursion P ys → AllByRecursion P (xs ++ ys)
all_append P [] ys p q = q
all_append P (x ∷ xs) ys p q = (p.0, all_append P xs ys p.1 q)

joined_kept : (l : Program) (o : Object) (d : Option (List (List ℕ))) → Kept l → defined_with l.defined o.symbols ≡ d → OnLinked (joined_with l o d)
joined_kept l o None kept e = tt
joined_kept l o (Some made) kept e =
    let defines = define_all o.symbols l.defined made kept.new e in
    let wanted = wanted_with l.wanted o.symbols in
    record {
      defined = defines.names ∙ (ap (λ (v : List (List ℕ)). v ++ names_of o.symbols) kept.defined ∙ sym (names_append l.symbols o.symbols));
      new = defines.new;
      main = wanted_grows o.symbols l.wanted (codes "main") kept.main;
      resolved = all_append (λ (s : Symbol). AllByRecursion (IsResolved wanted) s.code) l.symbols o.symbols (symbols_grow l.wanted wanted (wanted_grows o.symbols l.wanted) l.symbols kept.resolved) (wanted_resolved o.symbols l.wanted);
    }

object_kept : (l : Program) (o : Object) → Kept l → OnLinked (with_object l o)
object_kept l o kept = joined_kept l o (defined_with l.defined o.symbols) kept refl

asked_kept : (l : Program) (o : Object) → Kept l → OnLinked (with_asked l o)
asked_kept l o kept = cond_both (is_asked l o) (with_object l o) (Ok l) OnLinked (λ _. object_kept l o kept) (λ _. kept)

pass_kept : (objects : List Object) (l : Program) → Kept l → OnLinked (pass l objects)
pass_kept [] l kept = kept
pass_kept (o ∷ objects) l kept = on_link (with_asked l o) (λ more. pass more objects) (asked_kept l o kept) (λ more. pass_kept objects more)

searched_kept : (n : ℕ) (l : Program) (objects : List Object) → Kept l → OnLinked (searched n l objects)
searched_kept zero l objects kept = kept
searched_kept (suc n) l objects kept = on_link (pass l objects) (λ more. if length more.symbols == length l.symbols then Ok more else searched n more objects) (pass_kept objects l kept)
    (λ more p. cond_both (length more.symbols == length l.symbols) (Ok more) (searched n more objects) OnLinked (λ _. p) (λ _. searched_kept n more objects p))

archive_kept : (l : Program) (archive : Option ArchiveContents) → Kept l → OnLinked (with_archive l archive)
archive_kept l None kept = tt
archive_kept l (Some archive) kept = searched_kept (length (objects_in archive.members) + 1) l (objects_in archive.members) kept

file_kept : (l : Program) (o : Option Object) → Kept l → OnLinked (with_file l o)
file_kept l None kept = tt
file_kept l (Some o) kept = object_kept l o kept

input_kept : (l : Program) (bytes : List ℕ) → Kept l → OnLinked (with_input l bytes)
input_kept l bytes kept = cond_both (starts_with nat_eq bytes archive_mark) (with_archive l (archive_of bytes)) (with_file l (object_of object_head bytes)) OnLinked
    (λ _. archive_kept l (archive_of bytes) kept) (λ _. file_kept l (object_of object_head bytes) kept)

named_kept : (l : Program) (bytes : Option (List ℕ)) → Kept l → OnLinked (with_named l bytes)
named_kept l None kept = tt
named_kept l (Some bytes) kept = input_kept l bytes kept

inputs_kept : (inputs : List (List ℕ × List ℕ)) (args : List (List ℕ)) (l : Program) → Kept l → OnLinked (with_inputs inputs l args)
inputs_kept inputs [] l kept = kept
inputs_kept inputs (arg ∷ args) l kept = on_link (with_named l (input_at arg inputs)) (λ more. with_inputs inputs more args) (named_kept l (input_at arg inputs) kept) (λ more. inputs_kept inputs args more)

-- ---- the end

nothing_kept : Kept empty_program
nothing_kept = record { defined = refl; new = refl; main = refl; resolved = tt }

among_all : (P : List ℕ → Bool) (names : List (List ℕ)) (n : List ℕ) → list_all P names ≡ true → is_among names n ≡ true → P n ≡ true
among_all P [] n all p = absurd cc
among_all P (x ∷ names) n all p =
    let parts = and_parts (P x) (list_all P names) all in
    elim (or_cases (bytes_eq n x) (is_among names n) p) [
      | inl q ↦ ap P ((bytes_eq-Decides n x).0 q) ∙ parts.0
      | inr q ↦ among_all P names n parts.1 q
    ]

-- what is linked is complete
abbrev pub OnComplete : Linked → Type 0
OnComplete (Ok l) = IsComplete l.symbols
OnComplete (Err fault) = Unit {0}

end_complete : (l : Program) → Kept l → OnComplete (all_defined l)
end_complete l kept = by (list_all (λ n. is_among l.defined n) l.wanted) refl
  where
    by : (test : Bool) → list_all (λ n. is_among l.defined n) l.wanted ≡ test → OnComplete (if test then Ok l else Err UndefinedSymbol)
    by false e = tt
    by true e =
        let grows : Grows l.wanted (names_of l.symbols) = λ n p. ap (λ names. is_among names n) (sym kept.defined) ∙ among_all (λ m. is_among l.defined m) l.wanted n e p in
        record { once = ap (are_new []) (sym kept.defined) ∙ kept.new; main = grows (codes "main") kept.main; calls = symbols_grow l.wanted (names_of l.symbols) grows l.symbols kept.resolved }

then_complete : (r : Linked) → OnLinked r → OnComplete (r >>= all_defined)
then_complete (Ok l) p = end_complete l p
then_complete (Err fault) p = tt

complete_if : (test : Bool) (r : Linked) → OnComplete r → OnComplete (if test then r else Err BadForm)
complete_if true r p = p
complete_if false r p = tt

linked_complete : (job : Job) → OnComplete (linked job)
unfolding linked
linked_complete job = complete_if (is_link_job job) _ (then_complete (with_inputs job.inputs empty_program job.args) (inputs_kept job.inputs job.args empty_program nothing_kept))

pub program_complete : (job : Job) (l : Program) → linked job ≡ Ok l → IsComplete l.symbols
program_complete job l e = subst OnComplete e (linked_complete job)
