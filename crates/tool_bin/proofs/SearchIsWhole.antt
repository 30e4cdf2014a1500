-- Where the search of an archive ends, a further pass adds nothing.
use Rattle.std.proofs.Common.{◌≡◌, ◌≤◌, ◌<◌, ◌+◌, ℕ, zero, suc, Bool, true, false, List, [], ◌∷◌, ◌++◌, length, length-append, Option, Some, None, Ok, Err, ◌==◌, ◌&&◌, not, if◌then◌else◌, refl, sym, ap, subst, ◌∙◌, inl, inr, arith}
use Rattle.std.specs.Prelude.{◌⊎◌}
use Rattle.std.proofs.lemmas.Bool.{and_parts, and_from, or_cases, eq-eqb, ne_eqb}
use Rattle.std.specs.List.{list_all, list_any}
use Rattle.tool_bin.specs.declared.program.Program.{Program}
use Rattle.tool_bin.specs.declared.object.Object.{Object}
use Rattle.tool_bin.specs.declared.object.Symbol.{Symbol}
use Rattle.tool_bin.specs.Archive.{ArchiveContents}
use Rattle.tool_bin.specs.LinkSteps.{Linked, ◌>>=◌}
use Rattle.tool_bin.specs.Link.{objects_in, pass, searched, with_archive}
use Rattle.tool_bin.specs.Program.{defined_with, wanted_with, joined_with, with_object, is_undefined, is_asked}
use Rattle.text_lines.specs.Among.{is_among}
use Rattle.tool_bin.proofs.ProgramsAreComplete.{Grows, more_kept, last_there}

-- ---- objects whose names aren't all defined

-- whether the names of all symbols are defined
abbrev is_settled : List (List ℕ) → List Symbol → Bool
is_settled defined symbols = list_all (λ symbol. is_among defined symbol.name) symbols

abbrev one_left : Bool → ℕ
one_left true = 0
one_left false = 1

-- how many objects have a name that isn't defined
abbrev left : List (List ℕ) → List Object → ℕ
left defined [] = 0
left defined (object ∷ objects) = one_left (is_settled defined object.symbols) + left defined objects

settled_grows : (names others : List (List ℕ)) → Grows names others → (symbols : List Symbol) → is_settled names symbols ≡ true → is_settled others symbols ≡ true
settled_grows names others g [] p = refl
settled_grows names others g (s ∷ symbols) p =
    let parts = and_parts (is_among names s.name) (is_settled names symbols) p in
    and_from (is_among others s.name) (is_settled others symbols) (g s.name parts.0) (settled_grows names others g symbols parts.1)

one_shrinks : (before after : Bool) → (before ≡ true → after ≡ true) → one_left after ≤ one_left before
one_shrinks true true g = omega arith
one_shrinks true false g = absurd (let no : false ≡ true = g refl in cc)
one_shrinks false true g = omega arith
one_shrinks false false g = omega arith

left_shrinks : (names others : List (List ℕ)) → Grows names others → (objects : List Object) → left others objects ≤ left names objects
left_shrinks names others g [] = omega arith
left_shrinks names others g (o ∷ objects) =
    let first = one_shrinks (is_settled names o.symbols) (is_settled others o.symbols) (settled_grows names others g o.symbols) in
    let rest = left_shrinks names others g objects in
    omega (arith, first, rest)

one_few : (settled : Bool) → one_left settled ≤ 1
one_few true = omega arith
one_few false = omega arith

left_few : (names : List (List ℕ)) (objects : List Object) → left names objects ≤ length objects
left_few names [] = omega arith
left_few names (o ∷ objects) =
    let first = one_few (is_settled names o.symbols) in
    let rest = left_few names objects in
    omega (arith, first, rest)

-- ---- an object that is asked for

first_false : (a b : Bool) → a ≡ false → (a && b) ≡ false
first_false true b e = absurd cc
first_false false b e = refl

second_false : (a b : Bool) → b ≡ false → (a && b) ≡ false
second_false true b e = e
second_false false b e = refl

from_not : (a : Bool) → not a ≡ true → a ≡ false
from_not true e = absurd cc
from_not false e = refl

asked_unsettled : (program : Program) (symbols : List Symbol) → list_any (λ symbol. is_undefined program symbol.name) symbols ≡ true → is_settled program.defined symbols ≡ false
asked_unsettled program [] p = absurd cc
asked_unsettled program (s ∷ symbols) p = elim (or_cases (is_undefined program s.name) (list_any (λ symbol. is_undefined program symbol.name) symbols) p) [
  | inl q ↦ first_false (is_among program.defined s.name) (is_settled program.defined symbols)
      (from_not (is_among program.defined s.name) (and_parts (is_among program.wanted s.name) (not (is_among program.defined s.name)) q).1)
  | inr q ↦ second_false (is_among program.defined s.name) (is_settled program.defined symbols) (asked_unsettled program symbols q)
]

some_asked : (program : Program) (symbols : List Symbol) → list_any (λ symbol. is_undefined program symbol.name) symbols ≡ true → 0 < length symbols
some_asked program [] p = absurd cc
some_asked program (s ∷ symbols) p = omega arith

-- ---- names that are defined

-- the names of some symbols are defined behind those before
record Defines (defined : List (List ℕ)) (symbols : List Symbol) (made : List (List ℕ)) : Type 0 where
  pub grows : Grows defined made
  pub settled : is_settled made symbols ≡ true

define_next : (s : Symbol) (symbols : List Symbol) (defined made : List (List ℕ)) (among : Bool)
    → ((d : List (List ℕ)) → defined_with d symbols ≡ Some made → Defines d symbols made)
    → (if among then None else defined_with (defined ++ s.name ∷ []) symbols) ≡ Some made → Defines defined (s ∷ symbols) made
define_next s symbols defined made true next e = absurd cc
define_next s symbols defined made false next e =
    let rest = next (defined ++ s.name ∷ []) e in
    record {
      grows = λ n p. rest.grows n (more_kept n defined s.name p);
      settled = and_from (is_among made s.name) (is_settled made symbols) (rest.grows s.name (last_there defined s.name)) rest.settled;
    }

define_all : (symbols : List Symbol) (defined made : List (List ℕ)) → defined_with defined symbols ≡ Some made → Defines defined symbols made
define_all [] defined made e = let same : defined ≡ made = cc in record { grows = λ n p. subst (λ names. is_among names n ≡ true) same p; settled = refl }
define_all (s ∷ symbols) defined made e = define_next s symbols defined made (is_among defined s.name) (λ d. define_all symbols d made) e

-- ---- a pass

-- a pass adds nothing, or it adds symbols and leaves fewer objects
abbrev Adds : Program → List Object → Program → Type 0
Adds program objects more = (more ≡ program) ⊎ ((length program.symbols < length more.symbols) × (left more.defined objects < left program.defined objects))

record IsPass (program : Program) (objects : List Object) (more : Program) : Type 0 where
  pub grows : Grows program.defined more.defined
  pub longer : length program.symbols ≤ length more.symbols
  pub adds : Adds program objects more

pass_over : (o : Object) (objects : List Object) (program more : Program) → IsPass program objects more → IsPass program (o ∷ objects) more
pass_over o objects program more rest = record { grows = rest.grows; longer = rest.longer; adds = by_parts rest.adds } where
  by_parts : Adds program objects more → Adds program (o ∷ objects) more
  by_parts (inl same) = inl same
  by_parts (inr added) =
      let first = one_shrinks (is_settled program.defined o.symbols) (is_settled more.defined o.symbols) (settled_grows program.defined more.defined rest.grows o.symbols) in
      let fewer = added.1 in
      inr (added.0, omega (arith, first, fewer))

-- the program with an object whose names make these
abbrev joined : Program → Object → List (List ℕ) → Program
joined program o made = record { symbols = program.symbols ++ o.symbols; debug = program.debug ++ o.debug; defined = made; wanted = wanted_with program.wanted o.symbols }

pass_with : (o : Object) (objects : List Object) (program more : Program) (made : List (List ℕ)) → is_asked program o ≡ true → defined_with program.defined o.symbols ≡ Some made
    → IsPass (joined program o made) objects more → IsPass program (o ∷ objects) more
pass_with o objects program more made asked is rest =
    let defines = define_all o.symbols program.defined made is in
    let long = length-append program.symbols o.symbols in
    let some = some_asked program o.symbols asked in
    let longer = rest.longer in
    let before : one_left (is_settled program.defined o.symbols) ≡ 1 = ap one_left (asked_unsettled program o.symbols asked) in
    let after : one_left (is_settled more.defined o.symbols) ≡ 0 = ap one_left (settled_grows made more.defined rest.grows o.symbols defines.settled) in
    let others = left_shrinks program.defined more.defined (λ n p. rest.grows n (defines.grows n p)) objects in
    record {
      grows = λ n p. rest.grows n (defines.grows n p);
      longer = omega (arith, long, longer);
      adds = inr (omega (arith, long, some, longer), omega (arith, before, after, others));
    }

join_next : (o : Object) (objects : List Object) (program more : Program) (made : Option (List (List ℕ))) → is_asked program o ≡ true → defined_with program.defined o.symbols ≡ made
    → ((p : Program) → pass p objects ≡ Ok more → IsPass p objects more)
    → (joined_with program o made >>= λ now. pass now objects) ≡ Ok more → IsPass program (o ∷ objects) more
join_next o objects program more None asked is next e = absurd cc
join_next o objects program more (Some made) asked is next e = pass_with o objects program more made asked is (next (joined program o made) e)

take_next : (o : Object) (objects : List Object) (program more : Program) (asked : Bool) → is_asked program o ≡ asked
    → ((p : Program) → pass p objects ≡ Ok more → IsPass p objects more)
    → ((if asked then with_object program o else Ok program) >>= λ now. pass now objects) ≡ Ok more → IsPass program (o ∷ objects) more
take_next o objects program more true is next e = join_next o objects program more (defined_with program.defined o.symbols) is refl next e
take_next o objects program more false is next e = pass_over o objects program more (next program e)

pass_adds : (objects : List Object) (program more : Program) → pass program objects ≡ Ok more → IsPass program objects more
pass_adds [] program more e =
    let same : program ≡ more = cc in
    subst (λ p. IsPass program [] p) same (record { grows = λ n p. p; longer = omega arith; adds = inl refl })
pass_adds (o ∷ objects) program more e = take_next o objects program more (is_asked program o) refl (λ p. pass_adds objects p more) e

-- ---- a search

-- what a pass left is searched on, unless it added nothing
abbrev goes_on : ℕ → Program → List Object → Program → Linked
goes_on n program objects now = if length now.symbols == length program.symbols then Ok now else searched n now objects

ends : (n : ℕ) (program now more : Program) (objects : List Object) → pass program objects ≡ Ok now → left program.defined objects < suc n
    → ((p : Program) → left p.defined objects < n → searched n p objects ≡ Ok more → pass more objects ≡ Ok more)
    → goes_on n program objects now ≡ Ok more → Adds program objects now → pass more objects ≡ Ok more
ends n program now more objects is few next e (inl same) =
    let stops : goes_on n program objects now ≡ Ok now = ap (λ test. if test then Ok now else searched n now objects) (eq-eqb (length now.symbols) (length program.symbols) (ap (λ p. length p.symbols) same)) in
    let last : now ≡ more = let e : Ok now ≡ Ok more = sym stops ∙ e in cc in
    subst (λ p. pass p objects ≡ Ok p) (sym same ∙ last) (is ∙ ap Ok same)
ends n program now more objects is few next e (inr added) =
    let longer = added.0 in
    let fewer = added.1 in
    next now (omega (arith, few, fewer))
    (sym (ap (λ test. if test then Ok now else searched n now objects) (ne_eqb (length now.symbols) (length program.symbols) (λ same. omega (arith, longer, same)))) ∙ e)

by_pass : (n : ℕ) (program more : Program) (objects : List Object) (passed : Linked) → pass program objects ≡ passed → left program.defined objects < suc n
    → ((p : Program) → left p.defined objects < n → searched n p objects ≡ Ok more → pass more objects ≡ Ok more)
    → (passed >>= λ now. goes_on n program objects now) ≡ Ok more → pass more objects ≡ Ok more
by_pass n program more objects (Err fault) is few next e = absurd cc
by_pass n program more objects (Ok now) is few next e = ends n program now more objects is few next e (pass_adds objects program now is).adds

-- with more passes than objects are left, a search ends since a pass added nothing
search_ends : (n : ℕ) (program more : Program) (objects : List Object) → left program.defined objects < n → searched n program objects ≡ Ok more → pass more objects ≡ Ok more
search_ends zero program more objects few e = absurd (omega (arith, few))
search_ends (suc n) program more objects few e = by_pass n program more objects (pass program objects) refl few (λ p. search_ends n p more objects) e

pub search_is_whole : (program more : Program) (archive : ArchiveContents) → with_archive program (Some archive) ≡ Ok more → pass more (objects_in archive.members) ≡ Ok more
search_is_whole program more archive e =
    let few = left_few program.defined (objects_in archive.members) in
    search_ends (length (objects_in archive.members) + 1) program more (objects_in archive.members) (omega (arith, few)) e
