-- A tree of a symbolic build and the tree of the build at once: each file is the same bytes, or a placeholder that denotes them.
use Rattle.std.proofs.Common.{◌≡◌, ◌≤◌, ◌⊎◌, inl, inr, ℕ, zero, suc, Bool, true, false, cond, List, [], ◌∷◌, ◌++◌, Option, Some, None, Result, Ok, Err, length, refl, sym, ap, subst, leb-true, lit≤}
use Rattle.std.specs.Prelude.{is_some, nat_le, slice_get}
use Rattle.std.proofs.lemmas.Option.{none-some}
use Rattle.object_name.specs.declared.kind.Kind.{Kind}
use Rattle.object_name.specs.declared.kind.Kind.TheVariants as kinds
use Rattle.object_name.specs.Kind.{kind_of}
use Rattle.object_name.specs.Name.{ObjectName, max_size}
use Rattle.thunk_codec.specs.declared.reference.Ref.TheVariants.{Out}
use Rattle.thunk_codec.specs.Reference.{IsRef}
use Rattle.thunk_codec.specs.Placeholder.{placeholder_of, placeholder_text}
use Rattle.thunk_codec.proofs.PublicLaws.{placeholder_of-text, text-placeholder_of}
use Rattle.file_tree.specs.Files.{Files, file_read}
use Rattle.file_tree.specs.declared.tree.FileRead.TheVariants as reads
use Rattle.file_tree.specs.declared.refusal.FileRefusal.{FileRefusal}
use Rattle.build_plan.specs.declared.gathered.Gathered.{Gathered}
use Rattle.build_plan.specs.declared.gathered.Gathered.TheVariants.{Plain, Output}
use Rattle.build_plan.specs.declared.plan.Source.TheVariants as Source
use Rattle.build_plan.specs.declared.plan.Stage.{Stage}
use Rattle.build_plan.specs.declared.plan.Step.{Step}
use Rattle.build_plan.specs.Gathered.{item_of, item_of_bytes, plain_item, item_bytes}
use Rattle.build_plan.specs.Symbolic.{item_or}
use Rattle.build_plan.specs.Way.{bytes_or, completed, first_found, item_at, optional_input}
use Rattle.build_script.specs.AtOnce.{bytes_of, plain_bytes}
use Rattle.build_law.specs.Suiting.{is_take}
use Rattle.build_law.proofs.Ledger.{Entry, valued}
use Rattle.build_law.proofs.LedgerGrows.{Extends}
use Rattle.build_script.proofs.ScannedAlike.{FileLike}
use Rattle.build_law.proofs.WorkGoesOn.{err-ok, same-ok}

-- ---- files

abbrev pub Denoting : List Entry → List ℕ → List ℕ → Option (ObjectName × ℕ) → Type 0
Denoting L x y None = x ≡ y
Denoting L x y (Some output) = (output.1 ≡ 0) × (valued L output.0 ≡ Some y)

abbrev pub FileRel : List Entry → Option (List ℕ) → Option (List ℕ) → Type 0
FileRel L None None = Unit {0}
FileRel L None (Some y) = ⊥
FileRel L (Some x) None = ⊥
FileRel L (Some x) (Some y) = Denoting L x y (placeholder_of x)

abbrev pub Related : List Entry → Files → Files → Type 0
Related L symbolic once = (path : List ℕ) → FileRel L (symbolic path) (once path)

pub denoting-extends : (L M : List Entry) → Extends L M → (x y : List ℕ) (found : Option (ObjectName × ℕ)) → Denoting L x y found → Denoting M x y found
denoting-extends L M more x y None h = h
denoting-extends L M more x y (Some output) h = (h.0, more output.0 y h.1)

pub file-extends : (L M : List Entry) → Extends L M → (x y : Option (List ℕ)) → FileRel L x y → FileRel M x y
file-extends L M more None None h = tt
file-extends L M more None (Some y) h = h
file-extends L M more (Some x) None h = h
file-extends L M more (Some x) (Some y) h = denoting-extends L M more x y (placeholder_of x) h

denoting-like : (L : List Entry) (x y : List ℕ) (found : Option (ObjectName × ℕ)) → Denoting L x y found → found ≡ None → x ≡ y
denoting-like L x y None h none = h
denoting-like L x y (Some output) h none = absurd (none-some output (sym none))

pub file-like : (L : List Entry) (x y : Option (List ℕ)) → FileRel L x y → FileLike x y
file-like L None None h = tt
file-like L None (Some y) h = h
file-like L (Some x) None h = h
file-like L (Some x) (Some y) h = denoting-like L x y (placeholder_of x) h

-- ---- what was gathered

abbrev pub ItemRel : List Entry → Gathered → List ℕ → Type 0
ItemRel L (Plain b) c = (b ≡ c) × (length b ≤ max_size) × (kind_of b ≡ kinds.Value) × (placeholder_of b ≡ None)
ItemRel L (Output name k) c = (k ≡ 0) × (valued L name ≡ Some c) × IsRef (Out name k)

pub item-extends : (L M : List Entry) → Extends L M → (i : Gathered) (c : List ℕ) → ItemRel L i c → ItemRel M i c
item-extends L M more (Plain b) c h = h
item-extends L M more (Output name k) c h = (h.0, more name c h.1, h.2)

-- what a step gathered: bytes that were taken may be a placeholder's
abbrev pub GatheredRel : List Entry → Bool → Gathered → List ℕ → Type 0
GatheredRel L true i c = FileRel L (Some (item_bytes i)) (Some c)
GatheredRel L false i c = ItemRel L i c

gathered-extends : (L M : List Entry) → Extends L M → (taken : Bool) (i : Gathered) (c : List ℕ) → GatheredRel L taken i c → GatheredRel M taken i c
gathered-extends L M more true i c h = file-extends L M more (Some (item_bytes i)) (Some c) h
gathered-extends L M more false i c h = item-extends L M more i c h

-- what some steps gathered
abbrev pub ItemsRel : List Entry → List Step → List Gathered → List (List ℕ) → Type 0
ItemsRel L [] [] [] = Unit {0}
ItemsRel L [] [] (c ∷ cs) = ⊥
ItemsRel L [] (i ∷ is) cs = ⊥
ItemsRel L (step ∷ steps) [] cs = ⊥
ItemsRel L (step ∷ steps) (i ∷ is) [] = ⊥
ItemsRel L (step ∷ steps) (i ∷ is) (c ∷ cs) = GatheredRel L (is_take (Some step)) i c × ItemsRel L steps is cs

pub items-extend : (L M : List Entry) → Extends L M → (steps : List Step) (is : List Gathered) (cs : List (List ℕ)) → ItemsRel L steps is cs → ItemsRel M steps is cs
items-extend L M more [] [] [] h = tt
items-extend L M more [] [] (c ∷ cs) h = h
items-extend L M more [] (i ∷ is) cs h = h
items-extend L M more (step ∷ steps) [] cs h = h
items-extend L M more (step ∷ steps) (i ∷ is) [] h = h
items-extend L M more (step ∷ steps) (i ∷ is) (c ∷ cs) h = (gathered-extends L M more (is_take (Some step)) i c h.0, items-extend L M more steps is cs h.1)

pub items-one : (L : List Entry) (steps : List Step) (is : List Gathered) (cs : List (List ℕ)) (step : Step) (i : Gathered) (c : List ℕ) → ItemsRel L steps is cs → GatheredRel L (is_take (Some step)) i c →
    ItemsRel L (steps ++ step ∷ []) (is ++ i ∷ []) (cs ++ c ∷ [])
items-one L [] [] [] step i c h one = (one, tt)
items-one L [] [] (y ∷ cs) step i c h one = absurd h
items-one L [] (x ∷ is) cs step i c h one = absurd h
items-one L (s ∷ steps) [] cs step i c h one = absurd h
items-one L (s ∷ steps) (x ∷ is) [] step i c h one = absurd h
items-one L (s ∷ steps) (x ∷ is) (y ∷ cs) step i c h one = (h.0, items-one L steps is cs step i c h.1 one)

nothing-rel : (L : List Entry) → ItemRel L (Plain []) []
unfolding placeholder_of
nothing-rel L = (refl, lit≤ tt, refl, refl)

-- an item that is given to a tool
pub item-at : (L : List Entry) (steps later : List Step) (is : List Gathered) (cs : List (List ℕ)) (k : ℕ) → ItemsRel L steps is cs → is_take (slice_get (steps ++ later) k) ≡ false →
    ItemRel L (item_at (Plain []) is k) (item_at [] cs k)
item-at L [] later [] [] k h untaken = nothing-rel L
item-at L [] later [] (c ∷ cs) k h untaken = absurd h
item-at L [] later (i ∷ is) cs k h untaken = absurd h
item-at L (step ∷ steps) later [] cs k h untaken = absurd h
item-at L (step ∷ steps) later (i ∷ is) [] k h untaken = absurd h
item-at L (step ∷ steps) later (i ∷ is) (c ∷ cs) zero h untaken = subst (λ taken. GatheredRel L taken i c) untaken h.0
item-at L (step ∷ steps) later (i ∷ is) (c ∷ cs) (suc k) h untaken = item-at L steps later is cs k h.1 untaken

-- what a file gets
pub file-of-item : (L : List Entry) (i : Gathered) (c : List ℕ) → ItemRel L i c → FileRel L (Some (item_bytes i)) (Some c)
file-of-item L (Plain b) c h = subst (Denoting L b c) (sym h.3) h.0
file-of-item L (Output name k) c h =
    subst (Denoting L (placeholder_text name k) c) (sym (text-placeholder_of (placeholder_text name k) name k (record { output = h.2; text = refl }))) (h.0, h.1)

file-of-gathered : (L : List Entry) (taken : Bool) (i : Gathered) (c : List ℕ) → GatheredRel L taken i c → FileRel L (Some (item_bytes i)) (Some c)
file-of-gathered L true i c h = h
file-of-gathered L false i c h = file-of-item L i c h

-- what a file gets from a step
pub file-at : (L : List Entry) (steps : List Step) (is : List Gathered) (cs : List (List ℕ)) (k : ℕ) → ItemsRel L steps is cs → FileRel L (Some (item_bytes (item_at (Plain []) is k))) (Some (item_at [] cs k))
file-at L [] [] [] k h = file-of-item L (Plain []) [] (nothing-rel L)
file-at L [] [] (c ∷ cs) k h = absurd h
file-at L [] (i ∷ is) cs k h = absurd h
file-at L (step ∷ steps) [] cs k h = absurd h
file-at L (step ∷ steps) (i ∷ is) [] k h = absurd h
file-at L (step ∷ steps) (i ∷ is) (c ∷ cs) zero h = file-of-gathered L (is_take (Some step)) i c h.0
file-at L (step ∷ steps) (i ∷ is) (c ∷ cs) (suc k) h = file-at L steps is cs k h.1

-- ---- a file is read on both sides

record ReadSym (x : Option (List ℕ)) (i : Gathered) : Type 0 where
  bytes : List ℕ
  there : x ≡ Some bytes
  small : length bytes ≤ max_size
  item : ((placeholder_of bytes ≡ None) × (kind_of bytes ≡ kinds.Value) × (i ≡ Plain bytes)) ⊎ ((output : ObjectName × ℕ) × (placeholder_of bytes ≡ Some output) × (i ≡ Output output.0 output.1))

read-sym : (path : List ℕ) (x : Option (List ℕ)) (i : Gathered) → item_of path (file_read x) ≡ Ok i → ReadSym x i
read-sym path None i is = absurd (err-ok _ i is)
read-sym path (Some bytes) i is = by_size (nat_le (length bytes) max_size) refl is
  where
    by_kind : (kind : Kind) → kind_of bytes ≡ kind → plain_item path bytes kind ≡ Ok i → (kind_of bytes ≡ kinds.Value) × (i ≡ Plain bytes)
    by_kind kinds.Value k is = (k, sym (same-ok (Plain bytes) i is))
    by_kind kinds.Thunk k is = absurd (err-ok _ i is)

    by_found : length bytes ≤ max_size → (found : Option (ObjectName × ℕ)) → placeholder_of bytes ≡ found → item_of_bytes path bytes found ≡ Ok i → ReadSym (Some bytes) i
    by_found small (Some output) f is = record { bytes = bytes; there = refl; small = small; item = inr (output, f, sym (same-ok (Output output.0 output.1) i is)) }
    by_found small None f is = let k = by_kind (kind_of bytes) refl is in record { bytes = bytes; there = refl; small = small; item = inl (f, k.0, k.1) }

    by_size : (test : Bool) → nat_le (length bytes) max_size ≡ test → item_of path (cond test (reads.Bytes bytes) reads.TooLong) ≡ Ok i → ReadSym (Some bytes) i
    by_size true t is = by_found (leb-true _ _ t) (placeholder_of bytes) refl is
    by_size false t is = absurd (err-ok _ i is)

record ReadOnce (y : Option (List ℕ)) (c : List ℕ) : Type 0 where
  there : y ≡ Some c
  small : length c ≤ max_size
  plain : placeholder_of c ≡ None

read-once : (path : List ℕ) (y : Option (List ℕ)) (c : List ℕ) → bytes_of path (file_read y) ≡ Ok c → ReadOnce y c
read-once path None c is = absurd (err-ok _ c is)
read-once path (Some bytes) c is = by_size (nat_le (length bytes) max_size) refl is
  where
    by_found : length bytes ≤ max_size → (found : Option (ObjectName × ℕ)) → placeholder_of bytes ≡ found → plain_bytes path bytes found ≡ Ok c → ReadOnce (Some bytes) c
    by_found small (Some output) f is = absurd (err-ok _ c is)
    by_found small None f is = let same = same-ok bytes c is in record {
      there = ap (λ b. Some b) same;
      small = subst (λ (b : List ℕ). length b ≤ max_size) same small;
      plain = subst (λ (b : List ℕ). placeholder_of b ≡ None) same f;
    }

    by_size : (test : Bool) → nat_le (length bytes) max_size ≡ test → bytes_of path (cond test (reads.Bytes bytes) reads.TooLong) ≡ Ok c → ReadOnce (Some bytes) c
    by_size true t is = by_found (leb-true _ _ t) (placeholder_of bytes) refl is
    by_size false t is = absurd (err-ok _ c is)

item-read : (read : Result Gathered FileRefusal) (i : Gathered) → item_or read ≡ Ok i → read ≡ Ok i
item-read (Ok item) i is = ap (λ i. Ok i) (same-ok item i is)
item-read (Err refusal) i is = absurd (err-ok _ i is)

pub read-rel : (L : List Entry) (path : List ℕ) (x y : Option (List ℕ)) (i : Gathered) (c : List ℕ) → FileRel L x y → item_or (item_of path (file_read x)) ≡ Ok i → bytes_of path (file_read y) ≡ Ok c → ItemRel L i c
read-rel L path x y i c rel sym_is once_is =
    let a = read-sym path x i (item-read (item_of path (file_read x)) i sym_is) in
    let b = read-once path y c once_is in
    let h : FileRel L (Some a.bytes) (Some c) = subst (FileRel L (Some a.bytes)) b.there (subst (λ (x : Option (List ℕ)). FileRel L x y) a.there rel) in
    by a b h a.item
  where
    by : (a : ReadSym x i) (b : ReadOnce y c) → FileRel L (Some a.bytes) (Some c) →
        (((placeholder_of a.bytes ≡ None) × (kind_of a.bytes ≡ kinds.Value) × (i ≡ Plain a.bytes)) ⊎ ((output : ObjectName × ℕ) × (placeholder_of a.bytes ≡ Some output) × (i ≡ Output output.0 output.1))) → ItemRel L i c
    by a b h (inl p) = subst (λ (i : Gathered). ItemRel L i c) (sym p.2) (subst (Denoting L a.bytes c) p.0 h, a.small, p.1, p.0)
    by a b h (inr p) =
        let d : Denoting L a.bytes c (Some p.0) = subst (Denoting L a.bytes c) p.1 h in
        subst (λ (i : Gathered). ItemRel L i c) (sym p.2) (d.0, d.1, (placeholder_of-text a.bytes p.0 p.1).output)

-- ---- a file is taken on both sides

bytes-there : (path : List ℕ) (x : Option (List ℕ)) (b : List ℕ) → bytes_or path (file_read x) ≡ Ok b → x ≡ Some b
bytes-there path None b is = absurd (err-ok _ b is)
bytes-there path (Some bytes) b is = by (nat_le (length bytes) max_size) is
  where
    by : (test : Bool) → bytes_or path (cond test (reads.Bytes bytes) reads.TooLong) ≡ Ok b → Some bytes ≡ Some b
    by true is = ap (λ b. Some b) (same-ok bytes b is)
    by false is = absurd (err-ok _ b is)

pub take-rel : (L : List Entry) (path : List ℕ) (x y : Option (List ℕ)) (b c : List ℕ) → FileRel L x y → bytes_or path (file_read x) ≡ Ok b → bytes_or path (file_read y) ≡ Ok c → FileRel L (Some b) (Some c)
take-rel L path x y b c rel sym_is once_is =
    subst (λ (y : Option (List ℕ)). FileRel L (Some b) y) (bytes-there path y c once_is) (subst (λ (x : Option (List ℕ)). FileRel L x y) (bytes-there path x b sym_is) rel)

-- ---- the same files are there

module _ (L : List Entry) (f g : Files) (related : Related L f g) where
  pub found-same : (places : List (List ℕ)) → first_found f places ≡ first_found g places
  unfolding first_found
  found-same [] = refl
  found-same (path ∷ paths) = by (f path) (g path) (related path) (found-same paths)
    where
      by : (x y : Option (List ℕ)) → FileRel L x y → first_found f paths ≡ first_found g paths →
          ◌≡◌ {A = Option (List ℕ)} (elim x [ Some bytes ↦ Some path | None ↦ first_found f paths ]) (elim y [ Some bytes ↦ Some path | None ↦ first_found g paths ])
      by None None rel rest = rest
      by None (Some y) rel rest = absurd rel
      by (Some x) None rel rest = absurd rel
      by (Some x) (Some y) rel rest = refl

  there-same : (x y : Option (List ℕ)) → FileRel L x y → is_some x ≡ is_some y
  there-same None None rel = refl
  there-same None (Some y) rel = absurd rel
  there-same (Some x) None rel = absurd rel
  there-same (Some x) (Some y) rel = refl

  -- and so a stage has its optional input on both sides or on none
  pub completed-same : (stage : Stage) → completed f stage ≡ completed g stage
  completed-same stage = ap (λ more. record stage { inputs = stage.inputs ++ more; optional = None }) (by stage.optional)
    where
      by : (optional : Option (List ℕ × List ℕ)) → optional_input f optional ≡ optional_input g optional
      by None = refl
      by (Some input) = ap (λ test. cond test ((input.0, Source.File input.1) ∷ []) []) (there-same (f input.1) (g input.1) (related input.1))
