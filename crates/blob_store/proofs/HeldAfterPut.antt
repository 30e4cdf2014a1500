-- What is held after bytes are put under a name.
use Rattle.std.proofs.Common.{◌≡◌, ℕ, Bool, true, false, cond, List, Option, Some, None, refl, ap, ◌∙◌}
use Rattle.std.specs.Prelude.{option_and_then}
use Rattle.std.specs.Ordering.{eq_by_cmp}
use Rattle.object_name.specs.Name.{ObjectName, name_of, name_cmp}
use Rattle.blob_store.specs.Store.{Contents, put, if_named, held}
use Rattle.object_name.proofs.PublicLaws.{eq_by_cmp-name, eq_by_cmp-other, name_cmp-same}

-- bytes of a name count under it
pub if_named-own : (name : ObjectName) (bytes : List ℕ) → name_of bytes ≡ name → if_named name bytes ≡ Some bytes
if_named-own name bytes e = ap (λ (b : Bool). cond b (Some bytes) None) ((eq_by_cmp-name (name_of bytes) name).1 e)

-- and other bytes do not
pub if_named-other : (name : ObjectName) (bytes : List ℕ) → (name_of bytes ≡ name → ⊥) → if_named name bytes ≡ None
if_named-other name bytes differ = ap (λ (b : Bool). cond b (Some bytes) None) (eq_by_cmp-other (name_of bytes) name differ)

-- a step after a choice of a value
chain-cond : {A B : Type 0} (f : A → Option B) (b : Bool) (x : A) (o : Option A) → option_and_then f (cond b (Some x) o) ≡ cond b (f x) (option_and_then f o)
chain-cond f true x o = refl
chain-cond f false x o = refl

-- after a put the bytes are held under their name, and under other names what was held
pub held-put : (contents : Contents) (name : ObjectName) (bytes : List ℕ) (other : ObjectName) →
    held (put contents name bytes) other ≡ cond (eq_by_cmp name_cmp other name) (if_named other bytes) (held contents other)
held-put contents name bytes other = chain-cond (if_named other) (eq_by_cmp name_cmp other name) bytes (contents other)

-- an object that was put under its name is held
pub held-put-own : (contents : Contents) (bytes : List ℕ) → held (put contents (name_of bytes) bytes) (name_of bytes) ≡ Some bytes
held-put-own contents bytes =
    held-put contents (name_of bytes) bytes (name_of bytes)
    ∙ ap (λ (b : Bool). cond b (if_named (name_of bytes) bytes) (held contents (name_of bytes))) (name_cmp-same (name_of bytes))
    ∙ if_named-own (name_of bytes) bytes refl

-- a put changes nothing that is held under other names
pub held-put-other : (contents : Contents) (name : ObjectName) (bytes : List ℕ) (other : ObjectName) → (other ≡ name → ⊥) → held (put contents name bytes) other ≡ held contents other
held-put-other contents name bytes other differ =
    held-put contents name bytes other ∙ ap (λ (b : Bool). cond b (if_named other bytes) (held contents other)) (eq_by_cmp-other other name differ)
