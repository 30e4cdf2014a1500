-- A set of nodes has a REF where the list of its REFs has it.
use Rattle.std.proofs.Common.{◌≡◌, List, [], ◌∷◌, ◌++◌, map, Bool, true, false, ◌||◌, ◌&&◌, ◌==◌, refl, sym, ap, ap₂, ◌∙◌, subst, arith}
use Rattle.std.proofs.lemmas.List.{map-append}
use Rattle.std.specs.List.{list_any}
use Rattle.indexmap.specs.IndexSet.{insert_key}
use Rattle.object_name.specs.Name.{ObjectName}
use Rattle.thunk_codec.specs.declared.reference.Ref.{Ref}
use Rattle.thunk_codec.specs.declared.reference.Ref.TheVariants as refs
use Rattle.dep_tracker.specs.declared.ref_set.Node.{Node}
use Rattle.dep_tracker.specs.declared.ref_set.Node.TheVariants as nodes
use Rattle.dep_tracker.specs.contracts.ref_set.NodePartialEq.TheImpl as node_equality
use Rattle.dep_tracker.specs.Walk.{has}
use Rattle.dep_tracker.specs.Known.{same_ref}
use Rattle.dep_tracker.specs.RefSet.{node_of, ref_of}
use Rattle.dep_tracker.proofs.Booleans.{no}
use Rattle.dep_tracker.proofs.NamesAreCompared.{equality_ties}

-- the node of a REF is a node where the REF is its REF
pub node-same : (r : Ref) (n : Node) → (node_equality.ghosts).eq (node_of r) n ≡ same_ref r (ref_of n)
node-same (refs.Value a) (nodes.Value b) = equality_ties a b
node-same (refs.Value a) (nodes.Out b j) = refl
node-same (refs.Out a i) (nodes.Value b) = refl
node-same (refs.Out a i) (nodes.Out b j) = ap (λ t. t && (i == j)) (equality_ties a b)

pub node-back : (r : Ref) → ref_of (node_of r) ≡ r
node-back (refs.Value a) = refl
node-back (refs.Out a i) = refl

-- a REF is found in a set by its node
pub node-has : (keys : List Node) (r : Ref) → list_any ((node_equality.ghosts).eq (node_of r)) keys ≡ has same_ref (map ref_of keys) r
node-has [] r = refl
node-has (n ∷ keys) r = ap₂ (λ a b. a || b) (node-same r n) (node-has keys r)

-- a REF that is new comes last
pub node-last : (keys : List Node) (r : Ref) → has same_ref (map ref_of keys) r ≡ false →
    map ref_of (insert_key (node_equality.ghosts).eq keys (node_of r)) ≡ map ref_of keys ++ r ∷ []
node-last keys r new =
    ap (map ref_of) (no _ keys (keys ++ node_of r ∷ []) (node-has keys r ∙ new)) ∙ map-append ref_of keys (node_of r ∷ []) ∙ ap (λ x. map ref_of keys ++ x ∷ []) (node-back r)
