-- References as they are found by their hashes.
use Rattle.thunk_codec.specs.declared.reference.Ref.{Ref}
use Rattle.thunk_codec.specs.declared.reference.Ref.TheVariants as refs
use Rattle.dep_tracker.specs.declared.ref_set.Node.{Node}
use Rattle.dep_tracker.specs.declared.ref_set.Node.TheVariants as nodes

-- how a REF is found
abbrev pub node_of : Ref → Node
node_of (refs.Value name) = nodes.Value name
node_of (refs.Out name index) = nodes.Out name index

-- and which it is
abbrev pub ref_of : Node → Ref
ref_of (nodes.Value name) = refs.Value name
ref_of (nodes.Out name index) = refs.Out name index
