-- Depth-first walks of a graph, in preorder: each node is met once, and then the nodes after it, in their order.
use Rattle.std.specs.Prelude.{◌≡◌, List, [], ◌∷◌, ◌++◌, Bool, true, false}
use Rattle.std.specs.List.{list_any}

module _ {A : Type 0} (same : A → A → Bool) where
  -- whether a list has something
  abbrev pub has : List A → A → Bool
  has xs x = list_any (same x) xs

module _ {A : Type 0} (same : A → A → Bool) (next : A → List A) where
  -- a walk that has met some nodes, and has others before it, ends with all of these met, in the order of meeting
  pub data Walks : List A → List A → List A → Type 0 where
    ended : (seen : List A) → Walks seen [] seen
    again : (seen : List A) (x : A) (todo met : List A) → has same seen x ≡ true → Walks seen todo met → Walks seen (x ∷ todo) met
    first : (seen : List A) (x : A) (todo met : List A) → has same seen x ≡ false → Walks (seen ++ x ∷ []) (next x ++ todo) met → Walks seen (x ∷ todo) met

  -- a walk has come from one place to another: however it ends from there, it ends so from here
  abbrev pub Steps : List A → List A → List A → List A → Type 0
  Steps seen todo further left = (met : List A) → Walks further left met → Walks seen todo met

  -- the least set that has the roots and, with each node, those after it
  pub data Reachable (roots : List A) : A → Type 0 where
    root : (x : A) → has same roots x ≡ true → Reachable roots x
    after : (x y : A) → Reachable roots x → has same (next x) y ≡ true → Reachable roots y
