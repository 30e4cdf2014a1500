-- What a walk ends with: all that it had met, all that was before it, with each node those after it, and nothing else.
use Rattle.std.proofs.Common.{◌≡◌, ℕ, suc, zero, ◌<◌, ◌≤◌, ◌+◌, List, [], ◌∷◌, ◌++◌, length, Bool, true, false, ◌||◌, ◌⊎◌, refl, sym, ap, ◌∙◌, subst, inl, inr, ⊎_elim, arith}
use Rattle.std.proofs.lemmas.List.Folds.{list_any-append}
use Rattle.dep_tracker.proofs.Booleans.{is_or_not, or_true, true_or, or_right}
use Rattle.dep_tracker.specs.Walk.{has, Walks, ended, again, first, Reachable, root, after}

module _ {A : Type 0} (same : A → A → Bool) where
  pub has-append : (xs ys : List A) (x : A) → has same (xs ++ ys) x ≡ (has same xs x || has same ys x)
  has-append xs ys x = list_any-append (same x) xs ys

  pub has-left : (xs ys : List A) (x : A) → has same xs x ≡ true → has same (xs ++ ys) x ≡ true
  has-left xs ys x h = has-append xs ys x ∙ true_or _ _ h

  pub has-right : (xs ys : List A) (x : A) → has same ys x ≡ true → has same (xs ++ ys) x ≡ true
  has-right xs ys x h = has-append xs ys x ∙ or_right _ _ h

  pub has-split : (xs ys : List A) (x : A) → has same (xs ++ ys) x ≡ true → (has same xs x ≡ true) ⊎ (has same ys x ≡ true)
  has-split xs ys x h = or_true _ _ (sym (has-append xs ys x) ∙ h)

  pub has-cons : (y : A) (ys : List A) (x : A) → has same (y ∷ ys) x ≡ true → (same x y ≡ true) ⊎ (has same ys x ≡ true)
  has-cons y ys x h = or_true (same x y) _ h

module _ {A : Type 0} (same : A → A → Bool) (next : A → List A) (equal : (x y : A) → same x y ≡ true → x ≡ y) (self : (x : A) → same x x ≡ true) where
  -- what was met stays met
  pub stays : (seen todo met : List A) (x : A) → Walks same next seen todo met → has same seen x ≡ true → has same met x ≡ true
  stays _ _ _ x (ended seen) h = h
  stays _ _ _ x (again seen y todo met old w) h = stays seen todo met x w h
  stays _ _ _ x (first seen y todo met new w) h = stays (seen ++ y ∷ []) (next y ++ todo) met x w (has-left same seen (y ∷ []) x h)

  has-last : (seen : List A) (y x : A) → same x y ≡ true → has same (seen ++ y ∷ []) x ≡ true
  has-last seen y x h = has-right same seen (y ∷ []) x (true_or (same x y) false h)

  -- what was before it is met
  pub comes : (seen todo met : List A) (x : A) → Walks same next seen todo met → has same todo x ≡ true → has same met x ≡ true
  comes _ _ _ x (ended seen) h = grind arith
  comes _ _ _ x (again seen y todo met old w) h = ⊎_elim
      (λ e. stays seen todo met x w (subst (λ z. has same seen z ≡ true) (sym (equal x y e)) old))
      (λ t. comes seen todo met x w t) (has-cons same y todo x h)
  comes _ _ _ x (first seen y todo met new w) h = ⊎_elim
      (λ e. stays (seen ++ y ∷ []) (next y ++ todo) met x w (has-last seen y x e))
      (λ t. comes (seen ++ y ∷ []) (next y ++ todo) met x w (has-right same (next y) todo x t)) (has-cons same y todo x h)

  -- with each node that it met first, those after it
  pub closed : (seen todo met : List A) (x y : A) → Walks same next seen todo met → has same met x ≡ true → has same (next x) y ≡ true →
      (has same seen x ≡ true) ⊎ (has same met y ≡ true)
  closed _ _ _ x y (ended seen) m n = inl m
  closed _ _ _ x y (again seen z todo met old w) m n = closed seen todo met x y w m n
  closed _ _ _ x y (first seen z todo met new w) m n = ⊎_elim
      (λ s. ⊎_elim inl
      (λ e. inr (comes (seen ++ z ∷ []) (next z ++ todo) met y w (has-left same (next z) todo y
      (subst (λ u. has same (next u) y ≡ true) (equal x z (⊎_elim (λ u. u) (λ f. grind arith) (has-cons same z [] x e))) n))))
      (has-split same seen (z ∷ []) x s))
      inr (closed (seen ++ z ∷ []) (next z ++ todo) met x y w m n)

  -- nothing else: a set that has all of these, and with each node those after it, has what was met
  pub least : (P : A → Type 0) → ((x y : A) → P x → has same (next x) y ≡ true → P y) → (seen todo met : List A) → Walks same next seen todo met →
      ((x : A) → has same seen x ≡ true → P x) → ((x : A) → has same todo x ≡ true → P x) → (x : A) → has same met x ≡ true → P x
  least P step _ _ _ (ended seen) s t x h = s x h
  least P step _ _ _ (again seen y todo met old w) s t x h = least P step seen todo met w s (λ z m. t z (or_right (same z y) _ m)) x h
  least P step _ _ _ (first seen y todo met new w) s t x h =
      let here : P y = t y (true_or (same y y) _ (self y)) in
      least P step (seen ++ y ∷ []) (next y ++ todo) met w
      (λ z m. ⊎_elim (s z) (λ e. subst P (sym (equal z y (⊎_elim (λ u. u) (λ f. grind arith) (has-cons same y [] z e)))) here) (has-split same seen (y ∷ []) z m))
      (λ z m. ⊎_elim (λ n. step y z here n) (λ l. t z (or_right (same z y) _ l)) (has-split same (next y) todo z m)) x h

  -- a walk from the roots meets what is reachable
  pub meets : (roots met : List A) (x : A) → Walks same next [] roots met → Reachable same next roots x → has same met x ≡ true
  meets roots met _ w (root x h) = comes [] roots met x w h
  meets roots met _ w (after x y r h) = ⊎_elim (λ f. grind arith) (λ m. m) (closed [] roots met x y w (meets roots met x w r) h)

  pub only : (roots met : List A) (x : A) → Walks same next [] roots met → has same met x ≡ true → Reachable same next roots x
  only roots met x w h = least (Reachable same next roots) (λ y z r n. after y z r n) [] roots met w (λ z f. grind arith) (λ z r. root z r) x h

  -- two walks from one place meet the same, in the same order
  pub unique : (seen todo one two : List A) → Walks same next seen todo one → Walks same next seen todo two → one ≡ two
  unique _ _ _ _ (ended seen) (ended _) = refl
  unique _ _ _ _ (again seen y todo one old w) (again _ _ _ two _ v) = unique seen todo one two w v
  unique _ _ _ _ (again seen y todo one old w) (first _ _ _ two new v) = grind arith
  unique _ _ _ _ (first seen y todo one new w) (again _ _ _ two old v) = grind arith
  unique _ _ _ _ (first seen y todo one new w) (first _ _ _ two _ v) = unique (seen ++ y ∷ []) (next y ++ todo) one two w v
