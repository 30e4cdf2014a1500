-- Printing line after line.
use Rattle.std.proofs.Common.{◌≡◌, ℕ, ◌≤◌, List, [], ◌∷◌, ◌++◌, length, Result, Ok, Err, IsErr, IsErrAnd, ◌⊎◌, inl, inr, refl, sym, ap, subst, ◌∙◌, append_assoc, append-nil, arith}
use Rattle.std.specs.Prelude.{Option}
use Rattle.std.specs.Io.KnownBytes.{Appends}
use Rattle.std.proofs.KnownBytes.{Appends-trans}
use Rattle.object_name.specs.Name.{ObjectName}
use Rattle.object_name.specs.declared.trouble.Trouble.{Trouble}
use Rattle.file_tree.specs.declared.item.Item.{Item}
use Rattle.gg_cli.specs.ValueLines.{value_line, value_lines}
use Rattle.gg_cli.specs.Writing.{Writes}
use Rattle.gg_cli.proofs.WritesJoin.{Writes-then, Writes-stop}

-- a part of a text is written, and what is left of it isn't
pub record Printed (text left : List ℕ) (before after : Option (List ℕ)) (faults_before faults_after : ℕ) : Type 0 where
  pub part : List ℕ
  pub whole : text ≡ part ++ left
  pub grown : Appends before after part
  pub later : faults_before ≤ faults_after
  pub most : faults_after ≤ faults_before

-- what is written is written whole
Printed-part : {T : Type 0} {text left : List ℕ} {b m : Option (List ℕ)} {f g : ℕ} (v : T) (h : Printed text left b m f g) → Writes h.part b m f g (Ok v)
Printed-part v h = record {
  whole = h.grown;
  prefix = record { prefix = h.part; is_prefix = record { rest = []; whole = sym (append-nil h.part) }; grown = h.grown };
  cause = record { later = h.later; failed = λ failed. cc; most = omega (arith, h.most) };
}

-- nothing is left
pub Printed-all : {T : Type 0} {text left : List ℕ} {b m : Option (List ℕ)} {f g : ℕ} (v : T) → Printed text left b m f g → left ≡ [] → Writes text b m f g (Ok v)
Printed-all {text = text} {b = b} {m = m} {f = f} {g = g} v h none =
    let same : h.part ≡ text = sym (h.whole ∙ ap (λ l. h.part ++ l) none ∙ append-nil h.part) in
    subst (λ t. Writes t b m f g (Ok v)) same (Printed-part v h)

-- no line is left where the names or the items have ended
pub value_lines-end : (names : List ObjectName) (items : List Item) → (length names ≡ 0) ⊎ (length items ≡ 0) → value_lines names items ≡ []
value_lines-end [] items h = refl
value_lines-end (name ∷ names) [] h = refl
value_lines-end (name ∷ names) (item ∷ items) (inl h) = absurd (omega (arith, h))
value_lines-end (name ∷ names) (item ∷ items) (inr h) = absurd (omega (arith, h))

module _ (names more_names : List ObjectName) (items more_items : List Item) (name : ObjectName) (item : Item) (text : List ℕ) (b m a : Option (List ℕ)) (f g h : ℕ)
    (names_are : names ≡ name ∷ more_names) (items_are : items ≡ item ∷ more_items) (printed : Printed text (value_lines names items) b m f g) where
  -- the next line and those after it
  next_line : value_lines names items ≡ value_line name item ++ value_lines more_names more_items
  next_line = rw (names_are, items_are) refl

  -- one line more is written
  pub Printed-more : {T : Type 0} {q : Result T Trouble} {v : T} → Writes (value_line name item) m a g h q → q ≡ Ok v
      → Printed text (value_lines more_names more_items) b a f h
  Printed-more {q = q} written is_ok = record {
    part = printed.part ++ value_line name item;
    whole = printed.whole ∙ ap (λ l. printed.part ++ l) next_line ∙ sym (append_assoc printed.part (value_line name item) (value_lines more_names more_items));
    grown = Appends-trans b m a printed.part (value_line name item) printed.grown (rw is_ok at written).whole;
    later = omega (arith, printed.later, written.cause.later);
    most = omega (arith, printed.most, (rw is_ok at written).cause.most);
  }

  -- the next line is refused
  pub Printed-stop : {T U : Type 0} {q : Result T Trouble} {r : Result U Trouble} {e : Trouble} → Writes (value_line name item) m a g h q → q ≡ Err e
      → IsErr r × IsErrAnd r (λ d. d ≡ e) → Writes text b a f h r
  Printed-stop {r = r} written was is =
      let lines : text ≡ printed.part ++ (value_line name item ++ value_lines more_names more_items) = printed.whole ∙ ap (λ l. printed.part ++ l) next_line in
      let whole : Writes {T = Unit {0}} printed.part b m f g (Ok tt) = Printed-part tt printed in
      subst (λ t. Writes t b a f h r) (sym lines) (Writes-then {T = Unit {0}} {v = tt} whole refl (Writes-stop (value_lines more_names more_items) written was is))
