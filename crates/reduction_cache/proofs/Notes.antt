-- The two forms of a note's text are one.
use Rattle.std.proofs.Common.{◌≡◌, ℕ, true, leb, eqb, List, [], ◌++◌, length, append_assoc, Option, Some, refl, sym, ap, subst, ◌∙◌}
use Rattle.std.specs.Prelude.{bytes_eq}
use Rattle.std.specs.List.{flat_map}
use Rattle.std.proofs.lemmas.Bool.{leb-true, le-leb}
use Rattle.std.proofs.lemmas.List.{append-nil}
use Rattle.std.proofs.lemmas.Option.{same_Some}
use Rattle.std.proofs.lemmas.Slice.Eq.{bytes_eq-Decides}
use Rattle.object_name.specs.declared.kind.Kind.{Kind}
use Rattle.object_name.specs.Kind.{letter_of_kind}
use Rattle.object_name.specs.declared.kind.Kind.TheVariants.{Value, Thunk}
use Rattle.text_lines.specs.Maybe.{◌>>=◌, bind_some, test_some}
use Rattle.text_lines.specs.Cuts.{strip_prefix}
use Rattle.text_lines.proofs.PublicLaws.{strip_prefix_takes}
use Rattle.reduction_cache.specs.Note.{NoteOf, IsNote, Note, note_text, name_line, note_head, note_end}
use Rattle.reduction_cache.specs.Reading.{name_at, names_at, note_of}
use Rattle.reduction_cache.proofs.Names.{name_takes, name_again, names_take, names_again}

thunk_kind : (kind : Kind) → eqb (letter_of_kind kind) 84 ≡ true → kind ≡ Thunk
thunk_kind Value e = absurd cc
thunk_kind Thunk e = refl

regroup : (a b c d e : List ℕ) → (a ++ (b ++ (c ++ d))) ++ e ≡ a ++ (b ++ (c ++ (d ++ e)))
regroup a b c d e = simp append_assoc

-- a text in front of others
text_before : (note : NoteOf) (rest : List ℕ) → note_text note ++ rest ≡ note_head ++ (name_line note.resolved ++ (flat_map name_line note.outputs ++ (note_end ++ rest)))
unfolding note_text
text_before note rest = regroup note_head (name_line note.resolved) (flat_map name_line note.outputs) note_end rest

-- what is read has this text
pub note_of-text : (bytes : List ℕ) (note : NoteOf) → note_of bytes ≡ Some note → Note bytes note
unfolding note_of note_text
note_of-text bytes note e =
    let a = bind_some (strip_prefix note_head bytes) _ note e in
    let b = bind_some (name_at a.0) _ note a.2 in
    let c = test_some (eqb (letter_of_kind b.0.0.kind) 84) _ note b.2 in
    let d = bind_some (names_at 64 b.0.1) _ note c.1 in
    let f = test_some (leb 1 (length d.0.0)) _ note d.2 in
    let g = bind_some (strip_prefix note_end d.0.1) _ note f.1 in
    let h = test_some (bytes_eq g.0 []) _ note g.2 in
    let head = strip_prefix_takes note_head bytes a.0 a.1 in
    let resolved = name_takes a.0 b.0 b.1 in
    let outputs = names_take 64 b.0.1 d.0 d.1 in
    let end = strip_prefix_takes note_end d.0.1 g.0 g.1 in
    let nothing : g.0 ≡ [] = (bytes_eq-Decides g.0 []).0 h.0 in
    let last : d.0.1 ≡ note_end = end ∙ ap (λ (v : List ℕ). note_end ++ v) nothing in
    let lines : b.0.1 ≡ flat_map name_line d.0.0 ++ note_end = outputs.text ∙ ap (λ (v : List ℕ). flat_map name_line d.0.0 ++ v) last in
    let names : a.0 ≡ name_line b.0.0 ++ (flat_map name_line d.0.0 ++ note_end) = resolved.0 ∙ ap (λ (v : List ℕ). name_line b.0.0 ++ v) lines in
    subst (Note bytes) (same_Some _ note h.1) (record {
      rules = record {
        resolved = resolved.1;
        kind = thunk_kind b.0.0.kind c.0;
        outputs = outputs.names;
        some_output = leb-true _ _ f.0;
        few_outputs = outputs.few;
      };
      text = head ∙ ap (λ (v : List ℕ). note_head ++ v) names;
    })

-- what has this text is read
pub text-note_of : (bytes : List ℕ) (note : NoteOf) → Note bytes note → note_of bytes ≡ Some note
unfolding note_of
text-note_of bytes note h =
    let lines : List ℕ = flat_map name_line note.outputs ++ (note_end ++ []) in
    let text : bytes ≡ note_head ++ (name_line note.resolved ++ lines) = h.text ∙ sym (append-nil (note_text note)) ∙ text_before note [] in
    let kind : eqb (letter_of_kind note.resolved.kind) 84 ≡ true = ap (λ (kind : Kind). eqb (letter_of_kind kind) 84) h.rules.kind in
    let some : leb 1 (length note.outputs) ≡ true = le-leb _ _ h.rules.some_output in
    ap note_of text
    ∙ rw (name_again note.resolved lines h.rules.resolved, kind, names_again 64 note.outputs (note_end ++ []) h.rules.outputs h.rules.few_outputs refl, some) refl

-- no text is that of two notes
pub same_note : (bytes : List ℕ) (m n : NoteOf) → Note bytes m → Note bytes n → m ≡ n
same_note bytes m n g h = same_Some m n (sym (text-note_of bytes m g) ∙ text-note_of bytes n h)

-- no note has two texts
pub same_text : (a b : List ℕ) (note : NoteOf) → Note a note → Note b note → a ≡ b
same_text a b note g h = g.text ∙ sym h.text

-- what comes after a note
after_note : List ℕ → Option (List ℕ)
after_note bytes = do
  first ← strip_prefix note_head bytes
  resolved ← name_at first
  outputs ← names_at 64 resolved.1
  strip_prefix note_end outputs.1

after_note-again : (note : NoteOf) (rest : List ℕ) → IsNote note → after_note (note_text note ++ rest) ≡ Some rest
unfolding after_note
after_note-again note rest h =
    let lines : List ℕ = flat_map name_line note.outputs ++ (note_end ++ rest) in
    ap after_note (text_before note rest)
    ∙ rw (name_again note.resolved lines h.resolved, names_again 64 note.outputs (note_end ++ rest) h.outputs h.few_outputs refl) refl

-- no proper prefix of a text is a text
pub no_rest : (bytes rest : List ℕ) (m n : NoteOf) → Note bytes m → Note (bytes ++ rest) n → rest ≡ []
no_rest bytes rest m n g h =
    let first : after_note (bytes ++ rest) ≡ Some rest = ap (λ (v : List ℕ). after_note (v ++ rest)) g.text ∙ after_note-again m rest g.rules in
    let second : after_note (bytes ++ rest) ≡ Some [] = ap after_note (h.text ∙ sym (append-nil (note_text n))) ∙ after_note-again n [] h.rules in
    same_Some rest [] (sym first ∙ second)

-- ---- what is written

in_line : (a b c d : List ℕ) → ((a ++ b) ++ c) ++ d ≡ a ++ (b ++ (c ++ d))
in_line a b c d = simp append_assoc

-- lines that are appended one after another
pub note_written : (note : NoteOf) (head resolved outputs all : List ℕ) → head ≡ note_head → resolved ≡ head ++ name_line note.resolved
    → outputs ≡ resolved ++ flat_map name_line note.outputs → all ≡ outputs ++ note_end → all ≡ note_text note
unfolding note_text
note_written note head resolved outputs all h r o a =
    a ∙ ap (λ (v : List ℕ). v ++ note_end) (o ∙ ap (λ (v : List ℕ). v ++ flat_map name_line note.outputs) (r ∙ ap (λ (v : List ℕ). v ++ name_line note.resolved) h))
    ∙ in_line note_head (name_line note.resolved) (flat_map name_line note.outputs) note_end
