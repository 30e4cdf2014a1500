-- The lemmas that proofs of other crates cite.

-- reading a note's text is the inverse of writing it
pub use Rattle.reduction_cache.proofs.Notes.{note_of-text, text-note_of}
