-- The lemmas that proofs of other crates cite.

-- a prefix is stripped exactly from what begins with it
pub use Rattle.text_lines.proofs.CutLemmas.{strip_prefix_takes, strip_prefix_again}
-- a line feed at the end is taken away exactly from what ends with one
pub use Rattle.text_lines.proofs.CutLemmas.{feed_takes, feed_again}
-- a text is split at its first stop byte
pub use Rattle.text_lines.proofs.CutLemmas.{has_no_from, split_takes, split_again}
-- what a loop has read, in front of what is still read
pub use Rattle.text_lines.proofs.ReadSoFar.{with_prefix, with_prefix-more}
