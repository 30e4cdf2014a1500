-- The lemmas that proofs of other crates cite.

-- the order of names is total
pub use Rattle.object_name.proofs.NameOrder.{name_cmp_total}
-- only equal names tie in it
pub use Rattle.object_name.proofs.NameOrder.{name_cmp-IsAntisymmetric}
-- a name ties with itself; two names tie exactly where they are one; names that differ don't
pub use Rattle.object_name.proofs.NameTies.{name_cmp-same, eq_by_cmp-name, eq_by_cmp-other}
-- a spelling is read back, and what is read is spelled so; its length, its first letter, and that it has no line feed
pub use Rattle.object_name.proofs.NameLemmas.{named_by-spelling, spelling-named_by, length-spelling, HasParts-spelling}
pub use Rattle.object_name.proofs.SpellingBytes.{spelling_without_feed}
-- a number is read back from its decimal text, and what is read is written so; the digits of such a text, and that it has some
pub use Rattle.object_name.proofs.NumberLemmas.{number_of-decimal, decimal-number_of, decimal_digit_at, digits-decimal, digits_value-decimal, length-decimal-pos}
-- what holds while a call that failed is tried again
pub use Rattle.object_name.proofs.TriesSoFar.{HasTried, IsReading, IsWriting}
-- bytes within the limit have a name
pub use Rattle.object_name.proofs.BytesHaveNames.{is-name}
-- calls that were tried again and failed so often: none, one after another, the last of some, and where more may be answered
pub use Rattle.object_name.proofs.CountedTries.{HasCounted, tries-none, tries-trans, tries-last, tries-more}
-- what was answered Ok after what was answered Ok before
pub use Rattle.object_name.proofs.ListsGrow.{ListsMade-after}
