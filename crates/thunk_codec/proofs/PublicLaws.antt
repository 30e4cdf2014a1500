-- The lemmas that proofs of other crates cite.

-- bytes are the same as themselves
pub use Rattle.thunk_codec.proofs.Paths.{bytes_eq-self}
-- parts that keep the rules and have a short text are a thunk's
pub use Rattle.thunk_codec.proofs.Thunks.{rules_from}
-- the length of a job's encoding by the lengths of its objects
pub use Rattle.thunk_codec.proofs.Lengths.{job_size_by_lengths}
-- reading a thunk's text is the inverse of writing it, and a thunk with values in place of its references is one
pub use Rattle.thunk_codec.proofs.Thunks.{thunk_of-text, text-thunk_of}
pub use Rattle.thunk_codec.proofs.Resolves.{resolved_is_thunk}
-- reading a placeholder is the inverse of writing it
pub use Rattle.thunk_codec.proofs.Placeholders.{placeholder_of-text, text-placeholder_of}
-- the job of a thunk keeps the rules of a job, and its length is known from the thunk
pub use Rattle.thunk_codec.proofs.JobsKeepRules.{job_of-keeps_rules, job_of-size}
-- jobs are the same exactly where they are equal
pub use Rattle.thunk_codec.proofs.SameJobs.{same_job-equal, equal-same_job}
-- parts that keep the rules and whose lines are short enough make a thunk, whatever REFs stand in them
pub use Rattle.thunk_codec.proofs.PartsFit.{parts-fit}
-- a path has at most 1,024 bytes; one component is a path, and so are digits, `out` and `in`
pub use Rattle.thunk_codec.proofs.ShortPaths.{path_length, component_is_path, plain_component, digits_are_path, out_is_path, in_is_path}
-- sorting keeps the items and their number; what a stable sort by a key gives
pub use Rattle.thunk_codec.proofs.SortedPaths.{sorted-any, length-sorted}
pub use Rattle.thunk_codec.proofs.SortedByKey.{stable_sort_is}
-- sorted paths are the same paths, as many, and each before the next where none is repeated; only they are so
pub use Rattle.thunk_codec.proofs.SortedPaths.{sorted_paths-same, length-sorted_paths, sorted_paths-rise, rising_distinct, rising_is_sorted, sorted_paths-rising}
-- a path is read as itself, and what is read of a text is a path; the last component and what stands before it
pub use Rattle.thunk_codec.proofs.Paths.{path_of-is_path, path_is_path, component_plain}
pub use Rattle.thunk_codec.proofs.Folders.{path_parts, last_is, with_last}
