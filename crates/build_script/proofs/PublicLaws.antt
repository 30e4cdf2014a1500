-- The lemmas that proofs of other crates cite.

-- a plan that is inferred goes on from earlier work as from the start, what it writes and changes is added to that, and the store and the
-- files are those with all writes and changes
pub use Rattle.build_script.proofs.SymbolicAdds.{after, moved, IsMade, Adds, adds-done, after-begun}
-- so do lines; and lines after others are those of both lists, by any way
pub use Rattle.build_script.proofs.ScriptAdds.{lines-append, moved_end, command-moves, lines-move, lines-make}
-- the same of lines built at once
pub use Rattle.build_script.proofs.AtOnceAdds.{ran_after, ran_moved, HasChanged, ran-after-start, ran-line-moves, ran-lines-make}
