use Rattle.file_tree.proofs.FirstComponent.{NoSlashBefore}
use Rattle.file_tree.proofs.folder_tree.first_component.Given as goal

abbrev pub invariant-loop-i : goal.invariant-loop-i
invariant-loop-i l = NoSlashBefore l.text l.i
