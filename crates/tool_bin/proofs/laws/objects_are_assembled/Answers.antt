use Rattle.tool_bin.proofs.ObjectsAreAssembled.{object_is_assembled}
use Rattle.tool_bin.proofs.laws.objects_are_assembled.Goals as goal

pub returns : goal.returns
returns c = object_is_assembled
