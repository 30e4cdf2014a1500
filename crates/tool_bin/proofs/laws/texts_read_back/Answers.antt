use Rattle.tool_bin.specs.Object.{object_head, executable_head}
use Rattle.tool_bin.proofs.TextsReadBack.{reads_back, object_is_head, executable_is_head}
use Rattle.tool_bin.proofs.laws.texts_read_back.Goals as goal

pub returns-clause-objects : goal.returns-clause-objects
returns-clause-objects c = λ object representable rules. reads_back object_head object object_is_head representable rules

pub returns-clause-executables : goal.returns-clause-executables
returns-clause-executables c = λ object representable rules. reads_back executable_head object executable_is_head representable rules
