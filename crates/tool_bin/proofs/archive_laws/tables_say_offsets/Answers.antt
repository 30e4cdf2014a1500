use Rattle.tool_bin.proofs.TablesSayOffsets.{member_stands, offsets_in_order, table_says}
use Rattle.tool_bin.proofs.archive_laws.tables_say_offsets.Goals as goal

pub returns-clause-says : goal.returns-clause-says
returns-clause-says c = table_says

pub returns-clause-offsets : goal.returns-clause-offsets
returns-clause-offsets c = offsets_in_order

pub returns-clause-stand : goal.returns-clause-stand
returns-clause-stand c = member_stands
