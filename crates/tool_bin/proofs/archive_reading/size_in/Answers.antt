use Rattle.tool_bin.proofs.PrefixDigits.{prefix_digits}
use Rattle.tool_bin.proofs.archive_reading.size_in.Goals as goal

pub digits_value-requires-clause-digits : goal.digits_value-requires-clause-digits
digits_value-requires-clause-digits c = prefix_digits c.args.field.now c.digits_len-len.result c.digits_len-len.ensures.digits
