use Rattle.std.proofs.Common.{◌≡◌, ◌<◌, ◌^◌, take}
use Rattle.object_name.specs.Number.{digits_value}
use Rattle.tool_bin.proofs.archive_reading.digits_value.Given as goal

abbrev pub invariant-digits : goal.invariant-digits
invariant-digits l = record {
  small : l.value < 10 ^ l.digit-index;
  value : l.value ≡ digits_value (take l.digit-index l.digits);
}
