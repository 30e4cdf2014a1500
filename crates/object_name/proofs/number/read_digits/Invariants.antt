use Rattle.std.proofs.Common.{◌≡◌, ◌<◌, ◌^◌, true, take}
use Rattle.std.specs.Str.{all_ascii_digits}
use Rattle.object_name.specs.Number.{digits_value}
use Rattle.object_name.proofs.number.read_digits.Given as goal

abbrev pub invariant-digits : goal.invariant-digits
invariant-digits l = record {
  small : l.value < 2 ^ 64;
  digits : all_ascii_digits (take l.byte-index l.text) ≡ true;
  value : l.value ≡ digits_value (take l.byte-index l.text);
}
