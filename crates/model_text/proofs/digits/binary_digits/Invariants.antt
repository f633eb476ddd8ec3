use Rattle.std.proofs.Common.{◌≡◌, ◌≤◌, ◌^◌, drop}
use Rattle.std.specs.List.{list_all}
use Rattle.std.specs.Str.Parse.{digits_value_after}
use Rattle.bilv_spec.specs.SmtLib.{is_binary_digit}
use Rattle.model_text.specs.Bits.{capped}
use Rattle.model_text.proofs.digits.binary_digits.Given as goal

abbrev pub invariant-loop-byte : goal.invariant-loop-byte
invariant-loop-byte l = record {
  digits : list_all is_binary_digit l.digits ≡ list_all is_binary_digit (drop l.byte-index l.digits);
  value : capped (digits_value_after 2 0 l.digits) ≡ capped (digits_value_after 2 l.number (drop l.byte-index l.digits));
  small : l.number ≤ 2 ^ 32;
}
