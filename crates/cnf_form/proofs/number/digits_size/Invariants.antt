use Rattle.std.proofs.Common.{◌≡◌, ◌≤◌, ◌+◌, ◌^◌, drop}
use Rattle.std.specs.Prelude.{min}
use Rattle.std.specs.List.{list_all}
use Rattle.std.specs.Str.Parse.{digits_value_after}
use Rattle.word_spec.specs.Texts.{is_digit_of}
use Rattle.cnf_form.proofs.number.digits_size.Given as goal

abbrev pub invariant-loop-byte : goal.invariant-loop-byte
invariant-loop-byte l = record {
  digits : list_all (is_digit_of 10) l.digits ≡ list_all (is_digit_of 10) (drop l.byte-index l.digits);
  value : min (digits_value_after 10 0 l.digits) (2 ^ 62 + 1) ≡ min (digits_value_after 10 l.size (drop l.byte-index l.digits)) (2 ^ 62 + 1);
  small : l.size ≤ 2 ^ 62 + 1;
}
