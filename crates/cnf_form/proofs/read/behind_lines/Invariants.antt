use Rattle.std.proofs.Common.{◌≡◌, ◌-◌, ◌≤◌, drop, length}
use Rattle.word_spec.specs.Texts.{split_lines}
use Rattle.cnf_form.proofs.read.behind_lines.Given as goal

abbrev pub invariant-loop : goal.invariant-loop
invariant-loop l = record {
  lines : split_lines l.rest ≡ drop l.counter (split_lines l.text);
  behind : l.rest ≡ drop (length l.text - length l.rest) l.text;
  within : length l.rest ≤ length l.text;
}
