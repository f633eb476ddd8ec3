use Rattle.std.proofs.Common.{◌≡◌, ◌≤◌, ◌+◌, length}
use Rattle.word_spec.specs.Texts.{split_lines}
use Rattle.clause_spec.specs.CertificateGrammar.{answer_from, cnf_of}
use Rattle.cnf_form.proofs.read.read_cnf.Given as goal

abbrev pub invariant-loop-line : goal.invariant-loop-line
invariant-loop-line l = record {
  answer : cnf_of l.text ≡ answer_from l.number l.reading.header l.reading.gathered (split_lines l.rest);
  count : l.number + length l.rest ≤ length l.text + 1;
}

abbrev pub decreases-loop-line : goal.decreases-loop-line
decreases-loop-line l = length l.rest
