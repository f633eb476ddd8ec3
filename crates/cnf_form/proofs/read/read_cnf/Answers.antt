use Rattle.std.proofs.Common.{sym, ◌∙◌, ap}
use Rattle.std.specs.Str.{bytes_eq}
use Rattle.word_spec.specs.Texts.{split_lines}
use Rattle.clause_spec.specs.CertificateGrammar.{cnf_of as answer_of, Clauses}
use Rattle.clause_spec.proofs.ReadClauses.{read_is_printable}
use Rattle.cnf_form.specs.Views.{cnf_of}
use Rattle.cnf_form.proofs.ReadLines.{proof-line}
use Rattle.cnf_form.proofs.read.read_cnf.Goals as goal

pub returns-then-eq-clause-over : goal.returns-then-eq-clause-over
returns-then-eq-clause-over c =
    (read_is_printable c.args.text.now (cnf_of c.in_ok-read.read.0) c.in_ok-read.read.1
    (proof-line (answer_of c.args.text.now) (Clauses (cnf_of c.in_ok-read.read.0) c.in_ok-read.read.1) c.loop-line.number c.loop-line.reading.header
    c.loop-line.reading.gathered
    (split_lines c.loop-line.rest.now) (split_lines c.in-Some.behind.now) c.in-Some.line.now c.loop-line.invariant.answer c.in-Some.ensures.lines
    (ap (bytes_eq c.in-Some.line.now) (sym c.as_slice.ensures) ∙ sym c.eq.ensures ∙ c.if-eq.true) c.in_ok-read.ensures.read)).over
