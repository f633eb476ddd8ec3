use Rattle.std.proofs.Common.{sym, refl, ap, ◌<◌, Some, None, length, arith}
use Rattle.std.proofs.lemmas.List.{drop_all}
use Rattle.clause_spec.specs.Refutation.{Known, first_refusal}
use Rattle.clause_spec.proofs.RefutationSound.{refutation_sound}
use Rattle.cnf_form.specs.Views.{lines_of}
use Rattle.refutation_checker.specs.Answers.{cause_of}
use Rattle.refutation_checker.specs.Known.{known_of}
use Rattle.refutation_checker.proofs.Taken.{length-lines}
use Rattle.refutation_checker.proofs.Checks.{refused-here, passed-here}
use Rattle.refutation_checker.proofs.marks.check.Goals as goal

pub loop-i-init : goal.loop-i-init
loop-i-init c = record {
  taken = c.in_ok-marks.ensures;
  same_rest = ap (λ (k : Known). first_refusal c.args.cnf.now.variables k 1 (lines_of c.args.log.now)) (sym c.in_ok-marks.ensures.known);
}

pub returns-in-Some-clause-exact : goal.returns-in-Some-clause-exact
returns-in-Some-clause-exact c =
    let log = c.args.log.now in
    let inv = c.loop-i.invariant in
    let lt : c.loop-i.i < length (lines_of log) = omega (arith, length-lines log, log.lines.ok.0, c.loop-i-test.true, c.len-i-end.ensures) in
    refused-here c.args.cnf.now.variables c.args.cnf.now.clauses.items (lines_of log) c.loop-i.i lt (known_of c.loop-i.marks) inv.taken.known
    (Some (cause_of c.in-Some.cause)) c.in-Some.ensures.judged inv.same_rest (cause_of c.in-Some.cause) refl

pub loop-i-preserved : goal.loop-i-preserved
loop-i-preserved c =
    let log = c.args.log.now in
    let inv = c.loop-i.invariant in
    let lt : c.loop-i.i < length (lines_of log) = omega (arith, length-lines log, log.lines.ok.0, c.loop-i-test.true, c.len-i-end.ensures) in
    let taken = c.in_default.ensures.taken refl in
    record {
      taken = taken;
      same_rest = passed-here c.args.cnf.now.variables c.args.cnf.now.clauses.items (lines_of log) c.loop-i.i lt (known_of c.loop-i.marks) inv.taken.known
          None c.in_default.ensures.judged inv.same_rest refl (known_of c.check_line.new.marks) taken.known;
    }

pub returns-then-marks-clause-sound : goal.returns-then-marks-clause-sound
returns-then-marks-clause-sound c = λ _.
    let log = c.args.log.now in
    let inv = c.loop-i.invariant in
    let e = drop_all c.loop-i.i (lines_of log) (omega (arith, length-lines log, log.lines.ok.0, c.loop-i-test.false, c.len-i-end.ensures)) in
    refutation_sound c.args.cnf.now.variables c.args.cnf.now.clauses.items (lines_of log) (rw (e, c.if-marks.true) at inv.same_rest)
