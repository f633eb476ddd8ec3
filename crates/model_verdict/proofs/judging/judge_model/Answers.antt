use Rattle.std.proofs.Common.{length, subst, sym, true}
use Rattle.question_form.specs.Views.{kind_of, unrolled_of}
use Rattle.term_dag.specs.Readings.{reading_of}
use Rattle.program_value.specs.Programs.{program_of}
use Rattle.model_verdict.specs.Models.{IsSound}
use Rattle.model_verdict.specs.Readings.{IsOfModel}
use Rattle.model_verdict.proofs.Findings.{found_shown, found_untrue, is_truly}
use Rattle.model_verdict.proofs.judging.judge_model.Goals as goal

pub model_reading-requires-clause-sound : goal.model_reading-requires-clause-sound
model_reading-requires-clause-sound g c = subst (λ l. IsSound l (length c.args.numbers.now) c.args.model.now) (sym c.requires.form) c.requires.sound

pub is_true-requires-clause-memory : goal.is_true-requires-clause-memory
is_true-requires-clause-memory g c = c.in_ok-reading.ensures.of.mem

pub returns-then-not-branch : goal.returns-then-not-branch
returns-then-not-branch g c =
    let p = program_of c.args.program.now in
    let u = unrolled_of c.args.passive.now.unrolled.now in
    let of = subst (λ l. IsOfModel u l c.args.numbers.now c.args.model.now (reading_of c.in_ok-reading.reading)) c.requires.form c.in_ok-reading.ensures.of in
    λ r modelled takes. found_untrue p c.args.budget.now.unroll g.M.Machine.form (kind_of c.args.kind) u c.requires.ground c.args.numbers.now c.args.model.now
    c.requires.sound (reading_of c.in_ok-reading.reading) of c.in_ok-is_true.field-0 c.in_ok-is_true.ensures r modelled takes c.if-not-branch.true

pub accept-requires-clause-sound : goal.accept-requires-clause-sound
accept-requires-clause-sound g c = subst (λ n. IsSound g.M.Machine.form n c.args.model.now) c.requires.count c.requires.sound

pub accept-requires-clause-some : goal.accept-requires-clause-some
accept-requires-clause-some g c =
    let p = program_of c.args.program.now in
    let u = unrolled_of c.args.passive.now.unrolled.now in
    let of = subst (λ l. IsOfModel u l c.args.numbers.now c.args.model.now (reading_of c.in_ok-reading.reading)) c.requires.form c.in_ok-reading.ensures.of in
    let some = c.requires.some in (
      some.0,
      is_truly p c.args.budget.now.unroll g.M.Machine.form (kind_of c.args.kind) u c.requires.ground c.args.numbers.now c.args.model.now c.requires.sound
          (reading_of c.in_ok-reading.reading) of c.in_ok-is_true.field-0 c.in_ok-is_true.ensures some.0 some.1 some.2 c.if-not-branch.false,
    )

pub returns : goal.returns
returns g c =
    let p = program_of c.args.program.now in
    let k = c.args.budget.now.unroll in
    let u = unrolled_of c.args.passive.now.unrolled.now in
    let of = subst (λ l. IsOfModel u l c.args.numbers.now c.args.model.now (reading_of c.in_ok-reading.reading)) c.requires.form c.in_ok-reading.ensures.of in
    λ r modelled takes.
    let truly = is_truly p k g.M.Machine.form (kind_of c.args.kind) u c.requires.ground c.args.numbers.now c.args.model.now c.requires.sound
    (reading_of c.in_ok-reading.reading) of c.in_ok-is_true.field-0 c.in_ok-is_true.ensures r modelled takes c.if-not-branch.false in
    found_shown p k g.M.Machine.form (kind_of c.args.kind) r c.in_ok-judged.judged truly.is_true (c.in_ok-judged.ensures r truly)
