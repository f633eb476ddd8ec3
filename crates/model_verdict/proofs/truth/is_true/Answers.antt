use Rattle.std.proofs.Common.{◌≡◌, true, subst, sym}
use Rattle.std.specs.Prelude.{◌↔◌}
use Rattle.question_form.specs.Questions.{term_of}
use Rattle.question_form.specs.Views.{kind_of, unrolled_of}
use Rattle.term_dag.specs.Readings.{reading_of}
use Rattle.model_verdict.specs.Readings.{HasKnown}
use Rattle.model_verdict.proofs.Agreeing.{had, not_had, tells_of}
use Rattle.model_verdict.proofs.truth.is_true.Goals as goal

pub returns-then-not-memory_has : goal.returns-then-not-memory_has
returns-then-not-memory_has c =
    let u = unrolled_of c.args.passive.now.unrolled.now in
    let has = subst (λ m. (c.memory_has.result ≡ true) ↔ HasKnown u.known m) (sym c.requires.memory) (rw c.deref.ensures.value at c.memory_has.ensures) in
    λ r stands. not_had u (reading_of c.args.reading.now) r (kind_of c.args.kind) c.memory_has.result c.if-not-memory_has.true has stands

pub returns : goal.returns
returns c =
    let u = unrolled_of c.args.passive.now.unrolled.now in
    let q = c.in_ok-question.question in
    let has = subst (λ m. (c.memory_has.result ≡ true) ↔ HasKnown u.known m) (sym c.requires.memory) (rw c.deref.ensures.value at c.memory_has.ensures) in
    let tells = tells_of c.args.passive.now c.args.kind q c.in_ok-question.ensures.of.0 c.in_ok-question.ensures.of.1 c.in_ok-question.ensures.tells in
    λ r stands. had u (reading_of c.args.reading.now) r (kind_of c.args.kind) (term_of q) tells c.memory_has.result c.if-not-memory_has.false has
    c.in_ok-word.word c.in_ok-word.ensures stands
