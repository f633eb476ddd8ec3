use Rattle.std.proofs.Common.{subst, sym}
use Rattle.term_dag.specs.Readings.{reading_of}
use Rattle.model_verdict.specs.Shown.{AreChoicesOf}
use Rattle.model_verdict.proofs.accepting.run_start.Goals as goal

pub returns-clause-state : goal.returns-clause-state
returns-clause-state c = c.in_ok-start.ensures.model

pub returns-clause-choices : goal.returns-clause-choices
returns-clause-choices c =
    subst (AreChoicesOf c.args.passive.now (reading_of c.args.reading.now)) (sym c.in_ok-start.ensures.choices) c.in_ok-choices.ensures
