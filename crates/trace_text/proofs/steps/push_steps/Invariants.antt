use Rattle.std.proofs.Common.{drop, map}
use Rattle.trace_texts_spec.specs.Names.{names_of}
use Rattle.trace_texts_spec.specs.StepLines.{AreStepLines}
use Rattle.seen_step.specs.Views.{seen_of}
use Rattle.trace_text.specs.Appending.{near_in}
use Rattle.trace_text.proofs.Growing.{IsGrown}
use Rattle.trace_text.proofs.steps.push_steps.Given as goal

abbrev pub invariant-loop-step : goal.invariant-loop-step
invariant-loop-step g l =
    IsGrown
    (AreStepLines g.M.Machine.machine g.M.Machine.bank (names_of g.M.Machine.form) l.image (near_in l.symbols) (map seen_of (drop l.step-index l.steps)))
    (AreStepLines g.M.Machine.machine g.M.Machine.bank (names_of g.M.Machine.form) l.image (near_in l.symbols) (map seen_of l.steps))
    l.initial.out.items l.out.items
