use Rattle.std.specs.Prelude.{not}
use Rattle.term_spec.specs.Passive.{Tells}
use Rattle.passify.specs.Sweeps.{HasEvent}
use Rattle.passify.proofs.Kept.{well_keeps}
use Rattle.passify.proofs.Tried.{IsCut, cut_off, cut_steps, cut_bit, exit_on, narrows_on}
use Rattle.passify.proofs.exits.unless.Goals as goal

pub fail-requires-clause-well : goal.fail-requires-clause-well
fail-requires-clause-well c = well_keeps c.in_ok-parts.ensures.grew c.args.sweep.now c.in_ok-parts.ensures.typed c.requires.well

cut : (c : goal.After-result-1) → IsCut c.args.dag.now c.split.new.dag c.args.rest.0 c.in_ok-parts.parts.off.0 c.in_ok-parts.parts.on.0
    (λ x q. Tells c.args.dag.now x c.args.passed.0 (not q))
cut c = cut_off c.args.dag.now c.split.new.dag c.args.rest.0 c.args.passed.0 c.in_ok-parts.parts.on.0 c.in_ok-parts.parts.off.0 c.requires.well.typed
    c.requires.rest c.requires.passed c.in_ok-parts.ensures

pub returns-clause-steps : goal.returns-clause-steps
returns-clause-steps c =
    let s = c.in_ok-fail.ensures.steps in
    cut_steps c.args.dag.now c.split.new.dag c.fail.new.dag c.args.sweep.now c.fail.new.sweep _ _ _ _
    (λ from x w b. HasEvent w) (cut c) c.requires.well 1 0 0 0 2 s.grew c.in_ok-fail.ensures.hands s.well s.inputs s.like

pub returns-clause-bit : goal.returns-clause-bit
returns-clause-bit c =
    let s = c.in_ok-fail.ensures.steps in
    cut_bit c.args.dag.now c.split.new.dag c.fail.new.dag c.args.sweep.now c.fail.new.sweep _ _ _ _
    (λ from x w b. HasEvent w) (cut c) c.requires.well 1 0 0 0 2 s.grew c.in_ok-fail.ensures.hands

pub returns-clause-tries : goal.returns-clause-tries
returns-clause-tries c =
    let s = c.in_ok-fail.ensures.steps in
    exit_on c.args.dag.now c.split.new.dag c.fail.new.dag c.args.sweep.now c.fail.new.sweep _ _ _ _
    (λ from x w b. HasEvent w) (cut c) c.requires.well 1 0 0 0 2 s.grew c.in_ok-fail.ensures.hands

pub returns-clause-narrows : goal.returns-clause-narrows
returns-clause-narrows c =
    let s = c.in_ok-fail.ensures.steps in
    narrows_on c.args.dag.now c.split.new.dag c.fail.new.dag c.args.sweep.now c.fail.new.sweep _ _ _ _
    (λ from x w b. HasEvent w) (cut c) c.requires.well 1 0 0 0 2 s.grew c.in_ok-fail.ensures.hands
