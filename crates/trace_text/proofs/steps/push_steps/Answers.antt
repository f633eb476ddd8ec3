use Rattle.std.proofs.Common.{map}
use Rattle.trace_texts_spec.specs.Names.{names_of}
use Rattle.trace_texts_spec.specs.StepLines.{AreStepLines}
use Rattle.seen_step.specs.Views.{seen_of}
use Rattle.trace_text.specs.Appending.{near_in}
use Rattle.trace_text.proofs.Growing.{begun, grown_more, grown_done}
use Rattle.trace_text.proofs.steps.push_steps.Goals as goal

pub loop-step-init : goal.loop-step-init
loop-step-init g c = begun _ _

pub loop-step-preserved : goal.loop-step-preserved
loop-step-preserved g c =
    let m = g.M.Machine.machine in
    let bank = g.M.Machine.bank in
    let names = names_of g.M.Machine.form in
    let file = c.args.image.now in
    let near = near_in c.args.symbols.now in
    grown_more m bank names file near seen_of c.args.steps.now c.loop-step.step-index c.step-item.result
    (AreStepLines m bank names file near (map seen_of c.args.steps.now)) c.args.out.now.items c.loop-step.out.items c.push_step.new.out.items
    c.loop-step-test.true c.step-item.is c.loop-step.invariant c.in_ok-push_step.ensures

pub returns : goal.returns
returns g c =
    let m = g.M.Machine.machine in
    let bank = g.M.Machine.bank in
    let names = names_of g.M.Machine.form in
    let file = c.args.image.now in
    let near = near_in c.args.symbols.now in
    grown_done m bank names file near seen_of c.args.steps.now c.loop-step.step-index
    (AreStepLines m bank names file near (map seen_of c.args.steps.now)) c.args.out.now.items c.loop-step.out.items
    c.loop-step-test.false c.loop-step.invariant
