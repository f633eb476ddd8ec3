use Rattle.std.proofs.Common.{sym, ◌∙◌, subst}
use Rattle.passify.specs.declared.sweep.Sweep.{Sweep}
use Rattle.passify.specs.Handled.{IsHandled}
use Rattle.passify.specs.Spans.{AreOwn}
use Rattle.passify.specs.Swept.{IsPassed}
use Rattle.passify.proofs.Passed.{exchanged_own, pass_entry, pass_head}
use Rattle.passify.proofs.sweeping.pass.Goals as goal

pub returns-then-begins_at_head : goal.returns-then-begins_at_head
returns-then-begins_at_head c =
    let u = c.args.unrolled.now in
    subst (λ (z : Sweep). IsPassed u c.args.dag.now c.handle.new.dag c.args.sweep.now z c.args.place c.args.names.now)
    (sym c.exchange-then-begins_at_head.ensures)
    (pass_head u c.args.dag.now c.handle.new.dag c.args.sweep.now c.handle.new.sweep c.args.place c.args.names.now c.requires.place c.requires.sweep
    c.requires.well c.requires.own (sym c.begins_at_head.ensures ∙ c.if-begins_at_head.true)
    (subst (λ (s : Sweep). IsHandled u c.args.dag.now c.handle.new.dag s c.handle.new.sweep c.args.place c.args.names.now) c.exchange.ensures
    c.in_ok-handle.ensures))

pub returns : goal.returns
returns c =
    pass_entry c.args.unrolled.now c.args.dag.now c.handle-2.new.dag c.args.sweep.now c.handle-2.new.sweep c.args.place c.args.names.now c.requires.place
    c.requires.sweep c.requires.well c.requires.own (sym c.begins_at_head.ensures ∙ c.if-begins_at_head.false) c.in_ok-handle-2.ensures

pub handle-requires-clause-own : goal.handle-requires-clause-own
handle-requires-clause-own c =
    subst (λ (s : Sweep). AreOwn c.args.unrolled.now c.args.dag.now s) (sym c.exchange.ensures)
    (exchanged_own c.args.unrolled.now c.args.dag.now c.args.sweep.now c.requires.own)
