use Rattle.std.proofs.Common.{ℕ, ◌∙◌, List, ap, length, map, subst}
use Rattle.seen_step.specs.Views.{IsValues, change_of, changed, kind_of}
use Rattle.seen_step.proofs.Lists.{length_from}
use Rattle.seen_step.proofs.Steps.{step_is}
use Rattle.seen_step.proofs.looks.seen.Goals as goal

pub register_changes-requires-clause-after : goal.register_changes-requires-clause-after
register_changes-requires-clause-after g c =
    ap length c.in_ok-new.ensures.regs ∙ length_from (g.M.State.View.view c.args.state.now).regs g.M.Machine.form.first (length g.M.Machine.form.registers)

pub flag_changes-requires-clause-after : goal.flag_changes-requires-clause-after
flag_changes-requires-clause-after g c =
    ap length c.in_ok-new.ensures.flags ∙ length_from (g.M.State.View.view c.args.state.now).flags 0 (length g.M.Machine.form.flags)

pub returns : goal.returns
returns g c number kind old depth stored places is =
    let look = c.args.glance.now in
    let new = g.M.State.View.view c.args.state.now in
    step_is g.M.Machine.form number kind old depth stored places look is new c.in_ok-new.new
    (subst (λ (l : List ℕ). IsValues g.M.Machine.form l new c.in_ok-new.new) c.deref.ensures.value c.in_ok-new.ensures) c.pc.result c.args.later c.pc.ensures
    (map change_of c.in_ok-regs.regs.items) (map change_of c.in_ok-flags.flags.items) (map change_of c.in_ok-bytes.bytes.items) (kind_of look.kind)
    is.kind_is c.in_ok-regs.ensures c.in_ok-flags.ensures
    (c.in_ok-bytes.ensures ∙ ap (λ l. changed l c.deref-3.result.now c.deref-4.result.now) c.deref-2.ensures.value
    ∙ ap (λ l. changed look.places.items l c.deref-4.result.now) c.deref-3.ensures.value
    ∙ ap (changed look.places.items look.values.bytes.items) c.deref-4.ensures.value)
