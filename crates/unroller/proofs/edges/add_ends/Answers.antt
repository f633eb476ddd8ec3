use Rattle.std.proofs.Common.{ℕ, List, subst}
use Rattle.unroller.specs.Led.{AreAddedTo}
use Rattle.unroller.proofs.Adding.{led_all}
use Rattle.unroller.proofs.edges.add_ends.Goals as goal

pub returns : goal.returns
returns c =
    let aims = c.args.aims.now in
    let ends = c.args.ends.now in
    led_all aims.heads.now aims.stepped.now aims.asserts.now aims.keys.now c.args.own ends.linked ends.jumps.now ends.next c.also_jumps-both.result ends.exits
    c.in_ok-targets.targets.items c.args.edges.now.items c.add_exit.new.edges.items c.add_targets.new.edges.items c.also_jumps-both.ensures
    c.in_ok-targets.ensures.rise c.in_ok-targets.ensures.same c.in_ok-targets.ensures.small c.in_ok-add_exit.ensures
    (subst (λ (l : List ℕ). AreAddedTo aims.heads.now aims.asserts.now aims.keys.now ends.next c.also_jumps-both.result l c.add_exit.new.edges.items
    c.add_targets.new.edges.items) c.deref.ensures.value c.in_ok-add_targets.ensures)
