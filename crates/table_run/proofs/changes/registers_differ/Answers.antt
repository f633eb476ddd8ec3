use Rattle.std.proofs.Common.{◌∙◌, ◌-◌, sym, arith}
use Rattle.notes_value.specs.FrameViews.{contract_of}
use Rattle.table_run.proofs.Changed.{next_register, no_registers}
use Rattle.table_run.proofs.changes.registers_differ.Goals as goal

pub returns-then-register_differs : goal.returns-then-register_differs
returns-then-register_differs g c f machine =
    sym (sym (c.loop-r.invariant f machine)
    ∙ next_register f (contract_of c.args.contract.now) (g.M.State.View.view c.args.entry.now) (g.M.State.View.view c.args.state.now) c.loop-r.r 32
    (omega arith) _ (c.if-register_differs.ensures f machine))

pub loop-r-preserved : goal.loop-r-preserved
loop-r-preserved g c f machine =
    sym (next_register f (contract_of c.args.contract.now) (g.M.State.View.view c.args.entry.now) (g.M.State.View.view c.args.state.now) c.loop-r.r 32
    (omega arith) _ (c.if-register_differs.ensures f machine))
    ∙ c.loop-r.invariant f machine

pub returns : goal.returns
returns g c f machine =
    sym (sym (c.loop-r.invariant f machine)
    ∙ no_registers f (contract_of c.args.contract.now) (g.M.State.View.view c.args.entry.now) (g.M.State.View.view c.args.state.now) c.loop-r.r
    (32 - c.loop-r.r)
    (let past = c.loop-r-test.false in omega arith))
