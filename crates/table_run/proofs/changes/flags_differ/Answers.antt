use Rattle.std.proofs.Common.{◌∙◌, ◌-◌, sym, arith}
use Rattle.notes_value.specs.FrameViews.{contract_of}
use Rattle.table_run.proofs.Changed.{next_flag, no_flags}
use Rattle.table_run.proofs.changes.flags_differ.Goals as goal

pub returns-then-flag_differs : goal.returns-then-flag_differs
returns-then-flag_differs g c f machine =
    sym (sym (c.loop-n.invariant f machine)
    ∙ next_flag f (contract_of c.args.contract.now) (g.M.State.View.view c.args.entry.now) (g.M.State.View.view c.args.state.now) c.loop-n.n 4
    (omega arith) _ (c.if-flag_differs.ensures f machine))

pub loop-n-preserved : goal.loop-n-preserved
loop-n-preserved g c f machine =
    sym (next_flag f (contract_of c.args.contract.now) (g.M.State.View.view c.args.entry.now) (g.M.State.View.view c.args.state.now) c.loop-n.n 4
    (omega arith) _ (c.if-flag_differs.ensures f machine))
    ∙ c.loop-n.invariant f machine

pub returns : goal.returns
returns g c f machine =
    sym (sym (c.loop-n.invariant f machine)
    ∙ no_flags f (contract_of c.args.contract.now) (g.M.State.View.view c.args.entry.now) (g.M.State.View.view c.args.state.now) c.loop-n.n (4 - c.loop-n.n)
    (let past = c.loop-n-test.false in omega arith))
