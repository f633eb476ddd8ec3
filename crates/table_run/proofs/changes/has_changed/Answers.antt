use Rattle.std.proofs.Common.{false}
use Rattle.notes_value.specs.FrameViews.{contract_of}
use Rattle.table_run.proofs.Changed.{changed_first, changed_is}
use Rattle.table_run.proofs.changes.has_changed.Goals as goal

pub returns-then-registers_differ : goal.returns-then-registers_differ
returns-then-registers_differ g c f machine =
    changed_first f (contract_of c.args.contract.now) (g.M.State.View.view c.args.entry.now) (g.M.State.View.view c.args.state.now)
    (c.if-registers_differ.ensures f machine)

pub returns : goal.returns
returns g c f machine =
    changed_is f (contract_of c.args.contract.now) (g.M.State.View.view c.args.entry.now) (g.M.State.View.view c.args.state.now)
    false c.flags_differ.result (c.if-registers_differ.ensures f machine) (c.flags_differ.ensures f machine)
