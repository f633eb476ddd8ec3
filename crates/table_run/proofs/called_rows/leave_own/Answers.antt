use Rattle.std.proofs.Common.{◌∙◌, ap, sym}
use Rattle.word_spec.specs.Memory.{endian}
use Rattle.machine_spec.specs.Machine.{Machine}
use Rattle.notes_value.specs.FrameViews.{contract_of}
use Rattle.notes_value.specs.NoteViews.{note_line_of}
use Rattle.notes_value.specs.Reads.{IsReadable}
use Rattle.table_run.proofs.CalledRows.{leave_gives, leave_leaves, leave_modifies}
use Rattle.table_run.proofs.LinesMeant.{line_meant}
use Rattle.table_run.proofs.Lists.{unmapped}
use Rattle.table_run.proofs.called_rows.leave_own.Goals as goal

pub false_line-requires : goal.false_line-requires
false_line-requires g c =
    unmapped (λ l. IsReadable g.M.State.View.has_register l.says) note_line_of c.args.own.contract.now.gives.items c.deref.result.now c.deref.ensures.value
    c.requires.readable.gives

pub returns-in-Some : goal.returns-in-Some
returns-in-Some g c f machine =
    leave_gives (contract_of c.args.own.contract.now) f (g.M.State.View.view c.args.entry.now) (g.M.State.View.view c.args.state.now) c.in-Some.line
    (sym c.in-Some.is
    ∙ line_meant (endian c.args.big) f.program.machine.endian c.deref.result.now c.args.own.contract.now.gives.items (g.M.State.View.view c.args.state.now)
    (g.M.State.View.view c.args.entry.now) c.false_line.result (c.requires.order ∙ ap (λ (m : Machine). m.endian) (sym machine)) c.deref.ensures.value
    c.false_line.ensures)

pub returns-then-has_changed : goal.returns-then-has_changed
returns-then-has_changed g c f machine =
    leave_modifies (contract_of c.args.own.contract.now) f (g.M.State.View.view c.args.entry.now) (g.M.State.View.view c.args.state.now)
    (sym c.in_default.is
    ∙ line_meant (endian c.args.big) f.program.machine.endian c.deref.result.now c.args.own.contract.now.gives.items (g.M.State.View.view c.args.state.now)
    (g.M.State.View.view c.args.entry.now) c.false_line.result (c.requires.order ∙ ap (λ (m : Machine). m.endian) (sym machine)) c.deref.ensures.value
    c.false_line.ensures) (c.if-has_changed.ensures f machine)

pub returns : goal.returns
returns g c f machine = (
  g.M.State.View.view c.args.state.now,
  leave_leaves (contract_of c.args.own.contract.now) f (g.M.State.View.view c.args.entry.now) (g.M.State.View.view c.args.state.now)
      (sym c.in_default.is
      ∙ line_meant (endian c.args.big) f.program.machine.endian c.deref.result.now c.args.own.contract.now.gives.items (g.M.State.View.view c.args.state.now)
      (g.M.State.View.view c.args.entry.now) c.false_line.result (c.requires.order ∙ ap (λ (m : Machine). m.endian) (sym machine)) c.deref.ensures.value
      c.false_line.ensures) (c.if-has_changed.ensures f machine),
)
