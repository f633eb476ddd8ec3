use Rattle.std.proofs.Common.{◌∙◌, ap, length}
use Rattle.std.proofs.Common.{[], subst}
use Rattle.state_text.specs.Starts.{written_call_of}
use Rattle.table_run.specs.CalledFrames.{IsFilledBy}
use Rattle.table_run.specs.Spans.{bytes_of}
use Rattle.table_run.proofs.Given.{seen_after}
use Rattle.table_run.proofs.GiftLists.{length_mapped}
use Rattle.table_run.proofs.gifts.give.Goals as goal

pub give-requires : goal.give-requires
give-requires g c = record {
  registers = ap length c.in_ok-registers_after.ensures ∙ length_mapped _ g.M.Machine.form.first (length g.M.Machine.form.registers);
  flags = c.flags_after.ensures.few;
}

pub returns : goal.returns
returns g c f machine bytes =
    seen_after f g.M.Machine.machine g.M.Machine.form c.args.contract.now (g.M.State.View.view c.args.state.now) c.deref.result.now machine
    g.met.M.Machine.fitted c.requires.registers.registers (bytes_of c.args.spans.now) (written_call_of c.args.call.now)
    (record { regs = c.in_ok-registers_after.field-0.items; flags = c.flags_after.result; bytes = []; choices = [] }) c.args.to
    (g.M.State.View.view c.fill.new.state) (g.M.State.View.view c.give.new.state) c.deref.ensures.value bytes
    (subst (λ l. IsFilledBy l (bytes_of c.args.spans.now) (g.M.State.View.view c.args.state.now) (g.M.State.View.view c.fill.new.state)) c.deref-2.ensures.value
    c.in_ok-fill.ensures) c.in_ok-registers_after.ensures (c.flags_after.ensures.flags f machine) c.give.ensures.view
