use Rattle.std.proofs.Common.{◌∙◌, sym, ap, subst}
use Rattle.word_spec.specs.Memory.{endian}
use Rattle.word_spec.specs.State.{State}
use Rattle.machine_spec.specs.Machine.{IsAtPlace}
use Rattle.notes_value.specs.FrameViews.{contract_of}
use Rattle.notes_value.specs.NoteViews.{note_line_of, notes_of}
use Rattle.notes_value.specs.Reads.{IsReadable}
use Rattle.table_run.proofs.LinesMeant.{line_meant}
use Rattle.table_run.proofs.Lists.{unmapped}
use Rattle.table_run.proofs.RankedEntries.{own_entry}
use Rattle.table_run.proofs.called_entry.own_lines_ok.Goals as goal

pub false_line-requires : goal.false_line-requires
false_line-requires g c =
    unmapped (λ l. IsReadable g.M.State.View.has_register l.says) note_line_of c.args.contract.now.needs.items c.deref.result.now c.deref.ensures.value
    c.requires.readable.needs

pub returns-clause-ok : goal.returns-clause-ok
returns-clause-ok g c at right =
    let s : State = g.M.State.View.view c.args.state.now in
    let m = g.M.Machine.machine in
    own_entry m c.args.program.now.image.now (notes_of c.args.program.now.notes.now) c.args.program.now.entry (contract_of c.args.contract.now) s (g.met.M.Machine.states c.args.state.now) at
    (subst (λ a. IsAtPlace m.narrow a) (c.link.ensures ∙ ap s.regs g.met.M.Machine.same_link) c.if-not-is_place.ensures.place)
    (sym c.in_default.is
    ∙ line_meant (endian c.args.program.now.big) m.endian c.deref.result.now c.args.contract.now.needs.items s s c.false_line.result
    c.args.program.now.big_is c.deref.ensures.value c.false_line.ensures) right
