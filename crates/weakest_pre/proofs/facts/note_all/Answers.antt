use Rattle.std.proofs.Common.{List, take, sym, subst, arith}
use Rattle.std.proofs.lemmas.List.{take_all}
use Rattle.bilv_spec.specs.Notes.{Expr}
use Rattle.notes_value.specs.Views.{expr_of}
use Rattle.notes_value.specs.declared.notes.NoteLine.{NoteLine}
use Rattle.weakest_pre.specs.Entry.{said}
use Rattle.weakest_pre.specs.Known.{AreNoted}
use Rattle.weakest_pre.proofs.Entries.{said_next}
use Rattle.weakest_pre.proofs.Said.{noted_more}
use Rattle.weakest_pre.proofs.facts.note_all.Goals as goal

pub loop-each-preserved : goal.loop-each-preserved
loop-each-preserved c =
    let lines = c.args.lines.now in
    let i = c.loop-each.each-index in
    let item = c.each-item.result in
    subst (λ (z : List Expr). AreNoted c.args.registers.now c.note.new.registers z) (sym (said_next lines i item c.loop-each-test.true c.each-item.is))
    (noted_more c.args.registers.now c.loop-each.registers c.note.new.registers (said (take i lines)) (expr_of item.says) c.loop-each.invariant c.note.ensures)

pub returns : goal.returns
returns c =
    subst (λ (z : List NoteLine). AreNoted c.args.registers.now c.loop-each.registers (said z))
    (take_all c.loop-each.each-index c.args.lines.now (omega (arith, c.loop-each-test.false))) c.loop-each.invariant
