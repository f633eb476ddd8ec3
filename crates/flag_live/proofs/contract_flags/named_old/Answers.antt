use Rattle.std.proofs.Common.{ℕ, arith}
use Rattle.frame_spec.specs.FrameUnrolling.{names_old}
use Rattle.notes_value.specs.Views.{expr_of}
use Rattle.notes_value.specs.NoteViews.{note_line_of}
use Rattle.notes_value.specs.declared.notes.NoteLine.{NoteLine}
use Rattle.flag_live.proofs.ContractFlags.{any_more, any_all}
use Rattle.flag_live.proofs.contract_flags.named_old.Goals as goal

pub loop-line-preserved : goal.loop-line-preserved
loop-line-preserved c =
    any_more (λ (f : ℕ) (x : NoteLine). names_old f (expr_of x.says)) c.args.lines.now c.loop-line.line-index c.loop-line.set c.old_flags-set.result c.line-item.result
    (omega arith) c.line-item.is c.old_flags-set.ensures c.loop-line.invariant

pub returns : goal.returns
returns c =
    any_all (λ f l. names_old f l.says) note_line_of c.args.lines.now c.loop-line.line-index c.loop-line.set (omega arith) c.loop-line.invariant
