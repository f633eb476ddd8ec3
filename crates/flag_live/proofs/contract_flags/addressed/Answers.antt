use Rattle.std.proofs.Common.{ℕ, arith}
use Rattle.bilv_spec.specs.LiveFlags.{names_flag}
use Rattle.frame_spec.specs.FrameUnrolling.{names_any, names_old}
use Rattle.notes_value.specs.FrameViews.{writes_of}
use Rattle.notes_value.specs.Views.{expr_of}
use Rattle.notes_value.specs.declared.notes.Writes.{Writes}
use Rattle.flow_graph.proofs.FlagSets.{flags_or}
use Rattle.flag_live.proofs.ContractFlags.{any_more, any_all}
use Rattle.flag_live.proofs.contract_flags.addressed.Goals as goal

pub loop-line-preserved : goal.loop-line-preserved
loop-line-preserved c =
    any_more (λ (f : ℕ) (x : Writes). names_any f (expr_of x.says)) c.args.writes.now c.loop-line.line-index c.loop-line.set _ c.line-item.result
    (omega arith) c.line-item.is
    (flags_or c.named_flags.result c.old_flags.result (λ f. names_flag f (expr_of c.line-item.result.says)) (λ f. names_old f (expr_of c.line-item.result.says))
    c.named_flags.ensures c.old_flags.ensures) c.loop-line.invariant

pub returns : goal.returns
returns c =
    any_all (λ f w. names_any f w.says) writes_of c.args.writes.now c.loop-line.line-index c.loop-line.set (omega arith) c.loop-line.invariant
