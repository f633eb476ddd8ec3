use Rattle.std.proofs.Common.{arith}
use Rattle.mem_cells.specs.Parts.{frame_of_build, heads_of_build}
use Rattle.mem_cells.specs.Lowering.{source_of}
use Rattle.mem_cells.proofs.Lowerings.{entry_lowered}
use Rattle.mem_cells.proofs.lowering.lower_entry.Goals as goal

pub returns : goal.returns
returns c =
    let a = c.args.build.now in
    entry_lowered (source_of a) _ a _ _ _ _ _ _ _ (frame_of_build a) (heads_of_build a) c.args.part c.len-count.result _ c.requires.lowered c.requires.next
    c.requires.next.named (omega arith) c.in_ok-push-2.ensures.items c.in_ok-push-3.ensures.items c.in_ok-push.ensures.items
