use Rattle.std.proofs.Common.{arith}
use Rattle.mem_cells.specs.Parts.{frame_of_build, heads_of_build}
use Rattle.mem_cells.specs.Lowering.{source_of}
use Rattle.mem_cells.proofs.Lowerings.{join_of, join_lowered}
use Rattle.mem_cells.proofs.lowering.lower_join.Goals as goal

pub word-bit-requires : goal.word-bit-requires
word-bit-requires c =
    let o = join_of _ _ _ _ _ _ _ c.requires.lowered.typed c.requires.next in
    o.condition.0

pub number-one-requires : goal.number-one-requires
number-one-requires c =
    let o = join_of _ _ _ _ _ _ _ c.requires.lowered.typed c.requires.next in
    omega (arith, o.when_true.0, c.requires.lowered.stands.number_count)

pub number-other-requires : goal.number-other-requires
number-other-requires c =
    let o = join_of _ _ _ _ _ _ _ c.requires.lowered.typed c.requires.next in
    omega (arith, o.when_false.0, c.requires.lowered.stands.number_count)

pub returns : goal.returns
returns c =
    let a = c.args.build.now in
    join_lowered (source_of a) _ a _ _ _ _ _ _ _ (frame_of_build a)
    (heads_of_build a) _ _ _ c.word-bit.result c.number-one.result c.number-other.result c.len-count.result _
    c.requires.lowered c.requires.next c.word-bit.ensures
    c.number-one.ensures c.number-other.ensures (omega arith) c.in_ok-push-2.ensures.items c.in_ok-push-3.ensures.items c.in_ok-push.ensures.items
