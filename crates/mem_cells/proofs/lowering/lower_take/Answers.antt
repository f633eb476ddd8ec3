use Rattle.std.proofs.Common.{arith}
use Rattle.mem_cells.specs.Parts.{frame_of_build, heads_of_build}
use Rattle.mem_cells.specs.Lowering.{source_of}
use Rattle.mem_cells.proofs.Lowerings.{take_of, take_lowered, taken_part, same_question, address_there}
use Rattle.mem_cells.proofs.lowering.lower_take.Goals as goal

pub number-number-requires : goal.number-number-requires
number-number-requires c =
    let o = take_of _ _ _ _ _ _ _ _ c.requires.lowered.typed c.requires.next in
    omega (arith, o.memory.0, c.requires.lowered.stands.number_count)

pub word-first-requires : goal.word-first-requires
word-first-requires c =
    let o = take_of _ _ _ _ _ _ _ _ c.requires.lowered.typed c.requires.next in
    o.address.0

pub take-requires-clause-built : goal.take-requires-clause-built
take-requires-clause-built c = c.requires.lowered.stands.built

pub take-requires-clause-part : goal.take-requires-clause-part
take-requires-clause-part c =
    taken_part (frame_of_build c.args.build.now) (heads_of_build c.args.build.now) c.args.part c.requires.next.named

pub take-requires-clause-first : goal.take-requires-clause-first
take-requires-clause-first c =
    let o = take_of _ _ _ _ _ _ _ _ c.requires.lowered.typed c.requires.next in
    address_there (source_of c.args.build.now) _ c.args.build.now _ _ _ _ 32 _ _ c.requires.lowered o.address (omega arith) c.word-first.ensures

pub take-requires-clause-some : goal.take-requires-clause-some
take-requires-clause-some c =
    let o = take_of _ _ _ _ _ _ _ _ c.requires.lowered.typed c.requires.next in
    o.some

pub returns-clause-question : goal.returns-clause-question
returns-clause-question c = c.in_ok-piece.ensures.grown.question

pub returns-clause-lowered : goal.returns-clause-lowered
returns-clause-lowered c =
    let a = c.args.build.now in
    let b = c.take.new.build in
    let e = c.in_ok-piece.ensures in
    same_question a b _ _ _ _ _ e.grown.question
    (take_lowered (source_of a) _ a b _ _ _ _ _ _ _ (frame_of_build a) (heads_of_build a) _ _ _ _ _ _ c.len-count.result c.in_ok-piece.piece _
    c.requires.lowered c.requires.next c.number-number.ensures c.word-first.ensures e.grown e.piece (omega arith) c.in_ok-push-2.ensures.items
    c.in_ok-push-3.ensures.items c.in_ok-push.ensures.items)
