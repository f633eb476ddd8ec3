use Rattle.std.proofs.Common.{arith}
use Rattle.mem_cells.specs.Parts.{frame_of_build, heads_of_build}
use Rattle.mem_cells.specs.Lowering.{source_of}
use Rattle.mem_cells.proofs.Lowerings.{load_of, load_lowered, same_question, address_there}
use Rattle.mem_cells.proofs.lowering.lower_load.Goals as goal

pub number-number-requires : goal.number-number-requires
number-number-requires c =
    let o = load_of _ _ _ _ _ _ _ _ c.requires.lowered.typed c.requires.next in
    omega (arith, o.memory.0, c.requires.lowered.stands.number_count)

pub word-at-requires : goal.word-at-requires
word-at-requires c =
    let o = load_of _ _ _ _ _ _ _ _ c.requires.lowered.typed c.requires.next in
    o.address.0

pub load-requires-clause-built : goal.load-requires-clause-built
load-requires-clause-built c = c.requires.lowered.stands.built

pub load-requires-clause-pieces : goal.load-requires-clause-pieces
load-requires-clause-pieces c = c.requires.lowered.stands.pieces

pub load-requires-clause-memory : goal.load-requires-clause-memory
load-requires-clause-memory c =
    let o = load_of _ _ _ _ _ _ _ _ c.requires.lowered.typed c.requires.next in
    omega (arith, c.number-number.ensures, c.requires.lowered.stands.within c.args.memory.0 o.memory.0 o.memory.1)

pub load-requires-clause-address : goal.load-requires-clause-address
load-requires-clause-address c =
    let o = load_of _ _ _ _ _ _ _ _ c.requires.lowered.typed c.requires.next in
    address_there (source_of c.args.build.now) _ c.args.build.now _ _ _ _ 32 _ _ c.requires.lowered o.address (omega arith) c.word-at.ensures

pub load-requires-clause-bytes : goal.load-requires-clause-bytes
load-requires-clause-bytes c =
    let o = load_of _ _ _ _ _ _ _ _ c.requires.lowered.typed c.requires.next in
    o.bytes

pub returns-clause-question : goal.returns-clause-question
returns-clause-question c = c.in_ok-word.ensures.grown.question

pub returns-clause-lowered : goal.returns-clause-lowered
returns-clause-lowered c =
    let a = c.args.build.now in
    let b = c.load.new.build in
    same_question a b _ _ _ _ _ c.in_ok-word.ensures.grown.question
    (load_lowered (source_of a) _ a b _ _ _ _ _ _ (frame_of_build a) (heads_of_build a) _ _ _ _ _ _ c.in_ok-word.word 0 c.requires.lowered c.requires.next
    c.number-number.ensures c.word-at.ensures c.in_ok-word.ensures.grown
    c.in_ok-word.ensures.word c.in_ok-push.ensures.items c.in_ok-push-2.ensures.items)
