use Rattle.std.proofs.Common.{[], ◌∷◌, ◌++◌, length, ap, ◌∙◌, arith}
use Rattle.mem_cells.specs.Parts.{frame_of_build, heads_of_build}
use Rattle.mem_cells.specs.Lowering.{source_of}
use Rattle.mem_cells.proofs.Lowerings.{store_of, store_lowered, same_question, address_there}
use Rattle.mem_cells.proofs.lowering.lower_store.Goals as goal

pub number-number-requires : goal.number-number-requires
number-number-requires c =
    let o = store_of _ _ _ _ _ _ _ _ _ c.requires.lowered.typed c.requires.next in
    omega (arith, o.memory.0, c.requires.lowered.stands.number_count)

pub word-at-requires : goal.word-at-requires
word-at-requires c =
    let o = store_of _ _ _ _ _ _ _ _ _ c.requires.lowered.typed c.requires.next in
    o.address.0

pub word-word-requires : goal.word-word-requires
word-word-requires c =
    let o = store_of _ _ _ _ _ _ _ _ _ c.requires.lowered.typed c.requires.next in
    o.value.0

pub store-requires-clause-built : goal.store-requires-clause-built
store-requires-clause-built c = c.requires.lowered.stands.built

pub store-requires-clause-address : goal.store-requires-clause-address
store-requires-clause-address c =
    let o = store_of _ _ _ _ _ _ _ _ _ c.requires.lowered.typed c.requires.next in
    address_there (source_of c.args.build.now) _ c.args.build.now _ _ _ _ 32 _ _ c.requires.lowered o.address (omega arith) c.word-at.ensures

pub store-requires-clause-value : goal.store-requires-clause-value
store-requires-clause-value c =
    let o = store_of _ _ _ _ _ _ _ _ _ c.requires.lowered.typed c.requires.next in
    address_there (source_of c.args.build.now) _ c.args.build.now _ _ _ _ _ _ _ c.requires.lowered o.value (omega (arith, o.bytes.0)) c.word-word.ensures

pub store-requires-clause-bytes : goal.store-requires-clause-bytes
store-requires-clause-bytes c =
    let o = store_of _ _ _ _ _ _ _ _ _ c.requires.lowered.typed c.requires.next in
    o.bytes

pub returns-clause-question : goal.returns-clause-question
returns-clause-question c = c.in_ok-piece.ensures.grown.question

pub returns-clause-lowered : goal.returns-clause-lowered
returns-clause-lowered c =
    let a = c.args.build.now in
    let b = c.store.new.build in
    let e = c.in_ok-piece.ensures in
    same_question a b _ _ _ _ _ e.grown.question
    (store_lowered (source_of a) _ a b _ _ _ _ _ _ e.stored.0 _ _
    (frame_of_build a) (heads_of_build a) _ _ _ _ _ _ _ _ c.len-count.result c.in_ok-piece.piece _ c.requires.lowered c.requires.next c.number-number.ensures
    c.word-at.ensures c.word-word.ensures e.grown e.stored.1 e.piece
    (omega (arith, ap length e.pieces)) c.in_ok-push-2.ensures.items c.in_ok-push-3.ensures.items
    (c.in_ok-push.ensures.items ∙ ap (λ z. z ++ c.in_ok-piece.piece ∷ []) e.pieces))
