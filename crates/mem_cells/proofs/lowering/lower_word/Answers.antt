use Rattle.mem_cells.specs.Parts.{frame_of_build, heads_of_build}
use Rattle.mem_cells.specs.Lowering.{source_of}
use Rattle.mem_cells.proofs.Lowerings.{next_word, operands_there, word_own, word_lowered, same_question}
use Rattle.mem_cells.proofs.lowering.lower_word.Goals as goal

pub moved-requires : goal.moved-requires
moved-requires c =
    let a = c.args.build.now in
    let w = next_word (source_of a) _ (frame_of_build a) (heads_of_build a) _ c.requires.lowered.typed c.requires.next c.requires.word in
    operands_there (source_of a) _ a _ _ _ _ (frame_of_build a) (heads_of_build a) _ c.requires.lowered c.requires.next w.0 w.1

pub make-requires-clause-built : goal.make-requires-clause-built
make-requires-clause-built c = c.requires.lowered.stands.built

pub make-requires-clause-own : goal.make-requires-clause-own
make-requires-clause-own c =
    let a = c.args.build.now in
    let w = next_word (source_of a) _ (frame_of_build a) (heads_of_build a) _ c.requires.lowered.typed c.requires.next c.requires.word in
    word_own (source_of a) _ a _ _ _ _ (frame_of_build a) (heads_of_build a) _ _ c.requires.lowered c.requires.next w.0 w.1 c.moved.ensures

pub returns-clause-question : goal.returns-clause-question
returns-clause-question c = c.in_ok-term.ensures.grown.question

pub returns-clause-lowered : goal.returns-clause-lowered
returns-clause-lowered c =
    let a = c.args.build.now in
    let w = next_word (source_of a) _ (frame_of_build a) (heads_of_build a) _ c.requires.lowered.typed c.requires.next c.requires.word in
    let b = c.make.new.self in
    same_question a b _ _ _ _ _ c.in_ok-term.ensures.grown.question
    (word_lowered (source_of a) _ a b _ _ _ _ _ _ (frame_of_build a)
    (heads_of_build a) _ _ c.in_ok-term.term 0 c.requires.lowered c.requires.next w.0 w.1 c.moved.ensures
    c.in_ok-term.ensures.grown
    c.in_ok-term.ensures.word c.in_ok-push.ensures.items c.in_ok-push-2.ensures.items)
