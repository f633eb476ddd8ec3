use Rattle.std.proofs.Common.{List, length, take, drop, ap, subst, sym, ◌∙◌, arith}
use Rattle.std.specs.List.{AllByRecursion}
use Rattle.term_dag.specs.declared.nodes.Term.{Term}
use Rattle.mem_cells.specs.Words.{IsWordAt, TellsWithWords}
use Rattle.mem_cells.specs.Views.{cells_of}
use Rattle.question_form.specs.declared.questions.Question.{Question}
use Rattle.question_form.specs.Questions.{program_of_question, term_of}
use Rattle.term_spec.specs.WalkQuestions.{is_asked}
use Rattle.question_form.specs.FrameViews.{IsHeadless}
use Rattle.pair_form.specs.Views.{program_of_side_question}
use Rattle.mem_cells.specs.Words.{places_of}
use Rattle.pair_terms.proofs.CellsTold.{each_word, all_words, cells_count, cells_from}
use Rattle.pair_terms.proofs.cells.side_cells.Goals as goal

pub cells_with_words-requires-clause-words : goal.cells_with_words-requires-clause-words
cells_with_words-requires-clause-words c =
    let side = c.args.side.now in
    each_word side.question.dag c.deref.result.now
    (subst (λ (z : List Term). AllByRecursion (IsWordAt side.question.dag) (places_of z)) (sym (c.deref.ensures.value ∙ c.in_ok-words.ensures))
    (all_words side.question.dag side.entries.items side.exits.items c.requires.ready.entries c.requires.ready.exits))

pub cells_with_words-requires-clause-terms : goal.cells_with_words-requires-clause-terms
cells_with_words-requires-clause-terms c = c.requires.ready.terms

pub halves-requires : goal.halves-requires
halves-requires c =
    let side = c.args.side.now in
    let words = c.in_ok-celled.field-0.words in
    let l = cells_count side.question.dag (cells_of c.in_ok-celled.field-0.celled) side.entries.items side.exits.items c.in_ok-words.words.items
    c.deref.result.now words.items c.deref.ensures.value c.in_ok-words.ensures c.in_ok-celled.ensures.cells.tells.each in
    omega (arith, l, c.len-count.ensures, side.entries.ok.0, ap length c.deref-2.ensures.value)

pub returns-clause-tells : goal.returns-clause-tells
returns-clause-tells c = λ u second links question p h.
    let side = c.args.side.now in
    let words = c.in_ok-celled.field-0.words in
    let cells = cells_of c.in_ok-celled.field-0.celled in
    let w = program_of_side_question side in
    let count = c.len-count.result in
    cells_from u w second links question side.question.dag side.question.root.0 (is_asked c.args.added.now w.literals) cells side.entries.items
    side.exits.items c.deref.result.now words.items c.in_ok-split.split.first.items c.in_ok-split.split.last.items count
    (c.deref.ensures.value ∙ c.in_ok-words.ensures) (omega (arith, c.len-count.ensures, side.entries.ok.0))
    (c.in_ok-split.ensures.first ∙ ap (take count) c.deref-2.ensures.value) (c.in_ok-split.ensures.last ∙ ap (drop count) c.deref-2.ensures.value) p h
    (subst (λ (q : Question). TellsWithWords (program_of_question q) (term_of side.question) (places_of c.deref.result.now)
    (is_asked c.args.added.now w.literals) cells (places_of words.items)) c.in_ok-celled.ensures.cells.of c.in_ok-celled.ensures.cells.tells)

pub returns-clause-of_program : goal.returns-clause-of_program
returns-clause-of_program c = record {
  headless = subst (λ (q : Question). IsHeadless q.passive.now.unrolled.now) (sym c.in_ok-celled.ensures.cells.of) c.requires.ready.headless;
  flat = c.in_ok-celled.ensures.flat;
}
