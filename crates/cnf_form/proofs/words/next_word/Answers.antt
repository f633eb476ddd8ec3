use Rattle.cnf_form.proofs.Cuts.{word-cut, word-last}
use Rattle.std.proofs.Common.{sym, ◌∙◌, ◌<◌, arith, length}
use Rattle.cnf_form.proofs.words.next_word.Goals as goal

pub returns-then-is_blank_byte-clause-words : goal.returns-then-is_blank_byte-clause-words
returns-then-is_blank_byte-clause-words c =
    let rest = c.from_word-rest.result.now in
    let some : 0 < length rest = let lt = c.loop-i-test.true in omega arith in
    sym c.from_word-rest.ensures.words
    ∙ word-cut rest c.loop-i.i c.loop-i-test.true (sym c.is_blank_byte.ensures ∙ c.if-is_blank_byte.true)
    (c.from_word-rest.ensures.start some) c.loop-i.invariant

pub returns-clause-words : goal.returns-clause-words
returns-clause-words c =
    sym c.from_word-rest.ensures.words
    ∙ word-last c.from_word-rest.result.now c.loop-i.i c.loop-i-test.false (sym c.is_empty.ensures ∙ c.if-is_empty.false) c.loop-i.invariant
