use Rattle.notes_lang.proofs.Forms.{neither_word}
use Rattle.notes_lang.proofs.line_words.word_named.Goals as goal

pub returns-in-None-clause-none : goal.returns-in-None-clause-none
returns-in-None-clause-none c = neither_word c.args.text.now c.in_default.ensures.none c.in-None.ensures.none
