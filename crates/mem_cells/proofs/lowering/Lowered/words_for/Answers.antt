use Rattle.std.proofs.lemmas.List.Elements.{Contains-get_or}
use Rattle.mem_cells.proofs.lowering.Lowered.words_for.Goals as goal

pub word-requires : goal.word-requires
word-requires c = c.requires _ (Contains-get_or c.args.terms.now c.loop-term.term-index (record { 0 = 0 }) c.loop-term-test.true)
