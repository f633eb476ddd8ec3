use Rattle.std.proofs.Common.{arith}
use Rattle.elf32_reader.proofs.Tables.{unnamed_at, all_named}
use Rattle.elf32_reader.proofs.symbols.is_unnamed.Goals as goal

pub returns-then-word-end : goal.returns-then-word-end
returns-then-word-end c =
    unnamed_at c.args.file.now c.args.i c.section_header-symbols.result c.section_header-names.result c.section_header-symbols.ensures
    c.section_header-names.ensures
    c.loop-k.k c.names_end-end.result (omega arith) (rw (← c.word.ensures) c.if-word-end.true) c.names_end-end.ensures.behind

pub returns : goal.returns
returns c =
    let whole = c.requires.readable.whole in
    all_named c.args.file.now c.args.i c.section_header-symbols.result c.section_header-names.result c.section_header-symbols.ensures
    c.section_header-names.ensures
    c.names_end-end.result c.requires.readable c.names_end-end.ensures.within c.names_end-end.ensures.ended
    (λ k w. c.loop-k.invariant k (omega (arith, whole.1, c.section_header-symbols.ensures.size)))
