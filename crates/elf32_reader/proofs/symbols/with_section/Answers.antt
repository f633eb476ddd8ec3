use Rattle.std.proofs.Common.{sym, ◌∙◌, subst, ◌≢◌}
use Rattle.elf32_reader.proofs.Least.{seen_skip, accepted_table}
use Rattle.elf32_reader.proofs.symbols.with_section.Goals as goal

pub returns-then-section_header-ne-SYMBOLS : goal.returns-then-section_header-ne-SYMBOLS
returns-then-section_header-ne-SYMBOLS c =
    seen_skip c.args.narrow c.args.file.now c.args.name.now c.args.i c.args.found (subst
    (λ k. k ≢ 2) c.section_header.ensures.kind c.if-section_header-ne-SYMBOLS.true) c.requires.least

pub with_table-requires-clause-readable : goal.with_table-requires-clause-readable
with_table-requires-clause-readable c =
    accepted_table c.args.file.now c.args.i c.requires.accepted
    (c.requires.sections, c.requires.within, sym c.section_header.ensures.kind ∙ c.if-section_header-ne-SYMBOLS.false)
