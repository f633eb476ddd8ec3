use Rattle.std.proofs.Common.{arith, sym, ◌∙◌}
use Rattle.elf32_reader.proofs.Tables.{readable, names_kind, bad_by_names}
use Rattle.elf32_reader.proofs.symbols.is_bad_table.Goals as goal

pub is_unnamed-requires-clause-readable : goal.is_unnamed-requires-clause-readable
is_unnamed-requires-clause-readable c =
    readable c.args.file.now c.args.i c.section_header-symbols.result c.section_header-names.result c.section_header-symbols.ensures
    c.section_header-names.ensures
    (omega arith) (omega arith) (omega arith) (omega arith)

pub returns : goal.returns
returns c =
    bad_by_names c.args.file.now c.args.i c.is_unnamed.result
    (sym c.section_header-symbols.ensures.entry_size ∙ omega arith)
    (readable c.args.file.now c.args.i c.section_header-symbols.result c.section_header-names.result c.section_header-symbols.ensures
    c.section_header-names.ensures
    (omega arith) (omega arith) (omega arith) (omega arith))
    (sym (names_kind c.args.file.now c.args.i c.section_header-symbols.result c.section_header-names.result c.section_header-symbols.ensures
    c.section_header-names.ensures) ∙ omega arith)
    c.is_unnamed.ensures
