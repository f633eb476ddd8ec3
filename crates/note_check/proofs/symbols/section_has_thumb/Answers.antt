use Rattle.note_check.proofs.symbols.section_has_thumb.Goals as goal

pub returns-then-not-is_symbols : goal.returns-then-not-is_symbols
returns-then-not-is_symbols c = λ k t. c.if-not-is_symbols.ensures t.table
