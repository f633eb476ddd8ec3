use Rattle.std.proofs.Common.{◌+◌, ◌≤◌, ◌<◌, length, sym, subst}
use Rattle.bilv_spec.specs.ElfFaults.{section, section_count}
use Rattle.note_check.proofs.Accepted.{readable}
use Rattle.note_check.proofs.symbols.is_of.Goals as goal

pub name_is-requires-clause-within : goal.name_is-requires-clause-within
name_is-requires-clause-within c =
    subst (λ l. l < section_count c.args.file.now) (sym c.table_at-link.ensures.link)
    (readable c.args.file.now c.args.i c.requires.accepted c.requires.table).link

pub name_is-requires-clause-room : goal.name_is-requires-clause-room
name_is-requires-clause-room c =
    subst (λ l. (section c.args.file.now l).offset + (section c.args.file.now l).size ≤ length c.args.file.now) (sym c.table_at-link.ensures.link)
    (readable c.args.file.now c.args.i c.requires.accepted c.requires.table).names
