use Rattle.std.proofs.Common.{length, refl}
use Rattle.notes_value.specs.NoteViews.{notes_of}
use Rattle.frame_verdict.proofs.RankedParts.{entry_parts_by, over_at}
use Rattle.frame_verdict.proofs.ranks.entry_parts.Goals as goal

pub with_function-program-requires : goal.with_function-program-requires
with_function-program-requires g c =
    over_at c.args.framed.now (length c.args.framed.now.contracts.now) (notes_of c.args.notes.now) c.requires.runs.callable c.requires.notes

pub returns-clause-frame : goal.returns-clause-frame
returns-clause-frame g c =
    entry_parts_by c.args.framed.now (length c.args.framed.now.contracts.now) (notes_of c.args.notes.now) c.requires.notes refl _
    c.with_function-program.ensures.program
