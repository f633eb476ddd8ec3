use Rattle.std.proofs.Common.{refl}
use Rattle.std.specs.Prelude.{take}
use Rattle.notes_value.specs.NoteViews.{notes_of}
use Rattle.frame_verdict.proofs.RankedParts.{over_at, own_parts_by}
use Rattle.frame_verdict.proofs.ranks.own_parts.Goals as goal

pub with_function-program-requires : goal.with_function-program-requires
with_function-program-requires g c = over_at c.args.framed.now c.args.rank (notes_of c.args.notes.now) c.requires.runs.callable c.requires.notes

pub returns-clause-frame : goal.returns-clause-frame
returns-clause-frame g c =
    own_parts_by c.args.framed.now c.args.rank (notes_of c.args.notes.now) c.index-framed-rank.result c.requires.rank c.requires.notes
    (take c.args.rank c.args.framed.now.contracts.now) refl _ c.with_function-program.ensures.program
