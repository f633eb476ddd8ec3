use Rattle.notes_value.specs.NoteViews.{notes_of}
use Rattle.frame_verdict.proofs.RankedParts.{own_notes}
use Rattle.frame_verdict.proofs.ranks.notes_of_rank.Goals as goal

pub returns : goal.returns
returns g c =
    own_notes c.args.framed.now c.args.rank (notes_of c.in_ok-notes.notes) c.index-framed-rank.result c.requires c.in_ok-notes.ensures
