use Rattle.frame_verdict.specs.FrameFunctions.{AreNotesTo}
use Rattle.frame_verdict.proofs.ranks.notes_of_contracts.Given as goal

abbrev pub invariant-loop-rank : goal.invariant-loop-rank
invariant-loop-rank g l = AreNotesTo l.framed l.rank l.all.items
