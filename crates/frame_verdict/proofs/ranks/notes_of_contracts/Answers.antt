use Rattle.frame_verdict.proofs.ByRank.{more_noted, none_noted}
use Rattle.frame_verdict.proofs.ranks.notes_of_contracts.Goals as goal

pub loop-rank-init : goal.loop-rank-init
loop-rank-init g c = none_noted c.args.framed.now c.new-all.result.items c.new-all.ensures.items

pub loop-rank-preserved : goal.loop-rank-preserved
loop-rank-preserved g c =
    more_noted c.args.framed.now c.loop-rank.rank c.loop-rank.all.items c.push.new.self.items c.in_ok-notes_of_rank.field-0 c.loop-rank.invariant
    c.in_ok-notes_of_rank.ensures c.in_ok-push.ensures.items
