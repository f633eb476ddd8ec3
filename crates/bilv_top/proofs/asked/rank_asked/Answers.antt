use Rattle.std.proofs.Common.{◌≡◌, length, sym, subst, Some}
use Rattle.std.specs.Prelude.{IfOk}
use Rattle.answer_spec.specs.FrameAnswers.{asked_rank}
use Rattle.bilv_top.specs.Frames.{frame_named}
use Rattle.bilv_top.specs.declared.frame_tasks.FrameTask.{FrameTask}
use Rattle.bilv_top.proofs.Ranked.{last_asked}
use Rattle.bilv_top.proofs.asked.rank_asked.Goals as goal

pub returns-in-Script-clause-rank : goal.returns-in-Script-clause-rank
returns-in-Script-clause-rank c w same =
    subst (λ (t : FrameTask). IfOk c.rank_named.result (λ o. o ≡ asked_rank w (frame_named t))) (sym c.in-Script.is) (c.rank_named.ensures.rank w same)

pub returns-in-Certificate-clause-rank : goal.returns-in-Certificate-clause-rank
returns-in-Certificate-clause-rank c w same =
    subst (λ (t : FrameTask). IfOk c.rank_named-in-Certificate.result (λ o. o ≡ asked_rank w (frame_named t))) (sym c.in-Certificate.is)
    (c.rank_named-in-Certificate.ensures.rank w same)

pub returns-in-Report-clause-rank : goal.returns-in-Report-clause-rank
returns-in-Report-clause-rank c w same =
    subst (λ (t : FrameTask). Some (length c.args.contracts.now) ≡ asked_rank w (frame_named t)) (sym c.in-Report.is) (last_asked c.args.contracts.now w same)

pub returns-in-Graph-clause-rank : goal.returns-in-Graph-clause-rank
returns-in-Graph-clause-rank c w same =
    subst (λ (t : FrameTask). Some (length c.args.contracts.now) ≡ asked_rank w (frame_named t)) (sym c.in-Graph.is) (last_asked c.args.contracts.now w same)

pub returns-in-Replay-clause-rank : goal.returns-in-Replay-clause-rank
returns-in-Replay-clause-rank c w same =
    subst (λ (t : FrameTask). Some (length c.args.contracts.now) ≡ asked_rank w (frame_named t)) (sym c.in-Replay.is) (last_asked c.args.contracts.now w same)
