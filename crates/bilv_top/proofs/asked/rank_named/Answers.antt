use Rattle.std.proofs.Common.{◌∙◌, ℕ, ap, sym, List}
use Rattle.std.proofs.lemmas.Result.{IfOk-weaker}
use Rattle.answer_spec.specs.FrameAnswers.{contract_rank, number_word}
use Rattle.frame_spec.specs.Frames.{Contract}
use Rattle.bilv_top.proofs.Ranked.{last_asked}
use Rattle.bilv_top.proofs.asked.rank_named.Goals as goal

pub returns-in-None-clause-rank : goal.returns-in-None-clause-rank
returns-in-None-clause-rank c w same = rw c.in-None.is (last_asked c.args.contracts.now w same)

pub returns-in-Some-clause-rank : goal.returns-in-Some-clause-rank
returns-in-Some-clause-rank c w same =
    rw c.in-Some.is
    (IfOk-weaker c.rank_of_word.result _ _
    (λ o is. is ∙ ap (λ (cs : List Contract). contract_rank cs (number_word c.as_bytes.result.now)) (sym same)
    ∙ ap (λ (b : List ℕ). contract_rank w.contracts (number_word b)) c.as_bytes.ensures.value) c.rank_of_word.ensures.rank)
