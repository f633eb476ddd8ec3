use Rattle.std.proofs.lemmas.Result.{IfOk-weaker}
use Rattle.bilv_top.specs.Answers.{answer_of}
use Rattle.call_form.specs.Views.{frame_question}
use Rattle.command_line.specs.Commands.{budget_of}
use Rattle.bilv_top.proofs.Verdicts.{exceeded_framed, conflicts_framed, satisfiable_framed, refuted_framed, exceeded_said, conflicts_said, satisfiable_said, refuted_said}
use Rattle.bilv_top.proofs.certify.say_frame.Goals as goal

pub returns-in-Exceeded-clause-framed : goal.returns-in-Exceeded-clause-framed
returns-in-Exceeded-clause-framed c =
    IfOk-weaker c.beyond.result _ _
    (λ a is w came. exceeded_framed w c.args.rank (budget_of c.args.budget) (frame_question c.args.question) (answer_of a) c.in-Exceeded.past is
    (rw c.in-Exceeded.is at came)) c.beyond.ensures

pub returns-in-Conflicts-clause-framed : goal.returns-in-Conflicts-clause-framed
returns-in-Conflicts-clause-framed c =
    IfOk-weaker c.exceeded.result _ _
    (λ a is w came. conflicts_framed w c.args.rank (budget_of c.args.budget) (frame_question c.args.question) (answer_of a) c.in-Conflicts.proof is
    (rw c.in-Conflicts.is at came)) c.exceeded.ensures

pub returns-in-Satisfiable-clause-framed : goal.returns-in-Satisfiable-clause-framed
returns-in-Satisfiable-clause-framed c =
    IfOk-weaker c.answer.result _ _
    (λ a is w came. satisfiable_framed w c.args.rank (budget_of c.args.budget) (frame_question c.args.question) (answer_of a) is
    (rw c.in-Satisfiable.is at came)) c.answer.ensures

pub returns-in-Refuted-clause-framed : goal.returns-in-Refuted-clause-framed
returns-in-Refuted-clause-framed c =
    IfOk-weaker c.print_proof.result _ _
    (λ a is w came. refuted_framed w c.args.rank (budget_of c.args.budget) (frame_question c.args.question) (answer_of a) c.in-Refuted.proof is
    (rw c.in-Refuted.is at came)) c.print_proof.ensures

pub returns-in-Exceeded-clause-plain : goal.returns-in-Exceeded-clause-plain
returns-in-Exceeded-clause-plain c =
    IfOk-weaker c.beyond.result _ _
    (λ a is p kind asked came. exceeded_said p (budget_of c.args.budget) kind (answer_of a) c.in-Exceeded.past is (rw c.in-Exceeded.is at came))
    c.beyond.ensures

pub returns-in-Conflicts-clause-plain : goal.returns-in-Conflicts-clause-plain
returns-in-Conflicts-clause-plain c =
    IfOk-weaker c.exceeded.result _ _
    (λ a is p kind asked came. conflicts_said p (budget_of c.args.budget) kind (answer_of a) c.args.rank (frame_question c.args.question)
    c.in-Conflicts.proof asked is (rw c.in-Conflicts.is at came)) c.exceeded.ensures

pub returns-in-Satisfiable-clause-plain : goal.returns-in-Satisfiable-clause-plain
returns-in-Satisfiable-clause-plain c =
    IfOk-weaker c.answer.result _ _
    (λ a is p kind asked came. satisfiable_said p (budget_of c.args.budget) kind (answer_of a) is (rw c.in-Satisfiable.is at came)) c.answer.ensures

pub returns-in-Refuted-clause-plain : goal.returns-in-Refuted-clause-plain
returns-in-Refuted-clause-plain c =
    IfOk-weaker c.print_proof.result _ _
    (λ a is p kind asked came. refuted_said p (budget_of c.args.budget) kind (answer_of a) c.in-Refuted.proof is (rw c.in-Refuted.is at came))
    c.print_proof.ensures
