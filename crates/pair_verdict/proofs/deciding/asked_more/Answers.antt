use Rattle.std.proofs.Common.{sym, subst, arith, ℕ, List}
use Rattle.std.proofs.lemmas.Bool.Decides.{nat_tests}
use Rattle.question_form.specs.Questions.{program_of_question}
use Rattle.pair_verdict.specs.PairRounds.{AreNew}
use Rattle.pair_verdict.proofs.SidesDecided.{further_of}
use Rattle.pair_verdict.proofs.deciding.asked_more.Goals as goal

pub asked_next-requires-clause-broken : goal.asked_next-requires-clause-broken
asked_next-requires-clause-broken c =
    further_of (program_of_question c.args.question.now) c.deref.result.now c.args.broken.now
    (subst (λ (z : List ℕ). AreNew (program_of_question c.args.question.now) z c.args.broken.now) (sym c.deref.ensures.value) c.requires.broken)
    (let is = c.is_empty.ensures in let not = c.if-is_empty.false in grind (arith, is, not, nat_tests))
