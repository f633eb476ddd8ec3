use Rattle.command_line.specs.Commands.{budget_of}
use Rattle.links_lang.specs.Views.{links_of}
use Rattle.pair_sides.specs.Sides.{program_of_side, side_of}
use Rattle.bilv_top.specs.Answers.{answer_of}
use Rattle.bilv_top.proofs.PairReported.{pair_reported}
use Rattle.bilv_top.proofs.equal.equal.Goals as goal

pub returns : goal.returns
returns c =
    let first = c.args.first.now in
    let second = c.args.second.now in
    pair_reported (side_of first) (side_of second) (links_of c.args.links.now) (budget_of c.args.budget)
    c.in_ok-verdict.verdict (answer_of c.in_ok-answer.answer) c.in_ok-verdict.ensures
    (c.in_ok-answer.ensures (program_of_side first) (program_of_side second))
