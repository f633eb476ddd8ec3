use Rattle.std.proofs.Common.{sym, ap, ◌∙◌, arith}
use Rattle.pair_verdict.specs.PairRounds.{broken_in}
use Rattle.pair_verdict.proofs.Meant.{broken_by, shown_by, some_broken, some_points}
use Rattle.pair_verdict.proofs.rounds.judge_values.Goals as goal

pub start_by-requires-clause-some : goal.start_by-requires-clause-some
start_by-requires-clause-some c = some_points c.args.first.celled c.args.values.now c.args.sides.now.first_passive.now c.requires.first

pub start_by-requires-in-Shown-two-clause-some : goal.start_by-requires-in-Shown-two-clause-some
start_by-requires-in-Shown-two-clause-some c =
    some_points c.args.second.celled c.args.later.now c.args.sides.now.second_passive.now c.requires.second

pub returns-in-Shown-two : goal.returns-in-Shown-two
returns-in-Shown-two c = (
  shown_by c.args.first.celled c.args.values.now c.args.sides.now.first_passive.now c.requires.first c.in_ok-one.one c.in-Shown.shown c.in_ok-one.ensures
      c.in-Shown.is c.in_ok-first-in-Shown-two.first c.in_ok-first-in-Shown-two.ensures,
  shown_by c.args.second.celled c.args.later.now c.args.sides.now.second_passive.now c.requires.second c.in_ok-two.two c.in-Shown-two.other
      c.in_ok-two.ensures c.in-Shown-two.is c.in_ok-second-in-Shown-two.second c.in_ok-second-in-Shown-two.ensures,
)

pub returns-in-Shown : goal.returns-in-Shown
returns-in-Shown c = (
  broken_by c.args.first.celled c.args.values.now c.args.sides.now.first_passive.now c.requires.first c.in_ok-one.one c.in_ok-one.ensures
      c.new.result.items (c.new.ensures.items ∙ sym (ap broken_in c.in-Shown.is)),
  broken_by c.args.second.celled c.args.later.now c.args.sides.now.second_passive.now c.requires.second c.in_ok-two.two c.in_ok-two.ensures
      c.in-Broken-two.broken.items (sym (ap broken_in c.in-Broken-two.is)),
  (let some = some_broken c.args.second.celled c.args.later.now c.args.sides.now.second_passive.now c.requires.second c.in_ok-two.two
      c.in-Broken-two.broken c.in_ok-two.ensures c.in-Broken-two.is in omega (arith, some)),
)

pub returns : goal.returns
returns c = (
  broken_by c.args.first.celled c.args.values.now c.args.sides.now.first_passive.now c.requires.first c.in_ok-one.one c.in_ok-one.ensures
      c.in-Broken.broken.items (sym (ap broken_in c.in-Broken.is)),
  broken_by c.args.second.celled c.args.later.now c.args.sides.now.second_passive.now c.requires.second c.in_ok-two.two c.in_ok-two.ensures
      c.broken_of.result.items c.broken_of.ensures,
  (let some = some_broken c.args.first.celled c.args.values.now c.args.sides.now.first_passive.now c.requires.first c.in_ok-one.one c.in-Broken.broken
      c.in_ok-one.ensures c.in-Broken.is in omega (arith, some)),
)
