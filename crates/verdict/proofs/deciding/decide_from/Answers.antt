use Rattle.verdict.proofs.Headless.{decided}
use Rattle.verdict.proofs.deciding.decide_from.Goals as goal

pub returns : goal.returns
returns c =
    decided c.args.passive.now c.args.kind c.of_program-asked.result c.args.conflicts c.args.first.items _ c.told.result c.requires.decidable
    c.of_program-asked.ensures c.in_ok-answered.ensures c.told.ensures
