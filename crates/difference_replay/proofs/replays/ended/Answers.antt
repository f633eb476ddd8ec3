use Rattle.std.proofs.Common.{◌∙◌}
use Rattle.table_run.specs.Endings.{found_of}
use Rattle.pair_sides.specs.Sides.{program_of_side}
use Rattle.difference_replay.specs.Named.{named_of}
use Rattle.difference_replay.specs.Sides.{start_of_side}
use Rattle.difference_replay.specs.Texts.{word_of}
use Rattle.difference_replay.proofs.Judged.{end_is}
use Rattle.difference_replay.proofs.replays.ended.Goals as goal

pub returns : goal.returns
returns c =
    c.in_ok-replay.ensures
    ∙ end_is (word_of c.args.half) (program_of_side c.args.side.now) (start_of_side c.args.side.now c.args.start.now) c.args.number (named_of c.args.named)
    (found_of c.in_ok-ending.ending) c.in_ok-ending.ensures
