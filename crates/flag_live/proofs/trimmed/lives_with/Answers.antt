use Rattle.std.proofs.Common.{map}
use Rattle.notes_value.specs.FrameViews.{contract_of}
use Rattle.flag_live.specs.Asked.{ensuring}
use Rattle.flag_live.proofs.Besides.{asked_rising, lives_of_none}
use Rattle.flag_live.proofs.trimmed.lives_with.Goals as goal

pub returns-then-is_empty : goal.returns-then-is_empty
returns-then-is_empty c = λ rising.
    lives_of_none c.args.contracts.now c.is_empty.result (ensuring c.args.graph.now c.args.ensured) c.in_ok-live.live c.is_empty.ensures
    c.if-is_empty.true (c.in_ok-live.ensures rising)

pub returns : goal.returns
returns c = λ rising. record {
  asked = c.in_ok-asked.asked;
  is = c.in_ok-asked.ensures;
  are =
      c.in_ok-live-2.ensures
      (asked_rising (map contract_of c.args.contracts.now) (ensuring c.args.graph.now c.args.ensured) c.in_ok-asked.asked c.in_ok-asked.ensures rising);
}
