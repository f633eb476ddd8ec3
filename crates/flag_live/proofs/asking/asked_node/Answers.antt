use Rattle.std.proofs.Common.{map, refl}
use Rattle.notes_value.specs.FrameViews.{contract_of}
use Rattle.flag_live.proofs.Besides.{asked_is}
use Rattle.flag_live.proofs.asking.asked_node.Goals as goal

pub returns : goal.returns
returns c =
    asked_is (map contract_of c.args.contracts.now) c.args.node.now c.in_ok-asked.asked _ c.read_at.result c.in_ok-asked.ensures.same c.read_at.ensures
    (record {
      at = refl;
      length = refl;
      fetchable = refl;
      word = refl;
      successors = refl;
      returns = refl;
      links = refl;
      flags = refl;
      asserted = refl;
    }) refl
