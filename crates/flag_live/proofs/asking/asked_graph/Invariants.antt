use Rattle.std.proofs.Common.{map, take}
use Rattle.std.specs.List.{AllZip}
use Rattle.notes_value.specs.FrameViews.{contract_of}
use Rattle.flag_live.specs.Contracted.{IsAsked}
use Rattle.flag_live.proofs.asking.asked_graph.Given as goal

abbrev pub invariant-loop-i : goal.invariant-loop-i
invariant-loop-i l = AllZip (IsAsked (map contract_of l.contracts)) (take l.i l.graph.nodes.items) l.nodes.items
