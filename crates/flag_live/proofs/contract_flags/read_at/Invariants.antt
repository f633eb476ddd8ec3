use Rattle.std.proofs.Common.{◌≡◌, map, drop}
use Rattle.frame_spec.specs.Frames.{contract_at}
use Rattle.notes_value.specs.FrameViews.{contract_of}
use Rattle.flag_live.proofs.contract_flags.read_at.Given as goal

abbrev pub invariant-loop-contract : goal.invariant-loop-contract
invariant-loop-contract l =
    contract_at (map contract_of (drop l.contract-index l.contracts)) l.at ≡ contract_at (map contract_of l.contracts) l.at
