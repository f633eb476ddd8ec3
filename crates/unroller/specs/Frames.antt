-- The frame of a program, with what makes it a frame.
use Rattle.std.specs.Prelude.{true, map, option_map}
use Rattle.bilv_spec.specs.Run.{Program}
use Rattle.frame_spec.specs.Frames.{Frame}
use Rattle.notes_value.specs.FrameViews.{contract_of}
use Rattle.unroller.specs.declared.unrolling.FrameParts.{FrameParts}

-- Its runs are cut at its heads, its calls of some contracts are stepped over, and it may be the frame of a contract.
abbrev pub parts_frame : {M I S : _} {m : _} {v : _} → Program → FrameParts M I S m v → Frame
parts_frame p parts = record {
  program = p;
  invariants = parts.invariants.now;
  cuts = true;
  stepped = map contract_of parts.stepped.now;
  own = option_map (λ x. contract_of x.now) parts.own;
}
