use Rattle.std.proofs.Common.{◌≡◌, ◌-◌}
use Rattle.frame_spec.specs.Frames.{Frame}
use Rattle.notes_value.specs.FrameViews.{contract_of}
use Rattle.table_run.specs.CalledFrames.{registers_differ}
use Rattle.table_run.proofs.changes.registers_differ.Given as goal

abbrev pub invariant-loop-r : goal.invariant-loop-r
invariant-loop-r g l = (f : Frame) → f.program.machine ≡ g.M.Machine.machine →
    registers_differ f (contract_of l.contract) (g.M.State.View.view l.entry) (g.M.State.View.view l.state) l.r (32 - l.r)
    ≡ registers_differ f (contract_of l.contract) (g.M.State.View.view l.entry) (g.M.State.View.view l.state) 0 32
