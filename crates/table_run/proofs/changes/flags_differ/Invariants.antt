use Rattle.std.proofs.Common.{◌≡◌, ◌-◌}
use Rattle.frame_spec.specs.Frames.{Frame}
use Rattle.notes_value.specs.FrameViews.{contract_of}
use Rattle.table_run.specs.CalledFrames.{flags_differ}
use Rattle.table_run.proofs.changes.flags_differ.Given as goal

abbrev pub invariant-loop-n : goal.invariant-loop-n
invariant-loop-n g l = (f : Frame) → f.program.machine ≡ g.M.Machine.machine →
    flags_differ f (contract_of l.contract) (g.M.State.View.view l.entry) (g.M.State.View.view l.state) l.n (4 - l.n)
    ≡ flags_differ f (contract_of l.contract) (g.M.State.View.view l.entry) (g.M.State.View.view l.state) 0 4
