use Rattle.std.proofs.Common.{map, sym, subst}
use Rattle.frame_spec.specs.Frames.{contract_at}
use Rattle.notes_value.specs.FrameViews.{contract_of}
use Rattle.table_run.specs.CalledFrames.{frame_in}
use Rattle.table_run.specs.Watching.{AreLow, places_at}
use Rattle.table_run.specs.declared.called_turns.Stand.{Stand}
use Rattle.table_run.proofs.Watching.{low_by}
use Rattle.table_run.proofs.observers.look_at.Goals as goal

pub returns-in_ok-found-in-Contract-clause-low : goal.returns-in_ok-found-in-Contract-clause-low
returns-in_ok-found-in-Contract-clause-low g c =
    let s = g.M.State.View.view c.args.state.now in
    let f = frame_in c.args.frame.now in
    subst (λ (z : Stand). AreLow (places_at z f s)) (sym c.in-Contract.is)
    (low_by (contract_at (map contract_of c.args.frame.now.stepped.now) s.pc) f s)
