use Rattle.std.proofs.Common.{refl, Some}
use Rattle.std.specs.Vec.{with_item}
use Rattle.passify.proofs.Pushed.{Arrived, Placed, met_bit, arrived_steps, arrived_hands}
use Rattle.passify.proofs.sweep.arrive.Goals as goal

pub either-requires-clause-left : goal.either-requires-clause-left
either-requires-clause-left c =
    (met_bit c.args.dag.now c.joined.new.dag c.args.sweep.now c.args.place c.index-met.result.now c.index-met.result.now _ _ _ _ _ c.requires.well
    c.requires.place c.index-met.ensures c.in_ok-state.ensures.grew).1

arrived : (c : goal.Joined-index_mut) → Arrived c.args.dag.now c.joined.new.dag c.either.new.dag c.args.sweep.now c.args.place c.args.hit.0 c.args.names.now
    c.in_ok-state.state c.index-met.result.now c.in_ok-sweep.field-0 c.index.result.now
arrived c = record {
  well = c.requires.well;
  place = c.requires.place;
  within = c.requires.hit.0;
  names = c.requires.names;
  met = c.index-met.ensures;
  state = c.index.ensures;
  joined = c.in_ok-state.ensures;
  made = c.in_ok-sweep.ensures;
}

placed : (c : goal.Joined-index_mut) → Placed c.args.sweep.now
    (record c.args.sweep.now {
      met = with_item c.args.sweep.now.met c.args.place c.in_ok-sweep.field-0;
      states = with_item c.args.sweep.now.states c.args.place
          (Some c.in_ok-state.state);
    }) c.args.place c.in_ok-sweep.field-0 c.in_ok-state.state
placed c = record { within = c.requires.place; entry = refl; pc = refl; at = refl; met = refl; states = refl; fails = refl; steps = refl; turns = refl; own = refl }

pub returns-clause-steps : goal.returns-clause-steps
returns-clause-steps c = arrived_steps _ _ _ _ _ _ _ _ _ _ _ _ (arrived c) (placed c)

pub returns-clause-hands : goal.returns-clause-hands
returns-clause-hands c = arrived_hands _ _ _ _ _ _ _ _ _ _ _ _ (arrived c) (placed c)
