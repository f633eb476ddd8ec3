use Rattle.pair_spec.proofs.ExitPlaces.{exit_place_rooms}
use Rattle.pair_spec.proofs.pairs.exit_place_rooms.Goals as goal

pub returns : goal.returns
returns c = exit_place_rooms
