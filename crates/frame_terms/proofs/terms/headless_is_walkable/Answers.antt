use Rattle.frame_terms.proofs.HeadlessWalkable.{headless_is_walkable}
use Rattle.frame_terms.proofs.terms.headless_is_walkable.Goals as goal

pub returns : goal.returns
returns c = headless_is_walkable
