use Rattle.weakest_pre.proofs.Entries.{place_step}
use Rattle.weakest_pre.proofs.entry.is_at_place.Goals as goal

pub returns : goal.returns
returns c = place_step c.args.narrow _ c.from-hi.ensures _ _ _ _ _ _ _ _ c.requires.word.0 c.in_ok-low.ensures c.in_ok-zero.ensures c.in_ok-bit.ensures
