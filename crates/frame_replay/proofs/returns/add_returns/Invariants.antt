use Rattle.std.proofs.Common.{◌≡◌, ℕ, drop}
use Rattle.std.specs.Prelude.{◌||◌}
use Rattle.std.specs.List.{list_any}
use Rattle.frame_replay.specs.Readings.{is_among}
use Rattle.frame_replay.specs.Returns.{returns_to}
use Rattle.frame_replay.proofs.returns.add_returns.Given as goal

abbrev pub invariant-loop-successor : goal.invariant-loop-successor
invariant-loop-successor l = (a : ℕ) → (is_among l.found.items a || list_any (returns_to a) (drop l.successor-index l.successors))
    ≡ (is_among l.fn.found.items a || list_any (returns_to a) l.successors)
