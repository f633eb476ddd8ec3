use Rattle.std.proofs.Common.{◌≡◌, ◌<◌, ◌||◌, ℕ, map, drop}
use Rattle.std.specs.List.{list_any}
use Rattle.notes_spec.specs.FrameNotes.{is_flag}
use Rattle.notes_value.specs.FrameViews.{is_in}
use Rattle.notes_lang.specs.Scoping.{changed_of}
use Rattle.notes_lang.proofs.contracts.flags_with.Given as goal

-- with the changes that are left, the set is what it is to be
abbrev pub invariant-loop-change : goal.invariant-loop-change
invariant-loop-change l =
    (n : ℕ) → n < 4 →
    (is_in l.all n || list_any (is_flag n) (map changed_of (drop l.change-index l.changes))) ≡
    (is_in l.set n || list_any (is_flag n) (map changed_of l.changes))
