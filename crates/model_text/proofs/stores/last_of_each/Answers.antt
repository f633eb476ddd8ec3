use Rattle.std.proofs.Common.{ℕ, List, ◌++◌, ◌+◌, sym, ap, ◌∙◌, drop, Vec, Global}
use Rattle.model_text.specs.Stores.{last_of_each}
use Rattle.model_text.proofs.Stored.{one_kept, one_left}
use Rattle.model_text.proofs.stores.last_of_each.Goals.{then-is_last+in_ok-push, else-is_last}
use Rattle.model_text.proofs.stores.last_of_each.Goals as goal

pub loop-place-preserved : goal.loop-place-preserved
loop-place-preserved c = elim c.if-is_last.branch [
  | then-is_last+in_ok-push w ↦ ap (λ (v : List (ℕ × ℕ)). v ++ last_of_each (drop (c.loop-place.place + 1) c.args.stores.now))
      (ap (λ (v : Vec (ℕ × ℕ) Global). v.items) w.last-is ∙ w.in_ok-push.ensures.items)
      ∙ one_kept c.args.stores.now c.loop-place.last.items c.loop-place.place (0, 0) c.loop-place-test.true (sym c.is_last.ensures ∙ w.if-is_last.true)
      c.loop-place.invariant
  | else-is_last w ↦ ap (λ (v : Vec (ℕ × ℕ) Global). v.items ++ last_of_each (drop (c.loop-place.place + 1) c.args.stores.now)) w.last-is
      ∙ one_left c.args.stores.now c.loop-place.last.items c.loop-place.place c.loop-place-test.true (sym c.is_last.ensures ∙ w.if-is_last.false)
      c.loop-place.invariant
]
