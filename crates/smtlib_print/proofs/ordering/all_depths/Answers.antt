use Rattle.std.proofs.Common.{◌∷◌, ◌++◌, [], ap, ◌∙◌, arith}
use Rattle.smtlib_print.proofs.Depths.{depths_done, depths_first}
use Rattle.smtlib_print.proofs.ordering.all_depths.Goals as goal

pub loop-place-init : goal.loop-place-init
loop-place-init c =
    depths_first c.args.frames.now c.push.new.self.items (c.in_ok-push.ensures.items ∙ ap (λ l. l ++ 0 ∷ []) c.new-found.ensures.items)

pub returns : goal.returns
returns c = depths_done c.args.frames.now c.loop-place.place c.loop-place.found.items (omega arith) c.loop-place.invariant
