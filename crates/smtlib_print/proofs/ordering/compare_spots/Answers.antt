use Rattle.std.proofs.Common.{sym, ap, ◌∙◌, length}
use Rattle.std.specs.Ordering.{ordering_then}
use Rattle.program_points.specs.Tables.{stack_at}
use Rattle.smtlib_print.specs.Orders.{stack_order}
use Rattle.smtlib_print.proofs.Compared.{depths_compared, stacks_decide}
use Rattle.smtlib_print.proofs.ordering.compare_spots.Goals as goal

pub returns-in-Equal : goal.returns-in-Equal
returns-in-Equal c =
    let frames = c.args.frames.now in
    let s = stack_at frames c.args.x.stack in
    let t = stack_at frames c.args.y.stack in
    c.then.ensures ∙ ap (λ o. ordering_then o c.cmp-in-Equal.result) c.compare_stacks.ensures
    ∙ ap (λ o. ordering_then (stack_order s t) o) c.cmp-in-Equal.ensures
    ∙ stacks_decide s c.args.x.at t c.args.y.at
    (sym (c.cmp.ensures ∙ depths_compared c.depth.result c.depth-2.result (length s) (length t) (c.depth.ensures ∙ c.requires c.args.x.stack)
    (c.depth-2.ensures ∙ c.requires c.args.y.stack)) ∙ c.in-Equal.is)
