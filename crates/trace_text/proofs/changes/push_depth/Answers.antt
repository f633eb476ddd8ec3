use Rattle.trace_text.proofs.Growing.{call_pieces, return_pieces}
use Rattle.trace_text.proofs.changes.push_depth.Goals as goal

pub returns-then-before-after : goal.returns-then-before-after
returns-then-before-after c =
    call_pieces c.args.before c.args.after c.args.out.now.items _ _ c.if-before-after.true c.in_ok-push_text.ensures c.in_ok-push_number.ensures

pub returns-then-after-before : goal.returns-then-after-before
returns-then-after-before c =
    return_pieces c.args.before c.args.after c.args.out.now.items _ _ c.if-after-before.true c.in_ok-push_text-2.ensures c.in_ok-push_number-2.ensures
