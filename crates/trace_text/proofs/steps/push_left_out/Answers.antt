use Rattle.trace_text.proofs.Growing.{left_pieces}
use Rattle.trace_text.proofs.steps.push_left_out.Goals as goal

pub returns : goal.returns
returns c =
    left_pieces c.args.count c.args.out.now.items _ _ _ c.if-count-eq0.false c.in_ok-push_text.ensures c.in_ok-push_number.ensures c.in_ok-push_text-2.ensures
