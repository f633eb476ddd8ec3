use Rattle.question_form.specs.Views.{kind_of, unrolled_of}
use Rattle.asked_bytes.proofs.Adding.{added_none}
use Rattle.verdict.proofs.Adding.{of_decided}
use Rattle.verdict.proofs.deciding.decide.Goals as goal

pub decide_from-requires-clause-first : goal.decide_from-requires-clause-first
decide_from-requires-clause-first c = added_none (unrolled_of c.args.passive.now.unrolled.now).known c.new-none.result.items c.new-none.ensures.items

pub returns : goal.returns
returns c =
    of_decided (unrolled_of c.args.passive.now.unrolled.now) (kind_of c.args.kind) c.args.conflicts c.new-none.result.items c.in_ok-decided.decided
    c.in_ok-decided.ensures
