use Rattle.notes_lang.specs.Scoping.{scope_of}
use Rattle.notes_lang.proofs.Lists.{not_numbers, numbers_next, good_at}
use Rattle.notes_lang.proofs.sayings.numbers.Goals as goal

pub returns-in_default : goal.returns-in_default
returns-in_default c = not_numbers (scope_of c.args.scope) c.args.tokens.now c.loop-token.token-index _ c.loop-token-test.true c.in_default.ensures

pub number-requires : goal.number-requires
number-requires c = (good_at c.args.tokens.now c.loop-token.token-index _ c.loop-token-test.true c.requires).0

pub loop-token-preserved : goal.loop-token-preserved
loop-token-preserved c =
    numbers_next (scope_of c.args.scope) c.args.tokens.now c.loop-token.token-index _ c.loop-token.numbers.items _ c.in-Some.n c.loop-token-test.true
    c.loop-token.invariant c.in-Some.ensures c.in_ok-push.ensures.items
