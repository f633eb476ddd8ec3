use Rattle.notes_lang.specs.Scoping.{scope_of}
use Rattle.notes_lang.proofs.Lists.{not_changed, changed_next}
use Rattle.notes_lang.proofs.sayings.changes.Goals as goal

pub returns-in_default : goal.returns-in_default
returns-in_default c = not_changed (scope_of c.args.scope) c.args.tokens.now c.loop-token.token-index _ c.loop-token-test.true c.in_default.ensures

pub loop-token-preserved : goal.loop-token-preserved
loop-token-preserved c =
    changed_next (scope_of c.args.scope) c.args.tokens.now c.loop-token.token-index _ c.loop-token.changes.items _ c.in-Some.changed c.loop-token-test.true
    c.loop-token.invariant c.in-Some.ensures c.in_ok-push.ensures.items
