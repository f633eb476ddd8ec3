use Rattle.pair_verdict.proofs.WordsOfStates.{same_pushed}
use Rattle.pair_verdict.proofs.exits.push_words.Goals as goal

pub returns-in_ok-push_bytes-in-Same : goal.returns-in_ok-push_bytes-in-Same
returns-in_ok-push_bytes-in-Same g c =
    same_pushed c.args.second (g.S.View.view c.args.state.now) c.args.link c.in-Same.line c.in-Same.low c.in-Same.high c.args.words.now.items
    c.push_bytes.new.words.items c.in-Same.is c.in_ok-push_bytes-in-Same.ensures
