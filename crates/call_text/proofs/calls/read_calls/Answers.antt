use Rattle.call_text.specs.Texts.{changes_at}
use Rattle.call_text.proofs.calls.read_calls.Goals as goal

pub returns-in-Err-clause-refused : goal.returns-in-Err-clause-refused
returns-in-Err-clause-refused c = c.in-Err.ensures.refused (changes_at c.args.contracts.now) 0
