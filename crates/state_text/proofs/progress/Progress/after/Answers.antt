use Rattle.std.proofs.Common.{ap}
use Rattle.state_text.specs.Lines.{line_said}
use Rattle.state_text.proofs.Judging.{byte_next, choice_next}
use Rattle.state_text.proofs.progress.Progress.after.Goals as goal

pub returns-in-Byte-clause-behind : goal.returns-in-Byte-clause-behind
returns-in-Byte-clause-behind c layout before h e =
    byte_next layout before c.args.self (line_said c.args.line) c.in-Byte.at c.in-Byte.value (ap line_said c.in-Byte.is) h e

pub returns-in-Choice-clause-behind : goal.returns-in-Choice-clause-behind
returns-in-Choice-clause-behind c layout before h e =
    choice_next layout before c.args.self (line_said c.args.line) c.in-Choice.step c.in-Choice.choice (ap line_said c.in-Choice.is) h e
