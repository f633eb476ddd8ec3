use Rattle.program_value.specs.Programs.{program_of}
use Rattle.verdict.proofs.Grounding.{function_is_read}
use Rattle.start_value.specs.Starts.{written_of}
use Rattle.model_verdict.specs.Models.{filler, listed}
use Rattle.model_verdict.proofs.Endings.{turns_somehow, turned_shown}
use Rattle.model_verdict.proofs.Findings.{model_state, takes_choices}
use Rattle.call_spec.specs.Calls.{TurnQuestion}
use Rattle.model_verdict.proofs.accepting.turned.Goals as goal

pub unreachable-requires : goal.unreachable-requires
unreachable-requires g c =
    let p = program_of c.args.program.now in
    let k = c.args.budget.now.unroll in
    let w = written_of c.args.start in
    let fill = filler c.args.memory.now in
    let bytes = listed c.args.memory.now in
    let r = c.requires.some.0 in
    let by = c.requires.some.1 in
    turns_somehow p g.M.Machine.form k c.args.budget.now.points r c.in_ok-traced.traced
    (c.in_ok-traced.ensures r (model_state p k g.M.Machine.form TurnQuestion w fill bytes r by.start)
    (takes_choices p k g.M.Machine.form TurnQuestion w fill bytes r by.start by.choices)) w fill bytes by c.in_default.not-Turned

pub returns : goal.returns
returns g c =
    let p = program_of c.args.program.now in
    let k = c.args.budget.now.unroll in
    let w = written_of c.args.start in
    let fill = filler c.args.memory.now in
    let bytes = listed c.args.memory.now in
    λ r by. turned_shown p g.M.Machine.form k c.args.budget.now.points r c.in_ok-traced.traced
    (c.in_ok-traced.ensures r (model_state p k g.M.Machine.form TurnQuestion w fill bytes r by.start)
    (takes_choices p k g.M.Machine.form TurnQuestion w fill bytes r by.start by.choices)) w fill bytes c.requires.lawful
    (function_is_read c.args.program.now g.met.M.Machine.lawful) c.with_bytes.result c.with_bytes.ensures by
    c.in-Turned.at c.in-Turned.step c.in-Turned.is
