use Rattle.program_value.specs.Programs.{program_of}
use Rattle.verdict.proofs.Grounding.{function_is_read}
use Rattle.start_value.specs.Starts.{written_of}
use Rattle.model_verdict.specs.Models.{filler, listed}
use Rattle.model_verdict.proofs.Endings.{fails_somehow, failed_shown}
use Rattle.model_verdict.proofs.Findings.{model_state, takes_choices}
use Rattle.call_spec.specs.Calls.{FailQuestion}
use Rattle.model_verdict.proofs.accepting.failed.Goals as goal

pub unreachable-requires : goal.unreachable-requires
unreachable-requires g c =
    let p = program_of c.args.program.now in
    let k = c.args.budget.now.unroll in
    let w = written_of c.args.start in
    let fill = filler c.args.memory.now in
    let bytes = listed c.args.memory.now in
    let r = c.requires.some.0 in
    let by = c.requires.some.1 in
    fails_somehow p g.M.Machine.form k c.args.budget.now.points r c.in_ok-traced.traced
    (c.in_ok-traced.ensures r (model_state p k g.M.Machine.form FailQuestion w fill bytes r by.start)
    (takes_choices p k g.M.Machine.form FailQuestion w fill bytes r by.start by.choices)) w fill bytes by c.in_default.not-Failed

pub returns : goal.returns
returns g c =
    let p = program_of c.args.program.now in
    let k = c.args.budget.now.unroll in
    let w = written_of c.args.start in
    let fill = filler c.args.memory.now in
    let bytes = listed c.args.memory.now in
    λ r by. failed_shown p g.M.Machine.form k c.args.budget.now.points r c.in_ok-traced.traced
    (c.in_ok-traced.ensures r (model_state p k g.M.Machine.form FailQuestion w fill bytes r by.start)
    (takes_choices p k g.M.Machine.form FailQuestion w fill bytes r by.start by.choices)) w fill bytes c.requires.lawful
    (function_is_read c.args.program.now g.met.M.Machine.lawful) c.with_bytes.result c.with_bytes.ensures by c.in-Failed.event
    c.in-Failed.at c.in-Failed.step c.in-Failed.is
