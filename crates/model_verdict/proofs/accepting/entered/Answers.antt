use Rattle.call_spec.specs.Calls.{EntryQuestion}
use Rattle.start_value.specs.Starts.{written_of}
use Rattle.program_value.specs.Programs.{program_of}
use Rattle.model_verdict.specs.Models.{filler, listed}
use Rattle.model_verdict.proofs.Endings.{entry_shown}
use Rattle.model_verdict.proofs.Findings.{model_state}
use Rattle.model_verdict.proofs.accepting.entered.Goals as goal

pub returns : goal.returns
returns g c =
    let p = program_of c.args.program.now in
    let w = written_of c.args.start in
    let fill = filler c.args.memory.now in
    let bytes = listed c.args.memory.now in
    λ k r by. entry_shown p g.M.Machine.form k w fill bytes r c.with_bytes.result c.in_ok-bytes.bytes.items by c.requires.none
    (rw (c.fill_of.ensures, c.listed_of.ensures) at (c.in_ok-bytes.ensures.bytes k r) (model_state p k g.M.Machine.form EntryQuestion w fill bytes r by))
    c.in_ok-bytes.ensures.rising c.with_bytes.ensures
