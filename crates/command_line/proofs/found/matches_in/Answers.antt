use Rattle.std.proofs.Common.{ap, inl, inr}
use Rattle.clap.specs.Walk.{is_empty}
use Rattle.command_line.proofs.Faults.{some_fault}
use Rattle.command_line.proofs.found.matches_in.Goals as goal

pub returns-in-Ok-clause-ok : goal.returns-in-Ok-clause-ok
returns-in-Ok-clause-ok c =
    let found = c.in-Ok.ensures.matches c.requires.simple in (ap is_empty (c.in-Ok.ensures.kinds c.requires.free), found.0, found.1)

pub returns-in-Err-clause-usage : goal.returns-in-Err-clause-usage
returns-in-Err-clause-usage c usage =
    elim (c.in-Err.ensures.kinds c.requires.free) [
      | inl memory ↦
          let other = c.line_error.ensures.memory memory in
          cc
      | inr among ↦ some_fault _ _ among
    ]
