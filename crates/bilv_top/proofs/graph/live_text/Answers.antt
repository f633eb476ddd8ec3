use Rattle.program_value.specs.Programs.{program_of}
use Rattle.bilv_spec.specs.Run.{Program}
use Rattle.flag_live.proofs.FlagSets.{no_flags}
use Rattle.bilv_top.proofs.graph.live_text.Goals as goal

pub returns : goal.returns
returns g c =
    let p : Program = program_of c.args.program.now in
    c.in_ok-text.ensures.text p (c.in_ok-live.ensures.graph p no_flags c.in_ok-whole.ensures.graph)
    (c.in_ok-live.ensures.live p c.no_contracts.ensures no_flags c.in_ok-whole.ensures.graph)
