use Rattle.frame_start.proofs.meaning.segments_of.Goals as goal

pub returns : goal.returns
returns c =
    let e = c.args.e in
    record {
      parts = c.in_ok-parts.ensures;
      choices = c.in_ok-choices.ensures e.values.now c.in_ok-parts.parts c.in_ok-met.ensures.met;
      calls = c.in_ok-calls.ensures e.values.now c.in_ok-parts.parts c.in_ok-met.ensures.met;
    }
