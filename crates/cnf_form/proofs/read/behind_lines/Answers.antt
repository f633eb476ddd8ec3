use Rattle.std.proofs.Common.{arith, ◌<◌, ◌≤◌, length}
use Rattle.cnf_form.proofs.Cuts.{behind-twice, line-dropped, no-line-dropped}
use Rattle.cnf_form.proofs.read.behind_lines.Goals as goal

pub returns-in-None-clause-lines : goal.returns-in-None-clause-lines
returns-in-None-clause-lines c =
    no-line-dropped c.loop.rest.now c.args.text.now c.loop.counter c.args.lines c.loop.invariant.lines c.in-None.ensures.lines (let h = c.loop-test.true
    in omega arith)

pub loop-preserved : goal.loop-preserved
loop-preserved c =
    let h : length c.in-Some.behind.now < length c.loop.rest.now = c.in-Some.ensures.shorter in
    let w : length c.loop.rest.now ≤ length c.args.text.now = c.loop.invariant.within in
    record {
      lines = line-dropped c.loop.rest.now c.in-Some.behind.now c.in-Some.field-0-0.now c.args.text.now c.loop.counter c.loop.invariant.lines
          c.in-Some.ensures.lines;
      behind = behind-twice c.args.text.now c.loop.rest.now c.in-Some.behind.now c.loop.invariant.behind c.in-Some.ensures.behind (omega arith) w;
      within = omega arith;
    }
