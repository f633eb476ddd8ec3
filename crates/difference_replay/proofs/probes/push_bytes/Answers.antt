use Rattle.std.proofs.Common.{◌+◌, ◌++◌}
use Rattle.difference_replay.specs.Probes.{byte_probes}
use Rattle.difference_replay.proofs.Places.{bytes_more}
use Rattle.difference_replay.proofs.probes.push_bytes.Goals as goal

pub loop-at-preserved : goal.loop-at-preserved
loop-at-preserved c =
    bytes_more c.args.line c.loop-at.at (c.args.high + 1) c.loop-at.out.items c.push.new.self.items
    (c.args.out.now.items ++ byte_probes c.args.line c.args.low c.args.high) c.loop-at-test.true c.in_ok-push.ensures.items c.loop-at.invariant
