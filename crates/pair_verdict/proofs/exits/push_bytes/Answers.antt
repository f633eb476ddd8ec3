use Rattle.std.proofs.Common.{◌+◌, ◌++◌, refl, arith}
use Rattle.pair_spec.specs.Links.{addresses}
use Rattle.pair_verdict.specs.StateWords.{lined_bytes}
use Rattle.pair_verdict.proofs.WordsOfStates.{bytes_next}
use Rattle.pair_verdict.proofs.exits.push_bytes.Goals as goal

pub loop-at-preserved : goal.loop-at-preserved
loop-at-preserved g c =
    let s = g.S.View.view c.args.state.now in
    let within = c.loop-at-test.true in
    bytes_next c.args.line c.args.high s c.loop-at.at (c.loop-at.at + 1) c.byte_at-byte.result
    (c.args.words.now.items ++ lined_bytes c.args.line s (addresses c.args.low c.args.high)) c.loop-at.words.items c.push.new.self.items (omega (arith, within)) refl
    c.byte_at-byte.ensures c.in_ok-push.ensures.items c.loop-at.invariant
