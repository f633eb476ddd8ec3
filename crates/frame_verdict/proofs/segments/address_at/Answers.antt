use Rattle.std.proofs.Common.{arith}
use Rattle.frame_verdict.proofs.SegmentParts.{code_at, no_code_at, no_point_at}
use Rattle.frame_verdict.proofs.segments.address_at.Goals as goal

pub returns-then-place-len : goal.returns-then-place-len
returns-then-place-len c =
    let past = c.if-place-len.true in
    let of = c.len.ensures in
    let count = c.args.unrolled.now.points.ok.0 in
    no_point_at c.args.unrolled.now c.args.place (omega (arith, past, of, count))

pub returns-then-code-len : goal.returns-then-code-len
returns-then-code-len c =
    let inside = c.if-place-len.false in
    let of = c.len.ensures in
    let count = c.args.unrolled.now.points.ok.0 in
    let past = c.if-code-len.true in
    let codes = c.len-2.ensures in
    let number = c.args.unrolled.now.codes.ok.0 in
    no_code_at c.args.unrolled.now c.args.place c.index.result.now (omega (arith, inside, of, count)) c.index.ensures (omega (arith, past, codes, number))

pub returns : goal.returns
returns c =
    let inside = c.if-place-len.false in
    let of = c.len.ensures in
    let count = c.args.unrolled.now.points.ok.0 in
    let low = c.if-code-len.false in
    let codes = c.len-2.ensures in
    let number = c.args.unrolled.now.codes.ok.0 in
    code_at c.args.unrolled.now c.args.place c.index.result.now (omega (arith, inside, of, count)) c.index.ensures c.index-2.result.now
    (omega (arith, low, codes, number)) c.index-2.ensures
