use Rattle.std.proofs.Common.{◌<◌, length, subst, arith}
use Rattle.word_spec.specs.Memory.{endian}
use Rattle.notes_index.specs.Indexed.{ArePlacesOf, assert_places}
use Rattle.table_run.proofs.Hits.{no_assert, some_assert}
use Rattle.table_run.proofs.lines.false_assert.Goals as goal

pub returns-then-least-asserts : goal.returns-then-least-asserts
returns-then-least-asserts g c =
    no_assert (endian c.args.big) (g.V.View.view c.args.now.now) (g.V.View.view c.args.entry.now) c.args.asserts.now c.args.index.now c.group-low.result.0
    c.group-low.result.1 c.loop-i.least
    (subst (λ pc. ArePlacesOf (assert_places c.args.asserts.now) c.args.index.now pc c.group-low.result.0 c.group-low.result.1) c.pc.ensures
    (c.group-low.ensures.places _ c.requires.index)) c.if-least-asserts.true
    (λ j d e from upto less. let past = c.loop-i-test.false in c.loop-i.invariant.none j d e from (omega arith) less)

pub returns : goal.returns
returns g c =
    let most = c.loop-i.invariant.within in
    let other = c.if-least-asserts.false in
    let within : c.loop-i.least < length c.args.asserts.now = omega arith in
    some_assert (endian c.args.big) (g.V.View.view c.args.now.now) (g.V.View.view c.args.entry.now) c.args.asserts.now c.args.index.now c.group-low.result.0
    c.group-low.result.1 c.loop-i.least c.index-asserts-least.result
    (subst (λ pc. ArePlacesOf (assert_places c.args.asserts.now) c.args.index.now pc c.group-low.result.0 c.group-low.result.1) c.pc.ensures
    (c.group-low.ensures.places _ c.requires.index)) within
    (c.loop-i.invariant.hit c.index-asserts-least.result within)
    (λ j d e from upto less. let past = c.loop-i-test.false in c.loop-i.invariant.none j d e from (omega arith) less)
