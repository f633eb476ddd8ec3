use Rattle.std.proofs.Common.{◌<◌, ◌^◌, length, subst, arith}
use Rattle.bilv_spec.proofs.PointsInGraph.{of_map}
use Rattle.frame_spec.specs.Frames as frames
use Rattle.notes_value.specs.FrameViews.{contract_of}
use Rattle.notes_value.specs.declared.notes.Contract.{Contract}
use Rattle.bilv_top.proofs.asked.places_are_words.Goals as goal

pub returns : goal.returns
returns c x h =
    let it = of_map contract_of c.args.contracts.now x h in
    let past = c.loop-contract-test.false in
    let inside : it.1.0 < length c.args.contracts.now = it.1.1 in
    subst (λ (z : frames.Contract). z.at < 2 ^ 32) it.2
    (subst (λ (z : Contract). z.at < 2 ^ 32) it.1.2 (c.loop-contract.invariant it.1.0 it.0 (omega (arith, past, inside)) inside))
