use Rattle.std.proofs.Common.{map, arith}
use Rattle.std.proofs.lemmas.List.{length-map}
use Rattle.mem_cells.specs.FrameViews.{read_of}
use Rattle.bit_blast.specs.Places.{lists_of}
use Rattle.bit_blast.proofs.ReadNumbers.{all_first, first_step, no_first}
use Rattle.bit_blast.proofs.laying.part_reads.Goals as goal

pub loop-i-init : goal.loop-i-init
loop-i-init c part = no_first part c.args.addresses (map read_of c.args.reads.now) (lists_of c.in_ok-found.found.items) c.in_ok-found.ensures

pub loop-i-preserved : goal.loop-i-preserved
loop-i-preserved c part =
    first_step part c.args.addresses c.args.reads.now c.loop-i.i (lists_of c.loop-i.found.items) _ _ c.loop-i-test.true (c.loop-i.invariant part)
    c.in_ok-add_read.ensures

pub returns : goal.returns
returns c part =
    all_first part c.args.addresses (map read_of c.args.reads.now) c.loop-i.i _
    (let e = length-map c.args.reads.now read_of in omega (arith, e, c.loop-i-test.false)) (c.loop-i.invariant part)
