use Rattle.std.proofs.Common.{ap, arith, refl, length}
use Rattle.std.proofs.lemmas.Option.{slice_get_read}
use Rattle.program_points.proofs.Expanded.{wider, step_few, step_longer}
use Rattle.program_points.proofs.Walked.{walk_first, walk_more, has_more, are_points}
use Rattle.program_points.proofs.listing.frame_points.Goals as goal

pub listing-init : goal.listing-init
listing-init c = record {
  table = c.no_frames-stacks.ensures.table;
  listed = wider 0 c.args.k 0 (length c.no_frames-stacks.result.frames.items) c.in_ok-found.found.points.items c.in_ok-found.found.seen (omega arith)
      (omega arith) c.in_ok-found.ensures.listed;
  place = omega arith;
  low = omega arith;
  few = (let e = ap length c.no_frames-stacks.ensures.empty in omega arith);
  walk = λ f is e way cuts.
      walk_first f c.args.graph.now c.args.cuts.now.heads.now c.args.cuts.now.stepped.now c.args.k c.args.max is way cuts c.args.entry
      c.no_frames-stacks.result.frames.items c.in_ok-found.found.points.items e c.in_ok-found.ensures.first;
}

pub returns-then-len-max-clause-more : goal.returns-then-len-max-clause-more
returns-then-len-max-clause-more c = λ f is e way cuts. (
  has_more f c.args.graph.now c.args.cuts.now.heads.now c.args.cuts.now.stepped.now c.args.k c.args.max is way cuts c.listing.stacks.frames.items
      c.listing.stacks.numbers c.listing.found.points.items c.listing.found.seen c.listing.next
      c.listing.invariant.table c.listing.invariant.listed (c.listing.invariant.walk f is e way cuts) (omega arith),
  refl,
)

pub returns-then-next-len-clause-points : goal.returns-then-next-len-clause-points
returns-then-next-len-clause-points c = λ f is e way cuts.
    are_points f c.args.graph.now c.args.cuts.now.heads.now c.args.cuts.now.stepped.now c.args.k c.args.max is way cuts c.listing.stacks.frames.items
    c.listing.stacks.numbers c.listing.found.points.items c.listing.found.seen c.listing.next
    c.listing.invariant.table c.listing.invariant.listed (c.listing.invariant.walk f is e way cuts) (omega arith) (omega arith)
    (record { stacks = c.listing.stacks; points = c.listing.found.points }) refl refl

pub listing-preserved : goal.listing-preserved
listing-preserved c = record {
  table = c.in_ok-expand.ensures.table;
  listed = c.in_ok-expand.ensures.listed;
  place =
      (let l = step_longer c.args.graph.now c.args.cuts.now.heads.now c.args.cuts.now.stepped.now c.args.k c.args.max c.index-point.result.now
      c.listing.stacks.frames.items c.expand.new.stacks.frames.items c.listing.found.points.items
      c.expand.new.found.points.items c.in_ok-expand.ensures.step in omega arith);
  low = omega arith;
  few =
      (let l = step_few c.args.graph.now c.args.cuts.now.heads.now c.args.cuts.now.stepped.now c.args.k c.args.max c.index-point.result.now
      c.listing.stacks.frames.items c.expand.new.stacks.frames.items c.listing.found.points.items
      c.expand.new.found.points.items c.in_ok-expand.ensures.step in let b = c.listing.invariant.few in omega arith);
  walk = λ f is e way cuts.
      walk_more f c.args.graph.now c.args.cuts.now.heads.now c.args.cuts.now.stepped.now c.args.k c.args.max is way cuts c.listing.stacks.frames.items
      c.expand.new.stacks.frames.items c.expand.new.stacks.numbers c.listing.found.points.items
      c.expand.new.found.points.items c.listing.next c.index-point.result.now c.in_ok-expand.ensures.table c.listing.invariant.listed.within
      (slice_get_read c.listing.found.points.items (length c.listing.found.points.items) c.listing.next c.index-point.result.now refl
      (omega arith) c.index-point.ensures)
      (c.listing.invariant.walk f is e way cuts) c.in_ok-expand.ensures.step;
}

pub returns-then-next-len-clause-numbered : goal.returns-then-next-len-clause-numbered
returns-then-next-len-clause-numbered c = λ q h. (c.listing.invariant.listed.within q h).stack

pub returns-then-next-len-clause-rooted : goal.returns-then-next-len-clause-rooted
returns-then-next-len-clause-rooted c = λ q h. (c.listing.invariant.listed.within q h).root

pub returns-then-next-len-clause-few_stacks : goal.returns-then-next-len-clause-few_stacks
returns-then-next-len-clause-few_stacks c = let b = c.listing.invariant.few in omega arith

pub returns-then-next-len-clause-low : goal.returns-then-next-len-clause-low
returns-then-next-len-clause-low c = λ q h. (c.listing.invariant.listed.within q h).turns
