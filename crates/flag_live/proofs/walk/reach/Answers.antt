use Rattle.std.proofs.Common.{◌∙◌, ℕ, ◌<◌, length, arith, subst, sym}
use Rattle.flag_live.specs.Reachable.{Reaches}
use Rattle.flag_live.proofs.Walks.{mark_walk, mark_extends, mark_led, begun_more, start_reached, followed_more, reach_is, queue_short, walk_of_none}
use Rattle.flag_live.proofs.walk.reach.Goals as goal

pub loop-start-preserved : goal.loop-start-preserved
loop-start-preserved c =
    let i = c.loop-start.start-index in
    let size = c.loop-start.invariant.size in
    let inside : i < length c.args.starts.now = omega arith in
    let marked = mark_extends _ _ _ _ _ c.in_ok-mark.ensures in
    record {
      size = marked.size ∙ size;
      walk = mark_walk c.args.edges.now c.args.starts.now _ _ _ _ _ c.in_ok-mark.ensures c.loop-start.invariant.walk
          (start_reached c.args.edges.now c.args.starts.now _ i 0 inside);
      begun =
          begun_more c.args.starts.now i c.args.count c.loop-start.marks.marked.items c.mark.new.marks.marked.items 0 inside c.loop-start.invariant.begun
          marked.kept
          (λ less. mark_led _ _ _ _ _ c.in_ok-mark.ensures (omega arith));
    }

pub loop-next-preserved : goal.loop-next-preserved
loop-next-preserved c =
    let size = c.loop-next.invariant.size in
    let at = c.index-vertex.ensures in
    let inside : c.loop-next.next < length c.loop-next.marks.queue.items = omega arith in
    let there = subst (λ (x : ℕ). Reaches (length c.loop-next.marks.marked.items) c.args.edges.now c.args.starts.now x) (sym at)
    (c.loop-next.invariant.walk.reached c.loop-next.next c.index-vertex.result.now inside) in
    let extends = c.in_ok-follow.ensures.extends in
    record {
      size = extends.size ∙ size;
      walk = c.in_ok-follow.ensures.walk c.args.starts.now c.loop-next.invariant.walk there;
      begun = λ v has less. extends.kept v (c.loop-next.invariant.begun v has less);
      followed =
          followed_more c.args.edges.now c.loop-next.marks.marked.items c.loop-next.marks.queue.items c.follow.new.marks.marked.items
          c.follow.new.marks.queue.items
          c.loop-next.next c.index-vertex.result.now inside at extends c.loop-next.invariant.followed c.in_ok-follow.ensures.led;
    }

pub returns : goal.returns
returns c =
    reach_is c.args.edges.now c.args.starts.now c.loop-next.marks.marked.items c.loop-next.marks.queue.items c.args.count c.loop-next.next
    c.loop-next.invariant.size c.loop-next.invariant.walk (omega arith) c.loop-next.invariant.begun c.loop-next.invariant.followed

pub loop-next-smaller : goal.loop-next-smaller
loop-next-smaller c =
    let size = c.loop-next.invariant.size in
    let inside : c.loop-next.next < length c.loop-next.marks.queue.items = omega arith in
    let short = queue_short c.args.edges.now c.args.starts.now _ _ c.loop-next.invariant.walk in
    omega arith

pub loop-start-init : goal.loop-start-init
loop-start-init c =
    let none = walk_of_none c.args.edges.now c.args.starts.now _ _ _ (c.in_ok-vec.ensures.items_if_clones_equal (λ y e. e)) c.new.ensures.items in
    record { size = none.0; walk = none.1; begun = λ k d w. absurd (omega arith) }
