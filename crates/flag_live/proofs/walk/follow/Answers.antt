use Rattle.std.proofs.Common.{◌≡◌, ℕ, ◌<◌, length, get_or, arith}
use Rattle.flag_live.proofs.Walks.{extends_more, mark_extends, mark_led, mark_walk, led_more, led_reached}
use Rattle.flag_live.proofs.walk.follow.Goals as goal

pub loop-i-preserved : goal.loop-i-preserved
loop-i-preserved c =
    let d : ℕ × ℕ = (0, 0) in
    let i = c.loop-i.i in
    let low = c.loop-i.auto.i in
    let high = c.first_above-above.ensures.within in
    let inside : i < length c.args.edges.now = omega arith in
    let from = c.first_from-first.ensures.behind i d (omega arith) inside in
    let upto = c.first_above-above.ensures.before i d (omega arith) (omega arith) in
    let at : (get_or c.args.edges.now i d).0 ≡ c.args.vertex = omega arith in
    let size = c.loop-i.invariant.extends.size in
    let marked = mark_extends _ _ _ _ _ c.in_ok-mark.ensures in
    record {
      extends = extends_more _ _ _ _ _ _ c.loop-i.invariant.extends marked;
      led =
          led_more c.args.edges.now c.first_from-first.result i
          (length c.args.marks.now.marked.items) c.loop-i.marks.marked.items c.mark.new.marks.marked.items d inside
          c.loop-i.invariant.led marked.kept (λ less. mark_led _ _ _ _ _ c.in_ok-mark.ensures (omega arith));
      walk = λ starts is there.
          mark_walk c.args.edges.now starts _ _ _ _ _ c.in_ok-mark.ensures (c.loop-i.invariant.walk starts is there)
          (led_reached c.args.edges.now starts (length c.args.marks.now.marked.items)
          (length c.loop-i.marks.marked.items) c.args.vertex i d size inside at there);
    }
