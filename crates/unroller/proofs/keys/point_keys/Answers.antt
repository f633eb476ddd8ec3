use Rattle.std.proofs.Common.{false, List, get_or, map, ap, sym, ◌∙◌, subst, [], ◌∷◌, ◌++◌}
use Rattle.std.specs.Prelude.{Contains, None}
use Rattle.std.proofs.lemmas.List.{get_or_default}
use Rattle.program_points.specs.declared.values.FramePoint.{FramePoint}
use Rattle.bilv_spec.proofs.PointsInGraph.{none_in}
use Rattle.program_points.proofs.Lists.{take_whole}
use Rattle.unroller.specs.Keys.{point_key}
use Rattle.unroller.proofs.Ordered.{map_more}
use Rattle.unroller.proofs.Adding.{take_none, point_small}
use Rattle.unroller.proofs.keys.point_keys.Goals as goal

abbrev none : FramePoint
none = record { root = None; turns = 0; contract = false; stack = 0; at = 0 }

pub loop-point-init : goal.loop-point-init
loop-point-init c = record {
  found = c.new-found.ensures.items ∙ sym (ap (map (point_key c.args.segments.now)) (take_none c.args.points.now));
  small = λ q h. absurd (none_in q (subst (λ (l : List FramePoint). Contains l q) (take_none c.args.points.now) h));
}

pub loop-point-preserved : goal.loop-point-preserved
loop-point-preserved c = record {
  found =
      map_more (point_key c.args.segments.now) c.args.points.now c.loop-point.point-index none c.loop-point.found.items c.push.new.self.items
      c.loop-point-test.true c.loop-point.invariant.found
      (c.in_ok-push.ensures.items ∙ ap (λ k. c.loop-point.found.items ++ k ∷ []) c.point_key.ensures.value);
  small = point_small c.args.points.now c.loop-point.point-index c.loop-point-test.true none c.point_key.ensures.small c.loop-point.invariant.small;
}

pub point_key-requires-clause-low : goal.point_key-requires-clause-low
point_key-requires-clause-low c =
    let q : FramePoint = get_or c.args.points.now c.loop-point.point-index none in
    c.requires.low q (
      c.loop-point.point-index,
      c.loop-point-test.true,
      get_or_default c.args.points.now c.loop-point.point-index q none c.loop-point-test.true,
    )

pub point_key-requires-clause-rooted : goal.point_key-requires-clause-rooted
point_key-requires-clause-rooted c =
    let q : FramePoint = get_or c.args.points.now c.loop-point.point-index none in
    c.requires.rooted q (
      c.loop-point.point-index,
      c.loop-point-test.true,
      get_or_default c.args.points.now c.loop-point.point-index q none c.loop-point-test.true,
    )

pub returns-clause-listed : goal.returns-clause-listed
returns-clause-listed c =
    c.loop-point.invariant.found
    ∙ ap (map (point_key c.args.segments.now)) (take_whole c.args.points.now c.loop-point.point-index c.loop-point-test.false)

pub returns-clause-small : goal.returns-clause-small
returns-clause-small c = λ q h.
    c.loop-point.invariant.small q (subst (λ (l : List FramePoint). Contains l q)
    (sym (take_whole c.args.points.now c.loop-point.point-index c.loop-point-test.false)) h)
