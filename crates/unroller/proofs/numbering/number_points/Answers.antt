use Rattle.std.proofs.Common.{ℕ, List, ap, sym, ◌∙◌, subst, arith, ◌<◌, map}
use Rattle.std.specs.Prelude.{Contains, ◌↔◌}
use Rattle.bilv_spec.proofs.PointSteps.{in_map}
use Rattle.program_points.specs.declared.values.FramePoint.{FramePoint}
use Rattle.unroller.specs.Keys.{segment_of, point_key}
use Rattle.program_points.specs.declared.values.FramePoints.{FramePoints}
use Rattle.frame_spec.specs.Frames as frames
use Rattle.unroller.specs.Keys.{AreKeys, AreSegments, IsFrameOf}
use Rattle.unroller.proofs.Listing.{are_segments, are_keys}
use Rattle.unroller.proofs.numbering.number_points.Goals as goal

pub point_keys-requires-clause-low : goal.point_keys-requires-clause-low
point_keys-requires-clause-low c q h =
    let l = c.in_ok-listed.ensures.low q (subst (λ (l : List FramePoint). Contains l q) c.deref-2.ensures.value h) in
    let k = c.requires.k in
    omega arith

pub point_keys-requires-clause-rooted : goal.point_keys-requires-clause-rooted
point_keys-requires-clause-rooted c q h =
    subst (λ (l : List ℕ). Contains l (segment_of q)) (sym c.deref-3.ensures.value)
    ((c.in_ok-segments.ensures.same (segment_of q)).0
    (subst (λ (l : List FramePoint). Contains (map segment_of l) (segment_of q)) (c.deref-2.ensures.value ∙ sym c.deref.ensures.value)
    (in_map segment_of c.deref-2.result.now q h)))

-- the points that were listed
module _ (c : goal.After-drop-listed-2) (f : frames.Frame) (of : IsFrameOf f c.args.graph.now c.args.cuts.now.heads.now c.args.cuts.now.stepped.now c.args.entry) where
  abbrev v : FramePoints
  v = c.in_ok-listed.listed

  segments_are : AreSegments f c.args.k v.stacks.frames.items c.in_ok-segments.segments.items
  segments_are =
      are_segments f c.args.k v c.in_ok-segments.segments.items c.in_ok-keys.keys.items c.in_ok-point_keys.field-0.items
      (c.in_ok-listed.ensures.points f of.graph of.begins of.way of.cuts) c.in_ok-listed.ensures.numbered c.in_ok-listed.ensures.rooted
      c.in_ok-listed.ensures.low c.requires.k (let s = c.in_ok-listed.ensures.few_stacks in let m = c.requires.max in omega arith)
      (subst (λ (l : List FramePoint). (q : FramePoint) → Contains l q → q.at < 4294967296) c.deref-2.ensures.value c.in_ok-point_keys.ensures.small)
      (subst (λ (l : List FramePoint). (x : ℕ) → Contains (map segment_of l) x ↔ Contains c.in_ok-segments.segments.items x) c.deref.ensures.value
      c.in_ok-segments.ensures.same)
      c.in_ok-segments.ensures.rise
      (c.in_ok-point_keys.ensures.listed ∙ ap (λ (l : List ℕ). map (point_key l) c.deref-2.result.now) c.deref-3.ensures.value
      ∙ ap (map (point_key c.in_ok-segments.segments.items)) c.deref-2.ensures.value)
      c.in_ok-keys.ensures.same c.in_ok-keys.ensures.rise

  keys_are : AreKeys f c.args.k v.stacks.frames.items c.in_ok-segments.segments.items c.in_ok-keys.keys.items
  keys_are =
      are_keys f c.args.k v c.in_ok-segments.segments.items c.in_ok-keys.keys.items c.in_ok-point_keys.field-0.items
      (c.in_ok-listed.ensures.points f of.graph of.begins of.way of.cuts) c.in_ok-listed.ensures.numbered c.in_ok-listed.ensures.rooted
      c.in_ok-listed.ensures.low c.requires.k (let s = c.in_ok-listed.ensures.few_stacks in let m = c.requires.max in omega arith)
      (subst (λ (l : List FramePoint). (q : FramePoint) → Contains l q → q.at < 4294967296) c.deref-2.ensures.value c.in_ok-point_keys.ensures.small)
      (subst (λ (l : List FramePoint). (x : ℕ) → Contains (map segment_of l) x ↔ Contains c.in_ok-segments.segments.items x) c.deref.ensures.value
      c.in_ok-segments.ensures.same)
      c.in_ok-segments.ensures.rise
      (c.in_ok-point_keys.ensures.listed ∙ ap (λ (l : List ℕ). map (point_key l) c.deref-2.result.now) c.deref-3.ensures.value
      ∙ ap (map (point_key c.in_ok-segments.segments.items)) c.deref-2.ensures.value)
      c.in_ok-keys.ensures.same c.in_ok-keys.ensures.rise

pub returns-clause-segments : goal.returns-clause-segments
returns-clause-segments c f of = segments_are c f of

pub returns-clause-keys : goal.returns-clause-keys
returns-clause-keys c f of = keys_are c f of
