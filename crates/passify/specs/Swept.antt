-- What is kept after some points were handled.
use Rattle.std.specs.Prelude.{ℕ, suc, true, ◌≡◌, ◌≤◌, ◌+◌, ◌*◌, List, length, drop, sum_by}
use Rattle.bilv_spec.specs.Points.{line_price, bytes_loaded}
use Rattle.term_spec.specs.Terms.{TermReading, TermNode, term_gates, term_loads, term_stores, term_joins}
use Rattle.term_spec.specs.Passive.{Denotes, Tells}
use Rattle.frame_spec.specs.FramePoints.{AtEntry}
use Rattle.frame_spec.specs.FrameWalk.{UnrolledPoint, UnrolledProgram, Held, held, point_at, sweep_on}
use Rattle.frame_laws.specs.FramePrices.{root_bound, begin_lines, variables_of}
use Rattle.frame_terms.specs.PassiveFrames.{AreNamedBelow, IsNamedBelow, UnderAll, part_reading}
use Rattle.term_dag.specs.Made.{Grew, InputsFrom}
use Rattle.term_names.specs.declared.names.Names.{Names}
use Rattle.term_names.specs.Views.{form_of, names_of}
use Rattle.question_form.specs.declared.unrolled.Unrolled.{Unrolled}
use Rattle.question_form.specs.FrameViews.{frame_unrolled_of}
use Rattle.passify.specs.declared.sweep.Sweep.{Sweep}
use Rattle.passify.specs.Likes.{IsLike}
use Rattle.passify.specs.Plain.{carried, held_for}
use Rattle.passify.specs.Spans.{AreOwn}
use Rattle.passify.specs.Sweeps.{AreWell, ShowsAt}
use Rattle.passify.specs.Handled.{IsSweepOf, point_gates, point_loaded, point_joins, point_nodes}

-- The terms are within what all points and roots may cost and what there is before them, but for what some points may.
pub record LeaveRoom (u : UnrolledProgram) (nodes : List TermNode) (others : List UnrolledPoint) : Type 0 where
  pub gates : term_gates nodes + sum_by (point_gates u) others ≤ sum_by line_price (begin_lines u) + sum_by (point_gates u) u.points
  pub loads : term_loads nodes + sum_by (point_loaded u) others ≤ sum_by bytes_loaded (begin_lines u) + sum_by (point_loaded u) u.points
  pub stores : term_stores nodes + sum_by (λ q. q.stores) others ≤ sum_by (λ q. q.stores) u.points
  pub joins : term_joins nodes + sum_by point_joins others ≤ sum_by point_joins u.points
  pub few : length nodes + sum_by (point_nodes u) others ≤ 2 * variables_of u + 48 + root_bound u + sum_by (point_nodes u) u.points

-- Under the reading the terms are what is held, for segments from the entry and from heads.
pub record ShowsAll (nodes : List TermNode) (s : Sweep) (from : ℕ) (x : TermReading) (h : Held) : Type 0 where
  pub shows : ShowsAt nodes s from x (held_for AtEntry h)
  pub stepping : Tells nodes x s.steps.0 h.steps

-- The first points are handled: what is kept are terms of the frame, with room for the points that are left, and under every reading they are what is held
-- after those points, but for memory that no machine sees.
pub record AreSwept (u : Unrolled) (handled : ℕ) (nodes : List TermNode) (s : Sweep) : Type 0 where
  pub well : AreWell nodes s
  pub sweep : IsSweepOf u s
  pub own : AreOwn u nodes s
  pub named : AreNamedBelow (frame_unrolled_of u) u.heads 0 nodes
  pub room : LeaveRoom (frame_unrolled_of u) nodes (drop handled (frame_unrolled_of u).points)
  pub shows : let f = frame_unrolled_of u in
      UnderAll f (λ r. (g : Held) × IsLike f g (held f r handled) × ShowsAll nodes s handled (part_reading f r) g)

-- A point is handled, and its events are told apart by where its segment begins.
pub record IsPassed (u : Unrolled) (old new : List TermNode) (s z : Sweep) (place : ℕ) (n : Names) : Type 0 where
  pub grew : let f = frame_unrolled_of u in let q = point_at f place in
      Grew old new (point_gates f q) (point_loaded f q) q.stores (point_joins q) (point_nodes f q)
  pub inputs : InputsFrom old new (IsNamedBelow (frame_unrolled_of u) u.heads 0)
  pub well : AreWell new z
  pub sweep : IsSweepOf u z
  pub own : AreOwn u new z
  pub shows : let f = frame_unrolled_of u in
      UnderAll f (λ r. (h : Held) → ShowsAll old s (suc place) (part_reading f r) h →
      (h.met place ≡ true → Denotes (form_of n) old (part_reading f r) (names_of n) (carried (h.carried place))) →
      (g : Held) × IsLike f g (sweep_on f r place h) × ShowsAll new z (suc place) (part_reading f r) g)
