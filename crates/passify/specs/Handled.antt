-- What it means that a point is handled.
use Rattle.std.specs.Prelude.{ℕ, suc, ◌≡◌, ◌+◌, ◌*◌, true, List, length, sum_by}
use Rattle.bilv_spec.specs.Points.{line_price, bytes_loaded}
use Rattle.term_spec.specs.Terms.{TermNode}
use Rattle.term_spec.specs.Passive.{Denotes}
use Rattle.walk_spec.specs.Prices.{line_steps}
use Rattle.frame_spec.specs.FrameWalk.{UnrolledPoint, UnrolledProgram, Held, point_at, sweep_on}
use Rattle.frame_laws.specs.FramePrices.{is_edge, goes_out, lines_at, action_size, own_exit, own_writes, variables_of}
use Rattle.frame_terms.specs.PassiveFrames.{IsNamedBelow, UnderAll, inputs_of, part_reading}
use Rattle.std.specs.List.{list_any}
use Rattle.term_names.specs.declared.names.Names.{Names}
use Rattle.term_names.specs.Views.{AreFor, form_of, names_of}
use Rattle.question_form.specs.declared.unrolled.Unrolled.{Unrolled}
use Rattle.question_form.specs.FrameViews.{frame_unrolled_of}
use Rattle.passify.specs.declared.sweep.Sweep.{Sweep}
use Rattle.passify.specs.Likes.{IsLike}
use Rattle.passify.specs.Plain.{carried, held_for}
use Rattle.passify.specs.Sweeps.{Steps, ShowsAt}

-- the gates of a point: its row, its edges, its lines, the exit of a contract's frame, and the tests of each byte store against each line of what the frame's
-- own contract may write and each run of kept bytes
abbrev pub point_gates : UnrolledProgram → UnrolledPoint → ℕ
point_gates u q =
    q.row + 1280 * sum_by is_edge q.exits + sum_by line_price (lines_at u q) + own_exit u.own (list_any goes_out q.exits) + 512 * (q.stores * own_writes u)
    + 128 * (q.stores * length u.kept)

-- its byte loads
abbrev pub point_loaded : UnrolledProgram → UnrolledPoint → ℕ
point_loaded u q = q.loads + sum_by bytes_loaded (lines_at u q)

-- its joins
abbrev pub point_joins : UnrolledPoint → ℕ
point_joins q = sum_by is_edge q.exits + 2 * q.stores

-- its nodes
abbrev pub point_nodes : UnrolledProgram → UnrolledPoint → ℕ
point_nodes u q =
    4 * (action_size q.does + variables_of u * sum_by is_edge q.exits
    + (16 + line_steps (lines_at u q) + 4 * (q.stores * length u.kept) + 4 * (q.stores * own_writes u)))

-- what is kept is of an unrolled frame: terms for its registers and flags, from its entry, and as many places as it has points
pub record IsSweepOf (u : Unrolled) (s : Sweep) : Type 0 where
  pub form : AreFor (inputs_of (frame_unrolled_of u)) s.entry
  pub at : s.at ≡ u.entry
  pub places : length s.met.items ≡ length u.points.items

-- A point is handled: under every reading of which the terms are what is held before it for the segments of its anchor's kind, and its names what is carried to
-- it where it is met, they are what is held for those behind it; behind a contract step but for memory that no machine sees.
pub record IsHandled (u : Unrolled) (old new : List TermNode) (s z : Sweep) (place : ℕ) (n : Names) : Type 0 where
  pub steps : let f = frame_unrolled_of u in let q = point_at f place in
      Steps old new s z (point_gates f q) (point_loaded f q) q.stores (point_joins q) (point_nodes f q) (IsNamedBelow f u.heads 0)
  pub shows : let f = frame_unrolled_of u in let anchor = (point_at f place).point.anchor in
      UnderAll f (λ r. (h : Held) → ShowsAt old s (suc place) (part_reading f r) (held_for anchor h) →
      (h.met place ≡ true → Denotes (form_of n) old (part_reading f r) (names_of n) (carried (h.carried place))) →
      (g : Held) × IsLike f g (sweep_on f r place h) × ShowsAt new z (suc place) (part_reading f r) (held_for anchor g))
