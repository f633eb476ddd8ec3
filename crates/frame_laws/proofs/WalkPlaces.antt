-- Where a step of a frame comes to, and the walk beside it.
use Rattle.std.proofs.Common.{◌≡◌, ◌⊎◌, inl, inr, ℕ, suc, ◌+◌, ◌≤◌, ◌<◌, refl, ap, sym, ◌∙◌, subst, arith, List, length, Bool, true, false}
use Rattle.std.specs.Prelude.{◌==◌, nat_le, if◌then◌else◌}
use Rattle.std.proofs.lemmas.Bool.Decides.{nat_tests}
use Rattle.std.proofs.lemmas.Option.{slice_get-get_or}
use Rattle.bilv_spec.specs.Run.{Place}
use Rattle.bilv_spec.proofs.Pigeons.{at_in}
use Rattle.bilv_spec.proofs.PointSteps.{in_map}
use Rattle.frame_spec.specs.Frames.{Content, Contract, Frame, is_head}
use Rattle.frame_spec.specs.FrameRuns.{Run, Going, Arriving, Calling, Exited, Failed, Broken, FrameStep, Halts, GoesTo, Reaches, Calls, Leaves, Breaks, after_step, arrive, turn}
use Rattle.frame_spec.specs.FramePoints.{AtHead, Point, IsPoint, first, entry_head, next, first_of, end_of, point_to, turns_to, is_contract_end}
use Rattle.frame_spec.specs.FrameWalk.{UnrolledProgram, no_point, point_at, Walk, WalkIsAt, WalkArrives, WalkExits, WalkFails, WalkTurns, WalkBreaks}
use Rattle.frame_spec.specs.FrameUnrolling.{IsRead, IsCarriedOf, checks_at, IsUnrolling}
use Rattle.frame_spec.proofs.SweepWalks.{sweep_is_walks}
use Rattle.frame_laws.specs.RunOfFrame.{IsAt, IsSame, FrameMeetsOnce}

pub within : (f : Frame) (k : ℕ) (q : Point) → IsPoint f k q → q.turns ≤ k
within f k q first = omega arith
within f k q (entry_head h) = omega arith
within f k q (next is edge l) = l

-- the end of an edge that leads to no head
pub end_within : (f : Frame) (contract : Bool) (q : Point) (stack : List ℕ) (a : ℕ) → is_head f a ≡ false → is_contract_end f q stack a ≡ contract →
    end_of f q stack a ≡ point_to contract q stack a
end_within f contract q stack a h e =
    ap (λ (z : Bool). if z then first_of f.program.entry (AtHead stack a) else point_to (is_contract_end f q stack a) q stack a) h
    ∙ ap (λ z. point_to z q stack a) e

tests_equal : (a b : ℕ) → a ≡ b → (a == b) ≡ true
tests_equal a b e = grind (arith, nat_tests)

tests_less : (a b : ℕ) → a < b → (a == b) ≡ false
tests_less a b h = grind (arith, nat_tests)

module _ (f : Frame) (contracts : List Contract) (k : ℕ) (u : UnrolledProgram) (un : IsUnrolling f contracts k u) where
  pub a_point : (j : ℕ) → j < length u.points → IsPoint f k (point_at u j).point
  a_point j h =
      un.points.only (point_at u j).point
      (in_map (λ q. q.point) u.points (point_at u j) (at_in u.points j (point_at u j) (slice_get-get_or u.points j no_point h)))

  -- the walk is at the place of the next point of the segment, or makes one backward transfer too many
  abbrev pub NextTo : (contract : Bool) → Point → Place → Walk → Type 0
  NextTo contract q d w =
      ((j : ℕ) × (c : Content) × (w ≡ WalkIsAt j c) × IsAt f contracts u j (point_to contract q d.stack d.state.pc) d.state c)
      ⊎ ((w ≡ WalkTurns) × (turns_to q d.state.pc ≡ suc k))

  -- the walk comes to where the step of the frame from a point comes to
  abbrev pub Comes : Point → FrameStep → Walk → Type 0
  Comes q (Halts e) w = w ≡ WalkFails e
  Comes q (GoesTo d) w = NextTo false q d w
  Comes q (Calls d) w = NextTo true q d w
  Comes q (Reaches d) w =
      (c : Content) × (w ≡ WalkArrives d.state.pc (checks_at f d.state.pc) c) × IsCarriedOf (λ g. IsRead f.program contracts g d.state.pc) d.state c
  Comes q (Leaves s) w = w ≡ WalkExits
  Comes q (Breaks line) w = w ≡ WalkBreaks

  module _ (q : Point) (few : q.turns ≤ k) (n : ℕ) where
    abbrev Same : Walk → Run → Type 0
    Same w r = IsSame f contracts u q.anchor w r

    module _ (contract : Bool) (to : ℕ → ℕ → Place → Run) (d : Place) where
      abbrev behind : ℕ → Point
      behind t = record { anchor = q.anchor; turns = t; contract = contract; stack = d.stack; at = d.state.pc }

      -- the run goes on at the point after the edge
      abbrev Stands : Type 0
      Stands = (j t m : ℕ) (c : Content) →
          IsAt f contracts u j (behind t) d.state c →
          Same (WalkIsAt j c) (to t m d)

      turned : Stands → (b : Bool) → nat_le d.state.pc q.at ≡ b → (j : ℕ) (c : Content) →
          IsAt f contracts u j (behind (if b then q.turns + 1 else q.turns)) d.state c →
          (if b then q.turns + 1 else q.turns) ≤ k → Same (WalkIsAt j c) (arrive to b k q.turns n q.at d)
      turned s false e j c h l = s j q.turns (n + 1) c h
      turned s true e j c h l =
          let t : (q.turns == k) ≡ false = tests_less q.turns k (omega arith) in
          subst (λ (z : Bool). Same (WalkIsAt j c) (turn to z q.turns n q.at d)) (sym t) (s j (q.turns + 1) (n + 1) c h)

      over : (b : Bool) → (if b then q.turns + 1 else q.turns) ≡ suc k → Same WalkTurns (arrive to b k q.turns n q.at d)
      over false e = absurd (omega arith)
      over true e =
          let t : (q.turns == k) ≡ true = tests_equal q.turns k (omega arith) in
          subst (λ (z : Bool). Same WalkTurns (turn to z q.turns n q.at d)) (sym t) tt

      goes : Stands → (w : Walk) → NextTo contract q d w → Same w (arrive to (nat_le d.state.pc q.at) k q.turns n q.at d)
      goes s w (inl (j, c, e, h)) =
          subst (λ (z : Walk). Same z (arrive to (nat_le d.state.pc q.at) k q.turns n q.at d)) (sym e)
          (turned s (nat_le d.state.pc q.at) refl j c h
          (subst (λ (z : Point). z.turns ≤ k) h.1 (within f k (point_at u j).point (a_point j h.0))))
      goes s w (inr (e, h)) =
          subst (λ (z : Walk). Same z (arrive to (nat_le d.state.pc q.at) k q.turns n q.at d)) (sym e) (over (nat_le d.state.pc q.at) h)

    -- so after the step it is where the run is
    pub stepped : (s : FrameStep) (w : Walk) → Comes q s w → Same w (after_step k q.turns n q.at s)
    stepped (Halts v) w h = subst (λ (z : Walk). Same z (Failed v q.at n)) (sym h) refl
    stepped (GoesTo d) w h = goes false Going d (λ j t m c g. g) w h
    stepped (Calls d) w h = goes true Calling d (λ j t m c g. g) w h
    stepped (Reaches d) w (c, e, h) =
        subst (λ (z : Walk). Same z (Arriving q.turns (n + 1) d)) (sym e) (refl, refl, h)
    stepped (Leaves s) w h = subst (λ (z : Walk). Same z (Exited q.at n)) (sym h) tt
    stepped (Breaks line) w h = subst (λ (z : Walk). Same z (Broken line q.at n)) (sym h) tt

-- a walk meets a place once
pub frame_meets_once : FrameMeetsOnce
frame_meets_once u rooted r x c t i m n a b e h =
    let at = (sweep_is_walks u rooted r).3 x c t in
    let first = (at m i a).0 e in
    let second = (at n i b).0 h in
    (sym first.4 ∙ second.4, sym first.3 ∙ second.3)
