-- Along a segment the number of backward transfers and then the address rise, and its steps are numbered.
use Rattle.std.proofs.Common.{◌≡◌, ◌⊎◌, inl, inr, ℕ, zero, suc, ◌+◌, ◌<◌, refl, sym, ◌∙◌, subst, arith, [], Option, Some, None, Bool, true, false}
use Rattle.std.specs.Prelude.{nat_lt, nat_le, ◌==◌, if◌then◌else◌}
use Rattle.std.proofs.lemmas.Bool.Decides.{nat_tests}
use Rattle.bilv_spec.specs.Run.{Place, false_assert}
use Rattle.bilv_spec.proofs.Pigeons.{truth}
use Rattle.frame_spec.specs.Frames.{Frame, is_head}
use Rattle.frame_spec.specs.FrameRuns.{Start, Run, Going, Arriving, Calling, Exited, Failed, Turned, Cut, Broken, FrameStep, Halts, GoesTo, Reaches, Calls, Leaves, Breaks, frame_step, contract_step, after_step, arrive, turn, arrival, one_more, begins, run}

-- a run that goes on is at the step of its number
abbrev pub Numbered : ℕ → Run → Type 0
Numbered n (Going t m c) = m ≡ n
Numbered n (Arriving t m c) = m ≡ n
Numbered n (Calling t m c) = m ≡ n
Numbered n r = Unit {0}

-- a run that makes a step stands behind a place
abbrev pub Later : (turns at : ℕ) → Run → Type 0
Later u a (Going t m c) = (u < t) ⊎ ((u ≡ t) × (a < c.state.pc))
Later u a (Calling t m c) = (u < t) ⊎ ((u ≡ t) × (a < c.state.pc))
Later u a r = Unit {0}

module _ (k : ℕ) (next : ℕ → ℕ → Place → Run) where
  turn_numbered : ((t m : ℕ) (c : Place) → Numbered m (next t m c)) → (b : Bool) (t n at : ℕ) (c : Place) → Numbered (suc n) (turn next b t n at c)
  turn_numbered f true t n at c = tt
  turn_numbered f false t n at c = let e : n + 1 ≡ suc n = omega arith in subst (λ z. Numbered z (next (t + 1) (n + 1) c)) e (f (t + 1) (n + 1) c)

  arrive_numbered : ((t m : ℕ) (c : Place) → Numbered m (next t m c)) → (b : Bool) (t n at : ℕ) (c : Place) → Numbered (suc n) (arrive next b k t n at c)
  arrive_numbered f false t n at c = let e : n + 1 ≡ suc n = omega arith in subst (λ z. Numbered z (next t (n + 1) c)) e (f t (n + 1) c)
  arrive_numbered f true t n at c = turn_numbered f (t == k) t n at c

  -- behind a place
  abbrev Behind : Type 0
  Behind = (u a t m : ℕ) (c : Place) → (u < t) ⊎ ((u ≡ t) × (a < c.state.pc)) → Later u a (next t m c)

  turn_later : Behind → (b : Bool) (t n at : ℕ) (c : Place) → Later t at (turn next b t n at c)
  turn_later f true t n at c = tt
  turn_later f false t n at c = f t at (t + 1) (n + 1) c (inl (omega arith))

  arrive_later : Behind → (b : Bool) (t n at : ℕ) (c : Place) → nat_le c.state.pc at ≡ b → Later t at (arrive next b k t n at c)
  arrive_later f false t n at c e = f t at t (n + 1) c (inr (refl, grind (arith, nat_tests)))
  arrive_later f true t n at c e = turn_later f (t == k) t n at c

stepped_numbered : (k t n at : ℕ) (s : FrameStep) → Numbered (suc n) (after_step k t n at s)
stepped_numbered k t n at (Halts e) = tt
stepped_numbered k t n at (GoesTo c) = arrive_numbered k Going (λ t m c. refl) (nat_le c.state.pc at) t n at c
stepped_numbered k t n at (Reaches c) = omega arith
stepped_numbered k t n at (Calls c) = arrive_numbered k Calling (λ t m c. refl) (nat_le c.state.pc at) t n at c
stepped_numbered k t n at (Leaves s) = tt
stepped_numbered k t n at (Breaks l) = tt

stepped_later : (k t n at : ℕ) (s : FrameStep) → Later t at (after_step k t n at s)
stepped_later k t n at (Halts e) = tt
stepped_later k t n at (GoesTo c) = arrive_later k Going (λ u a t m c h. h) (nat_le c.state.pc at) t n at c refl
stepped_later k t n at (Reaches c) = tt
stepped_later k t n at (Calls c) = arrive_later k Calling (λ u a t m c h. h) (nat_le c.state.pc at) t n at c refl
stepped_later k t n at (Leaves s) = tt
stepped_later k t n at (Breaks l) = tt

-- the later of two runs stands behind the earlier, if that makes a step; where that arrives or is over, no step is made any more
abbrev pub Between : Run → Run → Type 0
Between (Going t m c) y = Later t c.state.pc y
Between (Calling t m c) y = Later t c.state.pc y
Between x (Going t m c) = ⊥
Between x (Calling t m c) = ⊥
Between x y = Unit {0}

past : (u a t b v : ℕ) → (d : ℕ) → (u < t) ⊎ ((u ≡ t) × (a < b)) → (t < v) ⊎ ((t ≡ v) × (b < d)) → (u < v) ⊎ ((u ≡ v) × (a < d))
past u a t b v d (inl x) (inl y) = inl (omega arith)
past u a t b v d (inl x) (inr y) = let e = y.0 in inl (omega arith)
past u a t b v d (inr x) (inl y) = let e = x.0 in inl (omega arith)
past u a t b v d (inr x) (inr y) = inr (x.0 ∙ y.0, (let p = x.1 in let q = y.1 in omega arith))

later_on : (u a t b : ℕ) (y : Run) → (u < t) ⊎ ((u ≡ t) × (a < b)) → Later t b y → Later u a y
later_on u a t b (Going v m c) h g = past u a t b v c.state.pc h g
later_on u a t b (Calling v m c) h g = past u a t b v c.state.pc h g
later_on u a t b (Arriving v m c) h g = tt
later_on u a t b (Exited at n) h g = tt
later_on u a t b (Failed e at n) h g = tt
later_on u a t b (Turned at n) h g = tt
later_on u a t b (Cut at n) h g = tt
later_on u a t b (Broken l at n) h g = tt

pub join : (u a : ℕ) (x y : Run) → Later u a x → Between x y → Later u a y
join u a (Going t m c) y h g = later_on u a t c.state.pc y h g
join u a (Calling t m c) y h g = later_on u a t c.state.pc y h g
join u a (Arriving t m c) (Going v o d) h g = absurd g
join u a (Arriving t m c) (Calling v o d) h g = absurd g
join u a (Exited at n) (Going v o d) h g = absurd g
join u a (Exited at n) (Calling v o d) h g = absurd g
join u a (Failed e at n) (Going v o d) h g = absurd g
join u a (Failed e at n) (Calling v o d) h g = absurd g
join u a (Turned at n) (Going v o d) h g = absurd g
join u a (Turned at n) (Calling v o d) h g = absurd g
join u a (Cut at n) (Going v o d) h g = absurd g
join u a (Cut at n) (Calling v o d) h g = absurd g
join u a (Broken l at n) (Going v o d) h g = absurd g
join u a (Broken l at n) (Calling v o d) h g = absurd g
join u a x (Arriving v o d) h g = tt
join u a x (Exited at n) h g = tt
join u a x (Failed e at n) h g = tt
join u a x (Turned at n) h g = tt
join u a x (Cut at n) h g = tt
join u a x (Broken l at n) h g = tt

module _ (f : Frame) (k : ℕ) (start : Start) where
  over_numbered : (n : ℕ) (o : Option ℕ) (m at : ℕ) → Numbered n (arrival f o m at)
  over_numbered n None m at = tt
  over_numbered n (Some l) m at = tt

  more_numbered : (n : ℕ) (r : Run) → Numbered n r → Numbered (suc n) (one_more f k start r)
  more_numbered n (Going t m c) h =
      subst (λ (z : ℕ). Numbered (suc z) (one_more f k start (Going t m c))) h
      (stepped_numbered k t m c.state.pc (frame_step f start.state c (start.choices m)))
  more_numbered n (Calling t m c) h =
      subst (λ (z : ℕ). Numbered (suc z) (one_more f k start (Calling t m c))) h
      (stepped_numbered k t m c.state.pc (contract_step f start.state c (start.given m)))
  more_numbered n (Arriving t m c) h = over_numbered (suc n) (false_assert f.program.machine.endian f.program.notes.asserts c.state start.state) m c.state.pc
  more_numbered n (Exited at m) h = tt
  more_numbered n (Failed e at m) h = tt
  more_numbered n (Turned at m) h = tt
  more_numbered n (Cut at m) h = tt
  more_numbered n (Broken l at m) h = tt

  begins_numbered : (o : Option Place) → Numbered 0 (begins f start.state o)
  begins_numbered (Some c) = refl
  begins_numbered None = by (is_head f start.state.pc)
    where
      by : (b : Bool) → Numbered 0 (if b then Arriving 0 0 (record { state = start.state; stack = [] }) else Going 0 0
          (record { state = start.state; stack = [] }))
      by true = refl
      by false = refl

  pub numbered : (n : ℕ) → Numbered n (run f k start n)
  unfolding run
  numbered zero = begins_numbered start.head
  numbered (suc n) = more_numbered n (run f k start n) (numbered n)

  over_later : (o : Option ℕ) (t n at : ℕ) (c : Place) → Between (Arriving t n c) (arrival f o n at)
  over_later None t n at c = tt
  over_later (Some l) t n at c = tt

  pub one_later : (r : Run) → Between r (one_more f k start r)
  one_later (Going t m c) = stepped_later k t m c.state.pc (frame_step f start.state c (start.choices m))
  one_later (Calling t m c) = stepped_later k t m c.state.pc (contract_step f start.state c (start.given m))
  one_later (Arriving t m c) = over_later (false_assert f.program.machine.endian f.program.notes.asserts c.state start.state) t m c.state.pc c
  one_later (Exited at m) = tt
  one_later (Failed e at m) = tt
  one_later (Turned at m) = tt
  one_later (Cut at m) = tt
  one_later (Broken l at m) = tt

  -- behind a place from which a step is made
  pub rises : (u a n : ℕ) → ((y : Run) → Between (run f k start n) y → Later u a y) → (m : ℕ) → n < m → Later u a (run f k start m)
  unfolding run
  rises u a n h zero l = absurd (omega arith)
  rises u a n h (suc m) l = elim (truth (nat_lt n m)) [
    | inl t ↦ join u a (run f k start m) (run f k start (suc m)) (rises u a n h m (grind (arith, nat_tests))) (one_later (run f k start m))
    | inr t ↦ (let e : n ≡ m = grind (arith, nat_tests) in
        h (run f k start (suc m)) (subst (λ (z : ℕ). Between (run f k start z) (run f k start (suc m))) (sym e) (one_later (run f k start m))))
  ]
