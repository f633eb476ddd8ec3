-- A run of a frame after some steps hangs on the choices of those steps alone, and on what contract steps among them are given.
use Rattle.std.proofs.Common.{◌≡◌, ℕ, zero, suc, ◌+◌, ◌<◌, refl, ap, sym, ◌∙◌, subst, arith, [], Option, Some, None, Bool, true, false}
use Rattle.std.specs.Prelude.{◌==◌, nat_le, if◌then◌else◌}
use Rattle.word_spec.specs.State.{State}
use Rattle.bilv_spec.specs.Run.{Place, false_assert}
use Rattle.frame_spec.specs.Frames.{Frame, is_head}
use Rattle.frame_spec.specs.FrameRuns.{Start, Run, Going, Arriving, Calling, Exited, Failed, Turned, Cut, Broken, FrameStep, Halts, GoesTo, Reaches, Calls, Leaves, Breaks, after_step, arrive, turn, arrival, one_more, begins, run, frame_step, contract_step}

-- a run that goes on is at the step of its number
abbrev pub Numbered : ℕ → Run → Type 0
Numbered n (Going t m c) = m ≡ n
Numbered n (Arriving t m c) = m ≡ n
Numbered n (Calling t m c) = m ≡ n
Numbered n x = Unit {0}

turned : (next : ℕ → ℕ → Place → Run) → ((t m n : ℕ) (c : Place) → m ≡ n → Numbered n (next t m c)) → (b : Bool) (t n at : ℕ) (c : Place) →
    Numbered (suc n) (turn next b t n at c)
turned next h true t n at c = tt
turned next h false t n at c = h (t + 1) (n + 1) (suc n) c (omega arith)

arrived : (next : ℕ → ℕ → Place → Run) → ((t m n : ℕ) (c : Place) → m ≡ n → Numbered n (next t m c)) → (b : Bool) (k t n at : ℕ) (c : Place) →
    Numbered (suc n) (arrive next b k t n at c)
arrived next h false k t n at c = h t (n + 1) (suc n) c (omega arith)
arrived next h true k t n at c = turned next h (t == k) t n at c

stepped : (k t n at : ℕ) (s : FrameStep) → Numbered (suc n) (after_step k t n at s)
stepped k t n at (Halts e) = tt
stepped k t n at (GoesTo c) = arrived Going (λ t m n c h. h) (nat_le c.state.pc at) k t n at c
stepped k t n at (Reaches c) = let e : n + 1 ≡ suc n = omega arith in e
stepped k t n at (Calls c) = arrived Calling (λ t m n c h. h) (nat_le c.state.pc at) k t n at c
stepped k t n at (Leaves s) = tt
stepped k t n at (Breaks l) = tt

module _ (f : Frame) (k : ℕ) where
  arrival_numbered : (o : Option ℕ) (n m at : ℕ) → Numbered m (arrival f o n at)
  arrival_numbered None n m at = tt
  arrival_numbered (Some l) n m at = tt

  more_numbered : (s : Start) (n : ℕ) (x : Run) → Numbered n x → Numbered (suc n) (one_more f k s x)
  more_numbered s n (Going t m c) h =
      subst (λ z. Numbered (suc z) (one_more f k s (Going t m c))) h (stepped k t m c.state.pc (frame_step f s.state c (s.choices m)))
  more_numbered s n (Arriving t m c) h =
      arrival_numbered (false_assert f.program.machine.endian f.program.notes.asserts c.state s.state) m (suc n) c.state.pc
  more_numbered s n (Calling t m c) h =
      subst (λ z. Numbered (suc z) (one_more f k s (Calling t m c))) h (stepped k t m c.state.pc (contract_step f s.state c (s.given m)))
  more_numbered s n (Exited at m) h = tt
  more_numbered s n (Failed e at m) h = tt
  more_numbered s n (Turned at m) h = tt
  more_numbered s n (Cut at m) h = tt
  more_numbered s n (Broken l at m) h = tt

  begins_numbered : (s : State) (h : Option Place) (b : Bool) → is_head f s.pc ≡ b → Numbered 0 (begins f s h)
  begins_numbered s (Some c) b e = refl
  begins_numbered s None true e =
      subst (λ z. Numbered 0 (if z then Arriving 0 0 (record { state = s; stack = [] }) else Going 0 0 (record { state = s; stack = [] }))) (sym e) refl
  begins_numbered s None false e =
      subst (λ z. Numbered 0 (if z then Arriving 0 0 (record { state = s; stack = [] }) else Going 0 0 (record { state = s; stack = [] }))) (sym e) refl

  pub numbered : (s : Start) (n : ℕ) → Numbered n (run f k s n)
  unfolding run
  numbered s zero = begins_numbered s.state s.head (is_head f s.state.pc) refl
  numbered s (suc n) = more_numbered s n (run f k s n) (numbered s n)

  -- two starts that are the same up to a step
  pub record AreSameTo (n : ℕ) (s t : Start) : Type 0 where
    pub state : s.state ≡ t.state
    pub head : s.head ≡ t.head
    pub choices : (i : ℕ) → i < n → s.choices i ≡ t.choices i
    pub given : (i : ℕ) → i < n → s.given i ≡ t.given i

  same_more : (n : ℕ) (s t : Start) → AreSameTo (suc n) s t → (x : Run) → Numbered n x → one_more f k s x ≡ one_more f k t x
  same_more n s t h (Going u m c) e =
      let l : m < suc n = omega arith in
      ap (λ z. after_step k u m c.state.pc (frame_step f z c (s.choices m))) h.state
      ∙ ap (λ z. after_step k u m c.state.pc (frame_step f t.state c z)) (h.choices m l)
  same_more n s t h (Arriving u m c) e = ap (λ z. arrival f (false_assert f.program.machine.endian f.program.notes.asserts c.state z) m c.state.pc) h.state
  same_more n s t h (Calling u m c) e =
      let l : m < suc n = omega arith in
      ap (λ z. after_step k u m c.state.pc (contract_step f z c (s.given m))) h.state
      ∙ ap (λ z. after_step k u m c.state.pc (contract_step f t.state c z)) (h.given m l)
  same_more n s t h (Exited at m) e = refl
  same_more n s t h (Failed v at m) e = refl
  same_more n s t h (Turned at m) e = refl
  same_more n s t h (Cut at m) e = refl
  same_more n s t h (Broken l at m) e = refl

  pub same_to : (n : ℕ) (s t : Start) → AreSameTo n s t → run f k s n ≡ run f k t n
  unfolding run
  same_to zero s t h = ap (λ z. begins f z s.head) h.state ∙ ap (begins f t.state) h.head
  same_to (suc n) s t h =
      ap (one_more f k s) (same_to n s t (record {
        state = h.state;
        head = h.head;
        choices = λ i l. h.choices i (omega arith);
        given = λ i l. h.given i (omega arith);
      }))
      ∙ same_more n s t h (run f k t n) (numbered t n)
