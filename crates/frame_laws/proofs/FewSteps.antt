-- A segment that goes on has met as many points as it made steps, each once.
use Rattle.std.proofs.Common.{◌≡◌, ◌⊎◌, inl, inr, ℕ, zero, suc, ◌+◌, ◌<◌, ◌≤◌, refl, ap, sym, ◌∙◌, subst, arith, List, [], ◌∷◌, length, Option, Some, None, Bool, true, false}
use Rattle.std.specs.Prelude.{Contains, map, slice_get, option_map, ◌==◌, nat_le, nat_lt, if◌then◌else◌}
use Rattle.std.proofs.lemmas.Bool.Decides.{nat_tests}
use Rattle.std.proofs.lemmas.List.{length-map}
use Rattle.bilv_spec.specs.Run.{Place, false_assert}
use Rattle.bilv_spec.specs.Verdict.{IsEntryState}
use Rattle.bilv_spec.specs.PointLaws.{HasLawfulRows, ReadsMemory}
use Rattle.bilv_spec.proofs.Pigeons.{truth, Once, no_longer}
use Rattle.frame_spec.specs.Frames.{Frame, IsContent, is_head}
use Rattle.frame_spec.specs.FrameRuns.{Start, Run, Going, Arriving, Calling, Exited, Failed, Turned, Cut, Broken, FrameStep, Halts, GoesTo, Reaches, Calls, Leaves, Breaks, frame_step, contract_step, after_step, arrive, turn, arrival, one_more, begins, run, IsOver}
use Rattle.frame_spec.specs.FramePoints.{Anchor, AtEntry, AtHead, Point, IsPoint, first, IsAnchor, ArePoints, HasMore, first_of, is_entry}
use Rattle.frame_spec.specs.FrameQuestions.{point_of}
use Rattle.bilv_spec.proofs.PointsInGraph.{of_map}
use Rattle.frame_spec.specs.FrameVerdict.{IsOrigin, frame_of}
use Rattle.frame_spec.specs.FrameReports.{RankedPoint}
use Rattle.frame_spec.specs.FrameLaws.{HasPlaces, anchor_of, StandsAt}
use Rattle.frame_spec.proofs.Rising.{Numbered, numbered, Later, Between, join, one_later}
use Rattle.frame_spec.proofs.SegmentsMeet.{segments_meet_points}
use Rattle.frame_laws.proofs.OnceLists.{head_or_tail, once_more}
use Rattle.frame_laws.specs.SegmentEnds.{step_of, FewPointsEndSegments, StepsAreFew, WholesAreFew}

-- no point is before itself
not_again : (t a u b : ℕ) → t ≡ u → a ≡ b → (t < u) ⊎ ((t ≡ u) × (a < b)) → ⊥
not_again t a u b e h (inl l) = absurd (omega arith)
not_again t a u b e h (inr l) = let m = l.1 in absurd (omega arith)

module _ (f : Frame) (k : ℕ) (anchor : Anchor) where
  -- so many points of the anchor, each once, behind all of which the run stands
  record Met (n : ℕ) (r : Run) : Type 0 where
    list : List Point
    count : length list ≡ n
    points : (q : Point) → Contains list q → IsPoint f k q
    its : (q : Point) → Contains list q → q.anchor ≡ anchor
    once : Once list
    before : (q : Point) → Contains list q → Later q.turns q.at r

  -- while a run goes on
  abbrev HasMet : ℕ → Run → Type 0
  HasMet n (Going t m c) = Met n (Going t m c)
  HasMet n (Arriving t m c) = Met n (Arriving t m c)
  HasMet n (Calling t m c) = Met n (Calling t m c)
  HasMet n r = Unit {0}

  met_over : (n : ℕ) (r : Run) → Met n r → HasMet n r
  met_over n (Going t m c) h = h
  met_over n (Arriving t m c) h = h
  met_over n (Calling t m c) h = h
  met_over n (Exited a m) h = tt
  met_over n (Failed e a m) h = tt
  met_over n (Turned a m) h = tt
  met_over n (Cut a m) h = tt
  met_over n (Broken l a m) h = tt

  -- a point that a run stands at is none of those before it
  module _ (q : Point) (own : q.anchor ≡ anchor) (is : IsPoint f k q) (n : ℕ) (r : Run) (h : Met n r)
      (there : (t a : ℕ) → Later t a r → (t < q.turns) ⊎ ((t ≡ q.turns) × (a < q.at))) where
    new : Contains h.list q → ⊥
    new c = not_again q.turns q.at q.turns q.at refl refl (there q.turns q.at (h.before q c))

    its_points : (x : Point) → Contains (q ∷ h.list) x → IsPoint f k x
    its_points x c = elim (head_or_tail q h.list x c) [ inl e ↦ subst (IsPoint f k) e is | inr t ↦ h.points x t ]

    more_than : HasMore f k n
    more_than = (
      q ∷ h.list,
      (let e = h.count in omega arith),
      its_points,
      once_more q h.list h.once new,
    )

    meets : (y : Run) → Between r y → ((z : Run) → Between r z → Later q.turns q.at z) → Met (suc n) y
    meets y b behind = record {
      list = q ∷ h.list;
      count = ap suc h.count;
      points = its_points;
      its = λ x c. elim (head_or_tail q h.list x c) [ inl e ↦ ap (λ z. z.anchor) (sym e) ∙ own | inr t ↦ h.its x t ];
      once = once_more q h.list h.once new;
      before = λ x c. elim (head_or_tail q h.list x c) [
        | inl e ↦ subst (λ (z : Point). Later z.turns z.at y) e (behind y b)
        | inr t ↦ join x.turns x.at r y (h.before x t) b
      ];
    }

  module _ (start : Start) where
    after_arrival : (o : Option ℕ) (n m at : ℕ) → HasMet n (arrival f o m at)
    after_arrival None n m at = tt
    after_arrival (Some line) n m at = tt

    more : (n : ℕ) (x : Run) → HasMet n x → StandsAt f k anchor x → HasMet (suc n) (one_more f k start x)
    more n (Going t m c) h s =
        met_over (suc n) (one_more f k start (Going t m c))
        (meets (point_of anchor false t c) refl s n (Going t m c) h (λ u a l. l) (one_more f k start (Going t m c)) (one_later f k start (Going t m c))
        (λ z b. b))
    more n (Calling t m c) h s =
        met_over (suc n) (one_more f k start (Calling t m c))
        (meets (point_of anchor true t c) refl s n (Calling t m c) h (λ u a l. l) (one_more f k start (Calling t m c)) (one_later f k start (Calling t m c))
        (λ z b. b))
    more n (Arriving t m c) h s =
        after_arrival (false_assert f.program.machine.endian f.program.notes.asserts c.state start.state) (suc n) m c.state.pc
    more n (Exited a m) h s = tt
    more n (Failed e a m) h s = tt
    more n (Turned a m) h s = tt
    more n (Cut a m) h s = tt
    more n (Broken l a m) h s = tt

  -- the first point of another anchor is none of those
  module _ (q : Point) (is : IsPoint f k q) (other : q.anchor ≡ anchor → ⊥) (n : ℕ) (r : Run) (h : Met n r) where
    more_with : HasMore f k n
    more_with = (
      q ∷ h.list,
      (let e = h.count in omega arith),
      (λ x c. elim (head_or_tail q h.list x c) [ inl e ↦ subst (IsPoint f k) e is | inr t ↦ h.points x t ]),
      once_more q h.list h.once (λ c. other (h.its q c)),
    )

another : (f : Frame) (k : ℕ) (anchor : Anchor) (stack : List ℕ) (a : ℕ) → IsAnchor f k (AtHead stack a) → (n : ℕ) (r : Run) → Met f k anchor n r →
    HasMore f k n
another f k AtEntry stack a is n r h =
    more_with f k AtEntry (first_of f.program.entry (AtHead stack a)) is (λ e. (let t : false ≡ true = ap is_entry e in cc)) n r h
another f k (AtHead s b) stack a is n r h =
    more_with f k (AtHead s b) (first_of f.program.entry AtEntry) first (λ e. (let t : true ≡ false = ap is_entry e in cc)) n r h

-- so a run that goes on after so many steps has more points than that
has_more : (f : Frame) (k : ℕ) (anchor : Anchor) (n : ℕ) (x : Run) → HasMet f k anchor n x → StandsAt f k anchor x → ¬ HasMore f k n → IsOver x
has_more f k anchor n (Going t m c) h s few =
    few (more_than f k anchor (point_of anchor false t c) refl s n (Going t m c) h (λ u a l. l))
has_more f k anchor n (Calling t m c) h s few =
    few (more_than f k anchor (point_of anchor true t c) refl s n (Calling t m c) h (λ u a l. l))
has_more f k anchor n (Arriving t m c) h s few = few (another f k anchor c.stack c.state.pc s n (Arriving t m c) h)
has_more f k anchor n (Exited a m) h s few = tt
has_more f k anchor n (Failed e a m) h s few = tt
has_more f k anchor n (Turned a m) h s few = tt
has_more f k anchor n (Cut a m) h s few = tt
has_more f k anchor n (Broken l a m) h s few = tt

-- where a run ends, the step is the last one made
abbrev EndsAt : ℕ → Run → Type 0
EndsAt n (Exited a m) = m ≡ n
EndsAt n (Failed e a m) = m ≡ n
EndsAt n (Turned a m) = m ≡ n
EndsAt n (Cut a m) = m ≡ n
EndsAt n (Broken l a m) = m ≡ n
EndsAt n r = Unit {0}

module _ (k : ℕ) (to : ℕ → ℕ → Place → Run) (live : (t m n : ℕ) (c : Place) → EndsAt n (to t m c)) where
  turned_at : (b : Bool) (t n at : ℕ) (c : Place) → EndsAt n (turn to b t n at c)
  turned_at true t n at c = refl
  turned_at false t n at c = live (t + 1) (n + 1) n c

  arrived_at : (b : Bool) (t n at : ℕ) (c : Place) → EndsAt n (arrive to b k t n at c)
  arrived_at false t n at c = live t (n + 1) n c
  arrived_at true t n at c = turned_at (t == k) t n at c

stepped_at : (k t n at : ℕ) (s : FrameStep) → EndsAt n (after_step k t n at s)
stepped_at k t n at (Halts e) = refl
stepped_at k t n at (GoesTo d) = arrived_at k Going (λ t m n c. tt) (nat_le d.state.pc at) t n at d
stepped_at k t n at (Reaches d) = tt
stepped_at k t n at (Calls d) = arrived_at k Calling (λ t m n c. tt) (nat_le d.state.pc at) t n at d
stepped_at k t n at (Leaves s) = refl
stepped_at k t n at (Breaks l) = refl

arrival_at : (f : Frame) (o : Option ℕ) (n at : ℕ) → EndsAt n (arrival f o n at)
arrival_at f None n at = refl
arrival_at f (Some l) n at = refl

module _ (f : Frame) (lawful : HasLawfulRows f.program) (memory : ReadsMemory f.program) (places : HasPlaces f.program) (k : ℕ) (start : Start)
    (is : IsEntryState f.program start.state) (origin : IsOrigin f k start.state start.head) (given : (i : ℕ) → IsContent (start.given i)) where
  abbrev its : Anchor
  its = anchor_of start.head

  stands : (n : ℕ) → StandsAt f k its (run f k start n)
  stands n = segments_meet_points f lawful memory places k start is origin given n

  none_yet : (r : Run) → Met f k its 0 r
  none_yet r = record {
    list = [];
    count = refl;
    points = λ q i. absurd (let l = i.1 in omega arith);
    its = λ q i. absurd (let l = i.1 in omega arith);
    once = λ i j l h. absurd (omega arith);
    before = λ q i. absurd (let l = i.1 in omega arith);
  }

  met : (n : ℕ) → HasMet f k its n (run f k start n)
  unfolding run
  met zero = met_over f k its 0 (run f k start 0) (none_yet (run f k start 0))
  met (suc n) = more f k its start n (run f k start n) (met n) (stands n)

  over : (n : ℕ) → ¬ HasMore f k n → IsOver (run f k start n)
  over n few = has_more f k its n (run f k start n) (met n) (stands n) few

  -- the step of a run is at most the number of those made
  module _ (points : List Point) (are : ArePoints f k points) where
    abbrev max : ℕ
    max = length points

    no_more : (n : ℕ) → max ≤ n → ¬ HasMore f k n
    no_more n l (ys, big, inside, once) =
        let h = no_longer points ys (λ y q. are.all y (inside y q)) once (first_of f.program.entry AtEntry) in absurd (omega arith)

    going : (n : ℕ) (x : Run) → run f k start n ≡ x → (IsOver x → ⊥) → n < max
    going n x e h = elim (truth (nat_lt n max)) [
      | inl t ↦ grind (arith, nat_tests)
      | inr t ↦ absurd (h (subst IsOver e (over n (no_more n (let l : max ≤ n = grind (arith, nat_tests) in l)))))
    ]

    bounded : (n : ℕ) (y : Run) → run f k start (suc n) ≡ y → Numbered (suc n) y → EndsAt n y → n < max → step_of y < max
    bounded n (Going t m c) e h g l = subst (λ z. z < max) (sym h) (going (suc n) (Going t m c) e (λ o. o))
    bounded n (Calling t m c) e h g l = subst (λ z. z < max) (sym h) (going (suc n) (Calling t m c) e (λ o. o))
    bounded n (Arriving t m c) e h g l = subst (λ z. z < max) (sym h) (going (suc n) (Arriving t m c) e (λ o. o))
    bounded n (Exited a m) e h g l = subst (λ z. z < max) (sym g) l
    bounded n (Failed v a m) e h g l = subst (λ z. z < max) (sym g) l
    bounded n (Turned a m) e h g l = subst (λ z. z < max) (sym g) l
    bounded n (Cut a m) e h g l = subst (λ z. z < max) (sym g) l
    bounded n (Broken v a m) e h g l = subst (λ z. z < max) (sym g) l

    -- one more step of a run that goes on
    next_by : (n : ℕ) (x : Run) → run f k start n ≡ x → Numbered n x → step_of x < max → run f k start (suc n) ≡ one_more f k start x →
        step_of (one_more f k start x) < max
    next_by n (Going t m c) e h l q =
        bounded n (one_more f k start (Going t m c)) q (subst (Numbered (suc n)) q (numbered f k start (suc n)))
        (subst (λ z. EndsAt z (one_more f k start (Going t m c))) h (stepped_at k t m c.state.pc (frame_step f start.state c (start.choices m))))
        (going n (Going t m c) e (λ o. o))
    next_by n (Calling t m c) e h l q =
        bounded n (one_more f k start (Calling t m c)) q (subst (Numbered (suc n)) q (numbered f k start (suc n)))
        (subst (λ z. EndsAt z (one_more f k start (Calling t m c))) h (stepped_at k t m c.state.pc (contract_step f start.state c (start.given m))))
        (going n (Calling t m c) e (λ o. o))
    next_by n (Arriving t m c) e h l q =
        bounded n (one_more f k start (Arriving t m c)) q (subst (Numbered (suc n)) q (numbered f k start (suc n)))
        (subst (λ z. EndsAt z (one_more f k start (Arriving t m c))) h
        (arrival_at f (false_assert f.program.machine.endian f.program.notes.asserts c.state start.state) m c.state.pc))
        (going n (Arriving t m c) e (λ o. o))
    next_by n (Exited a m) e h l q = l
    next_by n (Failed v a m) e h l q = l
    next_by n (Turned a m) e h l q = l
    next_by n (Cut a m) e h l q = l
    next_by n (Broken v a m) e h l q = l

    first_by : (x : Run) → run f k start 0 ≡ x → Numbered 0 x → (IsOver x → ⊥) → step_of x < max
    first_by (Going t m c) e h live = subst (λ z. z < max) (sym h) (going 0 (Going t m c) e live)
    first_by (Calling t m c) e h live = subst (λ z. z < max) (sym h) (going 0 (Calling t m c) e live)
    first_by (Arriving t m c) e h live = subst (λ z. z < max) (sym h) (going 0 (Arriving t m c) e live)
    first_by (Exited a m) e h live = absurd (live tt)
    first_by (Failed v a m) e h live = absurd (live tt)
    first_by (Turned a m) e h live = absurd (live tt)
    first_by (Cut a m) e h live = absurd (live tt)
    first_by (Broken v a m) e h live = absurd (live tt)

    begins_on : (o : Option Place) → IsOver (begins f start.state o) → ⊥
    begins_on (Some c) h = h
    begins_on None h = by (is_head f start.state.pc) h
      where
        by : (b : Bool) →
            IsOver (if b then Arriving 0 0 (record { state = start.state; stack = [] }) else Going 0 0 (record { state = start.state; stack = [] })) → ⊥
        by true h = h
        by false h = h

    few : (n : ℕ) → step_of (run f k start n) < max
    unfolding run
    few zero = first_by (run f k start 0) refl (numbered f k start 0) (begins_on start.head)
    few (suc n) = next_by n (run f k start n) refl (numbered f k start n) (few n) refl

pub few_points_end_segments : FewPointsEndSegments
few_points_end_segments f lawful memory places k start is origin given max few = over f lawful memory places k start is origin given max few

pub steps_are_few : StepsAreFew
steps_are_few f lawful memory places k start is origin given points are steps = few f lawful memory places k start is origin given points are steps

-- a point of one frame is one of all
abbrev with_rank : ℕ → Point → RankedPoint
with_rank rank q = (rank, q)

abbrev of_rank : RankedPoint → Point
of_rank x = x.1

ranked : (list : List Point) (rank : ℕ) (x : RankedPoint) → Contains (map (with_rank rank) list) x → (x.0 ≡ rank) × Contains list x.1
ranked list rank x c =
    let it = of_map (with_rank rank) list x c in (sym (ap (λ z. z.0) it.2), subst (Contains list) (ap of_rank it.2) it.1)

unranked : (list : List Point) (rank i : ℕ) → option_map of_rank (slice_get (map (with_rank rank) list) i) ≡ slice_get list i
unranked [] rank i = refl
unranked (q ∷ list) rank zero = refl
unranked (q ∷ list) rank (suc i) = unranked list rank i

pub wholes_are_few : WholesAreFew
wholes_are_few w k max rank small few (list, big, inside, once) =
    few (
      map (with_rank rank) list,
      subst (λ z. max < z) (sym (length-map list (with_rank rank))) big,
      (λ x c. (let it = ranked list rank x c in (
        subst (λ z. z ≤ length w.contracts) (sym it.0) small,
        subst (λ z. IsPoint (frame_of w z) k x.1) (sym it.0) (inside x.1 it.1),
      ))),
      (λ i j l h e. once i j l (subst (λ z. j < z) (length-map list (with_rank rank)) h)
          (sym (unranked list rank i) ∙ ap (option_map of_rank) e ∙ unranked list rank j)),
    )
