-- Some reading makes a question true exactly where there is such a segment.
use Rattle.std.proofs.Common.{◌≡◌, ◌≢◌, ◌⊎◌, inl, inr, ℕ, zero, suc, ◌^◌, ◌<◌, ◌≤◌, refl, ap, sym, ◌∙◌, subst, arith, List, [], ◌∷◌, Option, Some, None, Bool, true, false}
use Rattle.std.specs.Prelude.{Contains, ◌==◌, ◌&&◌, ◌||◌, nat_lt, if◌then◌else◌}
use Rattle.std.specs.List.{list_any}
use Rattle.std.proofs.lemmas.Bool.Decides.{nat_tests}
use Rattle.word_spec.specs.State.{State}
use Rattle.bilv_spec.specs.Elf.{Cell, kept, is_kept}
use Rattle.bilv_spec.specs.Notes.{Assert}
use Rattle.bilv_spec.specs.Run.{Program, Place, false_assert}
use Rattle.bilv_spec.specs.Points.{is_known_at}
use Rattle.bilv_spec.specs.Questions.{IsEntryStateOver}
use Rattle.bilv_spec.specs.Verdict.{IsEntryState, fixed}
use Rattle.bilv_spec.specs.PointLaws.{HasLawfulRows, ReadsMemory}
use Rattle.bilv_spec.proofs.Pigeons.{truth}
use Rattle.bilv_spec.proofs.PointSteps.{same_number, and_both, there}
use Rattle.bilv_spec.proofs.PointTests.{any_is}
use Rattle.bilv_spec.proofs.AskedBytes.{entry_over}
use Rattle.frame_spec.specs.Frames.{Content, IsContent, Frame, FrameEvent, content_at, content_of, is_head, is_invariant, invariants_of}
use Rattle.frame_spec.specs.FrameRuns.{Start, Run, Going, Arriving, Calling, Exited, Failed, Turned, Cut, Broken, arrival, one_more, begins, run, IsOver}
use Rattle.frame_spec.specs.FramePoints.{Anchor, AtEntry, AtHead, Point, IsAnchor, has_heads}
use Rattle.frame_spec.specs.FrameVerdict.{IsStart, IsOrigin, RunFails, RunTurns}
use Rattle.frame_spec.specs.FrameQuestions.{Reading, IsReading, Question, EntryQuestion, FailQuestion, StepQuestion, TurnQuestion, IsTrueOver, IsSatisfiable, EndsBy, IsHeadPart, FromHead, by_file, point_of, origin_of, read_run, read_on, ReadingFails, ReadingTurns, asks_head}
use Rattle.frame_spec.specs.FrameLaws.{HasRun, QuestionsAreOfSegments}
use Rattle.frame_spec.proofs.HeadlessVerdict.{nothing}
use Rattle.frame_spec.proofs.OneEnd.{one_end}
use Rattle.frame_spec.proofs.ByFile.{runs_same}
use Rattle.frame_spec.proofs.Rising.{Numbered, numbered, Later, Between, rises}

module _ (f : Frame) where
  kept_of : (a : Assert) (l : List Assert) (b : Bool) (x : Assert) → (Contains (invariants_of f l) x → Contains l x) →
      Contains (if b then a ∷ invariants_of f l else invariants_of f l) x → Contains (a ∷ l) x
  kept_of a l false x g c = there a l x (g c)
  kept_of a l true x g (zero, h, e) = (0, omega arith, e)
  kept_of a l true x g (suc i, h, e) = there a l x (g (i, omega arith, e))

  -- an invariant is an assert line
  of_invariants : (l : List Assert) (x : Assert) → Contains (invariants_of f l) x → Contains l x
  of_invariants [] x c = c
  of_invariants (a ∷ l) x c = kept_of a l (is_invariant f a) x (of_invariants l x) c

  any_true : (l : List Assert) (x : Assert) → Contains l x → is_head f x.at ≡ true → list_any (λ y. is_head f y.at) l ≡ true
  any_true [] x (i, h, e) t = absurd (omega arith)
  any_true (a ∷ l) x (zero, h, e) t = ap (λ z. z || list_any (λ y. is_head f y.at) l) (ap (λ z. is_head f z.at) e ∙ t)
  any_true (a ∷ l) x (suc i, h, e) t = ap (λ z. is_head f a.at || z) (any_true l x (i, omega arith, e) t) ∙ or_true (is_head f a.at)
    where
      or_true : (b : Bool) → (b || true) ≡ true
      or_true true = refl
      or_true false = refl

  -- where an address is a head, the frame has one
  pub heads : (a : ℕ) → is_head f a ≡ true → has_heads f ≡ true
  heads a h =
      let i = any_is (λ x. x.at == a) (invariants_of f f.program.notes.asserts)
      (and_both f.cuts (list_any (λ x. x.at == a) (invariants_of f f.program.notes.asserts)) h).1 in
      any_true f.program.notes.asserts i.0 (of_invariants f.program.notes.asserts i.0 i.1) (ap (is_head f) (same_number i.0.at a i.2) ∙ h)

or_left : (a b : Bool) → a ≡ true → (a || b) ≡ true
or_left true b e = refl
or_left false b e = absurd (cc)

-- an entry state over the known bytes is an entry state
module _ (p : Program) (s : State) (is : IsEntryStateOver p (is_known_at p) s) where
  known_kept : (a : ℕ) (c : Cell) → p.loaded a ≡ Some c → kept c ≡ true → is_known_at p a ≡ true
  known_kept a c e k = or_left (is_kept (p.loaded a)) _ (ap is_kept e ∙ k)

  known_fixed : (a : ℕ) (c : Cell) → p.loaded a ≡ Some c → fixed p.notes.fixed a ≡ true → is_known_at p a ≡ true
  known_fixed a c e t = rw (e, t) (or_true (kept c))
    where
      or_true : (b : Bool) → (b || true) ≡ true
      or_true true = refl
      or_true false = refl

  pub entry_of : IsEntryState p s
  entry_of = record {
    state = is.state;
    pc = is.pc;
    link = is.link;
    kept_bytes = λ a c l e k. is.bytes a c l e (known_kept a c e k);
    fixed_bytes = λ a c l e t. is.bytes a c l e (known_fixed a c e t);
    requires = is.requires;
  }

module _ (f : Frame) (k : ℕ) (r : Reading) (anchor : Anchor) where
  abbrev g : Frame
  g = by_file f

  -- what the step that comes next takes
  abbrev next_choice : Run → ℕ
  next_choice (Going t n c) = r.choice (point_of anchor false t c)
  next_choice x = 0

  abbrev next_given : Run → Content
  next_given (Calling t n c) = r.given (point_of anchor true t c)
  next_given x = nothing

  -- the start of the reading's segment
  abbrev pub start_of : Start
  start_of = record {
    state = r.state;
    head = origin_of r anchor;
    choices = λ n. next_choice (read_run f k r anchor n);
    given = λ n. next_given (read_run f k r anchor n);
  }

  -- a start takes what the reading gives at its step
  pub record Takes (start : Start) (n : ℕ) (x : Run) : Type 0 where
    pub state : start.state ≡ r.state
    pub choice : (t m : ℕ) (c : Place) → x ≡ Going t m c → start.choices n ≡ r.choice (point_of anchor false t c)
    pub given : (t m : ℕ) (c : Place) → x ≡ Calling t m c → start.given n ≡ r.given (point_of anchor true t c)

  same_arrival : (o : Option ℕ) (n at : ℕ) → arrival g o n at ≡ arrival f o n at
  same_arrival None n at = refl
  same_arrival (Some l) n at = refl

  same_step : (start : Start) (n : ℕ) (x : Run) → Numbered n x → Takes start n x → one_more g k start x ≡ read_on f k r anchor x
  same_step start n (Going t m c) h w = rw (w.state, h, w.choice t m c refl) refl
  same_step start n (Calling t m c) h w = rw (w.state, h, w.given t m c refl) refl
  same_step start n (Arriving t m c) h w =
      ap (λ z. arrival g (false_assert f.program.machine.endian f.program.notes.asserts c.state z) m c.state.pc) w.state
      ∙ same_arrival (false_assert f.program.machine.endian f.program.notes.asserts c.state r.state) m c.state.pc
  same_step start n (Exited at m) h w = refl
  same_step start n (Failed x at m) h w = refl
  same_step start n (Turned at m) h w = refl
  same_step start n (Cut at m) h w = refl
  same_step start n (Broken l at m) h w = refl

  same_begins : (start : Start) → start.state ≡ r.state → start.head ≡ origin_of r anchor →
      begins g start.state start.head ≡ begins f r.state (origin_of r anchor)
  same_begins start e h = ap (λ z. begins g z start.head) e ∙ ap (begins g r.state) h

  -- while a start takes what the reading gives, they have one run
  pub followed : (start : Start) → start.state ≡ r.state → start.head ≡ origin_of r anchor → (most : ℕ) →
      ((n : ℕ) → n < most → Takes start n (run g k start n)) → (n : ℕ) → n ≤ most → run g k start n ≡ read_run f k r anchor n
  unfolding run read_run
  followed start e h most w zero l = same_begins start e h
  followed start e h most w (suc n) l =
      let same = followed start e h most w n (omega arith) in
      same_step start n (run g k start n) (numbered g k start n) (w n (omega arith)) ∙ ap (read_on f k r anchor) same

  start_runs : (n : ℕ) → run g k start_of n ≡ read_run f k r anchor n
  unfolding run read_run
  start_runs zero = same_begins start_of refl refl
  start_runs (suc n) =
      let e = start_runs n in
      same_step start_of n (run g k start_of n) (numbered g k start_of n) (record {
        state = refl;
        choice = λ t m c q. ap next_choice (sym e ∙ q);
        given = λ t m c q. ap next_given (sym e ∙ q);
      })
      ∙ ap (read_on f k r anchor) e

-- what a start gives, by the turns and the address at which its segment takes it
module _ (f : Frame) (k : ℕ) (start : Start) where
  abbrev is_at : Run → Point → Bool
  is_at (Going t n c) q = (t == q.turns) && (c.state.pc == q.at)
  is_at (Calling t n c) q = (t == q.turns) && (c.state.pc == q.at)
  is_at x q = false

  -- the last step below one that was made there
  pub found : ℕ → Point → ℕ
  found zero q = 0
  found (suc n) q = if is_at (run f k start n) q then n else found n q

  same_self : (a : ℕ) → (a == a) ≡ true
  same_self a = grind (arith, nat_tests)

  not_at : (t a : ℕ) (y : Run) (q : Point) → q.turns ≡ t → q.at ≡ a → Later t a y → is_at y q ≡ false
  not_at t a (Going v m c) q e i h = differs v c.state.pc h
    where
      differs : (v b : ℕ) → (t < v) ⊎ ((t ≡ v) × (a < b)) → ((v == q.turns) && (b == q.at)) ≡ false
      differs v b (inl l) = let d : (v == q.turns) ≡ false = grind (arith, nat_tests) in ap (λ z. z && (b == q.at)) d
      differs v b (inr (s, l)) =
          let d : (b == q.at) ≡ false = grind (arith, nat_tests) in ap (λ z. (v == q.turns) && z) d ∙ and_false (v == q.turns)
        where
          and_false : (b : Bool) → (b && false) ≡ false
          and_false true = refl
          and_false false = refl
  not_at t a (Calling v m c) q e i h = differs v c.state.pc h
    where
      differs : (v b : ℕ) → (t < v) ⊎ ((t ≡ v) × (a < b)) → ((v == q.turns) && (b == q.at)) ≡ false
      differs v b (inl l) = let d : (v == q.turns) ≡ false = grind (arith, nat_tests) in ap (λ z. z && (b == q.at)) d
      differs v b (inr (s, l)) =
          let d : (b == q.at) ≡ false = grind (arith, nat_tests) in ap (λ z. (v == q.turns) && z) d ∙ and_false (v == q.turns)
        where
          and_false : (b : Bool) → (b && false) ≡ false
          and_false true = refl
          and_false false = refl
  not_at t a (Arriving v m c) q e i h = refl
  not_at t a (Exited at m) q e i h = refl
  not_at t a (Failed x at m) q e i h = refl
  not_at t a (Turned at m) q e i h = refl
  not_at t a (Cut at m) q e i h = refl
  not_at t a (Broken l at m) q e i h = refl

  finds : (most n : ℕ) (q : Point) → n < most → is_at (run f k start n) q ≡ true →
      ((m : ℕ) → n < m → Later q.turns q.at (run f k start m)) → found most q ≡ n
  unfolding found
  finds zero n q l t h = absurd (omega arith)
  finds (suc most) n q l t h = elim (truth (nat_lt n most)) [
    | inl b ↦ (let low : n < most = grind (arith, nat_tests) in
        ap (λ z. if z then most else found most q) (not_at q.turns q.at (run f k start most) q refl refl (h most low)) ∙ finds most n q low t h)
    | inr b ↦ (let e : most ≡ n = grind (arith, nat_tests) in
        ap (λ z. if z then most else found most q) (ap (λ z. is_at (run f k start z) q) e ∙ t) ∙ e)
  ]

  found_going : (most n t m : ℕ) (c : Place) (anchor : Anchor) → n < most → run f k start n ≡ Going t m c → found most (point_of anchor false t c) ≡ n
  found_going most n t m c anchor l e =
      finds most n (point_of anchor false t c) l
      (ap (λ z. is_at z (point_of anchor false t c)) e ∙ ap (λ z. z && (c.state.pc == c.state.pc)) (same_self t) ∙ same_self c.state.pc)
      (rises f k start t c.state.pc n (λ y b. going_before (run f k start n) y e b))
    where
      going_before : (x y : Run) → x ≡ Going t m c → Between x y → Later t c.state.pc y
      going_before x y e b = subst (λ (z : Run). Between z y) e b

  found_calling : (most n t m : ℕ) (c : Place) (anchor : Anchor) → n < most → run f k start n ≡ Calling t m c → found most (point_of anchor true t c) ≡ n
  found_calling most n t m c anchor l e =
      finds most n (point_of anchor true t c) l
      (ap (λ z. is_at z (point_of anchor true t c)) e ∙ ap (λ z. z && (c.state.pc == c.state.pc)) (same_self t) ∙ same_self c.state.pc)
      (rises f k start t c.state.pc n (λ y b. calling_before (run f k start n) y e b))
    where
      calling_before : (x y : Run) → x ≡ Calling t m c → Between x y → Later t c.state.pc y
      calling_before x y e b = subst (λ (z : Run). Between z y) e b

  -- the anchor of the segment, and its head part
  abbrev anchor_by : Option Place → Anchor
  anchor_by None = AtEntry
  anchor_by (Some c) = AtHead c.stack c.state.pc

  abbrev head_by : Option Place → Content
  head_by None = content_of start.state
  head_by (Some c) = content_of c.state

  abbrev pub reading_of : ℕ → Reading
  reading_of most = record {
    state = start.state;
    head = head_by start.head;
    choice = λ q. start.choices (found most q);
    given = λ q. start.given (found most q);
  }

module _ (f : Frame) (lawful : HasLawfulRows f.program) (memory : ReadsMemory f.program) (k : ℕ) where
  abbrev p : Program
  p = f.program

  -- from a reading to a start
  module _ (r : Reading) (ok : IsReading r) (entry : IsEntryState p r.state) (anchor : Anchor)
      (origin : IsOrigin f k r.state (origin_of r anchor)) where
    abbrev s : Start
    s = start_of f k r anchor

    small : (x : Run) → next_choice f k r anchor x < 4
    small (Going t n c) = ok.choice (point_of anchor false t c)
    small (Arriving t n c) = omega arith
    small (Calling t n c) = omega arith
    small (Exited at n) = omega arith
    small (Failed e at n) = omega arith
    small (Turned at n) = omega arith
    small (Cut at n) = omega arith
    small (Broken l at n) = omega arith

    is_nothing : IsContent nothing
    is_nothing = record { regs = λ r. omega arith; flags = λ g. omega arith; mem = λ a. omega arith }

    contents : (x : Run) → IsContent (next_given f k r anchor x)
    contents (Calling t n c) = ok.given (point_of anchor true t c)
    contents (Going t n c) = is_nothing
    contents (Arriving t n c) = is_nothing
    contents (Exited at n) = is_nothing
    contents (Failed e at n) = is_nothing
    contents (Turned at n) = is_nothing
    contents (Cut at n) = is_nothing
    contents (Broken l at n) = is_nothing

    its_run : (n : ℕ) → run f k s n ≡ read_run f k r anchor n
    its_run n = runs_same f lawful memory k s entry origin (λ i. contents (read_run f k r anchor i)) n ∙ start_runs f k r anchor n

    its_start : (n : ℕ) (x : Run) → IsOver x → run f k s n ≡ x → ((l at m : ℕ) → x ≢ Broken l at m) → IsStart f k s
    its_start n x over e not = record {
      entry = entry;
      origin = origin;
      choices = λ i. small (read_run f k r anchor i);
      given = λ i. contents (read_run f k r anchor i);
      is_run = λ b. not b.1 b.2 b.3 (one_end f k s n b.0 x (Broken b.1 b.2 b.3) over tt e b.4);
    }

    fails : ReadingFails f k r anchor → IsStart f k s × RunFails f k s
    fails (n, at, m, e, h) = (
      its_start n (Failed e at m) tt (its_run n ∙ h) (λ l a i q. cc),
      (n, at, m, e, its_run n ∙ h),
    )

    turns : ReadingTurns f k r anchor → IsStart f k s × RunTurns f k s
    turns (n, at, m, h) = (
      its_start n (Turned at m) tt (its_run n ∙ h) (λ l a i q. cc),
      (n, at, m, its_run n ∙ h),
    )

  module _ (r : Reading) (question : Question) (asks : asks_head question ≡ true) (t : IsTrueOver f (is_known_at p) k r question) where
    -- the head part is a head state
    head_origin : (stack : List ℕ) (a : ℕ) → IsAnchor f k (AtHead stack a) → IsHeadPart f r a → IsOrigin f k r.state (origin_of r (AtHead stack a))
    head_origin stack a anchor part = (
      anchor,
      record {
        state = record { pc = part.low; regs = t.reading.head.regs; flags = t.reading.head.flags; mem = t.reading.head.mem };
        head = part.head;
        kept_bytes = λ b c l e q. t.head (heads f a part.head) asks b c l e q (or_left (is_kept (p.loaded b)) _ (ap is_kept e ∙ q));
        invariants = part.invariants;
      },
    )

  pub to_run : (question : Question) → IsSatisfiable f k question → HasRun f k question
  to_run EntryQuestion (r, t) = (r.state, entry_of p r.state t.entry)
  to_run FailQuestion (r, t) =
      let q = fails r t.reading (entry_of p r.state t.entry) AtEntry tt t.ends in
      (start_of f k r AtEntry, q.0, refl, q.1)
  to_run StepQuestion (r, t) =
      let stack = t.ends.0 in
      let a = t.ends.1 in
      let o = head_origin r StepQuestion refl t stack a t.ends.2 t.ends.3 in
      let q = fails r t.reading (entry_of p r.state t.entry) (AtHead stack a) o t.ends.4 in
      (start_of f k r (AtHead stack a), q.0, (λ e. cc), q.1)
  to_run TurnQuestion (r, t) = elim t.ends [
    | inl h ↦ (let q = turns r t.reading (entry_of p r.state t.entry) AtEntry tt h in (start_of f k r AtEntry, q.0, q.1))
    | inr h ↦ (let o = head_origin r TurnQuestion refl t h.0 h.1 h.2 h.3 in
        let q = turns r t.reading (entry_of p r.state t.entry) (AtHead h.0 h.1) o h.4 in (start_of f k r (AtHead h.0 h.1), q.0, q.1))
  ]

  -- from a start to a reading
  module _ (start : Start) (is : IsStart f k start) (most : ℕ) where
    abbrev its : Reading
    its = reading_of (by_file f) k start most

    head_content : (o : Option Place) → IsOrigin f k start.state o → IsContent (head_by (by_file f) k start o)
    head_content None h = record { regs = is.entry.state.regs; flags = is.entry.state.flags; mem = is.entry.state.mem }
    head_content (Some c) h = record { regs = h.1.state.regs; flags = h.1.state.flags; mem = h.1.state.mem }

    its_reading : IsReading its
    its_reading = record {
      state = is.entry.state;
      head = head_content start.head is.origin;
      choice = λ q. is.choices (found (by_file f) k start most q);
      given = λ q. is.given (found (by_file f) k start most q);
    }

    head_bytes : (o : Option Place) → IsOrigin f k start.state o → (a : ℕ) (c : Cell) → a < 2 ^ 32 → p.loaded a ≡ Some c → kept c ≡ true →
        (head_by (by_file f) k start o).mem a ≡ c.byte
    head_bytes None h a c l e q = is.entry.kept_bytes a c l e q
    head_bytes (Some d) h a c l e q = h.1.kept_bytes a c l e q

    its_true : (question : Question) → EndsBy f k its question → IsTrueOver f (is_known_at p) k its question
    its_true question ends = record {
      reading = its_reading;
      entry = entry_over p (is_known_at p) start.state (λ a t. t) is.entry;
      head = λ h q a c l e t i. head_bytes start.head is.origin a c l e t;
      ends = ends;
    }

    its_origin : (o : Option Place) → o ≡ start.head → o ≡ origin_of its (anchor_by (by_file f) k start o)
    its_origin None e = refl
    its_origin (Some c) e = ap (λ z. Some (record { state = content_at (head_by (by_file f) k start z) c.state.pc; stack = c.stack })) e

    -- they have one run up to that step
    one_run : run f k start most ≡ read_run f k its (anchor_by (by_file f) k start start.head) most
    one_run =
        runs_same f lawful memory k start is.entry is.origin is.given most
        ∙ followed f k its (anchor_by (by_file f) k start start.head) start refl (its_origin start.head refl) most
        (λ n l. record {
          state = refl;
          choice = λ t m c e. ap start.choices (sym (found_going (by_file f) k start most n t m c (anchor_by (by_file f) k start start.head) l e));
          given = λ t m c e. ap start.given (sym (found_calling (by_file f) k start most n t m c (anchor_by (by_file f) k start start.head) l e));
        })
        most (omega arith)

    its_fail : (at n : ℕ) (e : FrameEvent) → run f k start most ≡ Failed e at n → ReadingFails f k its (anchor_by (by_file f) k start start.head)
    its_fail at n e h = (most, at, n, e, sym one_run ∙ h)

    its_turn : (at n : ℕ) → run f k start most ≡ Turned at n → ReadingTurns f k its (anchor_by (by_file f) k start start.head)
    its_turn at n h = (most, at, n, sym one_run ∙ h)

    -- the segment from a head state
    from_head : (Ends : Anchor → Type 0) (o : Option Place) → o ≡ start.head → IsOrigin f k start.state o → o ≢ None →
        Ends (anchor_by (by_file f) k start o) → FromHead f k its Ends
    from_head Ends None e h not ends = absurd (not refl)
    from_head Ends (Some c) e h not ends = (
      c.stack,
      c.state.pc,
      h.0,
      record {
        head = h.1.head;
        low = h.1.state.pc;
        invariants = subst
            (λ z. false_assert p.machine.endian (invariants_of f p.notes.asserts) (content_at (head_by (by_file f) k start z) c.state.pc) start.state ≡ None) e
            h.1.invariants;
      },
      ends,
    )

    by_origin : (o : Option Place) → o ≡ start.head → IsOrigin f k start.state o →
        ReadingTurns f k its (anchor_by (by_file f) k start o) → EndsBy f k its TurnQuestion
    by_origin None e h ends = inl ends
    by_origin (Some c) e h ends = inr (from_head (ReadingTurns f k its) (Some c) e h (λ q. cc) ends)

  pub from_run : (question : Question) → HasRun f k question → IsSatisfiable f k question
  from_run EntryQuestion (s, is) = (
    record { state = s; head = content_of s; choice = λ q. 0; given = λ q. nothing },
    record {
      reading = record {
        state = is.state;
        head = record { regs = is.state.regs; flags = is.state.flags; mem = is.state.mem };
        choice = λ q. omega arith;
        given = λ q. record { regs = λ r. omega arith; flags = λ g. omega arith; mem = λ a. omega arith };
      };
      entry = entry_over p (is_known_at p) s (λ a t. t) is;
      head = λ h q a c l e t i. is.kept_bytes a c l e t;
      ends = tt;
    },
  )
  from_run FailQuestion (start, is, none, (n, at, m, e, h)) = (
    its start is n,
    its_true start is n FailQuestion
        (subst (λ o. ReadingFails f k (its start is n) (anchor_by (by_file f) k start o)) none (its_fail start is n at m e h)),
  )
  from_run StepQuestion (start, is, some, (n, at, m, e, h)) = (
    its start is n,
    its_true start is n StepQuestion
        (from_head start is n (ReadingFails f k (its start is n)) start.head refl is.origin some (its_fail start is n at m e h)),
  )
  from_run TurnQuestion (start, is, (n, at, m, h)) = (
    its start is n,
    its_true start is n TurnQuestion (by_origin start is n start.head refl is.origin (its_turn start is n at m h)),
  )

pub questions_are_of_segments : QuestionsAreOfSegments
questions_are_of_segments f lawful memory k question = (to_run f lawful memory k question, from_run f lawful memory k question)
