-- The questions of an unrolled frame, by its sweep, are those of the frame.
use Rattle.std.proofs.Common.{◌≡◌, inl, inr, ℕ, ◌^◌, ◌<◌, refl, ap, sym, ◌∙◌, subst, List, [], ◌∷◌, Option, Some, None, Bool, true, false}
use Rattle.std.specs.Prelude.{◌==◌, ◌&&◌, ◌||◌, not, is_some, if◌then◌else◌, filter}
use Rattle.word_spec.specs.Memory.{Endian}
use Rattle.word_spec.specs.State.{State}
use Rattle.machine_spec.specs.Machine.{IsAtPlace}
use Rattle.bilv_spec.specs.Elf.{Cell, kept}
use Rattle.bilv_spec.specs.Notes.{Assert, value, is_true}
use Rattle.bilv_spec.specs.Run.{Program, false_assert, false_line, is_kept}
use Rattle.bilv_spec.specs.Points.{byte_of_cell, is_known_at}
use Rattle.bilv_spec.specs.Verdict.{IsEntryState, fixed}
use Rattle.bilv_spec.specs.Questions.{IsEntryStateOver}
use Rattle.bilv_spec.specs.PointLaws.{HasLawfulRows}
use Rattle.walk_spec.specs.Unrolled.{is_in, byte_of_runs}
use Rattle.frame_spec.specs.Frames.{Contract, Frame, FrameEvent, content_at, is_head, invariants_of}
use Rattle.frame_spec.specs.FrameRuns.{Run, Going, Arriving, Calling, Exited, Failed, Turned, Cut, Broken}
use Rattle.frame_spec.specs.FramePoints.{Anchor, AtEntry, AtHead, Point, IsPoint, first, entry_head, next, IsAnchor, first_of, point_to, is_contract_end, is_entry, has_heads}
use Rattle.frame_spec.specs.FrameQuestions.{Reading, IsReading, Question, EntryQuestion, FailQuestion, StepQuestion, TurnQuestion, asks_head, IsHeadPart, FromHead, EndsBy, HeadAgrees, ReadingFails, ReadingTurns, read_run}
use Rattle.frame_spec.specs.FrameWalk.{UnrolledProgram, Root, Walk, WalkIsAt, WalkArrives, WalkExits, WalkFails, WalkTurns, WalkIsCut, WalkBreaks, point_at, root_content, is_line_false, walk_of, is_assumed, is_head_anchor, SomeRoot, HasEvent}
use Rattle.frame_spec.specs.FrameUnrolling.{lines_of, assumed_at, IsRootOf, IsUnrolling}
use Rattle.bilv_spec.proofs.AskedBytes.{entry_over}
use Rattle.frame_spec.proofs.OfSegments.{entry_of}
use Rattle.frame_spec.proofs.SweepWalks.{sweep_is_walks}
use Rattle.frame_spec.proofs.Rooted.{rooted}
use Rattle.frame_laws.specs.RunOfFrame.{IsAmong, AsksLiterals, AsksKnown, IsSame, BeginsAt, HasAskedKept, MeetsEntryOver, MeetsEntry, SweepEndsBy, FrameEntryIsSame, FrameAnswersOver}
use Rattle.frame_laws.proofs.FrameWalks.{frame_walk_is_run}

module _ (f : Frame) (contracts : List Contract) (u : UnrolledProgram) (anchor : Anchor) where
  failed_there : (e : FrameEvent) (x : Run) → IsSame f contracts u anchor (WalkFails e) x → (at n : ℕ) × (x ≡ Failed e at n)
  failed_there e (Failed v at n) h = (at, n, ap (λ z. Failed z at n) (sym h))
  failed_there e (Going t n c) h = absurd h
  failed_there e (Arriving t n c) h = absurd h
  failed_there e (Calling t n c) h = absurd h
  failed_there e (Exited at n) h = absurd h
  failed_there e (Turned at n) h = absurd h
  failed_there e (Cut at n) h = absurd h
  failed_there e (Broken l at n) h = absurd h

  failed_here : (w : Walk) (e : FrameEvent) (at n : ℕ) → IsSame f contracts u anchor w (Failed e at n) → w ≡ WalkFails e
  failed_here (WalkFails v) e at n h = ap WalkFails h
  failed_here (WalkIsAt i c) e at n h = absurd h
  failed_here (WalkArrives a l c) e at n h = absurd h
  failed_here WalkExits e at n h = absurd h
  failed_here WalkTurns e at n h = absurd h
  failed_here WalkIsCut e at n h = absurd h
  failed_here WalkBreaks e at n h = absurd h

  turned_there : (x : Run) → IsSame f contracts u anchor WalkTurns x → (at n : ℕ) × (x ≡ Turned at n)
  turned_there (Turned at n) h = (at, n, refl)
  turned_there (Going t n c) h = absurd h
  turned_there (Arriving t n c) h = absurd h
  turned_there (Calling t n c) h = absurd h
  turned_there (Exited at n) h = absurd h
  turned_there (Failed v at n) h = absurd h
  turned_there (Cut at n) h = absurd h
  turned_there (Broken l at n) h = absurd h

  turned_here : (w : Walk) (at n : ℕ) → IsSame f contracts u anchor w (Turned at n) → w ≡ WalkTurns
  turned_here WalkTurns at n h = refl
  turned_here (WalkIsAt i c) at n h = absurd h
  turned_here (WalkArrives a l c) at n h = absurd h
  turned_here WalkExits at n h = absurd h
  turned_here (WalkFails v) at n h = absurd h
  turned_here WalkIsCut at n h = absurd h
  turned_here WalkBreaks at n h = absurd h

-- the entry condition and the bytes of the head part
module _ (f : Frame) (contracts : List Contract) (k : ℕ) (u : UnrolledProgram) (un : IsUnrolling f contracts k u) (asked : ℕ → Bool)
    (asks : AsksKnown f asked) where
  abbrev p : Program
  p = f.program

  requires_same : (s : State) → false_line u.endian u.requires s s ≡ false_line p.machine.endian p.notes.requires s s
  requires_same s = ap (λ z. false_line z u.requires s s) un.endian ∙ ap (λ z. false_line p.machine.endian z s s) un.requires

  byte_is : (a : ℕ) (c : Cell) → a < 2 ^ 32 → p.loaded a ≡ Some c → is_known_at p a ≡ true → byte_of_runs u.known a ≡ Some c.byte
  byte_is a c l e h = un.known a l ∙ ap (λ z. if z then Some (byte_of_cell (p.loaded a)) else None) h ∙ ap (λ z. Some (byte_of_cell z)) e

  -- a byte that is known is that of a cell
  cell_by : (a b : ℕ) (o : Option Cell) (t : Bool) → p.loaded a ≡ o → is_known_at p a ≡ t → (if t then Some (byte_of_cell o) else None) ≡ Some b →
      (c : Cell) × (o ≡ Some c) × (c.byte ≡ b)
  cell_by a b o false e h g = absurd (cc)
  cell_by a b (Some c) true e h g = (c, refl, (cc))
  cell_by a b None true e h g = absurd (let x : false ≡ true = ap (λ z. is_kept z || (is_some z && fixed p.notes.fixed a)) (sym e) ∙ h in cc)

  pub cell_is : (a b : ℕ) → a < 2 ^ 32 → byte_of_runs u.known a ≡ Some b → (c : Cell) × (p.loaded a ≡ Some c) × (c.byte ≡ b)
  cell_is a b l e = cell_by a b (p.loaded a) (is_known_at p a) refl refl (sym (un.known a l) ∙ e)

  entry_from : (s : State) → MeetsEntryOver u asked s → IsEntryStateOver p asked s
  entry_from s m = record {
    state = m.state;
    pc = m.pc ∙ un.entry;
    link = subst (λ (z : ℕ). IsAtPlace p.machine.narrow (s.regs z)) un.link (subst (λ (n : Bool). IsAtPlace n (s.regs u.link)) un.narrow m.link);
    bytes = λ a c l e t. m.bytes a c.byte l (byte_is a c l e (asks a t)) t;
    requires = sym (requires_same s) ∙ m.requires;
  }

  entry_to : (s : State) → IsEntryStateOver p asked s → MeetsEntryOver u asked s
  entry_to s is = record {
    state = is.state;
    pc = is.pc ∙ sym un.entry;
    link = subst (λ (z : ℕ). IsAtPlace u.narrow (s.regs z)) (sym un.link) (subst (λ (n : Bool). IsAtPlace n (s.regs p.machine.link)) (sym un.narrow) is.link);
    requires = requires_same s ∙ is.requires;
    bytes = λ a b l e t. (let c = cell_is a b l e in is.bytes a c.0 l c.1 t ∙ c.2);
  }

  kept_is : (a : ℕ) (c : Cell) → p.loaded a ≡ Some c → is_in u.kept a ≡ kept c
  kept_is a c e = un.kept a ∙ ap is_kept e

  head_from : (r : Reading) (question : Question) → (has_heads f ≡ true → asks_head question ≡ true → HasAskedKept u asked r.head.mem) →
      HeadAgrees f asked r question
  head_from r question h = λ t s a c l e q w. h t s a c.byte l (byte_is a c l e (asks a w)) (kept_is a c e ∙ q) w

  pub head_to : (r : Reading) (question : Question) → HeadAgrees f asked r question → has_heads f ≡ true → asks_head question ≡ true →
      HasAskedKept u asked r.head.mem
  head_to r question h t s = λ a b l e q w. (let c = cell_is a b l e in h t s a c.0 l c.1 (sym (kept_is a c.0 c.1) ∙ q) w ∙ c.2)

-- all known bytes
module _ (f : Frame) (contracts : List Contract) (k : ℕ) (u : UnrolledProgram) (un : IsUnrolling f contracts k u) (s : State) where
  abbrev known : ℕ → Bool
  known = is_known_at f.program

  known_by : (a b : ℕ) (t : Bool) → known a ≡ t → (if t then Some (byte_of_cell (f.program.loaded a)) else None) ≡ Some b → known a ≡ true
  known_by a b true h e = h
  known_by a b false h e = absurd (cc)

  whole_from : MeetsEntry u s → IsEntryState f.program s
  whole_from m =
      entry_of f.program s (entry_from f contracts k u un known (λ a t. t) s (record {
        state = m.state;
        pc = m.pc;
        link = m.link;
        requires = m.requires;
        bytes = λ a b l e t. m.bytes a b l e refl;
      }))

  whole_to : IsEntryState f.program s → MeetsEntry u s
  whole_to is =
      let m = entry_to f contracts k u un known (λ a t. t) s (entry_over f.program known s (λ a t. t) is) in
      record {
        state = m.state;
        pc = m.pc;
        link = m.link;
        requires = m.requires;
        bytes = λ a b l e t. m.bytes a b l e (known_by a b (known a) refl (sym (un.known a l) ∙ e));
      }

pub frame_entry_is_same : FrameEntryIsSame
frame_entry_is_same f contracts k u un s = (whole_from f contracts k u un s, whole_to f contracts k u un s)

-- what a root assumes is what its head's invariants say
module _ (e : Endian) (now entry : State) where
  assumed_by : (x : Assert) (l : List Assert) (b t : Bool) → false_line e (lines_of (filter (λ y. y.at == now.pc) l)) now entry ≡ false_assert e l now entry →
      is_true (value e x.says now entry) ≡ t →
      false_line e (lines_of (if b then x ∷ filter (λ y. y.at == now.pc) l else filter (λ y. y.at == now.pc) l)) now entry
      ≡ (if b && not (is_true (value e x.says now entry)) then Some x.line else false_assert e l now entry)
  assumed_by x l false t h s = h
  assumed_by x l true true h s = rw s h
  assumed_by x l true false h s = rw s refl

  assumed : (l : List Assert) → false_line e (lines_of (filter (λ y. y.at == now.pc) l)) now entry ≡ false_assert e l now entry
  assumed [] = refl
  assumed (x ∷ l) = assumed_by x l (x.at == now.pc) (is_true (value e x.says now entry)) (assumed l) refl

-- an anchor at a head is at a head
abbrev pub IsHeadAnchor : Frame → Anchor → Type 0
IsHeadAnchor f AtEntry = Unit {0}
IsHeadAnchor f (AtHead stack a) = is_head f a ≡ true

end_anchor : (f : Frame) (q : Point) (stack : List ℕ) (a : ℕ) (b : Bool) → is_head f a ≡ b → IsHeadAnchor f q.anchor →
    IsHeadAnchor f (if b then first_of f.program.entry (AtHead stack a) else point_to (is_contract_end f q stack a) q stack a).anchor
end_anchor f q stack a true e h = e
end_anchor f q stack a false e h = h

pub head_anchor : (f : Frame) (k : ℕ) (q : Point) → IsPoint f k q → IsHeadAnchor f q.anchor
head_anchor f k q first = tt
head_anchor f k q (entry_head h) = h
head_anchor f k q (next {q = from} {stack} {a} is edge l) = end_anchor f from stack a (is_head f a) refl (head_anchor f k from is)

none_false : (o : Option ℕ) → not (is_line_false o) ≡ true → o ≡ None
none_false None h = refl
none_false (Some n) h = absurd (cc)

module _ (f : Frame) (lawful : HasLawfulRows f.program) (low : (a : ℕ) → is_head f a ≡ true → a < 2 ^ 32)
    (contracts : List Contract) (among : IsAmong f contracts) (k : ℕ) (u : UnrolledProgram) (un : IsUnrolling f contracts k u) (asked : ℕ → Bool)
    (asks : AsksLiterals f k asked) (r : Reading) (reading : IsReading r) (entry : IsEntryStateOver f.program asked r.state) where
  abbrev E : Endian
  E = f.program.machine.endian

  module _ (x : Root) (anchor : Anchor) (root : IsRootOf f u x anchor) (is : IsAnchor f k anchor) (begin : BeginsAt f asked r anchor) where
    same : (n : ℕ) → IsSame f contracts u anchor (walk_of u r x n) (read_run f k r anchor n)
    same n = frame_walk_is_run f lawful contracts among k u un asked asks r reading entry x anchor root is begin n

    fails_from : (n : ℕ) (e : FrameEvent) → walk_of u r x n ≡ WalkFails e → ReadingFails f k r anchor
    fails_from n e h =
        let q = failed_there f contracts u anchor e (read_run f k r anchor n)
        (subst (λ (z : Walk). IsSame f contracts u anchor z (read_run f k r anchor n)) h (same n)) in
        (n, q.0, q.1, e, q.2)

    fails_to : ReadingFails f k r anchor → (n : ℕ) × HasEvent (walk_of u r x n)
    fails_to (n, at, m, e, h) =
        (n, (e, failed_here f contracts u anchor (walk_of u r x n) e at m (subst (λ (z : Run). IsSame f contracts u anchor (walk_of u r x n) z) h (same n))))

    turns_from : (n : ℕ) → walk_of u r x n ≡ WalkTurns → ReadingTurns f k r anchor
    turns_from n h =
        let q = turned_there f contracts u anchor (read_run f k r anchor n)
        (subst (λ (z : Walk). IsSame f contracts u anchor z (read_run f k r anchor n)) h (same n)) in
        (n, q.0, q.1, q.2)

    turns_to : ReadingTurns f k r anchor → (n : ℕ) × (walk_of u r x n ≡ WalkTurns)
    turns_to (n, at, m, h) =
        (n, turned_here f contracts u anchor (walk_of u r x n) at m (subst (λ (z : Run). IsSame f contracts u anchor (walk_of u r x n) z) h (same n)))

  -- the anchor of a root, and what it assumes
  root_anchor : (x : Root) (anchor : Anchor) → IsRootOf f u x anchor → (point_at u x.place).point.anchor ≡ anchor
  root_anchor x AtEntry root = ap (λ z. z.anchor) root.point
  root_anchor x (AtHead stack a) root = ap (λ z. z.anchor) root.point

  pub entry_assumed : (x : Root) → IsRootOf f u x AtEntry → is_assumed u r x ≡ true
  entry_assumed x root =
      ap (λ z. not (is_line_false (false_line u.endian z
      (content_at (root_content r (point_at u x.place).point.anchor) (point_at u x.place).point.at) r.state))) root.assumes

  head_assumed : (x : Root) (stack : List ℕ) (a : ℕ) → IsRootOf f u x (AtHead stack a) →
      is_assumed u r x ≡ not (is_line_false (false_assert E (invariants_of f f.program.notes.asserts) (content_at r.head a) r.state))
  head_assumed x stack a root =
      ap (λ z. not (is_line_false (false_line u.endian z
      (content_at (root_content r (point_at u x.place).point.anchor) (point_at u x.place).point.at) r.state))) root.assumes
      ∙ ap (λ z. not (is_line_false (false_line u.endian (assumed_at f (AtHead stack a)) (content_at (root_content r z.anchor) z.at) r.state))) root.point
      ∙ ap (λ z. not (is_line_false (false_line z (assumed_at f (AtHead stack a)) (content_at r.head a) r.state))) un.endian
      ∙ ap (λ z. not (is_line_false z)) (assumed E (content_at r.head a) r.state (invariants_of f f.program.notes.asserts))

  head_part : (x : Root) (stack : List ℕ) (a : ℕ) → IsRootOf f u x (AtHead stack a) → IsAnchor f k (AtHead stack a) → is_assumed u r x ≡ true →
      IsHeadPart f r a
  head_part x stack a root is t =
      let head : is_head f a ≡ true = head_anchor f k (first_of f.program.entry (AtHead stack a)) is in
      record {
        head = head;
        low = low a head;
        invariants = none_false (false_assert E (invariants_of f f.program.notes.asserts) (content_at r.head a) r.state)
            (sym (head_assumed x stack a root) ∙ t);
      }

  pub assumes_part : (x : Root) (stack : List ℕ) (a : ℕ) → IsRootOf f u x (AtHead stack a) → IsHeadPart f r a → is_assumed u r x ≡ true
  assumes_part x stack a root part = head_assumed x stack a root ∙ ap (λ z. not (is_line_false z)) part.invariants

  which_entry : (anchor : Anchor) → is_entry anchor ≡ true → anchor ≡ AtEntry
  which_entry AtEntry h = refl
  which_entry (AtHead stack a) h = absurd (cc)

  -- the event of the entry's segment
  fail_from : SomeRoot u r is_entry HasEvent → ReadingFails f k r AtEntry
  fail_from (x, c, which, t, (n, (e, h))) =
      let it = un.roots x c in
      by it.0 it.1 it.2 (subst (λ z. is_entry z ≡ true) (root_anchor x it.0 it.2) which)
    where
      by : (anchor : Anchor) → IsAnchor f k anchor → IsRootOf f u x anchor → is_entry anchor ≡ true → ReadingFails f k r AtEntry
      by AtEntry is root w = fails_from x AtEntry root is tt n e h
      by (AtHead stack a) is root w = absurd (cc)

  fail_to : ReadingFails f k r AtEntry → SomeRoot u r is_entry HasEvent
  fail_to h =
      let it = un.rooted AtEntry first in
      (it.0, it.1, subst (λ z. is_entry z ≡ true) (sym (root_anchor it.0 AtEntry it.2)) refl, entry_assumed it.0 it.2, fails_to it.0 AtEntry it.2 first tt h)

  module _ (agrees : HeadAgrees f asked r StepQuestion) where
    -- the event of another segment
    step_from : SomeRoot u r is_head_anchor HasEvent → FromHead f k r (ReadingFails f k r)
    step_from (x, c, which, t, (n, (e, h))) =
        let it = un.roots x c in
        by it.0 it.1 it.2 (subst (λ z. is_head_anchor z ≡ true) (root_anchor x it.0 it.2) which)
      where
        by : (anchor : Anchor) → IsAnchor f k anchor → IsRootOf f u x anchor → is_head_anchor anchor ≡ true → FromHead f k r (ReadingFails f k r)
        by AtEntry is root w = absurd (cc)
        by (AtHead stack a) is root w =
            let part = head_part x stack a root is t in
            (stack, a, is, part, fails_from x (AtHead stack a) root is (part, agrees) n e h)

    step_to : FromHead f k r (ReadingFails f k r) → SomeRoot u r is_head_anchor HasEvent
    step_to (stack, a, is, part, h) =
        let it = un.rooted (AtHead stack a) is in (
          it.0,
          it.1,
          subst (λ z. is_head_anchor z ≡ true) (sym (root_anchor it.0 (AtHead stack a) it.2)) refl,
          assumes_part it.0 stack a it.2 part,
          fails_to it.0 (AtHead stack a) it.2 is (part, agrees) h,
        )

    -- one backward transfer too many
    turn_from : SomeRoot u r (λ a. true) (λ w. w ≡ WalkTurns) → EndsBy f k r TurnQuestion
    turn_from (x, c, which, t, (n, h)) =
        let it = un.roots x c in by it.0 it.1 it.2
      where
        by : (anchor : Anchor) → IsAnchor f k anchor → IsRootOf f u x anchor → EndsBy f k r TurnQuestion
        by AtEntry is root = inl (turns_from x AtEntry root is tt n h)
        by (AtHead stack a) is root =
            let part = head_part x stack a root is t in
            inr (stack, a, is, part, turns_from x (AtHead stack a) root is (part, agrees) n h)

    turn_to : EndsBy f k r TurnQuestion → SomeRoot u r (λ a. true) (λ w. w ≡ WalkTurns)
    turn_to (inl h) =
        let it = un.rooted AtEntry first in
        (it.0, it.1, refl, entry_assumed it.0 it.2, turns_to it.0 AtEntry it.2 first tt h)
    turn_to (inr (stack, a, is, part, h)) =
        let it = un.rooted (AtHead stack a) is in
        (it.0, it.1, refl, assumes_part it.0 stack a it.2 part, turns_to it.0 (AtHead stack a) it.2 is (part, agrees) h)

  -- so the sweep tells them
  ends_from : (question : Question) → HeadAgrees f asked r question → SweepEndsBy u r question → EndsBy f k r question
  ends_from EntryQuestion a h = tt
  ends_from FailQuestion a h = fail_from ((sweep_is_walks u (rooted f contracts k u un) r).0.0 h)
  ends_from StepQuestion a h = step_from a ((sweep_is_walks u (rooted f contracts k u un) r).1.0 h)
  ends_from TurnQuestion a h = turn_from (λ t s. a t refl) ((sweep_is_walks u (rooted f contracts k u un) r).2.0 h)

  ends_to : (question : Question) → HeadAgrees f asked r question → EndsBy f k r question → SweepEndsBy u r question
  ends_to EntryQuestion a h = tt
  ends_to FailQuestion a h = (sweep_is_walks u (rooted f contracts k u un) r).0.1 (fail_to h)
  ends_to StepQuestion a h = (sweep_is_walks u (rooted f contracts k u un) r).1.1 (step_to a h)
  ends_to TurnQuestion a h = (sweep_is_walks u (rooted f contracts k u un) r).2.1 (turn_to (λ t s. a t refl) h)

pub frame_answers_over : FrameAnswersOver
frame_answers_over f lawful low contracts among k u un asked known asks r question = (
  (λ t. (let entry = entry_from f contracts k u un asked known r.state t.entry in
      let head = head_from f contracts k u un asked known r question t.head in
      record {
        reading = t.reading;
        entry = entry;
        head = head;
        ends = ends_from f lawful low contracts among k u un asked asks r t.reading entry question head t.ends;
      })),
  (λ t. record {
    reading = t.reading;
    entry = entry_to f contracts k u un asked known r.state t.entry;
    head = head_to f contracts k u un asked known r question t.head;
    ends = ends_to f lawful low contracts among k u un asked asks r t.reading t.entry question t.head t.ends;
  }),
)
