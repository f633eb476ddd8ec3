-- How the runs of a frame end: what a report names can be written.
use Rattle.std.proofs.Common.{◌≡◌, ℕ, zero, suc, ◌+◌, ◌<◌, ◌^◌, refl, subst, Bool, true, false, List, [], ◌∷◌, Option, Some, None}
use Rattle.std.specs.Prelude.{◌==◌, nat_eq, nat_le, if◌then◌else◌}
use Rattle.std.specs.List.{list_any}
use Rattle.word_spec.specs.State.{State}
use Rattle.machine_spec.specs.Endings.{Event, AssertFails, FetchFails, NoRow, HalfwordFails, CodeWritten, Trapped, AlignFails, JumpFails, EnsureFails}
use Rattle.machine_spec.specs.StateText.{IsEvent}
use Rattle.bilv_spec.specs.Run.{Place, Step, Stops, Arrives, Exits, step, false_assert, false_line}
use Rattle.bilv_spec.specs.PointLaws.{HasLawfulRows, ReadsMemory}
use Rattle.bilv_spec.specs.Verdict.{IsEntryState}
use Rattle.frame_spec.specs.Frames.{Content, Contract, IsContent, Frame, WritesFails, contract_at, event_of, has_changed, is_early, is_head, line_event}
use Rattle.frame_spec.specs.FrameRuns.{Start, Run, Going, Arriving, Calling, Exited, Failed, Turned, Cut, Broken, FrameStep, Halts, GoesTo, Reaches, Calls, Leaves, Breaks, after_step, arrive, turn, arrival, one_more, begins, run, frame_step, contract_by, contract_step, given_by, lands, leaves_by, needs_by, returns_by, settles, unless_outside, writes_by, is_contract_call}
use Rattle.frame_spec.specs.FrameVerdict.{IsOrigin}
use Rattle.frame_spec.proofs.ByFile.{Stands, Good, good}
use Rattle.frame_texts_spec.specs.FrameTexts.{IsFrameEvent}
use Rattle.answer_laws.proofs.NoteLines.{HasFewLines, HasFewOwn, HaveFewLines, IsFineStep, steps_are_fine, assert_is_few, line_is_few}

-- the lines of a frame's notes, of its own contract and of those that it steps over have small numbers
abbrev pub HasFewGiven : Option Contract → Type 0
HasFewGiven None = Unit {0}
HasFewGiven (Some x) = HasFewOwn x

pub record IsFew (f : Frame) : Type 0 where
  pub lines : HasFewLines f.program
  pub own : HasFewGiven f.own
  pub stepped : HaveFewLines f.stepped

-- ---- what can be written

named_line : (b : Bool) (line : ℕ) → line < 2 ^ 64 → IsFrameEvent (line_event b line)
named_line true line l = l
named_line false line l = l

named_event : (f : Frame) (e : Event) → IsEvent e → IsFrameEvent (event_of f e)
named_event f (AssertFails line) h = named_line (list_any (nat_eq line) f.invariants) line h
named_event f FetchFails h = h
named_event f NoRow h = h
named_event f HalfwordFails h = h
named_event f CodeWritten h = h
named_event f Trapped h = h
named_event f AlignFails h = h
named_event f JumpFails h = h
named_event f (EnsureFails line) h = h

-- a step whose event can be written
abbrev IsFine : FrameStep → Type 0
IsFine (Halts e) = IsFrameEvent e
IsFine s = Unit {0}

-- an end that can be written, but for the size of its step's number
abbrev pub IsFineEnd : Run → Type 0
IsFineEnd (Failed e at n) = IsFrameEvent e × (at < 2 ^ 32)
IsFineEnd (Turned at n) = at < 2 ^ 32
IsFineEnd r = Unit {0}

-- the contract of an address is one of them
few_at : (contracts : List Contract) (a : ℕ) → HaveFewLines contracts → HasFewGiven (contract_at contracts a)
few_at [] a few = tt
few_at (x ∷ rest) a few = by (x.at == a) (few_at rest a few.1)
  where
    by : (b : Bool) → HasFewGiven (contract_at rest a) → HasFewGiven (if b then Some x else contract_at rest a)
    by true later = few.0
    by false later = later

module _ (f : Frame) where
  lands_fine : (c d : Place) → IsFine (lands f c d)
  lands_fine c d = by (is_head f d.state.pc) (is_contract_call f c d)
    where
      by : (a b : Bool) → IsFine (if a then Reaches d else if b then Calls d else GoesTo d)
      by true b = tt
      by false true = tt
      by false false = tt

  given_fine : (o : Option ℕ) (changed : Bool) (s : State) → ((line : ℕ) → o ≡ Some line → line < 2 ^ 64) → IsFine (given_by o changed s)
  given_fine (Some line) changed s h = h line refl
  given_fine None true s h = tt
  given_fine None false s h = tt

  leaves_fine : (own : Option Contract) → HasFewGiven own → (entry s : State) → IsFine (leaves_by own f entry s)
  leaves_fine None few entry s = tt
  leaves_fine (Some x) few entry s =
      given_fine (false_line f.program.machine.endian x.gives s entry) (has_changed f x entry s) s
      (λ line. line_is_few f.program.machine.endian x.gives s entry line few.gives)

  settles_fine : HasFewGiven f.own → (entry : State) (c : Place) (s : Step) → IsFineStep s → IsFine (settles f entry c s)
  settles_fine own entry c (Stops e) h = named_event f e h
  settles_fine own entry c (Arrives d) h = lands_fine c d
  settles_fine own entry c (Exits s) h = leaves_fine f.own own entry s

  unless_fine : HasFewGiven f.own → (outside : Bool) (entry : State) (c : Place) (s : Step) → IsFineStep s → IsFine (unless_outside outside f entry c s)
  unless_fine own false entry c s h = settles_fine own entry c s h
  unless_fine own true entry c (Stops e) h = by (is_early e)
    where
      by : (b : Bool) → IsFrameEvent (if b then event_of f e else WritesFails)
      by true = named_event f e h
      by false = tt
  unless_fine own true entry c (Arrives d) h = tt
  unless_fine own true entry c (Exits s) h = tt

  returns_fine : (o : Option ℕ) (c d : Place) → IsFine (returns_by o f c d)
  returns_fine (Some line) c d = tt
  returns_fine None c d = lands_fine c d

  writes_fine : (kept outside : Bool) (x : Contract) (c d : Place) → IsFine (writes_by kept outside f x c d)
  writes_fine true outside x c d = tt
  writes_fine false true x c d = tt
  writes_fine false false x c d = returns_fine (false_line f.program.machine.endian x.gives d.state c.state) c d

  needs_fine : (o : Option ℕ) (entry : State) (x : Contract) (c d : Place) → ((line : ℕ) → o ≡ Some line → line < 2 ^ 64) →
      IsFine (needs_by o f entry x c d)
  needs_fine (Some line) entry x c d h = h line refl
  needs_fine None entry x c d h = writes_fine _ _ x c d

  contract_fine : (o : Option Contract) → HasFewGiven o → (entry s : State) (stack : List ℕ) (g : Content) → IsFine (contract_by o f entry s stack g)
  contract_fine None few entry s stack g = tt
  contract_fine (Some x) few entry s [] g = tt
  contract_fine (Some x) few entry s (to ∷ below) g =
      needs_fine (false_line f.program.machine.endian x.needs s s) entry x _ _ (λ line. line_is_few f.program.machine.endian x.needs s s line few.needs)

  turned_fine : (next : ℕ → ℕ → Place → Run) → ((t n : ℕ) (c : Place) → IsFineEnd (next t n c)) → (b : Bool) (t n at : ℕ) (c : Place) → at < 2 ^ 32 →
      IsFineEnd (turn next b t n at c)
  turned_fine next h true t n at c l = l
  turned_fine next h false t n at c l = h (t + 1) (n + 1) c

  arrived_fine : (next : ℕ → ℕ → Place → Run) → ((t n : ℕ) (c : Place) → IsFineEnd (next t n c)) → (b : Bool) (k t n at : ℕ) (c : Place) → at < 2 ^ 32 →
      IsFineEnd (arrive next b k t n at c)
  arrived_fine next h false k t n at c l = h t (n + 1) c
  arrived_fine next h true k t n at c l = turned_fine next h (t == k) t n at c l

  after_fine : (k t n at : ℕ) (s : FrameStep) → IsFine s → at < 2 ^ 32 → IsFineEnd (after_step k t n at s)
  after_fine k t n at (Halts e) h l = (h, l)
  after_fine k t n at (GoesTo c) h l = arrived_fine Going (λ t n c. tt) (nat_le c.state.pc at) k t n at c l
  after_fine k t n at (Reaches c) h l = tt
  after_fine k t n at (Calls c) h l = arrived_fine Calling (λ t n c. tt) (nat_le c.state.pc at) k t n at c l
  after_fine k t n at (Leaves s) h l = tt
  after_fine k t n at (Breaks line) h l = tt

  arrival_fine : (o : Option ℕ) (n at : ℕ) → ((line : ℕ) → o ≡ Some line → line < 2 ^ 64) → at < 2 ^ 32 → IsFineEnd (arrival f o n at)
  arrival_fine None n at h l = tt
  arrival_fine (Some line) n at h l = (named_line (list_any (nat_eq line) f.invariants) line (h line refl), l)

  module _ (lawful : HasLawfulRows f.program) (memory : ReadsMemory f.program) (few : IsFew f) (k : ℕ) (start : Start)
      (entry : IsEntryState f.program start.state) (origin : IsOrigin f k start.state start.head) (given : (i : ℕ) → IsContent (start.given i)) where
    more_fine : (r : Run) → IsFineEnd r → Stands (Good f lawful memory) r → IsFineEnd (one_more f k start r)
    more_fine (Going t n c) h s =
        after_fine k t n c.state.pc (frame_step f start.state c (start.choices n))
        (unless_fine few.own _ start.state c (step f.program start.state c (start.choices n))
        (steps_are_fine f.program few.lines start.state c (start.choices n))) s.0.1.pc
    more_fine (Arriving t n c) h s =
        arrival_fine (false_assert f.program.machine.endian f.program.notes.asserts c.state start.state) n c.state.pc
        (λ line. assert_is_few f.program.machine.endian f.program.notes.asserts c.state start.state line few.lines.asserts) s.0.1.pc
    more_fine (Calling t n c) h s =
        after_fine k t n c.state.pc (contract_step f start.state c (start.given n))
        (contract_fine (contract_at f.stepped c.state.pc) (few_at f.stepped c.state.pc few.stepped) start.state c.state c.stack (start.given n)) s.0.1.pc
    more_fine (Exited at n) h s = tt
    more_fine (Failed e at n) h s = h
    more_fine (Turned at n) h s = h
    more_fine (Cut at n) h s = tt
    more_fine (Broken line at n) h s = tt

    begins_fine : (o : Option Place) → IsFineEnd (begins f start.state o)
    begins_fine (Some c) = tt
    begins_fine None = by (is_head f start.state.pc)
      where
        by : (b : Bool) → IsFineEnd (if b then Arriving 0 0 (record { state = start.state; stack = [] }) else Going 0 0 (record { state = start.state; stack = [] }))
        by true = tt
        by false = tt

    -- the end of each run can be written
    pub ends_fine : (n : ℕ) → IsFineEnd (run f k start n)
    unfolding run
    ends_fine zero = begins_fine start.head
    ends_fine (suc n) = more_fine (run f k start n) (ends_fine n) (good f lawful memory k start entry origin given n)

    -- where a contract step is made there is a state
    pub stands_low : (n t m : ℕ) (c : Place) → run f k start n ≡ Calling t m c → c.state.pc < 2 ^ 32
    stands_low n t m c is = (subst (Stands (Good f lawful memory)) is (good f lawful memory k start entry origin given n)).0.1.pc
