-- What is seen of a step of the code is what is seen of the run's.
use Rattle.std.proofs.Common.{◌≡◌, ℕ, zero, suc, ◌^◌, ◌<◌, List, [], ◌∷◌, ◌++◌, length, map, Option, Some, None, refl, sym, ap, ◌∙◌, subst, arith}
use Rattle.std.specs.Prelude.{◌==◌, if◌then◌else◌}
use Rattle.word_spec.specs.Words.{add}
use Rattle.word_spec.specs.Memory.{Endian, span}
use Rattle.word_spec.specs.RowFiles.{from_to}
use Rattle.word_spec.specs.State.{State, IsState}
use Rattle.machine_spec.specs.MachineLaws.{with_memory}
use Rattle.machine_spec.specs.StateText.{Layout}
use Rattle.bilv_spec.specs.Notes.{value}
use Rattle.bilv_spec.specs.PointLaws.{HasLawfulRows, ReadsMemory}
use Rattle.bilv_spec.specs.Run.{Program, Place}
use Rattle.frame_spec.specs.Frames.{Content, Contract, Frame, Writes, contract_at, written}
use Rattle.frame_spec.specs.FrameRuns.{FrameStep}
use Rattle.frame_texts_spec.specs.CallReplays.{BlockCause, WrongAt, BreaksLine}
use Rattle.trace_spec.specs.Seen as trace
use Rattle.trace_spec.specs.Seen.{changes, left_in, next_place, seen_between, written_by}
use Rattle.seen_step.specs.declared.looks.Glance.{Glance}
use Rattle.table_run.specs.declared.called_turns.Stand.{Stand}
use Rattle.table_run.specs.declared.called_turns.Stand.TheVariants as stand
use Rattle.table_run.specs.declared.ending.CalledStepEnd.{CalledStepEnd}
use Rattle.table_run.specs.declared.ending.CalledStepEnd.TheVariants as end
use Rattle.table_run.specs.declared.observers.Observer.{Observer}
use Rattle.table_run.specs.declared.observers.Observer.TheVariants as observer
use Rattle.table_run.specs.CalledFrames.{IsAt, IsSeenAs, IsTurnEnd, called_frame, program_in, turned}
use Rattle.table_run.specs.Watching.{AreLow, HasSeen, IsLeftBy, IsSeenBy, kind_at, later_of, places_at, stored_at, turn_left, turn_seen}
use Rattle.table_run.proofs.SeenSteps.{left_alike, places_same, stores_same, written_same}

-- ---- addresses of 32 bits

add_low : (a b : ℕ) → add 32 a b < 2 ^ 32
add_low a b = omega arith

low_both : (xs ys : List ℕ) → AreLow xs → AreLow ys → AreLow (xs ++ ys)
low_both [] ys h g = g
low_both (x ∷ xs) ys h g = (h.0, low_both xs ys h.1 g)

pub low_span : (a n : ℕ) → a < 2 ^ 32 → AreLow (span a n)
low_span a zero h = tt
low_span a (suc n) h = (h, low_span (add 32 a 1) n (add_low a 1))

low_added : (v : ℕ) (l : List ℕ) → AreLow (map (add 32 v) l)
low_added v [] = tt
low_added v (x ∷ l) = (add_low v x, low_added v l)

low_written : (e : Endian) (writes : List Writes) (s : State) → AreLow (written e writes s)
low_written e [] s = tt
low_written e (w ∷ rest) s =
    low_both (map (add 32 (value e w.says s s)) (from_to 0 w.count)) (written e rest s) (low_added (value e w.says s s) (from_to 0 w.count))
    (low_written e rest s)

pub low_by : (o : Option Contract) (f : Frame) (s : State) → AreLow (written_by o f s)
low_by None f s = tt
low_by (Some x) f s = low_written f.program.machine.endian x.writes s

-- ---- observers

-- what is known of each look of one that has seen something
pub seen_fact : (o : Observer) (g : Option Glance) (P : Type 0) (steps : List trace.SeenStep) → HasSeen o steps → IsSeenBy o g (λ x. P) → P
seen_fact observer.Nothing g P steps has is = absurd has
seen_fact (observer.Steps v) None P steps has is = absurd is
seen_fact (observer.Steps v) (Some g) P steps has is = is

-- ---- states that no machine can tell apart

module _ (form : Layout) (n : ℕ) (k : trace.StepKind) (stored : Option (ℕ × ℕ)) (places : List ℕ) (low : AreLow places) (depth later : ℕ)
    (s now d new : State) (before : IsSeenAs s now) (behind : IsSeenAs d new) where
  bytes_same : (l : List ℕ) → AreLow l → changes s.mem d.mem l ≡ changes now.mem new.mem l
  bytes_same [] h = refl
  bytes_same (a ∷ l) h =
      ap (λ (v : ℕ). if v == d.mem a then changes s.mem d.mem l else record { place = a; old = v; new = d.mem a } ∷ changes s.mem d.mem l) (before.mem a h.0)
      ∙ ap (λ (w : ℕ). if now.mem a == w then changes s.mem d.mem l else record { place = a; old = now.mem a; new = w } ∷ changes s.mem d.mem l)
      (behind.mem a h.0)
      ∙ ap (λ (rest : List trace.Change). if now.mem a == new.mem a then rest else record { place = a; old = now.mem a; new = new.mem a } ∷ rest)
      (bytes_same l h.1)

  abbrev with_bytes : List trace.Change → trace.SeenStep
  with_bytes l = record {
    number = n;
    kind = k;
    at = s.pc;
    to = d.pc;
    depth = depth;
    later = later;
    stored = stored;
    regs = changes s.regs d.regs (from_to form.first (length form.registers));
    flags = changes s.flags d.flags (from_to 0 (length form.flags));
    bytes = l;
  }

  pub step_same : seen_between form k n stored places s depth d later ≡ seen_between form k n stored places now depth new later
  step_same =
      ap with_bytes (bytes_same places low)
      ∙ ap (λ (z : State). seen_between form k n stored places z depth (with_memory d new.mem) later) (sym before.rest)
      ∙ ap (λ (z : State). seen_between form k n stored places now depth z later) (sym behind.rest)

-- ---- a step

module _ (p : Program) (stepped : List Contract) (own : Option Contract) (lawful : HasLawfulRows (program_in p own)) (memory : ReadsMemory (program_in p own))
    (entry : State) (c : Place) (now : State) (stack : List ℕ) (at : IsAt p c now stack) (now_state : IsState now) (form : Layout) (n choice : ℕ)
    (g : Content) where
  abbrev F : Frame
  F = called_frame p stepped own

  stored_are : (s : Stand) → stored_at s F c.state ≡ stored_at s F now
  stored_are stand.Row = stores_same p stepped own lawful memory entry c now stack at now_state
  stored_are stand.Contract = refl

  written_are : (o : Option Contract) → written_by o F c.state ≡ written_by o F now
  written_are None = refl
  written_are (Some x) = written_same p stepped own entry c.state now at.seen x.writes

  places_are : (s : Stand) → places_at s F c.state ≡ places_at s F now
  places_are stand.Row = places_same p stepped own lawful memory entry c now stack at now_state
  places_are stand.Contract =
      ap (λ a. written_by (contract_at stepped a) F c.state) (sym (ap (λ (z : State). z.pc) at.seen.rest)) ∙ written_are (contract_at stepped now.pc)

  unfolded : (s : Stand) → turn_seen s F form entry n c choice g
      ≡ seen_between form (kind_at s) n (stored_at s F c.state) (places_at s F c.state) c.state (length c.stack) (turn_left s F entry c choice g)
      (length (next_place c (turned s F entry c choice g)).stack)
  unfolded stand.Row = refl
  unfolded stand.Contract = refl

  module _ (new : State) (after : List ℕ) (step : ℕ) (wrong : Option BlockCause) (right : wrong ≡ None) where
    no_wrong : (w : BlockCause) → wrong ≡ Some w → ⊥
    no_wrong w is = let both : Some w ≡ None = sym is ∙ right in cc

    -- the state that it leaves
    pub turn_leaves : (s : Stand) (y : CalledStepEnd) → IsTurnEnd y p new after step (turned s F entry c choice g) wrong →
        IsLeftBy s y p entry now choice new → IsSeenAs (turn_left s F entry c choice g) new
    turn_leaves s end.NoCall is left = absurd (no_wrong (WrongAt step) is)
    turn_leaves s (end.Breaks line) is left = absurd (no_wrong (BreaksLine line) is.1)
    turn_leaves stand.Row (end.Halts e) is left =
        subst (IsSeenAs (left_in (program_in p own) entry c.state choice)) (sym left)
        (left_alike p stepped own lawful memory entry c now stack at now_state choice)
    turn_leaves stand.Row end.GoesTo is left =
        subst (IsSeenAs (left_in (program_in p own) entry c.state choice)) (sym left)
        (left_alike p stepped own lawful memory entry c now stack at now_state choice)
    turn_leaves stand.Row end.Calls is left =
        subst (IsSeenAs (left_in (program_in p own) entry c.state choice)) (sym left)
        (left_alike p stepped own lawful memory entry c now stack at now_state choice)
    turn_leaves stand.Row end.Leaves is left =
        subst (IsSeenAs (left_in (program_in p own) entry c.state choice)) (sym left)
        (left_alike p stepped own lawful memory entry c now stack at now_state choice)
    turn_leaves stand.Contract (end.Halts e) is left =
        subst (λ z. IsSeenAs (next_place c z).state new) (sym is.0) (subst (IsSeenAs c.state) (sym left) at.seen)
    turn_leaves stand.Contract end.GoesTo is left = subst (λ z. IsSeenAs (next_place c z).state new) (sym is.1) is.2.seen
    turn_leaves stand.Contract end.Calls is left = subst (λ z. IsSeenAs (next_place c z).state new) (sym is.1) is.2.seen
    turn_leaves stand.Contract end.Leaves is left =
        subst (λ z. IsSeenAs (next_place c z).state new) (sym is.1) (subst (IsSeenAs c.state) (sym left) at.seen)

    module _ (depth : ℕ) (deep : depth ≡ length stack) where
      depth_is : length c.stack ≡ depth
      depth_is = ap length at.stack_is ∙ sym deep

      -- how deep it leaves it
      later_is : (y : CalledStepEnd) (x : FrameStep) → IsTurnEnd y p new after step x wrong → length (next_place c x).stack ≡ later_of y depth (length after)
      later_is (end.Halts e) x is = ap (λ z. length (next_place c z).stack) is.0 ∙ depth_is
      later_is end.GoesTo x is = ap (λ z. length (next_place c z).stack) is.1 ∙ ap length is.2.stack_is
      later_is end.Calls x is = ap (λ z. length (next_place c z).stack) is.1 ∙ ap length is.2.stack_is
      later_is end.Leaves x is = ap (λ z. length (next_place c z).stack) is.1 ∙ depth_is
      later_is (end.Breaks line) x is = absurd (no_wrong (BreaksLine line) is.1)
      later_is end.NoCall x is = absurd (no_wrong (WrongAt step) is)

      -- it is seen as the code shows it
      pub turn_is : (s : Stand) (y : CalledStepEnd) → IsTurnEnd y p new after step (turned s F entry c choice g) wrong →
          IsLeftBy s y p entry now choice new → AreLow (places_at s F now) → turn_seen s F form entry n c choice g
          ≡ seen_between form (kind_at s) n (stored_at s F now) (places_at s F now) now depth new (later_of y depth (length after))
      turn_is s y is left low =
          let d = turn_left s F entry c choice g in
          let there = length (next_place c (turned s F entry c choice g)).stack in
          unfolded s
          ∙ ap (λ o. seen_between form (kind_at s) n o (places_at s F c.state) c.state (length c.stack) d there) (stored_are s)
          ∙ ap (λ l. seen_between form (kind_at s) n (stored_at s F now) l c.state (length c.stack) d there) (places_are s)
          ∙ ap (λ k. seen_between form (kind_at s) n (stored_at s F now) (places_at s F now) c.state k d there) depth_is
          ∙ ap (seen_between form (kind_at s) n (stored_at s F now) (places_at s F now) c.state depth d) (later_is y (turned s F entry c choice g) is)
          ∙ step_same form n (kind_at s) (stored_at s F now) (places_at s F now) low depth (later_of y depth (length after)) c.state now d new at.seen
          (turn_leaves s y is left)
