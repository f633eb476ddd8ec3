-- The start that is printed of a reading is a start, and its run is the reading's but for memory.
use Rattle.std.proofs.Common.{◌≡◌, ⊎_elim, inl, inr, ◌⊎◌, ℕ, zero, suc, ◌^◌, ◌<◌, ◌≤◌, refl, ap, sym, ◌∙◌, subst, arith, List, [], ◌∷◌, ◌++◌, Option, Some, None, Bool, true, false}
use Rattle.std.specs.Prelude.{Contains, ◌==◌, ◌&&◌, ◌||◌, nat_le, is_some, if◌then◌else◌}
use Rattle.std.proofs.lemmas.Bool.Decides.{nat_tests}
use Rattle.std.proofs.lemmas.Bool.{or_right}
use Rattle.word_spec.specs.Words.{word}
use Rattle.word_spec.specs.Memory.{Memory, byte_in}
use Rattle.word_spec.specs.State.{State, Written, IsState}
use Rattle.machine_spec.specs.Machine.{Row}
use Rattle.machine_spec.specs.MachineLaws.{with_memory}
use Rattle.machine_spec.specs.Endings.{Start}
use Rattle.machine_spec.specs.StateText.{Layout, known_or}
use Rattle.bilv_spec.specs.Elf.{Cell, kept, is_kept}
use Rattle.bilv_spec.specs.Run.{Program, Place, Step, Stops, Arrives, Exits, Run, Going, Exited, Failed, Turned, step, after_step, arrive, turn, one_more, run}
use Rattle.bilv_spec.specs.Verdict.{IsEntryState, IsStart, fixed}
use Rattle.bilv_spec.specs.Points.{file_row, is_known_at, byte_of_cell}
use Rattle.bilv_spec.specs.Questions.{Reading, IsReading, by_file, point_of, read_on, read_run}
use Rattle.bilv_spec.specs.PointLaws.{HasLawfulRows, ReadsMemory}
use Rattle.bilv_spec.specs.Answers.{start_in}
use Rattle.bilv_spec.specs.Scripts.{draws}
use Rattle.bilv_spec.proofs.PointSteps.{in_left, in_right, same_number}
use Rattle.bilv_spec.proofs.FileWords.{runs_by_file}
use Rattle.model_spec.specs.Reads.{line_reads, step_reads, run_reads_at, run_reads}
use Rattle.model_spec.specs.Models.{all_reads, IsPrinted}
use Rattle.model_spec.specs.ModelLaws.{StandAlike, PrintedRunsAlike}
use Rattle.model_spec.proofs.Alike.{Among, Agree, lines_same}
use Rattle.model_spec.proofs.AlikeSteps.{Both, StepBoth, step_both}

-- ---- lists of addresses, or steps, with their bytes

next_in : (e : ℕ × ℕ) (rest : List (ℕ × ℕ)) (x : ℕ × ℕ) → Contains rest x → Contains (e ∷ rest) x
next_in e rest x (k, l, h) = (suc k, omega arith, h)

first_in : (e : ℕ × ℕ) (rest : List (ℕ × ℕ)) (a : ℕ) → a ≡ e.0 → Contains (e ∷ rest) (a, e.1)
first_in e rest a h = (0, omega arith, ap (λ z. (z, e.1)) (sym h))

-- the byte that is found is 0, or stands in the list
found : (l : List (ℕ × ℕ)) (a : ℕ) → (byte_in l a ≡ 0) ⊎ Contains l (a, byte_in l a)
found [] a = inl refl
found (e ∷ rest) a = by (a == e.0) refl (found rest a)
  where
    by : (b : Bool) → (a == e.0) ≡ b → (byte_in rest a ≡ 0) ⊎ Contains rest (a, byte_in rest a) →
        ((if b then e.1 else byte_in rest a) ≡ 0) ⊎ Contains (e ∷ rest) (a, if b then e.1 else byte_in rest a)
    by true q r = inr (first_in e rest a (same_number a e.0 q))
    by false q (inl z) = inl z
    by false q (inr c) = inr (next_in e rest (a, byte_in rest a) c)

-- where some byte stands for the address, the one that is found does
hit : (l : List (ℕ × ℕ)) (a b : ℕ) → Contains l (a, b) → Contains l (a, byte_in l a)
hit [] a b (k, l, h) = absurd (omega arith)
hit (e ∷ rest) a b c = by (a == e.0) refl c (λ r. hit rest a b r)
  where
    by : (t : Bool) → (a == e.0) ≡ t → Contains (e ∷ rest) (a, b) → (Contains rest (a, b) → Contains rest (a, byte_in rest a)) →
        Contains (e ∷ rest) (a, if t then e.1 else byte_in rest a)
    by true q c later = first_in e rest a (same_number a e.0 q)
    by false q (zero, l, h) later =
        absurd (let s : e ≡ (a, b) = h in let t : a ≡ e.0 = ap (λ (z : ℕ × ℕ). z.0) (sym s) in grind (arith, nat_tests))
    by false q (suc i, l, h) later = next_in e rest (a, byte_in rest a) (later (i, omega arith, h))

-- So it is a value that alone stands there, and does where it is not 0.
exact : (l : List (ℕ × ℕ)) (a v : ℕ) → ((b : ℕ) → Contains l (a, b) → b ≡ v) → ((v ≡ 0 → ⊥) → Contains l (a, v)) → byte_in l a ≡ v
exact l a zero alone there = ⊎_elim (λ z. z) (λ c. alone (byte_in l a) c) (found l a)
exact l a (suc v) alone there = alone (byte_in l a) (hit l a (suc v) (there (λ z. (let c : suc v ≡ 0 = z in omega (arith, c)))))

-- ---- runs

-- two runs stand at places that are the same but for memory, or have ended alike
abbrev RunBoth : (ℕ → Type 0) → (n : ℕ) → Run → Run → Type 0
RunBoth A n (Going turns i c) (Going other j d) = (i ≡ n) × (turns ≡ other) × (i ≡ j) × Both A c d
RunBoth A n (Exited at i) (Exited b j) = (at ≡ b) × (i ≡ j)
RunBoth A n (Failed e at i) (Failed f b j) = (e ≡ f) × (at ≡ b) × (i ≡ j)
RunBoth A n (Turned at i) (Turned b j) = (at ≡ b) × (i ≡ j)
RunBoth A n x y = ⊥

module _ (A : ℕ → Type 0) (k turns n at : ℕ) where
  turn_both : (b : Bool) (c d : Place) → Both A c d → RunBoth A (suc n) (turn b turns n at c) (turn b turns n at d)
  turn_both true c d h = (refl, refl)
  turn_both false c d h = (omega arith, refl, refl, h)

  arrive_both : (b : Bool) (c d : Place) → Both A c d → RunBoth A (suc n) (arrive b k turns n at c) (arrive b k turns n at d)
  arrive_both false c d h = (omega arith, refl, refl, h)
  arrive_both true c d h = turn_both (turns == k) c d h

  after_both : (x y : Step) → StepBoth A x y → RunBoth A (suc n) (after_step k turns n at x) (after_step k turns n at y)
  after_both (Stops e) (Stops f) h = (h, refl, refl)
  after_both (Exits s) (Exits t) h = (refl, refl)
  after_both (Arrives c) (Arrives d) h =
      subst (λ (z : ℕ). RunBoth A (suc n) (arrive (nat_le c.state.pc at) k turns n at c) (arrive (nat_le z at) k turns n at d))
      (ap (λ (z : State). z.pc) (sym h.state)) (arrive_both (nat_le c.state.pc at) c d h)
  after_both (Stops e) (Exits t) h = absurd h
  after_both (Stops e) (Arrives d) h = absurd h
  after_both (Exits s) (Stops f) h = absurd h
  after_both (Exits s) (Arrives d) h = absurd h
  after_both (Arrives c) (Stops f) h = absurd h
  after_both (Arrives c) (Exits t) h = absurd h

-- what is read at a step is read in more steps
reads_at : (p : Program) (k : ℕ) (r : Reading) (n steps : ℕ) → n < steps → (a : ℕ) → Contains (run_reads_at p r (read_run p k r n)) a →
    Contains (run_reads p k r steps) a
unfolding run_reads
reads_at p k r n zero l a c = absurd (omega arith)
reads_at p k r n (suc m) l a c = by (n == m) refl (λ z. reads_at p k r n m z a c)
  where
    by : (b : Bool) → (n == m) ≡ b → (n < m → Contains (run_reads p k r m) a) → Contains (run_reads p k r m ++ run_reads_at p r (read_run p k r m)) a
    by true q later =
        in_right (run_reads p k r m) (run_reads_at p r (read_run p k r m)) a
        (subst (λ (z : ℕ). Contains (run_reads_at p r (read_run p k r z)) a) (same_number n m q) c)
    by false q later = in_left (run_reads p k r m) (run_reads_at p r (read_run p k r m)) a (later (grind (arith, nat_tests)))

-- ---- the printed start

module _ (p : Program) (layout : Layout) (k steps : ℕ) (r : Reading) (w : Written) (reading : IsReading r) (entry : IsEntryState p r.state)
    (printed : IsPrinted p layout k r steps w) where
  abbrev start : Start
  start = start_in p layout w

  abbrev m0 : Memory
  m0 = start.state.mem

  abbrev t0 : State
  t0 = with_memory r.state m0

  abbrev A : ℕ → Type 0
  A a = Contains (all_reads p k r steps) a

  -- a known byte is the reading's
  known_by : (o : Option Cell) (a : ℕ) → a < 2 ^ 32 → p.loaded a ≡ o → (is_kept o || (is_some o && fixed p.notes.fixed a)) ≡ true →
      r.state.mem a ≡ byte_of_cell o
  known_by None a l e h = absurd (let c : false ≡ true = h in cc)
  known_by (Some c) a l e h = by (kept c) refl h
    where
      by : (b : Bool) → kept c ≡ b → (b || (true && fixed p.notes.fixed a)) ≡ true → r.state.mem a ≡ c.byte
      by true q h = entry.kept_bytes a c l e q
      by false q h = entry.fixed_bytes a c l e h

  wrapped : (a : ℕ) → a < 2 ^ 32 → word 32 a ≡ a
  wrapped a l = omega arith

  -- a known byte of the printed memory is the file's, another one is as it is written
  known_byte_at : (a : ℕ) → is_known_at p (word 32 a) ≡ true → m0 a ≡ byte_of_cell (p.loaded (word 32 a))
  known_byte_at a q = ap (λ (b : Bool). known_or (if b then Some (byte_of_cell (p.loaded (word 32 a))) else None) w.bytes a) q

  other_byte_at : (a : ℕ) → is_known_at p (word 32 a) ≡ false → m0 a ≡ byte_in w.bytes (word 32 a)
  other_byte_at a q = ap (λ (b : Bool). known_or (if b then Some (byte_of_cell (p.loaded (word 32 a))) else None) w.bytes a) q

  known_at : (a : ℕ) → a < 2 ^ 32 → is_known_at p a ≡ true → m0 a ≡ byte_of_cell (p.loaded a)
  known_at a l q = subst (λ (z : ℕ). m0 a ≡ byte_of_cell (p.loaded z)) (wrapped a l)
      (known_byte_at a (subst (λ (z : ℕ). is_known_at p z ≡ true) (sym (wrapped a l)) q))

  agree : Agree A r.state.mem m0
  agree a l c = by (is_known_at p a) refl
    where
      by : (b : Bool) → is_known_at p a ≡ b → r.state.mem a ≡ m0 a
      by true q = known_by (p.loaded a) a l refl q ∙ sym (known_at a l q)
      by false q =
          let at : m0 a ≡ byte_in w.bytes a =
          other_byte_at a (subst (λ (z : ℕ). is_known_at p z ≡ false) (sym (wrapped a l)) q) ∙ ap (byte_in w.bytes) (wrapped a l) in
          sym (at ∙ exact w.bytes a (r.state.mem a) (λ b i. ((printed.bytes a b).0 i).3) (λ z. (printed.bytes a (r.state.mem a)).1 (l, c, q, refl, z)))

  byte_small : (a : ℕ) → m0 a < 256
  byte_small a = by (is_known_at p (word 32 a)) refl
    where
      by : (b : Bool) → is_known_at p (word 32 a) ≡ b → m0 a < 256
      by true q =
          let l : word 32 a < 2 ^ 32 = omega arith in
          subst (λ (z : ℕ). z < 256) (known_by (p.loaded (word 32 a)) (word 32 a) l refl q ∙ sym (known_byte_at a q)) (reading.state.mem (word 32 a))
      by false q =
          subst (λ (z : ℕ). z < 256) (sym (other_byte_at a q))
          (⊎_elim (λ z. subst (λ (y : ℕ). y < 256) (sym z) (omega arith))
          (λ c. subst (λ (y : ℕ). y < 256) (sym (((printed.bytes (word 32 a) (byte_in w.bytes (word 32 a))).0 c).3)) (reading.state.mem (word 32 a)))
          (found w.bytes (word 32 a)))

  state : IsState t0
  state = record { pc = reading.state.pc; regs = reading.state.regs; flags = reading.state.flags; mem = byte_small }

  -- it is an entry state, with the reading's registers and flags
  required : Among A (line_reads p.machine.endian p.notes.requires r.state r.state)
  required a c = in_left (line_reads p.machine.endian p.notes.requires r.state r.state) (run_reads p k r steps) a c

  cell_known : (a : ℕ) (c : Cell) → p.loaded a ≡ Some c → (kept c || (true && fixed p.notes.fixed a)) ≡ true → is_known_at p a ≡ true
  cell_known a c e h = ap (λ o. is_kept o || (is_some o && fixed p.notes.fixed a)) e ∙ h

  pub enters : IsEntryState p t0
  enters = record {
    state = state;
    pc = entry.pc;
    link = entry.link;
    kept_bytes = λ a c l e q. known_at a l (cell_known a c e (ap (λ (b : Bool). b || (true && fixed p.notes.fixed a)) q)) ∙ ap byte_of_cell e;
    fixed_bytes = λ a c l e q. known_at a l (cell_known a c e (or_right (kept c) (true && fixed p.notes.fixed a) q)) ∙ ap byte_of_cell e;
    requires =
        sym (lines_same A p.machine.endian r.state r.state m0 m0 agree agree p.notes.requires required) ∙ entry.requires;
  }

  pub choices_small : (i : ℕ) → start.choices i < 4
  choices_small i =
      ⊎_elim (λ z. subst (λ (y : ℕ). y < 4) (sym z) (omega arith))
      (λ c. let it = ((printed.choices i (byte_in w.choices i)).0 c).1 in subst (λ (y : ℕ). y < 4) (sym it.choice_is)
      (reading.choice (point_of it.turns it.place)))
      (found w.choices i)

  module _ (lawful : HasLawfulRows p) (memory : ReadsMemory p) (regs : r.state.regs ≡ start.state.regs) (flags : r.state.flags ≡ start.state.flags) where
    is_start : t0 ≡ start.state
    is_start = λ i. record { pc = entry.pc i; regs = regs i; flags = flags i; mem = m0 }

    pub starts : IsStart p start
    starts = record { entry = subst (IsEntryState p) is_start enters; choices = choices_small }

    -- ---- its run

    abbrev q : Program
    q = by_file p

    same_place : (n turns i other j : ℕ) (c d : Place) → Going turns i c ≡ Going other j d → (turns ≡ other) × (c ≡ d)
    same_place n turns i other j c d h = (cc, cc)

    module _ (n : ℕ) (l : n < steps) where
      chosen : (turns : ℕ) (c : Place) → read_run p k r n ≡ Going turns n c → (row : Row) → file_row p c.state.pc ≡ Some row → row.draws ≡ true →
          byte_in w.choices n ≡ r.choice (point_of turns c)
      chosen turns c at row is drawn =
          exact w.choices n (r.choice (point_of turns c))
          (λ b i. (let it = ((printed.choices n b).0 i).1 in let same = same_place n it.turns n turns n it.place c (sym it.before ∙ at) in
          it.choice_is ∙ ap (λ z. r.choice (point_of z it.place)) same.0 ∙ ap (λ (z : Place). r.choice (point_of turns z)) same.1))
          (λ z. (printed.choices n (r.choice (point_of turns c))).1 (
            l,
            record {
              turns = turns;
              place = c;
              before = at;
              draws_there = ap draws is ∙ drawn;
              choice_is = refl;
            },
            z,
          ))

      go_on : (x y : Run) → read_run p k r n ≡ x → RunBoth A n x y → RunBoth A (suc n) (read_on p k r x) (one_more q k start y)
      go_on (Going turns i c) (Going other j d) at h =
          let number : i ≡ n = h.0 in
          let here : read_run p k r n ≡ Going turns n c = at ∙ ap (λ z. Going turns z c) number in
          let both : Both A c d = h.3 in
          let reads : Among A (step_reads q r.state c (r.choice (point_of turns c))) =
          λ a e. in_right (line_reads p.machine.endian p.notes.requires r.state r.state) (run_reads p k r steps) a
          (reads_at p k r n steps l a (subst (λ z. Contains (run_reads_at p r z) a) (sym at) e)) in
          let place : record { state = with_memory c.state both.mem; stack = c.stack } ≡ d = λ z. record { state = sym both.state z; stack = both.stack z } in
          let steps_both = step_both A p r.state m0 agree lawful c.state both.mem c.stack both.agree both.first both.second
          (r.choice (point_of turns c)) (start.choices j)
          (λ row is drawn. sym (ap (byte_in w.choices) (sym h.2 ∙ number) ∙ chosen turns c here row is drawn)) reads in
          let there : StepBoth A (step q r.state c (r.choice (point_of turns c))) (step q start.state d (start.choices j)) =
          subst (λ z. StepBoth A (step q r.state c (r.choice (point_of turns c))) (step q z d (start.choices j))) is_start
          (subst (λ z. StepBoth A (step q r.state c (r.choice (point_of turns c))) (step q t0 z (start.choices j))) place steps_both) in
          let after = after_both A k turns i c.state.pc (step q r.state c (r.choice (point_of turns c))) (step q start.state d (start.choices j)) there in
          let pcs : c.state.pc ≡ d.state.pc = ap (λ (z : State). z.pc) (sym both.state) in
          subst (λ z. RunBoth A (suc z) (read_on p k r (Going turns i c)) (one_more q k start (Going other j d))) number
          (subst (λ z. RunBoth A (suc i) (read_on p k r (Going turns i c)) (after_step k z j d.state.pc (step q start.state d (start.choices j)))) h.1
          (subst (λ z. RunBoth A (suc i) (read_on p k r (Going turns i c)) (after_step k turns z d.state.pc (step q start.state d (start.choices j)))) h.2
          (subst (λ z. RunBoth A (suc i) (read_on p k r (Going turns i c)) (after_step k turns i z (step q start.state d (start.choices j)))) pcs after)))
      go_on (Exited at i) (Exited b j) e h = h
      go_on (Failed x at i) (Failed f b j) e h = h
      go_on (Turned at i) (Turned b j) e h = h
      go_on (Going turns i c) (Exited b j) e h = absurd h
      go_on (Going turns i c) (Failed f b j) e h = absurd h
      go_on (Going turns i c) (Turned b j) e h = absurd h
      go_on (Exited at i) (Going other j d) e h = absurd h
      go_on (Exited at i) (Failed f b j) e h = absurd h
      go_on (Exited at i) (Turned b j) e h = absurd h
      go_on (Failed x at i) (Going other j d) e h = absurd h
      go_on (Failed x at i) (Exited b j) e h = absurd h
      go_on (Failed x at i) (Turned b j) e h = absurd h
      go_on (Turned at i) (Going other j d) e h = absurd h
      go_on (Turned at i) (Exited b j) e h = absurd h
      go_on (Turned at i) (Failed f b j) e h = absurd h

    runs_both : (n : ℕ) → n ≤ steps → RunBoth A n (read_run p k r n) (run q k start n)
    unfolding run read_run
    runs_both zero l = (
      refl,
      refl,
      refl,
      record {
        stack = refl;
        mem = m0;
        state = sym is_start;
        agree = agree;
        first = reading.state;
        second = state;
      },
    )
    runs_both (suc n) l = go_on n (omega arith) (read_run p k r n) (run q k start n) refl (runs_both n (omega arith))

    alike_of : (n : ℕ) (x y : Run) → RunBoth A n x y → StandAlike x y
    alike_of n (Going turns i c) (Going other j d) h =
        let both : Both A c d = h.3 in (
          h.1,
          h.2,
          both.stack,
          ap (λ (z : State). z.pc) (sym both.state),
          ap (λ (z : State). z.regs) (sym both.state),
          ap (λ (z : State). z.flags) (sym both.state),
        )
    alike_of n (Exited at i) (Exited b j) h = h
    alike_of n (Failed x at i) (Failed f b j) h = h
    alike_of n (Turned at i) (Turned b j) h = h
    alike_of n (Going turns i c) (Exited b j) h = absurd h
    alike_of n (Going turns i c) (Failed f b j) h = absurd h
    alike_of n (Going turns i c) (Turned b j) h = absurd h
    alike_of n (Exited at i) (Going other j d) h = absurd h
    alike_of n (Exited at i) (Failed f b j) h = absurd h
    alike_of n (Exited at i) (Turned b j) h = absurd h
    alike_of n (Failed x at i) (Going other j d) h = absurd h
    alike_of n (Failed x at i) (Exited b j) h = absurd h
    alike_of n (Failed x at i) (Turned b j) h = absurd h
    alike_of n (Turned at i) (Going other j d) h = absurd h
    alike_of n (Turned at i) (Exited b j) h = absurd h
    alike_of n (Turned at i) (Failed f b j) h = absurd h

    pub alike : (n : ℕ) → n ≤ steps → StandAlike (read_run p k r n) (run p k start n)
    alike n l =
        subst (λ z. StandAlike (read_run p k r n) z) (sym (runs_by_file p lawful memory k start starts.entry n))
        (alike_of n (read_run p k r n) (run q k start n) (runs_both n l))

pub printed_runs_alike : PrintedRunsAlike
printed_runs_alike p lawful memory layout k steps r w reading entry printed regs flags = (
  starts p layout k steps r w reading entry printed lawful memory regs flags,
  alike p layout k steps r w reading entry printed lawful memory regs flags,
)
