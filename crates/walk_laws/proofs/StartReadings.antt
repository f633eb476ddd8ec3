-- The start of values: its reading makes the question true, and its run is the reading's.
use Rattle.std.proofs.Common.{◌≡◌, inl, inr, refl, ap, sym, ◌∙◌, subst, arith, ℕ, zero, suc, ◌+◌, ◌-◌, ◌*◌, ◌/◌, ◌%◌, ◌^◌, ◌<◌, ◌≤◌, [], ◌∷◌, List, Option, Some, None, Bool, true, false, length, get_or}
use Rattle.std.specs.Prelude.{◌==◌, ◌||◌, nat_lt, nat_eq, slice_index, map, All, if◌then◌else◌}
use Rattle.std.specs.List.{list_any}
use Rattle.std.proofs.lemmas.Bool.Decides.{nat_tests}
use Rattle.std.proofs.lemmas.Nat.{mod_below}
use Rattle.std.proofs.lemmas.Option.{get_or_from_slice_get}
use Rattle.std.proofs.Math.Nat.{pow-le-pow_right, div-eq_of_lt}
use Rattle.std.proofs.Math.Path.{fun_ext}
use Rattle.word_spec.specs.RowFiles.{from_to}
use Rattle.word_spec.specs.Words.{bit_at, word}
use Rattle.word_spec.specs.Memory.{Memory, byte_in}
use Rattle.clause_spec.specs.Clauses.{Cnf, Satisfies}
use Rattle.machine_spec.specs.StateText.{Layout, register_at, known_or}
use Rattle.word_spec.specs.State.{Written}
use Rattle.bilv_spec.specs.Run.{Program, Run, Going, Exited, Failed, Turned, Place, run, one_more}
use Rattle.machine_spec.specs.Endings.{Start}
use Rattle.bilv_spec.specs.Points.{is_known_at}
use Rattle.bilv_spec.specs.Questions.{Reading, IsReading, IsTrue, IsTrueOver, IsEntryStateOver, by_file, point_of, read_run, read_on}
use Rattle.bilv_spec.specs.Verdict.{IsEntryState}
use Rattle.bilv_spec.specs.PointLaws.{HasLawfulRows}
use Rattle.call_spec.specs.Calls.{Question}
use Rattle.bilv_spec.specs.QuestionLaws.{Follows}
use Rattle.bilv_spec.specs.Answers.{start_in, known_byte}
use Rattle.bilv_spec.proofs.Pigeons.{truth}
use Rattle.bilv_spec.proofs.ReadingRuns.{Numbered, numbered}
use Rattle.term_spec.specs.Terms.{TermReading, InRange, with_mem, term_word}
use Rattle.walk_spec.specs.Unrolled.{Carried, UnrolledProgram, Walk, WalkIsAt, WalkExits, WalkFails, WalkTurns, byte_of_runs, point_at, walk}
use Rattle.walk_spec.specs.Unrolling.{IsUnrolling, IsLaidOut}
use Rattle.term_spec.specs.WalkQuestions.{QuestionTerm, HasAsked, term_reading}
use Rattle.term_spec.specs.Cells.{Cells, AreFormed, Gives, IsAllowed}
use Rattle.term_spec.specs.TermLaws.{AsksKnown, AsksLiterals}
use Rattle.term_spec.specs.ClauseForm.{TellsClauses, IsBroken, IsStartOf, IsReadingOf, reading, start_memory, first_flag, bits_from, place_in}
use Rattle.term_spec.proofs.EntrySame.{entry_is_same, entry_over}
use Rattle.walk_laws.specs.Layers.{IsFitting, IsLayered, ValuesGiveStart, StartIsWritten, StartBreaksNone, BrokenIsNew}
use Rattle.walk_laws.specs.RunOfWalk.{IsSame}
use Rattle.walk_laws.proofs.CellValues.{Agree, word_same, word_fits}
use Rattle.walk_laws.proofs.BaseBytes.{gives, agree_all}
use Rattle.walk_laws.proofs.InputOrder.{row_get}
use Rattle.walk_laws.proofs.InputPlaces.{spot, spot_is, range_length}
use Rattle.walk_laws.proofs.InputReadings.{of}
use Rattle.walk_laws.proofs.InputsWithin.{reading_in_range}
use Rattle.walk_laws.proofs.QuestionClauses.{read_as, from_root, root_same}
use Rattle.walk_laws.proofs.WalkRuns.{walk_is_run}

past_end : (xs : List ℕ) (i : ℕ) → length xs ≤ i → slice_index xs i ≡ 0
past_end [] i l = refl
past_end (x ∷ xs) zero l = absurd (omega arith)
past_end (x ∷ xs) (suc i) l = past_end xs i (omega arith)

pub map_long : (f : ℕ → ℕ) (xs : List ℕ) → length (map f xs) ≡ length xs
map_long f [] = refl
map_long f (x ∷ xs) = let e = map_long f xs in omega arith

pub map_below : (f : ℕ → ℕ) (m : ℕ) → ((n : ℕ) → f n < m) → (xs : List ℕ) (i d : ℕ) → i < length (map f xs) → get_or (map f xs) i d < m
map_below f m h [] i d l = absurd (omega arith)
map_below f m h (x ∷ xs) zero d l = h x
map_below f m h (x ∷ xs) (suc i) d l = map_below f m h xs i d (omega arith)

not_below : (first count n : ℕ) → n < first → list_any (nat_eq n) (from_to first count) ≡ false
not_below first zero n l = refl
not_below first (suc count) n l =
    let e : nat_eq n first ≡ false = grind (arith, nat_tests) in ap (λ z. z ||
    list_any (nat_eq n) (from_to (first + 1) count)) e ∙ not_below (first + 1) count n (omega arith)

not_above : (first count n : ℕ) → first + count ≤ n → list_any (nat_eq n) (from_to first count) ≡ false
not_above first zero n l = refl
not_above first (suc count) n l =
    let e : nat_eq n first ≡ false = grind (arith, nat_tests) in ap (λ z. z ||
    list_any (nat_eq n) (from_to (first + 1) count)) e ∙ not_above (first + 1) count n (omega arith)

some_index : (xs : List ℕ) (i n : ℕ) → i < length xs → get_or xs i 0 ≡ n → slice_index xs i ≡ n
some_index xs i n l e = e

-- a register that is written, by its number
pub register_is : (f : ℕ → ℕ) (first count n : ℕ) → (list_any (nat_eq n) (from_to first count) ≡ false → f n ≡ 0) →
    (if nat_lt n first then 0 else slice_index (map f (from_to first count)) (n - first)) ≡ f n
register_is f first count n zero_else = elim (truth (nat_lt n first)) [
  | inl t ↦ ap (λ z. if z then 0 else slice_index (map f (from_to first count)) (n - first)) t ∙ sym
      (zero_else (not_below first count n (grind (arith, nat_tests))))
  | inr g ↦ ap (λ z. if z then 0 else slice_index (map f (from_to first count)) (n - first)) g ∙ elim (truth (nat_lt (n - first) count)) [
    | inl t ↦ (let l : n - first < count = grind (arith, nat_tests) in
        let e : first + (n - first) ≡ n = grind (arith, nat_tests) in
        get_or_from_slice_get (map f (from_to first count)) (n - first) (f (first + (n - first))) 0 (row_get f first count (n - first) l) ∙ ap f e)
    | inr h ↦ (let above : first + count ≤ n = grind (arith, nat_tests) in
        let far : count ≤ n - first = grind (arith, nat_tests) in
        let long : length (map f (from_to first count)) ≡ count = map_long f (from_to first count) ∙ range_length first count in
        past_end (map f (from_to first count)) (n - first) (omega arith) ∙ sym (zero_else (not_above first count n above)))
  ]
]

pub high_bit : (n f a : ℕ) → a < 2 ^ n → n ≤ f → bit_at f a ≡ 0
high_bit n f a l h =
    let p = pow-le-pow_right (let two : 1 ≤ 2 = omega arith in two) h in
    let s : a < 2 ^ f = omega arith in ap (λ z. z % 2) (small_div a (2 ^ f) s)
  where
    small_div : (a m : ℕ) → a < m → a / m ≡ 0
    small_div a m l = div-eq_of_lt l

pub byte_small : (xs : List (ℕ × ℕ)) (a : ℕ) → All (λ b. (b.0 < 2 ^ 32) × (1 ≤ b.1) × (b.1 ≤ 255)) xs → byte_in xs a < 256
byte_small [] a h = omega arith
byte_small (e ∷ rest) a h = by (a == e.0) (h 0 e (omega arith)).2 (byte_small rest a (λ n d l. h (suc n) d (omega arith)))
  where
    by : (b : Bool) → e.1 ≤ 255 → byte_in rest a < 256 → (if b then e.1 else byte_in rest a) < 256
    by true l g = omega arith
    by false l g = g

pub known_small : (o : Option ℕ) (xs : List (ℕ × ℕ)) (a : ℕ) → ((b : ℕ) → o ≡ Some b → b < 256) → byte_in xs (word 32 a) < 256 → known_or o xs a < 256
known_small None xs a h l = l
known_small (Some b) xs a h l = h b refl

-- the reading of a start, and what it has whatever is asked
module _ (p : Program) (k : ℕ) (u : UnrolledProgram) (un : IsUnrolling p k u) (fit : IsFitting u) (c : Cells) (formed : AreFormed u c) (layout : Layout)
    (laid : IsLaidOut layout u) (v : ℕ → Bool) (w : Written) (starts : IsStartOf u c v w) where
  abbrev rd : TermReading
  rd = reading u c v

  -- the start's reading
  abbrev pub start_reading : Reading
  start_reading = record {
    state = record { pc = u.entry; regs = (reading u c v).regs 0; flags = (reading u c v).flags 0; mem = start_memory u w };
    choice = λ x. (reading u c v).choice (spot p k u un c x);
  }

  pub is_of : IsReadingOf u c v w start_reading
  is_of = record { pc = refl; regs = refl; flags = refl; mem = refl; choice = λ i l. ap rd.choice (spot_is p k u un c i l) }

  pub is : IsReading start_reading
  is =
      let range = reading_in_range u c v in
      record {
        state = record {
          pc = fit.entry;
          regs = range.regs 0;
          flags = range.flags 0;
          mem = λ a. known_small (byte_of_runs u.known (word 32 a)) w.bytes a
              (λ b e. fit.known (word 32 a) b e) (byte_small w.bytes (word 32 a) starts.bytes);
        };
        choice = λ x. range.choice (spot p k u un c x);
      }

  pub has : (a b : ℕ) → a < 2 ^ 32 → byte_of_runs u.known a ≡ Some b → start_memory u w a ≡ b
  has a b l e =
      let s : word 32 a ≡ a = omega arith in
      ap (λ z. known_or (byte_of_runs u.known z) w.bytes a) s ∙ ap (λ z. known_or z w.bytes a) e

  pub agree : Agree u (length c.addresses) (reading u c v) (of p k u un c formed start_reading)
  agree =
      let a = agree_all u c formed (with_mem (reading u c v) (start_memory u w)) (of p k u un c formed start_reading) (record {
        regs = λ n h. refl;
        flags = λ f h. refl;
        choice = λ i d. ap (reading u c v).choice (sym (spot_is p k u un c i d.0));
        base = λ j h. absurd (omega arith);
      }) starts.gives (gives u c formed (term_reading u start_reading)) (λ j l. refl) in
      record { regs = a.regs; flags = a.flags; choice = a.choice; base = a.base }

  -- its state is that of the start
  no_register : (n : ℕ) → list_any (nat_eq n) (from_to layout.first (length layout.registers)) ≡ false → rd.regs 0 n ≡ 0
  no_register n h =
      ap (λ z. if list_any (nat_eq n) z then bits_from v (32 * place_in u.registers n) 32 else 0) laid.registers
      ∙ ap (λ z. if z then bits_from v (32 * place_in u.registers n) 32 else 0) h

  regs_same : (n : ℕ) → register_at layout w.regs n ≡ rd.regs 0 n
  regs_same n =
      ap (λ z. register_at layout z n) (starts.regs ∙ ap (map (rd.regs 0)) laid.registers)
      ∙ register_is (rd.regs 0) layout.first (length layout.registers) n (no_register n)

  flags_same : (f : ℕ) → bit_at f w.flags ≡ rd.flags 0 f
  flags_same f = elim (truth (nat_lt f u.flags)) [
    | inl h ↦ starts.flags f (grind (arith, nat_tests))
    | inr h ↦ high_bit u.flags f w.flags starts.flags_fit (grind (arith, nat_tests)) ∙ sym (ap (λ z. if z then bits_from v (first_flag u + f) 1 else 0) h)
  ]

  mem_same : (a : ℕ) → known_or (known_byte p (word 32 a)) w.bytes a ≡ start_memory u w a
  mem_same a = ap (λ z. known_or z w.bytes a) (sym (un.known (word 32 a) (mod_below a (2 ^ 32) (omega arith))))

  state_same : (start_in p layout w).state ≡ start_reading.state
  state_same =
      ap (λ z. record { pc = z; regs = register_at layout w.regs; flags = λ f. bit_at f w.flags; mem = λ a. known_or (known_byte p (word 32 a)) w.bytes a })
      (sym un.entry)
      ∙ ap (λ z. record { pc = u.entry; regs = z; flags = λ f. bit_at f w.flags; mem = λ a. known_or (known_byte p (word 32 a)) w.bytes a }) (fun_ext regs_same)
      ∙ ap (λ z. record { pc = u.entry; regs = rd.regs 0; flags = z; mem = λ a. known_or (known_byte p (word 32 a)) w.bytes a }) (fun_ext flags_same)
      ∙ ap (λ z. record { pc = u.entry; regs = rd.regs 0; flags = rd.flags 0; mem = z }) (fun_ext mem_same)

  -- over the bytes that are asked it begins in an entry state, and so it does over all; and the start follows it
  module _ (lawful : HasLawfulRows p) (asked : ℕ → Bool) (known : AsksKnown p asked) (literals : AsksLiterals p k asked)
      (over : IsEntryStateOver p asked start_reading.state) where
    pub entry_state : IsEntryState p start_reading.state
    entry_state =
        let met = (entry_over p k u un asked known start_reading.state).1 over in
        (entry_is_same p k u un start_reading.state).0 (record { state = met.state; pc = met.pc; lines = met.lines; bytes = λ a b l e ask. has a b l e })

    -- where the walk is, the start has the choice of the point
    at_place : (x : Walk) (turns m : ℕ) (d : Place) → IsSame p u x (Going turns m d) → (i : ℕ) × (e : Carried) × (x ≡ WalkIsAt i e) × (i < length u.points) ×
        ((point_at u i).point ≡ point_of turns d)
    at_place (WalkIsAt i e) turns m d h = (i, e, refl, h.0, h.1)
    at_place WalkExits turns m d h = absurd h
    at_place (WalkFails e) turns m d h = absurd h
    at_place WalkTurns turns m d h = absurd h

    chosen : (n turns m : ℕ) (d : Place) → read_run p k start_reading n ≡ Going turns m d → byte_in w.choices n ≡ start_reading.choice (point_of turns d)
    chosen n turns m d e =
        let same = walk_is_run p lawful k u un asked literals start_reading is.choice over n in
        let at = at_place (walk u start_reading n) turns m d (subst (λ (z : Run). IsSame p u (walk u start_reading n) z) e same) in
        starts.follows start_reading is_of n at.0 at.1 at.2 ∙ sym (ap rd.choice (spot_is p k u un c at.0 at.3)) ∙ ap (λ z. rd.choice (spot p k u un c z)) at.4

    same_step : (start : Start) → start.state ≡ start_reading.state → (n : ℕ) (x : Run) → Numbered n x →
        ((turns m : ℕ) (d : Place) → x ≡ Going turns m d → start.choices n ≡ start_reading.choice (point_of turns d)) →
        one_more (by_file p) k start x ≡ read_on p k start_reading x
    same_step start e n (Going turns m d) h f = rw (e, h, f turns m d refl) refl
    same_step start e n (Exited at m) h f = refl
    same_step start e n (Failed x at m) h f = refl
    same_step start e n (Turned at m) h f = refl

    run_same : (n : ℕ) → run (by_file p) k (start_in p layout w) n ≡ read_run p k start_reading n
    unfolding run read_run
    run_same zero = ap (λ z. Going 0 0 (record { state = z; stack = [] })) state_same
    run_same (suc n) =
        let e = run_same n in
        ap (one_more (by_file p) k (start_in p layout w)) e
        ∙ same_step (start_in p layout w) state_same n (read_run p k start_reading n) (subst (Numbered n) e (numbered (by_file p) k (start_in p layout w) n))
        (λ turns m d q. chosen n turns m d q)

    pub follows : Follows p k start_reading (start_in p layout w)
    follows = record { state = state_same; choices = λ n turns d h. chosen n turns n d (sym (run_same n) ∙ h) }

module _ (p : Program) (k : ℕ) (question : Question) (asked : ℕ →
    Bool) (u : UnrolledProgram) (t : QuestionTerm) (c : Cells) (layered : IsLayered p k question asked u t c)
    (cnf : Cnf) (tells : TellsClauses u c cnf) (layout : Layout) (laid : IsLaidOut layout u) (v : ℕ →
    Bool) (sat : Satisfies v cnf.clauses) (w : Written) (starts : IsStartOf u c v w) where
  abbrev un : IsUnrolling p k u
  un = layered.unrolling

  abbrev r : Reading
  r = start_reading p k u layered.unrolling layered.fitting c layered.cells.formed layout laid v w starts

  over : IsTrueOver p asked k r question
  over =
      let made = tells.extends.only v sat in
      from_root p k question asked u t c layered r (is p k u un layered.fitting c layered.cells.formed layout laid v w starts) refl
      (λ a b l e ask. has p k u un layered.fitting c layered.cells.formed layout laid v w starts a b l e)
      (sym (root_same p k question asked u t c layered (reading u c v) (read_as p k question asked u t c layered r)
      (agree p k u un layered.fitting c layered.cells.formed layout laid v w starts)) ∙ made.1)

  pub gives_start : (r : Reading) × IsReadingOf u c v w r × IsTrue p k r question × Follows p k r (start_in p layout w)
  gives_start = (
    r,
    is_of p k u un layered.fitting c layered.cells.formed layout laid v w starts,
    record {
      choice = over.choice;
      entry = entry_state p k u un layered.fitting c layered.cells.formed layout laid v w starts layered.lawful asked layered.asks_known layered.asks_literals
          over.entry;
      ends = over.ends;
    },
    follows p k u un layered.fitting c layered.cells.formed layout laid v w starts layered.lawful asked layered.asks_known layered.asks_literals over.entry,
  )

pub values_give_start : ValuesGiveStart
values_give_start p k question asked u t c layered cnf tells layout laid v sat w starts =
    gives_start p k question asked u t c layered cnf tells layout laid v sat w starts

pub not_known : (b : Bool) (x : ℕ) → (if b then Some x else None) ≡ None → b ≡ false
not_known true x e = absurd (cc)
not_known false x e = refl

pub start_is_written : StartIsWritten
start_is_written p k u un layout laid few c v w starts =
    let range = reading_in_range u c v in
    let long : length w.regs ≡ length layout.registers
    = ap (λ (z : List ℕ). length z) starts.regs ∙ map_long ((reading u c v).regs 0) u.registers ∙ ap
    (λ (z : List ℕ). length z) laid.registers ∙ range_length layout.first (length layout.registers) in
    record {
      count = long;
      words = subst (λ (z : List ℕ). All (λ n. n < 2 ^ 32) z) (sym starts.regs)
          (λ i d l. map_below ((reading u c v).regs 0) (2 ^ 32) (range.regs 0) u.registers i d l);
      flags = subst (λ (z : ℕ). w.flags < 2 ^ z) laid.flags starts.flags_fit;
      bytes = starts.bytes;
      bytes_rise = starts.bytes_rise;
      unknown = λ n d l. not_known (is_known_at p (get_or w.bytes n d).0) _
          (sym (un.known (get_or w.bytes n d).0 (starts.bytes n d l).0) ∙ starts.unknown n d l);
      choices = λ n d l. (let h = starts.choices n d l in ((let m = h.0 in omega arith), h.1, h.2));
      choices_rise = starts.choices_rise;
    }

pub start_breaks_none : StartBreaksNone
start_breaks_none u c formed v w starts a (j, b, l, at, known, other) =
    let range = reading_in_range u c v in
    let small : a < 2 ^ 32 = subst (λ (z : ℕ). z < 2 ^ 32) at (word_fits u c formed (reading u c v) range 32 _ (formed.addresses j l)) in
    let s : word 32 a ≡ a = omega arith in
    other (starts.gives j l ∙ ap (start_memory u w) (same_address (slice_index c.addresses j) (formed.addresses j l).0 ∙ at) ∙ ap
    (λ z. known_or (byte_of_runs u.known z) w.bytes a) s ∙ ap (λ z. known_or z w.bytes a) known)
  where
    same_address : (t : ℕ) → t < length c.nodes → term_word (with_mem (reading u c v) (start_memory u w)) c.nodes t ≡ term_word (reading u c v) c.nodes t
    same_address t l = word_same u c formed (with_mem (reading u c v) (start_memory u w)) (reading u c v) (record {
      regs = λ n h. refl;
      flags =
          λ f h. refl;
      choice = λ i h. refl;
      base = λ i h. refl;
    }) t l

-- a known byte that allowed values have not was not asked, since some memory has their bytes and those that are asked
pub broken_was_free : (u : UnrolledProgram) (asked : ℕ → Bool) (c : Cells) → AreFormed u c →
    ((x : TermReading) → InRange x → IsAllowed c x → (m : Memory) × ((a : ℕ) → m a < 256) × HasAsked u asked m × Gives c (with_mem x m)) →
    (v : ℕ → Bool) → IsAllowed c (reading u c v) → (a : ℕ) → IsBroken u c (reading u c v) a → asked a ≡ false
broken_was_free u asked c formed complete v allowed a (j, b, l, at, known, other) =
    let range = reading_in_range u c v in
    let m = complete (reading u c v) range allowed in
    let small : a < 2 ^ 32 = subst (λ (z : ℕ). z < 2 ^ 32) at (word_fits u c formed (reading u c v) range 32 _ (formed.addresses j l)) in
    elim (truth (asked a)) [
      | inl ask ↦ absurd (other (m.3 j l ∙ ap m.0 (same_address m.0 (slice_index c.addresses j) (formed.addresses j l).0 ∙ at) ∙ m.2 a b small known ask))
      | inr free ↦ free
    ]
  where
    same_address : (m : Memory) (t : ℕ) → t < length c.nodes → term_word (with_mem (reading u c v) m) c.nodes t ≡ term_word (reading u c v) c.nodes t
    same_address m t l = word_same u c formed (with_mem (reading u c v) m) (reading u c v) (record {
      regs = λ n h. refl;
      flags = λ f h. refl;
      choice =
          λ i h. refl;
      base = λ i h. refl;
    }) t l

pub broken_is_new : BrokenIsNew
broken_is_new u t asked c cells cnf tells v sat a broken =
    broken_was_free u asked c cells.formed cells.complete v (tells.extends.only v sat).0 a broken
