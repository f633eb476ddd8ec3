-- The runs of made work.
use Rattle.std.proofs.Common.{◌≡◌, ◌≢◌, ℕ, zero, suc, ◌+◌, ◌-◌, ◌*◌, ◌%◌, ◌^◌, ◌<◌, ◌≤◌, refl, ap, sym, ◌∙◌, subst, arith, lit<, add-one, Bool, true, false, List, [], ◌∷◌, length, get_or, Option, Some, None}
use Rattle.std.specs.Prelude.{◌==◌, nat_le, if◌then◌else◌}
use Rattle.std.proofs.lemmas.Bool.{cond-false, ne_eqb}
use Rattle.std.proofs.lemmas.Bool.Decides.{nat_tests}
use Rattle.std.proofs.Math.Nat.{mod-lt}
use Rattle.word_spec.specs.Words.{add, bit}
use Rattle.word_spec.specs.Memory.{Little, load}
use Rattle.word_spec.specs.State.{State, put}
use Rattle.machine_spec.specs.Machine.{Indirect, Goes, is_place, IsAtPlace}
use Rattle.bilv_spec.specs.Elf.{loaded}
use Rattle.bilv_spec.specs.Notes.{Notes, At, Register, Number, Binary, Equal, is_true}
use Rattle.machine_spec.specs.Rv.{jalr, fields, imm_i, rv_row}
use Rattle.machine_spec.specs.RvMachine.{rv32}
use Rattle.bilv_spec.specs.Run.{Program, Place, Arrives, Exits, step, run, Going, Exited, fetchable, one_more, after_step, arrive}
use Rattle.machine_spec.specs.Endings.{Start}
use Rattle.bilv_spec.specs.Points.{byte_of_cell}
use Rattle.bilv_spec.specs.Verdict.{IsEntryState, IsRight, Holds}
use Rattle.word_spec.specs.RowFiles.{rv_file}
use Rattle.bilv_spec.specs.Files.{program_of}
use Rattle.command_spec.specs.Work.{item_words, result_of, result_from, result, work_file}
use Rattle.answer_laws.proofs.RowFileBytes.{code, loads, code_word, loads_bytes}
use Rattle.answer_laws.proofs.PlainSteps.{IsPlainStep, step_on, step_exits}
use Rattle.answer_laws.proofs.ItemRows.{return_row, moved, item_sets, item_small, item, words_long, word_is, last_word, one_more_result}

-- what the notes say
abbrev pub made_notes : (seed count : ℕ) → Notes
made_notes seed count = record {
  entry = At 0x10000;
  requires = record { line = 2; says = Binary Equal (Register 10) (Number seed) } ∷ record { line = 3; says = Binary Equal (Register 11) (Number count) } ∷ [];
  ensures = record { line = 4; says = Binary Equal (Register 10) (Number (result seed count)) } ∷ [];
  asserts = [];
  targets = [];
  fixed = [];
}

-- the program
abbrev pub made_program : (seed count : ℕ) → Program
made_program seed count = program_of (rv32 false) (work_file seed count) (made_notes seed count) 0x10000

-- the registers after i words, from those at entry
abbrev regs_at : (x : ℕ) → (ℕ → ℕ) → ℕ → ℕ → ℕ
regs_at x f zero = f
regs_at x f (suc i) = put (regs_at x f i) 10 (result_of (item x i) (regs_at x f i 10) (regs_at x f i 11))

abbrev state_at : ℕ → State → ℕ → State
state_at x s i = record { pc = 65536 + 4 * i; regs = regs_at x s.regs i; flags = s.flags; mem = s.mem }

put_same : (f : ℕ → ℕ) (d v : ℕ) → put f d v d ≡ v
put_same f d v = let t : (d == d) ≡ true = grind (arith, nat_tests) in ap (λ b. if b then v else f d) t

put_other : (f : ℕ → ℕ) (d v x : ℕ) → x ≢ d → put f d v x ≡ f x
put_other f d v x ne = cond-false (x == d) v (f x) (ne_eqb x d ne)

-- other registers than a0 stay
others_stay : (x : ℕ) (f : ℕ → ℕ) (i r : ℕ) → r ≢ 10 → regs_at x f i r ≡ f r
others_stay x f zero r ne = refl
others_stay x f (suc i) r ne = put_other (regs_at x f i) 10 (result_of (item x i) (regs_at x f i 10) (regs_at x f i 11)) r ne ∙ others_stay x f i r ne

-- a0 is the result so far
a0_is : (x : ℕ) (f : ℕ → ℕ) (i : ℕ) → regs_at x f i 10 ≡ result_from x (f 10) (f 11) i
a0_is x f zero = refl
a0_is x f (suc i) =
    put_same (regs_at x f i) 10 (result_of (item x i) (regs_at x f i 10) (regs_at x f i 11))
    ∙ ap (λ a. result_of (item x i) a (regs_at x f i 11)) (a0_is x f i)
    ∙ ap (λ a. result_of (item x i) (result_from x (f 10) (f 11) i) a) (others_stay x f i 11 (λ e. absurd (omega arith)))
    ∙ sym (one_more_result x (f 10) (f 11) i)

-- addresses
at_byte : (i j : ℕ) → i < 65536 → j < 4 → add 32 (65536 + 4 * i) j ≡ 65536 + (4 * i + j)
at_byte i j h k = omega arith

next_is : (i : ℕ) → i < 65536 → add 32 (65536 + 4 * i) 4 ≡ 65536 + 4 * suc i
next_is i h = omega arith

aligned : (i : ℕ) → is_place false (65536 + 4 * i) ≡ true
aligned i = let e : (65536 + 4 * i) % 4 ≡ 0 = omega arith in grind (arith, nat_tests)

forward : (i : ℕ) → nat_le (65536 + 4 * suc i) (65536 + 4 * i) ≡ false
forward i = grind (arith, nat_tests)

-- a return to an address that is a multiple of 4
ret_to : (x : ℕ) → x < 2 ^ 32 → IsAtPlace false x → add 32 x 0 - add 32 x 0 % 2 ≡ x
ret_to x h e = omega arith

is_multiple : (x : ℕ) → IsAtPlace false x → is_place false x ≡ true
is_multiple x e = grind (arith, nat_tests)

same : (x : ℕ) → (x == x) ≡ true
same x = grind (arith, nat_tests)

equal_if : (a b : ℕ) → is_true (bit (a == b)) ≡ true → a ≡ b
equal_if a b e = grind (arith, nat_tests)

module _ (words : List ℕ) (short : length words ≤ 65536) (notes : Notes) where
  fetch_one : (i j : ℕ) → i < length words → j < 4 →
      loaded (rv_file words) (add 32 (65536 + 4 * i) j) ≡ Some (record { byte = get_or (code words) (4 * i + j) 0; flags = 5 })
  fetch_one i j h k = rw (at_byte i j (omega arith) k) (loads words (4 * i + j) short (omega arith))

  fetches : (i w : ℕ) → i < length words → fetchable (program_of (rv32 false) (rv_file words) notes 65536) w (65536 + 4 * i) ≡ true
  fetches i w h = simp (fetch_one i 0 h (lit< tt), fetch_one i 1 h (lit< tt), fetch_one i 2 h (lit< tt), fetch_one i 3 h (lit< tt))

  module _ (s : State) (entry : IsEntryState (program_of (rv32 false) (rv_file words) notes 65536) s) where
    byte_is : (i j : ℕ) → i < length words → j < 4 → s.mem (add 32 (65536 + 4 * i) j) ≡ get_or (code words) (4 * i + j) 0
    byte_is i j h k = entry.kept_bytes (add 32 (65536 + 4 * i) j) _ (mod-lt _ (lit< tt)) (fetch_one i j h k) refl

    in_memory_is : (i : ℕ) → i < length words → get_or words i 0 < 2 ^ 32 → load Little 4 s.mem (65536 + 4 * i) ≡ get_or words i 0
    in_memory_is i h small =
        simp (byte_is i 0 h (lit< tt), byte_is i 1 h (lit< tt), byte_is i 2 h (lit< tt), byte_is i 3 h (lit< tt)) (code_word words i small h)

-- what require lines that are true say
abbrev judged : Bool → ℕ → Option ℕ → Option ℕ
judged b n rest = if b then rest else Some n

two_true : (a b : Bool) → judged a 2 (judged b 3 None) ≡ None → (a ≡ true) × (b ≡ true)
two_true true true e = (refl, refl)
two_true true false e = absurd (cc)
two_true false b e = absurd (cc)

small_value : (a b : Bool) (x y : ℕ) → x < 2 ^ 32 → y < 2 ^ 32 → (if a then x else if b then y else 0) < 2 ^ 32
small_value true b x y h l = h
small_value false true x y h l = l
small_value false false x y h l = lit< tt

module _ (seed count : ℕ) (seed_small : seed < 2 ^ 31) (few : count ≤ 16000) where
  short : length (item_words seed count) ≤ 65536
  short = let l = words_long seed count in omega arith

  within : (i : ℕ) → i ≤ count → i < length (item_words seed count)
  within i h = let l = words_long seed count in omega arith

  module _ (s : State) (entry : IsEntryState (made_program seed count) s) where
    abbrev place_at : ℕ → Place
    place_at i = record { state = state_at seed s i; stack = [] }

    item_step : (i choice : ℕ) → i < count → step (made_program seed count) s (place_at i) choice ≡ Arrives (place_at (suc i))
    item_step i choice h =
        let sets = item_sets (item seed i) in
        let is = word_is seed count i h in
        let at = in_memory_is (item_words seed count) short (made_notes seed count) s entry i (within i (omega arith))
        (subst (λ (w : ℕ). w < 2 ^ 32) (sym is) (item_small (item seed i))) in
        let plain : IsPlainStep (made_program seed count) (place_at i) sets.row = record {
          asserts = refl;
          fetches = fetches (item_words seed count) short (made_notes seed count) i 0 (within i (omega arith));
          is_row = ap rv_row (at ∙ is) ∙ sets.is_row;
          stored = sets.stored (state_at seed s i);
        } in
        let next = next_is i (omega arith) in
        let new = moved (result_of (item seed i)) (state_at seed s i) in
        step_on (made_program seed count) s (place_at i) choice sets.row plain new (sets.effect (state_at seed s i) choice)
        (ap (is_place false) next ∙ aligned (suc i))
        ∙ ap (λ a. Arrives (record { state = record (state_at seed s (suc i)) { pc = a }; stack = [] })) next

    require_lines : (s.regs 10 ≡ seed) × (s.regs 11 ≡ count)
    require_lines =
        let both = two_true (is_true (bit (s.regs 10 == seed))) (is_true (bit (s.regs 11 == count))) entry.requires in
        (equal_if (s.regs 10) seed both.0, equal_if (s.regs 11) count both.1)

    link_is : regs_at seed s.regs count 1 ≡ s.regs 1
    link_is = others_stay seed s.regs count 1 (λ e. absurd (omega arith))

    result_is : regs_at seed s.regs count 10 ≡ result seed count
    result_is =
        a0_is seed s.regs count ∙ ap (λ a. result_from seed a (s.regs 11) count) require_lines.0 ∙ ap (λ a. result_from seed seed a count) require_lines.1

    abbrev last : State
    last = record { pc = s.regs 1; regs = regs_at seed s.regs count; flags = s.flags; mem = s.mem }

    returns : (choice : ℕ) → step (made_program seed count) s (place_at count) choice ≡ Exits last
    returns choice =
        let is = last_word seed count in
        let itself : count ≤ count = omega arith in
        let at = in_memory_is (item_words seed count) short (made_notes seed count) s entry count (within count itself)
        (subst (λ (w : ℕ). w < 2 ^ 32) (sym is) (lit< tt)) in
        let plain : IsPlainStep (made_program seed count) (place_at count) (jalr (fields imm_i 0x8067)) = record {
          asserts = refl;
          fetches = fetches (item_words seed count) short (made_notes seed count) count 0 (within count itself);
          is_row = ap rv_row (at ∙ is) ∙ return_row;
          stored = refl;
        } in
        let to : add 32 (regs_at seed s.regs count 1) 0 - add 32 (regs_at seed s.regs count 1) 0 % 2 ≡ s.regs 1 =
        ap (λ x. add 32 x 0 - add 32 x 0 % 2) link_is ∙ ret_to (s.regs 1) (entry.state.regs 1) entry.link in
        step_exits (made_program seed count) s (state_at seed s count) choice (jalr (fields imm_i 0x8067)) plain last
        (ap (λ a. Goes Indirect (record last { pc = a })) to) (is_multiple (s.regs 1) entry.link) (same (s.regs 1))
        (ap (λ a. judged (is_true (bit (a == result seed count))) 4 None) result_is
        ∙ ap (λ t. judged (is_true (bit t)) 4 None) (same (result seed count)))

  run_items : (k : ℕ) (start : Start) (entry : IsEntryState (made_program seed count) start.state) (i : ℕ) → i ≤ count →
      run (made_program seed count) k start i ≡ Going 0 i (place_at start.state entry i)
  unfolding run
  run_items k start entry zero h = ap (λ a. Going 0 0 (record { state = record start.state { pc = a }; stack = [] })) entry.pc
  run_items k start entry (suc i) h =
      ap (one_more (made_program seed count) k start) (run_items k start entry i (omega arith))
      ∙ ap (after_step k 0 i (65536 + 4 * i)) (item_step start.state entry i (start.choices i) h)
      ∙ ap (λ t. arrive t k 0 i (65536 + 4 * i) (place_at start.state entry (suc i))) (forward i)
      ∙ ap (λ n. Going 0 n (place_at start.state entry (suc i))) (add-one i)

  exits : (k : ℕ) (start : Start) → IsEntryState (made_program seed count) start.state →
      run (made_program seed count) k start (suc count) ≡ Exited (65536 + 4 * count) count
  unfolding run
  exits k start entry =
      ap (one_more (made_program seed count) k start) (run_items k start entry count (let l : count ≤ count = omega arith in l))
      ∙ ap (after_step k 0 count (65536 + 4 * count)) (returns start.state entry (start.choices count))

  abbrev first_state : State
  first_state = record {
    pc = 65536;
    regs = λ r. if r == 10 then seed else if r == 11 then count else 0;
    flags = λ f. 0;
    mem = λ a. byte_of_cell (loaded (rv_file (item_words seed count)) a);
  }

  has_entry : IsEntryState (made_program seed count) first_state
  has_entry = record {
    state = record {
      pc = lit< tt;
      regs = λ r. small_value (r == 10) (r == 11) seed count (omega arith) (omega arith);
      flags = λ f. lit< tt;
      mem = loads_bytes (item_words seed count) short;
    };
    pc = refl;
    link = refl;
    kept_bytes = λ a c low e kept. ap byte_of_cell e;
    fixed_bytes = λ a c low e fixed. ap byte_of_cell e;
    requires =
        ap (λ t. judged (is_true (bit t)) 2 (judged (is_true (bit (count == count))) 3 None)) (same seed)
        ∙ ap (λ t. judged (is_true (bit t)) 3 None) (same count);
  }

  pub made_holds : (k : ℕ) → IsRight (made_program seed count) k Holds
  made_holds k = ((first_state, has_entry), λ start is. (suc count, 65536 + 4 * count, count, exits k start is.entry))
