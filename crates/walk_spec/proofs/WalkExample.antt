-- A small program and its unrolled program: what an unrolled program has to be can be had.
use Rattle.std.proofs.Common.{◌≡◌, inl, inr, ℕ, zero, suc, ◌^◌, ◌<◌, ◌≤◌, refl, ap, sym, ◌∙◌, subst, arith, [], ◌∷◌, Option, Some, None, Bool, true, false, ⊎_elim}
use Rattle.std.specs.Prelude.{Contains, ◌==◌, ◌&&◌, ◌||◌, not, nat_lt, nat_le, if◌then◌else◌, slice_index, is_some, ◌-◌, nat_eq, List}
use Rattle.std.specs.List.{list_any}
use Rattle.std.proofs.lemmas.Bool.{ne_eqb}
use Rattle.std.proofs.lemmas.Bool.Decides.{nat_tests}
use Rattle.word_spec.specs.Memory.{Little}
use Rattle.word_spec.specs.State.{State, put}
use Rattle.machine_spec.specs.Machine.{Machine, Row, Goes, Indirect, no_flags}
use Rattle.machine_spec.specs.MachineLaws.{IsLawful}
use Rattle.bilv_spec.specs.Elf.{Cell}
use Rattle.bilv_spec.specs.Notes.{At}
use Rattle.machine_spec.specs.Bil.{Register, XRegisters, Var, JumpTo, Empty}
use Rattle.bilv_spec.specs.Run.{Program, in_memory, is_kept}
use Rattle.bilv_spec.specs.Points.{ArePoints, IsCount, is_known_at, begins_run, is_kept_at, byte_of_cell, file_row, EdgeEnd, ToExit}
use Rattle.bilv_spec.specs.LiveFlags.{IsRead, IsReadAfter, later}
use Rattle.bilv_spec.specs.PointLaws.{HasLawfulRows, ReadsMemory}
use Rattle.walk_spec.specs.Unrolled.{UnrolledProgram, AddressRun, Executes, Raising, WritingKept, Unaligned, Along, Outward, is_in, byte_of_runs, byte_in_run, point_at}
use Rattle.walk_spec.specs.Unrolling.{IsUnrolling, DoesRow, IsRunnable, AreEdgesOf, IsPlace, IsLiteralOf, file_known}
use Rattle.walk_spec.specs.Prices.{unrolled_price}
use Rattle.bilv_spec.proofs.Pigeons.{truth}
use Rattle.bilv_spec.proofs.PointSteps.{and_both}
use Rattle.bilv_spec.proofs.PointTests.{points_by_test}

-- a machine whose words all go back through register 1
abbrev goes_back : Row
goes_back = record {
  length = 4;
  effect = λ s c. Goes Indirect (record s { pc = s.regs 1 });
  stored = λ s. None;
  successors = λ at. record { next = false; direct = None; indirect = true; call = false };
  literal = λ at. None;
  cost = record { row = 1024; loads = 0; stores = 0 };
  flags = no_flags;
  draws = false;
  adds_pc = None;
  jumps_to = None;
  links = false;
  loaded = λ s. None;
}

abbrev machine : Machine
machine = record {
  endian = Little;
  link = 1;
  has_register = λ r. list_any (nat_eq r) (1 ∷ []);
  has_flag = λ f. nat_lt f 0;
  narrow = false;
  row = λ w. Some goes_back;
}

abbrev loads : Bool → Option Cell
loads b = if b then Some (record { byte = 7; flags = 1 }) else None

-- four executable bytes from 0 on
abbrev pub p : Program
p = record {
  machine = machine;
  word = in_memory machine;
  loaded = λ a. loads (nat_lt a 4);
  out = λ f. false;
  entry = 0;
  notes = record { entry = At 0; requires = []; ensures = []; asserts = []; targets = []; fixed = [] };
}

abbrev pub u : UnrolledProgram
u = record {
  endian = Little;
  narrow = false;
  registers = 1 ∷ [];
  flags = 0;
  link = 1;
  entry = 0;
  requires = [];
  ensures = [];
  kept = record { low = 0; high = 3 } ∷ [];
  known = record { at = 0; count = 4; bytes = 7 ∷ 7 ∷ 7 ∷ 7 ∷ [] } ∷ [];
  literals = [];
  points = record {
    point = record { turns = 0; stack = []; at = 0 };
    length = 4;
    does = Executes (JumpTo (Var (Register XRegisters 1)) Empty);
    draws = false;
    row = 1024;
    loads = 0;
    stores = 0;
    exits = Raising ∷ WritingKept ∷ Unaligned ∷ Along false true None Outward ∷ [];
  } ∷ [];
}

other_flag : (s : State) (f v g : ℕ) → (g ≡ f → ⊥) → s.flags g ≡ put s.flags f v g
other_flag s f v g ne = let n : (g == f) ≡ false = ne_eqb g f ne in rw n refl

none_in : {a : ℕ} → Contains [] a → ⊥
none_in h = absurd (omega (arith, h.1))

lawful : IsLawful goes_back
lawful = record {
  stored = λ s c is a l out. refl;
  raised = λ s c is. tt;
  successors = λ s c is. (refl, refl);
  next = λ s c is h. absurd (cc);
  one_way = λ at h. refl;
  unassigned = λ s c f l h. refl;
  unread = λ s c f v l h. (refl, record { pc = refl; regs = refl; flags = other_flag s f v; mem = refl });
  sure = λ s c f v l h k. absurd (cc);
  sure_flags = λ f k. absurd (cc);
  states = λ s c is. record { pc = is.regs 1; regs = is.regs; flags = is.flags; mem = is.mem };
  draws = λ no s c d. refl;
  plain = λ f l h s. refl;
  stored_unread = λ s f v l h. refl;
  priced = record { least = omega arith; most = omega arith; loads = omega arith; stores = omega arith };
  loads = λ s m c is also same. (refl, refl, (refl, refl, refl, refl, λ a l h. ⊎_elim (λ e. e) (λ q. absurd (none_in q)) h));
  unloaded = λ s c is. tt;
  few_loads = λ s. omega arith;
  loads_at = λ s is. tt;
  calls = λ h. cc;
}

some_row : (b : Bool) (row : Row) → (if b then Some goes_back else None) ≡ Some row → goes_back ≡ row
some_row true row e = (cc)
some_row false row e = absurd (cc)

lawful_rows : HasLawfulRows p
lawful_rows a row e = subst IsLawful (some_row _ row e) lawful

reads_memory : ReadsMemory p
reads_memory = record { word = λ s a. refl; little = λ n. refl }

points : ArePoints p 3 (record { turns = 0; stack = []; at = 0 } ∷ [])
points = points_by_test p 3 [] refl

kept_by : (b : Bool) (a : ℕ) → nat_lt a 4 ≡ b → is_in u.kept a ≡ b
kept_by true a e = grind (arith, nat_tests)
kept_by false a e = grind (arith, nat_tests)

is_kept_by : (a : ℕ) (b : Bool) → nat_lt a 4 ≡ b → is_kept_at p a ≡ b
is_kept_by a true e = ap (λ z. is_kept (loads z)) e
is_kept_by a false e = ap (λ z. is_kept (loads z)) e

kept_same : (a : ℕ) → is_in u.kept a ≡ is_kept_at p a
kept_same a = kept_by (nat_lt a 4) a refl ∙ sym (is_kept_by a (nat_lt a 4) refl)

is_known_by : (a : ℕ) (b : Bool) → nat_lt a 4 ≡ b → is_known_at p a ≡ b
is_known_by a true e = ap (λ z. is_kept (loads z) || (is_some (loads z) && false)) e
is_known_by a false e = ap (λ z. is_kept (loads z) || (is_some (loads z) && false)) e

known_here : (a : ℕ) → a < 4 → byte_of_runs u.known a ≡ file_known p a
known_here zero l = refl
known_here (suc zero) l = refl
known_here (suc (suc zero)) l = refl
known_here (suc (suc (suc zero))) l = refl
known_here (suc (suc (suc (suc a)))) l = absurd (omega arith)

known_there : (a : ℕ) → nat_lt a 4 ≡ false → byte_of_runs u.known a ≡ file_known p a
known_there a e =
    let none : (nat_le 0 a && nat_lt a 4) ≡ false = ap (λ z. nat_le 0 a && z) e ∙ and_false (nat_le 0 a) in
    ap (λ z. byte_in_run a (if z then Some (record { at = 0; count = 4; bytes = 7 ∷ 7 ∷ 7 ∷ 7 ∷ [] }) else None)) none
    ∙ sym (ap (λ z. if z then Some (byte_of_cell (p.loaded a)) else None) (is_known_by a false e))
  where
    and_false : (b : Bool) → (b && false) ≡ false
    and_false true = refl
    and_false false = refl

known_same : (a : ℕ) → byte_of_runs u.known a ≡ file_known p a
known_same a = elim (truth (nat_lt a 4)) [ inl t ↦ known_here a (grind (arith, nat_tests)) | inr f ↦ known_there a f ]

count_4 : IsCount (is_known_at p) 4
count_4 = (0 ∷ 1 ∷ 2 ∷ 3 ∷ [], refl, rising, λ a. (to a, from a))
  where
    rising : (i j : ℕ) → i < j → j < 4 → slice_index (0 ∷ 1 ∷ 2 ∷ 3 ∷ []) i < slice_index (0 ∷ 1 ∷ 2 ∷ 3 ∷ []) j
    rising zero zero h l = absurd (omega arith)
    rising zero (suc zero) h l = omega arith
    rising zero (suc (suc zero)) h l = omega arith
    rising zero (suc (suc (suc zero))) h l = omega arith
    rising (suc zero) zero h l = absurd (omega arith)
    rising (suc zero) (suc zero) h l = absurd (omega arith)
    rising (suc zero) (suc (suc zero)) h l = omega arith
    rising (suc zero) (suc (suc (suc zero))) h l = omega arith
    rising (suc (suc zero)) (suc (suc (suc zero))) h l = omega arith
    rising (suc (suc zero)) (suc (suc zero)) h l = absurd (omega arith)
    rising (suc (suc zero)) (suc zero) h l = absurd (omega arith)
    rising (suc (suc zero)) zero h l = absurd (omega arith)
    rising (suc (suc (suc i))) j h l = absurd (omega arith)
    rising i (suc (suc (suc (suc j)))) h l = absurd (omega arith)

    known_low : (a : ℕ) → a < 4 → (a < 2 ^ 32) × (is_known_at p a ≡ true)
    known_low a l = (omega arith, is_known_by a true (grind (arith, nat_tests)))

    to : (a : ℕ) → Contains (0 ∷ 1 ∷ 2 ∷ 3 ∷ []) a → (a < 2 ^ 32) × (is_known_at p a ≡ true)
    to a (zero, l, e) = known_low a (subst (λ (z : ℕ). z < 4) e (omega arith))
    to a (suc zero, l, e) = known_low a (subst (λ (z : ℕ). z < 4) e (omega arith))
    to a (suc (suc zero), l, e) = known_low a (subst (λ (z : ℕ). z < 4) e (omega arith))
    to a (suc (suc (suc zero)), l, e) = known_low a (subst (λ (z : ℕ). z < 4) e (omega arith))
    to a (suc (suc (suc (suc i))), l, e) = absurd (omega arith)

    in_list : (a : ℕ) → a < 4 → Contains (0 ∷ 1 ∷ 2 ∷ 3 ∷ []) a
    in_list zero l = (0, omega arith, refl)
    in_list (suc zero) l = (1, omega arith, refl)
    in_list (suc (suc zero)) l = (2, omega arith, refl)
    in_list (suc (suc (suc zero))) l = (3, omega arith, refl)
    in_list (suc (suc (suc (suc a)))) l = absurd (omega arith)

    from : (a : ℕ) → (a < 2 ^ 32) × (is_known_at p a ≡ true) → Contains (0 ∷ 1 ∷ 2 ∷ 3 ∷ []) a
    from a h = elim (truth (nat_lt a 4)) [
      | inl t ↦ in_list a (grind (arith, nat_tests))
      | inr f ↦ absurd (let c : false ≡ true = sym (is_known_by a false f) ∙ h.1 in cc)
    ]

count_run : IsCount (begins_run p) 1
count_run = (0 ∷ [], refl, λ i j h l. absurd (omega arith), λ a. (to a, from a))
  where
    to : (a : ℕ) → Contains (0 ∷ []) a → (a < 2 ^ 32) × (begins_run p a ≡ true)
    to a (zero, l, e) = subst (λ (z : ℕ). (z < 2 ^ 32) × (begins_run p z ≡ true)) e (omega arith, refl)
    to a (suc i, l, e) = absurd (omega arith)

    low : (n : ℕ) → (is_kept_at p (suc n) && ((suc n == 0) || not (is_kept_at p (suc n - 1)))) ≡ true → ⊥
    low n h = elim (truth (nat_lt (suc n) 4)) [
      | inr f ↦ (let c : false ≡ true = ap (λ z. z && ((suc n == 0) || not (is_kept_at p (suc n - 1)))) (sym (is_kept_by (suc n) false f)) ∙ h in cc)
      | inl t ↦ (let below : nat_lt (suc n - 1) 4 ≡ true = grind (arith, nat_tests) in
          let nonzero : (suc n == 0) ≡ false = grind (arith, nat_tests) in
          let a = and_both (is_kept_at p (suc n)) ((suc n == 0) || not (is_kept_at p (suc n - 1))) h in
          let c : false ≡ true = ap (λ z. false || not z) (sym (is_kept_by (suc n - 1) true below)) ∙ ap (λ z. z ||
          not (is_kept_at p (suc n - 1))) (sym nonzero) ∙ a.1 in cc)
    ]

    from : (a : ℕ) → (a < 2 ^ 32) × (begins_run p a ≡ true) → Contains (0 ∷ []) a
    from zero h = (0, omega arith, refl)
    from (suc n) h = absurd (low n h.1)

does : DoesRow p (point_at u 0) goes_back
does = record {
  length = refl;
  leaves = λ s c choice is pc small literal carried. (
    refl,
    ap (λ z. z 1) carried.regs,
    record {
      state = record { pc = is.regs 1; regs = carried.state.regs; flags = carried.state.flags; mem = carried.state.mem };
      regs = carried.regs;
      mem = carried.mem;
      flags = λ f h. carried.flags f (later_on s f pc h);
    },
  );
  stores = λ s c choice is pc small literal carried a. (λ h. h, λ h. h);
}
  where
    later_on : (s : State) (f : ℕ) → s.pc ≡ 0 → IsReadAfter p f s.pc → IsRead p f s.pc
    later_on s f e h = subst (λ (z : ℕ). IsReadAfter p f z → IsRead p f z) (sym e) (λ g. later refl g) h

runs : IsRunnable u (point_at u 0) (JumpTo (Var (Register XRegisters 1)) Empty)
runs = record {
  typed = refl;
  no_loop = refl;
  no_special = refl;
  nests = omega arith;
  picks = refl;
  steady = refl;
  names = refl;
  draws = λ h. refl;
  weight = omega arith;
  loads = omega arith;
  byte_stores = omega arith;
}

abbrev none_left : List EdgeEnd
none_left = []

abbrev no_number : List ℕ
no_number = []

abbrev tail : List EdgeEnd → List EdgeEnd
tail [] = []
tail (t ∷ rest) = rest

ends : AreEdgesOf p (point_at u 0).point (ToExit ∷ [])
ends = record { same = λ t. (λ h. h, λ h. h); count = refl; exit_first = λ t rest e c. absurd (none rest e c) }
  where
    empty : Contains none_left ToExit → ⊥
    empty (n, l, e) = absurd (omega arith)

    none : {t : EdgeEnd} (rest : List EdgeEnd) → (ToExit ∷ []) ≡ t ∷ rest → Contains rest ToExit → ⊥
    none rest e c = empty (subst (λ (z : List EdgeEnd). Contains z ToExit) (sym (ap tail e)) c)

places : (i : ℕ) → i < 1 → IsPlace p 3 u i (point_at u i) (file_row p (point_at u i).point.at)
places zero l = record {
  does = (
    Along false true None Outward ∷ [],
    refl,
    (ToExit ∷ [], ends, (record { aim = Outward; leads = tt; is = refl }, tt)),
    does,
  );
  terms = runs;
  counted = record { draws = refl; row_cost = refl; loads = refl; stores = refl };
}
places (suc i) l = absurd (omega arith)

no_literal : (a : ℕ) → IsLiteralOf p 3 a → ⊥
no_literal a h = none (some_row _ h.row h.is_row) h.loads
  where
    none : {row : Row} → goes_back ≡ row → row.literal h.point.at ≡ Some a → ⊥
    none e l = let c : None ≡ Some a = ap (λ z. z.literal h.point.at) e ∙ l in absurd (cc)

pub unrolling : IsUnrolling p 3 u
unrolling = record {
  endian = refl;
  narrow = refl;
  registers = λ r. refl;
  registers_rise = λ i j h l. absurd (omega arith);
  flags = λ f. refl;
  link = refl;
  entry = refl;
  requires = refl;
  ensures = refl;
  kept = kept_same;
  runs = λ r h. run_is r h;
  kept_runs = count_run;
  known = λ a l. known_same a;
  known_bytes = count_4;
  literals = λ a. (λ h. absurd (empty a h), λ h. absurd (no_literal a h));
  points = points;
  first = refl;
  places = places;
}
  where
    empty : (a : ℕ) → Contains no_number a → ⊥
    empty a (n, l, e) = absurd (omega arith)

    run_is : (r : AddressRun) → Contains (record { low = 0; high = 3 } ∷ []) r → (r.low ≤ r.high) × (r.high < 2 ^ 32)
    run_is r (zero, l, e) = subst (λ (z : AddressRun). (z.low ≤ z.high) × (z.high < 2 ^ 32)) e (omega arith, omega arith)
    run_is r (suc n, l, e) = absurd (omega arith)

-- its price
pub price : unrolled_price u ≡ 3328
price = refl
