-- What is had of an unrolled program of a file, and of its passive program: the laws of its rows, the sizes of its machine, its price, and terms that can be
-- made of it.
use Rattle.std.proofs.Common.{◌≡◌, refl, sym, ap, subst, ◌∙◌, ℕ, suc, ◌+◌, ◌-◌, ◌<◌, ◌≤◌, ◌^◌, Bool, true, false, List, [], ◌∷◌, Some, None, Result, Ok, Err, IfOk, arith}
use Rattle.std.specs.Prelude.{if◌then◌else◌, nat_lt, length, map, slice_index, IsTrue, min}
use Rattle.std.proofs.lemmas.Bool.Decides.{nat_tests}
use Rattle.std.proofs.lemmas.List.{length-map}
use Rattle.std.proofs.lemmas.List.Elements.{All-contains}
use Rattle.bilv_spec.specs.Files.{program_of}
use Rattle.machine_spec.specs.Machine.{Machine}
use Rattle.machine_spec.specs.MachineLaws.{IsLawfulMachine, IsFitted}
use Rattle.bilv_spec.specs.Notes.{Notes, NoteLine, Assert, Expr, Number, Register, Flag, Pc, Bound, Memory, Old, Not, Binary}
use Rattle.machine_spec.specs.StateText.{Layout, last_step}
use Rattle.bilv_spec.specs.Run.{Program}
use Rattle.bilv_spec.specs.Points.{byte_of_cell, is_known_at, HasMore, IsPrice}
use Rattle.bilv_spec.specs.PointLaws.{HasLawfulRows, ReadsMemory}
use Rattle.call_spec.specs.Calls.{Budget}
use Rattle.bilv_spec.specs.Answers.{IsWithin}
use Rattle.bilv_spec.proofs.AllPoints.{no_more_points}
use Rattle.walk_spec.specs.Unrolled.{UnrolledProgram, byte_of_runs, is_register_of, is_flag_of, point_at}
use Rattle.walk_spec.specs.Unrolling.{IsUnrolling, IsReadable, AreReadableBy, IsLaidOut, IsWalkable}
use Rattle.walk_spec.specs.Prices.{unrolled_price}
use Rattle.walk_spec.proofs.PriceLaw.{price_is_price}
use Rattle.walk_spec.proofs.Walkable.{unrolling_is_walkable}
use Rattle.term_spec.specs.Passive.{IsPassive}
use Rattle.question_form.specs.Views.{points_of, unrolled_of}
use Rattle.known_bytes.specs.Runs.{AreRuns}
use Rattle.question_form.specs.Questions.{passive_of}
use Rattle.question_form.specs.declared.unrolled.Unrolled.{Unrolled}
use Rattle.question_form.specs.declared.unrolled.Point.{Point}
use Rattle.question_form.specs.declared.questions.Passive.{Passive}
use Rattle.passify.specs.Made.{IsPassiveOf}
use Rattle.question_form.specs.Forms.{IsFormed, AreRootsFormed}
use Rattle.question_form.specs.FrameViews.{IsHeadless}
use Rattle.start_value.specs.Starts.{layout_of}
use Rattle.unroller.specs.Lookups.{HasForm}
use Rattle.bilv_spec.proofs.ProgramRows.{cell_small}
use Rattle.unroller.proofs.FileRows.{file_rows_lawful}
use Rattle.notes_value.specs.Reads.{IsOver, AreOver}
use Rattle.walk_laws.proofs.InputPlaces.{range_length}
use Rattle.verdict.proofs.Headless.{frame_askable}
use Rattle.program_value.specs.Programs as values
use Rattle.verdict.specs.Grounds.{IsGround}
use Rattle.verdict.specs.Measures.{IsMeasurable, IsMeasured, IsUnrolledOf, IsWeighed}
use Rattle.verdict.specs.Rounds.{HasBytes, IsAskable, IsDecidable}
use Rattle.verdict.specs.declared.measuring.Measured.{Measured}
use Rattle.verdict.specs.declared.measuring.Weighed.{Weighed}
use Rattle.verdict.specs.declared.measuring.Weighed.TheVariants as weighed
use Rattle.program_value.specs.declared.program.Program as programs
use Rattle.verdict.specs.declared.measuring.Measured.TheVariants.{Above, Within}

-- what the rows of a function decode is what memory has
pub function_is_read : {M I S : _} {m : _} {v : _} (p : programs.Program M I S m v) → IsLawfulMachine m.machine → ReadsMemory (values.program_of p)
function_is_read p lawful = record { word = λ s a. refl; little = lawful.little }

-- lines over a machine can be read by a program that has its registers and flags
truth : (b : Bool) → IsTrue b → b ≡ true
truth b h = h

readable : (u : UnrolledProgram) (regs flags : ℕ → Bool) → ((r : ℕ) → is_register_of u r ≡ regs r) → ((f : ℕ) → is_flag_of u f ≡ flags f) → (e : Expr) →
    IsOver regs flags e → IsReadable u e
readable u regs flags p q (Number n) h = h
readable u regs flags p q (Register r) h = p r ∙ truth (regs r) h
readable u regs flags p q (Flag f) h = q f ∙ truth (flags f) h
readable u regs flags p q Pc h = tt
readable u regs flags p q Bound h = tt
readable u regs flags p q (Memory n a) h = (h.0, h.1, readable u regs flags p q a h.2)
readable u regs flags p q (Old a) h = readable u regs flags p q a h
readable u regs flags p q (Not a) h = readable u regs flags p q a h
readable u regs flags p q (Binary op a b) h = (readable u regs flags p q a h.0, readable u regs flags p q b h.1)

pub all_readable : (u : UnrolledProgram) (regs flags : ℕ → Bool) (n : Notes) → ((r : ℕ) → is_register_of u r ≡ regs r) → ((f : ℕ) → is_flag_of u f ≡ flags f) →
    AreOver regs flags n →
    AreReadableBy u n
all_readable u regs flags n p q h = record {
  requires = λ l has. readable u regs flags p q l.says (All-contains (λ (x : NoteLine). IsOver regs flags x.says) n.requires l h.requires has);
  ensures = λ l has. readable u regs flags p q l.says (All-contains (λ (x : NoteLine). IsOver regs flags x.says) n.ensures l h.ensures has);
  asserts = λ a has. readable u regs flags p q a.says (All-contains (λ (x : Assert). IsOver regs flags x.says) n.asserts a h.asserts has);
}

-- its questions are those of the program
pub grounded : (p : Program) (k : ℕ) (form : Layout) (u : UnrolledProgram) → IsUnrolling p k u → IsFitted p.machine form → IsLaidOut form u → HasLawfulRows p →
    p.entry < 2 ^ 32 →
    HasBytes u → length u.points ≤ last_step + 1 → IsGround p k form u
grounded p k form u un fitted laid lawful entry bytes few = record {
  lawful = lawful;
  unrolling = un;
  fitting = record {
    entry = subst (λ (n : ℕ). n < 2 ^ 32) (sym un.entry) entry;
    known = bytes;
    registers = subst (λ (n : ℕ). n ≤ 31) (sym (ap length laid.registers ∙ range_length form.first (length form.registers))) fitted.few_registers;
    flags = subst (λ (n : ℕ). n ≤ 4) (sym laid.flags) fitted.few_flags;
  };
  laid = laid;
  steps = few;
}

-- a price below the greatest number is the price itself
uncapped_by : (n m price : ℕ) (b : Bool) → nat_lt n m ≡ b → price ≡ min n m → (price ≡ m → ⊥) → price ≡ n
uncapped_by n m price true e is other = let lt : n < m = grind (arith, nat_tests) in omega (arith, is, lt)
uncapped_by n m price false e is other = let ge : m ≤ n = grind (arith, nat_tests) in absurd (other (omega (arith, is, ge)))

pub uncapped : (n m price : ℕ) → price ≡ min n m → (price ≡ m → ⊥) → price ≡ n
uncapped n m price is other = uncapped_by n m price (nat_lt n m) refl is other

-- the points of the value are as many as those of the program
pub count_points : (u : Unrolled) (qs : List Point) → length (points_of u qs) ≡ length qs
count_points u [] = refl
count_points u (q ∷ qs) = ap suc (count_points u qs)

-- a byte that is known below 2^32 is one of the file
known_small : (t : Bool) (x b : ℕ) → x < 256 → (if t then Some x else None) ≡ Some b → b < 256
known_small true x b small h = let same : x ≡ b = cc in subst (λ (n : ℕ). n < 256) same small
known_small false x b small h = absurd (cc)

-- tests of addresses as facts
below_by : (a n : ℕ) → nat_lt a n ≡ true → a < n
below_by a n e = grind (arith, nat_tests)

from_by : (a n : ℕ) → nat_lt a n ≡ false → n ≤ a
from_by a n e = grind (arith, nat_tests)

pub bytes_by : (p : Program) (k : ℕ) (u : UnrolledProgram) → IsUnrolling p k u → ((x : ℕ) → 2 ^ 32 ≤ x → byte_of_runs u.known x ≡ None) →
    ((a : ℕ) → byte_of_cell (p.loaded a) < 256) → (a b : ℕ) (t : Bool) → nat_lt a (2 ^ 32) ≡ t → byte_of_runs u.known a ≡ Some b → b < 256
bytes_by p k u un beyond small a b true e h =
    known_small (is_known_at p a) (byte_of_cell (p.loaded a)) b (small a) (sym (un.known a (below_by a (2 ^ 32) e)) ∙ h)
bytes_by p k u un beyond small a b false e h = let none = beyond a (from_by a (2 ^ 32) e) in absurd (let same : None ≡ Some b = sym none ∙ h in cc)

-- the known bytes of a file of bytes are bytes
pub has_bytes : (m : Machine) (file : List ℕ) (notes : Notes) (entry k : ℕ) (u : UnrolledProgram) → IsUnrolling (program_of m file notes entry) k u →
    ((x : ℕ) → 2 ^ 32 ≤ x → byte_of_runs u.known x ≡ None) → ((i : ℕ) → slice_index file i < 256) → HasBytes u
has_bytes m file notes entry k u un beyond small a b h =
    bytes_by (program_of m file notes entry) k u un beyond (λ x. cell_small file small x _) a b (nat_lt a (2 ^ 32)) refl h

module _ (file : List ℕ) (notes : Notes) (entry : ℕ) (m : Machine) (form : Layout) (b : Budget) (lawful : IsLawfulMachine m) (fitted : IsFitted m form)
    (small : (i : ℕ) → slice_index file i < 256) (over : AreOver m.has_register m.has_flag notes) (at : entry < 2 ^ 32) (most : b.points ≤ 16777216) where
  -- the program
  abbrev p : Program
  p = program_of m file notes entry

  -- an unrolled program with no more points than the budget
  module _ (u : Unrolled) (un : IsUnrolling p b.unroll (unrolled_of u)) (formed : IsFormed u) (few : length u.points.items ≤ b.points) (has : HasForm m u)
      (addresses : (i : ℕ) → i < length (unrolled_of u).points →
      (point_at (unrolled_of u) i).point.at < 2 ^ 32) (layout : layout_of u.form ≡ form) (runs : AreRuns u.known.items)
      (beyond : (x : ℕ) → 2 ^ 32 ≤ x → byte_of_runs (unrolled_of u).known x ≡ None) (headless : IsHeadless u) (roots : AreRootsFormed u) where
    laid : IsLaidOut form (unrolled_of u)
    laid = subst (λ (l : Layout). IsLaidOut l (unrolled_of u)) layout has.laid

    counted : length (unrolled_of u).points ≤ b.points
    counted = subst (λ (n : ℕ). n ≤ b.points) (sym (count_points u u.points.items)) few

    bytes : HasBytes (unrolled_of u)
    bytes = has_bytes m file notes entry b.unroll (unrolled_of u) un beyond small

    readable_notes : AreReadableBy (unrolled_of u) notes
    readable_notes =
        all_readable (unrolled_of u) m.has_register m.has_flag notes un.registers un.flags over

    is_unrolled : IsUnrolledOf p form b u
    is_unrolled = record {
      measurable = record {
        walkable = unrolling_is_walkable p b.unroll (unrolled_of u) un form fitted laid readable_notes at addresses;
        formed = formed;
        headless = headless;
        roots = roots;
        bytes = bytes;
        runs = runs;
      };
      ground = grounded p b.unroll form (unrolled_of u) un fitted laid (file_rows_lawful m file notes entry lawful small) at bytes
          (omega (arith, counted, most));
      few = counted;
    }

  -- what comes of it is that, if anything
  pub unrolled_within : {E : Type 0} (r : Result Unrolled E) → IfOk r (λ u. IsUnrolling p b.unroll (unrolled_of u)) → IfOk r (λ u. IsFormed u) →
      IfOk r (λ u. length u.points.items ≤ b.points) → IfOk r (λ u. HasForm m u) →
      IfOk r (λ u. (i : ℕ) → i < length (unrolled_of u).points → (point_at (unrolled_of u) i).point.at < 2 ^ 32) → IfOk r (λ u. layout_of u.form ≡ form) →
      IfOk r (λ u. AreRuns u.known.items) → ((x : ℕ) → 2 ^ 32 ≤ x → IfOk r (λ u. byte_of_runs (unrolled_of u).known x ≡ None)) →
      IfOk r (λ u. IsHeadless u) → IfOk r (λ u. AreRootsFormed u) → IfOk r (IsUnrolledOf p form b)
  unrolled_within (Ok u) un formed few has addresses layout runs beyond headless roots =
      is_unrolled u un formed few has addresses layout runs beyond headless roots
  unrolled_within (Err e) un formed few has addresses layout runs beyond headless roots = tt

-- there are no more points, and the price is above the budget or within it
module _ (p : Program) (form : Layout) (b : Budget) (u : Unrolled) (h : IsUnrolledOf p form b u) where
  no_more : HasMore p b.unroll b.points → ⊥
  no_more =
      no_more_points p b.unroll b.points (map (λ q. q.point) (unrolled_of u).points) h.ground.unrolling.points
      (subst (λ (n : ℕ). n ≤ b.points) (sym (length-map (unrolled_of u).points (λ q. q.point))) h.few)

  is_price : (price : ℕ) → price ≡ min (unrolled_price (unrolled_of u)) (2 ^ 128 - 1) → (price ≡ 2 ^ 128 - 1 → ⊥) → IsPrice p b.unroll price
  is_price price is other =
      subst (λ (n : ℕ). IsPrice p b.unroll n) (sym (uncapped (unrolled_price (unrolled_of u)) (2 ^ 128 - 1) price is other))
      (price_is_price p b.unroll (unrolled_of u) h.ground.unrolling)

  fits_budget : (price : ℕ) → price ≡ min (unrolled_price (unrolled_of u)) (2 ^ 128 - 1) → (price ≡ 2 ^ 128 - 1 → ⊥) → price ≤ b.size → IsWithin p b
  fits_budget price is other cheap = record { points = no_more; price = price; is_price = is_price price is other; size = cheap }

-- the passive program of an unrolled one that can be measured can be asked
pub askable : (u : Unrolled) (q : Passive) → IsMeasurable u → IsPassiveOf u q → IsAskable q
askable u q measurable of = record {
  headless = subst IsHeadless (sym of.of) measurable.headless;
  walkable = subst (λ (z : Unrolled). IsWalkable (unrolled_of z)) (sym of.of) measurable.walkable;
  bytes = subst (λ (z : Unrolled). HasBytes (unrolled_of z)) (sym of.of) measurable.bytes;
  runs = subst (λ (z : Unrolled). AreRuns z.known.items) (sym of.of) measurable.runs;
  tells = subst (λ (z : Unrolled). IsPassive (unrolled_of z) (passive_of q)) (sym of.of) of.tells;
}

-- and its questions can be decided
pub decidable : (u : Unrolled) (q : Passive) → IsMeasurable u → IsPassiveOf u q → IsDecidable q
decidable u q measurable of = record { askable = askable u q measurable of; frame = frame_askable u q measurable of }

-- what an unrolled program comes to by its price
module _ (b : Budget) (u : Unrolled) (price : ℕ) (is : price ≡ min (unrolled_price (unrolled_of u)) (2 ^ 128 - 1)) (other : price ≡ 2 ^ 128 - 1 → ⊥) where
  pub is_above : b.size < price → IsWeighed b u (weighed.Above price)
  is_above above p form h = (no_more p form b u h, is_price p form b u h price is other, above)

  pub is_within : price ≤ b.size → IsWeighed b u (weighed.Within price)
  is_within cheap p form h = fits_budget p form b u h price is other cheap

-- the passive program of an unrolled program is that of the same programs
pub passive_ground : (u : Unrolled) (q : Passive) → IsPassiveOf u q → (p : Program) (k : ℕ) (form : Layout) → IsGround p k form (unrolled_of u) →
    IsGround p k form (unrolled_of q.unrolled.now)
passive_ground u q of p k form h = subst (λ (z : Unrolled). IsGround p k form (unrolled_of z)) (sym of.of) h

-- what an unrolled program that was weighed came to
module _ (b : Budget) (u : Unrolled) (came : Weighed) (h : IsWeighed b u came) where
  pub weighed_above : (price : ℕ) → came ≡ weighed.Above price → IsMeasured b u (Above price)
  weighed_above price is = subst (IsWeighed b u) is h

  pub weighed_within : (price : ℕ) → came ≡ weighed.Within price → (p : Program) (form : Layout) → IsUnrolledOf p form b u → IsWithin p b
  weighed_within price is = subst (IsWeighed b u) is h

  pub measured_within : (price : ℕ) → came ≡ weighed.Within price → IsMeasurable u → (q : Passive) → IsPassiveOf u q → IsMeasured b u (Within q)
  measured_within price is measurable q of = (
    askable u q measurable of,
    λ p form g. (weighed_within price is p form g, passive_ground u q of p b.unroll form g.ground),
    of.of,
    frame_askable u q measurable of,
  )

-- what an unrolled program that was measured came to
module _ (b : Budget) (u : Unrolled) (came : Measured) (h : IsMeasured b u came) where
  pub came_above : (price : ℕ) → came ≡ Above price → IsMeasured b u (Above price)
  came_above price is = subst (IsMeasured b u) is h

  pub came_within : (q : Passive) → came ≡ Within q → IsMeasured b u (Within q)
  came_within q is = subst (IsMeasured b u) is h
