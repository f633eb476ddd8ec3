-- A lawful machine has what contracts ask of it.
use Rattle.std.proofs.Common.{◌≡◌, ℕ, ◌+◌, ◌<◌, ◌≤◌, ◌%◌, refl, sym, ◌∙◌, subst, arith, Some, None, Bool, true, false, length}
use Rattle.std.specs.Prelude.{◌==◌, ◌&&◌, not, nat_le, nat_lt, if◌then◌else◌}
use Rattle.std.proofs.lemmas.Bool.Decides.{nat_tests}
use Rattle.machine_spec.specs.Machine.{Row, IsAtPlace, width, first_half}
use Rattle.bilv_spec.specs.Run.{Program, fetchable}
use Rattle.bilv_spec.specs.Points.{file_row, file_word}
use Rattle.bilv_spec.proofs.PointSteps.{and_both}
use Rattle.frame_spec.specs.Theorems.{MachineIsContracted}

-- the row of the file is that of its word
row_of_word : (p : Program) (a : ℕ) (row : Row) → file_row p a ≡ Some row → p.machine.row (file_word p a) ≡ Some row
row_of_word p a row h = by (fetchable p (file_word p a) a) h
  where
    by : (b : Bool) → (if b then p.machine.row (file_word p a) else None) ≡ Some row → p.machine.row (file_word p a) ≡ Some row
    by true h = h
    by false h = absurd (cc)

-- rows are as long as places are apart
width_place : (narrow : Bool) (half : ℕ) → IsAtPlace narrow (width narrow half)
width_place false half = refl
width_place true half = by (not (half % 4 == 3))
  where
    by : (b : Bool) → IsAtPlace true (if b then 2 else 4)
    by true = refl
    by false = refl

below : (a b r : ℕ) → a + b ≤ 32 → (nat_le a r && nat_lt r (a + b)) ≡ true → r < 32
below a b r l h = let less = (and_both (nat_le a r) (nat_lt r (a + b)) h).1 in grind (arith, nat_tests)

below_count : (n g : ℕ) → n ≤ 4 → nat_lt g n ≡ true → g < 4
below_count n g l h = grind (arith, nat_tests)

pub machine_is_contracted : MachineIsContracted
machine_is_contracted w law form fitted few small memory plain of_now entry places =
    let p = w.program in
    record {
      lawful = λ a row is. law.rows (file_word p a) row (small a) (row_of_word p a row is);
      memory = memory;
      plain = plain;
      of_now = of_now;
      lengths = λ a row is.
          subst (IsAtPlace p.machine.narrow) (sym (law.lengths (file_word p a) row (small a) (row_of_word p a row is)))
          (width_place p.machine.narrow (first_half (file_word p a)));
      links = λ a row is. law.linked (file_word p a) row (small a) (row_of_word p a row is);
      registers = λ r h. below form.first (length form.registers) r few (sym (fitted.registers r) ∙ h);
      flags = λ g h. below_count (length form.flags) g fitted.few_flags (sym (fitted.flags g) ∙ h);
      entry = entry;
      places = places;
    }
