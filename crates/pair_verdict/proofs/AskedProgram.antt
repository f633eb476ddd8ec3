-- What is had of an unrolled program of a file that is asked for flags at the exit.
use Rattle.std.proofs.Common.{◌≡◌, refl, sym, subst, ℕ, ◌<◌, ◌≤◌, ◌^◌, Bool, List, None, Result, Err, arith}
use Rattle.std.specs.Prelude.{nat_lt, length, slice_index, IfErr}
use Rattle.bilv_spec.specs.Notes.{Notes}
use Rattle.bilv_spec.specs.Points.{HasMore}
use Rattle.bilv_spec.specs.Run.{Program}
use Rattle.bilv_spec.proofs.ProgramRows.{cell_small}
use Rattle.call_spec.specs.Calls.{Budget}
use Rattle.machine_spec.specs.Machine.{Machine}
use Rattle.machine_spec.specs.MachineLaws.{IsLawfulMachine, IsFitted}
use Rattle.machine_spec.specs.StateText.{Layout}
use Rattle.known_bytes.specs.Runs.{AreRuns}
use Rattle.notes_value.specs.Reads.{AreOver}
use Rattle.pair_spec.proofs.Asking.{points_of}
use Rattle.program_points.specs.Listed.{IsTooMany}
use Rattle.program_points.specs.declared.values.PointsFault.{PointsFault}
use Rattle.program_points.specs.declared.values.PointsFault.TheVariants.{TooMany}
use Rattle.question_form.specs.Forms.{IsFormed, AreRootsFormed}
use Rattle.question_form.specs.FrameViews.{IsHeadless}
use Rattle.question_form.specs.Views.{unrolled_of}
use Rattle.question_form.specs.declared.unrolled.Unrolled.{Unrolled}
use Rattle.start_value.specs.Starts.{layout_of}
use Rattle.unroller.specs.Asking.{program_asking}
use Rattle.unroller.specs.Lookups.{HasForm}
use Rattle.verdict.specs.Measures.{IsUnrolledOf}
use Rattle.verdict.specs.Rounds.{HasBytes}
use Rattle.unroller.proofs.FileRows.{file_rows_lawful}
use Rattle.verdict.proofs.Grounding.{all_readable, bytes_by, count_points, grounded}
use Rattle.walk_spec.specs.Unrolled.{byte_of_runs, point_at}
use Rattle.walk_spec.specs.Unrolling.{IsLaidOut, IsUnrolling}
use Rattle.walk_spec.proofs.Walkable.{unrolling_is_walkable}

module _ (file : List ℕ) (notes : Notes) (entry : ℕ) (m : Machine) (form : Layout) (b : Budget) (lawful : IsLawfulMachine m) (fitted : IsFitted m form)
    (small : (i : ℕ) → slice_index file i < 256) (over : AreOver m.has_register m.has_flag notes) (at : entry < 2 ^ 32) (most : b.points ≤ 16777216)
    (out : ℕ → Bool) where
  abbrev p : Program
  p = program_asking m file notes entry out

  module _ (u : Unrolled) (un : IsUnrolling p b.unroll (unrolled_of u)) (formed : IsFormed u) (few : length u.points.items ≤ b.points) (has : HasForm m u)
      (addresses : (i : ℕ) → i < length (unrolled_of u).points → (point_at (unrolled_of u) i).point.at < 2 ^ 32) (layout : layout_of u.form ≡ form)
      (runs : AreRuns u.known.items) (beyond : (x : ℕ) → 2 ^ 32 ≤ x → byte_of_runs (unrolled_of u).known x ≡ None) (headless : IsHeadless u)
      (roots : AreRootsFormed u) where
    laid : IsLaidOut form (unrolled_of u)
    laid = subst (λ (l : Layout). IsLaidOut l (unrolled_of u)) layout has.laid

    counted : length (unrolled_of u).points ≤ b.points
    counted = subst (λ (n : ℕ). n ≤ b.points) (sym (count_points u u.points.items)) few

    bytes : HasBytes (unrolled_of u)
    bytes x y h = bytes_by p b.unroll (unrolled_of u) un beyond (λ z. cell_small file small z _) x y (nat_lt x (2 ^ 32)) refl h

    pub asked_unrolled : IsUnrolledOf p form b u
    asked_unrolled = record {
      measurable = record {
        walkable = unrolling_is_walkable p b.unroll (unrolled_of u) un form fitted laid
            (all_readable (unrolled_of u) m.has_register m.has_flag notes un.registers un.flags over) at addresses;
        formed = formed;
        headless = headless;
        roots = roots;
        bytes = bytes;
        runs = runs;
      };
      ground = grounded p b.unroll form (unrolled_of u) un fitted laid (file_rows_lawful m file notes entry lawful small) at bytes
          (let many = counted in omega (arith, many, most));
      few = counted;
    }

-- a program has no more points where it is asked for flags
pub not_more_asked : (p : Program) (out : ℕ → Bool) (k max : ℕ) → (HasMore p k max → ⊥) → HasMore (record p { out = out }) k max → ⊥
not_more_asked p out k max few (points, more, are, once) = few (points, more, λ q has. points_of p out p.out k q (are q has), once)

-- so it is not found to have too many
pub never_many : (p : Program) (out : ℕ → Bool) (k max : ℕ) → (HasMore p k max → ⊥) → (r : Result Unrolled PointsFault) (f : PointsFault) (c : ℕ) →
    IfErr r (IsTooMany (record p { out = out }) k max) → r ≡ Err f → f ≡ TooMany c → ⊥
never_many p out k max few r f c is e same =
    not_more_asked p out k max few
    (subst (IsTooMany (record p { out = out }) k max) same (subst (λ (z : Result Unrolled PointsFault). IfErr z (IsTooMany (record p { out = out }) k max)) e is)).0
