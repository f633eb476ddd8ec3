-- Two forms of states that lay out one program write the same starts.
use Rattle.std.proofs.Common.{◌≡◌, sym, subst, ap, ◌∙◌, ℕ, ◌+◌, ◌<◌, ◌^◌, Bool, List, Some, arith}
use Rattle.std.specs.Prelude.{length, slice_get}
use Rattle.word_spec.specs.State.{Written}
use Rattle.word_spec.specs.RowFiles.{from_to}
use Rattle.machine_spec.specs.StateText.{Layout, IsWritten}
use Rattle.bilv_spec.specs.Run.{Program}
use Rattle.bilv_spec.specs.Answers.{start_in}
use Rattle.walk_spec.specs.Unrolled.{UnrolledProgram}
use Rattle.walk_spec.specs.Unrolling.{IsLaidOut}
use Rattle.walk_laws.proofs.InputPlaces.{range_get, range_length}

module _ (form layout : Layout) (u : UnrolledProgram) (a : IsLaidOut form u) (b : IsLaidOut layout u) where
  ranges : from_to form.first (length form.registers) ≡ from_to layout.first (length layout.registers)
  ranges = sym a.registers ∙ b.registers

  counts : length form.registers ≡ length layout.registers
  counts = sym (range_length form.first (length form.registers)) ∙ ap length ranges ∙ range_length layout.first (length layout.registers)

  flags : length form.flags ≡ length layout.flags
  flags = sym a.flags ∙ b.flags

  pub same_written : (known : ℕ → Bool) (w : Written) → IsWritten form known w → IsWritten layout known w
  same_written known w h = record {
    count = h.count ∙ counts;
    words = h.words;
    flags = subst (λ (n : ℕ). w.flags < 2 ^ n) flags h.flags;
    bytes = h.bytes;
    bytes_rise = h.bytes_rise;
    unknown = h.unknown;
    choices = h.choices;
    choices_rise = h.choices_rise;
  }

  module _ (some : 0 < length u.registers) where
    counted : (l : Layout) → IsLaidOut l u → 0 < length l.registers
    counted l is = subst (λ (n : ℕ). 0 < n) (ap length is.registers ∙ range_length l.first (length l.registers)) some

    firsts : form.first ≡ layout.first
    firsts =
        let same : Some (form.first + 0) ≡ Some (layout.first + 0) =
        sym (range_get form.first (length form.registers) 0 (counted form a)) ∙ ap (λ (z : List ℕ). slice_get z 0) ranges
        ∙ range_get layout.first (length layout.registers) 0 (counted layout b) in
        let numbers : form.first + 0 ≡ layout.first + 0 = cc in omega (arith, numbers)

    pub same_start : (p : Program) (w : Written) → start_in p form w ≡ start_in p layout w
    same_start p w = ap (λ (n : ℕ). start_in p (record form { first = n }) w) firsts
