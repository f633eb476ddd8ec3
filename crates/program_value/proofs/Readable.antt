-- Lines over the words of a machine can be read.
use Rattle.std.proofs.Common.{ℕ, ◌≡◌, ◌≤◌, ◌∙◌, Bool, length, get_or, subst, sym, arith}
use Rattle.std.specs.Prelude.{true, nat_lt}
use Rattle.std.proofs.lemmas.Bool.Decides.{nat_tests}
use Rattle.machine_spec.specs.Machine.{Machine}
use Rattle.machine_spec.specs.MachineLaws.{IsFitted}
use Rattle.machine_spec.specs.StateText.{Layout}
use Rattle.bilv_spec.specs.Notes as notes
use Rattle.bilv_spec.specs.Notes.{Expr, Number, Register, Flag, Pc, Bound, Memory, Old, Not, Binary}
use Rattle.notes_value.specs.Reads.{AreOver, AreReadable, IsOver, IsReadable}

module _ (m : Machine) (form : Layout) (fitted : IsFitted m form) where
  low_flag : (f : ℕ) → m.has_flag f ≡ true → f ≤ 3
  low_flag f is =
      let below : nat_lt f (length form.flags) ≡ true = sym (fitted.flags f) ∙ is in
      let few = fitted.few_flags in
      grind (arith, nat_tests)

  pub can_read : (e : Expr) → IsOver m.has_register m.has_flag e → IsReadable m.has_register e
  can_read (Number n) h = tt
  can_read (Register r) h = h
  can_read (Flag f) h = low_flag f h
  can_read Pc h = tt
  can_read Bound h = tt
  can_read (Memory n a) h = can_read a h.2
  can_read (Old a) h = can_read a h
  can_read (Not a) h = can_read a h
  can_read (Binary op a b) h = (can_read a h.0, can_read b h.1)

  pub can_read_all : (n : notes.Notes) → AreOver m.has_register m.has_flag n → AreReadable m.has_register n
  can_read_all n h = record {
    requires = λ k d low. can_read (get_or n.requires k d).says (h.requires k d low);
    ensures = λ k d low. can_read (get_or n.ensures k d).says (h.ensures k d low);
    asserts = λ k d low. can_read (get_or n.asserts k d).says (h.asserts k d low);
  }

  -- also by states that have its registers
  pub can_read_by : (has : ℕ → Bool) → has ≡ m.has_register → (n : notes.Notes) → AreOver m.has_register m.has_flag n → AreReadable has n
  can_read_by has same n h = subst (λ (r : ℕ → Bool). AreReadable r n) (sym same) (can_read_all n h)
