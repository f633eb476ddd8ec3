-- A state has at most one first fault as an entry state.
use Rattle.std.proofs.Common.{◌≡◌, ℕ, ◌<◌, ◌^◌, refl, ap, sym, ◌∙◌, Bool, true, false, ◌||◌, ◌&&◌, Option, Some, None, is_some, ⊎_elim}
use Rattle.std.proofs.Math.Nat.{eq-or-lt_of_le}
use Rattle.std.proofs.lemmas.Bool.{cases_lt}
use Rattle.word_spec.specs.State.{State}
use Rattle.bilv_spec.specs.Elf.{Cell, kept}
use Rattle.bilv_spec.specs.Run.{Program, is_kept}
use Rattle.bilv_spec.specs.Verdict.{IsEntryState, fixed}
use Rattle.bilv_spec.specs.Points.{is_known_at, byte_of_cell}
use Rattle.bilv_spec.specs.EntryFaults.{EntryStateFault, UnalignedLink, FalseRequire, WrongByte, IsEntryStateFault}

same_least : (p : Program) (s : State) (a c : ℕ) → IsEntryStateFault p s (WrongByte a) → IsEntryStateFault p s (WrongByte c) → a ≡ c
same_least p s a c x y =
    ⊎_elim (λ less. absurd (y.3 a less x.2)) (λ most. ⊎_elim (λ same. sym same) (λ less. absurd (x.3 c less y.2)) (eq-or-lt_of_le most)) (cases_lt a c)

one_fault_of : (p : Program) (s : State) (f g : EntryStateFault) → IsEntryStateFault p s f → IsEntryStateFault p s g → f ≡ g
one_fault_of p s UnalignedLink UnalignedLink x y = refl
one_fault_of p s UnalignedLink (FalseRequire n) x y = absurd (x y.0)
one_fault_of p s UnalignedLink (WrongByte a) x y = absurd (x y.0)
one_fault_of p s (FalseRequire n) UnalignedLink x y = absurd (y x.0)
one_fault_of p s (FalseRequire n) (FalseRequire m) x y = let e : Some n ≡ Some m = sym x.1 ∙ y.1 in let same : n ≡ m = cc in ap FalseRequire same
one_fault_of p s (FalseRequire n) (WrongByte a) x y = absurd (let e : Some n ≡ None = sym x.1 ∙ y.1 in cc)
one_fault_of p s (WrongByte a) UnalignedLink x y = absurd (y x.0)
one_fault_of p s (WrongByte a) (FalseRequire n) x y = absurd (let e : Some n ≡ None = sym y.1 ∙ x.1 in cc)
one_fault_of p s (WrongByte a) (WrongByte c) x y = ap WrongByte (same_least p s a c x y)

-- a kept or fixed byte of an entry state is the file's
right_byte : (p : Program) (s : State) (a : ℕ) → a < 2 ^ 32 → is_known_at p a ≡ true → IsEntryState p s → s.mem a ≡ byte_of_cell (p.loaded a)
right_byte p s a small known entry = by_cell (p.loaded a) refl known
  where
    by_cell : (o : Option Cell) → p.loaded a ≡ o → (is_kept o || (is_some o && fixed p.notes.fixed a)) ≡ true → s.mem a ≡ byte_of_cell o
    by_cell None e k = absurd (let z : false ≡ true = k in cc)
    by_cell (Some c) e k = by_test (kept c) refl k
      where
        by_test : (t : Bool) → kept c ≡ t → (t || fixed p.notes.fixed a) ≡ true → s.mem a ≡ c.byte
        by_test true t k = entry.kept_bytes a c small e t
        by_test false t k = entry.fixed_bytes a c small e k

no_fault : (p : Program) (s : State) (f : EntryStateFault) → IsEntryStateFault p s f → IsEntryState p s → ⊥
no_fault p s UnalignedLink x entry = x entry.link
no_fault p s (FalseRequire n) x entry = let e : Some n ≡ None = sym x.1 ∙ entry.requires in cc
no_fault p s (WrongByte a) x entry = x.2.2 (right_byte p s a x.2.0 x.2.1 entry)

pub one_entry_fault : (p : Program) (s : State) (f : EntryStateFault) → IsEntryStateFault p s f →
    ((g : EntryStateFault) → IsEntryStateFault p s g → f ≡ g) × ¬ IsEntryState p s
one_entry_fault p s f x = ((λ g y. one_fault_of p s f g x y), no_fault p s f x)
