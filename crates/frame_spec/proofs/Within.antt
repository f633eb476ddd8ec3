-- What a step of a frame may change: bytes that the frame's contract may write.
use Rattle.std.proofs.Common.{◌≡◌, inl, inr, ℕ, zero, suc, ◌+◌, ◌<◌, ◌≤◌, refl, ap, sym, ◌∙◌, subst, arith, List, Option, Some, None, Bool, true, false}
use Rattle.std.proofs.Math.Path.{fun_ext}
use Rattle.std.specs.Prelude.{Contains, ◌==◌, ◌&&◌, ◌||◌, not, nat_lt, nat_eq, if◌then◌else◌}
use Rattle.std.specs.List.{list_any}
use Rattle.std.proofs.lemmas.Bool.Decides.{nat_tests}
use Rattle.word_spec.specs.Memory.{Endian}
use Rattle.word_spec.specs.State.{State}
use Rattle.machine_spec.specs.Machine.{Row, How, Goes, addresses}
use Rattle.bilv_spec.specs.Points.{file_row}
use Rattle.word_spec.specs.RowFiles.{from_to}
use Rattle.bilv_spec.specs.Run.{Place}
use Rattle.machine_spec.specs.MachineLaws.{KeepsOthers}
use Rattle.bilv_spec.specs.PointLaws.{HasLawfulRows, ReadsMemory}
use Rattle.bilv_spec.proofs.Pigeons.{truth}
use Rattle.bilv_spec.proofs.PointSteps.{same_number, and_both}
use Rattle.bilv_spec.proofs.PointTests.{any_is, not_any}
use Rattle.bilv_spec.proofs.FileWords.{Sound, every}
use Rattle.frame_spec.specs.Frames.{Contract, Frame, content_of, covers, written, is_outside, keeps_register, keeps_flag, keeps_byte, has_changed, stored_by_row}
use Rattle.frame_spec.specs.FrameRuns.{row_of_place, state_after}
use Rattle.frame_spec.specs.Theorems.{ComesBack}
use Rattle.bilv_spec.proofs.FileWords.{row_same}

-- the bytes that the frame's contract may not write are as in the state at its entry
abbrev pub Within : Frame → (o : Option Contract) → (entry s : State) → Type 0
Within f None entry s = Unit {0}
Within f (Some x) entry s = (a : ℕ) → keeps_byte f x entry a ≡ true → s.mem a ≡ entry.mem a

or_false : (a b : Bool) → (a || b) ≡ false → (a ≡ false) × (b ≡ false)
or_false true b h = absurd (let c : true ≡ false = h in cc)
or_false false b h = (refl, h)

not_true : (b : Bool) → not b ≡ true → b ≡ false
not_true true h = absurd (let c : false ≡ true = h in cc)
not_true false h = refl

not_false : (b : Bool) → not b ≡ false → b ≡ true
not_false true h = refl
not_false false h = absurd (let c : true ≡ false = h in cc)

-- no byte outside: each is covered
all_covered : (x : Contract) (e : Endian) (entry : State) (places : List ℕ) → is_outside (Some x) e entry places ≡ false → (a : ℕ) → Contains places a →
    covers e x.writes entry a ≡ true
all_covered x e entry places h a i = elim (truth (covers e x.writes entry a)) [
  | inl t ↦ t
  | inr n ↦ absurd (not_any (λ b. not (covers e x.writes entry b)) places h a i (ap not n))
]

below : (f : Frame) (x : Contract) (s : State) (a : ℕ) → keeps_byte f x s a ≡ true → (a < 4294967296) × (covers f.program.machine.endian x.writes s a ≡ false)
below f x s a h =
    let q = and_both (nat_lt a 4294967296) (not (covers f.program.machine.endian x.writes s a)) h in
    let t = q.0 in
    (grind (arith, nat_tests), not_true (covers f.program.machine.endian x.writes s a) q.1)

module _ (f : Frame) (lawful : HasLawfulRows f.program) (memory : ReadsMemory f.program) where
  -- behind a step of a row
  pub row_within : (o : Option Contract) (entry : State) (c : Place) (new : State) (choice : ℕ) (row : Row) (how : How) →
      file_row f.program c.state.pc ≡ Some row →
      row.effect c.state choice ≡ Goes how new → Sound f.program every c.state →
      is_outside o f.program.machine.endian entry (stored_by_row (row_of_place f c) c.state) ≡ false → Within f o entry c.state → Within f o entry new
  row_within None entry c new choice row how at goes sound h w = tt
  row_within (Some x) entry c new choice row how at goes sound h w = λ a keeps.
      let law = lawful c.state.pc row at in
      let is : row_of_place f c ≡ Some row = row_same f.program memory c.state sound.0 c.state.pc ∙ at in
      let h' : is_outside (Some x) f.program.machine.endian entry (addresses (row.stored c.state)) ≡ false
      = subst (λ z. is_outside (Some x) f.program.machine.endian entry (stored_by_row z c.state) ≡ false) is h in
      let b = below f x entry a keeps in
      let others = subst (λ z. KeepsOthers (addresses (row.stored c.state)) c.state z) goes (law.stored c.state choice sound.1) in
      others a b.0 (λ i. (let t = all_covered x f.program.machine.endian entry (addresses (row.stored c.state)) h' a i in
      let n = b.1 in absurd (let c : false ≡ true = sym n ∙ t in cc))) ∙ w a keeps

  -- behind a contract step that came back
  pub contract_within : (o : Option Contract) (entry : State) (x : Contract) (s back : State) →
      is_outside o f.program.machine.endian entry (written f.program.machine.endian x.writes s) ≡ false →
      ((a : ℕ) → keeps_byte f x s a ≡ true → back.mem a ≡ s.mem a) → Within f o entry s → Within f o entry back
  contract_within None entry x s back h same w = tt
  contract_within (Some y) entry x s back h same w = λ a keeps.
      let b = below f y entry a keeps in
      let l : nat_lt a 4294967296 ≡ true = let u = b.0 in grind (arith, nat_tests) in
      elim (truth (covers f.program.machine.endian x.writes s a)) [
        | inl t ↦ (let i = any_is (nat_eq a) (written f.program.machine.endian x.writes s) t in
            let at : i.0 ≡ a = sym (same_number a i.0 i.2) in
            let t2 = all_covered y f.program.machine.endian entry (written f.program.machine.endian x.writes s) h a (subst
            (λ z. Contains (written f.program.machine.endian x.writes s) z) at i.1) in
            let n = b.1 in absurd (let c : false ≡ true = sym n ∙ t2 in cc))
        | inr n ↦ same a (ap (λ z. z && not (covers f.program.machine.endian x.writes s a)) l ∙ ap not n) ∙ w a keeps
      ]

-- where nothing differs that the contract may not change
pub in_range : (n k r : ℕ) → n ≤ r → r < n + k → Contains (from_to n k) r
in_range n zero r l h = absurd (omega arith)
in_range n (suc k) r l h = elim (truth (n == r)) [
  | inl t ↦ (0, omega arith, same_number n r t)
  | inr t ↦ (let i = in_range (n + 1) k r (grind (arith, nat_tests)) (omega arith) in (suc i.0, (let u = i.1 in omega arith), i.2))
]

same_by : (keeps eq : Bool) → (keeps && not eq) ≡ false → keeps ≡ true → eq ≡ true
same_by true eq h t = not_false eq h
same_by false eq h t = absurd (let c : false ≡ true = t in cc)

module _ (f : Frame) (x : Contract) (entry new : State) (h : has_changed f x entry new ≡ false) where
  abbrev changed_register : ℕ → Bool
  changed_register r = keeps_register f x r && not (new.regs r == entry.regs r)

  abbrev changed_flag : ℕ → Bool
  changed_flag g = keeps_flag f x g && not (new.flags g == entry.flags g)

  both : (list_any changed_register (from_to 0 32) ≡ false) × (list_any changed_flag (from_to 0 4) ≡ false)
  both = or_false (list_any changed_register (from_to 0 32)) (list_any changed_flag (from_to 0 4)) h

  test_off : (test : ℕ → Bool) (places : List ℕ) → list_any test places ≡ false → (a : ℕ) → Contains places a → test a ≡ false
  test_off test places n a i = elim (truth (test a)) [ inl t ↦ absurd (not_any test places n a i t) | inr t ↦ t ]

  pub registers_same : (r : ℕ) → r < 32 → keeps_register f x r ≡ true → new.regs r ≡ entry.regs r
  registers_same r l t =
      same_number (new.regs r) (entry.regs r) (same_by (keeps_register f x r) (new.regs r == entry.regs r)
      (test_off changed_register (from_to 0 32) both.0 r (in_range 0 32 r (omega arith) (omega arith))) t)

  pub flags_same : (g : ℕ) → g < 4 → keeps_flag f x g ≡ true → new.flags g ≡ entry.flags g
  flags_same g l t =
      same_number (new.flags g) (entry.flags g) (same_by (keeps_flag f x g) (new.flags g == entry.flags g)
      (test_off changed_flag (from_to 0 4) both.1 g (in_range 0 4 g (omega arith) (omega arith))) t)

-- the state behind a contract step that is given what the tables came back with is that state
if_same : (b : Bool) (u v : ℕ) → (b ≡ true → v ≡ u) → (if b then u else v) ≡ v
if_same true u v h = sym (h refl)
if_same false u v h = refl

pub after_is : (f : Frame) (x : Contract) (called back : Place) → ComesBack f x called back →
    state_after f x called.state back.state.pc (content_of back.state) ≡ back.state
after_is f x called back b =
    let s = called.state in
    let z = back.state in
    let regs : (λ r. if keeps_register f x r then s.regs r else z.regs r) ≡ z.regs
    = fun_ext (λ r. if_same (keeps_register f x r) (s.regs r) (z.regs r) (b.registers r)) in
    let flags : (λ n. if keeps_flag f x n then s.flags n else z.flags n) ≡ z.flags
    = fun_ext (λ n. if_same (keeps_flag f x n) (s.flags n) (z.flags n) (b.flags n)) in
    let mem : (λ a. if keeps_byte f x s a then s.mem a else z.mem a) ≡ z.mem
    = fun_ext (λ a. if_same (keeps_byte f x s a) (s.mem a) (z.mem a) (b.bytes a)) in
    ap (λ u. record {
      pc = z.pc;
      regs = u;
      flags = (λ n. if keeps_flag f x n then s.flags n else z.flags n);
      mem =
          (λ a. if keeps_byte f x s a then s.mem a else z.mem a);
    }) regs
    ∙ ap (λ u. record { pc = z.pc; regs = z.regs; flags = u; mem = (λ a. if keeps_byte f x s a then s.mem a else z.mem a) }) flags
    ∙ ap (λ u. record { pc = z.pc; regs = z.regs; flags = z.flags; mem = u }) mem
