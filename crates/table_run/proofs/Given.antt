-- The state after a contract step.
use Rattle.std.proofs.Common.{◌≡◌, inl, inr, ℕ, ◌+◌, ◌-◌, ◌^◌, ◌<◌, ◌≤◌, List, [], ◌∷◌, ◌++◌, length, map, Bool, true, false, refl, sym, ap, ◌∙◌, subst, arith, eq-eqb, ne_eqb}
use Rattle.std.specs.Prelude.{◌==◌, ◌&&◌, ◌||◌, not, filter, nat_eq, nat_le, nat_lt, slice_index, if◌then◌else◌}
use Rattle.std.specs.List.{list_any}
use Rattle.std.proofs.Math.Path.{fun_ext}
use Rattle.std.proofs.lemmas.Bool.{cases_eq}
use Rattle.std.proofs.lemmas.Bool.Decides.{nat_tests}
use Rattle.std.proofs.lemmas.List.Folds.{list_any-append}
use Rattle.bilv_spec.proofs.Pigeons.{truth}
use Rattle.word_spec.specs.Words.{bit_at, word}
use Rattle.word_spec.specs.Memory.{Little, byte_in, store}
use Rattle.word_spec.specs.RowFiles.{from_to}
use Rattle.word_spec.specs.State.{State, Written}
use Rattle.machine_spec.specs.Machine.{Machine}
use Rattle.machine_spec.specs.MachineLaws.{IsFitted, with_memory}
use Rattle.machine_spec.specs.StateText.{Layout, register_at}
use Rattle.machine_law.specs.Facts.{made}
use Rattle.frame_spec.specs.Frames.{Frame, covers, keeps_flag, keeps_register, written}
use Rattle.frame_spec.specs.FrameRuns.{state_after}
use Rattle.frame_spec.specs.FrameReports.{WrittenCall, given_by, value_in}
use Rattle.notes_value.specs.FrameViews.{contract_of, is_in}
use Rattle.notes_value.specs.declared.notes.Contract.{Contract}
use Rattle.table_run.specs.Traces.{byte_over}
use Rattle.table_run.specs.CalledFrames.{IsFilledBy, IsSeenAs, changed_by, register_after, value_from}
use Rattle.table_run.proofs.Fillings.{store_here, store_other}
use Rattle.table_run.proofs.Changed.{listed, keeps_register_is, unlisted}
use Rattle.table_run.proofs.GiftLists.{filter_same, mapped_after, mapped_at, value_out}

-- ---- bytes

pub over_zero : (bytes : List (ℕ × ℕ)) (a : ℕ) → byte_over 0 bytes a ≡ byte_in bytes a
over_zero [] a = refl
over_zero (e ∷ rest) a = ap (λ b. if a == e.0 then e.1 else b) (over_zero rest a)

pub filled_none : (bytes : List (ℕ × ℕ)) (places : List ℕ) (s : State) → places ≡ [] → IsFilledBy bytes places s s
filled_none bytes places s none = subst (λ l. IsFilledBy bytes l s s) (sym none) (record { rest = refl; mem = λ a low. refl })

-- one more byte
pub filled_put : (bytes : List (ℕ × ℕ)) (at b : ℕ) (rest : List ℕ) (s u t : State) → at < 2 ^ 32 → b < 256 → b ≡ byte_in bytes at →
    u ≡ with_memory s (store Little 1 s.mem at b) → IsFilledBy bytes rest u t → IsFilledBy bytes (at ∷ rest) s t
filled_put bytes at b rest s u t low small is put filled = record {
  rest = filled.rest ∙ ap (λ (z : State). with_memory z t.mem) put;
  mem = λ a here. filled.mem a here ∙ elim (cases_eq a at) as (λ _. (if list_any (nat_eq a) rest then byte_in bytes a else u.mem a)
      ≡ (if list_any (nat_eq a) (at ∷ rest) then byte_in bytes a else s.mem a)) [
        | inl same ↦ (let there : u.mem a ≡ byte_in bytes a =
            ap u.mem same ∙ ap (λ (z : State). z.mem at) put ∙ store_here s.mem at b low small ∙ is ∙ ap (byte_in bytes) (sym same) in
            ap (λ v. if list_any (nat_eq a) rest then byte_in bytes a else v) there ∙ both (list_any (nat_eq a) rest) (byte_in bytes a)
            ∙ sym (ap (λ h. if h || list_any (nat_eq a) rest then byte_in bytes a else s.mem a) (eq-eqb a at same)))
        | inr other ↦ ap (λ v. if list_any (nat_eq a) rest then byte_in bytes a else v) (ap (λ (z : State). z.mem a) put
            ∙ store_other s.mem at b a low here other)
            ∙ sym (ap (λ h. if h || list_any (nat_eq a) rest then byte_in bytes a else s.mem a) (ne_eqb a at other))
      ];
}
  where
    both : (h : Bool) (v : ℕ) → (if h then v else v) ≡ v
    both true v = refl
    both false v = refl

-- bytes and then others
pub filled_both : (bytes : List (ℕ × ℕ)) (first rest : List ℕ) (s u t : State) → IsFilledBy bytes first s u → IsFilledBy bytes rest u t →
    IsFilledBy bytes (first ++ rest) s t
filled_both bytes first rest s u t one two = record {
  rest = two.rest ∙ ap (λ (z : State). with_memory z t.mem) one.rest;
  mem = λ a low. two.mem a low ∙ ap (λ v. if list_any (nat_eq a) rest then byte_in bytes a else v) (one.mem a low)
      ∙ either (list_any (nat_eq a) first) (list_any (nat_eq a) rest) (byte_in bytes a) (s.mem a)
      ∙ ap (λ h. if h then byte_in bytes a else s.mem a) (sym (list_any-append (nat_eq a) first rest));
}
  where
    either : (h k : Bool) (v w : ℕ) → (if k then v else (if h then v else w)) ≡ (if h || k then v else w)
    either true true v w = refl
    either true false v w = refl
    either false k v w = refl

-- ---- registers

-- the registers that a contract may change, in the machine's order
changed_is : (x : Contract) → filter (is_in x.registers) (from_to 0 32) ≡ changed_by (contract_of x)
unfolding changed_by
changed_is x = sym (filter_same (λ r. list_any (nat_eq r) (contract_of x).registers) (is_in x.registers) 32 0 (λ r from upto. listed
    (is_in x.registers) r 32 upto))

value_changed : (x : Contract) (values : List ℕ) (r : ℕ) → value_from x.registers values r 0 32 ≡ value_in (changed_by (contract_of x)) values r
unfolding value_from
value_changed x values r = ap (λ l. value_in l values r) (changed_is x)

module _ (f : Frame) (m : Machine) (form : Layout) (x : Contract) (old : State) (values : List ℕ) (machine : f.program.machine ≡ m) (fitted : IsFitted m form)
    (own : (r : ℕ) → list_any (nat_eq r) (contract_of x).registers ≡ true → m.has_register r ≡ true) where
  abbrev h : ℕ → ℕ
  h = register_after x.registers old values

  abbrev count : ℕ
  count = length form.registers

  abbrev after : ℕ → ℕ
  after r = if keeps_register f (contract_of x) r then old.regs r else value_in (changed_by (contract_of x)) values r

  -- a register that the machine does not have is 0
  other_register : (r : ℕ) → m.has_register r ≡ false → after r ≡ 0
  unfolding changed_by
  other_register r out =
      let kept : keeps_register f (contract_of x) r ≡ false =
      ap (λ (z : Machine). z.has_register r && not (list_any (nat_eq r) (contract_of x).registers)) machine
      ∙ ap (λ b. b && not (list_any (nat_eq r) (contract_of x).registers)) out in
      ap (λ b. if b then old.regs r else value_in (changed_by (contract_of x)) values r) kept
      ∙ value_out (changed_by (contract_of x)) values r
      (unlisted (λ q. list_any (nat_eq q) (contract_of x).registers) r (from_to 0 32) (elim (truth (list_any (nat_eq r) (contract_of x).registers)) [
        | inl has ↦ absurd (let yes : true ≡ false = sym (own r has) ∙ out in cc)
        | inr none ↦ none
      ]))

  this_register : (r : ℕ) → m.has_register r ≡ true → r < 32 → h r ≡ after r
  this_register r has low =
      by (is_in x.registers r) refl
    where
      kept : (b : Bool) → b ≡ is_in x.registers r → (true && not b) ≡ keeps_register f (contract_of x) r
      kept b is = keeps_register_is f m x r true b machine low (sym has) is

      by : (b : Bool) → is_in x.registers r ≡ b → (if b then value_from x.registers values r 0 32 else old.regs r) ≡ after r
      by true is = value_changed x values r ∙ ap (λ b. if b then old.regs r else value_in (changed_by (contract_of x)) values r) (kept true (sym is))
      by false is = ap (λ b. if b then old.regs r else value_in (changed_by (contract_of x)) values r) (kept false (sym is))

  has_is : (r : ℕ) (b : Bool) → (nat_le form.first r && nat_lt r (form.first + count)) ≡ b → m.has_register r ≡ b
  has_is r b is = fitted.registers r ∙ is

  register_is : (r : ℕ) → register_at form (map h (from_to form.first count)) r ≡ after r
  register_is r = elim (truth (nat_lt r form.first)) [
    | inl before ↦ ap (λ b. if b then 0 else slice_index (map h (from_to form.first count)) (r - form.first)) before
        ∙ sym (other_register r (has_is r false (let no : nat_le form.first r ≡ false = grind (arith, nat_tests) in ap (λ b. b && nat_lt r
        (form.first + count)) no)))
    | inr from ↦ ap (λ b. if b then 0 else slice_index (map h (from_to form.first count)) (r - form.first)) from
        ∙ elim (truth (nat_lt r (form.first + count))) as (λ _. slice_index (map h (from_to form.first count)) (r - form.first) ≡ after r) [
          | inl upto ↦ (let here : r - form.first < count = grind (arith, nat_tests) in
              let same : form.first + (r - form.first) ≡ r = grind (arith, nat_tests) in
              let first : nat_le form.first r ≡ true = grind (arith, nat_tests) in
              let low : r < 32 = (let most = fitted.low_registers in let u : r < form.first + count = grind (arith, nat_tests) in omega (arith, most, u)) in
              mapped_at h count form.first (r - form.first) here ∙ ap h same
              ∙ this_register r (has_is r true (ap (λ b. b && nat_lt r (form.first + count)) first ∙ upto)) low)
          | inr over ↦ (let above : count ≤ r - form.first = grind (arith, nat_tests) in
              let first : nat_le form.first r ≡ true = grind (arith, nat_tests) in
              mapped_after h count form.first (r - form.first) above
              ∙ sym (other_register r (has_is r false (ap (λ b. b && nat_lt r (form.first + count)) first ∙ over))))
        ]
  ]

  -- ---- the state

  -- what is given, for a state whose bytes have been filled
  pub seen_after : (places : List ℕ) (c : WrittenCall) (w : Written) (to : ℕ) (filled new : State) → values ≡ c.regs →
      places ≡ written m.endian (contract_of x).writes old → IsFilledBy c.bytes places old filled → w.regs ≡ map h (from_to form.first count) →
      ((n : ℕ) → bit_at n w.flags ≡ (if keeps_flag f (contract_of x) n then old.flags n else bit_at n c.flags)) →
      new ≡ with_memory (made form w to []) filled.mem →
      IsSeenAs (state_after f (contract_of x) old to (given_by (changed_by (contract_of x)) c)) new
  seen_after places c w to filled new same bytes fill regs flags is = record {
    rest = is ∙ ap (λ (z : State). with_memory z filled.mem) (λ i. record {
      pc = to;
      regs = registers_are i;
      flags = flags_are i;
      mem = (state_after f (contract_of x) old to (given_by (changed_by (contract_of x)) c)).mem;
    }) ∙ ap (λ z. with_memory (state_after f (contract_of x) old to (given_by (changed_by (contract_of x)) c)) z) (sym (ap (λ (z : State). z.mem) is));
    mem = λ a low. byte_is a low ∙ sym (fill.mem a low) ∙ sym (ap (λ (z : State). z.mem a) is);
  }
    where
      regs_after : List ℕ → ℕ → ℕ
      regs_after l r = if keeps_register f (contract_of x) r then old.regs r else value_in (changed_by (contract_of x)) l r

      flags_after : ℕ → ℕ
      flags_after n = if keeps_flag f (contract_of x) n then old.flags n else bit_at n c.flags

      flags_made : ℕ → ℕ
      flags_made n = bit_at n w.flags

      registers_are : register_at form w.regs ≡ regs_after c.regs
      registers_are =
          ap (register_at form) regs ∙ fun_ext register_is
          ∙ ap regs_after same

      flags_are : flags_made ≡ flags_after
      flags_are = fun_ext flags

      turned : (b : Bool) (v w : ℕ) → (if not b then w else v) ≡ (if b then v else w)
      turned true v w = refl
      turned false v w = refl

      byte_is : (a : ℕ) → a < 2 ^ 32 → (state_after f (contract_of x) old to (given_by (changed_by (contract_of x)) c)).mem a
          ≡ (if list_any (nat_eq a) places then byte_in c.bytes a else old.mem a)
      byte_is a low =
          let test : nat_lt a 4294967296 ≡ true = grind (arith, nat_tests) in
          let same_place : word 32 a ≡ a = omega (arith, low) in
          ap (λ b. if b && not (covers f.program.machine.endian (contract_of x).writes old a) then old.mem a else byte_in c.bytes (word 32 a)) test
          ∙ ap (λ (z : Machine). if not (covers z.endian (contract_of x).writes old a) then old.mem a else byte_in c.bytes (word 32 a)) machine
          ∙ ap (λ l. if not (list_any (nat_eq a) l) then old.mem a else byte_in c.bytes (word 32 a)) (sym bytes)
          ∙ ap (λ k. if not (list_any (nat_eq a) places) then old.mem a else byte_in c.bytes k) same_place
          ∙ turned (list_any (nat_eq a) places) (byte_in c.bytes a) (old.mem a)
