-- The rows of ARM that use no flag but by their condition are lawful: SWP, LDR and STR, halfwords, LDM and STM, B and BL, SWI, BX, CLZ.
use Rattle.std.proofs.Common.{◌≡◌, ℕ, zero, suc, ◌+◌, ◌-◌, ◌*◌, ◌%◌, ◌^◌, ◌<◌, ◌≤◌, refl, sym, ap, subst, ◌∙◌, inl, inr, ◌⊎◌, true, false, Bool, arith, Option, Some, None, List, [], ◌∷◌, length}
use Rattle.std.specs.Prelude.{◌==◌, ◌&&◌, not, if◌then◌else◌, Contains}
use Rattle.std.proofs.lemmas.Bool.{ne_eqb, eq-eqb, eqb-true}
use Rattle.std.specs.Int.Count.{count_leading_zeros}
use Rattle.std.proofs.lemmas.Nat.{leading_le}
use Rattle.machine_spec.proofs.WordBounds.{stored_below, sign_extend_below}
use Rattle.machine_spec.proofs.LoadedBytes.{in_span, within, load_same, kept_same, store_same}
use Rattle.machine_spec.proofs.ArmConditional.{Way, IsDone, conditional, agrees, neither}
use Rattle.machine_spec.proofs.ArmRanges.{below_if, mod_word, put_below, reg_small, load_1, load_2, load_4, load_by_small, store_by_small, store_by_keeps, untouched, outside, base_small, load_all_small, store_all_small, store_all_keeps, moved_small, load_by_same, store_by_same, load_at, load_all_same, store_all_same}
use Rattle.word_spec.specs.Words.{add, sub, aligned, bits, sign_extend}
use Rattle.word_spec.specs.Memory.{Endian, Memory, load, store, span}
use Rattle.word_spec.specs.State.{State, IsState, put, with_pc}
use Rattle.machine_spec.specs.Machine.{Indirect, Outcome, Goes, Raises, SoftwareInterrupt, Successors, only_next, addresses, byte_count}
use Rattle.machine_spec.specs.Arm.{on, reg, stored_reg, has_bit, is_always, when_stored, write_by, may_write_pc, none, flag_set, by_number, load_by, store_by, access_of, is_byte, is_load, bit_i, kind_of, amount_of, field_n, field_d, field_m, swapped, swap, base_written, transfer_offset, transfer_address, address, is_pre, moved, loaded_by, is_unaligned, transferred, single_transfer, literal_address, halfword_offset, halfword_address, halfword_value, halfword_size, is_even, halfword_by, halfword_done, halfword, listed, listed_from, block_start, block_base, store_all, block_loaded, block_done, block, bit_w, branch_target, branched, branch, is_linked, software_interrupt, exchange, counted, count}
use Rattle.machine_spec.specs.MachineLaws.{IsLawful, IsPriced, IfGoes, IfRaises, with_flag, OutcomesAgreeBut, with_memory, SameButMemory, BeginsInMemory}

-- one outcome that stores the bytes, goes to the successors, and loads none before an exception
record Fine (s : State) (e : Outcome) (places loaded : Option (ℕ × ℕ)) (successors : Successors) : Type 0 where
  kept : IfGoes e (λ how new. (a : ℕ) → a < 2 ^ 32 → (Contains (addresses places) a → ⊥) → new.mem a ≡ s.mem a)
  raised : IfRaises e (places ≡ None)
  ways : IfGoes e (λ how new. Way successors (add 32 s.pc 4) how new.pc)
  states : IfGoes e (λ how new. IsState new)
  unloaded : IfRaises e (loaded ≡ None)

-- a row all whose outcomes are
fine_done : (w : ℕ) (effect : State → ℕ → Outcome) (stored loaded : Bool → State → Option (ℕ × ℕ)) (successors : ℕ → Successors) (reads : ℕ → Bool)
    (drawing : Bool) →
    ((s : State) (c : ℕ) → IsState s → Fine s (effect s c) (stored true s) (loaded true s) (successors s.pc)) →
    ((at : ℕ) → is_always w ≡ false → (successors at).next ≡ true) →
    ((at : ℕ) → (successors at).indirect ≡ true → (successors at).direct ≡ None) →
    ((s : State) (c : ℕ) → IfGoes (effect s c) (λ how new. new.flags ≡ s.flags)) →
    ((s : State) (c f v : ℕ) → reads f ≡ false → OutcomesAgreeBut f (effect s c) (effect (with_flag s f v) c)) →
    (drawing ≡ false → (s : State) (c d : ℕ) → effect s c ≡ effect s d) →
    ((b : Bool) (s : State) (f v : ℕ) → reads f ≡ false → stored b s ≡ stored b (with_flag s f v)) →
    ((s : State) → stored false s ≡ None) →
    ((b : Bool) (s : State) (m : Memory) → (loaded b s ≡ loaded b (with_memory s m)) × (stored b s ≡ stored b (with_memory s m))) →
    ((s : State) (m : Memory) (c : ℕ) → IsState s → ((a : ℕ) → Contains (addresses (loaded true s)) a → s.mem a ≡ m a) →
    SameButMemory s m (addresses (stored true s)) (effect s c) (effect (with_memory s m) c)) →
    IsDone w effect stored loaded successors reads none none drawing
fine_done w effect stored loaded successors reads drawing fine skips one_way flags unread draws same idle steady loads = record {
  kept = λ s c is. (fine s c is).kept;
  raised = λ s c is. (fine s c is).raised;
  ways = λ s c is. (fine s c is).ways;
  skips = skips;
  one_way = one_way;
  states = λ s c is. (fine s c is).states;
  unassigned = λ s c f lt no_use. flag_of (effect s c) s f (flags s c);
  unread = λ s c f v lt no_use. unread s c f v no_use;
  sure = λ s c f v lt no_use surely. cc;
  sure_flags = λ f surely. cc;
  draws = draws;
  plain = λ f assigned b s. cc;
  stored_unread = same;
  idle = idle;
  steady = steady;
  loads = loads;
  unloaded = λ s c is. (fine s c is).unloaded;
}
  where
    flag_of : (e : Outcome) (s : State) (f : ℕ) → IfGoes e (λ how new. new.flags ≡ s.flags) → IfGoes e (λ how new. new.flags f ≡ s.flags f)
    flag_of (Goes how new) s f h = ap (λ (g : ℕ → ℕ). g f) h
    flag_of (Raises e) s f h = tt

-- a row that can go on by a register 15 that it writes
pub skips_pc : (w : ℕ) (writes : Bool) (at : ℕ) → is_always w ≡ false → (may_write_pc w writes at).next ≡ true
skips_pc w true at h = rw h refl
skips_pc w false at h = refl

-- SWI
pub software_interrupt_lawful : (w : ℕ) → IsLawful (software_interrupt w)
software_interrupt_lawful w =
    conditional w (λ s c. Raises SoftwareInterrupt) (λ b s. None) (λ b s. None) (λ at. record { next = not (is_always w); direct = None; indirect = false; call = false })
    (λ at. None)
    (record { row = 4096; loads = 0; stores = 0 }) none none none false false
    (record { least = omega arith; most = omega arith; loads = omega arith; stores = omega arith }) (λ b s. omega arith) (λ b s is. tt) (λ l at. cc)
    (fine_done w _ _ _ _ none false (λ s c is. record { kept = tt; raised = refl; ways = tt; states = tt; unloaded = refl }) (λ at h. rw h refl) (λ at h. refl)
    (λ s c. tt) (λ s c f v h. refl) (λ h s c d. refl) (λ b s f v h. refl) (λ s. refl) (λ b s m. (refl, refl)) (λ s m c is h. refl))

-- BX
pub exchange_lawful : (w : ℕ) → IsLawful (exchange w)
exchange_lawful w =
    conditional w (λ s c. Goes Indirect (with_pc s (reg s (field_m w)))) (λ b s. None) (λ b s. None) (may_write_pc w true) (λ at. None)
    (record { row = 4096; loads = 0; stores = 0 }) none none none false false
    (record { least = omega arith; most = omega arith; loads = omega arith; stores = omega arith }) (λ b s. omega arith) (λ b s is. tt) (λ l at. cc)
    (fine_done w _ _ _ _ none false (λ s c is. record {
      kept = λ a lt out. refl;
      raised = tt;
      ways = (refl, refl);
      states = record { pc = reg_small s (field_m w) is; regs = is.regs; flags = is.flags; mem = is.mem };
      unloaded = tt;
    }) (skips_pc w true) (λ at h. refl) (λ s c. refl) (λ s c f v h. (refl, agrees _ _ f v refl refl refl refl)) (λ h s c d. refl) (λ b s f v h. refl)
    (λ s. refl) (λ b s m. (refl, refl)) (λ s m c is h. (refl, refl, refl, refl, λ a lt e. kept_same a s.mem m e)))

-- CLZ
zeros_small : (v : ℕ) → count_leading_zeros 32 v < 2 ^ 32
zeros_small v = let p = leading_le 32 v in omega (arith, p)

pub count_lawful : (w : ℕ) → IsLawful (count w)
count_lawful w =
    conditional w (λ s c. counted w s) (λ b s. None) (λ b s. None) only_next (λ at. None) (record { row = 4096; loads = 0; stores = 0 }) none none none false
    false (record { least = omega arith; most = omega arith; loads = omega arith; stores = omega arith }) (λ b s. omega arith) (λ b s is. tt) (λ l at. cc)
    (fine_done w _ _ _ _ none false (λ s c is. record {
      kept = λ a lt out. refl;
      raised = tt;
      ways = (refl, refl);
      states = record { pc = mod_word _; regs = put_below s.regs (field_d w) _ (2 ^ 32) is.regs (zeros_small _); flags = is.flags; mem = is.mem };
      unloaded = tt;
    }) (λ at h. refl) (λ at h. refl) (λ s c. refl) (λ s c f v h. (refl, agrees _ _ f v refl refl refl refl)) (λ h s c d. refl) (λ b s f v h. refl)
    (λ s. refl) (λ b s m. (refl, refl)) (λ s m c is h. (refl, refl, refl, refl, λ a lt e. kept_same a s.mem m e)))

-- B and BL
branched_fine : (l : Bool) (w : ℕ) (s : State) → IsState s →
    Fine s (branched l w s) None None (record { next = not (is_always w); direct = Some (branch_target w s.pc); indirect = false; call = l })
branched_fine true w s is = record {
  kept = λ a lt out. refl;
  raised = tt;
  ways = (refl, refl);
  states = record { pc = mod_word _; regs = put_below s.regs 14 _ (2 ^ 32) is.regs (mod_word _); flags = is.flags; mem = is.mem };
  unloaded = tt;
}
branched_fine false w s is = record {
  kept = λ a lt out. refl;
  raised = tt;
  ways = (refl, refl);
  states = record { pc = mod_word _; regs = is.regs; flags = is.flags; mem = is.mem };
  unloaded = tt;
}

branched_flags : (l : Bool) (w : ℕ) (s : State) → IfGoes (branched l w s) (λ how new. new.flags ≡ s.flags)
branched_flags true w s = refl
branched_flags false w s = refl

branched_agree : (l : Bool) (w : ℕ) (s : State) (f v : ℕ) → OutcomesAgreeBut f (branched l w s) (branched l w (with_flag s f v))
branched_agree true w s f v = (refl, agrees _ _ f v refl refl refl refl)
branched_agree false w s f v = (refl, agrees _ _ f v refl refl refl refl)

branched_over : (l : Bool) (w : ℕ) (s : State) (m : Memory) → SameButMemory s m [] (branched l w s) (branched l w (with_memory s m))
branched_over true w s m = (refl, refl, refl, refl, λ a lt e. kept_same a s.mem m e)
branched_over false w s m = (refl, refl, refl, refl, λ a lt e. kept_same a s.mem m e)

pub branch_lawful : (w : ℕ) → IsLawful (branch w)
branch_lawful w =
    conditional w (λ s c. branched (is_linked w) w s) (λ b s. None) (λ b s. None)
    (λ at. record { next = not (is_always w); direct = Some (branch_target w at); indirect = false; call = is_linked w }) (λ at. None)
    (record { row = 4096; loads = 0; stores = 0 }) none none none false (is_linked w)
    (record { least = omega arith; most = omega arith; loads = omega arith; stores = omega arith }) (λ b s. omega arith) (λ b s is. tt) (λ l at. l)
    (fine_done w _ _ _ _ none false (λ s c is. branched_fine (is_linked w) w s is) (λ at h. rw h refl) (λ at h. cc) (λ s c. branched_flags (is_linked w) w s)
    (λ s c f v h. branched_agree (is_linked w) w s f v) (λ h s c d. refl) (λ b s f v h. refl) (λ s. refl) (λ b s m. (refl, refl))
    (λ s m c is h. branched_over (is_linked w) w s m))

-- costs are within their bounds
swap_priced : (same byte : Bool) → IsPriced (record {
  row = 4096;
  loads = if same then 3 * (if byte then 1 else 4) else (if byte then 1 else 4);
  stores =
      if byte then 1 else 4;
})
swap_priced true true = record { least = omega arith; most = omega arith; loads = omega arith; stores = omega arith }
swap_priced true false = record { least = omega arith; most = omega arith; loads = omega arith; stores = omega arith }
swap_priced false true = record { least = omega arith; most = omega arith; loads = omega arith; stores = omega arith }
swap_priced false false = record { least = omega arith; most = omega arith; loads = omega arith; stores = omega arith }

access_priced : (load : Bool) (row loaded stored : ℕ) → 64 ≤ row → row ≤ 20000 → loaded ≤ 64 → stored ≤ 64 →
    IsPriced (record { row = row; loads = if load then loaded else 0; stores = if load then 0 else stored })
access_priced true row loaded stored p q r t = record { least = p; most = q; loads = r; stores = omega arith }
access_priced false row loaded stored p q r t = record { least = p; most = q; loads = omega arith; stores = t }

one_or_four : (byte : Bool) → (if byte then 1 else 4) ≤ 64
one_or_four true = omega arith
one_or_four false = omega arith

one_or_two : (byte : Bool) → (if byte then 1 else 2) ≤ 64
one_or_two true = omega arith
one_or_two false = omega arith

-- as many bytes are loaded as the cost counts
few_where : (b load : Bool) (p : ℕ × ℕ) (n : ℕ) → (b ≡ true → load ≡ true) → p.1 ≤ n → byte_count (when_stored b p) ≤ (if load then n else 0)
few_where false true p n h l = omega arith
few_where false false p n h l = omega arith
few_where true true p n h l = l
few_where true false p n h l = let e = h refl in cc

-- and from an address of 32 bits on
begins_where : (b : Bool) (p : ℕ × ℕ) → p.0 < 2 ^ 32 → BeginsInMemory (when_stored b p)
begins_where true p h = h
begins_where false p h = tt

access_begins : (byte : Bool) (a : ℕ) → a < 2 ^ 32 → (access_of byte a).0 < 2 ^ 32
access_begins true a h = h
access_begins false a h = omega arith

middle_test : (b load ok : Bool) → (b && load && ok) ≡ true → load ≡ true
middle_test true true ok h = refl
middle_test true false ok h = cc
middle_test false load ok h = cc

last_test : (b load : Bool) → (b && load) ≡ true → load ≡ true
last_test true load h = h
last_test false load h = cc

access_few : (byte : Bool) (a : ℕ) → (access_of byte a).1 ≤ (if byte then 1 else 4)
access_few true a = omega arith
access_few false a = omega arith

swap_few : (b same byte : Bool) (a : ℕ) →
    byte_count (when_stored b (access_of byte a)) ≤ (if same then 3 * (if byte then 1 else 4) else (if byte then 1 else 4))
swap_few false true true a = omega arith
swap_few false true false a = omega arith
swap_few false false true a = omega arith
swap_few false false false a = omega arith
swap_few true true true a = omega arith
swap_few true true false a = omega arith
swap_few true false true a = omega arith
swap_few true false false a = omega arith

-- a list has at most as many registers as are looked at
few_listed : (w r n : ℕ) → length (listed_from w r n) ≤ n
few_listed w r zero = omega arith
few_listed w r (suc n) = by_bit (has_bit r w) (few_listed w (r + 1) n)
  where
    by_bit : (b : Bool) → length (listed_from w (r + 1) n) ≤ n → length (if b then r ∷ listed_from w (r + 1) n else listed_from w (r + 1) n) ≤ suc n
    by_bit true h = omega arith
    by_bit false h = omega arith

-- SWP
pub swap_lawful : (e : Endian) (w : ℕ) → IsLawful (swap e w)
swap_lawful e w =
    conditional w (λ s c. swapped e w s) (λ b s. when_stored b (access_of (is_byte w) (reg s (field_n w))))
    (λ b s. when_stored b (access_of (is_byte w) (reg s (field_n w)))) only_next (λ at. None)
    (record {
      row = 4096;
      loads = if field_d w == field_m w then 3 * (if is_byte w then 1 else 4) else (if is_byte w then 1 else 4);
      stores = if is_byte w
          then 1 else 4;
    })
    none none none false false (swap_priced (field_d w == field_m w) (is_byte w))
    (λ b s. swap_few b (field_d w == field_m w) (is_byte w) (reg s (field_n w)))
    (λ b s is. begins_where b _ (access_begins (is_byte w) _ (reg_small s (field_n w) is))) (λ l at. cc)
    (fine_done w _ (λ b s. when_stored b (access_of (is_byte w) (reg s (field_n w)))) (λ b s. when_stored b (access_of (is_byte w) (reg s (field_n w))))
    only_next none false
    (λ s c is. record {
      kept = λ a lt out. store_by_keeps (is_byte w) e s.mem (reg s (field_n w)) (reg s (field_m w)) a (reg_small s (field_n w) is) lt out;
      raised = tt;
      ways = (refl, refl);
      states = record {
        pc = mod_word _;
        regs = put_below s.regs (field_d w) _ (2 ^ 32) is.regs (load_by_small (is_byte w) e s.mem _ is.mem);
        flags = is.flags;
        mem = λ a. store_by_small (is_byte w) e s.mem (reg s (field_n w)) (reg s (field_m w)) a (is.mem a);
      };
      unloaded = tt;
    })
    (λ at h. refl) (λ at h. refl) (λ s c. refl) (λ s c f v h. (refl, agrees _ _ f v refl refl refl refl)) (λ h s c d. refl) (λ b s f v h. refl)
    (λ s. refl) (λ b s m. (refl, refl))
    (λ s m c is h. (
      refl,
      refl,
      ap (λ z. put s.regs (field_d w) z) (load_by_same (is_byte w) e s.mem m (reg s (field_n w)) (reg_small s (field_n w) is) h),
      refl,
      λ a lt o. store_by_same (is_byte w) e s.mem m (reg s (field_n w)) (reg s (field_m w)) a (reg_small s (field_n w) is) o,
    )))

-- a written register
write_fine : (pc : Bool) (w : ℕ) (s : State) (regs : ℕ → ℕ) (r v : ℕ) → IsState s → ((k : ℕ) → regs k < 2 ^ 32) → v < 2 ^ 32 →
    (loaded : Option (ℕ × ℕ)) → Fine s (write_by pc s (record s { regs = regs }) r v) None loaded (may_write_pc w pc s.pc)
write_fine true w s regs r v is p q loaded = record {
  kept = λ a lt out. refl;
  raised = tt;
  ways = (refl, refl);
  states = record { pc = q; regs = p; flags = is.flags; mem = is.mem };
  unloaded = tt;
}
write_fine false w s regs r v is p q loaded = record {
  kept = λ a lt out. refl;
  raised = tt;
  ways = (refl, refl);
  states = record { pc = mod_word _; regs = put_below regs r v (2 ^ 32) p q; flags = is.flags; mem = is.mem };
  unloaded = tt;
}

write_flags : (pc : Bool) (s : State) (regs : ℕ → ℕ) (r v : ℕ) → IfGoes (write_by pc s (record s { regs = regs }) r v) (λ how new. new.flags ≡ s.flags)
write_flags true s regs r v = refl
write_flags false s regs r v = refl

write_agree : (pc : Bool) (s : State) (regs other : ℕ → ℕ) (r v u f x : ℕ) → regs ≡ other → v ≡ u →
    OutcomesAgreeBut f (write_by pc s (record s { regs = regs }) r v) (write_by pc (with_flag s f x) (record (with_flag s f x) { regs = other }) r u)
write_agree true s regs other r v u f x p q = (refl, agrees _ _ f x q p refl refl)
write_agree false s regs other r v u f x p q = (refl, agrees _ _ f x refl (ap (λ g. put g r v) p ∙ ap (λ z. put other r z) q) refl refl)

write_over : (pc : Bool) (s : State) (m : Memory) (regs : ℕ → ℕ) (r v u : ℕ) → v ≡ u →
    SameButMemory s m [] (write_by pc s (record s { regs = regs }) r v) (write_by pc (with_memory s m) (record (with_memory s m) { regs = regs }) r u)
write_over true s m regs r v u e = (refl, e, refl, refl, λ a lt o. kept_same a s.mem m o)
write_over false s m regs r v u e = (refl, refl, ap (λ z. put regs r z) e, refl, λ a lt o. kept_same a s.mem m o)

-- LDR and STR
address_small : (w : ℕ) (base offset : ℕ) → base < 2 ^ 32 → address w base offset < 2 ^ 32
address_small w base offset p = below_if (is_pre w) _ _ (2 ^ 32) (moved_small w base offset) p

-- what LDR loads where its condition holds
abbrev loaded_where : (load unaligned : Bool) → ℕ → State → Option (ℕ × ℕ)
loaded_where load unaligned w s = when_stored (true && load && not unaligned) (access_of (is_byte w) (transfer_address w s))

transferred_fine : (load unaligned : Bool) (e : Endian) (w : ℕ) (s : State) (c : ℕ) → IsState s →
    unaligned ≡ is_unaligned w s →
    Fine s (transferred load e w s c) (when_stored (true && not load) (access_of (is_byte w) (transfer_address w s))) (loaded_where load (is_unaligned w s) w s)
    (may_write_pc w (load && (field_d w == 15)) s.pc)
transferred_fine true true e w s c is h =
    subst (λ (b : Bool). Fine s (loaded_by b e w s) None (loaded_where true b w s) (may_write_pc w (field_d w == 15) s.pc)) h
    (record { kept = tt; raised = refl; ways = tt; states = tt; unloaded = refl })
transferred_fine true false e w s c is h =
    subst (λ (b : Bool). Fine s (loaded_by b e w s) None (loaded_where true b w s) (may_write_pc w (field_d w == 15) s.pc)) h
    (write_fine (field_d w == 15) w s (base_written w s (transfer_offset w s)) (field_d w) _ is (base_small w s (transfer_offset w s) is)
    (load_by_small (is_byte w) e s.mem (transfer_address w s) is.mem) _)
transferred_fine false u e w s c is h = record {
  kept = λ a lt out. store_by_keeps (is_byte w) e s.mem (transfer_address w s) _ a
      (address_small w _ (transfer_offset w s) (reg_small s (field_n w) is)) lt out;
  raised = tt;
  ways = (refl, refl);
  states = record {
    pc = mod_word _;
    regs = base_small w s (transfer_offset w s) is;
    flags = is.flags;
    mem = λ a. store_by_small (is_byte w) e s.mem (transfer_address w s) _ a (is.mem a);
  };
  unloaded = tt;
}

loaded_over : (unaligned : Bool) (e : Endian) (w : ℕ) (s : State) (m : Memory) → IsState s →
    ((a : ℕ) → Contains (addresses (loaded_where true unaligned w s)) a → s.mem a ≡ m a) →
    SameButMemory s m [] (loaded_by unaligned e w s) (loaded_by unaligned e w (with_memory s m))
loaded_over true e w s m is h = refl
loaded_over false e w s m is h =
    write_over (field_d w == 15) s m (base_written w s (transfer_offset w s)) (field_d w) _ _
    (load_by_same (is_byte w) e s.mem m (transfer_address w s) (address_small w _ (transfer_offset w s) (reg_small s (field_n w) is)) h)

transferred_over : (load : Bool) (e : Endian) (w : ℕ) (s : State) (m : Memory) (c : ℕ) → IsState s →
    ((a : ℕ) → Contains (addresses (loaded_where load (is_unaligned w s) w s)) a → s.mem a ≡ m a) →
    SameButMemory s m (addresses (when_stored (true && not load) (access_of (is_byte w) (transfer_address w s)))) (transferred load e w s c)
    (transferred load e w (with_memory s m) c)
transferred_over true e w s m c is h = loaded_over (is_unaligned w s) e w s m is h
transferred_over false e w s m c is h = (
  refl,
  refl,
  refl,
  refl,
  λ a lt o. store_by_same (is_byte w) e s.mem m (transfer_address w s) (stored_reg s c (field_d w)) a
      (address_small w _ (transfer_offset w s) (reg_small s (field_n w) is)) o,
)

loaded_flags : (unaligned : Bool) (e : Endian) (w : ℕ) (s : State) → IfGoes (loaded_by unaligned e w s) (λ how new. new.flags ≡ s.flags)
loaded_flags true e w s = tt
loaded_flags false e w s = write_flags (field_d w == 15) s _ (field_d w) _

transferred_flags : (load : Bool) (e : Endian) (w : ℕ) (s : State) (c : ℕ) → IfGoes (transferred load e w s c) (λ how new. new.flags ≡ s.flags)
transferred_flags true e w s c = loaded_flags _ e w s
transferred_flags false e w s c = refl

-- a shift by a number reads the carry only where it rotates through it
pub shift_same : (k amount v c d : ℕ) → ((k == 3) && (amount == 0)) ≡ false → (by_number k amount v c).value ≡ (by_number k amount v d).value
shift_same k (suc n) v c d h = refl
shift_same zero zero v c d h = refl
shift_same (suc zero) zero v c d h = refl
shift_same (suc (suc zero)) zero v c d h = refl
shift_same (suc (suc (suc zero))) zero v c d h = cc
shift_same (suc (suc (suc (suc k)))) zero v c d h = refl

other_flag : (g : ℕ → ℕ) (f v k : ℕ) → (f == k) ≡ false → g k ≡ put g f v k
other_flag g f v k e = let t = ne_eqb k f (λ same. differs k f same e) in rw t refl
  where
    differs : (k f : ℕ) → k ≡ f → (f == k) ≡ false → ⊥
    differs k f same e = let t : (k == k) ≡ true = eq-eqb k k refl in let u = subst (λ (z : ℕ). (z == k) ≡ false) (sym same) e in cc

true_part : (x : Bool) → (x && true) ≡ false → x ≡ false
true_part true h = h
true_part false h = refl

carry_same : (k n r f v : ℕ) (F : ℕ → ℕ) (is_c : Bool) → (f == 1) ≡ is_c → ((k == 3) && (n == 0) && is_c) ≡ false →
    (by_number k n r (F 1)).value ≡ (by_number k n r (put F f v 1)).value
carry_same k n r f v F true e h = shift_same k n r (F 1) (put F f v 1) (true_part _ h)
carry_same k n r f v F false e h = ap (λ z. (by_number k n r z).value) (other_flag F f v 1 e)

offset_by : (b : Bool) (k n r number f v : ℕ) (F : ℕ → ℕ) → flag_set false (b && (k == 3) && (n == 0)) false f ≡ false →
    (if b then (by_number k n r (F 1)).value else number) ≡ (if b then (by_number k n r (put F f v 1)).value else number)
offset_by true k n r number f v F h = carry_same k n r f v F (f == 1) refl (neither ((k == 3) && (n == 0) && (f == 1)) false h).0
offset_by false k n r number f v F h = refl

offset_same : (w : ℕ) (s : State) (f v : ℕ) → flag_set false (bit_i w && (kind_of w == 3) && (amount_of w == 0)) false f ≡ false →
    transfer_offset w s ≡ transfer_offset w (with_flag s f v)
offset_same w s f v h = offset_by (bit_i w) (kind_of w) (amount_of w) (reg s (field_m w)) (bits 11 0 w) f v s.flags h

loaded_agree : (u x : Bool) (e : Endian) (w : ℕ) (s : State) (f v : ℕ) → u ≡ x → transfer_offset w s ≡ transfer_offset w (with_flag s f v) →
    OutcomesAgreeBut f (loaded_by u e w s) (loaded_by x e w (with_flag s f v))
loaded_agree true true e w s f v h o = refl
loaded_agree false false e w s f v h o =
    write_agree (field_d w == 15) s _ _ (field_d w) _ _ f v (ap (λ z. base_written w s z) o)
    (ap (λ z. load_by (is_byte w) e s.mem (address w (reg s (field_n w)) z)) o)
loaded_agree true false e w s f v h o = cc
loaded_agree false true e w s f v h o = cc

transferred_agree : (load : Bool) (e : Endian) (w : ℕ) (s : State) (c f v : ℕ) → transfer_offset w s ≡ transfer_offset w (with_flag s f v) →
    OutcomesAgreeBut f (transferred load e w s c) (transferred load e w (with_flag s f v) c)
transferred_agree true e w s c f v o =
    loaded_agree _ _ e w s f v (ap (λ z. (field_d w == 15) && not (address w (reg s (field_n w)) z % 4 == 0)) o) o
transferred_agree false e w s c f v o = (
  refl,
  agrees _ _ f v refl (ap (λ z. base_written w s z) o)
      (ap (λ z. store_by (is_byte w) e s.mem (address w (reg s (field_n w)) z) (stored_reg s c (field_d w))) o) refl,
)

stored_reg_same : (s : State) (c d r : ℕ) → (r == 15) ≡ false → stored_reg s c r ≡ stored_reg s d r
stored_reg_same s c d r h = rw h refl

transferred_draws : (load : Bool) (e : Endian) (w : ℕ) (s : State) (c d : ℕ) → (not load && (field_d w == 15)) ≡ false →
    transferred load e w s c ≡ transferred load e w s d
transferred_draws true e w s c d h = refl
transferred_draws false e w s c d h =
    ap (λ z. on s (record s { regs = base_written w s (transfer_offset w s); mem = store_by (is_byte w) e s.mem (transfer_address w s) z }))
    (stored_reg_same s c d (field_d w) h)

pub transfer_lawful : (e : Endian) (w : ℕ) → IsLawful (single_transfer e w)
transfer_lawful e w =
    let n = if is_byte w then 1 else 4 in
    let reads : ℕ → Bool = flag_set false (bit_i w && (kind_of w == 3) && (amount_of w == 0)) false in
    conditional w (transferred (is_load w) e w) (λ b s. when_stored (b && not (is_load w)) (access_of (is_byte w) (transfer_address w s)))
    (λ b s. when_stored (b && is_load w && not (is_unaligned w s)) (access_of (is_byte w) (transfer_address w s)))
    (may_write_pc w (is_load w && (field_d w == 15))) (literal_address w)
    (record { row = 4096; loads = if is_load w then n else 0; stores = if is_load w then 0 else n }) reads none none (not (is_load w) && (field_d w == 15)) false
    (access_priced (is_load w) 4096 (if is_byte w then 1 else 4) (if is_byte w then 1
    else 4) (omega arith) (omega arith) (one_or_four (is_byte w)) (one_or_four (is_byte w)))
    (λ b s. few_where (b && is_load w && not (is_unaligned w s)) (is_load w) (access_of (is_byte w) (transfer_address w s)) (if is_byte w then 1 else 4)
    (middle_test b (is_load w) (not (is_unaligned w s))) (access_few (is_byte w) (transfer_address w s)))
    (λ b s is. begins_where _ _ (access_begins (is_byte w) _ (address_small w _ (transfer_offset w s) (reg_small s (field_n w) is)))) (λ l at. cc)
    (fine_done w (transferred (is_load w) e w) (λ b s. when_stored (b && not (is_load w)) (access_of (is_byte w) (transfer_address w s)))
    (λ b s. when_stored (b && is_load w && not (is_unaligned w s)) (access_of (is_byte w) (transfer_address w s)))
    (may_write_pc w (is_load w && (field_d w == 15))) reads (not (is_load w) && (field_d w == 15))
    (λ s c is. transferred_fine (is_load w) _ e w s c is refl)
    (skips_pc w (is_load w && (field_d w == 15))) (λ at h. refl) (λ s c. transferred_flags (is_load w) e w s c)
    (λ s c f v h. transferred_agree (is_load w) e w s c f v (offset_same w s f v h)) (λ h s c d. transferred_draws (is_load w) e w s c d h)
    (λ b s f v h. ap (λ z. when_stored (b && not (is_load w)) (access_of (is_byte w) (address w (reg s (field_n w)) z))) (offset_same w s f v h))
    (λ s. refl) (λ b s m. (refl, refl)) (λ s m c is h. transferred_over (is_load w) e w s m c is h))

-- halfwords and signed bytes
halfword_value_small : (e : Endian) (w : ℕ) (m : Memory) (a : ℕ) → ((i : ℕ) → m i < 256) → halfword_value e w m a < 2 ^ 32
halfword_value_small e w m a h =
    let two = load_2 e m a h in let one = load_1 e m a h in
    below_if (kind_of w == 1) _ _ (2 ^ 32) (omega arith)
    (below_if (kind_of w == 2) _ _ (2 ^ 32) (sign_extend_below 8 32 (load e 1 m a) one (omega arith))
    (sign_extend_below 16 32 (load e 2 m a) two (omega arith)))

halfword_small : (w : ℕ) (s : State) → IsState s → halfword_address w s < 2 ^ 32
halfword_small w s is = address_small w (reg s (field_n w)) (halfword_offset w s) (reg_small s (field_n w) is)

halfword_fine : (even load : Bool) (e : Endian) (w : ℕ) (s : State) → IsState s → even ≡ (halfword_address w s % halfword_size w == 0) →
    (load ≡ false → halfword_size w ≡ 2) →
    Fine s (halfword_by even load e w s) (when_stored (true && not load && (halfword_address w s % 2 == 0)) (halfword_address w s, 2))
    (when_stored (true && load && even) (halfword_address w s, halfword_size w)) (only_next s.pc)
halfword_fine false true e w s is h two = record { kept = tt; raised = refl; ways = tt; states = tt; unloaded = refl }
halfword_fine false false e w s is h two =
    let q : (halfword_address w s % 2 == 0) ≡ false = subst (λ (z : ℕ). (halfword_address w s % z == 0) ≡ false) (two refl) (sym h) in
    record { kept = tt; raised = rw q refl; ways = tt; states = tt; unloaded = refl }
halfword_fine true true e w s is h two = record {
  kept = λ a lt out. refl;
  raised = tt;
  ways = (refl, refl);
  states = record {
    pc = mod_word _;
    regs = put_below _ (field_d w) _ (2 ^ 32) (base_small w s (halfword_offset w s) is) (halfword_value_small e w s.mem (halfword_address w s) is.mem);
    flags = is.flags;
    mem = is.mem;
  };
  unloaded = tt;
}
halfword_fine true false e w s is h two =
    let q : (halfword_address w s % 2 == 0) ≡ true = subst (λ (z : ℕ). (halfword_address w s % z == 0) ≡ true) (two refl) (sym h) in
    record {
      kept = λ a lt out. untouched e 2 (halfword_address w s) _ a s.mem (outside 2 (halfword_address w s) a (halfword_small w s is) lt
          (λ inside. out (rw q inside)));
      raised = tt;
      ways = (refl, refl);
      states = record {
        pc = mod_word _;
        regs = base_small w s (halfword_offset w s) is;
        flags = is.flags;
        mem = λ a. stored_below e 2 s.mem (halfword_address w s) _ a (is.mem a);
      };
      unloaded = tt;
    }

halfword_value_same : (unsigned byte : Bool) (e : Endian) (m k : Memory) (a : ℕ) → a < 2 ^ 32 → (unsigned ≡ true → byte ≡ false) →
    ((x : ℕ) → Contains (addresses (Some (a, if byte then 1 else 2))) x → m x ≡ k x) →
    (if unsigned then load e 2 m a else if byte then sign_extend 8 32 (load e 1 m a) else sign_extend 16 32 (load e 2 m a))
    ≡ (if unsigned then load e 2 k a else if byte then sign_extend 8 32 (load e 1 k a) else sign_extend 16 32 (load e 2 k a))
halfword_value_same true true e m k a p o h = let t = o refl in cc
halfword_value_same true false e m k a p o h = load_same e 2 a m k p h
halfword_value_same false true e m k a p o h = ap (λ z. sign_extend 8 32 z) (load_same e 1 a m k p h)
halfword_value_same false false e m k a p o h = ap (λ z. sign_extend 16 32 z) (load_same e 2 a m k p h)

one_not_two : (k : ℕ) → (k == 1) ≡ true → (k == 2) ≡ false
one_not_two k e = let same = eqb-true k 1 e in rw same refl

halfword_over : (even load : Bool) (e : Endian) (w : ℕ) (s : State) (m : Memory) → IsState s → even ≡ is_even w s → (load ≡ false → halfword_size w ≡ 2) →
    ((a : ℕ) → Contains (addresses (when_stored (true && load && even) (halfword_address w s, halfword_size w))) a → s.mem a ≡ m a) →
    SameButMemory s m (addresses (when_stored (true && not load && (halfword_address w s % 2 == 0)) (halfword_address w s, 2))) (halfword_by even load e w s)
    (halfword_by even load e w (with_memory s m))
halfword_over false load e w s m is q two h = refl
halfword_over true true e w s m is q two h = (
  refl,
  refl,
  ap (λ z. put (base_written w s (halfword_offset w s)) (field_d w) z)
      (halfword_value_same (kind_of w == 1) (kind_of w == 2) e s.mem m (halfword_address w s) (halfword_small w s is) (one_not_two (kind_of w)) h),
  refl,
  λ a lt o. kept_same a s.mem m o,
)
halfword_over true false e w s m is q two h = (
  refl,
  refl,
  refl,
  refl,
  λ a lt o. store_same e 2 (halfword_address w s) (s.regs (field_d w)) a s.mem m (halfword_small w s is) (omega arith)
      (inside (halfword_address w s % 2 == 0) a o),
)
  where
    inside : (b : Bool) (a : ℕ) → (s.mem a ≡ m a) ⊎ Contains (addresses (when_stored b (halfword_address w s, 2))) a →
        (s.mem a ≡ m a) ⊎ Contains (span (halfword_address w s) 2) a
    inside true a o = o
    inside false a o = inl (kept_same a s.mem m o)

halfword_flags : (even load : Bool) (e : Endian) (w : ℕ) (s : State) → IfGoes (halfword_by even load e w s) (λ how new. new.flags ≡ s.flags)
halfword_flags false load e w s = tt
halfword_flags true true e w s = refl
halfword_flags true false e w s = refl

halfword_agree : (even load : Bool) (e : Endian) (w : ℕ) (s : State) (f v : ℕ) →
    OutcomesAgreeBut f (halfword_by even load e w s) (halfword_by even load e w (with_flag s f v))
halfword_agree false load e w s f v = refl
halfword_agree true true e w s f v = (refl, agrees _ _ f v refl refl refl refl)
halfword_agree true false e w s f v = (refl, agrees _ _ f v refl refl refl refl)

-- only halfwords are stored
pub halfword_lawful : (e : Endian) (w : ℕ) → (is_load w ≡ false → halfword_size w ≡ 2) → IsLawful (halfword e w)
halfword_lawful e w two =
    conditional w (λ s c. halfword_done e w s) (λ b s. when_stored (b && not (is_load w) && (halfword_address w s % 2 == 0)) (halfword_address w s, 2))
    (λ b s. when_stored (b && is_load w && is_even w s) (halfword_address w s, halfword_size w)) only_next (λ at. None)
    (record { row = 4096; loads = if is_load w then halfword_size w else 0; stores = if is_load w then 0 else 2 }) none none none false false
    (access_priced (is_load w) 4096 (halfword_size w) 2 (omega arith) (omega arith) (one_or_two (kind_of w == 2)) (omega arith))
    (λ b s. few_where (b && is_load w && is_even w s) (is_load w) (halfword_address w s, halfword_size w) (halfword_size w)
    (middle_test b (is_load w) (is_even w s)) (omega arith)) (λ b s is. begins_where _ _ (halfword_small w s is)) (λ l at. cc)
    (fine_done w (λ s c. halfword_done e w s) (λ b s. when_stored (b && not (is_load w) && (halfword_address w s % 2 == 0)) (halfword_address w s, 2))
    (λ b s. when_stored (b && is_load w && is_even w s) (halfword_address w s, halfword_size w)) only_next none false
    (λ s c is. halfword_fine _ (is_load w) e w s is refl two) (λ at h. refl) (λ at h. refl) (λ s c. halfword_flags _ (is_load w) e w s)
    (λ s c f v h. halfword_agree _ (is_load w) e w s f v) (λ h s c d. refl) (λ b s f v h. refl) (λ s. refl) (λ b s m. (refl, refl))
    (λ s m c is h. halfword_over (is_even w s) (is_load w) e w s m is refl two h))

-- LDM and STM
block_start_small : (w : ℕ) (s : State) → block_start w s < 2 ^ 32
block_start_small w s = aligned_small _ (below_if _ _ _ (2 ^ 32) (mod_word _) (mod_word _))
  where
    aligned_small : (a : ℕ) → a < 2 ^ 32 → aligned a < 2 ^ 32
    aligned_small a p = omega arith

block_base_small : (w : ℕ) (s : State) → IsState s → (r : ℕ) → block_base w s r < 2 ^ 32
block_base_small w s is r = by_case (bit_w w)
  where
    by_case : (b : Bool) → (if b then put s.regs (field_n w) (moved w (s.regs (field_n w)) (4 * length (listed w))) else s.regs) r < 2 ^ 32
    by_case true = put_below s.regs (field_n w) _ (2 ^ 32) is.regs (moved_small w _ _) r
    by_case false = is.regs r

block_loaded_fine : (pc : Bool) (e : Endian) (w : ℕ) (s : State) → IsState s → (loaded : Option (ℕ × ℕ)) →
    Fine s (block_loaded pc e w s) None loaded (may_write_pc w pc s.pc)
block_loaded_fine true e w s is loaded = record {
  kept = λ a lt out. refl;
  raised = tt;
  ways = (refl, refl);
  states = record {
    pc = load_4 e s.mem _ is.mem;
    regs = load_all_small e s.mem (block_start w s) (listed w) (block_base w s) is.mem (block_base_small w s is);
    flags = is.flags;
    mem = is.mem;
  };
  unloaded = tt;
}
block_loaded_fine false e w s is loaded = record {
  kept = λ a lt out. refl;
  raised = tt;
  ways = (refl, refl);
  states = record {
    pc = mod_word _;
    regs = load_all_small e s.mem (block_start w s) (listed w) (block_base w s) is.mem (block_base_small w s is);
    flags = is.flags;
    mem = is.mem;
  };
  unloaded = tt;
}

block_fine : (load : Bool) (e : Endian) (w : ℕ) (s : State) (c : ℕ) → IsState s →
    Fine s (block_done load e w s c) (when_stored (true && not load) (block_start w s, 4 * length (listed w)))
    (when_stored (true && load) (block_start w s, 4 * length (listed w))) (may_write_pc w (load && has_bit 15 w) s.pc)
block_fine true e w s c is = block_loaded_fine (has_bit 15 w) e w s is _
block_fine false e w s c is = record {
  kept = λ a lt out. store_all_keeps e s c (block_start w s) (listed w) s.mem a (block_start_small w s) lt
      (outside (4 * length (listed w)) (block_start w s) a (block_start_small w s) lt out);
  raised = tt;
  ways = (refl, refl);
  states = record {
    pc = mod_word _;
    regs = block_base_small w s is;
    flags = is.flags;
    mem = store_all_small e s c (block_start w s) (listed w) s.mem is.mem;
  };
  unloaded = tt;
}

-- a list with register 15 is not empty
some_listed : (w r n : ℕ) → has_bit 15 w ≡ true → r ≤ 15 → 15 < r + n → 1 ≤ length (listed_from w r n)
some_listed w r zero h p q = absurd (omega arith)
some_listed w r (suc n) h p q = by_bit (has_bit r w) refl (λ ne. some_listed w (r + 1) n h (omega (arith, ne)) (omega arith))
  where
    not_15 : has_bit r w ≡ false → r ≡ 15 → ⊥
    not_15 t same = let u = subst (λ (z : ℕ). has_bit z w ≡ false) same t in cc

    by_bit : (b : Bool) → has_bit r w ≡ b → ((r ≡ 15 → ⊥) → 1 ≤ length (listed_from w (r + 1) n)) →
        1 ≤ length (if b then r ∷ listed_from w (r + 1) n else listed_from w (r + 1) n)
    by_bit true t rest = omega arith
    by_bit false t rest = rest (not_15 t)

block_loaded_over : (pc : Bool) (e : Endian) (w : ℕ) (s : State) (m : Memory) → pc ≡ has_bit 15 w →
    ((i : ℕ) → i < 4 * length (listed w) → s.mem (add 32 (block_start w s) i) ≡ m (add 32 (block_start w s) i)) →
    SameButMemory s m [] (block_loaded pc e w s) (block_loaded pc e w (with_memory s m))
block_loaded_over true e w s m p h =
    let some = some_listed w 0 16 (sym p) (omega arith) (omega arith) in (
      refl,
      load_at e s.mem m (block_start w s) (4 * length (listed w) - 4) (4 * length (listed w)) (omega arith) h,
      load_all_same e s.mem m (block_start w s) (listed w) (block_base w s) (block_start_small w s) h,
      refl,
      λ a lt o. kept_same a s.mem m o,
    )
block_loaded_over false e w s m p h = (
  refl,
  refl,
  load_all_same e s.mem m (block_start w s) (listed w) (block_base w s) (block_start_small w s) h,
  refl,
  λ a lt o. kept_same a s.mem m o,
)

block_over : (load : Bool) (e : Endian) (w : ℕ) (s : State) (m : Memory) (c : ℕ) →
    ((a : ℕ) → Contains (addresses (when_stored (true && load) (block_start w s, 4 * length (listed w)))) a → s.mem a ≡ m a) →
    SameButMemory s m (addresses (when_stored (true && not load) (block_start w s, 4 * length (listed w)))) (block_done load e w s c)
    (block_done load e w (with_memory s m) c)
block_over true e w s m c h =
    block_loaded_over (has_bit 15 w) e w s m refl
    (λ i l. h (add 32 (block_start w s) i) (in_span (4 * length (listed w)) (block_start w s) i (block_start_small w s) l))
block_over false e w s m c h = (
  refl,
  refl,
  refl,
  refl,
  λ a lt o. store_all_same e s m c (block_start w s) (listed w) s.mem m a (block_start_small w s) lt (near a o),
)
  where
    few : 4 * length (listed w) ≤ 2 ^ 32
    few = let l = few_listed w 0 16 in omega arith

    near : (a : ℕ) → (s.mem a ≡ m a) ⊎ Contains (span (block_start w s) (4 * length (listed w))) a →
        (s.mem a ≡ m a) ⊎ (sub 32 a (block_start w s) < 4 * length (listed w))
    near a (inl e) = inl e
    near a (inr inside) = inr (within (4 * length (listed w)) (block_start w s) a (block_start_small w s) few inside)

block_loaded_flags : (pc : Bool) (e : Endian) (w : ℕ) (s : State) → IfGoes (block_loaded pc e w s) (λ how new. new.flags ≡ s.flags)
block_loaded_flags true e w s = refl
block_loaded_flags false e w s = refl

block_flags : (load : Bool) (e : Endian) (w : ℕ) (s : State) (c : ℕ) → IfGoes (block_done load e w s c) (λ how new. new.flags ≡ s.flags)
block_flags true e w s c = block_loaded_flags (has_bit 15 w) e w s
block_flags false e w s c = refl

store_all_agree : (e : Endian) (s : State) (c f v a : ℕ) (rs : List ℕ) (m : Memory) → store_all e s c a rs m ≡ store_all e (with_flag s f v) c a rs m
store_all_agree e s c f v a [] m = refl
store_all_agree e s c f v a (r ∷ rs) m = store_all_agree e s c f v (add 32 a 4) rs (store e 4 m a (stored_reg s c r))

block_loaded_agree : (pc : Bool) (e : Endian) (w : ℕ) (s : State) (f v : ℕ) → OutcomesAgreeBut f (block_loaded pc e w s) (block_loaded pc e w (with_flag s f v))
block_loaded_agree true e w s f v = (refl, agrees _ _ f v refl refl refl refl)
block_loaded_agree false e w s f v = (refl, agrees _ _ f v refl refl refl refl)

block_agree : (load : Bool) (e : Endian) (w : ℕ) (s : State) (c f v : ℕ) →
    OutcomesAgreeBut f (block_done load e w s c) (block_done load e w (with_flag s f v) c)
block_agree true e w s c f v = block_loaded_agree (has_bit 15 w) e w s f v
block_agree false e w s c f v = (refl, agrees _ _ f v refl refl (store_all_agree e s c f v (block_start w s) (listed w) s.mem) refl)

-- only register 15 reads the choice
listed_draws : (e : Endian) (w : ℕ) (s : State) (c d r n a : ℕ) (m : Memory) → has_bit 15 w ≡ false →
    store_all e s c a (listed_from w r n) m ≡ store_all e s d a (listed_from w r n) m
listed_draws e w s c d r zero a m h = refl
listed_draws e w s c d r (suc n) a m h = by_bit (has_bit r w) refl (λ b u. listed_draws e w s c d (r + 1) n b u h)
  where
    not_15 : has_bit r w ≡ true → r ≡ 15 → ⊥
    not_15 t same = let u = subst (λ (z : ℕ). has_bit z w ≡ true) same t in cc

    by_bit : (b : Bool) → has_bit r w ≡ b → ((b : ℕ) (u : Memory) →
        store_all e s c b (listed_from w (r + 1) n) u ≡ store_all e s d b (listed_from w (r + 1) n) u) →
        store_all e s c a (if b then r ∷ listed_from w (r + 1) n else listed_from w (r + 1) n) m
        ≡ store_all e s d a (if b then r ∷ listed_from w (r + 1) n else listed_from w (r + 1) n) m
    by_bit true t rest =
        ap (λ z. store_all e s c (add 32 a 4) (listed_from w (r + 1) n) (store e 4 m a z)) (stored_reg_same s c d r (ne_eqb r 15 (not_15 t)))
        ∙ rest (add 32 a 4) (store e 4 m a (stored_reg s d r))
    by_bit false t rest = rest a m

block_draws : (load : Bool) (e : Endian) (w : ℕ) (s : State) (c d : ℕ) → (not load && has_bit 15 w) ≡ false → block_done load e w s c ≡ block_done load e w s d
block_draws true e w s c d h = refl
block_draws false e w s c d h =
    ap (λ (z : Memory). on s (record s { regs = block_base w s; mem = z })) (listed_draws e w s c d 0 16 (block_start w s) s.mem h)

pub block_lawful : (e : Endian) (w : ℕ) → IsLawful (block e w)
block_lawful e w =
    let n = length (listed w) in
    conditional w (block_done (is_load w) e w) (λ b s. when_stored (b && not (is_load w)) (block_start w s, 4 * length (listed w)))
    (λ b s. when_stored (b && is_load w) (block_start w s, 4 * length (listed w)))
    (may_write_pc w (is_load w && has_bit 15 w)) (λ at. None)
    (record { row = 4096 + 512 * n; loads = if is_load w then 4 * n else 0; stores = if is_load w then 0 else 4 * n }) none none none (not (is_load w) &&
    has_bit 15 w) false
    (let few = few_listed w 0 16 in access_priced (is_load w) (4096 + 512 * n) (4 * n) (4 * n) (omega arith) (omega arith) (omega arith) (omega arith))
    (λ b s. few_where (b && is_load w) (is_load w) (block_start w s, 4 * length (listed w)) (4 * length (listed w)) (last_test b (is_load w)) (omega arith))
    (λ b s is. begins_where _ _ (block_start_small w s)) (λ l at. cc)
    (fine_done w (block_done (is_load w) e w) (λ b s. when_stored (b && not (is_load w)) (block_start w s, 4 * length (listed w)))
    (λ b s. when_stored (b && is_load w) (block_start w s, 4 * length (listed w)))
    (may_write_pc w (is_load w && has_bit 15 w)) none (not (is_load w) && has_bit 15 w)
    (λ s c is. block_fine (is_load w) e w s c is) (skips_pc w (is_load w && has_bit 15 w)) (λ at h. refl) (λ s c. block_flags (is_load w) e w s c)
    (λ s c f v h. block_agree (is_load w) e w s c f v) (λ h s c d. block_draws (is_load w) e w s c d h) (λ b s f v h. refl)
    (λ s. refl) (λ b s m. (refl, refl)) (λ s m c is h. block_over (is_load w) e w s m c h))
