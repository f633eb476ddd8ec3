-- Each form of row of RV32IM is lawful.
use Rattle.std.proofs.Common.{◌≡◌, ◌≢◌, ℕ, zero, suc, ◌+◌, ◌*◌, ◌/◌, ◌%◌, ◌^◌, ◌<◌, ◌≤◌, refl, sym, ap, subst, ◌∙◌, true, false, Bool, arith, Option, Some, None, List, [], ◌∷◌}
use Rattle.std.specs.Prelude.{◌==◌, if◌then◌else◌, nat_lt, Contains}
use Rattle.std.proofs.lemmas.Bool.Decides.{nat_tests}
use Rattle.std.proofs.lemmas.Bool.{ne_eqb, eqb-true}
use Rattle.machine_spec.proofs.WordBounds.{load_below, stored_below}
use Rattle.machine_spec.proofs.LoadedBytes.{load_same, kept_same, store_same}
use Rattle.word_spec.specs.Words.{add, sub}
use Rattle.word_spec.specs.Memory.{Little, Memory, load, store, span}
use Rattle.word_spec.specs.State.{State, IsState, put}
use Rattle.machine_spec.specs.Machine.{On, Row, Cost, Exception, addresses, byte_count, even}
use Rattle.machine_spec.specs.Rv.{Fields, sets, auipc, reg, put_reg, branches, branch_by, loads, stores, jal, jalr, links, direct_by, indirect_by, fence, raises, plain_cost}
use Rattle.machine_spec.specs.MachineLaws.{IsLawful, IsPriced, IsWay, IsSuccessor, ComesNext, IfGoes, IfRaises, with_flag, AgreeBut, OutcomesAgreeBut, with_memory, SameButMemory, BeginsInMemory}

-- ranges
one_small : (b : Bool) (v w : ℕ) → v < 2 ^ 32 → w < 2 ^ 32 → (if b then v else w) < 2 ^ 32
one_small true v w p q = p
one_small false v w p q = q

put_small : (f : ℕ → ℕ) (at v : ℕ) → ((r : ℕ) → f r < 2 ^ 32) → v < 2 ^ 32 → (r : ℕ) → put_reg f at v r < 2 ^ 32
put_small f zero v small p r = small r
put_small f (suc at) v small p r = one_small (r == suc at) v (f r) p (small r)

mod_small : (a : ℕ) → a % 2 ^ 32 < 2 ^ 32
mod_small a = omega arith

even_small : (a : ℕ) → even (a % 2 ^ 32) < 2 ^ 32
even_small a = omega arith

pub reg_small : (s : State) (r : ℕ) → IsState s → reg s r < 2 ^ 32
reg_small s zero is = omega arith
reg_small s (suc r) is = is.regs (suc r)

-- a flag changes no register and no other flag
pub reg_flag : (s : State) (r f v : ℕ) → reg s r ≡ reg (with_flag s f v) r
reg_flag s zero f v = refl
reg_flag s (suc r) f v = refl

other_flag : (g : ℕ → ℕ) (f v k : ℕ) → (k ≡ f → ⊥) → g k ≡ put g f v k
other_flag g f v k other = rw (ne_eqb k f other) refl

agrees : (s t : State) (f v : ℕ) → s.pc ≡ t.pc → s.regs ≡ t.regs → s.mem ≡ t.mem → t.flags ≡ put s.flags f v → AgreeBut f s t
agrees s t f v p r m e = record { pc = p; regs = r; mem = m; flags = λ k other. other_flag s.flags f v k other ∙ ap (λ (g : ℕ → ℕ). g k) (sym e) }

-- another memory changes no register
pub reg_same : (s : State) (m : Memory) (r : ℕ) → reg s r ≡ reg (with_memory s m) r
reg_same s m zero = refl
reg_same s m (suc r) = refl

-- a row that sets a register to what no flag changes, and that only the bytes that it loads change
setting_lawful : (f : Fields → State → ℕ) (x : Fields) (loaded : State → Option (ℕ × ℕ)) (cost : Cost) → IsPriced cost →
    ((s : State) → IsState s → f x s < 2 ^ 32) → ((s : State) (g v : ℕ) → f x s ≡ f x (with_flag s g v)) →
    ((s : State) → byte_count (loaded s) ≤ cost.loads) → ((s : State) → IsState s → BeginsInMemory (loaded s)) →
    ((s : State) (m : Memory) → loaded s ≡ loaded (with_memory s m)) →
    ((s : State) (m : Memory) → ((a : ℕ) → Contains (addresses (loaded s)) a → s.mem a ≡ m a) → f x s ≡ f x (with_memory s m)) →
    IsLawful (record (sets f x) { cost = cost; loaded = loaded })
setting_lawful f x loaded cost priced small same few begins steady by_loads = record {
  stored = λ s c is a lt out. refl;
  raised = λ s c is. tt;
  successors = λ s c is. refl;
  next = λ s c is e. refl;
  one_way = λ at e. refl;
  states = λ s c is. record {
    pc = mod_small (s.pc + 4);
    regs = put_small s.regs x.rd (f x s) is.regs (small s is);
    flags = is.flags;
    mem = is.mem;
  };
  unassigned = λ s c g lt no_use. refl;
  unread = λ s c g v lt no_use. (refl, agrees _ _ g v refl (ap (λ z. put_reg s.regs x.rd z) (same s g v)) refl refl);
  sure = λ s c g v lt no_use surely. cc;
  sure_flags = λ g surely. cc;
  draws = λ none s c d. refl;
  plain = λ f lt assigned s. cc;
  stored_unread = λ s f v lt no_use. refl;
  priced = priced;
  loads = λ s m c is other h. (
    steady s m,
    refl,
    (refl, refl, ap (λ z. put_reg s.regs x.rd z) (by_loads s m h), refl, λ a lt e. kept_same a s.mem m e),
  );
  unloaded = λ s c is. tt;
  few_loads = few;
  loads_at = begins;
  calls = λ l at. cc;
}

-- one that loads nothing
pub sets_lawful : (f : Fields → State → ℕ) (x : Fields) → ((s : State) → IsState s → f x s < 2 ^ 32) →
    ((s : State) (g v : ℕ) → f x s ≡ f x (with_flag s g v)) → ((s : State) (m : Memory) → f x s ≡ f x (with_memory s m)) → IsLawful (sets f x)
sets_lawful f x small same steady =
    setting_lawful f x (λ s. None) plain_cost (record { least = omega arith; most = omega arith; loads = omega arith; stores = omega arith }) small same
    (λ s. omega arith) (λ s is. tt) (λ s m. refl) (λ s m h. steady s m)

-- the laws ask of the price only that it is within its bounds and pays for the loads, and do not speak of pairs
pub with_price : (row : Row) (cost : Cost) → IsPriced cost → ((s : State) → byte_count (row.loaded s) ≤ cost.loads) → IsLawful row →
    IsLawful (record row { cost = cost })
with_price row cost within few h = record {
  stored = h.stored;
  raised = h.raised;
  successors = h.successors;
  next = h.next;
  one_way = h.one_way;
  states = h.states;
  unassigned = h.unassigned;
  unread = h.unread;
  sure = h.sure;
  sure_flags = h.sure_flags;
  draws = h.draws;
  plain = h.plain;
  stored_unread = h.stored_unread;
  priced = within;
  loads = h.loads;
  unloaded = h.unloaded;
  few_loads = few;
  loads_at = h.loads_at;
  calls = h.calls;
}

pub auipc_lawful : (x : Fields) → IsLawful (auipc x)
auipc_lawful x =
    let h = sets_lawful (λ y s. add 32 s.pc y.imm) x (λ s is. mod_small _) (λ s g v. refl) (λ s m. refl) in
    record {
      stored = h.stored;
      raised = h.raised;
      successors = h.successors;
      next = h.next;
      one_way = h.one_way;
      states = h.states;
      unassigned = h.unassigned;
      unread = h.unread;
      sure = h.sure;
      sure_flags = h.sure_flags;
      draws = h.draws;
      plain = h.plain;
      stored_unread = h.stored_unread;
      priced = h.priced;
      loads = h.loads;
      unloaded = h.unloaded;
      few_loads = h.few_loads;
      loads_at = h.loads_at;
      calls = h.calls;
    }

-- a jump does not go on to the next address
direct_jumps : (call : Bool) → direct_by call ≡ On → ⊥
direct_jumps true e = cc
direct_jumps false e = cc

indirect_jumps : (call : Bool) → indirect_by call ≡ On → ⊥
indirect_jumps true e = cc
indirect_jumps false e = cc

-- a branch goes to its target or to the next address
branch_goes : (b : Bool) (s : State) (imm : ℕ) →
    IsSuccessor (record { next = true; direct = Some (add 32 s.pc imm); indirect = false; call = false }) (branch_by b s imm)
branch_goes true s imm = (refl, refl)
branch_goes false s imm = refl

branch_next : (b : Bool) (s : State) (imm : ℕ) → ComesNext 4 s (branch_by b s imm)
branch_next true s imm = λ e. absurd (direct_jumps false e)
branch_next false s imm = λ e. refl

branch_states : (b : Bool) (s : State) (imm : ℕ) → IsState s → IfGoes (branch_by b s imm) (λ how new. IsState new)
branch_states true s imm is = record { pc = mod_small _; regs = is.regs; flags = is.flags; mem = is.mem }
branch_states false s imm is = record { pc = mod_small _; regs = is.regs; flags = is.flags; mem = is.mem }

branch_agrees : (b : Bool) (s : State) (imm f v : ℕ) → OutcomesAgreeBut f (branch_by b s imm) (branch_by b (with_flag s f v) imm)
branch_agrees true s imm f v = (refl, agrees _ _ f v refl refl refl refl)
branch_agrees false s imm f v = (refl, agrees _ _ f v refl refl refl refl)

branch_keeps : (b : Bool) (s : State) (imm : ℕ) (P : State → Type 0) → ((pc : ℕ) → P (record s { pc = pc })) → IfGoes (branch_by b s imm) (λ how new. P new)
branch_keeps true s imm P h = h _
branch_keeps false s imm P h = h _

branch_raises : (b : Bool) (s : State) (imm : ℕ) (P : Type 0) → IfRaises (branch_by b s imm) P
branch_raises true s imm P = tt
branch_raises false s imm P = tt

branch_same : (b : Bool) (s : State) (m : Memory) (imm : ℕ) → SameButMemory s m [] (branch_by b s imm) (branch_by b (with_memory s m) imm)
branch_same true s m imm = (refl, refl, refl, refl, λ a lt e. kept_same a s.mem m e)
branch_same false s m imm = (refl, refl, refl, refl, λ a lt e. kept_same a s.mem m e)

pub branches_lawful : (test : ℕ → ℕ → Bool) (x : Fields) → IsLawful (branches test x)
branches_lawful test x = record {
  stored = λ s c is. branch_keeps _ s x.imm (λ new. (a : ℕ) → a < 2 ^ 32 → (Contains (addresses None) a → ⊥) → new.mem a ≡ s.mem a) (λ pc a lt out. refl);
  raised = λ s c is. branch_raises _ s x.imm _;
  successors = λ s c is. branch_goes _ s x.imm;
  next = λ s c is. branch_next _ s x.imm;
  one_way = λ at e. cc;
  states = λ s c is. branch_states _ s x.imm is;
  unassigned = λ s c g lt no_use. branch_keeps _ s x.imm (λ new. new.flags g ≡ s.flags g) (λ pc. refl);
  unread = λ s c g v lt no_use.
      subst (λ (b : Bool). OutcomesAgreeBut g (branch_by (test (reg s x.rs1) (reg s x.rs2)) s x.imm) (branch_by b (with_flag s g v) x.imm))
      (ap (λ z. test z (reg s x.rs2)) (reg_flag s x.rs1 g v) ∙ ap (λ z. test (reg (with_flag s g v) x.rs1) z) (reg_flag s x.rs2 g v))
      (branch_agrees _ s x.imm g v);
  sure = λ s c g v lt no_use surely. cc;
  sure_flags = λ g surely. cc;
  draws = λ none s c d. refl;
  plain = λ f lt assigned s. cc;
  stored_unread = λ s f v lt no_use. refl;
  priced = record { least = omega arith; most = omega arith; loads = omega arith; stores = omega arith };
  loads = λ s m c is other h. (
    refl,
    refl,
    subst (λ (b : Bool). SameButMemory s m [] (branch_by (test (reg s x.rs1) (reg s x.rs2)) s x.imm) (branch_by b (with_memory s m) x.imm))
        (ap (λ z. test z (reg s x.rs2)) (reg_same s m x.rs1) ∙ ap (λ z. test (reg (with_memory s m) x.rs1) z) (reg_same s m x.rs2))
        (branch_same _ s m x.imm),
  );
  unloaded = λ s c is. branch_raises _ s x.imm _;
  few_loads = λ s. omega arith;
  loads_at = λ s is. tt;
  calls = λ l at. cc;
}

-- a load of n bytes, 1, 2 or 4
pub loads_lawful : (n : ℕ) (extend : ℕ → ℕ) (x : Fields) → n ≤ 4 → ((v : ℕ) → v < 2 ^ (8 * n) → extend v < 2 ^ 32) → IsLawful (loads n extend x)
loads_lawful n extend x few small =
    setting_lawful (λ y s. extend (load Little n s.mem (add 32 (reg s y.rs1) y.imm))) x (λ s. Some (add 32 (reg s x.rs1) x.imm, n))
    (record { row = 1024; loads = n; stores = 0 }) (record { least = omega arith; most = omega arith; loads = omega arith; stores = omega arith })
    (λ s is. small _ (loaded_below n s.mem (add 32 (reg s x.rs1) x.imm) is.mem))
    (λ s g v. ap (λ z. extend (load Little n s.mem (add 32 z x.imm))) (reg_flag s x.rs1 g v))
    (λ s. omega arith) (λ s is. mod_small _) (λ s m. ap (λ z. Some (add 32 z x.imm, n)) (reg_same s m x.rs1))
    (λ s m h. ap extend
    (load_same Little n (add 32 (reg s x.rs1) x.imm) s.mem m (mod_small _) h ∙ ap (λ z. load Little n m (add 32 z x.imm)) (reg_same s m x.rs1)))
  where
    loaded_below : (n : ℕ) (m : ℕ → ℕ) (a : ℕ) → ((i : ℕ) → m i < 256) → load Little n m a < 2 ^ (8 * n)
    loaded_below n m a h =
        let e : 8 * n / 8 ≡ n = omega arith in
        subst (λ (k : ℕ). load Little k m a < 2 ^ (8 * n)) e (load_below Little (8 * n) m a (omega arith) h)

-- what no byte of a store has is kept
contains_next : (a : ℕ) (rest : List ℕ) (x : ℕ) → Contains rest x → Contains (a ∷ rest) x
contains_next a rest x (k, l, e) = (suc k, omega arith, e)

first_or : (n a x : ℕ) (b : Bool) → (x == a) ≡ b → (x ≢ a → Contains (span (add 32 a 1) n) x) → Contains (span a (suc n)) x
first_or n a x true e other = (0, omega arith, sym (eqb-true x a e))
first_or n a x false e other = contains_next a (span (add 32 a 1) n) x (other (grind (arith, nat_tests)))

pub in_span : (n a x : ℕ) → a < 2 ^ 32 → x < 2 ^ 32 → sub 32 x a < n → Contains (span a n) x
in_span zero a x p q l = absurd (omega arith)
in_span (suc n) a x p q l = first_or n a x (x == a) refl (λ ne. in_span n (add 32 a 1) x (omega arith) q (omega arith))

untouched : (n a v x : ℕ) (m : ℕ → ℕ) → a < 2 ^ 32 → x < 2 ^ 32 → (Contains (span a n) x → ⊥) → store Little n m a v x ≡ m x
untouched n a v x m p q out = by_test (nat_lt (sub 32 x a) n) refl
  where
    by_test : (b : Bool) → nat_lt (sub 32 x a) n ≡ b → store Little n m a v x ≡ m x
    by_test true e = absurd (out (in_span n a x p q (grind (arith, nat_tests))))
    by_test false e = rw e refl

pub stores_lawful : (n : ℕ) (x : Fields) → n ≤ 4 → IsLawful (stores n x)
stores_lawful n x few = record {
  stored = λ s c is a lt out. untouched n (add 32 (reg s x.rs1) x.imm) (reg s x.rs2) a s.mem (mod_small _) lt out;
  raised = λ s c is. tt;
  successors = λ s c is. refl;
  next = λ s c is e. refl;
  one_way = λ at e. refl;
  states = λ s c is. record {
    pc = mod_small (s.pc + 4);
    regs = is.regs;
    flags = is.flags;
    mem = λ a. stored_below Little n s.mem (add 32 (reg s x.rs1) x.imm) (reg s x.rs2) a (is.mem a);
  };
  unassigned = λ s c g lt no_use. refl;
  unread = λ s c g v lt no_use. (
    refl,
    agrees _ _ g v refl refl
        (ap (λ z. store Little n s.mem (add 32 z x.imm) (reg s x.rs2)) (reg_flag s x.rs1 g v)
        ∙ ap (λ z. store Little n s.mem (add 32 (reg (with_flag s g v) x.rs1) x.imm) z) (reg_flag s x.rs2 g v)) refl,
  );
  sure = λ s c g v lt no_use surely. cc;
  sure_flags = λ g surely. cc;
  draws = λ none s c d. refl;
  plain = λ f lt assigned s. cc;
  stored_unread = λ s f v lt no_use. ap (λ z. Some (add 32 z x.imm, n)) (reg_flag s x.rs1 f v);
  priced = record { least = omega arith; most = omega arith; loads = omega arith; stores = omega arith };
  loads = λ s m c is other h. (
    refl,
    ap (λ z. Some (add 32 z x.imm, n)) (reg_same s m x.rs1),
    (
      refl,
      refl,
      refl,
      refl,
      λ a lt e. store_same Little n (add 32 (reg s x.rs1) x.imm) (reg s x.rs2) a s.mem m (mod_small _) (omega arith) e
          ∙ ap (λ z. store Little n m (add 32 z x.imm) (reg s x.rs2) a) (reg_same s m x.rs1)
          ∙ ap (λ z. store Little n m (add 32 (reg (with_memory s m) x.rs1) x.imm) z a) (reg_same s m x.rs2),
    ),
  );
  unloaded = λ s c is. tt;
  few_loads = λ s. omega arith;
  loads_at = λ s is. tt;
  calls = λ l at. cc;
}

direct_goes : (call : Bool) (to : ℕ) → IsWay (record { next = false; direct = Some to; indirect = false; call = call }) (direct_by call) to
direct_goes true to = (refl, refl)
direct_goes false to = (refl, refl)

indirect_goes : (call : Bool) (to : ℕ) → IsWay (record { next = false; direct = None; indirect = true; call = call }) (indirect_by call) to
indirect_goes true to = (refl, refl)
indirect_goes false to = (refl, refl)

-- a jump that sets x1 is a call
linking_calls : (rd : ℕ) → (rd == 1) ≡ true → links rd ≡ true
linking_calls rd e = rw e refl

pub jal_lawful : (x : Fields) → IsLawful (jal x)
jal_lawful x = record {
  stored = λ s c is a lt out. refl;
  raised = λ s c is. tt;
  successors = λ s c is. direct_goes (links x.rd) _;
  next = λ s c is e. absurd (direct_jumps (links x.rd) e);
  one_way = λ at e. cc;
  states = λ s c is. record { pc = mod_small _; regs = put_small s.regs x.rd _ is.regs (mod_small _); flags = is.flags; mem = is.mem };
  unassigned = λ s c g lt no_use. refl;
  unread = λ s c g v lt no_use. (refl, agrees _ _ g v refl refl refl refl);
  sure = λ s c g v lt no_use surely. cc;
  sure_flags = λ g surely. cc;
  draws = λ none s c d. refl;
  plain = λ f lt assigned s. cc;
  stored_unread = λ s f v lt no_use. refl;
  priced = record { least = omega arith; most = omega arith; loads = omega arith; stores = omega arith };
  loads = λ s m c is other h. (refl, refl, (refl, refl, refl, refl, λ a lt e. kept_same a s.mem m e));
  unloaded = λ s c is. tt;
  few_loads = λ s. omega arith;
  loads_at = λ s is. tt;
  calls = λ l at. linking_calls x.rd l;
}

pub jalr_lawful : (x : Fields) → IsLawful (jalr x)
jalr_lawful x = record {
  stored = λ s c is a lt out. refl;
  raised = λ s c is. tt;
  successors = λ s c is. indirect_goes (links x.rd) _;
  next = λ s c is e. absurd (indirect_jumps (links x.rd) e);
  one_way = λ at e. refl;
  states = λ s c is. record { pc = even_small _; regs = put_small s.regs x.rd _ is.regs (mod_small _); flags = is.flags; mem = is.mem };
  unassigned = λ s c g lt no_use. refl;
  unread = λ s c g v lt no_use. (refl, agrees _ _ g v (ap (λ z. even (add 32 z x.imm)) (reg_flag s x.rs1 g v)) refl refl refl);
  sure = λ s c g v lt no_use surely. cc;
  sure_flags = λ g surely. cc;
  draws = λ none s c d. refl;
  plain = λ f lt assigned s. cc;
  stored_unread = λ s f v lt no_use. refl;
  priced = record { least = omega arith; most = omega arith; loads = omega arith; stores = omega arith };
  loads = λ s m c is other h. (
    refl,
    refl,
    (refl, ap (λ z. even (add 32 z x.imm)) (reg_same s m x.rs1), refl, refl, λ a lt e. kept_same a s.mem m e),
  );
  unloaded = λ s c is. tt;
  few_loads = λ s. omega arith;
  loads_at = λ s is. tt;
  calls = λ l at. linking_calls x.rd l;
}

pub fence_lawful : (x : Fields) → IsLawful (fence x)
fence_lawful x = record {
  stored = λ s c is a lt out. refl;
  raised = λ s c is. tt;
  successors = λ s c is. refl;
  next = λ s c is e. refl;
  one_way = λ at e. refl;
  states = λ s c is. record { pc = mod_small _; regs = is.regs; flags = is.flags; mem = is.mem };
  unassigned = λ s c g lt no_use. refl;
  unread = λ s c g v lt no_use. (refl, agrees _ _ g v refl refl refl refl);
  sure = λ s c g v lt no_use surely. cc;
  sure_flags = λ g surely. cc;
  draws = λ none s c d. refl;
  plain = λ f lt assigned s. cc;
  stored_unread = λ s f v lt no_use. refl;
  priced = record { least = omega arith; most = omega arith; loads = omega arith; stores = omega arith };
  loads = λ s m c is other h. (refl, refl, (refl, refl, refl, refl, λ a lt e. kept_same a s.mem m e));
  unloaded = λ s c is. tt;
  few_loads = λ s. omega arith;
  loads_at = λ s is. tt;
  calls = λ l at. cc;
}

pub raises_lawful : (e : Exception) (x : Fields) → IsLawful (raises e x)
raises_lawful e x = record {
  stored = λ s c is. tt;
  raised = λ s c is. refl;
  successors = λ s c is. tt;
  next = λ s c is. tt;
  one_way = λ at z. refl;
  states = λ s c is. tt;
  unassigned = λ s c g lt no_use. tt;
  unread = λ s c g v lt no_use. refl;
  sure = λ s c g v lt no_use surely. cc;
  sure_flags = λ g surely. cc;
  draws = λ none s c d. refl;
  plain = λ f lt assigned s. cc;
  stored_unread = λ s f v lt no_use. refl;
  priced = record { least = omega arith; most = omega arith; loads = omega arith; stores = omega arith };
  loads = λ s m c is other h. (refl, refl, refl);
  unloaded = λ s c is. refl;
  few_loads = λ s. omega arith;
  loads_at = λ s is. tt;
  calls = λ l at. cc;
}
