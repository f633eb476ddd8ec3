-- A lawful row with 2 bytes in place of 4 is lawful.
use Rattle.std.proofs.Common.{◌≡◌, ℕ, ◌+◌, ◌%◌, ◌^◌, ◌<◌, refl, ap, true, false, Bool, arith, None, List}
use Rattle.std.specs.Prelude.{◌==◌, if◌then◌else◌}
use Rattle.word_spec.specs.Words.{add}
use Rattle.word_spec.specs.Memory.{Memory}
use Rattle.word_spec.specs.State.{State, IsState, put}
use Rattle.machine_spec.specs.Machine.{How, On, Direct, DirectCall, Indirect, IndirectCall, Outcome, Goes, Raises, Row, Successors, addresses}
use Rattle.machine_spec.specs.Rv.{with_reg}
use Rattle.machine_spec.specs.MachineLaws.{IsLawful, IsSuccessor, ComesNext, IfGoes, IfRaises, KeepsOthers, LeavesState, with_flag, AgreeBut, OutcomesAgreeBut, HaveSameFlag, with_memory, SameButMemory, LinksIn, IsCall}
use Rattle.machine_spec.specs.RvShort.{shortened, short_row}

one_small : (b : Bool) (v w : ℕ) → v < 2 ^ 32 → w < 2 ^ 32 → (if b then v else w) < 2 ^ 32
one_small true v w p q = p
one_small false v w p q = q

mod_small : (a : ℕ) → a % 2 ^ 32 < 2 ^ 32
mod_small a = omega arith

-- the link register takes an address
linked : (s : State) (a : ℕ) → IsState s → a < 2 ^ 32 → IsState (with_reg s 1 a)
linked s a is small = record { pc = is.pc; regs = λ r. one_small (r == 1) a (s.regs r) small (is.regs r); flags = is.flags; mem = is.mem }

keeps : (places : List ℕ) (s : State) (o : Outcome) → KeepsOthers places s o → KeepsOthers places s (shortened s o)
keeps places s (Goes On new) h = h
keeps places s (Goes Direct new) h = h
keeps places s (Goes DirectCall new) h = h
keeps places s (Goes Indirect new) h = h
keeps places s (Goes IndirectCall new) h = h
keeps places s (Raises e) h = h

raises : (s : State) (o : Outcome) (T : Type 0) → IfRaises o T → IfRaises (shortened s o) T
raises s (Goes On new) T h = tt
raises s (Goes Direct new) T h = tt
raises s (Goes DirectCall new) T h = tt
raises s (Goes Indirect new) T h = tt
raises s (Goes IndirectCall new) T h = tt
raises s (Raises e) T h = h

leads : (x : Successors) (s : State) (o : Outcome) → IsSuccessor x o → IsSuccessor x (shortened s o)
leads x s (Goes On new) h = h
leads x s (Goes Direct new) h = h
leads x s (Goes DirectCall new) h = h
leads x s (Goes Indirect new) h = h
leads x s (Goes IndirectCall new) h = h
leads x s (Raises e) h = h

comes : (s : State) (o : Outcome) → ComesNext 2 s (shortened s o)
comes s (Goes On new) = λ e. refl
comes s (Goes Direct new) = λ e. cc
comes s (Goes DirectCall new) = λ e. cc
comes s (Goes Indirect new) = λ e. cc
comes s (Goes IndirectCall new) = λ e. cc
comes s (Raises e) = tt

leaves : (s : State) (o : Outcome) → LeavesState o → LeavesState (shortened s o)
leaves s (Goes On new) h = record { pc = mod_small (s.pc + 2); regs = h.regs; flags = h.flags; mem = h.mem }
leaves s (Goes Direct new) h = h
leaves s (Goes DirectCall new) h = linked new (add 32 s.pc 2) h (mod_small (s.pc + 2))
leaves s (Goes Indirect new) h = h
leaves s (Goes IndirectCall new) h = linked new (add 32 s.pc 2) h (mod_small (s.pc + 2))
leaves s (Raises e) h = h

flag_kept : (f : ℕ) (s : State) (o : Outcome) → IfGoes o (λ how new. new.flags f ≡ s.flags f) → IfGoes (shortened s o) (λ how new. new.flags f ≡ s.flags f)
flag_kept f s (Goes On new) h = h
flag_kept f s (Goes Direct new) h = h
flag_kept f s (Goes DirectCall new) h = h
flag_kept f s (Goes Indirect new) h = h
flag_kept f s (Goes IndirectCall new) h = h
flag_kept f s (Raises e) h = h

on_agree : (f a : ℕ) (s t : State) → AgreeBut f s t → AgreeBut f (record s { pc = a }) (record t { pc = a })
on_agree f a s t h = record { pc = refl; regs = h.regs; flags = h.flags; mem = h.mem }

link_agree : (f a : ℕ) (s t : State) → AgreeBut f s t → AgreeBut f (with_reg s 1 a) (with_reg t 1 a)
link_agree f a s t h = record { pc = h.pc; regs = ap (λ (g : ℕ → ℕ). put g 1 a) h.regs; flags = h.flags; mem = h.mem }

agree : (f v : ℕ) (s : State) (o p : Outcome) → OutcomesAgreeBut f o p → OutcomesAgreeBut f (shortened s o) (shortened (with_flag s f v) p)
agree f v s (Goes On new) (Goes On other) h = (refl, on_agree f (add 32 s.pc 2) new other h.1)
agree f v s (Goes Direct new) (Goes Direct other) h = h
agree f v s (Goes DirectCall new) (Goes DirectCall other) h = (refl, link_agree f (add 32 s.pc 2) new other h.1)
agree f v s (Goes Indirect new) (Goes Indirect other) h = h
agree f v s (Goes IndirectCall new) (Goes IndirectCall other) h = (refl, link_agree f (add 32 s.pc 2) new other h.1)
agree f v s (Goes how new) (Goes other t) h = let d = h.0 in cc
agree f v s (Raises d) (Raises e) h = h
agree f v s (Goes how new) (Raises e) h = absurd h
agree f v s (Raises e) (Goes how new) h = absurd h

same_flag : (f v : ℕ) (s : State) (o p : Outcome) → HaveSameFlag f o p → HaveSameFlag f (shortened s o) (shortened (with_flag s f v) p)
same_flag f v s (Goes On new) (Goes On other) h = h
same_flag f v s (Goes how new) (Goes other t) h = kept how other h where
  kept : (how other : How) → new.flags f ≡ t.flags f → HaveSameFlag f (shortened s (Goes how new)) (shortened (with_flag s f v) (Goes other t))
  kept On On k = k
  kept On Direct k = k
  kept On DirectCall k = k
  kept On Indirect k = k
  kept On IndirectCall k = k
  kept Direct On k = k
  kept Direct Direct k = k
  kept Direct DirectCall k = k
  kept Direct Indirect k = k
  kept Direct IndirectCall k = k
  kept DirectCall On k = k
  kept DirectCall Direct k = k
  kept DirectCall DirectCall k = k
  kept DirectCall Indirect k = k
  kept DirectCall IndirectCall k = k
  kept Indirect On k = k
  kept Indirect Direct k = k
  kept Indirect DirectCall k = k
  kept Indirect Indirect k = k
  kept Indirect IndirectCall k = k
  kept IndirectCall On k = k
  kept IndirectCall Direct k = k
  kept IndirectCall DirectCall k = k
  kept IndirectCall Indirect k = k
  kept IndirectCall IndirectCall k = k
same_flag f v s (Raises d) other h = raised other where
  raised : (o : Outcome) → HaveSameFlag f (Raises d) (shortened (with_flag s f v) o)
  raised o = tt
same_flag f v s (Goes how new) (Raises e) h = kept how where
  kept : (how : How) → HaveSameFlag f (shortened s (Goes how new)) (Raises e)
  kept On = tt
  kept Direct = tt
  kept DirectCall = tt
  kept Indirect = tt
  kept IndirectCall = tt

over : (m : Memory) (places : List ℕ) (s : State) (o p : Outcome) → SameButMemory s m places o p →
    SameButMemory s m places (shortened s o) (shortened (with_memory s m) p)
over m places s (Goes On new) (Goes On other) h = (refl, refl, h.2, h.3, h.4)
over m places s (Goes Direct new) (Goes Direct other) h = h
over m places s (Goes DirectCall new) (Goes DirectCall other) h = (refl, h.1, ap (λ (g : ℕ → ℕ). put g 1 (add 32 s.pc 2)) h.2, h.3, h.4)
over m places s (Goes Indirect new) (Goes Indirect other) h = h
over m places s (Goes IndirectCall new) (Goes IndirectCall other) h = (refl, h.1, ap (λ (g : ℕ → ℕ). put g 1 (add 32 s.pc 2)) h.2, h.3, h.4)
over m places s (Goes how new) (Goes other t) h = let d = h.0 in cc
over m places s (Raises d) (Raises e) h = h
over m places s (Goes how new) (Raises e) h = absurd h
over m places s (Raises e) (Goes how new) h = absurd h

pub short_is_lawful : (row : Row) → IsLawful row → IsLawful (short_row row)
short_is_lawful row law = record {
  stored = λ s c is. keeps (addresses (row.stored s)) s (row.effect s c) (law.stored s c is);
  raised = λ s c is. raises s (row.effect s c) (row.stored s ≡ None) (law.raised s c is);
  successors = λ s c is. leads (row.successors s.pc) s (row.effect s c) (law.successors s c is);
  next = λ s c is. comes s (row.effect s c);
  one_way = law.one_way;
  states = λ s c is. leaves s (row.effect s c) (law.states s c is);
  unassigned = λ s c f lt no. flag_kept f s (row.effect s c) (law.unassigned s c f lt no);
  unread = λ s c f v lt no. agree f v s (row.effect s c) (row.effect (with_flag s f v) c) (law.unread s c f v lt no);
  sure = λ s c f v lt no yes. same_flag f v s (row.effect s c) (row.effect (with_flag s f v) c) (law.sure s c f v lt no yes);
  sure_flags = law.sure_flags;
  draws = λ no s c d. ap (shortened s) (law.draws no s c d);
  plain = law.plain;
  stored_unread = law.stored_unread;
  priced = law.priced;
  loads = λ s m c is other same.
      let h = law.loads s m c is other same in
      (h.0, h.1, over m (addresses (row.stored s)) s (row.effect s c) (row.effect (with_memory s m) c) h.2);
  unloaded = λ s c is. raises s (row.effect s c) (row.loaded s ≡ None) (law.unloaded s c is);
  few_loads = law.few_loads;
  loads_at = law.loads_at;
  calls = law.calls;
}

-- a call leaves the address after the 2 bytes in x1
links : (s : State) (o : Outcome) → IfGoes (shortened s o) (λ how new. IsCall how → new.regs 1 ≡ add 32 s.pc 2)
links s (Goes On new) = λ call. absurd call
links s (Goes Direct new) = λ call. absurd call
links s (Goes DirectCall new) = λ call. refl
links s (Goes Indirect new) = λ call. absurd call
links s (Goes IndirectCall new) = λ call. refl
links s (Raises e) = tt

pub short_links : (row : Row) → LinksIn 1 (short_row row)
short_links row s c is = links s (row.effect s c)

-- what does not call, does not call with 2 bytes
pub short_calls : (s : State) (o : Outcome) (claim : State → Type 0) → IfGoes o (λ how new. IsCall how → ⊥) →
    IfGoes (shortened s o) (λ how new. IsCall how → claim new)
short_calls s (Goes On new) claim h = λ call. absurd call
short_calls s (Goes Direct new) claim h = λ call. absurd call
short_calls s (Goes DirectCall new) claim h = λ call. absurd (h call)
short_calls s (Goes Indirect new) claim h = λ call. absurd call
short_calls s (Goes IndirectCall new) claim h = λ call. absurd (h call)
short_calls s (Raises e) claim h = tt
