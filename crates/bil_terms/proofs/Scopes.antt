-- What terms of variables say stays as nodes are added.
use Rattle.std.proofs.Common.{◌≡◌, ℕ, zero, suc, ◌+◌, ◌-◌, ◌<◌, ◌≤◌, Bool, true, false, List, [], ◌∷◌, length, get_or, refl, sym, ap, ◌∙◌, subst, arith, ◌++◌, inl, inr}
use Rattle.std.specs.Prelude.{◌||◌, nat_eq, slice_index, Contains}
use Rattle.std.specs.List.{list_any}
use Rattle.std.proofs.lemmas.Bool.{eqb-true, false≢true}
use Rattle.std.proofs.lemmas.Bool.Decides.{nat_tests}
use Rattle.std.proofs.lemmas.List.{get_or-map}
use Rattle.std.proofs.lemmas.List.Elements.{Contains-append_cases}
use Rattle.word_spec.specs.RowFiles.{from_to}
use Rattle.machine_spec.specs.Bil.{Bank, BilVariable, Register, Flag, Local}
use Rattle.machine_spec.specs.BilCounts.{is_local}
use Rattle.machine_spec.specs.BilMeaning.{Value, Word, Stuck, Env, put_local}
use Rattle.term_spec.specs.Terms.{TermReading, TermNode, TermValue, HasWidth, IsWidth, term_word}
use Rattle.walk_spec.specs.Unrolled.{Carried}
use Rattle.walk_spec.specs.Unrolling.{is_variable_of}
use Rattle.term_spec.specs.Passive.{AreNames, Denotes}
use Rattle.term_dag.specs.Made.{Grew}
use Rattle.term_dag.specs.declared.nodes.Term.{Term}
use Rattle.term_dag.proofs.Growth.{grew_width}
use Rattle.term_names.specs.Views.{form_of, names_of}
use Rattle.term_names.specs.declared.names.Names.{Names}
use Rattle.term_names.proofs.Stated.{count_of, number_at}
use Rattle.bil_terms.specs.declared.variables.LocalTerm.{LocalTerm}
use Rattle.bil_terms.specs.Naming.{known, known_after, values_after, AreLocals, IsScope, Holds, IsVariableTerm, IsLocalTerm}
use Rattle.bil_terms.proofs.Locals.{values_push}

known_register : (k : BilVariable → Bool) (ls : List LocalTerm) (b : Bank) (r : ℕ) → known_after k ls (Register b r) ≡ k (Register b r)
known_register k [] b r = refl
known_register k (l ∷ ls) b r = known_register (λ y. is_local l.number l.width y || k y) ls b r

known_flag : (k : BilVariable → Bool) (ls : List LocalTerm) (f : ℕ) → known_after k ls (Flag f) ≡ k (Flag f)
known_flag k [] f = refl
known_flag k (l ∷ ls) f = known_flag (λ y. is_local l.number l.width y || k y) ls f

range_step : (r n count : ℕ) (t : Bool) → ((n + 1 ≤ r) × (r < n + 1 + count) → (n ≤ r) × (r < n + suc count)) →
    (list_any (nat_eq r) (from_to (n + 1) count) ≡ true → (n + 1 ≤ r) × (r < n + 1 + count)) → nat_eq r n ≡ t →
    (t || list_any (nat_eq r) (from_to (n + 1) count)) ≡ true →
    (n ≤ r) × (r < n + suc count)
range_step r n count true up rest e h = (let z : r ≡ n = eqb-true r n e in (omega arith, omega arith))
range_step r n count false up rest e h = up (rest h)

among_range : (r n count : ℕ) → list_any (nat_eq r) (from_to n count) ≡ true → (n ≤ r) × (r < n + count)
among_range r n zero h = absurd (false≢true h)
among_range r n (suc count) h = range_step r n count (nat_eq r n) (λ p. (omega (arith, p.0), omega (arith, p.1))) (among_range r (n + 1) count) refl h

-- a known register is one of those that have terms
pub register_within : (n : Names) (ls : List LocalTerm) (b : Bank) (r : ℕ) → known n ls (Register b r) ≡ true → (n.first ≤ r) ×
    (r < n.first + length n.registers.items)
register_within n ls b r h = among_range r n.first (length n.registers.items) (sym (known_register (is_variable_of (form_of n)) ls b r) ∙ h)

-- and a known flag
pub flag_within : (n : Names) (ls : List LocalTerm) (f : ℕ) → known n ls (Flag f) ≡ true → f < length n.flags.items
flag_within n ls f h = (let e = sym (known_flag (is_variable_of (form_of n)) ls f) ∙ h in grind (arith, nat_tests))

pub register_term : (nodes : List TermNode) (n : Names) (ls : List LocalTerm) (live : ℕ) (b : Bank) (r : ℕ) (t : Term) → IsScope nodes n ls live →
    known n ls (Register b r) ≡ true →
    t ≡ get_or n.registers.items (r - n.first) t → IsVariableTerm nodes n ls (Register b r) t.0
register_term nodes n ls live b r t s h e =
    let w = register_within n ls b r h in
    let i = r - n.first in
    let l : i < length n.registers.items = omega (arith, w.0, w.1) in
    let c = count_of n.first (length n.registers.items) in
    let place = get_or-map (λ (t : Term). t.0) n.registers.items i t 0 l ∙ ap (λ (t : Term). t.0) (sym e) in
    let number : slice_index (from_to n.first (length n.registers.items)) i
    ≡ r = number_at n.first (length n.registers.items) i l ∙ omega (arith, w.0) in record {
      wide = (omega arith, omega arith);
      at = subst (HasWidth nodes 32) place (s.names.words i (omega arith));
      value = λ x v d. ap (Word 32) (sym (ap (term_word x nodes) (sym place) ∙ d.names.registers i (omega arith) ∙ ap v.regs number));
    }

pub flag_term : (nodes : List TermNode) (n : Names) (ls : List LocalTerm) (live : ℕ) (f : ℕ) (t : Term) → IsScope nodes n ls live → known n ls (Flag f) ≡ true →
    t ≡ get_or n.flags.items f t → IsVariableTerm nodes n ls (Flag f) t.0
flag_term nodes n ls live f t s h e =
    let l = flag_within n ls f h in
    let place = get_or-map (λ (t : Term). t.0) n.flags.items f t 0 l ∙ ap (λ (t : Term). t.0) (sym e) in record {
      wide = (omega arith, omega arith);
      at = subst (HasWidth nodes 1) place (s.names.bits f l);
      value = λ x v d. ap (Word 1) (sym (ap (term_word x nodes) (sym place) ∙ d.names.flags f l));
    }

pub local_variable : (nodes : List TermNode) (n : Names) (ls : List LocalTerm) (y w t : ℕ) → IsLocalTerm nodes ls y w t →
    IsVariableTerm nodes n ls (Local y w) t
local_variable nodes n ls y w t h = record {
  wide = h.wide;
  at = h.at;
  value = λ x v d. ap (λ (f : ℕ → ℕ → Value). f y w) d.locals ∙ h.value x;
}

pub contains_head : {X : Type 0} → (x : X) (xs : List X) → Contains (x ∷ xs) x
contains_head x xs = (0, omega arith, refl)

pub contains_tail : {X : Type 0} → (z x : X) (xs : List X) → Contains xs z → Contains (x ∷ xs) z
contains_tail z x xs (k, h, e) = (suc k, omega arith, e)

pub contains_none : {X : Type 0} → (z : X) → Contains [] z → ⊥
contains_none z c = absurd (omega (arith, c.1))

pub contains_one : {X : Type 0} → (x z : X) → Contains (x ∷ []) z → x ≡ z
contains_one x z (zero, h, e) = e
contains_one x z (suc k, h, e) = absurd (omega arith)

-- a word keeps its value
pub word_kept : (old new : List TermNode) (g l s j n t : ℕ) (x : TermReading) → Grew old new g l s j n → t < length old → term_word x new t ≡ term_word x old t
word_kept old new g l s j n t x p h = ap (λ (z : TermValue). z.word) (p.keeps x t h)

values_kept : (old new : List TermNode) (g l s j n : ℕ) (x : TermReading) (f : ℕ → ℕ → Value) (ls : List LocalTerm) → Grew old new g l s j n →
    AreLocals old ls →
    values_after new x f ls ≡ values_after old x f ls
values_kept old new g l s j n x f [] p h = refl
values_kept old new g l s j n x f (k ∷ ls) p h =
    ap (λ (z : ℕ). values_after new x (put_local k.number k.width z f) ls) (word_kept old new g l s j n k.term.0 x p (h k (contains_head k ls)).1.0)
    ∙ values_kept old new g l s j n x (put_local k.number k.width (term_word x old k.term.0) f) ls p (λ m c. h m (contains_tail m k ls c))

pub scope_kept : (old new : List TermNode) (g l s j n : ℕ) (names : Names) (ls : List LocalTerm) (live : ℕ) → Grew old new g l s j n →
    IsScope old names ls live → IsScope new names ls live
scope_kept old new g l s j n names ls live p h = record {
  names = record {
    registers = h.names.registers;
    flags = h.names.flags;
    words = λ i k. grew_width old new g l s j n 32 _ p (h.names.words i k);
    bits = λ f k. grew_width old new g l s j n 1 _ p (h.names.bits f k);
    memory = grew_width old new g l s j n 0 _ p h.names.memory;
  };
  locals = λ m c. ((h.locals m c).0, grew_width old new g l s j n _ _ p (h.locals m c).1);
  live_bit = grew_width old new g l s j n 1 live p h.live_bit;
}

pub denotes_kept : (old new : List TermNode) (g l s j n : ℕ) (names : Names) (x : TermReading) (v : Carried) → Grew old new g l s j n →
    AreNames (form_of names) old (names_of names) →
    Denotes (form_of names) old x (names_of names) v → Denotes (form_of names) new x (names_of names) v
denotes_kept old new g l s j n names x v p h d = record {
  registers = λ i k. word_kept old new g l s j n _ x p (h.words i k).0 ∙ d.registers i k;
  flags = λ f k. word_kept old new g l s j n _ x p (h.bits f k).0 ∙ d.flags f k;
  memory = ap (λ (z : TermValue). z.bytes) (p.keeps x _ h.memory.0) ∙ d.memory;
}

pub holds_kept : (old new : List TermNode) (g l s j n : ℕ) (names : Names) (ls : List LocalTerm) (live : ℕ) (x : TermReading) (v : Env) →
    Grew old new g l s j n →
    IsScope old names ls live → Holds old x names ls v → Holds new x names ls v
holds_kept old new g l s j n names ls live x v p h d = record {
  names = denotes_kept old new g l s j n names x _ p h.names d.names;
  locals = d.locals ∙ sym (values_kept old new g l s j n x (λ y w. Stuck) ls p h.locals);
}

-- and said the same before
pub holds_back : (old new : List TermNode) (g l s j n : ℕ) (names : Names) (ls : List LocalTerm) (live : ℕ) (x : TermReading) (v : Env) →
    Grew old new g l s j n →
    IsScope old names ls live → Holds new x names ls v → Holds old x names ls v
holds_back old new g l s j n names ls live x v p h d = record {
  names = record {
    registers = λ i k. sym (word_kept old new g l s j n _ x p (h.names.words i k).0) ∙ d.names.registers i k;
    flags = λ f k. sym (word_kept old new g l s j n _ x p (h.names.bits f k).0) ∙ d.names.flags f k;
    memory = ap (λ (z : TermValue). z.bytes) (sym (p.keeps x _ h.names.memory.0)) ∙ d.names.memory;
  };
  locals = d.locals ∙ values_kept old new g l s j n x (λ y w. Stuck) ls p h.locals;
}

-- with one local more
pub scope_push : (nodes : List TermNode) (n : Names) (ls : List LocalTerm) (live : ℕ) (l : LocalTerm) → IsScope nodes n ls live → IsWidth l.width →
    HasWidth nodes l.width l.term.0 →
    IsScope nodes n (ls ++ l ∷ []) live
scope_push nodes n ls live l s w h = record {
  names = s.names;
  locals = λ m c. elim (Contains-append_cases ls (l ∷ []) m c) [
    | inl k ↦ s.locals m k
    | inr k ↦ subst (λ (z : LocalTerm). IsWidth z.width × HasWidth nodes z.width z.term.0) (contains_one l m k) (w, h)
  ];
  live_bit = s.live_bit;
}

pub holds_push : (nodes : List TermNode) (x : TermReading) (n : Names) (ls : List LocalTerm) (l : LocalTerm) (v : Env) → Holds nodes x n ls v →
    Holds nodes x n (ls ++ l ∷ []) (record v { locals = put_local l.number l.width (term_word x nodes l.term.0) v.locals })
holds_push nodes x n ls l v h = record {
  names = h.names;
  locals = ap (put_local l.number l.width (term_word x nodes l.term.0)) h.locals ∙ sym (values_push nodes x ls l);
}
