-- The clauses of a circuit.
use Rattle.std.proofs.Common.{◌≡◌, ℕ, zero, suc, ◌+◌, ◌<◌, ◌≤◌, Bool, true, false, ◌&&◌, ◌||◌, List, [], ◌∷◌, length, map, take, get_or, refl, sym, ◌∙◌, ap, arith, length-take}
use Rattle.std.specs.Bool.{beq}
use Rattle.std.proofs.lemmas.Bool.{and_parts, and_from}
use Rattle.std.proofs.lemmas.List.{take_more, take_all}
use Rattle.clause_spec.specs.Clauses.{Clause, Cnf, Satisfies, AreOnVariables, AgreeUpTo, ExtendsOnceWhere, IsOnVariables}
use Rattle.cnf_form.proofs.OnVariables.{on-sound, on-complete}
use Rattle.gates.specs.declared.bit.Bit.{Bit}
use Rattle.gates.specs.declared.gate.Gate.{Gate}
use Rattle.gates.specs.declared.gate.Gate.TheVariants.{And, Xor, Ite, Parity, Majority, Same}
use Rattle.gates.specs.Circuits.{Netlist, next, holds, Holds, InOrder, IsGateBelow, gate_value, bit_value, literal_of, Within}
use Rattle.gates.specs.Defined.{IsDefined}
use Rattle.gates.specs.Pushes.{satisfied, AreOver}
use Rattle.gates.proofs.Netlists.{and_true, holds_push}
use Rattle.gates.proofs.Pushes.{satisfies-from, satisfies-to, bits_over}
use Rattle.gates.proofs.Valuations.{once, extends}

or_false : (b : Bool) → (b || false) ≡ b
or_false true = refl
or_false false = refl

and_assoc : (a b c : Bool) → ((a && b) && c) ≡ (a && (b && c))
and_assoc true b c = refl
and_assoc false b c = refl

-- the variable behind the inputs is true
pub holds_none : (v : ℕ → Bool) (n : ℕ) (t x : Bool) → x ≡ v (suc n) → (t && (x || false)) ≡ (t && holds v (record { inputs = n; gates = [] }))
unfolding holds
holds_none v n t x e = ap (λ b. t && b) (or_false x ∙ (e ∙ sym (and_true (v (suc n)))))

pub holds_more : (v : ℕ → Bool) (n : ℕ) (gs : List Gate) (i : ℕ) (d : Gate) (t x : Bool) → i < length gs → x ≡ v (suc (n + 1 + i)) →
    ((t && holds v (record { inputs = n; gates = take i gs })) && beq x (gate_value v (get_or gs i d))) ≡ (t &&
    holds v (record { inputs = n; gates = take (i + 1) gs }))
holds_more v n gs i d t x h f =
    let e : length (take i gs) ≡ i = grind (arith, length-take i gs) in
    let p = holds_push v n (take i gs) (get_or gs i d) in
    and_assoc t (holds v (record { inputs = n; gates = take i gs })) (beq x (gate_value v (get_or gs i d)))
    ∙ ap (λ b. t && b) (rw (take_more gs i d h, f) (sym (rw e at p)))

pub holds_all : (v : ℕ → Bool) (n : ℕ) (gs hs : List Gate) (i : ℕ) (t b : Bool) → length gs ≤ i → gs ≡ hs →
    ((t && holds v (record { inputs = n; gates = take i gs })) && (b || false)) ≡ ((t && holds v (record { inputs = n; gates = hs })) && b)
holds_all v n gs hs i t b h e = rw (take_all i gs h, e, or_false b) refl

gate_below_more : (n m : ℕ) (g : Gate) → IsGateBelow n g → n ≤ m → IsGateBelow m g
gate_below_more n m (And a b) h e = (omega arith, omega arith)
gate_below_more n m (Xor a b) h e = (omega arith, omega arith)
gate_below_more n m (Ite c a b) h e = (omega arith, omega arith, omega arith)
gate_below_more n m (Parity a b c) h e = (omega arith, omega arith, omega arith)
gate_below_more n m (Majority a b c) h e = (omega arith, omega arith, omega arith)
gate_below_more n m (Same c a b) h e = (omega arith, omega arith, omega arith)

pub gate_at : (n m : ℕ) (gs : List Gate) (i : ℕ) (d : Gate) → InOrder n gs → i < length gs → n + i ≤ m → IsGateBelow m (get_or gs i d)
gate_at n m [] i d o h e = absurd (omega arith)
gate_at n m (g ∷ gs) zero d o h e = gate_below_more n m g o.0 (omega arith)
gate_at n m (g ∷ gs) (suc i) d o h e = gate_at (suc n) m gs i d o.1 (omega arith) (omega arith)

pub ties_over : (n : ℕ) (ties : List Clause) → AreOnVariables n ties → AreOver n ties
ties_over n ties h = record { each = on-complete n ties h }

pub defined : (c : Netlist) (ties : List Clause) (root : Bit) (cnf : Cnf) → InOrder (c.inputs + 1) c.gates → cnf.variables ≡ next c →
    AreOver (next c) cnf.clauses → ((v : ℕ → Bool) → satisfied v cnf.clauses ≡ ((satisfied v ties && holds v c) && bit_value v root)) →
    IsDefined c ties root cnf
defined c ties root cnf o n r s =
    record {
      variables = n;
      over = rw n (on-sound (next c) cnf.clauses r.each);
      only = λ v h.
          let p = and_parts _ _ (sym (s v) ∙ satisfies-to v cnf.clauses h) in
          let q = and_parts _ _ p.0 in
          record { gates = q.1; each = satisfies-from v ties q.0; top = p.1 };
      where_met = λ v h. satisfies-from v cnf.clauses (s v ∙ and_from _ _ (and_from _ _ (satisfies-to v ties h.each) h.gates) h.top);
      once = λ v w a x y. rw n (once c v w o a x y);
      extends = λ a. extends c a o;
    }

-- The clauses extend a valuation of the inputs once, where a fact of the inputs holds which says that the ties and the root are true.
pub extends_once_where : (c : Netlist) (ties : List Clause) (root : Bit) (cnf : Cnf) (Fact : (ℕ → Bool) → Type 0) → IsDefined c ties root cnf →
    ((v w : ℕ → Bool) → AgreeUpTo c.inputs v w → Fact v → Fact w) →
    ((v : ℕ → Bool) → Holds v c → Satisfies v ties → bit_value v root ≡ true → Fact v) →
    ((v : ℕ → Bool) → Holds v c → Fact v → Satisfies v ties × (bit_value v root ≡ true)) →
    ExtendsOnceWhere c.inputs cnf Fact
extends_once_where c ties root cnf Fact d i t f =
    record {
      over = d.over;
      once = λ v w a x y. let p = d.only v x in let q = d.only w y in d.once v w a p.gates q.gates;
      only = λ v x. let p = d.only v x in t v p.gates p.each p.top;
      where_true = λ a x.
          let e = d.extends a in
          let v = e.0 in
          let r = f v e.2 (i a v (λ k l m. sym (e.1 k l m)) x) in
          (v, e.1, d.where_met v (record { gates = e.2; each = r.0; top = r.1 }));
    }

-- the clause of bits of the circuit is over its variables
pub tie_over : (n : ℕ) (bs : List Bit) → Within n bs → IsOnVariables n (map literal_of bs)
tie_over n bs w = on-sound n (map literal_of bs ∷ []) (and_from _ _ (bits_over n bs w.each) refl) (map literal_of bs) (0, omega arith, refl)
