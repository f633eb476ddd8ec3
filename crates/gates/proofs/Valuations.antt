-- The gates fix a valuation from its inputs.
use Rattle.std.proofs.Common.{◌≡◌, ◌==◌, ℕ, suc, ◌+◌, ◌%◌, ◌<◌, Bool, true, false, cond, List, [], ◌∷◌, length, refl, sym, ◌∙◌, ap, arith, ⊎_elim}
use Rattle.std.specs.Bool.{beq}
use Rattle.std.proofs.lemmas.Bool.{and_parts, and_from, eq-eqb, ne_eqb, cases_eq, cond-true, cond-false}
use Rattle.clause_spec.specs.Clauses.{AgreeUpTo, same_sign}
use Rattle.gates.specs.declared.bit.Bit.{Bit}
use Rattle.gates.specs.declared.gate.Gate.{Gate}
use Rattle.gates.specs.declared.gate.Gate.TheVariants.{And, Xor, Ite, Parity, Majority, Same}
use Rattle.gates.specs.Circuits.{gates_hold, InOrder, IsGateBelow, gate_value, bit_value, variable_of, Holds, holds, Netlist, next}
use Rattle.gates.proofs.Netlists.{same_from_beq}

pub same_bit : (n : ℕ) (v w : ℕ → Bool) (b : Bit) → variable_of b < n → AgreeUpTo n v w → bit_value v b ≡ bit_value w b
unfolding bit_value
same_bit n v w b h a = ap (λ t. same_sign t (b.code % 2 == 0)) (a (suc (variable_of b)) (omega arith) (omega arith))

same_gate : (n : ℕ) (v w : ℕ → Bool) (g : Gate) → IsGateBelow n g → AgreeUpTo n v w → gate_value v g ≡ gate_value w g
same_gate n v w (And a b) h e = let x = same_bit n v w a h.0 e in let y = same_bit n v w b h.1 e in cc
same_gate n v w (Xor a b) h e = let x = same_bit n v w a h.0 e in let y = same_bit n v w b h.1 e in cc
same_gate n v w (Ite c a b) h e = let z = same_bit n v w c h.0 e in let x = same_bit n v w a h.1 e in let y = same_bit n v w b h.2 e in cc
same_gate n v w (Parity a b c) h e = let x = same_bit n v w a h.0 e in let y = same_bit n v w b h.1 e in let z = same_bit n v w c h.2 e in cc
same_gate n v w (Majority a b c) h e = let x = same_bit n v w a h.0 e in let y = same_bit n v w b h.1 e in let z = same_bit n v w c h.2 e in cc
same_gate n v w (Same s a b) h e = let z = same_bit n v w s h.0 e in let x = same_bit n v w a h.1 e in let y = same_bit n v w b h.2 e in cc

-- ---- at most one valuation

agree_more : (n : ℕ) (v w : ℕ → Bool) → AgreeUpTo n v w → v (suc n) ≡ w (suc n) → AgreeUpTo (suc n) v w
agree_more n v w a e k f h = ⊎_elim (λ p. rw (p) e) (λ p. a k f (omega arith)) (cases_eq k (suc n))

gates_once : (n : ℕ) (gs : List Gate) (v w : ℕ → Bool) → InOrder n gs → AgreeUpTo n v w → gates_hold v n gs ≡ true → gates_hold w n gs ≡ true →
    AgreeUpTo (n + length gs) v w
gates_once n [] v w o a h i = let e : n + 0 ≡ n = omega arith in rw e a
gates_once n (g ∷ gs) v w o a h i =
    let p = and_parts _ _ h in
    let q = and_parts _ _ i in
    let e : v (suc n) ≡ w (suc n) = same_from_beq _ _ p.0 ∙ (same_gate n v w g o.0 a ∙ sym (same_from_beq _ _ q.0)) in
    let s : n + suc (length gs) ≡ suc n + length gs = omega arith in
    rw s (gates_once (suc n) gs v w o.1 (agree_more n v w a e) p.1 q.1)

pub once : (c : Netlist) (v w : ℕ → Bool) → InOrder (c.inputs + 1) c.gates → AgreeUpTo c.inputs v w → Holds v c → Holds w c → AgreeUpTo (next c) v w
unfolding holds
once c v w o a x y =
    let p = and_parts _ _ x in
    let r = and_parts _ _ y in
    let m : AgreeUpTo (suc c.inputs) v w = agree_more c.inputs v w a (p.0 ∙ sym r.0) in
    let e : suc c.inputs ≡ c.inputs + 1 = omega arith in
    gates_once (c.inputs + 1) c.gates v w o (rw e at m) p.1 r.1

-- ---- at least one

abbrev pub assign : (ℕ → Bool) → ℕ → Bool → ℕ → Bool
assign v n b k = cond (k == n) b (v k)

abbrev pub run : (ℕ → Bool) → ℕ → List Gate → ℕ → Bool
run v n [] = v
run v n (g ∷ gs) = run (assign v (suc n) (gate_value v g)) (suc n) gs

assign_other : (v : ℕ → Bool) (n : ℕ) (b : Bool) → AgreeUpTo n (assign v (suc n) b) v
assign_other v n b k f h = cond-false (k == suc n) b (v k) (ne_eqb k (suc n) (λ e. omega arith))

assign_same : (v : ℕ → Bool) (n : ℕ) (b : Bool) → assign v n b n ≡ b
assign_same v n b = cond-true (n == n) b (v n) (eq-eqb n n refl)

run_before : (v : ℕ → Bool) (n : ℕ) (gs : List Gate) → AgreeUpTo n (run v n gs) v
run_before v n [] k f h = refl
run_before v n (g ∷ gs) k f h = run_before (assign v (suc n) (gate_value v g)) (suc n) gs k f (omega arith) ∙ assign_other v n (gate_value v g) k f h

beq_same : (a b : Bool) → a ≡ b → beq a b ≡ true
beq_same true b e = rw (← e) refl
beq_same false b e = rw (← e) refl

run_holds : (v : ℕ → Bool) (n : ℕ) (gs : List Gate) → InOrder n gs → gates_hold (run v n gs) n gs ≡ true
run_holds v n [] o = refl
run_holds v n (g ∷ gs) o =
    let w = assign v (suc n) (gate_value v g) in
    let r = run w (suc n) gs in
    let e : r (suc n) ≡ gate_value v g = run_before w (suc n) gs (suc n) (omega arith) (omega arith) ∙ assign_same v (suc n) (gate_value v g) in
    let f : gate_value r g ≡ gate_value v g = same_gate n r v g o.0 (run_before v n (g ∷ gs)) in
    and_from _ _ (beq_same _ _ (e ∙ sym f)) (run_holds w (suc n) gs o.1)

pub extends : (c : Netlist) (a : ℕ → Bool) → InOrder (c.inputs + 1) c.gates → (v : ℕ → Bool) × AgreeUpTo c.inputs v a × Holds v c
unfolding holds
extends c a o =
    let n = c.inputs in
    let b = assign a (suc n) true in
    let v = run b (n + 1) c.gates in
    let one : v (suc n) ≡ true = run_before b (n + 1) c.gates (suc n) (omega arith) (omega arith) ∙ assign_same a (suc n) true in
    let same : AgreeUpTo n v a = λ k f i. run_before b (n + 1) c.gates k f (omega arith) ∙ assign_other a n true k f i in
    (v, same, and_from _ _ one (run_holds b (n + 1) c.gates o))
