-- One more gate.
use Rattle.std.proofs.Common.{◌≡◌, ℕ, zero, suc, ◌+◌, ◌<◌, ◌≤◌, Bool, true, false, ◌&&◌, get_or, List, [], ◌∷◌, ◌++◌, length, refl, ◌∙◌, ap, arith, length-append}
use Rattle.std.proofs.lemmas.Bool.{and_parts}
use Rattle.std.specs.Bool.{beq}
use Rattle.gates.specs.declared.bit.Bit.{Bit}
use Rattle.gates.specs.declared.gate.Gate.{Gate}
use Rattle.gates.specs.Circuits.{gates_hold, InOrder, IsGateBelow, gate_value, Holds, holds, Netlist, Grows, IsBit, variable_of}

pub in_order_push : (n : ℕ) (gs : List Gate) (g : Gate) → InOrder n gs → IsGateBelow (n + length gs) g → InOrder n (gs ++ g ∷ [])
in_order_push n [] g o b = (let e : n + 0 ≡ n = omega arith in rw e at b, tt)
in_order_push n (h ∷ gs) g o b =
    (o.0, in_order_push (suc n) gs g o.1 (let e : n + suc (length gs) ≡ suc n + length gs = omega arith in rw e at b))

and_assoc : (a b c : Bool) → (a && (b && c)) ≡ ((a && b) && c)
and_assoc true b c = refl
and_assoc false b c = refl

pub and_true : (b : Bool) → (b && true) ≡ b
and_true true = refl
and_true false = refl

pub same_from_beq : (a b : Bool) → beq a b ≡ true → a ≡ b
same_from_beq true true e = refl
same_from_beq true false e = cc
same_from_beq false true e = cc
same_from_beq false false e = refl

hold_push : (v : ℕ → Bool) (n : ℕ) (gs : List Gate) (g : Gate) →
    gates_hold v n (gs ++ g ∷ []) ≡ (gates_hold v n gs && beq (v (suc (n + length gs))) (gate_value v g))
hold_push v n [] g = let e : n + 0 ≡ n = omega arith in rw e (and_true (beq (v (suc n)) (gate_value v g)))
hold_push v n (x ∷ gs) g =
    let e : n + suc (length gs) ≡ suc n + length gs = omega arith in
    rw e (ap (λ b. beq (v (suc n)) (gate_value v x) && b) (hold_push v (suc n) gs g) ∙ and_assoc (beq (v (suc n)) (gate_value v x)) (gates_hold v (suc n) gs)
    (beq (v (suc (suc n + length gs))) (gate_value v g)))

-- with one more gate
pub holds_push : (v : ℕ → Bool) (n : ℕ) (gs : List Gate) (g : Gate) →
    holds v (record { inputs = n; gates = gs ++ g ∷ [] }) ≡ (holds v (record { inputs = n; gates = gs }) && beq (v (suc (n + 1 + length gs))) (gate_value v g))
unfolding holds
holds_push v n gs g =
    ap (λ b. v (suc n) && b) (hold_push v (n + 1) gs g) ∙ and_assoc (v (suc n)) (gates_hold v (n + 1) gs) (beq (v (suc (n + 1 + length gs))) (gate_value v g))

push_grows : (n : ℕ) (gs : List Gate) (g : Gate) → Grows (record { inputs = n; gates = gs }) (record { inputs = n; gates = gs ++ g ∷ [] }) 1
push_grows n gs g =
    record {
      same_inputs = refl;
      more = omega (arith, length-append gs (g ∷ []));
      cost = omega (arith, length-append gs (g ∷ []));
      keeps = λ v h. (and_parts _ _ (rw holds_push at h)).0;
    }

pub push_value : (v : ℕ → Bool) (n : ℕ) (gs : List Gate) (g : Gate) → Holds v (record { inputs = n; gates = gs ++ g ∷ [] }) →
    v (suc (n + 1 + length gs)) ≡ gate_value v g
push_value v n gs g h = same_from_beq _ _ (and_parts _ _ (rw holds_push at h)).1

pub push_made : (n m : ℕ) (gs : List Gate) (g : Gate) (b : Bit) → variable_of b ≡ m → m ≡ n + 1 + length gs →
    IsBit (record { inputs = n; gates = gs }) (record { inputs = n; gates = gs ++ g ∷ [] }) 1 b
push_made n m gs g b e f = record { grows = push_grows n gs g; within = omega (arith, length-append gs (g ∷ [])) }

pub one_value : (v : ℕ → Bool) (n : ℕ) (gs : List Gate) → Holds v (record { inputs = n; gates = gs }) → v (suc n) ≡ true
unfolding holds
one_value v n gs h = (and_parts _ _ h).0

hold_at : (v : ℕ → Bool) (n : ℕ) (gs : List Gate) (i : ℕ) (d : Gate) → gates_hold v n gs ≡ true → i < length gs → v (suc (n + i)) ≡ gate_value v (get_or gs i d)
hold_at v n [] i d h l = absurd (omega arith)
hold_at v n (g ∷ gs) zero d h l = let e : n + 0 ≡ n = omega arith in rw e (same_from_beq _ _ (and_parts _ _ h).0)
hold_at v n (g ∷ gs) (suc i) d h l = let e : n + suc i ≡ suc n + i = omega arith in rw e (hold_at v (suc n) gs i d (and_parts _ _ h).1 (omega arith))

-- a gate that is there has its value
pub there_value : (v : ℕ → Bool) (n : ℕ) (gs : List Gate) (i : ℕ) (g : Gate) → Holds v (record { inputs = n; gates = gs }) → i < length gs → get_or gs i g ≡ g →
    v (suc (n + 1 + i)) ≡ gate_value v g
unfolding holds
there_value v n gs i g h l e = hold_at v (n + 1) gs i g (and_parts _ _ h).1 l ∙ ap (gate_value v) e

-- ---- growing

pub grows_none : (c : Netlist) (n : ℕ) → Grows c c n
grows_none c n = record { same_inputs = refl; more = omega arith; cost = omega arith; keeps = λ v h. h }

pub grows_then : {a b c : Netlist} {m n : ℕ} (k : ℕ) → Grows a b m → Grows b c n → m + n ≤ k → Grows a c k
grows_then {a} {b} {c} {m} {n} k g h e =
    record {
      same_inputs = h.same_inputs ∙ g.same_inputs;
      more = omega arith;
      cost = omega arith;
      keeps = λ v x. g.keeps v (h.keeps v x);
    }

pub bit_then : {a b c : Netlist} {m n : ℕ} {l : Bit} (k : ℕ) → Grows a b m → IsBit b c n l → m + n ≤ k → IsBit a c k l
bit_then k g h e = record { grows = grows_then k g h.grows e; within = h.within }
