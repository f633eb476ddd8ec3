-- Operators of notes as steps.
use Rattle.std.proofs.Common.{inl, ◌≡◌, ℕ, zero, suc, ◌+◌, ◌<◌, ◌≤◌, ◌^◌, Bool, true, false, if◌then◌else◌, List, length, refl, sym, subst, arith, bit_and, bit_or}
use Rattle.std.proofs.Math.Nat.{pow-le-pow_right}
use Rattle.machine_spec.specs.Bil as bil
use Rattle.word_spec.specs.Words.{bit}
use Rattle.bilv_spec.specs.Notes as notes
use Rattle.bilv_spec.specs.Notes.{Op, apply, is_true}
use Rattle.term_spec.specs.Terms.{TermReading, InRange, TermNode, ConstantNode, BinaryNode, ExtendNode, AreTyped, IsTypedOver, HasWidth, term_word, width_of, node_at}
use Rattle.term_dag.specs.Made.{IsMade, IsInterned}
use Rattle.term_dag.proofs.Ranges.{word_fits}
use Rattle.term_dag.proofs.Growth.{grew_width}
use Rattle.note_terms.specs.Steps.{IsNarrow, IsShown, IsStep, IsOperation, operator_gates}
use Rattle.note_terms.proofs.Steps.{step_stays, step_made, step_kept, step_as, step_both, bits_and, bits_or}

-- a bit counts as true where it is 1
bit_is : (v : ℕ) → v < 2 → v ≡ bit (is_true v)
bit_is zero h = refl
bit_is (suc zero) h = refl
bit_is (suc (suc v)) h = absurd (omega arith)

-- a bit says whether it counts as true
pub bit_stays : (ns : List TermNode) (t : ℕ) → AreTyped ns → t < length ns → width_of (node_at ns t) ≡ 1 →
    IsStep ns ns 32 0 2 (λ w. w ≡ 1) (λ x. bit (is_true (term_word x ns t))) t
bit_stays ns t typed within width = step_stays ns 32 2 (λ w. w ≡ 1) _ t typed within width
    (λ x r. bit_is (term_word x ns t) (word_fits x ns 1 t r typed (within, width)))

-- a reading of zeros
abbrev nothing : TermReading
nothing = record { regs = λ p n. 0; flags = λ p f. 0; mem = λ p a. 0; choice = λ i. 0; base = λ p j. 0 }

-- it is in range
nothing_in_range : InRange nothing
nothing_in_range = record { regs = λ p n. omega arith; flags = λ p f. omega arith; mem = λ p a. omega arith; choice = λ i. omega arith; base = λ p j. omega arith }

-- the constant that a term of at most 32 bits is
pub constant_fits : (ns : List TermNode) (t v : ℕ) → AreTyped ns → IsNarrow ns t → ((x : TermReading) → term_word x ns t ≡ v) → v < 4294967296
constant_fits ns t v typed narrow is =
    let fits = word_fits nothing ns (width_of (node_at ns t)) t nothing_in_range typed (narrow.within, refl) in
    let few : 2 ^ width_of (node_at ns t) ≤ 2 ^ 32 = pow-le-pow_right (omega arith) narrow.few in
    let same = is nothing in
    omega (arith, fits, few, same)

-- a constant of 32 bits in place of a term
pub constant_step : (old new : List TermNode) (v u t : ℕ) → ((x : TermReading) → term_word x old u ≡ v) → IsInterned old new (ConstantNode 32 v) t →
    IsStep old new 0 0 1 (λ w. w ≡ 32) (λ x. term_word x old u) t
constant_step old new v u t is k = step_kept old new _ _ (ConstantNode 32 v) t k refl refl refl refl (λ i. i) (λ w e. e) (λ x r. sym (is x))

-- a term with zeros above
pub extended_step : (old new : List TermNode) (from u t : ℕ) → IsInterned old new (ExtendNode false from 32 u) t →
    IsStep old new 0 0 1 (λ w. w ≡ 32) (λ x. term_word x old u) t
extended_step old new from u t k = step_kept old new _ _ (ExtendNode false from 32 u) t k refl refl refl refl (λ i. i) (λ w e. e) (λ x r. refl)

-- two values that count as true, or one of them
pub connected_step : (a b c d : List TermNode) (both : Bool) (o : bil.BinaryOp) (l r p q t : ℕ) → o ≡ (if both then bil.And else bil.Or) → l < length a →
    r < length a →
    IsStep a b 32 0 2 (λ w. w ≡ 1) (λ x. bit (is_true (term_word x a l))) p → IsStep b c 32 0 2 (λ w. w ≡ 1) (λ x. bit (is_true (term_word x b r))) q →
    IsMade c d (BinaryNode o 1 p q) t →
    IsStep a d 384 0 6 IsShown (λ x. apply (if both then notes.And else notes.Or) (term_word x a l) (term_word x a r)) t
connected_step a b c d true o l r p q t e hl hr s k m =
    let made = subst (λ (o : bil.BinaryOp). IsMade c d (BinaryNode o 1 p q) t) e m in
    let last : IsStep c d 1 0 2 IsShown (λ x. bit_and (term_word x c p) (term_word x c q)) t =
    step_made c d 1 0 IsShown _ (BinaryNode bil.And 1 p q) t made (omega arith) (omega arith) refl refl (λ i. i) (λ w f. inl f) (λ x h. refl) in
    step_as a d 65 0 6 384 0 6 IsShown IsShown _ _ t
    (step_both a b c d l r p q t 32 2 32 2 1 2 _ IsShown (λ v. bit (is_true v)) bit_and hl hr s k last)
    (omega arith) (omega arith) (omega arith) (λ w f. f) (λ x h. bits_and (is_true (term_word x a l)) (is_true (term_word x a r)))
connected_step a b c d false o l r p q t e hl hr s k m =
    let made = subst (λ (o : bil.BinaryOp). IsMade c d (BinaryNode o 1 p q) t) e m in
    let last : IsStep c d 1 0 2 IsShown (λ x. bit_or (term_word x c p) (term_word x c q)) t =
    step_made c d 1 0 IsShown _ (BinaryNode bil.Or 1 p q) t made (omega arith) (omega arith) refl refl (λ i. i) (λ w f. inl f) (λ x h. refl) in
    step_as a d 65 0 6 384 0 6 IsShown IsShown _ _ t
    (step_both a b c d l r p q t 32 2 32 2 1 2 _ IsShown (λ v. bit (is_true v)) bit_or hl hr s k last)
    (omega arith) (omega arith) (omega arith) (λ w f. f) (λ x h. bits_or (is_true (term_word x a l)) (is_true (term_word x a r)))

-- an operator between words of 32 bits, whichever way round, is typed
pub swapped_typed : (ns : List TermNode) (o : bil.BinaryOp) (swapped : Bool) (p q : ℕ) → HasWidth ns 32 p → HasWidth ns 32 q →
    IsTypedOver ns (BinaryNode o 32 (if swapped then q else p) (if swapped then p else q))
swapped_typed ns o true p q h k = ((omega arith, omega arith), k, h)
swapped_typed ns o false p q h k = ((omega arith, omega arith), h, k)

-- the operands of an operator between two terms that were made one after the other
pub operands_typed : (a b c : List TermNode) (g l n : ℕ) (f h : TermReading → ℕ) (o : bil.BinaryOp) (swapped : Bool) (p q : ℕ) (m : TermNode) →
    IsStep a b g l n (λ w. w ≡ 32) f p → IsStep b c g l n (λ w. w ≡ 32) h q → m ≡ BinaryNode o 32 (if swapped then q else p) (if swapped then p else q) →
    IsTypedOver c m
operands_typed a b c g l n f h o swapped p q m s k e =
    subst (IsTypedOver c) (sym e) (swapped_typed c o swapped p q (grew_width b c g l 0 0 n 32 p k.grew (s.within, s.fits)) (k.within, k.fits))

-- the step of an operator between words
operator_step : (c d : List TermNode) (o : Op) (k : bil.BinaryOp) (swapped : Bool) (p q t : ℕ) → IsOperation o k swapped →
    IsMade c d (BinaryNode k 32 (if swapped then q else p) (if swapped then p else q)) t →
    IsStep c d (operator_gates o) 0 2 IsShown (λ x. apply o (term_word x c p) (term_word x c q)) t
operator_step c d o k true p q t is m =
    step_made c d (operator_gates o) 0 IsShown _ (BinaryNode k 32 q p) t m is.gates (omega arith) refl refl (λ i. i) (λ w e. subst IsShown (sym e) is.shown)
    (λ x h. is.value (term_word x c p) (term_word x c q))
operator_step c d o k false p q t is m =
    step_made c d (operator_gates o) 0 IsShown _ (BinaryNode k 32 p q) t m is.gates (omega arith) refl refl (λ i. i) (λ w e. subst IsShown (sym e) is.shown)
    (λ x h. is.value (term_word x c p) (term_word x c q))

-- an operator between two values as words
pub operated_step : (a b c d : List TermNode) (o : Op) (k : bil.BinaryOp) (swapped : Bool) (l r p q t : ℕ) (m : TermNode) → IsOperation o k swapped →
    l < length a → r < length a →
    IsStep a b 0 0 1 (λ w. w ≡ 32) (λ x. term_word x a l) p → IsStep b c 0 0 1 (λ w. w ≡ 32) (λ x. term_word x b r) q →
    m ≡ BinaryNode k 32 (if swapped then q else p) (if swapped then p else q) → IsMade c d m t →
    IsStep a d (operator_gates o) 0 6 IsShown (λ x. apply o (term_word x a l) (term_word x a r)) t
operated_step a b c d o k swapped l r p q t m is hl hr s h e made =
    let typed = subst (λ (m : TermNode). IsMade c d m t) e made in
    step_as a d (0 + 0 + operator_gates o) 0 4 (operator_gates o) 0 6 IsShown IsShown _ _ t
    (step_both a b c d l r p q t 0 1 0 1 (operator_gates o) 2 _ IsShown (λ v. v) (apply o) hl hr s h (operator_step c d o k swapped p q t is typed))
    (omega arith) (omega arith) (omega arith) (λ w f. f) (λ x f. refl)
