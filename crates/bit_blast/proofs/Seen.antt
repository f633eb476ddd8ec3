-- Bits that stand for inputs, and the valuation of the inputs that they give.
use Rattle.std.proofs.Common.{◌≡◌, ℕ, zero, suc, ◌+◌, ◌*◌, ◌<◌, ◌≤◌, Bool, true, false, List, [], ◌∷◌, length, take, drop, refl, ap, sym, ◌∙◌, arith}
use Rattle.word_spec.specs.Words.{bit}
use Rattle.clause_spec.specs.Clauses.{AgreeUpTo}
use Rattle.gates.specs.declared.bit.Bit.{Bit}
use Rattle.gates.specs.Circuits.{bit_value}
use Rattle.word_gates.specs.Numbers.{digit, number, input_number}
use Rattle.bit_blast.specs.Places.{seen, truths}

-- the lowest bits of equal numbers are equal, and so are the rests
lowest : (x y : Bool) (n m : ℕ) → bit x + 2 * n ≡ bit y + 2 * m → (x ≡ y) × (n ≡ m)
lowest true true n m e = (refl, omega arith)
lowest true false n m e = absurd (omega arith)
lowest false true n m e = absurd (omega arith)
lowest false false n m e = (refl, omega arith)

-- words with one number have the same bits
pub same_truths : (v : ℕ → Bool) (xs ys : List Bit) → length xs ≡ length ys → number v xs ≡ number v ys → truths v xs ≡ truths v ys
same_truths v [] [] l e = refl
same_truths v [] (y ∷ ys) l e = absurd (omega arith)
same_truths v (x ∷ xs) [] l e = absurd (omega arith)
same_truths v (x ∷ xs) (y ∷ ys) l e =
    let q = lowest (bit_value v x) (bit_value v y) (number v xs) (number v ys) e in
    ap (λ z. z ∷ truths v xs) q.0 ∙ ap (λ z. bit_value v y ∷ z) (same_truths v xs ys (omega arith) q.1)

-- inputs behind the first
later : (v : ℕ → Bool) (b : Bit) (bs : List Bit) (f n : ℕ) → input_number (seen (b ∷ bs) v) (suc f) n ≡ input_number (seen bs v) f n
later v b bs f zero = refl
later v b bs f (suc n) = ap (λ z. bit (seen bs v (suc f)) + 2 * z) (later v b bs (suc f) n)

-- the word of inputs is that of the bits that stand for them
pub seen_number : (v : ℕ → Bool) (bits : List Bit) (f n : ℕ) → f + n ≤ length bits → number v (take n (drop f bits)) ≡ input_number (seen bits v) f n
seen_number v [] zero zero l = refl
seen_number v [] zero (suc n) l = absurd (omega arith)
seen_number v [] (suc f) n l = absurd (omega arith)
seen_number v (b ∷ bs) (suc f) n l = seen_number v bs f n (omega arith) ∙ sym (later v b bs f n)
seen_number v (b ∷ bs) zero zero l = refl
seen_number v (b ∷ bs) zero (suc n) l = ap (λ z. digit v b + 2 * z) (seen_number v bs 0 n (omega arith) ∙ sym (later v b bs 0 n))

-- what stands for inputs from one on
pub seen_at : (v w : ℕ → Bool) (bits : List Bit) (f i : ℕ) → number v bits ≡ input_number w f (length bits) → i < length bits →
    seen bits v (suc i) ≡ w (suc (f + i))
seen_at v w [] f i e l = absurd (omega arith)
seen_at v w (b ∷ bs) f zero e l =
    let q = lowest (bit_value v b) (w (suc f)) (number v bs) (input_number w (suc f) (length bs)) e in
    q.0 ∙ ap (λ z. w (suc z)) (let k : f ≡ f + 0 = omega arith in k)
seen_at v w (b ∷ bs) f (suc i) e l =
    let q = lowest (bit_value v b) (w (suc f)) (number v bs) (input_number w (suc f) (length bs)) e in
    seen_at v w bs (suc f) i q.1 (omega arith) ∙ ap (λ z. w (suc z)) (let k : suc f + i ≡ f + suc i = omega arith in k)

-- a valuation from a place on is what bits give that stand for the inputs there
pub seen_agrees : (v : ℕ → Bool) (bits : List Bit) (f n : ℕ) → length bits ≡ n → number v bits ≡ input_number v f n → AgreeUpTo n (seen bits v) (λ i. v (f + i))
seen_agrees v bits f n l e zero h k = absurd (omega arith)
seen_agrees v bits f n l e (suc i) h k =
    seen_at v v bits f i (e ∙ ap (input_number v f) (sym l)) (omega arith) ∙ ap v (let q : suc (f + i) ≡ f + suc i = omega arith in q)
