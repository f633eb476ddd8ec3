-- Words of bits by their places.
use Rattle.std.proofs.Common.{◌≡◌, ℕ, zero, suc, ◌<◌, ◌≤◌, Bool, List, [], ◌∷◌, ◌++◌, length, get_or, refl, ap, sym, ◌∙◌, subst, arith}
use Rattle.std.specs.Prelude.{slice_index}
use Rattle.std.specs.Global.{Vec}
use Rattle.std.proofs.lemmas.List.{get_or-map, length-map}
use Rattle.std.proofs.lemmas.List.Elements.{All-push}
use Rattle.term_spec.specs.Terms.{ConstantNode, MemoryNode, word_value, value_at, node_at, width_of}
use Rattle.gates.specs.declared.bit.Bit.{Bit}
use Rattle.gates.specs.Circuits.{Within, variable_of}
use Rattle.word_gates.specs.Numbers.{number}
use Rattle.word_gates.proofs.Words.{within_cons, within_more, within_none}
use Rattle.bit_blast.specs.BitWords.{AreWithin, numbers, values_of, shapes}

-- the bits of the word at a place
pub record IsOperand (ws : List (Vec Bit)) (t : ℕ) (bs : List Bit) : Type 0 where
  pub len : length bs ≡ width_of (node_at (shapes ws) t)
  pub value : (v : ℕ → Bool) → number v bs ≡ (value_at (values_of v ws) t).word
  pub within : (n : ℕ) → AreWithin n ws → Within n bs

pub there : (ws : List (Vec Bit)) (t : ℕ) → t < length (shapes ws) → t < length ws
there ws t l = omega (arith, length-map ws (λ (w : Vec Bit). ConstantNode (length w.items) 0))

pub is_operand : (ws : List (Vec Bit)) (t : ℕ) (w : Vec Bit) (bs : List Bit) → t < length (shapes ws) → w ≡ get_or ws t w → bs ≡ w.items → IsOperand ws t bs
is_operand ws t w bs l e f =
    let m = there ws t l in
    let g : bs ≡ (get_or ws t w).items = f ∙ ap (λ (x : Vec Bit). x.items) e in
    record {
      len = ap length g ∙ sym (ap width_of (get_or-map (λ (x : Vec Bit). ConstantNode (length x.items) 0) ws t w (MemoryNode 0) m));
      value = λ v. ap (number v) g ∙ sym (ap (λ z. z.word) (get_or-map (λ (x : Vec Bit). word_value (number v x.items)) ws t w (word_value 0) m));
      within = λ n h. subst (Within n) (sym g) (h.each t w m);
    }

-- the words of values are the numbers
pub word_is : (v : ℕ → Bool) (ws : List (Vec Bit)) (t : ℕ) → (value_at (values_of v ws) t).word ≡ slice_index (numbers v ws) t
word_is v [] t = refl
word_is v (w ∷ ws) zero = refl
word_is v (w ∷ ws) (suc t) = word_is v ws t

-- words stay within as variables are added
pub within_then : (n m : ℕ) (ws : List (Vec Bit)) (w : Vec Bit) → AreWithin n ws → n ≤ m → Within m w.items → AreWithin m (ws ++ w ∷ [])
within_then n m ws w h l k = record { each = All-push (λ (x : Vec Bit). Within m x.items) ws w (λ i d j. within_more m (h.each i d j) l) k }

pub within_up : (n m : ℕ) (ws : List (Vec Bit)) → AreWithin n ws → n ≤ m → AreWithin m ws
within_up n m ws h l = record { each = λ i d j. within_more m (h.each i d j) l }

pub two : (n : ℕ) (a b : Bit) → variable_of a < n → variable_of b < n → Within n (a ∷ b ∷ [])
two n a b p q = within_cons n a (within_cons n b (within_none {n = n}) (omega arith) q) (omega arith) p

pub three : (n : ℕ) (a b c : Bit) → variable_of a < n → variable_of b < n → variable_of c < n → Within n (a ∷ b ∷ c ∷ [])
three n a b c p q r = within_cons n a (two n b c q r) (omega arith) p

pub shapes_length : (ws : List (Vec Bit)) → length (shapes ws) ≡ length ws
shapes_length ws = length-map ws (λ (w : Vec Bit). ConstantNode (length w.items) 0)
