-- The memory of base reads: what is said of the reads can be had of one.
use Rattle.std.proofs.Common.{◌≡◌, ◌⊎◌, inl, inr, ℕ, zero, suc, ◌<◌, ◌==◌, Bool, true, false, List, [], ◌∷◌, ◌++◌, Option, Some, None, refl, ap, sym, ◌∙◌, subst, arith}
use Rattle.std.specs.Prelude.{◌&&◌, if◌then◌else◌, Contains}
use Rattle.std.proofs.lemmas.Bool.{cases_eq, cases_lt}
use Rattle.std.proofs.lemmas.Bool.Decides.{nat_tests}
use Rattle.word_spec.specs.Memory.{Memory}
use Rattle.term_spec.specs.Terms.{TermReading, with_memories, TermValue, TermNode, RegisterNode, FlagNode, ChoiceNode, BaseNode, MemoryNode, ConstantNode, BinaryNode, NotNode, SelectNode, ExtractNode, ConcatNode, ExtendNode, LoadNode, StoreNode, JoinNode, TakeNode, term_word, values_from, value_at, node_value}
use Rattle.walk_spec.specs.Unrolled.{ByteRun, byte_of_runs}
use Rattle.term_spec.specs.Cells.{IsOfWords}

test : (a b : ℕ) → ((a == b) ≡ true) × (a ≡ b) ⊎ ((a == b) ≡ false) × (a ≡ b → ⊥)
test a b = elim (cases_eq a b) [ inl e ↦ inl (grind (arith, nat_tests), e) | inr n ↦ inr (grind (arith, nat_tests), n) ]

-- words do not hang on memories
word_free : (x : TermReading) (m : ℕ → Memory) (vs : List TermValue) (n : TermNode) → IsOfWords n → node_value (with_memories x m) vs n ≡ node_value x vs n
word_free x m vs (RegisterNode part a) h = refl
word_free x m vs (FlagNode part a) h = refl
word_free x m vs (ChoiceNode a) h = refl
word_free x m vs (BaseNode part a) h = refl
word_free x m vs (MemoryNode part) h = absurd h
word_free x m vs (ConstantNode a b) h = refl
word_free x m vs (BinaryNode a b c d) h = refl
word_free x m vs (NotNode a b) h = refl
word_free x m vs (SelectNode a b c d) h = refl
word_free x m vs (ExtractNode a b c) h = refl
word_free x m vs (ConcatNode a b c d) h = refl
word_free x m vs (ExtendNode a b c d) h = refl
word_free x m vs (LoadNode a b c d) h = absurd h
word_free x m vs (StoreNode a b c d e) h = absurd h
word_free x m vs (JoinNode a b c) h = absurd h
word_free x m vs (TakeNode a b c p) h = absurd h

all_free : (x : TermReading) (m : ℕ → Memory) (vs : List TermValue) (ns : List TermNode) → ((n : TermNode) → Contains ns n → IsOfWords n) →
    values_from (with_memories x m) vs ns ≡ values_from x vs ns
unfolding values_from
all_free x m vs [] h = refl
all_free x m vs (n ∷ ns) h =
    ap (λ v. values_from (with_memories x m) (vs ++ v ∷ []) ns) (word_free x m vs n (h n (0, omega arith, refl)))
    ∙ all_free x m (vs ++ node_value x vs n ∷ []) ns (λ k c. h k (suc c.0, omega (arith, c.1), c.2))

-- so do not terms over words
pub term_free : (x : TermReading) (m : ℕ → Memory) (ns : List TermNode) (t : ℕ) → ((n : TermNode) → Contains ns n → IsOfWords n) →
    term_word (with_memories x m) ns t ≡ term_word x ns t
term_free x m ns t h = ap (λ vs. (value_at vs t).word) (all_free x m [] ns h)

tests : (o : Bool) (a b : ℕ) → ((o && (a == b)) ≡ true) × (o ≡ true) × (a ≡ b) ⊎ ((o && (a == b)) ≡ false) × (o ≡ true → a ≡ b → ⊥)
tests true a b = elim (test a b) [ inl e ↦ inl (e.0, refl, e.1) | inr e ↦ inr (e.0, λ q. e.1) ]
tests false a b = inr (refl, λ q. absurd (cc))

-- the bytes of some of the first reads, over a memory; of two reads of an address the later counts
abbrev gathered : (on : ℕ → Bool) → (at base : ℕ → ℕ) → Memory → ℕ → Memory
gathered on at base rest zero a = rest a
gathered on at base rest (suc n) a = if on n && (at n == a) then base n else gathered on at base rest n a

-- a byte at an address, by what holds of each read there and of the memory
gathered_by : (P : ℕ → Type 0) (on : ℕ → Bool) (at base : ℕ → ℕ) (rest : Memory) (n a : ℕ) →
    ((j : ℕ) → j < n → on j ≡ true → at j ≡ a → P (base j)) → P (rest a) → P (gathered on at base rest n a)
gathered_by P on at base rest zero a f r = r
gathered_by P on at base rest (suc n) a f r = elim (tests (on n) (at n) a) [
  | inl e ↦ subst (λ (t : Bool). P (if t then base n else gathered on at base rest n a)) (sym e.0) (f n (omega arith) e.1 e.2)
  | inr e ↦ subst (λ (t : Bool). P (if t then base n else gathered on at base rest n a)) (sym e.0) (gathered_by P on at base rest n a
      (λ j l. f j (omega (arith, l))) r)
]

-- each of these reads has its byte, where reads of one address agree
gathered_gives : (on : ℕ → Bool) (at base : ℕ → ℕ) (rest : Memory) (n j : ℕ) →
    ((i k : ℕ) → i < k → k < n → on i ≡ true → on k ≡ true → at i ≡ at k → base i ≡ base k) → j < n → on j ≡ true →
    base j ≡ gathered on at base rest n (at j)
gathered_gives on at base rest zero j f l o = absurd (omega (arith, l))
gathered_gives on at base rest (suc n) j f l o = elim (tests (on n) (at n) (at j)) [
  | inl e ↦ here e.1 e.2 ∙ sym (ap (λ t. if t then base n else gathered on at base rest n (at j)) e.0)
  | inr e ↦ gathered_gives on at base rest n j (λ i k p q. f i k p (omega (arith, q))) (omega (arith, l, other e.1)) o ∙ sym (ap
      (λ t. if t then base n else gathered on at base rest n (at j)) e.0)
]
  where
    here : on n ≡ true → at n ≡ at j → base j ≡ base n
    here on_n e = elim (cases_lt j n) [ inl p ↦ f j n p (omega arith) o on_n (sym e) | inr p ↦ (let z : j ≡ n = omega (arith, l, p) in ap base z) ]

    other : (on n ≡ true → at n ≡ at j → ⊥) → (n ≡ j) → ⊥
    other g z = g (ap on z ∙ o) (ap at z)

-- the known bytes that are asked, and 0
abbrev asked_byte : Bool → Option ℕ → ℕ
asked_byte true (Some b) = b
asked_byte true None = 0
asked_byte false o = 0

byte_few : (t : Bool) (o : Option ℕ) → ((b : ℕ) → o ≡ Some b → b < 256) → asked_byte t o < 256
byte_few true (Some b) h = h b refl
byte_few true None h = omega arith
byte_few false o h = omega arith

-- A memory that has the bytes of a part's reads and those that are asked of it. on: the numbers of the addresses that the part is read at.
pub part_memory : (known : List ByteRun) (asked on : ℕ → Bool) (at base : ℕ → ℕ) (n : ℕ) → ((j : ℕ) → base j < 256) →
    ((a b : ℕ) → byte_of_runs known a ≡ Some b → b < 256) →
    ((i k : ℕ) → i < k → k < n → on i ≡ true → on k ≡ true → at i ≡ at k → base i ≡ base k) →
    ((j b : ℕ) → j < n → on j ≡ true → asked (at j) ≡ true → byte_of_runs known (at j) ≡ Some b → base j ≡ b) →
    (m : Memory) × ((a : ℕ) → m a < 256) × ((a b : ℕ) → byte_of_runs known a ≡ Some b → asked a ≡ true → m a ≡ b) ×
    ((j : ℕ) → j < n → on j ≡ true → base j ≡ m (at j))
part_memory known asked on at base n h k f g = (
  gathered on at base rest n,
  λ a. gathered_by (λ y. y < 256) on at base rest n a (λ j l o e. h j) (byte_few (asked a) (byte_of_runs known a) (k a)),
  λ a b e t.
      gathered_by (λ y. y ≡ b) on at base rest n a
      (λ j q o z. g j b q o (ap asked z ∙ t) (ap (byte_of_runs known) z ∙ e))
      (ap (λ y. asked_byte y (byte_of_runs known a)) t ∙ ap (asked_byte true) e),
  λ j l o. gathered_gives on at base rest n j f l o,
)
  where
    rest : Memory
    rest a = asked_byte (asked a) (byte_of_runs known a)
