-- The cells of a load after a store: what cells have to be can be had.
use Rattle.std.proofs.Common.{◌≡◌, inl, inr, refl, ap, sym, ◌∙◌, subst, arith, ℕ, zero, suc, ◌+◌, ◌-◌, ◌*◌, ◌/◌, ◌%◌, ◌^◌, ◌<◌, ◌≤◌, [], ◌∷◌, Some, Bool, true, false}
use Rattle.std.specs.Prelude.{Contains, ◌==◌, nat_lt, if◌then◌else◌, slice_index}
use Rattle.std.proofs.lemmas.Bool.Decides.{nat_tests}
use Rattle.bilv_spec.proofs.Pigeons.{truth}
use Rattle.word_spec.specs.Words.{bit, bits}
use Rattle.word_spec.specs.Memory.{Memory, Little, load, store}
use Rattle.machine_spec.specs.Bil.{Equal}
use Rattle.machine_spec.specs.Bil as bil
use Rattle.term_spec.specs.Terms.{TermReading, InRange, with_mem, TermNode, RegisterNode, BaseNode, MemoryNode, ConstantNode, BinaryNode, SelectNode, ExtractNode, LoadNode, StoreNode, HasWidth, node_at, select, values_from, term_word}
use Rattle.walk_spec.specs.Unrolled.{UnrolledProgram, Executes}
use Rattle.term_spec.specs.WalkQuestions.{QuestionTerm, HasAsked, IsNamedBelow}
use Rattle.term_spec.specs.Cells.{Cells, AskedByte, Agreement, Gives, IsAllowed, IsOfWords, AreFormed, TellsCells}

-- a load of one byte is the memory's byte
one_byte : (m : Memory) (b : ℕ) → b < 2 ^ 32 → load Little 1 m b ≡ m b
one_byte m b l =
    let e : (b + 0) % 2 ^ 32 ≡ b = omega arith in
    ap (λ z. 0 + m z * 256 ^ 0) e ∙ (let f : 0 + m b * 1 ≡ m b = omega arith in f)

-- a stored byte is read at its address, and no other
stored : (m : Memory) (a b v : ℕ) → a < 2 ^ 32 → b < 2 ^ 32 → v < 256 → store Little 1 m a v b ≡ select (bit (a == b)) v (m b)
stored m a b v la lb lv = elim (truth (a == b)) [
  | inl t ↦ (
      let s : a ≡ b = grind (arith, nat_tests) in
      let e : (b + (2 ^ 32 - a)) % 2 ^ 32 ≡ 0 = omega arith in
      let w : v / 1 % 256 ≡ v = omega arith in
      ap (λ z. if nat_lt z 1 then v / 256 ^ z % 256 else m b) e ∙ w ∙ sym (ap (λ z. select (bit z) v (m b)) t))
  | inr f ↦ (
      let n : (a ≡ b) → ⊥ = (λ e. absurd (grind (arith, nat_tests))) in
      let e : nat_lt ((b + (2 ^ 32 - a)) % 2 ^ 32) 1 ≡ false = grind (arith, nat_tests) in
      ap (λ z. if z then v / 256 ^ ((b + (2 ^ 32 - a)) % 2 ^ 32) % 256 else m b) e ∙ sym (ap (λ z. select (bit z) v (m b)) f))
]

pub loaded : (m : Memory) (a b v : ℕ) → a < 2 ^ 32 → b < 2 ^ 32 → v < 256 → load Little 1 (store Little 1 m a v) b ≡ select (bit (a == b)) v (m b)
loaded m a b v la lb lv = one_byte (store Little 1 m a v) b lb ∙ stored m a b v la lb lv

-- a program with three registers, a byte load, a byte store and the known byte 7 at 0
abbrev pub w : UnrolledProgram
w = record {
  endian = Little;
  narrow = false;
  registers = 10 ∷ 11 ∷ 12 ∷ [];
  flags = 0;
  link = 10;
  entry = 0;
  requires = [];
  ensures = [];
  kept = [];
  known = record { at = 0; count = 1; bytes = 7 ∷ [] } ∷ [];
  literals = [];
  points = record {
    point = record { turns = 0; stack = []; at = 0 };
    length = 4;
    does = Executes bil.Empty;
    draws = false;
    row = 1024;
    loads = 1;
    stores = 1;
    exits = [];
  } ∷ [];
}

-- the low byte of x12 is stored at x10, and the byte at x11 is 5
abbrev pub t : QuestionTerm
t = record {
  nodes =
      MemoryNode 0 ∷ RegisterNode 0 10 ∷ RegisterNode 0 11 ∷ RegisterNode 0 12 ∷ ExtractNode 7 0 3 ∷ StoreNode 1 Little 0 1 4 ∷ LoadNode 1 Little 5 2
      ∷ ConstantNode 8 5 ∷ BinaryNode Equal 8 6 7 ∷ [];
  root = 8;
}

-- its cells, with the known byte asked
abbrev pub c : Cells
c = record {
  nodes = RegisterNode 0 10 ∷ RegisterNode 0 11 ∷ RegisterNode 0 12 ∷ ExtractNode 7 0 2 ∷ BaseNode 0 0 ∷ BinaryNode Equal 32 0 1 ∷ SelectNode 8 5 3 4 ∷ ConstantNode 8 5
      ∷ BinaryNode Equal 8 6 7 ∷ ConstantNode 32 0 ∷ BinaryNode Equal 32 1 9 ∷ [];
  addresses = 1 ∷ [];
  agrees = [];
  asked = record { condition = 10; read = 0; byte = 7 } ∷ [];
  root = 8;
}

abbrev pub asked : ℕ → Bool
asked a = a == 0

-- the byte that is stored
abbrev v : TermReading → ℕ
v x = bits 7 0 (x.regs 0 12)

eight : (1 ≤ 8) × (8 ≤ 64)
eight = (omega arith, omega arith)

word : (1 ≤ 32) × (32 ≤ 64)
word = (omega arith, omega arith)

no_agreement : (a : Agreement) → Contains c.agrees a → ⊥
no_agreement a (n, l, e) = absurd (omega arith)

formed : AreFormed w c
formed = record {
  typed = (
    tt,
    (
      tt,
      (
        tt,
        (
          (omega arith, omega arith, omega arith),
          (
            tt,
            (
              (word, (omega arith, refl), (omega arith, refl)),
              (
                (eight, (omega arith, refl), (omega arith, refl), (omega arith, refl)),
                (
                  (eight, omega arith),
                  (
                    (eight, (omega arith, refl), (omega arith, refl)),
                    ((word, omega arith), ((word, (omega arith, refl), (omega arith, refl)), tt)),
                  ),
                ),
              ),
            ),
          ),
        ),
      ),
    ),
  );
  words = words;
  named = named;
  addresses = addresses;
  early = early;
  agrees = λ a h. absurd (no_agreement a h);
  asked = asked_is;
  root = (omega arith, refl);
}
  where
    words : (n : TermNode) → Contains c.nodes n → IsOfWords n
    words n (zero, l, e) = subst IsOfWords e tt
    words n ((suc zero), l, e) = subst IsOfWords e tt
    words n ((suc (suc zero)), l, e) = subst IsOfWords e tt
    words n ((suc (suc (suc zero))), l, e) = subst IsOfWords e tt
    words n ((suc (suc (suc (suc zero)))), l, e) = subst IsOfWords e tt
    words n ((suc (suc (suc (suc (suc zero))))), l, e) = subst IsOfWords e tt
    words n ((suc (suc (suc (suc (suc (suc zero)))))), l, e) = subst IsOfWords e tt
    words n ((suc (suc (suc (suc (suc (suc (suc zero))))))), l, e) = subst IsOfWords e tt
    words n ((suc (suc (suc (suc (suc (suc (suc (suc zero)))))))), l, e) = subst IsOfWords e tt
    words n ((suc (suc (suc (suc (suc (suc (suc (suc (suc zero))))))))), l, e) = subst IsOfWords e tt
    words n ((suc (suc (suc (suc (suc (suc (suc (suc (suc (suc zero)))))))))), l, e) = subst IsOfWords e tt
    words n ((suc (suc (suc (suc (suc (suc (suc (suc (suc (suc (suc i))))))))))), l, e) = absurd (omega arith)

    named : (n : TermNode) → Contains c.nodes n → IsNamedBelow w 1 n
    named n (zero, l, e) = subst (IsNamedBelow w 1) e (refl, refl)
    named n ((suc zero), l, e) = subst (IsNamedBelow w 1) e (refl, refl)
    named n ((suc (suc zero)), l, e) = subst (IsNamedBelow w 1) e (refl, refl)
    named n ((suc (suc (suc zero))), l, e) = subst (IsNamedBelow w 1) e tt
    named n ((suc (suc (suc (suc zero)))), l, e) = subst (IsNamedBelow w 1) e (refl, (let h : 0 < 1 = omega arith in h))
    named n ((suc (suc (suc (suc (suc zero))))), l, e) = subst (IsNamedBelow w 1) e tt
    named n ((suc (suc (suc (suc (suc (suc zero)))))), l, e) = subst (IsNamedBelow w 1) e tt
    named n ((suc (suc (suc (suc (suc (suc (suc zero))))))), l, e) = subst (IsNamedBelow w 1) e tt
    named n ((suc (suc (suc (suc (suc (suc (suc (suc zero)))))))), l, e) = subst (IsNamedBelow w 1) e tt
    named n ((suc (suc (suc (suc (suc (suc (suc (suc (suc zero))))))))), l, e) = subst (IsNamedBelow w 1) e tt
    named n ((suc (suc (suc (suc (suc (suc (suc (suc (suc (suc zero)))))))))), l, e) = subst (IsNamedBelow w 1) e tt
    named n ((suc (suc (suc (suc (suc (suc (suc (suc (suc (suc (suc i))))))))))), l, e) = absurd (omega arith)

    addresses : (j : ℕ) → j < 1 → HasWidth c.nodes 32 (slice_index c.addresses j)
    addresses zero l = (omega arith, refl)
    addresses (suc j) l = absurd (omega arith)

    early : (j i : ℕ) → j < 1 → i ≤ slice_index c.addresses j → IsNamedBelow w j (node_at c.nodes i)
    early zero zero l h = (refl, refl)
    early zero (suc zero) l h = (refl, refl)
    early zero (suc (suc i)) l h = absurd (omega arith)
    early (suc j) i l h = absurd (omega arith)

    asked_is : (a : AskedByte) → Contains c.asked a → HasWidth c.nodes 1 a.condition × (a.read < 1) × (a.byte < 256)
    asked_is a (zero, l, e) = subst (λ (z : AskedByte). HasWidth c.nodes 1 z.condition × (z.read < 1) ×
        (z.byte < 256)) e ((omega arith, refl), omega arith, omega arith)
    asked_is a (suc n, l, e) = absurd (omega arith)

small : (x : TermReading) → v x < 256
small x = omega arith

same : (x : TermReading) → InRange x → Gives c x → term_word x c.nodes c.root ≡ term_word x t.nodes t.root
unfolding values_from
same x is gives =
    ap (λ z. bit (z == 5))
    (ap (λ z. select (bit (x.regs 0 10 == x.regs 0 11)) (v x) z) (gives 0 (omega arith)) ∙ sym
    (loaded (x.mem 0) (x.regs 0 10) (x.regs 0 11) (v x) (is.regs 0 10) (is.regs 0 11) (small x)))

-- where the bit says that the address is 0, it is
at_zero : (a : ℕ) → bit (a == 0) ≡ 1 → a ≡ 0
at_zero zero h = refl
at_zero (suc a) h = absurd (let e : (suc a == 0) ≡ false = grind (arith, nat_tests) in let f : 0 ≡ 1 = sym (ap bit e) ∙ h in cc)

sound : (x : TermReading) → InRange x → Gives c x → HasAsked w asked (x.mem 0) → IsAllowed c x
unfolding values_from
sound x is gives has = record { agrees = λ a h. absurd (no_agreement a h); asked = read_is }
  where
    read_is : (a : AskedByte) → Contains c.asked a → term_word x c.nodes a.condition ≡ 1 → x.base 0 a.read ≡ a.byte
    read_is a (zero, l, e) = subst (λ (z : AskedByte). term_word x c.nodes z.condition ≡ 1 → x.base 0 z.read ≡ z.byte) e
        (λ h. gives 0 (omega arith) ∙ ap (x.mem 0) (at_zero (x.regs 0 11) h) ∙ has 0 7 (omega arith) refl refl)
    read_is a (suc n, l, e) = absurd (omega arith)

-- the memory that has the read's byte at its address, and 7 at 0
abbrev filled : (at byte : ℕ) → Memory
filled at byte a = if a == at then byte else if a == 0 then 7 else 0

below : (at byte a : ℕ) → byte < 256 → filled at byte a < 256
below at byte a l = elim (truth (a == at)) [
  | inl h ↦ subst (λ (z : Bool). (if z then byte else if a == 0 then 7 else 0) < 256) (sym h) l
  | inr h ↦ subst (λ (z : Bool). (if z then byte else if a == 0 then 7 else 0) < 256) (sym h) (inner a)
]
  where
    inner : (a : ℕ) → (if a == 0 then 7 else 0) < 256
    inner a = elim (truth (a == 0)) [
      | inl h ↦ subst (λ (z : Bool). (if z then 7 else 0) < 256) (sym h) (omega arith)
      | inr h ↦ subst (λ (z : Bool). (if z then 7 else 0) < 256) (sym h) (omega arith)
    ]

at_itself : (at byte : ℕ) → filled at byte at ≡ byte
at_itself at byte = let e : (at == at) ≡ true = grind (arith, nat_tests) in ap (λ z. if z then byte else if at == 0 then 7 else 0) e

has_seven : (at byte : ℕ) → (bit (at == 0) ≡ 1 → byte ≡ 7) → filled at byte 0 ≡ 7
has_seven zero byte h = h refl
has_seven (suc at) byte h = let e : (0 == suc at) ≡ false = grind (arith, nat_tests) in ap (λ z. if z then byte else 7) e

complete : (x : TermReading) → InRange x → IsAllowed c x → (m : Memory) × ((a : ℕ) → m a < 256) × HasAsked w asked m × Gives c (with_mem x m)
unfolding values_from
complete x is allowed = (
  filled (x.regs 0 11) (x.base 0 0),
  (λ a. below (x.regs 0 11) (x.base 0 0) a (is.base 0 0)),
  has,
  gives,
)
  where
    seven : bit (x.regs 0 11 == 0) ≡ 1 → x.base 0 0 ≡ 7
    seven h = allowed.asked (record { condition = 10; read = 0; byte = 7 }) (0, omega arith, refl) h

    has : HasAsked w asked (filled (x.regs 0 11) (x.base 0 0))
    has zero b l e f = has_seven (x.regs 0 11) (x.base 0 0) seven ∙ byte_is b e
      where
        byte_is : (b : ℕ) → Some 7 ≡ Some b → 7 ≡ b
        byte_is b e = (cc)
    has (suc a) b l e f = absurd (let g : (suc a == 0) ≡ false = grind (arith, nat_tests) in let h : false ≡ true = sym g ∙ f in cc)

    gives : Gives c (with_mem x (filled (x.regs 0 11) (x.base 0 0)))
    gives zero l = sym (at_itself (x.regs 0 11) (x.base 0 0))
    gives (suc j) l = absurd (omega arith)

-- so cells tell the term
pub tells : TellsCells w t asked c
tells = record { formed = formed; same = same; sound = sound; complete = complete; gates = omega arith; reads = omega arith }
