-- Memories that get one piece more.
use Rattle.std.proofs.Common.{◌≡◌, inl, inr, ℕ, ◌+◌, ◌<◌, ◌≤◌, ◌==◌, true, false, List, [], ◌∷◌, ◌++◌, length, length-append, refl, ap, sym, ◌∙◌, subst, arith}
use Rattle.std.specs.Prelude.{if◌then◌else◌}
use Rattle.std.proofs.lemmas.Bool.{cases_lt}
use Rattle.std.proofs.lemmas.Bool.Decides.{nat_tests}
use Rattle.std.proofs.lemmas.List.{get_or_append_left}
use Rattle.word_spec.specs.Words.{add}
use Rattle.word_spec.specs.Memory.{Memory}
use Rattle.term_spec.specs.Terms.{TermNode, HasWidth, term_word, select}
use Rattle.term_dag.proofs.ListLaws.{last, longer}
use Rattle.mem_cells.specs.declared.building.Build.{Build}
use Rattle.mem_cells.specs.declared.pieces.Split.{Split}
use Rattle.mem_cells.specs.declared.pieces.StoredByte.{StoredByte}
use Rattle.mem_cells.specs.declared.pieces.Piece.{Piece}
use Rattle.mem_cells.specs.declared.pieces.Piece.TheVariants.{Entry, Store, Take, Join}
use Rattle.mem_cells.specs.Pieces.{puts, piece_byte, piece_at, stored_at, taken_over, IsStored, IsPiece, ArePieces, IsRising}
use Rattle.mem_cells.specs.Building.{AreMemories}
use Rattle.mem_cells.proofs.Chains.{piece_rises}
use Rattle.mem_cells.proofs.Puts.{puts_same}

-- a list of stored bytes begins with another
pub record IsLonger (stored others : List StoredByte) : Type 0 where
  pub count : length stored ≤ length others
  pub same : (i : ℕ) → i < length stored → stored_at others i ≡ stored_at stored i

pub longer_same : (stored : List StoredByte) → IsLonger stored stored
longer_same stored = record { count = omega arith; same = λ i l. refl }

pub longer_by : (stored more others : List StoredByte) → others ≡ stored ++ more → IsLonger stored others
longer_by stored more others e = record {
  count = omega (arith, ap length e, length-append stored more);
  same = λ i l. ap (λ z. stored_at z i) e ∙ get_or_append_left stored more (record { address = record { 0 = 0 }; value = record { 0 = 0 } }) i l;
}

-- the byte of a piece hangs on the pieces below
below_same : (w : ℕ → ℕ) (m : ℕ → Memory) (stored : List StoredByte) (q : ℕ) (z : Piece) (f g : ℕ → ℕ) (i : ℕ) → IsRising q z → ((p : ℕ) → p < q → f p ≡ g p) →
    piece_byte w m f stored z i ≡ piece_byte w m g stored z i
below_same w m stored q (Entry part) f g i h e = refl
below_same w m stored q (Store p s k n) f g i h e = ap (puts i (λ j. w (stored_at stored (k + j)).address.0)
    (λ j. w (stored_at stored (k + j)).value.0) n) (e p h)
below_same w m stored q (Take p t) f g i h e = ap (λ z. taken_over w m t z i) (e p h)
below_same w m stored q (Join c a b) f g i h e = ap (λ z. select (w c.0) z (f b)) (e a h.0) ∙ ap (select (w c.0) (g a)) (e b h.1)

-- and on bytes that are stored already
stored_same : (build : Build) (w : ℕ → ℕ) (m : ℕ → Memory) (f : ℕ → ℕ) (stored others : List StoredByte) (q : ℕ) (z : Piece) (i : ℕ) →
    IsLonger stored others → IsPiece build stored q z →
    piece_byte w m f others z i ≡ piece_byte w m f stored z i
stored_same build w m f stored others q (Entry part) i l h = refl
stored_same build w m f stored others q (Store p s k n) i l h =
    puts_same i _ _ _ _ n (f p)
    (λ j b. ap (λ z. w z.address.0) (l.same (k + j) (omega (arith, h.1.are.within, b))))
    (λ j b. ap (λ z. w z.value.0) (l.same (k + j) (omega (arith, h.1.are.within, b))))
stored_same build w m f stored others q (Take p t) i l h = refl
stored_same build w m f stored others q (Join c a b) i l h = refl

bytes_longer : (nodes : List TermNode) (stored others : List StoredByte) (s : Split) (f n : ℕ) → IsLonger stored others → IsStored nodes stored s f n →
    IsStored nodes others s f n
bytes_longer nodes stored others s f n e h = record {
  are = record {
    few = h.are.few;
    within = omega (arith, h.are.within, e.count);
    addresses = λ k l. subst (λ (z : StoredByte). HasWidth nodes 32 z.address.0) (sym (e.same (f + k) (omega (arith, h.are.within, l)))) (h.are.addresses k l);
    values = λ k l. subst (λ (z : StoredByte). HasWidth nodes 8 z.value.0) (sym (e.same (f + k) (omega (arith, h.are.within, l)))) (h.are.values k l);
  };
  base = h.base;
  offset = h.offset;
  places = λ x i k l.
      subst (λ (z : StoredByte). term_word x nodes z.address.0
      ≡ add 32 (add 32 (term_word x nodes s.base.0) s.offset) k) (sym (e.same (f + k) (omega (arith, h.are.within, l)))) (h.places x i k l);
}

piece_longer : (build : Build) (stored others : List StoredByte) (q : ℕ) (z : Piece) → IsLonger stored others → IsPiece build stored q z →
    IsPiece build others q z
piece_longer build stored others q (Entry part) e h = h
piece_longer build stored others q (Store m s f n) e h = (h.0, bytes_longer build.dag stored others s f n e h.1)
piece_longer build stored others q (Take m t) e h = h
piece_longer build stored others q (Join c a b) e h = h

pub piece_old : (pieces : List Piece) (p : Piece) (q : ℕ) → q < length pieces → piece_at (pieces ++ p ∷ []) q ≡ piece_at pieces q
piece_old pieces p q l = get_or_append_left pieces (p ∷ []) (Entry 0) q l

piece_last : (pieces : List Piece) (p : Piece) (q : ℕ) → q ≡ length pieces → piece_at (pieces ++ p ∷ []) q ≡ p
piece_last pieces p q e = ap (piece_at (pieces ++ p ∷ [])) e ∙ last pieces p (Entry 0)

-- pieces with one more
pub pieces_pushed : (build : Build) (stored others : List StoredByte) (pieces : List Piece) (p : Piece) → IsLonger stored others →
    ArePieces build stored pieces → IsPiece build others (length pieces) p →
    ArePieces build others (pieces ++ p ∷ [])
pieces_pushed build stored others pieces p e h k q l = elim (cases_lt q (length pieces)) [
  | inl j ↦ subst (IsPiece build others q) (sym (piece_old pieces p q j)) (piece_longer build stored others q (piece_at pieces q) e (h q j))
  | inr j ↦ (
      let a : q ≡ length pieces = omega (arith, j, l, longer pieces p) in
      subst (IsPiece build others q) (sym (piece_last pieces p q a)) (subst (λ (z : ℕ). IsPiece build others z p) (sym a) k))
]

-- memories with one more
abbrev pub and_memory : (ℕ → Memory) → (n : ℕ) → Memory → ℕ → Memory
and_memory m n new q i = if q == n then new i else m q i

pub other_memory : (m : ℕ → Memory) (n : ℕ) (new : Memory) (q i : ℕ) → q < n → and_memory m n new q i ≡ m q i
other_memory m n new q i l = ap (λ t. if t then new i else m q i) (let e : (q == n) ≡ false = grind (arith, nat_tests) in e)

pub that_memory : (m : ℕ → Memory) (n : ℕ) (new : Memory) (q i : ℕ) → q ≡ n → and_memory m n new q i ≡ new i
that_memory m n new q i e = ap (λ t. if t then new i else m q i) (let f : (q == n) ≡ true = grind (arith, nat_tests) in f)

-- the memory of a piece, over those of others
abbrev pub memory_of : (ℕ → ℕ) → (ℕ → Memory) → (ℕ → Memory) → List StoredByte → Piece → Memory
memory_of w m memories stored p i = piece_byte w m (λ q. memories q i) stored p i

pub memories_pushed : (build : Build) (w : ℕ → ℕ) (m : ℕ → Memory) (stored others : List StoredByte) (pieces : List Piece) (p : Piece) (memories : ℕ →
    Memory) → IsLonger stored others →
    ArePieces build stored pieces → IsPiece build others (length pieces) p → AreMemories w m stored pieces memories →
    AreMemories w m others (pieces ++ p ∷ []) (and_memory memories (length pieces) (memory_of w m memories others p))
memories_pushed build w m stored others pieces p memories e h k f i l q b =
    let new = memory_of w m memories others p in
    elim (cases_lt q (length pieces)) [
      | inl j ↦ other_memory memories (length pieces) new q i j ∙ f i l q j
          ∙ below_same w m stored q (piece_at pieces q) (λ z. memories z i)
          (λ z. and_memory memories (length pieces) new z i) i (piece_rises build stored q (piece_at pieces q) (h q j))
          (λ z a. sym (other_memory memories (length pieces) new z i (omega (arith, a, j))))
          ∙ sym (stored_same build w m (λ z. and_memory memories (length pieces) new z i) stored others q (piece_at pieces q) i e (h q j))
          ∙ ap (λ y. piece_byte w m (λ z. and_memory memories (length pieces) new z i) others y i) (sym (piece_old pieces p q j))
      | inr j ↦ (
          let a : q ≡ length pieces = omega (arith, j, b, longer pieces p) in
          that_memory memories (length pieces) new q i a
          ∙ below_same w m others (length pieces) p (λ z. memories z i)
          (λ z. and_memory memories (length pieces) new z i) i (piece_rises build others (length pieces) p k)
          (λ z c. sym (other_memory memories (length pieces) new z i c))
          ∙ ap (λ y. piece_byte w m (λ z. and_memory memories (length pieces) new z i) others y i) (sym (piece_last pieces p q a)))
    ]
