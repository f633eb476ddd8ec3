-- Each kind of term as cells.
use Rattle.std.proofs.Common.{◌≡◌, Bool, ℕ, zero, suc, ◌+◌, ◌*◌, ◌^◌, ◌<◌, ◌≤◌, List, [], ◌∷◌, ◌++◌, length, take, refl, ap, sym, ◌∙◌, subst, arith}
use Rattle.std.specs.Prelude.{sum_by, slice_index, nat_lt, if◌then◌else◌, Contains}
use Rattle.std.specs.List.{AllByRecursion}
use Rattle.std.proofs.lemmas.List.{get_or-take}
use Rattle.std.proofs.lemmas.List.Elements.{Contains-get_or}
use Rattle.std.proofs.lemmas.List.Sums.{sum_by-append}
use mathlib.Core.Path.{fun_ext}
use Rattle.word_spec.specs.Words.{add, sub}
use Rattle.word_spec.specs.Memory.{Memory, Endian, number, load, store, byte_of}
use Rattle.term_spec.specs.Terms.{TermReading, InRange, TermNode, RegisterNode, FlagNode, ChoiceNode, BaseNode, MemoryNode, ConstantNode, BinaryNode, NotNode, SelectNode, ExtractNode, ConcatNode, ExtendNode, LoadNode, StoreNode, JoinNode, TakeNode, AreTyped, IsTypedOver, HasWidth, node_at, node_value, values_from, value_at, width_of, word_value, select, is_taken_at, take_bytes, term_word, term_value, term_gates, term_loads, own_gates, own_loads}
use Rattle.term_spec.specs.Cells.{IsOfWords}
use Rattle.frame_spec.specs.FrameWalk.{UnrolledProgram}
use Rattle.frame_terms.specs.PassiveFrames.{IsNamedBelow, AreNamedBelow, NamesMemory, TakesMemory}
use Rattle.question_form.specs.declared.questions.Question.{Question}
use Rattle.question_form.specs.FrameQuestions.{frame_of_question, heads_of_question}
use Rattle.term_dag.specs.declared.nodes.Term.{Term}
use Rattle.term_dag.specs.Made.{operands, moved}
use Rattle.term_dag.proofs.ListLaws.{longer, unfolds, typed_before, typed_here, place_before}
use Rattle.term_dag.proofs.Ranges.{word_fits, word_only, result_is_width}
use Rattle.term_dag.proofs.Copies.{moved_typed, moved_value, moved_width, moved_gates, moved_loads}
use Rattle.mem_cells.specs.declared.building.Build.{Build}
use Rattle.mem_cells.specs.declared.pieces.StoredByte.{StoredByte}
use Rattle.mem_cells.specs.declared.pieces.Piece.{Piece}
use Rattle.mem_cells.specs.declared.pieces.Piece.TheVariants.{Entry, Store, Take, Join}
use Rattle.mem_cells.specs.Pieces.{puts, link, stored_at, piece_gates, IsStored, IsPiece}
use Rattle.mem_cells.specs.Parts.{frame_of_build, heads_of_build, HasPart}
use Rattle.mem_cells.specs.Building.{read_places, IsBuilt, Grown, GivesAll, IsWord, IsOfMemory, IsStore, IsTake, IsOwnNode}
use Rattle.mem_cells.specs.Lowering.{source_of, Mean, Stands, AreLowered, IsNext, IsNextOf}
use Rattle.mem_cells.proofs.Growing.{grown_none, grown_word, named_more, named_moved}
use Rattle.mem_cells.proofs.Chains.{pieces_kept}
use Rattle.mem_cells.proofs.LoadedBytes.{memories_later}
use Rattle.mem_cells.proofs.TakenBytes.{among_is}
use Rattle.mem_cells.proofs.PushedPieces.{longer_same, longer_by, pieces_pushed, and_memory, other_memory, that_memory, memory_of, memories_pushed}
use Rattle.mem_cells.proofs.Steps.{word_stands, memory_stands, costs_next}

-- the operands of a word that is no load are words
operand_words : (ns : List TermNode) (P : ℕ → Type 0) (n : TermNode) → IsTypedOver ns n → 1 ≤ width_of n → own_loads n ≡ 0 →
    ((a : ℕ) → a < length ns → 1 ≤ width_of (node_at ns a) → P a) →
    AllByRecursion P (operands n)
operand_words ns P (RegisterNode part r) h s l f = tt
operand_words ns P (FlagNode part r) h s l f = tt
operand_words ns P (ChoiceNode i) h s l f = tt
operand_words ns P (BaseNode part j) h s l f = tt
operand_words ns P (MemoryNode part) h s l f = tt
operand_words ns P (ConstantNode w v) h s l f = tt
operand_words ns P (BinaryNode o w a b) h s l f = (f a h.1.0 (omega (arith, h.0.0, h.1.1)), (f b h.2.0 (omega (arith, h.0.0, h.2.1)), tt))
operand_words ns P (NotNode w a) h s l f = (f a h.1.0 (omega (arith, h.0.0, h.1.1)), tt)
operand_words ns P (SelectNode w c a b) h s l f = (
  f c h.1.0 (omega (arith, h.1.1)),
  (f a h.2.0 (omega (arith, h.0.0, h.2.1)), (f b h.3.0 (omega (arith, h.0.0, h.3.1)), tt)),
)
operand_words ns P (ExtractNode hi lo a) h s l f = (f a h.2 (omega (arith, h.1)), tt)
operand_words ns P (ConcatNode high low a b) h s l f = (f a h.3.0 (omega (arith, h.0.0, h.3.1)), (f b h.4.0 (omega (arith, h.1.0, h.4.1)), tt))
operand_words ns P (ExtendNode g n m a) h s l f = (f a h.3.0 (omega (arith, h.0.0, h.3.1)), tt)
operand_words ns P (LoadNode n e m a) h s l f = absurd (omega (arith, h.0.0, l))
operand_words ns P (StoreNode n e m a v) h s l f = absurd (omega (arith, s))
operand_words ns P (JoinNode c a b) h s l f = absurd (omega (arith, s))
operand_words ns P (TakeNode n m a p) h s l f = absurd (omega (arith, s))

-- a node over words is a word and no load
word_facts : (ns : List TermNode) (n : TermNode) → IsTypedOver ns n → IsOfWords n → (1 ≤ width_of n) × (own_loads n ≡ 0)
word_facts ns (RegisterNode part r) h w = (omega arith, refl)
word_facts ns (FlagNode part f) h w = (omega arith, refl)
word_facts ns (ChoiceNode i) h w = (omega arith, refl)
word_facts ns (BaseNode part j) h w = (omega arith, refl)
word_facts ns (MemoryNode part) h w = absurd w
word_facts ns (ConstantNode a v) h w = (h.0.0, refl)
word_facts ns (BinaryNode o a b c) h w = ((result_is_width o a h.0.0 h.0.1).0, refl)
word_facts ns (NotNode a b) h w = (h.0.0, refl)
word_facts ns (SelectNode a b c d) h w = (h.0.0, refl)
word_facts ns (ExtractNode hi lo a) h w = (omega (arith, h.0), refl)
word_facts ns (ConcatNode high low a b) h w = (omega (arith, h.0.0), refl)
word_facts ns (ExtendNode g n m a) h w = (omega (arith, h.0.0, h.1), refl)
word_facts ns (LoadNode n e m a) h w = absurd w
word_facts ns (StoreNode n e m a v) h w = absurd w
word_facts ns (JoinNode c a b) h w = absurd w
word_facts ns (TakeNode n m a p) h w = absurd w

pub next_word : (ns : List TermNode) (d : ℕ) (u : UnrolledProgram) (heads : Bool) (n : TermNode) → AreTyped ns → IsNext u heads ns d n → IsOfWords n →
    (1 ≤ width_of n) ×
    (own_loads n ≡ 0)
next_word ns d u heads n h x w = word_facts ns n (typed_here ns d n h x.within x.is) w

-- they are words before it
words_before : (ns : List TermNode) (d : ℕ) (P : ℕ → Type 0) (n : TermNode) → AreTyped ns → d < length ns → n ≡ node_at ns d → 1 ≤ width_of n →
    own_loads n ≡ 0 →
    ((a : ℕ) → a < d → 1 ≤ width_of (node_at ns a) → P a) → AllByRecursion P (operands n)
words_before ns d P n h l e s o f =
    operand_words (take d ns) P n (typed_before ns d n h l e) s o
    (λ a k w.
    let b = place_before ns d (width_of (node_at (take d ns) a)) a l (k, refl) in
    let same : width_of (node_at (take d ns) a) ≡ width_of (node_at ns a) = ap width_of (get_or-take d ns a (MemoryNode 0) b) in
    f a b (omega (arith, w, same)))

-- words stand for them
pub operands_there : (ns : List TermNode) (d : ℕ) (b : Build) (words : List Term) (numbers : List ℕ) (stored : List StoredByte) (pieces : List Piece)
    (u : UnrolledProgram) (heads : Bool) (n : TermNode) →
    AreLowered ns d b words numbers stored pieces → IsNext u heads ns d n → 1 ≤ width_of n → own_loads n ≡ 0 → AllByRecursion (λ a. a < length words)
    (operands n)
operands_there ns d b words numbers stored pieces u heads n h x w o =
    words_before ns d (λ a. a < length words) n h.typed x.within x.is w o (λ a l k. omega (arith, l, h.stands.word_count))

moved_own : (ns : List TermNode) (d : ℕ) (b : Build) (words : List Term) (numbers : List ℕ) (stored : List StoredByte) (pieces : List Piece)
    (u : UnrolledProgram) (heads : Bool) (n : TermNode) →
    AreLowered ns d b words numbers stored pieces → IsNext u heads ns d n → 1 ≤ width_of n → own_loads n ≡ 0 →
    IsOwnNode u heads (length (read_places b)) b.dag (moved (link words) n)
moved_own ns d b words numbers stored pieces u heads n h x w o = record {
  typed = moved_typed ns b.dag (link words) n (typed_here ns d n h.typed x.within x.is)
      (words_before ns d (λ a. HasWidth b.dag (width_of (node_at ns a)) (link words a)) n h.typed x.within x.is w o (λ a l k. h.stands.widths a l k));
  word = omega (arith, moved_width (link words) n, w);
  loads = moved_loads (link words) n ∙ o;
  named = named_moved u heads (length (read_places b)) (link words) n (named_more u heads 0 (length (read_places b)) n (omega arith) x.named);
}

-- so the node over these words may be made
pub word_own : (ns : List TermNode) (d : ℕ) (b : Build) (words : List Term) (numbers : List ℕ) (stored : List StoredByte) (pieces : List Piece)
    (u : UnrolledProgram) (heads : Bool) (n m : TermNode) →
    AreLowered ns d b words numbers stored pieces → IsNext u heads ns d n → 1 ≤ width_of n → own_loads n ≡ 0 → m ≡ moved (link words) n →
    IsOwnNode u heads (length (read_places b)) b.dag m
word_own ns d b words numbers stored pieces u heads n m h x w o e = subst (IsOwnNode u heads (length (read_places b)) b.dag) (sym e)
    (moved_own ns d b words numbers stored pieces u heads n h x w o)

-- a word that stands for a word has its value
there : (ns : List TermNode) (d : ℕ) (b : Build) (words : List Term) (numbers : List ℕ) (stored : List StoredByte) (pieces : List Piece) (x : TermReading)
    (m : ℕ → Memory) →
    AreLowered ns d b words numbers stored pieces → Mean x ns d (term_word x b.dag) words numbers stored pieces m →
    (a : ℕ) → a < d → 1 ≤ width_of (node_at ns a) → term_value x b.dag (link words a) ≡ term_value x ns a
there ns d b words numbers stored pieces x m h y a l k =
    word_only x b.dag (width_of (node_at ns a)) (link words a) h.stands.built.typed k (h.stands.widths a l k)
    ∙ ap word_value (y.words a l k)
    ∙ sym (word_only x ns (width_of (node_at ns a)) a h.typed k (omega (arith, l, h.few), refl))

-- one more word that is no load
pub word_lowered : (ns : List TermNode) (d : ℕ) (a b : Build) (words more : List Term) (numbers others : List ℕ) (stored : List StoredByte)
    (pieces : List Piece) (u : UnrolledProgram) (heads : Bool) (n m : TermNode) (t : Term) (k : ℕ) →
    AreLowered ns d a words numbers stored pieces → IsNext u heads ns d n → 1 ≤ width_of n → own_loads n ≡ 0 → m ≡ moved (link words) n → Grown a b
    (own_gates m) 0 →
    IsWord b.dag (width_of m) t.0 (λ x. (node_value x (values_from x [] a.dag) m).word) → more ≡ words ++ t ∷ [] → others ≡ numbers ++ k ∷ [] →
    AreLowered ns (d + 1) b more others stored pieces
word_lowered ns d a b words more numbers others stored pieces u heads n m t k h x w o e p v ew en =
    let width : width_of m ≡ width_of (node_at ns d) = ap width_of e ∙ moved_width (link words) n ∙ ap width_of x.is in
    record {
      typed = h.typed;
      few = omega (arith, x.within);
      stands = subst (λ (z : List Term). Stands ns (d + 1) b z others stored pieces) (sym ew)
          (subst (λ (z : List ℕ). Stands ns (d + 1) b (words ++ t ∷ []) z stored pieces) (sym en)
          (word_stands ns d a b (own_gates m) 0 words numbers stored pieces t k p h.stands (omega (arith, w, ap width_of x.is)) (subst
          (λ (z : ℕ). HasWidth b.dag z t.0) width v.place)
          (λ y i g f c.
          v.value y i
          ∙ ap (λ z. (node_value y (values_from y [] a.dag) z).word) e
          ∙ ap (λ z. z.word)
          (moved_value y (values_from y [] ns) (values_from y [] a.dag) (link words) n
          (words_before ns d (λ q. value_at (values_from y [] a.dag) (link words q)
          ≡ value_at (values_from y [] ns) q) n h.typed x.within x.is w o (there ns d a words numbers stored pieces y f h c)))
          ∙ ap (λ z. (node_value y (values_from y [] ns) z).word) x.is
          ∙ ap (λ z. z.word) (sym (unfolds y ns d h.typed x.within)))));
      costs = costs_next ns d n (term_gates a.dag) (length (read_places a)) (sum_by piece_gates pieces) (term_gates b.dag) (length (read_places b))
          (sum_by piece_gates pieces) x.within x.is h.costs (omega (arith, p.gates, ap own_gates e, moved_gates (link words) n)) (omega (arith, p.reads))
          (omega arith);
    }

of_node : (x : TermReading) (ns : List TermNode) (d : ℕ) (n : TermNode) → AreTyped ns → d < length ns → n ≡ node_at ns d →
    term_value x ns d ≡ node_value x (values_from x [] ns) n
of_node x ns d n h l e = unfolds x ns d h l ∙ ap (node_value x (values_from x [] ns)) (sym e)

-- the operands of a load, as they stand
pub record IsLoadOf (ns : List TermNode) (d : ℕ) (n m a : ℕ) : Type 0 where
  pub bytes : (1 ≤ n) × (n ≤ 8)
  pub memory : (m < d) × (width_of (node_at ns m) ≡ 0)
  pub address : (a < d) × (width_of (node_at ns a) ≡ 32)

at_before : (ns : List TermNode) (d w t : ℕ) → d < length ns → HasWidth (take d ns) w t → (t < d) × (width_of (node_at ns t) ≡ w)
at_before ns d w t l h = let b = place_before ns d w t l h in (b, sym (ap width_of (get_or-take d ns t (MemoryNode 0) b)) ∙ h.1)

pub load_of : (ns : List TermNode) (d : ℕ) (u : UnrolledProgram) (heads : Bool) (n m a : ℕ) (e : Endian) → AreTyped ns →
    IsNext u heads ns d (LoadNode n e m a) → IsLoadOf ns d n m a
load_of ns d u heads n m a e h x =
    let t = typed_before ns d (LoadNode n e m a) h x.within x.is in
    record { bytes = t.0; memory = at_before ns d 0 m x.within t.1; address = at_before ns d 32 a x.within t.2 }

number_same : (e : Endian) (n : ℕ) (f g : ℕ → ℕ) → ((k : ℕ) → f k ≡ g k) → number e n f ≡ number e n g
number_same e n f g h = ap (number e n) (fun_ext h)

load_same : (e : Endian) (n a b : ℕ) (f g : Memory) → a ≡ b → ((i : ℕ) → i < 2 ^ 32 → f i ≡ g i) → load e n f a ≡ load e n g b
load_same e n a b f g q h =
    number_same e n (λ k. f (add 32 a k)) (λ k. g (add 32 a k)) (λ k. h (add 32 a k) (let l : add 32 a k < 2 ^ 32 = omega arith in l)) ∙ ap
    (λ z. load e n g z) q

-- one more load
pub load_lowered : (ns : List TermNode) (d : ℕ) (a b : Build) (words more : List Term) (numbers others : List ℕ) (stored : List StoredByte)
    (pieces : List Piece) (u : UnrolledProgram) (heads : Bool) (n m p : ℕ) (e : Endian) (memory at : ℕ)
    (t : Term) (k : ℕ) →
    AreLowered ns d a words numbers stored pieces → IsNext u heads ns d (LoadNode n e m p) → memory ≡ slice_index numbers m → at ≡ link words p →
    Grown a b (n * (64 + sum_by piece_gates pieces)) n → IsOfMemory a b stored pieces memory (8 * n) t.0 (λ x f. load e n f (term_word x a.dag at)) →
    more ≡ words ++ t ∷ [] → others ≡ numbers ++ k ∷ [] → AreLowered ns (d + 1) b more others stored pieces
load_lowered ns d a b words more numbers others stored pieces u heads n m p e memory at t k h x em ea g v ew en =
    let o = load_of ns d u heads n m p e h.typed x in
    let width : 8 * n ≡ width_of (node_at ns d) = ap width_of x.is in
    record {
      typed = h.typed;
      few = omega (arith, x.within);
      stands = subst (λ (z : List Term). Stands ns (d + 1) b z others stored pieces) (sym ew)
          (subst (λ (z : List ℕ). Stands ns (d + 1) b (words ++ t ∷ []) z stored pieces) (sym en)
          (word_stands ns d a b (n * (64 + sum_by piece_gates pieces)) n words numbers stored pieces t k g h.stands (omega (arith, o.bytes.0, width)) (subst
          (λ (z : ℕ). HasWidth b.dag z t.0) width v.place)
          (λ y i z f c.
          v.value y i z f c.are
          ∙ load_same e n (term_word y a.dag at) (term_word y ns p) (f memory) (term_value y ns m).bytes
          (ap (term_word y a.dag) ea ∙ c.words p o.address.0 (omega (arith, o.address.1)))
          (λ j l. ap (λ q. f q j) em ∙ c.bytes m o.memory.0 o.memory.1 j l)
          ∙ ap (λ q. q.word) (sym (of_node y ns d (LoadNode n e m p) h.typed x.within x.is)))));
      costs = costs_next ns d (LoadNode n e m p) (term_gates a.dag) (length (read_places a)) (sum_by piece_gates pieces) (term_gates b.dag)
          (length (read_places b)) (sum_by piece_gates pieces) x.within x.is h.costs (omega (arith, g.gates)) (omega (arith, g.reads)) (omega arith);
    }

-- the operands of a store, as they stand
pub record IsStoreOf (ns : List TermNode) (d : ℕ) (n m a v : ℕ) : Type 0 where
  pub bytes : (1 ≤ n) × (n ≤ 8)
  pub memory : (m < d) × (width_of (node_at ns m) ≡ 0)
  pub address : (a < d) × (width_of (node_at ns a) ≡ 32)
  pub value : (v < d) × (width_of (node_at ns v) ≡ 8 * n)

pub store_of : (ns : List TermNode) (d : ℕ) (u : UnrolledProgram) (heads : Bool) (n m a v : ℕ) (e : Endian) → AreTyped ns →
    IsNext u heads ns d (StoreNode n e m a v) →
    IsStoreOf ns d n m a v
store_of ns d u heads n m a v e h x =
    let t = typed_before ns d (StoreNode n e m a v) h x.within x.is in
    record { bytes = t.0; memory = at_before ns d 0 m x.within t.1; address = at_before ns d 32 a x.within t.2; value = at_before ns d (8 * n) v x.within t.3 }

store_piece : (a b : Build) (stored : List StoredByte) (m at v n count : ℕ) (e : Endian) (p : Piece) → m < count → IsStore a b stored m at v n e p →
    IsPiece b stored count p
store_piece a b stored m at v n count e (Entry part) l h = absurd h
store_piece a b stored m at v n count e (Store q s f k) l h =
    (omega (arith, l, h.0), subst (λ (z : ℕ). IsStored b.dag stored s f z) (sym h.1) h.2.stored_bytes)
store_piece a b stored m at v n count e (Take q t) l h = absurd h
store_piece a b stored m at v n count e (Join c q r) l h = absurd h

store_gates : (a b : Build) (stored : List StoredByte) (m at v n : ℕ) (e : Endian) (p : Piece) → IsStore a b stored m at v n e p → piece_gates p ≡ 40 * n
store_gates a b stored m at v n e (Entry part) h = absurd h
store_gates a b stored m at v n e (Store q s f k) h = ap (λ z. 40 * z) h.1
store_gates a b stored m at v n e (Take q t) h = absurd h
store_gates a b stored m at v n e (Join c q r) h = absurd h

store_memory : (a b : Build) (stored : List StoredByte) (m at v n : ℕ) (e : Endian) (p : Piece) (x : TermReading) (f : ℕ → Memory) (i : ℕ) → InRange x →
    i < 2 ^ 32 → IsStore a b stored m at v n e p →
    memory_of (term_word x b.dag) x.mem f stored p i ≡ store e n (f m) (term_word x a.dag at) (term_word x a.dag v) i
store_memory a b stored m at v n e (Entry part) x f i r l h = absurd h
store_memory a b stored m at v n e (Store q s g k) x f i r l h =
    ap (λ z. puts i (λ j. term_word x b.dag (stored_at stored (g + j)).address.0) (λ j. term_word x b.dag (stored_at stored (g + j)).value.0) z (f q i)) h.1
    ∙ ap (λ z. puts i (λ j. term_word x b.dag (stored_at stored (g + j)).address.0) (λ j. term_word x b.dag (stored_at stored (g + j)).value.0) n (f z i)) h.0
    ∙ h.2.bytes x r i l (f m)
store_memory a b stored m at v n e (Take q t) x f i r l h = absurd h
store_memory a b stored m at v n e (Join c q r') x f i r l h = absurd h

store_same : (e : Endian) (n a b v w i : ℕ) (f g : Memory) → a ≡ b → v ≡ w → f i ≡ g i → store e n f a v i ≡ store e n g b w i
store_same e n a b v w i f g p q h =
    ap (λ z. if nat_lt (sub 32 i a) n then byte_of e n v (sub 32 i a) else z) h ∙ ap (λ z. store e n g z v i) p ∙ ap (λ z. store e n g b z i) q

-- one more store
pub store_lowered : (ns : List TermNode) (d : ℕ) (a b : Build) (words more : List Term) (numbers others : List ℕ) (stored after rest : List StoredByte)
    (pieces longest : List Piece) (u : UnrolledProgram) (heads : Bool)
    (n m p v : ℕ) (e : Endian) (memory at value k : ℕ) (piece : Piece) (t : Term) →
    AreLowered ns d a words numbers stored pieces → IsNext u heads ns d (StoreNode n e m p v) → memory ≡ slice_index numbers m → at ≡ link words p →
    value ≡ link words v →
    Grown a b (n * 64) 0 → after ≡ stored ++ rest → IsStore a b after memory at value n e piece → k ≡ length pieces →
    more ≡ words ++ t ∷ [] → others ≡ numbers ++ k ∷ [] → longest ≡ pieces ++ piece ∷ [] → AreLowered ns (d + 1) b more others after longest
store_lowered ns d a b words more numbers others stored after rest pieces longest u heads n m p v e memory at value k piece t h x em ea ev g es s ek ew en ep =
    let o = store_of ns d u heads n m p v e h.typed x in
    let in_range : memory < length pieces = omega (arith, em, h.stands.within m o.memory.0 o.memory.1) in
    let y = longer_by stored rest after es in
    let is = store_piece a b after memory at value n (length pieces) e piece in_range s in
    let old = pieces_kept a b (n * 64) 0 stored pieces g h.stands.pieces in
    let count = longer pieces piece in
    record {
      typed = h.typed;
      few = omega (arith, x.within);
      stands = subst (λ (z : List Term). Stands ns (d + 1) b z others after longest) (sym ew)
          (subst (λ (z : List ℕ). Stands ns (d + 1) b (words ++ t ∷ []) z after longest) (sym en)
          (subst (λ (z : List Piece). Stands ns (d + 1) b (words ++ t ∷ []) (numbers ++ k ∷ []) after z) (sym ep)
          (memory_stands ns d a b (n * 64) 0 words numbers stored after pieces (pieces ++ piece ∷ []) t k g h.stands (sym (ap width_of x.is))
          (pieces_pushed b stored after pieces piece y old is) (omega (arith, count)) (omega (arith, count, ek))
          (λ z i w f c.
          let new = memory_of (term_word z b.dag) z.mem f after piece in (
            and_memory f (length pieces) new,
            memories_pushed b (term_word z b.dag) z.mem stored after pieces piece f y old is
                (memories_later a b (n * 64) 0 z stored pieces f g h.stands.pieces c.are),
            λ q j l. other_memory f (length pieces) new q j l,
            λ j l.
                that_memory f (length pieces) new k j ek
                ∙ store_memory a b after memory at value n e piece z f j i l s
                ∙ store_same e n (term_word z a.dag at) (term_word z ns p) (term_word z a.dag value) (term_word z ns v) j (f memory) (term_value z ns m).bytes
                (ap (term_word z a.dag) ea ∙ c.words p o.address.0 (omega (arith, o.address.1)))
                (ap (term_word z a.dag) ev ∙ c.words v o.value.0 (omega (arith, o.value.1, o.bytes.0)))
                (ap (λ q. f q j) em ∙ c.bytes m o.memory.0 o.memory.1 j l)
                ∙ ap (λ q. q.bytes j) (sym (of_node z ns d (StoreNode n e m p v) h.typed x.within x.is)),
          )))));
      costs = costs_next ns d (StoreNode n e m p v) (term_gates a.dag) (length (read_places a)) (sum_by piece_gates pieces) (term_gates b.dag)
          (length (read_places b)) (sum_by piece_gates longest) x.within x.is h.costs (omega (arith, g.gates)) (omega (arith, g.reads))
          (omega (arith, ap (sum_by piece_gates) ep, sum_by-append piece_gates pieces (piece ∷ []), store_gates a b after memory at value n e piece s));
    }

-- the operands of a join, as they stand
pub record IsJoinOf (ns : List TermNode) (d : ℕ) (c m n : ℕ) : Type 0 where
  pub condition : (c < d) × (width_of (node_at ns c) ≡ 1)
  pub when_true : (m < d) × (width_of (node_at ns m) ≡ 0)
  pub when_false : (n < d) × (width_of (node_at ns n) ≡ 0)

pub join_of : (ns : List TermNode) (d : ℕ) (u : UnrolledProgram) (heads : Bool) (c m n : ℕ) → AreTyped ns → IsNext u heads ns d (JoinNode c m n) →
    IsJoinOf ns d c m n
join_of ns d u heads c m n h x =
    let t = typed_before ns d (JoinNode c m n) h x.within x.is in
    record { condition = at_before ns d 1 c x.within t.0; when_true = at_before ns d 0 m x.within t.1; when_false = at_before ns d 0 n x.within t.2 }

select_same : (c d a b e f : ℕ) → c ≡ d → a ≡ b → e ≡ f → select c a e ≡ select d b f
select_same c d a b e f p q r = ap (λ z. select z a e) p ∙ ap (λ z. select d z e) q ∙ ap (select d b) r

-- one more join
pub join_lowered : (ns : List TermNode) (d : ℕ) (a : Build) (words more : List Term) (numbers others : List ℕ) (stored : List StoredByte)
    (pieces longest : List Piece) (u : UnrolledProgram) (heads : Bool)
    (c m n : ℕ) (condition : Term) (when_true when_false k : ℕ) (t : Term) →
    AreLowered ns d a words numbers stored pieces → IsNext u heads ns d (JoinNode c m n) → condition.0 ≡ link words c → when_true ≡ slice_index numbers m →
    when_false ≡ slice_index numbers n → k ≡ length pieces →
    more ≡ words ++ t ∷ [] → others ≡ numbers ++ k ∷ [] → longest ≡ pieces ++ Join condition when_true when_false ∷ [] →
    AreLowered ns (d + 1) a more others stored longest
join_lowered ns d a words more numbers others stored pieces longest u heads c m n condition when_true when_false k t h x ec et ef ek ew en ep =
    let o = join_of ns d u heads c m n h.typed x in
    let piece : Piece = Join condition when_true when_false in
    let y = longer_same stored in
    let g = grown_none a h.stands.built in
    let w : HasWidth a.dag 1 condition.0 =
    subst (λ (z : ℕ). HasWidth a.dag z condition.0) o.condition.1
    (subst (HasWidth a.dag (width_of (node_at ns c))) (sym ec) (h.stands.widths c o.condition.0 (omega (arith, o.condition.1)))) in
    let is : IsPiece a stored (length pieces) piece =
    (w, omega (arith, et, h.stands.within m o.when_true.0 o.when_true.1), omega (arith, ef, h.stands.within n o.when_false.0 o.when_false.1)) in
    let count = longer pieces piece in
    record {
      typed = h.typed;
      few = omega (arith, x.within);
      stands = subst (λ (z : List Term). Stands ns (d + 1) a z others stored longest) (sym ew)
          (subst (λ (z : List ℕ). Stands ns (d + 1) a (words ++ t ∷ []) z stored longest) (sym en)
          (subst (λ (z : List Piece). Stands ns (d + 1) a (words ++ t ∷ []) (numbers ++ k ∷ []) stored z) (sym ep)
          (memory_stands ns d a a 0 0 words numbers stored stored pieces (pieces ++ piece ∷ []) t k g h.stands (sym (ap width_of x.is))
          (pieces_pushed a stored stored pieces piece y h.stands.pieces is) (omega (arith, count)) (omega (arith, count, ek))
          (λ z i v f e.
          let new = memory_of (term_word z a.dag) z.mem f stored piece in (
            and_memory f (length pieces) new,
            memories_pushed a (term_word z a.dag) z.mem stored stored pieces piece f y h.stands.pieces is e.are,
            λ q j l. other_memory f (length pieces) new q j l,
            λ j l.
                that_memory f (length pieces) new k j ek
                ∙ select_same (term_word z a.dag condition.0) (term_word z ns c) (f when_true j) ((term_value z ns m).bytes j) (f when_false j)
                ((term_value z ns n).bytes j)
                (ap (term_word z a.dag) ec ∙ e.words c o.condition.0 (omega (arith, o.condition.1)))
                (ap (λ q. f q j) et ∙ e.bytes m o.when_true.0 o.when_true.1 j l)
                (ap (λ q. f q j) ef ∙ e.bytes n o.when_false.0 o.when_false.1 j l)
                ∙ ap (λ q. q.bytes j) (sym (of_node z ns d (JoinNode c m n) h.typed x.within x.is)),
          )))));
      costs = costs_next ns d (JoinNode c m n) (term_gates a.dag) (length (read_places a)) (sum_by piece_gates pieces) (term_gates a.dag)
          (length (read_places a)) (sum_by piece_gates longest) x.within x.is h.costs (omega arith) (omega arith)
          (omega (arith, ap (sum_by piece_gates) ep, sum_by-append piece_gates pieces (piece ∷ [])));
    }

-- the word that stands for a term has its width
pub address_there : (ns : List TermNode) (d : ℕ) (b : Build) (words : List Term) (numbers : List ℕ) (stored : List StoredByte) (pieces : List Piece)
    (w t at : ℕ) → AreLowered ns d b words numbers stored pieces →
    (t < d) × (width_of (node_at ns t) ≡ w) → 1 ≤ w → at ≡ link words t → HasWidth b.dag w at
address_there ns d b words numbers stored pieces w t at h p s e =
    subst (HasWidth b.dag w) (sym e) (subst (λ (z : ℕ). HasWidth b.dag z (link words t)) p.1 (h.stands.widths t p.0 (omega (arith, s, p.1))))

-- the operands of a take, as they stand
pub record IsTakeOf (ns : List TermNode) (d : ℕ) (n m a : ℕ) : Type 0 where
  pub some : 1 ≤ n
  pub memory : (m < d) × (width_of (node_at ns m) ≡ 0)
  pub address : (a < d) × (width_of (node_at ns a) ≡ 32)

pub take_of : (ns : List TermNode) (d : ℕ) (u : UnrolledProgram) (heads : Bool) (n m a part : ℕ) → AreTyped ns →
    IsNext u heads ns d (TakeNode n m a part) → IsTakeOf ns d n m a
take_of ns d u heads n m a part h x =
    let t = typed_before ns d (TakeNode n m a part) h x.within x.is in
    record { some = t.0; memory = at_before ns d 0 m x.within t.1; address = at_before ns d 32 a x.within t.2 }

-- what may be taken has a memory
pub taken_part : (u : UnrolledProgram) (heads : Bool) (part : ℕ) → TakesMemory u part → NamesMemory u heads part
taken_part u heads zero h = absurd h
taken_part u heads (suc zero) h = absurd h
taken_part u heads (suc (suc i)) h = h

take_piece : (a b : Build) (stored : List StoredByte) (m at n part count : ℕ) (p : Piece) → m < count → IsTake a b m at n part p → IsPiece b stored count p
take_piece a b stored m at n part count (Entry k) l h = absurd h
take_piece a b stored m at n part count (Store q s f k) l h = absurd h
take_piece a b stored m at n part count (Take q t) l h = (omega (arith, l, h.0), h.4)
take_piece a b stored m at n part count (Join c q r) l h = absurd h

take_gates : (a b : Build) (m at n part : ℕ) (p : Piece) → IsTake a b m at n part p → piece_gates p ≡ 40 * n
take_gates a b m at n part (Entry k) h = absurd h
take_gates a b m at n part (Store q s f k) h = absurd h
take_gates a b m at n part (Take q t) h = ap (λ z. 40 * z) h.1
take_gates a b m at n part (Join c q r) h = absurd h

take_memory : (a b : Build) (g r : ℕ) (stored : List StoredByte) (m at n part : ℕ) (p : Piece) (x : TermReading) (f : ℕ → Memory) (i : ℕ) → Grown a b g r →
    HasWidth a.dag 32 at → InRange x → i < 2 ^ 32 → IsTake a b m at n part p →
    memory_of (term_word x b.dag) x.mem f stored p i ≡ take_bytes n (term_word x a.dag at) (f m) (x.mem part) i
take_memory a b g r stored m at n part (Entry k) x f i o w v l h = absurd h
take_memory a b g r stored m at n part (Store q s k c) x f i o w v l h = absurd h
take_memory a b g r stored m at n part (Take q t) x f i o w v l h =
    let first = term_word x b.dag t.first.0 in
    let e : first ≡ term_word x a.dag at = ap (term_word x b.dag) h.2 ∙ grown_word a b g r x at o w.0 in
    ap (λ z. if z then x.mem t.part i else f q i) (among_is t.bytes first i l (word_fits x b.dag 32 t.first.0 v o.built.typed h.4.first))
    ∙ ap (λ z. if is_taken_at z first i then x.mem t.part i else f q i) h.1
    ∙ ap (λ z. if is_taken_at n z i then x.mem t.part i else f q i) e
    ∙ ap (λ z. if is_taken_at n (term_word x a.dag at) i then x.mem z i else f q i) h.3
    ∙ ap (λ z. if is_taken_at n (term_word x a.dag at) i then x.mem part i else f z i) h.0
take_memory a b g r stored m at n part (Join c q k) x f i o w v l h = absurd h

take_same : (n a b i : ℕ) (f g from : Memory) → a ≡ b → f i ≡ g i → take_bytes n a f from i ≡ take_bytes n b g from i
take_same n a b i f g from e h =
    ap (λ z. if is_taken_at n z i then from i else f i) e ∙ ap (λ z. if is_taken_at n b i then from i else z) h

-- one more take
pub take_lowered : (ns : List TermNode) (d : ℕ) (a b : Build) (words more : List Term) (numbers others : List ℕ) (stored : List StoredByte)
    (pieces longest : List Piece) (u : UnrolledProgram) (heads : Bool) (n m p part memory at k : ℕ) (piece : Piece) (t : Term) →
    AreLowered ns d a words numbers stored pieces → IsNext u heads ns d (TakeNode n m p part) → memory ≡ slice_index numbers m → at ≡ link words p →
    Grown a b 64 0 → IsTake a b memory at n part piece → k ≡ length pieces →
    more ≡ words ++ t ∷ [] → others ≡ numbers ++ k ∷ [] → longest ≡ pieces ++ piece ∷ [] → AreLowered ns (d + 1) b more others stored longest
take_lowered ns d a b words more numbers others stored pieces longest u heads n m p part memory at k piece t h x em ea g s ek ew en ep =
    let o = take_of ns d u heads n m p part h.typed x in
    let in_range : memory < length pieces = omega (arith, em, h.stands.within m o.memory.0 o.memory.1) in
    let y = longer_same stored in
    let is = take_piece a b stored memory at n part (length pieces) piece in_range s in
    let old = pieces_kept a b 64 0 stored pieces g h.stands.pieces in
    let w = address_there ns d a words numbers stored pieces 32 p at h o.address (omega arith) ea in
    let count = longer pieces piece in
    record {
      typed = h.typed;
      few = omega (arith, x.within);
      stands = subst (λ (z : List Term). Stands ns (d + 1) b z others stored longest) (sym ew)
          (subst (λ (z : List ℕ). Stands ns (d + 1) b (words ++ t ∷ []) z stored longest) (sym en)
          (subst (λ (z : List Piece). Stands ns (d + 1) b (words ++ t ∷ []) (numbers ++ k ∷ []) stored z) (sym ep)
          (memory_stands ns d a b 64 0 words numbers stored stored pieces (pieces ++ piece ∷ []) t k g h.stands (sym (ap width_of x.is))
          (pieces_pushed b stored stored pieces piece y old is) (omega (arith, count)) (omega (arith, count, ek))
          (λ z i v f c.
          let new = memory_of (term_word z b.dag) z.mem f stored piece in (
            and_memory f (length pieces) new,
            memories_pushed b (term_word z b.dag) z.mem stored stored pieces piece f y old is
                (memories_later a b 64 0 z stored pieces f g h.stands.pieces c.are),
            λ q j l. other_memory f (length pieces) new q j l,
            λ j l.
                that_memory f (length pieces) new k j ek
                ∙ take_memory a b 64 0 stored memory at n part piece z f j g w i l s
                ∙ take_same n (term_word z a.dag at) (term_word z ns p) j (f memory) (term_value z ns m).bytes (z.mem part)
                (ap (term_word z a.dag) ea ∙ c.words p o.address.0 (omega (arith, o.address.1)))
                (ap (λ q. f q j) em ∙ c.bytes m o.memory.0 o.memory.1 j l)
                ∙ ap (λ q. q.bytes j) (sym (of_node z ns d (TakeNode n m p part) h.typed x.within x.is)),
          )))));
      costs = costs_next ns d (TakeNode n m p part) (term_gates a.dag) (length (read_places a)) (sum_by piece_gates pieces) (term_gates b.dag)
          (length (read_places b)) (sum_by piece_gates longest) x.within x.is h.costs (omega (arith, g.gates, o.some)) (omega (arith, g.reads))
          (omega (arith, ap (sum_by piece_gates) ep, sum_by-append piece_gates pieces (piece ∷ []), take_gates a b memory at n part piece s));
    }

-- the memory of a part
pub entry_lowered : (ns : List TermNode) (d : ℕ) (a : Build) (words more : List Term) (numbers others : List ℕ) (stored : List StoredByte)
    (pieces longest : List Piece) (u : UnrolledProgram) (heads : Bool) (part k : ℕ) (t : Term) →
    AreLowered ns d a words numbers stored pieces → IsNext u heads ns d (MemoryNode part) → HasPart a part → k ≡ length pieces → more ≡ words ++ t ∷ [] →
    others ≡ numbers ++ k ∷ [] → longest ≡ pieces ++ Entry part ∷ [] → AreLowered ns (d + 1) a more others stored longest
entry_lowered ns d a words more numbers others stored pieces longest u heads part k t h x has ek ew en ep =
    let piece : Piece = Entry part in
    let y = longer_same stored in
    let g = grown_none a h.stands.built in
    let count = longer pieces piece in
    record {
      typed = h.typed;
      few = omega (arith, x.within);
      stands = subst (λ (z : List Term). Stands ns (d + 1) a z others stored longest) (sym ew)
          (subst (λ (z : List ℕ). Stands ns (d + 1) a (words ++ t ∷ []) z stored longest) (sym en)
          (subst (λ (z : List Piece). Stands ns (d + 1) a (words ++ t ∷ []) (numbers ++ k ∷ []) stored z) (sym ep)
          (memory_stands ns d a a 0 0 words numbers stored stored pieces (pieces ++ piece ∷ []) t k g h.stands (sym (ap width_of x.is))
          (pieces_pushed a stored stored pieces piece y h.stands.pieces has) (omega (arith, count)) (omega (arith, count, ek))
          (λ z i v f e.
          let new = memory_of (term_word z a.dag) z.mem f stored piece in (
            and_memory f (length pieces) new,
            memories_pushed a (term_word z a.dag) z.mem stored stored pieces piece f y h.stands.pieces has e.are,
            λ q j l. other_memory f (length pieces) new q j l,
            λ j l. that_memory f (length pieces) new k j ek ∙ ap (λ q. q.bytes j) (sym (of_node z ns d (MemoryNode part) h.typed x.within x.is)),
          )))));
      costs = costs_next ns d (MemoryNode part) (term_gates a.dag) (length (read_places a)) (sum_by piece_gates pieces) (term_gates a.dag)
          (length (read_places a)) (sum_by piece_gates longest) x.within x.is h.costs (omega arith) (omega arith)
          (omega (arith, ap (sum_by piece_gates) ep, sum_by-append piece_gates pieces (piece ∷ [])));
    }

-- nothing is built yet
built_nothing : (a : Build) → a.dag ≡ [] → read_places a ≡ [] → IsBuilt a
built_nothing a e f = record {
  typed = subst AreTyped (sym e) tt;
  named = λ n c. absurd (omega (arith, c.1, ap length e));
  words = λ n c. absurd (omega (arith, c.1, ap length e));
  loads = ap term_loads e;
  addresses = λ j l. absurd (omega (arith, l, ap length f));
  early = λ j i l h. absurd (omega (arith, l, ap length f));
  read = λ j l. absurd (omega (arith, l, ap length f));
}

-- no term is lowered yet
none_lowered : (ns : List TermNode) (a : Build) → AreTyped ns → a.dag ≡ [] → read_places a ≡ [] → AreLowered ns 0 a [] [] [] []
none_lowered ns a h e f = record {
  typed = h;
  few = omega arith;
  stands = record {
    built = built_nothing a e f;
    word_count = refl;
    number_count = refl;
    pieces = λ q l. absurd (omega (arith, l));
    widths = λ t l k. absurd (omega (arith, l));
    within = λ t l k. absurd (omega (arith, l));
    means = λ x i v. (
      x.mem,
      record {
        are = λ i l q b. absurd (omega (arith, b));
        words = λ t l k. absurd (omega (arith, l));
        bytes = λ t l k i b. absurd (omega (arith, l));
      },
    );
  };
  costs = record { gates = omega (arith, ap term_gates e); reads = omega (arith, ap length f); below = omega arith };
}

pub start_lowered : (ns : List TermNode) (a : Build) (words : List Term) (numbers : List ℕ) (stored : List StoredByte) (pieces : List Piece) → AreTyped ns →
    a.dag ≡ [] → read_places a ≡ [] → words ≡ [] → numbers ≡ [] →
    stored ≡ [] → pieces ≡ [] → AreLowered ns 0 a words numbers stored pieces
start_lowered ns a words numbers stored pieces h e f ew en es ep =
    subst (λ (z : List Term). AreLowered ns 0 a z numbers stored pieces) (sym ew)
    (subst (λ (z : List ℕ). AreLowered ns 0 a [] z stored pieces) (sym en)
    (subst (λ (z : List StoredByte). AreLowered ns 0 a [] [] z pieces) (sym es)
    (subst (λ (z : List Piece). AreLowered ns 0 a [] [] [] z) (sym ep) (none_lowered ns a h e f))))

-- the next node of a question
pub next_of : (a b : Build) (d : ℕ) (n : TermNode) → b.question ≡ a.question → d < length (source_of a) → n ≡ node_at (source_of a) d →
    AreNamedBelow (frame_of_build a) (heads_of_build a) 0 (source_of a) → IsNextOf d b n
next_of a b d n e l is h =
    let es : source_of b ≡ source_of a = ap (λ q. q.now.dag) e in
    record {
      within = omega (arith, l, ap length es);
      is = is ∙ ap (λ z. node_at z d) (sym es);
      named = subst (λ (z : Question). IsNamedBelow (frame_of_question z) (heads_of_question z) 0 n) (ap (λ q. q.now) (sym e))
          (h n (subst (Contains (source_of a)) (sym is) (Contains-get_or (source_of a) d (MemoryNode 0) l)));
    }

-- a lowered term of another build of the question
pub same_question : (a b : Build) (d : ℕ) (words : List Term) (numbers : List ℕ) (stored : List StoredByte) (pieces : List Piece) → b.question ≡ a.question →
    AreLowered (source_of a) d b words numbers stored pieces →
    AreLowered (source_of b) d b words numbers stored pieces
same_question a b d words numbers stored pieces e h = subst (λ (ns : List TermNode). AreLowered ns d b words numbers stored pieces) (ap
    (λ q. q.now.dag) (sym e)) h

-- what is kept where all terms are lowered
pub root_stands : (ns : List TermNode) (b : Build) (words : List Term) (numbers : List ℕ) (stored : List StoredByte) (pieces : List Piece) (w r : ℕ) →
    AreLowered ns (length ns) b words numbers stored pieces → 1 ≤ w →
    HasWidth ns w r → HasWidth b.dag w (link words r)
root_stands ns b words numbers stored pieces w r h l k =
    subst (λ (z : ℕ). HasWidth b.dag z (link words r)) k.1 (h.stands.widths r k.0 (omega (arith, l, k.1)))

pub root_means : (ns : List TermNode) (b : Build) (words : List Term) (numbers : List ℕ) (stored : List StoredByte) (pieces : List Piece) (w r : ℕ) →
    AreLowered ns (length ns) b words numbers stored pieces → 1 ≤ w →
    HasWidth ns w r → (x : TermReading) → InRange x → GivesAll b x → term_word x b.dag (link words r) ≡ term_word x ns r
root_means ns b words numbers stored pieces w r h l k x i v = (h.stands.means x i v).1.words r k.0 (omega (arith, l, k.1))
