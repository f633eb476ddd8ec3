-- Cells tell the term that they are made of, and its words.
use Rattle.std.proofs.Common.{◌≡◌, inl, inr, ℕ, zero, suc, ◌+◌, ◌-◌, ◌*◌, ◌^◌, ◌<◌, ◌≤◌, Bool, true, false, List, [], ◌∷◌, Some, length, map, refl, ap, sym, ◌∙◌, subst, arith}
use Rattle.std.specs.Prelude.{◌&&◌, slice_index, slice_get, Contains}
use Rattle.std.proofs.Math.Nat.{mul-le-mul_left, mul-le-mul_right}
use Rattle.std.proofs.lemmas.List.{take_all, get_or_default}
use Rattle.std.proofs.lemmas.List.Sums.{get_or-le-sum_by}
use Rattle.word_spec.specs.Memory.{Memory}
use Rattle.word_spec.specs.RowFiles.{from_to}
use Rattle.term_spec.specs.Terms.{TermReading, InRange, TermNode, RegisterNode, FlagNode, ChoiceNode, BaseNode, MemoryNode, ConstantNode, BinaryNode, NotNode, SelectNode, ExtractNode, ConcatNode, ExtendNode, LoadNode, StoreNode, JoinNode, TakeNode, IsTypedOver, HasWidth, width_of, own_loads, term_word, term_gates, term_loads, term_stores, term_joins, node_at}
use Rattle.walk_spec.specs.Unrolled.{byte_of_runs, is_in}
use Rattle.term_spec.specs.WalkQuestions.{QuestionTerm}
use Rattle.term_spec.specs.Cells.{IsOfWords, cell_gates}
use Rattle.frame_spec.specs.FrameWalk.{UnrolledProgram}
use Rattle.frame_laws.specs.FramePrices.{known_of, stores_of}
use Rattle.frame_terms.specs.PassiveFrames.{NamesMemory}
use Rattle.frame_terms.specs.FrameCells as frames
use Rattle.frame_terms.specs.FrameCells.{Gives, IsRead, IsAllowed, AreFormed, HaveAsked, Completes}
use Rattle.frame_terms.specs.HeadlessTerms.{as_read}
use Rattle.question_form.specs.declared.questions.Question.{Question}
use Rattle.question_form.specs.FrameQuestions.{frame_of_question, heads_of_question}
use Rattle.term_dag.specs.declared.nodes.Term.{Term}
use Rattle.term_dag.proofs.ListLaws.{typed_here}
use Rattle.term_dag.proofs.Ranges.{word_fits}
use Rattle.mem_cells.specs.declared.building.Build.{Build}
use Rattle.mem_cells.specs.declared.cells.Agreement.{Agreement}
use Rattle.mem_cells.specs.declared.cells.AskedByte.{AskedByte}
use Rattle.mem_cells.specs.declared.cells.BaseRead.{BaseRead}
use Rattle.mem_cells.specs.declared.file_bytes.FileByte.{FileByte}
use Rattle.mem_cells.specs.declared.pieces.StoredByte.{StoredByte}
use Rattle.mem_cells.specs.declared.pieces.Piece.{Piece}
use Rattle.mem_cells.specs.Pieces.{link}
use Rattle.mem_cells.specs.Building.{read_places, Cellular, GivesAll, Grown}
use Rattle.mem_cells.specs.Parts.{is_read, parts_at, read_at, reads_from, AreParts, CountsGifts, KeepsParts}
use Rattle.mem_cells.specs.Ties.{address_of, AreTies, Before}
use Rattle.mem_cells.specs.Asked.{file_byte, is_of_part, AreFileBytes, AreAsked, AskedOf}
use Rattle.mem_cells.specs.Lowering.{AreLowered}
use Rattle.mem_cells.specs.FrameViews.{read_of, frame_agreement_of, frame_asked_of}
use Rattle.mem_cells.specs.Words.{places_of, IsWordAt}
use Rattle.mem_cells.specs.Tells.{IsPlaceOf, ArePlacesOf, TellsWords}
use Rattle.mem_cells.proofs.Growing.{grown_word, grown_width, gives_before, node_kept}
use Rattle.mem_cells.proofs.PartReads.{few_parts, reads_have, reads_are, reads_climb, reads_few, reads_flat}
use Rattle.mem_cells.proofs.Agreements.{and_true, both_true, same_reads}
use Rattle.mem_cells.proofs.Gathered.{part_memory, term_free}
use Rattle.mem_cells.proofs.Lowerings.{root_stands, root_means}

-- a word that is no load is a node over words
of_words : (ns : List TermNode) (n : TermNode) → IsTypedOver ns n → 1 ≤ width_of n → own_loads n ≡ 0 → IsOfWords n
of_words ns (RegisterNode part r) h w l = tt
of_words ns (FlagNode part f) h w l = tt
of_words ns (ChoiceNode i) h w l = tt
of_words ns (BaseNode part j) h w l = tt
of_words ns (MemoryNode part) h w l = absurd (omega (arith, w))
of_words ns (ConstantNode a v) h w l = tt
of_words ns (BinaryNode o a b c) h w l = tt
of_words ns (NotNode a b) h w l = tt
of_words ns (SelectNode a b c d) h w l = tt
of_words ns (ExtractNode a b c) h w l = tt
of_words ns (ConcatNode a b c d) h w l = tt
of_words ns (ExtendNode a b c d) h w l = tt
of_words ns (LoadNode n e m a) h w l = absurd (omega (arith, h.0.0, l))
of_words ns (StoreNode n e m a v) h w l = absurd (omega (arith, w))
of_words ns (JoinNode c a b) h w l = absurd (omega (arith, w))
of_words ns (TakeNode n m a p) h w l = absurd (omega (arith, w))

all_words : (u : UnrolledProgram) (heads : Bool) (ns : List TermNode) (ps : List ℕ) → Cellular u heads ns ps → (n : TermNode) → Contains ns n → IsOfWords n
all_words u heads ns ps c n k =
    let e : n ≡ node_at ns k.0 = sym k.2 ∙ get_or_default ns k.0 n (MemoryNode 0) k.1 in
    let s = get_or-le-sum_by own_loads ns k.0 n k.1 in
    of_words ns n (typed_here ns k.0 n c.typed k.1 e) (c.words n k) (omega (arith, s, c.loads, ap own_loads k.2))

pub contains_map : {X Y : Type 0} (f : X → Y) (xs : List X) (x : X) → Contains xs x → Contains (map f xs) (f x)
contains_map f [] x c = absurd (omega (arith, c.1))
contains_map f (y ∷ xs) x (zero, l, e) = (0, omega arith, ap f e)
contains_map f (y ∷ xs) x (suc k, l, e) = let r = contains_map f xs x (k, omega (arith, l), e) in (suc r.0, omega (arith, r.1), r.2)

map_contains : {X Y : Type 0} (f : X → Y) (xs : List X) (y : Y) → Contains (map f xs) y → (x : X) × Contains xs x × (f x ≡ y)
map_contains f [] y c = absurd (omega (arith, c.1))
map_contains f (x ∷ xs) y (zero, l, e) = (x, (0, omega arith, refl), e)
map_contains f (x ∷ xs) y (suc k, l, e) = let r = map_contains f xs y (k, omega (arith, l), e) in (r.0, (suc r.1.0, omega (arith, r.1.1), r.1.2), r.2)

-- what holds of what the elements stand for
pub each_map : {X Y : Type 0} (f : X → Y) (xs : List X) (P : Y → Type 0) → ((x : X) → Contains xs x → P (f x)) → (y : Y) → Contains (map f xs) y → P y
each_map f xs P h y c = let m = map_contains f xs y c in subst P m.2 (h m.0 m.1)

-- sums of products
triangle : (r l : ℕ) → r ≤ l → r * (r - 1) ≤ l * (l - 1)
triangle r l h =
    let b : r - 1 ≤ l - 1 = omega (arith, h) in
    let a : r * (r - 1) ≤ l * (r - 1) = mul-le-mul_right (r - 1) h in
    let c : l * (r - 1) ≤ l * (l - 1) = mul-le-mul_left l b in
    omega (arith, a, c)

spread : (l s x : ℕ) → l * (64 + (40 * s + 8 * x)) ≡ 64 * l + 40 * (l * s) + 8 * (l * x)
spread l s x = grind arith

-- what lowering, agreements and asked bytes take is within the price of the cells
within_price : (g l s j loads stores edges known r k : ℕ) → l ≤ loads → s ≤ stores → j ≤ edges + 2 * stores → r ≤ loads → k ≤ known →
    g + l * (64 + (40 * s + 8 * j)) + 64 * s + 16 * (r * (r - 1)) + 32 * (r * k) ≤ g + cell_gates loads stores edges known
within_price g l s j loads stores edges known r k hl hs hj hr hk =
    let p : 64 + (40 * s + 8 * j) ≤ 64 + (40 * stores + 8 * (edges + 2 * stores)) = omega (arith, hs, hj) in
    let a : l * (64 + (40 * s + 8 * j)) ≤ loads * (64 + (40 * s + 8 * j)) = mul-le-mul_right (64 + (40 * s + 8 * j)) hl in
    let b : loads * (64 + (40 * s + 8 * j)) ≤ loads * (64 + (40 * stores + 8 * (edges + 2 * stores))) = mul-le-mul_left loads p in
    let c : r * k ≤ loads * k = mul-le-mul_right k hr in
    let d : loads * k ≤ loads * known = mul-le-mul_left loads hk in
    omega (arith, a, b, spread loads stores (edges + 2 * stores), hs, triangle r loads hr, c, d)

-- what lowering took
pub lowered_cost : (t : QuestionTerm) (mid : Build) (words : List Term) (numbers : List ℕ) (stored : List StoredByte) (pieces : List Piece) →
    AreLowered t.nodes (length t.nodes) mid words numbers stored pieces →
    (term_gates mid.dag ≤ term_gates t.nodes + term_loads t.nodes * (64 + (40 * term_stores t.nodes + 8 * term_joins t.nodes)) + 64 * term_stores t.nodes) ×
    (length (read_places mid) ≤ term_loads t.nodes)
lowered_cost t mid words numbers stored pieces h =
    let e = take_all (length t.nodes) t.nodes (omega arith) in (
      subst (λ (z : List TermNode). term_gates mid.dag ≤ term_gates z + term_loads z *
          (64 + (40 * term_stores t.nodes + 8 * term_joins t.nodes)) + 64 * term_stores z) e h.costs.gates,
      subst (λ (z : List TermNode). length (read_places mid) ≤ term_loads z) e h.costs.reads,
    )

-- the element of a list that an element of its image stands for
map_get : {X Y : Type 0} (f : X → Y) (xs : List X) (i : ℕ) (y : Y) → slice_get (map f xs) i ≡ Some y → (x : X) × (slice_get xs i ≡ Some x) × (f x ≡ y)
map_get f [] i y e = absurd (cc)
map_get f (x ∷ xs) zero y e = (x, refl, (let z : f x ≡ y = (cc) in z))
map_get f (x ∷ xs) (suc i) y e = map_get f xs i y e

in_get : {X : Type 0} (xs : List X) (i : ℕ) (x : X) → slice_get xs i ≡ Some x → Contains xs x
in_get [] i x e = absurd (cc)
in_get (y ∷ xs) zero x e = (0, omega arith, (let z : y ≡ x = (cc) in z))
in_get (y ∷ xs) (suc i) x e = let r = in_get xs i x e in (suc r.0, omega (arith, r.1), r.2)

map_length : {X Y : Type 0} (f : X → Y) (xs : List X) → length (map f xs) ≡ length xs
map_length f [] = refl
map_length f (x ∷ xs) = omega (arith, map_length f xs)

-- the cells that were made
abbrev pub told_cells : Build → List BaseRead → List Agreement → List AskedByte → Term → frames.Cells
told_cells b rs ts xs root = record {
  nodes = b.dag;
  addresses = read_places b;
  reads = map read_of rs;
  agrees = map frame_agreement_of ts;
  asked = map frame_asked_of xs;
  root = root.0;
}

-- a byte at an address is asked of the head's memory: it has the kept bytes, if the question is of heads
abbrev pub of_kept : UnrolledProgram → (of_head : Bool) → ℕ → Bool
of_kept u of_head a = of_head && is_in u.kept a

-- a byte at an address is asked of a part's memory
abbrev by_part : (heads : ℕ → Bool) → (part : ℕ) → ℕ → Bool
by_part heads zero a = true
by_part heads (suc zero) a = heads a
by_part heads (suc (suc p)) a = false

of_byte : (heads : ℕ → Bool) (p a c : ℕ) → by_part heads p a ≡ true → is_of_part (file_byte heads a c) p ≡ true
of_byte heads zero a c h = h
of_byte heads (suc zero) a c h = h
of_byte heads (suc (suc p)) a c h = h

-- the memory of a part has a byte that is asked of it
has_byte : (u : UnrolledProgram) (of_head : Bool) (asks : ℕ → Bool) (x : TermReading) (p : ℕ) (f : FileByte) → HaveAsked u of_head asks x →
    is_of_part f p ≡ true → f.head ≡ of_kept u of_head f.at → asks f.at ≡ true → byte_of_runs u.known f.at ≡ Some f.byte → f.at < 2 ^ 32 → x.mem p f.at ≡ f.byte
has_byte u of_head asks x zero f h o e k r l = h.entry f.at f.byte l r k
has_byte u of_head asks x (suc zero) f h o e k r l =
    let b = both_true of_head (is_in u.kept f.at) (sym e ∙ o) in h.head b.0 f.at f.byte l r b.1 k
has_byte u of_head asks x (suc (suc p)) f h o e k r l = absurd (cc)

-- What was made: all terms are lowered, reads agree, and bytes of the file are asked.
pub record IsMadeOf (q : Question) (t : QuestionTerm) (of_head : Bool) (asks : ℕ →
    Bool) (mid b : Build) (words : List Term) (numbers : List ℕ) (stored : List StoredByte) (pieces : List Piece) (parts : List (List ℕ)) (ts : List Agreement)
    (xs : List AskedByte) (file : List FileByte) (root : Term) : Type 0 where
  pub width : HasWidth t.nodes 1 t.root
  pub bytes : (a c : ℕ) → byte_of_runs (frame_of_question q).known a ≡ Some c → c < 256
  pub question : b.question.now ≡ q
  pub gifts : CountsGifts (frame_of_question q)
  pub lowered : AreLowered t.nodes (length t.nodes) mid words numbers stored pieces
  pub count : length parts ≡ length (read_places mid)
  pub noted : AreParts mid parts
  pub grown : Grown mid b (16 * (length (read_places mid) * (length (read_places mid) - 1)) + 32 * (length (read_places mid) * length file)) 0
  pub kept : KeepsParts mid b
  pub agree : AreTies b parts ts (Before (length (read_places b)) 0)
  pub given : AreFileBytes (frame_of_question q).known (λ a. asks a ≡ true) (of_kept (frame_of_question q) of_head) file
  pub few : length file ≤ known_of (frame_of_question q)
  pub says : AreAsked b parts file xs (AskedOf (length (read_places b)) file)
  pub is : root.0 ≡ link words t.root

module _ (q : Question) (t : QuestionTerm) (of_head : Bool) (asks : ℕ →
    Bool) (mid b : Build) (words : List Term) (numbers : List ℕ) (stored : List StoredByte) (pieces : List Piece) (parts : List (List ℕ)) (ts : List Agreement)
    (xs : List AskedByte) (file : List FileByte) (root : Term) (h : IsMadeOf q t of_head asks mid b words numbers stored pieces parts ts xs file root) where
  abbrev cost : ℕ
  cost = 16 * (length (read_places mid) * (length (read_places mid) - 1)) + 32 * (length (read_places mid) * length file)

  abbrev u : UnrolledProgram
  u = frame_of_question q

  abbrev heads : Bool
  heads = heads_of_question q

  abbrev made : frames.Cells
  made = told_cells b (reads_from 0 parts) ts xs root

  cells : Cellular u heads b.dag (read_places b)
  cells = subst (λ (z : Question). Cellular (frame_of_question z) (heads_of_question z) b.dag (read_places b)) h.question h.grown.built

  root_old : HasWidth mid.dag 1 (link words t.root)
  root_old = root_stands t.nodes mid words numbers stored pieces 1 t.root h.lowered (omega arith) h.width

  root_new : HasWidth b.dag 1 root.0
  root_new = subst (HasWidth b.dag 1) (sym h.is) (grown_width mid b cost 0 1 (link words t.root) h.grown root_old)

  -- what is read
  read_in : (p j : ℕ) → is_read parts p j ≡ true → IsRead made p j
  read_in p j r = contains_map read_of (reads_from 0 parts) (read_at p j) (reads_have parts p j r)

  read_out : (z : frames.BaseRead) → Contains made.reads z → is_read parts z.part z.address ≡ true
  read_out = each_map read_of (reads_from 0 parts) (λ z. is_read parts z.part z.address ≡ true) (reads_are parts)

  node_of_read : (p j : ℕ) → is_read parts p j ≡ true → Contains b.dag (BaseNode p j)
  node_of_read p j r = node_kept mid.dag b.dag (BaseNode p j) h.grown.extends (h.noted.sound p j r)

  named_read : (p j : ℕ) → is_read parts p j ≡ true → NamesMemory u heads p × (j < length (read_places b))
  named_read p j r = cells.named (BaseNode p j) (node_of_read p j r)

  same_count : length parts ≡ length (read_places b)
  same_count = h.count ∙ ap length (sym (same_reads mid b cost h.grown))

  -- their order
  rise : (i j : ℕ) (x y : frames.BaseRead) → i < j → slice_get made.reads i ≡ Some x → slice_get made.reads j ≡ Some y → x.address ≤ y.address
  rise i j x y l d e =
      let v = map_get read_of (reads_from 0 parts) i x d in
      let w = map_get read_of (reads_from 0 parts) j y e in
      elim (reads_climb parts i j v.0 w.0 h.noted.rise l v.1 w.1) [
        | inl k ↦ omega (arith, k, ap (λ z. z.address) v.2, ap (λ z. z.address) w.2)
        | inr k ↦ omega (arith, k.0, ap (λ z. z.address) v.2, ap (λ z. z.address) w.2)
      ]

  once : (i j : ℕ) (x : frames.BaseRead) → i < j → slice_get made.reads i ≡ Some x → slice_get made.reads j ≡ Some x → ⊥
  once i j x l d e =
      let v = map_get read_of (reads_from 0 parts) i x d in
      let w = map_get read_of (reads_from 0 parts) j x e in
      elim (reads_climb parts i j v.0 w.0 h.noted.rise l v.1 w.1) [
        | inl k ↦ absurd (omega (arith, k, ap (λ z. z.address) (v.2 ∙ sym w.2)))
        | inr k ↦ absurd (omega (arith, k.1, ap (λ z. z.part) (v.2 ∙ sym w.2)))
      ]

  formed : AreFormed u heads made
  formed = record {
    typed = cells.typed;
    words = all_words u heads b.dag (read_places b) cells;
    named = cells.named;
    bases = λ p j inside. read_in p j (h.noted.complete p j (h.kept p j inside));
    addresses = cells.addresses;
    early = cells.early;
    reads = λ z inside. named_read z.part z.address (read_out z inside);
    rise = rise;
    once = once;
    agrees = each_map frame_agreement_of ts (λ a. HasWidth b.dag 1 a.condition × IsRead made a.part a.read × IsRead made a.part a.other)
        (λ a k. let r = h.agree.read a k in ((h.agree.formed a k).0, read_in a.part a.read r.0, read_in a.part a.other r.1));
    asked = each_map frame_asked_of xs (λ a. HasWidth b.dag 1 a.condition × IsRead made a.part a.read × (a.byte < 256))
        (λ a k.
        let f = h.says.formed a k in
        let s = h.given.sound f.2.0 f.2.1.inside in
        (f.0, read_in a.part a.read (h.says.read a k), subst (λ (z : ℕ). z < 256) f.2.1.has (h.bytes f.2.0.at f.2.0.byte s.1)));
    root = root_new;
  }

  -- what the memories give of what is lowered
  gives_all : (x : TermReading) → Gives made x → GivesAll mid x
  gives_all x v =
      gives_before mid b cost 0 x h.lowered.stands.built h.grown
      (λ p j inside. v (record { part = p; address = j }) (read_in p j (h.noted.complete p j (h.kept p j inside))))

  same : (x : TermReading) → InRange x → Gives made x → term_word x b.dag root.0 ≡ term_word x t.nodes t.root
  same x i v =
      ap (term_word x b.dag) h.is
      ∙ grown_word mid b cost 0 x (link words t.root) h.grown root_old.0
      ∙ root_means t.nodes mid words numbers stored pieces 1 t.root h.lowered (omega arith) h.width x i (gives_all x v)

  sound : (x : TermReading) → InRange x → Gives made x → HaveAsked u of_head asks x → IsAllowed made x
  sound x i v m = record {
    agrees = each_map frame_agreement_of ts (λ a. term_word x b.dag a.condition ≡ 1 → x.base a.part a.read ≡ x.base a.part a.other)
        (λ a k o.
        let r = h.agree.read a k in
        v (record { part = a.part; address = a.read }) (read_in a.part a.read r.0) ∙ ap (x.mem a.part) (h.agree.sound x i a k o)
        ∙ sym (v (record { part = a.part; address = a.other }) (read_in a.part a.other r.1)));
    asked = each_map frame_asked_of xs (λ a. term_word x b.dag a.condition ≡ 1 → x.base a.part a.read ≡ a.byte)
        (λ a k o.
        let f = h.says.formed a k in
        let s = h.says.sound x i a k o in
        let g = h.given.sound s.0 s.1.inside in
        let l = word_fits x b.dag 32 (slice_index (read_places b) a.read) i cells.typed (cells.addresses a.read f.1) in
        v (record { part = a.part; address = a.read }) (read_in a.part a.read (h.says.read a k)) ∙ ap (x.mem a.part) s.2
        ∙ has_byte u of_head asks x a.part s.0 m s.1.of g.2 g.0 g.1 (subst (λ (z : ℕ). z < 2 ^ 32) s.2 l) ∙ s.1.has);
  }

  -- the memories of the parts
  abbrev asks_part : (part : ℕ) → ℕ → Bool
  asks_part p a = asks a && by_part (of_kept u of_head) p a

  memory_for : (x : TermReading) → InRange x → IsAllowed made x → (p : ℕ) →
      (m : Memory) × ((a : ℕ) → m a < 256) × ((a c : ℕ) → byte_of_runs u.known a ≡ Some c → asks_part p a ≡ true → m a ≡ c) ×
      ((j : ℕ) → j < length (read_places b) → is_read parts p j ≡ true → x.base p j ≡ m (address_of b x j))
  memory_for x i a p =
      part_memory u.known (asks_part p) (is_read parts p) (address_of b x) (x.base p) (length (read_places b)) (i.base p) h.bytes
      (λ m n l k rm rn e. h.agree.complete x i x.base (λ y c. a.agrees (frame_agreement_of y) (contains_map frame_agreement_of ts y c)) p m n
      (l, inl k) rm rn e)
      (λ j c l r y e.
      let d = both_true (asks (address_of b x j)) (by_part (of_kept u of_head) p (address_of b x j)) y in
      h.says.complete x i x.base (λ z k. a.asked (frame_asked_of z) (contains_map frame_asked_of xs z k)) p j
      (file_byte (of_kept u of_head) (address_of b x j) c)
      (l, h.given.complete (address_of b x j) c d.0 e) r (of_byte (of_kept u of_head) p (address_of b x j) c d.1) refl)

  complete : (x : TermReading) → InRange x → IsAllowed made x → Completes u of_head asks made x
  complete x i a =
      let memories : ℕ → Memory = λ p. (memory_for x i a p).0 in
      record {
        memories = memories;
        bytes = λ p c. (memory_for x i a p).1 c;
        have = record {
          entry = λ at c l e k. (memory_for x i a 0).2 at c e (and_true (asks at) true k refl);
          head = λ o at c l e kept k.
              (memory_for x i a 1).2 at c e (and_true (asks at) (of_kept u of_head at) k (and_true of_head (is_in u.kept at) o kept));
        };
        gives = λ z inside.
            (let r = read_out z inside in
            (memory_for x i a z.part).3 z.address (named_read z.part z.address r).1 r
            ∙ ap (memories z.part)
            (sym (term_free x memories b.dag (slice_index (read_places b) z.address) (all_words u heads b.dag (read_places b) cells))));
      }

  -- the word that stands for a word does so in the cells
  stands : (w : ℕ) → IsWordAt t.nodes w → IsPlaceOf t.nodes made w (link words w)
  stands w k =
      let old = h.lowered.stands.widths w k.0 k.1 in
      record {
        width = grown_width mid b cost 0 (width_of (node_at t.nodes w)) (link words w) h.grown old;
        value = λ x i v. grown_word mid b cost 0 x (link words w) h.grown old.0 ∙ root_means t.nodes mid words numbers stored pieces
            (width_of (node_at t.nodes w)) w h.lowered k.1 (k.0, refl) x i (gives_all x v);
      }

  stand_each : (ws : List Term) → ((w : Term) → Contains ws w → IsWordAt t.nodes w.0) →
      ArePlacesOf t.nodes made (places_of ws) (map (link words) (places_of ws))
  stand_each [] k = tt
  stand_each (w ∷ ws) k =
      (stands w.0 (k w (0, omega arith, refl)), stand_each ws (λ v c. k v (suc c.0, omega (arith, c.1), c.2)))

  -- how many reads there are
  few_reads : length made.reads ≤ length made.addresses * (2 + stores_of u)
  few_reads =
      let n = 2 + stores_of u in
      let m = reads_few 0 n parts (λ i l. few_parts u heads (parts_at parts i) h.gifts (h.noted.rise i) (λ p r. (named_read p i r).0)) in
      subst (λ (z : ℕ). length made.reads ≤ z * n) same_count (omega (arith, map_length read_of (reads_from 0 parts), m))

  -- where the entry's memory alone may be read
  flat : ((p : ℕ) → NamesMemory u heads p → p ≡ 0) → made.reads ≡ map as_read (from_to 0 (length made.addresses))
  flat one =
      reads_flat 0 parts h.noted.rise
      (λ i l.
      let r = cells.read i (omega (arith, l, same_count)) in
      let e : r.0 ≡ 0 = one r.0 (cells.named (BaseNode r.0 i) r.1).0 in
      ap (λ z. is_read parts z i) (sym e) ∙ h.noted.complete r.0 i (h.kept r.0 i r.1))
      (λ i p r. one p (named_read p i r).0)
      ∙ ap (λ n. map as_read (from_to 0 n)) same_count

  pub told_words : (asked_words places : List Term) (rs : List BaseRead) → ((w : Term) → Contains asked_words w → IsWordAt t.nodes w.0) →
      places_of places ≡ map (link words) (places_of asked_words) → rs ≡ reads_from 0 parts →
      TellsWords u heads of_head t (places_of asked_words) asks (told_cells b rs ts xs root) (places_of places)
  told_words ws ps rs k e er =
      let c = lowered_cost t mid words numbers stored pieces h.lowered in
      subst (λ (z : List BaseRead). TellsWords u heads of_head t (places_of ws) asks (told_cells b z ts xs root) (places_of ps)) (sym er) (record {
        formed = formed;
        same = same;
        each = subst (ArePlacesOf t.nodes made (places_of ws)) (sym e) (stand_each ws k);
        sound = sound;
        complete = complete;
        gates = λ loads stores edges l s j. omega (
          arith,
          h.grown.gates,
          c.0,
          within_price (term_gates t.nodes) (term_loads t.nodes) (term_stores t.nodes) (term_joins t.nodes) loads stores edges (known_of u)
              (length (read_places mid)) (length file)
              l s j (omega (arith, c.1, l)) h.few,
        );
        few = omega (arith, h.grown.reads, c.1);
        few_reads = few_reads;
        flat = flat;
      })
