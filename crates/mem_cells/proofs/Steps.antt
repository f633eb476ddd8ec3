-- Terms that are lowered one after another.
use Rattle.std.proofs.Common.{◌≡◌, inl, inr, ℕ, ◌+◌, ◌*◌, ◌^◌, ◌<◌, ◌≤◌, List, [], ◌∷◌, ◌++◌, length, take, ap, sym, ◌∙◌, subst, arith}
use Rattle.std.specs.Prelude.{sum_by, slice_index}
use Rattle.std.proofs.Math.Nat.{mul-le-mul_left}
use Rattle.std.proofs.lemmas.Bool.{cases_lt}
use Rattle.std.proofs.lemmas.List.Sums.{sum_by_more, sum_by-take-le}
use Rattle.word_spec.specs.Memory.{Memory}
use Rattle.term_spec.specs.Terms.{TermReading, InRange, TermNode, MemoryNode, HasWidth, node_at, width_of, term_word, term_value, term_gates, term_loads, term_stores, term_joins, own_gates, own_loads, own_stores, own_joins}
use Rattle.term_dag.specs.declared.nodes.Term.{Term}
use Rattle.term_dag.proofs.ListLaws.{longer}
use Rattle.mem_cells.specs.declared.building.Build.{Build}
use Rattle.mem_cells.specs.declared.pieces.StoredByte.{StoredByte}
use Rattle.mem_cells.specs.declared.pieces.Piece.{Piece}
use Rattle.mem_cells.specs.Pieces.{link, ArePieces}
use Rattle.mem_cells.specs.Building.{Grown, GivesAll, AreMemories}
use Rattle.mem_cells.specs.Lowering.{Mean, Stands, Costs}
use Rattle.mem_cells.proofs.Growing.{grown_word, grown_width, gives_before, pushed_at, pushed_last}
use Rattle.mem_cells.proofs.Chains.{linked, linked_last, pieces_kept}
use Rattle.mem_cells.proofs.LoadedBytes.{memories_later}

mean_kept : (x : TermReading) (ns : List TermNode) (d : ℕ) (a b : Build) (g r : ℕ) (words : List Term) (numbers : List ℕ) (stored : List StoredByte)
    (pieces : List Piece) (m : ℕ → Memory) → Grown a b g r →
    Stands ns d a words numbers stored pieces → Mean x ns d (term_word x a.dag) words numbers stored pieces m →
    Mean x ns d (term_word x b.dag) words numbers stored pieces m
mean_kept x ns d a b g r words numbers stored pieces m p s h = record {
  are = memories_later a b g r x stored pieces m p s.pieces h.are;
  words = λ t l k. grown_word a b g r x (link words t) p (s.widths t l k).0 ∙ h.words t l k;
  bytes = h.bytes;
}

more_widths : (ns : List TermNode) (d : ℕ) (a b : Build) (g r : ℕ) (words : List Term) (numbers : List ℕ) (stored : List StoredByte) (pieces : List Piece)
    (w : Term) → Grown a b g r →
    Stands ns d a words numbers stored pieces → (1 ≤ width_of (node_at ns d) → HasWidth b.dag (width_of (node_at ns d)) w.0) →
    (t : ℕ) → t < d + 1 → 1 ≤ width_of (node_at ns t) → HasWidth b.dag (width_of (node_at ns t)) (link (words ++ w ∷ []) t)
more_widths ns d a b g r words numbers stored pieces w p s h t l k = elim (cases_lt t d) [
  | inl q ↦ subst (HasWidth b.dag (width_of (node_at ns t))) (sym (linked words w t (omega (arith, q, s.word_count))))
      (grown_width a b g r (width_of (node_at ns t)) (link words t) p (s.widths t q k))
  | inr q ↦ (
      let e : t ≡ d = omega (arith, l, q) in
      subst (HasWidth b.dag (width_of (node_at ns t))) (sym (linked_last words w t (e ∙ sym s.word_count)))
      (subst (λ (z : ℕ). HasWidth b.dag (width_of (node_at ns z)) w.0) (sym e) (h (omega (arith, k, ap (λ z. width_of (node_at ns z)) e)))))
]

more_numbers : (ns : List TermNode) (d : ℕ) (a : Build) (words : List Term) (numbers : List ℕ) (stored : List StoredByte) (pieces : List Piece) (k count : ℕ) →
    Stands ns d a words numbers stored pieces → length pieces ≤ count → (width_of (node_at ns d) ≡ 0 → k < count) →
    (t : ℕ) → t < d + 1 → width_of (node_at ns t) ≡ 0 → slice_index (numbers ++ k ∷ []) t < count
more_numbers ns d a words numbers stored pieces k count s f h t l z = elim (cases_lt t d) [
  | inl q ↦ subst (λ (y : ℕ). y < count) (sym (pushed_at numbers k t (omega (arith, q, s.number_count)))) (omega (arith, s.within t q z, f))
  | inr q ↦ (
      let e : t ≡ d = omega (arith, l, q) in
      subst (λ (y : ℕ). y < count) (sym (pushed_last numbers k t (e ∙ sym s.number_count))) (h (sym (ap (λ y. width_of (node_at ns y)) e) ∙ z)))
]

-- one more word
pub word_stands : (ns : List TermNode) (d : ℕ) (a b : Build) (g r : ℕ) (words : List Term) (numbers : List ℕ) (stored : List StoredByte) (pieces : List Piece)
    (w : Term) (k : ℕ) → Grown a b g r →
    Stands ns d a words numbers stored pieces → 1 ≤ width_of (node_at ns d) → HasWidth b.dag (width_of (node_at ns d)) w.0 →
    ((x : TermReading) → InRange x → GivesAll b x → (m : ℕ → Memory) → Mean x ns d (term_word x a.dag) words numbers stored pieces m →
    term_word x b.dag w.0 ≡ term_word x ns d) →
    Stands ns (d + 1) b (words ++ w ∷ []) (numbers ++ k ∷ []) stored pieces
word_stands ns d a b g r words numbers stored pieces w k p s some h f = record {
  built = p.built;
  word_count = longer words w ∙ ap (λ z. z + 1) s.word_count;
  number_count = longer numbers k ∙ ap (λ z. z + 1) s.number_count;
  pieces = pieces_kept a b g r stored pieces p s.pieces;
  widths = more_widths ns d a b g r words numbers stored pieces w p s (λ y. h);
  within = more_numbers ns d a words numbers stored pieces k (length pieces) s (omega arith) (λ z. absurd (omega (arith, z, some)));
  means = λ x i v.
      let n = s.means x i (gives_before a b g r x s.built p v) in
      let m = n.0 in
      let c = mean_kept x ns d a b g r words numbers stored pieces m p s n.1 in (
        m,
        record {
          are = c.are;
          words = λ t l y. elim (cases_lt t d) [
            | inl q ↦ ap (term_word x b.dag) (linked words w t (omega (arith, q, s.word_count))) ∙ c.words t q y
            | inr q ↦ (let e : t ≡ d = omega (arith, l, q) in ap (term_word x b.dag) (linked_last words w t (e ∙ sym s.word_count)) ∙ f x i v m n.1 ∙ ap
                (term_word x ns) (sym e))
          ];
          bytes = λ t l z y j. elim (cases_lt t d) [
            | inl q ↦ ap (λ u. m u y) (pushed_at numbers k t (omega (arith, q, s.number_count))) ∙ c.bytes t q z y j
            | inr q ↦ (let e : t ≡ d = omega (arith, l, q) in absurd (omega (arith, z, some, ap (λ u. width_of (node_at ns u)) e)))
          ];
        },
      );
}

-- one more memory, of pieces that are the old ones and perhaps one more
pub memory_stands : (ns : List TermNode) (d : ℕ) (a b : Build) (g r : ℕ) (words : List Term) (numbers : List ℕ) (stored others : List StoredByte)
    (pieces more : List Piece) (w : Term) (k : ℕ) → Grown a b g r →
    Stands ns d a words numbers stored pieces → width_of (node_at ns d) ≡ 0 → ArePieces b others more → length pieces ≤ length more →
    k < length more →
    ((x : TermReading) → InRange x → GivesAll b x → (m : ℕ → Memory) → Mean x ns d (term_word x a.dag) words numbers stored pieces m →
    (n : ℕ → Memory) × AreMemories (term_word x b.dag) x.mem others more n × ((q i : ℕ) → q < length pieces → n q i ≡ m q i) ×
    ((i : ℕ) → i < 2 ^ 32 → n k i ≡ (term_value x ns d).bytes i)) →
    Stands ns (d + 1) b (words ++ w ∷ []) (numbers ++ k ∷ []) others more
memory_stands ns d a b g r words numbers stored others pieces more w k p s none are few within f = record {
  built = p.built;
  word_count = longer words w ∙ ap (λ z. z + 1) s.word_count;
  number_count = longer numbers k ∙ ap (λ z. z + 1) s.number_count;
  pieces = are;
  widths = more_widths ns d a b g r words numbers stored pieces w p s (λ y. absurd (omega (arith, none, y)));
  within = more_numbers ns d a words numbers stored pieces k (length more) s few (λ z. within);
  means = λ x i v.
      let o = s.means x i (gives_before a b g r x s.built p v) in
      let m = o.0 in
      let c = mean_kept x ns d a b g r words numbers stored pieces m p s o.1 in
      let y = f x i v m o.1 in
      let n = y.0 in (
        n,
        record {
          are = y.1;
          words = λ t l z. elim (cases_lt t d) [
            | inl q ↦ ap (term_word x b.dag) (linked words w t (omega (arith, q, s.word_count))) ∙ c.words t q z
            | inr q ↦ (let e : t ≡ d = omega (arith, l, q) in absurd (omega (arith, none, z, ap (λ u. width_of (node_at ns u)) e)))
          ];
          bytes = λ t l z u j. elim (cases_lt t d) [
            | inl q ↦ ap (λ e. n e u) (pushed_at numbers k t (omega (arith, q, s.number_count))) ∙ y.2 (slice_index numbers t) u
                (s.within t q z) ∙ c.bytes t q z u j
            | inr q ↦ (
                let e : t ≡ d = omega (arith, l, q) in
                ap (λ h. n h u) (pushed_last numbers k t (e ∙ sym s.number_count)) ∙ y.3 u j ∙ ap (λ h. (term_value x ns h).bytes u) (sym e))
          ];
        },
      );
}

node_sum : (f : TermNode → ℕ) (ns : List TermNode) (d : ℕ) (n : TermNode) → d < length ns → n ≡ node_at ns d →
    sum_by f (take (d + 1) ns) ≡ sum_by f (take d ns) + f n
node_sum f ns d n l e = sum_by_more f ns d (MemoryNode 0) l ∙ ap (λ z. sum_by f (take d ns) + f z) (sym e)

times_sum : (l k q : ℕ) → (l + k) * q ≡ l * q + k * q
times_sum l k q = grind arith

load_more : (l k p q : ℕ) → p ≤ q → l * q + k * p ≤ (l + k) * q
load_more l k p q h = omega (arith, mul-le-mul_left k h, times_sum l k q)

gates_more : (h g a l k p q s n m : ℕ) → h ≤ g + n + k * p + m * 64 → g ≤ a + l * q + 64 * s → p ≤ q → h ≤ a + n + (l + k) * q + 64 * (s + m)
gates_more h g a l k p q s n m e f o = omega (arith, e, f, load_more l k p q o)

-- one more node to pay for
pub costs_next : (ns : List TermNode) (d : ℕ) (n : TermNode) (g r p h s q : ℕ) → d < length ns → n ≡ node_at ns d → Costs ns d g r p →
    h ≤ g + own_gates n + own_loads n * (64 + p) + own_stores n * 64 →
    s ≤ r + own_loads n → q ≤ p + 40 * own_stores n + 8 * own_joins n → Costs ns (d + 1) h s q
costs_next ns d n g r p h s q l e c hg hr hp =
    let eg = node_sum own_gates ns d n l e in
    let el = node_sum own_loads ns d n l e in
    let es = node_sum own_stores ns d n l e in
    let ej = node_sum own_joins ns d n l e in
    let few : 64 + p ≤ 64 + (40 * term_stores ns + 8 * term_joins ns) = omega (arith, c.below, sum_by-take-le own_stores ns d, sum_by-take-le own_joins ns d) in
    record {
      gates = subst (λ (z : ℕ). h ≤ z + term_loads (take (d + 1) ns) * (64 + (40 * term_stores ns + 8 * term_joins ns)) + 64 * term_stores (take (d + 1) ns))
          (sym eg)
          (subst (λ (z : ℕ). h ≤ term_gates (take d ns) + own_gates n + z * (64 + (40 * term_stores ns + 8 * term_joins ns)) + 64 * term_stores
          (take (d + 1) ns)) (sym el)
          (subst (λ (z : ℕ). h ≤ term_gates (take d ns) + own_gates n + (term_loads (take d ns) + own_loads n) *
          (64 + (40 * term_stores ns + 8 * term_joins ns)) + 64 * z) (sym es)
          (gates_more h g (term_gates (take d ns)) (term_loads (take d ns)) (own_loads n) (64 + p) (64 + (40 * term_stores ns + 8 * term_joins ns))
          (term_stores (take d ns)) (own_gates n) (own_stores n) hg c.gates few)));
      reads = omega (arith, hr, c.reads, el);
      below = omega (arith, hp, c.below, es, ej);
    }
