-- Copies of terms, one after another.
use Rattle.std.proofs.Common.{inl, inr, ◌≡◌, ◌⊎◌, ℕ, ◌+◌, ◌<◌, ◌≤◌, Bool, true, false, List, [], ◌∷◌, ◌++◌, length, take, refl, ap, sym, subst, ◌∙◌, arith, Contains}
use Rattle.std.specs.List.{AllByRecursion}
use Rattle.std.proofs.lemmas.Bool.{false≢true}
use Rattle.std.proofs.lemmas.Bool.Decides.{eqb_tells}
use Rattle.std.proofs.lemmas.List.{get_or_append_left, length_push}
use Rattle.std.proofs.Math.Seq.{get_or-append_seam}
use Rattle.std.proofs.lemmas.List.Elements.{Contains-get_or}
use Rattle.std.proofs.lemmas.List.Sums.{sum_by_more, sum_by-take-le}
use Rattle.term_spec.specs.Terms.{TermReading, TermNode, MemoryNode, AreTyped, IsTypedOver, HasWidth, term_value, width_of, node_at, own_gates, own_loads, own_stores, own_joins, term_gates, term_loads, term_stores, term_joins}
use Rattle.term_dag.specs.declared.nodes.Term.{Term}
use Rattle.term_dag.specs.Made.{Grew, InputsFrom, IsInterned, moved, operands}
use Rattle.term_dag.proofs.ListLaws.{typed_here, unfolds}
use Rattle.term_dag.proofs.Growth.{grew_none, grew_on, grew_more, grew_width, interned_grew, interned_width}
use Rattle.term_dag.proofs.Copies.{moved_width, moved_gates, moved_loads, moved_stores, moved_joins, moved_typed, copied}
use Rattle.weakest_pre.specs.Copies.{no_term, copy_at, root_at, is_marked, IsMoved, Always, AreReached, AreWithin, AreCopies, ArePicked, IsOfMarked, IsCopy, AreCopiesOf}
use Rattle.weakest_pre.proofs.Marks.{all_by_both, operands_before, marked_within}

-- the operands of a marked place have copies
pub operands_copied : (P : TermReading → Type 0) (source dag : List TermNode) (marks : List Bool) (roots : List Term) (i : ℕ) (copies : List Term) → AreTyped source →
    AreReached source roots marks → i < length marks →
    i < length source → length copies ≡ i → AreCopies P source dag marks copies → is_marked marks i ≡ true →
    AllByRecursion (λ a. HasWidth dag (width_of (node_at source a)) (copy_at copies a)) (operands (node_at source i))
operands_copied P source dag marks roots i copies typed reached place within count are is =
    all_by_both (λ a. a < i) (λ a. is_marked marks a ≡ true) (λ a. HasWidth dag (width_of (node_at source a)) (copy_at copies a))
    (λ a l m. are.widths a (omega arith) m)
    (operands (node_at source i)) (operands_before source i typed within) (reached.closed i (omega arith) place is)

-- so a node over them is typed
pub copy_typed : (P : TermReading → Type 0) (source dag : List TermNode) (marks : List Bool) (roots : List Term) (i : ℕ) (copies : List Term) (n : TermNode) →
    AreTyped source → AreReached source roots marks →
    i < length marks → i < length source → length copies ≡ i → AreCopies P source dag marks copies → is_marked marks i ≡ true → n ≡ node_at source i →
    IsTypedOver dag (moved (copy_at copies) n)
copy_typed P source dag marks roots i copies n typed reached place within count are is e =
    subst (λ (m : TermNode). IsTypedOver dag (moved (copy_at copies) m)) (sym e)
    (moved_typed source dag (copy_at copies) (node_at source i) (typed_here source i (node_at source i) typed within refl)
    (operands_copied P source dag marks roots i copies typed reached place within count are is))

-- and the copies of its operands have their values
pub operands_valued : (P : TermReading → Type 0) (source dag : List TermNode) (marks : List Bool) (roots : List Term) (i : ℕ) (copies : List Term) → AreTyped source →
    AreReached source roots marks → i < length marks →
    i < length source → length copies ≡ i → AreCopies P source dag marks copies → is_marked marks i ≡ true → (x : TermReading) → P x →
    AllByRecursion (λ a. term_value x dag (copy_at copies a) ≡ term_value x source a) (operands (node_at source i))
operands_valued P source dag marks roots i copies typed reached place within count are is x p =
    all_by_both (λ a. a < i) (λ a. is_marked marks a ≡ true) (λ a. term_value x dag (copy_at copies a) ≡ term_value x source a)
    (λ a l m. are.values x p a (omega arith) m)
    (operands (node_at source i)) (operands_before source i typed within) (reached.closed i (omega arith) place is)

-- a place that is marked has its copy
pub copy_made : (source old new : List TermNode) (marks : List Bool) (roots : List Term) (i : ℕ) (copies : List Term) (n m : TermNode) (t : ℕ) → AreTyped source →
    AreReached source roots marks → i < length marks → i < length source → length copies ≡ i → AreCopies Always source old marks copies → is_marked marks i ≡ true →
    n ≡ node_at source i → m ≡ moved (copy_at copies) n → IsInterned old new m t → IsCopy source old new marks i t
copy_made source old new marks roots i copies n m t typed reached place within count are is e same k =
    let f = copy_at copies in
    let node = node_at source i in
    let kept : IsInterned old new (moved f node) t = subst (λ (z : TermNode). IsInterned old new z t) (same ∙ ap (moved f) e) k in
    record {
      grew = grew_more old new (own_gates (moved f node)) (own_loads (moved f node)) (own_stores (moved f node)) (own_joins (moved f node)) 1
          (own_gates node) (own_loads node) (own_stores node) (own_joins node) 1
          (omega (arith, moved_gates f node)) (omega (arith, moved_loads f node)) (omega (arith, moved_stores f node)) (omega (arith, moved_joins f node))
          (omega arith)
          (interned_grew old new (moved f node) t kept);
      only = λ z c.
          elim (kept.only z c) [
            | inl h ↦ inl h
            | inr h ↦ inr (record { at = i; mark = is; within = within; over = f; is = h })
          ];
      typed = kept.typed;
      width = λ h. interned_width old new (moved f node) t (width_of node) kept (moved_width f node);
      value = λ x h.
          copied x source old new f node t (operands_valued Always source old marks roots i copies typed reached place within count are is x tt) kept
          ∙ sym (unfolds x source i typed within);
    }

-- a place that is not marked has none
pub copy_left : (source old : List TermNode) (marks : List Bool) (i t : ℕ) → AreTyped old → is_marked marks i ≡ false → IsCopy source old old marks i t
copy_left source old marks i t typed is = record {
  grew = grew_more old old 0 0 0 0 0 _ _ _ _ 1 (omega arith) (omega arith) (omega arith) (omega arith) (omega arith) (grew_none old);
  only = λ m c. inl c;
  typed = typed;
  width = λ h. absurd (false≢true (sym is ∙ h));
  value = λ x h. absurd (false≢true (sym is ∙ h));
}

-- the first places were copied
pub record IsCopying (source old new : List TermNode) (marks : List Bool) (ts : List Term) (i : ℕ) : Type 0 where
  pub count : length ts ≡ i
  pub copies : AreCopies Always source new marks ts
  pub grew : Grew old new (term_gates (take i source)) (term_loads (take i source)) (term_stores (take i source)) (term_joins (take i source)) i
  pub only : (m : TermNode) → Contains new m → Contains old m ⊎ IsOfMarked source marks m
  pub typed : AreTyped new

-- the copy at the end of a list
last_copy : (copies : List Term) (t : Term) (i : ℕ) → length copies ≡ i → copy_at (copies ++ t ∷ []) i ≡ t.0
last_copy copies t i e = subst (λ (j : ℕ). copy_at (copies ++ t ∷ []) j ≡ t.0) e (ap (λ z. z.0) (get_or-append_seam copies t [] no_term))

-- one more copy
pub copies_more : (P : TermReading → Type 0) (source mid new : List TermNode) (marks : List Bool) (copies : List Term) (i : ℕ) (t : Term) (g l s k n : ℕ) →
    length copies ≡ i →
    AreCopies P source mid marks copies → Grew mid new g l s k n → (is_marked marks i ≡ true → HasWidth new (width_of (node_at source i)) t.0) →
    ((x : TermReading) → P x → is_marked marks i ≡ true → term_value x new t.0 ≡ term_value x source i) →
    AreCopies P source new marks (copies ++ t ∷ [])
copies_more P source mid new marks copies i t g l s k n count are grew wide same =
    let long : length (copies ++ t ∷ []) ≡ i + 1 = length_push copies t ∙ ap (λ n. n + 1) count in
    let at_old = λ (j : ℕ) (l : j < length copies). ap (λ (z : Term). z.0) (get_or_append_left copies (t ∷ []) no_term j l) in
    record {
      widths = λ j l m.
          elim (eqb_tells j i) [
            | inl e ↦ subst (HasWidth new (width_of (node_at source j))) (ap (copy_at (copies ++ t ∷ [])) (sym e.1)) (
                subst (HasWidth new (width_of (node_at source j))) (sym (last_copy copies t i count))
                (subst (λ (z : ℕ). HasWidth new (width_of (node_at source z)) t.0) (sym e.1) (wide (subst
                (λ (z : ℕ). is_marked marks z ≡ true) e.1 m))))
            | inr other ↦ let differs = other.1 in let inside : j < length copies = omega (arith, l, long, count, differs) in
                subst (HasWidth new (width_of (node_at source j))) (sym (at_old j inside))
                (grew_width mid new _ _ _ _ _ (width_of (node_at source j)) (copy_at copies j) grew (are.widths j inside m))
          ];
      values = λ x p j l m.
          elim (eqb_tells j i) [
            | inl e ↦ ap (λ (z : ℕ). term_value x new (copy_at (copies ++ t ∷ []) z)) e.1 ∙ ap (term_value x new) (last_copy copies t i count)
                ∙ same x p (subst (λ (z : ℕ). is_marked marks z ≡ true) e.1 m) ∙ ap (term_value x source) (sym e.1)
            | inr other ↦ let differs = other.1 in let inside : j < length copies = omega (arith, l, long, count, differs) in
                ap (term_value x new) (at_old j inside) ∙ grew.keeps x (copy_at copies j) (are.widths j inside m).0 ∙ are.values x p j inside m
          ];
    }

-- what the places up to the next cost
pub grew_next : (source old mid new : List TermNode) (i n m : ℕ) → i < length source →
    Grew old mid (term_gates (take i source)) (term_loads (take i source)) (term_stores (take i source)) (term_joins (take i source)) n →
    Grew mid new (own_gates (node_at source i)) (own_loads (node_at source i)) (own_stores (node_at source i)) (own_joins (node_at source i)) m →
    Grew old new (term_gates (take (i + 1) source)) (term_loads (take (i + 1) source)) (term_stores (take (i + 1) source)) (term_joins (take (i + 1) source))
    (n + m)
grew_next source old mid new i n m within h k =
    grew_more old new (term_gates (take i source) + own_gates (node_at source i)) (term_loads (take i source) + own_loads (node_at source i))
    (term_stores (take i source) + own_stores (node_at source i)) (term_joins (take i source) + own_joins (node_at source i)) (n + m) _ _ _ _ _
    (omega (arith, sum_by_more own_gates source i (MemoryNode 0) within)) (omega (arith, sum_by_more own_loads source i (MemoryNode 0) within))
    (omega (arith, sum_by_more own_stores source i (MemoryNode 0) within)) (omega (arith, sum_by_more own_joins source i (MemoryNode 0) within)) (omega arith)
    (grew_on old mid new _ _ _ _ _ _ _ _ _ _ h k)

-- one more
pub copying_more : (source old mid new : List TermNode) (marks : List Bool) (copies more : List Term) (i : ℕ) (t : Term) → i < length source →
    IsCopying source old mid marks copies i → IsCopy source mid new marks i t.0 → more ≡ copies ++ t ∷ [] → IsCopying source old new marks more (i + 1)
copying_more source old mid new marks copies more i t within h k e =
    subst (λ (z : List Term). IsCopying source old new marks z (i + 1)) (sym e) (
    record {
      count = length_push copies t ∙ ap (λ n. n + 1) h.count;
      copies = copies_more Always source mid new marks copies i t _ _ _ _ _ h.count h.copies k.grew k.width (λ x p m. k.value x m);
      grew = grew_next source old mid new i i 1 within h.grew k.grew;
      only = λ m c. elim (k.only m c) [ inl o ↦ h.only m o | inr o ↦ inr o ];
      typed = k.typed;
    })

-- the inputs of copies are those of the list
pub copied_inputs : (source old new : List TermNode) (roots ts : List Term) → AreCopiesOf source old new roots ts → InputsFrom old new (IsMoved source)
copied_inputs source old new roots ts h m c i =
    elim (h.only m c) [
      | inl o ↦ inl o
      | inr o ↦ inr (record {
        node = node_at source o.at;
        there = Contains-get_or source o.at (MemoryNode 0) o.within;
        over = o.over;
        is = o.is;
      })
    ]

-- the roots have copies
pub roots_copied : (source : List TermNode) (marks : List Bool) (copies roots : List Term) → AreReached source roots marks → length copies ≡ length marks →
    AreWithin roots (length copies)
roots_copied source marks copies roots reached count k l = let m = marked_within marks (root_at roots k) (reached.first k l) in omega arith

-- those that are picked have the widths of the roots
pub picked_widths : (P : TermReading → Type 0) (source new : List TermNode) (marks : List Bool) (copies roots ts : List Term) → AreReached source roots marks →
    length copies ≡ length marks → AreCopies P source new marks copies → ArePicked copies roots (length roots) ts →
    (k : ℕ) → k < length roots → HasWidth new (width_of (node_at source (root_at roots k))) (root_at ts k)
picked_widths P source new marks copies roots ts reached count are picks k l =
    subst (HasWidth new (width_of (node_at source (root_at roots k)))) (sym (picks.each k l))
    (are.widths (root_at roots k) (roots_copied source marks copies roots reached count k l) (reached.first k l))

-- and their values
pub picked_values : (P : TermReading → Type 0) (source new : List TermNode) (marks : List Bool) (copies roots ts : List Term) → AreReached source roots marks →
    length copies ≡ length marks → AreCopies P source new marks copies → ArePicked copies roots (length roots) ts →
    (x : TermReading) → P x → (k : ℕ) → k < length roots → term_value x new (root_at ts k) ≡ term_value x source (root_at roots k)
picked_values P source new marks copies roots ts reached count are picks x p k l =
    ap (term_value x new) (picks.each k l)
    ∙ are.values x p (root_at roots k) (roots_copied source marks copies roots reached count k l) (reached.first k l)

-- the roots are among them
pub copying_done : (source old new : List TermNode) (marks : List Bool) (copies roots ts : List Term) (n : ℕ) → n ≡ length marks →
    AreReached source roots marks → IsCopying source old new marks copies n → ArePicked copies roots (length roots) ts → AreCopiesOf source old new roots ts
copying_done source old new marks copies roots ts n all reached h picks =
    let few : n ≤ length source = let w = reached.within in omega arith in
    let count : length copies ≡ length marks = h.count ∙ all in
    record {
      grew = grew_more old new _ _ _ _ n _ _ _ _ (length source) (sum_by-take-le own_gates source n) (sum_by-take-le own_loads source n)
          (sum_by-take-le own_stores source n)
          (sum_by-take-le own_joins source n) few h.grew;
      only = λ m c.
          elim (h.only m c) [
            | inl o ↦ inl o
            | inr o ↦ inr (record { at = o.at; reached = reached.only o.at o.mark; within = o.within; over = o.over; is = o.is })
          ];
      typed = h.typed;
      count = picks.count;
      widths = picked_widths Always source new marks copies roots ts reached count h.copies picks;
      values = λ x. picked_values Always source new marks copies roots ts reached count h.copies picks x tt;
    }
