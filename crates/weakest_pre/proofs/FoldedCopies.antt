-- Folded copies of terms, one after another.
use Rattle.std.proofs.Common.{inl, inr, ◌≡◌, ℕ, zero, suc, ◌+◌, ◌*◌, ◌<◌, ◌≤◌, Bool, true, false, List, [], ◌∷◌, ◌++◌, length, take, get_or, refl, ap, sym, subst, ◌∙◌, arith, Contains}
use Rattle.std.proofs.lemmas.Bool.{false≢true}
use Rattle.std.proofs.lemmas.List.{length_push}
use Rattle.std.proofs.lemmas.List.Elements.{Contains-get_or}
use Rattle.std.proofs.lemmas.List.Sums.{sum_by-take-le}
use Rattle.term_spec.specs.Terms.{TermReading, TermNode, RegisterNode, MemoryNode, AreTyped, HasWidth, word_value, node_value, term_value, values_from, width_of, node_at, own_gates, own_loads, own_stores, own_joins, term_gates, term_loads, term_stores, term_joins}
use Rattle.term_dag.specs.declared.nodes.Term.{Term}
use Rattle.term_dag.specs.Nodes.{IsInput}
use Rattle.term_dag.specs.Made.{Grew, InputsFrom, IsMade, moved}
use Rattle.term_dag.proofs.ListLaws.{unfolds}
use Rattle.term_dag.proofs.Ranges.{word_only}
use Rattle.term_dag.proofs.Growth.{grew_none, grew_more, inputs_none, inputs_on, inputs_more, made_grew, made_width, made_inputs}
use Rattle.term_dag.proofs.Copies.{moved_width, moved_gates, moved_loads, moved_stores, moved_joins, moved_value}
use Rattle.weakest_pre.specs.declared.facts.Facts.{Facts}
use Rattle.weakest_pre.specs.declared.facts.Runs.{Runs}
use Rattle.weakest_pre.specs.Copies.{no_term, copy_at, root_at, is_marked, AreReached, AreWithin, AreCopies, ArePicked, AreCopiesOf, IsMoved}
use Rattle.weakest_pre.specs.Known.{IsRuns}
use Rattle.weakest_pre.specs.Folded.{IsMetBy, IsKnownRegister, IsFolded, AreFoldedRoots, AreFoldedCopies, IsFoldedCopy}
use Rattle.weakest_pre.proofs.Moved.{input_moved, moved_twice}
use Rattle.weakest_pre.proofs.Copying.{operands_valued, copies_more, grew_next, picked_widths, picked_values, copied_inputs}

-- a node of the list is one of it
node_there : (source : List TermNode) (i : ℕ) (n : TermNode) → i < length source → n ≡ node_at source i → Contains source n
node_there source i n within e = subst (Contains source) (sym e) (Contains-get_or source i (MemoryNode 0) within)

-- a place that is marked, and no register
pub folded_made : (f : Facts) (source old new : List TermNode) (marks : List Bool) (roots : List Term) (i : ℕ) (copies : List Term) (n m : TermNode) (t : ℕ) →
    AreTyped source → AreReached source roots marks → i < length marks → i < length source → length copies ≡ i →
    AreCopies (IsMetBy f) source old marks copies → is_marked marks i ≡ true →
    n ≡ node_at source i → m ≡ moved (copy_at copies) n → IsMade old new m t → IsFolded (IsMetBy f) source old new marks i t
folded_made f source old new marks roots i copies n m t typed reached place within count are is e same made =
    let g = copy_at copies in
    let node = node_at source i in
    let k : IsMade old new (moved g node) t = subst (λ (z : TermNode). IsMade old new z t) (same ∙ ap (moved g) e) made in
    record {
      grew = grew_more old new (own_gates (moved g node)) (own_loads (moved g node)) (own_stores (moved g node)) (own_joins (moved g node)) 2
          (own_gates node) (own_loads node) (own_stores node) (own_joins node) 16
          (omega (arith, moved_gates g node)) (omega (arith, moved_loads g node)) (omega (arith, moved_stores g node)) (omega (arith, moved_joins g node))
          (omega arith) (made_grew old new (moved g node) t k);
      inputs = made_inputs old new (moved g node) t (IsMoved source) k
          (λ h. record { node = node; there = node_there source i node within refl; over = g; is = refl });
      typed = k.typed;
      width = λ h. made_width old new (moved g node) t (width_of node) k (moved_width g node);
      value = λ x p h.
          k.value x p.range
          ∙ moved_value x (values_from x [] source) (values_from x [] old) g node
          (operands_valued (IsMetBy f) source old marks roots i copies typed reached place within count are is x p)
          ∙ sym (unfolds x source i typed within);
    }

-- a register
pub folded_register : (f : Facts) (source old new : List TermNode) (marks : List Bool) (i register t : ℕ) (n : TermNode) (r : Runs) → AreTyped source →
    i < length source → n ≡ node_at source i → n ≡ RegisterNode 0 register →
    ((x : TermReading) → IsMetBy f x → IsRuns r (x.regs 0 register)) → IsKnownRegister old new register r t → IsFolded (IsMetBy f) source old new marks i t
folded_register f source old new marks i register t n r typed within e is known k =
    let node : node_at source i ≡ RegisterNode 0 register = sym e ∙ is in
    record {
      grew = grew_more old new 0 0 0 0 16 _ _ _ _ 16 (omega arith) (omega arith) (omega arith) (omega arith) (omega arith) k.grew;
      inputs = inputs_more old new (λ m. m ≡ RegisterNode 0 register) (IsMoved source)
          (λ m h q. record {
            node = m;
            there = node_there source i m within (q ∙ sym node);
            over = λ a. a;
            is = q ∙ ap (moved (λ a. a)) (sym q);
          }) k.inputs;
      typed = k.typed;
      width = λ h. (k.width.0, k.width.1 ∙ ap width_of (sym node));
      value = λ x p h.
          word_only x new 32 t k.typed (omega arith) k.width ∙ ap word_value (k.value x p.range (known x p))
          ∙ sym (unfolds x source i typed within ∙ ap (node_value x (values_from x [] source)) node);
    }

-- a place that is not marked
pub folded_left : (f : Facts) (source old : List TermNode) (marks : List Bool) (i t : ℕ) → AreTyped old → is_marked marks i ≡ false →
    IsFolded (IsMetBy f) source old old marks i t
folded_left f source old marks i t typed is = record {
  grew = grew_more old old 0 0 0 0 0 _ _ _ _ 16 (omega arith) (omega arith) (omega arith) (omega arith) (omega arith) (grew_none old);
  inputs = inputs_none old _;
  typed = typed;
  width = λ h. absurd (false≢true (sym is ∙ h));
  value = λ x p h. absurd (false≢true (sym is ∙ h));
}

-- the first places were folded
pub record IsFolding (P : TermReading → Type 0) (source old new : List TermNode) (marks : List Bool) (ts : List Term) (i : ℕ) : Type 0 where
  pub count : length ts ≡ i
  pub copies : AreCopies P source new marks ts
  pub grew : Grew old new (term_gates (take i source)) (term_loads (take i source)) (term_stores (take i source)) (term_joins (take i source)) (16 * i)
  pub inputs : InputsFrom old new (IsMoved source)
  pub typed : AreTyped new

-- one more
pub folding_more : (P : TermReading → Type 0) (source old mid new : List TermNode) (marks : List Bool) (copies more : List Term) (i : ℕ) (t : Term) →
    i < length source →
    IsFolding P source old mid marks copies i → IsFolded P source mid new marks i t.0 → more ≡ copies ++ t ∷ [] →
    IsFolding P source old new marks more (i + 1)
folding_more P source old mid new marks copies more i t within h k e =
    subst (λ (z : List Term). IsFolding P source old new marks z (i + 1)) (sym e) (
    record {
      count = length_push copies t ∙ ap (λ n. n + 1) h.count;
      copies = copies_more P source mid new marks copies i t _ _ _ _ _ h.count h.copies k.grew k.width k.value;
      grew = let next = grew_next source old mid new i (16 * i) 16 within h.grew k.grew in
          grew_more old new _ _ _ _ (16 * i + 16) _ _ _ _ (16 * (i + 1)) (omega arith) (omega arith) (omega arith) (omega arith) (omega arith) next;
      inputs = inputs_on old mid new (IsMoved source) h.inputs k.inputs;
      typed = k.typed;
    })

-- the roots are among them
pub folding_done : (P : TermReading → Type 0) (source old new : List TermNode) (marks : List Bool) (copies roots ts : List Term) (n : ℕ) →
    old ≡ [] → n ≡ length marks → AreReached source roots marks → IsFolding P source old new marks copies n → ArePicked copies roots (length roots) ts →
    AreFoldedRoots P source new roots ts
folding_done P source old new marks copies roots ts n none all reached h picks =
    let count : length copies ≡ length marks = h.count ∙ all in
    let g = h.grew in
    record {
      gates = omega (arith, g.gates, sum_by-take-le own_gates source n, ap term_gates none);
      loads = omega (arith, g.loads, sum_by-take-le own_loads source n, ap term_loads none);
      stores = omega (arith, g.stores, sum_by-take-le own_stores source n, ap term_stores none);
      joins = omega (arith, g.joins, sum_by-take-le own_joins source n, ap term_joins none);
      inputs = subst (λ (z : List TermNode). InputsFrom z new (IsMoved source)) none h.inputs;
      typed = h.typed;
      count = picks.count;
      widths = picked_widths P source new marks copies roots ts reached count h.copies picks;
      values = picked_values P source new marks copies roots ts reached count h.copies picks;
    }

-- copies of the terms as they are
pub folded_as_are : (P : TermReading → Type 0) (source old new : List TermNode) (roots ts : List Term) → AreCopiesOf source old new roots ts →
    AreFoldedCopies P source old new roots ts
folded_as_are P source old new roots ts h = record {
  grew = h.grew;
  inputs = copied_inputs source old new roots ts h;
  typed = h.typed;
  count = h.count;
  widths = h.widths;
  values = λ x p. h.values x;
}

-- the folded terms are of their list
pub folded_within : (P : TermReading → Type 0) (source scratch : List TermNode) (roots ts : List Term) → AreFoldedRoots P source scratch roots ts →
    AreWithin ts (length scratch)
folded_within P source scratch roots ts h k l = (h.widths k (let c = h.count in omega arith)).0

-- an empty list has no node
nothing_there : (m : TermNode) (A : Type 0) → Contains [] m → A
nothing_there m A c = let l = c.1 in absurd (omega arith)

-- copies of the folded terms, where those have no more nodes
pub folded_onto : (P : TermReading → Type 0) (source scratch old new : List TermNode) (roots folded ts : List Term) → length scratch ≤ length source →
    AreFoldedRoots P source scratch roots folded → AreCopiesOf scratch old new folded ts → AreFoldedCopies P source old new roots ts
folded_onto P source scratch old new roots folded ts few h k =
    let as_many = h.count in
    record {
      grew = grew_more old new _ _ _ _ (length scratch) _ _ _ _ (length source) h.gates h.loads h.stores h.joins few k.grew;
      inputs = inputs_more old new (IsMoved scratch) (IsMoved source)
          (λ m i c. elim (h.inputs c.node c.there (input_moved c.over c.node (subst IsInput c.is i))) [
            | inl none ↦ nothing_there c.node (IsMoved source m) none
            | inr k ↦ record {
              node = k.node;
              there = k.there;
              over = λ a. c.over (k.over a);
              is = c.is ∙ ap (moved c.over) k.is ∙ moved_twice c.over k.over k.node;
            }
          ]) (copied_inputs scratch old new folded ts k);
      typed = k.typed;
      count = k.count ∙ as_many;
      widths = λ n l. let w = k.widths n (omega arith) in (w.0, w.1 ∙ (h.widths n l).1);
      values = λ x p n l. k.values x n (omega arith) ∙ h.values x p n l;
    }

-- an element, whatever stands for none
get_or_inside : (xs : List Term) (i : ℕ) (d e : Term) → i < length xs → get_or xs i d ≡ get_or xs i e
get_or_inside [] i d e h = absurd (omega arith)
get_or_inside (x ∷ xs) zero d e h = refl
get_or_inside (x ∷ xs) (suc i) d e h = get_or_inside xs i d e (omega arith)

-- the copy of one term
pub folded_one : (P : TermReading → Type 0) (source old new : List TermNode) (root t : Term) (ts : List Term) →
    AreFoldedCopies P source old new (root ∷ []) ts → t ≡ get_or ts 0 t → IsFoldedCopy P source old new root.0 t.0
folded_one P source old new root t ts h e =
    let count = h.count in
    let is : root_at ts 0 ≡ t.0 = ap (λ (z : Term). z.0) (get_or_inside ts 0 no_term t (omega arith) ∙ sym e) in
    record {
      grew = h.grew;
      inputs = h.inputs;
      typed = h.typed;
      width = subst (HasWidth new (width_of (node_at source root.0))) is (h.widths 0 (omega arith));
      value = λ x p. ap (term_value x new) (sym is) ∙ h.values x p 0 (omega arith);
    }
