-- The first nodes of a list, and their words.
use Rattle.std.proofs.Common.{◌≡◌, ℕ, zero, suc, ◌+◌, ◌<◌, List, [], ◌∷◌, ◌++◌, length, take, get_or, refl, ap, sym, ◌∙◌, subst, arith, inl, inr}
use Rattle.std.specs.Prelude.{slice_index}
use Rattle.std.proofs.lemmas.Bool.{cases_lt}
use Rattle.std.proofs.lemmas.List.{get_or_append_left}
use Rattle.term_spec.specs.Terms.{TermReading, TermNode, word_value, value_at, node_value, values_from, term_value, node_at, IsTypedOver, AreTypedFrom, AreTyped}
use Rattle.term_dag.specs.declared.nodes.Node.{Node}
use Rattle.term_dag.specs.Nodes.{node_of, nodes_of}
use Rattle.term_dag.specs.Readings.{AreWords}
use Rattle.term_dag.proofs.ListLaws.{keeps, values_append, length_values, longer, last, typed_before}

nodes_take : (ns : List Node) (i : ℕ) → nodes_of (take i ns) ≡ take i (nodes_of ns)
nodes_take ns zero = refl
nodes_take [] (suc i) = refl
nodes_take (n ∷ ns) (suc i) = ap (λ l. node_of n ∷ l) (nodes_take ns i)

typed_take_from : (before ns : List TermNode) (i : ℕ) → AreTypedFrom before ns → AreTypedFrom before (take i ns)
typed_take_from before ns zero h = tt
typed_take_from before [] (suc i) h = tt
typed_take_from before (n ∷ ns) (suc i) h = (h.0, typed_take_from (before ++ n ∷ []) ns i h.1)

pub typed_take : (ns : List Node) (i : ℕ) → AreTyped (nodes_of ns) → AreTyped (nodes_of (take i ns))
typed_take ns i h = subst AreTyped (sym (nodes_take ns i)) (typed_take_from [] (nodes_of ns) i h)

node_here : (ns : List Node) (i : ℕ) (d : Node) → i < length (nodes_of ns) → node_of (get_or ns i d) ≡ node_at (nodes_of ns) i
node_here [] i d h = absurd (omega arith)
node_here (n ∷ ns) zero d h = refl
node_here (n ∷ ns) (suc i) d h = node_here ns i d (omega arith)

within : (ns : List Node) (i : ℕ) → i < length ns → i < length (nodes_of ns)
within [] i h = absurd (omega arith)
within (n ∷ ns) zero h = omega arith
within (n ∷ ns) (suc i) h = omega (arith, within ns i (omega arith))

-- a node is typed over those before it
pub over_take : (ns : List Node) (i : ℕ) (d : Node) → AreTyped (nodes_of ns) → i < length ns → IsTypedOver (nodes_of (take i ns)) (node_of (get_or ns i d))
over_take ns i d h l =
    let k = within ns i l in
    subst (λ (z : List TermNode). IsTypedOver z (node_of (get_or ns i d))) (sym (nodes_take ns i))
    (typed_before (nodes_of ns) i (node_of (get_or ns i d)) h k (node_here ns i d k))

one_more : (ns : List Node) (i : ℕ) (d : Node) → i < length ns → nodes_of (take (suc i) ns) ≡ nodes_of (take i ns) ++ node_of (get_or ns i d) ∷ []
one_more [] i d h = absurd (omega arith)
one_more (n ∷ ns) zero d h = refl
one_more (n ∷ ns) (suc i) d h = ap (λ l. node_of n ∷ l) (one_more ns i d (omega arith))

-- the word of one more node
pushed : (x : TermReading) (ns : List TermNode) (n : TermNode) (ws : List ℕ) (w : ℕ) → AreWords x ns ws → w ≡ (node_value x (values_from x [] ns) n).word →
    AreWords x (ns ++ n ∷ []) (ws ++ w ∷ [])
unfolding values_from
pushed x ns n ws w a e = record {
  count = omega (arith, a.count, longer ws w, longer ns n);
  each = λ t l. elim (cases_lt t (length ns)) [
    | inl k ↦ get_or_append_left ws (w ∷ []) 0 t (omega (arith, a.count)) ∙ a.each t k ∙ ap (λ z. z.word) (sym (keeps x ns (n ∷ []) t k))
    | inr k ↦ (
        let v = node_value x (values_from x [] ns) n in
        let i : t ≡ length ws = omega (arith, longer ns n, a.count) in
        let j : t ≡ length (values_from x [] ns) = omega (arith, longer ns n, length_values x [] ns) in
        ap (slice_index (ws ++ w ∷ [])) i ∙ last ws w 0 ∙ e
        ∙ sym (
        ap (λ z. (term_value x (ns ++ n ∷ []) z).word) j ∙ ap (λ z. (value_at z (length (values_from x [] ns))).word) (values_append x [] ns (n ∷ []))
        ∙ ap (λ z. z.word) (last (values_from x [] ns) v (word_value 0))))
  ];
}

pub words_more : (x : TermReading) (ns : List Node) (i : ℕ) (d : Node) (ws : List ℕ) (w : ℕ) → i < length ns → AreWords x (nodes_of (take i ns)) ws →
    w ≡ (node_value x (values_from x [] (nodes_of (take i ns))) (node_of (get_or ns i d))).word → AreWords x (nodes_of (take (i + 1) ns)) (ws ++ w ∷ [])
words_more x ns i d ws w l a e =
    let f : i + 1 ≡ suc i = omega arith in
    subst (λ (z : List TermNode). AreWords x z (ws ++ w ∷ [])) (sym (ap (λ k. nodes_of (take k ns)) f ∙ one_more ns i d l))
    (pushed x (nodes_of (take i ns)) (node_of (get_or ns i d)) ws w a e)
