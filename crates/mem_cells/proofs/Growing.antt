-- Cells that grow by nodes and reads.
use Rattle.std.proofs.Common.{◌≡◌, ℕ, ◌+◌, ◌<◌, ◌≤◌, List, [], ◌∷◌, ◌++◌, length, length-append, refl, ap, sym, ◌∙◌, subst, arith, inl, inr, append-nil, append_assoc}
use Rattle.std.specs.Prelude.{Bool, slice_index, map, Contains}
use Rattle.term_dag.specs.declared.nodes.Term.{Term}
use Rattle.std.proofs.lemmas.Bool.{cases_lt}
use Rattle.std.proofs.lemmas.List.{get_or_append_left}
use Rattle.std.proofs.lemmas.List.Elements.{Contains-get_or, Contains-append_left}
use Rattle.term_spec.specs.Terms.{TermReading, TermNode, RegisterNode, FlagNode, ChoiceNode, BaseNode, MemoryNode, ConstantNode, BinaryNode, NotNode, SelectNode, ExtractNode, ConcatNode, ExtendNode, LoadNode, StoreNode, JoinNode, TakeNode, HasWidth, node_at, term_word, width_of}
use Rattle.frame_spec.specs.FrameWalk.{UnrolledProgram}
use Rattle.frame_terms.specs.PassiveFrames.{NamesMemory, IsNamedBelow}
use Rattle.term_dag.specs.Nodes.{IsInput}
use Rattle.term_dag.specs.Made.{moved, Extends, IsMade, IsInterned}
use Rattle.term_dag.proofs.ListLaws.{last}
use Rattle.term_dag.proofs.Growth.{both_extend}
use Rattle.term_dag.proofs.Sharing.{kept_values, kept_nodes, kept_width}
use Rattle.question_form.specs.declared.questions.Question.{Question}
use Rattle.question_form.specs.FrameQuestions.{frame_of_question, heads_of_question}
use Rattle.mem_cells.specs.declared.building.Build.{Build}
use Rattle.mem_cells.specs.Parts.{HasPart}
use Rattle.mem_cells.specs.Building.{Cellular, read_places, IsBuilt, GivesAll, Grown, IsByte, IsNumber, IsOwnNode}

-- nodes stay
pub node_kept : (old new : List TermNode) (n : TermNode) → Extends old new → Contains old n → Contains new n
node_kept old new n e h = subst (λ (z : List TermNode). Contains z n) (sym e.1) (Contains-append_left old e.0 n h)

-- the node at a place is one of them
pub node_in : (nodes : List TermNode) (n : TermNode) (t : ℕ) → t < length nodes → node_at nodes t ≡ n → Contains nodes n
node_in nodes n t l e = subst (Contains nodes) e (Contains-get_or nodes t (MemoryNode 0) l)

-- only what names something of a reading has to be named
pub named_by : (u : UnrolledProgram) (heads : Bool) (r : ℕ) (n : TermNode) → (IsInput n → IsNamedBelow u heads r n) → IsNamedBelow u heads r n
named_by u heads r (RegisterNode p a) f = f tt
named_by u heads r (FlagNode p a) f = f tt
named_by u heads r (ChoiceNode a) f = f tt
named_by u heads r (BaseNode p a) f = f tt
named_by u heads r (MemoryNode p) f = f tt
named_by u heads r (ConstantNode a b) f = tt
named_by u heads r (BinaryNode a b c d) f = tt
named_by u heads r (NotNode a b) f = tt
named_by u heads r (SelectNode a b c d) f = tt
named_by u heads r (ExtractNode a b c) f = tt
named_by u heads r (ConcatNode a b c d) f = tt
named_by u heads r (ExtendNode a b c d) f = tt
named_by u heads r (LoadNode a b c d) f = tt
named_by u heads r (StoreNode a b c d e) f = tt
named_by u heads r (JoinNode a b c) f = tt
named_by u heads r (TakeNode a b c p) f = f tt

-- so is a node over other terms
pub named_moved : (u : UnrolledProgram) (heads : Bool) (r : ℕ) (f : ℕ → ℕ) (n : TermNode) → IsNamedBelow u heads r n → IsNamedBelow u heads r (moved f n)
named_moved u heads r f (RegisterNode p a) h = h
named_moved u heads r f (FlagNode p a) h = h
named_moved u heads r f (ChoiceNode a) h = h
named_moved u heads r f (BaseNode p a) h = h
named_moved u heads r f (MemoryNode p) h = h
named_moved u heads r f (ConstantNode a b) h = h
named_moved u heads r f (BinaryNode a b c d) h = h
named_moved u heads r f (NotNode a b) h = h
named_moved u heads r f (SelectNode a b c d) h = h
named_moved u heads r f (ExtractNode a b c) h = h
named_moved u heads r f (ConcatNode a b c d) h = h
named_moved u heads r f (ExtendNode a b c d) h = h
named_moved u heads r f (LoadNode a b c d) h = h
named_moved u heads r f (StoreNode a b c d e) h = h
named_moved u heads r f (JoinNode a b c) h = h
named_moved u heads r f (TakeNode a b c p) h = h

-- what is named below a number is named below a greater one
pub named_more : (u : UnrolledProgram) (heads : Bool) (r s : ℕ) (n : TermNode) → r ≤ s → IsNamedBelow u heads r n → IsNamedBelow u heads s n
named_more u heads r s (RegisterNode part a) l h = h
named_more u heads r s (FlagNode part a) l h = h
named_more u heads r s (ChoiceNode a) l h = h
named_more u heads r s (BaseNode part a) l h = (h.0, omega (arith, l, h.1))
named_more u heads r s (MemoryNode part) l h = h
named_more u heads r s (ConstantNode a b) l h = tt
named_more u heads r s (BinaryNode a b c d) l h = tt
named_more u heads r s (NotNode a b) l h = tt
named_more u heads r s (SelectNode a b c d) l h = tt
named_more u heads r s (ExtractNode a b c) l h = tt
named_more u heads r s (ConcatNode a b c d) l h = tt
named_more u heads r s (ExtendNode a b c d) l h = tt
named_more u heads r s (LoadNode a b c d) l h = tt
named_more u heads r s (StoreNode a b c d e) l h = tt
named_more u heads r s (JoinNode a b c) l h = tt
named_more u heads r s (TakeNode a b c p) l h = h

early_kept : (u : UnrolledProgram) (heads : Bool) (old new : List TermNode) (ps : List ℕ) (j i : ℕ) → Cellular u heads old ps → Extends old new →
    j < length ps →
    i ≤ slice_index ps j → IsNamedBelow u heads j (node_at new i)
early_kept u heads old new ps j i c e l h = subst (IsNamedBelow u heads j) (sym (kept_nodes old new e i (omega (arith, (c.addresses j l).0)))) (c.early j i l h)

-- cells with a node that was made
pub made_cellular : (u : UnrolledProgram) (heads : Bool) (old new : List TermNode) (ps : List ℕ) (n : TermNode) (t : ℕ) → Cellular u heads old ps →
    IsMade old new n t →
    IsOwnNode u heads (length ps) old n → Cellular u heads new ps
made_cellular u heads old new ps n t c m o = record {
  typed = m.typed;
  named = λ p h. named_by u heads (length ps) p (λ i. elim (m.named p h i) [
    | inl k ↦ c.named p k
    | inr e ↦ subst (IsNamedBelow u heads (length ps)) (sym e) o.named
  ]);
  words = λ p h. elim (m.words o.word p h) [ inl k ↦ c.words p k | inr k ↦ k ];
  loads = omega (arith, m.cost.loads, c.loads, o.loads);
  addresses = λ j l. kept_width old new m.extends 32 (slice_index ps j) (c.addresses j l);
  early = λ j i l h. early_kept u heads old new ps j i c m.extends l h;
  read = λ j l. let r = c.read j l in (r.0, node_kept old new (BaseNode r.0 j) m.extends r.1);
}

-- cells with a node that was kept as it is
pub kept_cellular : (u : UnrolledProgram) (heads : Bool) (old new : List TermNode) (ps : List ℕ) (n : TermNode) (t : ℕ) → Cellular u heads old ps →
    IsInterned old new n t →
    IsOwnNode u heads (length ps) old n → Cellular u heads new ps
kept_cellular u heads old new ps n t c m o = record {
  typed = m.typed;
  named = λ p h. elim (m.only p h) [ inl k ↦ c.named p k | inr e ↦ subst (IsNamedBelow u heads (length ps)) (sym e) o.named ];
  words = λ p h. elim (m.only p h) [ inl k ↦ c.words p k | inr e ↦ omega (arith, ap width_of e, o.word) ];
  loads = omega (arith, m.cost.loads, c.loads, o.loads);
  addresses = λ j l. kept_width old new m.extends 32 (slice_index ps j) (c.addresses j l);
  early = λ j i l h. early_kept u heads old new ps j i c m.extends l h;
  read = λ j l. let r = c.read j l in (r.0, node_kept old new (BaseNode r.0 j) m.extends r.1);
}

-- the elements of a list with one more
pub pushed_at : (ps : List ℕ) (a j : ℕ) → j < length ps → slice_index (ps ++ a ∷ []) j ≡ slice_index ps j
pushed_at ps a j l = get_or_append_left ps (a ∷ []) 0 j l

pub pushed_last : (ps : List ℕ) (a j : ℕ) → j ≡ length ps → slice_index (ps ++ a ∷ []) j ≡ a
pushed_last ps a j e = ap (slice_index (ps ++ a ∷ [])) e ∙ last ps a 0

-- cells with a read of an address
pub read_cellular : (u : UnrolledProgram) (heads : Bool) (old new : List TermNode) (ps : List ℕ) (part a t : ℕ) → Cellular u heads old ps →
    IsInterned old new (BaseNode part (length ps)) t → NamesMemory u heads part → HasWidth old 32 a → Cellular u heads new (ps ++ a ∷ [])
read_cellular u heads old new ps part a t c m n w =
    let l = length-append ps (a ∷ []) in
    record {
      typed = m.typed;
      named = λ p h. elim (m.only p h) [
        | inl k ↦ named_more u heads (length ps) (length (ps ++ a ∷ [])) p (omega (arith, l)) (c.named p k)
        | inr e ↦ subst (IsNamedBelow u heads (length (ps ++ a ∷ []))) (sym e) (n, omega (arith, l))
      ];
      words = λ p h. elim (m.only p h) [ inl k ↦ c.words p k | inr e ↦ omega (arith, ap width_of e) ];
      loads = omega (arith, m.cost.loads, c.loads);
      addresses = λ j k. elim (cases_lt j (length ps)) [
        | inl q ↦ subst (HasWidth new 32) (sym (pushed_at ps a j q)) (kept_width old new m.extends 32 (slice_index ps j) (c.addresses j q))
        | inr q ↦ subst (HasWidth new 32) (sym (pushed_last ps a j (omega (arith, l)))) (kept_width old new m.extends 32 a w)
      ];
      early = λ j i k h. elim (cases_lt j (length ps)) [
        | inl q ↦ early_kept u heads old new ps j i c m.extends q (subst (λ (z : ℕ). i ≤ z) (pushed_at ps a j q) h)
        | inr q ↦ (
            let e : j ≡ length ps = omega (arith, l) in
            let b : i < length old = omega (arith, w.0, subst (λ (z : ℕ). i ≤ z) (pushed_last ps a j e) h) in
            subst (λ (z : ℕ). IsNamedBelow u heads z (node_at new i)) (sym e)
            (subst (IsNamedBelow u heads (length ps)) (sym (kept_nodes old new m.extends i b)) (c.named (node_at old i) (Contains-get_or old i
            (MemoryNode 0) b))))
      ];
      read = λ j k. elim (cases_lt j (length ps)) [
        | inl q ↦ (let r = c.read j q in (r.0, node_kept old new (BaseNode r.0 j) m.extends r.1))
        | inr q ↦ (
            let e : j ≡ length ps = omega (arith, l) in
            (part, subst (λ (z : ℕ). Contains new (BaseNode part z)) (sym e) (node_in new (BaseNode part (length ps)) t m.within m.stored)))
      ];
    }

-- parts stay as cells of a question are built
pub part_kept : (a b : Build) (p : ℕ) → b.question ≡ a.question → HasPart a p → HasPart b p
part_kept a b p e h = subst (λ (z : Question). NamesMemory (frame_of_question z) (heads_of_question z) p) (ap (λ z. z.now) (sym e)) h

-- one growth after another
pub grown_on : (a b c : Build) (g r h s : ℕ) → Grown a b g r → Grown b c h s → Grown a c (g + h) (r + s)
grown_on a b c g r h s p q = record {
  question = q.question ∙ p.question;
  built = q.built;
  extends = both_extend a.dag b.dag c.dag p.extends q.extends;
  more = (p.more.0 ++ q.more.0, q.more.1 ∙ ap (λ z. z ++ q.more.0) p.more.1 ∙ append_assoc (read_places a) p.more.0 q.more.0);
  gates = omega (arith, p.gates, q.gates);
  reads = omega (arith, p.reads, q.reads);
}

-- no growth
pub grown_none : (a : Build) → IsBuilt a → Grown a a 0 0
grown_none a h = record {
  question = refl;
  built = h;
  extends = ([], sym (append-nil a.dag));
  more = ([], sym (append-nil (read_places a)));
  gates = omega arith;
  reads = omega arith;
}

-- greater bounds
pub grown_more : (a b : Build) (g r h s : ℕ) → g ≤ h → r ≤ s → Grown a b g r → Grown a b h s
grown_more a b g r h s k l p = record {
  question = p.question;
  built = p.built;
  extends = p.extends;
  more = p.more;
  gates = omega (arith, p.gates, k);
  reads = omega (arith, p.reads, l);
}

-- what is kept of words as cells grow
pub grown_word : (a b : Build) (g r : ℕ) (x : TermReading) (t : ℕ) → Grown a b g r → t < length a.dag → term_word x b.dag t ≡ term_word x a.dag t
grown_word a b g r x t p l = ap (λ z. z.word) (kept_values a.dag b.dag p.extends x t l)

pub grown_width : (a b : Build) (g r w t : ℕ) → Grown a b g r → HasWidth a.dag w t → HasWidth b.dag w t
grown_width a b g r w t p h = kept_width a.dag b.dag p.extends w t h

-- memories that give the reads of more cells give those of fewer
pub gives_before : (a b : Build) (g r : ℕ) (x : TermReading) → IsBuilt a → Grown a b g r → GivesAll b x → GivesAll a x
gives_before a b g r x i p h part j inside =
    let l : j < length (read_places a) = (i.named (BaseNode part j) inside).1 in
    let e : slice_index (read_places b) j ≡ slice_index (read_places a) j = ap
    (λ z. slice_index z j) p.more.1 ∙ get_or_append_left (read_places a) p.more.0 0 j l in
    h part j (node_kept a.dag b.dag (BaseNode part j) p.extends inside)
    ∙ ap (λ z. x.mem part (term_word x b.dag z)) e ∙ ap (x.mem part) (grown_word a b g r x (slice_index (read_places a) j) p (i.addresses j l).0)

-- the places of a list of terms with one more
pub mapped : (ts : List Term) (t : Term) → map (λ (z : Term). z.0) (ts ++ t ∷ []) ≡ map (λ (z : Term). z.0) ts ++ t.0 ∷ []
mapped [] t = refl
mapped (x ∷ ts) t = ap (λ l. x.0 ∷ l) (mapped ts t)

pub mapped_length : (ts : List Term) → length (map (λ (z : Term). z.0) ts) ≡ length ts
mapped_length [] = refl
mapped_length (x ∷ ts) = omega (arith, mapped_length ts)

-- the number of an address stays
pub number_kept : (a b : Build) (g r t j : ℕ) → Grown a b g r → IsNumber a t j → IsNumber b t j
number_kept a b g r t j p h = (
  omega (arith, h.0, ap length p.more.1, length-append (read_places a) p.more.0),
  ap (λ z. slice_index z j) p.more.1 ∙ get_or_append_left (read_places a) p.more.0 0 j h.0 ∙ h.1,
)

-- what the memory of a part gives of a read
pub read_byte : (old new : Build) (g r part number t : ℕ) → IsBuilt old → Grown old new g r → IsInterned old.dag new.dag (BaseNode part number) t →
    number < length (read_places old) →
    IsByte new t (λ x. x.mem part (term_word x old.dag (slice_index (read_places old) number)))
read_byte old new g r part number t c p m l = record {
  place = (m.within, ap width_of m.stored);
  value = λ x i v.
      ap (λ z. z.word) (m.value x) ∙ v part number (node_in new.dag (BaseNode part number) t m.within m.stored)
      ∙ ap (λ z. x.mem part (term_word x new.dag z)) (ap (λ z. slice_index z number) p.more.1 ∙ get_or_append_left (read_places old) p.more.0 0 number l)
      ∙ ap (x.mem part) (grown_word old new g r x (slice_index (read_places old) number) p (c.addresses number l).0);
}
