-- Marks of the places that roots reach.
use Rattle.std.proofs.Common.{inl, inr, ◌≡◌, ◌⊎◌, ℕ, zero, suc, ◌+◌, ◌<◌, ◌≤◌, ◌^◌, Bool, true, false, if◌then◌else◌, List, [], ◌∷◌, length, map, take, drop, set, replicate, get_or, refl, ap, sym, subst, ◌∙◌, arith, Contains}
use Rattle.std.specs.List.{AllByRecursion}
use Rattle.std.proofs.lemmas.Bool.{false≢true}
use Rattle.std.proofs.lemmas.Bool.Decides.{eqb_tells}
use Rattle.std.proofs.lemmas.List.{drop_more, length-set, length-take-le}
use Rattle.term_spec.specs.Terms.{TermNode, RegisterNode, FlagNode, ChoiceNode, BaseNode, MemoryNode, ConstantNode, BinaryNode, NotNode, SelectNode, ExtractNode, ConcatNode, ExtendNode, LoadNode, StoreNode, JoinNode, TakeNode, AreTyped, IsTypedOver, node_at}
use Rattle.term_dag.specs.declared.nodes.Term.{Term}
use Rattle.term_dag.specs.Made.{operands}
use Rattle.term_dag.proofs.ListLaws.{typed_before}
use Rattle.weakest_pre.specs.Copies.{no_term, root_at, is_marked, marked, visited, AreRootsMarked, IsReached, AreMarkedFrom}

-- what holds of each element, by what else does
pub all_by : {X : Type 0} (P Q : X → Type 0) → ((x : X) → P x → Q x) → (xs : List X) → AllByRecursion P xs → AllByRecursion Q xs
all_by P Q f [] h = tt
all_by P Q f (x ∷ xs) h = (f x h.0, all_by P Q f xs h.1)

-- by two things that do
pub all_by_both : {X : Type 0} (P Q R : X → Type 0) → ((x : X) → P x → Q x → R x) → (xs : List X) → AllByRecursion P xs → AllByRecursion Q xs →
    AllByRecursion R xs
all_by_both P Q R f [] h k = tt
all_by_both P Q R f (x ∷ xs) h k = (f x h.0 k.0, all_by_both P Q R f xs h.1 k.1)

-- what holds of each holds of an element
all_at : (P : ℕ → Type 0) (xs : List ℕ) (i k : ℕ) → AllByRecursion P xs → k < length xs → get_or xs k i ≡ i → P i
all_at P [] i k h l e = absurd (omega arith)
all_at P (x ∷ xs) i zero h l e = subst P e h.0
all_at P (x ∷ xs) i (suc k) h l e = all_at P xs i k h.1 (omega arith) e

-- the places that a typed node is over are there
operands_within : (ns : List TermNode) (n : TermNode) → IsTypedOver ns n → AllByRecursion (λ a. a < length ns) (operands n)
operands_within ns (RegisterNode p r) h = tt
operands_within ns (FlagNode p f) h = tt
operands_within ns (ChoiceNode i) h = tt
operands_within ns (BaseNode p j) h = tt
operands_within ns (MemoryNode p) h = tt
operands_within ns (ConstantNode w v) h = tt
operands_within ns (BinaryNode o w a b) h = (h.1.0, (h.2.0, tt))
operands_within ns (NotNode w a) h = (h.1.0, tt)
operands_within ns (SelectNode w c a b) h = (h.1.0, (h.2.0, (h.3.0, tt)))
operands_within ns (ExtractNode hi lo a) h = (h.2, tt)
operands_within ns (ConcatNode high low a b) h = (h.3.0, (h.4.0, tt))
operands_within ns (ExtendNode s n m a) h = (h.3.0, tt)
operands_within ns (LoadNode n e m a) h = (h.1.0, (h.2.0, tt))
operands_within ns (StoreNode n e m a v) h = (h.1.0, (h.2.0, (h.3.0, tt)))
operands_within ns (JoinNode c a b) h = (h.0.0, (h.1.0, (h.2.0, tt)))
operands_within ns (TakeNode n m a p) h = (h.1.0, (h.2.0, tt))

-- a node is over places before its own
pub operands_before : (ns : List TermNode) (k : ℕ) → AreTyped ns → k < length ns → AllByRecursion (λ a. a < k) (operands (node_at ns k))
operands_before ns k typed within =
    let long : length (take k ns) ≡ k = length-take-le k ns (omega arith) in
    subst (λ (m : ℕ). AllByRecursion (λ a. a < m) (operands (node_at ns k))) long
    (operands_within (take k ns) (node_at ns k) (typed_before ns k (node_at ns k) typed within refl))

-- a mark more keeps the others
set_keeps : (ms : List Bool) (i j : ℕ) → is_marked ms j ≡ true → is_marked (set ms i true) j ≡ true
set_keeps [] i j h = h
set_keeps (m ∷ ms) zero zero h = refl
set_keeps (m ∷ ms) zero (suc j) h = h
set_keeps (m ∷ ms) (suc i) zero h = h
set_keeps (m ∷ ms) (suc i) (suc j) h = set_keeps ms i j h

-- it is there
set_marks : (ms : List Bool) (i : ℕ) → i < length ms → is_marked (set ms i true) i ≡ true
set_marks [] i h = absurd (omega arith)
set_marks (m ∷ ms) zero h = refl
set_marks (m ∷ ms) (suc i) h = set_marks ms i (omega arith)

-- and no other
set_only : (ms : List Bool) (i j : ℕ) → is_marked (set ms i true) j ≡ true → (is_marked ms j ≡ true) ⊎ (j ≡ i)
set_only [] i j h = inl h
set_only (m ∷ ms) zero zero h = inr refl
set_only (m ∷ ms) zero (suc j) h = inl h
set_only (m ∷ ms) (suc i) zero h = inl h
set_only (m ∷ ms) (suc i) (suc j) h = elim (set_only ms i j h) [ inl k ↦ inl k | inr e ↦ inr (ap suc e) ]

marked_count : (ms : List Bool) (xs : List ℕ) → length (marked ms xs) ≡ length ms
marked_count ms [] = refl
marked_count ms (x ∷ xs) = marked_count (set ms x true) xs ∙ length-set ms x true

-- the next of some terms to mark, which are all there
pub next_within : (ts : List Term) (i n : ℕ) → i < length ts → AllByRecursion (λ a. a < n) (map (λ (t : Term). t.0) (drop i ts)) →
    (root_at ts i < n) × AllByRecursion (λ a. a < n) (map (λ (t : Term). t.0) (drop (i + 1) ts))
next_within ts i n l h = subst (λ (us : List Term). AllByRecursion (λ a. a < n) (map (λ (t : Term). t.0) us)) (drop_more ts i no_term l) h

-- it is marked
pub next_marked : (ts : List Term) (i : ℕ) (ms all : List Bool) → i < length ts → marked ms (map (λ (t : Term). t.0) (drop i ts)) ≡ all →
    marked (set ms (root_at ts i) true) (map (λ (t : Term). t.0) (drop (i + 1) ts)) ≡ all
next_marked ts i ms all l h = sym (ap (λ (us : List Term). marked ms (map (λ (t : Term). t.0) us)) (drop_more ts i no_term l)) ∙ h

marked_keeps : (ms : List Bool) (xs : List ℕ) (j : ℕ) → is_marked ms j ≡ true → is_marked (marked ms xs) j ≡ true
marked_keeps ms [] j h = h
marked_keeps ms (x ∷ xs) j h = marked_keeps (set ms x true) xs j (set_keeps ms x j h)

marked_all : (ms : List Bool) (xs : List ℕ) → AllByRecursion (λ a. a < length ms) xs → AllByRecursion (λ a. is_marked (marked ms xs) a ≡ true) xs
marked_all ms [] h = tt
marked_all ms (x ∷ xs) h = (
  marked_keeps (set ms x true) xs x (set_marks ms x h.0),
  marked_all (set ms x true) xs (subst (λ (n : ℕ). AllByRecursion (λ a. a < n) xs) (sym (length-set ms x true)) h.1),
)

marked_only : (ms : List Bool) (xs : List ℕ) (j : ℕ) → is_marked (marked ms xs) j ≡ true → (is_marked ms j ≡ true) ⊎ Contains xs j
marked_only ms [] j h = inl h
marked_only ms (x ∷ xs) j h =
    elim (marked_only (set ms x true) xs j h) [
      | inl k ↦ elim (set_only ms x j k) [ inl m ↦ inl m | inr e ↦ inr (0, omega arith, sym e) ]
      | inr c ↦ inr (suc c.0, omega (arith, c.1), c.2)
    ]

-- what is over a marked place is marked
visited_by : (nodes : List TermNode) (roots : List Term) (k : ℕ) (marks : List Bool) (b : Bool) → AreTyped nodes → k < length nodes → k < length marks →
    is_marked marks k ≡ b →
    AreMarkedFrom nodes roots (k + 1) marks → AreMarkedFrom nodes roots k (if b then marked marks (operands (node_at nodes k)) else marks)
visited_by nodes roots k marks true typed within place is h =
    let ops = operands (node_at nodes k) in
    let before = operands_before nodes k typed within in
    let long = marked_count marks ops in
    record {
      within = let w = h.within in omega arith;
      numbered = let w = h.numbered in omega arith;
      few = let f = h.few in omega arith;
      first = λ n l. marked_keeps marks ops (root_at roots n) (h.first n l);
      only = λ i m. elim (marked_only marks ops i m) [ inl e ↦ h.only i e | inr c ↦ IsReached.under i (h.only k is) c ];
      closed = λ i from inside m.
          elim (marked_only marks ops i m) [
            | inl e ↦ elim (eqb_tells i k) [
              | inl same ↦ subst (λ (j : ℕ). AllByRecursion (λ a. is_marked (marked marks ops) a ≡ true) (operands (node_at nodes j))) (sym same.1)
                  (marked_all marks ops (all_by (λ a. a < k) (λ a. a < length marks) (λ a l. omega arith) ops before))
              | inr other ↦ let differs = other.1 in
                  let count = marked_count marks ops in
                  all_by (λ a. is_marked marks a ≡ true) (λ a. is_marked (marked marks ops) a ≡ true)
                  (λ a e. marked_keeps marks ops a e) (operands (node_at nodes i))
                  (h.closed i (omega arith) (omega arith) e)
            ]
            | inr c ↦ let below : i < k = all_at (λ a. a < k) ops i c.0 before c.1 c.2 in absurd (omega arith)
          ];
    }
visited_by nodes roots k marks false typed within place is h = record {
  within = h.within;
  numbered = h.numbered;
  few = let f = h.few in omega arith;
  first = h.first;
  only = h.only;
  closed = λ i from inside m.
      elim (eqb_tells i k) [
        | inl same ↦ absurd (false≢true (sym is ∙ subst (λ (j : ℕ). is_marked marks j ≡ true) same.1 m))
        | inr other ↦ let differs = other.1 in h.closed i (omega arith) inside m
      ];
}

pub visited_step : (nodes : List TermNode) (roots : List Term) (k : ℕ) (marks : List Bool) → AreTyped nodes → k < length nodes → k < length marks →
    AreMarkedFrom nodes roots (k + 1) marks → AreMarkedFrom nodes roots k (visited nodes marks k)
visited_step nodes roots k marks typed within place h = visited_by nodes roots k marks (is_marked marks k) typed within place refl h

-- where nothing is marked
pub replicate_unmarked : (n i : ℕ) → is_marked (replicate n false) i ≡ false
replicate_unmarked zero i = refl
replicate_unmarked (suc n) zero = refl
replicate_unmarked (suc n) (suc i) = replicate_unmarked n i

-- a marked place is there
pub marked_within : (marks : List Bool) (i : ℕ) → is_marked marks i ≡ true → i < length marks
marked_within [] i h = absurd (false≢true h)
marked_within (m ∷ ms) zero h = omega arith
marked_within (m ∷ ms) (suc i) h = let l = marked_within ms i h in omega arith

-- at first no root is marked
pub no_roots : (roots : List Term) (marks : List Bool) → ((i : ℕ) → is_marked marks i ≡ false) → AreRootsMarked roots 0 marks
no_roots roots marks blank = record { all = λ k l. absurd (omega arith); only = λ i m. absurd (false≢true (sym (blank i) ∙ m)) }

-- one more root
pub roots_more : (roots : List Term) (n : ℕ) (marks : List Bool) → root_at roots n < length marks → AreRootsMarked roots n marks →
    AreRootsMarked roots (n + 1) (set marks (root_at roots n) true)
roots_more roots n marks within h = record {
  all = λ k l. elim (eqb_tells k n) [
    | inl same ↦ subst (λ (j : ℕ). is_marked (set marks (root_at roots n) true) (root_at roots j) ≡ true) (sym same.1) (set_marks marks (root_at roots n) within)
    | inr other ↦ let differs = other.1 in set_keeps marks (root_at roots n) (root_at roots k) (h.all k (omega arith))
  ];
  only = λ i m. elim (set_only marks (root_at roots n) i m) [
    | inl old ↦ let o = h.only i old in (o.0, omega (arith, o.1), o.2)
    | inr e ↦ (n, omega arith, sym e)
  ];
}

-- the roots are reached, and nothing is to be done
pub roots_marked : (nodes : List TermNode) (roots : List Term) (marks : List Bool) → length marks ≤ length nodes → length marks ≤ 2 ^ 32 →
    AreRootsMarked roots (length roots) marks → AreMarkedFrom nodes roots (length marks) marks
roots_marked nodes roots marks few small h = record {
  within = few;
  numbered = small;
  few = omega arith;
  first = h.all;
  only = λ i m. let o = h.only i m in subst (IsReached nodes roots) o.2 (IsReached.itself o.0 o.1);
  closed = λ i from inside m. absurd (omega (arith, from, inside));
}
