-- What the ties of both sides say together.
use Rattle.std.proofs.Common.{◌≡◌, ◌==◌, ◌↔◌, ℕ, ◌+◌, ◌*◌, ◌≤◌, Bool, true, false, ◌&&◌, ◌||◌, List, [], ◌∷◌, length, map, get_or, refl, ap, sym, ◌∙◌, arith}
use Rattle.std.specs.List.{flat_map}
use Rattle.std.specs.Global.{Vec}
use Rattle.std.proofs.lemmas.Bool.{and_parts, and_from}
use Rattle.call_spec.specs.Calls.{PairQuestion, PairOfStates, DifferenceOfExits}
use Rattle.term_spec.specs.Terms.{TermReading, TermNode, term_word}
use Rattle.term_spec.specs.Cells.{Cells}
use Rattle.gates.specs.declared.bit.Bit.{Bit}
use Rattle.clause_spec.specs.Clauses.{Clause}
use Rattle.cnf_form.proofs.OnVariables.{on-complete, on-sound}
use Rattle.gates.specs.Circuits.{Within}
use Rattle.gates.specs.Pushes.{AreOver}
use Rattle.word_gates.proofs.Words.{no_bit, within_cons, within_none}
use Rattle.term_dag.specs.declared.nodes.Term.{Term}
use Rattle.pair_spec.specs.Links.{Link}
use Rattle.pair_spec.specs.Pairs.{shared_bytes, same_bytes}
use Rattle.pair_spec.specs.PairTerms.{ExitsAs, HaveWidths, MakesPairTrue, SideCells, exit_widths, same_words}
use Rattle.pair_blast.specs.PairWords.{AreAlike, bits_compared, words_read, words_under}
use Rattle.pair_blast.proofs.Alike.{AreAsWide, bits_as, few_compared}
use Rattle.pair_blast.proofs.BothSides.{HoldsBy}
use Rattle.pair_blast.proofs.StandIns.{equal_is, is_equal}

-- clauses over variables are over more
pub over_up : (n m : ℕ) (cs : List Clause) → AreOver n cs → n ≤ m → AreOver m cs
over_up n m cs o l = record {
  each = on-complete m cs (λ c k literal h. let q = on-sound n cs o.each c k literal h in (q.0, (let e = q.1 in omega arith)));
}

-- ---- the question of one side

or_false : (b : Bool) → (b || false) ≡ b
or_false true = refl
or_false false = refl

pub root_said : {X : Type 0} (r s t b : Bool) (n : ℕ) → t ≡ (s && (b || false)) → b ≡ (n == 1) → (s ≡ true) ↔ ((r ≡ true) × X) →
    (t ≡ true) ↔ ((r ≡ true) × (X × (n ≡ 1)))
root_said r s t b n e f q =
    let g : t ≡ (s && (n == 1)) = e ∙ ap (λ z. s && z) (or_false b ∙ f) in (
      (λ h.
          let m = and_parts s (n == 1) (sym g ∙ h) in
          let k = q.0 m.0 in
          (k.0, (k.1, is_equal n 1 m.1))),
      (λ h. g ∙ and_from s (n == 1) (q.1 (h.0, h.1.0)) (equal_is n 1 h.1.1)),
    )

pub one_within : (n : ℕ) (bs : List Bit) → length bs ≡ 1 → Within n bs → Within n (get_or bs 0 no_bit ∷ [])
one_within n bs l w = within_cons n _ (within_none {n = n}) (omega arith) (w.each 0 no_bit (omega arith))

-- ---- both sides

abbrev side : Cells → List Term → List Term → SideCells
side k xs es = record { cells = k; entries = map (λ t. t.0) xs; exits = map (λ t. t.0) es }

read_at : (x : TermReading) (ns : List TermNode) (xs : List Term) → map (term_word x ns) (map (λ t. t.0) xs) ≡ words_read x ns xs
read_at x ns [] = refl
read_at x ns (t ∷ xs) = ap (λ z. term_word x ns t.0 ∷ z) (read_at x ns xs)

exits_to : (q : PairQuestion) (xs ys as' bs : List ℕ) → (q ≡ DifferenceOfExits → (xs ≡ as') × (ys ≡ bs)) → ExitsAs q xs ys → ExitsAs q as' bs
exits_to PairOfStates xs ys as' bs h e = tt
exits_to DifferenceOfExits xs ys as' bs h e =
    sym (ap (λ z. same_words z ys) (h refl).0 ∙ ap (λ z. same_words as' z) (h refl).1) ∙ e

pub pair_told : (q : PairQuestion) (k m : Cells) (xs es ys fs : List Term) (x y : TermReading) (v : ℕ → Bool) (ws vs : List (Vec Bit)) (r s t u : Bool) →
    (s ≡ true) ↔ ((r ≡ true) × HoldsBy k x) →
    (t ≡ true) ↔ ((s ≡ true) × HoldsBy m y × (same_words (words_read x k.nodes xs) (words_read y m.nodes ys) ≡ true)) →
    (u ≡ true) ↔ ((t ≡ true) × ExitsAs q (words_under v ws es) (words_under v vs fs)) →
    (t ≡ true → q ≡ DifferenceOfExits → (words_under v ws es ≡ words_read x k.nodes es) × (words_under v vs fs ≡ words_read y m.nodes fs)) →
    (u ≡ true) ↔ ((r ≡ true) × MakesPairTrue q (side k xs es) (side m ys fs) x y)
pair_told q k m xs es ys fs x y v ws vs r s t u one two three ends = (
  (λ h.
      let c = three.0 h in
      let b = two.0 c.0 in
      let a = one.0 b.0 in (
        a.0,
        record {
          first_allowed = a.1.0;
          second_allowed = b.1.0;
          first_root = a.1.1;
          second_root = b.1.1;
          linked = ap (λ z. same_words z (map (term_word y m.nodes) (map (λ (t : Term). t.0) ys))) (read_at x k.nodes xs)
              ∙ ap (λ z. same_words (words_read x k.nodes xs) z) (read_at y m.nodes ys) ∙ b.2;
          ends = exits_to q (words_under v ws es) (words_under v vs fs) _ _
              (λ e. ((ends c.0 e).0 ∙ sym (read_at x k.nodes es), (ends c.0 e).1 ∙ sym (read_at y m.nodes fs))) c.1;
        },
      )),
  (λ h.
      let p = h.1 in
      let b : t ≡ true = two.1 (
        one.1 (h.0, (p.first_allowed, p.first_root)),
        (p.second_allowed, p.second_root),
        sym (ap (λ z. same_words z (map (term_word y m.nodes) (map (λ (t : Term). t.0) ys))) (read_at x k.nodes xs)
            ∙ ap (λ z. same_words (words_read x k.nodes xs) z) (read_at y m.nodes ys)) ∙ p.linked,
      ) in
      three.1 (
        b,
        exits_to q _ _ (words_under v ws es) (words_under v vs fs)
            (λ e. (read_at x k.nodes es ∙ sym (ends b e).0, read_at y m.nodes fs ∙ sym (ends b e).1)) p.ends,
      )),
)

-- ---- how many gates the exits take

pub compared_as : (q : PairQuestion) (ms ns os : List TermNode) (xs ys : List Term) → AreAsWide ms ns → (q ≡ DifferenceOfExits → AreAlike ns os xs ys) →
    bits_compared q ms xs ≡ bits_compared q ns xs
compared_as PairOfStates ms ns os xs ys a h = refl
compared_as DifferenceOfExits ms ns os xs ys a h = bits_as ms ns xs a (h refl).first

pub few_gates : (q : PairQuestion) (ns : List TermNode) (xs : List Term) (links : List Link) →
    (q ≡ DifferenceOfExits → HaveWidths ns (map (λ t. t.0) xs) (flat_map exit_widths links)) →
    bits_compared q ns xs ≤ 512 * length links + 512 * (shared_bytes links + same_bytes links)
few_gates PairOfStates ns xs links h = omega arith
few_gates DifferenceOfExits ns xs links h = few_compared ns xs links (h refl)
