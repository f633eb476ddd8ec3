-- A register of which some bits are known, as a term.
use Rattle.std.proofs.Common.{◌≡◌, ℕ, ◌+◌, ◌-◌, ◌<◌, ◌≤◌, List, length, refl, ap, ◌∙◌, arith}
use Rattle.word_spec.specs.Words.{bits, complement, concat}
use Rattle.term_spec.specs.Terms.{TermNode, RegisterNode, ConstantNode, NotNode, ExtractNode, ConcatNode, HasWidth, term_word}
use Rattle.term_dag.specs.Made.{IsMade}
use Rattle.term_dag.proofs.Growth.{grew_on, inputs_on, inputs_more, made_grew, made_inputs}
use Rattle.note_terms.specs.Steps.{IsStep}
use Rattle.note_terms.proofs.Steps.{step_made, step_as, step_on, step_keeps}
use Rattle.weakest_pre.specs.declared.facts.Runs.{Runs}
use Rattle.weakest_pre.specs.Folded.{pieces, IsKnownRegister}
use Rattle.weakest_pre.proofs.KnownWords.{word_of_pieces}

-- the bits below a place and from another on
pub middle_step : (a b : List TermNode) (word place count t : ℕ) → count < place → word < length a → IsMade a b (ExtractNode (place - 1) count word) t →
    IsStep a b 0 0 2 (λ w. w ≡ place - count) (λ x. bits (place - 1) count (term_word x a word)) t
middle_step a b word place count t some within made =
    step_made a b 0 0 _ _ (ExtractNode (place - 1) count word) t made (omega arith) (omega arith) refl refl (λ i. i)
    (λ w e. (let all : place - 1 + 1 - count ≡ place - count = omega arith in e ∙ all)) (λ x r. refl)

-- some bits below are known
pub lower_some : (a b c d : List TermNode) (word place count below u l t : ℕ) → count < place → word < length a →
    IsMade a b (ExtractNode (place - 1) count word) u →
    IsMade b c (ConstantNode count below) l → IsMade c d (ConcatNode (place - count) count u l) t →
    IsStep a d 0 0 6 (λ w. w ≡ place) (λ x. concat count (bits (place - 1) count (term_word x a word)) below) t
lower_some a b c d word place count below u l t some within made constant joined =
    let first = middle_step a b word place count u some within made in
    let second : IsStep b c 0 0 2 (λ w. w ≡ count) (λ x. below) l =
    step_made b c 0 0 _ _ (ConstantNode count below) l constant (omega arith) (omega arith) refl refl (λ i. i) (λ w e. e) (λ x r. refl) in
    let last : IsStep c d 0 0 2 (λ w. w ≡ place - count + count) (λ x. concat count (term_word x c u) (term_word x c l)) t =
    step_made c d 0 0 _ _ (ConcatNode (place - count) count u l) t joined (omega arith) (omega arith) refl refl (λ i. i) (λ w e. e) (λ x r. refl) in
    step_as a d (0 + 0 + 0) 0 (2 + 2 + 2) 0 0 6 _ _ _ _ t
    (step_on a c d 0 0 (2 + 2) 0 0 2 _ _ _ _ l t (step_on a b c 0 0 2 0 0 2 _ _ _ _ u l first second) last) (omega arith) (omega arith) (omega arith)
    (λ w e. omega arith)
    (λ x r.
    let up = step_keeps b c 0 0 2 _ _ l second x u first.within ∙ first.value x r in
    ap (λ (v : ℕ). concat count v (term_word x c l)) up ∙ ap (concat count (bits (place - 1) count (term_word x a word))) (second.value x r))

-- all bits from a place on are known
pub raised_some : (a b c : List TermNode) (lower place above u t : ℕ) → place < 32 → HasWidth a place lower → IsMade a b (ConstantNode (32 - place) above) u →
    IsMade b c (ConcatNode (32 - place) place u lower) t →
    IsStep a c 0 0 4 (λ w. w ≡ 32) (λ x. concat place above (term_word x a lower)) t
raised_some a b c lower place above u t few wide constant joined =
    let first : IsStep a b 0 0 2 (λ w. w ≡ 32 - place) (λ x. above) u =
    step_made a b 0 0 _ _ (ConstantNode (32 - place) above) u constant (omega arith) (omega arith) refl refl (λ i. i) (λ w e. e) (λ x r. refl) in
    let last : IsStep b c 0 0 2 (λ w. w ≡ 32 - place + place) (λ x. concat place (term_word x b u) (term_word x b lower)) t =
    step_made b c 0 0 _ _ (ConcatNode (32 - place) place u lower) t joined (omega arith) (omega arith) refl refl (λ i. i) (λ w e. e) (λ x r. refl) in
    step_as a c (0 + 0) 0 (2 + 2) 0 0 4 _ _ _ _ t (step_on a b c 0 0 2 0 0 2 _ _ _ _ u t first last) (omega arith) (omega arith) (omega arith)
    (λ w e. omega arith)
    (λ x r.
    ap (λ (v : ℕ). concat place v (term_word x b lower)) (first.value x r)
    ∙ ap (concat place above) (step_keeps a b 0 0 2 _ _ u first x lower wide.0))

-- a word of which the ends are known
pub pieces_step : (a b c d e : List TermNode) (word u l w t : ℕ) (r : Runs) (below above : ℕ) → below ≡ complement r.count r.below →
    above ≡ complement (32 - r.place) r.above → IsMade a b (NotNode 32 word) u →
    IsStep b c 0 0 6 (λ k. k ≡ r.place) (λ x. concat r.count (bits (r.place - 1) r.count (term_word x b u)) below) l →
    IsStep c d 0 0 4 (λ k. k ≡ 32) (λ x. concat r.place above (term_word x c l)) w → IsMade d e (NotNode 32 w) t →
    IsStep a e 0 0 14 (λ k. k ≡ 32) (λ x. pieces r (term_word x a word)) t
pieces_step a b c d e word u l w t r below above p q turned lower raised made =
    let first : IsStep a b 0 0 2 (λ k. k ≡ 32) (λ x. complement 32 (term_word x a word)) u =
    step_made a b 0 0 _ _ (NotNode 32 word) u turned (omega arith) (omega arith) refl refl (λ i. i) (λ k f. f) (λ x g. refl) in
    let last : IsStep d e 0 0 2 (λ k. k ≡ 32) (λ x. complement 32 (term_word x d w)) t =
    step_made d e 0 0 _ _ (NotNode 32 w) t made (omega arith) (omega arith) refl refl (λ i. i) (λ k f. f) (λ x g. refl) in
    step_as a e 0 0 14 0 0 14 _ _ _ _ t
    (step_on a d e 0 0 12 0 0 2 _ _ _ _ w t (step_on a c d 0 0 8 0 0 4 _ _ _ _ l w (step_on a b c 0 0 2 0 0 6 _ _ _ _ u l first lower) raised) last)
    (omega arith) (omega arith) (omega arith) (λ k f. f)
    (λ x g.
    let inner = first.value x g in
    let middle = lower.value x g ∙ ap (λ (v : ℕ). concat r.count (bits (r.place - 1) r.count v) below) inner
    ∙ ap (concat r.count (bits (r.place - 1) r.count (complement 32 (term_word x a word)))) p in
    ap (complement 32) (raised.value x g ∙ ap (concat r.place above) middle
    ∙ ap (λ (v : ℕ). concat r.place v (concat r.count (bits (r.place - 1) r.count (complement 32 (term_word x a word))) (complement r.count r.below))) q))

-- a register of which they are
pub register_pieces : (a b c : List TermNode) (register w t : ℕ) (r : Runs) → r.count < r.place → r.place ≤ 32 → IsMade a b (RegisterNode 0 register) w →
    IsStep b c 0 0 14 (λ k. k ≡ 32) (λ x. pieces r (term_word x b w)) t →
    IsKnownRegister a c register r t
register_pieces a b c register w t r some few made whole =
    let more = λ (m : TermNode). m ≡ RegisterNode 0 register in
    record {
      grew = grew_on a b c 0 0 0 0 2 0 0 0 0 14 (made_grew a b (RegisterNode 0 register) w made) whole.grew;
      inputs = inputs_on a b c more (made_inputs a b (RegisterNode 0 register) w more made (λ i. refl))
          (inputs_more b c (λ m. ⊥) more (λ m i e. absurd e) whole.inputs);
      typed = whole.typed;
      width = (whole.within, whole.fits);
      value = λ x k h.
          let word : term_word x b w ≡ x.regs 0 register = ap (λ z. z.word) (made.value x k) in
          whole.value x k ∙ ap (pieces r) word ∙ word_of_pieces r (x.regs 0 register) some few (k.regs 0 register) h;
    }
