-- The exit's bit tied to the entry's, with copies of the exit's words.
use Rattle.std.proofs.Common.{◌≡◌, ℕ, zero, suc, ◌+◌, ◌-◌, ◌<◌, bit_and, List, [], ◌∷◌, length, take, drop, get_or, refl, ap, sym, subst, ◌∙◌, arith}
use Rattle.std.specs.Prelude.{map}
use Rattle.std.proofs.lemmas.List.{take_all, length-drop}
use Rattle.machine_spec.specs.Bil as bil
use Rattle.term_spec.specs.Terms.{TermReading, TermNode, BinaryNode, HasWidth, width_of, node_at, term_value, term_word, term_gates, term_loads, term_stores, term_joins}
use Rattle.walk_spec.specs.Unrolled.{UnrolledProgram, state_at}
use Rattle.term_dag.specs.declared.nodes.Term.{Term}
use Rattle.term_dag.specs.Made.{IsMade}
use Rattle.term_dag.proofs.Growth.{grew_on, grew_more, inputs_on, inputs_more}
use Rattle.term_names.specs.Chosen.{at_entry}
use Rattle.note_terms.specs.Steps.{IsStep}
use Rattle.note_terms.proofs.Steps.{step_made}
use Rattle.weakest_pre.specs.Entry.{meets}
use Rattle.weakest_pre.specs.Copies.{root_at, AreWithin, IsMoved}
use Rattle.weakest_pre.specs.Known.{AreFactsOf}
use Rattle.weakest_pre.specs.Folded.{IsMetBy, AreFoldedCopies}
use Rattle.weakest_pre.specs.declared.facts.Facts.{Facts}
use Rattle.weakest_pre.proofs.Told.{met_by, counts_where}
use Rattle.pair_spec.specs.PairTerms.{HaveWidths}
use Rattle.mem_cells.specs.Words.{places_of}
use Rattle.pair_terms.specs.Sides.{AreTied}
use Rattle.pair_terms.proofs.WordTerms.{widths_stay, words_stay}

-- terms with the values of others, place by place
row_words : (x : TermReading) (source new : List TermNode) (xs ys : List Term) → length ys ≡ length xs →
    ((k : ℕ) → k < length xs → term_value x new (root_at ys k) ≡ term_value x source (root_at xs k)) →
    map (term_word x new) (places_of ys) ≡ map (term_word x source) (places_of xs)
row_words x source new [] [] e h = refl
row_words x source new [] (y ∷ ys) e h = absurd (omega (arith, e))
row_words x source new (a ∷ xs) [] e h = absurd (omega (arith, e))
row_words x source new (a ∷ xs) (y ∷ ys) e h =
    (λ i. (h 0 (omega arith) i).word ∷ row_words x source new xs ys (omega (arith, e)) (λ k l. h (suc k) (omega arith)) i)

-- and with their widths
row_widths : (source new : List TermNode) (xs ys : List Term) (ws : List ℕ) → length ys ≡ length xs →
    ((k : ℕ) → k < length xs → HasWidth new (width_of (node_at source (root_at xs k))) (root_at ys k)) → HaveWidths source (places_of xs) ws →
    HaveWidths new (places_of ys) ws
row_widths source new [] [] ws e h k = k
row_widths source new [] (y ∷ ys) ws e h k = absurd (omega (arith, e))
row_widths source new (a ∷ xs) [] ws e h k = absurd (omega (arith, e))
row_widths source new (a ∷ xs) (y ∷ ys) [] e h k = absurd k
row_widths source new (a ∷ xs) (y ∷ ys) (w ∷ ws) e h k =
    (((h 0 (omega arith)).0, (h 0 (omega arith)).1 ∙ k.0.1), row_widths source new xs ys ws (omega (arith, e)) (λ n l. h (suc n) (omega arith)) k.1)

pub tied_words : (u : UnrolledProgram) (facts : Facts) (source a b c : List TermNode) (entry : ℕ) (met one : Term) (words rest : List Term) (t : ℕ)
    (widths : List ℕ) → AreFactsOf u facts.registers.items → HasWidth a 1 entry → HaveWidths source (places_of words) widths →
    AreFoldedCopies (IsMetBy facts) source a b (met ∷ words) (one ∷ rest) →
    IsMade b c (BinaryNode bil.And 1 entry one.0) t → AreTied u source a c entry met.0 (places_of words) t (places_of rest)
tied_words u facts source a b c entry met one words rest t widths said bit_entry wide copy made =
    let last : IsStep b c 1 0 2 (λ w. w ≡ 1) (λ x. bit_and (term_word x b entry) (term_word x b one.0)) t =
    step_made b c 1 0 _ _ (BinaryNode bil.And 1 entry one.0) t made (omega arith) (omega arith) refl refl (λ i. i) (λ w e. e) (λ x r. refl) in
    let count = copy.count in
    let many : length rest ≡ length words = omega (arith, count) in
    let here : HaveWidths b (places_of rest) widths = row_widths source b words rest widths many (λ k l. copy.widths (suc k) (omega arith)) wide in
    record {
      grew = grew_more a c (term_gates source + 1) (term_loads source + 0) (term_stores source + 0) (term_joins source + 0) (length source + 2)
          (term_gates source + 1) (term_loads source) (term_stores source) (term_joins source) (length source + 2)
          (omega arith) (omega arith) (omega arith) (omega arith) (omega arith)
          (grew_on a b c (term_gates source) (term_loads source) (term_stores source) (term_joins source) (length source) 1 0 0 0 2 copy.grew last.grew);
      inputs = inputs_on a b c (IsMoved source) copy.inputs (inputs_more b c (λ m. ⊥) (IsMoved source) (λ m i e. absurd e) last.inputs);
      typed = last.typed;
      width = (last.within, last.fits);
      value = λ x r e.
          last.value x r ∙ ap (λ (v : ℕ). bit_and v (term_word x b one.0)) (ap (λ v. v.word) (copy.grew.keeps x entry bit_entry.0))
          ∙ counts_where (meets u (state_at (at_entry x) u.entry)) (term_word x a entry) (term_word x b one.0) (term_word x source met.0) e
          (λ h. ap (λ v. v.word) (copy.values x (met_by u facts x said r h) 0 (omega arith)));
      widths = λ ws k.
          widths_stay b c _ _ _ _ _ last.grew (places_of rest) ws
          (row_widths source b words rest ws many (λ n l. copy.widths (suc n) (omega arith)) k);
      words = λ x r h.
          words_stay b c _ _ _ _ _ last.grew x (places_of rest) widths here
          ∙ row_words x source b words rest many (λ k l. copy.values x (met_by u facts x said r h) (suc k) (omega arith));
    }

-- by the lists of roots and copies
pub tied_from : (u : UnrolledProgram) (facts : Facts) (source a b c : List TermNode) (entry : ℕ) (met one : Term) (words roots ts rest : List Term) (t : ℕ)
    (widths : List ℕ) → AreFactsOf u facts.registers.items → HasWidth a 1 entry → HaveWidths source (places_of words) widths → roots ≡ met ∷ words →
    AreFoldedCopies (IsMetBy facts) source a b roots ts → one ≡ get_or ts 0 one → rest ≡ drop 1 ts →
    IsMade b c (BinaryNode bil.And 1 entry one.0) t → AreTied u source a c entry met.0 (places_of words) t (places_of rest)
tied_from u facts source a b c entry met one words roots [] rest t widths said bit_entry wide e copy at tail made =
    let count = copy.count in let many = ap length e in absurd (omega arith)
tied_from u facts source a b c entry met one words roots (y ∷ ys) rest t widths said bit_entry wide e copy at tail made =
    tied_words u facts source a b c entry met one words rest t widths said bit_entry wide
    (subst (λ (z : List Term). AreFoldedCopies (IsMetBy facts) source a b (met ∷ words) z) (λ i. sym at i ∷ sym tail i)
    (subst (λ (z : List Term). AreFoldedCopies (IsMetBy facts) source a b z (y ∷ ys)) e copy)) made

-- the roots are terms of the source
words_within : (source : List TermNode) (words : List Term) (ws : List ℕ) → HaveWidths source (places_of words) ws → AreWithin words (length source)
words_within source [] ws h k l = absurd (omega arith)
words_within source (x ∷ xs) [] h k l = absurd h
words_within source (x ∷ xs) (w ∷ ws) h zero l = h.0.0
words_within source (x ∷ xs) (w ∷ ws) h (suc k) l = words_within source xs ws h.1 k (omega arith)

pub roots_within : (source : List TermNode) (met : Term) (words roots : List Term) (ws : List ℕ) → HasWidth source 1 met.0 →
    HaveWidths source (places_of words) ws → roots ≡ met ∷ words → AreWithin roots (length source)
roots_within source met words roots ws h k e = subst (λ (z : List Term). AreWithin z (length source)) (sym e) within where
  within : AreWithin (met ∷ words) (length source)
  within zero l = h.0
  within (suc n) l = words_within source words ws k n (omega arith)

-- the list behind its first element
pub behind_first : (xs ys : List Term) → xs ≡ ys → take (length xs - 1) (drop 1 xs) ≡ drop 1 ys
behind_first xs ys e = take_all (length xs - 1) (drop 1 xs) (let l = length-drop 1 xs in omega arith) ∙ ap (drop 1) e
