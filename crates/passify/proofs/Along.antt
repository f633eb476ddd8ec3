-- An edge that is tried.
use Rattle.std.proofs.Common.{◌≡◌, ℕ, ◌+◌, Bool, List, ap, sym, ◌∙◌, subst, arith}
use Rattle.std.specs.Prelude.{◌==◌}
use Rattle.word_spec.specs.Words.{bit}
use Rattle.machine_spec.specs.Bil.{Equal}
use Rattle.term_spec.specs.Terms.{TermReading, TermNode, BinaryNode, HasWidth, term_word}
use Rattle.walk_spec.specs.Unrolled.{Walk, carried_of}
use Rattle.term_spec.specs.Passive.{Tells}
use Rattle.term_dag.specs.Made.{Grew, IsMade}
use Rattle.term_dag.proofs.Growth.{grew_on, grew_more, grew_width, inputs_on, made_grew, made_inputs}
use Rattle.question_form.specs.declared.unrolled.Edge.{Edge}
use Rattle.question_form.specs.declared.unrolled.Unrolled.{Unrolled}
use Rattle.note_terms.specs.declared.Now.{Now}
use Rattle.passify.specs.declared.sweep.Sweep.{Sweep}
use Rattle.passify.specs.Bits.{Makes, IsSplit}
use Rattle.passify.specs.Sweeps.{AreWell, AreTermsOf, Steps, Hands}
use Rattle.passify.specs.Exits.{Tries, Narrows}
use Rattle.passify.specs.Edges.{Follows, TellsEdge, TellsWay, TakesEdge, edge_word}
use Rattle.passify.proofs.Kept.{tells_keep, word_keeps, denotes_keep, well_keeps}
use Rattle.passify.proofs.Tried.{IsCut, cut_on, exit_on, narrows_on, tries_later}

-- the bit of an edge
pub edge_bit : (old a b new : List TermNode) (e : Edge) (jumped next link address same t : ℕ) → HasWidth old 1 jumped → HasWidth old 32 next →
    HasWidth old 32 link →
    Makes old a 0 1 32 address (λ x. term_word x a address ≡ edge_word e.to (term_word x old link)) → IsMade a b (BinaryNode Equal 32 next address) same →
    Makes b new 1 4 1 t (TellsWay b new e.falls e.jumps jumped same t) → Makes old new 33 8 1 t (TellsEdge old new e jumped next link t)
edge_bit old a b new e jumped next link address same t wj wn wl m1 m2 m3 =
    let g2 = made_grew a b (BinaryNode Equal 32 next address) same m2 in
    let g12 = grew_on old a b 0 0 0 0 1 32 0 0 0 2 m1.grew g2 in
    record {
      grew = grew_more old new (0 + 32 + 1) 0 0 0 (1 + 2 + 4) 33 0 0 0 8 (omega arith) (omega arith) (omega arith) (omega arith) (omega arith)
          (grew_on old b new (0 + 32) 0 0 0 (1 + 2) 1 0 0 0 4 g12 m3.grew);
      inputs = inputs_on old b new (λ q. ⊥) (inputs_on old a b
          (λ q. ⊥) m1.inputs (made_inputs a b (BinaryNode Equal 32 next address) same (λ q. ⊥) m2 (λ i. i))) m3.inputs;
      typed = m3.typed;
      width = m3.width;
      holds = λ x r j hj. (let n : term_word x a next ≡ term_word x old next = word_keeps m1.grew x next wn.0 in
          let s : Tells b x same (term_word x old next == edge_word e.to (term_word x old link))
          = ap (λ v. v.word) (m2.value x r) ∙ ap (λ z. bit (z == term_word x a address)) n ∙ ap (λ z. bit (term_word x old next == z)) (m1.holds x r) in
          m3.holds x r j (term_word x old next == edge_word e.to (term_word x old link)) (tells_keep g12 x jumped j wj.0 hj) s);
    }

module _ (u : Unrolled) (old mid last new : List TermNode) (s z : Sweep) (e : Edge) (next : Now) (jumped link t rest on off g l j n : ℕ)
    (w : AreWell old s) (names : AreTermsOf s.entry old next.names.now)
    (pc : HasWidth old 32 next.pc.0) (wr : HasWidth old 1 rest) (made : Makes old mid 33 8 1 t (TellsEdge old mid e jumped next.pc.0 link t))
    (split : IsSplit mid last rest t on off)
    (steps : Steps last new s z g l 0 j n (λ m. ⊥)) (hands : Hands last new s z on (Follows u last s next e.aim)) where
  mid_well : AreWell mid s
  mid_well = well_keeps made.grew s made.typed w

  edge_cut : IsCut mid last rest on off (λ x q. Tells mid x t q)
  edge_cut = cut_on mid last rest t on off made.typed (grew_width old mid 33 0 0 0 8 1 rest made.grew wr) made.width split

  last_grew : Grew old last (33 + 2) (0 + 0) (0 + 0) (0 + 0) (8 + 6)
  last_grew = grew_on old mid last 33 0 0 0 8 2 0 0 0 6 made.grew split.grew

  follows_later : (from : ℕ) (x : TermReading) (v : Walk) (b : Bool) → Follows u old s next e.aim from x v b →
      Follows u last s next e.aim from x v b
  follows_later from x v b f = record {
    situation = f.situation;
    is = f.is;
    later = f.later;
    leaves = f.leaves;
    there = λ q. (let th = f.there q in record {
      endian = th.endian;
      entry = th.entry;
      is = record {
        carried = denotes_keep last_grew x next.names.now (carried_of f.situation.next) names.names th.is.carried;
        pc = word_keeps last_grew x next.pc.0 pc.0 ∙ th.is.pc;
      };
    });
  }

  pub edge_tries : Tries old new s z rest off (TakesEdge old e jumped next.pc.0 link) (Follows u old s next e.aim)
  edge_tries =
      tries_later old mid new s z rest off (λ x q. Tells mid x t q) (TakesEdge old e jumped next.pc.0 link) (Follows u last s next e.aim)
      (Follows u old s next e.aim) 33 0 0 0 8 made.grew w wr
      (λ x r q f. subst (λ (b : Bool). Tells mid x t b) (sym f.is) (made.holds x r f.by_jump f.tells)) follows_later
      (exit_on mid last new s z rest on off (λ x q. Tells mid x t q) (Follows u last s next e.aim) edge_cut mid_well g l 0 j n steps.grew hands)

  pub edge_narrows : Narrows old new rest off (λ x q. Unit {0})
  edge_narrows x r h = (
    sym (word_keeps made.grew x rest wr.0)
        ∙ (narrows_on mid last new s z rest on off (λ x q. Tells mid x t q)
        (Follows u last s next e.aim) edge_cut mid_well g l 0 j n steps.grew hands x r h).0,
    tt,
  )

  pub edge_steps : Steps old new s z (35 + g) l 0 j (14 + n) (λ m. ⊥)
  edge_steps = record {
    grew = grew_more old new (33 + 2 + g) (0 + 0 + l) 0 (0 + 0 + j) (8 + 6 + n) (35 + g) l 0 j (14 + n) (omega arith) (omega arith) (omega arith) (omega arith)
        (omega arith)
        (grew_on old last new (33 + 2) (0 + 0) (0 + 0) (0 + 0) (8 + 6) g l 0 j n last_grew steps.grew);
    inputs = inputs_on old last new (λ m. ⊥) (inputs_on old mid last (λ m. ⊥) made.inputs split.inputs) steps.inputs;
    well = steps.well;
    like = steps.like;
  }

  pub edge_rest : HasWidth new 1 off
  edge_rest = grew_width last new g l 0 j n 1 off steps.grew split.off_bit

  pub last_well : AreWell last s
  last_well = well_keeps split.grew s split.typed mid_well
