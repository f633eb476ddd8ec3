-- Clauses of cells whose inputs have places tell the cells of a frame, and those of a program.
use Rattle.std.proofs.Common.{◌≡◌, sym, ◌∙◌, subst, arith, ℕ, ◌<◌, Bool, true, List, length}
use Rattle.std.specs.Prelude.{nat_eq}
use Rattle.std.specs.List.{list_any}
use Rattle.std.proofs.lemmas.Bool.Decides.{nat_tests}
use Rattle.clause_spec.specs.Clauses.{Cnf, ExtendsOnceWhere}
use Rattle.term_spec.specs.Terms.{ChoiceNode, TermReading, term_word}
use Rattle.walk_spec.specs.Unrolled as tables
use Rattle.term_spec.specs.Cells as walk
use Rattle.term_spec.specs.ClauseForm as program
use Rattle.term_spec.specs.ClauseForm.{reading}
use Rattle.walk_laws.proofs.CellValues.{Agree, word_same}
use Rattle.walk_laws.proofs.InputsWithin.{reading_in_range}
use Rattle.frame_spec.specs.FrameWalk.{UnrolledProgram}
use Rattle.frame_terms.specs.FrameCells.{AreFormed, Cells}
use Rattle.frame_terms.specs.FrameClauseForm.{MakesTrue, TellsClauses}
use Rattle.frame_terms.specs.HeadlessTerms.{as_cells}
use Rattle.frame_terms.proofs.HeadlessCells.{allowed_as, allowed_back}
use Rattle.bit_blast.specs.declared.input_places.InputPlaces.{InputPlaces}
use Rattle.bit_blast.specs.CellClauses.{AreClauses, IsTrueAt}
use Rattle.bit_blast.specs.Laid.{AreFramePlaces, ArePlaces}
use Rattle.bit_blast.specs.Places.{IsReadingAt}
use Rattle.bit_blast.proofs.FramePlaces.{at_of_bits, bits_of_at, inputs_long}
use Rattle.bit_blast.proofs.InputNumbers.{in_range}
use Rattle.bit_blast.proofs.Placed.{entry_read, inputs_are, named, reading_at}

-- clauses of a fact are those of another that holds of the same valuations
same_where : (n : ℕ) (cnf : Cnf) (F G : (ℕ → Bool) → Type 0) → ((v : ℕ → Bool) → F v → G v) → ((v : ℕ → Bool) → G v → F v) → ExtendsOnceWhere n cnf F →
    ExtendsOnceWhere n cnf G
same_where n cnf F G to from h = record {
  over = h.over;
  once = h.once;
  only = λ v s. to v (h.only v s);
  where_true = λ a g. h.where_true a (from a g);
}

-- of a frame
module _ (u : UnrolledProgram) (heads' : Bool) (c : Cells) (formed : AreFormed u heads' c) (p : InputPlaces) (is : AreFramePlaces u heads' c p) (cnf : Cnf)
    (h : AreClauses p c cnf) where
  makes_true : (v : ℕ → Bool) → IsTrueAt p c v → MakesTrue u heads' c v
  makes_true v t = record {
    reading = t.reading;
    in_range = t.in_range;
    bits = bits_of_at u heads' c p is v t.reading t.in_range formed t.at;
    allowed = t.allowed;
    root = t.root;
  }

  true_at : (v : ℕ → Bool) → MakesTrue u heads' c v → IsTrueAt p c v
  true_at v m = record {
    reading = m.reading;
    in_range = m.in_range;
    at = at_of_bits u heads' c p is v m.reading m.in_range m.bits;
    allowed = m.allowed;
    root = m.root;
  }

  pub frame_told : TellsClauses u heads' c cnf
  frame_told =
      let e = inputs_long u heads' c p is in
      let a = h.all in
      let f = h.few in
      record {
        extends = subst (λ (n : ℕ). ExtendsOnceWhere n cnf (MakesTrue u heads' c)) (sym e)
            (same_where p.inputs cnf (IsTrueAt p c) (MakesTrue u heads' c) makes_true true_at h.extends);
        all = omega arith;
        few = omega arith;
      }

-- of a program
module _ (u : tables.UnrolledProgram) (c : walk.Cells) (formed : walk.AreFormed u c) (p : InputPlaces) (placed : ArePlaces u c p) (cnf : Cnf)
    (h : AreClauses p (as_cells c) cnf) where
  -- a reading at the inputs of a valuation is its reading, as far as cells can see
  agrees : (v : ℕ → Bool) (x : TermReading) → IsReadingAt p v x → Agree u (length c.addresses) x (reading u c v)
  agrees v x at =
      let r = reading_at u c p placed v in
      record {
        regs = λ n k.
            (let q = in_range p.first_register p.registers n (subst (λ (z : List ℕ). list_any (nat_eq n) z ≡ true) placed.registers k) in
            at.registers 0 n tt q.0 q.1 ∙ sym (r.registers 0 n tt q.0 q.1));
        flags = λ f k.
            (let l : f < u.flags = grind (arith, nat_tests) in
            let m : f < p.flags = omega (arith, placed.flags) in
            at.flags 0 f tt m ∙ sym (r.flags 0 f tt m));
        choice = λ i d.
            (let k = named u c p placed (ChoiceNode i) d in at.choices i k.0 k.1 ∙ sym (r.choices i k.0 k.1));
        base = λ j l. (let k = entry_read u c p placed j l in at.bytes 0 j k.0 k.1 ∙ sym (r.bytes 0 j k.0 k.1));
      }

  word_is : (v : ℕ → Bool) (x : TermReading) → IsReadingAt p v x → (t : ℕ) → t < length c.nodes → term_word x c.nodes t ≡ term_word (reading u c v) c.nodes t
  word_is v x at = word_same u c formed x (reading u c v) (agrees v x at)

  allowed_is : (v : ℕ → Bool) (x : TermReading) → IsReadingAt p v x → walk.IsAllowed c x → walk.IsAllowed c (reading u c v)
  allowed_is v x at f =
      let g = agrees v x at in
      record {
        agrees = λ a k e.
            (let w = formed.agrees a k in
            sym (g.base a.read w.1) ∙ f.agrees a k (word_is v x at a.condition w.0.0 ∙ e) ∙ g.base a.other w.2);
        asked = λ a k e.
            (let w = formed.asked a k in sym (g.base a.read w.1) ∙ f.asked a k (word_is v x at a.condition w.0.0 ∙ e));
      }

  makes_program_true : (v : ℕ → Bool) → IsTrueAt p (as_cells c) v → program.MakesTrue u c v
  makes_program_true v t = (
    allowed_is v t.reading t.at (allowed_back c t.reading t.allowed),
    sym (word_is v t.reading t.at c.root formed.root.0) ∙ t.root,
  )

  program_true_at : (v : ℕ → Bool) → program.MakesTrue u c v → IsTrueAt p (as_cells c) v
  program_true_at v m = record {
    reading = reading u c v;
    in_range = reading_in_range u c v;
    at = reading_at u c p placed v;
    allowed = allowed_as c (reading u c v) m.0;
    root = m.1;
  }

  pub program_told : program.TellsClauses u c cnf
  program_told =
      let e = inputs_are u c p placed in
      let a = h.all in
      let f = h.few in
      record {
        extends = subst (λ (n : ℕ). ExtendsOnceWhere n cnf (program.MakesTrue u c)) e
            (same_where p.inputs cnf (IsTrueAt p (as_cells c)) (program.MakesTrue u c) makes_program_true program_true_at h.extends);
        all = omega arith;
        few = omega arith;
      }
