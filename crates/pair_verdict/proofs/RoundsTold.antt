-- What a round of a question about two functions says.
use Rattle.std.proofs.Common.{◌≡◌, refl, sym, ap, subst, ◌∙◌, ℕ, ◌+◌, ◌-◌, ◌<◌, ◌^◌, Bool, true, false, List, arith, Some}
use Rattle.std.specs.Prelude.{All, Contains, length, map, slice_index}
use Rattle.std.proofs.lemmas.List.{length-append, length-map}
use Rattle.std.specs.List.{flat_map}
use Rattle.word_spec.specs.State.{Written}
use Rattle.word_spec.specs.Memory.{Memory}
use Rattle.clause_spec.specs.Clauses.{Cnf, Satisfies, valuation}
use Rattle.clause_spec.specs.Refutation.{LogLine, IsRefutation}
use Rattle.clause_spec.specs.Empowering.{IsSpent}
use Rattle.bilv_spec.specs.Run.{Program}
use Rattle.call_spec.specs.Calls.{PairQuestion, DifferenceOfExits}
use Rattle.machine_spec.specs.StateText.{Layout}
use Rattle.start_value.specs.Starts.{written_of}
use Rattle.start_value.specs.declared.start.Start.{Start}
use Rattle.pair_form.specs.Views.{program_of_side_cells, program_of_side_question, side_cells_of, side_term_of}
use Rattle.pair_form.specs.declared.sides.SideCells.{SideCells}
use Rattle.pair_form.specs.declared.sides.SideQuestion.{SideQuestion}
use Rattle.pair_spec.specs.ExitPlaces.{HasOwnExit, before_step}
use Rattle.pair_spec.specs.Links.{ComparesAlike, Link, asking}
use Rattle.pair_spec.specs.PairEvidence.{RefutesPair, SpendsPair, behind}
use Rattle.pair_spec.specs.PairLayers.{IsPairSide}
use Rattle.pair_spec.specs.PairTerms.{HaveWidths, TellsPair, TellsSideCells, entry_widths, exit_widths, with_exit_place}
use Rattle.pair_spec.proofs.ExitInputs.{exit_place_pairs, exit_place_reads, exit_place_starts}
use Rattle.pair_spec.proofs.PairStarts.{broken_is_new_in_pair}
use Rattle.pair_terms.specs.Sides.{IsPlacedAs, TellsCellsOf}
use Rattle.question_form.specs.Questions.{program_of_question}
use Rattle.question_form.specs.Views.{unrolled_of}
use Rattle.question_form.specs.declared.questions.Passive.{Passive}
use Rattle.mem_cells.proofs.Gathered.{term_free}
use Rattle.walk_laws.proofs.CellValues.{word_fits}
use Rattle.walk_laws.proofs.InputsWithin.{reading_in_range}
use Rattle.walk_laws.proofs.StartReadings.{start_is_written}
use Rattle.term_spec.specs.Cells.{AreFormed, Cells, Gives, IsAllowed}
use Rattle.term_spec.specs.ClauseForm.{IsBroken, IsStartOf, inputs, reading, start_memory}
use Rattle.term_spec.specs.Terms.{TermReading, with_mem}
use Rattle.walk_spec.specs.Unrolled.{UnrolledProgram, byte_of_runs}
use Rattle.term_spec.specs.WalkQuestions.{is_asked}
use Rattle.verdict.specs.Grounds.{IsGround}
use Rattle.verdict.specs.Rounds.{AreAdded, HasBytes}
use Rattle.asked_bytes.proofs.Adding.{any_contained}
use Rattle.pair_verdict.specs.PairRounds.{AreBroken, AreNew, AreOne, AreValues, IsAskableSide, IsPairAnswered, IsShown}
use Rattle.pair_verdict.specs.declared.verdicts.PairAnswered.TheVariants.{Sat}
use Rattle.pair_verdict.proofs.OwnExits.{own_as}
use Rattle.pair_verdict.proofs.PairAnswering.{pair_refutes, pair_shows, pair_spends}
use Rattle.pair_verdict.proofs.ReadingsAlike.{AreSame, reading_same}
use Rattle.pair_verdict.proofs.SideLayers.{side_layers}

-- reads that some memory gives have one byte at one address
one_by_memory : (u : UnrolledProgram) (c : Cells) → AreFormed u c → (x : TermReading) (m : Memory) → Gives c (with_mem x m) → AreOne c x
one_by_memory u c formed x m gives i j l k e =
    gives i l
    ∙ ap m (term_free x (λ p. m) c.nodes (slice_index c.addresses i) formed.words ∙ e
    ∙ sym (term_free x (λ p. m) c.nodes (slice_index c.addresses j) formed.words))
    ∙ sym (gives j k)

-- the cells of a side
module _ (second : Bool) (links : List Link) (question : PairQuestion) (s : SideQuestion) (q : Passive) (side : IsAskableSide second links question s q)
    (added : List ℕ) (c : SideCells) (of : c.celled.question.now ≡ s.question) (tells : TellsCellsOf s added c) where
  pub placed_is : program_of_side_cells c ≡ program_of_side_question s
  placed_is = ap program_of_question of

  pub told : (u : UnrolledProgram) → IsPlacedAs u (program_of_side_question s) →
      TellsSideCells u links question (side_term_of s) (is_asked added u.literals) (side_cells_of c)
  told u placed =
      let literals : (program_of_side_question s).literals ≡ u.literals = ap (λ (z : UnrolledProgram). z.literals) placed.is in
      subst (λ z. TellsSideCells u links question (side_term_of s) (is_asked added z) (side_cells_of c)) literals
      (tells u second links question placed (side.tells u placed))

  -- they are those of the program with the exit as a place
  pub placed_cells : (u : UnrolledProgram) → IsPlacedAs u (program_of_side_question s) → program_of_side_cells c ≡ with_exit_place u
  placed_cells u placed = placed_is ∙ placed.is

  pub cells_formed : AreFormed (program_of_side_cells c) (side_cells_of c).cells
  cells_formed =
      let u = side.some.0 in
      subst (λ (z : UnrolledProgram). AreFormed z (side_cells_of c).cells) (sym (placed_cells u side.some.1))
      (((exit_place_reads u).5 (side_cells_of c).cells).1 (told u side.some.1).formed)

  pub cell_entries : HaveWidths (side_cells_of c).cells.nodes (side_cells_of c).entries (flat_map entry_widths links)
  cell_entries = (told side.some.0 side.some.1).entry_widths

  pub cell_exits : question ≡ DifferenceOfExits → HaveWidths (side_cells_of c).cells.nodes (side_cells_of c).exits (flat_map exit_widths links)
  cell_exits = (told side.some.0 side.some.1).exit_widths

  pub passive_is : program_of_side_cells c ≡ unrolled_of q.unrolled.now
  passive_is = placed_is ∙ side.same

  -- in values that the cells allow reads of one address have one byte, since some memory gives them
  pub allowed_values : (values : List Bool) (v : ℕ → Bool) → AreSame (valuation values) v →
      IsAllowed (side_cells_of c).cells (reading (program_of_side_cells c) (side_cells_of c).cells v) → AreValues c.celled values q
  allowed_values values v same allowed =
      let x = reading (program_of_side_cells c) (side_cells_of c).cells v in
      let found = (told side.some.0 side.some.1).complete x (reading_in_range (program_of_side_cells c) (side_cells_of c).cells v) allowed in
      record {
        formed = cells_formed;
        one = subst (AreOne (side_cells_of c).cells) (sym (reading_same (program_of_side_cells c) (side_cells_of c).cells (valuation values) v same))
            (one_by_memory (program_of_side_cells c) (side_cells_of c).cells cells_formed x found.0 found.3);
        same = passive_is;
        decidable = side.decidable;
      }

  -- known bytes that values break are known bytes
  pub broken_bytes : (values : List Bool) (found : List ℕ) → AreBroken c.celled values found → AreAdded (program_of_side_question s) found
  broken_bytes values found h = record {
    rise = h.rise;
    known = λ a has.
        (let b = (h.broken a).0 has in
        let w = program_of_side_cells c in (
          subst (λ (n : ℕ). n < 2 ^ 32) b.3
              (word_fits w (side_cells_of c).cells cells_formed (reading w (side_cells_of c).cells (valuation values))
              (reading_in_range w (side_cells_of c).cells (valuation values)) 32 (slice_index (side_cells_of c).cells.addresses b.0)
              (cells_formed.addresses b.0 b.2)),
          subst (λ (z : UnrolledProgram). (y : ℕ) × (byte_of_runs z.known a ≡ Some y)) placed_is (b.1, b.4),
        ));
  }

-- the known bytes of a side are bytes
pub side_bytes : (second : Bool) (links : List Link) (question : PairQuestion) (s : SideQuestion) (q : Passive) → IsAskableSide second links question s q →
    HasBytes (program_of_side_question s)
side_bytes second links question s q side = subst HasBytes (sym side.same) side.decidable.askable.bytes

-- what is added to the form is added to the program
pub added_to : (u w : UnrolledProgram) → IsPlacedAs u w → (added : List ℕ) → AreAdded w added → AreAdded u added
added_to u w placed added h =
    let g = subst (λ (z : UnrolledProgram). AreAdded z added) placed.is h in record { rise = g.rise; known = g.known }

-- what values break of the form they break of the program
pub broken_of : (u w : UnrolledProgram) → w ≡ with_exit_place u → (c : Cells) (v v' : ℕ → Bool) → AreSame v v' → (at : ℕ) →
    IsBroken w c (reading w c v) at → IsBroken u c (reading u c v') at
broken_of u w placed c v v' same at h =
    let g = subst (λ (z : UnrolledProgram). IsBroken z c (reading z c v) at) placed h in
    let x : reading (with_exit_place u) c v ≡ reading u c v' = reading_same (with_exit_place u) c v v' same ∙ (exit_place_reads u).3 c v' in
    subst (λ y. IsBroken u c y at) x (((exit_place_reads u).6 c (reading (with_exit_place u) c v) at).0 g)

-- a start of values is one of all values that are the same
start_same : (u : UnrolledProgram) (c : Cells) (v v' : ℕ → Bool) → AreSame v v' → (s : Written) → IsStartOf u c v s → IsStartOf u c v' s
start_same u c v v' same s h =
    let e : reading u c v ≡ reading u c v' = reading_same u c v v' same in
    record {
      regs = h.regs ∙ ap (λ (x : TermReading). map (x.regs 0) u.registers) e;
      flags = λ f l. h.flags f l ∙ ap (λ (x : TermReading). x.flags 0 f) e;
      flags_fit = h.flags_fit;
      bytes = h.bytes;
      bytes_rise = h.bytes_rise;
      unknown = h.unknown;
      gives = subst (λ (x : TermReading). Gives c (with_mem x (start_memory u s))) e h.gives;
      choices = h.choices;
      choices_rise = h.choices_rise;
      follows = λ r is step i d at. h.follows r (record {
        pc = is.pc;
        regs = is.regs ∙ ap (λ (x : TermReading). x.regs 0) (sym e);
        flags = is.flags ∙ ap (λ (x : TermReading). x.flags 0) (sym e);
        mem = is.mem;
        choice = λ j l. is.choice j l ∙ ap (λ (x : TermReading). x.choice j) (sym e);
      }) step i d at ∙ ap (λ (x : TermReading). x.choice i) e;
    }

-- a start of the form's values, without choices at the last place, is one of the program's
start_to : (u w : UnrolledProgram) → IsPlacedAs u w → HasOwnExit u → (c : Cells) (v : ℕ → Bool) (s x : Written) →
    IsStartOf w c v x → s ≡ before_step (length w.points - 1) x → IsStartOf u c v s
start_to u w placed own c v s x is e =
    let one : length w.points ≡ length u.points + 1 = ap (λ (z : UnrolledProgram). length z.points) placed.is ∙ one_more u in
    let count : length w.points - 1 ≡ length u.points = omega (arith, one) in
    subst (IsStartOf u c v) (sym (e ∙ ap (λ n. before_step n x) count))
    (exit_place_starts u placed.some placed.later own c v x (subst (λ (z : UnrolledProgram). IsStartOf z c v x) placed.is is))
  where
    one_more : (z : UnrolledProgram) → length (with_exit_place z).points ≡ length z.points + 1
    one_more z = simp (length-append, length-map)

-- both sides with their cells, and the clauses of both
module _ (links : List Link) (question : PairQuestion) (alike : All ComparesAlike links) (s z : SideQuestion) (a b : Passive)
    (one : IsAskableSide false links question s a) (two : IsAskableSide true links question z b) (first second : List ℕ)
    (of_first : AreAdded (program_of_side_question s) first) (of_second : AreAdded (program_of_side_question z) second) (c d : SideCells)
    (of : c.celled.question.now ≡ s.question) (other_of : d.celled.question.now ≡ z.question) (tells : TellsCellsOf s first c) (tell : TellsCellsOf z second d)
    (cnf : Cnf) (clauses : TellsPair (program_of_side_cells c) (program_of_side_cells d) links question (side_cells_of c) (side_cells_of d) cnf) where
  abbrev n : ℕ
  n = inputs (program_of_side_cells c) (side_cells_of c).cells

  -- the second side's values
  module _ (values later : List Bool) (same : AreSame (valuation later) (behind n (valuation values))) (sat : Satisfies (valuation values) cnf.clauses) where
    pub first_values : AreValues c.celled values a
    first_values =
        allowed_values false links question s a one first c of tells values (valuation values) (λ i. refl) (clauses.extends.only (valuation values) sat).first_allowed

    pub second_values : AreValues d.celled later b
    second_values =
        allowed_values true links question z b two second d other_of tell later (behind n (valuation values)) same
        (clauses.extends.only (valuation values) sat).second_allowed

  module _ (u w : UnrolledProgram) (pu : IsPlacedAs u (program_of_side_question s)) (pw : IsPlacedAs w (program_of_side_question z)) where
    first_told : TellsSideCells u links question (side_term_of s) (is_asked first u.literals) (side_cells_of c)
    first_told = told false links question s a one first c of tells u pu

    second_told : TellsSideCells w links question (side_term_of z) (is_asked second w.literals) (side_cells_of d)
    second_told = told true links question z b two second d other_of tell w pw

    both_told : TellsPair u w links question (side_cells_of c) (side_cells_of d) cnf
    both_told =
        exit_place_pairs u w links question (side_cells_of c) (side_cells_of d) cnf
        (subst (λ (y : UnrolledProgram). TellsPair (with_exit_place u) y links question (side_cells_of c) (side_cells_of d) cnf)
        (placed_cells true links question z b two second d other_of tell w pw)
        (subst (λ (y : UnrolledProgram). TellsPair y (program_of_side_cells d) links question (side_cells_of c) (side_cells_of d) cnf)
        (placed_cells false links question s a one first c of tells u pu) clauses))

    same_inputs : inputs u (side_cells_of c).cells ≡ n
    same_inputs =
        sym (ap (λ (y : UnrolledProgram). inputs y (side_cells_of c).cells) (placed_cells false links question s a one first c of tells u pu)
        ∙ (exit_place_reads u).2 (side_cells_of c).cells)

    module _ (values later : List Bool) (same : AreSame (valuation later) (behind n (valuation values))) (sat : Satisfies (valuation values) cnf.clauses) where
      later_same : AreSame (valuation later) (behind (inputs u (side_cells_of c).cells) (valuation values))
      later_same i = same i ∙ ap (λ m. behind m (valuation values) (i + 1)) (sym same_inputs)

      -- bytes that are broken are new ones
      first_new : (at : ℕ) → IsBroken (program_of_side_cells c) (side_cells_of c).cells (reading (program_of_side_cells c) (side_cells_of c).cells (valuation values)) at →
          is_asked first u.literals at ≡ false
      first_new at h =
          (broken_is_new_in_pair u w links question (side_term_of s) (side_term_of z) (is_asked first u.literals) (is_asked second w.literals)
          (side_cells_of c) (side_cells_of d) first_told second_told cnf both_told (valuation values) sat at).0
          (broken_of u (program_of_side_cells c) (placed_cells false links question s a one first c of tells u pu) (side_cells_of c).cells (valuation values)
          (valuation values) (λ i. refl) at h)

      second_new : (at : ℕ) → IsBroken (program_of_side_cells d) (side_cells_of d).cells (reading (program_of_side_cells d) (side_cells_of d).cells (valuation later)) at →
          is_asked second w.literals at ≡ false
      second_new at h =
          (broken_is_new_in_pair u w links question (side_term_of s) (side_term_of z) (is_asked first u.literals) (is_asked second w.literals)
          (side_cells_of c) (side_cells_of d) first_told second_told cnf both_told (valuation values) sat at).1
          (broken_of w (program_of_side_cells d) (placed_cells true links question z b two second d other_of tell w pw) (side_cells_of d).cells (valuation later)
          (behind (inputs u (side_cells_of c).cells) (valuation values)) later_same at h)

    module _ (p q : Program) (k : ℕ) (form other : Layout) (g : IsGround (asking false links p) k form u) (h : IsGround (asking true links q) k other w) where
      first_layers : IsPairSide p k false links question (is_asked first u.literals) u (side_term_of s) (side_cells_of c)
      first_layers =
          side_layers p k form false links question u g first (added_to u (program_of_side_question s) pu first of_first) (side_term_of s) (side_cells_of c)
          (one.tells u pu) first_told

      second_layers : IsPairSide q k true links question (is_asked second w.literals) w (side_term_of z) (side_cells_of d)
      second_layers =
          side_layers q k other true links question w h second (added_to w (program_of_side_question z) pw second of_second) (side_term_of z) (side_cells_of d)
          (two.tells w pw) second_told

      pub refuted_so : (log : List LogLine) → IsRefutation cnf.variables cnf.clauses log → RefutesPair p q k links question (record { clauses = cnf; log = log })
      refuted_so log refuted =
          pair_refutes p q k links question (is_asked first u.literals) (is_asked second w.literals) u w (side_term_of s) (side_term_of z) (side_cells_of c)
          (side_cells_of d) alike first_layers second_layers cnf both_told log refuted

      pub spent_so : (conflicts : ℕ) (log : List LogLine) → IsSpent cnf.clauses conflicts log →
          SpendsPair p q k links question conflicts (record { clauses = cnf; log = log })
      spent_so conflicts log spent =
          pair_spends p q k links question (is_asked first u.literals) (is_asked second w.literals) u w (side_term_of s) (side_term_of z) (side_cells_of c)
          (side_cells_of d) alike first_layers second_layers cnf both_told conflicts log spent

      pub shown_so : (values later : List Bool) → AreSame (valuation later) (behind n (valuation values)) → Satisfies (valuation values) cnf.clauses →
          (conflicts : ℕ) (x y : Start) → IsShown c.celled values x → IsShown d.celled later y →
          IsPairAnswered p q k form other links question conflicts (Sat x y)
      shown_so values later same sat conflicts x y (v, is, e) (v', is', e') =
          let cc' = (side_cells_of c).cells in
          let dd = (side_cells_of d).cells in
          let start : IsStartOf u cc' (valuation values) (written_of x) =
          start_to u (program_of_side_cells c) (record { is = placed_cells false links question s a one first c of tells u pu; some = pu.some; later = pu.later; by_link = pu.by_link })
          (own_as one.some.0 u (program_of_side_question s) one.some.1.is pu.is one.some.2) cc' (valuation values) (written_of x) v is e in
          let start' : IsStartOf w dd (behind (inputs u cc') (valuation values)) (written_of y) =
          start_same w dd (valuation later) (behind (inputs u cc') (valuation values)) (later_same values later same sat) (written_of y)
          (start_to w (program_of_side_cells d) (record { is = placed_cells true links question z b two second d other_of tell w pw; some = pw.some; later = pw.later; by_link = pw.by_link })
          (own_as two.some.0 w (program_of_side_question z) two.some.1.is pw.is two.some.2) dd (valuation later) (written_of y) v' is' e') in (
            start_is_written (asking false links p) k u g.unrolling form g.laid g.steps cc' (valuation values) (written_of x) start,
            start_is_written (asking true links q) k w h.unrolling other h.laid h.steps dd (behind (inputs u cc') (valuation values)) (written_of y) start',
            pair_shows p q k links question (is_asked first u.literals) (is_asked second w.literals) u w (side_term_of s) (side_term_of z) (side_cells_of c)
                (side_cells_of d) alike first_layers second_layers cnf both_told form other g.laid h.laid (valuation values) sat (written_of x) (written_of y)
                start start',
          )

  -- values that break known bytes break new ones
  module _ (values later : List Bool) (same : AreSame (valuation later) (behind n (valuation values))) (sat : Satisfies (valuation values) cnf.clauses) where
    was_asked : (added literals : List ℕ) (at : ℕ) → Contains added at → is_asked added literals at ≡ false → ⊥
    was_asked added literals at old unasked = let asked = any_contained added at old in cc

    pub first_further : (found : List ℕ) → AreBroken c.celled values found → AreNew (program_of_side_question s) first found
    first_further found h = record {
      are = broken_bytes false links question s a one first c of tells values found h;
      new = λ at has old. was_asked first one.some.0.literals at old
          (first_new one.some.0 two.some.0 one.some.1 two.some.1 values later same sat at ((h.broken at).0 has));
    }

    pub second_further : (found : List ℕ) → AreBroken d.celled later found → AreNew (program_of_side_question z) second found
    second_further found h = record {
      are = broken_bytes true links question z b two second d other_of tell later found h;
      new = λ at has old. was_asked second two.some.0.literals at old
          (second_new one.some.0 two.some.0 one.some.1 two.some.1 values later same sat at ((h.broken at).0 has));
    }
