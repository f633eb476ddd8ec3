-- The terms of a side can be made cells.
use Rattle.std.proofs.Common.{inl, inr, ℕ, Bool, List, [], length, sym, subst, arith, Contains}
use Rattle.std.specs.List.{AllByRecursion}
use Rattle.call_spec.specs.Calls.{PairQuestion, PairOfStates, DifferenceOfExits}
use Rattle.term_spec.specs.Terms.{TermNode, HasWidth, term_gates, term_loads}
use Rattle.walk_spec.specs.Unrolled.{UnrolledProgram}
use Rattle.term_spec.specs.WalkQuestions.{Room, AreTermsWithin, IsNamedBelow}
use Rattle.term_dag.specs.Nodes.{IsInput}
use Rattle.term_dag.proofs.Growth.{grew_width}
use Rattle.term_names.proofs.OfForm.{named_all}
use Rattle.mem_cells.specs.Words.{IsWordAt}
use Rattle.weakest_pre.specs.Entry.{IsEntryBit}
use Rattle.weakest_pre.proofs.Told.{entry_named}
use Rattle.weakest_pre.proofs.Moved.{copied_named}
use Rattle.pair_spec.specs.Links.{Link}
use Rattle.pair_terms.specs.Exits.{AreWithinExit, TellsLeaving}
use Rattle.pair_terms.specs.Sides.{AreEntryTerms, AreTied, AreTiedBy}
use Rattle.pair_terms.proofs.WordTerms.{widths_stay}
use Rattle.pair_terms.proofs.CellsTold.{entry_words_are, exit_words_are}

-- terms over a program, a bit, and two rows of words
pub record AreReady (w : UnrolledProgram) (nodes : List TermNode) (root : ℕ) (entry_words exit_words : List ℕ) : Type 0 where
  pub terms : (room : Room) × AreTermsWithin w room nodes
  pub bit_of : HasWidth nodes 1 root
  pub entries : AllByRecursion (IsWordAt nodes) entry_words
  pub exits : AllByRecursion (IsWordAt nodes) exit_words

abbrev own_room : List TermNode → Room
own_room nodes = record { gates = term_gates nodes; loads = term_loads nodes; nodes = length nodes }

module _ (w : UnrolledProgram) (second : Bool) (links : List Link) (a b : List TermNode) (entry : ℕ) (entries : List ℕ) (h : IsEntryBit w [] a entry)
    (e : AreEntryTerms w second links a b entries) where
  entries_input : (m : TermNode) → Contains b m → IsInput m → IsNamedBelow w 0 m
  entries_input m c i = elim (e.inputs m c i) [ inl old ↦ entry_named w a entry h m old i | inr named ↦ named ]

  pair_ready : AreReady w b entry entries []
  pair_ready =
      let grew = h.grew in
      let more = e.grew in
      record {
        terms = (
          own_room b,
          record {
            typed = e.typed;
            named = λ m c. named_all w m (entries_input m c);
            gates = omega arith;
            loads = omega arith;
            stores = omega (arith, grew.stores, more.stores);
            joins = omega (arith, grew.joins, more.joins);
            few = omega arith;
          },
        );
        bit_of = grew_width a b _ _ _ _ _ 1 entry more h.width;
        entries = entry_words_are b entries links e.widths;
        exits = tt;
      }

  difference_ready : (source c : List TermNode) (met : ℕ) (words : List ℕ) (t : ℕ) (exits : List ℕ) → AreWithinExit w links source →
      TellsLeaving w second links source met words → AreTied w source b c entry met words t exits → AreReady w c t entries exits
  difference_ready source c met words t exits x v tied =
      let grew = h.grew in
      let more = e.grew in
      let last = tied.grew in
      record {
        terms = (
          own_room c,
          record {
            typed = tied.typed;
            named = λ m k. named_all w m (λ i. elim (tied.inputs m k i) [ inl old ↦ entries_input m old i | inr copied ↦ copied_named w 0 source m copied x.named ]);
            gates = omega arith;
            loads = omega arith;
            stores = omega (arith, grew.stores, more.stores, last.stores, x.stores);
            joins = omega (arith, grew.joins, more.joins, last.joins, x.joins);
            few = omega arith;
          },
        );
        bit_of = tied.width;
        entries = entry_words_are c entries links (widths_stay b c _ _ _ _ _ last entries _ e.widths);
        exits = exit_words_are c exits links (tied.widths _ v.widths);
      }

pub side_ready : (w : UnrolledProgram) (second : Bool) (links : List Link) (question : PairQuestion) (source a b c : List TermNode) (entry : ℕ)
    (entries : List ℕ) (met : ℕ) (words : List ℕ) (t : ℕ) (exits : List ℕ) → IsEntryBit w [] a entry → AreEntryTerms w second links a b entries →
    AreWithinExit w links source → TellsLeaving w second links source met words → AreTiedBy question w source b c entry met words t exits →
    AreReady w c t entries exits
side_ready w second links PairOfStates source a b c entry entries met words t exits h e x v tied =
    subst (λ (nodes : List TermNode). AreReady w nodes t entries exits) (sym tied.0)
    (subst (λ (z : ℕ). AreReady w b z entries exits) (sym tied.1)
    (subst (λ (z : List ℕ). AreReady w b entry entries z) (sym tied.2) (pair_ready w second links a b entry entries h e)))
side_ready w second links DifferenceOfExits source a b c entry entries met words t exits h e x v tied =
    difference_ready w second links a b entry entries h e source c met words t exits x v tied
