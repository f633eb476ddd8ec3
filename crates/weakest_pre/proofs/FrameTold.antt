-- What the term of a question of a frame says, from that of the entry condition and a passive program.
use Rattle.std.proofs.Common.{inl, inr, ◌≡◌, ◌↔◌, ℕ, Bool, true, false, ◌&&◌, bit_and, List, [], ◌≤◌, Contains, refl, ap, sym, subst, ◌∙◌, arith}
use Rattle.std.specs.Prelude.{sum_by}
use Rattle.word_spec.specs.Words.{bit}
use Rattle.word_spec.specs.State.{State}
use Rattle.bilv_spec.specs.Points.{line_price, bytes_loaded}
use Rattle.walk_spec.specs.Prices as prices
use Rattle.walk_spec.specs.Prices.{line_size, line_steps}
use Rattle.walk_spec.specs.Unrolled as tables
use Rattle.walk_spec.specs.Unrolled.{state_at}
use Rattle.walk_spec.specs.Unrolling as walking
use Rattle.term_spec.specs.Terms.{TermNode, RegisterNode, FlagNode, ChoiceNode, BaseNode, MemoryNode, ConstantNode, BinaryNode, NotNode, SelectNode, ExtractNode, ConcatNode, ExtendNode, LoadNode, StoreNode, JoinNode, TakeNode, term_word}
use Rattle.term_spec.specs.Passive as passive
use Rattle.term_spec.specs.WalkQuestions as walks
use Rattle.term_spec.specs.WalkQuestions.{QuestionTerm}
use Rattle.frame_spec.specs.FrameQuestions.{Reading, IsReading, Question, EntryQuestion, FailQuestion, StepQuestion, TurnQuestion}
use Rattle.frame_spec.specs.FrameWalk.{UnrolledProgram, Held, swept}
use Rattle.frame_laws.specs.FramePrices.{required_lines}
use Rattle.frame_laws.specs.HeadlessLaws.{as_question, as_unrolled}
use Rattle.frame_laws.specs.RunOfFrame.{SweepEndsBy}
use Rattle.frame_laws.proofs.FrameSums.{frame_parts_add_up}
use Rattle.frame_terms.specs.PassiveFrames.{part_reading, NamesRegister, NamesFlag, NamesMemory, IsNamedBelow, AreTermsWithin, passive_room, Tells, UnderAll, IsPassive, IsTrueButBytes, TellsQuestion, inputs_of}
use Rattle.frame_terms.proofs.FrameReadings.{part_range}
use Rattle.frame_terms.proofs.HeadlessNodes.{tells_as, point_terms_as, headless_terms}
use Rattle.call_form.specs.declared.kind.Kind.{Kind}
use Rattle.call_form.specs.declared.kind.Kind.TheVariants as kinds
use Rattle.call_form.specs.declared.kind.Asked.{Asked}
use Rattle.call_form.specs.declared.kind.Asked.TheVariants.{Entry, Fail, Step, Turn}
use Rattle.question_form.specs.declared.questions.Passive.{Passive}
use Rattle.question_form.specs.Asked.{asked_of, frame_question, program_question}
use Rattle.question_form.specs.FrameQuestions.{frame_passive_of}
use Rattle.question_form.specs.FrameViews.{frame_unrolled_of}
use Rattle.question_form.specs.Questions.{passive_of}
use Rattle.question_form.specs.Views.{unrolled_of}
use Rattle.term_dag.specs.Nodes.{IsInput}
use Rattle.term_dag.specs.Made.{moved}
use Rattle.term_names.specs.Chosen.{at_entry}
use Rattle.note_terms.proofs.Steps.{bits_and}
use Rattle.weakest_pre.specs.Entry.{meets, without_points, IsEntryBit}
use Rattle.weakest_pre.specs.Roots.{IsTied, IsTiedBy, IsTermOf}
use Rattle.weakest_pre.proofs.Told.{both_true, true_both, bit_one, lines_met, nothing_there}

-- how the sweep ends, as a question of the frame asks
abbrev ends : Question → Held → Bool
ends EntryQuestion h = true
ends FailQuestion h = h.fails
ends StepQuestion h = h.steps
ends TurnQuestion h = h.turns

ends_tell : (u : UnrolledProgram) (question : Question) (r : Reading) → (ends question (swept u r) ≡ true) ↔ SweepEndsBy u r question
ends_tell u EntryQuestion r = ((λ e. tt), (λ e. refl))
ends_tell u FailQuestion r = ((λ e. e), (λ e. e))
ends_tell u StepQuestion r = ((λ e. e), (λ e. e))
ends_tell u TurnQuestion r = ((λ e. e), (λ e. e))

-- a test with nothing more
and_true : (b : Bool) → b ≡ (b && true)
and_true true = refl
and_true false = refl

module _ (u : UnrolledProgram) (heads : Bool) where
  -- what the entry condition names is the frame's
  entry_input : (m : TermNode) → walks.IsNamedBelow (inputs_of u) 0 m → IsNamedBelow u heads 0 m
  entry_input (RegisterNode p n) h = subst (λ (z : ℕ). NamesRegister u heads z n) (sym h.0) h.1
  entry_input (FlagNode p f) h = subst (λ (z : ℕ). NamesFlag u heads z f) (sym h.0) h.1
  entry_input (ChoiceNode i) h = let l = h.0 in absurd (omega arith)
  entry_input (BaseNode p j) h = let l = h.1 in absurd (omega arith)
  entry_input (MemoryNode p) h = subst (λ (z : ℕ). NamesMemory u heads z) (sym h) tt
  entry_input (ConstantNode w v) h = h
  entry_input (BinaryNode o w a b) h = h
  entry_input (NotNode w a) h = h
  entry_input (SelectNode w c a b) h = h
  entry_input (ExtractNode hi lo a) h = h
  entry_input (ConcatNode high low a b) h = h
  entry_input (ExtendNode s n m a) h = h
  entry_input (LoadNode n e m a) h = h
  entry_input (StoreNode n e m a v) h = h
  entry_input (JoinNode c a b) h = h
  entry_input (TakeNode n m a p) h = absurd h

  -- a node over other places names what it names
  moved_input : (f : ℕ → ℕ) (n : TermNode) → IsNamedBelow u heads 0 n → IsNamedBelow u heads 0 (moved f n)
  moved_input f (RegisterNode p r) h = h
  moved_input f (FlagNode p r) h = h
  moved_input f (ChoiceNode i) h = h
  moved_input f (BaseNode p j) h = h
  moved_input f (MemoryNode p) h = h
  moved_input f (ConstantNode w v) h = h
  moved_input f (BinaryNode o w a b) h = h
  moved_input f (NotNode w a) h = h
  moved_input f (SelectNode w c a b) h = h
  moved_input f (ExtractNode hi lo a) h = h
  moved_input f (ConcatNode high low a b) h = h
  moved_input f (ExtendNode s n m a) h = h
  moved_input f (LoadNode n e m a) h = h
  moved_input f (StoreNode n e m a v) h = h
  moved_input f (JoinNode c a b) h = h
  moved_input f (TakeNode n m a p) h = h

  -- nodes that name inputs name nothing else
  named_all : (m : TermNode) → (IsInput m → IsNamedBelow u heads 0 m) → IsNamedBelow u heads 0 m
  named_all (RegisterNode p r) h = h tt
  named_all (FlagNode p f) h = h tt
  named_all (ChoiceNode i) h = h tt
  named_all (BaseNode p j) h = h tt
  named_all (MemoryNode p) h = h tt
  named_all (ConstantNode w v) h = tt
  named_all (BinaryNode o w a b) h = tt
  named_all (NotNode w a) h = tt
  named_all (SelectNode w c a b) h = tt
  named_all (ExtractNode hi lo a) h = tt
  named_all (ConcatNode high low a b) h = tt
  named_all (ExtendNode s n m a) h = tt
  named_all (LoadNode n e m a) h = tt
  named_all (StoreNode n e m a v) h = tt
  named_all (JoinNode c a b) h = tt
  named_all (TakeNode n m a p) h = h tt

  -- the lines of the entry condition are those that are required
  lines_same : prices.entry_lines (inputs_of u) ≡ required_lines u
  lines_same = refl

  prices_within : sum_by line_price (prices.entry_lines (inputs_of u)) ≤ sum_by line_price (required_lines u)
  prices_within = let e = ap (sum_by line_price) lines_same in omega (arith, e)

  loads_within : sum_by bytes_loaded (prices.entry_lines (inputs_of u)) ≤ sum_by bytes_loaded (required_lines u)
  loads_within = let e = ap (sum_by bytes_loaded) lines_same in omega (arith, e)

  steps_within : line_steps (prices.entry_lines (inputs_of u)) ≤ line_steps (required_lines u)
  steps_within = let e = ap line_steps lines_same in omega (arith, e)

  -- a question by the tests of the entry condition and of how the segments end
  question_by : (question : Question) (r : Reading) (word : ℕ) → word ≡ bit (meets (inputs_of u) r.state && ends question (swept u r)) →
      (word ≡ 1) ↔ IsTrueButBytes u r question
  question_by question r word is =
      let lines = lines_met (inputs_of u) r.state in
      let tells = ends_tell u question r in (
        (λ e.
            (let k = both_true _ _ (bit_one _ (sym is ∙ e)) in
            let m = lines.0 k.0 in
            record { lines = record { link = m.link; requires = m.requires }; ends = tells.0 k.1 })),
        (λ m. is ∙ ap bit (true_both _ _ (lines.1 (record { link = m.lines.link; requires = m.lines.requires })) (tells.1 m.ends))),
      )

  module _ (nodes : List TermNode) (entry : ℕ) (h : IsEntryBit (inputs_of u) [] nodes entry) where
    entry_named : (m : TermNode) → Contains nodes m → IsInput m → IsNamedBelow u heads 0 m
    entry_named m c i = elim (h.inputs m c i) [ inl none ↦ nothing_there m (IsNamedBelow u heads 0 m) none | inr named ↦ entry_input m named ]

    -- what the entry condition's bit is under a reading
    entry_tells : (r : Reading) → IsReading r → r.state.pc ≡ u.entry → term_word (part_reading u r) nodes entry ≡ bit (meets (inputs_of u) r.state)
    entry_tells r k e =
        let x = part_reading u r in
        let same : r.state ≡ state_at (at_entry x) u.entry = ap (λ (p : ℕ). state_at (at_entry x) p) e in
        h.value x (part_range u r k) ∙ ap (λ (s : State). bit (meets (inputs_of u) s)) (sym same)

    -- the question whether there is an entry state
    pub entry_told : TellsQuestion u heads EntryQuestion (record { nodes = nodes; root = entry })
    entry_told =
        let parts = frame_parts_add_up u heads in
        let grew = h.grew in
        record {
          terms = record {
            typed = h.typed;
            named = λ m c. named_all m (entry_named m c);
            gates = (let p = prices_within in omega (arith, grew.gates, parts.0));
            loads = (let p = loads_within in omega (arith, grew.loads, parts.1));
            stores = omega (arith, grew.stores);
            joins = omega (arith, grew.joins);
            few = (let p = steps_within in omega (arith, grew.few, parts.2));
          };
          root = h.width;
          means = λ r k e. question_by EntryQuestion r _ (entry_tells r k e ∙ ap bit (and_true (meets (inputs_of u) r.state)));
        }

    module _ (question : Question) where
      -- a question about how the segments end
      pub end_told : (source new : List TermNode) (from t : ℕ) → AreTermsWithin u heads (passive_room u heads) source →
          UnderAll u (λ r. Tells source (part_reading u r) from (ends question (swept u r))) → IsTied source nodes new entry from t →
          TellsQuestion u heads question (record { nodes = new; root = t })
      end_told source new from t room bits tied =
          let parts = frame_parts_add_up u heads in
          let grew = h.grew in
          let more = tied.grew in
          record {
            terms = record {
              typed = tied.typed;
              named = λ m c. named_all m (λ i. elim (tied.inputs m c i) [
                | inl old ↦ entry_named m old i
                | inr copied ↦ subst (IsNamedBelow u heads 0) (sym copied.is) (moved_input copied.over copied.node (room.named copied.node copied.there))
              ]);
              gates = (let p = prices_within in omega (arith, grew.gates, more.gates, room.gates, parts.0));
              loads = (let p = loads_within in omega (arith, grew.loads, more.loads, room.loads, parts.1));
              stores = omega (arith, grew.stores, more.stores, room.stores);
              joins = omega (arith, grew.joins, more.joins, room.joins);
              few = (let p = steps_within in omega (arith, grew.few, more.few, room.few, parts.2));
            };
            root = tied.width;
            means = λ r k e.
                question_by question r _
                (tied.value (part_reading u r) (part_range u r k)
                ∙ ap (λ (v : ℕ). bit_and v (term_word (part_reading u r) source from)) (entry_tells r k e)
                ∙ ap (bit_and (bit (meets (inputs_of u) r.state))) (bits r k e) ∙ bits_and (meets (inputs_of u) r.state) (ends question (swept u r)));
          }

-- the entry condition hangs on nothing of the points
at_inputs : (v : tables.UnrolledProgram) (nodes : List TermNode) (entry : ℕ) → IsEntryBit v [] nodes entry → IsEntryBit (without_points v) [] nodes entry
at_inputs v nodes entry h = record { grew = h.grew; inputs = h.inputs; typed = h.typed; width = h.width; value = h.value }

-- a question of a frame
module _ (p : Passive) (nodes : List TermNode) (entry : ℕ) (bit : IsEntryBit (unrolled_of p.unrolled.now) [] nodes entry) (t : QuestionTerm) where
  abbrev u : UnrolledProgram
  u = frame_unrolled_of p.unrolled.now

  frame_told_by : (asked : Asked) → IsPassive u p.unrolled.now.heads (frame_passive_of p) → IsTiedBy p asked nodes entry t →
      TellsQuestion u p.unrolled.now.heads (frame_question asked) t
  frame_told_by Entry h tied =
      subst (λ (z : List TermNode). TellsQuestion u p.unrolled.now.heads EntryQuestion (record { nodes = z; root = t.root })) (sym tied.0)
      (subst (λ (z : ℕ). TellsQuestion u p.unrolled.now.heads EntryQuestion (record { nodes = nodes; root = z })) (sym tied.1)
      (entry_told u p.unrolled.now.heads nodes entry (at_inputs (unrolled_of p.unrolled.now) nodes entry bit)))
  frame_told_by Fail h tied =
      end_told u p.unrolled.now.heads nodes entry (at_inputs (unrolled_of p.unrolled.now) nodes entry bit) FailQuestion p.dag t.nodes p.fails.0 t.root h.terms
      h.failing tied
  frame_told_by Step h tied =
      end_told u p.unrolled.now.heads nodes entry (at_inputs (unrolled_of p.unrolled.now) nodes entry bit) StepQuestion p.dag t.nodes p.steps.0 t.root h.terms
      h.stepping tied
  frame_told_by Turn h tied =
      end_told u p.unrolled.now.heads nodes entry (at_inputs (unrolled_of p.unrolled.now) nodes entry bit) TurnQuestion p.dag t.nodes p.turns.0 t.root h.terms
      h.turning tied

pub frame_told : (p : Passive) (asked : Asked) (t : QuestionTerm) → IsPassive (frame_unrolled_of p.unrolled.now) p.unrolled.now.heads (frame_passive_of p) →
    IsTermOf p asked t → TellsQuestion (frame_unrolled_of p.unrolled.now) p.unrolled.now.heads (frame_question asked) t
frame_told p asked t h is = frame_told_by p is.nodes is.bit is.entry t asked h is.tied

-- a question of a program, as one of its frame
module _ (p : Passive) (nodes : List TermNode) (entry : ℕ) (bit : IsEntryBit (unrolled_of p.unrolled.now) [] nodes entry) (t : QuestionTerm)
    (h : passive.IsPassive (unrolled_of p.unrolled.now) (passive_of p)) where
  abbrev w : tables.UnrolledProgram
  w = unrolled_of p.unrolled.now

  told_by : (kind : Kind) → IsTiedBy p (asked_of kind) nodes entry t → TellsQuestion (as_unrolled w) false (as_question (program_question (asked_of kind))) t
  told_by kinds.Entry tied =
      subst (λ (z : List TermNode). TellsQuestion (as_unrolled w) false EntryQuestion (record { nodes = z; root = t.root })) (sym tied.0)
      (subst (λ (z : ℕ). TellsQuestion (as_unrolled w) false EntryQuestion (record { nodes = nodes; root = z })) (sym tied.1)
      (entry_told (as_unrolled w) false nodes entry (at_inputs w nodes entry bit)))
  told_by kinds.Fail tied =
      end_told (as_unrolled w) false nodes entry (at_inputs w nodes entry bit) FailQuestion p.dag t.nodes p.fails.0 t.root (point_terms_as w p.dag h.terms)
      (tells_as w p.dag h.terms.named p.fails.0 h.fails_bit.0 (λ x. x.fails) (λ x. x.fails) (λ x. refl) h.failing) tied
  told_by kinds.Turn tied =
      end_told (as_unrolled w) false nodes entry (at_inputs w nodes entry bit) TurnQuestion p.dag t.nodes p.turns.0 t.root (point_terms_as w p.dag h.terms)
      (tells_as w p.dag h.terms.named p.turns.0 h.turns_bit.0 (λ x. x.turns) (λ x. x.turns) (λ x. refl) h.turning) tied

pub program_told : (p : Passive) (kind : Kind) (t : QuestionTerm) → walking.IsWalkable (unrolled_of p.unrolled.now) →
    passive.IsPassive (unrolled_of p.unrolled.now) (passive_of p) →
    IsTermOf p (asked_of kind) t → walks.TellsQuestion (unrolled_of p.unrolled.now) (program_question (asked_of kind)) t
program_told p kind t walkable h is =
    (headless_terms (unrolled_of p.unrolled.now) walkable.some walkable.later (program_question (asked_of kind)) t).1
    (told_by p is.nodes is.bit is.entry t h kind is.tied)
