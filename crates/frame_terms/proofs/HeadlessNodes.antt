-- The terms and the passive programs of an unrolled program are those of its unrolled frame.
use Rattle.std.proofs.Common.{◌≡◌, refl, ap, sym, ◌∙◌, subst, arith, ℕ, zero, suc, ◌<◌, List, length, Bool, true, false}
use Rattle.std.specs.Prelude.{◌-◌, slice_index}
use Rattle.word_spec.specs.Words.{bit}
use Rattle.bilv_spec.specs.Questions as questions
use Rattle.call_spec.specs.Calls as calls
use Rattle.term_spec.specs.Terms.{TermNode, RegisterNode, FlagNode, ChoiceNode, BaseNode, MemoryNode, ConstantNode, BinaryNode, NotNode, SelectNode, ExtractNode, ConcatNode, ExtendNode, LoadNode, StoreNode, JoinNode, TakeNode, node_at, term_word}
use Rattle.walk_spec.specs.Unrolled as tables
use Rattle.walk_spec.specs.Unrolled.{ExitsLeadLater}
use Rattle.walk_spec.specs.Sweep as sweeps
use Rattle.term_spec.specs.WalkQuestions as walks
use Rattle.term_spec.specs.WalkQuestions.{Room, term_reading}
use Rattle.term_spec.specs.Passive as passive
use Rattle.term_spec.proofs.HeldAnswers.{held_answers}
use Rattle.walk_laws.proofs.CellValues.{node_in, node_same, same_term}
use Rattle.frame_spec.specs.Frames.{Content}
use Rattle.frame_spec.specs.FramePoints.{triple}
use Rattle.frame_spec.specs.FrameQuestions.{Reading, IsReading}
use Rattle.frame_spec.specs.FrameWalk.{StepsOver, Gift, UnrolledProgram, Held, swept}
use Rattle.frame_laws.specs.HeadlessLaws.{as_action, as_point, flat_reading, as_question, as_unrolled, as_held}
use Rattle.frame_laws.specs.RunOfFrame.{SweepEndsBy}
use Rattle.frame_terms.specs.PassiveFrames.{part_reading, IsGiftAt, NamesRegister, NamesFlag, NamesMemory, IsNamedBelow, AreNamedBelow, AreTermsWithin, passive_room, question_room, Tells, UnderAll, IsPassive, IsTrueButBytes, TellsQuestion}
use Rattle.frame_terms.specs.HeadlessTerms.{as_passive, IsNever, HeadlessPassive, HeadlessTerms}
use Rattle.frame_laws.proofs.FrameSums.{headless_bounds}
use Rattle.frame_laws.proofs.HeadlessWalks.{place_same, count_same, headless_sweeps}

-- what a content without anything is, and the reading of a frame that is a program's
abbrev nothing : Content
nothing = record { regs = λ n. 0; flags = λ f. 0; mem = λ a. 0 }

abbrev lift : questions.Reading → Reading
lift r = record { state = r.state; head = nothing; choice = λ q. r.choice (triple q); given = λ q. nothing }

lift_is : (r : questions.Reading) → questions.IsReading r → IsReading (lift r)
lift_is r h = record {
  state = h.state;
  head = record { regs = λ n. omega arith; flags = λ f. omega arith; mem = λ a. omega arith };
  choice = λ q. h.choice (triple q);
  given = λ q. record { regs = λ n. omega arith; flags = λ f. omega arith; mem = λ a. omega arith };
}

flat_is : (r : Reading) → IsReading r → questions.IsReading (flat_reading r)
flat_is r h = record { state = h.state; choice = λ q. h.choice (as_point q) }

module _ (u : tables.UnrolledProgram) where
  abbrev v : UnrolledProgram
  v = as_unrolled u

  -- there are no gifts
  no_gift_by : (a : tables.Action) (x : Gift) → as_action a ≡ StepsOver x → ⊥
  no_gift_by (tables.Executes list) x e = absurd (cc)

  no_gift : {P : Type 0} (i : ℕ) (x : Gift) → IsGiftAt v i x → P
  no_gift i x at = absurd (no_gift_by (tables.point_at u i).does x (sym (ap (λ z. z.does) (place_same u i)) ∙ at.does))

  no_head : {P : Type 0} → false ≡ true → P
  no_head e = absurd (cc)

  -- what is named
  pub named_as : (reads : ℕ) (n : TermNode) → walks.IsNamedBelow u reads n → IsNamedBelow v false reads n
  named_as reads (RegisterNode p n) h = subst (λ (z : ℕ). NamesRegister v false z n) (sym h.0) h.1
  named_as reads (FlagNode p f) h = subst (λ (z : ℕ). NamesFlag v false z f) (sym h.0) h.1
  named_as reads (ChoiceNode i) h = (let c = count_same u in let l = h.0 in omega arith, ap (λ z. z.draws) (place_same u i) ∙ h.1)
  named_as reads (BaseNode p j) h = (subst (λ (z : ℕ). NamesMemory v false z) (sym h.0) tt, h.1)
  named_as reads (MemoryNode p) h = subst (λ (z : ℕ). NamesMemory v false z) (sym h) tt
  named_as reads (ConstantNode w x) h = h
  named_as reads (BinaryNode o w a b) h = h
  named_as reads (NotNode w a) h = h
  named_as reads (SelectNode w c a b) h = h
  named_as reads (ExtractNode hi lo a) h = h
  named_as reads (ConcatNode high low a b) h = h
  named_as reads (ExtendNode signed n m a) h = h
  named_as reads (LoadNode n e m a) h = h
  named_as reads (StoreNode n e m a x) h = h
  named_as reads (JoinNode c a b) h = h
  named_as reads (TakeNode n m a p) h = absurd h

  pub named_back : (reads : ℕ) (n : TermNode) → IsNamedBelow v false reads n → walks.IsNamedBelow u reads n
  named_back reads (RegisterNode zero n) h = (refl, h)
  named_back reads (RegisterNode (suc zero) n) h = no_head h.0
  named_back reads (RegisterNode (suc (suc i)) n) (has, (x, at, inside)) = no_gift i x at
  named_back reads (FlagNode zero f) h = (refl, h)
  named_back reads (FlagNode (suc zero) f) h = no_head h.0
  named_back reads (FlagNode (suc (suc i)) f) (has, (x, at, inside)) = no_gift i x at
  named_back reads (ChoiceNode i) h = (let c = count_same u in let l = h.0 in omega arith, ap (λ z. z.draws) (sym (place_same u i)) ∙ h.1)
  named_back reads (BaseNode zero j) h = (refl, h.1)
  named_back reads (BaseNode (suc zero) j) h = no_head h.0
  named_back reads (BaseNode (suc (suc i)) j) ((x, w, at, inside), l) = no_gift i x at
  named_back reads (MemoryNode zero) h = refl
  named_back reads (MemoryNode (suc zero)) h = no_head h
  named_back reads (MemoryNode (suc (suc i))) (x, w, at, inside) = no_gift i x at
  named_back reads (ConstantNode w x) h = h
  named_back reads (BinaryNode o w a b) h = h
  named_back reads (NotNode w a) h = h
  named_back reads (SelectNode w c a b) h = h
  named_back reads (ExtractNode hi lo a) h = h
  named_back reads (ConcatNode high low a b) h = h
  named_back reads (ExtendNode signed n m a) h = h
  named_back reads (LoadNode n e m a) h = h
  named_back reads (StoreNode n e m a x) h = h
  named_back reads (JoinNode c a b) h = h
  named_back reads (TakeNode n m a zero) h = absurd h
  named_back reads (TakeNode n m a (suc zero)) h = absurd h
  named_back reads (TakeNode n m a (suc (suc i))) (x, w, at, inside) = no_gift i x at

  -- what is read: terms that name the entry's part alone have the same words
  word_same : (nodes : List TermNode) → walks.AreNamedBelow u 0 nodes → (r : Reading) (t : ℕ) → t < length nodes →
      term_word (part_reading v r) nodes t ≡ term_word (term_reading u (flat_reading r)) nodes t
  word_same nodes named r t l =
      same_term (part_reading v r) (term_reading u (flat_reading r)) nodes t
      (λ i le ws. node_same u 0 (part_reading v r) (term_reading u (flat_reading r)) (record {
        regs = λ n h. refl;
        flags = λ f h. refl;
        choice = λ j d. ap (λ z. r.choice z.point) (place_same u j);
        base = λ j s. absurd (omega arith);
      }) ws (node_at nodes i) (named (node_at nodes i) (node_in nodes i (omega arith))) (λ e. refl)) l

  module _ (nodes : List TermNode) where
    pub all_named_as : (reads : ℕ) → walks.AreNamedBelow u reads nodes → AreNamedBelow v false reads nodes
    all_named_as reads h n inside = named_as reads n (h n inside)

    pub all_named_back : (reads : ℕ) → AreNamedBelow v false reads nodes → walks.AreNamedBelow u reads nodes
    all_named_back reads h n inside = named_back reads n (h n inside)

    -- terms, where the rooms are the same
    module _ (room as_room : Room) (gates : as_room.gates ≡ room.gates) (loads : as_room.loads ≡ room.loads) (few : as_room.nodes ≡ room.nodes) where
      within_as : walks.AreTermsWithin u room nodes → AreTermsWithin v false as_room nodes
      within_as h =
          let bounds = headless_bounds u in record {
            typed = h.typed;
            named = all_named_as 0 h.named;
            gates = (let a = h.gates in omega arith);
            loads = (let a = h.loads in omega arith);
            stores = (let a = h.stores in let c = bounds.5 in omega arith);
            joins = (let a = h.joins in let c = bounds.5 in let d = bounds.6 in omega arith);
            few = (let a = h.few in omega arith);
          }

      within_back : AreTermsWithin v false as_room nodes → walks.AreTermsWithin u room nodes
      within_back h =
          let bounds = headless_bounds u in record {
            typed = h.typed;
            named = all_named_back 0 h.named;
            gates = (let a = h.gates in omega arith);
            loads = (let a = h.loads in omega arith);
            stores = (let a = h.stores in let c = bounds.5 in omega arith);
            joins = (let a = h.joins in let c = bounds.5 in let d = bounds.6 in omega arith);
            few = (let a = h.few in omega arith);
          }

  -- the rooms
  passive_gates : (passive_room v false).gates ≡ (walks.point_room u).gates
  passive_gates = let b = (headless_bounds u).2 in omega arith

  passive_loads : (passive_room v false).loads ≡ (walks.point_room u).loads
  passive_loads = let b = (headless_bounds u).4 in omega arith

  passive_nodes : (passive_room v false).nodes ≡ (walks.point_room u).nodes
  passive_nodes = let b = (headless_bounds u).8 in omega arith

  -- so the terms of the points
  pub point_terms_as : (nodes : List TermNode) → walks.AreTermsWithin u (walks.point_room u) nodes → AreTermsWithin v false (passive_room v false) nodes
  point_terms_as nodes h = within_as nodes (walks.point_room u) (passive_room v false) passive_gates passive_loads passive_nodes h

  question_gates : (question_room v false).gates ≡ (walks.question_room u).gates
  question_gates = ap (λ z. z - 1) (headless_bounds u).1

  -- a bit
  module _ (nodes : List TermNode) (named : walks.AreNamedBelow u 0 nodes) (t : ℕ) (l : t < length nodes) (f : Held → Bool) (g : sweeps.Held → Bool)
      (same : (h : sweeps.Held) → f (as_held h) ≡ g h) where
    pub tells_as : passive.UnderAll u (λ r. passive.Tells nodes (term_reading u r) t (g (sweeps.swept u r))) →
        UnderAll v (λ r. Tells nodes (part_reading v r) t (f (swept v r)))
    tells_as h r is pc =
        word_same nodes named r t l ∙ h (flat_reading r) (flat_is r is) pc
        ∙ sym (ap (λ z. bit z) (ap f (headless_sweeps u r) ∙ same (sweeps.swept u (flat_reading r))))

    tells_back : UnderAll v (λ r. Tells nodes (part_reading v r) t (f (swept v r))) →
        passive.UnderAll u (λ r. passive.Tells nodes (term_reading u r) t (g (sweeps.swept u r)))
    tells_back h r is pc =
        sym (word_same nodes named (lift r) t l) ∙ h (lift r) (lift_is r is) pc
        ∙ ap (λ z. bit z) (ap f (headless_sweeps u (lift r)) ∙ same (sweeps.swept u r))

  module _ (q : passive.Passive) (never : ℕ) (is_never : IsNever u q.nodes never) where
    passive_as : passive.IsPassive u q → IsPassive v false (as_passive never q)
    passive_as h =
        let named = h.terms.named in record {
          terms = point_terms_as q.nodes h.terms;
          count = h.count ∙ sym (count_same u);
          bits = λ i l. (let c = count_same u in h.bits i (omega arith));
          fails_bit = h.fails_bit;
          steps_bit = is_never.bit;
          turns_bit = h.turns_bit;
          mets = λ r is pc i l.
              (let c = count_same u in
              let m : i < length u.points = omega arith in
              tells_as q.nodes named (slice_index q.met i) (h.bits i m).0 (λ x. x.met i) (λ x. x.met i) (λ x. refl)
              (λ s s_is s_pc. h.mets s s_is s_pc i m) r is pc);
          failing = tells_as q.nodes named q.fails h.fails_bit.0 (λ x. x.fails) (λ x. x.fails) (λ x. refl) h.failing;
          stepping = tells_as q.nodes named never is_never.bit.0 (λ x. x.steps) (λ x. false) (λ x. refl) is_never.zero;
          turning = tells_as q.nodes named q.turns h.turns_bit.0 (λ x. x.turns) (λ x. x.turns) (λ x. refl) h.turning;
        }

    passive_back : IsPassive v false (as_passive never q) → passive.IsPassive u q
    passive_back h =
        let named = all_named_back q.nodes 0 h.terms.named in record {
          terms = within_back q.nodes (walks.point_room u) (passive_room v false) passive_gates passive_loads passive_nodes h.terms;
          count = h.count ∙ count_same u;
          bits = λ i l. (let c = count_same u in h.bits i (omega arith));
          fails_bit = h.fails_bit;
          turns_bit = h.turns_bit;
          mets = λ r is pc i l.
              (let c = count_same u in
              let m : i < length v.points = omega arith in
              tells_back q.nodes named (slice_index q.met i) (h.bits i m).0 (λ x. x.met i) (λ x. x.met i) (λ x. refl)
              (λ s s_is s_pc. h.mets s s_is s_pc i m) r is pc);
          failing = tells_back q.nodes named q.fails h.fails_bit.0 (λ x. x.fails) (λ x. x.fails) (λ x. refl) h.failing;
          turning = tells_back q.nodes named q.turns h.turns_bit.0 (λ x. x.turns) (λ x. x.turns) (λ x. refl) h.turning;
        }

pub headless_passive : HeadlessPassive
headless_passive u q never is_never = ((λ h. passive_as u q never is_never h), (λ h. passive_back u q never is_never h))

-- questions
module _ (u : tables.UnrolledProgram) (some : 0 < length u.points) (later : ExitsLeadLater u) where
  ends_as : (question : calls.Question) (r : Reading) → passive.ends_held question (sweeps.swept u (flat_reading r)) ≡ true →
      SweepEndsBy (as_unrolled u) r (as_question question)
  ends_as calls.EntryQuestion r h = tt
  ends_as calls.FailQuestion r h = ap (λ z. z.fails) (headless_sweeps u r) ∙ h
  ends_as calls.TurnQuestion r h = ap (λ z. z.turns) (headless_sweeps u r) ∙ h

  ends_back : (question : calls.Question) (r : Reading) → SweepEndsBy (as_unrolled u) r (as_question question) →
      passive.ends_held question (sweeps.swept u (flat_reading r)) ≡ true
  ends_back calls.EntryQuestion r h = refl
  ends_back calls.FailQuestion r h = ap (λ z. z.fails) (sym (headless_sweeps u r)) ∙ h
  ends_back calls.TurnQuestion r h = ap (λ z. z.turns) (sym (headless_sweeps u r)) ∙ h

  true_as : (question : calls.Question) (r : Reading) → walks.IsTrueButBytes u (flat_reading r) question →
      IsTrueButBytes (as_unrolled u) r (as_question question)
  true_as question r h =
      let it = (held_answers u some later (flat_reading r) question).0 h in
      record { lines = record { link = it.0.link; requires = it.0.requires }; ends = ends_as question r it.1 }

  true_back : (question : calls.Question) (r : Reading) → IsTrueButBytes (as_unrolled u) r (as_question question) →
      walks.IsTrueButBytes u (flat_reading r) question
  true_back question r h =
      (held_answers u some later (flat_reading r) question).1
      (record { link = h.lines.link; requires = h.lines.requires }, ends_back question r h.ends)

  module _ (question : calls.Question) (t : walks.QuestionTerm) where
    tells_question_as : walks.TellsQuestion u question t → TellsQuestion (as_unrolled u) false (as_question question) t
    tells_question_as h =
        let same = λ (r : Reading). word_same u t.nodes h.terms.named r t.root h.root.0 in record {
          terms = within_as u t.nodes (walks.question_room u) (question_room (as_unrolled u) false) (question_gates u) (headless_bounds u).3
              (headless_bounds u).7 h.terms;
          root = h.root;
          means = λ r is pc. (
            (λ e. true_as question r ((h.means (flat_reading r) (flat_is r is) pc).0 (sym (same r) ∙ e))),
            (λ e. same r ∙ (h.means (flat_reading r) (flat_is r is) pc).1 (true_back question r e)),
          );
        }

    tells_question_back : TellsQuestion (as_unrolled u) false (as_question question) t → walks.TellsQuestion u question t
    tells_question_back h =
        let same = λ (r : questions.Reading). word_same u t.nodes (all_named_back u t.nodes 0 h.terms.named) (lift r) t.root h.root.0 in record {
          terms = within_back u t.nodes (walks.question_room u) (question_room (as_unrolled u) false) (question_gates u) (headless_bounds u).3
              (headless_bounds u).7 h.terms;
          root = h.root;
          means = λ r is pc. (
            (λ e. true_back question (lift r) ((h.means (lift r) (lift_is r is) pc).0 (same r ∙ e))),
            (λ e. sym (same r) ∙ (h.means (lift r) (lift_is r is) pc).1 (true_as question (lift r) e)),
          );
        }

pub headless_terms : HeadlessTerms
headless_terms u some later question t = ((λ h. tells_question_as u some later question t h), (λ h. tells_question_back u some later question t h))
