-- The choices of a root from the parts of values.
use Rattle.std.proofs.Common.{◌≡◌, inl, inr, refl, ap, sym, ◌∙◌, subst, arith, ℕ, zero, suc, ◌+◌, ◌*◌, ◌<◌, ◌≤◌, [], ◌∷◌, List, Option, Some, None, Bool, true, false, length, map}
use Rattle.std.specs.Prelude.{Contains, slice_index, slice_index_or, if◌then◌else◌}
use Rattle.std.proofs.lemmas.Bool.{cases_lt}
use Rattle.std.proofs.lemmas.Option.{slice_get_within}
use Rattle.word_spec.specs.Memory.{byte_in}
use Rattle.word_spec.specs.RowFiles.{from_to}
use Rattle.word_spec.specs.State.{State}
use Rattle.clause_spec.specs.Clauses.{valuation}
use Rattle.bilv_spec.proofs.Pigeons.{at_in}
use Rattle.bilv_spec.proofs.PointsInGraph.{of_filter}
use Rattle.frame_spec.specs.Frames.{Content}
use Rattle.frame_spec.specs.FrameQuestions as questions
use Rattle.frame_spec.specs.FrameQuestions.{IsReading}
use Rattle.frame_spec.specs.FrameWalk.{Gift, UnrolledPoint, Root, Walk, WalkIsAt, point_at, root_at, walk_of, is_assumed}
use Rattle.frame_spec.specs.FrameWalk as walks
use Rattle.term_spec.specs.Terms.{TermReading}
use Rattle.frame_terms.specs.FrameClauseForm.{drawn_places}
use Rattle.frame_terms.specs.FrameStarts.{HasValues, AreCalls, AreChoices, IsCallOf, IsReadingOfParts, IsWrittenAnchor, WrittenParts, call_of, place_choice}
use Rattle.frame_terms.specs.PassiveFrames.{IsGiftAt}
use Rattle.term_dag.specs.declared.values.Reading as inputs
use Rattle.term_dag.proofs.Bytes.{in_range}
use Rattle.bilv_spec.proofs.PointSteps.{in_map}
use Rattle.term_dag.specs.declared.nodes.Term.{Term}
use Rattle.start_value.specs.Starts.{layout_of}
use Rattle.question_form.specs.FrameQuestions.{frame_passive_of, heads_of_question, is_of_heads}
use Rattle.question_form.specs.FrameViews.{anchor_at}
use Rattle.mem_cells.specs.declared.cells.Celled.{Celled}
use Rattle.mem_cells.specs.FrameViews.{frame_cells_of, frame_of_cells}
use Rattle.bit_blast.specs.declared.input_places.InputPlaces.{InputPlaces}
use Rattle.bit_blast.specs.Laid.{AreFramePlaces}
use Rattle.bit_blast.specs.Places.{IsReadingAt}
use Rattle.bit_blast.specs.Steps as steps
use Rattle.bit_blast.specs.Steps.{choice_at, choice_by, count_met}
use Rattle.bit_blast.proofs.FramePlaces.{at_of_bits, drawn_there, option_within}
use Rattle.bit_blast.proofs.InputNumbers.{bits_are}
use Rattle.bit_blast.proofs.StartInputs.{count_few, mapped_get}
use Rattle.bit_blast.proofs.StepChoices.{any_default}
use Rattle.frame_start.specs.Files.{UnderValues}
use Rattle.frame_start.specs.Met.{HasMetWords, call_steps, head_by, is_gift, is_met_of, shown_reading}
use Rattle.frame_start.specs.Segments.{IsFrameAskable, calls_by}
use Rattle.frame_start.proofs.CallSteps.{IsStep, all_calls, calls_rise, step_listed, steps_are, steps_rise}
use Rattle.frame_start.proofs.ChangedSets.{gift_there, is_step}
use Rattle.frame_start.proofs.ChosenSteps.{on_walk, points_long, root_anchor, same_assumed, same_walk}

past : (xs : List ℕ) (i : ℕ) → length xs ≤ i → slice_index xs i ≡ 0
past [] i l = refl
past (x ∷ xs) zero l = absurd (omega arith)
past (x ∷ xs) (suc i) l = past xs i (omega arith)

terms_long : (xs : List Term) → length (map (λ (t : Term). t.0) xs) ≡ length xs
terms_long [] = refl
terms_long (x ∷ xs) = let e = terms_long xs in omega arith

module _ (c : Celled) (values : List Bool) (p : InputPlaces)
    (is : AreFramePlaces (frame_of_cells c) (heads_of_question c.question.now) (frame_cells_of c) p) where
  module _ (chosen : List ℕ) (each : (i : ℕ) → i < length p.drawn.items → slice_index chosen i ≡ choice_at p (valuation values) i)
      (count : length chosen ≡ length p.drawn.items) (x : TermReading)
      (hx : HasValues (frame_of_cells c) (heads_of_question c.question.now) (frame_cells_of c) (valuation values) x) where
    at : IsReadingAt p (valuation values) x
    at = at_of_bits (frame_of_cells c) (heads_of_question c.question.now) (frame_cells_of c) p is (valuation values) x hx.in_range hx.bits

    -- a place that is not drawn has no choice
    undrawn : (i : ℕ) → i < length (frame_of_cells c).points → slice_index_or p.drawn.items i None ≡ None → (point_at (frame_of_cells c) i).draws ≡ false
    undrawn i l e = by (point_at (frame_of_cells c) i).draws refl
      where
        by : (b : Bool) → (point_at (frame_of_cells c) i).draws ≡ b → b ≡ false
        by true t =
            let k = drawn_there (frame_of_cells c) (heads_of_question c.question.now) (frame_cells_of c) p is i (l, t) in
            absurd (let f : None ≡ Some k.0 = sym e ∙ k.1.1 in cc)
        by false t = refl

    unlisted : (i : ℕ) → slice_index_or p.drawn.items i None ≡ None → slice_index chosen i ≡ 0
    unlisted i e = elim (cases_lt i (length p.drawn.items)) [
      | inl l ↦ each i l ∙ ap (choice_by p (valuation values)) e
      | inr l ↦ past chosen i (omega arith)
    ]

    drawn_by : (i k : ℕ) → slice_index_or p.drawn.items i None ≡ Some k → (point_at (frame_of_cells c) i).draws ≡ true
    drawn_by i k e =
        (of_filter (λ j. (point_at (frame_of_cells c) j).draws) (from_to 0 (length (frame_of_cells c).points)) i
        (at_in (drawn_places (frame_of_cells c)) k i (is.drawn i k e))).1

    listed : (i k : ℕ) → slice_index_or p.drawn.items i None ≡ Some k → slice_index chosen i ≡ x.choice i
    listed i k e =
        let l = option_within p.drawn.items i k e in
        let m : k < p.choices = (let a = slice_get_within (drawn_places (frame_of_cells c)) k i (is.drawn i k e) in let b = is.choices in omega arith) in
        each i l ∙ ap (choice_by p (valuation values)) e ∙ bits_are (valuation values) (p.first_choice + 2 * k) 2 ∙ sym (at.choices i k (l, e, m))

    pub place_is : (i : ℕ) → i < length (frame_of_cells c).points → slice_index chosen i ≡ place_choice (frame_of_cells c) x i
    place_is i l = by (slice_index_or p.drawn.items i None) refl
      where
        by : (o : Option ℕ) → slice_index_or p.drawn.items i None ≡ o → slice_index chosen i ≡ (if (point_at (frame_of_cells c) i).draws then x.choice i else 0)
        by None e = unlisted i e ∙ sym (ap (λ z. if z then x.choice i else 0) (undrawn i l e))
        by (Some k) e = listed i k e ∙ sym (ap (λ z. if z then x.choice i else 0) (drawn_by i k e))

behind : (qs : List UnrolledPoint) (i : ℕ) → length qs ≤ i → slice_index_or qs i walks.no_point ≡ walks.no_point
behind [] i l = refl
behind (q ∷ qs) zero l = absurd (omega arith)
behind (q ∷ qs) (suc i) l = behind qs i (omega arith)

module _ (c : Celled) (values : List Bool) (p : InputPlaces)
    (is : AreFramePlaces (frame_of_cells c) (heads_of_question c.question.now) (frame_cells_of c) p) (e : p.choices ≡ 0) (x : TermReading) where
  drawn_none : (i : ℕ) → i < length (frame_of_cells c).points → 0 ≡ place_choice (frame_of_cells c) x i
  drawn_none i l = by (point_at (frame_of_cells c) i).draws refl
    where
      by : (b : Bool) → (point_at (frame_of_cells c) i).draws ≡ b → 0 ≡ (if b then x.choice i else 0)
      by true t =
          let k = drawn_there (frame_of_cells c) (heads_of_question c.question.now) (frame_cells_of c) p is i (l, t) in
          absurd (let a = k.1.2 in omega arith)
      by false t = refl

  -- where no point draws there are no choices
  pub none_drawn : (i : ℕ) → 0 ≡ place_choice (frame_of_cells c) x i
  none_drawn i = elim (cases_lt i (length (frame_of_cells c).points)) [
    | inl l ↦ drawn_none i l
    | inr l ↦ sym (ap (λ (q : UnrolledPoint). if q.draws then x.choice i else 0) (behind (frame_of_cells c).points i (omega arith)))
  ]

  pub undrawn_are : (w : WrittenParts) (n : ℕ) → AreChoices (frame_of_cells c) (is_of_heads c.question.now)
      (layout_of c.question.now.passive.now.unrolled.now.form) x w (root_at (frame_of_cells c) n) []
  undrawn_are w n = record {
    within = λ i d l. absurd (omega arith);
    rise = λ i j d l m. absurd (omega arith);
    follows = λ r isr assumed step i d e. none_drawn i;
  }

-- the points have terms
module _ (c : Celled) (can : IsFrameAskable c.question.now.passive.now) where
  pub met_long : length c.question.now.passive.now.unrolled.now.points.items ≡ length c.question.now.passive.now.met.items
  met_long =
      let a = points_long c.question.now.passive.now.unrolled.now c.question.now.passive.now.unrolled.now.points.items in
      let b = can.passive.count in
      let d = terms_long c.question.now.passive.now.met.items in
      omega arith

  pub met_inside : (ws : List ℕ) → length ws ≡ length c.question.now.passive.now.dag → (i : ℕ) (d : Term) →
      i < length c.question.now.passive.now.met.items → (slice_index_or c.question.now.passive.now.met.items i d).0 < length ws
  met_inside ws e i d m =
      let a = met_long in
      let f = points_long c.question.now.passive.now.unrolled.now c.question.now.passive.now.unrolled.now.points.items in
      let b = (can.passive.bits i (omega arith)).0 in
      let g : slice_index (map (λ (t : Term). t.0) c.question.now.passive.now.met.items) i ≡ (slice_index_or c.question.now.passive.now.met.items i d).0 =
      mapped_get c.question.now.passive.now.met.items i
      ∙ ap (λ (t : Term). t.0) (any_default c.question.now.passive.now.met.items i (record { 0 = 0 }) d m) in
      omega arith

module _ (c : Celled) (can : IsFrameAskable c.question.now.passive.now) (values : List Bool) (w : WrittenParts) (n : ℕ)
    (l : n < length c.question.now.passive.now.unrolled.now.roots.items)
    (written : IsWrittenAnchor (is_of_heads c.question.now) (anchor_at c.question.now.passive.now.unrolled.now n)) where
  reading_by : (b : Bool) (head : inputs.Reading) (r : questions.Reading) → IsReading r → IsReading (shown_reading b head r)
  reading_by true head r h = h
  reading_by false head r h = record {
    state = h.state;
    head = record { regs = (in_range head).regs 0; flags = (in_range head).flags 0; mem = (in_range head).mem 0 };
    choice = h.choice;
    given = h.given;
  }

  entry_anchor : is_of_heads c.question.now ≡ false →
      IsWrittenAnchor false (point_at (frame_of_cells c) (root_at (frame_of_cells c) n).place).point.anchor
  entry_anchor t =
      subst (IsWrittenAnchor false) (sym (root_anchor c.question.now.passive.now.unrolled.now can.walkable can.roots can.own n l))
      (subst (λ (b : Bool). IsWrittenAnchor b (anchor_at c.question.now.passive.now.unrolled.now n)) t written)

  assumed_by : (b : Bool) → is_of_heads c.question.now ≡ b → (head : inputs.Reading) (r : questions.Reading) →
      is_assumed (frame_of_cells c) r (root_at (frame_of_cells c) n) ≡ true →
      is_assumed (frame_of_cells c) (shown_reading b head r) (root_at (frame_of_cells c) n) ≡ true
  assumed_by true t head r h = h
  assumed_by false t head r h =
      same_assumed (frame_of_cells c) r (head_by false r head) (root_at (frame_of_cells c) n) (entry_anchor t) ∙ h

  walk_by : (b : Bool) → is_of_heads c.question.now ≡ b → (head : inputs.Reading) (r : questions.Reading) (step : ℕ) (e : Walk) →
      walk_of (frame_of_cells c) r (root_at (frame_of_cells c) n) step ≡ e →
      walk_of (frame_of_cells c) (shown_reading b head r) (root_at (frame_of_cells c) n) step ≡ e
  walk_by true t head r step e h = h
  walk_by false t head r step e h =
      same_walk (frame_of_cells c) r (head_by false r head) (root_at (frame_of_cells c) n) (entry_anchor t) step ∙ h

  abbrev met : List ℕ → ℕ → Bool
  met ws = is_met_of c.question.now.passive.now.unrolled.now.points.items n c.question.now.passive.now.met.items ws

  -- where the walk is, the point is met, behind so many others
  step_of : (ws : List ℕ) → HasMetWords c values w ws → (x : TermReading) →
      HasValues (frame_of_cells c) (heads_of_question c.question.now) (frame_cells_of c) (valuation values) x → (r : questions.Reading) →
      IsReadingOfParts (frame_of_cells c) (is_of_heads c.question.now) (layout_of c.question.now.passive.now.unrolled.now.form) x w r →
      is_assumed (frame_of_cells c) r (root_at (frame_of_cells c) n) ≡ true → (step i : ℕ) (d : Content) →
      walk_of (frame_of_cells c) r (root_at (frame_of_cells c) n) step ≡ WalkIsAt i d →
      (i < length c.question.now.passive.now.unrolled.now.points.items)
      × (is_met_of c.question.now.passive.now.unrolled.now.points.items n c.question.now.passive.now.met.items ws i ≡ true)
      × (count_met (is_met_of c.question.now.passive.now.unrolled.now.points.items n c.question.now.passive.now.met.items ws) i ≡ step)
  step_of ws words x hx r isr assumed step i d e =
      on_walk c.question.now.passive.now.unrolled.now can.walkable can.roots can.own (heads_of_question c.question.now)
      (frame_passive_of c.question.now.passive.now) can.passive c.question.now.passive.now.met.items refl ws
      (shown_reading (is_of_heads c.question.now) words.0 r) (reading_by (is_of_heads c.question.now) words.0 r isr.reading)
      (ap (λ (s : State). s.pc) isr.state) (words.1 x hx r isr) n l
      (assumed_by (is_of_heads c.question.now) refl words.0 r assumed) step i d
      (walk_by (is_of_heads c.question.now) refl words.0 r step (WalkIsAt i d) e)

  within_points : (ws : List ℕ) → count_met (is_met_of c.question.now.passive.now.unrolled.now.points.items n c.question.now.passive.now.met.items ws)
      (length c.question.now.passive.now.met.items) ≤ length (frame_of_cells c).points
  within_points ws =
      let b = count_few (is_met_of c.question.now.passive.now.unrolled.now.points.items n c.question.now.passive.now.met.items ws)
      (length c.question.now.passive.now.met.items) in
      let e = met_long c can in
      let f = points_long c.question.now.passive.now.unrolled.now c.question.now.passive.now.unrolled.now.points.items in
      omega arith

  pub chosen_are : (ws : List ℕ) → HasMetWords c values w ws → (chosen : List ℕ) →
      UnderValues c values (λ x. (i : ℕ) → i < length (frame_of_cells c).points → slice_index chosen i ≡ place_choice (frame_of_cells c) x i) →
      (xs : List (ℕ × ℕ)) → steps.AreChoices (is_met_of c.question.now.passive.now.unrolled.now.points.items n c.question.now.passive.now.met.items ws)
      (slice_index chosen) (length c.question.now.passive.now.met.items)
      (count_met (is_met_of c.question.now.passive.now.unrolled.now.points.items n c.question.now.passive.now.met.items ws)
      (length c.question.now.passive.now.met.items)) xs →
      UnderValues c values (λ x. AreChoices (frame_of_cells c) (is_of_heads c.question.now)
      (layout_of c.question.now.passive.now.unrolled.now.form) x w (root_at (frame_of_cells c) n) xs)
  chosen_are ws words chosen place xs h x hx = record {
    within = λ i d m. (let k = h.within i d m in let a = k.0 in let b = within_points ws in (omega arith, k.1, k.2));
    rise = h.rise;
    follows = λ r isr assumed step i d e. (let q = step_of ws words x hx r isr assumed step i d e in
        let k : i < length (frame_of_cells c).points
        = (let a = q.0 in let b = points_long c.question.now.passive.now.unrolled.now c.question.now.passive.now.unrolled.now.points.items in omega arith) in
        let m : i < length c.question.now.passive.now.met.items = (let a = q.0 in let b = met_long c can in omega arith) in
        ap (byte_in xs) (sym q.2) ∙ h.gives i m q.1 ∙ place x hx i k);
  }

  -- so the contract steps
  called_step : (ws : List ℕ) (z : ℕ × ℕ) → IsStep (is_met_of c.question.now.passive.now.unrolled.now.points.items n c.question.now.passive.now.met.items ws)
      (is_gift c.question.now.passive.now.unrolled.now.points.items) (length c.question.now.passive.now.met.items) z →
      IsCallOf (frame_of_cells c) w (call_of (frame_of_cells c) w z.0 z.1)
  called_step ws z s =
      let k : z.1 < length c.question.now.passive.now.unrolled.now.points.items = (let a = s.place in let b = met_long c can in omega arith) in
      let g = gift_there c.question.now.passive.now.unrolled.now z.1 k s.gives in
      (z.1, g.0, g.1, (let a = s.step in let b = within_points ws in omega arith), refl)

  pub called_are : (ws : List ℕ) → HasMetWords c values w ws → (xs : List (ℕ × ℕ)) →
      xs ≡ call_steps (is_met_of c.question.now.passive.now.unrolled.now.points.items n c.question.now.passive.now.met.items ws)
      (is_gift c.question.now.passive.now.unrolled.now.points.items) (length c.question.now.passive.now.met.items) →
      UnderValues c values (λ x. AreCalls (frame_of_cells c) (is_of_heads c.question.now)
      (layout_of c.question.now.passive.now.unrolled.now.form) x w (root_at (frame_of_cells c) n) (calls_by (frame_of_cells c) w xs))
  called_are ws words xs e x hx =
      let met = is_met_of c.question.now.passive.now.unrolled.now.points.items n c.question.now.passive.now.met.items ws in
      let gift = is_gift c.question.now.passive.now.unrolled.now.points.items in
      let many = length c.question.now.passive.now.met.items in
      subst (λ (ys : List (ℕ × ℕ)). AreCalls (frame_of_cells c) (is_of_heads c.question.now)
      (layout_of c.question.now.passive.now.unrolled.now.form) x w (root_at (frame_of_cells c) n) (calls_by (frame_of_cells c) w ys)) (sym e)
      (record {
        within = all_calls (frame_of_cells c) w (call_steps met gift many) (λ z h. called_step ws z (steps_are met gift many z h));
        rise = calls_rise (frame_of_cells c) w (call_steps met gift many) (steps_rise met gift many);
        follows = λ r isr assumed step i d g at there. (let q = step_of ws words x hx r isr assumed step i d at in
            let m : i < length c.question.now.passive.now.met.items = (let a = q.0 in let b = met_long c can in omega arith) in
            in_map (λ (z : ℕ × ℕ). call_of (frame_of_cells c) w z.0 z.1) (call_steps met gift many) (step, i)
            (subst (λ (k : ℕ). Contains (call_steps met gift many) (k, i)) q.2
            (step_listed met gift many i m q.1 (is_step c.question.now.passive.now.unrolled.now i g there))));
      })

-- where no contract step is made there is none
pub uncalled_are : (c : Celled) → ((i : ℕ) (g : Gift) → IsGiftAt (frame_of_cells c) i g → ⊥) → (x : TermReading) (w : WrittenParts) (n : ℕ) →
    AreCalls (frame_of_cells c) (is_of_heads c.question.now)
    (layout_of c.question.now.passive.now.unrolled.now.form) x w (root_at (frame_of_cells c) n) []
uncalled_are c none x w n = record {
  within = λ i d l. absurd (omega arith);
  rise = λ i j d l m. absurd (omega arith);
  follows = λ r isr assumed step i d g e there. absurd (none i g there);
}
