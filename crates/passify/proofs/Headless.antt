-- The passive program of a program's frame is the program's.
use Rattle.std.proofs.Common.{◌≡◌, ℕ, zero, suc, Bool, false, List, [], ◌∷◌, Option, Some, None, refl, ap, sym, ◌∙◌, subst, arith, Contains}
use Rattle.std.proofs.Math.Path.{fun_ext}
use Rattle.bilv_spec.specs.Questions as questions
use Rattle.term_spec.specs.Terms.{TermReading, TermNode}
use Rattle.term_spec.specs.Passive as passive
use Rattle.term_spec.specs.Passive.{Denotes, Tells}
use Rattle.term_spec.specs.WalkQuestions.{term_reading}
use Rattle.walk_spec.specs.Unrolled as tables
use Rattle.walk_spec.specs.Unrolling as unrolling
use Rattle.frame_spec.specs.Frames.{Content, content_of}
use Rattle.frame_spec.specs.FramePoints.{triple}
use Rattle.frame_spec.specs.FrameQuestions.{Reading, IsReading}
use Rattle.frame_spec.specs.FrameWalk.{UnrolledProgram, UnrolledPoint, Gift, StepsOver, Held, held, point_at, swept}
use Rattle.frame_laws.specs.HeadlessLaws.{as_action, as_unrolled}
use Rattle.frame_laws.proofs.HeadlessWalks.{headless_sweeps, held_same, place_same}
use Rattle.frame_terms.specs.PassiveFrames.{IsPassive, IsWalkable, inputs_of, part_content, part_reading}
use Rattle.frame_terms.proofs.HeadlessNodes.{headless_passive}
use Rattle.frame_terms.proofs.HeadlessWalkable.{headless_is_walkable}
use Rattle.term_names.specs.declared.names.Names.{Names}
use Rattle.term_names.specs.Views.{names_of}
use Rattle.question_form.specs.declared.questions.Passive.{Passive}
use Rattle.question_form.specs.Forms.{AreStepsFormed}
use Rattle.question_form.specs.declared.unrolled.Deed.TheVariants as deeds
use Rattle.question_form.specs.declared.unrolled.Root as declared
use Rattle.question_form.specs.declared.unrolled.Unrolled.{Unrolled}
use Rattle.question_form.specs.Views.{unrolled_of}
use Rattle.question_form.specs.Questions.{passive_of}
use Rattle.question_form.specs.FrameQuestions.{frame_passive_of}
use Rattle.question_form.specs.FrameViews.{IsHeadless, frame_unrolled_of, no_root}
use Rattle.question_form.proofs.FrameValues.{headless_values}
use Rattle.passify.specs.Lasts.{AreCarriedIn, AreCarriedTo}
use Rattle.passify.specs.Likes.{HasNoSteps}
use Rattle.passify.specs.Made.{IsPassiveIn, IsPassiveOf}
use Rattle.passify.specs.Plain.{carried}
use Rattle.passify.specs.Planted.{AreHeaded}
use Rattle.passify.proofs.Standing.{points_length}

-- a reading of the program as one of the frame, whose other parts are the entry's
abbrev lift : questions.Reading → Reading
lift r = record { state = r.state; head = content_of r.state; choice = λ q. r.choice (triple q); given = λ q. content_of r.state }

lift_is : (r : questions.Reading) → questions.IsReading r → IsReading (lift r)
lift_is r h = record {
  state = h.state;
  head = record { regs = h.state.regs; flags = h.state.flags; mem = h.state.mem };
  choice = λ q. h.choice (triple q);
  given = λ q. record { regs = h.state.regs; flags = h.state.flags; mem = h.state.mem };
}

module _ (v : tables.UnrolledProgram) where
  abbrev f : UnrolledProgram
  f = as_unrolled v

  part_same : (r : questions.Reading) (p : ℕ) → part_content f (lift r) p ≡ content_of r.state
  part_same r zero = refl
  part_same r (suc zero) = refl
  part_same r (suc (suc i)) = refl

  abbrev parts : questions.Reading → ℕ → Content
  parts r p = part_content f (lift r) p

  abbrev by_entry : questions.Reading → ℕ → Content
  by_entry r p = content_of r.state

  abbrev choices : questions.Reading → ℕ → ℕ
  choices r i = (lift r).choice (point_at f i).point

  abbrev own_choices : questions.Reading → ℕ → ℕ
  own_choices r i = r.choice (tables.point_at v i).point

  same_parts : (r : questions.Reading) → parts r ≡ by_entry r
  same_parts r = fun_ext (λ p. part_same r p)

  same_choices : (r : questions.Reading) → choices r ≡ own_choices r
  same_choices r = fun_ext (λ i. ap (λ z. r.choice (triple z.point)) (place_same v i))

  -- terms are read alike
  reading_same : (r : questions.Reading) → part_reading f (lift r) ≡ term_reading v r
  reading_same r =
      ap (λ (g : ℕ → Content). record {
        regs = λ p. (g p).regs;
        flags = λ p. (g p).flags;
        mem = λ p. (g p).mem;
        choice = choices r;
        base = λ p j. 0;
      }) (same_parts r)
      ∙ ap (λ (g : ℕ → ℕ). record {
        regs = λ p. r.state.regs;
        flags = λ p. r.state.flags;
        mem = λ p. r.state.mem;
        choice = g;
        base = λ p j. 0;
      }) (same_choices r)

  -- a program makes no contract step
  no_step : (a : tables.Action) (x : Gift) → as_action a ≡ StepsOver x → ⊥
  no_step (tables.Executes list) x e = cc

  no_steps : HasNoSteps f
  no_steps i x l e = no_step (tables.point_at v i).does x (ap (λ (q : UnrolledPoint). q.does) (sym (place_same v i)) ∙ e)

  -- what is carried to a place of the frame is what is carried to that of the program
  carried_back : (t : ℕ) (nodes : List TermNode) (o : Option Names) → AreCarriedIn f t nodes o → AreCarriedTo v t nodes o
  carried_back t nodes None k = λ r is pc. sym (ap (λ (h : Held). h.met t) (held_same v (lift r) t)) ∙ k (lift r) (lift_is r is) pc
  carried_back t nodes (Some n) k = record {
    form = record { registers = k.form.registers; flags = k.form.flags };
    names = record {
      registers = k.names.registers;
      flags = k.names.flags;
      words = k.names.words;
      bits = k.names.bits;
      memory = k.names.memory;
    };
    denotes = λ r is pc met.
        let same = held_same v (lift r) t in
        let q = k.denotes (lift r) (lift_is r is) pc (ap (λ (h : Held). h.met t) same ∙ met) in
        let d = subst (λ (c : Content). Denotes (inputs_of f) nodes (part_reading f (lift r)) (names_of n) (carried c)) (q.2 no_steps) q.3 in
        let e = subst (λ (x : TermReading). Denotes (inputs_of f) nodes x (names_of n) (carried ((held f (lift r) t).carried t))) (reading_same r) d in
        let g = subst (λ (h : Held). Denotes (inputs_of f) nodes (term_reading v r) (names_of n) (carried (h.carried t))) same e in
        record { registers = g.registers; flags = g.flags; memory = g.memory };
  }

  -- no event of a segment from a head comes
  never_by : (nodes : List TermNode) (t : ℕ) →
      ((r : Reading) → IsReading r → r.state.pc ≡ f.entry → Tells nodes (part_reading f r) t (swept f r).steps) →
      passive.UnderAll v (λ r. Tells nodes (term_reading v r) t false)
  never_by nodes t k r is pc =
      subst (λ (x : TermReading). Tells nodes x t false) (reading_same r)
      (subst (λ (b : Bool). Tells nodes (part_reading f (lift r)) t b) (ap (λ (h : Held). h.steps) (headless_sweeps v (lift r))) (k (lift r) (lift_is r is) pc))

-- the frame of a program
module _ (u : Unrolled) (h : IsHeadless u) where
  pub frame_walkable : unrolling.IsWalkable (unrolled_of u) → IsWalkable (frame_unrolled_of u)
  frame_walkable w = subst IsWalkable (sym (headless_values u h)) ((headless_is_walkable (unrolled_of u)).0 w)

  pub steps_of : AreStepsFormed u
  steps_of = record { contracts = λ q n c e. absurd (no_contract n (sym (h.deeds q c) ∙ e)) }
    where
      no_contract : (n : ℕ) → deeds.Row ≡ deeds.Contract n → ⊥
      no_contract n e = cc

  pub is_headed : AreHeaded u
  is_headed e x c =
      let only = subst (λ (l : List declared.Root). Contains l x) h.roots c in
      only_root x only
    where
      only_root : (x : declared.Root) → Contains (no_root ∷ []) x → x.head ≡ None
      only_root x (zero, l, at) = ap (λ (z : declared.Root). z.head) (sym at)
      only_root x (suc i, l, at) = absurd (omega (arith, l))

  -- the terms of what is carried
  pub carried_of_frame : (t : ℕ) (nodes : List TermNode) (o : Option Names) → AreCarriedIn (frame_unrolled_of u) t nodes o →
      AreCarriedTo (unrolled_of u) t nodes o
  carried_of_frame t nodes o k = carried_back (unrolled_of u) t nodes o (subst (λ (z : UnrolledProgram). AreCarriedIn z t nodes o) (headless_values u h) k)

  -- and the passive program
  pub passive_of_frame : (p : Passive) → IsPassiveIn u p → IsPassiveOf u p
  passive_of_frame p k =
      let v = unrolled_of u in
      let tells = subst (λ (z : UnrolledProgram). IsPassive z u.heads (frame_passive_of p)) (headless_values u h) k.tells in
      let never = never_by v p.dag p.steps.0 tells.stepping in
      record {
        of = k.of;
        tells = (headless_passive v (passive_of p) p.steps.0 (record { bit = tells.steps_bit; zero = never })).1
            (subst (λ (b : Bool). IsPassive (as_unrolled v) b (frame_passive_of p)) h.heads tells);
        steps_bit = tells.steps_bit;
        never = never;
        states = λ i l.
            let o = k.states i (let m = points_length u u.points.items in omega (arith, l, m)) in (o.0, carried_of_frame i p.dag o.0 o.1);
      }
