-- A contract step is tried as a whole.
use Rattle.std.proofs.Common.{◌≡◌, ◌↔◌, ℕ, suc, ◌+◌, ◌-◌, ◌*◌, ◌^◌, ◌<◌, ◌≤◌, Bool, true, false, nat_eq, nat_lt, List, [], ◌∷◌, ◌++◌, Contains, length, map, refl, ap, sym, ◌∙◌, subst, arith, get_or}
use Rattle.std.specs.Prelude.{◌||◌, sum_by}
use Rattle.std.specs.List.{list_any}
use Rattle.std.proofs.lemmas.Bool.Decides.{nat_tests}
use Rattle.std.proofs.lemmas.List.{get_or-map, length-map}
use Rattle.std.proofs.lemmas.List.Elements.{Contains-append_left, Contains-get_or}
use Rattle.std.proofs.lemmas.List.Folds.{list_any-append}
use Rattle.std.proofs.lemmas.List.Sums.{sum_by-cons}
use Rattle.word_spec.specs.State.{State}
use Rattle.machine_spec.specs.Endings.{JumpFails}
use Rattle.bilv_spec.specs.Notes.{NoteLine}
use Rattle.bilv_spec.specs.Points.{line_price, bytes_loaded}
use Rattle.bilv_spec.proofs.PointSteps.{in_any}
use Rattle.term_spec.specs.Terms.{TermReading, InRange, TermNode, AreTyped, HasWidth, term_word}
use Rattle.term_spec.specs.Passive.{Denotes, Tells}
use Rattle.walk_spec.specs.Unrolled.{WalkFails, carried_of, is_in, state_at}
use Rattle.walk_spec.specs.Sweep.{Held}
use Rattle.walk_spec.specs.Unrolling.{IsReadable}
use Rattle.walk_spec.specs.Prices.{line_size, line_steps}
use Rattle.frame_spec.specs.Frames.{Content, Contract, Writes, content_at, written}
use Rattle.frame_spec.specs.FramePoints.{says_of}
use Rattle.frame_spec.specs.FrameUnrolling.{outside_exit}
use Rattle.frame_spec.specs.FrameWalk.{Action, FalseNeed, Gift, GoesOn, Leaving, UnrolledPoint, UnrolledProgram, PointExit, NotGiven, StepsOver, WritingKept, gifted, gives_of, left_by, next_state, stored_by}
use Rattle.frame_laws.specs.FramePrices.{variables_of}
use Rattle.frame_terms.specs.PassiveFrames.{CanReadAction, IsGiftAt, IsNamedBelow, IsWalkable, NamesFlag, NamesRegister, TakesMemory, inputs_of}
use Rattle.term_dag.specs.Made.{Grew}
use Rattle.term_dag.proofs.Ranges.{word_fits}
use Rattle.term_dag.proofs.Growth.{grew_on, grew_width, inputs_more, inputs_on}
use Rattle.question_form.specs.declared.unrolled.Deed.{Deed}
use Rattle.question_form.specs.declared.unrolled.Deed.TheVariants as deeds
use Rattle.question_form.specs.declared.unrolled.Edge.{Edge}
use Rattle.question_form.specs.declared.unrolled.Unrolled.{Unrolled}
use Rattle.question_form.specs.Forms.{AreStepsFormed, IsFormed}
use Rattle.notes_value.specs.FrameViews.{contract_of, writes_of}
use Rattle.notes_value.specs.NoteViews.{note_line_of}
use Rattle.notes_value.specs.Views.{expr_of}
use Rattle.notes_value.specs.declared.notes.Contract.{Contract as Source}
use Rattle.notes_value.specs.declared.notes.NoteLine.{NoteLine as SourceLine}
use Rattle.notes_value.specs.declared.notes.Writes.{Writes as SourceWrites}
use Rattle.question_form.specs.FrameViews.{action_of, contract_exits, edge_of, exits_of, frame_unrolled_of, gift_of, no_contract, own_contract, stepped_at, top_of}
use Rattle.program_points.specs.Tables.{stack_at}
use Rattle.term_names.specs.declared.names.Names.{Names}
use Rattle.term_names.specs.Chosen.{HaveSameForm, at_entry}
use Rattle.term_names.specs.Views.{form_of, names_of}
use Rattle.note_terms.specs.declared.Now.{Now}
use Rattle.note_terms.specs.Lines.{AreStateTerms, IsStateOf}
use Rattle.note_terms.proofs.Valued.{is_state_stays}
use Rattle.passify.specs.declared.spans.Span.{Span}
use Rattle.passify.specs.declared.sweep.Sweep.{Sweep}
use Rattle.passify.specs.Bits.{Makes}
use Rattle.passify.specs.Calls.{IsGiftNode, IsGiftPaid, IsGiftState, IsGoneOn, NeedsTried, OfFlag, OfRegister, OfTake, StepsHere}
use Rattle.passify.specs.Edges.{aim_gates, aim_joins, aim_loads, aim_nodes}
use Rattle.passify.specs.Exits.{IsPending, Narrows, Tries}
use Rattle.passify.specs.Handled.{IsSweepOf}
use Rattle.passify.specs.Plain.{carried}
use Rattle.passify.specs.Rows.{IsGivenAt, IsRowTried, framed, is_refused, no_point, own_code, own_edges, own_point, situation_at}
use Rattle.passify.specs.Situations.{IsThere, Situation, goes}
use Rattle.passify.specs.Spans.{AreOwn, AreSpans, IsRefused, IsSpan, IsSpanned, addresses, addresses_of, bytes_of, is_own, own_places}
use Rattle.passify.specs.Sweeps.{AreLike, AreTermsOf, AreWell, HasEvent, Steps}
use Rattle.passify.proofs.Counted.{AreSized, gift_paid, spans_few}
use Rattle.passify.proofs.Followed.{lines_steps}
use Rattle.passify.proofs.Joined.{form_on}
use Rattle.passify.proofs.Kept.{denotes_keep, tells_keep, terms_keep, well_keeps, word_keeps}
use Rattle.passify.proofs.Lines.{like_sweep, map_among, steps_on}
use Rattle.passify.proofs.Outside.{own_keep, spans_keep}
use Rattle.passify.proofs.Pointed.{own_keeps, sized_for}
use Rattle.passify.proofs.Quit.{pending_keep, refused_by}
use Rattle.passify.proofs.Ranges.{beyond_span, bytes_from}
use Rattle.passify.proofs.Rowed.{refused_is}
use Rattle.passify.proofs.Spanned.{written_spanned}
use Rattle.passify.proofs.Standing.{behind_among, exit_read, flags_for, framed_is, framed_length, one_out, reads_of, registers_for, there}
use Rattle.passify.proofs.Stepped.{gift_denotes}

-- what a contract step does
pub step_does : (u : Unrolled) (place number : ℕ) → (own_point u place).deed ≡ deeds.Contract number →
    (framed u place).does ≡ StepsOver (gift_of (stepped_at u number) (top_of (stack_at u.frames.items (own_point u place).stack)))
step_does u place number deed =
    ap (λ (d : Deed). action_of u d (own_code u place).list (stack_at u.frames.items (own_point u place).stack)) deed

-- and its exits
pub step_exits : (u : Unrolled) (place number : ℕ) → (own_point u place).deed ≡ deeds.Contract number →
    exits_of u (own_point u place).deed (own_code u place) (own_edges u place) ≡ contract_exits u (stepped_at u number) (own_edges u place)
step_exits u place number deed = ap (λ (d : Deed). exits_of u d (own_code u place) (own_edges u place)) deed

-- the bytes that it stores
pub step_stores : (u : Unrolled) (place number choice : ℕ) (c : Content) → (own_point u place).deed ≡ deeds.Contract number →
    stored_by (frame_unrolled_of u) (framed u place) choice c (framed u place).does
    ≡ written (frame_unrolled_of u).endian (stepped_at u number).writes (content_at c (framed u place).point.at)
step_stores u place number choice c deed =
    ap (λ (a : Action). stored_by (frame_unrolled_of u) (framed u place) choice c a) (step_does u place number deed)

-- the price of its point pays for it
pub step_affords : (u : Unrolled) (place number : ℕ) → IsWalkable (frame_unrolled_of u) → place < length u.points.items →
    (own_point u place).deed ≡ deeds.Contract number → IsGiftPaid (framed u place) (stepped_at u number)
step_affords u place number walkable within deed =
    let at = framed_is u place within in
    let count = framed_length u u.points.items in
    let paid = walkable.gifts place (gift_of (stepped_at u number) (top_of (stack_at u.frames.items (own_point u place).stack))) (omega (arith, count, within))
    (ap (λ (q : UnrolledPoint). q.does) at ∙ step_does u place number deed) in
    record {
      row = subst (λ (q : UnrolledPoint). 64 ≤ q.row) at paid.0;
      stores = subst (λ (q : UnrolledPoint). sum_by (λ w. w.count) (stepped_at u number).writes ≤ q.stores) at paid.1;
    }

-- the contract of its number
pub stepped_is : (u : Unrolled) (n : ℕ) (k : Source) → n < length u.stepped.now → k ≡ get_or u.stepped.now n k → contract_of k ≡ stepped_at u n
stepped_is u n k l e = ap contract_of e ∙ sym (get_or-map contract_of u.stepped.now n k no_contract l)

pub step_within : (u : Unrolled) (place number : ℕ) → AreStepsFormed u → place < length u.points.items → (own_point u place).deed ≡ deeds.Contract number →
    number < length u.stepped.now
step_within u place number steps within deed =
    (steps.contracts (own_point u place) number (Contains-get_or u.points.items place no_point within) deed).0

module _ (u : Unrolled) (place number : ℕ) (walkable : IsWalkable (frame_unrolled_of u)) (formed : IsFormed u) (within : place < length u.points.items)
    (deed : (own_point u place).deed ≡ deeds.Contract number) (s : Sweep) (n : Names) (of : IsSweepOf u s) (same : HaveSameForm s.entry n) where
  -- what a contract needs can be read
  pub needs_read : (lines : List SourceLine) → map note_line_of lines ≡ (stepped_at u number).needs → (l : SourceLine) → Contains lines l →
      IsReadable (form_of n) (expr_of l.says)
  needs_read lines are l c =
      let need : NoteLine → PointExit = λ (z : NoteLine). FalseNeed z.line z.says in
      let ns = (stepped_at u number).needs in
      let among : Contains ns (note_line_of l) = subst (λ (z : List NoteLine). Contains z (note_line_of l)) are (map_among note_line_of lines l c) in
      let exit : PointExit = FalseNeed l.line (expr_of l.says) in
      exit_read u place walkable formed within s n of same exit
      (behind_among u place walkable formed within exit (subst (λ (xs : List PointExit). Contains xs exit) (sym (step_exits u place number deed))
      (Contains-append_left (map need ns) (WritingKept ∷ (outside_exit (own_contract u) ++ NotGiven ∷ map (edge_of u) (own_edges u place))) exit
      (map_among need ns (note_line_of l) among)))) (expr_of l.says) (0, omega arith, refl)

  step_reads : CanReadAction (frame_unrolled_of u) (StepsOver (gift_of (stepped_at u number) (top_of (stack_at u.frames.items (own_point u place).stack))))
  step_reads =
      subst (λ (a : Action). CanReadAction (frame_unrolled_of u) a) (ap (λ (q : UnrolledPoint). q.does) (framed_is u place within) ∙ step_does u place number deed)
      (walkable.does place (there u place walkable formed within))

  -- so what it gives
  pub gives_read : (lines : List SourceLine) → map note_line_of lines ≡ (stepped_at u number).gives → (l : SourceLine) → Contains lines l →
      IsReadable (form_of n) (expr_of l.says)
  gives_read lines are l c =
      reads_of u s n (expr_of l.says) of same (step_reads.0 (note_line_of l)
      (subst (λ (z : List NoteLine). Contains z (note_line_of l)) are (map_among note_line_of lines l c)))

  -- so what it may write, a byte at least
  pub writes_read : (lines : List SourceWrites) → map writes_of lines ≡ (stepped_at u number).writes → (w : SourceWrites) → Contains lines w →
      IsReadable (form_of n) (expr_of w.says) × (1 ≤ w.count)
  writes_read lines are w c =
      let r = step_reads.1 (writes_of w) (subst (λ (z : List Writes). Contains z (writes_of w)) are (map_among writes_of lines w c)) in
      (reads_of u s n (expr_of w.says) of same r.0, r.1)

-- no address of 64 bits is in a span
far_spans : (ns : List TermNode) (x : TermReading) (spans : List Span) (a : ℕ) → InRange x → AreTyped ns → ((s : Span) → Contains spans s → IsSpan ns s) →
    2 ^ 32 ≤ a → list_any (nat_eq a) (addresses_of ns x spans) ≡ false
far_spans ns x [] a r typed h far = refl
far_spans ns x (s ∷ spans) a r typed h far =
    let first = word_fits x ns 32 s.address.0 r typed (h s (0, omega arith, refl)).address in
    list_any-append (nat_eq a) (addresses ns x s) (addresses_of ns x spans)
    ∙ ap (λ (b : Bool). b || list_any (nat_eq a) (addresses_of ns x spans))
    (ap (list_any (nat_eq a)) (bytes_from (term_word x ns s.address.0) s.bytes first) ∙ beyond_span a (term_word x ns s.address.0) s.bytes far first)
    ∙ far_spans ns x spans a r typed (λ t c. h t (suc c.0, (let q = c.1 in omega (arith, q)), c.2)) far

summed : (spans : List Span) (writes : List Writes) → map (λ s. s.bytes) spans ≡ map (λ w. w.count) writes → bytes_of spans ≡ sum_by (λ w. w.count) writes
summed spans writes e = of_spans spans ∙ ap (λ (xs : List ℕ). sum_by (λ n. n) xs) e ∙ sym (of_writes writes)
  where
    of_spans : (xs : List Span) → sum_by (λ s. s.bytes) xs ≡ sum_by (λ n. n) (map (λ s. s.bytes) xs)
    of_spans [] = refl
    of_spans (s ∷ xs) =
        let a = sum_by-cons (λ (t : Span). t.bytes) s xs in
        let b = sum_by-cons (λ (n : ℕ). n) s.bytes (map (λ (t : Span). t.bytes) xs) in let r = of_spans xs in omega (arith, a, b, r)

    of_writes : (xs : List Writes) → sum_by (λ w. w.count) xs ≡ sum_by (λ n. n) (map (λ w. w.count) xs)
    of_writes [] = refl
    of_writes (w ∷ xs) =
        let a = sum_by-cons (λ (t : Writes). t.count) w xs in
        let b = sum_by-cons (λ (n : ℕ). n) w.count (map (λ (t : Writes). t.count) xs) in let r = of_writes xs in omega (arith, a, b, r)

first_in : (xs : List Writes) → 1 ≤ length xs → (w : Writes) × Contains xs w
first_in [] l = absurd (omega (arith, l))
first_in (w ∷ xs) l = (w, (0, omega arith, refl))

is_less : (a b : ℕ) → a < b → nat_lt a b ≡ true
is_less a b l = grind (arith, nat_tests)

-- What is made of a contract step, but for its edges: its lines, its bits, and the state behind it.
pub record StepBegun (u : Unrolled) (place number : ℕ) (now : Now) (d0 d1 d2 d3 d4 d5 d6 : List TermNode) (s0 s1 s2 : Sweep)
    (rest needed yes wrote kept part : ℕ) (spans : List Span) (n : Names) : Type 0 where
  pub walkable : IsWalkable (frame_unrolled_of u)
  pub formed : IsFormed u
  pub within : place < length u.points.items
  pub deed : (own_point u place).deed ≡ deeds.Contract number
  pub paid : IsGiftPaid (framed u place) (stepped_at u number)
  pub of : IsSweepOf u s0
  pub own : AreOwn u d0 s0
  pub names : AreTermsOf s0.entry d0 now.names.now
  pub pc : HasWidth d0 32 now.pc.0
  pub at : (x : TermReading) → term_word x d0 now.pc.0 ≡ (framed u place).point.at
  pub needs : NeedsTried d0 d1 s0 s1 rest needed u.big now (stepped_at u number).needs []
  pub yes_made : Makes d1 d2 0 1 1 yes (λ x. Tells d2 x yes true)
  pub spanned : AreSpans d2 d3 u.big now yes (stepped_at u number).writes spans
  pub refused : IsRefused u d3 d4 spans s1.own.items wrote
  pub steps : Steps d4 d5 s1 s2 3 0 0 0 8 (λ m. ⊥)
  pub kept_bit : HasWidth d5 1 kept
  pub tries : Tries d4 d5 s1 s2 needed kept (λ x q. Tells d4 x wrote q) (λ from x w b. HasEvent w)
  pub narrows : Narrows d4 d5 needed kept (λ x q. Tells d4 x wrote q)
  pub part_is : part ≡ suc (suc place)
  pub given : IsGiftState d5 d6 part (stepped_at u number) spans now.names.now n

-- as it is made of a contract in the code
pub step_begun : (u : Unrolled) (place number : ℕ) (now : Now) (d0 d1 d2 d3 d4 d5 d6 : List TermNode) (s0 s1 s2 : Sweep)
    (rest needed always wrote kept : ℕ) (spans : List Span) (n : Names) (k : Source) (needs : List SourceLine) (writes : List SourceWrites)
    (tested own taken : List Span) →
    IsWalkable (frame_unrolled_of u) → IsFormed u → AreStepsFormed u → place < length u.points.items → (own_point u place).deed ≡ deeds.Contract number →
    IsGiftPaid (framed u place) (stepped_at u number) → IsSweepOf u s0 → AreOwn u d0 s0 → AreTermsOf s0.entry d0 now.names.now → HasWidth d0 32 now.pc.0 →
    ((x : TermReading) → term_word x d0 now.pc.0 ≡ (framed u place).point.at) → k ≡ get_or u.stepped.now number k → needs ≡ k.needs.items →
    writes ≡ k.writes.items → tested ≡ spans → own ≡ s1.own.items → taken ≡ spans →
    NeedsTried d0 d1 s0 s1 rest needed u.big now (map note_line_of needs) [] → Makes d1 d2 0 1 1 always (λ x. Tells d2 x always true) →
    AreSpans d2 d3 u.big now always (map writes_of writes) spans → IsRefused u d3 d4 tested own wrote → Steps d4 d5 s1 s2 3 0 0 0 8 (λ m. ⊥) →
    HasWidth d5 1 kept → Tries d4 d5 s1 s2 needed kept (λ x q. Tells d4 x wrote q) (λ from x w b. HasEvent w) →
    Narrows d4 d5 needed kept (λ x q. Tells d4 x wrote q) → IsGiftState d5 d6 (place + 2) (contract_of k) taken now.names.now n →
    StepBegun u place number now d0 d1 d2 d3 d4 d5 d6 s0 s1 s2 rest needed always wrote kept (place + 2) spans n
step_begun u place number now d0 d1 d2 d3 d4 d5 d6 s0 s1 s2 rest needed always wrote kept spans n k needs writes tested own taken walkable formed steps within deed
    paid of owned names pc at k_is needs_are writes_are tested_is own_is taken_is m1 m2 m3 m4 m5 bit tries narrows m6 =
    let is : contract_of k ≡ stepped_at u number = stepped_is u number k (step_within u place number steps within deed) k_is in
    record {
      walkable = walkable;
      formed = formed;
      within = within;
      deed = deed;
      paid = paid;
      of = of;
      own = owned;
      names = names;
      pc = pc;
      at = at;
      needs = subst (λ (z : List NoteLine). NeedsTried d0 d1 s0 s1 rest needed u.big now z [])
          (ap (map note_line_of) needs_are ∙ ap (λ (c : Contract). c.needs) is) m1;
      yes_made = m2;
      spanned = subst (λ (z : List Writes). AreSpans d2 d3 u.big now always z spans) (ap (map writes_of) writes_are ∙ ap (λ (c : Contract). c.writes) is) m3;
      refused = subst (λ (z : List Span). IsRefused u d3 d4 z s1.own.items wrote) tested_is
          (subst (λ (z : List Span). IsRefused u d3 d4 tested z wrote) own_is m4);
      steps = m5;
      kept_bit = bit;
      tries = tries;
      narrows = narrows;
      part_is = (let e : place + 2 ≡ suc (suc place) = omega arith in e);
      given = subst (λ (c : Contract). IsGiftState d5 d6 (place + 2) c spans now.names.now n) is
          (subst (λ (z : List Span). IsGiftState d5 d6 (place + 2) (contract_of k) z now.names.now n) taken_is m6);
    }

module _ (u : Unrolled) (place number : ℕ) (now : Now) (d0 d1 d2 d3 d4 d5 d6 : List TermNode) (s0 s1 s2 : Sweep)
    (rest needed yes wrote kept part : ℕ) (spans : List Span) (n : Names)
    (m : StepBegun u place number now d0 d1 d2 d3 d4 d5 d6 s0 s1 s2 rest needed yes wrote kept part spans n) where
  abbrev K : Contract
  K = stepped_at u number

  abbrev f : UnrolledProgram
  f = frame_unrolled_of u

  abbrev before : Names
  before = now.names.now

  abbrev NG : ℕ
  NG = sum_by line_price (says_of K.needs)

  abbrev NL : ℕ
  NL = sum_by bytes_loaded (says_of K.needs)

  abbrev NN : ℕ
  NN = 4 * line_steps (says_of K.needs)

  abbrev SG : ℕ
  SG = sum_by (λ (w : Writes). line_price w.says - 64) K.writes

  abbrev SL : ℕ
  SL = sum_by (λ (w : Writes). bytes_loaded w.says) K.writes

  abbrev SN : ℕ
  SN = sum_by (λ (w : Writes). 4 * line_size w.says + 8) K.writes

  abbrev TG : ℕ
  TG = 98 * (length spans * length f.kept) + is_own (own_contract u) * (length spans + 162 * (length s1.own.items * bytes_of spans))

  abbrev TN : ℕ
  TN = 1 + 10 * (length spans * length f.kept) + is_own (own_contract u) * (2 * length spans + 12 * (length s1.own.items * bytes_of spans))

  abbrev B : ℕ
  B = bytes_of spans

  abbrev RN : ℕ
  RN = length before.registers.items + length before.flags.items + 2 * length spans

  abbrev OG : ℕ
  OG = sum_by line_price (says_of K.gives) + sum_by (λ (e : Edge). 35 + aim_gates u n e.aim) (own_edges u place)

  abbrev OL : ℕ
  OL = sum_by bytes_loaded (says_of K.gives) + sum_by (λ (e : Edge). aim_loads u e.aim) (own_edges u place)

  abbrev OJ : ℕ
  OJ = sum_by (λ (e : Edge). aim_joins e.aim) (own_edges u place)

  abbrev ON : ℕ
  ON = 1 + 4 * line_steps (says_of K.gives) + sum_by (λ (e : Edge). 14 + aim_nodes u n e.aim) (own_edges u place)

  needs_steps : Steps d0 d1 s0 s1 NG NL 0 0 NN (λ m. ⊥)
  needs_steps = lines_steps m.needs.lines

  g02 : Grew d0 d2 (NG + 0) (NL + 0) (0 + 0) (0 + 0) (NN + 1)
  g02 = grew_on d0 d1 d2 NG NL 0 0 NN 0 0 0 0 1 needs_steps.grew m.yes_made.grew

  g03 : Grew d0 d3 (NG + 0 + SG) (NL + 0 + SL) (0 + 0 + 0) (0 + 0 + 0) (NN + 1 + SN)
  g03 = grew_on d0 d2 d3 (NG + 0) (NL + 0) (0 + 0) (0 + 0) (NN + 1) SG SL 0 0 SN g02 m.spanned.grew

  g13 : Grew d1 d3 (0 + SG) (0 + SL) (0 + 0) (0 + 0) (1 + SN)
  g13 = grew_on d1 d2 d3 0 0 0 0 1 SG SL 0 0 SN m.yes_made.grew m.spanned.grew

  g14 : Grew d1 d4 (0 + SG + TG) (0 + SL + 0) (0 + 0 + 0) (0 + 0 + 0) (1 + SN + TN)
  g14 = grew_on d1 d3 d4 (0 + SG) (0 + SL) (0 + 0) (0 + 0) (1 + SN) TG 0 0 0 TN g13 m.refused.grew

  g35 : Grew d3 d5 (TG + 3) (0 + 0) (0 + 0) (0 + 0) (TN + 8)
  g35 = grew_on d3 d4 d5 TG 0 0 0 TN 3 0 0 0 8 m.refused.grew m.steps.grew

  like_itself : (s : Sweep) → AreLike s s
  like_itself s = record { entry = refl; pc = refl; at = refl; places = refl; steps = refl; own = refl }

  steps14 : Steps d1 d4 s1 s1 (0 + SG + TG) (0 + SL + 0) (0 + 0 + 0) (0 + 0 + 0) (1 + SN + TN) (λ m. ⊥)
  steps14 = record {
    grew = g14;
    inputs = inputs_on d1 d3 d4 (λ m. ⊥) (inputs_on d1 d2 d3 (λ m. ⊥) m.yes_made.inputs m.spanned.inputs) m.refused.inputs;
    well = well_keeps g14 s1 m.refused.typed needs_steps.well;
    like = like_itself s1;
  }

  steps04 : Steps d0 d4 s0 s1 (NG + (0 + SG + TG)) (NL + (0 + SL + 0)) (0 + (0 + 0 + 0)) (0 + (0 + 0 + 0)) (NN + (1 + SN + TN)) (λ m. ⊥)
  steps04 = steps_on d0 d1 d4 s0 s1 s1 (λ m. ⊥) NG NL 0 0 NN (0 + SG + TG) (0 + SL + 0) (0 + 0 + 0) (0 + 0 + 0) (1 + SN + TN) needs_steps steps14

  steps05 : Steps d0 d5 s0 s2 (NG + (0 + SG + TG) + 3) (NL + (0 + SL + 0) + 0) (0 + (0 + 0 + 0) + 0) (0 + (0 + 0 + 0) + 0) (NN + (1 + SN + TN) + 8) (λ m. ⊥)
  steps05 = steps_on d0 d4 d5 s0 s1 s2 (λ m. ⊥) (NG + (0 + SG + TG)) (NL + (0 + SL + 0)) (0 + (0 + 0 + 0)) (0 + (0 + 0 + 0)) (NN + (1 + SN + TN)) 3 0 0 0 8
      steps04 m.steps

  g06 : Grew d0 d6 (NG + (0 + SG + TG) + 3 + 0) (NL + (0 + SL + 0) + 0 + 0) (0 + (0 + 0 + 0) + 0 + B) (0 + (0 + 0 + 0) + 0 + 0) (NN + (1 + SN + TN) + 8 + RN)
  g06 = grew_on d0 d5 d6 (NG + (0 + SG + TG) + 3) (NL + (0 + SL + 0) + 0) (0 + (0 + 0 + 0) + 0) (0 + (0 + 0 + 0) + 0) (NN + (1 + SN + TN) + 8) 0 0 B 0 RN
      steps05.grew m.given.grew

  terms : AreStateTerms d0 now
  terms = record { names = m.names.names; pc = m.pc }

  form_is : HaveSameForm s0.entry n
  form_is = form_on s0.entry before n m.names.same m.given.form

  does : (framed u place).does ≡ StepsOver (gift_of K (top_of (stack_at u.frames.items (own_point u place).stack)))
  does = step_does u place number m.deed

  count : length spans ≡ length K.writes
  count = sym (length-map spans (λ (s : Span). s.bytes)) ∙ ap (λ (l : List ℕ). length l) m.spanned.counts ∙ length-map K.writes (λ (w : Writes). w.count)

  abbrev last : List PointExit
  last = NotGiven ∷ map (edge_of u) (own_edges u place)

  abbrev writing : List PointExit
  writing = WritingKept ∷ (outside_exit (own_contract u) ++ last)

  -- what is named is the frame's
  abbrev gift : Gift
  gift = gift_of K (top_of (stack_at u.frames.items (own_point u place).stack))

  gift_at : IsGiftAt f place gift
  gift_at = record {
    place = there u place m.walkable m.formed m.within;
    does = ap (λ (q : UnrolledPoint). q.does) (framed_is u place m.within) ∙ does;
  }

  named : (q : TermNode) → IsGiftNode part K before spans q → IsNamedBelow f u.heads 0 q
  named q (OfRegister r e h l) =
      subst (IsNamedBelow f u.heads 0) (sym e) (subst (λ (p : ℕ). NamesRegister f u.heads p r) (sym m.part_is) (
        subst (λ (z : List ℕ). list_any (nat_eq r) z ≡ true) (sym (registers_for (inputs_of f) s0.entry before m.of.form m.names.same)) h,
        (gift, gift_at, in_any r K.registers l),
      ))
  named q (OfFlag g e h l) =
      subst (IsNamedBelow f u.heads 0) (sym e) (subst (λ (p : ℕ). NamesFlag f u.heads p g) (sym m.part_is) (
        subst (λ (z : ℕ). nat_lt g z ≡ true) (sym (flags_for (inputs_of f) s0.entry before m.of.form m.names.same)) (is_less g (length before.flags.items) h),
        (gift, gift_at, in_any g K.flags l),
      ))
  named q (OfTake i a b e some) =
      let w = first_in K.writes (let c = count in omega (arith, c, some)) in
      subst (IsNamedBelow f u.heads 0) (sym e) (subst (λ (p : ℕ). TakesMemory f p) (sym m.part_is) (gift, w.0, gift_at, w.1))

  abbrev Named : TermNode → Type 0
  Named q = IsNamedBelow f u.heads 0 q

  more : (old new : List TermNode) (t y : Sweep) (g l st j k : ℕ) → Steps old new t y g l st j k (λ m. ⊥) → Steps old new t y g l st j k Named
  more old new t y g l st j k q = record {
    grew = q.grew;
    inputs = inputs_more old new (λ m. ⊥) Named (λ m i h. absurd h) q.inputs;
    well = q.well;
    like = q.like;
  }

  steps56 : Steps d5 d6 s2 s2 0 0 B 0 RN Named
  steps56 = record {
    grew = m.given.grew;
    inputs = inputs_more d5 d6 (IsGiftNode part K before spans) Named (λ q i h. named q h) m.given.inputs;
    well = well_keeps m.given.grew s2 m.given.typed m.steps.well;
    like = like_itself s2;
  }

  owned : AreOwn u d3 s1
  owned = own_keeps u d0 d3 s0 s1 m.own g03 needs_steps.like.own needs_steps.like.at

  module _ (x : TermReading) (r : InRange x) (entry : State) (en : entry ≡ state_at (at_entry x) s0.at) (given c : Content) (is : IsGivenAt x place given c)
      (den : term_word x d0 rest ≡ 1 → Denotes (form_of now.names.now) d0 x (names_of now.names.now) (carried c)) where
    abbrev S : Situation
    S = situation_at f (framed u place) entry (x.choice place) given c

    abbrev at : ℕ
    at = (framed u place).point.at

    abbrev to : ℕ
    to = top_of (stack_at u.frames.items (own_point u place).stack)

    now_at : term_word x d0 rest ≡ 1 → IsStateOf d0 x now (carried c) at
    now_at h = record { carried = den h; pc = m.at x }

    there_now : term_word x d0 rest ≡ 1 → IsThere d0 s0 u.big now (λ T. T.now) x S
    there_now h = record { endian = refl; entry = en; is = now_at h }

    needed_rest : term_word x d4 needed ≡ 1 → term_word x d0 rest ≡ 1
    needed_rest h = (m.needs.narrows x r (sym (word_keeps g14 x needed m.needs.bit.0) ∙ h)).0

    stored_is : S.stored ≡ written f.endian K.writes (content_at c at)
    stored_is = step_stores u place number (x.choice place) c m.deed

    written_is : term_word x d0 rest ≡ 1 → addresses_of d3 x spans ≡ S.stored
    written_is h =
        m.spanned.written x r (carried c) at (is_state_stays d0 d2 _ _ _ _ _ now x (carried c) at g02 terms (now_at h)) ∙ sym stored_is

    guard_is : (s : Span) → Contains spans s → term_word x d3 s.guard.0 ≡ 1
    guard_is s q =
        ap (λ (t : ℕ). term_word x d3 t) (m.spanned.each s q).1 ∙ word_keeps m.spanned.grew x yes m.yes_made.width.0 ∙ m.yes_made.holds x r

    spanned_is : term_word x d0 rest ≡ 1 → (y : ℕ) → Contains S.stored y ↔ IsSpanned d3 x spans y
    spanned_is h y =
        subst (λ (l : List ℕ). Contains l y ↔ IsSpanned d3 x spans y) (written_is h)
        (written_spanned d3 x spans y r m.spanned.typed (λ s q. ((m.spanned.each s q).0, guard_is s q)))

    own_at : addresses_of d3 x s1.own.items ≡ own_places u entry
    own_at =
        owned.written x r ∙ ap (λ (t : ℕ). own_places u (state_at (at_entry x) t)) needs_steps.like.at ∙ ap (own_places u) (sym en)

    takes : term_word x d4 needed ≡ 1 → Tells d4 x wrote (is_refused S)
    takes h =
        subst (λ (b : Bool). Tells d4 x wrote b) (refused_is u (list_any (is_in f.kept) S.stored) entry S.stored (addresses_of d3 x s1.own.items) own_at)
        (m.refused.tells x r S.stored (spanned_is (needed_rest h)))

    abbrev behind : Content
    behind = gifted f gift (content_at c at) given

    leaving_is : S.leaving ≡ GoesOn true to behind
    leaving_is = ap (left_by f (framed u place) (x.choice place) given c) does

    next_is : S.next ≡ content_at behind to
    next_is = ap (λ (l : Leaving). next_state l c) leaving_is

    places_are : term_word x d0 rest ≡ 1 → addresses_of d5 x spans ≡ written f.endian K.writes (content_at c at)
    places_are h = own_keep d3 d5 _ _ _ _ _ x spans g35 (λ t q. (m.spanned.each t q).0) ∙ written_is h ∙ stored_is

    given_is : term_word x d0 rest ≡ 1 → Denotes (form_of n) d6 x (names_of n) (carried behind)
    given_is h =
        gift_denotes f K to place x part m.part_is c given is at d6 n (addresses_of d5 x spans) (places_are h)
        (λ a far. far_spans d5 x spans a r m.steps.well.typed (spans_keep d3 d5 _ _ _ _ _ spans g35 (λ t q. (m.spanned.each t q).0)) far)
        (registers_for (inputs_of f) s0.entry n m.of.form form_is) (flags_for (inputs_of f) s0.entry n m.of.form form_is)
        (m.given.denotes x r (carried c) (denotes_keep steps05.grew x before (carried c) m.names.names (den h)))

    fits : term_word x d6 kept ≡ 1 → StepsHere u place K d6 s2 n now x S
    fits h =
        let q = needed_rest (m.narrows x r (sym (word_keeps m.given.grew x kept m.kept_bit.0) ∙ h)).0 in
        record {
          endian = refl;
          link = refl;
          entry = en ∙ ap (state_at (at_entry x)) (sym (m.steps.like.at ∙ needs_steps.like.at));
          now_is = is_state_stays d0 d6 _ _ _ _ _ now x (carried c) at g06 terms (now_at q);
          content = behind;
          leaving = leaving_is;
          next = next_is;
          denotes = subst (λ (t : State). Denotes (form_of n) d6 x (names_of n) (carried_of t)) (sym next_is) (given_is q);
          gives = ap gives_of does;
        }

  sized : AreSized (variables_of f) n
  sized = sized_for f s0.entry before n m.walkable.sized m.of.form m.names.same m.given.form

  some_bytes : length spans ≤ bytes_of spans
  some_bytes = spans_few spans (λ t h. (m.spanned.each t h).0.some)

  stores_few : bytes_of spans ≤ (framed u place).stores
  stores_few = let e = summed spans K.writes m.spanned.counts in let l = m.paid.stores in omega (arith, e, l)

  -- the edges can be tried
  pub ready_well : AreWell d6 s2
  ready_well = steps56.well

  pub ready_sweep : IsSweepOf u s2
  ready_sweep = like_sweep u s0 s2 steps05.like m.of

  pub ready_names : AreTermsOf s2.entry d6 n
  ready_names = subst (λ (e : Names). AreTermsOf e d6 n) (sym steps05.like.entry) (record { same = form_is; names = m.given.names })

  pub ready_now : AreTermsOf s2.entry d6 before
  ready_now = subst (λ (e : Names). AreTermsOf e d6 before) (sym steps05.like.entry) (terms_keep g06 s0.entry before m.names)

  pub ready_pc : HasWidth d6 32 now.pc.0
  ready_pc = grew_width d0 d6 _ _ _ _ _ 32 now.pc.0 g06 m.pc

  g26 : Grew d2 d6 (SG + (TG + 3) + 0) (SL + (0 + 0) + 0) (0 + (0 + 0) + B) (0 + (0 + 0) + 0) (SN + (TN + 8) + RN)
  g26 = grew_on d2 d5 d6 (SG + (TG + 3)) (SL + (0 + 0)) (0 + (0 + 0)) (0 + (0 + 0)) (SN + (TN + 8)) 0 0 B 0 RN
      (grew_on d2 d3 d5 SG SL 0 0 SN (TG + 3) (0 + 0) (0 + 0) (0 + 0) (TN + 8) m.spanned.grew g35) m.given.grew

  pub ready_yes : HasWidth d6 1 yes
  ready_yes = grew_width d2 d6 _ _ _ _ _ 1 yes g26 m.yes_made.width

  pub ready_is_yes : (x : TermReading) → InRange x → Tells d6 x yes true
  ready_is_yes x r = tells_keep g26 x yes true m.yes_made.width.0 (m.yes_made.holds x r)

  pub ready_kept : HasWidth d6 1 kept
  ready_kept = grew_width d5 d6 _ _ _ _ _ 1 kept m.given.grew m.kept_bit

  module _ (d7 : List TermNode) (s3 : Sweep) (left : ℕ) (gone : IsGoneOn u place (stepped_at u number) n now d6 d7 s2 s3 kept left) where
    steps57 : Steps d5 d7 s2 s3 (0 + OG) (0 + OL) (B + 0) (0 + OJ) (RN + ON) Named
    steps57 = steps_on d5 d6 d7 s2 s2 s3 Named 0 0 B 0 RN OG OL 0 OJ ON steps56 (more d6 d7 s2 s3 OG OL 0 OJ ON gone.steps)

    steps_all : Steps d0 d7 s0 s3 (NG + (0 + SG + TG) + 3 + (0 + OG)) (NL + (0 + SL + 0) + 0 + (0 + OL)) (0 + (0 + 0 + 0) + 0 + (B + 0))
        (0 + (0 + 0 + 0) + 0 + (0 + OJ)) (NN + (1 + SN + TN) + 8 + (RN + ON)) Named
    steps_all =
        steps_on d0 d5 d7 s0 s2 s3 Named (NG + (0 + SG + TG) + 3) (NL + (0 + SL + 0) + 0) (0 + (0 + 0 + 0) + 0) (0 + (0 + 0 + 0) + 0) (NN + (1 + SN + TN) + 8)
        (0 + OG) (0 + OL) (B + 0) (0 + OJ) (RN + ON) (more d0 d5 s0 s2 _ _ _ _ _ steps05) steps57

    step_tries : (x : TermReading) → InRange x → (entry : State) → entry ≡ state_at (at_entry x) s0.at → (given c : Content) → IsGivenAt x place given c →
        (term_word x d0 rest ≡ 1 → Denotes (form_of now.names.now) d0 x (names_of now.names.now) (carried c)) → (start end : Held) →
        IsPending d0 s0 (suc place) x rest start end (goes (situation_at f (framed u place) entry (x.choice place) given c)
        (exits_of u (own_point u place).deed (own_code u place) (own_edges u place)) start) →
        IsPending d7 s3 (suc place) x left start end (goes (situation_at f (framed u place) entry (x.choice place) given c) [] start)
    step_tries x r entry en given c is den start end p =
        let T = S x r entry en given c is den in
        let p0 = subst (λ (xs : List PointExit). IsPending d0 s0 (suc place) x rest start end (goes T xs start)) (step_exits u place number m.deed) p in
        let p1 = m.needs.tries x r (suc place) T (there_now x r entry en given c is den) start end writing p0 in
        let p2 = pending_keep d1 d4 _ _ _ _ _ s1 (suc place) x needed start end (goes T writing start) g14 needs_steps.well m.needs.bit p1 in
        let p3 = m.tries x r (suc place) (WalkFails JumpFails) (is_refused T) (takes x r entry en given c is den) (λ b h. (JumpFails, refl)) start end
        (goes T writing start) (goes T last start) (refused_by T (own_contract u) last start refl) p2 in
        let p4 = pending_keep d5 d6 _ _ _ _ _ s2 (suc place) x kept start end (goes T last start) m.given.grew m.steps.well m.kept_bit p3 in
        gone.tries x r T (record { own = refl; ensures = refl; registers = refl; flags = refl }) (fits x r entry en given c is den) start end p4

    -- so the step is tried
    pub step_from : IsRowTried u place now.names.now d0 d7 s0 s3 rest left
    step_from =
        let p = gift_paid u place number m.deed n spans (length s1.own.items) sized (one_out u place m.walkable m.formed m.within) some_bytes owned.count count
        stores_few m.paid.row in
        let z = sized.few in let t = sized.terms in let fr = m.given.form.registers in let ff = m.given.form.flags in
        let pg = p.few_gates in let pl = p.few_loads in let ps = p.few_stores in let pj = p.few_joins in let pn = p.few_nodes in
        record {
          gates = NG + (0 + SG + TG) + 3 + (0 + OG);
          loads = NL + (0 + SL + 0) + 0 + (0 + OL);
          stores = 0 + (0 + 0 + 0) + 0 + (B + 0);
          joins = 0 + (0 + 0 + 0) + 0 + (0 + OJ);
          nodes = NN + (1 + SN + TN) + 8 + (RN + ON);
          steps = steps_all;
          few_gates = omega (arith, pg);
          few_loads = omega (arith, pl);
          few_stores = omega (arith, ps);
          few_joins = omega (arith, pj);
          few_nodes = omega (arith, pn, z, t, fr, ff);
          bit = gone.bit;
          tries = step_tries;
        }
