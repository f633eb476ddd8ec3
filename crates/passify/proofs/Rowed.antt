-- What stands at a place, as terms.
use Rattle.std.proofs.Common.{◌≡◌, ℕ, suc, ◌+◌, ◌*◌, ◌≤◌, Bool, true, false, List, [], ◌∷◌, Option, Some, None, length, map, refl, ap, sym, ◌∙◌, subst, arith, inl, inr, ◌↔◌, ◌⊎◌, Contains, not}
use Rattle.std.specs.Prelude.{if◌then◌else◌, ◌||◌, ◌++◌, sum_by}
use Rattle.std.specs.Global.{Vec}
use Rattle.word_spec.specs.Words.{bit, add}
use Rattle.machine_spec.specs.Machine.{is_place}
use Rattle.word_spec.specs.State.{State}
use Rattle.machine_spec.specs.Bil.{Statements, list_size}
use Rattle.machine_spec.specs.BilCounts.{list_weight, byte_loads, byte_stores, unknowns}
use Rattle.machine_spec.specs.BilMeaning.{Ending, Ends, RaisesException, OutOfTurns, Wrong, execute}
use Rattle.bil_ast.specs.declared.statements.Stmt.{Stmt}
use Rattle.bil_ast.specs.Views.{statements}
use Rattle.bil_terms.specs.declared.left.Left.{Left}
use Rattle.bil_terms.specs.Runs.{Jumps, IsStoredBy}
use Rattle.bil_terms.specs.Gathered.{IsStore}
use Rattle.bil_terms.specs.Left.{AreLeft, IsLeft}
use Rattle.term_spec.specs.Terms.{TermReading, InRange, TermNode, ChoiceNode, HasWidth, term_word}
use Rattle.walk_spec.specs.Unrolled.{carried_of, is_in, state_at}
use Rattle.word_spec.specs.Memory.{endian, span}
use Rattle.bil_terms.specs.declared.stored.Stored.{Stored}
use Rattle.bilv_spec.proofs.PointsInGraph.{of_map}
use Rattle.std.proofs.lemmas.List.{get_or-map, length-map}
use Rattle.frame_terms.specs.PassiveFrames.{DrawsAt, IsNamedBelow}
use Rattle.frame_spec.specs.FrameUnrolling.{outside_exit, own_of}
use Rattle.frame_spec.specs.Frames.{Content, Contract, content_at}
use Rattle.frame_spec.specs.FrameWalk.{UnrolledPoint, Raising, WritingKept, Unaligned, Executes, Leaving, GoesOn, leaving_by, left_by, stored_by, goes_on, is_outside, is_raised, is_unaligned, next_state}
use Rattle.machine_spec.specs.Simulation.{position}
use Rattle.machine_spec.specs.BilMeaning.{Stuck}
use Rattle.std.specs.List.{list_any}
use Rattle.walk_spec.specs.Sweep.{Held}
use Rattle.term_spec.specs.Passive.{Denotes, Tells}
use Rattle.term_dag.specs.Made.{Grew, InputsFrom}
use Rattle.term_dag.proofs.Growth.{grew_on, inputs_on, inputs_more}
use Rattle.question_form.specs.declared.unrolled.Edge.{Edge}
use Rattle.question_form.specs.declared.unrolled.Unrolled.{Unrolled}
use Rattle.question_form.specs.declared.unrolled.Deed.{Deed}
use Rattle.question_form.specs.declared.unrolled.Deed.TheVariants.{Row}
use Rattle.program_points.specs.Tables.{stack_at}
use Rattle.question_form.specs.FrameViews.{action_of, edge_of, exits_of, list_of, own_contract, row_exits, frame_unrolled_of}
use Rattle.term_names.specs.declared.names.Names.{Names}
use Rattle.term_names.specs.Views.{form_of, names_of}
use Rattle.term_names.specs.Chosen.{at_entry}
use Rattle.note_terms.specs.declared.Now.{Now}
use Rattle.note_terms.specs.Lines.{IsStateOf}
use Rattle.passify.specs.declared.sweep.Sweep.{Sweep}
use Rattle.passify.specs.Bits.{Makes}
use Rattle.passify.specs.Plain.{carried}
use Rattle.passify.specs.Sweeps.{AreWell, Steps}
use Rattle.passify.specs.Exits.{IsPending}
use Rattle.passify.specs.Situations.{Situation, goes}
use Rattle.passify.specs.Edges.{AreLater, GoesHere, aim_gates, aim_loads, aim_joins, aim_nodes}
use Rattle.passify.specs.declared.spans.Span.{Span}
use Rattle.passify.specs.Spans.{AreOwn, IsRefused, IsSpan, IsSpanned, addresses_of, bytes_of, is_own, outside_by, own_places, places_by, span_of}
use Rattle.passify.specs.Rows.{IsGivenAt, IsLeaving, IsRowTried, LeavesHere, is_refused, own_code, own_edges, own_point, framed, situation_at}
use Rattle.passify.proofs.Kept.{tells_keep, word_keeps, denotes_keep, truth}
use Rattle.passify.proofs.Counted.{ArePaid}
use Rattle.passify.proofs.Quit.{pending_keep}

no_true : true ≡ false → ⊥
no_true e = cc

-- what is stored is spanned
stored_spanned : (ns : List TermNode) (x : TermReading) (stored : List Stored) (a : ℕ) → IsStoredBy ns x stored a → IsSpanned ns x (map span_of stored) a
stored_spanned ns x stored a (s, c, g, b) = (span_of s, map_among stored s c, g, b)
  where
    map_among : (xs : List Stored) (s : Stored) → Contains xs s → Contains (map span_of xs) (span_of s)
    map_among xs s (i, l, e) = (
      i,
      (let m = length-map xs span_of in omega (arith, m, l)),
      get_or-map span_of xs i s (span_of s) l ∙ ap span_of e,
    )

spanned_stored : (ns : List TermNode) (x : TermReading) (stored : List Stored) (a : ℕ) → IsSpanned ns x (map span_of stored) a → IsStoredBy ns x stored a
spanned_stored ns x stored a (k, c, g, b) = let s = of_map span_of stored k c in (
  s.0,
  s.1,
  ap (λ (z : Span). term_word x ns z.guard.0) s.2 ∙ g,
  subst (λ (z : Span). Contains (span (term_word x ns z.address.0) z.bytes) a) (sym s.2) b,
)

-- stores are spans
pub stores_are_spans : (ns : List TermNode) (stored : List Stored) → ((t : Stored) → Contains stored t → IsStore ns t) → (k : Span) →
    Contains (map span_of stored) k → IsSpan ns k
stores_are_spans ns stored h k c =
    let s = of_map span_of stored k c in
    let t = h s.0 s.1 in
    let f = t.few in
    subst (λ (z : Span). IsSpan ns z) s.2 (record { guard = t.guard; address = t.address; some = t.some; few = omega (arith, f) })

-- whether a byte is none that may be written, by what the definitions say
pub refused_is : (u : Unrolled) (kept : Bool) (entry : State) (bytes places : List ℕ) → places ≡ own_places u entry →
    (kept || outside_by (own_contract u) places bytes)
    ≡ (kept || is_outside (frame_unrolled_of u).own (frame_unrolled_of u).endian entry bytes)
refused_is u kept entry bytes places e = ap (λ (z : List ℕ). kept || outside_by (own_contract u) z bytes) e ∙ ap (λ q. kept || q) (by (own_contract u))
  where
    by : (o : Option Contract) → outside_by o (places_by u o entry) bytes ≡ is_outside (own_of o) (endian u.big) entry bytes
    by None = refl
    by (Some x) = refl

-- terms are what a point goes on to
record GoneAs (nodes : List TermNode) (x : TermReading) (l : Left) (behind : ℕ) (L : Leaving) : Type 0 where
  by_jump : Bool
  goes_to : ℕ
  content : Content
  is : L ≡ GoesOn by_jump goes_to content
  tells : Tells nodes x l.jumped.0 by_jump
  address : goes_to ≡ (if by_jump then term_word x nodes l.target.0 else behind)
  denotes : Denotes (form_of l.names) nodes x (names_of l.names) (carried content)

-- terms are how a point is left
record LeftAs (nodes : List TermNode) (x : TermReading) (l : Left) (behind : ℕ) (L : Leaving) : Type 0 where
  raises : Tells nodes x l.raised.0 (is_raised L)
  gone : is_raised L ≡ false → GoneAs nodes x l behind L

module _ (nodes : List TermNode) (x : TermReading) (l : Left) (q : UnrolledPoint) where
  left_on : (j : Option ℕ) (c : Content) → term_word x nodes l.raised.0 ≡ 0 → Jumps nodes x l.jumped.0 l.target.0 j →
      Denotes (form_of l.names) nodes x (names_of l.names) (carried c) →
      LeftAs nodes x l (add 32 q.point.at q.length) (goes_on q j c)
  left_on None c r h d = record {
    raises = r;
    gone = λ e. record {
      by_jump = false;
      goes_to = add 32 q.point.at q.length;
      content = c;
      is = refl;
      tells = h;
      address = refl;
      denotes = d;
    };
  }
  left_on (Some a) c r h d = record {
    raises = r;
    gone = λ e. record { by_jump = true; goes_to = a; content = c; is = refl; tells = h.0; address = sym h.1; denotes = d };
  }

  left_as : (e : Ending) → AreLeft nodes x l e → LeftAs nodes x l (add 32 q.point.at q.length) (leaving_by q e)
  left_as (Ends p) h = left_on p.jump (record { regs = p.env.regs; flags = p.env.flags; mem = p.env.mem }) h.0 h.1 h.2
  left_as (RaisesException n p) h = record { raises = h; gone = λ e. absurd (no_true e) }
  left_as (OutOfTurns p) h = absurd h
  left_as Wrong h = absurd h

module _ (u : Unrolled) (place : ℕ) (n : Names) (a b c d e f : List TermNode) (s z : Sweep) (rest last : ℕ) (list : Vec Stmt) (l : Left) (wrote odd : ℕ)
    (next : Now) (to link : ℕ)
    (w : AreWell a s) (wr : HasWidth a 1 rest) (row : (own_point u place).deed ≡ Row) (code : (own_code u place).list ≡ Some list) (later : AreLater
    (suc place) (own_edges u place))
    (m1 : IsLeft a b place n (statements list.items) l)
    (owned : AreOwn u b s)
    (m2 : IsRefused u b c (map span_of l.stored.items) s.own.items wrote)
    (m3 : Makes c d 32 3 32 to (λ x. (j : Bool) → Tells c x l.jumped.0 j →
    term_word x d to ≡ (if j then term_word x c l.target.0 else add 32 (own_code u place).at (own_code u place).length)))
    (m4 : Makes d e 2 5 1 odd (λ x. Tells e x odd (not (is_place u.narrow (term_word x d to)))))
    (v : IsLeaving u e f s z rest last l.raised.0 wrote odd next l.jumped.0 link (own_edges u place)) (names : next.names.now
    ≡ l.names)
    (pc_is : next.pc.0 ≡ to) (drawn_at : (framed u place).draws ≡ true → DrawsAt (frame_unrolled_of u) place)
    (link_is : (x : TermReading) → InRange x → term_word x e link ≡ x.regs 0 u.link) where
  -- the list
  abbrev code_list : Statements
  code_list = statements list.items

  -- what the tests of the stores may cost
  abbrev spans : List Span
  spans = map span_of l.stored.items

  abbrev tests : ℕ
  tests = 98 * (length spans * length (frame_unrolled_of u).kept) + is_own (own_contract u) * (length spans + 162 * (length s.own.items * bytes_of spans))

  abbrev tested : ℕ
  tested = 1 + 10 * (length spans * length (frame_unrolled_of u).kept) + is_own (own_contract u) * (2 * length spans + 12 * (length s.own.items * bytes_of spans))

  g12 : Grew a c (list_weight code_list + tests) (byte_loads code_list + 0) (byte_stores code_list + 0) (2 * byte_stores code_list + 0)
      (4 * list_size code_list + 8 + tested)
  g12 = grew_on a b c (list_weight code_list) (byte_loads code_list) (byte_stores code_list) (2 * byte_stores code_list) (4 * list_size code_list + 8)
      (tests) 0 0 0
      tested m1.grew m2.grew

  g34 : Grew c e (32 + 2) (0 + 0) (0 + 0) (0 + 0) (3 + 5)
  g34 = grew_on c d e 32 0 0 0 3 2 0 0 0 5 m3.grew m4.grew

  g234 : Grew b e (tests + (32 + 2)) (0 + (0 + 0)) (0 + (0 + 0)) (0 + (0 + 0)) (tested + (3 + 5))
  g234 = grew_on b c e (tests) 0 0 0 tested (32 + 2) (0 + 0) (0 + 0) (0 + 0) (3 + 5) m2.grew g34

  pub row_grew : Grew a e (list_weight code_list + tests + (32 + 2)) (byte_loads code_list + 0 + (0 + 0)) (byte_stores code_list + 0 + (0 + 0))
      (2 * byte_stores code_list + 0 + (0 + 0))
      (4 * list_size code_list + 8 + tested + (3 + 5))
  row_grew =
      grew_on a c e (list_weight code_list + tests) (byte_loads code_list + 0) (byte_stores code_list + 0) (2 * byte_stores code_list + 0)
      (4 * list_size code_list + 8 + tested) (32 + 2) (0 + 0) (0 + 0)
      (0 + 0) (3 + 5) g12 g34

  module _ (x : TermReading) (r : InRange x) (entry : State) (en : entry
      ≡ state_at (at_entry x) s.at) (given t : Content) (den : Denotes (form_of n) a x (names_of n) (carried t)) where
    abbrev S : Situation
    S = situation_at (frame_unrolled_of u) (framed u place) entry (x.choice place) given t

    abbrev ending : Ending
    ending = execute (statements list.items) (x.choice place) (position (λ y k. Stuck) 0 None (content_at t (own_code u place).at))

    does : (framed u place).does ≡ Executes (statements list.items)
    does = ap (λ (d : Deed). action_of u d (own_code u place).list (stack_at u.frames.items (own_point u place).stack)) row ∙ ap list_of code

    leaves : S.leaving ≡ leaving_by (framed u place) ending
    leaves = ap (left_by (frame_unrolled_of u) (framed u place) (x.choice place) given t) does

    left : LeftAs b x l (add 32 (own_code u place).at (own_code u place).length) S.leaving
    left = subst (λ (z : Leaving). LeftAs b x l (add 32 (own_code u place).at (own_code u place).length) z) (sym leaves)
        (left_as b x l (framed u place) ending (m1.leaves x r (carried t) den (own_code u place).at))

    stores_are : (y : ℕ) → Contains S.stored y ↔ IsSpanned b x spans y
    stores_are y =
        let h = subst (λ (z : List ℕ). Contains z y ↔ IsStoredBy b x l.stored.items y) (sym (ap (stored_by (frame_unrolled_of u) (framed u place)
        (x.choice place) t) does))
        (m1.stored_bytes x r (carried t) den (own_code u place).at y) in
        (λ c. stored_spanned b x l.stored.items y (h.0 c), λ c. h.1 (spanned_stored b x l.stored.items y c))

    address : (g : GoneAs b x l (add 32 (own_code u place).at (own_code u place).length) S.leaving) → term_word x d to ≡ g.goes_to
    address g =
        m3.holds x r g.by_jump (tells_keep m2.grew x l.jumped.0 g.by_jump m1.jumped.0 g.tells)
        ∙ ap (λ (z : ℕ). if g.by_jump then z else add 32 (own_code u place).at (own_code u place).length)
        (word_keeps m2.grew x l.target.0 m1.target.0) ∙ sym g.address

    here : (g : GoneAs b x l (add 32 (own_code u place).at (own_code u place).length) S.leaving) → GoesHere e s u.big next l.jumped.0 link x S
    here g =
        let is_next : S.next ≡ content_at g.content g.goes_to = ap (λ (z : Leaving). next_state z t) g.is in
        record {
          jumps = g.by_jump;
          to = g.goes_to;
          carried = g.content;
          leaving = g.is;
          next_state = is_next;
          tells = tells_keep g234 x l.jumped.0 g.by_jump m1.jumped.0 g.tells;
          link_word = link_is x r ∙ sym (ap (λ (z : State). z.regs u.link) en);
          there = record {
            endian = refl;
            entry = en;
            is = subst (λ (z : State). IsStateOf e x next (carried_of z) z.pc) (sym is_next) (record {
              carried = subst (λ (m : Names). Denotes (form_of m) e x (names_of m) (carried g.content)) (sym names)
                  (denotes_keep g234 x l.names (carried g.content) m1.names g.denotes);
              pc = ap (λ (i : ℕ). term_word x e i) pc_is ∙ word_keeps m4.grew x to m3.width.0 ∙ address g;
            });
          };
        }

    row_fits : LeavesHere e s u.big l.raised.0 wrote odd next l.jumped.0 link x S
    row_fits = record {
      raised = tells_keep g234 x l.raised.0 (is_raised S.leaving) m1.raised.0 left.raises;
      wrote = tells_keep g34 x wrote (is_refused S) m2.width.0
          (subst (λ (q : Bool). Tells c x wrote q) (refused_is u (list_any (is_in (frame_unrolled_of u).kept) S.stored) entry S.stored
          (addresses_of b x s.own.items) (owned.written x r ∙ ap (own_places u) (sym en)))
          (m2.tells x r S.stored stores_are));
      odd = λ h. (let g = left.gone h in
          m4.holds x r ∙ ap (λ (z : ℕ). bit (not (is_place u.narrow z))) (address g) ∙ sym (ap (λ (z : Leaving). bit (is_unaligned u.narrow z)) g.is));
      goes_on = λ h. here (left.gone h);
    }

  pub row_tries : (x : TermReading) → InRange x → (entry : State) →
      entry ≡ state_at (at_entry x) s.at → (given t : Content) → IsGivenAt x place given t → (term_word x a rest ≡ 1 → Denotes (form_of n) a x (names_of n) (carried t)) →
      (before after : Held) →
      IsPending a s (suc place) x
      rest before after
      (goes (situation_at (frame_unrolled_of u) (framed u place) entry (x.choice place) given t)
      (exits_of u (own_point u place).deed (own_code u place) (own_edges u place)) before) →
      IsPending f z (suc place) x last before after (goes (situation_at (frame_unrolled_of u) (framed u place) entry (x.choice place) given t) [] before)
  row_tries x r entry en given t is_given den before after p =
      let S = situation_at (frame_unrolled_of u) (framed u place) entry (x.choice place) given t in
      let p' = pending_keep a e _ _ _ _ _ s (suc place) x rest before after (goes S (Raising ∷ WritingKept ∷ (outside_exit (own_contract u) ++ Unaligned
      ∷ map (edge_of u) (own_edges u place))) before) row_grew w wr
      (subst (λ (o : Option (Vec Stmt)). IsPending a s (suc place) x rest before after
      (goes S (row_exits u (own_code u place).fetchable o (own_edges u place)) before)) code
      (subst (λ (d : Deed). IsPending a s (suc place) x rest before after
      (goes S (exits_of u d (own_code u place) (own_edges u place)) before)) row p)) in
      v.tries x r (suc place) later S (record { own = refl; ensures = refl; registers = refl; flags = refl }) (λ h. row_fits x r entry en given t (den (sym
      (word_keeps row_grew x rest wr.0) ∙ h))) before after p'

  -- the choice is read where the row draws
  inputs_by : ((framed u place).draws ≡ false → unknowns code_list ≡ 0) → InputsFrom a e (λ m. (m ≡ ChoiceNode place) × ((framed u place).draws ≡ true))
  inputs_by dr =
      inputs_on a b e (λ m. (m ≡ ChoiceNode place) × ((framed u place).draws ≡ true))
      (inputs_more a b (λ m. (m ≡ ChoiceNode place) × (1 ≤ unknowns code_list)) (λ m. (m ≡ ChoiceNode place) × ((framed u place).draws ≡ true))
      (λ m i k. (k.0, drawn (truth (framed u place).draws) k.1)) m1.inputs)
      (inputs_more b e (λ m. ⊥) (λ m. (m ≡ ChoiceNode place) × ((framed u place).draws ≡ true)) (λ m i k. absurd k)
      (inputs_on b c e (λ m. ⊥) m2.inputs (inputs_on c d e (λ m. ⊥) m3.inputs m4.inputs)))
    where
      drawn : ((framed u place).draws ≡ true) ⊎ ((framed u place).draws ≡ false) → 1 ≤ unknowns code_list → (framed u place).draws ≡ true
      drawn (inl t) k = t
      drawn (inr t) k = absurd (let z = dr t in omega (arith, z, k))

  pub row_steps : ((framed u place).draws ≡ false → unknowns code_list ≡ 0) →
      Steps a f s z (list_weight code_list + tests + (32 + 2) + (9 + sum_by
      (λ e. 35 + aim_gates u next.names.now e.aim) (own_edges u place)))
      (byte_loads code_list + 0 + (0 + 0) + sum_by (λ e. aim_loads u e.aim) (own_edges u place)) (byte_stores code_list + 0 + (0 + 0) + 0)
      (2 * byte_stores code_list + 0 + (0 + 0) + sum_by (λ e. aim_joins e.aim) (own_edges u place))
      (4 * list_size code_list + 8 + tested + (3 + 5) + (24 + sum_by
      (λ e. 14 + aim_nodes u next.names.now e.aim) (own_edges u place)))
      (IsNamedBelow (frame_unrolled_of u) u.heads 0)
  row_steps dr = record {
    grew = grew_on a e f _ _ _ _ _ _ _ _ _ _ row_grew v.steps.grew;
    inputs = inputs_on a e f (IsNamedBelow (frame_unrolled_of u) u.heads 0)
        (inputs_more a e (λ m. (m ≡ ChoiceNode place) × ((framed u place).draws ≡ true)) (IsNamedBelow (frame_unrolled_of u) u.heads 0)
        (λ m i k. subst (IsNamedBelow (frame_unrolled_of u) u.heads 0) (sym k.0) (drawn_at k.1)) (inputs_by dr))
        (inputs_more e f (λ m. ⊥) (IsNamedBelow (frame_unrolled_of u) u.heads 0) (λ m i k. absurd k) v.steps.inputs);
    well = v.steps.well;
    like = v.steps.like;
  }

  -- the row, within what is paid
  pub row_led : ((framed u place).draws ≡ false → unknowns code_list ≡ 0) →
      ArePaid u place (list_weight code_list + tests + (32 + 2) + (9 + sum_by
      (λ e. 35 + aim_gates u next.names.now e.aim) (own_edges u place)))
      (byte_loads code_list + 0 + (0 + 0) + sum_by (λ e. aim_loads u e.aim) (own_edges u place)) (byte_stores code_list + 0 + (0 + 0) + 0)
      (2 * byte_stores code_list + 0 + (0 + 0) + sum_by (λ e. aim_joins e.aim) (own_edges u place))
      (4 * list_size code_list + 8 + tested + (3 + 5) + (24 + sum_by
      (λ e. 14 + aim_nodes u next.names.now e.aim) (own_edges u place))) →
      IsRowTried u place n a f s z rest last
  row_led dr paid = record {
    gates = list_weight code_list + tests + (32 + 2) + (9 + sum_by
        (λ (e : Edge). 35 + aim_gates u next.names.now e.aim) (own_edges u place));
    loads = byte_loads code_list + 0 + (0 + 0) + sum_by (λ (e : Edge). aim_loads u e.aim) (own_edges u place);
    stores = byte_stores code_list + 0 + (0 + 0) + 0;
    joins = 2 * byte_stores code_list + 0 + (0 + 0) + sum_by (λ (e : Edge). aim_joins e.aim) (own_edges u place);
    nodes = 4 * list_size code_list + 8 + tested + (3 + 5) + (24 + sum_by
        (λ (e : Edge). 14 + aim_nodes u next.names.now e.aim) (own_edges u place));
    steps = row_steps dr;
    few_gates = paid.few_gates;
    few_loads = paid.few_loads;
    few_stores = paid.few_stores;
    few_joins = paid.few_joins;
    few_nodes = paid.few_nodes;
    bit = v.bit;
    tries = row_tries;
  }
