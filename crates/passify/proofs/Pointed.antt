-- A point that is handled.
use Rattle.std.proofs.Common.{◌≡◌, ℕ, suc, ◌+◌, ◌*◌, ◌%◌, ◌^◌, ◌∷◌, map, ◌<◌, ◌≤◌, Bool, true, List, [], Option, Some, None, length, refl, ap, sym, ◌∙◌, subst, arith, get_or}
use Rattle.std.specs.Prelude.{◌-◌, not, nat_lt, if◌then◌else◌, slice_index, sum_by}
use Rattle.std.proofs.Math.Path.{fun_ext}
use Rattle.std.proofs.lemmas.Bool.Decides.{nat_tests}
use Rattle.std.proofs.lemmas.List.Sums.{sum_by-cons}
use Rattle.word_spec.specs.Memory.{Memory}
use Rattle.word_spec.specs.State.{State}
use Rattle.bilv_spec.proofs.PointsInGraph.{of_map}
use Rattle.std.specs.Global.{Vec}
use Rattle.word_spec.specs.Words.{add}
use Rattle.machine_spec.specs.Machine.{is_place}
use Rattle.machine_spec.specs.Bil.{Empty}
use Rattle.bilv_spec.specs.Points.{line_price, bytes_loaded}
use Rattle.bil_ast.specs.declared.statements.Stmt.{Stmt}
use Rattle.bil_ast.specs.Views.{statements}
use Rattle.bil_terms.specs.declared.left.Left.{Left}
use Rattle.bil_terms.specs.declared.stored.Stored.{Stored}
use Rattle.bil_terms.specs.Left.{IsLeft}
use Rattle.term_spec.specs.Terms.{TermReading, InRange, TermNode, ConstantNode, HasWidth, term_word}
use Rattle.walk_spec.specs.Unrolled.{state_at}
use Rattle.walk_spec.specs.Unrolling.{IsSized}
use Rattle.walk_spec.specs.Sweep.{Held, held_if}
use Rattle.term_spec.specs.Passive.{Denotes, Tells}
use Rattle.walk_spec.specs.Prices.{line_steps}
use Rattle.frame_spec.specs.Frames.{Content, Contract, content_at}
use Rattle.frame_spec.specs.FramePoints.{Anchor}
use Rattle.frame_spec.specs.FrameQuestions.{Reading, IsReading}
use Rattle.frame_spec.specs.FrameWalk as frames
use Rattle.frame_spec.specs.FrameWalk.{Check, UnrolledProgram, UnrolledPoint, PointExit, Action, Executes, Arrives, StepsOver, Gift, Leaving, Walk, first_aim, gives_of, left_by, next_state, point_at, stored_by, sweep_on, walk_from, walk_to}
use Rattle.frame_spec.specs.FrameUnrolling.{CanBeTerms, IsRunnable, own_of}
use Rattle.low_memory.specs.LowWalks.{low_content}
use Rattle.low_memory.proofs.Walks.{sweeps_given}
use Rattle.frame_laws.specs.FramePrices.{variables_of}
use Rattle.frame_terms.specs.PassiveFrames.{IsNamedBelow, IsWalkable, inputs_of, part_reading}
use Rattle.frame_terms.proofs.FrameReadings.{part_range}
use Rattle.term_dag.specs.declared.nodes.Term.{Term}
use Rattle.term_dag.specs.Made.{Grew, IsInterned}
use Rattle.term_dag.proofs.Growth.{grew_more, grew_none, inputs_none, inputs_more, interned_grew, interned_inputs}
use Rattle.question_form.specs.declared.unrolled.Code.{Code}
use Rattle.question_form.specs.declared.unrolled.Edge.{Edge}
use Rattle.question_form.specs.declared.unrolled.Unrolled.{Unrolled}
use Rattle.question_form.specs.declared.unrolled.Deed.{Deed}
use Rattle.question_form.specs.declared.unrolled.Deed.TheVariants.{Arrival, Row}
use Rattle.question_form.specs.Forms.{AreRootsFormed, IsFormed}
use Rattle.program_points.specs.Tables.{stack_at}
use Rattle.question_form.specs.FrameViews.{action_of, exits_of, list_of, own_contract, row_exits, frame_unrolled_of}
use Rattle.term_names.specs.declared.names.Names.{Names}
use Rattle.term_names.specs.Views.{AreFor, form_of, names_of}
use Rattle.term_names.specs.Chosen.{HaveSameForm, at_entry}
use Rattle.note_terms.specs.declared.Now.{Now}
use Rattle.note_terms.proofs.Valued.{range_length}
use Rattle.passify.specs.declared.sweep.Sweep.{Sweep}
use Rattle.passify.specs.Bits.{Makes}
use Rattle.passify.specs.Sweeps.{AreWell, AreTermsOf, Steps, Hands, HasEvent, ShowsAt, term_at}
use Rattle.passify.specs.Exits.{IsPending}
use Rattle.passify.specs.Plain.{carried, held_for}
use Rattle.passify.specs.Situations.{ChecksTried, Situation, LinesTried, IsThere, goes, goes_checks}
use Rattle.passify.specs.Likes.{IsLike}
use Rattle.passify.specs.declared.spans.Span.{Span}
use Rattle.passify.specs.Spans.{AreOwn, IsRefused, bytes_of, is_own, span_of}
use Rattle.passify.specs.Handled.{IsHandled, IsSweepOf, point_gates, point_loaded, point_joins, point_nodes}
use Rattle.passify.specs.Rows.{IsGivenAt, IsLeaving, IsRowTried, own_code, own_checks, own_edges, own_lines, own_point, framed, situation_at}
use Rattle.passify.proofs.Kept.{word_keeps, denotes_keep, names_keep, well_keeps}
use Rattle.passify.proofs.Tried.{bit_true}
use Rattle.passify.proofs.Followed.{ended, lines_steps}
use Rattle.passify.proofs.Lines.{at_point, steps_on}
use Rattle.passify.proofs.Plained.{hand_plain, if_plain}
use Rattle.passify.proofs.Counted.{AreSized, ArePaid, arrival_loaded, arrival_nodes, arrival_paid, own_exits, row_paid, spans_few}
use Rattle.passify.proofs.Outside.{own_keep, spans_keep}
use Rattle.passify.proofs.Rowed.{row_led}
use Rattle.passify.proofs.Quit.{pending_keep, pending_start, pending_end}
use Rattle.passify.proofs.Pushed.{other_default}
use Rattle.passify.proofs.Standing.{framed_is, framed_length, point_terms, one_out, edges_later, link_for, link_word, row_edges, there}

-- what a row does
pub row_does : (u : Unrolled) (place : ℕ) (list : Vec Stmt) → (own_point u place).deed ≡ Row → (own_code u place).list ≡ Some list →
    (framed u place).does ≡ Executes (statements list.items)
row_does u place list row code =
    ap (λ (d : Deed). action_of u d (own_code u place).list (stack_at u.frames.items (own_point u place).stack)) row ∙ ap list_of code

-- nothing, where there is none
none_does : (u : Unrolled) (place : ℕ) → (own_point u place).deed ≡ Row → (own_code u place).list ≡ None → (framed u place).does ≡ Executes Empty
none_does u place row none =
    ap (λ (d : Deed). action_of u d (own_code u place).list (stack_at u.frames.items (own_point u place).stack)) row ∙ ap list_of none

-- the size of a state's terms
pub sized_for : (u : UnrolledProgram) (a b c : Names) → IsSized (inputs_of u) → AreFor (inputs_of u) a → HaveSameForm a b → HaveSameForm b c →
    AreSized (variables_of u) c
sized_for u a b c s f h k =
    let e : length u.registers ≡ length a.registers.items = ap (λ (l : List ℕ). length l) f.registers ∙ range_length a.first (length a.registers.items) in
    let r : length u.registers ≡ length c.registers.items = e ∙ h.registers ∙ k.registers in
    let g : u.flags ≡ length c.flags.items = f.flags ∙ h.flags ∙ k.flags in
    let n = s.enough in let m = s.registers in let o = s.flags in
    record { bits = omega (arith, r, g, m, o); terms = omega (arith, r, g); enough = omega (arith, n); few = omega (arith, m, o) }

-- a place of which nothing is tried
pub row_none : (u : Unrolled) (place : ℕ) (n : Names) (ns : List TermNode) (s : Sweep) (rest : ℕ) → AreWell ns s → HasWidth ns 1 rest →
    (own_point u place).deed ≡ Row → (own_code u place).list ≡ None →
    ArePaid u place 0 0 0 0 0 → IsRowTried u place n ns ns s s rest rest
row_none u place n ns s rest w wr row none paid = record {
  gates = 0;
  loads = 0;
  stores = 0;
  joins = 0;
  nodes = 0;
  steps = record {
    grew = grew_none ns;
    inputs = inputs_none ns (IsNamedBelow (frame_unrolled_of u) u.heads 0);
    well = w;
    like = record { entry = refl; pc = refl; at = refl; places = refl; steps = refl; own = refl };
  };
  few_gates = paid.few_gates;
  few_loads = paid.few_loads;
  few_stores = paid.few_stores;
  few_joins = paid.few_joins;
  few_nodes = paid.few_nodes;
  bit = wr;
  tries = λ x r entry en given c is den before after p.
      subst (λ (o : Option (Vec Stmt)). IsPending ns s (suc place) x rest before after
      (goes (situation_at (frame_unrolled_of u) (framed u place) entry (x.choice place) given c)
      (row_exits u (own_code u place).fetchable o (own_edges u place)) before)) none
      (subst (λ (d : Deed). IsPending ns s (suc place) x rest before after
      (goes (situation_at (frame_unrolled_of u) (framed u place) entry (x.choice place) given c)
      (exits_of u d (own_code u place) (own_edges u place)) before)) row p);
}

-- a place of the program has a bit
pub place_met : (u : Unrolled) (s : Sweep) (i : ℕ) → IsSweepOf u s → i < length u.points.items → i < length s.met.items
place_met u s i of h = let e = of.places in omega (arith, e, h)

-- the bit that is read there is its own
pub met_at : (s : Sweep) (i : ℕ) (t : Term) → i < length s.met.items → t ≡ get_or s.met.items i t → t.0 ≡ term_at s.met.items i
met_at s i t h e = ap (λ (z : Term). z.0) (e ∙ other_default s.met.items i t (record { 0 = 0 }) h)

-- where the point goes on, by its own code
pub gone_at : (u : Unrolled) (place : ℕ) (c d : List TermNode) (to jumped target : ℕ) (k : Code) → k ≡ own_code u place →
    Makes c d 32 3 32 to (λ x. (j : Bool) → Tells c x jumped j → term_word x d to ≡ (if j then term_word x c target else add 32 k.at k.length)) →
    Makes c d 32 3 32 to (λ x. (j : Bool) → Tells c x jumped j → term_word x d to ≡ (if j then term_word x c target else add 32 (own_code u place).at
    (own_code u place).length))
gone_at u place c d to jumped target k e m =
    subst (λ (q : Code). Makes c d 32 3 32 to (λ x. (j : Bool) → Tells c x jumped j →
    term_word x d to ≡ (if j then term_word x c target else add 32 q.at q.length))) e m

mapped_bytes : (xs : List Stored) → bytes_of (map span_of xs) ≡ sum_by (λ t. t.bytes) xs
mapped_bytes [] = refl
mapped_bytes (t ∷ xs) =
    let a = sum_by-cons (λ (z : Span). z.bytes) (span_of t) (map span_of xs) in
    let b = sum_by-cons (λ (z : Stored). z.bytes) t xs in
    let c = mapped_bytes xs in omega (arith, a, b, c)

-- what may be written stays so
pub own_keeps : (u : Unrolled) (old new : List TermNode) (s z : Sweep) {g l st j n : ℕ} → AreOwn u old s → Grew old new g l st j n → z.own ≡ s.own → z.at ≡ s.at →
    AreOwn u new z
own_keeps u old new s z {g} {l} {st} {j} {n} k grew same at = subst (λ (i : ℕ). AreOwn u new (record z { at = i })) (sym at)
    (subst (λ (o : Vec Span). AreOwn u new (record z { at = s.at; own = o })) (sym same) (record {
      each = spans_keep old new g l st j n s.own.items grew k.each;
      count = k.count;
      written = λ x r. own_keep old new g l st j n x s.own.items grew k.each ∙ k.written x r;
    }))

-- also behind the assert lines of a point
pub own_on : (u : Unrolled) (a b c : List TermNode) (s s1 : Sweep) (v pc : ℕ) {g l st j n : ℕ} → AreOwn u a s → IsInterned a b (ConstantNode 32 v) pc →
    Steps b c s s1 g l st j n (λ m. ⊥) → AreOwn u c s1
own_on u a b c s s1 v pc k m t =
    own_keeps u b c s s1 (own_keeps u a b s s k (interned_grew a b (ConstantNode 32 v) pc m) refl refl) t.grew t.like.own t.like.at

-- the address of a point stays a term
pub pc_at : (u : Unrolled) (place : ℕ) (a b c : List TermNode) (v pc : ℕ) {g l st j n : ℕ} → IsInterned a b (ConstantNode 32 v) pc →
    v ≡ (own_code u place).at → Grew b c g l st j n → (x : TermReading) → term_word x c pc ≡ (framed u place).point.at
pc_at u place a b c v pc m e grew x = word_keeps grew x pc m.within ∙ ap (λ z. z.word) (m.value x) ∙ e

-- a row of a contract's frame that stores has kept bytes
kept_by : (u : Unrolled) (place : ℕ) (list : Vec Stmt) → IsWalkable (frame_unrolled_of u) → place < length u.points.items →
    (framed u place).does ≡ Executes (statements list.items) → 1 ≤ is_own (own_contract u) → 1 ≤ (framed u place).stores →
    1 ≤ length (frame_unrolled_of u).kept
kept_by u place list walkable within does owned some = by (own_contract u) refl owned
  where
    by : (o : Option Contract) → own_contract u ≡ o → 1 ≤ is_own o → 1 ≤ length (frame_unrolled_of u).kept
    by None e l = absurd (omega (arith, l))
    by (Some x) e l =
        let at = framed_is u place within in
        walkable.kept_stores (record { gives = x.gives; writes = x.writes; registers = x.registers; flags = x.flags }) (ap own_of e) place (statements list.items)
        (let c = framed_length u u.points.items in omega (arith, c, within)) (ap (λ (q : UnrolledPoint). q.does) at ∙ does)
        (subst (λ (q : UnrolledPoint). 1 ≤ q.stores) (sym at) some)

-- What is made of a row: its list, its bits and its exits.
pub record RowMade (u : Unrolled) (place : ℕ) (n : Names) (a b c d e f : List TermNode) (s z : Sweep) (rest last : ℕ) (list : Vec Stmt) (items : List Stmt)
    (l : Left)
    (stored : List Span) (wrote odd : ℕ) (next : Now) (to link : ℕ) (edges : List Edge) : Type 0 where
  pub walkable : IsWalkable (frame_unrolled_of u)
  pub formed : IsFormed u
  pub within : place < length u.points.items
  pub of : IsSweepOf u s
  pub well : AreWell a s
  pub names : AreTermsOf s.entry a n
  pub rest_bit : HasWidth a 1 rest
  pub roots : AreRootsFormed u
  pub row : (own_point u place).deed ≡ Row
  pub code : (own_code u place).list ≡ Some list
  pub items_are : items ≡ list.items
  pub stored_are : stored ≡ map span_of l.stored.items
  pub own : AreOwn u a s
  pub edges_are : edges ≡ own_edges u place
  pub left : IsLeft a b place n (statements items) l
  pub kept : IsRefused u b c stored s.own.items wrote
  pub gone : Makes c d 32 3 32 to (λ x. (j : Bool) → Tells c x l.jumped.0 j →
      term_word x d to ≡ (if j then term_word x c l.target.0 else add 32 (own_code u place).at (own_code u place).length))
  pub off : Makes d e 2 5 1 odd (λ x. Tells e x odd (not (is_place u.narrow (term_word x d to))))
  pub leaving : IsLeaving u e f s z rest last l.raised.0 wrote odd next l.jumped.0 link edges
  pub next_names : next.names.now ≡ l.names
  pub next_pc : next.pc.0 ≡ to
  pub link_is : link ≡ slice_index (names_of s.entry).registers (u.link - s.entry.first)

-- so the row is tried
pub row_from : (u : Unrolled) (place : ℕ) (n : Names) (a b c d e f : List TermNode) (s z : Sweep) (rest last : ℕ) (list : Vec Stmt) (items : List Stmt)
    (l : Left)
    (stored : List Span) (wrote odd : ℕ) (next : Now) (to link : ℕ) (edges : List Edge) →
    RowMade u place n a b c d e f s z rest last list items l stored wrote odd next to link edges → IsRowTried u place n a f s z rest last
row_from u place n a b c d e f s z rest last list items l stored wrote odd next to link edges k =
    let m1 : IsLeft a b place n (statements list.items) l = subst (λ (q : List Stmt). IsLeft a b place n (statements q) l) k.items_are k.left in
    let m2 : IsRefused u b c (map span_of l.stored.items) s.own.items wrote = subst
    (λ (q : List Span). IsRefused u b c q s.own.items wrote) k.stored_are k.kept in
    let v : IsLeaving u e f s z rest last l.raised.0 wrote odd next l.jumped.0 link (own_edges u place) =
    subst (λ (q : List Edge). IsLeaving u e f s z rest last l.raised.0 wrote odd next l.jumped.0 link q) k.edges_are k.leaving in
    let runs : IsRunnable (frame_unrolled_of u) (framed u place) (statements list.items) =
    subst (λ (q : Action). CanBeTerms (frame_unrolled_of u) (framed u place) q) (row_does u place list k.row k.code)
    (point_terms u place k.walkable k.formed k.within) in
    let sized : AreSized (variables_of (frame_unrolled_of u)) next.names.now =
    subst (λ (m : Names). AreSized (variables_of (frame_unrolled_of u)) m) (sym k.next_names)
    (sized_for (frame_unrolled_of u) s.entry n l.names k.walkable.sized k.of.form k.names.same m1.form) in
    let few = spans_few (map span_of l.stored.items) (λ t h. (let q = of_map span_of l.stored.items t h in
    subst (λ (y : Span). 1 ≤ y.bytes) q.2 (m1.stores q.0 q.1).some)) in
    let bytes = m1.bytes in
    let summed = mapped_bytes l.stored.items in
    let inside = there u place k.walkable k.formed k.within in
    let framed_at = framed_is u place k.within in
    let well : AreWell e s = well_keeps k.off.grew s k.off.typed
    (well_keeps k.gone.grew s k.gone.typed (well_keeps m2.grew s m2.typed (well_keeps m1.grew s m1.typed k.well))) in
    row_led u place n a b c d e f s z rest last list l wrote odd next to link k.well k.rest_bit k.row k.code
    (edges_later u place k.walkable k.formed k.within (row_edges u place k.walkable k.formed k.within k.row list k.code)) m1
    (own_keeps u a b s s k.own m1.grew refl refl) m2 k.gone
    k.off v k.next_names k.next_pc
    (λ draws. (inside, subst (λ (q : UnrolledPoint). q.draws ≡ true) (sym framed_at) draws))
    (λ x r. ap (λ (i : ℕ). term_word x e i) k.link_is ∙ link_word e s well u.link (link_for u s k.walkable k.of) x r) runs.draws
    (row_paid u place k.row list k.code next.names.now (map span_of l.stored.items) (length s.own.items) sized
    (one_out u place k.walkable k.formed k.within)
    few (omega (arith, summed, bytes)) k.own.count
    (λ owned some. kept_by u place list k.walkable k.within (row_does u place list k.row k.code) owned some)
    runs.weight runs.loads runs.byte_stores)

-- where there is no row, the price of the point pays for it
pub none_priced : (u : Unrolled) (place : ℕ) → (own_point u place).deed ≡ Row → (own_code u place).list ≡ None →
    CanBeTerms (frame_unrolled_of u) (framed u place) (framed u place).does →
    64 ≤ (framed u place).row
none_priced u place row none t =
    let runs : IsRunnable (frame_unrolled_of u) (framed u place) Empty = subst
    (λ (q : Action). CanBeTerms (frame_unrolled_of u) (framed u place) q) (none_does u place row none) t in
    let h = runs.weight in omega (arith, h)

-- what is given, with the memory of a state above what machines see
abbrev clipped : Content → Content → Content
clipped g c = record { regs = g.regs; flags = g.flags; mem = λ a. if nat_lt a 4294967296 then g.mem a else c.mem a }

low_memory : (a m n : ℕ) → a < 2 ^ 32 → (if nat_lt a 4294967296 then m else n) ≡ m
low_memory a m n l = grind (arith, nat_tests)

high_memory : (a m n : ℕ) → 2 ^ 32 ≤ a → (if nat_lt a 4294967296 then m else n) ≡ n
high_memory a m n l = grind (arith, nat_tests)

abbrev with_memory : Content → Memory → Content
with_memory c m = record { regs = c.regs; flags = c.flags; mem = m }

clipped_low : (g c : Content) → low_content (clipped g c) ≡ low_content g
clipped_low g c = ap (λ (m : Memory). with_memory g m) (fun_ext (λ a. low_memory (a % 2 ^ 32) (g.mem (a % 2 ^ 32)) (c.mem (a % 2 ^ 32)) (omega arith)))

-- where no contract step is made nothing hangs on what is given
left_same : (f : UnrolledProgram) (q : UnrolledPoint) (choice : ℕ) (g h c : Content) (a : Action) → ((y : Gift) → a ≡ StepsOver y → ⊥) →
    left_by f q choice g c a ≡ left_by f q choice h c a
left_same f q choice g h c (Executes list) none = refl
left_same f q choice g h c Arrives none = refl
left_same f q choice g h c (StepsOver y) none = absurd (none y refl)

walk_same : (f : UnrolledProgram) (entry : State) (q : UnrolledPoint) (choice : ℕ) (g h c : Content) → ((y : Gift) → q.does ≡ StepsOver y → ⊥) →
    walk_from f entry q choice g c ≡ walk_from f entry q choice h c
walk_same f entry q choice g h c none =
    ap (λ (l : Leaving). walk_to f entry (next_state l c) (first_aim f (record {
      entry = entry;
      now = content_at c q.point.at;
      next = next_state l c;
      stored = stored_by f q choice c q.does;
      leaving = l;
      gives = gives_of q.does;
    }) q.exits)) (left_same f q choice g h c q.does none)

-- the assert lines of a place were tried, from what is carried to it
module _ (u : Unrolled) (place : ℕ) (n : Names) (a b c : List TermNode) (s s1 : Sweep) (met rest v pc : ℕ) (now : Now) (within : place < length u.points.items)
    (of : IsSweepOf u s) (w : AreWell a s) (names : AreTermsOf s.entry a n) (met_is : met ≡ term_at s.met.items place) (here : place < length s.met.items)
    (value : v ≡ (own_code u place).at)
    (m1 : IsInterned a b (ConstantNode 32 v) pc) (same : now.names.now ≡ n) (pc_is : now.pc.0 ≡ pc) (checks : List Check) (are : checks ≡ own_checks u place)
    (tried : ChecksTried b c s s1 met rest u.big now checks []) where
  abbrev f : UnrolledProgram
  f = frame_unrolled_of u

  abbrev anchor : Anchor
  anchor = (point_at f place).point.anchor

  m2 : LinesTried b c s s1 met rest u.big now (λ S. S.now) (own_lines u place) [] (goes_checks (own_checks u place)) (goes_checks [])
  m2 = subst (λ (cs : List Check). ChecksTried b c s s1 met rest u.big now cs []) are tried at_point

  g1 : Grew a b 0 0 0 0 1
  g1 = interned_grew a b (ConstantNode 32 v) pc m1

  met_width : HasWidth a 1 met
  met_width = subst (λ (t : ℕ). HasWidth a 1 t) (sym met_is) (w.bits place here)

  module _ (r : Reading) (reads : IsReading r) (begins : r.state.pc ≡ u.entry) (h : frames.Held)
      (shows : ShowsAt a s (suc place) (part_reading f r) (held_for anchor h))
      (den : h.met place ≡ true → Denotes (form_of n) a (part_reading f r) (names_of n) (carried (h.carried place))) where
    abbrev x : TermReading
    x = part_reading f r

    range : InRange x
    range = part_range f r reads

    abbrev H : Held
    H = held_for anchor h

    abbrev given : Content
    given = clipped (r.given (point_at f place).point) (h.carried place)

    is_given : IsGivenAt x place given (h.carried place)
    is_given = record {
      regs = refl;
      flags = refl;
      low = λ a l. low_memory a ((r.given (point_at f place).point).mem a) ((h.carried place).mem a) l;
      high = λ a l. high_memory a ((r.given (point_at f place).point).mem a) ((h.carried place).mem a) l;
    }

    abbrev S : Situation
    S = situation_at f (framed u place) r.state (x.choice place) given (h.carried place)

    abbrev go : Held
    go = goes S (framed u place).exits H

    tells_met : Tells a x met (h.met place)
    tells_met = subst (λ (t : ℕ). Tells a x t (h.met place)) (sym met_is) (shows.mets place here)

    is_met : term_word x b met ≡ 1 → h.met place ≡ true
    is_met k = bit_true (h.met place) (sym tells_met ∙ sym (word_keeps g1 x met met_width.0) ∙ k)

    entry_is : r.state ≡ state_at (at_entry x) s.at
    entry_is = ap (state_at (at_entry x)) (begins ∙ sym of.at)

    den_b : h.met place ≡ true → Denotes (form_of n) b x (names_of n) (carried (h.carried place))
    den_b k = denotes_keep g1 x n (carried (h.carried place)) names.names (den k)

    is_there : term_word x b met ≡ 1 → IsThere b s u.big now (λ T. T.now) x S
    is_there k = record {
      endian = refl;
      entry = entry_is;
      is = record {
        carried = subst (λ (m : Names). Denotes (form_of m) b x (names_of m) (carried (h.carried place))) (sym same) (den_b (is_met k));
        pc = ap (λ (i : ℕ). term_word x b i) pc_is ∙ ap (λ t. t.word) (m1.value x) ∙ value;
      };
    }

    den_c : term_word x c rest ≡ 1 → Denotes (form_of n) c x (names_of n) (carried (h.carried place))
    den_c k = denotes_keep m2.lines.steps.grew x n (carried (h.carried place)) (names_keep g1 n names.names) (den_b (is_met (m2.narrows x range k).0))

    lines_pend : IsPending c s1 (suc place) x rest H (held_if (h.met place) go H)
        (goes S (exits_of u (own_point u place).deed (own_code u place) (own_edges u place)) H)
    lines_pend =
        let p0 = pending_start a s (suc place) x met (h.met place) H go tells_met shows in
        let p1 = subst (λ (xs : List PointExit). IsPending b s (suc place) x met H (held_if (h.met place) go H) (goes S xs H)) (own_exits u place)
        (pending_keep a b 0 0 0 0 1 s (suc place) x met H (held_if (h.met place) go H) go g1 w met_width p0) in
        m2.tries x range (suc place) S is_there H (held_if (h.met place) go H) (exits_of u (own_point u place).deed (own_code u place) (own_edges u place)) p1

  -- what is shown of the point's own exits is shown of the sweep, but for memory that no machine sees
  on_sweep : (nodes : List TermNode) (z : Sweep) (r : Reading) (h : frames.Held) →
      ShowsAt nodes z (suc place) (part_reading f r) (held_if (h.met place) (goes (situation_at f (framed u place) r.state (r.choice (point_at f place).point)
      (clipped (r.given (point_at f place).point) (h.carried place)) (h.carried place)) (framed u place).exits (held_for anchor h)) (held_for anchor h)) →
      (g : frames.Held) × IsLike f g (sweep_on f r place h) × ShowsAt nodes z (suc place) (part_reading f r) (held_for anchor g)
  on_sweep nodes z r h k =
      let Q = point_at f place in
      let G = r.given Q.point in
      let walk = walk_from f r.state Q (r.choice Q.point) (clipped G (h.carried place)) (h.carried place) in (
        frames.held_if (h.met place) (frames.hand f r anchor walk h) h,
        record {
          low = sweeps_given f r place h (clipped G (h.carried place)) (clipped_low G (h.carried place));
          exact = λ none. ap (λ (y : Walk). frames.held_if (h.met place) (frames.hand f r anchor y h) h)
              (walk_same f r.state Q (r.choice Q.point) (clipped G (h.carried place)) G (h.carried place)
              (λ y e. none place y (let c = framed_length u u.points.items in omega (arith, c, within)) e));
        },
        subst (λ (y : Held). ShowsAt nodes z (suc place) (part_reading f r) y)
            (ap (λ (y : Held). held_if (h.met place) y (held_for anchor h)) (hand_plain f r anchor walk h)
            ∙ if_plain anchor (h.met place) (frames.hand f r anchor walk h) h)
            (subst (λ (q : UnrolledPoint). ShowsAt nodes z (suc place) (part_reading f r) (held_if (h.met place) (goes (situation_at f q r.state (r.choice Q.point)
            (clipped G (h.carried place)) (h.carried place)) q.exits (held_for anchor h)) (held_for anchor h))) (sym (framed_is u place within)) k),
      )

  steps1 : Steps a b s s 0 0 0 0 1 (λ m. ⊥)
  steps1 = record {
    grew = g1;
    inputs = interned_inputs a b (ConstantNode 32 v) pc (λ m. ⊥) m1 (λ i. i);
    well = well_keeps g1 s m1.typed w;
    like = record { entry = refl; pc = refl; at = refl; places = refl; steps = refl; own = refl };
  }

  abbrev Drawn : TermNode → Type 0
  Drawn m = IsNamedBelow f u.heads 0 m

  more : (old new : List TermNode) (t y : Sweep) (g l st j k : ℕ) → Steps old new t y g l st j k (λ m. ⊥) → Steps old new t y g l st j k Drawn
  more old new t y g l st j k q = record {
    grew = q.grew;
    inputs = inputs_more old new (λ m. ⊥) Drawn
        (λ m i f. absurd f) q.inputs;
    well = q.well;
    like = q.like;
  }

  steps2 : Steps a c s s1 (0 + sum_by line_price (own_lines u place)) (0 + sum_by bytes_loaded (own_lines u place)) (0 + 0) (0 + 0)
      (1 + 4 * line_steps (own_lines u place)) (λ m. ⊥)
  steps2 = steps_on a b c s s s1 (λ m. ⊥) 0 0 0 0 1 (sum_by line_price (own_lines u place)) (sum_by bytes_loaded (own_lines u place)) 0 0
      (4 * line_steps (own_lines u place))
      steps1 (lines_steps m2.lines)

  -- the steps within what the point may cost
  abbrev InPoint : (new : List TermNode) → Sweep → UnrolledPoint → Type 0
  InPoint new z q =
      Steps a new s z (point_gates f q) (point_loaded f q) q.stores (point_joins q) (point_nodes f q) Drawn

  -- where the segment arrives at a head that is all
  pub arrives : (own_point u place).deed ≡ Arrival → IsHandled u a c s s1 place n
  arrives arrival = record {
    steps = subst (InPoint c s1) (sym (framed_is u place within)) (
        let t = more a c s s1 _ _ _ _ _ steps2 in
        let fg = arrival_paid u place in let fl = arrival_loaded u place in let fn = arrival_nodes u place in
        record {
          grew = grew_more a c _ _ _ _ _ (point_gates f (framed u place)) (point_loaded f (framed u place)) (framed u place).stores
              (point_joins (framed u place)) (point_nodes f (framed u place)) (omega (arith, fg)) (omega (arith, fl)) (omega arith) (omega arith)
              (omega (arith, fn)) t.grew;
          inputs = t.inputs;
          well = t.well;
          like = t.like;
        });
    shows = λ r reads begins h shows den.
        let p = subst (λ (d : Deed). IsPending c s1 (suc place) (part_reading f r) rest (H r reads begins h shows den)
        (held_if (h.met place) (go r reads begins h shows den) (H r reads begins h shows den))
        (goes (S r reads begins h shows den) (exits_of u d (own_code u place) (own_edges u place)) (H r reads begins h shows den))) arrival
        (lines_pend r reads begins h shows den) in
        on_sweep c s1 r h
        (ended c s1 (suc place) (part_reading f r) p.some (H r reads begins h shows den)
        (held_if (h.met place) (go r reads begins h shows den) (H r reads begins h shows den)) p.goes p.shows);
  }

  -- and else the row follows
  module _ (d e : List TermNode) (s2 z : Sweep) (left : ℕ) (m3 : IsRowTried u place n c d s1 s2 rest left)
      (m4 : Steps d e s2 z 1 0 0 0 2 (λ m. ⊥)) (hands : Hands d e s2 z left (λ from x y t. HasEvent y)) where
    steps34 : Steps c e s1 z (m3.gates + 1) (m3.loads + 0) (m3.stores + 0) (m3.joins + 0) (m3.nodes + 2) Drawn
    steps34 = steps_on c d e s1 s2 z Drawn m3.gates m3.loads m3.stores m3.joins m3.nodes 1 0 0 0 2 m3.steps (more d e s2 z 1 0 0 0 2 m4)

    steps_all : InPoint e z (framed u place)
    steps_all =
        let t = steps_on a c e s s1 z Drawn (0 + sum_by line_price (own_lines u place)) (0 + sum_by bytes_loaded (own_lines u place)) (0 + 0) (0 + 0)
        (1 + 4 * line_steps (own_lines u place)) (m3.gates + 1) (m3.loads + 0)
        (m3.stores + 0) (m3.joins + 0) (m3.nodes + 2) (more a c s s1 _ _ _ _ _ steps2) steps34 in
        let fg = m3.few_gates in let fl = m3.few_loads in let fs = m3.few_stores in let fj = m3.few_joins in let fn = m3.few_nodes in
        record {
          grew = grew_more a e _ _ _ _ _ (point_gates f (framed u place)) (point_loaded f (framed u place)) (framed u place).stores
              (point_joins (framed u place)) (point_nodes f (framed u place))
              (omega (arith, fg)) (omega (arith, fl)) (omega (arith, fs)) (omega (arith, fj)) (omega (arith, fn)) t.grew;
          inputs = t.inputs;
          well = t.well;
          like = t.like;
        }

    pub handled : IsHandled u a e s z place n
    handled = record {
      steps = subst (InPoint e z) (sym (framed_is u place within)) steps_all;
      shows = λ r reads begins h shows den.
          let y = part_reading f r in
          let after = held_if (h.met place) (go r reads begins h shows den) (H r reads begins h shows den) in
          let p2 = lines_pend r reads begins h shows den in
          let p3 = m3.tries y (range r reads begins h shows den) r.state
          (entry_is r reads begins h shows den ∙ ap (state_at (at_entry y)) (sym m2.lines.steps.like.at)) (given r reads begins h shows den) (h.carried place)
          (is_given r reads begins h shows den) (den_c r reads begins h shows den) (H r reads begins h shows den) after p2 in
          on_sweep e z r h (pending_end d e s2 z (suc place) y left (H r reads begins h shows den) after (S r reads begins h shows den)
          (range r reads begins h shows den) hands p3);
    }
