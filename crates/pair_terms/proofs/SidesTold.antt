-- What the terms of a side say, from those of the entry condition, the links and the exit.
use Rattle.std.proofs.Common.{◌≡◌, ◌⊎◌, inl, inr, ℕ, zero, suc, ◌+◌, ◌*◌, ◌<◌, ◌≤◌, Bool, true, false, ◌&&◌, bit_and, List, [], ◌∷◌, ◌++◌, length, refl, ap, sym, subst, ◌∙◌, arith, Contains}
use Rattle.std.specs.Prelude.{map, filter, sum_by, cond, slice_index_or, ◌||◌, if◌then◌else◌}
use Rattle.std.specs.List.{list_any}
use Rattle.std.proofs.lemmas.Bool.{false≢true, eqb-true}
use Rattle.std.proofs.lemmas.List.Sums.{sum_by-append}
use Rattle.word_spec.specs.Words.{bit}
use Rattle.word_spec.specs.State.{State}
use Rattle.bilv_spec.specs.Points.{line_price, bytes_loaded}
use Rattle.bilv_spec.specs.Questions.{Reading, IsReading}
use Rattle.call_spec.specs.Calls.{PairQuestion, PairOfStates, DifferenceOfExits}
use Rattle.term_spec.specs.Terms.{TermNode, term_word, term_gates, term_loads}
use Rattle.walk_spec.specs.Unrolled.{Carried, state_at, PointExit, FalseAssert, Always, Raising, WritingKept, Unaligned, Along, OnTo, Outward, OverLast, ToEvent, UnrolledPoint, UnrolledProgram, no_point, goes_out, ExitsLeadLater, LeadsLater, walk, WalkIsAt}
use Rattle.walk_spec.specs.Unrolling.{IsWalkable}
use Rattle.walk_spec.proofs.WalkOrder.{Inside, inside}
use Rattle.term_spec.specs.WalkQuestions.{MeetsLines, IsNamedBelow, AreNamedBelow, term_reading}
use Rattle.walk_spec.specs.Prices.{action_size, point_price, point_loads, point_bound, line_size, line_steps, list_nodes, variables_of}
use Rattle.term_spec.proofs.PriceSums.{parts_add_up}
use Rattle.term_dag.specs.Nodes.{IsInput}
use Rattle.term_dag.proofs.Growth.{grew_width}
use Rattle.term_names.specs.Chosen.{at_entry}
use Rattle.term_names.proofs.OfForm.{named_all, reading_in_range}
use Rattle.note_terms.proofs.Steps.{bits_and}
use Rattle.weakest_pre.specs.Entry.{meets, IsEntryBit}
use Rattle.weakest_pre.proofs.Moved.{copied_named}
use Rattle.weakest_pre.proofs.Told.{both_true, true_both, bit_one, lines_met, entry_tells, entry_named}
use Rattle.pair_spec.specs.Links.{Link}
use Rattle.pair_spec.specs.Pairs.{same_bytes}
use Rattle.pair_spec.specs.PairTerms.{HaveWords, HaveWidths, SideEnds, WalkLeaves, all_exit_words, exit_aimed, exit_place, exits_of, point_aimed, with_exit_place, TellsSide}
use Rattle.pair_spec.proofs.ExitPlaces.{exit_place_costs}
use Rattle.pair_spec.proofs.ExitInputs.{exit_place_reads, exit_place_terms}
use Rattle.pair_terms.specs.Places.{LeavesByLink}
use Rattle.pair_terms.specs.Exits.{last_of, last_state, leaves_last, ensured_lines, leads_to, is_led_to, where_led, AreWithinExit, TellsLeaving}
use Rattle.pair_terms.specs.Sides.{IsPlacedAs, AreEntryTerms, AreTied, AreTiedBy}
use Rattle.pair_terms.proofs.WordTerms.{widths_stay, words_stay}
use Rattle.pair_terms.proofs.Leaving.{places, last_is, leaves_last_by, by_leaves_last}

-- ---- what the exit's place costs

sum_cons : (f : UnrolledPoint → ℕ) (q : UnrolledPoint) (ps : List UnrolledPoint) → sum_by f (q ∷ ps) ≡ f q + sum_by f ps
sum_cons f q ps = sum_by-append f (q ∷ []) ps ∙ (let e : 0 + f q + sum_by f ps ≡ f q + sum_by f ps = omega arith in e)

-- sums over points that are aimed at a place
sum_aimed : (f : UnrolledPoint → ℕ) (n : ℕ) (ps : List UnrolledPoint) → ((q : UnrolledPoint) → f (point_aimed n q) ≡ f q) →
    sum_by f (map (point_aimed n) ps) ≡ sum_by f ps
sum_aimed f n [] same = refl
sum_aimed f n (q ∷ ps) same =
    let a = sum_cons f (point_aimed n q) (map (point_aimed n) ps) in
    let b = sum_cons f q ps in
    let e = sum_aimed f n ps same in
    let h = same q in omega (arith, a, b, e, h)

sum_placed : (f : UnrolledPoint → ℕ) (u : UnrolledProgram) → ((q : UnrolledPoint) → f (point_aimed (length u.points) q) ≡ f q) →
    sum_by f (with_exit_place u).points ≡ sum_by f u.points + f exit_place
sum_placed f u same =
    sum_by-append f (map (point_aimed (length u.points)) u.points) (exit_place ∷ [])
    ∙ (let e = sum_aimed f (length u.points) u.points same in omega arith)

-- ---- where an exit leads to the last place, a point may exit

-- an exit that leads to a point leads to one of the first places
abbrev LeadsBelow : ℕ → PointExit → Type 0
LeadsBelow n (Along falls jumps to (OnTo m)) = m < n
LeadsBelow n x = Unit {0}

leads_below : (u : UnrolledProgram) (i : ℕ) (x : PointExit) → LeadsLater u i x → LeadsBelow (length u.points) x
leads_below u i (FalseAssert line e) l = tt
leads_below u i (Always e) l = tt
leads_below u i Raising l = tt
leads_below u i WritingKept l = tt
leads_below u i Unaligned l = tt
leads_below u i (Along f j to Outward) l = tt
leads_below u i (Along f j to (OnTo m)) l = l.1
leads_below u i (Along f j to OverLast) l = tt
leads_below u i (Along f j to (ToEvent e)) l = tt

leads_out : (n : ℕ) (x : PointExit) → LeadsBelow n x → leads_to n (exit_aimed n x) ≡ true → goes_out x ≡ true
leads_out n (FalseAssert line e) l h = absurd (false≢true h)
leads_out n (Always e) l h = absurd (false≢true h)
leads_out n Raising l h = absurd (false≢true h)
leads_out n WritingKept l h = absurd (false≢true h)
leads_out n Unaligned l h = absurd (false≢true h)
leads_out n (Along f j to Outward) l h = refl
leads_out n (Along f j to (OnTo m)) l h = let e : m ≡ n = eqb-true _ _ h in absurd (omega (arith, e, l))
leads_out n (Along f j to OverLast) l h = absurd (false≢true h)
leads_out n (Along f j to (ToEvent e)) l h = absurd (false≢true h)

either : (a b : Bool) → (a || b) ≡ true → (a ≡ true) ⊎ (b ≡ true)
either true b h = inl refl
either false b h = inr h

or_left : (a b : Bool) → a ≡ true → (a || b) ≡ true
or_left true b h = refl
or_left false b h = absurd (false≢true h)

or_right : (a b : Bool) → b ≡ true → (a || b) ≡ true
or_right true b h = refl
or_right false b h = h

exits_out : (n : ℕ) (xs : List PointExit) → ((x : PointExit) → Contains xs x → LeadsBelow n x) →
    list_any (leads_to n) (map (exit_aimed n) xs) ≡ true → list_any goes_out xs ≡ true
exits_out n [] l h = absurd (false≢true h)
exits_out n (x ∷ xs) l h = elim (either _ _ h) [
  | inl a ↦ or_left _ _ (leads_out n x (l x (0, omega arith, refl)) a)
  | inr b ↦ or_right _ _ (exits_out n xs (λ y c. l y (suc c.0, omega (arith, c.1), c.2)) b)
]

counted : (b : Bool) (q : UnrolledPoint) (rest : List UnrolledPoint) → (b ≡ true) ⊎ (1 ≤ length rest) → 1 ≤ length (cond b (q ∷ rest) rest)
counted true q rest h = omega arith
counted false q rest (inl e) = absurd (false≢true e)
counted false q rest (inr l) = l

led_out : (n : ℕ) (ps : List UnrolledPoint) → ((i : ℕ) (x : PointExit) → i < length ps → Contains (slice_index_or ps i no_point).exits x → LeadsBelow n x) →
    list_any (λ q. list_any (leads_to n) q.exits) (map (point_aimed n) ps ++ exit_place ∷ []) ≡ true → 1 ≤ length (filter (λ q. list_any goes_out q.exits) ps)
led_out n [] l h = absurd (false≢true h)
led_out n (q ∷ ps) l h = counted (list_any goes_out q.exits) q (filter (λ p. list_any goes_out p.exits) ps) (elim (either _ _ h) [
  | inl a ↦ inl (exits_out n q.exits (λ x c. l 0 x (omega arith) c) a)
  | inr b ↦ inr (led_out n ps (λ i x k c. l (suc i) x (omega arith) c) b)
])

times_more : (n cost : ℕ) → 1 ≤ n → cost ≤ n * cost
times_more zero cost l = absurd (omega arith)
times_more (suc n) cost l = let e : suc n * cost ≡ n * cost + cost = grind arith in omega arith

where_within : (u : UnrolledProgram) (cost : ℕ) → ExitsLeadLater u → where_led (with_exit_place u) cost ≤ exits_of u * cost
where_within u cost later = within (is_led_to (with_exit_place u) (last_of (with_exit_place u))) (λ h. led_out (length u.points) u.points
    (λ i x l c. leads_below u i x (later i x l c)) (subst (λ (k : ℕ). is_led_to (with_exit_place u) k ≡ true) (last_is u) h)) where
      within : (b : Bool) → (b ≡ true → 1 ≤ exits_of u) → (if b then cost else 0) ≤ exits_of u * cost
      within false f = omega arith
      within true f = let l = f refl in times_more (exits_of u) cost l

-- ---- the rooms of a side

module _ (u : UnrolledProgram) (later : ExitsLeadLater u) (links : List Link) where
  abbrev w : UnrolledProgram
  w = with_exit_place u

  rows : sum_by (λ q. q.row) w.points ≡ sum_by (λ q. q.row) u.points + 64
  rows = sum_placed (λ q. q.row) u (λ q. refl)

  point_reads : sum_by (λ q. q.loads) w.points ≡ sum_by (λ q. q.loads) u.points + 0
  point_reads = sum_placed (λ q. q.loads) u (λ q. refl)

  lists : list_nodes w ≡ list_nodes u + 0
  lists = sum_placed (λ q. action_size q.does) u (λ q. refl)

  gates_room : (gates : ℕ) → gates ≤ point_price w + where_led w (sum_by line_price (ensured_lines w)) → gates ≤ point_price u + 64
  gates_room gates h =
      let costs = exit_place_costs u in
      let lines = costs.4 line_price in
      let led = where_within u (sum_by line_price (ensured_lines w)) later in
      let stores = ap (λ (s : ℕ). 128 * (s * length u.kept)) costs.0 in
      omega (arith, rows, costs.1, lines, led, stores)

  loads_room : (loads : ℕ) → loads ≤ point_loads w + where_led w (sum_by bytes_loaded (ensured_lines w) + same_bytes links) →
      loads ≤ point_loads u + same_bytes links * exits_of u
  loads_room loads h =
      let costs = exit_place_costs u in
      let lines = costs.4 bytes_loaded in
      let led = where_within u (sum_by bytes_loaded (ensured_lines w) + same_bytes links) later in
      let both : exits_of u * (sum_by bytes_loaded (ensured_lines w) + same_bytes links)
      ≡ exits_of u * sum_by bytes_loaded (ensured_lines w) + same_bytes links * exits_of u = grind arith in
      omega (arith, point_reads, lines, led, both)

  nodes_room : (nodes more : ℕ) → nodes ≤ point_bound w + where_led w (4 * line_steps (ensured_lines w)) + more → nodes ≤ point_bound u + 64 + more
  nodes_room nodes more h =
      let costs = exit_place_costs u in
      let lines = costs.4 (λ e. line_size e + 4) in
      let led = where_within u (4 * line_steps (ensured_lines w)) later in
      let four : exits_of u * (4 * line_steps (ensured_lines w)) ≡ 4 * (exits_of u * line_steps (ensured_lines w)) = grind arith in
      let stores = ap (λ (s : ℕ). 4 * (s * length u.kept)) costs.0 in
      let edges = ap (λ (e : ℕ). variables_of u * e) costs.1 in
      omega (arith, lists, places u, lines, led, four, stores, edges, h)

  -- ---- what its terms say

  module _ (walkable : IsWalkable w) (some : 0 < length u.points) (by_link : LeavesByLink u) (second : Bool) (a b : List TermNode) (entry : ℕ)
      (entries : List ℕ) (h : IsEntryBit w [] a entry) (e : AreEntryTerms w second links a b entries) where
    -- nodes name the same, and have the same values
    named_same : (nodes : List TermNode) → AreNamedBelow w 0 nodes → AreNamedBelow u 0 nodes
    named_same nodes n = ((exit_place_reads u).4 0 nodes).0 n

    word_same : (nodes : List TermNode) → AreNamedBelow w 0 nodes → (r : Reading) (t : ℕ) → t < length nodes →
        term_word (term_reading u r) nodes t ≡ term_word (term_reading w r) nodes t
    word_same nodes named r t l = ap (λ v. v.word) (sym (exit_place_terms u r nodes (named_same nodes named) t l))

    words_same : (nodes : List TermNode) → AreNamedBelow w 0 nodes → (r : Reading) (ts ws : List ℕ) → HaveWidths nodes ts ws →
        map (term_word (term_reading u r) nodes) ts ≡ map (term_word (term_reading w r) nodes) ts
    words_same nodes named r [] ws k = refl
    words_same nodes named r (t ∷ ts) [] k = absurd k
    words_same nodes named r (t ∷ ts) (v ∷ ws) k = (λ i. word_same nodes named r t k.0.0 i ∷ words_same nodes named r ts ws k.1 i)

    entries_input : (m : TermNode) → Contains b m → IsInput m → IsNamedBelow w 0 m
    entries_input m c i = elim (e.inputs m c i) [ inl old ↦ entry_named w a entry h m old i | inr named ↦ named ]

    entries_named : AreNamedBelow w 0 b
    entries_named m c = named_all w m (entries_input m c)

    entry_bit : (r : Reading) → IsReading r → r.state.pc ≡ u.entry → term_word (term_reading w r) b entry ≡ bit (meets u r.state)
    entry_bit r k at = ap (λ v. v.word) (e.grew.keeps (term_reading w r) entry h.width.0) ∙ entry_tells w [] a entry h r k at

    pair_side : (exits : List ℕ) → TellsSide u second links PairOfStates (record { nodes = b; root = entry; entries = entries; exits = exits })
    pair_side exits =
        let parts = parts_add_up u in
        let grew = h.grew in
        let more = e.grew in
        record {
          terms = record {
            typed = e.typed;
            named = named_same b entries_named;
            gates = omega (arith, grew.gates, more.gates, parts.0);
            loads = omega (arith, grew.loads, more.loads, parts.1);
            stores = omega (arith, grew.stores, more.stores);
            joins = omega (arith, grew.joins, more.joins);
            few = omega (arith, grew.few, more.few, parts.2);
          };
          root = grew_width a b _ _ _ _ _ 1 entry more h.width;
          means = λ r k at.
              let word = word_same b entries_named r entry (grew_width a b _ _ _ _ _ 1 entry more h.width).0 ∙ entry_bit r k at in
              ((λ q. ((lines_met u r.state).0 (bit_one _ (sym word ∙ q)), tt)), (λ q. word ∙ ap bit ((lines_met u r.state).1 q.0)));
          entry_widths = e.widths;
          exit_widths = λ q. cc;
          entry_values = λ r k at. words_same b entries_named r entries _ e.widths ∙ e.values r k;
          exit_values = λ q. cc;
        }

    module _ (source c : List TermNode) (met : ℕ) (words : List ℕ) (t : ℕ) (exits : List ℕ) (x : AreWithinExit w links source)
        (v : TellsLeaving w second links source met words) (tied : AreTied w source b c entry met words t exits) where
      all_named : AreNamedBelow w 0 c
      all_named m k = named_all w m (λ i. elim (tied.inputs m k i) [ inl old ↦ entries_input m old i | inr copied ↦ copied_named w 0 source m copied x.named ])

      stands : (r : Reading) (k i : ℕ) (out : Carried) → walk u r k ≡ WalkIsAt i out → i < length u.points
      stands r k i out at = subst (Inside u some later r) at (inside u some later r k)

      leaves : (r : Reading) → leaves_last w r ≡ true → SideEnds u r DifferenceOfExits
      leaves r = leaves_last_by u r some later by_link (let p = places u in omega arith) walkable.later (stands r)

      by_leaves : (r : Reading) (out : Carried) (pc : ℕ) → WalkLeaves u r out pc → (leaves_last w r ≡ true) × (last_state w r ≡ state_at out pc)
      by_leaves r = by_leaves_last u r some later by_link (let p = places u in omega arith) walkable.later (stands r)

      root_word : (r : Reading) → IsReading r → r.state.pc ≡ u.entry → term_word (term_reading u r) c t ≡ bit (meets u r.state && leaves_last w r)
      root_word r k at =
          let y = term_reading w r in
          let same : r.state ≡ state_at (at_entry y) u.entry = ap (λ (p : ℕ). state_at (at_entry y) p) at in
          word_same c all_named r t tied.width.0
          ∙ tied.value y (reading_in_range w r k) (entry_bit r k at ∙ ap (λ (z : State). bit (meets u z)) same)
          ∙ ap (λ (z : ℕ). bit_and z (term_word y source met)) (entry_bit r k at) ∙ ap (bit_and (bit (meets u r.state))) (v.tells r k at)
          ∙ bits_and (meets u r.state) (leaves_last w r)

      exit_words : (r : Reading) (out : Carried) (pc : ℕ) → IsReading r → r.state.pc ≡ u.entry → MeetsLines u r.state → WalkLeaves u r out pc →
          HaveWords (term_reading u r) c exits (map (λ f. f (state_at out pc)) (all_exit_words second links))
      exit_words r out pc k at m l =
          let y = term_reading w r in
          let same : r.state ≡ state_at (at_entry y) u.entry = ap (λ (p : ℕ). state_at (at_entry y) p) at in
          let left = by_leaves r out pc l in
          words_same c all_named r exits _ (tied.widths _ v.widths)
          ∙ tied.words y (reading_in_range w r k) (ap (meets u) (sym same) ∙ (lines_met u r.state).1 m)
          ∙ v.values r k at left.0 ∙ ap (λ (z : State). map (λ f. f z) (all_exit_words second links)) left.1

      difference_side : TellsSide u second links DifferenceOfExits (record { nodes = c; root = t; entries = entries; exits = exits })
      difference_side =
          let parts = parts_add_up u in
          let costs = exit_place_costs u in
          let grew = h.grew in
          let more = e.grew in
          let last = tied.grew in
          let gates = gates_room (term_gates source) x.gates in
          let loads = loads_room (term_loads source) x.loads in
          let nodes = nodes_room (length source) (variables_of u + 4 + length links + 3 * same_bytes links) x.few in
          record {
            terms = record {
              typed = tied.typed;
              named = named_same c all_named;
              gates = omega (arith, grew.gates, more.gates, last.gates, gates, parts.0);
              loads = omega (arith, grew.loads, more.loads, last.loads, loads, parts.1);
              stores = omega (arith, grew.stores, more.stores, last.stores, x.stores, costs.0);
              joins = omega (arith, grew.joins, more.joins, last.joins, x.joins, costs.0, costs.1);
              few = omega (arith, grew.few, more.few, last.few, nodes, parts.2);
            };
            root = tied.width;
            means = λ r k at.
                let word = root_word r k at in (
                  (λ q. let both = both_true _ _ (bit_one _ (sym word ∙ q)) in ((lines_met u r.state).0 both.0, leaves r both.1)),
                  (λ q. word ∙ ap bit (true_both _ _ ((lines_met u r.state).1 q.0) (by_leaves r q.1.0 q.1.1 q.1.2).0)),
                );
            entry_widths = widths_stay b c _ _ _ _ _ last entries _ e.widths;
            exit_widths = λ q. tied.widths _ v.widths;
            entry_values = λ r k at.
                words_same c all_named r entries _ (widths_stay b c _ _ _ _ _ last entries _ e.widths)
                ∙ words_stay b c _ _ _ _ _ last (term_reading w r) entries _ e.widths ∙ e.values r k;
            exit_values = λ q. exit_words;
          }

-- the side, as its question asks
side_by : (u : UnrolledProgram) (links : List Link) (second : Bool) (question : PairQuestion) (source a b c : List TermNode) (entry : ℕ) (entries : List ℕ) (met : ℕ)
    (words : List ℕ) (t : ℕ) (exits : List ℕ) → IsWalkable (with_exit_place u) → IsPlacedAs u (with_exit_place u) →
    IsEntryBit (with_exit_place u) [] a entry → AreEntryTerms (with_exit_place u) second links a b entries → AreWithinExit (with_exit_place u) links source →
    TellsLeaving (with_exit_place u) second links source met words → AreTiedBy question (with_exit_place u) source b c entry met words t exits →
    TellsSide u second links question (record { nodes = c; root = t; entries = entries; exits = exits })
side_by u links second PairOfStates source a b c entry entries met words t exits walkable p h e x v tied =
    subst (λ (nodes : List TermNode). TellsSide u second links PairOfStates (record { nodes = nodes; root = t; entries = entries; exits = exits })) (sym tied.0)
    (subst (λ (z : ℕ). TellsSide u second links PairOfStates (record { nodes = b; root = z; entries = entries; exits = exits })) (sym tied.1)
    (pair_side u p.later links walkable p.some p.by_link second a b entry entries h e exits))
side_by u links second DifferenceOfExits source a b c entry entries met words t exits walkable p h e x v tied =
    difference_side u p.later links walkable p.some p.by_link second a b entry entries h e source c met words t exits x v tied

-- what is said of the program with the exit's place as a program of its own
record AreSideTerms (w : UnrolledProgram) (links : List Link) (second : Bool) (question : PairQuestion) (source a b c : List TermNode) (entry : ℕ)
    (entries : List ℕ) (met : ℕ) (words : List ℕ) (t : ℕ) (exits : List ℕ) : Type 0 where
  walkable : IsWalkable w
  bit : IsEntryBit w [] a entry
  terms : AreEntryTerms w second links a b entries
  within : AreWithinExit w links source
  tells : TellsLeaving w second links source met words
  tied : AreTiedBy question w source b c entry met words t exits

pub side_told : (u w : UnrolledProgram) (links : List Link) (second : Bool) (question : PairQuestion) (source a b c : List TermNode) (entry : ℕ)
    (entries : List ℕ) (met : ℕ) (words : List ℕ) (t : ℕ) (exits : List ℕ) → IsPlacedAs u w → IsWalkable w → IsEntryBit w [] a entry →
    AreEntryTerms w second links a b entries → AreWithinExit w links source → TellsLeaving w second links source met words →
    AreTiedBy question w source b c entry met words t exits →
    TellsSide u second links question (record { nodes = c; root = t; entries = entries; exits = exits })
side_told u w links second question source a b c entry entries met words t exits p walkable h e x v tied =
    let all : AreSideTerms w links second question source a b c entry entries met words t exits =
    record { walkable = walkable; bit = h; terms = e; within = x; tells = v; tied = tied } in
    let k = subst (λ (z : UnrolledProgram). AreSideTerms z links second question source a b c entry entries met words t exits) p.is all in
    side_by u links second question source a b c entry entries met words t exits k.walkable
    (record { is = refl; some = p.some; later = p.later; by_link = p.by_link }) k.bit k.terms k.within k.tells k.tied
