-- A segment begins at a root.
use Rattle.std.proofs.Common.{◌≡◌, ◌≢◌, ℕ, zero, suc, ◌+◌, ◌*◌, ◌<◌, Bool, true, false, ◌==◌, ◌&&◌, ◌||◌, List, [], ◌∷◌, ◌++◌, length, map, drop, take, get_or, refl, ap, sym, ◌∙◌, subst, arith, Contains}
use Rattle.std.specs.Prelude.{if◌then◌else◌, slice_range, sum_by}
use Rattle.std.specs.List.{list_any}
use Rattle.std.proofs.lemmas.Bool.Decides.{nat_tests}
use Rattle.std.proofs.lemmas.List.{length-map, length-set}
use Rattle.std.proofs.lemmas.List.Folds.{list_any-append}
use Rattle.std.proofs.lemmas.List.Sums.{sum_by-append}
use Rattle.word_spec.specs.State.{State}
use Rattle.bilv_spec.specs.Notes.{Expr}
use Rattle.bilv_spec.specs.Points.{line_price, bytes_loaded}
use Rattle.term_spec.specs.Terms.{TermNode, ConstantNode, term_word}
use Rattle.term_spec.specs.Passive.{Denotes, Tells}
use Rattle.walk_spec.specs.Unrolled.{state_at}
use Rattle.walk_spec.specs.Prices.{line_size, line_steps}
use Rattle.frame_spec.specs.Frames.{content_at}
use Rattle.frame_spec.specs.FramePoints.{Anchor, AtEntry}
use Rattle.frame_spec.specs.FrameQuestions.{Reading, IsReading}
use Rattle.frame_spec.specs.FrameWalk.{Root, UnrolledPoint, UnrolledProgram, IsRooted, is_assumed, point_at, root_content}
use Rattle.frame_terms.specs.PassiveFrames.{inputs_of, part_reading}
use Rattle.frame_terms.proofs.FrameReadings.{part_range}
use Rattle.term_dag.specs.declared.nodes.Term.{Term}
use Rattle.term_dag.specs.Made.{Grew, IsInterned}
use Rattle.term_dag.proofs.Growth.{grew_on, grew_width, inputs_on, interned_grew, interned_inputs}
use Rattle.term_names.specs.declared.names.Names.{Names}
use Rattle.term_names.specs.Views.{AreFor, form_of, names_of}
use Rattle.term_names.specs.Chosen.{HaveSameTerms, at_entry, at_part}
use Rattle.note_terms.specs.declared.Now.{Now}
use Rattle.question_form.specs.declared.unrolled.Root as declared
use Rattle.question_form.specs.declared.unrolled.Unrolled.{Unrolled}
use Rattle.question_form.specs.FrameViews.{anchor_at, frame_unrolled_of, root_of}
use Rattle.question_form.specs.Forms.{AreRootsFormed}
use Rattle.passify.specs.declared.sweep.Sweep.{Sweep}
use Rattle.passify.specs.Plain.{carried, held_for}
use Rattle.passify.specs.Planted.{AreAssumed, AreHeaded, ArePlanted, LeaveRootRoom, are_true, assumed_lines, assumed_of, begins_with, begun, lines_of}
use Rattle.passify.specs.Rows.{is_of_head, own_code, own_point}
use Rattle.passify.specs.Sweeps.{AreTermsOf, AreWell}
use Rattle.passify.proofs.Heads.{some_head}
use Rattle.passify.proofs.Inputs.{named_on}
use Rattle.passify.proofs.Joined.{denotes_same, terms_alike}
use Rattle.passify.proofs.Kept.{denotes_keep, shows_keep, tells_keep, terms_keep, well_keeps, word_keeps}
use Rattle.passify.proofs.Lines.{at_map, drop_here}
use Rattle.passify.proofs.Passed.{entry_anchor, head_anchor}
use Rattle.passify.proofs.Planted.{none_false, said_assumed, take_more}
use Rattle.passify.proofs.Pushed.{Placed, not_eq, placed_shows, placed_well, same_eq}
use Rattle.passify.proofs.Pointed.{own_keeps}
use Rattle.passify.proofs.Standing.{framed_is}

no_true : true ≡ false → ⊥
no_true e = cc

neither : (b c : Bool) → (b || (false && c || false)) ≡ b
neither true c = refl
neither false c = refl

-- a root at the place whose invariants are true
some_begun : (f : UnrolledProgram) (r : Reading) (j : ℕ) (roots : List Root) → list_any (λ y. (y.place == j) && is_assumed f r y) roots ≡ true →
    (y : Root) × Contains roots y × (y.place ≡ j) × (is_assumed f r y ≡ true)
some_begun f r j [] e = absurd (no_true (sym e))
some_begun f r j (y ∷ roots) e = by (y.place == j) (is_assumed f r y) refl refl e (λ h. some_begun f r j roots h)
  where
    more : (z : Root) × Contains roots z × (z.place ≡ j) × (is_assumed f r z ≡ true) →
        (z : Root) × Contains (y ∷ roots) z × (z.place ≡ j) × (is_assumed f r z ≡ true)
    more (z, (i, l, at), p, a) = (z, (suc i, omega (arith, l), at), p, a)

    by : (b c : Bool) → (y.place == j) ≡ b → is_assumed f r y ≡ c → (b && c || list_any (λ z. (z.place == j) && is_assumed f r z) roots) ≡ true →
        (list_any (λ z. (z.place == j) && is_assumed f r z) roots ≡ true →
        (z : Root) × Contains roots z × (z.place ≡ j) × (is_assumed f r z ≡ true)) →
        (z : Root) × Contains (y ∷ roots) z × (z.place ≡ j) × (is_assumed f r z ≡ true)
    by true true p q e rest = (y, (0, omega arith, refl), grind (arith, nat_tests), q)
    by true false p q e rest = more (rest e)
    by false c p q e rest = more (rest e)

-- the terms of the state with which a segment begins
pub terms_begin : (h : Bool) (nodes : List TermNode) (s : Sweep) (head names : Names) → AreWell nodes s → AreTermsOf s.entry nodes head →
    HaveSameTerms (if h then head else s.entry) names → AreTermsOf s.entry nodes names
terms_begin true nodes s head names w k e = terms_alike nodes s.entry head names k e
terms_begin false nodes s head names w k e =
    terms_alike nodes s.entry s.entry names (record { same = record { first = refl; registers = refl; flags = refl }; names = w.entry }) e

-- a root of the value is one of the frame
pub root_among : (u : Unrolled) (i : ℕ) (x : declared.Root) → i < length u.roots.items → x ≡ get_or u.roots.items i x →
    Contains (frame_unrolled_of u).roots (root_of u x)
root_among u i x l at = (i, (let m = length-map u.roots.items (root_of u) in omega (arith, m, l)), at_map (root_of u) u.roots.items i x (root_of u x) l at)

take_within : {X : Type 0} (n : ℕ) (xs : List X) (x : X) → Contains (take n xs) x → Contains xs x
take_within zero xs x (i, l, e) = absurd (omega (arith, l))
take_within (suc n) [] x (i, l, e) = absurd (omega (arith, l))
take_within (suc n) (y ∷ xs) x (zero, l, e) = (zero, omega arith, e)
take_within (suc n) (y ∷ xs) x (suc i, l, e) = let t = take_within n xs x (i, omega (arith, l), e) in (suc t.0, omega (arith, t.1), t.2)

module _ (u : Unrolled) (done : ℕ) (a b new : List TermNode) (s z : Sweep) (head names : Names) (one v pc : ℕ) (t : Term) (x : declared.Root)
    (now entry : Now) (roots : AreRootsFormed u) (headed : AreHeaded u) (rooted : IsRooted (frame_unrolled_of u)) (there : done < length u.roots.items)
    (at : x ≡ get_or u.roots.items done x) (k : ArePlanted u done a s head one) (value : v ≡ (own_code u x.place).at)
    (m1 : IsInterned a b (ConstantNode 32 v) pc) (same : HaveSameTerms (begins_with u x.place head s.entry) names)
    (now_names : now.names.now ≡ names) (now_pc : now.pc.0 ≡ pc) (entry_names : entry.names.now ≡ s.entry) (entry_pc : entry.pc ≡ s.pc)
    (lines : List Expr) (lines_are : lines ≡ assumed_lines u (slice_range u.asserts.items x.asserts.0 x.asserts.1))
    (m2 : AreAssumed b new u.big lines now entry one t.0) (p : Placed s z x.place t names) where
  abbrev f : UnrolledProgram
  f = frame_unrolled_of u

  abbrev R : Root
  R = root_of u x

  abbrev anchor : Anchor
  anchor = (point_at f x.place).point.anchor

  among : Contains u.roots.items x
  among = (done, there, sym at)

  within : x.place < length u.points.items
  within = (roots.places x among).0

  count : length f.roots ≡ length u.roots.items
  count = length-map u.roots.items (root_of u)

  is_next : get_or f.roots done R ≡ R
  is_next = at_map (root_of u) u.roots.items done x R there at

  taken : take (done + 1) f.roots ≡ take done f.roots ++ R ∷ []
  taken = take_more f.roots done R (omega (arith, count, there)) (sym is_next)

  dropped : drop done f.roots ≡ R ∷ drop (done + 1) f.roots
  dropped = drop_here f.roots done R (omega (arith, count, there)) (sym is_next)

  g1 : Grew a b 0 0 0 0 1
  g1 = interned_grew a b (ConstantNode 32 v) pc m1

  g12 : Grew a new (0 + sum_by line_price lines) (0 + sum_by bytes_loaded lines) (0 + 0) (0 + 0) (1 + 4 * line_steps lines)
  g12 = grew_on a b new 0 0 0 0 1 (sum_by line_price lines) (sum_by bytes_loaded lines) 0 0 (4 * line_steps lines) g1 m2.grew

  kept : AreWell new s
  kept = well_keeps g12 s m2.typed k.well

  anchor_is : anchor ≡ anchor_at u (own_point u x.place).root
  anchor_is = ap (λ (q : UnrolledPoint). q.point.anchor) (framed_is u x.place within)

  -- the terms of the state with which the segment begins
  part_terms : AreTermsOf s.entry a names
  part_terms = terms_begin (is_of_head u x.place) a s head names k.well k.head_terms same

  part_denotes : (r : Reading) → IsReading r → Denotes (form_of names) a (part_reading f r) (names_of names) (carried (root_content r anchor))
  part_denotes r reads = by (is_of_head u x.place) refl same
    where
      by : (h : Bool) → is_of_head u x.place ≡ h → HaveSameTerms (if h then head else s.entry) names →
          Denotes (form_of names) a (part_reading f r) (names_of names) (carried (root_content r anchor))
      by true e h =
          let q = head_anchor (anchor_at u (own_point u x.place).root) e in
          subst (λ (c : Anchor). Denotes (form_of names) a (part_reading f r) (names_of names) (carried (root_content r c))) (sym (anchor_is ∙ q.2))
          (denotes_same a (part_reading f r) head names (at_part (part_reading f r) 1) h
          (k.head_denotes (some_head u x.place roots headed within e) (part_reading f r) (part_range f r reads)))
      by false e h =
          subst (λ (c : Anchor). Denotes (form_of names) a (part_reading f r) (names_of names) (carried (root_content r c)))
          (sym (anchor_is ∙ entry_anchor (anchor_at u (own_point u x.place).root) e))
          (denotes_same a (part_reading f r) s.entry names (at_entry (part_reading f r)) h (k.well.denotes (part_reading f r) (part_range f r reads)))

  -- where its invariants are true the root's segment begins
  bit_tells : (r : Reading) → IsReading r → r.state.pc ≡ u.entry → Tells new (part_reading f r) t.0 (is_assumed f r R)
  bit_tells r reads begins =
      let y = part_reading f r in
      let range = part_range f r reads in
      let content = root_content r anchor in
      let place_at : (own_code u x.place).at ≡ (point_at f x.place).point.at = sym (ap (λ (q : UnrolledPoint). q.point.at) (framed_is u x.place within)) in
      let told = m2.tells y range (tells_keep g1 y one true k.bit.0 (k.is_yes y range)) (carried content) (at_entry y) (own_code u x.place).at s.at
      (record {
        carried = subst (λ (m : Names). Denotes (form_of m) b y (names_of m) (carried content)) (sym now_names)
            (denotes_keep g1 y names (carried content) part_terms.names (part_denotes r reads));
        pc = ap (λ (i : ℕ). term_word y b i) now_pc ∙ ap (λ q. q.word) (m1.value y) ∙ value;
      })
      (record {
        carried = subst (λ (m : Names). Denotes (form_of m) b y (names_of m) (at_entry y)) (sym entry_names)
            (denotes_keep g1 y s.entry (at_entry y) k.well.entry (k.well.denotes y range));
        pc = ap (λ (q : Term). term_word y b q.0) entry_pc ∙ word_keeps g1 y s.pc.0 k.well.pc.0 ∙ k.well.pc_is y;
      }) in
      let is_state : state_at (at_entry y) s.at ≡ r.state = sym (ap (state_at (at_entry y)) (begins ∙ sym k.sweep.at)) in
      subst (λ (q : Bool). Tells new y t.0 q)
      (ap (λ (es : List Expr). are_true u.big es (state_at (carried content) (own_code u x.place).at) (state_at (at_entry y) s.at))
      (lines_are ∙ sym (said_assumed (assumed_of u (slice_range u.asserts.items x.asserts.0 x.asserts.1))))
      ∙ ap (λ (i : ℕ). are_true u.big (map (λ l. l.says) R.assumes) (state_at (carried content) i) (state_at (at_entry y) s.at)) place_at
      ∙ ap (λ (q : State). are_true u.big (map (λ l. l.says) R.assumes) (content_at content (point_at f x.place).point.at) q) is_state
      ∙ sym (none_false f.endian R.assumes (content_at content (point_at f x.place).point.at) r.state)) told

  -- an earlier root at the place is the same
  met_is : (r : Reading) → (begun f r (take (done + 1) f.roots)).met x.place ≡ is_assumed f r R
  met_is r =
      ap (λ (l : List Root). list_any (λ y. (y.place == x.place) && is_assumed f r y) l) taken
      ∙ list_any-append (λ y. (y.place == x.place) && is_assumed f r y) (take done f.roots) (R ∷ [])
      ∙ ap (λ (q : Bool). list_any (λ y. (y.place == x.place) && is_assumed f r y) (take done f.roots) || (q && is_assumed f r R || false)) (same_eq x.place)
      ∙ last (list_any (λ y. (y.place == x.place) && is_assumed f r y) (take done f.roots)) (is_assumed f r R) earlier
    where
      last : (q c : Bool) → (q ≡ true → c ≡ true) → (q || (true && c || false)) ≡ c
      last true c h = sym (h refl)
      last false true h = refl
      last false false h = refl

      earlier : list_any (λ y. (y.place == x.place) && is_assumed f r y) (take done f.roots) ≡ true → is_assumed f r R ≡ true
      earlier e =
          let y = some_begun f r x.place (take done f.roots) e in
          let same : y.0 ≡ R = rooted.one y.0 R (take_within done f.roots y.0 y.1) (done, omega (arith, count, there), is_next)
          (ap (λ (i : ℕ). (point_at f i).point.anchor) y.2) in
          ap (is_assumed f r) (sym same) ∙ y.3

  met_other : (r : Reading) (i : ℕ) → i ≢ x.place → (begun f r (take (done + 1) f.roots)).met i ≡ (begun f r (take done f.roots)).met i
  met_other r i ne =
      ap (λ (l : List Root). list_any (λ y. (y.place == i) && is_assumed f r y) l) taken
      ∙ list_any-append (λ y. (y.place == i) && is_assumed f r y) (take done f.roots) (R ∷ [])
      ∙ ap (λ (q : Bool). list_any (λ y. (y.place == i) && is_assumed f r y) (take done f.roots) || (q && is_assumed f r R || false))
      (not_eq x.place i (λ e. ne (sym e))) ∙ neither (list_any (λ y. (y.place == i) && is_assumed f r y) (take done f.roots)) (is_assumed f r R)

  pub planted : ArePlanted u (done + 1) new z head one
  planted = record {
    well = placed_well new s z x.place t names p kept m2.width (terms_keep g12 s.entry names part_terms);
    sweep = record {
      form = subst (λ (e : Names). AreFor (inputs_of f) e) (sym p.entry) k.sweep.form;
      at = p.at ∙ k.sweep.at;
      places = ap (λ (l : List Term). length l) p.met ∙ length-set s.met.items x.place t ∙ k.sweep.places;
    };
    own = own_keeps u a new s z k.own g12 p.own p.at;
    named = named_on f u.heads a new (λ m. ⊥) (λ m i c. absurd c)
        (inputs_on a b new (λ m. ⊥) (interned_inputs a b (ConstantNode 32 v) pc (λ m. ⊥) m1 (λ i. i)) m2.inputs) k.named;
    room = (
        let r = subst (LeaveRootRoom f a) dropped k.room in
        let own = said_assumed (assumed_of u (slice_range u.asserts.items x.asserts.0 x.asserts.1)) ∙ sym lines_are in
        let rest = lines_of (drop (done + 1) f.roots) in
        let g = sum_by-append line_price (map (λ l. l.says) R.assumes) rest ∙ ap (λ (l : List Expr). sum_by line_price l + sum_by line_price rest) own in
        let b = sum_by-append bytes_loaded (map (λ l. l.says) R.assumes) rest ∙ ap (λ (l : List Expr). sum_by bytes_loaded l + sum_by bytes_loaded rest) own in
        let n = sum_by-append (λ e. line_size e + 4) (map (λ l. l.says) R.assumes) rest ∙ ap (λ (l : List Expr). line_steps l + line_steps rest) own in
        let rg = r.gates in let rl = r.loads in let rs = r.stores in let rj = r.joins in let rf = r.few in
        let gg = g12.gates in let gl = g12.loads in let gs = g12.stores in let gj = g12.joins in let gf = g12.few in
        record {
          gates = omega (arith, rg, gg, g);
          loads = omega (arith, rl, gl, b);
          stores = omega (arith, rs, gs);
          joins = omega (arith, rj, gj);
          few = omega (arith, rf, gf, n);
        });
    head_terms = subst (λ (e : Names). AreTermsOf e new head) (sym p.entry) (terms_keep g12 s.entry head k.head_terms);
    head_denotes = λ h y r. denotes_keep g12 y head (at_part y 1) k.head_terms.names (k.head_denotes h y r);
    bit = grew_width a new _ _ _ _ _ 1 one g12 k.bit;
    is_yes = λ y r. tells_keep g12 y one true k.bit.0 (k.is_yes y r);
    shows = λ r reads begins.
        let y = part_reading f r in
        let was = k.shows r reads begins in
        let before = begun f r (take done f.roots) in
        let after = begun f r (take (done + 1) f.roots) in
        record {
          shows = placed_shows new s z x.place t names p kept 0 y (held_for AtEntry before) (held_for AtEntry after)
              (shows_keep g12 s 0 y (held_for AtEntry before) k.well was.shows) (λ i ne. (met_other r i ne, refl)) refl refl
              (subst (λ (q : Bool). Tells new y t.0 q) (sym (met_is r)) (bit_tells r reads begins))
              (λ e. denotes_keep g12 y names (carried (root_content r anchor)) part_terms.names (part_denotes r reads));
          stepping = subst (λ (q : Term). Tells new y q.0 false) (sym p.steps) (tells_keep g12 y s.steps.0 false k.well.steps.0 was.stepping);
        };
  }
