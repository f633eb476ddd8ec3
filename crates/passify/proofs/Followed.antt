-- Where the walk goes on.
use Rattle.std.proofs.Common.{◌≡◌, ℕ, ◌+◌, ◌-◌, ◌*◌, ◌<◌, Bool, true, false, List, [], ◌∷◌, Option, Some, None, nat_eq, refl, ap, sym, ◌∙◌, subst, arith, length, not}
use Rattle.std.specs.Prelude.{◌&&◌, ◌||◌, ◌==◌, filter, map, slice_index_or, sum_by}
use Rattle.std.proofs.lemmas.List.{get_or-map, length-map}
use Rattle.word_spec.specs.Words.{bit}
use Rattle.std.specs.List.{list_any}
use Rattle.machine_spec.specs.Endings.{EnsureFails, JumpFails}
use Rattle.word_spec.specs.State.{State}
use Rattle.bilv_spec.specs.Notes.{Expr, NoteLine}
use Rattle.bilv_spec.specs.Points.{line_price, bytes_loaded}
use Rattle.bilv_spec.specs.Run.{false_line}
use Rattle.term_spec.specs.Terms.{TermReading, InRange, TermNode, ConstantNode, HasWidth, term_word}
use Rattle.walk_spec.specs.Unrolled.{Walk, WalkFails, WalkTurns, carried_of}
use Rattle.walk_spec.specs.Unrolling.{IsReadable}
use Rattle.walk_spec.specs.Sweep.{Held, held_if, hand}
use Rattle.walk_spec.specs.Prices.{line_steps}
use Rattle.frame_spec.specs.Frames.{Contract, FrameEvent, OfStep, GivesFails}
use Rattle.frame_spec.specs.FramePoints.{says_of}
use Rattle.frame_spec.specs.FrameUnrolling.{own_of}
use Rattle.frame_terms.specs.PassiveFrames.{inputs_of}
use Rattle.frame_spec.specs.FrameWalk.{Check, UnrolledProgram, Own, PointExit, flags_below, has_changed, out_by, walk_out}
use Rattle.term_spec.specs.Passive.{Denotes, Tells}
use Rattle.term_dag.specs.Made.{Grew, IsInterned}
use Rattle.term_dag.proofs.Growth.{grew_more, grew_on, inputs_on, interned_grew, interned_inputs}
use Rattle.notes_value.specs.declared.notes.NoteLine.{NoteLine as SourceLine}
use Rattle.notes_value.specs.NoteViews.{note_line_of, notes_of}
use Rattle.question_form.specs.declared.unrolled.Aim.TheVariants.{OnTo, IntoHead, Outward, OverLast}
use Rattle.question_form.specs.declared.unrolled.Unrolled.{Unrolled}
use Rattle.question_form.specs.FrameViews.{checks_between, frame_unrolled_of, own_contract}
use Rattle.term_names.specs.declared.names.Names.{Names}
use Rattle.term_names.specs.Views.{form_of, names_of}
use Rattle.note_terms.specs.declared.Now.{Now}
use Rattle.passify.specs.declared.sweep.Sweep.{Sweep}
use Rattle.passify.specs.Plain.{plain}
use Rattle.term_names.specs.Chosen.{at_entry}
use Rattle.passify.specs.Bits.{Makes, TellsByBoth}
use Rattle.passify.specs.Changes.{TellsChanged, changes}
use Rattle.passify.specs.Exits.{IsPending}
use Rattle.passify.specs.Handled.{IsSweepOf}
use Rattle.passify.specs.Spans.{is_own}
use Rattle.passify.specs.Sweeps.{AreTermsOf, AreWell, Steps, Hands, HasEvent, ShowsAt, ComesTo, bits_of, terms_of}
use Rattle.passify.specs.Situations.{Situation, AreLines, ChecksTried, IsThere, LinesTried, goes_out_by, no_line, said}
use Rattle.passify.specs.Edges.{AreRead, Follows, IsLeftBy, aim_gates, aim_loads, aim_nodes, lines_out}
use Rattle.passify.proofs.Kept.{denotes_keep, shows_keep, tells_keep, tells_some, word_keeps}
use Rattle.passify.proofs.Lines.{at_head, like_on}
use Rattle.passify.proofs.Standing.{flags_for, out_lines, registers_for}
use Rattle.passify.proofs.Tried.{bit_true}

-- all lines were tried
pub lines_steps : {old new : List TermNode} {s z : Sweep} {all : _} → AreLines old new s z all [] →
    Steps old new s z (sum_by line_price all) (sum_by bytes_loaded all) 0 0 (4 * line_steps all) (λ m. ⊥)
lines_steps {old = old} {new = new} {all = all} k = record {
  grew = grew_more old new k.gates k.loads 0 0 k.nodes (sum_by line_price all) (sum_by bytes_loaded all) 0 0 (4 * line_steps all) (omega (arith, k.few_gates))
      (omega (arith, k.few_loads)) (omega arith) (omega arith) (omega (arith, k.few_nodes)) k.steps.grew;
  inputs = k.steps.inputs;
  well = k.steps.well;
  like = k.steps.like;
}

-- where nothing is left, what is held in the end is what is held
pub ended : (nodes : List TermNode) (s : Sweep) (from : ℕ) (x : TermReading) (p : Bool) (h after : Held) → (p ≡ true → after ≡ h) →
    ShowsAt nodes s from x (held_if p h after) → ShowsAt nodes s from x after
ended nodes s from x true h after e k = subst (λ (q : Held). ShowsAt nodes s from x q) (sym (e refl)) k
ended nodes s from x false h after e k = k

-- lines were tried where a bit is 1, from what is held there
module _ (old new : List TermNode) (s z : Sweep) (hit left : ℕ) where
  start : (from : ℕ) (x : TermReading) (b : Bool) (g h : Held) → ShowsAt old s from x h → ShowsAt old s from x (held_if b h (held_if b g h))
  start from x true g h k = k
  start from x false g h k = k

  lines_end : (big : Bool) (n : Now) (state : Situation → State) (all : _) (go on : Situation → List PointExit → Held → Held) →
      LinesTried old new s z hit left big n state all [] go on → (x : TermReading) → InRange x → (from : ℕ) (S : Situation) (w : Walk) (b : Bool) (h : Held) →
      go S [] h ≡ hand w h → on S [] h ≡ h → (b ≡ true → IsThere old s big n state x S) → term_word x old hit ≡ bit b →
      ShowsAt old s from x h → ShowsAt new z from x (held_if b (hand w h) h)
  lines_end big n state all go on k x r from S w b h goes none there tells shows =
      let pending = k.tries x r from S (λ e. there (bit_true b (sym tells ∙ e))) h (held_if b (hand w h) h) [] (record {
        some = b;
        tells = tells;
        goes = λ e. ap (λ q. held_if q (hand w h) h) e ∙ sym goes;
        shows = start from x b (hand w h) h shows;
      }) in
      ended new z from x pending.some h (held_if b (hand w h) h) (λ e. pending.goes e ∙ none) pending.shows

-- which event it is counts for nothing
plain_out : (p : UnrolledProgram) (entry : State) (o : Option ℕ) (ev ew : ℕ → FrameEvent) (b : Bool) →
    plain p entry (out_by o ev b) ≡ plain p entry (out_by o ew b)
plain_out p entry None ev ew true = refl
plain_out p entry None ev ew false = refl
plain_out p entry (Some line) ev ew b = refl

out_none : (p : UnrolledProgram) (entry : State) (q : Bool) (h : Held) →
    hand (plain p entry (out_by None GivesFails q)) h ≡ held_if q (hand (WalkFails JumpFails) h) h
out_none p entry true h = refl
out_none p entry false h = refl

module _ (u : Unrolled) (old new : List TermNode) (s z : Sweep) (hit : ℕ) (next : Now) where
  pub follow_on : (j : ℕ) → Hands old new s z hit (ComesTo old next.names.now j) → Hands old new s z hit (Follows u old s next (OnTo j))
  follow_on j hands x r from w b f = hands x r from w b (carried_of f.situation.next, f.is, f.later, λ e. (f.there e).is.carried)

  pub follow_over : Hands old new s z hit (λ from x w b. w ≡ WalkTurns) → Hands old new s z hit (Follows u old s next OverLast)
  follow_over hands x r from w b f = hands x r from w b f.is

  -- the frame of no contract is left by its ensure lines
  pub follow_out : (left : ℕ) → own_contract u ≡ None →
      ((changed : Situation → Bool) → LinesTried old new s z hit left u.big next (λ S. S.next) (map (λ l. l.says) (notes_of u.notes.now).ensures) []
      (goes_out_by changed (notes_of u.notes.now).ensures) (goes_out_by changed [])) →
      Hands old new s z hit (Follows u old s next Outward)
  follow_out left none k x r from w b f tells h shows =
      let S = f.situation in
      lines_end old new s z hit left u.big next (λ S. S.next) (map (λ l. l.says) (notes_of u.notes.now).ensures)
      (goes_out_by (λ S. false) (notes_of u.notes.now).ensures) (goes_out_by (λ S. false) []) (k (λ S. false)) x r from S w b h
      (sym (ap (λ (q : Walk). hand q h) (f.is ∙ out_is S.program S.entry S.next (notes_of u.notes.now).ensures (f.leaves.own ∙ ap own_of none)
      f.leaves.ensures))) refl f.there
      tells shows
    where
      out_is : (p : UnrolledProgram) (entry next : State) (lines : List NoteLine) → p.own ≡ None → p.ensures ≡ lines →
          plain p entry (walk_out p.own p entry next)
          ≡ plain p entry (out_by (false_line p.endian lines next entry) GivesFails false)
      out_is p entry next lines own same =
          ap (λ (o : Option Own). plain p entry (walk_out o p entry next)) own
          ∙ ap (λ (l : List NoteLine). plain p entry (out_by (false_line p.endian l next entry) (λ n. OfStep (EnsureFails n)) false)) same
          ∙ plain_out p entry (false_line p.endian lines next entry) (λ n. OfStep (EnsureFails n)) GivesFails false

  -- within what that costs
  pub out_steps : (left : ℕ) → own_contract u ≡ None →
      ((changed : Situation → Bool) → LinesTried old new s z hit left u.big next (λ S. S.next) (map (λ l. l.says) (notes_of u.notes.now).ensures) []
      (goes_out_by changed (notes_of u.notes.now).ensures) (goes_out_by changed [])) →
      Steps old new s z (aim_gates u next.names.now Outward) (aim_loads u Outward) 0 0 (aim_nodes u next.names.now Outward) (λ m. ⊥)
  out_steps left none lines =
      let k = lines_steps (lines (λ S. false)).lines in
      let e : lines_out u ≡ map (λ l. l.says) (notes_of u.notes.now).ensures = out_lines u None none in
      let g = ap (λ (es : List Expr). sum_by line_price es) e in
      let l = ap (λ (es : List Expr). sum_by bytes_loaded es) e in
      let n = ap (λ (es : List Expr). line_steps es) e in
      let i = ap is_own none in
      let a = ap (λ (z : ℕ). z * (bits_of next.names.now + terms_of next.names.now + 1)) i in
      let b = ap (λ (z : ℕ). z * (4 * terms_of next.names.now + 1)) i in
      record {
        grew = grew_more old new _ _ _ _ _ (aim_gates u next.names.now Outward) (aim_loads u Outward) 0 0 (aim_nodes u next.names.now Outward)
            (omega (arith, g, a)) (omega (arith, l)) (omega arith) (omega arith) (omega (arith, n, b)) k.grew;
        inputs = k.inputs;
        well = k.well;
        like = k.like;
      }

-- the frame of a contract is left by what it gives, and by what it may change
module _ (u : Unrolled) (o : Contract) (own : own_contract u ≡ Some o) (old mid m2 m3 new : List TermNode) (s s1 z : Sweep) (hit left differs bit : ℕ)
    (next : Now) (of : IsSweepOf u s) (names : AreTermsOf s.entry old next.names.now)
    (lines : (changed : Situation → Bool) → LinesTried old mid s s1 hit left u.big next (λ S. S.next) (says_of o.gives) [] (goes_out_by changed o.gives)
    (goes_out_by changed []))
    (made : Makes mid m2 (bits_of next.names.now + terms_of next.names.now - 1) (4 * terms_of next.names.now - 3) 1 differs
    (TellsChanged mid m2 o s1.entry next.names.now differs))
    (one : Makes m2 m3 1 2 1 bit (TellsByBoth (λ p q. p && q) m2 m3 left differs bit))
    (steps : Steps m3 new s1 z 1 0 0 0 2 (λ m. ⊥)) (hands : Hands m3 new s1 z bit (λ from x w b. HasEvent w)) where
  abbrev mine : Own
  mine = record { gives = o.gives; writes = o.writes; registers = o.registers; flags = o.flags }

  abbrev changed : Situation → Bool
  changed S = has_changed S.program mine S.entry S.next

  k : LinesTried old mid s s1 hit left u.big next (λ S. S.next) (says_of o.gives) [] (goes_out_by changed o.gives) (goes_out_by changed [])
  k = lines changed

  lined : Steps old mid s s1 (sum_by line_price (says_of o.gives)) (sum_by bytes_loaded (says_of o.gives)) 0 0 (4 * line_steps (says_of o.gives)) (λ m. ⊥)
  lined = lines_steps k.lines

  grew3 : Grew mid m3 (bits_of next.names.now + terms_of next.names.now - 1 + 1) 0 0 0 (4 * terms_of next.names.now - 3 + 2)
  grew3 = grew_on mid m2 m3 _ 0 0 0 _ 1 0 0 0 2 made.grew one.grew

  pub own_steps : Steps old new s z (aim_gates u next.names.now Outward) (aim_loads u Outward) 0 0 (aim_nodes u next.names.now Outward) (λ m. ⊥)
  own_steps =
      let e = out_lines u (Some o) own in
      let g = ap (λ (es : List Expr). sum_by line_price es) e in
      let l = ap (λ (es : List Expr). sum_by bytes_loaded es) e in
      let n = ap (λ (es : List Expr). line_steps es) e in
      let i = ap is_own own in
      let a = ap (λ (z : ℕ). z * (bits_of next.names.now + terms_of next.names.now + 1)) i in
      let b = ap (λ (z : ℕ). z * (4 * terms_of next.names.now + 1)) i in
      record {
        grew = grew_more old new _ _ _ _ _ (aim_gates u next.names.now Outward) (aim_loads u Outward) 0 0 (aim_nodes u next.names.now Outward)
            (omega (arith, g, a)) (omega (arith, l)) (omega arith) (omega arith) (omega (arith, n, b))
            (grew_on old mid new _ _ _ _ _ _ _ _ _ _ lined.grew (grew_on mid m3 new _ _ _ _ _ 1 0 0 0 2 grew3 steps.grew));
        inputs = inputs_on old mid new (λ m. ⊥) lined.inputs (inputs_on mid m3 new (λ m. ⊥) (inputs_on mid m2 m3 (λ m. ⊥) made.inputs one.inputs) steps.inputs);
        well = steps.well;
        like = like_on s s1 z lined.like steps.like;
      }

  -- by what is left when the lines were tried
  own_end : (x : TermReading) → InRange x → (from : ℕ) (S : Situation) → (term_word x mid left ≡ 1 → Tells m2 x differs (changed S)) → (before after : Held) →
      IsPending mid s1 from x left before after (goes_out_by changed [] S [] before) → ShowsAt new z from x after
  own_end x r from S told before after p = by p.some p.tells p.goes p.shows
    where
      kept : (h : Held) → ShowsAt mid s1 from x h → ShowsAt m3 s1 from x h
      kept h q = shows_keep grew3 s1 from x h lined.well q

      by : (b : Bool) → Tells mid x left b → (b ≡ true → after ≡ goes_out_by changed [] S [] before) → ShowsAt mid s1 from x (held_if b before after) →
          ShowsAt new z from x after
      by true t g q =
          let d = told t in
          subst (λ (y : Held). ShowsAt new z from x y) (sym (g refl ∙ out_none S.program S.entry (changed S) before))
          (hands x r from (WalkFails JumpFails) (changed S) (JumpFails, refl)
          (one.holds x r true (changed S) (tells_keep made.grew x left true k.bit.0 t) d) before (kept before q))
      by false t g q =
          let d = tells_some x m2 differs r made.typed made.width in
          hands x r from (WalkFails JumpFails) false (JumpFails, refl) (one.holds x r false d.0 (tells_keep made.grew x left false k.bit.0 t) d.1) after
          (kept after q)

  pub own_hands : Hands old new s z hit (Follows u old s next Outward)
  own_hands x r from w b f tells h shows =
      let S = f.situation in
      let pending = k.tries x r from S (λ e. f.there (bit_true b (sym tells ∙ e))) h (held_if b (hand w h) h) [] (record {
        some = b;
        tells = tells;
        goes = λ e. ap (λ q. held_if q (hand w h) h) e ∙ ap (λ (q : Walk). hand q h) (f.is ∙ out_is S f.leaves);
        shows = start old mid s s1 hit left from x b (hand w h) h shows;
      }) in
      own_end x r from S (λ e. told S f.leaves (f.there (bit_true b (sym tells ∙ (k.narrows x r e).0)))) h (held_if b (hand w h) h) pending
    where
      out_is : (S : Situation) → IsLeftBy u S.program → plain S.program S.entry (walk_out S.program.own S.program S.entry S.next)
          ≡ plain S.program S.entry (out_by (false_line S.program.endian o.gives S.next S.entry) GivesFails (changed S))
      out_is S leaves = ap (λ (q : Option Own). plain S.program S.entry (walk_out q S.program S.entry S.next)) (leaves.own ∙ ap own_of own)

      same_changes : (S : Situation) → IsLeftBy u S.program → IsThere old s u.big next (λ T. T.next) x S →
          changes o next.names.now (at_entry x) (carried_of S.next) ≡ changed S
      same_changes S leaves t =
          let n = next.names.now in
          let f = frame_unrolled_of u in
          let rs : (form_of n).registers ≡ S.program.registers = sym (leaves.registers ∙ registers_for (inputs_of f) s.entry n of.form names.same) in
          let gs : (form_of n).flags ≡ S.program.flags = sym (leaves.flags ∙ flags_for (inputs_of f) s.entry n of.form names.same) in
          ap (λ (z : List ℕ). list_any (λ r. not (list_any (nat_eq r) o.registers) && not (S.next.regs r == x.regs 0 r)) z
          || list_any (λ g. not (list_any (nat_eq g) o.flags) && not (S.next.flags g == x.flags 0 g)) (flags_below (form_of n).flags)) rs
          ∙ ap (λ (z : ℕ). list_any (λ r. not (list_any (nat_eq r) o.registers) && not (S.next.regs r == x.regs 0 r)) S.program.registers
          || list_any (λ g. not (list_any (nat_eq g) o.flags) && not (S.next.flags g == x.flags 0 g)) (flags_below z)) gs
          ∙ ap (λ (z : State). has_changed S.program mine z S.next) (sym t.entry)

      told : (S : Situation) → IsLeftBy u S.program → IsThere old s u.big next (λ T. T.next) x S → Tells m2 x differs (changed S)
      told S leaves t =
          let n = next.names.now in
          let den = denotes_keep lined.grew x n (carried_of S.next) names.names t.is.carried in
          subst (λ (q : Bool). Tells m2 x differs q) (same_changes S leaves t) (made.holds x r (at_entry x) (carried_of S.next) (lined.well.denotes x r) den)

-- a walk that comes to a head is judged there, by lines over one node more, which is the head's address
module _ (u : Unrolled) (old mid new : List TermNode) (s z : Sweep) (hit left at v pc : ℕ) (bounds : ℕ × ℕ) (next here : Now) (w : AreWell old s)
    (names : AreTermsOf s.entry old next.names.now) (wh : HasWidth old 1 hit) (value : v ≡ at) (made : IsInterned old mid (ConstantNode 32 v) pc)
    (same : here.names.now ≡ next.names.now) (pc_is : here.pc.0 ≡ pc)
    (checks : List Check) (are : checks ≡ checks_between u bounds) (tried : ChecksTried mid new s z hit left u.big here checks []) where
  judged : ChecksTried mid new s z hit left u.big here (checks_between u bounds) []
  judged = subst (λ (cs : List Check). ChecksTried mid new s z hit left u.big here cs []) are tried

  one : Grew old mid 0 0 0 0 1
  one = interned_grew old mid (ConstantNode 32 v) pc made

  pub head_steps : Steps old new s z (sum_by line_price (said (checks_between u bounds))) (sum_by bytes_loaded (said (checks_between u bounds))) 0 0
      (1 + 4 * line_steps (said (checks_between u bounds))) (λ m. ⊥)
  head_steps =
      let t = lines_steps (judged (at_head at)).lines in
      let es = said (checks_between u bounds) in
      record {
        grew = grew_more old new (0 + sum_by line_price es) (0 + sum_by bytes_loaded es) (0 + 0) (0 + 0) (1 + 4 * line_steps es) (sum_by line_price es)
            (sum_by bytes_loaded es) 0 0 (1 + 4 * line_steps es) (omega arith) (omega arith) (omega arith) (omega arith) (omega arith)
            (grew_on old mid new 0 0 0 0 1 (sum_by line_price es) (sum_by bytes_loaded es) 0 0 (4 * line_steps es) one t.grew);
        inputs = inputs_on old mid new (λ m. ⊥) (interned_inputs old mid (ConstantNode 32 v) pc (λ m. ⊥) made (λ i. i)) t.inputs;
        well = t.well;
        like = t.like;
      }

  pub head_hands : Hands old new s z hit (Follows u old s next (IntoHead at bounds))
  head_hands x r from y b f tells h shows =
      let S = f.situation in
      let J = at_head at in
      lines_end mid new s z hit left u.big here J.state (said (checks_between u bounds)) (J.goes (checks_between u bounds)) (J.goes []) (judged J) x r from S y b h
      (sym (ap (λ (q : Walk). hand q h) f.is)) refl (λ e. there S (f.there e)) (word_keeps one x hit wh.0 ∙ tells)
      (shows_keep one s from x h w shows)
    where
      there : (S : Situation) → IsThere old s u.big next (λ T. T.next) x S → IsThere mid s u.big here (at_head at).state x S
      there S t = record {
        endian = t.endian;
        entry = t.entry;
        is = record {
          carried = subst (λ (m : Names). Denotes (form_of m) mid x (names_of m) (carried_of S.next)) (sym same)
              (denotes_keep one x next.names.now (carried_of S.next) names.names t.is.carried);
          pc = ap (λ (i : ℕ). term_word x mid i) pc_is ∙ ap (λ q. q.word) (made.value x) ∙ value;
        };
      }

-- what is read of lines together is read of each
pub lines_read : (n : Names) (lines : List SourceLine) → AreRead n (map (λ l. l.says) (map note_line_of lines)) → (i : ℕ) → i < length lines →
    IsReadable (form_of n) (slice_index_or (map note_line_of lines) i no_line).says
lines_read n lines h i l =
    let there : i < length (map note_line_of lines) = (let m = length-map lines note_line_of in omega (arith, m, l)) in
    let line = slice_index_or (map note_line_of lines) i no_line in
    h line.says (
      i,
      (let m = length-map (map note_line_of lines) (λ k. k.says) in omega (arith, m, there)),
      get_or-map (λ k. k.says) (map note_line_of lines) i no_line line.says there,
    )

-- without a line that is skipped all are judged
pub all_judged : (xs : List Check) → filter (λ c. not (false && c.invariant)) xs ≡ xs
all_judged [] = refl
all_judged (x ∷ xs) = ap (λ (l : List Check). x ∷ l) (all_judged xs)
