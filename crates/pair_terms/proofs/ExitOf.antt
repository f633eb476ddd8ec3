-- The exit of a program whose last place it is, with what its passive program costs.
use Rattle.std.proofs.Common.{◌≡◌, inl, inr, ℕ, suc, ◌+◌, ◌-◌, ◌*◌, ◌<◌, ◌≤◌, Bool, true, false, ◌&&◌, Option, None, Some, List, length, get_or, refl, ap, sym, subst, ◌∙◌, arith}
use Rattle.std.specs.Prelude.{◌==◌, ◌||◌, map, sum_by, slice_index, if◌then◌else◌}
use Rattle.std.specs.List.{flat_map}
use Rattle.std.proofs.lemmas.Bool.{false≢true}
use Rattle.std.proofs.lemmas.List.{length-map, get_or-map}
use Rattle.word_spec.specs.Words.{bit}
use Rattle.bilv_spec.specs.Points.{line_price, bytes_loaded}
use Rattle.bilv_spec.specs.Questions.{Reading}
use Rattle.term_spec.specs.Terms.{TermNode}
use Rattle.walk_spec.specs.Unrolled.{UnrolledProgram, Walk, WalkIsAt, WalkExits, WalkFails, WalkTurns, walk_on}
use Rattle.walk_spec.specs.Sweep.{Held, held_if, hand, held, swept}
use Rattle.term_spec.specs.Passive.{Passive, IsPassive, UnderAll}
use Rattle.walk_spec.specs.Prices.{line_steps, variables_of}
use Rattle.term_spec.specs.WalkQuestions.{IsNamedBelow, term_reading}
use Rattle.term_dag.specs.declared.nodes.Term.{Term}
use Rattle.term_dag.proofs.Growth.{grew_more, inputs_more}
use Rattle.question_form.specs.declared.unrolled.Unrolled.{Unrolled}
use Rattle.question_form.specs.declared.questions.Passive as questions
use Rattle.question_form.specs.Questions.{passive_of}
use Rattle.question_form.specs.Views.{unrolled_of}
use Rattle.links_lang.specs.declared.links.Link as code
use Rattle.links_lang.specs.Views.{link_of, links_of}
use Rattle.term_names.specs.declared.names.Names.{Names}
use Rattle.term_names.proofs.OfForm.{named_all, reading_in_range}
use Rattle.weakest_pre.specs.Entry.{all_hold}
use Rattle.passify.specs.Lasts.{AreCarriedTo}
use Rattle.passify.specs.Made.{IsPassiveOf}
use Rattle.passify.proofs.Standing.{points_length}
use Rattle.pair_spec.specs.Links.{Link}
use Rattle.pair_spec.specs.Pairs.{same_bytes}
use Rattle.pair_spec.specs.PairTerms.{exit_widths}
use Rattle.pair_terms.specs.Exits.{last_of, held_last, last_state, leaves_last, ensured_lines, is_led_to, where_led, AreWithinExit, TellsMet, IsExit, IsBlank}
use Rattle.pair_terms.proofs.NeverMet.{never_met}

-- ---- where the exit may be met

led_cost : (w : UnrolledProgram) (n : ℕ) → is_led_to w (last_of w) ≡ true → where_led w n ≡ n
led_cost w n e = ap (λ (b : Bool). if b then n else 0) e

pub exit_led : (w : UnrolledProgram) (second : Bool) (links : List Link) (old new : List TermNode) (g l n v count s : ℕ) (met : ℕ) (words : List ℕ) →
    is_led_to w (last_of w) ≡ true → IsExit w second links old new g l (n + (v + 2 + count + s)) met words →
    IsExit w second links old new (where_led w g) (where_led w l) (where_led w n + (v + 4 + count + s)) met words
exit_led w second links old new g l n v count s met words led h =
    let a = led_cost w g led in
    let b = led_cost w l led in
    let c = led_cost w n led in
    record {
      grew = grew_more old new g l 0 0 (n + (v + 2 + count + s)) _ _ 0 0 _ (omega (arith, a)) (omega (arith, b)) (omega arith) (omega arith) (omega (arith, c))
          h.grew;
      inputs = h.inputs;
      typed = h.typed;
      tells = h.tells;
    }

-- ---- where it is not

leaves_not : (w : UnrolledProgram) (r : Reading) → (held_last w r).met (last_of w) ≡ false → leaves_last w r ≡ false
leaves_not w r e = ap (λ (b : Bool). b && all_hold w.endian (ensured_lines w) (last_state w r) r.state) e

blank_exit : (w : UnrolledProgram) (second : Bool) (links : List Link) (old new : List TermNode) (g l n m : ℕ) (met : ℕ) (words : List ℕ) → n ≤ m →
    UnderAll w (λ r. (held_last w r).met (last_of w) ≡ false) → IsBlank old new (flat_map exit_widths links) n met words →
    IsExit w second links old new g l m met words
blank_exit w second links old new g l n m met words few never h = record {
  grew = grew_more old new 0 0 0 0 n g l 0 0 m (omega arith) (omega arith) (omega arith) (omega arith) few h.grew;
  inputs = inputs_more old new (λ m. ⊥) (IsNamedBelow w 0) (λ m i e. absurd e) h.inputs;
  typed = h.typed;
  tells = record {
    bit_of = h.bit_of;
    tells = λ r k e. h.zero (term_reading w r) (reading_in_range w r k) ∙ ap bit (sym (leaves_not w r (never r k e)));
    widths = h.widths;
    values = λ r k e q. absurd (false≢true (sym (leaves_not w r (never r k e)) ∙ q));
  };
}

pub exit_unmet : (w : UnrolledProgram) (second : Bool) (links : List Link) (old new : List TermNode) (g l n v count s : ℕ) (met : ℕ) (words : List ℕ) →
    (last : Option Names) → last ≡ None → AreCarriedTo w (last_of w) old last → IsBlank old new (flat_map exit_widths links) (1 + count) met words →
    IsExit w second links old new g l (n + (v + 4 + count + s)) met words
exit_unmet w second links old new g l n v count s met words None e tells h =
    blank_exit w second links old new g l (1 + count) (n + (v + 4 + count + s)) met words (omega arith) tells h
exit_unmet w second links old new g l n v count s met words (Some names) e tells h = cc

pub exit_not_led : (w : UnrolledProgram) (second : Bool) (links : List Link) (old new : List TermNode) (g l n v count s : ℕ) (met : ℕ) (words : List ℕ) →
    1 < length w.points → is_led_to w (last_of w) ≡ false → IsBlank old new (flat_map exit_widths links) (1 + count) met words →
    IsExit w second links old new g l (n + (v + 4 + count + s)) met words
exit_not_led w second links old new g l n v count s met words more led h =
    blank_exit w second links old new g l (1 + count) (n + (v + 4 + count + s)) met words (omega arith)
    (λ r k e. never_met w r (last_of w) (omega arith) led (last_of w) (omega arith)) h

-- ---- over the passive program

exit_within : (w : UnrolledProgram) (second : Bool) (links : List Link) (q : Passive) (new : List TermNode) (met : ℕ) (words : List ℕ) → IsPassive w q →
    IsExit w second links q.nodes new (where_led w (sum_by line_price (ensured_lines w))) (where_led w (sum_by bytes_loaded (ensured_lines w) + same_bytes links))
    (where_led w (4 * line_steps (ensured_lines w)) + (variables_of w + 4 + length links + 3 * same_bytes links)) met words → AreWithinExit w links new
exit_within w second links q new met words passive h =
    let room = passive.terms in
    let grew = h.grew in
    record {
      typed = h.typed;
      named = λ m c. named_all w m (λ i. elim (h.inputs m c i) [ inl old ↦ room.named m old | inr named ↦ named ]);
      gates = omega (arith, grew.gates, room.gates);
      loads = omega (arith, grew.loads, room.loads);
      stores = omega (arith, grew.stores, room.stores);
      joins = omega (arith, grew.joins, room.joins);
      few = omega (arith, grew.few, room.few);
    }

-- a place that is met stays so
hand_keeps : (w : Walk) (h : Held) (n : ℕ) → h.met n ≡ true → (hand w h).met n ≡ true
hand_keeps (WalkIsAt j c) h n e = or_right (n == j) (h.met n) e where
  or_right : (a b : Bool) → b ≡ true → (a || b) ≡ true
  or_right true b k = refl
  or_right false b k = k
hand_keeps WalkExits h n e = e
hand_keeps (WalkFails x) h n e = e
hand_keeps WalkTurns h n e = e

met_by : (b : Bool) (w : Walk) (h : Held) (n : ℕ) → h.met n ≡ b → (held_if b (hand w h) h).met n ≡ b
met_by true w h n e = hand_keeps w h n e
met_by false w h n e = e

last_met : (w : UnrolledProgram) (r : Reading) → 0 < length w.points → (swept w r).met (last_of w) ≡ (held_last w r).met (last_of w)
unfolding held
last_met w r some =
    let n = last_of w in
    let e : length w.points ≡ suc n = omega arith in
    ap (λ (k : ℕ). (held w r k).met n) e ∙ met_by ((held w r n).met n) (walk_on w r (WalkIsAt n ((held w r n).carried n))) (held w r n) n refl

passive_tells_met : (w : UnrolledProgram) (q : Passive) (t : ℕ) → 0 < length w.points → IsPassive w q → t ≡ slice_index q.met (last_of w) → TellsMet w q.nodes t
passive_tells_met w q t some passive e =
    let within : last_of w < length w.points = omega arith in
    subst (TellsMet w q.nodes) (sym e)
    (passive.bits (last_of w) within, λ r k at. passive.mets r k at (last_of w) within ∙ ap bit (last_met w r some))

-- ---- the same of values

-- the last place
last_place : (u : Unrolled) (n : ℕ) → n ≡ length u.points.items - 1 → n ≡ last_of (unrolled_of u)
last_place u n e = let long = points_length u u.points.items in omega (arith, e, long)

pub led_last : (u : Unrolled) (n : ℕ) (b : Bool) → n ≡ length u.points.items - 1 → b ≡ is_led_to (unrolled_of u) n →
    is_led_to (unrolled_of u) (last_of (unrolled_of u)) ≡ b
led_last u n b e h = ap (is_led_to (unrolled_of u)) (sym (last_place u n e)) ∙ sym h

-- what holds of a program holds of the one that its passive program is over
over_passive : (u : Unrolled) (p : questions.Passive) (F : Unrolled → Type 0) → IsPassiveOf u p → F u → F p.unrolled.now
over_passive u p F h k = subst F (sym h.of) k

bits_count : (u : Unrolled) (p : questions.Passive) → IsPassiveOf u p → length p.met.items ≡ length u.points.items
bits_count u p h = sym (length-map p.met.items (λ (t : Term). t.0)) ∙ h.tells.count ∙ points_length u u.points.items

pub last_bit : (u : Unrolled) (p : questions.Passive) (t : Term) (i : ℕ) → 0 < length u.points.items → IsPassiveOf u p → i ≡ length p.met.items - 1 →
    t ≡ get_or p.met.items i t → TellsMet (unrolled_of p.unrolled.now) p.dag t.0
last_bit u p t i some h e at =
    let w = unrolled_of u in
    let count = bits_count u p h in
    let long = points_length u u.points.items in
    let place : i ≡ last_of w = omega (arith, e, count, long) in
    let is : t.0 ≡ slice_index (map (λ (q : Term). q.0) p.met.items) (last_of w) =
    ap (λ (q : Term). q.0) at ∙ sym (get_or-map (λ (q : Term). q.0) p.met.items i t 0 (omega (arith, e, count, some)))
    ∙ ap (slice_index (map (λ (q : Term). q.0) p.met.items)) place in
    over_passive u p (λ (v : Unrolled). TellsMet (unrolled_of v) p.dag t.0) h
    (passive_tells_met w (passive_of p) t.0 (omega (arith, some, long)) h.tells is)

pub exit_told : (u : Unrolled) (p : questions.Passive) (second : Bool) (links : List code.Link) (new : List TermNode) (met : ℕ) (words : List ℕ) →
    IsPassiveOf u p →
    IsExit (unrolled_of p.unrolled.now) second (links_of links) p.dag new
    (where_led (unrolled_of p.unrolled.now) (sum_by line_price (ensured_lines (unrolled_of p.unrolled.now))))
    (where_led (unrolled_of p.unrolled.now) (sum_by bytes_loaded (ensured_lines (unrolled_of p.unrolled.now)) + same_bytes (links_of links)))
    (where_led (unrolled_of p.unrolled.now) (4 * line_steps (ensured_lines (unrolled_of p.unrolled.now)))
    + (variables_of (unrolled_of p.unrolled.now) + 4 + length links + 3 * same_bytes (links_of links))) met words →
    AreWithinExit (unrolled_of p.unrolled.now) (links_of links) new
exit_told u p second links new met words h e =
    let w = unrolled_of p.unrolled.now in
    let k : IsPassive w (passive_of p) = over_passive u p (λ (v : Unrolled). IsPassive (unrolled_of v) (passive_of p)) h h.tells in
    exit_within w second (links_of links) (passive_of p) new met words k
    (subst (λ (n : ℕ). IsExit w second (links_of links) p.dag new (where_led w (sum_by line_price (ensured_lines w)))
    (where_led w (sum_by bytes_loaded (ensured_lines w) + same_bytes (links_of links)))
    (where_led w (4 * line_steps (ensured_lines w)) + (variables_of w + 4 + n + 3 * same_bytes (links_of links))) met words)
    (sym (length-map links link_of)) e)
