-- The bytes that the frame's own contract may write, before any segment has begun.
use Rattle.std.proofs.Common.{◌≡◌, ℕ, ◌+◌, ◌-◌, ◌*◌, ◌≤◌, List, [], ◌∷◌, Option, Some, None, Contains, length, map, refl, ap, sym, ◌∙◌, subst, arith}
use Rattle.std.specs.Prelude.{sum_by}
use Rattle.std.proofs.lemmas.List.{length-map}
use Rattle.std.proofs.lemmas.List.Sums.{sum_by-cons}
use Rattle.bilv_spec.specs.Notes.{Expr}
use Rattle.bilv_spec.specs.Points.{line_price, bytes_loaded}
use Rattle.term_spec.specs.Terms.{TermNode, AreTyped, term_word}
use Rattle.term_spec.specs.Passive.{Denotes}
use Rattle.walk_spec.specs.Unrolled.{state_at}
use Rattle.walk_spec.specs.Unrolling.{IsReadable}
use Rattle.walk_spec.specs.Prices.{line_size, line_steps}
use Rattle.frame_spec.specs.Frames.{Contract, Writes}
use Rattle.frame_spec.specs.FrameUnrolling.{own_of}
use Rattle.frame_laws.specs.FramePrices.{own_lines, own_writes}
use Rattle.frame_terms.specs.PassiveFrames.{CanReadOwn, IsWalkable, inputs_of}
use Rattle.term_dag.proofs.Growth.{grew_more, grew_none, inputs_none}
use Rattle.notes_value.specs.FrameViews.{writes_of}
use Rattle.notes_value.specs.Views.{expr_of}
use Rattle.notes_value.specs.declared.notes.Writes.{Writes as Source}
use Rattle.question_form.specs.declared.unrolled.Unrolled.{Unrolled}
use Rattle.question_form.specs.FrameViews.{frame_unrolled_of, own_contract}
use Rattle.term_names.specs.declared.names.Names.{Names}
use Rattle.term_names.specs.Views.{AreFor, form_of, names_of}
use Rattle.note_terms.specs.declared.Now.{Now}
use Rattle.passify.specs.declared.spans.Span.{Span}
use Rattle.passify.specs.Planted.{AreOwnSpans}
use Rattle.passify.specs.Spans.{AreSpans, places_by}
use Rattle.passify.proofs.Lines.{map_among}
use Rattle.passify.proofs.Standing.{reads_for}
use Rattle.passify.proofs.Tried.{price_room}

-- where the frame has no contract of its own
pub owned_none : (u : Unrolled) (ns : List TermNode) (entry : Names) (pc : ℕ) (spans : List Span) → own_contract u ≡ None → AreTyped ns → spans ≡ [] →
    AreOwnSpans u ns ns entry pc spans
owned_none u ns entry pc spans none typed empty =
    let f = frame_unrolled_of u in
    subst (λ (z : List Span). AreOwnSpans u ns ns entry pc z) (sym empty) (record {
      grew = grew_more ns ns 0 0 0 0 0 (sum_by line_price (own_lines f)) (sum_by bytes_loaded (own_lines f)) 0 0 (4 * line_steps (own_lines f))
          (omega arith) (omega arith) (omega arith) (omega arith) (omega arith) (grew_none ns);
      inputs = inputs_none ns (λ m. ⊥);
      typed = typed;
      each = λ k (i, l, e). absurd (omega (arith, l));
      count = sym (ap (λ (o : Option Contract). own_writes (record f { own = own_of o })) none);
      written = λ x r c at d e. sym (ap (λ (o : Option Contract). places_by u o (state_at c at)) none);
    })

-- what lines cost, as they are evaluated
room_gates : (ws : List Writes) → sum_by (λ w. line_price w.says - 64) ws ≤ sum_by line_price (map (λ w. w.says) ws)
room_gates [] = omega arith
room_gates (w ∷ ws) =
    let a = sum_by-cons (λ (v : Writes). line_price v.says - 64) w ws in
    let b = sum_by-cons line_price w.says (map (λ (v : Writes). v.says) ws) in
    let p = price_room w.says in let r = room_gates ws in omega (arith, a, b, p, r)

room_loads : (ws : List Writes) → sum_by (λ w. bytes_loaded w.says) ws ≡ sum_by bytes_loaded (map (λ w. w.says) ws)
room_loads [] = refl
room_loads (w ∷ ws) =
    let a = sum_by-cons (λ (v : Writes). bytes_loaded v.says) w ws in
    let b = sum_by-cons bytes_loaded w.says (map (λ (v : Writes). v.says) ws) in let r = room_loads ws in omega (arith, a, b, r)

room_nodes : (ws : List Writes) → sum_by (λ w. 4 * line_size w.says + 8) ws ≤ 4 * line_steps (map (λ w. w.says) ws)
room_nodes [] = omega arith
room_nodes (w ∷ ws) =
    let a = sum_by-cons (λ (v : Writes). 4 * line_size v.says + 8) w ws in
    let b = sum_by-cons (λ (e : Expr). line_size e + 4) w.says (map (λ (v : Writes). v.says) ws) in let r = room_nodes ws in omega (arith, a, b, r)

-- and where it has one
pub owned_some : (u : Unrolled) (o : Contract) → own_contract u ≡ Some o → (old new : List TermNode) (entry : Names) (pc one : ℕ) (now : Now)
    (spans : List Span) (writes : List Writes) → AreSpans old new u.big now one writes spans → writes ≡ o.writes → now.names.now ≡ entry → now.pc.0 ≡ pc →
    AreOwnSpans u old new entry pc spans
owned_some u o own old new entry pc one now spans writes given are names at =
    let m = subst (λ (z : List Writes). AreSpans old new u.big now one z spans) are given in
    let f = frame_unrolled_of u in
    let e : own_lines f ≡ map (λ w. w.says) o.writes = ap (λ (q : Option Contract). own_lines (record f { own = own_of q })) own in
    let g = ap (λ (es : List Expr). sum_by line_price es) e in
    let l = ap (λ (es : List Expr). sum_by bytes_loaded es) e in
    let n = ap (λ (es : List Expr). line_steps es) e in
    let rg = room_gates o.writes in let rl = room_loads o.writes in let rn = room_nodes o.writes in
    record {
      grew = grew_more old new _ _ _ _ _ (sum_by line_price (own_lines f)) (sum_by bytes_loaded (own_lines f)) 0 0 (4 * line_steps (own_lines f))
          (omega (arith, g, rg)) (omega (arith, l, rl)) (omega arith) (omega arith) (omega (arith, n, rn)) m.grew;
      inputs = m.inputs;
      typed = m.typed;
      each = λ k c. (m.each k c).0;
      count = sym (length-map spans (λ (s : Span). s.bytes)) ∙ ap (λ (z : List ℕ). length z) m.counts ∙ length-map o.writes (λ (w : Writes). w.count)
          ∙ sym (ap (λ (q : Option Contract). own_writes (record f { own = own_of q })) own);
      written = λ x r c from d p.
          m.written x r c from (record {
            carried = subst (λ (z : Names). Denotes (form_of z) old x (names_of z) c) (sym names) d;
            pc = ap (λ (t : ℕ). term_word x old t) at ∙ p;
          }) ∙ sym (ap (λ (q : Option Contract). places_by u q (state_at c from)) own);
    }

-- its lines can be read
pub own_read : (u : Unrolled) (o : Contract) → own_contract u ≡ Some o → IsWalkable (frame_unrolled_of u) → (entry : Names) →
    AreFor (inputs_of (frame_unrolled_of u)) entry → (writes : List Source) → map writes_of writes ≡ o.writes → (w : Source) → Contains writes w →
    IsReadable (form_of entry) (expr_of w.says) × (1 ≤ w.count)
own_read u o own walkable entry form writes are w at =
    let f = frame_unrolled_of u in
    let q = (subst (λ (p : Option Contract). CanReadOwn f (own_of p)) own walkable.own).1 (writes_of w)
    (subst (λ (z : List Writes). Contains z (writes_of w)) are (map_among writes_of writes w at)) in
    (reads_for (inputs_of f) entry entry form (record { first = refl; registers = refl; flags = refl }) (expr_of w.says) q.0, q.1)
