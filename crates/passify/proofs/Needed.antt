-- What a contract needs and gives, line by line.
use Rattle.std.proofs.Common.{◌≡◌, ℕ, ◌+◌, ◌-◌, ◌*◌, Bool, true, false, ◌&&◌, not, List, [], ◌∷◌, ◌++◌, Option, Some, None, refl, ap, sym, ◌∙◌, arith}
use Rattle.std.specs.Prelude.{if◌then◌else◌, sum_by}
use Rattle.std.proofs.lemmas.List.{map-append}
use Rattle.std.proofs.lemmas.List.Sums.{sum_by-append}
use Rattle.word_spec.specs.Words.{bit}
use Rattle.word_spec.specs.Memory.{Endian, endian}
use Rattle.word_spec.specs.State.{State}
use Rattle.machine_spec.specs.Endings.{JumpFails}
use Rattle.bilv_spec.specs.Notes.{Expr, NoteLine, value, is_true}
use Rattle.bilv_spec.specs.Points.{line_price, bytes_loaded}
use Rattle.bilv_spec.specs.Run.{false_line}
use Rattle.term_spec.specs.Terms.{TermReading, InRange, TermNode, AreTyped, HasWidth}
use Rattle.term_spec.specs.Passive.{Tells}
use Rattle.walk_spec.specs.Unrolled.{WalkFails, Carried, carried_of, state_at}
use Rattle.walk_spec.specs.Sweep.{Held, held_if, hand}
use Rattle.walk_spec.specs.Prices.{line_size, line_steps}
use Rattle.frame_spec.specs.Frames.{NeedsFails}
use Rattle.frame_spec.specs.FramePoints.{says_of}
use Rattle.frame_spec.specs.FrameWalk.{PointExit, is_line_false}
use Rattle.term_dag.proofs.Growth.{grew_on, grew_more, grew_none, inputs_on, inputs_none}
use Rattle.note_terms.specs.declared.Now.{Now}
use Rattle.note_terms.specs.Lines.{AreStateTerms, IsLine, IsStateOf}
use Rattle.note_terms.proofs.Valued.{is_state_stays}
use Rattle.passify.specs.declared.sweep.Sweep.{Sweep}
use Rattle.passify.specs.Bits.{Makes, TellsByBoth}
use Rattle.passify.specs.Calls.{AreGiven, NeedsTried, goes_needs}
use Rattle.passify.specs.Exits.{Narrows, Tries}
use Rattle.passify.specs.Situations.{IsThere, Situation}
use Rattle.passify.specs.Sweeps.{AreWell, HasEvent, Steps}
use Rattle.passify.proofs.Kept.{tells_keep, tells_some, word_keeps}
use Rattle.passify.proofs.Lines.{event_by, lines_more}
use Rattle.passify.proofs.Tried.{bit_true, price_room, tries_later}

not_not : (q : Bool) → not (not q) ≡ q
not_not true = refl
not_not false = refl

-- a line of what a contract needs before others
need_by : (l : NoteLine) (lines : List NoteLine) (S : Situation) (tail : List PointExit) (h : Held) →
    goes_needs (l ∷ lines) S tail h ≡ held_if (not (is_true (value S.program.endian l.says S.now S.now))) (hand (WalkFails JumpFails) h)
    (goes_needs lines S tail h)
need_by l lines S tail h =
    event_by (not (is_true (value S.program.endian l.says S.now S.now))) S.program S.entry S.next (NeedsFails l.line) _ h

module _ (old cur mid new : List TermNode) (s z y : Sweep) (rest left last : ℕ) (big : Bool) (n : Now) (all others : List NoteLine) (l : NoteLine) (hit : ℕ)
    (w : AreWell cur z) (wl : HasWidth cur 1 left) (terms : AreStateTerms old n)
    (k : NeedsTried old cur s z rest left big n all (l ∷ others)) (m : IsLine cur mid big l.says n n hit)
    (steps : Steps mid new z y 3 0 0 0 8 (λ m. ⊥)) (width : HasWidth new 1 last)
    (tries : Tries mid new z y left last (λ x q. Tells mid x hit (not q)) (λ from x v b. HasEvent v))
    (narrows : Narrows mid new left last (λ x q. Tells mid x hit (not q))) where
  one : Steps cur new z y (line_price l.says) (bytes_loaded l.says) 0 0 (4 * (line_size l.says + 4)) (λ m. ⊥)
  one =
      let h = price_room l.says in
      record {
        grew = grew_more cur new (line_price l.says - 64 + 3) (bytes_loaded l.says + 0) (0 + 0) (0 + 0) (4 * line_size l.says + 8 + 8)
            (line_price l.says) (bytes_loaded l.says) 0 0 (4 * (line_size l.says + 4))
            (omega (arith, h)) (omega arith) (omega arith) (omega arith) (omega arith)
            (grew_on cur mid new (line_price l.says - 64) (bytes_loaded l.says) 0 0 (4 * line_size l.says + 8) 3 0 0 0 8 m.grew steps.grew);
        inputs = inputs_on cur mid new (λ m. ⊥) m.inputs steps.inputs;
        well = steps.well;
        like = steps.like;
      }

  told : (x : TermReading) → InRange x → (S : Situation) → IsThere old s big n (λ T. T.now) x S →
      Tells mid x hit (not (not (is_true (value S.program.endian l.says S.now S.now))))
  told x r S f =
      let is = is_state_stays old cur _ _ _ _ _ n x (carried_of S.now) S.now.pc k.lines.steps.grew terms f.is in
      m.value x r (carried_of S.now) (carried_of S.now) S.now.pc S.now.pc is is
      ∙ ap (λ (e : Endian). bit (is_true (value e l.says S.now S.now))) (sym f.endian)
      ∙ ap bit (sym (not_not (is_true (value S.program.endian l.says S.now S.now))))

  pub need_tried : NeedsTried old new s y rest last big n all others
  need_tried = record {
    lines = lines_more old cur new s z y (says_of all) (says_of others) l.says k.lines one;
    bit = width;
    tries = λ x r from S fits before after tail pending.
        tries_later cur mid new z y left last (λ x q. Tells mid x hit (not q)) (λ x q. Tells mid x hit (not q)) (λ from x v b. HasEvent v)
        (λ from x v b. HasEvent v) _ _ _ _ _ m.grew w wl (λ x r q f. f) (λ from x v b f. f) tries x r from (WalkFails JumpFails)
        (not (is_true (value S.program.endian l.says S.now S.now))) (λ h. told x r S (fits (k.narrows x r h).0))
        (λ b h. (JumpFails, refl)) before after (goes_needs (l ∷ others) S tail before) (goes_needs others S tail before) (need_by l others S tail before)
        (k.tries x r from S fits before after tail pending);
    narrows = λ x r h. k.narrows x r (sym (word_keeps m.grew x left wl.0) ∙ (narrows x r h).0);
  }

-- no line of what a contract gives
pub given_none : (ns : List TermNode) (rest : ℕ) (big : Bool) (next now : Now) → AreTyped ns → HasWidth ns 1 rest → AreGiven ns ns rest rest big next now []
given_none ns rest big next now typed w = record {
  grew = grew_none ns;
  inputs = inputs_none ns (λ m. ⊥);
  typed = typed;
  bit = w;
  narrows = λ x r h. h;
  tells = λ x r p h c d to at st. h ∙ ap bit (and_true p);
}
  where
    and_true : (p : Bool) → p ≡ (p && true)
    and_true true = refl
    and_true false = refl

true_all : (e : Endian) (lines : List NoteLine) (l : NoteLine) (now entry : State) →
    not (is_line_false (false_line e (lines ++ l ∷ []) now entry)) ≡ (not (is_line_false (false_line e lines now entry)) && is_true (value e l.says now entry))
true_all e [] l now entry = last (is_true (value e l.says now entry))
  where
    last : (b : Bool) → not (is_line_false (if b then None else Some l.line)) ≡ (true && b)
    last true = refl
    last false = refl
true_all e (m ∷ lines) l now entry =
    first (is_true (value e m.says now entry)) (false_line e (lines ++ l ∷ []) now entry) (false_line e lines now entry) (true_all e lines l now entry)
  where
    first : (b : Bool) (o q : Option ℕ) → not (is_line_false o) ≡ (not (is_line_false q) && is_true (value e l.says now entry)) →
        not (is_line_false (if b then o else Some m.line)) ≡ (not (is_line_false (if b then q else Some m.line)) && is_true (value e l.says now entry))
    first true o q h = h
    first false o q h = refl

and_three : (p a b : Bool) → ((p && a) && b) ≡ (p && (a && b))
and_three true a b = refl
and_three false a b = refl

left_of : (p q : Bool) → (p && q) ≡ true → p ≡ true
left_of true q h = refl
left_of false q h = h

-- one line more
pub given_more : (old cur mid new : List TermNode) (rest left hit t : ℕ) (big : Bool) (next now : Now) (lines : List NoteLine) (l : NoteLine) →
    AreStateTerms old next → AreStateTerms old now → AreGiven old cur rest left big next now lines → AreTyped mid → IsLine cur mid big l.says next now hit →
    Makes mid new 1 2 1 t (TellsByBoth (λ p q. p && q) mid new left hit t) → AreGiven old new rest t big next now (lines ++ l ∷ [])
given_more old cur mid new rest left hit t big next now lines l tn tw k typed m b =
    let G = sum_by line_price (says_of lines) in let L = sum_by bytes_loaded (says_of lines) in let N = line_steps (says_of lines) in
    let says : says_of (lines ++ l ∷ []) ≡ says_of lines ++ l.says ∷ [] = map-append (λ (z : NoteLine). z.says) lines (l ∷ []) in
    let g = ap (sum_by line_price) says ∙ sum_by-append line_price (says_of lines) (l.says ∷ []) in
    let lo = ap (sum_by bytes_loaded) says ∙ sum_by-append bytes_loaded (says_of lines) (l.says ∷ []) in
    let n = ap line_steps says ∙ sum_by-append (λ (e : Expr). line_size e + 4) (says_of lines) (l.says ∷ []) in
    let h = price_room l.says in
    record {
      grew = grew_more old new (G + (line_price l.says - 64 + 1)) (L + (bytes_loaded l.says + 0)) 0 0 (4 * N + (4 * line_size l.says + 8 + 2))
          (sum_by line_price (says_of (lines ++ l ∷ []))) (sum_by bytes_loaded (says_of (lines ++ l ∷ []))) 0 0 (4 * line_steps (says_of (lines ++ l ∷ [])))
          (omega (arith, g, h)) (omega (arith, lo)) (omega arith) (omega arith) (omega (arith, n))
          (grew_on old cur new G L 0 0 (4 * N) (line_price l.says - 64 + 1) (bytes_loaded l.says + 0) 0 0 (4 * line_size l.says + 8 + 2) k.grew
          (grew_on cur mid new (line_price l.says - 64) (bytes_loaded l.says) 0 0 (4 * line_size l.says + 8) 1 0 0 0 2 m.grew b.grew));
      inputs = inputs_on old cur new (λ m. ⊥) k.inputs (inputs_on cur mid new (λ m. ⊥) m.inputs b.inputs);
      typed = b.typed;
      bit = b.width;
      narrows = λ x r e.
          let p = tells_some x cur left r k.typed k.bit in
          let q = tells_some x mid hit r typed m.width in
          let both = left_of p.0 q.0 (bit_true (p.0 && q.0) (sym (b.holds x r p.0 q.0 (tells_keep m.grew x left p.0 k.bit.0 p.1) q.1) ∙ e)) in
          k.narrows x r (p.1 ∙ ap bit both);
      tells = λ x r p hp c d to at st. by x r p hp c d to at st;
    }
  where
    by : (x : TermReading) → InRange x → (p : Bool) → Tells old x rest p → (c d : Carried) (to at : ℕ) →
        (p ≡ true → IsStateOf old x next c to × IsStateOf old x now d at) →
        Tells new x t (p && not (is_line_false (false_line (endian big) (lines ++ l ∷ []) (state_at c to) (state_at d at))))
    by x r true hp c d to at st =
        let a = not (is_line_false (false_line (endian big) lines (state_at c to) (state_at d at))) in
        let v = is_true (value (endian big) l.says (state_at c to) (state_at d at)) in
        b.holds x r (true && a) v (tells_keep m.grew x left (true && a) k.bit.0 (k.tells x r true hp c d to at st))
        (m.value x r c d to at (is_state_stays old cur _ _ _ _ _ next x c to k.grew tn (st refl).0) (is_state_stays old cur _ _ _ _ _ now x d at k.grew tw (st refl).1))
        ∙ ap bit (sym (true_all (endian big) lines l (state_at c to) (state_at d at)))
    by x r false hp c d to at st =
        let q = tells_some x mid hit r typed m.width in
        b.holds x r false q.0 (tells_keep m.grew x left false k.bit.0 (k.tells x r false hp c d to at st)) q.1
