-- Segments that begin at roots.
use Rattle.std.proofs.Common.{◌≡◌, ℕ, zero, suc, ◌+◌, ◌-◌, ◌*◌, ◌<◌, ◌≤◌, Bool, true, false, ◌&&◌, List, [], ◌∷◌, ◌++◌, Option, Some, length, map, take, get_or, refl, ap, sym, ◌∙◌, subst, arith, not, Contains}
use Rattle.std.specs.Prelude.{filter, if◌then◌else◌, sum_by}
use Rattle.std.specs.List.{list_all}
use Rattle.std.proofs.lemmas.List.Elements.{filter-append}
use Rattle.std.proofs.lemmas.List.Sums.{sum_by-append}
use Rattle.word_spec.specs.Memory.{Endian, endian}
use Rattle.word_spec.specs.State.{State}
use Rattle.bilv_spec.specs.Notes.{Expr, NoteLine, value, is_true}
use Rattle.bilv_spec.specs.Points.{line_price, bytes_loaded}
use Rattle.bilv_spec.specs.Run.{false_line}
use Rattle.term_spec.specs.Terms.{TermNode, HasWidth, AreTyped, term_word}
use Rattle.term_spec.specs.Passive.{AreNames, Denotes, Tells}
use Rattle.walk_spec.specs.Unrolled.{state_at}
use Rattle.walk_spec.specs.Prices.{line_size, line_steps}
use Rattle.frame_spec.specs.FrameWalk.{Check, is_line_false}
use Rattle.term_dag.proofs.Growth.{grew_on, grew_more, grew_none, inputs_on, inputs_none}
use Rattle.note_terms.specs.declared.Now.{Now}
use Rattle.note_terms.specs.Lines.{IsLine}
use Rattle.notes_value.specs.Views.{expr_of}
use Rattle.notes_value.specs.declared.notes.Assert.{Assert as SourceAssert}
use Rattle.term_dag.specs.declared.nodes.Term.{Term}
use Rattle.term_names.specs.declared.names.Names.{Names}
use Rattle.term_names.specs.Views.{form_of, names_of}
use Rattle.question_form.specs.declared.unrolled.Unrolled.{Unrolled}
use Rattle.question_form.specs.FrameViews.{assumed_of as line_of, check_at, is_invariant}
use Rattle.passify.specs.Bits.{Makes, TellsByBoth}
use Rattle.passify.specs.Planted.{AreAssumed, are_true, assumed_lines, assumed_of}
use Rattle.passify.proofs.Checks.{check_is, filter_in, filter_out, later_in}
use Rattle.passify.proofs.Tried.{price_room}
use Rattle.passify.proofs.Kept.{denotes_keep, tells_keep, word_keeps}

-- one line more
and_back : (p q : Bool) → (q && p) ≡ (p && q)
and_back true true = refl
and_back true false = refl
and_back false true = refl
and_back false false = refl

list_all_push : {X : Type 0} (test : X → Bool) (xs : List X) (x : X) → list_all test (xs ++ x ∷ []) ≡ (list_all test xs && test x)
list_all_push test [] x = and_back true (test x)
list_all_push test (y ∷ xs) x = ap (λ b. test y && b) (list_all_push test xs x) ∙ and_assoc (test y) (list_all test xs) (test x)
  where
    and_assoc : (a b c : Bool) → (a && (b && c)) ≡ ((a && b) && c)
    and_assoc true b c = refl
    and_assoc false b c = refl

none_by : (b : Bool) (line : ℕ) (o : Option ℕ) (rest : Bool) → not (is_line_false o) ≡ rest → not (is_line_false (if b then o else Some line)) ≡ (b && rest)
none_by true line o rest e = e
none_by false line o rest e = refl

-- lines are all true where none is false
pub none_false : (e : Endian) (lines : List NoteLine) (now entry : State) →
    not (is_line_false (false_line e lines now entry)) ≡ list_all (λ x. is_true (value e x now entry)) (map (λ l. l.says) lines)
none_false e [] now entry = refl
none_false e (l ∷ lines) now entry =
    none_by (is_true (value e l.says now entry)) l.line (false_line e lines now entry) (list_all (λ x. is_true (value e x now entry)) (map (λ k. k.says) lines))
    (none_false e lines now entry)

pub said_assumed : (checks : List Check) → map (λ l. l.says) (map line_of checks) ≡ map (λ x. x.says) checks
said_assumed [] = refl
said_assumed (x ∷ checks) = ap (λ l. x.says ∷ l) (said_assumed checks)

-- no line
pub assumed_none : (ns : List TermNode) (big : Bool) (now entry : Now) (one : ℕ) → AreTyped ns → HasWidth ns 1 one → AreAssumed ns ns big [] now entry one one
assumed_none ns big now entry one typed w = record {
  grew = grew_none ns;
  inputs = inputs_none ns (λ m. ⊥);
  typed = typed;
  width = w;
  tells = λ x r t c d at from i j. t;
}

-- one line more
pub assumed_on : (old cur mid new : List TermNode) (big : Bool) (lines : List Expr) (now entry here start : Now) (one all bit t : ℕ) (e : Expr) →
    HasWidth old 1 one → AreNames (form_of now.names.now) old (names_of now.names.now) → AreNames (form_of entry.names.now) old (names_of entry.names.now) →
    HasWidth old 32 now.pc.0 → HasWidth old 32 entry.pc.0 → here.names.now ≡ now.names.now → here.pc ≡ now.pc → start.names.now ≡ entry.names.now →
    start.pc ≡ entry.pc → AreAssumed old cur big lines now entry one all → IsLine cur mid big e here start bit →
    Makes mid new 1 2 1 t (TellsByBoth (λ p q. p && q) mid new all bit t) → AreAssumed old new big (lines ++ e ∷ []) now entry one t
assumed_on old cur mid new big lines now entry here start one all bit t e wy ns es wp wq hn hp sn sp k l m = record {
  grew = (
      let g = grew_on old mid new _ _ _ _ _ 1 0 0 0 2 (grew_on old cur mid (sum_by line_price lines) (sum_by bytes_loaded lines) 0 0 (4 * line_steps lines)
      (line_price e - 64) (bytes_loaded e) 0 0 (4 * line_size e + 8) k.grew l.grew) m.grew in
      let a = sum_by-append line_price lines (e ∷ []) in
      let b = sum_by-append bytes_loaded lines (e ∷ []) in
      let c = sum_by-append (λ x. line_size x + 4) lines (e ∷ []) in
      let p = price_room e in
      grew_more old new _ _ _ _ _ (sum_by line_price (lines ++ e ∷ [])) (sum_by bytes_loaded (lines ++ e ∷ [])) 0 0 (4 * line_steps (lines ++ e ∷ []))
      (omega (arith, a, p)) (omega (arith, b)) (omega arith) (omega arith) (omega (arith, c)) g);
  inputs = inputs_on old mid new (λ q. ⊥) (inputs_on old cur mid (λ q. ⊥) k.inputs l.inputs) m.inputs;
  typed = m.typed;
  width = m.width;
  tells = λ x r w c d at from i j.
      let was = tells_keep l.grew x all (are_true big lines (state_at c at) (state_at d from)) k.width.0 (k.tells x r w c d at from i j) in
      let is = l.value x r c d at from
      (record {
        carried = subst (λ (n : Names). Denotes (form_of n) cur x (names_of n) c) (sym hn) (denotes_keep k.grew x now.names.now c ns i.carried);
        pc = ap (λ (q : Term). term_word x cur q.0) hp ∙ word_keeps k.grew x now.pc.0 wp.0 ∙ i.pc;
      })
      (record {
        carried = subst (λ (n : Names). Denotes (form_of n) cur x (names_of n) d) (sym sn) (denotes_keep k.grew x entry.names.now d es j.carried);
        pc = ap (λ (q : Term). term_word x cur q.0) sp ∙ word_keeps k.grew x entry.pc.0 wq.0 ∙ j.pc;
      }) in
      subst (λ (b : Bool). Tells new x t b)
      (sym (list_all_push (λ y. is_true (value (endian big) y (state_at c at) (state_at d from))) lines e))
      (m.holds x r (are_true big lines (state_at c at) (state_at d from)) (is_true (value (endian big) e (state_at c at) (state_at d from))) was is);
}

pub take_more : {X : Type 0} (xs : List X) (i : ℕ) (x : X) → i < length xs → x ≡ get_or xs i x → take (i + 1) xs ≡ take i xs ++ x ∷ []
take_more xs i x l e = ap (λ (k : ℕ). take k xs) (let q : i + 1 ≡ suc i = omega arith in q) ∙ go xs i x l e
  where
    go : {X : Type 0} (xs : List X) (i : ℕ) (x : X) → i < length xs → x ≡ get_or xs i x → take (suc i) xs ≡ take i xs ++ x ∷ []
    go [] i x l e = absurd (omega (arith, l))
    go (y ∷ xs) zero x l e = ap (λ z. z ∷ []) (sym e)
    go (y ∷ xs) (suc i) x l e = ap (λ z. y ∷ z) (go xs i x (omega (arith, l)) e)

pub take_whole : {X : Type 0} (xs : List X) (i : ℕ) → length xs ≤ i → take i xs ≡ xs
take_whole [] zero l = refl
take_whole [] (suc i) l = refl
take_whole (y ∷ xs) zero l = absurd (omega (arith, l))
take_whole (y ∷ xs) (suc i) l = ap (λ z. y ∷ z) (take_whole xs i (omega (arith, l)))

nothing_more : (xs : List Expr) → xs ++ [] ≡ xs
nothing_more [] = refl
nothing_more (x ∷ xs) = ap (λ (z : List Expr). x ∷ z) (nothing_more xs)

map_says : (xs ys : List Check) → map (λ x. x.says) (xs ++ ys) ≡ map (λ x. x.says) xs ++ map (λ x. x.says) ys
map_says [] ys = refl
map_says (x ∷ xs) ys = ap (λ z. x.says ∷ z) (map_says xs ys)

map_checks : (u : Unrolled) (xs ys : List (ℕ × ℕ)) → map (check_at u) (xs ++ ys) ≡ map (check_at u) xs ++ map (check_at u) ys
map_checks u [] ys = refl
map_checks u (x ∷ xs) ys = ap (λ z. check_at u x ∷ z) (map_checks u xs ys)

lines_more : (u : Unrolled) (xs ys : List (ℕ × ℕ)) → assumed_lines u (xs ++ ys) ≡ assumed_lines u xs ++ assumed_lines u ys
lines_more u xs ys =
    ap (λ (z : List Check). map (λ x. x.says) (filter (λ x. x.invariant) z)) (map_checks u xs ys)
    ∙ ap (λ (z : List Check). map (λ x. x.says) z) (filter-append (λ (x : Check). x.invariant) (map (check_at u) xs) (map (check_at u) ys))
    ∙ map_says (filter (λ x. x.invariant) (map (check_at u) xs)) (filter (λ x. x.invariant) (map (check_at u) ys))

-- one entry of the lines by address more: its line is an invariant, or it is passed over
module _ (u : Unrolled) (index : List (ℕ × ℕ)) (i : ℕ) (x : ℕ × ℕ) (l : SourceAssert) (there : i < length index) (at : x ≡ get_or index i x)
    (within : x.1 < length u.notes.now.asserts.items) (is : l ≡ get_or u.notes.now.asserts.items x.1 l) where
  pub assumed_first : is_invariant u l.line ≡ true → assumed_lines u (take (i + 1) index) ≡ assumed_lines u (take i index) ++ expr_of l.says ∷ []
  assumed_first e =
      ap (assumed_lines u) (take_more index i x there at) ∙ lines_more u (take i index) (x ∷ [])
      ∙ ap (λ (z : List Check). assumed_lines u (take i index) ++ map (λ c. c.says) z)
      (filter_in (λ c. c.invariant) (check_at u x) [] (ap (λ c. c.invariant) (check_is u x l within is) ∙ e))
      ∙ ap (λ (c : Check). assumed_lines u (take i index) ++ c.says ∷ []) (check_is u x l within is)

  pub passed_first : is_invariant u l.line ≡ false → assumed_lines u (take (i + 1) index) ≡ assumed_lines u (take i index)
  passed_first e =
      ap (assumed_lines u) (take_more index i x there at) ∙ lines_more u (take i index) (x ∷ [])
      ∙ ap (λ (z : List Check). assumed_lines u (take i index) ++ map (λ c. c.says) z)
      (filter_out (λ c. c.invariant) (check_at u x) [] (ap (λ c. c.invariant) (check_is u x l within is) ∙ e))
      ∙ nothing_more (assumed_lines u (take i index))

-- an invariant is among those that are assumed
pub assumed_among : (u : Unrolled) (index : List (ℕ × ℕ)) (i : ℕ) (x : ℕ × ℕ) (l : SourceAssert) → i < length index → x ≡ get_or index i x →
    x.1 < length u.notes.now.asserts.items → l ≡ get_or u.notes.now.asserts.items x.1 l → is_invariant u l.line ≡ true →
    Contains (assumed_lines u index) (expr_of l.says)
assumed_among u [] i x l h at within is e = absurd (omega (arith, h))
assumed_among u (y ∷ ys) zero x l h at within is e =
    subst (λ (z : ℕ × ℕ). Contains (assumed_lines u (z ∷ ys)) (expr_of l.says)) at
    (subst (λ (cs : List Check). Contains (map (λ c. c.says) cs) (expr_of l.says))
    (sym (filter_in (λ c. c.invariant) (check_at u x) (map (check_at u) ys) (ap (λ c. c.invariant) (check_is u x l within is) ∙ e)
    ∙ ap (λ (c : Check). c ∷ assumed_of u ys) (check_is u x l within is))) (0, omega arith, refl))
assumed_among u (y ∷ ys) (suc i) x l h at within is e =
    later_in (λ c. c.invariant) (λ c. c.says) (check_at u y) (map (check_at u) ys) (expr_of l.says)
    (assumed_among u ys i x l (omega (arith, h)) at within is e)
