-- An exit that is tried.
use Rattle.std.proofs.Common.{◌≡◌, inl, inr, ℕ, ◌+◌, ◌-◌, ◌*◌, ◌<◌, ◌≤◌, Bool, true, false, List, [], ◌∷◌, ◌++◌, refl, ap, sym, ◌∙◌, subst, arith}
use Rattle.std.specs.Prelude.{◌&&◌, not, ◌==◌, if◌then◌else◌}
use Rattle.std.proofs.lemmas.Bool.Decides.{nat_tests}
use Rattle.word_spec.specs.Words.{bit}
use Rattle.word_spec.specs.Words as Words
use Rattle.word_spec.specs.Memory.{endian}
use Rattle.bilv_spec.specs.Notes.{Expr, value, is_true}
use Rattle.bilv_spec.specs.Points.{line_price, bytes_loaded, products, operations, value_count}
use Rattle.walk_spec.specs.Prices.{line_size}
use Rattle.term_spec.specs.Terms.{TermReading, InRange, TermNode, AreTyped, AreTypedFrom, HasWidth, term_word}
use Rattle.walk_spec.specs.Unrolled.{Walk, state_at}
use Rattle.walk_spec.specs.Sweep.{Held, held_if, hand}
use Rattle.term_spec.specs.Passive.{Tells, Denotes}
use Rattle.term_dag.specs.Made.{Grew, InputsFrom, Extends}
use Rattle.term_dag.specs.declared.nodes.Term.{Term}
use Rattle.term_names.specs.declared.names.Names.{Names}
use Rattle.term_names.specs.Views.{form_of, names_of}
use Rattle.term_names.specs.Chosen.{at_entry}
use Rattle.note_terms.specs.declared.Now.{Now}
use Rattle.note_terms.specs.Lines.{IsLine, IsStateOf}
use Rattle.term_dag.proofs.Growth.{grew_on, grew_more, grew_width, inputs_on}
use Rattle.passify.specs.declared.sweep.Sweep.{Sweep}
use Rattle.passify.specs.Bits.{IsSplit, Makes, TellsBy, TellsByBoth}
use Rattle.passify.specs.Sweeps.{AreWell, AreLike, ShowsAt, Steps, Hands, HasEvent}
use Rattle.passify.specs.Exits.{IsPending, Tries, Narrows, LineFails}
use Rattle.passify.proofs.Kept.{truth, tells_some, tells_keep, word_keeps, shows_keep, well_keeps}

pub bit_true : (b : Bool) → bit b ≡ 1 → b ≡ true
bit_true true e = refl
bit_true false e = absurd (omega arith)

pub bit_false : (b : Bool) → bit b ≡ 0 → b ≡ false
bit_false true e = absurd (omega arith)
bit_false false e = refl

left_true : (p q : Bool) → (p && not q) ≡ true → (p ≡ true) × (q ≡ false)
left_true true true e = absurd (no e)
  where
    no : false ≡ true → ⊥
    no e = cc
left_true true false e = (refl, refl)
left_true false q e = absurd (no e)
  where
    no : false ≡ true → ⊥
    no e = cc

both_true : (p q : Bool) → (p && q) ≡ true → p ≡ true
both_true true q e = refl
both_true false q e = e

-- A bit is cut in two by a test: one part is 1 where the test holds, the other where it does not.
pub record IsCut (old mid : List TermNode) (rest hit left : ℕ) (Takes : TermReading → Bool → Type 0) : Type 0 where
  pub grew : Grew old mid 2 0 0 0 6
  pub inputs : InputsFrom old mid (λ m. ⊥)
  pub typed : AreTyped mid
  pub rest_bit : HasWidth old 1 rest
  pub hit_bit : HasWidth mid 1 hit
  pub left_bit : HasWidth mid 1 left
  pub some : (x : TermReading) → InRange x → (q : Bool) × Takes x q
  pub tells_hit : (x : TermReading) → InRange x → (p q : Bool) → Tells old x rest p → Takes x q → Tells mid x hit (p && q)
  pub tells_left : (x : TermReading) → InRange x → (p q : Bool) → Tells old x rest p → Takes x q → Tells mid x left (p && not q)

not_not : (q : Bool) → not (not q) ≡ q
not_not true = refl
not_not false = refl

module _ (old mid : List TermNode) (rest bit on off : ℕ) (typed : AreTyped old) (wr : HasWidth old 1 rest) (wb : HasWidth old 1 bit)
    (split : IsSplit old mid rest bit on off) where
  -- the test is that the bit is 1
  pub cut_on : IsCut old mid rest on off (λ x q. Tells old x bit q)
  cut_on = record {
    grew = split.grew;
    inputs = split.inputs;
    typed = split.typed;
    rest_bit = wr;
    hit_bit = split.on_bit;
    left_bit = split.off_bit;
    some = λ x r. tells_some x old bit r typed wb;
    tells_hit = λ x r p q a b. split.tells_on x r p q a b;
    tells_left = λ x r p q a b. split.tells_off x r p q a b;
  }

  -- the test is that it is not
  pub cut_off : IsCut old mid rest off on (λ x q. Tells old x bit (not q))
  cut_off = record {
    grew = split.grew;
    inputs = split.inputs;
    typed = split.typed;
    rest_bit = wr;
    hit_bit = split.off_bit;
    left_bit = split.on_bit;
    some = λ x r. let t = tells_some x old bit r typed wb in (not t.0, subst (λ (z : Bool). Tells old x bit z) (sym (not_not t.0)) t.1);
    tells_hit = λ x r p q a b. subst (λ (z : Bool). Tells mid x off (p && z)) (not_not q) (split.tells_off x r p (not q) a b);
    tells_left = λ x r p q a b. split.tells_on x r p (not q) a b;
  }

module _ (old mid new : List TermNode) (s z : Sweep) (rest on off : ℕ) (Takes : TermReading → Bool → Type 0) (Is : ℕ → TermReading → Walk → Bool → Type 0)
    (cut : IsCut old mid rest on off Takes) (w : AreWell old s) where
  -- what is held after an exit
  held_on : (x : TermReading) (from : ℕ) (v : Walk) (p q : Bool) (before after go rests : Held) → (p ≡ true → after ≡ go) →
      go ≡ held_if q (hand v before) rests →
      ShowsAt new z from x (held_if (p && q) (hand v (held_if p before after)) (held_if p before after)) →
      ShowsAt new z from x (held_if (p && not q) before after)
  held_on x from v true true before after go rests g e k = subst (λ (y : Held). ShowsAt new z from x y) (sym (g refl ∙ e)) k
  held_on x from v true false before after go rests g e k = k
  held_on x from v false q before after go rests g e k = k

  goes_on : (p q : Bool) (v : Walk) (before after go rests : Held) → (p ≡ true → after ≡ go) → go ≡ held_if q (hand v before) rests → (p && not q) ≡ true →
      after ≡ rests
  goes_on true false v before after go rests g e h = g refl ∙ e
  goes_on true true v before after go rests g e h = absurd (no h)
    where
      no : false ≡ true → ⊥
      no e = cc
  goes_on false q v before after go rests g e h = absurd (no h)
    where
      no : false ≡ true → ⊥
      no e = cc

  module _ (g l st j n : ℕ) (grew : Grew mid new g l st j n) (hands : Hands mid new s z on Is) where
    exit_by : (x : TermReading) → InRange x → (from : ℕ) (v : Walk) (p q : Bool) → ((b : Bool) → (b ≡ true → p ≡ true) → Is from x v b) →
        (before after go rests : Held) → Tells old x rest p → Takes x q →
        (p ≡ true → after ≡ go) → go ≡ held_if q (hand v before) rests → ShowsAt old s from x (held_if p before after) →
        IsPending new z from x off before after rests
    exit_by x r from v p q is before after go rests tp tq ge e shows = record {
      some = p && not q;
      tells = tells_keep grew x off (p && not q) cut.left_bit.0 (cut.tells_left x r p q tp tq);
      goes = goes_on p q v before after go rests ge e;
      shows = held_on x from v p q before after go rests ge e
          (hands x r from v (p && q) (is (p && q) (both_true p q)) (cut.tells_hit x r p q tp tq) (held_if p before after)
          (shows_keep cut.grew s from x (held_if p before after) w shows));
    }

    pub exit_on : Tries old new s z rest off Takes Is
    exit_on x r from v q taken is before after go rests e k = by k.some k.tells k.goes k.shows
      where
        by : (p : Bool) → Tells old x rest p → (p ≡ true → after ≡ go) → ShowsAt old s from x (held_if p before after) →
            IsPending new z from x off before after rests
        by true t g sh = exit_by x r from v true q (λ b f. is b (λ h. t)) before after go rests t (taken t) g e sh
        by false t g sh =
            let some = cut.some x r in
            record {
              some = false;
              tells = tells_keep grew x off false cut.left_bit.0 (cut.tells_left x r false some.0 t some.1);
              goes = λ h. absurd (no h);
              shows = hands x r from v false (is false (λ h. absurd (no h))) (cut.tells_hit x r false some.0 t some.1) after
                  (shows_keep cut.grew s from x after w sh);
            }
          where
            no : false ≡ true → ⊥
            no e = cc

    pub narrows_on : Narrows old new rest off Takes
    narrows_on x r e =
        let p = tells_some x old rest r w.typed cut.rest_bit in
        let q = cut.some x r in
        let left = cut.tells_left x r p.0 q.0 p.1 q.1 in
        let b : bit (p.0 && not q.0) ≡ 1 = sym left ∙ sym (word_keeps grew x off cut.left_bit.0) ∙ e in
        let both = left_true p.0 q.0 (bit_true (p.0 && not q.0) b) in
        (p.1 ∙ ap bit both.0, subst (Takes x) both.1 q.1)

    pub cut_steps : AreWell new z → InputsFrom mid new (λ m. ⊥) → AreLike s z → Steps old new s z (2 + g) (0 + l) (0 + st) (0 + j) (6 + n) (λ m. ⊥)
    cut_steps wz inputs like = record {
      grew = grew_on old mid new 2 0 0 0 6 g l st j n cut.grew grew;
      inputs = inputs_on old mid new (λ m. ⊥) cut.inputs inputs;
      well = wz;
      like = like;
    }

    pub cut_bit : HasWidth new 1 off
    cut_bit = grew_width mid new g l st j n 1 off grew cut.left_bit

-- a split by its steps
pub split_made : (old a b new : List TermNode) (rest bit on missed off : ℕ) → HasWidth old 1 rest → HasWidth old 1 bit →
    Makes old a 1 2 1 on (TellsByBoth (λ p q. p && q) old a rest bit on) →
    Makes a b 0 2 1 missed (TellsBy (λ p. not p) a b bit missed) → Makes b new 1 2 1 off (TellsByBoth (λ p q. p && q) b new rest missed off) →
    IsSplit old new rest bit on off
split_made old a b new rest bit on missed off wr wb m1 m2 m3 =
    let g2 = grew_on old a b 1 0 0 0 2 0 0 0 0 2 m1.grew m2.grew in
    let g3 = grew_on a b new 0 0 0 0 2 1 0 0 0 2 m2.grew m3.grew in
    record {
      grew = grew_on old b new 1 0 0 0 4 1 0 0 0 2 g2 m3.grew;
      inputs = inputs_on old b new (λ m. ⊥) (inputs_on old a b (λ m. ⊥) m1.inputs m2.inputs) m3.inputs;
      typed = m3.typed;
      on_bit = grew_width a new 1 0 0 0 4 1 on g3 m1.width;
      off_bit = m3.width;
      tells_on = λ x r p q hp hq. tells_keep g3 x on (p && q) m1.width.0 (m1.holds x r p q hp hq);
      tells_off = λ x r p q hp hq. m3.holds x r p (not q) (tells_keep g2 x rest p wr.0 hp) (m2.holds x r q (tells_keep m1.grew x bit q wb.0 hq));
    }

typed_prefix : (before ns more : List TermNode) → AreTypedFrom before (ns ++ more) → AreTypedFrom before ns
typed_prefix before [] more h = tt
typed_prefix before (n ∷ ns) more h = (h.0, typed_prefix (before ++ n ∷ []) ns more h.1)

-- terms that others stand on are terms
pub typed_before : (old new : List TermNode) → Extends old new → AreTyped new → AreTyped old
typed_before old new e h = typed_prefix [] old e.0 (subst (λ (z : List TermNode). AreTyped z) e.1 h)

-- an exit that is tried after more terms were made
pub tries_later : (old mid new : List TermNode) (s z : Sweep) (rest left : ℕ) (Takes More : TermReading → Bool → Type 0) (Is Far : ℕ → TermReading → Walk →
    Bool → Type 0) (g l st j n : ℕ) → Grew old mid g l st j n → AreWell old s →
    HasWidth old 1 rest → ((x : TermReading) → InRange x → (q : Bool) → More x q → Takes x q) →
    ((from : ℕ) (x : TermReading) (w : Walk) (b : Bool) → Far from x w b → Is from x w b) → Tries mid new s z rest left Takes Is →
    Tries old new s z rest left More Far
tries_later old mid new s z rest left Takes More Is Far g l st j n grew w wr f far tries x r from v q taken is before after go rests e k =
    let same = word_keeps grew x rest wr.0 in
    tries x r from v q (λ h. f x r q (taken (sym same ∙ h))) (λ b h. far from x v b (is b (λ t. sym same ∙ h t))) before after go rests e
    (record {
      some = k.some;
      tells = tells_keep grew x rest k.some wr.0 k.tells;
      goes = k.goes;
      shows = shows_keep grew s from x
          (held_if k.some before after) w k.shows;
    })

-- a line and a split keep what is kept
pub lined_well : (old mid last : List TermNode) (s : Sweep) (big : Bool) (e : Expr) (now entry : Now) (bit rest on off : ℕ) →
    IsLine old mid big e now entry bit → AreWell old s → IsSplit mid last rest bit on off → AreWell last s
lined_well old mid last s big e now entry bit rest on off made w split =
    well_keeps split.grew s split.typed (well_keeps made.grew s (typed_before mid last split.grew.extends split.typed) w)

module _ (old mid last new : List TermNode) (s z : Sweep) (big : Bool) (e : Expr) (now entry : Now) (bit rest on off : ℕ)
    (made : IsLine old mid big e now entry bit) (w : AreWell old s) (en : entry.names.now ≡ s.entry)
    (ep : entry.pc ≡ s.pc) (wr : HasWidth old 1 rest) (split : IsSplit mid last rest bit on off) (steps : Steps last new s z 1 0 0 0 2
    (λ m. ⊥)) (hands : Hands last new s z off (λ from x v b. HasEvent v)) where
  line_typed : AreTyped mid
  line_typed = typed_before mid last split.grew.extends split.typed

  line_well : AreWell mid s
  line_well = well_keeps made.grew s line_typed w

  rest_mid : HasWidth mid 1 rest
  rest_mid = grew_width old mid _ _ _ _ _ 1 rest made.grew wr

  line_cut : IsCut mid last rest off on (λ x q. Tells mid x bit (not q))
  line_cut = cut_off mid last rest bit on off line_typed rest_mid made.width split

  all_grew : Grew old new (line_price e - 64 + 3) (bytes_loaded e + 0) (0 + 0) (0 + 0) (4 * line_size e + 8 + 8)
  all_grew = grew_on old mid new _ _ _ _ _ _ _ _ _ _ made.grew (grew_on mid last new 2 0 0 0 6 1 0 0 0 2 split.grew steps.grew)

  pub denied_steps : 64 ≤ line_price e → Steps old new s z (line_price e) (bytes_loaded e) 0 0 (4 * (line_size e + 4)) (λ m. ⊥)
  denied_steps h = record {
    grew = grew_more old new _ _ _ _ _ _ _ _ _ _ (omega (arith, h)) (omega arith) (omega arith) (omega arith) (omega arith) all_grew;
    inputs = inputs_on old mid new (λ m. ⊥) made.inputs (inputs_on mid last new (λ m. ⊥) split.inputs steps.inputs);
    well = steps.well;
    like = steps.like;
  }

  entry_is : (x : TermReading) → InRange x → IsStateOf old x entry (at_entry x) s.at
  entry_is x r = record {
    carried = subst (λ (m : Names). Denotes (form_of m) old x (names_of m) (at_entry x)) (sym en) (w.denotes x r);
    pc = ap (λ (t : Term). term_word x old t.0) ep ∙ w.pc_is x;
  }

  pub denied_tries : Tries old new s z rest on (LineFails old s big e now) (λ from x v b. HasEvent v)
  denied_tries =
      tries_later old mid new s z rest on (λ x q. Tells mid x bit (not q)) (LineFails old s big e now) (λ from x v b. HasEvent v)
      (λ from x v b. HasEvent v) _ _ _ _ _ made.grew w wr
      (λ x r q f. made.value x r f.carried (at_entry x) f.at s.at f.is (entry_is x r) ∙ ap Words.bit
      (sym (ap not f.fails ∙ not_not (is_true (value (endian big) e (state_at f.carried f.at) (state_at (at_entry x) s.at))))))
      (λ from x v b h. h)
      (exit_on mid last new s z rest off on (λ x q. Tells mid x bit (not q)) (λ from x v b. HasEvent v) line_cut line_well 1 0 0 0 2 steps.grew hands)

  pub denied_narrows : Narrows old new rest on (λ x q. Unit {0})
  denied_narrows x r h =
      let k = narrows_on mid last new s z rest off on (λ x q. Tells mid x bit (not q))
      (λ from x v b. HasEvent v) line_cut line_well 1 0 0 0 2 steps.grew hands x r h in
      (sym (word_keeps made.grew x rest wr.0) ∙ k.0, tt)

  pub denied_bit : HasWidth new 1 on
  denied_bit = grew_width last new 1 0 0 0 2 1 on steps.grew split.on_bit

some_price : (p o v : ℕ) → 64 ≤ 8192 * p + 512 * ((if o == 0 then 1 else o - p) + v)
some_price p o v = elim (truth (o == 0)) [
  | inl e ↦ rw e (omega arith)
  | inr e ↦ rw e (let n : 0 < o = grind (arith, nat_tests) in omega (arith, n))
]

-- a line's price has room for what is done with its bit
pub price_room : (e : Expr) → 64 ≤ line_price e
price_room e = some_price (products e) (operations e) (value_count e)
