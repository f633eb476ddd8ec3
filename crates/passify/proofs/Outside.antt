-- Whether bytes are none that may be written.
use Rattle.std.proofs.Common.{◌≡◌, ◌↔◌, ℕ, zero, suc, ◌+◌, ◌*◌, ◌^◌, ◌<◌, ◌≤◌, Bool, true, false, ◌&&◌, ◌||◌, not, nat_eq, nat_le, nat_lt, List, [], ◌∷◌, ◌++◌, Option, Some, None, length, map, take, Contains, refl, ap, sym, subst, ◌∙◌, arith, get_or}
use Rattle.std.specs.List.{list_any}
use Rattle.std.proofs.lemmas.Bool.Decides.{nat_tests}
use Rattle.std.proofs.lemmas.Nat.{mul-le}
use Rattle.std.proofs.Math.Seq.{take-length}
use Rattle.std.proofs.lemmas.List.{take_more}
use Rattle.std.proofs.lemmas.List.Concat.{flat_map-append}
use Rattle.std.proofs.lemmas.List.Folds.{list_any-append, list_any_more}
use Rattle.std.proofs.lemmas.List.Sums.{sum_by_more}
use Rattle.word_spec.specs.Words.{add, sub, bit}
use Rattle.word_spec.specs.Memory.{span}
use Rattle.word_spec.specs.RowFiles.{from_to}
use Rattle.machine_spec.specs.Bil.{Minus, Plus, LessEqual}
use Rattle.term_spec.specs.Terms.{TermReading, InRange, TermNode, BinaryNode, ConstantNode, AreTyped, HasWidth, term_word}
use Rattle.term_spec.specs.Passive.{Tells}
use Rattle.walk_spec.specs.Unrolled.{is_in}
use Rattle.frame_spec.specs.Frames.{Contract}
use Rattle.question_form.specs.declared.unrolled.Unrolled.{Unrolled}
use Rattle.question_form.specs.FrameViews.{frame_unrolled_of, own_contract}
use Rattle.term_dag.specs.Made.{Grew, IsMade, IsInterned}
use Rattle.term_dag.proofs.Ranges.{word_fits}
use Rattle.term_dag.proofs.Growth.{grew_on, grew_more, grew_none, inputs_on, inputs_none, made_grew, made_inputs, interned_grew, interned_inputs}
use Rattle.passify.specs.Bits.{Makes, TellsByBoth}
use Rattle.passify.specs.declared.spans.Span.{Span}
use Rattle.passify.specs.Spans.{EscapesByte, EscapesSome, IsAway, IsRefused, IsSpan, IsSpanned, TellsKept, TellsOutside, addresses, addresses_of, bytes_of, is_none_of, is_own, outside_by}
use Rattle.passify.proofs.Kept.{tells_keep, tells_some, word_keeps}
use Rattle.passify.proofs.Ranges.{any_push, bytes_from, within_span}
use Rattle.passify.proofs.Writes.{bit_test, has_hit, hits_are, span_keeps}

-- the addresses of spans stay so
addresses_keep : (old new : List TermNode) (g l st j n : ℕ) (x : TermReading) (own : List Span) → Grew old new g l st j n →
    ((s : Span) → Contains own s → IsSpan old s) → addresses_of new x own ≡ addresses_of old x own
addresses_keep old new g l st j n x [] grew h = refl
addresses_keep old new g l st j n x (s ∷ own) grew h =
    ap (λ (a : ℕ). map (add 32 a) (from_to 0 s.bytes) ++ addresses_of new x own) (word_keeps grew x s.address.0 (h s (0, omega arith, refl)).address.0)
    ∙ ap (λ (l : List ℕ). addresses old x s ++ l) (addresses_keep old new g l st j n x own grew
    (λ t c. h t (suc c.0, (let q = c.1 in omega (arith, q)), c.2)))

pub own_keep : (old new : List TermNode) (g l st j n : ℕ) (x : TermReading) (own : List Span) → Grew old new g l st j n →
    ((s : Span) → Contains own s → IsSpan old s) → addresses_of new x own ≡ addresses_of old x own
own_keep = addresses_keep

pub spans_keep : (old new : List TermNode) (g l st j n : ℕ) (own : List Span) → Grew old new g l st j n →
    ((s : Span) → Contains own s → IsSpan old s) → (s : Span) → Contains own s → IsSpan new s
spans_keep old new g l st j n own grew h s c = span_keeps old new g l st j n s grew (h s c)

and_true : (p : Bool) → p ≡ (p && true)
and_true true = refl
and_true false = refl

pub away_none : (ns : List TermNode) (at rest : ℕ) → AreTyped ns → HasWidth ns 1 rest → Makes ns ns (97 * 0) (7 * 0) 1 rest (IsAway ns ns at rest [] rest)
away_none ns at rest typed w = record {
  grew = grew_none ns;
  inputs = inputs_none ns (λ m. ⊥);
  typed = typed;
  width = w;
  holds = λ x r p h. h ∙ ap bit (and_true p);
}

past_test : (d n : ℕ) → not (nat_lt d n) ≡ nat_le n d
past_test d n = grind (arith, nat_tests)

-- an address is in none of the bytes of a span, by its distance from the first
past_span : (x : TermReading) (ns : List TermNode) (s : Span) (a : ℕ) → InRange x → AreTyped ns → IsSpan ns s → a < 2 ^ 32 →
    not (list_any (nat_eq a) (addresses ns x s)) ≡ nat_le s.bytes (sub 32 a (term_word x ns s.address.0))
past_span x ns s a r typed k low =
    let first = word_fits x ns 32 s.address.0 r typed k.address in
    let few = k.few in
    ap (λ (l : List ℕ). not (list_any (nat_eq a) l)) (bytes_from (term_word x ns s.address.0) s.bytes first)
    ∙ ap not (within_span a (term_word x ns s.address.0) s.bytes low first (omega (arith, few)))
    ∙ past_test (sub 32 a (term_word x ns s.address.0)) s.bytes

or_nothing : (b : Bool) → (b || false) ≡ b
or_nothing true = refl
or_nothing false = refl

not_both : (p a b : Bool) → ((p && not a) && not b) ≡ (p && not (a || b))
not_both true true b = refl
not_both true false b = refl
not_both false a b = refl

any_last : (f : ℕ → Bool) (xs ys : List ℕ) → list_any f (xs ++ (ys ++ [])) ≡ (list_any f xs || list_any f ys)
any_last f xs ys =
    list_any-append f xs (ys ++ []) ∙ ap (λ z. list_any f xs || z) (list_any-append f ys [] ∙ or_nothing (list_any f ys))

-- one span more
module _ (old cur b c d new : List TermNode) (at rest : ℕ) (own : List Span) (i : ℕ) (s : Span) (left v count distance past t : ℕ) (within : i < length own)
    (here : s ≡ get_or own i s) (typed : AreTyped old) (spans : (k : Span) → Contains own k → IsSpan old k) (wa : HasWidth old 32 at) (is : v ≡ s.bytes)
    (m1 : Makes old cur (97 * i) (7 * i) 1 left (IsAway old cur at rest (take i own) left))
    (k1 : IsInterned cur b (ConstantNode 32 v) count) (k2 : IsMade b c (BinaryNode Minus 32 at s.address.0) distance)
    (k3 : IsMade c d (BinaryNode LessEqual 32 count distance) past)
    (k4 : Makes d new 1 2 1 t (TellsByBoth (λ p q. p && q) d new left past t)) where
  store : IsSpan old s
  store = spans s (i, within, sym here)

  g1 : Grew cur b 0 0 0 0 1
  g1 = interned_grew cur b (ConstantNode 32 v) count k1

  g2 : Grew b c 64 0 0 0 2
  g2 = made_grew b c (BinaryNode Minus 32 at s.address.0) distance k2

  g3 : Grew c d 32 0 0 0 2
  g3 = made_grew c d (BinaryNode LessEqual 32 count distance) past k3

  g13 : Grew cur d 96 0 0 0 5
  g13 = grew_on cur c d 64 0 0 0 3 32 0 0 0 2 (grew_on cur b c 0 0 0 0 1 64 0 0 0 2 g1 g2) g3

  g0b : Grew old b (97 * i + 0) 0 0 0 (7 * i + 1)
  g0b = grew_on old cur b (97 * i) 0 0 0 (7 * i) 0 0 0 0 1 m1.grew g1

  next : (x : TermReading) → addresses_of old x (take (i + 1) own) ≡ addresses_of old x (take i own) ++ (addresses old x s ++ [])
  next x =
      ap (addresses_of old x) (take_more own i s within) ∙ flat_map-append (addresses old x) (take i own) (get_or own i s ∷ [])
      ∙ ap (λ (z : Span). addresses_of old x (take i own) ++ (addresses old x z ++ [])) (sym here)

  pub away_more : Makes old new (97 * (i + 1)) (7 * (i + 1)) 1 t (IsAway old new at rest (take (i + 1) own) t)
  away_more = record {
    grew = grew_more old new (97 * i + 97) 0 0 0 (7 * i + 7) (97 * (i + 1)) 0 0 0 (7 * (i + 1)) (omega arith) (omega arith) (omega arith) (omega arith)
        (omega arith) (grew_on old cur new (97 * i) 0 0 0 (7 * i) 97 0 0 0 7 m1.grew (grew_on cur d new 96 0 0 0 5 1 0 0 0 2 g13 k4.grew));
    inputs = inputs_on old d new (λ m. ⊥)
        (inputs_on old c d (λ m. ⊥)
        (inputs_on old b c (λ m. ⊥)
        (inputs_on old cur b (λ m. ⊥) m1.inputs (interned_inputs cur b (ConstantNode 32 v) count (λ m. ⊥) k1 (λ i. i)))
        (made_inputs b c (BinaryNode Minus 32 at s.address.0) distance (λ m. ⊥) k2 (λ i. i)))
        (made_inputs c d (BinaryNode LessEqual 32 count distance) past (λ m. ⊥) k3 (λ i. i)))
        k4.inputs;
    typed = k4.typed;
    width = k4.width;
    holds = λ x r p h.
        let a = term_word x old at in
        let f = term_word x old s.address.0 in
        let e1 : term_word x b at ≡ a = word_keeps g0b x at wa.0 in
        let e2 : term_word x b s.address.0 ≡ f = word_keeps g0b x s.address.0 store.address.0 in
        let e3 : term_word x c distance ≡ sub 32 a f =
        ap (λ z. z.word) (k2.value x r) ∙ ap (λ (z : ℕ). sub 32 z (term_word x b s.address.0)) e1 ∙ ap (sub 32 a) e2 in
        let e4 : term_word x c count ≡ s.bytes = word_keeps g2 x count k1.within ∙ ap (λ z. z.word) (k1.value x) ∙ is in
        let e5 : Tells d x past (nat_le s.bytes (sub 32 a f)) =
        ap (λ z. z.word) (k3.value x r) ∙ ap (λ (z : ℕ). bit (nat_le z (term_word x c distance))) e4 ∙ ap (λ (z : ℕ). bit (nat_le s.bytes z)) e3 in
        let done : Bool = list_any (nat_eq a) (addresses_of old x (take i own)) in
        k4.holds x r (p && not done) (nat_le s.bytes (sub 32 a f))
        (tells_keep g13 x left (p && not done) m1.width.0 (m1.holds x r p h)) e5
        ∙ ap (λ (z : Bool). bit ((p && not done) && z)) (sym (past_span x old s a r typed store (word_fits x old 32 at r typed wa)))
        ∙ ap bit (not_both p done (list_any (nat_eq a) (addresses old x s)))
        ∙ ap (λ (z : Bool). bit (p && not z)) (sym (ap (list_any (nat_eq a)) (next x) ∙ any_last (nat_eq a) (addresses_of old x (take i own)) (addresses old x s)));
  }

pub away_all : (old new : List TermNode) (at rest : ℕ) (own : List Span) (i t : ℕ) → length own ≤ i → i ≤ length own →
    Makes old new (97 * i) (7 * i) 1 t (IsAway old new at rest (take i own) t) →
    Makes old new (97 * length own) (7 * length own) 1 t (IsAway old new at rest own t)
away_all old new at rest own i t above below m =
    subst (λ (z : List Span). Makes old new (97 * length own) (7 * length own) 1 t (IsAway old new at rest z t)) (take-length own)
    (subst (λ (n : ℕ). Makes old new (97 * n) (7 * n) 1 t (IsAway old new at rest (take n own) t))
    (let e : i ≡ length own = omega (arith, above, below) in e) m)

-- one byte
pub escapes_made : (old a b c new : List TermNode) (s : Span) (v number n at hit before t : ℕ) (own : List Span) → AreTyped old → IsSpan old s →
    ((k : Span) → Contains own k → IsSpan old k) → HasWidth old 1 before → v ≡ number → IsInterned old a (ConstantNode 32 v) n →
    IsMade a b (BinaryNode Plus 32 s.address.0 n) at → Makes b c (97 * length own) (7 * length own) 1 hit (IsAway b c at s.guard.0 own hit) →
    Makes c new 1 2 1 t (TellsByBoth (λ p q. p || q) c new before hit t) →
    Makes old new (65 + 97 * length own) (5 + 7 * length own) 1 t (EscapesByte old new s number before own t)
escapes_made old a b c new s v number n at hit before t own typed store spans wb is k1 k2 m k =
    let g1 = interned_grew old a (ConstantNode 32 v) n k1 in
    let g2 = made_grew a b (BinaryNode Plus 32 s.address.0 n) at k2 in
    let g12 = grew_on old a b 0 0 0 0 1 64 0 0 0 2 g1 g2 in
    let g13 = grew_on old b c 64 0 0 0 3 (97 * length own) 0 0 0 (7 * length own) g12 m.grew in
    record {
      grew = grew_more old new (64 + 97 * length own + 1) 0 0 0 (3 + 7 * length own + 2) (65 + 97 * length own) 0 0 0 (5 + 7 * length own)
          (omega arith) (omega arith) (omega arith) (omega arith) (omega arith)
          (grew_on old c new (64 + 97 * length own) 0 0 0 (3 + 7 * length own) 1 0 0 0 2 g13 k.grew);
      inputs = inputs_on old c new (λ m. ⊥) (inputs_on old b c (λ m. ⊥)
          (inputs_on old a b (λ m. ⊥) (interned_inputs old a (ConstantNode 32 v) n (λ m. ⊥) k1 (λ i. i))
          (made_inputs a b (BinaryNode Plus 32 s.address.0 n) at (λ m. ⊥) k2 (λ i. i))) m.inputs) k.inputs;
      typed = k.typed;
      width = k.width;
      holds = λ x r p g hp hg.
          let f = term_word x old s.address.0 in
          let e1 : term_word x a s.address.0 ≡ f = word_keeps g1 x s.address.0 store.address.0 in
          let e2 : term_word x a n ≡ number = ap (λ z. z.word) (k1.value x) ∙ is in
          let e3 : term_word x b at ≡ add 32 f number =
          ap (λ z. z.word) (k2.value x r) ∙ ap (λ (z : ℕ). add 32 z (term_word x a n)) e1 ∙ ap (add 32 f) e2 in
          let e4 = own_keep old b 64 0 0 0 3 x own g12 spans in
          k.holds x r p (g && is_none_of (addresses_of b x own) (term_word x b at)) (tells_keep g13 x before p wb.0 hp)
          (m.holds x r g (tells_keep g12 x s.guard.0 g store.guard.0 hg))
          ∙ ap (λ (l : List ℕ). bit (p || (g && is_none_of l (term_word x b at)))) e4
          ∙ ap (λ (z : ℕ). bit (p || (g && is_none_of (addresses_of old x own) z))) e3;
    }

-- the first bytes of a span
abbrev pub EscapesFirst : (old new : List TermNode) → Span → (before : ℕ) → List Span → (i t : ℕ) → TermReading → Type 0
EscapesFirst old new s before own i t x =
    (p g : Bool) → Tells old x before p → Tells old x s.guard.0 g →
    Tells new x t (p || (g && list_any (λ j. is_none_of (addresses_of old x own) (add 32 (term_word x old s.address.0) j)) (from_to 0 i)))

first_none : (p g : Bool) → p ≡ (p || (g && false))
first_none true g = refl
first_none false true = refl
first_none false false = refl

pub first_bytes : (ns : List TermNode) (s : Span) (before : ℕ) (own : List Span) → AreTyped ns → HasWidth ns 1 before →
    Makes ns ns ((65 + 97 * length own) * 0) ((5 + 7 * length own) * 0) 1 before (EscapesFirst ns ns s before own 0 before)
first_bytes ns s before own typed w = record {
  grew = grew_more ns ns 0 0 0 0 0 ((65 + 97 * length own) * 0) 0 0 0 ((5 + 7 * length own) * 0) (omega arith) (omega arith) (omega arith) (omega arith)
      (omega arith) (grew_none ns);
  inputs = inputs_none ns (λ m. ⊥);
  typed = typed;
  width = w;
  holds = λ x r p g hp hg. hp ∙ ap bit (first_none p g);
}

more_by : (p g a b : Bool) → ((p || (g && a)) || (g && b)) ≡ (p || (g && (a || b)))
more_by true g a b = refl
more_by false true a b = refl
more_by false false a b = refl

pub more_bytes : (old cur new : List TermNode) (s : Span) (before : ℕ) (own : List Span) (i left t : ℕ) → IsSpan old s →
    ((k : Span) → Contains own k → IsSpan old k) →
    Makes old cur ((65 + 97 * length own) * i) ((5 + 7 * length own) * i) 1 left (EscapesFirst old cur s before own i left) →
    Makes cur new (65 + 97 * length own) (5 + 7 * length own) 1 t (EscapesByte cur new s i left own t) →
    Makes old new ((65 + 97 * length own) * (i + 1)) ((5 + 7 * length own) * (i + 1)) 1 t (EscapesFirst old new s before own (i + 1) t)
more_bytes old cur new s before own i left t store spans m k = record {
  grew = grew_more old new ((65 + 97 * length own) * i + (65 + 97 * length own)) 0 0 0 ((5 + 7 * length own) * i + (5 + 7 * length own))
      ((65 + 97 * length own) * (i + 1)) 0 0 0 ((5 + 7 * length own) * (i + 1)) (times (65 + 97 * length own) i) (omega arith) (omega arith) (omega arith)
      (times (5 + 7 * length own) i) (grew_on old cur new _ 0 0 0 _ (65 + 97 * length own) 0 0 0 (5 + 7 * length own) m.grew k.grew);
  inputs = inputs_on old cur new (λ m. ⊥) m.inputs k.inputs;
  typed = k.typed;
  width = k.width;
  holds = λ x r p g hp hg.
      let test : ℕ → Bool = λ j. is_none_of (addresses_of old x own) (add 32 (term_word x old s.address.0) j) in
      let done : Bool = list_any test (from_to 0 i) in
      k.holds x r (p || (g && done)) g (m.holds x r p g hp hg) (tells_keep m.grew x s.guard.0 g store.guard.0 hg)
      ∙ ap (λ (l : List ℕ). bit ((p || (g && done)) || (g && is_none_of l (add 32 (term_word x cur s.address.0) i)))) (own_keep old cur _ _ _ _ _ x own m.grew spans)
      ∙ ap (λ (z : ℕ). bit ((p || (g && done)) || (g && is_none_of (addresses_of old x own) (add 32 z i)))) (word_keeps m.grew x s.address.0 store.address.0)
      ∙ ap bit (more_by p g done (test i))
      ∙ ap (λ (z : Bool). bit (p || (g && z))) (sym (any_push test 0 i ∙ ap (λ j. done || test j) (let e : 0 + i ≡ i = omega arith in e)));
}
  where
    times : (a i : ℕ) → a * i + a ≤ a * (i + 1)
    times a i = omega arith

any_map : (f : ℕ → Bool) (h : ℕ → ℕ) (xs : List ℕ) → list_any (λ j. f (h j)) xs ≡ list_any f (map h xs)
any_map f h [] = refl
any_map f h (y ∷ xs) = ap (λ z. f (h y) || z) (any_map f h xs)

within_cost : (a c w b : ℕ) → a ≤ c * w → a * b ≤ c * (w * b)
within_cost a c w b l = let m = mul-le a b (c * w) b l (omega arith) in let e : (c * w) * b ≡ c * (w * b) = omega arith in omega (arith, m, e)

-- all bytes of a span
pub all_bytes : (old new : List TermNode) (s : Span) (before : ℕ) (own : List Span) (i t : ℕ) → AreTyped old → IsSpan old s → 1 ≤ length own → i ≡ s.bytes →
    Makes old new ((65 + 97 * length own) * i) ((5 + 7 * length own) * i) 1 t (EscapesFirst old new s before own i t) →
    Makes old new (1 + 162 * (length own * s.bytes)) (2 + 12 * (length own * s.bytes)) 1 t (EscapesSome old new s before own t)
all_bytes old new s before own i t typed store some e m =
    let k = subst (λ (j : ℕ). Makes old new ((65 + 97 * length own) * j) ((5 + 7 * length own) * j) 1 t (EscapesFirst old new s before own j t)) e m in
    let g = within_cost (65 + 97 * length own) 162 (length own) s.bytes (omega (arith, some)) in
    let n = within_cost (5 + 7 * length own) 12 (length own) s.bytes (omega (arith, some)) in
    record {
      grew = grew_more old new ((65 + 97 * length own) * s.bytes) 0 0 0 ((5 + 7 * length own) * s.bytes) (1 + 162 * (length own * s.bytes)) 0 0 0
          (2 + 12 * (length own * s.bytes)) (omega (arith, g)) (omega arith) (omega arith) (omega arith) (omega (arith, n)) k.grew;
      inputs = k.inputs;
      typed = k.typed;
      width = k.width;
      holds = λ x r p q hp hq.
          let f = is_none_of (addresses_of old x own) in
          let a = term_word x old s.address.0 in
          k.holds x r p q hp hq
          ∙ ap (λ (z : Bool). bit (p || (q && z))) (any_map f (add 32 a) (from_to 0 s.bytes)
          ∙ ap (list_any f) (bytes_from a s.bytes (word_fits x old 32 s.address.0 r typed store.address)));
    }

all_pass : (f : ℕ → Bool) (a n : ℕ) → ((b : ℕ) → f b ≡ true) → 1 ≤ n → list_any f (span a n) ≡ true
all_pass f a zero h l = absurd (omega arith)
all_pass f a (suc n) h l = ap (λ z. z || list_any f (span (add 32 a 1) n)) (h a)

-- where nothing may be written
pub all_escape : (old new : List TermNode) (s : Span) (before : ℕ) (own : List Span) (t : ℕ) → IsSpan old s → length own ≡ 0 →
    Makes old new 1 2 1 t (TellsByBoth (λ p q. p || q) old new before s.guard.0 t) →
    Makes old new (1 + 162 * (length own * s.bytes)) (2 + 12 * (length own * s.bytes)) 1 t (EscapesSome old new s before own t)
all_escape old new s before (k ∷ own) t store none m = absurd (omega (arith, none))
all_escape old new s before [] t store none m = record {
  grew = grew_more old new 1 0 0 0 2 (1 + 162 * (0 * s.bytes)) 0 0 0 (2 + 12 * (0 * s.bytes)) (omega arith) (omega arith) (omega arith) (omega arith)
      (omega arith) m.grew;
  inputs = m.inputs;
  typed = m.typed;
  width = m.width;
  holds = λ x r p g hp hg.
      m.holds x r p g hp hg
      ∙ ap (λ (z : Bool). bit (p || z)) (and_true g ∙ ap (λ (z : Bool). g && z) (sym (all_pass (is_none_of []) (term_word x old s.address.0) s.bytes
      (λ b. refl) store.some)));
}

-- some spans
abbrev pub OutsideOf : (old new : List TermNode) → (before : ℕ) → (spans own : List Span) → (t : ℕ) → TermReading → Type 0
OutsideOf old new before spans own t x =
    (p : Bool) → Tells old x before p → Tells new x t (p || list_any (has_hit old x (is_none_of (addresses_of old x own))) spans)

or_false : (p : Bool) → p ≡ (p || false)
or_false true = refl
or_false false = refl

or_three : (p q r : Bool) → ((p || q) || r) ≡ (p || (q || r))
or_three true q r = refl
or_three false q r = refl

pub outside_none : (ns : List TermNode) (before : ℕ) (own : List Span) → AreTyped ns → HasWidth ns 1 before →
    Makes ns ns (0 + 162 * (length own * bytes_of [])) (2 * 0 + 12 * (length own * bytes_of [])) 1 before (OutsideOf ns ns before [] own before)
outside_none ns before own typed w = record {
  grew = grew_more ns ns 0 0 0 0 0 (0 + 162 * (length own * 0)) 0 0 0 (2 * 0 + 12 * (length own * 0)) (omega arith) (omega arith) (omega arith) (omega arith)
      (omega arith) (grew_none ns);
  inputs = inputs_none ns (λ m. ⊥);
  typed = typed;
  width = w;
  holds = λ x r p h. h ∙ ap bit (or_false p);
}

times_sum : (w a b : ℕ) → w * (a + b) ≡ w * a + w * b
times_sum w a b = omega arith

pub outside_more : (old cur new : List TermNode) (before : ℕ) (spans own : List Span) (i : ℕ) (s : Span) (left t : ℕ) → i < length spans →
    s ≡ get_or spans i s → AreTyped old → ((k : Span) → Contains spans k → IsSpan old k) → ((k : Span) → Contains own k → IsSpan old k) →
    Makes old cur (i + 162 * (length own * bytes_of (take i spans))) (2 * i + 12 * (length own * bytes_of (take i spans))) 1 left
    (OutsideOf old cur before (take i spans) own left) →
    Makes cur new (1 + 162 * (length own * s.bytes)) (2 + 12 * (length own * s.bytes)) 1 t (EscapesSome cur new s left own t) →
    Makes old new (i + 1 + 162 * (length own * bytes_of (take (i + 1) spans))) (2 * (i + 1) + 12 * (length own * bytes_of (take (i + 1) spans))) 1 t
    (OutsideOf old new before (take (i + 1) spans) own t)
outside_more old cur new before spans own i s left t within here typed are owned m k =
    let store = are s (i, within, sym here) in
    let w = length own in
    let sum : bytes_of (take (i + 1) spans) ≡ bytes_of (take i spans) + s.bytes =
    sum_by_more (λ (z : Span). z.bytes) spans i s within ∙ ap (λ (z : Span). bytes_of (take i spans) + z.bytes) (sym here) in
    let c = ap (λ z. w * z) sum ∙ times_sum w (bytes_of (take i spans)) s.bytes in
    record {
      grew = grew_more old new (i + 162 * (w * bytes_of (take i spans)) + (1 + 162 * (w * s.bytes))) 0 0 0
          (2 * i + 12 * (w * bytes_of (take i spans)) + (2 + 12 * (w * s.bytes)))
          (i + 1 + 162 * (w * bytes_of (take (i + 1) spans))) 0 0 0 (2 * (i + 1) + 12 * (w * bytes_of (take (i + 1) spans)))
          (omega (arith, c)) (omega arith) (omega arith) (omega arith) (omega (arith, c)) (grew_on old cur new _ 0 0 0 _ _ 0 0 0 _ m.grew k.grew);
      inputs = inputs_on old cur new (λ m. ⊥) m.inputs k.inputs;
      typed = k.typed;
      width = k.width;
      holds = λ x r p h.
          let f = is_none_of (addresses_of old x own) in
          let done : Bool = list_any (has_hit old x f) (take i spans) in
          let guard = tells_some x old s.guard.0 r typed store.guard in
          k.holds x r (p || done) guard.0 (m.holds x r p h) (tells_keep m.grew x s.guard.0 guard.0 store.guard.0 guard.1)
          ∙ ap (λ (l : List ℕ). bit ((p || done) || (guard.0 && list_any (is_none_of l) (span (term_word x cur s.address.0) s.bytes))))
          (own_keep old cur _ _ _ _ _ x own m.grew owned)
          ∙ ap (λ (z : ℕ). bit ((p || done) || (guard.0 && list_any f (span z s.bytes)))) (word_keeps m.grew x s.address.0 store.address.0)
          ∙ ap (λ (z : Bool). bit ((p || done) || (z && list_any f (span (term_word x old s.address.0) s.bytes))))
          (bit_test guard.0 (term_word x old s.guard.0) guard.1)
          ∙ ap (λ (z : Span). bit ((p || done) || has_hit old x f z)) here
          ∙ ap bit (or_three p done (has_hit old x f (get_or spans i s)))
          ∙ ap (λ (z : Bool). bit (p || z)) (sym (list_any_more (has_hit old x f) spans i s within));
    }

pub outside_all : (old new : List TermNode) (before : ℕ) (spans own : List Span) (i t : ℕ) → length spans ≤ i → i ≤ length spans →
    Makes old new (i + 162 * (length own * bytes_of (take i spans))) (2 * i + 12 * (length own * bytes_of (take i spans))) 1 t
    (OutsideOf old new before (take i spans) own t) → TellsOutside old new spans own before t
outside_all old new before spans own i t above below m =
    let e : i ≡ length spans = omega (arith, above, below) in
    let k = subst (λ (z : List Span). Makes old new (length spans + 162 * (length own * bytes_of z)) (2 * length spans + 12 * (length own * bytes_of z)) 1 t
    (OutsideOf old new before z own t)) (take-length spans)
    (subst (λ (n : ℕ). Makes old new (n + 162 * (length own * bytes_of (take n spans))) (2 * n + 12 * (length own * bytes_of (take n spans))) 1 t
    (OutsideOf old new before (take n spans) own t)) e m) in
    record {
      grew = k.grew;
      inputs = k.inputs;
      typed = k.typed;
      width = k.width;
      tells = λ x r p h bytes same.
          k.holds x r p h ∙ ap (λ (z : Bool). bit (p || z)) (hits_are old x (is_none_of (addresses_of old x own)) spans bytes same);
    }

-- both tests
module _ (u : Unrolled) (old mid : List TermNode) (spans own : List Span) (kept : ℕ)
    (m : TellsKept old mid spans (frame_unrolled_of u).kept kept) where
  pub refused_none : own_contract u ≡ None → IsRefused u old mid spans own kept
  refused_none none =
      let K = length (frame_unrolled_of u).kept in
      record {
        grew = grew_more old mid (98 * (length spans * K)) 0 0 0 (1 + 10 * (length spans * K))
            (98 * (length spans * K) + is_own (own_contract u) * (length spans + 162 * (length own * bytes_of spans))) 0 0 0
            (1 + 10 * (length spans * K) + is_own (own_contract u) * (2 * length spans + 12 * (length own * bytes_of spans)))
            (omega arith) (omega arith) (omega arith) (omega arith) (omega arith) m.grew;
        inputs = m.inputs;
        typed = m.typed;
        width = m.width;
        tells = λ x r bytes same.
            m.tells x r bytes same
            ∙ ap bit (or_false (list_any (is_in (frame_unrolled_of u).kept) bytes)
            ∙ ap (λ (o : Option Contract). list_any (is_in (frame_unrolled_of u).kept) bytes || outside_by o (addresses_of old x own) bytes) (sym none));
      }

  pub refused_some : (o : Contract) → own_contract u ≡ Some o → (new : List TermNode) (t : ℕ) → ((k : Span) → Contains spans k → IsSpan old k) →
      ((k : Span) → Contains own k → IsSpan old k) → TellsOutside mid new spans own kept t → IsRefused u old new spans own t
  refused_some o some new t are owned k =
      let K = length (frame_unrolled_of u).kept in
      let i = ap is_own some in
      let a = ap (λ z. z * (length spans + 162 * (length own * bytes_of spans))) i in
      let b = ap (λ z. z * (2 * length spans + 12 * (length own * bytes_of spans))) i in
      record {
        grew = grew_more old new (98 * (length spans * K) + (length spans + 162 * (length own * bytes_of spans))) 0 0 0
            (1 + 10 * (length spans * K) + (2 * length spans + 12 * (length own * bytes_of spans)))
            (98 * (length spans * K) + is_own (own_contract u) * (length spans + 162 * (length own * bytes_of spans))) 0 0 0
            (1 + 10 * (length spans * K) + is_own (own_contract u) * (2 * length spans + 12 * (length own * bytes_of spans)))
            (omega (arith, a)) (omega arith) (omega arith) (omega arith) (omega (arith, b))
            (grew_on old mid new _ 0 0 0 _ _ 0 0 0 _ m.grew k.grew);
        inputs = inputs_on old mid new (λ m. ⊥) m.inputs k.inputs;
        typed = k.typed;
        width = k.width;
        tells = λ x r bytes same.
            k.tells x r (list_any (is_in (frame_unrolled_of u).kept) bytes) (m.tells x r bytes same) bytes (λ a. spanned_keeps x a bytes (same a))
            ∙ ap (λ (l : List ℕ). bit (list_any (is_in (frame_unrolled_of u).kept) bytes || list_any (is_none_of l) bytes))
            (own_keep old mid _ _ _ _ _ x own m.grew owned)
            ∙ ap (λ (q : Option Contract). bit (list_any (is_in (frame_unrolled_of u).kept) bytes || outside_by q (addresses_of old x own) bytes)) (sym some);
      }
    where
      spanned_keeps : (x : TermReading) (a : ℕ) (bytes : List ℕ) → Contains bytes a ↔ IsSpanned old x spans a → Contains bytes a ↔ IsSpanned mid x spans a
      spanned_keeps x a bytes h = (
        λ c. (let s = h.0 c in
            let store = are s.0 s.1 in (
              s.0,
              s.1,
              word_keeps m.grew x s.0.guard.0 store.guard.0 ∙ s.2,
              subst (λ (z : ℕ). Contains (span z s.0.bytes) a) (sym (word_keeps m.grew x s.0.address.0 store.address.0)) s.3,
            )),
        λ s. (let store = are s.0 s.1 in
            h.1 (
              s.0,
              s.1,
              sym (word_keeps m.grew x s.0.guard.0 store.guard.0) ∙ s.2,
              subst (λ (z : ℕ). Contains (span z s.0.bytes) a) (word_keeps m.grew x s.0.address.0 store.address.0) s.3,
            )),
      )
