-- Whether bytes that are stored lie in runs.
use Rattle.std.proofs.Common.{◌≡◌, inl, inr, ◌↔◌, ℕ, zero, suc, ◌+◌, ◌-◌, ◌*◌, ◌%◌, ◌^◌, ◌<◌, ◌≤◌, Bool, true, false, ◌&&◌, ◌||◌, ◌==◌, nat_le, List, [], ◌∷◌, ◌++◌, length, map, take, Contains, refl, ap, sym, subst, ◌∙◌, arith, get_or}
use Rattle.std.specs.List.{list_any}
use Rattle.std.proofs.lemmas.Bool.Decides.{nat_tests}
use Rattle.std.proofs.Math.Seq.{take-length}
use Rattle.std.proofs.lemmas.List.{map-append, take_more, length-map, get_or-map}
use Rattle.std.proofs.lemmas.List.Folds.{list_any-append, list_any_more}
use Rattle.word_spec.specs.Words.{add, sub, bit}
use Rattle.word_spec.specs.Memory.{span}
use Rattle.machine_spec.specs.Bil.{Minus, LessEqual}
use Rattle.bilv_spec.proofs.PointTests.{any_is, not_any}
use Rattle.term_spec.specs.Terms.{TermReading, TermNode, BinaryNode, ConstantNode, AreTyped, HasWidth, term_word}
use Rattle.walk_spec.specs.Unrolled.{AddressRun, is_in}
use Rattle.walk_spec.specs.Unrolling.{AreRuns}
use Rattle.term_spec.specs.Passive.{Tells}
use Rattle.term_dag.specs.Made.{Grew, IsMade, IsInterned}
use Rattle.term_dag.proofs.Ranges.{word_fits}
use Rattle.term_dag.proofs.Growth.{grew_on, grew_more, grew_none, grew_width, inputs_on, inputs_none, made_grew, made_inputs, interned_grew, interned_inputs}
use Rattle.question_form.specs.Views.{kept_of}
use Rattle.passify.specs.Bits.{Makes, TellsByBoth}
use Rattle.passify.specs.declared.spans.Span.{Span}
use Rattle.passify.specs.Spans.{IsSpan, IsSpanned, TellsKept}
use Rattle.passify.proofs.Kept.{truth, tells_keep, tells_some, word_keeps}

-- an address is in a run
abbrev pub lies : (low high : ℕ) → ℕ → Bool
lies low high a = nat_le low a && nat_le a high

-- one byte
one_lies : (low high a : ℕ) → a < 2 ^ 32 → low ≤ high → high < 2 ^ 32 → (lies low high a || false) ≡ nat_le ((a + (2 ^ 32 + 0 - low)) % 2 ^ 32) (high - low + 0)
one_lies low high a la lh hh = grind (arith, nat_tests)

-- one byte before others
more_lie : (low high a n : ℕ) → a < 2 ^ 32 → low ≤ high → high < 2 ^ 32 → n < 2 ^ 32 →
    (lies low high a || nat_le (((a + 1) % 2 ^ 32 + (2 ^ 32 + n - low)) % 2 ^ 32) (high - low + n))
    ≡ nat_le ((a + (2 ^ 32 + suc n - low)) % 2 ^ 32) (high - low + suc n)
more_lie low high a n la lh hh ln = grind (arith, nat_tests)

-- some of the bytes from an address on lie in a run where the address is no further from the run's beginning than they reach
reach_by : (low high a n : ℕ) → a < 2 ^ 32 → low ≤ high → high < 2 ^ 32 → n < 2 ^ 32 →
    list_any (lies low high) (span a (suc n)) ≡ nat_le ((a + (2 ^ 32 + n - low)) % 2 ^ 32) (high - low + n)
reach_by low high a zero la lh hh ln = one_lies low high a la lh hh
reach_by low high a (suc n) la lh hh ln =
    ap (λ (q : Bool). lies low high a || q) (reach_by low high (add 32 a 1) n (omega arith) lh hh (omega arith)) ∙ more_lie low high a n la lh hh (omega arith)

-- the same with the beginning as a word
start_by : (low a n start : ℕ) → a < 2 ^ 32 → low < 2 ^ 32 → n < 2 ^ 32 → start ≡ sub 32 low n → (a + (2 ^ 32 + n - low)) % 2 ^ 32 ≡ sub 32 a start
start_by low a n start la ll ln e = omega (arith, la, ll, ln, e)

lie_by : (low high a n before start reach : ℕ) → a < 2 ^ 32 → low ≤ high → high < 2 ^ 32 → n < 2 ^ 32 → n ≡ suc before → start ≡ sub 32 low before →
    reach ≡ high - low + before →
    list_any (lies low high) (span a n) ≡ nat_le (sub 32 a start) reach
lie_by low high a n before start reach la lh hh ln en es er =
    ap (λ (k : ℕ). list_any (lies low high) (span a k)) en ∙ reach_by low high a before la lh hh (omega (arith, en, ln))
    ∙ ap (λ (k : ℕ). nat_le k (high - low + before)) (start_by low a before start la (omega (arith, lh, hh)) (omega (arith, en, ln)) es) ∙ ap
    (nat_le (sub 32 a start)) (sym er)

all_lie : (low high a n before : ℕ) → a < 2 ^ 32 → low ≤ high → high < 2 ^ 32 → n < 2 ^ 32 → n ≡ suc before → 2 ^ 32 - 1 ≤ high - low + before →
    list_any (lies low high) (span a n) ≡ true
all_lie low high a n before la lh hh ln en far =
    ap (λ (k : ℕ). list_any (lies low high) (span a k)) en ∙ reach_by low high a before la lh hh (omega (arith, en, ln))
    ∙ below ((a + (2 ^ 32 + before - low)) % 2 ^ 32) (high - low + before) (omega arith) far
  where
    below : (d r : ℕ) → d < 2 ^ 32 → 2 ^ 32 - 1 ≤ r → nat_le d r ≡ true
    below d r ld lr = grind (arith, nat_tests)

-- one store against one run
pub touches_far : (ns : List TermNode) (s : Span) (low high before : ℕ) → AreTyped ns → IsSpan ns s → low ≤ high → high < 2 ^ 32 → s.bytes ≡ suc before →
    2 ^ 32 - 1 ≤ high - low + before →
    Makes ns ns 97 8 1 s.guard.0 (λ x. (g : Bool) → Tells ns x s.guard.0 g →
    Tells ns x s.guard.0 (g && list_any (lies low high) (span (term_word x ns s.address.0) s.bytes)))
touches_far ns s low high before typed store lh hh en far = record {
  grew = grew_more ns ns 0 0 0 0 0 97 0 0 0 8 (omega arith) (omega arith) (omega arith) (omega arith) (omega arith) (grew_none ns);
  inputs = inputs_none ns (λ m. ⊥);
  typed = typed;
  width = store.guard;
  holds = λ x r g h.
      h ∙ ap bit (and_true g ∙ ap (λ q. g && q) (sym (all_lie low high (term_word x ns s.address.0) s.bytes before
      (word_fits x ns 32 s.address.0 r typed store.address) lh hh
      (omega (arith, store.few)) en far)));
}
  where
    and_true : (g : Bool) → g ≡ (g && true)
    and_true true = refl
    and_true false = refl

pub touches_near : (a b c d e new : List TermNode) (s : Span) (low high before first reach start distance end near t : ℕ) → AreTyped a → IsSpan a s →
    low ≤ high →
    high < 2 ^ 32 → s.bytes ≡ suc before →
    first ≡ sub 32 low before → reach ≡ high - low + before → IsInterned a b (ConstantNode 32 first) start →
    IsMade b c (BinaryNode Minus 32 s.address.0 start) distance →
    IsInterned c d (ConstantNode 32 reach) end → IsMade d e (BinaryNode LessEqual 32 distance end) near →
    Makes e new 1 2 1 t (TellsByBoth (λ p q. p && q) e new s.guard.0 near t) →
    Makes a new 97 8 1 t (λ x. (g : Bool) → Tells a x s.guard.0 g → Tells new x t (g && list_any (lies low high) (span (term_word x a s.address.0) s.bytes)))
touches_near a b c d e new s low high before first reach start distance end near t typed store lh hh en ef er m1 m2 m3 m4 m5 =
    let g1 = interned_grew a b (ConstantNode 32 first) start m1 in
    let g2 = made_grew b c (BinaryNode Minus 32 s.address.0 start) distance m2 in
    let g3 = interned_grew c d (ConstantNode 32 reach) end m3 in
    let g4 = made_grew d e (BinaryNode LessEqual 32 distance end) near m4 in
    let g12 = grew_on a b c 0 0 0 0 1 64 0 0 0 2 g1 g2 in
    let g13 = grew_on a c d 64 0 0 0 3 0 0 0 0 1 g12 g3 in
    let g14 = grew_on a d e 64 0 0 0 4 32 0 0 0 2 g13 g4 in
    record {
      grew = grew_on a e new 96 0 0 0 6 1 0 0 0 2 g14 m5.grew;
      inputs = inputs_on a e new (λ m. ⊥)
          (inputs_on a d e (λ m. ⊥)
          (inputs_on a c d (λ m. ⊥)
          (inputs_on a b c (λ m. ⊥) (interned_inputs a b (ConstantNode 32 first) start (λ m. ⊥) m1 (λ i. i))
          (made_inputs b c (BinaryNode Minus 32 s.address.0 start) distance (λ m. ⊥) m2 (λ i. i)))
          (interned_inputs c d (ConstantNode 32 reach) end (λ m. ⊥) m3 (λ i. i)))
          (made_inputs d e (BinaryNode LessEqual 32 distance end) near (λ m. ⊥) m4 (λ i. i)))
          m5.inputs;
      typed = m5.typed;
      width = m5.width;
      holds = λ x r g h.
          let address : ℕ = term_word x a s.address.0 in
          let e1 : term_word x b s.address.0 ≡ address = word_keeps g1 x s.address.0 store.address.0 in
          let e2 : term_word x b start ≡ first = ap (λ v. v.word) (m1.value x) in
          let e3 : term_word x c distance ≡ sub 32 address first =
          ap (λ v. v.word) (m2.value x r) ∙ ap (λ (z : ℕ). sub 32 z (term_word x b start)) e1 ∙ ap (sub 32 address) e2 in
          let e4 : term_word x d distance ≡ sub 32 address first = word_keeps g3 x distance m2.within ∙ e3 in
          let e5 : term_word x d end ≡ reach = ap (λ v. v.word) (m3.value x) in
          let e6 : Tells e x near (nat_le (sub 32 address first) reach) =
          ap (λ v. v.word) (m4.value x r) ∙ ap (λ (z : ℕ). bit (nat_le z (term_word x d end))) e4 ∙ ap (λ (z : ℕ). bit (nat_le (sub 32 address first) z)) e5 in
          m5.holds x r g (nat_le (sub 32 address first) reach) (tells_keep g14 x s.guard.0 g store.guard.0 h) e6
          ∙ ap (λ (q : Bool). bit (g && q)) (sym (lie_by low high address s.bytes before first reach (word_fits x a 32 s.address.0 r typed store.address) lh hh
          (omega (arith, store.few)) en ef er));
    }

-- what is stored stays so
pub span_keeps : (old new : List TermNode) (g l st j n : ℕ) (s : Span) → Grew old new g l st j n → IsSpan old s → IsSpan new s
span_keeps old new g l st j n s grew h = record {
  guard = grew_width old new g l st j n 1 s.guard.0 grew h.guard;
  address = grew_width old new g l st j n 32 s.address.0 grew h.address;
  some = h.some;
  few = h.few;
}

-- one run behind others
is_in_more : (runs : List AddressRun) (k : AddressRun) (a : ℕ) → is_in (runs ++ k ∷ []) a ≡ (is_in runs a || lies k.low k.high a)
is_in_more runs k a = list_any-append (λ (q : AddressRun). lies q.low q.high a) runs (k ∷ []) ∙ ap (λ (q : Bool). is_in runs a ||
    q) (or_nothing (lies k.low k.high a))
  where
    or_nothing : (b : Bool) → (b || false) ≡ b
    or_nothing true = refl
    or_nothing false = refl

crossed : (p q r s : Bool) → ((p || q) || (r || s)) ≡ ((p || r) || (q || s))
crossed true true r s = refl
crossed true false r s = refl
crossed false true true s = refl
crossed false true false s = refl
crossed false false true s = refl
crossed false false false s = refl

-- a test by two others
any_both : (f p q : ℕ → Bool) (xs : List ℕ) → ((a : ℕ) → f a ≡ (p a || q a)) → list_any f xs ≡ (list_any p xs || list_any q xs)
any_both f p q [] h = refl
any_both f p q (x ∷ xs) h =
    ap (λ z. z || list_any f xs) (h x) ∙ ap (λ z. (p x || q x) || z) (any_both f p q xs h) ∙ crossed (p x) (q x) (list_any p xs) (list_any q xs)

more_by : (p g a b : Bool) → ((p || (g && a)) || (g && b)) ≡ (p || (g && (a || b)))
more_by true g a b = refl
more_by false true a b = refl
more_by false false a b = refl

-- one store against some runs: a bit was 1, or some byte of the runs is stored
abbrev pub Touches : (old new : List TermNode) → Span → (runs : List AddressRun) → (before t : ℕ) → TermReading → Type 0
Touches old new s runs before t x =
    (p g : Bool) → Tells old x before p → Tells old x s.guard.0 g →
    Tells new x t (p || (g && list_any (is_in runs) (span (term_word x old s.address.0) s.bytes)))

none_in : (xs : List ℕ) → list_any (is_in []) xs ≡ false
none_in [] = refl
none_in (x ∷ xs) = none_in xs

pub touches_none : (ns : List TermNode) (s : Span) (before : ℕ) → AreTyped ns → HasWidth ns 1 before →
    Makes ns ns (98 * 0) (10 * 0) 1 before (Touches ns ns s [] before before)
touches_none ns s before typed w = record {
  grew = grew_none ns;
  inputs = inputs_none ns (λ m. ⊥);
  typed = typed;
  width = w;
  holds = λ x r p g hp hg. hp ∙ ap bit (nothing p g ∙ ap (λ (q : Bool). p || (g && q)) (sym (none_in (span (term_word x ns s.address.0) s.bytes))));
}
  where
    nothing : (p g : Bool) → p ≡ (p || (g && false))
    nothing true g = refl
    nothing false true = refl
    nothing false false = refl

-- one run more
touches_next : (old cur mid new : List TermNode) (s : Span) (runs : List AddressRun) (k : AddressRun) (i before left hit t : ℕ) → IsSpan old s →
    Makes old cur (98 * i) (10 * i) 1 left (Touches old cur s runs before left) →
    Makes cur mid 97 8 1 hit (λ x. (g : Bool) → Tells cur x s.guard.0 g →
    Tells mid x hit (g && list_any (lies k.low k.high) (span (term_word x cur s.address.0) s.bytes))) →
    Makes mid new 1 2 1 t (TellsByBoth (λ p q. p || q) mid new left hit t) →
    Makes old new (98 * (i + 1)) (10 * (i + 1)) 1 t (Touches old new s (runs ++ k ∷ []) before t)
touches_next old cur mid new s runs k i before left hit t store m1 m2 m3 =
    let g12 = grew_on cur mid new 97 0 0 0 8 1 0 0 0 2 m2.grew m3.grew in
    record {
      grew = grew_more old new (98 * i + 98) 0 0 0 (10 * i + 10) (98 * (i + 1)) 0 0 0 (10 * (i + 1)) (omega arith) (omega arith) (omega arith) (omega arith)
          (omega arith)
          (grew_on old cur new (98 * i) 0 0 0 (10 * i) 98 0 0 0 10 m1.grew g12);
      inputs = inputs_on old mid new (λ m. ⊥) (inputs_on old cur mid (λ m. ⊥) m1.inputs m2.inputs) m3.inputs;
      typed = m3.typed;
      width = m3.width;
      holds = λ x r p g hp hg.
          let a : ℕ = term_word x old s.address.0 in
          let bytes : List ℕ = span a s.bytes in
          let same : term_word x cur s.address.0 ≡ a = word_keeps m1.grew x s.address.0 store.address.0 in
          let first : Tells mid x left (p || (g && list_any (is_in runs) bytes)) = tells_keep m2.grew x left (p ||
          (g && list_any (is_in runs) bytes)) m1.width.0
          (m1.holds x r p g hp hg) in
          let second : Tells mid x hit (g && list_any (lies k.low k.high) bytes) =
          m2.holds x r g (tells_keep m1.grew x s.guard.0 g store.guard.0 hg) ∙ ap (λ (z : ℕ). bit (g && list_any (lies k.low k.high) (span z s.bytes))) same in
          m3.holds x r (p || (g && list_any (is_in runs) bytes)) (g && list_any (lies k.low k.high) bytes) first second
          ∙ ap bit (more_by p g (list_any (is_in runs) bytes) (list_any (lies k.low k.high) bytes)
          ∙ ap (λ (q : Bool). p || (g && q)) (sym (any_both (is_in (runs ++ k ∷ [])) (is_in runs) (lies k.low k.high) bytes (is_in_more runs k))));
    }

pub touches_more : (old cur mid new : List TermNode) (s : Span) (kept : List (ℕ × ℕ)) (i : ℕ) (k : ℕ × ℕ) (before left hit t : ℕ) → i < length kept →
    k ≡ get_or kept i k →
    IsSpan old s →
    Makes old cur (98 * i) (10 * i) 1 left (Touches old cur s (map kept_of (take i kept)) before left) →
    Makes cur mid 97 8 1 hit (λ x. (g : Bool) → Tells cur x s.guard.0 g →
    Tells mid x hit (g && list_any (lies k.0 k.1) (span (term_word x cur s.address.0) s.bytes))) →
    Makes mid new 1 2 1 t (TellsByBoth (λ p q. p || q) mid new left hit t) → Makes old new (98 * (i + 1)) (10 * (i + 1)) 1 t
    (Touches old new s (map kept_of (take (i + 1) kept)) before t)
touches_more old cur mid new s kept i k before left hit t within at store m1 m2 m3 =
    let next : map kept_of (take (i + 1) kept) ≡ map kept_of (take i kept) ++ kept_of k ∷ [] =
    ap (λ (z : List (ℕ × ℕ)). map kept_of z) (take_more kept i k within) ∙ map-append kept_of (take i kept) (get_or kept i k ∷ [])
    ∙ ap (λ (z : ℕ × ℕ). map kept_of (take i kept) ++ kept_of z ∷ []) (sym at) in
    subst (λ (z : List AddressRun). Makes old new (98 * (i + 1)) (10 * (i + 1)) 1 t (Touches old new s z before t)) (sym next)
    (touches_next old cur mid new s (map kept_of (take i kept)) (kept_of k) i before left hit t store m1 m2 m3)

-- all runs
pub touches_all : (old new : List TermNode) (s : Span) (kept : List (ℕ × ℕ)) (i before t : ℕ) → length kept ≤ i → i ≤ length kept →
    Makes old new (98 * i) (10 * i) 1 t (Touches old new s (map kept_of (take i kept)) before t) →
    Makes old new (98 * length kept) (10 * length kept) 1 t (Touches old new s (map kept_of kept) before t)
touches_all old new s kept i before t above below m =
    subst (λ (z : List (ℕ × ℕ)). Makes old new (98 * length kept) (10 * length kept) 1 t (Touches old new s (map kept_of z) before t)) (take-length kept)
    (subst (λ (n : ℕ). Makes old new (98 * n) (10 * n) 1 t (Touches old new s (map kept_of (take n kept)) before t)) (let e : i
    ≡ length kept = omega (arith, above, below) in e) m)

-- a run of kept bytes
pub run_at : (kept : List (ℕ × ℕ)) (i : ℕ) (k : ℕ × ℕ) → AreRuns (map kept_of kept) → i < length kept → k ≡ get_or kept i k → k.0 ≤ k.1
run_at kept i k runs within at = (runs (kept_of k) (
  i,
  omega (arith, within, length-map kept kept_of),
  get_or-map kept_of kept i k
      (kept_of k) within ∙ ap kept_of (sym at),
)).0

-- some byte of a span, under a guard that is 1, passes a test
abbrev pub has_hit : List TermNode → TermReading → (ℕ → Bool) → Span → Bool
has_hit ns x f s = (term_word x ns s.guard.0 == 1) && list_any f (span (term_word x ns s.address.0) s.bytes)

-- it is kept
abbrev pub keeps_hit : List TermNode → TermReading → List AddressRun → Span → Bool
keeps_hit ns x runs s = has_hit ns x (is_in runs) s

pub bit_test : (b : Bool) (n : ℕ) → n ≡ bit b → b ≡ (n == 1)
bit_test true n e = sym (ap (λ (z : ℕ). z == 1) e)
bit_test false n e = sym (ap (λ (z : ℕ). z == 1) e)

pub writes_none : (old new : List TermNode) (t : ℕ) (runs : List AddressRun) → Makes old new 0 1 1 t (λ x. Tells new x t false) →
    Makes old new (98 * (0 * length runs)) (1 + 10 * (0 * length runs)) 1 t (λ x. Tells new x t (list_any (keeps_hit old x runs) []))
writes_none old new t runs m = record {
  grew = grew_more old new 0 0 0 0 1 (98 * (0 * length runs)) 0 0 0 (1 + 10 * (0 * length runs)) (omega arith) (omega arith) (omega arith) (omega arith)
      (omega arith) m.grew;
  inputs = m.inputs;
  typed = m.typed;
  width = m.width;
  holds = m.holds;
}

-- one store more
pub writes_more : (old cur new : List TermNode) (stored : List Span) (runs : List AddressRun) (i : ℕ) (s : Span) (left t : ℕ) → i < length stored →
    s ≡ get_or stored i s →
    IsSpan old s → AreTyped old →
    Makes old cur (98 * (i * length runs)) (1 + 10 * (i * length runs)) 1 left (λ x. Tells cur x left (list_any (keeps_hit old x runs) (take i stored))) →
    Makes cur new (98 * length runs) (10 * length runs) 1 t (Touches cur new s runs left t) →
    Makes old new (98 * ((i + 1) * length runs)) (1 + 10 * ((i + 1) * length runs)) 1 t
    (λ x. Tells new x t (list_any (keeps_hit old x runs) (take (i + 1) stored)))
writes_more old cur new stored runs i s left t within at store typed m1 m2 =
    let k : (i + 1) * length runs ≡ i * length runs + length runs = more i (length runs) in
    record {
      grew = grew_more old new (98 * (i * length runs) + 98 * length runs) 0 0 0 (1 + 10 * (i * length runs) + 10 * length runs)
          (98 * ((i + 1) * length runs)) 0 0 0
          (1 + 10 * ((i + 1) * length runs))
          (omega (arith, k)) (omega arith) (omega arith) (omega arith) (omega (arith, k))
          (grew_on old cur new (98 * (i * length runs)) 0 0 0 (1 + 10 * (i * length runs)) (98 * length runs) 0 0 0 (10 * length runs) m1.grew m2.grew);
      inputs = inputs_on old cur new (λ m. ⊥) m1.inputs m2.inputs;
      typed = m2.typed;
      width = m2.width;
      holds = λ x r.
          let guard = tells_some x old s.guard.0 r typed store.guard in
          let same : term_word x cur s.address.0 ≡ term_word x old s.address.0 = word_keeps m1.grew x s.address.0 store.address.0 in
          let done : Bool = list_any (keeps_hit old x runs) (take i stored) in
          m2.holds x r done guard.0 (m1.holds x r) (tells_keep m1.grew x s.guard.0 guard.0 store.guard.0 guard.1)
          ∙ ap (λ (z : ℕ). bit (done || (guard.0 && list_any (is_in runs) (span z s.bytes)))) same
          ∙ ap (λ (z : Bool). bit (done || (z && list_any (is_in runs) (span (term_word x old s.address.0) s.bytes))))
          (bit_test guard.0 (term_word x old s.guard.0) guard.1)
          ∙ ap (λ (z : Span). bit (done || keeps_hit old x runs z)) at ∙ ap bit (sym (list_any_more (keeps_hit old x runs) stored i s within));
    }
  where
    more : (i n : ℕ) → (i + 1) * n ≡ i * n + n
    more i n = omega arith

both_are : (p q : Bool) → (p && q) ≡ true → (p ≡ true) × (q ≡ true)
both_are true true h = (refl, refl)
both_are true false h = absurd (no h)
  where
    no : false ≡ true → ⊥
    no e = cc
both_are false q h = absurd (no h)
  where
    no : false ≡ true → ⊥
    no e = cc

are_both : (p q : Bool) → p ≡ true → q ≡ true → (p && q) ≡ true
are_both true q h k = k
are_both false q h k = h

one_by : (n : ℕ) → (n == 1) ≡ true → n ≡ 1
one_by n e = grind (arith, nat_tests)

by_one : (n : ℕ) → n ≡ 1 → (n == 1) ≡ true
by_one n e = grind (arith, nat_tests)

-- a test that some element passes
pub has_any : {X : Type 0} → (f : X → Bool) (xs : List X) (x : X) → Contains xs x → f x ≡ true → list_any f xs ≡ true
has_any f xs x c h = elim (truth (list_any f xs)) [ inl e ↦ e | inr e ↦ absurd (not_any f xs e x c h) ]

pub same_truth : (p q : Bool) → (p ≡ true → q ≡ true) → (q ≡ true → p ≡ true) → p ≡ q
same_truth true q f g = sym (f refl)
same_truth false true f g = g refl
same_truth false false f g = refl

-- a byte that passes is among those of the spans where some span has one
pub hits_are : (ns : List TermNode) (x : TermReading) (f : ℕ → Bool) (spans : List Span) (bytes : List ℕ) →
    ((a : ℕ) → Contains bytes a ↔ IsSpanned ns x spans a) →
    list_any (has_hit ns x f) spans ≡ list_any f bytes
hits_are ns x f spans bytes same = same_truth (list_any (has_hit ns x f) spans) (list_any f bytes) on back
  where
    on : list_any (has_hit ns x f) spans ≡ true → list_any f bytes ≡ true
    on h =
        let s = any_is (has_hit ns x f) spans h in
        let both = both_are (term_word x ns s.0.guard.0 == 1) (list_any f (span (term_word x ns s.0.address.0) s.0.bytes)) s.2 in
        let a = any_is f (span (term_word x ns s.0.address.0) s.0.bytes) both.1 in
        has_any f bytes a.0 ((same a.0).1 (s.0, s.1, one_by (term_word x ns s.0.guard.0) both.0, a.1)) a.2

    back : list_any f bytes ≡ true → list_any (has_hit ns x f) spans ≡ true
    back h =
        let a = any_is f bytes h in
        let s = (same a.0).0 a.1 in
        has_any (has_hit ns x f) spans s.0 s.1
        (are_both (term_word x ns s.0.guard.0 == 1) (list_any f (span (term_word x ns s.0.address.0) s.0.bytes))
        (by_one (term_word x ns s.0.guard.0) s.2)
        (has_any f (span (term_word x ns s.0.address.0) s.0.bytes) a.0 s.3 a.2))

writes_end : (old new : List TermNode) (stored : List Span) (runs : List AddressRun) (t : ℕ) →
    Makes old new (98 * (length stored * length runs)) (1 + 10 * (length stored * length runs)) 1 t
    (λ x. Tells new x t (list_any (keeps_hit old x runs) stored)) →
    TellsKept old new stored runs t
writes_end old new stored runs t m = record {
  grew = m.grew;
  inputs = m.inputs;
  typed = m.typed;
  width = m.width;
  tells = λ x r bytes same. m.holds x r ∙ ap bit (hits_are old x (is_in runs) stored bytes same);
}

-- all stores
pub writes_all : (old new : List TermNode) (stored : List Span) (runs : List AddressRun) (i t : ℕ) → length stored ≤ i → i ≤ length stored →
    Makes old new (98 * (i * length runs)) (1 + 10 * (i * length runs)) 1 t (λ x. Tells new x t (list_any (keeps_hit old x runs) (take i stored))) →
    TellsKept old new stored runs t
writes_all old new stored runs i t above below m =
    writes_end old new stored runs t
    (subst (λ (z : List Span). Makes old new (98 * (length stored * length runs)) (1 + 10 * (length stored * length runs)) 1 t
    (λ x. Tells new x t (list_any (keeps_hit old x runs) z))) (take-length stored)
    (subst (λ (n : ℕ). Makes old new (98 * (n * length runs)) (1 + 10 * (n * length runs)) 1 t
    (λ x. Tells new x t (list_any (keeps_hit old x runs) (take n stored))))
    (let e : i ≡ length stored = omega (arith, above, below) in e) m))

-- an element at a place
pub has_at : {X : Type 0} → (xs : List X) (i : ℕ) (x : X) → i < length xs → x ≡ get_or xs i x → Contains xs x
has_at xs i x within at = (i, within, sym at)

-- as many runs as there are pairs
pub by_count : (old new : List TermNode) (kept : List (ℕ × ℕ)) (t : ℕ) (claim : TermReading → Type 0) →
    Makes old new (98 * length kept) (10 * length kept) 1 t claim →
    Makes old new (98 * length (map kept_of kept)) (10 * length (map kept_of kept)) 1 t claim
by_count old new kept t claim m = subst (λ (n : ℕ). Makes old new (98 * n) (10 * n) 1 t claim) (sym (length-map kept kept_of)) m
