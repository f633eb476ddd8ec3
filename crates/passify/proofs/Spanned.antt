-- Bytes that lines say, and a memory that takes them from a part.
use Rattle.std.proofs.Common.{◌≡◌, ◌↔◌, ◌⊎◌, inl, inr, ℕ, zero, suc, ◌+◌, ◌-◌, ◌*◌, ◌^◌, ◌<◌, ◌≤◌, Bool, true, false, ◌||◌, nat_eq, List, [], ◌∷◌, ◌++◌, Contains, length, map, take, get_or, refl, ap, sym, subst, ◌∙◌, arith, length-append}
use Rattle.std.specs.Prelude.{if◌then◌else◌, sum_by}
use Rattle.std.specs.List.{list_any}
use Rattle.std.proofs.lemmas.List.{take_more, map-append}
use Rattle.std.proofs.lemmas.List.Concat.{flat_map-append}
use Rattle.std.proofs.lemmas.List.Folds.{list_any-append}
use Rattle.std.proofs.lemmas.List.Sums.{sum_by-append, sum_by_more}
use Rattle.std.proofs.lemmas.List.Elements.{Contains-append_left, Contains-append_right}
use Rattle.word_spec.specs.Words.{add}
use Rattle.word_spec.specs.Memory.{endian, span}
use Rattle.word_spec.specs.RowFiles.{from_to}
use Rattle.bilv_spec.specs.Notes.{value}
use Rattle.bilv_spec.specs.Points.{line_price, bytes_loaded}
use Rattle.term_spec.specs.Terms.{TermReading, InRange, TermNode, TakeNode, AreTyped, HasMemory, HasWidth, term_value, term_word}
use Rattle.walk_spec.specs.Unrolled.{state_at}
use Rattle.walk_spec.specs.Prices.{line_size}
use Rattle.frame_spec.specs.Frames.{Writes, written}
use Rattle.term_dag.specs.Made.{IsMade}
use Rattle.term_dag.proofs.Ranges.{word_fits}
use Rattle.term_dag.proofs.Growth.{grew_on, grew_more, grew_none, grew_width, inputs_on, inputs_more, inputs_none, made_grew, made_inputs, made_width}
use Rattle.notes_value.specs.FrameViews.{writes_of}
use Rattle.notes_value.specs.Views.{expr_of}
use Rattle.notes_value.specs.declared.notes.Writes.{Writes as Source}
use Rattle.term_dag.specs.declared.nodes.Term.{Term}
use Rattle.note_terms.specs.declared.Now.{Now}
use Rattle.note_terms.specs.Lines.{AreStateTerms, IsWord}
use Rattle.note_terms.proofs.Valued.{is_state_stays}
use Rattle.passify.specs.declared.spans.Span.{Span}
use Rattle.passify.specs.Spans.{AreSpans, IsSpan, IsSpanned, IsTaken, addresses, addresses_of, bytes_of}
use Rattle.passify.proofs.Kept.{word_keeps}
use Rattle.passify.proofs.Lines.{map_more}
use Rattle.passify.proofs.Outside.{own_keep, spans_keep}
use Rattle.passify.proofs.Ranges.{bytes_from}

pub spans_none : (ns : List TermNode) (big : Bool) (now : Now) (sure : ℕ) → AreTyped ns → AreSpans ns ns big now sure [] []
spans_none ns big now sure typed = record {
  grew = grew_none ns;
  inputs = inputs_none ns (λ m. ⊥);
  typed = typed;
  each = λ s (i, l, e). absurd (omega (arith, l));
  counts = refl;
  written = λ x r c at h. refl;
}

-- an element at the end, or one before
last_or : {X : Type 0} (P : X → Type 0) (xs : List X) (y : X) → ((x : X) → Contains xs x → P x) → P y → (x : X) → Contains (xs ++ y ∷ []) x → P x
last_or P [] y f h x (zero, l, e) = subst P e h
last_or P [] y f h x (suc i, l, e) = absurd (omega (arith, l))
last_or P (z ∷ xs) y f h x (zero, l, e) = subst P e (f z (0, omega arith, refl))
last_or P (z ∷ xs) y f h x (suc i, l, e) = last_or P xs y (λ w c. f w (suc c.0, (let q = c.1 in omega (arith, q)), c.2)) h x (i, omega (arith, l), e)

-- one line more
pub spans_more : (old cur new : List TermNode) (big : Bool) (now : Now) (sure : ℕ) (writes : List Writes) (w : Writes) (spans : List Span) (s : Span) →
    AreStateTerms old now → HasWidth old 1 sure → s.guard.0 ≡ sure → s.bytes ≡ w.count → 1 ≤ w.count → w.count < 2 ^ 32 → AreSpans old cur big now sure writes spans →
    AreTyped new → IsWord cur new big w.says now now s.address.0 → AreSpans old new big now sure (writes ++ w ∷ []) (spans ++ s ∷ [])
spans_more old cur new big now sure writes w spans s terms wy guard bytes some few k typed m =
    let g = sum_by-append (λ (v : Writes). line_price v.says - 64) writes (w ∷ []) in
    let l = sum_by-append (λ (v : Writes). bytes_loaded v.says) writes (w ∷ []) in
    let n = sum_by-append (λ (v : Writes). 4 * line_size v.says + 8) writes (w ∷ []) in
    let G = sum_by (λ (v : Writes). line_price v.says - 64) writes in
    let L = sum_by (λ (v : Writes). bytes_loaded v.says) writes in
    let N = sum_by (λ (v : Writes). 4 * line_size v.says + 8) writes in
    record {
      grew = grew_more old new (G + (line_price w.says - 64)) (L + bytes_loaded w.says) 0 0 (N + (4 * line_size w.says + 8))
          (sum_by (λ v. line_price v.says - 64) (writes ++ w ∷ [])) (sum_by (λ v. bytes_loaded v.says) (writes ++ w ∷ [])) 0 0
          (sum_by (λ v. 4 * line_size v.says + 8) (writes ++ w ∷ [])) (omega (arith, g)) (omega (arith, l)) (omega arith) (omega arith) (omega (arith, n))
          (grew_on old cur new G L 0 0 N (line_price w.says - 64) (bytes_loaded w.says) 0 0 (4 * line_size w.says + 8) k.grew m.grew);
      inputs = inputs_on old cur new (λ m. ⊥) k.inputs m.inputs;
      typed = typed;
      each = last_or (λ t. IsSpan new t × (t.guard.0 ≡ sure)) spans s
          (λ t c. (spans_keep cur new _ _ _ _ _ spans m.grew (λ t c. (k.each t c).0) t c, (k.each t c).1)) (
            record {
              guard = subst (λ (z : ℕ). HasWidth new 1 z) (sym guard) (grew_width cur new _ _ _ _ _ 1 sure m.grew (grew_width old cur _ _ _ _ _ 1 sure k.grew wy));
              address = m.width;
              some = omega (arith, bytes, some);
              few = omega (arith, bytes, few);
            },
            guard,
          );
      counts = map-append (λ (t : Span). t.bytes) spans (s ∷ []) ∙ ap (λ z. z ++ s.bytes ∷ []) k.counts ∙ ap (λ z. map (λ v. v.count) writes ++ z ∷ []) bytes
          ∙ sym (map-append (λ (v : Writes). v.count) writes (w ∷ []));
      written = λ x r c at h.
          let one : addresses new x s ≡ written (endian big) (w ∷ []) (state_at c at) =
          ap (λ z. map (add 32 z) (from_to 0 s.bytes)) (m.value x r c c at at (is_state_stays old cur _ _ _ _ _ now x c at k.grew terms h)
          (is_state_stays old cur _ _ _ _ _ now x c at k.grew terms h))
          ∙ ap (λ (z : ℕ). map (add 32 (value (endian big) w.says (state_at c at) (state_at c at))) (from_to 0 z)) bytes ∙ nothing _ in
          flat_map-append (addresses new x) spans (s ∷ []) ∙ ap (λ z. z ++ (addresses new x s ++ [])) (own_keep cur new _ _ _ _ _ x spans m.grew
          (λ t q. (k.each t q).0) ∙ k.written x r c at h)
          ∙ ap (λ z. written (endian big) writes (state_at c at) ++ z) (no_more (addresses new x s) ∙ one)
          ∙ sym (flat_map-append _ writes (w ∷ []));
    }
  where
    no_more : (xs : List ℕ) → xs ++ [] ≡ xs
    no_more [] = refl
    no_more (y ∷ xs) = ap (λ z. y ∷ z) (no_more xs)

    nothing : (xs : List ℕ) → xs ≡ xs ++ []
    nothing xs = sym (no_more xs)

-- as it is made of a line in the code
pub spans_push : (old cur new : List TermNode) (big : Bool) (now : Now) (sure : Term) (writes : List Source) (i : ℕ) (w : Source) (before after : List Span)
    (s : Span) (address : Term) → i < length writes → w ≡ get_or writes i w → after ≡ before ++ s ∷ [] → s.guard ≡ sure → s.address ≡ address →
    s.bytes ≡ w.count → AreStateTerms old now → HasWidth old 1 sure.0 → 1 ≤ w.count → w.count < 2 ^ 32 →
    AreSpans old cur big now sure.0 (map writes_of (take i writes)) before → AreTyped new → IsWord cur new big (expr_of w.says) now now address.0 →
    AreSpans old new big now sure.0 (map writes_of (take (i + 1) writes)) after
spans_push old cur new big now sure writes i w before after s address l here pushed guard at bytes terms wy some few k typed m =
    subst (λ (z : List Span). AreSpans old new big now sure.0 (map writes_of (take (i + 1) writes)) z) (sym pushed)
    (subst (λ (z : List Writes). AreSpans old new big now sure.0 z (before ++ s ∷ [])) (sym (map_more writes_of writes i w l here))
    (spans_more old cur new big now sure.0 (map writes_of (take i writes)) (writes_of w) before s terms wy (ap (λ (t : Term). t.0) guard) bytes some few k typed
    (subst (λ (t : Term). IsWord cur new big (expr_of w.says) now now t.0) (sym at) m)))

-- what is written is spanned
pub written_spanned : (ns : List TermNode) (x : TermReading) (spans : List Span) (a : ℕ) → InRange x → AreTyped ns →
    ((s : Span) → Contains spans s → IsSpan ns s × (term_word x ns s.guard.0 ≡ 1)) → Contains (addresses_of ns x spans) a ↔ IsSpanned ns x spans a
written_spanned ns x spans a r typed h = (on spans h, back spans h)
  where
    is : (s : Span) → IsSpan ns s → addresses ns x s ≡ span (term_word x ns s.address.0) s.bytes
    is s k = bytes_from (term_word x ns s.address.0) s.bytes (word_fits x ns 32 s.address.0 r typed k.address)

    split_of : (xs ys : List ℕ) → Contains (xs ++ ys) a → Contains xs a ⊎ Contains ys a
    split_of [] ys c = inr c
    split_of (y ∷ xs) ys (zero, l, e) = inl (0, omega arith, e)
    split_of (y ∷ xs) ys (suc i, l, e) = elim (split_of xs ys (i, omega (arith, l), e)) [
      | inl c ↦ inl (suc c.0, (let q = c.1 in omega (arith, q)), c.2)
      | inr c ↦ inr c
    ]

    tail : (s : Span) (spans : List Span) → ((t : Span) → Contains (s ∷ spans) t → IsSpan ns t × (term_word x ns t.guard.0 ≡ 1)) →
        (t : Span) → Contains spans t → IsSpan ns t × (term_word x ns t.guard.0 ≡ 1)
    tail s spans h t c = h t (suc c.0, (let q = c.1 in omega (arith, q)), c.2)

    on : (spans : List Span) → ((s : Span) → Contains spans s → IsSpan ns s × (term_word x ns s.guard.0 ≡ 1)) →
        Contains (addresses_of ns x spans) a → IsSpanned ns x spans a
    on [] h (i, l, e) = absurd (omega (arith, l))
    on (s ∷ spans) h c = elim (split_of (addresses ns x s) (addresses_of ns x spans) c) [
      | inl d ↦ (let k = h s (0, omega arith, refl) in (s, (0, omega arith, refl), k.1, subst (λ (l : List ℕ). Contains l a) (is s k.0) d))
      | inr d ↦ (let q = on spans (tail s spans h) d in (q.0, (suc q.1.0, (let z = q.1.1 in omega (arith, z)), q.1.2), q.2, q.3))
    ]

    back : (spans : List Span) → ((s : Span) → Contains spans s → IsSpan ns s × (term_word x ns s.guard.0 ≡ 1)) →
        IsSpanned ns x spans a → Contains (addresses_of ns x spans) a
    back [] h (s, (i, l, e), g, b) = absurd (omega (arith, l))
    back (t ∷ spans) h (s, (zero, l, e), g, b) =
        Contains-append_left (addresses ns x t) (addresses_of ns x spans) a
        (subst (λ (l : List ℕ). Contains l a) (sym (is t (h t (0, omega arith, refl)).0)) (subst (λ (k : Span). Contains (span (term_word x ns k.address.0) k.bytes) a) (sym e) b))
    back (t ∷ spans) h (s, (suc i, l, e), g, b) =
        Contains-append_right (addresses ns x t) (addresses_of ns x spans) a (back spans (tail t spans h) (s, (i, omega (arith, l), e), g, b))

-- a memory that has taken nothing
pub taken_none : (ns : List TermNode) (part memory : ℕ) → AreTyped ns → HasMemory ns memory → IsTaken ns ns [] part memory memory
taken_none ns part memory typed h = record {
  grew = grew_none ns;
  inputs = inputs_none ns _;
  typed = typed;
  memory = h;
  byte = λ x r a. refl;
}

either_taken : (p q : Bool) (m n : ℕ) → (if q then m else (if p then m else n)) ≡ (if p || q then m else n)
either_taken true true m n = refl
either_taken true false m n = refl
either_taken false true m n = refl
either_taken false false m n = refl

-- one span more
pub taken_more : (old cur new : List TermNode) (spans : List Span) (i : ℕ) (s : Span) (part memory left t : ℕ) → i < length spans → s ≡ get_or spans i s →
    AreTyped old → ((k : Span) → Contains spans k → IsSpan old k) → HasMemory old memory → IsTaken old cur (take i spans) part memory left →
    IsMade cur new (TakeNode s.bytes left s.address.0 part) t → IsTaken old new (take (i + 1) spans) part memory t
taken_more old cur new spans i s part memory left t within here typed are wm k m =
    let store = are s (i, within, sym here) in
    let g = made_grew cur new (TakeNode s.bytes left s.address.0 part) t m in
    let more = take_more spans i s within in
    let sum : bytes_of (take (i + 1) spans) ≡ bytes_of (take i spans) + s.bytes =
    sum_by_more (λ (z : Span). z.bytes) spans i s within ∙ ap (λ (z : Span). bytes_of (take i spans) + z.bytes) (sym here) in
    let count : length (take (i + 1) spans) ≡ length (take i spans) + 1 = ap (λ (l : List Span). length l) more ∙ length-append (take i spans) (get_or spans i s ∷ []) in
    record {
      grew = grew_more old new (0 + 0) (0 + 0) (bytes_of (take i spans) + s.bytes) (0 + 0) (2 * length (take i spans) + 2) 0 0 (bytes_of (take (i + 1) spans)) 0
          (2 * length (take (i + 1) spans)) (omega arith) (omega arith) (omega (arith, sum)) (omega arith) (omega (arith, count))
          (grew_on old cur new 0 0 (bytes_of (take i spans)) 0 (2 * length (take i spans)) 0 0 s.bytes 0 2 k.grew g);
      inputs = inputs_on old cur new _
          (inputs_more old cur _ (λ m. (1 ≤ length (take (i + 1) spans)) × ((n b a : ℕ) × (m ≡ TakeNode n b a part)))
          (λ m j h. ((let e = h.0 in omega (arith, e, count)), h.1)) k.inputs)
          (made_inputs cur new (TakeNode s.bytes left s.address.0 part) t _ m (λ j. (omega (arith, count), (s.bytes, left, s.address.0, refl))));
      typed = m.typed;
      memory = made_width cur new (TakeNode s.bytes left s.address.0 part) t 0 m refl;
      byte = λ x r a.
          let old_at = word_keeps k.grew x s.address.0 store.address.0 in
          ap (λ v. v.bytes a) (m.value x r)
          ∙ ap (λ z. if list_any (nat_eq a) (map (add 32 z) (from_to 0 s.bytes)) then x.mem part a else (term_value x cur left).bytes a) old_at
          ∙ ap (λ z. if list_any (nat_eq a) (addresses old x s) then x.mem part a else z) (k.byte x r a)
          ∙ either_taken (list_any (nat_eq a) (addresses_of old x (take i spans))) (list_any (nat_eq a) (addresses old x s)) (x.mem part a) ((term_value x old memory).bytes a)
          ∙ ap (λ z. if z then x.mem part a else (term_value x old memory).bytes a) (sym (ap (λ l. list_any (nat_eq a) (addresses_of old x l)) more
          ∙ ap (list_any (nat_eq a)) (flat_map-append (addresses old x) (take i spans) (get_or spans i s ∷ []))
          ∙ list_any-append (nat_eq a) (addresses_of old x (take i spans)) (addresses old x (get_or spans i s) ++ [])
          ∙ ap (λ z. list_any (nat_eq a) (addresses_of old x (take i spans)) || z) (list_any-append (nat_eq a) (addresses old x (get_or spans i s)) []
          ∙ or_nothing (list_any (nat_eq a) (addresses old x (get_or spans i s))))
          ∙ ap (λ (z : Span). list_any (nat_eq a) (addresses_of old x (take i spans)) || list_any (nat_eq a) (addresses old x z)) (sym here)));
    }
  where
    or_nothing : (b : Bool) → (b || false) ≡ b
    or_nothing true = refl
    or_nothing false = refl
