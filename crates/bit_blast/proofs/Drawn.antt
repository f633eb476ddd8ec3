-- The choices that are drawn, place by place.
use Rattle.std.proofs.Common.{◌≡◌, ℕ, zero, suc, ◌+◌, ◌*◌, ◌<◌, ◌≤◌, Bool, true, false, List, [], ◌∷◌, ◌++◌, length, map, get_or, refl, ap, sym, ◌∙◌, subst, arith, inl, inr}
use Rattle.std.specs.Prelude.{Option, Some, None, slice_index_or, if◌then◌else◌}
use Rattle.std.proofs.lemmas.Bool.{cases_lt}
use Rattle.std.proofs.lemmas.List.{get_or_append_left, length_push, map-append}
use Rattle.word_spec.specs.RowFiles.{from_to}
use Rattle.word_spec.specs.Words.{bit}
use Rattle.walk_spec.specs.Unrolled.{UnrolledProgram, no_point, point_at}
use Rattle.term_spec.specs.ClauseForm.{drawn_below}
use Rattle.term_dag.proofs.ListLaws.{last}
use Rattle.start_value.specs.declared.layout.Layout.{Layout}
use Rattle.start_value.specs.declared.layout.Layout.TheVariants.{Rv32, Arm}
use Rattle.start_value.specs.Starts.{layout_of}
use Rattle.question_form.specs.declared.unrolled.Point.{Point}
use Rattle.question_form.specs.declared.unrolled.Unrolled.{Unrolled}
use Rattle.question_form.specs.Views.{no_code, points_of}
use Rattle.bit_blast.specs.Laid.{AreDrawn}

bit_small : (b : Bool) → bit b ≤ 1
bit_small true = omega arith
bit_small false = omega arith

pub drawn_few : (u : UnrolledProgram) (i : ℕ) → drawn_below u i ≤ i
drawn_few u zero = omega arith
drawn_few u (suc i) = let a = drawn_few u i in let b = bit_small ((point_at u i).draws) in omega arith

pub few_registers : (form : Layout) → length (layout_of form).registers ≤ 31
few_registers (Rv32 compressed) = let e : length (layout_of (Rv32 compressed)).registers ≡ 31 = refl in omega arith
few_registers (Arm big profile) = let e : length (layout_of (Arm big profile)).registers ≡ 15 = refl in omega arith

pub few_flags : (form : Layout) → length (layout_of form).flags ≤ 4
few_flags (Rv32 compressed) = let e : length (layout_of (Rv32 compressed)).flags ≡ 0 = refl in omega arith
few_flags (Arm big profile) = let e : length (layout_of (Arm big profile)).flags ≡ 4 = refl in omega arith

-- the points of a value
pub points_length : (u : Unrolled) (qs : List Point) → length (points_of u qs) ≡ length qs
points_length u [] = refl
points_length u (q ∷ qs) = ap suc (points_length u qs)

pub point_draws : (u : Unrolled) (qs : List Point) (i : ℕ) (d : Point) (b : Bool) → i < length qs → d ≡ get_or qs i d →
    b ≡ (slice_index_or u.codes.items d.code no_code).draws →
    (slice_index_or (points_of u qs) i no_point).draws ≡ b
point_draws u [] i d b l e f = absurd (omega arith)
point_draws u (q ∷ qs) zero d b l e f = sym (f ∙ ap (λ (x : Point). (slice_index_or u.codes.items x.code no_code).draws) e)
point_draws u (q ∷ qs) (suc i) d b l e f = point_draws u qs i d b (omega arith) e f

-- one more place
next_place : (u : UnrolledProgram) (n : ℕ) (ds : List (Option ℕ)) (k : ℕ) (o : Option ℕ) (m : ℕ) → AreDrawn u n ds k →
    o ≡ (if (point_at u n).draws then Some (drawn_below u n) else None) →
    m ≡ drawn_below u (suc n) → AreDrawn u (n + 1) (ds ++ o ∷ []) m
next_place u n ds k o m h e f = record {
  places = omega (arith, length_push ds o, h.places);
  each = λ i l. elim (cases_lt i n) [
    | inl j ↦ get_or_append_left ds (o ∷ []) None i (omega (arith, h.places)) ∙ h.each i j
    | inr j ↦ (
        let g : i ≡ length ds = omega (arith, h.places) in
        let k : n ≡ i = omega arith in
        ap (λ z. get_or (ds ++ o ∷ []) z None) g ∙ last ds o None ∙ e ∙ ap (λ z. if (point_at u z).draws then Some (drawn_below u z) else None) k)
  ];
  all = f ∙ ap (drawn_below u) (let e : suc n ≡ n + 1 = omega arith in e);
}

pub draws_one : (u : UnrolledProgram) (n : ℕ) (ds es : List (Option ℕ)) (k m : ℕ) → AreDrawn u n ds k → (point_at u n).draws ≡ true → es ≡ ds ++ Some k ∷ [] →
    m ≡ k + 1 → AreDrawn u (n + 1) es m
draws_one u n ds es k m h d e f =
    subst (λ (z : List (Option ℕ)). AreDrawn u (n + 1) z m) (sym e)
    (next_place u n ds k (Some k) m h (ap Some h.all ∙ sym (ap (λ z. if z then Some (drawn_below u n) else None) d))
    (let g : drawn_below u (suc n) ≡ drawn_below u n + 1 = ap (λ z. drawn_below u n + bit z) d in omega (arith, h.all)))

pub draws_none : (u : UnrolledProgram) (n : ℕ) (ds es : List (Option ℕ)) (k m : ℕ) → AreDrawn u n ds k → (point_at u n).draws ≡ false → es ≡ ds ++ None ∷ [] →
    m ≡ k → AreDrawn u (n + 1) es m
draws_none u n ds es k m h d e f =
    subst (λ (z : List (Option ℕ)). AreDrawn u (n + 1) z m) (sym e)
    (next_place u n ds k None m h (sym (ap (λ z. if z then Some (drawn_below u n) else None) d))
    (let g : drawn_below u (suc n) ≡ drawn_below u n + 0 = ap (λ z. drawn_below u n + bit z) d in omega (arith, h.all)))

-- how many draw, with the next place
pub drawn_next : (u : UnrolledProgram) (n k m : ℕ) (b : Bool) → k ≡ drawn_below u n → (point_at u n).draws ≡ b → m ≡ k + bit b → m ≡ drawn_below u (n + 1)
drawn_next u n k m b h d e =
    e ∙ ap (λ z. z + bit b) h ∙ ap (λ z. drawn_below u n + bit z) (sym d) ∙ ap (drawn_below u) (let f : suc n ≡ n + 1 = omega arith in f)

-- one more number of a range
pub range_push : (f k : ℕ) → from_to f (suc k) ≡ from_to f k ++ (f + k) ∷ []
range_push f zero = ap (λ z. z ∷ []) (let e : f ≡ f + 0 = omega arith in e)
range_push f (suc k) = ap (λ z. f ∷ z) (range_push (f + 1) k ∙ ap (λ z. from_to (f + 1) k ++ z ∷ []) (let e : f + 1 + k ≡ f + suc k = omega arith in e))

pub mapped_push : (g : ℕ → ℕ) (k : ℕ) → map g (from_to 0 (k + 1)) ≡ map g (from_to 0 k) ++ g k ∷ []
mapped_push g k =
    ap (λ z. map g (from_to 0 z)) (let e : k + 1 ≡ suc k = omega arith in e) ∙ ap (map g) (range_push 0 k) ∙ map-append g (from_to 0 k) ((0 + k) ∷ [])
    ∙ ap (λ z. map g (from_to 0 k) ++ g z ∷ []) (let e : 0 + k ≡ k = omega arith in e)

-- the states of the entry and of the head
pub few_states : (b : Bool) (n : ℕ) → n + (if b then n else 0) ≤ 2 * n
few_states true n = omega arith
few_states false n = omega arith
