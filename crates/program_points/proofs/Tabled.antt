-- The table of stacks, with one more.
use Rattle.std.proofs.Common.{◌≡◌, inl, inr, ℕ, ◌+◌, ◌≤◌, refl, ap, sym, ◌∙◌, subst, arith, List, [], ◌∷◌, ◌++◌, length, Some, None, false, cond}
use Rattle.std.specs.Prelude.{slice_get}
use Rattle.std.specs.Ordering.{is_eq}
use Rattle.std.specs.BTreeMap.{BTreeMap}
use Rattle.std.specs.BTreeMap as tree
use Rattle.program_points.specs.declared.values.Frame.{Frame}
use Rattle.program_points.specs.Tables.{pair_cmp, frame, IsTable, IsPushed}
use Rattle.program_points.proofs.Keys.{pair_tied, pair_itself}
use Rattle.program_points.proofs.Lists.{truth, push_cases, keeps, at_push, nothing_more}

pub table_none : (frames : List Frame) (numbers : BTreeMap (ℕ × ℕ) ℕ) → frames ≡ [] → ((q : ℕ × ℕ) → tree.get pair_cmp numbers q ≡ None) →
    IsTable frames numbers
table_none frames numbers e none = subst (λ (l : List Frame). IsTable l numbers) (sym e) (record {
  below = λ i f q. absurd (cc);
  known = λ i f q. absurd (cc);
  only = λ t b n q. absurd (let z = none (t, b) in cc);
})

pub had : (frames : List Frame) (numbers : BTreeMap (ℕ × ℕ) ℕ) (t b n : ℕ) → tree.get pair_cmp numbers (t, b) ≡ Some n → IsTable frames numbers →
    IsPushed frames frames t b n
had frames numbers t b n e is =
    let q = is.only t b n e in
    record { rest = []; begins = nothing_more frames; only = inl refl; index = q.0; number_is = q.1; frame_is = q.2 }

pub pushed_last : (frames new : List Frame) (t b n : ℕ) → new ≡ frames ++ frame t b ∷ [] → n ≡ length frames + 1 → IsPushed frames new t b n
pushed_last frames new t b n e is = record {
  rest = frame t b ∷ [];
  begins = e;
  only = inr refl;
  index = length frames;
  number_is = is;
  frame_is = ap (λ l. slice_get l (length frames)) e ∙ at_push frames (frame t b);
}

module _ (frames : List Frame) (numbers more : BTreeMap (ℕ × ℕ) ℕ) (t b n : ℕ) (is : IsTable frames numbers) (low : b ≤ length frames)
    (new : tree.get pair_cmp numbers (t, b) ≡ None) (number : n ≡ length frames + 1)
    (updates : (q : ℕ × ℕ) → tree.get pair_cmp more q ≡ cond (is_eq (pair_cmp (t, b) q)) (Some n) (tree.get pair_cmp numbers q)) where
  at_new : tree.get pair_cmp more (t, b) ≡ Some n
  at_new = updates (t, b) ∙ ap (λ z. cond z (Some n) (tree.get pair_cmp numbers (t, b))) (pair_itself t b)

  at_old : (c d : ℕ) → is_eq (pair_cmp (t, b) (c, d)) ≡ false → tree.get pair_cmp more (c, d) ≡ tree.get pair_cmp numbers (c, d)
  at_old c d h = updates (c, d) ∙ ap (λ z. cond z (Some n) (tree.get pair_cmp numbers (c, d))) h

  known_old : (c d m : ℕ) → tree.get pair_cmp numbers (c, d) ≡ Some m → tree.get pair_cmp more (c, d) ≡ Some m
  known_old c d m e = elim (truth (is_eq (pair_cmp (t, b) (c, d)))) [
    | inl h ↦ (let q = pair_tied t b c d h in
        let same : tree.get pair_cmp numbers (c, d) ≡ None = ap (λ z. tree.get pair_cmp numbers (z, d)) (sym q.0) ∙ ap
        (λ z. tree.get pair_cmp numbers (t, z)) (sym q.1) ∙ new in
        absurd (cc))
    | inr h ↦ at_old c d h ∙ e
  ]

  low_at : (i : ℕ) (f : Frame) → slice_get (frames ++ frame t b ∷ []) i ≡ Some f → f.below ≤ i
  low_at i f e = elim (push_cases frames (frame t b) i f e) [
    | inl q ↦ is.below i f q
    | inr q ↦ (let s : b ≡ f.below = ap (λ (z : Frame). z.below) q.1 in let l = q.0 in omega arith)
  ]

  known_at : (i : ℕ) (f : Frame) → slice_get (frames ++ frame t b ∷ []) i ≡ Some f → tree.get pair_cmp more (f.top, f.below) ≡ Some (i + 1)
  known_at i f e = elim (push_cases frames (frame t b) i f e) [
    | inl q ↦ known_old f.top f.below (i + 1) (is.known i f q)
    | inr q ↦ ap (λ (z : Frame). tree.get pair_cmp more (z.top, z.below)) (sym q.1) ∙ at_new ∙ ap Some (number ∙ ap (λ z. z + 1) (sym q.0))
  ]

  only_at : (c d m : ℕ) → tree.get pair_cmp more (c, d) ≡ Some m → (i : ℕ) × (m ≡ i + 1) × (slice_get (frames ++ frame t b ∷ []) i ≡ Some (frame c d))
  only_at c d m e = elim (truth (is_eq (pair_cmp (t, b) (c, d)))) [
    | inl h ↦ (let q = pair_tied t b c d h in
        let here : tree.get pair_cmp more (c, d) ≡ Some n = ap (λ z. tree.get pair_cmp more (z, d)) (sym q.0) ∙ ap
        (λ z. tree.get pair_cmp more (t, z)) (sym q.1) ∙ at_new in
        let same : m ≡ n = (cc) in
        (length frames, same ∙ number, at_push frames (frame t b) ∙ ap (λ z. Some (frame z b)) q.0 ∙ ap (λ z. Some (frame c z)) q.1))
    | inr h ↦ (let q = is.only c d m (sym (at_old c d h) ∙ e) in (q.0, q.1, keeps frames (frame t b ∷ []) q.0 (frame c d) q.2))
  ]

  pub table_push : (grown : List Frame) → grown ≡ frames ++ frame t b ∷ [] → IsTable grown more
  table_push grown e = subst (λ (l : List Frame). IsTable l more) (sym e) (record { below = low_at; known = known_at; only = only_at })
