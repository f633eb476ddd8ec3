-- What is listed for one root more.
use Rattle.std.proofs.Common.{◌≡◌, inl, inr, refl, ap, sym, ◌∙◌, subst, arith, ℕ, zero, suc, ◌+◌, ◌<◌, Bool, true, false, List, [], ◌∷◌, ◌++◌, length, map}
use Rattle.std.specs.Prelude.{filter, slice_index_or, if◌then◌else◌}
use Rattle.std.specs.Global.{Vec}
use Rattle.std.proofs.lemmas.Bool.{cases_lt}
use Rattle.std.proofs.lemmas.List.{length-append, map-append}
use Rattle.std.proofs.lemmas.List.Elements.{filter-append}
use Rattle.word_spec.specs.RowFiles.{from_to}
use Rattle.bit_blast.proofs.Drawn.{range_push}
use Rattle.mem_cells.specs.declared.cells.Celled.{Celled}
use Rattle.start_value.specs.declared.start.Start.{Start}
use Rattle.start_value.specs.Starts.{written_of}
use Rattle.term_dag.specs.declared.values.Reading.{Reading}
use Rattle.frame_start.specs.Changes.{gift_in}
use Rattle.frame_start.specs.Reads.{AreGiftReads, AreGiftsReads}
use Rattle.frame_start.specs.Segments.{AreEach, AreGiftsOf, IsGiftOf, choices_at}

same_before : (lists : List (Vec (ℕ × ℕ))) (v : Vec (ℕ × ℕ)) (i : ℕ) → i < length lists → choices_at (lists ++ v ∷ []) i ≡ choices_at lists i
same_before [] v i l = absurd (omega arith)
same_before (x ∷ lists) v zero l = refl
same_before (x ∷ lists) v (suc i) l = same_before lists v i (omega arith)

last_is : (lists : List (Vec (ℕ × ℕ))) (v : Vec (ℕ × ℕ)) → choices_at (lists ++ v ∷ []) (length lists) ≡ v.items
last_is [] v = refl
last_is (x ∷ lists) v = last_is lists v

module _ (Is : ℕ → List (ℕ × ℕ) → Type 0) where
  pub each_more : (n : ℕ) (lists more : List (Vec (ℕ × ℕ))) (v : Vec (ℕ × ℕ)) → AreEach Is n lists → more ≡ lists ++ v ∷ [] → Is n v.items →
      AreEach Is (n + 1) more
  each_more n lists more v h e of = subst (λ (z : List (Vec (ℕ × ℕ))). AreEach Is (n + 1) z) (sym e) (record {
    count = length-append lists (v ∷ []) ∙ (let k = h.count in omega arith);
    each = λ i l. elim (cases_lt i n) as (λ _. Is i (choices_at (lists ++ v ∷ []) i)) [
      | inl before ↦ subst (λ (z : List (ℕ × ℕ)). Is i z) (sym (same_before lists v i (let k = h.count in omega arith))) (h.each i before)
      | inr behind ↦ (let same : length lists ≡ i = (let k = h.count in omega arith) in let own : n ≡ i = omega arith in
          subst (λ (j : ℕ). Is i (choices_at (lists ++ v ∷ []) j)) same
          (subst (λ (z : List (ℕ × ℕ)). Is i z) (sym (last_is lists v))
          (subst (λ (j : ℕ). Is j v.items) own of)))
    ];
  })

-- the base reads of one gift more
module _ (c : Celled) (words : List ℕ) (others : List Reading) where
  pub listed_more : (n : ℕ) (lists more : List (Vec (ℕ × ℕ))) (v : Vec (ℕ × ℕ)) → AreGiftsReads c words others n lists → more ≡ lists ++ v ∷ [] →
      AreGiftReads c words others n v.items → AreGiftsReads c words others (n + 1) more
  listed_more n lists more v h e of =
      let q = each_more (AreGiftReads c words others) n lists more v (record { count = h.count; each = h.each }) e of in
      record { count = q.count; each = q.each }

-- one gift more
module _ (c : Celled) (values : List Bool) where
  gift_before : (gifts : List Start) (s : Start) (i : ℕ) → i < length gifts → gift_in (gifts ++ s ∷ []) i ≡ gift_in gifts i
  gift_before [] s i l = absurd (omega arith)
  gift_before (x ∷ gifts) s zero l = refl
  gift_before (x ∷ gifts) s (suc i) l = gift_before gifts s i (omega arith)

  gift_last : (gifts : List Start) (s : Start) → gift_in (gifts ++ s ∷ []) (length gifts) ≡ written_of s
  gift_last [] s = refl
  gift_last (x ∷ gifts) s = gift_last gifts s

  pub gifts_more : (n : ℕ) (gifts more : List Start) (s : Start) → AreGiftsOf c values n gifts → more ≡ gifts ++ s ∷ [] →
      IsGiftOf c values n (written_of s) → AreGiftsOf c values (n + 1) more
  gifts_more n gifts more s h e of = subst (λ (z : List Start). AreGiftsOf c values (n + 1) z) (sym e) (record {
    count = length-append gifts (s ∷ []) ∙ (let k = h.count in omega arith);
    each = λ i l. elim (cases_lt i n) as (λ _. IsGiftOf c values i (gift_in (gifts ++ s ∷ []) i)) [
      | inl before ↦ subst (IsGiftOf c values i) (sym (gift_before gifts s i (let k = h.count in omega arith))) (h.each i before)
      | inr behind ↦ (let same : length gifts ≡ i = (let k = h.count in omega arith) in let own : n ≡ i = omega arith in
          subst (λ (j : ℕ). IsGiftOf c values i (gift_in (gifts ++ s ∷ []) j)) same
          (subst (IsGiftOf c values i) (sym (gift_last gifts s)) (subst (λ (j : ℕ). IsGiftOf c values j (written_of s)) own of)))
    ];
  })

-- what is so of each element is so with one more
module _ {A : Type 0} where
  got_before : (xs : List A) (v d : A) (n : ℕ) → n < length xs → slice_index_or (xs ++ v ∷ []) n d ≡ slice_index_or xs n d
  got_before [] v d n l = absurd (omega arith)
  got_before (x ∷ xs) v d zero l = refl
  got_before (x ∷ xs) v d (suc n) l = got_before xs v d n (omega arith)

  got_last : (xs : List A) (v d : A) → slice_index_or (xs ++ v ∷ []) (length xs) d ≡ v
  got_last [] v d = refl
  got_last (x ∷ xs) v d = got_last xs v d

  pub each_pushed : (P : ℕ → A → Type 0) (xs ys : List A) (v d : A) (i : ℕ) → length xs ≡ i → ys ≡ xs ++ v ∷ [] →
      ((n : ℕ) → n < i → P n (slice_index_or xs n d)) → P i v → (n : ℕ) → n < i + 1 → P n (slice_index_or ys n d)
  each_pushed P xs ys v d i long e old new n l = subst (λ (zs : List A). P n (slice_index_or zs n d)) (sym e) (elim (cases_lt n i) [
    | inl before ↦ subst (P n) (sym (got_before xs v d n (omega arith))) (old n before)
    | inr behind ↦ (let own : length xs ≡ n = omega arith in let same : i ≡ n = omega arith in
        subst (λ (k : ℕ). P n (slice_index_or (xs ++ v ∷ []) k d)) own
        (subst (P n) (sym (got_last xs v d)) (subst (λ (k : ℕ). P k v) same new)))
  ])

-- the registers that may be changed, with one number more
module _ (f : ℕ → ℕ) (p : ℕ → Bool) where
  pub one_kept : (n : ℕ) → p n ≡ true → map f (filter p (n ∷ [])) ≡ f n ∷ []
  one_kept n h = ap (λ b. map f (if b then n ∷ [] else [])) h

  pub none_kept : (n : ℕ) → p n ≡ false → map f (filter p (n ∷ [])) ≡ []
  none_kept n h = ap (λ b. map f (if b then n ∷ [] else [])) h

  pub kept_push : (k : ℕ) → map f (filter p (from_to 0 (k + 1))) ≡ map f (filter p (from_to 0 k)) ++ map f (filter p (k ∷ []))
  kept_push k =
      ap (λ z. map f (filter p (from_to 0 z))) (let e : k + 1 ≡ suc k = omega arith in e)
      ∙ ap (λ z. map f (filter p z)) (range_push 0 k ∙ ap (λ z. from_to 0 k ++ z ∷ []) (let e : 0 + k ≡ k = omega arith in e))
      ∙ ap (map f) (filter-append p (from_to 0 k) (k ∷ [])) ∙ map-append f (filter p (from_to 0 k)) (filter p (k ∷ []))
