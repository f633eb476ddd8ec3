-- The numbers of base reads by their addresses.
use Rattle.std.proofs.Common.{◌≡◌, ◌⊎◌, inl, inr, refl, ap, sym, ◌∙◌, subst, arith, ℕ, zero, suc, ◌+◌, ◌<◌, ◌≤◌, Bool, true, false, List, [], ◌∷◌, ◌++◌, Option, Some, None, length, map, replicate, get_or, if◌then◌else◌}
use Rattle.std.specs.Prelude.{◌==◌, slice_get, slice_index_or, slice_set}
use Rattle.std.specs.Global.{Vec}
use Rattle.std.proofs.lemmas.Bool.{cases_lt}
use Rattle.std.proofs.lemmas.Bool.Decides.{nat_tests}
use Rattle.std.proofs.lemmas.List.{get_or-map, length-map}
use Rattle.std.proofs.lemmas.Option.{slice_get-get_or, slice_get_within}
use Rattle.frame_terms.specs.FrameCells.{BaseRead}
use Rattle.mem_cells.specs.declared.cells.BaseRead as coded
use Rattle.mem_cells.specs.FrameViews.{read_of}
use Rattle.bit_blast.specs.declared.input_places.PartRead.{PartRead}
use Rattle.bit_blast.specs.Places.{lists_of, number_in}
use Rattle.bit_blast.specs.Laid.{ArePartReads, with_read}

some : {X : Type 0} {a b : X} → Some a ≡ Some b → a ≡ b
some h = (cc)

-- as a list that is written
pub set_is : (lists : List (Vec PartRead)) (a : ℕ) (r : PartRead) (z d : Vec PartRead) → a < length lists → z.items ≡ (slice_index_or lists a d).items ++ r ∷ [] →
    lists_of (slice_set lists a z) ≡ with_read (lists_of lists) a r
set_is [] a r z d l e = absurd (omega arith)
set_is (x ∷ xs) zero r z d l e = ap (λ k. k ∷ lists_of xs) e
set_is (x ∷ xs) (suc a) r z d l e = ap (λ k. x.items ∷ k) (set_is xs a r z d (omega arith) e)

pub set_none : (lists : List (Vec PartRead)) (a : ℕ) (r : PartRead) → length lists ≤ a → lists_of lists ≡ with_read (lists_of lists) a r
set_none [] a r l = refl
set_none (x ∷ xs) zero r l = absurd (omega arith)
set_none (x ∷ xs) (suc a) r l = ap (λ k. x.items ∷ k) (set_none xs a r (omega arith))

-- the number of the read of a part, at an address of a list
pub number_there : (lists : List (Vec PartRead)) (part a : ℕ) (d : Vec PartRead) → a < length lists →
    number_in part (slice_index_or lists a d).items ≡ slice_index_or (map (number_in part) (lists_of lists)) a None
number_there [] part a d l = absurd (omega arith)
number_there (x ∷ xs) part zero d l = refl
number_there (x ∷ xs) part (suc a) d l = number_there xs part a d (omega arith)

pub number_out : (lists : List (Vec PartRead)) (part a : ℕ) → length lists ≤ a → None ≡ slice_index_or (map (number_in part) (lists_of lists)) a None
number_out [] part a l = refl
number_out (x ∷ xs) part zero l = absurd (omega arith)
number_out (x ∷ xs) part (suc a) l = number_out xs part a (omega arith)

-- the first reads are noted
pub record AreFirst (part n : ℕ) (reads : List BaseRead) (i : ℕ) (places : List (Option ℕ)) : Type 0 where
  pub count : length places ≡ n
  pub right : (j k : ℕ) → slice_index_or places j None ≡ Some k → (k < i) × (slice_get reads k ≡ Some (record { part = part; address = j }))
  pub each : (j k : ℕ) → k < i → j < n → slice_get reads k ≡ Some (record { part = part; address = j }) → (q : ℕ) × (slice_index_or places j None ≡ Some q)

abbrev nothing : List PartRead
nothing = []

module _ (part : ℕ) where
  abbrev numbers : List (List PartRead) → List (Option ℕ)
  numbers ls = map (number_in part) ls

  none_at : (n j k : ℕ) → slice_index_or (numbers (replicate n nothing)) j None ≡ Some k → ⊥
  none_at zero j k e = absurd (cc)
  none_at (suc n) zero k e = absurd (cc)
  none_at (suc n) (suc j) k e = none_at n j k e

  none_long : (n : ℕ) → length (numbers (replicate n nothing)) ≡ n
  none_long zero = refl
  none_long (suc n) = ap suc (none_long n)

  -- one read more among some
  found_left : (l : List PartRead) (r : PartRead) (k : ℕ) → number_in part l ≡ Some k → number_in part (l ++ r ∷ []) ≡ Some k
  found_left [] r k e = absurd (cc)
  found_left (x ∷ l) r k e = by (x.part == part) (found_left l r k) e
    where
      by : (b : Bool) → (number_in part l ≡ Some k → number_in part (l ++ r ∷ []) ≡ Some k) →
          (if b then Some x.number else number_in part l) ≡ Some k → (if b then Some x.number else number_in part (l ++ r ∷ [])) ≡ Some k
      by true h f = f
      by false h f = h f

  found_push : (l : List PartRead) (r : PartRead) (k : ℕ) → number_in part (l ++ r ∷ []) ≡ Some k →
      (number_in part l ≡ Some k) ⊎ ((r.part ≡ part) × (r.number ≡ k))
  found_push [] r k e = by (r.part == part) refl e
    where
      by : (b : Bool) → (r.part == part) ≡ b → (if b then Some r.number else None) ≡ Some k →
          (number_in part [] ≡ Some k) ⊎ ((r.part ≡ part) × (r.number ≡ k))
      by true t f = inr ((let s : r.part ≡ part = grind (arith, nat_tests) in s), some f)
      by false t f = absurd (cc)
  found_push (x ∷ l) r k e = by (x.part == part) (found_push l r k) e
    where
      by : (b : Bool) → (number_in part (l ++ r ∷ []) ≡ Some k → (number_in part l ≡ Some k) ⊎ ((r.part ≡ part) × (r.number ≡ k))) →
          (if b then Some x.number else number_in part (l ++ r ∷ [])) ≡ Some k →
          ((if b then Some x.number else number_in part l) ≡ Some k) ⊎ ((r.part ≡ part) × (r.number ≡ k))
      by true h f = inl f
      by false h f = h f

  found_own : (l : List PartRead) (r : PartRead) → r.part ≡ part → (q : ℕ) × (number_in part (l ++ r ∷ []) ≡ Some q)
  found_own [] r e =
      let t : (r.part == part) ≡ true = grind (arith, nat_tests) in (r.number, ap (λ b. if b then Some r.number else None) t)
  found_own (x ∷ l) r e = by (x.part == part) (found_own l r e)
    where
      by : (b : Bool) → (q : ℕ) × (number_in part (l ++ r ∷ []) ≡ Some q) → (q : ℕ) × ((if b then Some x.number else number_in part (l ++ r ∷ [])) ≡ Some q)
      by true h = (x.number, refl)
      by false h = h

  -- one read more at an address
  count_kept : (ls : List (List PartRead)) (a : ℕ) (r : PartRead) → length (numbers (with_read ls a r)) ≡ length (numbers ls)
  count_kept [] a r = refl
  count_kept (l ∷ ls) zero r = refl
  count_kept (l ∷ ls) (suc a) r = ap suc (count_kept ls a r)

  left : (ls : List (List PartRead)) (a : ℕ) (r : PartRead) (j k : ℕ) → slice_index_or (numbers ls) j None ≡ Some k →
      slice_index_or (numbers (with_read ls a r)) j None ≡ Some k
  left [] a r j k e = absurd (cc)
  left (l ∷ ls) zero r zero k e = found_left l r k e
  left (l ∷ ls) zero r (suc j) k e = e
  left (l ∷ ls) (suc a) r zero k e = e
  left (l ∷ ls) (suc a) r (suc j) k e = left ls a r j k e

  push : (ls : List (List PartRead)) (a : ℕ) (r : PartRead) (j k : ℕ) → slice_index_or (numbers (with_read ls a r)) j None ≡ Some k →
      (slice_index_or (numbers ls) j None ≡ Some k) ⊎ ((j ≡ a) × (r.part ≡ part) × (r.number ≡ k))
  push [] a r j k e = absurd (cc)
  push (l ∷ ls) zero r zero k e = elim (found_push l r k e) [ inl h ↦ inl h | inr h ↦ inr (refl, h.0, h.1) ]
  push (l ∷ ls) zero r (suc j) k e = inl e
  push (l ∷ ls) (suc a) r zero k e = inl e
  push (l ∷ ls) (suc a) r (suc j) k e = elim (push ls a r j k e) [ inl h ↦ inl h | inr h ↦ inr (ap suc h.0, h.1, h.2) ]

  own : (ls : List (List PartRead)) (a : ℕ) (r : PartRead) → a < length ls → r.part ≡ part →
      (q : ℕ) × (slice_index_or (numbers (with_read ls a r)) a None ≡ Some q)
  own [] a r l e = absurd (omega arith)
  own (x ∷ ls) zero r l e = found_own x r e
  own (x ∷ ls) (suc a) r l e = own ls a r (omega arith) e

  module _ (n : ℕ) (reads : List BaseRead) where
    -- none yet
    pub no_first : (ls : List (List PartRead)) → ls ≡ replicate n nothing → AreFirst part n reads 0 (numbers ls)
    no_first ls e = record {
      count = ap (λ z. length (numbers z)) e ∙ none_long n;
      right = λ j k h. absurd (none_at n j k (ap (λ z. slice_index_or (numbers z) j None) (sym e) ∙ h));
      each = λ j k l m h. absurd (omega arith);
    }

    -- one more
    first_next : (i : ℕ) (ls : List (List PartRead)) (b : BaseRead) → AreFirst part n reads i (numbers ls) → slice_get reads i ≡ Some b →
        AreFirst part n reads (i + 1) (numbers (with_read ls b.address (record { part = b.part; number = i })))
    first_next i ls b first at =
        let r : PartRead = record { part = b.part; number = i } in
        record {
          count = count_kept ls b.address r ∙ first.count;
          right = λ j k h. elim (push ls b.address r j k h) [
            | inl old ↦ (let o = first.right j k old in ((let l = o.0 in omega arith), o.1))
            | inr new ↦ (
              (let e = new.2 in omega arith),
              ap (slice_get reads) (sym new.2) ∙ at ∙ ap (λ z. Some (record { part = z; address = b.address })) new.1
                  ∙ ap (λ z. Some (record { part = part; address = z })) (sym new.0),
            )
          ];
          each = λ j k l m h. elim (cases_lt k i) [
            | inl less ↦ (let o = first.each j k less m h in (o.0, left ls b.address r j o.0 o.1))
            | inr more ↦ (let same : k ≡ i = omega arith in
                let s : b ≡ record { part = part; address = j } = some (sym at ∙ ap (slice_get reads) (sym same) ∙ h) in
                let p : b.part ≡ part = ap (λ z. z.part) s in
                let a : b.address ≡ j = ap (λ z. z.address) s in
                let q = own ls b.address r (omega (arith, first.count, length-map ls (number_in part))) p in
                (q.0, ap (λ z. slice_index_or (numbers (with_read ls b.address r)) z None) (sym a) ∙ q.1))
          ];
        }

    -- all are
    pub all_first : (i : ℕ) (places : List (Option ℕ)) → i ≡ length reads → AreFirst part n reads i places → ArePartReads part n reads places
    all_first i places e h = record {
      count = h.count;
      right = λ j k f. (h.right j k f).1;
      each = λ j k l f. h.each j k (let m = slice_get_within reads k (record { part = part; address = j }) f in omega arith) l f;
    }

  pub first_step : (n : ℕ) (reads : List coded.BaseRead) (i : ℕ) (ls new : List (List PartRead)) (d : coded.BaseRead) → i < length reads →
      AreFirst part n (map read_of reads) i (numbers ls) →
      new ≡ with_read ls (get_or reads i d).address (record { part = (get_or reads i d).part; number = i }) →
      AreFirst part n (map read_of reads) (i + 1) (numbers new)
  first_step n reads i ls new d l first e =
      subst (λ (z : List (List PartRead)). AreFirst part n (map read_of reads) (i + 1) (numbers z)) (sym e)
      (first_next n (map read_of reads) i ls (read_of (get_or reads i d)) first
      (slice_get-get_or (map read_of reads) i (read_of d) (let m = length-map reads read_of in omega arith) ∙ ap Some (get_or-map read_of reads i d (read_of d) l)))
