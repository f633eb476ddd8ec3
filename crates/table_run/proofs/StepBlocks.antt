-- Blocks by their steps.
use Rattle.std.proofs.Common.{inl, inr, ◌≡◌, ℕ, zero, suc, ◌<◌, ◌≤◌, refl, ap, sym, ◌∙◌, arith, List, [], ◌∷◌, length, get_or, map, true, false, Some, None, ne_eqb, eq-eqb}
use Rattle.std.specs.Prelude.{◌≢◌, AllPairs, nat_lt, if◌then◌else◌}
use Rattle.std.specs.List.Sorted.{IsNonDecreasingBy, IsPartitionPoint}
use Rattle.std.proofs.lemmas.Bool.{ltb-true, ltb-false}
use Rattle.std.proofs.Math.Nat.{eq-or-lt_of_le}
use Rattle.std.proofs.lemmas.List.{get_or_default}
use Rattle.byte_mem.proofs.Places.{side}
use Rattle.frame_texts_spec.specs.CallReplays.{WrongAt, block_at, block_after, none_there}
use Rattle.frame_texts_spec.specs.FrameTexts.{first_of}
use Rattle.frame_spec.specs.FrameReports.{WrittenCall}
use Rattle.bilv_spec.proofs.Pigeons.{truth}
use Rattle.std.proofs.lemmas.Bool.{cases_eq}
use Rattle.std.proofs.lemmas.Bool.Decides.{nat_tests}
use Rattle.state_text.specs.Starts.{written_call_of}
use Rattle.state_text.specs.declared.start.CallState.{CallState}

pub block_none : (es : List CallState) (n : ℕ) → ((k : ℕ) (d : CallState) → k < length es → (get_or es k d).step ≢ n) →
    block_at (map written_call_of es) n ≡ None
block_none [] n none = refl
block_none (x ∷ es) n none =
    ap (λ b. if b then Some (written_call_of x) else block_at (map written_call_of es) n) (ne_eqb x.step n (none 0 x (omega arith)))
    ∙ block_none es n (λ k d h. none (suc k) d (omega arith))

block_here : (es : List CallState) (i n : ℕ) (d : CallState) → ((k : ℕ) (d : CallState) → k < i → (get_or es k d).step < n) → i < length es →
    (get_or es i d).step ≡ n → block_at (map written_call_of es) n ≡ Some (written_call_of (get_or es i d))
block_here [] i n d below w e = absurd (omega arith)
block_here (x ∷ es) zero n d below w e =
    ap (λ b. if b then Some (written_call_of x) else block_at (map written_call_of es) n) (eq-eqb x.step n e)
block_here (x ∷ es) (suc i) n d below w e =
    let first = below 0 x (omega arith) in
    ap (λ b. if b then Some (written_call_of x) else block_at (map written_call_of es) n) (ne_eqb x.step n (λ q. absurd (omega (arith, q, first))))
    ∙ block_here es i n d (λ k d h. below (suc k) d (omega arith)) (omega arith) e

-- steps that rise do not fall
pub steps_rise : (es : List CallState) → AllPairs (λ x y. x.step < y.step) es → IsNonDecreasingBy (λ x. x.step) es
steps_rise es rising i j d le within = elim (eq-or-lt_of_le le) [
  | inl same ↦ rw (ap (λ k. (get_or es k d).step) same) (omega arith)
  | inr less ↦ let r = rising i j d less within in omega arith
]

-- the block by the place of the first step that is not below
module _ (es : List CallState) (i n : ℕ) (rising : AllPairs (λ x y. x.step < y.step) es)
    (point : IsPartitionPoint (λ (x : CallState). nat_lt x.step n ≡ true) (λ (x : CallState). nat_lt x.step n ≡ false) es i) where
  below : (k : ℕ) (d : CallState) → k < i → (get_or es k d).step < n
  below k d less = ltb-true _ _ (point.0 k d (omega arith) less)

  pub none_behind : i ≡ length es → block_at (map written_call_of es) n ≡ None
  none_behind end = block_none es n (λ k d w is. (let b = below k d (omega (arith, end, w)) in absurd (omega (arith, is, b))))

  pub none_beside : (e : CallState) → i < length es → (get_or es i e).step ≢ n → block_at (map written_call_of es) n ≡ None
  none_beside e inside other =
      block_none es n (λ k d w is. (elim (side i k) [
        | inl from ↦ elim (eq-or-lt_of_le from) [
          | inl same ↦ other (ap (λ x. x.step) (get_or_default es i e d inside) ∙ ap (λ j. (get_or es j d).step) same ∙ is)
          | inr less ↦ let rises = rising i k d less w in
              let most : n ≤ (get_or es i d).step = ltb-false _ _ (point.1 i d (omega arith) inside) in
              absurd (omega (arith, rises, most, is))
        ]
        | inr less ↦ let b = below k d less in absurd (omega (arith, is, b))
      ]))

  pub one_here : (e : CallState) → i < length es → (get_or es i e).step ≡ n → block_at (map written_call_of es) n ≡ Some (written_call_of (get_or es i e))
  one_here e inside at = block_here es i n e below inside at

-- the first block after a step is that of the next one, or comes after that
pub after_next : (es : List CallState) → AllPairs (λ x y. x.step < y.step) es → (a : ℕ) →
    first_of (none_there (block_at (map written_call_of es) (suc a)) (suc a)) (block_after (map written_call_of es) (suc a)) ≡ block_after
    (map written_call_of es) a
after_next [] rising a = refl
after_next (x ∷ es) rising a = elim (cases_eq x.step (suc a)) [
  | inl same ↦ (let past : nat_lt a x.step ≡ true = grind (arith, nat_tests) in
      ap (λ b. first_of (none_there (if b then Some (written_call_of x) else block_at rest (suc a)) (suc a)) (block_after (written_call_of x ∷ rest) (suc a)))
      (eq-eqb x.step (suc a) same)
      ∙ sym (ap (λ b. if b then Some (WrongAt x.step) else block_after rest a) past ∙ ap (λ n. Some (WrongAt n)) same))
  | inr other ↦ ap (λ b. first_of (none_there (if b then Some (written_call_of x) else block_at rest (suc a)) (suc a)) (block_after
      (written_call_of x ∷ rest) (suc a)))
      (ne_eqb x.step (suc a) other)
      ∙ elim (truth (nat_lt (suc a) x.step)) as (λ _. first_of (none_there (block_at rest (suc a)) (suc a)) (block_after (written_call_of x ∷ rest) (suc a))
      ≡ block_after (written_call_of x ∷ rest) a) [
        | inl past ↦ (let first : nat_lt a x.step ≡ true = grind (arith, nat_tests) in
            let above : suc a < x.step = grind (arith, nat_tests) in
            let none : block_at rest (suc a) ≡ None =
            block_none es (suc a) (λ k d less is. (let r : x.step < (get_or es k d).step = rising 0 (suc k) d (omega arith) (omega arith) in
            absurd (omega (arith, r, above, is)))) in
            ap (λ o. first_of (none_there o (suc a)) (block_after (written_call_of x ∷ rest) (suc a))) none
            ∙ ap (λ b. if b then Some (WrongAt x.step) else block_after rest (suc a)) past
            ∙ sym (ap (λ b. if b then Some (WrongAt x.step) else block_after rest a) first))
        | inr not_past ↦ (let not_first : nat_lt a x.step ≡ false = grind (arith, nat_tests) in
            ap (λ b. first_of (none_there (block_at rest (suc a)) (suc a)) (if b then Some (WrongAt x.step) else block_after rest (suc a))) not_past
            ∙ after_next es (λ i j d less within. rising (suc i) (suc j) d (omega arith) (omega arith)) a
            ∙ sym (ap (λ b. if b then Some (WrongAt x.step) else block_after rest a) not_first))
      ]
]
  where
    rest : List WrittenCall
    rest = map written_call_of es
