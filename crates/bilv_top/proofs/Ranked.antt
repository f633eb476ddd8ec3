-- Ranks of frames, by the words and the numbers that name them.
use Rattle.std.proofs.Common.{◌≡◌, ℕ, zero, suc, ◌+◌, ◌≤◌, ◌<◌, ◌^◌, refl, ap, sym, ◌∙◌, subst, arith, Bool, true, false, List, [], ◌∷◌, Option, Some, None, length, map, get_or}
use Rattle.std.specs.Prelude.{Contains, ◌==◌, if◌then◌else◌, is_some, slice_get}
use Rattle.std.proofs.lemmas.Bool.Decides.{nat_tests}
use Rattle.std.proofs.lemmas.List.{length-map}
use Rattle.answer_spec.specs.FrameAnswers.{asked_rank, contract_rank, name_of}
use Rattle.frame_spec.specs.Frames as frames
use Rattle.frame_spec.specs.Frames.{contract_at}
use Rattle.frame_spec.specs.FrameVerdict.{Whole}
use Rattle.frame_texts_spec.specs.CallReplays.{rank_at}
use Rattle.frame_texts_spec.specs.CallTexts.{ContractFrame, EntryFrame}
use Rattle.notes_value.specs.FrameViews.{contract_of}
use Rattle.notes_value.specs.declared.notes.Contract.{Contract}

-- ---- the contract of a rank

at_rank : (cs : List Contract) (rank : ℕ) (d : Contract) → rank < length cs → slice_get (map contract_of cs) rank ≡ Some (contract_of (get_or cs rank d))
at_rank [] rank d l = absurd (omega (arith, l))
at_rank (c ∷ cs) zero d l = refl
at_rank (c ∷ cs) (suc rank) d l = at_rank cs rank d (omega (arith, l))

at_last : (cs : List Contract) (rank : ℕ) → length cs ≤ rank → slice_get (map contract_of cs) rank ≡ None
at_last [] rank l = refl
at_last (c ∷ cs) zero l = absurd (omega (arith, l))
at_last (c ∷ cs) (suc rank) l = at_last cs rank (omega (arith, l))

-- the names of frames
module _ (cs : List Contract) (w : Whole) (same : w.contracts ≡ map contract_of cs) (rank : ℕ) where
  pub named_contract : (d : Contract) → rank < length cs → ContractFrame (get_or cs rank d).at ≡ name_of w rank
  named_contract d l = let found = ap (λ (l : List frames.Contract). slice_get l rank) same ∙ at_rank cs rank d l in rw found refl

  pub named_entry : length cs ≤ rank → EntryFrame ≡ name_of w rank
  named_entry l = let none = ap (λ (l : List frames.Contract). slice_get l rank) same ∙ at_last cs rank l in rw none refl

-- ---- the rank of an address

-- there is a contract of an address where its rank is that of one
found_by : (cs : List frames.Contract) (a : ℕ) → rank_at cs a < length cs → is_some (contract_at cs a) ≡ true
found_by [] a l = absurd (omega (arith, l))
found_by (x ∷ rest) a l = by (x.at == a) l (found_by rest a)
  where
    by : (b : Bool) → (if b then 0 else rank_at rest a + 1) < suc (length rest) → (rank_at rest a < length rest → is_some (contract_at rest a) ≡ true) →
        is_some (if b then Some x else contract_at rest a) ≡ true
    by true l step = refl
    by false l step = step (omega (arith, l))

none_by : (cs : List frames.Contract) (a : ℕ) → length cs ≤ rank_at cs a → is_some (contract_at cs a) ≡ false
none_by [] a l = refl
none_by (x ∷ rest) a l = by (x.at == a) l (none_by rest a)
  where
    by : (b : Bool) → suc (length rest) ≤ (if b then 0 else rank_at rest a + 1) → (length rest ≤ rank_at rest a → is_some (contract_at rest a) ≡ false) →
        is_some (if b then Some x else contract_at rest a) ≡ false
    by true l step = absurd (omega (arith, l))
    by false l step = step (omega (arith, l))

none_above : (cs : List frames.Contract) (a : ℕ) → ((x : frames.Contract) → Contains cs x → x.at < 2 ^ 32) → 2 ^ 32 ≤ a → is_some (contract_at cs a) ≡ false
none_above [] a low high = refl
none_above (x ∷ rest) a low high =
    let apart : (x.at == a) ≡ false = (let l = low x (0, omega arith, refl) in grind (arith, nat_tests, l, high)) in
    ap (λ b. is_some (if b then Some x else contract_at rest a)) apart ∙ none_above rest a (λ y h. low y (suc h.0, omega (arith, h.1), h.2)) high

module _ (cs : List Contract) where
  pub rank_found : (o : Option ℕ) (a rank : ℕ) → o ≡ Some a → rank ≡ rank_at (map contract_of cs) a → rank < length (map contract_of cs) →
      Some rank ≡ contract_rank (map contract_of cs) o
  rank_found o a rank is ranks l =
      let some = found_by (map contract_of cs) a (subst (λ r. r < length (map contract_of cs)) ranks l) in
      ap Some ranks ∙ sym (ap (λ b. if b then Some (rank_at (map contract_of cs) a) else None) some) ∙ sym (ap (contract_rank (map contract_of cs)) is)

  pub rank_missed : (o : Option ℕ) (a rank : ℕ) → o ≡ Some a → rank ≡ rank_at (map contract_of cs) a → length (map contract_of cs) ≤ rank →
      None ≡ contract_rank (map contract_of cs) o
  rank_missed o a rank is ranks l =
      let none = none_by (map contract_of cs) a (subst (λ r. length (map contract_of cs) ≤ r) ranks l) in
      sym (ap (λ b. if b then Some (rank_at (map contract_of cs) a) else None) none) ∙ sym (ap (contract_rank (map contract_of cs)) is)

  pub no_number : (o : Option ℕ) → ((x : frames.Contract) → Contains (map contract_of cs) x → x.at < 2 ^ 32) → ((n : ℕ) → o ≡ Some n → 2 ^ 32 ≤ n) →
      None ≡ contract_rank (map contract_of cs) o
  no_number None low high = refl
  no_number (Some n) low high =
      sym (ap (λ b. if b then Some (rank_at (map contract_of cs) n) else None) (none_above (map contract_of cs) n low (high n refl)))

-- the rank of the entry's frame, which is last
pub last_asked : (cs : List Contract) (w : Whole) → w.contracts ≡ map contract_of cs → Some (length cs) ≡ asked_rank w None
last_asked cs w same = ap Some (sym (length-map cs contract_of) ∙ sym (ap length same))
