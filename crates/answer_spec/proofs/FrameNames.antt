-- Frames by their names and by words.
use Rattle.std.proofs.Common.{◌≡◌, ℕ, zero, suc, ◌+◌, ◌≤◌, refl, ap, sym, ◌∙◌, arith, Bool, true, false, List, [], ◌∷◌, Option, Some, None, length}
use Rattle.std.specs.Prelude.{◌==◌, is_some, slice_get, if◌then◌else◌}
use Rattle.std.proofs.lemmas.Bool.Decides.{nat_tests}
use Rattle.machine_spec.proofs.Spelling.{same_number}
use Rattle.frame_spec.specs.Frames.{Contract, contract_at}
use Rattle.frame_texts_spec.specs.CallReplays.{rank_at, rank_named}
use Rattle.answer_spec.specs.FrameAnswers.{contract_rank, name_by, number_word}
use Rattle.answer_spec.specs.FrameAnswerLaws.{FrameIsNamed, FramesAreNamed, NoFrameNamed}
use Rattle.answer_spec.proofs.Wholes.{wholes_are_fitted}

-- without contracts no number is of one
no_rank : (o : Option ℕ) → contract_rank [] o ≡ None
no_rank None = refl
no_rank (Some a) = refl

pub no_frame_named : NoFrameNamed
no_frame_named w free word = ap (λ (cs : List Contract). contract_rank cs (number_word word)) free ∙ no_rank (number_word word)

-- the contract of an address stands at its rank
pub record IsRanked (contracts : List Contract) (a : ℕ) : Type 0 where
  pub contract : Contract
  pub there : slice_get contracts (rank_at contracts a) ≡ Some contract
  pub at : contract.at ≡ a

later_rank : (x : Contract) (rest : List Contract) (a : ℕ) (b : Bool) → (x.at == a) ≡ b → (is_some (contract_at rest a) ≡ true → IsRanked rest a) →
    is_some (if b then Some x else contract_at rest a) ≡ true → (y : Contract) × (slice_get (x ∷ rest) (if b then 0 else rank_at rest a + 1) ≡ Some y) × (y.at ≡ a)
later_rank x rest a true is more some = (x, refl, grind (arith, nat_tests, is))
later_rank x rest a false is more some =
    let r = more some in (r.contract, behind (rank_at rest a) ∙ r.there, r.at)
  where
    behind : (n : ℕ) → slice_get (x ∷ rest) (n + 1) ≡ slice_get rest n
    behind n = ap (slice_get (x ∷ rest)) (let e : n + 1 ≡ suc n = omega arith in e)

pub ranked : (contracts : List Contract) (a : ℕ) → is_some (contract_at contracts a) ≡ true → IsRanked contracts a
ranked [] a some = absurd (let x : ⊥ = cc in x)
ranked (x ∷ rest) a some =
    let r = later_rank x rest a (x.at == a) refl (ranked rest a) some in record { contract = r.0; there = r.1; at = r.2 }

-- the word's number
by_number : (contracts : List Contract) (o : Option ℕ) (rank : ℕ) → contract_rank contracts o ≡ Some rank →
    (x : Contract) × (slice_get contracts rank ≡ Some x) × (o ≡ Some x.at)
by_number contracts None rank is = absurd (let x : ⊥ = cc in x)
by_number contracts (Some a) rank is = by_contract (is_some (contract_at contracts a)) refl is
  where
    by_contract : (b : Bool) → is_some (contract_at contracts a) ≡ b → (if b then Some (rank_at contracts a) else None) ≡ Some rank →
        (x : Contract) × (slice_get contracts rank ≡ Some x) × (Some a ≡ Some x.at)
    by_contract false some e = absurd (let x : ⊥ = cc in x)
    by_contract true some e =
        let r = ranked contracts a some in
        let same : rank_at contracts a ≡ rank = cc in
        (r.contract, ap (slice_get contracts) (sym same) ∙ r.there, ap (λ n. Some n) (sym r.at))

pub frame_is_named : FrameIsNamed
frame_is_named w word rank is = by_number w.contracts (number_word word) rank is

-- a rank behind the last contract is the entry's
behind_last : (contracts : List Contract) (rank : ℕ) → rank ≤ length contracts → slice_get contracts rank ≡ None → rank ≡ length contracts
behind_last [] rank low is = omega (arith, low)
behind_last (x ∷ rest) zero low is = absurd (let y : ⊥ = cc in y)
behind_last (x ∷ rest) (suc rank) low is = ap suc (behind_last rest rank (omega (arith, low)) is)

-- a contract is one of an address
pub is_there : (contracts : List Contract) (rank : ℕ) (x : Contract) → slice_get contracts rank ≡ Some x → is_some (contract_at contracts x.at) ≡ true
is_there [] rank x is = absurd (let y : ⊥ = cc in y)
is_there (y ∷ rest) zero x is =
    let same : y ≡ x = cc in
    ap (λ b. is_some (if b then Some y else contract_at rest x.at)) (ap (λ (z : Contract). z.at == x.at) same ∙ same_number x.at)
is_there (y ∷ rest) (suc rank) x is = by (y.at == x.at) (is_there rest rank x is)
  where
    by : (b : Bool) → is_some (contract_at rest x.at) ≡ true → is_some (if b then Some y else contract_at rest x.at) ≡ true
    by true later = refl
    by false later = later

pub frames_are_named : FramesAreNamed
frames_are_named o file text w found rank low = by (slice_get w.contracts rank) refl
  where
    by : (c : Option Contract) → slice_get w.contracts rank ≡ c → rank_named w (name_by c) ≡ rank
    by None is = sym (behind_last w.contracts rank low is)
    by (Some x) is =
        let r = ranked w.contracts x.at (is_there w.contracts rank x is) in
        sym (((wholes_are_fitted o file text w found).2 rank x is).once (rank_at w.contracts x.at) r.contract r.there (sym r.at))
