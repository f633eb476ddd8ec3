-- The contract steps that the entry's segment makes are those that are shown of it.
use Rattle.std.proofs.Common.{◌≡◌, ◌⊎◌, inl, inr, refl, ap, sym, ◌∙◌, subst, arith, ℕ, ◌*◌, ◌/◌, ◌%◌, ◌^◌, ◌<◌, ◌≤◌, [], ◌∷◌, List, Option, Some, None, Bool, true, false, length}
use Rattle.std.specs.Prelude.{nat_eq, if◌then◌else◌}
use Rattle.std.specs.List.{list_any}
use Rattle.std.proofs.lemmas.Bool.{cases_lt}
use Rattle.std.proofs.lemmas.Nat.{div_below, pow_pos}
use Rattle.std.proofs.Math.Nat.{pow-le-pow_right}
use Rattle.word_spec.specs.Words.{bit_at}
use Rattle.bilv_spec.specs.Run.{Place}
use Rattle.bilv_spec.specs.PointLaws.{HasLawfulRows}
use Rattle.bilv_spec.specs.Points.{is_known_at}
use Rattle.bilv_spec.specs.Questions.{IsEntryStateOver}
use Rattle.bilv_spec.proofs.Pigeons.{truth}
use Rattle.machine_spec.specs.StateText.{Layout}
use Rattle.frame_spec.specs.Frames.{Content, Contract, Frame, contract_at, is_head}
use Rattle.frame_spec.specs.FramePoints.{AtEntry, IsAnchor, Point, is_cut}
use Rattle.frame_spec.specs.FrameQuestions.{IsReading, Reading, point_of, read_run}
use Rattle.frame_spec.specs.FrameReports.{WrittenCall}
use Rattle.frame_spec.specs.FrameRuns.{Calling, Run}
use Rattle.frame_spec.specs.FrameUnrolling.{DoesBy, DoesContract, IsRootOf, IsUnrolling}
use Rattle.frame_spec.specs.FrameWalk.{Action, Gift, Root, UnrolledProgram, Walk, WalkIsAt, WalkArrives, WalkExits, WalkFails, WalkTurns, WalkIsCut, WalkBreaks, point_at, walk_of}
use Rattle.frame_laws.specs.RunOfFrame.{AsksLiterals, IsAmong, IsSame}
use Rattle.frame_laws.proofs.FrameAnswers.{entry_assumed}
use Rattle.frame_laws.proofs.FrameWalks.{frame_walk_is_run}
use Rattle.frame_terms.specs.FrameCells.{Cells}
use Rattle.frame_terms.specs.FrameStarts.{AreCalls, AreParts, IsReadingOfParts, WrittenParts, call_of, gives_flag, part_flag}
use Rattle.frame_terms.specs.PassiveFrames.{IsGiftAt, gift_part}
use Rattle.term_spec.specs.Terms.{TermReading}
use Rattle.frame_rounds.specs.FrameGrounds.{HasCall}
use Rattle.frame_rounds.proofs.FrameRoots.{gift_contract}

-- a number has no bits past its size
no_bit : (n size place : ℕ) → n < 2 ^ size → size ≤ place → bit_at place n ≡ 0
no_bit n size place small past =
    let grows : 2 ^ size ≤ 2 ^ place = pow-le-pow_right (omega arith) past in
    let none : n / 2 ^ place < 1 = div_below n (2 ^ place) 1 (pow_pos place) (let same : 1 * 2 ^ place ≡ 2 ^ place = omega arith in omega arith) in
    let zero_is : n / 2 ^ place ≡ 0 = omega arith in
    ap (λ z. z % 2) zero_is

-- where the walk is when the run makes a contract step
module _ (f : Frame) (contracts : List Contract) (u : UnrolledProgram) where
  at_call : (z : Walk) (turns m : ℕ) (d : Place) → IsSame f contracts u AtEntry z (Calling turns m d) → (i : ℕ) × (e : Content) × (z ≡ WalkIsAt i e)
      × (i < length u.points) × ((point_at u i).point ≡ point_of AtEntry true turns d)
  at_call (WalkIsAt i e) turns m d h = (i, e, refl, h.0, h.1)
  at_call (WalkArrives a l e) turns m d h = absurd h
  at_call WalkExits turns m d h = absurd h
  at_call (WalkFails e) turns m d h = absurd h
  at_call WalkTurns turns m d h = absurd h
  at_call WalkIsCut turns m d h = absurd h
  at_call WalkBreaks turns m d h = absurd h

module _ (f : Frame) (contracts : List Contract) (k : ℕ) (u : UnrolledProgram) (un : IsUnrolling f contracts k u) where
  steps_over : (i : ℕ) → i < length u.points → (point_at u i).point.contract ≡ true → (g : Gift) × IsGiftAt u i g
  steps_over i l e =
      by (contract_at f.stepped (point_at u i).point.at) (point_at u i).point.stack
      (subst (λ b. DoesBy b (is_cut f (point_at u i).point) f contracts k u i (point_at u i)) e (un.places i l).does)
    where
      by : (o : Option Contract) (stack : List ℕ) → DoesContract f k u i (point_at u i) o stack → (g : Gift) × IsGiftAt u i g
      by None stack does = absurd does
      by (Some z) [] does = absurd does
      by (Some z) (to ∷ below) (along, does, exits, are) = (_, record { place = l; does = does })

  -- a flag that is written is one that the contract may change
  module _ (of_head : Bool) (c : Cells) (x : TermReading) (p : WrittenParts) (parts : AreParts u of_head c x p) (i : ℕ) (g : Gift) (at : IsGiftAt u i g) where
    changes : (n : ℕ) → bit_at n (p.gift i).flags ≡ 1 → list_any (nat_eq n) g.flags ≡ true
    changes n h = elim (truth (list_any (nat_eq n) g.flags)) [ inl t ↦ t | inr t ↦ absurd (by t (cases_lt n u.flags)) ]
      where
        gives : gives_flag (point_at u i).does n ≡ list_any (nat_eq n) g.flags
        gives = ap (λ (z : Action). gives_flag z n) at.does

        by : list_any (nat_eq n) g.flags ≡ false → (n < u.flags) ⊎ (u.flags ≤ n) → ⊥
        by none (inl less) =
            let it = (parts.at_gift i g at).flags n less in
            let other : part_flag u x (gift_part i) n ≡ 0 = ap (λ b. if b then x.flags (gift_part i) n else 0) (gives ∙ none) in
            let no : 1 ≡ 0 = sym h ∙ it ∙ other in cc
        by none (inr past) =
            let zero_is = no_bit (p.gift i).flags u.flags n (parts.at_gift i g at).flags_fit past in
            let no : 1 ≡ 0 = sym h ∙ zero_is in cc

  module _ (lawful : HasLawfulRows f.program) (low : (a : ℕ) → is_head f a ≡ true → a < 2 ^ 32) (among : IsAmong f contracts)
      (literals : AsksLiterals f k (is_known_at f.program)) (r : Reading) (is : IsReading r) (entry : IsEntryStateOver f.program (is_known_at f.program) r.state)
      (y : Root) (is_root : IsRootOf f u y AtEntry) (is_anchor : IsAnchor f k AtEntry) (of_head : Bool) (layout : Layout) (c : Cells) (x : TermReading)
      (p : WrittenParts) (parts : AreParts u of_head c x p) (of_parts : IsReadingOfParts u of_head layout x p r) (calls : List WrittenCall)
      (made : AreCalls u of_head layout x p y calls) where
    same : (n : ℕ) → IsSame f contracts u AtEntry (walk_of u r y n) (read_run f k r AtEntry n)
    same n = frame_walk_is_run f lawful contracts among k u un (is_known_at f.program) literals r is entry y AtEntry is_root is_anchor tt n

    pub listed : (n turns : ℕ) (d : Place) → read_run f k r AtEntry n ≡ Calling turns n d → HasCall f d n calls
    listed n turns d e =
        let at = at_call f contracts u (walk_of u r y n) turns n d (subst (λ (z : Run). IsSame f contracts u AtEntry (walk_of u r y n) z) e (same n)) in
        let gift = steps_over at.0 at.3 (ap (λ (z : Point). z.contract) at.4) in
        let of = gift_contract f contracts k u un at.0 gift.0 gift.1 in
        record {
          call = call_of u p n at.0;
          listed = made.follows r of_parts (entry_assumed f lawful low contracts among k u un (is_known_at f.program) literals r is entry y is_root) n at.0 at.1
              gift.0 at.2 gift.1;
          step = refl;
          at = ap (λ (z : Point). z.at) at.4;
          flags = λ z stepped i h.
              (let same_place = subst (λ (a : ℕ). contract_at f.stepped a ≡ Some of.contract) (ap (λ (q : Point). q.at) at.4) of.stepped in
              let same_contract : of.contract ≡ z = (let s : Some of.contract ≡ Some z = sym same_place ∙ stepped in cc) in
              subst (λ (l : List ℕ). list_any (nat_eq i) l ≡ true) (of.flags ∙ ap (λ (o : Contract). o.flags) same_contract)
              (changes of_head c x p parts at.0 gift.0 gift.1 i h));
        }
