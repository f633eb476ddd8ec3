-- Frames by their names and ranks.
use Rattle.std.proofs.Common.{◌≡◌, ℕ, zero, suc, ◌+◌, ◌<◌, ◌≤◌, refl, ap, sym, ◌∙◌, arith, Bool, true, false, List, [], ◌∷◌, Option, Some, None, length, map, drop, drop-cons, get_or, eq-eqb, ne_eqb}
use Rattle.std.specs.Prelude.{◌==◌, ◌&&◌, ◌||◌, if◌then◌else◌, is_some, nat_eq, nat_lt, slice_get}
use Rattle.std.specs.List.{list_any}
use Rattle.std.proofs.lemmas.Bool.Decides.{nat_tests}
use Rattle.bilv_spec.specs.Elf.{is_kept}
use Rattle.bilv_spec.specs.Notes.{Assert}
use Rattle.bilv_spec.specs.Points.{is_known_at}
use Rattle.frame_spec.specs.Frames as frames
use Rattle.frame_spec.specs.Frames.{Frame, invariants_of, is_head}
use Rattle.frame_spec.specs.FrameVerdict.{Whole, frame_by, frame_of}
use Rattle.frame_texts_spec.specs.CallReplays.{frame_named, rank_at, rank_named}
use Rattle.frame_texts_spec.specs.CallTexts.{FrameName, EntryFrame, ContractFrame}
use Rattle.notes_value.specs.FrameViews.{contract_of}
use Rattle.notes_value.specs.declared.notes.Contract.{Contract}
use Rattle.call_replay.specs.Readings.{known_in}

-- ---- the rank of an address

module _ (xs : List Contract) (i at : ℕ) (e : Contract) (below : i < length xs)
    (inv : i + rank_at (map contract_of (drop i xs)) at ≡ rank_at (map contract_of xs) at) where
  abbrev x : Contract
  x = get_or xs i e

  here : rank_at (map contract_of (drop i xs)) at ≡ (if x.at == at then 0 else rank_at (map contract_of (drop (suc i) xs)) at + 1)
  here =
      ap (λ l. rank_at (map contract_of l) at) (drop-cons xs i e below)

  pub rank_found : x.at ≡ at → i ≡ rank_at (map contract_of xs) at
  rank_found same =
      let none : rank_at (map contract_of (drop i xs)) at ≡ 0 =
      here ∙ ap (λ b. if b then 0 else rank_at (map contract_of (drop (suc i) xs)) at + 1) (eq-eqb x.at at same) in
      omega (arith, none, inv)

  pub rank_later : (x.at ≡ at → ⊥) → i + 1 + rank_at (map contract_of (drop (i + 1) xs)) at ≡ rank_at (map contract_of xs) at
  rank_later other =
      let more : rank_at (map contract_of (drop i xs)) at ≡ rank_at (map contract_of (drop (suc i) xs)) at + 1 =
      here ∙ ap (λ b. if b then 0 else rank_at (map contract_of (drop (suc i) xs)) at + 1) (ne_eqb x.at at other) in
      let next : i + 1 ≡ suc i = omega arith in
      let place : rank_at (map contract_of (drop (i + 1) xs)) at ≡ rank_at (map contract_of (drop (suc i) xs)) at =
      ap (λ k. rank_at (map contract_of (drop k xs)) at) next in
      omega (arith, more, place, inv)

drop_whole : {X : Type 0} (xs : List X) → drop (length xs) xs ≡ []
drop_whole [] = refl
drop_whole (x ∷ xs) = drop_whole xs

pub rank_none : (xs : List Contract) (i at : ℕ) → i ≡ length xs → i + rank_at (map contract_of (drop i xs)) at ≡ rank_at (map contract_of xs) at →
    i ≡ rank_at (map contract_of xs) at
rank_none xs i at last inv =
    let none : rank_at (map contract_of (drop i xs)) at ≡ 0 =
    ap (λ l. rank_at (map contract_of l) at) (ap (λ k. drop k xs) last ∙ drop_whole xs) in
    omega (arith, none, inv)

-- ---- the frame of a rank

no_item : {X : Type 0} (xs : List X) (i : ℕ) → length xs ≤ i → slice_get xs i ≡ None
no_item [] zero over = refl
no_item [] (suc i) over = refl
no_item (x ∷ xs) zero over = absurd (omega (arith, over))
no_item (x ∷ xs) (suc i) over = no_item xs i (omega (arith, over))

some_item : {X : Type 0} (xs : List X) (i : ℕ) → i < length xs → (x : X) × (slice_get xs i ≡ Some x)
some_item [] i below = absurd (omega (arith, below))
some_item (x ∷ xs) zero below = (x, refl)
some_item (x ∷ xs) (suc i) below = some_item xs i (omega (arith, below))

pub named_is : (w : Whole) (f : FrameName) → frame_of w (rank_named w f) ≡ frame_named w f
named_is w EntryFrame =
    let over : length w.contracts ≤ length w.contracts = omega arith in
    ap (frame_by w (length w.contracts)) (no_item w.contracts (length w.contracts) over)
named_is w (ContractFrame a) = refl

-- ---- known bytes and heads

by_cells : (k s : Bool) → (k || (s && false)) ≡ k
by_cells true s = refl
by_cells false true = refl
by_cells false false = refl

known_of : (w : Whole) (rank : ℕ) (o : Option frames.Contract) (a : ℕ) → is_known_at (frame_by w rank o).program a ≡ known_in w.program (is_some o) a
known_of w rank None a = refl
known_of w rank (Some x) a = by_cells (is_kept (w.program.loaded a)) (is_some (w.program.loaded a))

pub known_by : (w : Whole) (rank : ℕ) (own : Bool) → own ≡ nat_lt rank (length w.contracts) → (a : ℕ) →
    is_known_at (frame_of w rank).program a ≡ known_in w.program own a
known_by w rank true is a =
    let below : rank < length w.contracts = grind (arith, nat_tests) in
    let it = some_item w.contracts rank below in
    ap (λ (o : Option frames.Contract). is_known_at (frame_by w rank o).program a) it.1 ∙ known_of w rank (Some it.0) a
known_by w rank false is a =
    let over : length w.contracts ≤ rank = grind (arith, nat_tests) in
    ap (λ (o : Option frames.Contract). is_known_at (frame_by w rank o).program a) (no_item w.contracts rank over)

no_invariants : (f : Frame) → f.invariants ≡ [] → (l : List Assert) → invariants_of f l ≡ []
no_invariants f none [] = refl
no_invariants f none (a ∷ rest) =
    ap (λ (is : List ℕ). if list_any (nat_eq a.line) is then a ∷ invariants_of f rest else invariants_of f rest) none ∙ no_invariants f none rest

and_none : (b : Bool) → (b && false) ≡ false
and_none true = refl
and_none false = refl

pub no_head : (f : Frame) → f.invariants ≡ [] → (a : ℕ) → is_head f a ≡ false
no_head f none a =
    ap (λ (l : List Assert). f.cuts && list_any (λ x. x.at == a) l) (no_invariants f none f.program.notes.asserts) ∙ and_none f.cuts

free_by : (w : Whole) (rank : ℕ) (o : Option frames.Contract) → w.invariants ≡ [] → (frame_by w rank o).invariants ≡ []
free_by w rank None none = none
free_by w rank (Some x) none = none

pub none_named : (w : Whole) (f : FrameName) → w.invariants ≡ [] → (a : ℕ) → is_head (frame_named w f) a ≡ false
none_named w EntryFrame none a = no_head (frame_named w EntryFrame) none a
none_named w (ContractFrame at) none a =
    no_head (frame_named w (ContractFrame at)) (free_by w (rank_at w.contracts at) (slice_get w.contracts (rank_at w.contracts at)) none) a

-- what a reader is told of the frame of a name
pub known_named : (w : Whole) (f : FrameName) (own : Bool) → own ≡ nat_lt (rank_named w f) (length w.contracts) → (a : ℕ) →
    is_known_at (frame_named w f).program a ≡ known_in w.program own a
known_named w f own is a =
    ap (λ (g : Frame). is_known_at g.program a) (sym (named_is w f)) ∙ known_by w (rank_named w f) own is a
