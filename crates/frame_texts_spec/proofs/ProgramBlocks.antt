-- Blocks of a program's contracts.
use Rattle.std.proofs.Common.{◌≡◌, ◌≢◌, ℕ, zero, suc, ◌-◌, ◌^◌, ◌<◌, ◌≤◌, refl, ap, sym, ◌∙◌, subst, arith, Bool, true, false, List, [], ◌∷◌, Option, Some, None, length, map, get_or}
use Rattle.std.specs.Prelude.{All, AllPairs, ◌||◌, filter, if◌then◌else◌, nat_eq, slice_get}
use Rattle.std.specs.List.{list_any}
use Rattle.std.proofs.lemmas.Bool.{eqb-true}
use Rattle.std.proofs.lemmas.List.Elements.{All-cons, All-nil}
use Rattle.word_spec.specs.RowFiles.{from_to}
use Rattle.word_spec.specs.State.{Written}
use Rattle.word_spec.specs.Words.{bit_at}
use Rattle.machine_spec.specs.StateText.{Layout, IsWritten}
use Rattle.bilv_spec.specs.Points.{is_kept_at}
use Rattle.frame_spec.specs.Frames.{Contract, contract_at}
use Rattle.frame_spec.specs.FrameReports.{IsWrittenCall, WrittenCall, WrittenHead, registers_of}
use Rattle.frame_spec.specs.FrameVerdict.{Whole, frame_by}
use Rattle.frame_texts_spec.specs.FrameTexts.{IsHeadPart}
use Rattle.frame_texts_spec.specs.CallReplays.{call_checks, changes_by, frame_checks, frame_named, rank_at}
use Rattle.frame_texts_spec.specs.CallTexts.{Changes, ContractFrame, EntryFrame, FrameName, HasChanges, IsBlock, frame_name}
use Rattle.frame_texts_spec.specs.CallTextLaws.{ChangesAreOfLayout, WrittenIsShown}
use Rattle.frame_texts_spec.proofs.BitsSaid.{Bits, below}
use Rattle.frame_texts_spec.proofs.WordsSaid.{none_is, some_is}

-- what holds of numbers holds of those that are among them
among : (P : ℕ → Type 0) (xs : List ℕ) (r : ℕ) → All P xs → list_any (nat_eq r) xs ≡ true → P r
among P [] r all e = absurd (let z : false ≡ true = e in cc)
among P (x ∷ xs) r all e = by_test (nat_eq r x) refl e (λ k. among P xs r (λ i d l. all (suc i) d (omega arith)) k)
  where
    by_test : (t : Bool) → nat_eq r x ≡ t → (t || list_any (nat_eq r) xs) ≡ true → (list_any (nat_eq r) xs ≡ true → P r) → P r
    by_test true is e later = subst P (sym (eqb-true r x is)) (all 0 x (omega arith))
    by_test false is e later = later e

filtered : (test : ℕ → Bool) (P : ℕ → Type 0) → ((r : ℕ) → test r ≡ true → P r) → (xs : List ℕ) → All P (filter test xs)
filtered test P each [] = All-nil P
filtered test P each (x ∷ xs) = by_test (test x) refl (filtered test P each xs)
  where
    by_test : (t : Bool) → test x ≡ t → All P (filter test xs) → All P (if t then x ∷ filter test xs else filter test xs)
    by_test true is rest = All-cons P x (filter test xs) (each x is) rest
    by_test false is rest = rest

-- numbers that fall from below one on
abbrev Falls : (bound : ℕ) → List ℕ → Type 0
Falls n [] = Unit {0}
Falls n (x ∷ xs) = (x < n) × Falls x xs

falls_below : (n m : ℕ) (xs : List ℕ) → n ≤ m → Falls n xs → Falls m xs
falls_below n m [] h fall = tt
falls_below n m (x ∷ xs) h fall = (omega (arith, fall.0, h), fall.1)

falls_filtered : (test : ℕ → Bool) (n : ℕ) (xs : List ℕ) → Falls n xs → Falls n (filter test xs)
falls_filtered test n [] fall = tt
falls_filtered test n (x ∷ xs) fall = by_test (test x) (falls_filtered test x xs fall.1)
  where
    by_test : (t : Bool) → Falls x (filter test xs) → Falls n (if t then x ∷ filter test xs else filter test xs)
    by_test true rest = (fall.0, rest)
    by_test false rest = let less : x ≤ n = omega (arith, fall.0) in falls_below x n (filter test xs) less rest

falls_from : (n : ℕ) (xs : List ℕ) → Falls n xs → (k d : ℕ) → k < length xs → get_or xs k d < n
falls_from n [] fall k d l = absurd (omega arith)
falls_from n (x ∷ xs) fall zero d l = fall.0
falls_from n (x ∷ xs) fall (suc k) d l = let more = falls_from x xs fall.1 k d (omega arith) in omega (arith, more, fall.0)

falls_all : (n : ℕ) (xs : List ℕ) → Falls n xs → AllPairs (λ f g. g < f) xs
falls_all n [] fall i j d h k = absurd (omega arith)
falls_all n (x ∷ xs) fall zero zero d h k = absurd (omega arith)
falls_all n (x ∷ xs) fall zero (suc j) d h k = falls_from x xs fall.1 j d (omega arith)
falls_all n (x ∷ xs) fall (suc i) zero d h k = absurd (omega arith)
falls_all n (x ∷ xs) fall (suc i) (suc j) d h k = falls_all x xs fall.1 i j d (omega arith) (omega arith)

-- the registers of a contract, in the machine's order
abbrev listed : Contract → List ℕ
listed x = filter (λ r. list_any (nat_eq r) x.registers) (from_to 0 32)

registers_are : (w : Whole) (a : ℕ) (x : Contract) → contract_at w.contracts a ≡ Some x → registers_of w a ≡ listed x
registers_are w a x e = rw e refl

abbrev flags_listed : Contract → List ℕ
flags_listed x = filter (λ f. list_any (nat_eq f) x.flags) (3 ∷ 2 ∷ 1 ∷ 0 ∷ [])

pub changes_are_of_layout : ChangesAreOfLayout
changes_are_of_layout layout w returns has a y e = by_contract (contract_at w.contracts a) refl e
  where
    by_contract : (o : Option Contract) → contract_at w.contracts a ≡ o → changes_by w a o ≡ Some y → HasChanges layout y
    by_contract None is e = none_is y e
    by_contract (Some x) is e =
        let good = has a x is in
        let registers = filtered (λ r. list_any (nat_eq r) x.registers) (λ r. (layout.first ≤ r) × (r - layout.first < length layout.registers))
        (λ r k. among (λ r. (layout.first ≤ r) × (r - layout.first < length layout.registers)) x.registers r good.0 k) (from_to 0 32) in
        subst (HasChanges layout) (some_is (record { registers = registers_of w a; flags = flags_listed x }) y e)
        (record {
          registers = subst (All (λ r. (layout.first ≤ r) × (r - layout.first < length layout.registers))) (sym (registers_are w a x is)) registers;
          flags = filtered (λ f. list_any (nat_eq f) x.flags) (λ f. f < length layout.flags)
              (λ f k. among (λ f. f < length layout.flags) x.flags f good.1 k) (3 ∷ 2 ∷ 1 ∷ 0 ∷ []);
          flags_fall = falls_all 4 (flags_listed x)
              (falls_filtered (λ f. list_any (nat_eq f) x.flags) 4 (3 ∷ 2 ∷ 1 ∷ 0 ∷ []) (omega arith, (omega arith, (omega arith, (omega arith, tt)))));
        })

-- ---- what a report shows

bits_are : (set : ℕ) (flags : List ℕ) → Bits (map (λ f. bit_at f set) flags)
bits_are set [] = tt
bits_are set (f ∷ flags) = (omega arith, bits_are set flags)

changed_registers : (w : Whole) (a : ℕ) (o : Option Contract) (y : Changes) → changes_by w a o ≡ Some y → y.registers ≡ registers_of w a
changed_registers w a None y e = none_is y e
changed_registers w a (Some x) y e = let same = some_is (record { registers = registers_of w a; flags = flags_listed x }) y e in sym (ap (λ (c : Changes). c.registers) same)

module _ (layout : Layout) (w : Whole) (returns : ℕ → Bool) where
  block_is_shown : (c : WrittenCall) → IsBlock layout (call_checks w returns) c → IsWrittenCall w layout c
  block_is_shown c block =
      let x = block.contract in
      let same = changed_registers w c.at (contract_at w.contracts c.at) x block.is_contract in
      record {
        step = block.step;
        count = block.count ∙ ap length same;
        words = block.words;
        flags = subst (λ n. n < 2 ^ length layout.flags) block.flags
            (below (length layout.flags) x.flags (map (λ f. bit_at f c.flags) x.flags) block.has.flags block.has.flags_fall (bits_are c.flags x.flags));
        bytes = block.bytes;
        bytes_rise = block.bytes_rise;
      }

  blocks_are_shown : (calls : List WrittenCall) → All (IsBlock layout (call_checks w returns)) calls → All (IsWrittenCall w layout) calls
  blocks_are_shown [] all = All-nil (IsWrittenCall w layout)
  blocks_are_shown (c ∷ calls) all =
      All-cons (IsWrittenCall w layout) c calls (block_is_shown c (all 0 c (omega arith)))
      (blocks_are_shown calls (λ k d l. all (suc k) d (omega arith)))

  -- a frame keeps the file's bytes
  kept_same : (f : FrameName) → is_kept_at (frame_named w f).program ≡ is_kept_at w.program
  kept_same EntryFrame = refl
  kept_same (ContractFrame a) = by_rank (slice_get w.contracts (rank_at w.contracts a))
    where
      by_rank : (o : Option Contract) → is_kept_at (frame_by w (rank_at w.contracts a) o).program ≡ is_kept_at w.program
      by_rank None = refl
      by_rank (Some x) = refl

  head_is_shown : (f : FrameName) (start : Written) (o : Option WrittenHead) → IsHeadPart layout (frame_checks w returns f) start o → (h : WrittenHead) → o ≡ Some h →
      IsWritten layout (is_kept_at (frame_named w f).program) h.start
  head_is_shown f start None part h e = none_is h e
  head_is_shown f start (Some g) part h e =
      subst (λ (k : ℕ → Bool). IsWritten layout k h.start) (sym (kept_same f))
      (subst (λ (x : WrittenHead). IsWritten layout (is_kept_at w.program) x.start) (some_is g h e) part.start)

  no_choices : (f : FrameName) (start : Written) (o : Option WrittenHead) → IsHeadPart layout (frame_checks w returns f) start o → o ≢ None → start.choices ≡ []
  no_choices f start None part h = absurd (h refl)
  no_choices f start (Some g) part h = part.no_choices

pub written_is_shown : WrittenIsShown
written_is_shown layout w returns t p = record {
  entry = p.start;
  head = head_is_shown layout w returns (frame_name t.named) t.start t.head p.head;
  choices = no_choices layout w returns (frame_name t.named) t.start t.head p.head;
  calls = blocks_are_shown layout w returns t.calls p.calls;
  calls_rise = p.calls_rise;
}
