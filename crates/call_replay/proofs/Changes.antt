-- What contracts may change, by their addresses.
use Rattle.std.proofs.Common.{◌≡◌, ℕ, suc, ◌+◌, ◌<◌, ◌++◌, refl, ap, sym, ◌∙◌, arith, Bool, true, false, List, [], ◌∷◌, Option, Some, None, append_assoc, drop, drop-cons, get_or, length, map}
use Rattle.std.specs.Prelude.{◌==◌, filter, if◌then◌else◌, nat_eq}
use Rattle.std.specs.List.{list_any}
use Rattle.std.specs.Option.{option_map}
use Rattle.std.proofs.Math.Path.{fun_ext}
use Rattle.word_spec.specs.RowFiles.{from_to}
use Rattle.machine_spec.specs.StateText.{Layout}
use Rattle.frame_spec.specs.Frames as frames
use Rattle.frame_spec.specs.Frames.{contract_at}
use Rattle.frame_spec.specs.FrameReports.{registers_of}
use Rattle.frame_spec.specs.FrameVerdict.{Whole}
use Rattle.frame_texts_spec.specs.CallReplays as replays
use Rattle.frame_texts_spec.specs.CallReplays.{call_checks, changes_by, frame_checks}
use Rattle.frame_texts_spec.specs.CallTextLaws.{AreOfLayout, HasContracts}
use Rattle.frame_texts_spec.specs.CallTexts.{Changes, FrameName}
use Rattle.frame_texts_spec.specs.FrameTexts.{Checks}
use Rattle.frame_texts_spec.proofs.ProgramBlocks.{changes_are_of_layout}
use Rattle.notes_value.specs.FrameViews.{contract_of, is_in}
use Rattle.notes_value.specs.declared.notes.Contract.{Contract}
use Rattle.call_text.specs.Readings.{checks_by}
use Rattle.call_text.specs.Texts.{changes_at, changes_of}
use Rattle.call_text.specs.declared.text.ContractChanges.{ContractChanges}
use Rattle.table_run.proofs.Changed.{listed}
use Rattle.table_run.proofs.GiftLists.{filter_same}
use Rattle.call_replay.specs.Readings.{changes_in, said_of, told_change}

-- the first of an address
abbrev first_at : List (ℕ × Changes) → ℕ → Option Changes
first_at [] a = None
first_at (x ∷ rest) a = if x.0 == a then Some x.1 else first_at rest a

told_at : (l : List ContractChanges) (a : ℕ) → changes_at l a ≡ first_at (map told_change l) a
told_at [] a = refl
told_at (x ∷ l) a = ap (λ o. if x.at == a then Some (changes_of x) else o) (told_at l a)

said_at : (l : List Contract) (a : ℕ) → option_map changes_in (contract_at (map contract_of l) a) ≡ first_at (map said_of l) a
said_at [] a = refl
said_at (x ∷ l) a = by (x.at == a) (said_at l a)
  where
    by : (b : Bool) → option_map changes_in (contract_at (map contract_of l) a) ≡ first_at (map said_of l) a →
        option_map changes_in (if b then Some (contract_of x) else contract_at (map contract_of l) a)
        ≡ (if b then Some (changes_in (contract_of x)) else first_at (map said_of l) a)
    by true e = refl
    by false e = e

pub changes_are : (l : List ContractChanges) (cs : List Contract) (a : ℕ) → map told_change l ≡ map said_of cs →
    changes_at l a ≡ option_map changes_in (contract_at (map contract_of cs) a)
changes_are l cs a same = told_at l a ∙ ap (λ z. first_at z a) same ∙ sym (said_at cs a)

-- what is said of one more
pub next_said : (cs : List Contract) (i : ℕ) (x : Contract) (old new : List (ℕ × Changes)) (y : ℕ × Changes) → i < length cs → x ≡ get_or cs i x →
    new ≡ old ++ y ∷ [] → y ≡ said_of x → old ++ map said_of (drop i cs) ≡ map said_of cs → new ++ map said_of (drop (i + 1) cs) ≡ map said_of cs
next_said cs i x old new y below is made said inv =
    let rest = map said_of (drop (suc i) cs) in
    let next : i + 1 ≡ suc i = omega arith in
    let first : map said_of (drop i cs) ≡ said_of x ∷ rest =
    ap (map said_of) (drop-cons cs i x below) ∙ ap (λ (z : Contract). said_of z ∷ rest) (sym is) in
    ap (λ k. new ++ map said_of (drop k cs)) next ∙ ap (λ (l : List (ℕ × Changes)). l ++ rest) made ∙ append_assoc old (y ∷ []) rest
    ∙ ap (λ (z : ℕ × Changes). old ++ (z ∷ rest)) said ∙ ap (λ (l : List (ℕ × Changes)). old ++ l) (sym first) ∙ inv

-- a filter hangs on the numbers of its list
abbrev Below : ℕ → List ℕ → Type 0
Below n [] = Unit {0}
Below n (x ∷ xs) = (x < n) × Below n xs

filter_alike : (P Q : ℕ → Bool) (n : ℕ) → ((k : ℕ) → k < n → P k ≡ Q k) → (xs : List ℕ) → Below n xs → filter P xs ≡ filter Q xs
filter_alike P Q n same [] low = refl
filter_alike P Q n same (x ∷ xs) low =
    ap (λ b. if b then x ∷ filter P xs else filter P xs) (same x low.0) ∙ ap (λ l. if Q x then x ∷ l else l) (filter_alike P Q n same xs low.1)

registers_are : (x : Contract) → filter (is_in x.registers) (from_to 0 32) ≡ (changes_in (contract_of x)).registers
registers_are x =
    sym (filter_same (λ r. list_any (nat_eq r) (contract_of x).registers) (is_in x.registers) 32 0 (λ r from upto. listed (is_in x.registers) r 32 upto))

flags_are : (x : Contract) → filter (is_in x.flags) (3 ∷ 2 ∷ 1 ∷ 0 ∷ []) ≡ (changes_in (contract_of x)).flags
flags_are x =
    sym (filter_alike (λ f. list_any (nat_eq f) (contract_of x).flags) (is_in x.flags) 4 (λ f below. listed (is_in x.flags) f 4 below) (3 ∷ 2 ∷ 1 ∷ 0 ∷ [])
    (omega arith, (omega arith, (omega arith, (omega arith, tt)))))

pub change_is : (x : Contract) (c : ContractChanges) → c.at ≡ x.at → c.registers.items ≡ filter (is_in x.registers) (from_to 0 32) →
    c.flags.items ≡ filter (is_in x.flags) (3 ∷ 2 ∷ 1 ∷ 0 ∷ []) → told_change c ≡ said_of x
change_is x c at registers flags =
    ap (λ (a : ℕ). (a, changes_of c)) at
    ∙ ap (λ (rs : List ℕ). (x.at, record { registers = rs; flags = c.flags.items })) (registers ∙ registers_are x)
    ∙ ap (λ (fs : List ℕ). (x.at, record { registers = (changes_in (contract_of x)).registers; flags = fs })) (flags ∙ flags_are x)

-- what a program says that its contracts may change
listed_is : (w : Whole) (a : ℕ) (x : frames.Contract) → contract_at w.contracts a ≡ Some x → registers_of w a ≡ (changes_in x).registers
listed_is w a x found = rw found refl

said_by : (w : Whole) (a : ℕ) → option_map changes_in (contract_at w.contracts a) ≡ replays.changes_of w a
said_by w a = by (contract_at w.contracts a) refl
  where
    by : (o : Option frames.Contract) → contract_at w.contracts a ≡ o → option_map changes_in o ≡ changes_by w a o
    by None found = refl
    by (Some x) found = ap (λ (rs : List ℕ). Some (record { registers = rs; flags = (changes_in x).flags })) (sym (listed_is w a x found))

module _ (w : Whole) (l items : List ContractChanges) (alike : l ≡ items)
    (same : (a : ℕ) → changes_at items a ≡ option_map changes_in (contract_at w.contracts a)) where
  program_changes : (a : ℕ) → changes_at l a ≡ replays.changes_of w a
  program_changes a = ap (λ (z : List ContractChanges). changes_at z a) alike ∙ same a ∙ said_by w a

  pub changes_whole : changes_at l ≡ replays.changes_of w
  changes_whole = fun_ext program_changes

  pub are_of_layout : (layout : Layout) (all : FrameName → Checks) → HasContracts layout w → AreOfLayout layout (checks_by all l)
  are_of_layout layout all has a x found =
      changes_are_of_layout layout w (λ k. false) has a x (sym (program_changes a) ∙ found)

  pub checks_are : (returns : ℕ → Bool) → checks_by (frame_checks w returns) l ≡ call_checks w returns
  checks_are returns =
      ap (λ (f : ℕ → Option Changes). record { frames = frame_checks w returns; changes = f }) (fun_ext program_changes)
