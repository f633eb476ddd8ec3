-- A run with what is shown of another one is that one, but for bytes that no machine sees.
use Rattle.std.proofs.Common.{◌≡◌, ◌⊎◌, inl, inr, ℕ, zero, suc, ◌+◌, ◌-◌, ◌≤◌, ◌<◌, ◌^◌, List, [], ◌∷◌, ◌++◌, append-nil, length, Bool, true, false, Option, Some, None, refl, sym, ap, ◌∙◌, subst, arith}
use Rattle.std.specs.Prelude.{◌≢◌, ◌==◌, ◌&&◌, All, Contains, filter, is_some, nat_eq, nat_le, nat_lt, if◌then◌else◌}
use Rattle.std.specs.List.{list_any}
use Rattle.std.specs.Option.{option_map}
use Rattle.std.specs.Prelude.{option_to_list}
use Rattle.std.proofs.lemmas.List.Elements.{All-append, All-cons, All-filter, All-nil, All-weaker, Contains-append_left, Contains-append_right}
use Rattle.std.proofs.lemmas.List.Kept.{AllPairs-filter}
use Rattle.std.proofs.lemmas.List.Quantifiers.{all_pairs_push}
use Rattle.std.proofs.lemmas.Bool.{cases_lt}
use Rattle.word_spec.specs.Words.{word}
use Rattle.word_spec.specs.Memory.{Endian, byte_in}
use Rattle.word_spec.specs.State.{State, IsState}
use Rattle.machine_spec.specs.StateText.{Layout}
use Rattle.bilv_spec.specs.PointLaws.{HasLawfulRows, ReadsMemory}
use Rattle.bilv_spec.specs.Run as tables
use Rattle.bilv_spec.specs.Run.{Program, Place, false_line}
use Rattle.bilv_spec.proofs.FileWords.{Sound, every}
use Rattle.frame_spec.specs.Frames.{Content, Contract, Frame, FrameEvent, IsContent, contract_at, covers, has_changed, is_outside, stored_by_row, written}
use Rattle.frame_spec.specs.FrameRuns.{Start, Run, Going, Arriving, Calling, Exited, Failed, Turned, Cut, Broken, FrameStep, Halts, GoesTo, Reaches, Calls, Leaves, Breaks, IsOver, after_step, arrival, arrive, contract_step, frame_step, is_contract_call, lands, leaves_by, links_by, one_more, row_of_place, run, turn, unless_outside}
use Rattle.frame_spec.specs.FrameRuns as runs
use Rattle.frame_spec.specs.FrameVerdict.{Whole}
use Rattle.frame_spec.specs.FrameReports.{AreMade, HasNoEvent, IsMade, IsWrittenCall, WrittenCall, gifts, given_by, flag_in}
use Rattle.frame_spec.proofs.ByFile as words
use Rattle.frame_spec.proofs.ByFile.{Stands}
use Rattle.frame_spec.proofs.OneEnd.{over_stays}
use Rattle.frame_spec.proofs.Stacks.{AreWords}
use Rattle.frame_texts_spec.specs.CallReplays.{block_at, may_write, may_write_by}
use Rattle.model_spec.proofs.AlikeSteps.{Both}
use Rattle.table_run.specs.FrameEnds.{HasKept}
use Rattle.table_run.specs.CalledFrames.{IsBlock, IsGift, called_frame, program_in}
use Rattle.table_run.specs.CalledRuns.{AreChanged, called_start}
use Rattle.table_run.specs.MadeCalls.{AreAlike, AreListed, IsShownOf, covered, shown_at, shown_by, shown_in}
use Rattle.table_run.proofs.CalledRuns.{gift_at}
use Rattle.table_run.proofs.ContractSteps.{given_is, no_head}
use Rattle.table_run.proofs.SeenSteps.{FrameBoth, all, at_both, contract_steps_same, frame_both, written_same}
use Rattle.table_run.proofs.ShownLists.{AreInOrder, all_passed, block_first, block_later, block_listed, block_one, block_only, block_second, byte_passed, gift_content}
use Rattle.table_run.proofs.ShownSteps.{AreBack, AreEnded, AreGivenAlike, AreTwins, Ends, contract_both}

-- ---- what is shown, as a list

module _ (f : Frame) (start : Start) (calls : List WrittenCall) where
  -- one block, with some of its bytes
  pub record IsOne (n : ℕ) (l : List WrittenCall) : Type 0 where
    pub c : Place
    pub w : WrittenCall
    pub block : block_at calls n ≡ Some w
    pub is : l ≡ covered f c w ∷ []

  abbrev pub IsFew : ℕ → List WrittenCall → Type 0
  IsFew n l = (l ≡ []) ⊎ IsOne n l

  few_of : (n : ℕ) (c : Place) (o : Option WrittenCall) → block_at calls n ≡ o → IsFew n (option_to_list (option_map (covered f c) o))
  few_of n c None is = inl refl
  few_of n c (Some w) is = inr (record { c = c; w = w; block = is; is = refl })

  few_by : (n : ℕ) (c : Place) (x : FrameStep) → IsFew n (shown_by x f c (block_at calls n))
  few_by n c (Halts e) = inl refl
  few_by n c (GoesTo d) = few_of n c (block_at calls n) refl
  few_by n c (Reaches d) = few_of n c (block_at calls n) refl
  few_by n c (Calls d) = few_of n c (block_at calls n) refl
  few_by n c (Leaves s) = few_of n c (block_at calls n) refl
  few_by n c (Breaks line) = few_of n c (block_at calls n) refl

  pub few_at : (n : ℕ) (r : Run) → IsFew n (shown_at f start calls n r)
  few_at n (Calling t m c) = few_by n c (contract_step f start.state c (start.given n))
  few_at n (Going t m c) = inl refl
  few_at n (Arriving t m c) = inl refl
  few_at n (Exited at m) = inl refl
  few_at n (Failed e at m) = inl refl
  few_at n (Turned at m) = inl refl
  few_at n (Cut at m) = inl refl
  few_at n (Broken line at m) = inl refl

  pub over_shown : (n : ℕ) (r : Run) → IsOver r → shown_at f start calls n r ≡ []
  over_shown n (Calling t m c) over = absurd over
  over_shown n (Going t m c) over = refl
  over_shown n (Arriving t m c) over = refl
  over_shown n (Exited at m) over = refl
  over_shown n (Failed e at m) over = refl
  over_shown n (Turned at m) over = refl
  over_shown n (Cut at m) over = refl
  over_shown n (Broken line at m) over = refl

  -- a contract step without an event shows its block
  pub quiet_shown : (c : Place) (x : FrameStep) (o : Option WrittenCall) → ((e : FrameEvent) → x ≢ Halts e) →
      shown_by x f c o ≡ option_to_list (option_map (covered f c) o)
  quiet_shown c (Halts e) o quiet = absurd (quiet e refl)
  quiet_shown c (GoesTo d) o quiet = refl
  quiet_shown c (Reaches d) o quiet = refl
  quiet_shown c (Calls d) o quiet = refl
  quiet_shown c (Leaves s) o quiet = refl
  quiet_shown c (Breaks line) o quiet = refl

  -- and one that shows something has no event
  pub shown_quiet : (c : Place) (x : FrameStep) (o : Option WrittenCall) (w : WrittenCall) → shown_by x f c o ≡ w ∷ [] → (e : FrameEvent) → x ≢ Halts e
  shown_quiet c (Halts g) o w is e same = absurd (cc)
  shown_quiet c (GoesTo d) o w is e same = absurd (let no : GoesTo d ≡ Halts e = same in cc)
  shown_quiet c (Reaches d) o w is e same = absurd (let no : Reaches d ≡ Halts e = same in cc)
  shown_quiet c (Calls d) o w is e same = absurd (let no : Calls d ≡ Halts e = same in cc)
  shown_quiet c (Leaves s) o w is e same = absurd (let no : Leaves s ≡ Halts e = same in cc)
  shown_quiet c (Breaks line) o w is e same = absurd (let no : Breaks line ≡ Halts e = same in cc)

  -- ---- a fact of all blocks

  few_all : (P : WrittenCall → Type 0) (n : ℕ) (l : List WrittenCall) → IsFew n l →
      ((c : Place) (w : WrittenCall) → block_at calls n ≡ Some w → l ≡ covered f c w ∷ [] → P (covered f c w)) → All P l
  few_all P n l (inl none) each = subst (All P) (sym none) (All-nil P)
  few_all P n l (inr one) each = subst (All P) (sym one.is) (All-cons P (covered f one.c one.w) [] (each one.c one.w one.block one.is) (All-nil P))

  module _ (k : ℕ) where
    pub all_shown : (P : WrittenCall → Type 0) (count : ℕ) → ((n : ℕ) (c : Place) (w : WrittenCall) → n < count → block_at calls n ≡ Some w →
        shown_at f start calls n (run f k start n) ≡ covered f c w ∷ [] → P (covered f c w)) → All P (shown_in f k start calls count)
    all_shown P zero each = All-nil P
    all_shown P (suc n) each =
        All-append P (shown_in f k start calls n) (shown_at f start calls n (run f k start n))
        (all_shown P n (λ m c w less. each m c w (omega (arith, less))))
        (few_all P n (shown_at f start calls n (run f k start n)) (few_at n (run f k start n)) (λ c w. each n c w (omega arith)))

    -- their steps are below the count
    steps_below : (count : ℕ) → All (λ w. w.step < count) (shown_in f k start calls count)
    steps_below count =
        all_shown (λ w. w.step < count) count (λ n c w less block is. (let at = (block_one (λ w. Unit {0}) calls n w (λ i d l. tt) block).1 in omega
        (arith, less, at)))

    pub shown_rising : (count : ℕ) → AreInOrder (shown_in f k start calls count)
    shown_rising zero = λ i j d less within. absurd (omega (arith, within))
    shown_rising (suc n) = by (shown_rising n) (shown_at f start calls n (run f k start n)) (few_at n (run f k start n))
      where
        by : AreInOrder (shown_in f k start calls n) → (l : List WrittenCall) → IsFew n l → AreInOrder (shown_in f k start calls n ++ l)
        by rises l (inl none) =
            subst (λ z. AreInOrder (shown_in f k start calls n ++ z)) (sym none)
            (subst AreInOrder (sym (append-nil (shown_in f k start calls n))) rises)
        by rises l (inr one) =
            let at : one.w.step ≡ n = (block_one (λ w. Unit {0}) calls n one.w (λ i d l. tt) one.block).1 in
            subst (λ z. AreInOrder (shown_in f k start calls n ++ z)) (sym one.is)
            (all_pairs_push (λ x y. x.step < y.step) (shown_in f k start calls n) (covered f one.c one.w) rises
            (λ i d l. (let less = steps_below n i d l in omega (arith, less, at))))

    -- the block that is shown of a step
    pub block_shown : (count n : ℕ) (w : WrittenCall) → n < count → shown_at f start calls n (run f k start n) ≡ w ∷ [] → w.step ≡ n →
        block_at (shown_in f k start calls count) n ≡ Some w
    block_shown zero n w less is at = absurd (omega (arith, less))
    block_shown (suc m) n w less is at = elim (cases_lt n m) [
      | inl before ↦ block_first (shown_in f k start calls m) (shown_at f start calls m (run f k start m)) n w (block_shown m n w before is at)
      | inr from ↦ (let same : m ≡ n = omega (arith, less, from) in
          let here : block_at (shown_in f k start calls n) n ≡ None = block_later (shown_in f k start calls n) n (steps_below n) in
          ap (λ z. block_at (shown_in f k start calls z ++ shown_at f start calls z (run f k start z)) n) same
          ∙ block_second (shown_in f k start calls n) (shown_at f start calls n (run f k start n)) n here
          ∙ ap (λ l. block_at l n) is ∙ block_only w n at)
    ]

    pub shown_listed : (count n : ℕ) (w : WrittenCall) → n < count → shown_at f start calls n (run f k start n) ≡ w ∷ [] →
        Contains (shown_in f k start calls count) w
    shown_listed zero n w less is = absurd (omega (arith, less))
    shown_listed (suc m) n w less is = elim (cases_lt n m) [
      | inl before ↦ Contains-append_left (shown_in f k start calls m) (shown_at f start calls m (run f k start m)) w (shown_listed m n w before is)
      | inr from ↦ (let same : m ≡ n = omega (arith, less, from) in
          Contains-append_right (shown_in f k start calls m) (shown_at f start calls m (run f k start m)) w
          (subst (λ l. Contains l w) (sym (ap (λ z. shown_at f start calls z (run f k start z)) same ∙ is)) (0, omega arith, refl)))
    ]

    -- nothing is shown after the end
    pub shown_rest : (n d : ℕ) (r : Run) → IsOver r → run f k start n ≡ r → shown_in f k start calls (d + n) ≡ shown_in f k start calls n
    shown_rest n zero r over is = ap (shown_in f k start calls) (let e : 0 + n ≡ n = omega arith in e)
    shown_rest n (suc d) r over is =
        let up : suc d + n ≡ suc (d + n) = omega arith in
        ap (shown_in f k start calls) up
        ∙ ap (λ z. shown_in f k start calls (d + n) ++ shown_at f start calls (d + n) z) (over_stays f k start n d r over is)
        ∙ ap (λ z. shown_in f k start calls (d + n) ++ z) (over_shown (d + n) r over)
        ∙ append-nil (shown_in f k start calls (d + n)) ∙ shown_rest n d r over is

-- ---- what a block gives

abbrev pub gift_of : (registers : ℕ → List ℕ) → Option WrittenCall → Content
gift_of registers None = gifts registers [] 0
gift_of registers (Some w) = given_by (registers w.at) w

pub gift_given : (registers : ℕ → List ℕ) (stepped : List Contract) (o : Option WrittenCall) → AreChanged registers stepped →
    IsGift stepped o (gift_of registers o)
gift_given registers stepped None changed = tt
gift_given registers stepped (Some w) changed = λ x found. ap (λ l. given_by l w) (changed w.at x found)

pub filtered_block : (form : Layout) (test : ℕ → Bool) (w : WrittenCall) → IsBlock form w →
    IsBlock form (record w { bytes = filter (λ (b : ℕ × ℕ). test b.0) w.bytes })
filtered_block form test w is = record {
  words = is.words;
  flags = is.flags;
  bytes = All-filter (λ (b : ℕ × ℕ). test b.0) (λ (b : ℕ × ℕ). b.1 ≤ 255) w.bytes is.bytes;
  bytes_rise = AllPairs-filter (λ (x y : ℕ × ℕ). x.0 < y.0) (λ (b : ℕ × ℕ). test b.0) w.bytes is.bytes_rise;
}

covered_block : (form : Layout) (f : Frame) (c : Place) (w : WrittenCall) → IsBlock form w → IsBlock form (covered f c w)
covered_block form f c w is = filtered_block form (may_write f c) w is

pub written_shown : (v : Whole) (form : Layout) (f : Frame) (start : Start) (calls : List WrittenCall) (k count : ℕ) →
    All (IsWrittenCall v form) calls → All (IsWrittenCall v form) (shown_in f k start calls count)
written_shown v form f start calls k count each =
    all_shown f start calls k (IsWrittenCall v form) count
    (λ n c w less block is. covered_written c w (block_one (IsWrittenCall v form) calls n w each block).0)
  where
    covered_written : (c : Place) (w : WrittenCall) → IsWrittenCall v form w → IsWrittenCall v form (covered f c w)
    covered_written c w is = record {
      step = is.step;
      count = is.count;
      words = is.words;
      flags = is.flags;
      bytes = All-filter (λ (b : ℕ × ℕ). may_write f c b.0) (λ (b : ℕ × ℕ). (b.0 < 2 ^ 32) × (1 ≤ b.1) × (b.1 ≤ 255)) w.bytes is.bytes;
      bytes_rise = AllPairs-filter (λ (x y : ℕ × ℕ). x.0 < y.0) (λ (b : ℕ × ℕ). may_write f c b.0) w.bytes is.bytes_rise;
    }

-- ---- runs

-- two runs stand at one place, at a row or at a contract that is stepped over, or have ended alike
data Pair (p : Program) (stepped : List Contract) (n : ℕ) (x y : Run) : Type 0 where
  is_going : (t : ℕ) (c d : Place) → x ≡ Going t n c → y ≡ Going t n d → AreTwins p c d → Pair p stepped n x y
  is_calling : (t : ℕ) (c d : Place) → x ≡ Calling t n c → y ≡ Calling t n d → AreTwins p c d → is_some (contract_at stepped c.state.pc) ≡ true →
      Pair p stepped n x y
  has_ended : (r : Run) → IsOver r → x ≡ r → y ≡ r → Pair p stepped n x y

some_of : {X : Type 0} (o : Option X) → is_some o ≡ true → (x : X) × (o ≡ Some x)
some_of None is = absurd (cc)
some_of (Some x) is = (x, refl)

first_true : (a b c : Bool) → (a && b && c) ≡ true → a ≡ true
first_true true b c is = refl
first_true false b c is = is

module _ (p : Program) (stepped : List Contract) (own : Option Contract) (k : ℕ) where
  abbrev f : Frame
  f = called_frame p stepped own

  abbrev q : Program
  q = program_in p own

  abbrev E : Endian
  E = p.machine.endian

  -- a place whose state has the kept bytes of the file, with addresses on its stack
  abbrev Good : Place → Type 0
  Good c = Sound q every c.state × AreWords c.stack

  -- a step leads to no head, and calls nothing but contracts
  abbrev Lands : FrameStep → Type 0
  Lands (Reaches d) = ⊥
  Lands (Calls d) = is_some (contract_at stepped d.state.pc) ≡ true
  Lands x = Unit {0}

  module _ (entry : State) (c : Place) where
    lands_at : (d : Place) → Lands (lands f c d)
    lands_at d =
        subst (λ b. Lands (if b then Reaches d else if is_contract_call f c d then Calls d else GoesTo d)) (sym (no_head p stepped own d.state.pc))
        (by (is_contract_call f c d) refl)
      where
        by : (b : Bool) → is_contract_call f c d ≡ b → Lands (if b then Calls d else GoesTo d)
        by true is = first_true (is_some (contract_at stepped d.state.pc)) (nat_lt (length c.stack) (length d.stack)) (links_by (row_of_place f c)) is
        by false is = tt

    lands_exit : (o : Option Contract) (s : State) → Lands (leaves_by o f entry s)
    lands_exit None s = tt
    lands_exit (Some x) s = by (false_line E x.gives s entry) (has_changed f x entry s)
      where
        by : (o : Option ℕ) (b : Bool) → Lands (runs.given_by o b s)
        by (Some line) b = tt
        by None true = tt
        by None false = tt

    lands_unless : (b : Bool) (x : tables.Step) → Lands (unless_outside b f entry c x)
    lands_unless true (tables.Stops e) = tt
    lands_unless true (tables.Arrives d) = tt
    lands_unless true (tables.Exits s) = tt
    lands_unless false (tables.Stops e) = tt
    lands_unless false (tables.Arrives d) = lands_at d
    lands_unless false (tables.Exits s) = lands_exit own s

    row_lands : (choice : ℕ) → Lands (frame_step f entry c choice)
    row_lands choice = lands_unless (is_outside own E entry (stored_by_row (row_of_place f c) c.state)) (tables.step q entry c choice)

  -- ---- a transfer

  module _ (t n at : ℕ) where
    abbrev Next : Run → Run → Type 0
    Next x y = Pair p stepped (suc n) x y

    abbrev up : n + 1 ≡ suc n
    up = omega arith

    turns_both : (next : ℕ → ℕ → Place → Run) (c d : Place) → ((t : ℕ) → Next (next t (n + 1) c) (next t (n + 1) d)) → (b : Bool) →
        Next (turn next b t n at c) (turn next b t n at d)
    turns_both next c d makes true = has_ended (Turned at n) tt refl refl
    turns_both next c d makes false = makes (t + 1)

    arrives_both : (next : ℕ → ℕ → Place → Run) (c d : Place) → ((t : ℕ) → Next (next t (n + 1) c) (next t (n + 1) d)) → (b : Bool) →
        Next (arrive next b k t n at c) (arrive next b k t n at d)
    arrives_both next c d makes false = makes t
    arrives_both next c d makes true = turns_both next c d makes (t == k)

    same_pc : (c d : Place) → AreTwins p c d → c.state.pc ≡ d.state.pc
    same_pc c d twins = sym (ap (λ (z : State). z.pc) twins.at.seen.rest)

    goes_both : (c d : Place) → AreTwins p c d → Next (after_step k t n at (GoesTo c)) (after_step k t n at (GoesTo d))
    goes_both c d twins =
        subst (λ a. Next (arrive Going (nat_le c.state.pc at) k t n at c) (arrive Going (nat_le a at) k t n at d)) (same_pc c d twins)
        (arrives_both Going c d (λ t. is_going t c d (ap (λ m. Going t m c) up) (ap (λ m. Going t m d) up) twins) (nat_le c.state.pc at))

    calls_both : (c d : Place) → AreTwins p c d → is_some (contract_at stepped c.state.pc) ≡ true →
        Next (after_step k t n at (Calls c)) (after_step k t n at (Calls d))
    calls_both c d twins some =
        subst (λ a. Next (arrive Calling (nat_le c.state.pc at) k t n at c) (arrive Calling (nat_le a at) k t n at d)) (same_pc c d twins)
        (arrives_both Calling c d (λ t. is_calling t c d (ap (λ m. Calling t m c) up) (ap (λ m. Calling t m d) up) twins some) (nat_le c.state.pc at))

    twins_of : (c d : Place) → Both all c d → Sound q every c.state → AreTwins p c d
    twins_of c d both sound = record {
      at = at_both p stepped own c d.state d.stack both sound;
      is_state = subst IsState (sym both.state) both.second;
    }

    after_both : (x y : FrameStep) → FrameBoth (Sound q every) x y → Lands x → Next (after_step k t n at x) (after_step k t n at y)
    after_both (GoesTo c) (GoesTo d) both there = goes_both c d (twins_of c d both.0 both.1)
    after_both (Calls c) (Calls d) both there = calls_both c d (twins_of c d both.0 both.1) there
    after_both (Reaches c) y both there = absurd there
    after_both (Halts g) (Halts e) both there = has_ended (Failed g at n) tt refl (ap (λ z. Failed z at n) (sym both))
    after_both (Leaves s) (Leaves z) both there = has_ended (Exited at n) tt refl refl
    after_both (Breaks l) (Breaks m) both there = has_ended (Broken l at n) tt refl (ap (λ z. Broken z at n) (sym both))
    after_both (GoesTo c) (Halts y) both there = absurd both
    after_both (GoesTo c) (Reaches y) both there = absurd both
    after_both (GoesTo c) (Calls y) both there = absurd both
    after_both (GoesTo c) (Leaves y) both there = absurd both
    after_both (GoesTo c) (Breaks y) both there = absurd both
    after_both (Calls c) (Halts y) both there = absurd both
    after_both (Calls c) (GoesTo y) both there = absurd both
    after_both (Calls c) (Reaches y) both there = absurd both
    after_both (Calls c) (Leaves y) both there = absurd both
    after_both (Calls c) (Breaks y) both there = absurd both
    after_both (Halts c) (GoesTo y) both there = absurd both
    after_both (Halts c) (Reaches y) both there = absurd both
    after_both (Halts c) (Calls y) both there = absurd both
    after_both (Halts c) (Leaves y) both there = absurd both
    after_both (Halts c) (Breaks y) both there = absurd both
    after_both (Leaves c) (Halts y) both there = absurd both
    after_both (Leaves c) (GoesTo y) both there = absurd both
    after_both (Leaves c) (Reaches y) both there = absurd both
    after_both (Leaves c) (Calls y) both there = absurd both
    after_both (Leaves c) (Breaks y) both there = absurd both
    after_both (Breaks c) (Halts y) both there = absurd both
    after_both (Breaks c) (GoesTo y) both there = absurd both
    after_both (Breaks c) (Reaches y) both there = absurd both
    after_both (Breaks c) (Calls y) both there = absurd both
    after_both (Breaks c) (Leaves y) both there = absurd both

    ended_both : (x : FrameStep) → Ends x → Next (after_step k t n at x) (after_step k t n at x)
    ended_both (Halts e) ends = has_ended (Failed e at n) tt refl refl
    ended_both (Breaks line) ends = has_ended (Broken line at n) tt refl refl
    ended_both (GoesTo d) ends = absurd ends
    ended_both (Reaches d) ends = absurd ends
    ended_both (Calls d) ends = absurd ends
    ended_both (Leaves s) ends = absurd ends

    contract_next : (x y : FrameStep) → AreEnded x y ⊎ AreBack p x y → Next (after_step k t n at x) (after_step k t n at y)
    contract_next x y (inl e) =
        subst (λ z. Next (after_step k t n at z) (after_step k t n at y)) (sym e.first)
        (subst (λ z. Next (after_step k t n at e.end) (after_step k t n at z)) (sym e.second) (ended_both e.end e.ends))
    contract_next x y (inr b) =
        subst (λ z. Next (after_step k t n at z) (after_step k t n at y)) (sym b.first)
        (subst (λ z. Next (after_step k t n at (GoesTo b.c)) (after_step k t n at z)) (sym b.second) (goes_both b.c b.d b.twins))

  -- ---- from an entry state

  module _ (entry : State) (choices : List (ℕ × ℕ)) (registers : ℕ → List ℕ) (form : Layout) (lawful : HasLawfulRows q) (memory : ReadsMemory q)
      (is_entry : IsState entry) (kept : HasKept p entry) where
    abbrev starts : List WrittenCall → Start
    starts calls = called_start entry choices registers calls

    abbrev begun : Place
    begun = record { state = entry; stack = [] }

    begins : (calls : List WrittenCall) → run f k (starts calls) 0 ≡ Going 0 0 begun
    unfolding run
    begins calls = ap (λ b. if b then Arriving 0 0 begun else Going 0 0 begun) (no_head p stepped own entry.pc)

    -- each place is good
    module _ (calls : List WrittenCall) (blocks : All (IsBlock form) calls) where
      good_more : (r : Run) → Stands Good r → Stands Good (one_more f k (starts calls) r)
      good_more (Going t n c) h =
          words.stepped Good k t n c.state.pc (frame_step f entry c (byte_in choices n)) (words.step_lands f lawful memory entry c (byte_in choices n) h)
      good_more (Arriving t n c) h = over_there (tables.false_assert p.machine.endian q.notes.asserts c.state entry)
        where
          over_there : (o : Option ℕ) → Stands Good (arrival f o n c.state.pc)
          over_there None = tt
          over_there (Some line) = tt
      good_more (Calling t n c) h =
          words.stepped Good k t n c.state.pc (contract_step f entry c (gifts registers calls n))
          (words.contract_lands f lawful memory (gifts registers calls n) (gift_content form registers calls n blocks) entry c h)
      good_more (Exited at n) h = tt
      good_more (Failed e at n) h = tt
      good_more (Turned at n) h = tt
      good_more (Cut at n) h = tt
      good_more (Broken line at n) h = tt

      pub good : (n : ℕ) → Stands Good (run f k (starts calls) n)
      unfolding run
      good zero = subst (Stands Good) (sym (begins calls)) (((λ a cell low is kept_is asks. kept a cell low is kept_is), is_entry), tt)
      good (suc n) = good_more (run f k (starts calls) n) (good n)

    -- ---- with what is shown

    module _ (calls : List WrittenCall) (blocks : All (IsBlock form) calls) (rising : AreInOrder calls) (count : ℕ)
        (listed : AreListed f k (starts calls) calls count) where
      abbrev s0 : Start
      s0 = starts calls

      abbrev made : List WrittenCall
      made = shown_in f k s0 calls count

      abbrev s1 : Start
      s1 = starts made

      made_blocks : All (IsBlock form) made
      made_blocks =
          all_shown f s0 calls k (IsBlock form) count
          (λ n c w less block is. covered_block form f c w (block_one (IsBlock form) calls n w blocks block).0)

      -- what the contract step of a number is given, and what is shown of it
      pub record IsGiven (n : ℕ) (c : Place) : Type 0 where
        pub w : WrittenCall
        pub block : block_at calls n ≡ Some w
        pub step : w.step ≡ n
        pub at : w.at ≡ c.state.pc
        pub flags : (x : Contract) → contract_at stepped c.state.pc ≡ Some x → (i : ℕ) → flag_in w.flags i ≡ 1 → list_any (nat_eq i) x.flags ≡ true
        pub shown : shown_at f s0 calls n (run f k s0 n) ≡ covered f c w ∷ []

      pub given_at : (n t : ℕ) (c : Place) → n < count → run f k s0 n ≡ Calling t n c → HasNoEvent f s0 n c → IsGiven n c
      given_at n t c less is quiet =
          let l = listed n t n c less is quiet in
          let block = block_listed calls n l.call rising l.listed l.step in record {
            w = l.call;
            block = block;
            step = l.step;
            at = l.at;
            flags = l.flags;
            shown = ap (shown_at f s0 calls n) is
                ∙ quiet_shown f s0 calls c (contract_step f entry c (gifts registers calls n)) (block_at calls n) quiet
                ∙ ap (λ o. option_to_list (option_map (covered f c) o)) block;
          }

      passed_alike : (c : Place) (w : WrittenCall) (names : List ℕ) (x : Contract) → contract_at stepped c.state.pc ≡ Some x →
          AreGivenAlike E x c.state (given_by names w) (given_by names (covered f c w))
      passed_alike c w names x found = record {
        regs = refl;
        flags = refl;
        mem = λ a low has.
            (let same : word 32 a ≡ a = omega (arith, low) in
            sym (byte_passed (may_write f c) w.bytes (word 32 a)
            (ap (λ o. may_write_by o f c (word 32 a)) found ∙ ap (λ z. list_any (nat_eq z) (written E x.writes c.state)) same ∙ has)));
      }

      alike_at : (n t : ℕ) (c : Place) → n < count → run f k s0 n ≡ Calling t n c → HasNoEvent f s0 n c → (x : Contract) →
          contract_at stepped c.state.pc ≡ Some x → AreGivenAlike E x c.state (gifts registers calls n) (gifts registers made n)
      alike_at n t c less is quiet x found =
          let g = given_at n t c less is quiet in
          let first = gift_at registers calls n g.w g.block in
          let second = gift_at registers made n (covered f c g.w) (block_shown f s0 calls k count n (covered f c g.w) less g.shown g.step) in
          subst (λ z. AreGivenAlike E x c.state z (gifts registers made n)) (sym first)
          (subst (AreGivenAlike E x c.state (given_by (registers g.w.at) g.w)) (sym second) (passed_alike c g.w (registers g.w.at) x found))

      abbrev first_step : ℕ → Place → FrameStep
      first_step n c = contract_step f entry c (gifts registers calls n)

      abbrev second_step : ℕ → Place → FrameStep
      second_step n d = contract_step f entry d (gifts registers made n)

      steps_both : (n t : ℕ) (c d : Place) → n < count → run f k s0 n ≡ Calling t n c → AreTwins p c d →
          AreEnded (first_step n c) (second_step n d) ⊎ AreBack p (first_step n c) (second_step n d)
      steps_both n t c d less is twins =
          let h = subst (Stands Good) is (good calls blocks n) in
          subst (λ z. AreEnded (first_step n c) z ⊎ AreBack p (first_step n c) z)
          (contract_steps_same p stepped own entry c d.state d.stack twins.at (gifts registers made n))
          (contract_both p stepped own (contract_at stepped c.state.pc) entry c.state c.stack (gifts registers calls n) (gifts registers made n) h.0 h.1
          (gift_content form registers calls n blocks) (gift_content form registers made n made_blocks) (alike_at n t c less is))

      -- a block that is handed over with some of its bytes
      handed_content : (o : Option WrittenCall) (n : ℕ) (c : Place) → o ≡ option_map (covered f c) (block_at calls n) → IsContent (gift_of registers o)
      handed_content o n c is = subst (λ z. IsContent (gift_of registers z)) (sym is) (by (block_at calls n) refl)
        where
          by : (b : Option WrittenCall) → block_at calls n ≡ b → IsContent (gift_of registers (option_map (covered f c) b))
          by None none = gift_content form registers [] 0 (All-nil (IsBlock form))
          by (Some w) some =
              given_is form (registers w.at) (covered f c w) (covered_block form f c w (block_one (IsBlock form) calls n w blocks some).0)

      pub handed_both : (n t : ℕ) (c : Place) → n < count → run f k s0 n ≡ Calling t n c → (o : Option WrittenCall) →
          o ≡ option_map (covered f c) (block_at calls n) →
          AreEnded (first_step n c) (contract_step f entry c (gift_of registers o)) ⊎ AreBack p (first_step n c) (contract_step f entry c (gift_of registers o))
      handed_both n t c less is o handed_is =
          let h = subst (Stands Good) is (good calls blocks n) in
          contract_both p stepped own (contract_at stepped c.state.pc) entry c.state c.stack (gifts registers calls n) (gift_of registers o) h.0 h.1
          (gift_content form registers calls n blocks) (handed_content o n c handed_is)
          (λ quiet x found. (let g = given_at n t c less is quiet in
          let first = gift_at registers calls n g.w g.block in
          let second : gift_of registers o ≡ given_by (registers g.w.at) (covered f c g.w) = ap (gift_of registers) (handed_is ∙ ap (option_map (covered f c)) g.block) in
          subst (λ z. AreGivenAlike E x c.state z (gift_of registers o)) (sym first)
          (subst (AreGivenAlike E x c.state (given_by (registers g.w.at) g.w)) (sym second) (passed_alike c g.w (registers g.w.at) x found))))

      -- ---- step by step

      pair_as : (n : ℕ) (x y v w : Run) → x ≡ v → y ≡ w → Pair p stepped n v w → Pair p stepped n x y
      pair_as n x y v w first second both = subst (λ z. Pair p stepped n z y) (sym first) (subst (Pair p stepped n v) (sym second) both)

      stays_over : (start : Start) (n : ℕ) (r : Run) → IsOver r → run f k start n ≡ r → run f k start (suc n) ≡ r
      stays_over start n r over is =
          let up : 1 + n ≡ suc n = omega arith in subst (λ j. run f k start j ≡ r) up (over_stays f k start n 1 r over is)

      pair_more : (n : ℕ) → n < count → Pair p stepped n (run f k s0 n) (run f k s1 n) → Pair p stepped (suc n) (run f k s0 (suc n)) (run f k s1 (suc n))
      unfolding run
      pair_more n less (is_going t c d first second twins) =
          let choice = byte_in choices n in
          pair_as (suc n) (run f k s0 (suc n)) (run f k s1 (suc n)) (after_step k t n c.state.pc (frame_step f entry c choice))
          (after_step k t n c.state.pc (frame_step f entry d choice))
          (ap (one_more f k s0) first)
          (ap (one_more f k s1) second ∙ ap (λ a. after_step k t n a (frame_step f entry d choice)) (sym (same_pc t n c.state.pc c d twins)))
          (after_both t n c.state.pc (frame_step f entry c choice) (frame_step f entry d choice)
          (frame_both p stepped own lawful memory entry c d.state d.stack twins.at twins.is_state choice) (row_lands entry c choice))
      pair_more n less (is_calling t c d first second twins some) =
          pair_as (suc n) (run f k s0 (suc n)) (run f k s1 (suc n)) (after_step k t n c.state.pc (first_step n c))
          (after_step k t n c.state.pc (second_step n d))
          (ap (one_more f k s0) first)
          (ap (one_more f k s1) second ∙ ap (λ a. after_step k t n a (second_step n d)) (sym (same_pc t n c.state.pc c d twins)))
          (contract_next t n c.state.pc (first_step n c) (second_step n d) (steps_both n t c d less first twins))
      pair_more n less (has_ended r over first second) = has_ended r over (stays_over s0 n r over first) (stays_over s1 n r over second)

      pair : (n : ℕ) → n ≤ count → Pair p stepped n (run f k s0 n) (run f k s1 n)
      pair zero le =
          is_going 0 begun begun (begins calls) (begins made) (record {
            at = record { seen = record { rest = refl; mem = λ a low. refl }; stack_is = refl; is_state = is_entry; kept = kept };
            is_state = is_entry;
          })
      pair (suc n) le = pair_more n (omega (arith, le)) (pair n (omega (arith, le)))

      over_alike : (r : Run) → IsOver r → AreAlike r r
      over_alike (Exited at n) over = refl
      over_alike (Failed e at n) over = refl
      over_alike (Turned at n) over = refl
      over_alike (Cut at n) over = refl
      over_alike (Broken line at n) over = refl
      over_alike (Going t n c) over = absurd over
      over_alike (Arriving t n c) over = absurd over
      over_alike (Calling t n c) over = absurd over

      alike_as : (x y v w : Run) → x ≡ v → y ≡ w → AreAlike v w → AreAlike x y
      alike_as x y v w first second both = subst (λ z. AreAlike z y) (sym first) (subst (AreAlike v) (sym second) both)

      alike_of : (n : ℕ) (x y : Run) → Pair p stepped n x y → AreAlike x y
      alike_of n x y (is_going t c d first second twins) =
          alike_as x y (Going t n c) (Going t n d) first second (refl, refl, (twins.at.seen, twins.at.stack_is))
      alike_of n x y (is_calling t c d first second twins some) =
          alike_as x y (Calling t n c) (Calling t n d) first second (refl, refl, (twins.at.seen, twins.at.stack_is))
      alike_of n x y (has_ended r over first second) = alike_as x y r r first second (over_alike r over)

      -- ---- what is made

      quiet_second : (n t : ℕ) (c d : Place) → n < count → run f k s0 n ≡ Calling t n c → AreTwins p c d → HasNoEvent f s0 n c → HasNoEvent f s1 n d
      quiet_second n t c d less is twins quiet e halts = elim (steps_both n t c d less is twins) [
        | inl both ↦ quiet e (both.first ∙ sym both.second ∙ halts)
        | inr back ↦ (let no : GoesTo back.d ≡ Halts e = sym back.second ∙ halts in absurd (cc))
      ]

      quiet_first : (n t : ℕ) (c d : Place) → n < count → run f k s0 n ≡ Calling t n c → AreTwins p c d → HasNoEvent f s1 n d → HasNoEvent f s0 n c
      quiet_first n t c d less is twins quiet e halts = elim (steps_both n t c d less is twins) [
        | inl both ↦ quiet e (both.second ∙ sym both.first ∙ halts)
        | inr back ↦ (let no : GoesTo back.c ≡ Halts e = sym back.first ∙ halts in absurd (cc))
      ]

      covers_there : (c d : Place) (w : WrittenCall) (x : Contract) → AreTwins p c d → contract_at stepped c.state.pc ≡ Some x →
          All (λ b. covers E x.writes d.state b.0 ≡ true) (covered f c w).bytes
      covers_there c d w x twins found =
          All-weaker (λ (b : ℕ × ℕ). may_write f c b.0 ≡ true) (λ (b : ℕ × ℕ). covers E x.writes d.state b.0 ≡ true)
          (λ b may. ap (list_any (nat_eq b.0)) (sym (written_same p stepped own entry c.state d.state twins.at.seen x.writes))
          ∙ sym (ap (λ o. may_write_by o f c b.0) found) ∙ may)
          (covered f c w).bytes (all_passed (may_write f c) w.bytes)

      made_at : (n t : ℕ) (c d : Place) (less : n < count) (first : run f k s0 n ≡ Calling t n c) → run f k s1 n ≡ Calling t n d → AreTwins p c d →
          is_some (contract_at stepped c.state.pc) ≡ true → (quiet : HasNoEvent f s0 n c) → IsMade f k s1 (covered f c (given_at n t c less first quiet).w)
      made_at n t c d less first second twins some quiet =
          let g = given_at n t c less first quiet in
          let x = some_of (contract_at stepped c.state.pc) some in
          let pc = same_pc t n c.state.pc c d twins in record {
            steps = n;
            turns = t;
            place = d;
            contract = x.0;
            comes = second ∙ ap (λ m. Calling t m d) (sym g.step);
            stepped = ap (contract_at stepped) (sym pc) ∙ x.1;
            passes = subst (λ m. HasNoEvent f s1 m d) (sym g.step) (quiet_second n t c d less first twins quiet);
            is = record { at = g.at ∙ pc; flags = g.flags x.0 x.1; bytes = covers_there c d g.w x.0 twins x.1 };
          }

      no_item : (w : WrittenCall) (l : List WrittenCall) → l ≡ [] → l ≡ w ∷ [] → ⊥
      no_item w l none one = let no : [] ≡ w ∷ [] = sym none ∙ one in cc

      made_by : (n : ℕ) (w : WrittenCall) → n < count → shown_at f s0 calls n (run f k s0 n) ≡ w ∷ [] → Pair p stepped n (run f k s0 n) (run f k s1 n) →
          IsMade f k s1 w
      made_by n w less is (is_going t c d first second twins) =
          absurd (no_item w (shown_at f s0 calls n (run f k s0 n)) (ap (shown_at f s0 calls n) first) is)
      made_by n w less is (has_ended r over first second) =
          absurd (no_item w (shown_at f s0 calls n (run f k s0 n)) (ap (shown_at f s0 calls n) first ∙ over_shown f s0 calls n r over) is)
      made_by n w less is (is_calling t c d first second twins some) =
          let quiet : HasNoEvent f s0 n c =
          shown_quiet f s0 calls c (first_step n c) (block_at calls n) w (sym (ap (shown_at f s0 calls n) first) ∙ is) in
          let one : covered f c (given_at n t c less first quiet).w ∷ [] ≡ w ∷ [] = sym (given_at n t c less first quiet).shown ∙ is in
          let same : covered f c (given_at n t c less first quiet).w ≡ w = cc in
          subst (IsMade f k s1) same (made_at n t c d less first second twins some quiet)

      each : All (IsMade f k s1) made
      each =
          all_shown f s0 calls k (IsMade f k s1) count
          (λ n c w less block is. made_by n (covered f c w) less is (pair n (omega (arith, less))))

      -- the run with what is shown ends where the other one does
      ends_at : (n : ℕ) (x y : Run) → IsOver x → Pair p stepped n x y → IsOver y
      ends_at n x y over (is_going t c d first second twins) = absurd (subst IsOver first over)
      ends_at n x y over (is_calling t c d first second twins some) = absurd (subst IsOver first over)
      ends_at n x y over (has_ended r ended first second) = subst IsOver (sym second) ended

      before_end : (n steps t m : ℕ) (c : Place) → IsOver (run f k s1 n) → run f k s1 steps ≡ Calling t m c → steps < n
      before_end n steps t m c over is = elim (cases_lt steps n) [
        | inl less ↦ less
        | inr from ↦ (let place : (steps - n) + n ≡ steps = omega (arith, from) in
            let stays = over_stays f k s1 n (steps - n) (run f k s1 n) over refl in
            absurd (subst IsOver (sym stays ∙ ap (run f k s1) place ∙ is) over))
      ]

      listed_by : (steps t m : ℕ) (c : Place) → steps < count → run f k s1 steps ≡ Calling t m c → HasNoEvent f s1 m c →
          Pair p stepped steps (run f k s0 steps) (run f k s1 steps) → (call : WrittenCall) × Contains made call × (call.step ≡ m)
      listed_by steps t m c less is quiet (is_going u b d first second twins) =
          absurd (let no : Going u steps d ≡ Calling t m c = sym second ∙ is in cc)
      listed_by steps t m c less is quiet (has_ended r over first second) =
          absurd (subst IsOver (sym second ∙ is) over)
      listed_by steps t m c less is quiet (is_calling u b d first second twins some) =
          let one : Calling u steps d ≡ Calling t m c = sym second ∙ is in
          let number : steps ≡ m = cc in
          let place : d ≡ c = cc in
          let there = quiet_first steps u b d less first twins
          (subst (λ z. HasNoEvent f s1 steps z) (sym place) (subst (λ z. HasNoEvent f s1 z c) (sym number) quiet)) in
          let g = given_at steps u b less first there in
          (covered f b g.w, shown_listed f s0 calls k count steps (covered f b g.w) less g.shown, g.step ∙ number)

      whole : (n : ℕ) → n ≤ count → IsOver (run f k s0 n) → AreMade f k s1 made
      whole n le over = record {
        each = each;
        whole = λ steps t m c is quiet.
            (let less = before_end n steps t m c (ends_at n (run f k s0 n) (run f k s1 n) over (pair n le)) is in
            listed_by steps t m c (omega (arith, less, le)) is quiet (pair steps (omega (arith, less, le))));
      }

      shown_of : IsShownOf f k starts calls count made
      shown_of = record { is = refl; alike = λ n le. alike_of n (run f k s0 n) (run f k s1 n) (pair n le); each = each; whole = whole }

      pub is_shown : (list : List WrittenCall) → list ≡ made → IsShownOf f k starts calls count list
      is_shown list is = subst (IsShownOf f k starts calls count) (sym is) shown_of
