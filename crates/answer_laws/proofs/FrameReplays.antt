-- The text of a right report over frames is replayed.
use Rattle.std.proofs.Common.{◌≡◌, ◌≢◌, ℕ, zero, suc, ◌+◌, ◌-◌, ◌*◌, ◌<◌, ◌≤◌, ◌^◌, refl, ap, sym, ◌∙◌, subst, arith, Bool, true, false, List, [], ◌∷◌, ◌++◌, Option, Some, None, length, map}
use Rattle.std.specs.Prelude.{◌==◌, nat_eq, nat_lt, codes, reverse, Contains, All, filter, get_or, is_some, slice_get, take, if◌then◌else◌}
use Rattle.std.specs.List.{AllZip, list_any}
use Rattle.std.proofs.lemmas.Bool.Decides.{nat_tests}
use Rattle.std.proofs.lemmas.List.{length-reverse, get_or-reverse}
use Rattle.word_spec.specs.Words.{bit_at, word}
use Rattle.word_spec.specs.Texts.{line, lines, joined}
use Rattle.word_spec.specs.RowFiles.{from_to}
use Rattle.word_spec.specs.State.{Written}
use Rattle.machine_spec.specs.Machine.{IsAtPlace}
use Rattle.machine_spec.specs.StateText.{Layout, IsWritten, AreRising, last_step, start_of, rv_layout, arm_layout}
use Rattle.bilv_spec.specs.Files.{layout_of, is_rv}
use Rattle.bilv_spec.specs.Elf.{file_endian}
use Rattle.bilv_spec.specs.Points.{is_known_at}
use Rattle.bilv_spec.specs.PointLaws.{HasLawfulRows, ReadsMemory, IsReturnAddress}
use Rattle.bilv_spec.specs.Answers.{known_byte}
use Rattle.call_spec.specs.Calls.{Options, Budget, plain_answer}
use Rattle.clause_spec.specs.Checks.{text_limit}
use Rattle.frame_spec.specs.Frames.{Contract, Frame, FrameEvent, contract_at}
use Rattle.frame_spec.specs.FrameRuns.{Start, Run, Failed, Turned, run}
use Rattle.frame_spec.specs.FramePoints.{AtHead, Point, IsAnchor, ArePoints, first_of}
use Rattle.frame_spec.specs.FramePoints as points
use Rattle.frame_spec.specs.FrameLaws.{HasPlaces}
use Rattle.frame_spec.specs.FrameVerdict.{Whole, IsOrigin, IsStart, contract_frame, entry_frame, frame_by, frame_of}
use Rattle.frame_spec.specs.FrameReports.{WrittenHead, WrittenCall, Shown, IsWithin, IsShown, IsMade, IsWrittenCall, Report, HoldsReport, PartialReport, VacuousReport, NamedReport, NotInductiveReport, UnprovedReport, PointsReport, SizeReport, ConflictsReport, ByEvent, ByTurn, Evidence, PassedBy, Frames, ShownBy, SpentOn, Count, EndsAs, IsRightReport, head_of, choices_of, gifts, last_rank, registers_of, shown_start}
use Rattle.frame_spec.proofs.Stacks.{AreAll, anchor_words}
use Rattle.frame_spec.proofs.SegmentsMeet.{stack_places}
use Rattle.frame_laws.specs.SegmentEnds.{step_of}
use Rattle.frame_laws.proofs.FewSteps.{steps_are_few, wholes_are_few}
use Rattle.frame_laws.proofs.FrameGraph as graphs
use Rattle.frame_texts_spec.specs.FrameTexts.{FramedEnding, FramedFails, FramedTurns, NotInductiveBy, IsFramedEnding, IsHeadPart, framed_printed, ending_words}
use Rattle.frame_texts_spec.specs.FrameReplays.{TellsReturns}
use Rattle.frame_texts_spec.specs.CallTexts.{FrameName, EntryFrame, ContractFrame, CallEnding, Plain, UnprovedBy, UnprovedTurns, CallText, Changes, IsFrameName, IsCallEnding, IsCallText, IsBlock, but_last, call_ending_words, call_printed, call_text_of, flags_by, frame_name}
use Rattle.frame_texts_spec.specs.CallTextLaws.{HasContracts, HasTurns, IsCallReadBackIn}
use Rattle.frame_texts_spec.specs.CallReplays.{call_checks, call_replay_answer, call_run_answer, call_sized_answer, call_told_answer, changes_by, changes_of, frame_named, rank_named, report_of}
use Rattle.frame_texts_spec.proofs.CallsBack.{before_end, but_last_is, parts_end, printed_blocks_are_read_back}
use Rattle.frame_texts_spec.proofs.ProgramBlocks.{changes_are_of_layout}
use Rattle.frame_texts_spec.proofs.Replaying.{frame_reports_replay}
use Rattle.answer_spec.specs.FrameAnswers.{IsFrameFound, frame_report_text, name_by, name_of}
use Rattle.answer_spec.proofs.CallReplays.{no_head}
use Rattle.answer_spec.proofs.FrameNames.{frames_are_named, is_there}
use Rattle.answer_spec.proofs.Wholes.{wholes_are_fitted}
use Rattle.answer_laws.specs.FrameReplayed.{ending_of_report, FrameReportReplays}
use Rattle.answer_laws.specs.Replayed.{AreBytes, IsReplayable}
use Rattle.answer_laws.proofs.OfMachine.{wholes_are_of_machine}
use Rattle.answer_laws.proofs.FramedEnds.{IsFew, HasFewGiven, IsFineEnd, ends_fine, stands_low}
use Rattle.answer_laws.proofs.FoundFrames.{rows_of, reads_of, places_of, lines_of_whole, lines_of_contracts}
use Rattle.answer_laws.proofs.NoteLines.{HaveFewLines}

-- ---- lists

all_at : (P : ℕ → Type 0) (xs : List ℕ) (k d : ℕ) → AreAll P xs → k < length xs → P (get_or xs k d)
all_at P [] k d h l = absurd (omega (arith, l))
all_at P (x ∷ xs) zero d h l = h.0
all_at P (x ∷ xs) (suc k) d h l = all_at P xs k d h.1 (omega (arith, l))

of_reverse : (P : ℕ → Type 0) (xs : List ℕ) → AreAll P (reverse xs) → All P xs
of_reverse P xs h k d l =
    let count = length-reverse xs in
    let j = length xs - 1 - k in
    let back : length xs - 1 - j ≡ k = omega (arith, l) in
    let less : j < length xs = omega (arith, l) in
    subst P (get_or-reverse xs j d less ∙ ap (λ m. get_or xs m d) back) (all_at P (reverse xs) j d h (omega (arith, less, count)))

each : (P : ℕ → Type 0) (xs : List ℕ) → ((x : ℕ) → Contains xs x → P x) → AreAll P xs
each P [] h = tt
each P (x ∷ xs) h = (h x (0, omega arith, refl), each P xs (λ y c. h y (suc c.0, (let l = c.1 in omega (arith, l)), c.2)))

both : (P Q R : ℕ → Type 0) (xs : List ℕ) → ((x : ℕ) → P x → Q x → R x) → AreAll P xs → AreAll Q xs → AreAll R xs
both P Q R [] h a b = tt
both P Q R (x ∷ xs) h a b = (h x a.0 b.0, both P Q R xs h a.1 b.1)

-- what stands at the place of one of numbers that rise by one
zip_at : (P : ℕ → ℕ → Type 0) (start count : ℕ) (ys : List ℕ) (i : ℕ) → AllZip P (from_to start count) ys → i < count → (y : ℕ) × P (start + i) y
zip_at P start zero ys i h l = absurd (omega (arith, l))
zip_at P start (suc count) [] i h l = absurd h
zip_at P start (suc count) (y ∷ ys) zero h l = (y, subst (λ n. P n y) (let e : start ≡ start + 0 = omega arith in e) h.0)
zip_at P start (suc count) (y ∷ ys) (suc i) h l =
    let later = zip_at P (start + 1) count ys i h.1 (omega (arith, l)) in
    (later.0, subst (λ n. P n later.0) (let e : start + 1 + i ≡ start + suc i = omega arith in e) later.1)

-- ---- sets of flags

nothing_more : (p n : ℕ) → n ≡ 0 * p + n
nothing_more p n = omega arith

-- the flags that a test leaves out are not in the set
kept_bits : (test : ℕ → Bool) (set : ℕ) (flags : List ℕ) → ((f : ℕ) → bit_at f set ≡ 1 → test f ≡ true) →
    flags_by (filter test flags) (map (λ f. bit_at f set) (filter test flags)) ≡ flags_by flags (map (λ f. bit_at f set) flags)
kept_bits test set [] among = refl
kept_bits test set (f ∷ flags) among = by (test f) refl (kept_bits test set flags among)
  where
    none : test f ≡ false → bit_at f set ≡ 0
    none is = zero_bit (bit_at f set) (omega arith) (λ one. (let z : true ≡ false = sym (among f one) ∙ is in let no : ⊥ = cc in no))
      where
        zero_bit : (b : ℕ) → b < 2 → (b ≡ 1 → ⊥) → b ≡ 0
        zero_bit zero low other = refl
        zero_bit (suc zero) low other = absurd (other refl)
        zero_bit (suc (suc b)) low other = absurd (omega (arith, low))

    by : (t : Bool) → test f ≡ t →
        flags_by (filter test flags) (map (λ g. bit_at g set) (filter test flags)) ≡ flags_by flags (map (λ g. bit_at g set) flags) →
        flags_by (if t then f ∷ filter test flags else filter test flags) (map (λ g. bit_at g set) (if t then f ∷ filter test flags else filter test flags))
        ≡ bit_at f set * 2 ^ f + flags_by flags (map (λ g. bit_at g set) flags)
    by true is rest = ap (λ z. bit_at f set * 2 ^ f + z) rest
    by false is rest =
        rest ∙ nothing_more (2 ^ f) (flags_by flags (map (λ g. bit_at g set) flags))
        ∙ sym (ap (λ z. z * 2 ^ f + flags_by flags (map (λ g. bit_at g set) flags)) (none is))

-- a set of four flags is the sum of its bits
four_bits : (set : ℕ) → set < 16 → flags_by (3 ∷ 2 ∷ 1 ∷ 0 ∷ []) (map (λ f. bit_at f set) (3 ∷ 2 ∷ 1 ∷ 0 ∷ [])) ≡ set
four_bits set low = omega (arith, low)

few_flags : (o : Options) (file : List ℕ) (set : ℕ) → set < 2 ^ length (layout_of o file).flags → set < 16
few_flags o file set = by (is_rv file)
  where
    by : (b : Bool) → set < 2 ^ length (if b then rv_layout o.compressed else arm_layout (file_endian file) o.profile).flags → set < 16
    by true l = omega (arith, l)
    by false l = l

-- ---- what is read back of the text of what is shown

-- the start before a head part is written without choices, which its segment does not read
abbrev cleared : Option WrittenHead → Written → Written
cleared None w = w
cleared (Some h) w = record w { choices = [] }

no_choices : (layout : Layout) (known : ℕ → Bool) (w : Written) → IsWritten layout known w → IsWritten layout known (record w { choices = [] })
no_choices layout known w h = record {
  count = h.count;
  words = h.words;
  flags = h.flags;
  bytes = h.bytes;
  bytes_rise = h.bytes_rise;
  unknown = h.unknown;
  choices = λ k d l. absurd (omega (arith, l));
  choices_rise = none;
}
  where
    none : AreRising []
    none i j d less l = absurd (omega (arith, l))

cleared_written : (layout : Layout) (known : ℕ → Bool) (o : Option WrittenHead) (w : Written) → IsWritten layout known w →
    IsWritten layout known (cleared o w)
cleared_written layout known None w h = h
cleared_written layout known (Some part) w h = no_choices layout known w h

abbrev text_of : CallEnding → Shown → CallText
text_of n s = record { named = n; start = cleared s.head s.start; head = s.head; calls = s.calls }

-- a text without blocks, as one that may have them
as_called : (layout : Layout) (changes : ℕ → Option Changes) (n : FramedEnding) (w : Written) (o : Option WrittenHead) →
    framed_printed layout (record { named = n; start = w; head = o })
    ≡ call_printed layout changes (record { named = Plain n; start = w; head = o; calls = [] })
unfolding framed_printed call_printed
as_called layout changes n w o =
    let ends = parts_end layout w o in
    ap (λ (ls : List (List ℕ)). lines (joined (ending_words n) ∷ ls))
    (ends ∙ sym (ap (λ (ls : List (List ℕ)). but_last ls ++ codes "end" ∷ []) ends
    ∙ ap (λ (ls : List (List ℕ)). ls ++ codes "end" ∷ []) (but_last_is (before_end layout w o) (codes "end"))))

same_framed : (layout : Layout) (n : FramedEnding) (w : Written) (o : Option WrittenHead) →
    framed_printed layout (record { named = n; start = w; head = o }) ≡ framed_printed layout (record { named = n; start = cleared o w; head = o })
unfolding framed_printed
same_framed layout n w None = refl
same_framed layout n w (Some h) = refl

framed_text : (layout : Layout) (changes : ℕ → Option Changes) (n : FramedEnding) (s : Shown) → s.calls ≡ [] →
    framed_printed layout (record { named = n; start = s.start; head = s.head }) ≡ call_printed layout changes (text_of (Plain n) s)
framed_text layout changes n s none =
    same_framed layout n s.start s.head ∙ as_called layout changes n (cleared s.head s.start) s.head
    ∙ sym (ap (λ (calls : List WrittenCall). call_printed layout changes (record { named = Plain n; start = cleared s.head s.start; head = s.head; calls = calls })) none)

called_text : (layout : Layout) (changes : ℕ → Option Changes) (n : CallEnding) (s : Shown) → s.head ≡ None →
    call_printed layout changes (record { named = n; start = s.start; head = s.head; calls = s.calls }) ≡ call_printed layout changes (text_of n s)
called_text layout changes n s none =
    ap (λ (w : Written). call_printed layout changes (record { named = n; start = w; head = s.head; calls = s.calls }))
    (sym (ap (λ (o : Option WrittenHead). cleared o s.start) none))

same_state : (layout : Layout) (entry : ℕ) (known : ℕ → Option ℕ) (o : Option WrittenHead) (w : Written) →
    (start_of layout entry known (cleared o w)).state ≡ (start_of layout entry known w).state
same_state layout entry known None w = refl
same_state layout entry known (Some h) w = refl

same_choices : (o : Option WrittenHead) (w : Written) → choices_of (cleared o w) o ≡ choices_of w o
same_choices None w = refl
same_choices (Some h) w = refl

-- the start that is read back is the one that is shown
read_start : (w : Whole) (f : Frame) (layout : Layout) (s : Shown) →
    shown_start w f layout (record { start = cleared s.head s.start; head = s.head; calls = s.calls }) ≡ shown_start w f layout s
read_start w f layout s = λ i. record {
  state = same_state layout f.program.entry (λ a. known_byte f.program (word 32 a)) s.head s.start i;
  head = head_of f layout s.head;
  choices = same_choices s.head s.start i;
  given = gifts (registers_of w) s.calls;
}

-- ---- frames by their ranks

no_more : {A : Type 0} (xs : List A) → slice_get xs (length xs) ≡ None
no_more [] = refl
no_more (x ∷ xs) = no_more xs

named_is : (w : Whole) (name : FrameName) → frame_of w (rank_named w name) ≡ frame_named w name
named_is w EntryFrame = ap (frame_by w (last_rank w)) (no_more w.contracts)
named_is w (ContractFrame a) = refl

by_rank : (w : Whole) (P : Frame → Type 0) → P (entry_frame w) →
    ((rank : ℕ) (x : Contract) → slice_get w.contracts rank ≡ Some x → P (contract_frame w rank x)) → (rank : ℕ) → P (frame_of w rank)
by_rank w P entry of_contract rank = by (slice_get w.contracts rank) refl
  where
    by : (o : Option Contract) → slice_get w.contracts rank ≡ o → P (frame_by w rank o)
    by None is = entry
    by (Some x) is = of_contract rank x is

few_first : (n : ℕ) (contracts : List Contract) → HaveFewLines contracts → HaveFewLines (take n contracts)
few_first zero contracts few = tt
few_first (suc n) [] few = tt
few_first (suc n) (x ∷ rest) few = (few.0, few_first n rest few.1)

few_one : (contracts : List Contract) (rank : ℕ) (x : Contract) → HaveFewLines contracts → slice_get contracts rank ≡ Some x → HasFewGiven (Some x)
few_one [] rank x few is = absurd (let no : ⊥ = cc in no)
few_one (y ∷ rest) zero x few is = let same : y ≡ x = cc in subst (λ (z : Contract). HasFewGiven (Some z)) same few.0
few_one (y ∷ rest) (suc rank) x few is = few_one rest rank x few.1 is

-- what is found among the first contracts is found among all
first_by : (y : Contract) (n : ℕ) (rest : List Contract) (a : ℕ) (x : Contract) (b : Bool) →
    (contract_at (take n rest) a ≡ Some x → contract_at rest a ≡ Some x) →
    (if b then Some y else contract_at (take n rest) a) ≡ Some x → (if b then Some y else contract_at rest a) ≡ Some x
first_by y n rest a x true h e = e
first_by y n rest a x false h e = h e

first_found : (n : ℕ) (l : List Contract) (a : ℕ) (x : Contract) → contract_at (take n l) a ≡ Some x → contract_at l a ≡ Some x
first_found zero l a x e = absurd (let no : ⊥ = cc in no)
first_found (suc n) [] a x e = absurd (let no : ⊥ = cc in no)
first_found (suc n) (y ∷ rest) a x e = first_by y n rest a x (y.at == a) (first_found n rest a x) e

at_most : (a b : ℕ) → (b < a → ⊥) → a ≤ b
at_most a b h = by (nat_lt b a) refl
  where
    by : (t : Bool) → nat_lt b a ≡ t → a ≤ b
    by true e = absurd (h (grind (arith, nat_tests)))
    by false e = grind (arith, nat_tests)

-- what is known of a frame of two files
record IsKnown (w : Whole) (f : Frame) : Type 0 where
  lawful : HasLawfulRows f.program
  memory : ReadsMemory f.program
  places : HasPlaces f.program
  few : IsFew f
  among : (a : ℕ) (x : Contract) → contract_at f.stepped a ≡ Some x → contract_at w.contracts a ≡ Some x

module _ (o : Options) (file text : List ℕ) (w : Whole) (bytes : AreBytes file) (found : IsFrameFound o file text w) (b : Budget) (small : IsReplayable b) where
  abbrev layout : Layout
  layout = layout_of o file

  known : (rank : ℕ) → IsKnown w (frame_of w rank)
  known = by_rank w (IsKnown w)
      (record {
        lawful = rows_of o file text w bytes found;
        memory = reads_of o file text w bytes found;
        places = places_of o file text w bytes found;
        few = record { lines = lines_of_whole o file text w found; own = tt; stepped = lines_of_contracts o file text w found };
        among = λ a x h. h;
      })
      (λ rank x is.
      let memory = reads_of o file text w bytes found in
      record {
        lawful = rows_of o file text w bytes found;
        memory = record { word = memory.word; little = memory.little };
        places = record {
          entry = ((wholes_are_fitted o file text w found).2 rank x is).place;
          lengths = (places_of o file text w bytes found).lengths;
        };
        few = record {
          lines = record { asserts = (lines_of_whole o file text w found).asserts; ensures = tt };
          own = few_one w.contracts rank x (lines_of_contracts o file text w found) is;
          stepped = few_first rank w.contracts (lines_of_contracts o file text w found);
        };
        among = λ a y h. first_found rank w.contracts a y h;
      })

  written : HasContracts layout w
  written = (wholes_are_of_machine o file text w found).written

  module _ (within : IsWithin w b) (rank : ℕ) (low : rank ≤ last_rank w) where
    abbrev f : Frame
    f = frame_of w rank

    -- its points are at most as many as those of all frames
    listed : (list : List Point) × ArePoints f b.unroll list
    listed =
        let priced = zip_at (λ r n. points.IsPrice (frame_of w r) b.unroll n) 0 (length w.contracts + 1) within.is_price.0 rank within.is_price.1
        (omega (arith, low)) in
        let is : points.IsPrice (frame_of w rank) b.unroll priced.0 =
        subst (λ r. points.IsPrice (frame_of w r) b.unroll priced.0) (let e : 0 + rank ≡ rank = omega arith in e) priced.1 in
        (is.0, is.3)

    few_points : length listed.0 ≤ b.points
    few_points =
        at_most (length listed.0) b.points
        (λ more. wholes_are_few w b.unroll b.points rank low within.points (listed.0, more, listed.1.only, listed.1.once))

    module _ (s : Shown) (is : IsStart f b.unroll (shown_start w f layout s)) where
      abbrev start : Start
      start = shown_start w f layout s

      last : (r : Run) (n : ℕ) → run f b.unroll start n ≡ r → step_of r ≤ last_step
      last r n e =
          let k = known rank in
          let l = steps_are_few f k.lawful k.memory k.places b.unroll start is.entry is.origin is.given listed.0 listed.1 n in
          let m : step_of r < length listed.0 = subst (λ x. step_of x < length listed.0) e l in
          let c = few_points in let d = small.1 in omega (arith, m, c, d)

      fine : (r : Run) (n : ℕ) → run f b.unroll start n ≡ r → IsFineEnd r
      fine r n e =
          let k = known rank in subst IsFineEnd e (ends_fine f k.lawful k.memory k.few b.unroll start is.entry is.origin is.given n)

      fails_named : (e : FrameEvent) (at j n : ℕ) → run f b.unroll start n ≡ Failed e at j → IsFramedEnding (FramedFails e at j)
      fails_named e at j n h = let x = fine (Failed e at j) n h in (x.0, x.1, last (Failed e at j) n h)

      turns_named : (at j n : ℕ) → run f b.unroll start n ≡ Turned at j → IsFramedEnding (FramedTurns b.unroll at j)
      turns_named at j n h = (small.0, fine (Turned at j) n h, last (Turned at j) n h)

      -- a block is one of a contract, which may change what it has
      block : (returns : ℕ → Bool) (c : WrittenCall) → IsWrittenCall w layout c → IsMade f b.unroll start c → IsBlock layout (call_checks w returns) c
      block returns c is_written made =
          let k = known rank in
          let x = made.contract in
          let there : contract_at w.contracts c.at ≡ Some x =
          subst (λ a. contract_at w.contracts a ≡ Some x) (sym made.is.at) (k.among made.place.state.pc x made.stepped) in
          let test = λ (g : ℕ). list_any (nat_eq g) x.flags in
          let contract : Changes = record { registers = registers_of w c.at; flags = filter test (3 ∷ 2 ∷ 1 ∷ 0 ∷ []) } in
          let is_contract : changes_of w c.at ≡ Some contract = ap (changes_by w c.at) there in
          record {
            step = is_written.step;
            at = subst (λ a. a < 2 ^ 32) (sym made.is.at)
                (stands_low f k.lawful k.memory k.few b.unroll start is.entry is.origin is.given made.steps made.turns c.step made.place made.comes);
            contract = contract;
            is_contract = is_contract;
            has = changes_are_of_layout layout w returns written c.at contract is_contract;
            count = is_written.count;
            words = is_written.words;
            flags = kept_bits test c.flags (3 ∷ 2 ∷ 1 ∷ 0 ∷ []) (λ g one. made.is.flags g one) ∙ four_bits c.flags (few_flags o file c.flags is_written.flags);
            bytes = is_written.bytes;
            bytes_rise = is_written.bytes_rise;
          }

  -- ---- the answer

  module _ (returns : ℕ → Bool) (tells : w.invariants ≢ [] → TellsReturns w.program returns) where
    -- the stack of an anchor of the entry's frame is of return addresses
    stack_told : TellsReturns w.program returns → (stack : List ℕ) (at : ℕ) → IsAnchor (entry_frame w) b.unroll (AtHead (reverse stack) at) →
        All (λ r. (r < 2 ^ 32) × (returns r ≡ true)) stack
    stack_told told stack at anchor =
        let e = entry_frame w in
        let first = first_of w.program.entry (AtHead (reverse stack) at) in
        let behind = (graphs.of_point e b.unroll first anchor).1 in
        let placed = stack_places e b.unroll (places_of o file text w bytes found) first anchor in
        let back = each (λ r. IsAtPlace w.program.machine.narrow r → IsReturnAddress w.program r) (reverse stack) behind in
        of_reverse (λ r. (r < 2 ^ 32) × (returns r ≡ true)) stack
        (both (λ r. r < 2 ^ 32) (λ r. returns r ≡ true) (λ r. (r < 2 ^ 32) × (returns r ≡ true)) (reverse stack) (λ r x y. (x, y))
        (anchor_words e b.unroll (reverse stack) at anchor)
        (both (λ r. IsAtPlace w.program.machine.narrow r → IsReturnAddress w.program r) (IsAtPlace w.program.machine.narrow) (λ r. returns r ≡ true)
        (reverse stack) (λ r x y. (told r).1 (x y)) back placed))

    head_part : (s : Shown) → IsShown w (entry_frame w) layout s → (o : Option WrittenHead) → s.head ≡ o →
        IsOrigin (entry_frame w) b.unroll (shown_start w (entry_frame w) layout s).state (head_of (entry_frame w) layout o) →
        IsHeadPart layout ((call_checks w returns).frames EntryFrame) (cleared o s.start) o
    head_part s shown None e origin = tt
    head_part s shown (Some h) e origin =
        let some : w.invariants ≢ [] =
        λ none. (let z : true ≡ false = sym origin.1.head ∙ no_head (entry_frame w) h.at none in let no : ⊥ = cc in no) in
        record {
          no_choices = refl;
          at = origin.1.state.pc;
          head = origin.1.head;
          stack = stack_told (tells some) h.stack h.at origin.0;
          start = shown.head h e;
        }

    -- a text that is not too long, of a right report that names an ending
    text_replays : (n : CallEnding) (s : Shown) → IsCallText layout (call_checks w returns) (text_of n s) → HasTurns b.unroll n →
        IsRightReport w layout b (report_of w n) (ShownBy s) → (printed : List ℕ) → printed ≡ call_printed layout (changes_of w) (text_of n s) →
        length printed ≤ text_limit → call_replay_answer w returns layout printed ≡ plain_answer 0 (line (codes "replayed " ++ joined (call_ending_words n)))
    text_replays n s is turns right printed same room =
        let f = frame_named w (frame_name n) in
        let short : nat_lt text_limit (length printed) ≡ false = grind (arith, nat_tests) in
        ap (λ t. call_sized_answer t w returns layout printed) short
        ∙ ap (call_told_answer w layout) (ap (call_text_of layout (call_checks w returns)) same ∙ back (is_rv file) (call_checks w returns) (text_of n s) is)
        ∙ ap (λ (x : Start). call_run_answer f n x s.calls) (read_start w f layout s)
        ∙ frame_reports_replay w layout b n s turns right
      where
        back : (v : Bool) → IsCallReadBackIn (if v then rv_layout o.compressed else arm_layout (file_endian file) o.profile)
        back true = printed_blocks_are_read_back.0 o.compressed
        back false = printed_blocks_are_read_back.1 (file_endian file) o.profile

    abbrev IsReplayed : Report → Evidence → CallEnding → Type 0
    IsReplayed r e n =
        length (frame_report_text w layout b r e) ≤ text_limit →
        call_replay_answer w returns layout (frame_report_text w layout b r e) ≡ plain_answer 0 (line (codes "replayed " ++ joined (call_ending_words n)))

    -- an ending of a segment of the entry's frame, without contract steps
    plain_text : (n : FramedEnding) (s : Shown) → IsFramedEnding n → s.calls ≡ [] → IsShown w (entry_frame w) layout s →
        IsStart (entry_frame w) b.unroll (shown_start w (entry_frame w) layout s) → IsCallText layout (call_checks w returns) (text_of (Plain n) s)
    plain_text n s named none shown is = record {
      named = named;
      start = cleared_written layout (is_known_at w.program) s.head s.start shown.entry;
      head = head_part s shown s.head refl is.origin;
      calls = subst (All (IsBlock layout (call_checks w returns))) (sym none) (λ k d l. absurd (omega (arith, l)));
      calls_rise = shown.calls_rise;
    }

    entry_low : last_rank w ≤ last_rank w
    entry_low = omega arith

    entry_is : frame_of w (last_rank w) ≡ entry_frame w
    entry_is = named_is w EntryFrame

    plain_fails : IsWithin w b → (e : FrameEvent) (at j : ℕ) (s : Shown) → IsStart (entry_frame w) b.unroll (shown_start w (entry_frame w) layout s) →
        EndsAs (entry_frame w) b.unroll (shown_start w (entry_frame w) layout s) (ByEvent e at j) → IsFramedEnding (FramedFails e at j)
    plain_fails within e at j s is ends =
        let start = subst (λ (g : Frame). IsStart g b.unroll (shown_start w g layout s)) (sym entry_is) is in
        let end = subst (λ (g : Frame). EndsAs g b.unroll (shown_start w g layout s) (ByEvent e at j)) (sym entry_is) ends in
        fails_named within (last_rank w) entry_low s start e at j end.0 end.1

    plain_turns : IsWithin w b → (at j : ℕ) (s : Shown) → IsStart (entry_frame w) b.unroll (shown_start w (entry_frame w) layout s) →
        EndsAs (entry_frame w) b.unroll (shown_start w (entry_frame w) layout s) (ByTurn at j) → IsFramedEnding (FramedTurns b.unroll at j)
    plain_turns within at j s is ends =
        let start = subst (λ (g : Frame). IsStart g b.unroll (shown_start w g layout s)) (sym entry_is) is in
        let end = subst (λ (g : Frame). EndsAs g b.unroll (shown_start w g layout s) (ByTurn at j)) (sym entry_is) ends in
        turns_named within (last_rank w) entry_low s start at j end.0 end.1

    by_event : (e : FrameEvent) (at j : ℕ) (s : Shown) → IsRightReport w layout b (NamedReport (ByEvent e at j)) (ShownBy s) →
        IsReplayed (NamedReport (ByEvent e at j)) (ShownBy s) (Plain (FramedFails e at j))
    by_event e at j s right =
        let n = FramedFails e at j in
        text_replays (Plain n) s (plain_text n s (plain_fails right.0 e at j s right.4 right.5) right.2 right.3 right.4) tt right
        (frame_report_text w layout b (NamedReport (ByEvent e at j)) (ShownBy s)) (framed_text layout (changes_of w) n s right.2)

    by_turn : (at j : ℕ) (s : Shown) → IsRightReport w layout b (NamedReport (ByTurn at j)) (ShownBy s) →
        IsReplayed (NamedReport (ByTurn at j)) (ShownBy s) (Plain (FramedTurns b.unroll at j))
    by_turn at j s right =
        let n = FramedTurns b.unroll at j in
        text_replays (Plain n) s (plain_text n s (plain_turns right.0 at j s right.4 right.5) right.2 right.3 right.4) refl right
        (frame_report_text w layout b (NamedReport (ByTurn at j)) (ShownBy s)) (framed_text layout (changes_of w) n s right.2)

    by_step : (e : FrameEvent) (at j : ℕ) (s : Shown) → IsRightReport w layout b (NotInductiveReport e at j) (ShownBy s) →
        IsReplayed (NotInductiveReport e at j) (ShownBy s) (Plain (NotInductiveBy e at j))
    by_step e at j s right =
        let n = NotInductiveBy e at j in
        text_replays (Plain n) s (plain_text n s (plain_fails right.0 e at j s right.6 right.7) right.4 right.5 right.6) tt right
        (frame_report_text w layout b (NotInductiveReport e at j) (ShownBy s)) (framed_text layout (changes_of w) n s right.4)

    -- ---- frames that are not proved

    -- the name of a frame is one that can be written
    name_told : (rank : ℕ) (s : Shown) → IsStart (frame_of w rank) b.unroll (shown_start w (frame_of w rank) layout s) →
        IsFrameName (call_checks w returns) (name_of w rank)
    name_told rank s is = by (slice_get w.contracts rank) refl is
      where
        by : (c : Option Contract) → slice_get w.contracts rank ≡ c → IsStart (frame_by w rank c) b.unroll (shown_start w (frame_by w rank c) layout s) →
            IsFrameName (call_checks w returns) (name_by c)
        by None e begun = tt
        by (Some x) e begun = (
          subst (λ a. a < 2 ^ 32) begun.entry.pc begun.entry.state.pc,
          some_change (contract_at w.contracts x.at) (is_there w.contracts rank x e),
        )
          where
            some_change : (c : Option Contract) → is_some c ≡ true → is_some (changes_by w x.at c) ≡ true
            some_change None e = e
            some_change (Some y) e = refl

    module _ (rank : ℕ) (low : rank ≤ last_rank w) (within : IsWithin w b) (s : Shown) (none : s.head ≡ None) (shown : IsShown w (frame_of w rank) layout s)
        (is : IsStart (frame_of w rank) b.unroll (shown_start w (frame_of w rank) layout s))
        (made : All (IsMade (frame_of w rank) b.unroll (shown_start w (frame_of w rank) layout s)) s.calls) where
      abbrev name : FrameName
      name = name_of w rank

      named_rank : rank_named w name ≡ rank
      named_rank = frames_are_named o file text w found rank low

      named_frame : frame_of w rank ≡ frame_named w name
      named_frame = ap (frame_of w) (sym named_rank) ∙ named_is w name

      unproved_text : (n : CallEnding) → frame_name n ≡ name → IsCallEnding (call_checks w returns) n → IsCallText layout (call_checks w returns) (text_of n s)
      unproved_text n of_name named = record {
        named = named;
        start = cleared_written layout ((call_checks w returns).frames (frame_name n)).known s.head s.start
            (subst (λ (m : FrameName). IsWritten layout ((call_checks w returns).frames m).known s.start) (sym of_name)
            (subst (λ (g : Frame). IsWritten layout (is_known_at g.program) s.start) named_frame shown.entry));
        head = subst (λ (h : Option WrittenHead). IsHeadPart layout ((call_checks w returns).frames (frame_name n)) (cleared h s.start) h) (sym none) tt;
        calls = λ k d l. block within rank low s is returns (get_or s.calls k d) (shown.calls k d l) (made k d l);
        calls_rise = shown.calls_rise;
      }

    unproved_by : (rank : ℕ) (e : FrameEvent) (at j : ℕ) (s : Shown) → IsRightReport w layout b (UnprovedReport rank (ByEvent e at j)) (ShownBy s) →
        IsReplayed (UnprovedReport rank (ByEvent e at j)) (ShownBy s) (UnprovedBy (name_of w rank) e at j)
    unproved_by rank e at j s right =
        let n = UnprovedBy (name_of w rank) e at j in
        let ending = fails_named right.0 rank right.1 s right.5 e at j right.6.0 right.6.1 in
        let is = unproved_text rank right.1 right.0 s right.3 right.4 right.5 right.7.each n refl
        (name_told rank s right.5, ending.0, ending.1, ending.2) in
        text_replays n s is tt
        (subst (λ r. IsRightReport w layout b (UnprovedReport r (ByEvent e at j)) (ShownBy s)) (sym (frames_are_named o file text w found rank right.1)) right)
        (frame_report_text w layout b (UnprovedReport rank (ByEvent e at j)) (ShownBy s)) (called_text layout (changes_of w) n s right.3)

    unproved_turns : (rank at j : ℕ) (s : Shown) → IsRightReport w layout b (UnprovedReport rank (ByTurn at j)) (ShownBy s) →
        IsReplayed (UnprovedReport rank (ByTurn at j)) (ShownBy s) (UnprovedTurns (name_of w rank) b.unroll at j)
    unproved_turns rank at j s right =
        let n = UnprovedTurns (name_of w rank) b.unroll at j in
        let ending = turns_named right.0 rank right.1 s right.5 at j right.6.0 right.6.1 in
        let is = unproved_text rank right.1 right.0 s right.3 right.4 right.5 right.7.each n refl
        (name_told rank s right.5, ending.0, ending.1, ending.2) in
        text_replays n s is refl
        (subst (λ r. IsRightReport w layout b (UnprovedReport r (ByTurn at j)) (ShownBy s)) (sym (frames_are_named o file text w found rank right.1)) right)
        (frame_report_text w layout b (UnprovedReport rank (ByTurn at j)) (ShownBy s)) (called_text layout (changes_of w) n s right.3)

    -- ---- the report

    no_name : (n : CallEnding) → ◌≡◌ {A = Option CallEnding} None (Some n) → ⊥
    no_name n e = cc

    by_report : (r : Report) (e : Evidence) (n : CallEnding) → IsRightReport w layout b r e → ending_of_report w b r ≡ Some n → IsReplayed r e n
    by_report (NamedReport (ByEvent event at j)) (ShownBy s) n right name =
        subst (IsReplayed (NamedReport (ByEvent event at j)) (ShownBy s)) (let same : Plain (FramedFails event at j) ≡ n = cc in same)
        (by_event event at j s right)
    by_report (NamedReport (ByTurn at j)) (ShownBy s) n right name =
        subst (IsReplayed (NamedReport (ByTurn at j)) (ShownBy s)) (let same : Plain (FramedTurns b.unroll at j) ≡ n = cc in same) (by_turn at j s right)
    by_report (NotInductiveReport event at j) (ShownBy s) n right name =
        subst (IsReplayed (NotInductiveReport event at j) (ShownBy s)) (let same : Plain (NotInductiveBy event at j) ≡ n = cc in same)
        (by_step event at j s right)
    by_report (UnprovedReport rank (ByEvent event at j)) (ShownBy s) n right name =
        subst (IsReplayed (UnprovedReport rank (ByEvent event at j)) (ShownBy s)) (let same : UnprovedBy (name_of w rank) event at j ≡ n = cc in same)
        (unproved_by rank event at j s right)
    by_report (UnprovedReport rank (ByTurn at j)) (ShownBy s) n right name =
        subst (IsReplayed (UnprovedReport rank (ByTurn at j)) (ShownBy s)) (let same : UnprovedTurns (name_of w rank) b.unroll at j ≡ n = cc in same)
        (unproved_turns rank at j s right)
    by_report HoldsReport e n right name = absurd (no_name n name)
    by_report PartialReport e n right name = absurd (no_name n name)
    by_report VacuousReport e n right name = absurd (no_name n name)
    by_report PointsReport e n right name = absurd (no_name n name)
    by_report SizeReport e n right name = absurd (no_name n name)
    by_report ConflictsReport e n right name = absurd (no_name n name)
    by_report (NamedReport m) (PassedBy x) n right name = absurd right
    by_report (NamedReport m) (Frames list) n right name = absurd right
    by_report (NamedReport m) (SpentOn rank kind proof) n right name = absurd right
    by_report (NamedReport m) (Count c) n right name = absurd right
    by_report (NotInductiveReport event at j) (PassedBy x) n right name = absurd right
    by_report (NotInductiveReport event at j) (Frames list) n right name = absurd right
    by_report (NotInductiveReport event at j) (SpentOn rank kind proof) n right name = absurd right
    by_report (NotInductiveReport event at j) (Count c) n right name = absurd right
    by_report (UnprovedReport rank m) (PassedBy x) n right name = absurd right
    by_report (UnprovedReport rank m) (Frames list) n right name = absurd right
    by_report (UnprovedReport rank m) (SpentOn k kind proof) n right name = absurd right
    by_report (UnprovedReport rank m) (Count c) n right name = absurd right

pub frame_report_replays : FrameReportReplays
frame_report_replays o file text w bytes found b small r e n right name room returns tells =
    by_report o file text w bytes found b small returns tells r e n right name room
