-- What written parts of values are of: a reading of which the question is true, and the runs of what is shown of them.
use Rattle.std.proofs.Common.{◌≡◌, ◌≢◌, inl, inr, refl, ap, sym, ◌∙◌, subst, arith, ℕ, zero, suc, ◌+◌, ◌-◌, ◌/◌, ◌^◌, ◌<◌, ◌≤◌, [], ◌∷◌, List, Option, Some, None, Bool, true, false, length, get_or}
use Rattle.std.specs.Prelude.{Contains, ◌==◌, ◌&&◌, ◌||◌, nat_lt, nat_eq, slice_index, slice_index_or, map, filter, reverse, All, is_some, if◌then◌else◌}
use Rattle.std.specs.List.{list_any}
use Rattle.std.proofs.lemmas.Bool.Decides.{nat_tests}
use Rattle.std.proofs.lemmas.List.{reverse-reverse}
use Rattle.std.proofs.lemmas.Nat.{mod_below}
use Rattle.std.proofs.Math.Path.{fun_ext}
use Rattle.word_spec.specs.Words.{add, bit_at, word}
use Rattle.word_spec.specs.Memory.{Memory, byte_in}
use Rattle.word_spec.specs.State.{State, Written}
use Rattle.machine_spec.specs.StateText.{Layout, register_at, known_or, IsWritten, AreRising, last_step}
use Rattle.bilv_spec.specs.Elf.{is_kept}
use Rattle.bilv_spec.specs.Run.{Place}
use Rattle.bilv_spec.specs.Points.{is_known_at, is_kept_at, byte_of_cell}
use Rattle.bilv_spec.specs.PointLaws.{ReadsMemory}
use Rattle.bilv_spec.specs.Verdict.{IsEntryState, fixed}
use Rattle.bilv_spec.specs.Answers.{known_byte}
use Rattle.machine_spec.specs.Bil.{Empty}
use Rattle.bilv_spec.proofs.Pigeons.{truth, in_at}
use Rattle.bilv_spec.proofs.PointSteps.{in_any, in_filter}
use Rattle.walk_spec.specs.Unrolled.{byte_of_runs, is_in}
use Rattle.walk_spec.specs.Unrolling.{IsLaidOut}
use Rattle.walk_laws.proofs.InputBits.{one_bit_same}
use Rattle.walk_laws.proofs.InputPlaces.{range_length}
use Rattle.walk_laws.proofs.StartReadings.{map_long, map_below, register_is, byte_small, known_small, not_known}
use Rattle.frame_spec.specs.Frames.{Content, IsContent, Contract, Frame, content_at, contract_at}
use Rattle.frame_spec.specs.FrameRuns.{Start, Run, Going, Calling, Failed, Turned, Broken, run, IsOver}
use Rattle.frame_spec.specs.FramePoints.{Anchor, AtEntry, AtHead, Point, first, IsAnchor, is_cut, has_heads}
use Rattle.frame_spec.specs.FrameVerdict.{IsStart, IsOrigin, RunFails, RunTurns, Whole}
use Rattle.frame_spec.specs.FrameQuestions.{Reading, IsReading, Question, EntryQuestion, FailQuestion, StepQuestion, TurnQuestion, asks_head, IsHeadPart, IsTrue, FromHead, EndsBy, ReadingFails, ReadingTurns, by_file, point_of, origin_of, read_run}
use Rattle.frame_spec.specs.FrameWalk.{Action, Executes, Arrives, StepsOver, Gift, UnrolledPoint, UnrolledProgram, no_point, Root, Walk, WalkIsAt, WalkArrives, WalkExits, WalkFails, WalkTurns, WalkIsCut, WalkBreaks, point_at, walk_of, is_assumed}
use Rattle.frame_spec.specs.FrameUnrolling.{DoesContract, DoesBy, IsRootOf, IsUnrolling}
use Rattle.frame_spec.specs.FrameReports as reports
use Rattle.frame_spec.specs.FrameReports.{IsShown, IsWrittenCall, WrittenCall, WrittenHead, gifts, registers_of, shown_start, kept_byte, value_in}
use Rattle.frame_spec.proofs.OneEnd.{one_end}
use Rattle.frame_spec.proofs.ByFile.{runs_same}
use Rattle.frame_spec.proofs.OfSegments.{entry_of, heads, Takes, followed}
use Rattle.frame_laws.specs.RunOfFrame.{AsksLiterals, IsSame, BeginsAt, HasAskedKept}
use Rattle.frame_laws.proofs.FrameAnswers.{frame_answers_over, entry_assumed, assumes_part}
use Rattle.frame_laws.proofs.FrameWalks.{frame_walk_is_run}
use Rattle.term_spec.specs.Terms.{TermReading, InRange, with_memories, term_word}
use Rattle.term_spec.specs.WalkQuestions.{QuestionTerm}
use Rattle.frame_terms.specs.PassiveFrames.{part_reading, inputs_of, IsGiftAt, NamesRegister, NamesFlag}
use Rattle.frame_terms.specs.FrameCells.{BaseRead, Cells, Gives, IsAllowed, IsRead, AreFormed, Completes, read_address}
use Rattle.frame_terms.specs.FrameClauseForm.{PartInput, bit_of, RegisterBit, FlagBit, ChoiceBit, ByteBit, input_list}
use Rattle.frame_terms.specs.FrameAgreement.{HaveSameInputs}
use Rattle.frame_terms.specs.FrameLayers.{IsLayered}
use Rattle.frame_terms.specs.FrameStarts.{HasValues, part_byte, IsWrittenPart, IsBroken, part_memory, part_registers, gift_registers, gives_flag, written_content, gift_content, IsPart, WrittenParts, AreParts, place_choice, IsReadingOfParts, AreChoices, call_of, IsCallOf, AreCalls, AreTold, shown_of, IsWrittenAnchor, BeginsIn, ShownEndsAtHead, ShownEndsBy, GiveStarts, FrameValuesGiveStarts, FrameStartsAreShown, FramePartsBreakNone, FrameBrokenIsNew}
use Rattle.frame_terms.proofs.PartValues.{frame_terms_agree, frame_cells_agree, frame_addresses_agree}
use Rattle.frame_terms.proofs.FrameValues.{reading, spot, spot_is, changed_same, memories_same, memories_only}
use Rattle.frame_terms.proofs.FrameInputs.{IsPartInput, found_in, in_list}
use Rattle.frame_terms.proofs.FrameReadings.{Agree, word_same, from_bits}
use Rattle.frame_terms.proofs.WrittenGifts.{IsSmall, gift_at, gifts_small, registers_same, value_is, value_small}
use Rattle.walk_laws.proofs.CellValues.{words_fit}

both : (a b : Bool) → (a && b) ≡ true → (a ≡ true) × (b ≡ true)
both true true h = (refl, refl)
both true false h = absurd (cc)
both false b h = absurd (cc)

two : (a b : Bool) → a ≡ true → b ≡ true → (a && b) ≡ true
two a b p q = ap (λ z. z && b) p ∙ q

few_in : {m : ℕ} → (xs : List (ℕ × ℕ)) (a : ℕ) → All (λ z. (z.0 < m) × (1 ≤ z.1) × (z.1 ≤ 3)) xs → byte_in xs a < 4
few_in [] a h = omega arith
few_in (e ∷ rest) a h = by (a == e.0) (h 0 e (omega arith)).2 (few_in rest a (λ n d l. h (suc n) d (omega arith)))
  where
    by : (b : Bool) → e.1 ≤ 3 → byte_in rest a < 4 → (if b then e.1 else byte_in rest a) < 4
    by true l g = omega arith
    by false l g = g

index_below : (f : ℕ → ℕ) → ((n : ℕ) → f n < 2 ^ 32) → (xs : List ℕ) (i : ℕ) → slice_index (map f xs) i < 2 ^ 32
index_below f h [] i = omega arith
index_below f h (x ∷ xs) zero = h x
index_below f h (x ∷ xs) (suc i) = index_below f h xs i

-- the memory of a written part has the bytes of the file
has_byte : (u : UnrolledProgram) (part : ℕ) (w : Written) (a b : ℕ) → a < 2 ^ 32 → part_byte u part a ≡ Some b → part_memory u part w a ≡ b
has_byte u part w a b l e =
    let s : word 32 a ≡ a = omega arith in ap (λ z. known_or (part_byte u part z) w.bytes a) s ∙ ap (λ z. known_or z w.bytes a) e

past : (qs : List UnrolledPoint) (i : ℕ) → length qs ≤ i → slice_index_or qs i no_point ≡ no_point
past [] i l = refl
past (q ∷ qs) zero l = absurd (omega arith)
past (q ∷ qs) (suc i) l = past qs i (omega arith)

-- a register that is written in the order of the frame
register_same : (layout : Layout) (u : UnrolledProgram) → IsLaidOut layout (inputs_of u) → (f : ℕ → ℕ) (regs : List ℕ) → regs ≡ map f u.registers → (n : ℕ) →
    list_any (nat_eq n) u.registers ≡ true → register_at layout regs n ≡ f n
register_same layout u laid f regs e n h =
    ap (λ z. register_at layout z n) (e ∙ ap (map f) laid.registers)
    ∙ register_is f layout.first (length layout.registers) n
    (λ e. absurd (let q : true ≡ false = sym (subst (λ z. list_any (nat_eq n) z ≡ true) laid.registers h) ∙ e in cc))

not_less : (a b : ℕ) → nat_lt a b ≡ false → b ≤ a
not_less a b e = grind (arith, nat_tests)

less : (a b : ℕ) → nat_lt a b ≡ true → a < b
less a b e = grind (arith, nat_tests)

-- what a written part has
module _ (u : UnrolledProgram) (c : Cells) (x : TermReading) (range : InRange x) (part : ℕ) (w : Written) (is : IsPart u c x part w) where
  register_small : (b : Bool) (i : ℕ) → (if b then 0 else slice_index w.regs i) < 2 ^ 32
  register_small true i = omega arith
  register_small false i =
      subst (λ (z : List ℕ). slice_index z i < 2 ^ 32) (sym is.regs) (index_below (x.regs part) (range.regs part) (part_registers u part) i)

  pub words_small : All (λ n. n < 2 ^ 32) w.regs
  words_small =
      subst (λ (z : List ℕ). All (λ n. n < 2 ^ 32) z) (sym is.regs) (λ i d l. map_below (x.regs part) (2 ^ 32) (range.regs part) (part_registers u part) i d l)

  part_small : ((a b : ℕ) → byte_of_runs u.known a ≡ Some b → b < 256) → (p a b : ℕ) → part_byte u p a ≡ Some b → b < 256
  part_small known zero a b e = known a b e
  part_small known (suc zero) a b e = by (is_in u.kept a) e
    where
      by : (t : Bool) → (if t then byte_of_runs u.known a else None) ≡ Some b → b < 256
      by true e = known a b e
      by false e = absurd (cc)
  part_small known (suc (suc i)) a b e = absurd (cc)

  memory_small : ((a b : ℕ) → byte_of_runs u.known a ≡ Some b → b < 256) → (a : ℕ) → part_memory u part w a < 256
  memory_small known a =
      known_small (part_byte u part (word 32 a)) w.bytes a (λ b e. part_small known part (word 32 a) b e) (byte_small w.bytes (word 32 a) is.bytes)

  pub content_is : (layout : Layout) → ((a b : ℕ) → byte_of_runs u.known a ≡ Some b → b < 256) → IsContent (written_content layout u part w)
  content_is layout known = record {
    regs = λ n. register_small (nat_lt n layout.first) (n - layout.first);
    flags = λ f. mod_below (w.flags / 2 ^ f) 2 (omega arith);
    mem = memory_small known;
  }

-- what a written gift has
module _ (u : UnrolledProgram) (c : Cells) (x : TermReading) (i : ℕ) (w : Written) (is : IsPart u c x (suc (suc i)) w) where
  pub gift_is : InRange x → IsContent (gift_content u i w)
  gift_is range = record {
    regs = λ n. value_small (part_registers u (suc (suc i))) w.regs n
        (words_small u c x range (suc (suc i)) w is);
    flags = λ f. mod_below (w.flags / 2 ^ f) 2 (omega arith);
    mem = λ a. byte_small w.bytes (word 32 a) is.bytes;
  }

  module _ (g : Gift) (at : IsGiftAt u i g) where
    pub gift_register : (n : ℕ) → list_any (nat_eq n) u.registers ≡ true → Contains g.registers n → (gift_content u i w).regs n ≡ x.regs (suc (suc i)) n
    gift_register n h inside =
        ap (λ z. value_in (part_registers u (suc (suc i))) z n) is.regs
        ∙ value_is (x.regs (suc (suc i))) (part_registers u (suc (suc i))) n
        (subst (λ (z : Action). list_any (nat_eq n) (gift_registers u z) ≡ true) (sym at.does)
        (found_in (filter (λ r. list_any (nat_eq r) g.registers) u.registers) n
        (in_filter (λ r. list_any (nat_eq r) g.registers) u.registers n (in_any n u.registers h) (found_in g.registers n inside))))

    pub gift_flag : (f : ℕ) → nat_lt f u.flags ≡ true → Contains g.flags f → (gift_content u i w).flags f ≡ x.flags (suc (suc i)) f
    gift_flag f h inside =
        is.flags f (grind (arith, nat_tests))
        ∙ ap (λ b. if b then x.flags (suc (suc i)) f else 0) (ap (λ (z : Action). gives_flag z f) at.does ∙ found_in g.flags f inside)

-- a kept byte is that of the head part
kept_if : (k q : Bool) (o : Option ℕ) → (if k then o else None) ≡ (if k then (if k || q then o else None) else None)
kept_if true q o = refl
kept_if false q o = refl

module _ (f : Frame) (contracts : List Contract) (k : ℕ) (u : UnrolledProgram) (un : IsUnrolling f contracts k u) where
  kept_is : (a : ℕ) → a < 2 ^ 32 → kept_byte f.program a ≡ part_byte u 1 a
  kept_is a l =
      kept_if (is_kept_at f.program a) (is_some (f.program.loaded a) && fixed f.program.notes.fixed a) (Some (byte_of_cell (f.program.loaded a)))
      ∙ ap (λ z. if is_kept_at f.program a then z else None) (sym (un.known a l))
      ∙ ap (λ z. if z then byte_of_runs u.known a else None) (sym (un.kept a))

  -- what is shown can be written
  module _ (layout : Layout) (laid : IsLaidOut layout (inputs_of u)) (few : length u.points ≤ last_step + 1) (c : Cells) (x : TermReading)
      (range : InRange x) where
    part_written : (part : ℕ) → part_registers u part ≡ u.registers → (w : Written) → IsPart u c x part w → (known : ℕ → Bool) →
        ((a : ℕ) → a < 2 ^ 32 → part_byte u part a ≡ None → known a ≡ false) → (choices : List (ℕ × ℕ)) →
        All (λ z. (z.0 < length u.points) × (1 ≤ z.1) × (z.1 ≤ 3)) choices → AreRising choices → IsWritten layout known (record w { choices = choices })
    part_written part all w is known free choices within rise = record {
      count = ap (λ (z : List ℕ). length z) is.regs ∙ map_long (x.regs part) (part_registers u part) ∙ ap (λ (z : List ℕ). length z) (all ∙ laid.registers)
          ∙ range_length layout.first (length layout.registers);
      words = words_small u c x range part w is;
      flags = subst (λ (z : ℕ). w.flags < 2 ^ z) laid.flags is.flags_fit;
      bytes = is.bytes;
      bytes_rise = is.bytes_rise;
      unknown = λ n d l. free (get_or w.bytes n d).0 (is.bytes n d l).0 (is.unknown n d l);
      choices = λ n d l. (let h = within n d l in ((let m = h.0 in omega arith), h.1, h.2));
      choices_rise = rise;
    }

    entry_free : (a : ℕ) → a < 2 ^ 32 → part_byte u 0 a ≡ None → is_known_at f.program a ≡ false
    entry_free a l e = not_known (is_known_at f.program a) (byte_of_cell (f.program.loaded a)) (sym (un.known a l) ∙ e)

    head_free : (a : ℕ) → a < 2 ^ 32 → part_byte u 1 a ≡ None → is_kept_at f.program a ≡ false
    head_free a l e = not_known (is_kept_at f.program a) (byte_of_cell (f.program.loaded a)) (kept_is a l ∙ e)

    no_choices : (entry : Written) → IsPart u c x 0 entry → IsWritten layout (is_known_at f.program) entry
    no_choices entry is =
        subst (λ (z : List (ℕ × ℕ)). IsWritten layout (is_known_at f.program) (record entry { choices = z })) (sym is.choices)
        (part_written 0 refl entry is (is_known_at f.program) entry_free [] (λ n d l. absurd (omega arith)) (λ i j d l m. absurd (omega arith)))

    some_head : (h g : WrittenHead) → Some h ≡ Some g → h ≡ g
    some_head h g e = (cc)

    module _ (of_head : Bool) (p : WrittenParts) (parts : AreParts u of_head c x p) (w : Whole) (told : AreTold w f u) where
      call_written : (n i : ℕ) (g : Gift) → IsGiftAt u i g → n < length u.points → IsWrittenCall w layout (call_of u p n i)
      call_written n i g at l =
          let is = parts.at_gift i g at in record {
            step = omega arith;
            count = ap (λ (z : List ℕ). length z) is.regs ∙ map_long (x.regs (suc (suc i))) (part_registers u (suc (suc i)))
                ∙ ap (λ (z : List ℕ). length z) (sym (registers_same f contracts k u un layout laid w told i g at));
            words = words_small u c x range (suc (suc i)) (p.gift i) is;
            flags = subst (λ (z : ℕ). (p.gift i).flags < 2 ^ z) laid.flags is.flags_fit;
            bytes = is.bytes;
            bytes_rise = is.bytes_rise;
          }

      calls_written : (calls : List WrittenCall) → All (IsCallOf u p) calls → All (IsWrittenCall w layout) calls
      calls_written calls within n d l =
          let h = within n d l in subst (IsWrittenCall w layout) (sym h.4) (call_written (get_or calls n d).step h.0 h.1 h.2 h.3)

      pub are_shown : (anchor : Anchor) (root : Root) (choices : List (ℕ × ℕ)) (calls : List WrittenCall) → IsWrittenAnchor of_head anchor →
          AreChoices u of_head layout x p root choices → AreCalls u of_head layout x p root calls → IsShown w f layout (shown_of p anchor choices calls)
      are_shown AtEntry root choices calls h by made = record {
        entry = part_written 0 refl p.entry parts.at_entry (is_known_at f.program) entry_free choices by.within by.rise;
        head = λ g e. absurd (cc);
        choices = λ h. absurd (h refl);
        calls = calls_written calls made.within;
        calls_rise = made.rise;
      }
      are_shown (AtHead stack a) root choices calls h by made = record {
        entry = no_choices p.entry parts.at_entry;
        head = λ g e. subst (λ (z : WrittenHead). IsWritten layout (is_kept_at f.program) z.start) (some_head _ g e)
            (part_written 1 refl p.head (parts.at_head h) (is_kept_at f.program) head_free choices by.within by.rise);
        choices = λ h. parts.at_entry.choices;
        calls = calls_written calls made.within;
        calls_rise = made.rise;
      }

-- readings with the same bits have the same words, and allow the same
module _ (u : UnrolledProgram) (heads : Bool) (c : Cells) (formed : AreFormed u heads c) (v : ℕ → Bool) (x y : TermReading) (hx : HasValues u heads c v x)
    (hy : HasValues u heads c v y) where
  bit_small : (z : TermReading) → InRange z → (b : PartInput) → bit_of z b < 2
  bit_small z range (RegisterBit p n i) = mod_below (z.regs p n / 2 ^ i) 2 (omega arith)
  bit_small z range (FlagBit p f) = range.flags p f
  bit_small z range (ChoiceBit p i) = mod_below (z.choice p / 2 ^ i) 2 (omega arith)
  bit_small z range (ByteBit p j i) = mod_below (z.base p j / 2 ^ i) 2 (omega arith)

  bit_same : (b : PartInput) → IsPartInput u heads c b → bit_of x b ≡ bit_of y b
  bit_same b h =
      let at = in_at (input_list u heads c) b (in_list u heads c b h) in
      one_bit_same (bit_of x b) (bit_of y b) (bit_small x hx.in_range b) (bit_small y hy.in_range b)
      (sym (hx.bits at.0 b at.2) ∙ hy.bits at.0 b at.2)

  agree : Agree u heads c (length c.addresses) x y
  agree = from_bits u heads c formed (length c.addresses) x y hx.in_range hy.in_range (λ b h l. bit_same b h)

  pub base_same : (p j : ℕ) → IsRead c p j → x.base p j ≡ y.base p j
  base_same p j inside = agree.base (record { part = p; address = j }) inside (formed.reads (record { part = p; address = j }) inside).1

  pub word_is : (t : ℕ) → t < length c.nodes → term_word x c.nodes t ≡ term_word y c.nodes t
  word_is t l = word_same u heads c formed x y agree t l

  pub allows : IsAllowed c y → IsAllowed c x
  allows h = record {
    agrees = λ a inside e. (let f = formed.agrees a inside in
        base_same a.part a.read f.1 ∙ h.agrees a inside (sym (word_is a.condition f.0.0) ∙ e) ∙ sym (base_same a.part a.other f.2));
    asked = λ a inside e. (let f = formed.asked a inside in base_same a.part a.read f.1 ∙ h.asked a inside (sym (word_is a.condition f.0.0) ∙ e));
  }

  pub root_is : term_word y c.nodes c.root ≡ 1 → term_word x c.nodes c.root ≡ 1
  root_is e = word_is c.root formed.root.0 ∙ e

-- a byte that the part of a broken read has of the file
byte_if : (b : Bool) (o : Option ℕ) (n : ℕ) → (if b then o else None) ≡ Some n → (b ≡ true) × (o ≡ Some n)
byte_if true o n e = (refl, e)
byte_if false o n e = absurd (cc)

module _ (u : UnrolledProgram) (heads of_head : Bool) (c : Cells) (formed : AreFormed u heads c) (x : TermReading) (range : InRange x) where
  address_small : (b : BaseRead) → Contains c.reads b → read_address c x b.address < 2 ^ 32
  address_small b inside = words_fit c.nodes formed.typed formed.words x range 32 _ (formed.addresses b.address (formed.reads b inside).1)

  module _ (w : WrittenParts) (parts : AreParts u of_head c x w) where
    gives_at : (p j n a : ℕ) → IsWrittenPart of_head p → IsRead c p j → a < 2 ^ 32 → read_address c x j ≡ a → part_byte u p a ≡ Some n → x.base p j ≡ n
    gives_at zero j n a h inside l at e =
        parts.at_entry.gives j inside ∙ ap (part_memory u 0 w.entry) at ∙ has_byte u 0 w.entry a n l e
    gives_at (suc zero) j n a h inside l at e =
        (parts.at_head h).gives j inside ∙ ap (part_memory u 1 w.head) at ∙ has_byte u 1 w.head a n l e
    gives_at (suc (suc p)) j n a h inside l at e = absurd (cc)

    pub none_broken : (a : ℕ) → IsBroken u of_head c x a → ⊥
    none_broken a (b, n, inside, h, at, e, other) =
        other (gives_at b.part b.address n a h inside (subst (λ (z : ℕ). z < 2 ^ 32) at (address_small b inside)) at e)

  module _ (asked : ℕ → Bool) (m : Completes u of_head asked c x) where
    has_asked : (p n a : ℕ) → IsWrittenPart of_head p → a < 2 ^ 32 → part_byte u p a ≡ Some n → asked a ≡ true → m.memories p a ≡ n
    has_asked zero n a h l e ask = m.have.entry a n l e ask
    has_asked (suc zero) n a h l e ask = let q = byte_if (is_in u.kept a) (byte_of_runs u.known a) n e in m.have.head h a n l q.1 q.0 ask
    has_asked (suc (suc p)) n a h l e ask = absurd (cc)

    pub broken_is_new : (a : ℕ) → IsBroken u of_head c x a → asked a ≡ false
    broken_is_new a (b, n, inside, h, at, e, other) = elim (truth (asked a)) [
      | inl ask ↦ (let l : a < 2 ^ 32 = subst (λ (z : ℕ). z < 2 ^ 32) at (address_small b inside) in
          let same = frame_addresses_agree u heads c formed (with_memories x m.memories) x b.address (formed.reads b inside).1
          (memories_only u heads x m.memories b.address) in
          absurd (other (m.gives b inside ∙ ap (m.memories b.part) (same ∙ at) ∙ has_asked b.part n a h l e ask)))
      | inr free ↦ free
    ]

-- the reading of written parts, and the question of it
module _ (f : Frame) (contracts : List Contract) (k : ℕ) (question : Question) (asked : ℕ → Bool) (u : UnrolledProgram) (t : QuestionTerm) (c : Cells)
    (layered : IsLayered f contracts k question asked u t c) (known : (a b : ℕ) → byte_of_runs u.known a ≡ Some b → b < 256) (layout : Layout)
    (laid : IsLaidOut layout (inputs_of u)) (x : TermReading) (range : InRange x) (allowed : IsAllowed c x) (root : term_word x c.nodes c.root ≡ 1)
    (p : WrittenParts) (parts : AreParts u (has_heads f && asks_head question) c x p) where
  abbrev has : Bool
  has = has_heads f

  abbrev of_head : Bool
  of_head = has_heads f && asks_head question

  abbrev un : IsUnrolling f contracts k u
  un = layered.unrolling

  abbrev formed : AreFormed u (has_heads f) c
  formed = layered.cells.formed

  m : Completes u (has_heads f && asks_head question) asked c x
  m = layered.cells.complete x range allowed

  -- what the head part has
  abbrev head_by : Bool → Content
  head_by true = written_content layout u 1 p.head
  head_by false = record { regs = x.regs 1; flags = x.flags 1; mem = m.memories 1 }

  -- and what is given at a place
  abbrev gift_by : ℕ → Action → Content
  gift_by i (StepsOver g) = gift_content u i (p.gift i)
  gift_by i (Executes list) = record { regs = x.regs (suc (suc i)); flags = x.flags (suc (suc i)); mem = m.memories (suc (suc i)) }
  gift_by i Arrives = record { regs = x.regs (suc (suc i)); flags = x.flags (suc (suc i)); mem = m.memories (suc (suc i)) }

  abbrev content : ℕ → Content
  content zero = written_content layout u 0 p.entry
  content (suc zero) = head_by (has_heads f && asks_head question)
  content (suc (suc i)) = gift_by i (point_at u i).does

  abbrev chosen : TermReading
  chosen = record {
    regs = λ n. (content n).regs;
    flags = λ n. (content n).flags;
    mem = λ n. (content n).mem;
    choice = place_choice u x;
    base = x.base;
  }

  abbrev r : Reading
  r = reading f contracts k u layered.unrolling (has_heads f) chosen (λ n. (content n).mem)

  head_is : (b : Bool) → (has_heads f && asks_head question) ≡ b → IsContent (head_by b)
  head_is true e = content_is u c x range 1 p.head (parts.at_head e) layout known
  head_is false e = record { regs = range.regs 1; flags = range.flags 1; mem = m.bytes 1 }

  -- a contract step is that of a point
  no_gift : (g : Gift) → Executes Empty ≡ StepsOver g → ⊥
  no_gift g e = (cc)

  gift_placed : (i : ℕ) (g : Gift) → (point_at u i).does ≡ StepsOver g → IsGiftAt u i g
  gift_placed i g e = elim (truth (nat_lt i (length u.points))) [
    | inl t ↦ record { place = less i (length u.points) t; does = e }
    | inr h ↦ absurd (no_gift g (sym (ap (λ (z : UnrolledPoint). z.does) (past u.points i (not_less i (length u.points) h))) ∙ e))
  ]

  gift_contents : (i : ℕ) (does : Action) → (point_at u i).does ≡ does → IsContent (gift_by i does)
  gift_contents i (StepsOver g) e = gift_is u c x i (p.gift i) (parts.at_gift i g (gift_placed i g e)) range
  gift_contents i (Executes list) e = record { regs = range.regs (suc (suc i)); flags = range.flags (suc (suc i)); mem = m.bytes (suc (suc i)) }
  gift_contents i Arrives e = record { regs = range.regs (suc (suc i)); flags = range.flags (suc (suc i)); mem = m.bytes (suc (suc i)) }

  contents : (n : ℕ) → IsContent (content n)
  contents zero = content_is u c x range 0 p.entry parts.at_entry layout known
  contents (suc zero) = head_is (has_heads f && asks_head question) refl
  contents (suc (suc i)) = gift_contents i (point_at u i).does refl

  gift_same : (i : ℕ) (g : Gift) → IsGiftAt u i g → content (suc (suc i)) ≡ gift_content u i (p.gift i)
  gift_same i g at = ap (gift_by i) at.does

  choice_small : (i : ℕ) → place_choice u x i < 4
  choice_small i = by (point_at u i).draws
    where
      by : (b : Bool) → (if b then x.choice i else 0) < 4
      by true = range.choice i
      by false = omega arith

  chosen_range : InRange chosen
  chosen_range = record {
    regs = λ n. (contents n).regs;
    flags = λ n. (contents n).flags;
    mem = λ n. (contents n).mem;
    choice = choice_small;
    base = range.base;
  }

  is : IsReading r
  is = record {
    state = record { pc = layered.entry; regs = (contents 0).regs; flags = (contents 0).flags; mem = (contents 0).mem };
    head = record { regs = (contents 1).regs; flags = (contents 1).flags; mem = (contents 1).mem };
    choice = λ q. choice_small (spot f contracts k u layered.unrolling q);
    given = λ q. contents (suc (suc (spot f contracts k u layered.unrolling q)));
  }

  -- it has the inputs of the values
  head_register : (b : Bool) → (has_heads f && asks_head question) ≡ b → (n : ℕ) → list_any (nat_eq n) u.registers ≡ true → x.regs 1 n ≡ (head_by b).regs n
  head_register true e n h = sym (register_same layout u laid (x.regs 1) p.head.regs (parts.at_head e).regs n h)
  head_register false e n h = refl

  register_is' : (part n : ℕ) → NamesRegister u (has_heads f) part n → x.regs part n ≡ (content part).regs n
  register_is' zero n h = sym (register_same layout u laid (x.regs 0) p.entry.regs parts.at_entry.regs n h)
  register_is' (suc zero) n h = head_register (has_heads f && asks_head question) refl n h.1
  register_is' (suc (suc i)) n (h, (g, at, inside)) =
      sym (ap (λ (z : Content). z.regs n) (gift_same i g at) ∙ gift_register u c x i (p.gift i) (parts.at_gift i g at) g at n h inside)

  head_flag : (b : Bool) → (has_heads f && asks_head question) ≡ b → (n : ℕ) → nat_lt n u.flags ≡ true → x.flags 1 n ≡ (head_by b).flags n
  head_flag true e n h = sym ((parts.at_head e).flags n (grind (arith, nat_tests)))
  head_flag false e n h = refl

  flag_is' : (part n : ℕ) → NamesFlag u (has_heads f) part n → x.flags part n ≡ (content part).flags n
  flag_is' zero n h = sym (parts.at_entry.flags n (grind (arith, nat_tests)))
  flag_is' (suc zero) n h = head_flag (has_heads f && asks_head question) refl n h.1
  flag_is' (suc (suc i)) n (h, (g, at, inside)) =
      sym (ap (λ (z : Content). z.flags n) (gift_same i g at) ∙ gift_flag u c x i (p.gift i) (parts.at_gift i g at) g at n h inside)

  same_inputs : (reads : ℕ) → HaveSameInputs u (has_heads f) reads x chosen
  same_inputs reads = record {
    regs = register_is';
    flags = flag_is';
    choice = λ i d. sym (ap (λ z. if z then x.choice i else 0) d.1);
    base = λ part j h l. refl;
  }

  -- and its memories give the base reads their bytes
  given_by : (part j : ℕ) → IsRead c part j → x.base part j ≡ m.memories part (read_address c x j)
  given_by part j inside =
      let l = (formed.reads (record { part = part; address = j }) inside).1 in
      m.gives (record { part = part; address = j }) inside
      ∙ ap (m.memories part) (frame_addresses_agree u (has_heads f) c formed (with_memories x m.memories) x j l
      (memories_only u (has_heads f) x m.memories j))

  head_gives : (b : Bool) → (has_heads f && asks_head question) ≡ b → (j : ℕ) → IsRead c 1 j → x.base 1 j ≡ (head_by b).mem (read_address c x j)
  head_gives true e j inside = (parts.at_head e).gives j inside
  head_gives false e j inside = given_by 1 j inside

  part_gives : (part j : ℕ) → IsRead c part j → x.base part j ≡ (content part).mem (read_address c x j)
  part_gives zero j inside = parts.at_entry.gives j inside
  part_gives (suc zero) j inside = head_gives (has_heads f && asks_head question) refl j inside
  part_gives (suc (suc i)) j inside =
      let (g, w, at, writes) = (formed.reads (record { part = suc (suc i); address = j }) inside).0 in
      (parts.at_gift i g at).gives j inside ∙ sym (ap (λ (z : Content). z.mem (read_address c x j)) (gift_same i g at))

  gives : Gives c chosen
  gives b inside =
      part_gives b.part b.address inside
      ∙ ap (content b.part).mem (frame_addresses_agree u (has_heads f) c formed x chosen b.address (formed.reads b inside).1 (same_inputs b.address))

  tells : term_word (part_reading u r) t.nodes t.root ≡ 1
  tells =
      sym (frame_terms_agree u (has_heads f) 0 t.nodes layered.term.terms.named chosen (part_reading u r)
      (changed_same f contracts k u layered.unrolling (has_heads f) chosen (λ n. (content n).mem))
      (memories_same f contracts k u layered.unrolling (has_heads f) chosen (λ n. (content n).mem)) t.root layered.term.root.0)
      ∙ sym (layered.cells.same chosen chosen_range gives)
      ∙ sym (frame_cells_agree u (has_heads f) c formed x chosen (same_inputs (length c.addresses)) c.root formed.root.0)
      ∙ root

  -- the head that is written
  head_written : (has_heads f && asks_head question) ≡ true → r.head ≡ written_content layout u 1 p.head
  head_written e = ap head_by e

  kept_byte_is : (a b : ℕ) → byte_of_runs u.known a ≡ Some b → is_in u.kept a ≡ true → part_byte u 1 a ≡ Some b
  kept_byte_is a b e q = ap (λ z. if z then byte_of_runs u.known a else None) q ∙ e

  head_has : has_heads f ≡ true → asks_head question ≡ true → HasAskedKept u (is_known_at f.program) r.head.mem
  head_has h s a b l e q ask =
      ap (λ (z : Content). z.mem a) (head_written (two (has_heads f) (asks_head question) h s)) ∙ has_byte u 1 p.head a b l (kept_byte_is a b e q)

  every_literal : AsksLiterals f k (is_known_at f.program)
  every_literal a i lit l = layered.asks_known (add 32 a i) (layered.asks_literals a i lit l)

  is_true : IsTrue f k r question
  is_true =
      let met = (layered.term.means r is refl).0 tells in
      (frame_answers_over f layered.lawful layered.low contracts layered.among k u layered.unrolling (is_known_at f.program) (λ a h. h) every_literal r
      question).0
      (record {
        reading = is;
        entry = record {
          state = is.state;
          pc = refl;
          link = met.lines.link;
          requires = met.lines.requires;
          bytes = λ a b l e ask. has_byte u 0 p.entry a b l e;
        };
        head = head_has;
        ends = met.ends;
      })

  of_parts : IsReadingOfParts u (has_heads f && asks_head question) layout x p r
  of_parts = record {
    reading = is;
    state = refl;
    at_head = head_written;
    at_gift = λ i g at. ap (λ z. content (suc (suc z))) (spot_is f contracts k u layered.unrolling i at.place) ∙ gift_same i g at;
    choice = λ i l. ap (place_choice u x) (spot_is f contracts k u layered.unrolling i l);
  }

  entry_state : IsEntryState f.program r.state
  entry_state = entry_of f.program r.state is_true.entry

  -- the state at entry of what is shown
  entry_byte : (a : ℕ) → known_or (known_byte f.program (word 32 a)) p.entry.bytes a ≡ part_memory u 0 p.entry a
  entry_byte a = ap (λ z. known_or z p.entry.bytes a) (sym (un.known (word 32 a) (mod_below a (2 ^ 32) (omega arith))))

  abbrev entry_with : (at : ℕ) → Memory → State
  entry_with at z = record { pc = at; regs = register_at layout p.entry.regs; flags = λ n. bit_at n p.entry.flags; mem = z }

  written_state : entry_with f.program.entry (λ a. known_or (known_byte f.program (word 32 a)) p.entry.bytes a) ≡ r.state
  written_state =
      ap (λ z. entry_with z (λ a. known_or (known_byte f.program (word 32 a)) p.entry.bytes a)) (sym un.entry)
      ∙ ap (entry_with u.entry) (fun_ext entry_byte)

  -- and the head state
  head_byte : (a : ℕ) → known_or (kept_byte f.program (word 32 a)) p.head.bytes a ≡ part_memory u 1 p.head a
  head_byte a = ap (λ z. known_or z p.head.bytes a) (kept_is f contracts k u un (word 32 a) (mod_below a (2 ^ 32) (omega arith)))

  abbrev head_with : (at : ℕ) → Memory → List ℕ → Option Place
  head_with at z stack = Some (record {
    state = record { pc = at; regs = register_at layout p.head.regs; flags = λ n. bit_at n p.head.flags; mem = z };
    stack = stack;
  })

  written_head : (stack : List ℕ) (a : ℕ) → (has_heads f && asks_head question) ≡ true →
      head_with a (λ b. known_or (kept_byte f.program (word 32 b)) p.head.bytes b) (reverse (reverse stack)) ≡ origin_of r (AtHead stack a)
  written_head stack a h =
      ap (head_with a (λ b. known_or (kept_byte f.program (word 32 b)) p.head.bytes b)) (reverse-reverse stack)
      ∙ ap (λ z. head_with a z stack) (fun_ext head_byte)
      ∙ ap (λ (z : Content). Some (record { state = content_at z a; stack = stack })) (sym (head_written h))

  -- the head part is a head state
  origin_is : (a : Anchor) → IsAnchor f k a → IsWrittenAnchor (has_heads f && asks_head question) a → BeginsIn f r a → IsOrigin f k r.state (origin_of r a)
  origin_is AtEntry anchor h part = tt
  origin_is (AtHead stack a) anchor h part = (
    anchor,
    record {
      state = record { pc = part.low; regs = is.head.regs; flags = is.head.flags; mem = is.head.mem };
      head = part.head;
      kept_bytes = λ b cell l e q. is_true.head (heads f a part.head) (both (has_heads f) (asks_head question) h).1 b cell l e q
          (ap (λ z. z || (is_some (f.program.loaded b) && fixed f.program.notes.fixed b)) (ap is_kept e ∙ q));
      invariants = part.invariants;
    },
  )

  begins_at : (a : Anchor) → IsWrittenAnchor (has_heads f && asks_head question) a → BeginsIn f r a → BeginsAt f (is_known_at f.program) r a
  begins_at AtEntry h part = tt
  begins_at (AtHead stack a) h part = (part, λ t s. is_true.head t (both (has_heads f) (asks_head question) h).1)

  assumed : (a : Anchor) (y : Root) → IsRootOf f u y a → BeginsIn f r a → is_assumed u r y ≡ true
  assumed AtEntry y of part =
      entry_assumed f layered.lawful layered.low contracts layered.among k u un (is_known_at f.program) every_literal r is is_true.entry y of
  assumed (AtHead stack a) y of part =
      assumes_part f layered.lawful layered.low contracts layered.among k u un (is_known_at f.program) every_literal r is is_true.entry y stack a of part

  module _ (memory : ReadsMemory f.program) (w : Whole) (told : AreTold w f u) (choices : List (ℕ × ℕ)) (calls : List WrittenCall) where
    abbrev start_at : Anchor → Start
    start_at a = shown_start w f layout (shown_of p a choices calls)

    state_same : (a : Anchor) → (start_at a).state ≡ r.state
    state_same AtEntry = written_state
    state_same (AtHead stack a) = written_state

    head_same : (a : Anchor) → IsWrittenAnchor (has_heads f && asks_head question) a → (start_at a).head ≡ origin_of r a
    head_same AtEntry h = refl
    head_same (AtHead stack a) h = written_head stack a h

    choices_same : (a : Anchor) → (start_at a).choices ≡ byte_in choices
    choices_same AtEntry = refl
    choices_same (AtHead stack a) = refl

    given_same : (a : Anchor) → (start_at a).given ≡ gifts (registers_of w) calls
    given_same AtEntry = refl
    given_same (AtHead stack a) = refl

    call_small : (z : WrittenCall) → IsCallOf u p z → IsSmall (registers_of w) z
    call_small z (i, g, at, l, e) =
        let is = parts.at_gift i g at in
        subst (IsSmall (registers_of w)) (sym e)
        (record { words = words_small u c x range (suc (suc i)) (p.gift i) is; bytes = is.bytes })

    given_is : All (IsCallOf u p) calls → (a : Anchor) (n : ℕ) → IsContent ((start_at a).given n)
    given_is within a n =
        subst (λ (z : ℕ → Content). IsContent (z n)) (sym (given_same a))
        (gifts_small (registers_of w) calls (λ i d l. call_small (get_or calls i d) (within i d l)) n)

    module _ (anchor : Anchor) (y : Root) (is_anchor : IsAnchor f k anchor) (is_root : IsRootOf f u y anchor)
        (shown : IsWrittenAnchor (has_heads f && asks_head question) anchor) (begin : BeginsIn f r anchor)
        (chosen_by : AreChoices u (has_heads f && asks_head question) layout x p y choices)
        (made : AreCalls u (has_heads f && asks_head question) layout x p y calls) where
      abbrev start : Start
      start = shown_start w f layout (shown_of p anchor choices calls)

      abbrev g : Frame
      g = by_file f

      same : (n : ℕ) → IsSame f contracts u anchor (walk_of u r y n) (read_run f k r anchor n)
      same n =
          frame_walk_is_run f layered.lawful contracts layered.among k u un (is_known_at f.program) every_literal r is is_true.entry y anchor is_root is_anchor
          (begins_at anchor shown begin) n

      -- where the walk is, the start has the choice of the point
      at_place : (z : Walk) (turns m : ℕ) (d : Place) → IsSame f contracts u anchor z (Going turns m d) → (i : ℕ) × (e : Content) × (z ≡ WalkIsAt i e)
          × (i < length u.points) × ((point_at u i).point ≡ point_of anchor false turns d)
      at_place (WalkIsAt i e) turns m d h = (i, e, refl, h.0, h.1)
      at_place (WalkArrives a l e) turns m d h = absurd h
      at_place WalkExits turns m d h = absurd h
      at_place (WalkFails e) turns m d h = absurd h
      at_place WalkTurns turns m d h = absurd h
      at_place WalkIsCut turns m d h = absurd h
      at_place WalkBreaks turns m d h = absurd h

      choice_is : (n turns m : ℕ) (d : Place) → read_run f k r anchor n ≡ Going turns m d → start.choices n ≡ r.choice (point_of anchor false turns d)
      choice_is n turns m d e =
          let at = at_place (walk_of u r y n) turns m d (subst (λ (z : Run). IsSame f contracts u anchor (walk_of u r y n) z) e (same n)) in
          ap (λ (z : ℕ → ℕ). z n) (choices_same anchor) ∙ chosen_by.follows r of_parts (assumed anchor y is_root begin) n at.0 at.1 at.2
          ∙ sym (of_parts.choice at.0 at.3) ∙ ap r.choice at.4

      -- so where a contract step is made, it gives what the reading gives at the point
      steps_over : (i : ℕ) → i < length u.points → (point_at u i).point.contract ≡ true → (g : Gift) × IsGiftAt u i g
      steps_over i l e =
          by (contract_at f.stepped (point_at u i).point.at) (point_at u i).point.stack
          (subst (λ b. DoesBy b (is_cut f (point_at u i).point) f contracts k u i (point_at u i)) e (un.places i l).does)
        where
          by : (o : Option Contract) (stack : List ℕ) → DoesContract f k u i (point_at u i) o stack → (g : Gift) × IsGiftAt u i g
          by None stack does = absurd does
          by (Some z) [] does = absurd does
          by (Some z) (to ∷ below) (along, does, exits, are) = (_, record { place = l; does = does })

      at_call : (z : Walk) (turns m : ℕ) (d : Place) → IsSame f contracts u anchor z (Calling turns m d) → (i : ℕ) × (e : Content) × (z ≡ WalkIsAt i e)
          × (i < length u.points) × ((point_at u i).point ≡ point_of anchor true turns d)
      at_call (WalkIsAt i e) turns m d h = (i, e, refl, h.0, h.1)
      at_call (WalkArrives a l e) turns m d h = absurd h
      at_call WalkExits turns m d h = absurd h
      at_call (WalkFails e) turns m d h = absurd h
      at_call WalkTurns turns m d h = absurd h
      at_call WalkIsCut turns m d h = absurd h
      at_call WalkBreaks turns m d h = absurd h

      gift_given : (n i : ℕ) (g : Gift) → IsGiftAt u i g → Contains calls (call_of u p n i) → start.given n ≡ gift_content u i (p.gift i)
      gift_given n i g at inside =
          ap (λ (z : ℕ → Content). z n) (given_same anchor)
          ∙ gift_at (registers_of w) calls made.rise (call_of u p n i) inside
          ∙ ap (λ z. reports.given_by z (call_of u p n i)) (registers_same f contracts k u un layout laid w told i g at)

      given_point : (n turns m : ℕ) (d : Place) → read_run f k r anchor n ≡ Calling turns m d → start.given n ≡ r.given (point_of anchor true turns d)
      given_point n turns m d e =
          let at = at_call (walk_of u r y n) turns m d (subst (λ (z : Run). IsSame f contracts u anchor (walk_of u r y n) z) e (same n)) in
          let gift = steps_over at.0 at.3 (ap (λ (z : Point). z.contract) at.4) in
          gift_given n at.0 gift.0 gift.1
          (made.follows r of_parts (assumed anchor y is_root begin) n at.0 at.1 gift.0 at.2 gift.1)
          ∙ sym (of_parts.at_gift at.0 gift.0 gift.1) ∙ ap r.given at.4

      takes : (n : ℕ) → run (by_file f) k start n ≡ read_run f k r anchor n → Takes f k r anchor start n (run (by_file f) k start n)
      takes n e = record {
        state = state_same anchor;
        choice = λ turns m d q. choice_is n turns m d (sym e ∙ q);
        given = λ turns m d q. given_point n turns m d (sym e ∙ q);
      }

      upto : (m n : ℕ) → n ≤ m → run (by_file f) k start n ≡ read_run f k r anchor n
      upto zero n l = followed f k r anchor start (state_same anchor) (head_same anchor shown) 0 (λ i s. absurd (omega arith)) n l
      upto (suc m) n l =
          followed f k r anchor start (state_same anchor) (head_same anchor shown) (suc m) (λ i s. takes i (upto m i (omega arith))) n l

      its_entry : IsEntryState f.program start.state
      its_entry = subst (IsEntryState f.program) (sym (state_same anchor)) entry_state

      its_origin : IsOrigin f k start.state start.head
      its_origin =
          subst (λ z. IsOrigin f k z start.head) (sym (state_same anchor))
          (subst (IsOrigin f k r.state) (sym (head_same anchor shown)) (origin_is anchor is_anchor shown begin))

      runs : (n : ℕ) → run f k start n ≡ read_run f k r anchor n
      runs n = runs_same f layered.lawful memory k start its_entry its_origin (given_is made.within anchor) n ∙ upto n n (omega arith)

      its_start : (n : ℕ) (z : Run) → IsOver z → run f k start n ≡ z → ((l at m : ℕ) → z ≢ Broken l at m) → IsStart f k start
      its_start n z over e not = record {
        entry = its_entry;
        origin = its_origin;
        choices = λ i. subst (λ (z : ℕ → ℕ). z i < 4) (sym (choices_same anchor)) (few_in choices i chosen_by.within);
        given = given_is made.within anchor;
        is_run = λ b. not b.1 b.2 b.3 (one_end f k start n b.0 z (Broken b.1 b.2 b.3) over tt e b.4);
      }

      its_fail : ReadingFails f k r anchor → IsStart f k start × RunFails f k start
      its_fail (n, at, m, e, h) = (its_start n (Failed e at m) tt (runs n ∙ h) (λ l a i q. cc), (n, at, m, e, runs n ∙ h))

      its_turn : ReadingTurns f k r anchor → IsStart f k start × RunTurns f k start
      its_turn (n, at, m, h) = (its_start n (Turned at m) tt (runs n ∙ h) (λ l a i q. cc), (n, at, m, runs n ∙ h))

  -- so what is shown ends as the question says
  module _ (memory : ReadsMemory f.program) where
    of_heads : (q : Question) → q ≡ question → asks_head q ≡ true → (a : ℕ) → IsHeadPart f r a → (has_heads f && asks_head question) ≡ true
    of_heads q e asks a part = two (has_heads f) (asks_head question) (heads f a part.head) (sym (ap asks_head e) ∙ asks)

    step_ends : (q : Question) → q ≡ question → asks_head q ≡ true → FromHead f k r (ReadingFails f k r) →
        ShownEndsAtHead f k u (has_heads f && asks_head question) layout x p RunFails
    step_ends q e asks (stack, a, anchor, part, h) =
        let y = un.rooted (AtHead stack a) anchor in (
          stack,
          a,
          y.0,
          y.1,
          y.2,
          λ w told choices by calls made. its_fail memory w told choices calls (AtHead stack a) y.0 anchor y.2 (of_heads q e asks a part) part by made h,
        )

    turn_ends : (q : Question) → q ≡ question → asks_head q ≡ true → FromHead f k r (ReadingTurns f k r) →
        ShownEndsAtHead f k u (has_heads f && asks_head question) layout x p RunTurns
    turn_ends q e asks (stack, a, anchor, part, h) =
        let y = un.rooted (AtHead stack a) anchor in (
          stack,
          a,
          y.0,
          y.1,
          y.2,
          λ w told choices by calls made. its_turn memory w told choices calls (AtHead stack a) y.0 anchor y.2 (of_heads q e asks a part) part by made h,
        )

    ends_by : (q : Question) → q ≡ question → EndsBy f k r q → ShownEndsBy f k u (has_heads f && asks_head question) layout x p q
    ends_by EntryQuestion e h = subst (λ z. IsEntryState f.program (content_at (written_content layout u 0 p.entry) z)) un.entry entry_state
    ends_by FailQuestion e h = λ y of w told choices by calls made. its_fail memory w told choices calls AtEntry y first of tt tt by made h
    ends_by StepQuestion e h = step_ends StepQuestion e refl h
    ends_by TurnQuestion e (inl h) = inl (λ y of w told choices by calls made. its_turn memory w told choices calls AtEntry y first of tt tt by made h)
    ends_by TurnQuestion e (inr h) = inr (turn_ends TurnQuestion e refl h)

    pub give : GiveStarts f k question u layout x p
    give = record {
      reading = r;
      of = of_parts;
      is_true = is_true;
      runs = λ w told anchor y choices calls is_anchor is_root shown begin by made n.
          runs memory w told choices calls anchor y is_anchor is_root shown begin by made n;
      ends = ends_by question refl is_true.ends;
    }

pub frame_values_give_starts : FrameValuesGiveStarts
frame_values_give_starts f contracts k question asked u t c layered memory known layout laid cnf tells v sat x hx p parts =
    let made = tells.extends.only v sat in
    let hy : HasValues u (has_heads f) c v made.reading = record { in_range = made.in_range; bits = made.bits } in
    give f contracts k question asked u t c layered known layout laid x hx.in_range
    (allows u (has_heads f) c layered.cells.formed v x made.reading hx hy made.allowed)
    (root_is u (has_heads f) c layered.cells.formed v x made.reading hx hy made.root) p parts memory

pub frame_starts_are_shown : FrameStartsAreShown
frame_starts_are_shown f contracts k u un layout laid few of_head c x range p parts w told anchor root choices calls =
    are_shown f contracts k u un layout laid few c x range of_head p parts w told anchor root choices calls

pub frame_parts_break_none : FramePartsBreakNone
frame_parts_break_none u heads of_head c formed x range p parts = none_broken u heads of_head c formed x range p parts

pub frame_broken_is_new : FrameBrokenIsNew
frame_broken_is_new u heads of_head t asked c cells cnf tells v sat x hx =
    let made = tells.extends.only v sat in
    let allowed = allows u heads c cells.formed v x made.reading hx (record { in_range = made.in_range; bits = made.bits }) made.allowed in
    broken_is_new u heads of_head c cells.formed x hx.in_range asked (cells.complete x hx.in_range allowed)
