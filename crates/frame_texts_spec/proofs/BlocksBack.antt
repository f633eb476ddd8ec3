-- Blocks are read back.
use Rattle.std.proofs.Common.{◌≡◌, ℕ, suc, ◌+◌, ◌-◌, ◌^◌, ◌<◌, ◌≤◌, refl, ap, sym, ◌∙◌, subst, arith, Bool, true, false, List, [], ◌∷◌, ◌++◌, Option, Some, None, length, length-append, map, get_or, take, drop, append_assoc, append-nil}
use Rattle.std.specs.Prelude.{All, AllPairs, ◌&&◌, nat_le, nat_lt, codes, if◌then◌else◌}
use Rattle.std.specs.Str.{bytes_eq}
use Rattle.std.proofs.lemmas.Bool.Decides.{nat_tests}
use Rattle.std.proofs.lemmas.List.{drop_at, map-append, take_at}
use Rattle.std.proofs.lemmas.Slice.Eq.{bytes_eq-Decides}
use Rattle.word_spec.specs.Words.{bit_at}
use Rattle.word_spec.specs.Texts.{word_text, number_text, joined, words_in, at_most, decimal_word, hex_word}
use Rattle.machine_spec.specs.StateText.{Layout, StateLine, RegisterLine, ByteLine, EndLine, AreRising, last_step, value_names, both, words_of_line, line_of, line_of_words, place_in}
use Rattle.machine_spec.proofs.Spelling.{Above, AllAbove, same_number, words_in_joined, joined_above, number_above, hex_back, hex_word_above}
use Rattle.machine_spec.proofs.StateLines.{IsBounded, IsLayout, line_above, line_back}
use Rattle.frame_spec.specs.FrameReports.{WrittenCall}
use Rattle.frame_texts_spec.specs.FrameTexts.{line_texts, mark_of}
use Rattle.frame_texts_spec.specs.CallTexts.{BeginsBlock, BlockFault, BlocksAre, BlocksRefused, BlocksTold, Stage, begins_by, told_in_blocks, CallChecks, Changes, HasChanges, InBlocks, IsBlock, OfStart, block_line_by, block_line_of, block_lines, blocks, blocks_told, call_in, call_line, call_of, changes_or_none, flags_by, places, value_lines, values_of, with_byte, with_call, with_value}
use Rattle.frame_texts_spec.proofs.EndingsBack.{at_most_back, no_register, plain_above}
use Rattle.frame_texts_spec.proofs.PartsBack.{AllNoFeed, feeds-append, no_feed}

-- ---- lines

-- a line that begins a block is none of a start
call_is_no_start : (layout : Layout) (ws : List (List ℕ)) (x : ℕ × ℕ) → call_in ws ≡ Some x → line_of_words layout ws ≡ None
call_is_no_start layout [] x e = refl
call_is_no_start layout (w ∷ []) x e = absurd (let z : ◌≡◌ {A = Option (ℕ × ℕ)} None (Some x) = e in cc)
call_is_no_start layout (w ∷ s ∷ []) x e = absurd (let z : ◌≡◌ {A = Option (ℕ × ℕ)} None (Some x) = e in cc)
call_is_no_start layout (w ∷ s ∷ a ∷ b ∷ ws) x e = absurd (let z : ◌≡◌ {A = Option (ℕ × ℕ)} None (Some x) = e in cc)
call_is_no_start layout (w ∷ s ∷ a ∷ []) x e = by_word (bytes_eq w (codes "call")) refl e
  where
    by_word : (t : Bool) → bytes_eq w (codes "call") ≡ t → (if t then both (at_most last_step (decimal_word s)) (hex_word 8 a) else None) ≡ Some x → line_of_words layout (w ∷ s ∷ a ∷ []) ≡ None
    by_word false is e = absurd (let z : ◌≡◌ {A = Option (ℕ × ℕ)} None (Some x) = e in cc)
    by_word true is e =
        ap (λ u. line_of_words layout (u ∷ s ∷ a ∷ [])) ((bytes_eq-Decides w (codes "call")).0 is)
        ∙ no_register layout (place_in (value_names layout) (codes "call")) s a []

pub start_is_no_call : (layout : Layout) (text : List ℕ) (l : StateLine) → line_of layout text ≡ Some l → call_of text ≡ None
start_is_no_call layout text l e = by_call (call_of text) refl
  where
    by_call : (o : Option (ℕ × ℕ)) → call_of text ≡ o → o ≡ None
    by_call None is = refl
    by_call (Some x) is =
        absurd (let z : ◌≡◌ {A = Option StateLine} None (Some l) = sym (call_is_no_start layout (words_in text) x is) ∙ e in cc)

pub start_line_is : (layout : Layout) (text : List ℕ) (l : StateLine) → line_of layout text ≡ Some l → block_line_of layout text ≡ Some (OfStart l)
start_line_is layout text l e =
    ap (λ o. block_line_by o (line_of layout text) (mark_of layout text)) (start_is_no_call layout text l e)
    ∙ ap (λ o. block_line_by None o (mark_of layout text)) e

call_words_above : (step a : ℕ) → step ≤ last_step → AllAbove 32 (codes "call" ∷ number_text step ∷ word_text a ∷ [])
call_words_above step a small = (plain_above (codes "call") refl, (number_above step (omega (arith, small)), (hex_word_above 8 a, tt)))

pub call_line_above : (step a : ℕ) → step ≤ last_step → Above 31 (call_line step a)
call_line_above step a small = joined_above (codes "call") (number_text step ∷ word_text a ∷ []) (call_words_above step a small)

pub call_back : (step a : ℕ) → step ≤ last_step → a < 2 ^ 32 → call_of (call_line step a) ≡ Some (step, a)
call_back step a small word =
    ap call_in (words_in_joined (codes "call") (number_text step ∷ word_text a ∷ []) (call_words_above step a small))
    ∙ rw (at_most_back last_step step small (omega arith), hex_back 8 a word) refl

call_line_is : (layout : Layout) (step a : ℕ) → step ≤ last_step → a < 2 ^ 32 → block_line_of layout (call_line step a) ≡ Some (BeginsBlock step a)
call_line_is layout step a small word =
    ap (λ o. block_line_by o (line_of layout (call_line step a)) (mark_of layout (call_line step a))) (call_back step a small word)

-- ---- the values and the bytes of a block

-- values at places can be written
abbrev pub AllFit : Layout → (places values : List ℕ) → Type 0
AllFit layout [] [] = Unit {0}
AllFit layout [] (v ∷ vs) = ⊥
AllFit layout (i ∷ is) [] = ⊥
AllFit layout (i ∷ is) (v ∷ vs) = IsBounded layout (RegisterLine i v) × AllFit layout is vs

module _ (layout : Layout) where
  abbrev names : ℕ
  names = length (value_names layout)

  flags_fit : (flags : List ℕ) (set : ℕ) → All (λ f. f < length layout.flags) flags →
      AllFit layout (map (λ f. names - 1 - f) flags) (map (λ f. bit_at f set) flags)
  flags_fit [] set low = tt
  flags_fit (f ∷ flags) set low =
      let count : names ≡ length layout.registers + length layout.flags = length-append layout.registers layout.flags in
      let small : f < length layout.flags = low 0 f (omega arith) in (
        (omega (arith, count, small), (λ below. absurd (omega (arith, count, small))), (λ _. omega arith)),
        flags_fit flags set (λ k d l. low (suc k) d (omega arith)),
      )

  registers_fit : (registers values : List ℕ) (more rest : List ℕ) → All (λ r. (layout.first ≤ r) × (r - layout.first < length layout.registers)) registers →
      All (λ v. v < 2 ^ 32) values → length values ≡ length registers → AllFit layout more rest →
      AllFit layout (map (λ r. r - layout.first) registers ++ more) (values ++ rest)
  registers_fit [] [] more rest has words count fit = fit
  registers_fit [] (v ∷ vs) more rest has words count fit = absurd (omega arith)
  registers_fit (r ∷ rs) [] more rest has words count fit = absurd (omega arith)
  registers_fit (r ∷ rs) (v ∷ vs) more rest has words count fit =
      let all : names ≡ length layout.registers + length layout.flags = length-append layout.registers layout.flags in
      let here = has 0 r (omega arith) in (
        (omega (arith, all, here.1), (λ _. words 0 v (omega arith)), (λ above. absurd (omega (arith, here.1)))),
        registers_fit rs vs more rest (λ k d l. has (suc k) d (omega arith)) (λ k d l. words (suc k) d (omega arith)) (omega arith) fit,
      )

  block_fits : (x : Changes) (c : WrittenCall) → HasChanges layout x → All (λ v. v < 2 ^ 32) c.regs → length c.regs ≡ length x.registers →
      AllFit layout (places layout x) (values_of x c)
  block_fits x c has words count =
      registers_fit x.registers c.regs (map (λ f. names - 1 - f) x.flags) (map (λ f. bit_at f c.flags) x.flags) has.registers words count
      (flags_fit x.flags c.flags has.flags)

-- with values and bytes in front
abbrev with_values : List ℕ → BlocksTold → BlocksTold
with_values [] told = told
with_values (v ∷ vs) told = with_value v (with_values vs told)

abbrev with_bytes : List (ℕ × ℕ) → BlocksTold → BlocksTold
with_bytes [] told = told
with_bytes (b ∷ bs) told = with_byte b.0 b.1 (with_bytes bs told)

values_are : (vs : List ℕ) (values : List ℕ) (bytes : List (ℕ × ℕ)) (calls : List WrittenCall) →
    with_values vs (BlocksAre values bytes calls) ≡ BlocksAre (vs ++ values) bytes calls
values_are [] values bytes calls = refl
values_are (v ∷ vs) values bytes calls = ap (with_value v) (values_are vs values bytes calls)

bytes_are : (bs : List (ℕ × ℕ)) (values : List ℕ) (bytes : List (ℕ × ℕ)) (calls : List WrittenCall) →
    with_bytes bs (BlocksAre values bytes calls) ≡ BlocksAre values (bs ++ bytes) calls
bytes_are [] values bytes calls = refl
bytes_are (b ∷ bs) values bytes calls = ap (with_byte b.0 b.1) (bytes_are bs values bytes calls)

-- bytes that can be written, from an address on
abbrev pub Rises : (low : ℕ) → List (ℕ × ℕ) → Type 0
Rises low [] = Unit {0}
Rises low (b ∷ bs) = (low ≤ b.0) × (b.0 < 2 ^ 32) × (1 ≤ b.1) × (b.1 ≤ 255) × Rises (b.0 + 1) bs

rises : (low : ℕ) (bs : List (ℕ × ℕ)) → All (λ b. (b.0 < 2 ^ 32) × (1 ≤ b.1) × (b.1 ≤ 255)) bs → AreRising bs → (0 < length bs → (d : ℕ × ℕ) → low ≤ (get_or bs 0 d).0) →
    Rises low bs
rises low [] good rising first = tt
rises low (b ∷ bs) good rising first =
    let h = good 0 b (omega arith) in (
      first (omega arith) b,
      h.0,
      h.1,
      h.2,
      rises (b.0 + 1) bs (λ k d l. good (suc k) d (omega arith)) (λ i j d h k. rising (suc i) (suc j) d (omega arith) (omega arith))
          (λ some d. let less = rising 0 1 d (omega arith) (omega arith) in omega (arith, less)),
    )

module _ (layout : Layout) (good : IsLayout layout) (checks : CallChecks) where
  abbrev changes : ℕ → Option Changes
  changes = checks.changes

  -- what is said by a line of a start and by those after it
  line_told : (n s : ℕ) (due : List ℕ) (low : ℕ) (l : StateLine) (rest : List (List ℕ)) → IsBounded layout l →
      blocks_told layout changes (InBlocks s due low) n (joined (words_of_line layout l) ∷ rest)
      ≡ told_in_blocks layout changes n s due low (Some (OfStart l)) (λ next. blocks_told layout changes next (n + 1) rest)
  line_told n s due low l rest bounded =
      ap (λ o. told_in_blocks layout changes n s due low o (λ next. blocks_told layout changes next (n + 1) rest))
      (start_line_is layout (joined (words_of_line layout l)) l (line_back layout good l bounded))

  values_back : (s low : ℕ) (rest : List (List ℕ)) (told : BlocksTold) → ((n : ℕ) → blocks_told layout changes (InBlocks s [] low) n rest ≡ told) →
      (is vs : List ℕ) → AllFit layout is vs → (n : ℕ) →
      blocks_told layout changes (InBlocks s is low) n (line_texts layout (value_lines is vs) ++ rest) ≡ with_values vs told
  values_back s low rest told later [] [] fit n = later n
  values_back s low rest told later [] (v ∷ vs) fit n = absurd fit
  values_back s low rest told later (i ∷ is) [] fit n = absurd fit
  values_back s low rest told later (i ∷ is) (v ∷ vs) fit n =
      let more = line_texts layout (value_lines is vs) ++ rest in
      line_told n s (i ∷ is) low (RegisterLine i v) more fit.0
      ∙ ap (λ t. if t then with_value v (blocks_told layout changes (InBlocks s is low) (n + 1) more) else BlocksRefused n BlockFault) (same_number i)
      ∙ ap (with_value v) (values_back s low rest told later is vs fit.1 (n + 1))

  bytes_back : (s : ℕ) (rest : List (List ℕ)) (told : BlocksTold) → ((low n : ℕ) → blocks_told layout changes (InBlocks s [] low) n rest ≡ told) →
      (bs : List (ℕ × ℕ)) (low : ℕ) → Rises low bs → (n : ℕ) →
      blocks_told layout changes (InBlocks s [] low) n (line_texts layout (map (λ b. ByteLine b.0 b.1) bs) ++ rest) ≡ with_bytes bs told
  bytes_back s rest told later [] low rise n = later low n
  bytes_back s rest told later (b ∷ bs) low rise n =
      let more = line_texts layout (map (λ x. ByteLine x.0 x.1) bs) ++ rest in
      let fits : (nat_le low b.0 && nat_lt 0 b.1) ≡ true = grind (arith, nat_tests) in
      line_told n s [] low (ByteLine b.0 b.1) more (rise.1, omega (arith, rise.3))
      ∙ ap (λ t. if t then with_byte b.0 b.1 (blocks_told layout changes (InBlocks s [] (b.0 + 1)) (n + 1) more) else BlocksRefused n BlockFault) fits
      ∙ ap (with_byte b.0 b.1) (bytes_back s rest told later bs (b.0 + 1) rise.4 (n + 1))

  -- a block before other lines
  module _ (c : WrittenCall) (block : IsBlock layout checks c) where
    abbrev x : Changes
    x = block.contract

    abbrev values : List (List ℕ)
    values = line_texts layout (value_lines (places layout x) (values_of x c))

    abbrev bytes : List (List ℕ)
    bytes = line_texts layout (map (λ b. ByteLine b.0 b.1) c.bytes)

    abbrev block_texts : List (List ℕ)
    block_texts = line_texts layout (value_lines (places layout x) (values_of x c) ++ map (λ b. ByteLine b.0 b.1) c.bytes)

    parts : (rest : List (List ℕ)) → block_texts ++ rest ≡ values ++ (bytes ++ rest)
    parts rest =
        ap (λ (ls : List (List ℕ)). ls ++ rest)
        (map-append (λ l. joined (words_of_line layout l)) (value_lines (places layout x) (values_of x c)) (map (λ b. ByteLine b.0 b.1) c.bytes))
        ∙ append_assoc values bytes rest

    abbrev bits : List ℕ
    bits = map (λ f. bit_at f c.flags) x.flags

    registers_are : take (length x.registers) (values_of x c ++ []) ≡ c.regs
    registers_are =
        ap (take (length x.registers)) (append-nil (values_of x c)) ∙ take_at c.regs bits (length x.registers) block.count

    flags_are : flags_by x.flags (drop (length x.registers) (values_of x c ++ [])) ≡ c.flags
    flags_are =
        ap (λ (l : List ℕ). flags_by x.flags (drop (length x.registers) l)) (append-nil (values_of x c))
        ∙ ap (flags_by x.flags) (drop_at c.regs bits (length x.registers) block.count) ∙ block.flags

    abbrev call_with : List ℕ → ℕ → List (ℕ × ℕ) → WrittenCall
    call_with regs flags bytes = record { step = c.step; at = c.at; regs = regs; flags = flags; bytes = bytes }

    given : (calls : List WrittenCall) → with_call c.step c.at x (BlocksAre (values_of x c ++ []) (c.bytes ++ []) calls) ≡ BlocksAre [] [] (c ∷ calls)
    given calls =
        ap (λ (r : List ℕ). BlocksAre [] [] (call_with r (flags_by x.flags (drop (length x.registers) (values_of x c ++ []))) (c.bytes ++ []) ∷ calls))
        registers_are
        ∙ ap (λ f. BlocksAre [] [] (call_with c.regs f (c.bytes ++ []) ∷ calls)) flags_are
        ∙ ap (λ (b : List (ℕ × ℕ)). BlocksAre [] [] (call_with c.regs c.flags b ∷ calls)) (append-nil c.bytes)

    block_back : (s low n : ℕ) → s ≤ c.step → (rest : List (List ℕ)) (calls : List WrittenCall) →
        ((byte k : ℕ) → blocks_told layout changes (InBlocks (c.step + 1) [] byte) k rest ≡ BlocksAre [] [] calls) →
        blocks_told layout changes (InBlocks s [] low) n (block_lines layout x c ++ rest) ≡ BlocksAre [] [] (c ∷ calls)
    block_back s low n above rest calls later =
        let behind = block_texts ++ rest in
        let next = λ (stage : Stage). blocks_told layout changes stage (n + 1) behind in
        let fits : nat_le s c.step ≡ true = grind (arith, nat_tests) in
        ap (λ o. told_in_blocks layout changes n s [] low o next) (call_line_is layout c.step c.at block.step block.at)
        ∙ ap (λ t. begins_by layout n c.step c.at t (changes c.at) next) fits
        ∙ ap (λ o. begins_by layout n c.step c.at true o next) block.is_contract
        ∙ ap (λ (ls : List (List ℕ)). with_call c.step c.at x (blocks_told layout changes (InBlocks (c.step + 1) (places layout x) 0) (n + 1) ls)) (parts rest)
        ∙ ap (with_call c.step c.at x)
        (values_back (c.step + 1) 0 (bytes ++ rest) (with_bytes c.bytes (BlocksAre [] [] calls))
        (bytes_back (c.step + 1) rest (BlocksAre [] [] calls) later c.bytes 0 (rises 0 c.bytes block.bytes block.bytes_rise (λ some d. omega arith)))
        (places layout x) (values_of x c) (block_fits layout x c block.has block.words block.count) (n + 1))
        ∙ ap (λ told. with_call c.step c.at x (with_values (values_of x c) told)) (bytes_are c.bytes [] [] calls)
        ∙ ap (with_call c.step c.at x) (values_are (values_of x c) [] (c.bytes ++ []) calls)
        ∙ given calls

  -- all blocks before the end
  pub blocks_back : (calls : List WrittenCall) → All (IsBlock layout checks) calls → AllPairs (λ c d. c.step < d.step) calls → (s low n : ℕ) →
      (0 < length calls → (d : WrittenCall) → s ≤ (get_or calls 0 d).step) →
      blocks_told layout changes (InBlocks s [] low) n (blocks layout changes calls ++ codes "end" ∷ []) ≡ BlocksAre [] [] calls
  blocks_back [] all rising s low n first =
      line_told n s [] low EndLine [] tt
  blocks_back (c ∷ calls) all rising s low n first =
      let block = all 0 c (omega arith) in
      let rest = blocks layout changes calls ++ codes "end" ∷ [] in
      ap (λ (ls : List (List ℕ)). blocks_told layout changes (InBlocks s [] low) n ls)
      (append_assoc (block_lines layout (changes_or_none (changes c.at)) c) (blocks layout changes calls) (codes "end" ∷ []))
      ∙ ap (λ o. blocks_told layout changes (InBlocks s [] low) n (block_lines layout (changes_or_none o) c ++ rest)) block.is_contract
      ∙ block_back c block s low n (first (omega arith) c) rest calls
      (λ byte k. blocks_back calls (λ i d l. all (suc i) d (omega arith)) (λ i j d h l. rising (suc i) (suc j) d (omega arith) (omega arith)) (c.step + 1) byte k
      (λ some d. let less = rising 0 1 d (omega arith) (omega arith) in omega (arith, less)))

  -- blocks have no line feed but those that end lines
  values_feeds : (is vs : List ℕ) → AllFit layout is vs → AllNoFeed (line_texts layout (value_lines is vs))
  values_feeds [] [] fit = tt
  values_feeds [] (v ∷ vs) fit = absurd fit
  values_feeds (i ∷ is) [] fit = absurd fit
  values_feeds (i ∷ is) (v ∷ vs) fit =
      (no_feed (joined (words_of_line layout (RegisterLine i v))) (line_above layout good (RegisterLine i v) fit.0), values_feeds is vs fit.1)

  bytes_feeds : (low : ℕ) (bs : List (ℕ × ℕ)) → Rises low bs → AllNoFeed (line_texts layout (map (λ b. ByteLine b.0 b.1) bs))
  bytes_feeds low [] rise = tt
  bytes_feeds low (b ∷ bs) rise = (
    no_feed (joined (words_of_line layout (ByteLine b.0 b.1))) (line_above layout good (ByteLine b.0 b.1) (rise.1, omega (arith, rise.3))),
    bytes_feeds (b.0 + 1) bs rise.4,
  )

  block_feeds : (c : WrittenCall) (block : IsBlock layout checks c) → AllNoFeed (block_lines layout (changes_or_none (changes c.at)) c)
  block_feeds c block =
      subst (λ o. AllNoFeed (block_lines layout (changes_or_none o) c)) (sym block.is_contract) (
        no_feed (call_line c.step c.at) (call_line_above c.step c.at block.step),
        subst AllNoFeed
            (sym (map-append (λ l. joined (words_of_line layout l)) (value_lines (places layout block.contract) (values_of block.contract c))
            (map (λ b. ByteLine b.0 b.1) c.bytes)))
            (feeds-append (line_texts layout (value_lines (places layout block.contract) (values_of block.contract c)))
            (line_texts layout (map (λ b. ByteLine b.0 b.1) c.bytes))
            (values_feeds (places layout block.contract) (values_of block.contract c) (block_fits layout block.contract c block.has block.words block.count))
            (bytes_feeds 0 c.bytes (rises 0 c.bytes block.bytes block.bytes_rise (λ some d. omega arith)))),
      )

  pub blocks_feeds : (calls : List WrittenCall) → All (IsBlock layout checks) calls → AllNoFeed (blocks layout changes calls)
  blocks_feeds [] all = tt
  blocks_feeds (c ∷ calls) all =
      feeds-append (block_lines layout (changes_or_none (changes c.at)) c) (blocks layout changes calls) (block_feeds c (all 0 c (omega arith)))
      (blocks_feeds calls (λ i d l. all (suc i) d (omega arith)))
