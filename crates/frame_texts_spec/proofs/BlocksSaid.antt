-- Lines that say blocks are those that are printed of them, which can be written.
use Rattle.std.proofs.Common.{◌≡◌, ℕ, zero, suc, ◌+◌, ◌-◌, ◌^◌, ◌<◌, ◌≤◌, refl, ap, sym, ◌∙◌, subst, arith, Bool, true, false, List, [], ◌∷◌, ◌++◌, Option, Some, None, length, length-append, length-drop, length-take-le, map, get_or, take, drop, append_assoc}
use Rattle.std.specs.Prelude.{All, AllPairs, ◌&&◌, nat_le, nat_lt, codes, if◌then◌else◌}
use Rattle.std.proofs.lemmas.Bool.Decides.{nat_tests}
use Rattle.std.proofs.lemmas.List.{length-map, take-append-drop}
use Rattle.std.proofs.lemmas.List.Elements.{All-cons, All-nil}
use Rattle.std.specs.Str.{bytes_eq}
use Rattle.std.proofs.lemmas.Slice.Eq.{bytes_eq-Decides}
use Rattle.word_spec.specs.Words.{bit_at}
use Rattle.word_spec.specs.Texts.{at_most, decimal_word, hex_word, joined, number_text, words_in}
use Rattle.machine_spec.specs.StateText.{AreRising, Layout, StateLine, NamedLine, MachineLine, RegisterLine, ByteLine, ChoiceLine, EndLine, both, last_step, line_of, value_names, words_of_line}
use Rattle.machine_spec.proofs.StateLines.{and_true}
use Rattle.machine_spec.proofs.StateSaid.{joined_words, line_said}
use Rattle.frame_spec.specs.FrameReports.{WrittenCall}
use Rattle.frame_texts_spec.specs.FrameTexts.{Mark, line_texts, mark_of}
use Rattle.frame_texts_spec.specs.CallTexts.{BeginsBlock, AfterEnd, BlockFault, BlockLine, BlocksAre, BlocksRefused, BlocksTold, CallChecks, CallTextFault, Changes, HasChanges, InBlocks, IsBlock, OfHead, OfStart, Stage, begins_by, block_line_by, block_line_of, block_lines, blocks, blocks_told, call_in, call_line, call_of, changes_or_none, flags_by, is_due, none_due, places, told_at, told_in_blocks, value_lines, values_of, with_byte, with_call, with_value}
use Rattle.frame_texts_spec.proofs.BitsSaid.{Bits, bits_said}
use Rattle.frame_texts_spec.proofs.BlocksBack.{AllFit, Rises}
use Rattle.frame_texts_spec.proofs.WordsSaid.{both_is, bounded_is, hex_is, none_is, some_is}

-- ---- lines

-- a line that begins a block
pub record IsCallLine (ws : List (List ℕ)) (x : ℕ × ℕ) : Type 0 where
  pub words : joined ws ≡ call_line x.0 x.1
  pub step : x.0 ≤ last_step
  pub at : x.1 < 2 ^ 32

call_words_said : (ws : List (List ℕ)) (x : ℕ × ℕ) → call_in ws ≡ Some x → IsCallLine ws x
call_words_said [] x e = none_is x e
call_words_said (w ∷ []) x e = none_is x e
call_words_said (w ∷ s ∷ []) x e = none_is x e
call_words_said (w ∷ s ∷ a ∷ b ∷ ws) x e = none_is x e
call_words_said (w ∷ s ∷ a ∷ []) x e = by_word (bytes_eq w (codes "call")) refl e
  where
    by_word : (t : Bool) → bytes_eq w (codes "call") ≡ t →
        (if t then both (at_most last_step (decimal_word s)) (hex_word 8 a) else None) ≡ Some x → IsCallLine (w ∷ s ∷ a ∷ []) x
    by_word false is e = none_is x e
    by_word true is e =
        let parts = both_is (at_most last_step (decimal_word s)) (hex_word 8 a) x e in
        let step = bounded_is last_step s x.0 (omega arith) parts.0 in
        let at = hex_is a x.1 parts.1 in
        record {
          words =
              ap (λ y. joined (y ∷ s ∷ a ∷ [])) ((bytes_eq-Decides w (codes "call")).0 is)
              ∙ ap (λ y. joined (codes "call" ∷ y ∷ a ∷ [])) step.0 ∙ ap (λ y. joined (codes "call" ∷ number_text x.0 ∷ y ∷ [])) at.0;
          step = step.1;
          at = at.1;
        }

-- what is said of a line in the blocks
abbrev IsLineSaid : Layout → List ℕ → BlockLine → Type 0
IsLineSaid layout text (BeginsBlock s a) = (text ≡ call_line s a) × (s ≤ last_step) × (a < 2 ^ 32)
IsLineSaid layout text (OfStart l) = line_of layout text ≡ Some l
IsLineSaid layout text (OfHead m) = Unit {0}

block_line_said : (layout : Layout) (text : List ℕ) (l : BlockLine) → block_line_of layout text ≡ Some l → IsLineSaid layout text l
block_line_said layout text l e = by_call (call_of text) refl e
  where
    by_mark : (m : Option Mark) → block_line_by None None m ≡ Some l → IsLineSaid layout text l
    by_mark None e = none_is l e
    by_mark (Some m) e = subst (IsLineSaid layout text) (some_is (OfHead m) l e) tt

    by_line : (o : Option StateLine) → line_of layout text ≡ o → block_line_by None o (mark_of layout text) ≡ Some l → IsLineSaid layout text l
    by_line None is e = by_mark (mark_of layout text) e
    by_line (Some k) is e = subst (IsLineSaid layout text) (some_is (OfStart k) l e) is

    by_call : (o : Option (ℕ × ℕ)) → call_of text ≡ o → block_line_by o (line_of layout text) (mark_of layout text) ≡ Some l → IsLineSaid layout text l
    by_call None is e = by_line (line_of layout text) refl e
    by_call (Some x) is e =
        let said = call_words_said (words_in text) x is in
        subst (IsLineSaid layout text) (some_is (BeginsBlock x.0 x.1) l e) (sym (joined_words text) ∙ said.words, said.step, said.at)

-- ---- values

fit_count : (layout : Layout) (is vs : List ℕ) → AllFit layout is vs → length vs ≡ length is
fit_count layout [] [] fit = refl
fit_count layout [] (v ∷ vs) fit = absurd fit
fit_count layout (i ∷ is) [] fit = absurd fit
fit_count layout (i ∷ is) (v ∷ vs) fit = ap suc (fit_count layout is vs fit.1)

module _ (layout : Layout) where
  abbrev names : ℕ
  names = length (value_names layout)

  -- the values of registers
  words_fit : (registers more vs : List ℕ) → All (λ r. (layout.first ≤ r) × (r - layout.first < length layout.registers)) registers →
      AllFit layout (map (λ r. r - layout.first) registers ++ more) vs → All (λ v. v < 2 ^ 32) (take (length registers) vs)
  words_fit [] more vs has fit = All-nil (λ v. v < 2 ^ 32)
  words_fit (r ∷ rs) more [] has fit = absurd fit
  words_fit (r ∷ rs) more (v ∷ vs) has fit =
      All-cons (λ v. v < 2 ^ 32) v (take (length rs) vs) (fit.0.1 (has 0 r (omega arith)).1) (words_fit rs more vs (λ k d l. has (suc k) d (omega arith)) fit.1)

  -- those of flags
  bits_fit : (flags vs : List ℕ) → All (λ f. f < length layout.flags) flags → AllFit layout (map (λ f. names - 1 - f) flags) vs → Bits vs
  bits_fit [] [] low fit = tt
  bits_fit [] (v ∷ vs) low fit = absurd fit
  bits_fit (f ∷ flags) [] low fit = absurd fit
  bits_fit (f ∷ flags) (v ∷ vs) low fit =
      let count : names ≡ length layout.registers + length layout.flags = length-append layout.registers layout.flags in
      let small : f < length layout.flags = low 0 f (omega arith) in
      (fit.0.2 (omega (arith, count, small)), bits_fit flags vs (λ k d l. low (suc k) d (omega arith)) fit.1)

  -- those after some places
  fit_behind : (is more vs : List ℕ) → AllFit layout (is ++ more) vs → AllFit layout more (drop (length is) vs)
  fit_behind [] more vs fit = fit
  fit_behind (i ∷ is) more [] fit = absurd fit
  fit_behind (i ∷ is) more (v ∷ vs) fit = fit_behind is more vs fit.1

-- ---- blocks

-- what lines say with one thing in front
with_value_said : (v : ℕ) (told : BlocksTold) (values : List ℕ) (bytes : List (ℕ × ℕ)) (calls : List WrittenCall) →
    with_value v told ≡ BlocksAre values bytes calls → (rest : List ℕ) × (told ≡ BlocksAre rest bytes calls) × (v ∷ rest ≡ values)
with_value_said v (BlocksRefused n f) values bytes calls e = absurd (let z : BlocksRefused n f ≡ BlocksAre values bytes calls = e in cc)
with_value_said v (BlocksAre vs bs cs) values bytes calls e =
    let z : BlocksAre (v ∷ vs) bs cs ≡ BlocksAre values bytes calls = e in
    let same : bs ≡ bytes = cc in
    let also : cs ≡ calls = cc in
    (vs, ap (λ (b : List (ℕ × ℕ)). BlocksAre vs b cs) same ∙ ap (BlocksAre vs bytes) also, cc)

with_byte_said : (a v : ℕ) (told : BlocksTold) (values : List ℕ) (bytes : List (ℕ × ℕ)) (calls : List WrittenCall) →
    with_byte a v told ≡ BlocksAre values bytes calls → (rest : List (ℕ × ℕ)) × (told ≡ BlocksAre values rest calls) × ((a, v) ∷ rest ≡ bytes)
with_byte_said a v (BlocksRefused n f) values bytes calls e = absurd (let z : BlocksRefused n f ≡ BlocksAre values bytes calls = e in cc)
with_byte_said a v (BlocksAre vs bs cs) values bytes calls e =
    let z : BlocksAre vs ((a, v) ∷ bs) cs ≡ BlocksAre values bytes calls = e in
    let same : vs ≡ values = cc in
    let also : cs ≡ calls = cc in
    (bs, ap (λ (x : List ℕ). BlocksAre x bs cs) same ∙ ap (BlocksAre values bs) also, cc)

-- the block that values and bytes make
abbrev made : (step at : ℕ) → Changes → List ℕ → List (ℕ × ℕ) → WrittenCall
made step at x vs bs = record {
  step = step;
  at = at;
  regs = take (length x.registers) vs;
  flags = flags_by x.flags (drop (length x.registers) vs);
  bytes = bs;
}

record IsBegun (step at : ℕ) (x : Changes) (told : BlocksTold) (values : List ℕ) (bytes : List (ℕ × ℕ)) (calls : List WrittenCall) : Type 0 where
  values_given : List ℕ
  bytes_given : List (ℕ × ℕ)
  later : List WrittenCall
  told_is : told ≡ BlocksAre values_given bytes_given later
  no_values : [] ≡ values
  no_bytes : [] ≡ bytes
  calls_are : made step at x values_given bytes_given ∷ later ≡ calls

with_call_said : (step at : ℕ) (x : Changes) (told : BlocksTold) (values : List ℕ) (bytes : List (ℕ × ℕ)) (calls : List WrittenCall) →
    with_call step at x told ≡ BlocksAre values bytes calls → IsBegun step at x told values bytes calls
with_call_said step at x (BlocksRefused n f) values bytes calls e = absurd (let z : BlocksRefused n f ≡ BlocksAre values bytes calls = e in cc)
with_call_said step at x (BlocksAre vs bs cs) values bytes calls e =
    let z : BlocksAre [] [] (made step at x vs bs ∷ cs) ≡ BlocksAre values bytes calls = e in
    record { values_given = vs; bytes_given = bs; later = cs; told_is = refl; no_values = cc; no_bytes = cc; calls_are = cc }

-- one number is another
same_place : (i : ℕ) (due : List ℕ) → is_due i due ≡ true → i ∷ drop 1 due ≡ due
same_place i [] e = let z : false ≡ true = e in cc
same_place i (j ∷ due) e = let same : i ≡ j = grind (arith, nat_tests, e) in ap (λ k. k ∷ due) same

no_due : (due : List ℕ) → none_due due ≡ true → due ≡ []
no_due [] e = refl
no_due (j ∷ due) e = let z : false ≡ true = e in cc

-- bytes that rise, element by element
rises_from : (low : ℕ) (bs : List (ℕ × ℕ)) → Rises low bs → (k : ℕ) (d : ℕ × ℕ) → k < length bs → low ≤ (get_or bs k d).0
rises_from low [] rise k d l = absurd (omega arith)
rises_from low (b ∷ bs) rise zero d l = rise.0
rises_from low (b ∷ bs) rise (suc k) d l =
    let more = rises_from (b.0 + 1) bs rise.4 k d (omega arith) in omega (arith, more, rise.0)

all_bytes : (low : ℕ) (bs : List (ℕ × ℕ)) → Rises low bs → All (λ b. (b.0 < 2 ^ 32) × (1 ≤ b.1) × (b.1 ≤ 255)) bs
all_bytes low [] rise = All-nil (λ b. (b.0 < 2 ^ 32) × (1 ≤ b.1) × (b.1 ≤ 255))
all_bytes low (b ∷ bs) rise =
    All-cons (λ b. (b.0 < 2 ^ 32) × (1 ≤ b.1) × (b.1 ≤ 255)) b bs (rise.1, rise.2, rise.3) (all_bytes (b.0 + 1) bs rise.4)

bytes_rise : (low : ℕ) (bs : List (ℕ × ℕ)) → Rises low bs → AreRising bs
bytes_rise low [] rise i j d h k = absurd (omega arith)
bytes_rise low (b ∷ bs) rise zero zero d h k = absurd (omega arith)
bytes_rise low (b ∷ bs) rise zero (suc j) d h k = let more = rises_from (b.0 + 1) bs rise.4 j d (omega arith) in omega (arith, more)
bytes_rise low (b ∷ bs) rise (suc i) zero d h k = absurd (omega arith)
bytes_rise low (b ∷ bs) rise (suc i) (suc j) d h k = bytes_rise (b.0 + 1) bs rise.4 i j d (omega arith) (omega arith)

module _ (layout : Layout) (checks : CallChecks) (fits : (a : ℕ) (x : Changes) → checks.changes a ≡ Some x → HasChanges layout x) where
  abbrev changes : ℕ → Option Changes
  changes = checks.changes

  -- blocks whose steps rise from one on
  abbrev From : (step : ℕ) → List WrittenCall → Type 0
  From s [] = Unit {0}
  From s (c ∷ calls) = (s ≤ c.step) × IsBlock layout checks c × From (c.step + 1) calls

  record IsInSaid (s : ℕ) (due : List ℕ) (low : ℕ) (ls : List (List ℕ)) (values : List ℕ) (bytes : List (ℕ × ℕ)) (calls : List WrittenCall) : Type 0 where
    lines : ls
        ≡ line_texts layout (value_lines due values ++ map (λ b. ByteLine b.0 b.1) bytes) ++ (blocks layout changes calls ++ codes "end" ∷ [])
    fit : AllFit layout due values
    rise : Rises low bytes
    from : From s calls

  record IsAfterSaid (ls : List (List ℕ)) (values : List ℕ) (bytes : List (ℕ × ℕ)) (calls : List WrittenCall) : Type 0 where
    none : ls ≡ []
    no_values : [] ≡ values
    no_bytes : [] ≡ bytes
    no_calls : [] ≡ calls

  abbrev IsSaidAt : Stage → List (List ℕ) → List ℕ → List (ℕ × ℕ) → List WrittenCall → Type 0
  IsSaidAt (InBlocks s due low) ls values bytes calls = IsInSaid s due low ls values bytes calls
  IsSaidAt AfterEnd ls values bytes calls = IsAfterSaid ls values bytes calls

  -- the block that values and bytes make can be written
  module _ (step at : ℕ) (x : Changes) (vs : List ℕ) (bs : List (ℕ × ℕ)) (has : HasChanges layout x) (fit : AllFit layout (places layout x) vs) where
    abbrev k : ℕ
    k = length x.registers

    abbrev bits : List ℕ
    bits = drop k vs

    abbrev c : WrittenCall
    c = made step at x vs bs

    abbrev register_places : List ℕ
    register_places = map (λ r. r - layout.first) x.registers

    abbrev flag_places : List ℕ
    flag_places = map (λ f. length (value_names layout) - 1 - f) x.flags

    count : length vs ≡ k + length x.flags
    count =
        fit_count layout (places layout x) vs fit ∙ length-append register_places flag_places
        ∙ ap (λ n. n + length flag_places) (length-map x.registers (λ r. r - layout.first))
        ∙ ap (λ n. k + n) (length-map x.flags (λ f. length (value_names layout) - 1 - f))

    bits_good : Bits bits
    bits_good =
        bits_fit layout x.flags bits has.flags
        (subst (λ n. AllFit layout flag_places (drop n vs)) (length-map x.registers (λ r. r - layout.first))
        (fit_behind layout register_places flag_places vs fit))

    bits_are : map (λ f. bit_at f c.flags) x.flags ≡ bits
    bits_are =
        let many : length bits ≡ length x.flags = omega (arith, length-drop k vs, count) in bits_said x.flags bits many has.flags_fall bits_good

    made_values : values_of x c ≡ vs
    made_values = ap (λ (l : List ℕ). take k vs ++ l) bits_are ∙ take-append-drop k vs

    made_block : step ≤ last_step → at < 2 ^ 32 → checks.changes at ≡ Some x → Rises 0 bs → IsBlock layout checks c
    made_block small word is rise = record {
      step = small;
      at = word;
      contract = x;
      is_contract = is;
      has = has;
      count = length-take-le k vs (omega (arith, count));
      words = words_fit layout x.registers flag_places vs has.registers fit;
      flags = ap (flags_by x.flags) bits_are;
      bytes = all_bytes 0 bs rise;
      bytes_rise = bytes_rise 0 bs rise;
    }

  -- one line more
  abbrev text_of : StateLine → List ℕ
  text_of l = joined (words_of_line layout l)

  value_in : (s low i v : ℕ) (due : List ℕ) (text : List ℕ) (rest : List (List ℕ)) (vs : List ℕ) (bs : List (ℕ × ℕ)) (calls : List WrittenCall) →
      line_of layout text ≡ Some (RegisterLine i v) → IsInSaid s due low rest vs bs calls → IsInSaid s (i ∷ due) low (text ∷ rest) (v ∷ vs) bs calls
  value_in s low i v due text rest vs bs calls is said =
      let here = line_said layout text (RegisterLine i v) is tt in
      record {
        lines = ap (λ (t : List ℕ). t ∷ rest) here.1 ∙ ap (λ (ls : List (List ℕ)). text_of (RegisterLine i v) ∷ ls) said.lines;
        fit = (here.0, said.fit);
        rise = said.rise;
        from = said.from;
      }

  byte_in : (s low a v : ℕ) (text : List ℕ) (rest : List (List ℕ)) (vs : List ℕ) (bs : List (ℕ × ℕ)) (calls : List WrittenCall) →
      line_of layout text ≡ Some (ByteLine a v) → low ≤ a → 0 < v → IsInSaid s [] (a + 1) rest vs bs calls →
      IsInSaid s [] low (text ∷ rest) vs ((a, v) ∷ bs) calls
  byte_in s low a v text rest vs bs calls is above some said =
      let here = line_said layout text (ByteLine a v) is tt in
      record {
        lines = ap (λ (t : List ℕ). t ∷ rest) here.1 ∙ ap (λ (ls : List (List ℕ)). text_of (ByteLine a v) ∷ ls) said.lines;
        fit = said.fit;
        rise = (above, here.0.0, some, omega (arith, here.0.1), said.rise);
        from = said.from;
      }

  end_in : (s low : ℕ) (text : List ℕ) (rest : List (List ℕ)) → line_of layout text ≡ Some EndLine → rest ≡ [] → IsInSaid s [] low (text ∷ rest) [] [] []
  end_in s low text rest is none = record {
    lines = ap (λ (ls : List (List ℕ)). text ∷ ls) none ∙ ap (λ (t : List ℕ). t ∷ []) (line_said layout text EndLine is tt).1;
    fit = tt;
    rise = tt;
    from = tt;
  }

  begins_in : (s low step at : ℕ) (x : Changes) (text : List ℕ) (rest : List (List ℕ)) (vs : List ℕ) (bs : List (ℕ × ℕ)) (calls : List WrittenCall) →
      (text ≡ call_line step at) × (step ≤ last_step) × (at < 2 ^ 32) → s ≤ step → checks.changes at ≡ Some x →
      IsInSaid (step + 1) (places layout x) 0 rest vs bs calls → IsInSaid s [] low (text ∷ rest) [] [] (made step at x vs bs ∷ calls)
  begins_in s low step at x text rest vs bs calls line above is said =
      let c = made step at x vs bs in
      let has = fits at x is in
      let end = codes "end" ∷ [] in
      let bytes = map (λ b. ByteLine b.0 b.1) bs in
      let later = blocks layout changes calls ++ end in
      record {
        lines =
            ap (λ (t : List ℕ). t ∷ rest) line.0 ∙ ap (λ (ls : List (List ℕ)). call_line step at ∷ ls) said.lines
            ∙ ap (λ (l : List ℕ). call_line step at ∷ (line_texts layout (value_lines (places layout x) l ++ bytes) ++ later))
            (sym (made_values step at x vs bs has said.fit))
            ∙ sym (append_assoc (block_lines layout x c) (blocks layout changes calls) end)
            ∙ ap (λ (o : Option Changes). (block_lines layout (changes_or_none o) c ++ blocks layout changes calls) ++ end) (sym is);
        fit = tt;
        rise = tt;
        from = (above, made_block step at x vs bs has said.fit line.1 line.2 is said.rise, said.from);
      }

  refused : {P : Type 0} (n : ℕ) (f : CallTextFault) (vs : List ℕ) (bs : List (ℕ × ℕ)) (calls : List WrittenCall) →
      BlocksRefused n f ≡ BlocksAre vs bs calls → P
  refused n f vs bs calls e = absurd (let z : BlocksRefused n f ≡ BlocksAre vs bs calls = e in cc)

  -- a line, by what is said after it
  module _ (n : ℕ) (text : List ℕ) (rest : List (List ℕ))
      (later : (next : Stage) (vs : List ℕ) (bs : List (ℕ × ℕ)) (calls : List WrittenCall) →
      blocks_told layout checks.changes next (n + 1) rest ≡ BlocksAre vs bs calls → IsSaidAt next rest vs bs calls) where
    abbrev told : Stage → BlocksTold
    told next = blocks_told layout checks.changes next (n + 1) rest

    module _ (s : ℕ) (due : List ℕ) (low : ℕ) (vs : List ℕ) (bs : List (ℕ × ℕ)) (calls : List WrittenCall) where
      abbrev Right : Type 0
      Right = IsInSaid s due low (text ∷ rest) vs bs calls

      value_by : (i v : ℕ) → line_of layout text ≡ Some (RegisterLine i v) → (t : Bool) → is_due i due ≡ t →
          (if t then with_value v (told (InBlocks s (drop 1 due) low)) else BlocksRefused n BlockFault) ≡ BlocksAre vs bs calls → Right
      value_by i v is false t e = refused n BlockFault vs bs calls e
      value_by i v is true t e =
          let said = with_value_said v (told (InBlocks s (drop 1 due) low)) vs bs calls e in
          subst (λ (d : List ℕ). IsInSaid s d low (text ∷ rest) vs bs calls) (same_place i due t)
          (subst (λ (x : List ℕ). IsInSaid s (i ∷ drop 1 due) low (text ∷ rest) x bs calls) said.2
          (value_in s low i v (drop 1 due) text rest said.0 bs calls is (later (InBlocks s (drop 1 due) low) said.0 bs calls said.1)))

      byte_by : (a v : ℕ) → line_of layout text ≡ Some (ByteLine a v) → (t : Bool) → (none_due due && nat_le low a && nat_lt 0 v) ≡ t →
          (if t then with_byte a v (told (InBlocks s [] (a + 1))) else BlocksRefused n BlockFault) ≡ BlocksAre vs bs calls → Right
      byte_by a v is false t e = refused n BlockFault vs bs calls e
      byte_by a v is true t e =
          let said = with_byte_said a v (told (InBlocks s [] (a + 1))) vs bs calls e in
          let tests = and_true (none_due due && nat_le low a) (nat_lt 0 v) t in
          let first = and_true (none_due due) (nat_le low a) tests.0 in
          let above : low ≤ a = grind (arith, nat_tests, first.1) in
          let some : 0 < v = grind (arith, nat_tests, tests.1) in
          subst (λ (d : List ℕ). IsInSaid s d low (text ∷ rest) vs bs calls) (sym (no_due due first.0))
          (subst (λ (x : List (ℕ × ℕ)). IsInSaid s [] low (text ∷ rest) vs x calls) said.2
          (byte_in s low a v text rest vs said.0 calls is above some (later (InBlocks s [] (a + 1)) vs said.0 calls said.1)))

      end_by : line_of layout text ≡ Some EndLine → (t : Bool) → none_due due ≡ t →
          (if t then told AfterEnd else BlocksRefused n BlockFault) ≡ BlocksAre vs bs calls → Right
      end_by is false t e = refused n BlockFault vs bs calls e
      end_by is true t e =
          let said = later AfterEnd vs bs calls e in
          subst (λ (d : List ℕ). IsInSaid s d low (text ∷ rest) vs bs calls) (sym (no_due due t))
          (subst (λ (x : List ℕ). IsInSaid s [] low (text ∷ rest) x bs calls) said.no_values
          (subst (λ (x : List (ℕ × ℕ)). IsInSaid s [] low (text ∷ rest) [] x calls) said.no_bytes
          (subst (λ (x : List WrittenCall). IsInSaid s [] low (text ∷ rest) [] [] x) said.no_calls (end_in s low text rest is said.none))))

      begins_said : (step at : ℕ) → (text ≡ call_line step at) × (step ≤ last_step) × (at < 2 ^ 32) → (t : Bool) → (none_due due && nat_le s step) ≡ t →
          (o : Option Changes) → checks.changes at ≡ o → begins_by layout n step at t o told ≡ BlocksAre vs bs calls → Right
      begins_said step at line false t o is e = refused n BlockFault vs bs calls e
      begins_said step at line true t None is e = refused n BlockFault vs bs calls e
      begins_said step at line true t (Some x) is e =
          let begun = with_call_said step at x (told (InBlocks (step + 1) (places layout x) 0)) vs bs calls e in
          let tests = and_true (none_due due) (nat_le s step) t in
          let above : s ≤ step = grind (arith, nat_tests, tests.1) in
          subst (λ (d : List ℕ). IsInSaid s d low (text ∷ rest) vs bs calls) (sym (no_due due tests.0))
          (subst (λ (y : List ℕ). IsInSaid s [] low (text ∷ rest) y bs calls) begun.no_values
          (subst (λ (y : List (ℕ × ℕ)). IsInSaid s [] low (text ∷ rest) [] y calls) begun.no_bytes
          (subst (λ (y : List WrittenCall). IsInSaid s [] low (text ∷ rest) [] [] y) begun.calls_are
          (begins_in s low step at x text rest begun.values_given begun.bytes_given begun.later line above is
          (later (InBlocks (step + 1) (places layout x) 0) begun.values_given begun.bytes_given begun.later begun.told_is)))))

      in_blocks : (o : Option BlockLine) → block_line_of layout text ≡ o → told_in_blocks layout checks.changes n s due low o told ≡ BlocksAre vs bs calls → Right
      in_blocks None is e = refused n _ vs bs calls e
      in_blocks (Some (BeginsBlock step at)) is e =
          begins_said step at (block_line_said layout text (BeginsBlock step at) is) (none_due due && nat_le s step) refl (checks.changes at) refl e
      in_blocks (Some (OfHead m)) is e = refused n _ vs bs calls e
      in_blocks (Some (OfStart (NamedLine x))) is e = refused n _ vs bs calls e
      in_blocks (Some (OfStart MachineLine)) is e = refused n _ vs bs calls e
      in_blocks (Some (OfStart (RegisterLine i v))) is e =
          value_by i v (block_line_said layout text (OfStart (RegisterLine i v)) is) (is_due i due) refl e
      in_blocks (Some (OfStart (ByteLine a v))) is e =
          byte_by a v (block_line_said layout text (OfStart (ByteLine a v)) is) (none_due due && nat_le low a && nat_lt 0 v) refl e
      in_blocks (Some (OfStart (ChoiceLine x k))) is e = refused n _ vs bs calls e
      in_blocks (Some (OfStart EndLine)) is e = end_by (block_line_said layout text (OfStart EndLine) is) (none_due due) refl e

    at_stage : (stage : Stage) (vs : List ℕ) (bs : List (ℕ × ℕ)) (calls : List WrittenCall) →
        told_at layout checks.changes n stage (block_line_of layout text) told ≡ BlocksAre vs bs calls → IsSaidAt stage (text ∷ rest) vs bs calls
    at_stage (InBlocks s due low) vs bs calls e = in_blocks s due low vs bs calls (block_line_of layout text) refl e
    at_stage AfterEnd vs bs calls e = refused n _ vs bs calls e

  no_line : (vs : List ℕ) (bs : List (ℕ × ℕ)) (calls : List WrittenCall) → BlocksAre [] [] [] ≡ BlocksAre vs bs calls → IsAfterSaid [] vs bs calls
  no_line vs bs calls e = record { none = refl; no_values = cc; no_bytes = cc; no_calls = cc }

  lines_said : (ls : List (List ℕ)) (stage : Stage) (n : ℕ) (vs : List ℕ) (bs : List (ℕ × ℕ)) (calls : List WrittenCall) →
      blocks_told layout checks.changes stage n ls ≡ BlocksAre vs bs calls → IsSaidAt stage ls vs bs calls
  lines_said [] (InBlocks s due low) n vs bs calls e = refused n _ vs bs calls e
  lines_said [] AfterEnd n vs bs calls e = no_line vs bs calls e
  lines_said (text ∷ rest) stage n vs bs calls e =
      at_stage n text rest (λ next us as' cs k. lines_said rest next (n + 1) us as' cs k) stage vs bs calls e

  -- blocks whose steps rise
  all_blocks : (s : ℕ) (calls : List WrittenCall) → From s calls → All (IsBlock layout checks) calls
  all_blocks s [] from = All-nil (IsBlock layout checks)
  all_blocks s (c ∷ calls) from = All-cons (IsBlock layout checks) c calls from.1 (all_blocks (c.step + 1) calls from.2)

  from_step : (s : ℕ) (calls : List WrittenCall) → From s calls → (k : ℕ) (d : WrittenCall) → k < length calls → s ≤ (get_or calls k d).step
  from_step s [] from k d l = absurd (omega arith)
  from_step s (c ∷ calls) from zero d l = from.0
  from_step s (c ∷ calls) from (suc k) d l = let more = from_step (c.step + 1) calls from.2 k d (omega arith) in omega (arith, more, from.0)

  steps_rise : (s : ℕ) (calls : List WrittenCall) → From s calls → AllPairs (λ x y. x.step < y.step) calls
  steps_rise s [] from i j d h k = absurd (omega arith)
  steps_rise s (c ∷ calls) from zero zero d h k = absurd (omega arith)
  steps_rise s (c ∷ calls) from zero (suc j) d h k = let more = from_step (c.step + 1) calls from.2 j d (omega arith) in omega (arith, more)
  steps_rise s (c ∷ calls) from (suc i) zero d h k = absurd (omega arith)
  steps_rise s (c ∷ calls) from (suc i) (suc j) d h k = steps_rise (c.step + 1) calls from.2 i j d (omega arith) (omega arith)

  -- all blocks of a text
  pub record AreBlocksSaid (ls : List (List ℕ)) (calls : List WrittenCall) : Type 0 where
    pub lines : ls ≡ blocks layout checks.changes calls ++ codes "end" ∷ []
    pub each : All (IsBlock layout checks) calls
    pub rise : AllPairs (λ x y. x.step < y.step) calls

  -- what begins with a block has no byte before it
  first_begins : (step at n : ℕ) (vs : List ℕ) (bs : List (ℕ × ℕ)) (calls : List WrittenCall) (t : Bool) (o : Option Changes)
      (later : Stage → BlocksTold) → begins_by layout n step at t o later ≡ BlocksAre vs bs calls → [] ≡ bs
  first_begins step at n vs bs calls false o later e = refused n BlockFault vs bs calls e
  first_begins step at n vs bs calls true None later e = refused n BlockFault vs bs calls e
  first_begins step at n vs bs calls true (Some x) later e =
      (with_call_said step at x (later (InBlocks (step + 1) (places layout x) 0)) vs bs calls e).no_bytes

  pub blocks_said : (text : List ℕ) (rest : List (List ℕ)) (x : ℕ × ℕ) (n : ℕ) (vs : List ℕ) (bs : List (ℕ × ℕ)) (calls : List WrittenCall) →
      call_of text ≡ Some x → blocks_told layout checks.changes (InBlocks 0 [] 0) n (text ∷ rest) ≡ BlocksAre vs bs calls →
      AreBlocksSaid (text ∷ rest) calls
  blocks_said text rest x n vs bs calls is e =
      let told = λ (next : Stage). blocks_told layout checks.changes next (n + 1) rest in
      let line : block_line_of layout text ≡ Some (BeginsBlock x.0 x.1) = ap (λ o. block_line_by o (line_of layout text) (mark_of layout text)) is in
      let none = first_begins x.0 x.1 n vs bs calls (nat_le 0 x.0) (checks.changes x.1) told
      (sym (ap (λ o. told_in_blocks layout checks.changes n 0 [] 0 o told) line) ∙ e) in
      let said = lines_said (text ∷ rest) (InBlocks 0 [] 0) n vs bs calls e in
      record {
        lines = said.lines
            ∙ ap (λ (l : List (ℕ × ℕ)). line_texts layout (map (λ b. ByteLine b.0 b.1) l) ++ (blocks layout checks.changes calls ++ codes "end" ∷ [])) (sym none);
        each = all_blocks 0 calls said.from;
        rise = steps_rise 0 calls said.from;
      }
