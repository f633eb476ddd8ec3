-- What a report says by its two blocks, each of which is read as the text of a state.
use Rattle.std.proofs.Common.{◌≡◌, ℕ, suc, ◌+◌, ◌≤◌, refl, ap, sym, ◌∙◌, arith, Bool, true, false, List, [], ◌∷◌, Option, Some, None, length, map, take, drop}
use Rattle.std.specs.Prelude.{◌==◌, codes, if◌then◌else◌}
use Rattle.std.specs.Str.{bytes_eq}
use Rattle.word_spec.specs.State.{Written}
use Rattle.word_spec.specs.Texts.{in_front, split_lines}
use Rattle.machine_spec.specs.StateText.{Layout, StateText, StateLine, StateFault, Told, StateIs, StateRefused, line_of, line_refusal, end_refusal, refused_or, first_refused, told_by, told_of, state_of, NamedLine, MachineLine, RegisterLine, ByteLine, ChoiceLine, EndLine}
use Rattle.bilv_spec.specs.Points.{is_known_at}
use Rattle.pair_spec.specs.Links.{Link}
use Rattle.pair_spec.specs.Equals.{Side}
use Rattle.pair_spec.specs.Differs.{NamedDifference, some_ending, is_end, block_length, shifted, first_told, second_told, blocks_told, TwoTold, TwoStates, by_told, refused_at}
use Rattle.pair_spec.proofs.DifferenceTold.{not_said}
use Rattle.std.proofs.lemmas.Slice.Eq.{bytes_eq-Decides}
use Rattle.difference_replay.specs.Blocks.{first_text, lines_to_end}

-- ---- a block as a text

ending_said : (layout : Layout) → line_of layout first_text ≡ some_ending
ending_said layout = refl

pub read_block : (layout : Layout) (known : ℕ → Bool) (text : List ℕ) (ls : List (List ℕ)) (t : Told) → split_lines text ≡ first_text ∷ ls →
    state_of layout known text ≡ t → told_of layout known (some_ending ∷ map (line_of layout) ls) ≡ t
unfolding state_of
read_block layout known text ls t is told =
    ap (λ l. told_of layout known (l ∷ map (line_of layout) ls)) (sym (ending_said layout))
    ∙ ap (λ xs. told_of layout known (map (line_of layout) xs)) (sym is) ∙ told

-- ---- the end of a block

end_is : (layout : Layout) (l : List ℕ) (b : Bool) → bytes_eq l (codes "end") ≡ b → is_end (line_of layout l) ≡ b
end_is layout l true e = ap (λ t. is_end (line_of layout t)) ((bytes_eq-Decides l (codes "end")).0 e)
end_is layout l false e = not_said layout l (λ same. absurd (let c : false ≡ true = sym e ∙ ap (λ t. bytes_eq t (codes "end")) same in cc))

pub length_is : (layout : Layout) (ls : List (List ℕ)) → lines_to_end ls ≡ block_length (map (line_of layout) ls)
length_is layout [] = refl
length_is layout (l ∷ rest) =
    ap (λ n. if bytes_eq l (codes "end") then 1 else 1 + n) (length_is layout rest)
    ∙ ap (λ (b : Bool). if b then 1 else 1 + block_length (map (line_of layout) rest)) (sym (end_is layout l (bytes_eq l (codes "end")) refl))

-- ---- the number of a refused line

abbrev number : Option (ℕ × StateFault) → ℕ
number None = 0
number (Some r) = r.0

abbrev line_number : Told → ℕ
line_number (StateIs t) = 0
line_number (StateRefused n f) = n

module _ (layout : Layout) (known : ℕ → Bool) where
  refused_within : (before : List StateLine) (ls : List (Option StateLine)) (r : ℕ × StateFault) → first_refused layout known before ls ≡ Some r →
      r.0 ≤ length before + length ls + 1
  refused_within before [] r h = by (end_refusal layout before) h
    where
      by : (o : Option StateFault) → refused_or (length before + 1) o None ≡ Some r → r.0 ≤ length before + 0 + 1
      by (Some f) g = let e : length before + 1 ≡ r.0 = ap number g in omega (arith, e)
      by None g = absurd (cc)
  refused_within before (None ∷ rest) r h = let e : length before + 1 ≡ r.0 = ap number h in omega (arith, e)
  refused_within before (Some l ∷ rest) r h = by (line_refusal layout known before l) h (refused_within (l ∷ before) rest r)
    where
      by : (o : Option StateFault) → refused_or (length before + 1) o (first_refused layout known (l ∷ before) rest) ≡ Some r →
          (first_refused layout known (l ∷ before) rest ≡ Some r → r.0 ≤ suc (length before) + length rest + 1) → r.0 ≤ length before + suc (length rest) + 1
      by (Some f) g i = let e : length before + 1 ≡ r.0 = ap number g in omega (arith, e)
      by None g i = omega (arith, i g)

  pub told_within : (ls : List (Option StateLine)) (n : ℕ) (f : StateFault) → told_of layout known ls ≡ StateRefused n f → n ≤ length ls + 1
  told_within ls n f h = by (first_refused layout known [] ls) ls h (refused_within [] ls)
    where
      by : (o : Option (ℕ × StateFault)) (xs : List (Option StateLine)) → told_by layout o xs ≡ StateRefused n f →
          ((r : ℕ × StateFault) → o ≡ Some r → r.0 ≤ 0 + length ls + 1) → n ≤ length ls + 1
      by (Some r) xs g i = let e : r.0 ≡ n = ap line_number g in omega (arith, e, i r refl)
      by None [] g i = let e : 1 ≡ n = ap line_number g in omega (arith, e)
      by None (None ∷ xs) g i = let e : 1 ≡ n = ap line_number g in omega (arith, e)
      by None (Some (NamedLine m) ∷ xs) g i = absurd (cc)
      by None (Some MachineLine ∷ xs) g i = let e : 1 ≡ n = ap line_number g in omega (arith, e)
      by None (Some (RegisterLine a v) ∷ xs) g i = let e : 1 ≡ n = ap line_number g in omega (arith, e)
      by None (Some (ByteLine a v) ∷ xs) g i = let e : 1 ≡ n = ap line_number g in omega (arith, e)
      by None (Some (ChoiceLine s c) ∷ xs) g i = let e : 1 ≡ n = ap line_number g in omega (arith, e)
      by None (Some EndLine ∷ xs) g i = let e : 1 ≡ n = ap line_number g in omega (arith, e)

-- a text has no more lines than bytes
pub few_lines : (text : List ℕ) → length (split_lines text) ≤ length text
few_lines [] = omega arith
few_lines (b ∷ rest) = by (b == 10) (split_lines rest) (few_lines rest)
  where
    by : (c : Bool) (ls : List (List ℕ)) → length ls ≤ length rest → length (if c then [] ∷ ls else in_front b ls) ≤ suc (length rest)
    by true ls h = omega (arith, h)
    by false [] h = omega (arith, h)
    by false (l ∷ ls) h = omega (arith, h)

-- ---- both blocks

module _ (a b : Side) (links : List Link) (d : NamedDifference) (ls : List (List ℕ)) where
  abbrev first_block : Told
  first_block = told_of a.layout (is_known_at a.program) (some_ending ∷ map (line_of a.layout) (take (lines_to_end ls) ls))

  abbrev second_block : (first : Written) → TwoTold
  second_block x = second_told (1 + lines_to_end ls) x
      (told_of b.layout (is_known_at b.program) (some_ending ∷ map (line_of b.layout) (drop (lines_to_end ls) ls)))

  both : (t : Told) → first_block ≡ t → blocks_told a b ls ≡ first_told t second_block
  both t is =
      ap (λ n. first_told (told_of a.layout (is_known_at a.program) (some_ending ∷ map (line_of a.layout) (take n ls)))
      (λ x. second_told (1 + n) x (told_of b.layout (is_known_at b.program) (some_ending ∷ map (line_of b.layout) (drop n ls)))))
      (sym (length_is a.layout ls))
      ∙ ap (λ o. first_told o second_block) is

  pub first_is_refused : (n : ℕ) (f : StateFault) → first_block ≡ StateRefused n f → refused_at n f ≡ by_told a b links d (blocks_told a b ls)
  first_is_refused n f is = ap (by_told a b links d) (sym (both (StateRefused n f) is))

  pub first_is_told : (t : StateText) (n : ℕ) (rest : List (List ℕ)) → first_block ≡ StateIs t → n ≡ lines_to_end ls → rest ≡ drop (lines_to_end ls) ls →
      by_told a b links d (second_told (1 + n) t.start (told_of b.layout (is_known_at b.program) (some_ending ∷ map (line_of b.layout) rest)))
      ≡ by_told a b links d (blocks_told a b ls)
  first_is_told t n rest is e after =
      ap (λ m. by_told a b links d (second_told (1 + m) t.start (told_of b.layout (is_known_at b.program) (some_ending ∷ map (line_of b.layout) rest)))) e
      ∙ ap (λ r. by_told a b links d
      (second_told (1 + lines_to_end ls) t.start (told_of b.layout (is_known_at b.program) (some_ending ∷ map (line_of b.layout) r)))) after
      ∙ ap (by_told a b links d) (sym (both (StateIs t) is))

-- the second block, after so many lines
module _ (a b : Side) (links : List Link) (d : NamedDifference) (x : Written) (before : ℕ) (told : Told) where
  pub second_is_refused : (n : ℕ) (f : StateFault) → told ≡ StateRefused n f →
      refused_at (before + n) f ≡ by_told a b links d (second_told (1 + before) x told)
  second_is_refused n f is =
      let e : before + n ≡ shifted (1 + before) n = omega arith in
      ap (λ m. refused_at m f) e ∙ ap (λ t. by_told a b links d (second_told (1 + before) x t)) (sym is)

  pub second_is_told : (t : StateText) → told ≡ StateIs t →
      by_told a b links d (TwoStates x t.start) ≡ by_told a b links d (second_told (1 + before) x told)
  second_is_told t is = ap (λ o. by_told a b links d (second_told (1 + before) x o)) (sym is)

-- how far down a line is refused
mapped : (layout : Layout) (ls : List (List ℕ)) → length (map (line_of layout) ls) ≡ length ls
mapped layout [] = refl
mapped layout (l ∷ ls) = ap suc (mapped layout ls)

pub refused_soon : (layout : Layout) (known : ℕ → Bool) (text : List ℕ) (n : ℕ) (f : StateFault) →
    told_of layout known (some_ending ∷ map (line_of layout) (split_lines text)) ≡ StateRefused n f → n ≤ length text + 2
refused_soon layout known text n f is =
    let within : n ≤ suc (length (map (line_of layout) (split_lines text))) + 1 =
    told_within layout known (some_ending ∷ map (line_of layout) (split_lines text)) n f is in
    omega (arith, within, mapped layout (split_lines text), few_lines text)
