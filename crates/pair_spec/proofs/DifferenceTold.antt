-- The text of a right difference is replayed.
use Rattle.std.proofs.Common.{◌≡◌, ℕ, suc, ◌+◌, ◌<◌, ◌≤◌, ◌^◌, refl, ap, sym, ◌∙◌, arith, Bool, true, false, List, [], ◌∷◌, ◌++◌, Option, Some, None, length}
use Rattle.std.specs.List.{list_all}
use Rattle.std.specs.Prelude.{slice_index_or, ◌-◌, ◌==◌, ◌&&◌, nat_le, nat_lt, map, take, drop, codes, if◌then◌else◌}
use Rattle.std.proofs.lemmas.Bool.Decides.{nat_tests}
use Rattle.std.proofs.lemmas.List.{append_assoc, length-append}
use Rattle.std.proofs.Math.Seq.{take-append_seam, drop-append_seam}
use Rattle.word_spec.specs.State.{Written}
use Rattle.word_spec.specs.Texts.{line, lines, joined, spaced, number_text, word_text, byte_text, decimal_word, at_most, in_front, split_lines, words_in}
use Rattle.clause_spec.specs.Checks.{text_limit}
use Rattle.machine_spec.specs.Endings.{NamedEnding, FailsBy, FetchFails}
use Rattle.machine_spec.specs.StateText.{Layout, IsWritten, StateText, StateLine, NamedLine, MachineLine, RegisterLine, ByteLine, ChoiceLine, EndLine, last_step, register_lines, flag_bits, value_names, value_text, words_of_line, lines_behind, printed, line_of, StateIs, told_of, state_of, block_text}
use Rattle.machine_spec.proofs.Spelling.{Above, AllAbove, joined_above, words_in_joined, number_above, decimal_back}
use Rattle.machine_spec.proofs.StateLines.{IsLayout, line_back, line_above}
use Rattle.machine_spec.proofs.StateSaid.{line_said}
use Rattle.machine_spec.proofs.StateBack.{printed_back}
use Rattle.machine_spec.proofs.StateExact.{told_exact}
use Rattle.call_spec.specs.Calls.{Budget}
use Rattle.bilv_spec.specs.Files.{layout_of}
use Rattle.bilv_spec.specs.Answers.{start_in}
use Rattle.bilv_spec.specs.Points.{is_known_at}
use Rattle.bilv_spec.proofs.StateTold.{file_layout}
use Rattle.pair_spec.specs.Links.{Link}
use Rattle.call_spec.specs.Calls.{plain_answer, Two}
use Rattle.pair_spec.specs.Equals.{Side, DiffersReport, IsRightPair, pair_text, differs_words}
use Rattle.pair_spec.specs.Differs.{named_numbers, difference_of_words, is_end, block_length, some_ending, TwoTold, TwoStates, first_told, second_told, blocks_told, by_told, by_first, by_texts, differ_answer}
use Rattle.pair_spec.specs.PairLaws.{DifferenceReplays}
use Rattle.pair_spec.proofs.DifferenceFound.{difference_is_found}

-- ---- lines of a text

no_feed : (b : ℕ) → 31 < b → (b == 10) ≡ false
no_feed b h = grind (arith, nat_tests)

split_then : (l rest : List ℕ) → Above 31 l → split_lines (line l ++ rest) ≡ l ∷ split_lines rest
split_then [] rest p = refl
split_then (b ∷ l) rest p = rw (no_feed b p.0, split_then l rest p.1) refl

-- a line has a first text
first_some : (x : List ℕ) → (t : List ℕ) × (ts : List (List ℕ)) × (split_lines (line x) ≡ t ∷ ts)
first_some [] = ([], [], refl)
first_some (b ∷ x) = by (b == 10) (first_some x)
  where
    by : (c : Bool) → (t : List ℕ) × (ts : List (List ℕ)) × (split_lines (line x) ≡ t ∷ ts) →
        (t : List ℕ) × (ts : List (List ℕ)) × ((if c then [] ∷ split_lines (line x) else in_front b (split_lines (line x))) ≡ t ∷ ts)
    by true h = ([], split_lines (line x), refl)
    by false h = (b ∷ h.0, h.1, ap (in_front b) h.2)

split_at : (x z : List ℕ) → split_lines (line x ++ z) ≡ split_lines (line x) ++ split_lines z
split_at [] z = refl
split_at (b ∷ x) z = by (b == 10) (split_at x z)
  where
    by : (c : Bool) → split_lines (line x ++ z) ≡ split_lines (line x) ++ split_lines z →
        (if c then [] ∷ split_lines (line x ++ z) else in_front b (split_lines (line x ++ z)))
        ≡ (if c then [] ∷ split_lines (line x) else in_front b (split_lines (line x))) ++ split_lines z
    by true h = ap (λ l. [] ∷ l) h
    by false h =
        let f = first_some x in
        ap (in_front b) h ∙ ap (λ l. in_front b (l ++ split_lines z)) f.2 ∙ sym (ap (λ l. in_front b l ++ split_lines z) f.2)

-- whole lines before a text are split by themselves
lines_split : (ls : List (List ℕ)) (v : List ℕ) → split_lines (lines ls ++ v) ≡ split_lines (lines ls) ++ split_lines v
lines_split [] v = refl
lines_split (x ∷ ls) v =
    ap split_lines (append_assoc (line x) (lines ls) v) ∙ split_at x (lines ls ++ v) ∙ ap (λ l. split_lines (line x) ++ l) (lines_split ls v)
    ∙ sym (append_assoc (split_lines (line x)) (split_lines (lines ls)) (split_lines v))
    ∙ sym (ap (λ l. l ++ split_lines v) (split_at x (lines ls)))

-- ---- the end of a block

abbrev first_byte : List ℕ → ℕ
first_byte [] = 0
first_byte (b ∷ rest) = b

abbrev other_bytes : List ℕ → List ℕ
other_bytes [] = []
other_bytes (b ∷ rest) = rest

-- a line of two words or more is no end
not_end : (a b : List ℕ) (rest : List (List ℕ)) → joined (a ∷ b ∷ rest) ≡ codes "end" → ⊥
not_end [] b rest h = let e : 32 ≡ 101 = ap first_byte h in omega (arith, e)
not_end (x ∷ []) b rest h = let e : 32 ≡ 110 = ap (λ l. first_byte (other_bytes l)) h in omega (arith, e)
not_end (x ∷ y ∷ []) b rest h = let e : 32 ≡ 100 = ap (λ l. first_byte (other_bytes (other_bytes l))) h in omega (arith, e)
not_end (x ∷ y ∷ z ∷ a) b rest h =
    let n : length (a ++ spaced (b ∷ rest)) ≡ length a + length (spaced (b ∷ rest)) = length-append a (spaced (b ∷ rest)) in
    let e : length (x ∷ y ∷ z ∷ (a ++ spaced (b ∷ rest))) ≡ 3 = ap length h in
    let some : length (spaced (b ∷ rest)) ≡ suc (length (b ++ spaced rest)) = refl in
    let long : length (x ∷ y ∷ z ∷ (a ++ spaced (b ∷ rest))) ≡ suc (suc (suc (length (a ++ spaced (b ∷ rest))))) = refl in
    omega (arith, n, e, some, long)

-- a line that stands before the end
abbrev IsInner : StateLine → Type 0
IsInner (NamedLine n) = ⊥
IsInner EndLine = ⊥
IsInner l = Unit {0}

abbrev AreInner : List StateLine → Type 0
AreInner [] = Unit {0}
AreInner (l ∷ ls) = IsInner l × AreInner ls

module _ (layout : Layout) where
  abbrev text_of : StateLine → List ℕ
  text_of l = joined (words_of_line layout l)

  pub end_said : (text : List ℕ) (o : Option StateLine) → line_of layout text ≡ o → is_end o ≡ true → text ≡ codes "end"
  end_said text None h e = absurd (let c : false ≡ true = e in cc)
  end_said text (Some EndLine) h e = (line_said layout text EndLine h tt).1
  end_said text (Some (NamedLine n)) h e = absurd (let c : false ≡ true = e in cc)
  end_said text (Some MachineLine) h e = absurd (let c : false ≡ true = e in cc)
  end_said text (Some (RegisterLine i v)) h e = absurd (let c : false ≡ true = e in cc)
  end_said text (Some (ByteLine a v)) h e = absurd (let c : false ≡ true = e in cc)
  end_said text (Some (ChoiceLine s c)) h e = absurd (let c : false ≡ true = e in cc)

  pub not_said : (text : List ℕ) → (text ≡ codes "end" → ⊥) → is_end (line_of layout text) ≡ false
  not_said text other = by (is_end (line_of layout text)) refl
    where
      by : (b : Bool) → is_end (line_of layout text) ≡ b → b ≡ false
      by false q = refl
      by true q = absurd (other (end_said text (line_of layout text) refl q))

  inner : (l : StateLine) → IsInner l → is_end (line_of layout (text_of l)) ≡ false
  inner (NamedLine n) h = absurd h
  inner EndLine h = absurd h
  inner MachineLine h = not_said (text_of MachineLine) (not_end (codes "state") layout.machine [])
  inner (RegisterLine i v) h = not_said (text_of (RegisterLine i v)) (not_end (slice_index_or (value_names layout) i []) (value_text layout i v) [])
  inner (ByteLine a v) h = not_said (text_of (ByteLine a v)) (not_end (codes "byte") (word_text a) (byte_text v ∷ []))
  inner (ChoiceLine s c) h = not_said (text_of (ChoiceLine s c)) (not_end (codes "choice") (number_text s) (number_text c ∷ []))

  -- how many lines a block has that is followed by others
  count : (front : List StateLine) → AreInner front → (ys : List (List ℕ)) →
      block_length (map (line_of layout) (map text_of (front ++ EndLine ∷ []) ++ ys)) ≡ length (map text_of (front ++ EndLine ∷ []))
  count [] h ys = refl
  count (l ∷ front) h ys =
      let rest : List (Option StateLine) = map (line_of layout) (map text_of (front ++ EndLine ∷ []) ++ ys) in
      let more : 1 + length (map text_of (front ++ EndLine ∷ [])) ≡ suc (length (map text_of (front ++ EndLine ∷ []))) = omega arith in
      ap (λ (b : Bool). if b then 1 else 1 + block_length rest) (inner l h.0) ∙ ap (λ n. 1 + n) (count front h.1 ys) ∙ more

  inner-append : (xs ys : List StateLine) → AreInner xs → AreInner ys → AreInner (xs ++ ys)
  inner-append [] ys h k = k
  inner-append (x ∷ xs) ys h k = (h.0, inner-append xs ys h.1 k)

  registers_inner : (i : ℕ) (vs : List ℕ) → AreInner (register_lines i vs)
  registers_inner i [] = tt
  registers_inner i (v ∷ vs) = (tt, registers_inner (i + 1) vs)

  bytes_inner : (bs : List (ℕ × ℕ)) → AreInner (map (λ b. ByteLine b.0 b.1) bs)
  bytes_inner [] = tt
  bytes_inner (b ∷ bs) = (tt, bytes_inner bs)

  choices_inner : (cs : List (ℕ × ℕ)) → AreInner (map (λ c. ChoiceLine c.0 c.1) cs)
  choices_inner [] = tt
  choices_inner (c ∷ cs) = (tt, choices_inner cs)

  module _ (w : Written) where
    abbrev values : List StateLine
    values = register_lines 0 (w.regs ++ flag_bits (length layout.flags) w.flags)

    abbrev byte_part : List StateLine
    byte_part = map (λ b. ByteLine b.0 b.1) w.bytes

    abbrev choice_part : List StateLine
    choice_part = map (λ c. ChoiceLine c.0 c.1) w.choices

    abbrev front : List StateLine
    front = MachineLine ∷ (values ++ (byte_part ++ choice_part))

    front_is : lines_behind layout w ≡ front ++ EndLine ∷ []
    front_is =
        ap (λ l. MachineLine ∷ (values ++ l)) (sym (append_assoc byte_part choice_part (EndLine ∷ [])))
        ∙ ap (λ l. MachineLine ∷ l) (sym (append_assoc values (byte_part ++ choice_part) (EndLine ∷ [])))

    front_inner : AreInner front
    front_inner = (
      tt,
      inner-append values (byte_part ++ choice_part) (registers_inner 0 (w.regs ++ flag_bits (length layout.flags) w.flags))
          (inner-append byte_part choice_part (bytes_inner w.bytes) (choices_inner w.choices)),
    )

  -- ---- a block that is printed is told
  module _ (good : IsLayout layout) (known : ℕ → Bool) (w : Written) (written : IsWritten layout known w) where
    abbrev named : NamedEnding
    named = FailsBy FetchFails 0 0

    abbrev whole : StateText
    whole = record { named = named; start = w }

    abbrev first_line : List ℕ
    first_line = text_of (NamedLine named)

    back : state_of layout known (printed layout whole) ≡ StateIs whole
    back = printed_back layout good known whole written (tt, omega arith, omega arith)

    printed_is : printed layout whole ≡ line first_line ++ block_text layout w
    unfolding printed
    printed_is = refl

    split_is : split_lines (printed layout whole) ≡ first_line ∷ split_lines (block_text layout w)
    split_is = ap split_lines printed_is ∙ split_then first_line (block_text layout w) (line_above layout good (NamedLine named) (tt, omega arith, omega arith))

    abbrev tail : List (List ℕ) → List (List ℕ)
    tail [] = []
    tail (x ∷ xs) = xs

    block_lines : split_lines (block_text layout w) ≡ map text_of (front w ++ EndLine ∷ [])
    block_lines =
        ap tail (sym split_is ∙ (told_exact layout known (printed layout whole) whole back).lines) ∙ ap (map text_of) (front_is w)

    block_told : told_of layout known (some_ending ∷ map (line_of layout) (split_lines (block_text layout w))) ≡ StateIs whole
    unfolding state_of
    block_told =
        ap (λ z. told_of layout known (z ∷ map (line_of layout) (split_lines (block_text layout w))))
        (sym (line_back layout good (NamedLine named) (tt, omega arith, omega arith)))
        ∙ ap (λ l. told_of layout known (map (line_of layout) l)) (sym split_is) ∙ back

    block_count : (ys : List (List ℕ)) →
        block_length (map (line_of layout) (split_lines (block_text layout w) ++ ys)) ≡ length (split_lines (block_text layout w))
    block_count ys =
        ap (λ l. block_length (map (line_of layout) (l ++ ys))) block_lines ∙ count (front w) (front_inner w) ys ∙ sym (ap length block_lines)

-- ---- both blocks

module _ (a b : Side) (good : IsLayout a.layout) (fine : IsLayout b.layout) (x y : Written) (first : IsWritten a.layout (is_known_at a.program) x)
    (second : IsWritten b.layout (is_known_at b.program) y) where
  abbrev xs : List (List ℕ)
  xs = split_lines (block_text a.layout x)

  abbrev ys : List (List ℕ)
  ys = split_lines (block_text b.layout y)

  abbrev told_with : ℕ → TwoTold
  told_with n =
      first_told (told_of a.layout (is_known_at a.program) (some_ending ∷ map (line_of a.layout) (take n (xs ++ ys))))
      (λ s. second_told (1 + n) s (told_of b.layout (is_known_at b.program) (some_ending ∷ map (line_of b.layout) (drop n (xs ++ ys)))))

  both_told : blocks_told a b (xs ++ ys) ≡ TwoStates x y
  both_told =
      ap told_with (block_count a.layout good (is_known_at a.program) x first ys)
      ∙ ap (λ l. first_told (told_of a.layout (is_known_at a.program) (some_ending ∷ map (line_of a.layout) l))
      (λ s. second_told (1 + length xs) s (told_of b.layout (is_known_at b.program) (some_ending ∷ map (line_of b.layout) (drop (length xs) (xs ++ ys))))))
      (take-append_seam xs ys)
      ∙ ap (λ t. first_told t
      (λ s. second_told (1 + length xs) s (told_of b.layout (is_known_at b.program) (some_ending ∷ map (line_of b.layout) (drop (length xs) (xs ++ ys))))))
      (block_told a.layout good (is_known_at a.program) x first)
      ∙ ap (λ l. second_told (1 + length xs) x (told_of b.layout (is_known_at b.program) (some_ending ∷ map (line_of b.layout) l))) (drop-append_seam xs ys)
      ∙ ap (second_told (1 + length xs) x) (block_told b.layout fine (is_known_at b.program) y second)

-- ---- the first line

above_by : (w : List ℕ) → list_all (λ b. nat_lt 32 b) w ≡ true → Above 32 w
above_by [] h = tt
above_by (b ∷ w) h = by (nat_lt 32 b) refl h (λ k. above_by w k)
  where
    by : (t : Bool) → nat_lt 32 b ≡ t → (t && list_all (λ b. nat_lt 32 b) w) ≡ true → (list_all (λ b. nat_lt 32 b) w ≡ true → Above 32 w) →
        Above 32 (b ∷ w)
    by true q h later = ((let r = q in grind (arith, nat_tests)), later h)
    by false q h later = absurd (let c : false ≡ true = h in cc)

words_above : (n i j : ℕ) → n < 2 ^ 64 → i ≤ last_step → j ≤ last_step → AllAbove 32 (differs_words n i j)
words_above n i j h k l = (
  above_by (codes "differs") refl,
  (
    number_above n h,
    (above_by (codes "steps") refl, (number_above i (omega (arith, k)), (number_above j (omega (arith, l)), tt))),
  ),
)

number_at_most : (bound n : ℕ) → n ≤ bound → n < 2 ^ 64 → at_most bound (decimal_word (number_text n)) ≡ Some n
number_at_most bound n h small =
    ap (at_most bound) (decimal_back n small) ∙ ap (λ (b : Bool). if b then Some n else None) (let t : nat_le n bound ≡ true = grind (arith, nat_tests) in t)

difference_said : (n i j : ℕ) → n < 2 ^ 64 → i ≤ last_step → j ≤ last_step →
    difference_of_words (words_in (joined (differs_words n i j))) ≡ Some (record { line = n; first = i; second = j })
difference_said n i j h k l =
    ap difference_of_words (words_in_joined (codes "differs") (number_text n ∷ codes "steps" ∷ number_text i ∷ number_text j ∷ []) (words_above n i j h k l))
    ∙ ap (λ z. named_numbers z (at_most last_step (decimal_word (number_text i))) (at_most last_step (decimal_word (number_text j))))
    (number_at_most (2 ^ 64 - 1) n (omega (arith, h)) h)
    ∙ ap (λ z. named_numbers (Some n) z (at_most last_step (decimal_word (number_text j)))) (number_at_most last_step i k (omega (arith, k)))
    ∙ ap (λ z. named_numbers (Some n) (Some i) z) (number_at_most last_step j l (omega (arith, l)))

replays : (a b : Side) → IsLayout a.layout → IsLayout b.layout → (links : List Link) (budget : Budget) (n i j : ℕ) (x y : Written) →
    IsRightPair a b links budget (DiffersReport n i j) (Two x y) → n < 2 ^ 64 → i ≤ last_step → j ≤ last_step →
    length (pair_text a b budget (DiffersReport n i j) (Two x y)) ≤ text_limit →
    differ_answer a b links (pair_text a b budget (DiffersReport n i j) (Two x y)) ≡
    plain_answer 0 (line (codes "replayed " ++ joined (differs_words n i j)))
replays a b good fine links budget n i j x y right h k l short =
    let d : List ℕ = joined (differs_words n i j) in
    let text : List ℕ = pair_text a b budget (DiffersReport n i j) (Two x y) in
    let limit : nat_lt text_limit (length text) ≡ false = grind (arith, nat_tests, short) in
    let split : split_lines text ≡ d ∷ (split_lines (block_text a.layout x) ++ split_lines (block_text b.layout y)) =
    split_then d (block_text a.layout x ++ block_text b.layout y)
    (joined_above (codes "differs") (number_text n ∷ codes "steps" ∷ number_text i ∷ number_text j ∷ []) (words_above n i j h k l))
    ∙ ap (λ z. d ∷ z) (lines_split (map (λ z. joined (words_of_line a.layout z)) (lines_behind a.layout x)) (block_text b.layout y)) in
    ap (λ (c : Bool). if c then plain_answer 9 (line (codes "state: TooLarge")) else by_texts a b links (split_lines text)) limit
    ∙ ap (by_texts a b links) split
    ∙ ap (by_first a b links (split_lines (block_text a.layout x) ++ split_lines (block_text b.layout y))) (difference_said n i j h k l)
    ∙ ap (by_told a b links (record { line = n; first = i; second = j })) (both_told a b good fine x y right.3.first right.3.second)
    ∙ difference_is_found a b budget.unroll links n i j (start_in a.program a.layout x) (start_in b.program b.layout y) right.4 right.5

pub difference_replays : DifferenceReplays
difference_replays o file other p q links budget n i j x y right h k l short =
    replays (record { program = p; layout = layout_of o file }) (record { program = q; layout = layout_of o other }) (file_layout o file) (file_layout o other)
    links budget n i j x y right h k l short
