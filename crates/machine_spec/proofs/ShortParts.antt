-- The table of compressed instructions by quadrant and funct: what a decoder that looks at these first finds.
use Rattle.std.proofs.Common.{◌≡◌, ◌≢◌, ℕ, refl, ap, sym, ◌∙◌, List, [], ◌∷◌, Option, Some, None, Bool, true, false, if◌then◌else◌, arith}
use Rattle.std.specs.Prelude.{◌==◌, ◌&&◌, not}
use Rattle.std.proofs.lemmas.Bool.Decides.{nat_tests}
use Rattle.word_spec.specs.Words.{bits}
use Rattle.machine_spec.specs.RvWords.{word_r, word_i, word_s, word_b, word_u, word_j}
use Rattle.machine_spec.specs.RvShort.{Short, shorts, is_short, expansion, expansion_in, upper_is, both_are, top_is, of_two, middle, low, full, back, imm_4spn, imm_w, imm_6, imm_j, imm_16sp, imm_lui, imm_b, imm_lwsp, imm_swsp, some}

-- the halfword is one of the instruction, its quadrant and funct being given
abbrev pub is_part : (quadrant funct : ℕ) → Short → ℕ → Bool
is_part q f x h = (q == x.quadrant) && (f == x.funct) && x.is h

abbrev pub part_in : (quadrant funct : ℕ) → List Short → ℕ → Option ℕ
part_in q f [] h = None
part_in q f (x ∷ rest) h = if is_part q f x h then Some (x.word h) else part_in q f rest h

-- the expansion of a halfword of a quadrant and a funct
unfoldable pub part : (quadrant funct : ℕ) → ℕ → Option ℕ
part q f h = part_in q f shorts h

parts_in : (xs : List Short) (q f h : ℕ) → q ≡ bits 1 0 h → f ≡ bits 15 13 h → part_in q f xs h ≡ expansion_in xs h
parts_in xs q f h a b = ap (λ n. part_in n f xs h) a ∙ (ap (λ n. part_in (bits 1 0 h) n xs h) b ∙ same xs) where
  same : (xs : List Short) → part_in (bits 1 0 h) (bits 15 13 h) xs h ≡ expansion_in xs h
  same [] = refl
  same (x ∷ rest) = ap (λ o. if is_short x h then Some (x.word h) else o) (same rest)

pub part_is : (q f h : ℕ) → q ≡ bits 1 0 h → f ≡ bits 15 13 h → part q f h ≡ expansion h
unfolding part expansion
part_is q f h a b = parts_in shorts q f h a b

-- What is left of the table where both are numbers.
pub part_0_0 : (h : ℕ) → part 0 0 h ≡ (if some (imm_4spn h) then Some (word_i 0b0010011 0 (low h) 2 (imm_4spn h)) else None)
unfolding part shorts
part_0_0 h = refl

pub part_0_2 : (h : ℕ) → part 0 2 h ≡ Some (word_i 0b0000011 2 (low h) (middle h) (imm_w h))
unfolding part shorts
part_0_2 h = refl

pub part_0_6 : (h : ℕ) → part 0 6 h ≡ Some (word_s 0b0100011 2 (middle h) (low h) (imm_w h))
unfolding part shorts
part_0_6 h = refl

pub part_1_0 : (h : ℕ) → part 1 0 h ≡ Some (word_i 0b0010011 0 (full h) (full h) (imm_6 h))
unfolding part shorts
part_1_0 h = refl

pub part_1_1 : (h : ℕ) → part 1 1 h ≡ Some (word_j 0b1101111 1 (imm_j h))
unfolding part shorts
part_1_1 h = refl

pub part_1_2 : (h : ℕ) → part 1 2 h ≡ Some (word_i 0b0010011 0 (full h) 0 (imm_6 h))
unfolding part shorts
part_1_2 h = refl

pub part_1_3 : (h : ℕ) → part 1 3 h ≡
    (if (full h == 2) && some (imm_16sp h) then Some (word_i 0b0010011 0 2 2 (imm_16sp h)) else
    if not (full h == 2) && some (imm_lui h) then Some (word_u 0b0110111 (full h) (imm_lui h)) else None)
unfolding part shorts
part_1_3 h = refl

pub part_1_4 : (h : ℕ) → part 1 4 h ≡
    (if upper_is 0 h then Some (word_r 0b0010011 5 0 (middle h) (middle h) (back h)) else
    if upper_is 1 h then Some (word_r 0b0010011 5 32 (middle h) (middle h) (back h)) else
    if bits 11 10 h == 2 then Some (word_i 0b0010011 7 (middle h) (middle h) (imm_6 h)) else
    if both_are 0 h then Some (of_two 0 32 h) else if both_are 1 h then Some (of_two 4 0 h) else
    if both_are 2 h then Some (of_two 6 0 h) else if both_are 3 h then Some (of_two 7 0 h) else None)
unfolding part shorts
part_1_4 h = refl

pub part_1_5 : (h : ℕ) → part 1 5 h ≡ Some (word_j 0b1101111 0 (imm_j h))
unfolding part shorts
part_1_5 h = refl

pub part_1_6 : (h : ℕ) → part 1 6 h ≡ Some (word_b 0b1100011 0 (middle h) 0 (imm_b h))
unfolding part shorts
part_1_6 h = refl

pub part_1_7 : (h : ℕ) → part 1 7 h ≡ Some (word_b 0b1100011 1 (middle h) 0 (imm_b h))
unfolding part shorts
part_1_7 h = refl

pub part_2_0 : (h : ℕ) → part 2 0 h ≡ (if top_is 0 h then Some (word_r 0b0010011 1 0 (full h) (full h) (back h)) else None)
unfolding part shorts
part_2_0 h = refl

pub part_2_2 : (h : ℕ) → part 2 2 h ≡ (if some (full h) then Some (word_i 0b0000011 2 (full h) 2 (imm_lwsp h)) else None)
unfolding part shorts
part_2_2 h = refl

pub part_2_4 : (h : ℕ) → part 2 4 h ≡
    (if top_is 0 h && (back h == 0) && some (full h) then Some (word_i 0b1100111 0 0 (full h) 0) else
    if top_is 0 h && some (back h) then Some (word_r 0b0110011 0 0 (full h) 0 (back h)) else
    if top_is 1 h && (back h == 0) && (full h == 0) then Some 0x100073 else
    if top_is 1 h && (back h == 0) && some (full h) then Some (word_i 0b1100111 0 1 (full h) 0) else
    if top_is 1 h && some (back h) then Some (word_r 0b0110011 0 0 (full h) (full h) (back h)) else None)
unfolding part shorts
part_2_4 h = refl

pub part_2_6 : (h : ℕ) → part 2 6 h ≡ Some (word_s 0b0100011 2 2 (back h) (imm_swsp h))
unfolding part shorts
part_2_6 h = refl

-- no line of the others
unequal : (f n : ℕ) → f ≢ n → (f == n) ≡ false
unequal f n h = grind (arith, nat_tests)

passed : (a b : Bool) (x y : Option ℕ) → a ≡ false → (if a && b then x else y) ≡ y
passed false b x y h = refl
passed true b x y h = absurd (let e : ⊥ = cc in e)

pub none_0 : (f h : ℕ) → f ≢ 0 → f ≢ 2 → f ≢ 6 → part 0 f h ≡ None
unfolding part shorts
none_0 f h a b c =
    passed (f == 0) _ _ _ (unequal f 0 a) ∙ (passed (f == 2) _ _ _ (unequal f 2 b) ∙ passed (f == 6) _ _ _ (unequal f 6 c))

pub none_2 : (f h : ℕ) → f ≢ 0 → f ≢ 2 → f ≢ 4 → f ≢ 6 → part 2 f h ≡ None
unfolding part shorts
none_2 f h a b c d =
    let four = λ (x : Bool) (o q : Option ℕ). passed (f == 4) x o q (unequal f 4 c) in
    passed (f == 0) _ _ _ (unequal f 0 a) ∙ (passed (f == 2) _ _ _ (unequal f 2 b)
    ∙ (four _ _ _ ∙ (four _ _ _ ∙ (four _ _ _ ∙ (four _ _ _ ∙ (four _ _ _ ∙ passed (f == 6) _ _ _ (unequal f 6 d)))))))

pub none_3 : (f h : ℕ) → part 3 f h ≡ None
unfolding part shorts
none_3 f h = refl

pub is_none_3 : (h : ℕ) → 3 ≡ bits 1 0 h → None ≡ expansion h
is_none_3 h q = sym (none_3 (bits 15 13 h) h) ∙ part_is 3 (bits 15 13 h) h q refl
