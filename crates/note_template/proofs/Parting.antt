-- Texts are parted at a byte.
use Rattle.std.proofs.Common.{◌≡◌, ℕ, suc, ◌+◌, ◌<◌, refl, ap, sym, ◌∙◌, arith, Bool, true, false, List, [], ◌∷◌, Bor, Option, Some, None, length, take, drop}
use Rattle.std.specs.Prelude.{◌==◌, not, IfNone, IfSome}
use Rattle.std.specs.List.{prefix_len}
use Rattle.line_tokens.proofs.Numbers.{one_more, none_more}
use Rattle.word_spec.specs.Texts.{in_front}
use Rattle.note_template.specs.TemplateLines.{parts}

module _ (c : ℕ) where
  -- how many bytes stand before the byte
  abbrev pub before : List ℕ → ℕ
  before text = prefix_len (λ b. not (b == c)) text

  front_end : (b : ℕ) (text : List ℕ) → (b == c) ≡ true → before (b ∷ text) ≡ 0
  front_end b text e = none_more (λ b. not (b == c)) b text (ap not e)

  front_more : (b : ℕ) (text : List ℕ) → (b == c) ≡ false → before (b ∷ text) ≡ suc (before text)
  front_more b text e = one_more (λ b. not (b == c)) b text (ap not e)

  -- the parts of a text with so many bytes in its first one
  abbrev pub parts_at : List ℕ → ℕ → List (List ℕ)
  parts_at text n = take n text ∷ parts c (drop (n + 1) text)

  part_ends : (b : ℕ) (text : List ℕ) → (b == c) ≡ true → parts c (b ∷ text) ≡ parts_at (b ∷ text) 0
  part_ends b text e = rw e

  part_goes_on : (b : ℕ) (text : List ℕ) → (b == c) ≡ false → parts c (b ∷ text) ≡ in_front b (parts c text)
  part_goes_on b text e = rw e

  -- the first part, and the parts behind its byte
  pub part_first : (text : List ℕ) → before text < length text → parts c text ≡ parts_at text (before text)
  part_first [] some = absurd (omega arith)
  part_first (b ∷ text) some = by_test (b == c) refl (λ h. part_first text h)
    where
      by_test : (x : Bool) → (b == c) ≡ x → (before text < length text → parts c text ≡ parts_at text (before text)) →
          parts c (b ∷ text) ≡ parts_at (b ∷ text) (before (b ∷ text))
      by_test true e rest = part_ends b text e ∙ ap (parts_at (b ∷ text)) (sym (front_end b text e))
      by_test false e rest =
          let below : before text < length text = omega (arith, some, front_more b text e) in
          let same : suc (before text + 1) ≡ suc (before text) + 1 = omega arith in
          part_goes_on b text e ∙ ap (in_front b) (rest below)
          ∙ ap (λ k. (b ∷ take (before text) text) ∷ parts c (drop k (b ∷ text))) same
          ∙ ap (parts_at (b ∷ text)) (sym (front_more b text e))

  -- the last part
  pub part_last : (text : List ℕ) → before text ≡ length text → parts c text ≡ text ∷ []
  part_last [] all = refl
  part_last (b ∷ text) all = by_test (b == c) refl (λ h. part_last text h)
    where
      by_test : (x : Bool) → (b == c) ≡ x → (before text ≡ length text → parts c text ≡ text ∷ []) → parts c (b ∷ text) ≡ (b ∷ text) ∷ []
      by_test true e rest = absurd (omega (arith, all, front_end b text e))
      by_test false e rest =
          let same : before text ≡ length text = omega (arith, all, front_more b text e) in
          part_goes_on b text e ∙ ap (in_front b) (rest same)

  -- the parts of what is left of a text
  abbrev pub parts_left : Option (Bor (List ℕ)) → List (List ℕ)
  parts_left None = []
  parts_left (Some text) = parts c text.now

  -- a text has a part
  pub some_part : (text : List ℕ) → (first : List ℕ) × (rest : List (List ℕ)) × (parts c text ≡ first ∷ rest)
  some_part [] = ([], [], refl)
  some_part (b ∷ text) = by_test (b == c) refl (some_part text)
    where
      by_test : (x : Bool) → (b == c) ≡ x → ((first : List ℕ) × (rest : List (List ℕ)) × (parts c text ≡ first ∷ rest)) →
          (first : List ℕ) × (rest : List (List ℕ)) × (parts c (b ∷ text) ≡ first ∷ rest)
      by_test true e later = ([], parts c text, part_ends b text e)
      by_test false e later = (b ∷ later.0, later.1, part_goes_on b text e ∙ ap (in_front b) later.2)

-- how much is left of a text
abbrev pub size_left : Option (Bor (List ℕ)) → ℕ
size_left None = 0
size_left (Some text) = suc (length text.now)

-- the first part, whether a part is behind it or not
pub first_known : (c : ℕ) (text first : List ℕ) (others : Option (Bor (List ℕ))) → IfNone others (parts c text ≡ first ∷ []) →
    IfSome others (λ rest. parts c text ≡ first ∷ parts c rest.now) → (next : List (List ℕ)) × (parts c text ≡ first ∷ next)
first_known c text first None last more = ([], last)
first_known c text first (Some rest) last more = (parts c rest.now, more)
