-- Lines that are copied one by one.
use Rattle.std.proofs.Common.{◌≡◌, subst, ℕ, zero, suc, ◌+◌, refl, ap, sym, ◌∙◌, arith, Bool, true, false, List, [], ◌∷◌, ◌++◌, take, drop}
use Rattle.std.specs.Prelude.{◌==◌, codes, if◌then◌else◌}
use Rattle.std.specs.Str.{bytes_eq}
use Rattle.std.proofs.lemmas.List.{append_assoc, append-nil, drop-drop}
use Rattle.word_spec.specs.Texts.{in_front, split_lines}
use Rattle.difference_replay.specs.Blocks.{first_text, lines_to_end}

-- a text without a line feed
abbrev HasNoFeed : List ℕ → Type 0
HasNoFeed [] = Unit {0}
HasNoFeed (b ∷ rest) = ((b == 10) ≡ false) × HasNoFeed rest

abbrev HaveNoFeed : List (List ℕ) → Type 0
HaveNoFeed [] = Unit {0}
HaveNoFeed (t ∷ ts) = HasNoFeed t × HaveNoFeed ts

in_front_none : (b : ℕ) (ts : List (List ℕ)) → (b == 10) ≡ false → HaveNoFeed ts → HaveNoFeed (in_front b ts)
in_front_none b [] e h = ((e, tt), tt)
in_front_none b (t ∷ ts) e h = ((e, h.0), h.1)

-- the lines of a text have none
lines_have_none : (text : List ℕ) → HaveNoFeed (split_lines text)
lines_have_none [] = tt
lines_have_none (b ∷ rest) = by (b == 10) refl (lines_have_none rest)
  where
    by : (c : Bool) → (b == 10) ≡ c → HaveNoFeed (split_lines rest) → HaveNoFeed (if c then [] ∷ split_lines rest else in_front b (split_lines rest))
    by true e h = (tt, h)
    by false e h = in_front_none b (split_lines rest) e h

first_has_none : (l : List ℕ) (ls ts : List (List ℕ)) → ts ≡ l ∷ ls → HaveNoFeed ts → HasNoFeed l
first_has_none l ls [] e h = absurd (cc)
first_has_none l ls (t ∷ ts) e h = let P : List (List ℕ) → Type 0 = HaveNoFeed in (subst P e h).0

split_then : (l rest : List ℕ) → HasNoFeed l → split_lines ((l ++ 10 ∷ []) ++ rest) ≡ l ∷ split_lines rest
split_then [] rest h = refl
split_then (b ∷ l) rest h = rw (h.0, split_then l rest h.1) refl

-- the text of lines, after some ending, to which any text may be added
abbrev pub Holds : (out : List ℕ) → List (List ℕ) → Type 0
Holds out ls = (more : List ℕ) → split_lines (out ++ more) ≡ first_text ∷ (ls ++ split_lines more)

pub holds_none : Holds (codes "fails fetch at 0x00000000 step 0\n") []
holds_none more = refl

-- one more line, whose text is a line of another text
pub holds_more : (out with_line all : List ℕ) (ls : List (List ℕ)) (text line others : List ℕ) → Holds out ls →
    split_lines text ≡ line ∷ split_lines others → with_line ≡ out ++ line → all ≡ with_line ++ 10 ∷ [] → Holds all (ls ++ line ∷ [])
holds_more out with_line all ls text line others h e a b more =
    let none : HasNoFeed line = first_has_none line (split_lines others) (split_lines text) e (lines_have_none text) in
    ap (λ t. split_lines (t ++ more)) (b ∙ ap (λ t. t ++ 10 ∷ []) a)
    ∙ ap split_lines (ap (λ t. t ++ more) (append_assoc out line (10 ∷ [])) ∙ append_assoc out (line ++ 10 ∷ []) more)
    ∙ h ((line ++ 10 ∷ []) ++ more)
    ∙ ap (λ t. first_text ∷ (ls ++ t)) (split_then line more none)
    ∙ ap (λ t. first_text ∷ t) (sym (append_assoc ls (line ∷ []) (split_lines more)))

-- ---- a line after so many others

take_more : (n : ℕ) (texts : List (List ℕ)) (line : List ℕ) (others : List (List ℕ)) → drop n texts ≡ line ∷ others →
    take (n + 1) texts ≡ take n texts ++ line ∷ []
take_more zero [] line others h = absurd (cc)
take_more zero (t ∷ texts) line others h = ap (λ l. first l ∷ []) h
  where
    first : List (List ℕ) → List ℕ
    first [] = []
    first (x ∷ xs) = x
take_more (suc n) [] line others h = absurd (cc)
take_more (suc n) (t ∷ texts) line others h =
    let one : suc n + 1 ≡ suc (n + 1) = omega arith in
    ap (λ k. take k (t ∷ texts)) one ∙ ap (λ l. t ∷ l) (take_more n texts line others h)

module _ (texts : List (List ℕ)) (n : ℕ) (line rest after : List ℕ) (here : split_lines rest ≡ drop n texts)
    (is : split_lines rest ≡ line ∷ split_lines after) where
  pub taken_next : take (n + 1) texts ≡ take n texts ++ line ∷ []
  taken_next = take_more n texts line (split_lines after) (sym here ∙ is)

  pub dropped_next : split_lines after ≡ drop (n + 1) texts
  dropped_next = ap (drop 1) (sym is ∙ here) ∙ drop-drop 1 n texts

  pub goes_on : bytes_eq line (codes "end") ≡ false → lines_to_end texts ≡ n + lines_to_end (split_lines rest) →
      lines_to_end texts ≡ n + 1 + lines_to_end (split_lines after)
  goes_on other h =
      let e : n + (1 + lines_to_end (split_lines after)) ≡ n + 1 + lines_to_end (split_lines after) = omega arith in
      h ∙ ap (λ l. n + lines_to_end l) is ∙ ap (λ (c : Bool). n + (if c then 1 else 1 + lines_to_end (split_lines after))) other ∙ e

  pub ends_here : bytes_eq line (codes "end") ≡ true → lines_to_end texts ≡ n + lines_to_end (split_lines rest) → lines_to_end texts ≡ n + 1
  ends_here same h = h ∙ ap (λ l. n + lines_to_end l) is ∙ ap (λ (c : Bool). n + (if c then 1 else 1 + lines_to_end (split_lines after))) same

-- the text that was copied, as it stands
pub held : (out : List ℕ) (ls texts : List (List ℕ)) (n m : ℕ) → ls ≡ take n texts → m ≡ n → Holds out ls → split_lines out ≡ first_text ∷ take m texts
held out ls texts n m same e h =
    ap split_lines (sym (append-nil out)) ∙ h [] ∙ ap (λ l. first_text ∷ l) (append-nil ls ∙ same ∙ ap (λ k. take k texts) (sym e))
