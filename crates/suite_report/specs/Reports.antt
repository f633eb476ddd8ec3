-- What is said of the checks of a suite, and its status.
use Rattle.std.specs.Prelude.{ℕ, ◌+◌, ◌-◌, ◌==◌, ◌&&◌, ◌||◌, max, Bool, true, false, List, [], ◌∷◌, ◌++◌, codes, drop, fold, length, map, nat_eq, nat_lt, if◌then◌else◌}
use Rattle.std.specs.List.{starts_with}
use Rattle.word_spec.specs.Texts.{blank, line, line_feed, number_text}
use Rattle.note_check.specs.Warnings.{warning_text}
use Rattle.note_check.specs.declared.warning.Warning.{Warning}

-- a check by its name and the words that are expected of it, and what it came to
pub record Told : Type 0 where
  pub name : List ℕ
  pub expect : List ℕ
  pub status : ℕ
  pub report : List ℕ
  pub warnings : List Warning

-- a word ends in front of a text
abbrev pub ends_word : List ℕ → Bool
ends_word [] = true
ends_word (b ∷ bs) = (b == blank) || (b == line_feed)

-- a text begins with whole words
abbrev pub begins_with : (words text : List ℕ) → Bool
begins_with words text = starts_with nat_eq text words && ends_word (drop (length words) text)

-- a text has a part somewhere
abbrev pub has_part : (part text : List ℕ) → Bool
has_part part [] = starts_with nat_eq [] part
has_part part (b ∷ bs) = starts_with nat_eq (b ∷ bs) part || has_part part bs

abbrev pub first_line : List ℕ → List ℕ
first_line [] = []
first_line (b ∷ bs) = if b == line_feed then [] else b ∷ first_line bs

-- a check came to what is expected of it
abbrev pub is_expected : Told → Bool
is_expected t = begins_with t.expect t.report

abbrev pub came_words : (expected : Bool) → List ℕ
came_words true = codes "ok "
came_words false = codes "FAILED "

-- warnings, behind a report
abbrev pub warnings_text : List Warning → List ℕ
warnings_text [] = []
warnings_text (w ∷ ws) = codes "; warning: " ++ warning_text w ++ warnings_text ws

-- the line of a check
abbrev pub told_line : Told → List ℕ
told_line t = came_words (is_expected t) ++ t.name ++ codes ": " ++ line (first_line t.report ++ warnings_text t.warnings)

-- how many checks came to what is expected
abbrev pub one_if : Bool → ℕ
one_if true = 1
one_if false = 0

abbrev pub expected_count : List Told → ℕ
expected_count [] = 0
expected_count (t ∷ ts) = one_if (is_expected t) + expected_count ts

abbrev pub summary : (all expected : ℕ) → List ℕ
summary all expected =
    line (number_text all ++ codes " checks, " ++ number_text expected ++ codes " ok, " ++ number_text (all - expected) ++ codes " FAILED")

abbrev pub has_some : List Warning → Bool
has_some [] = false
has_some (w ∷ ws) = true

-- a check came to a vacuous answer, or to one with a warning
abbrev pub means_less : Told → Bool
means_less t = begins_with (codes "vacuous") t.report || has_some t.warnings

-- The status that a check asks for: 0 where it came to what is expected, and else its own from 2 on, and 1 below that. A strict suite asks 1 for a vacuous answer
-- that is expected, and for one with a warning.
abbrev pub asked_status : (strict : Bool) → Told → ℕ
asked_status strict t =
    if is_expected t then (if strict && means_less t then 1 else 0) else max t.status 1

-- how bad a status is: done, unknown, failed, and any other, by which a question was not asked
abbrev pub badness : ℕ → ℕ
badness status = if status == 0 then 0 else if status == 3 then 1 else if status == 1 then 2 else 3

abbrev pub worse : ℕ → ℕ → ℕ
worse first second = if nat_lt (badness first) (badness second) then second else first

-- the status of a suite is the worst that a check asks for, the first of those that are as bad
abbrev pub run_status : (strict : Bool) → List Told → ℕ
run_status strict ts = fold worse 0 (map (asked_status strict) ts)
