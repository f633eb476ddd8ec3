-- The lines of a template, one after another.
use Rattle.std.proofs.Common.{◌≡◌, ℕ, ◌+◌, ap, sym, ◌∙◌, List, [], ◌∷◌, ◌++◌, Result, Ok, Err}
use Rattle.symbol_table.specs.Symbols.{Symbol}
use Rattle.note_template.specs.Templates.{Fault, behind}
use Rattle.note_template.specs.TemplateLines.{Machine, Refused, at_line, in_turn, line_for, lines_for, parts}
use Rattle.note_template.proofs.Parting.{some_part}
use Rattle.note_template.proofs.SpellingLaws.{behind_two}

module _ (m : Machine) (table : List Symbol) (stack : List ℕ) where
  -- a line, a line feed and the lines behind it
  pub more_lines : (n : ℕ) (line next : List ℕ) →
      lines_for m table stack n (line ∷ parts 10 next)
      ≡ in_turn (at_line n (line_for m table stack line)) (behind (10 ∷ []) (lines_for m table stack (n + 1) (parts 10 next)))
  more_lines n line next =
      let some = some_part 10 next in
      ap (λ ps. lines_for m table stack n (line ∷ ps)) some.2
      ∙ ap (λ ps. in_turn (at_line n (line_for m table stack line)) (behind (10 ∷ []) (lines_for m table stack (n + 1) ps))) (sym some.2)

  -- a line that stands for a text, and lines behind it
  pub line_pushed : (n : ℕ) (line next text before middle after : List ℕ) → line_for m table stack line ≡ Ok text → middle ≡ before ++ text →
      after ≡ middle ++ 10 ∷ [] →
      behind before (lines_for m table stack n (line ∷ parts 10 next)) ≡ behind after (lines_for m table stack (n + 1) (parts 10 next))
  line_pushed n line next text before middle after told first second =
      let later : Result (List ℕ) Refused = lines_for m table stack (n + 1) (parts 10 next) in
      ap (behind before) (more_lines n line next ∙ ap (λ r. in_turn (at_line n r) (behind (10 ∷ []) later)) told)
      ∙ behind_two before text (behind (10 ∷ []) later)
      ∙ ap (λ t. behind t (behind (10 ∷ []) later)) (sym first)
      ∙ behind_two middle (10 ∷ []) later
      ∙ ap (λ t. behind t later) (sym second)

  -- a line that stands for none
  pub line_refused : (n : ℕ) (line : List ℕ) (next : List (List ℕ)) (f : Fault) → line_for m table stack line ≡ Err f →
      (before : List ℕ) → behind before (lines_for m table stack n (line ∷ next)) ≡ Err (record { line = n; fault = f })
  line_refused n line [] f told before = ap (λ r. behind before (at_line n r)) told
  line_refused n line (l ∷ ls) f told before =
      ap (λ r. behind before (in_turn (at_line n r) (behind (10 ∷ []) (lines_for m table stack (n + 1) (l ∷ ls))))) told

  -- the last line
  pub line_last : (n : ℕ) (line text before after : List ℕ) → line_for m table stack line ≡ Ok text → after ≡ before ++ text →
      behind before (lines_for m table stack n (line ∷ [])) ≡ Ok after
  line_last n line text before after told push = ap (λ r. behind before (at_line n r)) told ∙ ap (λ t. Ok t) (sym push)
