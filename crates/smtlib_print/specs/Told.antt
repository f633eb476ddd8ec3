-- What the script of a question says, over an unrolled program.
use Rattle.std.specs.Prelude.{ℕ, ◌≡◌, ◌⊎◌, ◌↔◌, true, List, ◌++◌, Some, is_some, codes, map, AllPairs, slice_get, Contains}
use Rattle.bilv_spec.specs.Points.{Point}
use Rattle.bilv_spec.specs.Questions.{Reading, IsReading}
use Rattle.call_spec.specs.Calls.{Question}
use Rattle.bilv_spec.specs.Scripts.{AreWholeLines, IsTermName, choice_name, is_plain_byte, is_point_below, values_of}
use Rattle.bilv_spec.specs.SmtLib.{Sexp, commands_truth, declared_symbols, defined_symbols, sexps_of}
use Rattle.machine_spec.specs.StateText.{Layout, value_names}
use Rattle.word_spec.specs.Texts.{line}
use Rattle.walk_spec.specs.Unrolled.{UnrolledProgram, point_at}
use Rattle.term_spec.specs.WalkQuestions.{DrawsAt, IsTrueOfWalk}

-- the points of the unrolled program in the order of scripts, in which a point's number is its place
pub record AreInOrder (u : UnrolledProgram) (points : List Point) : Type 0 where
  pub same : (q : Point) → Contains points q ↔ Contains (map (λ v. v.point) u.points) q
  pub order : AllPairs (λ x y. is_point_below x y ≡ true) points

-- the symbol is that of the choice of a point that draws
abbrev pub IsDrawn : UnrolledProgram → List Point → List ℕ → Type 0
IsDrawn u points w = (i n : ℕ) × DrawsAt u i × (slice_get points n ≡ Some (point_at u i).point) × (w ≡ choice_name n)

-- a symbol that a script declares: a register's, a flag's, the memory's, or that of a choice that is drawn
abbrev pub IsSymbolOf : UnrolledProgram → Layout → List Point → List ℕ → Type 0
IsSymbolOf u layout points w = Contains (value_names layout) w ⊎ ((w ≡ codes "mem") ⊎ IsDrawn u points w)

-- A script begins with its logic and ends with the check, declares these symbols, is well formed for the values of each reading, and is satisfied by exactly
-- those of the readings that make the question true, the bytes of the file included. Its bytes are plain, its commands whole lines, and what it defines has the
-- names of terms.
pub record TellsScript (u : UnrolledProgram) (layout : Layout) (question : Question) (text : List ℕ) : Type 0 where
  pub points : List Point
  pub are_in_order : AreInOrder u points
  pub middle : List ℕ
  pub text_is : text ≡ line (codes "(set-logic QF_ABV)") ++ middle ++ line (codes "(check-sat)")
  pub whole_lines : AreWholeLines middle
  pub plain : (b : ℕ) → Contains text b → is_plain_byte b ≡ true
  pub commands : Sexp
  pub commands_are : sexps_of text ≡ Some commands
  pub declares : (w : List ℕ) → Contains (declared_symbols commands) w ↔ IsSymbolOf u layout points w
  pub defines : (w : List ℕ) → Contains (defined_symbols commands) w → IsTermName w
  pub well_formed : (r : Reading) → IsReading r → is_some (commands_truth (values_of layout points r) commands) ≡ true
  pub means : (r : Reading) → IsReading r → r.state.pc ≡ u.entry → (commands_truth (values_of layout points r) commands ≡ Some true) ↔ IsTrueOfWalk u r question
