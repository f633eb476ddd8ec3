-- What the script of a question of a frame says, over an unrolled frame; and that such a script is one of the frame that it is of.
use Rattle.std.specs.Prelude.{ℕ, ◌≡◌, ◌<◌, ◌⊎◌, ◌↔◌, ◌^◌, Bool, true, List, ◌++◌, Some, is_some, codes, map, slice_get, Contains}
use Rattle.bilv_spec.specs.PointLaws.{HasLawfulRows}
use Rattle.bilv_spec.specs.Scripts.{AreWholeLines, IsTermName, choice_name, is_plain_byte}
use Rattle.bilv_spec.specs.SmtLib.{Sexp, commands_truth, declared_symbols, defined_symbols, sexps_of}
use Rattle.frame_laws.specs.RunOfFrame.{IsAmong, IsTrueOfSweepOver}
use Rattle.frame_spec.specs.Frames.{Contract, Frame, is_head}
use Rattle.frame_spec.specs.FramePoints.{Point, has_heads}
use Rattle.frame_spec.specs.FrameQuestions.{Question, Reading, IsReading}
use Rattle.frame_spec.specs.FrameScripts.{IsFrameScript, frame_values_of, given_names, head_symbols, of_given}
use Rattle.frame_spec.specs.FrameUnrolling.{IsUnrolling}
use Rattle.frame_spec.specs.FrameWalk.{Gift, UnrolledProgram, point_at}
use Rattle.frame_terms.specs.PassiveFrames.{DrawsAt, IsGiftAt}
use Rattle.machine_spec.specs.StateText.{Layout, value_names}
use Rattle.word_spec.specs.Texts.{line}
use Rattle.smtlib_print.specs.Numbered.{AreFrameInOrder}

-- the symbol is that of the choice of a point that draws
abbrev pub IsFrameDrawn : UnrolledProgram → List Point → List ℕ → Type 0
IsFrameDrawn u points w = (i n : ℕ) × DrawsAt u i × (slice_get points n ≡ Some (point_at u i).point) × (w ≡ choice_name n)

-- the symbol is that of a register, a flag or the memory that the contract step of a point is given, since the contract may change it
abbrev pub IsFrameGiven : UnrolledProgram → Layout → List Point → List ℕ → Type 0
IsFrameGiven u layout points w =
    (i n : ℕ) × (x : Gift) × IsGiftAt u i x × (slice_get points n ≡ Some (point_at u i).point)
    × Contains (map (of_given n) (given_names layout x.registers x.flags x.writes)) w

-- a symbol that a script declares: a register's, a flag's, or the memory's at entry; one of the head state's, where there is a head; a drawn choice's; or one of
-- what a contract step is given
abbrev pub IsFrameSymbolOf : UnrolledProgram → (heads : Bool) → Layout → List Point → List ℕ → Type 0
IsFrameSymbolOf u heads layout points w =
    Contains (value_names layout) w
    ⊎ ((w ≡ codes "mem") ⊎ (Contains (head_symbols layout heads) w ⊎ (IsFrameDrawn u points w ⊎ IsFrameGiven u layout points w)))

-- A script begins with its logic and ends with the check, declares these symbols, is well formed for the values of each reading, and is satisfied by exactly
-- those of the readings that make the question true, the bytes of the file included. Its bytes are plain, its commands whole lines, and what it defines has the
-- names of terms. heads: the frame has a head.
pub record TellsFrameScript (u : UnrolledProgram) (heads : Bool) (layout : Layout) (question : Question) (text : List ℕ) : Type 0 where
  pub points : List Point
  pub are_in_order : AreFrameInOrder (map (λ v. v.point) u.points) points
  pub middle : List ℕ
  pub text_is : text ≡ line (codes "(set-logic QF_ABV)") ++ middle ++ line (codes "(check-sat)")
  pub whole_lines : AreWholeLines middle
  pub plain : (b : ℕ) → Contains text b → is_plain_byte b ≡ true
  pub commands : Sexp
  pub commands_are : sexps_of text ≡ Some commands
  pub declares : (w : List ℕ) → Contains (declared_symbols commands) w ↔ IsFrameSymbolOf u heads layout points w
  pub defines : (w : List ℕ) → Contains (defined_symbols commands) w → IsTermName w
  pub well_formed : (r : Reading) → IsReading r → is_some (commands_truth (frame_values_of layout points r) commands) ≡ true
  pub means : (r : Reading) → IsReading r → r.state.pc ≡ u.entry →
      (commands_truth (frame_values_of layout points r) commands ≡ Some true) ↔ IsTrueOfSweepOver u heads (λ a. true) r question

-- What a script tells of a question over the unrolled frame of a frame, it says of the frame's question. Heads are addresses of states.
abbrev pub ScriptsAreOfFrames : Type 0
ScriptsAreOfFrames = (f : Frame) → HasLawfulRows f.program → ((a : ℕ) → is_head f a ≡ true → a < 2 ^ 32) → (contracts : List Contract) →
    IsAmong f contracts → (k : ℕ) (u : UnrolledProgram) → IsUnrolling f contracts k u → (layout : Layout) (question : Question) (text : List ℕ) →
    TellsFrameScript u (has_heads f) layout question text → IsFrameScript f layout k question text
