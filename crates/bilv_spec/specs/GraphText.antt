-- The text of the flow graph.
use Rattle.std.specs.Prelude.{ℕ, ◌≡◌, ◌<◌, Bool, true, if◌then◌else◌, ◌↔◌, List, [], ◌∷◌, ◌++◌, Option, Some, None, codes, Contains, length, slice_index}
use Rattle.std.specs.List.{flat_map}
use Rattle.machine_spec.specs.Machine.{Row}
use Rattle.bilv_spec.specs.Run.{Program, fetchable}
use Rattle.bilv_spec.specs.Points.{file_row, file_word}
use Rattle.word_spec.specs.Texts.{word_text, spaced, line}
use Rattle.bilv_spec.specs.Graph.{Letter, NextLetter, JumpLetter, CallLetter, ReturnLetter, Successor, successors_at, may_return, IsAddress}
use Rattle.bilv_spec.specs.LiveFlags.{IsLive}

-- the text of a letter
abbrev pub letter_text : Letter → List ℕ
letter_text NextLetter = codes "n"
letter_text JumpLetter = codes "j"
letter_text CallLetter = codes "c"
letter_text ReturnLetter = codes "r"

-- the words of a successor
abbrev pub successor_words : Successor → List (List ℕ)
successor_words x = letter_text x.letter ∷ word_text x.to ∷ []

-- keeps, and the kept flags in the order N Z C V
abbrev pub kept_names : (ℕ → Bool) → List (List ℕ)
kept_names keeps =
    (if keeps 3 then codes "N" ∷ [] else []) ++ (if keeps 2 then codes "Z" ∷ [] else [])
    ++ (if keeps 1 then codes "C" ∷ [] else []) ++ (if keeps 0 then codes "V" ∷ [] else [])

-- the kept flags, if there are any
abbrev pub keeps_words : List (List ℕ) → List (List ℕ)
keeps_words [] = []
keeps_words (n ∷ ns) = codes "keeps" ∷ n ∷ ns

-- what stands behind the address
abbrev pub row_words : Program → ℕ → (ℕ → Bool) → Option Row → List (List ℕ)
row_words p a keeps None = (if fetchable p (file_word p a) a then codes "norow" else codes "fetch") ∷ []
row_words p a keeps (Some row) =
    flat_map successor_words (successors_at p a) ++ (if may_return p a then codes "x" ∷ [] else []) ++ keeps_words (kept_names keeps)

-- the line of an address
abbrev pub graph_line : Program → ℕ → (ℕ → Bool) → List ℕ
graph_line p a keeps = line (word_text a ++ spaced (row_words p a keeps (file_row p a)))

-- the text of a program's graph: a line for each address, in rising order, with the flags whose assignment there is live
pub record IsGraphText (p : Program) (text : List ℕ) : Type 0 where
  pub addresses : List ℕ
  pub keeps : ℕ → ℕ → Bool
  pub all : (a : ℕ) → Contains addresses a ↔ IsAddress p a
  pub rising : (i j : ℕ) → i < j → j < length addresses → slice_index addresses i < slice_index addresses j
  pub live : (a f : ℕ) → IsAddress p a → f < 4 → (keeps a f ≡ true) ↔ IsLive p f a
  pub text_is : text ≡ flat_map (λ a. graph_line p a (keeps a)) addresses
