-- Counts of reads, by the name of the file and by the place in it at which a read begins.
use Rattle.std.specs.Prelude.{ℕ, ◌+◌, ◌≤◌, ◌==◌, ◌&&◌, Bool, true, false, List, [], ◌∷◌}
use Rattle.std.specs.Str.{bytes_eq}

-- 1 where a test is true
abbrev pub one_if : Bool → ℕ
one_if true = 1
one_if false = 0

-- how often a name stands among names
abbrev pub times : List ℕ → List (List ℕ) → ℕ
times n [] = 0
times n (x ∷ xs) = one_if (bytes_eq n x) + times n xs

-- no read began but one of this name, at this place
abbrev pub BeginsAt : (before after : List ℕ → ℕ → ℕ) → (name : List ℕ) → (at : ℕ) → Type 0
BeginsAt before after name at = (n : List ℕ) (place : ℕ) → after n place ≤ before n place + one_if (bytes_eq n name && (place == at))

-- At each place of a file no more reads began than its name stands among these. So no other file was read, and one that stands there once was read once.
pub record AreBegun (before after : List ℕ → ℕ → ℕ) (names : List (List ℕ)) : Type 0 where
  pub few : (n : List ℕ) (place : ℕ) → after n place ≤ before n place + times n names
