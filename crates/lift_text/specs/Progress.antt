-- The text as far as it was built.
use Rattle.std.specs.Prelude.{ℕ, ◌≡◌, ◌≤◌, ◌<◌, ◌^◌, ◌==◌, ◌↔◌, true, if◌then◌else◌, List, ◌++◌, length, slice_index, Contains}
use Rattle.std.specs.List.{flat_map}
use Rattle.machine_spec.specs.Machine.{Machine, IsAtPlace}
use Rattle.machine_spec.specs.Bil.{Bank}
use Rattle.bilv_spec.specs.LiftText.{is_word_at, word_in, IsWordText}

-- the text of the words before an address
pub record IsTextTo (m : Machine) (bank : Bank) (file : List ℕ) (at : ℕ) (text : List ℕ) : Type 0 where
  pub words : List ℕ
  pub texts : ℕ → List ℕ
  pub all : (a : ℕ) → Contains words a ↔ ((a < at) × (is_word_at m file a ≡ true))
  pub rising : (i j : ℕ) → i < j → j < length words → slice_index words i < slice_index words j
  pub each : (a : ℕ) → Contains words a → IsWordText m bank file a (m.row (word_in m file a)) (texts a)
  pub text_is : text ≡ flat_map texts words

-- texts by addresses, with another one at an address
abbrev pub put_text : (ℕ → List ℕ) → (at : ℕ) → List ℕ → ℕ → List ℕ
put_text texts at text a = if a == at then text else texts a

-- the text of the word at an address was appended
pub record IsAppended (m : Machine) (bank : Bank) (file : List ℕ) (at : ℕ) (old new : List ℕ) : Type 0 where
  pub text : List ℕ
  pub says : IsWordText m bank file at (m.row (word_in m file at)) text
  pub is : new ≡ old ++ text

-- the text of the words before an address became that of those before a later one at which a row can stand
pub record IsAdvance (m : Machine) (bank : Bank) (file : List ℕ) (at : ℕ) (old : List ℕ) (next : ℕ) (new : List ℕ) : Type 0 where
  pub later : at < next
  pub within : next ≤ 2 ^ 32
  pub aligned : IsAtPlace m.narrow next
  pub text : IsTextTo m bank file at old → IsTextTo m bank file next new
