-- What the file of a suite says.
use Rattle.std.specs.Prelude.{ℕ, ◌≡◌, List}
use Rattle.std.specs.Str.{IsUtf8}
use Rattle.call_spec.specs.Outside.{Held, Agrees, IsLonger, Rose}
use Rattle.suite_file.specs.Suites.{Check, Fault, Got, Refused, suite_of}

-- the checks of a suite, or the status with which the program ends without them
pub data Loaded : Type 0 where
  Checks : List Check → Loaded
  Stopped : (status : ℕ) → Loaded

-- the most bytes of a suite
abbrev pub suite_limit : ℕ
suite_limit = 1048576

-- bytes are no UTF-8, or a text that is no suite, or a suite
pub data IsParsed (bytes : List ℕ) (l : Loaded) : Type 0 where
  not_text : ¬ IsUtf8 bytes → l ≡ Stopped 9 → IsParsed bytes l
  refused : (f : Fault) → suite_of bytes ≡ Refused f → l ≡ Stopped 9 → IsParsed bytes l
  parsed : (checks : List Check) → suite_of bytes ≡ Got checks → l ≡ Checks checks → IsParsed bytes l

-- the file cannot be read, or is longer than the limit, or its bytes say this
pub data IsLoaded (held : List ℕ → Held) (before after : List ℕ → ℕ) (name : List ℕ) (l : Loaded) : Type 0 where
  read_failed : Rose (before name) (after name) → l ≡ Stopped 6 → IsLoaded held before after name l
  too_large : IsLonger (held name) suite_limit → l ≡ Stopped 9 → IsLoaded held before after name l
  was_read : (bytes : List ℕ) → Agrees (held name) bytes → IsParsed bytes l → IsLoaded held before after name l
