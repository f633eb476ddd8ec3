-- The numbers of a slice that starts at an offset are those of the file at that offset.
use Rattle.std.proofs.Common.{◌≡◌, ℕ, ◌+◌, List, drop, arith, get_or, get_or-drop}
use Rattle.word_spec.specs.Memory.{little, big}
use Rattle.byteorder.specs.Endian.{big_number, little_number}

pub little_half : (file : List ℕ) (at : ℕ) → little_number 2 (drop at file) ≡ little 2 (λ i. get_or file (at + i) 0)
little_half file at = simp get_or-drop (omega arith)

pub big_half : (file : List ℕ) (at : ℕ) → big_number 2 (drop at file) ≡ big 2 (λ i. get_or file (at + i) 0)
big_half file at = simp get_or-drop (omega arith)

pub little_word : (file : List ℕ) (at : ℕ) → little_number 4 (drop at file) ≡ little 4 (λ i. get_or file (at + i) 0)
little_word file at = simp get_or-drop (omega arith)

pub big_word : (file : List ℕ) (at : ℕ) → big_number 4 (drop at file) ≡ big 4 (λ i. get_or file (at + i) 0)
big_word file at = simp get_or-drop (omega arith)

pub ruleset numbers = (little_half, big_half, little_word, big_word)
