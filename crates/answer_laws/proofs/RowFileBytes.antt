-- What a row file of RISC-V loads, and that it is accepted.
use Rattle.std.proofs.Common.{◌≡◌, ℕ, zero, suc, ◌+◌, ◌-◌, ◌*◌, ◌/◌, ◌%◌, ◌^◌, ◌<◌, ◌≤◌, inl, inr, List, [], ◌∷◌, length, get_or, refl, ap, sym, subst, arith, lit<, Bool, true, false, Some}
use Rattle.std.specs.Prelude.{nat_le, nat_lt, slice_get, if◌then◌else◌, find}
use Rattle.std.specs.List.{flat_map}
use Rattle.std.proofs.lemmas.Bool.Decides.{nat_tests}
use Rattle.std.proofs.lemmas.List.{get_or-append-add}
use Rattle.word_spec.specs.Memory.{Little, little}
use Rattle.bilv_spec.specs.Elf.{Segment, segments, loaded, covers, cell_in}
use Rattle.bilv_spec.specs.ElfFaults.{IsImage, IsLoad, ShortFile, BadMagic, BadClass, BadData, BadVersion, BadType, BadMachine, BadHeaderTable, BadSegmentRange, BadFileSize, SegmentsOverlap, BadSymbolTable}
use Rattle.bilv_spec.specs.Points.{byte_of_cell}
use Rattle.word_spec.specs.RowFiles.{bytes_of, headers, rv_file}
use Rattle.notes_spec.specs.Verified.{IsAccepted}

-- the bytes of the words
abbrev pub code : List ℕ → List ℕ
code words = flat_map (bytes_of Little 4) words

-- a number of its four bytes
of_bytes : (n : ℕ) → n < 2 ^ 32 → 0 + n / 1 % 256 * 1 + n / 256 % 256 * 256 + n / 65536 % 256 * 65536 + n / 16777216 % 256 * 16777216 ≡ n
of_bytes n h = omega arith

-- the word i, of its four bytes
pub code_word : (words : List ℕ) (i : ℕ) → get_or words i 0 < 2 ^ 32 → i < length words → little 4 (λ j. get_or (code words) (4 * i + j) 0) ≡ get_or words i 0
code_word (w ∷ words) zero small inside = of_bytes w small
code_word (w ∷ words) (suc i) small inside =
    let next : (j : ℕ) → 4 * suc i + j ≡ suc (suc (suc (suc (4 * i + j)))) = λ j. omega arith in
    simp next (code_word words i small (omega arith))
code_word [] i small inside = absurd (omega arith)

length-code : (words : List ℕ) → length (code words) ≡ 4 * length words
length-code [] = refl
length-code (w ∷ words) = let h = length-code words in omega arith

length-rv_file : (words : List ℕ) → length (rv_file words) ≡ 84 + 4 * length words
length-rv_file words = let h = length-code words in omega arith

file_byte : (words : List ℕ) (k : ℕ) → get_or (rv_file words) (84 + k) 0 ≡ get_or (code words) k 0
file_byte words k = get_or-append-add (headers Little 243 (4 * length words)) (code words) k 0

byte_small : (words : List ℕ) (k : ℕ) → get_or (code words) k 0 < 256
byte_small [] k = lit< tt
byte_small (w ∷ words) zero = omega arith
byte_small (w ∷ words) (suc zero) = omega arith
byte_small (w ∷ words) (suc (suc zero)) = omega arith
byte_small (w ∷ words) (suc (suc (suc zero))) = omega arith
byte_small (w ∷ words) (suc (suc (suc (suc k)))) = byte_small words k

low_ok : (k : ℕ) → nat_le 65536 (65536 + k) ≡ true
low_ok k = grind (arith, nat_tests)

high_ok : (k n : ℕ) → k < n → nat_lt (65536 + k) (65536 + n) ≡ true
high_ok k n h = grind (arith, nat_tests)

within_ok : (k n : ℕ) → k < n → nat_lt k n ≡ true
within_ok k n h = grind (arith, nat_tests)

there : (k : ℕ) → 65536 + k - 65536 ≡ k
there k = omega arith

-- the file loads its words at 0x10000
pub loads : (words : List ℕ) (k : ℕ) → length words ≤ 65536 → k < 4 * length words →
    loaded (rv_file words) (65536 + k) ≡ Some (record { byte = get_or (code words) k 0; flags = 5 })
loads words k short inside =
    let small : 4 * length words < 2 ^ 32 = omega arith in
    let size = of_bytes (4 * length words) small in
    simp (size, low_ok, high_ok k (4 * length words) inside, there, within_ok k (4 * length words) inside, file_byte words k)

-- the one segment
abbrev only : ℕ → Segment
only size = record { kind = 1; offset = 84; address = 65536; in_file = size; in_memory = size; flags = 5 }

only_one : (s t : Segment) (i : ℕ) → slice_get (s ∷ []) i ≡ Some t → (i ≡ 0) × (s ≡ t)
only_one s t zero e = (refl, cc)
only_one s t (suc i) e = cc

module _ (words : List ℕ) (short : length words ≤ 65536) where
  segments_are : segments (rv_file words) ≡ only (4 * length words) ∷ []
  segments_are = ap (λ n. only n ∷ []) (of_bytes (4 * length words) (omega arith))

  load_is : (i : ℕ) (s : Segment) → IsLoad (rv_file words) i s → (i ≡ 0) × (only (4 * length words) ≡ s)
  load_is i s load = only_one (only (4 * length words)) s i (subst (λ (xs : List Segment). slice_get xs i ≡ Some s) segments_are load.0)

  is_image : IsImage (rv_file words)
  is_image ShortFile h = let l = length-rv_file words in omega arith
  is_image BadMagic h = h refl
  is_image BadClass h = h refl
  is_image BadData h = h.0 refl
  is_image BadVersion (inl h) = h refl
  is_image BadVersion (inr h) = h refl
  is_image BadType h = h.0 refl
  is_image BadMachine (inl h) = h.1 refl
  is_image BadMachine (inr h) = let e = h.1 in omega arith
  is_image BadHeaderTable (inl h) = h.1 refl
  is_image BadHeaderTable (inr (inl h)) = omega arith
  is_image BadHeaderTable (inr (inr h)) = let l = length-rv_file words in omega arith
  is_image BadSegmentRange h =
      let at = ap (λ s. s.address + s.in_memory) (load_is h.0 h.1 h.2).1 in
      let large = h.3 in
      omega arith
  is_image BadFileSize (i, s, load, inl h) =
      let is = (load_is i s load).1 in
      let a = ap (λ t. t.in_file) is in
      let b = ap (λ t. t.in_memory) is in
      omega arith
  is_image BadFileSize (i, s, load, inr h) =
      let is = (load_is i s load).1 in
      let a = ap (λ t. t.offset + t.in_file) is in
      let l = length-rv_file words in
      omega arith
  is_image SegmentsOverlap h =
      let a = (load_is h.0 h.3 h.5).0 in
      let b = (load_is h.1 h.4 h.6).0 in
      let less = h.7 in
      omega arith
  is_image BadSymbolTable h = h.0.0 refl

  pub is_accepted : IsAccepted (rv_file words)
  is_accepted = (let l = length-rv_file words in omega arith, is_image)

  chosen : (inside : Bool) (a : ℕ) → (if inside then get_or (rv_file words) (84 + (a - 65536)) 0 else 0) < 256
  chosen true a = subst (λ (n : ℕ). n < 256) (sym (file_byte words (a - 65536))) (byte_small words (a - 65536))
  chosen false a = lit< tt

  covered : (covers_it : Bool) (a : ℕ) →
      byte_of_cell (cell_in (rv_file words) a (if covers_it then Some (only (4 * length words)) else find (covers a) [])) < 256
  covered true a = chosen (nat_lt (a - 65536) (4 * length words)) a
  covered false a = lit< tt

  -- what is loaded are bytes
  pub loads_bytes : (a : ℕ) → byte_of_cell (loaded (rv_file words) a) < 256
  loads_bytes a =
      subst (λ (xs : List Segment). byte_of_cell (cell_in (rv_file words) a (find (covers a) xs)) < 256) (sym segments_are)
      (covered (covers a (only (4 * length words))) a)
