-- Work that is made from a number: a function of computing rows with notes of what it computes.
use Rattle.std.specs.Prelude.{ℕ, zero, suc, ◌+◌, ◌*◌, ◌/◌, ◌%◌, ◌^◌, ◌==◌, if◌then◌else◌, List, [], ◌∷◌, ◌++◌, codes, bit_xor}
use Rattle.word_spec.specs.Words.{add, shl}
use Rattle.word_spec.specs.RowFiles.{rv_file}
use Rattle.word_spec.specs.Texts.{word_text, number_text, lines, spaced}

-- the number behind another in the sequence
abbrev pub next_item : ℕ → ℕ
next_item x = (1103515245 * x + 12345) % 2 ^ 31

-- an item's kind
abbrev pub item_kind : ℕ → ℕ
item_kind x = x / 65536 % 4

-- an item's number
abbrev pub item_number : ℕ → ℕ
item_number x = x / 262144 % 2048

-- the word of an item: addi a0,a0,n; xori a0,a0,n; slli a0,a0,1; add a0,a0,a1
abbrev pub item_word : ℕ → ℕ
item_word x =
    if item_kind x == 0 then item_number x * 2 ^ 20 + 0x50513 else
    if item_kind x == 1 then item_number x * 2 ^ 20 + 0x54513 else
    if item_kind x == 2 then 0x151513 else 0xb50533

-- its result on a0, with a1
abbrev pub result_of : ℕ → (a0 a1 : ℕ) → ℕ
result_of x a0 a1 =
    if item_kind x == 0 then add 32 a0 (item_number x) else
    if item_kind x == 1 then bit_xor a0 (item_number x) else
    if item_kind x == 2 then shl 32 a0 1 else add 32 a0 a1

-- the words of so many items after a number, and the return
abbrev pub item_words : ℕ → ℕ → List ℕ
item_words x zero = 0x8067 ∷ []
item_words x (suc n) = item_word (next_item x) ∷ item_words (next_item x) n

-- a0 after so many items
abbrev pub result_from : (x a0 a1 : ℕ) → ℕ → ℕ
result_from x a0 a1 zero = a0
result_from x a0 a1 (suc n) = result_from (next_item x) (result_of (next_item x) a0 a1) a1 n

-- a0 after all items
abbrev pub result : (seed count : ℕ) → ℕ
result seed count = result_from seed seed count count

-- the ELF file, and the notes
abbrev pub work_file : (seed count : ℕ) → List ℕ
work_file seed count = rv_file (item_words seed count)

-- the notes
abbrev pub work_notes : (seed count : ℕ) → List ℕ
work_notes seed count =
    lines (codes "entry 0x10000" ∷ (codes "require a0 =" ++ spaced (number_text seed ∷ []))
    ∷ (codes "require a1 =" ++ spaced (number_text count ∷ [])) ∷ (codes "ensure a0 =" ++ spaced (word_text (result seed count) ∷ [])) ∷ [])

-- what is written before the verdict's line
abbrev pub work_text : (seed count : ℕ) → List ℕ
work_text seed count =
    codes "selfrun" ++ spaced (number_text seed ∷ number_text count ∷ codes "words" ∷ number_text (count + 1) ∷ codes "a0" ∷ word_text (result seed count) ∷ [])
    ++ 32 ∷ []
