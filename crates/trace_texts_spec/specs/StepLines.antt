-- The lines of the steps of a trace.
use Rattle.std.specs.Prelude.{ℕ, zero, suc, ◌≡◌, ◌-◌, ◌==◌, Bool, false, nat_lt, if◌then◌else◌, List, [], ◌∷◌, ◌++◌, Option, Some, None, codes, drop, length, slice_index}
use Rattle.std.specs.Fmt.{digits}
use Rattle.std.specs.List.{flat_map, prefix_len}
use Rattle.word_spec.specs.Words.{add}
use Rattle.word_spec.specs.Memory.{number}
use Rattle.word_spec.specs.Texts.{hex_digits, number_text, word_text, line, split_lines}
use Rattle.machine_spec.specs.Machine.{Machine, Row, first_half, offsets, taken, width}
use Rattle.machine_spec.specs.MachineLaws.{IsLifting}
use Rattle.machine_spec.specs.Bil.{Bank, Statements}
use Rattle.machine_spec.specs.BilText.{flag_text, list_text}
use Rattle.bilv_spec.specs.Elf.{loaded}
use Rattle.bilv_spec.specs.Points.{byte_of_cell}
use Rattle.trace_spec.specs.Seen.{Change, SeenStep, StepKind, OfRow, OfContract, OfArrival}
use Rattle.trace_texts_spec.specs.Names.{Names, register_names}

-- ---- a list of statements on one line

-- a blank
abbrev pub is_space : ℕ → Bool
is_space b = b == 32

-- without the blanks in front
abbrev pub outdented : List ℕ → List ℕ
outdented text = drop (prefix_len is_space text) text

-- the text ends with a bracket that opens a block
abbrev pub opens_block : List ℕ → Bool
opens_block text = slice_index text (length text - 1) == 123

-- a line among others on one line: a semicolon behind it, unless a block opens
abbrev pub ended : List ℕ → List ℕ
ended text = if opens_block text then outdented text else outdented text ++ codes ";"

-- the lines of a text, each with a blank in front
abbrev pub in_line : List (List ℕ) → List ℕ
in_line [] = []
in_line (l ∷ ls) = 32 ∷ ended l ++ in_line ls

-- ---- what stands at an address

-- what is decoded of the four bytes that a file has from an address on; a byte that is not loaded counts as 0
abbrev pub word_of_file : Machine → (file : List ℕ) → ℕ → ℕ
word_of_file m file a = taken m.narrow (number m.endian 4 (λ i. byte_of_cell (loaded file (add 32 a i))))

-- two digits for each byte of the row there, each with a blank in front, in the file's order
abbrev pub bytes_in_line : (file : List ℕ) → (at : ℕ) → List ℕ → List ℕ
bytes_in_line file a offsets = flat_map (λ i. 32 ∷ hex_digits 2 (byte_of_cell (loaded file (add 32 a i)))) offsets

-- the bytes of the row at an address
abbrev pub row_bytes : Machine → (file : List ℕ) → ℕ → List ℕ
row_bytes m file a = bytes_in_line file a (offsets (width m.narrow (first_half (word_of_file m file a))))

-- what the row does: the statements of a list that does the same, on one line; or that there is none
abbrev pub IsMeaning : Machine → Bank → Option Row → (at : ℕ) → List ℕ → Type 0
IsMeaning m bank None at text = text ≡ codes " none"
IsMeaning m bank (Some row) at text = (list : Statements) × IsLifting m bank row at list × (text ≡ in_line (split_lines (list_text 0 list)))

-- ---- what a step changes

abbrev pub register_change : Names → Change → List ℕ
register_change n c = codes "  " ++ register_names n c.place ++ codes " " ++ word_text c.old ++ codes " -> " ++ word_text c.new

abbrev pub flag_change : Change → List ℕ
flag_change c = codes "  " ++ flag_text c.place ++ codes " " ++ number_text c.old ++ codes " -> " ++ number_text c.new

abbrev pub byte_change : Change → List ℕ
byte_change c = codes "  [" ++ word_text c.place ++ codes "] " ++ hex_digits 2 c.old ++ codes " -> " ++ hex_digits 2 c.new

-- a call or a return, with the number of calls that have not returned behind it
abbrev pub depth_text : (before after : ℕ) → List ℕ
depth_text before after =
    if nat_lt before after then codes "  call, depth " ++ number_text after else
    if nat_lt after before then codes "  return, depth " ++ number_text after else []

-- the registers, flags and bytes, and the call or the return
abbrev pub changes_text : Names → SeenStep → List ℕ
changes_text n s =
    flat_map (register_change n) s.regs ++ flat_map flag_change s.flags ++ flat_map byte_change s.bytes ++ depth_text s.depth s.later

-- ---- the line of a step

-- how far an address is behind a symbol
abbrev pub behind_text : ℕ → List ℕ
behind_text zero = []
behind_text (suc n) = codes "+0x" ++ digits 16 false (suc n)

-- the nearest symbol that is not above an address, with its value
abbrev pub near_text : (near : Option (List ℕ × ℕ)) → (at : ℕ) → List ℕ
near_text None at = []
near_text (Some s) at = codes " " ++ s.0 ++ behind_text (at - s.1)

-- the number of a step and its address
abbrev pub head_text : Option (List ℕ × ℕ) → SeenStep → List ℕ
head_text near s = number_text s.number ++ codes " " ++ word_text s.at ++ near_text near s.at

-- the bytes of the row at an address and what they mean
abbrev pub IsRowText : Machine → Bank → (file : List ℕ) → (at : ℕ) → List ℕ → Type 0
IsRowText m bank file at text =
    (meaning : List ℕ) × IsMeaning m bank (m.row (word_of_file m file at)) at meaning × (text ≡ 32 ∷ row_bytes m file at ++ 32 ∷ meaning)

-- what a step is: that of a row, or a word
abbrev pub IsKindText : Machine → Bank → (file : List ℕ) → (at : ℕ) → StepKind → List ℕ → Type 0
IsKindText m bank file at OfRow text = IsRowText m bank file at text
IsKindText m bank file at OfContract text = text ≡ codes "  contract"
IsKindText m bank file at OfArrival text = text ≡ codes "  head"

-- the line of a step
abbrev pub IsStepLine : Machine → Bank → Names → (file : List ℕ) → (near : ℕ → Option (List ℕ × ℕ)) → SeenStep → List ℕ → Type 0
IsStepLine m bank n file near s text =
    (kind : List ℕ) × IsKindText m bank file s.at s.kind kind × (text ≡ line (head_text (near s.at) s ++ kind ++ changes_text n s))

-- the lines of steps
abbrev pub AreStepLines : Machine → Bank → Names → (file : List ℕ) → (near : ℕ → Option (List ℕ × ℕ)) → List SeenStep → List ℕ → Type 0
AreStepLines m bank n file near [] text = text ≡ []
AreStepLines m bank n file near (s ∷ steps) text =
    (first rest : List ℕ) × IsStepLine m bank n file near s first × AreStepLines m bank n file near steps rest × (text ≡ first ++ rest)

-- the line that stands for so many steps that are left out
abbrev pub left_out : ℕ → List ℕ
left_out zero = []
left_out (suc n) = line (codes ".. " ++ number_text (suc n) ++ codes " steps left out")

-- the lines of the last steps: all of them, or so many
abbrev pub AreLastLines : Machine → Bank → Names → (file : List ℕ) → (near : ℕ → Option (List ℕ × ℕ)) → (last : ℕ) → List SeenStep → List ℕ → Type 0
AreLastLines m bank n file near last steps text =
    (lines : List ℕ) × AreStepLines m bank n file near (drop (length steps - last) steps) lines × (text ≡ left_out (length steps - last) ++ lines)
