-- Files that need another option or another line of notes than they were given.
use Rattle.std.specs.Prelude.{ℕ, ◌≡◌, ◌≢◌, ◌<◌, ◌+◌, ◌*◌, ◌%◌, ◌==◌, ◌&&◌, ◌↔◌, not, Bool, true, false, List, ◌++◌, slice_index}
use Rattle.bilv_spec.specs.Elf.{field}
use Rattle.bilv_spec.specs.ElfFaults.{section, IsName, IsSymbols}
use Rattle.bilv_spec.specs.Files.{is_rv}
use Rattle.bilv_spec.specs.Notes.{Function, At, Named}
use Rattle.note_check.specs.Warnings.{only}
use Rattle.note_check.specs.declared.warning.Warning.{Warning}
use Rattle.note_check.specs.declared.warning.Warning.TheVariants.{CompressedCode, ThumbFunction, NoSymbols}

-- e_flags (System V ABI, ELF header) of a RISC-V file has EF_RISCV_RVC, its lowest bit (RISC-V ELF psABI, file header: e_flags), and compressed instructions
-- were not asked for
abbrev pub misses_compressed : (rvc : Bool) → (file : List ℕ) → Bool
misses_compressed rvc file = is_rv file && not rvc && (field file 4 36 % 2 == 1)

-- where symbol k of section i stands
abbrev pub symbol_place : (file : List ℕ) → (i k : ℕ) → ℕ
symbol_place file i k = (section file i).offset + 16 * k

-- a symbol of a value at a place is that of the function that notes name: it has its name, or the address that its value says
abbrev pub IsSymbolOf : (file : List ℕ) → Function → (i place : ℕ) → Type 0
IsSymbolOf file (At a) i place = field file 4 (place + 4) ≡ a + 1
IsSymbolOf file (Named name) i place = IsName file (section file (section file i).link) (field file 4 place) name

-- Symbol k of section i says that the function is Thumb code: it is a function, as STT_FUNC, which is 2, says, and is defined in some section (System V ABI,
-- symbol table), and its value is odd (ELF for the Arm Architecture, symbol values).
pub record IsThumbSymbol (file : List ℕ) (f : Function) (i k : ℕ) : Type 0 where
  pub table : IsSymbols file i
  pub within : 16 * k < (section file i).size
  pub function : slice_index file (symbol_place file i k + 12) % 16 ≡ 2
  pub defined : field file 2 (symbol_place file i k + 14) ≢ 0
  pub odd : field file 4 (symbol_place file i k + 4) % 2 ≡ 1
  pub of_function : IsSymbolOf file f i (symbol_place file i k)

-- the function is Thumb code of an ARM file
abbrev pub IsThumb : (file : List ℕ) → Function → Type 0
IsThumb file f = (is_rv file ≡ false) × ((i : ℕ) × ((k : ℕ) × IsThumbSymbol file f i k))

-- the function is named by a symbol, and there is no symbol table
abbrev pub LacksSymbols : (file : List ℕ) → Function → Type 0
LacksSymbols file (At a) = ⊥
LacksSymbols file (Named name) = (i : ℕ) → ¬ IsSymbols file i

-- what was found is the warnings that apply to a file and the function that notes name, in this order, each once
pub record AreWrongOptions (rvc : Bool) (file : List ℕ) (f : Function) (found : List Warning) : Type 0 where
  pub thumb : Bool
  pub nameless : Bool
  pub thumb_is : (thumb ≡ true) ↔ IsThumb file f
  pub nameless_is : (nameless ≡ true) ↔ LacksSymbols file f
  pub found_is : found ≡ only (misses_compressed rvc file) CompressedCode ++ only thumb ThumbFunction ++ only nameless NoSymbols
