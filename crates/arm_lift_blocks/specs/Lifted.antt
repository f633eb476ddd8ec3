-- The lists of LDM and STM (section A3.12), from the registers that they name.
use Rattle.std.specs.Prelude.{ℕ, ◌-◌, ◌*◌, Bool, true, false, List, [], ◌∷◌, Option, Some, None, ◌==◌, if◌then◌else◌, length}
use Rattle.word_spec.specs.Words.{add, sub}
use Rattle.word_spec.specs.Memory.{Endian}
use Rattle.machine_spec.specs.Bil as bil
use Rattle.machine_spec.specs.Bil.{Bits, RRegisters, Expression, Var, Constant, Load, Store, Binary, Unknown, Choose, Statements, Empty, Assign, JumpTo}
use Rattle.arm_lift_alu.specs.Lifted.{number}

-- a register, as a variable
abbrev pub variable : ℕ → bil.BilVariable
variable r = bil.Register RRegisters r

-- the address that is a distance behind the multiple of 4 at or below a register
abbrev pub word_at : (base distance : ℕ) → Expression
word_at b d = Binary bil.Plus (Binary bil.And (Var (variable b)) (number 0xfffffffc)) (number d)

-- the word there
abbrev pub loaded : Endian → (base distance : ℕ) → Expression
loaded e b d = Load (Var bil.Mem) (word_at b d) e 32

-- the memory with a word there
abbrev pub stored : Endian → (base distance : ℕ) → Expression → Expression
stored e b d v = Store (Var bil.Mem) (word_at b d) e 32 v

-- what is stored of a register: of r15 the address of the row and 12 or 8, as nobody knows
abbrev pub stored_by : (is_pc : Bool) → (r at : ℕ) → Expression
stored_by true r at = Choose (Unknown (Bits 1)) (number (add 32 at 12)) (number (add 32 at 8))
stored_by false r at = Var (variable r)

-- one register is loaded, or jumped to; the base is left for later
abbrev pub load_one : (is_base is_pc : Bool) → Endian → (base distance r : ℕ) → Statements → Statements
load_one true is_pc e b d r rest = rest
load_one false true e b d r rest = JumpTo (loaded e b d) rest
load_one false false e b d r rest = Assign (variable r) (loaded e b d) rest

-- the registers of a list but the base, from the words at a distance on, and then others
abbrev pub loads : Endian → (base distance : ℕ) → List ℕ → Statements → Statements
loads e b d [] rest = rest
loads e b d (r ∷ rs) rest = load_one (r == b) (r == 15) e b d r (loads e b (add 32 d 4) rs rest)

-- the words at a distance on take the registers of a list, and then others
abbrev pub stores : Endian → (base at distance : ℕ) → List ℕ → Statements → Statements
stores e b at d [] rest = rest
stores e b at d (r ∷ rs) rest = Assign bil.Mem (stored e b d (stored_by (r == 15) r at)) (stores e b at (add 32 d 4) rs rest)

-- at which distance the word of a register is, if it is in the list
abbrev pub place_of : (r distance : ℕ) → List ℕ → (found : Option ℕ) → Option ℕ
place_of b d [] found = found
place_of b d (r ∷ rs) found = place_of b (add 32 d 4) rs (if r == b then Some d else found)

-- the base with a number of bytes added or subtracted
abbrev pub moved : (is_up : Bool) → (base bytes : ℕ) → Expression
moved true b n = Binary bil.Plus (Var (variable b)) (number n)
moved false b n = Binary bil.Minus (Var (variable b)) (number n)

-- the base is written back
abbrev pub written_back : (writes is_up : Bool) → (base bytes : ℕ) → Statements
written_back true up b n = Assign (variable b) (moved up b n) Empty
written_back false up b n = Empty

-- the base is loaded, or else written back
abbrev pub base_last : Option ℕ → Endian → (writes is_up : Bool) → (base bytes : ℕ) → Statements
base_last (Some d) e writes up b n = Assign (variable b) (loaded e b d) Empty
base_last None e writes up b n = written_back writes up b n

-- how far the first of some bytes is from the base (section A5.4)
abbrev pub first : (is_up is_before : Bool) → (bytes : ℕ) → ℕ
first true before n = if before then 4 else 0
first false before n = sub 32 0 (n - (if before then 0 else 4))

-- the list of LDM, at a distance of the first word, with a number of bytes
abbrev pub loaded_list : Endian → (writes is_up : Bool) → (base distance bytes : ℕ) → List ℕ → Statements
loaded_list e writes up b d n rs = loads e b d rs (base_last (place_of b d rs None) e writes up b n)

-- the list of STM, at a distance of the first word, with a number of bytes
abbrev pub stored_list : Endian → (writes is_up : Bool) → (base at distance bytes : ℕ) → List ℕ → Statements
stored_list e writes up b at d n rs = stores e b at d rs (written_back writes up b n)

-- the list of LDM or STM
abbrev pub block_by : (is_load : Bool) → Endian → (writes is_up : Bool) → (base at distance bytes : ℕ) → List ℕ → Statements
block_by true e writes up b at d n rs = loaded_list e writes up b d n rs
block_by false e writes up b at d n rs = stored_list e writes up b at d n rs

-- the list of LDM or STM, which stands at an address
abbrev pub block : (is_load : Bool) → Endian → (writes is_up is_before : Bool) → (base at : ℕ) → List ℕ → Statements
block l e writes up before b at rs = block_by l e writes up b at (first up before (4 * length rs)) (4 * length rs) rs
