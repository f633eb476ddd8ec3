-- The commands of a script: its declarations, a definition for each node, one for each byte of the file, and the assertion.
use Rattle.std.specs.Prelude.{ℕ, zero, suc, ◌+◌, ◌-◌, ◌*◌, ◌/◌, ◌%◌, ◌^◌, ◌==◌, ◌&&◌, Bool, true, false, if◌then◌else◌, List, [], ◌∷◌, ◌++◌, codes, length, map, slice_index, slice_index_or}
use Rattle.word_spec.specs.Memory.{Endian, Little, Big, place}
use Rattle.machine_spec.specs.Bil.{BinaryOp, Plus, Minus, Times, Divide, SignedDivide, Modulo, SignedModulo, And, Or, Xor, ShiftLeft, ShiftRight, ShiftSigned, Equal, NotEqual, Less, LessEqual, SignedLess, SignedLessEqual}
use Rattle.word_spec.specs.Texts.{number_text, hex_digits}
use Rattle.machine_spec.specs.StateText.{Layout}
use Rattle.bilv_spec.specs.Scripts.{choice_name}
use Rattle.bilv_spec.specs.SmtLib.{Sexp, Atom, Nil}
use Rattle.term_spec.specs.Terms.{TermNode, RegisterNode, FlagNode, ChoiceNode, BaseNode, MemoryNode, ConstantNode, BinaryNode, NotNode, SelectNode, ExtractNode, ConcatNode, ExtendNode, LoadNode, StoreNode, JoinNode, TakeNode, width_of}
use Rattle.walk_spec.specs.Unrolled.{AddressRun, ByteRun, is_in}
use Rattle.frame_spec.specs.Frames.{Writes}
use Rattle.frame_spec.specs.FrameScripts.{of_head, given_prefix, of_given, changed_registers, changed_flags, written_memory, writes_some}
use Rattle.smtlib_print.specs.Written.{one, two, three, four, five}

-- the name of a term: t and its place
abbrev pub term_name : ℕ → List ℕ
term_name n = codes "t" ++ number_text n

-- a term by its name
abbrev pub term : ℕ → Sexp
term n = Atom (term_name n)

-- a number
abbrev pub numeral : ℕ → Sexp
numeral n = Atom (number_text n)

-- the n lowest binary digits of a number
abbrev pub binary_digits : ℕ → ℕ → List ℕ
binary_digits zero v = []
binary_digits (suc n) v = binary_digits n (v / 2) ++ (48 + v % 2) ∷ []

-- a constant of a width, in hexadecimal digits where they have just so many bits
abbrev pub constant_text : (width value : ℕ) → List ℕ
constant_text w v = if w % 4 == 0 then codes "#x" ++ hex_digits (w / 4) v else codes "#b" ++ binary_digits w v

-- a constant
abbrev pub constant : (width value : ℕ) → Sexp
constant w v = Atom (constant_text w v)

-- an address, and a byte
abbrev pub address : ℕ → Sexp
address a = Atom (codes "#x" ++ hex_digits 8 a)

abbrev pub byte : ℕ → Sexp
byte v = Atom (codes "#x" ++ hex_digits 2 v)

-- the sort of words of a width
abbrev pub word_sort : Sexp → Sexp
word_sort n = three (Atom (codes "_")) (Atom (codes "BitVec")) n

-- the sort of memories
abbrev pub array_sort : Sexp
array_sort = three (Atom (codes "Array")) (word_sort (Atom (codes "32"))) (word_sort (Atom (codes "8")))

-- the sort of a node by its width, which a memory does not have
abbrev pub sort_of : ℕ → Sexp
sort_of zero = array_sort
sort_of (suc n) = word_sort (numeral (suc n))

-- the application of an operator to two terms
abbrev pub apply : List ℕ → (a b : ℕ) → Sexp
apply operator a b = three (Atom operator) (term a) (term b)

-- the bit that is 1 where a truth value is true
abbrev pub bit_of : Sexp → Sexp
bit_of truth = four (Atom (codes "ite")) truth (Atom (codes "#b1")) (Atom (codes "#b0"))

-- whether a term is the bit 1
abbrev pub is_one : ℕ → Sexp
is_one c = three (Atom (codes "=")) (term c) (Atom (codes "#b1"))

-- one of two terms, by a term of one bit
abbrev pub choose : (c a b : ℕ) → Sexp
choose c a b = four (Atom (codes "ite")) (is_one c) (term a) (term b)

-- an operator's term; by 0 signed division gives all ones
abbrev pub operation : BinaryOp → (w a b : ℕ) → Sexp
operation Plus w a b = apply (codes "bvadd") a b
operation Minus w a b = apply (codes "bvsub") a b
operation Times w a b = apply (codes "bvmul") a b
operation Divide w a b = apply (codes "bvudiv") a b
operation SignedDivide w a b =
    four (Atom (codes "ite")) (three (Atom (codes "=")) (term b) (constant w 0)) (constant w (2 ^ w - 1)) (apply (codes "bvsdiv") a b)
operation Modulo w a b = apply (codes "bvurem") a b
operation SignedModulo w a b = apply (codes "bvsrem") a b
operation And w a b = apply (codes "bvand") a b
operation Or w a b = apply (codes "bvor") a b
operation Xor w a b = apply (codes "bvxor") a b
operation ShiftLeft w a b = apply (codes "bvshl") a b
operation ShiftRight w a b = apply (codes "bvlshr") a b
operation ShiftSigned w a b = apply (codes "bvashr") a b
operation Equal w a b = bit_of (apply (codes "=") a b)
operation NotEqual w a b = bit_of (two (Atom (codes "not")) (apply (codes "=") a b))
operation Less w a b = bit_of (apply (codes "bvult") a b)
operation LessEqual w a b = bit_of (apply (codes "bvule") a b)
operation SignedLess w a b = bit_of (apply (codes "bvslt") a b)
operation SignedLessEqual w a b = bit_of (apply (codes "bvsle") a b)

-- bits hi to lo of a term
abbrev pub extract : (hi lo a : ℕ) → Sexp
extract hi lo a = two (four (Atom (codes "_")) (Atom (codes "extract")) (numeral hi) (numeral lo)) (term a)

-- a term with more bits above it: the sign, or zeros
abbrev pub extend : Bool → (more a : ℕ) → Sexp
extend true more a = two (three (Atom (codes "_")) (Atom (codes "sign_extend")) (numeral more)) (term a)
extend false more a = two (three (Atom (codes "_")) (Atom (codes "zero_extend")) (numeral more)) (term a)

-- the address at a distance behind a term
abbrev pub behind : (a distance : ℕ) → Sexp
behind a zero = term a
behind a (suc i) = three (Atom (codes "bvadd")) (term a) (address (suc i))

-- the byte of a memory at a distance behind an address
abbrev pub selected : (m a distance : ℕ) → Sexp
selected m a i = three (Atom (codes "select")) (term m) (behind a i)

-- one byte, and words of more bytes
abbrev pub joined_bytes : Endian → (more loaded : Sexp) → Sexp
joined_bytes Little more loaded = three (Atom (codes "concat")) more loaded
joined_bytes Big more loaded = three (Atom (codes "concat")) loaded more

-- a load of so many bytes more than one
abbrev pub loading : Endian → (m a more : ℕ) → Sexp
loading e m a zero = selected m a 0
loading e m a (suc n) = joined_bytes e (selected m a (suc n)) (loading e m a n)

-- a memory with the first bytes of a term of n bytes stored
abbrev pub storing : Endian → (n m a v count : ℕ) → Sexp
storing e n m a v zero = term m
storing e n m a v (suc i) = four (Atom (codes "store")) (storing e n m a v i) (behind a i) (extract (8 * place e n i + 7) (8 * place e n i) v)

-- the symbol of what the entry has, whose part is 0, is its name, and that of what the head has, whose part is 1, has h_ before it
abbrev pub part_prefix : (part : ℕ) → List ℕ
part_prefix zero = []
part_prefix (suc p) = of_head []

abbrev pub part_name : (part : ℕ) → List ℕ → List ℕ
part_name p w = part_prefix p ++ w

-- the symbols by these names
abbrev pub part_names : (part : ℕ) → List (List ℕ) → List (List ℕ)
part_names zero names = names
part_names (suc p) names = map of_head names

-- the symbol of a part's memory
abbrev pub memory_name : (part : ℕ) → List ℕ
memory_name p = part_name p (codes "mem")

-- the same of any part: that of what the contract step of a place is given is two above the place, and has the number of the point in its symbols
abbrev pub prefix_in : (numbers : List ℕ) → (part : ℕ) → List ℕ
prefix_in numbers zero = part_prefix zero
prefix_in numbers (suc zero) = part_prefix (suc zero)
prefix_in numbers (suc (suc i)) = given_prefix (slice_index numbers i)

abbrev pub name_in : (numbers : List ℕ) → (part : ℕ) → List ℕ → List ℕ
name_in numbers p w = prefix_in numbers p ++ w

abbrev pub memory_in : (numbers : List ℕ) → (part : ℕ) → List ℕ
memory_in numbers p = name_in numbers p (codes "mem")

-- the byte of a memory by its symbol at a distance behind an address
abbrev pub taken : (from : List ℕ) → (a distance : ℕ) → Sexp
taken from a i = three (Atom (codes "select")) (Atom from) (behind a i)

-- a memory with the first bytes that another one, by its symbol, has from an address on
abbrev pub taking : (from : List ℕ) → (m a count : ℕ) → Sexp
taking from m a zero = term m
taking from m a (suc i) = four (Atom (codes "store")) (taking from m a i) (behind a i) (taken from a i)

-- the term of a node: names of registers, flags and choices come from the layout and the numbers of points; no byte is read of a base
abbrev pub node_term : Layout → (numbers : List ℕ) → TermNode → Sexp
node_term layout numbers (RegisterNode p r) = Atom (name_in numbers p (slice_index_or layout.registers (r - layout.first) []))
node_term layout numbers (FlagNode p f) = Atom (name_in numbers p (slice_index_or layout.flags (length layout.flags - 1 - f) []))
node_term layout numbers (ChoiceNode i) = Atom (choice_name (slice_index numbers i))
node_term layout numbers (BaseNode p j) = byte 0
node_term layout numbers (MemoryNode p) = Atom (memory_in numbers p)
node_term layout numbers (ConstantNode w v) = constant w v
node_term layout numbers (BinaryNode o w a b) = operation o w a b
node_term layout numbers (NotNode w a) = two (Atom (codes "bvnot")) (term a)
node_term layout numbers (SelectNode w c a b) = choose c a b
node_term layout numbers (ExtractNode hi lo a) = extract hi lo a
node_term layout numbers (ConcatNode high low a b) = apply (codes "concat") a b
node_term layout numbers (ExtendNode signed n m a) = extend signed (m - n) a
node_term layout numbers (LoadNode n e m a) = loading e m a (n - 1)
node_term layout numbers (StoreNode n e m a v) = storing e n m a v n
node_term layout numbers (JoinNode c a b) = choose c a b
node_term layout numbers (TakeNode n m a p) = taking (memory_in numbers p) m a n

-- the definition of a term by its place
abbrev pub definition : (at : ℕ) → (sort says : Sexp) → Sexp
definition at sort says = five (Atom (codes "define-fun")) (term at) Nil sort says

-- the definitions of nodes from a place on
abbrev pub node_definitions : Layout → List ℕ → ℕ → List TermNode → List Sexp
node_definitions layout numbers at [] = []
node_definitions layout numbers at (n ∷ ns) = definition at (sort_of (width_of n)) (node_term layout numbers n) ∷ node_definitions layout numbers (suc at) ns

-- a truth value of the byte of a part's memory at an address
abbrev pub has_byte : (part a v : ℕ) → Sexp
has_byte p a v = three (Atom (codes "=")) (three (Atom (codes "select")) (Atom (memory_name p)) (address a)) (byte v)

-- an assertion
abbrev pub assertion : Sexp → Sexp
assertion says = two (Atom (codes "assert")) says

-- the byte of the file at an address is asserted of a part's memory: the entry's has each that is known, and the head's those that are kept
abbrev pub is_of_part : (part : ℕ) → (kept : List AddressRun) → ℕ → Bool
is_of_part zero kept a = true
is_of_part (suc p) kept a = is_in kept a

-- the assertions of so many bytes of a run from a distance on
abbrev pub byte_assertions : (part : ℕ) → (kept : List AddressRun) → ByteRun → (distance count : ℕ) → List Sexp
byte_assertions p kept run i zero = []
byte_assertions p kept run i (suc n) =
    if is_of_part p kept (run.at + i) then assertion (has_byte p (run.at + i) (slice_index run.bytes i)) ∷ byte_assertions p kept run (suc i) n
    else byte_assertions p kept run (suc i) n

-- the assertions of the bytes of runs
abbrev pub run_assertions : (part : ℕ) → (kept : List AddressRun) → List ByteRun → List Sexp
run_assertions p kept [] = []
run_assertions p kept (r ∷ rest) = byte_assertions p kept r 0 r.count ++ run_assertions p kept rest

-- a declaration
abbrev pub declaration : List ℕ → (sort : Sexp) → Sexp
declaration name sort = three (Atom (codes "declare-const")) (Atom name) sort

-- declarations of words of a width
abbrev pub declarations : (sort : Sexp) → List (List ℕ) → List Sexp
declarations sort names = map (λ w. declaration w sort) names

-- the names of the choices of the places that draw, from a place on
abbrev pub drawn : (numbers : List ℕ) → (draws : List Bool) → List (List ℕ)
drawn numbers [] = []
drawn [] (d ∷ ds) = []
drawn (n ∷ numbers) (d ∷ ds) = if d then choice_name n ∷ drawn numbers ds else drawn numbers ds

-- what is declared of a part: registers, flags and the memory
abbrev pub part_declarations : Layout → (part : ℕ) → List Sexp
part_declarations layout p =
    declarations (word_sort (Atom (codes "32"))) (part_names p layout.registers)
    ++ (declarations (word_sort (Atom (codes "1"))) (part_names p layout.flags) ++ (declaration (memory_name p) array_sort ∷ []))

-- what is declared of the head, where there is one
abbrev pub head_declarations : Layout → (heads : Bool) → List Sexp
head_declarations layout false = []
head_declarations layout true = part_declarations layout 1

-- What a contract step is given: registers and flags by their numbers, and the bytes that may be written.
pub record Given : Type 0 where
  pub registers : List ℕ
  pub flags : List ℕ
  pub writes : List Writes

-- nothing is given
abbrev pub nothing : Given
nothing = record { registers = []; flags = []; writes = [] }

-- the symbols of what is given at the point of a number: of registers, of flags, and of the memory
abbrev pub register_symbols : Layout → ℕ → Given → List (List ℕ)
register_symbols layout n g = map (of_given n) (changed_registers g.registers layout.first layout.registers)

abbrev pub flag_symbols : Layout → ℕ → Given → List (List ℕ)
flag_symbols layout n g = map (of_given n) (changed_flags g.flags layout.flags)

abbrev pub memory_symbols : ℕ → Given → List (List ℕ)
memory_symbols n g = map (of_given n) (written_memory (writes_some g.writes))

-- what is declared of it
abbrev pub given_declarations : Layout → ℕ → Given → List Sexp
given_declarations layout n g =
    declarations (word_sort (Atom (codes "32"))) (register_symbols layout n g)
    ++ (declarations (word_sort (Atom (codes "1"))) (flag_symbols layout n g) ++ declarations array_sort (memory_symbols n g))

-- what is declared of what is given at all places
abbrev pub all_given : Layout → (numbers : List ℕ) → List Given → List Sexp
all_given layout numbers [] = []
all_given layout [] (g ∷ gs) = []
all_given layout (n ∷ numbers) (g ∷ gs) = given_declarations layout n g ++ all_given layout numbers gs

-- what is declared: what the entry has, what the head has, the choices, and what contract steps are given
abbrev pub all_declarations : Layout → (heads : Bool) → (choices : List (List ℕ)) → (given : List Sexp) → List Sexp
all_declarations layout heads choices given =
    part_declarations layout 0 ++ (head_declarations layout heads ++ (declarations (word_sort (Atom (codes "2"))) choices ++ given))

-- the assertions of the bytes of the file, of the head's memory too if it is asked
abbrev pub head_assertions : (asked : Bool) → (kept : List AddressRun) → List ByteRun → List Sexp
head_assertions false kept known = []
head_assertions true kept known = run_assertions 1 kept known

abbrev pub file_assertions : (asked : Bool) → (kept : List AddressRun) → List ByteRun → List Sexp
file_assertions asked kept known = run_assertions 0 kept known ++ head_assertions asked kept known

-- What a script is made of: the form of states; whether there is a head state beside the one at entry; the numbers of the points by their places, whether they
-- draw, and what their contract steps are given, unless nothing is; the known bytes, the runs of kept addresses, and whether the head state is asked to have the
-- kept bytes; the nodes, and the one that is meant.
pub record Source : Type 0 where
  pub layout : Layout
  pub heads : Bool
  pub numbers : List ℕ
  pub draws : List Bool
  pub given : List Given
  pub known : List ByteRun
  pub kept : List AddressRun
  pub asks_head : Bool
  pub nodes : List TermNode
  pub root : ℕ

-- the names of the choices that it declares
abbrev pub choices_of : Source → List (List ℕ)
choices_of s = drawn s.numbers s.draws

-- the commands after the definitions of nodes
abbrev pub last_commands : Source → List Sexp
last_commands s =
    definition (length s.nodes) (Atom (codes "Bool")) (is_one s.root)
    ∷ (file_assertions s.asks_head s.kept s.known ++ (assertion (term (length s.nodes)) ∷ []))

-- the commands between the logic and the check
abbrev pub middle_commands : Source → List Sexp
middle_commands s =
    all_declarations s.layout s.heads (choices_of s) (all_given s.layout s.numbers s.given)
    ++ (node_definitions s.layout s.numbers 0 s.nodes ++ last_commands s)

-- the commands of a script
abbrev pub all_commands : List Sexp → List Sexp
all_commands middle = two (Atom (codes "set-logic")) (Atom (codes "QF_ABV")) ∷ (middle ++ (one (Atom (codes "check-sat")) ∷ []))

-- whether those bytes of a run from a distance on that are of a part are in its memory, and what comes after them is true
abbrev pub held_bytes : (part : ℕ) → (kept : List AddressRun) → (mem : ℕ → ℕ) → ByteRun → (distance count : ℕ) → Bool → Bool
held_bytes p kept mem run i zero b = b
held_bytes p kept mem run i (suc n) b =
    if is_of_part p kept (run.at + i) then (mem (run.at + i) == slice_index run.bytes i) && held_bytes p kept mem run (suc i) n b
    else held_bytes p kept mem run (suc i) n b

-- whether the bytes of runs are
abbrev pub held_runs : (part : ℕ) → (kept : List AddressRun) → (mem : ℕ → ℕ) → List ByteRun → Bool → Bool
held_runs p kept mem [] b = b
held_runs p kept mem (r ∷ rest) b = held_bytes p kept mem r 0 r.count (held_runs p kept mem rest b)

-- whether the head has those of the file, if it is asked
abbrev pub held_head : (asked : Bool) → (kept : List AddressRun) → (mem : ℕ → ℕ) → List ByteRun → Bool → Bool
held_head false kept mem known b = b
held_head true kept mem known b = held_runs 1 kept mem known b
