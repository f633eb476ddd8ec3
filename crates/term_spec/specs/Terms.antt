-- Shared terms: a list of nodes, each over nodes before it, with the words and memories that they have under a reading. Each node names its own widths, so
-- that a width is read of one node alone. A value is a word with a memory; the part that it is not is 0, so nothing is stuck.
use Rattle.std.specs.Prelude.{ℕ, zero, suc, ◌≡◌, ◌≤◌, ◌<◌, ◌+◌, ◌-◌, ◌*◌, ◌^◌, Bool, true, false, nat_eq, if◌then◌else◌, List, [], ◌∷◌, ◌++◌, length, map, slice_index_or, sum_by}
use Rattle.std.specs.List.{list_any}
use Rattle.word_spec.specs.Words as words
use Rattle.word_spec.specs.Memory.{Memory, Endian, load, store}
use Rattle.word_spec.specs.RowFiles.{from_to}
use Rattle.machine_spec.specs.Bil.{BinaryOp}
use Rattle.machine_spec.specs.BilTyping.{result_width}
use Rattle.machine_spec.specs.BilMeaning.{Value, Word, Bytes, Stuck, on_words}
use Rattle.machine_spec.specs.BilCounts.{op_weight}

-- What terms are read under. A reading has parts by number: registers, flags and a memory each, and bytes of base reads by the numbers of their addresses;
-- part 0 is what a program has at entry. And a choice for each place of a program.
pub record TermReading : Type 0 where
  pub regs : (part : ℕ) → ℕ → ℕ
  pub flags : (part : ℕ) → ℕ → ℕ
  pub mem : (part : ℕ) → Memory
  pub choice : ℕ → ℕ
  pub base : (part : ℕ) → ℕ → ℕ

-- what a reading can hold: words of 32 bits, flags, bytes, and choices 0 to 3
pub record InRange (x : TermReading) : Type 0 where
  pub regs : (p n : ℕ) → x.regs p n < 2 ^ 32
  pub flags : (p f : ℕ) → x.flags p f < 2
  pub mem : (p a : ℕ) → x.mem p a < 256
  pub choice : (i : ℕ) → x.choice i < 4
  pub base : (p j : ℕ) → x.base p j < 256

-- the reading with other memories
abbrev pub with_memories : TermReading → (ℕ → Memory) → TermReading
with_memories x memories = record x { mem = memories }

-- the reading with one memory in the place of all
abbrev pub with_mem : TermReading → Memory → TermReading
with_mem x m = with_memories x (λ p. m)

-- a value: a word, or a memory
pub record TermValue : Type 0 where
  pub word : ℕ
  pub bytes : Memory

-- a word has no bytes
abbrev pub word_value : ℕ → TermValue
word_value n = record { word = n; bytes = λ a. 0 }

-- a memory has no word
abbrev pub bytes_value : Memory → TermValue
bytes_value m = record { word = 0; bytes = m }

-- A node: an input, a constant, or an operator on earlier nodes by their places. Registers, flags and base reads are named by their parts and numbers, memories
-- by their parts, choices by numbers. Widths are in bits: of a binary operator and of a negation those of the operands, of a selection that of both sides. Loads
-- and stores name their bytes. A take is a memory with the bytes that another part has at so many addresses from one on, which wrap.
pub data TermNode : Type 0 where
  RegisterNode : (part number : ℕ) → TermNode
  FlagNode : (part number : ℕ) → TermNode
  ChoiceNode : ℕ → TermNode
  BaseNode : (part read : ℕ) → TermNode
  MemoryNode : (part : ℕ) → TermNode
  ConstantNode : (width value : ℕ) → TermNode
  BinaryNode : BinaryOp → (width a b : ℕ) → TermNode
  NotNode : (width a : ℕ) → TermNode
  SelectNode : (width condition a b : ℕ) → TermNode
  ExtractNode : (hi lo a : ℕ) → TermNode
  ConcatNode : (high low a b : ℕ) → TermNode
  ExtendNode : (signed : Bool) → (from to a : ℕ) → TermNode
  LoadNode : (bytes : ℕ) → Endian → (memory address : ℕ) → TermNode
  StoreNode : (bytes : ℕ) → Endian → (memory address value : ℕ) → TermNode
  JoinNode : (condition a b : ℕ) → TermNode
  TakeNode : (bytes memory address from : ℕ) → TermNode

-- the word of a value of lifted code
abbrev pub word_part : Value → ℕ
word_part (Word n v) = v
word_part (Bytes m) = 0
word_part Stuck = 0

-- an operator on words of a width: that of lifted code
abbrev pub operate : BinaryOp → (width a b : ℕ) → ℕ
operate o n a b = word_part (on_words o n a b)

-- a selection: the first number where the condition is not 0
abbrev pub select : (condition a b : ℕ) → ℕ
select zero a b = b
select (suc c) a b = a

-- an extension, with the sign or with zeros
abbrev pub extend : (signed : Bool) → (from to a : ℕ) → ℕ
extend true n m a = words.sign_extend n m a
extend false n m a = a

-- the address is one of so many from one on
abbrev pub is_taken_at : (bytes address a : ℕ) → Bool
is_taken_at n address a = list_any (nat_eq a) (map (words.add 32 address) (from_to 0 n))

-- one memory, with the bytes of another at so many addresses
abbrev pub take_bytes : (bytes address : ℕ) → (memory from : Memory) → Memory
take_bytes n address m from = λ a. if is_taken_at n address a then from a else m a

-- the value at a place; there is none behind the list
abbrev pub value_at : List TermValue → ℕ → TermValue
value_at vs t = slice_index_or vs t (word_value 0)

-- the value of a node, over those of the nodes before it
abbrev pub node_value : TermReading → List TermValue → TermNode → TermValue
node_value x vs (RegisterNode p n) = word_value (x.regs p n)
node_value x vs (FlagNode p f) = word_value (x.flags p f)
node_value x vs (ChoiceNode i) = word_value (x.choice i)
node_value x vs (BaseNode p j) = word_value (x.base p j)
node_value x vs (MemoryNode p) = bytes_value (x.mem p)
node_value x vs (ConstantNode w v) = word_value v
node_value x vs (BinaryNode o w a b) = word_value (operate o w (value_at vs a).word (value_at vs b).word)
node_value x vs (NotNode w a) = word_value (words.complement w (value_at vs a).word)
node_value x vs (SelectNode w c a b) = word_value (select (value_at vs c).word (value_at vs a).word (value_at vs b).word)
node_value x vs (ExtractNode hi lo a) = word_value (words.bits hi lo (value_at vs a).word)
node_value x vs (ConcatNode high low a b) = word_value (words.concat low (value_at vs a).word (value_at vs b).word)
node_value x vs (ExtendNode signed n m a) = word_value (extend signed n m (value_at vs a).word)
node_value x vs (LoadNode n e m a) = word_value (load e n (value_at vs m).bytes (value_at vs a).word)
node_value x vs (StoreNode n e m a v) = bytes_value (store e n (value_at vs m).bytes (value_at vs a).word (value_at vs v).word)
node_value x vs (JoinNode c a b) = bytes_value (λ i. select (value_at vs c).word ((value_at vs a).bytes i) ((value_at vs b).bytes i))
node_value x vs (TakeNode n m a p) = bytes_value (take_bytes n (value_at vs a).word (value_at vs m).bytes (x.mem p))

-- the values of all nodes, behind those given
unfoldable pub values_from : TermReading → List TermValue → List TermNode → List TermValue
values_from x vs [] = vs
values_from x vs (n ∷ ns) = values_from x (vs ++ node_value x vs n ∷ []) ns

-- the value of the term at a place
abbrev pub term_value : TermReading → List TermNode → ℕ → TermValue
term_value x nodes t = value_at (values_from x [] nodes) t

-- its word
abbrev pub term_word : TermReading → List TermNode → ℕ → ℕ
term_word x nodes t = (term_value x nodes t).word

-- the width of a node in bits; a memory has 0, and no word has
abbrev pub width_of : TermNode → ℕ
width_of (RegisterNode p n) = 32
width_of (FlagNode p f) = 1
width_of (ChoiceNode i) = 2
width_of (BaseNode p j) = 8
width_of (MemoryNode p) = 0
width_of (ConstantNode w v) = w
width_of (BinaryNode o w a b) = result_width o w
width_of (NotNode w a) = w
width_of (SelectNode w c a b) = w
width_of (ExtractNode hi lo a) = hi + 1 - lo
width_of (ConcatNode high low a b) = high + low
width_of (ExtendNode signed n m a) = m
width_of (LoadNode n e m a) = 8 * n
width_of (StoreNode n e m a v) = 0
width_of (JoinNode c a b) = 0
width_of (TakeNode n m a p) = 0

-- the node at a place
abbrev pub node_at : List TermNode → ℕ → TermNode
node_at nodes t = slice_index_or nodes t (MemoryNode 0)

-- the place is that of a node of a width
abbrev pub HasWidth : List TermNode → (width place : ℕ) → Type 0
HasWidth nodes w t = (t < length nodes) × (width_of (node_at nodes t) ≡ w)

-- the place is that of a memory
abbrev pub HasMemory : List TermNode → (place : ℕ) → Type 0
HasMemory nodes t = HasWidth nodes 0 t

-- words have a width of 1 to 64
abbrev pub IsWidth : ℕ → Type 0
IsWidth w = (1 ≤ w) × (w ≤ 64)

-- a load or a store is of 1 to 8 bytes
abbrev pub IsBytes : ℕ → Type 0
IsBytes n = (1 ≤ n) × (n ≤ 8)

-- the node is over nodes before it that have the widths that it names
abbrev pub IsTypedOver : List TermNode → TermNode → Type 0
IsTypedOver ns (RegisterNode p n) = Unit {0}
IsTypedOver ns (FlagNode p f) = Unit {0}
IsTypedOver ns (ChoiceNode i) = Unit {0}
IsTypedOver ns (BaseNode p j) = Unit {0}
IsTypedOver ns (MemoryNode p) = Unit {0}
IsTypedOver ns (ConstantNode w v) = IsWidth w × (v < 2 ^ w)
IsTypedOver ns (BinaryNode o w a b) = IsWidth w × HasWidth ns w a × HasWidth ns w b
IsTypedOver ns (NotNode w a) = IsWidth w × HasWidth ns w a
IsTypedOver ns (SelectNode w c a b) = IsWidth w × HasWidth ns 1 c × HasWidth ns w a × HasWidth ns w b
IsTypedOver ns (ExtractNode hi lo a) = (lo ≤ hi) × (hi < width_of (node_at ns a)) × (a < length ns)
IsTypedOver ns (ConcatNode high low a b) = IsWidth high × IsWidth low × (high + low ≤ 64) × HasWidth ns high a × HasWidth ns low b
IsTypedOver ns (ExtendNode signed n m a) = IsWidth n × (n ≤ m) × (m ≤ 64) × HasWidth ns n a
IsTypedOver ns (LoadNode n e m a) = IsBytes n × HasMemory ns m × HasWidth ns 32 a
IsTypedOver ns (StoreNode n e m a v) = IsBytes n × HasMemory ns m × HasWidth ns 32 a × HasWidth ns (8 * n) v
IsTypedOver ns (JoinNode c a b) = HasWidth ns 1 c × HasMemory ns a × HasMemory ns b
IsTypedOver ns (TakeNode n m a p) = (1 ≤ n) × HasMemory ns m × HasWidth ns 32 a

-- each node is typed over those before it, behind those given
abbrev pub AreTypedFrom : List TermNode → List TermNode → Type 0
AreTypedFrom before [] = Unit {0}
AreTypedFrom before (n ∷ ns) = IsTypedOver before n × AreTypedFrom (before ++ n ∷ []) ns

-- each node is typed over those before it
abbrev pub AreTyped : List TermNode → Type 0
AreTyped nodes = AreTypedFrom [] nodes

-- a bound on the gates of a node's circuit; loads, stores and joins are counted apart, and what only picks or turns bits has none
abbrev pub own_gates : TermNode → ℕ
own_gates (BinaryNode o w a b) = op_weight o w
own_gates (SelectNode w c a b) = w
own_gates n = 0

-- the bytes that a node loads
abbrev pub own_loads : TermNode → ℕ
own_loads (LoadNode n e m a) = n
own_loads x = 0

-- the bytes that a node stores, or takes
abbrev pub own_stores : TermNode → ℕ
own_stores (StoreNode n e m a v) = n
own_stores (TakeNode n m a p) = n
own_stores x = 0

-- a node is a join of memories
abbrev pub own_joins : TermNode → ℕ
own_joins (JoinNode c a b) = 1
own_joins x = 0

-- the gates of all nodes
abbrev pub term_gates : List TermNode → ℕ
term_gates nodes = sum_by own_gates nodes

-- the bytes that they load
abbrev pub term_loads : List TermNode → ℕ
term_loads nodes = sum_by own_loads nodes

-- the bytes that they store
abbrev pub term_stores : List TermNode → ℕ
term_stores nodes = sum_by own_stores nodes

-- their joins
abbrev pub term_joins : List TermNode → ℕ
term_joins nodes = sum_by own_joins nodes
