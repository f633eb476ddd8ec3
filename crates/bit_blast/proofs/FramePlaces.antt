-- The inputs of cells of frames stand in the order of their list.
use Rattle.std.proofs.Common.{◌≡◌, inl, inr, refl, ap, sym, ◌∙◌, subst, arith, ℕ, zero, suc, ◌+◌, ◌-◌, ◌*◌, ◌<◌, ◌≤◌, Bool, true, false, List, [], ◌∷◌, ◌++◌, Option, Some, None, length}
use Rattle.std.specs.Prelude.{◌==◌, ◌||◌, Contains, map, nat_eq, nat_lt, slice_get, slice_index_or}
use Rattle.std.specs.List.{flat_map, list_any}
use Rattle.std.proofs.lemmas.Bool.{cases_lt}
use Rattle.std.proofs.lemmas.Bool.Decides.{nat_tests}
use Rattle.std.proofs.lemmas.List.{length-map}
use Rattle.std.proofs.lemmas.Option.{slice_get_within}
use Rattle.word_spec.specs.Words.{bit}
use Rattle.word_spec.specs.RowFiles.{from_to}
use Rattle.term_spec.specs.Terms.{TermReading, InRange, TermNode, RegisterNode, FlagNode, ChoiceNode, BaseNode, MemoryNode, ConstantNode, BinaryNode, NotNode, SelectNode, ExtractNode, ConcatNode, ExtendNode, LoadNode, StoreNode, JoinNode, TakeNode}
use Rattle.bilv_spec.proofs.PointSteps.{in_filter}
use Rattle.frame_spec.specs.FrameWalk.{Action, Executes, Arrives, StepsOver, UnrolledProgram, point_at}
use Rattle.frame_terms.specs.PassiveFrames.{DrawsAt, IsNamedBelow, NamesFlag, NamesRegister, gift_part}
use Rattle.frame_terms.specs.FrameCells as cells
use Rattle.frame_terms.specs.FrameCells.{AreFormed, BaseRead, Cells}
use Rattle.frame_terms.specs.FrameClauseForm.{PartInput, RegisterBit, FlagBit, ChoiceBit, ByteBit, HasBits, register_bits, flag_bits, head_bits, drawn_places, gift_bits, input_list}
use Rattle.walk_laws.proofs.InputOrder.{block_length, get_of, length_append, row_length}
use Rattle.walk_laws.proofs.InputPlaces.{range_get, range_length}
use Rattle.word_gates.specs.Numbers.{input_number}
use Rattle.bit_blast.specs.declared.input_places.InputPlaces.{InputPlaces}
use Rattle.bit_blast.specs.CellClauses.{AreReadsOf}
use Rattle.frame_terms.specs.FrameStarts.{gift_registers as given_registers}
use Rattle.bit_blast.specs.Laid.{AreFramePlaces, ArePartReads, given_flags, gift_first, gift_width}
use Rattle.bit_blast.specs.Places.{HasPart, HasRead, IsDrawn, IsGivenFlag, IsGivenRegister, IsNamed, IsRead, IsReadingAt, first_of, lists_of, reads_of}
use Rattle.bit_blast.proofs.GivenInputs.{listed}
use Rattle.bit_blast.proofs.InputNumbers.{in_range}
use Rattle.bit_blast.proofs.InputsAt.{reading_of}
use Rattle.bit_blast.proofs.PartPlaces.{behind_entry, behind_head}
use Rattle.bit_blast.proofs.Segments.{HasFrom, bits_from_first, first_from_bits, from_at, joined, list_from, list_to, row_from, row_to, rows_from, rows_long, rows_to, split, word_from, word_to}

some : {X : Type 0} {a b : X} → Some a ≡ Some b → a ≡ b
some h = (cc)

-- an element of a range
range_is : (a n k y : ℕ) → slice_get (from_to a n) k ≡ Some y → (k < n) × (y ≡ a + k)
range_is a zero k y e = absurd (cc)
range_is a (suc n) zero y e = (omega arith, sym (some e) ∙ (let z : a ≡ a + 0 = omega arith in z))
range_is a (suc n) (suc k) y e = let h = range_is (a + 1) n k y e in (let l = h.0 in omega arith, (let f = h.1 in omega arith))

-- what is listed is within
pub option_within : (xs : List (Option ℕ)) (i k : ℕ) → slice_index_or xs i None ≡ Some k → i < length xs
option_within [] i k e = absurd (cc)
option_within (x ∷ xs) zero k e = omega arith
option_within (x ∷ xs) (suc i) k e = let l = option_within xs i k e in omega arith

flag_to : (b : Bool) (n : ℕ) → n < 2 → b ≡ (n == 1) → n ≡ bit b + 2 * 0
flag_to true zero l e = absurd (let f : true ≡ false = e in cc)
flag_to false zero l e = omega arith
flag_to true (suc zero) l e = omega arith
flag_to false (suc zero) l e = absurd (let f : false ≡ true = e in cc)
flag_to b (suc (suc n)) l e = absurd (omega arith)

flag_from : (b : Bool) (n : ℕ) → n ≡ bit b + 2 * 0 → b ≡ (n == 1)
flag_from true n e = let f : n ≡ 1 = omega arith in sym (ap (λ z. z == 1) f)
flag_from false n e = let f : n ≡ 0 = omega arith in sym (ap (λ z. z == 1) f)

-- a number of a range, and of a list
in_from : (a n j : ℕ) → a ≤ j → j < a + n → Contains (from_to a n) j
in_from a zero j l m = absurd (omega arith)
in_from a (suc n) j l m = elim (cases_lt a j) [
  | inl b ↦ (let q = in_from (a + 1) n j (omega arith) (omega arith) in (suc q.0, (let o = q.1 in omega arith), q.2))
  | inr b ↦ (0, omega arith, (let e : a ≡ j = omega arith in e))
]

any_got : (xs : List ℕ) (q n : ℕ) → slice_get xs q ≡ Some n → list_any (nat_eq n) xs ≡ true
any_got [] q n e = absurd (cc)
any_got (x ∷ xs) zero n e =
    let s : x ≡ n = some e in let t : nat_eq n x ≡ true = grind (arith, nat_tests) in ap (λ b. b || list_any (nat_eq n) xs) t
any_got (x ∷ xs) (suc q) n e = by (nat_eq n x) (any_got xs q n e)
  where
    by : (b : Bool) → list_any (nat_eq n) xs ≡ true → (b || list_any (nat_eq n) xs) ≡ true
    by true h = refl
    by false h = h

any_in : (xs : List ℕ) (n : ℕ) → Contains xs n → list_any (nat_eq n) xs ≡ true
any_in xs n h = let q = get_of xs n h in any_got xs q.0 n q.1

module _ (u : UnrolledProgram) (heads : Bool) (c : Cells) (p : InputPlaces) (is : AreFramePlaces u heads c p) where
  abbrev registers : ℕ → List PartInput
  registers part = register_bits part u.registers

  abbrev flags : ℕ → List PartInput
  flags part = flag_bits part (from_to 0 u.flags)

  abbrev choices : List PartInput
  choices = flat_map (λ i. map (ChoiceBit i) (from_to 0 2)) (drawn_places u)

  abbrev read_bits : BaseRead → List PartInput
  read_bits b = map (ByteBit b.part b.address) (from_to 0 8)

  abbrev bytes : List PartInput
  bytes = flat_map read_bits c.reads

  abbrev gift_row : ℕ → List PartInput
  gift_row i = gift_bits u i (point_at u i).does

  abbrev gifts : List PartInput
  gifts = flat_map gift_row (from_to 0 (length u.points))

  abbrev inputs : List PartInput
  inputs = registers 0 ++ (flags 0 ++ (head_bits u heads ++ (choices ++ (gifts ++ bytes))))

  -- their lengths
  registers_are : length u.registers ≡ p.registers
  registers_are = ap length is.registers ∙ range_length p.first_register p.registers

  registers_long : (part : ℕ) → length (registers part) ≡ p.first_flag
  registers_long part =
      block_length (RegisterBit part) 32 u.registers
      ∙ (let a = registers_are in let b = is.order.flag in let e : 32 * length u.registers ≡ p.first_flag = omega arith in e)

  flags_long : (part : ℕ) → length (flags part) ≡ p.flags
  flags_long part = row_length (FlagBit part) 0 u.flags ∙ is.flags

  state_long : (part : ℕ) → length (registers part ++ flags part) ≡ p.first_head
  state_long part =
      length_append (registers part) (flags part)
      ∙ (let a = registers_long part in let b = flags_long part in let d = is.order.head in
      let e : length (registers part) + length (flags part) ≡ p.first_head = omega arith in e)

  head_long_by : (h : Bool) → p.heads ≡ h → p.first_head + length (head_bits u h) ≡ p.first_choice
  head_long_by true e = let a = state_long 1 in let b = behind_head p is.order e in omega arith
  head_long_by false e = let b = behind_entry p is.order e in omega arith

  head_long : p.first_head + length (head_bits u heads) ≡ p.first_choice
  head_long = head_long_by heads is.head_is

  choices_long : p.first_choice + length choices ≡ p.first_gift
  choices_long =
      let a = block_length ChoiceBit 2 (drawn_places u) in let b = is.order.gift in let d = is.choices in omega arith

  -- what is given
  row_is_by : (i : ℕ) (a : Action) →
      gift_bits u i a ≡ register_bits (gift_part i) (given_registers u a) ++ flag_bits (gift_part i) (given_flags u a)
  row_is_by i (Executes list) = refl
  row_is_by i Arrives = refl
  row_is_by i (StepsOver x) = refl

  row_is : (i : ℕ) → gift_row i ≡
      register_bits (gift_part i) (given_registers u (point_at u i).does) ++ flag_bits (gift_part i) (given_flags u (point_at u i).does)
  row_is i = row_is_by i (point_at u i).does

  flags_count : (part : ℕ) (fs : List ℕ) → length (flag_bits part fs) ≡ length fs
  flags_count part fs = length-map fs (FlagBit part)

  row_long : (i : ℕ) → length (gift_row i) ≡ gift_width u i
  row_long i =
      let rs = given_registers u (point_at u i).does in
      let fs = given_flags u (point_at u i).does in
      ap length (row_is i) ∙ length_append (register_bits (gift_part i) rs) (flag_bits (gift_part i) fs)
      ∙ (let a = block_length (RegisterBit (gift_part i)) 32 rs in let b = flags_count (gift_part i) fs in
      let e : length (register_bits (gift_part i) rs) + length (flag_bits (gift_part i) fs) ≡ 32 * length rs + length fs = omega arith in e)

  abbrev first : ℕ → ℕ
  first i = gift_first u p.first_gift i

  first_next : (i : ℕ) → first (i + 1) ≡ first i + gift_width u i
  first_next i = ap first (let e : i + 1 ≡ suc i = omega arith in e)

  rows_end : (n a : ℕ) → first a + length (flat_map gift_row (from_to a n)) ≡ first (a + n)
  rows_end zero a = (let e : first a + 0 ≡ first a = omega arith in e) ∙ ap first (let e : a ≡ a + 0 = omega arith in e)
  rows_end (suc n) a =
      let more = flat_map gift_row (from_to (a + 1) n) in
      let l = length_append (gift_row a) more in
      let m = row_long a in
      let k = first_next a in
      (let e : first a + length (gift_row a ++ more) ≡ first (a + 1) + length more = omega arith in e)
      ∙ rows_end n (a + 1) ∙ ap first (let e : a + 1 + n ≡ a + suc n = omega arith in e)

  gifts_long : p.first_gift + length gifts ≡ p.first_byte
  gifts_long = rows_end (length u.points) 0 ∙ ap first (let e : 0 + length u.points ≡ length u.points = omega arith in e) ∙ sym is.gifts.behind

  first_few : (i : ℕ) (k : ℕ) → first i ≤ first (i + k)
  first_few i zero = let e = ap first (let e : i + 0 ≡ i = omega arith in e) in omega arith
  first_few i (suc k) =
      let e = ap first (let e : i + suc k ≡ i + k + 1 = omega arith in e) in
      let f = first_next (i + k) in let g = first_few i k in omega arith

  -- what is given at a place ends before the bytes
  row_ends : (i : ℕ) → i < length u.points → first i + gift_width u i ≤ p.first_byte
  row_ends i l =
      let f = first_next i in
      let g = first_few (i + 1) (length u.points - (i + 1)) in
      let e = ap first (let e : i + 1 + (length u.points - (i + 1)) ≡ length u.points = omega (arith, l) in e) in
      let b = is.gifts.behind in
      omega arith

  bytes_long : length bytes ≡ 8 * p.reads
  bytes_long =
      rows_long (λ i. false) (reading_of p (λ i. false)) read_bits 8 (λ b. row_length (ByteBit b.part b.address) 0 8) c.reads
      ∙ ap (λ z. 8 * z) (sym is.reads)

  pub inputs_long : length (input_list u heads c) ≡ p.inputs
  inputs_long =
      let a = length_append (registers 0) (flags 0 ++ (head_bits u heads ++ (choices ++ (gifts ++ bytes)))) in
      let b = length_append (flags 0) (head_bits u heads ++ (choices ++ (gifts ++ bytes))) in
      let d = length_append (head_bits u heads) (choices ++ (gifts ++ bytes)) in
      let e = length_append choices (gifts ++ bytes) in
      let n = length_append gifts bytes in
      let f = registers_long 0 in let g = flags_long 0 in let h = head_long in let i = choices_long in let o = gifts_long in let j = bytes_long in
      let k = is.order.head in let l = is.order.all in
      let m : length inputs ≡ p.inputs = omega arith in m

  -- a base read has its number
  same_number : (formed : AreFormed u heads c) (q k : ℕ) (b : BaseRead) → slice_get c.reads q ≡ Some b → slice_get c.reads k ≡ Some b → q ≡ k
  same_number formed q k b e f = elim (cases_lt q k) [
    | inl l ↦ absurd (formed.once q k b l e f)
    | inr l ↦ elim (cases_lt k q) [
      | inl m ↦ absurd (formed.once k q b m f e)
      | inr m ↦ omega arith
    ]
  ]

  number_by : (formed : AreFormed u heads c) (part j k : ℕ) (places : List (Option ℕ)) → ArePartReads part (length c.addresses) c.reads places →
      j < length c.addresses → slice_get c.reads k ≡ Some (record { part = part; address = j }) → slice_index_or places j None ≡ Some k
  number_by formed part j k places are l e =
      let q = are.each j k l e in
      q.1 ∙ ap Some (same_number formed q.0 k (record { part = part; address = j }) (are.right j q.0 q.1) e)

  read_placed_by : (formed : AreFormed u heads c) (part j k : ℕ) → j < length c.addresses →
      slice_get c.reads k ≡ Some (record { part = part; address = j }) → IsRead p part j k
  read_placed_by formed part j k l e = (
    number_by formed part j k (reads_of p part) (is.reads_at part) l e,
    (let m = slice_get_within c.reads k (record { part = part; address = j }) e in let n = is.reads in omega arith),
  )

  read_placed : (formed : AreFormed u heads c) (b : BaseRead) (k : ℕ) → slice_get c.reads k ≡ Some b → IsRead p b.part b.address k
  read_placed formed b k e =
      let h = formed.reads b (of_get c.reads k b e) in read_placed_by formed b.part b.address k h.1 e
    where
      of_get : (xs : List BaseRead) (i : ℕ) (x : BaseRead) → slice_get xs i ≡ Some x → Contains xs x
      of_get [] i x h = absurd (cc)
      of_get (y ∷ xs) zero x h = (0, omega arith, some h)
      of_get (y ∷ xs) (suc i) x h = let q = of_get xs i x h in (suc q.0, (let l = q.1 in omega arith), q.2)

  pub read_there : (formed : AreFormed u heads c) (part j : ℕ) → cells.IsRead c part j → HasRead p part j
  read_there formed part j h =
      let q = get_of c.reads (record { part = part; address = j }) h in (q.0, read_placed formed (record { part = part; address = j }) q.0 q.1)

  pub reads_are : AreFormed u heads c → AreReadsOf p c
  reads_are formed = record {
    agrees = λ a k. (let f = formed.agrees a k in (f.0, read_there formed a.part a.read f.1, read_there formed a.part a.other f.2));
    asked = λ a k. (let f = formed.asked a k in (f.0, read_there formed a.part a.read f.1));
  }

  -- a place that draws has its number
  drawn_number : (i k : ℕ) → slice_get (drawn_places u) k ≡ Some i → IsDrawn p i k
  drawn_number i k e =
      let d = is.drawn_each i k e in
      (option_within p.drawn.items i k d, d, (let l = slice_get_within (drawn_places u) k i e in let m = is.choices in omega arith))

  pub drawn_there : (i : ℕ) → DrawsAt u i → (k : ℕ) × IsDrawn p i k
  drawn_there i h =
      let r : Contains (from_to 0 (length u.points)) i = in_from 0 (length u.points) i (omega arith) (let l = h.0 in omega arith) in
      let q = get_of (drawn_places u) i (in_filter (λ j. (point_at u j).draws) (from_to 0 (length u.points)) i r h.1) in
      (q.0, drawn_number i q.0 q.1)

  -- the nodes of cells name inputs that have places
  pub number_of : (n : ℕ) → list_any (nat_eq n) u.registers ≡ true → (p.first_register ≤ n) × (n < p.first_register + p.registers)
  number_of n h = in_range p.first_register p.registers n (subst (λ (z : List ℕ). list_any (nat_eq n) z ≡ true) is.registers h)

  pub flag_of : (f : ℕ) → nat_lt f u.flags ≡ true → f < p.flags
  flag_of f h = let l : f < u.flags = grind (arith, nat_tests) in omega (arith, is.flags)

  -- a register and a flag that are given have their inputs
  register_bound : (i q n : ℕ) → i < length u.points → slice_get (given_registers u (point_at u i).does) q ≡ Some n →
      first i + 32 * q + 32 ≤ p.first_byte
  register_bound i q n l e =
      let m = slice_get_within (given_registers u (point_at u i).does) q n e in let k = row_ends i l in omega arith

  flag_bound : (i q f : ℕ) → i < length u.points → slice_get (given_flags u (point_at u i).does) q ≡ Some f →
      first i + 32 * length (given_registers u (point_at u i).does) + 1 * q + 1 ≤ p.first_byte
  flag_bound i q f l e =
      let m = slice_get_within (given_flags u (point_at u i).does) q f e in let k = row_ends i l in omega arith

  pub register_there : (i n : ℕ) → NamesRegister u heads (suc (suc i)) n → (k : ℕ) × IsGivenRegister p i n k
  register_there i n (has, (x, at, inside)) =
      let r = number_of n has in
      let listed_there : Contains u.registers n = subst (λ (l : List ℕ). Contains l n) (sym is.registers) (in_from p.first_register p.registers n r.0 r.1) in
      let given : Contains (given_registers u (point_at u i).does) n =
      subst (λ (a : Action). Contains (given_registers u a) n) (sym at.does)
      (in_filter (λ m. list_any (nat_eq m) x.registers) u.registers n listed_there (any_in x.registers n inside)) in
      let q = get_of (given_registers u (point_at u i).does) n given in
      (first i + 32 * q.0, ((is.gifts.registers i at.place).each n q.0 q.1, register_bound i q.0 n at.place q.1))

  pub flag_there : (i f : ℕ) → NamesFlag u heads (suc (suc i)) f → (k : ℕ) × IsGivenFlag p i f k
  flag_there i f (has, (x, at, inside)) =
      let l : f < u.flags = grind (arith, nat_tests) in
      let given : Contains (given_flags u (point_at u i).does) f =
      subst (λ (a : Action). Contains (given_flags u a) f) (sym at.does)
      (in_filter (λ m. list_any (nat_eq m) x.flags) (from_to 0 u.flags) f (in_from 0 u.flags f (omega arith) (omega arith)) (any_in x.flags f inside)) in
      let q = get_of (given_flags u (point_at u i).does) f given in (
        first i + 32 * length (given_registers u (point_at u i).does) + 1 * q.0,
        ((is.gifts.flags i at.place).each f q.0 q.1, flag_bound i q.0 f at.place q.1),
      )

  named_by : (formed : AreFormed u heads c) (n : TermNode) → Contains c.nodes n → IsNamedBelow u heads (length c.addresses) n → IsNamed p n
  named_by formed (RegisterNode zero n) k h = number_of n h
  named_by formed (RegisterNode (suc zero) n) k h = (let q = number_of n h.1 in (is.head_is ∙ h.0, q.0, q.1))
  named_by formed (RegisterNode (suc (suc i)) n) k h = register_there i n h
  named_by formed (FlagNode zero f) k h = flag_of f h
  named_by formed (FlagNode (suc zero) f) k h = (is.head_is ∙ h.0, flag_of f h.1)
  named_by formed (FlagNode (suc (suc i)) f) k h = flag_there i f h
  named_by formed (ChoiceNode i) k h = drawn_there i h
  named_by formed (BaseNode part j) k h = read_there formed part j (formed.bases part j k)
  named_by formed (MemoryNode part) k h = tt
  named_by formed (ConstantNode w v) k h = tt
  named_by formed (BinaryNode o w a b) k h = tt
  named_by formed (NotNode w a) k h = tt
  named_by formed (SelectNode w d a b) k h = tt
  named_by formed (ExtractNode hi lo a) k h = tt
  named_by formed (ConcatNode high low a b) k h = tt
  named_by formed (ExtendNode s n m a) k h = tt
  named_by formed (LoadNode n e m a) k h = tt
  named_by formed (StoreNode n e m a v) k h = tt
  named_by formed (JoinNode d a b) k h = tt
  named_by formed (TakeNode n m a part) k h = tt

  pub named : AreFormed u heads c → (n : TermNode) → Contains c.nodes n → IsNamed p n
  named formed n k = named_by formed n k (formed.named n k)

  -- the segments of the inputs
  module _ (v : ℕ → Bool) (x : TermReading) (range : InRange x) where
    record Segments : Type 0 where
      regs : HasFrom v x 0 (registers 0)
      flags : HasFrom v x p.first_flag (flags 0)
      head : HasFrom v x p.first_head (head_bits u heads)
      choices : HasFrom v x p.first_choice choices
      gifts : HasFrom v x p.first_gift gifts
      bytes : HasFrom v x p.first_byte bytes

    segments : HasBits (input_list u heads c) v x → Segments
    segments h =
        let behind_choices = gifts ++ bytes in
        let behind_head = choices ++ behind_choices in
        let behind_flags = head_bits u heads ++ behind_head in
        let behind_registers = flags 0 ++ behind_flags in
        let a = split v x (registers 0) behind_registers 0 (bits_from_first v x inputs h) in
        let b = split v x (flags 0) behind_flags p.first_flag
        (from_at v x (0 + length (registers 0)) p.first_flag behind_registers (let l = registers_long 0 in omega arith) a.1) in
        let d = split v x (head_bits u heads) behind_head p.first_head
        (from_at v x (p.first_flag + length (flags 0)) p.first_head behind_flags
        (let l = flags_long 0 in let m = is.order.head in omega arith) b.1) in
        let e = split v x choices behind_choices p.first_choice
        (from_at v x (p.first_head + length (head_bits u heads)) p.first_choice behind_head head_long d.1) in
        let g = split v x gifts bytes p.first_gift
        (from_at v x (p.first_choice + length choices) p.first_gift behind_choices choices_long e.1) in
        record {
          regs = a.0;
          flags = b.0;
          head = d.0;
          choices = e.0;
          gifts = g.0;
          bytes = from_at v x (p.first_gift + length gifts) p.first_byte bytes gifts_long g.1;
        }

    from_segments : Segments → HasBits (input_list u heads c) v x
    from_segments s =
        let behind_choices = gifts ++ bytes in
        let behind_head = choices ++ behind_choices in
        let behind_flags = head_bits u heads ++ behind_head in
        let behind_registers = flags 0 ++ behind_flags in
        first_from_bits v x inputs
        (joined v x (registers 0) behind_registers 0 s.regs
        (from_at v x p.first_flag (0 + length (registers 0)) behind_registers (let l = registers_long 0 in omega arith)
        (joined v x (flags 0) behind_flags p.first_flag s.flags
        (from_at v x p.first_head (p.first_flag + length (flags 0)) behind_flags
        (let l = flags_long 0 in let m = is.order.head in omega arith)
        (joined v x (head_bits u heads) behind_head p.first_head s.head
        (from_at v x p.first_choice (p.first_head + length (head_bits u heads)) behind_head (sym head_long)
        (joined v x choices behind_choices p.first_choice s.choices
        (from_at v x p.first_gift (p.first_choice + length choices) behind_choices (sym choices_long)
        (joined v x gifts bytes p.first_gift s.gifts
        (from_at v x p.first_byte (p.first_gift + length gifts) bytes (sym gifts_long) s.bytes))))))))))

    -- registers
    regs_to : (part f : ℕ) → HasFrom v x f (registers part) → (n : ℕ) → p.first_register ≤ n → n < p.first_register + p.registers →
        x.regs part n ≡ input_number v (f + 32 * (n - p.first_register)) 32
    regs_to part f h n l m =
        let get : slice_get u.registers (n - p.first_register) ≡ Some n = ap (λ z. slice_get z (n - p.first_register)) is.registers
        ∙ range_get p.first_register p.registers (n - p.first_register) (omega arith)
        ∙ ap Some (let e : p.first_register + (n - p.first_register) ≡ n = omega arith in e) in
        word_to v x (RegisterBit part n) (x.regs part n) 32 (λ b. refl) (f + 32 * (n - p.first_register)) (range.regs part n)
        (rows_to v x (λ y. map (RegisterBit part y) (from_to 0 32)) 32 (λ y. row_length (RegisterBit part y) 0 32) u.registers f h (n - p.first_register) n get)

    regs_from : (part f : ℕ) →
        ((n : ℕ) → p.first_register ≤ n → n < p.first_register + p.registers → x.regs part n ≡ input_number v (f + 32 * (n - p.first_register)) 32) →
        HasFrom v x f (registers part)
    regs_from part f h =
        rows_from v x (λ y. map (RegisterBit part y) (from_to 0 32)) 32 (λ y. row_length (RegisterBit part y) 0 32) u.registers f
        (λ k y e.
        (let r = range_is p.first_register p.registers k y (ap (λ z. slice_get z k) (sym is.registers) ∙ e) in
        let l = r.0 in
        let m = r.1 in
        word_from v x (RegisterBit part y) (x.regs part y) 32 (λ b. refl) (f + 32 * k)
        (h y (omega arith) (omega arith) ∙ ap (λ z. input_number v (f + 32 * z) 32) (let g : y - p.first_register ≡ k = omega arith in g))))

    -- flags
    flags_to : (part f : ℕ) → HasFrom v x f (flags part) → (k : ℕ) → k < p.flags → x.flags part k ≡ input_number v (f + k) 1
    flags_to part f h k l =
        flag_to (v (suc (f + k))) (x.flags part k) (range.flags part k)
        (row_to v x (FlagBit part) 0 u.flags f h k (let e = is.flags in omega arith)
        ∙ ap (λ z. x.flags part z == 1) (let e : 0 + k ≡ k = omega arith in e))

    flags_from : (part f : ℕ) → ((k : ℕ) → k < p.flags → x.flags part k ≡ input_number v (f + k) 1) → HasFrom v x f (flags part)
    flags_from part f h =
        row_from v x (FlagBit part) 0 u.flags f
        (λ k l.
        flag_from (v (suc (f + k))) (x.flags part k) (h k (let e = is.flags in omega arith))
        ∙ ap (λ z. x.flags part z == 1) (let e : k ≡ 0 + k = omega arith in e))

    -- the head's
    head_to : p.heads ≡ true → HasFrom v x p.first_head (head_bits u heads) →
        HasFrom v x p.first_head (registers 1) × HasFrom v x (p.first_head + p.first_flag) (flags 1)
    head_to e h =
        let s = split v x (registers 1) (flags 1) p.first_head (subst (λ (z : Bool). HasFrom v x p.first_head (head_bits u z)) (sym is.head_is ∙ e) h) in
        (s.0, from_at v x (p.first_head + length (registers 1)) (p.first_head + p.first_flag) (flags 1) (ap (λ z. p.first_head + z) (registers_long 1)) s.1)

    head_from_by : (z : Bool) →
        (z ≡ true → HasFrom v x p.first_head (registers 1) × HasFrom v x (p.first_head + p.first_flag) (flags 1)) →
        HasFrom v x p.first_head (head_bits u z)
    head_from_by true h =
        let s = h refl in
        joined v x (registers 1) (flags 1) p.first_head s.0
        (from_at v x (p.first_head + p.first_flag) (p.first_head + length (registers 1)) (flags 1) (ap (λ z. p.first_head + z) (sym (registers_long 1))) s.1)
    head_from_by false h = tt

    -- what is given, place by place
    row_behind : (a : ℕ) → first a + length (gift_row a) ≡ first (a + 1)
    row_behind a = ap (λ z. first a + z) (row_long a) ∙ sym (first_next a)

    gifts_to : (n a : ℕ) → HasFrom v x (first a) (flat_map gift_row (from_to a n)) → (i : ℕ) → a ≤ i → i < a + n → HasFrom v x (first i) (gift_row i)
    gifts_to zero a h i l m = absurd (omega arith)
    gifts_to (suc n) a h i l m =
        let s = split v x (gift_row a) (flat_map gift_row (from_to (a + 1) n)) (first a) h in
        elim (cases_lt a i) [
          | inl less ↦ gifts_to n (a + 1)
              (from_at v x (first a + length (gift_row a)) (first (a + 1)) (flat_map gift_row (from_to (a + 1) n)) (row_behind a) s.1) i
              (omega arith) (omega arith)
          | inr more ↦ (let e : a ≡ i = omega arith in subst (λ (z : ℕ). HasFrom v x (first z) (gift_row z)) e s.0)
        ]

    gifts_from : (n a : ℕ) → ((i : ℕ) → a ≤ i → i < a + n → HasFrom v x (first i) (gift_row i)) → HasFrom v x (first a) (flat_map gift_row (from_to a n))
    gifts_from zero a h = tt
    gifts_from (suc n) a h =
        joined v x (gift_row a) (flat_map gift_row (from_to (a + 1) n)) (first a) (h a (omega arith) (omega arith))
        (from_at v x (first (a + 1)) (first a + length (gift_row a)) (flat_map gift_row (from_to (a + 1) n)) (sym (row_behind a))
        (gifts_from n (a + 1) (λ i l m. h i (omega arith) (omega arith))))

    module _ (i : ℕ) where
      abbrev part : ℕ
      part = gift_part i

      abbrev rs : List ℕ
      rs = given_registers u (point_at u i).does

      abbrev fs : List ℕ
      fs = given_flags u (point_at u i).does

      registers_end : first i + length (register_bits part rs) ≡ first i + 32 * length rs
      registers_end = ap (λ z. first i + z) (block_length (RegisterBit part) 32 rs)

      parts_of : HasFrom v x (first i) (gift_row i) →
          HasFrom v x (first i) (register_bits part rs) × HasFrom v x (first i + 32 * length rs) (flag_bits part fs)
      parts_of h =
          let s = split v x (register_bits part rs) (flag_bits part fs) (first i)
          (subst (λ (l : List PartInput). HasFrom v x (first i) l) (row_is i) h) in
          (s.0, from_at v x (first i + length (register_bits part rs)) (first i + 32 * length rs) (flag_bits part fs) registers_end s.1)

      of_parts : HasFrom v x (first i) (register_bits part rs) → HasFrom v x (first i + 32 * length rs) (flag_bits part fs) →
          HasFrom v x (first i) (gift_row i)
      of_parts g h =
          subst (λ (l : List PartInput). HasFrom v x (first i) l) (sym (row_is i))
          (joined v x (register_bits part rs) (flag_bits part fs) (first i) g
          (from_at v x (first i + 32 * length rs) (first i + length (register_bits part rs)) (flag_bits part fs) (sym registers_end) h))

      given_register_to : HasFrom v x (first i) (gift_row i) → (q n : ℕ) → slice_get rs q ≡ Some n → x.regs part n ≡ input_number v (first i + 32 * q) 32
      given_register_to h q n e =
          word_to v x (RegisterBit part n) (x.regs part n) 32 (λ b. refl) (first i + 32 * q) (range.regs part n)
          (rows_to v x (λ y. map (RegisterBit part y) (from_to 0 32)) 32 (λ y. row_length (RegisterBit part y) 0 32) rs (first i) (parts_of h).0 q n e)

      given_flag_to : HasFrom v x (first i) (gift_row i) → (q f : ℕ) → slice_get fs q ≡ Some f →
          x.flags part f ≡ input_number v (first i + 32 * length rs + q) 1
      given_flag_to h q f e =
          flag_to (v (suc (first i + 32 * length rs + q))) (x.flags part f) (range.flags part f)
          (list_to v x (FlagBit part) fs (first i + 32 * length rs) (parts_of h).1 q f e)

      given_from : ((q n : ℕ) → slice_get rs q ≡ Some n → x.regs part n ≡ input_number v (first i + 32 * q) 32) →
          ((q f : ℕ) → slice_get fs q ≡ Some f → x.flags part f ≡ input_number v (first i + 32 * length rs + q) 1) → HasFrom v x (first i) (gift_row i)
      given_from g h =
          of_parts
          (rows_from v x (λ y. map (RegisterBit part y) (from_to 0 32)) 32 (λ y. row_length (RegisterBit part y) 0 32) rs (first i)
          (λ q n e. word_from v x (RegisterBit part n) (x.regs part n) 32 (λ b. refl) (first i + 32 * q) (g q n e)))
          (list_from v x (FlagBit part) fs (first i + 32 * length rs)
          (λ q f e. flag_from (v (suc (first i + 32 * length rs + q))) (x.flags part f) (h q f e)))

    -- from the bits to the numbers
    at_segments : Segments → IsReadingAt p v x
    at_segments s = record {
      registers = regs_at;
      flags = flags_at;
      gift_registers = λ i n k h.
          (let l : i < length u.points = omega (arith, is.gifts.register_count, listed (lists_of p.gift_registers.items) i n k h.0) in
          let q = (is.gifts.registers i l).right n k h.0 in
          given_register_to i (gifts_to (length u.points) 0 s.gifts i (omega arith) (omega arith)) q.0 n q.1
          ∙ ap (λ z. input_number v z 32) (sym q.2));
      gift_flags = λ i f k h.
          (let l : i < length u.points = omega (arith, is.gifts.flag_count, listed (lists_of p.gift_flags.items) i f k h.0) in
          let q = (is.gifts.flags i l).right f k h.0 in
          given_flag_to i (gifts_to (length u.points) 0 s.gifts i (omega arith) (omega arith)) q.0 f q.1
          ∙ ap (λ z. input_number v z 1)
          (let e = q.2 in
          let g : first i + 32 * length (given_registers u (point_at u i).does) + q.0 ≡ k = omega arith in g));
      choices = λ i k d.
          word_to v x (ChoiceBit i) (x.choice i) 2 (λ b. refl) (p.first_choice + 2 * k) (range.choice i)
          (rows_to v x (λ y. map (ChoiceBit y) (from_to 0 2)) 2 (λ y. row_length (ChoiceBit y) 0 2) (drawn_places u) p.first_choice s.choices k i
          (is.drawn i k d.1));
      bytes = λ part j k h. byte_at part j k ((is.reads_at part).right j k h.0);
    }
      where
        regs_at : (part n : ℕ) → HasPart p part → p.first_register ≤ n → n < p.first_register + p.registers →
            x.regs part n ≡ input_number v (first_of p part + 32 * (n - p.first_register)) 32
        regs_at zero n h l m = regs_to 0 0 s.regs n l m
        regs_at (suc zero) n h l m = regs_to 1 p.first_head (head_to h s.head).0 n l m
        regs_at (suc (suc i)) n h l m = absurd h

        flags_at : (part f : ℕ) → HasPart p part → f < p.flags → x.flags part f ≡ input_number v (first_of p part + p.first_flag + f) 1
        flags_at zero f h l = flags_to 0 p.first_flag s.flags f l ∙ ap (λ z. input_number v (z + f) 1) (let e : p.first_flag ≡ 0 + p.first_flag = omega arith in e)
        flags_at (suc zero) f h l = flags_to 1 (p.first_head + p.first_flag) (head_to h s.head).1 f l
        flags_at (suc (suc i)) f h l = absurd h

        byte_at : (part j k : ℕ) → slice_get c.reads k ≡ Some (record { part = part; address = j }) → x.base part j ≡ input_number v (p.first_byte + 8 * k) 8
        byte_at part j k e =
            word_to v x (ByteBit part j) (x.base part j) 8 (λ b. refl) (p.first_byte + 8 * k) (range.base part j)
            (rows_to v x read_bits 8 (λ b. row_length (ByteBit b.part b.address) 0 8) c.reads p.first_byte s.bytes k (record { part = part; address = j }) e)

    -- and back
    segments_at : AreFormed u heads c → IsReadingAt p v x → Segments
    segments_at formed at = record {
      regs = regs_from 0 0 (λ n l m. at.registers 0 n tt l m);
      flags = flags_from 0 p.first_flag
          (λ k l. at.flags 0 k tt l ∙ ap (λ z. input_number v (z + k) 1) (let e : 0 + p.first_flag ≡ p.first_flag = omega arith in e));
      head = head_from_by heads (λ e.
          (let h = is.head_is ∙ e in (regs_from 1 p.first_head (λ n l m. at.registers 1 n h l m), flags_from 1 (p.first_head + p.first_flag) (λ k l. at.flags 1 k h l))));
      choices = rows_from v x (λ y. map (ChoiceBit y) (from_to 0 2)) 2 (λ y. row_length (ChoiceBit y) 0 2) (drawn_places u) p.first_choice
          (λ k i e. word_from v x (ChoiceBit i) (x.choice i) 2 (λ b. refl) (p.first_choice + 2 * k) (at.choices i k (drawn_number i k e)));
      gifts = gifts_from (length u.points) 0
          (λ i l m.
          (let near : i < length u.points = omega arith in
          given_from i
          (λ q n e. at.gift_registers i n (first i + 32 * q) ((is.gifts.registers i near).each n q e, register_bound i q n near e))
          (λ q f e.
          at.gift_flags i f (first i + 32 * length (given_registers u (point_at u i).does) + 1 * q)
          ((is.gifts.flags i near).each f q e, flag_bound i q f near e)
          ∙ ap (λ z. input_number v z 1)
          (let g : first i + 32 * length (given_registers u (point_at u i).does) + 1 * q ≡ first i + 32 * length (given_registers u (point_at u i).does) + q =
          omega arith in g))));
      bytes = rows_from v x read_bits 8 (λ b. row_length (ByteBit b.part b.address) 0 8) c.reads p.first_byte
          (λ k b e.
          word_from v x (ByteBit b.part b.address) (x.base b.part b.address) 8 (λ i. refl) (p.first_byte + 8 * k)
          (at.bytes b.part b.address k (read_placed formed b k e)));
    }

    pub at_of_bits : HasBits (input_list u heads c) v x → IsReadingAt p v x
    at_of_bits h = at_segments (segments h)

    pub bits_of_at : AreFormed u heads c → IsReadingAt p v x → HasBits (input_list u heads c) v x
    bits_of_at formed at = from_segments (segments_at formed at)
