-- The inputs of the cells of a frame: which bits are in their list, each once, and the bytes of base reads in the order of their addresses behind all others.
use Rattle.std.proofs.Common.{◌≡◌, inl, inr, refl, ap, sym, ◌∙◌, subst, arith, ℕ, zero, suc, ◌+◌, ◌*◌, ◌<◌, ◌≤◌, [], ◌∷◌, ◌++◌, List, Some, Bool, true, false, length, get_or}
use Rattle.std.specs.Prelude.{Contains, nat_eq, nat_lt, slice_get, slice_index, map, filter}
use Rattle.std.specs.List.{list_any, flat_map}
use Rattle.std.proofs.lemmas.Bool.Decides.{nat_tests}
use Rattle.std.proofs.lemmas.Bool.{lt-ltb}
use Rattle.std.proofs.lemmas.List.{append_assoc}
use Rattle.std.proofs.lemmas.Option.{slice_get-get_or}
use Rattle.word_spec.specs.RowFiles.{from_to}
use Rattle.bilv_spec.proofs.Pigeons.{Once, at_in, in_at, truth}
use Rattle.bilv_spec.proofs.PointSteps.{here, there, in_left, in_right, in_filter, in_map, in_any}
use Rattle.bilv_spec.proofs.PointsInGraph.{none_in, split_in, of_filter, of_map}
use Rattle.walk_laws.proofs.InputOrder.{get_left, get_right, get_split, row_get, row_length, row_is}
use Rattle.walk_laws.proofs.InputPlaces.{any_number}
use Rattle.frame_spec.specs.FrameWalk.{Action, Executes, Arrives, StepsOver, Gift, UnrolledProgram, point_at}
use Rattle.frame_spec.proofs.Within.{in_range}
use Rattle.frame_terms.specs.PassiveFrames.{DrawsAt, IsGiftAt, NamesRegister, NamesFlag}
use Rattle.frame_terms.specs.FrameCells.{BaseRead, Cells, IsRead, AreFormed}
use Rattle.frame_terms.specs.FrameClauseForm.{PartInput, RegisterBit, FlagBit, ChoiceBit, ByteBit, register_bits, flag_bits, head_bits, drawn_places, gift_bits, input_list}
use Rattle.frame_laws.proofs.OnceLists.{once_more, once_tail, not_in_tail, filter_once}

-- lists of lists
module _ {X Y : Type 0} (h : X → List Y) where
  pub in_flat : (xs : List X) (x : X) (y : Y) → Contains xs x → Contains (h x) y → Contains (flat_map h xs) y
  in_flat [] x y c d = none_in x c
  in_flat (z ∷ xs) x y (zero, l, e) d = in_left (h z) (flat_map h xs) y (subst (λ w. Contains (h w) y) (sym e) d)
  in_flat (z ∷ xs) x y (suc i, l, e) d = in_right (h z) (flat_map h xs) y (in_flat xs x y (i, omega arith, e) d)

  pub of_flat : (xs : List X) (y : Y) → Contains (flat_map h xs) y → (x : X) × Contains xs x × Contains (h x) y
  of_flat [] y c = none_in y c
  of_flat (z ∷ xs) y c = elim (split_in (h z) (flat_map h xs) y c) [
    | inl d ↦ (z, here z xs, d)
    | inr d ↦ (let q = of_flat xs y d in (q.0, there z xs q.0 q.1, q.2))
  ]

-- lists that have each element once
module _ {X : Type 0} where
  once_none : Once {X = X} []
  once_none = λ i j l h e. absurd (omega arith)

  once_append : (xs ys : List X) → Once xs → Once ys → ((x : X) → Contains xs x → Contains ys x → ⊥) → Once (xs ++ ys)
  once_append [] ys a b apart = b
  once_append (x ∷ xs) ys a b apart =
      once_more x (xs ++ ys) (once_append xs ys (once_tail x xs a) b (λ y c d. apart y (there x xs y c) d)) (λ c. elim (split_in xs ys x c) [
        | inl d ↦ not_in_tail x xs a d
        | inr d ↦ apart x (here x xs) d
      ])

module _ {X Y : Type 0} where
  pub once_map : (h : X → Y) (xs : List X) → ((x y : X) → Contains xs x → Contains xs y → h x ≡ h y → x ≡ y) → Once xs → Once (map h xs)
  once_map h [] one a = once_none
  once_map h (x ∷ xs) one a =
      once_more (h x) (map h xs) (once_map h xs (λ y z c d e. one y z (there x xs y c) (there x xs z d) e) (once_tail x xs a))
      (λ c. (let q = of_map h xs (h x) c in
      not_in_tail x xs a (subst (λ z. Contains xs z) (one q.0 x (there x xs q.0 q.1) (here x xs) q.2) q.1)))

  once_flat : (h : X → List Y) (xs : List X) → Once xs → ((x : X) → Contains xs x → Once (h x)) →
      ((x z : X) (y : Y) → Contains (h x) y → Contains (h z) y → x ≡ z) → Once (flat_map h xs)
  once_flat h [] a each one = once_none
  once_flat h (x ∷ xs) a each one =
      once_append (h x) (flat_map h xs) (each x (here x xs)) (once_flat h xs (once_tail x xs a) (λ y c. each y (there x xs y c)) one)
      (λ y c d. (let q = of_flat h xs y d in not_in_tail x xs a (subst (λ z. Contains xs z) (sym (one x q.0 y c q.2)) q.1)))

-- the numbers from one on
pub of_range : (n k r : ℕ) → Contains (from_to n k) r → (n ≤ r) × (r < n + k)
of_range n zero r c = none_in r c
of_range n (suc k) r (zero, l, e) = (omega arith, omega arith)
of_range n (suc k) r (suc i, l, e) = let q = of_range (n + 1) k r (i, omega arith, e) in let a = q.0 in let b = q.1 in (omega arith, omega arith)

pub below_range : (k r : ℕ) → Contains (from_to 0 k) r → r < k
below_range k r c = let q = (of_range 0 k r c).1 in omega arith

once_range : (n k : ℕ) → Once (from_to n k)
once_range n zero = once_none
once_range n (suc k) = once_more n (from_to (n + 1) k) (once_range (n + 1) k) (λ c. (let q = of_range (n + 1) k n c in let a = q.0 in omega arith))

first_range : (k r : ℕ) → r < k → Contains (from_to 0 k) r
first_range k r l = in_range 0 k r (omega arith) (omega arith)

below_of : (f n : ℕ) → nat_lt f n ≡ true → f < n
below_of f n e = grind (arith, nat_tests)

-- rising numbers are each once
rising_once : (xs : List ℕ) → ((i j : ℕ) → i < j → j < length xs → slice_index xs i < slice_index xs j) → Once xs
rising_once xs rise i j l h e =
    let r = rise i j l h in
    let a = slice_get-get_or xs i 0 (omega arith) in
    let b = slice_get-get_or xs j 0 h in
    let s : slice_index xs i ≡ slice_index xs j = some (sym a ∙ e ∙ b) in
    omega arith
  where
    some : {m n : ℕ} → Some m ≡ Some n → m ≡ n
    some t = (cc)

-- a number is found in a list that has it
pub found_in : (xs : List ℕ) (n : ℕ) → Contains xs n → list_any (nat_eq n) xs ≡ true
found_in xs n c = let q = any_number xs c.0 c.1 in subst (λ (z : ℕ). list_any (nat_eq z) xs ≡ true) (at c) q
  where
    at : (c : Contains xs n) → slice_index xs c.0 ≡ n
    at c = number (sym (slice_get-get_or xs c.0 0 c.1) ∙ slice_get-get_or xs c.0 n c.1 ∙ ap Some c.2)
      where
        number : {a b : ℕ} → Some a ≡ Some b → a ≡ b
        number t = (cc)

-- blocks of bits
of_registers : (part : ℕ) (names : List ℕ) (y : PartInput) → Contains (register_bits part names) y →
    (n b : ℕ) × Contains names n × (b < 32) × (RegisterBit part n b ≡ y)
of_registers part names y c =
    let q = of_flat (λ n. map (RegisterBit part n) (from_to 0 32)) names y c in
    let r = of_map (RegisterBit part q.0) (from_to 0 32) y q.2 in
    (q.0, r.0, q.1, below_range 32 r.0 r.1, r.2)

in_registers : (part : ℕ) (names : List ℕ) (n b : ℕ) → Contains names n → b < 32 → Contains (register_bits part names) (RegisterBit part n b)
in_registers part names n b c l =
    in_flat (λ n. map (RegisterBit part n) (from_to 0 32)) names n (RegisterBit part n b) c
    (in_map (RegisterBit part n) (from_to 0 32) b (first_range 32 b l))

of_flags : (part : ℕ) (names : List ℕ) (y : PartInput) → Contains (flag_bits part names) y → (f : ℕ) × Contains names f × (FlagBit part f ≡ y)
of_flags part names y c = of_map (FlagBit part) names y c

in_flags : (part : ℕ) (names : List ℕ) (f : ℕ) → Contains names f → Contains (flag_bits part names) (FlagBit part f)
in_flags part names f c = in_map (FlagBit part) names f c

once_registers : (part : ℕ) (names : List ℕ) → Once names → Once (register_bits part names)
once_registers part names a =
    once_flat (λ n. map (RegisterBit part n) (from_to 0 32)) names a
    (λ n c. once_map (RegisterBit part n) (from_to 0 32) (λ x y c d e. (cc)) (once_range 0 32))
    (λ n m y c d. (let q = of_map (RegisterBit part n) (from_to 0 32) y c in let r = of_map (RegisterBit part m) (from_to 0 32) y d in
    number n m q.0 r.0 (q.2 ∙ sym r.2)))
  where
    number : (n m a b : ℕ) → RegisterBit part n a ≡ RegisterBit part m b → n ≡ m
    number n m a b e = (cc)

once_flags : (part : ℕ) (names : List ℕ) → Once names → Once (flag_bits part names)
once_flags part names a = once_map (FlagBit part) names (λ x y c d e. (cc)) a

-- registers and flags of a part
abbrev both_bits : ℕ → (registers flags : List ℕ) → List PartInput
both_bits part registers flags = register_bits part registers ++ flag_bits part flags

once_both : (part : ℕ) (registers flags : List ℕ) → Once registers → Once flags → Once (both_bits part registers flags)
once_both part registers flags a b =
    once_append (register_bits part registers) (flag_bits part flags) (once_registers part registers a) (once_flags part flags b)
    (λ y c d. (let q = of_registers part registers y c in let r = of_flags part flags y d in other q.0 q.1 r.0 (q.4 ∙ sym r.2)))
  where
    other : (n b f : ℕ) → RegisterBit part n b ≡ FlagBit part f → ⊥
    other n b f e = absurd (cc)

-- a base read is its part and its address
read_same : (b d : BaseRead) → b.part ≡ d.part → b.address ≡ d.address → b ≡ d
read_same b d e h = ap (λ z. record { part = z; address = b.address }) e ∙ ap (λ z. record { part = d.part; address = z }) h

-- the kind of a bit, by the block of the list that has it
abbrev pub kind : PartInput → ℕ
kind (RegisterBit zero n b) = 0
kind (FlagBit zero f) = 1
kind (RegisterBit (suc zero) n b) = 2
kind (FlagBit (suc zero) f) = 2
kind (ChoiceBit i b) = 3
kind (RegisterBit (suc (suc i)) n b) = 4
kind (FlagBit (suc (suc i)) f) = 4
kind (ByteBit part j b) = 5

-- the bit is of no byte, or of a byte that is read at an address below a number
abbrev pub IsBelow : ℕ → PartInput → Type 0
IsBelow m (ByteBit part j b) = j < m
IsBelow m y = Unit {0}

-- the part of a bit
abbrev part_of : PartInput → ℕ
part_of (RegisterBit part n b) = part
part_of (FlagBit part f) = part
part_of (ChoiceBit i b) = zero
part_of (ByteBit part j b) = part

-- six lists in a row
six : {X : Type 0} (a b c d e f : List X) → a ++ (b ++ (c ++ (d ++ (e ++ f)))) ≡ ((((a ++ b) ++ c) ++ d) ++ e) ++ f
six a b c d e f =
    sym (append_assoc a b (c ++ (d ++ (e ++ f)))) ∙ sym (append_assoc (a ++ b) c (d ++ (e ++ f))) ∙ sym (append_assoc ((a ++ b) ++ c) d (e ++ f))
    ∙ sym (append_assoc (((a ++ b) ++ c) ++ d) e f)

module _ (u : UnrolledProgram) (heads : Bool) (c : Cells) where
  -- which bits there are
  abbrev pub IsPartInput : PartInput → Type 0
  IsPartInput (RegisterBit p n b) = NamesRegister u heads p n × (b < 32)
  IsPartInput (FlagBit p f) = NamesFlag u heads p f
  IsPartInput (ChoiceBit i b) = DrawsAt u i × (b < 2)
  IsPartInput (ByteBit part j b) = IsRead c part j × (b < 8)

  -- the blocks of the list
  abbrev pub choice_bits : List PartInput
  choice_bits = flat_map (λ i. map (ChoiceBit i) (from_to 0 2)) (drawn_places u)

  abbrev pub all_gifts : List PartInput
  all_gifts = flat_map (λ i. gift_bits u i (point_at u i).does) (from_to 0 (length u.points))

  abbrev pub byte_bits : List BaseRead → List PartInput
  byte_bits reads = flat_map (λ b. map (ByteBit b.part b.address) (from_to 0 8)) reads

  abbrev block : ℕ → List PartInput
  block zero = register_bits zero u.registers
  block (suc zero) = flag_bits zero (from_to 0 u.flags)
  block (suc (suc zero)) = head_bits u heads
  block (suc (suc (suc zero))) = choice_bits
  block (suc (suc (suc (suc zero)))) = all_gifts
  block (suc (suc (suc (suc (suc n))))) = byte_bits c.reads

  -- all but the bytes
  abbrev pub front : List PartInput
  front = (((register_bits zero u.registers ++ flag_bits zero (from_to 0 u.flags)) ++ head_bits u heads) ++ choice_bits) ++ all_gifts

  pub list_is : input_list u heads c ≡ front ++ byte_bits c.reads
  list_is = six (register_bits zero u.registers) (flag_bits zero (from_to 0 u.flags)) (head_bits u heads) choice_bits all_gifts (byte_bits c.reads)

  abbrev Says : ℕ → PartInput → Type 0
  Says k y = IsPartInput y × (kind y ≡ k)

  -- the bits of the head part
  of_heads : (b : Bool) → heads ≡ b → (y : PartInput) → Contains (head_bits u b) y → Says 2 y
  of_heads false t y d = none_in y d
  of_heads true t y d = elim (split_in (register_bits (suc zero) u.registers) (flag_bits (suc zero) (from_to 0 u.flags)) y d) [
    | inl g ↦ (let q = of_registers (suc zero) u.registers y g in subst (Says 2) q.4 (((t, found_in u.registers q.0 q.2), q.3), refl))
    | inr g ↦ (let q = of_flags (suc zero) (from_to 0 u.flags) y g in
        subst (Says 2) q.2 ((t, lt-ltb q.0 u.flags (below_range u.flags q.0 q.1)), refl))
  ]

  -- the bits of a gift
  abbrev gift_registers : Gift → List ℕ
  gift_registers x = filter (λ r. list_any (nat_eq r) x.registers) u.registers

  abbrev gift_flags : Gift → List ℕ
  gift_flags x = filter (λ f. list_any (nat_eq f) x.flags) (from_to 0 u.flags)

  part_of_gift : (i : ℕ) (a : Action) (y : PartInput) → Contains (gift_bits u i a) y → part_of y ≡ suc (suc i)
  part_of_gift i (Executes list) y d = none_in y d
  part_of_gift i Arrives y d = none_in y d
  part_of_gift i (StepsOver x) y d =
      elim (split_in (register_bits (suc (suc i)) (gift_registers x)) (flag_bits (suc (suc i)) (gift_flags x)) y d) [
        | inl g ↦ ap part_of (sym (of_registers (suc (suc i)) (gift_registers x) y g).4)
        | inr g ↦ ap part_of (sym (of_flags (suc (suc i)) (gift_flags x) y g).2)
      ]

  of_gift : (i : ℕ) (a : Action) → i < length u.points → (point_at u i).does ≡ a → (y : PartInput) → Contains (gift_bits u i a) y → Says 4 y
  of_gift i (Executes list) l t y d = none_in y d
  of_gift i Arrives l t y d = none_in y d
  of_gift i (StepsOver x) l t y d =
      let is : IsGiftAt u i x = record { place = l; does = t } in
      elim (split_in (register_bits (suc (suc i)) (gift_registers x)) (flag_bits (suc (suc i)) (gift_flags x)) y d) [
        | inl g ↦ (let q = of_registers (suc (suc i)) (gift_registers x) y g in
            let m = of_filter (λ r. list_any (nat_eq r) x.registers) u.registers q.0 q.2 in
            subst (Says 4) q.4 (((found_in u.registers q.0 m.0, (x, is, in_any q.0 x.registers m.1)), q.3), refl))
        | inr g ↦ (let q = of_flags (suc (suc i)) (gift_flags x) y g in
            let m = of_filter (λ f. list_any (nat_eq f) x.flags) (from_to 0 u.flags) q.0 q.1 in
            subst (Says 4) q.2 ((lt-ltb q.0 u.flags (below_range u.flags q.0 m.0), (x, is, in_any q.0 x.flags m.1)), refl))
      ]

  -- what a block has
  says : (k : ℕ) → k < 6 → (y : PartInput) → Contains (block k) y → Says k y
  says zero l y d = let q = of_registers zero u.registers y d in subst (Says 0) q.4 ((found_in u.registers q.0 q.2, q.3), refl)
  says (suc zero) l y d =
      let q = of_flags zero (from_to 0 u.flags) y d in subst (Says 1) q.2 (lt-ltb q.0 u.flags (below_range u.flags q.0 q.1), refl)
  says (suc (suc zero)) l y d = of_heads heads refl y d
  says (suc (suc (suc zero))) l y d =
      let q = of_flat (λ i. map (ChoiceBit i) (from_to 0 2)) (drawn_places u) y d in
      let m = of_filter (λ i. (point_at u i).draws) (from_to 0 (length u.points)) q.0 q.1 in
      let r = of_map (ChoiceBit q.0) (from_to 0 2) y q.2 in
      subst (Says 3) r.2 (((below_range (length u.points) q.0 m.0, m.1), below_range 2 r.0 r.1), refl)
  says (suc (suc (suc (suc zero)))) l y d =
      let q = of_flat (λ i. gift_bits u i (point_at u i).does) (from_to 0 (length u.points)) y d in
      of_gift q.0 (point_at u q.0).does (below_range (length u.points) q.0 q.1) refl y q.2
  says (suc (suc (suc (suc (suc zero))))) l y d =
      let q = of_flat (λ b. map (ByteBit b.part b.address) (from_to 0 8)) c.reads y d in
      let r = of_map (ByteBit q.0.part q.0.address) (from_to 0 8) y q.2 in
      subst (Says 5) r.2 ((q.1, below_range 8 r.0 r.1), refl)
  says (suc (suc (suc (suc (suc (suc k)))))) l y d = absurd (omega arith)

  -- each bit is in the block of its kind
  in_gifts : (i : ℕ) (x : Gift) → IsGiftAt u i x → (y : PartInput) →
      Contains (both_bits (suc (suc i)) (gift_registers x) (gift_flags x)) y → Contains all_gifts y
  in_gifts i x at y d =
      in_flat (λ i. gift_bits u i (point_at u i).does) (from_to 0 (length u.points)) i y (first_range (length u.points) i at.place)
      (subst (λ z. Contains (gift_bits u i z) y) (sym at.does) d)

  stands : (y : PartInput) → IsPartInput y → Contains (block (kind y)) y
  stands (RegisterBit zero n b) h = in_registers zero u.registers n b (in_any n u.registers h.0) h.1
  stands (FlagBit zero f) h = in_flags zero (from_to 0 u.flags) f (first_range u.flags f (below_of f u.flags h))
  stands (RegisterBit (suc zero) n b) h =
      subst (λ z. Contains (head_bits u z) (RegisterBit (suc zero) n b)) (sym h.0.0)
      (in_left (register_bits (suc zero) u.registers) (flag_bits (suc zero) (from_to 0 u.flags)) (RegisterBit (suc zero) n b)
      (in_registers (suc zero) u.registers n b (in_any n u.registers h.0.1) h.1))
  stands (FlagBit (suc zero) f) h =
      subst (λ z. Contains (head_bits u z) (FlagBit (suc zero) f)) (sym h.0)
      (in_right (register_bits (suc zero) u.registers) (flag_bits (suc zero) (from_to 0 u.flags)) (FlagBit (suc zero) f)
      (in_flags (suc zero) (from_to 0 u.flags) f (first_range u.flags f (below_of f u.flags h.1))))
  stands (ChoiceBit i b) h =
      in_flat (λ i. map (ChoiceBit i) (from_to 0 2)) (drawn_places u) i (ChoiceBit i b)
      (in_filter (λ i. (point_at u i).draws) (from_to 0 (length u.points)) i (first_range (length u.points) i h.0.0) h.0.1)
      (in_map (ChoiceBit i) (from_to 0 2) b (first_range 2 b h.1))
  stands (RegisterBit (suc (suc i)) n b) ((named, (x, at, inside)), l) =
      in_gifts i x at (RegisterBit (suc (suc i)) n b)
      (in_left (register_bits (suc (suc i)) (gift_registers x)) (flag_bits (suc (suc i)) (gift_flags x)) (RegisterBit (suc (suc i)) n b)
      (in_registers (suc (suc i)) (gift_registers x) n b
      (in_filter (λ r. list_any (nat_eq r) x.registers) u.registers n (in_any n u.registers named) (found_in x.registers n inside)) l))
  stands (FlagBit (suc (suc i)) f) (named, (x, at, inside)) =
      in_gifts i x at (FlagBit (suc (suc i)) f)
      (in_right (register_bits (suc (suc i)) (gift_registers x)) (flag_bits (suc (suc i)) (gift_flags x)) (FlagBit (suc (suc i)) f)
      (in_flags (suc (suc i)) (gift_flags x) f
      (in_filter (λ f. list_any (nat_eq f) x.flags) (from_to 0 u.flags) f (first_range u.flags f (below_of f u.flags named)) (found_in x.flags f inside))))
  stands (ByteBit part j b) h =
      in_flat (λ b. map (ByteBit b.part b.address) (from_to 0 8)) c.reads (record { part = part; address = j }) (ByteBit part j b) h.0
      (in_map (ByteBit part j) (from_to 0 8) b (first_range 8 b h.1))

  kind_most : (y : PartInput) → kind y < 6
  kind_most (RegisterBit zero n b) = omega arith
  kind_most (FlagBit zero f) = omega arith
  kind_most (RegisterBit (suc zero) n b) = omega arith
  kind_most (FlagBit (suc zero) f) = omega arith
  kind_most (ChoiceBit i b) = omega arith
  kind_most (RegisterBit (suc (suc i)) n b) = omega arith
  kind_most (FlagBit (suc (suc i)) f) = omega arith
  kind_most (ByteBit part j b) = omega arith

  -- a list of the bits of the first kinds
  record Firsts (k : ℕ) (xs : List PartInput) : Type 0 where
    only : (y : PartInput) → Contains xs y → IsPartInput y × (kind y < k)
    all : (y : PartInput) → IsPartInput y → kind y < k → Contains xs y

  one_more : (k : ℕ) → k < 6 → (xs : List PartInput) → Firsts k xs → Firsts (suc k) (xs ++ block k)
  one_more k l xs f = record {
    only = λ y d. elim (split_in xs (block k) y d) [
      | inl g ↦ (let q = f.only y g in let m = q.1 in (q.0, omega arith))
      | inr g ↦ (let q = says k l y g in let m = q.1 in (q.0, omega arith))
    ];
    all = λ y h m. elim (truth (nat_lt (kind y) k)) [
      | inl t ↦ in_left xs (block k) y (f.all y h (below_of (kind y) k t))
      | inr t ↦ (let e : kind y ≡ k = grind (arith, nat_tests) in in_right xs (block k) y (subst (λ z. Contains (block z) y) e (stands y h)))
    ];
  }

  first_kind : Firsts 1 (block 0)
  first_kind = record {
    only = λ y d. (let q = says 0 (omega arith) y d in let m = q.1 in (q.0, omega arith));
    all = λ y h m. subst (λ z. Contains (block z) y) (let e : kind y ≡ 0 = omega arith in e) (stands y h);
  }

  front_has : Firsts 5 front
  front_has =
      one_more 4 (omega arith) ((((block 0) ++ block 1) ++ block 2) ++ block 3) (one_more 3 (omega arith) (((block 0) ++ block 1) ++ block 2)
      (one_more 2 (omega arith) ((block 0) ++ block 1) (one_more 1 (omega arith) (block 0) first_kind)))

  all_has : Firsts 6 (front ++ byte_bits c.reads)
  all_has = one_more 5 (omega arith) front front_has

  -- the bits of the list are those that there are, and all but those of bytes are in front
  pub listed : (y : PartInput) → Contains (input_list u heads c) y → IsPartInput y
  listed y d = (all_has.only y (subst (λ z. Contains z y) list_is d)).0

  pub in_list : (y : PartInput) → IsPartInput y → Contains (input_list u heads c) y
  in_list y h = subst (λ z. Contains z y) (sym list_is) (all_has.all y h (kind_most y))

  in_front : (y : PartInput) → IsPartInput y → kind y < 5 → Contains front y
  in_front y h l = front_has.all y h l

  pub of_front : (y : PartInput) → Contains front y → kind y < 5
  of_front y d = (front_has.only y d).1

  module _ (rise : (i j : ℕ) → i < j → j < length u.registers → slice_index u.registers i < slice_index u.registers j) (formed : AreFormed u heads c) where
    -- each block has each bit once
    once_heads : (b : Bool) → Once (head_bits u b)
    once_heads true = once_both (suc zero) u.registers (from_to 0 u.flags) (rising_once u.registers rise) (once_range 0 u.flags)
    once_heads false = once_none

    once_gift : (i : ℕ) (a : Action) → Once (gift_bits u i a)
    once_gift i (Executes list) = once_none
    once_gift i Arrives = once_none
    once_gift i (StepsOver x) =
        once_both (suc (suc i)) (gift_registers x) (gift_flags x)
        (filter_once (λ r. list_any (nat_eq r) x.registers) u.registers (rising_once u.registers rise))
        (filter_once (λ f. list_any (nat_eq f) x.flags) (from_to 0 u.flags) (once_range 0 u.flags))

    once_reads : Once c.reads
    once_reads i j l h e =
        let g = slice_get-get_or c.reads j (record { part = zero; address = 0 }) h in
        formed.once i j (get_or c.reads j (record { part = zero; address = 0 })) l (e ∙ g) g

    same_place : (i j : ℕ) → suc (suc i) ≡ suc (suc j) → i ≡ j
    same_place i j e = omega arith

    same_choice : (i j a b : ℕ) → ChoiceBit i a ≡ ChoiceBit j b → i ≡ j
    same_choice i j a b e = (cc)

    same_read : (b d : BaseRead) (i j : ℕ) → ByteBit b.part b.address i ≡ ByteBit d.part d.address j → b ≡ d
    same_read b d i j e = read_same b d (cc) (cc)

    once_block : (k : ℕ) → k < 6 → Once (block k)
    once_block zero l = once_registers zero u.registers (rising_once u.registers rise)
    once_block (suc zero) l = once_flags zero (from_to 0 u.flags) (once_range 0 u.flags)
    once_block (suc (suc zero)) l = once_heads heads
    once_block (suc (suc (suc zero))) l =
        once_flat (λ i. map (ChoiceBit i) (from_to 0 2)) (drawn_places u)
        (filter_once (λ i. (point_at u i).draws) (from_to 0 (length u.points)) (once_range 0 (length u.points)))
        (λ i d. once_map (ChoiceBit i) (from_to 0 2) (λ x y a b e. (cc)) (once_range 0 2))
        (λ i j y a b. (let q = of_map (ChoiceBit i) (from_to 0 2) y a in let r = of_map (ChoiceBit j) (from_to 0 2) y b in
        same_choice i j q.0 r.0 (q.2 ∙ sym r.2)))
    once_block (suc (suc (suc (suc zero)))) l =
        once_flat (λ i. gift_bits u i (point_at u i).does) (from_to 0 (length u.points)) (once_range 0 (length u.points))
        (λ i d. once_gift i (point_at u i).does)
        (λ i j y a b. same_place i j (sym (part_of_gift i (point_at u i).does y a) ∙ part_of_gift j (point_at u j).does y b))
    once_block (suc (suc (suc (suc (suc zero))))) l =
        once_flat (λ b. map (ByteBit b.part b.address) (from_to 0 8)) c.reads once_reads
        (λ b d. once_map (ByteBit b.part b.address) (from_to 0 8) (λ x y p q e. (cc)) (once_range 0 8))
        (λ b d y p q. (let s = of_map (ByteBit b.part b.address) (from_to 0 8) y p in let t = of_map (ByteBit d.part d.address) (from_to 0 8) y q in
        same_read b d s.0 t.0 (s.2 ∙ sym t.2)))
    once_block (suc (suc (suc (suc (suc (suc k)))))) l = absurd (omega arith)

    once_more_kind : (k : ℕ) → k < 6 → (xs : List PartInput) → Firsts k xs → Once xs → Once (xs ++ block k)
    once_more_kind k l xs f a =
        once_append xs (block k) a (once_block k l) (λ y d e. (let q = (f.only y d).1 in let r = (says k l y e).1 in omega arith))

    -- so has the list
    pub list_once : Once (input_list u heads c)
    list_once =
        subst Once (sym list_is) (once_more_kind 5 (omega arith) front front_has
        (once_more_kind 4 (omega arith) ((((block 0) ++ block 1) ++ block 2) ++ block 3)
        (one_more 3 (omega arith) (((block 0) ++ block 1) ++ block 2) (one_more 2 (omega arith) ((block 0) ++ block 1)
        (one_more 1 (omega arith) (block 0) first_kind)))
        (once_more_kind 3 (omega arith) (((block 0) ++ block 1) ++ block 2) (one_more 2 (omega arith) ((block 0) ++ block 1)
        (one_more 1 (omega arith) (block 0) first_kind))
        (once_more_kind 2 (omega arith) ((block 0) ++ block 1) (one_more 1 (omega arith) (block 0) first_kind)
        (once_more_kind 1 (omega arith) (block 0) first_kind (once_block 0 (omega arith)))))))

    -- a byte of a read stands at eight times the number of the read
    byte_get : (reads : List BaseRead) (q b : ℕ) (r : BaseRead) → slice_get reads q ≡ Some r → b < 8 →
        slice_get (byte_bits reads) (8 * q + b) ≡ Some (ByteBit r.part r.address b)
    byte_get [] q b r e l = absurd (cc)
    byte_get (s ∷ reads) zero b r e l =
        let same : s ≡ r = (cc) in
        let n = row_length (ByteBit s.part s.address) 0 8 in
        ap (slice_get (byte_bits (s ∷ reads))) (let z : 8 * 0 + b ≡ b = omega arith in z)
        ∙ get_left (map (ByteBit s.part s.address) (from_to 0 8)) (byte_bits reads) b (omega arith)
        ∙ row_get (ByteBit s.part s.address) 0 8 b l
        ∙ ap (λ z. Some (ByteBit s.part s.address z)) (let z : 0 + b ≡ b = omega arith in z) ∙ ap (λ z. Some (ByteBit z.part z.address b)) same
    byte_get (s ∷ reads) (suc q) b r e l =
        let n = row_length (ByteBit s.part s.address) 0 8 in
        ap (slice_get (byte_bits (s ∷ reads))) (let z : 8 * suc q + b ≡ length (map (ByteBit s.part s.address) (from_to 0 8)) + (8 * q + b) = omega arith in z)
        ∙ get_right (map (ByteBit s.part s.address) (from_to 0 8)) (byte_bits reads) (8 * q + b) ∙ byte_get reads q b r e l

    byte_is : (reads : List BaseRead) (i : ℕ) (y : PartInput) → slice_get (byte_bits reads) i ≡ Some y →
        (q b : ℕ) × (r : BaseRead) × (slice_get reads q ≡ Some r) × (b < 8) × (i ≡ 8 * q + b) × (y ≡ ByteBit r.part r.address b)
    byte_is [] i y e = absurd (cc)
    byte_is (s ∷ reads) i y e = elim (get_split (map (ByteBit s.part s.address) (from_to 0 8)) (byte_bits reads) i y e) [
      | inl h ↦ (let r = row_is (ByteBit s.part s.address) 8 i y h in (0, i, s, refl, r.0, (let z : i ≡ 8 * 0 + i = omega arith in z), r.1))
      | inr h ↦ (let r = byte_is reads h.0 y h.2 in
          let n = row_length (ByteBit s.part s.address) 0 8 in
          (suc r.0, r.1, r.2, r.3, r.4, (let a = h.1 in let b = r.5 in let z : i ≡ 8 * suc r.0 + r.1 = omega arith in z), r.6))
    ]

    -- a read of a smaller address is an earlier one
    read_before : (q s : ℕ) (a b : BaseRead) → slice_get c.reads q ≡ Some a → slice_get c.reads s ≡ Some b → b.address < a.address → s < q
    read_before q s a b e h l = elim (truth (nat_lt s q)) [
      | inl t ↦ below_of s q t
      | inr t ↦ elim (truth (nat_lt q s)) [
        | inl m ↦ absurd (let r = formed.rise q s a b (below_of q s m) e h in omega arith)
        | inr m ↦ (let at : q ≡ s = grind (arith, nat_tests) in
            let one = sym e ∙ ap (slice_get c.reads) at ∙ h in
            let same : a.address ≡ b.address = ap (λ (z : BaseRead). z.address) (read_of a b one) in absurd (omega arith))
      ]
    ]
      where
        read_of : (a b : BaseRead) → Some a ≡ Some b → a ≡ b
        read_of a b t = (cc)

    -- where a byte of a base read stands, and what stands before it
    abbrev pub StandsBefore : ℕ → PartInput → Type 0
    StandsBefore n y = (i : ℕ) × (i < n) × (slice_get (input_list u heads c) i ≡ Some y)

    in_bytes : (n : ℕ) (part : ℕ) (j b : ℕ) → slice_get (input_list u heads c) n ≡ Some (ByteBit part j b) →
        (i : ℕ) × (n ≡ length front + i) × (slice_get (byte_bits c.reads) i ≡ Some (ByteBit part j b))
    in_bytes n part j b e = elim (get_split front (byte_bits c.reads) n (ByteBit part j b) (ap (λ z. slice_get z n) (sym list_is) ∙ e)) [
      | inl h ↦ absurd (let l = of_front (ByteBit part j b) (at_in front n (ByteBit part j b) h) in omega arith)
      | inr h ↦ h
    ]

    before_front : (n : ℕ) (y : PartInput) → length front ≤ n → IsPartInput y → kind y < 5 → StandsBefore n y
    before_front n y m h l =
        let q = in_at front y (in_front y h l) in
        let s = q.1 in
        (q.0, omega arith, ap (λ z. slice_get z q.0) list_is ∙ get_left front (byte_bits c.reads) q.0 q.1 ∙ q.2)

    before_byte : (n i j b : ℕ) (part other : ℕ) (at bit : ℕ) → n ≡ length front + i → slice_get (byte_bits c.reads) i ≡ Some (ByteBit part j b) →
        IsRead c other at → bit < 8 → at < j → StandsBefore n (ByteBit other at bit)
    before_byte n i j b part other at bit e g inside l less =
        let r = byte_is c.reads i (ByteBit part j b) g in
        let d = in_at c.reads (record { part = other; address = at }) inside in
        let address : j ≡ r.2.address = address_of part j b r.2 r.1 r.6 in
        let first = read_before r.0 d.0 r.2 (record { part = other; address = at }) r.3 d.2 (omega arith) in (
          length front + (8 * d.0 + bit),
          (let a = r.5 in omega arith),
          ap (λ z. slice_get z (length front + (8 * d.0 + bit))) list_is ∙ get_right front (byte_bits c.reads) (8 * d.0 + bit)
              ∙ byte_get c.reads d.0 bit (record { part = other; address = at }) d.2 l,
        )
      where
        address_of : (part : ℕ) (j b : ℕ) (r : BaseRead) (d : ℕ) → ByteBit part j b ≡ ByteBit r.part r.address d → j ≡ r.address
        address_of part j b r d t = (cc)

    pub before : (n : ℕ) (part : ℕ) (j b : ℕ) → slice_get (input_list u heads c) n ≡ Some (ByteBit part j b) → (y : PartInput) → IsPartInput y →
        IsBelow j y → StandsBefore n y
    before n part j b e (RegisterBit zero m i) h l = before_front n (RegisterBit zero m i) (let q = (in_bytes n part j b e).1 in omega arith) h (omega arith)
    before n part j b e (FlagBit zero m) h l = before_front n (FlagBit zero m) (let q = (in_bytes n part j b e).1 in omega arith) h (omega arith)
    before n part j b e (RegisterBit (suc zero) m i) h l =
        before_front n (RegisterBit (suc zero) m i) (let q = (in_bytes n part j b e).1 in omega arith) h (omega arith)
    before n part j b e (FlagBit (suc zero) m) h l =
        before_front n (FlagBit (suc zero) m) (let q = (in_bytes n part j b e).1 in omega arith) h (omega arith)
    before n part j b e (ChoiceBit m i) h l = before_front n (ChoiceBit m i) (let q = (in_bytes n part j b e).1 in omega arith) h (omega arith)
    before n part j b e (RegisterBit (suc (suc p)) m i) h l =
        before_front n (RegisterBit (suc (suc p)) m i) (let q = (in_bytes n part j b e).1 in omega arith) h (omega arith)
    before n part j b e (FlagBit (suc (suc p)) m) h l =
        before_front n (FlagBit (suc (suc p)) m) (let q = (in_bytes n part j b e).1 in omega arith) h (omega arith)
    before n part j b e (ByteBit other at bit) h l =
        let q = in_bytes n part j b e in before_byte n q.0 j b part other at bit q.1 q.2 h.0 h.1 l
