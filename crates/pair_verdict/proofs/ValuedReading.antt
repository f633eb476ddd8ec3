-- The reading of a valuation has the values of the inputs of the frame of its program.
use Rattle.std.proofs.Common.{◌≡◌, refl, ap, sym, ◌∙◌, subst, arith, ℕ, zero, suc, ◌+◌, ◌-◌, ◌*◌, ◌<◌, List, [], ◌∷◌, ◌++◌, Some, length, Bool, true, false}
use Rattle.std.specs.Prelude.{◌==◌, filter, if◌then◌else◌, map, nat_eq, slice_get}
use Rattle.std.specs.List.{flat_map, list_any}
use Rattle.std.proofs.lemmas.Bool.{lt-ltb}
use Rattle.std.proofs.lemmas.Option.{slice_get_within}
use Rattle.word_spec.specs.RowFiles.{from_to}
use Rattle.word_spec.specs.Words.{bit}
use Rattle.term_spec.specs.Cells.{Cells}
use Rattle.term_spec.specs.ClauseForm.{bits_from, drawn_below, first_byte, first_choice, first_flag, place_in, reading}
use Rattle.term_spec.specs.Terms.{TermReading}
use Rattle.walk_spec.specs.Unrolled as tables
use Rattle.walk_laws.proofs.InputBits.{flag_is}
use Rattle.walk_laws.proofs.InputOrder.{block_length, passed_below, passed_is, passed_length, row_is, row_length}
use Rattle.walk_laws.proofs.InputPlaces.{range_get, range_length}
use Rattle.walk_laws.proofs.InputsWithin.{reading_in_range}
use Rattle.frame_spec.specs.FrameWalk.{UnrolledProgram, point_at}
use Rattle.frame_laws.specs.HeadlessLaws.{as_action, as_unrolled}
use Rattle.frame_laws.proofs.HeadlessWalks.{count_same, place_same}
use Rattle.frame_terms.specs.FrameCells.{BaseRead}
use Rattle.frame_terms.specs.FrameClauseForm.{ByteBit, ChoiceBit, FlagBit, HasBits, PartInput, RegisterBit, bit_of, drawn_places, flag_bits, gift_bits, input_list, register_bits}
use Rattle.frame_terms.specs.FrameStarts.{HasValues}
use Rattle.frame_terms.specs.HeadlessTerms.{as_cells, as_read}
use Rattle.word_gates.specs.Numbers.{input_number}
use Rattle.bit_blast.proofs.InputNumbers.{any_in_range, bits_are, place_in_range}
use Rattle.bit_blast.proofs.Segments.{HasFrom, first_from_bits, from_at, joined, row_from, rows_from, word_from}

none_flat : (f : ℕ → List PartInput) → ((i : ℕ) → f i ≡ []) → (xs : List ℕ) → flat_map f xs ≡ []
none_flat f e [] = refl
none_flat f e (x ∷ xs) = ap (λ z. z ++ flat_map f xs) (e x) ∙ none_flat f e xs

filter_same : (f g : ℕ → Bool) → ((n : ℕ) → f n ≡ g n) → (xs : List ℕ) → filter f xs ≡ filter g xs
filter_same f g e [] = refl
filter_same f g e (x ∷ xs) =
    ap (λ z. if z then x ∷ filter f xs else filter f xs) (e x) ∙ ap (λ z. if g x then x ∷ z else z) (filter_same f g e xs)

module _ (u : tables.UnrolledProgram) (first count : ℕ) (registers : u.registers ≡ from_to first count) (c : Cells) (v : ℕ → Bool) where
  abbrev w : UnrolledProgram
  w = as_unrolled u

  abbrev x : TermReading
  x = reading u c v

  abbrev draws : ℕ → Bool
  draws i = (tables.point_at u i).draws

  drawn_is : (i : ℕ) → drawn_below u i ≡ passed_below draws i
  unfolding passed_below
  drawn_is zero = refl
  drawn_is (suc i) = ap (λ z. z + bit (draws i)) (drawn_is i)

  drawn_same : drawn_places w ≡ filter draws (from_to 0 (length u.points))
  drawn_same =
      ap (λ z. filter (λ i. (point_at w i).draws) (from_to 0 z)) (count_same u)
      ∙ filter_same (λ i. (point_at w i).draws) draws (λ i. ap (λ z. z.draws) (place_same u i)) (from_to 0 (length u.points))

  -- ---- the segments of the inputs

  abbrev choice_bits : List PartInput
  choice_bits = flat_map (λ i. map (ChoiceBit i) (from_to 0 2)) (drawn_places w)

  abbrev read_bits : BaseRead → List PartInput
  read_bits b = map (ByteBit b.part b.address) (from_to 0 8)

  abbrev byte_bits : List PartInput
  byte_bits = flat_map read_bits (as_cells c).reads

  no_gift_by : (i : ℕ) (a : tables.Action) → gift_bits w i (as_action a) ≡ []
  no_gift_by i (tables.Executes list) = refl

  no_gift : flat_map (λ i. gift_bits w i (point_at w i).does) (from_to 0 (length w.points)) ≡ []
  no_gift =
      none_flat (λ i. gift_bits w i (point_at w i).does)
      (λ i. ap (λ z. gift_bits w i z.does) (place_same u i) ∙ no_gift_by i (tables.point_at u i).does) (from_to 0 (length w.points))

  list_is : input_list w false (as_cells c) ≡ register_bits 0 u.registers ++ (flag_bits 0 (from_to 0 u.flags) ++ (choice_bits ++ byte_bits))
  list_is = ap (λ z. register_bits 0 u.registers ++ (flag_bits 0 (from_to 0 u.flags) ++ (choice_bits ++ (z ++ byte_bits)))) no_gift

  register_number : (k y : ℕ) → slice_get u.registers k ≡ Some y → x.regs 0 y ≡ input_number v (0 + 32 * k) 32
  register_number k y e =
      let at : slice_get (from_to first count) k ≡ Some y = ap (λ (z : List ℕ). slice_get z k) (sym registers) ∙ e in
      let within : k < count = subst (λ (n : ℕ). k < n) (range_length first count) (slice_get_within (from_to first count) k y at) in
      let is : Some y ≡ Some (first + k) = sym at ∙ range_get first count k within in
      let same : y ≡ first + k = cc in
      let there : tables.is_register_of u y ≡ true = ap (list_any (nat_eq y)) registers ∙ any_in_range first count y (omega (arith, same)) (omega (arith, same, within)) in
      let place : place_in u.registers y ≡ k =
      ap (λ (z : List ℕ). place_in z y) registers ∙ place_in_range first count y (omega (arith, same)) (omega (arith, same, within))
      ∙ (let f : y - first ≡ k = omega (arith, same) in f) in
      ap (λ z. if z then bits_from v (32 * place_in u.registers y) 32 else 0) there
      ∙ ap (λ z. bits_from v (32 * z) 32) place ∙ bits_are v (32 * k) 32
      ∙ ap (λ z. input_number v z 32) (let f : 32 * k ≡ 0 + 32 * k = omega arith in f)

  registers_from : HasFrom v x 0 (register_bits 0 u.registers)
  registers_from =
      rows_from v x (λ y. map (RegisterBit 0 y) (from_to 0 32)) 32 (λ y. row_length (RegisterBit 0 y) 0 32) u.registers 0
      (λ k y e. word_from v x (RegisterBit 0 y) (x.regs 0 y) 32 (λ b. refl) (0 + 32 * k) (register_number k y e))

  flag_number : (k : ℕ) → k < u.flags → v (suc (first_flag u + k)) ≡ (bit_of x (FlagBit 0 (0 + k)) == 1)
  flag_number k l =
      ap v (let e : suc (first_flag u + k) ≡ first_flag u + k + 1 = omega arith in e) ∙ sym (flag_is v (first_flag u + k))
      ∙ sym (ap (λ z. (if z then bits_from v (first_flag u + k) 1 else 0) == 1) (lt-ltb k u.flags l))
      ∙ ap (λ z. x.flags 0 z == 1) (let e : k ≡ 0 + k = omega arith in e)

  flags_from : HasFrom v x (first_flag u) (flag_bits 0 (from_to 0 u.flags))
  flags_from = row_from v x (FlagBit 0) 0 u.flags (first_flag u) flag_number

  choice_number : (k i : ℕ) → slice_get (drawn_places w) k ≡ Some i → x.choice i ≡ input_number v (first_choice u + 2 * k) 2
  choice_number k i e =
      let d = passed_is draws (length u.points) k i (ap (λ (z : List ℕ). slice_get z k) (sym drawn_same) ∙ e) in
      ap (λ z. if z then bits_from v (first_choice u + 2 * drawn_below u i) 2 else 0) d.1
      ∙ ap (λ z. bits_from v (first_choice u + 2 * z) 2) (drawn_is i ∙ sym d.2) ∙ bits_are v (first_choice u + 2 * k) 2

  choices_from : HasFrom v x (first_choice u) choice_bits
  choices_from =
      rows_from v x (λ y. map (ChoiceBit y) (from_to 0 2)) 2 (λ y. row_length (ChoiceBit y) 0 2) (drawn_places w) (first_choice u)
      (λ k i e. word_from v x (ChoiceBit i) (x.choice i) 2 (λ b. refl) (first_choice u + 2 * k) (choice_number k i e))

  byte_number : (k : ℕ) → k < length c.addresses → x.base 0 k ≡ input_number v (first_byte u + 8 * k) 8
  byte_number k l =
      ap (λ z. if z then bits_from v (first_byte u + 8 * k) 8 else 0) (lt-ltb k (length c.addresses) l) ∙ bits_are v (first_byte u + 8 * k) 8

  byte_from : (k : ℕ) (b : BaseRead) → slice_get (as_cells c).reads k ≡ Some b → HasFrom v x (first_byte u + 8 * k) (read_bits b)
  byte_from k b e =
      let r = row_is as_read (length c.addresses) k b e in
      subst (λ (z : BaseRead). HasFrom v x (first_byte u + 8 * k) (read_bits z)) (sym r.1)
      (word_from v x (ByteBit 0 k) (x.base 0 k) 8 (λ i. refl) (first_byte u + 8 * k) (byte_number k r.0))

  bytes_from : HasFrom v x (first_byte u) byte_bits
  bytes_from = rows_from v x read_bits 8 (λ b. row_length (ByteBit b.part b.address) 0 8) (as_cells c).reads (first_byte u) byte_from

  -- ---- their lengths

  registers_long : length (register_bits 0 u.registers) ≡ first_flag u
  registers_long = block_length (RegisterBit 0) 32 u.registers

  flags_long : length (flag_bits 0 (from_to 0 u.flags)) ≡ u.flags
  flags_long = row_length (FlagBit 0) 0 u.flags

  choices_long : length choice_bits ≡ 2 * drawn_below u (length u.points)
  choices_long =
      block_length ChoiceBit 2 (drawn_places w)
      ∙ ap (λ z. 2 * z) (ap length drawn_same ∙ passed_length draws (length u.points) ∙ sym (drawn_is (length u.points)))

  bits : HasBits (input_list w false (as_cells c)) v x
  bits =
      subst (λ (l : List PartInput). HasBits l v x) (sym list_is)
      (first_from_bits v x (register_bits 0 u.registers ++ (flag_bits 0 (from_to 0 u.flags) ++ (choice_bits ++ byte_bits)))
      (joined v x (register_bits 0 u.registers) (flag_bits 0 (from_to 0 u.flags) ++ (choice_bits ++ byte_bits)) 0 registers_from
      (from_at v x (first_flag u) (0 + length (register_bits 0 u.registers)) (flag_bits 0 (from_to 0 u.flags) ++ (choice_bits ++ byte_bits))
      (let l = registers_long in omega (arith, l))
      (joined v x (flag_bits 0 (from_to 0 u.flags)) (choice_bits ++ byte_bits) (first_flag u) flags_from
      (from_at v x (first_choice u) (first_flag u + length (flag_bits 0 (from_to 0 u.flags))) (choice_bits ++ byte_bits)
      (ap (λ z. first_flag u + z) (sym flags_long))
      (joined v x choice_bits byte_bits (first_choice u) choices_from
      (from_at v x (first_byte u) (first_choice u + length choice_bits) byte_bits (ap (λ z. first_choice u + z) (sym choices_long)) bytes_from)))))))

  pub has_values : HasValues w false (as_cells c) v x
  has_values = record { in_range = reading_in_range u c v; bits = bits }
