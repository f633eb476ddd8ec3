-- The inputs of the cells of a frame are within its price.
use Rattle.std.proofs.Common.{◌≡◌, refl, ap, ◌∙◌, arith, ℕ, zero, suc, ◌+◌, ◌*◌, ◌<◌, ◌≤◌, [], ◌∷◌, ◌++◌, List, Option, Some, None, Bool, true, false, length}
use Rattle.std.specs.Prelude.{Contains, nat_eq, slice_index_or, map, filter, sum_by, if◌then◌else◌}
use Rattle.std.specs.List.{list_any, flat_map}
use Rattle.std.proofs.lemmas.List.{length-map}
use Rattle.std.proofs.lemmas.List.Sums.{sum_by-cons}
use Rattle.word_spec.specs.RowFiles.{from_to}
use Rattle.machine_spec.specs.Machine.{Row}
use Rattle.bilv_spec.specs.Points.{file_row, row_price}
use Rattle.bilv_spec.specs.PointLaws.{HasLawfulRows}
use Rattle.bilv_spec.proofs.PointSteps.{here, there}
use Rattle.term_spec.specs.Cells.{cell_gates}
use Rattle.walk_spec.specs.Prices.{cell_price}
use Rattle.walk_spec.specs.Unrolling.{row_draws}
use Rattle.walk_laws.proofs.InputOrder.{length_append, block_length}
use Rattle.walk_laws.proofs.InputPlaces.{range_length}
use Rattle.frame_spec.specs.Frames.{Contract, Frame}
use Rattle.frame_spec.specs.FramePoints.{is_cut}
use Rattle.frame_spec.specs.FrameReports.{is_of_byte}
use Rattle.frame_spec.specs.FrameWalk.{Action, Executes, Arrives, StepsOver, UnrolledPoint, UnrolledProgram, no_point, point_at}
use Rattle.frame_spec.specs.FrameUnrolling.{DoesBy, DoesAddress, IsUnrolling}
use Rattle.frame_laws.specs.FramePrices.{loads_of, stores_of, edges_of, known_of, term_price, unrolled_price}
use Rattle.frame_terms.specs.FrameCells.{BaseRead, Cells}
use Rattle.frame_terms.specs.FrameClauseForm.{PartInput, RegisterBit, FlagBit, ChoiceBit, ByteBit, named, register_bits, flag_bits, head_bits, drawn_places, gift_bits, input_list}
use Rattle.frame_terms.specs.FrameLayers.{IsFitting}
use Rattle.frame_terms.proofs.FrameInputs.{below_range, kind, choice_bits, all_gifts, byte_bits, front, list_is, of_front}

filter_few : {X : Type 0} (h : X → Bool) (xs : List X) → length (filter h xs) ≤ length xs
filter_few h [] = omega arith
filter_few h (x ∷ xs) = by (h x) (filter_few h xs)
  where
    by : (b : Bool) → length (filter h xs) ≤ length xs → length (if b then x ∷ filter h xs else filter h xs) ≤ suc (length xs)
    by true e = omega arith
    by false e = omega arith

module _ (u : UnrolledProgram) (fit : IsFitting u) where
  -- the registers and flags of a part
  part_small : (part : ℕ) (registers flags : List ℕ) → length registers ≤ 31 → length flags ≤ 4 →
      length (register_bits part registers ++ flag_bits part flags) ≤ 996
  part_small part registers flags r g =
      let a = length_append (register_bits part registers) (flag_bits part flags) in
      let b = block_length (RegisterBit part) 32 registers in
      let d = length-map flags (FlagBit part) in
      omega arith

  head_small : (b : Bool) → length (head_bits u b) ≤ (if b then 1024 else 0)
  head_small false = omega arith
  head_small true =
      let g = range_length 0 u.flags in let f = fit.flags in
      let a = part_small (suc zero) u.registers (from_to 0 u.flags) fit.registers (omega arith) in omega arith

  gift_small : (i : ℕ) (a : Action) → length (gift_bits u i a) ≤ 996
  gift_small i (Executes list) = omega arith
  gift_small i Arrives = omega arith
  gift_small i (StepsOver x) =
      let r = filter_few (λ r. list_any (nat_eq r) x.registers) u.registers in
      let g = filter_few (λ f. list_any (nat_eq f) x.flags) (from_to 0 u.flags) in
      let m = fit.registers in let n = fit.flags in let k = range_length 0 u.flags in
      part_small (suc (suc i)) (filter (λ r. list_any (nat_eq r) x.registers) u.registers) (filter (λ f. list_any (nat_eq f) x.flags) (from_to 0 u.flags))
      (omega arith) (omega arith)

  -- the inputs of a place
  abbrev choices_at : ℕ → ℕ
  choices_at i = if (point_at u i).draws then 2 else 0

  abbrev gifts_at : ℕ → ℕ
  gifts_at i = length (gift_bits u i (point_at u i).does)

  places_cost : (places : List ℕ) → ((i : ℕ) → Contains places i → choices_at i + gifts_at i ≤ (point_at u i).row) →
      2 * length (filter (λ i. (point_at u i).draws) places) + length (flat_map (λ i. gift_bits u i (point_at u i).does) places)
      ≤ sum_by (λ i. (point_at u i).row) places
  places_cost [] each = omega arith
  places_cost (i ∷ places) each =
      let now = each i (here i places) in
      let rest = places_cost places (λ j h. each j (there i places j h)) in
      let s = sum_by-cons (λ i. (point_at u i).row) i places in
      let g : length (flat_map (λ i. gift_bits u i (point_at u i).does) (i ∷ places))
      ≡ gifts_at i + length (flat_map (λ i. gift_bits u i (point_at u i).does) places) =
      length_append (gift_bits u i (point_at u i).does) (flat_map (λ i. gift_bits u i (point_at u i).does) places) in
      let d : 2 * length (filter (λ i. (point_at u i).draws) (i ∷ places)) ≡ choices_at i + 2 * length (filter (λ i. (point_at u i).draws) places) =
      drawn ((point_at u i).draws) in
      omega arith
    where
      drawn : (b : Bool) → 2 * length (if b then i ∷ filter (λ i. (point_at u i).draws) places else filter (λ i. (point_at u i).draws) places)
          ≡ (if b then 2 else 0) + 2 * length (filter (λ i. (point_at u i).draws) places)
      drawn true = omega arith
      drawn false = omega arith

rows_from : (g : ℕ → ℕ) (qs : List UnrolledPoint) (n : ℕ) → ((i : ℕ) → i < length qs → g (n + i) ≡ (slice_index_or qs i no_point).row) →
    sum_by g (from_to n (length qs)) ≡ sum_by (λ q. q.row) qs
rows_from g [] n same = refl
rows_from g (q ∷ qs) n same =
    let now : g n ≡ q.row = ap g (let z : n ≡ n + 0 = omega arith in z) ∙ same 0 (omega arith) in
    let rest = rows_from g qs (n + 1) (λ i l. ap g (let z : n + 1 + i ≡ n + suc i = omega arith in z) ∙ same (suc i) (omega arith)) in
    let a = sum_by-cons g n (from_to (n + 1) (length qs)) in
    let b = sum_by-cons (λ (q : UnrolledPoint). q.row) q qs in
    omega arith

module _ (f : Frame) (lawful : HasLawfulRows f.program) (contracts : List Contract) (k : ℕ) (u : UnrolledProgram) (un : IsUnrolling f contracts k u)
    (fit : IsFitting u) where
  -- a row costs 64 at least
  row_least : (a : ℕ) (o : Option Row) → file_row f.program a ≡ o → 64 ≤ row_price o
  row_least a None e = omega arith
  row_least a (Some row) e = (lawful a row e).priced.least

  two_most : (b : Bool) → (if b then 2 else 0) ≤ 2
  two_most true = omega arith
  two_most false = omega arith

  -- so a place pays for its inputs
  module _ (i : ℕ) (l : i < length u.points) where
    abbrev q : UnrolledPoint
    q = point_at u i

    by_gift : q.point.contract ≡ true → choices_at u fit i + gifts_at u fit i ≤ q.row
    by_gift e =
        let d : q.draws ≡ false = (un.places i l).counted.draws ∙ ap (λ z. if z then false else row_draws (file_row f.program q.point.at)) e in
        let r : q.row ≡ 1024 = (un.places i l).counted.row ∙ ap (λ z. if z then 1024 else row_price (file_row f.program q.point.at)) e in
        let a : choices_at u fit i ≡ 0 = ap (λ z. if z then 2 else 0) d in
        let g = gift_small u fit i q.does in
        omega arith

    by_row : q.point.contract ≡ false → gifts_at u fit i ≡ 0 → choices_at u fit i + gifts_at u fit i ≤ q.row
    by_row e none =
        let r : q.row ≡ row_price (file_row f.program q.point.at) =
        (un.places i l).counted.row ∙ ap (λ z. if z then 1024 else row_price (file_row f.program q.point.at)) e in
        let m = row_least q.point.at (file_row f.program q.point.at) refl in
        let t = two_most q.draws in
        omega arith

    no_gift : (o : Option Row) → DoesAddress f contracts k u i q o → gifts_at u fit i ≡ 0
    no_gift None d = ap (λ z. length (gift_bits u i z)) d.0
    no_gift (Some row) d = ap (λ z. length (gift_bits u i z)) d.3.lists.1

    by_kind : (contract cut : Bool) → q.point.contract ≡ contract → DoesBy contract cut f contracts k u i q → choices_at u fit i + gifts_at u fit i ≤ q.row
    by_kind true cut e d = by_gift e
    by_kind false true e d = by_row e (ap (λ z. length (gift_bits u i z)) d.0)
    by_kind false false e d = by_row e (no_gift (file_row f.program q.point.at) d)

    place_cost : choices_at u fit i + gifts_at u fit i ≤ q.row
    place_cost = by_kind q.point.contract (is_cut f q.point) refl (un.places i l).does

  places_pay : 2 * length (drawn_places u) + length (flat_map (λ i. gift_bits u i (point_at u i).does) (from_to 0 (length u.points)))
      ≤ sum_by (λ q. q.row) u.points
  places_pay =
      let a = places_cost u fit (from_to 0 (length u.points)) (λ i h. place_cost i (below_range (length u.points) i h)) in
      let b = rows_from (λ i. (point_at u i).row) u.points 0 (λ i l. ap (λ z. (point_at u z).row) (let z : 0 + i ≡ i = omega arith in z)) in
      omega arith

  module _ (heads : Bool) (c : Cells) where
    abbrev bits : List PartInput
    bits = byte_bits u heads c c.reads

    bytes_long : (reads : List BaseRead) → length (byte_bits u heads c reads) ≡ 8 * length reads
    bytes_long [] = refl
    bytes_long (b ∷ reads) =
        let a = length_append (map (ByteBit b.part b.address) (from_to 0 8)) (byte_bits u heads c reads) in
        let d = bytes_long reads in
        let e = length-map (from_to 0 8) (ByteBit b.part b.address) in
        omega arith

    front_small : length (front u heads c) ≤ term_price u heads
    front_small =
        let own = part_small u fit zero u.registers (from_to 0 u.flags) fit.registers
        (let m = range_length 0 u.flags in let n = fit.flags in omega arith) in
        let a1 = length_append (((register_bits zero u.registers ++ flag_bits zero (from_to 0 u.flags)) ++ head_bits u heads) ++ choice_bits u heads c)
        (all_gifts u heads c) in
        let a2 = length_append ((register_bits zero u.registers ++ flag_bits zero (from_to 0 u.flags)) ++ head_bits u heads) (choice_bits u heads c) in
        let a3 = length_append (register_bits zero u.registers ++ flag_bits zero (from_to 0 u.flags)) (head_bits u heads) in
        let b = head_small u fit heads in
        let w = block_length ChoiceBit 2 (drawn_places u) in
        let p = places_pay in
        omega arith

    list_long : length (input_list u heads c) ≡ length (front u heads c) + 8 * length c.reads
    list_long =
        ap (λ (z : List PartInput). length z) (list_is u heads c) ∙ length_append (front u heads c) bits
        ∙ ap (λ z. length (front u heads c) + z) (bytes_long c.reads)

    two_more : (l s : ℕ) → l * (2 + s) ≡ 2 * l + l * s
    two_more l s = grind arith

    times_sum : (l e s : ℕ) → l * (e + 2 * s) ≡ l * e + 2 * (l * s)
    times_sum l e s = grind arith

    module _ (few : length c.reads ≤ loads_of u * (2 + stores_of u)) where
      -- the inputs are within the price
      pub inputs_within : length (input_list u heads c) ≤ unrolled_price u heads
      inputs_within =
          let a = list_long in let b = front_small in let d = two_more (loads_of u) (stores_of u) in
          omega arith

      cells_within : (l s e n : ℕ) → cell_gates l s e n + 8 * (l * (2 + s)) ≤ cell_price l s e n
      cells_within l s e n = let a = times_sum l e s in let b = two_more l s in omega arith

      -- and so are the gates of the cells with the bits of base reads
      pub gates_within : (gates : ℕ) → gates < term_price u heads →
          1 + (gates + cell_gates (loads_of u) (stores_of u) (edges_of u) (known_of u)) + 8 * length c.reads ≤ unrolled_price u heads
      gates_within gates g = let a = cells_within (loads_of u) (stores_of u) (edges_of u) (known_of u) in omega arith

    -- the bits of base reads are the last ones
    not_byte : (y : PartInput) → kind y < 5 → is_of_byte (named u y) ≡ false
    not_byte (RegisterBit zero n b) l = refl
    not_byte (RegisterBit (suc zero) n b) l = refl
    not_byte (RegisterBit (suc (suc i)) n b) l = refl
    not_byte (FlagBit zero g) l = refl
    not_byte (FlagBit (suc zero) g) l = refl
    not_byte (FlagBit (suc (suc i)) g) l = refl
    not_byte (ChoiceBit i b) l = refl
    not_byte (ByteBit part j b) l = absurd (omega arith)

    count_last : (xs ys : List PartInput) → ((y : PartInput) → Contains xs y → kind y < 5) →
        length (filter is_of_byte (map (named u) (xs ++ ys))) ≤ length ys
    count_last [] ys h = let a = filter_few is_of_byte (map (named u) ys) in let b = length-map ys (named u) in omega arith
    count_last (x ∷ xs) ys h =
        let rest = count_last xs ys (λ y d. h y (there x xs y d)) in
        let e : length (filter is_of_byte (map (named u) ((x ∷ xs) ++ ys))) ≡ length (filter is_of_byte (map (named u) (xs ++ ys))) =
        ap (λ z. length (if z then named u x ∷ filter is_of_byte (map (named u) (xs ++ ys)) else filter is_of_byte (map (named u) (xs ++ ys))))
        (not_byte x (h x (here x xs))) in
        omega arith

    pub byte_inputs : length (filter is_of_byte (map (named u) (input_list u heads c))) ≤ 8 * length c.reads
    byte_inputs =
        let a = count_last (front u heads c) bits (of_front u heads c) in
        let b = bytes_long c.reads in
        let e = ap (λ z. length (filter is_of_byte (map (named u) z))) (list_is u heads c) in
        omega arith
