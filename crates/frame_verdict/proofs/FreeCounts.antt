-- Counts of the inputs of an unrolled frame besides bytes.
use Rattle.std.proofs.Common.{◌≡◌, refl, ap, sym, ◌∙◌, arith, ℕ, zero, suc, ◌+◌, ◌*◌, ◌<◌, ◌≤◌, Bool, true, false, List, [], ◌∷◌, ◌++◌, Some, None, length, map, get_or, inl, inr}
use Rattle.std.specs.Prelude.{◌==◌, ◌||◌, filter, if◌then◌else◌, nat_eq, slice_index_or, sum_by}
use Rattle.std.specs.List.{flat_map, list_any}
use Rattle.std.proofs.lemmas.Bool.{cases_lt}
use Rattle.std.proofs.lemmas.Bool.Decides.{nat_tests}
use Rattle.std.proofs.lemmas.List.{length-map}
use Rattle.std.proofs.lemmas.List.Sums.{sum_by-append, sum_by-cons}
use Rattle.std.proofs.lemmas.Nat.{mod_below}
use Rattle.word_spec.specs.Words.{bit, bit_at}
use Rattle.word_spec.specs.RowFiles.{from_to}
use Rattle.walk_laws.proofs.InputOrder.{block_length, length_append}
use Rattle.walk_laws.proofs.InputPlaces.{range_length}
use Rattle.frame_spec.specs.FrameWalk.{StepsOver, Gift, UnrolledProgram, no_point, point_at}
use Rattle.frame_terms.specs.FrameClauseForm.{RegisterBit, FlagBit, ChoiceBit, drawn_places, flag_bits, gift_bits, head_bits, register_bits}
use Rattle.frame_terms.specs.PassiveFrames.{gift_part}
use Rattle.frame_turns.specs.Raised.{free_inputs}
use Rattle.notes_value.specs.declared.notes.Contract.{Contract}
use Rattle.notes_value.specs.FrameViews.{contract_of, is_in}
use Rattle.program_points.specs.Tables.{stack_at}
use Rattle.start_value.specs.declared.layout.Layout.{Layout}
use Rattle.start_value.specs.declared.layout.Layout.TheVariants.{Rv32, Arm}
use Rattle.start_value.specs.Starts.{layout_of}
use Rattle.question_form.specs.declared.unrolled.Deed.{Deed}
use Rattle.question_form.specs.declared.unrolled.Deed.TheVariants as deeds
use Rattle.question_form.specs.declared.unrolled.Point.{Point}
use Rattle.question_form.specs.declared.unrolled.Unrolled.{Unrolled}
use Rattle.question_form.specs.FrameViews.{action_of, frame_unrolled_of, gift_of, no_contract, points_of, stepped_at, top_of}
use Rattle.question_form.specs.Views.{code_of, no_code}
use Rattle.frame_verdict.specs.FreeInputs.{AreGiven, inputs_at, inputs_below, state_inputs}

-- ---- forms of states

pub few_registers : (form : Layout) → (layout_of form).first + length (layout_of form).registers ≤ 32
few_registers (Rv32 compressed) =
    let e : (layout_of (Rv32 compressed)).first + length (layout_of (Rv32 compressed)).registers ≡ 32 = refl in omega arith
few_registers (Arm big profile) =
    let e : (layout_of (Arm big profile)).first + length (layout_of (Arm big profile)).registers ≡ 15 = refl in omega arith

pub most_registers : (form : Layout) → length (layout_of form).registers ≤ 31
most_registers (Rv32 compressed) = let e : length (layout_of (Rv32 compressed)).registers ≡ 31 = refl in omega arith
most_registers (Arm big profile) = let e : length (layout_of (Arm big profile)).registers ≡ 15 = refl in omega arith

pub few_flags : (form : Layout) → length (layout_of form).flags ≤ 4
few_flags (Rv32 compressed) = let e : length (layout_of (Rv32 compressed)).flags ≡ 0 = refl in omega arith
few_flags (Arm big profile) = let e : length (layout_of (Arm big profile)).flags ≡ 4 = refl in omega arith

-- ---- numbers of a range

range_push : (f k : ℕ) → from_to f (suc k) ≡ from_to f k ++ (f + k) ∷ []
range_push f zero = ap (λ z. z ∷ []) (let e : f ≡ f + 0 = omega arith in e)
range_push f (suc k) = ap (λ z. f ∷ z) (range_push (f + 1) k ∙ ap (λ z. from_to (f + 1) k ++ z ∷ []) (let e : f + 1 + k ≡ f + suc k = omega arith in e))

range_next : (f i : ℕ) → from_to f (i + 1) ≡ from_to f i ++ (f + i) ∷ []
range_next f i = ap (from_to f) (let e : i + 1 ≡ suc i = omega arith in e) ∙ range_push f i

-- how many of them pass a test, with one more
passed_push : (P : ℕ → Bool) (xs : List ℕ) (m : ℕ) → length (filter P (xs ++ m ∷ [])) ≡ length (filter P xs) + bit (P m)
passed_push P [] m = last (P m)
  where
    last : (b : Bool) → length (if b then m ∷ [] else []) ≡ 0 + bit b
    last true = refl
    last false = refl
passed_push P (x ∷ xs) m = by (P x) (passed_push P xs m)
  where
    by : (b : Bool) → length (filter P (xs ++ m ∷ [])) ≡ length (filter P xs) + bit (P m) →
        length (if b then x ∷ filter P (xs ++ m ∷ []) else filter P (xs ++ m ∷ [])) ≡ length (if b then x ∷ filter P xs else filter P xs) + bit (P m)
    by true h = omega arith
    by false h = h

bit_is : (n : ℕ) → n < 2 → bit (n == 1) ≡ n
bit_is zero l = refl
bit_is (suc zero) l = refl
bit_is (suc (suc n)) l = absurd (omega arith)

pub small_bit : (i set : ℕ) → bit_at i set ≤ 1
small_bit i set = let below : bit_at i set < 2 = mod_below _ 2 (omega arith) in omega (arith, below)

pub choice_small : (draws : Bool) (n : ℕ) → n ≡ (if draws then 2 else 0) → n ≤ 2
choice_small true n e = omega arith
choice_small false n e = omega arith

-- the numbers of a range in a set are counted bit by bit
pub counted : (set from i members more : ℕ) → members ≡ length (filter (is_in set) (from_to from i)) → more ≡ members + bit_at (from + i) set →
    more ≡ length (filter (is_in set) (from_to from (i + 1)))
counted set from i members more h e =
    e ∙ ap (λ z. z + bit_at (from + i) set) h
    ∙ ap (λ z. length (filter (is_in set) (from_to from i)) + z) (sym (bit_is (bit_at (from + i) set) (mod_below _ 2 (omega arith))))
    ∙ sym (passed_push (is_in set) (from_to from i) (from + i)) ∙ ap (λ z. length (filter (is_in set) z)) (sym (range_next from i))

-- members of a filtered range
any_outside : (P : ℕ → Bool) (f n r : ℕ) → r < f → list_any (nat_eq r) (filter P (from_to f n)) ≡ false
any_outside P f zero r l = refl
any_outside P f (suc n) r l = by (P f) (any_outside P (f + 1) n r (omega arith))
  where
    other : nat_eq r f ≡ false
    other = grind (arith, nat_tests)

    by : (b : Bool) → list_any (nat_eq r) (filter P (from_to (f + 1) n)) ≡ false →
        list_any (nat_eq r) (if b then f ∷ filter P (from_to (f + 1) n) else filter P (from_to (f + 1) n)) ≡ false
    by true h = ap (λ z. z || list_any (nat_eq r) (filter P (from_to (f + 1) n))) other ∙ h
    by false h = h

any_filter : (P : ℕ → Bool) (f n r : ℕ) → f ≤ r → r < f + n → list_any (nat_eq r) (filter P (from_to f n)) ≡ P r
any_filter P f zero r l m = absurd (omega arith)
any_filter P f (suc n) r l m = elim (cases_lt f r) [
  | inl less ↦ later less (P f) (any_filter P (f + 1) n r (omega arith) (omega arith))
  | inr more ↦ (let e : r ≡ f = omega arith in first e (P f) refl)
]
  where
    later : f < r → (b : Bool) → list_any (nat_eq r) (filter P (from_to (f + 1) n)) ≡ P r →
        list_any (nat_eq r) (if b then f ∷ filter P (from_to (f + 1) n) else filter P (from_to (f + 1) n)) ≡ P r
    later less true h =
        let other : nat_eq r f ≡ false = grind (arith, nat_tests) in
        ap (λ z. z || list_any (nat_eq r) (filter P (from_to (f + 1) n))) other ∙ h
    later less false h = h

    first : r ≡ f → (b : Bool) → P f ≡ b → list_any (nat_eq r) (if b then f ∷ filter P (from_to (f + 1) n) else filter P (from_to (f + 1) n)) ≡ P r
    first e true h =
        let same : nat_eq r f ≡ true = grind (arith, nat_tests) in
        ap (λ z. z || list_any (nat_eq r) (filter P (from_to (f + 1) n))) same ∙ sym h ∙ ap P (sym e)
    first e false h = any_outside P (f + 1) n r (omega arith) ∙ sym h ∙ ap P (sym e)

-- numbers that are among those of a set are those in the set
among_set : (P : ℕ → Bool) (most a n : ℕ) → a + n ≤ most →
    filter (λ r. list_any (nat_eq r) (filter P (from_to 0 most))) (from_to a n) ≡ filter P (from_to a n)
among_set P most a zero l = refl
among_set P most a (suc n) l =
    let Q : ℕ → Bool = λ r. list_any (nat_eq r) (filter P (from_to 0 most)) in
    ap (λ b. if b then a ∷ filter Q (from_to (a + 1) n) else filter Q (from_to (a + 1) n)) (any_filter P 0 most a (omega arith) (omega arith))
    ∙ ap (λ z. if P a then a ∷ z else z) (among_set P most (a + 1) n (omega arith))

-- ---- what is given

none_among : (xs : List ℕ) → filter (λ r. list_any (nat_eq r) []) xs ≡ []
none_among [] = refl
none_among (x ∷ xs) = none_among xs

gift_count : (u : UnrolledProgram) (place : ℕ) (x : Gift) →
    length (gift_bits u place (StepsOver x))
    ≡ 32 * length (filter (λ r. list_any (nat_eq r) x.registers) u.registers) + length (filter (λ f. list_any (nat_eq f) x.flags) (from_to 0 u.flags))
gift_count u place x =
    let registers = filter (λ r. list_any (nat_eq r) x.registers) u.registers in
    let flags = filter (λ f. list_any (nat_eq f) x.flags) (from_to 0 u.flags) in
    length_append (register_bits (gift_part place) registers) (flag_bits (gift_part place) flags)
    ∙ ap (λ z. z + length (flag_bits (gift_part place) flags)) (block_length (RegisterBit (gift_part place)) 32 registers)
    ∙ ap (λ z. 32 * length registers + z) (length-map flags (FlagBit (gift_part place)))

-- the contract of a number, if it is there
stepped_there : (xs : List Contract) (n : ℕ) (d : Contract) → n < length xs → slice_index_or (map contract_of xs) n no_contract ≡ contract_of (get_or xs n d)
stepped_there [] n d l = absurd (omega arith)
stepped_there (x ∷ xs) zero d l = refl
stepped_there (x ∷ xs) (suc n) d l = stepped_there xs n d (omega arith)

stepped_out : (xs : List Contract) (n : ℕ) → length xs ≤ n → slice_index_or (map contract_of xs) n no_contract ≡ no_contract
stepped_out [] n l = refl
stepped_out (x ∷ xs) zero l = absurd (omega arith)
stepped_out (x ∷ xs) (suc n) l = stepped_out xs n (omega arith)

module _ (v : Unrolled) where
  abbrev u : UnrolledProgram
  u = frame_unrolled_of v

  -- nothing is given where no contract is stepped over
  pub given_other : (deed : Deed) → ((n : ℕ) → deed ≡ deeds.Contract n → ⊥) → AreGiven v deed 0
  given_other deeds.Row h place None stack = refl
  given_other deeds.Row h place (Some list) stack = refl
  given_other deeds.Arrival h place list stack = refl
  given_other (deeds.Contract n) h place list stack = absurd (h n refl)

  pub given_out : (n : ℕ) → length v.stepped.now ≤ n → AreGiven v (deeds.Contract n) 0
  given_out n l place list stack =
      let none = stepped_out v.stepped.now n l in
      let a : filter (λ r. list_any (nat_eq r) (stepped_at v n).registers) u.registers ≡ [] =
      ap (λ z. filter (λ r. list_any (nat_eq r) z.registers) u.registers) none ∙ none_among u.registers in
      let b : filter (λ f. list_any (nat_eq f) (stepped_at v n).flags) (from_to 0 u.flags) ≡ [] =
      ap (λ z. filter (λ f. list_any (nat_eq f) z.flags) (from_to 0 u.flags)) none ∙ none_among (from_to 0 u.flags) in
      sym (gift_count u place (gift_of (stepped_at v n) (top_of stack)) ∙ ap (λ z. 32 * length z + length (filter (λ f. list_any (nat_eq f) (stepped_at v n).flags) (from_to 0 u.flags))) a
      ∙ ap (λ (z : List ℕ). 0 + length z) b)

  pub given_there : (n : ℕ) (d : Contract) (from count all registers flags : ℕ) → n < length v.stepped.now → from ≡ (layout_of v.form).first →
      count ≡ length (layout_of v.form).registers → all ≡ length (layout_of v.form).flags →
      registers ≡ length (filter (is_in (get_or v.stepped.now n d).registers) (from_to from count)) →
      flags ≡ length (filter (is_in (get_or v.stepped.now n d).flags) (from_to 0 all)) → AreGiven v (deeds.Contract n) (32 * registers + flags)
  given_there n d from count all registers flags l first many most r g place list stack =
      let x : Contract = get_or v.stepped.now n d in
      let its : stepped_at v n ≡ contract_of x = stepped_there v.stepped.now n d l in
      let few = few_registers v.form in
      let small = few_flags v.form in
      let a : filter (λ r. list_any (nat_eq r) (stepped_at v n).registers) u.registers ≡ filter (is_in x.registers) (from_to from count) =
      ap (λ z. filter (λ r. list_any (nat_eq r) z.registers) u.registers) its
      ∙ among_set (is_in x.registers) 32 (layout_of v.form).first (length (layout_of v.form).registers) few
      ∙ ap (λ z. filter (is_in x.registers) (from_to z (length (layout_of v.form).registers))) (sym first)
      ∙ ap (λ z. filter (is_in x.registers) (from_to from z)) (sym many) in
      let b : filter (λ f. list_any (nat_eq f) (stepped_at v n).flags) (from_to 0 u.flags) ≡ filter (is_in x.flags) (from_to 0 all) =
      ap (λ z. filter (λ f. list_any (nat_eq f) z.flags) (from_to 0 u.flags)) its
      ∙ among_set (is_in x.flags) 4 0 (length (layout_of v.form).flags) (omega arith)
      ∙ ap (λ z. filter (is_in x.flags) (from_to 0 z)) (sym most) in
      sym (gift_count u place (gift_of (stepped_at v n) (top_of stack))
      ∙ ap (λ z. 32 * length z + length (filter (λ f. list_any (nat_eq f) (stepped_at v n).flags) (from_to 0 u.flags))) a
      ∙ ap (λ (z : List ℕ). 32 * length (filter (is_in x.registers) (from_to from count)) + length z) b
      ∙ ap (λ z. 32 * z + length (filter (is_in x.flags) (from_to 0 all))) (sym r) ∙ ap (λ z. 32 * registers + z) (sym g))

  -- ---- points

  pub points_count : (qs : List Point) → length (points_of v qs) ≡ length qs
  points_count [] = refl
  points_count (q ∷ qs) = ap suc (points_count qs)

  draws_at : (qs : List Point) (i : ℕ) (d : Point) → i < length qs → d ≡ get_or qs i d →
      (slice_index_or (points_of v qs) i no_point).draws ≡ (slice_index_or v.codes.items d.code no_code).draws
  draws_at [] i d l e = absurd (omega arith)
  draws_at (q ∷ qs) zero d l e = ap (λ (x : Point). (slice_index_or v.codes.items x.code no_code).draws) (sym e)
  draws_at (q ∷ qs) (suc i) d l e = draws_at qs i d (omega arith) e

  does_at : (qs : List Point) (i : ℕ) (d : Point) → i < length qs → d ≡ get_or qs i d →
      action_of v d.deed (code_of v d).list (stack_at v.frames.items d.stack) ≡ (slice_index_or (points_of v qs) i no_point).does
  does_at [] i d l e = absurd (omega arith)
  does_at (q ∷ qs) zero d l e = ap (λ (x : Point). action_of v x.deed (code_of v x).list (stack_at v.frames.items x.stack)) e
  does_at (q ∷ qs) (suc i) d l e = does_at qs i d (omega arith) e

  -- the inputs of one more point
  pub point_counted : (i : ℕ) (d : Point) (draws : Bool) (inputs choices given more : ℕ) → i < length v.points.items → d ≡ get_or v.points.items i d →
      draws ≡ (slice_index_or v.codes.items d.code no_code).draws → choices ≡ (if draws then 2 else 0) → AreGiven v d.deed given →
      inputs ≡ inputs_below u i → more ≡ inputs + (choices + given) → more ≡ inputs_below u (i + 1)
  point_counted i d draws inputs choices given more l e w c g h m =
      let a : choices ≡ (if (point_at u i).draws then 2 else 0) = c ∙ ap (λ (b : Bool). if b then 2 else 0) (w ∙ sym (draws_at v.points.items i d l e)) in
      let b : given ≡ length (gift_bits u i (point_at u i).does) =
      g i (code_of v d).list (stack_at v.frames.items d.stack) ∙ ap (λ z. length (gift_bits u i z)) (does_at v.points.items i d l e) in
      let s : inputs_below u (i + 1) ≡ inputs_below u i + sum_by (inputs_at u) ((0 + i) ∷ []) =
      ap (sum_by (inputs_at u)) (range_next 0 i) ∙ sum_by-append (inputs_at u) (from_to 0 i) ((0 + i) ∷ []) in
      let o : sum_by (inputs_at u) ((0 + i) ∷ []) ≡ inputs_at u (0 + i) + sum_by (inputs_at u) [] = sum_by-cons (inputs_at u) (0 + i) [] in
      let z : inputs_at u (0 + i) ≡ inputs_at u i = ap (inputs_at u) (let y : 0 + i ≡ i = omega arith in y) in
      let none : sum_by (inputs_at u) [] ≡ 0 = refl in
      omega (arith, a, b, s, o, z, none, h, m)

  pub states_are : (registers flags : ℕ) → registers ≡ length (layout_of v.form).registers → flags ≡ length (layout_of v.form).flags →
      32 * registers + flags ≡ state_inputs u
  states_are registers flags r g =
      let n = range_length (layout_of v.form).first (length (layout_of v.form).registers) in omega (arith, n, r, g)

-- ---- all

module _ (u : UnrolledProgram) where
  places_count : (places : List ℕ) →
      2 * length (filter (λ i. (point_at u i).draws) places) + length (flat_map (λ i. gift_bits u i (point_at u i).does) places) ≡ sum_by (inputs_at u) places
  places_count [] = refl
  places_count (i ∷ places) =
      let rest = places_count places in
      let s = sum_by-cons (inputs_at u) i places in
      let g = length_append (gift_bits u i (point_at u i).does) (flat_map (λ i. gift_bits u i (point_at u i).does) places) in
      let d = drawn ((point_at u i).draws) in
      omega arith
    where
      drawn : (b : Bool) → 2 * length (if b then i ∷ filter (λ i. (point_at u i).draws) places else filter (λ i. (point_at u i).draws) places)
          ≡ (if b then 2 else 0) + 2 * length (filter (λ i. (point_at u i).draws) places)
      drawn true = omega arith
      drawn false = omega arith

  part_count : (part : ℕ) → length (register_bits part u.registers ++ flag_bits part (from_to 0 u.flags)) ≡ state_inputs u
  part_count part =
      length_append (register_bits part u.registers) (flag_bits part (from_to 0 u.flags))
      ∙ ap (λ z. z + length (flag_bits part (from_to 0 u.flags))) (block_length (RegisterBit part) 32 u.registers)
      ∙ ap (λ z. 32 * length u.registers + z) (length-map (from_to 0 u.flags) (FlagBit part) ∙ range_length 0 u.flags)

  head_count : (heads : Bool) → length (head_bits u heads) ≡ (if heads then state_inputs u else 0)
  head_count true = part_count 1
  head_count false = refl

  pub free_count : (heads : Bool) → state_inputs u + (if heads then state_inputs u else 0) + inputs_below u (length u.points) ≡ free_inputs u heads
  free_count heads =
      let choices = flat_map (λ i. map (ChoiceBit i) (from_to 0 2)) (drawn_places u) in
      let gifts = flat_map (λ i. gift_bits u i (point_at u i).does) (from_to 0 (length u.points)) in
      let entry = part_count 0 in
      let own = length_append (register_bits 0 u.registers) (flag_bits 0 (from_to 0 u.flags)) in
      let a = length_append (register_bits 0 u.registers) (flag_bits 0 (from_to 0 u.flags) ++ (head_bits u heads ++ (choices ++ (gifts ++ [])))) in
      let b = length_append (flag_bits 0 (from_to 0 u.flags)) (head_bits u heads ++ (choices ++ (gifts ++ []))) in
      let c = length_append (head_bits u heads) (choices ++ (gifts ++ [])) in
      let d = length_append choices (gifts ++ []) in
      let e = length_append gifts [] in
      let h = head_count heads in
      let w = block_length ChoiceBit 2 (drawn_places u) in
      let p = places_count (from_to 0 (length u.points)) in
      omega arith
