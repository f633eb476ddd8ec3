-- Parts of values as they are written, and the reads that go against the file.
use Rattle.std.proofs.Common.{◌≡◌, inl, inr, refl, ap, sym, ◌∙◌, subst, arith, ℕ, zero, suc, ◌+◌, ◌-◌, ◌*◌, ◌^◌, ◌<◌, ◌≤◌, [], ◌∷◌, ◌++◌, List, Option, Some, None, Bool, true, false, map, get_or}
use Rattle.std.specs.Prelude.{◌↔◌, ◌==◌, ◌&&◌, not, All, Contains, filter, length, nat_eq, nat_lt, slice_index, slice_index_or, if◌then◌else◌}
use Rattle.std.proofs.lemmas.Bool.{cases_eq}
use Rattle.std.proofs.lemmas.Bool.Decides.{nat_tests}
use Rattle.std.proofs.lemmas.List.Elements.{Contains-get_or}
use Rattle.std.proofs.lemmas.List.Kept.{AllPairs-filter}
use Rattle.word_spec.specs.Words.{bit_at, word}
use Rattle.word_spec.specs.RowFiles.{from_to}
use Rattle.word_spec.specs.Memory.{byte_in}
use Rattle.word_spec.specs.State.{Written}
use Rattle.machine_spec.specs.StateText.{AreRising, known_or}
use Rattle.bilv_spec.proofs.Pigeons.{truth}
use Rattle.bilv_spec.proofs.PointSteps.{in_filter, in_left, in_map, in_right, there}
use Rattle.bilv_spec.proofs.PointsInGraph.{none_in, of_filter, of_map, split_in}
use Rattle.walk_laws.proofs.CellValues.{words_fit}
use Rattle.walk_laws.proofs.InputBits.{bit_is, flag_is, one_bit_same}
use Rattle.frame_spec.specs.FrameWalk.{Action, Gift, UnrolledProgram}
use Rattle.std.specs.Global.{Vec}
use Rattle.std.specs.List.{list_any}
use Rattle.start_value.specs.declared.layout.Layout.{Layout}
use Rattle.start_value.specs.declared.layout.Layout.TheVariants.{Rv32, Arm}
use Rattle.start_value.specs.Starts.{layout_of, written_of}
use Rattle.frame_terms.specs.PassiveFrames.{gift_part, IsGiftAt}
use Rattle.term_spec.specs.Terms.{TermReading, InRange}
use Rattle.term_spec.specs.ClauseForm.{bits_from}
use Rattle.frame_terms.specs.FrameCells.{Cells, AreFormed, IsRead, read_address}
use Rattle.frame_terms.specs.FrameStarts.{HasValues, part_byte, IsWrittenPart, IsBroken, part_memory, part_registers, part_flag, gift_registers, gives_flag, IsPart}
use Rattle.frame_terms.proofs.PartStarts.{base_same, word_is}
use Rattle.word_gates.specs.Numbers.{input_number}
use Rattle.bit_blast.specs.declared.input_places.InputPlaces.{InputPlaces}
use Rattle.bit_blast.specs.Broken.{is_other}
use Rattle.bit_blast.specs.Laid.{AreFramePlaces}
use Rattle.bit_blast.specs.Places.{HasPart, IsReadingAt, first_of}
use Rattle.bit_blast.specs.ReadBytes.{is_free}
use Rattle.bit_blast.proofs.EntryBytes.{byte_has, byte_same, free_none}
use Rattle.bit_blast.proofs.InputNumbers.{bits_are}
use Rattle.bit_blast.proofs.StartInputs.{map_ranges}
use Rattle.clause_spec.specs.Clauses.{valuation}
use Rattle.frame_spec.specs.FrameQuestions.{asks_head}
use Rattle.bit_blast.proofs.FramePlaces.{at_of_bits}
use Rattle.mem_cells.specs.declared.cells.Celled.{Celled}
use Rattle.mem_cells.specs.FrameViews.{frame_cells_of, frame_of_cells}
use Rattle.question_form.specs.FrameQuestions.{frame_question_of, heads_of_question, is_of_heads}
use Rattle.frame_start.specs.declared.reads.Reads.{Reads}
use Rattle.frame_start.specs.declared.changed.Changed.{Changed}
use Rattle.frame_start.specs.declared.parts.Parts.{Parts}
use Rattle.frame_start.specs.Changes.{AreChanges, changed_flags, changed_registers, flag_among, is_given}
use Rattle.frame_start.specs.Files.{AreWhole, AreWrittenBytes, ForSomeValues, IsWrittenGift, IsWrittenOf, UnderValues, differs, is_free_at}
use Rattle.frame_start.specs.Reads.{AreReadsOf, HaveReads, gift_reads}
use Rattle.frame_start.specs.Segments.{AreGiftsOf, ArePartsOf, IsGiftOf}
use Rattle.frame_start.proofs.ChangedSets.{given_registers}
use Rattle.frame_start.proofs.ChosenSteps.{points_long}

-- ---- reads that go against the file

other_is : (o : Option ℕ) (b : ℕ) → is_other o b ≡ true → (n : ℕ) × (o ≡ Some n) × (b ≡ n → ⊥)
other_is None b h = absurd (let f : false ≡ true = h in cc)
other_is (Some n) b h = (n, refl, (λ e. (let t : (n == b) ≡ true = grind (arith, nat_tests) in let f : false ≡ true = sym (ap not t) ∙ h in absurd (cc))))

is_other_of : (o : Option ℕ) (b n : ℕ) → o ≡ Some n → (b ≡ n → ⊥) → is_other o b ≡ true
is_other_of o b n e h = ap (λ z. is_other z b) e ∙ (let f : (n == b) ≡ false = grind (arith, nat_tests) in ap not f)

module _ (u : UnrolledProgram) (c : Cells) (x : TermReading) (of_head : Bool) where
  from_read : (part : ℕ) → IsWrittenPart of_head part → (xs : List (ℕ × ℕ)) → AreReadsOf c x part xs → (a : ℕ) →
      Contains (map (λ (z : ℕ × ℕ). z.0) (filter (differs u part) xs)) a → IsBroken u of_head c x a
  from_read part h xs are a inside =
      let m = of_map (λ (z : ℕ × ℕ). z.0) (filter (differs u part) xs) a inside in
      let f = of_filter (differs u part) xs m.0 m.1 in
      let r = are.only m.0 f.0 in
      let o = other_is (part_byte u part m.0.0) m.0.1 f.1 in
      (record { part = part; address = r.0 }, o.0, r.1, h, r.2 ∙ m.2, ap (part_byte u part) (sym m.2) ∙ o.1, λ e. o.2 (sym r.3 ∙ e))

  to_read : (part j n a : ℕ) (xs : List (ℕ × ℕ)) → AreReadsOf c x part xs → IsRead c part j → read_address c x j ≡ a → part_byte u part a ≡ Some n →
      (x.base part j ≡ n → ⊥) → Contains (map (λ (z : ℕ × ℕ). z.0) (filter (differs u part) xs)) a
  to_read part j n a xs are inside at e other =
      subst (Contains (map (λ (z : ℕ × ℕ). z.0) (filter (differs u part) xs))) at
      (in_map (λ (z : ℕ × ℕ). z.0) (filter (differs u part) xs) (read_address c x j, x.base part j)
      (in_filter (differs u part) xs (read_address c x j, x.base part j) (are.all j inside)
      (is_other_of (part_byte u part (read_address c x j)) (x.base part j) n (ap (part_byte u part) at ∙ e) other)))

  module _ (r : Reads) (have : HaveReads u c of_head x r) where
    abbrev first : List ℕ
    first = map (λ (z : ℕ × ℕ). z.0) (filter (differs u 0) r.entry.items)

    abbrev second : List ℕ
    second = map (λ (z : ℕ × ℕ). z.0) (filter (differs u 1) r.head.items)

    from_head : (b : Bool) → of_head ≡ b → (a : ℕ) → Contains (map (λ (z : ℕ × ℕ). z.0) (filter (differs u 1) r.head.items)) a → IsBroken u of_head c x a
    from_head true t a h = from_read 1 t r.head.items (have.head t) a h
    from_head false t a h =
        none_in a (subst (λ (z : List (ℕ × ℕ)). Contains (map (λ (z : ℕ × ℕ). z.0) (filter (differs u 1) z)) a) (have.none t) h)

    pub broken_from : (a : ℕ) → Contains (first ++ second) a → IsBroken u of_head c x a
    broken_from a h = elim (split_in first second a h) [
      | inl l ↦ from_read 0 tt r.entry.items have.entry a l
      | inr l ↦ from_head of_head refl a l
    ]

    to_by : (part j n a : ℕ) → IsWrittenPart of_head part → IsRead c part j → read_address c x j ≡ a → part_byte u part a ≡ Some n →
        (x.base part j ≡ n → ⊥) → Contains (first ++ second) a
    to_by zero j n a h inside at e other = in_left first second a (to_read 0 j n a r.entry.items have.entry inside at e other)
    to_by (suc zero) j n a h inside at e other = in_right first second a (to_read 1 j n a r.head.items (have.head h) inside at e other)
    to_by (suc (suc i)) j n a h inside at e other = absurd (cc)

    pub broken_to : (a : ℕ) → IsBroken u of_head c x a → Contains (first ++ second) a
    broken_to a (b, n, inside, h, at, e, other) = to_by b.part b.address n a h inside at e other

pub broken_are : (u : UnrolledProgram) (r : Reads) (one two at : List ℕ) →
    one ≡ map (λ (z : ℕ × ℕ). z.0) (filter (differs u 0) r.entry.items) →
    two ≡ one ++ map (λ (z : ℕ × ℕ). z.0) (filter (differs u 1) r.head.items) → ((a : ℕ) → Contains two a ↔ Contains at a) →
    (c : Cells) (of_head : Bool) (x : TermReading) → HaveReads u c of_head x r → (a : ℕ) → Contains at a ↔ IsBroken u of_head c x a
broken_are u r one two at e f same c of_head x have a = (
  (λ h. broken_from u c x of_head r have a (subst (λ (l : List ℕ). Contains l a) all ((same a).1 h))),
  (λ h. (same a).0 (subst (λ (l : List ℕ). Contains l a) (sym all) (broken_to u c x of_head r have a h))),
)
  where
    all : two ≡ map (λ (z : ℕ × ℕ). z.0) (filter (differs u 0) r.entry.items) ++ map (λ (z : ℕ × ℕ). z.0) (filter (differs u 1) r.head.items)
    all = f ∙ ap (λ z. z ++ map (λ (z : ℕ × ℕ). z.0) (filter (differs u 1) r.head.items)) e

-- ---- bytes that are written

-- a list whose pairs of one first number are equal has each of them first
pub one_of : (xs : List (ℕ × ℕ)) → ((y z : ℕ × ℕ) → Contains xs y → Contains xs z → y.0 ≡ z.0 → y.1 ≡ z.1) → (y : ℕ × ℕ) → Contains xs y →
    byte_in xs y.0 ≡ y.1
one_of [] h y c = none_in y c
one_of (x ∷ xs) h y c = elim (truth (y.0 == x.0)) [
  | inl t ↦ ap (λ z. if z then x.1 else byte_in xs y.0) t ∙ h x y (0, omega arith, refl) c (let e : x.0 ≡ y.0 = grind (arith, nat_tests) in e)
  | inr f ↦ ap (λ z. if z then x.1 else byte_in xs y.0) f ∙ one_of xs (λ a b p q e. h a b (there x xs a p) (there x xs b q) e) y (tail c f)
]
  where
    tail : Contains (x ∷ xs) y → (y.0 == x.0) ≡ false → Contains xs y
    tail (zero, l, e) f = absurd (let t : (y.0 == x.0) ≡ true = (let g : x.0 ≡ y.0 = ap (λ (z : ℕ × ℕ). z.0) e in grind (arith, nat_tests)) in
        let d : true ≡ false = sym t ∙ f in cc)
    tail (suc i, l, e) f = (i, omega arith, e)

pub free_one : (u : UnrolledProgram) (part : ℕ) (reads free : List (ℕ × ℕ)) → free ≡ filter (is_free_at u part) reads →
    ((m : ℕ → ℕ) × ((y : ℕ × ℕ) → Contains reads y → m y.0 ≡ y.1)) → (m : ℕ → ℕ) × ((y : ℕ × ℕ) → Contains free y → m y.0 ≡ y.1)
free_one u part reads free e one =
    (one.0, λ y h. one.1 y (of_filter (is_free_at u part) reads y (subst (λ (l : List (ℕ × ℕ)). Contains l y) e h)).0)

module _ (u : UnrolledProgram) (part : ℕ) (reads free ordered bytes : List (ℕ × ℕ)) (is_free_list : free ≡ filter (is_free_at u part) reads)
    (same : (z : ℕ × ℕ) → Contains free z ↔ Contains ordered z) (rise : AreRising ordered) (some : bytes ≡ filter (λ z. nat_lt 0 z.1) ordered) where
  of_free : (z : ℕ × ℕ) → Contains free z → Contains reads z × (is_free_at u part z ≡ true)
  of_free z h = of_filter (is_free_at u part) reads z (subst (λ (l : List (ℕ × ℕ)). Contains l z) is_free_list h)

  pub written_bytes_are : AreWrittenBytes u part reads bytes
  written_bytes_are = record {
    rise = subst AreRising (sym some) (AllPairs-filter (λ (x y : ℕ × ℕ). x.0 < y.0) (λ (z : ℕ × ℕ). nat_lt 0 z.1) ordered rise);
    only = λ z h. (let f = of_filter (λ (z : ℕ × ℕ). nat_lt 0 z.1) ordered z (subst (λ (l : List (ℕ × ℕ)). Contains l z) some h) in
        let q = of_free z ((same z).1 f.0) in
        let t = f.1 in
        (q.0, free_none (part_byte u part z.0) q.1, grind (arith, nat_tests)));
    all = λ z h e.
        ap (λ (l : List (ℕ × ℕ)). byte_in l z.0) some ∙ byte_same ordered z.0 rise
        ∙ byte_has ordered z.0 z.1 rise ((same z).0 (subst (λ (l : List (ℕ × ℕ)). Contains l z) (sym is_free_list)
        (in_filter (is_free_at u part) reads z h (ap is_free e))));
  }

-- ---- parts

-- the bytes of a part
module _ (u : UnrolledProgram) (heads : Bool) (c : Cells) (formed : AreFormed u heads c) (x : TermReading) (range : InRange x) (part : ℕ) (w : Written)
    (reads bytes : List (ℕ × ℕ)) (are : AreReadsOf c x part reads) (written : AreWrittenBytes u part reads bytes) (bytes_are : w.bytes ≡ bytes)
    (whole : (j n : ℕ) → IsRead c part j → part_byte u part (read_address c x j) ≡ Some n → x.base part j ≡ n) where
  small_at : (j : ℕ) → IsRead c part j → read_address c x j < 2 ^ 32
  small_at j inside = words_fit c.nodes formed.typed formed.words x range 32 _ (formed.addresses j (formed.reads (record { part = part; address = j }) inside).1)

  of_read : (z : ℕ × ℕ) → Contains bytes z → (z.0 < 2 ^ 32) × (1 ≤ z.1) × (z.1 ≤ 255)
  of_read z h =
      let q = written.only z h in
      let r = are.only z q.0 in
      let a = small_at r.0 r.1 in
      let b = range.base part r.0 in
      let e = r.2 in
      let f = r.3 in
      (omega arith, q.2, omega arith)

  gives_at : (j : ℕ) → IsRead c part j → x.base part j ≡ known_or (part_byte u part (read_address c x j)) bytes (read_address c x j)
  gives_at j inside = by (part_byte u part (read_address c x j)) refl
    where
      by : (o : Option ℕ) → part_byte u part (read_address c x j) ≡ o → x.base part j ≡ known_or o bytes (read_address c x j)
      by None e =
          sym (ap (byte_in bytes) (let l = small_at j inside in let s : word 32 (read_address c x j) ≡ read_address c x j = omega arith in s)
          ∙ written.all (read_address c x j, x.base part j) (are.all j inside) e)
      by (Some n) e = whole j n inside e

  pub gives : (j : ℕ) → IsRead c part j → x.base part j ≡ part_memory u part w (read_address c x j)
  gives j inside =
      gives_at j inside
      ∙ ap (λ z. known_or (part_byte u part z) bytes (read_address c x j))
      (let l = small_at j inside in let s : read_address c x j ≡ word 32 (read_address c x j) = omega arith in s)
      ∙ ap (λ (l : List (ℕ × ℕ)). known_or (part_byte u part (word 32 (read_address c x j))) l (read_address c x j)) (sym bytes_are)

  pub bytes_fit : All (λ (b : ℕ × ℕ). (b.0 < 2 ^ 32) × (1 ≤ b.1) × (b.1 ≤ 255)) w.bytes
  bytes_fit =
      subst (All (λ (b : ℕ × ℕ). (b.0 < 2 ^ 32) × (1 ≤ b.1) × (b.1 ≤ 255))) (sym bytes_are)
      (λ i d l. of_read (get_or bytes i d) (Contains-get_or bytes i d l))

  pub bytes_rise : AreRising w.bytes
  bytes_rise = subst AreRising (sym bytes_are) written.rise

  pub bytes_free : All (λ (b : ℕ × ℕ). part_byte u part b.0 ≡ None) w.bytes
  bytes_free =
      subst (All (λ (b : ℕ × ℕ). part_byte u part b.0 ≡ None)) (sym bytes_are)
      (λ i d l. (written.only (get_or bytes i d) (Contains-get_or bytes i d l)).1)

-- the entry's and the head's
module _ (u : UnrolledProgram) (heads : Bool) (c : Cells) (p : InputPlaces) (is : AreFramePlaces u heads c p) (formed : AreFormed u heads c)
    (v : ℕ → Bool) (x : TermReading) (range : InRange x) (at : IsReadingAt p v x) (part : ℕ) (has : HasPart p part)
    (all : part_registers u part ≡ u.registers) (flag : (f : ℕ) → x.flags part f ≡ part_flag u x part f) (w : Written)
    (reads bytes : List (ℕ × ℕ)) (are : AreReadsOf c x part reads) (written : AreWrittenBytes u part reads bytes)
    (of : IsWrittenOf p v part bytes w)
    (whole : (j n : ℕ) → IsRead c part j → part_byte u part (read_address c x j) ≡ Some n → x.base part j ≡ n) where
  registers_are : map (λ q. bits_from v (first_of p part + 32 * q) 32) (from_to 0 p.registers) ≡ map (x.regs part) u.registers
  registers_are =
      sym (ap (map (x.regs part)) is.registers
      ∙ map_ranges (x.regs part) (λ q. bits_from v (first_of p part + 32 * q) 32) p.first_register 0 p.registers (λ q l.
      at.registers part (p.first_register + q) has (omega arith) (omega arith)
      ∙ ap (λ z. input_number v (first_of p part + 32 * z) 32) (let e : p.first_register + q - p.first_register ≡ 0 + q = omega arith in e)
      ∙ sym (bits_are v (first_of p part + 32 * (0 + q)) 32)))

  flag_bit : (f : ℕ) → f < u.flags → bit_at f (bits_from v (first_of p part + p.first_flag) p.flags) ≡ x.flags part f
  flag_bit f l =
      let k : f < p.flags = omega (arith, is.flags) in
      let e = at.flags part f has k ∙ sym (bits_are v (first_of p part + p.first_flag + f) 1) in
      one_bit_same _ _ (let z : bit_at f (bits_from v (first_of p part + p.first_flag) p.flags) < 2 = omega arith in z) (range.flags part f)
      (bit_is v (first_of p part + p.first_flag) p.flags f k ∙ sym (flag_is v (first_of p part + p.first_flag + f)) ∙ sym (ap (λ z. z == 1) e))

  pub part_is : IsPart u c x part w
  part_is = record {
    regs = of.regs ∙ registers_are ∙ ap (map (x.regs part)) (sym all);
    flags = λ f l. ap (bit_at f) of.flags ∙ flag_bit f l ∙ flag f;
    flags_fit = subst (λ (n : ℕ). w.flags < 2 ^ n) (sym is.flags) of.fit;
    bytes = bytes_fit u heads c formed x range part w reads bytes are written of.bytes_are whole;
    bytes_rise = bytes_rise u heads c formed x range part w reads bytes are written of.bytes_are whole;
    unknown = bytes_free u heads c formed x range part w reads bytes are written of.bytes_are whole;
    gives = gives u heads c formed x range part w reads bytes are written of.bytes_are whole;
    choices = of.choices;
  }

-- a gift
module _ (u : UnrolledProgram) (heads : Bool) (c : Cells) (p : InputPlaces) (is : AreFramePlaces u heads c p) (formed : AreFormed u heads c)
    (v : ℕ → Bool) (x : TermReading) (range : InRange x) (at : IsReadingAt p v x) (i : ℕ) (g : Gift) (there : IsGiftAt u i g) (ch : Changed)
    (registers : g.registers ≡ changed_registers ch) (flags : g.flags ≡ changed_flags ch) (w : Written)
    (reads bytes : List (ℕ × ℕ)) (are : AreReadsOf c x (gift_part i) reads) (written : AreWrittenBytes u (gift_part i) reads bytes)
    (of : IsWrittenGift p v (gift_part i) (changed_registers ch) (changed_flags ch) bytes w) where
  none_known : (j n : ℕ) → IsRead c (gift_part i) j → part_byte u (gift_part i) (read_address c x j) ≡ Some n → x.base (gift_part i) j ≡ n
  none_known j n inside e = absurd (let f : None ≡ Some n = e in cc)

  names : filter (is_given p (changed_registers ch)) (from_to 0 32) ≡ part_registers u (gift_part i)
  names =
      given_registers p ch
      ∙ ap (λ (z : List ℕ). filter (λ r. list_any (nat_eq r) (changed_registers ch)) z) (sym is.registers)
      ∙ ap (λ (z : List ℕ). filter (λ r. list_any (nat_eq r) z) u.registers) (sym registers)
      ∙ ap (gift_registers u) (sym there.does)

  flag_is_part : (f : ℕ) → flag_among x (gift_part i) (changed_flags ch) f ≡ part_flag u x (gift_part i) f
  flag_is_part f =
      ap (λ (z : List ℕ). if list_any (nat_eq f) z then x.flags (gift_part i) f else 0) (sym flags)
      ∙ ap (λ (z : Action). if gives_flag z f then x.flags (gift_part i) f else 0) (sym there.does)

  pub gift_part_is : IsPart u c x (gift_part i) w
  gift_part_is = record {
    regs = of.regs x at ∙ ap (map (x.regs (gift_part i))) names;
    flags = λ f l. of.flags_are x at f (omega (arith, is.flags)) ∙ flag_is_part f;
    flags_fit = subst (λ (n : ℕ). w.flags < 2 ^ n) (sym is.flags) of.fit;
    bytes = bytes_fit u heads c formed x range (gift_part i) w reads bytes are written of.bytes_are none_known;
    bytes_rise = bytes_rise u heads c formed x range (gift_part i) w reads bytes are written of.bytes_are none_known;
    unknown = bytes_free u heads c formed x range (gift_part i) w reads bytes are written of.bytes_are none_known;
    gives = gives u heads c formed x range (gift_part i) w reads bytes are written of.bytes_are none_known;
    choices = of.choices;
  }

-- readings with the same values are broken alike
module _ (u : UnrolledProgram) (heads of_head : Bool) (c : Cells) (formed : AreFormed u heads c) (v : ℕ → Bool) (x y : TermReading)
    (hx : HasValues u heads c v x) (hy : HasValues u heads c v y) where
  pub whole_by : ((a : ℕ) → IsBroken u of_head c y a → ⊥) → (part : ℕ) → IsWrittenPart of_head part → (j n : ℕ) → IsRead c part j →
      part_byte u part (read_address c x j) ≡ Some n → x.base part j ≡ n
  whole_by none part h j n inside e = elim (cases_eq (x.base part j) n) [
    | inl same ↦ same
    | inr other ↦ absurd (none (read_address c x j) (
      record { part = part; address = j },
      n,
      inside,
      h,
      sym (word_is u heads c formed v x y hx hy (slice_index c.addresses j) (formed.addresses j (formed.reads (record { part = part; address = j }) inside).1).0),
      e,
      λ q. other (base_same u heads c formed v x y hx hy part j inside ∙ q),
    ))
  ]

-- a layout has few flags
pub few_flags : (form : Layout) → length (layout_of form).flags ≤ 4
few_flags (Rv32 compressed) = omega arith
few_flags (Arm big profile) = omega arith

-- the reads of a gift by its place
pub gift_reads_listed : (lists : List (Vec (ℕ × ℕ))) (i : ℕ) (d : Vec (ℕ × ℕ)) → i < length lists → (slice_index_or lists i d).items ≡ gift_reads lists i
gift_reads_listed [] i d l = absurd (omega arith)
gift_reads_listed (x ∷ lists) zero d l = refl
gift_reads_listed (x ∷ lists) (suc i) d l = gift_reads_listed lists i d (omega arith)

-- the parts of values
module _ (c : Celled) (values : List Bool) (formed : AreFormed (frame_of_cells c) (heads_of_question c.question.now) (frame_cells_of c))
    (p : InputPlaces) (is : AreFramePlaces (frame_of_cells c) (heads_of_question c.question.now) (frame_cells_of c) p) (r : Reads)
    (have : UnderValues c values (λ x. HaveReads (frame_of_cells c) (frame_cells_of c) (is_of_heads c.question.now) x r)) (whole : ForSomeValues c values (AreWhole c)) where
  abbrev of_head : Bool
  of_head = is_of_heads c.question.now

  -- base reads of one address have one byte
  same_byte : (part : ℕ) → IsWrittenPart (is_of_heads c.question.now) part → (xs : List (ℕ × ℕ)) → AreReadsOf (frame_cells_of c) whole.0 part xs →
      (y z : ℕ × ℕ) → Contains xs y → Contains xs z → y.0 ≡ z.0 → y.1 ≡ z.1
  same_byte part h xs are y z a b e =
      let i = are.only y a in
      let j = are.only z b in
      sym i.3 ∙ whole.2.one part i.0 j.0 h i.1 j.1 (i.2 ∙ e ∙ sym j.2) ∙ j.3

  pub entry_one : (m : ℕ → ℕ) × ((y : ℕ × ℕ) → Contains r.entry.items y → m y.0 ≡ y.1)
  entry_one = (byte_in r.entry.items, one_of r.entry.items (same_byte 0 tt r.entry.items (have whole.0 whole.1).entry))

  pub head_one : (m : ℕ → ℕ) × ((y : ℕ × ℕ) → Contains r.head.items y → m y.0 ≡ y.1)
  head_one = by (is_of_heads c.question.now) refl
    where
      by : (b : Bool) → is_of_heads c.question.now ≡ b → (m : ℕ → ℕ) × ((y : ℕ × ℕ) → Contains r.head.items y → m y.0 ≡ y.1)
      by true t = (byte_in r.head.items, one_of r.head.items (same_byte 1 t r.head.items ((have whole.0 whole.1).head t)))
      by false t = ((λ a. 0), (λ y h. none_in y (subst (λ (l : List (ℕ × ℕ)). Contains l y) ((have whole.0 whole.1).none t) h)))

  heads_by : (a b : Bool) → (a && b) ≡ true → a ≡ true
  heads_by true b h = refl
  heads_by false b h = absurd (let e : false ≡ true = h in cc)

  pub gift_one : (i : ℕ) (g : Gift) → IsGiftAt (frame_of_cells c) i g →
      (m : ℕ → ℕ) × ((y : ℕ × ℕ) → Contains (gift_reads r.gifts.items i) y → m y.0 ≡ y.1)
  gift_one i g at = (
    byte_in (gift_reads r.gifts.items i),
    one_of (gift_reads r.gifts.items i) (same_byte (gift_part i) tt (gift_reads r.gifts.items i) ((have whole.0 whole.1).gifts i g at)),
  )

  -- the gift of a place
  pub gift_is_of : (i : ℕ) (g : Gift) → IsGiftAt (frame_of_cells c) i g → (ch : Changed) → g.registers ≡ changed_registers ch → g.flags ≡ changed_flags ch →
      (w : Written) (bytes : List (ℕ × ℕ)) → AreWrittenBytes (frame_of_cells c) (gift_part i) (gift_reads r.gifts.items i) bytes →
      IsWrittenGift p (valuation values) (gift_part i) (changed_registers ch) (changed_flags ch) bytes w → IsGiftOf c values i w
  gift_is_of i g at ch registers flags w bytes written of h there x hx =
      gift_part_is (frame_of_cells c) (heads_of_question c.question.now) (frame_cells_of c) p is formed (valuation values) x hx.in_range
      (at_of_bits (frame_of_cells c) (heads_of_question c.question.now) (frame_cells_of c) p is (valuation values) x hx.in_range hx.bits) i g at ch registers
      flags w (gift_reads r.gifts.items i) bytes ((have x hx).gifts i g at) written of

  -- by the sets of its point
  pub gift_by : (i part : ℕ) → part ≡ gift_part i → (ch : Changed) → AreChanges (frame_of_cells c) i (Some ch) → (w : Written) (bytes : List (ℕ × ℕ)) →
      AreWrittenBytes (frame_of_cells c) part (gift_reads r.gifts.items i) bytes →
      IsWrittenGift p (valuation values) part (changed_registers ch) (changed_flags ch) bytes w → IsGiftOf c values i w
  gift_by i part e ch (g, at, rs, fs) w bytes written of =
      gift_is_of i g at ch rs fs w bytes (subst (λ (q : ℕ). AreWrittenBytes (frame_of_cells c) q (gift_reads r.gifts.items i) bytes) e written)
      (subst (λ (q : ℕ). IsWrittenGift p (valuation values) q (changed_registers ch) (changed_flags ch) bytes w) e of)

  pub parts_are : (parts : Parts) (first second : List (ℕ × ℕ)) → AreWrittenBytes (frame_of_cells c) 0 r.entry.items first →
      AreWrittenBytes (frame_of_cells c) 1 r.head.items second → IsWrittenOf p (valuation values) 0 first (written_of parts.entry) →
      IsWrittenOf p (valuation values) 1 second (written_of parts.head) →
      AreGiftsOf c values (length c.question.now.passive.now.unrolled.now.points.items) parts.gifts.items → ArePartsOf c values parts
  parts_are parts first second written_first written_second of_first of_second gifts x hx =
      let at = at_of_bits (frame_of_cells c) (heads_of_question c.question.now) (frame_cells_of c) p is (valuation values) x hx.in_range hx.bits in
      let none = whole_by (frame_of_cells c) (heads_of_question c.question.now) (is_of_heads c.question.now) (frame_cells_of c) formed (valuation values) x whole.0
      hx whole.1 whole.2.unbroken in
      record {
        at_entry = part_is (frame_of_cells c) (heads_of_question c.question.now) (frame_cells_of c) p is formed (valuation values) x hx.in_range at 0 tt refl
            (λ f. refl) (written_of parts.entry) r.entry.items first (have x hx).entry written_first of_first (none 0 tt);
        at_head = λ t. part_is (frame_of_cells c) (heads_of_question c.question.now) (frame_cells_of c) p is formed (valuation values) x hx.in_range at 1
            (is.head_is ∙ heads_by c.question.now.passive.now.unrolled.now.heads (asks_head (frame_question_of c.question.now)) t) refl (λ f. refl)
            (written_of parts.head) r.head.items second ((have x hx).head t) written_second of_second (none 1 t);
        at_gift = λ i g h. gifts.each i
            (let a = h.place in
            let b = points_long c.question.now.passive.now.unrolled.now c.question.now.passive.now.unrolled.now.points.items in omega arith) g h x hx;
      }
