-- The words of cells by data that have the inputs of the parts, and their base reads.
use Rattle.std.proofs.Common.{◌≡◌, refl, ap, sym, ◌∙◌, subst, arith, ℕ, zero, suc, ◌%◌, ◌^◌, ◌<◌, [], ◌∷◌, List, Some, Bool, true, false, length, map, get_or}
use Rattle.std.proofs.lemmas.List.Elements.{Contains-get_or}
use Rattle.std.specs.Prelude.{Contains, ◌==◌, filter, slice_get, slice_index, slice_index_or, if◌then◌else◌}
use Rattle.std.proofs.lemmas.Bool.Decides.{nat_tests}
use Rattle.bilv_spec.proofs.PointSteps.{in_filter, in_map}
use Rattle.bilv_spec.proofs.PointsInGraph.{of_filter, of_map}
use Rattle.frame_spec.specs.FrameWalk.{Gift, UnrolledProgram}
use Rattle.clause_spec.specs.Clauses.{valuation}
use Rattle.start_value.specs.declared.start.Start.{Start}
use Rattle.term_spec.specs.Terms.{TermReading, InRange, HasWidth}
use Rattle.walk_laws.proofs.CellValues.{words_fit}
use Rattle.frame_terms.specs.PassiveFrames.{gift_part, IsGiftAt, NamesRegister, NamesFlag, NamesMemory}
use Rattle.frame_terms.specs.FrameCells as frames
use Rattle.frame_terms.specs.FrameCells.{Cells, AreFormed, read_address}
use Rattle.frame_terms.specs.FrameStarts.{HasValues}
use Rattle.frame_terms.proofs.FrameReadings.{Agree, word_same}
use Rattle.term_dag.specs.declared.nodes.Term.{Term}
use Rattle.term_dag.specs.declared.values.Reading.{Reading}
use Rattle.term_dag.specs.Readings.{AreWords, part_in, reading_of}
use Rattle.term_dag.proofs.Bytes.{in_range}
use Rattle.mem_cells.specs.declared.cells.BaseRead.{BaseRead}
use Rattle.mem_cells.specs.declared.cells.Celled.{Celled}
use Rattle.mem_cells.specs.FrameViews.{frame_cells_of, frame_of_cells, read_of}
use Rattle.question_form.specs.FrameQuestions.{heads_of_question, is_of_heads}
use Rattle.bit_blast.specs.declared.input_places.InputPlaces.{InputPlaces}
use Rattle.bit_blast.specs.Laid.{AreFramePlaces}
use Rattle.bit_blast.specs.Places.{IsDrawn, IsReadingAt}
use Rattle.bit_blast.specs.ReadBytes.{address_word}
use Rattle.bit_blast.specs.Steps.{choice_at}
use Rattle.bit_blast.proofs.FramePlaces.{at_of_bits, drawn_there, flag_of, number_of, read_there}
use Rattle.bit_blast.proofs.StartInputs.{mapped_get}
use Rattle.bit_blast.proofs.StepChoices.{any_default}
use Rattle.frame_start.specs.Inputs.{HasPartAt, both_reading}
use Rattle.frame_start.proofs.PartInputs.{choice_is}
use Rattle.frame_start.specs.Changes.{AreOthers, HasGiftAt}
use Rattle.frame_start.specs.Reads.{AreGiftReads, AreGiftsReads, AreLong, AreReadsOf, HaveReads, gift_reads, is_of, pair_at}
use Rattle.frame_start.proofs.ChangedSets.{given_of}
use Rattle.frame_start.proofs.ChosenSteps.{points_long}
use Rattle.frame_start.proofs.GiftInputs.{listed, part_at, part_first}
use Rattle.frame_terms.proofs.FrameInputs.{found_in}
use Rattle.frame_start.specs.declared.reads.Reads.{Reads}

small : (a b : ℕ) → b < 256 → a ≡ b → a % 256 ≡ b
small a b l e = omega arith

module _ (u : UnrolledProgram) (heads : Bool) (c : Cells) (p : InputPlaces) (is : AreFramePlaces u heads c p) (formed : AreFormed u heads c) where
  -- data that have the inputs of both parts agree with the reading
  module _ (x : TermReading) (range : InRange x) (y : TermReading) (of : (q : ℕ) → Reading)
      (regs : (q n : ℕ) → y.regs q n ≡ (reading_of (of q)).regs 0 n) (flags : (q n : ℕ) → y.flags q n ≡ (reading_of (of q)).flags 0 n)
      (base : (q n : ℕ) → y.base q n ≡ (reading_of (of q)).base 0 n) (entry : HasPartAt p x 0 (length c.addresses) (of 0))
      (head : HasPartAt p x 1 (length c.addresses) (of 1))
      (gifts : (i : ℕ) (g : Gift) → IsGiftAt u i g → HasGiftAt p x (gift_part i) (length c.addresses) g.registers g.flags (of (suc (suc i))))
      (choice : (i k : ℕ) → IsDrawn p i k → y.choice i ≡ x.choice i) where
    register_same : (q n : ℕ) → NamesRegister u heads q n → y.regs q n ≡ x.regs q n
    register_same zero n h = let r = number_of u heads c p is n h in regs 0 n ∙ entry.regs n tt r.0 r.1
    register_same (suc zero) n h = let r = number_of u heads c p is n h.1 in regs 1 n ∙ head.regs n (is.head_is ∙ h.0) r.0 r.1
    register_same (suc (suc i)) n (named, (g, at, inside)) =
        let r = number_of u heads c p is n named in
        regs (suc (suc i)) n ∙ (gifts i g at).regs n (given_of p g.registers n r.0 r.1 (found_in g.registers n inside))

    flag_same : (q n : ℕ) → NamesFlag u heads q n → y.flags q n ≡ x.flags q n
    flag_same zero n h = flags 0 n ∙ entry.flags n tt (flag_of u heads c p is n h)
    flag_same (suc zero) n h = flags 1 n ∙ head.flags n (is.head_is ∙ h.0) (flag_of u heads c p is n h.1)
    flag_same (suc (suc i)) n (named, (g, at, inside)) =
        flags (suc (suc i)) n ∙ (gifts i g at).flags n (flag_of u heads c p is n named) (found_in g.flags n inside)

    base_same : (q j : ℕ) → frames.IsRead c q j → j < length c.addresses → y.base q j ≡ x.base q j
    base_same zero j inside l = let r = read_there u heads c p is formed 0 j inside in base 0 j ∙ small _ (x.base 0 j) (range.base 0 j) (entry.base j r.0 l r.1)
    base_same (suc zero) j inside l = let r = read_there u heads c p is formed 1 j inside in base 1 j ∙ small _ (x.base 1 j) (range.base 1 j) (head.base j r.0 l r.1)
    base_same (suc (suc i)) j inside l = by (formed.reads (record { part = suc (suc i); address = j }) inside).0
      where
        by : NamesMemory u heads (suc (suc i)) → y.base (suc (suc i)) j ≡ x.base (suc (suc i)) j
        by (g, w, at, has) =
            let r = read_there u heads c p is formed (suc (suc i)) j inside in
            base (suc (suc i)) j ∙ small _ (x.base (suc (suc i)) j) (range.base (suc (suc i)) j) ((gifts i g at).base j r.0 l r.1)

    pub agrees : Agree u heads c (length c.addresses) y x
    agrees = record {
      same = record {
        regs = register_same;
        flags = flag_same;
        choice = λ i d. (let k = drawn_there u heads c p is i d in choice i k.0 k.1);
        base = λ q j h l. absurd (omega arith);
      };
      base = λ b inside l. base_same b.part b.address inside l;
    }

  -- so do the data of all parts
  pub parts_agree : (v : ℕ → Bool) (x : TermReading) → HasValues u heads c v x → (first head : Reading) (others : List Reading) →
      ((z : TermReading) → InRange z → IsReadingAt p v z → HasPartAt p z 0 (length c.addresses) first) → slice_get others 0 ≡ Some head →
      ((z : TermReading) → InRange z → IsReadingAt p v z → HasPartAt p z 1 (length c.addresses) head) →
      ((i : ℕ) (g : Gift) → IsGiftAt u i g → (r : Reading) × (slice_get others (suc i) ≡ Some r)
      × ((z : TermReading) → InRange z → IsReadingAt p v z → HasGiftAt p z (gift_part i) (length c.addresses) g.registers g.flags r)) →
      ((i : ℕ) → i < length p.drawn.items → slice_index first.choices.items i ≡ choice_at p v i) →
      Agree u heads c (length c.addresses) (both_reading first others) x
  parts_agree v x hx first head others entry at_head is_head gifts each =
      let at = at_of_bits u heads c p is v x hx.in_range hx.bits in
      agrees x hx.in_range (both_reading first others) (part_in first others) (λ q n. refl) (λ q n. refl) (λ q n. refl)
      (subst (HasPartAt p x 0 (length c.addresses)) (sym (part_first first others)) (entry x hx.in_range at))
      (subst (HasPartAt p x 1 (length c.addresses)) (sym (part_at first others 0 head at_head)) (is_head x hx.in_range at))
      (λ i g h. (let q = gifts i g h in
      subst (HasGiftAt p x (gift_part i) (length c.addresses) g.registers g.flags) (sym (part_at first others (suc i) q.0 q.1)) (q.2 x hx.in_range at)))
      (choice_is v x p 0 hx.in_range at first.choices.items each)

  -- and the bytes of a part are its base reads
  pub part_bytes : (v : ℕ → Bool) (x : TermReading) → HasValues u heads c v x → (part : ℕ) (r : Reading) →
      ((z : TermReading) → InRange z → IsReadingAt p v z → HasPartAt p z part (length c.addresses) r) → (j : ℕ) → frames.IsRead c part j →
      slice_index r.base.items j ≡ x.base part j
  part_bytes v x hx part r has j inside =
      let q = read_there u heads c p is formed part j inside in
      (has x hx.in_range (at_of_bits u heads c p is v x hx.in_range hx.bits)).base j q.0
      (formed.reads (record { part = part; address = j }) inside).1 q.1

  pub gift_bytes : (v : ℕ → Bool) (x : TermReading) → HasValues u heads c v x → (part : ℕ) (registers flags : List ℕ) (r : Reading) →
      ((z : TermReading) → InRange z → IsReadingAt p v z → HasGiftAt p z part (length c.addresses) registers flags r) → (j : ℕ) → frames.IsRead c part j →
      slice_index r.base.items j ≡ x.base part j
  gift_bytes v x hx part registers flags r has j inside =
      let q = read_there u heads c p is formed part j inside in
      (has x hx.in_range (at_of_bits u heads c p is v x hx.in_range hx.bits)).base j q.0
      (formed.reads (record { part = part; address = j }) inside).1 q.1

pub both_in_range : (first : Reading) (others : List Reading) → InRange (both_reading first others)
both_in_range first others = record {
  regs = λ q n. (in_range (part_in first others q)).regs 0 n;
  flags = λ q f. (in_range (part_in first others q)).flags 0 f;
  mem = λ q a. (in_range (part_in first others q)).mem 0 a;
  choice = (in_range first).choice;
  base = λ q j. (in_range (part_in first others q)).base 0 j;
}

-- the base reads of a part
part_is : (a b : ℕ) → (a == b) ≡ true → a ≡ b
part_is a b h = grind (arith, nat_tests)

is_part : (a b : ℕ) → a ≡ b → (a == b) ≡ true
is_part a b h = grind (arith, nat_tests)

pub placed : (reads : List BaseRead) (n : ℕ) → ((b : BaseRead) → Contains reads b → b.address < n) → (i : ℕ) (d : BaseRead) → i < length reads →
    (get_or reads i d).address < n
placed reads n h i d l = h (get_or reads i d) (Contains-get_or reads i d l)

map_count : (xs : List Term) → length (map (λ (t : Term). t.0) xs) ≡ length xs
map_count [] = refl
map_count (x ∷ xs) = let e = map_count xs in omega arith

module _ (c : Celled) (formed : AreFormed (frame_of_cells c) (heads_of_question c.question.now) (frame_cells_of c)) where
  abbrev k : Cells
  k = frame_cells_of c

  pub placed_reads : (b : BaseRead) → Contains c.reads.items b → b.address < length c.addresses.items
  placed_reads b h =
      let l = (formed.reads (read_of b) (in_map read_of c.reads.items b h)).1 in let e = map_count c.addresses.items in omega arith

  address_is : (j : ℕ) (d : Term) → j < length c.addresses.items → (slice_index_or c.addresses.items j d).0 ≡ slice_index (frame_cells_of c).addresses j
  address_is j d l = ap (λ (t : Term). t.0) (any_default c.addresses.items j d (record { 0 = 0 }) l) ∙ sym (mapped_get c.addresses.items j)

  width_at : (j : ℕ) → j < length c.addresses.items → HasWidth c.dag 32 (slice_index (frame_cells_of c).addresses j)
  width_at j l = formed.addresses j (let e = map_count c.addresses.items in omega arith)

  module _ (y : TermReading) (range : InRange y) (ws : List ℕ) (words : AreWords y c.dag ws) where
    pub within : (j : ℕ) (d : Term) → j < length c.addresses.items → (slice_index_or c.addresses.items j d).0 < length ws
    within j d l = let a = address_is j d l in let b = (width_at j l).0 in let e = words.count in omega arith

    word_at : (j : ℕ) → j < length c.addresses.items → address_word c.addresses.items ws j ≡ read_address (frame_cells_of c) y j
    word_at j l =
        ap (slice_index ws) (address_is j (record { 0 = 0 }) l) ∙ words.each (slice_index (frame_cells_of c).addresses j) (width_at j l).0

    pub small_address : (j : ℕ) → j < length c.addresses.items → address_word c.addresses.items ws j < 2 ^ 32
    small_address j l =
        subst (λ (z : ℕ). z < 2 ^ 32) (sym (word_at j l)) (words_fit c.dag formed.typed formed.words y range 32 _ (width_at j l))

    module _ (x : TermReading) (agree : Agree (frame_of_cells c) (heads_of_question c.question.now) (frame_cells_of c)
        (length (frame_cells_of c).addresses) y x) where
      read_word : (j : ℕ) → j < length c.addresses.items → address_word c.addresses.items ws j ≡ read_address (frame_cells_of c) x j
      read_word j l =
          word_at j l
          ∙ word_same (frame_of_cells c) (heads_of_question c.question.now) (frame_cells_of c) formed y x agree (slice_index (frame_cells_of c).addresses j)
          (width_at j l).0

      module _ (part : ℕ) (base : List ℕ) (bytes : (j : ℕ) → frames.IsRead (frame_cells_of c) part j → slice_index base j ≡ x.base part j) where
        as_read : (b : BaseRead) → Contains c.reads.items b → b.part ≡ part → frames.IsRead (frame_cells_of c) part b.address
        as_read b h e =
            subst (λ z. Contains (frame_cells_of c).reads (record { part = z; address = b.address })) e (in_map read_of c.reads.items b h)

        pub reads_are : AreReadsOf (frame_cells_of c) x part (map (pair_at c.addresses.items ws base) (filter (is_of part) c.reads.items))
        reads_are = record {
          only = λ z h. (let m = of_map (pair_at c.addresses.items ws base) (filter (is_of part) c.reads.items) z h in
              let f = of_filter (is_of part) c.reads.items m.0 m.1 in
              let r = as_read m.0 f.0 (part_is m.0.part part f.1) in (
                m.0.address,
                r,
                sym (read_word m.0.address (placed_reads m.0 f.0)) ∙ ap (λ (q : ℕ × ℕ). q.0) m.2,
                sym (bytes m.0.address r) ∙ ap (λ (q : ℕ × ℕ). q.1) m.2,
              ));
          all = λ j inside. (let m = of_map read_of c.reads.items (record { part = part; address = j }) inside in
              let a : m.0.address ≡ j = ap (λ (q : frames.BaseRead). q.address) m.2 in
              let t : m.0.part ≡ part = ap (λ (q : frames.BaseRead). q.part) m.2 in
              let l : j < length c.addresses.items = subst (λ (z : ℕ). z < length c.addresses.items) a (placed_reads m.0 m.1) in
              subst (Contains (map (pair_at c.addresses.items ws base) (filter (is_of part) c.reads.items)))
              (ap (λ (z : ℕ). (address_word c.addresses.items ws z, slice_index base z)) a
              ∙ ap (λ (z : ℕ). (z, slice_index base j)) (read_word j l) ∙ ap (λ (z : ℕ). (read_address (frame_cells_of c) x j, z)) (bytes j inside))
              (in_map (pair_at c.addresses.items ws base) (filter (is_of part) c.reads.items) m.0
              (in_filter (is_of part) c.reads.items m.0 m.1 (is_part m.0.part part t))));
        }

  -- those of all parts
  module _ (p : InputPlaces) (is : AreFramePlaces (frame_of_cells c) (heads_of_question c.question.now) (frame_cells_of c) p) (values : List Bool)
      (n : ℕ) (count : n ≡ length c.addresses.items) (first head : Reading) (others : List Reading)
      (entry : (z : TermReading) → InRange z → IsReadingAt p (valuation values) z → HasPartAt p z 0 n first)
      (is_head : (z : TermReading) → InRange z → IsReadingAt p (valuation values) z → HasPartAt p z 1 n head) (gifts : List Start)
      (are : AreOthers (frame_of_cells c) p values n (length c.question.now.passive.now.unrolled.now.points.items) head gifts others)
      (each : (i : ℕ) → i < length p.drawn.items → slice_index first.choices.items i ≡ choice_at p (valuation values) i)
      (ws : List ℕ) (words : AreWords (both_reading first others) c.dag ws) where
    as_many : n ≡ length (frame_cells_of c).addresses
    as_many = count ∙ sym (map_count c.addresses.items)

    gift_at : (i : ℕ) (g : Gift) → IsGiftAt (frame_of_cells c) i g → (r : Reading) × (slice_get others (suc i) ≡ Some r)
        × ((z : TermReading) → InRange z → IsReadingAt p (valuation values) z →
        HasGiftAt p z (gift_part i) (length (frame_cells_of c).addresses) g.registers g.flags r)
    gift_at i g at =
        let l : i < length c.question.now.passive.now.unrolled.now.points.items
        = (let a = at.place in
        let b = points_long c.question.now.passive.now.unrolled.now c.question.now.passive.now.unrolled.now.points.items in omega arith) in
        let q = are.each i l g at in
        (q.0, q.1, λ z r h. subst (λ (m : ℕ). HasGiftAt p z (gift_part i) m g.registers g.flags q.0) as_many (q.2.has z r h))

    module _ (x : TermReading) (hx : HasValues (frame_of_cells c) (heads_of_question c.question.now) (frame_cells_of c) (valuation values) x) where
      first_has : (z : TermReading) → InRange z → IsReadingAt p (valuation values) z → HasPartAt p z 0 (length (frame_cells_of c).addresses) first
      first_has z r at = subst (λ (m : ℕ). HasPartAt p z 0 m first) as_many (entry z r at)

      head_has : (z : TermReading) → InRange z → IsReadingAt p (valuation values) z → HasPartAt p z 1 (length (frame_cells_of c).addresses) head
      head_has z r at = subst (λ (m : ℕ). HasPartAt p z 1 m head) as_many (is_head z r at)

      agree : Agree (frame_of_cells c) (heads_of_question c.question.now) (frame_cells_of c) (length (frame_cells_of c).addresses)
          (both_reading first others) x
      agree =
          parts_agree (frame_of_cells c) (heads_of_question c.question.now) (frame_cells_of c) p is formed (valuation values) x hx first head others first_has
          are.first head_has gift_at each

      bytes : (part : ℕ) (r : Reading) →
          ((z : TermReading) → InRange z → IsReadingAt p (valuation values) z → HasPartAt p z part (length (frame_cells_of c).addresses) r) → (j : ℕ) →
          frames.IsRead (frame_cells_of c) part j → slice_index r.base.items j ≡ x.base part j
      bytes part r has =
          part_bytes (frame_of_cells c) (heads_of_question c.question.now) (frame_cells_of c) p is formed (valuation values) x hx part r has

      head_by : (b : Bool) (xs : List (ℕ × ℕ)) → xs ≡ (if b then map (pair_at c.addresses.items ws head.base.items) (filter (is_of 1) c.reads.items) else []) →
          (b ≡ true → AreReadsOf (frame_cells_of c) x 1 xs) × (b ≡ false → xs ≡ [])
      head_by true xs e = (
        (λ t. subst (AreReadsOf (frame_cells_of c) x 1) (sym e)
            (reads_are (both_reading first others) (both_in_range first others) ws words x agree 1 head.base.items (bytes 1 head head_has))),
        (λ t. absurd (let f : true ≡ false = t in cc)),
      )
      head_by false xs e = ((λ t. absurd (let f : false ≡ true = t in cc)), (λ t. e))

      gift_reads_are : (i : ℕ) (g : Gift) → IsGiftAt (frame_of_cells c) i g → (xs : List (ℕ × ℕ)) →
          ((d : Reading) → xs ≡ map (pair_at c.addresses.items ws (slice_index_or others (suc i) d).base.items) (filter (is_of (gift_part i)) c.reads.items)) →
          AreReadsOf (frame_cells_of c) x (gift_part i) xs
      gift_reads_are i g at xs e =
          let q = gift_at i g at in
          subst (AreReadsOf (frame_cells_of c) x (gift_part i))
          (sym (e head ∙ ap (λ (z : Reading). map (pair_at c.addresses.items ws z.base.items) (filter (is_of (gift_part i)) c.reads.items))
          (listed others (suc i) head q.0 q.1)))
          (reads_are (both_reading first others) (both_in_range first others) ws words x agree (gift_part i) q.0.base.items
          (gift_bytes (frame_of_cells c) (heads_of_question c.question.now) (frame_cells_of c) p is formed (valuation values) x hx (gift_part i) g.registers
          g.flags q.0 q.2))

      pub have_reads : (r : Reads) → r.entry.items ≡ map (pair_at c.addresses.items ws first.base.items) (filter (is_of 0) c.reads.items) →
          ((d : Reading) → r.head.items ≡ (if is_of_heads c.question.now
          then map (pair_at c.addresses.items ws (slice_index_or others 0 d).base.items) (filter (is_of 1) c.reads.items) else [])) →
          AreGiftsReads c ws others (length c.question.now.passive.now.unrolled.now.points.items) r.gifts.items →
          HaveReads (frame_of_cells c) (frame_cells_of c) (is_of_heads c.question.now) x r
      have_reads r e h k =
          let own = h head ∙ ap (λ (z : Reading). if is_of_heads c.question.now then map (pair_at c.addresses.items ws z.base.items)
          (filter (is_of 1) c.reads.items) else []) (listed others 0 head head are.first) in
          record {
            entry = subst (AreReadsOf (frame_cells_of c) x 0) (sym e)
                (reads_are (both_reading first others) (both_in_range first others) ws words x agree 0 first.base.items (bytes 0 first first_has));
            head = (head_by (is_of_heads c.question.now) r.head.items own).0;
            none = (head_by (is_of_heads c.question.now) r.head.items own).1;
            gifts = λ i g at. gift_reads_are i g at (gift_reads r.gifts.items i) (λ d. k.each i
                (let a = at.place in
                let b = points_long c.question.now.passive.now.unrolled.now c.question.now.passive.now.unrolled.now.points.items in omega arith) g d at);
          }

-- data of all parts have a byte for each address
pub long_are : (c : Celled) (p : InputPlaces) (values : List Bool) (n : ℕ) → n ≡ length c.addresses.items → (head : Reading) (gifts : List Start)
    (others : List Reading) → length head.base.items ≡ n →
    AreOthers (frame_of_cells c) p values n (length c.question.now.passive.now.unrolled.now.points.items) head gifts others → AreLong c others
long_are c p values n e head gifts others base are = record {
  count = are.count;
  head = λ d. ap (λ (r : Reading). length r.base.items) (listed others 0 d head are.first) ∙ base ∙ e;
  gifts = λ i g d at. (let q = are.each i
      (let a = at.place in
      let b = points_long c.question.now.passive.now.unrolled.now c.question.now.passive.now.unrolled.now.points.items in omega arith) g at in
      ap (λ (r : Reading). length r.base.items) (listed others (suc i) d q.0 q.1) ∙ q.2.base ∙ e);
}

-- the base reads of the gift of a place by its data
pub gift_reads_by : (c : Celled) (words : List ℕ) (others : List Reading) (place part n : ℕ) → part ≡ gift_part place → n ≡ suc place → (base : List ℕ) →
    ((d : Reading) → base ≡ (slice_index_or others n d).base.items) → (items : List (ℕ × ℕ)) →
    items ≡ map (pair_at c.addresses.items words base) (filter (is_of part) c.reads.items) → AreGiftReads c words others place items
gift_reads_by c words others place part n e s base own items h g d at =
    h ∙ ap (λ (q : ℕ). map (pair_at c.addresses.items words base) (filter (is_of q) c.reads.items)) e
    ∙ ap (λ (z : List ℕ). map (pair_at c.addresses.items words z) (filter (is_of (gift_part place)) c.reads.items))
    (own d ∙ ap (λ (q : ℕ). (slice_index_or others q d).base.items) s)
