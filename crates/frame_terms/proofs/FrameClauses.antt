-- The clauses of the cells of a question of a frame are those of the question.
use Rattle.std.proofs.Common.{◌≡◌, refl, ap, sym, ◌∙◌, subst, arith, ℕ, zero, suc, ◌%◌, ◌^◌, ◌<◌, ◌≤◌, [], ◌∷◌, List, Option, Some, None, Bool, true, false, length}
use Rattle.std.specs.Prelude.{Contains, ◌==◌, slice_get, slice_index_or, option_map, map, if◌then◌else◌}
use Rattle.std.proofs.lemmas.Nat.{mod_below}
use Rattle.std.proofs.lemmas.List.{length-map}
use Rattle.std.proofs.lemmas.Option.{slice_get-map}
use Rattle.machine_spec.specs.Machine.{Row}
use Rattle.machine_spec.specs.Bil.{Statements}
use Rattle.clause_spec.specs.Clauses.{Cnf, ExtendsOnceWhere, Satisfies}
use Rattle.bilv_spec.specs.Points.{file_row}
use Rattle.bilv_spec.specs.Evidence.{AgreesOn, RowDraws}
use Rattle.bilv_spec.proofs.Pigeons.{at_in, in_at}
use Rattle.bilv_spec.proofs.PointSteps.{in_map}
use Rattle.bilv_spec.proofs.PointsInGraph.{none_in, of_map}
use Rattle.walk_spec.specs.Unrolling.{row_draws}
use Rattle.frame_spec.specs.Frames.{Contract, Frame, contract_at}
use Rattle.frame_spec.specs.FramePoints.{Point, IsPoint, is_cut, has_heads}
use Rattle.frame_spec.specs.FrameQuestions as questions
use Rattle.frame_spec.specs.FrameQuestions.{Reading, IsReading, Question, IsTrueOver, HeadAgrees, EntryPart, GivenPart, IsContractPoint, Input, OfRegister, OfFlag, OfChoice, OfByte, IsInput, input_value}
use Rattle.frame_spec.specs.FrameReports.{is_of_byte, loads_among, AreInputs, ComesFrom, AgreeOnFirst, AreOfQuestion}
use Rattle.frame_spec.specs.FrameWalk.{Executes, StepsOver, Gift, UnrolledPoint, UnrolledProgram, no_point, point_at}
use Rattle.frame_spec.specs.FrameUnrolling.{DoesContract, DoesAddress, DoesBy, IsUnrolling}
use Rattle.frame_laws.specs.RunOfFrame.{HasAsked, IsTrueOfSweepOver}
use Rattle.frame_laws.specs.FramePrices.{loads_of, unrolled_price}
use Rattle.term_spec.specs.Terms.{term_word, term_gates}
use Rattle.term_spec.specs.WalkQuestions.{QuestionTerm}
use Rattle.frame_terms.specs.PassiveFrames.{part_reading, IsGiftAt, NamesMemory}
use Rattle.frame_terms.specs.FrameCells.{Cells, read_address, AreFormed}
use Rattle.frame_terms.specs.FrameClauseForm.{PartInput, RegisterBit, FlagBit, ChoiceBit, ByteBit, bit_of, part_named, named, input_list, MakesTrue, TellsClauses}
use Rattle.frame_terms.specs.FrameLayers.{IsLayered, IsReadingOf, IsFitting, FrameClausesOfQuestion}
use Rattle.frame_laws.proofs.FrameAnswers.{cell_is, head_to, frame_answers_over}
use Rattle.frame_laws.proofs.FramePriceLaw.{frame_price_is_price, loads_are}
use Rattle.frame_terms.proofs.FrameValues.{spot, spot_is, frame_values_give_reading, frame_reading_makes_true}
use Rattle.frame_laws.proofs.WalkPlaces.{a_point}
use Rattle.frame_terms.proofs.PartValues.{frame_terms_agree}
use Rattle.frame_terms.proofs.FrameInputs.{IsPartInput, once_map, listed, in_list, list_once, before}
use Rattle.frame_terms.proofs.FrameReadings.{Agree, of, of_in_range, address, address_same, word_same, gives_filled, same_but_reads, reading_agrees, bits_same, from_bits, input_is}
use Rattle.frame_terms.proofs.FrameInputPrices.{inputs_within, gates_within, byte_inputs}

some_is : {X : Type 0} (a b : X) → Some a ≡ Some b → a ≡ b
some_is a b t = (cc)

module _ {X Y : Type 0} (h : X → Y) (xs : List X) (i : ℕ) where
  -- the element of a list that stands at a place of the mapped list
  mapped_by : (y : Y) (o : Option X) → slice_get xs i ≡ o → option_map h o ≡ Some y → (x : X) × (slice_get xs i ≡ Some x) × (h x ≡ y)
  mapped_by y None s t = absurd (cc)
  mapped_by y (Some x) s t = (x, s, some_is (h x) y t)

  mapped_at : (y : Y) → slice_get (map h xs) i ≡ Some y → (x : X) × (slice_get xs i ≡ Some x) × (h x ≡ y)
  mapped_at y e = mapped_by y (slice_get xs i) refl (sym (slice_get-map h xs i) ∙ e)

  map_at : (x : X) → slice_get xs i ≡ Some x → slice_get (map h xs) i ≡ Some (h x)
  map_at x e = slice_get-map h xs i ∙ ap (option_map h) e

-- a point that draws has a row that does, and is no contract point
drawing : (b : Bool) (o : Option Row) → (if b then false else row_draws o) ≡ true → (b ≡ false) × RowDraws o
drawing true o e = absurd (let c : false ≡ true = e in cc)
drawing false None e = absurd (let c : false ≡ true = e in cc)
drawing false (Some row) e = (refl, e)

draws_row : (o : Option Row) → RowDraws o → row_draws o ≡ true
draws_row None h = absurd h
draws_row (Some row) h = h

gift_is : (a b : Gift) → StepsOver a ≡ StepsOver b → a ≡ b
gift_is a b e = (cc)

place_of : (qs : List UnrolledPoint) (x : Point) (i : ℕ) → slice_get (map (λ q. q.point) qs) i ≡ Some x → (i < length qs) ×
    ((slice_index_or qs i no_point).point ≡ x)
place_of [] x i e = absurd (cc)
place_of (q ∷ qs) x zero e = (omega arith, some_is q.point x e)
place_of (q ∷ qs) x (suc i) e = let r = place_of qs x i e in ((let l = r.0 in omega arith), r.1)

module _ (f : Frame) (contracts : List Contract) (k : ℕ) (u : UnrolledProgram) (un : IsUnrolling f contracts k u) where
  -- what a gift may change is what the contract of its point may
  record IsOfContract (q : Point) (x : Gift) : Type 0 where
    contract : Contract
    is : IsContractPoint f k q contract
    registers : x.registers ≡ contract.registers
    flags : x.flags ≡ contract.flags
    writes : x.writes ≡ contract.writes

  module _ (i : ℕ) (l : i < length u.points) where
    abbrev q : UnrolledPoint
    q = point_at u i

    of_contract : (x : Gift) → q.point.contract ≡ true → q.does ≡ StepsOver x → (o : Option Contract) (stack : List ℕ) →
        contract_at f.stepped q.point.at ≡ o → DoesContract f k u i q o stack → IsOfContract q.point x
    of_contract x e does None stack t d = absurd d
    of_contract x e does (Some y) [] t d = absurd d
    of_contract x e does (Some y) (to ∷ below) t d =
        let its : Gift = record { to = to; writes = y.writes; gives = y.gives; registers = y.registers; flags = y.flags } in
        let same : x ≡ its = gift_is x its (sym does ∙ d.1) in
        record {
          contract = y;
          is = record { point = a_point f contracts k u un i l; contract = e; is = t };
          registers = ap (λ (z : Gift). z.registers) same;
          flags = ap (λ (z : Gift). z.flags) same;
          writes = ap (λ (z : Gift). z.writes) same;
        }

    no_gift : {P : Type 0} (x : Gift) (list : Statements) → q.does ≡ Executes list → q.does ≡ StepsOver x → P
    no_gift x list d e = absurd (let c = sym d ∙ e in cc)

    of_address : (x : Gift) → q.does ≡ StepsOver x → (o : Option Row) → DoesAddress f contracts k u i q o → IsOfContract q.point x
    of_address x does None d = no_gift x _ d.0 does
    of_address x does (Some row) d = no_gift x d.3.lists.0 d.3.lists.1 does

    of_kind : (x : Gift) → q.does ≡ StepsOver x → (contract cut : Bool) → q.point.contract ≡ contract → DoesBy contract cut f contracts k u i q →
        IsOfContract q.point x
    of_kind x does true cut e d = of_contract x e does (contract_at f.stepped q.point.at) q.point.stack refl d
    of_kind x does false true e d = absurd (let c = sym d.0 ∙ does in cc)
    of_kind x does false false e d = of_address x does (file_row f.program q.point.at) d

  gift_of : (i : ℕ) (x : Gift) → IsGiftAt u i x → IsOfContract (point_at u i).point x
  gift_of i x at =
      of_kind i at.place x at.does (point_at u i).point.contract (is_cut f (point_at u i).point) refl (un.places i at.place).does

  -- the place of a point
  record IsPlaceOf (x : Point) (i : ℕ) : Type 0 where
    inside : i < length u.points
    is : (point_at u i).point ≡ x

  find : (x : Point) → IsPoint f k x → (i : ℕ) × IsPlaceOf x i
  find x is =
      let g = in_at (map (λ q. q.point) u.points) x (un.points.all x is) in
      let p = place_of u.points x g.0 g.2 in
      (g.0, record { inside = p.0; is = p.1 })

  -- and the gift of a contract point
  record HasGift (i : ℕ) (x : Contract) : Type 0 where
    gift : Gift
    at : IsGiftAt u i gift
    registers : gift.registers ≡ x.registers
    flags : gift.flags ≡ x.flags

  has_gift : (i : ℕ) → i < length u.points → (x : Contract) (o : Option Contract) (stack : List ℕ) → o ≡ Some x →
      DoesContract f k u i (point_at u i) o stack → HasGift i x
  has_gift i l x None stack e d = absurd d
  has_gift i l x (Some y) [] e d = absurd d
  has_gift i l x (Some y) (to ∷ below) e d =
      let same : y ≡ x = some_is y x e in
      record {
        gift = record { to = to; writes = y.writes; gives = y.gives; registers = y.registers; flags = y.flags };
        at = record { place = l; does = d.1 };
        registers = ap (λ (z : Contract). z.registers) same;
        flags = ap (λ (z : Contract). z.flags) same;
      }

  gift_at : (x : Point) (y : Contract) → IsContractPoint f k x y → (i : ℕ) × IsPlaceOf x i × HasGift i y
  gift_at x y is =
      let g = find x is.point in
      let contract : (point_at u g.0).point.contract ≡ true = ap (λ (z : Point). z.contract) g.1.is ∙ is.contract in
      let d = subst (λ b. DoesBy b (is_cut f (point_at u g.0).point) f contracts k u g.0 (point_at u g.0)) contract (un.places g.0 g.1.inside).does in (
        g.0,
        g.1,
        has_gift g.0 g.1.inside y (contract_at f.stepped (point_at u g.0).point.at) (point_at u g.0).point.stack
            (ap (λ (z : Point). contract_at f.stepped z.at) g.1.is ∙ is.is) d,
      )

  module _ (c : Cells) (formed : AreFormed u (has_heads f) c) (few : length c.addresses ≤ loads_of u) where
    abbrev heads : Bool
    heads = has_heads f

    abbrev list : List PartInput
    list = input_list u (has_heads f) c

    abbrev loads : ℕ
    loads = loads_among f (map (λ q. q.point) u.points)

    -- a bit of the list is an input of the frame
    has_memory : (part : ℕ) → NamesMemory u heads part → questions.HasMemory f k (part_named u part)
    has_memory zero h = tt
    has_memory (suc zero) h = h
    has_memory (suc (suc i)) (x, w, at, inside) =
        let g = gift_of i x at in (g.contract, g.is, λ e. none_in w (subst (λ z. Contains z w) (g.writes ∙ e) inside))

    to_input : (y : PartInput) → IsPartInput u heads c y → IsInput f k loads (named u y)
    to_input (RegisterBit zero n b) h = (sym (un.registers n) ∙ h.0, h.1)
    to_input (RegisterBit (suc zero) n b) h = ((h.0.0, sym (un.registers n) ∙ h.0.1), h.1)
    to_input (RegisterBit (suc (suc i)) n b) ((found, (x, at, inside)), l) =
        let g = gift_of i x at in ((g.contract, g.is, subst (λ z. Contains z n) g.registers inside), l)
    to_input (FlagBit zero n) h = sym (un.flags n) ∙ h
    to_input (FlagBit (suc zero) n) h = (h.0, sym (un.flags n) ∙ h.1)
    to_input (FlagBit (suc (suc i)) n) (found, (x, at, inside)) =
        let g = gift_of i x at in (g.contract, g.is, subst (λ z. Contains z n) g.flags inside)
    to_input (ChoiceBit i b) (d, l) =
        let r = drawing (point_at u i).point.contract (file_row f.program (point_at u i).point.at) (sym (un.places i d.0).counted.draws ∙ d.1) in
        (a_point f contracts k u un i d.0, r.0, r.1, l)
    to_input (ByteBit part j b) h =
        let m = formed.reads (record { part = part; address = j }) h.0 in
        (has_memory part m.0, (let a = m.1 in let e = loads_are f contracts k u un in omega arith), h.1)

    -- and back
    module _ (fit : IsFitting u) where
      record IsBitOf (z : Input) : Type 0 where
        bit : PartInput
        is : IsPartInput u heads c bit
        same : named u bit ≡ z

      from_input : (z : Input) → IsInput f k loads z → is_of_byte z ≡ false → IsBitOf z
      from_input (OfRegister EntryPart n b) h w = record { bit = RegisterBit zero n b; is = (un.registers n ∙ h.0, h.1); same = refl }
      from_input (OfRegister questions.HeadPart n b) h w =
          record { bit = RegisterBit (suc zero) n b; is = ((h.0.0, un.registers n ∙ h.0.1), h.1); same = refl }
      from_input (OfRegister (GivenPart q) n b) ((x, is, inside), l) w =
          let g = gift_at q x is in
          let its : Contains g.2.gift.registers n = subst (λ z. Contains z n) (sym g.2.registers) inside in
          record {
            bit = RegisterBit (suc (suc g.0)) n b;
            is = ((fit.gift_registers g.0 n g.2.gift g.2.at its, (g.2.gift, g.2.at, its)), l);
            same = ap (λ z. OfRegister (GivenPart z) n b) g.1.is;
          }
      from_input (OfFlag EntryPart n) h w = record { bit = FlagBit zero n; is = un.flags n ∙ h; same = refl }
      from_input (OfFlag questions.HeadPart n) h w = record { bit = FlagBit (suc zero) n; is = (h.0, un.flags n ∙ h.1); same = refl }
      from_input (OfFlag (GivenPart q) n) (x, is, inside) w =
          let g = gift_at q x is in
          let its : Contains g.2.gift.flags n = subst (λ z. Contains z n) (sym g.2.flags) inside in
          record {
            bit = FlagBit (suc (suc g.0)) n;
            is = (fit.gift_flags g.0 n g.2.gift g.2.at its, (g.2.gift, g.2.at, its));
            same = ap (λ z. OfFlag (GivenPart z) n) g.1.is;
          }
      from_input (OfChoice q b) (is, plain, row, l) w =
          let g = find q is in
          let place = un.places g.0 g.1.inside in
          let draws : (point_at u g.0).draws ≡ true =
          place.counted.draws
          ∙ ap (λ (z : Point). if z.contract then false else row_draws (file_row f.program z.at)) g.1.is
          ∙ ap (λ z. if z then false else row_draws (file_row f.program q.at)) plain ∙ draws_row (file_row f.program q.at) row in
          record { bit = ChoiceBit g.0 b; is = ((g.1.inside, draws), l); same = ap (λ z. OfChoice z b) g.1.is }
      from_input (OfByte part j b) h w = absurd (let e : true ≡ false = w in cc)

    -- an input is of one bit
    part_back : questions.Part → ℕ
    part_back EntryPart = zero
    part_back questions.HeadPart = suc zero
    part_back (GivenPart q) = suc (suc (spot f contracts k u un q))

    back : Input → PartInput
    back (OfRegister part n b) = RegisterBit (part_back part) n b
    back (OfFlag part n) = FlagBit (part_back part) n
    back (OfChoice q b) = ChoiceBit (spot f contracts k u un q) b
    back (OfByte part j b) = ByteBit (part_back part) j b

    part_back_is : (part : ℕ) → NamesMemory u heads part → part_back (part_named u part) ≡ part
    unfolding part_back
    part_back_is zero h = refl
    part_back_is (suc zero) h = refl
    part_back_is (suc (suc i)) (x, w, at, inside) = ap (λ z. suc (suc z)) (spot_is f contracts k u un i at.place)

    back_is : (y : PartInput) → IsPartInput u heads c y → back (named u y) ≡ y
    unfolding back part_back
    back_is (RegisterBit zero n b) h = refl
    back_is (RegisterBit (suc zero) n b) h = refl
    back_is (RegisterBit (suc (suc i)) n b) ((found, (x, at, inside)), l) =
        ap (λ z. RegisterBit (suc (suc z)) n b) (spot_is f contracts k u un i at.place)
    back_is (FlagBit zero n) h = refl
    back_is (FlagBit (suc zero) n) h = refl
    back_is (FlagBit (suc (suc i)) n) (found, (x, at, inside)) = ap (λ z. FlagBit (suc (suc z)) n) (spot_is f contracts k u un i at.place)
    back_is (ChoiceBit i b) (d, l) = ap (λ z. ChoiceBit z b) (spot_is f contracts k u un i d.0)
    back_is (ByteBit part j b) h = ap (λ z. ByteBit z j b) (part_back_is part (formed.reads (record { part = part; address = j }) h.0).0)

    -- all bits of a byte are in the list
    whole_of : (y : PartInput) → IsPartInput u heads c y → (part : questions.Part) (read i j : ℕ) → named u y ≡ OfByte part read i → j < 8 →
        Contains (map (named u) list) (OfByte part read j)
    whole_of (RegisterBit p n b) h part read i j e l = absurd (cc)
    whole_of (FlagBit p n) h part read i j e l = absurd (cc)
    whole_of (ChoiceBit p b) h part read i j e l = absurd (cc)
    whole_of (ByteBit p r b) h part read i j e l =
        subst (Contains (map (named u) list)) (moved (part_named u p) r b part read i j e)
        (in_map (named u) list (ByteBit p r j) (in_list u heads c (ByteBit p r j) (h.0, l)))
      where
        moved : (p : questions.Part) (r b : ℕ) (part : questions.Part) (read i j : ℕ) → OfByte p r b ≡ OfByte part read i → OfByte p r j ≡ OfByte part read j
        moved p r b part read i j e = ap (λ z. OfByte z r j) (let h : p ≡ part = (cc) in h) ∙ ap (λ z. OfByte part z j) (let h : r ≡ read = (cc) in h)

    inputs_are : IsFitting u → AreInputs f k loads (map (named u) list)
    inputs_are fit = record {
      only = λ z h. (let q = of_map (named u) list z h in subst (IsInput f k loads) q.2 (to_input q.0 (listed u heads c q.0 q.1)));
      all = λ z h w. (let q = from_input fit z h w in
          subst (Contains (map (named u) list)) q.same (in_map (named u) list q.bit (in_list u heads c q.bit q.is)));
      whole = λ part read i j h l. (let q = of_map (named u) list (OfByte part read i) h in
          whole_of q.0 (listed u heads c q.0 q.1) part read i j q.2 l);
      once = once_map (named u) list
          (λ x y p q e. sym (back_is x (listed u heads c x p)) ∙ ap back e ∙ back_is y (listed u heads c y q))
          (list_once u heads c un.registers_rise formed);
    }

module _ (f : Frame) (contracts : List Contract) (k : ℕ) (question : Question) (asked : ℕ → Bool) (u : UnrolledProgram) (t : QuestionTerm) (c : Cells)
    (layered : IsLayered f contracts k question asked u t c) where
  abbrev un : IsUnrolling f contracts k u
  un = layered.unrolling

  abbrev heads' : Bool
  heads' = has_heads f

  abbrev formed : AreFormed u (has_heads f) c
  formed = layered.cells.formed

  abbrev bits : List PartInput
  bits = input_list u (has_heads f) c

  abbrev inputs : List Input
  inputs = map (named u) (input_list u (has_heads f) c)

  bit_at_is : (i : ℕ) (y : PartInput) → slice_get bits i ≡ Some y → IsPartInput u (has_heads f) c y
  bit_at_is i y e = listed u heads' c y (at_in bits i y e)

  -- the question's term has the value of the cells' root
  root_is : (r : Reading) → IsReading r →
      term_word (of u heads' c formed r) c.nodes c.root ≡ term_word (part_reading u r) t.nodes t.root
  root_is r is =
      layered.cells.same (of u heads' c formed r) (of_in_range u heads' c formed r is) (gives_filled u heads' c formed (part_reading u r))
      ∙ frame_terms_agree u heads' 0 t.nodes layered.term.terms.named (of u heads' c formed r) (part_reading u r)
      (same_but_reads u heads' (of u heads' c formed r) (part_reading u r).base) (λ p h. refl) t.root layered.term.root.0

  sweep : (r : Reading) → IsTrueOver f asked k r question → IsTrueOfSweepOver u heads' asked r question
  sweep r h =
      (frame_answers_over f layered.lawful layered.low contracts layered.among k u un asked layered.asks_known layered.asks_literals r question).1 h

  true_root : (r : Reading) → IsTrueOver f asked k r question → term_word (of u heads' c formed r) c.nodes c.root ≡ 1
  true_root r h =
      let s = sweep r h in
      root_is r h.reading
      ∙ (layered.term.means r h.reading s.entry.pc).1 (record { lines = record { link = s.entry.link; requires = s.entry.requires }; ends = s.ends })

  from_root : (r : Reading) → IsReading r → r.state.pc ≡ u.entry → HasAsked u asked r.state.mem → HeadAgrees f asked r question →
      term_word (of u heads' c formed r) c.nodes c.root ≡ 1 → IsTrueOver f asked k r question
  from_root r is pc has agrees e =
      let m = (layered.term.means r is pc).0 (sym (root_is r is) ∙ e) in
      (frame_answers_over f layered.lawful layered.low contracts layered.among k u un asked layered.asks_known layered.asks_literals r question).0 (record {
        reading = is;
        entry = record { state = is.state; pc = pc; link = m.lines.link; requires = m.lines.requires; bytes = has };
        head = head_to f contracts k u un asked layered.asks_known r question agrees;
        ends = m.ends;
      })

  -- the inputs decide it
  first_bits : (n : ℕ) (r s : Reading) → IsReading r → IsReading s → AgreeOnFirst n inputs (address u heads' c formed) r s → (y : PartInput) →
      IsPartInput u heads' c y → (i : ℕ) → i < n → slice_get bits i ≡ Some y →
      bit_of (of u heads' c formed r) y ≡ bit_of (of u heads' c formed s) y
  first_bits n r s ir is first y h i l e =
      sym (input_is u heads' c formed r ir y h) ∙ first i (named u y) l (map_at (named u) bits i y e) ∙ input_is u heads' c formed s is y h

  decided : (r s : Reading) → IsReading r → IsReading s → AgreeOnFirst (length inputs) inputs (address u heads' c formed) r s →
      Agree u heads' c (length c.addresses) (of u heads' c formed r) (of u heads' c formed s)
  decided r s ir is first =
      from_bits u heads' c formed (length c.addresses) (of u heads' c formed r) (of u heads' c formed s) (of_in_range u heads' c formed r ir)
      (of_in_range u heads' c formed s is) (λ y h b. (let q = in_at bits y (in_list u heads' c y h) in
      first_bits (length inputs) r s ir is first y h q.0 (let l = q.1 in let n = length-map bits (named u) in omega arith) q.2))

  decides : (r s : Reading) → IsTrueOver f asked k r question → IsReading s → s.state.pc ≡ r.state.pc → AgreesOn f.program asked s.state →
      HeadAgrees f asked s question → AgreeOnFirst (length inputs) inputs (address u heads' c formed) r s → IsTrueOver f asked k s question
  decides r s h is pc agrees head first =
      from_root s is (pc ∙ (sweep r h).entry.pc)
      (λ a b l e q. (let cell = cell_is f contracts k u un asked layered.asks_known a b l e in agrees a cell.0 l cell.1 q ∙ cell.2)) head
      (sym (word_same u heads' c formed (of u heads' c formed r) (of u heads' c formed s) (decided r s h.reading is first) c.root formed.root.0)
      ∙ true_root r h)

  -- the address of a base read hangs on the inputs before it
  byte_earlier : (r s : Reading) (n : ℕ) (y : PartInput) (part : questions.Part) (read i : ℕ) → slice_get bits n ≡ Some y → named u y ≡ OfByte part read i →
      IsReading r → IsReading s → AgreeOnFirst n inputs (address u heads' c formed) r s →
      address u heads' c formed r part read ≡ address u heads' c formed s part read
  byte_earlier r s n (RegisterBit p m b) part read i e same ir is first = absurd (cc)
  byte_earlier r s n (FlagBit p m) part read i e same ir is first = absurd (cc)
  byte_earlier r s n (ChoiceBit p b) part read i e same ir is first = absurd (cc)
  byte_earlier r s n (ByteBit p j b) part read i e same ir is first =
      let number : read ≡ j = number_of (part_named u p) j b part read i same in
      let its = bit_at_is n (ByteBit p j b) e in
      let l : j < length c.addresses = (formed.reads (record { part = p; address = j }) its.0).1 in
      let a = from_bits u heads' c formed j (of u heads' c formed r) (of u heads' c formed s) (of_in_range u heads' c formed r ir)
      (of_in_range u heads' c formed s is) (λ y h b'. (let q = before u heads' c un.registers_rise formed n p j b e y h b' in
      first_bits n r s ir is first y h q.0 q.1 q.2)) in
      ap (λ z. read_address c (of u heads' c formed r) z % 2 ^ 32) number
      ∙ ap (λ z. z % 2 ^ 32) (address_same u heads' c formed (of u heads' c formed r) (of u heads' c formed s) j l a)
      ∙ ap (λ z. read_address c (of u heads' c formed s) z % 2 ^ 32) (sym number)
    where
      number_of : (p : questions.Part) (j b : ℕ) (part : questions.Part) (read i : ℕ) → OfByte p j b ≡ OfByte part read i → read ≡ j
      number_of p j b part read i t = (cc)

  earlier : (r s : Reading) (n : ℕ) (part : questions.Part) (read i : ℕ) → slice_get inputs n ≡ Some (OfByte part read i) → IsReading r → IsReading s →
      AgreeOnFirst n inputs (address u heads' c formed) r s → address u heads' c formed r part read ≡ address u heads' c formed s part read
  earlier r s n part read i e ir is first =
      let q = mapped_at (named u) bits n (OfByte part read i) e in byte_earlier r s n q.0 part read i q.1 q.2 ir is first

  -- values come from a reading exactly where it has their bits
  comes_from : (v : ℕ → Bool) (r : Reading) → IsReading r → IsReadingOf u heads' c v r → ComesFrom inputs (address u heads' c formed) v r
  comes_from v r is o i z e =
      let q = mapped_at (named u) bits i z e in
      let its = bit_at_is i q.0 q.1 in
      o.bits i q.0 q.1
      ∙ ap (λ w. w == 1) (bits_same u heads' c formed o.reading (of u heads' c formed r) (reading_agrees u heads' c formed v r o) q.0 its)
      ∙ ap (λ w. w == 1) (sym (input_is u heads' c formed r is q.0 its))
      ∙ ap (λ w. input_value (address u heads' c formed) r w == 1) q.2

  reading_of : (v : ℕ → Bool) (r : Reading) → IsReading r → ComesFrom inputs (address u heads' c formed) v r → IsReadingOf u heads' c v r
  reading_of v r is from = record {
    reading = of u heads' c formed r;
    in_range = of_in_range u heads' c formed r is;
    bits = λ i y e. from i (named u y) (map_at (named u) bits i y e) ∙ ap (λ w. w == 1) (input_is u heads' c formed r is y (bit_at_is i y e));
    same = same_but_reads u heads' (of u heads' c formed r) (part_reading u r).base;
    gives = gives_filled u heads' c formed (part_reading u r);
  }

  module _ (cnf : Cnf) (tells : TellsClauses u (has_heads f) c cnf) where
    abbrev Comes : (ℕ → Bool) → Type 0
    Comes v = (r : Reading) × ComesFrom inputs (address u heads' c formed) v r × IsTrueOver f asked k r question

    comes_true : (v : ℕ → Bool) → Satisfies v cnf.clauses → Comes v
    comes_true v sat =
        let q = frame_values_give_reading f contracts k question asked u t c layered cnf tells v sat in
        (q.0, comes_from v q.0 q.2.reading q.1, q.2)

    makes_true : (v : ℕ → Bool) → Comes v → MakesTrue u heads' c v
    makes_true v (r, from, h) =
        frame_reading_makes_true f contracts k question asked u t c layered r h v (reading_of v r h.reading from)

    extends : ExtendsOnceWhere (length bits) cnf Comes
    extends = record {
      over = tells.extends.over;
      once = tells.extends.once;
      only = comes_true;
      where_true = λ v h. tells.extends.where_true v (makes_true v h);
    }

    clauses_of : IsFitting u → AreOfQuestion f k question cnf
    clauses_of fit =
        let long : length inputs ≡ length bits = length-map bits (named u) in
        let within = inputs_within f layered.lawful contracts k u un fit heads' c layered.cells.few_reads in
        let room = layered.term.terms.gates in
        let gates = gates_within f layered.lawful contracts k u un fit heads' c layered.cells.few_reads (term_gates t.nodes) (omega arith) in
        let cells = layered.cells.gates in
        let last = byte_inputs f layered.lawful contracts k u un fit heads' c in
        let vars = tells.few in
        let all = tells.all in
        record {
          points = map (λ q. q.point) u.points;
          are_points = un.points;
          inputs = inputs;
          are_inputs = inputs_are f contracts k u un c formed layered.cells.few fit;
          asked = asked;
          asks_known = layered.asks_known;
          address = address u heads' c formed;
          decide = record {
            below = λ r part j. mod_below _ (2 ^ 32) (omega arith);
            by_earlier = λ r s n part read i e ir is first. earlier r s n part read i e ir is first;
            decides = decides;
          };
          extends = subst (λ (z : ℕ). ExtendsOnceWhere z cnf Comes) (sym long) extends;
          price = unrolled_price u heads';
          is_price = frame_price_is_price f contracts k u un;
          few_inputs = (omega arith, omega arith);
          few_gates = omega arith;
        }

pub frame_clauses_of_question : FrameClausesOfQuestion
frame_clauses_of_question f contracts k question asked u t c layered fit cnf tells = clauses_of f contracts k question asked u t c layered cnf tells fit
