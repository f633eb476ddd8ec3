-- The inputs of an unrolled frame besides bytes are those of its frame.
use Rattle.std.proofs.Common.{◌≡◌, refl, ap, sym, ◌∙◌, subst, arith, ℕ, zero, suc, ◌<◌, List, [], ◌∷◌, Option, Some, None, Bool, true, false, length}
use Rattle.std.specs.Prelude.{Contains, map, slice_get, slice_index_or, if◌then◌else◌}
use Rattle.machine_spec.specs.Machine.{Row}
use Rattle.machine_spec.specs.Bil.{Statements}
use Rattle.bilv_spec.specs.Evidence.{RowDraws}
use Rattle.bilv_spec.specs.Points.{file_row}
use Rattle.bilv_spec.proofs.Pigeons.{in_at}
use Rattle.bilv_spec.proofs.PointSteps.{in_map}
use Rattle.bilv_spec.proofs.PointsInGraph.{none_in, of_map}
use Rattle.walk_spec.specs.Unrolling.{row_draws}
use Rattle.term_spec.specs.Terms.{BaseNode, ConstantNode, TermNode}
use Rattle.term_spec.specs.Cells.{IsOfWords}
use Rattle.frame_spec.specs.Frames.{Contract, Frame, contract_at}
use Rattle.frame_spec.specs.FramePoints.{Point, IsPoint, has_heads, is_cut}
use Rattle.frame_spec.specs.FrameQuestions.{Part, EntryPart, HeadPart, GivenPart, IsContractPoint, Input, OfRegister, OfFlag, OfChoice, OfByte, IsInput}
use Rattle.frame_spec.specs.FrameReports.{AreInputs, is_of_byte}
use Rattle.frame_spec.specs.FrameWalk.{Executes, StepsOver, Gift, UnrolledPoint, UnrolledProgram, no_point, point_at}
use Rattle.frame_spec.specs.FrameUnrolling.{DoesContract, DoesAddress, DoesBy, IsUnrolling}
use Rattle.frame_terms.specs.PassiveFrames.{IsGiftAt, IsNamedBelow}
use Rattle.frame_terms.specs.FrameCells.{AreFormed, Cells}
use Rattle.frame_terms.specs.FrameClauseForm.{PartInput, RegisterBit, FlagBit, ChoiceBit, ByteBit, input_list, named}
use Rattle.frame_terms.specs.FrameLayers.{IsFitting}
use Rattle.frame_laws.proofs.WalkPlaces.{a_point}
use Rattle.frame_terms.proofs.FrameInputs.{IsPartInput, in_list, list_once, listed, once_map}
use Rattle.frame_terms.proofs.FrameValues.{spot, spot_is}

-- cells of the form of cells that read no byte
abbrev pub one_cell : Cells
one_cell = record { nodes = ConstantNode 1 0 ∷ []; addresses = []; reads = []; agrees = []; asked = []; root = 0 }

one_node : (P : TermNode → Type 0) → P (ConstantNode 1 0) → (n : TermNode) → Contains (ConstantNode 1 0 ∷ []) n → P n
one_node P p n (zero, l, e) = subst P e p
one_node P p n (suc i, l, e) = absurd (omega arith)

pub formed : (u : UnrolledProgram) (heads : Bool) → AreFormed u heads one_cell
formed u heads = record {
  typed = (((omega arith, omega arith), omega arith), tt);
  words = one_node IsOfWords tt;
  named = one_node (IsNamedBelow u heads 0) tt;
  bases = λ p j has. absurd (not_base p j has);
  addresses = λ j l. absurd (omega arith);
  early = λ j i l m. absurd (omega arith);
  reads = λ b has. none_in b has;
  rise = λ i j a b l e h. absurd (cc);
  once = λ i j a l e h. absurd (cc);
  agrees = λ a has. none_in a has;
  asked = λ a has. none_in a has;
  root = (omega arith, refl);
}
  where
    not_base : (p j : ℕ) → Contains (ConstantNode 1 0 ∷ []) (BaseNode p j) → ⊥
    not_base p j (zero, l, e) = absurd (cc)
    not_base p j (suc i, l, e) = absurd (omega arith)

-- a point that draws has a row that does, and is no contract point
drawing : (b : Bool) (o : Option Row) → (if b then false else row_draws o) ≡ true → (b ≡ false) × RowDraws o
drawing true o e = absurd (let c : false ≡ true = e in cc)
drawing false None e = absurd (let c : false ≡ true = e in cc)
drawing false (Some row) e = (refl, e)

draws_row : (o : Option Row) → RowDraws o → row_draws o ≡ true
draws_row None h = absurd h
draws_row (Some row) h = h

some_is : {X : Type 0} (a b : X) → Some a ≡ Some b → a ≡ b
some_is a b t = (cc)

gift_is : (a b : Gift) → StepsOver a ≡ StepsOver b → a ≡ b
gift_is a b e = (cc)

place_of : (qs : List UnrolledPoint) (x : Point) (i : ℕ) → slice_get (map (λ q. q.point) qs) i ≡ Some x → (i < length qs) ×
    ((slice_index_or qs i no_point).point ≡ x)
place_of [] x i e = absurd (cc)
place_of (q ∷ qs) x zero e = (omega arith, some_is q.point x e)
place_of (q ∷ qs) x (suc i) e = let r = place_of qs x i e in ((let l = r.0 in omega arith), r.1)

module _ (f : Frame) (contracts : List Contract) (k : ℕ) (u : UnrolledProgram) (un : IsUnrolling f contracts k u) where
  -- what a gift may change is what the contract of its point may
  record IsOfContract (q : Point) (x : Gift) : Type 0 where
    contract : Contract
    is : IsContractPoint f k q contract
    registers : x.registers ≡ contract.registers
    flags : x.flags ≡ contract.flags

  module _ (i : ℕ) (l : i < length u.points) where
    abbrev q : UnrolledPoint
    q = point_at u i

    of_contract : (x : Gift) → q.point.contract ≡ true → q.does ≡ StepsOver x → (o : Option Contract) (stack : List ℕ) →
        contract_at f.stepped q.point.at ≡ o → DoesContract f k u i q o stack → IsOfContract q.point x
    of_contract x e does None stack t d = absurd d
    of_contract x e does (Some y) [] t d = absurd d
    of_contract x e does (Some y) (to ∷ below) t d =
        let its : Gift = record { to = to; writes = y.writes; gives = y.gives; registers = y.registers; flags = y.flags } in
        let same : x ≡ its = gift_is x its (sym does ∙ d.1) in
        record {
          contract = y;
          is = record { point = a_point f contracts k u un i l; contract = e; is = t };
          registers = ap (λ (z : Gift). z.registers) same;
          flags = ap (λ (z : Gift). z.flags) same;
        }

    no_gift : {P : Type 0} (x : Gift) (list : Statements) → q.does ≡ Executes list → q.does ≡ StepsOver x → P
    no_gift x list d e = absurd (let c = sym d ∙ e in cc)

    of_address : (x : Gift) → q.does ≡ StepsOver x → (o : Option Row) → DoesAddress f contracts k u i q o → IsOfContract q.point x
    of_address x does None d = no_gift x _ d.0 does
    of_address x does (Some row) d = no_gift x d.3.lists.0 d.3.lists.1 does

    of_kind : (x : Gift) → q.does ≡ StepsOver x → (contract cut : Bool) → q.point.contract ≡ contract → DoesBy contract cut f contracts k u i q →
        IsOfContract q.point x
    of_kind x does true cut e d = of_contract x e does (contract_at f.stepped q.point.at) q.point.stack refl d
    of_kind x does false true e d = absurd (let c = sym d.0 ∙ does in cc)
    of_kind x does false false e d = of_address x does (file_row f.program q.point.at) d

  gift_of : (i : ℕ) (x : Gift) → IsGiftAt u i x → IsOfContract (point_at u i).point x
  gift_of i x at =
      of_kind i at.place x at.does (point_at u i).point.contract (is_cut f (point_at u i).point) refl (un.places i at.place).does

  -- the place of a point
  record IsPlaceOf (x : Point) (i : ℕ) : Type 0 where
    inside : i < length u.points
    is : (point_at u i).point ≡ x

  find : (x : Point) → IsPoint f k x → (i : ℕ) × IsPlaceOf x i
  find x is =
      let g = in_at (map (λ q. q.point) u.points) x (un.points.all x is) in
      let p = place_of u.points x g.0 g.2 in
      (g.0, record { inside = p.0; is = p.1 })

  -- and the gift of a contract point
  record HasGift (i : ℕ) (x : Contract) : Type 0 where
    gift : Gift
    at : IsGiftAt u i gift
    registers : gift.registers ≡ x.registers
    flags : gift.flags ≡ x.flags

  has_gift : (i : ℕ) → i < length u.points → (x : Contract) (o : Option Contract) (stack : List ℕ) → o ≡ Some x →
      DoesContract f k u i (point_at u i) o stack → HasGift i x
  has_gift i l x None stack e d = absurd d
  has_gift i l x (Some y) [] e d = absurd d
  has_gift i l x (Some y) (to ∷ below) e d =
      let same : y ≡ x = some_is y x e in
      record {
        gift = record { to = to; writes = y.writes; gives = y.gives; registers = y.registers; flags = y.flags };
        at = record { place = l; does = d.1 };
        registers = ap (λ (z : Contract). z.registers) same;
        flags = ap (λ (z : Contract). z.flags) same;
      }

  gift_at : (x : Point) (y : Contract) → IsContractPoint f k x y → (i : ℕ) × IsPlaceOf x i × HasGift i y
  gift_at x y is =
      let g = find x is.point in
      let contract : (point_at u g.0).point.contract ≡ true = ap (λ (z : Point). z.contract) g.1.is ∙ is.contract in
      let d = subst (λ b. DoesBy b (is_cut f (point_at u g.0).point) f contracts k u g.0 (point_at u g.0)) contract (un.places g.0 g.1.inside).does in (
        g.0,
        g.1,
        has_gift g.0 g.1.inside y (contract_at f.stepped (point_at u g.0).point.at) (point_at u g.0).point.stack
            (ap (λ (z : Point). contract_at f.stepped z.at) g.1.is ∙ is.is) d,
      )

  abbrev heads : Bool
  heads = has_heads f

  abbrev list : List PartInput
  list = input_list u (has_heads f) one_cell

  module _ (loads : ℕ) where
    -- a bit of the list is an input of the frame
    to_input : (y : PartInput) → IsPartInput u heads one_cell y → IsInput f k loads (named u y)
    to_input (RegisterBit zero n b) h = (sym (un.registers n) ∙ h.0, h.1)
    to_input (RegisterBit (suc zero) n b) h = ((h.0.0, sym (un.registers n) ∙ h.0.1), h.1)
    to_input (RegisterBit (suc (suc i)) n b) ((found, (x, at, inside)), l) =
        let g = gift_of i x at in ((g.contract, g.is, subst (λ z. Contains z n) g.registers inside), l)
    to_input (FlagBit zero n) h = sym (un.flags n) ∙ h
    to_input (FlagBit (suc zero) n) h = (h.0, sym (un.flags n) ∙ h.1)
    to_input (FlagBit (suc (suc i)) n) (found, (x, at, inside)) =
        let g = gift_of i x at in (g.contract, g.is, subst (λ z. Contains z n) g.flags inside)
    to_input (ChoiceBit i b) (d, l) =
        let r = drawing (point_at u i).point.contract (file_row f.program (point_at u i).point.at) (sym (un.places i d.0).counted.draws ∙ d.1) in
        (a_point f contracts k u un i d.0, r.0, r.1, l)
    to_input (ByteBit part j b) h = none_in (record { part = part; address = j }) h.0

    -- and back
    module _ (fit : IsFitting u) where
      record IsBitOf (z : Input) : Type 0 where
        bit : PartInput
        is : IsPartInput u heads one_cell bit
        same : named u bit ≡ z

      from_input : (z : Input) → IsInput f k loads z → is_of_byte z ≡ false → IsBitOf z
      from_input (OfRegister EntryPart n b) h w = record { bit = RegisterBit zero n b; is = (un.registers n ∙ h.0, h.1); same = refl }
      from_input (OfRegister HeadPart n b) h w =
          record { bit = RegisterBit (suc zero) n b; is = ((h.0.0, un.registers n ∙ h.0.1), h.1); same = refl }
      from_input (OfRegister (GivenPart q) n b) ((x, is, inside), l) w =
          let g = gift_at q x is in
          let its : Contains g.2.gift.registers n = subst (λ z. Contains z n) (sym g.2.registers) inside in
          record {
            bit = RegisterBit (suc (suc g.0)) n b;
            is = ((fit.gift_registers g.0 n g.2.gift g.2.at its, (g.2.gift, g.2.at, its)), l);
            same = ap (λ z. OfRegister (GivenPart z) n b) g.1.is;
          }
      from_input (OfFlag EntryPart n) h w = record { bit = FlagBit zero n; is = un.flags n ∙ h; same = refl }
      from_input (OfFlag HeadPart n) h w = record { bit = FlagBit (suc zero) n; is = (h.0, un.flags n ∙ h.1); same = refl }
      from_input (OfFlag (GivenPart q) n) (x, is, inside) w =
          let g = gift_at q x is in
          let its : Contains g.2.gift.flags n = subst (λ z. Contains z n) (sym g.2.flags) inside in
          record {
            bit = FlagBit (suc (suc g.0)) n;
            is = (fit.gift_flags g.0 n g.2.gift g.2.at its, (g.2.gift, g.2.at, its));
            same = ap (λ z. OfFlag (GivenPart z) n) g.1.is;
          }
      from_input (OfChoice q b) (is, plain, row, l) w =
          let g = find q is in
          let place = un.places g.0 g.1.inside in
          let draws : (point_at u g.0).draws ≡ true =
          place.counted.draws
          ∙ ap (λ (z : Point). if z.contract then false else row_draws (file_row f.program z.at)) g.1.is
          ∙ ap (λ z. if z then false else row_draws (file_row f.program q.at)) plain ∙ draws_row (file_row f.program q.at) row in
          record { bit = ChoiceBit g.0 b; is = ((g.1.inside, draws), l); same = ap (λ z. OfChoice z b) g.1.is }
      from_input (OfByte part j b) h w = absurd (let e : true ≡ false = w in cc)

    -- an input is of one bit
    part_back : Part → ℕ
    part_back EntryPart = zero
    part_back HeadPart = suc zero
    part_back (GivenPart q) = suc (suc (spot f contracts k u un q))

    back : Input → PartInput
    back (OfRegister part n b) = RegisterBit (part_back part) n b
    back (OfFlag part n) = FlagBit (part_back part) n
    back (OfChoice q b) = ChoiceBit (spot f contracts k u un q) b
    back (OfByte part j b) = ByteBit (part_back part) j b

    back_is : (y : PartInput) → IsPartInput u heads one_cell y → back (named u y) ≡ y
    unfolding back part_back
    back_is (RegisterBit zero n b) h = refl
    back_is (RegisterBit (suc zero) n b) h = refl
    back_is (RegisterBit (suc (suc i)) n b) ((found, (x, at, inside)), l) =
        ap (λ z. RegisterBit (suc (suc z)) n b) (spot_is f contracts k u un i at.place)
    back_is (FlagBit zero n) h = refl
    back_is (FlagBit (suc zero) n) h = refl
    back_is (FlagBit (suc (suc i)) n) (found, (x, at, inside)) = ap (λ z. FlagBit (suc (suc z)) n) (spot_is f contracts k u un i at.place)
    back_is (ChoiceBit i b) (d, l) = ap (λ z. ChoiceBit z b) (spot_is f contracts k u un i d.0)
    back_is (ByteBit part j b) h = none_in (record { part = part; address = j }) h.0

    -- none is of a byte
    no_byte : (y : PartInput) → IsPartInput u heads one_cell y → (part : Part) (read i : ℕ) → named u y ≡ OfByte part read i → ⊥
    no_byte (RegisterBit p n b) h part read i e = absurd (cc)
    no_byte (FlagBit p n) h part read i e = absurd (cc)
    no_byte (ChoiceBit p b) h part read i e = absurd (cc)
    no_byte (ByteBit p r b) h part read i e = none_in (record { part = p; address = r }) h.0

    pub inputs_are : IsFitting u → AreInputs f k loads (map (named u) list)
    inputs_are fit = record {
      only = λ z h. (let q = of_map (named u) list z h in subst (IsInput f k loads) q.2 (to_input q.0 (listed u heads one_cell q.0 q.1)));
      all = λ z h w. (let q = from_input fit z h w in
          subst (Contains (map (named u) list)) q.same (in_map (named u) list q.bit (in_list u heads one_cell q.bit q.is)));
      whole = λ part read i j h l. (let q = of_map (named u) list (OfByte part read i) h in
          absurd (no_byte q.0 (listed u heads one_cell q.0 q.1) part read i q.2));
      once = once_map (named u) list
          (λ x y p q e. sym (back_is x (listed u heads one_cell x p)) ∙ ap back e ∙ back_is y (listed u heads one_cell y q))
          (list_once u heads one_cell un.registers_rise (formed u heads));
    }
