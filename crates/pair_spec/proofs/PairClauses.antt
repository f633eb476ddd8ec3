-- The clauses of both sides are those of the question about both functions.
use Rattle.std.proofs.Common.{◌≡◌, ap, sym, ◌∙◌, subst, arith, ℕ, ◌+◌, ◌*◌, ◌^◌, ◌≤◌, [], ◌++◌, List, Bool, true, false, length, get_or}
use Rattle.std.specs.Prelude.{All, map, filter}
use Rattle.std.proofs.lemmas.Nat.{mod_below}
use Rattle.std.proofs.lemmas.Option.{slice_get-get_or}
use Rattle.word_spec.specs.RowFiles.{from_to}
use Rattle.clause_spec.specs.Clauses.{Cnf, ExtendsOnceWhere, Satisfies}
use Rattle.bilv_spec.specs.Run.{Program}
use Rattle.bilv_spec.specs.Points.{Point, ArePoints}
use Rattle.bilv_spec.specs.Evidence.{Input, OfRegister, OfFlag, OfChoice, OfByte, IsInput, is_of_byte, AreInputs, Addresses, ComesFrom, AgreeOnFirst, AgreesOn, loads_among}
use Rattle.bilv_spec.specs.Questions.{IsReading}
use Rattle.bilv_spec.proofs.Pigeons.{at_in}
use Rattle.walk_spec.specs.Unrolled.{UnrolledProgram, point_at}
use Rattle.walk_spec.specs.Unrolling.{IsUnrolling}
use Rattle.term_spec.specs.Cells.{Cells}
use Rattle.term_spec.specs.ClauseForm.{inputs, input_list, drawn_places}
use Rattle.walk_spec.specs.Prices.{known_of}
use Rattle.walk_laws.proofs.CellValues.{agree_back}
use Rattle.walk_laws.proofs.InputOrder.{get_of, blocks, block_length}
use Rattle.walk_laws.proofs.InputPlaces.{IsInputOf, place, stands_at, in_list, all_long, range_length}
use Rattle.walk_laws.proofs.InputReadings.{address, comes_to, comes_from, earlier, decided}
use Rattle.walk_laws.proofs.QuestionClauses.{to_input, from_input, byte_inputs, count_append, count_most}
use Rattle.pair_spec.specs.Links.{Link, ComparesAlike, asking}
use Rattle.call_spec.specs.Calls.{PairQuestion}
use Rattle.pair_spec.specs.Pairs.{Readings, IsPairPrice, linked_loads, side_price, links_price}
use Rattle.pair_spec.specs.PairEvidence.{AreOfSide, ComeFrom, AreOfPair, behind}
use Rattle.pair_spec.specs.PairTerms.{SideTerm, SideCells, MakesPairTrue, TellsPair, first_reading, second_reading}
use Rattle.pair_spec.specs.PairLayers.{IsPairSide, ClausesOfPair}
use Rattle.pair_spec.proofs.Asking.{points_of}
use Rattle.pair_spec.proofs.PairPrices as prices
use Rattle.pair_spec.proofs.PairSides as sides
use Rattle.pair_spec.proofs.PairReadings as both

-- the inputs of one side
module _ (p : Program) (k : ℕ) (side : Bool) (links : List Link) (question : PairQuestion) (asked : ℕ → Bool) (u : UnrolledProgram)
    (t : SideTerm) (c : SideCells) (layered : IsPairSide p k side links question asked u t c) where
  abbrev un : IsUnrolling (asking side links p) k u
  un = layered.unrolling

  abbrev points : List Point
  points = map (λ q. q.point) u.points

  abbrev loads : ℕ
  loads = loads_among p points + linked_loads links p points

  abbrev no_reads : Cells
  no_reads = record c.cells { addresses = [] }

  abbrev pub named : List Input
  named = input_list u c.cells

  abbrev pub addresses : Addresses
  addresses = address (asking side links p) k u un c.cells layered.cells.formed

  reads_few : length c.cells.addresses ≤ loads
  reads_few =
      let a = layered.cells.reads in let b = prices.loads_are p k side links question asked u t c layered in
      let d = prices.added_are p k side links question asked u t c layered in omega arith

  to_side : (x : Input) → IsInputOf (asking side links p) k u un c.cells x → IsInput p k loads x
  to_side (OfRegister n b) h = to_input (asking side links p) k u un no_reads (omega arith) (OfRegister n b) h
  to_side (OfFlag f) h = to_input (asking side links p) k u un no_reads (omega arith) (OfFlag f) h
  to_side (OfChoice x b) h =
      let d = to_input (asking side links p) k u un no_reads (omega arith) (OfChoice x b) h in
      ((points_of p (asking side links p).out p.out k x d.0.0, d.0.1), d.1)
  to_side (OfByte j b) h = (let l = h.0 in let m = reads_few in omega arith, h.1)

  from_side : (x : Input) → IsInput p k loads x → is_of_byte x ≡ false → IsInputOf (asking side links p) k u un c.cells x
  from_side (OfRegister n b) h word = from_input (asking side links p) k u un no_reads (omega arith) (OfRegister n b) h word
  from_side (OfFlag f) h word = from_input (asking side links p) k u un no_reads (omega arith) (OfFlag f) h word
  from_side (OfChoice x b) h word =
      from_input (asking side links p) k u un no_reads (omega arith) (OfChoice x b)
      ((points_of p p.out (asking side links p).out k x h.0.0, h.0.1), h.1) word
  from_side (OfByte j b) h word = absurd (let e : true ≡ false = word in cc)

  inputs_are : AreInputs p k loads named
  inputs_are = record {
    only = λ x h. (let q = get_of named x h in to_side x (in_list (asking side links p) k u un c.cells q.0 x q.1).0);
    all = λ x h word. at_in named (place (asking side links p) k u un c.cells x) x (stands_at (asking side links p) k u un c.cells x (from_side x h word));
    whole = λ read i j h l. (let q = get_of named (OfByte read i) h in
        let at = (in_list (asking side links p) k u un c.cells q.0 (OfByte read i) q.1).0 in
        at_in named (place (asking side links p) k u un c.cells (OfByte read j)) (OfByte read j)
        (stands_at (asking side links p) k u un c.cells (OfByte read j) (at.0, l)));
    once = λ i j l m e.
        (let n = slice_get-get_or named i (OfFlag 0) (omega arith) in
        let f = (in_list (asking side links p) k u un c.cells i (get_or named i (OfFlag 0)) n).1 in
        let g = (in_list (asking side links p) k u un c.cells j (get_or named i (OfFlag 0)) (sym e ∙ n)).1 in
        absurd (omega arith));
  }

  points_are : ArePoints p k points
  points_are = record {
    all = λ x h. un.points.all x (points_of p p.out (asking side links p).out k x h);
    only = λ x h. points_of p (asking side links p).out p.out k x (un.points.only x h);
    once = un.points.once;
  }

  -- its bytes are at most the last ones, since without them no input is a bit of a byte
  pub bytes_few : length (filter is_of_byte named) ≤ 8 * length c.cells.addresses
  bytes_few =
      let registers = blocks OfRegister 32 u.registers in
      let flags = map OfFlag (from_to 0 u.flags) in
      let choices = blocks (λ i b. OfChoice (point_at u i).point b) 2 (drawn_places u) in
      let bytes = blocks OfByte 8 (from_to 0 (length c.cells.addresses)) in
      let none = byte_inputs (asking side links p) k u un no_reads (omega arith) in
      let a = count_append registers (flags ++ (choices ++ bytes)) in
      let b = count_append flags (choices ++ bytes) in
      let d = count_append choices bytes in
      let e = count_append registers (flags ++ (choices ++ [])) in
      let f = count_append flags (choices ++ []) in
      let g = count_append choices [] in
      let m = count_most bytes in
      let n = block_length OfByte 8 (from_to 0 (length c.cells.addresses)) in
      let o = range_length 0 (length c.cells.addresses) in
      omega arith

  pub long : length named ≡ inputs u c.cells
  long = all_long (asking side links p) k u un c.cells

  pub of_side : AreOfSide p k links named asked addresses
  of_side = record {
    points = points;
    are_points = points_are;
    are_inputs = inputs_are;
    asks_known = layered.asks_known;
    below = λ r j. mod_below _ (2 ^ 32) (omega arith);
    by_earlier = λ r s n read i e ir it f. earlier (asking side links p) k u un c.cells layered.cells.formed r s n read i e ir it f;
  }

module _ (a b : Program) (k : ℕ) (links : List Link) (question : PairQuestion) (first_asked second_asked : ℕ → Bool) (u w : UnrolledProgram)
    (t x : SideTerm) (c d : SideCells) (alike : All ComparesAlike links) (one : IsPairSide a k false links question first_asked u t c)
    (two : IsPairSide b k true links question second_asked w x d) (cnf : Cnf) (tells : TellsPair u w links question c d cnf) where
  abbrev firsts : List Input
  firsts = named a k false links question first_asked u t c one

  abbrev seconds : List Input
  seconds = named b k true links question second_asked w x d two

  abbrev first_at : Addresses
  first_at = addresses a k false links question first_asked u t c one

  abbrev second_at : Addresses
  second_at = addresses b k true links question second_asked w x d two

  abbrev IsTruePair : Readings → Type 0
  IsTruePair r = both.IsTruePair a b k links question first_asked second_asked u w t x c d alike one two r

  abbrev first_un : IsUnrolling (asking false links a) k u
  first_un = one.unrolling

  abbrev second_un : IsUnrolling (asking true links b) k w
  second_un = two.unrolling

  decides : (r s : Readings) → IsTruePair r → IsReading s.first → IsReading s.second → s.first.state.pc ≡ r.first.state.pc →
      s.second.state.pc ≡ r.second.state.pc → AgreesOn a first_asked s.first.state → AgreesOn b second_asked s.second.state → AgreeOnFirst (length firsts) firsts first_at r.first s.first →
      AgreeOnFirst (length seconds) seconds second_at r.second s.second → IsTruePair s
  decides r s h is si pc other agrees agree first second =
      let m = both.to_made a b k links question first_asked second_asked u w t x c d alike one two r h in
      let ir = both.first_is a b k links question first_asked second_asked u w t x c d alike one two r h in
      let ri = both.second_is a b k links question first_asked second_asked u w t x c d alike one two r h in
      both.from_made a b k links question first_asked second_asked u w t x c d alike one two s is si (pc ∙ m.0) (other ∙ m.1)
      (sides.has_asked a k false links question first_asked u t c one s.first.state agrees)
      (sides.has_asked b k true links question second_asked w x d two s.second.state agree)
      (both.made_same a b k links question first_asked second_asked u w t x c d alike one two _ _ _ _
      (decided (asking false links a) k u first_un c.cells one.cells.formed r.first s.first ir is first)
      (decided (asking true links b) k w second_un d.cells two.cells.formed r.second s.second ri si second) m.2)

  -- values come from these readings
  abbrev Come : (n : ℕ) → (ℕ → Bool) → Type 0
  Come n v = (r : Readings) × ComesFrom firsts first_at v r.first × ComesFrom seconds second_at (behind n v) r.second × IsTruePair r

  comes_true : (v : ℕ → Bool) → Satisfies v cnf.clauses → Come (inputs u c.cells) v
  comes_true v sat =
      let made = tells.extends.only v sat in
      let f = sides.comes_made a k false links question first_asked u t c one v made.first_allowed in
      let s = sides.comes_made b k true links question second_asked w x d two (behind (inputs u c.cells) v) made.second_allowed in
      let r : Readings = record { first = f.0; second = s.0 } in (
        r,
        comes_from (asking false links a) k u first_un c.cells one.cells.formed v r.first f.1 f.4,
        comes_from (asking true links b) k w second_un d.cells two.cells.formed (behind (inputs u c.cells) v) r.second s.1 s.4,
        both.from_made a b k links question first_asked second_asked u w t x c d alike one two r f.1 s.1 f.2 s.2 f.3 s.3
            (both.made_same a b k links question first_asked second_asked u w t x c d alike one two _ _ _ _ f.4 s.4 made),
      )

  makes_true : (v : ℕ → Bool) → Come (inputs u c.cells) v → MakesPairTrue question c d (first_reading u c v) (second_reading u c w d v)
  makes_true v (r, from, come, h) =
      let m = both.to_made a b k links question first_asked second_asked u w t x c d alike one two r h in
      let is = both.first_is a b k links question first_asked second_asked u w t x c d alike one two r h in
      let si = both.second_is a b k links question first_asked second_asked u w t x c d alike one two r h in
      let f = comes_to (asking false links a) k u first_un c.cells one.cells.formed v r.first is from in
      let s = comes_to (asking true links b) k w second_un d.cells two.cells.formed (behind (inputs u c.cells) v) r.second si come in
      both.made_same a b k links question first_asked second_asked u w t x c d alike one two _ _ _ _ (agree_back u _ _ _ f) (agree_back w _ _ _ s) m.2

  extends : ExtendsOnceWhere (inputs u c.cells + inputs w d.cells) cnf (Come (inputs u c.cells))
  extends = record {
    over = tells.extends.over;
    once = tells.extends.once;
    only = comes_true;
    where_true = λ v h. tells.extends.where_true v (makes_true v h);
  }

  extends_named : ExtendsOnceWhere (length firsts + length seconds) cnf (λ v. (r : Readings) × ComeFrom firsts seconds first_at second_at v r × IsTruePair r)
  extends_named =
      let f = long a k false links question first_asked u t c one in
      let s = long b k true links question second_asked w x d two in
      let e = subst (λ (n : ℕ). ExtendsOnceWhere (n + inputs w d.cells) cnf (Come n)) (sym f) extends in
      let g = subst (λ (n : ℕ). ExtendsOnceWhere (length firsts + n) cnf (Come (length firsts))) (sym s) e in
      record {
        over = g.over;
        once = g.once;
        only = λ v sat. (let h = g.only v sat in (h.0, record { of_first = h.1; of_second = h.2 }, h.3));
        where_true = λ v h. g.where_true v (h.0, h.1.of_first, h.1.of_second, h.2);
      }

  abbrev price : ℕ
  price =
      prices.price a k false links question first_asked u t c one + prices.price b k true links question second_asked w x d two + links_price links

  pub price_is : IsPairPrice a b k links price
  price_is = record {
    first_points = map (λ q. q.point) u.points;
    second_points = map (λ q. q.point) w.points;
    first_known = known_of u;
    first_runs = length u.kept;
    second_known = known_of w;
    second_runs = length w.kept;
    are_first = points_are a k false links question first_asked u t c one;
    are_second = points_are b k true links question second_asked w x d two;
    first_known_is = first_un.known_bytes;
    first_runs_are = first_un.kept_runs;
    second_known_is = second_un.known_bytes;
    second_runs_are = second_un.kept_runs;
    price_is = ap (λ z. z + prices.price b k true links question second_asked w x d two + links_price links)
        (prices.price_is a k false links question first_asked u t c one)
        ∙ ap (λ z. side_price links a (map (λ q. q.point) u.points) (known_of u) (length u.kept) + z + links_price links)
        (prices.price_is b k true links question second_asked w x d two);
  }

  pub of_pair : AreOfPair a b k links question cnf
  of_pair =
      let f = long a k false links question first_asked u t c one in
      let s = long b k true links question second_asked w x d two in
      let i = prices.inputs_fit a k false links question first_asked u t c one in
      let j = prices.inputs_fit b k true links question second_asked w x d two in
      let g = prices.gates_fit a k false links question first_asked u t c one in
      let h = prices.gates_fit b k true links question second_asked w x d two in
      let m = bytes_few a k false links question first_asked u t c one in
      let n = bytes_few b k true links question second_asked w x d two in
      let few = tells.few in
      let all = tells.all in
      record {
        first = firsts;
        second = seconds;
        first_asked = first_asked;
        second_asked = second_asked;
        first_address = first_at;
        second_address = second_at;
        of_first = of_side a k false links question first_asked u t c one;
        of_second = of_side b k true links question second_asked w x d two;
        decides = decides;
        extends = extends_named;
        price = price;
        is_price = price_is;
        few_inputs = (omega arith, omega arith);
        few_gates = omega arith;
      }

pub clauses_of_pair : ClausesOfPair
clauses_of_pair a b k links question first_asked second_asked u w t x c d alike one two cnf tells =
    of_pair a b k links question first_asked second_asked u w t x c d alike one two cnf tells
