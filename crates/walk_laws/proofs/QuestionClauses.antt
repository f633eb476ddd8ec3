-- The clauses of the cells of a question are those of the question.
use Rattle.std.proofs.Common.{◌≡◌, refl, ap, sym, ◌∙◌, subst, arith, ℕ, zero, suc, ◌+◌, ◌*◌, ◌^◌, ◌<◌, ◌≤◌, [], ◌∷◌, ◌++◌, List, Option, Some, None, Bool, true, false, length, get_or}
use Rattle.std.specs.Prelude.{Contains, ◌&&◌, ◌||◌, is_some, slice_get, slice_index_or, map, filter, sum_by, if◌then◌else◌}
use Rattle.std.proofs.lemmas.Nat.{mod_below}
use Rattle.std.proofs.lemmas.Option.{slice_get-get_or}
use Rattle.word_spec.specs.State.{State}
use Rattle.machine_spec.specs.Machine.{Row}
use Rattle.bilv_spec.specs.Elf.{Cell}
use Rattle.word_spec.specs.RowFiles.{from_to}
use Rattle.clause_spec.specs.Clauses.{Cnf, ExtendsOnceWhere, Satisfies}
use Rattle.bilv_spec.specs.Run.{Program, is_kept}
use Rattle.bilv_spec.specs.Verdict.{fixed}
use Rattle.bilv_spec.specs.Points.{Point, byte_of_cell, is_known_at, file_row, loads_at, bytes_loaded}
use Rattle.bilv_spec.specs.Questions.{Reading, IsReading, IsTrueOver}
use Rattle.call_spec.specs.Calls.{Question}
use Rattle.bilv_spec.specs.Evidence.{Input, OfRegister, OfFlag, OfChoice, OfByte, RowDraws, IsInput, is_of_byte, AreInputs, ComesFrom, AgreesOn, AgreeOnFirst, AreOfQuestion, loads_among}
use Rattle.bilv_spec.proofs.Pigeons.{at_in}
use Rattle.term_spec.specs.Terms.{TermReading, with_mem, term_word, term_gates}
use Rattle.walk_spec.specs.Unrolled.{UnrolledPoint, UnrolledProgram, no_point, point_at}
use Rattle.walk_spec.specs.Unrolling.{IsUnrolling, row_draws}
use Rattle.walk_spec.specs.Prices.{unrolled_price, loads_of, lines_of}
use Rattle.term_spec.specs.WalkQuestions.{QuestionTerm, HasAsked, IsTrueOfWalkOver, term_reading}
use Rattle.term_spec.specs.Cells.{Cells, IsAllowed, Agreement, AskedByte}
use Rattle.term_spec.specs.ClauseForm.{inputs, input_list, reading, MakesTrue, TellsClauses, drawn_places}
use Rattle.walk_spec.proofs.PriceLaw.{price_is_price, load_sum, line_list}
use Rattle.term_spec.proofs.PriceSums.{clauses_within}
use Rattle.walk_laws.specs.Layers.{IsLayered, ClausesOfQuestion}
use Rattle.walk_laws.proofs.CellValues.{Agree, agree_back, node_same, node_in, same_term, word_same}
use Rattle.walk_laws.proofs.BaseBytes.{gives, agree_all}
use Rattle.walk_laws.proofs.InputOrder.{get_of, row_is, blocks, block_length, block_is}
use Rattle.walk_laws.proofs.InputPlaces.{IsInputOf, place, spot, spot_is, stands_at, in_list, all_long, map_get, range_length}
use Rattle.walk_laws.proofs.InputReadings.{of, of_in_range, address, comes_to, comes_from, earlier, decided}
use Rattle.walk_laws.proofs.InputsWithin.{inputs_within, reading_in_range}
use Rattle.walk_laws.proofs.WalkQuestions.{walk_answers_over}

row_draws_is : (o : Option Row) → row_draws o ≡ true → RowDraws o
row_draws_is None h = absurd (cc)
row_draws_is (Some row) h = h

draws_row_is : (o : Option Row) → RowDraws o → row_draws o ≡ true
draws_row_is None h = absurd h
draws_row_is (Some row) h = h

in_map_at : (qs : List UnrolledPoint) (x : Point) (i : ℕ) → i < length qs → (slice_index_or qs i no_point).point ≡ x → Contains (map (λ q. q.point) qs) x
in_map_at qs x i l e = at_in (map (λ q. q.point) qs) i x (map_get qs i l ∙ ap Some e)

of_map_at : (qs : List UnrolledPoint) (x : Point) (i : ℕ) → slice_get (map (λ q. q.point) qs) i ≡ Some x → (i < length qs) ×
    ((slice_index_or qs i no_point).point ≡ x)
of_map_at [] x i e = absurd (cc)
of_map_at (q ∷ qs) x zero e = (omega arith, (cc))
of_map_at (q ∷ qs) x (suc i) e = let r = of_map_at qs x i e in ((let l = r.0 in omega arith), r.1)

-- inputs of bytes are at most the last ones
pub count_append : (xs ys : List Input) → length (filter is_of_byte (xs ++ ys)) ≡ length (filter is_of_byte xs) + length (filter is_of_byte ys)
count_append [] ys = let e : length (filter is_of_byte ys) ≡ 0 + length (filter is_of_byte ys) = omega arith in e
count_append (x ∷ xs) ys = by (is_of_byte x) (count_append xs ys)
  where
    by : (b : Bool) → length (filter is_of_byte (xs ++ ys)) ≡ length (filter is_of_byte xs) + length (filter is_of_byte ys) →
        length (if b then x ∷ filter is_of_byte (xs ++ ys) else filter is_of_byte (xs ++ ys))
        ≡ length (if b then x ∷ filter is_of_byte xs else filter is_of_byte xs) + length (filter is_of_byte ys)
    by true e = omega arith
    by false e = e

count_none : (xs : List Input) → ((i : ℕ) (x : Input) → slice_get xs i ≡ Some x → is_of_byte x ≡ false) → length (filter is_of_byte xs) ≡ 0
count_none [] f = refl
count_none (x ∷ xs) f = ap (λ z. length (if z then x ∷ filter is_of_byte xs else filter is_of_byte xs)) (f 0 x refl) ∙ count_none xs (λ i y e. f (suc i) y e)

pub count_most : (xs : List Input) → length (filter is_of_byte xs) ≤ length xs
count_most [] = omega arith
count_most (x ∷ xs) = by (is_of_byte x) (count_most xs)
  where
    by : (b : Bool) → length (filter is_of_byte xs) ≤ length xs → length (if b then x ∷ filter is_of_byte xs else filter is_of_byte xs) ≤ suc (length xs)
    by true e = omega arith
    by false e = omega arith

module _ (p : Program) (k : ℕ) (u : UnrolledProgram) (un : IsUnrolling p k u) (c : Cells) (reads : length c.addresses ≤ loads_of u) where
  -- the inputs are those of the program
  pub loads_same : loads_of u ≡ loads_among p (map (λ q. q.point) u.points)
  loads_same =
      ap (λ z. z + sum_by bytes_loaded (lines_of u)) (load_sum p k u un)
      ∙ ap (λ z. sum_by (λ (x : Point). loads_at p x.at (file_row p x.at)) (map (λ q. q.point) u.points) + sum_by bytes_loaded z) (line_list p k u un)

  pub to_input : (x : Input) → IsInputOf p k u un c x → IsInput p k (loads_among p (map (λ q. q.point) u.points)) x
  to_input (OfRegister n b) h = (sym (un.registers n) ∙ h.0, h.1)
  to_input (OfFlag f) h = sym (un.flags f) ∙ h
  to_input (OfChoice x b) (i, d, e, l) =
      let place = un.places i d.0 in
      let row : RowDraws (file_row p (point_at u i).point.at) = row_draws_is (file_row p (point_at u i).point.at) (sym place.counted.draws ∙ d.1) in
      ((un.points.only x (in_map_at u.points x i d.0 e), subst (λ (z : Point). RowDraws (file_row p z.at)) e row), l)
  to_input (OfByte j b) h = (let n = loads_same in let l = h.0 in (omega arith, h.1))

  pub from_input : (x : Input) → IsInput p k (loads_among p (map (λ q. q.point) u.points)) x → is_of_byte x ≡ false → IsInputOf p k u un c x
  from_input (OfRegister n b) h word = (un.registers n ∙ h.0, h.1)
  from_input (OfFlag f) h word = un.flags f ∙ h
  from_input (OfChoice x b) h word =
      let q = get_of (map (λ q. q.point) u.points) x (un.points.all x h.0.0) in
      let at = of_map_at u.points x q.0 q.1 in
      let place = un.places q.0 at.0 in
      let draws : row_draws (file_row p (point_at u q.0).point.at)
      ≡ true = draws_row_is (file_row p (point_at u q.0).point.at) (subst (λ (z : Point). RowDraws (file_row p z.at)) (sym at.1) h.0.1) in
      (q.0, (at.0, place.counted.draws ∙ draws), at.1, h.1)
  from_input (OfByte j b) h word = absurd (let e : true ≡ false = word in cc)

  pub inputs_are : AreInputs p k (loads_among p (map (λ q. q.point) u.points)) (input_list u c)
  inputs_are = record {
    only = λ x h. (let q = get_of (input_list u c) x h in to_input x (in_list p k u un c q.0 x q.1).0);
    all = λ x h word. at_in (input_list u c) (place p k u un c x) x (stands_at p k u un c x (from_input x h word));
    whole = λ read i j h l. (let q = get_of (input_list u c) (OfByte read i) h in
        let at = (in_list p k u un c q.0 (OfByte read i) q.1).0 in
        at_in (input_list u c) (place p k u un c (OfByte read j)) (OfByte read j) (stands_at p k u un c (OfByte read j) (at.0, l)));
    once = λ i j l m e.
        (let a = slice_get-get_or (input_list u c) i (OfFlag 0) (omega arith) in
        let b = slice_get-get_or (input_list u c) j (OfFlag 0) m in
        let f = (in_list p k u un c i (get_or (input_list u c) i (OfFlag 0)) a).1 in
        let g = (in_list p k u un c j (get_or (input_list u c) i (OfFlag 0)) (sym e ∙ a)).1 in
        absurd (omega arith));
  }

  -- and its bytes are at most the last ones
  pub byte_inputs : length (filter is_of_byte (input_list u c)) ≤ 8 * length c.addresses
  byte_inputs =
      let a = count_append (blocks OfRegister 32 u.registers) (map OfFlag (from_to 0 u.flags)
      ++ (blocks (λ i b. OfChoice (point_at u i).point b) 2 (drawn_places u) ++ blocks OfByte 8 (from_to 0 (length c.addresses)))) in
      let b = count_append (map OfFlag (from_to 0 u.flags)) (blocks (λ i b. OfChoice (point_at u i).point b) 2 (drawn_places u)
      ++ blocks OfByte 8 (from_to 0 (length c.addresses))) in
      let d = count_append (blocks (λ i b. OfChoice (point_at u i).point b) 2 (drawn_places u)) (blocks OfByte 8 (from_to 0 (length c.addresses))) in
      let e = count_none (blocks OfRegister 32 u.registers) (λ i x h. ap is_of_byte (block_is OfRegister 32 u.registers i x h).5) in
      let f = count_none (map OfFlag (from_to 0 u.flags)) (λ i x h. ap is_of_byte (row_is OfFlag u.flags i x h).1) in
      let g = count_none (blocks (λ i b. OfChoice (point_at u i).point b) 2 (drawn_places u))
      (λ i x h. ap is_of_byte (block_is (λ i b. OfChoice (point_at u i).point b) 2 (drawn_places u) i x h).5) in
      let m = count_most (blocks OfByte 8 (from_to 0 (length c.addresses))) in
      let n = block_length OfByte 8 (from_to 0 (length c.addresses)) in
      let o = range_length 0 (length c.addresses) in omega arith

module _ (p : Program) (k : ℕ) (question : Question) (asked : ℕ →
    Bool) (u : UnrolledProgram) (t : QuestionTerm) (c : Cells) (layered : IsLayered p k question asked u t c) where
  abbrev un : IsUnrolling p k u
  un = layered.unrolling

  abbrev pub read_as : Reading → TermReading
  read_as r = of p k u un c layered.cells.formed r

  -- the question's term has the value of the cells' root
  no_base : (r : Reading) → term_word (read_as r) t.nodes t.root ≡ term_word (term_reading u r) t.nodes t.root
  no_base r =
      same_term (read_as r) (term_reading u r) t.nodes t.root
      (λ i le ws. node_same u 0 (read_as r) (term_reading u r) (record {
        regs = λ n h. refl;
        flags = λ f h. refl;
        choice = λ j h. refl;
        base =
            λ j h. absurd (omega arith);
      }) ws _
      (layered.term.terms.named _ (node_in t.nodes i (let l = layered.term.root.0 in omega arith))) (λ e. refl)) layered.term.root.0

  pub root_is : (r : Reading) → IsReading r → term_word (read_as r) c.nodes c.root ≡ term_word (term_reading u r) t.nodes t.root
  root_is r is = layered.cells.same (read_as r) (of_in_range p k u un c layered.cells.formed r is)
      (gives u c layered.cells.formed (term_reading u r)) ∙ no_base r

  -- a reading that the question is true of makes the root 1, and back, where it has the asked bytes
  pub is_reading : (r : Reading) → IsTrueOver p asked k r question → IsReading r
  is_reading r h = record { state = h.entry.state; choice = h.choice }

  pub walk_true : (r : Reading) → IsTrueOver p asked k r question → IsTrueOfWalkOver u asked r question
  walk_true r h = (walk_answers_over p layered.lawful k u un asked layered.asks_known layered.asks_literals r question).1 h

  pub has_of : (r : Reading) → IsTrueOver p asked k r question → HasAsked u asked r.state.mem
  has_of r h = (walk_true r h).entry.bytes

  pub to_root : (r : Reading) → IsTrueOver p asked k r question → term_word (read_as r) c.nodes c.root ≡ 1
  to_root r h =
      let w = walk_true r h in
      root_is r (is_reading r h) ∙ (layered.term.means r (is_reading r h) w.entry.pc).1 (record { lines = w.entry.lines; ends = w.ends })

  pub from_root : (r : Reading) → IsReading r → r.state.pc ≡ u.entry → HasAsked u asked r.state.mem → term_word (read_as r) c.nodes c.root ≡ 1 →
      IsTrueOver p asked k r question
  from_root r is pc has e =
      let m = (layered.term.means r is pc).0 (sym (root_is r is) ∙ e) in
      (walk_answers_over p layered.lawful k u un asked layered.asks_known layered.asks_literals r question).0
      (record { choice = is.choice; entry = record { state = is.state; pc = pc; lines = m.lines; bytes = has }; ends = m.ends })

  -- what is allowed hangs on the inputs
  pub allowed_same : (y z : TermReading) → Agree u (length c.addresses) y z → IsAllowed c y → IsAllowed c z
  allowed_same y z a h = record { agrees = agrees; asked = bytes }
    where
      agrees : (x : Agreement) → Contains c.agrees x → term_word z c.nodes x.condition ≡ 1 → z.base 0 x.read ≡ z.base 0 x.other
      agrees x m e =
          let f = layered.cells.formed.agrees x m in
          sym (a.base x.read f.1) ∙ h.agrees x m (word_same u c layered.cells.formed y z a x.condition f.0.0 ∙ e) ∙ a.base x.other f.2

      bytes : (x : AskedByte) → Contains c.asked x → term_word z c.nodes x.condition ≡ 1 → z.base 0 x.read ≡ x.byte
      bytes x m e =
          let f = layered.cells.formed.asked x m in
          sym (a.base x.read f.1) ∙ h.asked x m (word_same u c layered.cells.formed y z a x.condition f.0.0 ∙ e)

  pub root_same : (y z : TermReading) → Agree u (length c.addresses) y z → term_word y c.nodes c.root ≡ term_word z c.nodes c.root
  root_same y z a = word_same u c layered.cells.formed y z a c.root layered.cells.formed.root.0

  -- a memory that agrees with the file has the asked bytes
  asked_by : (s : State) → AgreesOn p asked s → (a b : ℕ) (o : Option Cell) (q : Bool) → a < 2 ^ 32 → asked a ≡ true → p.loaded a ≡ o → is_known_at p a ≡ q →
      (if q then Some (byte_of_cell o) else None) ≡ Some b → s.mem a ≡ b
  asked_by s f a b o false l ask e h g = absurd (cc)
  asked_by s f a b (Some x) true l ask e h g = f a x l e ask ∙ (cc)
  asked_by s f a b None true l ask e h g = absurd (let z : false ≡ true = ap (λ x. is_kept x || (is_some x && fixed p.notes.fixed a)) (sym e) ∙ h in cc)

  has_asked : (s : State) → AgreesOn p asked s → HasAsked u asked s.mem
  has_asked s f a b l e ask = asked_by s f a b (p.loaded a) (is_known_at p a) l ask refl refl (sym (un.known a l) ∙ e)

  decides : (r s : Reading) → IsTrueOver p asked k r question → IsReading s → s.state.pc ≡ r.state.pc → AgreesOn p asked s.state →
      AgreeOnFirst (length (input_list u c)) (input_list u c) (address p k u un c layered.cells.formed) r s → IsTrueOver p asked k s question
  decides r s h is pc agrees first =
      let w = walk_true r h in
      from_root s is (pc ∙ w.entry.pc) (has_asked s.state agrees)
      (sym (root_same (read_as r) (read_as s) (decided p k u un c layered.cells.formed r s (is_reading r h) is first)) ∙ to_root r h)

  module _ (cnf : Cnf) (tells : TellsClauses u c cnf) where
    abbrev Comes : (ℕ → Bool) → Type 0
    Comes v = (r : Reading) × ComesFrom (input_list u c) (address p k u un c layered.cells.formed) v r × IsTrueOver p asked k r question

    -- values that satisfy the clauses come from a reading that the question is true of
    comes_true : (v : ℕ → Bool) → Satisfies v cnf.clauses → Comes v
    comes_true v sat =
        let made = tells.extends.only v sat in
        let range = reading_in_range u c v in
        let m = layered.cells.complete (reading u c v) range made.0 in
        let r : Reading = record {
          state = record { pc = u.entry; regs = (reading u c v).regs 0; flags = (reading u c v).flags 0; mem = m.0 };
          choice = λ x. (reading u c v).choice (spot p k u un c x);
        } in
        let is : IsReading r = record {
          state = record { pc = layered.fitting.entry; regs = range.regs 0; flags = range.flags 0; mem = m.1 };
          choice = λ x. range.choice (spot p k u un c x);
        } in
        let a = agree_all u c layered.cells.formed (with_mem (reading u c v) m.0) (read_as r) (record {
          regs = λ n h. refl;
          flags = λ f h. refl;
          choice = λ i d. ap (reading u c v).choice (sym (spot_is p k u un c i d.0));
          base = λ j h. absurd (omega arith);
        }) m.3 (gives u c layered.cells.formed (term_reading u r)) (λ j l. refl) in
        let b : Agree u (length c.addresses) (reading u c v) (read_as r) = record { regs = a.regs; flags = a.flags; choice = a.choice; base = a.base } in
        (r, comes_from p k u un c layered.cells.formed v r is b, from_root r is refl m.2 (sym (root_same (reading u c v) (read_as r) b) ∙ made.1))

    -- and those of each such reading make the cells true
    makes_true : (v : ℕ → Bool) → Comes v → MakesTrue u c v
    makes_true v (r, from, h) =
        let is = is_reading r h in
        let a = comes_to p k u un c layered.cells.formed v r is from in
        let back = agree_back u (length c.addresses) (reading u c v) (read_as r) a in
        let allowed = layered.cells.sound (read_as r) (of_in_range p k u un c layered.cells.formed r is) (gives u c layered.cells.formed (term_reading u r))
        (has_of r h) in
        (allowed_same (read_as r) (reading u c v) back allowed, root_same (reading u c v) (read_as r) a ∙ to_root r h)

    extends : ExtendsOnceWhere (inputs u c) cnf Comes
    extends = record {
      over = tells.extends.over;
      once = tells.extends.once;
      only = comes_true;
      where_true = λ v h. tells.extends.where_true v (makes_true v h);
    }

    pub of_question : AreOfQuestion p k question cnf
    of_question =
        let long = all_long p k u un c in
        let few = inputs_within u c layered.fitting (λ i l. (un.places i l).terms) layered.cells.reads in
        let room = layered.term.terms.gates in
        let gates = clauses_within u (term_gates t.nodes) (length c.addresses) (omega arith) layered.cells.reads in
        let cells = layered.cells.gates in
        let bits = byte_inputs p k u un c layered.cells.reads in
        let vars = tells.few in
        let all = tells.all in
        record {
          points = map (λ q. q.point) u.points;
          are_points = un.points;
          inputs = input_list u c;
          are_inputs = inputs_are p k u un c layered.cells.reads;
          asked = asked;
          asks_known = layered.asks_known;
          address = address p k u un c layered.cells.formed;
          decide = record {
            below = λ r j. mod_below _ (2 ^ 32) (omega arith);
            by_earlier = λ r s n read i e ir it f. earlier p k u un c layered.cells.formed r s n read i e ir it f;
            decides = decides;
          };
          extends = subst (λ (z : ℕ). ExtendsOnceWhere z cnf Comes) (sym long) extends;
          price = unrolled_price u;
          is_price = price_is_price p k u un;
          few_inputs = (omega arith, omega arith);
          few_gates = omega arith;
        }

  module _ (cnf : Cnf) (tells : TellsClauses u c cnf) where
    -- over the bytes that are asked
    pub asks_same : (of_question cnf tells).asked ≡ asked
    unfolding of_question
    asks_same = refl

pub clauses_of_question : ClausesOfQuestion
clauses_of_question p k question asked u t c layered cnf tells = of_question p k question asked u t c layered cnf tells
