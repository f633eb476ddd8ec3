-- Without invariants and contracts the clauses of a question of a frame are those of the question of its program.
use Rattle.std.proofs.Common.{◌≡◌, inl, inr, ℕ, zero, suc, ◌+◌, ◌≤◌, ◌<◌, refl, ap, sym, ◌∙◌, subst, arith, List, [], ◌∷◌, ◌++◌, length, Option, Some, None, Bool, true, false}
use Rattle.std.specs.Prelude.{Contains, ◌==◌, if◌then◌else◌, map, filter, sum_by, slice_get, option_map}
use Rattle.std.specs.List.{flat_map}
use Rattle.std.proofs.lemmas.Bool.Decides.{nat_tests}
use Rattle.std.proofs.lemmas.List.{length-map}
use Rattle.std.proofs.lemmas.Option.{slice_get-map}
use Rattle.word_spec.specs.Words.{bit_at}
use Rattle.clause_spec.specs.Clauses.{Cnf, ExtendsOnceWhere}
use Rattle.call_spec.specs.Calls as calls
use Rattle.bilv_spec.specs.Run.{Program}
use Rattle.bilv_spec.specs.Points as points
use Rattle.bilv_spec.specs.Points.{bytes_loaded, loads_at, file_row}
use Rattle.bilv_spec.specs.Questions as questions
use Rattle.bilv_spec.specs.Evidence as evidence
use Rattle.bilv_spec.proofs.Pigeons as pigeons
use Rattle.bilv_spec.proofs.PointSteps.{in_map}
use Rattle.bilv_spec.proofs.PointsInGraph.{of_map}
use Rattle.frame_spec.specs.Frames.{Contract, Frame}
use Rattle.frame_spec.specs.FramePoints.{Point, ArePoints, triple, has_heads, point_loads, entry_lines, evaluated}
use Rattle.frame_spec.specs.FrameQuestions.{Reading, IsReading, IsTrueOver, Part, EntryPart, HeadPart, GivenPart, IsContractPoint, Input, OfRegister, OfFlag, OfChoice, OfByte, IsInput, Addresses, input_value}
use Rattle.frame_spec.specs.FrameReports.{loads_among, is_of_byte, AreInputs, ComesFrom, AgreeOnFirst, InputsDecide, AreOfQuestion}
use Rattle.frame_spec.specs.Theorems.{headless}
use Rattle.frame_laws.specs.HeadlessLaws.{as_point, flat_reading, as_question, as_input, HeadlessClauses}
use Rattle.frame_laws.proofs.OnceLists.{mapped_sum}
use Rattle.frame_laws.proofs.HeadlessPoints.{from, to, are_points, are_flat, flat_list, its_lines, headless_heads, headless_price}
use Rattle.frame_laws.proofs.HeadlessReads.{true_from, true_to, full_reading, is_full}

-- an input of the frame as one of the program, and back
abbrev flat_input : Input → evidence.Input
flat_input (OfRegister part n i) = evidence.OfRegister n i
flat_input (OfFlag part g) = evidence.OfFlag g
flat_input (OfChoice q i) = evidence.OfChoice (triple q) i
flat_input (OfByte part read i) = evidence.OfByte read i

there_and_back : (y : evidence.Input) → flat_input (as_input y) ≡ y
there_and_back (evidence.OfRegister n i) = refl
there_and_back (evidence.OfFlag g) = refl
there_and_back (evidence.OfChoice q i) = refl
there_and_back (evidence.OfByte read i) = refl

byte_flat : (x : Input) → evidence.is_of_byte (flat_input x) ≡ is_of_byte x
byte_flat (OfRegister part n i) = refl
byte_flat (OfFlag part g) = refl
byte_flat (OfChoice q i) = refl
byte_flat (OfByte part read i) = refl

byte_as : (y : evidence.Input) → is_of_byte (as_input y) ≡ evidence.is_of_byte y
byte_as (evidence.OfRegister n i) = refl
byte_as (evidence.OfFlag g) = refl
byte_as (evidence.OfChoice q i) = refl
byte_as (evidence.OfByte read i) = refl

count_by : {X Y : Type 0} (x : X) (y : Y) (xs : List X) (ys : List Y) (b : Bool) → length ys ≡ length xs →
    length (if b then y ∷ ys else ys) ≡ length (if b then x ∷ xs else xs)
count_by x y xs ys true h = ap suc h
count_by x y xs ys false h = h

filter_count : {X Y : Type 0} (make : X → Y) (g : Y → Bool) (h : X → Bool) → ((x : X) → g (make x) ≡ h x) → (xs : List X) →
    length (filter g (map make xs)) ≡ length (filter h xs)
filter_count make g h e [] = refl
filter_count make g h e (x ∷ xs) =
    ap (λ (z : Bool). length (if z then make x ∷ filter g (map make xs) else filter g (map make xs))) (e x)
    ∙ count_by x (make x) (filter h xs) (filter g (map make xs)) (h x) (filter_count make g h e xs)

some_is : {X : Type 0} (a b : X) → Some a ≡ Some b → a ≡ b
some_is a b e = cc

bits_same : (i a b : ℕ) → (bit_at i a == 1) ≡ (bit_at i b == 1) → bit_at i a ≡ bit_at i b
bits_same i a b e = tests_same (bit_at i a) (bit_at i b) (omega arith) (omega arith) e
  where
    tests_same : (x y : ℕ) → x < 2 → y < 2 → (x == 1) ≡ (y == 1) → x ≡ y
    tests_same x y l m e = grind (arith, nat_tests)

flags_same : (x y : ℕ) → x < 2 → y < 2 → (x == 1) ≡ (y == 1) → x ≡ y
flags_same x y l m e = grind (arith, nat_tests)

module _ (p : Program) (k : ℕ) where
  abbrev f : Frame
  f = headless p

  no_heads : {P : Type 0} → has_heads f ≡ true → P
  no_heads h = absurd (let c : false ≡ true = sym (headless_heads p) ∙ h in cc)

  no_contract : {P : Type 0} (q : Point) (x : Contract) → IsContractPoint f k q x → P
  no_contract q x h = absurd (let c = h.is in cc)

  -- an input of the frame is one of the entry's part
  module _ (loads : ℕ) where
    round : (x : Input) → IsInput f k loads x → as_input (flat_input x) ≡ x
    round (OfRegister EntryPart n i) h = refl
    round (OfRegister HeadPart n i) h = no_heads h.0.0
    round (OfRegister (GivenPart q) n i) h = no_contract q h.0.0 h.0.1
    round (OfFlag EntryPart g) h = refl
    round (OfFlag HeadPart g) h = no_heads h.0
    round (OfFlag (GivenPart q) g) h = no_contract q h.0 h.1
    round (OfChoice q i) h = let it = to p k q h.0 in ap (λ z. OfChoice (as_point (triple z)) i) it.2 ∙ ap (λ z. OfChoice z i) (sym it.2)
    round (OfByte EntryPart read i) h = refl
    round (OfByte HeadPart read i) h = no_heads h.0
    round (OfByte (GivenPart q) read i) h = no_contract q h.0.0 h.0.1

    flat_is : (x : Input) → IsInput f k loads x → evidence.IsInput p k loads (flat_input x)
    flat_is (OfRegister EntryPart n i) h = h
    flat_is (OfRegister HeadPart n i) h = no_heads h.0.0
    flat_is (OfRegister (GivenPart q) n i) h = no_contract q h.0.0 h.0.1
    flat_is (OfFlag EntryPart g) h = h
    flat_is (OfFlag HeadPart g) h = no_heads h.0
    flat_is (OfFlag (GivenPart q) g) h = no_contract q h.0 h.1
    flat_is (OfChoice q i) h =
        let it = to p k q h.0 in ((subst (points.IsPoint p k) (sym (ap triple it.2)) it.1, h.2), h.3)
    flat_is (OfByte EntryPart read i) h = (h.1, h.2)
    flat_is (OfByte HeadPart read i) h = no_heads h.0
    flat_is (OfByte (GivenPart q) read i) h = no_contract q h.0.0 h.0.1

    as_is : (y : evidence.Input) → evidence.IsInput p k loads y → IsInput f k loads (as_input y)
    as_is (evidence.OfRegister n i) h = h
    as_is (evidence.OfFlag g) h = h
    as_is (evidence.OfChoice q i) h = (from p k q h.0.0, refl, h.0.1, h.1)
    as_is (evidence.OfByte read i) h = (tt, h.0, h.1)

  loads_same : (xs : List points.Point) → loads_among f (map as_point xs) ≡ evidence.loads_among p xs
  loads_same xs =
      ap (λ z. z + sum_by bytes_loaded (entry_lines f ++ flat_map (evaluated f) (map as_point xs)))
      (mapped_sum as_point (point_loads f) (λ x. loads_at p x.at (file_row p x.at)) (λ x. refl) xs)
      ∙ ap (λ z. sum_by (λ x. loads_at p x.at (file_row p x.at)) xs + sum_by bytes_loaded z) (its_lines p xs)

  abbrev flats : List Input → List evidence.Input
  flats inputs = map flat_input inputs

  -- inputs
  module _ (loads : ℕ) (inputs : List Input) (are : AreInputs f k loads inputs) where
    get_flat : (n : ℕ) → slice_get (flats inputs) n ≡ option_map flat_input (slice_get inputs n)
    get_flat n = slice_get-map flat_input inputs n

    back_by : (o : Option Input) → ((x : Input) → o ≡ Some x → as_input (flat_input x) ≡ x) → option_map as_input (option_map flat_input o) ≡ o
    back_by None h = refl
    back_by (Some x) h = ap Some (h x refl)

    at_in : (n : ℕ) (x : Input) → slice_get inputs n ≡ Some x → Contains inputs x
    at_in n x e = pigeons.at_in inputs n x e

    get_back : (n : ℕ) → option_map as_input (slice_get (flats inputs) n) ≡ slice_get inputs n
    get_back n =
        ap (option_map as_input) (get_flat n) ∙ back_by (slice_get inputs n) (λ x e. round loads x (are.only x (at_in n x e)))

    inputs_flat : evidence.AreInputs p k loads (flats inputs)
    inputs_flat = record {
      only = λ y c. (let it = of_map flat_input inputs y c in subst (evidence.IsInput p k loads) it.2 (flat_is loads it.0 (are.only it.0 it.1)));
      all = λ y h b.
          (let c = are.all (as_input y) (as_is loads y h) (byte_as y ∙ b) in
          subst (Contains (flats inputs)) (there_and_back y) (in_map flat_input inputs (as_input y) c));
      whole = λ read i j c l. (let it = of_map flat_input inputs (evidence.OfByte read i) c in
          let x : Contains inputs (OfByte EntryPart read i) =
          subst (Contains inputs) (sym (round loads it.0 (are.only it.0 it.1)) ∙ ap as_input it.2) it.1 in
          in_map flat_input inputs (OfByte EntryPart read j) (are.whole EntryPart read i j x l));
      once = λ i j l h e. are.once i j l (subst (λ z. j < z) (length-map inputs flat_input) h)
          (sym (get_back i) ∙ ap (option_map as_input) e ∙ get_back j);
    }

  -- values
  module _ (loads : ℕ) (address : Addresses) where
    abbrev flat_address : evidence.Addresses
    flat_address r read = address (full_reading r) EntryPart read

    value_flat : (r : questions.Reading) (x : Input) → IsInput f k loads x →
        (input_value address (full_reading r) x == 1) ≡ evidence.input_value flat_address r (flat_input x)
    value_flat r (OfRegister EntryPart n i) h = refl
    value_flat r (OfRegister HeadPart n i) h = no_heads h.0.0
    value_flat r (OfRegister (GivenPart q) n i) h = no_contract q h.0.0 h.0.1
    value_flat r (OfFlag EntryPart g) h = refl
    value_flat r (OfFlag HeadPart g) h = no_heads h.0
    value_flat r (OfFlag (GivenPart q) g) h = no_contract q h.0 h.1
    value_flat r (OfChoice q i) h = refl
    value_flat r (OfByte EntryPart read i) h = refl
    value_flat r (OfByte HeadPart read i) h = no_heads h.0
    value_flat r (OfByte (GivenPart q) read i) h = no_contract q h.0.0 h.0.1

    -- of words and flags a value is told by its test
    told : (r t : Reading) → IsReading r → IsReading t → (x : Input) → IsInput f k loads x →
        (input_value address r x == 1) ≡ (input_value address t x == 1) → input_value address r x ≡ input_value address t x
    told r t a b (OfRegister EntryPart n i) h e = bits_same i (r.state.regs n) (t.state.regs n) e
    told r t a b (OfRegister HeadPart n i) h e = no_heads h.0.0
    told r t a b (OfRegister (GivenPart q) n i) h e = no_contract q h.0.0 h.0.1
    told r t a b (OfFlag EntryPart g) h e = flags_same (r.state.flags g) (t.state.flags g) (a.state.flags g) (b.state.flags g) e
    told r t a b (OfFlag HeadPart g) h e = no_heads h.0
    told r t a b (OfFlag (GivenPart q) g) h e = no_contract q h.0 h.1
    told r t a b (OfChoice q i) h e = bits_same i (r.choice q) (t.choice q) e
    told r t a b (OfByte EntryPart read i) h e =
        bits_same i (r.state.mem (address r EntryPart read)) (t.state.mem (address t EntryPart read)) e
    told r t a b (OfByte HeadPart read i) h e = no_heads h.0
    told r t a b (OfByte (GivenPart q) read i) h e = no_contract q h.0.0 h.0.1

    module _ (inputs : List Input) (are : AreInputs f k loads inputs) where
      get : (n : ℕ) (x : Input) → slice_get inputs n ≡ Some x → slice_get (flats inputs) n ≡ Some (flat_input x)
      get n x e = get_flat loads inputs are n ∙ ap (option_map flat_input) e

      valid : (n : ℕ) (x : Input) → slice_get inputs n ≡ Some x → IsInput f k loads x
      valid n x e = are.only x (at_in loads inputs are n x e)

      agree_full : (n : ℕ) (r t : questions.Reading) → IsReading (full_reading r) → IsReading (full_reading t) →
          evidence.AgreeOnFirst n (flats inputs) flat_address r t → AgreeOnFirst n inputs address (full_reading r) (full_reading t)
      agree_full n r t a b h i x l e =
          told (full_reading r) (full_reading t) a b x (valid i x e)
          (value_flat r x (valid i x e) ∙ h i (flat_input x) l (get i x e) ∙ sym (value_flat t x (valid i x e)))

      comes_full : (v : ℕ → Bool) (r : questions.Reading) → evidence.ComesFrom (flats inputs) flat_address v r → ComesFrom inputs address v (full_reading r)
      comes_full v r h i x e = h i (flat_input x) (get i x e) ∙ sym (value_flat r x (valid i x e))

      -- a reading and what is left of it in the program agree on all inputs
      module _ (r : Reading) (reading : IsReading r) (again : IsReading (full_reading (flat_reading r)))
          (earlier : (r t : Reading) (n : ℕ) (part : Part) (read i : ℕ) → slice_get inputs n ≡ Some (OfByte part read i) → IsReading r → IsReading t →
          AgreeOnFirst n inputs address r t → address r part read ≡ address t part read) where
        abbrev t : Reading
        t = full_reading (flat_reading r)

        choice_same : (q : Point) → IsInput f k loads (OfChoice q 0) → r.choice q ≡ t.choice q
        choice_same q h = let it = to p k q h.0 in ap r.choice (it.2 ∙ sym (ap (λ z. as_point (triple z)) it.2))

        value_same : (n : ℕ) (x : Input) → slice_get inputs n ≡ Some x → IsInput f k loads x → AgreeOnFirst n inputs address r t →
            input_value address r x ≡ input_value address t x
        value_same n (OfRegister EntryPart m i) e h g = refl
        value_same n (OfRegister HeadPart m i) e h g = no_heads h.0.0
        value_same n (OfRegister (GivenPart q) m i) e h g = no_contract q h.0.0 h.0.1
        value_same n (OfFlag EntryPart m) e h g = refl
        value_same n (OfFlag HeadPart m) e h g = no_heads h.0
        value_same n (OfFlag (GivenPart q) m) e h g = no_contract q h.0 h.1
        value_same n (OfChoice q i) e h g = ap (bit_at i) (choice_same q (h.0, h.1, h.2, omega arith))
        value_same n (OfByte EntryPart read i) e h g = ap (λ z. bit_at i (r.state.mem z)) (earlier r t n EntryPart read i e reading again g)
        value_same n (OfByte HeadPart read i) e h g = no_heads h.0
        value_same n (OfByte (GivenPart q) read i) e h g = no_contract q h.0.0 h.0.1

        agree_all : (n : ℕ) → AgreeOnFirst n inputs address r t
        agree_all zero i x l e = absurd (omega arith)
        agree_all (suc n) i x l e = elim (pigeons.truth (i == n)) [
          | inl s ↦ (let same : i ≡ n = grind (arith, nat_tests) in
              value_same i x e (valid i x e) (subst (λ z. AgreeOnFirst z inputs address r t) (sym same) (agree_all n)))
          | inr s ↦ agree_all n i x (grind (arith, nat_tests)) e
        ]

        comes_flat : (v : ℕ → Bool) → ComesFrom inputs address v r → evidence.ComesFrom (flats inputs) flat_address v (flat_reading r)
        comes_flat v h i y e = by (slice_get inputs i) refl
          where
            by : (o : Option Input) → slice_get inputs i ≡ o → v (i + 1) ≡ evidence.input_value flat_address (flat_reading r) y
            by None q = absurd (let c : None ≡ Some y = sym (get_flat loads inputs are i ∙ ap (option_map flat_input) q) ∙ e in cc)
            by (Some x) q =
                let same : flat_input x ≡ y = some_is (flat_input x) y (sym (get i x q) ∙ e) in
                h i x q ∙ ap (λ z. z == 1) (value_same i x q (valid i x q) (agree_all i)) ∙ value_flat (flat_reading r) x (valid i x q)
                ∙ ap (evidence.input_value flat_address (flat_reading r)) same

  -- the clauses
  module _ (question : calls.Question) (cnf : Cnf) (h : AreOfQuestion f k (as_question question) cnf) where
    abbrev list : List points.Point
    list = map triple h.points

    same_list : map as_point list ≡ h.points
    same_list = flat_list p k h.points h.are_points.only

    abbrev loads : ℕ
    loads = loads_among f h.points

    loads_is : loads ≡ evidence.loads_among p list
    loads_is = ap (loads_among f) (sym same_list) ∙ loads_same list

    full : (r : questions.Reading) → questions.IsReading r → IsReading (full_reading r)
    full r is = is_full r is.state is.choice

    full_true : (r : questions.Reading) → questions.IsTrueOver p h.asked k r question → IsReading (full_reading r)
    full_true r t = is_full r t.entry.state t.choice

    again : (r : Reading) → IsReading r → IsReading (full_reading (flat_reading r))
    again r is = is_full (flat_reading r) is.state (λ q. is.choice (as_point q))

    abbrev its_address : evidence.Addresses
    its_address = flat_address loads h.address

    decides : evidence.InputsDecide p k question h.asked (flats h.inputs) its_address
    decides = record {
      below = λ r read. h.decide.below (full_reading r) EntryPart read;
      by_earlier = λ r t n read i e a b g.
          (let x : slice_get h.inputs n ≡ Some (OfByte EntryPart read i) = sym (get_back loads h.inputs h.are_inputs n) ∙ ap (option_map as_input) e in
          h.decide.by_earlier (full_reading r) (full_reading t) n EntryPart read i x (full r a) (full t b)
          (agree_full loads h.address h.inputs h.are_inputs n r t (full r a) (full t b) g));
      decides = λ r t a b pc agrees g.
          true_from p k (full_reading t) h.asked question
          (h.decide.decides (full_reading r) (full_reading t) (true_to p k (full_reading r) h.asked (full_true r a) question a) (full t b) pc agrees
          (λ heads s c x l e q w. no_heads heads)
          (agree_full loads h.address h.inputs h.are_inputs (length h.inputs) r t (full_true r a) (full t b)
          (subst (λ z. evidence.AgreeOnFirst z (flats h.inputs) its_address r t) (length-map h.inputs flat_input) g)));
    }

    extends : ExtendsOnceWhere (length (flats h.inputs)) cnf
        (λ v. (r : questions.Reading) × evidence.ComesFrom (flats h.inputs) its_address v r × questions.IsTrueOver p h.asked k r question)
    extends = subst (λ z. ExtendsOnceWhere z cnf
        (λ v. (r : questions.Reading) × evidence.ComesFrom (flats h.inputs) its_address v r × questions.IsTrueOver p h.asked k r question))
        (sym (length-map h.inputs flat_input)) (record {
          over = h.extends.over;
          once = h.extends.once;
          only = λ v s. (let it = h.extends.only v s in (
            flat_reading it.0,
            comes_flat loads h.address h.inputs h.are_inputs it.0 it.2.reading (again it.0 it.2.reading) h.decide.by_earlier v it.1,
            true_from p k it.0 h.asked question it.2,
          ));
          where_true = λ a it. h.extends.where_true a (
            full_reading it.0,
            comes_full loads h.address h.inputs h.are_inputs a it.0 it.1,
            true_to p k (full_reading it.0) h.asked (full_true it.0 it.2) question it.2,
          );
        })

    flat_clauses : evidence.AreOfQuestion p k question cnf
    flat_clauses = record {
      points = list;
      are_points = are_flat p k list (subst (ArePoints f k) (sym same_list) h.are_points);
      inputs = flats h.inputs;
      are_inputs = subst (λ z. evidence.AreInputs p k z (flats h.inputs)) loads_is (inputs_flat loads h.inputs h.are_inputs);
      asked = h.asked;
      asks_known = h.asks_known;
      address = its_address;
      decide = decides;
      extends = extends;
      price = h.price;
      is_price = (headless_price p k h.price).0 h.is_price;
      few_inputs = (
        subst (λ z. z ≤ h.price) (sym (length-map h.inputs flat_input)) h.few_inputs.0,
        subst (λ z. z ≤ cnf.variables) (sym (length-map h.inputs flat_input)) h.few_inputs.1,
      );
      few_gates =
          (let a = length-map h.inputs flat_input in let b = filter_count flat_input evidence.is_of_byte is_of_byte byte_flat h.inputs in
          let c = h.few_gates in omega arith);
    }

  -- and back
  module _ (question : calls.Question) (cnf : Cnf) (h : evidence.AreOfQuestion p k question cnf) where
    abbrev whole_list : List Point
    whole_list = map as_point h.points

    abbrev inputs_as : List Input
    inputs_as = map as_input h.inputs

    as_by : (o : Option evidence.Input) → option_map flat_input (option_map as_input o) ≡ o
    as_by None = refl
    as_by (Some y) = ap Some (there_and_back y)

    get_as : (n : ℕ) → option_map flat_input (slice_get inputs_as n) ≡ slice_get h.inputs n
    get_as n = ap (option_map flat_input) (slice_get-map as_input h.inputs n) ∙ as_by (slice_get h.inputs n)

    loads_are : evidence.loads_among p h.points ≡ loads_among f whole_list
    loads_are = sym (loads_same h.points)

    abbrev most : ℕ
    most = evidence.loads_among p h.points

    are_as : AreInputs f k most inputs_as
    are_as = record {
      only = λ x c. (let it = of_map as_input h.inputs x c in subst (IsInput f k most) it.2 (as_is most it.0 (h.are_inputs.only it.0 it.1)));
      all = λ x i b.
          (let c = h.are_inputs.all (flat_input x) (flat_is most x i) (byte_flat x ∙ b) in
          subst (Contains inputs_as) (round most x i) (in_map as_input h.inputs (flat_input x) c));
      whole = λ part read i j c l. (let it = of_map as_input h.inputs (OfByte part read i) c in
          let y : Contains h.inputs (evidence.OfByte read i) = subst (Contains h.inputs) (sym (there_and_back it.0) ∙ ap flat_input it.2) it.1 in
          let n : IsInput f k most (OfByte part read i) = subst (IsInput f k most) it.2 (as_is most it.0 (h.are_inputs.only it.0 it.1)) in
          let s : OfByte EntryPart read i ≡ OfByte part read i = round most (OfByte part read i) n in
          let e : EntryPart ≡ part = cc in
          subst (λ z. Contains inputs_as (OfByte z read j)) e (in_map as_input h.inputs (evidence.OfByte read j) (h.are_inputs.whole read i j y l)));
      once = λ i j l m e. h.are_inputs.once i j l (subst (λ z. j < z) (length-map h.inputs as_input) m)
          (sym (get_as i) ∙ ap (option_map flat_input) e ∙ get_as j);
    }

    abbrev as_address : Addresses
    as_address r part read = h.address (flat_reading r) read

    value_as : (r : Reading) (y : evidence.Input) → (input_value as_address r (as_input y) == 1) ≡ evidence.input_value h.address (flat_reading r) y
    value_as r (evidence.OfRegister n i) = refl
    value_as r (evidence.OfFlag g) = refl
    value_as r (evidence.OfChoice q i) = refl
    value_as r (evidence.OfByte read i) = refl

    get_in : (n : ℕ) (y : evidence.Input) → slice_get h.inputs n ≡ Some y → slice_get inputs_as n ≡ Some (as_input y)
    get_in n y e = slice_get-map as_input h.inputs n ∙ ap (option_map as_input) e

    agree_as : (n : ℕ) (r t : Reading) → AgreeOnFirst n inputs_as as_address r t →
        evidence.AgreeOnFirst n h.inputs h.address (flat_reading r) (flat_reading t)
    agree_as n r t g i y l e = sym (value_as r y) ∙ ap (λ z. z == 1) (g i (as_input y) l (get_in i y e)) ∙ value_as t y

    flat_is_reading : (r : Reading) → IsReading r → questions.IsReading (flat_reading r)
    flat_is_reading r is = record { state = is.state; choice = λ q. is.choice (as_point q) }

    comes_to_flat : (v : ℕ → Bool) (r : Reading) → ComesFrom inputs_as as_address v r → evidence.ComesFrom h.inputs h.address v (flat_reading r)
    comes_to_flat v r g i y e = g i (as_input y) (get_in i y e) ∙ value_as r y

    comes_to_full : (v : ℕ → Bool) (r : questions.Reading) → evidence.ComesFrom h.inputs h.address v r → ComesFrom inputs_as as_address v (full_reading r)
    comes_to_full v r g i x e = by (slice_get h.inputs i) refl
      where
        by : (o : Option evidence.Input) → slice_get h.inputs i ≡ o → v (i + 1) ≡ (input_value as_address (full_reading r) x == 1)
        by None q = absurd (let c : None ≡ Some x = sym (slice_get-map as_input h.inputs i ∙ ap (option_map as_input) q) ∙ e in cc)
        by (Some y) q =
            let same : as_input y ≡ x = some_is (as_input y) x (sym (get_in i y q) ∙ e) in
            g i y q ∙ sym (value_as (full_reading r) y) ∙ ap (λ z. input_value as_address (full_reading r) z == 1) same

    decides_as : InputsDecide f k (as_question question) h.asked inputs_as as_address
    decides_as = record {
      below = λ r part read. h.decide.below (flat_reading r) read;
      by_earlier = λ r t n part read i e a b g.
          (let y : slice_get h.inputs n ≡ Some (evidence.OfByte read i) = sym (get_as n) ∙ ap (option_map flat_input) e in
          h.decide.by_earlier (flat_reading r) (flat_reading t) n read i y (flat_is_reading r a) (flat_is_reading t b) (agree_as n r t g));
      decides = λ r t a b pc agrees heads g.
          true_to p k t h.asked b question
          (h.decide.decides (flat_reading r) (flat_reading t) (true_from p k r h.asked question a) (flat_is_reading t b) pc agrees
          (agree_as (length h.inputs) r t (subst (λ z. AgreeOnFirst z inputs_as as_address r t) (length-map h.inputs as_input) g)));
    }

    whole_clauses : AreOfQuestion f k (as_question question) cnf
    whole_clauses = record {
      points = whole_list;
      are_points = are_points p k h.points h.are_points;
      inputs = inputs_as;
      are_inputs = subst (λ z. AreInputs f k z inputs_as) loads_are are_as;
      asked = h.asked;
      asks_known = h.asks_known;
      address = as_address;
      decide = decides_as;
      extends = subst (λ z. ExtendsOnceWhere z cnf
          (λ v. (r : Reading) × ComesFrom inputs_as as_address v r × IsTrueOver f h.asked k r (as_question question)))
          (sym (length-map h.inputs as_input)) (record {
            over = h.extends.over;
            once = h.extends.once;
            only = λ v s. (let it = h.extends.only v s in (
              full_reading it.0,
              comes_to_full v it.0 it.1,
              true_to p k (full_reading it.0) h.asked (is_full it.0 it.2.entry.state it.2.choice) question it.2,
            ));
            where_true = λ a it. h.extends.where_true a (flat_reading it.0, comes_to_flat a it.0 it.1, true_from p k it.0 h.asked question it.2);
          });
      price = h.price;
      is_price = (headless_price p k h.price).1 h.is_price;
      few_inputs = (
        subst (λ z. z ≤ h.price) (sym (length-map h.inputs as_input)) h.few_inputs.0,
        subst (λ z. z ≤ cnf.variables) (sym (length-map h.inputs as_input)) h.few_inputs.1,
      );
      few_gates =
          (let a = length-map h.inputs as_input in let b = filter_count as_input is_of_byte evidence.is_of_byte byte_as h.inputs in
          let c = h.few_gates in omega arith);
    }

pub headless_clauses : HeadlessClauses
headless_clauses p k question cnf = (flat_clauses p k question cnf, whole_clauses p k question cnf)
