-- What is had of the unrolled frame of a rank of a function of a file: the laws of its rows, and terms that can be made of it.
use Rattle.std.proofs.Common.{◌≡◌, refl, sym, ap, subst, ◌∙◌, ℕ, zero, suc, ◌+◌, ◌<◌, ◌≤◌, ◌^◌, Bool, true, false, List, [], ◌∷◌, Option, Some, None, Result, Ok, Err, IfOk, length, arith}
use Rattle.std.specs.Prelude.{if◌then◌else◌, ◌==◌, ◌&&◌, ◌||◌, IsTrue, nat_eq, nat_le, nat_lt, slice_get, slice_index, take, All, Contains}
use Rattle.std.specs.List.{list_any}
use Rattle.std.proofs.lemmas.Bool.Decides.{nat_tests}
use Rattle.std.proofs.lemmas.List.Elements.{All-contains}
use Rattle.word_spec.specs.Words.{add}
use Rattle.word_spec.specs.Memory.{number}
use Rattle.bilv_spec.specs.Files.{program_of}
use Rattle.bilv_spec.specs.Notes.{Assert, Expr, Number, Register, Flag, Pc, Bound, Memory, Old, Not, Binary, NoteLine, Notes}
use Rattle.bilv_spec.specs.PointLaws.{HasLawfulRows, ReadsMemory}
use Rattle.bilv_spec.specs.Points.{byte_of_cell, file_word, is_known_at}
use Rattle.bilv_spec.specs.Run.{Program}
use Rattle.bilv_spec.proofs.Pigeons.{at_in}
use Rattle.bilv_spec.proofs.PointSteps.{and_both, here, same_number, there}
use Rattle.bilv_spec.proofs.ProgramRows.{cell_small}
use Rattle.machine_spec.specs.Machine.{Machine, IsAtPlace, first_half, taken, width}
use Rattle.machine_spec.specs.MachineLaws.{IsFitted, IsLawfulMachine}
use Rattle.machine_spec.specs.StateText.{Layout}
use Rattle.machine_spec.proofs.WordBounds.{load_below}
use Rattle.walk_spec.specs.Unrolled.{byte_of_runs}
use Rattle.walk_spec.specs.Unrolling.{AreReadableBy, IsLaidOut}
use Rattle.frame_spec.specs.Frames.{Contract, Frame, Writes, contract_at, is_head, is_invariant, invariants_of}
use Rattle.frame_spec.specs.FrameLaws.{HasPlaces}
use Rattle.frame_spec.specs.FramePoints.{has_heads}
use Rattle.frame_spec.specs.FrameVerdict.{Whole, frame_by, frame_of}
use Rattle.frame_spec.specs.FrameUnrolling.{IsUnrolling}
use Rattle.frame_spec.specs.FrameWalk.{UnrolledProgram, point_at}
use Rattle.frame_laws.specs.RunOfFrame.{IsAmong}
use Rattle.frame_terms.specs.PassiveFrames.{CanRead, CanReadLines, CanReadWrites, IsPassive, IsWalkable, inputs_of}
use Rattle.frame_terms.proofs.FrameInputs.{found_in}
use Rattle.frame_terms.proofs.FrameWalkable.{frame_unrolling_is_walkable}
use Rattle.known_bytes.specs.Runs.{AreRuns}
use Rattle.notes_value.specs.Reads.{AreOver, IsOver}
use Rattle.question_form.specs.Forms.{AreRootsFormed, AreStepsFormed, IsFormed}
use Rattle.question_form.specs.FrameQuestions.{frame_passive_of}
use Rattle.question_form.specs.FrameViews.{frame_unrolled_of, points_of}
use Rattle.question_form.specs.declared.questions.Passive.{Passive}
use Rattle.question_form.specs.declared.unrolled.Point.{Point}
use Rattle.question_form.specs.declared.unrolled.Unrolled.{Unrolled}
use Rattle.passify.specs.Planted.{AreHeaded}
use Rattle.start_value.specs.Starts.{layout_of}
use Rattle.unroller.specs.Lookups.{HasForm}
use Rattle.unroller.specs.RootPoints.{BeginAtOwn, IsEntryFirst}
use Rattle.unroller.proofs.FileRows.{file_rows_lawful}
use Rattle.frame_start.specs.Segments.{IsFrameAskable}
use Rattle.frame_rounds.specs.FrameGrounds.{AreFitted}
use Rattle.verdict.proofs.Grounding.{all_readable}
use Rattle.frame_verdict.specs.FrameFunctions.{IsCallable, notes_by}
use Rattle.frame_verdict.specs.FrameMeasures.{IsFrameMeasurable, IsFrameUnrolled}
use Rattle.frame_verdict.proofs.RowPlaces.{has_places}

-- words of bytes are words
taken_small : (narrow : Bool) (w : ℕ) → w < 2 ^ 32 → taken narrow w < 2 ^ 32
taken_small narrow w small = by_width (width narrow (first_half w) == 2)
  where
    by_width : (b : Bool) → (if b then first_half w else w) < 2 ^ 32
    by_width true = omega arith
    by_width false = small

word_small : (p : Program) → ((a : ℕ) → byte_of_cell (p.loaded a) < 256) → (a : ℕ) → file_word p a < 2 ^ 32
word_small p small a =
    taken_small p.machine.narrow (number p.machine.endian 4 (λ i. byte_of_cell (p.loaded (add 32 a i))))
    (load_below p.machine.endian 32 (λ x. byte_of_cell (p.loaded x)) a refl small)

-- heads are addresses of assert lines
module _ (f : Frame) (a : ℕ) where
  abbrev Among : List Assert → Type 0
  Among l = list_any (λ x. x.at == a) l ≡ true

  found_by : (x : Assert) (l : List Assert) (b : Bool) → x.at < 2 ^ 32 → (list_any (λ y. y.at == a) l ≡ true → a < 2 ^ 32) → (x.at == a) ≡ b → Among (x ∷ l) →
      a < 2 ^ 32
  found_by x l true low rest e h = subst (λ z. z < 2 ^ 32) (same_number x.at a e) low
  found_by x l false low rest e h = rest (sym (ap (λ z. z || list_any (λ y. y.at == a) l) e) ∙ h)

  low_if : (x : Assert) (l : List Assert) (b : Bool) → x.at < 2 ^ 32 → (Among (invariants_of f l) → a < 2 ^ 32) →
      Among (if b then x ∷ invariants_of f l else invariants_of f l) → a < 2 ^ 32
  low_if x l true low rest h = found_by x (invariants_of f l) (x.at == a) low rest refl h
  low_if x l false low rest h = rest h

  low_by : (l : List Assert) → ((x : Assert) → Contains l x → x.at < 2 ^ 32) → Among (invariants_of f l) → a < 2 ^ 32
  low_by [] low h = absurd (cc)
  low_by (x ∷ l) low h =
      low_if x l (is_invariant f x) (low x (0, omega arith, refl)) (low_by l (λ y c. low y (suc c.0, (let q = c.1 in omega arith), c.2))) h

  heads_low : ((x : Assert) → Contains f.program.notes.asserts x → x.at < 2 ^ 32) → is_head f a ≡ true → a < 2 ^ 32
  heads_low low h =
      low_by f.program.notes.asserts low (and_both f.cuts (list_any (λ x. x.at == a) (invariants_of f f.program.notes.asserts)) h).1

-- the points of the value are as many as those of the frame
pub count_points : (u : Unrolled) (qs : List Point) → length (points_of u qs) ≡ length qs
count_points u [] = refl
count_points u (q ∷ qs) = ap suc (count_points u qs)

-- a byte that is known below 2^32 is one of the file
known_small : (t : Bool) (x b : ℕ) → x < 256 → (if t then Some x else None) ≡ Some b → b < 256
known_small true x b small h = let same : x ≡ b = cc in subst (λ (n : ℕ). n < 256) same small
known_small false x b small h = absurd (cc)

below_by : (a n : ℕ) → nat_lt a n ≡ true → a < n
below_by a n e = grind (arith, nat_tests)

from_by : (a n : ℕ) → nat_lt a n ≡ false → n ≤ a
from_by a n e = grind (arith, nat_tests)

-- ---- lines over the words of a machine can be read

truth_of : (b : Bool) → IsTrue b → b ≡ true
truth_of b h = h

module _ (u : UnrolledProgram) (m : Machine) (registers : (r : ℕ) → list_any (nat_eq r) u.registers ≡ m.has_register r)
    (flags : (g : ℕ) → nat_lt g u.flags ≡ m.has_flag g) where
  can_read : (e : Expr) → IsOver m.has_register m.has_flag e → CanRead u e
  can_read (Number n) h = h
  can_read (Register r) h = registers r ∙ truth_of (m.has_register r) h
  can_read (Flag g) h = flags g ∙ truth_of (m.has_flag g) h
  can_read Pc h = tt
  can_read Bound h = tt
  can_read (Memory n a) h = (h.0, h.1, can_read a h.2)
  can_read (Old a) h = can_read a h
  can_read (Not a) h = can_read a h
  can_read (Binary op a b) h = (can_read a h.0, can_read b h.1)

  lines_read : (lines : List NoteLine) → All (λ l. IsOver m.has_register m.has_flag l.says) lines → CanReadLines u lines
  lines_read lines all l c = can_read l.says (All-contains (λ (x : NoteLine). IsOver m.has_register m.has_flag x.says) lines l all c)

  writes_read : (writes : List Writes) → All (λ w. IsOver m.has_register m.has_flag w.says × (1 ≤ w.count)) writes → CanReadWrites u writes
  writes_read writes all w c =
      let h = All-contains (λ (x : Writes). IsOver m.has_register m.has_flag x.says × (1 ≤ x.count)) writes w all c in (can_read w.says h.0, h.1)

-- ---- contracts by their addresses

found_by_test : (b : Bool) (y : Contract) (rest : List Contract) (a : ℕ) (x : Contract) → (contract_at rest a ≡ Some x → Contains rest x) →
    (if b then Some y else contract_at rest a) ≡ Some x → Contains (y ∷ rest) x
found_by_test true y rest a x later e = let same : y ≡ x = cc in subst (λ (z : Contract). Contains (y ∷ rest) z) same (here y rest)
found_by_test false y rest a x later e = there y rest x (later e)

found_inside : (l : List Contract) (a : ℕ) (x : Contract) → contract_at l a ≡ Some x → Contains l x
found_inside [] a x e = absurd (cc)
found_inside (y ∷ rest) a x e = found_by_test (y.at == a) y rest a x (found_inside rest a x) e

first_by : (y : Contract) (n : ℕ) (rest : List Contract) (a : ℕ) (x : Contract) (b : Bool) →
    (contract_at (take n rest) a ≡ Some x → contract_at rest a ≡ Some x) →
    (if b then Some y else contract_at (take n rest) a) ≡ Some x → (if b then Some y else contract_at rest a) ≡ Some x
first_by y n rest a x true h e = e
first_by y n rest a x false h e = h e

first_found : (n : ℕ) (l : List Contract) (a : ℕ) (x : Contract) → contract_at (take n l) a ≡ Some x → contract_at l a ≡ Some x
first_found zero l a x e = absurd (cc)
first_found (suc n) [] a x e = absurd (cc)
first_found (suc n) (y ∷ rest) a x e = first_by y n rest a x (y.at == a) (first_found n rest a x) e

-- ---- a function of a file

module _ (m : Machine) (form : Layout) (lawful : IsLawfulMachine m) (fitted : IsFitted m form) (file : List ℕ) (small : (i : ℕ) → slice_index file i < 256)
    (notes : Notes) (entry : ℕ) (invariants : List ℕ) (contracts : List Contract) (over : AreOver m.has_register m.has_flag notes)
    (place : IsAtPlace m.narrow entry) (callable : (x : Contract) → Contains contracts x → IsCallable m x) where
  abbrev w : Whole
  w = record { program = program_of m file notes entry; invariants = invariants; contracts = contracts }

  bytes_small : (n : Notes) (e a : ℕ) → byte_of_cell ((program_of m file n e).loaded a) < 256
  bytes_small n e a = cell_small file small a _

  reads_memory : (n : Notes) (e : ℕ) → ReadsMemory (program_of m file n e)
  reads_memory n e = record { word = λ s a. refl; little = lawful.little }

  places_of : (n : Notes) (e : ℕ) → IsAtPlace m.narrow e → HasPlaces (program_of m file n e)
  places_of n e at = has_places (program_of m file n e) form lawful fitted (reads_memory n e) (word_small (program_of m file n e) (bytes_small n e)) at

  low_register : (r : ℕ) → m.has_register r ≡ true → r < 32
  low_register r h =
      below_register form.first (length form.registers) r fitted.low_registers (sym (fitted.registers r) ∙ h)
    where
      below_register : (a b r : ℕ) → a + b ≤ 32 → (nat_le a r && nat_lt r (a + b)) ≡ true → r < 32
      below_register a b r l h = let less = (and_both (nat_le a r) (nat_lt r (a + b)) h).1 in grind (arith, nat_tests)

  low_flag : (g : ℕ) → m.has_flag g ≡ true → g < 4
  low_flag g h = below_count (length form.flags) g fitted.few_flags (sym (fitted.flags g) ∙ h)
    where
      below_count : (n g : ℕ) → n ≤ 4 → nat_lt g n ≡ true → g < 4
      below_count n g l h = grind (arith, nat_tests)

  -- the frame of a rank, by its contract, if it is one's
  module _ (rank : ℕ) where
    lawful_by : (o : Option Contract) → HasLawfulRows (frame_by w rank o).program
    lawful_by None = file_rows_lawful m file notes entry lawful small
    lawful_by (Some x) = file_rows_lawful m file (notes_by notes (Some x)) x.at lawful small

    reads_by : (o : Option Contract) → ReadsMemory (frame_by w rank o).program
    reads_by None = reads_memory notes entry
    reads_by (Some x) = reads_memory (notes_by notes (Some x)) x.at

    known_byte_by : (o : Option Contract) (a : ℕ) → byte_of_cell ((frame_by w rank o).program.loaded a) < 256
    known_byte_by None a = bytes_small notes entry a
    known_byte_by (Some x) a = bytes_small (notes_by notes (Some x)) x.at a

    over_by : (o : Option Contract) → slice_get contracts rank ≡ o → AreOver m.has_register m.has_flag (frame_by w rank o).program.notes
    over_by None is = over
    over_by (Some x) is = record { requires = (callable x (at_in contracts rank x is)).needs; ensures = λ i d l. absurd (omega arith); asserts = over.asserts }

    places_by : (o : Option Contract) → slice_get contracts rank ≡ o → HasPlaces (frame_by w rank o).program
    places_by None is = places_of notes entry place
    places_by (Some x) is = places_of (notes_by notes (Some x)) x.at (callable x (at_in contracts rank x is)).place

    stepped_by : (o : Option Contract) (a : ℕ) (x : Contract) → contract_at (frame_by w rank o).stepped a ≡ Some x → contract_at contracts a ≡ Some x
    stepped_by None a x e = e
    stepped_by (Some y) a x e = first_found rank contracts a x e

    own_by : (o : Option Contract) → slice_get contracts rank ≡ o → (x : Contract) → (frame_by w rank o).own ≡ Some x → Contains contracts x
    own_by None is x e = absurd (cc)
    own_by (Some y) is x e = at_in contracts rank x (is ∙ e)

    ensures_by : (o : Option Contract) (x : Contract) → (frame_by w rank o).own ≡ Some x → (frame_by w rank o).program.notes.ensures ≡ []
    ensures_by None x e = absurd (cc)
    ensures_by (Some y) x e = refl

    machine_by : (o : Option Contract) → (frame_by w rank o).program.machine ≡ m
    machine_by None = refl
    machine_by (Some x) = refl

    among_by : (o : Option Contract) → slice_get contracts rank ≡ o → IsAmong (frame_by w rank o) contracts
    among_by o is = record {
      stepped = stepped_by o;
      places = λ some. places_by o is;
      own = λ x e. record {
        inside = own_by o is x e;
        ensures = ensures_by o x e;
        registers = λ r h. low_register r (ap (λ (z : Machine). z.has_register r) (sym (machine_by o)) ∙ h);
        flags = λ g h. low_flag g (ap (λ (z : Machine). z.has_flag g) (sym (machine_by o)) ∙ h);
      };
    }

  module _ (rank : ℕ) (u : Unrolled) where
    abbrev f : Frame
    f = frame_of w rank

    abbrev o : Option Contract
    o = slice_get contracts rank

    module _ (k max : ℕ) (words : (x : Assert) → Contains f.program.notes.asserts x → x.at < 2 ^ 32) (low : f.program.entry < 2 ^ 32) (most : max ≤ 16777216)
        (un : IsUnrolling f contracts k (frame_unrolled_of u)) (formed : IsFormed u) (roots : AreRootsFormed u) (steps : AreStepsFormed u)
        (heads : u.heads ≡ has_heads f) (few : length u.points.items ≤ max) (has : HasForm m u)
        (addresses : (i : ℕ) → i < length (frame_unrolled_of u).points → (point_at (frame_unrolled_of u) i).point.at < 2 ^ 32)
        (layout : layout_of u.form ≡ form) (runs : AreRuns u.known.items)
        (beyond : (x : ℕ) → 2 ^ 32 ≤ x → byte_of_runs (frame_unrolled_of u).known x ≡ None) (own : BeginAtOwn u) (first : IsEntryFirst u)
        (headed : AreHeaded u) where
      laid : IsLaidOut form (inputs_of (frame_unrolled_of u))
      laid = subst (λ (l : Layout). IsLaidOut l (inputs_of (frame_unrolled_of u))) layout (record { registers = has.laid.registers; flags = has.laid.flags })

      counted : length (frame_unrolled_of u).points ≤ max
      counted = subst (λ (n : ℕ). n ≤ max) (sym (count_points u u.points.items)) few

      known_by : (a n : ℕ) (t : Bool) → nat_lt a (2 ^ 32) ≡ t → byte_of_runs (frame_unrolled_of u).known a ≡ Some n → n < 256
      known_by a n true e h =
          known_small (is_known_at f.program a) (byte_of_cell (f.program.loaded a)) n (known_byte_by rank o a) (sym (un.known a (below_by a (2 ^ 32) e)) ∙ h)
      known_by a n false e h = absurd (let same : None ≡ Some n = sym (beyond a (from_by a (2 ^ 32) e)) ∙ h in cc)

      registers : (r : ℕ) → list_any (nat_eq r) (frame_unrolled_of u).registers ≡ m.has_register r
      registers r = un.registers r ∙ ap (λ (z : Machine). z.has_register r) (machine_by rank o)

      flags : (g : ℕ) → nat_lt g (frame_unrolled_of u).flags ≡ m.has_flag g
      flags g = un.flags g ∙ ap (λ (z : Machine). z.has_flag g) (machine_by rank o)

      readable : AreReadableBy (inputs_of (frame_unrolled_of u)) f.program.notes
      readable = all_readable (inputs_of (frame_unrolled_of u)) m.has_register m.has_flag f.program.notes registers flags (over_by rank o refl)

      own_read : (x : Contract) → f.own ≡ Some x → CanReadLines (frame_unrolled_of u) x.gives × CanReadWrites (frame_unrolled_of u) x.writes
      own_read x e =
          let is = callable x (own_by rank o refl x e) in
          (lines_read (frame_unrolled_of u) m registers flags x.gives is.gives, writes_read (frame_unrolled_of u) m registers flags x.writes is.writes)

      stepped_is : (a : ℕ) (x : Contract) → contract_at f.stepped a ≡ Some x → IsCallable m x
      stepped_is a x e = callable x (found_inside contracts a x (stepped_by rank o a x e))

      steps_read : (a : ℕ) (x : Contract) → contract_at f.stepped a ≡ Some x → CanReadLines (frame_unrolled_of u) x.needs
          × CanReadLines (frame_unrolled_of u) x.gives × CanReadWrites (frame_unrolled_of u) x.writes
      steps_read a x e =
          let is = stepped_is a x e in (
            lines_read (frame_unrolled_of u) m registers flags x.needs is.needs,
            lines_read (frame_unrolled_of u) m registers flags x.gives is.gives,
            writes_read (frame_unrolled_of u) m registers flags x.writes is.writes,
          )

      fitted_frame : IsFitted f.program.machine form
      fitted_frame = subst (λ (z : Machine). IsFitted z form) (sym (machine_by rank o)) fitted

      fits : AreFitted f (frame_unrolled_of u)
      fits = record {
        registers = λ a n x e c. registers n ∙ (stepped_is a x e).registers n (found_in x.registers n c);
        flags = λ a n x e c. flags n ∙ (stepped_is a x e).flags n (found_in x.flags n c);
        low = λ a n x e h. low_register n (sym (registers n) ∙ h);
      }

      pub is_unrolled : IsFrameUnrolled f contracts k form u
      is_unrolled = record {
        measurable = record {
          walkable = frame_unrolling_is_walkable f contracts k (frame_unrolled_of u) un form fitted_frame laid readable own_read steps_read low addresses;
          formed = formed;
          roots = roots;
          steps = steps;
          headed = headed;
          own = own;
          first = first;
          bytes = λ a n h. known_by a n (nat_lt a (2 ^ 32)) refl h;
          runs = runs;
        };
        places = places_by rank o refl;
        ground = record {
          lawful = lawful_by rank o;
          reads = reads_by rank o;
          low = λ a h. heads_low f a words h;
          among = among_by rank o refl;
          fits = fits;
          unrolling = un;
          heads = heads;
          form = layout;
          steps = omega (arith, counted, most);
        };
      }

-- what comes of unrolling the frame of a rank, told of an equal frame, is that, if anything
module _ (m : Machine) (form : Layout) (lawful : IsLawfulMachine m) (fitted : IsFitted m form) (file : List ℕ) (small : (i : ℕ) → slice_index file i < 256)
    (notes : Notes) (entry : ℕ) (invariants : List ℕ) (contracts : List Contract) (over : AreOver m.has_register m.has_flag notes)
    (place : IsAtPlace m.narrow entry) (callable : (x : Contract) → Contains contracts x → IsCallable m x) (rank k max : ℕ) (most : max ≤ 16777216)
    (g : Frame) (same : g ≡ frame_of (record { program = program_of m file notes entry; invariants = invariants; contracts = contracts }) rank)
    (listed : List Contract) (those : listed ≡ contracts)
    (words : (x : Assert) → Contains g.program.notes.asserts x → x.at < 2 ^ 32) (low : g.program.entry < 2 ^ 32) where
  abbrev h : Frame
  h = frame_of (record { program = program_of m file notes entry; invariants = invariants; contracts = contracts }) rank

  pub unrolled_rank : {E : Type 0} (r : Result Unrolled E) → IfOk r (λ u. IsUnrolling g listed k (frame_unrolled_of u)) → IfOk r (λ u. IsFormed u) →
      IfOk r (λ u. AreRootsFormed u) → IfOk r (λ u. AreStepsFormed u) → IfOk r (λ u. u.heads ≡ has_heads g) → IfOk r (λ u. length u.points.items ≤ max) →
      IfOk r (λ u. HasForm m u) →
      IfOk r (λ u. (i : ℕ) → i < length (frame_unrolled_of u).points → (point_at (frame_unrolled_of u) i).point.at < 2 ^ 32) →
      IfOk r (λ u. layout_of u.form ≡ form) → IfOk r (λ u. AreRuns u.known.items) →
      ((x : ℕ) → 2 ^ 32 ≤ x → IfOk r (λ u. byte_of_runs (frame_unrolled_of u).known x ≡ None)) → IfOk r (λ u. BeginAtOwn u) → IfOk r (λ u. IsEntryFirst u) →
      IfOk r (λ u. AreHeaded u) → IfOk r (IsFrameUnrolled h contracts k form)
  unrolled_rank (Ok u) un formed roots steps heads few has addresses layout runs beyond own first headed =
      is_unrolled m form lawful fitted file small notes entry invariants contracts over place callable rank u k max
      (subst (λ (z : Frame). (x : Assert) → Contains z.program.notes.asserts x → x.at < 2 ^ 32) same words)
      (subst (λ (z : Frame). z.program.entry < 2 ^ 32) same low) most
      (subst (λ (z : Frame). IsUnrolling z contracts k (frame_unrolled_of u)) same
      (subst (λ (z : List Contract). IsUnrolling g z k (frame_unrolled_of u)) those un))
      formed roots steps (subst (λ (z : Frame). u.heads ≡ has_heads z) same heads) few has addresses layout runs beyond own first headed
  unrolled_rank (Err e) un formed roots steps heads few has addresses layout runs beyond own first headed = tt

-- the passive program of an unrolled frame that can be measured can be asked
pub askable : (u : Unrolled) (q : Passive) → IsFrameMeasurable u → q.unrolled.now ≡ u → IsPassive (frame_unrolled_of u) u.heads (frame_passive_of q) →
    IsFrameAskable q
askable u q measurable of passive = record {
  walkable = subst (λ (z : Unrolled). IsWalkable (frame_unrolled_of z)) (sym of) measurable.walkable;
  bytes = subst (λ (z : Unrolled). (a n : ℕ) → byte_of_runs (frame_unrolled_of z).known a ≡ Some n → n < 256) (sym of) measurable.bytes;
  runs = subst (λ (z : Unrolled). AreRuns z.known.items) (sym of) measurable.runs;
  roots = subst AreRootsFormed (sym of) measurable.roots;
  own = subst BeginAtOwn (sym of) measurable.own;
  first = subst IsEntryFirst (sym of) measurable.first;
  passive = subst (λ (z : Unrolled). IsPassive (frame_unrolled_of z) z.heads (frame_passive_of q)) (sym of) passive;
}
