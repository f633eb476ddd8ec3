-- One side of a question about two functions: what its terms and its cells say of a reading.
use Rattle.std.proofs.Common.{◌≡◌, refl, ap, sym, ◌∙◌, arith, ℕ, suc, ◌^◌, ◌<◌, [], ◌∷◌, List, Option, Some, None, Bool, true, false, length}
use Rattle.std.specs.Prelude.{◌++◌, ◌==◌, ◌&&◌, ◌||◌, Contains, All, is_some, map, if◌then◌else◌}
use Rattle.std.specs.List.{list_any, flat_map}
use Rattle.std.proofs.lemmas.Bool.{or_left, or_right}
use Rattle.std.proofs.lemmas.Bool.Decides.{nat_tests}
use Rattle.word_spec.specs.Memory.{Little}
use Rattle.word_spec.specs.State.{State}
use Rattle.bilv_spec.specs.Elf.{Cell}
use Rattle.bilv_spec.specs.Notes.{Expr, Number, Register, Flag, Pc, Bound, Memory, Old, Not, Binary, value}
use Rattle.bilv_spec.specs.Run.{Program, is_kept}
use Rattle.bilv_spec.specs.Verdict.{fixed}
use Rattle.bilv_spec.specs.Points.{Point, byte_of_cell, is_known_at}
use Rattle.bilv_spec.specs.LiveFlags.{names_flag}
use Rattle.bilv_spec.specs.Questions.{Reading, IsReading, IsEntryStateOver, by_file, point_of}
use Rattle.bilv_spec.specs.Evidence.{AgreesOn}
use Rattle.bilv_spec.specs.PointLaws.{HasLawfulRows}
use Rattle.term_spec.specs.Terms.{TermReading, TermNode, with_mem, term_word}
use Rattle.walk_spec.specs.Unrolled.{Carried, state_at, UnrolledProgram}
use Rattle.walk_spec.specs.Unrolling.{IsUnrolling}
use Rattle.term_spec.specs.WalkQuestions.{MeetsLines, HasAsked, term_reading}
use Rattle.term_spec.specs.TermLaws.{AsksLiterals}
use Rattle.term_spec.specs.Cells.{AreFormed, IsAllowed, Agreement, AskedByte}
use Rattle.term_spec.proofs.EntrySame.{entry_over}
use Rattle.walk_laws.proofs.CellValues.{Agree, node_same, node_in, same_term, word_same}
use Rattle.walk_laws.proofs.BaseBytes.{gives, agree_all}
use Rattle.walk_laws.proofs.InputPlaces.{spot, spot_is}
use Rattle.walk_laws.proofs.InputsWithin.{reading_in_range}
use Rattle.term_spec.specs.ClauseForm.{reading}
use Rattle.walk_laws.proofs.InputReadings.{of, of_in_range}
use Rattle.pair_spec.specs.Links.{Link, EqualAtEntry, EqualAtExit, SharedBytes, SameBytes, ComparesAlike, addresses, asking, compares_flag, named_by, Kind, IsRegister, IsFlag, IsNeither, kind_of, AreAlike}
use Rattle.call_spec.specs.Calls.{PairQuestion, DifferenceOfExits}
use Rattle.pair_spec.specs.Pairs.{ReadingExitsIn}
use Rattle.pair_spec.specs.PairTerms.{SideTerm, SideCells, SideEnds, HaveWidths, WalkLeaves, all_entry_words, all_exit_words, entry_widths, exit_widths, exit_words, words_at}
use Rattle.pair_spec.specs.PairLayers.{IsPairSide}
use Rattle.pair_spec.proofs.Asking.{step_same, read_same, points_of}
use Rattle.pair_spec.proofs.LinkWords.{words_in, apply_append}
use Rattle.pair_spec.proofs.LeavingRuns.{IsCarriedOut, to_walk, from_walk}

-- ---- words of places

same_words_of : (x y : TermReading) (nodes : List TermNode) (places widths : List ℕ) → HaveWidths nodes places widths →
    ((i : ℕ) → i < length nodes → term_word x nodes i ≡ term_word y nodes i) → map (term_word x nodes) places ≡ map (term_word y nodes) places
same_words_of x y nodes [] [] h f = refl
same_words_of x y nodes [] (n ∷ ns) h f = absurd h
same_words_of x y nodes (i ∷ is) [] h f = absurd h
same_words_of x y nodes (i ∷ is) (n ∷ ns) h f =
    ap (λ z. z ∷ map (term_word x nodes) is) (f i h.0.0) ∙ ap (λ z. term_word y nodes i ∷ z) (same_words_of x y nodes is ns h.1 f)

-- ---- words of links at the exit

same_number : (a : ℕ) → (a == a) ≡ true
same_number a = grind (arith, nat_tests)

module _ (s t : State) (regs : s.regs ≡ t.regs) (mem : s.mem ≡ t.mem) where
  by_name : (x : Expr) → AreAlike (kind_of x) (kind_of x) → ((f : ℕ) → x ≡ Flag f → s.flags f ≡ t.flags f) → value Little x s s ≡ value Little x t t
  by_name (Number n) h f = refl
  by_name (Register n) h f = ap (λ z. z n) regs
  by_name (Flag n) h f = f n refl
  by_name Pc h f = absurd h
  by_name Bound h f = absurd h
  by_name (Memory n x) h f = absurd h
  by_name (Old x) h f = absurd h
  by_name (Not x) h f = absurd h
  by_name (Binary op x y) h f = absurd h

  words_of_bytes : (places : List ℕ) → words_in s (map (λ a (z : State). z.mem a) places) ≡ words_in t (map (λ a (z : State). z.mem a) places)
  words_of_bytes [] = refl
  words_of_bytes (a ∷ places) = ap (λ z. z a ∷ words_in s (map (λ a (z : State). z.mem a) places)) mem ∙ ap (λ z. t.mem a ∷ z) (words_of_bytes places)

alike_left : (k l : Kind) → AreAlike k l → AreAlike k k
alike_left IsRegister IsRegister h = tt
alike_left IsFlag IsFlag h = tt
alike_left IsRegister IsFlag h = absurd h
alike_left IsRegister IsNeither h = absurd h
alike_left IsFlag IsRegister h = absurd h
alike_left IsFlag IsNeither h = absurd h
alike_left IsNeither l h = absurd h

alike_right : (k l : Kind) → AreAlike k l → AreAlike l l
alike_right IsRegister IsRegister h = tt
alike_right IsFlag IsFlag h = tt
alike_right IsRegister IsFlag h = absurd h
alike_right IsRegister IsNeither h = absurd h
alike_right IsFlag IsRegister h = absurd h
alike_right IsFlag IsNeither h = absurd h
alike_right IsNeither l h = absurd h

alike_named : (side : Bool) (x y : Expr) → AreAlike (kind_of x) (kind_of y) → AreAlike (kind_of (named_by side x y)) (kind_of (named_by side x y))
alike_named true x y h = alike_right (kind_of x) (kind_of y) h
alike_named false x y h = alike_left (kind_of x) (kind_of y) h

-- two states that have the same registers, memory and compared flags have the same words
module _ (side : Bool) (s t : State) (regs : s.regs ≡ t.regs) (mem : s.mem ≡ t.mem) where
  one_link : (l : Link) → ComparesAlike l → ((f : ℕ) → compares_flag side f l ≡ true → s.flags f ≡ t.flags f) →
      words_in s (exit_words side l) ≡ words_in t (exit_words side l)
  one_link (EqualAtExit n x y) h f =
      ap (λ z. z ∷ []) (by_name s t regs mem (named_by side x y) (alike_named side x y h)
      (λ g e. f g (ap (names_flag g) e ∙ same_number g)))
  one_link (SameBytes n low high) h f = words_of_bytes s t regs mem (addresses low high)
  one_link (EqualAtEntry n x y) h f = refl
  one_link (SharedBytes n low high) h f = refl

  pub exit_words_same : (links : List Link) → All ComparesAlike links → ((f : ℕ) → list_any (compares_flag side f) links ≡ true → s.flags f ≡ t.flags f) →
      words_in s (all_exit_words side links) ≡ words_in t (all_exit_words side links)
  exit_words_same [] h f = refl
  exit_words_same (l ∷ links) h f =
      apply_append s (exit_words side l) (all_exit_words side links)
      ∙ ap (λ z. z ++ words_in s (all_exit_words side links))
      (one_link l (h 0 l (omega arith)) (λ g e. f g (or_left (compares_flag side g l) (list_any (compares_flag side g) links) e)))
      ∙ ap (λ z. words_in t (exit_words side l) ++ z)
      (exit_words_same links (λ i d m. h (suc i) d (omega arith)) (λ g e. f g (or_right (compares_flag side g l) (list_any (compares_flag side g) links) e)))
      ∙ sym (apply_append t (exit_words side l) (all_exit_words side links))

-- ---- what a side asks, of a reading

module _ (p : Program) (k : ℕ) (side : Bool) (links : List Link) (question : PairQuestion) (asked : ℕ → Bool) (u : UnrolledProgram)
    (t : SideTerm) (c : SideCells) (layered : IsPairSide p k side links question asked u t c) where
  -- the flags that are asked for
  abbrev out : ℕ → Bool
  out f = list_any (compares_flag side f) links

  abbrev pub un : IsUnrolling (asking side links p) k u
  un = layered.unrolling

  abbrev formed : AreFormed u c.cells
  formed = layered.cells.formed

  pub lawful : HasLawfulRows (asking side links p)
  lawful a row e = layered.lawful a row e

  pub literals : AsksLiterals (asking side links p) k asked
  literals a i h l =
      layered.asks_literals a i
      (record {
        point = h.point;
        is_point = points_of p out p.out k h.point h.is_point;
        row = h.row;
        is_row = h.is_row;
        loads = h.loads;
        is_kept = h.is_kept;
      }) l

  pub over_from : (s : State) → IsEntryStateOver (asking side links p) asked s → IsEntryStateOver p asked s
  over_from s e = record { state = e.state; pc = e.pc; link = e.link; bytes = e.bytes; requires = e.requires }

  pub over_to : (s : State) → IsEntryStateOver p asked s → IsEntryStateOver (asking side links p) asked s
  over_to s e = record { state = e.state; pc = e.pc; link = e.link; bytes = e.bytes; requires = e.requires }

  pub exits_from : (r : Reading) (s : State) → ReadingExitsIn (asking side links p) k r s → ReadingExitsIn p k r s
  exits_from r s e = record {
    number = e.number;
    turns = e.turns;
    place = e.place;
    before = sym (read_same p out k r e.number) ∙ e.before;
    leaves = sym (step_same (by_file p) out r.state e.place (r.choice (point_of e.turns e.place))) ∙ e.leaves;
  }

  pub exits_to : (r : Reading) (s : State) → ReadingExitsIn p k r s → ReadingExitsIn (asking side links p) k r s
  exits_to r s e = record {
    number = e.number;
    turns = e.turns;
    place = e.place;
    before = read_same p out k r e.number ∙ e.before;
    leaves = step_same (by_file p) out r.state e.place (r.choice (point_of e.turns e.place)) ∙ e.leaves;
  }

  -- the reading as the cells are read under it
  abbrev pub read_as : Reading → TermReading
  read_as r = of (asking side links p) k u un c.cells formed r

  -- a term names no base read
  no_base : (r : Reading) (i : ℕ) → i < length t.nodes → term_word (read_as r) t.nodes i ≡ term_word (term_reading u r) t.nodes i
  no_base r i l =
      same_term (read_as r) (term_reading u r) t.nodes i
      (λ j le ws. node_same u 0 (read_as r) (term_reading u r) (record {
        regs = λ n h. refl;
        flags = λ f h. refl;
        choice = λ n h. refl;
        base = λ n h. absurd (omega arith);
      }) ws _ (layered.term.terms.named _ (node_in t.nodes j (omega arith))) (λ e. refl)) l

  root_is : (r : Reading) → IsReading r → term_word (read_as r) c.cells.nodes c.cells.root ≡ term_word (term_reading u r) t.nodes t.root
  root_is r is =
      layered.cells.same (read_as r) (of_in_range (asking side links p) k u un c.cells formed r is) (gives u c.cells formed (term_reading u r))
      ∙ no_base r t.root layered.term.root.0

  -- the words at the entry are those of the reading's state
  pub entry_words_are : (r : Reading) → IsReading r → r.state.pc ≡ u.entry → words_at (read_as r) c c.entries ≡ words_in r.state (all_entry_words side links)
  entry_words_are r is pc =
      layered.cells.entries (read_as r) (of_in_range (asking side links p) k u un c.cells formed r is) (gives u c.cells formed (term_reading u r))
      ∙ same_words_of (read_as r) (term_reading u r) t.nodes t.entries (flat_map entry_widths links) layered.term.entry_widths (no_base r)
      ∙ layered.term.entry_values r is pc

  -- those at the exit are those of the state in which the run exits
  pub exit_words_are : All ComparesAlike links → question ≡ DifferenceOfExits → (r : Reading) (o : Carried) (pc : ℕ) (s : State) → IsReading r →
      r.state.pc ≡ u.entry → MeetsLines u r.state → WalkLeaves u r o pc → IsCarriedOut (asking side links p) s o pc → words_at (read_as r) c c.exits ≡ words_in s (all_exit_words side links)
  exit_words_are alike e r o pc s is at lines leaves carried =
      layered.cells.exits (read_as r) (of_in_range (asking side links p) k u un c.cells formed r is) (gives u c.cells formed (term_reading u r))
      ∙ same_words_of (read_as r) (term_reading u r) t.nodes t.exits (flat_map exit_widths links) (layered.term.exit_widths e) (no_base r)
      ∙ layered.term.exit_values e r o pc is at lines leaves
      ∙ exit_words_same side (state_at o pc) s carried.regs carried.mem links alike
      (λ f h. carried.flags f (or_left (list_any (compares_flag side f) links) (list_any (λ l. names_flag f l.says) p.notes.ensures) h))

  -- the required lines are true in an entry state over the asked bytes
  pub lines_are : (r : Reading) → IsEntryStateOver (asking side links p) asked r.state → MeetsLines u r.state
  lines_are r over = ((entry_over (asking side links p) k u un asked layered.asks_known r.state).1 over).lines

  -- a reading whose root is 1 and that has the asked bytes begins in an entry state and ends as is asked, and back
  pub from_root : (r : Reading) → IsReading r → r.state.pc ≡ u.entry → HasAsked u asked r.state.mem →
      term_word (read_as r) c.cells.nodes c.cells.root ≡ 1 → IsEntryStateOver (asking side links p) asked r.state × SideEnds u r question
  from_root r is pc has e =
      let m = (layered.term.means r is pc).0 (sym (root_is r is) ∙ e) in
      ((entry_over (asking side links p) k u un asked layered.asks_known r.state).0 (record { state = is.state; pc = pc; lines = m.0; bytes = has }), m.1)

  pub to_root : (r : Reading) → IsReading r → IsEntryStateOver (asking side links p) asked r.state → SideEnds u r question →
      (r.state.pc ≡ u.entry) × HasAsked u asked r.state.mem × (term_word (read_as r) c.cells.nodes c.cells.root ≡ 1)
  to_root r is over ends =
      let m = (entry_over (asking side links p) k u un asked layered.asks_known r.state).1 over in
      (m.pc, m.bytes, root_is r is ∙ (layered.term.means r is m.pc).1 (m.lines, ends))

  pub allowed : (r : Reading) → IsReading r → HasAsked u asked r.state.mem → IsAllowed c.cells (read_as r)
  allowed r is has =
      layered.cells.sound (read_as r) (of_in_range (asking side links p) k u un c.cells formed r is) (gives u c.cells formed (term_reading u r)) has

  -- all of the cells hangs on the inputs
  pub allowed_same : (y z : TermReading) → Agree u (length c.cells.addresses) y z → IsAllowed c.cells y → IsAllowed c.cells z
  allowed_same y z a h = record { agrees = agrees; asked = bytes }
    where
      agrees : (x : Agreement) → Contains c.cells.agrees x → term_word z c.cells.nodes x.condition ≡ 1 → z.base 0 x.read ≡ z.base 0 x.other
      agrees x m e =
          let f = formed.agrees x m in
          sym (a.base x.read f.1) ∙ h.agrees x m (word_same u c.cells formed y z a x.condition f.0.0 ∙ e) ∙ a.base x.other f.2

      bytes : (x : AskedByte) → Contains c.cells.asked x → term_word z c.cells.nodes x.condition ≡ 1 → z.base 0 x.read ≡ x.byte
      bytes x m e =
          let f = formed.asked x m in
          sym (a.base x.read f.1) ∙ h.asked x m (word_same u c.cells formed y z a x.condition f.0.0 ∙ e)

  pub root_same : (y z : TermReading) → Agree u (length c.cells.addresses) y z → term_word y c.cells.nodes c.cells.root ≡ term_word z c.cells.nodes c.cells.root
  root_same y z a = word_same u c.cells formed y z a c.cells.root formed.root.0

  pub entries_same : (y z : TermReading) → Agree u (length c.cells.addresses) y z → words_at y c c.entries ≡ words_at z c c.entries
  entries_same y z a =
      same_words_of y z c.cells.nodes c.entries (flat_map entry_widths links) layered.cells.entry_widths (λ i l. word_same u c.cells formed y z a i l)

  pub exits_same : question ≡ DifferenceOfExits → (y z : TermReading) → Agree u (length c.cells.addresses) y z → words_at y c c.exits ≡ words_at z c c.exits
  exits_same e y z a =
      same_words_of y z c.cells.nodes c.exits (flat_map exit_widths links) (layered.cells.exit_widths e) (λ i l. word_same u c.cells formed y z a i l)

  -- a memory that agrees with the file has the asked bytes
  asked_by : (s : State) → AgreesOn p asked s → (a b : ℕ) (o : Option Cell) (q : Bool) → a < 2 ^ 32 → asked a ≡ true → p.loaded a ≡ o → is_known_at p a ≡ q →
      (if q then Some (byte_of_cell o) else None) ≡ Some b → s.mem a ≡ b
  asked_by s f a b o false l ask e h g = absurd (cc)
  asked_by s f a b (Some x) true l ask e h g = f a x l e ask ∙ (cc)
  asked_by s f a b None true l ask e h g = absurd (let z : false ≡ true = ap (λ x. is_kept x || (is_some x && fixed p.notes.fixed a)) (sym e) ∙ h in cc)

  pub has_asked : (s : State) → AgreesOn p asked s → HasAsked u asked s.mem
  has_asked s f a b l e ask = asked_by s f a b (p.loaded a) (is_known_at p a) l ask refl refl (sym (un.known a l) ∙ e)

  -- where the run exits, the walk leaves, and back
  pub leaves_at : (r : Reading) → ((point : Point) → r.choice point < 4) → IsEntryStateOver p asked r.state → (s : State) → ReadingExitsIn p k r s →
      (o : Carried) × (pc : ℕ) × WalkLeaves u r o pc × IsCarriedOut (asking side links p) s o pc
  leaves_at r small e s h = to_walk (asking side links p) lawful k u un asked literals r small (over_to r.state e) s (exits_to r s h)

  pub exits_at : (r : Reading) → ((point : Point) → r.choice point < 4) → IsEntryStateOver (asking side links p) asked r.state → (o : Carried) (pc : ℕ) →
      WalkLeaves u r o pc → (s : State) × ReadingExitsIn p k r s × IsCarriedOut (asking side links p) s o pc
  exits_at r small e o pc h =
      let x = from_walk (asking side links p) lawful k u un asked literals r small e o pc h in (x.0, exits_from r x.0 x.1, x.2)

  -- allowed values come from a reading that has the asked bytes
  pub comes_made : (v : ℕ → Bool) → IsAllowed c.cells (reading u c.cells v) → (r : Reading) × IsReading r × (r.state.pc ≡ u.entry)
      × HasAsked u asked r.state.mem × Agree u (length c.cells.addresses) (reading u c.cells v) (read_as r)
  comes_made v allows =
      let range = reading_in_range u c.cells v in
      let m = layered.cells.complete (reading u c.cells v) range allows in
      let r : Reading = record {
        state = record { pc = u.entry; regs = (reading u c.cells v).regs 0; flags = (reading u c.cells v).flags 0; mem = m.0 };
        choice = λ x. (reading u c.cells v).choice (spot (asking side links p) k u un c.cells x);
      } in
      let is : IsReading r = record {
        state = record { pc = layered.fitting.entry; regs = range.regs 0; flags = range.flags 0; mem = m.1 };
        choice = λ x. range.choice (spot (asking side links p) k u un c.cells x);
      } in
      let a = agree_all u c.cells formed (with_mem (reading u c.cells v) m.0) (read_as r) (record {
        regs = λ n h. refl;
        flags = λ f h. refl;
        choice = λ i d. ap (reading u c.cells v).choice (sym (spot_is (asking side links p) k u un c.cells i d.0));
        base = λ j h. absurd (omega arith);
      }) m.3 (gives u c.cells formed (term_reading u r)) (λ j l. refl) in
      (r, is, refl, m.2, record { regs = a.regs; flags = a.flags; choice = a.choice; base = a.base })
