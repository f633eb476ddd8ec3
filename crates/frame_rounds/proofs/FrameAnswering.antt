-- What the layers below the clauses say of a question of a frame gives its answer.
use Rattle.std.proofs.Common.{◌≡◌, inl, inr, refl, ap, sym, ◌∙◌, subst, add-one, arith, ℕ, zero, suc, ◌+◌, ◌<◌, ◌^◌, Bool, true, false, List, [], ◌∷◌, Option, Some, None, length}
use Rattle.std.specs.Prelude.{◌&&◌, ◌==◌, if◌then◌else◌, slice_get, All, Contains}
use Rattle.std.proofs.lemmas.Nat.{mod_below}
use Rattle.std.proofs.Math.Path.{fun_ext}
use Rattle.word_spec.specs.Words.{add, bit_at, word}
use Rattle.word_spec.specs.Memory.{Memory}
use Rattle.word_spec.specs.State.{State, Written}
use Rattle.clause_spec.specs.Clauses.{Cnf, Satisfies}
use Rattle.clause_spec.specs.Refutation.{LogLine, IsRefutation}
use Rattle.clause_spec.specs.Empowering.{IsSpent}
use Rattle.clause_spec.proofs.RefutationSound.{refutation_sound}
use Rattle.machine_spec.specs.StateText.{Layout, IsWritten, known_or, register_at, start_of}
use Rattle.bilv_spec.specs.Answers.{known_byte}
use Rattle.bilv_spec.specs.Points.{is_known_at, byte_of_cell}
use Rattle.bilv_spec.specs.Verdict.{IsEntryState}
use Rattle.walk_spec.specs.Unrolled.{byte_of_runs}
use Rattle.walk_spec.specs.Unrolling.{IsLaidOut}
use Rattle.frame_spec.specs.Frames.{Contract, Frame, content_at}
use Rattle.frame_spec.specs.FramePoints.{Anchor, AtEntry, AtHead, IsAnchor, has_heads}
use Rattle.frame_spec.specs.FrameQuestions.{Question, EntryQuestion, FailQuestion, StepQuestion, TurnQuestion, asks_head, Reading, IsTrueOver, read_run}
use Rattle.frame_spec.specs.FrameReports.{AreOfQuestion, IsShown, Refutes, Spends, WrittenCall, shown_start}
use Rattle.frame_spec.specs.FrameRuns.{Calling, Start}
use Rattle.frame_spec.specs.FrameUnrolling.{IsRootOf}
use Rattle.frame_spec.specs.FrameVerdict.{RunFails, RunTurns, Whole}
use Rattle.frame_spec.specs.FrameWalk.{Root, UnrolledProgram, point_at, root_at}
use Rattle.frame_spec.proofs.Prefix.{Numbered, numbered as step_numbered}
use Rattle.frame_laws.specs.RunOfFrame.{AsksLiterals}
use Rattle.term_spec.specs.Terms.{TermReading}
use Rattle.term_spec.specs.WalkQuestions.{QuestionTerm, is_asked}
use Rattle.frame_terms.specs.FrameCells.{Cells, TellsCells}
use Rattle.frame_terms.specs.FrameClauseForm.{MakesTrue, PartInput, TellsClauses, bit_of, input_list}
use Rattle.frame_terms.specs.FrameLayers.{IsFitting, IsLayered}
use Rattle.frame_terms.specs.FrameStarts.{AreCalls, IsCallOf, AreChoices, AreParts, AreTold, GiveStarts, HasValues, IsWrittenAnchor, ShownEnds, ShownEndsAtHead, ShownEndsBy, WrittenParts, shown_of, written_content}
use Rattle.frame_terms.specs.PassiveFrames.{IsWalkable, TellsQuestion, inputs_of, part_reading}
use Rattle.frame_terms.proofs.FrameAsked.{frame_asked_is_right}
use Rattle.frame_terms.proofs.FrameClauses.{frame_clauses_of_question}
use Rattle.frame_terms.proofs.FrameReadings.{gives_filled, of, of_in_range, same_but_reads}
use Rattle.frame_terms.proofs.FrameValues.{frame_reading_makes_true}
use Rattle.frame_terms.proofs.PartStarts.{frame_starts_are_shown, frame_values_give_starts}
use Rattle.asked_bytes.specs.AskedBytes.{AreAdded}
use Rattle.start_value.specs.Starts.{layout_of}
use Rattle.question_form.specs.declared.unrolled.Unrolled.{Unrolled}
use Rattle.question_form.specs.Forms.{AreRootsFormed}
use Rattle.question_form.specs.FrameViews.{anchor_at, frame_unrolled_of}
use Rattle.unroller.specs.RootPoints.{BeginAtOwn, IsEntryFirst}
use Rattle.frame_start.specs.declared.meaning.Segments.{Segments}
use Rattle.frame_start.specs.Segments.{calls_at, choices_at, written_parts}
use Rattle.frame_rounds.specs.FrameGrounds.{AreSegments, HasCall, HasCalls, HasStepped, IsFrameGround, ShowsQuestion, ShowsStart, shown_at}
use Rattle.frame_rounds.proofs.ListedCalls.{listed}
use Rattle.frame_rounds.proofs.FrameRoots.{entry_anchor, head_written, gift_contract, no_gift, numbered, root_of_number}

-- a byte that is known by a test is one where the test says so
known_test : (b : Bool) (x y : ℕ) → (if b then Some x else None) ≡ Some y → b ≡ true
known_test true x y h = refl
known_test false x y h = absurd (cc)

-- the bits of a reading as a valuation
value_of : TermReading → Option PartInput → Bool
value_of x None = false
value_of x (Some y) = bit_of x y == 1

abbrev bits_of : List PartInput → TermReading → ℕ → Bool
bits_of inputs x zero = false
bits_of inputs x (suc i) = value_of x (slice_get inputs i)

has_bits : (inputs : List PartInput) (x : TermReading) (i : ℕ) (y : PartInput) → slice_get inputs i ≡ Some y →
    bits_of inputs x (i + 1) ≡ (bit_of x y == 1)
unfolding value_of
has_bits inputs x i y h = rw (add-one) (ap (value_of x) h)

module _ (un : Unrolled) (question : Question) (added : List ℕ) (t : QuestionTerm) (c : Cells) (cnf : Cnf) (walkable : IsWalkable (frame_unrolled_of un))
    (formed : AreRootsFormed un) (own : BeginAtOwn un) (first : IsEntryFirst un)
    (bytes : (a b : ℕ) → byte_of_runs (frame_unrolled_of un).known a ≡ Some b → b < 256) (are : AreAdded (frame_unrolled_of un).known added)
    (term : TellsQuestion (frame_unrolled_of un) un.heads question t)
    (cells : TellsCells (frame_unrolled_of un) un.heads (un.heads && asks_head question) t (is_asked added (frame_unrolled_of un).literals) c)
    (clauses : TellsClauses (frame_unrolled_of un) un.heads c cnf) (f : Frame) (contracts : List Contract) (k : ℕ) (layout : Layout)
    (g : IsFrameGround f contracts k layout un) where
  abbrev u : UnrolledProgram
  u = frame_unrolled_of un

  abbrev asked : ℕ → Bool
  asked = is_asked added (frame_unrolled_of un).literals

  abbrev of_head : Bool
  of_head = has_heads f && asks_head question

  -- what is added is known
  asks : (a : ℕ) → Contains added a → is_known_at f.program a ≡ true
  asks a has =
      let known = are.known a has in
      known_test (is_known_at f.program a) (byte_of_cell (f.program.loaded a)) known.1.0 (sym (g.unrolling.known a known.0) ∙ known.1.1)

  layered : IsLayered f contracts k question asked u t c
  layered =
      let right = frame_asked_is_right f contracts k u g.unrolling added asks in
      record {
        lawful = g.lawful;
        low = g.low;
        among = g.among;
        unrolling = g.unrolling;
        entry = walkable.entry;
        asks_known = right.0;
        asks_literals = right.1;
        term = subst (λ (h : Bool). TellsQuestion u h question t) g.heads term;
        cells = subst (λ (h : Bool). TellsCells u h (h && asks_head question) t asked c) g.heads cells;
      }

  tells : TellsClauses u (has_heads f) c cnf
  tells = subst (λ (h : Bool). TellsClauses u h c cnf) g.heads clauses

  fitting : IsFitting u
  fitting = record {
    registers = walkable.sized.registers;
    flags = walkable.sized.flags;
    gift_registers = λ i n x h l.
        (let is = gift_contract f contracts k u g.unrolling i x h in
        g.fits.registers (point_at u i).point.at n is.contract is.stepped (subst (λ (z : List ℕ). Contains z n) is.registers l));
    gift_flags = λ i n x h l.
        (let is = gift_contract f contracts k u g.unrolling i x h in
        g.fits.flags (point_at u i).point.at n is.contract is.stepped (subst (λ (z : List ℕ). Contains z n) is.flags l));
  }

  of_question : AreOfQuestion f k question cnf
  of_question = frame_clauses_of_question f contracts k question asked u t c layered fitting cnf tells

  -- a refutation of the clauses is one of the question
  pub refutes : (log : List LogLine) → IsRefutation cnf.variables cnf.clauses log → Refutes f k question (record { clauses = cnf; log = log })
  refutes log refuted = record { of_question = of_question; refutation = refuted }

  -- and no reading that has the bytes that are asked makes the question true
  pub none_true : (log : List LogLine) → IsRefutation cnf.variables cnf.clauses log → (r : Reading) → ¬ IsTrueOver f asked k r question
  none_true log refuted r is =
      let x : TermReading = of u (has_heads f) c layered.cells.formed r in
      let makes = frame_reading_makes_true f contracts k question asked u t c layered r is (bits_of (input_list u (has_heads f) c) x) (record {
        reading = x;
        in_range = of_in_range u (has_heads f) c layered.cells.formed r is.reading;
        bits = has_bits (input_list u (has_heads f) c) x;
        same = same_but_reads u (has_heads f) x (part_reading u r).base;
        gives = gives_filled u (has_heads f) c layered.cells.formed (part_reading u r);
      }) in
      let sat = tells.extends.where_true (bits_of (input_list u (has_heads f) c) x) makes in
      refutation_sound cnf.variables cnf.clauses log refuted sat.0 sat.2

  -- a spent log of the clauses is one of the question
  pub spends : (conflicts : ℕ) (log : List LogLine) → IsSpent cnf.clauses conflicts log → Spends f k question conflicts (record { clauses = cnf; log = log })
  spends conflicts log spent = record { of_question = of_question; spent = spent }

  -- what is shown of satisfying values
  module _ (v : ℕ → Bool) (sat : Satisfies v cnf.clauses) (s : Segments) (count : length s.choices.items ≡ length un.roots.items)
      (parts_of : (x : TermReading) → HasValues u un.heads c v x → AreParts u (un.heads && asks_head question) c x (written_parts s.parts))
      (choices_of : (i : ℕ) → i < length un.roots.items → IsWrittenAnchor (un.heads && asks_head question) (anchor_at un i) →
      (x : TermReading) → HasValues u un.heads c v x → AreChoices u (un.heads && asks_head question) (layout_of un.form) x (written_parts s.parts)
      (root_at u i) (choices_at s.choices.items i)) (called : length s.calls.items ≡ length un.roots.items)
      (calls_of : (i : ℕ) → i < length un.roots.items → IsWrittenAnchor (un.heads && asks_head question) (anchor_at un i) →
      (x : TermReading) → HasValues u un.heads c v x → AreCalls u (un.heads && asks_head question) (layout_of un.form) x (written_parts s.parts)
      (root_at u i) (calls_at u s.parts s.calls.items i)) where
    abbrev p : WrittenParts
    p = written_parts s.parts

    abbrev entry : Written
    entry = p.entry

    makes : MakesTrue u un.heads c v
    makes = clauses.extends.only v sat

    abbrev x : TermReading
    x = makes.reading

    has : HasValues u un.heads c v x
    has = record { in_range = makes.in_range; bits = makes.bits }

    laid : IsLaidOut layout (inputs_of u)
    laid = subst (λ (z : Layout). IsLaidOut z (inputs_of u)) g.form (record { registers = refl; flags = refl })

    parts : AreParts u of_head c x p
    parts = subst (λ (h : Bool). AreParts u (h && asks_head question) c x p) g.heads (parts_of x has)

    choices : (i : ℕ) → i < length un.roots.items → IsWrittenAnchor of_head (anchor_at un i) →
        AreChoices u of_head layout x p (root_at u i) (choices_at s.choices.items i)
    choices i l h =
        subst (λ (z : Layout). AreChoices u of_head z x p (root_at u i) (choices_at s.choices.items i)) g.form
        (subst (λ (b : Bool). AreChoices u (b && asks_head question) (layout_of un.form) x p (root_at u i) (choices_at s.choices.items i)) g.heads
        (choices_of i l (subst (λ (b : Bool). IsWrittenAnchor (b && asks_head question) (anchor_at un i)) (sym g.heads) h) x has))

    calls : (i : ℕ) → i < length un.roots.items → IsWrittenAnchor of_head (anchor_at un i) →
        AreCalls u of_head layout x p (root_at u i) (calls_at u s.parts s.calls.items i)
    calls i l h =
        subst (λ (z : Layout). AreCalls u of_head z x p (root_at u i) (calls_at u s.parts s.calls.items i)) g.form
        (subst (λ (b : Bool). AreCalls u (b && asks_head question) (layout_of un.form) x p (root_at u i) (calls_at u s.parts s.calls.items i)) g.heads
        (calls_of i l (subst (λ (b : Bool). IsWrittenAnchor (b && asks_head question) (anchor_at un i)) (sym g.heads) h) x has))

    -- where no contract is stepped over no contract step is made
    none_called : f.stepped ≡ [] → (l : List WrittenCall) → All (IsCallOf u p) l → l ≡ []
    none_called alone [] all = refl
    none_called alone (y ∷ rest) all =
        let is = all zero y (omega arith) in absurd (no_gift f contracts k u g.unrolling alone is.0 is.1 is.2)

    none : f.stepped ≡ [] → (i : ℕ) → i < length un.roots.items → IsWrittenAnchor of_head (anchor_at un i) → calls_at u s.parts s.calls.items i ≡ []
    none alone i l h = none_called alone (calls_at u s.parts s.calls.items i) (calls i l h).within

    -- notes that have the contracts that are stepped over tell of them
    told : (w : Whole) → HasStepped f w.contracts → AreTold w f u
    told w has = record { contracts = has; registers = g.fits.registers; low = g.fits.low }

    shown : (w : Whole) → HasStepped f w.contracts → (i : ℕ) → i < length un.roots.items → IsWrittenAnchor of_head (anchor_at un i) →
        IsShown w f layout (shown_at un s i)
    shown w has i l h =
        frame_starts_are_shown f contracts k u g.unrolling layout laid g.steps of_head c x makes.in_range p parts w (told w has) (anchor_at un i) (root_at u i)
        (choices_at s.choices.items i) (calls_at u s.parts s.calls.items i) h (choices i l h) (calls i l h)

    starts : GiveStarts f k question u layout x p
    starts =
        frame_values_give_starts f contracts k question asked u t c layered g.reads bytes layout laid cnf tells v sat x
        (subst (λ (h : Bool). HasValues u h c v x) g.heads has) p parts

    -- the start of a root that ends so
    shows_start : (Ends : Frame → ℕ → Start → Type 0) (i : ℕ) → i < length un.roots.items → IsWrittenAnchor of_head (anchor_at un i) →
        ShownEnds f k u of_head layout x p Ends (root_at u i) (anchor_at un i) → ShowsStart f k layout Ends (shown_at un s i)
    shows_start Ends i l h ends w has =
        let q = ends w (told w has) (choices_at s.choices.items i) (choices i l h) (calls_at u s.parts s.calls.items i) (calls i l h) in
        (shown w has i l h, q.0, q.1)

    at_entry : IsWrittenAnchor of_head (anchor_at un 0)
    at_entry = subst (λ (z : Anchor). IsWrittenAnchor of_head z) (sym (entry_anchor un first)) tt

    entry_root : IsRootOf f u (root_at u 0) AtEntry
    entry_root = subst (λ (z : Anchor). IsRootOf f u (root_at u 0) z) (entry_anchor un first)
        (root_of_number un walkable formed own f contracts k g.unrolling 0 first.0).1

    entry_shows : (Ends : Frame → ℕ → Start → Type 0) → ((root : Root) → IsRootOf f u root AtEntry →
        ShownEnds f k u of_head layout x p Ends root AtEntry) → ShowsStart f k layout Ends (shown_at un s 0)
    entry_shows Ends ends =
        shows_start Ends 0 first.0 at_entry
        (subst (λ (z : Anchor). ShownEnds f k u of_head layout x p Ends (root_at u 0) z) (sym (entry_anchor un first)) (ends (root_at u 0) entry_root))

    head_shows : (Ends : Frame → ℕ → Start → Type 0) → asks_head question ≡ true → ShownEndsAtHead f k u of_head layout x p Ends →
        (i : ℕ) × (i < length un.roots.items) × ((stack : List ℕ) × (a : ℕ) × (anchor_at un i ≡ AtHead stack a))
        × ShowsStart f k layout Ends (shown_at un s i)
    head_shows Ends asks_it (stack, a, root, inside, is, ends) =
        let q = numbered un walkable formed own f contracts k g.unrolling root (AtHead stack a) inside is in
        let written = head_written un walkable formed own f contracts k g.unrolling (asks_head question) asks_it stack a q.0 q.1 q.3 in (
          q.0,
          q.1,
          (stack, a, sym q.3),
          shows_start Ends q.0 q.1 written
              (subst (λ (z : Anchor). ShownEnds f k u of_head layout x p Ends (root_at u q.0) z) q.3
              (subst (λ (z : Root). ShownEnds f k u of_head layout x p Ends z (AtHead stack a)) q.2 ends)),
        )

    -- the entry as it is written, without choices
    abbrev whole : Whole
    whole = record { program = f.program; invariants = f.invariants; contracts = f.stepped }

    entry_with : IsWritten layout (is_known_at f.program) (record entry { choices = choices_at s.choices.items 0 })
    entry_with =
        (subst (λ (z : Anchor). IsShown whole f layout (shown_of p z (choices_at s.choices.items 0) (calls_at u s.parts s.calls.items 0))) (entry_anchor un first)
        (shown whole (λ a y e. e) 0 first.0 at_entry)).entry

    entry_written : IsWritten layout (is_known_at f.program) entry
    entry_written =
        let w = entry_with in
        subst (λ (z : List (ℕ × ℕ)). IsWritten layout (is_known_at f.program) (record entry { choices = z })) (sym parts.at_entry.choices)
        (record {
          count = w.count;
          words = w.words;
          flags = w.flags;
          bytes = w.bytes;
          bytes_rise = w.bytes_rise;
          unknown = w.unknown;
          choices = λ n d l. absurd (omega arith);
          choices_rise = λ i j d l m. absurd (omega arith);
        })

    entry_byte : (a : ℕ) → known_or (byte_of_runs u.known (word 32 a)) entry.bytes a ≡ known_or (known_byte f.program (word 32 a)) entry.bytes a
    entry_byte a = ap (λ z. known_or z entry.bytes a) (g.unrolling.known (word 32 a) (mod_below a (2 ^ 32) (omega arith)))

    abbrev state_with : Memory → State
    state_with m = record { pc = f.program.entry; regs = register_at layout entry.regs; flags = λ n. bit_at n entry.flags; mem = m }

    entry_state : IsEntryState f.program (content_at (written_content layout u 0 entry) f.program.entry) →
        IsEntryState f.program (start_of layout f.program.entry (λ a. known_byte f.program (word 32 a)) entry).state
    entry_state h = subst (λ (m : Memory). IsEntryState f.program (state_with m)) (fun_ext entry_byte) h

    shows_by : (q : Question) → question ≡ q → ShownEndsBy f k u of_head layout x p q → ShowsQuestion f k layout un s q
    shows_by EntryQuestion e ends = (entry_written, entry_state ends)
    shows_by FailQuestion e ends = (entry_anchor un first, entry_shows RunFails ends)
    shows_by StepQuestion e ends = (let h = head_shows RunFails (ap asks_head e) ends in (h.0, (h.1, h.2), h.3))
    shows_by TurnQuestion e (inl ends) = (0, first.0, entry_shows RunTurns ends)
    shows_by TurnQuestion e (inr ends) = (let h = head_shows RunTurns (ap asks_head e) ends in (h.0, h.1, h.3))

    -- every known byte is asked, so those of literals too
    literals : AsksLiterals f k (is_known_at f.program)
    literals a i lit l = layered.asks_known (add 32 a i) (layered.asks_literals a i lit l)

    -- the contract steps of a segment from the entry are listed
    listed_by : (w : Whole) → HasStepped f w.contracts → (i : ℕ) → i < length un.roots.items → (anchor : Anchor) → anchor_at un i ≡ anchor → anchor ≡ AtEntry →
        HasCalls f k (shown_start w f layout (shown_of p anchor (choices_at s.choices.items i) (calls_at u s.parts s.calls.items i)))
        (calls_at u s.parts s.calls.items i)
    listed_by w has i l AtEntry at e steps turns n d is =
        let root = root_of_number un walkable formed own f contracts k g.unrolling i l in
        let anchor = subst (λ (z : Anchor). IsAnchor f k z) at root.0 in
        let of_root = subst (λ (z : Anchor). IsRootOf f u (root_at u i) z) at root.1 in
        let shown_there : IsWrittenAnchor of_head (anchor_at un i) = subst (λ (z : Anchor). IsWrittenAnchor of_head z) (sym at) tt in
        let made = calls i l shown_there in
        let runs = starts.runs w (told w has) AtEntry (root_at u i) (choices_at s.choices.items i) (calls_at u s.parts s.calls.items i) anchor of_root tt tt
        (choices i l shown_there) made steps in
        let number : n ≡ steps =
        subst (Numbered steps) is (step_numbered f k (shown_start w f layout (shown_of p AtEntry (choices_at s.choices.items i)
        (calls_at u s.parts s.calls.items i))) steps) in
        let reads : read_run f k starts.reading AtEntry steps ≡ Calling turns n d = sym runs ∙ is in
        subst (λ (z : ℕ). HasCall f d z (calls_at u s.parts s.calls.items i)) (sym number)
        (listed f contracts k u g.unrolling g.lawful g.low g.among literals starts.reading starts.is_true.reading starts.is_true.entry (root_at u i) of_root anchor
        of_head layout c x p parts starts.of (calls_at u s.parts s.calls.items i) made steps turns d
        (subst (λ (z : ℕ). read_run f k starts.reading AtEntry steps ≡ Calling turns z d) number reads))
    listed_by w has i l (AtHead stack a) at e steps turns n d is = absurd (cc)

    all_listed : (w : Whole) → HasStepped f w.contracts → (i : ℕ) → i < length un.roots.items → anchor_at un i ≡ AtEntry →
        HasCalls f k (shown_start w f layout (shown_at un s i)) (calls_at u s.parts s.calls.items i)
    all_listed w has i l e = listed_by w has i l (anchor_at un i) refl e

    pub shows : AreSegments f k layout question un s
    shows = record {
      count = count;
      calls = called;
      shown = shown;
      none = none;
      listed = all_listed;
      shows = shows_by question refl starts.ends;
    }
