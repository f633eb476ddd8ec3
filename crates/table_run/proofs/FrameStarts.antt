-- Where segments begin, and runs of frames without invariants.
use Rattle.std.proofs.Common.{◌≡◌, ℕ, ◌+◌, List, [], true, false, refl, sym, ap, ◌∙◌, arith}
use Rattle.std.specs.Prelude.{Bool, Option, Some, None, ◌||◌, ◌&&◌, is_some, reverse, if◌then◌else◌}
use Rattle.std.proofs.Math.Path.{fun_ext}
use Rattle.word_spec.specs.Words.{word}
use Rattle.word_spec.specs.Memory.{memory_of}
use Rattle.word_spec.specs.State.{State, Written}
use Rattle.machine_spec.specs.Machine.{Machine}
use Rattle.machine_spec.specs.StateText.{Layout, known_or, start_of}
use Rattle.bilv_spec.specs.Elf.{Cell, kept, loaded, is_kept}
use Rattle.bilv_spec.specs.Points.{byte_of_cell}
use Rattle.bilv_spec.specs.Notes.{Notes}
use Rattle.bilv_spec.specs.Files.{program_of}
use Rattle.bilv_spec.specs.Run as tables
use Rattle.bilv_spec.specs.Run.{Program, Place}
use Rattle.bilv_spec.specs.Reports as reports
use Rattle.bilv_spec.specs.Reports.{turns_within}
use Rattle.bilv_spec.specs.Answers.{start_in}
use Rattle.frame_spec.specs.Frames.{Content, Frame, is_head}
use Rattle.frame_spec.specs.FrameRuns.{Start, Run, Going, Arriving, run}
use Rattle.frame_spec.specs.FrameFound.{Found, found, found_by, found_within}
use Rattle.frame_spec.specs.FrameReports.{WrittenHead, gifts, registers_of, head_place, kept_byte}
use Rattle.frame_spec.specs.Theorems.{as_frame_run, as_start}
use Rattle.frame_spec.proofs.Headless.{headless_is_run}
use Rattle.known_bytes.specs.Known.{given}
use Rattle.machine_law.specs.Facts.{made}
use Rattle.table_run.specs.FrameEnds.{whole_of, frame_of, start_by, start_shown, Begins, HasKept, IsOfTables, as_found, of_tables}

-- ---- where a segment begins

pub first_going : (f : Frame) (k : ℕ) (entry : State) (choices : List (ℕ × ℕ)) (head : Option Place) (given : ℕ → Content) (c : Place) →
    Begins f entry head c → run f k (start_by entry choices head given) 0 ≡ Going 0 0 c
unfolding run
first_going f k entry choices head given c is = is

module _ (f : Frame) (s : State) where
  -- at an entry that is no head, with the empty stack
  pub entry_begins : (state : State) (stack : List ℕ) → is_head f s.pc ≡ false → state ≡ s → stack ≡ [] →
      Begins f s None (record { state = state; stack = reverse stack })
  entry_begins state stack away same none =
      let there : Place = record { state = s; stack = [] } in
      ap (λ (b : Bool). if b then Arriving 0 0 there else Going 0 0 there) away
      ∙ ap (λ (t : State). Going 0 0 (record { state = t; stack = [] })) (sym same)
      ∙ ap (λ (xs : List ℕ). Going 0 0 (record { state = state; stack = reverse xs })) (sym none)

  -- an entry that is a head is arrived at
  pub entry_arrives : (k : ℕ) (choices : List (ℕ × ℕ)) (given : ℕ → Content) → is_head f s.pc ≡ true →
      run f k (start_by s choices None given) 0 ≡ Arriving 0 0 (record { state = s; stack = [] })
  unfolding run
  entry_arrives k choices given is =
      let there : Place = record { state = s; stack = [] } in
      ap (λ (b : Bool). if b then Arriving 0 0 there else Going 0 0 there) is

  -- at a head state
  pub head_begins : (h : Place) (state : State) (stack : List ℕ) → state ≡ h.state → reverse stack ≡ h.stack →
      Begins f s (Some h) (record { state = state; stack = reverse stack })
  head_begins h state stack same stacks =
      ap (λ (t : State). Going 0 0 (record { state = t; stack = h.stack })) (sym same)
      ∙ ap (λ (xs : List ℕ). Going 0 0 (record { state = state; stack = xs })) (sym stacks)

-- ---- the start that is shown

-- the same start, within the same bounds
pub found_same : (f : Frame) (s t : Start) (bound last : ℕ) (k : Option ℕ) (x : Found) → s ≡ t → bound ≡ turns_within last k →
    x ≡ found_within f bound s last → x ≡ found f k t last
found_same f s t bound last k x starts bounds is =
    is ∙ ap (λ (b : ℕ). found_within f b s last) bounds ∙ ap (λ (r : Start). found f k r last) starts

module _ (p : Program) (invariants : List ℕ) (layout : Layout) (w : Written) where
  abbrev pub gifts_shown : ℕ → Content
  gifts_shown = gifts (registers_of (whole_of p invariants)) []

  pub shown_entry : (state : State) (drawn : List (ℕ × ℕ)) (head : Option WrittenHead) → state ≡ (start_in p layout w).state → drawn ≡ w.choices →
      head ≡ None → start_by state drawn None gifts_shown ≡ start_shown p invariants layout w head
  shown_entry state drawn head is same none =
      ap (λ (t : State). start_by t drawn None gifts_shown) is
      ∙ ap (λ (cs : List (ℕ × ℕ)). start_by (start_in p layout w).state cs None gifts_shown) same
      ∙ sym (ap (start_shown p invariants layout w) none)

  pub shown_head : (state : State) (h : WrittenHead) (head : Option WrittenHead) → state ≡ (start_in p layout w).state → head ≡ Some h →
      start_by state h.start.choices (Some (head_place p layout h)) gifts_shown ≡ start_shown p invariants layout w head
  shown_head state h head is some =
      ap (λ (t : State). start_by t h.start.choices (Some (head_place p layout h)) gifts_shown) is
      ∙ sym (ap (start_shown p invariants layout w) some)

-- ---- runs of frames without invariants

found_as : (a b : tables.Run) → found_by (as_frame_run a) (as_frame_run b) ≡ as_found (reports.found_by a b)
found_as (tables.Going turns n c) (tables.Going more m d) = refl
found_as (tables.Exited at n) (tables.Going more m d) = refl
found_as (tables.Failed e at n) (tables.Going more m d) = refl
found_as (tables.Turned at n) (tables.Going more m d) = refl
found_as a (tables.Exited at n) = refl
found_as a (tables.Failed e at n) = refl
found_as a (tables.Turned at n) = refl

pub found_headless : (p : Program) (k : Option ℕ) (layout : Layout) (w : Written) (last : ℕ) →
    found (frame_of p []) k (start_shown p [] layout w None) last ≡ as_found (reports.found p k (start_in p layout w) last)
found_headless p k layout w last =
    let bound = turns_within last k in
    let start = start_shown p [] layout w None in
    ap (λ (r : Run). found_by r (run (frame_of p []) bound start (last + 1))) (headless_is_run p bound start refl last)
    ∙ ap (found_by (as_frame_run (tables.run p bound (as_start start) last))) (headless_is_run p bound start refl (last + 1))
    ∙ found_as (tables.run p bound (as_start start) last) (tables.run p bound (as_start start) (last + 1))

pub tables_as : (x : reports.Found) → of_tables (as_found x) ≡ x
tables_as (reports.FoundExit at step) = refl
tables_as (reports.FoundEvent e at step) = refl
tables_as (reports.FoundTurn at step) = refl
tables_as (reports.FoundLeft at step) = refl

pub is_of_tables : (x : reports.Found) → IsOfTables (as_found x)
is_of_tables (reports.FoundExit at step) = tt
is_of_tables (reports.FoundEvent e at step) = tt
is_of_tables (reports.FoundTurn at step) = tt
is_of_tables (reports.FoundLeft at step) = tt

-- ---- the state of a head

-- the byte of a cell that is kept
abbrev kept_of : Option Cell → Option ℕ
kept_of o = if is_kept o then Some (byte_of_cell o) else None

given_cell : (o : Option Cell) → (if is_kept o || (is_some o && false) then Some (byte_of_cell o) else None) ≡ kept_of o
given_cell None = refl
given_cell (Some c) = by (kept c)
  where
    by : (b : Bool) → (if b || (true && false) then Some c.byte else None) ≡ (if b then Some c.byte else None)
    by true = refl
    by false = refl

kept_cell : (o : Option Cell) (c : Cell) → o ≡ Some c → kept c ≡ true → kept_of o ≡ Some c.byte
kept_cell o c is kept_is = ap kept_of is ∙ ap (λ (b : Bool). if b then Some c.byte else None) kept_is

module _ (m : Machine) (file : List ℕ) (notes : Notes) (entry : ℕ) (form : Layout) (w : Written) (at : ℕ) (entries : List (ℕ × ℕ)) (s : State)
    (is : s ≡ made form w at entries) (bytes : (x : ℕ) → memory_of entries x ≡ known_or (given file [] (word 32 x)) w.bytes x) where
  abbrev p : Program
  p = program_of m file notes entry

  pub head_is : s ≡ (start_of form at (λ a. kept_byte p (word 32 a)) w).state
  head_is =
      is ∙ ap (λ (mem : ℕ → ℕ). record (made form w at entries) { mem = mem })
      (fun_ext (λ x. bytes x ∙ ap (λ (o : Option ℕ). known_or o w.bytes x) (given_cell (loaded file (word 32 x)))))

  pub head_kept : HasKept p s
  head_kept a c low cell kept_is =
      let same : word 32 a ≡ a = omega arith in
      ap (λ (t : State). t.mem a) is ∙ bytes a ∙ ap (λ (n : ℕ). known_or (given file [] n) w.bytes a) same
      ∙ ap (λ (o : Option ℕ). known_or o w.bytes a) (given_cell (loaded file a) ∙ kept_cell (loaded file a) c cell kept_is)
