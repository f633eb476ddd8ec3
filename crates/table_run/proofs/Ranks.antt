-- Frames by their ranks.
use Rattle.std.proofs.Common.{◌≡◌, inl, inr, ℕ, zero, suc, ◌<◌, ◌≤◌, List, [], ◌∷◌, length, get_or, take, Bool, true, false, Option, Some, None, refl, sym, ap, ◌∙◌, subst, arith}
use Rattle.std.specs.Prelude.{◌==◌, ◌||◌, ◌&&◌, All, IfSome, slice_get, is_some, if◌then◌else◌}
use Rattle.std.proofs.lemmas.Bool.{cases_eq}
use Rattle.std.proofs.lemmas.List.{take_all}
use Rattle.word_spec.specs.Words.{word}
use Rattle.word_spec.specs.Memory.{Endian, byte_in, memory_of}
use Rattle.word_spec.specs.State.{State, Written}
use Rattle.machine_spec.specs.Machine.{Machine}
use Rattle.machine_spec.specs.MachineLaws.{IsLawfulMachine}
use Rattle.machine_spec.specs.StateText.{Layout, known_or}
use Rattle.bilv_spec.specs.Elf.{Cell, kept, is_kept}
use Rattle.bilv_spec.specs.Files.{program_of}
use Rattle.bilv_spec.specs.Notes.{Notes}
use Rattle.bilv_spec.specs.Points.{byte_of_cell}
use Rattle.bilv_spec.specs.PointLaws.{HasLawfulRows}
use Rattle.bilv_spec.specs.Run.{Program}
use Rattle.bilv_spec.specs.Verdict.{fixed}
use Rattle.bilv_spec.specs.Answers.{known_byte, start_in}
use Rattle.bilv_spec.proofs.ProgramRows.{cell_small, rows_lawful}
use Rattle.frame_spec.specs.Frames.{Contract, Frame, contract_at, written}
use Rattle.notes_value.specs.FrameViews.{contract_of}
use Rattle.notes_value.specs.Reads.{IsReadableContract}
use Rattle.notes_value.specs.declared.notes.Contract.{Contract as CodeContract}
use Rattle.table_run.specs.Spans.{bytes_of}
use Rattle.table_run.specs.declared.frame.Own.{Own}
use Rattle.table_run.specs.declared.spans.Span.{Span}
use Rattle.frame_spec.specs.FrameRuns.{Start}
use Rattle.frame_spec.specs.FrameVerdict.{Whole, frame_by, frame_of}
use Rattle.frame_spec.specs.FrameReports.{IsWrittenCall, WrittenCall, gifts, registers_of}
use Rattle.state_text.specs.Starts.{written_call_of}
use Rattle.state_text.specs.declared.start.CallState.{CallState}
use Rattle.known_bytes.specs.Known.{given}
use Rattle.machine_law.specs.Facts.{made}
use Rattle.table_run.specs.FrameEnds.{HasKept}
use Rattle.table_run.specs.CalledFrames.{IsBlock, IsOwnAt, called_frame, changed_by, program_in}
use Rattle.table_run.specs.CalledRuns.{AreChanged, IsRun, called_start}
use Rattle.table_run.specs.declared.ending.CalledRun.{CalledRun}
use Rattle.table_run.proofs.Founds.{state_is}

-- ---- the frame of a rank

no_item : {X : Type 0} (xs : List X) (i : ℕ) → length xs ≤ i → slice_get xs i ≡ None
no_item [] zero over = refl
no_item [] (suc i) over = refl
no_item (x ∷ xs) zero over = absurd (omega (arith, over))
no_item (x ∷ xs) (suc i) over = no_item xs i (omega (arith, over))

abbrev pub whole : Program → List Contract → Whole
whole p contracts = record { program = p; invariants = []; contracts = contracts }

module _ (p : Program) (contracts : List Contract) (rank : ℕ) where
  pub entry_rank : length contracts ≤ rank → called_frame p contracts None ≡ frame_of (whole p contracts) rank
  entry_rank over = sym (ap (frame_by (whole p contracts) rank) (no_item contracts rank over))

  pub own_rank : (x : Contract) → slice_get contracts rank ≡ Some x → called_frame p (take rank contracts) (Some x) ≡ frame_of (whole p contracts) rank
  own_rank x is = sym (ap (frame_by (whole p contracts) rank) is)

some_item : {X : Type 0} (xs : List X) (i : ℕ) → i < length xs → (x : X) × (slice_get xs i ≡ Some x)
some_item [] i below = absurd (omega (arith, below))
some_item (x ∷ xs) zero below = (x, refl)
some_item (x ∷ xs) (suc i) below = some_item xs i (omega (arith, below))

-- the frame of any rank
pub rank_is : (p : Program) (contracts : List Contract) (rank : ℕ) → rank ≤ length contracts →
    called_frame p (take rank contracts) (slice_get contracts rank) ≡ frame_of (whole p contracts) rank
rank_is p contracts rank few = elim (cases_eq rank (length contracts)) [
  | inl same ↦ (let over : length contracts ≤ rank = omega (arith, same) in
      ap (λ l. called_frame p l (slice_get contracts rank)) (take_all rank contracts over) ∙ ap (called_frame p contracts) (no_item contracts rank over)
      ∙ entry_rank p contracts rank over)
  | inr other ↦ (let it = some_item contracts rank (omega (arith, few, other)) in
      ap (called_frame p (take rank contracts)) it.1 ∙ own_rank p contracts rank it.0 it.1)
]

-- a fact of each item
pub of_item : {X : Type 0} (P : X → Type 0) (xs : List X) (i : ℕ) (x : X) → All P xs → slice_get xs i ≡ Some x → P x
of_item P [] i x each is = absurd (cc)
of_item P (y ∷ xs) zero x each is = let same : y ≡ x = cc in subst P same (each 0 y (omega arith))
of_item P (y ∷ xs) (suc i) x each is = of_item P xs i x (λ k d less. each (suc k) d (omega arith)) is

-- what the bytes that a contract may write are, of the one whose frame it is
pub own_at : (e o : Endian) (contracts : List CodeContract) (rank : ℕ) (spans : List Span) (s : State) (own : Option Own) → e ≡ o →
    ((x : CodeContract) → slice_get contracts rank ≡ Some x → bytes_of spans ≡ written e (contract_of x).writes s) →
    IfSome own (λ z. (slice_get contracts rank ≡ Some z.contract.now) × (z.spans.now ≡ spans)) → IsOwnAt o own s
own_at e o contracts rank spans s None order bytes parts = tt
own_at e o contracts rank spans s (Some z) order bytes parts =
    ap bytes_of parts.1 ∙ bytes z.contract.now parts.0 ∙ ap (λ (y : Endian). written y (contract_of z.contract.now).writes s) order

pub own_readable : (has : ℕ → Bool) (contracts : List CodeContract) (rank : ℕ) (spans : List Span) (own : Option Own) →
    All (λ x. IsReadableContract has (contract_of x)) contracts →
    IfSome own (λ z. (slice_get contracts rank ≡ Some z.contract.now) × (z.spans.now ≡ spans)) →
    IfSome own (λ z. IsReadableContract has (contract_of z.contract.now))
own_readable has contracts rank spans None each parts = tt
own_readable has contracts rank spans (Some z) each parts = of_item (λ x. IsReadableContract has (contract_of x)) contracts rank z.contract.now each parts.0

-- ---- what contracts may change

pub registers_are : (w : Whole) → AreChanged (registers_of w) w.contracts
unfolding changed_by
registers_are w at x found = rw found refl

earlier : (cs : List Contract) (n at : ℕ) (x : Contract) → contract_at (take n cs) at ≡ Some x → contract_at cs at ≡ Some x
earlier [] zero at x found = found
earlier [] (suc n) at x found = found
earlier (c ∷ cs) zero at x found = absurd (cc)
earlier (c ∷ cs) (suc n) at x found = by (c.at == at) refl (earlier cs n at x)
  where
    by : (b : Bool) → (c.at == at) ≡ b → (contract_at (take n cs) at ≡ Some x → contract_at cs at ≡ Some x) →
        (if c.at == at then Some c else contract_at cs at) ≡ Some x
    by true is later =
        ap (λ b. if b then Some c else contract_at cs at) is ∙ sym (ap (λ b. if b then Some c else contract_at (take n cs) at) is) ∙ found
    by false is later =
        ap (λ b. if b then Some c else contract_at cs at) is ∙ later (sym (ap (λ b. if b then Some c else contract_at (take n cs) at) is) ∙ found)

pub registers_taken : (w : Whole) (n : ℕ) → AreChanged (registers_of w) (take n w.contracts)
registers_taken w n at x found = registers_are w at x (earlier w.contracts n at x found)

-- ---- starts

-- a start has the bytes of the file that are kept
kept_known : (o : Option Cell) (b : Bool) (c : Cell) → o ≡ Some c → kept c ≡ true →
    (if is_kept o || (is_some o && b) then Some (byte_of_cell o) else None) ≡ Some c.byte
kept_known o b c is kept_is =
    ap (λ (o : Option Cell). if is_kept o || (is_some o && b) then Some (byte_of_cell o) else None) is
    ∙ ap (λ t. if t || (true && b) then Some c.byte else None) kept_is

pub start_kept : (p q : Program) (form : Layout) (w : Written) (s : State) → p.loaded ≡ q.loaded → s ≡ (start_in q form w).state → HasKept p s
start_kept p q form w s same is a c low cell kept_is =
    let place : word 32 a ≡ a = omega (arith, low) in
    ap (λ (t : State). t.mem a) is ∙ ap (λ n. known_or (known_byte q n) w.bytes a) place
    ∙ ap (λ o. known_or o w.bytes a) (kept_known (q.loaded a) (fixed q.notes.fixed a) c (sym (ap (λ l. l a) same) ∙ cell) kept_is)

pub rows_of_file : (m : Machine) (file : List ℕ) (notes : Notes) (entry : ℕ) → IsLawfulMachine m → ((i : ℕ) → get_or file i 0 < 256) →
    HasLawfulRows (program_of m file notes entry)
rows_of_file m file notes entry lawful small = rows_lawful (program_of m file notes entry) lawful (λ a. cell_small file small a _)

-- ---- runs

pub run_is : (f g : Frame) (s t : Start) (k j : ℕ) (calls : List WrittenCall) (last : ℕ) (r : CalledRun) → f ≡ g → s ≡ t → k ≡ j →
    IsRun f k s calls last r → IsRun g j t calls last r
run_is f g s t k j calls last r frames starts bounds is =
    subst (λ z. IsRun z j t calls last r) frames (subst (λ z. IsRun f j z calls last r) starts (subst (λ z. IsRun f z s calls last r) bounds is))

pub start_same : (s t : State) (choices drawn : List (ℕ × ℕ)) (registers : ℕ → List ℕ) (calls : List WrittenCall) → s ≡ t → choices ≡ drawn →
    called_start s choices registers calls ≡ record { state = t; head = None; choices = byte_in drawn; given = gifts registers calls }
start_same s t choices drawn registers calls states same =
    ap (λ z. called_start z choices registers calls) states ∙ ap (λ l. called_start t l registers calls) same

-- the state of a contract's start
pub own_state : (m : Machine) (file : List ℕ) (notes : Notes) (entry : ℕ) (contracts : List Contract) (rank : ℕ) (x : Contract) →
    slice_get contracts rank ≡ Some x → (form : Layout) (w : Written) (entries : List (ℕ × ℕ)) (s : State) → s ≡ made form w x.at entries →
    ((a : ℕ) → memory_of entries a ≡ known_or (given file [] (word 32 a)) w.bytes a) →
    s ≡ (start_in (frame_of (whole (program_of m file notes entry) contracts) rank).program form w).state
own_state m file notes entry contracts rank x some form w entries s is bytes =
    state_is (program_in (program_of m file notes entry) (Some x)) form w entries s is bytes
    ∙ ap (λ (f : Frame). (start_in f.program form w).state) (own_rank (program_of m file notes entry) contracts rank x some)

-- what can be written can be put into a state
pub blocks_are : (w : Whole) (form : Layout) (calls : List CallState) → All (λ c. IsWrittenCall w form (written_call_of c)) calls →
    All (λ c. IsBlock form (written_call_of c)) calls
blocks_are w form calls each k d less =
    let is = each k d less in record {
      words = is.words;
      flags = is.flags;
      bytes = λ i e within. (is.bytes i e within).2;
      bytes_rise = is.bytes_rise;
    }

-- the frame of each rank has the bytes of the file
pub loaded_by : (w : Whole) (rank : ℕ) → w.program.loaded ≡ (frame_of w rank).program.loaded
loaded_by w rank = by (slice_get w.contracts rank)
  where
    by : (o : Option Contract) → w.program.loaded ≡ (frame_by w rank o).program.loaded
    by None = refl
    by (Some x) = refl
