-- The program, the whole and the frames of a program with invariants or contracts, and what its verdict needs.
use Rattle.std.specs.Prelude.{ℕ, ◌≡◌, ◌≢◌, ◌≤◌, ◌<◌, ◌^◌, true, All, List, [], Option, Some, None, length, map, nat_eq, slice_get, slice_index_or, sum_by}
use Rattle.std.specs.List.{list_any}
use Rattle.std.specs.List.Sorted.{IsStrictlyIncreasing}
use Rattle.machine_spec.specs.Machine.{Machine, IsAtPlace}
use Rattle.machine_spec.specs.StateText.{Layout}
use Rattle.bilv_spec.specs.Notes.{Notes}
use Rattle.bilv_spec.specs.Run.{Program}
use Rattle.call_form.specs.Views.{budget_of}
use Rattle.call_form.specs.declared.budget.Budget.{Budget}
use Rattle.frame_spec.specs.Frames.{Contract, Frame}
use Rattle.frame_spec.specs.FrameReports.{HasMore, IsWithin}
use Rattle.frame_spec.specs.FrameVerdict as frames
use Rattle.frame_spec.specs.FrameVerdict.{Whole}
use Rattle.notes_value.specs.FrameViews.{contract_of}
use Rattle.notes_value.specs.NoteViews.{notes_of}
use Rattle.notes_value.specs.Reads.{IsOver}
use Rattle.notes_value.specs.declared.notes.Notes.{Notes as Held}
use Rattle.program_value.specs.Programs.{program_of}
use Rattle.question_form.specs.declared.unrolled.Unrolled.{Unrolled}
use Rattle.table_run.specs.FrameEnds.{frame_of}
use Rattle.frame_verdict.specs.FrameMeasures.{IsFrameUnrolled}
use Rattle.frame_verdict.specs.declared.framed.Framed.{Framed}

-- the program, over a machine
abbrev pub program_of_framed : {M I S : _} {d : _} {v : _} → Framed M I S d v → Program
program_of_framed x = program_of x.program

-- its contracts, in the order of their ranks
abbrev pub contracts_of : {M I S : _} {d : _} {v : _} → Framed M I S d v → List Contract
contracts_of x = map contract_of x.contracts.now

-- all that it is
abbrev pub whole_of_framed : {M I S : _} {d : _} {v : _} → Framed M I S d v → Whole
whole_of_framed x = record { program = program_of_framed x; invariants = x.invariants.now; contracts = contracts_of x }

-- its frame of a rank
abbrev pub frame_at : {M I S : _} {d : _} {v : _} → Framed M I S d v → (rank : ℕ) → Frame
frame_at x rank = frames.frame_of (whole_of_framed x) rank

-- its frame where it has no contracts, whose runs are cut at its heads
abbrev pub frame_of_framed : {M I S : _} {d : _} {v : _} → Framed M I S d v → Frame
frame_of_framed x = frame_of (program_of_framed x) x.invariants.now

-- the notes of a frame: those of the file, or for a contract's frame what the contract needs in the place of what they require
abbrev pub notes_by : Notes → Option Contract → Notes
notes_by n None = n
notes_by n (Some x) = record n { requires = x.needs; ensures = []; fixed = [] }

abbrev pub IsNotesAt : {M I S : _} {d : _} {v : _} → Framed M I S d v → (rank : ℕ) → Notes → Type 0
IsNotesAt x rank n = n ≡ notes_by (notes_of x.program.notes.now) (slice_get (contracts_of x) rank)

-- the notes of the frames of the contracts below a rank, in order
pub record AreNotesTo {M I S : _} {d : _} {v : _} (x : Framed M I S d v) (rank : ℕ) (list : List Held) : Type 0 where
  pub count : length list ≡ rank
  pub each : (r : ℕ) (z : Held) → r < rank → IsNotesAt x r (notes_of (slice_index_or list r z))

-- The lines of a contract are over the words of a machine, each that writes does so to one byte at least, all of them together to fewer than 2 ^ 64; it changes
-- registers and flags of the machine alone; and a row can stand at its address.
pub record IsCallable (m : Machine) (c : Contract) : Type 0 where
  pub needs : All (λ l. IsOver m.has_register m.has_flag l.says) c.needs
  pub gives : All (λ l. IsOver m.has_register m.has_flag l.says) c.gives
  pub writes : All (λ w. IsOver m.has_register m.has_flag w.says × (1 ≤ w.count)) c.writes
  pub few : sum_by (λ w. w.count) c.writes < 2 ^ 64
  pub registers : (r : ℕ) → list_any (nat_eq r) c.registers ≡ true → m.has_register r ≡ true
  pub flags : (f : ℕ) → list_any (nat_eq f) c.flags ≡ true → m.has_flag f ≡ true
  pub place : IsAtPlace m.narrow c.at

-- What unrolling needs of it: contracts over the words of the machine, and addresses at which a row can stand.
pub record CanUnroll {M I S : _} {d : _} {v : _} (x : Framed M I S d v) : Type 0 where
  pub place : IsAtPlace d.machine.narrow x.program.entry
  pub callable : All (λ c. IsCallable d.machine (contract_of c)) x.contracts.now

-- What runs need of it besides: the invariants' numbers in rising order, and no invariants beside contracts.
pub record CanRun {M I S : _} {d : _} {v : _} (x : Framed M I S d v) : Type 0 where
  pub unroll : CanUnroll x
  pub rising : IsStrictlyIncreasing x.invariants.now
  pub alone : x.contracts.now ≢ [] → x.invariants.now ≡ []

-- What it needs besides that segments of the frame of a rank are shown: that all frames together have no more points than the budget; and its unrolled frame,
-- over the form of states.
pub record CanShow {M I S : _} {d : _} {v : _} (form : Layout) (x : Framed M I S d v) (b : Budget) (rank : ℕ) (u : Unrolled) : Type 0 where
  pub runs : CanRun x
  pub ranked : rank ≤ length x.contracts.now
  pub few : ¬ HasMore (whole_of_framed x) b.unroll b.points
  pub unrolled : IsFrameUnrolled (frame_at x rank) (contracts_of x) b.unroll form u

-- What the verdict of the frame of a rank needs: the budgets; and its unrolled frame.
pub record IsReady {M I S : _} {d : _} {v : _} (form : Layout) (x : Framed M I S d v) (b : Budget) (rank : ℕ) (u : Unrolled) : Type 0 where
  pub runs : CanRun x
  pub ranked : rank ≤ length x.contracts.now
  pub within : IsWithin (whole_of_framed x) (budget_of b)
  pub unrolled : IsFrameUnrolled (frame_at x rank) (contracts_of x) b.unroll form u
