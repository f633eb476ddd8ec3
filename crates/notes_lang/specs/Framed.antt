-- Notes with invariants and contracts as the definition of their text sees them, and what their contracts name.
use Rattle.std.specs.Prelude.{ℕ, ◌≡◌, ◌≤◌, ◌<◌, ◌^◌, Bool, true, All, map, nat_eq, sum_by}
use Rattle.std.specs.List.{list_any}
use Rattle.frame_spec.specs.Frames.{Contract}
use Rattle.notes_spec.specs.FrameNotes as framed
use Rattle.notes_value.specs.NoteViews.{notes_of}
use Rattle.notes_value.specs.FrameViews.{contract_of}
use Rattle.notes_value.specs.Reads.{IsOver}
use Rattle.notes_value.specs.declared.notes.FrameNotes.{FrameNotes}

abbrev pub frame_notes_of : FrameNotes → framed.FrameNotes
frame_notes_of n = record { notes = notes_of n.notes; invariants = n.invariants.items; contracts = map contract_of n.contracts.items }

-- The lines of a contract are over the words of a machine, each that writes does so to 1 to 256 bytes from an address on, all of them together to fewer than
-- 2 ^ 64, and it changes registers and flags of the machine alone.
pub record IsContractOver (has_register has_flag : ℕ → Bool) (c : Contract) : Type 0 where
  pub needs : All (λ l. IsOver has_register has_flag l.says) c.needs
  pub gives : All (λ l. IsOver has_register has_flag l.says) c.gives
  pub writes : All (λ w. IsOver has_register has_flag w.says × (1 ≤ w.count) × (w.count ≤ 256)) c.writes
  pub few : sum_by (λ w. w.count) c.writes < 2 ^ 64
  pub registers : (r : ℕ) → list_any (nat_eq r) c.registers ≡ true → has_register r ≡ true
  pub flags : (f : ℕ) → list_any (nat_eq f) c.flags ≡ true → has_flag f ≡ true
