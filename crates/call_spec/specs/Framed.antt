-- What is asked about the frames of notes with invariants or contracts, and what shows an answer to it.
use Rattle.std.specs.Prelude.{ℕ, Bool, true, false, List, Option}
use Rattle.clause_spec.specs.Refutation.{Proof}
use Rattle.word_spec.specs.State.{Written}

-- The four questions about a frame, in their order: whether there is an entry state; whether a segment from one has an event; whether one from a head state has;
-- and whether a segment makes too many backward transfers.
pub data Question : Type 0 where
  EntryQuestion : Question
  FailQuestion : Question
  StepQuestion : Question
  TurnQuestion : Question

-- the question speaks of head states
abbrev pub asks_head : Question → Bool
asks_head EntryQuestion = false
asks_head FailQuestion = false
asks_head StepQuestion = true
asks_head TurnQuestion = true

-- a head state as it is written, its stack from the bottom, and a contract step: its step, its contract's address, and the registers, flags and bytes that it
-- is given
pub record WrittenHead : Type 0 where
  pub at : ℕ
  pub stack : List ℕ
  pub start : Written

pub record WrittenCall : Type 0 where
  pub step : ℕ
  pub at : ℕ
  pub regs : List ℕ
  pub flags : ℕ
  pub bytes : List (ℕ × ℕ)

-- what a report shows: a start, with a head state, or with contract steps
pub record Shown : Type 0 where
  pub start : Written
  pub head : Option WrittenHead
  pub calls : List WrittenCall

-- What shows that a frame passes: an entry state, with the refutations of the questions after the entry's, in their order; or that there is no entry state.
pub data Passed : Type 0 where
  Refutations : Written → List Proof → Passed
  EntryRefuted : Proof → Passed

-- What shows a report. (A list of evidence within evidence is no data of the definitions, so what shows that a frame passes is a type of its own.)
pub data Evidence : Type 0 where
  PassedBy : Passed → Evidence
  Frames : List Passed → Evidence
  ShownBy : Shown → Evidence
  SpentOn : (rank : ℕ) → Question → Proof → Evidence
  Count : ℕ → Evidence
