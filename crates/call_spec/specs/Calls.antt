-- What a call is asked, what it meets outside, and what it answers.
use Rattle.std.specs.Prelude.{ℕ, ◌≤◌, ◌^◌, Bool, false, List, [], ◌∷◌, ◌≡◌, Option, Some, None, codes}
use Rattle.clause_spec.specs.Refutation.{Proof}
use Rattle.word_spec.specs.State.{Written}
use Rattle.word_spec.specs.Profiles.{Profile, V4}
use Rattle.call_spec.specs.Outside.{Held, Agrees, Rose}
use Rattle.call_spec.specs.Framed as framed
use Rattle.word_spec.specs.Texts.{line}

-- the three questions about a program: whether there is an entry state, whether its run has an event, whether its run makes too many backward transfers
pub data Question : Type 0 where
  EntryQuestion : Question
  FailQuestion : Question
  TurnQuestion : Question

-- The question about a frame as one about a program. A program has no head states.
abbrev pub program_question : framed.Question → Option Question
program_question framed.EntryQuestion = Some EntryQuestion
program_question framed.FailQuestion = Some FailQuestion
program_question framed.StepQuestion = None
program_question framed.TurnQuestion = Some TurnQuestion

-- the two questions about two functions: whether there is a linked pair of entry states, and whether the exits of one differ
pub data PairQuestion : Type 0 where
  PairOfStates : PairQuestion
  DifferenceOfExits : PairQuestion

-- the four budgets: backward transfers, points, price, conflicts
pub record Budget : Type 0 where
  pub unroll : ℕ
  pub points : ℕ
  pub size : ℕ
  pub conflicts : ℕ

-- what each may be
pub record IsBudget (b : Budget) : Type 0 where
  pub unroll : b.unroll ≤ 4096
  pub points : (1 ≤ b.points) × (b.points ≤ 16777216)
  pub size : (1 ≤ b.size) × (b.size ≤ 2 ^ 62)
  pub conflicts : (1 ≤ b.conflicts) × (b.conflicts ≤ 4294967295)

-- the budget where none is given
abbrev pub default_budget : Budget
default_budget = record { unroll = 64; points = 65536; size = 1073741824; conflicts = 200000 }

-- what shows that a function holds: an entry state, and the refutations of its events and of its runs of too many turns
pub record Holding : Type 0 where
  pub start : Written
  pub fail : Proof
  pub turn : Proof

-- What shows an answer. With invariants it may be an entry state with the refutations of the three questions after it, or a start with the head state from which
-- the shown segment goes; with contracts what shows that each frame passes, or the start of a frame with its contract steps; and a question of a frame that
-- spent its conflicts. Of two functions it is a linked pair of entry states whose exits differ, or that both hold, a linked pair, and the refutation of a
-- difference.
pub data Evidence : Type 0 where
  NoEvidence : Evidence
  Refutations : Written → (fail turn : Proof) → Evidence
  EntryRefuted : Proof → Evidence
  RunOf : Written → Evidence
  SpentOn : Question → Proof → Evidence
  Count : ℕ → Evidence
  Inductive : Written → (fail step turn : Proof) → Evidence
  FromHead : Written → framed.WrittenHead → Evidence
  Frames : List framed.Passed → Evidence
  WithCalls : (rank : ℕ) → Written → List framed.WrittenCall → Evidence
  SpentOnFrame : (rank : ℕ) → framed.Question → Proof → Evidence
  Two : (first second : Written) → Evidence
  Both : (first second : Holding) → (first_start second_start : Written) → (difference : Proof) → Evidence
  SpentOnPair : PairQuestion → Proof → Evidence

-- What is shown of a segment: its start alone, the head state besides, or its contract steps. A segment from a head makes none.
abbrev pub segment_evidence : (rank : ℕ) → Written → Option framed.WrittenHead → List framed.WrittenCall → Evidence
segment_evidence rank start None [] = RunOf start
segment_evidence rank start (Some head) [] = FromHead start head
segment_evidence rank start head calls = WithCalls rank start calls

-- what shows that the entry's frame passes: the refutations are two without heads, and three with one
abbrev pub passed_evidence : framed.Passed → Evidence
passed_evidence (framed.EntryRefuted proof) = EntryRefuted proof
passed_evidence (framed.Refutations start (fail ∷ turn ∷ [])) = Refutations start fail turn
passed_evidence (framed.Refutations start (fail ∷ step ∷ turn ∷ [])) = Inductive start fail step turn
passed_evidence (framed.Refutations start proofs) = NoEvidence

-- What shows an answer about frames, the report's being that of a rank.
abbrev pub evidence_over : (rank : ℕ) → framed.Evidence → Evidence
evidence_over rank (framed.PassedBy e) = passed_evidence e
evidence_over rank (framed.Frames list) = Frames list
evidence_over rank (framed.ShownBy s) = segment_evidence rank s.start s.head s.calls
evidence_over rank (framed.SpentOn r question proof) = SpentOnFrame r question proof
evidence_over rank (framed.Count n) = Count n

-- what a command answers: a status, a text, and evidence
pub record Answer : Type 0 where
  pub status : ℕ
  pub text : List ℕ
  pub evidence : Evidence

-- an answer without evidence
abbrev pub plain_answer : ℕ → List ℕ → Answer
plain_answer status text = record { status = status; text = text; evidence = NoEvidence }

-- What a file leaves open of its machine: ARM's profile, which changes nothing of a RISC-V file; and whether a RISC-V file has compressed instructions, which
-- changes nothing of an ARM file.
pub record Options : Type 0 where
  pub profile : Profile
  pub compressed : Bool

-- the options where none are given
abbrev pub default_options : Options
default_options = record { profile = V4; compressed = false }

-- what a call meets outside: what the shelf tells of each name, its counts of faults before and after the call; what the sink tells of the bytes written before
-- and after, and its counts
pub record Surroundings : Type 0 where
  pub held : List ℕ → Held
  pub shelf_before : List ℕ → ℕ
  pub shelf_after : List ℕ → ℕ
  pub text_before : Option (List ℕ)
  pub text_after : Option (List ℕ)
  pub sink_before : ℕ
  pub sink_after : ℕ

-- the answer where a file can't be read
abbrev pub read_fault : Answer
read_fault = plain_answer 6 (line (codes "read fault"))

-- The answer behind the reading of a file: a fault, only where the count of its name rose, or what comes next for its bytes. Of a name that the shelf doesn't
-- tell of they may be any bytes; a name that no file has allows the fault alone.
pub data AfterRead (s : Surroundings) (name : List ℕ) (Next : List ℕ → Answer → Type 0) (a : Answer) : Type 0 where
  read_failed : Rose (s.shelf_before name) (s.shelf_after name) → a ≡ read_fault → AfterRead s name Next a
  was_read : (bytes : List ℕ) → Agrees (s.held name) bytes → Next bytes a → AfterRead s name Next a
