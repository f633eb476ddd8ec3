-- How a call ends.
use Rattle.std.specs.Prelude.{ℕ, ◌≡◌, ◌<◌, List, Option, Some, None, codes, length, take}
use Rattle.call_spec.specs.Outside.{Appends, Rose}
use Rattle.call_spec.specs.Calls.{Answer, plain_answer, Surroundings, AfterRead}
use Rattle.word_spec.specs.Texts.{line}
use Rattle.cnf_solver.specs.Requests.{Request}
use Rattle.cnf_solver.specs.Solutions.{IsSolved}

-- what is written where the line is not lawful
abbrev pub usage_text : List ℕ
usage_text = line (codes "usage: bilv_solve FILE [--conflicts C] [--certificate]")

-- the answer that is due: the usage, or that to the request
abbrev pub IsDue : Surroundings → Option Request → Answer → Type 0
IsDue s None a = a ≡ plain_answer 2 usage_text
IsDue s (Some r) a = AfterRead s r.file (λ text. IsSolved text r) a

-- A due answer was written whole; or a write failed behind a proper front of its text, only where the sink's count rose; or memory ran out, and
-- nothing was written.
pub data IsOutcome (s : Surroundings) (r : Option Request) (status : ℕ) : Type 0 where
  whole : (a : Answer) → IsDue s r a → Appends s.text_before a.text s.text_after → status ≡ a.status → IsOutcome s r status
  cut : (a : Answer) (n : ℕ) → IsDue s r a → n < length a.text → Appends s.text_before (take n a.text) s.text_after → Rose s.sink_before s.sink_after →
      status ≡ 7 → IsOutcome s r status
  no_memory : s.text_after ≡ s.text_before → status ≡ 8 → IsOutcome s r status
