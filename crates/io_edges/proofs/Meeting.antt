-- What is written changes nothing of what is read, and what it leaves where it stops.
use Rattle.std.proofs.Common.{ℕ, ◌<◌, List, length, take, Option, arith}
use Rattle.call_spec.specs.Calls.{Answer, Surroundings, AfterRead, read_failed, was_read}
use Rattle.call_spec.specs.Outside.{Appends}
use Rattle.io_edges.specs.Met.{met}
use Rattle.io_edges.specs.WriteFaults.{Stopped}
use Rattle.io_edges.specs.declared.WriteFault.{WriteFault}
use Rattle.io_edges.specs.declared.WriteFault.TheVariants.{Failed, Stuck}

-- the answer behind the reading of a file stays so, where what comes next does
pub read_met : (s : Surroundings) (before after : Option (List ℕ)) (sink_before sink_after : ℕ) (name : List ℕ) (Next Other : List ℕ → Answer → Type 0)
    (a : Answer) → ((bytes : List ℕ) → Next bytes a → Other bytes a) → AfterRead s name Next a →
    AfterRead (met s before after sink_before sink_after) name Other a
read_met s before after sink_before sink_after name Next Other a step (read_failed risen is) = read_failed risen is
read_met s before after sink_before sink_after name Next Other a step (was_read bytes agrees next) = was_read bytes agrees (step bytes next)

-- a writing that stopped left a proper front of the bytes
pub front_of_stopped : (before : Option (List ℕ)) (bytes : List ℕ) (after : Option (List ℕ)) (fault : WriteFault) → Stopped before bytes after fault →
    (n : ℕ) × (n < length bytes) × Appends before (take n bytes) after
front_of_stopped before bytes after (Failed written) told = (written, told.some_left, told.appends)
front_of_stopped before bytes after (Stuck written offered) told =
    let some = told.some_offered in
    let all = told.all in
    (written, omega arith, told.appends)
