-- How a call ends.
use Rattle.std.proofs.Common.{ℕ, List, Option, Some, None, refl}
use Rattle.call_spec.specs.Calls.{Answer, Surroundings}
use Rattle.call_spec.specs.Outside.{Appends, Rose}
use Rattle.io_edges.specs.Met.{met}
use Rattle.io_edges.specs.WriteFaults.{Stopped}
use Rattle.io_edges.specs.declared.WriteFault.{WriteFault}
use Rattle.io_edges.proofs.Meeting.{read_met, front_of_stopped}
use Rattle.cnf_solver.specs.Requests.{Request}
use Rattle.cnf_solver.specs.Solutions.{IsSolved}
use Rattle.cnf_solver.specs.Ends.{IsDue, IsOutcome, whole, cut}

module _ (s : Surroundings) (before after : Option (List ℕ)) (sink_before sink_after : ℕ) where
  -- what is written changes no answer that is due
  due_met : (r : Option Request) (a : Answer) → IsDue s r a → IsDue (met s before after sink_before sink_after) r a
  due_met None a due = due
  due_met (Some r) a due =
      read_met s before after sink_before sink_after r.file (λ text. IsSolved text r) (λ text. IsSolved text r) a (λ text is. is) due

  pub whole_of : (r : Option Request) (a : Answer) → IsDue s r a → Appends before a.text after →
      IsOutcome (met s before after sink_before sink_after) r a.status
  whole_of r a due appends = whole a (due_met r a due) appends refl

  pub cut_of : (r : Option Request) (a : Answer) (e : WriteFault) → IsDue s r a → Stopped before a.text after e → Rose sink_before sink_after →
      IsOutcome (met s before after sink_before sink_after) r 7
  cut_of r a e due told risen =
      let front = front_of_stopped before a.text after e told in
      cut a front.0 (due_met r a due) front.1 front.2 risen refl
