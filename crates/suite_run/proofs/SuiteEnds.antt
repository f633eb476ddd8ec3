-- How runs and suites end.
use Rattle.std.proofs.Common.{◌≡◌, ℕ, ◌<◌, ◌≤◌, List, Option, Bool, true, false, length, take, refl, arith}
use Rattle.call_spec.specs.Outside.{Held, Appends, Rose}
use Rattle.io_edges.specs.Met.{met, seen}
use Rattle.io_edges.specs.WriteFaults.{Stopped}
use Rattle.io_edges.specs.declared.WriteFault.{WriteFault}
use Rattle.io_edges.proofs.Meeting.{front_of_stopped}
use Rattle.suite_file.specs.Suites.{Check}
use Rattle.suite_run.specs.Ends.{IsChosenEnd, listed, ran, not_begun}
use Rattle.suite_run.specs.Prints.{IsPrinted, cut as printing_cut}
use Rattle.suite_run.specs.Loads.{IsLoaded, read_failed, too_large, was_read, Loaded}
use Rattle.suite_run.specs.Requests.{Run}
use Rattle.suite_run.specs.Runs.{IsRun, whole, cut, no_memory}
use Rattle.suite_run.proofs.Wider.{Same, Rising, answers_wider, rose_wider}
use Rattle.note_check.specs.declared.warning.Warning.{Warning}

-- a text of which a write stopped
pub cut_printed : (text : List ℕ) (done : ℕ) (before after : Option (List ℕ)) (sink_before sink_after : ℕ) (e : WriteFault) → Stopped before text after e →
    Rose sink_before sink_after → IsPrinted text done before after sink_before sink_after 7
cut_printed text done before after sink_before sink_after e told risen =
    let front = front_of_stopped before text after e told in
    printing_cut front.0 front.1 front.2 risen refl

pub load_wider : (held : List ℕ → Held) (first before after : List ℕ → ℕ) (name : List ℕ) (l : Loaded) → Rising before after →
    IsLoaded held first before name l → IsLoaded held first after name l
load_wider held first before after name l late (read_failed risen is) =
    read_failed (rose_wider (first name) (first name) (before name) (after name) (omega arith) (late name) risen) is
load_wider held first before after name l late (too_large longer is) = too_large longer is
load_wider held first before after name l late (was_read bytes agrees is) = was_read bytes agrees is

module _ (Answers : List (List ℕ) → (file notes : List ℕ) → (status : ℕ) → (report : List ℕ) → List Warning → Type 0) (held now : List ℕ → Held)
    (first before after : List ℕ → ℕ) (same : Same held now) (early : Rising first before) (text_before text_after : Option (List ℕ))
    (sink_before sink_after : ℕ) where
  run_wider : (strict json : Bool) (checks : List Check) (status : ℕ) →
      IsRun Answers (met (seen now before after) text_before text_after sink_before sink_after) strict json checks status →
      IsRun Answers (met (seen held first after) text_before text_after sink_before sink_after) strict json checks status
  run_wider strict json checks status (whole xs are each written is) =
      whole xs are (answers_wider held now first before after after same early (λ n. omega arith) Answers xs each) written is
  run_wider strict json checks status (cut xs rest n are each proper written risen is) =
      cut xs rest n are (answers_wider held now first before after after same early (λ n. omega arith) Answers xs each) proper written risen is
  run_wider strict json checks status (no_memory xs rest are each written is) =
      no_memory xs rest are (answers_wider held now first before after after same early (λ n. omega arith) Answers xs each) written is

  pub chosen_wider : (r : Run) (checks : List Check) (status : ℕ) →
      IsChosenEnd Answers (met (seen now before after) text_before text_after sink_before sink_after) r checks status →
      IsChosenEnd Answers (met (seen held first after) text_before text_after sink_before sink_after) r checks status
  chosen_wider r checks status (listed is end) = listed is end
  chosen_wider r checks status (ran is end) = ran is (run_wider r.strict r.json _ status end)
  chosen_wider r checks status (not_begun same_text is) = not_begun same_text is
