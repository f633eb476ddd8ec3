-- Made work holds.
use Rattle.std.proofs.Common.{ℕ, ◌≤◌, refl, subst, arith, length}
use Rattle.bilv_spec.specs.Run.{Program}
use Rattle.bilv_spec.specs.Verdict.{IsRight, Holds}
use Rattle.call_spec.specs.Calls.{default_options}
use Rattle.notes_spec.specs.Verified.{IsFound}
use Rattle.command_spec.specs.Work.{work_file, work_notes, item_words}
use Rattle.command_spec.specs.Commands.{SelfRun, IsLawfulCommand}
use Rattle.answer_laws.proofs.OneProgram.{one_program}
use Rattle.answer_laws.proofs.RowFileBytes.{is_accepted}
use Rattle.answer_laws.proofs.ItemRows.{words_long}
use Rattle.answer_laws.proofs.WorkRuns.{made_notes, made_program, made_holds}
use Rattle.answer_laws.proofs.WorkNotes.{reads_made, made_short}

made_found : (seed count : ℕ) → IsLawfulCommand (SelfRun seed count) →
    IsFound default_options (work_file seed count) (work_notes seed count) (made_program seed count)
made_found seed count (seed_small, some, few) =
    let short : length (item_words seed count) ≤ 65536 = let l = words_long seed count in omega arith in (
      is_accepted (item_words seed count) short,
      made_short seed count seed_small few,
      (made_notes seed count, 65536, reads_made seed count seed_small few, refl, refl),
    )

pub work_holds : (seed count : ℕ) → IsLawfulCommand (SelfRun seed count) →
    ((p : Program) × IsFound default_options (work_file seed count) (work_notes seed count) p)
    × ((p : Program) → IsFound default_options (work_file seed count) (work_notes seed count) p → (k : ℕ) → IsRight p k Holds)
work_holds seed count lawful = (
  (made_program seed count, made_found seed count lawful),
  λ p found k.
      subst (λ (q : Program). IsRight q k Holds)
      (one_program default_options (work_file seed count) (work_notes seed count) (made_program seed count) p (made_found seed count lawful) found)
      (made_holds seed count lawful.0 lawful.2 k),
)
