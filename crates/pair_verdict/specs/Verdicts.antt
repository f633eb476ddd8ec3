-- Verdicts on two functions as the reports of the definitions, with their evidence.
use Rattle.call_spec.specs.Calls as calls
use Rattle.call_spec.specs.Calls.{Evidence, EntryRefuted, Count, Two, Both, SpentOnPair}
use Rattle.cnf_form.specs.Views.{proof_of}
use Rattle.pair_form.specs.Views.{pair_question_of}
use Rattle.pair_spec.specs.Equals.{PairReport, OfFirst, OfSecond, NoPairReport, DiffersReport, EqualReport, PairPointsReport, PairSizeReport, PairConflictsReport}
use Rattle.start_value.specs.Starts.{written_of}
use Rattle.verdict.specs.Verdicts as sides
use Rattle.verdict.specs.declared.verdicts.Exceeded as past
use Rattle.verdict.specs.declared.verdicts.Exceeded.TheVariants.{Points, Size}
use Rattle.pair_verdict.specs.declared.verdicts.Holding.{Holding}
use Rattle.pair_verdict.specs.declared.verdicts.PairVerdict.{PairVerdict}
use Rattle.pair_verdict.specs.declared.verdicts.PairVerdict.TheVariants.{First, Second, NoPair, Differs, Equal, Exceeded, Conflicts}

-- what shows that a function holds
abbrev pub holding_of : Holding → calls.Holding
holding_of h = record { start = written_of h.start; fail = proof_of h.fail; turn = proof_of h.turn }

-- what an exceeded budget says
abbrev pub exceeded_report : past.Exceeded → PairReport
exceeded_report (Points count) = PairPointsReport
exceeded_report (Size price) = PairSizeReport

-- what a verdict says
abbrev pub report_of : PairVerdict → PairReport
report_of (First v) = OfFirst (sides.report_of v)
report_of (Second v) = OfSecond (sides.report_of v)
report_of (NoPair proof) = NoPairReport
report_of (Differs line first_step second_step first second) = DiffersReport line first_step second_step
report_of (Equal first second first_start second_start difference) = EqualReport
report_of (Exceeded e) = exceeded_report e
report_of (Conflicts question proof) = PairConflictsReport

-- what shows it
abbrev pub evidence_of : PairVerdict → Evidence
evidence_of (First v) = sides.evidence_of v
evidence_of (Second v) = sides.evidence_of v
evidence_of (NoPair proof) = EntryRefuted (proof_of proof)
evidence_of (Differs line first_step second_step first second) = Two (written_of first) (written_of second)
evidence_of (Equal first second first_start second_start difference) =
    Both (holding_of first) (holding_of second) (written_of first_start) (written_of second_start) (proof_of difference)
evidence_of (Exceeded e) = Count (sides.exceeded_count e)
evidence_of (Conflicts question proof) = SpentOnPair (pair_question_of question) (proof_of proof)
