-- What is told in the code.
use Rattle.suite_report.specs.Reports as spec
use Rattle.suite_report.specs.declared.told.Told.{Told}

abbrev pub told_of : Told → spec.Told
told_of t = record { name = t.name.now; expect = t.expect.now; status = t.status; report = t.report.now; warnings = t.warnings.now }
