-- The definitions' values that sets of clauses, logs and proofs stand for.
use Rattle.std.specs.Prelude.{List, map}
use Rattle.clause_spec.specs.Clauses as clauses
use Rattle.clause_spec.specs.Refutation as refutation
use Rattle.cnf_form.specs.declared.form.Cnf.{Cnf}
use Rattle.cnf_form.specs.declared.form.Hint.{Hint}
use Rattle.cnf_form.specs.declared.form.Hint.TheVariants.{ById, Negative}
use Rattle.cnf_form.specs.declared.form.LogLine.{LogLine}
use Rattle.cnf_form.specs.declared.form.LogLine.TheVariants.{Add, Delete, Bad}
use Rattle.cnf_form.specs.declared.form.Log.{Log}
use Rattle.cnf_form.specs.declared.form.Proof.{Proof}

-- the clauses with their number of variables
abbrev pub cnf_of : Cnf → clauses.Cnf
cnf_of c = record { variables = c.variables; clauses = c.clauses.items }

-- a hint
abbrev pub hint_of : Hint → refutation.Hint
hint_of (ById n) = refutation.ById n
hint_of (Negative n) = refutation.Negative n

-- a line of a log
abbrev pub line_of : LogLine → refutation.LogLine
line_of (Add id clause hints) = refutation.Add id clause (map hint_of hints.items)
line_of (Delete id ids) = refutation.Delete id ids.items
line_of Bad = refutation.Bad

-- the lines of a log
abbrev pub lines_of : Log → List refutation.LogLine
lines_of log = map line_of log.lines.items

-- clauses with the log of a proof
abbrev pub proof_of : Proof → refutation.Proof
proof_of p = record { clauses = cnf_of p.clauses; log = lines_of p.log }
