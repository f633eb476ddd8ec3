-- Lines as they are read.
use Rattle.clause_spec.specs.Refutation.{LogLine, is_of_grammar}
use Rattle.clause_spec.specs.CertificateGrammar.{bounded}

-- the line, where its numbers are those of the grammar
abbrev pub read_as : LogLine → LogLine
read_as l = bounded (is_of_grammar l) l
