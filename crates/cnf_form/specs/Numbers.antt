-- Numbers as they are read: each that is too large for a log is seen as one number.
use Rattle.std.specs.Prelude.{◌+◌, ◌^◌, min}
use Rattle.clause_spec.specs.CertificateGrammar.{Integer}

-- the number that stands for all above 2 ^ 62
abbrev pub capped : Integer → Integer
capped n = record { negative = n.negative; size = min n.size (2 ^ 62 + 1) }
