-- Numbers one after another.
use Rattle.std.proofs.Common.{List, ◌++◌, Option, option_map}
use Rattle.clause_spec.specs.CertificateGrammar.{Integer}

-- numbers before numbers, if there are such
abbrev pub behind : List Integer → Option (List Integer) → Option (List Integer)
behind xs o = option_map (λ ys. xs ++ ys) o
