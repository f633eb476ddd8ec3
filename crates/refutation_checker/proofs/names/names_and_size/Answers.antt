use Rattle.std.proofs.Common.{arith}
use Rattle.refutation_checker.proofs.Occurs.{place-within}
use Rattle.refutation_checker.proofs.names.names_and_size.Goals as goal

pub returns-clause-enough : goal.returns-clause-enough
returns-clause-enough c =
    let names = c.in_ok-names.names in
    λ x le h. let w = place-within names.items x (c.in_ok-names.ensures.all x h) in omega (arith, w, c.len-size.ensures, names.ok.0)
