-- Command lines, and what they ask for; what files are as certificates; the text of values.
use Rattle.std.proofs.Common.{◌≡◌, refl, codes, [], ◌∷◌, Some, None, true, false}
use Rattle.std.specs.Fmt.{digits}
use Rattle.clap.proofs.OnLiterals.{clap_on_literals}
use Rattle.cnf_solver.specs.Requests.{lawful_request, solve_app, takes_line}
use Rattle.cnf_solver.specs.Solutions.{as_certificate, satisfiable_text}

plain : lawful_request (codes "s" ∷ codes "f" ∷ []) ≡ Some (record { file = codes "f"; conflicts = 200000; certificate = false })
unfolding clap_on_literals solve_app takes_line
plain = refl

certified : lawful_request (codes "s" ∷ codes "--certificate" ∷ codes "f" ∷ codes "--conflicts" ∷ codes "4294967295" ∷ [])
    ≡ Some (record { file = codes "f"; conflicts = 4294967295; certificate = true })
unfolding clap_on_literals solve_app takes_line
certified = refl

no_conflicts : lawful_request (codes "s" ∷ codes "f" ∷ codes "--conflicts" ∷ codes "0" ∷ []) ≡ None
unfolding clap_on_literals solve_app takes_line
no_conflicts = refl

no_file : lawful_request (codes "s" ∷ codes "--certificate" ∷ []) ≡ None
unfolding clap_on_literals solve_app takes_line
no_file = refl

two_files : lawful_request (codes "s" ∷ codes "f" ∷ codes "g" ∷ []) ≡ None
unfolding clap_on_literals solve_app takes_line
two_files = refl

with_line_feed : as_certificate (codes "p cnf 0 0\n") ≡ codes "p cnf 0 0\nproof\n"
with_line_feed = refl

without_line_feed : as_certificate (codes "p cnf 0 0") ≡ codes "p cnf 0 0\nproof\n"
without_line_feed = refl

empty : as_certificate [] ≡ codes "proof\n"
empty = refl

seven_values : satisfiable_text (true ∷ false ∷ true ∷ true ∷ true ∷ true ∷ false ∷ []) ≡ codes "s SATISFIABLE\nv 1 -2 3 4 5 6\nv -7 0\n"
unfolding digits
seven_values = refl
