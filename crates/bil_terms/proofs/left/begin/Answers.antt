use Rattle.bil_terms.proofs.Leaving.{run_begins}
use Rattle.bil_terms.proofs.left.begin.Goals as goal

pub returns : goal.returns
returns c =
    run_begins c.args.dag.now c.keep.new.self c.keep-2.new.self c.keep-3.new.self c.args.names.now c.in_ok-names.names c.in_ok-zero.zero c.in_ok-one.one
    c.in_ok-target.target c.requires.names c.in_ok-zero.ensures c.in_ok-one.ensures c.in_ok-target.ensures c.in_ok-names.ensures
