use Rattle.bil_ast.specs.Views.{statements}
use Rattle.bil_terms.proofs.Leaving.{begun_leads, list_left}
use Rattle.bil_terms.proofs.left.run_list.Goals as goal

pub run_statements-requires-clause-leads : goal.run_statements-requires-clause-leads
run_statements-requires-clause-leads c =
    begun_leads c.args.dag.now c.begin.new.dag c.args.names.now c.in_ok-begun.begun (statements c.args.list.now) c.in_ok-begun.ensures c.requires.runs

pub returns : goal.returns
returns c =
    list_left c.args.dag.now c.begin.new.dag c.run_statements.new.dag c.mk.new.self c.args.place c.args.names.now c.in_ok-begun.begun c.run_statements.new.run
    c.in_ok-raised.raised c.run_statements.new.stored c.new-stored.result.items (statements c.args.list.now) c.requires.runs c.in_ok-begun.ensures
    c.new-stored.ensures.items c.in_ok-run_statements.ensures c.in_ok-raised.ensures
