use Rattle.std.proofs.Common.{rules}
use Rattle.trace_texts_spec.specs.Names.{names_of}
use Rattle.seen_step.specs.Views.{seen_of}
use Rattle.trace_text.specs.Appending.{near_in}
use Rattle.trace_text.proofs.Growing.{last_lines}
use Rattle.trace_text.proofs.steps.push_last_steps.Goals as goal

pub returns : goal.returns
returns g c =
    last_lines g.M.Machine.machine g.M.Machine.bank (names_of g.M.Machine.form) c.args.image.now (near_in c.args.symbols.now) seen_of c.args.steps.now
    c.args.last _ c.args.out.now.items _ _ (search rules) c.in_ok-push_left_out.ensures c.in_ok-push_steps.ensures
