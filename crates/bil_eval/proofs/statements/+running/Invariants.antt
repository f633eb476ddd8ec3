use Rattle.std.proofs.Common.{◌≡◌, ◌-◌, drop}
use Rattle.machine_spec.specs.Bil.{Empty, While}
use Rattle.machine_spec.specs.BilMeaning.{Env, execute, loop}
use Rattle.bil_ast.specs.Views.{expression, statements}
use Rattle.bil_eval.specs.Views.{held}
use Rattle.bil_eval.specs.Passes.{Passes}
use Rattle.bil_eval.specs.Runs.{position, test}
use Rattle.bil_eval.proofs.statements.+running.Given as goal

abbrev pub invariant-run-loop-stmt : goal.invariant-run-loop-stmt
invariant-run-loop-stmt l = record {
  known : held l.env.locals.items ≡ held l.fn.env.locals.items;
  choice : l.env.machine.choice ≡ l.fn.env.machine.choice;
  runs : execute (statements (drop l.stmt-index l.list)) l.fn.env.machine.choice (position l.env l.progress)
      ≡ execute (statements l.fn.list) l.fn.env.machine.choice (position l.fn.env l.fn.progress);
  passes : (e : Env) → Passes l.fn.env.machine.choice e (statements (drop l.stmt-index l.list)) (position l.env l.progress)
      → Passes l.fn.env.machine.choice e (statements l.fn.list) (position l.fn.env l.fn.progress);
}

abbrev pub invariant-repeat-loop-turn : goal.invariant-repeat-loop-turn
invariant-repeat-loop-turn l = record {
  known : held l.env.locals.items ≡ held l.fn.env.locals.items;
  choice : l.env.machine.choice ≡ l.fn.env.machine.choice;
  runs : loop (l.most - l._turn) (test (expression l.condition) l.fn.env.machine.choice) (execute (statements l.body) l.fn.env.machine.choice)
      (position l.env l.progress)
      ≡ loop l.fn.progress.turns (test (expression l.fn.condition) l.fn.env.machine.choice) (execute (statements l.fn.body) l.fn.env.machine.choice)
      (position l.fn.env l.fn.progress);
  passes : (e : Env) → Passes l.fn.env.machine.choice e (While (expression l.condition) (statements l.body) Empty) (position l.env l.progress)
      → Passes l.fn.env.machine.choice e (While (expression l.fn.condition) (statements l.fn.body) Empty) (position l.fn.env l.fn.progress);
}
