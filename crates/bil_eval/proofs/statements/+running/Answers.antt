use Rattle.std.proofs.Common.{rules, ◌-◌, Ok, Err, refl, ap, sym, ◌∙◌, arith}
use Rattle.std.proofs.lemmas.Grind.{common_steps}
use Rattle.machine_spec.specs.BilMeaning as means
use Rattle.bil_ast.specs.declared.statements.Stmt.TheViews.{the_lemmas}
use Rattle.bil_ast.specs.Views.{expression, statements}
use Rattle.bil_eval.specs.Views.{env_of, held}
use Rattle.bil_eval.specs.Passes.{AtStart, Passes}
use Rattle.bil_eval.specs.Runs.{position, test}
use Rattle.bil_eval.specs.declared.env.Machine.{Machine}
use Rattle.bil_eval.specs.declared.statements.Flow.TheVariants.{Raised}
use Rattle.bil_eval.proofs.Runs.{else_runs, ends_there, goes_on, if_parts, runs_at, passes_else, passes_next, passes_on, passes_then, passes_there, passes_turn, passes_while, same_known, stayed, then_runs, turn_goes, wanting, wanting_more, while_parts, while_runs}
use Rattle.bil_eval.proofs.statements.+running.Goals as goal

pub act-repeat-requires : goal.act-repeat-requires
act-repeat-requires t c =
    let p = while_parts c.args.stmt.now c.in-While.condition c.in-While.body c.deref.result.now
    (held c.args.env.now.locals.items) c.in-While.is c.deref.ensures.value
    c.requires in
    (search (rules, the_lemmas), (p.0, p.1))

pub act-run-requires : goal.act-run-requires
act-run-requires t c =
    let p = if_parts c.args.stmt.now c.in-If.condition c.in-If.when_true c.in-If.when_false (held c.args.env.now.locals.items) c.in-If.is c.requires in (
      search (rules, the_lemmas),
      same_known c.deref-then-branch.result.now c.in-If.when_true.items _ (held c.holds.new.env.locals.items) c.deref-then-branch.ensures.value
          (ap held c.holds.ensures.locals) p.1,
    )

pub act-run-requires-else-branch : goal.act-run-requires-else-branch
act-run-requires-else-branch t c =
    let p = if_parts c.args.stmt.now c.in-If.condition c.in-If.when_true c.in-If.when_false (held c.args.env.now.locals.items) c.in-If.is c.requires in (
      search (rules, the_lemmas),
      same_known c.deref-else-branch.result.now c.in-If.when_false.items _ (held c.holds.new.env.locals.items) c.deref-else-branch.ensures.value
          (ap held c.holds.ensures.locals) p.2,
    )

pub act-returns-in-While-clause-comes : goal.act-returns-in-While-clause-comes
act-returns-in-While-clause-comes t c =
    while_runs c.args.stmt.now c.in-While.condition c.in-While.body c.args.env.now.machine.choice
    (position c.args.env.now c.args.progress.now) c.deref.result.now
    c.repeat.result _ c.in-While.is c.deref.ensures.value c.repeat.ensures.comes

pub act-returns-then-branch-clause-comes : goal.act-returns-then-branch-clause-comes
act-returns-then-branch-clause-comes t c =
    then_runs c.args.stmt.now c.in-If.condition c.in-If.when_true c.in-If.when_false c.args.env.now.machine.choice c.holds.new.env.machine.choice
    (position c.args.env.now c.args.progress.now) (position c.holds.new.env c.args.progress.now) c.in_ok-holds-in-If.field-0 c.deref-then-branch.result.now
    c.run.result _ c.in-If.is c.in_ok-holds-in-If.ensures.value c.if-branch.true c.deref-then-branch.ensures.value
    (cc (c.holds.ensures.machine)) (cc (c.holds.ensures.machine, c.holds.ensures.locals)) c.run.ensures.comes

pub act-returns-else-branch-clause-comes : goal.act-returns-else-branch-clause-comes
act-returns-else-branch-clause-comes t c =
    else_runs c.args.stmt.now c.in-If.condition c.in-If.when_true c.in-If.when_false c.args.env.now.machine.choice c.holds.new.env.machine.choice
    (position c.args.env.now c.args.progress.now) (position c.holds.new.env c.args.progress.now) c.in_ok-holds-in-If.field-0 c.deref-else-branch.result.now
    c.run-else-branch.result _ c.in-If.is c.in_ok-holds-in-If.ensures.value c.if-branch.false c.deref-else-branch.ensures.value
    (cc (c.holds.ensures.machine)) (cc (c.holds.ensures.machine, c.holds.ensures.locals)) c.run-else-branch.ensures.comes

pub repeat-loop-turn-preserved : goal.repeat-loop-turn-preserved
repeat-loop-turn-preserved t c = record {
  known = c.run.ensures.held ∙ ap held c.holds.ensures.locals ∙ c.loop-turn.invariant.known;
  choice = c.run.ensures.choice ∙ ap (λ (m : Machine). m.choice) c.holds.ensures.machine ∙ c.loop-turn.invariant.choice;
  runs = turn_goes c.args.progress.now.turns c.loop-turn._turn (expression c.args.condition.now) c.args.body.now c.args.env.now.machine.choice
      c.loop-turn.env.machine.choice c.holds.new.env.machine.choice (position c.loop-turn.env c.loop-turn.progress)
      (position c.holds.new.env (record c.loop-turn.progress { turns = c.loop-turn.progress.turns - 1 })) (position c.run.new.env c.run.new.progress)
      c.in_ok-holds.field-0
      (means.loop c.args.progress.now.turns (test (expression c.args.condition.now) c.args.env.now.machine.choice)
      (means.execute (statements c.args.body.now) c.args.env.now.machine.choice) (position c.args.env.now c.args.progress.now))
      c.loop-turn-test.true c.loop-turn.invariant.choice
      (ap (λ (m : Machine). m.choice) c.holds.ensures.machine ∙ c.loop-turn.invariant.choice) c.in_ok-holds.ensures.value c.if-not-branch.false
      c.if-progress-eq0.false (cc (c.holds.ensures.machine, c.holds.ensures.locals)) (rw c.in-On.is at c.in_ok-run.ensures.comes) c.loop-turn.invariant.runs;
  passes = λ e h. c.loop-turn.invariant.passes e (passes_next (expression c.args.condition.now) c.args.body.now c.args.env.now.machine.choice
      c.loop-turn.env.machine.choice c.holds.new.env.machine.choice e (position c.loop-turn.env c.loop-turn.progress)
      (position c.holds.new.env (record c.loop-turn.progress { turns = c.loop-turn.progress.turns - 1 })) (position c.run.new.env c.run.new.progress)
      c.in_ok-holds.field-0 c.loop-turn.invariant.choice
      (ap (λ (m : Machine). m.choice) c.holds.ensures.machine ∙ c.loop-turn.invariant.choice) c.in_ok-holds.ensures.value c.if-not-branch.false
      c.if-progress-eq0.false (cc (c.holds.ensures.machine, c.holds.ensures.locals)) (rw c.in-On.is at c.in_ok-run.ensures.comes) h);
}

pub run-act-requires : goal.run-act-requires
run-act-requires t c = (
  search (rules, the_lemmas),
  runs_at c.args.list.now c.loop-stmt.stmt-index c.stmt-item.result (held c.args.env.now.locals.items) _ c.requires c.loop-stmt-test.true
      c.stmt-item.is c.loop-stmt.invariant.known,
)

pub run-returns-in_err-act-clause-comes : goal.run-returns-in_err-act-clause-comes
run-returns-in_err-act-clause-comes t c =
    let h = ends_there c.args.list.now c.loop-stmt.stmt-index c.stmt-item.result c.args.env.now.machine.choice c.loop-stmt.env.machine.choice
    (position c.loop-stmt.env c.loop-stmt.progress) (position c.act.new.env c.act.new.progress) (Err c.in_err-act.field-0.0)
    (means.execute (statements c.args.list.now) c.args.env.now.machine.choice (position c.args.env.now c.args.progress.now))
    c.loop-stmt-test.true c.stmt-item.is c.loop-stmt.invariant.choice (λ e. cc) c.in_err-act.ensures.comes c.loop-stmt.invariant.runs in
    grind (arith, common_steps)

pub run-returns-in-Raised-clause-comes : goal.run-returns-in-Raised-clause-comes
run-returns-in-Raised-clause-comes t c =
    ends_there c.args.list.now c.loop-stmt.stmt-index c.stmt-item.result c.args.env.now.machine.choice c.loop-stmt.env.machine.choice
    (position c.loop-stmt.env c.loop-stmt.progress) (position c.act.new.env c.act.new.progress) (Ok (Raised c.in-Raised.number))
    (means.execute (statements c.args.list.now) c.args.env.now.machine.choice (position c.args.env.now c.args.progress.now))
    c.loop-stmt-test.true c.stmt-item.is c.loop-stmt.invariant.choice (λ e. cc) (rw c.in-Raised.is at c.in_ok-act.ensures.comes) c.loop-stmt.invariant.runs

pub run-loop-stmt-preserved : goal.run-loop-stmt-preserved
run-loop-stmt-preserved t c = record {
  known = c.act.ensures.held ∙ c.loop-stmt.invariant.known;
  choice = c.act.ensures.choice ∙ c.loop-stmt.invariant.choice;
  runs = goes_on c.args.list.now c.loop-stmt.stmt-index c.stmt-item.result c.args.env.now.machine.choice c.loop-stmt.env.machine.choice
      (position c.loop-stmt.env c.loop-stmt.progress) (position c.act.new.env c.act.new.progress)
      (means.execute (statements c.args.list.now) c.args.env.now.machine.choice (position c.args.env.now c.args.progress.now))
      c.loop-stmt-test.true c.stmt-item.is c.loop-stmt.invariant.choice (rw c.in-On.is at c.in_ok-act.ensures.comes) c.loop-stmt.invariant.runs;
  passes = λ e h. c.loop-stmt.invariant.passes e (passes_on c.args.list.now c.loop-stmt.stmt-index c.stmt-item.result c.args.env.now.machine.choice
      c.loop-stmt.env.machine.choice e (position c.loop-stmt.env c.loop-stmt.progress) (position c.act.new.env c.act.new.progress)
      c.loop-stmt-test.true c.stmt-item.is c.loop-stmt.invariant.choice (rw c.in-On.is at c.in_ok-act.ensures.comes) h);
}

pub act-returns-in_err-env-in-Assign-Memory-default-clause-passes : goal.act-returns-in_err-env-in-Assign-Memory-default-clause-passes
act-returns-in_err-env-in-Assign-Memory-default-clause-passes t c =
    stayed c.from_residual.result c.args.env.now.machine c.args.env.now.locals.items _ c.args.env.now.machine.choice _
    (position c.args.env.now c.args.progress.now) refl c.evaluate_memory.ensures.locals

pub act-returns-in_err-word-in-Assign : goal.act-returns-in_err-word-in-Assign
act-returns-in_err-word-in-Assign t c = record {
  comes = grind (arith, common_steps);
  passes = stayed c.from_residual-in_err-word-in-Assign.result c.args.env.now.machine c.args.env.now.locals.items _ c.args.env.now.machine.choice _
      (position c.args.env.now c.args.progress.now) refl c.evaluate_word.ensures.locals;
  held = ap held c.evaluate_word.ensures.locals;
  choice = refl;
}

pub act-returns-in_err-word-in-Jump-clause-passes : goal.act-returns-in_err-word-in-Jump-clause-passes
act-returns-in_err-word-in-Jump-clause-passes t c =
    stayed c.from_residual-in_err-word-in-Jump.result c.args.env.now.machine c.args.env.now.locals.items _ c.args.env.now.machine.choice _
    (position c.args.env.now c.args.progress.now) refl c.evaluate_word-in-Jump.ensures.locals

pub act-returns-in_err-holds-in-If-clause-passes : goal.act-returns-in_err-holds-in-If-clause-passes
act-returns-in_err-holds-in-If-clause-passes t c =
    stayed c.from_residual-in_err-holds-in-If.result c.holds.new.env.machine c.args.env.now.locals.items _ c.args.env.now.machine.choice _
    (position c.args.env.now c.args.progress.now) (ap (λ (m : Machine). env_of m c.args.env.now.locals.items)
    (sym c.holds.ensures.machine)) c.holds.ensures.locals

pub act-returns-in-While-clause-passes : goal.act-returns-in-While-clause-passes
act-returns-in-While-clause-passes t c =
    wanting_more c.repeat.result _ _ (passes_while c.args.stmt.now c.in-While.condition c.in-While.body c.args.env.now.machine.choice
    (env_of c.repeat.new.env.machine c.repeat.new.env.locals.items) (position c.args.env.now c.args.progress.now) c.deref.result.now c.in-While.is
    c.deref.ensures.value) c.repeat.ensures.passes

pub act-returns-then-branch-clause-passes : goal.act-returns-then-branch-clause-passes
act-returns-then-branch-clause-passes t c =
    wanting_more c.run.result _ _ (passes_then c.args.stmt.now c.in-If.condition c.in-If.when_true c.in-If.when_false c.args.env.now.machine.choice
    c.holds.new.env.machine.choice (env_of c.run.new.env.machine c.run.new.env.locals.items) (position c.args.env.now c.args.progress.now)
    (position c.holds.new.env c.args.progress.now) c.in_ok-holds-in-If.field-0 c.deref-then-branch.result.now c.in-If.is c.in_ok-holds-in-If.ensures.value
    c.if-branch.true c.deref-then-branch.ensures.value (cc (c.holds.ensures.machine)) (cc (c.holds.ensures.machine, c.holds.ensures.locals)))
    c.run.ensures.passes

pub act-returns-else-branch-clause-passes : goal.act-returns-else-branch-clause-passes
act-returns-else-branch-clause-passes t c =
    wanting_more c.run-else-branch.result _ _ (passes_else c.args.stmt.now c.in-If.condition c.in-If.when_true c.in-If.when_false c.args.env.now.machine.choice
    c.holds.new.env.machine.choice (env_of c.run-else-branch.new.env.machine c.run-else-branch.new.env.locals.items)
    (position c.args.env.now c.args.progress.now) (position c.holds.new.env c.args.progress.now) c.in_ok-holds-in-If.field-0 c.deref-else-branch.result.now
    c.in-If.is c.in_ok-holds-in-If.ensures.value c.if-branch.false c.deref-else-branch.ensures.value (cc (c.holds.ensures.machine))
    (cc (c.holds.ensures.machine, c.holds.ensures.locals)))
    c.run-else-branch.ensures.passes

pub repeat-returns-in_err-holds-clause-passes : goal.repeat-returns-in_err-holds-clause-passes
repeat-returns-in_err-holds-clause-passes t c =
    wanting c.from_residual.result _ (c.loop-turn.invariant.passes (env_of c.holds.new.env.machine c.holds.new.env.locals.items)
    (AtStart (cc (c.holds.ensures.machine, c.holds.ensures.locals))))

pub repeat-returns-in_err-run-clause-passes : goal.repeat-returns-in_err-run-clause-passes
repeat-returns-in_err-run-clause-passes t c =
    let e = env_of c.run.new.env.machine c.run.new.env.locals.items in
    let h = wanting_more (Err c.in_err-run.field-0.0) _ _ (λ (p : Passes _ e _ _). c.loop-turn.invariant.passes e
    (passes_turn (expression c.args.condition.now) c.args.body.now c.args.env.now.machine.choice
    c.loop-turn.env.machine.choice c.holds.new.env.machine.choice e (position c.loop-turn.env c.loop-turn.progress)
    (position c.holds.new.env (record c.loop-turn.progress { turns = c.loop-turn.progress.turns - 1 }))
    c.in_ok-holds.field-0 c.loop-turn.invariant.choice
    (ap (λ (m : Machine). m.choice) c.holds.ensures.machine ∙ c.loop-turn.invariant.choice) c.in_ok-holds.ensures.value c.if-not-branch.false
    c.if-progress-eq0.false (cc (c.holds.ensures.machine, c.holds.ensures.locals)) p)) c.in_err-run.ensures.passes in
    grind (arith, common_steps)

pub repeat-returns-in_err-holds-2-clause-passes : goal.repeat-returns-in_err-holds-2-clause-passes
repeat-returns-in_err-holds-2-clause-passes t c =
    wanting c.from_residual-in_err-holds-2.result _ (c.loop-turn.invariant.passes (env_of c.holds-2.new.env.machine c.holds-2.new.env.locals.items)
    (AtStart (cc (c.holds-2.ensures.machine, c.holds-2.ensures.locals))))

pub run-returns-in_err-act-clause-passes : goal.run-returns-in_err-act-clause-passes
run-returns-in_err-act-clause-passes t c =
    let e = env_of c.act.new.env.machine c.act.new.env.locals.items in
    let h = wanting_more (Err c.in_err-act.field-0.0) _ _ (λ (p : Passes _ e _ _). c.loop-stmt.invariant.passes e
    (passes_there c.args.list.now c.loop-stmt.stmt-index c.stmt-item.result c.args.env.now.machine.choice c.loop-stmt.env.machine.choice e
    (position c.loop-stmt.env c.loop-stmt.progress) c.loop-stmt-test.true c.stmt-item.is c.loop-stmt.invariant.choice p)) c.in_err-act.ensures.passes in
    grind (arith, common_steps)
