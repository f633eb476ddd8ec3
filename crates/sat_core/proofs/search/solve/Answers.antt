use Rattle.std.proofs.Common.{◌≡◌, ◌+◌, ◌-◌, ◌≤◌, ◌^◌, ◌∙◌, length, arith, sym, ap, map, true, false}
use Rattle.std.proofs.lemmas.List.{length-map}
use Rattle.std.proofs.lemmas.Bool.{both_ways}
use Rattle.std.specs.Prelude.{◌==◌}
use Rattle.clause_spec.specs.Refutation.{first_refusal, known_at_start}
use Rattle.cnf_form.specs.Views.{line_of}
use Rattle.sat_core.specs.declared.trail.Trail.{Trail}
use Rattle.sat_core.proofs.Logs.{searched-start, searched-step, searched-end, searched-spent, searched-next, line-pushed}
use Rattle.sat_core.proofs.search.solve.Goals as goal
use Rattle.sat_core.proofs.search.solve.Goals.{else-not-is_last-via-then-not-is_last+else-len-conflicts, else-not-is_last-via-else-not-is_last}

pub loop-lines-init : goal.loop-lines-init
loop-lines-init c = record {
  sound = c.in_ok-solver.ensures.sound;
  empty = c.in_ok-solver.ensures.empty;
  size = c.in_ok-solver.ensures.size;
  small = c.in_ok-solver.ensures.small;
  searched = searched-start c.args.cnf.now.variables c.args.cnf.now.clauses.items c.in_ok-solver.solver.main.clauses.items
      (map line_of c.new-lines.result.items) c.requires.over
      c.in_ok-solver.ensures.clauses (ap (map line_of) c.new-lines.ensures.items);
  few = (let a = c.new-lines.ensures.len in omega arith);
}

pub returns-in-Model : goal.returns-in-Model
returns-in-Model c =
    let few : length c.loop-lines.solver.main.trail.table.items - 1 ≡ c.args.cnf.now.variables = (let e = c.loop-lines.invariant.size in omega arith) in
    let r = rw (c.in-Model.is, few) at c.in_ok-list.ensures.turn in
    (r.0, λ x k. r.1 x (c.loop-lines.invariant.searched.more x k))

pub returns-then-len-conflicts : goal.returns-then-len-conflicts
returns-then-len-conflicts c =
    let cs = c.loop-lines.solver.main.clauses.items in
    let n = c.args.cnf.now.variables in
    let first = c.args.cnf.now.clauses.items in
    let lines = map line_of c.loop-lines.lines.items in
    let lits = c.in-Clause.learned.lits.items in
    let searched = c.loop-lines.invariant.searched in
    let variables : length c.loop-lines.solver.main.trail.table.items - 1 ≡ n = (let e = c.loop-lines.invariant.size in omega arith) in
    let h = rw (c.in-Clause.is, variables) at c.in_ok-list.ensures.turn in
    let f : c.is_empty-is_last.result ≡ false = c.if-not-is_last.true in
    let z : (length lits == 0) ≡ false = rw (← c.in-Clause.learned.lits.ok.0) (sym c.is_empty-is_last.ensures ∙ f) in (
      (searched-spent n first cs lines searched, length-map c.loop-lines.lines.items line_of ∙ sym c.loop-lines.lines.ok.0 ∙ sym c.len.ensures ∙ c.if-len-conflicts.true),
      (lits, searched-next n first cs lines searched lits c.in-Clause.learned.hints.items h z),
    )

pub returns-then-is_last : goal.returns-then-is_last
returns-then-is_last c =
    let cs = c.loop-lines.solver.main.clauses.items in
    let n = c.args.cnf.now.variables in
    let first = c.args.cnf.now.clauses.items in
    let lines = map line_of c.loop-lines.lines.items in
    let lits = c.in-Clause.learned.lits.items in
    let hints = c.in-Clause.learned.hints in
    let t = c.in_ok-list.ensures in
    let variables : length c.loop-lines.solver.main.trail.table.items - 1 ≡ n = (let e = c.loop-lines.invariant.size in omega arith) in
    let h = rw (c.in-Clause.is, variables) at t.turn in
    let few : n ≤ 2 ^ 62 = c.loop-lines.invariant.small in
    let id : c.len-in-loop-lines.result + 1 ≡ length cs + 1 = (let a : c.len-in-loop-lines.result
    ≡ length cs = c.len-in-loop-lines.ensures ∙ c.next_turn.new.propagator.clauses.ok.0 ∙ ap (λ z. length z.items) t.clauses in omega arith) in
    let small : length cs + 1 ≤ 2 ^ 62 = (let a : c.len-in-loop-lines.result + 1 ≤ 2 ^ 62 = c.if-id-gt-GREATEST_NUMBER.false in omega arith) in
    let d : c.in_ok-clause.clause ≡ lits = c.in_ok-clause.ensures ∙ c.deref.ensures.value in
    let p = line-pushed cs lits c.in_ok-clause.clause hints (c.len-in-loop-lines.result + 1) c.loop-lines.lines.items c.push.new.self.items
    c.in_ok-push.ensures.items id d in
    let z : (length lits == 0) ≡ true = rw (← c.in-Clause.learned.lits.ok.0) (sym c.is_empty-is_last.ensures ∙ c.if-is_last.true) in
    ap (first_refusal n (known_at_start first) 1) p ∙ searched-end n first cs lines c.loop-lines.invariant.searched lits hints.items h few small z

pub loop-lines-preserved : goal.loop-lines-preserved
loop-lines-preserved c =
    let cs = c.loop-lines.solver.main.clauses.items in
    let n = c.args.cnf.now.variables in
    let first = c.args.cnf.now.clauses.items in
    let lines = map line_of c.loop-lines.lines.items in
    let lits = c.in-Clause.learned.lits.items in
    let hints = c.in-Clause.learned.hints in
    let t = c.in_ok-list.ensures in
    let variables : length c.loop-lines.solver.main.trail.table.items - 1 ≡ n = (let e = c.loop-lines.invariant.size in omega arith) in
    let h = rw (c.in-Clause.is, variables) at t.turn in
    let few : n ≤ 2 ^ 62 = c.loop-lines.invariant.small in
    let id : c.len-in-loop-lines.result + 1 ≡ length cs + 1 = (let a : c.len-in-loop-lines.result
    ≡ length cs = c.len-in-loop-lines.ensures ∙ c.next_turn.new.propagator.clauses.ok.0 ∙ ap (λ z. length z.items) t.clauses in omega arith) in
    let small : length cs + 1 ≤ 2 ^ 62 = (let a : c.len-in-loop-lines.result + 1 ≤ 2 ^ 62 = c.if-id-gt-GREATEST_NUMBER.false in omega arith) in
    let d : c.in_ok-clause.clause ≡ lits = c.in_ok-clause.ensures ∙ c.deref.ensures.value in
    let p = line-pushed cs lits c.in_ok-clause.clause hints (c.len-in-loop-lines.result + 1) c.loop-lines.lines.items c.push.new.self.items
    c.in_ok-push.ensures.items id d in
    let z : (length lits == 0) ≡ false = rw (← c.in-Clause.learned.lits.ok.0) (sym c.is_empty-is_last.ensures ∙ c.if-is_last.false) in
    let inv = c.loop-lines.invariant in
    let more = c.in_ok-push.ensures.len in
    record {
      sound = c.in_ok-add.ensures.sound;
      empty = ap (λ (z : Trail). z.steps.items) c.in_ok-add.ensures.trail ∙ t.empty;
      size = ap (λ (z : Trail). length z.table.items) c.in_ok-add.ensures.trail ∙ t.size ∙ inv.size;
      small = inv.small;
      searched = rw (c.in_ok-add.ensures.clauses, c.in_ok-again.ensures, c.deref-in-loop-lines-2.ensures.value, p, t.clauses)
          (searched-step n first cs lines inv.searched lits hints.items h few small z);
      few = elim c.else-not-is_last.branch [
        | else-not-is_last-via-then-not-is_last+else-len-conflicts w ↦ omega (arith, more, inv.few, w.len.ensures, w.if-len-conflicts.false)
        | else-not-is_last-via-else-not-is_last w ↦ absurd (both_ways c.is_empty-is_last.result c.if-is_last.false w.if-not-is_last.false)
      ];
    }

pub add-requires-clause-over : goal.add-requires-clause-over
add-requires-clause-over c =
    let t = c.in_ok-list.ensures in
    let h = rw (c.in-Clause.is, ← t.size) at t.turn in
    rw (c.in_ok-again.ensures, c.deref-in-loop-lines-2.ensures.value) h.over

pub loop-lines-smaller : goal.loop-lines-smaller
loop-lines-smaller c =
    let inv = c.loop-lines.invariant in
    let t = c.in_ok-list.ensures in
    let more = c.in_ok-push.ensures.len in
    elim c.else-not-is_last.branch [
      | else-not-is_last-via-then-not-is_last+else-len-conflicts w ↦ omega (arith, more, inv.few, w.len.ensures, w.if-len-conflicts.false)
      | else-not-is_last-via-else-not-is_last w ↦ absurd (both_ways c.is_empty-is_last.result c.if-is_last.false w.if-not-is_last.false)
    ]
