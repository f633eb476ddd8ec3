use Rattle.std.proofs.Common.{sym, ◌∙◌, ap, ◌≡◌}
use Rattle.clause_spec.specs.Clauses.{Literal, opposite}
use Rattle.refutation_checker.proofs.Seen.{has-item, resume-false, resume-first, resume-same}
use Rattle.refutation_checker.proofs.assignment.look_at.Goals as goal
use Rattle.refutation_checker.proofs.assignment.look_at.Goals.{then-not-is_true+in-None, then-not-is_true+in-Some+else-not-is_same, else-not-is_true}

pub is_true-requires : goal.is_true-requires
is_true-requires g c =
    let asked : g.A.Assignment.covers c.args.assignment.now c.opposite.result.variable = rw (ap (λ (y : Literal). y.variable) c.opposite.ensures)
    (c.requires c.lit-item.result (has-item c.args.clause.now c.loop-lit.lit-index c.lit-item.result c.loop-lit-test.true c.lit-item.is)) in
    asked

pub loop-lit-preserved : goal.loop-lit-preserved
loop-lit-preserved g c =
    let h = g.A.Assignment.true_in c.args.assignment.now in
    let i = c.loop-lit.lit-index in
    let xs = c.args.clause.now in
    let x = c.lit-item.result in
    let lt = c.loop-lit-test.true in
    let is = c.lit-item.is in
    let inv = c.loop-lit.invariant in
    let here : c.is_true.result ≡ h (opposite x) = c.is_true.ensures ∙ ap h c.opposite.ensures in
    elim c.if-not-is_true.branch [
      | then-not-is_true+in-None w ↦
          let s = rw w.in-None.is at inv.same_look in
          record {
            same_look = rw w.open-is (s ∙ resume-first h xs i x lt is (sym here ∙ w.if-not-is_true.true));
            of_clause = rw w.open-is (has-item xs i x lt is);
          }
      | then-not-is_true+in-Some+else-not-is_same w ↦
          let s = rw w.in-Some.is at inv.same_look in
          record {
            same_look = rw w.open-is (s ∙ resume-same h xs i x lt is w.in-Some.first (sym w.is_same.ensures ∙ w.if-not-is_same.false)
                (sym here ∙ w.if-not-is_true.true));
            of_clause = rw w.open-is (rw w.in-Some.is at inv.of_clause);
          }
      | else-not-is_true w ↦
          record {
            same_look = rw w.open-is (inv.same_look ∙ resume-false h xs i x lt is c.loop-lit.open (sym here ∙ w.if-not-is_true.false));
            of_clause = rw w.open-is inv.of_clause;
          }
    ]
