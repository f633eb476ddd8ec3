use Rattle.std.proofs.Common.{◌≡◌, ◌<◌, ◌∙◌, sym, rules, length, get_or, below_more}
use Rattle.std.proofs.lemmas.Option.{slice_get_within}
use Rattle.clause_spec.specs.Clauses.{same}
use Rattle.clause_spec.specs.Refutation.{look_of}
use Rattle.clause_spec.proofs.Looks.{look-unit, same-self, or_left, or_right}
use Rattle.sat_core.specs.declared.trail.Step.{Step}
use Rattle.sat_core.specs.Tables.{true_in}
use Rattle.sat_core.proofs.Backwards.{clause-read}
use Rattle.sat_core.proofs.Stepping.{run-step}
use Rattle.sat_core.proofs.Visiting.{has-within, met-more, met-at}
use Rattle.sat_core.proofs.Watching.{short-met}
use Rattle.sat_core.proofs.propagate.assert_short.Goals as goal
use Rattle.sat_core.proofs.propagate.assert_short.Goals.{in-Unit, in-Other}

pub offset_bounds-clauses-k : goal.offset_bounds-clauses-k
offset_bounds-clauses-k c =
    let s = c.requires.short c.loop-k.k-index c.loop-k-test.true in
    let lt : get_or c.args.short.now c.loop-k.k-index 0 < length c.args.clauses.now = slice_get_within c.args.clauses.now _ s.0 s.1 in
    search rules

pub bounds-clauses-k : goal.bounds-clauses-k
bounds-clauses-k c =
    let s = c.requires.short c.loop-k.k-index c.loop-k-test.true in slice_get_within c.args.clauses.now _ s.0 s.1

pub look_at-requires : goal.look_at-requires
look_at-requires c =
    let cs = c.args.clauses.now in
    let k = get_or c.args.short.now c.loop-k.k-index 0 in
    let s = c.requires.short c.loop-k.k-index c.loop-k-test.true in
    let q = clause-read cs k s.0 c.index-clauses-k.result s.1 c.index-clauses-k.is in
    rw (c.lits.ensures, q, c.deref.ensures.value, c.loop-k.invariant.size)
    (λ l of. has-within (length c.args.trail.now.table.items) cs k l c.requires.over (s.0, s.1, of))

pub returns-in-Conflict-clause-conflict : goal.returns-in-Conflict-clause-conflict
returns-in-Conflict-clause-conflict c =
    let k = get_or c.args.short.now c.loop-k.k-index 0 in
    let s = c.requires.short c.loop-k.k-index c.loop-k-test.true in
    let q = clause-read c.args.clauses.now k s.0 c.index-clauses-k.result s.1 c.index-clauses-k.is in
    (s.0, s.1, sym (rw (c.deref.ensures.value, c.lits.ensures, q) at c.in-Conflict.ensures))

pub push-requires-clause-within : goal.push-requires-clause-within
push-requires-clause-within c =
    let cs = c.args.clauses.now in
    let k = get_or c.args.short.now c.loop-k.k-index 0 in
    let s = c.requires.short c.loop-k.k-index c.loop-k-test.true in
    let q = clause-read cs k s.0 c.index-clauses-k.result s.1 c.index-clauses-k.is in
    let u = look-unit (true_in c.loop-k.trail.table.items) s.0 c.in-Unit.lit (sym (rw (c.deref.ensures.value, c.lits.ensures, q) at c.in-Unit.ensures)) in
    rw c.loop-k.invariant.size (has-within (length c.args.trail.now.table.items) cs k c.in-Unit.lit c.requires.over (s.0, s.1, u.0))

pub push-requires-clause-not_false : goal.push-requires-clause-not_false
push-requires-clause-not_false c =
    let k = get_or c.args.short.now c.loop-k.k-index 0 in
    let s = c.requires.short c.loop-k.k-index c.loop-k-test.true in
    let q = clause-read c.args.clauses.now k s.0 c.index-clauses-k.result s.1 c.index-clauses-k.is in
    (look-unit (true_in c.loop-k.trail.table.items) s.0 c.in-Unit.lit (sym (rw (c.deref.ensures.value, c.lits.ensures, q) at c.in-Unit.ensures))).3

pub loop-k-preserved : goal.loop-k-preserved
loop-k-preserved c =
    let cs = c.args.clauses.now in
    let k = get_or c.args.short.now c.loop-k.k-index 0 in
    let s = c.requires.short c.loop-k.k-index c.loop-k-test.true in
    let q = clause-read cs k s.0 c.index-clauses-k.result s.1 c.index-clauses-k.is in
    let inv = c.loop-k.invariant in
    let h = true_in c.loop-k.trail.table.items in
    elim c.match-look_at.branch [
      | in-Unit w ↦
          let e : look_of h s.0 ≡ _ = sym (rw (c.deref.ensures.value, c.lits.ensures, q) at w.in-Unit.ensures) in
          let u = look-unit h s.0 w.in-Unit.lit e in
          let p = w.push.ensures in
          let step : Step = record { clause = k; lit = w.in-Unit.lit } in
          rw w.trail-is record {
            trail = p.trail;
            size = p.size ∙ inv.size;
            room = p.room ∙ inv.room;
            grows = λ l t. p.values l ∙ or_right (same w.in-Unit.lit l) (h l) (inv.grows l t);
            run = run-step cs c.args.trail.now.steps.items c.loop-k.trail.steps.items _ step h inv.run inv.trail.told_by (s.0, s.1, e) p.steps;
            met = below_more _ _ (λ j lt. met-more cs h _ _ (λ l t. p.values l ∙ or_right (same w.in-Unit.lit l) (h l) t) (inv.met j lt))
                (met-at cs _ k s.0 w.in-Unit.lit s.1 u.0 (p.values w.in-Unit.lit ∙ or_left (same w.in-Unit.lit w.in-Unit.lit) (h w.in-Unit.lit)
                (same-self w.in-Unit.lit)));
          }
      | in-Other w ↦
          let e = sym (rw (c.deref.ensures.value, c.lits.ensures, q) at w.in-Other.ensures) in
          let m = short-met h s.0 s.2 e in
          rw w.trail-is record {
            trail = inv.trail;
            size = inv.size;
            room = inv.room;
            grows = inv.grows;
            run = inv.run;
            met = below_more _ _ inv.met (met-at cs h k s.0 m.0 s.1 m.1 m.2);
          }
    ]
