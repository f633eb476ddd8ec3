use Rattle.std.proofs.Common.{◌≡◌, ◌∙◌, length}
use Rattle.clause_spec.specs.Clauses.{Literal}
use Rattle.sat_core.specs.Kept.{IsKept, IsNeeded}
use Rattle.sat_core.proofs.Learning.{learned-useful}
use Rattle.sat_core.proofs.Shorter.{hints-follow}
use Rattle.sat_core.proofs.learn.learn.Goals as goal

pub minimise-requires-clause-conflict : goal.minimise-requires-clause-conflict
minimise-requires-clause-conflict c =
    let a = rw c.in-Some.is at c.in_ok-_hints.ensures.hints in
    rw c.in_ok-_hints.ensures.clauses (hints-follow c.is_news.new.propagator.clauses.items c.args.lits.now _ a)

pub returns-clause-learned : goal.returns-clause-learned
returns-clause-learned c =
    let cs = c.args.propagator.now.clauses.items in
    let lits = c.args.lits.now in
    let m = c.in_ok-learned.ensures in
    let same_clauses = c.in_ok-_hints.ensures.clauses ∙ c.is_news.ensures.clauses in
    let k : IsKept cs lits c.in_ok-learned.learned.lits.items c.in_ok-learned.learned.hints.items = rw same_clauses at m.kept in
    let n : (l : Literal) → IsNeeded cs c.in_ok-learned.learned.lits.items l = rw same_clauses at m.minimal in
    let e : c.len.result ≡ length c.args.propagator.now.trail.table.items = c.len.ensures ∙ c.args.propagator.now.trail.table.ok.0 in
    let w = rw e at (c.are_over.ensures c.if-not-are_over.false) in
    record {
      hinted = k.hinted;
      over = λ l p. w l (k.part l p);
      plain = k.plain;
      useful = learned-useful cs lits c.in_ok-learned.learned.lits.items c.in_ok-learned.learned.hints.items k n
          (c.is_news.ensures.decided c.if-not-is_news.false);
    }
