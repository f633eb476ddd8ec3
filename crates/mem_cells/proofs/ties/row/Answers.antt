use Rattle.std.proofs.Common.{◌≡◌, ◌+◌, ◌*◌, subst, arith}
use Rattle.mem_cells.specs.Ties.{AreTies, Before}
use Rattle.mem_cells.specs.Parts.{lists_of}
use Rattle.mem_cells.proofs.Growing.{grown_on, grown_more}
use Rattle.mem_cells.proofs.Agreements.{sums_kept, ties_fewer, whole_row}
use Rattle.mem_cells.proofs.ties.row.Goals as goal

pub tie-requires-clause-sums : goal.tie-requires-clause-sums
tie-requires-clause-sums c = sums_kept c.args.build.now c.loop-read.build _ c.args.sums.now c.requires.built c.loop-read.invariant.grown c.requires.sums

pub returns-clause-ties : goal.returns-clause-ties
returns-clause-ties c =
    let z : c.loop-read.read ≡ c.args.other = omega arith in
    ties_fewer c.loop-read.build (lists_of c.args.parts.now) _ (Before c.args.other c.args.other) (Before (c.args.other + 1) 0) (whole_row c.args.other)
    (subst (λ k. AreTies c.loop-read.build (lists_of c.args.parts.now) c.loop-read.agrees.items (Before c.args.other k)) z c.loop-read.invariant.ties)

pub loop-read-preserved : goal.loop-read-preserved
loop-read-preserved c =
    let i = c.loop-read.invariant in
    let n = c.loop-read.read in
    let e = c.in_ok-tie.ensures in
    record {
      grown = grown_more c.args.build.now c.tie.new.build (32 * n + 32) 0 (32 * (n + 1)) 0 (omega arith) (omega arith)
          (grown_on c.args.build.now c.loop-read.build c.tie.new.build (32 * n) 0 32 0 i.grown e.grown);
      kept = λ p j h. i.kept p j (e.kept p j h);
      ties = e.ties;
    }
