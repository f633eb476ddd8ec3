use Rattle.std.proofs.Common.{ℕ, ◌<◌, ◌+◌, List, length, ap, sym, ◌∙◌, subst, arith}
use Rattle.std.specs.Prelude.{slice_index}
use Rattle.term_dag.proofs.ListLaws.{longer}
use Rattle.mem_cells.specs.declared.pieces.Split.{Split}
use Rattle.mem_cells.specs.Pieces.{IsSplit}
use Rattle.mem_cells.specs.Building.{read_places}
use Rattle.mem_cells.specs.Ties.{sum_at}
use Rattle.mem_cells.proofs.Agreements.{mapped_at, read_width, sum_next_of}
use Rattle.mem_cells.proofs.ties.sums_of.Goals as goal

pub sum_of-sum-requires-clause-place : goal.sum_of-sum-requires-clause-place
sum_of-sum-requires-clause-place c =
    let b = c.args.build.now in
    let l : c.loop-read.read < length b.addresses.items = omega (arith, c.loop-read-test.true, c.len-read-end.ensures) in
    read_width b c.loop-read.read c.index.result.now _ c.requires.built l c.index.ensures

pub loop-read-preserved : goal.loop-read-preserved
loop-read-preserved c =
    let b = c.args.build.now in
    let l : c.loop-read.read < length b.addresses.items = omega (arith, c.loop-read-test.true, c.len-read-end.ensures) in
    record {
      count = ap length c.in_ok-push.ensures.items ∙ longer c.loop-read.sums.items c.sum_of-sum.result ∙ ap (λ z. z + 1) c.loop-read.invariant.count;
      sums = subst (λ (z : List Split). (j : ℕ) → j < c.loop-read.read + 1 →
          IsSplit b.dag (slice_index (read_places b) j) (sum_at z j).base.0 (sum_at z j).offset) (sym c.in_ok-push.ensures.items)
          (sum_next_of b c.loop-read.sums.items c.sum_of-sum.result c.loop-read.read c.index.result.now.0 c.loop-read.invariant.count
          (ap (λ z. z.0) c.index.ensures ∙ mapped_at b.addresses.items c.loop-read.read _ l) c.sum_of-sum.ensures c.loop-read.invariant.sums);
    }
