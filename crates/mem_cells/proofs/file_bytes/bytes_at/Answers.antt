use Rattle.std.proofs.Common.{◌≤◌, map, length, ◌∙◌, arith}
use Rattle.std.specs.Prelude.{slice_index}
use Rattle.known_bytes.specs.Runs.{run_of}
use Rattle.mem_cells.specs.Asked.{head_asks}
use Rattle.mem_cells.proofs.FileBytes.{file_next, count_next, few_known}
use Rattle.mem_cells.proofs.file_bytes.bytes_at.Goals as goal

pub loop-at-preserved : goal.loop-at-preserved
loop-at-preserved c =
    let runs = map run_of c.args.known.now in
    let xs = c.args.asked.now in
    let i = c.loop-at.at-index in
    let l = c.loop-at-test.true in
    let h = c.loop-at.invariant in
    let f = c.known_byte-found.ensures ∙ c.passed-from.ensures.same (slice_index xs i) (omega arith) ∙ h.same (slice_index xs i) l (omega arith) in
    record {
      within = c.passed-from.ensures.within;
      same = λ a k q. let g : slice_index xs i ≤ a = omega (arith, q, c.requires i k) in c.passed-from.ensures.same a g ∙ h.same a l g;
      are = file_next runs (head_asks c.args.of_heads c.args.kept.now) xs i 0 c.loop-at.bytes.items c.add_byte.new.bytes.items c.is_of_head-head.result
          c.known_byte-found.result l c.in_ok-add_byte.ensures c.is_of_head-head.ensures f h.are;
      count = count_next runs xs i 0 c.loop-at.bytes.items c.add_byte.new.bytes.items c.is_of_head-head.result c.known_byte-found.result l
          c.in_ok-add_byte.ensures f h.count;
    }

pub returns-clause-few : goal.returns-clause-few
returns-clause-few c =
    let l : length c.args.asked.now ≤ c.loop-at.at-index = omega (arith, c.loop-at-test.false) in
    few_known c.args.known.now c.args.asked.now c.loop-at.at-index (length c.loop-at.bytes.items) c.requires l c.loop-at.invariant.count
