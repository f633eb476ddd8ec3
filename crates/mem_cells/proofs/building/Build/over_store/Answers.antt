use Rattle.std.proofs.Common.{◌+◌, ◌*◌, arith}
use Rattle.mem_cells.proofs.Growing.{grown_on, grown_more}
use Rattle.mem_cells.proofs.Puts.{put_next}
use Rattle.mem_cells.proofs.building.Build.over_store.Goals as goal

pub loop-k-preserved : goal.loop-k-preserved
loop-k-preserved c =
    let h = c.loop-k.invariant in
    let e = c.in_ok-byte.ensures in
    let a = c.args.self.now in
    let m = c.loop-k.self in
    let b = c.put_over.new.self in
    record {
      grown = grown_more a b (40 * c.loop-k.k + 40) 0 (40 * (c.loop-k.k + 1)) 0 (omega arith) (omega arith)
          (grown_on a m b (40 * c.loop-k.k) 0 40 0 h.grown e.grown);
      byte = put_next a m b _ _ c.args.bytes c.loop-k.k (40 * c.loop-k.k) 0 _ _ _ _ h.grown c.requires.bytes (omega arith) c.requires.address h.byte e.byte;
    }
