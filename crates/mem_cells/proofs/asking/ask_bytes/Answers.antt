use Rattle.std.proofs.Common.{◌≡◌, ℕ, ◌*◌, length, subst, arith}
use Rattle.mem_cells.specs.Building.{Grown, read_places}
use Rattle.mem_cells.proofs.Growing.{grown_on, mapped_length}
use Rattle.mem_cells.proofs.Asks.{byte_more}
use Rattle.mem_cells.proofs.asking.ask_bytes.Goals as goal

pub loop-place-preserved : goal.loop-place-preserved
loop-place-preserved c =
    let a = c.args.build.now in
    let b = c.loop-place.build in
    let d = c.ask_reads.new.build in
    let i = c.loop-place.invariant in
    let e = c.in_ok-ask_reads.ensures in
    let r = length (read_places a) in
    let n : c.len-count.result ≡ r = omega (arith, c.len-count.ensures, mapped_length a.addresses.items) in
    record {
      grown = subst (λ (z : ℕ). Grown a d z 0) (byte_more r c.loop-place.place c.len-count.result n)
          (grown_on a b d (32 * (r * c.loop-place.place)) 0 (32 * c.len-count.result) 0 i.grown e.grown);
      kept = λ p j h. i.kept p j (e.kept p j h);
      said = e.asked;
    }
