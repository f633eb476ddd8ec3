use Rattle.std.proofs.Common.{◌≡◌, inl, inr, ℕ, ◌+◌, ◌*◌, length, take, ap, subst, arith}
use Rattle.mem_cells.specs.Building.{read_places}
use Rattle.mem_cells.specs.Asked.{file_byte_at, AreAsked, AskedTo}
use Rattle.mem_cells.specs.Parts.{lists_of}
use Rattle.mem_cells.proofs.Growing.{grown_on, grown_more}
use Rattle.mem_cells.proofs.Agreements.{same_reads}
use Rattle.mem_cells.proofs.Asks.{asked_row, asked_all, word_kept}
use Rattle.mem_cells.proofs.asking.ask_reads.Goals as goal

pub loop-read-init : goal.loop-read-init
loop-read-init c = record {
  grown = c.in_ok-address.ensures.grown;
  address = c.in_ok-address.ensures.word;
  kept = λ p j h. elim (c.in_ok-address.ensures.parts p j h) [ inl k ↦ k | inr e ↦ absurd (cc) ];
  said = asked_row c.args.build.now c.make.new.self 0 (lists_of c.args.parts.now) c.args.file.now c.args.asked.now.items (file_byte_at c.args.file.now c.args.place)
      (take c.args.place c.args.file.now) c.requires.built
      c.in_ok-address.ensures.grown c.requires.asked;
}

pub loop-read-preserved : goal.loop-read-preserved
loop-read-preserved c =
    let a = c.args.build.now in
    let b = c.loop-read.build in
    let d = c.ask.new.build in
    let n = c.loop-read.read in
    let g = c.in_ok-ask.ensures.grown in
    record {
      grown = grown_more a d (32 * n + 32) 0 (32 * (n + 1)) 0 (omega arith) (omega arith) (grown_on a b d (32 * n) 0 32 0 c.loop-read.invariant.grown g);
      address = word_kept b d 32 32 c.in_ok-address.address.0 _ g c.loop-read.invariant.address;
      kept = λ p j h. c.loop-read.invariant.kept p j (c.in_ok-ask.ensures.kept p j h);
      said = c.in_ok-ask.ensures.asked;
    }

pub returns-clause-asked : goal.returns-clause-asked
returns-clause-asked c =
    let a = c.args.build.now in
    let b = c.loop-read.build in
    let n = c.loop-read.read in
    let file = c.args.file.now in
    let k = c.args.place in
    let e : n ≡ length (read_places b) = omega (
      arith,
      c.requires.count,
      c.loop-read-test.false,
      ap length
          (same_reads a b (32 * n) c.loop-read.invariant.grown),
    ) in
    asked_all b (lists_of c.args.parts.now) file c.loop-read.asked.items k c.requires.place
    (subst (λ (z : ℕ). AreAsked b (lists_of c.args.parts.now) file c.loop-read.asked.items
    (AskedTo (length (read_places b)) (take k file) (file_byte_at file k) z)) e c.loop-read.invariant.said)
