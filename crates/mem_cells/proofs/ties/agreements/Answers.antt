use Rattle.std.proofs.Common.{◌≡◌, inl, inr, List, ℕ, ◌-◌, ◌*◌, length, ap, sym, ◌∙◌, subst, arith}
use Rattle.mem_cells.specs.declared.cells.Agreement.{Agreement}
use Rattle.mem_cells.specs.Building.{Grown, read_places}
use Rattle.mem_cells.specs.Ties.{AreTies, Before}
use Rattle.mem_cells.specs.Parts.{lists_of}
use Rattle.mem_cells.proofs.Growing.{grown_on, mapped_length}
use Rattle.mem_cells.proofs.Agreements.{same_reads, sums_kept, one_row_more, ties_none}
use Rattle.mem_cells.proofs.ties.agreements.Goals as goal

pub loop-other-init : goal.loop-other-init
loop-other-init c = record {
  grown = c.in_ok-zero.ensures.grown;
  count = c.in_ok-sums.ensures.count;
  sums = c.in_ok-sums.ensures.sums;
  kept = λ p j h. elim (c.in_ok-zero.ensures.parts p j h) [ inl k ↦ k | inr e ↦ absurd (cc) ];
  ties = subst (λ (z : List Agreement). AreTies c.make.new.self (lists_of c.args.parts.now) z (Before 0 0)) (sym c.new-agrees.ensures.items)
      (ties_none c.make.new.self (lists_of c.args.parts.now));
}

pub loop-other-preserved : goal.loop-other-preserved
loop-other-preserved c =
    let a = c.args.build.now in
    let b = c.loop-other.build in
    let d = c.row.new.build in
    let n = c.loop-other.other in
    let i = c.loop-other.invariant in
    let g = c.in_ok-row.ensures.grown in
    record {
      grown = subst (λ (z : ℕ). Grown a d z 0) (one_row_more n) (grown_on a b d (16 * (n * (n - 1))) 0 (32 * n) 0 i.grown g);
      count = i.count ∙ sym (ap length (same_reads b d (32 * n) g));
      sums = sums_kept b d (32 * n) c.in_ok-sums.sums.items i.grown.built g i.sums;
      kept = λ p j h. i.kept p j (c.in_ok-row.ensures.kept p j h);
      ties = c.in_ok-row.ensures.ties;
    }

pub returns-clause-grown : goal.returns-clause-grown
returns-clause-grown c =
    let a = c.args.build.now in
    let b = c.loop-other.build in
    let n = c.loop-other.other in
    let i = c.loop-other.invariant in
    let e : n ≡ length (read_places a) = omega (
      arith,
      mapped_length c.make.new.self.addresses.items,
      ap length
          (same_reads a b (16 * (n * (n - 1))) i.grown),
      i.count,
      c.in_ok-sums.ensures.count,
    ) in
    subst (λ (z : ℕ). Grown a b (16 * (z * (z - 1))) 0) e i.grown

pub returns-clause-ties : goal.returns-clause-ties
returns-clause-ties c =
    let b = c.loop-other.build in
    let n = c.loop-other.other in
    let i = c.loop-other.invariant in
    let e : n ≡ length (read_places b) = omega (arith, mapped_length c.make.new.self.addresses.items, i.count, c.in_ok-sums.ensures.count) in
    subst (λ (z : ℕ). AreTies b (lists_of c.args.parts.now) c.loop-other.agrees.items (Before z 0)) e i.ties
