use Rattle.std.proofs.Common.{◌*◌, refl, arith}
use Rattle.std.proofs.lemmas.Nat.{pow_pos}
use Rattle.term_dag.proofs.Ranges.{word_fits}
use Rattle.term_dag.proofs.ShiftLaws.{all_shl, all_shr, all_sar, last_place}
use Rattle.term_dag.proofs.WordFolds.{fixed}
use Rattle.term_dag.proofs.operators.shifted_out.Goals as goal

pub returns-in-ShiftLeft : goal.returns-in-ShiftLeft
returns-in-ShiftLeft c = λ ns h p.
    rw c.in-ShiftLeft.is (fixed ns c.args.width _ (8 * c.args.width) 0 c.requires.0 c.requires.1 (pow_pos c.args.width)
    (λ x i. all_shl c.args.width _ c.args.right c.if-right-width.false))

pub returns-in-ShiftRight : goal.returns-in-ShiftRight
returns-in-ShiftRight c = λ ns h p.
    rw c.in-ShiftRight.is (fixed ns c.args.width _ (8 * c.args.width) 0 c.requires.0 c.requires.1 (pow_pos c.args.width)
    (λ x i. all_shr c.args.width _ c.args.right (word_fits x ns _ _ i h p) c.if-right-width.false))

pub returns-in-ShiftSigned : goal.returns-in-ShiftSigned
returns-in-ShiftSigned c = λ ns h p.
    rw c.in-ShiftSigned.is (record {
      some = c.requires;
      first = p;
      second = last_place c.args.width c.requires.0;
      width = refl;
      value = λ x i. all_sar c.args.width _ c.args.right c.requires.0 (word_fits x ns _ _ i h p) c.if-right-width.false;
      gates = omega arith;
    })
