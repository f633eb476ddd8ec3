use Rattle.std.proofs.Common.{Some, refl, arith}
use Rattle.std.specs.Vec.{with_item}
use Rattle.model_text.proofs.GivenWords.{word_new, word_again, none_there, some_there}
use Rattle.model_text.proofs.findings.Findings.take_word.Goals.{else-place-len-via-then-place-len+else-is_none, else-place-len-via-else-place-len}
use Rattle.model_text.proofs.findings.Findings.take_word.Goals as goal

pub returns-then-is_none : goal.returns-then-is_none
returns-then-is_none c = λ layout count kept ds sort v l is h. word_new layout count kept ds sort v c.args.self.now
    (record c.args.self.now { words = with_item c.args.self.now.words c.args.place (Some c.args.number) }) c.args.place c.args.number h l
    (none_there c.args.self.now.words.items c.args.place c.index.result.now c.index.ensures (c.if-is_none.ensures) (omega (
      arith,
      c.if-place-len.true,
      c.len.ensures,
      c.args.self.now.words.ok.0,
    ))) is refl refl refl

pub returns-else-place-len : goal.returns-else-place-len
returns-else-place-len c = λ layout count kept ds sort v l is h. elim c.else-place-len.branch [
  | else-place-len-via-then-place-len+else-is_none w ↦ word_again layout count kept ds sort v c.args.self.now c.args.place h l
      (some_there c.args.self.now.words.items c.args.place w.index.result.now w.index.ensures (w.if-is_none.ensures) (omega (
        arith,
        w.if-place-len.true,
        c.len.ensures,
        c.args.self.now.words.ok.0,
      )))
  | else-place-len-via-else-place-len w ↦ absurd (omega (arith, l, h.count_is, w.if-place-len.false, c.len.ensures, c.args.self.now.words.ok.0))
]
