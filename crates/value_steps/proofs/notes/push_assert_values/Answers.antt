use Rattle.std.proofs.Common.{IfSome, subst}
use Rattle.notes_value.specs.Views.{expr_of}
use Rattle.notes_value.specs.Reads.{IsReadable}
use Rattle.value_steps.proofs.notes.push_assert_values.Goals as goal

pub push_value_lines-requires : goal.push_value_lines-requires
push_value_lines-requires g c = record {
  readable = subst (λ o. IfSome o (λ e. IsReadable g.V.View.has_register (expr_of e.now))) c.in-Some.is
      (c.assert_at.ensures.readable g.V.View.has_register c.requires.readable);
}
