use Rattle.std.proofs.Common.{◌≡◌, ◌≤◌, length, take, drop}
use Rattle.bil_eval.specs.Views.{values}
use Rattle.bil_eval.proofs.Locals.{IsApart}
use Rattle.bil_eval.proofs.env.write_local.Given as goal

abbrev pub invariant-loop-i : goal.invariant-loop-i
invariant-loop-i l = record {
  within : l.i ≤ length l.locals;
  same : l.locals ≡ l.fn.locals;
  value : values (take l.i l.locals) l.local.number l.local.width.bits ≡ values l.locals l.local.number l.local.width.bits;
  apart : IsApart l.local.number l.local.width.bits (drop l.i l.locals);
}

abbrev pub decreases-loop-i : goal.decreases-loop-i
decreases-loop-i l = l.i
