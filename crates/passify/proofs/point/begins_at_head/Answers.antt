use Rattle.std.proofs.Common.{◌∙◌, arith}
use Rattle.passify.proofs.Heads.{head_is, root_within}
use Rattle.passify.proofs.point.begins_at_head.Goals as goal

pub index-requires-2 : goal.index-requires-2
index-requires-2 c =
    omega (
      arith,
      root_within c.args.unrolled.now c.args.place c.index.result.now c.requires.roots c.requires.place c.index.ensures,
      c.args.unrolled.now.roots.ok.0,
    )

pub returns : goal.returns
returns c =
    c.is_some.ensures
    ∙ head_is c.args.unrolled.now c.args.place c.index.result.now c.requires.roots c.requires.place c.index.ensures c.index-2.result.now c.index-2.ensures
