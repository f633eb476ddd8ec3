use Rattle.program_points.proofs.Added.{target_head, target_on}
use Rattle.program_points.proofs.adding.target.Goals as goal

pub returns-then-contains : goal.returns-then-contains
returns-then-contains c =
    target_head c.args.cuts.now.heads.now c.args.cuts.now.stepped.now c.args.linked c.args.k c.args.point c.args.end c.head_point.result (cc)
    c.head_point.ensures

pub returns : goal.returns
returns c =
    target_on c.args.cuts.now.heads.now c.args.cuts.now.stepped.now c.args.linked c.args.k c.args.point c.args.end c.point_to.result
    c.is_stepped-contract.result (cc) c.is_stepped-contract.ensures c.point_to.ensures
