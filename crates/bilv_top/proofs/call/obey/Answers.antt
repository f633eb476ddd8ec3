use Rattle.bilv_top.proofs.call.obey.Goals as goal

pub returns-in-Verify-clause-right : goal.returns-in-Verify-clause-right
returns-in-Verify-clause-right g c = rw c.in-Verify.is c.answer_framed.ensures.answered

pub returns-in-Lift-clause-right : goal.returns-in-Lift-clause-right
returns-in-Lift-clause-right g c = rw c.in-Lift.is c.lift.ensures.right

pub returns-in-Graph-clause-right : goal.returns-in-Graph-clause-right
returns-in-Graph-clause-right g c = rw c.in-Graph.is c.answer_framed-in-Graph.ensures.answered

pub returns-in-Script-clause-right : goal.returns-in-Script-clause-right
returns-in-Script-clause-right g c = rw c.in-Script.is c.answer_framed-in-Script.ensures.answered

pub returns-in-Replay-clause-right : goal.returns-in-Replay-clause-right
returns-in-Replay-clause-right g c = rw c.in-Replay.is c.answer_framed-in-Replay.ensures.answered

pub returns-in-Certify-clause-right : goal.returns-in-Certify-clause-right
returns-in-Certify-clause-right g c = rw c.in-Certify.is c.answer_framed-in-Certify.ensures.answered

pub returns-in-Check-clause-right : goal.returns-in-Check-clause-right
returns-in-Check-clause-right g c = rw c.in-Check.is c.check_certificate.ensures.right

pub returns-in-SelfRun-clause-right : goal.returns-in-SelfRun-clause-right
returns-in-SelfRun-clause-right g c = rw c.in-SelfRun.is c.selfrun.ensures.right

pub returns-in-Upgrade-clause-right : goal.returns-in-Upgrade-clause-right
returns-in-Upgrade-clause-right g c = rw c.in-Upgrade.is c.upgrade.ensures.right

pub returns-in-Model-clause-right : goal.returns-in-Model-clause-right
returns-in-Model-clause-right g c = rw c.in-Model.is c.answer_about.ensures.answered

pub returns-in-Equal-clause-right : goal.returns-in-Equal-clause-right
returns-in-Equal-clause-right g c = rw c.in-Equal.is c.compare_named.ensures.compared

pub returns-in-Differ-clause-right : goal.returns-in-Differ-clause-right
returns-in-Differ-clause-right g c = rw c.in-Differ.is c.compare_named-in-Differ.ensures.compared

pub returns-in-Verify-clause-begun : goal.returns-in-Verify-clause-begun
returns-in-Verify-clause-begun g c = rw c.in-Verify.is c.answer_framed.ensures.begun

pub returns-in-Lift-clause-begun : goal.returns-in-Lift-clause-begun
returns-in-Lift-clause-begun g c = rw c.in-Lift.is c.lift.ensures.begun

pub returns-in-Graph-clause-begun : goal.returns-in-Graph-clause-begun
returns-in-Graph-clause-begun g c = rw c.in-Graph.is c.answer_framed-in-Graph.ensures.begun

pub returns-in-Script-clause-begun : goal.returns-in-Script-clause-begun
returns-in-Script-clause-begun g c = rw c.in-Script.is c.answer_framed-in-Script.ensures.begun

pub returns-in-Replay-clause-begun : goal.returns-in-Replay-clause-begun
returns-in-Replay-clause-begun g c = rw c.in-Replay.is c.answer_framed-in-Replay.ensures.begun

pub returns-in-Certify-clause-begun : goal.returns-in-Certify-clause-begun
returns-in-Certify-clause-begun g c = rw c.in-Certify.is c.answer_framed-in-Certify.ensures.begun

pub returns-in-Check-clause-begun : goal.returns-in-Check-clause-begun
returns-in-Check-clause-begun g c = rw c.in-Check.is c.check_certificate.ensures.begun

pub returns-in-SelfRun-clause-begun : goal.returns-in-SelfRun-clause-begun
returns-in-SelfRun-clause-begun g c = rw c.in-SelfRun.is c.selfrun.ensures.begun

pub returns-in-Upgrade-clause-begun : goal.returns-in-Upgrade-clause-begun
returns-in-Upgrade-clause-begun g c = rw c.in-Upgrade.is c.upgrade.ensures.begun

pub returns-in-Model-clause-begun : goal.returns-in-Model-clause-begun
returns-in-Model-clause-begun g c = rw c.in-Model.is c.answer_about.ensures.begun

pub returns-in-Equal-clause-begun : goal.returns-in-Equal-clause-begun
returns-in-Equal-clause-begun g c = rw c.in-Equal.is c.compare_named.ensures.begun

pub returns-in-Differ-clause-begun : goal.returns-in-Differ-clause-begun
returns-in-Differ-clause-begun g c = rw c.in-Differ.is c.compare_named-in-Differ.ensures.begun
