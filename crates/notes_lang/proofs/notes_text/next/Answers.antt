use Rattle.std.proofs.Common.{subst}
use Rattle.notes_lang.specs.Judging.{IsJudged}
use Rattle.notes_lang.specs.Scoping.{scope_of}
use Rattle.notes_lang.proofs.Judged.{a_next, late_fault}
use Rattle.notes_lang.proofs.notes_text.next.Goals as goal

pub returns-in-Some : goal.returns-in-Some
returns-in-Some c earlier p =
    late_fault (scope_of c.args.scope) c.requires c.args.line c.args.text.now earlier _ c.in-Ok.says _ c.in-Some.kind c.in_ok-says.ensures
    c.in-Ok.is (c.fault.ensures earlier p) c.in-Some.is

pub returns : goal.returns
returns c earlier p =
    a_next (scope_of c.args.scope) c.args.line c.args.text.now earlier _ c.in-Ok.says _ c.in_ok-says.ensures c.in-Ok.is
    (c.fault.ensures earlier p) c.in-None.is

pub returns-in-Err : goal.returns-in-Err
returns-in-Err c earlier p = subst (IsJudged (scope_of c.args.scope) c.args.line c.args.text.now) c.in-Err.is c.in_ok-says.ensures earlier
