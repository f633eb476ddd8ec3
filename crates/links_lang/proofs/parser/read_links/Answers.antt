use Rattle.std.specs.Prelude.{IfOk, IfSome}
use Rattle.links_lang.specs.Views.{IsLinkOf}
use Rattle.std.proofs.Common.{arith, length, subst, sym, ◌∙◌}
use Rattle.links_lang.specs.Telling.{IsJudged, fault_of}
use Rattle.links_lang.proofs.Told.{none_left}
use Rattle.links_lang.proofs.SoFar.{finished, goes_on, none_so_far, refused}
use Rattle.links_lang.proofs.parser.read_links.Goals as goal

pub loop-rest-init : goal.loop-rest-init
loop-rest-init c = record {
  few = omega arith;
  so_far = none_so_far c.args.first c.args.second c.args.bytes.now c.new-links.result.items c.new-links.ensures.items;
}

pub returns-in-Err : goal.returns-in-Err
returns-in-Err c =
    let a = c.args in
    refused a.first a.second a.bytes.now c.loop-rest.rest.now c.first_line.result.1.now c.first_line.result.0.now c.loop-rest.line c.loop-rest.links.items
    (fault_of c.in-Err.fault) c.loop-rest.invariant.so_far c.first_line.ensures.lines
    (subst (λ r. IsJudged a.first a.second c.loop-rest.line c.first_line.result.0.now r) c.in-Err.is c.in_ok-said.ensures.judged)

pub loop-rest-preserved : goal.loop-rest-preserved
loop-rest-preserved c =
    let a = c.args in
    let line = subst (λ r. IsJudged a.first a.second c.loop-rest.line c.first_line.result.0.now r) c.in-Ok.is c.in_ok-said.ensures.judged in
    record {
      few = omega (arith, line.few);
      so_far =
          goes_on a.first a.second a.bytes.now c.loop-rest.rest.now c.first_line.result.1.now c.first_line.result.0.now c.loop-rest.line
          c.loop-rest.links.items c.add.new.links.items c.in-Ok.said c.loop-rest.invariant.so_far c.first_line.ensures.lines line
          (subst (λ r. IfOk r (λ o. IfSome o (λ l. IsLinkOf a.first a.second l))) c.in-Ok.is c.in_ok-said.ensures.form) c.in_ok-add.ensures;
    }

pub returns : goal.returns
returns c =
    let a = c.args in
    finished a.first a.second a.bytes.now c.loop-rest.rest.now c.loop-rest.line c.loop-rest.links.items
    (none_left (length c.loop-rest.rest.now) (sym c.loop-rest-test.false ∙ c.is_empty.ensures)) c.loop-rest.invariant.so_far
