use Rattle.suite_report.specs.Objects.{json_place, json_text, json_verdict}
use Rattle.suite_report.proofs.Objects.{four_parts}
use Rattle.suite_report.proofs.json.push_report.Goals as goal

pub returns : goal.returns
returns c =
    let report = c.args.report.now in
    four_parts c.args.out.now.items (json_verdict report) (json_place report) _ (json_text report) c.push_verdict.new.out.items c.push_place.new.out.items
    c.extend_from_slice.new.self.items c.push_json.new.out.items c.in_ok-push_verdict.ensures c.in_ok-push_place.ensures
    c.in_ok-extend_from_slice.ensures.items c.in_ok-push_json.ensures
