use Rattle.std.proofs.Common.{◌≡◌, ◌++◌, ◌∙◌, ap}
use Rattle.suite_report.specs.Objects.{json_head, json_report, json_warnings}
use Rattle.suite_report.specs.Reports.{first_line}
use Rattle.suite_report.specs.Views.{told_of}
use Rattle.suite_report.proofs.Objects.{five_parts}
use Rattle.suite_report.proofs.json.json_line.Goals as goal

pub returns : goal.returns
returns c =
    let t = told_of c.args.told.now in
    let report : c.push_report.new.out.items ≡ c.push_head.new.out.items ++ json_report (first_line t.report) =
    c.in_ok-push_report.ensures ∙ ap (λ r. c.push_head.new.out.items ++ json_report r) c.first_line.ensures in
    five_parts c.new-text.result.items (json_head t) (json_report (first_line t.report)) _ (json_warnings t.warnings) _ c.push_head.new.out.items
    c.push_report.new.out.items c.extend_from_slice.new.self.items c.push_list.new.out.items c.extend_from_slice-2.new.self.items c.new-text.ensures.items
    c.in_ok-push_head.ensures report c.in_ok-extend_from_slice.ensures.items c.in_ok-push_list.ensures c.in_ok-extend_from_slice-2.ensures.items
