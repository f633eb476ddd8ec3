use Rattle.std.proofs.Common.{◌≡◌, ◌++◌, ◌∙◌, ap}
use Rattle.suite_report.specs.Objects.{event_word, first_word, word_or_null}
use Rattle.suite_report.proofs.Objects.{four_parts}
use Rattle.suite_report.proofs.json.push_verdict.Goals as goal

pub returns : goal.returns
returns c =
    let report = c.args.report.now in
    let verdict : c.push_word.new.out.items ≡ c.extend_from_slice.new.self.items ++ word_or_null (first_word report) =
    c.in_ok-push_word.ensures ∙ ap (λ w. c.extend_from_slice.new.self.items ++ word_or_null w) c.first_word.ensures in
    let event : c.push_word-2.new.out.items ≡ c.extend_from_slice-2.new.self.items ++ word_or_null (event_word report) =
    c.in_ok-push_word-2.ensures ∙ ap (λ w. c.extend_from_slice-2.new.self.items ++ word_or_null w) c.event_word.ensures in
    four_parts c.args.out.now.items _ (word_or_null (first_word report)) _ (word_or_null (event_word report)) c.extend_from_slice.new.self.items
    c.push_word.new.out.items c.extend_from_slice-2.new.self.items c.push_word-2.new.out.items c.in_ok-extend_from_slice.ensures.items verdict
    c.in_ok-extend_from_slice-2.ensures.items event
