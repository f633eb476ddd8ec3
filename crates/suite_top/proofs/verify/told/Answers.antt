use Rattle.std.proofs.Common.{◌≡◌, ◌≢◌, [], map, refl, string_bytes, arith}
use Rattle.std.proofs.lemmas.Grind.{common_steps}
use Rattle.io_edges.specs.Shelves.{kept_in}
use Rattle.io_edges.specs.Sinks.{text_in, write_faults}
use Rattle.bilv_top.specs.Answers.{evidence_of}
use Rattle.suite_top.proofs.Told.{told_whole}
use Rattle.suite_top.proofs.verify.told.Goals as goal

pub returns : goal.returns
returns c =
    let before = c.in_ok-out.out in
    let after = c.bilv-outcome.new.out in
    let report = c.in_ok-report.report.items in
    let all : text_in after ≡ report = grind (arith, common_steps) in
    let calm : write_faults after ≡ 0 = grind (arith, common_steps) in
    let ran : c.bilv-outcome.result.status ≢ 8 = grind (arith, common_steps) in
    let said = told_whole (kept_in c.args.shelf.now) (map string_bytes c.args.words.now) (text_in before) (text_in after) report (write_faults before) (write_faults after)
    c.bilv-outcome.result.status (evidence_of c.bilv-outcome.result.evidence) c.in_ok-out.ensures.empty all c.in_ok-out.ensures.no_faults calm ran
    c.bilv-outcome.ensures.outcome in
    record { told = said; warned = refl }
