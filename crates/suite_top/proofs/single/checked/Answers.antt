use Rattle.std.proofs.Common.{◌≡◌, ◌∙◌, ◌++◌, List, ℕ, ap, map, string_bytes, subst, sym}
use Rattle.note_check.specs.declared.warning.Warning.{Warning}
use Rattle.suite_report.specs.Words.{verify_words}
use Rattle.suite_top.specs.Options.{IsCheckedBy, asked_options}
use Rattle.suite_top.specs.Singles.{warning_lines}
use Rattle.suite_top.proofs.single.checked.Goals as goal

pub returns : goal.returns
returns c =
    let k = c.in_ok-checked.checked in
    let a = c.in_ok-came.came in
    let said = c.in_ok-came.ensures in
    let file = c.args.file.items in
    let notes = c.args.notes.items in
    let words = verify_words (map string_bytes c.args.options.now) in
    let o = asked_options words in
    let same : map string_bytes c.deref.result.now ≡ words = ap (map string_bytes) c.deref.ensures.value ∙ c.in_ok-words.ensures in
    let by_words = subst
    (λ ws. IsCheckedBy (asked_options ws) c.deref-2.result.now c.deref-3.result.now k.status k.refusal.items k.warnings.items) same c.in_ok-checked.ensures in
    let by_file = subst (λ f. IsCheckedBy o f c.deref-3.result.now k.status k.refusal.items k.warnings.items) c.deref-2.ensures.value by_words in
    let by_notes = subst (λ n. IsCheckedBy o file n k.status k.refusal.items k.warnings.items) c.deref-3.ensures.value by_file in
    let by_warnings = subst (λ (ws : List Warning). IsCheckedBy o file notes k.status k.refusal.items ws) (sym said.warnings) by_notes in (
      k.refusal.items,
      subst (λ (s : ℕ). IsCheckedBy o file notes s k.refusal.items a.warnings.items) (sym said.status) by_warnings,
      said.report ∙ ap (λ (ws : List Warning). warning_lines ws ++ k.refusal.items) (sym said.warnings),
    )
