use Rattle.std.proofs.Common.{◌≡◌, List, map, string_bytes, subst, sym, ◌∙◌, ap}
use Rattle.io_edges.specs.Shelves.{kept_in}
use Rattle.suite_report.specs.Words.{verify_words}
use Rattle.suite_top.specs.Options.{IsCheckedBy, asked_options}
use Rattle.suite_top.specs.Verified.{IsTold}
use Rattle.suite_top.proofs.verify.verify_notes.Goals as goal

pub returns : goal.returns
returns c =
    let held = kept_in c.in_ok-shelf.shelf in
    let a = c.in_ok-came.came in
    let k = c.in_ok-checked.checked in
    let words = verify_words (map string_bytes c.args.options.now) in
    let first : map string_bytes c.deref.result.now ≡ words = ap (map string_bytes) c.deref.ensures.value ∙ c.in_ok-words.ensures in
    let last : map string_bytes c.deref-4.result.now ≡ words = ap (map string_bytes) c.deref-4.ensures.value ∙ c.in_ok-words.ensures in
    let by_words = subst
    (λ ws. IsCheckedBy (asked_options ws) c.deref-2.result.now c.deref-3.result.now k.status k.refusal.items k.warnings.items) first c.in_ok-checked.ensures in
    let by_file = subst (λ f. IsCheckedBy (asked_options words) f c.deref-3.result.now k.status k.refusal.items k.warnings.items) c.deref-2.ensures.value by_words in
    let by_notes = subst (λ n. IsCheckedBy (asked_options words) c.args.file.items n k.status k.refusal.items k.warnings.items) c.deref-3.ensures.value by_file in
    record {
      held = held;
      files = c.in_ok-shelf.ensures;
      told = subst (λ ws. IsTold held ws a.status a.report.items) last c.in_ok-came.ensures.told;
      check_status = k.status;
      refusal = k.refusal.items;
      checked =
          subst (λ ws. IsCheckedBy (asked_options words) c.args.file.items c.args.notes.items k.status k.refusal.items ws) (sym c.in_ok-came.ensures.warned) by_notes;
    }
