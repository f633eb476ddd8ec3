use Rattle.std.proofs.Common.{◌≡◌, Some, ap, sym, ◌∙◌, codes, option_copied, unwrap_or, refl}
use Rattle.std.specs.Option.{option_or}
use Rattle.toml.specs.View.{table_view}
use Rattle.suite_file.specs.Suites.{Got, text_at}
use Rattle.suite_file.specs.Views.{place_of}
use Rattle.suite_file.proofs.Readings.{check_got, copied_or, copied_first}
use Rattle.suite_file.proofs.checks.draft_of.Goals as goal

pub returns-clause-ok : goal.returns-clause-ok
returns-clause-ok c =
    let p = place_of c.args.place in
    let ms = table_view c.args.table.now in
    let notes = c.in-Some.notes in
    let name = c.in_ok-name.name in
    let own = c.in_ok-own_elf.own_elf in
    let elf = c.in-Some-or.elf in
    let expect = c.in_ok-expect.expect in
    let noted : text_at p (codes "notes") ms ≡ Got (Some notes.now) = c.in_ok-notes.ensures.ok ∙ ap (λ o. Got (option_copied o)) c.in-Some.is in
    let first : option_or (option_copied own) (option_copied c.args.elf) ≡ Some elf.now =
    copied_first own c.args.elf ∙ ap option_copied (sym c.or.ensures ∙ c.in-Some-or.is) in
    let named : unwrap_or (option_copied name) notes.now ≡ c.unwrap_or.result.now = copied_or name notes ∙ ap (λ x. x.now) (sym c.unwrap_or.ensures) in
    let expected : unwrap_or (option_copied expect) (codes "holds") ≡ c.unwrap_or-2.result.now = copied_or expect _ ∙ ap (λ x. x.now) (sym c.unwrap_or-2.ensures) in
    check_got p (option_copied c.args.elf) ms notes.now (option_copied name) (option_copied own) (option_copied expect) elf.now noted c.in_ok-name.ensures.ok c.in_ok-own_elf.ensures.ok first c.in_ok-expect.ensures.ok
    ∙ rw (named, expected) refl
