use Rattle.std.proofs.Common.{◌≡◌, ℕ, ◌+◌, ◌≤◌, All, List, ap, drop, length, sym, ◌∙◌, ◌∷◌, [], arith, true, subst}
use Rattle.std.specs.Prelude.{nat_le}
use Rattle.std.proofs.lemmas.Bool.Decides.{nat_tests}
use Rattle.word_spec.specs.Texts.{split_lines}
use Rattle.machine_spec.specs.StateText as starts
use Rattle.frame_texts_spec.specs.CallTexts.{BlocksTold, Changes, HasChanges, InBlocks, Stage, blocks_told, with_call}
use Rattle.start_value.specs.Starts.{layout_of}
use Rattle.frame_texts_spec.proofs.BlocksBack.{AllFit}
use Rattle.call_text.specs.Blocks.{IsBlocksRefused, made_call, next_told, whole_told}
use Rattle.call_text.specs.Texts.{changes_at, changes_of}
use Rattle.call_text.proofs.BlockLines.{begun, call_before, flags_few, from_plain, refused_in}
use Rattle.call_text.proofs.Values.{flag_values}
use Rattle.call_text.proofs.calls.read_call.Goals as goal

pub call_state-requires-clause-few : goal.call_state-requires-clause-few
call_state-requires-clause-few c =
    flags_few c.args.layout c.in-Some.changes.now.flags.items
    (c.requires.contracts c.args.call.1 (changes_of c.in-Some.changes.now) (sym c.in-Some.ensures)).flags

pub call_state-requires-clause-fall : goal.call_state-requires-clause-fall
call_state-requires-clause-fall c = (c.requires.contracts c.args.call.1 (changes_of c.in-Some.changes.now) (sym c.in-Some.ensures)).flags_fall

pub call_state-requires-clause-bits : goal.call_state-requires-clause-bits
call_state-requires-clause-bits c =
    let x : Changes = changes_of c.in-Some.changes.now in
    let has : HasChanges (layout_of c.args.layout) x = c.requires.contracts c.args.call.1 x (sym c.in-Some.ensures) in
    subst (λ (values : List ℕ). All (λ v. v ≤ 1) (drop (length x.registers) values)) (sym c.deref-2.ensures.value)
    (flag_values (layout_of c.args.layout) x c.in-Ok.read.values.items has
    (subst (λ (due : List ℕ). AllFit (layout_of c.args.layout) due c.in-Ok.read.values.items) (c.deref.ensures.value ∙ c.in_ok-due.ensures)
    c.in-Ok.ensures.fit))

pub returns-in-Err-clause-refused : goal.returns-in-Err-clause-refused
returns-in-Err-clause-refused c =
    let layout : starts.Layout = layout_of c.args.layout in
    let x : Changes = changes_of c.in-Some.changes.now in
    let later : Stage → BlocksTold = λ next. blocks_told layout (changes_at c.args.contracts.now) next (c.args.line + 1) (split_lines c.args.rest.now) in
    let step : ℕ = c.args.call.0 in
    let may : nat_le c.args.least step ≡ true = let low = c.if-step-least.false in grind (arith, nat_tests, low) in
    subst (λ (told : BlocksTold). IsBlocksRefused told c.in-Err.fault)
    (sym (begun layout c.args.line step c.args.call.1 x (nat_le c.args.least step) (changes_at c.args.contracts.now c.args.call.1) later may c.in-Some.ensures
    ∙ ap (λ due. with_call step c.args.call.1 x (later (InBlocks (step + 1) due 0))) (sym (c.deref.ensures.value ∙ c.in_ok-due.ensures))))
    (refused_in step c.args.call.1 x c.in-Err.fault (later (InBlocks (step + 1) c.deref.result.now 0))
    (c.in-Err.ensures.refused (changes_at c.args.contracts.now) (step + 1)))

pub returns-clause-told : goal.returns-clause-told
returns-clause-told c =
    let layout : starts.Layout = layout_of c.args.layout in
    let x : Changes = changes_of c.in-Some.changes.now in
    let later : Stage → BlocksTold = λ next. blocks_told layout (changes_at c.args.contracts.now) next (c.args.line + 1) (split_lines c.args.rest.now) in
    let step : ℕ = c.args.call.0 in
    let may : nat_le c.args.least step ≡ true = let low = c.if-step-least.false in grind (arith, nat_tests, low) in
    let told : BlocksTold = next_told layout (changes_at c.args.contracts.now) (step + 1) c.in-Ok.read.next in
    begun layout c.args.line step c.args.call.1 x (nat_le c.args.least step) (changes_at c.args.contracts.now c.args.call.1) later may c.in-Some.ensures
    ∙ ap (λ due. with_call step c.args.call.1 x (later (InBlocks (step + 1) due 0))) (sym (c.deref.ensures.value ∙ c.in_ok-due.ensures))
    ∙ ap (with_call step c.args.call.1 x) (c.in-Ok.ensures.told (changes_at c.args.contracts.now) (step + 1))
    ∙ call_before step c.args.call.1 x c.in-Ok.read.values.items c.in-Ok.read.bytes.items told
    (from_plain layout (changes_at c.args.contracts.now) (step + 1) c.in-Ok.read.next.line c.in-Ok.read.next.begins (split_lines c.in-Ok.read.next.rest.now))
    ∙ ap (λ values. whole_told (made_call step c.args.call.1 x values c.in-Ok.read.bytes.items ∷ []) told) (sym c.deref-2.ensures.value)
    ∙ ap (λ s. whole_told (s ∷ []) told) (sym c.in_ok-state.ensures)
