use Rattle.std.proofs.Common.{◌≡◌, ◌+◌, ◌∷◌, [], ◌++◌, None, Some, sym, ap, ◌∙◌, map, drop, string_bytes, option_copied}
use Rattle.std.proofs.lemmas.List.{map-append}
use Rattle.toml.specs.Data.{as_str}
use Rattle.toml.specs.View.{items_view, view}
use Rattle.suite_file.specs.Suites.{texts_in}
use Rattle.suite_file.specs.Views.{place_of}
use Rattle.suite_file.proofs.Readings.{behind, texts_start, texts_more, texts_none, texts_end}
use Rattle.suite_file.proofs.keys.texts_in.Goals as goal

pub loop-value-init : goal.loop-value-init
loop-value-init c = texts_start _ _ c.new-texts.result.items _ c.new-texts.ensures.items

pub returns-in_default-clause-refused : goal.returns-in_default-clause-refused
returns-in_default-clause-refused c =
    let p = place_of c.args.place in
    let k = c.args.key.now in
    let vs = c.deref-value-items.result.now in
    let none : as_str (view c.value-item.result) ≡ None = sym c.as_str.ensures ∙ ap option_copied c.in_default.is in
    ap (λ t. texts_in p k (items_view t)) (sym c.deref-value-items.ensures.value) ∙ sym c.loop-value.invariant
    ∙ texts_none p k (map string_bytes c.loop-value.texts.items) vs c.loop-value.value-index c.value-item.result c.loop-value-test.true (sym c.value-item.is) none

pub loop-value-preserved : goal.loop-value-preserved
loop-value-preserved c =
    let p = place_of c.args.place in
    let k = c.args.key.now in
    let vs = c.deref-value-items.result.now in
    let i = c.loop-value.value-index in
    let read = map string_bytes c.loop-value.texts.items in
    let text = c.in-Some.text.now in
    let some : as_str (view c.value-item.result) ≡ Some text = sym c.as_str.ensures ∙ ap option_copied c.in-Some.is in
    let grown : map string_bytes c.push.new.self.items ≡ read ++ text ∷ [] =
    ap (map string_bytes) c.in_ok-push.ensures.items ∙ map-append string_bytes c.loop-value.texts.items (c.in_ok-from_str.field-0 ∷ [])
    ∙ ap (λ t. read ++ t ∷ []) c.in_ok-from_str.ensures.ok in
    ap (λ ts. behind ts (texts_in p k (items_view (drop (i + 1) vs)))) grown
    ∙ sym (texts_more p k read vs i c.value-item.result text c.loop-value-test.true (sym c.value-item.is) some) ∙ c.loop-value.invariant

pub returns-clause-ok : goal.returns-clause-ok
returns-clause-ok c =
    let p = place_of c.args.place in
    let k = c.args.key.now in
    ap (λ t. texts_in p k (items_view t)) (sym c.deref-value-items.ensures.value) ∙ sym c.loop-value.invariant
    ∙ texts_end p k (map string_bytes c.loop-value.texts.items) c.deref-value-items.result.now c.loop-value.value-index c.loop-value-test.false
