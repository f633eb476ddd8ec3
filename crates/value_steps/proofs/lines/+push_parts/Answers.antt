use Rattle.std.proofs.Common.{◌≡◌, ◌++◌, [], ◌∷◌, refl, sym, ap, subst, ◌∙◌}
use Rattle.word_spec.specs.Memory as memory
use Rattle.word_spec.specs.Texts.{line}
use Rattle.trace_texts_spec.specs.ValueLines.{part_lines, parts, value_line, within}
use Rattle.notes_value.specs.Views.{expr_of}
use Rattle.value_steps.specs.Called.{names_of}
use Rattle.value_steps.proofs.Texts.{one_line, two_lines, binary_parts}
use Rattle.value_steps.proofs.lines.+push_parts.Goals as goal

pub returns-in_ok-push_line-in-Register : goal.returns-in_ok-push_line-in-Register
returns-in_ok-push_line-in-Register g t c =
    let names = names_of c.args.layout in
    let order = memory.endian c.args.big in
    let now = g.V.View.view c.args.now.now in
    let old = g.V.View.view c.args.old.now in
    let o = c.args.in_old in
    let out = c.args.out.now.items in
    one_line names order now old o (expr_of c.args.expr.now) out _
    (subst (λ z. within o (expr_of z) ∷ [] ≡ parts o (expr_of z)) (sym c.in-Register.is) refl) c.in_ok-push_line-in-Register.ensures

pub returns-in_ok-push_line-in-Flag : goal.returns-in_ok-push_line-in-Flag
returns-in_ok-push_line-in-Flag g t c =
    let names = names_of c.args.layout in
    let order = memory.endian c.args.big in
    let now = g.V.View.view c.args.now.now in
    let old = g.V.View.view c.args.old.now in
    let o = c.args.in_old in
    let out = c.args.out.now.items in
    one_line names order now old o (expr_of c.args.expr.now) out _
    (subst (λ z. within o (expr_of z) ∷ [] ≡ parts o (expr_of z)) (sym c.in-Flag.is) refl) c.in_ok-push_line-in-Flag.ensures

pub returns-in_ok-push_line-in-Pc : goal.returns-in_ok-push_line-in-Pc
returns-in_ok-push_line-in-Pc g t c =
    let names = names_of c.args.layout in
    let order = memory.endian c.args.big in
    let now = g.V.View.view c.args.now.now in
    let old = g.V.View.view c.args.old.now in
    let o = c.args.in_old in
    let out = c.args.out.now.items in
    one_line names order now old o (expr_of c.args.expr.now) out _
    (subst (λ z. within o (expr_of z) ∷ [] ≡ parts o (expr_of z)) (sym c.in-Pc.is) refl) c.in_ok-push_line-in-Pc.ensures

pub returns-in_ok-push_line-in-All : goal.returns-in_ok-push_line-in-All
returns-in_ok-push_line-in-All g t c =
    let names = names_of c.args.layout in
    let order = memory.endian c.args.big in
    let now = g.V.View.view c.args.now.now in
    let old = g.V.View.view c.args.old.now in
    let o = c.args.in_old in
    let out = c.args.out.now.items in
    one_line names order now old o (expr_of c.args.expr.now) out _
    (subst (λ z. within o (expr_of z) ∷ [] ≡ parts o (expr_of z)) (sym c.in-All.is) refl) c.in_ok-push_line-in-All.ensures

pub returns-in_ok-push_parts-in-Memory : goal.returns-in_ok-push_parts-in-Memory
returns-in_ok-push_parts-in-Memory g t c =
    let names = names_of c.args.layout in
    let order = memory.endian c.args.big in
    let now = g.V.View.view c.args.now.now in
    let old = g.V.View.view c.args.old.now in
    let o = c.args.in_old in
    let out = c.args.out.now.items in
    two_lines names order now old o (expr_of c.args.expr.now) (expr_of c.in-Memory.a.value) out _ _
    (subst (λ z. within o (expr_of z) ∷ parts o (expr_of c.in-Memory.a.value) ≡ parts o (expr_of z)) (sym c.in-Memory.is) refl)
    c.in_ok-push_line-in-Memory.ensures
    (c.in_ok-push_parts-in-Memory.ensures ∙ ap (λ z. c.push_line-in-Memory.new.out.items ++ part_lines names order now old (parts o (expr_of z))) c.deref-in-Memory.ensures)

pub returns-in_ok-push_parts-in-Not : goal.returns-in_ok-push_parts-in-Not
returns-in_ok-push_parts-in-Not g t c =
    let names = names_of c.args.layout in
    let order = memory.endian c.args.big in
    let now = g.V.View.view c.args.now.now in
    let old = g.V.View.view c.args.old.now in
    let o = c.args.in_old in
    let out = c.args.out.now.items in
    two_lines names order now old o (expr_of c.args.expr.now) (expr_of c.in-Not.a.value) out _ _
    (subst (λ z. within o (expr_of z) ∷ parts o (expr_of c.in-Not.a.value) ≡ parts o (expr_of z)) (sym c.in-Not.is) refl)
    c.in_ok-push_line-in-Not.ensures
    (c.in_ok-push_parts-in-Not.ensures ∙ ap (λ z. c.push_line-in-Not.new.out.items ++ part_lines names order now old (parts o (expr_of z))) c.deref-in-Not.ensures)

pub returns-in_ok-push_parts-in-Binary-2 : goal.returns-in_ok-push_parts-in-Binary-2
returns-in_ok-push_parts-in-Binary-2 g t c =
    let names = names_of c.args.layout in
    let order = memory.endian c.args.big in
    let now = g.V.View.view c.args.now.now in
    let old = g.V.View.view c.args.old.now in
    let o = c.args.in_old in
    let out = c.args.out.now.items in
    let a = expr_of c.in-Binary.a.value in
    let b = expr_of c.in-Binary.b.value in
    binary_parts names order now old o c.in-Binary.field-0 a b out _ _ _
    (c.in_ok-push_line-in-Binary.ensures ∙ ap (λ z. out ++ line (value_line names order now old (within o (expr_of z)))) c.in-Binary.is)
    (c.in_ok-push_parts-in-Binary.ensures ∙ ap (λ z. c.push_line-in-Binary.new.out.items ++ part_lines names order now old (parts o (expr_of z))) c.deref-in-Binary.ensures)
    (c.in_ok-push_parts-in-Binary-2.ensures
    ∙ ap (λ z. c.push_parts-in-Binary.new.out.items ++ part_lines names order now old (parts o (expr_of z))) c.deref-in-Binary-2.ensures)
    ∙ sym (ap (λ z. out ++ part_lines names order now old (parts o (expr_of z))) c.in-Binary.is)
