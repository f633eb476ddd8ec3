use Rattle.std.proofs.Common.{ℕ, List, Option, refl, sym, ap, ◌∙◌, subst, arith}
use Rattle.std.specs.Prelude.{IfSome}
use Rattle.machine_spec.specs.StateText.{place_in}
use Rattle.start_value.specs.Starts.{layout_of}
use Rattle.model_text.specs.declared.symbol.Symbol.{Symbol}
use Rattle.model_text.specs.Symbols.{choice_number, count_of, IsNamed}
use Rattle.model_text.proofs.SymbolNames.{choice_is_named, other_is_named, own_names, placed_named}
use Rattle.model_text.proofs.symbol.symbol_of.Goals as goal

pub returns-in_default-clause-named : goal.returns-in_default-clause-named
returns-in_default-clause-named c = other_is_named (layout_of c.args.layout) c.args.drawn.now c.args.others.now (own_names c.args.layout) c.args.name.now
    c.other_symbol.result c.other_symbol.ensures

pub returns-in-Some-choice_of-clause-named : goal.returns-in-Some-choice_of-clause-named
returns-in-Some-choice_of-clause-named c =
    subst (λ (o : Option Symbol). IfSome o (λ s. IsNamed (layout_of c.args.layout) (count_of (layout_of c.args.layout) c.args.drawn.now) s c.args.name.now))
    c.in-Some-choice_of.is
    (choice_is_named (layout_of c.args.layout) c.args.drawn.now c.args.name.now (choice_number c.args.name.now) c.choice_of.result (omega arith) refl
    c.choice_of.ensures)

pub returns-then-place-register_count-clause-named : goal.returns-then-place-register_count-clause-named
returns-then-place-register_count-clause-named c = placed_named (layout_of c.args.layout) c.args.drawn.now c.args.name.now c.in-Some.place (sym (ap (λ (v :
    List (List ℕ)). place_in v c.args.name.now) c.names.ensures) ∙ sym c.in-Some.ensures)

pub returns-else-place-register_count-clause-named : goal.returns-else-place-register_count-clause-named
returns-else-place-register_count-clause-named c = placed_named (layout_of c.args.layout) c.args.drawn.now c.args.name.now c.in-Some.place (sym (ap (λ (v :
    List (List ℕ)). place_in v c.args.name.now) c.names.ensures) ∙ sym c.in-Some.ensures)
