use Rattle.notes_lang.specs.Scoping.{scope_of}
use Rattle.notes_lang.specs.Reading.{tokens_view}
use Rattle.std.proofs.Common.{◌≡◌, ◌∙◌, sym, refl, length, true, ◌==◌}
use Rattle.notes_lang.proofs.Lists.{none_behind, numbers_told}
use Rattle.notes_lang.proofs.Whole.{none_of}
use Rattle.notes_lang.proofs.Forms.{no_targets}
use Rattle.notes_lang.proofs.sayings.targets.Goals as goal

pub returns-in_default : goal.returns-in_default
returns-in_default c = no_targets (scope_of c.args.scope) (tokens_view c.args.rest.now) (λ n us to is are some. c.in_default.ensures.tells (n, us) is)

pub returns-then-is_empty : goal.returns-then-is_empty
returns-then-is_empty c =
    let z : (length c.in-Some-2.to.items == 0) ≡ true = rw (← c.in-Some-2.to.ok.0) (sym c.is_empty.ensures ∙ c.if-is_empty.true) in
    no_targets (scope_of c.args.scope) (tokens_view c.args.rest.now) (λ n us to begins are some.
    none_behind (scope_of c.args.scope) (tokens_view c.args.rest.now) (tokens_view c.in-Some.behind.now) us c.in-Some.at n c.in-Some-2.to.items to
    c.in-Some.ensures.tells
    (numbers_told (scope_of c.args.scope) (tokens_view c.in-Some.behind.now) c.in_ok-to.field-0 c.in-Some-2.to c.in_ok-to.ensures c.in-Some-2.is)
    (none_of (length c.in-Some-2.to.items) true (sym z) refl) begins are some)
