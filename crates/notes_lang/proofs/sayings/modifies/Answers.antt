use Rattle.std.proofs.Common.{◌≡◌, ◌∙◌, sym, length, map, true, false, ◌==◌}
use Rattle.notes_lang.specs.Scoping.{changed_of, scope_of}
use Rattle.notes_lang.specs.Reading.{tokens_view}
use Rattle.notes_lang.proofs.Lists.{a_change_line, changes_told, no_changes, no_changes_behind, none_changed, some_changes}
use Rattle.notes_lang.proofs.Forms.{no_modifies}
use Rattle.notes_lang.proofs.sayings.modifies.Goals as goal

pub returns-in_default : goal.returns-in_default
returns-in_default c = no_modifies (scope_of c.args.scope) (tokens_view c.args.rest.now) (λ n us cs is are some. c.in_default.ensures.tells (n, us) is)

pub returns-in_default-2 : goal.returns-in_default-2
returns-in_default-2 c =
    no_modifies (scope_of c.args.scope) (tokens_view c.args.rest.now) (λ n us cs begins are some.
    no_changes_behind (scope_of c.args.scope) (tokens_view c.args.rest.now) us (tokens_view c.in-Some.behind.now) n c.in-Some.at cs c.in_ok-changes.field-0
    begins c.in-Some.ensures.tells c.in_ok-changes.ensures c.in_default-2.is are)

pub returns-then-is_empty : goal.returns-then-is_empty
returns-then-is_empty c =
    let z : (length c.in-Some-2.changes.items == 0) ≡ true = rw (← c.in-Some-2.changes.ok.0) (sym c.is_empty.ensures ∙ c.if-is_empty.true) in
    no_modifies (scope_of c.args.scope) (tokens_view c.args.rest.now) (λ n us cs begins are some.
    none_changed (scope_of c.args.scope) (tokens_view c.args.rest.now) (tokens_view c.in-Some.behind.now) us c.in-Some.at n
    (map changed_of c.in-Some-2.changes.items) cs c.in-Some.ensures.tells
    (changes_told (scope_of c.args.scope) (tokens_view c.in-Some.behind.now) c.in_ok-changes.field-0 c.in-Some-2.changes c.in_ok-changes.ensures c.in-Some-2.is)
    (no_changes c.in-Some-2.changes.items z) begins are some)

pub returns : goal.returns
returns c =
    let z : (length c.in-Some-2.changes.items == 0) ≡ false = rw (← c.in-Some-2.changes.ok.0) (sym c.is_empty.ensures ∙ c.if-is_empty.false) in
    a_change_line (scope_of c.args.scope) (tokens_view c.args.rest.now) (tokens_view c.in-Some.behind.now) c.in-Some.at
    (map changed_of c.in-Some-2.changes.items) c.in-Some.ensures.tells
    (changes_told (scope_of c.args.scope) (tokens_view c.in-Some.behind.now) c.in_ok-changes.field-0 c.in-Some-2.changes c.in_ok-changes.ensures c.in-Some-2.is)
    (some_changes c.in-Some-2.changes.items z) c.requires.framed
