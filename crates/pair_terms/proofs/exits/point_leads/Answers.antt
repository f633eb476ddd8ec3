use Rattle.std.proofs.Common.{◌≡◌, ℕ, List, true, false, ap, sym, subst, ◌∙◌}
use Rattle.std.specs.Prelude.{map, slice_range}
use Rattle.std.specs.List.{list_any}
use Rattle.std.specs.Option.{is_some}
use Rattle.walk_spec.specs.Unrolled.{UnrolledPoint}
use Rattle.notes_value.specs.NoteViews.{notes_of}
use Rattle.question_form.specs.declared.unrolled.Code.{Code}
use Rattle.question_form.specs.declared.unrolled.Edge.{Edge}
use Rattle.question_form.specs.declared.unrolled.Unrolled.{Unrolled}
use Rattle.question_form.specs.Views.{edge_of}
use Rattle.passify.specs.Rows.{own_code, own_edges}
use Rattle.passify.proofs.Standing.{own_is, placed_is}
use Rattle.pair_terms.specs.Exits.{leads_to}
use Rattle.pair_terms.proofs.Led.{led_some, led_none}
use Rattle.pair_terms.proofs.exits.point_leads.Goals as goal

-- the entries of the assert lines of a place's code, by address
abbrev own_asserts : Unrolled → ℕ → List (ℕ × ℕ)
own_asserts u i = slice_range u.asserts.items (own_code u i).asserts.0 (own_code u i).asserts.1

pub returns-then-is_none : goal.returns-then-is_none
returns-then-is_none c =
    let u = c.args.unrolled.now in
    let i = c.args.at in
    let k = own_is u i c.index.result.now c.index-code.result.now c.requires.formed c.requires.at c.index.ensures c.index-code.ensures in
    led_none c.args.place (notes_of u.notes.now).asserts (own_asserts u i) (own_code u i).fetchable (own_code u i).list (own_edges u i)
    (subst (λ (z : Code). is_some z.list ≡ false) k c.if-is_none.ensures)
    ∙ ap (λ (q : UnrolledPoint). list_any (leads_to c.args.place) q.exits) (sym (placed_is u i c.requires.at))

pub returns : goal.returns
returns c =
    let u = c.args.unrolled.now in
    let i = c.args.at in
    let k = own_is u i c.index.result.now c.index-code.result.now c.requires.formed c.requires.at c.index.ensures c.index-code.ensures in
    c.leads.ensures ∙ ap (λ (es : List Edge). list_any (leads_to c.args.place) (map edge_of es)) c.edges_at.ensures
    ∙ led_some c.args.place (notes_of u.notes.now).asserts (own_asserts u i) (own_code u i).fetchable (own_code u i).list (own_edges u i)
    (subst (λ (z : Code). is_some z.list ≡ true) k c.if-is_none.ensures)
    ∙ ap (λ (q : UnrolledPoint). list_any (leads_to c.args.place) q.exits) (sym (placed_is u i c.requires.at))
