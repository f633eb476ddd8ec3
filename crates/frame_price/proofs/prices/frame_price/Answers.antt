use Rattle.std.proofs.Common.{◌≡◌, refl, ◌++◌, ap, sym, subst, ◌∙◌, ℕ, ◌+◌, ◌*◌, arith, length, List}
use Rattle.std.specs.Prelude.{Contains, if◌then◌else◌, map, sum_by}
use Rattle.std.specs.List.{flat_map}
use Rattle.std.proofs.lemmas.List.{length-map}
use Rattle.bilv_spec.specs.Points.{line_price, bytes_loaded}
use Rattle.walk_spec.specs.Prices.{cell_price}
use Rattle.frame_spec.specs.FramePoints.{says_of}
use Rattle.frame_laws.specs.FramePrices.{edges_of, known_of, lines_of, loads_of, own_writes, point_lines, root_lines, stores_of, term_price}
use Rattle.notes_value.specs.declared.notes.NoteLine.{NoteLine}
use Rattle.notes_value.specs.NoteViews.{note_line_of}
use Rattle.known_bytes.specs.declared.listing.Known.{Known}
use Rattle.known_bytes.specs.Runs.{run_of}
use Rattle.question_form.specs.declared.unrolled.Root.{Root}
use Rattle.question_form.specs.FrameViews.{frame_unrolled_of, own_contract, root_of}
use Rattle.frame_price.specs.Evaluated.{own_lines}
use Rattle.frame_price.specs.Totals.{row_with_exit}
use Rattle.question_form.specs.Views.{kept_of}
use Rattle.unroller.specs.LineCosts.{AreLineCosts, capped}
use Rattle.unroller.proofs.Capped.{capped_length}
use Rattle.unroller.proofs.Totalled.{costs_on}
use Rattle.frame_price.proofs.FrameCosts.{all_lines, all_loads, first_lines, heads_within, terms_are}
use Rattle.frame_price.proofs.prices.frame_price.Goals as goal

pub roots_cost-requires-clause-roots : goal.roots_cost-requires-clause-roots
roots_cost-requires-clause-roots c = λ x h. (c.requires.roots.places x (subst (λ (l : List Root). Contains l x) c.deref-2.ensures.value h)).1

pub returns : goal.returns
returns c =
    let v = c.args.u.now in
    let u = frame_unrolled_of v in
    let heads : ℕ = if v.heads then 1024 else 0 in
    let rows = sum_by (row_with_exit u) u.points in
    let prices = sum_by line_price (lines_of u) in
    let t = c.all_totals-totals.ensures in
    let own = own_lines (own_contract v) in
    let required : AreLineCosts c.lines_cost-required.result (says_of u.requires) =
    subst (λ (z : List NoteLine). AreLineCosts c.lines_cost-required.result (map (λ l. l.says) (map note_line_of z))) c.deref.ensures.value
    c.lines_cost-required.ensures in
    let assumed : AreLineCosts c.roots_cost.result (root_lines u) =
    subst (λ (z : List Root). AreLineCosts c.roots_cost.result (flat_map (λ x. says_of x.assumes) (map (root_of v) z))) c.deref-2.ensures.value
    c.roots_cost.ensures in
    let entry = costs_on (says_of u.requires) own c.lines_cost-required.result c.own_writes_cost-own.result c.sum-entry.result required
    c.own_writes_cost-own.ensures c.sum-entry.ensures in
    let first = costs_on (says_of u.requires ++ own) (root_lines u) c.sum-entry.result c.roots_cost.result c.sum-first.result entry assumed
    c.sum-first.ensures in
    let known : c.known_count-known.result ≡ capped (known_of u) =
    c.known_count-known.ensures ∙ ap (λ (z : List Known). capped (sum_by (λ r. r.count) (map run_of z))) c.deref-3.ensures.value in
    let lines : c.plus-lines.result ≡ capped prices =
    c.plus-lines.ensures (sum_by line_price (first_lines v)) (sum_by line_price (point_lines u)) first.price t.lines
    ∙ ap capped (sym (all_lines v line_price)) in
    let loads : c.plus-loads.result ≡ capped (loads_of u) =
    c.plus-loads.ensures (sum_by (λ q. q.loads) u.points + sum_by bytes_loaded (point_lines u)) (sum_by bytes_loaded (first_lines v)) t.loads first.loads
    ∙ ap capped (all_loads v) in
    let runs = capped_length (length v.kept.now) (length u.kept) (omega arith) (length-map v.kept.now kept_of) in
    let gates = c.gate_price-gates.ensures rows (edges_of u) prices (stores_of u) (length u.kept) t.rows t.edges lines t.stores runs in
    let count : c.own_count.result ≡ capped (own_writes u) = (let is = c.own_count.ensures in let low = c.own_count.type_inv in omega (arith, is, low)) in
    let judged = c.times-judged.ensures (stores_of u) (own_writes u) t.stores count in
    let outside = c.times-outside.ensures 512 (stores_of u * own_writes u) refl judged in
    let plain = c.plus-plain.ensures heads (1024 + rows + 1280 * edges_of u + prices + 128 * (stores_of u * length u.kept))
    (heads_within v.heads c.heads_price.result c.heads_price.ensures) gates in
    let terms : c.plus-terms.result ≡ capped (term_price u v.heads) =
    c.plus-terms.ensures (heads + (1024 + rows + 1280 * edges_of u + prices + 128 * (stores_of u * length u.kept))) (512 * (stores_of u * own_writes u)) plain
    outside ∙ ap capped (terms_are v v.heads) in
    let memory = c.memory_price.ensures (loads_of u) (stores_of u) (edges_of u) (known_of u) loads t.stores t.edges known in
    c.plus.ensures (term_price u v.heads) (cell_price (loads_of u) (stores_of u) (edges_of u) (known_of u)) terms memory
