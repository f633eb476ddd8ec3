use Rattle.std.proofs.Common.{◌≡◌, ap, sym, subst, ◌∙◌, ℕ, ◌+◌, arith, length, List}
use Rattle.std.specs.Prelude.{map, sum_by}
use Rattle.std.proofs.lemmas.List.{length-map}
use Rattle.std.proofs.lemmas.List.Sums.{sum_by-append}
use Rattle.bilv_spec.specs.Points.{line_price, bytes_loaded}
use Rattle.walk_spec.specs.Prices.{entry_lines, point_lines, lines_of, edges_of, stores_of, loads_of, known_of, term_price, cell_price}
use Rattle.question_form.specs.Views.{kept_of, unrolled_of}
use Rattle.notes_value.specs.declared.notes.NoteLine.{NoteLine}
use Rattle.notes_value.specs.NoteViews.{note_line_of}
use Rattle.known_bytes.specs.declared.listing.Known.{Known}
use Rattle.known_bytes.specs.Runs.{run_of}
use Rattle.unroller.specs.LineCosts.{capped, AreLineCosts}
use Rattle.unroller.proofs.Capped.{capped_length}
use Rattle.unroller.proofs.prices.price_with.Goals as goal

regroup : (a b c d : ℕ) → d ≡ b + c → (a + c) + b ≡ a + d
regroup a b c d e = omega arith

pub returns : goal.returns
returns c = λ x more_is.
    let u = unrolled_of c.args.u.now in
    let r = sum_by (λ q. q.row) u.points in
    let t = c.all_totals-totals.ensures in
    let required : AreLineCosts c.lines_cost-required.result (entry_lines u) =
    subst (λ (z : List NoteLine). AreLineCosts c.lines_cost-required.result (map
    (λ l. l.says) (map note_line_of z))) c.deref.ensures.value c.lines_cost-required.ensures in
    let known : c.known_count-known.result ≡ capped (known_of u) =
    c.known_count-known.ensures ∙ ap (λ (z : List Known). capped (sum_by (λ r. r.count) (map run_of z))) c.deref-3.ensures.value in
    let l : c.plus-lines.result ≡ capped (sum_by line_price (lines_of u)) =
    c.plus-lines.ensures (sum_by line_price (entry_lines u)) (sum_by line_price (point_lines u)) required.price t.lines
    ∙ ap capped (sym (sum_by-append line_price (entry_lines u) (point_lines u))) in
    let b : c.plus-own_loads.result ≡ capped (loads_of u) =
    c.plus-own_loads.ensures (sum_by (λ q. q.loads) u.points + sum_by bytes_loaded (point_lines u)) (sum_by bytes_loaded (entry_lines u)) t.loads required.loads
    ∙ ap capped (regroup (sum_by (λ q. q.loads) u.points) (sum_by bytes_loaded (entry_lines u)) (sum_by bytes_loaded (point_lines u))
    (sum_by bytes_loaded (lines_of u))
    (sum_by-append bytes_loaded (entry_lines u) (point_lines u))) in
    let d = c.plus-loads.ensures (loads_of u) x b more_is in
    let runs = capped_length (length c.args.u.now.kept.now) (length u.kept) (omega arith) (length-map c.args.u.now.kept.now kept_of) in
    let gates = c.gate_price-gates.ensures r (edges_of u) (sum_by line_price (lines_of u)) (stores_of u) (length u.kept) t.rows t.edges l t.stores runs in
    let memory = c.memory_price-memory.ensures (loads_of u + x) (stores_of u) (edges_of u) (known_of u) d t.stores t.edges known in
    c.plus.ensures (term_price u) (cell_price (loads_of u + x) (stores_of u) (edges_of u) (known_of u)) gates memory
