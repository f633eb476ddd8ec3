use Rattle.std.proofs.Common.{◌+◌, ◌-◌, ◌*◌, true, false, length, arith}
use Rattle.std.specs.Prelude.{sum_by}
use Rattle.bilv_spec.specs.Points.{line_price, bytes_loaded}
use Rattle.walk_spec.specs.Prices.{line_steps, variables_of}
use Rattle.question_form.specs.Views.{unrolled_of}
use Rattle.links_lang.specs.Views.{links_of}
use Rattle.passify.proofs.Standing.{points_length}
use Rattle.pair_spec.specs.Pairs.{same_bytes}
use Rattle.mem_cells.specs.Words.{places_of}
use Rattle.pair_terms.specs.Exits.{ensured_lines, where_led}
use Rattle.pair_terms.proofs.ExitOf.{exit_led, exit_not_led, led_last}
use Rattle.pair_terms.proofs.exits.exit_of.Goals as goal

pub returns-then-is_led_to : goal.returns-then-is_led_to
returns-then-is_led_to c =
    let u = c.args.unrolled.now in
    let w = unrolled_of u in
    let links = c.args.links.now in
    let lines = ensured_lines w in
    let same = same_bytes (links_of links) in
    let exit = c.in_ok-exit-in-Some.exit in
    exit_led w c.args.second (links_of links) c.args.dag.now c.at_exit.new.dag (sum_by line_price lines) (sum_by bytes_loaded lines + same)
    (4 * line_steps lines) (variables_of w) (length links) (3 * same) exit.met.0 (places_of exit.words.items)
    (led_last u (c.len.result - 1) true (omega (arith, c.len.ensures, u.points.ok.0)) c.if-is_led_to.ensures) c.in_ok-exit-in-Some.ensures

pub returns-in-Some : goal.returns-in-Some
returns-in-Some c =
    let u = c.args.unrolled.now in
    let w = unrolled_of u in
    let links = c.args.links.now in
    let lines = ensured_lines w in
    let same = same_bytes (links_of links) in
    let exit = c.in_ok-exit-in-Some-2.exit in
    let long = points_length u u.points.items in
    exit_not_led w c.args.second (links_of links) c.args.dag.now c.never.new.dag (where_led w (sum_by line_price lines))
    (where_led w (sum_by bytes_loaded lines + same)) (where_led w (4 * line_steps lines)) (variables_of w) (length links) (3 * same) exit.met.0
    (places_of exit.words.items) (omega (arith, long, c.requires.more))
    (led_last u (c.len.result - 1) false (omega (arith, c.len.ensures, u.points.ok.0)) c.if-is_led_to.ensures) c.in_ok-exit-in-Some-2.ensures
