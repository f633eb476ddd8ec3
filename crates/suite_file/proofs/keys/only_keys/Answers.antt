use Rattle.std.proofs.Common.{◌≡◌, sym, ap, ◌∙◌, ◌∷◌, false, true, map, arith, string_bytes}
use Rattle.std.proofs.lemmas.Grind.{common_steps}
use Rattle.std.specs.List.{list_any}
use Rattle.std.specs.Str.{bytes_eq}
use Rattle.toml.proofs.Views.{Entry}
use Rattle.suite_file.specs.Views.{place_of}
use Rattle.suite_file.specs.Suites.{none_unknown}
use Rattle.suite_file.proofs.Readings.{unknown_more, unknown_here}
use Rattle.suite_file.proofs.keys.only_keys.Goals as goal

pub returns-then-not-is_among-clause-refused : goal.returns-then-not-is_among-clause-refused
returns-then-not-is_among-clause-refused c =
    let (can, finite, same) = c.loop-key.invariant in
    let e : Entry = (c.in-Some.key.now, c.in-Some.field-0-1.now) in
    let iter : c.loop-key.key-iterator ≡ e ∷ c.next.new.self = grind (arith, common_steps) in
    let new : list_any (λ x. bytes_eq x (string_bytes e.0)) (map (λ k. k.now) c.args.known.now) ≡ false = grind (arith, common_steps) in
    let named : string_bytes c.in_ok-key.key ≡ string_bytes e.0 = c.in_ok-key.ensures.cases in
    rw named (ap (none_unknown (place_of c.args.place)) (sym same ∙ unknown_here (map (λ k. k.now) c.args.known.now) _ e c.next.new.self iter new))

pub loop-key-preserved : goal.loop-key-preserved
loop-key-preserved c =
    let (can, finite, same) = c.loop-key.invariant in
    let e : Entry = (c.in-Some.key.now, c.in-Some.field-0-1.now) in
    let iter : c.loop-key.key-iterator ≡ e ∷ c.next.new.self = grind (arith, common_steps) in
    let old : list_any (λ x. bytes_eq x (string_bytes e.0)) (map (λ k. k.now) c.args.known.now) ≡ true = grind (arith, common_steps) in
    (tt, tt, sym (unknown_more (map (λ k. k.now) c.args.known.now) _ e c.next.new.self iter old) ∙ same)
