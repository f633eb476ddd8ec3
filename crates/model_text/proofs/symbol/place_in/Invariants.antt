use Rattle.std.proofs.Common.{◌≡◌, ◌+◌, drop, map}
use Rattle.std.specs.Option.{option_map}
use Rattle.machine_spec.specs.StateText.{place_in}
use Rattle.model_text.proofs.symbol.place_in.Given as goal

abbrev pub invariant-loop-place : goal.invariant-loop-place
invariant-loop-place l =
    place_in (map (λ name. name.now) l.names) l.word ≡ option_map (λ i. l.place + i) (place_in (map (λ name. name.now) (drop l.place l.names)) l.word)
