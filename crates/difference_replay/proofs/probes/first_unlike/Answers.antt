use Rattle.std.proofs.Common.{◌+◌, ◌∙◌, Bool, ap, get_or, drop, Some, eq-eqb}
use Rattle.std.specs.Prelude.{if◌then◌else◌}
use Rattle.difference_replay.specs.Probes.{first_unlike}
use Rattle.difference_replay.specs.declared.probes.Probe.{Probe}
use Rattle.difference_replay.specs.declared.probes.Place.TheVariants.{Byte}
use Rattle.difference_replay.proofs.Places.{unlike_at}
use Rattle.difference_replay.proofs.probes.first_unlike.Goals as goal

pub loop-i-preserved : goal.loop-i-preserved
loop-i-preserved c =
    let i = c.loop-i.i in
    let ps = c.args.probes.now in
    let xs = c.args.first.now in
    let ys = c.args.second.now in
    let d : Probe = record { line = 0; first = Byte 0; second = Byte 0 } in
    c.loop-i.invariant ∙ unlike_at ps xs ys i d c.loop-i-test.true c.requires.first c.requires.second
    ∙ ap (λ (b : Bool). if b then first_unlike (drop (i + 1) ps) (drop (i + 1) xs) (drop (i + 1) ys) else Some (get_or ps i d).line)
    (eq-eqb (get_or xs i 0) (get_or ys i 0) c.if-first-i.false)
