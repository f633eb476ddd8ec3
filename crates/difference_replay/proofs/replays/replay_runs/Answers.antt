use Rattle.std.proofs.Common.{◌≡◌, ◌∙◌, ap, sym, subst, List, IfOk}
use Rattle.call_spec.specs.Calls.{Answer, plain_answer}
use Rattle.pair_sides.specs.Sides.{machine_in, program_of_side}
use Rattle.difference_replay.specs.declared.probes.Half.TheVariants.{First, Second}
use Rattle.difference_replay.specs.declared.probes.RunEnd.TheVariants.{Exit}
use Rattle.difference_replay.specs.declared.probes.Probe.{Probe}
use Rattle.difference_replay.specs.Named.{named_of}
use Rattle.difference_replay.specs.Pairs.{links_in}
use Rattle.difference_replay.specs.Probes.{values_on, AreReadableOn}
use Rattle.difference_replay.specs.Sides.{start_of_side}
use Rattle.difference_replay.proofs.Readable.{first_fine, second_fine}
use Rattle.difference_replay.proofs.Judged.{first_stays, second_stays, both_exit, differing_by, values_many}
use Rattle.difference_replay.proofs.replays.replay_runs.Goals as goal

pub leave-requires-clause-probes : goal.leave-requires-clause-probes
leave-requires-clause-probes c =
    let pair = c.args.pair.now in
    subst (λ (ps : List Probe). AreReadableOn (machine_in pair.first.now.layout).has_register First ps)
    (sym (c.deref.ensures.value ∙ c.in_ok-places.ensures))
    (first_fine pair.first.now.layout pair.second.now.layout Exit pair.links.now c.requires.pair.links)

pub leave-requires-2-clause-probes : goal.leave-requires-2-clause-probes
leave-requires-2-clause-probes c =
    let pair = c.args.pair.now in
    subst (λ (ps : List Probe). AreReadableOn (machine_in pair.second.now.layout).has_register Second ps)
    (sym (c.deref-2.ensures.value ∙ c.in_ok-places.ensures))
    (second_fine pair.first.now.layout pair.second.now.layout Exit pair.links.now c.requires.pair.links)

pub returns-in_default : goal.returns-in_default
returns-in_default c =
    let pair = c.args.pair.now in
    subst (λ (a : Answer). IfOk c.ended.result (λ r. plain_answer r.status r.text.items ≡ a))
    (first_stays (program_of_side pair.first.now) (program_of_side pair.second.now) (links_in pair) (named_of c.args.named)
    (start_of_side pair.first.now c.args.x.now) (start_of_side pair.second.now c.args.y.now) (rw c.in_default.is at c.in_ok-first.ensures))
    c.ended.ensures

pub returns-in_default-2 : goal.returns-in_default-2
returns-in_default-2 c =
    let pair = c.args.pair.now in
    let left = rw c.in-Some.is at c.in_ok-first.ensures in
    subst (λ (a : Answer). IfOk c.ended-in_default-2.result (λ r. plain_answer r.status r.text.items ≡ a))
    (second_stays (program_of_side pair.first.now) (program_of_side pair.second.now) (links_in pair) (named_of c.args.named)
    (start_of_side pair.first.now c.args.x.now) (start_of_side pair.second.now c.args.y.now) left.0 left.1
    (rw c.in_default-2.is at c.in_ok-second.ensures))
    c.ended-in_default-2.ensures

pub first_unlike-requires-clause-first : goal.first_unlike-requires-clause-first
first_unlike-requires-clause-first c =
    let left = rw c.in-Some.is at c.in_ok-first.ensures in
    values_many First left.0 c.deref.result.now c.deref-3.result.now c.deref-4.result.now (c.deref-4.ensures.value ∙ left.2)
    (c.deref.ensures.value ∙ sym c.deref-3.ensures.value)

pub first_unlike-requires-clause-second : goal.first_unlike-requires-clause-second
first_unlike-requires-clause-second c =
    let left = rw c.in-Some-2.is at c.in_ok-second.ensures in
    values_many Second left.0 c.deref-2.result.now c.deref-3.result.now c.deref-5.result.now (c.deref-5.ensures.value ∙ left.2)
    (c.deref-2.ensures.value ∙ sym c.deref-3.ensures.value)

pub returns : goal.returns
returns c =
    let pair = c.args.pair.now in
    let first = rw c.in-Some.is at c.in_ok-first.ensures in
    let second = rw c.in-Some-2.is at c.in_ok-second.ensures in
    let ps = c.deref-3.result.now in
    let xs = c.deref-4.result.now in
    let ys = c.deref-5.result.now in
    let same = c.deref.ensures.value ∙ sym c.deref-3.ensures.value in
    let also = c.deref-2.ensures.value ∙ sym c.deref-3.ensures.value in
    subst (λ (a : Answer). IfOk c.compared.result (λ r. plain_answer r.status r.text.items ≡ a))
    (both_exit (program_of_side pair.first.now) (program_of_side pair.second.now) (links_in pair) (named_of c.args.named)
    (start_of_side pair.first.now c.args.x.now) (start_of_side pair.second.now c.args.y.now) first.0 second.0 c.first_unlike.result first.1 second.1
    (differing_by first.0 second.0 pair.links.now ps xs ys c.first_unlike.result
    (c.deref-4.ensures.value ∙ first.2 ∙ ap (λ (l : List Probe). values_on First first.0 l) same)
    (c.deref-5.ensures.value ∙ second.2 ∙ ap (λ (l : List Probe). values_on Second second.0 l) also)
    c.first_unlike.ensures (c.deref-3.ensures.value ∙ c.in_ok-places.ensures)))
    c.compared.ensures
