use Rattle.std.proofs.Common.{◌≡◌, ◌∙◌, ap, sym, subst, List, IfOk, Some, None, codes}
use Rattle.call_spec.specs.Calls.{Answer, plain_answer}
use Rattle.pair_spec.specs.Links.{unlinked_line}
use Rattle.pair_spec.specs.Differs.{by_links, by_state}
use Rattle.pair_sides.specs.Sides.{machine_in, program_of_side}
use Rattle.difference_replay.specs.declared.probes.Half.TheVariants.{First, Second}
use Rattle.difference_replay.specs.declared.probes.RunEnd.TheVariants.{Entry}
use Rattle.difference_replay.specs.declared.probes.Probe.{Probe}
use Rattle.difference_replay.specs.Named.{named_of}
use Rattle.difference_replay.specs.Pairs.{first_of, second_of, links_in}
use Rattle.difference_replay.specs.Probes.{values_on, AreReadableOn}
use Rattle.difference_replay.specs.Sides.{start_of_side}
use Rattle.difference_replay.proofs.Readable.{first_fine, second_fine}
use Rattle.difference_replay.proofs.Judged.{first_passed, both_passed, unlinked_by, values_many}
use Rattle.difference_replay.proofs.replays.replay_starts.Goals as goal

pub enter-requires-clause-probes : goal.enter-requires-clause-probes
enter-requires-clause-probes c =
    let pair = c.args.pair.now in
    subst (λ (ps : List Probe). AreReadableOn (machine_in pair.first.now.layout).has_register First ps)
    (sym (c.deref.ensures.value ∙ c.in_ok-places.ensures))
    (first_fine pair.first.now.layout pair.second.now.layout Entry pair.links.now c.requires.pair.links)

pub enter-requires-2-clause-probes : goal.enter-requires-2-clause-probes
enter-requires-2-clause-probes c =
    let pair = c.args.pair.now in
    subst (λ (ps : List Probe). AreReadableOn (machine_in pair.second.now.layout).has_register Second ps)
    (sym (c.deref-2.ensures.value ∙ c.in_ok-places.ensures))
    (second_fine pair.first.now.layout pair.second.now.layout Entry pair.links.now c.requires.pair.links)

pub faulted-requires : goal.faulted-requires
faulted-requires c = (rw c.in-Faulty.is at c.in_ok-values.ensures).0

pub faulted-requires-in-Faulty-2 : goal.faulted-requires-in-Faulty-2
faulted-requires-in-Faulty-2 c = (rw c.in-Faulty-2.is at c.in_ok-values-2.ensures).0

pub returns-in-Faulty : goal.returns-in-Faulty
returns-in-Faulty c =
    let pair = c.args.pair.now in
    let a = program_of_side pair.first.now in
    let b = program_of_side pair.second.now in
    let x = start_of_side pair.first.now c.args.x.now in
    let y = start_of_side pair.second.now c.args.y.now in
    c.faulted.ensures a x.state
    (by_state (codes "second") b y.state (by_links a b (links_in pair) (named_of c.args.named) x y (unlinked_line (links_in pair) x.state y.state)))
    (rw c.in-Faulty.is at c.in_ok-values.ensures).1

pub returns-in-Faulty-2 : goal.returns-in-Faulty-2
returns-in-Faulty-2 c =
    let pair = c.args.pair.now in
    let a = program_of_side pair.first.now in
    let b = program_of_side pair.second.now in
    let x = start_of_side pair.first.now c.args.x.now in
    let y = start_of_side pair.second.now c.args.y.now in
    let first = rw c.in-Values.is at c.in_ok-values.ensures in
    subst (λ (a : Answer). IfOk c.faulted-in-Faulty-2.result (λ r. plain_answer r.status r.text.items ≡ a))
    (first_passed (first_of pair) (second_of pair) (links_in pair) (named_of c.args.named) x y first.0 first.1)
    (c.faulted-in-Faulty-2.ensures b y.state
    (by_links a b (links_in pair) (named_of c.args.named) x y (unlinked_line (links_in pair) x.state y.state))
    (rw c.in-Faulty-2.is at c.in_ok-values-2.ensures).1)

pub first_unlike-requires-clause-first : goal.first_unlike-requires-clause-first
first_unlike-requires-clause-first c =
    let x = start_of_side c.args.pair.now.first.now c.args.x.now in
    let first = rw c.in-Values.is at c.in_ok-values.ensures in
    values_many First x.state c.deref.result.now c.deref-3.result.now c.deref-4.result.now (c.deref-4.ensures.value ∙ first.2)
    (c.deref.ensures.value ∙ sym c.deref-3.ensures.value)

pub first_unlike-requires-clause-second : goal.first_unlike-requires-clause-second
first_unlike-requires-clause-second c =
    let y = start_of_side c.args.pair.now.second.now c.args.y.now in
    let second = rw c.in-Values-2.is at c.in_ok-values-2.ensures in
    values_many Second y.state c.deref-2.result.now c.deref-3.result.now c.deref-5.result.now (c.deref-5.ensures.value ∙ second.2)
    (c.deref-2.ensures.value ∙ sym c.deref-3.ensures.value)

pub returns-in-Some : goal.returns-in-Some
returns-in-Some c =
    let pair = c.args.pair.now in
    let x = start_of_side pair.first.now c.args.x.now in
    let y = start_of_side pair.second.now c.args.y.now in
    let first = rw c.in-Values.is at c.in_ok-values.ensures in
    let second = rw c.in-Values-2.is at c.in_ok-values-2.ensures in
    let same = c.deref.ensures.value ∙ sym c.deref-3.ensures.value in
    let also = c.deref-2.ensures.value ∙ sym c.deref-3.ensures.value in
    subst (λ (a : Answer). IfOk c.unlinked.result (λ r. plain_answer r.status r.text.items ≡ a))
    (both_passed (first_of pair) (second_of pair) (links_in pair) (named_of c.args.named) x y (Some c.in-Some.line) first.0 first.1 second.0 second.1
    (unlinked_by x.state y.state pair.links.now c.deref-3.result.now c.deref-4.result.now c.deref-5.result.now (Some c.in-Some.line)
    (c.deref-4.ensures.value ∙ first.2 ∙ ap (λ (l : List Probe). values_on First x.state l) same)
    (c.deref-5.ensures.value ∙ second.2 ∙ ap (λ (l : List Probe). values_on Second y.state l) also)
    (sym c.in-Some.is ∙ c.first_unlike.ensures) (c.deref-3.ensures.value ∙ c.in_ok-places.ensures)))
    c.unlinked.ensures

pub returns : goal.returns
returns c =
    let pair = c.args.pair.now in
    let x = start_of_side pair.first.now c.args.x.now in
    let y = start_of_side pair.second.now c.args.y.now in
    let first = rw c.in-Values.is at c.in_ok-values.ensures in
    let second = rw c.in-Values-2.is at c.in_ok-values-2.ensures in
    let same = c.deref.ensures.value ∙ sym c.deref-3.ensures.value in
    let also = c.deref-2.ensures.value ∙ sym c.deref-3.ensures.value in
    subst (λ (a : Answer). IfOk c.replay_runs.result (λ r. plain_answer r.status r.text.items ≡ a))
    (both_passed (first_of pair) (second_of pair) (links_in pair) (named_of c.args.named) x y None first.0 first.1 second.0 second.1
    (unlinked_by x.state y.state pair.links.now c.deref-3.result.now c.deref-4.result.now c.deref-5.result.now None
    (c.deref-4.ensures.value ∙ first.2 ∙ ap (λ (l : List Probe). values_on First x.state l) same)
    (c.deref-5.ensures.value ∙ second.2 ∙ ap (λ (l : List Probe). values_on Second y.state l) also)
    (sym c.in-None.is ∙ c.first_unlike.ensures) (c.deref-3.ensures.value ∙ c.in_ok-places.ensures)))
    c.replay_runs.ensures
