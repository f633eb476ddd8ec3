use Rattle.std.proofs.Common.{◌<◌, ℕ, false, List, [], refl, ap, sym, subst, map, length}
use Rattle.std.specs.Prelude.{option_map, slice_index_or}
use Rattle.walk_spec.specs.Unrolling.{IsReadable}
use Rattle.notes_value.specs.declared.notes.NoteLine.{NoteLine}
use Rattle.notes_value.specs.FrameViews.{contract_of}
use Rattle.notes_value.specs.NoteViews.{note_line_of}
use Rattle.term_names.specs.Chosen.{HaveSameForm}
use Rattle.term_names.specs.declared.names.Names.{Names}
use Rattle.term_names.specs.Views.{form_of}
use Rattle.passify.specs.Situations.{LinesTried, goes_out_by, no_line}
use Rattle.passify.specs.Edges.{AreRead}
use Rattle.passify.proofs.Followed.{follow_out, lines_read, out_steps, own_hands, own_steps}
use Rattle.term_dag.proofs.Growth.{grew_width}
use Rattle.passify.proofs.Kept.{names_keep, well_keeps}
use Rattle.passify.proofs.Lines.{like_sweep}
use Rattle.passify.proofs.Standing.{out_lines, sets_for}
use Rattle.passify.proofs.edges.outward.Goals as goal

pub judged-requires-clause-reads : goal.judged-requires-clause-reads
judged-requires-clause-reads c =
    let n = c.args.next.now.names.now in
    subst (λ (z : List NoteLine). (i : ℕ) → i < length z → IsReadable (form_of n) (slice_index_or (map note_line_of z) i no_line).says)
    (sym c.deref.ensures.value)
    (lines_read n c.args.unrolled.now.notes.now.ensured.items
    (subst (λ es. AreRead n es) (out_lines c.args.unrolled.now _ (ap (option_map (λ x. contract_of x.now)) c.in_default.is)) c.requires.goes.reads))

pub returns-in_default-clause-hands : goal.returns-in_default-clause-hands
returns-in_default-clause-hands c =
    let u = c.args.unrolled.now in
    follow_out u c.args.dag.now c.judged.new.dag c.args.sweep.now c.judged.new.sweep c.args.hit.0 c.args.next.now c.in_ok-judged.field-0.0
    (ap (option_map (λ x. contract_of x.now)) c.in_default.is)
    (λ changed. subst (λ (z : List NoteLine). LinesTried c.args.dag.now c.judged.new.dag c.args.sweep.now c.judged.new.sweep c.args.hit.0
    c.in_ok-judged.field-0.0 u.big c.args.next.now (λ S. S.next) (map (λ l. l.says) (map note_line_of z)) []
    (goes_out_by changed (map note_line_of z)) (goes_out_by changed [])) c.deref.ensures.value (c.in_ok-judged.ensures changed))

pub returns-in_default-clause-steps : goal.returns-in_default-clause-steps
returns-in_default-clause-steps c =
    let u = c.args.unrolled.now in
    out_steps u c.args.dag.now c.judged.new.dag c.args.sweep.now c.judged.new.sweep c.args.hit.0 c.args.next.now c.in_ok-judged.field-0.0
    (ap (option_map (λ x. contract_of x.now)) c.in_default.is)
    (λ changed. subst (λ (z : List NoteLine). LinesTried c.args.dag.now c.judged.new.dag c.args.sweep.now c.judged.new.sweep c.args.hit.0
    c.in_ok-judged.field-0.0 u.big c.args.next.now (λ S. S.next) (map (λ l. l.says) (map note_line_of z)) []
    (goes_out_by changed (map note_line_of z)) (goes_out_by changed [])) c.deref.ensures.value (c.in_ok-judged.ensures changed))

pub changed-requires-clause-registers : goal.changed-requires-clause-registers
changed-requires-clause-registers c =
    let z = c.judged-2.new.sweep in
    (sets_for c.args.unrolled.now z z.entry c.requires.walkable
    (like_sweep c.args.unrolled.now c.args.sweep.now z (c.in_ok-left.ensures (λ S. false)).lines.steps.like c.requires.sweep)
    (record { first = refl; registers = refl; flags = refl })).0

pub changed-requires-clause-flags : goal.changed-requires-clause-flags
changed-requires-clause-flags c =
    let z = c.judged-2.new.sweep in
    (sets_for c.args.unrolled.now z z.entry c.requires.walkable
    (like_sweep c.args.unrolled.now c.args.sweep.now z (c.in_ok-left.ensures (λ S. false)).lines.steps.like c.requires.sweep)
    (record { first = refl; registers = refl; flags = refl })).1

pub changed-requires-clause-same : goal.changed-requires-clause-same
changed-requires-clause-same c =
    subst (λ (e : Names). HaveSameForm e c.args.next.now.names.now) (sym (c.in_ok-left.ensures (λ S. false)).lines.steps.like.entry) c.requires.next.same

pub changed-requires-clause-entry : goal.changed-requires-clause-entry
changed-requires-clause-entry c = (c.in_ok-left.ensures (λ S. false)).lines.steps.well.entry

pub changed-requires-clause-next : goal.changed-requires-clause-next
changed-requires-clause-next c =
    names_keep (c.in_ok-left.ensures (λ S. false)).lines.steps.grew c.args.next.now.names.now c.requires.next.names

pub returns-clause-steps : goal.returns-clause-steps
returns-clause-steps c =
    own_steps c.args.unrolled.now (contract_of c.in-Some.own.now) (ap (option_map (λ x. contract_of x.now)) c.in-Some.is) c.args.dag.now c.judged-2.new.dag
    c.changed.new.dag c.both.new.dag c.fail.new.dag c.args.sweep.now c.judged-2.new.sweep c.fail.new.sweep c.args.hit.0 c.in_ok-left.left.0
    c.in_ok-differs.differs.0 c.in_ok-bit.bit.0 c.args.next.now c.requires.sweep c.requires.next
    (λ changed. subst (λ (z : List NoteLine). LinesTried c.args.dag.now c.judged-2.new.dag c.args.sweep.now c.judged-2.new.sweep c.args.hit.0
    c.in_ok-left.left.0 c.args.unrolled.now.big c.args.next.now (λ S. S.next) (map (λ l. l.says) (map note_line_of z)) []
    (goes_out_by changed (map note_line_of z)) (goes_out_by changed [])) c.deref-2.ensures.value (c.in_ok-left.ensures changed))
    c.in_ok-differs.ensures c.in_ok-bit.ensures c.in_ok-fail.ensures.steps c.in_ok-fail.ensures.hands

pub returns-clause-hands : goal.returns-clause-hands
returns-clause-hands c =
    own_hands c.args.unrolled.now (contract_of c.in-Some.own.now) (ap (option_map (λ x. contract_of x.now)) c.in-Some.is) c.args.dag.now c.judged-2.new.dag
    c.changed.new.dag c.both.new.dag c.fail.new.dag c.args.sweep.now c.judged-2.new.sweep c.fail.new.sweep c.args.hit.0 c.in_ok-left.left.0
    c.in_ok-differs.differs.0 c.in_ok-bit.bit.0 c.args.next.now c.requires.sweep c.requires.next
    (λ changed. subst (λ (z : List NoteLine). LinesTried c.args.dag.now c.judged-2.new.dag c.args.sweep.now c.judged-2.new.sweep c.args.hit.0
    c.in_ok-left.left.0 c.args.unrolled.now.big c.args.next.now (λ S. S.next) (map (λ l. l.says) (map note_line_of z)) []
    (goes_out_by changed (map note_line_of z)) (goes_out_by changed [])) c.deref-2.ensures.value (c.in_ok-left.ensures changed))
    c.in_ok-differs.ensures c.in_ok-bit.ensures c.in_ok-fail.ensures.steps c.in_ok-fail.ensures.hands

pub judged-requires-2-clause-reads : goal.judged-requires-2-clause-reads
judged-requires-2-clause-reads c =
    let n = c.args.next.now.names.now in
    subst (λ (z : List NoteLine). (i : ℕ) → i < length z → IsReadable (form_of n) (slice_index_or (map note_line_of z) i no_line).says)
    (sym c.deref-2.ensures.value)
    (lines_read n c.in-Some.own.now.gives.items
    (subst (λ es. AreRead n es) (out_lines c.args.unrolled.now _ (ap (option_map (λ x. contract_of x.now)) c.in-Some.is)) c.requires.goes.reads))

pub both-requires-clause-left : goal.both-requires-clause-left
both-requires-clause-left c =
    grew_width c.judged-2.new.dag c.changed.new.dag _ _ _ _ _ 1 c.in_ok-left.left.0 c.in_ok-differs.ensures.grew (c.in_ok-left.ensures (λ S. false)).bit

pub fail-requires-clause-well : goal.fail-requires-clause-well
fail-requires-clause-well c =
    let z = c.judged-2.new.sweep in
    well_keeps c.in_ok-bit.ensures.grew z c.in_ok-bit.ensures.typed
    (well_keeps c.in_ok-differs.ensures.grew z c.in_ok-differs.ensures.typed (c.in_ok-left.ensures (λ S. false)).lines.steps.well)
