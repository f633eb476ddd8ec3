use Rattle.std.proofs.Common.{ℕ, ◌<◌, List, Bool, refl, subst, sym, ap, ◌∙◌, length, arith}
use Rattle.std.specs.Prelude.{slice_index_or}
use Rattle.term_spec.specs.Terms.{ConstantNode, HasWidth}
use Rattle.question_form.specs.declared.unrolled.Code.{Code}
use Rattle.question_form.specs.declared.unrolled.Point.{Point}
use Rattle.term_dag.proofs.Growth.{grew_width, interned_grew, interned_width}
use Rattle.passify.specs.Edges.{AreRead}
use Rattle.passify.specs.Rows.{is_of_head, own_index}
use Rattle.passify.specs.Situations.{checks_of, said}
use Rattle.passify.proofs.Heads.{own_point_is}
use Rattle.passify.proofs.Kept.{terms_keep, well_keeps}
use Rattle.passify.proofs.Called.{step_affords}
use Rattle.passify.proofs.Lines.{at_point, like_sweep}
use Rattle.passify.proofs.Quit.{names_step}
use Rattle.passify.proofs.Standing.{own_is, places_asserted, asserts_read}
use Rattle.passify.proofs.Pointed.{arrives, met_at, place_met, handled, own_on, pc_at}
use Rattle.passify.proofs.point.handle.Goals as goal

pub index-met-requires : goal.index-met-requires
index-met-requires c = let h = place_met c.args.unrolled.now c.args.sweep.now c.args.place c.requires.sweep c.requires.place
    in omega (arith, h, c.args.sweep.now.met.ok.0)

pub asserts-requires-clause-well : goal.asserts-requires-clause-well
asserts-requires-clause-well c =
    well_keeps (interned_grew c.args.dag.now c.keep.new.self (ConstantNode 32 c.from.result) c.in_ok-pc.pc.0 c.in_ok-pc.ensures) c.args.sweep.now
    c.in_ok-pc.ensures.typed c.requires.well

pub asserts-requires-clause-places : goal.asserts-requires-clause-places
asserts-requires-clause-places c =
    let u = c.args.unrolled.now in
    let own = own_is u c.args.place c.index-point.result.now c.index-code.result.now c.requires.formed c.requires.place c.index-point.ensures
    c.index-code.ensures in
    subst (λ (z : List (ℕ × ℕ)). (i : ℕ) → i < length z → (slice_index_or z i (0, 0)).1 < length u.notes.now.asserts.items)
    (sym c.index_at-index.ensures)
    (places_asserted u c.args.place c.requires.walkable c.requires.formed c.requires.place)

pub asserts-requires-clause-reads : goal.asserts-requires-clause-reads
asserts-requires-clause-reads c =
    let u = c.args.unrolled.now in
    let n = c.args.names.now in
    let own = own_is u c.args.place c.index-point.result.now c.index-code.result.now c.requires.formed c.requires.place c.index-point.ensures
    c.index-code.ensures in
    subst (λ (b : Bool). AreRead n (said (checks_of u b c.index_at-index.result.now)))
    (sym c.begins_at_head-skips.ensures)
    (subst (λ (z : List (ℕ × ℕ)). AreRead n (said (checks_of u (is_of_head u c.args.place) z)))
    (sym c.index_at-index.ensures)
    (asserts_read u c.args.place c.requires.walkable c.requires.formed c.requires.place c.args.sweep.now n c.requires.sweep c.requires.names.same))

pub asserts-requires-clause-now : goal.asserts-requires-clause-now
asserts-requires-clause-now c =
    terms_keep (interned_grew c.args.dag.now c.keep.new.self (ConstantNode 32 c.from.result) c.in_ok-pc.pc.0 c.in_ok-pc.ensures) c.args.sweep.now.entry
    c.args.names.now c.requires.names

pub asserts-requires-clause-rest : goal.asserts-requires-clause-rest
asserts-requires-clause-rest c =
    let here = place_met c.args.unrolled.now c.args.sweep.now c.args.place c.requires.sweep c.requires.place in
    grew_width c.args.dag.now c.keep.new.self 0 0 0 0 1 1 c.index-met.result.now.0
    (interned_grew c.args.dag.now c.keep.new.self (ConstantNode 32 c.from.result) c.in_ok-pc.pc.0
    c.in_ok-pc.ensures)
    (subst (λ (t : ℕ). HasWidth c.args.dag.now 1 t) (sym (met_at c.args.sweep.now c.args.place c.index-met.result.now here c.index-met.ensures))
    (c.requires.well.bits c.args.place here))

pub row-requires-clause-names : goal.row-requires-clause-names
row-requires-clause-names c =
    names_step c.keep.new.self c.asserts.new.dag c.args.sweep.now c.asserts.new.sweep _ _ _ _ _ (λ m. ⊥) c.args.names.now
    (c.in_ok-rest.ensures at_point).lines.steps
    (terms_keep (interned_grew c.args.dag.now c.keep.new.self
    (ConstantNode 32 c.from.result) c.in_ok-pc.pc.0 c.in_ok-pc.ensures) c.args.sweep.now.entry c.args.names.now
    c.requires.names)

pub row-requires-clause-deed : goal.row-requires-clause-deed
row-requires-clause-deed c =
    ap (λ (q : Point). q.deed)
    (sym (own_point_is c.args.unrolled.now c.args.place c.index-point.result.now c.requires.roots c.requires.place c.index-point.ensures)) ∙ c.in-Row.is

pub row-requires-clause-well : goal.row-requires-clause-well
row-requires-clause-well c = (c.in_ok-rest.ensures at_point).lines.steps.well

pub row-requires-clause-sweep : goal.row-requires-clause-sweep
row-requires-clause-sweep c =
    like_sweep c.args.unrolled.now c.args.sweep.now c.asserts.new.sweep (c.in_ok-rest.ensures at_point).lines.steps.like c.requires.sweep

pub row-requires-clause-rest : goal.row-requires-clause-rest
row-requires-clause-rest c = (c.in_ok-rest.ensures at_point).bit

pub returns-in-Arrival : goal.returns-in-Arrival
returns-in-Arrival c =
    let u = c.args.unrolled.now in
    let own = own_is u c.args.place c.index-point.result.now c.index-code.result.now c.requires.formed c.requires.place c.index-point.ensures
    c.index-code.ensures in
    let here = place_met u c.args.sweep.now c.args.place c.requires.sweep c.requires.place in
    arrives u c.args.place c.args.names.now c.args.dag.now c.keep.new.self c.asserts.new.dag c.args.sweep.now c.asserts.new.sweep c.index-met.result.now.0
    c.in_ok-rest.rest.0 c.from.result c.in_ok-pc.pc.0 _ c.requires.place c.requires.sweep c.requires.well c.requires.names
    (met_at c.args.sweep.now c.args.place c.index-met.result.now here c.index-met.ensures) here (c.from.ensures ∙ ap (λ (k : Code). k.at) own)
    c.in_ok-pc.ensures refl refl _
    (ap (checks_of u c.begins_at_head-skips.result) c.index_at-index.ensures
    ∙ ap (λ (b : Bool). checks_of u b (own_index u c.args.place)) c.begins_at_head-skips.ensures) c.in_ok-rest.ensures
    (ap (λ (q : Point). q.deed) (sym (own_point_is u c.args.place c.index-point.result.now c.requires.roots c.requires.place c.index-point.ensures))
    ∙ c.in-Arrival.is)

pub returns-in_ok-fail-in-Row : goal.returns-in_ok-fail-in-Row
returns-in_ok-fail-in-Row c =
    let u = c.args.unrolled.now in
    let own = own_is u c.args.place c.index-point.result.now c.index-code.result.now c.requires.formed c.requires.place c.index-point.ensures
    c.index-code.ensures in
    let here = place_met u c.args.sweep.now c.args.place c.requires.sweep c.requires.place in
    handled u c.args.place c.args.names.now c.args.dag.now c.keep.new.self c.asserts.new.dag c.args.sweep.now c.asserts.new.sweep c.index-met.result.now.0
    c.in_ok-rest.rest.0 c.from.result c.in_ok-pc.pc.0 _ c.requires.place c.requires.sweep c.requires.well c.requires.names
    (met_at c.args.sweep.now c.args.place c.index-met.result.now here c.index-met.ensures) here (c.from.ensures ∙ ap (λ (k : Code). k.at) own)
    c.in_ok-pc.ensures refl refl _
    (ap (checks_of u c.begins_at_head-skips.result) c.index_at-index.ensures
    ∙ ap (λ (b : Bool). checks_of u b (own_index u c.args.place)) c.begins_at_head-skips.ensures) c.in_ok-rest.ensures
    c.row.new.dag c.fail.new.dag c.row.new.sweep c.fail.new.sweep c.in_ok-left-in-Row.left.0
    c.in_ok-left-in-Row.ensures c.in_ok-fail-in-Row.ensures.steps c.in_ok-fail-in-Row.ensures.hands

pub returns-in_ok-fail-in-Contract : goal.returns-in_ok-fail-in-Contract
returns-in_ok-fail-in-Contract c =
    let u = c.args.unrolled.now in
    let own = own_is u c.args.place c.index-point.result.now c.index-code.result.now c.requires.formed c.requires.place c.index-point.ensures
    c.index-code.ensures in
    let here = place_met u c.args.sweep.now c.args.place c.requires.sweep c.requires.place in
    handled u c.args.place c.args.names.now c.args.dag.now c.keep.new.self c.asserts.new.dag c.args.sweep.now c.asserts.new.sweep c.index-met.result.now.0
    c.in_ok-rest.rest.0 c.from.result c.in_ok-pc.pc.0 _ c.requires.place c.requires.sweep c.requires.well c.requires.names
    (met_at c.args.sweep.now c.args.place c.index-met.result.now here c.index-met.ensures) here (c.from.ensures ∙ ap (λ (k : Code). k.at) own)
    c.in_ok-pc.ensures refl refl _
    (ap (checks_of u c.begins_at_head-skips.result) c.index_at-index.ensures
    ∙ ap (λ (b : Bool). checks_of u b (own_index u c.args.place)) c.begins_at_head-skips.ensures) c.in_ok-rest.ensures
    c.contract_step.new.dag c.fail-in-Contract.new.dag c.contract_step.new.sweep c.fail-in-Contract.new.sweep c.in_ok-left-in-Contract.left.0
    c.in_ok-left-in-Contract.ensures c.in_ok-fail-in-Contract.ensures.steps c.in_ok-fail-in-Contract.ensures.hands

pub row-requires-clause-own : goal.row-requires-clause-own
row-requires-clause-own c =
    own_on c.args.unrolled.now c.args.dag.now c.keep.new.self c.asserts.new.dag c.args.sweep.now c.asserts.new.sweep c.from.result c.in_ok-pc.pc.0
    c.requires.own c.in_ok-pc.ensures (c.in_ok-rest.ensures at_point).lines.steps

pub contract_step-requires-clause-deed : goal.contract_step-requires-clause-deed
contract_step-requires-clause-deed c =
    ap (λ (q : Point). q.deed)
    (sym (own_point_is c.args.unrolled.now c.args.place c.index-point.result.now c.requires.roots c.requires.place c.index-point.ensures)) ∙ c.in-Contract.is

pub contract_step-requires-clause-paid : goal.contract_step-requires-clause-paid
contract_step-requires-clause-paid c =
    step_affords c.args.unrolled.now c.args.place c.in-Contract.number c.requires.walkable c.requires.place
    (ap (λ (q : Point). q.deed)
    (sym (own_point_is c.args.unrolled.now c.args.place c.index-point.result.now c.requires.roots c.requires.place c.index-point.ensures)) ∙ c.in-Contract.is)

pub contract_step-requires-clause-well : goal.contract_step-requires-clause-well
contract_step-requires-clause-well c = (c.in_ok-rest.ensures at_point).lines.steps.well

pub contract_step-requires-clause-sweep : goal.contract_step-requires-clause-sweep
contract_step-requires-clause-sweep c =
    like_sweep c.args.unrolled.now c.args.sweep.now c.asserts.new.sweep (c.in_ok-rest.ensures at_point).lines.steps.like c.requires.sweep

pub contract_step-requires-clause-own : goal.contract_step-requires-clause-own
contract_step-requires-clause-own c =
    own_on c.args.unrolled.now c.args.dag.now c.keep.new.self c.asserts.new.dag c.args.sweep.now c.asserts.new.sweep c.from.result c.in_ok-pc.pc.0
    c.requires.own c.in_ok-pc.ensures (c.in_ok-rest.ensures at_point).lines.steps

pub contract_step-requires-clause-now : goal.contract_step-requires-clause-now
contract_step-requires-clause-now c =
    names_step c.keep.new.self c.asserts.new.dag c.args.sweep.now c.asserts.new.sweep _ _ _ _ _ (λ m. ⊥) c.args.names.now
    (c.in_ok-rest.ensures at_point).lines.steps
    (terms_keep (interned_grew c.args.dag.now c.keep.new.self
    (ConstantNode 32 c.from.result) c.in_ok-pc.pc.0 c.in_ok-pc.ensures) c.args.sweep.now.entry c.args.names.now
    c.requires.names)

pub contract_step-requires-clause-pc : goal.contract_step-requires-clause-pc
contract_step-requires-clause-pc c =
    grew_width c.keep.new.self c.asserts.new.dag _ _ _ _ _ 32 c.in_ok-pc.pc.0 (c.in_ok-rest.ensures at_point).lines.steps.grew
    (interned_width c.args.dag.now c.keep.new.self (ConstantNode 32 c.from.result) c.in_ok-pc.pc.0 32 c.in_ok-pc.ensures refl)

pub contract_step-requires-clause-at : goal.contract_step-requires-clause-at
contract_step-requires-clause-at c =
    let u = c.args.unrolled.now in
    let own = own_is u c.args.place c.index-point.result.now c.index-code.result.now c.requires.formed c.requires.place c.index-point.ensures
    c.index-code.ensures in
    pc_at u c.args.place c.args.dag.now c.keep.new.self c.asserts.new.dag c.from.result c.in_ok-pc.pc.0 c.in_ok-pc.ensures
    (c.from.ensures ∙ ap (λ (k : Code). k.at) own) (c.in_ok-rest.ensures at_point).lines.steps.grew

pub contract_step-requires-clause-rest : goal.contract_step-requires-clause-rest
contract_step-requires-clause-rest c = (c.in_ok-rest.ensures at_point).bit
