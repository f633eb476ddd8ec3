use Rattle.std.proofs.Common.{◌∙◌, ◌+◌, ◌-◌, ap, sym, arith}
use Rattle.word_spec.specs.State.{State}
use Rattle.machine_spec.specs.Arm as rows
use Rattle.byte_mem.specs.Views.{endian_of}
use Rattle.arm_step.specs.States.{state_of, spare_of}
use Rattle.arm_step.proofs.RegisterLists.{stores_hit, stores_miss, stores_done}
use Rattle.arm_step.proofs.blocks.store_all.Goals as goal
use Rattle.arm_step.proofs.blocks.store_all.Goals.{then-has, else-has}

pub loop-number-preserved : goal.loop-number-preserved
loop-number-preserved c =
    let b = c.args.list.bits in
    let r = c.loop-number.number in
    let n = c.args.«end» in
    let e = endian_of c.args.endian in
    let k = c.args.choice in
    let old = state_of c.args.state.now in
    let s = state_of c.loop-number.state in
    let t = rows.store_all e old k c.args.first (rows.listed_from b 0 n) old.mem in
    let i = c.loop-number.invariant in
    elim c.if-has.branch [
      | then-has w ↦
          let p = stores_hit e b r n k c.loop-number.a c.if-has.a w.read_stored-value.result old s (state_of c.if-has.state) t c.loop-number-test.true
          (sym c.has.ensures ∙ w.if-has.true) i.0 i.1 (ap state_of w.state-is ∙ w.store.ensures.state)
          (w.read_stored-value.ensures ∙ ap (rows.stored_reg s k) w.new.ensures) w.a-is in
          let q = ap spare_of w.state-is in
          let u = w.store.ensures.spare in
          let v = i.2 in
          (p.0, p.1, omega arith)
      | else-has w ↦
          let same = ap state_of w.state-is in
          let m = stores_miss e b r n k c.loop-number.a old s t c.loop-number-test.true (sym c.has.ensures ∙ w.if-has.false) i.1 in
          let q = ap spare_of w.state-is in
          let v = i.2 in (
            same ∙ i.0 ∙ ap (λ y. let z : State = record old { mem = y.mem } in z) (sym same),
            ap (λ a. rows.store_all e old k a (rows.listed_from b (r + 1) (n - (r + 1))) (state_of c.if-has.state).mem) w.a-is
                ∙ ap (λ y. rows.store_all e old k c.loop-number.a (rows.listed_from b (r + 1) (n - (r + 1))) y.mem) same ∙ m,
            omega arith,
          )
    ]

pub returns-clause-state : goal.returns-clause-state
returns-clause-state c =
    let b = c.args.list.bits in
    let e = endian_of c.args.endian in
    let old = state_of c.args.state.now in
    let i = c.loop-number.invariant in
    stores_done e b c.loop-number.number c.args.«end» c.args.choice c.loop-number.a old (state_of c.loop-number.state)
    (rows.store_all e old c.args.choice c.args.first (rows.listed_from b 0 c.args.«end») old.mem) c.loop-number-test.false i.0 i.1
