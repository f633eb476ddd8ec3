use Rattle.std.proofs.Common.{◌∙◌, ◌+◌, ◌-◌, ap, sym}
use Rattle.word_spec.specs.State.{State}
use Rattle.machine_spec.specs.Arm as rows
use Rattle.byte_mem.specs.Views.{endian_of}
use Rattle.arm_step.specs.States.{state_of, spare_of}
use Rattle.arm_step.proofs.RegisterLists.{loads_hit, loads_miss, loads_done}
use Rattle.arm_step.proofs.blocks.load_all.Goals as goal
use Rattle.arm_step.proofs.blocks.load_all.Goals.{then-has, else-has}

pub loop-number-preserved : goal.loop-number-preserved
loop-number-preserved c =
    let b = c.args.list.bits in
    let r = c.loop-number.number in
    let n = c.args.«end» in
    let e = endian_of c.args.endian in
    let old = state_of c.args.state.now in
    let s = state_of c.loop-number.state in
    let t = rows.load_all e old.mem c.args.first (rows.listed_from b 0 n) old.regs in
    let i = c.loop-number.invariant in
    elim c.if-has.branch [
      | then-has w ↦
          let p = loads_hit e b r n c.loop-number.a c.if-has.a old s (state_of c.if-has.state) t c.loop-number-test.true
          (sym c.has.ensures ∙ w.if-has.true) i.0 i.1
          (ap state_of w.state-is ∙ w.load_one.ensures.state) w.a-is in
          (p.0, p.1, ap spare_of w.state-is ∙ w.load_one.ensures.spare ∙ i.2)
      | else-has w ↦
          let same = ap state_of w.state-is in
          let m = loads_miss e b r n c.loop-number.a old s t c.loop-number-test.true (sym c.has.ensures ∙ w.if-has.false) i.1 in (
            same ∙ i.0 ∙ ap (λ y. let z : State = record old { regs = y.regs } in z) (sym same),
            ap (λ a. rows.load_all e old.mem a (rows.listed_from b (r + 1) (n - (r + 1))) (state_of c.if-has.state).regs) w.a-is
                ∙ ap (λ y. rows.load_all e old.mem c.loop-number.a (rows.listed_from b (r + 1) (n - (r + 1))) y.regs) same ∙ m,
            ap spare_of w.state-is ∙ i.2,
          )
    ]

pub returns-clause-state : goal.returns-clause-state
returns-clause-state c =
    let b = c.args.list.bits in
    let e = endian_of c.args.endian in
    let old = state_of c.args.state.now in
    let i = c.loop-number.invariant in
    loads_done e b c.loop-number.number c.args.«end» c.loop-number.a old (state_of c.loop-number.state)
    (rows.load_all e old.mem c.args.first (rows.listed_from b 0 c.args.«end») old.regs) c.loop-number-test.false i.0 i.1
