use Rattle.std.proofs.Common.{◌∙◌, sym, ap, refl, ℕ}
use Rattle.std.specs.Prelude.{◌==◌}
use Rattle.machine_spec.specs.Arm.{listed_from}
use Rattle.machine_spec.specs.Bil.{Statements}
use Rattle.byte_mem.specs.Views.{endian_of}
use Rattle.arm_lift_alu.specs.Before.{before}
use Rattle.arm_lift_blocks.specs.Lifted as lifts
use Rattle.arm_lift_blocks.proofs.Pushes.{pushed_hit, pushed_miss, pushed_all}
use Rattle.arm_lift_blocks.proofs.transfers.loads.Goals as goal
use Rattle.arm_lift_blocks.proofs.transfers.loads.Goals.{then-has+in_ok-load_one, else-has}

pub loop-register-preserved : goal.loop-register-preserved
loop-register-preserved c =
    let e = endian_of c.args.order in
    let b = c.args.base.number in
    let w = c.args.registers.bits in
    let r = c.loop-register.register in
    let n = c.args.«end» in
    let d = c.loop-register.distance in
    let old = c.loop-register.list.items in
    let new = c.if-has.list.items in
    let many = lifts.loads e b in
    let one : ℕ → ℕ → Statements → Statements = λ d r rest. lifts.load_one (r == b) (r == 15) e b d r rest in
    let t : Statements → Statements = λ rest. lifts.loads e b c.args.first (listed_from w 0 n) rest in
    elim c.if-has.branch [
      | then-has+in_ok-load_one x ↦
          pushed_hit many one (λ d rest. refl) (λ d r rs rest. refl) w r n d c.if-has.distance old new t c.loop-register-test.true
          (sym c.has.ensures ∙ x.if-has.true) x.distance-is (λ rest. ap (λ l. before l.items rest) x.list-is ∙ x.in_ok-load_one.ensures rest)
          c.loop-register.invariant
      | else-has x ↦
          pushed_miss many one (λ d rest. refl) (λ d r rs rest. refl) w r n d c.if-has.distance old new t c.loop-register-test.true
          (sym c.has.ensures ∙ x.if-has.false) x.distance-is (ap (λ l. l.items) x.list-is) c.loop-register.invariant
    ]

pub returns : goal.returns
returns c =
    let e = endian_of c.args.order in
    let b = c.args.base.number in
    let w = c.args.registers.bits in
    let n = c.args.«end» in
    pushed_all (lifts.loads e b) (λ d r rest. lifts.load_one (r == b) (r == 15) e b d r rest) (λ d rest. refl) (λ d r rs rest. refl) w
    c.loop-register.register n c.loop-register.distance c.loop-register.list.items (λ rest. lifts.loads e b c.args.first (listed_from w 0 n) rest)
    c.loop-register-test.false c.loop-register.invariant
