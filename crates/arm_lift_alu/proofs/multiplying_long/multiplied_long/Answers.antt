use Rattle.std.proofs.Common.{Bool, true, sym, ap, ◌∙◌}
use Rattle.std.specs.Prelude.{◌==◌}
use Rattle.machine_spec.specs.Bil as bil
use Rattle.arm_lift_alu.specs.MultipliedLong as lifts
use Rattle.arm_lift_alu.proofs.Flagged.{was_false, was_true}
use Rattle.arm_lift_alu.proofs.Pushed.{whole}
use Rattle.arm_lift_alu.proofs.multiplying_long.multiplied_long.Goals as goal

pub returns-then-not-insn : goal.returns-then-not-insn
returns-then-not-insn c =
    let i = c.args.insn in
    let n = i.upper.number in
    let d = i.lower.number in
    let list : Bool → bil.Statements
    = λ b. lifts.both (i.rs.number == n) i.accumulates i.is_signed n d i.rm.number i.rs.number (lifts.long_flags b c.args.keeps n d bil.Empty) in
    whole c.in_ok-list.list.items ∙ c.in_ok-list.ensures bil.Empty ∙ ap list (sym (was_false i.sets_flags c.if-not-insn.true))

pub returns-then-keeps : goal.returns-then-keeps
returns-then-keeps c =
    let i = c.args.insn in
    let n = i.upper.number in
    let d = i.lower.number in
    let list : Bool → Bool → bil.Statements
    = λ b k. lifts.both (i.rs.number == n) i.accumulates i.is_signed n d i.rm.number i.rs.number (lifts.long_flags b k n d bil.Empty) in
    whole c.push_signs.new.list.items ∙ c.in_ok-push_signs.ensures bil.Empty ∙ c.in_ok-list.ensures (lifts.long_signs n d bil.Empty)
    ∙ ap (list true) (sym c.if-keeps.true) ∙ ap (λ b. list b c.args.keeps) (sym (was_true i.sets_flags c.if-not-insn.false))

pub returns : goal.returns
returns c =
    let i = c.args.insn in
    let n = i.upper.number in
    let d = i.lower.number in
    let list : Bool → Bool → bil.Statements
    = λ b k. lifts.both (i.rs.number == n) i.accumulates i.is_signed n d i.rm.number i.rs.number (lifts.long_flags b k n d bil.Empty) in
    whole c.push_unknown.new.list.items ∙ c.in_ok-push_unknown.ensures bil.Empty ∙ c.in_ok-push_signs.ensures (lifts.long_unknown bil.Empty)
    ∙ c.in_ok-list.ensures (lifts.long_signs n d (lifts.long_unknown bil.Empty))
    ∙ ap (list true) (sym c.if-keeps.false) ∙ ap (λ b. list b c.args.keeps) (sym (was_true i.sets_flags c.if-not-insn.false))
