use Rattle.std.proofs.Common.{◌≡◌, ap, sym, ◌∙◌, subst, arith, ◌<◌, ◌^◌, List}
use Rattle.machine_spec.specs.Machine.{Cost}
use Rattle.machine_spec.specs.MachineLaws.{IsLifting}
use Rattle.bilv_spec.specs.Run.{Program}
use Rattle.bil_ast.specs.declared.statements.Stmt.{Stmt}
use Rattle.bil_ast.specs.Views.{statements}
use Rattle.bil_trim.specs.Literals.{with_literal}
use Rattle.byte_mem.specs.Views.{endian_of}
use Rattle.unroller.specs.Asking.{program_asking}
use Rattle.unroller.proofs.Coded.{plain_list, literal_list}
use Rattle.unroller.proofs.Literals.{loads_full, loads_none}
use Rattle.unroller.proofs.codes.listed.Goals as goal

pub returns-in-None-clause-list : goal.returns-in-None-clause-list
returns-in-None-clause-list g c = λ n e o noted kept.
    let p : Program = program_asking g.M.Machine.machine c.args.program.now.image.now n e o in
    let row = g.M.Machine.row c.args.insn.now in
    let lifted = statements c.in_ok-lifted.lifted.items in
    let lifting : IsLifting p.machine g.M.Machine.bank row c.args.node.now.at lifted = c.in_ok-lifted.ensures in
    plain_list p g.M.Machine.bank noted row c.args.node.now lifted (statements c.in_ok-trimmed.trimmed.items) lifting kept c.in_ok-trimmed.ensures
    (c.in-None.ensures n e o)

pub returns-in_ok-list-in-Some-clause-list : goal.returns-in_ok-list-in-Some-clause-list
returns-in_ok-list-in-Some-clause-list g c = λ n e o noted kept.
    let p : Program = program_asking g.M.Machine.machine c.args.program.now.image.now n e o in
    let row = g.M.Machine.row c.args.insn.now in
    let lifted = statements c.in_ok-lifted.lifted.items in
    let literal = c.word_at.result in
    let lifting : IsLifting p.machine g.M.Machine.bank row c.args.node.now.at lifted = c.in_ok-lifted.ensures in
    let made = statements c.in_ok-list-in-Some.list.items in
    let small : literal.value < 2 ^ 32 = omega arith in
    literal_list p g.M.Machine.bank noted row c.args.node.now c.in-Some.place literal.at literal.value (endian_of literal.order) lifted
    (statements c.in_ok-trimmed.trimmed.items) made lifting kept c.in_ok-trimmed.ensures (c.in-Some.ensures n e o)
    (subst (λ (l : List Stmt). made ≡ with_literal (endian_of literal.order) literal.at literal.value (statements l)) c.deref.ensures.value
    c.in_ok-list-in-Some.ensures)
    (c.word_at.ensures.order ∙ c.args.program.now.order) c.word_at.ensures.at (c.word_at.ensures.value g.M.Machine.machine n e c.args.program.now.order) small

pub returns-in-None-clause-loads : goal.returns-in-None-clause-loads
returns-in-None-clause-loads g c = λ n e o.
    ap (λ (k : Cost). k.loads) c.cost.ensures
    ∙ sym (loads_full (program_asking g.M.Machine.machine c.args.program.now.image.now n e o) ((g.M.Machine.row c.args.insn.now).literal c.args.node.now.at)
    (g.M.Machine.row c.args.insn.now).cost.loads (sym (c.in-None.ensures n e o)))

pub returns-in_ok-list-in-Some-clause-loads : goal.returns-in_ok-list-in-Some-clause-loads
returns-in_ok-list-in-Some-clause-loads g c = λ n e o.
    sym (loads_none (program_asking g.M.Machine.machine c.args.program.now.image.now n e o) ((g.M.Machine.row c.args.insn.now).literal c.args.node.now.at) c.in-Some.place
    (g.M.Machine.row c.args.insn.now).cost.loads (sym (c.in-Some.ensures n e o)))
