use Rattle.std.proofs.Common.{◌≡◌, ap, sym, ◌∙◌, arith, Some, None, ◌<◌, ◌^◌}
use Rattle.machine_spec.specs.Machine.{Row, Cost}
use Rattle.bilv_spec.specs.Run.{Program}
use Rattle.unroller.specs.Asking.{program_asking}
use Rattle.unroller.proofs.codes.code_at.Goals as goal
use Rattle.unroller.proofs.Coded.{word_row, lifted_code}

some_same : (r s : Row) → Some r ≡ Some s → r ≡ s
some_same r s e = cc

pub returns-in-None-decode-clause-row : goal.returns-in-None-decode-clause-row
returns-in-None-decode-clause-row g c = λ notes entry out noted is kept.
    let p : Program = program_asking g.M.Machine.machine c.args.program.now.image.now notes entry out in
    let q = word_row p c.args.node.now c.in-Some.word is c.in-Some.is in
    let never : None ≡ Some q.0 = c.in-None-decode.ensures ∙ q.2 in
    absurd (cc)

pub returns-clause-row : goal.returns-clause-row
returns-clause-row g c = λ notes entry out noted is kept.
    let p : Program = program_asking g.M.Machine.machine c.args.program.now.image.now notes entry out in
    let n = c.args.node.now in
    let r = g.M.Machine.row c.in-Some-decode.insn in
    let w = c.in-Some.word in
    let q = word_row p n w is c.in-Some.is in
    let same = some_same r q.0 (c.in-Some-decode.ensures ∙ q.2) in
    let low : w < 2 ^ 32 = omega arith in
    lifted_code p g.M.Machine.bank noted n r c.in_ok-listed.listed.list c.draws.result c.cost-cost.result.row c.in_ok-listed.listed.loads c.cost-cost.result.stores
    c.args.asserts is (q.1 ∙ ap (λ (x : Row). Some x) (sym same)) (g.met.M.Machine.lawful.rows w r low (sym c.in-Some-decode.ensures))
    (c.in_ok-listed.ensures.list notes entry out noted kept) c.draws.ensures (ap (λ (k : Cost). k.row) c.cost-cost.ensures)
    (c.in_ok-listed.ensures.loads notes entry out)
    (ap (λ (k : Cost). k.stores) c.cost-cost.ensures)
