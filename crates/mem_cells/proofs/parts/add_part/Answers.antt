use Rattle.std.proofs.Common.{◌≡◌, ◌<◌, ap, sym, ◌∙◌, length, get_or, arith}
use Rattle.std.proofs.lemmas.Bool.Decides.{nat_tests}
use Rattle.mem_cells.specs.Parts.{and_part}
use Rattle.mem_cells.proofs.PartReads.{put_here, put_last, put_on, put_same}
use Rattle.mem_cells.proofs.parts.add_part.Goals as goal

pub loop-place-preserved : goal.loop-place-preserved
loop-place-preserved c =
    let v = c.loop-place.invariant in
    let one = c.index-one.result.now in
    let l : c.loop-place.place < length c.loop-place.parts.items = omega (arith, ap length v.same, c.len-place-end.ensures, c.loop-place-test.true) in
    let is : one ≡ get_or c.loop-place.parts.items c.loop-place.place one = c.index-one.ensures in
    let more : one < c.args.part = (let h = c.if-part-one-2.false in let k = c.if-part-one.false in grind (arith, nat_tests)) in
    record {
      same = v.same;
      rest = sym (put_on c.loop-place.parts.items c.args.part c.loop-place.place one l (omega (arith, is, more))) ∙ v.rest;
    }

pub returns-then-part-one : goal.returns-then-part-one
returns-then-part-one c =
    let v = c.loop-place.invariant in
    let one = c.index-one.result.now in
    let l : c.loop-place.place < length c.loop-place.parts.items = omega (arith, ap length v.same, c.len-place-end.ensures, c.loop-place-test.true) in
    let is : one ≡ get_or c.loop-place.parts.items c.loop-place.place one = c.index-one.ensures in
    c.in_ok-insert.ensures.items
    ∙ put_here c.loop-place.parts.items c.args.part c.loop-place.place one l (omega (arith, is, c.if-part-one.true))
    ∙ v.rest ∙ ap (λ z. and_part z c.args.part) v.same

pub returns-then-part-one-2 : goal.returns-then-part-one-2
returns-then-part-one-2 c =
    let v = c.loop-place.invariant in
    let one = c.index-one.result.now in
    let l : c.loop-place.place < length c.loop-place.parts.items = omega (arith, ap length v.same, c.len-place-end.ensures, c.loop-place-test.true) in
    let is : one ≡ get_or c.loop-place.parts.items c.loop-place.place one = c.index-one.ensures in
    let e : c.args.part ≡ one = (let h = c.if-part-one-2.true in grind (arith, nat_tests)) in
    put_same c.loop-place.parts.items c.args.part c.loop-place.place one l (e ∙ is)
    ∙ v.rest ∙ ap (λ z. and_part z c.args.part) v.same

pub returns : goal.returns
returns c =
    let v = c.loop-place.invariant in
    c.in_ok-push.ensures.items
    ∙ put_last c.loop-place.parts.items c.args.part c.loop-place.place (omega (arith, ap length v.same, c.len-place-end.ensures, c.loop-place-test.false))
    ∙ v.rest ∙ ap (λ z. and_part z c.args.part) v.same
