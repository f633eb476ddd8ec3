use Rattle.std.proofs.Common.{arith, sym, ◌+◌, ◌<◌, ◌^◌, length, Ok, Err}
use Rattle.std.proofs.lemmas.List.Sorted.{searched}
use Rattle.refutation_checker.proofs.Occurs.{place-at, place-behind, not_among, not_descending}
use Rattle.refutation_checker.proofs.names.place.Goals as goal

pub overflow_add-result : goal.overflow_add-result
overflow_add-result c =
    let xs = c.args.names.now in
    let v = c.args.variable in
    let s = searched xs v (Err c.in-Err.field-0) c.in-Err.ensures.position (not_descending xs c.requires.rising) in
    let e = place-behind xs v (not_among xs v _ s.1 s.2) in
    let h : length xs + v < 2 ^ 64 = omega (arith, e, c.requires.small) in
    omega (arith, h)

pub returns-in-Ok : goal.returns-in-Ok
returns-in-Ok c =
    let xs = c.args.names.now in
    let v = c.args.variable in
    let s = searched xs v (Ok c.in-Ok.at) c.in-Ok.ensures.position (not_descending xs c.requires.rising) in
    sym (place-at xs c.in-Ok.at v c.requires.rising s.0 s.1)

pub returns-in-Err : goal.returns-in-Err
returns-in-Err c =
    let xs = c.args.names.now in
    let v = c.args.variable in
    let s = searched xs v (Err c.in-Err.field-0) c.in-Err.ensures.position (not_descending xs c.requires.rising) in
    sym (place-behind xs v (not_among xs v _ s.1 s.2))
