use Rattle.std.proofs.Common.{◌≡◌, ◌==◌, ◌<◌, subst, length, get_or, false}
use Rattle.std.specs.List.{list_any}
use Rattle.notes_value.specs.declared.notes.Contract.{Contract}
use Rattle.notes_lang.proofs.Contracted.{put_back, put_last}
use Rattle.notes_lang.proofs.contracts.join.Goals as goal

pub returns-in_ok-add-in-Some : goal.returns-in_ok-add-in-Some
returns-in_ok-add-in-Some c says number p =
    let f = subst (λ cs. (c.in-Some.place < length cs) × ((d : Contract) → (get_or cs c.in-Some.place d).at ≡ c.args.at)) c.deref.ensures.value
    c.in-Some.ensures.found in
    put_back says c.args.at c.args.told c.args.line number c.args.contracts.now.items c.in-Some.place c.index_mut.result.now _ f.0 f.1
    c.index_mut.ensures.value c.in_ok-add-in-Some.ensures.same p (c.in_ok-add-in-Some.ensures.added says number)

pub returns-in_ok-push-in-None : goal.returns-in_ok-push-in-None
returns-in_ok-push-in-None c says number p =
    put_last says c.args.at c.args.told c.args.line number c.args.contracts.now.items _ c.empty-contract.result _
    (subst (λ cs. list_any (λ (x : Contract). x.at == c.args.at) cs ≡ false) c.deref.ensures.value c.in-None.ensures.none) c.empty-contract.ensures.same
    (c.empty-contract.ensures.none says) c.in_ok-add-in-None.ensures.same (c.in_ok-add-in-None.ensures.added says number) p
    c.in_ok-push-in-None.ensures.items
