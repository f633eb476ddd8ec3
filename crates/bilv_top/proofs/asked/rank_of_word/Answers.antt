use Rattle.std.proofs.Common.{arith, subst, sym, ◌<◌, ◌≤◌}
use Rattle.std.proofs.lemmas.List.{length-map}
use Rattle.answer_spec.specs.FrameAnswers.{number_word}
use Rattle.notes_value.specs.FrameViews.{contract_of}
use Rattle.bilv_top.proofs.Ranked.{no_number, rank_found, rank_missed}
use Rattle.bilv_top.proofs.asked.rank_of_word.Goals as goal

pub returns-in_default-clause-rank : goal.returns-in_default-clause-rank
returns-in_default-clause-rank c =
    no_number c.args.contracts.now (number_word c.args.word.now) c.places_are_words.ensures (rw c.in_default.is at c.in_ok-address.ensures)

pub returns-then-rank-contracts-clause-rank : goal.returns-then-rank-contracts-clause-rank
returns-then-rank-contracts-clause-rank c =
    let count = sym (length-map c.args.contracts.now contract_of) in
    rank_found c.args.contracts.now (number_word c.args.word.now) c.in-Some.address c.rank_at-rank.result (rw c.in-Some.is at c.in_ok-address.ensures)
    c.rank_at-rank.ensures.rank (subst (λ n. c.rank_at-rank.result < n) count c.if-rank-contracts.true)

pub returns-clause-rank : goal.returns-clause-rank
returns-clause-rank c =
    let count = sym (length-map c.args.contracts.now contract_of) in
    let over = c.if-rank-contracts.false in
    rank_missed c.args.contracts.now (number_word c.args.word.now) c.in-Some.address c.rank_at-rank.result (rw c.in-Some.is at c.in_ok-address.ensures)
    c.rank_at-rank.ensures.rank (subst (λ n. n ≤ c.rank_at-rank.result) count (omega (arith, over)))
