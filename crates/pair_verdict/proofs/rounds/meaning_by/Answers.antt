use Rattle.std.proofs.Common.{refl}
use Rattle.pair_verdict.proofs.Meant.{formed_by, meant_by, one_by}
use Rattle.pair_verdict.proofs.rounds.meaning_by.Goals as goal

pub meaning_of-requires-clause-formed : goal.meaning_of-requires-clause-formed
meaning_of-requires-clause-formed c = formed_by c.args.celled c.args.values.now c.args.passive.now c.requires.values c.requires.of

pub meaning_of-requires-clause-askable : goal.meaning_of-requires-clause-askable
meaning_of-requires-clause-askable c = c.requires.values.decidable.frame

pub meaning_of-requires-clause-one : goal.meaning_of-requires-clause-one
meaning_of-requires-clause-one c = one_by c.args.celled c.args.values.now c.args.passive.now c.requires.values c.requires.of

pub returns : goal.returns
returns c =
    meant_by c.args.celled c.args.values.now c.args.passive.now c.requires.values c.requires.of c.in_ok-meaning.meaning _ c.in_ok-meaning.ensures refl refl refl
