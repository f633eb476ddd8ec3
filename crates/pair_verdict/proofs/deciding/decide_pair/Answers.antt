use Rattle.links_lang.specs.Views.{links_of}
use Rattle.pair_form.specs.Views.{pair_question_of}
use Rattle.pair_verdict.proofs.SidesDecided.{answers_of}
use Rattle.pair_verdict.proofs.deciding.decide_pair.Goals as goal

pub returns : goal.returns
returns c =
    answers_of (links_of c.args.links.now) (pair_question_of c.args.kind) c.args.conflicts c.in_ok-answered.answered c.in_ok-one.one c.in_ok-two.two
    c.args.exits.now.first c.args.exits.now.second c.in_ok-one.ensures.of c.in_ok-two.ensures.of c.in_ok-answered.ensures
