use Rattle.question_form.specs.Views.{unrolled_of}
use Rattle.weakest_pre.proofs.Told.{tied_made}
use Rattle.weakest_pre.proofs.tied.Goals as goal

pub returns : goal.returns
returns c =
    tied_made (unrolled_of c.args.passive.now.unrolled.now) _ _ _ _ _ _ _ _ _ c.requires.entry c.in_ok-facts.ensures c.requires.end c.in_ok-end.ensures
    c.in_ok-bit.ensures
