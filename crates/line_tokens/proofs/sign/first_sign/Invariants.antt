use Rattle.std.proofs.Common.{◌≡◌, drop, map}
use Rattle.std.specs.Prelude.{find}
use Rattle.word_spec.specs.Tokens.{begins_sign}
use Rattle.line_tokens.specs.Tokens.{sign_text}
use Rattle.line_tokens.proofs.sign.first_sign.Given as goal

abbrev pub invariant-loop-sign : goal.invariant-loop-sign
invariant-loop-sign l =
    find (begins_sign l.text) (map sign_text l.signs) ≡ find (begins_sign l.text) (map sign_text (drop l.sign-index l.signs))
