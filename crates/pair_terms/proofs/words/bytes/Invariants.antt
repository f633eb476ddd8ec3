use Rattle.term_names.specs.Views.{form_of, names_of}
use Rattle.pair_terms.proofs.WordTerms.{AreByteTerms}
use Rattle.pair_terms.proofs.words.bytes.Given as goal

abbrev pub invariant-loop-i : goal.invariant-loop-i
invariant-loop-i l = AreByteTerms l.fn.dag l.dag (form_of l.names) (names_of l.names) l.low l.i l.terms.items
