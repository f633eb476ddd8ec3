use Rattle.std.proofs.Common.{[], ◌∷◌, subst, sym, arith}
use Rattle.links_lang.specs.declared.links.Named.{Named}
use Rattle.term_names.specs.Views.{form_of, names_of}
use Rattle.pair_terms.specs.declared.words.Part.TheVariants.{Word}
use Rattle.pair_terms.specs.Words.{AreWordTerms, IsNamedIn, part_widths, part_words}
use Rattle.pair_terms.proofs.WordTerms.{zero_word, register_word, flag_word}
use Rattle.pair_terms.proofs.words.named_term.Goals as goal

pub returns-in_ok-term-in-Zero : goal.returns-in_ok-term-in-Zero
returns-in_ok-term-in-Zero c =
    rw c.in-Zero.is (zero_word _ _ (form_of c.args.names.now) (names_of c.args.names.now) c.in_ok-term-in-Zero.term c.in_ok-term-in-Zero.ensures)

pub index-requires : goal.index-requires
index-requires c =
    let n = c.args.names.now in
    let h = subst (IsNamedIn n) c.in-Register.is c.requires.named in omega (arith, h.0, h.1, n.registers.ok.0)

pub returns-in-Register : goal.returns-in-Register
returns-in-Register c =
    let n = c.args.names.now in
    let dag = c.args.dag.now in
    subst (λ (z : Named). AreWordTerms dag dag (form_of n) (names_of n) (part_widths (Word z)) (part_words (Word z)) (c.index.result.now.0 ∷ []) 0 1)
    (sym c.in-Register.is)
    (register_word dag n c.in-Register.register c.index.result.now c.nodes-typed.ensures.typed c.requires.names (subst (IsNamedIn n) c.in-Register.is c.requires.named)
    c.index.ensures)

pub index-requires-in-Flag : goal.index-requires-in-Flag
index-requires-in-Flag c =
    let n = c.args.names.now in
    let h = subst (IsNamedIn n) c.in-Flag.is c.requires.named in omega (arith, h, n.flags.ok.0)

pub returns-in-Flag : goal.returns-in-Flag
returns-in-Flag c =
    let n = c.args.names.now in
    let dag = c.args.dag.now in
    subst (λ (z : Named). AreWordTerms dag dag (form_of n) (names_of n) (part_widths (Word z)) (part_words (Word z)) (c.index-in-Flag.result.now.0 ∷ []) 0 1)
    (sym c.in-Flag.is)
    (flag_word dag n c.in-Flag.flag c.index-in-Flag.result.now c.nodes-typed.ensures.typed c.requires.names (subst (IsNamedIn n) c.in-Flag.is c.requires.named)
    c.index-in-Flag.ensures)
