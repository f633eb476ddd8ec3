use Rattle.std.proofs.Common.{◌≡◌, ◌++◌, ◌∷◌, [], List, ℕ, map, sym, ◌∙◌, ap, append_assoc}
use Rattle.word_spec.specs.Texts.{number_text, joined}
use Rattle.clause_spec.specs.Certificates.{literal_text, hint_text, to_zero, log_line}
use Rattle.cnf_form.specs.Views.{hint_of, line_of}
use Rattle.cnf_form.proofs.Ended.{added-line}
use Rattle.refutation_checker.proofs.print.print_line.Goals as goal

written : (o n l h w1 w2 w3 w4 w5 : List ℕ) → w1 ≡ o ++ n → w2 ≡ w1 ++ 32 ∷ [] → w3 ≡ w2 ++ l → w4 ≡ w3 ++ 32 ∷ [] → w5 ≡ w4 ++ h →
    w5 ≡ o ++ (n ++ (32 ∷ l ++ 32 ∷ h))
written o n l h w1 w2 w3 w4 w5 a b c d e = rw (e, d, c, b, a) (simp append_assoc)

pub returns-in_ok-print_hints-in-Add : goal.returns-in_ok-print_hints-in-Add
returns-in_ok-print_hints-in-Add c =
    let n = number_text c.in-Add.id in
    let ls = map literal_text c.in-Add.clause in
    let hs = map hint_text (map hint_of c.in-Add.hints.items) in
    written c.args.out.now.items n (joined (to_zero ls)) (joined
    (to_zero hs)) c.print_number.new.out.items c.extend_from_slice.new.self.items c.print_literals.new.out.items
    c.extend_from_slice-in-Add.new.self.items c.print_hints.new.out.items c.in_ok-print_number-in-Add.ensures c.in_ok-extend_from_slice-in-Add.ensures.items
    (rw c.lits.ensures at c.in_ok-print_literals-in-Add.ensures) c.in_ok-extend_from_slice-in-Add-2.ensures.items
    (rw c.deref.ensures.value at c.in_ok-print_hints-in-Add.ensures)
    ∙ ap (λ (t : List ℕ). c.args.out.now.items ++ t) (sym (added-line n ls hs)) ∙ ap (λ l. c.args.out.now.items ++ log_line (line_of l)) (sym c.in-Add.is)
