-- The clauses that numbers were gathered in are those that the numbers are.
use Rattle.std.proofs.Common.{◌≡◌, Bool, true, false, not, ◌&&◌, List, [], ◌∷◌, ◌++◌, refl, arith, sym, ap, ◌∙◌, length, append_assoc, map}
use Rattle.std.specs.Prelude.{◌==◌, nat_le}
use Rattle.std.specs.List.{list_all}
use Rattle.std.proofs.lemmas.Bool.{eqb-true, and_parts}
use Rattle.std.proofs.lemmas.Bool.Decides.{nat_tests}
use Rattle.clause_spec.specs.Clauses.{Literal, Clause}
use Rattle.clause_spec.specs.CertificateGrammar.{Integer, Header, is_zero, is_ended, literal_of, clauses_in, is_counted}
use Rattle.clause_spec.proofs.PrintedWords.{parts_cut}
use Rattle.clause_spec.proofs.PrintedLogs.{no_zero, map_back}
use Rattle.cnf_form.specs.Gathers.{number_of, end_number, numbers_from, is_nonzero, are_nonzero}
use Rattle.cnf_form.proofs.Splits.{ended-behind}

twice : (b : Bool) → not (not b) ≡ b
twice true = refl
twice false = refl

back : (l : Literal) → literal_of (number_of l) ≡ l
back l = ap (λ b. record { variable = l.variable; positive = b }) (twice l.positive)

plain : (n : Integer) → n.size ≡ 0 → n.negative ≡ false → n ≡ end_number
plain n e f = ap (λ k. record { negative = n.negative; size = k }) e ∙ ap (λ b. record { negative = b; size = 0 }) f

mapped : (c : Clause) (l : Literal) → map number_of (c ++ l ∷ []) ≡ map number_of c ++ number_of l ∷ []
mapped [] l = refl
mapped (x ∷ c) l = ap (λ (ns : List Integer). number_of x ∷ ns) (mapped c l)

in-front : (x : Clause) (ns ms : List Integer) (n : Integer) → ms ≡ ns ++ n ∷ [] →
    map number_of x ++ end_number ∷ ms ≡ (map number_of x ++ end_number ∷ ns) ++ n ∷ []
in-front x ns ms n e = ap (λ (is : List Integer). map number_of x ++ end_number ∷ is) e ∙ sym (append_assoc (map number_of x) (end_number ∷ ns) (n ∷ []))

end-clause : (cs : List Clause) (c : Clause) → numbers_from (cs ++ c ∷ []) [] ≡ numbers_from cs c ++ end_number ∷ []
end-clause [] c = refl
end-clause (x ∷ cs) c = in-front x (numbers_from cs c) (numbers_from (cs ++ c ∷ []) []) end_number (end-clause cs c)

one-more : (cs : List Clause) (c : Clause) (l : Literal) → numbers_from cs (c ++ l ∷ []) ≡ numbers_from cs c ++ number_of l ∷ []
one-more [] c l = mapped c l
one-more (x ∷ cs) c l = in-front x (numbers_from cs c) (numbers_from cs (c ++ l ∷ [])) (number_of l) (one-more cs c l)

-- a 0 ends a clause
pub ended-now : (cs ds : List Clause) (c d e : Clause) (now : List Integer) (n : Integer) → ds ≡ cs ++ d ∷ [] → d ≡ c → e ≡ [] → now ≡ numbers_from cs c →
    is_zero n ≡ true → (n.size ≡ 0 → n.negative ≡ false) → numbers_from ds e ≡ now ++ n ∷ []
ended-now cs ds c d e now n is same empty view zero sign =
    let z = eqb-true n.size 0 zero in
    ap (λ (x : List Clause). numbers_from x e) is ∙ ap (λ (x : Clause). numbers_from (cs ++ d ∷ []) x) empty ∙ end-clause cs d
    ∙ ap (λ (x : Clause). numbers_from cs x ++ end_number ∷ []) same ∙ ap (λ (x : List Integer). x ++ end_number ∷ []) (sym view)
    ∙ ap (λ (x : Integer). now ++ x ∷ []) (sym (plain n z (sign z)))

-- another number is a literal
pub one-more-now : (cs : List Clause) (c d : Clause) (l : Literal) (now : List Integer) (n : Integer) → d ≡ c ++ l ∷ [] → now ≡ numbers_from cs c →
    l.variable ≡ n.size → l.positive ≡ not n.negative → numbers_from cs d ≡ now ++ n ∷ []
one-more-now cs c d l now n is view variable positive =
    ap (numbers_from cs) is ∙ one-more cs c l ∙ ap (λ (x : List Integer). x ++ number_of l ∷ []) (sym view) ∙ ap (λ (x : Integer). now ++ x ∷ []) number where
      number : number_of l ≡ n
      number =
          ap (λ k. record { negative = not l.positive; size = k }) variable
          ∙ ap (λ b. record { negative = b; size = n.size }) (ap not positive ∙ twice n.negative)

ended-none : (cs : List Clause) → is_ended (numbers_from cs []) ≡ true
ended-none [] = refl
ended-none (x ∷ cs) = ended-behind (map number_of x) end_number (numbers_from cs []) refl ∙ ended-none cs

not-zero : (l : Literal) → nat_le 1 l.variable ≡ true → is_zero (number_of l) ≡ false
not-zero l h = grind (arith, nat_tests, h)

not-ended : (l : Literal) (ls : Clause) → is_nonzero (l ∷ ls) ≡ true → is_ended (map number_of (l ∷ ls)) ≡ false
not-ended l [] h = not-zero l (and_parts (nat_le 1 l.variable) true h).0
not-ended l (m ∷ ls) h = not-ended m ls (and_parts (nat_le 1 l.variable) (is_nonzero (m ∷ ls)) h).1

ended-some : (cs : List Clause) (l : Literal) (ls : Clause) → is_nonzero (l ∷ ls) ≡ true → is_ended (numbers_from cs (l ∷ ls)) ≡ false
ended-some [] l ls h = not-ended l ls h
ended-some (x ∷ cs) l ls h = ended-behind (map number_of x) end_number (numbers_from cs (l ∷ ls)) refl ∙ ended-some cs l ls h

clauses-are : (cs : List Clause) → list_all is_nonzero cs ≡ true → clauses_in (numbers_from cs []) ≡ cs
clauses-are [] h = refl
clauses-are (c ∷ cs) h =
    let g = and_parts (is_nonzero c) (list_all is_nonzero cs) h in
    ap (map (map literal_of)) (parts_cut is_zero (map number_of c) end_number (numbers_from cs []) (no_zero number_of
    (λ l. nat_le 1 l.variable) not-zero c g.0) refl)
    ∙ ap (λ (d : Clause). d ∷ clauses_in (numbers_from cs [])) (map_back number_of literal_of back c)
    ∙ ap (λ (ds : List Clause). c ∷ ds) (clauses-are cs g.1)

module _ (cs : List Clause) (now : List Integer) (h : Header) where
  -- all are ended
  pub counted-ended : (c : Clause) → now ≡ numbers_from cs c → are_nonzero cs c ≡ true → (length c == 0) ≡ true → (length cs == h.clauses) ≡ is_counted h now
  counted-ended [] view is e =
      let g = and_parts (list_all is_nonzero cs) true is in
      sym (ap (is_counted h) view ∙ ap (λ b. b && (length (clauses_in (numbers_from cs [])) == h.clauses)) (ended-none cs)
      ∙ ap (λ (x : List Clause). length x == h.clauses) (clauses-are cs g.0))
  counted-ended (l ∷ ls) view is e = let z = eqb-true (length (l ∷ ls)) 0 e in absurd (omega arith)

  -- the last is not ended
  pub counted-unended : (c : Clause) → now ≡ numbers_from cs c → are_nonzero cs c ≡ true → (length c == 0) ≡ false → false ≡ is_counted h now
  counted-unended [] view is e = cc
  counted-unended (l ∷ ls) view is e =
      let g = and_parts (list_all is_nonzero cs) (is_nonzero (l ∷ ls)) is in
      sym (ap (is_counted h) view ∙ ap (λ b. b && (length (clauses_in (numbers_from cs (l ∷ ls))) == h.clauses)) (ended-some cs l ls g.1))

pub clauses-now : (cs : List Clause) (c : Clause) (now : List Integer) → now ≡ numbers_from cs c → are_nonzero cs c ≡ true → is_ended now ≡ true →
    cs ≡ clauses_in now
clauses-now cs [] now view is e = sym (ap clauses_in view ∙ clauses-are cs (and_parts (list_all is_nonzero cs) true is).0)
clauses-now cs (l ∷ ls) now view is e =
    let g = and_parts (list_all is_nonzero cs) (is_nonzero (l ∷ ls)) is in
    let f : true ≡ false = sym e ∙ ap is_ended view ∙ ended-some cs l ls g.1 in absurd (cc)
