-- The lists of numbers of a line: too few, too many, or not listed.
use Rattle.std.proofs.Common.{◌≡◌, ℕ, Bool, true, false, not, ◌&&◌, List, [], ◌∷◌, refl, arith, sym, ap, ◌∙◌, map, length, inl, inr}
use Rattle.std.specs.Prelude.{◌==◌, nat_le}
use Rattle.std.specs.List.{list_all}
use Rattle.std.proofs.lemmas.Bool.{and_parts, cases_Bool, both_ways, ne_eqb}
use Rattle.clause_spec.specs.Clauses.{Literal}
use Rattle.clause_spec.specs.Refutation.{LogLine, Add, Bad, is_of_grammar, is_listed, greatest_number}
use Rattle.clause_spec.specs.CertificateGrammar.{Integer, parts, before_first, is_zero, is_ended, added_by, deleted_by, literal_of, hint_of}
use Rattle.clause_spec.proofs.PrintedWords.{parts_last}
use Rattle.refutation_checker.specs.Readings.{read_as}

abbrev nonzero : Integer → Bool
nonzero n = not (is_zero n)

none-added : (id : ℕ) (b : Bool) → Bad ≡ added_by id b []
none-added id true = refl
none-added id false = refl

one-added : (id : ℕ) (b : Bool) (a : List Integer) → Bad ≡ added_by id b (a ∷ [])
one-added id true a = refl
one-added id false a = refl

many-added : (id : ℕ) (b : Bool) (a c p : List Integer) (ps : List (List Integer)) → Bad ≡ added_by id b (a ∷ c ∷ p ∷ ps)
many-added id true a c p ps = refl
many-added id false a c p ps = refl

none-deleted : (id : ℕ) (b : Bool) → Bad ≡ deleted_by id b []
none-deleted id true = refl
none-deleted id false = refl

many-deleted : (id : ℕ) (b : Bool) (a p : List Integer) (ps : List (List Integer)) → Bad ≡ deleted_by id b (a ∷ p ∷ ps)
many-deleted id true a p ps = refl
many-deleted id false a p ps = refl

not-ended : (n : Integer) (ns : List Integer) → list_all nonzero (n ∷ ns) ≡ true → is_ended (n ∷ ns) ≡ false
not-ended n [] h = let g = and_parts (nonzero n) true h in grind (arith, g.0)
not-ended n (m ∷ ns) h = not-ended m ns (and_parts (nonzero n) (list_all nonzero (m ∷ ns)) h).1

-- no 0
pub without-zero : (id : ℕ) (b : Bool) (ns : List Integer) → list_all nonzero ns ≡ true → Bad ≡ added_by id b (parts is_zero ns)
without-zero id b [] h = none-added id b
without-zero id b (n ∷ ns) h = one-added id b (n ∷ ns) ∙ ap (added_by id b) (sym (parts_last is_zero n ns h))

-- one 0
pub with-one-zero : (id : ℕ) (ns a r : List Integer) → parts is_zero ns ≡ a ∷ parts is_zero r → is_ended ns ≡ is_ended r → list_all nonzero r ≡ true →
    Bad ≡ added_by id (is_ended ns) (parts is_zero ns)
with-one-zero id ns a [] p e h = one-added id (is_ended ns) a ∙ ap (added_by id (is_ended ns)) (sym p)
with-one-zero id ns a (n ∷ r) p e h =
    let f : is_ended ns ≡ false = e ∙ not-ended n r h in
    bad-false (a ∷ parts is_zero (n ∷ r)) ∙ ap (λ b. added_by id b (a ∷ parts is_zero (n ∷ r))) (sym f) ∙ ap (added_by id (is_ended ns)) (sym p) where
      bad-false : (ps : List (List Integer)) → Bad ≡ added_by id false ps
      bad-false ps = refl

some-parts : {B : Type 0} (x : Integer) (xs : List Integer) (P : List (List Integer) → B) (y : B) →
    ((p : List Integer) (ps : List (List Integer)) → y ≡ P (p ∷ ps)) → y ≡ P (parts is_zero (x ∷ xs))
some-parts x xs P y f = elim (cases_Bool (is_zero x)) [
  | inl a ↦ f [] (parts is_zero xs) ∙ ap P (sym (rw a refl))
  | inr a ↦ first (parts is_zero xs) ∙ ap P (sym (rw a refl))
] where
  first : (ps : List (List Integer)) → y ≡ P (before_first x ps)
  first [] = f (x ∷ []) []
  first (p ∷ ps) = f (x ∷ p) ps

-- something behind the second 0
pub with-more : (id : ℕ) (b : Bool) (ns a r c q : List Integer) → parts is_zero ns ≡ a ∷ parts is_zero r → parts is_zero r ≡ c ∷ parts is_zero q →
    (length q == 0) ≡ false →
    Bad ≡ added_by id b (parts is_zero ns)
with-more id b ns a r c [] p s n = cc
with-more id b ns a r c (x ∷ q) p s n =
    some-parts x q (λ ps. added_by id b (a ∷ c ∷ ps)) Bad (λ t ts. many-added id b a c t ts)
    ∙ ap (λ (ps : List (List Integer)). added_by id b (a ∷ ps)) (sym s) ∙ ap (added_by id b) (sym p)

pub deleted-without-zero : (id : ℕ) (b : Bool) (ns : List Integer) → list_all nonzero ns ≡ true → Bad ≡ deleted_by id (is_ended ns && b) (parts is_zero ns)
deleted-without-zero id b [] h = none-deleted id b
deleted-without-zero id b (n ∷ ns) h = bad-false (parts is_zero (n ∷ ns)) ∙ ap (λ e. deleted_by id (e &&
    b) (parts is_zero (n ∷ ns))) (sym (not-ended n ns h)) where
      bad-false : (ps : List (List Integer)) → Bad ≡ deleted_by id false ps
      bad-false ps = refl

pub deleted-with-more : (id : ℕ) (b : Bool) (ns a q : List Integer) → parts is_zero ns ≡ a ∷ parts is_zero q → (length q == 0) ≡ false →
    Bad ≡ deleted_by id b (parts is_zero ns)
deleted-with-more id b ns a [] p n = cc
deleted-with-more id b ns a (x ∷ q) p n =
    some-parts x q (λ ps. deleted_by id b (a ∷ ps)) Bad (λ t ts. many-deleted id b a t ts) ∙ ap (deleted_by id b) (sym p)

listed-literals : (ns : List Integer) → list_all (λ (l : Literal). is_listed l.variable) (map literal_of ns) ≡ list_all (λ (n : Integer). is_listed n.size) ns
listed-literals [] = refl
listed-literals (n ∷ ns) = ap (λ b. is_listed n.size && b) (listed-literals ns)

not-listed : (b c d : Bool) → c ≡ false → (b && c && d) ≡ false
not-listed true c d h = rw h refl
not-listed false c d h = refl

bad-of : (l : LogLine) → is_of_grammar l ≡ false → Bad ≡ read_as l
bad-of l h = rw h refl

-- a number that is no literal
pub with-unlisted : (id : ℕ) (ns a r c q : List Integer) → parts is_zero ns ≡ a ∷ parts is_zero r → is_ended ns ≡ is_ended r →
    parts is_zero r ≡ c ∷ parts is_zero q → is_ended r ≡ is_ended q →
    (length q == 0) ≡ true → list_all (λ (n : Integer). is_listed n.size) a ≡ false → Bad ≡ read_as (added_by id (is_ended ns) (parts is_zero ns))
with-unlisted id ns a r c [] p e s f n u =
    bad-of (Add id (map literal_of a) (map hint_of c)) (not-listed (nat_le id greatest_number) (list_all
    (λ (l : Literal). is_listed l.variable) (map literal_of a)) _ (listed-literals a ∙ u))
    ∙ ap (λ b. read_as (added_by id b (a ∷ c ∷ []))) (sym (e ∙ f)) ∙ ap
    (λ (ps : List (List Integer)). read_as (added_by id (is_ended ns) ps)) (sym (p ∙ ap (λ (ps : List (List Integer)). a ∷ ps) s))
with-unlisted id ns a r c (x ∷ q) p e s f n u = absurd (both_ways (length (x ∷ q) == 0) (ne_eqb (length (x ∷ q)) 0 (λ z. omega (arith, z))) n)
