-- The terms of locals, of which the last counts.
use Rattle.std.proofs.Common.{◌≡◌, ℕ, suc, ◌<◌, ◌≤◌, Bool, true, false, List, [], ◌∷◌, ◌++◌, length, get_or, take, refl, sym, ap, ◌∙◌, subst, arith}
use Rattle.std.specs.Prelude.{◌==◌, ◌&&◌, ◌||◌, if◌then◌else◌, Contains}
use Rattle.std.proofs.Math.Seq.{take-suc}
use Rattle.std.proofs.lemmas.Bool.{eqb-true, false≢true}
use Rattle.std.proofs.lemmas.List.Elements.{Contains-get_or}
use Rattle.machine_spec.proofs.BilSound.{both}
use Rattle.machine_spec.specs.Bil.{BilVariable, Local}
use Rattle.machine_spec.specs.BilCounts.{is_local}
use Rattle.machine_spec.specs.BilMeaning.{Value, Word, Stuck, put_local}
use Rattle.term_spec.specs.Terms.{TermReading, TermNode, HasWidth, IsWidth, term_word}
use Rattle.walk_spec.specs.Unrolling.{is_variable_of}
use Rattle.term_names.specs.Views.{form_of}
use Rattle.term_names.specs.declared.names.Names.{Names}
use Rattle.bil_terms.specs.declared.variables.LocalTerm.{LocalTerm}
use Rattle.bil_terms.specs.Naming.{known, known_after, values, values_after, AreLocals, IsLocalTerm}

-- the values with one term more
values_more : (nodes : List TermNode) (x : TermReading) (f : ℕ → ℕ → Value) (ls : List LocalTerm) (l : LocalTerm) →
    values_after nodes x f (ls ++ l ∷ []) ≡ put_local l.number l.width (term_word x nodes l.term.0) (values_after nodes x f ls)
values_more nodes x f [] l = refl
values_more nodes x f (k ∷ ls) l = values_more nodes x (put_local k.number k.width (term_word x nodes k.term.0) f) ls l

pub values_push : (nodes : List TermNode) (x : TermReading) (ls : List LocalTerm) (l : LocalTerm) →
    values nodes x (ls ++ l ∷ []) ≡ put_local l.number l.width (term_word x nodes l.term.0) (values nodes x ls)
values_push nodes x ls l = values_more nodes x (λ y n. Stuck) ls l

-- the known variables with one term more
known_more : (k : BilVariable → Bool) (ls : List LocalTerm) (l : LocalTerm) →
    known_after k (ls ++ l ∷ []) ≡ (λ y. is_local l.number l.width y || known_after k ls y)
known_more k [] l = refl
known_more k (x ∷ ls) l = known_more (λ y. is_local x.number x.width y || k y) ls l

pub known_push : (n : Names) (ls : List LocalTerm) (l : LocalTerm) → known n (ls ++ l ∷ []) ≡ (λ y. is_local l.number l.width y || known n ls y)
known_push n ls l = known_more (is_variable_of (form_of n)) ls l

-- a local where there is none
abbrev pub no_local : LocalTerm
no_local = record { number = 0; width = 0; term = record { 0 = 0 } }

last_value : (nodes : List TermNode) (x : TermReading) (ls : List LocalTerm) (i : ℕ) (y n : ℕ) → i < length ls →
    values nodes x (take (suc i) ls) y n
    ≡ (if (y == (get_or ls i no_local).number) && (n == (get_or ls i no_local).width)
    then Word (get_or ls i no_local).width (term_word x nodes (get_or ls i no_local).term.0)
    else values nodes x (take i ls) y n)
last_value nodes x ls i y n h =
    ap (λ z. values nodes x z y n) (take-suc ls i no_local h) ∙ ap (λ (f : ℕ → ℕ → Value). f y n) (values_push nodes x (take i ls) (get_or ls i no_local))

last_known : (m : Names) (ls : List LocalTerm) (i : ℕ) (y n : ℕ) → i < length ls →
    known m (take (suc i) ls) (Local y n)
    ≡ (((y == (get_or ls i no_local).number) && (n == (get_or ls i no_local).width)) || known m (take i ls) (Local y n))
last_known m ls i y n h =
    ap (λ z. known m z (Local y n)) (take-suc ls i no_local h) ∙ ap (λ (f : BilVariable →
    Bool). f (Local y n)) (known_push m (take i ls) (get_or ls i no_local))

-- what the search knows of the terms before a place
pub record IsBefore (nodes : List TermNode) (m : Names) (ls : List LocalTerm) (y n i : ℕ) : Type 0 where
  pub within : i ≤ length ls
  pub value : (x : TermReading) → values nodes x (take i ls) y n ≡ values nodes x ls y n
  pub known : known m (take i ls) (Local y n) ≡ true

pub hit : (nodes : List TermNode) (m : Names) (ls : List LocalTerm) (i j : ℕ) (l : LocalTerm) (y n : ℕ) → IsBefore nodes m ls y n i → i ≡ suc j →
    l ≡ get_or ls j no_local →
    ((y == l.number) && (n == l.width)) ≡ true → AreLocals nodes ls → IsLocalTerm nodes ls y n l.term.0
hit nodes m ls i j l y n b k e t f =
    let h : j < length ls = omega (arith, b.within) in
    let w : n ≡ l.width = eqb-true n l.width (both (y == l.number) (n == l.width) t).1 in
    let p = f l (subst (λ (z : LocalTerm). Contains ls z) (sym e) (Contains-get_or ls j no_local h)) in
    let v : (x : TermReading) → values nodes x (take (suc j) ls) y n ≡ Word l.width (term_word x nodes l.term.0) =
    λ x. last_value nodes x ls j y n h
    ∙ ap (λ (z : LocalTerm). if (y == z.number) && (n == z.width) then Word z.width (term_word x nodes z.term.0) else values nodes x (take j ls) y n) (sym e)
    ∙ ap (λ (z : Bool). if z then Word l.width (term_word x nodes l.term.0) else values nodes x (take j ls) y n) t in record {
      wide = subst IsWidth (sym w) p.0;
      at = subst (λ (z : ℕ). HasWidth nodes z l.term.0) (sym w) p.1;
      value = λ x. sym (ap (λ z. values nodes x (take z ls) y n) (sym k) ∙ b.value x) ∙ v x ∙ ap (λ z. Word z (term_word x nodes l.term.0)) (sym w);
    }

pub miss : (nodes : List TermNode) (m : Names) (ls : List LocalTerm) (i j : ℕ) (l : LocalTerm) (y n : ℕ) → IsBefore nodes m ls y n i → i ≡ suc j →
    l ≡ get_or ls j no_local →
    ((y == l.number) && (n == l.width)) ≡ false → IsBefore nodes m ls y n j
miss nodes m ls i j l y n b k e t =
    let h : j < length ls = omega (arith, b.within) in
    let v : (x : TermReading) → values nodes x (take (suc j) ls) y n ≡ values nodes x (take j ls) y n =
    λ x. last_value nodes x ls j y n h
    ∙ ap (λ (z : LocalTerm). if (y == z.number) && (n == z.width) then Word z.width (term_word x nodes z.term.0) else values nodes x (take j ls) y n) (sym e)
    ∙ ap (λ (z : Bool). if z then Word l.width (term_word x nodes l.term.0) else values nodes x (take j ls) y n) t in
    let q : known m (take (suc j) ls) (Local y n) ≡ known m (take j ls) (Local y n) =
    last_known m ls j y n h
    ∙ ap (λ (z : LocalTerm). ((y == z.number) && (n == z.width)) || known m (take j ls) (Local y n)) (sym e)
    ∙ ap (λ (z : Bool). z || known m (take j ls) (Local y n)) t in record {
      within = omega arith;
      value = λ x. sym (v x) ∙ ap (λ z. values nodes x (take z ls) y n) (sym k) ∙ b.value x;
      known = sym q ∙ ap (λ z. known m (take z ls) (Local y n)) (sym k) ∙ b.known;
    }

pub none_before : (nodes : List TermNode) (m : Names) (ls : List LocalTerm) (i : ℕ) (y n : ℕ) → IsBefore nodes m ls y n i → i ≡ 0 → ⊥
none_before nodes m ls i y n b e = false≢true (sym (ap (λ z. known m (take z ls) (Local y n)) e) ∙ b.known)
