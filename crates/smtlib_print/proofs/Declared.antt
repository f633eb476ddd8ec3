-- Declarations one after another: each name gets the model's value.
use Rattle.std.proofs.Common.{◌≡◌, ℕ, refl, ap, sym, ◌∙◌, subst, true, false, Bool, List, [], ◌∷◌, ◌++◌, Option, Some, None}
use Rattle.std.specs.Prelude.{◌&&◌, ◌||◌, not, if◌then◌else◌}
use Rattle.std.specs.Str.{bytes_eq}
use Rattle.bilv_spec.specs.SmtLib.{Sexp, Cons, SmtValue, binds, is_of_sort, truth_of}
use Rattle.smtlib_print.specs.Commands.{declaration, declarations}
use Rattle.smtlib_print.specs.Written.{before}
use Rattle.smtlib_print.proofs.Defined.{among}
use Rattle.smtlib_print.proofs.Names.{text_of}

-- the symbols that have a value are the declared ones, with the model's
abbrev pub AreDeclared : (model symbols : List ℕ → Option SmtValue) → List (List ℕ) → Type 0
AreDeclared model symbols done = (w : List ℕ) → symbols w ≡ (if among done w then model w else None)

-- the model has a value of a sort
pub record IsSorted (model : List ℕ → Option SmtValue) (sort : Sexp) (w : List ℕ) : Type 0 where
  pub value : SmtValue
  pub is : model w ≡ Some value
  pub sort_is : is_of_sort value sort ≡ true

abbrev pub AreSorted : (model : List ℕ → Option SmtValue) → (sort : Sexp) → List (List ℕ) → Type 0
AreSorted model sort [] = Unit {0}
AreSorted model sort (w ∷ ws) = IsSorted model sort w × AreSorted model sort ws

-- names that are declared behind others
abbrev pub onto : (done names : List (List ℕ)) → List (List ℕ)
onto done [] = done
onto done (w ∷ ws) = onto (w ∷ done) ws

-- no name is declared twice
abbrev pub are_new : (done names : List (List ℕ)) → Bool
are_new done [] = true
are_new done (w ∷ ws) = not (among done w) && are_new (w ∷ done) ws

pub both_true : (a b : Bool) → (a && b) ≡ true → (a ≡ true) × (b ≡ true)
both_true true b h = (refl, h)
both_true false b h = absurd (cc h)

pub is_false : (a : Bool) → not a ≡ true → a ≡ false
is_false true h = absurd (cc h)
is_false false h = refl

declare_step : (model symbols : List ℕ → Option SmtValue) (w : List ℕ) (sort rest : Sexp) (v : SmtValue) → symbols w ≡ None → model w ≡ Some v →
    is_of_sort v sort ≡ true →
    truth_of model symbols (Cons (declaration w sort) rest) ≡ truth_of model (binds symbols w v) rest
declare_step model symbols w sort rest v f h s = rw (f, h, s) refl

declared_by : (same : Bool) (model symbols : List ℕ → Option SmtValue) (done : List (List ℕ)) (w u : List ℕ) (v : SmtValue) → bytes_eq u w ≡ same →
    model w ≡ Some v →
    symbols u ≡ (if among done u then model u else None) → (if same then Some v else symbols u) ≡ (if same || among done u then model u else None)
declared_by true model symbols done w u v e h k = sym h ∙ ap model (sym (text_of u w e))
declared_by false model symbols done w u v e h k = k

declared_on : (model symbols : List ℕ → Option SmtValue) (done : List (List ℕ)) (w : List ℕ) (v : SmtValue) → model w ≡ Some v →
    AreDeclared model symbols done →
    AreDeclared model (binds symbols w v) (w ∷ done)
declared_on model symbols done w v h d u = declared_by (bytes_eq u w) model symbols done w u v refl h (d u)

pub before-append : (cs ds : List Sexp) (rest : Sexp) → before (cs ++ ds) rest ≡ before cs (before ds rest)
before-append [] ds rest = refl
before-append (c ∷ cs) ds rest = ap (Cons c) (before-append cs ds rest)

-- what the symbols have behind declarations
pub record IsDeclaring (model symbols : List ℕ → Option SmtValue) (done : List (List ℕ)) (commands : List Sexp) : Type 0 where
  pub after : List ℕ → Option SmtValue
  pub declared : AreDeclared model after done
  pub runs : (rest : Sexp) → truth_of model symbols (before commands rest) ≡ truth_of model after rest

pub declare_all : (model : List ℕ → Option SmtValue) (sort : Sexp) (names done : List (List ℕ)) (symbols : List ℕ → Option SmtValue) →
    AreSorted model sort names →
    are_new done names ≡ true → AreDeclared model symbols done → IsDeclaring model symbols (onto done names) (declarations sort names)
declare_all model sort [] done symbols sorted new d = record { after = symbols; declared = d; runs = λ rest. refl }
declare_all model sort (w ∷ ws) done symbols sorted new d =
    let n = both_true (not (among done w)) (are_new (w ∷ done) ws) new in
    let s = sorted.0 in
    let next = declare_all model sort ws (w ∷ done) (binds symbols w s.value) sorted.1 n.1 (declared_on model symbols done w s.value s.is d) in
    record {
      after = next.after;
      declared = next.declared;
      runs = λ rest.
          declare_step model symbols w sort (before (declarations sort ws) rest) s.value
          (d w ∙ ap (λ b. if b then model w else None) (is_false (among done w) n.0)) s.is s.sort_is
          ∙ next.runs rest;
    }

-- declarations after others
pub declare_both : (model symbols : List ℕ → Option SmtValue) (done then_done : List (List ℕ)) (cs ds : List Sexp) →
    (first : IsDeclaring model symbols done cs) → IsDeclaring model first.after then_done ds → IsDeclaring model symbols then_done (cs ++ ds)
declare_both model symbols done then_done cs ds first last = record {
  after = last.after;
  declared = last.declared;
  runs = λ rest. ap (truth_of model symbols) (before-append cs ds rest) ∙ first.runs (before ds rest) ∙ last.runs rest;
}

pub declared_as : (model symbols : List ℕ → Option SmtValue) (done names : List (List ℕ)) (cs : List Sexp) → done ≡ names →
    IsDeclaring model symbols done cs → IsDeclaring model symbols names cs
declared_as model symbols done names cs e d = subst (λ (l : List (List ℕ)). IsDeclaring model symbols l cs) e d

-- names in two parts
pub onto-append : (done v w : List (List ℕ)) → onto done (v ++ w) ≡ onto (onto done v) w
onto-append done [] w = refl
onto-append done (n ∷ v) w = onto-append (n ∷ done) v w

and_assoc : (a b c : Bool) → ((a && b) && c) ≡ (a && (b && c))
and_assoc true b c = refl
and_assoc false b c = refl

new-append : (done v w : List (List ℕ)) → are_new done (v ++ w) ≡ (are_new done v && are_new (onto done v) w)
new-append done [] w = refl
new-append done (n ∷ v) w =
    ap (λ b. not (among done n) && b) (new-append (n ∷ done) v w) ∙ sym (and_assoc (not (among done n)) (are_new (n ∷ done) v) (are_new (onto (n ∷ done) v) w))

pub new_both : (done v w : List (List ℕ)) → are_new done (v ++ w) ≡ true → (are_new done v ≡ true) × (are_new (onto done v) w ≡ true)
new_both done v w h = both_true (are_new done v) (are_new (onto done v) w) (sym (new-append done v w) ∙ h)

-- what is among names that are declared behind others
pub onto_done : (done names : List (List ℕ)) (w : List ℕ) → among done w ≡ true → among (onto done names) w ≡ true
onto_done done [] w h = h
onto_done done (n ∷ ns) w h = onto_done (n ∷ done) ns w (or_right (bytes_eq w n) (among done w) h)
  where
    or_right : (a b : Bool) → b ≡ true → (a || b) ≡ true
    or_right true b h = refl
    or_right false b h = h

first_or : {P : Type 0} (a b : Bool) → (a ≡ true → P) → (b ≡ true → P) → (a || b) ≡ true → P
first_or true b f g h = f refl
first_or false b f g h = g h

pub onto_new : (done names : List (List ℕ)) (w : List ℕ) → among names w ≡ true → among (onto done names) w ≡ true
onto_new done [] w h = absurd (cc h)
onto_new done (n ∷ ns) w h =
    first_or (bytes_eq w n) (among ns w) (λ e. onto_done (n ∷ done) ns w (rw e refl)) (onto_new (n ∷ done) ns w) h

pub onto_none : (done names : List (List ℕ)) (w : List ℕ) → among done w ≡ false → among names w ≡ false → among (onto done names) w ≡ false
onto_none done [] w h k = h
onto_none done (n ∷ ns) w h k =
    let f = neither (bytes_eq w n) (among ns w) k in
    onto_none (n ∷ done) ns w (rw (f.0, h) refl) f.1
  where
    neither : (a b : Bool) → (a || b) ≡ false → (a ≡ false) × (b ≡ false)
    neither true b h = absurd (cc h)
    neither false b h = (refl, h)
