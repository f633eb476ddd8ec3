-- What the tokens of a line say, by their forms.
use Rattle.std.proofs.Common.{◌≡◌, ℕ, ◌+◌, ◌<◌, ◌≤◌, inl, inr, refl, ap, sym, ◌∙◌, subst, arith, List, [], ◌∷◌, Option, true, false, length, codes}
use Rattle.std.specs.Prelude.{◌⊎◌, ◌==◌}
use Rattle.std.proofs.lemmas.Bool.Decides.{nat_tests}
use Rattle.std.specs.Borrow.{Bor}
use Rattle.word_spec.specs.Tokens.{Token, NameToken}
use Rattle.bilv_spec.specs.Notes.{Expr}
use Rattle.pair_spec.specs.Links.{AreNamed, EqualAtEntry, EqualAtExit, HasForm, IsRange, IsSaid, LinkIs, SameBytes, Says, SharedBytes, two_names, two_numbers}
use Rattle.line_tokens.specs.declared.lexer.Token as code
use Rattle.line_tokens.specs.declared.lexer.Token.TheVariants.{Number, Name}
use Rattle.notes_lang.specs.Reading.{tokens_view}
use Rattle.links_lang.specs.declared.lines.Moment.{Moment}
use Rattle.links_lang.specs.declared.lines.Moment.TheVariants.{Entry, Exit}
use Rattle.links_lang.specs.Telling.{names_word, range_word, three_tokens}

-- lines have no tokens or three
form_length : {ts : List Token} → HasForm ts → (length ts ≡ 0) ⊎ (length ts ≡ 3)
form_length HasForm.blank = inl refl
form_length (HasForm.enters v w) = inr refl
form_length (HasForm.leaves v w) = inr refl
form_length (HasForm.shares a b) = inr refl
form_length (HasForm.is_same a b) = inr refl

view_length : (ts : List code.Token) → length (tokens_view ts) ≡ length ts
view_length [] = refl
view_length (t ∷ ts) = let n = view_length ts in omega (arith, n)

pub not_three : (ts : List code.Token) → (length ts ≡ 0 → ⊥) → (length ts ≡ 3 → ⊥) → HasForm (tokens_view ts) → ⊥
not_three ts some other h = by (form_length h)
  where
    by : (length (tokens_view ts) ≡ 0) ⊎ (length (tokens_view ts) ≡ 3) → ⊥
    by (inl e) = some (sym (view_length ts) ∙ e)
    by (inr e) = other (sym (view_length ts) ∙ e)

pub blank_view : (ts : List code.Token) → length ts ≡ 0 → tokens_view ts ≡ []
blank_view [] e = refl
blank_view (t ∷ ts) e = absurd (omega (arith, e))

pub some_tokens : (n : ℕ) → false ≡ (n == 0) → n ≡ 0 → ⊥
some_tokens n e is = grind (arith, nat_tests)

pub none_left : (n : ℕ) → true ≡ (n == 0) → n ≡ 0
none_left n e = grind (arith, nat_tests)

-- a word and two numbers
pub three_are : (t u v : code.Token) (k : Bor (List ℕ)) (a b : ℕ) → t ≡ Name k → u ≡ Number a → v ≡ Number b → two_numbers k.now a b ≡ three_tokens t u v
three_are t u v k a b p q r =
    sym (ap (λ z. three_tokens z u v) p ∙ ap (λ z. three_tokens (Name k) z v) q ∙ ap (λ z. three_tokens (Name k) (Number a) z) r)

-- what words of both kinds say
pub names_form : (m : Moment) (k v w : List ℕ) → k ≡ names_word m → HasForm (two_names k v w)
names_form Entry k v w is = subst (λ z. HasForm (two_names z v w)) (sym is) (HasForm.enters v w)
names_form Exit k v w is = subst (λ z. HasForm (two_names z v w)) (sym is) (HasForm.leaves v w)

module _ (first second : List ℕ → Option Expr) where
  -- names are of registers or flags, where the tokens have two
  abbrev NamesStand : List Token → Type 0
  NamesStand (NameToken k ∷ NameToken v ∷ NameToken w ∷ []) = (x y : Expr) × AreNamed first second v w x y
  NamesStand _ = Unit {0}

  names_stand : {n : ℕ} {ts : List Token} {s : Says} → IsSaid first second n ts s → NamesStand ts
  names_stand IsSaid.nothing = tt
  names_stand (IsSaid.enters {v} {w} {x} {y} h) = (x, y, h)
  names_stand (IsSaid.leaves {v} {w} {x} {y} h) = (x, y, h)
  names_stand (IsSaid.shares a b) = tt
  names_stand (IsSaid.is_same a b) = tt

  pub none_said : (n : ℕ) (k v w : List ℕ) → ((x y : Expr) → AreNamed first second v w x y → ⊥) → (s : Says) → IsSaid first second n (two_names k v w) s → ⊥
  none_said n k v w none s h = let it = names_stand h in none it.0 it.1 it.2

  pub enters_said : (n : ℕ) (k v w : List ℕ) (x y : Expr) → k ≡ codes "in" → AreNamed first second v w x y →
      IsSaid first second n (two_names k v w) (LinkIs (EqualAtEntry n x y))
  enters_said n k v w x y is h = subst (λ (z : List ℕ). IsSaid first second n (two_names z v w) (LinkIs (EqualAtEntry n x y))) (sym is) (IsSaid.enters h)

  pub leaves_said : (n : ℕ) (k v w : List ℕ) (x y : Expr) → k ≡ codes "out" → AreNamed first second v w x y →
      IsSaid first second n (two_names k v w) (LinkIs (EqualAtExit n x y))
  leaves_said n k v w x y is h = subst (λ (z : List ℕ). IsSaid first second n (two_names z v w) (LinkIs (EqualAtExit n x y))) (sym is) (IsSaid.leaves h)

  pub shares_said : (n : ℕ) (k : List ℕ) (a b : ℕ) → k ≡ codes "share" → IsSaid first second n (two_numbers k a b) (LinkIs (SharedBytes n a b))
  shares_said n k a b is = subst (λ (z : List ℕ). IsSaid first second n (two_numbers z a b) (LinkIs (SharedBytes n a b))) (sym is) (IsSaid.shares a b)

  pub same_said : (n : ℕ) (k : List ℕ) (a b : ℕ) → k ≡ codes "same" → IsSaid first second n (two_numbers k a b) (LinkIs (SameBytes n a b))
  same_said n k a b is = subst (λ (z : List ℕ). IsSaid first second n (two_numbers z a b) (LinkIs (SameBytes n a b))) (sym is) (IsSaid.is_same a b)

  -- a range that is empty or too long
  pub no_range : (m : Moment) (n : ℕ) (k : List ℕ) (a b : ℕ) → k ≡ range_word m → ((a ≤ b) × (b < a + 256) → ⊥) →
      (s : Says) × IsSaid first second n (two_numbers k a b) s × (IsRange s → ⊥)
  no_range Entry n k a b is bad = (LinkIs (SharedBytes n a b), shares_said n k a b is, bad)
  no_range Exit n k a b is bad = (LinkIs (SameBytes n a b), same_said n k a b is, bad)
