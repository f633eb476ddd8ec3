-- A text is an answer in one way at most: its tokens are read to one list of definitions.
use Rattle.std.proofs.Common.{◌≡◌, ℕ, zero, suc, arith, Bool, true, false, List, [], ◌∷◌, ◌++◌, Option, Some, None, refl, sym, ap, ◌∙◌, subst, map, append_assoc}
use Rattle.std.specs.Prelude.{◌||◌, if◌then◌else◌, Contains}
use Rattle.std.specs.List.{list_any}
use Rattle.std.specs.Str.{bytes_eq}
use Rattle.std.proofs.lemmas.Slice.Eq.{bytes_eq-Decides}
use Rattle.model_spec.specs.ModelText.{AreDefinitions, ModelToken, Close, Declared, Definition, HasForm, Memories, names_of}
use Rattle.model_text.specs.declared.place.Place.TheVariants as places
use Rattle.model_text.specs.declared.symbol.Symbol.{Symbol}
use Rattle.model_text.specs.declared.symbol.Symbol.TheVariants.{Memory}
use Rattle.model_text.specs.OneAnswers.{OneAnswer}
use Rattle.model_text.specs.Symbols.{sort_of}
use Rattle.model_text.specs.Traces.{Trace, Known, empty_trace}
use Rattle.model_text.proofs.AnswerForms.{Knows, definitions_read, head_read, run}
use Rattle.model_text.proofs.Runs.{Stand, stand}
use Rattle.model_text.proofs.SortForms.{same_word}

-- names, as those of symbols of one sort
abbrev as_memories : List (List ℕ) → List Declared
as_memories names = map (λ w. record { name = w; sort = Memories }) names

abbrev of_name : List ℕ → Declared
of_name w = record { name = w; sort = Memories }

abbrev among : List (List ℕ) → Known
among names w = if list_any (bytes_eq w) names then Some Memory else None

same_names : (names : List (List ℕ)) → names_of (as_memories names) ≡ names
same_names [] = refl
same_names (w ∷ names) = ap (λ (z : List (List ℕ)). w ∷ z) (same_names names)

listed : (names : List (List ℕ)) (w : List ℕ) → list_any (bytes_eq w) names ≡ true → Contains (as_memories names) (record { name = w; sort = Memories })
listed [] w h = absurd (cc)
listed (v ∷ names) w h = by (bytes_eq w v) refl h (listed names w)
  where
    by : (b : Bool) → bytes_eq w v ≡ b → (b || list_any (bytes_eq w) names) ≡ true →
        (list_any (bytes_eq w) names ≡ true → Contains (as_memories names) (record { name = w; sort = Memories })) →
        Contains (as_memories (v ∷ names)) (record { name = w; sort = Memories })
    by true e f ih = (0, omega arith, ap of_name (sym ((bytes_eq-Decides w v).0 e)))
    by false e f ih = let c = ih f in (suc c.0, omega (arith, c.1), c.2)

is_listed : (names : List (List ℕ)) (d : Declared) → Contains (as_memories names) d → (list_any (bytes_eq d.name) names ≡ true) × (d.sort ≡ Memories)
is_listed [] d c = absurd (omega (arith, c.1))
is_listed (v ∷ names) d (zero, l, e) =
    let f : of_name v ≡ d = e in (
      ap (λ (x : Declared). list_any (bytes_eq x.name) (v ∷ names)) (sym f) ∙ ap (λ (b : Bool). b || list_any (bytes_eq v) names) (same_word v),
      sym (ap (λ (x : Declared). x.sort) f),
    )
is_listed (v ∷ names) d (suc i, l, e) =
    let r = is_listed names d (i, omega (arith, l), e) in (by (bytes_eq d.name v) r.0, r.1)
  where
    by : (b : Bool) → list_any (bytes_eq d.name) names ≡ true → (b || list_any (bytes_eq d.name) names) ≡ true
    by true h = refl
    by false h = h

knows : (names : List (List ℕ)) → Knows (among names) (as_memories names)
knows names = record { found = λ w s h. found w s (list_any (bytes_eq w) names) refl h; other = λ d c. other d c }
  where
    found : (w : List ℕ) (s : Symbol) (b : Bool) → list_any (bytes_eq w) names ≡ b → (if b then Some Memory else None) ≡ Some s →
        Contains (as_memories names) (record { name = w; sort = sort_of s })
    found w s true e f =
        let same : Memory ≡ s = cc in
        subst (λ (z : Symbol). Contains (as_memories names) (record { name = w; sort = sort_of z })) same (listed names w e)
    found w s false e f = absurd (cc)

    other : (d : Declared) → Contains (as_memories names) d → (s : Symbol) × (among names d.name ≡ Some s) × (sort_of s ≡ d.sort)
    other d c =
        let r = is_listed names d c in (Memory, ap (λ (b : Bool). let o : Option Symbol = if b then Some Memory else None in o) r.0, sym r.1)

-- what a form is read to has its definitions
form_definitions : (names : List (List ℕ)) (ts : List ModelToken) (ds : List Definition) → HasForm names ts ds →
    (tr : Trace) × (run (among names) places.Start empty_trace ts ≡ Some (stand places.Done tr)) × (tr.definitions ≡ ds)
form_definitions names ts ds (HasForm.whole {head} {ts = defined} h are) =
    let known = among names in
    let declared = as_memories names in
    let a = head_read known declared (knows names) head (defined ++ Close ∷ []) empty_trace h in
    let r = definitions_read known declared (knows names) a.0 empty_trace defined (Close ∷ []) ds
    (subst (λ (z : List (List ℕ)). AreDefinitions z defined ds) (sym (same_names names)) are) in (
      r.trace,
      ap (λ (z : List ModelToken). run known places.Start empty_trace z) (append_assoc head defined (Close ∷ [])) ∙ a.1 ∙ r.is,
      r.definitions,
    )

some_stand : (s t : Stand) → Some s ≡ Some t → s ≡ t
some_stand s t e = cc

pub one_answer : OneAnswer
one_answer declared text ds es x y =
    let a = form_definitions (names_of declared) _ ds x.form in
    let b = form_definitions (names_of declared) _ es y.form in
    let same = some_stand (stand places.Done a.0) (stand places.Done b.0) (sym a.1 ∙ b.1) in
    sym a.2 ∙ ap (λ (s : Stand). s.trace.definitions) same ∙ b.2
