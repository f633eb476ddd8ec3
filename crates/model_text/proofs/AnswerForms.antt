-- What has the form of an answer is read as one.
use Rattle.std.proofs.Common.{◌≡◌, ℕ, zero, suc, ◌+◌, arith, Bool, true, false, List, [], ◌∷◌, ◌++◌, Option, Some, None, refl, sym, ap, ◌∙◌, add-one, append_assoc}
use Rattle.std.specs.Prelude.{if◌then◌else◌, is_some, Contains}
use Rattle.std.proofs.lemmas.List.{append-nil}
use Rattle.model_spec.specs.ModelText.{ModelToken, Open, Close, Word, is_symbol, IsExpression, AreExpressions, IsName, Definition, Gives, PassedOver, IsDefinition, AreDefinitions, IsHead, HasForm, Declared, names_of}
use Rattle.model_text.specs.declared.sort_place.SortPlace.TheVariants as sorts
use Rattle.model_text.specs.declared.place.Place.{Place}
use Rattle.model_text.specs.declared.place.Place.TheVariants as places
use Rattle.model_text.specs.declared.symbol.Symbol.{Symbol}
use Rattle.model_text.specs.Tokens.{when}
use Rattle.model_text.specs.Symbols.{sort_of}
use Rattle.model_text.specs.Places.{next_place, next_inside}
use Rattle.model_text.specs.Traces.{Trace, Known, empty_trace, no_value, symbol_at, traced, drafted, named}
use Rattle.model_text.proofs.SortForms.{go, sort_whole}
use Rattle.model_text.proofs.Runs.{Stand, stand, within}
use Rattle.model_text.proofs.ReadForms.{sort_read, value_read, with_value}

-- behind one more token of an answer
abbrev pub step_to : Known → Place → Trace → ModelToken → Option Place → Option Stand
step_to known p tr t None = None
step_to known p tr t (Some next) = Some (stand next (traced p (symbol_at known p t) t tr))

abbrev pub step : Known → Place → Trace → ModelToken → Option Stand
step known p tr t = step_to known p tr t (next_place (is_some (symbol_at known p t)) p t)

-- and behind some
abbrev pub run : Known → Place → Trace → List ModelToken → Option Stand
run known p tr [] = Some (stand p tr)
run known p tr (t ∷ ts) = go (step known p tr t) (λ s. run known s.place s.trace ts)

-- the symbols that are known are those that are declared
pub record Knows (known : Known) (declared : List Declared) : Type 0 where
  pub found : (w : List ℕ) (s : Symbol) → known w ≡ Some s → Contains declared (record { name = w; sort = sort_of s })
  pub other : (d : Declared) → Contains declared d → (s : Symbol) × (known d.name ≡ Some s) × (sort_of s ≡ d.sort)

-- a name that stands among the declared is that of one
pub named_one : (declared : List Declared) (w : List ℕ) → Contains (names_of declared) w → (d : Declared) × Contains declared d × (d.name ≡ w)
named_one [] w h = absurd (omega (arith, h.1))
named_one (d ∷ ds) w (zero, l, e) = (d, (0, omega arith, refl), e)
named_one (d ∷ ds) w (suc i, l, e) =
    let r = named_one ds w (i, omega (arith, l), e) in
    let c = r.1 in (r.0, (suc c.0, omega (arith, c.1), c.2), r.2)

pub one_named : (declared : List Declared) (d : Declared) → Contains declared d → Contains (names_of declared) d.name
one_named [] d h = absurd (omega (arith, h.1))
one_named (c ∷ ds) d (zero, l, e) = (0, omega arith, ap (λ (x : Declared). x.name) e)
one_named (c ∷ ds) d (suc i, l, e) = let r = one_named ds d (i, omega (arith, l), e) in (suc r.0, omega (arith, r.1), r.2)

module _ (known : Known) where
  pub run_append : (ts us : List ModelToken) (p : Place) (tr : Trace) → run known p tr (ts ++ us) ≡ go (run known p tr ts) (λ s. run known s.place s.trace us)
  run_append [] us p tr = refl
  run_append (t ∷ ts) us p tr = by (step known p tr t) (λ s. run_append ts us s.place s.trace)
    where
      by : (o : Option Stand) → ((s : Stand) → run known s.place s.trace (ts ++ us) ≡ go (run known s.place s.trace ts) (λ x. run known x.place x.trace us)) →
          go o (λ s. run known s.place s.trace (ts ++ us)) ≡ go (go o (λ s. run known s.place s.trace ts)) (λ s. run known s.place s.trace us)
      by None ih = refl
      by (Some s) ih = ih s

  -- within sorts and values
  inside_step : (p : Place) (t : ModelToken) (tr : Trace) (q : Place) → next_inside p t ≡ Some q → step known p tr t ≡ Some (stand q (drafted p t tr))
  inside_step (places.Sort at) t tr q e = ap (step_to known (places.Sort at) tr t) e
  inside_step (places.Value d) t tr q e = ap (step_to known (places.Value d) tr t) e
  inside_step (places.Opened d) t tr q e = ap (step_to known (places.Opened d) tr t) e
  inside_step (places.As d) t tr q e = ap (step_to known (places.As d) tr t) e
  inside_step (places.Const d) t tr q e = ap (step_to known (places.Const d) tr t) e
  inside_step (places.ConstSort d at) t tr q e = ap (step_to known (places.ConstSort d at) tr t) e
  inside_step (places.ConstClose d) t tr q e = ap (step_to known (places.ConstClose d) tr t) e
  inside_step (places.Bits role d at) t tr q e = ap (step_to known (places.Bits role d at) tr t) e
  inside_step (places.FillClose d) t tr q e = ap (step_to known (places.FillClose d) tr t) e
  inside_step (places.StoreClose d) t tr q e = ap (step_to known (places.StoreClose d) tr t) e
  inside_step places.Start t tr q e = absurd (cc)
  inside_step places.Sat t tr q e = absurd (cc)
  inside_step (places.List first) t tr q e = absurd (cc)
  inside_step places.Begun t tr q e = absurd (cc)
  inside_step places.Name t tr q e = absurd (cc)
  inside_step (places.Passing d) t tr q e = absurd (cc)
  inside_step places.Arguments t tr q e = absurd (cc)
  inside_step places.NoArguments t tr q e = absurd (cc)
  inside_step places.Closing t tr q e = absurd (cc)
  inside_step places.Done t tr q e = absurd (cc)

  within_run : (ts us : List ModelToken) (p : Place) (tr : Trace) (s : Stand) → within p tr ts ≡ Some s →
      run known p tr (ts ++ us) ≡ run known s.place s.trace us
  within_run [] us p tr s h = let e : stand p tr ≡ s = cc in ap (λ (x : Stand). run known x.place x.trace us) e
  within_run (t ∷ ts) us p tr s h = by (next_inside p t) refl h (λ q g. within_run ts us q (drafted p t tr) s g)
    where
      by : (o : Option Place) → next_inside p t ≡ o → go o (λ q. within q (drafted p t tr) ts) ≡ Some s →
          ((q : Place) → within q (drafted p t tr) ts ≡ Some s → run known q (drafted p t tr) (ts ++ us) ≡ run known s.place s.trace us) →
          go (step known p tr t) (λ x. run known x.place x.trace (ts ++ us)) ≡ run known s.place s.trace us
      by None f g ih = absurd (cc)
      by (Some q) f g ih = ap (λ (o : Option Stand). go o (λ x. run known x.place x.trace (ts ++ us))) (inside_step p t tr q f) ∙ ih q g

  -- what is passed over
  mutual
    expression_read : (d : ℕ) (tr : Trace) (ts us : List ModelToken) → IsExpression ts →
        run known (places.Passing d) tr (ts ++ us) ≡ run known (places.Passing d) tr us
    expression_read d tr ts us (IsExpression.word w) = refl
    expression_read d tr ts us (IsExpression.quoted w) = refl
    expression_read d tr ts us IsExpression.string = refl
    expression_read d tr ts us (IsExpression.list {ts = inner} h) =
        ap (run known (places.Passing (d + 1)) tr) (append_assoc inner (Close ∷ []) us)
        ∙ ap (λ (k : ℕ). run known (places.Passing k) tr (inner ++ (Close ∷ us))) (add-one d)
        ∙ expressions_read (suc d) tr inner (Close ∷ us) h

    expressions_read : (d : ℕ) (tr : Trace) (ts us : List ModelToken) → AreExpressions ts →
        run known (places.Passing d) tr (ts ++ us) ≡ run known (places.Passing d) tr us
    expressions_read d tr ts us AreExpressions.none = refl
    expressions_read d tr ts us (AreExpressions.some {ts = first} {us = rest} h k) =
        ap (run known (places.Passing d) tr) (append_assoc first rest us)
        ∙ expression_read d tr first (rest ++ us) h ∙ expressions_read d tr rest us k

  -- a name, by its symbol
  abbrev name_step : List ℕ → Trace → List ModelToken → Option Symbol → Option Stand
  name_step w tr us o = run known (if is_some o then places.Arguments else places.Passing 0) (named o w tr) us

  plain_name : (tr : Trace) (v : List ℕ) (us : List ModelToken) → is_symbol v ≡ true → run known places.Name tr (Word v ∷ us) ≡ name_step v tr us (known v)
  plain_name tr v us h =
      ap (λ (b : Bool). go (step_to known places.Name tr (Word v) (when b (if is_some (known v) then places.Arguments else places.Passing 0)))
      (λ s. run known s.place s.trace us)) h

  -- one that is declared, and one that is not
  name_read : (tr : Trace) (t : ModelToken) (w : List ℕ) (s : Symbol) (us : List ModelToken) → IsName t w → known w ≡ Some s →
      run known places.Name tr (t ∷ us) ≡ run known places.Arguments (named (Some s) w tr) us
  name_read tr t w s us (IsName.plain v h) e = plain_name tr v us h ∙ ap (name_step v tr us) e
  name_read tr t w s us (IsName.quoted v) e = ap (name_step v tr us) e

  other_read : (tr : Trace) (t : ModelToken) (w : List ℕ) (us : List ModelToken) → IsName t w → known w ≡ None →
      run known places.Name tr (t ∷ us) ≡ run known (places.Passing 0) tr us
  other_read tr t w us (IsName.plain v h) e = plain_name tr v us h ∙ ap (name_step v tr us) e
  other_read tr t w us (IsName.quoted v) e = ap (name_step v tr us) e

-- whole definitions are read
pub record DefinitionsRead (known : Known) (first : Bool) (tr : Trace) (ts us : List ModelToken) (ds : List Definition) : Type 0 where
  pub last : Bool
  pub trace : Trace
  pub definitions : trace.definitions ≡ tr.definitions ++ ds
  pub is : run known (places.List first) tr (ts ++ us) ≡ run known (places.List last) trace us

module _ (known : Known) (declared : List Declared) (knows : Knows known declared) where
  -- a name that is not declared is not known
  not_known : (w : List ℕ) (o : Option Symbol) → known w ≡ o → ¬ Contains (names_of declared) w → known w ≡ None
  not_known w None e none = e
  not_known w (Some s) e none = absurd (none (one_named declared (record { name = w; sort = sort_of s }) (knows.found w s e)))

  -- and one that is declared is
  pub is_known : (w : List ℕ) → Contains (names_of declared) w → (s : Symbol) × (known w ≡ Some s)
  is_known w h =
      let r = named_one declared w h in
      let o = knows.other r.0 r.1 in (o.0, ap known (sym r.2) ∙ o.1)

  definition_read : (first : Bool) (tr : Trace) (ts us : List ModelToken) (d : Definition) → IsDefinition (names_of declared) ts d →
      DefinitionsRead known first tr ts us (d ∷ [])
  definition_read first tr ts us d (IsDefinition.gives {t} {w} {sort} {ts = value} {v} name is form value_is) =
      let s = is_known w is in
      let begun = named (Some s.0) w tr in
      let sorted = record begun { sort = sort } in
      let r = value_read 0 sorted value [] v value_is in
      let whole = with_value r.constant r.bits r.index v sorted in
      let e : within (places.Sort (sorts.Wanted 0)) begun (sort ++ value) ≡ Some (stand places.Closing whole) =
      sort_read sort value (sorts.Wanted 0) begun (sort_whole sort form)
      ∙ ap (λ (z : List ModelToken). within (places.Value 0) sorted z) (sym (append-nil value)) ∙ r.is in
      record {
        last = false;
        trace = record whole { definitions = tr.definitions ++ Gives w sort v ∷ []; value = no_value };
        definitions = refl;
        is =
            name_read known tr t w s.0 (Open ∷ Close ∷ (((sort ++ value) ++ Close ∷ []) ++ us)) name s.1
            ∙ ap (λ (z : List ModelToken). run known (places.Sort (sorts.Wanted 0)) begun z) (append_assoc (sort ++ value) (Close ∷ []) us)
            ∙ within_run known (sort ++ value) (Close ∷ us) (places.Sort (sorts.Wanted 0)) begun (stand places.Closing whole) e;
      }
  definition_read first tr ts us d (IsDefinition.passes {t} {w} {ts = inner} name is are) = record {
    last = false;
    trace = record tr { definitions = tr.definitions ++ PassedOver ∷ [] };
    definitions = refl;
    is =
        other_read known tr t w ((inner ++ Close ∷ []) ++ us) name (not_known w (known w) refl is)
        ∙ ap (λ (z : List ModelToken). run known (places.Passing 0) tr z) (append_assoc inner (Close ∷ []) us)
        ∙ expressions_read known 0 tr inner (Close ∷ us) are;
  }

  pub definitions_read : (first : Bool) (tr : Trace) (ts us : List ModelToken) (ds : List Definition) → AreDefinitions (names_of declared) ts ds →
      DefinitionsRead known first tr ts us ds
  definitions_read first tr ts us ds AreDefinitions.none =
      record { last = first; trace = tr; definitions = sym (append-nil tr.definitions); is = refl }
  definitions_read first tr ts us ds (AreDefinitions.some {ts = one} {us = rest} {d} {ds = more} h k) =
      let r = definition_read first tr one (rest ++ us) d h in
      let q = definitions_read r.last r.trace rest us more k in
      record {
        last = q.last;
        trace = q.trace;
        definitions = q.definitions ∙ ap (λ (z : List Definition). z ++ more) r.definitions ∙ append_assoc tr.definitions (d ∷ []) more;
        is = ap (λ (z : List ModelToken). run known (places.List first) tr z) (append_assoc one rest us) ∙ r.is ∙ q.is;
      }

  -- what stands before the definitions
  pub head_read : (head us : List ModelToken) (tr : Trace) → IsHead head → (first : Bool) × (run known places.Start tr (head ++ us) ≡ run known (places.List
      first) tr us)
  head_read head us tr IsHead.plain = (true, refl)
  head_read head us tr IsHead.model = (false, refl)

  -- a whole answer
  pub form_read : (ts : List ModelToken) (ds : List Definition) → HasForm (names_of declared) ts ds →
      (tr : Trace) × (run known places.Start empty_trace ts ≡ Some (stand places.Done tr))
  form_read ts ds (HasForm.whole {head} {ts = defined} h are) =
      let a = head_read head (defined ++ Close ∷ []) empty_trace h in
      let r = definitions_read a.0 empty_trace defined (Close ∷ []) ds are in (
        r.trace,
        ap (λ (z : List ModelToken). run known places.Start empty_trace z) (append_assoc head defined (Close ∷ [])) ∙ a.1 ∙ r.is,
      )
