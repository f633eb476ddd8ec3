-- A token that can stand at a place makes the front of the next place of the front before it.
use Rattle.std.proofs.Common.{◌≡◌, ℕ, zero, suc, ◌+◌, Bool, true, false, arith, List, [], ◌∷◌, ◌++◌, Option, Some, None, refl, sym, ap, ◌∙◌, subst, add-one, append_assoc}
use Rattle.std.specs.Prelude.{◌==◌, ◌&&◌, not, if◌then◌else◌, codes, is_some}
use Rattle.std.specs.Option.{option_map}
use Rattle.std.proofs.lemmas.List.{append-nil}
use Rattle.std.proofs.lemmas.Bool.Decides.{nat_tests}
use Rattle.model_spec.specs.ModelText.{ModelToken, Placed, at_line, Open, Close, Word, Quoted, Text, Bad, IsExpression, AreExpressions, IsSortForm, IsValue, Definition, Gives, PassedOver, AreDefinitions, IsHead, Declared, names_of, bare, SortFault}
use Rattle.model_text.specs.declared.bits.Bits.{Bits as BitsRead}
use Rattle.model_text.specs.declared.bits.BitsPlace.{BitsPlace}
use Rattle.model_text.specs.declared.bits.BitsPlace.TheVariants as bits
use Rattle.model_text.specs.declared.sort_place.SortPlace.{SortPlace}
use Rattle.model_text.specs.declared.sort_place.SortPlace.TheVariants as sorts
use Rattle.model_text.specs.declared.place.Role.{Role}
use Rattle.model_text.specs.declared.place.Role.TheVariants.{Base, Fill, Index, Byte}
use Rattle.model_text.specs.declared.place.Place.{Place}
use Rattle.model_text.specs.declared.place.Place.TheVariants as places
use Rattle.model_text.specs.declared.symbol.Symbol.{Symbol}
use Rattle.model_text.specs.Tokens.{is_open, is_close, is_name, is_index, is_the_word, name_text, when}
use Rattle.model_text.specs.Bits.{literal, bits_next, bits_traced, is_whole}
use Rattle.model_text.specs.Sorts.{completed, behind_indices, sort_next}
use Rattle.model_text.specs.Places.{next_place, next_inside, after_value, after_bits, sort_then, const_then, bits_then, begins, is_closing}
use Rattle.model_text.specs.Symbols.{sort_of}
use Rattle.model_text.specs.Traces.{Trace, Known, symbol_at, traced, drafted, named, role_if, begun_at, is_of_sort, fault_at}
use Rattle.model_text.proofs.SortForms.{SortRest, opens, closes, the_word, name_is, when_some}
use Rattle.model_text.proofs.SortForms as forms
use Rattle.model_text.proofs.ValueForms.{ValueRest, ValueIn}
use Rattle.model_text.proofs.ValueForms as values
use Rattle.model_text.proofs.AnswerForms.{Knows, is_known}
use Rattle.model_text.proofs.Fronts.{bare_append, line_next, ListFront, BeginFront, NamedFront, PassFront, SortFront, ValueFront, Front, no_arguments, named_whole, named_next, passed_whole, pass_more, pass_list, pass_next}

-- ---- places within values

abbrev pub is_value_place : Place → Bool
is_value_place (places.Value d) = true
is_value_place (places.Opened d) = true
is_value_place (places.As d) = true
is_value_place (places.Const d) = true
is_value_place (places.ConstSort d at) = true
is_value_place (places.ConstClose d) = true
is_value_place (places.Bits role d at) = true
is_value_place (places.FillClose d) = true
is_value_place (places.StoreClose d) = true
is_value_place places.Closing = true
is_value_place other = false

-- one that is reached from another
pub record IsReached (q : Place) : Type 0 where
  pub is : is_value_place q ≡ true
  pub still : begins q ≡ false

more_stores : (d : ℕ) → (d + 1 == 0) ≡ false
more_stores d = grind (arith, nat_tests)

value_reached : (d : ℕ) → IsReached (after_value d)
value_reached zero = record { is = refl; still = refl }
value_reached (suc o) = record { is = refl; still = refl }

bits_reached : (role : Role) (d : ℕ) → IsReached (after_bits role d)
bits_reached Base d = value_reached d
bits_reached Fill d = record { is = refl; still = refl }
bits_reached Index d = record { is = refl; still = refl }
bits_reached Byte d = record { is = refl; still = refl }

within_bits : (role : Role) (d : ℕ) (at : BitsPlace) → IsReached (bits_then role d at)
within_bits role d bits.Whole = bits_reached role d
within_bits role d bits.Wanted = record { is = refl; still = refl }
within_bits role d bits.Opened = record { is = refl; still = refl }
within_bits role d bits.Number = record { is = refl; still = refl }
within_bits role d bits.Width = record { is = refl; still = refl }
within_bits role d bits.Close = record { is = refl; still = refl }

within_const : (d : ℕ) (at : SortPlace) → IsReached (const_then d at)
within_const d sorts.Whole = record { is = refl; still = refl }
within_const d (sorts.Wanted n) = record { is = refl; still = refl }
within_const d (sorts.Opened n) = record { is = refl; still = refl }
within_const d (sorts.HeadOpened n) = record { is = refl; still = refl }
within_const d (sorts.Name head n) = record { is = refl; still = refl }
within_const d (sorts.FirstIndex head n) = record { is = refl; still = refl }
within_const d (sorts.Indices head n) = record { is = refl; still = refl }
within_const d (sorts.More o) = record { is = refl; still = refl }

reached_when : (b : Bool) (p q : Place) → IsReached p → when b p ≡ Some q → IsReached q
reached_when b p q r e = subst IsReached (when_some b p q e).1 r

reached_map : {A : Type 0} (f : A → Place) (o : Option A) (q : Place) → ((x : A) → IsReached (f x)) → option_map f o ≡ Some q → IsReached q
reached_map f None q r e = absurd (cc)
reached_map f (Some x) q r e = let same : f x ≡ q = cc in subst IsReached same (r x)

pub reached : (p : Place) (t : ModelToken) (q : Place) → is_value_place p ≡ true → next_inside p t ≡ Some q → IsReached q
reached (places.Value d) t q h e = by (is_open t) e
  where
    by : (a : Bool) → (if a then Some (places.Opened d) else when (is_some (literal t)) (after_value d)) ≡ Some q → IsReached q
    by true f = let same : places.Opened d ≡ q = cc in subst IsReached same (record { is = refl; still = refl })
    by false f = reached_when (is_some (literal t)) (after_value d) q (value_reached d) f
reached (places.Opened d) t q h e = by (is_open t) (is_the_word (codes "_") t) e
  where
    by : (a b : Bool) → (if a then Some (places.As d) else if b then Some (places.Bits Base d bits.Number) else
        when (is_the_word (codes "store") t) (places.Value (d + 1))) ≡ Some q → IsReached q
    by true b f = let same : places.As d ≡ q = cc in subst IsReached same (record { is = refl; still = refl })
    by false true f = let same : places.Bits Base d bits.Number ≡ q = cc in subst IsReached same (record { is = refl; still = refl })
    by false false f = reached_when (is_the_word (codes "store") t) (places.Value (d + 1)) q (record { is = refl; still = more_stores d }) f
reached (places.As d) t q h e = reached_when (is_the_word (codes "as") t) (places.Const d) q (record { is = refl; still = refl }) e
reached (places.Const d) t q h e = reached_when (is_the_word (codes "const") t) (places.ConstSort d (sorts.Wanted 0)) q (record { is = refl; still = refl }) e
reached (places.ConstSort d at) t q h e = reached_map (const_then d) (sort_next at t) q (within_const d) e
reached (places.ConstClose d) t q h e = reached_when (is_close t) (places.Bits Fill d bits.Wanted) q (record { is = refl; still = refl }) e
reached (places.Bits role d at) t q h e = reached_map (bits_then role d) (bits_next at t) q (within_bits role d) e
reached (places.FillClose d) t q h e = reached_when (is_close t) (after_value d) q (value_reached d) e
reached (places.StoreClose d) t q h e = reached_when (is_close t) (after_value d) q (value_reached d) e
reached places.Start t q h e = absurd (cc)
reached places.Sat t q h e = absurd (cc)
reached (places.List first) t q h e = absurd (cc)
reached places.Begun t q h e = absurd (cc)
reached places.Name t q h e = absurd (cc)
reached (places.Passing d) t q h e = absurd (cc)
reached places.Arguments t q h e = absurd (cc)
reached places.NoArguments t q h e = absurd (cc)
reached (places.Sort at) t q h e = absurd (cc)
reached places.Closing t q h e = absurd (cc)
reached places.Done t q h e = absurd (cc)

-- no sort begins within a sort
still_when : (b : Bool) (p q : SortPlace) → begins (places.Sort p) ≡ false → when b p ≡ Some q → begins (places.Sort q) ≡ false
still_when b p q r e = subst (λ (z : SortPlace). begins (places.Sort z) ≡ false) (when_some b p q e).1 r

still_completed : (d : ℕ) → begins (places.Sort (completed d)) ≡ false
still_completed zero = refl
still_completed (suc o) = refl

still_indices : (head : Bool) (d : ℕ) → begins (places.Sort (behind_indices head d)) ≡ false
still_indices true d = more_stores d
still_indices false d = still_completed d

still_some : (p q : SortPlace) → begins (places.Sort p) ≡ false → Some p ≡ Some q → begins (places.Sort q) ≡ false
still_some p q r e = let same : p ≡ q = cc in subst (λ (z : SortPlace). begins (places.Sort z) ≡ false) same r

pub still_sort : (p : SortPlace) (t : ModelToken) (q : SortPlace) → sort_next p t ≡ Some q → begins (places.Sort q) ≡ false
still_sort (sorts.Wanted d) t q e = by (is_open t) e
  where
    by : (a : Bool) → (if a then Some (sorts.Opened d) else when (is_name t) (completed d)) ≡ Some q → begins (places.Sort q) ≡ false
    by true f = still_some (sorts.Opened d) q refl f
    by false f = still_when (is_name t) (completed d) q (still_completed d) f
still_sort (sorts.Opened d) t q e = by (is_open t) (is_the_word (codes "_") t) e
  where
    by : (a b : Bool) → (if a then Some (sorts.HeadOpened d) else if b then Some (sorts.Name false d) else when (is_name t) (sorts.Wanted (d + 1))) ≡ Some q →
        begins (places.Sort q) ≡ false
    by true b f = still_some (sorts.HeadOpened d) q refl f
    by false true f = still_some (sorts.Name false d) q refl f
    by false false f = still_when (is_name t) (sorts.Wanted (d + 1)) q (more_stores d) f
still_sort (sorts.HeadOpened d) t q e = still_when (is_the_word (codes "_") t) (sorts.Name true d) q refl e
still_sort (sorts.Name head d) t q e = still_when (is_name t) (sorts.FirstIndex head d) q refl e
still_sort (sorts.FirstIndex head d) t q e = still_when (is_index t) (sorts.Indices head d) q refl e
still_sort (sorts.Indices head d) t q e = by (is_close t) e
  where
    by : (a : Bool) → (if a then Some (behind_indices head d) else when (is_index t) (sorts.Indices head d)) ≡ Some q → begins (places.Sort q) ≡ false
    by true f = still_some (behind_indices head d) q (still_indices head d) f
    by false f = still_when (is_index t) (sorts.Indices head d) q refl f
still_sort (sorts.More o) t q e = by (is_close t) (is_open t) e
  where
    by : (a b : Bool) → (if a then Some (completed o) else if b then Some (sorts.Opened (o + 1)) else when (is_name t) (sorts.More o)) ≡ Some q →
        begins (places.Sort q) ≡ false
    by true b f = still_some (completed o) q (still_completed o) f
    by false true f = still_some (sorts.Opened (o + 1)) q refl f
    by false false f = still_when (is_name t) (sorts.More o) q refl f
still_sort sorts.Whole t q e = absurd (cc)

-- ---- what a value does not change

pub record IsSame (a b : Trace) : Type 0 where
  pub definitions : b.definitions ≡ a.definitions
  pub name : b.name ≡ a.name
  pub symbol : b.symbol ≡ a.symbol
  pub sort : b.sort ≡ a.sort

same_role : (b : Bool) (role : Role) (a : Trace) (c : BitsRead) → IsSame a (role_if b role (record a { bits = c }))
same_role false role a c = record { definitions = refl; name = refl; symbol = refl; sort = refl }
same_role true Base a c = record { definitions = refl; name = refl; symbol = refl; sort = refl }
same_role true Fill a c = record { definitions = refl; name = refl; symbol = refl; sort = refl }
same_role true Index a c = record { definitions = refl; name = refl; symbol = refl; sort = refl }
same_role true Byte a c = record { definitions = refl; name = refl; symbol = refl; sort = refl }

pub same_rest : (p : Place) (t : ModelToken) (a : Trace) → is_value_place p ≡ true → IsSame a (drafted p t a)
same_rest (places.Value d) t a h = same_role (is_whole (bits_next bits.Wanted t)) Base a (bits_traced bits.Wanted t a.bits)
same_rest (places.Opened d) t a h = record { definitions = refl; name = refl; symbol = refl; sort = refl }
same_rest (places.As d) t a h = record { definitions = refl; name = refl; symbol = refl; sort = refl }
same_rest (places.Const d) t a h = record { definitions = refl; name = refl; symbol = refl; sort = refl }
same_rest (places.ConstSort d at) t a h = record { definitions = refl; name = refl; symbol = refl; sort = refl }
same_rest (places.ConstClose d) t a h = record { definitions = refl; name = refl; symbol = refl; sort = refl }
same_rest (places.Bits role d at) t a h = same_role (is_whole (bits_next at t)) role a (bits_traced at t a.bits)
same_rest (places.FillClose d) t a h = record { definitions = refl; name = refl; symbol = refl; sort = refl }
same_rest (places.StoreClose d) t a h = record { definitions = refl; name = refl; symbol = refl; sort = refl }
same_rest places.Closing t a h = record { definitions = refl; name = refl; symbol = refl; sort = refl }
same_rest places.Start t a h = absurd (cc)
same_rest places.Sat t a h = absurd (cc)
same_rest (places.List first) t a h = absurd (cc)
same_rest places.Begun t a h = absurd (cc)
same_rest places.Name t a h = absurd (cc)
same_rest (places.Passing d) t a h = absurd (cc)
same_rest places.Arguments t a h = absurd (cc)
same_rest places.NoArguments t a h = absurd (cc)
same_rest (places.Sort at) t a h = absurd (cc)
same_rest places.Done t a h = absurd (cc)

named_same : (known : Known) (names : List (List ℕ)) (tokens : List ModelToken) (front : List Placed) (a b : Trace) → IsSame a b →
    NamedFront known names tokens a.definitions a.name a.symbol front → NamedFront known names tokens b.definitions b.name b.symbol front
named_same known names tokens front a b s n =
    subst (λ (z : List Definition). NamedFront known names tokens z b.name b.symbol front) (sym s.definitions)
    (subst (λ (z : List ℕ). NamedFront known names tokens a.definitions z b.symbol front) (sym s.name)
    (subst (λ (z : Symbol). NamedFront known names tokens a.definitions a.name z front) (sym s.symbol) n))

-- ---- steps

module _ (known : Known) (declared : List Declared) (knows : Knows known declared) where
  abbrev names : List (List ℕ)
  names = names_of declared

  front_value : (q : Place) (tr : Trace) (begun : ℕ) (front : List Placed) → is_value_place q ≡ true → ValueFront known names q tr begun front →
      Front known names q tr begun front
  front_value (places.Value d) tr begun front h f = f
  front_value (places.Opened d) tr begun front h f = f
  front_value (places.As d) tr begun front h f = f
  front_value (places.Const d) tr begun front h f = f
  front_value (places.ConstSort d at) tr begun front h f = f
  front_value (places.ConstClose d) tr begun front h f = f
  front_value (places.Bits role d at) tr begun front h f = f
  front_value (places.FillClose d) tr begun front h f = f
  front_value (places.StoreClose d) tr begun front h f = f
  front_value places.Closing tr begun front h f = f
  front_value places.Start tr begun front h f = absurd (cc)
  front_value places.Sat tr begun front h f = absurd (cc)
  front_value (places.List first) tr begun front h f = absurd (cc)
  front_value places.Begun tr begun front h f = absurd (cc)
  front_value places.Name tr begun front h f = absurd (cc)
  front_value (places.Passing d) tr begun front h f = absurd (cc)
  front_value places.Arguments tr begun front h f = absurd (cc)
  front_value places.NoArguments tr begun front h f = absurd (cc)
  front_value (places.Sort at) tr begun front h f = absurd (cc)
  front_value places.Done tr begun front h f = absurd (cc)

  -- in a value
  pub value_step : (p : Place) (tr : Trace) (begun : ℕ) (front : List Placed) (t : Placed) (q : Place) → is_value_place p ≡ true →
      ValueFront known names p tr begun front → next_inside p t.token ≡ Some q →
      ValueFront known names q (drafted p t.token tr) (begun_at (begins p) t.line begun) (front ++ t ∷ [])
  value_step p tr begun front t q h f e =
      let s = same_rest p t.token tr h in record {
        before = f.before;
        said = f.said;
        given = f.given ++ t ∷ [];
        named = named_same known names no_arguments f.before tr (drafted p t.token tr) s f.named;
        form = f.form;
        sort = s.sort ∙ f.sort;
        rest = λ post v r. subst (λ (z : List ModelToken). ValueIn [] 0 z v)
            (sym (ap (λ (z : List ModelToken). z ++ post) (bare_append f.given (t ∷ [])) ∙ append_assoc (bare f.given) (t.token ∷ []) post))
            (f.rest (t.token ∷ post) v (subst (λ (o : Option Place). values.Behind p tr t.token o) e (values.behind p t.token tr) post v r));
        line = line_next (begins p) (begins q) begun f.given t f.line (reached p t.token q h e).still;
        is = ap (λ (z : List Placed). z ++ t ∷ []) f.is ∙ append_assoc f.before (f.said ++ f.given) (t ∷ [])
            ∙ ap (λ (z : List Placed). f.before ++ z) (append_assoc f.said f.given (t ∷ []));
      }

  inside_front : (p : Place) (tr : Trace) (begun : ℕ) (front : List Placed) (t : Placed) (q : Place) → is_value_place p ≡ true →
      ValueFront known names p tr begun front → next_inside p t.token ≡ Some q →
      Front known names q (drafted p t.token tr) (begun_at (begins p) t.line begun) (front ++ t ∷ [])
  inside_front p tr begun front t q h f e =
      front_value q (drafted p t.token tr) (begun_at (begins p) t.line begun) (front ++ t ∷ []) (reached p t.token q h e).is (value_step p tr begun front t q
      h f e)

  -- in a sort
  pub sort_step : (at : SortPlace) (tr : Trace) (begun : ℕ) (front : List Placed) (t : Placed) (r : SortPlace) → SortFront known names at tr begun front →
      sort_next at t.token ≡ Some r →
      SortFront known names r (record tr { sort = tr.sort ++ t.token ∷ [] }) (begun_at (begins (places.Sort at)) t.line begun) (front ++ t ∷ [])
  sort_step at tr begun front t r f e = record {
    before = f.before;
    said = f.said ++ t ∷ [];
    named = f.named;
    rest = λ post k. subst IsSortForm
        (sym (ap (λ (z : List ModelToken). z ++ post) (bare_append f.said (t ∷ [])) ∙ append_assoc (bare f.said) (t.token ∷ []) post))
        (f.rest (t.token ∷ post) (subst (λ (o : Option SortPlace). forms.Behind at t.token o) e (forms.behind at t.token) post k));
    sort = ap (λ (z : List ModelToken). z ++ t.token ∷ []) f.sort ∙ sym (bare_append f.said (t ∷ []));
    line = line_next (begins (places.Sort at)) (begins (places.Sort r)) begun f.said t f.line (still_sort at t.token r e);
    is = ap (λ (z : List Placed). z ++ t ∷ []) f.is ∙ append_assoc f.before f.said (t ∷ []);
  }

  pub sort_form : (tr : Trace) (begun : ℕ) (front : List Placed) (f : SortFront known names sorts.Whole tr begun front) → IsSortForm (bare f.said)
  sort_form tr begun front f = subst IsSortForm (append-nil (bare f.said)) (f.rest [] refl)

  sort_front : (r : SortPlace) (tr : Trace) (begun : ℕ) (front : List Placed) → SortFront known names r tr begun front →
      Front known names (sort_then r) tr begun front
  sort_front sorts.Whole tr begun front f = record {
    before = f.before;
    said = f.said;
    given = [];
    named = f.named;
    form = sort_form tr begun front f;
    sort = f.sort;
    rest = λ post v r. r;
    line = refl;
    is = f.is ∙ ap (λ (z : List Placed). f.before ++ z) (sym (append-nil f.said));
  }
  sort_front (sorts.Wanted d) tr begun front f = f
  sort_front (sorts.Opened d) tr begun front f = f
  sort_front (sorts.HeadOpened d) tr begun front f = f
  sort_front (sorts.Name head d) tr begun front f = f
  sort_front (sorts.FirstIndex head d) tr begun front f = f
  sort_front (sorts.Indices head d) tr begun front f = f
  sort_front (sorts.More o) tr begun front f = f

  -- the value that was given
  pub given_value : (tr : Trace) (begun : ℕ) (front : List Placed) (f : ValueFront known names places.Closing tr begun front) → IsValue (bare f.given) tr.value
  given_value tr begun front f =
      let r = f.rest [] tr.value (refl, refl) in
      let all : r.part ≡ bare f.given =
      sym (sym (append-nil (bare f.given)) ∙ r.is ∙ ap (λ (z : List ModelToken). r.part ++ z) r.after.0 ∙ append-nil r.part) in
      subst (λ (z : List ModelToken). IsValue z tr.value) all (subst (IsValue r.part) (sym r.after.1) r.value_is)

  closed_step : (tr : Trace) (begun : ℕ) (front : List Placed) (t : Placed) → ValueFront known names places.Closing tr begun front → t.token ≡ Close →
      ListFront names (front ++ t ∷ []) (tr.definitions ++ Gives tr.name tr.sort tr.value ∷ [])
  closed_step tr begun front t f e =
      let tail : bare ((f.said ++ f.given) ++ t ∷ []) ≡ (bare f.said ++ bare f.given) ++ Close ∷ [] =
      bare_append (f.said ++ f.given) (t ∷ []) ∙ ap (λ (z : List ModelToken). z ++ t.token ∷ []) (bare_append f.said f.given)
      ∙ ap (λ (z : ModelToken). (bare f.said ++ bare f.given) ++ z ∷ []) e in
      let shape : f.before ++ ((f.said ++ f.given) ++ t ∷ []) ≡ front ++ t ∷ [] =
      sym (ap (λ (z : List Placed). z ++ t ∷ []) f.is ∙ append_assoc f.before (f.said ++ f.given) (t ∷ [])) in
      subst (λ (z : List ModelToken). ListFront names (front ++ t ∷ []) (tr.definitions ++ Gives tr.name z tr.value ∷ [])) (sym f.sort)
      (subst (λ (z : List Placed). ListFront names z (tr.definitions ++ Gives tr.name (bare f.said) tr.value ∷ [])) shape
      (named_whole known declared knows tr.definitions tr.name tr.symbol f.before ((f.said ++ f.given) ++ t ∷ []) (bare f.said) (bare f.given) tr.value
      f.named tail
      f.form (given_value tr begun front f)))

  -- outside of them
  list_begun : (ds : List Definition) (front : List Placed) (t : Placed) → t.token ≡ Open → ListFront names front ds →
      BeginFront names (Open ∷ []) ds (front ++ t ∷ [])
  list_begun ds front t e f = record { before = front; begin = t ∷ []; list = f; begin_is = ap (λ (z : ModelToken). z ∷ []) e; is = refl }

  first_list : (ds : List Definition) (front : List Placed) → bare front ≡ Word (codes "sat") ∷ Open ∷ [] → ds ≡ [] → ListFront names front ds
  first_list ds front h none = record {
    head = front;
    defined = [];
    is_head = subst IsHead (sym h) IsHead.plain;
    are = subst (AreDefinitions names []) (sym none) AreDefinitions.none;
    is = sym (append-nil front);
  }

  model_list : (ds : List Definition) (front : List Placed) (t : Placed) → bare front ≡ Word (codes "sat") ∷ Open ∷ [] → ds ≡ [] →
      t.token ≡ Word (codes "model") →
      ListFront names (front ++ t ∷ []) ds
  model_list ds front t h none e = record {
    head = front ++ t ∷ [];
    defined = [];
    is_head =
        subst IsHead (sym (bare_append front (t ∷ []) ∙ ap (λ (z : List ModelToken). z ++ t.token ∷ []) h
        ∙ ap (λ (z : ModelToken). Word (codes "sat") ∷ Open ∷ z ∷ []) e)) IsHead.model;
    are = subst (AreDefinitions names []) (sym none) AreDefinitions.none;
    is = sym (append-nil (front ++ t ∷ []));
  }

  begun_name : (ds : List Definition) (front : List Placed) (t : Placed) → t.token ≡ Word (codes "define-fun") → BeginFront names (Open ∷ []) ds front →
      BeginFront names (Open ∷ Word (codes "define-fun") ∷ []) ds (front ++ t ∷ [])
  begun_name ds front t e f = record {
    before = f.before;
    begin = f.begin ++ t ∷ [];
    list = f.list;
    begin_is =
        bare_append f.begin (t ∷ []) ∙ ap (λ (z : List ModelToken). z ++ t.token ∷ []) f.begin_is ∙ ap (λ (z : ModelToken). Open ∷ z ∷ []) e;
    is = ap (λ (z : List Placed). z ++ t ∷ []) f.is ∙ append_assoc f.before f.begin (t ∷ []);
  }

  abbrev pub name_known : (ds : List Definition) (front : List Placed) (t : Placed) (s : Symbol) → is_name t.token ≡ true → known (name_text t.token) ≡ Some s →
      BeginFront names (Open ∷ Word (codes "define-fun") ∷ []) ds front → NamedFront known names [] ds (name_text t.token) s (front ++ t ∷ [])
  name_known ds front t s h e f = record {
    before = f.before;
    begin = f.begin;
    name = t;
    empty = [];
    list = f.list;
    begin_is = f.begin_is;
    name_is = name_is t.token h;
    symbol = e;
    empty_is = refl;
    is = ap (λ (z : List Placed). z ++ t ∷ []) f.is;
  }

  name_other : (ds : List Definition) (front : List Placed) (t : Placed) → is_name t.token ≡ true → known (name_text t.token) ≡ None →
      BeginFront names (Open ∷ Word (codes "define-fun") ∷ []) ds front → PassFront names 0 ds (front ++ t ∷ [])
  name_other ds front t h e f = record {
    before = f.before;
    begin = f.begin;
    name = t;
    text = name_text t.token;
    passed = [];
    list = f.list;
    begin_is = f.begin_is;
    name_is = name_is t.token h;
    other = λ c. let r = is_known known declared knows (name_text t.token) c in
        let x : ◌≡◌ {A = Option Symbol} None (Some r.0) = sym e ∙ r.1 in absurd (cc);
    rest = λ post r. r;
    is = ap (λ (z : List Placed). z ++ t ∷ []) f.is;
  }

  -- a token that is passed over, by its kind and the depth
  passing_step : (d : ℕ) (tr : Trace) (begun n : ℕ) (u : ModelToken) (front : List Placed) (q : Place) → PassFront names d tr.definitions front →
      next_place false (places.Passing d) u ≡ Some q → Front known names q (traced (places.Passing d) None u tr) begun (front ++ at_line n u ∷ [])
  passing_step d tr begun n Open front q f e =
      let same : places.Passing (suc d) ≡ q = ap places.Passing (sym (add-one d)) ∙ (cc) in
      subst (λ (z : Place). Front known names z tr begun (front ++ at_line n Open ∷ [])) same
      (pass_next names d (suc d) tr.definitions front (at_line n Open) f (λ post r. pass_list d post r))
  passing_step zero tr begun n Close front q f e =
      let same : places.List false ≡ q = cc in
      subst (λ (z : Place). Front known names z (record tr { definitions = tr.definitions ++ PassedOver ∷ [] }) begun (front ++ at_line n Close ∷ [])) same
      (passed_whole names 0 tr.definitions front (at_line n Close ∷ []) [] f AreExpressions.none refl)
  passing_step (suc d) tr begun n Close front q f e =
      let same : places.Passing d ≡ q = cc in
      subst (λ (z : Place). Front known names z tr begun (front ++ at_line n Close ∷ [])) same
      (pass_next names (suc d) d tr.definitions front (at_line n Close) f (λ post r. ([], post, AreExpressions.none, refl, r)))
  passing_step d tr begun n (Word w) front q f e =
      let same : places.Passing d ≡ q = cc in
      subst (λ (z : Place). Front known names z tr begun (front ++ at_line n (Word w) ∷ [])) same
      (pass_next names d d tr.definitions front (at_line n (Word w)) f (λ post r. pass_more d (Word w ∷ []) post (IsExpression.word w) r))
  passing_step d tr begun n (Quoted w) front q f e =
      let same : places.Passing d ≡ q = cc in
      subst (λ (z : Place). Front known names z tr begun (front ++ at_line n (Quoted w) ∷ [])) same
      (pass_next names d d tr.definitions front (at_line n (Quoted w)) f (λ post r. pass_more d (Quoted w ∷ []) post (IsExpression.quoted w) r))
  passing_step d tr begun n Text front q f e =
      let same : places.Passing d ≡ q = cc in
      subst (λ (z : Place). Front known names z tr begun (front ++ at_line n Text ∷ [])) same
      (pass_next names d d tr.definitions front (at_line n Text) f (λ post r. pass_more d (Text ∷ []) post IsExpression.string r))
  passing_step d tr begun n Bad front q f e = absurd (cc)

  name_step : (tr : Trace) (begun : ℕ) (front : List Placed) (t : Placed) (q : Place) (o : Option Symbol) → known (name_text t.token) ≡ o →
      BeginFront names (Open ∷ Word (codes "define-fun") ∷ []) tr.definitions front →
      when (is_name t.token) (if is_some o then places.Arguments else places.Passing 0) ≡ Some q →
      Front known names q (named o (name_text t.token) tr) t.line (front ++ t ∷ [])
  name_step tr begun front t q (Some s) h f e =
      let w = when_some (is_name t.token) places.Arguments q e in
      subst (λ (z : Place). Front known names z (named (Some s) (name_text t.token) tr) t.line (front ++ t ∷ [])) w.1
      (name_known tr.definitions front t s w.0 h f, refl, refl)
  name_step tr begun front t q None h f e =
      let w = when_some (is_name t.token) (places.Passing 0) q e in
      subst (λ (z : Place). Front known names z tr t.line (front ++ t ∷ [])) w.1 (name_other tr.definitions front t w.0 h f)

  list_step : (tr : Trace) (begun : ℕ) (front : List Placed) (t : Placed) (q : Place) (first : Bool) (a c m : Bool) → is_open t.token ≡ a →
      is_close t.token ≡ c →
      is_the_word (codes "model") t.token ≡ m → Front known names (places.List first) tr begun front →
      (if a then Some places.Begun else if c then Some places.Done else when (first && m) (places.List false)) ≡ Some q →
      Front known names q tr begun (front ++ t ∷ [])
  list_step tr begun front t q true true c m h i j f e =
      let same : places.Begun ≡ q = cc in
      subst (λ (z : Place). Front known names z tr begun (front ++ t ∷ [])) same
      (list_begun tr.definitions front t (opens t.token h) (first_list tr.definitions front f.0 f.1))
  list_step tr begun front t q false true c m h i j f e =
      let same : places.Begun ≡ q = cc in
      subst (λ (z : Place). Front known names z tr begun (front ++ t ∷ [])) same (list_begun tr.definitions front t (opens t.token h) f)
  list_step tr begun front t q true false true m h i j f e =
      let same : places.Done ≡ q = cc in
      subst (λ (z : Place). Front known names z tr begun (front ++ t ∷ [])) same
      (front, t, first_list tr.definitions front f.0 f.1, closes t.token i, refl)
  list_step tr begun front t q false false true m h i j f e =
      let same : places.Done ≡ q = cc in
      subst (λ (z : Place). Front known names z tr begun (front ++ t ∷ [])) same (front, t, f, closes t.token i, refl)
  list_step tr begun front t q true false false true h i j f e =
      let same : places.List false ≡ q = cc in
      subst (λ (z : Place). Front known names z tr begun (front ++ t ∷ [])) same
      (model_list tr.definitions front t f.0 f.1 (the_word (codes "model") t.token j))
  list_step tr begun front t q true false false false h i j f e = absurd (cc)
  list_step tr begun front t q false false false m h i j f e = absurd (cc)

  sort_place_step : (at : SortPlace) (tr : Trace) (begun : ℕ) (front : List Placed) (t : Placed) (q : Place) (o : Option SortPlace) → sort_next at t.token ≡ o →
      SortFront known names at tr begun front → option_map sort_then o ≡ Some q →
      Front known names q (record tr { sort = tr.sort ++ t.token ∷ [] }) (begun_at (begins (places.Sort at)) t.line begun) (front ++ t ∷ [])
  sort_place_step at tr begun front t q None h f e = absurd (cc)
  sort_place_step at tr begun front t q (Some r) h f e =
      let more = record tr { sort = tr.sort ++ t.token ∷ [] } in
      let line = begun_at (begins (places.Sort at)) t.line begun in
      let same : sort_then r ≡ q = cc in
      subst (λ (z : Place). Front known names z more line (front ++ t ∷ [])) same (sort_front r more line (front ++ t ∷ []) (sort_step at tr begun front t r
      f h))

  -- behind any token that can stand at a place
  pub front_step : (p : Place) (tr : Trace) (begun : ℕ) (front : List Placed) (t : Placed) (q : Place) → Front known names p tr begun front →
      next_place (is_some (symbol_at known p t.token)) p t.token ≡ Some q →
      Front known names q (traced p (symbol_at known p t.token) t.token tr) (begun_at (begins p) t.line begun) (front ++ t ∷ [])
  front_step places.Start tr begun front t q f e =
      let w = when_some (is_the_word (codes "sat") t.token) places.Sat q e in
      subst (λ (z : Place). Front known names z tr begun (front ++ t ∷ [])) w.1 (
        ap (λ (z : List Placed). bare (z ++ t ∷ [])) f.0 ∙ ap (λ (z : ModelToken). z ∷ []) (the_word (codes "sat") t.token w.0),
        f.1,
      )
  front_step places.Sat tr begun front t q f e =
      let w = when_some (is_open t.token) (places.List true) q e in
      subst (λ (z : Place). Front known names z tr begun (front ++ t ∷ [])) w.1 (
        bare_append front (t ∷ []) ∙ ap (λ (z : List ModelToken). z ++ t.token ∷ []) f.0
            ∙ ap (λ (z : ModelToken). Word (codes "sat") ∷ z ∷ []) (opens t.token w.0),
        f.1,
      )
  front_step (places.List first) tr begun front t q f e =
      list_step tr begun front t q first (is_open t.token) (is_close t.token) (is_the_word (codes "model") t.token) refl refl refl f e
  front_step places.Begun tr begun front t q f e =
      let w = when_some (is_the_word (codes "define-fun") t.token) places.Name q e in
      subst (λ (z : Place). Front known names z tr begun (front ++ t ∷ [])) w.1
      (begun_name tr.definitions front t (the_word (codes "define-fun") t.token w.0) f)
  front_step places.Name tr begun front t q f e = name_step tr begun front t q (known (name_text t.token)) refl f e
  front_step (places.Passing d) tr begun front t q f e = passing_step d tr begun t.line t.token front q f e
  front_step places.Arguments tr begun front t q f e =
      let w = when_some (is_open t.token) places.NoArguments q e in
      subst (λ (z : Place). Front known names z tr begun (front ++ t ∷ [])) w.1
      (named_next known names [] tr.definitions tr.name tr.symbol front t Open (opens t.token w.0) f.0, f.2)
  front_step places.NoArguments tr begun front t q f e =
      let w = when_some (is_close t.token) (places.Sort (sorts.Wanted 0)) q e in
      subst (λ (z : Place). Front known names z tr begun (front ++ t ∷ [])) w.1 (record {
        before = front ++ t ∷ [];
        said = [];
        named = named_next known names (Open ∷ []) tr.definitions tr.name tr.symbol front t Close (closes t.token w.0) f.0;
        rest = λ post r. subst IsSortForm (sym (r.is ∙ ap (λ (z : List ModelToken). r.part ++ z) r.after ∙ append-nil r.part)) r.sort;
        sort = f.1;
        line = refl;
        is = sym (append-nil (front ++ t ∷ []));
      })
  front_step (places.Sort at) tr begun front t q f e = sort_place_step at tr begun front t q (sort_next at t.token) refl f e
  front_step (places.Value d) tr begun front t q f e = inside_front (places.Value d) tr begun front t q refl f e
  front_step (places.Opened d) tr begun front t q f e = inside_front (places.Opened d) tr begun front t q refl f e
  front_step (places.As d) tr begun front t q f e = inside_front (places.As d) tr begun front t q refl f e
  front_step (places.Const d) tr begun front t q f e = inside_front (places.Const d) tr begun front t q refl f e
  front_step (places.ConstSort d at) tr begun front t q f e = inside_front (places.ConstSort d at) tr begun front t q refl f e
  front_step (places.ConstClose d) tr begun front t q f e = inside_front (places.ConstClose d) tr begun front t q refl f e
  front_step (places.Bits role d at) tr begun front t q f e = inside_front (places.Bits role d at) tr begun front t q refl f e
  front_step (places.FillClose d) tr begun front t q f e = inside_front (places.FillClose d) tr begun front t q refl f e
  front_step (places.StoreClose d) tr begun front t q f e = inside_front (places.StoreClose d) tr begun front t q refl f e
  front_step places.Closing tr begun front t q f e =
      let w = when_some (is_close t.token) (places.List false) q e in
      subst (λ (z : Place). Front known names z (traced places.Closing None t.token tr) begun (front ++ t ∷ [])) w.1
      (closed_step tr begun front t f (closes t.token w.0))
  front_step places.Done tr begun front t q f e = absurd (cc)

-- ---- the value of a definition that shows no fault

not_behind_sort : (r : SortPlace) → is_closing (sort_then r) ≡ false
not_behind_sort sorts.Whole = refl
not_behind_sort (sorts.Wanted d) = refl
not_behind_sort (sorts.Opened d) = refl
not_behind_sort (sorts.HeadOpened d) = refl
not_behind_sort (sorts.Name head d) = refl
not_behind_sort (sorts.FirstIndex head d) = refl
not_behind_sort (sorts.Indices head d) = refl
not_behind_sort (sorts.More o) = refl

module _ (known : Known) where
  -- where none is met, the value is of its sort
  none_good : (a b : Bool) → when (a && not b) SortFault ≡ None → a ≡ true → b ≡ true
  none_good true true e h = refl
  none_good true false e h = absurd (cc)
  none_good false b e h = absurd (cc)

  name_not_closing : (b c : Bool) (q : Place) → when b (if c then places.Arguments else places.Passing 0) ≡ Some q → is_closing q ≡ true → ⊥
  name_not_closing true true q e h = let same : places.Arguments ≡ q = cc in let x : false ≡ true = ap is_closing same ∙ h in cc
  name_not_closing true false q e h = let same : places.Passing 0 ≡ q = cc in let x : false ≡ true = ap is_closing same ∙ h in cc
  name_not_closing false c q e h = cc

  sort_not_closing : (o : Option SortPlace) (q : Place) → option_map sort_then o ≡ Some q → is_closing q ≡ true → ⊥
  sort_not_closing None q e h = cc
  sort_not_closing (Some r) q e h =
      let same : sort_then r ≡ q = cc in let x : false ≡ true = sym (not_behind_sort r) ∙ ap is_closing same ∙ h in cc

  pub step_good : (p : Place) (tr : Trace) (t : Placed) (q : Place) → next_place (is_some (symbol_at known p t.token)) p t.token ≡ Some q →
      fault_at p (symbol_at known p t.token) q (traced p (symbol_at known p t.token) t.token tr) ≡ None → is_closing q ≡ true →
      is_of_sort (sort_of (traced p (symbol_at known p t.token) t.token tr).symbol) (traced p (symbol_at known p t.token) t.token tr).value ≡ true
  step_good places.Name tr t q e g h = absurd (name_not_closing (is_name t.token) (is_some (known (name_text t.token))) q e h)
  step_good (places.Sort at) tr t q e g h = absurd (sort_not_closing (sort_next at t.token) q e h)
  step_good places.Start tr t q e g h = none_good (is_closing q) _ g h
  step_good places.Sat tr t q e g h = none_good (is_closing q) _ g h
  step_good (places.List first) tr t q e g h = none_good (is_closing q) _ g h
  step_good places.Begun tr t q e g h = none_good (is_closing q) _ g h
  step_good (places.Passing d) tr t q e g h = none_good (is_closing q) _ g h
  step_good places.Arguments tr t q e g h = none_good (is_closing q) _ g h
  step_good places.NoArguments tr t q e g h = none_good (is_closing q) _ g h
  step_good (places.Value d) tr t q e g h = none_good (is_closing q) _ g h
  step_good (places.Opened d) tr t q e g h = none_good (is_closing q) _ g h
  step_good (places.As d) tr t q e g h = none_good (is_closing q) _ g h
  step_good (places.Const d) tr t q e g h = none_good (is_closing q) _ g h
  step_good (places.ConstSort d at) tr t q e g h = none_good (is_closing q) _ g h
  step_good (places.ConstClose d) tr t q e g h = none_good (is_closing q) _ g h
  step_good (places.Bits role d at) tr t q e g h = none_good (is_closing q) _ g h
  step_good (places.FillClose d) tr t q e g h = none_good (is_closing q) _ g h
  step_good (places.StoreClose d) tr t q e g h = none_good (is_closing q) _ g h
  step_good places.Closing tr t q e g h = none_good (is_closing q) _ g h
  step_good places.Done tr t q e g h = none_good (is_closing q) _ g h
