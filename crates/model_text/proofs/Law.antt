-- What is answered to the text of an answer is right.
use Rattle.std.proofs.Common.{◌≡◌, ◌≢◌, ℕ, zero, suc, arith, Bool, true, false, List, [], ◌∷◌, ◌++◌, Option, Some, None, refl, sym, ap, ◌∙◌, subst, append_assoc, inl, inr}
use Rattle.std.specs.Prelude.{◌&&◌, not, if◌then◌else◌, codes, is_some, Contains}
use Rattle.std.specs.Option.{option_map}
use Rattle.std.proofs.lemmas.List.{append-nil}
use Rattle.std.proofs.lemmas.List.Elements.{Contains-push_cases}
use Rattle.model_spec.specs.ModelText.{ModelToken, Placed, at_line, Word, Value, Definition, Gives, PassedOver, Declared, Sort, names_of, HasForm, IsSort, IsOfSort, ModelFault, AnswerFault, SyntaxFault, SortFault, TwiceFault, bare, line_or, line_after, placed_tokens, BeginsWithSat, StandsBehind, BeginsWith, ModelFaultApplies, IsFront}
use Rattle.model_spec.specs.Models.{given}
use Rattle.model_text.specs.declared.sort_place.SortPlace.{SortPlace}
use Rattle.model_text.specs.declared.sort_place.SortPlace.TheVariants as sorts
use Rattle.model_text.specs.declared.place.Place.{Place}
use Rattle.model_text.specs.declared.place.Place.TheVariants as places
use Rattle.model_text.specs.declared.symbol.Symbol.{Symbol}
use Rattle.model_text.specs.Tokens.{is_close, is_name, is_the_word, name_text, when}
use Rattle.model_text.specs.Symbols.{sort_of, pattern_of}
use Rattle.model_text.specs.Pieces.{left_of, is_done}
use Rattle.model_text.specs.Sorts.{sort_next}
use Rattle.model_text.specs.Places.{next_place, sort_then, begins, is_closing, is_value}
use Rattle.model_text.specs.Faults.{Found, found, first_fault, with_fault}
use Rattle.model_text.specs.Traces.{Trace, Known, At, start, Outcome, Whole, Refused, named, traced, passed_trace, begun_at, behind, next_at, symbol_at, is_of_sort, fault_at, fault_before, refused, whole, moved, judged}
use Rattle.model_text.specs.Judgements.{IsRight}
use Rattle.model_text.proofs.SortForms.{go, the_word, when_some}
use Rattle.model_text.proofs.Runs.{stand}
use Rattle.model_text.proofs.AnswerForms.{Knows, form_read}
use Rattle.model_text.proofs.Fronts.{bare_append, bare_placed, placed, IsLine, ListFront, NamedFront, SortFront, ValueFront, Front, no_arguments, is_front, list_closed, parts_assoc}
use Rattle.model_text.proofs.Steps.{same_rest, front_step, sort_step, sort_form, given_value, name_known, step_good}
use Rattle.model_text.proofs.SortTests.{sort_done, done_sort, of_sort, sort_of_value, given_gives, gives_given}
use Rattle.model_text.proofs.FirstFaults.{NoLater, no_later, itself, KeptBelow, kept_new, kept_one, first_one, first_below, none_kept, at, at_run, Below, ended_by, step_at, at_then, at_front, runs, judged_behind, judged_below}
use Rattle.model_text.proofs.MetFaults.{list_met, NameMet, name_met, sort_is_met, value_is_met}

-- each value that is given is of the sort of its symbol
abbrev pub AreSorted : Known → List Definition → Type 0
AreSorted known ds =
    (w : List ℕ) (sort : List ModelToken) (v : Value) → Contains ds (Gives w sort v) → (s : Symbol) × (known w ≡ Some s) × (is_of_sort (sort_of s) v ≡ true)

true_not : (b : Bool) → not b ≡ true → b ≡ false
true_not true h = cc
true_not false h = refl

not_true : (b : Bool) → (b ≡ true → ⊥) → b ≡ false
not_true true h = absurd (h refl)
not_true false h = refl

and_parts : (a b : Bool) → (a && b) ≡ true → (a ≡ true) × (b ≡ true)
and_parts true b h = (refl, h)
and_parts false b h = absurd (cc)

tail_assoc : (a b c d : List Placed) → ((a ++ b) ++ c) ++ d ≡ a ++ ((b ++ c) ++ d)
tail_assoc a b c d = ap (λ (z : List Placed). z ++ d) (append_assoc a b c) ∙ append_assoc a (b ++ c) d

three_assoc : (a b c d e : List Placed) → (((a ++ b) ++ c) ++ d) ++ e ≡ a ++ (((b ++ c) ++ d) ++ e)
three_assoc a b c d e = ap (λ (z : List Placed). z ++ d ++ e) (append_assoc a b c) ∙ tail_assoc a (b ++ c) d e

some_same : {A : Type 0} (a b : A) → Some a ≡ Some b → a ≡ b
some_same a b e = cc

line_from : (n : ℕ) (ts : List Placed) → IsLine false n ts → n ≡ line_or 0 ts
line_from n [] h = absurd (cc)
line_from n (t ∷ ts) h = h.1

is_the_closing : (q : Place) → is_closing q ≡ true → q ≡ places.Closing
is_the_closing places.Closing h = refl
is_the_closing places.Start h = absurd (cc)
is_the_closing places.Sat h = absurd (cc)
is_the_closing (places.List first) h = absurd (cc)
is_the_closing places.Begun h = absurd (cc)
is_the_closing places.Name h = absurd (cc)
is_the_closing (places.Passing d) h = absurd (cc)
is_the_closing places.Arguments h = absurd (cc)
is_the_closing places.NoArguments h = absurd (cc)
is_the_closing (places.Sort r) h = absurd (cc)
is_the_closing (places.Value d) h = absurd (cc)
is_the_closing (places.Opened d) h = absurd (cc)
is_the_closing (places.As d) h = absurd (cc)
is_the_closing (places.Const d) h = absurd (cc)
is_the_closing (places.ConstSort d r) h = absurd (cc)
is_the_closing (places.ConstClose d) h = absurd (cc)
is_the_closing (places.Bits role d r) h = absurd (cc)
is_the_closing (places.FillClose d) h = absurd (cc)
is_the_closing (places.StoreClose d) h = absurd (cc)
is_the_closing places.Done h = absurd (cc)

-- a sort that ends where a value begins
sort_ends : (r : SortPlace) → is_value (sort_then r) ≡ true → r ≡ sorts.Whole
sort_ends sorts.Whole h = refl
sort_ends (sorts.Wanted d) h = absurd (cc)
sort_ends (sorts.Opened d) h = absurd (cc)
sort_ends (sorts.HeadOpened d) h = absurd (cc)
sort_ends (sorts.Name head d) h = absurd (cc)
sort_ends (sorts.FirstIndex head d) h = absurd (cc)
sort_ends (sorts.Indices head d) h = absurd (cc)
sort_ends (sorts.More o) h = absurd (cc)

-- the fault of a token that can't stand at a place
before_by : (P : ModelFault → Type 0) (p : Place) → (p ≡ places.Start → P AnswerFault) → (p ≢ places.Start → P SyntaxFault) → P (fault_before p)
before_by P places.Start h k = h refl
before_by P places.Sat h k = k (λ e. cc)
before_by P (places.List first) h k = k (λ e. cc)
before_by P places.Begun h k = k (λ e. cc)
before_by P places.Name h k = k (λ e. cc)
before_by P (places.Passing d) h k = k (λ e. cc)
before_by P places.Arguments h k = k (λ e. cc)
before_by P places.NoArguments h k = k (λ e. cc)
before_by P (places.Sort at) h k = k (λ e. cc)
before_by P (places.Value d) h k = k (λ e. cc)
before_by P (places.Opened d) h k = k (λ e. cc)
before_by P (places.As d) h k = k (λ e. cc)
before_by P (places.Const d) h k = k (λ e. cc)
before_by P (places.ConstSort d at) h k = k (λ e. cc)
before_by P (places.ConstClose d) h k = k (λ e. cc)
before_by P (places.Bits role d at) h k = k (λ e. cc)
before_by P (places.FillClose d) h k = k (λ e. cc)
before_by P (places.StoreClose d) h k = k (λ e. cc)
before_by P places.Closing h k = k (λ e. cc)
before_by P places.Done h k = k (λ e. cc)

module _ (known : Known) (declared : List Declared) (knows : Knows known declared) where
  abbrev names : List (List ℕ)
  names = names_of declared

  -- ---- values that are given are of their sorts

  sorted_more : (ds : List Definition) (d : Definition) → AreSorted known ds →
      ((w : List ℕ) (sort : List ModelToken) (v : Value) → d ≡ Gives w sort v → (s : Symbol) × (known w ≡ Some s) × (is_of_sort (sort_of s) v ≡ true)) →
      AreSorted known (ds ++ d ∷ [])
  sorted_more ds d h one w sort v c = elim (Contains-push_cases ds d (Gives w sort v) c) [ inl t ↦ h w sort v t | inr t ↦ one w sort v t ]

  sorted_closed : (tr : Trace) → AreSorted known tr.definitions → known tr.name ≡ Some tr.symbol → is_of_sort (sort_of tr.symbol) tr.value ≡ true →
      AreSorted known (tr.definitions ++ Gives tr.name tr.sort tr.value ∷ [])
  sorted_closed tr h e good = sorted_more tr.definitions (Gives tr.name tr.sort tr.value) h (λ w sort v same.
      let name : tr.name ≡ w = cc in
      let value : tr.value ≡ v = cc in
      (tr.symbol, ap known (sym name) ∙ e, ap (λ (z : Value). is_of_sort (sort_of tr.symbol) z) (sym value) ∙ good))

  sorted_passed : (d : ℕ) (tr : Trace) → AreSorted known tr.definitions → AreSorted known (passed_trace d tr).definitions
  sorted_passed zero tr h = sorted_more tr.definitions PassedOver h (λ w sort v same. absurd (cc))
  sorted_passed (suc d) tr h = h

  sorted_named : (o : Option Symbol) (w : List ℕ) (tr : Trace) → AreSorted known tr.definitions → AreSorted known (named o w tr).definitions
  sorted_named None w tr h = h
  sorted_named (Some s) w tr h = h

  sorted_step : (p : Place) (o : Option Symbol) (t : ModelToken) (tr : Trace) → AreSorted known tr.definitions →
      (p ≡ places.Closing → (known tr.name ≡ Some tr.symbol) × (is_of_sort (sort_of tr.symbol) tr.value ≡ true)) →
      AreSorted known (traced p o t tr).definitions
  sorted_step places.Name o t tr h c = sorted_named o (name_text t) tr h
  sorted_step (places.Passing d) o t tr h c = by (is_close t)
    where
      by : (b : Bool) → AreSorted known (if b then passed_trace d tr else tr).definitions
      by true = sorted_passed d tr h
      by false = h
  sorted_step places.Closing o t tr h c = let r = c refl in sorted_closed tr h r.0 r.1
  sorted_step places.Start o t tr h c = h
  sorted_step places.Sat o t tr h c = h
  sorted_step (places.List first) o t tr h c = h
  sorted_step places.Begun o t tr h c = h
  sorted_step places.Arguments o t tr h c = h
  sorted_step places.NoArguments o t tr h c = h
  sorted_step (places.Sort at) o t tr h c = h
  sorted_step (places.Value d) o t tr h c = subst (AreSorted known) (sym (same_rest (places.Value d) t tr refl).definitions) h
  sorted_step (places.Opened d) o t tr h c = h
  sorted_step (places.As d) o t tr h c = h
  sorted_step (places.Const d) o t tr h c = h
  sorted_step (places.ConstSort d at) o t tr h c = h
  sorted_step (places.ConstClose d) o t tr h c = h
  sorted_step (places.Bits role d at) o t tr h c = subst (AreSorted known) (sym (same_rest (places.Bits role d at) t tr refl).definitions) h
  sorted_step (places.FillClose d) o t tr h c = h
  sorted_step (places.StoreClose d) o t tr h c = h
  sorted_step places.Done o t tr h c = h

  module _ (text : List ℕ) where
    abbrev all : List Placed
    all = placed_tokens text

    abbrev last : ℕ
    last = line_after text

    abbrev Applies : Found → Type 0
    Applies f = ModelFaultApplies declared text f.line f.fault

    -- ---- faults that are met apply

    stands : (before behind : List Placed) (ds : List Definition) → ListFront names before ds → all ≡ before ++ behind → StandsBehind declared all ds behind
    stands before behind ds f e = record {
      head = f.head;
      defined = f.defined;
      is_head = f.is_head;
      are = f.are;
      tokens = e ∙ ap (λ (z : List Placed). z ++ behind) f.is;
    }

    -- the definition that a name begins
    defines : (tokens : List ModelToken) (ds : List Definition) (w : List ℕ) (s : Symbol) (front rest : List Placed)
        (n : NamedFront known names tokens ds w s front) →
        BeginsWith declared (n.begin ++ (n.name ∷ (n.empty ++ rest))) (record { name = w; sort = sort_of s }) n.name.line (n.empty ++ rest)
    defines tokens ds w s front rest n = record {
      symbol = knows.found w s n.symbol;
      begin = n.begin;
      name = n.name;
      begin_is = n.begin_is;
      name_is = n.name_is;
      line_is = refl;
      tokens = refl;
    }

    named_tokens : (tokens : List ModelToken) (ds : List Definition) (w : List ℕ) (s : Symbol) (front rest : List Placed)
        (n : NamedFront known names tokens ds w s front) → all ≡ front ++ rest → all ≡ n.before ++ (n.begin ++ (n.name ∷ (n.empty ++ rest)))
    named_tokens tokens ds w s front rest n e =
        let shape : ((n.before ++ n.begin) ++ (n.name ∷ n.empty)) ++ rest ≡ n.before ++ (n.begin ++ (n.name ∷ (n.empty ++ rest))) =
        parts_assoc n.before n.begin n.name n.empty rest in
        e ∙ ap (λ (z : List Placed). z ++ rest) n.is ∙ shape

    twice_applies : (ds : List Definition) (w : List ℕ) (s : Symbol) (front rest : List Placed) (n : NamedFront known names [] ds w s front) →
        all ≡ front ++ rest → is_some (given ds w) ≡ true → Applies (found n.name.line TwiceFault)
    twice_applies ds w s front rest n e h = by (given ds w) refl h
      where
        by : (o : Option Value) → given ds w ≡ o → is_some o ≡ true → Applies (found n.name.line TwiceFault)
        by None f g = absurd (cc)
        by (Some v) f g =
            let c = given_gives ds w v f in
            let behind = n.begin ++ (n.name ∷ (n.empty ++ rest)) in
            ModelFaultApplies.twice {ds = ds} {d = record { name = w; sort = sort_of s }} {line = n.name.line} {behind = behind} {rest = n.empty ++ rest} c.0 v
            (stands n.before behind ds n.list (named_tokens [] ds w s front rest n e)) (defines [] ds w s front rest n) c.1

    sort_applies : (tr : Trace) (begun : ℕ) (front rest : List Placed) → SortFront known names sorts.Whole tr begun front → all ≡ front ++ rest →
        is_done (left_of (pattern_of tr.symbol) tr.sort) ≡ false → Applies (found begun SortFault)
    sort_applies tr begun front rest f e bad =
        let n = f.named in
        let tail = (n.empty ++ f.said) ++ rest in
        let behind = n.begin ++ (n.name ∷ tail) in
        let here : all ≡ f.before ++ (f.said ++ rest) = e ∙ ap (λ (z : List Placed). z ++ rest) f.is ∙ append_assoc f.before f.said rest in
        let tokens : all ≡ n.before ++ behind =
        named_tokens no_arguments tr.definitions tr.name tr.symbol f.before (f.said ++ rest) n here
        ∙ ap (λ (z : List Placed). n.before ++ (n.begin ++ (n.name ∷ z))) (sym (append_assoc n.empty f.said rest)) in
        let begins_it : BeginsWith declared behind (record { name = tr.name; sort = sort_of tr.symbol }) n.name.line tail =
        record {
          symbol = knows.found tr.name tr.symbol n.symbol;
          begin = n.begin;
          name = n.name;
          begin_is = n.begin_is;
          name_is = n.name_is;
          line_is = refl;
          tokens = refl;
        } in
        let other : ¬ IsSort (sort_of tr.symbol) (bare f.said) = λ is.
        let good = ap (λ (z : List ModelToken). is_done (left_of (pattern_of tr.symbol) z)) f.sort ∙ sort_done tr.symbol (bare f.said) is in
        let x : true ≡ false = sym good ∙ bad in cc in
        subst (λ (z : ℕ). ModelFaultApplies declared text z SortFault) (sym (line_from begun f.said f.line))
        (ModelFaultApplies.sort {ds = tr.definitions} {d = record { name = tr.name; sort = sort_of tr.symbol }} {line = n.name.line} {behind = behind}
        n.empty f.said rest (stands n.before behind tr.definitions n.list tokens) begins_it n.empty_is (sort_form known declared knows tr begun front f) other)

    value_applies : (tr : Trace) (begun : ℕ) (front rest : List Placed) → ValueFront known names places.Closing tr begun front → all ≡ front ++ rest →
        is_of_sort (sort_of tr.symbol) tr.value ≡ false → Applies (found begun SortFault)
    value_applies tr begun front rest f e bad =
        let n = f.named in
        let tail = ((n.empty ++ f.said) ++ f.given) ++ rest in
        let behind = n.begin ++ (n.name ∷ tail) in
        let here : all ≡ f.before ++ ((f.said ++ f.given) ++ rest) =
        e ∙ ap (λ (z : List Placed). z ++ rest) f.is ∙ append_assoc f.before (f.said ++ f.given) rest in
        let shape : n.empty ++ ((f.said ++ f.given) ++ rest) ≡ tail = sym (tail_assoc n.empty f.said f.given rest) in
        let tokens : all ≡ n.before ++ behind =
        named_tokens no_arguments tr.definitions tr.name tr.symbol f.before ((f.said ++ f.given) ++ rest) n here
        ∙ ap (λ (z : List Placed). n.before ++ (n.begin ++ (n.name ∷ z))) shape in
        let begins_it : BeginsWith declared behind (record { name = tr.name; sort = sort_of tr.symbol }) n.name.line tail =
        record {
          symbol = knows.found tr.name tr.symbol n.symbol;
          begin = n.begin;
          name = n.name;
          begin_is = n.begin_is;
          name_is = n.name_is;
          line_is = refl;
          tokens = refl;
        } in
        let other : ¬ IsOfSort (sort_of tr.symbol) tr.value = λ is.
        let x : true ≡ false = sym (sort_of_value (sort_of tr.symbol) tr.value is) ∙ bad in cc in
        subst (λ (z : ℕ). ModelFaultApplies declared text z SortFault) (sym (line_from begun f.given f.line))
        (ModelFaultApplies.value {ds = tr.definitions} {d = record { name = tr.name; sort = sort_of tr.symbol }} {line = n.name.line} {behind = behind}
        n.empty f.said f.given rest {v = tr.value} (stands n.before behind tr.definitions n.list tokens) begins_it n.empty_is f.form
        (given_value known declared knows tr begun front f) other)

    -- behind a token, where a fault is met
    name_applies : (o : Option Symbol) (tr : Trace) (front rest : List Placed) (t : Placed) (q : Place) (f : ModelFault) (begun : ℕ) →
        known (name_text t.token) ≡ o → Front known names places.Name tr begun front → is_name t.token ≡ true → all ≡ (front ++ t ∷ []) ++ rest →
        fault_at places.Name o q (named o (name_text t.token) tr) ≡ Some f → Applies (found t.line f)
    name_applies None tr front rest t q f begun h front_is name e g = absurd (cc)
    name_applies (Some s) tr front rest t q f begun h front_is name e g =
        let w = when_some (is_some (given tr.definitions (name_text t.token))) TwiceFault f g in
        let n = name_known known declared knows tr.definitions front t s name h front_is in
        subst (λ (z : ModelFault). Applies (found t.line z)) w.1 (twice_applies tr.definitions (name_text t.token) s (front ++ t ∷ []) rest n e w.0)

    is_a_name : (b c : Bool) (p q r : Place) → when b (if c then p else q) ≡ Some r → b ≡ true
    is_a_name true c p q r e = refl
    is_a_name false c p q r e = absurd (cc)

    sort_place_applies : (o : Option SortPlace) (at : SortPlace) (tr : Trace) (front rest : List Placed) (t : Placed) (q : Place) (f : ModelFault) (begun : ℕ) →
        sort_next at t.token ≡ o → Front known names (places.Sort at) tr begun front → option_map sort_then o ≡ Some q → all ≡ (front ++ t ∷ []) ++ rest →
        fault_at (places.Sort at) None q (record tr { sort = tr.sort ++ t.token ∷ [] }) ≡ Some f →
        Applies (found (begun_at (begins (places.Sort at)) t.line begun) f)
    sort_place_applies None at tr front rest t q f begun h front_is e all_is g = absurd (cc)
    sort_place_applies (Some r) at tr front rest t q f begun h front_is e all_is g =
        let more = record tr { sort = tr.sort ++ t.token ∷ [] } in
        let place : sort_then r ≡ q = cc in
        let w = when_some (is_value q && not (is_done (left_of (pattern_of more.symbol) more.sort))) SortFault f g in
        let p = and_parts (is_value q) (not (is_done (left_of (pattern_of more.symbol) more.sort))) w.0 in
        let ends : r ≡ sorts.Whole = sort_ends r (ap is_value place ∙ p.0) in
        let whole_sort = sort_step known declared knows at tr begun front t sorts.Whole front_is (h ∙ ap (λ (z : SortPlace). Some z) ends) in
        subst (λ (z : ModelFault). Applies (found (begun_at (begins (places.Sort at)) t.line begun) z)) w.1
        (sort_applies more (begun_at (begins (places.Sort at)) t.line begun) (front ++ t ∷ []) rest whole_sort all_is (true_not _ p.1))

    closing_applies : (tr : Trace) (front rest : List Placed) (q : Place) (f : ModelFault) (begun : ℕ) → Front known names q tr begun front →
        all ≡ front ++ rest →
        when (is_closing q && not (is_of_sort (sort_of tr.symbol) tr.value)) SortFault ≡ Some f → Applies (found begun f)
    closing_applies tr front rest q f begun front_is e g =
        let w = when_some (is_closing q && not (is_of_sort (sort_of tr.symbol) tr.value)) SortFault f g in
        let p = and_parts (is_closing q) (not (is_of_sort (sort_of tr.symbol) tr.value)) w.0 in
        let closing = subst (λ (z : Place). Front known names z tr begun front) (is_the_closing q p.0) front_is in
        subst (λ (z : ModelFault). Applies (found begun z)) w.1 (value_applies tr begun front rest closing e (true_not _ p.1))

    behind_applies : (p : Place) (tr : Trace) (begun : ℕ) (front rest : List Placed) (t : Placed) (q : Place) (f : ModelFault) →
        Front known names p tr begun front →
        next_place (is_some (symbol_at known p t.token)) p t.token ≡ Some q → all ≡ (front ++ t ∷ []) ++ rest →
        when (is_closing q && not (is_of_sort (sort_of (traced p (symbol_at known p t.token) t.token tr).symbol)
        (traced p (symbol_at known p t.token) t.token tr).value)) SortFault ≡ Some f → Applies (found (begun_at (begins p) t.line begun) f)
    behind_applies p tr begun front rest t q f front_is e all_is g =
        closing_applies (traced p (symbol_at known p t.token) t.token tr) (front ++ t ∷ []) rest q f (begun_at (begins p) t.line begun)
        (front_step known declared knows p tr begun front t q front_is e) all_is g

    step_applies : (p : Place) (tr : Trace) (begun : ℕ) (front rest : List Placed) (t : Placed) (q : Place) (f : ModelFault) →
        Front known names p tr begun front →
        next_place (is_some (symbol_at known p t.token)) p t.token ≡ Some q → all ≡ (front ++ t ∷ []) ++ rest →
        fault_at p (symbol_at known p t.token) q (traced p (symbol_at known p t.token) t.token tr) ≡ Some f →
        Applies (found (begun_at (begins p) t.line begun) f)
    step_applies places.Name tr begun front rest t q f front_is e all_is g =
        name_applies (known (name_text t.token)) tr front rest t q f begun refl front_is
        (is_a_name (is_name t.token) (is_some (known (name_text t.token))) places.Arguments (places.Passing 0) q e) all_is g
    step_applies (places.Sort at) tr begun front rest t q f front_is e all_is g =
        sort_place_applies (sort_next at t.token) at tr front rest t q f begun refl front_is e all_is g
    step_applies places.Start tr begun front rest t q f front_is e all_is g = behind_applies places.Start tr begun front rest t q f front_is e all_is g
    step_applies places.Sat tr begun front rest t q f front_is e all_is g = behind_applies places.Sat tr begun front rest t q f front_is e all_is g
    step_applies (places.List first) tr begun front rest t q f front_is e all_is g = behind_applies (places.List first) tr begun front rest t q f front_is e
        all_is g
    step_applies places.Begun tr begun front rest t q f front_is e all_is g = behind_applies places.Begun tr begun front rest t q f front_is e all_is g
    step_applies (places.Passing d) tr begun front rest t q f front_is e all_is g = behind_applies (places.Passing d) tr begun front rest t q f front_is e
        all_is g
    step_applies places.Arguments tr begun front rest t q f front_is e all_is g = behind_applies places.Arguments tr begun front rest t q f front_is e all_is g
    step_applies places.NoArguments tr begun front rest t q f front_is e all_is g = behind_applies places.NoArguments tr begun front rest t q f front_is e
        all_is g
    step_applies (places.Value d) tr begun front rest t q f front_is e all_is g = behind_applies (places.Value d) tr begun front rest t q f front_is e all_is g
    step_applies (places.Opened d) tr begun front rest t q f front_is e all_is g = behind_applies (places.Opened d) tr begun front rest t q f front_is e
        all_is g
    step_applies (places.As d) tr begun front rest t q f front_is e all_is g = behind_applies (places.As d) tr begun front rest t q f front_is e all_is g
    step_applies (places.Const d) tr begun front rest t q f front_is e all_is g = behind_applies (places.Const d) tr begun front rest t q f front_is e all_is g
    step_applies (places.ConstSort d at) tr begun front rest t q f front_is e all_is g = behind_applies (places.ConstSort d at) tr begun front rest t q f
        front_is e all_is g
    step_applies (places.ConstClose d) tr begun front rest t q f front_is e all_is g = behind_applies (places.ConstClose d) tr begun front rest t q f
        front_is e all_is g
    step_applies (places.Bits role d at) tr begun front rest t q f front_is e all_is g = behind_applies (places.Bits role d at) tr begun front rest t q f
        front_is e all_is g
    step_applies (places.FillClose d) tr begun front rest t q f front_is e all_is g = behind_applies (places.FillClose d) tr begun front rest t q f front_is
        e all_is g
    step_applies (places.StoreClose d) tr begun front rest t q f front_is e all_is g = behind_applies (places.StoreClose d) tr begun front rest t q f
        front_is e all_is g
    step_applies places.Closing tr begun front rest t q f front_is e all_is g = behind_applies places.Closing tr begun front rest t q f front_is e all_is g
    step_applies places.Done tr begun front rest t q f front_is e all_is g = behind_applies places.Done tr begun front rest t q f front_is e all_is g

    -- ---- the reading

    -- what holds behind a front of the tokens
    pub record IsHere (s : At) (front : List Placed) : Type 0 where
      pub front_is : Front known names s.place s.trace s.begun front
      pub is : at_run known start front ≡ Some s
      pub kept : (f : Found) → s.kept ≡ Some f → Applies f
      pub sorted : s.kept ≡ None → AreSorted known s.trace.definitions
      pub closing : s.kept ≡ None → s.place ≡ places.Closing → is_of_sort (sort_of s.trace.symbol) s.trace.value ≡ true

    here_start : IsHere start []
    here_start = record {
      front_is = (refl, refl);
      is = refl;
      kept = λ f e. absurd (cc);
      sorted = λ e w sort v c. absurd (omega (arith, c.1));
      closing = λ e c. absurd (cc);
    }

    closing_symbol : (p : Place) (tr : Trace) (begun : ℕ) (front : List Placed) → Front known names p tr begun front → p ≡ places.Closing →
        known tr.name ≡ Some tr.symbol
    closing_symbol p tr begun front f e = let c = subst (λ (z : Place). Front known names z tr begun front) e f in c.named.symbol

    here_step : (s n : At) (front rest : List Placed) (t : Placed) → IsHere s front → next_at known s t ≡ Some n → all ≡ (front ++ t ∷ []) ++ rest →
        IsHere n (front ++ t ∷ [])
    here_step s n front rest t h e all_is =
        let r = step_at known s t n e in
        let o = symbol_at known s.place t.token in
        let next = behind s o t r.0 in
        let fault = fault_at s.place o r.0 next.trace in
        let ran : at_run known start (front ++ t ∷ []) ≡ Some n =
        at_then known front (t ∷ []) start s (Some n) h.is (ap (λ (z : Option At). go z (λ m. Some m)) e) in
        subst (λ (z : At). at_run known start (front ++ t ∷ []) ≡ Some z → IsHere z (front ++ t ∷ [])) r.2 (λ run_is. record {
          front_is = front_step known declared knows s.place s.trace s.begun front t r.0 h.front_is r.1;
          is = run_is;
          kept = λ f g. kept_one Applies s.kept fault next.begun f h.kept
              (λ k j. step_applies s.place s.trace s.begun front rest t r.0 k h.front_is r.1 all_is j) g;
          sorted = λ g. let p = none_kept s.kept fault next.begun g in sorted_step s.place o t.token s.trace (h.sorted p.0) (λ c. (
            closing_symbol s.place s.trace s.begun front h.front_is c,
            h.closing p.0 c,
          ));
          closing = λ g c. let p = none_kept s.kept fault next.begun g in step_good known s.place s.trace t r.0 r.1 p.1 (ap is_closing c);
        }) ran

    -- ---- what is answered

    abbrev Right : Outcome → Type 0
    Right (Whole ds) = HasForm names (bare all) ds × AreSorted known ds
    Right (Refused f) = Applies f

    -- no answer goes on with a token that can't stand at a place
    no_front : (s : At) (front : List Placed) (t : Placed) → IsHere s front → next_at known s t ≡ None → ¬ IsFront names (bare front ++ t.token ∷ [])
    no_front s front t h e f =
        let more = placed f.0 in
        let shape : bare (front ++ (t ∷ more)) ≡ (bare front ++ t.token ∷ []) ++ f.0 =
        bare_append front (t ∷ more) ∙ ap (λ (z : List ModelToken). bare front ++ (t.token ∷ z)) (bare_placed f.0) ∙ sym (append_assoc (bare front) (t.token
        ∷ []) f.0) in
        let form : HasForm names (bare (front ++ (t ∷ more))) f.1 = subst (λ (z : List ModelToken). HasForm names z f.1) (sym shape) f.2 in
        let r = form_read known declared knows (bare (front ++ (t ∷ more))) f.1 form in
        let n = runs known (front ++ (t ∷ more)) start (stand places.Done r.0) r.1 in
        let m = at_front known front (t ∷ more) start n.0 n.1 in
        let same : m.0 ≡ s = some_same (m.0) s (sym m.1 ∙ h.is) in
        let x : go (next_at known s t) (λ z. at_run known z more) ≡ Some n.0 = subst (λ (z : At). at_run known z (t ∷ more) ≡ Some n.0) same m.2 in
        let y : None ≡ Some n.0 = sym (ap (λ (z : Option At). go z (λ z. at_run known z more)) e) ∙ x in cc

    -- the text ends before an answer does
    no_form : (s : At) → IsHere s all → s.place ≢ places.Done → (ds : List Definition) → ¬ HasForm names (bare all) ds
    no_form s h other ds form =
        let r = form_read known declared knows (bare all) ds form in
        let n = runs known all start (stand places.Done r.0) r.1 in
        let same : n.0 ≡ s = some_same n.0 s (sym n.1 ∙ h.is) in
        other (ap (λ (z : At). z.place) (sym same) ∙ n.2)

    refused_right : (s : At) (line : ℕ) → ((f : Found) → s.kept ≡ Some f → Applies f) → Applies (found line (fault_before s.place)) → Right (refused s line)
    refused_right s line old new = first_one Applies s.kept (found line (fault_before s.place)) old new

    -- at a token
    token_applies : (s : At) (front rest : List Placed) (t : Placed) → IsHere s front → all ≡ front ++ (t ∷ rest) → next_at known s t ≡ None →
        Applies (found t.line (fault_before s.place))
    token_applies s front rest t h e none = before_by (λ f. Applies (found t.line f)) s.place at_start (λ _. within)
      where
        within : Applies (found t.line SyntaxFault)
        within =
            ModelFaultApplies.token front t rest e (is_front known declared knows s.place s.trace s.begun front h.front_is) (no_front s front t h none)

        at_start : s.place ≡ places.Start → Applies (found t.line AnswerFault)
        at_start start_is =
            let f = subst (λ (z : Place). Front known names z s.trace s.begun front) start_is h.front_is in
            let whole_is : all ≡ t ∷ rest = e ∙ ap (λ (z : List Placed). z ++ (t ∷ rest)) f.0 in
            let no_sat : ¬ BeginsWithSat all = λ b.
            let word : t.token ≡ Word (codes "sat") = subst BeginsWithSat whole_is b in
            let going : next_at known (at places.Start s.trace s.begun s.kept) (at_line t.line (Word (codes "sat"))) ≡ None =
            ap (λ (z : ModelToken). next_at known (at places.Start s.trace s.begun s.kept) (at_line t.line z)) (sym word)
            ∙ ap (λ (z : Place). next_at known (at z s.trace s.begun s.kept) t) (sym start_is) ∙ none in cc in
            subst (λ (z : ℕ). ModelFaultApplies declared text z AnswerFault) (ap (line_or last) whole_is) (ModelFaultApplies.answer no_sat)

    -- at the end of the text
    end_applies : (s : At) → IsHere s all → s.place ≢ places.Done → Applies (found last (fault_before s.place))
    end_applies s h other = before_by (λ f. Applies (found last f)) s.place at_start (λ _. within)
      where
        within : Applies (found last SyntaxFault)
        within = ModelFaultApplies.ended (is_front known declared knows s.place s.trace s.begun all h.front_is) (no_form s h other)

        at_start : s.place ≡ places.Start → Applies (found last AnswerFault)
        at_start start_is =
            let f = subst (λ (z : Place). Front known names z s.trace s.begun all) start_is h.front_is in
            let no_sat : ¬ BeginsWithSat all = λ b. let x = subst BeginsWithSat f.0 b in x in
            subst (λ (z : ℕ). ModelFaultApplies declared text z AnswerFault) (ap (line_or last) f.0) (ModelFaultApplies.answer no_sat)

    whole_right : (k : Option Found) (s : At) → s.kept ≡ k → IsHere s all → s.place ≡ places.Done → Right (whole k s.trace.definitions)
    whole_right None s e h done =
        let f = subst (λ (z : Place). Front known names z s.trace s.begun all) done h.front_is in
        (subst (λ (z : List Placed). HasForm names (bare z) s.trace.definitions) (sym f.4) (list_closed names f.0 f.1 s.trace.definitions f.2 f.3), h.sorted e)
    whole_right (Some f) s e h done = h.kept f e

    judged_right : (rest front : List Placed) (s : At) → IsHere s front → all ≡ front ++ rest → Right (judged known last s rest)
    unfolding judged
    judged_right [] front s h e =
        let here : IsHere s all = subst (IsHere s) (sym (e ∙ append-nil front)) h in
        ended_by Right last s s.place (λ done. whole_right s.kept s refl here done)
        (λ other. refused_right s last here.kept (end_applies s here other))
    judged_right (t ∷ rest) front s h e = by (next_at known s t) refl (λ n k l. judged_right rest (front ++ t ∷ []) n k l)
      where
        by : (o : Option At) → next_at known s t ≡ o →
            ((n : At) → IsHere n (front ++ t ∷ []) → all ≡ (front ++ t ∷ []) ++ rest → Right (judged known last n rest)) →
            Right (moved o (λ n. judged known last n rest) (refused s t.line))
        by None f ih = refused_right s t.line h.kept (token_applies s front rest t h e f)
        by (Some n) f ih =
            let longer : all ≡ (front ++ t ∷ []) ++ rest = e ∙ sym (append_assoc front (t ∷ []) rest) in
            ih n (here_step s n front rest t h f longer) longer

    abbrev answer : Outcome
    answer = judged known last start all

    answer_right : Right answer
    answer_right = judged_right all [] start here_start refl

    -- ---- each fault that applies is met

    met_below : (front rest : List Placed) (n : At) (b : Found) → at_run known start front ≡ Some n → all ≡ front ++ rest → KeptBelow n.kept b → Below answer b
    met_below front rest n b h e k =
        subst (λ (o : Outcome). Below o b) (sym (ap (judged known last start) e ∙ judged_behind known last front rest start n h))
        (judged_below known last rest n b k)

    fault_below : (k : Option Found) (t : Bool) (f : ModelFault) (n : ℕ) → t ≡ true → KeptBelow (with_fault (when t f) n k) (found n f)
    fault_below k true f n h = kept_new k f n
    fault_below k false f n h = absurd (cc)

    -- the place behind a front of an answer
    front_met : (front : List Placed) → IsFront names (bare front) → (s : At) × (at_run known start front ≡ Some s)
    front_met front f =
        let more = placed f.0 in
        let shape : bare (front ++ more) ≡ bare front ++ f.0 = bare_append front more ∙ ap (λ (z : List ModelToken). bare front ++ z) (bare_placed f.0) in
        let r = form_read known declared knows (bare (front ++ more)) f.1 (subst (λ (z : List ModelToken). HasForm names z f.1) (sym shape) f.2) in
        let n = runs known (front ++ more) start (stand places.Done r.0) r.1 in
        let m = at_front known front more start n.0 n.1 in (m.0, m.1)

    here_run : (ts front rest : List Placed) (s n : At) → IsHere s front → all ≡ (front ++ ts) ++ rest → at_run known s ts ≡ Some n → IsHere n (front ++ ts)
    here_run [] front rest s n h e r =
        let same : s ≡ n = some_same s n r in
        subst (λ (z : List Placed). IsHere n z) (sym (append-nil front)) (subst (λ (z : At). IsHere z front) same h)
    here_run (t ∷ ts) front rest s n h e r = by (next_at known s t) refl r (λ m k l g. here_run ts (front ++ t ∷ []) rest m n k l g)
      where
        by : (o : Option At) → next_at known s t ≡ o → go o (λ m. at_run known m ts) ≡ Some n →
            ((m : At) → IsHere m (front ++ t ∷ []) → all ≡ ((front ++ t ∷ []) ++ ts) ++ rest → at_run known m ts ≡ Some n →
            IsHere n ((front ++ t ∷ []) ++ ts)) →
            IsHere n (front ++ (t ∷ ts))
        by None f g ih = absurd (cc)
        by (Some m) f g ih =
            let one : all ≡ (front ++ t ∷ []) ++ (ts ++ rest) =
            e ∙ append_assoc front (t ∷ ts) rest ∙ sym (append_assoc front (t ∷ []) (ts ++ rest)) in
            let two : all ≡ ((front ++ t ∷ []) ++ ts) ++ rest = one ∙ sym (append_assoc (front ++ t ∷ []) ts rest) in
            subst (λ (z : List Placed). IsHere n z) (append_assoc front (t ∷ []) ts)
            (ih m (here_step s m front (ts ++ rest) t h f one) two g)

    syntax_below : (s : At) (line : ℕ) → Below (refused s line) (found line SyntaxFault)
    syntax_below s line =
        let r = first_below s.kept (found line (fault_before s.place)) in
        no_later (first_fault s.kept (found line (fault_before s.place))) (found line (fault_before s.place)) (found line SyntaxFault) r
        (before_by (λ f. NoLater (found line f) (found line SyntaxFault)) s.place
        (λ _. record { line = omega arith; rank = λ e. omega arith }) (λ _. itself (found line SyntaxFault)))

    token_below : (front rest : List Placed) (bad : Placed) → all ≡ front ++ (bad ∷ rest) → IsFront names (bare front) →
        ¬ IsFront names (bare front ++ bad.token ∷ []) → Below answer (found bad.line SyntaxFault)
    unfolding judged
    token_below front rest bad e f none =
        let m = front_met front f in
        let here : IsHere m.0 front = here_run front [] (bad ∷ rest) start m.0 here_start e m.1 in
        subst (λ (o : Outcome). Below o (found bad.line SyntaxFault)) (sym (ap (judged known last start) e ∙ judged_behind known last front (bad ∷ rest)
        start m.0 m.1))
        (by m.0 here (next_at known m.0 bad) refl)
      where
        by : (s : At) → IsHere s front → (o : Option At) → next_at known s bad ≡ o → Below (judged known last s (bad ∷ rest)) (found bad.line SyntaxFault)
        by s here None g = subst (λ (o : Option At). Below (moved o (λ n. judged known last n rest) (refused s bad.line)) (found bad.line SyntaxFault)) (sym g)
            (syntax_below s bad.line)
        by s here (Some n) g =
            let longer : all ≡ (front ++ bad ∷ []) ++ rest = e ∙ sym (append_assoc front (bad ∷ []) rest) in
            let next = here_step s n front rest bad here g longer in
            absurd (none (subst (IsFront names) (bare_append front (bad ∷ []))
            (is_front known declared knows n.place n.trace n.begun (front ++ bad ∷ []) next.front_is)))

    ended_below : IsFront names (bare all) → ((ds : List Definition) → ¬ HasForm names (bare all) ds) → Below answer (found last SyntaxFault)
    unfolding judged
    ended_below f none =
        let m = front_met all f in
        let here : IsHere m.0 all = here_run all [] [] start m.0 here_start (sym (append-nil all)) m.1 in
        subst (λ (o : Outcome). Below o (found last SyntaxFault))
        (sym (ap (judged known last start) (sym (append-nil all)) ∙ judged_behind known last all [] start m.0 m.1)) (by m.0 here)
      where
        by : (s : At) → IsHere s all → Below (judged known last s []) (found last SyntaxFault)
        by s here = ended_by (λ o. Below o (found last SyntaxFault)) last s s.place (λ done.
            let f = subst (λ (z : Place). Front known names z s.trace s.begun all) done here.front_is in
            absurd (none s.trace.definitions
            (subst (λ (z : List Placed). HasForm names (bare z) s.trace.definitions) (sym f.4) (list_closed names f.0 f.1 s.trace.definitions f.2 f.3))))
            (λ _. syntax_below s last)

    answer_below : ¬ BeginsWithSat all → Below answer (found (line_or last all) AnswerFault)
    unfolding judged
    answer_below none = by all none
      where
        by : (ts : List Placed) → ¬ BeginsWithSat ts → Below (judged known last start ts) (found (line_or last ts) AnswerFault)
        by [] h = itself (found last AnswerFault)
        by (t ∷ ts) h = on (is_the_word (codes "sat") t.token) refl
          where
            on : (b : Bool) → is_the_word (codes "sat") t.token ≡ b →
                Below (moved (option_map (behind start None t) (when b places.Sat)) (λ n. judged known last n ts) (refused start t.line)) (found t.line
                AnswerFault)
            on true e = absurd (h (the_word (codes "sat") t.token e))
            on false e = itself (found t.line AnswerFault)

    -- the name of a definition is met
    definition_met : (ds : List Definition) (d : Declared) (line : ℕ) (behind rest : List Placed) (st : StandsBehind declared all ds behind)
        (b : BeginsWith declared behind d line rest) (s : Symbol) → known d.name ≡ Some s →
        NameMet known declared knows (((st.head ++ st.defined) ++ b.begin) ++ b.name ∷ []) d.name s ds b.name.line
    definition_met ds d line behind rest st b s e =
        name_met known declared knows (st.head ++ st.defined) b.begin b.name ds d.name s (list_met known declared knows all ds behind st) b.begin_is b.name_is e

    definition_tokens : (ds : List Definition) (d : Declared) (line : ℕ) (behind rest : List Placed) (st : StandsBehind declared all ds behind)
        (b : BeginsWith declared behind d line rest) → all ≡ (((st.head ++ st.defined) ++ b.begin) ++ b.name ∷ []) ++ rest
    definition_tokens ds d line behind rest st b =
        let shape : (st.head ++ st.defined) ++ (b.begin ++ (b.name ∷ rest)) ≡ (((st.head ++ st.defined) ++ b.begin) ++ b.name ∷ []) ++ rest =
        sym (append_assoc ((st.head ++ st.defined) ++ b.begin) (b.name ∷ []) rest ∙ append_assoc (st.head ++ st.defined) b.begin (b.name ∷ rest)) in
        st.tokens ∙ ap (λ (z : List Placed). (st.head ++ st.defined) ++ z) b.tokens ∙ shape

    all_below : (n : ℕ) (f : ModelFault) → ModelFaultApplies declared text n f → Below answer (found n f)
    all_below n f (ModelFaultApplies.answer none) = answer_below none
    all_below n f (ModelFaultApplies.token front bad rest e h none) = token_below front rest bad e h none
    all_below n f (ModelFaultApplies.ended h none) = ended_below h none
    all_below n f (ModelFaultApplies.twice {ds} {d} {line} {behind} {rest} sort v st b c) =
        let o = knows.other d b.symbol in
        let m = definition_met ds d line behind rest st b o.0 o.1 in
        let front = ((st.head ++ st.defined) ++ b.begin) ++ b.name ∷ [] in
        let test = is_some (given ds d.name) in
        subst (λ (z : ℕ). Below answer (found z TwiceFault)) b.line_is
        (met_below front rest (at places.Arguments m.trace b.name.line (with_fault (when test TwiceFault) b.name.line m.kept)) (found b.name.line TwiceFault)
        m.is
        (definition_tokens ds d line behind rest st b) (fault_below m.kept test TwiceFault b.name.line (gives_given ds d.name sort v c)))
    all_below n f (ModelFaultApplies.sort {ds} {d} {line} {behind} empty said rest st b e form other) =
        let o = knows.other d b.symbol in
        let m = definition_met ds d line behind ((empty ++ said) ++ rest) st b o.0 o.1 in
        let front = ((st.head ++ st.defined) ++ b.begin) ++ b.name ∷ [] in
        let r = sort_is_met known declared knows front empty said d.name o.0 ds b.name.line m e form in
        let test = not (is_done (left_of (pattern_of o.0) (bare said))) in
        let bad : test ≡ true = ap not (not_true _ (λ h. other (subst (λ (z : Sort). IsSort z (bare said)) o.2 (done_sort o.0 (bare said) h)))) in
        let tokens : all ≡ ((front ++ empty) ++ said) ++ rest =
        definition_tokens ds d line behind ((empty ++ said) ++ rest) st b ∙ sym (tail_assoc front empty said rest) in
        met_below ((front ++ empty) ++ said) rest (at (places.Value 0) r.trace (line_or 0 said) (with_fault (when test SortFault) (line_or 0 said) r.kept))
        (found (line_or 0 said) SortFault) r.is tokens (fault_below r.kept test SortFault (line_or 0 said) bad)
    all_below n f (ModelFaultApplies.value {ds} {d} {line} {behind} empty said given_tokens rest {v} st b e form value other) =
        let o = knows.other d b.symbol in
        let m = definition_met ds d line behind (((empty ++ said) ++ given_tokens) ++ rest) st b o.0 o.1 in
        let front = ((st.head ++ st.defined) ++ b.begin) ++ b.name ∷ [] in
        let r = sort_is_met known declared knows front empty said d.name o.0 ds b.name.line m e form in
        let w = value_is_met known declared knows ((front ++ empty) ++ said) given_tokens o.0 (bare said) (line_or 0 said) v r value in
        let test = not (is_of_sort (sort_of o.0) v) in
        let bad : test ≡ true = ap not (not_true _ (λ h. other (subst (λ (z : Sort). IsOfSort z v) o.2 (of_sort (sort_of o.0) v h)))) in
        let tokens : all ≡ (((front ++ empty) ++ said) ++ given_tokens) ++ rest =
        definition_tokens ds d line behind (((empty ++ said) ++ given_tokens) ++ rest) st b ∙ sym (three_assoc front empty said given_tokens rest) in
        met_below (((front ++ empty) ++ said) ++ given_tokens) rest
        (at places.Closing w.trace (line_or 0 given_tokens) (with_fault (when test SortFault) (line_or 0 given_tokens) w.kept))
        (found (line_or 0 given_tokens) SortFault) w.is tokens (fault_below w.kept test SortFault (line_or 0 given_tokens) bad)

    -- ---- the law

    right_by : (o : Outcome) → Right o → ((n : ℕ) (f : ModelFault) → ModelFaultApplies declared text n f → Below o (found n f)) → IsRight declared text o
    right_by (Whole ds) h below = record { form = h.0; none = λ n f applies. below n f applies }
    right_by (Refused a) h below = record {
      applies = h;
      first = λ n g applies. (below n g applies).line;
      least = λ g applies. (below a.line g applies).rank refl;
    }

    pub answer_is_right : IsRight declared text answer
    answer_is_right = right_by answer answer_right all_below

    pub answer_is_sorted : (ds : List Definition) → answer ≡ Whole ds → AreSorted known ds
    answer_is_sorted ds e = (subst Right e answer_right).1
