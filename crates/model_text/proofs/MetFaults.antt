-- A fault that a text shows is met where it is read.
use Rattle.std.proofs.Common.{◌≡◌, ◌≢◌, ℕ, Bool, true, false, List, [], ◌∷◌, ◌++◌, Option, Some, None, refl, sym, ap, ◌∙◌, subst, append_assoc}
use Rattle.std.specs.Prelude.{◌&&◌, not, codes, is_some}
use Rattle.std.specs.Option.{option_map}
use Rattle.std.proofs.lemmas.List.{append-nil}
use Rattle.model_spec.specs.ModelText.{ModelToken, Placed, at_line, Open, Close, Word, IsName, Value, Definition, Declared, IsSortForm, IsValue, ModelFault, SortFault, TwiceFault, bare, line_or, StandsBehind}
use Rattle.model_spec.specs.Models.{given}
use Rattle.model_text.specs.declared.sort_place.SortPlace.{SortPlace}
use Rattle.model_text.specs.declared.sort_place.SortPlace.TheVariants as sorts
use Rattle.model_text.specs.declared.place.Place.{Place}
use Rattle.model_text.specs.declared.place.Place.TheVariants as places
use Rattle.model_text.specs.declared.symbol.Symbol.{Symbol}
use Rattle.model_text.specs.Tokens.{when}
use Rattle.model_text.specs.Symbols.{sort_of, pattern_of}
use Rattle.model_text.specs.Pieces.{left_of, is_done}
use Rattle.model_text.specs.Sorts.{sort_next}
use Rattle.model_text.specs.Places.{next_inside, sort_then, begins, is_closing}
use Rattle.model_text.specs.Faults.{Found, with_fault}
use Rattle.model_text.specs.Traces.{Trace, Known, At, start, empty_trace, named, drafted, begun_at, behind, next_at, is_of_sort}
use Rattle.model_text.proofs.SortForms.{go, sort_run, sort_whole}
use Rattle.model_text.proofs.Runs.{Stand, stand, within}
use Rattle.model_text.proofs.ReadForms.{value_read, with_value}
use Rattle.model_text.proofs.AnswerForms.{Knows, run, head_read, definitions_read}
use Rattle.model_text.proofs.Fronts.{bare_append, no_arguments}
use Rattle.model_text.proofs.Steps.{is_value_place, reached, still_sort}
use Rattle.model_text.proofs.FirstFaults.{at, at_run, at_then, runs}

placed_is : (t : Placed) (u : ModelToken) → t.token ≡ u → t ≡ at_line t.line u
placed_is t u e = ap (at_line t.line) e

-- the line of a name, a sort or a value that begins at the first of some tokens
abbrev pub line_from : Place → Placed → ℕ → ℕ
line_from p t b = begun_at (begins p) t.line b

abbrev pub sort_fault : Symbol → List ModelToken → Option ModelFault
sort_fault s ts = when (not (is_done (left_of (pattern_of s) ts))) SortFault

abbrev pub value_fault : Symbol → Value → Option ModelFault
value_fault s v = when (not (is_of_sort (sort_of s) v)) SortFault

abbrev ends_closing : Option Stand → Bool
ends_closing None = false
ends_closing (Some s) = is_closing s.place

module _ (known : Known) where
  -- ---- the begin of a definition

  two_tokens : (ts : List Placed) (u v : ModelToken) → bare ts ≡ u ∷ v ∷ [] → (a : Placed) × (b : Placed) × (ts ≡ at_line a.line u ∷ at_line b.line v ∷ [])
  two_tokens [] u v e = absurd (cc)
  two_tokens (a ∷ []) u v e = absurd (cc)
  two_tokens (a ∷ b ∷ []) u v e =
      let f : a.token ≡ u = cc in
      let g : b.token ≡ v = cc in
      (a, b, ap (λ (z : Placed). z ∷ b ∷ []) (placed_is a u f) ∙ ap (λ (z : Placed). at_line a.line u ∷ z ∷ []) (placed_is b v g))
  two_tokens (a ∷ b ∷ c ∷ ts) u v e = absurd (cc)

  begin_run : (ts : List Placed) (first : Bool) (tr : Trace) (b : ℕ) (k : Option Found) → bare ts ≡ Open ∷ Word (codes "define-fun") ∷ [] →
      at_run known (at (places.List first) tr b k) ts ≡ Some (at places.Name tr b k)
  begin_run ts first tr b k e =
      let r = two_tokens ts Open (Word (codes "define-fun")) e in
      ap (at_run known (at (places.List first) tr b k)) r.2

  empty_run : (ts : List Placed) (tr : Trace) (b : ℕ) (k : Option Found) → bare ts ≡ no_arguments →
      at_run known (at places.Arguments tr b k) ts ≡ Some (at (places.Sort (sorts.Wanted 0)) tr b k)
  empty_run ts tr b k e = let r = two_tokens ts Open Close e in ap (at_run known (at places.Arguments tr b k)) r.2

  abbrev twice_fault : Trace → List ℕ → Option ModelFault
  twice_fault tr w = when (is_some (given tr.definitions w)) TwiceFault

  name_by : (n : ℕ) (u : ModelToken) (w : List ℕ) (s : Symbol) (tr : Trace) (b : ℕ) (k : Option Found) → IsName u w → known w ≡ Some s →
      next_at known (at places.Name tr b k) (at_line n u) ≡ Some (at places.Arguments (named (Some s) w tr) n (with_fault (twice_fault tr w) n k))
  name_by n u w s tr b k (IsName.plain v h) e = rw (e, h) refl
  name_by n u w s tr b k (IsName.quoted v) e = rw e refl

  -- ---- a sort

  -- behind a token of it
  abbrev sorted : Place → Trace → ModelToken → ℕ → Option Found → At
  sorted q tr t b k = at q (record tr { sort = tr.sort ++ t ∷ [] }) b k

  -- behind all
  abbrev all_sorted : Trace → List ModelToken → ℕ → Option Found → At
  all_sorted tr ts b k = at (places.Value 0) (record tr { sort = tr.sort ++ ts }) b (with_fault (sort_fault tr.symbol (tr.sort ++ ts)) b k)

  sort_next_at : (p : SortPlace) (tr : Trace) (b : ℕ) (k : Option Found) (t : Placed) (q : SortPlace) → sort_next p t.token ≡ Some q → q ≢ sorts.Whole →
      next_at known (at (places.Sort p) tr b k) t ≡ Some (sorted (places.Sort q) tr t.token (line_from (places.Sort p) t b) k)
  sort_next_at p tr b k t q e more = ap (λ (o : Option SortPlace). option_map (behind (at (places.Sort p) tr b k) None t) (option_map sort_then o)) e ∙ by q
      more
    where
      by : (r : SortPlace) → r ≢ sorts.Whole → Some (behind (at (places.Sort p) tr b k) None t (sort_then r)) ≡
          Some (sorted (places.Sort r) tr t.token (line_from (places.Sort p) t b) k)
      by sorts.Whole h = absurd (h refl)
      by (sorts.Wanted d) h = refl
      by (sorts.Opened d) h = refl
      by (sorts.HeadOpened d) h = refl
      by (sorts.Name head d) h = refl
      by (sorts.FirstIndex head d) h = refl
      by (sorts.Indices head d) h = refl
      by (sorts.More d) h = refl

  sort_met : (ts : List Placed) (t : Placed) (p : SortPlace) (tr : Trace) (b : ℕ) (k : Option Found) → sort_run p (bare (t ∷ ts)) ≡ Some sorts.Whole →
      at_run known (at (places.Sort p) tr b k) (t ∷ ts) ≡ Some (all_sorted tr (bare (t ∷ ts)) (line_from (places.Sort p) t b) k)
  sort_met [] t p tr b k h = by (sort_next p t.token) refl h
    where
      by : (o : Option SortPlace) → sort_next p t.token ≡ o → go o (λ q. sort_run q []) ≡ Some sorts.Whole →
          go (option_map (behind (at (places.Sort p) tr b k) None t) (option_map sort_then o)) (λ n. Some n)
          ≡ Some (all_sorted tr (t.token ∷ []) (line_from (places.Sort p) t b) k)
      by None e f = absurd (cc)
      by (Some q) e f =
          let same : q ≡ sorts.Whole = cc in
          ap (λ (z : SortPlace). go (option_map (behind (at (places.Sort p) tr b k) None t) (option_map sort_then (Some z))) (λ n. Some n)) same
  sort_met (u ∷ us) t p tr b k h =
      by (sort_next p t.token) refl h (λ q f. sort_met us u q (record tr { sort = tr.sort ++ t.token ∷ [] }) (line_from (places.Sort p) t b) k f)
    where
      by : (o : Option SortPlace) → sort_next p t.token ≡ o → go o (λ q. sort_run q (bare (u ∷ us))) ≡ Some sorts.Whole →
          ((q : SortPlace) → sort_run q (bare (u ∷ us)) ≡ Some sorts.Whole →
          at_run known (sorted (places.Sort q) tr t.token (line_from (places.Sort p) t b) k) (u ∷ us)
          ≡ Some (all_sorted (record tr { sort = tr.sort ++ t.token ∷ [] }) (bare (u ∷ us)) (line_from (places.Sort q) u (line_from (places.Sort p) t b)) k)) →
          go (next_at known (at (places.Sort p) tr b k) t) (λ n. at_run known n (u ∷ us))
          ≡ Some (all_sorted tr (bare (t ∷ u ∷ us)) (line_from (places.Sort p) t b) k)
      by None e f ih = absurd (cc)
      by (Some q) e f ih =
          let more : q ≢ sorts.Whole = λ g. let x = subst (λ (z : SortPlace). sort_run z (bare (u ∷ us)) ≡ Some sorts.Whole) g f in absurd (cc) in
          let line = line_from (places.Sort p) t b in
          let still : line_from (places.Sort q) u line ≡ line = ap (λ (z : Bool). begun_at z u.line line) (still_sort p t.token q e) in
          let longer : (tr.sort ++ t.token ∷ []) ++ bare (u ∷ us) ≡ tr.sort ++ (t.token ∷ bare (u ∷ us)) = append_assoc tr.sort (t.token ∷ []) (bare (u ∷
          us)) in
          ap (λ (z : Option At). go z (λ n. at_run known n (u ∷ us))) (sort_next_at p tr b k t q e more)
          ∙ ih q f
          ∙ ap (λ (z : ℕ). Some (all_sorted (record tr { sort = tr.sort ++ t.token ∷ [] }) (bare (u ∷ us)) z k)) still
          ∙ ap (λ (z : List ModelToken). Some (at (places.Value 0) (record tr { sort = z }) line (with_fault (sort_fault tr.symbol z) line k))) longer

  -- ---- a value

  -- behind a token of it
  abbrev valued : Place → Trace → ℕ → Option Found → At
  valued q tr b k = at q tr b (with_fault (when (is_closing q && not (is_of_sort (sort_of tr.symbol) tr.value)) SortFault) b k)

  inside_at : (p : Place) (tr : Trace) (b : ℕ) (k : Option Found) (t : Placed) (q : Place) → is_value_place p ≡ true → next_inside p t.token ≡ Some q →
      next_at known (at p tr b k) t ≡ Some (valued q (drafted p t.token tr) (line_from p t b) k)
  inside_at (places.Value d) tr b k t q h e = ap (option_map (behind (at (places.Value d) tr b k) None t)) e
  inside_at (places.Opened d) tr b k t q h e = ap (option_map (behind (at (places.Opened d) tr b k) None t)) e
  inside_at (places.As d) tr b k t q h e = ap (option_map (behind (at (places.As d) tr b k) None t)) e
  inside_at (places.Const d) tr b k t q h e = ap (option_map (behind (at (places.Const d) tr b k) None t)) e
  inside_at (places.ConstSort d r) tr b k t q h e = ap (option_map (behind (at (places.ConstSort d r) tr b k) None t)) e
  inside_at (places.ConstClose d) tr b k t q h e = ap (option_map (behind (at (places.ConstClose d) tr b k) None t)) e
  inside_at (places.Bits role d r) tr b k t q h e = ap (option_map (behind (at (places.Bits role d r) tr b k) None t)) e
  inside_at (places.FillClose d) tr b k t q h e = ap (option_map (behind (at (places.FillClose d) tr b k) None t)) e
  inside_at (places.StoreClose d) tr b k t q h e = ap (option_map (behind (at (places.StoreClose d) tr b k) None t)) e
  inside_at places.Closing tr b k t q h e = absurd (cc)
  inside_at places.Start tr b k t q h e = absurd (cc)
  inside_at places.Sat tr b k t q h e = absurd (cc)
  inside_at (places.List first) tr b k t q h e = absurd (cc)
  inside_at places.Begun tr b k t q h e = absurd (cc)
  inside_at places.Name tr b k t q h e = absurd (cc)
  inside_at (places.Passing d) tr b k t q h e = absurd (cc)
  inside_at places.Arguments tr b k t q h e = absurd (cc)
  inside_at places.NoArguments tr b k t q h e = absurd (cc)
  inside_at (places.Sort r) tr b k t q h e = absurd (cc)
  inside_at places.Done tr b k t q h e = absurd (cc)

  abbrev all_valued : Trace → ℕ → Option Found → At
  all_valued tr b k = at places.Closing tr b (with_fault (value_fault tr.symbol tr.value) b k)

  -- the value goes on behind a place that it does not end
  not_closing : (q : Place) (tr : Trace) (u : ModelToken) (us : List ModelToken) (s : Stand) → within q tr (u ∷ us) ≡ Some s → is_closing q ≡ false
  not_closing places.Closing tr u us s h = absurd (cc)
  not_closing (places.Value d) tr u us s h = refl
  not_closing (places.Opened d) tr u us s h = refl
  not_closing (places.As d) tr u us s h = refl
  not_closing (places.Const d) tr u us s h = refl
  not_closing (places.ConstSort d r) tr u us s h = refl
  not_closing (places.ConstClose d) tr u us s h = refl
  not_closing (places.Bits role d r) tr u us s h = refl
  not_closing (places.FillClose d) tr u us s h = refl
  not_closing (places.StoreClose d) tr u us s h = refl
  not_closing places.Start tr u us s h = refl
  not_closing places.Sat tr u us s h = refl
  not_closing (places.List first) tr u us s h = refl
  not_closing places.Begun tr u us s h = refl
  not_closing places.Name tr u us s h = refl
  not_closing (places.Passing d) tr u us s h = refl
  not_closing places.Arguments tr u us s h = refl
  not_closing places.NoArguments tr u us s h = refl
  not_closing (places.Sort r) tr u us s h = refl
  not_closing places.Done tr u us s h = refl

  value_met : (ts : List Placed) (t : Placed) (p : Place) (tr last : Trace) (b : ℕ) (k : Option Found) → is_value_place p ≡ true →
      within p tr (bare (t ∷ ts)) ≡ Some (stand places.Closing last) →
      at_run known (at p tr b k) (t ∷ ts) ≡ Some (all_valued last (line_from p t b) k)
  value_met [] t p tr last b k v h = by (next_inside p t.token) refl h
    where
      by : (o : Option Place) → next_inside p t.token ≡ o → go o (λ q. within q (drafted p t.token tr) []) ≡ Some (stand places.Closing last) →
          go (next_at known (at p tr b k) t) (λ n. Some n) ≡ Some (all_valued last (line_from p t b) k)
      by None e f = absurd (cc)
      by (Some q) e f =
          let same : stand q (drafted p t.token tr) ≡ stand places.Closing last = cc in
          ap (λ (z : Option At). go z (λ n. Some n)) (inside_at p tr b k t q v e)
          ∙ ap (λ (z : Stand). Some (valued z.place z.trace (line_from p t b) k)) same
  value_met (u ∷ us) t p tr last b k v h =
      by (next_inside p t.token) refl h (λ q g f. value_met us u q (drafted p t.token tr) last (line_from p t b) k g f)
    where
      by : (o : Option Place) → next_inside p t.token ≡ o → go o (λ q. within q (drafted p t.token tr) (bare (u ∷ us))) ≡ Some (stand places.Closing last) →
          ((q : Place) → is_value_place q ≡ true → within q (drafted p t.token tr) (bare (u ∷ us)) ≡ Some (stand places.Closing last) →
          at_run known (at q (drafted p t.token tr) (line_from p t b) k) (u ∷ us) ≡ Some (all_valued last (line_from q u (line_from p t b)) k)) →
          go (next_at known (at p tr b k) t) (λ n. at_run known n (u ∷ us)) ≡ Some (all_valued last (line_from p t b) k)
      by None e f ih = absurd (cc)
      by (Some q) e f ih =
          let next = drafted p t.token tr in
          let line = line_from p t b in
          let r = reached p t.token q v e in
          let going = not_closing q next u.token (bare us) (stand places.Closing last) f in
          let still : line_from q u line ≡ line = ap (λ (z : Bool). begun_at z u.line line) r.still in
          let none : valued q next line k ≡ at q next line k =
          ap (λ (z : Bool). at q next line (with_fault (when (z && not (is_of_sort (sort_of next.symbol) next.value)) SortFault) line k)) going in
          ap (λ (z : Option At). go z (λ n. at_run known n (u ∷ us))) (inside_at p tr b k t q v e)
          ∙ ap (λ (z : At). at_run known z (u ∷ us)) none
          ∙ ih q r.is f
          ∙ ap (λ (z : ℕ). Some (all_valued last z k)) still

module _ (known : Known) (declared : List Declared) (knows : Knows known declared) where
  -- ---- whole definitions

  pub record ListMet (ts : List Placed) (ds : List Definition) : Type 0 where
    pub first : Bool
    pub trace : Trace
    pub begun : ℕ
    pub kept : Option Found
    pub definitions : trace.definitions ≡ ds
    pub is : at_run known start ts ≡ Some (at (places.List first) trace begun kept)

  pub list_met : (ts : List Placed) (ds : List Definition) (behind : List Placed) (s : StandsBehind declared ts ds behind) → ListMet (s.head ++ s.defined) ds
  list_met ts ds behind s =
      let h = head_read known declared knows (bare s.head) (bare s.defined) empty_trace s.is_head in
      let r = definitions_read known declared knows h.0 empty_trace (bare s.defined) [] ds s.are in
      let e : run known places.Start empty_trace (bare (s.head ++ s.defined)) ≡ Some (stand (places.List r.last) r.trace) =
      ap (run known places.Start empty_trace) (bare_append s.head s.defined) ∙ h.1
      ∙ ap (run known (places.List h.0) empty_trace) (sym (append-nil (bare s.defined))) ∙ r.is in
      let n = runs known (s.head ++ s.defined) start (stand (places.List r.last) r.trace) e in
      let m = n.0 in record {
        first = r.last;
        trace = r.trace;
        begun = m.begun;
        kept = m.kept;
        definitions = r.definitions;
        is =
            n.1 ∙ ap (λ (z : Place). Some (at z m.trace m.begun m.kept)) n.2
            ∙ ap (λ (z : Trace). Some (at (places.List r.last) z m.begun m.kept)) n.3;
      }

  -- ---- the name, the sort and the value of a definition

  pub record NameMet (ts : List Placed) (w : List ℕ) (s : Symbol) (ds : List Definition) (line : ℕ) : Type 0 where
    pub trace : Trace
    pub kept : Option Found
    pub symbol : trace.symbol ≡ s
    pub sort : trace.sort ≡ []
    pub is : at_run known start ts ≡ Some (at places.Arguments trace line (with_fault (when (is_some (given ds w)) TwiceFault) line kept))

  pub name_met : (before begin : List Placed) (name : Placed) (ds : List Definition) (w : List ℕ) (s : Symbol) → ListMet before ds →
      bare begin ≡ Open ∷ Word (codes "define-fun") ∷ [] → IsName name.token w → known w ≡ Some s →
      NameMet ((before ++ begin) ++ name ∷ []) w s ds name.line
  name_met before begin name ds w s l b n e = record {
    trace = named (Some s) w l.trace;
    kept = l.kept;
    symbol = refl;
    sort = refl;
    is =
        at_then known (before ++ begin) (name ∷ []) start (at places.Name l.trace l.begun l.kept)
        (Some (at places.Arguments (named (Some s) w l.trace) name.line (with_fault (when (is_some (given ds w)) TwiceFault) name.line l.kept)))
        (at_then known before begin start (at (places.List l.first) l.trace l.begun l.kept) (Some (at places.Name l.trace l.begun l.kept)) l.is
        (begin_run known begin l.first l.trace l.begun l.kept b))
        (ap (λ (z : Option At). go z (λ m. Some m)) (name_by known name.line name.token w s l.trace l.begun l.kept n e)
        ∙ ap (λ (z : List Definition). Some (at places.Arguments (named (Some s) w l.trace) name.line
        (with_fault (when (is_some (given z w)) TwiceFault) name.line l.kept))) l.definitions);
  }

  pub record SortMet (ts : List Placed) (s : Symbol) (sort : List ModelToken) (line : ℕ) : Type 0 where
    pub trace : Trace
    pub kept : Option Found
    pub symbol : trace.symbol ≡ s
    pub is : at_run known start ts ≡ Some (at (places.Value 0) trace line (with_fault (sort_fault s sort) line kept))

  pub sort_is_met : (front empty said : List Placed) (w : List ℕ) (s : Symbol) (ds : List Definition) (line : ℕ) → NameMet front w s ds line →
      bare empty ≡ no_arguments → IsSortForm (bare said) → SortMet ((front ++ empty) ++ said) s (bare said) (line_or 0 said)
  sort_is_met front empty [] w s ds line m e form = let x = sort_whole [] form in absurd (cc)
  sort_is_met front empty (t ∷ ts) w s ds line m e form =
      let k = with_fault (when (is_some (given ds w)) TwiceFault) line m.kept in
      let here = at (places.Sort (sorts.Wanted 0)) m.trace line k in
      let sorted_is : m.trace.sort ++ bare (t ∷ ts) ≡ bare (t ∷ ts) = ap (λ (z : List ModelToken). z ++ bare (t ∷ ts)) m.sort in record {
        trace = record m.trace { sort = m.trace.sort ++ bare (t ∷ ts) };
        kept = k;
        symbol = m.symbol;
        is =
            at_then known (front ++ empty) (t ∷ ts) start here _
            (at_then known front empty start (at places.Arguments m.trace line k) (Some here) m.is (empty_run known empty m.trace line k e))
            (sort_met known ts t (sorts.Wanted 0) m.trace line k (sort_whole (bare (t ∷ ts)) form)
            ∙ ap (λ (z : Symbol). Some (at (places.Value 0) (record m.trace { sort = m.trace.sort ++ bare (t ∷ ts) }) t.line
            (with_fault (sort_fault z (m.trace.sort ++ bare (t ∷ ts))) t.line k))) m.symbol
            ∙ ap (λ (z : List ModelToken). Some (at (places.Value 0) (record m.trace { sort = m.trace.sort ++ bare (t ∷ ts) }) t.line
            (with_fault (sort_fault s z) t.line k))) sorted_is);
      }

  pub record ValueMet (ts : List Placed) (s : Symbol) (v : Value) (line : ℕ) : Type 0 where
    pub trace : Trace
    pub kept : Option Found
    pub is : at_run known start ts ≡ Some (at places.Closing trace line (with_fault (value_fault s v) line kept))

  pub value_is_met : (front given : List Placed) (s : Symbol) (sort : List ModelToken) (line : ℕ) (v : Value) → SortMet front s sort line →
      IsValue (bare given) v → ValueMet (front ++ given) s v (line_or 0 given)
  value_is_met front [] s sort line v m h =
      let r = value_read 0 m.trace [] [] v h in
      let x : Some (stand (places.Value 0) m.trace) ≡ Some (stand places.Closing (with_value r.constant r.bits r.index v m.trace)) = r.is in
      let y : false ≡ true = ap ends_closing x in absurd (cc)
  value_is_met front (t ∷ ts) s sort line v m h =
      let k = with_fault (sort_fault s sort) line m.kept in
      let r = value_read 0 m.trace (bare (t ∷ ts)) [] v h in
      let last = with_value r.constant r.bits r.index v m.trace in
      let e : within (places.Value 0) m.trace (bare (t ∷ ts)) ≡ Some (stand places.Closing last) =
      ap (λ (z : List ModelToken). within (places.Value 0) m.trace z) (sym (append-nil (bare (t ∷ ts)))) ∙ r.is in record {
        trace = last;
        kept = k;
        is =
            at_then known front (t ∷ ts) start (at (places.Value 0) m.trace line k) _ m.is
            (value_met known ts t (places.Value 0) m.trace last line k refl e
            ∙ ap (λ (z : Symbol). Some (at places.Closing last t.line (with_fault (value_fault z v) t.line k))) m.symbol);
      }
