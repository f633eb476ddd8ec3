-- Values, token by token.
use Rattle.std.proofs.Common.{◌≡◌, ℕ, zero, suc, ◌+◌, Bool, true, false, List, [], ◌∷◌, ◌++◌, Option, Some, None, refl, sym, ap, ◌∙◌, subst, add-one, append_assoc}
use Rattle.std.specs.Prelude.{if◌then◌else◌, codes, is_some}
use Rattle.std.specs.Option.{option_map}
use Rattle.std.proofs.lemmas.List.{append-nil}
use Rattle.model_spec.specs.ModelText.{ModelToken, Open, Close, Word, IsWord, Value, WordIs, ConstantIs, StoredIs, IsValue}
use Rattle.model_text.specs.declared.bits.Bits.{Bits as BitsRead}
use Rattle.model_text.specs.declared.bits.BitsPlace.{BitsPlace}
use Rattle.model_text.specs.declared.bits.BitsPlace.TheVariants as bits
use Rattle.model_text.specs.declared.sort_place.SortPlace.{SortPlace}
use Rattle.model_text.specs.declared.sort_place.SortPlace.TheVariants as sorts
use Rattle.model_text.specs.declared.place.Role.{Role}
use Rattle.model_text.specs.declared.place.Role.TheVariants.{Base, Fill, Index, Byte}
use Rattle.model_text.specs.declared.place.Place.{Place}
use Rattle.model_text.specs.declared.place.Place.TheVariants as places
use Rattle.model_text.specs.Tokens.{is_open, is_close, is_the_word, when}
use Rattle.model_text.specs.Bits.{literal, bits_next, bits_traced, is_whole}
use Rattle.model_text.specs.Sorts.{sort_next}
use Rattle.model_text.specs.Places.{next_inside, after_bits, after_value, bits_then, const_then, sort_then}
use Rattle.model_text.specs.Traces.{Trace, drafted, role_if, with_role}
use Rattle.model_text.proofs.SortForms.{opens, closes, the_word, SortRest, closed_three, closed_twice}
use Rattle.model_text.proofs.SortForms as forms
use Rattle.model_text.proofs.Runs.{BitsRest, BitsBehind, bits_behind, bits_some, literal_is, one_bit, is_one_bit}

-- ---- what completes a value

-- the changes round a whole value
abbrev pub StoresRest : ℕ → Value → List ModelToken → Value → Type 0
StoresRest zero v post w = (post ≡ []) × (w ≡ v)
StoresRest (suc o) v post w =
    (is : List ModelToken) × (vs : List ModelToken) × (rest : List ModelToken) × (m : ℕ) × (i : ℕ) × (n : ℕ) × (b : ℕ) × IsWord is m i × IsWord vs n b
    × (post ≡ is ++ vs ++ Close ∷ rest) × StoresRest o (StoredIs v m i n b) rest w

-- a value of which some tokens were read
pub record ValueIn (front : List ModelToken) (d : ℕ) (post : List ModelToken) (w : Value) : Type 0 where
  pub part : List ModelToken
  pub value : Value
  pub rest : List ModelToken
  pub value_is : IsValue (front ++ part) value
  pub is : post ≡ part ++ rest
  pub after : StoresRest d value rest w

-- behind a word of bits
abbrev pub WordThen : Role → ℕ → Trace → ℕ → ℕ → List ModelToken → Value → Type 0
WordThen Base d tr n v rest w = StoresRest d (WordIs n v) rest w
WordThen Fill d tr n v rest w = (after : List ModelToken) × (rest ≡ Close ∷ after) × StoresRest d (ConstantIs tr.constant n v) after w
WordThen Index d tr n v rest w =
    (vs : List ModelToken) × (after : List ModelToken) × (m : ℕ) × (b : ℕ) × IsWord vs m b × (rest ≡ vs ++ Close ∷ after)
    × StoresRest d (StoredIs tr.value n v m b) after w
WordThen Byte d tr n v rest w =
    (after : List ModelToken) × (rest ≡ Close ∷ after) × StoresRest d (StoredIs tr.value tr.index.width tr.index.number n v) after w

pub record WordIn (role : Role) (d : ℕ) (at : BitsPlace) (tr : Trace) (post : List ModelToken) (w : Value) : Type 0 where
  pub word : List ModelToken
  pub rest : List ModelToken
  pub width : ℕ
  pub number : ℕ
  pub word_is : BitsRest at tr.bits word width number
  pub is : post ≡ word ++ rest
  pub after : WordThen role d tr width number rest w

-- behind the sort of an array with one value
pub record FillIn (d : ℕ) (sort : List ModelToken) (post : List ModelToken) (w : Value) : Type 0 where
  pub word : List ModelToken
  pub rest : List ModelToken
  pub width : ℕ
  pub number : ℕ
  pub word_is : IsWord word width number
  pub is : post ≡ Close ∷ word ++ Close ∷ rest
  pub after : StoresRest d (ConstantIs sort width number) rest w

pub record ConstIn (d : ℕ) (at : SortPlace) (tr : Trace) (post : List ModelToken) (w : Value) : Type 0 where
  pub part : List ModelToken
  pub rest : List ModelToken
  pub sort : SortRest at part
  pub is : post ≡ part ++ rest
  pub after : FillIn d (tr.constant ++ part) rest w

pub record ClosedIn (d : ℕ) (tr : Trace) (post : List ModelToken) (w : Value) : Type 0 where
  pub rest : List ModelToken
  pub is : post ≡ Close ∷ rest
  pub after : StoresRest d tr.value rest w

-- in the sort that stands before a value
pub record SortedIn (at : SortPlace) (post : List ModelToken) (w : Value) : Type 0 where
  pub part : List ModelToken
  pub rest : List ModelToken
  pub sort : SortRest at part
  pub is : post ≡ part ++ rest
  pub after : ValueIn [] 0 rest w

-- by places; those outside of sorts and values have none
abbrev pub ValueRest : Place → Trace → List ModelToken → Value → Type 0
ValueRest (places.Sort at) tr post w = SortedIn at post w
ValueRest (places.Value d) tr post w = ValueIn [] d post w
ValueRest (places.Opened d) tr post w = ValueIn (Open ∷ []) d post w
ValueRest (places.As d) tr post w = ValueIn (Open ∷ Open ∷ []) d post w
ValueRest (places.Const d) tr post w = ValueIn (Open ∷ Open ∷ Word (codes "as") ∷ []) d post w
ValueRest (places.ConstSort d at) tr post w = ConstIn d at tr post w
ValueRest (places.ConstClose d) tr post w = FillIn d tr.constant post w
ValueRest (places.Bits role d at) tr post w = WordIn role d at tr post w
ValueRest (places.FillClose d) tr post w = ClosedIn d tr post w
ValueRest (places.StoreClose d) tr post w = ClosedIn d tr post w
ValueRest places.Closing tr post w = (post ≡ []) × (w ≡ tr.value)
ValueRest other tr post w = ⊥

after_rest : (d : ℕ) (tr : Trace) (post : List ModelToken) (w : Value) → ValueRest (after_value d) tr post w → StoresRest d tr.value post w
after_rest zero tr post w r = r
after_rest (suc o) tr post w r =
    let a = r.after in (
      r.word,
      a.0,
      a.1,
      r.width,
      r.number,
      a.2,
      a.3,
      r.word_is,
      a.4,
      r.is ∙ ap (λ x. r.word ++ x) a.5 ∙ sym (append_assoc r.word a.0 (Close ∷ a.1)),
      a.6,
    )

-- a whole word of bits, as what it is of a value
role_rest : (role : Role) (d : ℕ) (tr : Trace) (post : List ModelToken) (w : Value) → ValueRest (after_bits role d) (with_role role tr) post w →
    WordThen role d tr tr.bits.width tr.bits.number post w
role_rest Base d tr post w r = after_rest d (with_role Base tr) post w r
role_rest Fill d tr post w r = (r.rest, r.is, r.after)
role_rest Index d tr post w r =
    let a = r.after in (r.word, a.0, r.width, r.number, r.word_is, r.is ∙ ap (λ x. r.word ++ x) a.1, a.2)
role_rest Byte d tr post w r = (r.rest, r.is, r.after)

-- behind one more token
abbrev pub Behind : Place → Trace → ModelToken → Option Place → Type 0
Behind p tr t None = Unit {0}
Behind p tr t (Some q) = (post : List ModelToken) (w : Value) → ValueRest q (drafted p t tr) post w → ValueRest p tr (t ∷ post) w

open_value : (front : List ModelToken) (d : ℕ) (t u : ModelToken) (post : List ModelToken) (w : Value) → t ≡ u → ValueIn (front ++ u ∷ []) d post w →
    ValueIn front d (t ∷ post) w
open_value front d t u post w e r = record {
  part = u ∷ r.part;
  value = r.value;
  rest = r.rest;
  value_is = subst (λ x. IsValue x r.value) (append_assoc front (u ∷ []) r.part) r.value_is;
  is = ap (λ x. x ∷ post) e ∙ ap (λ x. u ∷ x) r.is;
  after = r.after;
}

base_value : (t : ModelToken) (x : BitsRead) (d : ℕ) (post : List ModelToken) (w : Value) → literal t ≡ Some x → StoresRest d (WordIs x.width x.number) post w →
    ValueIn [] d (t ∷ post) w
base_value t x d post w f r =
    record { part = t ∷ []; value = WordIs x.width x.number; rest = post; value_is = IsValue.word (literal_is t x f); is = refl; after = r }

number_value : (t : ModelToken) (d : ℕ) (tr : Trace) (post : List ModelToken) (w : Value) → t ≡ Word (codes "_") → WordIn Base d bits.Number tr post w →
    ValueIn (Open ∷ []) d (t ∷ post) w
number_value t d tr post w e r =
    let k = r.word_is in record {
      part = Word (codes "_") ∷ r.word;
      value = WordIs r.width r.number;
      rest = r.rest;
      value_is = IsValue.word (rw k.is (IsWord.decimal k.value k.width r.number r.width k.value_is k.width_is));
      is = ap (λ x. x ∷ post) e ∙ ap (λ x. Word (codes "_") ∷ x) r.is;
      after = r.after;
    }

stored_value : (t : ModelToken) (d : ℕ) (post : List ModelToken) (w : Value) → t ≡ Word (codes "store") → ValueIn [] (suc d) post w →
    ValueIn (Open ∷ []) d (t ∷ post) w
stored_value t d post w e r =
    let a = r.after in record {
      part = Word (codes "store") ∷ ((r.part ++ a.0) ++ a.1) ++ Close ∷ [];
      value = StoredIs r.value a.3 a.4 a.5 a.6;
      rest = a.2;
      value_is = IsValue.stored {array = r.part} {is = a.0} {vs = a.1} r.value_is a.7 a.8;
      is = ap (λ x. x ∷ post) e ∙ ap (λ x. Word (codes "store") ∷ x) (r.is ∙ ap (λ x. r.part ++ x) (a.9 ∙ append_assoc a.0 a.1 (Close ∷ a.2)) ∙ sym
          (closed_three r.part a.0 a.1 a.2));
      after = a.10;
    }

const_value : (t : ModelToken) (d : ℕ) (tr : Trace) (post : List ModelToken) (w : Value) → t ≡ Word (codes "const") → tr.constant ≡ [] →
    ConstIn d (sorts.Wanted 0) tr post w → ValueIn (Open ∷ Open ∷ Word (codes "as") ∷ []) d (t ∷ post) w
const_value t d tr post w e none r =
    let s = r.sort in
    let f = r.after in
    let all : r.part ≡ s.part = s.is ∙ ap (λ x. s.part ++ x) s.after ∙ append-nil s.part in
    let same : tr.constant ++ r.part ≡ s.part = ap (λ x. x ++ r.part) none ∙ all in record {
      part = Word (codes "const") ∷ ((s.part ++ Close ∷ []) ++ f.word) ++ Close ∷ [];
      value = ConstantIs s.part f.width f.number;
      rest = f.rest;
      value_is = IsValue.constant {sort = s.part} {ts = f.word} s.sort f.word_is;
      is = ap (λ x. x ∷ post) e ∙ ap (λ x. Word (codes "const") ∷ x) (r.is ∙ ap (λ x. x ++ r.rest) all ∙ ap (λ x. s.part ++ x) f.is ∙ sym (closed_twice
          s.part f.word f.rest));
      after = subst (λ x. StoresRest d (ConstantIs x f.width f.number) f.rest w) same f.after;
    }

-- in the sort before a value, or behind it
sorted_in : (q : SortPlace) (tr : Trace) (post : List ModelToken) (w : Value) → ValueRest (sort_then q) tr post w → SortedIn q post w
sorted_in sorts.Whole tr post w r = record { part = []; rest = post; sort = refl; is = refl; after = r }
sorted_in (sorts.Wanted n) tr post w r = r
sorted_in (sorts.Opened n) tr post w r = r
sorted_in (sorts.HeadOpened n) tr post w r = r
sorted_in (sorts.Name head n) tr post w r = r
sorted_in (sorts.FirstIndex head n) tr post w r = r
sorted_in (sorts.Indices head n) tr post w r = r
sorted_in (sorts.More n) tr post w r = r

sorted_more : (p q : SortPlace) (t : ModelToken) (post : List ModelToken) (w : Value) → ((part : List ModelToken) → SortRest q part → SortRest p (t ∷ part)) →
    SortedIn q post w → SortedIn p (t ∷ post) w
sorted_more p q t post w step r =
    record { part = t ∷ r.part; rest = r.rest; sort = step r.part r.sort; is = ap (λ x. t ∷ x) r.is; after = r.after }

-- in the sort of an array, or behind it
const_in : (d : ℕ) (q : SortPlace) (tr : Trace) (post : List ModelToken) (w : Value) → ValueRest (const_then d q) tr post w → ConstIn d q tr post w
const_in d sorts.Whole tr post w r =
    record { part = []; rest = post; sort = refl; is = refl; after = subst (λ x. FillIn d x post w) (sym (append-nil tr.constant)) r }
const_in d (sorts.Wanted n) tr post w r = r
const_in d (sorts.Opened n) tr post w r = r
const_in d (sorts.HeadOpened n) tr post w r = r
const_in d (sorts.Name head n) tr post w r = r
const_in d (sorts.FirstIndex head n) tr post w r = r
const_in d (sorts.Indices head n) tr post w r = r
const_in d (sorts.More n) tr post w r = r

const_more : (d : ℕ) (p q : SortPlace) (t : ModelToken) (tr : Trace) (post : List ModelToken) (w : Value) →
    ((part : List ModelToken) → SortRest q part → SortRest p (t ∷ part)) → ConstIn d q (record tr { constant = tr.constant ++ t ∷ [] }) post w →
    ConstIn d p tr (t ∷ post) w
const_more d p q t tr post w step r = record {
  part = t ∷ r.part;
  rest = r.rest;
  sort = step r.part r.sort;
  is = ap (λ x. t ∷ x) r.is;
  after = subst (λ x. FillIn d x r.rest w) (append_assoc tr.constant (t ∷ []) r.part) r.after;
}

-- in a word of bits, or behind it
bits_in : (role : Role) (d : ℕ) (q : BitsPlace) (tr : Trace) (post : List ModelToken) (w : Value) →
    ValueRest (bits_then role d q) (role_if (is_whole (Some q)) role tr) post w → WordIn role d q tr post w
bits_in role d bits.Whole tr post w r = record {
  word = [];
  rest = post;
  width = tr.bits.width;
  number = tr.bits.number;
  word_is = (refl, refl, refl);
  is = refl;
  after = role_rest role d tr post w r;
}
bits_in role d bits.Wanted tr post w r = r
bits_in role d bits.Opened tr post w r = r
bits_in role d bits.Number tr post w r = r
bits_in role d bits.Width tr post w r = r
bits_in role d bits.Close tr post w r = r

word_then : (role : Role) (d : ℕ) (tr : Trace) (b : BitsRead) (n v : ℕ) (rest : List ModelToken) (w : Value) →
    WordThen role d (record tr { bits = b }) n v rest w → WordThen role d tr n v rest w
word_then Base d tr b n v rest w r = r
word_then Fill d tr b n v rest w r = r
word_then Index d tr b n v rest w r = r
word_then Byte d tr b n v rest w r = r

bits_more : (role : Role) (d : ℕ) (p q : BitsPlace) (t : ModelToken) (tr : Trace) (post : List ModelToken) (w : Value) →
    ((word : List ModelToken) (n v : ℕ) → BitsRest q (bits_traced p t tr.bits) word n v → BitsRest p tr.bits (t ∷ word) n v) →
    WordIn role d q (record tr { bits = bits_traced p t tr.bits }) post w → WordIn role d p tr (t ∷ post) w
bits_more role d p q t tr post w step r = record {
  word = t ∷ r.word;
  rest = r.rest;
  width = r.width;
  number = r.number;
  word_is = step r.word r.width r.number r.word_is;
  is = ap (λ x. t ∷ x) r.is;
  after = word_then role d tr (bits_traced p t tr.bits) r.width r.number r.rest w r.after;
}

closed : (t : ModelToken) (d : ℕ) (tr : Trace) (post : List ModelToken) (w : Value) → t ≡ Close → ValueRest (after_value d) tr post w →
    ClosedIn d tr (t ∷ post) w
closed t d tr post w e r = record { rest = post; is = ap (λ x. x ∷ post) e; after = after_rest d tr post w r }

-- what completes a value behind one more token does with that token before it
pub behind : (p : Place) (t : ModelToken) (tr : Trace) → Behind p tr t (next_inside p t)
behind (places.Value d) t tr = by (is_open t) (literal t) refl refl
  where
    by : (a : Bool) (o : Option BitsRead) → is_open t ≡ a → literal t ≡ o →
        Behind (places.Value d) tr t (if a then Some (places.Opened d) else when (is_some o) (after_value d))
    by true o e f = λ post w r. open_value [] d t Open post w (opens t e) r
    by false (Some x) e f = λ post w r.
        let g = rw (e, f) at r in base_value t x d post w f (after_rest d (with_role Base (record tr { bits = x })) post w g)
    by false None e f = tt
behind (places.Opened d) t tr = by (is_open t) (is_the_word (codes "_") t) (is_the_word (codes "store") t) refl refl refl
  where
    by : (a u v : Bool) → is_open t ≡ a → is_the_word (codes "_") t ≡ u → is_the_word (codes "store") t ≡ v → Behind (places.Opened d) tr t
        (if a then Some (places.As d) else if u then Some (places.Bits Base d bits.Number) else when v (places.Value (d + 1)))
    by true u v e f g = λ post w r. open_value (Open ∷ []) d t Open post w (opens t e) r
    by false true v e f g = λ post w r. number_value t d tr post w (the_word (codes "_") t f) r
    by false false true e f g = λ post w r.
        stored_value t d post w (the_word (codes "store") t g) (subst (λ n. ValueIn [] n post w) (add-one d) r)
    by false false false e f g = tt
behind (places.As d) t tr = by (is_the_word (codes "as") t) refl
  where
    by : (u : Bool) → is_the_word (codes "as") t ≡ u → Behind (places.As d) tr t (when u (places.Const d))
    by true f = λ post w r. open_value (Open ∷ Open ∷ []) d t (Word (codes "as")) post w (the_word (codes "as") t f) r
    by false f = tt
behind (places.Const d) t tr = by (is_the_word (codes "const") t) refl
  where
    by : (u : Bool) → is_the_word (codes "const") t ≡ u → Behind (places.Const d) tr t (when u (places.ConstSort d (sorts.Wanted 0)))
    by true f = λ post w r. const_value t d (record tr { constant = [] }) post w (the_word (codes "const") t f) refl r
    by false f = tt
behind (places.ConstSort d at) t tr = by (sort_next at t) refl
  where
    by : (o : Option SortPlace) → sort_next at t ≡ o → Behind (places.ConstSort d at) tr t (option_map (const_then d) o)
    by (Some q) f = λ post w r.
        let more = record tr { constant = tr.constant ++ t ∷ [] } in
        const_more d at q t tr post w (subst (λ o. forms.Behind at t o) f (forms.behind at t)) (const_in d q more post w r)
    by None f = tt
behind (places.ConstClose d) t tr = by (is_close t) refl
  where
    by : (u : Bool) → is_close t ≡ u → Behind (places.ConstClose d) tr t (when u (places.Bits Fill d bits.Wanted))
    by true f = λ post w r.
        let a = r.after in record {
          word = r.word;
          rest = a.0;
          width = r.width;
          number = r.number;
          word_is = r.word_is;
          is = ap (λ x. x ∷ post) (closes t f) ∙ ap (λ x. Close ∷ x) (r.is ∙ ap (λ x. r.word ++ x) a.1);
          after = a.2;
        }
    by false f = tt
behind (places.Bits role d at) t tr = by (bits_next at t) refl
  where
    by : (o : Option BitsPlace) → bits_next at t ≡ o → Behind (places.Bits role d at) tr t (option_map (bits_then role d) o)
    by (Some q) f = λ post w r.
        let more = record tr { bits = bits_traced at t tr.bits } in
        let g = rw f at r in
        bits_more role d at q t tr post w (subst (λ o. BitsBehind at t tr.bits o) f (bits_behind at t tr.bits)) (bits_in role d q more post w g)
    by None f = tt
behind (places.FillClose d) t tr = by (is_close t) refl
  where
    by : (u : Bool) → is_close t ≡ u → Behind (places.FillClose d) tr t (when u (after_value d))
    by true f = λ post w r. closed t d tr post w (closes t f) r
    by false f = tt
behind (places.StoreClose d) t tr = by (is_close t) refl
  where
    by : (u : Bool) → is_close t ≡ u → Behind (places.StoreClose d) tr t (when u (after_value d))
    by true f = λ post w r. closed t d tr post w (closes t f) r
    by false f = tt
behind places.Start t tr = tt
behind places.Sat t tr = tt
behind (places.List first) t tr = tt
behind places.Begun t tr = tt
behind places.Name t tr = tt
behind (places.Passing d) t tr = tt
behind places.Arguments t tr = tt
behind places.NoArguments t tr = tt
behind (places.Sort at) t tr = by (sort_next at t) refl
  where
    by : (o : Option SortPlace) → sort_next at t ≡ o → Behind (places.Sort at) tr t (option_map sort_then o)
    by (Some q) f = λ post w r.
        sorted_more at q t post w (subst (λ o. forms.Behind at t o) f (forms.behind at t)) (sorted_in q (record tr { sort = tr.sort ++ t ∷ [] }) post w r)
    by None f = tt
behind places.Closing t tr = tt
behind places.Done t tr = tt

-- ---- every place has a completion

stores_some : (d : ℕ) (v : Value) → (post : List ModelToken) × (w : Value) × StoresRest d v post w
stores_some zero v = ([], v, (refl, refl))
stores_some (suc o) v = let r = stores_some o (StoredIs v 1 0 1 0) in (
  one_bit ∷ one_bit ∷ Close ∷ r.0,
  r.1,
  (one_bit ∷ [], one_bit ∷ [], r.0, 1, 0, 1, 0, is_one_bit, is_one_bit, refl, r.2),
)

abbrev pub Completed : Place → Trace → Type 0
Completed p tr = (post : List ModelToken) × (w : Value) × ValueRest p tr post w

value_some : (d : ℕ) → (post : List ModelToken) × (w : Value) × ValueIn [] d post w
value_some d = let r = stores_some d (WordIs 1 0) in (
  one_bit ∷ r.0,
  r.1,
  record { part = one_bit ∷ []; value = WordIs 1 0; rest = r.0; value_is = IsValue.word is_one_bit; is = refl; after = r.2 },
)

fill_some : (d : ℕ) (sort : List ModelToken) → (post : List ModelToken) × (w : Value) × FillIn d sort post w
fill_some d sort = let r = stores_some d (ConstantIs sort 1 0) in (
  Close ∷ one_bit ∷ Close ∷ r.0,
  r.1,
  record { word = one_bit ∷ []; rest = r.0; width = 1; number = 0; word_is = is_one_bit; is = refl; after = r.2 },
)

const_some : (d : ℕ) (at : SortPlace) (tr : Trace) → (post : List ModelToken) × (w : Value) × ConstIn d at tr post w
const_some d at tr =
    let s = forms.some at in
    let r = fill_some d (tr.constant ++ s.0) in (
      s.0 ++ r.0,
      r.1,
      record { part = s.0; rest = r.0; sort = s.1; is = refl; after = r.2 },
    )

then_some : (role : Role) (d : ℕ) (tr : Trace) (n v : ℕ) → (rest : List ModelToken) × (w : Value) × WordThen role d tr n v rest w
then_some Base d tr n v = stores_some d (WordIs n v)
then_some Fill d tr n v = let r = stores_some d (ConstantIs tr.constant n v) in (Close ∷ r.0, r.1, (r.0, refl, r.2))
then_some Index d tr n v = let r = stores_some d (StoredIs tr.value n v 1 0) in (
  one_bit ∷ Close ∷ r.0,
  r.1,
  (one_bit ∷ [], r.0, 1, 0, is_one_bit, refl, r.2),
)
then_some Byte d tr n v = let r = stores_some d (StoredIs tr.value tr.index.width tr.index.number n v) in (Close ∷ r.0, r.1, (r.0, refl, r.2))

word_some : (role : Role) (d : ℕ) (at : BitsPlace) (tr : Trace) → (post : List ModelToken) × (w : Value) × WordIn role d at tr post w
word_some role d at tr =
    let b = bits_some at tr.bits in
    let r = then_some role d tr b.1 b.2 in (
      b.0 ++ r.0,
      r.1,
      record { word = b.0; rest = r.0; width = b.1; number = b.2; word_is = b.3; is = refl; after = r.2 },
    )

closed_some : (d : ℕ) (tr : Trace) → (post : List ModelToken) × (w : Value) × ClosedIn d tr post w
closed_some d tr = let r = stores_some d tr.value in (Close ∷ r.0, r.1, record { rest = r.0; is = refl; after = r.2 })

as_const : (d : ℕ) (tr : Trace) → (post : List ModelToken) × (w : Value) × ValueIn (Open ∷ Open ∷ Word (codes "as") ∷ []) d post w
as_const d tr =
    let none = record tr { constant = [] } in
    let r = const_some d (sorts.Wanted 0) none in
    (Word (codes "const") ∷ r.0, r.1, const_value (Word (codes "const")) d none r.0 r.1 refl refl r.2)

-- the places within sorts and values
abbrev pub is_inside : Place → Bool
is_inside (places.Sort at) = true
is_inside (places.Value d) = true
is_inside (places.Opened d) = true
is_inside (places.As d) = true
is_inside (places.Const d) = true
is_inside (places.ConstSort d at) = true
is_inside (places.ConstClose d) = true
is_inside (places.Bits role d at) = true
is_inside (places.FillClose d) = true
is_inside (places.StoreClose d) = true
is_inside other = false

abbrev pub CompletedIf : Bool → Place → Trace → Type 0
CompletedIf true p tr = Completed p tr
CompletedIf false p tr = Unit {0}

pub some : (p : Place) (tr : Trace) → CompletedIf (is_inside p) p tr
some (places.Sort at) tr =
    let s = forms.some at in
    let r = value_some 0 in (s.0 ++ r.0, r.1, record { part = s.0; rest = r.0; sort = s.1; is = refl; after = r.2 })
some (places.Value d) tr = value_some d
some (places.Opened d) tr =
    let r = word_some Base d bits.Number tr in (Word (codes "_") ∷ r.0, r.1, number_value (Word (codes "_")) d tr r.0 r.1 refl r.2)
some (places.As d) tr =
    let r = as_const d tr in (Word (codes "as") ∷ r.0, r.1, open_value (Open ∷ Open ∷ []) d (Word (codes "as")) (Word (codes "as")) r.0 r.1 refl r.2)
some (places.Const d) tr = as_const d tr
some (places.ConstSort d at) tr = const_some d at tr
some (places.ConstClose d) tr = fill_some d tr.constant
some (places.Bits role d at) tr = word_some role d at tr
some (places.FillClose d) tr = closed_some d tr
some (places.StoreClose d) tr = closed_some d tr
some places.Start tr = tt
some places.Sat tr = tt
some (places.List first) tr = tt
some places.Begun tr = tt
some places.Name tr = tt
some (places.Passing d) tr = tt
some places.Arguments tr = tt
some places.NoArguments tr = tt
some places.Closing tr = tt
some places.Done tr = tt
