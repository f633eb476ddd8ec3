-- What is written as a sort or a value is read as one.
use Rattle.std.proofs.Common.{◌≡◌, ℕ, suc, ◌+◌, List, [], ◌∷◌, ◌++◌, Option, Some, None, sym, ap, ◌∙◌, add-one, append_assoc}
use Rattle.std.specs.Option.{option_map}
use Rattle.std.proofs.lemmas.List.{append-nil}
use Rattle.model_spec.specs.ModelText.{ModelToken, Close, Value, IsValue}
use Rattle.model_text.specs.declared.bits.Bits.{Bits as BitsRead}
use Rattle.model_text.specs.declared.sort_place.SortPlace.{SortPlace}
use Rattle.model_text.specs.declared.sort_place.SortPlace.TheVariants as sorts
use Rattle.model_text.specs.declared.place.Role.TheVariants.{Fill, Index, Byte}
use Rattle.model_text.specs.declared.place.Place.TheVariants as places
use Rattle.model_text.specs.Sorts.{sort_next}
use Rattle.model_text.specs.Places.{after_value, const_then, sort_then}
use Rattle.model_text.specs.Traces.{Trace, with_role}
use Rattle.model_text.proofs.SortForms.{go, sort_run, sort_whole, closed_three, closed_twice}
use Rattle.model_text.proofs.Runs.{within, bits_of, bits_read, base_read}

-- the tokens of the sort of an array are kept
const_read : (ts us : List ModelToken) (p : SortPlace) (d : ℕ) (tr : Trace) → sort_run p ts ≡ Some sorts.Whole →
    within (const_then d p) tr (ts ++ us) ≡ within (places.ConstClose d) (record tr { constant = tr.constant ++ ts }) us
const_read [] us p d tr h =
    let e : p ≡ sorts.Whole = cc in
    ap (λ (x : SortPlace). within (const_then d x) tr us) e
    ∙ ap (λ (x : List ModelToken). within (places.ConstClose d) (record tr { constant = x }) us) (sym (append-nil tr.constant))
const_read (t ∷ ts) us p d tr h = at p h (λ q e. const_read ts us q d (record tr { constant = tr.constant ++ t ∷ [] }) e)
  where
    more : (o : Option SortPlace) → ((q : SortPlace) → sort_run q ts ≡ Some sorts.Whole → within (const_then d q) (record tr {
      constant = tr.constant ++ t ∷
          [];
    }) (ts ++ us)
        ≡ within (places.ConstClose d) (record tr { constant = (tr.constant ++ t ∷ []) ++ ts }) us) →
        go o (λ q. sort_run q ts) ≡ Some sorts.Whole →
        go (option_map (const_then d) o) (λ q. within q (record tr { constant = tr.constant ++ t ∷ [] }) (ts ++ us))
        ≡ within (places.ConstClose d) (record tr { constant = tr.constant ++ (t ∷ ts) }) us
    more None ih e = absurd (cc)
    more (Some q) ih e =
        ih q e
        ∙ ap (λ (x : List ModelToken). within (places.ConstClose d) (record tr { constant = x }) us) (append_assoc tr.constant (t ∷ []) ts)

    at : (q : SortPlace) → go (sort_next q t) (λ r. sort_run r ts) ≡ Some sorts.Whole → ((q : SortPlace) → sort_run q ts ≡ Some sorts.Whole →
        within (const_then d q) (record tr { constant = tr.constant ++ t ∷ [] }) (ts ++ us)
        ≡ within (places.ConstClose d) (record tr { constant = (tr.constant ++ t ∷ []) ++ ts }) us) →
        within (const_then d q) tr (t ∷ (ts ++ us)) ≡ within (places.ConstClose d) (record tr { constant = tr.constant ++ (t ∷ ts) }) us
    at sorts.Whole e ih = absurd (cc)
    at (sorts.Wanted n) e ih = more (sort_next (sorts.Wanted n) t) ih e
    at (sorts.Opened n) e ih = more (sort_next (sorts.Opened n) t) ih e
    at (sorts.HeadOpened n) e ih = more (sort_next (sorts.HeadOpened n) t) ih e
    at (sorts.Name head n) e ih = more (sort_next (sorts.Name head n) t) ih e
    at (sorts.FirstIndex head n) e ih = more (sort_next (sorts.FirstIndex head n) t) ih e
    at (sorts.Indices head n) e ih = more (sort_next (sorts.Indices head n) t) ih e
    at (sorts.More n) e ih = more (sort_next (sorts.More n) t) ih e

-- and so those of a definition's
pub sort_read : (ts us : List ModelToken) (p : SortPlace) (tr : Trace) → sort_run p ts ≡ Some sorts.Whole →
    within (sort_then p) tr (ts ++ us) ≡ within (places.Value 0) (record tr { sort = tr.sort ++ ts }) us
sort_read [] us p tr h =
    let e : p ≡ sorts.Whole = cc in
    ap (λ (x : SortPlace). within (sort_then x) tr us) e
    ∙ ap (λ (x : List ModelToken). within (places.Value 0) (record tr { sort = x }) us) (sym (append-nil tr.sort))
sort_read (t ∷ ts) us p tr h = at p h (λ q e. sort_read ts us q (record tr { sort = tr.sort ++ t ∷ [] }) e)
  where
    more : (o : Option SortPlace) → ((q : SortPlace) → sort_run q ts ≡ Some sorts.Whole → within (sort_then q) (record tr { sort = tr.sort ++ t ∷ [] }) (ts
        ++ us)
        ≡ within (places.Value 0) (record tr { sort = (tr.sort ++ t ∷ []) ++ ts }) us) →
        go o (λ q. sort_run q ts) ≡ Some sorts.Whole →
        go (option_map sort_then o) (λ q. within q (record tr { sort = tr.sort ++ t ∷ [] }) (ts ++ us))
        ≡ within (places.Value 0) (record tr { sort = tr.sort ++ (t ∷ ts) }) us
    more None ih e = absurd (cc)
    more (Some q) ih e =
        ih q e
        ∙ ap (λ (x : List ModelToken). within (places.Value 0) (record tr { sort = x }) us) (append_assoc tr.sort (t ∷ []) ts)

    at : (q : SortPlace) → go (sort_next q t) (λ r. sort_run r ts) ≡ Some sorts.Whole → ((q : SortPlace) → sort_run q ts ≡ Some sorts.Whole →
        within (sort_then q) (record tr { sort = tr.sort ++ t ∷ [] }) (ts ++ us)
        ≡ within (places.Value 0) (record tr { sort = (tr.sort ++ t ∷ []) ++ ts }) us) →
        within (sort_then q) tr (t ∷ (ts ++ us)) ≡ within (places.Value 0) (record tr { sort = tr.sort ++ (t ∷ ts) }) us
    at sorts.Whole e ih = absurd (cc)
    at (sorts.Wanted n) e ih = more (sort_next (sorts.Wanted n) t) ih e
    at (sorts.Opened n) e ih = more (sort_next (sorts.Opened n) t) ih e
    at (sorts.HeadOpened n) e ih = more (sort_next (sorts.HeadOpened n) t) ih e
    at (sorts.Name head n) e ih = more (sort_next (sorts.Name head n) t) ih e
    at (sorts.FirstIndex head n) e ih = more (sort_next (sorts.FirstIndex head n) t) ih e
    at (sorts.Indices head n) e ih = more (sort_next (sorts.Indices head n) t) ih e
    at (sorts.More n) e ih = more (sort_next (sorts.More n) t) ih e

-- the trace behind a value
abbrev pub with_value : List ModelToken → BitsRead → BitsRead → Value → Trace → Trace
with_value c b i v tr = record tr { constant = c; bits = b; index = i; value = v }

-- a value is read, whatever stands in brackets round it
pub record ValueRead (d : ℕ) (tr : Trace) (ts us : List ModelToken) (v : Value) : Type 0 where
  pub constant : List ModelToken
  pub bits : BitsRead
  pub index : BitsRead
  pub is : within (places.Value d) tr (ts ++ us) ≡ within (after_value d) (with_value constant bits index v tr) us

pub value_read : (d : ℕ) (tr : Trace) (ts us : List ModelToken) (v : Value) → IsValue ts v → ValueRead d tr ts us v
value_read d tr ts us v (IsValue.word {ts = ws} {n} {v = x} h) =
    record { constant = tr.constant; bits = bits_of n x; index = tr.index; is = base_read d tr ws us n x h }
value_read d tr ts us v (IsValue.constant {sort} {ts = ws} {n} {v = x} s h) =
    let none = record tr { constant = [] } in
    let shape : (((sort ++ Close ∷ []) ++ ws) ++ Close ∷ []) ++ us ≡ sort ++ (Close ∷ (ws ++ (Close ∷ us))) = closed_twice sort ws us in
    record {
      constant = sort;
      bits = bits_of n x;
      index = tr.index;
      is =
          ap (λ (z : List ModelToken). within (places.ConstSort d (sorts.Wanted 0)) none z) shape
          ∙ const_read sort (Close ∷ (ws ++ (Close ∷ us))) (sorts.Wanted 0) d none (sort_whole sort s)
          ∙ bits_read Fill d (record tr { constant = sort }) ws (Close ∷ us) n x h;
    }
value_read d tr ts us v (IsValue.stored {array} {is} {vs} {a} {m} {i} {n} {v = x} h j k) =
    let shape : (((array ++ is) ++ vs) ++ Close ∷ []) ++ us ≡ array ++ (is ++ (vs ++ (Close ∷ us))) = closed_three array is vs us in
    let r = value_read (suc d) tr array (is ++ (vs ++ (Close ∷ us))) a h in
    let behind = with_value r.constant r.bits r.index a tr in
    let indexed = with_role Index (record behind { bits = bits_of m i }) in
    record {
      constant = r.constant;
      bits = bits_of n x;
      index = bits_of m i;
      is =
          ap (λ (z : List ModelToken). within (places.Value (d + 1)) tr z) shape
          ∙ ap (λ (z : ℕ). within (places.Value z) tr (array ++ (is ++ (vs ++ (Close ∷ us))))) (add-one d)
          ∙ r.is
          ∙ bits_read Index d behind is (vs ++ (Close ∷ us)) m i j
          ∙ bits_read Byte d indexed vs (Close ∷ us) n x k;
    }
