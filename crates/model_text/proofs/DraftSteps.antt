-- What is kept of a definition behind one more token.
use Rattle.std.proofs.Common.{◌≡◌, ◌≢◌, ℕ, zero, suc, ◌<◌, ◌≤◌, ◌^◌, Bool, true, false, arith, List, [], ◌∷◌, ◌++◌, Option, Some, None, refl, sym, ap, ◌∙◌, subst}
use Rattle.std.specs.Prelude.{◌==◌, ◌&&◌, nat_lt, codes, if◌then◌else◌}
use Rattle.std.proofs.lemmas.Bool.Decides.{nat_tests}
use Rattle.std.proofs.lemmas.List.Elements.{All-push}
use Rattle.machine_spec.specs.StateText.{Layout}
use Rattle.model_spec.specs.ModelText.{ModelToken, Sort, Memories, StoredIs, Definition, Gives, array_sort}
use Rattle.model_spec.specs.Models.{word_of}
use Rattle.model_text.specs.declared.bits.Bits.{Bits}
use Rattle.model_text.specs.declared.draft.Draft.{Draft}
use Rattle.model_text.specs.declared.symbol.Symbol.{Symbol}
use Rattle.model_text.specs.declared.symbol.Symbol.TheVariants.{Register, Flag, Choice, Memory, OtherRegister, OtherFlag, OtherMemory}
use Rattle.model_text.specs.declared.place.Role.TheVariants.{Byte}
use Rattle.model_text.specs.declared.place.Place.{Place}
use Rattle.model_text.specs.declared.place.Place.TheVariants as places
use Rattle.model_text.specs.declared.stores.Stored.{Stored}
use Rattle.model_text.specs.declared.findings.Findings.{Findings}
use Rattle.model_text.specs.Faults.{Found}
use Rattle.model_text.specs.Tokens.{is_close, name_text}
use Rattle.model_text.specs.Bits.{capped, capped_bits}
use Rattle.model_text.specs.Stores.{last_byte, AreBytes}
use Rattle.model_text.specs.Symbols.{sort_of, is_memory, is_other, pattern_of, name_at, IsNamed, IsNamedIf, IsOtherName}
use Rattle.model_text.specs.Pieces.{token_eq, matched, left_of, pieces_of}
use Rattle.model_text.specs.Drafts.{IsDraft, IsStored, IsLearnt, AreFindings}
use Rattle.model_text.specs.Traces.{Trace, no_value, named, traced, passed_trace, drafted, with_role, is_of_sort}
use Rattle.model_text.proofs.GivenWords.{findings_passed}
use Rattle.model_text.proofs.Steps.{is_value_place, same_rest}

-- one more token of a sort that is looked for
pub left_more : (ps ts : List ModelToken) (t : ModelToken) → left_of ps (ts ++ t ∷ []) ≡ matched (left_of ps ts) t
left_more [] [] t = refl
left_more (p ∷ ps) [] t = refl
left_more [] (u ∷ ts) t = refl
left_more (p ∷ ps) (u ∷ ts) t = by (token_eq p u) (left_more ps ts t)
  where
    by : (b : Bool) → left_of ps (ts ++ t ∷ []) ≡ matched (left_of ps ts) t →
        (if b then left_of ps (ts ++ t ∷ []) else None) ≡ matched (if b then left_of ps ts else None) t
    by true ih = ih
    by false ih = refl

-- one more change of an array
pub last_more : (fill : ℕ) (xs : List (ℕ × ℕ)) (i v a : ℕ) → last_byte fill (xs ++ (i, v) ∷ []) a ≡ (if a == i then v else last_byte fill xs a)
last_more fill [] i v a = refl
last_more fill (x ∷ xs) i v a = last_more (if a == x.0 then x.1 else fill) xs i v a

memory_sort : (s : Symbol) → is_memory s ≡ true → sort_of s ≡ Memories
memory_sort Memory h = refl
memory_sort OtherMemory h = refl
memory_sort (Register i) h = absurd (cc)
memory_sort (Flag i) h = absurd (cc)
memory_sort (Choice i) h = absurd (cc)
memory_sort OtherRegister h = absurd (cc)
memory_sort OtherFlag h = absurd (cc)

both : (a b : Bool) → (a && b) ≡ true → (a ≡ true) × (b ≡ true)
both true b h = (refl, h)
both false b h = absurd (cc)

number_is : (m n b : ℕ) (t : Bool) → (t && nat_lt n b) ≡ true → b ≤ 2 ^ 32 → m ≡ capped n → (m ≡ n) × (m < b)
number_is m n b t h l e = let p = both t (nat_lt n b) h in let less : n < b = grind (arith, nat_tests, p.1) in (
  omega (arith, e, l, less),
  omega (
    arith,
    e,
    l,
    less,
  ),
)

-- a changed array
pub byte_draft : (d e : Draft) (tr : Trace) → IsDraft d tr → d.good ≡ true → is_memory d.symbol ≡ true →
    ((tr.index.width == 32) && nat_lt tr.index.number (2 ^ 32)) ≡ true → ((tr.bits.width == 8) && nat_lt tr.bits.number 256) ≡ true →
    e ≡ record d { good = true; stored = e.stored } → e.stored.fill ≡ d.stored.fill →
    e.stored.stores.items ≡ d.stored.stores.items ++ (d.index.number, d.bits.number) ∷ [] → IsDraft e (with_role Byte tr)
byte_draft d e tr h good memory index bits same fill stores =
    let of_memory : is_memory tr.symbol ≡ true = ap is_memory (sym h.symbol) ∙ memory in
    let sort : sort_of tr.symbol ≡ Memories = memory_sort tr.symbol of_memory in
    let i = number_is d.index.number tr.index.number (2 ^ 32) (tr.index.width == 32) index (omega arith) (ap (λ (z : Bits). z.number) h.index) in
    let v = number_is d.bits.number tr.bits.number 256 (tr.bits.width == 8) bits (omega arith) (ap (λ (z : Bits). z.number) h.bits) in
    let old : is_of_sort Memories tr.value ≡ true = ap (λ (z : Sort). is_of_sort z tr.value) (sym sort) ∙ sym h.good ∙ good in
    let value = StoredIs tr.value tr.index.width tr.index.number tr.bits.width tr.bits.number in
    let new : is_of_sort Memories value ≡ true = rw (old, index, bits) refl in
    let all : is_of_sort (sort_of tr.symbol) value ≡ true = ap (λ (z : Sort). is_of_sort z value) sort ∙ new in
    record {
      symbol = ap (λ (z : Draft). z.symbol) same ∙ h.symbol;
      sort_left = ap (λ (z : Draft). pieces_of z.sort_left) same ∙ h.sort_left;
      constant_left = ap (λ (z : Draft). pieces_of z.constant_left) same ∙ h.constant_left;
      bits = ap (λ (z : Draft). z.bits) same ∙ h.bits;
      index = ap (λ (z : Draft). z.index) same ∙ h.index;
      good = ap (λ (z : Draft). z.good) same ∙ sym all;
      number = λ other g. let x : true ≡ false = sym of_memory ∙ other in absurd (cc);
      memory = λ m g a.
          ap (λ (z : ℕ). last_byte z e.stored.stores.items a) fill ∙ ap (λ (z : List (ℕ × ℕ)). last_byte d.stored.fill z a) stores
          ∙ last_more d.stored.fill d.stored.stores.items d.index.number d.bits.number a
          ∙ ap (λ (z : ℕ). if a == z then d.bits.number else last_byte d.stored.fill d.stored.stores.items a) i.0
          ∙ ap (λ (z : ℕ). if a == tr.index.number then z else last_byte d.stored.fill d.stored.stores.items a) v.0
          ∙ ap (λ (z : ℕ). if a == tr.index.number then tr.bits.number else z) (h.memory m good a);
      ranges = subst AreBytes (sym stores) (All-push (λ (b : ℕ × ℕ). (b.0 < 2 ^ 32) × (b.1 < 256)) d.stored.stores.items (d.index.number, d.bits.number)
          h.ranges (i.1, v.1));
      name = λ other. ap (λ (z : Draft). z.name.items) same ∙ h.name other;
    }

-- ---- the end of a definition

-- no value is of no sort
pub none_of_sort : (s : Symbol) → is_of_sort (sort_of s) no_value ≡ false
none_of_sort (Register i) = refl
none_of_sort (Flag i) = refl
none_of_sort (Choice i) = refl
none_of_sort Memory = refl
none_of_sort OtherRegister = refl
none_of_sort OtherFlag = refl
none_of_sort OtherMemory = refl

-- what is kept behind a whole definition
abbrev pub closed_trace : Trace → Trace
closed_trace tr = record tr { definitions = tr.definitions ++ Gives tr.name tr.sort tr.value ∷ []; value = no_value }

closed_draft : (d e : Draft) (tr : Trace) → IsDraft d tr → e ≡ record d { good = false; stored = e.stored } → AreBytes e.stored.stores.items →
    IsDraft e (closed_trace tr)
closed_draft d e tr h same bytes =
    let bad : e.good ≡ false = ap (λ (z : Draft). z.good) same in
    let none : e.good ≡ true → ⊥ = λ g. let x : false ≡ true = sym bad ∙ g in cc in record {
      symbol = ap (λ (z : Draft). z.symbol) same ∙ h.symbol;
      sort_left = ap (λ (z : Draft). pieces_of z.sort_left) same ∙ h.sort_left;
      constant_left = ap (λ (z : Draft). pieces_of z.constant_left) same ∙ h.constant_left;
      bits = ap (λ (z : Draft). z.bits) same ∙ h.bits;
      index = ap (λ (z : Draft). z.index) same ∙ h.index;
      good = bad ∙ sym (none_of_sort tr.symbol);
      number = λ m g. absurd (none g);
      memory = λ m g. absurd (none g);
      ranges = bytes;
      name = λ other. ap (λ (z : Draft). z.name.items) same ∙ h.name other;
    }

module _ (layout : Layout) (count : ℕ) (kept : Option Found) where
  -- the definition of a word
  pub closed_word : (d e : Draft) (f g : Findings) (tr : Trace) (place : ℕ) (s : Symbol) → IsLearnt layout count kept d f tr → d.symbol ≡ s →
      (IsNamed layout count s tr.name → (place < count) × (tr.name ≡ name_at layout place)) → is_memory s ≡ false → (kept ≡ None → d.good ≡ true) →
      e ≡ record d { good = false; stored = e.stored } → e.stored ≡ d.stored →
      (place < count → (kept ≡ None → d.number ≡ word_of (Some tr.value)) → AreFindings layout count kept f tr.definitions →
      AreFindings layout count kept g (tr.definitions ++ Gives (name_at layout place) tr.sort tr.value ∷ [])) → IsLearnt layout count kept e g (closed_trace tr)
  closed_word d e f g tr place s h is name other good same stored take =
      let symbol : tr.symbol ≡ s = sym h.draft.symbol ∙ is in
      let n = name (subst (λ (z : Symbol). IsNamed layout count z tr.name) symbol h.named) in
      let number : kept ≡ None → d.number ≡ word_of (Some tr.value) = λ k. h.draft.number (ap is_memory symbol ∙ other) (good k) in record {
        draft = closed_draft d e tr h.draft same (subst (λ (z : Stored). AreBytes z.stores.items) (sym stored) h.draft.ranges);
        findings =
            subst (λ (w : List ℕ). AreFindings layout count kept g (tr.definitions ++ Gives w tr.sort tr.value ∷ [])) (sym n.1) (take n.0 number h.findings);
        named = h.named;
      }

  -- the definition of the memory
  pub closed_memory : (d e : Draft) (f g : Findings) (tr : Trace) → IsLearnt layout count kept d f tr → d.symbol ≡ Memory → (kept ≡ None → d.good ≡ true) →
      e ≡ record d { good = false; stored = e.stored } → e.stored.stores.items ≡ [] →
      ((kept ≡ None → IsStored d.stored tr.value) → AreFindings layout count kept f tr.definitions →
      AreFindings layout count kept g (tr.definitions ++ Gives (codes "mem") tr.sort tr.value ∷ [])) → IsLearnt layout count kept e g (closed_trace tr)
  closed_memory d e f g tr h is good same empty take =
      let symbol : tr.symbol ≡ Memory = sym h.draft.symbol ∙ is in
      let name : tr.name ≡ codes "mem" = subst (λ (z : Symbol). IsNamed layout count z tr.name) symbol h.named in
      let stored : kept ≡ None → IsStored d.stored tr.value = λ k. record { bytes = h.draft.memory (ap is_memory symbol) (good k); ranges = h.draft.ranges } in
      record {
        draft = closed_draft d e tr h.draft same (subst AreBytes (sym empty) (λ i x l. absurd (omega (arith, l))));
        findings =
            subst (λ (w : List ℕ). AreFindings layout count kept g (tr.definitions ++ Gives w tr.sort tr.value ∷ [])) (sym name) (take stored h.findings);
        named = h.named;
      }

  -- the definition of another symbol
  pub closed_other : (d e : Draft) (f g : Findings) (tr : Trace) (s : Symbol) → IsLearnt layout count kept d f tr → d.symbol ≡ s → is_other s ≡ true →
      (IsNamed layout count s tr.name → IsOtherName layout count tr.name) → e ≡ record d { good = false; stored = e.stored } → e.stored ≡ d.stored →
      (IsOtherName layout count d.name.items → AreFindings layout count kept f tr.definitions →
      AreFindings layout count kept g (tr.definitions ++ Gives d.name.items tr.sort tr.value ∷ [])) → IsLearnt layout count kept e g (closed_trace tr)
  closed_other d e f g tr s h is other name same stored take =
      let symbol : tr.symbol ≡ s = sym h.draft.symbol ∙ is in
      let names : d.name.items ≡ tr.name = h.draft.name (ap is_other symbol ∙ other) in
      let apart = name (subst (λ (z : Symbol). IsNamed layout count z tr.name) symbol h.named) in record {
        draft = closed_draft d e tr h.draft same (subst (λ (z : Stored). AreBytes z.stores.items) (sym stored) h.draft.ranges);
        findings =
            subst (λ (w : List ℕ). AreFindings layout count kept g (tr.definitions ++ Gives w tr.sort tr.value ∷ [])) names
            (take (subst (IsOtherName layout count) (sym names) apart) h.findings);
        named = h.named;
      }

  -- ---- what is learnt from a token

  pub learnt_name : (d e : Draft) (f : Findings) (tr : Trace) (p : Place) (o : Option Symbol) (s : Symbol) (t : ModelToken) → p ≡ places.Name → o ≡ Some s →
      IsNamedIf layout count o (name_text t) → IsLearnt layout count kept d f tr → (IsDraft d tr → IsDraft e (named (Some s) (name_text t) tr)) →
      IsLearnt layout count kept e f (traced p o t tr)
  learnt_name d e f tr p o s t i j n h begin =
      subst (λ (z : Place). IsLearnt layout count kept e f (traced z o t tr)) (sym i)
      (subst (λ (z : Option Symbol). IsLearnt layout count kept e f (traced places.Name z t tr)) (sym j)
      (record { draft = begin h.draft; findings = h.findings; named = subst (λ (z : Option Symbol). IsNamedIf layout count z (name_text t)) j n }))

  passed_learnt : (k : ℕ) (d : Draft) (f : Findings) (tr : Trace) → IsLearnt layout count kept d f tr → IsLearnt layout count kept d f (passed_trace k tr)
  passed_learnt zero d f tr h = record {
    draft = record {
      symbol = h.draft.symbol;
      sort_left = h.draft.sort_left;
      constant_left = h.draft.constant_left;
      bits = h.draft.bits;
      index = h.draft.index;
      good = h.draft.good;
      number = h.draft.number;
      memory = h.draft.memory;
      ranges = h.draft.ranges;
      name = h.draft.name;
    };
    findings = findings_passed layout count kept tr.definitions f h.findings;
    named = h.named;
  }
  passed_learnt (suc k) d f tr h = h

  pub learnt_passing : (d : Draft) (f : Findings) (tr : Trace) (p : Place) (k : ℕ) (o : Option Symbol) (t : ModelToken) → p ≡ places.Passing k →
      IsLearnt layout count kept d f tr → IsLearnt layout count kept d f (traced p o t tr)
  learnt_passing d f tr p k o t i h = subst (λ (z : Place). IsLearnt layout count kept d f (traced z o t tr)) (sym i) (by (is_close t))
    where
      by : (b : Bool) → IsLearnt layout count kept d f (if b then passed_trace k tr else tr)
      by true = passed_learnt k d f tr h
      by false = h

  pub learnt_closing : (d e : Draft) (f g : Findings) (tr : Trace) (p : Place) (o : Option Symbol) (t : ModelToken) → p ≡ places.Closing →
      IsLearnt layout count kept e g (traced places.Closing None t tr) → IsLearnt layout count kept e g (traced p o t tr)
  learnt_closing d e f g tr p o t i h = subst (λ (z : Place). IsLearnt layout count kept e g (traced z o t tr)) (sym i) h

  -- tokens within sorts and values, and those that say nothing
  as_drafted : (e : Draft) (f : Findings) (a b : Trace) → b.definitions ≡ a.definitions → b.name ≡ a.name → b.symbol ≡ a.symbol → IsDraft e b →
      AreFindings layout count kept f a.definitions → IsNamed layout count a.symbol a.name → IsLearnt layout count kept e f b
  as_drafted e f a b ds n s k findings named = record {
    draft = k;
    findings = subst (λ (z : List Definition). AreFindings layout count kept f z) (sym ds) findings;
    named = subst (λ (z : Symbol). IsNamed layout count z b.name) (sym s) (subst (λ (z : List ℕ). IsNamed layout count a.symbol z) (sym n) named);
  }

  as_value : (p : Place) (t : ModelToken) (e : Draft) (f : Findings) (tr : Trace) → is_value_place p ≡ true → IsDraft e (drafted p t tr) →
      AreFindings layout count kept f tr.definitions → IsNamed layout count tr.symbol tr.name → IsLearnt layout count kept e f (drafted p t tr)
  as_value p t e f tr v k findings named =
      let s = same_rest p t tr v in as_drafted e f tr (drafted p t tr) s.definitions s.name s.symbol k findings named

  pub learnt_other : (d e : Draft) (f : Findings) (tr : Trace) (p : Place) (o : Option Symbol) (t : ModelToken) → p ≢ places.Name →
      ((k : ℕ) → p ≢ places.Passing k) → p ≢ places.Closing → IsLearnt layout count kept d f tr → IsDraft e (drafted p t tr) →
      IsLearnt layout count kept e f (traced p o t tr)
  learnt_other d e f tr places.Name o t n q c h k = absurd (n refl)
  learnt_other d e f tr (places.Passing i) o t n q c h k = absurd (q i refl)
  learnt_other d e f tr places.Closing o t n q c h k = absurd (c refl)
  learnt_other d e f tr places.Start o t n q c h k = record { draft = k; findings = h.findings; named = h.named }
  learnt_other d e f tr places.Sat o t n q c h k = record { draft = k; findings = h.findings; named = h.named }
  learnt_other d e f tr (places.List first) o t n q c h k = record { draft = k; findings = h.findings; named = h.named }
  learnt_other d e f tr places.Begun o t n q c h k = record { draft = k; findings = h.findings; named = h.named }
  learnt_other d e f tr places.Arguments o t n q c h k = record { draft = k; findings = h.findings; named = h.named }
  learnt_other d e f tr places.NoArguments o t n q c h k = record { draft = k; findings = h.findings; named = h.named }
  learnt_other d e f tr (places.Sort at) o t n q c h k = record { draft = k; findings = h.findings; named = h.named }
  learnt_other d e f tr (places.Value i) o t n q c h k = as_value (places.Value i) t e f tr refl k h.findings h.named
  learnt_other d e f tr (places.Opened i) o t n q c h k = record { draft = k; findings = h.findings; named = h.named }
  learnt_other d e f tr (places.As i) o t n q c h k = record { draft = k; findings = h.findings; named = h.named }
  learnt_other d e f tr (places.Const i) o t n q c h k = record { draft = k; findings = h.findings; named = h.named }
  learnt_other d e f tr (places.ConstSort i at) o t n q c h k = record { draft = k; findings = h.findings; named = h.named }
  learnt_other d e f tr (places.ConstClose i) o t n q c h k = record { draft = k; findings = h.findings; named = h.named }
  learnt_other d e f tr (places.Bits role i at) o t n q c h k = as_value (places.Bits role i at) t e f tr refl k h.findings h.named
  learnt_other d e f tr (places.FillClose i) o t n q c h k = record { draft = k; findings = h.findings; named = h.named }
  learnt_other d e f tr (places.StoreClose i) o t n q c h k = record { draft = k; findings = h.findings; named = h.named }
  learnt_other d e f tr places.Done o t n q c h k = record { draft = k; findings = h.findings; named = h.named }

-- ---- other changes

pub sort_draft : (d e : Draft) (tr : Trace) (t : ModelToken) → IsDraft d tr → e ≡ record d { sort_left = e.sort_left } →
    pieces_of e.sort_left ≡ matched (pieces_of d.sort_left) t → IsDraft e (record tr { sort = tr.sort ++ t ∷ [] })
sort_draft d e tr t h same left = record {
  symbol = ap (λ (z : Draft). z.symbol) same ∙ h.symbol;
  sort_left = left ∙ ap (λ (z : Option (List ModelToken)). matched z t) h.sort_left ∙ sym (left_more (pattern_of tr.symbol) tr.sort t);
  constant_left = ap (λ (z : Draft). pieces_of z.constant_left) same ∙ h.constant_left;
  bits = ap (λ (z : Draft). z.bits) same ∙ h.bits;
  index = ap (λ (z : Draft). z.index) same ∙ h.index;
  good = ap (λ (z : Draft). z.good) same ∙ h.good;
  number = λ m g. ap (λ (z : Draft). z.number) same ∙ h.number m (sym (ap (λ (z : Draft). z.good) same) ∙ g);
  memory = λ m g a. ap (λ (z : Draft). last_byte z.stored.fill z.stored.stores.items a) same ∙ h.memory m (sym (ap (λ (z : Draft). z.good) same) ∙ g) a;
  ranges = subst (λ (z : Draft). AreBytes z.stored.stores.items) (sym same) h.ranges;
  name = λ other. ap (λ (z : Draft). z.name.items) same ∙ h.name other;
}

pub constant_draft : (d e : Draft) (tr : Trace) (t : ModelToken) → IsDraft d tr → e ≡ record d { constant_left = e.constant_left } →
    pieces_of e.constant_left ≡ matched (pieces_of d.constant_left) t → IsDraft e (record tr { constant = tr.constant ++ t ∷ [] })
constant_draft d e tr t h same left = record {
  symbol = ap (λ (z : Draft). z.symbol) same ∙ h.symbol;
  sort_left = ap (λ (z : Draft). pieces_of z.sort_left) same ∙ h.sort_left;
  constant_left = left ∙ ap (λ (z : Option (List ModelToken)). matched z t) h.constant_left ∙ sym (left_more array_sort tr.constant t);
  bits = ap (λ (z : Draft). z.bits) same ∙ h.bits;
  index = ap (λ (z : Draft). z.index) same ∙ h.index;
  good = ap (λ (z : Draft). z.good) same ∙ h.good;
  number = λ m g. ap (λ (z : Draft). z.number) same ∙ h.number m (sym (ap (λ (z : Draft). z.good) same) ∙ g);
  memory = λ m g a. ap (λ (z : Draft). last_byte z.stored.fill z.stored.stores.items a) same ∙ h.memory m (sym (ap (λ (z : Draft). z.good) same) ∙ g) a;
  ranges = subst (λ (z : Draft). AreBytes z.stored.stores.items) (sym same) h.ranges;
  name = λ other. ap (λ (z : Draft). z.name.items) same ∙ h.name other;
}

pub bits_draft : (d e : Draft) (tr : Trace) (b : Bits) → IsDraft d tr → e ≡ record d { bits = e.bits } → e.bits ≡ capped_bits b →
    IsDraft e (record tr { bits = b })
bits_draft d e tr b h same bits = record {
  symbol = ap (λ (z : Draft). z.symbol) same ∙ h.symbol;
  sort_left = ap (λ (z : Draft). pieces_of z.sort_left) same ∙ h.sort_left;
  constant_left = ap (λ (z : Draft). pieces_of z.constant_left) same ∙ h.constant_left;
  bits = bits;
  index = ap (λ (z : Draft). z.index) same ∙ h.index;
  good = ap (λ (z : Draft). z.good) same ∙ h.good;
  number = λ m g. ap (λ (z : Draft). z.number) same ∙ h.number m (sym (ap (λ (z : Draft). z.good) same) ∙ g);
  memory = λ m g a. ap (λ (z : Draft). last_byte z.stored.fill z.stored.stores.items a) same ∙ h.memory m (sym (ap (λ (z : Draft). z.good) same) ∙ g) a;
  ranges = subst (λ (z : Draft). AreBytes z.stored.stores.items) (sym same) h.ranges;
  name = λ other. ap (λ (z : Draft). z.name.items) same ∙ h.name other;
}
