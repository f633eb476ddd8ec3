-- The reading of tokens without their lines.
use Rattle.std.proofs.Common.{◌≡◌, ℕ, Bool, true, false, List, [], ◌∷◌, ◌++◌, Option, Some, None, refl, sym, ap, ◌∙◌, subst, length, ◌*◌}
use Rattle.std.specs.Prelude.{◌==◌, ◌&&◌, if◌then◌else◌, codes, is_some}
use Rattle.std.specs.List.{list_all}
use Rattle.std.specs.Str.Parse.{digits_value}
use Rattle.std.proofs.lemmas.Bool.{eqb-true}
use Rattle.word_spec.specs.Texts.{decimal_word}
use Rattle.bilv_spec.specs.SmtLib.{is_binary_digit}
use Rattle.model_spec.specs.ModelText.{ModelToken, Open, Close, Word, Quoted, Text, Bad, is_hex, IsWord}
use Rattle.model_text.specs.declared.bits.Bits.{Bits as BitsRead}
use Rattle.model_text.specs.declared.bits.BitsPlace.{BitsPlace}
use Rattle.model_text.specs.declared.bits.BitsPlace.TheVariants as bits
use Rattle.model_text.specs.declared.place.Role.{Role}
use Rattle.model_text.specs.declared.place.Role.TheVariants.{Base}
use Rattle.model_text.specs.declared.place.Place.{Place}
use Rattle.model_text.specs.declared.place.Place.TheVariants as places
use Rattle.model_text.specs.Tokens.{is_open, is_close, is_the_word, when}
use Rattle.model_text.specs.Bits.{literal_of, literal, bv_word, bv_number, numeral, bits_next, bits_traced, with_number}
use Rattle.model_text.specs.Places.{next_inside, after_bits, after_value}
use Rattle.model_text.specs.Traces.{Trace, drafted, with_role}
use Rattle.model_text.proofs.SortForms.{go, opens, closes, the_word}

pub record Stand : Type 0 where
  pub place : Place
  pub trace : Trace

abbrev pub stand : Place → Trace → Stand
stand p tr = record { place = p; trace = tr }

-- behind some tokens of a sort or a value
abbrev pub within : Place → Trace → List ModelToken → Option Stand
within p tr [] = Some (stand p tr)
within p tr (t ∷ ts) = go (next_inside p t) (λ q. within q (drafted p t tr) ts)

-- ---- words of bits

abbrev pub bits_of : ℕ → ℕ → BitsRead
bits_of n v = record { width = n; number = v }

-- what completes a word, by places
pub record NumberIn (post : List ModelToken) (n v : ℕ) : Type 0 where
  pub value : List ℕ
  pub width : List ℕ
  pub value_is : decimal_word value ≡ Some v
  pub width_is : decimal_word width ≡ Some n
  pub is : post ≡ Word (codes "bv" ++ value) ∷ Word width ∷ Close ∷ []

pub record WidthIn (b : BitsRead) (post : List ModelToken) (n v : ℕ) : Type 0 where
  pub width : List ℕ
  pub width_is : decimal_word width ≡ Some n
  pub is : post ≡ Word width ∷ Close ∷ []
  pub value : v ≡ b.number

abbrev pub BitsRest : BitsPlace → BitsRead → List ModelToken → ℕ → ℕ → Type 0
BitsRest bits.Wanted b post n v = IsWord post n v
BitsRest bits.Opened b post n v = IsWord (Open ∷ post) n v
BitsRest bits.Number b post n v = NumberIn post n v
BitsRest bits.Width b post n v = WidthIn b post n v
BitsRest bits.Close b post n v = (post ≡ Close ∷ []) × (n ≡ b.width) × (v ≡ b.number)
BitsRest bits.Whole b post n v = (post ≡ []) × (n ≡ b.width) × (v ≡ b.number)

both : (a b : Bool) → (a && b) ≡ true → (a ≡ true) × (b ≡ true)
both true true h = (refl, refl)
both true false h = cc
both false b h = cc

spelled : (a b d c e : ℕ) (ds : List ℕ) (n v : ℕ) → (a == c) ≡ true → (b == e) ≡ true → IsWord (Word (c ∷ e ∷ d ∷ ds) ∷ []) n v →
    IsWord (Word (a ∷ b ∷ d ∷ ds) ∷ []) n v
spelled a b d c e ds n v i j is =
    subst (λ x. IsWord (Word (x ∷ b ∷ d ∷ ds) ∷ []) n v) (sym (eqb-true a c i))
    (subst (λ y. IsWord (Word (c ∷ y ∷ d ∷ ds) ∷ []) n v) (sym (eqb-true b e j)) is)

literal_by : (a b d : ℕ) (ds : List ℕ) (r : BitsRead) (x y : Bool) → ((a == 35) && (b == 120) && list_all is_hex (d ∷ ds)) ≡ x →
    ((a == 35) && (b == 98) && list_all is_binary_digit (d ∷ ds)) ≡ y → literal_of (a ∷ b ∷ d ∷ ds) ≡ Some r →
    IsWord (Word (a ∷ b ∷ d ∷ ds) ∷ []) r.width r.number
literal_by a b d ds r true y e f h =
    let k = both ((a == 35) && (b == 120)) (list_all is_hex (d ∷ ds)) e in
    let l = both (a == 35) (b == 120) k.0 in
    let g = rw e at h in
    let q : bits_of (4 * length (d ∷ ds)) (digits_value 16 (d ∷ ds)) ≡ r = cc in
    subst (λ (z : BitsRead). IsWord (Word (a ∷ b ∷ d ∷ ds) ∷ []) z.width z.number) q
    (spelled a b d 35 120 ds (4 * length (d ∷ ds)) (digits_value 16 (d ∷ ds)) l.0 l.1 (IsWord.hexadecimal d ds k.1))
literal_by a b d ds r false true e f h =
    let k = both ((a == 35) && (b == 98)) (list_all is_binary_digit (d ∷ ds)) f in
    let l = both (a == 35) (b == 98) k.0 in
    let g = rw (e, f) at h in
    let q : bits_of (length (d ∷ ds)) (digits_value 2 (d ∷ ds)) ≡ r = cc in
    subst (λ (z : BitsRead). IsWord (Word (a ∷ b ∷ d ∷ ds) ∷ []) z.width z.number) q
    (spelled a b d 35 98 ds (length (d ∷ ds)) (digits_value 2 (d ∷ ds)) l.0 l.1 (IsWord.binary d ds k.1))
literal_by a b d ds r false false e f h = let g = rw (e, f) at h in absurd (cc)

pub literal_is : (t : ModelToken) (r : BitsRead) → literal t ≡ Some r → IsWord (t ∷ []) r.width r.number
literal_is (Word []) r h = absurd (cc)
literal_is (Word (a ∷ [])) r h = absurd (cc)
literal_is (Word (a ∷ b ∷ [])) r h = absurd (cc)
literal_is (Word (a ∷ b ∷ d ∷ ds)) r h =
    literal_by a b d ds r ((a == 35) && (b == 120) && list_all is_hex (d ∷ ds)) ((a == 35) && (b == 98) && list_all is_binary_digit (d ∷ ds)) refl refl h
literal_is Open r h = absurd (cc)
literal_is Close r h = absurd (cc)
literal_is (Quoted v) r h = absurd (cc)
literal_is Text r h = absurd (cc)
literal_is Bad r h = absurd (cc)

bv_by : (a b n : ℕ) (ds : List ℕ) (x : Bool) → ((a == 98) && (b == 118)) ≡ x → bv_word (a ∷ b ∷ ds) ≡ Some n →
    (Word (a ∷ b ∷ ds) ≡ Word (codes "bv" ++ ds)) × (decimal_word ds ≡ Some n)
bv_by a b n ds true e h =
    let l = both (a == 98) (b == 118) e in (
      ap (λ x. Word (x ∷ b ∷ ds)) (eqb-true a 98 l.0) ∙ ap (λ x. Word (98 ∷ x ∷ ds)) (eqb-true b 118 l.1),
      rw e at h,
    )
bv_by a b n ds false e h = let g = rw e at h in absurd (cc)

bv_is : (t : ModelToken) (n : ℕ) → bv_number t ≡ Some n → (ds : List ℕ) × (t ≡ Word (codes "bv" ++ ds)) × (decimal_word ds ≡ Some n)
bv_is (Word []) n h = absurd (cc)
bv_is (Word (a ∷ [])) n h = absurd (cc)
bv_is (Word (a ∷ b ∷ ds)) n h = let r = bv_by a b n ds ((a == 98) && (b == 118)) refl h in (ds, r.0, r.1)
bv_is Open n h = absurd (cc)
bv_is Close n h = absurd (cc)
bv_is (Quoted v) n h = absurd (cc)
bv_is Text n h = absurd (cc)
bv_is Bad n h = absurd (cc)

numeral_is : (t : ModelToken) (n : ℕ) → numeral t ≡ Some n → (w : List ℕ) × (t ≡ Word w) × (decimal_word w ≡ Some n)
numeral_is (Word w) n h = (w, refl, h)
numeral_is Open n h = absurd (cc)
numeral_is Close n h = absurd (cc)
numeral_is (Quoted v) n h = absurd (cc)
numeral_is Text n h = absurd (cc)
numeral_is Bad n h = absurd (cc)

abbrev pub BitsBehind : BitsPlace → ModelToken → BitsRead → Option BitsPlace → Type 0
BitsBehind p t b None = Unit {0}
BitsBehind p t b (Some q) = (post : List ModelToken) (n v : ℕ) → BitsRest q (bits_traced p t b) post n v → BitsRest p b (t ∷ post) n v

-- what completes a word behind one more token does with that token before it
pub bits_behind : (p : BitsPlace) (t : ModelToken) (b : BitsRead) → BitsBehind p t b (bits_next p t)
bits_behind bits.Wanted t b = by (is_open t) (literal t) refl refl
  where
    by : (a : Bool) (o : Option BitsRead) → is_open t ≡ a → literal t ≡ o → BitsBehind bits.Wanted t b (if a then Some bits.Opened else when (is_some o)
        bits.Whole)
    by true o e f = λ post n v r. rw (opens t e) r
    by false (Some x) e f = λ post n v r.
        let same = rw f at r in
        rw same.0 (subst (λ k. IsWord (t ∷ []) k v) (sym same.1) (subst (λ k. IsWord (t ∷ []) x.width k) (sym same.2) (literal_is t x f)))
    by false None e f = tt
bits_behind bits.Opened t b = by (is_the_word (codes "_") t) refl
  where
    by : (u : Bool) → is_the_word (codes "_") t ≡ u → BitsBehind bits.Opened t b (when u bits.Number)
    by true g = λ post n v r. rw (the_word (codes "_") t g, r.is) (IsWord.decimal r.value r.width v n r.value_is r.width_is)
    by false g = tt
bits_behind bits.Number t b = by (bv_number t) refl
  where
    by : (o : Option ℕ) → bv_number t ≡ o → BitsBehind bits.Number t b (when (is_some o) bits.Width)
    by (Some x) f = λ post n v r.
        let k = bv_is t x f in
        let value : v ≡ x = r.value ∙ ap (λ (z : Option ℕ). (with_number z b).number) f in record {
          value = k.0;
          width = r.width;
          value_is = k.2 ∙ ap Some (sym value);
          width_is = r.width_is;
          is = ap (λ z. z ∷ post) k.1 ∙ ap (λ z. Word (codes "bv" ++ k.0) ∷ z) r.is;
        }
    by None f = tt
bits_behind bits.Width t b = by (numeral t) refl
  where
    by : (o : Option ℕ) → numeral t ≡ o → BitsBehind bits.Width t b (when (is_some o) bits.Close)
    by (Some x) f = λ post n v r.
        let k = numeral_is t x f in
        let same = rw f at r in record {
          width = k.0;
          width_is = k.2 ∙ ap Some (sym same.1);
          is = ap (λ z. z ∷ post) k.1 ∙ ap (λ z. Word k.0 ∷ z) same.0;
          value = same.2;
        }
    by None f = tt
bits_behind bits.Close t b = by (is_close t) refl
  where
    by : (u : Bool) → is_close t ≡ u → BitsBehind bits.Close t b (when u bits.Whole)
    by true g = λ post n v r. (ap (λ z. z ∷ post) (closes t g) ∙ ap (λ z. Close ∷ z) r.0, r.1, r.2)
    by false g = tt
bits_behind bits.Whole t b = tt

abbrev pub one_bit : ModelToken
one_bit = Word (codes "#b0")

pub is_one_bit : IsWord (one_bit ∷ []) 1 0
is_one_bit = IsWord.binary 48 [] refl

-- every place has a completion
pub bits_some : (p : BitsPlace) (b : BitsRead) → (post : List ModelToken) × (n : ℕ) × (v : ℕ) × BitsRest p b post n v
bits_some bits.Wanted b = (one_bit ∷ [], 1, 0, is_one_bit)
bits_some bits.Opened b = (_, 1, 0, IsWord.decimal (codes "0") (codes "1") 0 1 refl refl)
bits_some bits.Number b = (_, 1, 0, record { value = codes "0"; width = codes "1"; value_is = refl; width_is = refl; is = refl })
bits_some bits.Width b = (_, 1, b.number, record { width = codes "1"; width_is = refl; is = refl; value = refl })
bits_some bits.Close b = (Close ∷ [], b.width, b.number, (refl, refl, refl))
bits_some bits.Whole b = ([], b.width, b.number, (refl, refl, refl))

module _ (role : Role) (d : ℕ) (tr : Trace) where
  abbrev pub with_word : ℕ → ℕ → Trace
  with_word n v = with_role role (record tr { bits = bits_of n v })

  -- a word of bits is read
  pub bits_read : (ts us : List ModelToken) (n v : ℕ) → IsWord ts n v →
      within (places.Bits role d bits.Wanted) tr (ts ++ us) ≡ within (after_bits role d) (with_word n v) us
  bits_read ts us n v (IsWord.hexadecimal x xs h) = rw h refl
  bits_read ts us n v (IsWord.binary x xs h) = rw h refl
  bits_read ts us n v (IsWord.decimal a b value width h k) = rw (h, k) refl

module _ (d : ℕ) (tr : Trace) where
  -- and so where it is a value
  pub base_read : (ts us : List ModelToken) (n v : ℕ) → IsWord ts n v →
      within (places.Value d) tr (ts ++ us) ≡ within (after_value d) (with_role Base (record tr { bits = bits_of n v })) us
  base_read ts us n v (IsWord.hexadecimal x xs h) = rw h refl
  base_read ts us n v (IsWord.binary x xs h) = rw h refl
  base_read ts us n v (IsWord.decimal a b value width h k) = rw (h, k) refl
