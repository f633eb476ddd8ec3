-- Sorts, token by token: where a reading stands tells what completes a sort there.
use Rattle.std.proofs.Common.{◌≡◌, ◌≢◌, ℕ, zero, suc, ◌+◌, Bool, true, false, List, [], ◌∷◌, ◌++◌, Option, Some, None, refl, sym, ap, ◌∙◌, subst, arith, add-one, append_assoc, All}
use Rattle.std.proofs.lemmas.List.{append-nil}
use Rattle.std.specs.Prelude.{◌||◌, if◌then◌else◌, codes}
use Rattle.std.specs.Str.{bytes_eq}
use Rattle.std.specs.Str.Parse.{digits_value}
use Rattle.std.proofs.lemmas.Slice.Eq.{bytes_eq-Decides}
use Rattle.word_spec.specs.Texts.{is_decimal, decimal_word}
use Rattle.model_spec.specs.ModelText.{ModelToken, Open, Close, Word, Quoted, Text, Bad, is_symbol, IsName, IsIndex, IsSortForm, AreSortForms}
use Rattle.model_text.specs.declared.sort_place.SortPlace.{SortPlace}
use Rattle.model_text.specs.declared.sort_place.SortPlace.TheVariants.{Wanted, Opened, HeadOpened, Name, FirstIndex, Indices, More, Whole}
use Rattle.model_text.specs.Tokens.{is_open, is_close, is_name, is_index, is_the_word, name_text, when}
use Rattle.model_text.specs.Sorts.{completed, behind_indices, sort_next}

-- ---- tests on tokens

abbrev pub Is : Bool → Type 0
Is b = b ≡ true

pub same_word : (w : List ℕ) → bytes_eq w w ≡ true
same_word w = (bytes_eq-Decides w w).1 refl

pub the_word : (w : List ℕ) (t : ModelToken) → is_the_word w t ≡ true → t ≡ Word w
the_word w (Word v) h = ap Word ((bytes_eq-Decides v w).0 h)
the_word w Open h = cc
the_word w Close h = cc
the_word w (Quoted v) h = cc
the_word w Text h = cc
the_word w Bad h = cc

pub not_the_word : (w : List ℕ) (t : ModelToken) → is_the_word w t ≡ false → t ≢ Word w
not_the_word w t h e = let x : true ≡ false = sym (same_word w) ∙ ap (is_the_word w) (sym e) ∙ h in cc

pub opens : (t : ModelToken) → is_open t ≡ true → t ≡ Open
opens Open h = refl
opens Close h = cc
opens (Word v) h = cc
opens (Quoted v) h = cc
opens Text h = cc
opens Bad h = cc

pub closes : (t : ModelToken) → is_close t ≡ true → t ≡ Close
closes Close h = refl
closes Open h = cc
closes (Word v) h = cc
closes (Quoted v) h = cc
closes Text h = cc
closes Bad h = cc

pub name_is : (t : ModelToken) → is_name t ≡ true → IsName t (name_text t)
name_is (Word v) h = IsName.plain v h
name_is (Quoted v) h = IsName.quoted v
name_is Open h = cc
name_is Close h = cc
name_is Text h = cc
name_is Bad h = cc

pub name_tests : (t : ModelToken) (w : List ℕ) → IsName t w → (is_name t ≡ true) × (is_open t ≡ false) × (is_close t ≡ false) × (name_text t ≡ w)
name_tests t w (IsName.plain v h) = (h, refl, refl, refl)
name_tests t w (IsName.quoted v) = (refl, refl, refl, refl)

index_word : (v : List ℕ) (b c : Bool) → is_decimal v ≡ b → is_symbol v ≡ c → (b || c) ≡ true → IsIndex (Word v)
index_word v true c d s h = IsIndex.by_number v (digits_value 10 v) (rw d refl)
index_word v false true d s h = IsIndex.by_symbol (IsName.plain v s)
index_word v false false d s h = cc

pub index_is : (t : ModelToken) → is_index t ≡ true → IsIndex t
index_is (Word v) h = index_word v (is_decimal v) (is_symbol v) refl refl h
index_is (Quoted v) h = IsIndex.by_symbol (IsName.quoted v)
index_is Open h = cc
index_is Close h = cc
index_is Text h = cc
index_is Bad h = cc

decimal_is : (w : List ℕ) (n : ℕ) (b : Bool) → is_decimal w ≡ b → decimal_word w ≡ Some n → is_decimal w ≡ true
decimal_is w n true e h = e
decimal_is w n false e h = let x : None ≡ Some n = sym (rw e refl) ∙ h in cc

or_right : (a b : Bool) → b ≡ true → (a || b) ≡ true
or_right true b h = refl
or_right false b h = h

or_left : (a b : Bool) → a ≡ true → (a || b) ≡ true
or_left a b h = rw h refl

pub index_tests : (t : ModelToken) → IsIndex t → (is_index t ≡ true) × (is_close t ≡ false)
index_tests t (IsIndex.by_number w n h) = (or_left (is_decimal w) (is_symbol w) (decimal_is w n (is_decimal w) refl h), refl)
index_tests t (IsIndex.by_symbol {w} (IsName.plain v h)) = (or_right (is_decimal v) (is_symbol v) h, refl)
index_tests t (IsIndex.by_symbol {w} (IsName.quoted v)) = (refl, refl)

pub when_some : {A : Type 0} (b : Bool) (x y : A) → when b x ≡ Some y → (b ≡ true) × (x ≡ y)
when_some true x y h = (refl, cc)
when_some false x y h = cc

-- ---- lists with closing brackets in them

pub closed_two : (a b c : List ModelToken) → ((a ++ b) ++ Close ∷ []) ++ c ≡ a ++ (b ++ (Close ∷ c))
closed_two a b c = append_assoc (a ++ b) (Close ∷ []) c ∙ append_assoc a b (Close ∷ c)

pub closed_three : (a b c d : List ModelToken) → (((a ++ b) ++ c) ++ Close ∷ []) ++ d ≡ a ++ (b ++ (c ++ (Close ∷ d)))
closed_three a b c d = append_assoc ((a ++ b) ++ c) (Close ∷ []) d ∙ append_assoc (a ++ b) c (Close ∷ d) ∙ append_assoc a b (c ++ (Close ∷ d))

pub closed_twice : (a b c : List ModelToken) → (((a ++ Close ∷ []) ++ b) ++ Close ∷ []) ++ c ≡ a ++ (Close ∷ (b ++ (Close ∷ c)))
closed_twice a b c = closed_two (a ++ Close ∷ []) b c ∙ append_assoc a (Close ∷ []) (b ++ (Close ∷ c))

closed_four : (a b c d : List ModelToken) → ((((a ++ Close ∷ []) ++ b) ++ c) ++ Close ∷ []) ++ d ≡ a ++ (Close ∷ (b ++ (c ++ (Close ∷ d))))
closed_four a b c d = closed_three (a ++ Close ∷ []) b c d ∙ append_assoc a (Close ∷ []) (b ++ (c ++ (Close ∷ d)))

-- ---- what completes a sort

-- behind a sort in so many brackets
abbrev pub AfterRest : ℕ → List ModelToken → Type 0
AfterRest zero post = post ≡ []
AfterRest (suc o) post = (ts : List ModelToken) × (rest : List ModelToken) × AreSortForms ts × (post ≡ ts ++ Close ∷ rest) × AfterRest o rest

-- a sort in so many brackets, of which some tokens were read
pub record SortIn (front : List ModelToken) (d : ℕ) (post : List ModelToken) : Type 0 where
  pub part : List ModelToken
  pub rest : List ModelToken
  pub sort : IsSortForm (front ++ part)
  pub is : post ≡ part ++ rest
  pub after : AfterRest d rest

-- behind the indices of a name
abbrev pub HeadRest : (head : Bool) → ℕ → List ModelToken → Type 0
HeadRest true d post = SortIn [] (suc d) post
HeadRest false d post = AfterRest d post

pub record IndicesIn (head : Bool) (d : ℕ) (post : List ModelToken) : Type 0 where
  pub indices : List ModelToken
  pub rest : List ModelToken
  pub are : All IsIndex indices
  pub is : post ≡ indices ++ Close ∷ rest
  pub after : HeadRest head d rest

pub record FirstIn (head : Bool) (d : ℕ) (post : List ModelToken) : Type 0 where
  pub index : ModelToken
  pub rest : List ModelToken
  pub index_is : IsIndex index
  pub is : post ≡ index ∷ rest
  pub others : IndicesIn head d rest

pub record NameIn (head : Bool) (d : ℕ) (post : List ModelToken) : Type 0 where
  pub name : ModelToken
  pub text : List ℕ
  pub rest : List ModelToken
  pub name_is : IsName name text
  pub is : post ≡ name ∷ rest
  pub first : FirstIn head d rest

-- by places
abbrev pub SortRest : SortPlace → List ModelToken → Type 0
SortRest (Wanted d) post = SortIn [] d post
SortRest (Opened d) post = SortIn (Open ∷ []) d post
SortRest (HeadOpened d) post = SortIn (Open ∷ Open ∷ []) d post
SortRest (Name head d) post = NameIn head d post
SortRest (FirstIndex head d) post = FirstIn head d post
SortRest (Indices head d) post = IndicesIn head d post
SortRest (More o) post = AfterRest (suc o) post
SortRest Whole post = post ≡ []

completed_rest : (d : ℕ) (post : List ModelToken) → SortRest (completed d) post → AfterRest d post
completed_rest zero post h = h
completed_rest (suc o) post h = h

indices_rest : (head : Bool) (d : ℕ) (post : List ModelToken) → SortRest (behind_indices head d) post → HeadRest head d post
indices_rest true d post h = subst (λ n. SortIn [] n post) (add-one d) h
indices_rest false d post h = completed_rest d post h

-- one more index
more_indices : (t : ModelToken) → IsIndex t → (is : List ModelToken) → All IsIndex is → All IsIndex (t ∷ is)
more_indices t h is all zero d lt = h
more_indices t h is all (suc k) d lt = all k d (omega arith)

first_name : (t : ModelToken) (head : Bool) (d : ℕ) (post : List ModelToken) → is_name t ≡ true → FirstIn head d post → NameIn head d (t ∷ post)
first_name t head d post h r = record { name = t; text = name_text t; rest = post; name_is = name_is t h; is = refl; first = r }

-- a name over sorts
over : (t : ModelToken) (d : ℕ) (post : List ModelToken) → is_name t ≡ true → is_the_word (codes "_") t ≡ false → SortIn [] (suc d) post →
    SortIn (Open ∷ []) d (t ∷ post)
over t d post h u r =
    let a = r.after in record {
      part = t ∷ ((r.part ++ a.0) ++ Close ∷ []);
      rest = a.1;
      sort = IsSortForm.applied t (name_text t) r.part a.0 (name_is t h) (not_the_word (codes "_") t u) r.sort a.2;
      is = ap (λ x. t ∷ x) (r.is ∙ ap (λ x. r.part ++ x) a.3 ∙ sym (closed_two r.part a.0 a.1));
      after = a.4;
    }

-- a name with indices
indexed : (d : ℕ) (post : List ModelToken) → NameIn false d post → SortIn (Open ∷ []) d (Word (codes "_") ∷ post)
indexed d post r =
    let f = r.first in
    let o = f.others in record {
      part = Word (codes "_") ∷ r.name ∷ f.index ∷ o.indices ++ Close ∷ [];
      rest = o.rest;
      sort = IsSortForm.indexed r.name f.index r.text o.indices r.name_is f.index_is o.are;
      is = ap (λ x. Word (codes "_") ∷ x) (r.is ∙ ap (λ x. r.name ∷ x) (f.is ∙ ap (λ x. f.index ∷ x) (o.is ∙ sym (append_assoc o.indices (Close ∷ [])
          o.rest))));
      after = o.after;
    }

-- one over sorts
index_over : (d : ℕ) (post : List ModelToken) → NameIn true d post → SortIn (Open ∷ Open ∷ []) d (Word (codes "_") ∷ post)
index_over d post r =
    let f = r.first in
    let o = f.others in
    let s = o.after in
    let a = s.after in record {
      part = Word (codes "_") ∷ r.name ∷ f.index ∷ ((((o.indices ++ Close ∷ []) ++ s.part) ++ a.0) ++ Close ∷ []);
      rest = a.1;
      sort = IsSortForm.index_applied r.name f.index r.text o.indices s.part a.0 r.name_is f.index_is o.are s.sort a.2;
      is = ap (λ x. Word (codes "_") ∷ x) (r.is ∙ ap (λ x. r.name ∷ x) (f.is ∙ ap (λ x. f.index ∷ x)
          (o.is ∙ ap (λ x. o.indices ++ (Close ∷ x)) (s.is ∙ ap (λ x. s.part ++ x) a.3) ∙ sym (closed_four o.indices s.part a.0 a.1))));
      after = a.4;
    }

-- a sort that stands in brackets behind another
next_sort : (o : ℕ) (post : List ModelToken) → SortIn [] (suc o) post → AfterRest (suc o) post
next_sort o post r = let a = r.after in (
  r.part ++ a.0,
  a.1,
  AreSortForms.some r.sort a.2,
  r.is ∙ ap (λ x. r.part ++ x) a.3 ∙ sym (append_assoc r.part a.0 (Close ∷ a.1)),
  a.4,
)

opened_next : (o : ℕ) (post : List ModelToken) → SortIn (Open ∷ []) (suc o) post → AfterRest (suc o) (Open ∷ post)
opened_next o post r =
    next_sort o (Open ∷ post) (record { part = Open ∷ r.part; rest = r.rest; sort = r.sort; is = ap (λ x. Open ∷ x) r.is; after = r.after })

abbrev pub Behind : SortPlace → ModelToken → Option SortPlace → Type 0
Behind p t None = Unit {0}
Behind p t (Some q) = (post : List ModelToken) → SortRest q post → SortRest p (t ∷ post)

named_sort : (t : ModelToken) (d : ℕ) → is_name t ≡ true → Behind (Wanted d) t (Some (completed d))
named_sort t d h post r =
    record { part = t ∷ []; rest = post; sort = IsSortForm.named (name_is t h); is = refl; after = completed_rest d post r }

-- what completes a sort behind one more token does with that token before it
pub behind : (p : SortPlace) (t : ModelToken) → Behind p t (sort_next p t)
behind (Wanted d) t = by (is_open t) (is_name t) refl refl
  where
    by : (a b : Bool) → is_open t ≡ a → is_name t ≡ b → Behind (Wanted d) t (if a then Some (Opened d) else when b (completed d))
    by true b e f = λ post r. rw (opens t e) (record { part = Open ∷ r.part; rest = r.rest; sort = r.sort; is = ap (λ x. Open ∷ x) r.is; after = r.after })
    by false true e f = λ post r. named_sort t d f post r
    by false false e f = tt
behind (Opened d) t = by (is_open t) (is_the_word (codes "_") t) (is_name t) refl refl refl
  where
    by : (a u b : Bool) → is_open t ≡ a → is_the_word (codes "_") t ≡ u → is_name t ≡ b →
        Behind (Opened d) t (if a then Some (HeadOpened d) else if u then Some (Name false d) else when b (Wanted (d + 1)))
    by true u b e g f = λ post r. rw (opens t e) (record { part = Open ∷ r.part; rest = r.rest; sort = r.sort; is = ap (λ x. Open ∷ x) r.is; after = r.after })
    by false true b e g f = λ post r. rw (the_word (codes "_") t g) (indexed d post r)
    by false false true e g f = λ post r. over t d post f g (subst (λ n. SortIn [] n post) (add-one d) r)
    by false false false e g f = tt
behind (HeadOpened d) t = by (is_the_word (codes "_") t) refl
  where
    by : (u : Bool) → is_the_word (codes "_") t ≡ u → Behind (HeadOpened d) t (when u (Name true d))
    by true g = λ post r. rw (the_word (codes "_") t g) (index_over d post r)
    by false g = tt
behind (Name head d) t = by (is_name t) refl
  where
    by : (b : Bool) → is_name t ≡ b → Behind (Name head d) t (when b (FirstIndex head d))
    by true f = λ post r. first_name t head d post f r
    by false f = tt
behind (FirstIndex head d) t = by (is_index t) refl
  where
    by : (b : Bool) → is_index t ≡ b → Behind (FirstIndex head d) t (when b (Indices head d))
    by true f = λ post r. record { index = t; rest = post; index_is = index_is t f; is = refl; others = r }
    by false f = tt
behind (Indices head d) t = by (is_close t) (is_index t) refl refl
  where
    by : (a b : Bool) → is_close t ≡ a → is_index t ≡ b → Behind (Indices head d) t (if a then Some (behind_indices head d) else when b (Indices head d))
    by true b e f = λ post r.
        record { indices = []; rest = post; are = λ k x l. absurd (omega arith); is = ap (λ x. x ∷ post) (closes t e); after = indices_rest head d post r }
    by false true e f = λ post r.
        record { indices = t ∷ r.indices; rest = r.rest; are = more_indices t (index_is t f) r.indices r.are; is = ap (λ x. t ∷ x) r.is; after = r.after }
    by false false e f = tt
behind (More o) t = by (is_close t) (is_open t) (is_name t) refl refl refl
  where
    by : (a u b : Bool) → is_close t ≡ a → is_open t ≡ u → is_name t ≡ b →
        Behind (More o) t (if a then Some (completed o) else if u then Some (Opened (o + 1)) else when b (More o))
    by true u b e g f = λ post r. ([], post, AreSortForms.none, ap (λ x. x ∷ post) (closes t e), completed_rest o post r)
    by false true b e g f = λ post r. rw (opens t g) (opened_next o post (subst (λ n. SortIn (Open ∷ []) n post) (add-one o) r))
    by false false true e g f = λ post r. next_sort o (t ∷ post) (named_sort t (suc o) f post r)
    by false false false e g f = tt
behind Whole t = tt

-- every place has a completion
after_some : (d : ℕ) → (post : List ModelToken) × AfterRest d post
after_some zero = ([], refl)
after_some (suc o) = let r = after_some o in (Close ∷ r.0, ([], r.0, AreSortForms.none, refl, r.1))

abbrev a_name : ModelToken
a_name = Quoted []

is_a_name : IsName a_name []
is_a_name = IsName.quoted []

wanted_some : (d : ℕ) → (post : List ModelToken) × SortIn [] d post
wanted_some d = let r = after_some d in (
  a_name ∷ r.0,
  record { part = a_name ∷ []; rest = r.0; sort = IsSortForm.named is_a_name; is = refl; after = r.1 },
)

indices_some : (head : Bool) (d : ℕ) → (post : List ModelToken) × IndicesIn head d post
indices_some true d = let r = wanted_some (suc d) in (
  Close ∷ r.0,
  record { indices = []; rest = r.0; are = λ k x l. absurd (omega arith); is = refl; after = r.1 },
)
indices_some false d = let r = after_some d in (
  Close ∷ r.0,
  record { indices = []; rest = r.0; are = λ k x l. absurd (omega arith); is = refl; after = r.1 },
)

first_some : (head : Bool) (d : ℕ) → (post : List ModelToken) × FirstIn head d post
first_some head d = let r = indices_some head d in (
  a_name ∷ r.0,
  record { index = a_name; rest = r.0; index_is = IsIndex.by_symbol is_a_name; is = refl; others = r.1 },
)

name_some : (head : Bool) (d : ℕ) → (post : List ModelToken) × NameIn head d post
name_some head d = let r = first_some head d in (
  a_name ∷ r.0,
  record { name = a_name; text = []; rest = r.0; name_is = is_a_name; is = refl; first = r.1 },
)

pub some : (p : SortPlace) → (post : List ModelToken) × SortRest p post
some (Wanted d) = wanted_some d
some (Opened d) = let r = name_some false d in (Word (codes "_") ∷ r.0, indexed d r.0 r.1)
some (HeadOpened d) = let r = name_some true d in (Word (codes "_") ∷ r.0, index_over d r.0 r.1)
some (Name head d) = name_some head d
some (FirstIndex head d) = first_some head d
some (Indices head d) = indices_some head d
some (More o) = after_some (suc o)
some Whole = ([], refl)

-- ---- sorts are read

abbrev pub go : {A B : Type 0} → Option A → (A → Option B) → Option B
go None f = None
go (Some x) f = f x

-- the place behind some tokens
abbrev pub sort_run : SortPlace → List ModelToken → Option SortPlace
sort_run p [] = Some p
sort_run p (t ∷ ts) = go (sort_next p t) (λ q. sort_run q ts)

indices_run : (head : Bool) (d : ℕ) (is us : List ModelToken) → All IsIndex is → sort_run (Indices head d) (is ++ us) ≡ sort_run (Indices head d) us
indices_run head d [] us all = refl
indices_run head d (i ∷ is) us all =
    let h = index_tests i (all 0 i (omega arith)) in
    rw (h.1, h.0) (indices_run head d is us (λ k x l. all (suc k) x (omega arith)))

other_word : (w : List ℕ) (t : ModelToken) (b : Bool) → is_the_word w t ≡ b → t ≢ Word w → is_the_word w t ≡ false
other_word w t false e h = e
other_word w t true e h = absurd (h (the_word w t e))

-- behind a sort another is read as the first is
first_token : (o : ℕ) (ts us : List ModelToken) → IsSortForm ts → sort_run (More o) (ts ++ us) ≡ sort_run (Wanted (suc o)) (ts ++ us)
first_token o ts us (IsSortForm.named {t} {w} h) = let n = name_tests t w h in rw (n.2, n.1, n.0) refl
first_token o ts us (IsSortForm.indexed t i w is h j all) = rw (add-one o) refl
first_token o ts us (IsSortForm.applied t w ss rest h u s r) = rw (add-one o) refl
first_token o ts us (IsSortForm.index_applied t i w is ss rest h j all s r) = rw (add-one o) refl

mutual
  sort_read : (d : ℕ) (ts us : List ModelToken) → IsSortForm ts → sort_run (Wanted d) (ts ++ us) ≡ sort_run (completed d) us
  sort_read d ts us (IsSortForm.named {t} {w} h) = let n = name_tests t w h in rw (n.1, n.0) refl
  sort_read d ts us (IsSortForm.indexed t i w is h j all) =
      let n = name_tests t w h in
      let x = index_tests i j in
      rw (n.0, x.0) (ap (λ (z : List ModelToken). sort_run (Indices false d) z) (append_assoc is (Close ∷ []) us) ∙ indices_run false d is (Close ∷ us) all)
  sort_read d ts us (IsSortForm.applied t w ss rest h u s r) =
      let n = name_tests t w h in
      rw (n.1, other_word (codes "_") t (is_the_word (codes "_") t) refl u, n.0)
      (ap (λ (z : List ModelToken). sort_run (Wanted (d + 1)) z) (closed_two ss rest us) ∙ ap (λ k. sort_run (Wanted k) (ss ++ (rest ++ Close ∷ us)))
      (add-one d)
      ∙ sort_read (suc d) ss (rest ++ Close ∷ us) s ∙ sorts_read d rest (Close ∷ us) r)
  sort_read d ts us (IsSortForm.index_applied t i w is ss rest h j all s r) =
      let n = name_tests t w h in
      let x = index_tests i j in
      rw (n.0, x.0)
      (ap (λ (z : List ModelToken). sort_run (Indices true d) z) (closed_four is ss rest us) ∙ indices_run true d is (Close ∷ ss ++ (rest ++ Close ∷ us)) all
      ∙ ap (λ k. sort_run (Wanted k) (ss ++ (rest ++ Close ∷ us))) (add-one d)
      ∙ sort_read (suc d) ss (rest ++ Close ∷ us) s ∙ sorts_read d rest (Close ∷ us) r)

  sorts_read : (o : ℕ) (ts us : List ModelToken) → AreSortForms ts → sort_run (More o) (ts ++ us) ≡ sort_run (More o) us
  sorts_read o ts us AreSortForms.none = refl
  sorts_read o ts us (AreSortForms.some {ts = ss} {us = rest} s r) =
      ap (sort_run (More o)) (append_assoc ss rest us) ∙ first_token o ss (rest ++ us) s ∙ sort_read (suc o) ss (rest ++ us) s ∙ sorts_read o rest us r

-- the tokens of a sort are read as one
pub sort_whole : (ts : List ModelToken) → IsSortForm ts → sort_run (Wanted 0) ts ≡ Some Whole
sort_whole ts s = ap (sort_run (Wanted 0)) (sym (append-nil ts)) ∙ sort_read 0 ts [] s
