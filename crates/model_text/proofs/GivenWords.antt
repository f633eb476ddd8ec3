-- What is kept of values behind one more definition.
use Rattle.std.proofs.Common.{◌≡◌, ◌≢◌, ℕ, zero, suc, ◌<◌, Bool, true, false, arith, List, [], ◌∷◌, ◌++◌, Option, Some, None, refl, sym, ap, ◌∙◌, subst, length, set, replicate}
use Rattle.std.specs.Prelude.{◌==◌, ◌||◌, if◌then◌else◌, codes, is_some, slice_index_or}
use Rattle.std.specs.Global.{Vec}
use Rattle.std.specs.List.{list_any}
use Rattle.std.specs.Str.{bytes_eq}
use Rattle.std.proofs.lemmas.Bool.{eqb-true}
use Rattle.std.proofs.lemmas.Bool.Decides.{nat_tests}
use Rattle.std.proofs.lemmas.Slice.Eq.{bytes_eq-Decides}
use Rattle.std.proofs.lemmas.List.{get_or_read, length-replicate, length-set, get_or-set_same, get_or-set_other}
use Rattle.machine_spec.specs.StateText.{Layout}
use Rattle.model_spec.specs.ModelText.{ModelToken, Value, Definition, Gives, PassedOver}
use Rattle.model_spec.specs.Models.{given, word_of}
use Rattle.model_text.specs.declared.stores.Stored.{Stored}
use Rattle.model_text.specs.declared.findings.Findings.{Findings}
use Rattle.model_text.specs.Faults.{Found}
use Rattle.model_text.specs.Symbols.{name_at, IsOtherName}
use Rattle.model_text.specs.Drafts.{IsWordOf, IsStored, IsMemoryOf, AreApart, AreFindings}
use Rattle.model_text.proofs.SortForms.{same_word}

-- ---- what is given

abbrev or_value : Option Value → Option Value → Option Value
or_value None o = o
or_value (Some v) o = Some v

given_more : (ds : List Definition) (n w : List ℕ) (sort : List ModelToken) (v : Value) →
    given (ds ++ Gives n sort v ∷ []) w ≡ or_value (given ds w) (if bytes_eq n w then Some v else None)
given_more [] n w sort v = refl
given_more (PassedOver ∷ ds) n w sort v = given_more ds n w sort v
given_more (Gives m s u ∷ ds) n w sort v = by (bytes_eq m w) (given_more ds n w sort v)
  where
    by : (b : Bool) → given (ds ++ Gives n sort v ∷ []) w ≡ or_value (given ds w) (if bytes_eq n w then Some v else None) →
        (if b then Some u else given (ds ++ Gives n sort v ∷ []) w) ≡
        or_value (if b then Some u else given ds w) (if bytes_eq n w then Some v else None)
    by true ih = refl
    by false ih = ih

given_passed : (ds : List Definition) (w : List ℕ) → given (ds ++ PassedOver ∷ []) w ≡ given ds w
given_passed [] w = refl
given_passed (PassedOver ∷ ds) w = given_passed ds w
given_passed (Gives m s u ∷ ds) w = ap (λ (o : Option Value). if bytes_eq m w then Some u else o) (given_passed ds w)

or_none : (o : Option Value) → or_value o None ≡ o
or_none None = refl
or_none (Some v) = refl

given_other : (ds : List Definition) (n w : List ℕ) (sort : List ModelToken) (v : Value) → bytes_eq n w ≡ false →
    given (ds ++ Gives n sort v ∷ []) w ≡ given ds w
given_other ds n w sort v h =
    given_more ds n w sort v ∙ ap (λ (b : Bool). or_value (given ds w) (if b then Some v else None)) h ∙ or_none (given ds w)

given_before : (ds : List Definition) (n w : List ℕ) (sort : List ModelToken) (v : Value) → is_some (given ds w) ≡ true →
    given (ds ++ Gives n sort v ∷ []) w ≡ given ds w
given_before ds n w sort v h = given_more ds n w sort v ∙ by (given ds w) h
  where
    by : (o : Option Value) → is_some o ≡ true → or_value o (if bytes_eq n w then Some v else None) ≡ o
    by (Some u) e = refl
    by None e = absurd (cc)

given_new : (ds : List Definition) (n : List ℕ) (sort : List ModelToken) (v : Value) → is_some (given ds n) ≡ false →
    given (ds ++ Gives n sort v ∷ []) n ≡ Some v
given_new ds n sort v h = given_more ds n n sort v ∙ by (given ds n) h
  where
    by : (o : Option Value) → is_some o ≡ false → or_value o (if bytes_eq n n then Some v else None) ≡ Some v
    by None e = ap (λ (b : Bool). if b then Some v else None) (same_word n)
    by (Some u) e = absurd (cc)

-- ---- the array of the memory

memory_is_some : (kept : Option Found) (o : Option Stored) (v : Option Value) → IsMemoryOf kept o v → is_some o ≡ is_some v
memory_is_some kept None None h = refl
memory_is_some kept None (Some v) h = absurd h
memory_is_some kept (Some s) None h = absurd h
memory_is_some kept (Some s) (Some v) h = refl

-- ---- all

module _ (layout : Layout) (count : ℕ) (kept : Option Found) (ds : List Definition) where
  -- a definition that gives nothing new
  findings_as : (f : Findings) (more : List Definition) → AreFindings layout count kept f ds →
      ((i : ℕ) → i < count → given more (name_at layout i) ≡ given ds (name_at layout i)) → given more (codes "mem") ≡ given ds (codes "mem") →
      ((w : List ℕ) → IsOtherName layout count w → given more w ≡ given ds w) → AreFindings layout count kept f more
  findings_as f more h words memory others = record {
    apart = h.apart;
    count_is = h.count_is;
    words = λ i l. subst (λ (z : Option Value). IsWordOf kept (slice_index_or f.words.items i None) z) (sym (words i l)) (h.words i l);
    memory = subst (IsMemoryOf kept f.memory) (sym memory) h.memory;
    others = λ w o. h.others w o ∙ ap (λ (z : Option Value). is_some z) (sym (others w o));
  }

  pub findings_passed : (f : Findings) → AreFindings layout count kept f ds → AreFindings layout count kept f (ds ++ PassedOver ∷ [])
  findings_passed f h = findings_as f (ds ++ PassedOver ∷ []) h (λ i l. given_passed ds (name_at layout i)) (given_passed ds (codes "mem"))
      (λ w o. given_passed ds w)

  other_names : (i j : ℕ) → AreApart layout count → i < count → j < count → i ≢ j → bytes_eq (name_at layout i) (name_at layout j) ≡ false
  other_names i j a k l other = by (bytes_eq (name_at layout i) (name_at layout j)) refl
    where
      by : (b : Bool) → bytes_eq (name_at layout i) (name_at layout j) ≡ b → b ≡ false
      by false e = refl
      by true e = absurd (other (a.each i j k l e))

  module _ (sort : List ModelToken) (v : Value) where
    -- a word that was given before
    pub word_again : (f : Findings) (place : ℕ) → AreFindings layout count kept f ds → place < count → is_some (slice_index_or f.words.items place None) ≡
        true →
        AreFindings layout count kept f (ds ++ Gives (name_at layout place) sort v ∷ [])
    word_again f place h l some = findings_as f (ds ++ Gives (name_at layout place) sort v ∷ []) h
        (λ i k. by i k (i == place) refl) (given_other ds (name_at layout place) (codes "mem") sort v (h.apart.memory place l))
        (λ w o. given_other ds (name_at layout place) w sort v (o.0 place l))
      where
        by : (i : ℕ) → i < count → (b : Bool) → (i == place) ≡ b →
            given (ds ++ Gives (name_at layout place) sort v ∷ []) (name_at layout i) ≡ given ds (name_at layout i)
        by i k true e =
            let same = eqb-true i place e in
            let there : is_some (given ds (name_at layout i)) ≡ true =
            sym (h.words i k).given ∙ ap (λ (z : ℕ). is_some (slice_index_or f.words.items z None)) same ∙ some in
            given_before ds (name_at layout place) (name_at layout i) sort v there
        by i k false e =
            given_other ds (name_at layout place) (name_at layout i) sort v (other_names place i h.apart l k (grind (arith, nat_tests, e)))

    -- and one that is given first
    pub word_new : (f g : Findings) (place number : ℕ) → AreFindings layout count kept f ds → place < count → slice_index_or f.words.items place None ≡ None →
        (kept ≡ None → number ≡ word_of (Some v)) → g.words.items ≡ set f.words.items place (Some number) → g.memory ≡ f.memory →
        g.others ≡ f.others → AreFindings layout count kept g (ds ++ Gives (name_at layout place) sort v ∷ [])
    word_new f g place number h l none is words memory others = record {
      apart = h.apart;
      count_is = ap length words ∙ length-set f.words.items place (Some number) ∙ h.count_is;
      words = λ i k. by i k (i == place) refl;
      memory =
          subst (λ (z : Option Value). IsMemoryOf kept g.memory z) (sym (given_other ds (name_at layout place) (codes "mem") sort v (h.apart.memory place l)))
          (subst (λ (z : Option Stored). IsMemoryOf kept z (given ds (codes "mem"))) (sym memory) h.memory);
      others = λ w o.
          ap (λ z. list_any (λ n. bytes_eq n.items w) z.items) others ∙ h.others w o
          ∙ ap (λ (z : Option Value). is_some z) (sym (given_other ds (name_at layout place) w sort v (o.0 place l)));
    }
      where
        within : place < length f.words.items
        within = subst (λ (z : ℕ). place < z) (sym h.count_is) l

        by : (i : ℕ) → i < count → (b : Bool) → (i == place) ≡ b →
            IsWordOf kept (slice_index_or g.words.items i None) (given (ds ++ Gives (name_at layout place) sort v ∷ []) (name_at layout i))
        by i k true e =
            let same = eqb-true i place e in
            let there : slice_index_or g.words.items place None ≡ Some number =
            ap (λ (z : List (Option ℕ)). slice_index_or z place None) words ∙ get_or-set_same f.words.items place (Some number) None within in
            let before : is_some (given ds (name_at layout place)) ≡ false = sym (h.words place l).given ∙ ap (λ (o : Option ℕ). is_some o) none in
            let new = given_new ds (name_at layout place) sort v before in
            subst (λ (z : ℕ). IsWordOf kept (slice_index_or g.words.items z None) (given (ds ++ Gives (name_at layout place) sort v ∷ []) (name_at layout
            z))) (sym same)
            (subst (λ (o : Option ℕ). IsWordOf kept o (given (ds ++ Gives (name_at layout place) sort v ∷ []) (name_at layout place))) (sym there)
            (subst (λ (z : Option Value). IsWordOf kept (Some number) z) (sym new) (record { given = refl; word = is })))
        by i k false e =
            let other : i ≢ place = grind (arith, nat_tests, e) in
            let here : slice_index_or g.words.items i None ≡ slice_index_or f.words.items i None =
            ap (λ (z : List (Option ℕ)). slice_index_or z i None) words ∙ get_or-set_other f.words.items place i (Some number) None other in
            let old = given_other ds (name_at layout place) (name_at layout i) sort v (other_names place i h.apart l k (λ s. other (sym s))) in
            subst (λ (o : Option ℕ). IsWordOf kept o (given (ds ++ Gives (name_at layout place) sort v ∷ []) (name_at layout i))) (sym here)
            (subst (λ (z : Option Value). IsWordOf kept (slice_index_or f.words.items i None) z) (sym old) (h.words i k))

    memory_words : (f : Findings) → AreFindings layout count kept f ds → (i : ℕ) → i < count → bytes_eq (codes "mem") (name_at layout i) ≡ false
    memory_words f h i l = by (bytes_eq (codes "mem") (name_at layout i)) refl
      where
        by : (b : Bool) → bytes_eq (codes "mem") (name_at layout i) ≡ b → b ≡ false
        by false e = refl
        by true e =
            let same = (bytes_eq-Decides (codes "mem") (name_at layout i)).0 e in
            let x : true ≡ false = sym (same_word (codes "mem")) ∙ ap (λ (z : List ℕ). bytes_eq z (codes "mem")) same ∙ h.apart.memory i l in absurd (cc)

    -- the memory
    pub memory_again : (f : Findings) → AreFindings layout count kept f ds → is_some f.memory ≡ true →
        AreFindings layout count kept f (ds ++ Gives (codes "mem") sort v ∷ [])
    memory_again f h some = findings_as f (ds ++ Gives (codes "mem") sort v ∷ []) h
        (λ i l. given_other ds (codes "mem") (name_at layout i) sort v (memory_words f h i l))
        (given_before ds (codes "mem") (codes "mem") sort v (sym (memory_is_some kept f.memory (given ds (codes "mem")) h.memory) ∙ some))
        (λ w o. given_other ds (codes "mem") w sort v o.1)

    pub memory_new : (f g : Findings) (s : Stored) → AreFindings layout count kept f ds → is_some f.memory ≡ false → (kept ≡ None → IsStored s v) →
        g.words.items ≡ f.words.items → g.memory ≡ Some s → g.others ≡ f.others → AreFindings layout count kept g (ds ++ Gives (codes "mem") sort v ∷ [])
    memory_new f g s h none is words memory others =
        let before : is_some (given ds (codes "mem")) ≡ false = sym (memory_is_some kept f.memory (given ds (codes "mem")) h.memory) ∙ none in
        let new = given_new ds (codes "mem") sort v before in record {
          apart = h.apart;
          count_is = ap length words ∙ h.count_is;
          words = λ i l.
              let old = given_other ds (codes "mem") (name_at layout i) sort v (memory_words f h i l) in
              subst (λ (z : List (Option ℕ)). IsWordOf kept (slice_index_or z i None) (given (ds ++ Gives (codes "mem") sort v ∷ []) (name_at layout i)))
              (sym words)
              (subst (λ (z : Option Value). IsWordOf kept (slice_index_or f.words.items i None) z) (sym old) (h.words i l));
          memory =
              subst (λ (o : Option Stored). IsMemoryOf kept o (given (ds ++ Gives (codes "mem") sort v ∷ []) (codes "mem"))) (sym memory)
              (subst (λ (z : Option Value). IsMemoryOf kept (Some s) z) (sym new) is);
          others = λ w o.
              ap (λ z. list_any (λ n. bytes_eq n.items w) z.items) others ∙ h.others w o
              ∙ ap (λ (z : Option Value). is_some z) (sym (given_other ds (codes "mem") w sort v o.1));
        }

    -- another symbol
    unlike : (a b : List ℕ) → bytes_eq a b ≡ false → bytes_eq b a ≡ false
    unlike a b h = by (bytes_eq b a) refl
      where
        by : (t : Bool) → bytes_eq b a ≡ t → t ≡ false
        by false e = refl
        by true e =
            let same = (bytes_eq-Decides b a).0 e in
            let x : true ≡ false = sym (same_word a) ∙ ap (λ (z : List ℕ). bytes_eq a z) (sym same) ∙ h in absurd (cc)

    given_or : (n w : List ℕ) → is_some (given (ds ++ Gives n sort v ∷ []) w) ≡ (is_some (given ds w) || bytes_eq n w)
    given_or n w = ap (λ (z : Option Value). is_some z) (given_more ds n w sort v) ∙ by (given ds w) (bytes_eq n w)
      where
        by : (o : Option Value) (b : Bool) → is_some (or_value o (if b then Some v else None)) ≡ (is_some o || b)
        by None true = refl
        by None false = refl
        by (Some u) true = refl
        by (Some u) false = refl

    any_more : {A : Type 0} (t : A → Bool) (xs : List A) (x : A) → list_any t (xs ++ x ∷ []) ≡ (list_any t xs || t x)
    any_more t [] x = by (t x)
      where
        by : (b : Bool) → (b || false) ≡ (false || b)
        by true = refl
        by false = refl
    any_more t (y ∷ xs) x = by (t y) (any_more t xs x)
      where
        by : (b : Bool) → list_any t (xs ++ x ∷ []) ≡ (list_any t xs || t x) → (b || list_any t (xs ++ x ∷ [])) ≡ ((b || list_any t xs) || t x)
        by true ih = refl
        by false ih = ih

    pub other_new : (f g : Findings) (n : Vec ℕ) → AreFindings layout count kept f ds → IsOtherName layout count n.items → g.words ≡ f.words →
        g.memory ≡ f.memory → g.others.items ≡ f.others.items ++ n ∷ [] → AreFindings layout count kept g (ds ++ Gives n.items sort v ∷ [])
    other_new f g n h o words memory others = record {
      apart = h.apart;
      count_is = ap (λ z. length z.items) words ∙ h.count_is;
      words = λ i l.
          let old = given_other ds n.items (name_at layout i) sort v (unlike (name_at layout i) n.items (o.0 i l)) in
          subst (λ z. IsWordOf kept (slice_index_or z.items i None) (given (ds ++ Gives n.items sort v ∷ []) (name_at layout i))) (sym words)
          (subst (λ (z : Option Value). IsWordOf kept (slice_index_or f.words.items i None) z) (sym old) (h.words i l));
      memory =
          subst (λ (z : Option Value). IsMemoryOf kept g.memory z) (sym (given_other ds n.items (codes "mem") sort v (unlike (codes "mem") n.items o.1)))
          (subst (λ (z : Option Stored). IsMemoryOf kept z (given ds (codes "mem"))) (sym memory) h.memory);
      others = λ w p.
          ap (λ (z : List (Vec ℕ)). list_any (λ m. bytes_eq m.items w) z) others ∙ any_more (λ m. bytes_eq m.items w) f.others.items n
          ∙ ap (λ (b : Bool). b || bytes_eq n.items w) (h.others w p) ∙ sym (given_or n.items w);
    }

-- a word by its place, as it is read
pub none_there : (words : List (Option ℕ)) (place : ℕ) (o : Option ℕ) → o ≡ slice_index_or words place o → is_some o ≡ false → place < length words →
    slice_index_or words place None ≡ None
none_there words place None e h l = sym e
none_there words place (Some n) e h l = absurd (cc)

pub some_there : (words : List (Option ℕ)) (place : ℕ) (o : Option ℕ) → o ≡ slice_index_or words place o → is_some o ≡ true → place < length words →
    is_some (slice_index_or words place None) ≡ true
some_there words place o e h l = ap (λ (x : Option ℕ). is_some x) (sym (get_or_read words place o l e None)) ∙ h

none_repeated : (n i : ℕ) → slice_index_or (replicate n (let o : Option ℕ = None in o)) i None ≡ None
none_repeated zero i = refl
none_repeated (suc n) zero = refl
none_repeated (suc n) (suc i) = none_repeated n i

-- before any definition
pub no_findings : (layout : Layout) (count : ℕ) (kept : Option Found) (f : Findings) (n : ℕ) → AreApart layout count → f.words.items ≡ replicate n None →
    n ≡ count → f.memory ≡ None → f.others.items ≡ [] → AreFindings layout count kept f []
no_findings layout count kept f n apart words size memory others = record {
  apart = apart;
  count_is = ap length words ∙ length-replicate n None ∙ size;
  words = λ i l. subst (λ (o : Option ℕ). IsWordOf kept o None) (sym (ap (λ (z : List (Option ℕ)). slice_index_or z i None) words ∙ none_repeated n i))
      (record { given = refl; word = λ k. refl });
  memory = subst (λ (o : Option Stored). IsMemoryOf kept o None) (sym memory) tt;
  others = λ w o. ap (λ (z : List (Vec ℕ)). list_any (λ m. bytes_eq m.items w) z) others;
}
