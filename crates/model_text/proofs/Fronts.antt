-- What the tokens before a place are: whole definitions, and the front of one more.
use Rattle.std.proofs.Common.{◌≡◌, ℕ, zero, suc, Bool, true, false, List, [], ◌∷◌, ◌++◌, Option, Some, None, refl, sym, ap, ◌∙◌, subst, append_assoc, map}
use Rattle.std.specs.Prelude.{codes, Contains}
use Rattle.std.proofs.lemmas.List.{append-nil}
use Rattle.model_spec.specs.ModelText.{ModelToken, Placed, at_line, Open, Close, Word, Quoted, IsExpression, AreExpressions, IsName, IsSortForm, IsValue, Value, WordIs, Definition, Gives, PassedOver, IsDefinition, AreDefinitions, IsHead, HasForm, Declared, names_of, bare, line_or, IsFront}
use Rattle.model_text.specs.declared.sort_place.SortPlace.{SortPlace}
use Rattle.model_text.specs.declared.place.Place.{Place}
use Rattle.model_text.specs.declared.place.Place.TheVariants as places
use Rattle.model_text.specs.declared.symbol.Symbol.{Symbol}
use Rattle.model_text.specs.Symbols.{sort_of}
use Rattle.model_text.specs.Places.{begins}
use Rattle.model_text.specs.Traces.{Trace, Known, begun_at}
use Rattle.model_text.proofs.SortForms.{SortRest, opens, closes, the_word, name_is}
use Rattle.model_text.proofs.SortForms as forms
use Rattle.model_text.proofs.Runs.{one_bit, is_one_bit}
use Rattle.model_text.proofs.ValueForms.{ValueIn, ValueRest, CompletedIf}
use Rattle.model_text.proofs.ValueForms as values
use Rattle.model_text.proofs.AnswerForms.{Knows, one_named, is_known}

-- ---- lists of placed tokens

pub bare_append : (ts us : List Placed) → bare (ts ++ us) ≡ bare ts ++ bare us
bare_append [] us = refl
bare_append (t ∷ ts) us = ap (λ (z : List ModelToken). t.token ∷ z) (bare_append ts us)

-- tokens on no line
abbrev pub placed : List ModelToken → List Placed
placed ts = map (at_line 0) ts

pub bare_placed : (ts : List ModelToken) → bare (placed ts) ≡ ts
bare_placed [] = refl
bare_placed (t ∷ ts) = ap (λ (z : List ModelToken). t ∷ z) (bare_placed ts)

-- A line is that of the first of some tokens; where there is none yet, the next one begins something.
abbrev pub IsLine : (begins : Bool) → ℕ → List Placed → Type 0
IsLine b n [] = b ≡ true
IsLine b n (t ∷ ts) = (b ≡ false) × (n ≡ t.line)

pub line_next : (b c : Bool) (n : ℕ) (ts : List Placed) (t : Placed) → IsLine b n ts → c ≡ false → IsLine c (begun_at b t.line n) (ts ++ t ∷ [])
line_next b c n [] t h e = (e, ap (λ (x : Bool). begun_at x t.line n) h)
line_next b c n (u ∷ ts) t h e = (e, ap (λ (x : Bool). begun_at x t.line n) h.0 ∙ h.1)

pub line_is : (c : Bool) (n : ℕ) (ts : List Placed) (t : Placed) → IsLine c n (ts ++ t ∷ []) → n ≡ line_or 0 (ts ++ t ∷ [])
line_is c n [] t h = h.1
line_is c n (u ∷ ts) t h = h.1

pub parts_assoc : (a b : List Placed) (t : Placed) (c d : List Placed) → ((a ++ b) ++ (t ∷ c)) ++ d ≡ a ++ (b ++ (t ∷ (c ++ d)))
parts_assoc a b t c d = append_assoc (a ++ b) (t ∷ c) d ∙ append_assoc a b (t ∷ (c ++ d))

sort_assoc : (a b c : List ModelToken) → a ++ (b ++ (c ++ Close ∷ [])) ≡ ((a ++ b) ++ c) ++ Close ∷ []
sort_assoc a b c = sym (append_assoc a b (c ++ Close ∷ [])) ∙ sym (append_assoc (a ++ b) c (Close ∷ []))

value_assoc : (a b c : List ModelToken) → (a ++ b) ++ (c ++ Close ∷ []) ≡ (a ++ (b ++ c)) ++ Close ∷ []
value_assoc a b c = sym (append_assoc (a ++ b) c (Close ∷ [])) ∙ ap (λ (z : List ModelToken). z ++ Close ∷ []) (append_assoc a b c)

-- ---- the parts of a front

-- whole definitions
pub record ListFront (names : List (List ℕ)) (front : List Placed) (ds : List Definition) : Type 0 where
  pub head : List Placed
  pub defined : List Placed
  pub is_head : IsHead (bare head)
  pub are : AreDefinitions names (bare defined) ds
  pub is : front ≡ head ++ defined

-- behind them the first tokens of one
pub record BeginFront (names : List (List ℕ)) (tokens : List ModelToken) (ds : List Definition) (front : List Placed) : Type 0 where
  pub before : List Placed
  pub begin : List Placed
  pub list : ListFront names before ds
  pub begin_is : bare begin ≡ tokens
  pub is : front ≡ before ++ begin

-- and a name that is declared, with tokens behind it
pub record NamedFront (known : Known) (names : List (List ℕ)) (tokens : List ModelToken) (ds : List Definition) (w : List ℕ) (s : Symbol) (front : List
    Placed) :
    Type 0 where
  pub before : List Placed
  pub begin : List Placed
  pub name : Placed
  pub empty : List Placed
  pub list : ListFront names before ds
  pub begin_is : bare begin ≡ Open ∷ Word (codes "define-fun") ∷ []
  pub name_is : IsName name.token w
  pub symbol : known w ≡ Some s
  pub empty_is : bare empty ≡ tokens
  pub is : front ≡ (before ++ begin) ++ (name ∷ empty)

-- or one that is not
abbrev pub PassRest : ℕ → List ModelToken → Type 0
PassRest zero post = AreExpressions post
PassRest (suc d) post = (ts : List ModelToken) × (rest : List ModelToken) × AreExpressions ts × (post ≡ ts ++ Close ∷ rest) × PassRest d rest

pub record PassFront (names : List (List ℕ)) (d : ℕ) (ds : List Definition) (front : List Placed) : Type 0 where
  pub before : List Placed
  pub begin : List Placed
  pub name : Placed
  pub text : List ℕ
  pub passed : List Placed
  pub list : ListFront names before ds
  pub begin_is : bare begin ≡ Open ∷ Word (codes "define-fun") ∷ []
  pub name_is : IsName name.token text
  pub other : ¬ Contains names text
  pub rest : (post : List ModelToken) → PassRest d post → AreExpressions (bare passed ++ post)
  pub is : front ≡ (before ++ begin) ++ (name ∷ passed)

abbrev pub no_arguments : List ModelToken
no_arguments = Open ∷ Close ∷ []

-- in the sort
pub record SortFront (known : Known) (names : List (List ℕ)) (at : SortPlace) (tr : Trace) (begun : ℕ) (front : List Placed) : Type 0 where
  pub before : List Placed
  pub said : List Placed
  pub named : NamedFront known names no_arguments tr.definitions tr.name tr.symbol before
  pub rest : (post : List ModelToken) → SortRest at post → IsSortForm (bare said ++ post)
  pub sort : tr.sort ≡ bare said
  pub line : IsLine (begins (places.Sort at)) begun said
  pub is : front ≡ before ++ said

-- in the value
pub record ValueFront (known : Known) (names : List (List ℕ)) (p : Place) (tr : Trace) (begun : ℕ) (front : List Placed) : Type 0 where
  pub before : List Placed
  pub said : List Placed
  pub given : List Placed
  pub named : NamedFront known names no_arguments tr.definitions tr.name tr.symbol before
  pub form : IsSortForm (bare said)
  pub sort : tr.sort ≡ bare said
  pub rest : (post : List ModelToken) (v : Value) → ValueRest p tr post v → ValueIn [] 0 (bare given ++ post) v
  pub line : IsLine (begins p) begun given
  pub is : front ≡ before ++ (said ++ given)

-- by places
abbrev pub Front : Known → List (List ℕ) → Place → Trace → ℕ → List Placed → Type 0
Front known names places.Start tr begun front = (front ≡ []) × (tr.definitions ≡ [])
Front known names places.Sat tr begun front = (bare front ≡ Word (codes "sat") ∷ []) × (tr.definitions ≡ [])
Front known names (places.List true) tr begun front = (bare front ≡ Word (codes "sat") ∷ Open ∷ []) × (tr.definitions ≡ [])
Front known names (places.List false) tr begun front = ListFront names front tr.definitions
Front known names places.Begun tr begun front = BeginFront names (Open ∷ []) tr.definitions front
Front known names places.Name tr begun front = BeginFront names (Open ∷ Word (codes "define-fun") ∷ []) tr.definitions front
Front known names (places.Passing d) tr begun front = PassFront names d tr.definitions front
Front known names places.Arguments tr begun front =
    (n : NamedFront known names [] tr.definitions tr.name tr.symbol front) × (begun ≡ n.name.line) × (tr.sort ≡ [])
Front known names places.NoArguments tr begun front = NamedFront known names (Open ∷ []) tr.definitions tr.name tr.symbol front × (tr.sort ≡ [])
Front known names (places.Sort at) tr begun front = SortFront known names at tr begun front
Front known names places.Done tr begun front =
    (before : List Placed) × (close : Placed) × ListFront names before tr.definitions × (close.token ≡ Close) × (front ≡ before ++ close ∷ [])
Front known names other tr begun front = ValueFront known names other tr begun front

-- ---- more definitions

are_append : (names : List (List ℕ)) (ts us : List ModelToken) (ds es : List Definition) → AreDefinitions names ts ds → AreDefinitions names us es →
    AreDefinitions names (ts ++ us) (ds ++ es)
are_append names ts us ds es AreDefinitions.none k = k
are_append names ts us ds es (AreDefinitions.some {ts = one} {us = rest} {d} {ds = more} h r) k =
    subst (λ (z : List ModelToken). AreDefinitions names z (d ∷ (more ++ es))) (sym (append_assoc one rest us))
    (AreDefinitions.some h (are_append names rest us more es r k))

one_definition : (names : List (List ℕ)) (ts : List ModelToken) (d : Definition) → IsDefinition names ts d → AreDefinitions names ts (d ∷ [])
one_definition names ts d h =
    subst (λ (z : List ModelToken). AreDefinitions names z (d ∷ [])) (append-nil ts) (AreDefinitions.some h AreDefinitions.none)

-- one more definition
pub list_more : (names : List (List ℕ)) (front more : List Placed) (ds : List Definition) (d : Definition) → ListFront names front ds →
    IsDefinition names (bare more) d → ListFront names (front ++ more) (ds ++ d ∷ [])
list_more names front more ds d f h = record {
  head = f.head;
  defined = f.defined ++ more;
  is_head = f.is_head;
  are =
      subst (λ (z : List ModelToken). AreDefinitions names z (ds ++ d ∷ [])) (sym (bare_append f.defined more))
      (are_append names (bare f.defined) (bare more) ds (d ∷ []) f.are (one_definition names (bare more) d h));
  is = ap (λ (z : List Placed). z ++ more) f.is ∙ append_assoc f.head f.defined more;
}

-- the list is closed
pub list_closed : (names : List (List ℕ)) (front : List Placed) (close : Placed) (ds : List Definition) → ListFront names front ds → close.token ≡ Close →
    HasForm names (bare (front ++ close ∷ [])) ds
list_closed names front close ds f e =
    let shape : bare (front ++ close ∷ []) ≡ (bare f.head ++ bare f.defined) ++ Close ∷ [] =
    bare_append front (close ∷ []) ∙ ap (λ (z : List Placed). bare z ++ close.token ∷ []) f.is
    ∙ ap (λ (z : List ModelToken). z ++ close.token ∷ []) (bare_append f.head f.defined)
    ∙ ap (λ (z : ModelToken). (bare f.head ++ bare f.defined) ++ z ∷ []) e in
    subst (λ (z : List ModelToken). HasForm names z ds) (sym shape) (HasForm.whole f.is_head f.are)

-- tokens that more tokens complete to whole definitions are the front of an answer
pub front_of : (names : List (List ℕ)) (front more : List Placed) (ds : List Definition) → ListFront names (front ++ more) ds → IsFront names (bare front)
front_of names front more ds f =
    let h = list_closed names (front ++ more) (at_line 0 Close) ds f refl in
    let shape : bare ((front ++ more) ++ at_line 0 Close ∷ []) ≡ bare front ++ bare (more ++ at_line 0 Close ∷ []) =
    ap bare (append_assoc front more (at_line 0 Close ∷ [])) ∙ bare_append front (more ++ at_line 0 Close ∷ []) in
    (bare (more ++ at_line 0 Close ∷ []), ds, subst (λ (z : List ModelToken). HasForm names z ds) shape h)

-- ---- whole definitions, from their parts

-- one that is given
pub named_whole : (known : Known) (declared : List Declared) → Knows known declared → (ds : List Definition) (w : List ℕ) (s : Symbol)
    (front tail : List Placed) (sort ts : List ModelToken) (v : Value) → NamedFront known (names_of declared) no_arguments ds w s front →
    bare tail ≡ (sort ++ ts) ++ Close ∷ [] → IsSortForm sort → IsValue ts v → ListFront (names_of declared) (front ++ tail) (ds ++ Gives w sort v ∷ [])
named_whole known declared knows ds w s front tail sort ts v n e form value =
    let names = names_of declared in
    let one = n.begin ++ (n.name ∷ (n.empty ++ tail)) in
    let is : bare one ≡ Open ∷ Word (codes "define-fun") ∷ n.name.token ∷ Open ∷ Close ∷ ((sort ++ ts) ++ Close ∷ []) =
    bare_append n.begin (n.name ∷ (n.empty ++ tail))
    ∙ ap (λ (z : List ModelToken). z ++ (n.name.token ∷ bare (n.empty ++ tail))) n.begin_is
    ∙ ap (λ (z : List ModelToken). Open ∷ Word (codes "define-fun") ∷ n.name.token ∷ z)
    (bare_append n.empty tail ∙ ap (λ (z : List ModelToken). z ++ bare tail) n.empty_is ∙ ap (λ (z : List ModelToken). Open ∷ Close ∷ z) e) in
    let has : Contains names w = one_named declared (record { name = w; sort = sort_of s }) (knows.found w s n.symbol) in
    let defined : IsDefinition names (bare one) (Gives w sort v) =
    subst (λ (z : List ModelToken). IsDefinition names z (Gives w sort v)) (sym is) (IsDefinition.gives {t = n.name.token} n.name_is has form value) in
    let shape : n.before ++ one ≡ front ++ tail =
    sym (ap (λ (z : List Placed). z ++ tail) n.is ∙ parts_assoc n.before n.begin n.name n.empty tail) in
    subst (λ (z : List Placed). ListFront names z (ds ++ Gives w sort v ∷ [])) shape
    (list_more names n.before one ds (Gives w sort v) n.list defined)

-- one that is passed over
pub passed_whole : (names : List (List ℕ)) (d : ℕ) (ds : List Definition) (front tail : List Placed) (post : List ModelToken) (p : PassFront names d ds front) →
    PassRest d post → bare tail ≡ post ++ Close ∷ [] → ListFront names (front ++ tail) (ds ++ PassedOver ∷ [])
passed_whole names d ds front tail post p r e =
    let one = p.begin ++ (p.name ∷ (p.passed ++ tail)) in
    let is : bare one ≡ Open ∷ Word (codes "define-fun") ∷ p.name.token ∷ ((bare p.passed ++ post) ++ Close ∷ []) =
    bare_append p.begin (p.name ∷ (p.passed ++ tail))
    ∙ ap (λ (z : List ModelToken). z ++ (p.name.token ∷ bare (p.passed ++ tail))) p.begin_is
    ∙ ap (λ (z : List ModelToken). Open ∷ Word (codes "define-fun") ∷ p.name.token ∷ z)
    (bare_append p.passed tail ∙ ap (λ (z : List ModelToken). bare p.passed ++ z) e ∙ sym (append_assoc (bare p.passed) post (Close ∷ []))) in
    let defined : IsDefinition names (bare one) PassedOver =
    subst (λ (z : List ModelToken). IsDefinition names z PassedOver) (sym is)
    (IsDefinition.passes {t = p.name.token} {ts = bare p.passed ++ post} p.name_is p.other (p.rest post r)) in
    let shape : p.before ++ one ≡ front ++ tail =
    sym (ap (λ (z : List Placed). z ++ tail) p.is ∙ parts_assoc p.before p.begin p.name p.passed tail) in
    subst (λ (z : List Placed). ListFront names z (ds ++ PassedOver ∷ [])) shape (list_more names p.before one ds PassedOver p.list defined)

-- what is passed over, at each depth
pass_some : (d : ℕ) → (post : List ModelToken) × PassRest d post
pass_some zero = ([], AreExpressions.none)
pass_some (suc d) = let r = pass_some d in (Close ∷ r.0, ([], r.0, AreExpressions.none, refl, r.1))

pub pass_more : (d : ℕ) (ts post : List ModelToken) → IsExpression ts → PassRest d post → PassRest d (ts ++ post)
pass_more zero ts post h r = AreExpressions.some h r
pass_more (suc d) ts post h r =
    (ts ++ r.0, r.1, AreExpressions.some h r.2, ap (λ (z : List ModelToken). ts ++ z) r.3 ∙ sym (append_assoc ts r.0 (Close ∷ r.1)), r.4)

-- a list in brackets
pub pass_list : (d : ℕ) (post : List ModelToken) → PassRest (suc d) post → PassRest d (Open ∷ post)
pass_list d post r =
    let e : Open ∷ post ≡ (Open ∷ (r.0 ++ Close ∷ [])) ++ r.1 = ap (λ (z : List ModelToken). Open ∷ z) (r.3 ∙ sym (append_assoc r.0 (Close ∷ []) r.1)) in
    subst (λ (z : List ModelToken). PassRest d z) (sym e) (pass_more d (Open ∷ (r.0 ++ Close ∷ [])) r.1 (IsExpression.list r.2) r.4)

-- a further token
pub pass_next : (names : List (List ℕ)) (d e : ℕ) (ds : List Definition) (front : List Placed) (t : Placed) → PassFront names d ds front →
    ((post : List ModelToken) → PassRest e post → PassRest d (t.token ∷ post)) → PassFront names e ds (front ++ t ∷ [])
pass_next names d e ds front t p step = record {
  before = p.before;
  begin = p.begin;
  name = p.name;
  text = p.text;
  passed = p.passed ++ t ∷ [];
  list = p.list;
  begin_is = p.begin_is;
  name_is = p.name_is;
  other = p.other;
  rest = λ post r. subst AreExpressions
      (sym (ap (λ (z : List ModelToken). z ++ post) (bare_append p.passed (t ∷ [])) ∙ append_assoc (bare p.passed) (t.token ∷ []) post))
      (p.rest (t.token ∷ post) (step post r));
  is = ap (λ (z : List Placed). z ++ t ∷ []) p.is ∙ append_assoc (p.before ++ p.begin) (p.name ∷ p.passed) (t ∷ []);
}

-- a further token behind a name
pub named_next : (known : Known) (names : List (List ℕ)) (tokens : List ModelToken) (ds : List Definition) (w : List ℕ) (s : Symbol) (front : List Placed)
    (t : Placed) (u : ModelToken) → t.token ≡ u → NamedFront known names tokens ds w s front → NamedFront known names (tokens ++ u ∷ []) ds w s (front ++ t ∷
    [])
named_next known names tokens ds w s front t u e n = record {
  before = n.before;
  begin = n.begin;
  name = n.name;
  empty = n.empty ++ t ∷ [];
  list = n.list;
  begin_is = n.begin_is;
  name_is = n.name_is;
  symbol = n.symbol;
  empty_is =
      bare_append n.empty (t ∷ []) ∙ ap (λ (z : List ModelToken). z ++ t.token ∷ []) n.empty_is ∙ ap (λ (z : ModelToken). tokens ++ z ∷ []) e;
  is = ap (λ (z : List Placed). z ++ t ∷ []) n.is ∙ append_assoc (n.before ++ n.begin) (n.name ∷ n.empty) (t ∷ []);
}

-- ---- fronts of answers

module _ (known : Known) (declared : List Declared) (knows : Knows known declared) where
  abbrev names : List (List ℕ)
  names = names_of declared

  -- a definition that begins so
  abbrev a_name : ModelToken
  a_name = Quoted []

  a_definition : (o : Option Symbol) → known [] ≡ o → (d : Definition) × (more : List ModelToken) × IsDefinition names (Open ∷ Word (codes "define-fun") ∷
      a_name ∷ more) d
  a_definition (Some s) e = (
    Gives [] (a_name ∷ []) (WordIs 1 0),
    Open ∷ Close ∷ a_name ∷ one_bit ∷ Close ∷ [],
    IsDefinition.gives {t = a_name} {sort = a_name ∷ []} {ts = one_bit ∷ []} (IsName.quoted [])
        (one_named declared (record { name = []; sort = sort_of s }) (knows.found [] s e)) (IsSortForm.named (IsName.quoted [])) (IsValue.word is_one_bit),
  )
  a_definition None e = (
    PassedOver,
    Close ∷ [],
    IsDefinition.passes {t = a_name} {ts = []} (IsName.quoted []) (λ c. let r = unknown c in let x : ◌≡◌ {A = Option Symbol} None (Some r.0) = r.1 in cc)
        AreExpressions.none,
  )
    where
      unknown : Contains names [] → (s : Symbol) × ◌≡◌ {A = Option Symbol} None (Some s)
      unknown c = let r = is_known known declared knows [] c in (r.0, sym e ∙ r.1)

  begin_front : (tokens more : List ModelToken) (ds : List Definition) (d : Definition) (front : List Placed) → BeginFront names tokens ds front →
      IsDefinition names (tokens ++ more) d → IsFront names (bare front)
  begin_front tokens more ds d front b h =
      let is : bare (b.begin ++ placed more) ≡ tokens ++ more =
      bare_append b.begin (placed more) ∙ ap (λ (z : List ModelToken). z ++ bare (placed more)) b.begin_is
      ∙ ap (λ (z : List ModelToken). tokens ++ z) (bare_placed more) in
      let shape : b.before ++ (b.begin ++ placed more) ≡ front ++ placed more =
      sym (ap (λ (z : List Placed). z ++ placed more) b.is ∙ append_assoc b.before b.begin (placed more)) in
      front_of names front (placed more) (ds ++ d ∷ []) (subst (λ (z : List Placed). ListFront names z (ds ++ d ∷ [])) shape
      (list_more names b.before (b.begin ++ placed more) ds d b.list (subst (λ (z : List ModelToken). IsDefinition names z d) (sym is) h)))

  -- before the definitions
  head_front : (front : List Placed) (more : List ModelToken) → IsHead (bare front ++ more) → IsFront names (bare front)
  head_front front more h = front_of names front (placed more) [] (record {
    head = front ++ placed more;
    defined = [];
    is_head = subst IsHead (sym (bare_append front (placed more) ∙ ap (λ (z : List ModelToken). bare front ++ z) (bare_placed more))) h;
    are = AreDefinitions.none;
    is = sym (append-nil (front ++ placed more));
  })

  named_front : (ds : List Definition) (w : List ℕ) (s : Symbol) (before front : List Placed) (sort ts : List ModelToken) (v : Value) (more : List ModelToken)
      (said : List Placed) → NamedFront known names no_arguments ds w s before → front ≡ before ++ said → bare said ++ more ≡ (sort ++ ts) ++ Close ∷ [] →
      IsSortForm sort → IsValue ts v → IsFront names (bare front)
  named_front ds w s before front sort ts v more said n is e form value =
      let tail : bare (said ++ placed more) ≡ (sort ++ ts) ++ Close ∷ [] =
      bare_append said (placed more) ∙ ap (λ (z : List ModelToken). bare said ++ z) (bare_placed more) ∙ e in
      let shape : before ++ (said ++ placed more) ≡ front ++ placed more = sym (ap (λ (z : List Placed). z ++ placed more) is ∙ append_assoc before said
      (placed more)) in
      front_of names front (placed more) (ds ++ Gives w sort v ∷ []) (subst (λ (z : List Placed). ListFront names z (ds ++ Gives w sort v ∷ [])) shape
      (named_whole known declared knows ds w s before (said ++ placed more) sort ts v n tail form value))

  a_value : IsValue (one_bit ∷ []) (WordIs 1 0)
  a_value = IsValue.word is_one_bit

  -- behind a name
  after_name : (tokens more : List ModelToken) (ds : List Definition) (w : List ℕ) (s : Symbol) (front : List Placed) →
      NamedFront known names tokens ds w s front →
      tokens ++ more ≡ no_arguments → IsFront names (bare front)
  after_name tokens more ds w s front n e =
      let m : NamedFront known names no_arguments ds w s (front ++ placed more) = record {
        before = n.before;
        begin = n.begin;
        name = n.name;
        empty = n.empty ++ placed more;
        list = n.list;
        begin_is = n.begin_is;
        name_is = n.name_is;
        symbol = n.symbol;
        empty_is =
            bare_append n.empty (placed more) ∙ ap (λ (z : List ModelToken). z ++ bare (placed more)) n.empty_is
            ∙ ap (λ (z : List ModelToken). tokens ++ z) (bare_placed more) ∙ e;
        is = ap (λ (z : List Placed). z ++ placed more) n.is ∙ append_assoc (n.before ++ n.begin) (n.name ∷ n.empty) (placed more);
      } in
      let last : List Placed = placed (a_name ∷ one_bit ∷ Close ∷ []) in
      front_of names front (placed more ++ last) (ds ++ Gives w (a_name ∷ []) (WordIs 1 0) ∷ [])
      (subst (λ (z : List Placed). ListFront names z (ds ++ Gives w (a_name ∷ []) (WordIs 1 0) ∷ [])) (append_assoc front (placed more) last)
      (named_whole known declared knows ds w s (front ++ placed more) last (a_name ∷ []) (one_bit ∷ []) (WordIs 1 0) m refl
      (IsSortForm.named (IsName.quoted [])) a_value))

  -- in the sort
  sort_front : (at : SortPlace) (tr : Trace) (begun : ℕ) (front : List Placed) → SortFront known names at tr begun front → IsFront names (bare front)
  sort_front at tr begun front f =
      let c = forms.some at in
      named_front tr.definitions tr.name tr.symbol f.before front (bare f.said ++ c.0) (one_bit ∷ []) (WordIs 1 0) (c.0 ++ (one_bit ∷ Close ∷ [])) f.said
      f.named f.is
      (sort_assoc (bare f.said) c.0 (one_bit ∷ [])) (f.rest c.0 c.1) a_value

  -- in the value
  value_front : (p : Place) (tr : Trace) (begun : ℕ) (front : List Placed) → ValueFront known names p tr begun front →
      (post : List ModelToken) (v : Value) → ValueRest p tr post v → IsFront names (bare front)
  value_front p tr begun front f post v c =
      let r = f.rest post v c in
      let none : r.rest ≡ [] = r.after.0 in
      let all : bare f.given ++ post ≡ r.part = r.is ∙ ap (λ (z : List ModelToken). r.part ++ z) none ∙ append-nil r.part in
      let value : IsValue (bare f.given ++ post) r.value = subst (λ (z : List ModelToken). IsValue z r.value) (sym all) r.value_is in
      let shape : bare (f.said ++ f.given) ++ (post ++ Close ∷ []) ≡ (bare f.said ++ (bare f.given ++ post)) ++ Close ∷ [] =
      ap (λ (z : List ModelToken). z ++ (post ++ Close ∷ [])) (bare_append f.said f.given) ∙ value_assoc (bare f.said) (bare f.given) post in
      named_front tr.definitions tr.name tr.symbol f.before front (bare f.said) (bare f.given ++ post) r.value (post ++ Close ∷ []) (f.said ++ f.given)
      f.named f.is
      shape f.form value

  value_some : (p : Place) (tr : Trace) (begun : ℕ) (front : List Placed) → ValueFront known names p tr begun front → CompletedIf true p tr →
      IsFront names (bare front)
  value_some p tr begun front f c = value_front p tr begun front f c.0 c.1 c.2

  pub is_front : (p : Place) (tr : Trace) (begun : ℕ) (front : List Placed) → Front known names p tr begun front → IsFront names (bare front)
  is_front places.Start tr begun front f =
      head_front front (Word (codes "sat") ∷ Open ∷ []) (subst (λ (z : List Placed). IsHead (bare z ++ (Word (codes "sat") ∷ Open ∷ []))) (sym f.0)
      IsHead.plain)
  is_front places.Sat tr begun front f = head_front front (Open ∷ []) (subst (λ (z : List ModelToken). IsHead (z ++ Open ∷ [])) (sym f.0) IsHead.plain)
  is_front (places.List true) tr begun front f = head_front front [] (subst (λ (z : List ModelToken). IsHead (z ++ [])) (sym f.0) IsHead.plain)
  is_front (places.List false) tr begun front f =
      front_of names front [] tr.definitions (subst (λ (z : List Placed). ListFront names z tr.definitions) (sym (append-nil front)) f)
  is_front places.Begun tr begun front f =
      let d = a_definition (known []) refl in begin_front (Open ∷ []) (Word (codes "define-fun") ∷ a_name ∷ d.1) tr.definitions d.0 front f d.2
  is_front places.Name tr begun front f =
      let d = a_definition (known []) refl in begin_front (Open ∷ Word (codes "define-fun") ∷ []) (a_name ∷ d.1) tr.definitions d.0 front f d.2
  is_front (places.Passing d) tr begun front f =
      let r = pass_some d in
      front_of names front (placed (r.0 ++ Close ∷ [])) (tr.definitions ++ PassedOver ∷ [])
      (passed_whole names d tr.definitions front (placed (r.0 ++ Close ∷ [])) r.0 f r.1 (bare_placed (r.0 ++ Close ∷ [])))
  is_front places.Arguments tr begun front f = after_name [] no_arguments tr.definitions tr.name tr.symbol front f.0 refl
  is_front places.NoArguments tr begun front f = after_name (Open ∷ []) (Close ∷ []) tr.definitions tr.name tr.symbol front f.0 refl
  is_front (places.Sort at) tr begun front f = sort_front at tr begun front f
  is_front (places.Value d) tr begun front f = value_some (places.Value d) tr begun front f (values.some (places.Value d) tr)
  is_front (places.Opened d) tr begun front f = value_some (places.Opened d) tr begun front f (values.some (places.Opened d) tr)
  is_front (places.As d) tr begun front f = value_some (places.As d) tr begun front f (values.some (places.As d) tr)
  is_front (places.Const d) tr begun front f = value_some (places.Const d) tr begun front f (values.some (places.Const d) tr)
  is_front (places.ConstSort d at) tr begun front f = value_some (places.ConstSort d at) tr begun front f (values.some (places.ConstSort d at) tr)
  is_front (places.ConstClose d) tr begun front f = value_some (places.ConstClose d) tr begun front f (values.some (places.ConstClose d) tr)
  is_front (places.Bits role d at) tr begun front f = value_some (places.Bits role d at) tr begun front f (values.some (places.Bits role d at) tr)
  is_front (places.FillClose d) tr begun front f = value_some (places.FillClose d) tr begun front f (values.some (places.FillClose d) tr)
  is_front (places.StoreClose d) tr begun front f = value_some (places.StoreClose d) tr begun front f (values.some (places.StoreClose d) tr)
  is_front places.Closing tr begun front f = value_front places.Closing tr begun front f [] tr.value (refl, refl)
  is_front places.Done tr begun front f =
      let whole : bare front ++ [] ≡ bare (f.0 ++ f.1 ∷ []) = append-nil (bare front) ∙ ap bare f.4 in
      ([], tr.definitions, subst (λ (z : List ModelToken). HasForm names z tr.definitions) (sym whole) (list_closed names f.0 f.1 tr.definitions f.2 f.3))
