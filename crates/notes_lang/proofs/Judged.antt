-- The least fault of a line, by the tests of its tokens.
use Rattle.std.proofs.Common.{◌≡◌, ℕ, zero, suc, ◌<◌, ◌≤◌, ◌+◌, ◌^◌, refl, ap, sym, ◌∙◌, subst, arith, List, [], ◌∷◌, ◌++◌, Option, Some, None, Result, Ok, Bool, true, false, ◌||◌, min, inl, inr, length, map, count_by, All, Contains, lit≤, cond, ◌↔◌, IsTrue}
use Rattle.std.specs.List.{list_any, fold}
use Rattle.bilv_spec.specs.Notes.{At, Named}
use Rattle.notes_spec.specs.Scopes.{Scope, Strict, lenient, loose}
use Rattle.word_spec.specs.Tokens.{Token, NumberToken, NameToken, SignToken, BadByte, BadText, tokens_of}
use Rattle.notes_spec.specs.NotesGrammar.{IsGood, is_depth, line_limit, Says, EntryIs, TargetsAre, VersionIs, ConstIs, IsSaid, IsLine, AreAligned, IsRange, IsVersion, IsNew, IsAlone, is_mixed}
use Rattle.notes_spec.specs.NotesFaults.{NoteFault, LimitFault, ByteFault, TokenFault, NumberFault, DepthFault, WordFault, SyntaxFault, NameFault, AlignFault, RangeFault, EntryFault, VersionFault, ConstFault, AllFault, MixedFault, PairFault, note_fault_rank, BeginsBadly, Repeats, NoteFaultApplies}
use Rattle.bilv_spec.proofs.Decided.{Decided, is_less, neither}
use Rattle.notes_spec.proofs.NotesFirst.{begins_well, of_rank, ranked}
use Rattle.notes_spec.proofs.Modes.{said_loosely, strict_is_lenient, strict_number, strict_numbers}
use Rattle.notes_spec.proofs.NotesSaid.{one_saying}
use Rattle.line_tokens.specs.declared.lexer.Token as code
use Rattle.line_tokens.specs.declared.lexer.Token.TheVariants.{Number, TooLarge, Name, Sign, BadByte as ABadByte, BadText as ABadText}
use Rattle.line_tokens.specs.Tokens.{capped, token_of}
use Rattle.notes_lang.specs.Judging.{is_bad_byte, is_bad_text, is_large, fault_of, Free, IsTokenFault, IsOfForm, IsOwnFault, IsRefusal, IsLeast, IsSound, IsJudged, IsLateFault, IsNext}
use Rattle.notes_lang.specs.declared.faults.FaultKind.{FaultKind}
use Rattle.notes_lang.specs.declared.faults.FaultKind.TheVariants as kind
use Rattle.notes_lang.specs.declared.sayings.Says as code_says
use Rattle.notes_lang.specs.Saying.{Tells, says_of}
use Rattle.notes_lang.specs.Reading.{AreGood, tokens_view}

positive : (f : NoteFault) → 1 ≤ note_fault_rank f
positive LimitFault = lit≤ tt
positive ByteFault = lit≤ tt
positive TokenFault = lit≤ tt
positive NumberFault = lit≤ tt
positive DepthFault = lit≤ tt
positive WordFault = lit≤ tt
positive SyntaxFault = lit≤ tt
positive NameFault = lit≤ tt
positive AlignFault = lit≤ tt
positive RangeFault = lit≤ tt
positive EntryFault = lit≤ tt
positive VersionFault = lit≤ tt
positive ConstFault = lit≤ tt
positive AllFault = lit≤ tt
positive MixedFault = lit≤ tt
positive PairFault = lit≤ tt

pub free_first : (P : NoteFault → Type 0) → Free P 1
free_first P g less p = let q = positive g in omega (arith, less, q)

of_same_rank : (f g : NoteFault) → note_fault_rank g ≡ note_fault_rank f → g ≡ f
of_same_rank f g is = sym (ranked g) ∙ (ap of_rank is ∙ ranked f)

by_order : (P : NoteFault → Type 0) (f g : NoteFault) → Free P (note_fault_rank f) → (P f → ⊥) → note_fault_rank g < suc (note_fault_rank f) →
    Decided (note_fault_rank g < note_fault_rank f) → P g → ⊥
by_order P f g free none less (inl below) p = free g below p
by_order P f g free none less (inr above) p =
    let is : note_fault_rank g ≡ note_fault_rank f = grind (arith, less, above) in none (subst P (of_same_rank f g is) p)

pub free_next : (P : NoteFault → Type 0) (f : NoteFault) → Free P (note_fault_rank f) → (P f → ⊥) → Free P (suc (note_fault_rank f))
free_next P f free none g less p = by_order P f g free none less (is_less (note_fault_rank g) (note_fault_rank f)) p

or_none : (b c : Bool) → b || c ≡ false → (b ≡ false) × (c ≡ false)
or_none true c e = absurd (let b : ⊥ = cc in b)
or_none false c e = (refl, e)

-- numbers of 2 ^ 32 and above are taken for the least of them, which no test tells
byte_kept : (t : Token) → is_bad_byte (capped t) ≡ is_bad_byte t
byte_kept (NumberToken n) = refl
byte_kept (NameToken w) = refl
byte_kept (SignToken s) = refl
byte_kept BadByte = refl
byte_kept BadText = refl

text_kept : (t : Token) → is_bad_text (capped t) ≡ is_bad_text t
text_kept (NumberToken n) = refl
text_kept (NameToken w) = refl
text_kept (SignToken s) = refl
text_kept BadByte = refl
text_kept BadText = refl

large_kept : (t : Token) → is_large (capped t) ≡ is_large t
large_kept (NumberToken n) = grind arith
large_kept (NameToken w) = refl
large_kept (SignToken s) = refl
large_kept BadByte = refl
large_kept BadText = refl

depth_kept : (b : Bool) (t : Token) → is_depth b (capped t) ≡ is_depth b t
depth_kept b (NumberToken n) = refl
depth_kept b (NameToken w) = refl
depth_kept b (SignToken s) = refl
depth_kept b BadByte = refl
depth_kept b BadText = refl

-- tests of tokens
module _ (p : Token → Bool) where
  pub any_same : ((t : Token) → p (capped t) ≡ p t) → (us : List code.Token) (ts : List Token) → tokens_view us ≡ map capped ts →
      list_any (λ t. p (token_of t)) us ≡ list_any p ts
  any_same keeps [] [] is = refl
  any_same keeps [] (t ∷ ts) is = absurd (let b : ⊥ = cc in b)
  any_same keeps (u ∷ us) [] is = absurd (let b : ⊥ = cc in b)
  any_same keeps (u ∷ us) (t ∷ ts) is =
      let first : token_of u ≡ capped t = cc in let rest : tokens_view us ≡ map capped ts = cc in
      ap (λ b. b || list_any (λ t. p (token_of t)) us) (ap p first ∙ keeps t) ∙ ap (λ b. p t || b) (any_same keeps us ts rest)

  found_if : (b c : Bool) (x : Token) (xs : List Token) → p x ≡ b → b || c ≡ true → (c ≡ true → (y : Token) × Contains xs y × (p y ≡ true)) → (y : Token) ×
      Contains (x ∷ xs) y × (p y ≡ true)
  found_if true c x xs is e rest = (x, (0, omega arith, refl), is)
  found_if false c x xs is e rest = let r = rest e in (r.0, (suc r.1.0, omega (arith, r.1.1), r.1.2), r.2)

  pub found : (ts : List Token) → list_any p ts ≡ true → (y : Token) × Contains ts y × (p y ≡ true)
  found [] e = absurd (let b : ⊥ = cc in b)
  found (t ∷ ts) e = found_if (p t) (list_any p ts) t ts refl e (λ r. found ts r)

  pub none : (ts : List Token) (y : Token) → list_any p ts ≡ false → Contains ts y → p y ≡ true → ⊥
  none [] y e c q = omega (arith, c.1)
  none (t ∷ ts) y e (zero, below, is) q = let n = or_none (p t) (list_any p ts) e in let r : p t ≡ true = ap p is ∙ q in let f = n.0 in cc
  none (t ∷ ts) y e (suc k, below, is) q = none ts y (or_none (p t) (list_any p ts) e).1 (k, omega (arith, below), is) q

fold_same : (b : Bool) (n : ℕ) (us : List code.Token) (ts : List Token) → tokens_view us ≡ map capped ts →
    fold (λ a x. a + cond (is_depth b (token_of x)) 1 0) n us ≡ fold (λ a x. a + cond (is_depth b x) 1 0) n ts
fold_same b n [] [] is = refl
fold_same b n [] (t ∷ ts) is = absurd (let b : ⊥ = cc in b)
fold_same b n (u ∷ us) [] is = absurd (let b : ⊥ = cc in b)
fold_same b n (u ∷ us) (t ∷ ts) is =
    let first : token_of u ≡ capped t = cc in let rest : tokens_view us ≡ map capped ts = cc in
    ap (λ c. fold (λ a x. a + cond (is_depth b (token_of x)) 1 0) (n + cond c 1 0) us) (ap (is_depth b) first ∙ depth_kept b t)
    ∙ fold_same b (n + cond (is_depth b t) 1 0) us ts rest

count_same : (b : Bool) (us : List code.Token) (ts : List Token) → tokens_view us ≡ map capped ts →
    count_by (λ t. is_depth b (token_of t)) us ≡ count_by (is_depth b) ts
count_same b us ts is = fold_same b 0 us ts is

-- tokens without a fault of their own
good_one : (u : code.Token) → is_bad_byte (token_of u) ≡ false → is_bad_text (token_of u) ≡ false → is_large (token_of u) ≡ false → IsGood (token_of u)
good_one (Number n) a b c = grind arith
good_one TooLarge a b c = absurd (let e : ⊥ = cc in e)
good_one (Name w) a b c = tt
good_one (Sign s) a b c = tt
good_one ABadByte a b c = absurd (let e : ⊥ = cc in e)
good_one ABadText a b c = absurd (let e : ⊥ = cc in e)

pub all_good : (us : List code.Token) → list_any (λ t. is_bad_byte (token_of t)) us ≡ false → list_any (λ t. is_bad_text (token_of t)) us ≡ false →
    list_any (λ t. is_large (token_of t)) us ≡ false → AreGood us
all_good [] a b c = tt
all_good (u ∷ us) a b c =
    let x = or_none _ _ a in let y = or_none _ _ b in let z = or_none _ _ c in (good_one u x.0 y.0 z.0, all_good us x.1 y.1 z.1)

uncapped : (t : Token) → IsGood (capped t) → capped t ≡ t
uncapped (NumberToken n) good = ap (λ m. NumberToken m) (let e : min n (2 ^ 32) ≡ n = omega (arith, good) in e)
uncapped (NameToken w) good = refl
uncapped (SignToken s) good = refl
uncapped BadByte good = refl
uncapped BadText good = refl

pub same_view : (us : List code.Token) (ts : List Token) → AreGood us → tokens_view us ≡ map capped ts → tokens_view us ≡ ts
same_view [] [] good is = refl
same_view [] (t ∷ ts) good is = absurd (let b : ⊥ = cc in b)
same_view (u ∷ us) [] good is = absurd (let b : ⊥ = cc in b)
same_view (u ∷ us) (t ∷ ts) good is =
    let first : token_of u ≡ capped t = cc in let rest : tokens_view us ≡ map capped ts = cc in
    ap (λ x. x ∷ tokens_view us) (first ∙ uncapped t (subst IsGood first good.0)) ∙ ap (λ xs. t ∷ xs) (same_view us ts good.1 rest)

all_are : (us : List code.Token) → AreGood us → All IsGood (tokens_view us)
all_are [] good k d less = absurd (omega (arith, less))
all_are (u ∷ us) good zero d less = good.0
all_are (u ∷ us) good (suc k) d less = all_are us good.1 k d (omega (arith, less))

pub not_true : (b : Bool) (A : Type 0) → (IsTrue b ↔ A) → b ≡ false → A → ⊥
not_true b A is other a = let e : b ≡ true = is.1 a in cc

pub is_true : (b : Bool) (A : Type 0) → (IsTrue b ↔ A) → b ≡ true → A
is_true b A is e = is.0 e

-- what an answer tells
pub told : (s : Scope) (ts : List Token) (o : Option code_says.Says) (x : code_says.Says) → Tells says_of (IsSaid s ts) o → o ≡ Some x → IsSaid s ts (says_of x)
told s ts o x p is = subst (λ o. Tells says_of (IsSaid s ts) o) is p

pub told_none : (s : Scope) (ts : List Token) (o : Option code_says.Says) → Tells says_of (IsSaid s ts) o → o ≡ None → (x : Says) → IsSaid s ts x → ⊥
told_none s ts o p is = subst (λ o. Tells says_of (IsSaid s ts) o) is p

a_bad_byte : (t : Token) → is_bad_byte t ≡ true → t ≡ BadByte
a_bad_byte BadByte e = refl
a_bad_byte t e = absurd (let b : ⊥ = cc in b)

a_bad_text : (t : Token) → is_bad_text t ≡ true → t ≡ BadText
a_bad_text BadText e = refl
a_bad_text t e = absurd (let b : ⊥ = cc in b)

a_large : (t : Token) → is_large t ≡ true → (v : ℕ) × (t ≡ NumberToken v) × (2 ^ 32 ≤ v)
a_large (NumberToken n) e = (n, refl, grind arith)
a_large t e = absurd (let b : ⊥ = cc in b)

-- what repeats earlier lines is said as it must be read, where it is said leniently
repeats_strictly : (s : Scope) → s.mode ≡ Strict → (ts : List Token) (earlier : List Says) (x : Says) → IsSaid (lenient s) ts x → Repeats earlier x →
    IsSaid s ts x
repeats_strictly s strict ts earlier (EntryIs (At a)) (t, is, n) r = (t, is, strict_number s strict t a n)
repeats_strictly s strict ts earlier (EntryIs (Named w)) is r = is
repeats_strictly s strict ts earlier (TargetsAre a to) (t, us, is, n, ns, some) r =
    (t, us, is, strict_number s strict t a n, strict_numbers s strict us to ns, some)
repeats_strictly s strict ts earlier x is r = absurd r

-- what is of the version, or declares, repeats nothing
version_new : (s : Scope) (earlier : List Says) (x : Says) → (IsVersion s x → ⊥) → Repeats earlier x → ⊥
version_new s earlier (VersionIs b) other r = r
version_new s earlier x other r = other tt

const_new : (s : Scope) (earlier : List Says) (x : Says) → (IsNew s x → ⊥) → Repeats earlier x → ⊥
const_new s earlier (ConstIs w v) other r = r
const_new s earlier x other r = other tt

-- tokens that begin well and are read as if every word had a meaning
pub form_of : (s t : Scope) (ts : List Token) (b : Bool) (o : Option code_says.Says) (x : code_says.Says) → (IsTrue b ↔ BeginsBadly s ts) → b ≡ false →
    t ≡ loose s → Tells says_of (IsSaid t ts) o → o ≡ Some x → IsOfForm s ts
form_of s t ts b o x badly well t_is tells some =
    (not_true b (BeginsBadly s ts) badly well, (says_of x, subst (λ s. IsSaid s ts (says_of x)) t_is (told t ts o x tells some)))

pub name_unknown : (s t : Scope) (ts : List Token) (o : Option code_says.Says) → t ≡ lenient s → Tells says_of (IsSaid t ts) o → o ≡ None → (x : Says) →
    IsSaid (lenient s) ts x → ⊥
name_unknown s t ts o t_is tells none x p = told_none t ts o tells none x (subst (λ s. IsSaid s ts x) (sym t_is) p)

pub said_leniently : (s t : Scope) (ts : List Token) (o : Option code_says.Says) (x : code_says.Says) → t ≡ lenient s → Tells says_of (IsSaid t ts) o →
    o ≡ Some x → IsSaid (lenient s) ts (says_of x)
said_leniently s t ts o x t_is tells some = subst (λ s. IsSaid s ts (says_of x)) t_is (told t ts o x tells some)

-- what is wrong with what is said leniently
pub refusal_of : (s : Scope) (ts : List Token) → IsOfForm s ts → (x : Says) → IsSaid (lenient s) ts x → (k : FaultKind) → IsOwnFault s x (Some k) →
    IsRefusal s ts k
refusal_of s ts form x said kind.Align f = (form, (x, said, f))
refusal_of s ts form x said kind.Range f = (form, (x, said, f))
refusal_of s ts form x said kind.Version f = (form, (x, said, f))
refusal_of s ts form x said kind.Const f = (form, (x, said, f))
refusal_of s ts form x said kind.Limit f = absurd f
refusal_of s ts form x said kind.Byte f = absurd f
refusal_of s ts form x said kind.Token f = absurd f
refusal_of s ts form x said kind.Number f = absurd f
refusal_of s ts form x said kind.Depth f = absurd f
refusal_of s ts form x said kind.Word f = absurd f
refusal_of s ts form x said kind.Syntax f = absurd f
refusal_of s ts form x said kind.Name f = absurd f
refusal_of s ts form x said kind.Entry f = absurd f
refusal_of s ts form x said kind.All f = absurd f
refusal_of s ts form x said kind.Mixed f = absurd f
refusal_of s ts form x said kind.Pair f = absurd f

module _ (s : Scope) (strict : s.mode ≡ Strict) (n : ℕ) (earlier : List Says) (text : List ℕ) (us : List code.Token) (small : n ≤ line_limit s.is_second)
    (short : length text ≤ 1024) (is : tokens_view us ≡ map capped (tokens_of text)) where
  abbrev Applies : NoteFault → Type 0
  Applies = NoteFaultApplies s n earlier text

  free_2 : Free Applies 2
  free_2 = free_next Applies LimitFault (free_first Applies) (neither (λ l. omega (arith, l, small)) (λ l. omega (arith, l, short)))

  free_3 : false ≡ list_any (λ t. is_bad_byte (token_of t)) us → Free Applies 3
  free_3 a = free_next Applies ByteFault free_2
      (λ c. none is_bad_byte (tokens_of text) BadByte (sym (any_same is_bad_byte byte_kept us (tokens_of text) is) ∙ sym a) c refl)

  free_4 : false ≡ list_any (λ t. is_bad_byte (token_of t)) us → false ≡ list_any (λ t. is_bad_text (token_of t)) us → Free Applies 4
  free_4 a b = free_next Applies TokenFault (free_3 a)
      (λ c. none is_bad_text (tokens_of text) BadText (sym (any_same is_bad_text text_kept us (tokens_of text) is) ∙ sym b) c refl)

  free_5 : false ≡ list_any (λ t. is_bad_byte (token_of t)) us → false ≡ list_any (λ t. is_bad_text (token_of t)) us →
      false ≡ list_any (λ t. is_large (token_of t)) us → Free Applies 5
  free_5 a b c = free_next Applies NumberFault (free_4 a b) (λ v.
      none is_large (tokens_of text) (NumberToken v.0) (sym (any_same is_large large_kept us (tokens_of text) is) ∙ sym c) v.1
      (let le = v.2 in grind (arith, le)))

  free_6 : IsTokenFault s.is_second us None → Free Applies 6
  free_6 p = free_next Applies DepthFault (free_5 p.0 p.1 p.2)
      (λ deep. let same = count_same s.is_second us (tokens_of text) is in let le = p.3 in omega (arith, deep, same, le))

  -- the least fault of tokens alone
  pub token_faulty : (k : FaultKind) → IsTokenFault s.is_second us (Some k) → IsLeast Applies (fault_of k)
  token_faulty kind.Byte p =
      let f = found is_bad_byte (tokens_of text) (sym (any_same is_bad_byte byte_kept us (tokens_of text) is) ∙ sym p) in
      (subst (Contains (tokens_of text)) (a_bad_byte f.0 f.2) f.1, free_2)
  token_faulty kind.Token p =
      let f = found is_bad_text (tokens_of text) (sym (any_same is_bad_text text_kept us (tokens_of text) is) ∙ sym p.1) in
      (subst (Contains (tokens_of text)) (a_bad_text f.0 f.2) f.1, free_3 p.0)
  token_faulty kind.Number p =
      let f = found is_large (tokens_of text) (sym (any_same is_large large_kept us (tokens_of text) is) ∙ sym p.2) in
      let v = a_large f.0 f.2 in
      ((v.0, subst (Contains (tokens_of text)) v.1 f.1, v.2), free_4 p.0 p.1)
  token_faulty kind.Depth p =
      (let same = count_same s.is_second us (tokens_of text) is in let deep = p.3 in omega (arith, deep, same), free_5 p.0 p.1 p.2)
  token_faulty kind.Limit p = absurd p
  token_faulty kind.Word p = absurd p
  token_faulty kind.Syntax p = absurd p
  token_faulty kind.Name p = absurd p
  token_faulty kind.Align p = absurd p
  token_faulty kind.Range p = absurd p
  token_faulty kind.Entry p = absurd p
  token_faulty kind.Version p = absurd p
  token_faulty kind.Const p = absurd p
  token_faulty kind.All p = absurd p
  token_faulty kind.Mixed p = absurd p
  token_faulty kind.Pair p = absurd p

  ts_are : IsTokenFault s.is_second us None → tokens_view us ≡ tokens_of text
  ts_are p = same_view us (tokens_of text) (all_good us (sym p.0) (sym p.1) (sym p.2)) is

  free_7 : IsTokenFault s.is_second us None → (BeginsBadly s (tokens_view us) → ⊥) → Free Applies 7
  free_7 p word = free_next Applies WordFault (free_6 p) (λ bad. word (subst (BeginsBadly s) (sym (ts_are p)) bad))

  free_8 : IsTokenFault s.is_second us None → IsOfForm s (tokens_view us) → Free Applies 8
  free_8 p form =
      free_next Applies SyntaxFault (free_7 p form.0) (λ f. f form.1.0 (subst (λ ts. IsSaid (loose s) ts form.1.0) (ts_are p) form.1.1))

  -- what is said leniently
  free_9 : IsTokenFault s.is_second us None → IsOfForm s (tokens_view us) → (x : Says) → IsSaid (lenient s) (tokens_of text) x → Free Applies 9
  free_9 p form x said = free_next Applies NameFault (free_8 p form) (λ f. f x said)

  one : (x y : Says) → IsSaid (lenient s) (tokens_of text) x → IsSaid (lenient s) (tokens_of text) y → y ≡ x
  one x y said other = one_saying (lenient s) (tokens_of text) y x other said

  module _ (p : IsTokenFault s.is_second us None) (form : IsOfForm s (tokens_view us)) (x : Says) (said : IsSaid (lenient s) (tokens_of text) x) where
    free_10 : AreAligned s.narrow x → Free Applies 10
    free_10 aligned = free_next Applies AlignFault (free_9 p form x said) (λ f. f.2 (subst (AreAligned s.narrow) (sym (one x f.0 said f.1)) aligned))

    free_11 : AreAligned s.narrow x → IsRange x → Free Applies 11
    free_11 aligned range = free_next Applies RangeFault (free_10 aligned) (λ f. f.2 (subst IsRange (sym (one x f.0 said f.1)) range))

    free_12 : AreAligned s.narrow x → IsRange x → (Repeats earlier x → ⊥) → Free Applies 12
    free_12 aligned range new =
        free_next Applies EntryFault (free_11 aligned range) (λ f. new (subst (Repeats earlier) (one x f.0 said f.1) f.2))

    free_13 : AreAligned s.narrow x → IsRange x → (Repeats earlier x → ⊥) → IsVersion s x → Free Applies 13
    free_13 aligned range new version =
        free_next Applies VersionFault (free_12 aligned range new) (λ f. f.2 (subst (IsVersion s) (sym (one x f.0 said f.1)) version))

    free_14 : AreAligned s.narrow x → IsRange x → (Repeats earlier x → ⊥) → IsVersion s x → IsNew s x → Free Applies 14
    free_14 aligned range new version is_new =
        free_next Applies ConstFault (free_13 aligned range new version) (λ f. f.2 (subst (IsNew s) (sym (one x f.0 said f.1)) is_new))

    own_least : (k : FaultKind) → IsOwnFault s x (Some k) → IsLeast Applies (fault_of k)
    own_least kind.Align f = ((x, said, f), free_9 p form x said)
    own_least kind.Range f = ((x, said, f.1), free_10 f.0)
    own_least kind.Version f = ((x, said, f.2), free_12 f.0 f.1 (version_new s earlier x f.2))
    own_least kind.Const f = ((x, said, f.3), free_13 f.0 f.1 (const_new s earlier x f.3) f.2)
    own_least kind.Limit f = absurd f
    own_least kind.Byte f = absurd f
    own_least kind.Token f = absurd f
    own_least kind.Number f = absurd f
    own_least kind.Depth f = absurd f
    own_least kind.Word f = absurd f
    own_least kind.Syntax f = absurd f
    own_least kind.Name f = absurd f
    own_least kind.Entry f = absurd f
    own_least kind.All f = absurd f
    own_least kind.Mixed f = absurd f
    own_least kind.Pair f = absurd f

  lenient_here : IsTokenFault s.is_second us None → (x : Says) → IsSaid (lenient s) (tokens_view us) x → IsSaid (lenient s) (tokens_of text) x
  lenient_here p x said = subst (λ ts. IsSaid (lenient s) ts x) (ts_are p) said

  -- why nothing is said
  pub refused : IsTokenFault s.is_second us None → ((x : Says) → IsSaid s (tokens_view us) x → ⊥) → (k : FaultKind) → IsRefusal s (tokens_view us) k →
      IsLeast Applies (fault_of k)
  refused p nothing kind.Word r = (subst (BeginsBadly s) (ts_are p) r, free_6 p)
  refused p nothing kind.Syntax r = (λ x said. r.1 x (subst (λ ts. IsSaid (loose s) ts x) (sym (ts_are p)) said), free_7 p r.0)
  refused p nothing kind.Name r = (λ x said. r.1 x (subst (λ ts. IsSaid (lenient s) ts x) (sym (ts_are p)) said), free_8 p r.0)
  refused p nothing kind.Align r = own_least p r.0 r.1.0 (lenient_here p r.1.0 r.1.1) kind.Align r.1.2
  refused p nothing kind.Range r = own_least p r.0 r.1.0 (lenient_here p r.1.0 r.1.1) kind.Range r.1.2
  refused p nothing kind.Version r = own_least p r.0 r.1.0 (lenient_here p r.1.0 r.1.1) kind.Version r.1.2
  refused p nothing kind.Const r = own_least p r.0 r.1.0 (lenient_here p r.1.0 r.1.1) kind.Const r.1.2
  refused p nothing kind.All r =
      let here = lenient_here p r.1.0 r.1.1 in
      let strictly_none : (x : Says) → IsSaid s (tokens_of text) x → ⊥ = λ x said. nothing x (subst (λ ts. IsSaid s ts x) (sym (ts_are p)) said) in
      let new : Repeats earlier r.1.0 → ⊥ = λ again. strictly_none r.1.0 (repeats_strictly s strict (tokens_of text) earlier r.1.0 here again) in
      (strictly_none, free_14 p r.0 r.1.0 here r.1.2.0 r.1.2.1 new r.1.2.2 r.1.2.3)
  refused p nothing kind.Limit r = absurd r
  refused p nothing kind.Byte r = absurd r
  refused p nothing kind.Token r = absurd r
  refused p nothing kind.Number r = absurd r
  refused p nothing kind.Depth r = absurd r
  refused p nothing kind.Entry r = absurd r
  refused p nothing kind.Mixed r = absurd r
  refused p nothing kind.Pair r = absurd r

  -- tokens that say something are of the form
  of_form : (x : Says) → IsSaid s (tokens_view us) x → IsOfForm s (tokens_view us)
  of_form x said = (begins_well s (tokens_view us) x said, said_loosely s (tokens_view us) x said)

  -- what is wrong with what is said
  pub own_faulty : IsTokenFault s.is_second us None → (x : Says) → IsSaid s (tokens_view us) x → (k : FaultKind) → IsOwnFault s x (Some k) →
      IsLeast Applies (fault_of k)
  own_faulty p x said k f =
      own_least p (of_form x said) x (lenient_here p x (strict_is_lenient s (tokens_view us) x strict said)) k f

  -- a line that says something without a fault of its own
  pub before_entry : IsTokenFault s.is_second us None → (x : Says) → IsSaid s (tokens_view us) x → IsOwnFault s x None → Free Applies 11
  before_entry p x said own =
      free_11 p (of_form x said) x (lenient_here p x (strict_is_lenient s (tokens_view us) x strict said)) own.0 own.1

  pub before_mixed : IsTokenFault s.is_second us None → (x : Says) → IsSaid s (tokens_view us) x → IsOwnFault s x None → (Repeats earlier x → ⊥) →
      Free Applies 15
  before_mixed p x said own new =
      let here = lenient_here p x (strict_is_lenient s (tokens_view us) x strict said) in
      free_next Applies AllFault (free_14 p (of_form x said) x here own.0 own.1 new own.2 own.3)
      (λ nothing. nothing x (subst (λ ts. IsSaid s ts x) (ts_are p) said))

  -- what it says, and that it is a line where it may stand in its text
  pub said_here : IsTokenFault s.is_second us None → (x : Says) → IsSaid s (tokens_view us) x → IsSaid s (tokens_of text) x
  said_here p x said = subst (λ ts. IsSaid s ts x) (ts_are p) said

  pub a_line : IsTokenFault s.is_second us None → (x : Says) → IsSaid s (tokens_view us) x → IsOwnFault s x None → IsAlone s x → IsLine s text x
  a_line p x said own alone = record {
    short = short;
    good = subst (λ ts. All IsGood ts) (ts_are p) (all_are us (all_good us (sym p.0) (sym p.1) (sym p.2)));
    depth = let same = count_same s.is_second us (tokens_of text) is in let le = p.3 in omega (arith, same, le);
    said = said_here p x said;
    aligned = own.0;
    range = own.1;
    version = own.2;
    new = own.3;
    alone = alone;
  }

-- a line whose least fault, if it has one, is told by the lines before it, or by the kind of its text
pub sound : (s : Scope) (strict : s.mode ≡ Strict) (n : ℕ) (text : List ℕ) (us : List code.Token) (small : n ≤ line_limit s.is_second)
    (short : length text ≤ 1024) (is : tokens_view us ≡ map capped (tokens_of text)) → IsTokenFault s.is_second us None → (x : Says) →
    IsSaid s (tokens_view us) x → IsOwnFault s x None → IsSound s n text x
sound s strict n text us small short is p x said own = record {
  line = a_line s strict n [] text us small short is p x said own;
  said = said_here s strict n [] text us small short is p x said;
  within = small;
  before_entry = λ earlier. before_entry s strict n earlier text us small short is p x said own;
  before_mixed = λ earlier. before_mixed s strict n earlier text us small short is p x said own;
}

-- the least fault of a line after others
pub late_least : (s : Scope) (strict : s.mode ≡ Strict) (n : ℕ) (text : List ℕ) (earlier : List Says) (x : Says) → IsSound s n text x → (k : FaultKind) →
    IsLateFault s earlier x (Some k) → IsLeast (NoteFaultApplies s n earlier text) (fault_of k)
late_least s strict n text earlier x p kind.Entry f = ((x, strict_is_lenient s (tokens_of text) x strict p.said, f), p.before_entry earlier)
late_least s strict n text earlier x p kind.Mixed f = ((x, p.said, f.1), p.before_mixed earlier f.0)
late_least s strict n text earlier x p kind.Pair f = (
  (x, p.said, f.2),
  free_next (NoteFaultApplies s n earlier text) MixedFault (p.before_mixed earlier f.0)
      (λ m. let same = one_saying s (tokens_of text) m.0 x m.1 p.said in
      let mixed : is_mixed (earlier ++ x ∷ []) ≡ true = subst (λ y. is_mixed (earlier ++ y ∷ []) ≡ true) same m.2 in
      let none = f.1 in let b : ⊥ = cc in b),
)
late_least s strict n text earlier x p kind.Limit f = absurd f
late_least s strict n text earlier x p kind.Byte f = absurd f
late_least s strict n text earlier x p kind.Token f = absurd f
late_least s strict n text earlier x p kind.Number f = absurd f
late_least s strict n text earlier x p kind.Depth f = absurd f
late_least s strict n text earlier x p kind.Word f = absurd f
late_least s strict n text earlier x p kind.Syntax f = absurd f
late_least s strict n text earlier x p kind.Name f = absurd f
late_least s strict n text earlier x p kind.Align f = absurd f
late_least s strict n text earlier x p kind.Range f = absurd f
late_least s strict n text earlier x p kind.Version f = absurd f
late_least s strict n text earlier x p kind.Const f = absurd f
late_least s strict n text earlier x p kind.All f = absurd f

-- what is judged of a line, and what is found of it after others
pub late_fault : (s : Scope) (strict : s.mode ≡ Strict) (n : ℕ) (text : List ℕ) (earlier : List Says) (r : Result code_says.Says FaultKind)
    (x : code_says.Says) (o : Option FaultKind) (k : FaultKind) → IsJudged s n text r → r ≡ Ok x → IsLateFault s earlier (says_of x) o → o ≡ Some k →
    IsLeast (NoteFaultApplies s n earlier text) (fault_of k)
late_fault s strict n text earlier r x o k p ok late some =
    late_least s strict n text earlier (says_of x) (subst (IsJudged s n text) ok p) k (subst (IsLateFault s earlier (says_of x)) some late)

pub a_next : (s : Scope) (n : ℕ) (text : List ℕ) (earlier : List Says) (r : Result code_says.Says FaultKind)
    (x : code_says.Says) (o : Option FaultKind) → IsJudged s n text r → r ≡ Ok x → IsLateFault s earlier (says_of x) o → o ≡ None →
    IsNext s n text earlier (Ok x)
a_next s n text earlier r x o p ok late none =
    let sound : IsSound s n text (says_of x) = subst (IsJudged s n text) ok p in
    let apart : IsLateFault s earlier (says_of x) None = subst (IsLateFault s earlier (says_of x)) none late in
    (sound.line apart.2, sound.within, apart.0, apart.1)
