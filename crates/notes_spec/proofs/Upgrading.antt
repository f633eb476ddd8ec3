-- Notes of version 1 after the line of the version are the same notes, each line number one greater.
use Rattle.std.proofs.Common.{◌≡◌, ℕ, ◌≤◌, ◌+◌, ◌⊎◌, refl, ap, sym, ◌∙◌, subst, arith, rules, List, [], ◌∷◌, ◌++◌, length, map, Option, Some, None, Bool, true, false, ◌||◌, if◌then◌else◌, codes, bytes_eq, count_by, inl, inr}
use Rattle.std.specs.List.{list_any}
use Rattle.std.proofs.lemmas.Slice.Eq.{bytes_eq-Decides}
use Rattle.std.proofs.lemmas.List.Sums.{count_by-le-length, sum_by-append}
use Rattle.bilv_spec.specs.Notes.{Op, Expr, At, Named}
use Rattle.word_spec.specs.Tokens.{Token, NumberToken, NameToken, SignToken, BadByte, BadText, tokens_of}
use Rattle.notes_spec.specs.NotesGrammar.{load_words, lines_of, number_at, AreNumbers, operators, Parses, tighter, binary_of, not_of, number_of, name_of, memory_of, old_of, all_of, in_brackets, Says, Nothing, EntryIs, RequireIs, EnsureIs, AssertIs, TargetsAre, FixedIs, VersionIs, ConstIs, LoadedIs, InvariantIs, NeedIs, GiveIs, ModifiesAre, WritesAre, MayFrame, IsSaid, IsVersion, IsNew, is_depth, IsLine, AreLines, version_line, is_second, line_limit, requires_of, ensures_of, asserts_of, IsNotesText}
use Rattle.bilv_spec.proofs.Decided.{none_some}
use Rattle.notes_spec.specs.Scopes.{Vocabulary, Scope, Strict, begin, reserved_first, named}
use Rattle.notes_spec.specs.RvNames.{rv_table}
use Rattle.notes_spec.specs.ArmNames.{arm_table}
use Rattle.notes_spec.specs.Upgrades.{NoneIsAll, later_line, later_assert, later_notes, UpgradeSaysSame}
use Rattle.notes_spec.proofs.NotesTables.{Each, of_each, is_false}

-- the depth of tokens is the same in both versions
pub record Same (ts : List Token) : Type 0 where
  pub is : count_by (is_depth true) ts ≡ count_by (is_depth false) ts

same_two : (xs ys : List Token) → Same xs → Same ys → Same (xs ++ ys)
same_two xs ys p q = record {
  is = sum_by-append (λ t. if is_depth true t then 1 else 0) xs ys
      ∙ (ap (λ n. n + count_by (is_depth true) ys) p.is ∙ (ap (λ n. count_by (is_depth false) xs + n) q.is
      ∙ sym (sum_by-append (λ t. if is_depth false t then 1 else 0) xs ys)));
}

same_none : Same []
same_none = record { is = refl }

same_after : (t : Token) (ts : List Token) → is_depth true t ≡ is_depth false t → Same ts → Same (t ∷ ts)
same_after t ts p q = same_two (t ∷ []) ts (record { is = ap (λ b. 0 + (if b then 1 else 0)) p }) q

-- the depth of a token
abbrev SameDepth : Token → Type 0
SameDepth t = is_depth true t ≡ is_depth false t

same_in : (o c : Token) (us : List Token) → SameDepth o → SameDepth c → Same us → Same (o ∷ us ++ c ∷ [])
same_in o c us p q h = same_after o (us ++ c ∷ []) p (same_two us (c ∷ []) h (same_after c [] q same_none))

same_operators : Each (λ (o : ℕ × Token × Op). SameDepth o.1) operators
same_operators = search rules

same_loads : Each (λ (o : ℕ × List ℕ). SameDepth (NameToken o.1)) load_words
same_loads = search rules

-- a list of words and one more
any_more : (p : List ℕ → Bool) (xs : List (List ℕ)) (y : List ℕ) → list_any p xs ≡ false → p y ≡ false → list_any p (xs ++ y ∷ []) ≡ false
any_more p [] y a b = ap (λ c. c || false) b
any_more p (x ∷ xs) y a b = by (p x) a (any_more p xs y) where
  by : (c : Bool) → (c || list_any p xs) ≡ false → (list_any p xs ≡ false → p y ≡ false → list_any p (xs ++ y ∷ []) ≡ false) → (c || list_any p (xs ++ y ∷ [])) ≡ false
  by false a f = f a b
  by true a f = absurd (let x : ⊥ = cc in x)

module _ (words : Vocabulary) (no_all : words.names (codes "all") ≡ None) where
  -- the scopes of the lines of version 1 and of version 2
  abbrev pub first : Bool → Scope
  first f =
      record { names = words.names; narrow = words.narrow; dialect = words.dialect; consts = []; bound = []; is_second = false; is_first = f; mode = Strict }

  abbrev pub second : Scope
  second =
      record { names = words.names; narrow = words.narrow; dialect = words.dialect; consts = []; bound = []; is_second = true; is_first = false; mode = Strict }

  is_named : (b : Bool) (o : Option Expr) (e : Expr) → (if b then None else o) ≡ Some e → (b ≡ false) × (o ≡ Some e)
  is_named true o e is = absurd (none_some Expr e is)
  is_named false o e is = (refl, is)

  not_all : (w : List ℕ) (e : Expr) → words.names w ≡ Some e → bytes_eq w (codes "all") ≡ false
  not_all w e is = is_false (bytes_eq w (codes "all")) (λ h.
      none_some Expr e (sym no_all ∙ subst (λ x. words.names x ≡ Some e) ((bytes_eq-Decides w (codes "all")).0 h) is))

  -- a name means the same
  name_lifted : (f : Bool) (w : List ℕ) (e : Expr) → named (first f) w ≡ Some e → (named second w ≡ Some e) × (bytes_eq w (codes "all") ≡ false)
  name_lifted f w e is =
      let n = is_named (list_any (bytes_eq w) reserved_first) (words.names w) e is in
      let a = not_all w e n.1 in
      (ap (λ b. if b then None else words.names w) (any_more (bytes_eq w) reserved_first (codes "all") n.0 a) ∙ n.1, a)

  same_name : (w : List ℕ) → bytes_eq w (codes "all") ≡ false → is_depth true (NameToken w) ≡ is_depth false (NameToken w)
  same_name w a = ap (λ b. bytes_eq w (codes "not") || b) a

  -- a number is one, and means the same
  number_lifted : (f : Bool) (t : Token) (n : ℕ) → number_at (first f) t ≡ Some n → (number_at second t ≡ Some n) × Same (t ∷ [])
  number_lifted f (NumberToken m) n is = (is, same_after (NumberToken m) [] refl same_none)
  number_lifted f (NameToken w) n is = absurd (none_some ℕ n is)
  number_lifted f (SignToken w) n is = absurd (none_some ℕ n is)
  number_lifted f BadByte n is = absurd (none_some ℕ n is)
  number_lifted f BadText n is = absurd (none_some ℕ n is)

  -- an expression is the same
  lifted : (f : Bool) (l : ℕ) (ts : List Token) (e : Expr) → Parses (first f) l ts e → Parses second l ts e × Same ts
  lifted f l ts e (tighter below p) = let i = lifted f (l + 1) ts e p in (tighter below i.0, i.1)
  lifted f l ts e (binary_of {xs = xs} {ys = ys} {t = t} {a = a} {b = b} c p q is) =
      let i = lifted f _ xs a p in
      let j = lifted f _ ys b q in
      (binary_of c i.0 j.0 is, subst Same (sym is) (same_two xs (t ∷ ys) i.1 (same_after t ys (of_each (λ (o : ℕ × Token × Op). SameDepth o.1) operators (l, t, _) same_operators c) j.1)))
  lifted f l ts e (not_of {ts = us} {e = a} p) = let i = lifted f _ us a p in (not_of i.0, same_after (NameToken (codes "not")) us refl i.1)
  lifted f l ts e (number_of {n = n}) = (number_of, same_after (NumberToken n) [] refl same_none)
  lifted f l ts e (name_of {w = w} is) = let n = name_lifted f w e is in (name_of n.0, same_after (NameToken w) [] (same_name w n.1) same_none)
  lifted f l ts e (memory_of {w = w} {us = us} {e = a} c p is) =
      let i = lifted f _ us a p in (
        memory_of c i.0 is,
        subst Same (sym is) (same_after (NameToken w) _ (of_each (λ (o : ℕ × List ℕ). SameDepth (NameToken o.1)) load_words (_, w) same_loads c)
            (same_in (SignToken (codes "[")) (SignToken (codes "]")) us refl refl i.1)),
      )
  lifted f l ts e (old_of {us = us} {e = a} p is) =
      let i = lifted f _ us a p in
      (old_of i.0 is, subst Same (sym is) (same_after (NameToken (codes "old")) _ refl (same_in (SignToken (codes "(")) (SignToken (codes ")")) us refl refl i.1)))
  lifted f l ts e (all_of low high a two p q may r is) = absurd (let x : ⊥ = cc in x)
  lifted f l ts e (in_brackets {us = us} p is) =
      let i = lifted f _ us e p in (in_brackets i.0 is, subst Same (sym is) (same_in (SignToken (codes "(")) (SignToken (codes ")")) us refl refl i.1))

  numbers_lifted : (f : Bool) (ts : List Token) (ns : List ℕ) → AreNumbers (first f) ts ns → AreNumbers second ts ns × Same ts
  numbers_lifted f [] [] h = (tt, same_none)
  numbers_lifted f (t ∷ ts) (n ∷ ns) h =
      let i = number_lifted f t n h.0 in let j = numbers_lifted f ts ns h.1 in ((i.0, j.0), same_two (t ∷ []) ts i.1 j.1)
  numbers_lifted f [] (n ∷ ns) h = absurd h
  numbers_lifted f (t ∷ ts) [] h = absurd h

  -- the tokens are few, or as deep as before
  abbrev pub IsDeep : List Token → Type 0
  IsDeep ts = Same ts ⊎ (length ts ≤ 64)

  -- what a line says, unless it is of the version
  abbrev pub Plain : Says → Type 0
  Plain (VersionIs rest) = ⊥
  Plain _ = Unit {0}

  -- version 1 has no such lines
  no_frame : {A : Type 0} (f : Bool) → MayFrame (first f) → A
  no_frame f may = absurd (let x : false ≡ true = may.0 in let b : ⊥ = cc in b)

  said_lifted : (f : Bool) (ts : List Token) (x : Says) → Plain x → IsSaid (first f) ts x → IsSaid second ts x × IsDeep ts
  said_lifted f ts Nothing plain is = (is, inl (subst Same (sym is) same_none))
  said_lifted f ts (EntryIs (At a)) plain (t, is, n) =
      let i = number_lifted f t a n in ((t, is, i.0), inl (subst Same (sym is) (same_after (NameToken (codes "entry")) _ refl i.1)))
  said_lifted f ts (EntryIs (Named w)) plain is = (is, inr (subst (λ ts. length ts ≤ 64) (sym is) (omega arith)))
  said_lifted f ts (RequireIs e) plain (rest, is, p) =
      let i = lifted f 1 rest e p in ((rest, is, i.0), inl (subst Same (sym is) (same_after (NameToken (codes "require")) _ refl i.1)))
  said_lifted f ts (EnsureIs e) plain (rest, is, p) =
      let i = lifted f 1 rest e p in ((rest, is, i.0), inl (subst Same (sym is) (same_after (NameToken (codes "ensure")) _ refl i.1)))
  said_lifted f ts (AssertIs a e) plain (t, rest, is, n, p) =
      let i = number_lifted f t a n in let j = lifted f 1 rest e p in
      ((t, rest, is, i.0, j.0), inl (subst Same (sym is) (same_after (NameToken (codes "assert")) _ refl (same_two (t ∷ []) rest i.1 j.1))))
  said_lifted f ts (TargetsAre a to) plain (t, rest, is, n, ns, some) =
      let i = number_lifted f t a n in let j = numbers_lifted f rest to ns in
      ((t, rest, is, i.0, j.0, some), inl (subst Same (sym is) (same_after (NameToken (codes "targets")) _ refl (same_two (t ∷ []) rest i.1 j.1))))
  said_lifted f ts (FixedIs low high) plain (t, u, is, n, m) =
      let i = number_lifted f t low n in let j = number_lifted f u high m in
      ((t, u, is, i.0, j.0), inl (subst Same (sym is) (same_after (NameToken (codes "fixed")) _ refl (same_two (t ∷ []) (u ∷ []) i.1 j.1))))
  said_lifted f ts (VersionIs rest) plain is = absurd plain
  said_lifted f ts (ConstIs w v) plain is = absurd (let x : false ≡ true = is.1 in let b : ⊥ = cc in b)
  said_lifted f ts LoadedIs plain is = absurd (let x : false ≡ true = is.1 in let b : ⊥ = cc in b)
  said_lifted f ts (InvariantIs a e) plain is = no_frame f is.1
  said_lifted f ts (NeedIs a e) plain is = no_frame f is.1
  said_lifted f ts (GiveIs a e) plain is = no_frame f is.1
  said_lifted f ts (ModifiesAre a cs) plain (t, rest, is, n, changed, some, may) = no_frame f may
  said_lifted f ts (WritesAre a e n) plain (t, u, us, is, m, p, k, may) = no_frame f may

  depth_lifted : (ts : List Token) → IsDeep ts → count_by (is_depth false) ts ≤ 64 → count_by (is_depth true) ts ≤ 64
  depth_lifted ts (inl same) le = subst (λ n. n ≤ 64) (sym same.is) le
  depth_lifted ts (inr few) le = let n = count_by-le-length (is_depth true) ts in omega (arith, n, few)

  version_plain : (x : Says) → Plain x → IsVersion second x
  version_plain (VersionIs rest) plain = absurd plain
  version_plain x plain = tt

  new_lifted : (f : Bool) (ts : List Token) (x : Says) → IsSaid (first f) ts x → IsNew second x
  new_lifted f ts (ConstIs w v) is = absurd (let x : false ≡ true = is.1 in let b : ⊥ = cc in b)
  new_lifted f ts x is = tt

  line_lifted : (f : Bool) (text : List ℕ) (x : Says) → Plain x → IsLine (first f) text x → IsLine second text x
  line_lifted f text x plain line =
      let i = said_lifted f (tokens_of text) x plain line.said in
      record {
        short = line.short;
        good = line.good;
        depth = depth_lifted (tokens_of text) i.1 line.depth;
        said = i.0;
        aligned = line.aligned;
        range = line.range;
        version = version_plain x plain;
        new = new_lifted f (tokens_of text) x line.said;
        alone = line.alone;
      }

  -- no line is of the version
  no_version : (f : Bool) (text : List ℕ) (texts : List (List ℕ)) (b : Bool) → (f ≡ true → is_second (text ∷ texts) ≡ false) →
      IsLine (first f) text (VersionIs b) → ⊥
  no_version f text texts b none line =
      let h = none line.version.0 in
      let y : true ≡ false =
      sym (line.version.1) ∙ line.said.2 ∙ sym (ap (λ ts. version_line ts (is_second texts)) line.said.1) ∙ h in
      let b : ⊥ = cc in b

  abbrev Lifts : Bool → List (List ℕ) → List Says → Type 0
  Lifts f texts says = (f ≡ true → is_second texts ≡ false) → AreLines (first f) texts says → AreLines second texts says

  later_none : {A : Type 0} → false ≡ true → A
  later_none e = absurd (let b : ⊥ = cc in b)

  lines_lifted : (f : Bool) (texts : List (List ℕ)) (says : List Says) → Lifts f texts says
  lines_lifted f [] [] none h = tt
  lines_lifted f [] (x ∷ says) none h = absurd h
  lines_lifted f (text ∷ texts) [] none h = absurd h
  lines_lifted f (text ∷ texts) (Nothing ∷ says) none h =
      (line_lifted f text Nothing tt h.0, lines_lifted f texts says (λ e. sym (ap (λ ts. version_line ts (is_second texts)) h.0.said) ∙ none e) h.1)
  lines_lifted f (text ∷ texts) (VersionIs rest ∷ says) none h = absurd (no_version f text texts rest none h.0)
  lines_lifted f (text ∷ texts) (ConstIs w v ∷ says) none h = later_none h.0.said.1
  lines_lifted f (text ∷ texts) (x ∷ says) none h = (line_lifted f text x tt h.0, lines_lifted false texts says later_none h.1)

-- line numbers, each one greater
requires_later : (n : ℕ) (says : List Says) → requires_of (n + 1) says ≡ map later_line (requires_of n says)
requires_later n [] = refl
requires_later n (RequireIs e ∷ says) = ap (λ l. record { line = n + 1; says = e } ∷ l) (requires_later (n + 1) says)
requires_later n (x ∷ says) = requires_later (n + 1) says

ensures_later : (n : ℕ) (says : List Says) → ensures_of (n + 1) says ≡ map later_line (ensures_of n says)
ensures_later n [] = refl
ensures_later n (EnsureIs e ∷ says) = ap (λ l. record { line = n + 1; says = e } ∷ l) (ensures_later (n + 1) says)
ensures_later n (x ∷ says) = ensures_later (n + 1) says

asserts_later : (n : ℕ) (says : List Says) → asserts_of (n + 1) says ≡ map later_assert (asserts_of n says)
asserts_later n [] = refl
asserts_later n (InvariantIs a e ∷ says) = ap (λ l. record { line = n + 1; at = a; says = e } ∷ l) (asserts_later (n + 1) says)
asserts_later n (AssertIs a e ∷ says) = ap (λ l. record { line = n + 1; at = a; says = e } ∷ l) (asserts_later (n + 1) says)
asserts_later n (x ∷ says) = asserts_later (n + 1) says

-- the line of the version
pub version_said : (v : Vocabulary) → IsLine (begin v true) (codes "notes 2") (VersionIs true)
version_said v = record {
  short = omega arith;
  good = search rules;
  depth = omega arith;
  said = (NumberToken 2 ∷ [], refl, refl);
  aligned = tt;
  range = tt;
  version = (refl, refl);
  new = tt;
  alone = λ e. refl;
}

pub upgrade_says_same : UpgradeSaysSame
upgrade_says_same v no_all text notes one is =
    let from : AreLines (begin v false) (lines_of text) is.says = subst (λ b. AreLines (begin v b) (lines_of text) is.says) one is.lines in
    let few : length (lines_of text) ≤ 4096 = subst (λ b. length (lines_of text) ≤ line_limit b) one is.short in
    let n = is.notes_are in
    subst (λ t. IsNotesText v t (later_notes notes)) (sym (ap (λ b. if b then text else codes "notes 2" ++ 10 ∷ text) one)) (record {
      short = omega (arith, few);
      says = VersionIs true ∷ is.says;
      lines = (version_said v, lines_lifted v no_all true (lines_of text) is.says (λ e. one) from);
      unmixed = is.unmixed;
      notes_are = (
        n.0,
        requires_later 1 is.says ∙ ap (map later_line) n.1,
        ensures_later 1 is.says ∙ ap (map later_line) n.2,
        asserts_later 1 is.says ∙ ap (map later_assert) n.3,
        n.4,
        n.5,
        n.6,
      );
    })

pub none_is_all : NoneIsAll
unfolding rv_table arm_table
none_is_all = (refl, refl)
