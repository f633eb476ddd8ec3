-- What is read as it must be is read leniently as well, and is the same; and what is read is read as if every word had a meaning.
use Rattle.std.proofs.Common.{◌≡◌, refl, ap, sym, subst, ◌∙◌, ℕ, suc, ◌<◌, ◌+◌, List, [], ◌∷◌, ◌++◌, length, codes, Option, Some, None, Bool, true, false, if◌then◌else◌}
use Rattle.bilv_spec.specs.Notes.{Expr, Number, Memory, Old, Not, Binary, At, Named, written_out}
use Rattle.word_spec.specs.Tokens.{Token, NumberToken, NameToken, SignToken, BadByte, BadText}
use Rattle.notes_spec.specs.NotesGrammar.{number_at, AreNumbers, AreChanged, IsAtAddress, Parses, tighter, binary_of, not_of, number_of, name_of, memory_of, old_of, all_of, in_brackets, Says, Nothing, EntryIs, RequireIs, EnsureIs, AssertIs, TargetsAre, FixedIs, VersionIs, ConstIs, LoadedIs, InvariantIs, NeedIs, GiveIs, ModifiesAre, WritesAre, IsSaid, left_of, after, after_all}
use Rattle.notes_spec.specs.Scopes.{Scope, Strict, Changed, ChangedRegister, lenient, loose, binding, is_reserved, name_by, number_by}
use Rattle.bilv_spec.proofs.Decided.{none_some}

abbrev pub strict : Scope → Scope
strict s = record s { mode = Strict }

number_same : (s : Scope) (t : Token) (n : ℕ) → number_at (strict s) t ≡ Some n → number_at (lenient s) t ≡ Some n
number_same s (NumberToken m) n is = is
number_same s (NameToken w) n is = is
number_same s (SignToken w) n is = is
number_same s BadByte n is = is
number_same s BadText n is = is

pub parsed : (s : Scope) (l : ℕ) (ts : List Token) (e : Expr) → Parses (strict s) l ts e → Parses (lenient s) l ts e
parsed s l ts e (tighter below p) = tighter below (parsed s _ ts e p)
parsed s l ts e (binary_of {xs = xs} {ys = ys} {a = a} {b = b} c p q is) = binary_of c (parsed s _ xs a p) (parsed s _ ys b q) is
parsed s l ts e (not_of {ts = us} {e = a} p) = not_of (parsed s _ us a p)
parsed s l ts e number_of = number_of
parsed s l ts e (name_of is) = name_of is
parsed s l ts e (memory_of {us = us} {e = a} c p is) = memory_of c (parsed s _ us a p) is
parsed s l ts e (old_of {us = us} {e = a} p is) = old_of (parsed s _ us a p) is
parsed s l ts e (all_of {w = w} {b = b} {c = c} low high {us = us} a two p q may r is) =
    all_of low high a two (number_same s b low p) (number_same s c high q) refl (parsed (binding s w) 1 us a r) is
parsed s l ts e (in_brackets {us = us} p is) = in_brackets (parsed s _ us e p) is

numbers_same : (s : Scope) (ts : List Token) (ns : List ℕ) → AreNumbers (strict s) ts ns → AreNumbers (lenient s) ts ns
numbers_same s [] [] h = tt
numbers_same s (t ∷ ts) (n ∷ ns) h = (number_same s t n h.0, numbers_same s ts ns h.1)
numbers_same s [] (n ∷ ns) h = absurd h
numbers_same s (t ∷ ts) [] h = absurd h

changed_same : (s : Scope) (ts : List Token) (cs : List Changed) → AreChanged (strict s) ts cs → AreChanged (lenient s) ts cs
changed_same s [] [] h = tt
changed_same s (NameToken w ∷ ts) (c ∷ cs) h = (h.0, changed_same s ts cs h.1)
changed_same s [] (c ∷ cs) h = absurd h
changed_same s (NameToken w ∷ ts) [] h = absurd h
changed_same s (NumberToken n ∷ ts) cs h = absurd h
changed_same s (SignToken w ∷ ts) cs h = absurd h
changed_same s (BadByte ∷ ts) cs h = absurd h
changed_same s (BadText ∷ ts) cs h = absurd h

at_said : (s : Scope) (word : List ℕ) (ts : List Token) (a : ℕ) (e : Expr) → IsAtAddress (strict s) word ts a e → IsAtAddress (lenient s) word ts a e
at_said s word ts a e (t, rest, is, n, p) = (t, rest, is, number_same s t a n, parsed s 1 rest e p)

pub said : (s : Scope) (ts : List Token) (x : Says) → IsSaid (strict s) ts x → IsSaid (lenient s) ts x
said s ts Nothing is = is
said s ts (EntryIs (At a)) (t, is, n) = (t, is, number_same s t a n)
said s ts (EntryIs (Named w)) is = is
said s ts (RequireIs e) (rest, is, p) = (rest, is, parsed s 1 rest e p)
said s ts (EnsureIs e) (rest, is, p) = (rest, is, parsed s 1 rest e p)
said s ts (AssertIs a e) is = at_said s (codes "assert") ts a e is
said s ts (InvariantIs a e) is = (at_said s (codes "invariant") ts a e is.0, is.1)
said s ts (NeedIs a e) is = (at_said s (codes "needs") ts a e is.0, is.1)
said s ts (GiveIs a e) is = (at_said s (codes "gives") ts a e is.0, is.1)
said s ts (ModifiesAre a cs) (t, rest, is, n, changed, some, may) = (t, rest, is, number_same s t a n, changed_same s rest cs changed, some, may)
said s ts (WritesAre a e n) (t, u, us, is, m, p, k, may) = (t, u, us, is, number_same s t a m, parsed s 1 us e p, number_same s u n k, may)
said s ts (TargetsAre a to) (t, rest, is, n, ns, some) = (t, rest, is, number_same s t a n, numbers_same s rest to ns, some)
said s ts (FixedIs low high) (t, u, is, n, m) = (t, u, is, number_same s t low n, number_same s u high m)
said s ts (VersionIs b) is = is
said s ts (ConstIs w v) is = is
said s ts LoadedIs is = is

pub strict_is_lenient : (s : Scope) (ts : List Token) (x : Says) → s.mode ≡ Strict → IsSaid s ts x → IsSaid (lenient s) ts x
strict_is_lenient s ts x is p = said s ts x (subst (λ m. IsSaid (record s { mode = m }) ts x) is p)

-- and numbers the other way round
same_mode : (s : Scope) (t : Token) (n : ℕ) → number_at (lenient s) t ≡ Some n → number_at (strict s) t ≡ Some n
same_mode s (NumberToken m) n is = is
same_mode s (NameToken w) n is = is
same_mode s (SignToken w) n is = is
same_mode s BadByte n is = is
same_mode s BadText n is = is

pub strict_number : (s : Scope) → s.mode ≡ Strict → (t : Token) (n : ℕ) → number_at (lenient s) t ≡ Some n → number_at s t ≡ Some n
strict_number s is t n p = subst (λ m. number_at (record s { mode = m }) t ≡ Some n) (sym is) (same_mode s t n p)

pub strict_numbers : (s : Scope) → s.mode ≡ Strict → (ts : List Token) (ns : List ℕ) → AreNumbers (lenient s) ts ns → AreNumbers s ts ns
strict_numbers s is [] [] h = tt
strict_numbers s is (t ∷ ts) (n ∷ ns) h = (strict_number s is t n h.0, strict_numbers s is ts ns h.1)
strict_numbers s is [] (n ∷ ns) h = absurd h
strict_numbers s is (t ∷ ts) [] h = absurd h

-- as if every word had a meaning
named_loose : (b : Bool) (o : Option Expr) (e : Expr) → (if b then None else o) ≡ Some e → (if b then None else Some (Number 0)) ≡ Some (Number 0)
named_loose true o e is = absurd (none_some Expr e is)
named_loose false o e is = refl

number_loose : (b : Bool) (o : Option ℕ) (n : ℕ) → (if b then o else None) ≡ Some n → (m : ℕ) × ((if b then Some 0 else None) ≡ Some m)
number_loose true o n is = (0, refl)
number_loose false o n is = absurd (none_some ℕ n is)

loose_number : (s : Scope) (t : Token) (n : ℕ) → number_at s t ≡ Some n → (m : ℕ) × (number_at (loose s) t ≡ Some m)
loose_number s (NumberToken m) n is = (n, is)
loose_number s (NameToken w) n is = number_loose s.is_second (number_by s.mode s w) n is
loose_number s (SignToken w) n is = absurd (none_some ℕ n is)
loose_number s BadByte n is = absurd (none_some ℕ n is)
loose_number s BadText n is = absurd (none_some ℕ n is)

pub parsed_loosely : (s : Scope) (l : ℕ) (ts : List Token) (e : Expr) → Parses s l ts e → (f : Expr) × Parses (loose s) l ts f
parsed_loosely s l ts e (tighter below p) = let r = parsed_loosely s (l + 1) ts e p in (r.0, tighter below r.1)
parsed_loosely s l ts e (binary_of {xs = xs} {ys = ys} {t = t} {op = op} {a = a} {b = b} c p q is) =
    let r = parsed_loosely s (left_of l) xs a p in let r' = parsed_loosely s (l + 1) ys b q in (Binary op r.0 r'.0, binary_of c r.1 r'.1 is)
parsed_loosely s l ts e (not_of {ts = us} {e = a} p) = let r = parsed_loosely s 3 us a p in (Not r.0, not_of r.1)
parsed_loosely s l ts e (number_of {n = n}) = (Number n, number_of)
parsed_loosely s l ts e (name_of {w = w} {e = a} is) = (Number 0, name_of (named_loose (is_reserved s w) (name_by s.mode s w) a is))
parsed_loosely s l ts e (memory_of {n = n} {us = us} {e = a} c p is) = let r = parsed_loosely s 1 us a p in (Memory n r.0, memory_of c r.1 is)
parsed_loosely s l ts e (old_of {us = us} {e = a} p is) = let r = parsed_loosely s 1 us a p in (Old r.0, old_of r.1 is)
parsed_loosely s l ts e (all_of {w = w} {b = b} {c = c} low high {us = us} a two p q may r is) =
    let m = loose_number s b low p in
    let n = loose_number s c high q in
    let inner = parsed_loosely (binding s w) 1 us a r in
    (written_out m.0 n.0 inner.0, all_of m.0 n.0 inner.0 two m.1 n.1 refl inner.1 is)
parsed_loosely s l ts e (in_brackets {us = us} p is) = let r = parsed_loosely s 1 us e p in (r.0, in_brackets r.1 is)

loose_numbers : (s : Scope) (ts : List Token) (ns : List ℕ) → AreNumbers s ts ns → (ms : List ℕ) × AreNumbers (loose s) ts ms × (length ms ≡ length ns)
loose_numbers s [] [] h = ([], tt, refl)
loose_numbers s (t ∷ ts) (n ∷ ns) h =
    let a = loose_number s t n h.0 in let r = loose_numbers s ts ns h.1 in (a.0 ∷ r.0, (a.1, r.1), ap suc r.2)
loose_numbers s [] (n ∷ ns) h = absurd h
loose_numbers s (t ∷ ts) [] h = absurd h

loose_changed : (s : Scope) (ts : List Token) (cs : List Changed) → AreChanged s ts cs →
    (ds : List Changed) × AreChanged (loose s) ts ds × (length ds ≡ length cs)
loose_changed s [] [] h = ([], tt, refl)
loose_changed s (NameToken w ∷ ts) (c ∷ cs) h = let r = loose_changed s ts cs h.1 in (ChangedRegister 0 ∷ r.0, (refl, r.1), ap suc r.2)
loose_changed s [] (c ∷ cs) h = absurd h
loose_changed s (NameToken w ∷ ts) [] h = absurd h
loose_changed s (NumberToken n ∷ ts) cs h = absurd h
loose_changed s (SignToken w ∷ ts) cs h = absurd h
loose_changed s (BadByte ∷ ts) cs h = absurd h
loose_changed s (BadText ∷ ts) cs h = absurd h

at_loosely : (s : Scope) (word : List ℕ) (ts : List Token) (a : ℕ) (e : Expr) → IsAtAddress s word ts a e →
    (b : ℕ) × (f : Expr) × IsAtAddress (loose s) word ts b f
at_loosely s word ts a e (t, rest, is, n, p) =
    let m = loose_number s t a n in let r = parsed_loosely s 1 rest e p in (m.0, r.0, (t, rest, is, m.1, r.1))

pub said_loosely : (s : Scope) (ts : List Token) (x : Says) → IsSaid s ts x → (y : Says) × IsSaid (loose s) ts y
said_loosely s ts Nothing p = (Nothing, p)
said_loosely s ts (EntryIs (At a)) (t, is, n) = let m = loose_number s t a n in (EntryIs (At m.0), (t, is, m.1))
said_loosely s ts (EntryIs (Named w)) p = (EntryIs (Named w), p)
said_loosely s ts (RequireIs e) (rest, is, p) = let r = parsed_loosely s 1 rest e p in (RequireIs r.0, (rest, is, r.1))
said_loosely s ts (EnsureIs e) (rest, is, p) = let r = parsed_loosely s 1 rest e p in (EnsureIs r.0, (rest, is, r.1))
said_loosely s ts (AssertIs a e) p = let r = at_loosely s (codes "assert") ts a e p in (AssertIs r.0 r.1, r.2)
said_loosely s ts (InvariantIs a e) p = let r = at_loosely s (codes "invariant") ts a e p.0 in (InvariantIs r.0 r.1, (r.2, p.1))
said_loosely s ts (NeedIs a e) p = let r = at_loosely s (codes "needs") ts a e p.0 in (NeedIs r.0 r.1, (r.2, p.1))
said_loosely s ts (GiveIs a e) p = let r = at_loosely s (codes "gives") ts a e p.0 in (GiveIs r.0 r.1, (r.2, p.1))
said_loosely s ts (ModifiesAre a cs) (t, rest, is, n, changed, some, may) =
    let m = loose_number s t a n in
    let ds = loose_changed s rest cs changed in
    (ModifiesAre m.0 ds.0, (t, rest, is, m.1, ds.1, subst (λ k. 0 < k) (sym ds.2) some, may))
said_loosely s ts (WritesAre a e n) (t, u, us, is, m, p, k, may) =
    let at = loose_number s t a m in
    let r = parsed_loosely s 1 us e p in
    let count = loose_number s u n k in
    (WritesAre at.0 r.0 count.0, (t, u, us, is, at.1, r.1, count.1, may))
said_loosely s ts (TargetsAre a to) (t, rest, is, n, ns, some) =
    let m = loose_number s t a n in
    let ms = loose_numbers s rest to ns in
    (TargetsAre m.0 ms.0, (t, rest, is, m.1, ms.1, subst (λ k. 0 < k) (sym ms.2) some))
said_loosely s ts (FixedIs low high) (t, u, is, n, m) =
    let a = loose_number s t low n in let b = loose_number s u high m in (FixedIs a.0 b.0, (t, u, is, a.1, b.1))
said_loosely s ts (VersionIs b) p = (VersionIs b, p)
said_loosely s ts (ConstIs w v) p = (ConstIs w v, p)
said_loosely s ts LoadedIs p = (LoadedIs, p)

-- lines are read one after the other in the same way
pub after_mode : (s : Scope) (x : Says) → (after s x).mode ≡ s.mode
after_mode s Nothing = refl
after_mode s x = refl

pub after_second : (s : Scope) (x : Says) → (after s x).is_second ≡ s.is_second
after_second s Nothing = refl
after_second s x = refl

pub after_dialect : (s : Scope) (x : Says) → (after s x).dialect ≡ s.dialect
after_dialect s Nothing = refl
after_dialect s x = refl

pub all_mode : (s : Scope) (says : List Says) → (after_all s says).mode ≡ s.mode
all_mode s [] = refl
all_mode s (x ∷ says) = all_mode (after s x) says ∙ after_mode s x

pub all_second : (s : Scope) (says : List Says) → (after_all s says).is_second ≡ s.is_second
all_second s [] = refl
all_second s (x ∷ says) = all_second (after s x) says ∙ after_second s x

pub after_append : (s : Scope) (xs ys : List Says) → after_all s (xs ++ ys) ≡ after_all (after_all s xs) ys
after_append s [] ys = refl
after_append s (x ∷ xs) ys = after_append (after s x) xs ys
