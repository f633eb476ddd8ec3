-- A line says one thing at most, and a text is one value of notes at most.
use Rattle.std.proofs.Common.{◌≡◌, ℕ, refl, ap, ap₂, sym, ◌∙◌, subst, arith, List, [], ◌∷◌, ◌++◌, Option, Some, codes, bytes_eq, if◌then◌else◌}
use Rattle.bilv_spec.specs.Notes.{Expr, Notes, At, Named, Function}
use Rattle.word_spec.specs.Tokens.{Token, NumberToken, NameToken, SignToken, BadByte, BadText, tokens_of}
use Rattle.notes_spec.specs.NotesGrammar.{Parses, lines_of, Says, Nothing, EntryIs, RequireIs, EnsureIs, AssertIs, TargetsAre, FixedIs, VersionIs, ConstIs, LoadedIs, InvariantIs, NeedIs, GiveIs, ModifiesAre, WritesAre, IsSaid, number_at, AreNumbers, AreChanged, IsAtAddress, is_two, is_second, after, AreLines, AreNotes, IsNotesText, entries}
use Rattle.notes_spec.specs.Scopes.{Vocabulary, Scope, Changed, begin, changed_by}
use Rattle.notes_spec.proofs.ParserFinds.{one_expression}

-- the kinds of lines, by a number
abbrev pub kind : Says → ℕ
kind Nothing = 0
kind (EntryIs e) = 1
kind (RequireIs e) = 3
kind (EnsureIs e) = 4
kind (AssertIs a e) = 5
kind (TargetsAre a to) = 6
kind (FixedIs low high) = 7
kind (VersionIs b) = 9
kind (ConstIs w v) = 10
kind LoadedIs = 11
kind (InvariantIs a e) = 12
kind (NeedIs a e) = 13
kind (GiveIs a e) = 14
kind (ModifiesAre a cs) = 15
kind (WritesAre a e n) = 16

abbrev kind_of_word : List ℕ → ℕ
kind_of_word w =
    if bytes_eq w (codes "entry") then 1 else if bytes_eq w (codes "function") then 1 else if bytes_eq w (codes "require") then 3 else
    if bytes_eq w (codes "ensure") then 4 else if bytes_eq w (codes "assert") then 5 else if bytes_eq w (codes "targets") then 6 else
    if bytes_eq w (codes "fixed") then 7 else if bytes_eq w (codes "notes") then 9 else if bytes_eq w (codes "const") then 10 else
    if bytes_eq w (codes "loaded") then 11 else if bytes_eq w (codes "invariant") then 12 else if bytes_eq w (codes "needs") then 13 else
    if bytes_eq w (codes "gives") then 14 else if bytes_eq w (codes "modifies") then 15 else if bytes_eq w (codes "writes") then 16 else 8

abbrev pub kind_of : List Token → ℕ
kind_of [] = 0
kind_of (NameToken w ∷ ts) = kind_of_word w
kind_of (NumberToken n ∷ ts) = 8
kind_of (SignToken w ∷ ts) = 8
kind_of (BadByte ∷ ts) = 8
kind_of (BadText ∷ ts) = 8

-- the first token tells the kind
pub kind_is : (s : Scope) (ts : List Token) (x : Says) → IsSaid s ts x → kind_of ts ≡ kind x
kind_is s ts Nothing is = ap kind_of is
kind_is s ts (EntryIs (At a)) (t, is, n) = ap kind_of is
kind_is s ts (EntryIs (Named w)) is = ap kind_of is
kind_is s ts (RequireIs e) is = ap kind_of is.1
kind_is s ts (EnsureIs e) is = ap kind_of is.1
kind_is s ts (AssertIs a e) (t, rest, is, n, p) = ap kind_of is
kind_is s ts (TargetsAre a to) (t, rest, is, n, p, some) = ap kind_of is
kind_is s ts (FixedIs low high) (t, u, is, n, m) = ap kind_of is
kind_is s ts (VersionIs b) is = ap kind_of is.1
kind_is s ts (ConstIs w v) is = ap kind_of is.0
kind_is s ts LoadedIs is = ap kind_of is.0
kind_is s ts (InvariantIs a e) ((t, rest, is, n, p), may) = ap kind_of is
kind_is s ts (NeedIs a e) ((t, rest, is, n, p), may) = ap kind_of is
kind_is s ts (GiveIs a e) ((t, rest, is, n, p), may) = ap kind_of is
kind_is s ts (ModifiesAre a cs) (t, rest, is, n, changed, some, may) = ap kind_of is
kind_is s ts (WritesAre a e n) (t, u, us, is, m, p, k, may) = ap kind_of is

-- a token is one number at most
same_some : (o : Option ℕ) (m n : ℕ) → o ≡ Some m → o ≡ Some n → m ≡ n
same_some o m n p q = cc

pub one_number : (s : Scope) (t u : Token) (m n : ℕ) → t ≡ u → number_at s t ≡ Some m → number_at s u ≡ Some n → m ≡ n
one_number s t u m n is p q = same_some (number_at s t) m n p (ap (number_at s) is ∙ q)

one_list : (s : Scope) (ts : List Token) (ms ns : List ℕ) → AreNumbers s ts ms → AreNumbers s ts ns → ms ≡ ns
one_list s [] [] [] p q = refl
one_list s (t ∷ ts) (m ∷ ms) (n ∷ ns) p q = ap₂ (λ a l. a ∷ l) (one_number s t t m n refl p.0 q.0) (one_list s ts ms ns p.1 q.1)
one_list s [] [] (n ∷ ns) p q = absurd q
one_list s [] (m ∷ ms) ns p q = absurd p
one_list s (t ∷ ts) [] ns p q = absurd p
one_list s (t ∷ ts) (m ∷ ms) [] p q = absurd q

-- names are one list of what changes at most
same_change : (o : Option Changed) (c d : Changed) → o ≡ Some c → o ≡ Some d → c ≡ d
same_change o c d p q = cc

one_change : (s : Scope) (ts : List Token) (cs ds : List Changed) → AreChanged s ts cs → AreChanged s ts ds → cs ≡ ds
one_change s [] [] [] p q = refl
one_change s (NameToken w ∷ ts) (c ∷ cs) (d ∷ ds) p q =
    ap₂ (λ a l. a ∷ l) (same_change (changed_by s.mode s w) c d p.0 q.0) (one_change s ts cs ds p.1 q.1)
one_change s [] [] (d ∷ ds) p q = absurd q
one_change s [] (c ∷ cs) ds p q = absurd p
one_change s (NameToken w ∷ ts) [] ds p q = absurd p
one_change s (NameToken w ∷ ts) (c ∷ cs) [] p q = absurd q
one_change s (NumberToken n ∷ ts) cs ds p q = absurd p
one_change s (SignToken w ∷ ts) cs ds p q = absurd p
one_change s (BadByte ∷ ts) cs ds p q = absurd p
one_change s (BadText ∷ ts) cs ds p q = absurd p

-- an address and an expression after a word
one_at : (s : Scope) (word : List ℕ) (ts : List Token) (a b : ℕ) (e f : Expr) → IsAtAddress s word ts a e → IsAtAddress s word ts b f → (a ≡ b) × (e ≡ f)
one_at s word ts a b e f (t, us, p, m, c) (u, vs, q, n, d) =
    let first : t ≡ u = cc in
    let is : vs ≡ us = cc in
    (one_number s t u a b first m n, one_expression s 1 us e f c (subst (λ us. Parses s 1 us f) is d))

-- lists with an element after them
pub same_last : {X : Type 0} (xs ys : List X) (x y : X) → xs ++ x ∷ [] ≡ ys ++ y ∷ [] → (xs ≡ ys) × (x ≡ y)
same_last [] [] x y is = let h : x ≡ y = cc in (refl, h)
same_last [] (v ∷ []) x y is = absurd (let b : ⊥ = cc in b)
same_last [] (v ∷ w ∷ ys) x y is = absurd (let b : ⊥ = cc in b)
same_last (u ∷ []) [] x y is = absurd (let b : ⊥ = cc in b)
same_last (u ∷ w ∷ xs) [] x y is = absurd (let b : ⊥ = cc in b)
same_last (u ∷ xs) (v ∷ ys) x y is =
    let h : u ≡ v = cc in
    let rest : xs ++ x ∷ [] ≡ ys ++ y ∷ [] = cc in
    let r = same_last xs ys x y rest in
    (ap₂ (λ a l. a ∷ l) h r.0, r.1)

-- a line says one thing at most
pub one_saying : (s : Scope) (ts : List Token) (x y : Says) → IsSaid s ts x → IsSaid s ts y → x ≡ y
one_saying s ts Nothing Nothing p q = refl
one_saying s ts (EntryIs (At a)) (EntryIs (At b)) (t, p, m) (u, q, n) = ap (λ a. EntryIs (At a)) (one_number s t u a b (let is : t ≡ u = cc in is) m n)
one_saying s ts (EntryIs (Named v)) (EntryIs (Named w)) p q = cc
one_saying s ts (EntryIs (At a)) (EntryIs (Named w)) (t, p, m) q = absurd (let b : ⊥ = cc in b)
one_saying s ts (EntryIs (Named w)) (EntryIs (At a)) p (t, q, m) = absurd (let b : ⊥ = cc in b)
one_saying s ts (RequireIs e) (RequireIs f) p q =
    let is : q.0 ≡ p.0 = let x = p.1 in let y = q.1 in cc in ap
    (λ e. RequireIs e) (one_expression s 1 p.0 e f p.2 (subst (λ us. Parses s 1 us f) is q.2))
one_saying s ts (EnsureIs e) (EnsureIs f) p q =
    let is : q.0 ≡ p.0 = let x = p.1 in let y = q.1 in cc in ap
    (λ e. EnsureIs e) (one_expression s 1 p.0 e f p.2 (subst (λ us. Parses s 1 us f) is q.2))
one_saying s ts (AssertIs a e) (AssertIs b f) p q =
    let r = one_at s (codes "assert") ts a b e f p q in ap₂ (λ a e. AssertIs a e) r.0 r.1
one_saying s ts (InvariantIs a e) (InvariantIs b f) p q =
    let r = one_at s (codes "invariant") ts a b e f p.0 q.0 in ap₂ (λ a e. InvariantIs a e) r.0 r.1
one_saying s ts (NeedIs a e) (NeedIs b f) p q =
    let r = one_at s (codes "needs") ts a b e f p.0 q.0 in ap₂ (λ a e. NeedIs a e) r.0 r.1
one_saying s ts (GiveIs a e) (GiveIs b f) p q =
    let r = one_at s (codes "gives") ts a b e f p.0 q.0 in ap₂ (λ a e. GiveIs a e) r.0 r.1
one_saying s ts (ModifiesAre a cs) (ModifiesAre b ds) (t, us, p, m, c, some, may) (u, vs, q, n, d, more, mau) =
    let first : t ≡ u = cc in
    let is : vs ≡ us = cc in
    ap₂ (λ a cs. ModifiesAre a cs) (one_number s t u a b first m n) (one_change s us cs ds c (subst (λ us. AreChanged s us ds) is d))
one_saying s ts (WritesAre a e n) (WritesAre b f k) (t, v, us, p, m, c, i, may) (u, w, vs, q, l, d, j, mau) =
    let first : t ≡ u = cc in
    let rest : vs ++ w ∷ [] ≡ us ++ v ∷ [] = cc in
    let r = same_last vs us w v rest in
    let e_is = one_expression s 1 us e f c (subst (λ us. Parses s 1 us f) r.0 d) in
    let n_is = one_number s v w n k (sym r.1) i j in
    let a_is = one_number s t u a b first m l in
    λ i. WritesAre (a_is i) (e_is i) (n_is i)
one_saying s ts (TargetsAre a to) (TargetsAre b others) (t, us, p, m, c, some) (u, vs, q, n, d, more) =
    let first : t ≡ u = cc in
    let is : vs ≡ us = cc in
    ap₂ (λ a to. TargetsAre a to) (one_number s t u a b first m n) (one_list s us to others c (subst (λ us. AreNumbers s us others) is d))
one_saying s ts (FixedIs low high) (FixedIs l h) (t, u, p, m, n) (v, w, q, i, j) =
    let first : t ≡ v = cc in let second : u ≡ w = cc in ap₂ (λ a b. FixedIs a b) (one_number s t v low l first m i) (one_number s u w high h second n j)
one_saying s ts (VersionIs b) (VersionIs c) (us, p, m) (vs, q, n) = let is : us ≡ vs = cc in ap (λ b. VersionIs b) (m ∙ ap is_two is ∙ sym n)
one_saying s ts (ConstIs w v) (ConstIs x y) p q = let a = p.0 in let b = q.0 in cc
one_saying s ts LoadedIs LoadedIs p q = refl
one_saying s ts x y p q = let e = sym (kind_is s ts x p) ∙ kind_is s ts y q in absurd (omega (arith, e))

-- so do lines
pub same_says : (s : Scope) (texts : List (List ℕ)) (says others : List Says) → AreLines s texts says → AreLines s texts others → says ≡ others
same_says s [] [] [] p q = refl
same_says s [] [] (y ∷ others) p q = absurd q
same_says s [] (x ∷ says) others p q = absurd p
same_says s (text ∷ texts) [] others p q = absurd p
same_says s (text ∷ texts) (x ∷ says) [] p q = absurd q
same_says s (text ∷ texts) (x ∷ says) (y ∷ others) p q =
    let first = one_saying s (tokens_of text) x y p.0.said q.0.said in
    ap₂ (λ x says. x ∷ says) first (same_says (after s x) texts says others p.1 (subst (λ y. AreLines (after s y) texts others) (sym first) q.1))

-- notes are their parts
same_notes : (m n : Notes) → m.entry ≡ n.entry → m.requires ≡ n.requires → m.ensures ≡ n.ensures → m.asserts ≡ n.asserts → m.targets ≡ n.targets →
    m.fixed ≡ n.fixed → m ≡ n
same_notes m n a b c d e f = λ i. record { entry = a i; requires = b i; ensures = c i; asserts = d i; targets = e i; fixed = f i }

same_head : (xs : List Function) (a b : Function) → xs ≡ a ∷ [] → xs ≡ b ∷ [] → a ≡ b
same_head xs a b p q = cc

pub one_reading : (v : Vocabulary) (text : List ℕ) (m n : Notes) → IsNotesText v text m → IsNotesText v text n → m ≡ n
one_reading v text m n p q =
    let is = same_says (begin v (is_second (lines_of text))) (lines_of text) p.says q.says p.lines q.lines in
    let r : AreNotes p.says n = subst (λ says. AreNotes says n) (sym is) q.notes_are in
    let a = p.notes_are in
    same_notes m n (same_head (entries p.says) m.entry n.entry a.0 r.0) (sym a.1 ∙ r.1) (sym a.2 ∙ r.2) (sym a.3 ∙ r.3) (sym a.4 ∙ r.4) (sym a.5 ∙ r.5)
