-- Whether a line says something can be decided.
use Rattle.std.proofs.Common.{◌≡◌, ℕ, suc, ◌<◌, refl, ap, sym, ◌∙◌, subst, arith, List, [], ◌∷◌, ◌++◌, Option, Some, None, Bool, true, false, ◌⊎◌, inl, inr, codes, length}
use Rattle.bilv_spec.specs.Notes.{At, Named}
use Rattle.word_spec.specs.Tokens.{Token, NumberToken, NameToken, SignToken, BadByte, BadText}
use Rattle.notes_spec.specs.NotesGrammar.{Says, Nothing, EntryIs, RequireIs, EnsureIs, AssertIs, TargetsAre, FixedIs, VersionIs, ConstIs, LoadedIs, InvariantIs, NeedIs, GiveIs, ModifiesAre, WritesAre, IsSaid, IsNumber, AreNumbers, AreChanged, MayFrame, number_at, is_two}
use Rattle.notes_spec.specs.Scopes.{Scope, Changed, changed_by, reads_frames}
use Rattle.bilv_spec.proofs.Decided.{Decided, through, both, either, same_text, same_number, is_less, none_some}
use Rattle.notes_spec.proofs.ParserEnds.{Parsed, is_parsed}
use Rattle.notes_spec.proofs.NotesSaid.{one_number, same_last}

-- two tokens are one
pub same_tokens : (t u : Token) → Decided (t ≡ u)
same_tokens (NameToken v) (NameToken w) = through (λ e. ap (λ w. NameToken w) e) (λ e. cc) (same_text v w)
same_tokens (SignToken v) (SignToken w) = through (λ e. ap (λ w. SignToken w) e) (λ e. cc) (same_text v w)
same_tokens (NumberToken m) (NumberToken n) = through (λ e. ap (λ n. NumberToken n) e) (λ e. cc) (same_number m n)
same_tokens BadByte BadByte = inl refl
same_tokens BadText BadText = inl refl
same_tokens t u = inr (λ e. let b : ⊥ = cc in b)

-- a token, and something of the rest
abbrev pub Begins : Token → (List Token → Type 0) → List Token → Type 0
Begins t Q ts = (rest : List Token) × (ts ≡ t ∷ rest) × Q rest

by_head : (t : Token) (Q : List Token → Type 0) (u : Token) (us : List Token) → Decided (Q us) → Decided (u ≡ t) → Decided (Begins t Q (u ∷ us))
by_head t Q u us d (inl e) =
    through (λ q. (us, ap (λ x. x ∷ us) e, q)) (λ b. let x = b.1 in let is : b.0 ≡ us = cc in subst Q is b.2) d
by_head t Q u us d (inr differs) = inr (λ b. let x = b.1 in let is : u ≡ t = cc in differs is)

pub begins : (t : Token) (Q : List Token → Type 0) (ts : List Token) → ((rest : List Token) → length rest < length ts → Decided (Q rest)) →
    Decided (Begins t Q ts)
begins t Q [] d = inr (λ b. let x = b.1 in let y : ⊥ = cc in y)
begins t Q (u ∷ us) d = by_head t Q u us (d us (omega arith)) (same_tokens u t)

-- a number first, and something of the rest
abbrev Numbered : Scope → (ℕ → List Token → Type 0) → List Token → Type 0
Numbered s Q ts = (t : Token) × (n : ℕ) × (rest : List Token) × (ts ≡ t ∷ rest) × IsNumber s t n × Q n rest

is_some : (o : Option ℕ) → ((n : ℕ) × (o ≡ Some n)) ⊎ (o ≡ None)
is_some (Some n) = inl (n, refl)
is_some None = inr refl

-- a token is a number, or it is none
is_number : (s : Scope) (t : Token) → ((n : ℕ) × IsNumber s t n) ⊎ (number_at s t ≡ None)
is_number s t = is_some (number_at s t)

other_number : (s : Scope) (t u : Token) (n : ℕ) → number_at s t ≡ None → u ≡ t → number_at s u ≡ Some n → ⊥
other_number s t u n nothing is some = none_some ℕ n (sym nothing ∙ ap (number_at s) (sym is) ∙ some)

first_number : (s : Scope) (Q : ℕ → List Token → Type 0) (t : Token) (ts : List Token) → ((n : ℕ) (rest : List Token) → Decided (Q n rest)) →
    ((n : ℕ) × IsNumber s t n) ⊎ (number_at s t ≡ None) → Decided (Numbered s Q (t ∷ ts))
first_number s Q t ts d (inl m) =
    through (λ q. (t, m.0, ts, refl, m.1, q)) (λ b. again b.0 b.1 b.2 b.3 b.4 b.5) (d m.0 ts) where
      again : (u : Token) (n : ℕ) (us : List Token) → t ∷ ts ≡ u ∷ us → IsNumber s u n → Q n us → Q m.0 ts
      again u n us is number q =
          let first : u ≡ t = cc in
          let rest : us ≡ ts = cc in
          subst (λ us. Q m.0 us) rest (subst (λ k. Q k us) (one_number s u t n m.0 first number m.1) q)
first_number s Q t ts d (inr nothing) = inr (λ b. none b.0 b.1 b.2 b.3 b.4) where
  none : (u : Token) (n : ℕ) (us : List Token) → t ∷ ts ≡ u ∷ us → IsNumber s u n → ⊥
  none u n us is number = let first : u ≡ t = cc in other_number s t u n nothing first number

numbered : (s : Scope) (Q : ℕ → List Token → Type 0) (ts : List Token) → ((n : ℕ) (rest : List Token) → Decided (Q n rest)) → Decided (Numbered s Q ts)
numbered s Q [] d = inr (λ b. let x = b.3 in let y : ⊥ = cc in y)
numbered s Q (t ∷ ts) d = first_number s Q t ts d (is_number s t)

is_end : (ts : List Token) → Decided (ts ≡ [])
is_end [] = inl refl
is_end (t ∷ ts) = inr (λ e. let b : ⊥ = cc in b)

is_name : (ts : List Token) → Decided ((w : List ℕ) × (ts ≡ NameToken w ∷ []))
is_name [] = inr (λ b. let x = b.1 in let y : ⊥ = cc in y)
is_name (NameToken w ∷ []) = inl (w, refl)
is_name (t ∷ ts) = inr (λ b. let x = b.1 in let y : ⊥ = cc in y)

is_const : (ts : List Token) → Decided ((w : List ℕ) × (v : ℕ) × (ts ≡ NameToken w ∷ NumberToken v ∷ []))
is_const [] = inr (λ b. let x = b.2 in let y : ⊥ = cc in y)
is_const (NameToken w ∷ NumberToken v ∷ []) = inl (w, v, refl)
is_const (t ∷ ts) = inr (λ b. let x = b.2 in let y : ⊥ = cc in y)

list_after : (s : Scope) (t : Token) (ts : List Token) → ((n : ℕ) × IsNumber s t n) ⊎ (number_at s t ≡ None) →
    Decided ((ns : List ℕ) × AreNumbers s ts ns) → Decided ((ns : List ℕ) × AreNumbers s (t ∷ ts) ns)
list_after s t ts (inl m) d = through (λ r. (m.0 ∷ r.0, (m.1, r.1))) (λ r. rest r.0 r.1) d where
  rest : (ns : List ℕ) → AreNumbers s (t ∷ ts) ns → (ms : List ℕ) × AreNumbers s ts ms
  rest [] h = absurd h
  rest (n ∷ ns) h = (ns, h.1)
list_after s t ts (inr nothing) d = inr (λ r. none r.0 r.1) where
  none : (ns : List ℕ) → AreNumbers s (t ∷ ts) ns → ⊥
  none [] h = h
  none (n ∷ ns) h = other_number s t t n nothing refl h.0

are_numbers : (s : Scope) (ts : List Token) → Decided ((ns : List ℕ) × AreNumbers s ts ns)
are_numbers s [] = inl ([], tt)
are_numbers s (t ∷ ts) = list_after s t ts (is_number s t) (are_numbers s ts)

numbers_length : (s : Scope) (ts : List Token) (ns : List ℕ) → AreNumbers s ts ns → length ts ≡ length ns
numbers_length s [] [] h = refl
numbers_length s (t ∷ ts) (n ∷ ns) h = ap suc (numbers_length s ts ns h.1)
numbers_length s [] (n ∷ ns) h = absurd h
numbers_length s (t ∷ ts) [] h = absurd h

-- numbers, at least one
abbrev Listed : Scope → List Token → Type 0
Listed s ts = ((to : List ℕ) × AreNumbers s ts to) × (0 < length ts)

-- names of what changes, at least one
change_after : (s : Scope) (w : List ℕ) (ts : List Token) (o : Option Changed) → changed_by s.mode s w ≡ o →
    Decided ((cs : List Changed) × AreChanged s ts cs) → Decided ((cs : List Changed) × AreChanged s (NameToken w ∷ ts) cs)
change_after s w ts (Some c) is d = through (λ r. (c ∷ r.0, (is, r.1))) (λ r. rest r.0 r.1) d where
  rest : (cs : List Changed) → AreChanged s (NameToken w ∷ ts) cs → (ds : List Changed) × AreChanged s ts ds
  rest [] h = absurd h
  rest (c ∷ cs) h = (cs, h.1)
change_after s w ts None is d = inr (λ r. none r.0 r.1) where
  none : (cs : List Changed) → AreChanged s (NameToken w ∷ ts) cs → ⊥
  none [] h = h
  none (c ∷ cs) h = none_some Changed c (sym is ∙ h.0)

are_changed : (s : Scope) (ts : List Token) → Decided ((cs : List Changed) × AreChanged s ts cs)
are_changed s [] = inl ([], tt)
are_changed s (NameToken w ∷ ts) = change_after s w ts (changed_by s.mode s w) refl (are_changed s ts)
are_changed s (NumberToken n ∷ ts) = inr (λ r. r.1)
are_changed s (SignToken w ∷ ts) = inr (λ r. r.1)
are_changed s (BadByte ∷ ts) = inr (λ r. r.1)
are_changed s (BadText ∷ ts) = inr (λ r. r.1)

changed_length : (s : Scope) (ts : List Token) (cs : List Changed) → AreChanged s ts cs → length ts ≡ length cs
changed_length s [] [] h = refl
changed_length s (NameToken w ∷ ts) (c ∷ cs) h = ap suc (changed_length s ts cs h.1)
changed_length s [] (c ∷ cs) h = absurd h
changed_length s (NameToken w ∷ ts) [] h = absurd h
changed_length s (NumberToken n ∷ ts) cs h = absurd h
changed_length s (SignToken w ∷ ts) cs h = absurd h
changed_length s (BadByte ∷ ts) cs h = absurd h
changed_length s (BadText ∷ ts) cs h = absurd h

abbrev Changing : Scope → List Token → Type 0
Changing s ts = ((cs : List Changed) × AreChanged s ts cs) × (0 < length ts)

-- an expression, and a number after it
abbrev Counted : Scope → List Token → Type 0
Counted s ts = (us : List Token) × (u : Token) × (n : ℕ) × (ts ≡ us ++ u ∷ []) × Parsed s us × IsNumber s u n

-- tokens have a last one, or are none
last : (t : Token) (ts : List Token) → (us : List Token) × (u : Token) × (t ∷ ts ≡ us ++ u ∷ [])
last t [] = ([], t, refl)
last t (v ∷ ts) = let r = last v ts in (t ∷ r.0, r.1, ap (λ l. t ∷ l) r.2)

ends_not : (us : List Token) (u : Token) → [] ≡ us ++ u ∷ [] → ⊥
ends_not [] u is = cc
ends_not (v ∷ us) u is = cc

number_last : (s : Scope) (us : List Token) (u : Token) → ((n : ℕ) × IsNumber s u n) ⊎ (number_at s u ≡ None) → Decided (Parsed s us) →
    Decided (Counted s (us ++ u ∷ []))
number_last s us u (inl m) d =
    through (λ p. (us, u, m.0, refl, p, m.1)) (λ c. let r = same_last us c.0 u c.1 c.3 in subst (Parsed s) (sym r.0) c.4) d
number_last s us u (inr nothing) d =
    inr (λ c. let r = same_last us c.0 u c.1 c.3 in other_number s u c.1 c.2 nothing (sym r.1) c.5)

counted : (s : Scope) (ts : List Token) → Decided (Counted s ts)
counted s [] = inr (λ c. ends_not c.0 c.1 c.3)
counted s (t ∷ ts) =
    let r = last t ts in
    subst (λ l. Decided (Counted s l)) (sym r.2) (number_last s r.0 r.1 (is_number s r.1) (is_parsed s r.0))

-- the forms of lines of invariants and contracts
abbrev AtLine : Scope → List ℕ → List Token → Type 0
AtLine s word ts = Begins (NameToken word) (Numbered s (λ n us. Parsed s us)) ts

abbrev FrameLines : Scope → List Token → Type 0
FrameLines s ts =
    AtLine s (codes "invariant") ts ⊎ (AtLine s (codes "needs") ts ⊎ (AtLine s (codes "gives") ts ⊎
    (Begins (NameToken (codes "modifies")) (Numbered s (λ n us. Changing s us)) ts ⊎
    Begins (NameToken (codes "writes")) (Numbered s (λ n us. Counted s us)) ts)))

-- the forms of the other lines
abbrev Lines : Scope → List Token → Type 0
Lines s ts =
    (ts ≡ []) ⊎ (Begins (NameToken (codes "entry")) (Numbered s (λ n us. us ≡ [])) ts ⊎
    (Begins (NameToken (codes "function")) (λ us. (w : List ℕ) × (us ≡ NameToken w ∷ [])) ts ⊎
    (Begins (NameToken (codes "require")) (Parsed s) ts ⊎ (Begins (NameToken (codes "ensure")) (Parsed s) ts ⊎
    (AtLine s (codes "assert") ts ⊎
    (Begins (NameToken (codes "targets")) (Numbered s (λ n us. Listed s us)) ts ⊎
    (Begins (NameToken (codes "fixed")) (Numbered s (λ n us. Numbered s (λ m vs. vs ≡ []) us)) ts ⊎
    (Begins (NameToken (codes "notes")) (λ us. Unit {0}) ts ⊎
    (Begins (NameToken (codes "const")) (λ us. ((w : List ℕ) × (v : ℕ) × (us ≡ NameToken w ∷ NumberToken v ∷ [])) × (s.is_second ≡ true)) ts ⊎
    Begins (NameToken (codes "loaded")) (λ us. (us ≡ []) × (s.is_second ≡ true)) ts)))))))))

-- tokens say something
abbrev pub Said : Scope → List Token → Type 0
Said s ts = (x : Says) × IsSaid s ts x

-- two tokens and the tokens after them
whole : (t u : Token) (ts us vs : List Token) → ts ≡ t ∷ us → us ≡ u ∷ vs → ts ≡ t ∷ u ∷ vs
whole t u ts us vs p q = p ∙ ap (λ l. t ∷ l) q

of_line : (s : Scope) (ts : List Token) → Lines s ts → Said s ts
of_line s ts (inl p) = (Nothing, p)
of_line s ts (inr (inl (us, p, (t, n, vs, q, is, end)))) = (EntryIs (At n), (t, whole (NameToken (codes "entry")) t ts us [] p (q ∙ ap (λ l. t ∷ l) end), is))
of_line s ts (inr (inr (inl p))) = (EntryIs (Named p.2.0), p.1 ∙ ap (λ us. NameToken (codes "function") ∷ us) p.2.1)
of_line s ts (inr (inr (inr (inl p)))) = (RequireIs p.2.0, (p.0, p.1, p.2.1))
of_line s ts (inr (inr (inr (inr (inl p))))) = (EnsureIs p.2.0, (p.0, p.1, p.2.1))
of_line s ts (inr (inr (inr (inr (inr (inl (us, p, (t, n, vs, q, is, e)))))))) =
    (AssertIs n e.0, (t, vs, whole (NameToken (codes "assert")) t ts us vs p q, is, e.1))
of_line s ts (inr (inr (inr (inr (inr (inr (inl (us, p, (t, n, vs, q, is, (list, some)))))))))) =
    let count = numbers_length s vs list.0 list.1 in
    (TargetsAre n list.0, (t, vs, whole (NameToken (codes "targets")) t ts us vs p q, is, list.1, omega (arith, count, some)))
of_line s ts (inr (inr (inr (inr (inr (inr (inr (inl (us, p, (t, n, vs, q, is, (u, m, ws, r, number, end))))))))))) =
    (FixedIs n m, (t, u, whole (NameToken (codes "fixed")) t ts us (u ∷ []) p (q ∙ ap (λ l. t ∷ l) (r ∙ ap (λ l. u ∷ l) end)), is, number))
of_line s ts (inr (inr (inr (inr (inr (inr (inr (inr (inl p))))))))) = (VersionIs (is_two p.0), (p.0, p.1, refl))
of_line s ts (inr (inr (inr (inr (inr (inr (inr (inr (inr (inl (us, p, ((w, v, q), second)))))))))))) =
    (ConstIs w v, (p ∙ ap (λ us. NameToken (codes "const") ∷ us) q, second))
of_line s ts (inr (inr (inr (inr (inr (inr (inr (inr (inr (inr (us, p, (end, second)))))))))))) =
    (LoadedIs, (p ∙ ap (λ us. NameToken (codes "loaded") ∷ us) end, second))

of_frame : (s : Scope) (ts : List Token) → FrameLines s ts → MayFrame s → Said s ts
of_frame s ts (inl (us, p, (t, n, vs, q, is, e))) may =
    (InvariantIs n e.0, ((t, vs, whole (NameToken (codes "invariant")) t ts us vs p q, is, e.1), may))
of_frame s ts (inr (inl (us, p, (t, n, vs, q, is, e)))) may =
    (NeedIs n e.0, ((t, vs, whole (NameToken (codes "needs")) t ts us vs p q, is, e.1), may))
of_frame s ts (inr (inr (inl (us, p, (t, n, vs, q, is, e))))) may =
    (GiveIs n e.0, ((t, vs, whole (NameToken (codes "gives")) t ts us vs p q, is, e.1), may))
of_frame s ts (inr (inr (inr (inl (us, p, (t, n, vs, q, is, (changes, some))))))) may =
    let count = changed_length s vs changes.0 changes.1 in
    (ModifiesAre n changes.0, (t, vs, whole (NameToken (codes "modifies")) t ts us vs p q, is, changes.1, omega (arith, count, some), may))
of_frame s ts (inr (inr (inr (inr (us, p, (t, n, vs, q, is, (ws, u, m, r, e, number))))))) may =
    (WritesAre n e.0 m, (t, u, ws, whole (NameToken (codes "writes")) t ts us (ws ++ u ∷ []) p (q ∙ ap (λ l. t ∷ l) r), is, e.1, number, may))

of_either : (s : Scope) (ts : List Token) → Lines s ts ⊎ (FrameLines s ts × MayFrame s) → Said s ts
of_either s ts (inl p) = of_line s ts p
of_either s ts (inr p) = of_frame s ts p.0 p.1

to_line : (s : Scope) (ts : List Token) (x : Says) → IsSaid s ts x → Lines s ts ⊎ (FrameLines s ts × MayFrame s)
to_line s ts Nothing p = inl (inl p)
to_line s ts (EntryIs (At a)) (t, p, is) = inl (inr (inl (t ∷ [], p, (t, a, [], refl, is, refl))))
to_line s ts (EntryIs (Named w)) p = inl (inr (inr (inl (NameToken w ∷ [], p, (w, refl)))))
to_line s ts (RequireIs e) p = inl (inr (inr (inr (inl (p.0, p.1, (e, p.2))))))
to_line s ts (EnsureIs e) p = inl (inr (inr (inr (inr (inl (p.0, p.1, (e, p.2)))))))
to_line s ts (AssertIs a e) (t, us, p, is, q) = inl (inr (inr (inr (inr (inr (inl (t ∷ us, p, (t, a, us, refl, is, (e, q)))))))))
to_line s ts (TargetsAre a to) (t, us, p, is, q, some) =
    let count = numbers_length s us to q in
    inl (inr (inr (inr (inr (inr (inr (inl (t ∷ us, p, (t, a, us, refl, is, ((to, q), omega (arith, count, some)))))))))))
to_line s ts (FixedIs low high) (t, u, p, is, number) =
    inl (inr (inr (inr (inr (inr (inr (inr (inl (t ∷ u ∷ [], p, (t, low, u ∷ [], refl, is, (u, high, [], refl, number, refl)))))))))))
to_line s ts (VersionIs b) p = inl (inr (inr (inr (inr (inr (inr (inr (inr (inl (p.0, p.1, tt))))))))))
to_line s ts (ConstIs w v) p =
    inl (inr (inr (inr (inr (inr (inr (inr (inr (inr (inl (NameToken w ∷ NumberToken v ∷ [], p.0, ((w, v, refl), p.1))))))))))))
to_line s ts LoadedIs p = inl (inr (inr (inr (inr (inr (inr (inr (inr (inr (inr ([], p.0, (refl, p.1))))))))))))
to_line s ts (InvariantIs a e) ((t, us, p, is, q), may) = inr (inl (t ∷ us, p, (t, a, us, refl, is, (e, q))), may)
to_line s ts (NeedIs a e) ((t, us, p, is, q), may) = inr (inr (inl (t ∷ us, p, (t, a, us, refl, is, (e, q)))), may)
to_line s ts (GiveIs a e) ((t, us, p, is, q), may) = inr (inr (inr (inl (t ∷ us, p, (t, a, us, refl, is, (e, q))))), may)
to_line s ts (ModifiesAre a cs) (t, us, p, is, q, some, may) =
    let count = changed_length s us cs q in
    inr (inr (inr (inr (inl (t ∷ us, p, (t, a, us, refl, is, ((cs, q), omega (arith, count, some))))))), may)
to_line s ts (WritesAre a e n) (t, u, us, p, is, q, number, may) =
    inr (inr (inr (inr (inr (t ∷ us ++ u ∷ [], p, (t, a, us ++ u ∷ [], refl, is, (us, u, n, refl, (e, q), number)))))), may)

second : (b : Bool) → Decided (b ≡ true)
second true = inl refl
second false = inr (λ e. let b : ⊥ = cc in b)

at_line : (s : Scope) (word : List ℕ) (ts : List Token) → Decided (AtLine s word ts)
at_line s word ts =
    begins (NameToken word) (Numbered s (λ n us. Parsed s us)) ts (λ us less. numbered s (λ n us. Parsed s us) us (λ n vs. is_parsed s vs))

is_frame_line : (s : Scope) (ts : List Token) → Decided (FrameLines s ts)
is_frame_line s ts =
    either (at_line s (codes "invariant") ts) (either (at_line s (codes "needs") ts) (either (at_line s (codes "gives") ts)
    (either (begins (NameToken (codes "modifies")) (Numbered s (λ n us. Changing s us)) ts
    (λ us less. numbered s (λ n us. Changing s us) us (λ n vs. both (are_changed s vs) (is_less 0 (length vs)))))
    (begins (NameToken (codes "writes")) (Numbered s (λ n us. Counted s us)) ts
    (λ us less. numbered s (λ n us. Counted s us) us (λ n vs. counted s vs))))))

is_line : (s : Scope) (ts : List Token) → Decided (Lines s ts)
is_line s ts =
    either (is_end ts) (either (begins (NameToken (codes "entry")) (Numbered s (λ n us. us ≡ [])) ts
    (λ us less. numbered s (λ n us. us ≡ []) us (λ n vs. is_end vs)))
    (either (begins (NameToken (codes "function")) (λ us. (w : List ℕ) × (us ≡ NameToken w ∷ [])) ts (λ us less. is_name us))
    (either (begins (NameToken (codes "require")) (Parsed s) ts (λ us less. is_parsed s us))
    (either (begins (NameToken (codes "ensure")) (Parsed s) ts (λ us less. is_parsed s us))
    (either (at_line s (codes "assert") ts)
    (either (begins (NameToken (codes "targets")) (Numbered s (λ n us. Listed s us)) ts
    (λ us less. numbered s (λ n us. Listed s us) us (λ n vs. both (are_numbers s vs) (is_less 0 (length vs)))))
    (either (begins (NameToken (codes "fixed")) (Numbered s (λ n us. Numbered s (λ m vs. vs ≡ []) us)) ts
    (λ us less. numbered s (λ n us. Numbered s (λ m vs. vs ≡ []) us) us (λ n vs. numbered s (λ m ws. ws ≡ []) vs (λ m ws. is_end ws))))
    (either (begins (NameToken (codes "notes")) (λ us. Unit {0}) ts (λ us less. inl tt))
    (either (begins (NameToken (codes "const")) (λ us. ((w : List ℕ) × (v : ℕ) × (us ≡ NameToken w ∷ NumberToken v ∷ [])) × (s.is_second ≡ true)) ts
    (λ us less. both (is_const us) (second s.is_second)))
    (begins (NameToken (codes "loaded")) (λ us. (us ≡ []) × (s.is_second ≡ true)) ts (λ us less. both (is_end us) (second s.is_second))))))))))))

pub is_said : (s : Scope) (ts : List Token) → Decided (Said s ts)
is_said s ts =
    through (of_either s ts) (λ p. to_line s ts p.0 p.1)
    (either (is_line s ts) (both (is_frame_line s ts) (both (second s.is_second) (second (reads_frames s.dialect)))))
