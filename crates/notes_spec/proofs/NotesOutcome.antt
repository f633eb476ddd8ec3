-- A text is notes, or it has a first fault.
use Rattle.std.proofs.Common.{◌≡◌, ◌≢◌, ℕ, zero, suc, ◌<◌, ◌≤◌, ◌+◌, ◌%◌, ◌^◌, refl, ap, sym, ◌∙◌, subst, arith, List, [], ◌∷◌, ◌++◌, Bool, true, false, ◌||◌, ◌⊎◌, inl, inr, length, get_or, All, AllPairs, Contains, count_by, append_assoc, append-nil, length-append, lit<}
use Rattle.bilv_spec.specs.Notes.{Notes, At, Named, Function, Targets}
use Rattle.word_spec.specs.Tokens.{Token, NumberToken, NameToken, SignToken, BadByte, BadText, tokens_of}
use Rattle.notes_spec.specs.NotesGrammar.{lines_of, is_depth, IsGood, Says, EntryIs, AssertIs, TargetsAre, FixedIs, VersionIs, ConstIs, InvariantIs, NeedIs, GiveIs, ModifiesAre, WritesAre, IsSaid, IsLine, AreLines, AreAligned, IsRange, IsVersion, IsNew, IsAlone, is_mixed, is_invariant, is_of_contract, after, after_all, line_limit, IsNotesText, entries, requires_of, ensures_of, asserts_of, targets_of, fixed_of}
use Rattle.notes_spec.specs.NotesFaults.{NoteFault, LimitFault, ByteFault, TokenFault, NumberFault, DepthFault, WordFault, SyntaxFault, NameFault, AlignFault, RangeFault, EntryFault, VersionFault, ConstFault, AllFault, MixedFault, PairFault, note_fault_rank, line_words, begin_of, IsLineWord, BeginsBadly, Repeats, NoteFaultApplies, NoneRepeats, AreGood, IsFirstNoteFault, at_line, no_entry}
use Rattle.machine_spec.specs.Machine.{IsAtPlace, unit}
use Rattle.notes_spec.specs.Scopes.{Vocabulary, Scope, Dialect, Plain, Framed, Paired, Strict, lenient, loose, is_free, reads_frames}
use Rattle.bilv_spec.proofs.Decided.{Decided, through, both, either, negation, same_text, same_number, is_less, is_at_most}
use Rattle.notes_spec.proofs.NotesDecided.{same_tokens, Said, is_said}
use Rattle.notes_spec.proofs.Modes.{strict_is_lenient, all_mode, all_second}
use Rattle.notes_spec.proofs.NotesSaid.{one_saying}
use Rattle.notes_spec.proofs.NotesTables.{is_false}
use Rattle.notes_spec.proofs.NotesFirst.{of_rank, ranked, entries_append, targets_append}
use Rattle.std.proofs.lemmas.List.Elements.{Contains-append_left, Contains-append_right}

-- an element of which something holds
abbrev Found : {X : Type 0} → (X → Type 0) → List X → Type 0
Found {X} P xs = (x : X) × Contains xs x × P x

into : {X : Type 0} (P : X → Type 0) (x : X) (xs : List X) → P x ⊎ Found P xs → Found P (x ∷ xs)
into P x xs (inl p) = (x, (0, omega arith, refl), p)
into P x xs (inr s) = (s.0, (suc s.1.0, omega (arith, s.1.1), s.1.2), s.2)

out_of : {X : Type 0} (P : X → Type 0) (x : X) (xs : List X) (y : X) → Contains (x ∷ xs) y → P y → P x ⊎ Found P xs
out_of P x xs y (zero, less, is) p = inl (subst P (sym is) p)
out_of P x xs y (suc k, less, is) p = inr (y, (k, omega (arith, less), is), p)

some_element : {X : Type 0} (P : X → Type 0) → ((x : X) → Decided (P x)) → (xs : List X) → Decided (Found P xs)
some_element P d [] = inr (λ s. omega (arith, s.1.1))
some_element P d (x ∷ xs) = through (into P x xs) (λ s. out_of P x xs s.0 s.1 s.2) (either (d x) (some_element P d xs))

contains : {X : Type 0} → ((x y : X) → Decided (x ≡ y)) → (xs : List X) (x : X) → Decided (Contains xs x)
contains {X} d xs x = through (λ s. subst (λ y. Contains xs y) s.2 s.1) (λ c. (x, c, refl)) (some_element (λ y. y ≡ x) (λ y. d y x) xs)

join : {X : Type 0} (P : X → Type 0) (x : X) (xs : List X) → P x → All P xs → All P (x ∷ xs)
join P x xs p all zero d less = p
join P x xs p all (suc k) d less = all k d (omega (arith, less))

every_one : {X : Type 0} (P : X → Type 0) → ((x : X) → Decided (P x)) → (xs : List X) → Decided (All P xs)
every_one P d [] = inl (λ k x less. absurd (omega (arith, less)))
every_one P d (x ∷ xs) = through (λ p. join P x xs p.0 p.1) (λ all. (all 0 x (omega arith), λ k y less. all (suc k) y (omega (arith, less))))
    (both (d x) (every_one P d xs))

-- the parts of a line's claim
aligned : (n : Bool) (a : ℕ) → Decided (IsAtPlace n a)
aligned n a = same_number (a % unit n) 0

are_aligned : (n : Bool) (s : Says) → Decided (AreAligned n s)
are_aligned n (EntryIs (At a)) = aligned n a
are_aligned n (EntryIs (Named w)) = inl tt
are_aligned n (AssertIs a e) = aligned n a
are_aligned n (TargetsAre a to) = both (aligned n a) (every_one (IsAtPlace n) (aligned n) to)
are_aligned n (InvariantIs a e) = aligned n a
are_aligned n (NeedIs a e) = aligned n a
are_aligned n (GiveIs a e) = aligned n a
are_aligned n (ModifiesAre a cs) = aligned n a
are_aligned n (WritesAre a e k) = aligned n a
are_aligned n x = inl tt

is_range : (s : Says) → Decided (IsRange s)
is_range (FixedIs low high) = is_at_most low high
is_range (WritesAre a e n) = both (is_at_most 1 n) (is_at_most n 256)
is_range x = inl tt

none : (xs : List Function) → Decided (xs ≡ [])
none [] = inl refl
none (x ∷ xs) = inr (λ e. let b : ⊥ = cc in b)

repeats : (before : List Says) (s : Says) → Decided (Repeats before s)
repeats before (EntryIs e) = negation (none (entries before))
repeats before (TargetsAre a to) = some_element (λ t. t.at ≡ a) (λ t. same_number t.at a) (targets_of before)
repeats before x = inr (λ r. r)

is_true : (b : Bool) → Decided (b ≡ true)
is_true true = inl refl
is_true false = inr (λ e. let b : ⊥ = cc in b)

is_version : (s : Scope) (x : Says) → Decided (IsVersion s x)
is_version s (VersionIs b) = both (is_true s.is_first) (is_true b)
is_version s x = inl tt

is_new : (s : Scope) (x : Says) → Decided (IsNew s x)
is_new s (ConstIs w v) = is_true (is_free s w)
is_new s x = inl tt

is_untrue : (b : Bool) → Decided (b ≡ false)
is_untrue false = inl refl
is_untrue true = inr (λ e. let b : ⊥ = cc in b)

alone_in : (d : Dialect) (b : Bool) → Decided (d ≡ Paired → b ≡ false)
alone_in Plain b = inl (λ e. let b : ⊥ = cc in absurd b)
alone_in Framed b = inl (λ e. let b : ⊥ = cc in absurd b)
alone_in Paired b = through (λ h e. h) (λ f. f refl) (is_untrue b)

is_alone : (s : Scope) (x : Says) → Decided (IsAlone s x)
is_alone s x = alone_in s.dialect (is_invariant x || is_of_contract x)

-- of the one thing that a line says
of_said : (s : Scope) (ts : List Token) (Q : Says → Type 0) → ((x : Says) → Decided (Q x)) → Decided (Said s ts) → Decided ((x : Says) × IsSaid s ts x × Q x)
of_said s ts Q d (inl p) = through (λ q. (p.0, p.1, q)) (λ r. subst Q (one_saying s ts r.0 p.0 r.1 p.1) r.2) (d p.0)
of_said s ts Q d (inr not_said) = inr (λ r. not_said (r.0, r.1))

large : (t : Token) → Decided ((v : ℕ) × (t ≡ NumberToken v) × (2 ^ 32 ≤ v))
large (NumberToken n) = through (λ le. (n, refl, le)) (λ p. let x = p.1 in let is : p.0 ≡ n = cc in subst (λ v. 2 ^ 32 ≤ v) is p.2) (is_at_most (2 ^ 32) n)
large t = inr (λ p. let x = p.1 in let y : ⊥ = cc in y)

line_word : (s : Scope) (t : Token) → Decided (IsLineWord s t)
line_word s (NameToken w) = contains same_text (line_words s.is_second (reads_frames s.dialect)) w
line_word s (NumberToken n) = inr (λ b. b)
line_word s (SignToken w) = inr (λ b. b)
line_word s BadByte = inr (λ b. b)
line_word s BadText = inr (λ b. b)

badly : (s : Scope) (ts : List Token) → Decided (BeginsBadly s ts)
badly s [] = inr (λ b. b)
badly s (t ∷ ts) = negation (line_word s t)

none_said : (s : Scope) (ts : List Token) → Decided ((x : Says) → IsSaid s ts x → ⊥)
none_said s ts = through (λ f x p. f (x, p)) (λ f p. f p.0 p.1) (negation (is_said s ts))

not_so : (s : Scope) (ts : List Token) (Q : Says → Type 0) → ((x : Says) → Decided (Q x)) → Decided ((x : Says) × IsSaid s ts x × (Q x → ⊥))
not_so s ts Q d = of_said s ts (λ x. Q x → ⊥) (λ x. negation (d x)) (is_said s ts)

applies : (s : Scope) (n : ℕ) (before : List Says) (text : List ℕ) (f : NoteFault) → Decided (NoteFaultApplies s n before text f)
applies s n before text LimitFault = either (is_less (line_limit s.is_second) n) (is_less 1024 (length text))
applies s n before text ByteFault = contains same_tokens (tokens_of text) BadByte
applies s n before text TokenFault = contains same_tokens (tokens_of text) BadText
applies s n before text NumberFault =
    through (λ s. (s.2.0, subst (λ t. Contains (tokens_of text) t) s.2.1 s.1, s.2.2)) (λ p. (NumberToken p.0, p.1, (p.0, refl, p.2)))
    (some_element (λ t. (v : ℕ) × (t ≡ NumberToken v) × (2 ^ 32 ≤ v)) large (tokens_of text))
applies s n before text DepthFault = is_less 64 (count_by (is_depth s.is_second) (tokens_of text))
applies s n before text WordFault = badly s (tokens_of text)
applies s n before text SyntaxFault = none_said (loose s) (tokens_of text)
applies s n before text NameFault = none_said (lenient s) (tokens_of text)
applies s n before text AlignFault = not_so (lenient s) (tokens_of text) (AreAligned s.narrow) (are_aligned s.narrow)
applies s n before text RangeFault = not_so (lenient s) (tokens_of text) IsRange is_range
applies s n before text EntryFault = of_said (lenient s) (tokens_of text) (Repeats before) (repeats before) (is_said (lenient s) (tokens_of text))
applies s n before text VersionFault = not_so (lenient s) (tokens_of text) (IsVersion s) (is_version s)
applies s n before text ConstFault = not_so (lenient s) (tokens_of text) (IsNew s) (is_new s)
applies s n before text AllFault = none_said s (tokens_of text)
applies s n before text MixedFault =
    of_said s (tokens_of text) (λ x. is_mixed (before ++ x ∷ []) ≡ true) (λ x. is_true (is_mixed (before ++ x ∷ []))) (is_said s (tokens_of text))
applies s n before text PairFault = not_so s (tokens_of text) (IsAlone s) (is_alone s)

-- the least fault below a rank
abbrev Least : (NoteFault → Type 0) → Type 0
Least P = (f : NoteFault) × P f × ((g : NoteFault) → note_fault_rank g < note_fault_rank f → P g → ⊥)

abbrev Free : (NoteFault → Type 0) → ℕ → Type 0
Free P k = (g : NoteFault) → note_fault_rank g < k → P g → ⊥

not_less : (a b : ℕ) → (a < b → ⊥) → b ≤ a
not_less a b p = grind arith

by_order : (P : NoteFault → Type 0) (k : ℕ) → Free P k → ((note_fault_rank (of_rank k) ≡ k) × P (of_rank k) → ⊥) → (g : NoteFault) →
    Decided (note_fault_rank g < k) → note_fault_rank g < suc k → P g → ⊥
by_order P k free f g (inl less) le q = free g less q
by_order P k free f g (inr above) le q =
    let is : note_fault_rank g ≡ k = let ge = not_less (note_fault_rank g) k above in omega (arith, ge, le) in
    let g_is : g ≡ of_rank k = sym (ranked g) ∙ ap of_rank is in
    f (sym (ap note_fault_rank g_is) ∙ is, subst P g_is q)

next_rank : (P : NoteFault → Type 0) (k : ℕ) → Free P k → Decided ((note_fault_rank (of_rank k) ≡ k) × P (of_rank k)) → Least P ⊎ Free P (suc k)
next_rank P k free (inl p) = inl (of_rank k, p.1, λ g less q. free g (omega (arith, less, p.0)) q)
next_rank P k free (inr f) = inr (λ g less q. by_order P k free f g (is_less (note_fault_rank g) k) less q)

onward : (P : NoteFault → Type 0) → ((f : NoteFault) → Decided (P f)) → (k : ℕ) → Least P ⊎ Free P k → Least P ⊎ Free P (suc k)
onward P d k (inl l) = inl l
onward P d k (inr free) = next_rank P k free (both (same_number (note_fault_rank (of_rank k)) k) (d (of_rank k)))

below : (P : NoteFault → Type 0) → ((f : NoteFault) → Decided (P f)) → (k : ℕ) → Least P ⊎ Free P k
below P d zero = inr (λ g less q. omega (arith, less))
below P d (suc k) = onward P d k (below P d k)

rank_below : (f : NoteFault) → note_fault_rank f < 17
rank_below LimitFault = lit< tt
rank_below ByteFault = lit< tt
rank_below TokenFault = lit< tt
rank_below NumberFault = lit< tt
rank_below DepthFault = lit< tt
rank_below WordFault = lit< tt
rank_below SyntaxFault = lit< tt
rank_below NameFault = lit< tt
rank_below AlignFault = lit< tt
rank_below RangeFault = lit< tt
rank_below EntryFault = lit< tt
rank_below VersionFault = lit< tt
rank_below ConstFault = lit< tt
rank_below AllFault = lit< tt
rank_below MixedFault = lit< tt
rank_below PairFault = lit< tt

least_or_none : (P : NoteFault → Type 0) → Least P ⊎ Free P 17 → Least P ⊎ ((f : NoteFault) → P f → ⊥)
least_or_none P (inl l) = inl l
least_or_none P (inr free) = inr (λ f p. free f (rank_below f) p)

less_if : (v : ℕ) → (2 ^ 32 ≤ v → ⊥) → v < 2 ^ 32
less_if v f = grind arith

surely : (P : Type 0) → Decided P → ((P → ⊥) → ⊥) → P
surely P (inl p) f = p
surely P (inr g) f = absurd (f g)

-- a line to which no fault applies says something new
record Good (s : Scope) (n : ℕ) (before : List Says) (text : List ℕ) : Type 0 where
  says : Says
  line : IsLine s text says
  new : Repeats before says → ⊥
  apart : is_mixed (before ++ says ∷ []) ≡ false
  count : n ≤ line_limit s.is_second

free_default : {X : Type 0} (xs : List X) (k : ℕ) (d e : X) → k < length xs → get_or xs k d ≡ get_or xs k e
free_default [] k d e less = absurd (omega (arith, less))
free_default (x ∷ xs) zero d e less = refl
free_default (x ∷ xs) (suc k) d e less = free_default xs k d e (omega (arith, less))

good_token : (ts : List Token) (t : Token) → Contains ts t → (Contains ts BadByte → ⊥) → (Contains ts BadText → ⊥) →
    ((v : ℕ) × Contains ts (NumberToken v) × (2 ^ 32 ≤ v) → ⊥) → IsGood t
good_token ts (NumberToken v) c f g h = less_if v (λ le. h (v, c, le))
good_token ts (NameToken w) c f g h = tt
good_token ts (SignToken w) c f g h = tt
good_token ts BadByte c f g h = f c
good_token ts BadText c f g h = g c

no_fault_good : (s : Scope) → s.mode ≡ Strict → (n : ℕ) (before : List Says) (text : List ℕ) → ((f : NoteFault) → NoteFaultApplies s n before text f → ⊥) →
    Decided (Said s (tokens_of text)) → Good s n before text
no_fault_good s strict n before text f (inr not_said) = absurd (f AllFault (λ x p. not_said (x, p)))
no_fault_good s strict n before text f (inl p) =
    let soft = strict_is_lenient s (tokens_of text) p.0 strict p.1 in
    record {
      says = p.0;
      line = record {
        short = not_less 1024 (length text) (λ less. f LimitFault (inr less));
        good = λ k d less. good_token (tokens_of text) (get_or (tokens_of text) k d)
            (k, less, free_default (tokens_of text) k (get_or (tokens_of text) k d) d less) (f ByteFault) (f TokenFault) (f NumberFault);
        depth = not_less 64 (count_by (is_depth s.is_second) (tokens_of text)) (f DepthFault);
        said = p.1;
        aligned = surely (AreAligned s.narrow p.0) (are_aligned s.narrow p.0) (λ g. f AlignFault (p.0, soft, g));
        range = surely (IsRange p.0) (is_range p.0) (λ g. f RangeFault (p.0, soft, g));
        version = surely (IsVersion s p.0) (is_version s p.0) (λ g. f VersionFault (p.0, soft, g));
        new = surely (IsNew s p.0) (is_new s p.0) (λ g. f ConstFault (p.0, soft, g));
        alone = surely (IsAlone s p.0) (is_alone s p.0) (λ g. f PairFault (p.0, p.1, g));
      };
      new = λ r. f EntryFault (p.0, soft, r);
      apart = is_false (is_mixed (before ++ p.0 ∷ [])) (λ mixed. f MixedFault (p.0, p.1, mixed));
      count = not_less (line_limit s.is_second) n (λ less. f LimitFault (inl less));
    }

-- one more good line
pub lines_and : (s : Scope) (texts : List (List ℕ)) (says : List Says) (text : List ℕ) (x : Says) → AreLines s texts says →
    IsLine (after_all s says) text x → AreLines s (texts ++ text ∷ []) (says ++ x ∷ [])
lines_and s [] [] text x p q = (q, tt)
lines_and s [] (y ∷ says) text x p q = absurd p
lines_and s (t ∷ texts) [] text x p q = absurd p
lines_and s (t ∷ texts) (y ∷ says) text x p q = (p.0, lines_and (after s y) texts says text x p.1 q)

pub none_and : (first says : List Says) (s : Says) → NoneRepeats first says → (Repeats (first ++ says) s → ⊥) → NoneRepeats first (says ++ s ∷ [])
none_and first [] s p new = (λ r. new (subst (λ l. Repeats l s) (sym (append-nil first)) r), tt)
none_and first (t ∷ says) s p new = (p.0, none_and (first ++ t ∷ []) says s p.1 (λ r. new (subst (λ l. Repeats l s) (append_assoc first (t ∷ []) says) r)))

good_and : (s : Scope) (texts : List (List ℕ)) (says : List Says) (text : List ℕ) → AreGood s texts says →
    (g : Good (after_all s says) (length texts + 1) says text) → AreGood s (texts ++ text ∷ []) (says ++ g.says ∷ [])
good_and s texts says text p g = record {
  count =
      let n = length-append texts (text ∷ []) in
      let c : length texts + 1 ≤ line_limit s.is_second = subst (λ b. length texts + 1 ≤ line_limit b) (all_second s says) g.count in
      omega (arith, n, c);
  lines = lines_and s texts says text g.says p.lines g.line;
  none_repeats = none_and [] says g.says p.none_repeats g.new;
  unmixed = g.apart;
}

-- the faults of the next line
abbrev Next : Scope → List (List ℕ) → List Says → List ℕ → NoteFault → Type 0
Next s good says text f = NoteFaultApplies (after_all s says) (length good + 1) says text f

-- lines that are all good, or the first that is not
data Judged (s : Scope) (texts : List (List ℕ)) : Type 0 where
  all_good : (says : List Says) → AreGood s texts says → Judged s texts
  bad_at : (good rest : List (List ℕ)) (bad : List ℕ) (says : List Says) → texts ≡ good ++ bad ∷ rest → AreGood s good says →
      Least (Next s good says bad) → Judged s texts

on_line : (s : Scope) (texts good rest : List (List ℕ)) (text : List ℕ) (says : List Says) → texts ≡ good ++ text ∷ rest → AreGood s good says →
    Least (Next s good says text) ⊎ ((f : NoteFault) → Next s good says text f → ⊥) →
    (((f : NoteFault) → Next s good says text f → ⊥) → Judged s texts) → Judged s texts
on_line s texts good rest text says is g (inl l) next = bad_at good rest text says is g l
on_line s texts good rest text says is g (inr f) next = next f

judge : (s : Scope) → s.mode ≡ Strict → (texts good rest : List (List ℕ)) (says : List Says) → texts ≡ good ++ rest → AreGood s good says → Judged s texts
judge s strict texts good [] says is g = all_good says (subst (λ l. AreGood s l says) (sym (is ∙ append-nil good)) g)
judge s strict texts good (text ∷ rest) says is g =
    on_line s texts good rest text says is g
    (least_or_none (Next s good says text) (below (Next s good says text) (applies (after_all s says) (length good + 1) says text) 17))
    (λ f.
    let next = no_fault_good (after_all s says) (all_mode s says ∙ strict) (length good + 1) says text f (is_said (after_all s says) (tokens_of text)) in
    judge s strict texts (good ++ text ∷ []) rest (says ++ next.says ∷ [])
    (is ∙ sym (append_assoc good (text ∷ []) rest)) (good_and s good says text g next))

-- functions that do not repeat
grown : (before : List Says) (s : Says) (fs : List Function) → entries (s ∷ []) ≡ [] → entries before ≡ fs → entries (before ++ s ∷ []) ≡ fs
grown before s fs silent is = entries_append before (s ∷ []) ∙ (ap (λ l. entries before ++ l) silent ∙ (append-nil (entries before) ∙ is))

no_entry_after : (before says : List Says) (e : Function) → entries before ≡ e ∷ [] → NoneRepeats before says → entries says ≡ []
no_entry_after before [] e is p = refl
no_entry_after before (EntryIs f ∷ says) e is p = absurd (p.0 (λ empty. let b : ⊥ = cc in b))
no_entry_after before (x ∷ says) e is p = no_entry_after (before ++ x ∷ []) says e (grown before x (e ∷ []) refl is) p.1

one_entry : (before says : List Says) (e : Function) (es : List Function) → entries before ≡ [] → NoneRepeats before says → entries says ≡ e ∷ es → es ≡ []
one_entry before [] e es is p has = absurd (let b : ⊥ = cc in b)
one_entry before (EntryIs f ∷ says) e es is p has =
    let rest : es ≡ entries says = cc in
    rest ∙ no_entry_after (before ++ EntryIs f ∷ []) says f (entries_append before (EntryIs f ∷ []) ∙ ap (λ l. l ++ f ∷ []) is) p.1
one_entry before (x ∷ says) e es is p has = one_entry (before ++ x ∷ []) says e es (grown before x [] refl is) p.1 has

-- targets that do not repeat
kept : (before : List Says) (s : Says) (t : Targets) → Contains (targets_of before) t → Contains (targets_of (before ++ s ∷ [])) t
kept before s t c = subst (λ l. Contains l t) (sym (targets_append before (s ∷ []))) (Contains-append_left (targets_of before) (targets_of (s ∷ [])) t c)

added : (before : List Says) (a : ℕ) (to : List ℕ) → Contains (targets_of (before ++ TargetsAre a to ∷ [])) (record { at = a; to = to })
added before a to =
    subst (λ l. Contains l (record { at = a; to = to })) (sym (targets_append before (TargetsAre a to ∷ [])))
    (Contains-append_right (targets_of before) (record { at = a; to = to } ∷ []) (record { at = a; to = to }) (0, omega arith, refl))

apart_after : (before says : List Says) (t u : Targets) → NoneRepeats before says → Contains (targets_of before) t → Contains (targets_of says) u →
    t.at ≡ u.at → ⊥
apart_after before [] t u p c d same_at = omega (arith, d.1)
apart_after before (TargetsAre a to ∷ says) t u p c (zero, less, is) same_at = p.0 (t, c, same_at ∙ sym (ap (λ t. t.at) is))
apart_after before (TargetsAre a to ∷ says) t u p c (suc k, less, is) same_at =
    apart_after (before ++ TargetsAre a to ∷ []) says t u p.1 (kept before (TargetsAre a to) t c) (k, omega (arith, less), is) same_at
apart_after before (x ∷ says) t u p c d same_at = apart_after (before ++ x ∷ []) says t u p.1 (kept before x t c) d same_at

cons_pairs : (x : Targets) (xs : List Targets) → ((u : Targets) → Contains xs u → x.at ≡ u.at → ⊥) → AllPairs (λ s t. s.at ≢ t.at) xs →
    AllPairs (λ s t. s.at ≢ t.at) (x ∷ xs)
cons_pairs x xs f all zero zero d less below = absurd (omega (arith, less))
cons_pairs x xs f all zero (suc j) d less below =
    let b : j < length xs = omega (arith, below) in f (get_or xs j d) (j, b, free_default xs j (get_or xs j d) d b)
cons_pairs x xs f all (suc i) zero d less below = absurd (omega (arith, less))
cons_pairs x xs f all (suc i) (suc j) d less below = all i j d (omega (arith, less)) (omega (arith, below))

pub pairs : (before says : List Says) → NoneRepeats before says → AllPairs (λ s t. s.at ≢ t.at) (targets_of says)
pairs before [] p = λ i j d less below. absurd (omega (arith, below))
pairs before (TargetsAre a to ∷ says) p =
    cons_pairs (record { at = a; to = to }) (targets_of says)
    (λ u c. apart_after (before ++ TargetsAre a to ∷ []) says (record { at = a; to = to }) u p.1 (added before a to) c) (pairs (before ++ TargetsAre a to
    ∷ []) says p.1)
pairs before (x ∷ says) p = pairs (before ++ x ∷ []) says p.1

-- good lines are notes, unless no line names the function
abbrev pub Outcome : Vocabulary → List ℕ → Type 0
Outcome v text = ((m : Notes) × IsNotesText v text m) ⊎ ((line : ℕ) × (f : NoteFault) × IsFirstNoteFault v text line f)

by_entries : (v : Vocabulary) (text : List ℕ) (says : List Says) → AreGood (begin_of v text) (lines_of text) says → (fs : List Function) → entries says ≡ fs →
    Outcome v text
by_entries v text says g [] is = inr (length (lines_of text) + 1, EntryFault, no_entry says g is)
by_entries v text says g (e ∷ es) is =
    inl (
      record {
        entry = e;
        requires = requires_of 1 says;
        ensures = ensures_of 1 says;
        asserts = asserts_of 1 says;
        targets = targets_of says;
        fixed = fixed_of
            says;
      },
      record {
        short = g.count;
        says = says;
        lines = g.lines;
        unmixed = g.unmixed;
        notes_are = (is ∙ ap (λ l. e ∷ l) (one_entry [] says e es refl g.none_repeats is), refl, refl, refl, refl, refl, pairs [] says g.none_repeats);
      },
    )

of_judged : (v : Vocabulary) (text : List ℕ) → Judged (begin_of v text) (lines_of text) → Outcome v text
of_judged v text (all_good says g) = by_entries v text says g (entries says) refl
of_judged v text (bad_at good rest bad says is g l) = inr (length good + 1, l.0, at_line good rest bad says is g l.1 l.2)

none_yet : (s : Scope) → AreGood s [] []
none_yet s = record { count = omega arith; lines = tt; none_repeats = tt; unmixed = refl }

-- a text is notes, or it has a first fault
pub one_of_both : (v : Vocabulary) (text : List ℕ) → Outcome v text
one_of_both v text = of_judged v text (judge (begin_of v text) refl (lines_of text) [] (lines_of text) [] refl (none_yet (begin_of v text)))
