-- Notes have no first fault, and a text has one at most.
use Rattle.std.proofs.Common.{◌≡◌, ◌≢◌, ℕ, suc, ◌<◌, ◌≤◌, ◌+◌, ◌^◌, refl, ap, sym, ◌∙◌, subst, arith, List, [], ◌∷◌, ◌++◌, Bool, true, false, length, get_or, All, AllPairs, Contains, inl, inr, append_assoc, append-nil, length-append}
use Rattle.std.proofs.lemmas.List.{get_or_append_left, get_or-append-add}
use Rattle.std.proofs.lemmas.List.Elements.{Contains-append_left, Contains-append_right}
use Rattle.bilv_spec.specs.Notes.{Notes, At, Named, Function, Targets}
use Rattle.word_spec.specs.Tokens.{Token, NumberToken, NameToken, BadByte, BadText, tokens_of}
use Rattle.notes_spec.specs.NotesGrammar.{lines_of, IsGood, Says, Nothing, EntryIs, RequireIs, EnsureIs, AssertIs, TargetsAre, FixedIs, VersionIs, ConstIs, LoadedIs, InvariantIs, NeedIs, GiveIs, ModifiesAre, WritesAre, MayFrame, IsSaid, IsLine, AreLines, AreAligned, IsRange, IsVersion, IsNew, IsAlone, is_mixed, after, after_all, line_limit, IsNotesText, entries, targets_of}
use Rattle.notes_spec.specs.NotesFaults.{NoteFault, LimitFault, ByteFault, TokenFault, NumberFault, DepthFault, WordFault, SyntaxFault, NameFault, AlignFault, RangeFault, EntryFault, VersionFault, ConstFault, AllFault, MixedFault, PairFault, note_fault_rank, frame_words, line_words_first, line_words, begin_of, BeginsBadly, Repeats, NoteFaultApplies, NoneRepeats, AreGood, IsFirstNoteFault, at_line, no_entry}
use Rattle.notes_spec.specs.Scopes.{Vocabulary, Scope, Strict, lenient, reads_frames}
use Rattle.notes_spec.proofs.Cuts.{Cuts, same, earlier, later, cuts}
use Rattle.notes_spec.proofs.Modes.{strict_is_lenient, said_loosely, all_mode, all_second}
use Rattle.notes_spec.proofs.NotesSaid.{one_saying, same_says}
use Rattle.notes_spec.proofs.Mixed.{mixed_before}

-- what says something, begins with one of the words
second_in : (framed : Bool) (w : List ℕ) → Contains (line_words true false) w → Contains (line_words true framed) w
second_in false w c = c
second_in true w c = Contains-append_left (line_words true false) frame_words w c

word_in : (b framed : Bool) (w : List ℕ) → Contains line_words_first w → Contains (line_words b framed) w
word_in false framed w c = c
word_in true framed w c = second_in framed w (suc (suc c.0), omega (arith, c.1), c.2)

frame_in : (w : List ℕ) → Contains frame_words w → Contains (line_words true true) w
frame_in w c = Contains-append_right (line_words true false) frame_words w c

-- a line begins with one of its words
begins_by : (s : Scope) (ts : List Token) (w : List ℕ) (rest : List Token) → ts ≡ NameToken w ∷ rest →
    Contains (line_words s.is_second (reads_frames s.dialect)) w → BeginsBadly s ts → ⊥
begins_by s ts w rest is c b = subst (BeginsBadly s) is b c

of_first : (s : Scope) (ts : List Token) (w : List ℕ) (rest : List Token) → ts ≡ NameToken w ∷ rest → Contains line_words_first w → BeginsBadly s ts → ⊥
of_first s ts w rest is c b = begins_by s ts w rest is (word_in s.is_second (reads_frames s.dialect) w c) b

of_second : (s : Scope) (ts : List Token) (w : List ℕ) (rest : List Token) → ts ≡ NameToken w ∷ rest → s.is_second ≡ true →
    Contains (line_words true false) w → BeginsBadly s ts → ⊥
of_second s ts w rest is two c b =
    begins_by s ts w rest is
    (subst (λ x. Contains (line_words x (reads_frames s.dialect)) w) (sym two) (second_in (reads_frames s.dialect) w c)) b

of_frame : (s : Scope) (ts : List Token) (w : List ℕ) (rest : List Token) → ts ≡ NameToken w ∷ rest → MayFrame s → Contains frame_words w →
    BeginsBadly s ts → ⊥
of_frame s ts w rest is may c b =
    begins_by s ts w rest is
    (subst (λ x. Contains (line_words x (reads_frames s.dialect)) w) (sym may.0)
    (subst (λ y. Contains (line_words true y) w) (sym may.1) (frame_in w c))) b

pub begins_well : (s : Scope) (ts : List Token) (x : Says) → IsSaid s ts x → BeginsBadly s ts → ⊥
begins_well s ts Nothing p b = subst (BeginsBadly s) p b
begins_well s ts (EntryIs (At a)) (t, p, n) b = of_first s ts _ _ p (0, omega arith, refl) b
begins_well s ts (EntryIs (Named w)) p b = of_first s ts _ _ p (1, omega arith, refl) b
begins_well s ts (RequireIs e) p b = of_first s ts _ _ p.1 (2, omega arith, refl) b
begins_well s ts (EnsureIs e) p b = of_first s ts _ _ p.1 (3, omega arith, refl) b
begins_well s ts (AssertIs a e) (t, us, p, n, q) b = of_first s ts _ _ p (4, omega arith, refl) b
begins_well s ts (TargetsAre a to) (t, us, p, n, q, some) b = of_first s ts _ _ p (5, omega arith, refl) b
begins_well s ts (FixedIs low high) (t, u, p, n, m) b = of_first s ts _ _ p (6, omega arith, refl) b
begins_well s ts (VersionIs v) p b = of_first s ts _ _ p.1 (7, omega arith, refl) b
begins_well s ts (ConstIs w v) p b = of_second s ts _ _ p.0 p.1 (0, omega arith, refl) b
begins_well s ts LoadedIs p b = of_second s ts _ _ p.0 p.1 (1, omega arith, refl) b
begins_well s ts (InvariantIs a e) ((t, us, p, n, q), may) b = of_frame s ts _ _ p may (0, omega arith, refl) b
begins_well s ts (NeedIs a e) ((t, us, p, n, q), may) b = of_frame s ts _ _ p may (1, omega arith, refl) b
begins_well s ts (GiveIs a e) ((t, us, p, n, q), may) b = of_frame s ts _ _ p may (2, omega arith, refl) b
begins_well s ts (ModifiesAre a cs) (t, us, p, n, changed, some, may) b = of_frame s ts _ _ p may (3, omega arith, refl) b
begins_well s ts (WritesAre a e n) (t, u, us, p, m, q, k, may) b = of_frame s ts _ _ p may (4, omega arith, refl) b

-- each token of a line is good
pub is_good : (ts : List Token) (t : Token) → All IsGood ts → Contains ts t → IsGood t
is_good ts t all c = subst IsGood c.2 (all c.0 t c.1)

-- what the line says leniently is what it says
only : (s : Scope) → s.mode ≡ Strict → (text : List ℕ) (x y : Says) → IsLine s text x → IsSaid (lenient s) (tokens_of text) y → x ≡ y
only s strict text x y line said = one_saying (lenient s) (tokens_of text) x y (strict_is_lenient s (tokens_of text) x strict line.said) said

-- no fault applies to a line without fault
pub not_faulty : (s : Scope) → s.mode ≡ Strict → (n : ℕ) (before : List Says) (text : List ℕ) (x : Says) (f : NoteFault) →
    n ≤ line_limit s.is_second → IsLine s text x → (Repeats before x → ⊥) → is_mixed (before ++ x ∷ []) ≡ false → NoteFaultApplies s n before text f → ⊥
not_faulty s strict n before text x LimitFault le line new apart (inl above) = omega (arith, le, above)
not_faulty s strict n before text x LimitFault le line new apart (inr above) = omega (arith, line.short, above)
not_faulty s strict n before text x ByteFault le line new apart a = is_good (tokens_of text) BadByte line.good a
not_faulty s strict n before text x TokenFault le line new apart a = is_good (tokens_of text) BadText line.good a
not_faulty s strict n before text x NumberFault le line new apart a =
    let g : a.0 < 2 ^ 32 = is_good (tokens_of text) (NumberToken a.0) line.good a.1 in omega (arith, g, a.2)
not_faulty s strict n before text x DepthFault le line new apart a = omega (arith, line.depth, a)
not_faulty s strict n before text x WordFault le line new apart a = begins_well s (tokens_of text) x line.said a
not_faulty s strict n before text x SyntaxFault le line new apart a = let r = said_loosely s (tokens_of text) x line.said in a r.0 r.1
not_faulty s strict n before text x NameFault le line new apart a = a x (strict_is_lenient s (tokens_of text) x strict line.said)
not_faulty s strict n before text x AlignFault le line new apart a = a.2 (subst (AreAligned s.narrow) (only s strict text x a.0 line a.1) line.aligned)
not_faulty s strict n before text x RangeFault le line new apart a = a.2 (subst IsRange (only s strict text x a.0 line a.1) line.range)
not_faulty s strict n before text x EntryFault le line new apart a = new (subst (λ y. Repeats before y) (sym (only s strict text x a.0 line a.1)) a.2)
not_faulty s strict n before text x VersionFault le line new apart a = a.2 (subst (IsVersion s) (only s strict text x a.0 line a.1) line.version)
not_faulty s strict n before text x ConstFault le line new apart a = a.2 (subst (IsNew s) (only s strict text x a.0 line a.1) line.new)
not_faulty s strict n before text x AllFault le line new apart a = a x line.said
not_faulty s strict n before text x MixedFault le line new apart a =
    let is = one_saying s (tokens_of text) x a.0 line.said a.1 in
    let mixed : is_mixed (before ++ x ∷ []) ≡ true = subst (λ y. is_mixed (before ++ y ∷ []) ≡ true) (sym is) a.2 in
    let b : false ≡ true = sym apart ∙ mixed in cc
not_faulty s strict n before text x PairFault le line new apart a =
    a.2 (subst (IsAlone s) (one_saying s (tokens_of text) x a.0 line.said a.1) line.alone)

-- a line among lines
record Among (s : Scope) (good rest : List (List ℕ)) (bad : List ℕ) (all : List Says) : Type 0 where
  before : List Says
  says : Says
  behind : List Says
  all_are : all ≡ before ++ says ∷ behind
  good_are : AreLines s good before
  line : IsLine (after_all s before) bad says

among : (s : Scope) (good rest : List (List ℕ)) (bad : List ℕ) (all : List Says) → AreLines s (good ++ bad ∷ rest) all → Among s good rest bad all
among s [] rest bad [] p = absurd p
among s [] rest bad (x ∷ all) p = record { before = []; says = x; behind = all; all_are = refl; good_are = tt; line = p.0 }
among s (text ∷ good) rest bad [] p = absurd p
among s (text ∷ good) rest bad (x ∷ all) p =
    let r = among (after s x) good rest bad all p.1 in
    record { before = x ∷ r.before; says = r.says; behind = r.behind; all_are = ap (λ l. x ∷ l) r.all_are; good_are = (p.0, r.good_are); line = r.line }

-- the line after such lines repeats none of them
new_line : (first before : List Says) (s : Says) (behind : List Says) → NoneRepeats first (before ++ s ∷ behind) → Repeats (first ++ before) s → ⊥
new_line first [] s behind p r = p.0 (subst (λ l. Repeats l s) (append-nil first) r)
new_line first (t ∷ before) s behind p r =
    new_line (first ++ t ∷ []) before s behind p.1 (subst (λ l. Repeats l s) (sym (append_assoc first (t ∷ []) before)) r)

-- no line among good ones is the first faulty one
no_fault : (s : Scope) → s.mode ≡ Strict → (texts good rest : List (List ℕ)) (bad : List ℕ) (all says : List Says) (f : NoteFault) →
    texts ≡ good ++ bad ∷ rest → AreGood s texts all → AreLines s good says → NoteFaultApplies (after_all s says) (length good + 1) says bad f → ⊥
no_fault s strict texts good rest bad all says f is g lines a =
    let r = among s good rest bad all (subst (λ l. AreLines s l all) is g.lines) in
    let new = new_line [] r.before r.says r.behind (subst (λ l. NoneRepeats [] l) r.all_are g.none_repeats) in
    let count : length texts ≡ length good + suc (length rest) = ap length is ∙ length-append good (bad ∷ rest) in
    let le : length good + 1 ≤ line_limit s.is_second = omega (arith, count, g.count) in
    not_faulty (after_all s r.before) (all_mode s r.before ∙ strict) (length good + 1) r.before bad r.says f
    (subst (λ b. length good + 1 ≤ line_limit b) (sym (all_second s r.before)) le) r.line new
    (mixed_before r.before r.says r.behind (subst (λ l. is_mixed l ≡ false) r.all_are g.unmixed))
    (subst (λ l. NoteFaultApplies (after_all s l) (length good + 1) l bad f) (same_says s good says r.before lines r.good_are) a)

pub entries_append : (xs ys : List Says) → entries (xs ++ ys) ≡ entries xs ++ entries ys
entries_append [] ys = refl
entries_append (EntryIs e ∷ xs) ys = ap (λ l. e ∷ l) (entries_append xs ys)
entries_append (x ∷ xs) ys = entries_append xs ys

pub targets_append : (xs ys : List Says) → targets_of (xs ++ ys) ≡ targets_of xs ++ targets_of ys
targets_append [] ys = refl
targets_append (TargetsAre a to ∷ xs) ys = ap (λ l. record { at = a; to = to } ∷ l) (targets_append xs ys)
targets_append (x ∷ xs) ys = targets_append xs ys

-- an only element has none before it
none_before : (xs ys : List Function) (e only : Function) → xs ++ e ∷ ys ≡ only ∷ [] → xs ≡ []
none_before [] ys e only is = refl
none_before (x ∷ []) ys e only is = absurd (let b : ⊥ = cc in b)
none_before (x ∷ y ∷ xs) ys e only is = absurd (let b : ⊥ = cc in b)

-- an element of those before one is another
apart_before : (xs ys : List Targets) (t u : Targets) → AllPairs (λ s t. s.at ≢ t.at) (xs ++ u ∷ ys) → Contains xs t → t.at ≡ u.at → ⊥
apart_before xs ys t u all c same_at =
    let at_t : get_or (xs ++ u ∷ ys) c.0 t ≡ t = get_or_append_left xs (u ∷ ys) t c.0 c.1 ∙ c.2 in
    let at_u : get_or (xs ++ u ∷ ys) (length xs + 0) t ≡ u = get_or-append-add xs (u ∷ ys) 0 t in
    let count : length (xs ++ u ∷ ys) ≡ length xs + suc (length ys) = length-append xs (u ∷ ys) in
    all c.0 (length xs + 0) t (omega (arith, c.1)) (omega (arith, count)) (ap (λ t. t.at) at_t ∙ (same_at ∙ sym (ap (λ t. t.at) at_u)))

-- what notes say is not said twice
new_say : (before behind : List Says) (s : Says) (only : Function) → entries (before ++ s ∷ behind) ≡ only ∷ [] →
    AllPairs (λ s t. s.at ≢ t.at) (targets_of (before ++ s ∷ behind)) → Repeats before s → ⊥
new_say before behind (EntryIs e) only is all r = r (none_before (entries before) (entries behind) e only
    (sym (entries_append before (EntryIs e ∷ behind)) ∙ is))
new_say before behind (TargetsAre a to) only is all r =
    apart_before (targets_of before) (targets_of behind) r.0 (record { at = a; to = to })
    (subst (λ l. AllPairs (λ s t. s.at ≢ t.at) l) (targets_append before (TargetsAre a to ∷ behind)) all) r.1 r.2
new_say before behind x only is all r = r

none_repeat : (before says : List Says) (only : Function) → entries (before ++ says) ≡ only ∷ [] → AllPairs (λ s t. s.at ≢ t.at) (targets_of (before ++ says)) →
    NoneRepeats before says
none_repeat before [] only is all = tt
none_repeat before (s ∷ says) only is all =
    let assoc = append_assoc before (s ∷ []) says in (
      new_say before says s only is all,
      none_repeat (before ++ s ∷ []) says only (ap entries assoc ∙ is) (subst (λ l. AllPairs (λ s t. s.at ≢ t.at) (targets_of l)) (sym assoc) all),
    )

-- the lines of notes are good
notes_are_good : (v : Vocabulary) (text : List ℕ) (m : Notes) (p : IsNotesText v text m) → AreGood (begin_of v text) (lines_of text) p.says
notes_are_good v text m p =
    record {
      count = p.short;
      lines = p.lines;
      none_repeats = none_repeat [] p.says m.entry p.notes_are.0
          (subst (λ l. AllPairs (λ s t. s.at ≢ t.at) l) (sym p.notes_are.4) p.notes_are.6);
      unmixed = p.unmixed;
    }

-- good lines that name no function, are not those of notes
no_function : (says : List Says) (e : Function) → entries says ≡ e ∷ [] → entries says ≡ [] → ⊥
no_function says e p q = cc

pub never_both : (v : Vocabulary) (text : List ℕ) (m : Notes) (line : ℕ) (f : NoteFault) →
    IsNotesText v text m → IsFirstNoteFault v text line f → ⊥
never_both v text m line f p (at_line good rest bad says is g a least) =
    no_fault (begin_of v text) refl (lines_of text) good rest bad p.says says f is (notes_are_good v text m p) g.lines a
never_both v text m line f p (no_entry says g none) =
    no_function says m.entry
    (subst (λ l. entries l ≡ m.entry ∷ []) (same_says (begin_of v text) (lines_of text) p.says says p.lines g.lines) p.notes_are.0) none

-- the fault of a rank
abbrev pub of_rank : ℕ → NoteFault
of_rank n =
    get_or (EntryFault ∷ LimitFault ∷ ByteFault ∷ TokenFault ∷ NumberFault ∷ DepthFault ∷ WordFault ∷ SyntaxFault ∷ NameFault ∷ AlignFault ∷ RangeFault
    ∷ EntryFault ∷ VersionFault ∷ ConstFault ∷ AllFault ∷ MixedFault ∷ PairFault ∷ []) n EntryFault

pub ranked : (f : NoteFault) → of_rank (note_fault_rank f) ≡ f
ranked LimitFault = refl
ranked ByteFault = refl
ranked TokenFault = refl
ranked NumberFault = refl
ranked DepthFault = refl
ranked WordFault = refl
ranked SyntaxFault = refl
ranked NameFault = refl
ranked AlignFault = refl
ranked RangeFault = refl
ranked EntryFault = refl
ranked VersionFault = refl
ranked ConstFault = refl
ranked AllFault = refl
ranked MixedFault = refl
ranked PairFault = refl

same_rank : (a b : ℕ) → (a < b → ⊥) → (b < a → ⊥) → a ≡ b
same_rank a b p q = grind arith

-- two least faults of one line
one_least : (P : NoteFault → Type 0) (f g : NoteFault) → P f → P g → ((h : NoteFault) → note_fault_rank h < note_fault_rank f → P h → ⊥) →
    ((h : NoteFault) → note_fault_rank h < note_fault_rank g → P h → ⊥) → f ≡ g
one_least P f g p q least other =
    sym (ranked f) ∙ (ap of_rank (same_rank (note_fault_rank f) (note_fault_rank g) (λ less. other f less p) (λ less. least g less q)) ∙ ranked g)

-- what is told of a line at which a text is cut
abbrev LeastAt : Scope → List (List ℕ) → List Says → List ℕ → NoteFault → Type 0
LeastAt s good says bad f =
    NoteFaultApplies (after_all s says) (length good + 1) says bad f × ((g : NoteFault) → note_fault_rank g < note_fault_rank f →
    NoteFaultApplies (after_all s says) (length good + 1) says bad g → ⊥)

at_cuts : (s : Scope) → s.mode ≡ Strict → (good rest fine others : List (List ℕ)) (bad worse : List ℕ) (says told : List Says) (f g : NoteFault) →
    AreGood s good says → AreGood s fine told → LeastAt s good says bad f → LeastAt s fine told worse g →
    Cuts good bad rest fine worse others → (length good + 1 ≡ length fine + 1) × (f ≡ g)
at_cuts s strict good rest fine others bad worse says told f g p q a b (same i j k) =
    let lines = same_says s good says told p.lines (subst (λ l. AreLines s l told) (sym i) q.lines) in
    let c : LeastAt s good says bad g =
    subst (λ l. LeastAt s l says bad g) (sym i) (subst (λ l. LeastAt s fine l bad g) (sym lines) (subst (λ l. LeastAt s fine told l g) (sym j) b)) in
    (ap (λ l. length l + 1) i, one_least (NoteFaultApplies (after_all s says) (length good + 1) says bad) f g a.0 c.0 a.1 c.1)
at_cuts s strict good rest fine others bad worse says told f g p q a b (earlier zs i j) =
    absurd (no_fault s strict fine good zs bad told says f i q p.lines a.0)
at_cuts s strict good rest fine others bad worse says told f g p q a b (later zs i j) =
    absurd (no_fault s strict good fine zs worse says told g i p q.lines b.0)

pub one_fault : (v : Vocabulary) (text : List ℕ) (line other : ℕ) (f g : NoteFault) →
    IsFirstNoteFault v text line f → IsFirstNoteFault v text other g → (line ≡ other) × (f ≡ g)
one_fault v text line other f g (at_line good rest bad says is p a least) (at_line fine others worse told as_is q b smallest) =
    at_cuts (begin_of v text) refl good rest fine others bad worse says told f g p q (a, least) (b, smallest)
    (cuts good bad rest fine worse others (sym is ∙ as_is))
one_fault v text line other f g (at_line good rest bad says is p a least) (no_entry told q none) =
    absurd (no_fault (begin_of v text) refl (lines_of text) good rest bad told says f is q p.lines a)
one_fault v text line other f g (no_entry told q none) (at_line good rest bad says is p a least) =
    absurd (no_fault (begin_of v text) refl (lines_of text) good rest bad told says g is q p.lines a)
one_fault v text line other f g (no_entry says p none) (no_entry told q nothing) = (refl, refl)
