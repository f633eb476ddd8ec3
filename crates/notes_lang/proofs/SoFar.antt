-- Lines, one by one.
use Rattle.std.proofs.Common.{◌≡◌, ℕ, ◌≤◌, ◌+◌, refl, ap, sym, ◌∙◌, subst, arith, List, [], ◌∷◌, ◌++◌, length, append_assoc, length-append, Ok, Err, Bool, true, false, map, drop, take, ◌-◌}
use Rattle.notes_spec.specs.NotesGrammar.{Says, Nothing, ConstIs, IsLine, AreLines, after, after_all, is_second, line_limit, lines_of}
use Rattle.notes_spec.specs.Scopes.{Vocabulary, Scope, Constant, Strict}
use Rattle.std.specs.Prelude.{not, ◌&&◌}
use Rattle.notes_spec.specs.NotesFaults.{NoteFault, NoteFaultApplies, Repeats, IsFirstNoteFault, at_line, begin_of}
use Rattle.notes_spec.proofs.Modes.{after_append, all_second}
use Rattle.notes_spec.proofs.NotesOutcome.{lines_and, none_and}
use Rattle.notes_lang.specs.declared.drafts.Draft.{Draft}
use Rattle.std.specs.Borrow.{Bor}
use Rattle.notes_lang.specs.declared.scopes.Constant.{Constant as CodeConstant}
use Rattle.notes_lang.specs.Scoping.{constant_of, text_of}
use Rattle.notes_lang.proofs.FirstLines.{rest_is}
use Rattle.notes_lang.specs.declared.faults.FaultKind.{FaultKind}
use Rattle.notes_lang.specs.declared.sayings.Says.{Says as CodeSays}
use Rattle.notes_lang.specs.Judging.{IsLeast, IsNext, fault_of}
use Rattle.notes_lang.specs.Drafting.{IsDraft}
use Rattle.notes_lang.specs.Parsing.{IsSoFar, scope_at}
use Rattle.notes_lang.specs.Saying.{consts_after, is_something, says_of}

says_length : (s : Scope) (texts : List (List ℕ)) (says : List Says) → AreLines s texts says → length says ≡ length texts
says_length s [] [] p = refl
says_length s [] (x ∷ says) p = absurd p
says_length s (t ∷ texts) [] p = absurd p
says_length s (t ∷ texts) (x ∷ says) p = let e = says_length (after s x) texts says p.1 in omega (arith, e)

never : (f : Bool) → (f && false) ≡ false
never true = refl
never false = refl

-- what words mean after a line, by its parts
pub scope_after : (v : Vocabulary) (consts : List Constant) (b f : Bool) (x : Says) →
    scope_at v (consts_after consts x) b (f && not (is_something x)) ≡ after (scope_at v consts b f) x
scope_after v consts b f Nothing = ap (scope_at v consts b) (kept f) where
  kept : (f : Bool) → (f && true) ≡ f
  kept true = refl
  kept false = refl
scope_after v consts b f (ConstIs w n) = ap (scope_at v (consts ++ record { word = w; number = n } ∷ []) b) (never f)
scope_after v consts b f x = ap (scope_at v consts b) (never f)

-- what words mean at a line, by the constants that the code has
abbrev pub scope_now : Vocabulary → List CodeConstant → List (Bor (List ℕ)) → (is_second is_first : Bool) → Scope
scope_now v cs ws b f = record {
  names = v.names;
  narrow = v.narrow;
  dialect = v.dialect;
  consts = map constant_of cs;
  bound = map text_of ws;
  is_second = b;
  is_first = f;
  mode = Strict;
}

scope_same : (v : Vocabulary) (cs ds : List CodeConstant) (ws : List (Bor (List ℕ))) (b f : Bool) → cs ≡ ds → ws ≡ [] →
    scope_at v (map constant_of ds) b f ≡ scope_now v cs ws b f
scope_same v cs ds ws b f same none =
    sym (ap (λ cs. scope_now v cs ws b f) same ∙ ap (λ ws. scope_now v ds ws b f) none)

pub so_far_at : (v : Vocabulary) (text : List ℕ) (at line : ℕ) (d : Draft) (cs ds : List CodeConstant) (ws : List (Bor (List ℕ))) (b f : Bool) →
    cs ≡ ds → ws ≡ [] → IsSoFar v text (drop at text) line d (scope_at v (map constant_of ds) b f) →
    IsSoFar v text (take (length text - at) (drop at text)) line d (scope_now v cs ws b f)
so_far_at v text at line d cs ds ws b f same none p =
    subst (λ rest. IsSoFar v text rest line d (scope_now v cs ws b f)) (sym (rest_is text at))
    (subst (λ s. IsSoFar v text (drop at text) line d s) (scope_same v cs ds ws b f same none) p)

pub scope_then : (v : Vocabulary) (cs ds : List CodeConstant) (ws : List (Bor (List ℕ))) (es : List Constant) (b f g : Bool) (x : Says) →
    cs ≡ ds → ws ≡ [] → es ≡ consts_after (map constant_of ds) x → g ≡ (f && not (is_something x)) →
    scope_at v es b g ≡ after (scope_now v cs ws b f) x
scope_then v cs ds ws es b f g x same none consts first =
    ap (λ es. scope_at v es b g) consts
    ∙ (ap (λ g. scope_at v (consts_after (map constant_of ds) x) b g) first
    ∙ (scope_after v (map constant_of ds) b f x ∙ ap (λ s. after s x) (scope_same v cs ds ws b f same none)))

module _ (v : Vocabulary) (text rest first behind : List ℕ) (line : ℕ) (d : Draft) (s : Scope)
    (p : IsSoFar v text rest line d s) (is : lines_of rest ≡ first ∷ lines_of behind) where
  abbrev Least : ℕ → Scope → NoteFault → Type 0
  Least n s f = IsLeast (NoteFaultApplies s n p.read.says first) f

  least_here : (f : NoteFault) → Least line s f → Least (length p.texts + 1) (after_all (begin_of v text) p.read.says) f
  least_here f l = subst (λ n. Least n (after_all (begin_of v text) p.read.says) f) p.number (subst (λ s. Least line s f) p.scope_is l)

  -- the next line has a fault
  pub faulty : (k : FaultKind) → ((earlier : List Says) → IsDraft earlier d → IsNext s line first earlier (Err k)) → IsFirstNoteFault v text line (fault_of k)
  faulty k least =
      let l = least_here (fault_of k) (least p.read.says p.read.is) in
      subst (λ n. IsFirstNoteFault v text n (fault_of k)) (sym p.number)
      (at_line p.texts (lines_of behind) first p.read.says (p.split ∙ ap (λ ls. p.texts ++ ls) is) p.read.good l.0 l.1)

  -- it is good
  pub goes_on : (x : CodeSays) (e : Draft) (t : Scope) (new : List ℕ) → ((earlier : List Says) → IsDraft earlier d → IsNext s line first earlier (Ok x)) →
      t ≡ after s (says_of x) →
      ((earlier : List Says) → line ≡ length earlier + 1 → (Repeats earlier (says_of x) → ⊥) → IsDraft earlier d → IsDraft (earlier ++ says_of x ∷ []) e) →
      new ≡ behind → IsSoFar v text new (line + 1) e t
  goes_on x e t new next then_is adds new_is =
      let here = next p.read.says p.read.is in
      let n = length-append p.texts (first ∷ []) in
      let m = p.number in
      let k = says_length (begin_of v text) p.texts p.read.says p.read.good.lines in
      let same : s.is_second ≡ is_second (lines_of text) = ap (λ s. s.is_second) p.scope_is ∙ all_second (begin_of v text) p.read.says in
      let le : line ≤ line_limit (is_second (lines_of text)) = subst (λ b. line ≤ line_limit b) same here.1 in
      record {
        texts = p.texts ++ first ∷ [];
        split = p.split ∙ (ap (λ ls. p.texts ++ ls) (is ∙ ap (λ b. first ∷ lines_of b) (sym new_is)) ∙ sym (append_assoc p.texts (first ∷ []) (lines_of new)));
        number = omega (arith, n, m);
        read = record {
          says = p.read.says ++ says_of x ∷ [];
          good = record {
            count = omega (arith, n, m, le);
            lines =
                lines_and (begin_of v text) p.texts p.read.says first (says_of x) p.read.good.lines (subst (λ s. IsLine s first (says_of x)) p.scope_is here.0);
            none_repeats = none_and [] p.read.says (says_of x) p.read.good.none_repeats here.2;
            unmixed = here.3;
          };
          is = adds p.read.says (omega (arith, m, k)) here.2 p.read.is;
        };
        scope_is = then_is ∙ (ap (λ s. after s (says_of x)) p.scope_is ∙ sym (after_append (begin_of v text) p.read.says (says_of x ∷ [])));
      }

-- before the first line
pub none_so_far : (v : Vocabulary) (text : List ℕ) (d : Draft) (consts : List Constant) (b : Bool) → consts ≡ [] →
    b ≡ is_second (lines_of text) → IsDraft [] d → IsSoFar v text text 1 d (scope_at v consts b true)
none_so_far v text d consts b none second draft = record {
  texts = [];
  split = refl;
  number = refl;
  read = record { says = []; good = record { count = omega arith; lines = tt; none_repeats = tt; unmixed = refl }; is = draft };
  scope_is = ap (λ consts. scope_at v consts b true) none ∙ ap (λ b. scope_at v [] b true) second;
}
