-- A text says one list of links, or has one first fault.
use Rattle.std.proofs.Common.{◌≡◌, ℕ, zero, suc, ◌+◌, ◌<◌, inl, inr, refl, ap, sym, ◌∙◌, subst, arith, List, [], ◌∷◌, ◌++◌, length, Option, Some, None, Bool, true, false}
use Rattle.std.specs.Prelude.{codes, nat_lt, if◌then◌else◌, All}
use Rattle.std.proofs.lemmas.Bool.Decides.{nat_tests}
use Rattle.std.specs.Str.{bytes_eq}
use Rattle.word_spec.specs.Tokens.{Token, NumberToken, NameToken, tokens_of}
use Rattle.bilv_spec.specs.Notes.{Expr}
use Rattle.notes_spec.specs.NotesGrammar.{lines_of}
use Rattle.notes_spec.proofs.Cuts.{Cuts, same, earlier, later, cuts}
use Rattle.pair_spec.specs.Links.{Link, EqualAtEntry, EqualAtExit, SharedBytes, SameBytes, ComparesAlike, Says, Nothing, LinkIs, HasForm, IsSaid, IsRange, IsLine, AreLines, links_in, LinkFault, LimitFault, SyntaxFault, NameFault, RangeFault, fault_rank, LinkFaultApplies, at_line}
use Rattle.pair_spec.specs.LinkLaws.{OneLinks, LinksHaveNoFault, OneLinkFault, LinksCompareAlike}

-- the forms of a line, by what it says
pub form_of : {first second : List ℕ → Option Expr} {n : ℕ} {ts : List Token} {s : Says} → IsSaid first second n ts s → HasForm ts
form_of IsSaid.nothing = HasForm.blank
form_of (IsSaid.enters {v} {w} h) = HasForm.enters v w
form_of (IsSaid.leaves {v} {w} h) = HasForm.leaves v w
form_of (IsSaid.shares a b) = HasForm.shares a b
form_of (IsSaid.is_same a b) = HasForm.is_same a b

module _ (first second : List ℕ → Option Expr) where
  -- what a line's tokens say, if they say something
  abbrev both_named : (Expr → Expr → Link) → Option Expr → Option Expr → Option Says
  both_named link (Some x) (Some y) = Some (LinkIs (link x y))
  both_named link (Some x) None = None
  both_named link None y = None

  abbrev read : ℕ → List Token → Option Says
  read n [] = Some Nothing
  read n (NameToken k ∷ NameToken v ∷ NameToken w ∷ []) =
      if bytes_eq k (codes "in") then both_named (EqualAtEntry n) (first v) (second w) else both_named (EqualAtExit n) (first v) (second w)
  read n (NameToken k ∷ NumberToken a ∷ NumberToken b ∷ []) =
      if bytes_eq k (codes "share") then Some (LinkIs (SharedBytes n a b)) else Some (LinkIs (SameBytes n a b))
  read n other = None

  is_read : (n : ℕ) {ts : List Token} {s : Says} → IsSaid first second n ts s → read n ts ≡ Some s
  is_read n IsSaid.nothing = refl
  is_read n (IsSaid.enters {v} {w} {x} {y} h) =
      ap (λ z. both_named (EqualAtEntry n) z (second w)) h.first_is ∙ ap (both_named (EqualAtEntry n) (Some x)) h.second_is
  is_read n (IsSaid.leaves {v} {w} {x} {y} h) =
      ap (λ z. both_named (EqualAtExit n) z (second w)) h.first_is ∙ ap (both_named (EqualAtExit n) (Some x)) h.second_is
  is_read n (IsSaid.shares a b) = refl
  is_read n (IsSaid.is_same a b) = refl

  one_said : (n : ℕ) (ts : List Token) (s t : Says) → IsSaid first second n ts s → IsSaid first second n ts t → s ≡ t
  one_said n ts s t h k = let both : Some s ≡ Some t = sym (is_read n h) ∙ is_read n k in cc

  lines_one : (n : ℕ) (texts : List (List ℕ)) (says others : List Says) → AreLines first second n texts says → AreLines first second n texts others →
      says ≡ others
  lines_one n [] [] [] h k = refl
  lines_one n [] [] (t ∷ others) h k = absurd k
  lines_one n [] (s ∷ says) others h k = absurd h
  lines_one n (x ∷ texts) [] others h k = absurd h
  lines_one n (x ∷ texts) (s ∷ says) [] h k = absurd k
  lines_one n (x ∷ texts) (s ∷ says) (t ∷ others) h k =
      ap (λ z. z ∷ says) (one_said n (tokens_of x) s t h.0.said k.0.said) ∙ ap (λ z. t ∷ z) (lines_one (n + 1) texts says others h.1 k.1)

  -- the line that stands behind some
  line_at : (good : List (List ℕ)) (bad : List ℕ) (rest : List (List ℕ)) (n : ℕ) (says : List Says) → AreLines first second n (good ++ bad ∷ rest) says →
      (s : Says) × IsLine first second (n + length good) bad s
  line_at [] bad rest n [] h = absurd h
  line_at [] bad rest n (s ∷ says) h = (s, subst (λ (z : ℕ). IsLine first second z bad s) (let e : n ≡ n + 0 = omega arith in e) h.0)
  line_at (g ∷ good) bad rest n [] h = absurd h
  line_at (g ∷ good) bad rest n (s ∷ says) h =
      let it = line_at good bad rest (n + 1) says h.1 in
      (it.0, subst (λ (z : ℕ). IsLine first second z bad it.0) (let e : n + 1 + length good ≡ n + suc (length good) = omega arith in e) it.1)

  -- such a line has no fault
  no_fault : (n : ℕ) (text : List ℕ) (s : Says) (f : LinkFault) → IsLine first second n text s → LinkFaultApplies first second n text f → ⊥
  no_fault n text s LimitFault line (inl h) = let few = line.few in omega (arith, few, h)
  no_fault n text s LimitFault line (inr (inl h)) = let short = line.short in omega (arith, short, h)
  no_fault n text s LimitFault line (inr (inr h)) = h line.good
  no_fault n text s SyntaxFault line h = h (form_of line.said)
  no_fault n text s NameFault line h = h s line.said
  no_fault n text s RangeFault line h = h.2 (subst IsRange (one_said n (tokens_of text) s h.0 line.said h.1) line.range)

  -- nor at its place in a text
  not_there : (good : List (List ℕ)) (bad : List ℕ) (rest : List (List ℕ)) (says : List Says) (f : LinkFault) →
      AreLines first second 1 (good ++ bad ∷ rest) says → LinkFaultApplies first second (length good + 1) bad f → ⊥
  not_there good bad rest says f h applies =
      let it = line_at good bad rest 1 says h in
      no_fault (length good + 1) bad it.0 f
      (subst (λ (z : ℕ). IsLine first second z bad it.0) (let e : 1 + length good ≡ length good + 1 = omega arith in e) it.1) applies

-- the fault of a rank
abbrev fault_of : ℕ → LinkFault
fault_of zero = LimitFault
fault_of (suc zero) = LimitFault
fault_of (suc (suc zero)) = SyntaxFault
fault_of (suc (suc (suc zero))) = NameFault
fault_of (suc (suc (suc (suc n)))) = RangeFault

ranked : (f : LinkFault) → fault_of (fault_rank f) ≡ f
ranked LimitFault = refl
ranked SyntaxFault = refl
ranked NameFault = refl
ranked RangeFault = refl

not_above : (m n : ℕ) → (m < n → ⊥) → (n < m → ⊥) → m ≡ n
not_above m n h k = by (nat_lt m n) (nat_lt n m) refl refl
  where
    by : (b c : Bool) → nat_lt m n ≡ b → nat_lt n m ≡ c → m ≡ n
    by true c p q = absurd (h (let r = p in grind (arith, nat_tests)))
    by false true p q = absurd (k (let r = q in grind (arith, nat_tests)))
    by false false p q = let r = p in let s = q in grind (arith, nat_tests)

pub one_links : OneLinks
one_links first second text links others h k =
    sym h.2 ∙ ap links_in (lines_one first second 1 (lines_of text) h.0 k.0 h.1 k.1) ∙ k.2

pub links_have_no_fault : LinksHaveNoFault
links_have_no_fault first second text links _ f h (at_line good rest bad says is are applies least) =
    not_there first second good bad rest h.0 f (subst (λ z. AreLines first second 1 z h.0) is h.1) applies

pub one_link_fault : OneLinkFault
one_link_fault first second text _ _ f g (at_line good rest bad says is are applies least) (at_line fine more worse said it these holds none) =
    by (cuts good bad rest fine worse more (sym is ∙ it))
  where
    by : Cuts good bad rest fine worse more → (length good + 1 ≡ length fine + 1) × (f ≡ g)
    by (earlier zs a b) = absurd (not_there first second good bad zs said f (subst (λ z. AreLines first second 1 z said) a these) applies)
    by (later zs a b) = absurd (not_there first second fine worse zs says g (subst (λ z. AreLines first second 1 z says) a are) holds)
    by (same a b c) =
        let numbers : length good + 1 ≡ length fine + 1 = ap (λ z. length z + 1) a in
        let there : LinkFaultApplies first second (length fine + 1) worse f =
        subst (λ (z : ℕ). LinkFaultApplies first second z worse f) numbers
        (subst (λ (z : List ℕ). LinkFaultApplies first second (length good + 1) z f) b applies) in
        let here : LinkFaultApplies first second (length good + 1) bad g =
        subst (λ (z : ℕ). LinkFaultApplies first second z bad g) (sym numbers)
        (subst (λ (z : List ℕ). LinkFaultApplies first second (length fine + 1) z g) (sym b) holds) in
        let ranks : fault_rank f ≡ fault_rank g =
        not_above (fault_rank f) (fault_rank g) (λ l. none f l there) (λ l. least g l here) in
        (numbers, sym (ranked f) ∙ ap fault_of ranks ∙ ranked g)

-- what lines say compares registers and flags alone
abbrev SaysAlike : Says → Type 0
SaysAlike Nothing = Unit {0}
SaysAlike (LinkIs l) = ComparesAlike l

said_alike : {first second : List ℕ → Option Expr} {n : ℕ} {ts : List Token} {s : Says} → IsSaid first second n ts s → SaysAlike s
said_alike IsSaid.nothing = tt
said_alike (IsSaid.enters h) = h.alike
said_alike (IsSaid.leaves h) = h.alike
said_alike (IsSaid.shares a b) = tt
said_alike (IsSaid.is_same a b) = tt

one_more_alike : (l : Link) (links : List Link) → ComparesAlike l → All ComparesAlike links → All ComparesAlike (l ∷ links)
one_more_alike l links h f zero d m = h
one_more_alike l links h f (suc i) d m = f i d (omega arith)

lines_alike : (first second : List ℕ → Option Expr) (n : ℕ) (texts : List (List ℕ)) (says : List Says) → AreLines first second n texts says →
    All ComparesAlike (links_in says)
lines_alike first second n [] [] h = λ i d m. absurd (omega arith)
lines_alike first second n [] (s ∷ says) h = absurd h
lines_alike first second n (x ∷ texts) [] h = absurd h
lines_alike first second n (x ∷ texts) (Nothing ∷ says) h = lines_alike first second (n + 1) texts says h.1
lines_alike first second n (x ∷ texts) (LinkIs l ∷ says) h =
    one_more_alike l (links_in says) (said_alike h.0.said) (lines_alike first second (n + 1) texts says h.1)

pub links_compare_alike : LinksCompareAlike
links_compare_alike first second text links h =
    subst (λ (z : List Link). All ComparesAlike z) h.2 (lines_alike first second 1 (lines_of text) h.0 h.1)
