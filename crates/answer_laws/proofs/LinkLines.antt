-- The lines that links name are within the first 256.
use Rattle.std.proofs.Common.{◌≡◌, ℕ, ◌+◌, ◌≤◌, refl, arith, Bool, true, false, List, [], ◌∷◌, Option, Some, None, subst}
use Rattle.std.specs.Prelude.{if◌then◌else◌}
use Rattle.word_spec.specs.Tokens.{Token}
use Rattle.word_spec.specs.State.{State}
use Rattle.bilv_spec.specs.Notes.{Expr}
use Rattle.notes_spec.specs.NotesGrammar.{lines_of}
use Rattle.pair_spec.specs.Links.{Link, line_of, first_line, differing_line, agrees_at_exit, Says, Nothing, LinkIs, IsSaid, AreLines, IsLinksText, links_in}

-- the lines of some links are within those
abbrev AreFew : List Link → Type 0
AreFew [] = Unit {0}
AreFew (l ∷ links) = (line_of l ≤ 256) × AreFew links

-- a link that is said names its line
said_line : {first second : List ℕ → Option Expr} (n : ℕ) (ts : List Token) (l : Link) → IsSaid first second n ts (LinkIs l) → line_of l ≡ n
said_line n ts l (IsSaid.enters h) = refl
said_line n ts l (IsSaid.leaves h) = refl
said_line n ts l (IsSaid.shares a b) = refl
said_line n ts l (IsSaid.is_same a b) = refl

said_few : (first second : List ℕ → Option Expr) (n : ℕ) (texts : List (List ℕ)) (says : List Says) → AreLines first second n texts says →
    AreFew (links_in says)
said_few first second n [] [] h = tt
said_few first second n [] (s ∷ says) h = absurd h
said_few first second n (x ∷ texts) [] h = absurd h
said_few first second n (x ∷ texts) (Nothing ∷ says) h = said_few first second (n + 1) texts says h.1
said_few first second n (x ∷ texts) (LinkIs l ∷ says) h =
    let e = said_line n _ l h.0.said in
    let few = h.0.few in
    ((let r : line_of l ≤ 256 = omega (arith, e, few) in r), said_few first second (n + 1) texts says h.1)

-- the line of a link that does not pass a test
line_few : (passes : Link → Bool) (links : List Link) (n : ℕ) → AreFew links → first_line passes links ≡ Some n → n ≤ 256
line_few passes [] n few e = absurd (let x : ◌≡◌ {A = Option ℕ} None (Some n) = e in cc)
line_few passes (l ∷ links) n few e = by (λ h. line_few passes links n few.1 h) (passes l) e
  where
    by : (first_line passes links ≡ Some n → n ≤ 256) → (b : Bool) → (if b then first_line passes links else Some (line_of l)) ≡ Some n → n ≤ 256
    by later true h = later h
    by later false h = let is : line_of l ≡ n = cc in subst (λ m. m ≤ 256) is few.0

-- so is the first line of a text on which two states differ
pub differing_few : (first second : List ℕ → Option Expr) (text : List ℕ) (links : List Link) (s t : State) (n : ℕ) →
    IsLinksText first second text links → differing_line links s t ≡ Some n → n ≤ 256
differing_few first second text links s t n h e =
    line_few (agrees_at_exit s t) links n (subst AreFew h.2 (said_few first second 1 (lines_of text) h.0 h.1)) e
