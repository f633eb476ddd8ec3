-- A log is a refutation or has one first refused line, which stands in its place.
use Rattle.std.proofs.Common.{◌≡◌, ℕ, suc, ◌+◌, ◌≤◌, Bool, true, false, not, List, [], ◌∷◌, Option, Some, None, refl, arith, sym, ap, ◌∙◌, length, inl, inr}
use Rattle.std.specs.Prelude.{◌↔◌, nat_le, if◌then◌else◌}
use Rattle.std.proofs.lemmas.Bool.{both_ways}
use Rattle.clause_spec.specs.Clauses.{Literal, Clause}
use Rattle.clause_spec.specs.UnitPropagation.{negations}
use Rattle.clause_spec.specs.Refutation.{Hint, ById, Negative, LogLine, Add, Delete, Bad, Look, Conflict, UnitOf, Other, Cause, NotOfGrammar, IdNotAbove, VariableAbove, Tautology, NegativeHint, NoEmptyClause, Present, after_look, after_lookup, look_of, judge_hints, added, Known, known_at_start, known_after, first_of_two, judge, judge_added, judge_of_grammar, is_of_grammar, after_judge, first_refusal, refusal, IsRefutation, IsRefusedAt, some_above, is_tautology, some_negative}
use Rattle.clause_spec.specs.CertificateLaws.{ExactlyOne, RefusalAt}

one_of : (o : Option (ℕ × Cause)) → ExactlyOne (o ≡ None) ((line : ℕ) × (cause : Cause) × (o ≡ Some (line, cause)))
one_of None = (inl refl, λ a b. let e = b.2 in cc)
one_of (Some x) = (inr (x.0, x.1, refl), λ a b. cc)

-- a log is a refutation, or it has a first refused line
pub one_refusal : (n : ℕ) (cs : List Clause) (log : List LogLine) →
    ExactlyOne (IsRefutation n cs log) ((line : ℕ) × (cause : Cause) × IsRefusedAt n cs log line cause)
one_refusal n cs log = one_of (refusal n cs log)

abbrev place_of : Option (ℕ × Cause) → ℕ × Cause
place_of None = (0, NoEmptyClause)
place_of (Some x) = x

-- there is one refused line, with one cause
pub one_cause : (n : ℕ) (cs : List Clause) (log : List LogLine) (line other : ℕ) (cause why : Cause) → IsRefusedAt n cs log line cause →
    IsRefusedAt n cs log other why → (line ≡ other) × (cause ≡ why)
one_cause n cs log line other cause why a b = let e = sym a ∙ b in (ap (λ o. (place_of o).0) e, ap (λ o. (place_of o).1) e)

-- a line is not refused for the cause of the end
abbrev is_of_line : Cause → Bool
is_of_line NoEmptyClause = false
is_of_line _ = true

abbrev OfLine : Option Cause → Type 0
OfLine None = Unit {0}
OfLine (Some e) = is_of_line e ≡ true

look_of_line : (look : Look) (go : Literal → Option Cause) → ((l : Literal) → OfLine (go l)) → OfLine (after_look look go)
look_of_line Conflict go f = tt
look_of_line (UnitOf l) go f = f l
look_of_line Other go f = refl

lookup_of_line : (o : Option Clause) (holds : Literal → Bool) (go : Literal → Option Cause) → ((l : Literal) → OfLine (go l)) → OfLine (after_lookup o holds go)
lookup_of_line None holds go f = refl
lookup_of_line (Some c) holds go f = look_of_line (look_of holds c) go f

hints_of_line : (p : Present) (hs : List Hint) (holds : Literal → Bool) → OfLine (judge_hints p holds hs)
hints_of_line p [] holds = refl
hints_of_line p (Negative n ∷ hs) holds = refl
hints_of_line p (ById i ∷ hs) holds =
    lookup_of_line (p i) holds (λ l. judge_hints p (added l holds) hs) (λ l. hints_of_line p hs (added l holds))

first_of_line : (b : Bool) (e : Cause) (rest : Option Cause) → is_of_line e ≡ true → OfLine rest → OfLine (first_of_two b e rest)
first_of_line true e rest h f = h
first_of_line false e rest h f = f

unless_of_line : (b : Bool) (o : Option Cause) → OfLine o → OfLine (if b then None else o)
unless_of_line true o f = tt
unless_of_line false o f = f

grammar_of_line : (n : ℕ) (k : Known) (l : LogLine) → OfLine (judge_of_grammar n k l)
grammar_of_line n k (Delete id ids) = tt
grammar_of_line n k Bad = tt
grammar_of_line n k (Add id c hints) = unless_of_line k.ended (judge_added n k id c hints)
    (first_of_line (nat_le id k.last) IdNotAbove _ refl
    (first_of_line (some_above n c) VariableAbove _ refl
    (first_of_line (is_tautology c) Tautology _ refl
    (first_of_line (some_negative hints) NegativeHint _ refl (hints_of_line k.present hints (negations c))))))

judge_of_line : (n : ℕ) (k : Known) (l : LogLine) → OfLine (judge n k l)
judge_of_line n k l = first_of_line (not (is_of_grammar l)) NotOfGrammar (judge_of_grammar n k l) refl (grammar_of_line n k l)

abbrev HasPlace : ℕ → ℕ → Option (ℕ × Cause) → Type 0
HasPlace line count None = Unit {0}
HasPlace line count (Some x) = (line ≤ x.0) × (x.0 ≤ line + count) × ((x.1 ≡ NoEmptyClause) ↔ (x.0 ≡ line + count))

not_end : (e : Cause) → is_of_line e ≡ true → e ≡ NoEmptyClause → ⊥
not_end e h q = both_ways (is_of_line e) (ap is_of_line q) h

place_at_line : (e : Cause) (line count : ℕ) (rest : Option (ℕ × Cause)) → is_of_line e ≡ true → HasPlace line (suc count) (after_judge (Some e) line rest)
place_at_line e line count rest h = (omega arith, omega arith, ((λ q. absurd (not_end e h q)), λ q. absurd (omega arith)))

place_later : (line count : ℕ) (rest : Option (ℕ × Cause)) → HasPlace (line + 1) count rest → HasPlace line (suc count) rest
place_later line count None f = tt
place_later line count (Some x) f = (omega arith, omega arith, ((λ q. let r = f.2.0 q in omega arith), λ q. f.2.1 (omega arith)))

place_after : (o : Option Cause) (line count : ℕ) (rest : Option (ℕ × Cause)) → OfLine o → HasPlace (line + 1) count rest →
    HasPlace line (suc count) (after_judge o line rest)
place_after None line count rest h f = place_later line count rest f
place_after (Some e) line count rest h f = place_at_line e line count rest h

place_at_end : (b : Bool) (line : ℕ) → HasPlace line 0 (if b then None else Some (line, NoEmptyClause))
place_at_end true line = tt
place_at_end false line = (omega arith, omega arith, ((λ q. omega arith), λ q. refl))

has_place : (n : ℕ) (ls : List LogLine) (k : Known) (line : ℕ) → HasPlace line (length ls) (first_refusal n k line ls)
has_place n [] k line = place_at_end k.ended line
has_place n (l ∷ ls) k line =
    place_after (judge n k l) line (length ls) (first_refusal n (known_after k l) (line + 1) ls) (judge_of_line n k l)
    (has_place n ls (known_after k l) (line + 1))

as_place : (log : List LogLine) (o : Option (ℕ × Cause)) (line : ℕ) (cause : Cause) → o ≡ Some (line, cause) → HasPlace 1 (length log) o →
    RefusalAt log line cause
as_place log None line cause h f = cc
as_place log (Some x) line cause h f =
    let e : x.0 ≡ line = ap (λ o. (place_of o).0) h in
    let g : x.1 ≡ cause = ap (λ o. (place_of o).1) h in
    record { from = omega arith; to = omega arith; at_end = ((λ q. let r = f.2.0 (g ∙ q) in omega arith), λ q. sym g ∙ f.2.1 (omega arith)) }

-- a refused line has its place
pub refusal_has_place : (n : ℕ) (cs : List Clause) (log : List LogLine) (line : ℕ) (cause : Cause) → IsRefusedAt n cs log line cause → RefusalAt log line cause
refusal_has_place n cs log line cause h = as_place log (refusal n cs log) line cause h (has_place n log (known_at_start cs) 1)
