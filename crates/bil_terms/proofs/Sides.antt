-- The sides of an if, and what calls on them ask for.
use Rattle.std.proofs.Common.{rules, ◌≡◌, ℕ, ◌<◌, List, [], Vec, Global, sym, subst}
use denote.Param.Weighed.{most}
use Rattle.machine_spec.specs.Bil.{Expression, Statements, Empty}
use Rattle.bil_ast.proofs.Blocks.{seen_if}
use Rattle.bil_ast.specs.declared.expressions.Exp.{Exp}
use Rattle.bil_ast.specs.declared.statements.Stmt.{Stmt, size-Stmt}
use Rattle.bil_ast.specs.declared.statements.Stmt.TheViews.{the_lemmas}
use Rattle.bil_ast.specs.declared.statements.Stmt.TheVariants as stmt
use Rattle.bil_ast.specs.Views.{expression, statement, statements}
use Rattle.term_spec.specs.Terms.{TermNode}
use Rattle.walk_spec.specs.Unrolling.{is_variable_of}
use Rattle.term_names.specs.Views.{form_of}
use Rattle.bil_terms.specs.declared.lists.Sides.{Sides}
use Rattle.bil_terms.specs.declared.run.Run.{Run}
use Rattle.bil_terms.specs.declared.run.Bits.{Bits}
use Rattle.bil_terms.specs.declared.stored.Stored.{Stored}
use Rattle.bil_terms.specs.Entered.{AreEntered}
use Rattle.bil_terms.specs.Leading.{CanLead}
use Rattle.bil_terms.specs.Lowered.{IsWordTerm}
use Rattle.bil_terms.specs.Merged.{AreSides, IsMerged, IsSide, IsSplit}
use Rattle.bil_terms.specs.Runs.{IsRun, AreBits, IsLed}
use Rattle.bil_terms.proofs.Ifs.{first_begins, second_begins, sides_led, led_if}
use Rattle.bil_terms.proofs.Leads.{bits_kept, if_parts, side_leads}

-- the sides, by the bits that they are entered by
pub sides_entered : (d0 d1 d2 : List TermNode) (place : ℕ) (r : Run) (s0 s1 : List Stored) (e : Expression) (s : Sides) (one other : ℕ) →
    IsWordTerm d0 d1 r.names [] place r.live.0 s0 s1 e s.condition.0 → IsSplit d1 d2 s.condition.0 r.live.0 one other → IsSide r one s.first →
    IsSide r other s.second →
    AreEntered d0 d2 place r s0 s1 e s
sides_entered d0 d1 d2 place r s0 s1 e s one other k h p q = record {
  middle = d1;
  condition = k;
  split = subst (λ (z : ℕ). IsSplit d1 d2 s.condition.0 r.live.0 z s.second.live.0) (sym p.live)
      (subst (λ (z : ℕ). IsSplit d1 d2 s.condition.0 r.live.0 one z) (sym q.live) h);
  first = subst (λ (z : ℕ). IsSide r z s.first) (sym p.live) p;
  second = subst (λ (z : ℕ). IsSide r z s.second) (sym q.live) q;
}

bits_entered : (d0 d2 : List TermNode) (place : ℕ) (r : Run) (s0 s1 : List Stored) (e : Expression) (s : Sides) (b : Bits) →
    AreEntered d0 d2 place r s0 s1 e s → AreBits d0 b → AreBits d2 b
bits_entered d0 d2 place r s0 s1 e s b h k =
    bits_kept h.middle d2 _ _ _ _ _ b h.split.grew (bits_kept d0 h.middle _ _ _ _ _ b h.condition.gathered.grew k)

-- what the first list asks
pub first_asks : (d0 d2 : List TermNode) (place : ℕ) (r : Run) (s0 s1 : List Stored) (s : Stmt) (e : Exp) (xs ys : Vec Stmt Global) (zs : List Stmt)
    (sides : Sides) (b : Bits) → s ≡ stmt.If e xs ys →
    zs ≡ xs.items → CanLead (statement s Empty) (is_variable_of (form_of r.names)) → IsRun d0 r → AreBits d0 b →
    AreEntered d0 d2 place r s0 s1 (expression e) sides →
    CanLead (statements zs) (is_variable_of (form_of sides.first.names)) × (IsRun d2 sides.first × AreBits d2 b)
first_asks d0 d2 place r s0 s1 s e xs ys zs sides b is at leads run bits h = (
  side_leads zs xs.items r sides.first _ at h.first (if_parts s e xs ys _ is leads).2,
  (
    first_begins d0 h.middle d2 place r sides.first s0 s1 (expression e) sides.condition.0 _ _ run h.condition h.split h.first,
    bits_entered d0 d2 place r s0 s1 (expression e) sides b h bits,
  ),
)

-- what the second asks, behind the first
pub second_asks : (d0 d2 d3 : List TermNode) (place : ℕ) (r a : Run) (s0 s1 s2 : List Stored) (s : Stmt) (e : Exp) (xs ys : Vec Stmt Global) (zs ws : List Stmt)
    (sides : Sides) (b : Bits) →
    s ≡ stmt.If e xs ys → ws ≡ ys.items → CanLead (statement s Empty) (is_variable_of (form_of r.names)) → IsRun d0 r → AreBits d0 b →
    AreEntered d0 d2 place r s0 s1 (expression e) sides →
    IsLed d2 d3 place sides.first a s1 s2 (statements zs) → CanLead (statements ws) (is_variable_of (form_of sides.second.names)) ×
    (IsRun d3 sides.second × AreBits d3 b)
second_asks d0 d2 d3 place r a s0 s1 s2 s e xs ys zs ws sides b is at leads run bits h p = (
  side_leads ws ys.items r sides.second _ at h.second (if_parts s e xs ys _ is leads).3,
  (
    second_begins d0 h.middle d2 d3 place r sides.first sides.second a s0 s1 s2 (expression e)
        (statements zs) sides.condition.0 _ _ run h.condition h.split h.second p,
    bits_kept d2 d3 _ _ _ _ _ b p.grew (bits_entered d0 d2 place r s0 s1 (expression e) sides b h bits),
  ),
)

-- the words of 1 bit behind both
pub bits_behind : (d0 d2 d3 d4 : List TermNode) (place : ℕ) (r a0 a b0 b : Run) (s0 s1 s2 s3 : List Stored) (e : Expression) (y z : Statements) (sides : Sides)
    (w : Bits) → AreBits d0 w →
    AreEntered d0 d2 place r s0 s1 e sides → IsLed d2 d3 place a0 a s1 s2 y → IsLed d3 d4 place b0 b s2 s3 z → AreBits d4 w
bits_behind d0 d2 d3 d4 place r a0 a b0 b s0 s1 s2 s3 e y z sides w bits h p q =
    bits_kept d3 d4 _ _ _ _ _ w q.grew (bits_kept d2 d3 _ _ _ _ _ w p.grew (bits_entered d0 d2 place r s0 s1 e sides w h bits))

-- what merging them asks
pub merge_asks : (d0 d2 d3 d4 : List TermNode) (place : ℕ) (r a b : Run) (s0 s1 s2 s3 : List Stored) (s : Stmt) (e : Exp) (xs ys : Vec Stmt Global)
    (y z : Statements) (sides : Sides) →
    s ≡ stmt.If e xs ys → CanLead (statement s Empty) (is_variable_of (form_of r.names)) → IsRun d0 r → AreEntered d0 d2 place r s0 s1 (expression e) sides →
    IsLed d2 d3 place sides.first a s1 s2 y → IsLed d3 d4 place sides.second b s2 s3 z →
    AreSides d4 sides.condition.0 r sides.first.live.0 sides.second.live.0 a b
merge_asks d0 d2 d3 d4 place r a b s0 s1 s2 s3 s e xs ys y z sides is leads run h p q =
    sides_led d0 h.middle d2 d3 d4 place r sides.first sides.second a b s0 s1 s2 s3 (expression e) y z sides.condition.0 _ _ run
    (if_parts s e xs ys _ is leads).0.1
    h.condition h.split h.first h.second p q

-- an if, as a statement
pub if_led : (d0 d2 d3 d4 d5 : List TermNode) (place : ℕ) (r a b t : Run) (s0 s1 s2 s3 : List Stored) (s : Stmt) (e : Exp) (xs ys : Vec Stmt Global)
    (zs ws : List Stmt) (sides : Sides) →
    s ≡ stmt.If e xs ys → zs ≡ xs.items → ws ≡ ys.items → CanLead (statement s Empty) (is_variable_of (form_of r.names)) → IsRun d0 r →
    AreEntered d0 d2 place r s0 s1 (expression e) sides →
    IsLed d2 d3 place sides.first a s1 s2 (statements zs) → IsLed d3 d4 place sides.second b s2 s3 (statements ws) →
    IsMerged d4 d5 sides.condition.0 r sides.first.live.0 sides.second.live.0 a b t → IsLed d0 d5 place r t s0 s3 (statement s Empty)
if_led d0 d2 d3 d4 d5 place r a b t s0 s1 s2 s3 s e xs ys zs ws sides is at of leads run h p q m =
    subst (λ (z : Statements). IsLed d0 d5 place r t s0 s3 z) (seen_if s e xs ys zs ws Empty is at of)
    (led_if d0 h.middle d2 d3 d4 d5 place r sides.first sides.second a b t s0 s1 s2 s3 (expression e) (statements zs) (statements ws) sides.condition.0 _ _ run
    (if_parts s e xs ys _ is leads).0.1 h.condition h.split h.first h.second p q m)

-- its lists are less deep than it
pub first_smaller : (s : Stmt) (e : Exp) (xs ys : Vec Stmt Global) (zs : List Stmt) → s ≡ stmt.If e xs ys → zs ≡ xs.items → most size-Stmt zs < size-Stmt s
first_smaller s e xs ys zs is at = search (rules, the_lemmas)

pub second_smaller : (s : Stmt) (e : Exp) (xs ys : Vec Stmt Global) (zs : List Stmt) → s ≡ stmt.If e xs ys → zs ≡ ys.items → most size-Stmt zs < size-Stmt s
second_smaller s e xs ys zs is at = search (rules, the_lemmas)
