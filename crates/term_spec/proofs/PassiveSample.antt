-- The passive program and two questions of the program of one point, which goes back through register 1.
use Rattle.std.proofs.Common.{◌≡◌, refl, ap, sym, ◌∙◌, subst, arith, ℕ, zero, suc, ◌/◌, ◌%◌, ◌<◌, ◌≤◌, [], ◌∷◌, Bool, true, false}
use Rattle.std.specs.Prelude.{Contains, ◌==◌, not, ◌↔◌, if◌then◌else◌, slice_index}
use Rattle.std.proofs.lemmas.Bool.Decides.{nat_tests}
use Rattle.word_spec.specs.Words.{bit}
use Rattle.word_spec.specs.State.{State}
use Rattle.machine_spec.specs.Bil.{Equal, NotEqual}
use Rattle.machine_spec.specs.Machine.{is_place}
use Rattle.machine_spec.specs.Endings.{AlignFails, JumpFails}
use Rattle.bilv_spec.specs.Questions.{Reading}
use Rattle.call_spec.specs.Calls.{EntryQuestion, FailQuestion}
use Rattle.term_spec.specs.Terms.{TermNode, RegisterNode, ConstantNode, BinaryNode, ExtractNode, values_from, term_word, HasWidth}
use Rattle.walk_spec.specs.Unrolled.{Walk, Outward, ToEvent, walk_to}
use Rattle.walk_spec.specs.Sweep.{Held, hand, held, swept}
use Rattle.term_spec.specs.WalkQuestions.{QuestionTerm, IsNamedBelow, IsTrueButBytes, term_reading, AreTermsWithin, point_room, TellsQuestion}
use Rattle.term_spec.specs.Passive.{Passive, Tells, IsPassive}
use Rattle.walk_spec.proofs.WalkExample.{u, unrolling, p}
use Rattle.walk_spec.proofs.WalkOrder.{places_rise}
use Rattle.term_spec.proofs.HeldAnswers.{held_answers}

abbrev q : Passive
q = record {
  nodes = RegisterNode 0 1 ∷ ExtractNode 1 0 0 ∷ ConstantNode 2 0 ∷ BinaryNode NotEqual 2 1 2 ∷ ConstantNode 1 1 ∷ ConstantNode 1 0 ∷ [];
  met = 4 ∷ [];
  fails = 3;
  turns = 5;
}

-- the end of the walk by the tests of its exits
abbrev ends : (entry next : State) → (aligned back : Bool) → Walk
ends entry next a b = walk_to u entry next (if not a then ToEvent AlignFails else if b then Outward else ToEvent JumpFails)

abbrev none : Held → Held
none h = h

fails_by : (entry next : State) (h : Held) (a : Bool) → h.fails ≡ false → (hand (ends entry next a true) h).fails ≡ not a
fails_by entry next h true e = e
fails_by entry next h false e = refl

turns_by : (entry next : State) (h : Held) (a : Bool) → h.turns ≡ false → (hand (ends entry next a true) h).turns ≡ false
turns_by entry next h true e = e
turns_by entry next h false e = e

met_by : (entry next : State) (h : Held) (a : Bool) → (hand (ends entry next a true) h).met 0 ≡ h.met 0
met_by entry next h true = refl
met_by entry next h false = refl

same_eq : (j : ℕ) → (j == j) ≡ true
same_eq j = grind (arith, nat_tests)

fails_is : (r : Reading) → (swept u r).fails ≡ not (is_place false (r.state.regs 1))
unfolding held
fails_is r =
    ap (λ z. (hand (ends r.state (record r.state { pc = r.state.regs 1 }) (is_place false (r.state.regs 1)) z) (held u r 0)).fails) (same_eq (r.state.regs 1))
    ∙ fails_by r.state (record r.state { pc = r.state.regs 1 }) (held u r 0) (is_place false (r.state.regs 1)) refl

turns_is : (r : Reading) → (swept u r).turns ≡ false
unfolding held
turns_is r =
    ap (λ z. (hand (ends r.state (record r.state { pc = r.state.regs 1 }) (is_place false (r.state.regs 1)) z) (held u r 0)).turns) (same_eq (r.state.regs 1))
    ∙ turns_by r.state (record r.state { pc = r.state.regs 1 }) (held u r 0) (is_place false (r.state.regs 1)) refl

met_is : (r : Reading) → (swept u r).met 0 ≡ true
unfolding held
met_is r =
    ap (λ z. (hand (ends r.state (record r.state { pc = r.state.regs 1 }) (is_place false (r.state.regs 1)) z) (held u r 0)).met 0) (same_eq (r.state.regs 1))
    ∙ met_by r.state (record r.state { pc = r.state.regs 1 }) (held u r 0) (is_place false (r.state.regs 1))

two : (1 ≤ 2) × (2 ≤ 64)
two = (omega arith, omega arith)

one : (1 ≤ 1) × (1 ≤ 64)
one = (omega arith, omega arith)

named_one : (n : TermNode) → Contains q.nodes n → IsNamedBelow u 0 n
named_one n (zero, l, e) = subst (IsNamedBelow u 0) e (refl, refl)
named_one n (suc zero, l, e) = subst (IsNamedBelow u 0) e tt
named_one n (suc (suc zero), l, e) = subst (IsNamedBelow u 0) e tt
named_one n (suc (suc (suc zero)), l, e) = subst (IsNamedBelow u 0) e tt
named_one n (suc (suc (suc (suc zero))), l, e) = subst (IsNamedBelow u 0) e tt
named_one n (suc (suc (suc (suc (suc zero)))), l, e) = subst (IsNamedBelow u 0) e tt
named_one n (suc (suc (suc (suc (suc (suc i))))), l, e) = absurd (omega arith)

terms : AreTermsWithin u (point_room u) q.nodes
terms = record {
  typed = (
    tt,
    (
      (omega arith, omega arith, omega arith),
      (
        (two, omega arith),
        ((two, (omega arith, refl), (omega arith, refl)), ((one, omega arith), ((one, omega arith), tt))),
      ),
    ),
  );
  named = named_one;
  gates = omega arith;
  loads = omega arith;
  stores = omega arith;
  joins = omega arith;
  few = omega arith;
}

low : (a : ℕ) → a / 1 % 4 ≡ a % 4
low a = omega arith

fails_tell : (r : Reading) → Tells q.nodes (term_reading u r) 3 (swept u r).fails
unfolding values_from
fails_tell r = ap (λ z. bit (not (z == 0))) (low (r.state.regs 1)) ∙ ap bit (sym (fails_is r))

turns_tell : (r : Reading) → Tells q.nodes (term_reading u r) 5 (swept u r).turns
unfolding values_from
turns_tell r = ap bit (sym (turns_is r))

mets_tell : (r : Reading) (i : ℕ) → i < 1 → Tells q.nodes (term_reading u r) (slice_index q.met i) ((swept u r).met i)
unfolding values_from
mets_tell r zero l = ap bit (sym (met_is r))
mets_tell r (suc i) l = absurd (omega arith)

bit_is : (i : ℕ) → i < 1 → HasWidth q.nodes 1 (slice_index q.met i)
bit_is zero l = (omega arith, refl)
bit_is (suc i) l = absurd (omega arith)

pub passive : IsPassive u q
passive = record {
  terms = terms;
  count = refl;
  bits = bit_is;
  fails_bit = (omega arith, refl);
  turns_bit = (omega arith, refl);
  mets = λ r is pc. mets_tell r;
  failing = λ r is pc. fails_tell r;
  turning = λ r is pc. turns_tell r;
}

-- the term of the entry question: the link value is a multiple of 4
abbrev entry : QuestionTerm
entry = record { nodes = RegisterNode 0 1 ∷ ExtractNode 1 0 0 ∷ ConstantNode 2 0 ∷ BinaryNode Equal 2 1 2 ∷ []; root = 3 }

named_entry : (n : TermNode) → Contains entry.nodes n → IsNamedBelow u 0 n
named_entry n (zero, l, e) = subst (IsNamedBelow u 0) e (refl, refl)
named_entry n (suc zero, l, e) = subst (IsNamedBelow u 0) e tt
named_entry n (suc (suc zero), l, e) = subst (IsNamedBelow u 0) e tt
named_entry n (suc (suc (suc zero)), l, e) = subst (IsNamedBelow u 0) e tt
named_entry n (suc (suc (suc (suc i))), l, e) = absurd (omega arith)

is_zero : (n : ℕ) → bit (n == 0) ≡ 1 → n ≡ 0
is_zero zero h = refl
is_zero (suc n) h = absurd (let e : (suc n == 0) ≡ false = grind (arith, nat_tests) in let f : 0 ≡ 1 = sym (ap bit e) ∙ h in cc)

entry_means : (r : Reading) → (term_word (term_reading u r) entry.nodes 3 ≡ 1) ↔ IsTrueButBytes u r EntryQuestion
unfolding values_from
entry_means r = (
  (λ h. record { lines = record { link = sym (low (r.state.regs 1)) ∙ is_zero (r.state.regs 1 / 1 % 4) h; requires = refl }; ends = tt }),
  (λ h. ap (λ z. bit (z == 0)) (low (r.state.regs 1) ∙ h.lines.link)),
)

pub entry_tells : TellsQuestion u EntryQuestion entry
entry_tells = record {
  terms = record {
    typed = (tt, ((omega arith, omega arith, omega arith), ((two, omega arith), ((two, (omega arith, refl), (omega arith, refl)), tt))));
    named = named_entry;
    gates = omega arith;
    loads = omega arith;
    stores = omega arith;
    joins = omega arith;
    few = omega arith;
  };
  root = (omega arith, refl);
  means = λ r is pc. entry_means r;
}

-- the term of the fail question: there is no event
abbrev fail : QuestionTerm
fail = record { nodes = ConstantNode 1 0 ∷ []; root = 0 }

named_fail : (n : TermNode) → Contains fail.nodes n → IsNamedBelow u 0 n
named_fail n (zero, l, e) = subst (IsNamedBelow u 0) e tt
named_fail n (suc i, l, e) = absurd (omega arith)

apart : (a b : ℕ) → (a == b) ≡ false → a ≡ b → ⊥
apart a b n e = absurd (grind (arith, nat_tests))

no_event : (r : Reading) → IsTrueButBytes u r FailQuestion → ⊥
no_event r h =
    let order = places_rise p 3 u unrolling in
    let k = (held_answers u order.0 order.1 r FailQuestion).0 h in
    let e : true ≡ not (0 == 0) = sym k.1 ∙ fails_is r ∙ ap (λ z. not (z == 0)) k.0.link in absurd (cc)

fail_means : (r : Reading) → (term_word (term_reading u r) fail.nodes 0 ≡ 1) ↔ IsTrueButBytes u r FailQuestion
unfolding values_from
fail_means r = ((λ h. absurd (apart 0 1 refl h)), (λ h. absurd (no_event r h)))

pub fail_tells : TellsQuestion u FailQuestion fail
fail_tells = record {
  terms = record {
    typed = ((one, omega arith), tt);
    named = named_fail;
    gates = omega arith;
    loads = omega arith;
    stores = omega arith;
    joins = omega arith;
    few = omega arith;
  };
  root = (omega arith, refl);
  means = λ r is pc. fail_means r;
}
