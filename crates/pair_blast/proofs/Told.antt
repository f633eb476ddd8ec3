-- The clauses tell the cells of both sides.
use Rattle.std.proofs.Common.{◌≡◌, ◌↔◌, ℕ, ◌+◌, ◌*◌, ◌≤◌, Bool, true, List, [], length, ap, ◌∙◌, subst, arith}
use Rattle.clause_spec.specs.Clauses.{Clause, Cnf, Satisfies, AgreeUpTo, ExtendsOnceWhere}
use Rattle.call_spec.specs.Calls.{PairQuestion}
use Rattle.term_spec.specs.Terms.{TermReading, term_gates}
use Rattle.walk_spec.specs.Unrolled.{UnrolledProgram}
use Rattle.term_spec.specs.ClauseForm.{inputs}
use Rattle.gates.specs.declared.bit.Bit.{Bit}
use Rattle.gates.specs.Circuits.{Netlist, next, Grows, Holds, bit_value}
use Rattle.gates.specs.Defined.{IsDefined}
use Rattle.gates.specs.Pushes.{satisfied}
use Rattle.gates.proofs.Definitions.{extends_once_where}
use Rattle.gates.proofs.Pushes.{satisfies-from, satisfies-to}
use Rattle.pair_spec.specs.Links.{Link}
use Rattle.pair_spec.specs.Pairs.{shared_bytes, same_bytes}
use Rattle.pair_spec.specs.PairEvidence.{behind}
use Rattle.pair_spec.specs.PairTerms.{MakesPairTrue, SideCells, TellsPair, first_reading, second_reading}
use Rattle.bit_blast.specs.declared.input_places.InputPlaces.{InputPlaces}
use Rattle.bit_blast.specs.Laid.{ArePlaces}
use Rattle.bit_blast.proofs.InputNumbers.{reading_same}
use Rattle.bit_blast.proofs.Placed.{inputs_are}

module _ (u w : UnrolledProgram) (links : List Link) (q : PairQuestion) (c d : SideCells) (p r : InputPlaces) (placed : ArePlaces u c.cells p)
    (others : ArePlaces w d.cells r) (a b : Netlist) (empty : a ≡ record { inputs = p.inputs + r.inputs; gates = [] }) (more : ℕ)
    (grows : Grows a b (term_gates c.cells.nodes + term_gates d.cells.nodes + more))
    (few : more ≤ 512 * length links + 512 * (shared_bytes links + same_bytes links)) (ties : List Clause)
    (say : (v : ℕ → Bool) → Holds v b → (satisfied v ties ≡ true) ↔ MakesPairTrue q c d (first_reading u c v) (second_reading u c w d v))
    (root : Bit) (is_root : (v : ℕ → Bool) → Holds v b → bit_value v root ≡ true) (cnf : Cnf) (defined : IsDefined b ties root cnf) where
  abbrev Fact : (ℕ → Bool) → Type 0
  Fact v = MakesPairTrue q c d (first_reading u c v) (second_reading u c w d v)

  inputs_of : b.inputs ≡ inputs u c.cells + inputs w d.cells
  inputs_of =
      grows.same_inputs ∙ ap (λ (n : Netlist). n.inputs) empty ∙ ap (λ z. z + r.inputs) (inputs_are u c.cells p placed)
      ∙ ap (λ z. inputs u c.cells + z) (inputs_are w d.cells r others)

  same_fact : (v y : ℕ → Bool) → AgreeUpTo b.inputs v y → Fact v → Fact y
  same_fact v y g h =
      let first : AgreeUpTo (inputs u c.cells) v y = λ i m n. g i m (let e = inputs_of in omega arith) in
      let second : AgreeUpTo (inputs w d.cells) (behind (inputs u c.cells) v) (behind (inputs u c.cells) y) =
      λ i m n. g (inputs u c.cells + i) (omega arith) (let e = inputs_of in omega arith) in
      subst (λ (z : TermReading). MakesPairTrue q c d z (second_reading u c w d y)) (reading_same u c.cells v y first)
      (subst (λ (z : TermReading). MakesPairTrue q c d (first_reading u c v) z)
      (reading_same w d.cells (behind (inputs u c.cells) v) (behind (inputs u c.cells) y) second) h)

  to_fact : (v : ℕ → Bool) → Holds v b → Satisfies v ties → bit_value v root ≡ true → Fact v
  to_fact v h s t = (say v h).0 (satisfies-to v ties s)

  from_fact : (v : ℕ → Bool) → Holds v b → Fact v → Satisfies v ties × (bit_value v root ≡ true)
  from_fact v h f = (satisfies-from v ties ((say v h).1 f), is_root v h)

  pub told : TellsPair u w links q c d cnf
  told =
      let e = defined.variables in
      let g = grows.more in
      let k = grows.cost in
      let n : next a ≡ p.inputs + r.inputs + 1 = ap next empty ∙ (let z : p.inputs + r.inputs + 1 + 0 ≡ p.inputs + r.inputs + 1 = omega arith in z) in
      let i = inputs_are u c.cells p placed in
      let j = inputs_are w d.cells r others in
      record {
        extends = subst (λ (m : ℕ). ExtendsOnceWhere m cnf Fact) inputs_of (extends_once_where b ties root cnf Fact defined same_fact to_fact from_fact);
        all = omega arith;
        few = omega arith;
      }
