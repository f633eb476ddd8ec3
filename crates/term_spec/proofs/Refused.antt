-- Wrong values, and that what the layers have to say refuses them.
use Rattle.std.proofs.Common.{◌≡◌, inl, inr, refl, sym, ◌∙◌, subst, arith, ℕ, zero, suc, ◌^◌, ◌<◌, [], ◌∷◌, Bool, false}
use Rattle.std.specs.Prelude.{Contains, ◌==◌, if◌then◌else◌}
use Rattle.std.proofs.lemmas.Bool.Decides.{nat_tests}
use Rattle.bilv_spec.proofs.Pigeons.{truth}
use Rattle.machine_spec.specs.Bil.{Equal}
use Rattle.call_spec.specs.Calls.{Question}
use Rattle.term_spec.specs.Terms.{TermReading, InRange, RegisterNode, BaseNode, ConstantNode, BinaryNode, SelectNode, ExtractNode, values_from, term_word}
use Rattle.walk_spec.specs.Unrolled.{UnrolledProgram}
use Rattle.term_spec.specs.WalkQuestions.{QuestionTerm, TellsQuestion}
use Rattle.term_spec.specs.Cells.{Cells, AskedByte, TellsCells}
use Rattle.term_spec.proofs.CellSample.{w, t, c, asked}

apart : (a b : ℕ) → (a == b) ≡ false → a ≡ b → ⊥
apart a b n e = absurd (grind (arith, nat_tests))

-- every input is 0, but for x12 and the base reads
abbrev x : (x12 base : ℕ) → TermReading
x v b = record { regs = λ p n. if n == 12 then v else 0; flags = λ p f. 0; mem = λ p a. 0; choice = λ i. 0; base = λ p j. b }

in_range : (v b : ℕ) → v < 2 ^ 32 → b < 256 → InRange (x v b)
in_range v b l h = record { regs = λ p. regs; flags = λ p f. omega arith; mem = λ p a. omega arith; choice = λ i. omega arith; base = λ p j. h }
  where
    regs : (n : ℕ) → (if n == 12 then v else 0) < 2 ^ 32
    regs n = elim (truth (n == 12)) [
      | inl e ↦ subst (λ (z : Bool). (if z then v else 0) < 2 ^ 32) (sym e) l
      | inr e ↦ subst (λ (z : Bool). (if z then v else 0) < 2 ^ 32) (sym e) (omega arith)
    ]

-- cells that leave a known byte open which is asked
abbrev untied : Cells
untied = record c { asked = [] }

pub untied_refused : TellsCells w t asked untied → ⊥
unfolding values_from
untied_refused h =
    let m = h.complete (x 0 5) (in_range 0 5 (omega arith) (omega arith)) (record {
      agrees = λ a (n, l, e). absurd (omega arith);
      asked =
          λ a (n, l, e). absurd (omega arith);
    }) in
    let has : m.0 0 ≡ 7 = m.2 0 7 (omega arith) refl refl in
    let gives : 5 ≡ m.0 0 = m.3 0 (omega arith) in
    apart 5 7 refl (gives ∙ has)

-- cells that ask for another byte than the known one
abbrev other_byte : Cells
other_byte = record c { asked = record { condition = 10; read = 0; byte = 8 } ∷ [] }

pub other_byte_refused : TellsCells w t asked other_byte → ⊥
unfolding values_from
other_byte_refused h =
    let m = h.complete (x 0 8) (in_range 0 8 (omega arith) (omega arith)) (record { agrees = λ a (n, l, e). absurd (omega arith); asked = read_is }) in
    let has : m.0 0 ≡ 7 = m.2 0 7 (omega arith) refl refl in
    let gives : 8 ≡ m.0 0 = m.3 0 (omega arith) in
    apart 8 7 refl (gives ∙ has)
  where
    read_is : (a : AskedByte) → Contains other_byte.asked a → term_word (x 0 8) other_byte.nodes a.condition ≡ 1 → (x 0 8).base 0 a.read ≡ a.byte
    read_is a (zero, l, e) = subst (λ (z : AskedByte). term_word (x 0 8) other_byte.nodes z.condition ≡ 1 → 8 ≡ z.byte) e (λ q. refl)
    read_is a (suc n, l, e) = absurd (omega arith)

-- cells whose load misses the store
abbrev missed : Cells
missed = record c {
  nodes =
      RegisterNode 0 10 ∷ RegisterNode 0 11 ∷ RegisterNode 0 12 ∷ ExtractNode 7 0 2 ∷ BaseNode 0 0 ∷ BinaryNode Equal 32 0 1 ∷ SelectNode 8 5 3 4
      ∷ ConstantNode 8 5 ∷ BinaryNode Equal 8 4 7 ∷ ConstantNode 32 0 ∷ BinaryNode Equal 32 1 9 ∷ [];
}

pub missed_refused : TellsCells w t asked missed → ⊥
unfolding values_from
missed_refused h =
    apart 0 1 refl (h.same (x 5 0) (in_range 5 0 (omega arith) (omega arith)) (λ j l. refl))

-- cells in which the address of a read hangs on the read itself
abbrev circular : Cells
circular = record c { addresses = 6 ∷ [] }

pub circular_refused : TellsCells w t asked circular → ⊥
circular_refused h = let l : 0 < 0 = (h.formed.early 0 4 (omega arith) (omega arith)).1 in absurd (omega arith)

-- a question's term that names a base read, which would be free
abbrev with_base : QuestionTerm
with_base = record { nodes = BaseNode 0 0 ∷ ConstantNode 8 1 ∷ BinaryNode Equal 8 0 1 ∷ []; root = 2 }

pub with_base_refused : (u : UnrolledProgram) (question : Question) → TellsQuestion u question with_base → ⊥
with_base_refused u question h = let l : 0 < 0 = (h.terms.named (BaseNode 0 0) (0, omega arith, refl)).1 in absurd (omega arith)

-- a term without nodes, whose root has no value
abbrev nothing : QuestionTerm
nothing = record { nodes = []; root = 0 }

pub nothing_refused : (u : UnrolledProgram) (question : Question) → TellsQuestion u question nothing → ⊥
nothing_refused u question h = let l = h.root.0 in absurd (omega arith)
