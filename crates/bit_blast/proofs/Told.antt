-- The words of cells of programs, and what is said of their base reads.
use Rattle.std.proofs.Common.{◌≡◌, ◌↔◌, ℕ, Bool, true, ◌&&◌, List, [], map, refl, ap, sym, ◌∙◌, subst}
use Rattle.std.specs.List.{list_all}
use Rattle.std.specs.Global.{Vec}
use Rattle.clause_spec.specs.Clauses.{Clause}
use Rattle.term_spec.specs.Terms.{HasWidth}
use Rattle.walk_spec.specs.Unrolled.{UnrolledProgram}
use Rattle.term_spec.specs.Cells.{Cells, IsAllowed, AreFormed}
use Rattle.term_spec.specs.ClauseForm.{reading}
use Rattle.gates.specs.declared.bit.Bit.{Bit}
use Rattle.gates.specs.Circuits.{Netlist, Holds}
use Rattle.gates.specs.Pushes.{AreOver, satisfied}
use Rattle.mem_cells.specs.declared.cells.Agreement as coded
use Rattle.mem_cells.specs.declared.cells.AskedByte as asking
use Rattle.mem_cells.specs.FrameViews.{frame_agreement_of, frame_asked_of}
use Rattle.bilv_spec.proofs.PointsInGraph.{of_map}
use Rattle.frame_terms.specs.FrameCells as frames
use Rattle.frame_terms.specs.FrameCells.{Agreement, AskedByte}
use Rattle.frame_terms.specs.HeadlessTerms.{as_agreement, as_asked, as_cells}
use Rattle.frame_terms.proofs.HeadlessCells.{allowed_as, allowed_back}
use Rattle.bit_blast.specs.CellClauses.{AreReadsOf}
use Rattle.bit_blast.specs.declared.input_places.InputPlaces.{InputPlaces}
use Rattle.bit_blast.specs.BitWords.{AreBlasted}
use Rattle.bit_blast.specs.CellWords.{AreCellWords}
use Rattle.bit_blast.specs.Laid.{ArePlaces}
use Rattle.bit_blast.specs.Places.{HasRead, seen}
use Rattle.bit_blast.specs.Said.{agrees_at, asked_at}
use Rattle.bit_blast.proofs.Lists.{word_is, shapes_length}
use Rattle.bit_blast.proofs.Placed.{entry_read, reading_at}
use Rattle.bit_blast.proofs.InputsAt.{bytes_meant, said}

-- no clause
pub none_over : (n : ℕ) (cs : List Clause) → cs ≡ [] → AreOver n cs
none_over n cs e = subst (AreOver n) (sym e) (record { each = refl })

-- what is said after no clause
pub said_alone : {X : Type 0} (v : ℕ → Bool) (cs : List Clause) (t : Bool) → cs ≡ [] → (t ≡ true) ↔ ((satisfied v cs ≡ true) × X) → (t ≡ true) ↔ X
said_alone v cs t e q = ((λ k. (q.0 k).1), (λ x. q.1 (ap (satisfied v) e, x)))

-- the words of the terms of cells are the words of the cells
pub cell_words : (u : UnrolledProgram) (c : Cells) (p : InputPlaces) → ArePlaces u c p → (bits : List Bit) (a b : Netlist) (ws : List (Vec Bit)) →
    AreBlasted p bits a b c.nodes ws → AreCellWords u c bits b ws
cell_words u c p placed bits a b ws made = record {
  count = shapes_length ws ∙ made.count;
  widths = made.widths;
  within = made.within;
  values = λ v h t l. word_is v ws t ∙ (made.values v (reading u c (seen bits v)) h (reading_at u c p placed (seen bits v))).each t l;
}

-- what cells need of the places of the inputs of a program
program_reads : (u : UnrolledProgram) (c : Cells) (p : InputPlaces) → ArePlaces u c p → AreFormed u c → AreReadsOf p (as_cells c)
program_reads u c p placed formed = record {
  agrees = λ a k.
      (let it = of_map as_agreement c.agrees a k in
      let f = formed.agrees it.0 it.1 in
      subst (λ (z : Agreement). HasWidth c.nodes 1 z.condition × HasRead p z.part z.read × HasRead p z.part z.other) it.2
      (f.0, entry_read u c p placed it.0.read f.1, entry_read u c p placed it.0.other f.2));
  asked = λ a k.
      (let it = of_map as_asked c.asked a k in
      let f = formed.asked it.0 it.1 in
      subst (λ (z : AskedByte). HasWidth c.nodes 1 z.condition × HasRead p z.part z.read) it.2 (f.0, entry_read u c p placed it.0.read f.1));
}

pub flat_reads : (u : UnrolledProgram) (c : Cells) (p : InputPlaces) → ArePlaces u c p → AreFormed u c → (k : frames.Cells) → k ≡ as_cells c → AreReadsOf p k
flat_reads u c p placed formed k flat = subst (AreReadsOf p) (sym flat) (program_reads u c p placed formed)

-- the ties say what is said of the base reads
pub program_said : (u : UnrolledProgram) (c : Cells) → AreFormed u c → (p : InputPlaces) → ArePlaces u c p → (bits : List Bit) (b : Netlist) (ws : List (Vec Bit)) →
    AreCellWords u c bits b ws → (k : frames.Cells) → k ≡ as_cells c → (agreements : List coded.Agreement) (asked : List asking.AskedByte) →
    map frame_agreement_of agreements ≡ k.agrees → map frame_asked_of asked ≡ k.asked →
    (v : ℕ → Bool) → Holds v b → (r t : Bool) → t ≡ ((r && list_all (agrees_at p bits ws v) agreements) && list_all (asked_at p bits ws v) asked) →
    (t ≡ true) ↔ ((r ≡ true) × IsAllowed c (reading u c (seen bits v)))
program_said u c formed p placed bits b ws are k flat agreements asked e f v h r t is =
    let x = reading u c (seen bits v) in
    let q = said (as_cells c) p (program_reads u c p placed formed) bits ws agreements asked (e ∙ ap (λ z. z.agrees) flat) (f ∙ ap (λ z. z.asked) flat) v x
    (record { words = are.values v h; bytes = bytes_meant p bits v x (reading_at u c p placed (seen bits v)) }) r t is in (
      (λ g. (let z = q.0 g in (z.0, allowed_back c x z.1))),
      (λ g. q.1 (g.0, allowed_as c x g.1)),
    )
