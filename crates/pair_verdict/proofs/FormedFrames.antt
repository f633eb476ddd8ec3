-- Cells of a program are formed as those of its frame, and have the same base reads.
use Rattle.std.proofs.Common.{◌≡◌, ap, sym, ◌∙◌, subst, arith, ℕ, zero, suc, ◌+◌, ◌<◌, length, Some, true, false}
use Rattle.std.specs.Prelude.{Contains, slice_get}
use Rattle.bilv_spec.proofs.Pigeons.{at_in}
use Rattle.bilv_spec.proofs.PointsInGraph.{of_map}
use Rattle.term_spec.specs.Terms.{TermReading, HasWidth, BaseNode, node_at}
use Rattle.term_spec.specs.Cells as cells
use Rattle.walk_spec.specs.Unrolled as tables
use Rattle.walk_laws.proofs.InputOrder.{get_of, row_get, row_is}
use Rattle.frame_laws.specs.HeadlessLaws.{as_unrolled}
use Rattle.frame_terms.specs.PassiveFrames.{NamesMemory}
use Rattle.frame_terms.specs.FrameCells.{Agreement, AskedByte, AreFormed, BaseRead, IsRead}
use Rattle.frame_terms.specs.HeadlessTerms.{as_agreement, as_asked, as_cells, as_read}
use Rattle.frame_terms.proofs.HeadlessNodes.{all_named_as, named_as}
use Rattle.frame_start.specs.Files.{AreOne}
use Rattle.pair_verdict.specs.PairRounds as programs

module _ (c : cells.Cells) where
  pub read_in : (j : ℕ) → j < length c.addresses → IsRead (as_cells c) 0 j
  read_in j l =
      at_in (as_cells c).reads j (as_read j)
      (row_get as_read 0 (length c.addresses) j l ∙ ap (λ z. Some (as_read z)) (let e : 0 + j ≡ j = omega arith in e))

  read_at : (i : ℕ) (b : BaseRead) → slice_get (as_cells c).reads i ≡ Some b → (i < length c.addresses) × (b ≡ as_read i)
  read_at i b e = row_is as_read (length c.addresses) i b e

  pub read_of : (b : BaseRead) → Contains (as_cells c).reads b → (j : ℕ) × (j < length c.addresses) × (b ≡ as_read j)
  read_of b h = let q = get_of (as_cells c).reads b h in let r = read_at q.0 b q.1 in (q.0, r.0, r.1)

  read_below : (j : ℕ) → IsRead (as_cells c) 0 j → j < length c.addresses
  read_below j h =
      let r = read_of (as_read j) h in
      subst (λ (z : ℕ). z < length c.addresses) (sym (ap (λ (z : BaseRead). z.address) r.2)) r.1

  base_in : (p j : ℕ) → (p ≡ 0) × (j < length c.addresses) → IsRead (as_cells c) p j
  base_in p j h = subst (λ (z : ℕ). IsRead (as_cells c) z j) (sym h.0) (read_in j h.1)

  pub formed_as : (u : tables.UnrolledProgram) → cells.AreFormed u c → AreFormed (as_unrolled u) false (as_cells c)
  formed_as u h = record {
    typed = h.typed;
    words = h.words;
    named = all_named_as u c.nodes (length c.addresses) h.named;
    bases = λ p j inside. base_in p j (h.named (BaseNode p j) inside);
    addresses = h.addresses;
    early = λ j i l m. named_as u j (node_at c.nodes i) (h.early j i l m);
    reads = λ b inside.
        (let r = read_of b inside in
        subst (λ (z : BaseRead). NamesMemory (as_unrolled u) false z.part × (z.address < length c.addresses)) (sym r.2) (tt, r.1));
    rise = λ i j a b l d e.
        (let x = ap (λ (z : BaseRead). z.address) (read_at i a d).1 in let y = ap (λ (z : BaseRead). z.address) (read_at j b e).1 in omega arith);
    once = λ i j a l d e. (let x = ap (λ (z : BaseRead). z.address) (sym (read_at i a d).1 ∙ (read_at j a e).1) in omega arith);
    agrees = λ a inside.
        (let it = of_map as_agreement c.agrees a inside in
        let f = h.agrees it.0 it.1 in
        subst (λ (z : Agreement). HasWidth c.nodes 1 z.condition × IsRead (as_cells c) z.part z.read × IsRead (as_cells c) z.part z.other) it.2
        (f.0, read_in it.0.read f.1, read_in it.0.other f.2));
    asked = λ a inside.
        (let it = of_map as_asked c.asked a inside in
        let f = h.asked it.0 it.1 in
        subst (λ (z : AskedByte). HasWidth c.nodes 1 z.condition × IsRead (as_cells c) z.part z.read × (z.byte < 256)) it.2
        (f.0, read_in it.0.read f.1, f.2));
    root = h.root;
  }

  -- reads of one address that have one byte have it in the entry's part
  pub one_as : (x : TermReading) → programs.AreOne c x → AreOne false (as_cells c) x
  one_as x h zero i j written a b e = h i j (read_below i a) (read_below j b) e
  one_as x h (suc zero) i j written a b e = absurd (let t : false ≡ true = written in cc)
  one_as x h (suc (suc p)) i j written a b e =
      let q = read_of (record { part = suc (suc p); address = i }) a in
      absurd (let none : suc (suc p) ≡ 0 = ap (λ (z : BaseRead). z.part) q.2 in omega (arith, none))
