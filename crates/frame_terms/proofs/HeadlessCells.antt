-- The cells of a term of a program are those of the term of its frame.
use Rattle.std.proofs.Common.{◌≡◌, refl, ap, sym, ◌∙◌, subst, arith, ℕ, ◌+◌, ◌*◌, ◌<◌, ◌≤◌, length, Some, Bool, false}
use Rattle.std.specs.Prelude.{Contains, map, slice_get, slice_index}
use Rattle.word_spec.specs.Memory.{Memory}
use Rattle.word_spec.specs.RowFiles.{from_to}
use Rattle.bilv_spec.proofs.Pigeons.{at_in}
use Rattle.bilv_spec.proofs.PointSteps.{in_map}
use Rattle.bilv_spec.proofs.PointsInGraph.{of_map}
use Rattle.term_spec.specs.Terms.{TermReading, HasWidth, BaseNode, node_at, with_mem, with_memories}
use Rattle.walk_spec.specs.Unrolled as tables
use Rattle.term_spec.specs.WalkQuestions as walks
use Rattle.walk_spec.specs.Prices as prices
use Rattle.term_spec.specs.Cells as cells
use Rattle.term_spec.specs.Cells.{cell_gates}
use Rattle.walk_laws.proofs.CellValues.{word_same}
use Rattle.walk_laws.proofs.InputOrder.{get_of, row_get, row_is, row_length}
use Rattle.frame_laws.specs.HeadlessLaws.{as_unrolled}
use Rattle.frame_laws.specs.FramePrices.{loads_of, stores_of, edges_of, known_of}
use Rattle.frame_terms.specs.PassiveFrames.{NamesMemory}
use Rattle.frame_terms.specs.FrameCells.{BaseRead, Agreement, AskedByte, read_address, Gives, Agrees, HasByte, IsAllowed, IsRead, AreFormed, TellsCells}
use Rattle.frame_terms.specs.HeadlessTerms.{as_read, as_agreement, as_asked, as_cells, HeadlessCells}
use Rattle.frame_laws.proofs.FrameSums.{headless_bounds}
use Rattle.frame_terms.proofs.HeadlessNodes.{named_as, named_back, all_named_as, all_named_back}

module _ (c : cells.Cells) where
  -- base reads
  read_in : (j : ℕ) → j < length c.addresses → IsRead (as_cells c) 0 j
  read_in j l = at_in (map as_read (from_to 0 (length c.addresses))) j (as_read j) (row_get as_read 0 (length c.addresses) j l
      ∙ ap (λ z. Some (as_read z)) (let z : 0 + j ≡ j = omega arith in z))

  read_at : (i : ℕ) (b : BaseRead) → slice_get (map as_read (from_to 0 (length c.addresses))) i ≡ Some b → (i < length c.addresses) × (b ≡ as_read i)
  read_at i b e = row_is as_read (length c.addresses) i b e

  read_of : (b : BaseRead) → Contains (map as_read (from_to 0 (length c.addresses))) b → (j : ℕ) × (j < length c.addresses) × (b ≡ as_read j)
  read_of b h = let q = get_of (map as_read (from_to 0 (length c.addresses))) b h in let r = read_at q.0 b q.1 in (q.0, r.0, r.1)

  read_below : (part : ℕ) (j : ℕ) → IsRead (as_cells c) part j → j < length c.addresses
  read_below part j h = let r = read_of (record { part = part; address = j }) h in subst (λ z. z < length c.addresses) (sym (ap (λ z. z.address) r.2)) r.1

  -- what the reads give, and what is said of them
  pub gives_as : (x : TermReading) → cells.Gives c x → Gives (as_cells c) x
  gives_as x h b inside = let r = read_of b inside in subst (λ z. given z) (sym r.2) (h r.0 r.1)
    where
      given : BaseRead → Type 0
      given z = x.base z.part z.address ≡ x.mem z.part (read_address (as_cells c) x z.address)

  pub gives_back : (x : TermReading) → Gives (as_cells c) x → cells.Gives c x
  gives_back x h j l = h (as_read j) (read_in j l)

  pub allowed_as : (x : TermReading) → cells.IsAllowed c x → IsAllowed (as_cells c) x
  allowed_as x h = record {
    agrees = λ a inside.
        (let it = of_map as_agreement c.agrees a inside in subst (λ z. Agrees (as_cells c) x z) it.2 (λ e. h.agrees it.0 it.1 e));
    asked = λ a inside.
        (let it = of_map as_asked c.asked a inside in subst (λ z. HasByte (as_cells c) x z) it.2 (λ e. h.asked it.0 it.1 e));
  }

  pub allowed_back : (x : TermReading) → IsAllowed (as_cells c) x → cells.IsAllowed c x
  allowed_back x h = record {
    agrees = λ a inside e. h.agrees (as_agreement a) (in_map as_agreement c.agrees a inside) e;
    asked = λ a inside e. h.asked (as_asked a) (in_map as_asked c.asked a inside) e;
  }

  module _ (u : tables.UnrolledProgram) where
    -- form
    base_in : (p j : ℕ) → (p ≡ 0) × (j < length c.addresses) → IsRead (as_cells c) p j
    base_in p j (e, l) = subst (λ (z : ℕ). IsRead (as_cells c) z j) (sym e) (read_in j l)

    formed_as : cells.AreFormed u c → AreFormed (as_unrolled u) false (as_cells c)
    formed_as h = record {
      typed = h.typed;
      words = h.words;
      named = all_named_as u c.nodes (length c.addresses) h.named;
      bases = λ p j inside. base_in p j (h.named (BaseNode p j) inside);
      addresses = h.addresses;
      early = λ j i l m. named_as u j (node_at c.nodes i) (h.early j i l m);
      reads = λ b inside. (let r = read_of b inside in subst (λ (z : BaseRead). NamesMemory (as_unrolled u) false z.part × (z.address < length c.addresses))
          (sym r.2) (tt, r.1));
      rise = λ i j a b l d e.
          (let x = ap (λ z. z.address) (read_at i a d).1 in let y = ap (λ z. z.address) (read_at j b e).1 in omega arith);
      once = λ i j a l d e. (let x = ap (λ z. z.address) (sym (read_at i a d).1 ∙ (read_at j a e).1) in omega arith);
      agrees = λ a inside.
          (let it = of_map as_agreement c.agrees a inside in
          let f = h.agrees it.0 it.1 in
          subst (λ (z : Agreement). HasWidth c.nodes 1 z.condition × IsRead (as_cells c) z.part z.read × IsRead (as_cells c) z.part z.other) it.2
          (f.0, read_in it.0.read f.1, read_in it.0.other f.2));
      asked = λ a inside.
          (let it = of_map as_asked c.asked a inside in
          let f = h.asked it.0 it.1 in
          subst (λ (z : AskedByte). HasWidth c.nodes 1 z.condition × IsRead (as_cells c) z.part z.read × (z.byte < 256)) it.2
          (f.0, read_in it.0.read f.1, f.2));
      root = h.root;
    }

    pub formed_back : AreFormed (as_unrolled u) false (as_cells c) → cells.AreFormed u c
    formed_back h = record {
      typed = h.typed;
      words = h.words;
      named = all_named_back u c.nodes (length c.addresses) h.named;
      addresses = h.addresses;
      early = λ j i l m. named_back u j (node_at c.nodes i) (h.early j i l m);
      agrees = λ a inside.
          (let f = h.agrees (as_agreement a) (in_map as_agreement c.agrees a inside) in (f.0, read_below 0 a.read f.1, read_below 0 a.other f.2));
      asked = λ a inside. (let f = h.asked (as_asked a) (in_map as_asked c.asked a inside) in (f.0, read_below 0 a.read f.1, f.2));
      root = h.root;
    }

    -- the memories of other parts are read nowhere
    pub one_memory : cells.AreFormed u c → (x : TermReading) (memories : ℕ → Memory) → cells.Gives c (with_memories x memories) →
        cells.Gives c (with_mem x (memories 0))
    one_memory formed x memories h j l =
        h j l ∙ ap (memories 0) (word_same u c formed (with_memories x memories) (with_mem x (memories 0))
        (record { regs = λ n h. refl; flags = λ f h. refl; choice = λ i h. refl; base = λ i h. refl }) (slice_index c.addresses j) (formed.addresses j l).0)

    -- what the cells tell
    module _ (t : walks.QuestionTerm) (asked : ℕ → Bool) where
      least : (n l s m : ℕ) → m ≡ n → n ≤ l → m ≤ l * (2 + s)
      least n l s m e h = let d : l * (2 + s) ≡ 2 * l + l * s = grind arith in omega arith

      cost_same : cell_gates (loads_of (as_unrolled u)) (stores_of (as_unrolled u)) (edges_of (as_unrolled u)) (known_of (as_unrolled u))
          ≡ cell_gates (prices.loads_of u) (prices.stores_of u) (prices.edges_of u) (prices.known_of u)
      cost_same =
          ap (λ z. cell_gates z (stores_of (as_unrolled u)) (edges_of (as_unrolled u)) (prices.known_of u)) (headless_bounds u).3
          ∙ ap (λ z. cell_gates (prices.loads_of u) z (edges_of (as_unrolled u)) (prices.known_of u)) (headless_bounds u).5
          ∙ ap (λ z. cell_gates (prices.loads_of u) (prices.stores_of u) z (prices.known_of u)) (headless_bounds u).6

      cells_as : cells.TellsCells u t asked c → TellsCells (as_unrolled u) false false t asked (as_cells c)
      cells_as h = record {
        formed = formed_as h.formed;
        same = λ x range gives. h.same x range (gives_back x gives);
        sound = λ x range gives has. allowed_as x (h.sound x range (gives_back x gives) has.entry);
        complete = λ x range allowed.
            (let m = h.complete x range (allowed_back x allowed) in record {
              memories = λ p. m.0;
              bytes = λ p a. m.1 a;
              have = record { entry = m.2; head = λ e. absurd (cc) };
              gives = gives_as (with_mem x m.0) m.3;
            });
        gates = (let a = h.gates in let same = cost_same in omega arith);
        few = (let a = h.reads in let b = (headless_bounds u).3 in omega arith);
        few_reads =
            (let a = h.reads in let b = (headless_bounds u).3 in let n = row_length as_read 0 (length c.addresses) in
            least (length c.addresses) (loads_of (as_unrolled u)) (stores_of (as_unrolled u)) (length (as_cells c).reads) n (omega arith));
      }

      cells_back : TellsCells (as_unrolled u) false false t asked (as_cells c) → cells.TellsCells u t asked c
      cells_back h = record {
        formed = formed_back h.formed;
        same = λ x range gives. h.same x range (gives_as x gives);
        sound = λ x range gives has. allowed_back x (h.sound x range (gives_as x gives) (record { entry = has; head = λ e. absurd (cc) }));
        complete = λ x range allowed.
            (let m = h.complete x range (allowed_as x allowed) in
            (m.memories 0, m.bytes 0, m.have.entry, one_memory (formed_back h.formed) x m.memories (gives_back (with_memories x m.memories) m.gives)));
        gates = (let a = h.gates in let same = cost_same in omega arith);
        reads = (let a = h.few in let b = (headless_bounds u).3 in omega arith);
      }

pub headless_cells : HeadlessCells
headless_cells u t asked c = ((λ h. cells_as c u t asked h), (λ h. cells_back c u t asked h))
