-- Cells of questions of frames, and of those of programs.
use Rattle.std.proofs.Common.{◌≡◌, ℕ, zero, suc, ◌+◌, ◌*◌, ◌≤◌, Bool, true, false, List, [], ◌∷◌, Some, None, length, map, refl, ap, sym, ◌∙◌, subst, arith}
use Rattle.std.specs.Prelude.{◌&&◌, slice_index_or, Contains}
use Rattle.std.proofs.Math.Nat.{mul-le-mul_right}
use Rattle.term_spec.specs.Terms.{TermNode, with_memories}
use Rattle.walk_spec.specs.Unrolled as tables
use Rattle.walk_spec.specs.Prices.{stores_of, edges_of}
use Rattle.term_spec.specs.WalkQuestions as walks
use Rattle.term_spec.specs.WalkQuestions.{Room, is_asked}
use Rattle.term_spec.specs.Cells as cells
use Rattle.frame_spec.specs.FrameQuestions.{asks_head}
use Rattle.frame_spec.specs.FrameWalk.{StepsOver, Gift, UnrolledProgram, no_point}
use Rattle.frame_laws.specs.HeadlessLaws.{as_unrolled}
use Rattle.frame_laws.specs.FramePrices as prices
use Rattle.frame_terms.specs.PassiveFrames as frames
use Rattle.frame_terms.specs.PassiveFrames.{NamesMemory}
use Rattle.frame_terms.specs.HeadlessTerms.{as_agreement, as_asked, as_cells}
use Rattle.frame_terms.proofs.HeadlessCells.{allowed_as, allowed_back, formed_back, gives_as, gives_back, one_memory}
use Rattle.frame_terms.proofs.HeadlessNodes.{all_named_as}
use Rattle.term_dag.specs.declared.nodes.Term.{Term}
use Rattle.question_form.specs.declared.questions.Question.{Question}
use Rattle.question_form.specs.declared.unrolled.Unrolled.{Unrolled}
use Rattle.question_form.specs.Questions.{program_of_question, term_of}
use Rattle.question_form.specs.FrameQuestions.{frame_of_question, heads_of_question, frame_question_of, is_of_heads}
use Rattle.program_points.specs.Tables.{stack_at}
use Rattle.question_form.specs.declared.unrolled.Deed.{Deed}
use Rattle.question_form.specs.declared.unrolled.Deed.TheVariants as deeds
use Rattle.question_form.specs.declared.unrolled.Deed.TheVariants.{Row, Arrival}
use Rattle.question_form.specs.declared.unrolled.Point.{Point}
use Rattle.question_form.specs.Views.{code_of}
use Rattle.question_form.specs.FrameViews.{action_of, frame_unrolled_of, points_of, IsHeadless}
use Rattle.question_form.proofs.FrameValues.{headless_values}
use Rattle.mem_cells.specs.declared.cells.Agreement.{Agreement}
use Rattle.mem_cells.specs.declared.cells.AskedByte.{AskedByte}
use Rattle.mem_cells.specs.declared.cells.CelledWords.{CelledWords}
use Rattle.mem_cells.specs.Views.{agreement_of, asked_of, cells_of, AreCellsOf}
use Rattle.mem_cells.specs.FrameViews.{frame_agreement_of, frame_asked_of, frame_cells_of, frame_of_cells, AreFrameCellsOf}
use Rattle.mem_cells.specs.Words.{places_of, StandForEach, TellsWithWords, AreCellsWithWords}
use Rattle.mem_cells.specs.Parts.{CountsGifts}
use Rattle.mem_cells.specs.Tells.{ArePlacesOf, TellsWords, AreMadeOf}
use Rattle.mem_cells.proofs.Told.{contains_map}

least : (n a l s : ℕ) → n ≤ a * (2 + s) → a ≤ l → n ≤ l * (2 + s)
least n a l s h k = let d : a * (2 + s) ≤ l * (2 + s) = mul-le-mul_right (2 + s) k in omega (arith, h, d)

-- a point where a row is executed makes no contract step
no_step : (u : Unrolled) (d : Deed) (list : _) (stack : List ℕ) (x : Gift) → d ≡ Row → action_of u d list stack ≡ StepsOver x → ⊥
no_step u Row None stack x q e = absurd (cc)
no_step u Row (Some list) stack x q e = absurd (cc)
no_step u Arrival list stack x q e = absurd (cc)
no_step u (deeds.Contract n) list stack x q e = absurd (cc)

no_gift : (u : Unrolled) (ps : List Point) (i : ℕ) (x : Gift) → ((q : Point) → Contains ps q → q.deed ≡ Row) →
    (slice_index_or (points_of u ps) i no_point).does ≡ StepsOver x → ⊥
no_gift u [] i x h e = absurd (cc)
no_gift u (q ∷ ps) zero x h e = no_step u q.deed (code_of u q).list (stack_at u.frames.items q.stack) x (h q (0, omega arith, refl)) e
no_gift u (q ∷ ps) (suc i) x h e = no_gift u ps i x (λ p k. h p (suc k.0, omega (arith, k.1), k.2)) e

-- so no gift has a memory
pub headless_gifts : (v : Unrolled) → IsHeadless v → CountsGifts (frame_unrolled_of v)
headless_gifts v h i g = absurd (no_gift v v.points.items i g.0 h.deeds g.2.does)

-- cells that are made of terms within the room are those of the question
pub frame_told : (q : Question) (words : List Term) (added : List ℕ) (c : CelledWords) →
    frames.AreTermsWithin (frame_of_question q) (heads_of_question q) (frames.question_room (frame_of_question q) (heads_of_question q)) (term_of q).nodes →
    AreMadeOf q words added c → AreFrameCellsOf q added c.celled
frame_told q words added c w h =
    let t = (term_of q).nodes in
    let u = frame_of_cells c.celled in
    let within : frames.AreTermsWithin u (heads_of_question q) (frames.question_room u (heads_of_question q)) t =
    subst (λ (z : Question). frames.AreTermsWithin (frame_of_question z) (heads_of_question q) (frames.question_room (frame_of_question z)
    (heads_of_question q)) t)
    (sym h.of) w in
    record {
      of = h.of;
      tells = record {
        formed = h.tells.formed;
        same = h.tells.same;
        sound = h.tells.sound;
        complete = h.tells.complete;
        gates = h.tells.gates (prices.loads_of u) (prices.stores_of u) (prices.edges_of u) within.loads within.stores within.joins;
        few = omega (arith, h.tells.few, within.loads);
        few_reads = least (length (frame_cells_of c.celled).reads) (length (frame_cells_of c.celled).addresses) (prices.loads_of u) (prices.stores_of u)
            h.tells.few_reads (omega (arith, h.tells.few, within.loads));
      };
    }

module _ (c : cells.Cells) where
  each_back : (nodes : List TermNode) (words places : List ℕ) → ArePlacesOf nodes (as_cells c) words places → StandForEach nodes c words places
  each_back nodes [] [] h = tt
  each_back nodes [] (p ∷ ps) h = absurd h
  each_back nodes (w ∷ ws) [] h = absurd h
  each_back nodes (w ∷ ws) (p ∷ ps) h =
      (record { width = h.0.width; value = λ x i v. h.0.value x i (gives_as c x v) }, each_back nodes ws ps h.1)

  told_back : (u : tables.UnrolledProgram) (t : walks.QuestionTerm) (words : List ℕ) (asked : ℕ → Bool) (places : List ℕ) (room : Room) →
      walks.AreTermsWithin u room t.nodes → TellsWords (as_unrolled u) false false t words asked (as_cells c) places → TellsWithWords u t words asked c places
  told_back u t words asked places room w h = record {
    formed = formed_back c u h.formed;
    same = λ x i v. h.same x i (gives_as c x v);
    each = each_back t.nodes words places h.each;
    sound = λ x i v m. allowed_back c x (h.sound x i (gives_as c x v) (record { entry = m; head = λ e. absurd (cc) }));
    complete = λ x i a.
        (let m = h.complete x i (allowed_as c x a) in
        (m.memories 0, m.bytes 0, m.have.entry, one_memory c u (formed_back c u h.formed) x m.memories (gives_back c (with_memories x m.memories) m.gives)));
    gates = λ loads l. h.gates loads (stores_of u) (edges_of u) l w.stores w.joins;
    reads = λ loads l. omega (arith, h.few, l);
  }

-- terms of a program read the entry's memory alone
one_part : (v : Unrolled) (heads : Bool) → IsHeadless v → heads ≡ false → (p : ℕ) → NamesMemory (frame_unrolled_of v) heads p → p ≡ 0
one_part v heads k e zero h = refl
one_part v heads k e (suc zero) h = absurd (let z : false ≡ true = sym e ∙ h in (cc))
one_part v heads k e (suc (suc i)) h = absurd (no_gift v v.points.items i h.0 k.deeds h.2.does)

agreements_flat : (ts : List Agreement) → ((a : Agreement) → Contains ts a → a.part ≡ 0) → map frame_agreement_of ts ≡ map as_agreement (map agreement_of ts)
agreements_flat [] h = refl
agreements_flat (t ∷ ts) h =
    ap (λ z. record { condition = t.condition.0; part = z; read = t.read; other = t.other } ∷ map frame_agreement_of ts) (h t (0, omega arith, refl))
    ∙ ap (λ z. as_agreement (agreement_of t) ∷ z) (agreements_flat ts (λ a k. h a (suc k.0, omega (arith, k.1), k.2)))

asked_flat : (xs : List AskedByte) → ((a : AskedByte) → Contains xs a → a.part ≡ 0) → map frame_asked_of xs ≡ map as_asked (map asked_of xs)
asked_flat [] h = refl
asked_flat (x ∷ xs) h =
    ap (λ z. record { condition = x.condition.0; part = z; read = x.read; byte = x.byte } ∷ map frame_asked_of xs) (h x (0, omega arith, refl))
    ∙ ap (λ z. as_asked (asked_of x) ∷ z) (asked_flat xs (λ a k. h a (suc k.0, omega (arith, k.1), k.2)))

-- what is made of a program's question are cells of the program
pub made_flat : (q : Question) (words : List Term) (added : List ℕ) (c : CelledWords) → IsHeadless q.passive.now.unrolled.now → AreMadeOf q words added c →
    frame_cells_of c.celled ≡ as_cells (cells_of c.celled)
made_flat q words added c k h =
    let v = c.celled.question.now.passive.now.unrolled.now in
    let own : IsHeadless v = subst (λ (z : Question). IsHeadless z.passive.now.unrolled.now) (sym h.of) k in
    let one = one_part v (heads_of_question q) own k.heads in
    let f = h.tells.formed in
    let all = frame_cells_of c.celled in
    let reads = h.tells.flat one in
    let agrees = agreements_flat c.celled.agrees.items (λ a inside.
    one a.part (f.reads _ (f.agrees (frame_agreement_of a) (contains_map frame_agreement_of c.celled.agrees.items a inside)).1).0) in
    let asked = asked_flat c.celled.asked.items (λ a inside.
    one a.part (f.reads _ (f.asked (frame_asked_of a) (contains_map frame_asked_of c.celled.asked.items a inside)).1).0) in
    ap (λ z. record all { reads = z }) reads
    ∙ ap (λ z. record all { reads = (as_cells (cells_of c.celled)).reads; agrees = z }) agrees
    ∙ ap (λ z. record all { reads = (as_cells (cells_of c.celled)).reads; agrees = (as_cells (cells_of c.celled)).agrees; asked = z }) asked

pub made_headless : (q : Question) (words : List Term) (added : List ℕ) (c : CelledWords) (room : Room) → IsHeadless q.passive.now.unrolled.now →
    walks.AreTermsWithin (program_of_question q) room (term_of q).nodes → AreMadeOf q words added c → AreCellsWithWords q words added c
made_headless q words added c room k w h =
    let u = program_of_question q in
    let t = term_of q in
    let asks = is_asked added u.literals in
    let ws = places_of words in
    let ps = places_of c.words.items in
    let eu : frame_of_cells c.celled ≡ as_unrolled u = ap frame_of_question h.of ∙ headless_values q.passive.now.unrolled.now k in
    let eo : is_of_heads q ≡ false = ap (λ z. z && asks_head (frame_question_of q)) k.heads in
    let made = subst (λ z. TellsWords (as_unrolled u) false false t ws asks z ps) (made_flat q words added c k h)
    (subst (λ (z : Bool). TellsWords (as_unrolled u) false z t ws asks (frame_cells_of c.celled) ps) eo
    (subst (λ (z : Bool). TellsWords (as_unrolled u) z (is_of_heads q) t ws asks (frame_cells_of c.celled) ps) k.heads
    (subst (λ (z : UnrolledProgram). TellsWords z (heads_of_question q) (is_of_heads q) t ws asks (frame_cells_of c.celled) ps) eu h.tells))) in
    record {
      of = h.of;
      tells = subst (λ (z : Question). TellsWithWords (program_of_question z) t ws asks (cells_of c.celled) ps) (sym h.of)
          (told_back (cells_of c.celled) u t ws asks ps room w made);
    }

-- terms of a program are over the inputs of its frame
pub headless_named : (q : Question) (nodes : List TermNode) → IsHeadless q.passive.now.unrolled.now → walks.AreNamedBelow (program_of_question q) 0 nodes →
    frames.AreNamedBelow (frame_of_question q) (heads_of_question q) 0 nodes
headless_named q nodes k h =
    subst (λ (z : Bool). frames.AreNamedBelow (frame_of_question q) z 0 nodes) (sym k.heads)
    (subst (λ (z : UnrolledProgram). frames.AreNamedBelow z false 0 nodes) (sym (headless_values q.passive.now.unrolled.now k))
    (all_named_as (program_of_question q) nodes 0 h))

-- so they tell a question's term
pub told_within : (q : Question) (added : List ℕ) (words : List Term) (c : CelledWords) →
    walks.AreTermsWithin (program_of_question q) (walks.question_room (program_of_question q)) (term_of q).nodes → AreCellsWithWords q words added c →
    AreCellsOf q added c.celled
told_within q added words c w h =
    let t = (term_of q).nodes in
    let within = subst (λ (z : Question). walks.AreTermsWithin (program_of_question z) (walks.question_room (program_of_question z)) t) (sym h.of) w in
    record {
      of = h.of;
      tells = record {
        formed = h.tells.formed;
        same = h.tells.same;
        sound = h.tells.sound;
        complete = h.tells.complete;
        gates = h.tells.gates _ within.loads;
        reads = h.tells.reads _ within.loads;
      };
    }
