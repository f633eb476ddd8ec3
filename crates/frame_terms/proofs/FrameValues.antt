-- Values that satisfy the clauses of a question of a frame are those of a reading of which it is true.
use Rattle.std.proofs.Common.{◌≡◌, inl, inr, refl, ap, sym, ◌∙◌, arith, ℕ, zero, suc, ◌+◌, ◌<◌, List, [], ◌∷◌, length, Some, Bool, true, false}
use Rattle.std.specs.Prelude.{Contains, ◌&&◌, nat_lt, if◌then◌else◌, map, slice_get, slice_index_or}
use Rattle.std.proofs.lemmas.Bool.Decides.{nat_tests}
use Rattle.std.proofs.lemmas.List.{length-map}
use Rattle.bilv_spec.specs.Points as points
use Rattle.bilv_spec.proofs.Pigeons.{truth}
use Rattle.bilv_spec.proofs.PointTests.{same_point, same_point_is, same_point_self}
use Rattle.frame_spec.specs.Frames.{Content, Contract, Frame}
use Rattle.frame_spec.specs.FramePoints.{Anchor, AtEntry, AtHead, Point, triple, has_heads}
use Rattle.frame_spec.specs.FrameQuestions.{Reading, IsReading, Question, asks_head, IsTrueOver}
use Rattle.frame_spec.specs.FrameWalk.{UnrolledPoint, UnrolledProgram, no_point, point_at}
use Rattle.frame_spec.specs.FrameUnrolling.{IsUnrolling}
use Rattle.frame_laws.specs.RunOfFrame.{IsTrueOfSweepOver}
use Rattle.term_spec.specs.Terms.{TermReading, InRange, with_memories, term_word}
use Rattle.term_spec.specs.WalkQuestions.{QuestionTerm}
use Rattle.frame_terms.specs.PassiveFrames.{part_reading, NamesRegister, NamesFlag, NamesMemory}
use Rattle.frame_terms.specs.FrameCells.{BaseRead, Cells, Gives, IsAllowed, read_address, Completes}
use Rattle.frame_terms.specs.FrameClauseForm.{MakesTrue}
use Rattle.frame_terms.specs.FrameAgreement.{HaveSameInputs}
use Rattle.frame_terms.specs.FrameLayers.{IsLayered, IsReadingOf, FrameValuesGiveReading, FrameReadingMakesTrue}
use Rattle.frame_laws.proofs.FrameAnswers.{frame_answers_over}
use Rattle.frame_terms.proofs.PartValues.{frame_terms_agree, frame_cells_agree, frame_addresses_agree}
use Rattle.frame_terms.proofs.FrameReadings.{part_range}

-- An anchor and a test as points of a program, by which they can be compared; and back.
abbrev coded_anchor : Anchor → points.Point
coded_anchor AtEntry = record { turns = 0; stack = []; at = 0 }
coded_anchor (AtHead s a) = record { turns = 1; stack = s; at = a }

abbrev anchor_by : ℕ → List ℕ → ℕ → Anchor
anchor_by zero s a = AtEntry
anchor_by (suc n) s a = AtHead s a

anchor_is : (x : Anchor) → anchor_by (coded_anchor x).turns (coded_anchor x).stack (coded_anchor x).at ≡ x
anchor_is AtEntry = refl
anchor_is (AtHead s a) = refl

abbrev coded_test : Bool → points.Point
coded_test true = record { turns = 1; stack = []; at = 0 }
coded_test false = record { turns = 0; stack = []; at = 0 }

abbrev test_by : ℕ → Bool
test_by zero = false
test_by (suc n) = true

test_is : (b : Bool) → test_by (coded_test b).turns ≡ b
test_is true = refl
test_is false = refl

-- two points of a frame are the same
abbrev same : Point → Point → Bool
same x y =
    same_point (triple x) (triple y)
    && (same_point (coded_anchor x.anchor) (coded_anchor y.anchor) && same_point (coded_test x.contract) (coded_test y.contract))

all_three : (a b c : Bool) → (a && (b && c)) ≡ true → (a ≡ true) × (b ≡ true) × (c ≡ true)
all_three true true true h = (refl, refl, refl)
all_three true true false h = absurd (cc)
all_three true false c h = absurd (cc)
all_three false b c h = absurd (cc)

same_is : (x y : Point) → same x y ≡ true → x ≡ y
same_is x y h =
    let q = all_three (same_point (triple x) (triple y)) (same_point (coded_anchor x.anchor) (coded_anchor y.anchor))
    (same_point (coded_test x.contract) (coded_test y.contract)) h in
    let t = same_point_is (triple x) (triple y) q.0 in
    let a = same_point_is (coded_anchor x.anchor) (coded_anchor y.anchor) q.1 in
    let c = same_point_is (coded_test x.contract) (coded_test y.contract) q.2 in
    let anchor : x.anchor ≡ y.anchor = sym (anchor_is x.anchor) ∙ ap (λ (z : points.Point). anchor_by z.turns z.stack z.at) a ∙ anchor_is y.anchor in
    let contract : x.contract ≡ y.contract = sym (test_is x.contract) ∙ ap (λ (z : points.Point). test_by z.turns) c ∙ test_is y.contract in
    ap (λ (z : points.Point). record { anchor = x.anchor; turns = z.turns; contract = x.contract; stack = z.stack; at = z.at }) t
    ∙ ap (λ z. record { anchor = z; turns = y.turns; contract = x.contract; stack = y.stack; at = y.at }) anchor
    ∙ ap (λ z. record { anchor = y.anchor; turns = y.turns; contract = z; stack = y.stack; at = y.at }) contract

same_self : (x : Point) → same x x ≡ true
same_self x = rw (same_point_self (triple x), same_point_self (coded_anchor x.anchor), same_point_self (coded_test x.contract)) refl

-- where a point stands
pub spot_in : List UnrolledPoint → Point → ℕ
spot_in [] x = 0
spot_in (q ∷ qs) x = if same q.point x then 0 else spot_in qs x + 1

spot_found : (qs : List UnrolledPoint) (x : Point) (i : ℕ) → i < length qs → (slice_index_or qs i no_point).point ≡ x → (spot_in qs x < length qs) ×
    ((slice_index_or qs (spot_in qs x) no_point).point ≡ x)
unfolding spot_in
spot_found [] x i l e = absurd (omega arith)
spot_found (q ∷ qs) x i l e = by (same q.point x) refl i l e (λ j m f. spot_found qs x j m f)
  where
    by : (b : Bool) → same q.point x ≡ b → (i : ℕ) → i < suc (length qs) → (slice_index_or (q ∷ qs) i no_point).point ≡ x →
        ((j : ℕ) → j < length qs → (slice_index_or qs j no_point).point ≡ x → (spot_in qs x < length qs) ×
        ((slice_index_or qs (spot_in qs x) no_point).point ≡ x)) →
        ((if b then 0 else spot_in qs x + 1) < suc (length qs)) × ((slice_index_or (q ∷ qs) (if b then 0 else spot_in qs x + 1) no_point).point ≡ x)
    by true t i l e f = (omega arith, same_is q.point x t)
    by false t zero l e f = absurd (let c : true ≡ false = sym (ap (same q.point) (sym e) ∙ same_self q.point) ∙ t in cc)
    by false t (suc i) l e f =
        let r = f i (omega arith) e in
        let m = r.0 in
        (omega arith, ap (λ z. (slice_index_or (q ∷ qs) z no_point).point) (let s : spot_in qs x + 1 ≡ suc (spot_in qs x) = omega arith in s) ∙ r.1)

map_get : (qs : List UnrolledPoint) (i : ℕ) → i < length qs → slice_get (map (λ q. q.point) qs) i ≡ Some ((slice_index_or qs i no_point).point)
map_get [] i l = absurd (omega arith)
map_get (q ∷ qs) zero l = refl
map_get (q ∷ qs) (suc i) l = map_get qs i (omega arith)

module _ (f : Frame) (contracts : List Contract) (k : ℕ) (u : UnrolledProgram) (un : IsUnrolling f contracts k u) where
  abbrev pub spot : Point → ℕ
  spot x = spot_in u.points x

  apart : (i j : ℕ) → i < j → j < length u.points → i < length u.points → (point_at u i).point ≡ (point_at u j).point → ⊥
  apart i j h m l e =
      let n = length-map u.points (λ q. q.point) in
      un.points.once i j h (omega arith) (map_get u.points i l ∙ ap Some e ∙ sym (map_get u.points j m))

  -- each point has one place
  one_place : (i j : ℕ) → i < length u.points → j < length u.points → (point_at u i).point ≡ (point_at u j).point → i ≡ j
  one_place i j l m e = elim (truth (nat_lt i j)) [
    | inl t ↦ absurd (apart i j (grind (arith, nat_tests)) m l e)
    | inr g ↦ elim (truth (nat_lt j i)) [
      | inl t ↦ absurd (apart j i (grind (arith, nat_tests)) l m (sym e))
      | inr h ↦ grind (arith, nat_tests)
    ]
  ]

  pub spot_is : (i : ℕ) → i < length u.points → spot (point_at u i).point ≡ i
  spot_is i l = let q = spot_found u.points (point_at u i).point i l refl in one_place (spot (point_at u i).point) i q.0 l q.1

  -- the reading of the frame, with memories for those of a reading of terms
  module _ (heads : Bool) (x : TermReading) (memories : ℕ → ℕ → ℕ) where
    abbrev content : ℕ → Content
    content p = record { regs = x.regs p; flags = x.flags p; mem = memories p }

    abbrev pub reading : Reading
    reading = record {
      state = record { pc = u.entry; regs = x.regs 0; flags = x.flags 0; mem = memories 0 };
      head = content 1;
      choice = λ q. x.choice (spot q);
      given = λ q. content (suc (suc (spot q)));
    }

    register_same : (p n : ℕ) → NamesRegister u heads p n → x.regs p n ≡ (part_reading u reading).regs p n
    register_same zero n h = refl
    register_same (suc zero) n h = refl
    register_same (suc (suc i)) n (named, (g, at, inside)) = ap (λ z. x.regs (suc (suc z)) n) (sym (spot_is i at.place))

    flag_same : (p n : ℕ) → NamesFlag u heads p n → x.flags p n ≡ (part_reading u reading).flags p n
    flag_same zero n h = refl
    flag_same (suc zero) n h = refl
    flag_same (suc (suc i)) n (named, (g, at, inside)) = ap (λ z. x.flags (suc (suc z)) n) (sym (spot_is i at.place))

    -- it has the same inputs, and these memories
    pub memories_same : (p : ℕ) → NamesMemory u heads p → memories p ≡ (part_reading u reading).mem p
    memories_same zero h = refl
    memories_same (suc zero) h = refl
    memories_same (suc (suc i)) (g, w, at, inside) = ap (λ z. memories (suc (suc z))) (sym (spot_is i at.place))

    inputs_same : HaveSameInputs u heads 0 x (part_reading u reading)
    inputs_same = record {
      regs = register_same;
      flags = flag_same;
      choice = λ i d. ap x.choice (sym (spot_is i d.0));
      base = λ p j h l. absurd (omega arith);
    }

    pub changed_same : HaveSameInputs u heads 0 (with_memories x memories) (part_reading u reading)
    changed_same = record { regs = inputs_same.regs; flags = inputs_same.flags; choice = inputs_same.choice; base = λ p j h l. absurd (omega arith) }

-- other memories change no inputs
pub only_memories : (u : UnrolledProgram) (heads : Bool) (x : TermReading) (memories : ℕ → ℕ → ℕ) (reads : ℕ) →
    HaveSameInputs u heads reads x (with_memories x memories)
only_memories u heads x memories reads = record { regs = λ p n h. refl; flags = λ p n h. refl; choice = λ i d. refl; base = λ p j h l. refl }

pub memories_only : (u : UnrolledProgram) (heads : Bool) (x : TermReading) (memories : ℕ → ℕ → ℕ) (reads : ℕ) →
    HaveSameInputs u heads reads (with_memories x memories) x
memories_only u heads x memories reads = record { regs = λ p n h. refl; flags = λ p n h. refl; choice = λ i d. refl; base = λ p j h l. refl }

pub in_range : (x : TermReading) (memories : ℕ → ℕ → ℕ) → InRange x → ((p a : ℕ) → memories p a < 256) → InRange (with_memories x memories)
in_range x memories is bytes = record { regs = is.regs; flags = is.flags; mem = bytes; choice = is.choice; base = is.base }

module _ (f : Frame) (contracts : List Contract) (k : ℕ) (question : Question) (asked : ℕ → Bool) (u : UnrolledProgram) (t : QuestionTerm) (c : Cells)
    (layered : IsLayered f contracts k question asked u t c) (v : ℕ → Bool) (made : MakesTrue u (has_heads f) c v) where
  abbrev heads : Bool
  heads = has_heads f

  abbrev x : TermReading
  x = made.reading

  m : Completes u (has_heads f && asks_head question) asked c made.reading
  m = layered.cells.complete made.reading made.in_range made.allowed

  abbrev r : Reading
  r = reading f contracts k u layered.unrolling heads x m.memories

  abbrev y : TermReading
  y = with_memories x m.memories

  is : IsReading r
  is = record {
    state = record { pc = layered.entry; regs = made.in_range.regs 0; flags = made.in_range.flags 0; mem = m.bytes 0 };
    head = record { regs = made.in_range.regs 1; flags = made.in_range.flags 1; mem = m.bytes 1 };
    choice = λ q. made.in_range.choice (spot f contracts k u layered.unrolling q);
    given = λ q. record {
      regs = made.in_range.regs (suc (suc (spot f contracts k u layered.unrolling q)));
      flags = made.in_range.flags (suc (suc (spot f contracts k u layered.unrolling q)));
      mem = m.bytes (suc (suc (spot f contracts k u layered.unrolling q)));
    };
  }

  tells : term_word (part_reading u r) t.nodes t.root ≡ 1
  tells =
      sym (frame_terms_agree u heads 0 t.nodes layered.term.terms.named y (part_reading u r)
      (changed_same f contracts k u layered.unrolling heads x m.memories)
      (memories_same f contracts k u layered.unrolling heads x m.memories) t.root layered.term.root.0)
      ∙ sym (layered.cells.same y (in_range x m.memories made.in_range m.bytes) m.gives)
      ∙ sym (frame_cells_agree u heads c layered.cells.formed x y (only_memories u heads x m.memories (length c.addresses)) c.root layered.cells.formed.root.0)
      ∙ made.root

  is_true : IsTrueOver f asked k r question
  is_true =
      let truth = (layered.term.means r is refl).0 tells in
      (frame_answers_over f layered.lawful layered.low contracts layered.among k u layered.unrolling asked layered.asks_known layered.asks_literals r
      question).0
      (record {
        reading = is;
        entry = record { state = is.state; pc = refl; link = truth.lines.link; requires = truth.lines.requires; bytes = m.have.entry };
        head = λ h a. m.have.head (rw (h, a) refl);
        ends = truth.ends;
      })

  gives : (b : BaseRead) → Contains c.reads b → x.base b.part b.address ≡ (part_reading u r).mem b.part (read_address c x b.address)
  gives b inside =
      let at = layered.cells.formed.reads b inside in
      m.gives b inside
      ∙ ap (m.memories b.part) (sym (frame_addresses_agree u heads c layered.cells.formed x y b.address at.1 (only_memories u heads x m.memories b.address)))
      ∙ ap (λ z. z (read_address c x b.address)) (memories_same f contracts k u layered.unrolling heads x m.memories b.part at.0)

  gives_reading : (r : Reading) × IsReadingOf u (has_heads f) c v r × IsTrueOver f asked k r question
  gives_reading = (
    r,
    record {
      reading = x;
      in_range = made.in_range;
      bits = made.bits;
      same = inputs_same f contracts k u layered.unrolling heads x m.memories;
      gives = gives;
    },
    is_true,
  )

pub frame_values_give_reading : FrameValuesGiveReading
frame_values_give_reading f contracts k question asked u t c layered cnf tells v sat =
    gives_reading f contracts k question asked u t c layered v (tells.extends.only v sat)

-- and back
both : (a b : Bool) → (a && b) ≡ true → (a ≡ true) × (b ≡ true)
both true true h = (refl, refl)
both true false h = absurd (cc)
both false b h = absurd (cc)

module _ (f : Frame) (contracts : List Contract) (k : ℕ) (question : Question) (asked : ℕ → Bool) (u : UnrolledProgram) (t : QuestionTerm) (c : Cells)
    (layered : IsLayered f contracts k question asked u t c) (r : Reading) (holds : IsTrueOver f asked k r question) (v : ℕ → Bool)
    (of : IsReadingOf u (has_heads f) c v r) where
  -- the reading of terms, with the memories of the frame's
  abbrev z : TermReading
  z = with_memories of.reading (part_reading u r).mem

  z_range : InRange z
  z_range = in_range of.reading (part_reading u r).mem of.in_range (part_range u r holds.reading).mem

  z_same : (reads : ℕ) → HaveSameInputs u (has_heads f) reads z of.reading
  z_same reads = memories_only u (has_heads f) of.reading (part_reading u r).mem reads

  z_inputs : HaveSameInputs u (has_heads f) 0 z (part_reading u r)
  z_inputs = record { regs = of.same.regs; flags = of.same.flags; choice = of.same.choice; base = λ p j h l. absurd (omega arith) }

  z_gives : Gives c z
  z_gives b inside =
      let at = layered.cells.formed.reads b inside in
      of.gives b inside
      ∙ ap ((part_reading u r).mem b.part)
      (sym (frame_addresses_agree u (has_heads f) c layered.cells.formed z of.reading b.address at.1 (z_same b.address)))

  word_is : (place : ℕ) → place < length c.nodes → term_word z c.nodes place ≡ term_word of.reading c.nodes place
  word_is place l = frame_cells_agree u (has_heads f) c layered.cells.formed z of.reading (z_same (length c.addresses)) place l

  sweep : IsTrueOfSweepOver u (has_heads f) asked r question
  sweep =
      (frame_answers_over f layered.lawful layered.low contracts layered.among k u layered.unrolling asked layered.asks_known layered.asks_literals r
      question).1 holds

  z_allowed : IsAllowed c z
  z_allowed =
      layered.cells.sound z z_range z_gives (record {
        entry = sweep.entry.bytes;
        head = λ e. (let q = both (has_heads f) (asks_head question) e in sweep.head q.0 q.1);
      })

  allowed : IsAllowed c of.reading
  allowed = record {
    agrees = λ a inside e. z_allowed.agrees a inside (word_is a.condition (layered.cells.formed.agrees a inside).0.0 ∙ e);
    asked = λ a inside e. z_allowed.asked a inside (word_is a.condition (layered.cells.formed.asked a inside).0.0 ∙ e);
  }

  root_true : term_word of.reading c.nodes c.root ≡ 1
  root_true =
      sym (word_is c.root layered.cells.formed.root.0)
      ∙ layered.cells.same z z_range z_gives
      ∙ frame_terms_agree u (has_heads f) 0 t.nodes layered.term.terms.named z (part_reading u r) z_inputs (λ p h. refl) t.root layered.term.root.0
      ∙ (layered.term.means r holds.reading sweep.entry.pc).1
      (record { lines = record { link = sweep.entry.link; requires = sweep.entry.requires }; ends = sweep.ends })

  makes : MakesTrue u (has_heads f) c v
  makes = record { reading = of.reading; in_range = of.in_range; bits = of.bits; allowed = allowed; root = root_true }

pub frame_reading_makes_true : FrameReadingMakesTrue
frame_reading_makes_true f contracts k question asked u t c layered r holds v of = makes f contracts k question asked u t c layered r holds v of
