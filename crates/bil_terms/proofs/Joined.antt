-- One run, of those behind two sides.
use Rattle.std.proofs.Common.{◌≡◌, ℕ, ◌<◌, List, length, Some, None, sym, ap, ◌∙◌, arith}
use Rattle.std.specs.Prelude.{Option, bit_or}
use Rattle.std.proofs.lemmas.List.{length-map}
use Rattle.term_spec.specs.Terms.{TermReading, TermNode, term_word}
use Rattle.term_spec.specs.Passive.{AreNames}
use Rattle.term_dag.specs.Made.{Grew}
use Rattle.term_dag.specs.declared.nodes.Term.{Term}
use Rattle.term_dag.proofs.Growth.{grew_on, grew_more, grew_width, inputs_on}
use Rattle.term_names.specs.Views.{form_of, names_of}
use Rattle.term_names.specs.declared.names.Names.{Names}
use Rattle.term_names.specs.Choices.{places, IsChosen}
use Rattle.term_names.specs.Chosen.{AreSelected}
use Rattle.bil_terms.specs.declared.run.Run.{Run}
use Rattle.bil_terms.specs.Runs.{Jumps}
use Rattle.bil_terms.specs.Merged.{IsEitherOf, IsLiveAfter, IsTargetAfter, AreSides, IsMerged}
use Rattle.bil_terms.proofs.Rows.{differs_most}
use Rattle.bil_terms.proofs.Scopes.{word_kept, denotes_kept}
use Rattle.bil_terms.proofs.Distances.{same_count, differs_sides, differing_sides, differs_kept, differing_kept}

pub either_of : (a b v w : ℕ) → a ≡ v → b ≡ w → bit_or a b ≡ bit_or v w
either_of a b v w e f = ap (λ z. bit_or z b) e ∙ ap (bit_or v) f

-- a bit stays one of two
pub either_kept : (old new : List TermNode) (g l s j n t a b : ℕ) → Grew old new g l s j n → t < length old → a < length old → b < length old →
    IsEitherOf old t a b → IsEitherOf new t a b
either_kept old new g l s j n t a b k ht ha hb e = λ x i.
    word_kept old new g l s j n t x k ht ∙ e x i ∙ either_of _ _ _ _ (sym (word_kept old new g l s j n a x k ha)) (sym (word_kept old new g l s j n b x k hb))

pub names_kept : (old new : List TermNode) (g l s j k : ℕ) (n : Names) → Grew old new g l s j k → AreNames (form_of n) old (names_of n) →
    AreNames (form_of n) new (names_of n)
names_kept old new g l s j k n p h = record {
  registers = h.registers;
  flags = h.flags;
  words = λ i m. grew_width old new g l s j k 32 _ p (h.words i m);
  bits = λ f m. grew_width old new g l s j k 1 _ p (h.bits f m);
  memory = grew_width old new g l s j k 0 _ p h.memory;
}

jump_merged : (d0 d1 : List TermNode) (x : TermReading) (ja ta js ts : ℕ) (o : Option ℕ) → term_word x d1 js ≡ term_word x d0 ja →
    (term_word x d0 ja ≡ 1 → term_word x d1 ts ≡ term_word x d0 ta) → Jumps d0 x ja ta o → Jumps d1 x js ts o
jump_merged d0 d1 x ja ta js ts None e f h = e ∙ h
jump_merged d0 d1 x ja ta js ts (Some v) e f h = (e ∙ h.0, f h.0 ∙ h.1)

-- what is asked where the next part is chosen: the bits of the run
pub either_later : (d0 d1 d2 : List TermNode) (c : ℕ) (r : Run) (one other : ℕ) (a b : Run) (t j : ℕ) → AreSides d0 c r one other a b →
    IsTargetAfter d0 d1 c a b t →
    IsChosen d1 d2 1 c a.jumped.0 b.jumped.0 j → IsEitherOf d2 r.live.0 one other
either_later d0 d1 d2 c r one other a b t j q p k =
    either_kept d0 d2 _ _ _ _ _ r.live.0 one other (grew_on d0 d1 d2 _ _ _ _ _ _ _ _ _ _ p.grew k.grew) q.live_bit.0 q.one_bit.0 q.other_bit.0 q.either

-- and the terms of what a state has
pub names_later : (d0 d1 d2 d3 : List TermNode) (c : ℕ) (a b : Run) (live one other la lb t j l : ℕ) (n : Names) → AreNames (form_of n) d0 (names_of n) →
    IsTargetAfter d0 d1 c a b t →
    IsChosen d1 d2 1 c a.jumped.0 b.jumped.0 j → IsLiveAfter d2 d3 live one other la lb l → AreNames (form_of n) d3 (names_of n)
names_later d0 d1 d2 d3 c a b live one other la lb t j l n h p k q =
    names_kept d0 d3 _ _ _ _ _ n (grew_on d0 d2 d3 _ _ _ _ _ _ _ _ _ _ (grew_on d0 d1 d2 _ _ _ _ _ _ _ _ _ _ p.grew k.grew) q.grew) h

-- what was chosen between the parts of two sides makes one run of them
pub runs_merged : (d0 d1 d2 d3 d4 : List TermNode) (c : ℕ) (r : Run) (one other : ℕ) (a b s : Run) → AreSides d0 c r one other a b →
    IsTargetAfter d0 d1 c a b s.target.0 →
    IsChosen d1 d2 1 c a.jumped.0 b.jumped.0 s.jumped.0 → IsLiveAfter d2 d3 r.live.0 one other a.live.0 b.live.0 s.live.0 →
    AreSelected d3 d4 c a.names b.names s.names →
    IsMerged d0 d4 c r one other a b s
runs_merged d0 d1 d2 d3 d4 c r one other a b s q t j l n =
    let g02 = grew_on d0 d1 d2 _ _ _ _ _ _ _ _ _ _ t.grew j.grew in
    let g03 = grew_on d0 d2 d3 _ _ _ _ _ _ _ _ _ _ g02 l.grew in
    let g04 = grew_on d0 d3 d4 _ _ _ _ _ _ _ _ _ _ g03 n.grew in
    let g24 = grew_on d2 d3 d4 _ _ _ _ _ _ _ _ _ _ l.grew n.grew in
    let g14 = grew_on d1 d2 d4 _ _ _ _ _ _ _ _ _ _ j.grew g24 in
    let fa = q.first_form in
    let fb = q.second_form in
    let fn = n.form in
    let ra = same_count r.names.registers.items a.names.registers.items fa.registers in
    let rb = same_count r.names.registers.items b.names.registers.items fb.registers in
    let rs = same_count r.names.registers.items s.names.registers.items (fa.registers ∙ fn.registers) in
    let ka = same_count r.names.flags.items a.names.flags.items fa.flags in
    let kb = same_count r.names.flags.items b.names.flags.items fb.flags in
    let ks = same_count r.names.flags.items s.names.flags.items (fa.flags ∙ fn.flags) in
    let la = length-map a.names.registers.items (λ (z : Term). z.0) in
    let ma = length-map a.names.flags.items (λ (z : Term). z.0) in
    let registers = differing_sides (places r.names.registers.items) (places a.names.registers.items) (places b.names.registers.items) ra in
    let flags = differing_sides (places r.names.flags.items) (places a.names.flags.items) (places b.names.flags.items) ka in
    let memory = differs_sides r.names.memory.0 a.names.memory.0 b.names.memory.0 in
    let target = differs_sides r.target.0 a.target.0 b.target.0 in
    let jumped = differs_most a.jumped.0 b.jumped.0 in
    let later_registers = differing_kept (places r.names.registers.items) (places a.names.registers.items) (places b.names.registers.items)
    (places s.names.registers.items) ra rb rs
    (λ i h e. n.kept_registers i (omega arith) e) in
    let later_flags = differing_kept (places r.names.flags.items) (places a.names.flags.items) (places b.names.flags.items)
    (places s.names.flags.items) ka kb ks
    (λ i h e. n.kept_flags i (omega arith) e) in
    let later_memory = differs_kept r.names.memory.0 a.names.memory.0 b.names.memory.0 s.names.memory.0 n.kept_memory in
    let later_target = t.apart r.target.0 in
    let at : (x : TermReading) (v : ℕ) → term_word x d0 c ≡ v → term_word x d3 c ≡ v = λ x v h. word_kept d0 d3 _ _ _ _ _ c x g03 q.condition_bit.0 ∙ h in
    let early : (x : TermReading) (v : ℕ) → term_word x d0 c ≡ v → term_word x d1 c ≡ v = λ x v h. word_kept d0 d1 _ _ _ _ _ c x t.grew q.condition_bit.0 ∙ h in
    let leads : (x : TermReading) → term_word x d4 s.target.0 ≡ term_word x d1 s.target.0 = λ x. word_kept d1 d4 _ _ _ _ _ s.target.0 x g14 t.place.0 in
    let jumps : (x : TermReading) → term_word x d4 s.jumped.0 ≡ term_word x d2 s.jumped.0 = λ x. word_kept d2 d4 _ _ _ _ _ s.jumped.0 x g24 j.place.0 in
    let first : (x : TermReading) → term_word x d1 a.jumped.0
    ≡ term_word x d0 a.jumped.0 = λ x. word_kept d0 d1 _ _ _ _ _ a.jumped.0 x t.grew q.first.jumped.0 in
    let second : (x : TermReading) → term_word x d1 b.jumped.0
    ≡ term_word x d0 b.jumped.0 = λ x. word_kept d0 d1 _ _ _ _ _ b.jumped.0 x t.grew q.second.jumped.0 in record {
      grew = grew_more d0 d4 _ _ _ _ _ _ _ _ _ _ (omega arith) (omega arith) (omega arith) (omega arith) (omega arith) g04;
      inputs = inputs_on d0 d3 d4 (λ m. ⊥) (inputs_on d0 d2 d3 (λ m. ⊥) (inputs_on d0 d1 d2 (λ m. ⊥) t.inputs j.inputs) l.inputs) n.inputs;
      run = record {
        names = n.names;
        jumped = grew_width d2 d4 _ _ _ _ _ 1 s.jumped.0 g24 j.place;
        target = grew_width d1 d4 _ _ _ _ _ 32 s.target.0 g14 t.place;
        live = grew_width d3 d4 _ _ _ _ _ 1 s.live.0 n.grew l.place;
      };
      form = n.form;
      bits = omega (arith, later_registers, later_flags, later_target, l.apart);
      terms = omega (arith, later_registers, later_flags, later_memory, later_target, l.apart);
      memory = later_memory;
      live = λ x i. word_kept d3 d4 _ _ _ _ _ s.live.0 x n.grew l.place.0 ∙ l.value x i
          ∙ either_of _ _ _ _ (word_kept d0 d2 _ _ _ _ _ a.live.0 x g02 q.first.live.0) (word_kept d0 d2 _ _ _ _ _ b.live.0 x g02 q.second.live.0);
      when_true = λ x i h p k m. record {
        live = m;
        jump = jump_merged d0 d4 x a.jumped.0 a.target.0 s.jumped.0 s.target.0 p.jump (jumps x ∙ j.when_true x i (early x 1 h) ∙ first x)
            (λ z. leads x ∙ t.when_true x i h z) k.jump;
        holds = record {
          names = n.when_true x i (at x 1 h) _ (denotes_kept d0 d3 _ _ _ _ _ a.names x _ g03 q.first.names k.holds.names);
          locals = k.holds.locals;
        };
      };
      when_false = λ x i h p k m. record {
        live = m;
        jump = jump_merged d0 d4 x b.jumped.0 b.target.0 s.jumped.0 s.target.0 p.jump (jumps x ∙ j.when_false x i (early x 0 h) ∙ second x)
            (λ z. leads x ∙ t.when_false x i h z) k.jump;
        holds = record {
          names = n.when_false x i (at x 0 h) _ (denotes_kept d0 d3 _ _ _ _ _ b.names x _ g03 q.second.names k.holds.names);
          locals = k.holds.locals;
        };
      };
    }
