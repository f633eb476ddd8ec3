-- What is kept stays as the terms grow.
use Rattle.std.proofs.Common.{◌≡◌, inl, inr, ◌⊎◌, ℕ, zero, suc, ◌<◌, Bool, true, false, List, length, refl, ap, ◌∙◌, arith}
use Rattle.std.specs.Prelude.{slice_index, slice_get}
use Rattle.word_spec.specs.Words.{bit}
use Rattle.term_spec.specs.Terms.{TermReading, InRange, TermNode, AreTyped, HasWidth, term_word}
use Rattle.walk_spec.specs.Unrolled.{Carried}
use Rattle.walk_spec.specs.Sweep.{Held}
use Rattle.term_spec.specs.Passive.{AreNames, Denotes, Tells}
use Rattle.term_dag.specs.Made.{Grew}
use Rattle.term_dag.specs.declared.nodes.Term.{Term}
use Rattle.term_dag.proofs.Ranges.{word_fits}
use Rattle.term_dag.proofs.Growth.{grew_width}
use Rattle.term_names.specs.declared.names.Names.{Names}
use Rattle.term_names.specs.Views.{form_of, names_of}
use Rattle.passify.specs.declared.sweep.Sweep.{Sweep}
use Rattle.passify.specs.Sweeps.{term_at, AreTermsOf, AreWell, AreCarried, ShowsAt}

pub bit_of : (n : ℕ) → n < 2 → (b : Bool) × (n ≡ bit b)
bit_of zero l = (false, refl)
bit_of (suc zero) l = (true, refl)
bit_of (suc (suc n)) l = absurd (omega arith)

-- a bit tells something
pub tells_some : (x : TermReading) (nodes : List TermNode) (t : ℕ) → InRange x → AreTyped nodes → HasWidth nodes 1 t → (b : Bool) × Tells nodes x t b
tells_some x nodes t r typed h = bit_of (term_word x nodes t) (word_fits x nodes 1 t r typed h)

module _ {old new : List TermNode} {g l st j n : ℕ} (grew : Grew old new g l st j n) where
  pub tells_keep : (x : TermReading) (t : ℕ) (b : Bool) → t < length old → Tells old x t b → Tells new x t b
  tells_keep x t b h e = ap (λ v. v.word) (grew.keeps x t h) ∙ e

  pub word_keeps : (x : TermReading) (t : ℕ) → t < length old → term_word x new t ≡ term_word x old t
  word_keeps x t h = ap (λ v. v.word) (grew.keeps x t h)

  pub names_keep : (m : Names) → AreNames (form_of m) old (names_of m) → AreNames (form_of m) new (names_of m)
  names_keep m h = record {
    registers = h.registers;
    flags = h.flags;
    words = λ i k. grew_width old new g l st j n 32 (slice_index (names_of m).registers i) grew (h.words i k);
    bits = λ f k. grew_width old new g l st j n 1 (slice_index (names_of m).flags f) grew (h.bits f k);
    memory = grew_width old new g l st j n 0 (names_of m).memory grew h.memory;
  }

  pub denotes_keep : (x : TermReading) (m : Names) (c : Carried) → AreNames (form_of m) old (names_of m) → Denotes (form_of m) old x (names_of m) c →
      Denotes (form_of m) new x (names_of m) c
  denotes_keep x m c h d = record {
    registers = λ i k. word_keeps x (slice_index (names_of m).registers i) (h.words i k).0 ∙ d.registers i k;
    flags = λ f k. word_keeps x (slice_index (names_of m).flags f) (h.bits f k).0 ∙ d.flags f k;
    memory = ap (λ v. v.bytes) (grew.keeps x (names_of m).memory h.memory.0) ∙ d.memory;
  }

  pub terms_keep : (form m : Names) → AreTermsOf form old m → AreTermsOf form new m
  terms_keep form m h = record { same = h.same; names = names_keep m h.names }

  pub well_keeps : (s : Sweep) → AreTyped new → AreWell old s → AreWell new s
  well_keeps s typed w = record {
    typed = typed;
    entry = names_keep s.entry w.entry;
    denotes = λ x r. denotes_keep x s.entry _ w.entry (w.denotes x r);
    pc = grew_width old new g l st j n 32 s.pc.0 grew w.pc;
    pc_is = λ x. word_keeps x s.pc.0 w.pc.0 ∙ w.pc_is x;
    count = w.count;
    bits = λ i k. grew_width old new g l st j n 1 (term_at s.met.items i) grew (w.bits i k);
    states = λ i m e. terms_keep s.entry m (w.states i m e);
    fails = grew_width old new g l st j n 1 s.fails.0 grew w.fails;
    steps = grew_width old new g l st j n 1 s.steps.0 grew w.steps;
    turns = grew_width old new g l st j n 1 s.turns.0 grew w.turns;
  }

  pub carried_keep : (s : Sweep) (x : TermReading) (i : ℕ) (c : Carried) → AreWell old s → AreCarried old x (slice_get s.states.items i) c →
      AreCarried new x (slice_get s.states.items i) c
  carried_keep s x i c w k = record { names = k.names; is = k.is; denotes = denotes_keep x k.names c (w.states i k.names k.is).names k.denotes }

  pub shows_keep : (s : Sweep) (from : ℕ) (x : TermReading) (h : Held) → AreWell old s → ShowsAt old s from x h → ShowsAt new s from x h
  shows_keep s from x h w k = record {
    mets = λ i q. tells_keep x (term_at s.met.items i) (h.met i) (w.bits i q).0 (k.mets i q);
    carries = λ i f q m. carried_keep s x i (h.carried i) w (k.carries i f q m);
    failing = tells_keep x s.fails.0 h.fails w.fails.0 k.failing;
    turning = tells_keep x s.turns.0 h.turns w.turns.0 k.turning;
  }

pub truth : (b : Bool) → (b ≡ true) ⊎ (b ≡ false)
truth true = inl refl
truth false = inr refl

-- with other ends
pub well_ends : (nodes : List TermNode) (s : Sweep) (f t : Term) → AreWell nodes s → HasWidth nodes 1 f.0 → HasWidth nodes 1 t.0 →
    AreWell nodes (record s { fails = f; turns = t })
well_ends nodes s f t w hf ht = record {
  typed = w.typed;
  entry = w.entry;
  denotes = w.denotes;
  pc = w.pc;
  pc_is = w.pc_is;
  count = w.count;
  bits = w.bits;
  states = w.states;
  fails = hf;
  steps = w.steps;
  turns = ht;
}

pub shows_ends : (nodes : List TermNode) (s : Sweep) (from : ℕ) (x : TermReading) (h : Held) (f t : Term) (bf bt : Bool) → ShowsAt nodes s from x h →
    Tells nodes x f.0 bf → Tells nodes x t.0 bt →
    ShowsAt nodes (record s { fails = f; turns = t }) from x (record h { fails = bf; turns = bt })
shows_ends nodes s from x h f t bf bt k hf ht = record { mets = k.mets; carries = k.carries; failing = hf; turning = ht }
