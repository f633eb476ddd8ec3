-- Events of segments from the entry and from heads are told apart.
use Rattle.std.proofs.Common.{◌≡◌, ℕ, suc, Bool, true, false, List, refl, ap, sym, ◌∙◌, subst, not, length, ◌<◌}
use Rattle.term_spec.specs.Terms.{TermReading, TermNode}
use Rattle.term_spec.specs.Passive.{Tells}
use Rattle.frame_spec.specs.FramePoints.{Anchor, AtEntry, AtHead, is_entry}
use Rattle.frame_spec.specs.FrameQuestions.{Reading}
use Rattle.frame_spec.specs.FrameWalk.{UnrolledProgram, UnrolledPoint, Held, WalkIsAt, hand, point_at, sweep_on, walk_on}
use Rattle.frame_terms.specs.PassiveFrames.{part_reading}
use Rattle.term_dag.specs.declared.nodes.Term.{Term}
use Rattle.term_names.specs.declared.names.Names.{Names}
use Rattle.question_form.specs.declared.unrolled.Unrolled.{Unrolled}
use Rattle.question_form.specs.FrameViews.{anchor_at, frame_unrolled_of}
use Rattle.passify.specs.declared.sweep.Sweep.{Sweep}
use Rattle.passify.specs.Handled.{IsHandled, IsSweepOf}
use Rattle.passify.specs.Plain.{held_for, others_fail}
use Rattle.passify.specs.Rows.{is_of_head, own_point}
use Rattle.passify.specs.Spans.{AreOwn}
use Rattle.passify.specs.Sweeps.{AreWell, ShowsAt}
use Rattle.passify.specs.Swept.{IsPassed, ShowsAll}
use Rattle.passify.proofs.Kept.{tells_keep}
use Rattle.passify.proofs.Plained.{hand_others, if_others}
use Rattle.passify.proofs.Lines.{like_sweep}
use Rattle.passify.proofs.Pointed.{own_keeps}
use Rattle.passify.proofs.Standing.{framed_is}

-- events of the two kinds change their bits
abbrev pub exchanged : Sweep → Sweep
exchanged s = record s { fails = s.steps; steps = s.fails }

pub exchanged_well : (nodes : List TermNode) (s : Sweep) → AreWell nodes s → AreWell nodes (exchanged s)
exchanged_well nodes s w = record {
  typed = w.typed;
  entry = w.entry;
  denotes = w.denotes;
  pc = w.pc;
  pc_is = w.pc_is;
  count = w.count;
  bits = w.bits;
  states = w.states;
  fails = w.steps;
  steps = w.fails;
  turns = w.turns;
}

pub exchanged_sweep : (u : Unrolled) (s : Sweep) → IsSweepOf u s → IsSweepOf u (exchanged s)
exchanged_sweep u s k = record { form = k.form; at = k.at; places = k.places }

pub exchanged_own : (u : Unrolled) (nodes : List TermNode) (s : Sweep) → AreOwn u nodes s → AreOwn u nodes (exchanged s)
exchanged_own u nodes s k = record { each = k.each; count = k.count; written = k.written }

no_true : true ≡ false → ⊥
no_true e = cc

pub entry_anchor : (a : Anchor) → not (is_entry a) ≡ false → a ≡ AtEntry
entry_anchor AtEntry e = refl
entry_anchor (AtHead stack at) e = absurd (no_true e)

pub head_anchor : (a : Anchor) → not (is_entry a) ≡ true → (stack : List ℕ) × (at : ℕ) × (a ≡ AtHead stack at)
head_anchor AtEntry e = absurd (no_true (sym e))
head_anchor (AtHead stack at) e = (stack, at, refl)

-- handling a point changes no event of the other kind
others_stay : (f : UnrolledProgram) (r : Reading) (t : ℕ) (h : Held) (anchor : Anchor) → (point_at f t).point.anchor ≡ anchor →
    others_fail anchor (sweep_on f r t h) ≡ others_fail anchor h
others_stay f r t h anchor e =
    subst (λ (a : Anchor). others_fail a (sweep_on f r t h) ≡ others_fail a h) e
    (if_others (point_at f t).point.anchor (h.met t) (hand f r (point_at f t).point.anchor (walk_on f r (WalkIsAt t (h.carried t))) h) h
    (hand_others f r (point_at f t).point.anchor (walk_on f r (WalkIsAt t (h.carried t))) h))

-- for the other kind of segments the bits are the other way round
round : (nodes : List TermNode) (s : Sweep) (from : ℕ) (x : TermReading) (h : Held) (stack : List ℕ) (at : ℕ) → ShowsAll nodes s from x h →
    ShowsAt nodes (exchanged s) from x (held_for (AtHead stack at) h)
round nodes s from x h stack at k = record { mets = k.shows.mets; carries = k.shows.carries; failing = k.stepping; turning = k.shows.turning }

module _ (u : Unrolled) (old new : List TermNode) (s z : Sweep) (place : ℕ) (n : Names) (within : place < length u.points.items) (of : IsSweepOf u s)
    (w : AreWell old s) (own : AreOwn u old s)
  where
    abbrev f : UnrolledProgram
    f = frame_unrolled_of u

    anchor_is : (point_at f place).point.anchor ≡ anchor_at u (own_point u place).root
    anchor_is = ap (λ (q : UnrolledPoint). q.point.anchor) (framed_is u place within)

    -- a point of the entry's segment
    pub pass_entry : is_of_head u place ≡ false → IsHandled u old new s z place n → IsPassed u old new s z place n
    pass_entry e k =
        let is : (point_at f place).point.anchor ≡ AtEntry = anchor_is ∙ entry_anchor (anchor_at u (own_point u place).root) e in
        record {
          grew = k.steps.grew;
          inputs = k.steps.inputs;
          well = k.steps.well;
          sweep = like_sweep u s z k.steps.like of;
          own = own_keeps u old new s z own k.steps.grew k.steps.like.own k.steps.like.at;
          shows = λ r reads begins h shows den.
              let y = k.shows r reads begins h (subst (λ (a : Anchor). ShowsAt old s (suc place) (part_reading f r) (held_for a h)) (sym is) shows.shows) den in (
                y.0,
                y.1,
                record {
                  shows = subst (λ (a : Anchor). ShowsAt new z (suc place) (part_reading f r) (held_for a y.0)) is y.2;
                  stepping = subst (λ (b : Bool). Tells new (part_reading f r) z.steps.0 b) (sym (ap (λ (q : Held). q.steps) y.1.low
                      ∙ others_stay f r place h AtEntry is))
                      (subst (λ (t : Term). Tells new (part_reading f r) t.0 h.steps) (sym k.steps.like.steps)
                      (tells_keep k.steps.grew (part_reading f r) s.steps.0 h.steps w.steps.0 shows.stepping));
                },
              );
        }

    -- a point of a segment from a head
    pub pass_head : is_of_head u place ≡ true → IsHandled u old new (exchanged s) z place n → IsPassed u old new s (exchanged z) place n
    pass_head e k =
        let a = head_anchor (anchor_at u (own_point u place).root) e in
        let is : (point_at f place).point.anchor ≡ AtHead a.0 a.1 = anchor_is ∙ a.2 in
        record {
          grew = k.steps.grew;
          inputs = k.steps.inputs;
          well = exchanged_well new z k.steps.well;
          sweep = exchanged_sweep u z (like_sweep u (exchanged s) z k.steps.like (exchanged_sweep u s of));
          own = own_keeps u old new s (exchanged z) own k.steps.grew k.steps.like.own k.steps.like.at;
          shows = λ r reads begins h shows den.
              let x = part_reading f r in
              let q = k.shows r reads begins h (subst (λ (b : Anchor). ShowsAt old (exchanged s) (suc place) x (held_for b h)) (sym is)
              (round old s (suc place) x h a.0 a.1 shows)) den in
              let y = subst (λ (b : Anchor). ShowsAt new z (suc place) x (held_for b q.0)) is q.2 in (
                q.0,
                q.1,
                record {
                  shows = record {
                    mets = y.mets;
                    carries = y.carries;
                    failing = subst (λ (b : Bool). Tells new x z.steps.0 b) (sym (ap (λ (g : Held). g.fails) q.1.low
                        ∙ others_stay f r place h (AtHead a.0 a.1) is))
                        (subst (λ (t : Term). Tells new x t.0 h.fails) (sym k.steps.like.steps)
                        (tells_keep k.steps.grew x s.fails.0 h.fails w.fails.0 shows.shows.failing));
                    turning = y.turning;
                  };
                  stepping = y.failing;
                },
              );
        }
