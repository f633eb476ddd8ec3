-- Edges that are tried one by one.
use Rattle.std.proofs.Common.{◌≡◌, ℕ, ◌+◌, Bool, true, false, List, ◌∷◌, ◌++◌, refl, ap, sym, ◌∙◌, arith, length, subst}
use Rattle.std.specs.Prelude.{◌&&◌, ◌==◌, if◌then◌else◌, map, Option, Some, None}
use Rattle.std.proofs.lemmas.List.Sums.{sum_by-cons}
use Rattle.word_spec.specs.State.{State}
use Rattle.term_spec.specs.Terms.{TermReading, TermNode, HasWidth, term_word}
use Rattle.walk_spec.specs.Unrolled.{carried_of, state_at}
use Rattle.frame_spec.specs.FrameWalk.{UnrolledProgram, PointExit, Aim, goes_along, edge_address, walk_to}
use Rattle.term_names.specs.Chosen.{at_entry}
use Rattle.walk_spec.specs.Sweep.{Held, held_if, hand}
use Rattle.term_dag.specs.Made.{Grew}
use Rattle.term_dag.proofs.Growth.{grew_none, inputs_none}
use Rattle.question_form.specs.declared.unrolled.Aim.{Aim as Aims}
use Rattle.question_form.specs.declared.unrolled.Edge.{Edge}
use Rattle.question_form.specs.declared.unrolled.Unrolled.{Unrolled}
use Rattle.question_form.specs.FrameViews.{aim_of, edge_of}
use Rattle.term_names.specs.declared.names.Names.{Names}
use Rattle.note_terms.specs.declared.Now.{Now}
use Rattle.passify.specs.declared.sweep.Sweep.{Sweep}
use Rattle.passify.specs.Plain.{plain}
use Rattle.passify.specs.Sweeps.{AreLike, AreWell, AreTermsOf, Steps}
use Rattle.passify.specs.Exits.{Tries, Narrows}
use Rattle.passify.specs.Situations.{Situation, IsThere, goes}
use Rattle.passify.specs.Edges.{Follows, TakesEdge, GoesHere, CanGo, EdgesTried, edge_word, edge_test, aim_gates, aim_loads, aim_joins, aim_nodes}
use Rattle.passify.proofs.Kept.{tells_keep, word_keeps, denotes_keep}
use Rattle.passify.proofs.Lines.{steps_on}

exit_by : (q : Bool) (u : UnrolledProgram) (entry next : State) (a b : Aim) (h : Held) →
    hand (plain u entry (walk_to u entry next (if q then a else b))) h
    ≡ held_if q (hand (plain u entry (walk_to u entry next a)) h) (hand (plain u entry (walk_to u entry next b)) h)
exit_by true u entry next a b h = refl
exit_by false u entry next a b h = refl

-- an edge before others
edge_by : (u : Unrolled) (e : Edge) (xs : List PointExit) (S : Situation) (h : Held) →
    goes S (edge_of u e ∷ xs) h ≡ held_if (goes_along S.program S.entry e.falls e.jumps e.to S.leaving) (hand (plain S.program S.entry
    (walk_to S.program S.entry S.next (aim_of u e.aim))) h)
    (goes S xs h)
edge_by u e xs S h = exit_by (goes_along S.program S.entry e.falls e.jumps e.to S.leaving) S.program S.entry S.next (aim_of u e.aim) _ h

address_is : (to : Option ℕ) (u : UnrolledProgram) (entry : State) (link : ℕ) → link ≡ entry.regs u.link → edge_address u entry to ≡ edge_word to link
address_is None u entry link e = sym e
address_is (Some a) u entry link e = refl

module _ (u : Unrolled) (old cur new : List TermNode) (s z y : Sweep) (rest left last : ℕ) (next : Now) (jumped link : ℕ)
    (all others : List Edge) (e : Edge) (w : AreWell old s)
    (names : AreTermsOf s.entry old next.names.now) (pc : HasWidth old 32 next.pc.0) (wj : HasWidth old 1 jumped) (wl : HasWidth old 32 link)
    (k : EdgesTried u old cur s z rest left next jumped link all (e ∷ others))
    (steps : Steps cur new z y (35 + aim_gates u next.names.now e.aim) (aim_loads u e.aim) 0 (aim_joins e.aim)
    (14 + aim_nodes u next.names.now e.aim) (λ m. ⊥)) (bit : HasWidth new 1 last)
    (tries : Tries cur new z y left last (TakesEdge cur e jumped next.pc.0 link) (Follows u cur z next e.aim)) (narrows : Narrows cur new left last
    (λ x q. Unit {0})) where
  grew : Grew old cur k.edges.gates k.edges.loads 0 k.edges.joins k.edges.nodes
  grew = k.edges.steps.grew

  there_keeps : (x : TermReading) (S : Situation) → IsThere old s u.big next (λ T. T.next) x S → IsThere cur z u.big next (λ T. T.next) x S
  there_keeps x S f = record {
    endian = f.endian;
    entry = f.entry ∙ ap (state_at (at_entry x)) (sym k.edges.steps.like.at);
    is = record { carried = denotes_keep grew x next.names.now (carried_of S.next) names.names f.is.carried; pc = word_keeps grew x next.pc.0 pc.0 ∙ f.is.pc };
  }

  takes_by : (x : TermReading) (S : Situation) → GoesHere old s u.big next jumped link x S →
      TakesEdge cur e jumped next.pc.0 link x (goes_along S.program S.entry e.falls e.jumps e.to S.leaving)
  takes_by x S f = record {
    by_jump = f.jumps;
    tells = tells_keep grew x jumped f.jumps wj.0 f.tells;
    is =
        ap (goes_along S.program S.entry e.falls e.jumps e.to) f.leaving
        ∙ ap (λ q. (if f.jumps then e.jumps else e.falls) && (f.to == q)) (address_is e.to S.program S.entry (term_word x old link) f.link_word)
        ∙ ap (λ q. edge_test e f.jumps q (term_word x old link)) (sym (word_keeps grew x next.pc.0 pc.0 ∙ f.there.is.pc ∙ ap
        (λ (q : State). q.pc) f.next_state))
        ∙ ap (edge_test e f.jumps (term_word x cur next.pc.0)) (sym (word_keeps grew x link wl.0));
  }

  pub edge_tried : EdgesTried u old new s y rest last next jumped link all others
  edge_tried = record {
    edges = record {
      gates = k.edges.gates + (35 + aim_gates u next.names.now e.aim);
      loads = k.edges.loads + aim_loads u e.aim;
      joins = k.edges.joins + aim_joins e.aim;
      nodes = k.edges.nodes + (14 + aim_nodes u next.names.now e.aim);
      steps = steps_on old cur new s z y (λ m. ⊥) k.edges.gates k.edges.loads 0 k.edges.joins k.edges.nodes (35 + aim_gates u next.names.now e.aim)
          (aim_loads u e.aim) 0 (aim_joins e.aim)
          (14 + aim_nodes u next.names.now e.aim) k.edges.steps steps;
      few_gates = omega (arith, k.edges.few_gates, sum_by-cons (λ i. 35 + aim_gates u next.names.now i.aim) e others);
      few_loads = omega (arith, k.edges.few_loads, sum_by-cons (λ i. aim_loads u i.aim) e others);
      few_joins = omega (arith, k.edges.few_joins, sum_by-cons (λ i. aim_joins i.aim) e others);
      few_nodes = omega (arith, k.edges.few_nodes, sum_by-cons (λ i. 14 + aim_nodes u next.names.now i.aim) e others);
    };
    bit = bit;
    narrows = λ x r h. k.narrows x r (narrows x r h).0;
    later = λ from l. (k.later from l).1;
    tries = λ x r from l S leaves fits before after tail pending.
        tries x r from (plain S.program S.entry (walk_to S.program S.entry S.next (aim_of u e.aim)))
        (goes_along S.program S.entry e.falls e.jumps e.to S.leaving)
        (λ h. takes_by x S (fits (k.narrows x r h).0))
        (λ b h. record {
          situation = S;
          is = refl;
          later = (k.later from l).0;
          leaves = leaves;
          there =
              λ t. there_keeps x S (fits (k.narrows x r (h t)).0).there;
        }) before after
        (goes S (edge_of u e ∷ map (edge_of u) others ++ tail) before) (goes S (map (edge_of u) others ++ tail) before) (edge_by u e (map
        (edge_of u) others ++ tail) S before)
        (k.tries x r from l S leaves fits before after tail pending);
  }

pub edges_none : (u : Unrolled) (ns : List TermNode) (s : Sweep) (rest : ℕ) (next : Now) (jumped link : ℕ) (all : List Edge) →
    AreWell ns s → HasWidth ns 1 rest →
    EdgesTried u ns ns s s rest rest next jumped link all all
edges_none u ns s rest next jumped link all w b = record {
  edges = record {
    gates = 0;
    loads = 0;
    joins = 0;
    nodes = 0;
    steps = record {
      grew = grew_none ns;
      inputs = inputs_none ns (λ m. ⊥);
      well = w;
      like = record { entry = refl; pc = refl; at = refl; places = refl; steps = refl; own = refl };
    };
    few_gates = omega arith;
    few_loads = omega arith;
    few_joins = omega arith;
    few_nodes = omega arith;
  };
  bit = b;
  narrows = λ x r h. (h, tt);
  later = λ from l. l;
  tries = λ x r from l S leaves fits before after tail p. p;
}

-- where a walk can be handed on stays so
pub can_go_on : (u : Unrolled) (s z : Sweep) (n : Names) {a : Aims} → AreLike s z → CanGo u (length s.met.items) n a → CanGo u (length z.met.items) n a
can_go_on u s z n {a} like h = subst (λ (k : ℕ). CanGo u k n a) (sym like.places) h
