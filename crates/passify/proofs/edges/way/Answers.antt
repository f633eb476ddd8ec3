use Rattle.std.proofs.Common.{◌≡◌, ℕ, List, Bool, true, false, refl, ap, sym, ◌∙◌, subst, not}
use Rattle.std.specs.Prelude.{◌&&◌, if◌then◌else◌}
use Rattle.term_spec.specs.Terms.{TermNode, HasWidth}
use Rattle.term_spec.specs.Passive.{Tells}
use Rattle.term_dag.proofs.Growth.{grew_on, inputs_on}
use Rattle.passify.specs.Bits.{Makes, TellsBy, TellsByBoth}
use Rattle.passify.specs.Edges.{TellsWay}
use Rattle.passify.proofs.Kept.{tells_keep}
use Rattle.passify.proofs.edges.way.Goals as goal

turned_way : (j e : Bool) → (not j && e) ≡ ((if j then false else true) && e)
turned_way true e = refl
turned_way false e = refl

fell : (old mid new : List TermNode) (falls jumps : Bool) (jumped same m t : ℕ) → falls ≡ true → jumps ≡ false → HasWidth old 1 same →
    Makes old mid 0 2 1 m (TellsBy (λ p. not p) old mid jumped m) →
    Makes mid new 1 2 1 t (TellsByBoth (λ p q. p && q) mid new m same t) → Makes old new 1 4 1 t (TellsWay old new falls jumps jumped same t)
fell old mid new falls jumps jumped same m t f n ws a b = record {
  grew = grew_on old mid new 0 0 0 0 2 1 0 0 0 2 a.grew b.grew;
  inputs = inputs_on old mid new (λ q. ⊥) a.inputs b.inputs;
  typed = b.typed;
  width = b.width;
  holds = λ x r j e hj he.
      subst (λ (z : Bool). Tells new x t z) (turned_way j e ∙ ap (λ z. (if j then z else true) && e) (sym n) ∙ ap (λ z. (if j then jumps else z) && e) (sym f))
      (b.holds x r (not j) e (a.holds x r j hj) (tells_keep a.grew x same e ws.0 he));
}

pub returns-then-falls : goal.returns-then-falls
returns-then-falls c =
    fell c.args.dag.now c.turned.new.dag c.both.new.dag c.args.falls c.args.jumps c.args.jumped.0 c.args.same.0 c.in_ok-fell.fell.0 c.in_ok-bit.bit.0
    c.if-falls.true c.if-jumps.false c.requires.same c.in_ok-fell.ensures
    c.in_ok-bit.ensures
