-- Where all frames pass, every run of the tables exits, and each call of a contract on it is kept.
use Rattle.std.proofs.Common.{◌≡◌, ℕ, suc, ◌+◌, ◌<◌, ◌≤◌, refl, ap, ◌∙◌, subst, arith, List, [], ◌∷◌, Some, None, Bool, true, false}
use Rattle.std.specs.Prelude.{◌==◌, nat_le, slice_get, if◌then◌else◌}
use Rattle.std.proofs.lemmas.Bool.Decides.{nat_tests}
use Rattle.word_spec.specs.State.{State}
use Rattle.machine_spec.specs.Endings as endings
use Rattle.bilv_spec.specs.Run as tables
use Rattle.bilv_spec.specs.Run.{Program, Place, Step, Arrives, Exits, step}
use Rattle.bilv_spec.specs.Verdict as verdict
use Rattle.bilv_spec.proofs.PointSteps.{same_number}
use Rattle.frame_spec.specs.Frames.{Contract, Frame, contract_at}
use Rattle.frame_spec.specs.FrameVerdict.{Whole, entry_frame}
use Rattle.frame_spec.specs.Theorems.{Keeps, here, by_row, by_contract, FramesHold, ExitIsRun}
use Rattle.frame_spec.proofs.Deeper.{lift, deepen, same_depth}
use Rattle.frame_spec.proofs.Returning.{returns, exits_at_last, Ended}

-- the contract of an address is one of the list
by_test : (b : Bool) (y : Contract) (l : List Contract) (a : ℕ) (x : Contract) → (y.at == a) ≡ b →
    (contract_at l a ≡ Some x → (j : ℕ) × (slice_get l j ≡ Some x) × (x.at ≡ a)) → (if b then Some y else contract_at l a) ≡ Some x →
    (j : ℕ) × (slice_get (y ∷ l) j ≡ Some x) × (x.at ≡ a)
by_test true y l a x e r g = let s : y ≡ x = cc in (0, ap Some s, subst (λ (z : Contract). z.at ≡ a) s (same_number y.at a e))
by_test false y l a x e r g = let i = r g in (suc i.0, i.1, i.2)

in_list : (l : List Contract) (a : ℕ) (x : Contract) → contract_at l a ≡ Some x → (j : ℕ) × (slice_get l j ≡ Some x) × (x.at ≡ a)
in_list [] a x h = absurd (cc)
in_list (y ∷ l) a x h = by_test (y.at == a) y l a x refl (in_list l a x) h

pub frames_hold : FramesHold
frames_hold w con k pass holds start is =
    let p = w.program in
    let v : Ended w con k (entry_frame w) start.state start.state [] start.choices 0 = exits_at_last w con k p.entry p.notes.requires p.notes.ensures
    p.notes.fixed w.contracts None
    (λ x a h. (let r = in_list w.contracts a x h in (r.0, r.1, r.2, returns w con k pass r.0))) start.state start.state [] start.choices is.choices 0
    (same_depth p start.state) is.entry con.entry holds in
    record {
      last = v.last;
      place = lift [] v.spot;
      kept = v.kept;
      state = v.out;
      exits = same_depth p start.state v.spot (start.choices v.last) ∙ ap (deepen []) v.exits;
    }

-- the run along a stretch that is kept: for a bound that is great enough it goes on
module _ (w : Whole) (start : endings.Start) where
  abbrev p : Program
  p = w.program

  -- the run goes on from a place at a step, with no more transfers than steps
  abbrev At : (bound m : ℕ) → Place → Type 0
  At bound m c = (turns : ℕ) × (turns ≤ m) × (tables.run p bound start m ≡ tables.Going turns m c)

  one_on : (bound m : ℕ) (c d : Place) → m < bound → At bound m c → step p start.state c (start.choices m) ≡ Arrives d → At bound (suc m) d
  unfolding tables.run
  one_on bound m c d l (turns, few, e) h = by (nat_le d.state.pc c.state.pc) refl
    where
      went : (b : Bool) → nat_le d.state.pc c.state.pc ≡ b → tables.run p bound start (suc m) ≡ tables.arrive b bound turns m c.state.pc d
      went b t = ap (tables.one_more p bound start) e ∙ ap (tables.after_step bound turns m c.state.pc) h
          ∙ ap (λ z. tables.arrive z bound turns m c.state.pc d) t

      number : m + 1 ≡ suc m
      number = omega arith

      by : (b : Bool) → nat_le d.state.pc c.state.pc ≡ b → At bound (suc m) d
      by false t = (turns, (omega arith), went false t ∙ ap (λ z. tables.Going turns z d) number)
      by true t =
          let off : (turns == bound) ≡ false = grind (arith, nat_tests) in
          (turns + 1, (omega arith), went true t ∙ ap (λ z. tables.turn z turns m c.state.pc d) off ∙ ap (λ z. tables.Going (turns + 1) z d) number)

  -- a stretch goes from a step to a later one
  rises : (e : State) (ch : ℕ → ℕ) {floor : ℕ} {f : Frame} {m n : ℕ} {c z : Place} → Keeps w e ch floor f m c n z → m ≤ n
  rises e ch {floor} {f} {m} here = let l : m ≤ m = omega arith in l
  rises e ch (by_row d deep s n h) = let l = rises e ch h in omega arith
  rises e ch (by_contract d z rank o x deep s call at is needs inner back h) = let l = rises e ch inner in let r = rises e ch h in omega arith

  along : (bound : ℕ) {floor : ℕ} {f : Frame} {m n : ℕ} {c z : Place} → Keeps w start.state start.choices floor f m c n z → n ≤ bound → At bound m c →
      At bound n z
  along bound here l a = a
  along bound {floor} {f} {m} {n} {c} (by_row d deep s g h) l a =
      let r = rises start.state start.choices h in
      let number : suc m ≡ m + 1 = omega arith in
      along bound h l (subst (λ i. At bound i d) number (one_on bound m c d (omega arith) a s))
  along bound {floor} {f} {m} {n} {c} (by_contract d z rank o x deep s call at is needs inner back h) l a =
      let r = rises start.state start.choices inner in
      let u = rises start.state start.choices h in
      let number : suc m ≡ m + 1 = omega arith in
      along bound h l (along bound inner (omega arith) (subst (λ i. At bound i d) number (one_on bound m c d (omega arith) a s)))

  begun : (bound : ℕ) → At bound 0 (record { state = start.state; stack = [] })
  unfolding tables.run
  begun bound = (0, omega arith, refl)

  out : (bound m : ℕ) (c : Place) (s : State) → At bound m c → step p start.state c (start.choices m) ≡ Exits s → verdict.RunExits p bound start
  unfolding tables.run
  out bound m c s (turns, few, e) h =
      (suc m, c.state.pc, m, ap (tables.one_more p bound start) e ∙ ap (tables.after_step bound turns m c.state.pc) h)

pub exit_is_run : ExitIsRun
exit_is_run w start x = (
  x.last,
  out w start x.last x.last x.place x.state
      (along w start x.last x.kept (let l : x.last ≤ x.last = omega arith in l) (begun w start x.last)) x.exits,
)
