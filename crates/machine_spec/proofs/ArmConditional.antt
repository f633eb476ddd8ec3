-- A row of ARM is lawful where what it does under its condition is.
use Rattle.std.proofs.Common.{◌≡◌, ℕ, zero, suc, ◌+◌, ◌%◌, ◌^◌, ◌<◌, ◌≤◌, refl, sym, ap, subst, ◌∙◌, true, false, Bool, arith, Option, None}
use Rattle.std.specs.Prelude.{◌==◌, ◌&&◌, ◌||◌, if◌then◌else◌, Contains}
use Rattle.std.proofs.lemmas.Bool.{ne_eqb}
use Rattle.word_spec.specs.Words.{add}
use Rattle.machine_spec.proofs.LoadedBytes.{kept_same}
use Rattle.word_spec.specs.Memory.{Memory}
use Rattle.word_spec.specs.State.{State, IsState, put, with_pc}
use Rattle.machine_spec.specs.Machine.{Cost, On, Direct, DirectCall, Indirect, IndirectCall, How, Outcome, Successors, addresses, byte_count, Goes, Raises}
use Rattle.machine_spec.specs.Arm.{row_of, when, holds, is_always, condition_code, conditions, nth, condition_reads, condition_flags, flag_use}
use Rattle.machine_spec.specs.MachineLaws.{IsLawful, IsPriced, IsWay, IfGoes, IfRaises, with_flag, AgreeBut, OutcomesAgreeBut, HaveSameFlag, with_memory, SameButMemory, BeginsInMemory}

other_flag : (g : ℕ → ℕ) (f v k : ℕ) → (k ≡ f → ⊥) → g k ≡ put g f v k
other_flag g f v k other = rw (ne_eqb k f other) refl

pub agrees : (s t : State) (f v : ℕ) → s.pc ≡ t.pc → s.regs ≡ t.regs → s.mem ≡ t.mem → t.flags ≡ put s.flags f v → AgreeBut f s t
agrees s t f v p r m e = record { pc = p; regs = r; mem = m; flags = λ k other. other_flag s.flags f v k other ∙ ap (λ (g : ℕ → ℕ). g k) (sym e) }

pub neither : (a b : Bool) → (a || b) ≡ false → (a ≡ false) × (b ≡ false)
neither true b h = cc
neither false b h = (refl, h)

-- a condition does not see a flag that it doesn't name
same_nth : (s : State) (f v code : ℕ) → condition_reads condition_flags code f ≡ false → nth (conditions s) code ≡ nth (conditions (with_flag s f v)) code
same_nth s f v zero h = let z = neither (2 == f) _ h in rw z.0 refl
same_nth s f v (suc zero) h = let z = neither (2 == f) _ h in rw z.0 refl
same_nth s f v (suc (suc zero)) h = let z = neither (1 == f) _ h in rw z.0 refl
same_nth s f v (suc (suc (suc zero))) h = let z = neither (1 == f) _ h in rw z.0 refl
same_nth s f v (suc (suc (suc (suc zero)))) h = let z = neither (3 == f) _ h in rw z.0 refl
same_nth s f v (suc (suc (suc (suc (suc zero))))) h = let z = neither (3 == f) _ h in rw z.0 refl
same_nth s f v (suc (suc (suc (suc (suc (suc zero)))))) h = let z = neither (0 == f) _ h in rw z.0 refl
same_nth s f v (suc (suc (suc (suc (suc (suc (suc zero))))))) h = let z = neither (0 == f) _ h in rw z.0 refl
same_nth s f v (suc (suc (suc (suc (suc (suc (suc (suc zero)))))))) h =
    let c = neither (1 == f) _ h in let z = neither (2 == f) _ c.1 in rw (c.0, z.0) refl
same_nth s f v (suc (suc (suc (suc (suc (suc (suc (suc (suc zero))))))))) h =
    let c = neither (1 == f) _ h in let z = neither (2 == f) _ c.1 in rw (c.0, z.0) refl
same_nth s f v (suc (suc (suc (suc (suc (suc (suc (suc (suc (suc zero)))))))))) h =
    let n = neither (3 == f) _ h in let o = neither (0 == f) _ n.1 in rw (n.0, o.0) refl
same_nth s f v (suc (suc (suc (suc (suc (suc (suc (suc (suc (suc (suc zero))))))))))) h =
    let n = neither (3 == f) _ h in let o = neither (0 == f) _ n.1 in rw (n.0, o.0) refl
same_nth s f v (suc (suc (suc (suc (suc (suc (suc (suc (suc (suc (suc (suc zero)))))))))))) h =
    let n = neither (3 == f) _ h in let z = neither (2 == f) _ n.1 in let o = neither (0 == f) _ z.1 in rw (n.0, z.0, o.0) refl
same_nth s f v (suc (suc (suc (suc (suc (suc (suc (suc (suc (suc (suc (suc (suc zero))))))))))))) h =
    let n = neither (3 == f) _ h in let z = neither (2 == f) _ n.1 in let o = neither (0 == f) _ z.1 in rw (n.0, z.0, o.0) refl
same_nth s f v (suc (suc (suc (suc (suc (suc (suc (suc (suc (suc (suc (suc (suc (suc zero)))))))))))))) h = refl
same_nth s f v (suc (suc (suc (suc (suc (suc (suc (suc (suc (suc (suc (suc (suc (suc (suc n))))))))))))))) h = refl

same_holds : (w : ℕ) (s : State) (f v : ℕ) → condition_reads condition_flags (condition_code w) f ≡ false → holds w s ≡ holds w (with_flag s f v)
same_holds w s f v h = ap (λ z. if is_always w then true else z) (same_nth s f v (condition_code w) h)

always_holds : (w : ℕ) (s : State) → is_always w ≡ true → holds w s ≡ true
always_holds w s e = rw e refl

not_always : (w : ℕ) (s : State) → holds w s ≡ false → is_always w ≡ false
not_always w s e = by_case (is_always w) refl
  where
    by_case : (b : Bool) → is_always w ≡ b → is_always w ≡ false
    by_case true a = let t = always_holds w s a in cc
    by_case false a = a

-- a way on that the successors allow, and where it comes to if it does not jump
abbrev pub Way : Successors → (next : ℕ) → How → (to : ℕ) → Type 0
Way s next On to = (s.next ≡ true) × (to ≡ next)
Way s next how to = IsWay s how to

allowed : (s : Successors) (next : ℕ) (how : How) (to : ℕ) → Way s next how to → IsWay s how to
allowed s next On to h = h.0
allowed s next Direct to h = h
allowed s next DirectCall to h = h
allowed s next Indirect to h = h
allowed s next IndirectCall to h = h

comes : (s : Successors) (next : ℕ) (how : How) (to : ℕ) → Way s next how to → how ≡ On → to ≡ next
comes s next On to h e = h.1
comes s next Direct to h e = cc
comes s next DirectCall to h e = cc
comes s next Indirect to h e = cc
comes s next IndirectCall to h e = cc

goes_maps : (e : Outcome) (P Q : How → State → Type 0) → ((how : How) (new : State) → P how new → Q how new) → IfGoes e P → IfGoes e Q
goes_maps (Goes how new) P Q f h = f how new h
goes_maps (Raises e) P Q f h = tt

-- What a row does where its condition holds. stored, loaded: the bytes that it stores and loads where the condition holds, by that test.
pub record IsDone (w : ℕ) (effect : State → ℕ → Outcome) (stored loaded : Bool → State → Option (ℕ × ℕ)) (successors : ℕ → Successors)
    (reads assigns surely : ℕ → Bool) (drawing : Bool) : Type 0 where
  pub kept : (s : State) (c : ℕ) → IsState s →
      IfGoes (effect s c) (λ how new. (a : ℕ) → a < 2 ^ 32 → (Contains (addresses (stored true s)) a → ⊥) → new.mem a ≡ s.mem a)
  pub raised : (s : State) (c : ℕ) → IsState s → IfRaises (effect s c) (stored true s ≡ None)
  pub ways : (s : State) (c : ℕ) → IsState s → IfGoes (effect s c) (λ how new. Way (successors s.pc) (add 32 s.pc 4) how new.pc)
  pub skips : (at : ℕ) → is_always w ≡ false → (successors at).next ≡ true
  pub one_way : (at : ℕ) → (successors at).indirect ≡ true → (successors at).direct ≡ None
  pub states : (s : State) (c : ℕ) → IsState s → IfGoes (effect s c) (λ how new. IsState new)
  pub unassigned : (s : State) (c f : ℕ) → f < 4 → assigns f ≡ false → IfGoes (effect s c) (λ how new. new.flags f ≡ s.flags f)
  pub unread : (s : State) (c f v : ℕ) → f < 4 → reads f ≡ false → OutcomesAgreeBut f (effect s c) (effect (with_flag s f v) c)
  pub sure : (s : State) (c f v : ℕ) → f < 4 → reads f ≡ false → surely f ≡ true → HaveSameFlag f (effect s c) (effect (with_flag s f v) c)
  pub sure_flags : (f : ℕ) → surely f ≡ true → f < 4
  pub draws : drawing ≡ false → (s : State) (c d : ℕ) → effect s c ≡ effect s d
  pub plain : (f : ℕ) → assigns f ≡ true → (b : Bool) (s : State) → stored b s ≡ None
  pub stored_unread : (b : Bool) (s : State) (f v : ℕ) → reads f ≡ false → stored b s ≡ stored b (with_flag s f v)
  pub idle : (s : State) → stored false s ≡ None
  pub steady : (b : Bool) (s : State) (m : Memory) → (loaded b s ≡ loaded b (with_memory s m)) × (stored b s ≡ stored b (with_memory s m))
  pub loads : (s : State) (m : Memory) (c : ℕ) → IsState s → ((a : ℕ) → Contains (addresses (loaded true s)) a → s.mem a ≡ m a) →
      SameButMemory s m (addresses (stored true s)) (effect s c) (effect (with_memory s m) c)
  pub unloaded : (s : State) (c : ℕ) → IsState s → IfRaises (effect s c) (loaded true s ≡ None)

-- where the condition doesn't hold, the row goes on
goes_when : (b : Bool) (s : State) (e : Outcome) (claim : Bool → How → State → Type 0) → IfGoes e (claim true) →
    (b ≡ false → claim false On (with_pc s (add 32 s.pc 4))) → IfGoes (when b s e) (claim b)
goes_when true s e claim p q = p
goes_when false s e claim p q = q refl

raises_when : (b : Bool) (s : State) (e : Outcome) (claim : Bool → Type 0) → IfRaises e (claim true) → IfRaises (when b s e) (claim b)
raises_when true s e claim p = p
raises_when false s e claim p = tt

agrees_when : (b d : Bool) (s : State) (f v : ℕ) (x y : Outcome) → b ≡ d → OutcomesAgreeBut f x y → OutcomesAgreeBut f (when b s x) (when d (with_flag s f v) y)
agrees_when true true s f v x y e p = p
agrees_when false false s f v x y e p = (refl, agrees _ _ f v refl refl refl refl)
agrees_when true false s f v x y e p = cc
agrees_when false true s f v x y e p = cc

same_when : (b d : Bool) (s : State) (f v : ℕ) (x y : Outcome) → b ≡ true → d ≡ true → HaveSameFlag f x y →
    HaveSameFlag f (when b s x) (when d (with_flag s f v) y)
same_when true true s f v x y p q h = h
same_when true false s f v x y p q h = cc
same_when false d s f v x y p q h = cc

loads_when : (b : Bool) (s : State) (m : Memory) (stored loaded : Bool → State → Option (ℕ × ℕ)) (x y : Outcome) → stored false s ≡ None →
    ((a : ℕ) → Contains (addresses (loaded b s)) a → s.mem a ≡ m a) →
    (((a : ℕ) → Contains (addresses (loaded true s)) a → s.mem a ≡ m a) → SameButMemory s m (addresses (stored true s)) x y) →
    SameButMemory s m (addresses (stored b s)) (when b s x) (when b (with_memory s m) y)
loads_when true s m stored loaded x y idle same h = h same
loads_when false s m stored loaded x y idle same h =
    subst (λ (o : Option (ℕ × ℕ)). SameButMemory s m (addresses o) (when false s x) (when false (with_memory s m) y)) (sym idle)
    (refl, refl, refl, refl, λ a lt e. kept_same a s.mem m e)

both : (a b : Bool) → (a && b) ≡ true → (a ≡ true) × (b ≡ true)
both true b h = (refl, h)
both false b h = cc

pub conditional : (w : ℕ) (effect : State → ℕ → Outcome) (stored loaded : Bool → State → Option (ℕ × ℕ)) (successors : ℕ → Successors)
    (literal : ℕ → Option ℕ) (cost : Cost) (reads assigns surely : ℕ → Bool) (draws links : Bool) → IsPriced cost →
    ((b : Bool) (s : State) → byte_count (loaded b s) ≤ cost.loads) → ((b : Bool) (s : State) → IsState s → BeginsInMemory (loaded b s)) →
    (links ≡ true → (at : ℕ) → (successors at).call ≡ true) →
    IsDone w effect stored loaded successors reads assigns surely draws →
    IsLawful (record (row_of w effect) {
      stored = λ s. stored (holds w s) s;
      successors = successors;
      literal = literal;
      cost = cost;
      flags = flag_use w reads assigns surely;
      draws = draws;
      links = links;
      loaded = λ s. loaded (holds w s) s;
    })
conditional w effect stored loaded successors literal cost reads assigns surely draws links priced few begins calls h = record {
  stored = λ s c is. goes_when (holds w s) s (effect s c)
      (λ b how new. (a : ℕ) → a < 2 ^ 32 → (Contains (addresses (stored b s)) a → ⊥) → new.mem a ≡ s.mem a) (h.kept s c is) (λ e a lt out. refl);
  raised = λ s c is. raises_when (holds w s) s (effect s c) (λ b. stored b s ≡ None) (h.raised s c is);
  successors = λ s c is. goes_maps _ (λ how new. Way (successors s.pc) (add 32 s.pc 4) how new.pc) _
      (λ how new g. allowed (successors s.pc) (add 32 s.pc 4) how new.pc g) (ways s c is);
  next = λ s c is. goes_maps _ (λ how new. Way (successors s.pc) (add 32 s.pc 4) how new.pc) _
      (λ how new g. comes (successors s.pc) (add 32 s.pc 4) how new.pc g) (ways s c is);
  one_way = h.one_way;
  states = λ s c is. goes_when (holds w s) s (effect s c) (λ b how new. IsState new) (h.states s c is)
      (λ e. record { pc = mod_small (s.pc + 4); regs = is.regs; flags = is.flags; mem = is.mem });
  unassigned = λ s c f lt no_use. goes_when (holds w s) s (effect s c) (λ b how new. new.flags f ≡ s.flags f) (h.unassigned s c f lt no_use) (λ e. refl);
  unread = λ s c f v lt no_use.
      let n = neither (condition_reads condition_flags (condition_code w) f) (reads f) no_use in
      agrees_when (holds w s) (holds w (with_flag s f v)) s f v (effect s c) (effect (with_flag s f v) c) (same_holds w s f v n.0) (h.unread s c f v lt n.1);
  sure = λ s c f v lt no_use sure.
      let n = neither (condition_reads condition_flags (condition_code w) f) (reads f) no_use in
      let a = both (is_always w) (surely f) sure in
      same_when (holds w s) (holds w (with_flag s f v)) s f v (effect s c) (effect (with_flag s f v) c) (always_holds w s a.0)
      (always_holds w (with_flag s f v) a.0)
      (h.sure s c f v lt n.1 a.1);
  sure_flags = λ f sure. h.sure_flags f (both (is_always w) (surely f) sure).1;
  draws = λ none s c d. ap (λ z. when (holds w s) s z) (h.draws none s c d);
  plain = λ f lt assigned s. h.plain f assigned (holds w s) s;
  stored_unread = λ s f v lt no_use.
      let n = neither (condition_reads condition_flags (condition_code w) f) (reads f) no_use in
      ap (λ b. stored b s) (same_holds w s f v n.0) ∙ h.stored_unread (holds w (with_flag s f v)) s f v n.1;
  priced = priced;
  loads = λ s m c is other same.
      let e = h.steady (holds w s) s m in
      (e.0, e.1, loads_when (holds w s) s m stored loaded (effect s c) (effect (with_memory s m) c) (h.idle s) same (h.loads s m c is));
  unloaded = λ s c is. raises_when (holds w s) s (effect s c) (λ b. loaded b s ≡ None) (h.unloaded s c is);
  few_loads = λ s. few (holds w s) s;
  loads_at = λ s is. begins (holds w s) s is;
  calls = calls;
}
  where
    ways : (s : State) (c : ℕ) → IsState s → IfGoes (when (holds w s) s (effect s c)) (λ how new. Way (successors s.pc) (add 32 s.pc 4) how new.pc)
    ways s c is = goes_when (holds w s) s (effect s c) (λ b how new. Way (successors s.pc) (add 32 s.pc 4) how new.pc) (h.ways s c is)
        (λ e. (h.skips s.pc (not_always w s e), refl))

    mod_small : (a : ℕ) → a % 2 ^ 32 < 2 ^ 32
    mod_small a = omega arith
