-- One step of the walk is one step of the run.
use Rattle.std.proofs.Common.{◌≡◌, ℕ, refl, ap, sym, ◌∙◌, subst, arith, List, [], ◌∷◌, ◌++◌, Option, Some, None, Bool, true, false}
use Rattle.std.specs.Prelude.{◌==◌, ◌&&◌, ◌||◌, not, if◌then◌else◌, map, filter}
use Rattle.std.specs.List.{list_any, AllZip}
use Rattle.std.proofs.lemmas.Bool.Decides.{nat_tests}
use Rattle.word_spec.specs.Words.{bit}
use Rattle.word_spec.specs.Memory.{Endian, load}
use Rattle.word_spec.specs.State.{State}
use Rattle.bilv_spec.specs.Notes.{Expr, Number, Register, Flag, Pc, Bound, Memory, Old, Not, Binary, NoteLine, Assert, apply, value, is_true}
use Rattle.bilv_spec.specs.Run.{Program, false_assert, false_line}
use Rattle.machine_spec.specs.Endings.{AssertFails, JumpFails}
use Rattle.bilv_spec.specs.Points.{Point, EdgeEnd, fall_ends, jump_ends, same_end}
use Rattle.machine_spec.specs.Machine.{Row}
use Rattle.bilv_spec.specs.LiveFlags.{names_flag}
use Rattle.walk_spec.specs.Unrolled.{Carried, Aim, ToEvent, PointExit, FalseAssert, UnrolledProgram, Leaving, GoesOn, first_aim, is_taken, aim_of, edge_address}
use Rattle.walk_spec.specs.Unrolling.{IsEdge, IsAim, address_of}
use Rattle.walk_spec.proofs.WalkEdges.{first_hit, takes}

-- two states that a list of expressions can't tell apart
pub record IsAlike (reads : ℕ → Type 0) (s t : State) : Type 0 where
  pub pc : s.pc ≡ t.pc
  pub regs : s.regs ≡ t.regs
  pub mem : s.mem ≡ t.mem
  pub flags : (f : ℕ) → reads f → s.flags f ≡ t.flags f

same_number : (a : ℕ) → (a == a) ≡ true
same_number a = grind (arith, nat_tests)

or_left : (b c : Bool) → b ≡ true → (b || c) ≡ true
or_left b c e = ap (λ z. z || c) e

or_right : (b c : Bool) → c ≡ true → (b || c) ≡ true
or_right true c e = refl
or_right false c e = e

-- the value of an expression is the same, where the flags are that it names
value_same : (e : Endian) (x : Expr) (s t entry : State) → IsAlike (λ f. names_flag f x ≡ true) s t → value e x s entry ≡ value e x t entry
value_same e (Number n) s t entry a = refl
value_same e (Register r) s t entry a = ap (λ z. z r) a.regs
value_same e (Flag f) s t entry a = a.flags f (same_number f)
value_same e Pc s t entry a = a.pc
value_same e Bound s t entry a = refl
value_same e (Memory n x) s t entry a = ap (λ z. load e n z (value e x s entry)) a.mem ∙ ap (load e n t.mem) (value_same e x s t entry a)
value_same e (Old x) s t entry a = refl
value_same e (Not x) s t entry a = ap (λ z. bit (not (is_true z))) (value_same e x s t entry a)
value_same e (Binary op x y) s t entry a =
    let l = value_same e x s t entry (record {
      pc = a.pc;
      regs = a.regs;
      mem = a.mem;
      flags =
          λ f h. a.flags f (or_left (names_flag f x) (names_flag f y) h);
    }) in
    let r = value_same e y s t entry (record {
      pc = a.pc;
      regs = a.regs;
      mem = a.mem;
      flags =
          λ f h. a.flags f (or_right (names_flag f x) (names_flag f y) h);
    }) in
    ap (λ z. apply op z (value e y s entry)) l ∙ ap (apply op (value e x t entry)) r

-- the first false line is the same
pub false_line_same : (e : Endian) (ls : List NoteLine) (s t entry : State) → IsAlike (λ f. list_any (λ l. names_flag f l.says) ls ≡ true) s t →
    false_line e ls s entry ≡ false_line e ls t entry
false_line_same e [] s t entry a = refl
false_line_same e (l ∷ ls) s t entry a =
    let v = value_same e l.says s t entry (record {
      pc = a.pc;
      regs = a.regs;
      mem = a.mem;
      flags =
          λ f h. a.flags f (or_left (names_flag f l.says) (list_any (λ l. names_flag f l.says) ls) h);
    }) in
    let r = false_line_same e ls s t entry (record {
      pc = a.pc;
      regs = a.regs;
      mem = a.mem;
      flags =
          λ f h. a.flags f (or_right (names_flag f l.says) (list_any (λ l. names_flag f l.says) ls) h);
    }) in
    ap (λ z. if is_true z then false_line e ls s entry else Some l.line) v ∙ ap (λ z. if is_true (value e l.says t entry) then z else Some l.line) r

-- the exits of the assert lines come first
abbrev pub assert_or : Option ℕ → Aim → Aim
assert_or None x = x
assert_or (Some line) x = ToEvent (AssertFails line)

if_assert : (b : Bool) (line : ℕ) (o : Option ℕ) (x : Aim) → (if b then ToEvent (AssertFails line) else assert_or o x)
    ≡ assert_or (if b then Some line else o) x
if_assert true line o x = refl
if_assert false line o x = refl

module _ (u : UnrolledProgram) (entry now old : State) (writes : Bool) (l : Leaving) (rest : List PointExit) where
  abbrev exits_of : List Assert → List PointExit
  exits_of lines = map (λ a. FalseAssert a.line a.says) (filter (λ a. a.at == old.pc) lines)

  abbrev reads_of : List Assert → ℕ → Type 0
  reads_of lines f = list_any (λ x. (x.at == old.pc) && names_flag f x.says) lines ≡ true

  assert_by : (a : Assert) (lines : List Assert) (b : Bool) → (a.at == old.pc) ≡ b → IsAlike (reads_of (a ∷ lines)) old now →
      first_aim u entry now writes l (exits_of lines ++ rest) ≡ assert_or (false_assert u.endian lines old entry) (first_aim u entry now writes l rest) →
      first_aim u entry now writes l (map (λ a. FalseAssert a.line a.says) (if b then a
      ∷ filter (λ a. a.at == old.pc) lines else filter (λ a. a.at == old.pc) lines) ++ rest)
      ≡ assert_or (if b && not (is_true (value u.endian a.says old entry)) then Some a.line
      else false_assert u.endian lines old entry) (first_aim u entry now writes l rest)
  assert_by a lines false e alike i = i
  assert_by a lines true e alike i =
      let v = value_same u.endian a.says old now entry (record {
        pc = alike.pc;
        regs = alike.regs;
        mem = alike.mem;
        flags = λ f h. alike.flags f (or_left ((a.at == old.pc) &&
            names_flag f a.says) (list_any (λ x. (x.at == old.pc) && names_flag f x.says) lines) (ap (λ z. z && names_flag f a.says) e ∙ h));
      }) in
      ap (λ z. if not (is_true (value u.endian a.says now entry)) then ToEvent (AssertFails a.line) else z) i
      ∙ if_assert (not (is_true (value u.endian a.says now entry))) a.line (false_assert u.endian lines old entry) (first_aim u entry now writes l rest)
      ∙ ap (λ z. assert_or (if not (is_true z) then Some a.line else false_assert u.endian lines old entry) (first_aim u entry now writes l rest)) (sym v)

  pub asserts_aim : (lines : List Assert) → IsAlike (reads_of lines) old now →
      first_aim u entry now writes l (exits_of lines ++ rest) ≡ assert_or (false_assert u.endian lines old entry) (first_aim u entry now writes l rest)
  asserts_aim [] alike = refl
  asserts_aim (a ∷ lines) alike =
      assert_by a lines (a.at == old.pc) refl alike (asserts_aim lines (record {
        pc = alike.pc;
        regs = alike.regs;
        mem = alike.mem;
        flags = λ f h. alike.flags f (or_right ((a.at == old.pc) && names_flag f a.says) (list_any (λ x. (x.at == old.pc) && names_flag f x.says) lines) h);
      }))

-- the exit that is taken is the edge of the end that is
abbrev pub Chosen : UnrolledProgram → (k i : ℕ) → Point → Option EdgeEnd → Aim → Type 0
Chosen u k i q None aim = aim ≡ ToEvent JumpFails
Chosen u k i q (Some t) aim = IsAim u k i q t aim

module _ (p : Program) (k i : ℕ) (u : UnrolledProgram) (entry now old new : State) (row : Row) (turns : ℕ) (stack : List ℕ) (link : u.link
    ≡ p.machine.link) (writes jumped : Bool) (to : ℕ) (c : Carried) (same : to ≡ new.pc) where
  abbrev q : Point
  q = record { turns = turns; stack = stack; at = old.pc }

  abbrev hit : EdgeEnd → Bool
  hit t = takes p u entry old new row turns stack link jumped t

  chosen_by : (b : Bool) (t : EdgeEnd) (aim other : Aim) (o : Option EdgeEnd) → IsAim u k i q t aim → Chosen u k i q o other →
      Chosen u k i q (if b then Some t else o) (if b then aim else other)
  chosen_by true t aim other o h g = h
  chosen_by false t aim other o h g = g

  taken_is : (t : EdgeEnd) (x : PointExit) (e : IsEdge p k u i q row t x) →
      is_taken u entry now writes (GoesOn jumped to c) x ≡ hit t
  taken_is t x e =
      ap (is_taken u entry now writes (GoesOn jumped to c)) e.is
      ∙ ap (λ z. (if jumped then list_any (same_end t) (jump_ends p q row (row.successors old.pc))
      else list_any (same_end t) (fall_ends q row (row.successors old.pc)))
      && (z == edge_address u entry (address_of t))) same

  pub chosen : (ends : List EdgeEnd) (xs : List PointExit) → AllZip (IsEdge p k u i q row) ends xs →
      Chosen u k i q (first_hit hit ends) (first_aim u entry now writes (GoesOn jumped to c) xs)
  chosen [] [] h = refl
  chosen [] (x ∷ xs) h = absurd h
  chosen (t ∷ ends) [] h = absurd h
  chosen (t ∷ ends) (x ∷ xs) h =
      let e = h.0 in
      let aim : e.aim ≡ aim_of (GoesOn jumped to c) x = ap (aim_of (GoesOn jumped to c)) (sym e.is) in
      subst (λ (z : Bool). Chosen u k i q (first_hit hit (t ∷ ends)) (if z then aim_of (GoesOn jumped to c) x
      else first_aim u entry now writes (GoesOn jumped to c) xs)) (sym (taken_is t x e))
      (chosen_by (hit t) t (aim_of (GoesOn jumped to c) x) (first_aim u entry now writes (GoesOn jumped to c) xs) (first_hit hit ends)
      (subst (λ (z : Aim). IsAim u k i q t z) aim e.leads) (chosen ends xs h.1))
