-- The list of a row without the assignments of flags that are not live, and with the constant of a kept literal in place of its load.
use Rattle.std.proofs.Common.{◌≡◌, refl, ap, sym, ◌∙◌, subst, arith, ℕ, ◌<◌, ◌≤◌, ◌^◌, Option, Some, None, Bool, true, false, List, [], ◌∷◌}
use Rattle.std.specs.Prelude.{if◌then◌else◌, ◌&&◌, nat_eq, nat_lt, ◌↔◌, Contains}
use Rattle.std.specs.List.{list_any}
use Rattle.std.specs.Global.{Vec}
use Rattle.word_spec.specs.Memory.{load}
use Rattle.word_spec.specs.State.{State}
use Rattle.machine_spec.specs.Machine.{Row, addresses}
use Rattle.machine_spec.specs.MachineLaws.{IsLifting}
use Rattle.machine_spec.specs.Bil.{Bank, Statements}
use Rattle.machine_spec.specs.BilCounts.{byte_loads, byte_stores, other_loads, may_assign}
use Rattle.machine_spec.specs.BilMeaning.{Ending, execute}
use Rattle.machine_spec.specs.BilStores.{list_stored}
use Rattle.bilv_spec.specs.Run.{Program, all_kept, literal_target}
use Rattle.bilv_spec.specs.Points.{file_row, file_word, file_number, is_empty}
use Rattle.bilv_spec.specs.LiveFlags.{assigns_by, reads_by, surely_by}
use Rattle.bil_ast.specs.declared.statements.Stmt.{Stmt}
use Rattle.bil_ast.specs.Views.{statements}
use Rattle.graph_nodes.specs.Graphs.{has_flag}
use Rattle.flag_live.specs.Contracted.{IsLiveWith}
use Rattle.question_form.specs.FrameViews.{list_of}
use Rattle.frame_spec.specs.Frames.{Contract, Content}
use Rattle.frame_spec.specs.FrameUnrolling.{IsCarriedOf, IsRead, IsReadAfter, by_row, later, LeavesAs, IsRunnable, is_variable_of}
use Rattle.frame_spec.specs.FrameWalk.{Action, Executes, UnrolledPoint, UnrolledProgram, leaving_by, left_by, stored_by}
use Rattle.walk_spec.specs.Unrolling.{HoldsLiteral}
use Rattle.bil_trim.specs.Flags.{kept_in, with_flags}
use Rattle.bil_trim.specs.Literals.{with_literal}
use Rattle.bil_trim.specs.Parts.{HasNoMore}
use Rattle.bil_trim.proofs.Quiet.{literals_keep_meaning, nothing_stored}
use Rattle.bil_trim.proofs.Fewer.{flags_add_nothing}
use Rattle.bil_trim.proofs.NoMore.{literals_add_nothing, literals_assign_the_same}
use Rattle.unroller.specs.Rows.{kept_literal, list_with, IsCosted, IsListAt, IsListOf, IsListedAt, ListsDoRows, may_assign_in}
use Rattle.unroller.proofs.Rows.{begins}
use Rattle.unroller.proofs.Dropped.{leaves_trimmed, stores_trimmed}
use Rattle.unroller.proofs.Mixed.{both}
use Rattle.unroller.proofs.Named.{list_wider}

by_kept : (b : Bool) (a x : ℕ) → (if b then Some a else None) ≡ Some x → (b ≡ true) × (a ≡ x)
by_kept true a x h = (refl, (let e : a ≡ x = cc in e))
by_kept false a x h = absurd (cc)

-- a kept literal is the row's, and its bytes are kept
pub of_kept : (p : Program) (o : Option ℕ) (a : ℕ) → kept_literal p o ≡ Some a → (o ≡ Some a) × (all_kept p a ≡ true)
of_kept p None a h = absurd (cc)
of_kept p (Some x) a h = let l = by_kept (all_kept p x) x a h in (ap (λ (z : ℕ). Some z) l.1, ap (λ (z : ℕ). all_kept p z) (sym l.1) ∙ l.0)

-- and the other way round
pub is_kept_one : (p : Program) (o : Option ℕ) (a : ℕ) → o ≡ Some a → all_kept p a ≡ true → kept_literal p o ≡ Some a
is_kept_one p o a e h = ap (λ (z : Option ℕ). kept_literal p z) e ∙ ap (λ (z : Bool). if z then Some a else None) h

target_by : (b : Bool) (a w n : ℕ) → (if b then Some a else None) ≡ None → (if is_empty (if b then w ∷ [] else []) then n else 0) ≡ n
target_by true a w n h = absurd (cc)
target_by false a w n h = refl

-- a row without a kept literal costs its loads
pub loads_full : (p : Program) (o : Option ℕ) (n : ℕ) → kept_literal p o ≡ None → (if is_empty (literal_target p (file_word p) o) then n else 0) ≡ n
loads_full p None n h = refl
loads_full p (Some a) n h = target_by (all_kept p a) a (file_word p a) n h

-- and one with such a literal none
pub loads_none : (p : Program) (o : Option ℕ) (a n : ℕ) → kept_literal p o ≡ Some a → (if is_empty (literal_target p (file_word p) o) then n else 0) ≡ 0
loads_none p o a n h =
    let l = of_kept p o a h in
    ap (λ (z : Option ℕ). if is_empty (literal_target p (file_word p) z) then n else 0) l.0
    ∙ ap (λ (z : Bool). if is_empty (if z then file_word p a ∷ [] else []) then n else 0) l.1

more_on : (a b c : Statements) → HasNoMore a b → HasNoMore b c → HasNoMore a c
more_on a b c x y = record {
  typed = λ h. x.typed (y.typed h);
  no_loop = λ h. x.no_loop (y.no_loop h);
  no_special = λ h. x.no_special (y.no_special h);
  nests = (let l = x.nests in let r = y.nests in omega arith);
  names = λ k h. x.names k (y.names k h);
  weight = (let l = x.weight in let r = y.weight in omega arith);
  loads = (let l = x.loads in let r = y.loads in omega arith);
  stores = (let l = x.stores in let r = y.stores in omega arith);
  picks = (let l = x.picks in let r = y.picks in omega arith);
  steady = (let l = x.steady in let r = y.steady in omega arith);
  draws = (let l = x.draws in let r = y.draws in omega arith);
}

module _ (p : Program) (u : UnrolledProgram) (bank : Bank) (q : UnrolledPoint) (row : Row) (lifted list : Statements) (registers : (r : ℕ) →
    list_any (nat_eq r) u.registers ≡ p.machine.has_register r) (flags : (f : ℕ) → nat_lt f u.flags ≡ p.machine.has_flag f)
    (lifting : IsLifting p.machine bank row q.point.at lifted) (less : HasNoMore list lifted)
    (others : (a : ℕ) → other_loads p.machine.endian a list ≤ other_loads p.machine.endian a lifted)
    (word : (a : ℕ) → kept_literal p (row.literal q.point.at) ≡ Some a → file_number p a < 2 ^ 32) where
  abbrev Put : Option ℕ → Statements
  Put o = list_with p o list

  no_stores : (a : ℕ) → row.literal q.point.at ≡ Some a → byte_stores list ≡ 0
  no_stores a h = let l = less.stores in let none = (lifting.literal a h).1 in omega arith

  no_others : (a : ℕ) → row.literal q.point.at ≡ Some a → other_loads p.machine.endian a list ≡ 0
  no_others a h = let l = others a in let none = (lifting.literal a h).0 in omega arith

  -- the list with the constant does the same in a state that has the literal
  same_end : (o : Option ℕ) → kept_literal p (row.literal q.point.at) ≡ o → (s : State) (c : Content) (choice : ℕ) → s.pc ≡ q.point.at → c.mem ≡ s.mem →
      HoldsLiteral p row s → execute (Put o) choice (begins q c) ≡ execute list choice (begins q c)
  same_end None k s c choice here mem holds = refl
  same_end (Some a) k s c choice here mem holds =
      let l = of_kept p (row.literal q.point.at) a k in
      literals_keep_meaning p.machine.endian a (file_number p a) list choice (begins q c) (less.no_loop lifting.no_loop) (no_stores a l.0)
      (ap (λ (m : ℕ → ℕ). load p.machine.endian 4 m a) mem ∙ holds a (ap row.literal here ∙ l.0) l.1) (λ x n. tt)

  same_stored : (o : Option ℕ) → kept_literal p (row.literal q.point.at) ≡ o → (c : Content) (choice : ℕ) →
      list_stored (Put o) choice (begins q c) ≡ list_stored list choice (begins q c)
  same_stored None k c choice = refl
  same_stored (Some a) k c choice =
      let none = no_stores a (of_kept p (row.literal q.point.at) a k).0 in
      let fewer = (literals_add_nothing p.machine.endian a (file_number p a) list (word a k)).0.stores in
      nothing_stored (with_literal p.machine.endian a (file_number p a) list) choice (begins q c) (omega arith)
      ∙ sym (nothing_stored list choice (begins q c) none)

  -- terms can be made of a list with no more than the lifted one
  runnable_by : (made : Statements) → HasNoMore made lifted → byte_loads made ≤ q.loads → IsCosted p q row → IsRunnable u q made
  runnable_by made no_more loads counted = record {
    typed = no_more.typed lifting.typed;
    no_loop = no_more.no_loop lifting.no_loop;
    no_special = no_more.no_special lifting.no_special;
    nests = (let a = no_more.nests in let b = lifting.nests in omega arith);
    picks = (let a = no_more.picks in let b = lifting.picks in omega arith);
    steady = (let a = no_more.steady in let b = lifting.steady in omega arith);
    names = no_more.names (is_variable_of u) (list_wider p.machine bank u registers flags lifted lifting.names);
    draws = λ e. (let a = no_more.draws in let b = lifting.draws (sym counted.draws ∙ e) in omega arith);
    weight = (let a = no_more.weight in let b = lifting.weight in let c = counted.row_cost in omega arith);
    loads = loads;
    byte_stores = (let a = no_more.stores in let b = lifting.stores in let c = counted.stores in omega arith);
  }

  runnable : (o : Option ℕ) → kept_literal p (row.literal q.point.at) ≡ o → IsCosted p q row → IsRunnable u q (Put o)
  runnable None k counted =
      runnable_by list less
      (subst (λ (z : ℕ). byte_loads list ≤ z) (sym (counted.loads ∙ loads_full p (row.literal q.point.at) row.cost.loads k))
      (let a = less.loads in let b = lifting.loads in omega arith)) counted
  runnable (Some a) k counted =
      let law = literals_add_nothing p.machine.endian a (file_number p a) list (word a k) in
      runnable_by (Put (Some a)) (more_on (Put (Some a)) list lifted law.0 less)
      (subst (λ (z : ℕ). z ≤ q.loads) (sym (law.1 (no_others a (of_kept p (row.literal q.point.at) a k).0))) (omega arith)) counted

-- an assignment stays that is read later
module _ (p : Program) (bank : Bank) (contracts : List Contract) (at : ℕ) (row : Row) (list : Statements) (is : file_row p at ≡ Some row)
    (listed : IsListAt p bank contracts row at list) where
  stays_by : (f : ℕ) → f < 4 → row.flags.assigns f ≡ true → IsReadAfter p contracts f at → has_flag listed.keeps f ≡ true
  stays_by f few assigns after = (listed.live f few).1 (record { assigns = ap (λ (o : Option Row). assigns_by f o) is ∙ assigns; read = after })

  read_now : (f : ℕ) → row.flags.reads f ≡ true → IsRead p contracts f at
  read_now f e = by_row (ap (λ (o : Option Row). reads_by f o) is ∙ e)

  read_later : (f : ℕ) → row.flags.surely f ≡ false → IsReadAfter p contracts f at → IsRead p contracts f at
  read_later f e r = later (ap (λ (o : Option Row). surely_by f o) is ∙ e) r

pub lists_do_rows : ListsDoRows
lists_do_rows p contracts u form bank q row list fitted registers flags is lawful listed does long counted =
    let o = kept_literal p (row.literal q.point.at) in
    let at = q.point.at in
    let keeps = kept_in listed.keeps in
    let trimmed = with_flags keeps listed.lifted in
    let fewer = flags_add_nothing keeps listed.lifted in
    let others = λ (a : ℕ). fewer.loads p.machine.endian a in
    let all = does ∙ ap (λ (z : Statements). Executes z) listed.is in
    let Reads : ℕ → Type 0 = λ f. IsRead p contracts f at in
    let After : ℕ → Type 0 = λ f. IsReadAfter p contracts f at in
    let now = read_now p bank contracts at row list is listed in
    let behind = read_later p bank contracts at row list is listed in
    let stays = stays_by p bank contracts at row list is listed in (
      record {
        length = long;
        lists = (list, does);
        leaves = λ s c choice state here few holds h.
            let moved : IsCarriedOf Reads s c = subst (λ (z : ℕ). IsCarriedOf (λ f. IsRead p contracts f z) s c) here h in
            subst (λ (z : ℕ). LeavesAs (λ f. IsReadAfter p contracts f z) (row.effect s choice) (left_by u q choice c c q.does)) (sym here)
            (subst (λ (z : Action). LeavesAs After (row.effect s choice) (left_by u q choice c c z)) (sym all)
            (subst (λ (z : Ending). LeavesAs After (row.effect s choice) (leaving_by q z))
            (sym (same_end p u bank q row listed.lifted trimmed registers flags listed.lifting fewer.no_more others listed.word o refl s c choice here h.mem
            holds))
            (leaves_trimmed p form bank q row listed.lifted fitted lawful listed.lifting long Reads After now behind listed.keeps stays s c choice state here few
            moved)));
        stores = λ s c choice state here few holds h a.
            let moved : IsCarriedOf Reads s c = subst (λ (z : ℕ). IsCarriedOf (λ f. IsRead p contracts f z) s c) here h in
            subst (λ (z : Action). Contains (stored_by u q choice c z) a ↔ Contains (addresses (row.stored s)) a) (sym all)
            (subst (λ (z : List ℕ). Contains z a ↔ Contains (addresses (row.stored s)) a)
            (sym (same_stored p u bank q row listed.lifted trimmed registers flags listed.lifting fewer.no_more others listed.word o refl c choice))
            (stores_trimmed p form bank q row listed.lifted fitted lawful listed.lifting long Reads After now behind listed.keeps stays s c choice state here few
            moved a));
      },
      subst (λ (z : Statements). IsRunnable u q z) (sym listed.is)
          (runnable p u bank q row listed.lifted trimmed registers flags listed.lifting fewer.no_more others listed.word o refl counted),
    )

assigns_with : (p : Program) (f : ℕ) (o : Option ℕ) (list : Statements) → may_assign f (list_with p o list) ≡ may_assign f list
assigns_with p f None list = refl
assigns_with p f (Some a) list = literals_assign_the_same p.machine.endian a (file_number p a) f list

-- the list of a row assigns no flag whose assignment there is not live
list_is_lean : (p : Program) (bank : Bank) (contracts : List Contract) (row : Row) (at f : ℕ) (list : Statements) → IsListAt p bank contracts row at list →
    f < 4 → may_assign f list ≡ true → IsLiveWith p contracts f at
list_is_lean p bank contracts row at f list listed low h =
    let keeps = kept_in listed.keeps in
    let kept : (keeps f && may_assign f listed.lifted) ≡ true =
    sym ((flags_add_nothing keeps listed.lifted).assigns f) ∙ sym (assigns_with p f (kept_literal p (row.literal at)) (with_flags keeps listed.lifted))
    ∙ ap (λ (z : Statements). may_assign f z) (sym listed.is) ∙ h in
    (listed.live f low).0 (both (nat_lt f 4) (has_flag listed.keeps f) (both (keeps f) (may_assign f listed.lifted) kept).0).1

module _ (p : Program) (bank : Bank) (contracts : List Contract) where
  pub code_is_lean : (o : Option Row) (at f : ℕ) (list : Option (Vec Stmt)) → IsListedAt p bank contracts o at list → f < 4 →
      may_assign_in f (list_of list) ≡ true → IsLiveWith p contracts f at
  code_is_lean o at f None listed low h = absurd (cc)
  code_is_lean None at f (Some v) listed low h = absurd listed
  code_is_lean (Some row) at f (Some v) listed low h = list_is_lean p bank contracts row at f (statements v.items) listed low h

  pub code_is_listed : (o : Option Row) (at : ℕ) (list : Option (Vec Stmt)) → IsListedAt p bank contracts o at list →
      IsListOf p bank contracts o at (list_of list)
  code_is_listed None at None listed = refl
  code_is_listed None at (Some v) listed = absurd listed
  code_is_listed (Some row) at None listed = absurd listed
  code_is_listed (Some row) at (Some v) listed = listed
