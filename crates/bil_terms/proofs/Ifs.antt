-- An if, by its sides.
use Rattle.std.proofs.Common.{◌≡◌, ℕ, List, [], ◌++◌, length, refl, sym, ap, ◌∙◌, subst, arith, append-nil, append_assoc, inl, inr}
use Rattle.std.specs.Prelude.{◌↔◌, Contains}
use Rattle.std.proofs.lemmas.Bool.{cases_lt}
use Rattle.std.proofs.lemmas.List.Elements.{Contains-append_cases}
use Rattle.std.proofs.lemmas.List.Sums.{sum_by-append}
use Rattle.word_spec.specs.RowFiles.{from_to}
use Rattle.machine_spec.specs.Bil.{Expression, Statements, Empty, If, total}
use Rattle.machine_spec.specs.BilCounts.{width, own_unknowns, unknowns}
use Rattle.machine_spec.specs.BilMeaning.{Value, Word, Position, Ending, Ends, RaisesException, OutOfTurns, Wrong, evaluate, execute, then_do, branch_on}
use Rattle.machine_spec.specs.BilStores.{stored_by, list_stored, chosen}
use Rattle.term_spec.specs.Terms.{TermReading, InRange, TermNode, HasWidth, term_word}
use Rattle.term_spec.specs.Passive.{AreNames, Denotes}
use Rattle.walk_spec.specs.Unrolled.{Carried, UnrolledProgram}
use Rattle.term_spec.specs.Passive as walk
use Rattle.term_dag.specs.Made.{Grew}
use Rattle.term_dag.specs.declared.nodes.Term.{Term}
use Rattle.term_dag.proofs.Growth.{grew_on, grew_more, grew_width, inputs_on, inputs_more}
use Rattle.term_names.specs.Views.{form_of, names_of}
use Rattle.term_names.specs.declared.names.Names.{Names}
use Rattle.term_names.specs.Choices.{places, differs, differing}
use Rattle.term_names.specs.Chosen.{HaveSameForm, HaveSameTerms, differing_memory}
use Rattle.bil_terms.specs.declared.run.Run.{Run}
use Rattle.bil_terms.specs.declared.stored.Stored.{Stored}
use Rattle.bil_terms.specs.Lowered.{IsWordTerm}
use Rattle.bil_terms.specs.Runs.{IsRun, Stands, Comes, IsStoredBy, IsLed, Jumps, bits_apart, terms_apart}
use Rattle.bil_terms.specs.Merged.{IsSplit, IsSide, AreSides, IsMerged, side_bits, side_terms}
use Rattle.bil_terms.proofs.Scopes.{contains_none, word_kept, holds_kept, scope_kept}
use Rattle.bil_terms.proofs.Gathering.{Draws, store_kept}
use Rattle.bil_terms.proofs.Steps.{run_scope, among_stored, same_bytes, jump_kept, nothing_after}
use Rattle.bil_terms.proofs.Stores.{same_form_on, none_stored, stored_kept, stored_both, stored_then}
use Rattle.bil_terms.proofs.Joined.{either_of, either_kept}

-- a run stays what it is as nodes are added
pub stands_kept : (old new : List TermNode) (g l s j n : ℕ) (x : TermReading) (r : Run) (p : Position) → Grew old new g l s j n → IsRun old r →
    Stands old x r p → Stands new x r p
stands_kept old new g l s j n x r p k run h = record {
  live = word_kept old new g l s j n r.live.0 x k run.live.0 ∙ h.live;
  jump = jump_kept old new g l s j n x r.jumped.0 r.target.0 p.jump k run.jumped run.target h.jump;
  holds = holds_kept old new g l s j n r.names [] r.live.0 x p.env k (run_scope old r run) h.holds;
}

pub same_form_of : (a b : Names) → HaveSameTerms a b → form_of a ≡ form_of b
same_form_of a b h =
    let f : ℕ → ℕ → ℕ → UnrolledProgram = λ first registers flags. record (form_of a) { registers = from_to first registers; flags = flags } in
    ap (λ z. f z (length a.registers.items) (length a.flags.items)) h.first
    ∙ ap (λ (z : List Term). f b.first (length z) (length a.flags.items)) h.registers ∙ ap
    (λ (z : List Term). f b.first (length b.registers.items) (length z)) h.flags

same_names_of : (a b : Names) → HaveSameTerms a b → names_of a ≡ names_of b
same_names_of a b h =
    let f : List Term → List Term → Term → walk.Names = λ ws bs m. record { registers = places ws; flags = places bs; memory = m.0 } in
    ap (λ (z : List Term). f z a.flags.items a.memory) h.registers ∙ ap (λ (z : List Term). f b.registers.items z a.memory) h.flags
    ∙ ap (λ (z : Term). f b.registers.items b.flags.items z) h.memory

pub side_denotes : (d : List TermNode) (x : TermReading) (a b : Names) (c : Carried) → HaveSameTerms a b → Denotes (form_of a) d x (names_of a) c →
    Denotes (form_of b) d x (names_of b) c
side_denotes d x a b c h p =
    subst (λ (z : UnrolledProgram). Denotes z d x (names_of b) c) (same_form_of a b h)
    (subst (λ (z : walk.Names). Denotes (form_of a) d x z c) (same_names_of a b h) p)

side_stands : (d : List TermNode) (x : TermReading) (r a : Run) (l : ℕ) (p : Position) → IsSide r l a → term_word x d l ≡ 1 → Stands d x r p → Stands d x a p
side_stands d x r a l p s e h = record {
  live = ap (term_word x d) s.live ∙ e;
  jump = subst (λ (z : Term). Jumps d x z.0 a.target.0 p.jump) (sym s.jumped) (subst (λ (z : Term). Jumps d x r.jumped.0 z.0 p.jump) (sym s.target) h.jump);
  holds = record { names = side_denotes d x r.names a.names _ s.names h.holds.names; locals = h.holds.locals };
}

-- the end of the side that was taken
side_comes : (d4 d5 : List TermNode) (x : TermReading) (a s : Run) (o : Ending) → Comes d4 x a o → ((p : Position) → Stands d4 x a p → Stands d5 x s p) →
    (term_word x d4 a.live.0 ≡ 0 → term_word x d5 s.live.0 ≡ 0) → Comes d5 x s (then_do o Ends)
side_comes d4 d5 x a s (Ends p) h k z = k p h
side_comes d4 d5 x a s (RaisesException n p) h k z = z h
side_comes d4 d5 x a s (OutOfTurns p) h k z = h
side_comes d4 d5 x a s Wrong h k z = h

comes_kept : (old new : List TermNode) (g l s j n : ℕ) (x : TermReading) (r : Run) (o : Ending) → Grew old new g l s j n → IsRun old r → Comes old x r o →
    Comes new x r o
comes_kept old new g l s j n x r (Ends p) k run h = stands_kept old new g l s j n x r p k run h
comes_kept old new g l s j n x r (RaisesException m p) k run h = word_kept old new g l s j n r.live.0 x k run.live.0 ∙ h
comes_kept old new g l s j n x r (OutOfTurns p) k run h = h
comes_kept old new g l s j n x r Wrong k run h = h

taken : (e : Expression) (a b : Statements) (w v c : ℕ) (p : Position) → evaluate e c p.env ≡ Word w v → w ≡ 1 → v ≡ 1 →
    then_do (execute a c p) Ends ≡ execute (If e a b Empty) c p
taken e a b w v c p h k l =
    sym (ap (λ (z : Value). then_do (branch_on z (execute a c p) (execute b c p)) Ends) (h ∙ ap (λ z. Word z v) k ∙ ap (Word 1) l))

passed : (e : Expression) (a b : Statements) (w v c : ℕ) (p : Position) → evaluate e c p.env ≡ Word w v → w ≡ 1 → v ≡ 0 →
    then_do (execute b c p) Ends ≡ execute (If e a b Empty) c p
passed e a b w v c p h k l =
    sym (ap (λ (z : Value). then_do (branch_on z (execute a c p) (execute b c p)) Ends) (h ∙ ap (λ z. Word z v) k ∙ ap (Word 1) l))

stored_taken : (e : Expression) (a b : Statements) (w v c : ℕ) (p : Position) → evaluate e c p.env ≡ Word w v → w ≡ 1 → v ≡ 1 →
    list_stored (If e a b Empty) c p ≡ stored_by e c p.env ++ list_stored a c p
stored_taken e a b w v c p h k l =
    ap (λ z. stored_by e c p.env ++ chosen (evaluate e c p.env) (list_stored a c p) (list_stored b c p) ++ z) (nothing_after _)
    ∙ append-nil (stored_by e c p.env ++ chosen (evaluate e c p.env) (list_stored a c p) (list_stored b c p))
    ∙ ap (λ (z : Value). stored_by e c p.env ++ chosen z (list_stored a c p) (list_stored b c p)) (h ∙ ap (λ z. Word z v) k ∙ ap (Word 1) l)

stored_passed : (e : Expression) (a b : Statements) (w v c : ℕ) (p : Position) → evaluate e c p.env ≡ Word w v → w ≡ 1 → v ≡ 0 →
    list_stored (If e a b Empty) c p ≡ stored_by e c p.env ++ list_stored b c p
stored_passed e a b w v c p h k l =
    ap (λ z. stored_by e c p.env ++ chosen (evaluate e c p.env) (list_stored a c p) (list_stored b c p) ++ z) (nothing_after _)
    ∙ append-nil (stored_by e c p.env ++ chosen (evaluate e c p.env) (list_stored a c p) (list_stored b c p))
    ∙ ap (λ (z : Value). stored_by e c p.env ++ chosen z (list_stored a c p) (list_stored b c p)) (h ∙ ap (λ z. Word z v) k ∙ ap (Word 1) l)

-- under a reading, what a side says where the condition took it
pub record IsTaken (d0 d5 : List TermNode) (x : TermReading) (r s : Run) (list : Statements) (c : ℕ) (more : List Stored) : Type 0 where
  pub comes : (p : Position) → Stands d0 x r p → Comes d5 x s (execute list c p)
  pub stored : (p : Position) → Stands d0 x r p → (a : ℕ) → Contains (list_stored list c p) a ↔ IsStoredBy d5 x more a

pub side_run : (d : List TermNode) (r a : Run) (l : ℕ) → IsRun d r → IsSide r l a → HasWidth d 1 l → IsRun d a
side_run d r a l run s h = record {
  names = subst (λ (z : UnrolledProgram). AreNames z d (names_of a.names)) (same_form_of r.names a.names s.names)
      (subst (λ (z : walk.Names). AreNames (form_of r.names) d z) (same_names_of r.names a.names s.names) run.names);
  jumped = subst (λ (z : Term). HasWidth d 1 z.0) (sym s.jumped) run.jumped;
  target = subst (λ (z : Term). HasWidth d 32 z.0) (sym s.target) run.target;
  live = subst (HasWidth d 1) (sym s.live) h;
}

pub run_kept : (old new : List TermNode) (g l s j n : ℕ) (r : Run) → Grew old new g l s j n → IsRun old r → IsRun new r
run_kept old new g l s j n r k h =
    let sc = scope_kept old new g l s j n r.names [] r.live.0 k (run_scope old r h) in record {
      names = sc.names;
      jumped = grew_width old new g l s j n 1 r.jumped.0 k h.jumped;
      target = grew_width old new g l s j n 32 r.target.0 k h.target;
      live = sc.live_bit;
    }

-- a side has come as far from the run before as from where it began
side_apart : (r a0 a : Run) (l : ℕ) → IsSide r l a0 → (side_bits r l a ≡ bits_apart a0 a) × (side_terms r l a ≡ terms_apart a0 a)
    × (differing_memory r.names a.names ≡ differing_memory a0.names a.names)
side_apart r a0 a l s =
    let registers : differing (names_of r.names).registers (names_of a.names).registers ≡ differing (names_of a0.names).registers (names_of a.names).registers =
    ap (λ (z : List Term). differing (places z) (names_of a.names).registers) s.names.registers in
    let flags : differing (names_of r.names).flags (names_of a.names).flags ≡ differing (names_of a0.names).flags (names_of a.names).flags =
    ap (λ (z : List Term). differing (places z) (names_of a.names).flags) s.names.flags in
    let memory : differs r.names.memory.0 a.names.memory.0 ≡ differs a0.names.memory.0 a.names.memory.0 = ap
    (λ (z : Term). differs z.0 a.names.memory.0) s.names.memory in
    let target : differs a0.target.0 a.target.0 ≡ differs r.target.0 a.target.0 = ap (λ (z : Term). differs z.0 a.target.0) s.target in
    let live : differs a0.live.0 a.live.0 ≡ differs l a.live.0 = ap (λ z. differs z a.live.0) s.live in
    (omega arith, omega arith, memory)

side_form : (r a0 : Run) (l : ℕ) → IsSide r l a0 → HaveSameForm r.names a0.names
side_form r a0 l s = record { first = s.names.first; registers = ap length s.names.registers; flags = ap length s.names.flags }

-- the sides can be led
pub first_begins : (d0 d1 d2 : List TermNode) (place : ℕ) (r a0 : Run) (s0 s1 : List Stored) (e : Expression) (c one other : ℕ) → IsRun d0 r →
    IsWordTerm d0 d1 r.names [] place r.live.0 s0 s1 e c → IsSplit d1 d2 c r.live.0 one other → IsSide r one a0 → IsRun d2 a0
first_begins d0 d1 d2 place r a0 s0 s1 e c one other run k sp sa =
    side_run d2 r a0 one (run_kept d0 d2 _ _ _ _ _ r (grew_on d0 d1 d2 _ _ _ _ _ _ _ _ _ _ k.gathered.grew sp.grew) run) sa sp.one_bit

pub second_begins : (d0 d1 d2 d3 : List TermNode) (place : ℕ) (r a0 b0 a : Run) (s0 s1 s2 : List Stored) (e : Expression) (y : Statements) (c one other : ℕ) →
    IsRun d0 r →
    IsWordTerm d0 d1 r.names [] place r.live.0 s0 s1 e c → IsSplit d1 d2 c r.live.0 one other → IsSide r other b0 → IsLed d2 d3 place a0 a s1 s2 y → IsRun d3 b0
second_begins d0 d1 d2 d3 place r a0 b0 a s0 s1 s2 e y c one other run k sp sb p =
    run_kept d2 d3 _ _ _ _ _ b0 p.grew
    (side_run d2 r b0 other (run_kept d0 d2 _ _ _ _ _ r (grew_on d0 d1 d2 _ _ _ _ _ _ _ _ _ _ k.gathered.grew sp.grew) run) sb sp.other_bit)

-- and then merged
pub sides_led : (d0 d1 d2 d3 d4 : List TermNode) (place : ℕ) (r a0 b0 a b : Run) (s0 s1 s2 s3 : List Stored) (e : Expression) (y z : Statements)
    (c one other : ℕ) → IsRun d0 r →
    width e ≡ 1 → IsWordTerm d0 d1 r.names [] place r.live.0 s0 s1 e c → IsSplit d1 d2 c r.live.0 one other → IsSide r one a0 → IsSide r other b0 →
    IsLed d2 d3 place a0 a s1 s2 y → IsLed d3 d4 place b0 b s2 s3 z → AreSides d4 c r one other a b
sides_led d0 d1 d2 d3 d4 place r a0 b0 a b s0 s1 s2 s3 e y z c one other run w k sp sa sb p q =
    let g24 = grew_on d2 d3 d4 _ _ _ _ _ _ _ _ _ _ p.grew q.grew in
    let g14 = grew_on d1 d2 d4 _ _ _ _ _ _ _ _ _ _ sp.grew g24 in
    let g12 = grew_on d0 d1 d2 _ _ _ _ _ _ _ _ _ _ k.gathered.grew sp.grew in
    let live : HasWidth d2 1 r.live.0 = grew_width d0 d2 _ _ _ _ _ 1 r.live.0 g12 run.live in record {
      condition_bit = grew_width d1 d4 _ _ _ _ _ 1 c g14 (subst (λ v. HasWidth d1 v c) w k.at);
      live_bit = grew_width d2 d4 _ _ _ _ _ 1 r.live.0 g24 live;
      one_bit = grew_width d2 d4 _ _ _ _ _ 1 one g24 sp.one_bit;
      other_bit = grew_width d2 d4 _ _ _ _ _ 1 other g24 sp.other_bit;
      either = either_kept d2 d4 _ _ _ _ _ r.live.0 one other g24 live.0 sp.one_bit.0 sp.other_bit.0 sp.either;
      first = run_kept d3 d4 _ _ _ _ _ a q.grew p.run;
      second = q.run;
      first_form = same_form_on r.names a0.names a.names (side_form r a0 one sa) p.form;
      second_form = same_form_on r.names b0.names b.names (side_form r b0 other sb) q.form;
    }

stored_first : (d : List TermNode) (x : TermReading) (xs ys zs : List Stored) (a : ℕ) (ps qs : List ℕ) → Contains ps a ↔ IsStoredBy d x xs a → Contains qs a ↔
    IsStoredBy d x ys a →
    ((t : Stored) → Contains zs t → term_word x d t.guard.0 ≡ 0) → Contains (ps ++ qs) a ↔ IsStoredBy d x ((xs ++ ys) ++ zs) a
stored_first d x xs ys zs a ps qs p q h =
    subst (λ (z : List ℕ). Contains z a ↔ IsStoredBy d x ((xs ++ ys) ++ zs) a) (append-nil (ps ++ qs))
    (stored_both d x (xs ++ ys) zs a (ps ++ qs) [] (stored_both d x xs ys a ps qs p q)
    (λ c. absurd (contains_none a c), λ c. absurd (none_stored d x zs a h c)))

stored_second : (d : List TermNode) (x : TermReading) (xs ys zs : List Stored) (a : ℕ) (ps qs : List ℕ) → Contains ps a ↔ IsStoredBy d x xs a → Contains qs a ↔
    IsStoredBy d x zs a →
    ((t : Stored) → Contains ys t → term_word x d t.guard.0 ≡ 0) → Contains (ps ++ qs) a ↔ IsStoredBy d x ((xs ++ ys) ++ zs) a
stored_second d x xs ys zs a ps qs p q h =
    stored_both d x (xs ++ ys) zs a ps qs
    (subst (λ (z : List ℕ). Contains z a ↔ IsStoredBy d x (xs ++ ys) a) (append-nil ps)
    (stored_both d x xs ys a ps [] p (λ c. absurd (contains_none a c), λ c. absurd (none_stored d x ys a h c)))) q

-- what the condition stores, behind all
condition_stored : (d0 d1 d5 : List TermNode) (place : ℕ) (r : Run) (s0 s1 : List Stored) (e : Expression) (c g l s j n : ℕ) (x : TermReading) (p : Position)
    (a : ℕ) → IsRun d0 r →
    (k : IsWordTerm d0 d1 r.names [] place r.live.0 s0 s1 e c) → Grew d1 d5 g l s j n → InRange x → Stands d0 x r p →
    Contains (stored_by e (x.choice place) p.env) a ↔ IsStoredBy d5 x k.gathered.more a
condition_stored d0 d1 d5 place r s0 s1 e c g l s j n x p a run k w i h =
    let m = k.gathered in
    let live : term_word x d1 r.live.0 ≡ 1 = word_kept d0 d1 _ _ _ _ _ r.live.0 x m.grew run.live.0 ∙ h.live in
    stored_then d5 x m.more a (stored_by e (x.choice place) p.env) (IsStoredBy d1 x m.more a)
    (same_bytes d1 x m.more a (stored_by e (x.choice place) p.env) (stored_by e (x.choice place) p.env) refl (m.stored x i p.env h.holds a)
    (among_stored d1 x r.live.0 m.more a (λ t q. (m.stores t q).1) live))
    (stored_kept d1 d5 g l s j n x m.more a w (λ t q. (m.stores t q).0))

-- an if, whose sides are led and merged
pub led_if : (d0 d1 d2 d3 d4 d5 : List TermNode) (place : ℕ) (r a0 b0 a b s : Run) (s0 s1 s2 s3 : List Stored) (e : Expression) (y z : Statements)
    (c one other : ℕ) → IsRun d0 r → width e ≡ 1 →
    IsWordTerm d0 d1 r.names [] place r.live.0 s0 s1 e c → IsSplit d1 d2 c r.live.0 one other → IsSide r one a0 → IsSide r other b0 →
    IsLed d2 d3 place a0 a s1 s2 y →
    IsLed d3 d4 place b0 b s2 s3 z → IsMerged d4 d5 c r one other a b s → IsLed d0 d5 place r s s0 s3 (If e y z Empty)
led_if d0 d1 d2 d3 d4 d5 place r a0 b0 a b s s0 s1 s2 s3 e y z c one other run w k sp sa sb p q m =
    let m0 = k.gathered in
    let g01 = m0.grew in
    let g12 = sp.grew in
    let g23 = p.grew in
    let g34 = q.grew in
    let g45 = m.grew in
    let g02 = grew_on d0 d1 d2 _ _ _ _ _ _ _ _ _ _ g01 g12 in
    let g03 = grew_on d0 d2 d3 _ _ _ _ _ _ _ _ _ _ g02 g23 in
    let g24 = grew_on d2 d3 d4 _ _ _ _ _ _ _ _ _ _ g23 g34 in
    let g14 = grew_on d1 d2 d4 _ _ _ _ _ _ _ _ _ _ g12 g24 in
    let g15 = grew_on d1 d4 d5 _ _ _ _ _ _ _ _ _ _ g14 g45 in
    let g35 = grew_on d3 d4 d5 _ _ _ _ _ _ _ _ _ _ g34 g45 in
    let g05 = grew_on d0 d1 d5 _ _ _ _ _ _ _ _ _ _ g01 g15 in
    let all = unknowns (If e y z Empty) in
    let bit : HasWidth d1 1 c = subst (λ v. HasWidth d1 v c) w k.at in
    let before : IsRun d2 r = run_kept d0 d2 _ _ _ _ _ r g02 run in
    let begun : IsRun d2 b0 = side_run d2 r b0 other before sb sp.other_bit in
    let fa = side_apart r a0 a one sa in
    let fb = side_apart r b0 b other sb in
    let same : (x : TermReading) → term_word x d4 c ≡ term_word x d1 c = λ x. word_kept d1 d4 _ _ _ _ _ c x g14 bit.0 in
    let live : (x : TermReading) → term_word x d1 r.live.0 ≡ term_word x d0 r.live.0 = λ x. word_kept d0 d1 _ _ _ _ _ r.live.0 x g01 run.live.0 in
    let a_later : (x : TermReading) → term_word x d4 a.live.0 ≡ term_word x d3 a.live.0 = λ x. word_kept d3 d4 _ _ _ _ _ a.live.0 x g34 p.run.live.0 in
    let b_later : (x : TermReading) → term_word x d3 b0.live.0
    ≡ term_word x d2 other = λ x. word_kept d2 d3 _ _ _ _ _ b0.live.0 x g23 begun.live.0 ∙ ap (term_word x d2) sb.live in
    -- where the condition is 1 the second side does not come by, and where it is 0 the first
    let b_off : (x : TermReading) → InRange x → term_word x d1 c ≡ 1 → term_word x d3 b0.live.0 ≡ 0 = λ x i t. b_later x ∙ (sp.when_true x i t).1 in
    let a_off : (x : TermReading) → InRange x → term_word x d1 c ≡ 0 →
    term_word x d2 a0.live.0 ≡ 0 = λ x i t. ap (term_word x d2) sa.live ∙ (sp.when_false x i t).0 in
    let a_stands : (x : TermReading) (i : InRange x) (u : Position) → term_word x d1 c ≡ 1 → Stands d0 x r u → Stands d2 x a0 u =
    λ x i u t h. side_stands d2 x r a0 one u sa ((sp.when_true x i t).0 ∙ live x ∙ h.live) (stands_kept d0 d2 _ _ _ _ _ x r u g02 run h) in
    let b_stands : (x : TermReading) (i : InRange x) (u : Position) → term_word x d1 c ≡ 0 → Stands d0 x r u → Stands d3 x b0 u =
    λ x i u t h. stands_kept d2 d3 _ _ _ _ _ x b0 u g23 begun
    (side_stands d2 x r b0 other u sb ((sp.when_false x i t).1 ∙ live x ∙ h.live) (stands_kept d0 d2 _ _ _ _ _ x r u g02 run h)) in
    let on : (x : TermReading) (i : InRange x) → term_word x d1 c ≡ 1 →
    IsTaken d0 d5 x r s (If e y z Empty) (x.choice place) ((m0.more ++ p.more) ++ q.more) = λ x i t. record {
      comes = λ u h. subst (λ (o : Ending). Comes d5 x s o)
          (taken e y z (width e) (term_word x d1 c) (x.choice place) u (k.value x i u.env h.holds) w t)
          (side_comes d4 d5 x a s (execute y (x.choice place) u) (comes_kept d3 d4 _ _ _ _ _ x a _ g34 p.run (p.comes x i u (a_stands x i u t h)))
          (λ v f. m.when_true x i (same x ∙ t) v f (m.live x i ∙ either_of _ _ 1 0 f.live (q.passes x i (b_off x i t))))
          (λ f. m.live x i ∙ either_of _ _ 0 0 f (q.passes x i (b_off x i t))));
      stored = λ u h v. subst (λ (o : List ℕ). Contains o v ↔ IsStoredBy d5 x ((m0.more ++ p.more) ++ q.more) v)
          (sym (stored_taken e y z (width e) (term_word x d1 c) (x.choice place) u (k.value x i u.env h.holds) w t))
          (stored_first d5 x m0.more p.more q.more v (stored_by e (x.choice place) u.env) (list_stored y (x.choice place) u)
          (condition_stored d0 d1 d5 place r s0 s1 e c _ _ _ _ _ x u v run k g15 i h)
          (stored_then d5 x p.more v (list_stored y (x.choice place) u) (IsStoredBy d3 x p.more v) (p.stored x i u (a_stands x i u t h) v)
          (stored_kept d3 d5 _ _ _ _ _ x p.more v g35 p.stores))
          (λ o f. word_kept d4 d5 _ _ _ _ _ o.guard.0 x g45 (q.stores o f).guard.0 ∙ q.silent x i (b_off x i t) o f));
    } in
    let off : (x : TermReading) (i : InRange x) → term_word x d1 c ≡ 0 →
    IsTaken d0 d5 x r s (If e y z Empty) (x.choice place) ((m0.more ++ p.more) ++ q.more) = λ x i t. record {
      comes = λ u h. subst (λ (o : Ending). Comes d5 x s o)
          (passed e y z (width e) (term_word x d1 c) (x.choice place) u (k.value x i u.env h.holds) w t)
          (side_comes d4 d5 x b s (execute z (x.choice place) u) (q.comes x i u (b_stands x i u t h))
          (λ v f. m.when_false x i (same x ∙ t) v f (m.live x i ∙ either_of _ _ 0 1 (a_later x ∙ p.passes x i (a_off x i t)) f.live))
          (λ f. m.live x i ∙ either_of _ _ 0 0 (a_later x ∙ p.passes x i (a_off x i t)) f));
      stored = λ u h v. subst (λ (o : List ℕ). Contains o v ↔ IsStoredBy d5 x ((m0.more ++ p.more) ++ q.more) v)
          (sym (stored_passed e y z (width e) (term_word x d1 c) (x.choice place) u (k.value x i u.env h.holds) w t))
          (stored_second d5 x m0.more p.more q.more v (stored_by e (x.choice place) u.env) (list_stored z (x.choice place) u)
          (condition_stored d0 d1 d5 place r s0 s1 e c _ _ _ _ _ x u v run k g15 i h)
          (stored_then d5 x q.more v (list_stored z (x.choice place) u) (IsStoredBy d4 x q.more v) (q.stored x i u (b_stands x i u t h) v)
          (stored_kept d4 d5 _ _ _ _ _ x q.more v g45 q.stores))
          (λ o f. word_kept d3 d5 _ _ _ _ _ o.guard.0 x g35 (p.stores o f).guard.0 ∙ p.silent x i (a_off x i t) o f));
    } in
    let either : (x : TermReading) (i : InRange x) → IsTaken d0 d5 x r s (If e y z Empty) (x.choice place) ((m0.more ++ p.more) ++ q.more) = λ x i.
    elim (cases_lt (term_word x d1 c) 1) [
      | inl f ↦ off x i (omega arith)
      | inr f ↦ on x i (let n = sp.small x i in omega arith)
    ] in
    -- a run that does not come by enters neither side
    let neither : (x : TermReading) (i : InRange x) → term_word x d0 r.live.0 ≡ 0 → (term_word x d2 a0.live.0 ≡ 0) × (term_word x d3 b0.live.0 ≡ 0) = λ x i h.
    elim (cases_lt (term_word x d1 c) 1) [
      | inl f ↦ (let t : term_word x d1 c ≡ 0 = omega arith in (a_off x i t, b_later x ∙ (sp.when_false x i t).1 ∙ live x ∙ h))
      | inr f ↦ (let n = sp.small x i in let t : term_word x d1 c
          ≡ 1 = omega arith in (ap (term_word x d2) sa.live ∙ (sp.when_true x i t).0 ∙ live x ∙ h, b_off x i t))
    ] in record {
      grew = grew_more d0 d5 _ _ _ _ _ _ _ _ _ _ (omega (arith, p.bits, q.bits, fa.0, fb.0)) (omega arith) (omega arith)
          (omega (arith, p.memory, q.memory, fa.2, fb.2)) (omega (arith, p.terms, q.terms, fa.1, fb.1)) g05;
      inputs = inputs_on d0 d4 d5 (Draws place all)
          (inputs_on d0 d3 d4 (Draws place all)
          (inputs_on d0 d2 d3 (Draws place all)
          (inputs_on d0 d1 d2 (Draws place all)
          (inputs_more d0 d1 (Draws place (total own_unknowns e)) (Draws place all) (λ o i f. (f.0, omega (arith, f.1))) m0.inputs)
          (inputs_more d1 d2 (λ o. ⊥) (Draws place all) (λ o i f. absurd f) sp.inputs))
          (inputs_more d2 d3 (Draws place (unknowns y)) (Draws place all) (λ o i f. (f.0, omega (arith, f.1))) p.inputs))
          (inputs_more d3 d4 (Draws place (unknowns z)) (Draws place all) (λ o i f. (f.0, omega (arith, f.1))) q.inputs))
          (inputs_more d4 d5 (λ o. ⊥) (Draws place all) (λ o i f. absurd f) m.inputs);
      run = m.run;
      form = same_form_on r.names a.names s.names
          (same_form_on r.names a0.names a.names (side_form r a0 one sa) p.form) m.form;
      bits = omega (arith, m.bits, p.bits, q.bits, fa.0, fb.0);
      terms = omega (arith, m.terms, p.terms, q.terms, fa.1, fb.1);
      memory = omega (arith, m.memory, p.memory, q.memory, fa.2, fb.2);
      more = (m0.more ++ p.more) ++ q.more;
      behind = q.behind ∙ ap (λ v. v ++ q.more) (p.behind ∙ ap (λ v. v ++ p.more) m0.behind ∙ append_assoc s0 m0.more p.more) ∙ append_assoc s0 (m0.more
          ++ p.more) q.more;
      stores = λ t f. elim (Contains-append_cases (m0.more ++ p.more) q.more t f) [
        | inl i ↦ elim (Contains-append_cases m0.more p.more t i) [
          | inl h ↦ store_kept d1 d5 _ _ _ _ _ t g15 (m0.stores t h).0
          | inr h ↦ store_kept d3 d5 _ _ _ _ _ t g35 (p.stores t h)
        ]
        | inr i ↦ store_kept d4 d5 _ _ _ _ _ t g45 (q.stores t i)
      ];
      bytes = omega (
        arith,
        m0.bytes,
        p.bytes,
        q.bytes,
        sum_by-append (λ (t : Stored). t.bytes) m0.more p.more,
        sum_by-append
            (λ (t : Stored). t.bytes) (m0.more ++ p.more) q.more,
      );
      comes = λ x i u h. (either x i).comes u h;
      passes = λ x i h. m.live x i ∙ either_of _ _ 0 0 (a_later x ∙ p.passes x i (neither x i h).0) (q.passes x i (neither x i h).1);
      stored = λ x i u h v. (either x i).stored u h v;
      silent = λ x i h t f. elim (Contains-append_cases (m0.more ++ p.more) q.more t f) [
        | inl v ↦ elim (Contains-append_cases m0.more p.more t v) [
          | inl o ↦ word_kept d1 d5 _ _ _ _ _ t.guard.0 x g15 (m0.stores t o).0.guard.0 ∙ ap (term_word x d1) (m0.stores t o).1 ∙ live x ∙ h
          | inr o ↦ word_kept d3 d5 _ _ _ _ _ t.guard.0 x g35 (p.stores t o).guard.0 ∙ p.silent x i (neither x i h).0 t o
        ]
        | inr v ↦ word_kept d4 d5 _ _ _ _ _ t.guard.0 x g45 (q.stores t v).guard.0 ∙ q.silent x i (neither x i h).1 t v
      ];
    }
