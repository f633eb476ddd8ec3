-- Whether some exit leads to a place, edge by edge and point by point.
use Rattle.std.proofs.Common.{◌≡◌, ℕ, ◌+◌, ◌<◌, ◌≤◌, Bool, true, false, List, [], ◌∷◌, ◌++◌, Option, None, Some, length, drop, get_or, refl, ap, sym, ◌∙◌, arith}
use Rattle.std.specs.Prelude.{◌||◌, map}
use Rattle.std.specs.Option.{is_some}
use Rattle.std.specs.List.{list_any}
use Rattle.std.proofs.lemmas.List.{drop_more, drop_all, length-map, get_or-map}
use Rattle.std.specs.Global.{Vec}
use Rattle.bilv_spec.specs.Notes.{Assert}
use Rattle.bil_ast.specs.declared.statements.Stmt.{Stmt}
use Rattle.walk_spec.specs.Unrolled.{PointExit}
use Rattle.question_form.specs.declared.unrolled.Edge.{Edge}
use Rattle.question_form.specs.Views.{aim_of, edge_of, assert_exit, row_exits}
use Rattle.pair_terms.specs.Exits.{is_onto, leads_to}

-- a test of the rest of a list
pub any_here : {X : Type 0} (f : X → Bool) (xs : List X) (i : ℕ) (d : X) → i < length xs → list_any f xs ≡ list_any f (drop i xs) →
    f (get_or xs i d) ≡ true → list_any f xs ≡ true
any_here f xs i d l h e = h ∙ ap (list_any f) (drop_more xs i d l) ∙ ap (λ (b : Bool). b || list_any f (drop (i + 1) xs)) e

pub any_next : {X : Type 0} (f : X → Bool) (xs : List X) (i : ℕ) (d : X) → i < length xs → list_any f xs ≡ list_any f (drop i xs) →
    f (get_or xs i d) ≡ false → list_any f xs ≡ list_any f (drop (i + 1) xs)
any_next f xs i d l h e = h ∙ ap (list_any f) (drop_more xs i d l) ∙ ap (λ (b : Bool). b || list_any f (drop (i + 1) xs)) e

pub any_none : {X : Type 0} (f : X → Bool) (xs : List X) (i : ℕ) → length xs ≤ i → list_any f xs ≡ list_any f (drop i xs) → list_any f xs ≡ false
any_none f xs i l h = h ∙ ap (list_any f) (drop_all i xs l)

asserts_lead : (n : ℕ) (asserts : List Assert) (xs : List (ℕ × ℕ)) (rest : List PointExit) →
    list_any (leads_to n) (map (assert_exit asserts) xs ++ rest) ≡ list_any (leads_to n) rest
asserts_lead n asserts [] rest = refl
asserts_lead n asserts (x ∷ xs) rest = asserts_lead n asserts xs rest

-- a point leads where its edges do, if it has a row, and else nowhere
pub led_some : (n : ℕ) (asserts : List Assert) (xs : List (ℕ × ℕ)) (fetchable : Bool) (list : Option (Vec Stmt)) (es : List Edge) → is_some list ≡ true →
    list_any (leads_to n) (map edge_of es) ≡ list_any (leads_to n) (map (assert_exit asserts) xs ++ row_exits fetchable list es)
led_some n asserts xs fetchable None es h = cc
led_some n asserts xs fetchable (Some row) es h = sym (asserts_lead n asserts xs (row_exits fetchable (Some row) es))

pub led_none : (n : ℕ) (asserts : List Assert) (xs : List (ℕ × ℕ)) (fetchable : Bool) (list : Option (Vec Stmt)) (es : List Edge) → is_some list ≡ false →
    false ≡ list_any (leads_to n) (map (assert_exit asserts) xs ++ row_exits fetchable list es)
led_none n asserts xs fetchable None es h = sym (asserts_lead n asserts xs (row_exits fetchable None es))
led_none n asserts xs fetchable (Some row) es h = cc

-- ---- the edges of a point, one after another

edge_at : (n : ℕ) (es : List Edge) (i : ℕ) (d : Edge) (b : Bool) → i < length es → is_onto n (aim_of (get_or es i d).aim) ≡ b →
    leads_to n (get_or (map edge_of es) i (edge_of d)) ≡ b
edge_at n es i d b l e = ap (leads_to n) (get_or-map edge_of es i d (edge_of d) l) ∙ e

pub edges_here : (n : ℕ) (es : List Edge) (i : ℕ) (d : Edge) → i < length es →
    list_any (leads_to n) (map edge_of es) ≡ list_any (leads_to n) (drop i (map edge_of es)) → is_onto n (aim_of (get_or es i d).aim) ≡ true →
    list_any (leads_to n) (map edge_of es) ≡ true
edges_here n es i d l h e =
    any_here (leads_to n) (map edge_of es) i (edge_of d) (let m = length-map es edge_of in omega arith) h (edge_at n es i d true l e)

pub edges_next : (n : ℕ) (es : List Edge) (i : ℕ) (d : Edge) → i < length es →
    list_any (leads_to n) (map edge_of es) ≡ list_any (leads_to n) (drop i (map edge_of es)) → is_onto n (aim_of (get_or es i d).aim) ≡ false →
    list_any (leads_to n) (map edge_of es) ≡ list_any (leads_to n) (drop (i + 1) (map edge_of es))
edges_next n es i d l h e =
    any_next (leads_to n) (map edge_of es) i (edge_of d) (let m = length-map es edge_of in omega arith) h (edge_at n es i d false l e)

pub edges_none : (n : ℕ) (es : List Edge) (i : ℕ) → length es ≤ i →
    list_any (leads_to n) (map edge_of es) ≡ list_any (leads_to n) (drop i (map edge_of es)) → list_any (leads_to n) (map edge_of es) ≡ false
edges_none n es i l h = any_none (leads_to n) (map edge_of es) i (let m = length-map es edge_of in omega arith) h
