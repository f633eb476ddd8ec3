-- What the node of an address says of its code.
use Rattle.std.proofs.Common.{◌≡◌, refl, ap, sym, ◌∙◌, subst, ℕ, List, ◌<◌, ◌^◌, Option, Some, None, Bool, true, false}
use Rattle.std.specs.Prelude.{is_some, if◌then◌else◌}
use Rattle.std.specs.Global.{Vec}
use Rattle.word_spec.specs.Memory.{Endian}
use Rattle.machine_spec.specs.Machine.{Row}
use Rattle.machine_spec.specs.MachineLaws.{IsLawful, IsLifting}
use Rattle.machine_spec.specs.Bil.{Bank, Statements}
use Rattle.bilv_spec.specs.Run.{Program, fetchable}
use Rattle.bilv_spec.specs.Points.{file_row, file_word, file_number, row_price, loads_at, stores_at}
use Rattle.bil_ast.specs.declared.statements.Stmt.{Stmt}
use Rattle.bil_ast.specs.Views.{statements}
use Rattle.bil_trim.specs.Flags.{kept_in, with_flags}
use Rattle.bil_trim.specs.Literals.{with_literal}
use Rattle.frame_spec.specs.Frames.{Contract}
use Rattle.graph_nodes.specs.declared.nodes.Node.{Node}
use Rattle.flag_live.specs.Contracted.{IsKeptWith}
use Rattle.graph_nodes.specs.Graphs.{IsNode}
use Rattle.walk_spec.specs.Unrolling.{row_draws}
use Rattle.question_form.specs.declared.unrolled.Code.{Code}
use Rattle.unroller.specs.Places.{IsRowCode}
use Rattle.unroller.specs.Rows.{IsListAt, IsListedAt, kept_literal, list_with, literal_by, literal_at}

none_word : (o : Option Row) (w : ℕ) → (if is_some o then Some w else None) ≡ None → o ≡ None
none_word None w h = refl
none_word (Some r) w h = absurd (cc)

some_word : (o : Option Row) (w v : ℕ) → (if is_some o then Some w else None) ≡ Some v → (r : Row) × (o ≡ Some r) × (w ≡ v)
some_word None w v h = absurd (cc)
some_word (Some r) w v h = let e : w ≡ v = cc in (r, refl, e)

row_of_word : (f : Bool) (o : Option Row) (r : Row) → (if f then o else None) ≡ Some r → o ≡ Some r
row_of_word true o r h = h
row_of_word false o r h = absurd (cc)

pub word_row : (p : Program) (n : Node) (v : ℕ) → IsNode p n → n.word ≡ Some v → (r : Row) × (file_row p n.at ≡ Some r) × (p.machine.row v ≡ Some r)
word_row p n v is h =
    let q = some_word (file_row p n.at) (file_word p n.at) v (sym is.word ∙ h) in
    (q.0, q.1, ap p.machine.row (sym q.2) ∙ row_of_word (fetchable p (file_word p n.at) n.at) (p.machine.row (file_word p n.at)) q.0 q.1)

pub bare_code : (p : Program) (bank : Bank) (noted : List Contract) (n : Node) (asserts : ℕ × ℕ) (c : Code) → IsNode p n → file_row p n.at ≡ None →
    c ≡ record { at = n.at; length = n.length; fetchable = n.fetchable; list = None; draws = false; row = 64; loads = 0; stores = 0; asserts = asserts } → IsRowCode p bank noted c
bare_code p bank noted n asserts c is none e =
    subst (λ (z : Code). IsRowCode p bank noted z) (sym e)
    (record {
      length = is.length;
      fetchable = is.fetchable;
      list = subst (λ (o : Option Row). IsListedAt p bank noted o n.at None) (sym none) tt;
      draws = ap row_draws (sym none);
      row = ap row_price (sym none);
      loads = ap (λ (o : Option Row). loads_at p n.at o) (sym none);
      stores = ap stores_at (sym none);
      fit = λ r e. absurd (cc);
    })

pub no_word : (p : Program) (bank : Bank) (noted : List Contract) (n : Node) (asserts : ℕ × ℕ) (c : Code) → IsNode p n → n.word ≡ None →
    c ≡ record { at = n.at; length = n.length; fetchable = n.fetchable; list = None; draws = false; row = 64; loads = 0; stores = 0; asserts = asserts } → IsRowCode p bank noted c
no_word p bank noted n asserts c is h e = bare_code p bank noted n asserts c is (none_word (file_row p n.at) (file_word p n.at) (sym is.word ∙ h)) e

pub lifted_code : (p : Program) (bank : Bank) (noted : List Contract) (n : Node) (r : Row) (list : Vec Stmt) (draws : Bool) (row loads stores : ℕ) (asserts : ℕ × ℕ) → IsNode p n →
    file_row p n.at ≡ Some r →
    IsLawful r → IsListAt p bank noted r n.at (statements list.items) → draws ≡ r.draws → row ≡ r.cost.row → loads ≡ loads_at p n.at (Some r) →
    stores ≡ r.cost.stores →
    IsRowCode p bank noted (record {
      at = n.at;
      length = n.length;
      fetchable = n.fetchable;
      list = Some list;
      draws = draws;
      row = row;
      loads = loads;
      stores = stores;
      asserts = asserts;
    })
lifted_code p bank noted n r list draws row loads stores asserts is some lawful listed d a b e =
    record {
      length = is.length;
      fetchable = is.fetchable;
      list = subst (λ (o : Option Row). IsListedAt p bank noted o n.at (Some list)) (sym some) listed;
      draws = d ∙ ap row_draws (sym some);
      row = a ∙ ap row_price (sym some);
      loads = b ∙ ap (λ (o : Option Row). loads_at p n.at o) (sym some);
      stores = e ∙ ap stores_at (sym some);
      fit = λ s h. (let same : r ≡ s = cc in subst (λ (z : Row). IsLawful z) same lawful);
    }

-- a node without a word has no row, and no literal
pub no_literal : (p : Program) (n : Node) → IsNode p n → n.word ≡ None → None ≡ literal_at p n.at
no_literal p n is h = ap (λ (o : Option Row). literal_by p o n.at) (sym (none_word (file_row p n.at) (file_word p n.at) (sym is.word ∙ h)))

-- a list without a kept literal
pub plain_list : (p : Program) (bank : Bank) (noted : List Contract) (r : Row) (n : Node) (lifted list : Statements) → IsLifting p.machine bank r n.at lifted → IsKeptWith p noted n →
    list ≡ with_flags (kept_in n.keeps) lifted → None ≡ kept_literal p (r.literal n.at) → IsListAt p bank noted r n.at list
plain_list p bank noted r n lifted list lifting kept is k = record {
  lifted = lifted;
  lifting = lifting;
  keeps = n.keeps;
  live = kept.exact;
  is = is ∙ ap (λ (o : Option ℕ). list_with p o (with_flags (kept_in n.keeps) lifted)) k;
  word = λ a h. absurd (cc);
}

-- a list with the constant of a kept literal
pub literal_list : (p : Program) (bank : Bank) (noted : List Contract) (r : Row) (n : Node) (place a v : ℕ) (o : Endian) (lifted trimmed list : Statements) →
    IsLifting p.machine bank r n.at lifted → IsKeptWith p noted n → trimmed ≡ with_flags (kept_in n.keeps) lifted →
    Some place ≡ kept_literal p (r.literal n.at) → list ≡ with_literal o a v trimmed → o ≡ p.machine.endian → a ≡ place → v ≡ file_number p place → v < 2 ^ 32 →
    IsListAt p bank noted r n.at list
literal_list p bank noted r n place a v o lifted trimmed list lifting kept without k is order here value small = record {
  lifted = lifted;
  lifting = lifting;
  keeps = n.keeps;
  live = kept.exact;
  is =
      is ∙ ap (λ (z : Endian). with_literal z a v trimmed) order ∙ ap (λ (z : ℕ). with_literal p.machine.endian z v trimmed) here
      ∙ ap (λ (z : ℕ). with_literal p.machine.endian place z trimmed) value ∙ ap (λ (z : Option ℕ). list_with p z trimmed) k
      ∙ ap (λ (z : Statements). list_with p (kept_literal p (r.literal n.at)) z) without;
  word = λ x h.
      let same = one_place place x (k ∙ h) in
      subst (λ (z : ℕ). file_number p z < 2 ^ 32) same (subst (λ (z : ℕ). z < 2 ^ 32) value small);
}
  where
    one_place : (x y : ℕ) → Some x ≡ Some y → x ≡ y
    one_place x y e = cc
