use Rattle.std.proofs.Common.{◌≡◌, ℕ, [], ◌∷◌, ◌++◌, refl, ap, sym, ◌∙◌, subst, arith, length, length-append}
use Rattle.std.specs.Prelude.{map, slice_index}
use Rattle.term_spec.specs.Terms.{BaseNode}
use Rattle.term_dag.specs.Made.{IsInterned}
use Rattle.mem_cells.specs.Building.{read_places, Cellular}
use Rattle.mem_cells.proofs.Growing.{read_cellular, mapped, mapped_length, pushed_last}
use Rattle.mem_cells.proofs.building.Build.new_number.Goals as goal

pub returns-clause-grown : goal.returns-clause-grown
returns-clause-grown c =
    let m = c.in_ok-_byte.ensures in
    let ps = read_places c.args.self.now in
    let e : map (λ t. t.0) c.push.new.self.items ≡ ps ++ c.args.address.0
    ∷ [] = ap (map (λ t. t.0)) c.in_ok-push.ensures.items ∙ mapped c.args.self.now.addresses.items c.args.address in
    let l : c.len-number.result ≡ length ps = omega (arith, mapped_length c.args.self.now.addresses.items) in
    record {
      question = refl;
      built = subst (Cellular _ _ c.keep.new.self) (sym e)
          (read_cellular _ _ _ _ ps c.args.part c.args.address.0 _ c.requires.built (subst
          (λ (k : ℕ). IsInterned c.args.self.now.dag c.keep.new.self (BaseNode c.args.part k) c.in_ok-_byte._byte.0) l m) c.requires.part c.requires.address);
      extends = m.extends;
      more = (c.args.address.0 ∷ [], e);
      gates = m.cost.gates;
      reads = omega (arith, ap length e, length-append ps (c.args.address.0 ∷ []));
    }

pub returns-clause-number : goal.returns-clause-number
returns-clause-number c =
    let ps = read_places c.args.self.now in
    let e : map (λ t. t.0) c.push.new.self.items ≡ ps ++ c.args.address.0
    ∷ [] = ap (map (λ t. t.0)) c.in_ok-push.ensures.items ∙ mapped c.args.self.now.addresses.items c.args.address in
    let l : c.len-number.result ≡ length ps = omega (arith, mapped_length c.args.self.now.addresses.items) in (
      omega (arith, ap length e, length-append ps (c.args.address.0 ∷ []), l),
      ap (λ z. slice_index z c.len-number.result) e ∙ pushed_last ps c.args.address.0 c.len-number.result l,
    )
