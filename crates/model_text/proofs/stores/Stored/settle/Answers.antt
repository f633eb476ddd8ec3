use Rattle.std.proofs.Common.{ℕ, ◌<◌, ◌^◌, List, sym, ap, ◌∙◌, subst}
use Rattle.std.proofs.lemmas.List.Sorted.{All-permutation}
use Rattle.machine_spec.specs.StateText.{AreRising}
use Rattle.model_text.specs.Stores.{byte_or, last_of_each, AreBytes}
use Rattle.model_text.proofs.Stored.{settled_rise, settled_ranges, settled_bytes}
use Rattle.model_text.proofs.stores.Stored.settle.Goals as goal

pub returns-clause-rising : goal.returns-clause-rising
returns-clause-rising c = subst AreRising (sym (c.in_ok-bytes.ensures ∙ ap last_of_each c.deref.ensures.value)) (settled_rise c.in_ok-stores.stores.items
    c.in_ok-stores.ensures.rising)

pub returns-clause-ranges : goal.returns-clause-ranges
returns-clause-ranges c = subst AreBytes (sym (c.in_ok-bytes.ensures ∙ ap last_of_each c.deref.ensures.value)) (settled_ranges c.in_ok-stores.stores.items
    (All-permutation (λ (b : ℕ × ℕ). (b.0 < 2 ^ 32) × (b.1 < 256)) c.args.self.stores.items c.in_ok-stores.stores.items c.in_ok-stores.ensures.moved
    c.requires))

pub returns-clause-bytes : goal.returns-clause-bytes
returns-clause-bytes c = λ a. ap (λ (v : List (ℕ × ℕ)). byte_or c.args.self.fill v a) (c.in_ok-bytes.ensures ∙ ap last_of_each c.deref.ensures.value)
    ∙ settled_bytes c.args.self.fill c.args.self.stores.items c.in_ok-stores.stores.items a c.in_ok-stores.ensures.stable c.in_ok-stores.ensures.rising
