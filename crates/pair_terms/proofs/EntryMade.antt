-- The words of links at entry.
use Rattle.std.proofs.Common.{◌≡◌, ℕ, ◌+◌, ◌*◌, Bool, List, length, ap, ◌∙◌, arith}
use Rattle.std.specs.List.{flat_map}
use Rattle.word_spec.specs.RowFiles.{from_to}
use Rattle.term_spec.specs.Terms.{TermNode}
use Rattle.walk_spec.specs.Unrolled.{UnrolledProgram}
use Rattle.walk_spec.specs.Prices.{variables_of}
use Rattle.term_spec.specs.WalkQuestions.{IsNamedBelow, term_reading}
use Rattle.term_dag.proofs.Growth.{grew_on, grew_more, inputs_on, inputs_more}
use Rattle.term_names.specs.declared.names.Names.{Names}
use Rattle.term_names.specs.Views.{form_of, names_of}
use Rattle.term_names.specs.Chosen.{AreEntryNames, IsOfForm, at_entry}
use Rattle.term_names.proofs.OfForm.{named_of, reading_in_range}
use Rattle.note_terms.proofs.Valued.{range_length}
use Rattle.pair_spec.specs.Links.{Link}
use Rattle.pair_spec.specs.Pairs.{shared_bytes}
use Rattle.pair_spec.specs.PairTerms.{all_entry_words, entry_widths}
use Rattle.pair_terms.specs.Words.{AreWordTerms}
use Rattle.pair_terms.specs.Sides.{AreEntryTerms}

pub entry_terms_made : (w : UnrolledProgram) (second : Bool) (links : List Link) (count : ℕ) (a b c : List TermNode) (low regs flags : ℕ) (n : Names)
    (ts : List ℕ) → w.registers ≡ from_to low regs → w.flags ≡ flags → count ≡ length links → AreEntryNames a b low regs flags n →
    AreWordTerms b c (form_of n) (names_of n) (flat_map entry_widths links) (all_entry_words second links) ts (shared_bytes links)
    (count + 3 * shared_bytes links) → AreEntryTerms w second links a c ts
entry_terms_made w second links count a b c low regs flags n ts registers_are flags_are many names terms =
    let wide = ap length registers_are ∙ range_length low regs in
    record {
      grew = grew_more a c 0 (0 + shared_bytes links) 0 0 (regs + flags + 1 + (count + 3 * shared_bytes links)) 0 (shared_bytes links) 0 0
          (variables_of w + length links + 3 * shared_bytes links) (omega arith) (omega arith) (omega arith) (omega arith) (omega (arith, wide, flags_are, many))
          (grew_on a b c 0 0 0 0 (regs + flags + 1) 0 (shared_bytes links) 0 0 (count + 3 * shared_bytes links) names.grew terms.grew);
      inputs = inputs_on a b c (IsNamedBelow w 0)
          (inputs_more a b (IsOfForm low regs flags) (IsNamedBelow w 0) (λ m i h. named_of w low regs flags m registers_are flags_are i h) names.inputs)
          (inputs_more b c (λ m. ⊥) (IsNamedBelow w 0) (λ m i h. absurd h) terms.inputs);
      typed = terms.typed;
      widths = terms.widths;
      values = λ r k.
          let x = term_reading w r in
          let ok = reading_in_range w r k in terms.values x ok (at_entry x) r.state.pc (names.denotes x ok);
    }
