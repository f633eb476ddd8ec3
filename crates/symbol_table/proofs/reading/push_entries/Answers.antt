use Rattle.std.proofs.Common.{◌≡◌, ◌+◌, ◌*◌, ◌++◌, ℕ, List, ap, sym, ◌∙◌, append_assoc, add-one}
use Rattle.symbol_table.specs.Symbols.{Symbol, entry, symbols_to}
use Rattle.symbol_table.specs.Views.{table_of}
use Rattle.symbol_table.proofs.reading.push_entries.Goals as goal

-- one more entry
more : (out before after : List Symbol) (file : List ℕ) (names start k : ℕ) → before ≡ out ++ symbols_to file names start k →
    after ≡ before ++ entry file names (start + 16 * k) → after ≡ out ++ symbols_to file names start (k + 1)
more out before after file names start k old new =
    new ∙ ap (λ b. b ++ entry file names (start + 16 * k)) old ∙ append_assoc out (symbols_to file names start k) (entry file names (start + 16 * k))
    ∙ ap (λ n. out ++ symbols_to file names start n) (sym (add-one k))

pub loop-k-preserved : goal.loop-k-preserved
loop-k-preserved c =
    more (table_of c.args.out.now.items) (table_of c.loop-k.out.items) (table_of c.push_entry.new.out.items) c.args.file.now c.args.names c.args.start
    c.loop-k.k c.loop-k.invariant c.in_ok-push_entry.ensures
