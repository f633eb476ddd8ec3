use Rattle.std.proofs.Common.{sym, ◌∙◌, ap, take, ◌++◌, ◌∷◌, []}
use Rattle.std.specs.Str.{bytes_eq}
use Rattle.std.proofs.lemmas.List.{take_more}
use Rattle.io_edges.specs.Files.{held_by}
use Rattle.io_edges.proofs.FilePlaces.{none_more}
use Rattle.io_edges.proofs.files.find_file.Goals as goal

pub loop-i-preserved : goal.loop-i-preserved
loop-i-preserved c =
    let more = take_more c.args.files.now c.loop-i.i c.index-files-i.result c.loop-i-test.true in
    let same = ap (λ f. take c.loop-i.i c.args.files.now ++ f ∷ []) (sym c.index-files-i.is) in
    ap (λ fs. held_by fs c.args.name.now) (more ∙ same)
    ∙ none_more (take c.loop-i.i c.args.files.now) c.index-files-i.result c.args.name.now c.loop-i.invariant
    (ap (λ t. bytes_eq t c.args.name.now) (sym c.as_str.ensures.value) ∙ sym c.if-eq.ensures)
