use Rattle.std.proofs.Common.{subst}
use Rattle.notes_lang.specs.Named.{vocabulary_of}
use Rattle.notes_lang.specs.Parsing.{IsLinesRead, layout_flags, layout_registers, layout_vocabulary}
use Rattle.notes_lang.proofs.Finished.{finished, unnamed}
use Rattle.notes_value.specs.FrameViews.{contract_of}
use Rattle.notes_value.specs.Reads.{IsReadableContract}
use Rattle.notes_lang.specs.Framed.{IsContractOver, frame_notes_of}
use Rattle.notes_lang.proofs.Readable.{contracts_over, contracts_readable, notes_over, notes_readable, of_images}
use Rattle.notes_lang.proofs.notes_text.parse.Goals as goal

pub returns-in-None-clause-err : goal.returns-in-None-clause-err
returns-in-None-clause-err c =
    let q = subst (λ r. IsLinesRead (vocabulary_of c.vocabulary.result) c.args.bytes.now r) c.in-Ok-read.is c.in-Ok.ensures in
    unnamed (vocabulary_of c.vocabulary.result) (layout_vocabulary c.args.layout c.args.dialect) c.args.bytes.now c.in-Ok-read.read.0 c.in-Ok-read.read.1
    c.vocabulary.ensures q.0 q.1 c.in-None.ensures.none

pub returns-in-Some-clause-framed : goal.returns-in-Some-clause-framed
returns-in-Some-clause-framed c =
    let q = subst (λ r. IsLinesRead (vocabulary_of c.vocabulary.result) c.args.bytes.now r) c.in-Ok-read.is c.in-Ok.ensures in
    finished (vocabulary_of c.vocabulary.result) (layout_vocabulary c.args.layout c.args.dialect) c.args.bytes.now c.in-Ok-read.read.0 c.in-Some.notes
    c.vocabulary.ensures q.0 c.in-Some.ensures.some

pub returns-in-Some-clause-ok : goal.returns-in-Some-clause-ok
returns-in-Some-clause-ok c = (returns-in-Some-clause-framed c).is_notes

pub returns-in-Some-clause-readable : goal.returns-in-Some-clause-readable
returns-in-Some-clause-readable c = notes_readable c.args.layout c.args.dialect c.args.bytes.now _ (returns-in-Some-clause-ok c)

pub returns-in-Some-clause-over : goal.returns-in-Some-clause-over
returns-in-Some-clause-over c = notes_over c.args.layout c.args.dialect c.args.bytes.now _ (returns-in-Some-clause-ok c)

pub returns-in-Some-clause-contracts : goal.returns-in-Some-clause-contracts
returns-in-Some-clause-contracts c =
    of_images (IsReadableContract (layout_registers c.args.layout)) contract_of c.in-Some.notes.contracts.items
    (contracts_readable c.args.layout c.args.dialect c.args.bytes.now (frame_notes_of c.in-Some.notes) (returns-in-Some-clause-framed c))

pub returns-in-Some-clause-changes : goal.returns-in-Some-clause-changes
returns-in-Some-clause-changes c =
    of_images (IsContractOver (layout_registers c.args.layout) (layout_flags c.args.layout)) contract_of c.in-Some.notes.contracts.items
    (contracts_over c.args.layout c.args.dialect c.args.bytes.now (frame_notes_of c.in-Some.notes) (returns-in-Some-clause-framed c))
