use Rattle.std.proofs.Common.{◌≡◌, ℕ, ◌+◌, [], List, Option, Some, ap, is_some, map, sym, ◌∙◌, subst}
use Rattle.std.specs.Prelude.{IfErr, IfOk}
use Rattle.std.specs.Borrow.{Bor}
use Rattle.word_spec.specs.Texts.{split_lines}
use Rattle.machine_spec.specs.StateText.{Layout}
use Rattle.frame_spec.specs.FrameReports.{WrittenCall}
use Rattle.frame_texts_spec.specs.FrameTexts.{Checks, FramedTold}
use Rattle.frame_texts_spec.specs.CallTexts.{BlocksAre, Body, CallEnding, CallTold, FrameName, body_of, frame_name, told_before, told_body, told_by_both}
use Rattle.start_value.specs.Starts.{layout_of}
use Rattle.frame_text.specs.Readings.{IsToldAs}
use Rattle.call_text.specs.Lines.{ended}
use Rattle.call_text.specs.Readings.{IsCalledAs, IsCalledRefused, checks_by}
use Rattle.state_text.specs.Starts.{written_call_of}
use Rattle.call_text.specs.Texts.{called_ending_of, changes_at}
use Rattle.call_text.proofs.Reading.{blocks_by, body_is}
use Rattle.call_text.proofs.reader.read_body.Goals as goal
use Rattle.call_text.proofs.reader.read_body.Goals.{After-drop-part-2}

pub returns-in-Err-clause-refused : goal.returns-in-Err-clause-refused
returns-in-Err-clause-refused c frames =
    let layout : Layout = layout_of c.args.layout in
    let n : CallEnding = called_ending_of c.args.named in
    let body : Body = body_of (split_lines c.args.text.now) in
    let closed = is_some c.in_ok-part.before.blocks in
    subst (λ (t : CallTold). IsCalledRefused layout frames t c.before_fault.result)
    (body_is layout (checks_by frames c.args.contracts.now) n body c.in_ok-part.before.count c.in_ok-part.before.blocks c.in_ok-part.ensures.count
    c.in_ok-part.ensures.blocks c.in_ok-part.ensures.some)
    (c.before_fault.ensures layout frames n (told_before layout (frames (frame_name n)) (ended closed body.lines))
    (blocks_by layout (changes_at c.args.contracts.now) (c.in_ok-part.before.count + 2) c.in_ok-part.before.blocks) c.frame.ensures
    (c.in-Err.ensures.refused (frames (frame_name n)) closed c.args.text.now (c.deref.ensures.value ∙ c.in_ok-part.ensures.text)))

pub returns-in-None-clause-told : goal.returns-in-None-clause-told
returns-in-None-clause-told c frames =
    let layout : Layout = layout_of c.args.layout in
    let n : CallEnding = called_ending_of c.args.named in
    let body : Body = body_of (split_lines c.args.text.now) in
    let closed = is_some c.in_ok-part.before.blocks in
    let told : FramedTold = told_before layout (frames (frame_name n)) (ended closed body.lines) in
    subst (λ (t : CallTold). IsCalledAs layout frames t c.called_text.result)
    (ap (λ (calls : List WrittenCall). told_by_both n told (BlocksAre [] [] calls)) (ap (map written_call_of) c.new.ensures.items)
    ∙ ap (λ (o : Option (Bor (List ℕ))). told_by_both n told (blocks_by layout (changes_at c.args.contracts.now) (c.in_ok-part.before.count + 2) o))
    (sym c.in-None.is)
    ∙ body_is layout (checks_by frames c.args.contracts.now) n body c.in_ok-part.before.count c.in_ok-part.before.blocks c.in_ok-part.ensures.count
    c.in_ok-part.ensures.blocks c.in_ok-part.ensures.some)
    (c.called_text.ensures layout frames told
    (c.in-Ok.ensures.told (frames (frame_name n)) closed c.args.text.now (c.deref.ensures.value ∙ c.in_ok-part.ensures.text)))

-- with blocks
blocks : (c : After-drop-part-2) (frames : FrameName → Checks) → let layout = layout_of c.args.layout in let n = called_ending_of c.args.named in
    let body = body_of (split_lines c.args.text.now) in
    told_by_both n (told_before layout (frames (frame_name n)) (ended (is_some c.in_ok-part.before.blocks) body.lines))
    (blocks_by layout (changes_at c.args.contracts.now) (c.in_ok-part.before.count + 2) (Some c.in-Some.blocks))
    ≡ told_body layout (checks_by frames c.args.contracts.now) n body.lines body.blocks
blocks c frames =
    let layout : Layout = layout_of c.args.layout in
    let n : CallEnding = called_ending_of c.args.named in
    let body : Body = body_of (split_lines c.args.text.now) in
    let told : FramedTold = told_before layout (frames (frame_name n)) (ended (is_some c.in_ok-part.before.blocks) body.lines) in
    ap (λ (o : Option (Bor (List ℕ))). told_by_both n told (blocks_by layout (changes_at c.args.contracts.now) (c.in_ok-part.before.count + 2) o))
    (sym c.in-Some.is)
    ∙ body_is layout (checks_by frames c.args.contracts.now) n body c.in_ok-part.before.count c.in_ok-part.before.blocks c.in_ok-part.ensures.count
    c.in_ok-part.ensures.blocks c.in_ok-part.ensures.some

before : (c : After-drop-part-2) (frames : FrameName → Checks) → let n = called_ending_of c.args.named in
    IsToldAs (layout_of c.args.layout) (frames (frame_name n))
    (told_before (layout_of c.args.layout) (frames (frame_name n)) (ended (is_some c.in_ok-part.before.blocks) (body_of (split_lines c.args.text.now)).lines))
    c.in-Ok.framed
before c frames =
    c.in-Ok.ensures.told (frames (frame_name (called_ending_of c.args.named))) (is_some c.in_ok-part.before.blocks) c.args.text.now
    (c.deref.ensures.value ∙ c.in_ok-part.ensures.text)

pub returns-clause-told : goal.returns-clause-told
returns-clause-told c frames =
    subst (λ (t : CallTold). IfOk c.read_closed.result (IsCalledAs (layout_of c.args.layout) frames t)) (blocks c frames)
    (c.read_closed.ensures.told frames _ (before c frames))

pub returns-clause-refused : goal.returns-clause-refused
returns-clause-refused c frames =
    subst (λ (t : CallTold). IfErr c.read_closed.result (IsCalledRefused (layout_of c.args.layout) frames t)) (blocks c frames)
    (c.read_closed.ensures.refused frames _ (before c frames))
