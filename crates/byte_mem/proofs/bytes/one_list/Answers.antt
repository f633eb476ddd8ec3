use Rattle.std.proofs.Common.{◌^◌, ◌%◌, ◌≡◌, sym, ap, ◌∙◌, arith}
use Rattle.word_spec.specs.Memory.{byte_in}
use Rattle.byte_mem.proofs.Spans.{spans_of, one_list}
use Rattle.byte_mem.proofs.bytes.one_list.Goals as goal

pub returns : goal.returns
returns c xs ys one other equal =
    one_list 0 xs ys (spans_of 0 xs one (omega arith) (λ k d h. omega arith)) (spans_of 0 ys other (omega arith) (λ k d h. omega arith))
    (λ a l. let small : a % 2 ^ 32 ≡ a = omega arith in ap (byte_in xs) (sym small) ∙ equal a l ∙ ap (byte_in ys) small)
