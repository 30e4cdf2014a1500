use Rattle.std.proofs.Common.{◌≡◌, ◌-◌, ◌∙◌, refl, ap, subst}
use Rattle.object_name.specs.Name.{name_of}
use Rattle.thunk_codec.specs.Thunk.{IsThunk, text_of}
use Rattle.tool_text.specs.Fib.{fib_thunk, sum_thunk}
use Rattle.tool_text.proofs.FibGivesThunks.{fib_is_of_thunk}
use Rattle.tool_text.proofs.fib_thunks.thunk_texts.Goals as goal

pub returns-clause-rules : goal.returns-clause-rules
returns-clause-rules c function add =
    let left_text = fib_thunk c.args.asked.now (c.args.asked.now.number - 1) in
    let right_text = fib_thunk c.args.asked.now (c.args.asked.now.number - 2) in
    let left : c.name_of_text-left_name.result ≡ name_of (text_of left_text) = c.name_of_text-left_name.ensures ∙ ap name_of c.in_ok-left.ensures.text in
    let right : c.name_of_text-right_name.result ≡ name_of (text_of right_text) = c.name_of_text-right_name.ensures ∙ ap name_of c.in_ok-right.ensures.text in
    let sum = c.in_ok-sum_text.ensures.rules add
    (ap (λ n. n.kind) left ∙ fib_is_of_thunk c.args.asked.now (c.args.asked.now.number - 1) (text_of left_text) refl)
    (ap (λ n. n.kind) right ∙ fib_is_of_thunk c.args.asked.now (c.args.asked.now.number - 2) (text_of right_text) refl) in
    let named = subst (λ n. IsThunk (sum_thunk c.args.asked.now (name_of (text_of left_text)) n)) right
    (subst (λ n. IsThunk (sum_thunk c.args.asked.now n c.name_of_text-right_name.result)) left sum) in
    (named, (c.in_ok-left.ensures.rules function add, (c.in_ok-right.ensures.rules function add, tt)))
