use Rattle.std.proofs.Common.{◌++◌, ◌∷◌, ◌≡◌, ◌-◌, ◌∙◌, ap, arith, length, sym, subst, take, IsUtf8}
use Rattle.std.proofs.lemmas.List.{take-append-drop}
use Rattle.std.proofs.lemmas.Result.{err_from_is_err_and}
use Rattle.sx_model.specs.StringFaults.{StringFault}
use Rattle.sx_tree.specs.Text.{IsText}
use Rattle.sx_json.specs.Piece.{IsTooLong}
use Rattle.sx_json.proofs.Results.{unless_map}
use Rattle.sx_json.proofs.Runs.{run_fault, run_text}
use Rattle.sx_json.proofs.StringTexts.{split_ascii, from_quote}
use Rattle.sx_json.proofs.strings.string_at.Goals as goal

pub returns-in_err-text-in-Some-clause-fault : goal.returns-in_err-text-in-Some-clause-fault
returns-in_err-text-in-Some-clause-fault c = λ t.
    let bytes = c.args.bytes.now in
    let run = take c.plain_len.result bytes in
    let after = c.in-Some.after.now in
    let start = c.saturating_sub-start.result in
    let whole : bytes ≡ run ++ 34 ∷ after = sym (take-append-drop c.plain_len.result bytes) ∙ ap (λ l. run ++ l) (sym c.split_at.ensures.back ∙ c.in-Some.ensures) in
    let p = err_from_is_err_and c.from_residual.result c.from_residual.ensures.1 in
    let text = subst IsUtf8 (sym c.split_at.ensures.front) (split_ascii run after 34 (omega arith) (subst IsUtf8 whole t)).0 in
    rw (p.1, p.2)
    (unless_map (IsTooLong start c.split_at.result.0.now) (StringFault c.args.end (c.args.end - length bytes - 1) 0 bytes) _
    (λ h.
    from_quote c.args.end start c.place.result 0 bytes _ c.place.ensures c.saturating_sub-start.ensures
    (run_fault c.args.end start 0 c.plain_len.result bytes _ c.plain_len.ensures.plain (omega arith) (omega (arith, h.1, ap length c.split_at.ensures.front)) h.0))
    (c.in_err-text-in-Some.ensures.err text))

pub returns-in_ok-text-in-Some-clause-ok : goal.returns-in_ok-text-in-Some-clause-ok
returns-in_ok-text-in-Some-clause-ok c =
    let bytes = c.args.bytes.now in
    let n = c.plain_len.result in
    let text = c.in_ok-text-in-Some.ensures.ok in
    let whole : bytes ≡ take n bytes ++ 34 ∷ c.in-Some.after.now = sym (take-append-drop n bytes) ∙ ap (λ l. take n bytes ++ l) (sym c.split_at.ensures.back ∙ c.in-Some.ensures) in
    (run_text bytes c.in_ok-text-in-Some.text c.in-Some.after.now n c.plain_len.ensures.plain whole (text.0 ∙ c.split_at.ensures.front), subst IsText (sym text.0) text.1)

pub returns-in_ok-text-in-Some-clause-utf8 : goal.returns-in_ok-text-in-Some-clause-utf8
returns-in_ok-text-in-Some-clause-utf8 c = λ t.
    let bytes = c.args.bytes.now in
    let run = take c.plain_len.result bytes in
    let whole : bytes ≡ run ++ 34 ∷ c.in-Some.after.now = sym (take-append-drop c.plain_len.result bytes) ∙ ap (λ l. run ++ l) (sym c.split_at.ensures.back ∙ c.in-Some.ensures) in
    (split_ascii run c.in-Some.after.now 34 (omega arith) (subst IsUtf8 whole t)).1

pub text_of-requires : goal.text_of-requires
text_of-requires c = λ known.
    let bytes = c.args.bytes.now in
    let run = take c.plain_len.result bytes in
    let whole : bytes ≡ run ++ 34 ∷ c.in-Some.after.now = sym (take-append-drop c.plain_len.result bytes) ∙ ap (λ l. run ++ l) (sym c.split_at.ensures.back ∙ c.in-Some.ensures) in
    subst IsUtf8 (sym c.split_at.ensures.front) (split_ascii run c.in-Some.after.now 34 (omega arith) (subst IsUtf8 whole (c.requires known))).0
