use Rattle.std.proofs.Common.{append_assoc, ◌++◌, ◌≡◌, ◌<◌, ◌+◌, ◌∙◌, ap, arith, inr, length, refl, sym, subst, IsUtf8}
use Rattle.std.proofs.lemmas.List.{length-append}
use Rattle.std.proofs.lemmas.Result.{err_from_is_err_and}
use Rattle.sx_model.specs.StringFaults.{StringFault, PieceFault, in_piece, too_long, behind}
use Rattle.sx_model.proofs.StringShapes.{piece_then}
use Rattle.sx_tree.specs.Text.{IsText}
use Rattle.sx_json.specs.Piece.{IsTooLong}
use Rattle.sx_json.proofs.OneStringFault.{text_read}
use Rattle.sx_json.proofs.Results.{unless_map}
use Rattle.sx_json.proofs.Runs.{after_run, after_run_fault, after_run_text}
use Rattle.sx_json.proofs.StringTexts.{split_ascii, piece_keeps}
use Rattle.sx_json.proofs.strings.escaped_at.Goals as goal

pub returns-in_err-after-clause-fault : goal.returns-in_err-after-clause-fault
returns-in_err-after-clause-fault c = λ t.
    let p = err_from_is_err_and c.from_residual-in_err-after.result c.from_residual-in_err-after.ensures.1 in
    let i = c.loop-content in
    let held = c.run_at.new.content in
    let rest = c.in_ok-rest.rest.now in
    rw (p.1, p.2)
    (unless_map (PieceFault c.args.end rest) (StringFault c.args.end c.args.start 0 c.args.bytes.now) _
    (λ h. after_run_fault c.args.end c.args.start c.args.bytes.now i.left.now i.content held rest i.invariant.fault c.in_ok-rest.ensures.ok _ (in_piece (length held) rest _ h)) c.in_err-after.ensures.fault)

pub returns-in_err-text-in-Closed-clause-fault : goal.returns-in_err-text-in-Closed-clause-fault
returns-in_err-text-in-Closed-clause-fault c = λ t.
    let piece = rw c.in-Closed.is at c.in_ok-after.ensures.ok in
    let i = c.loop-content in
    let run = c.in_ok-rest.ensures.ok in
    let held = c.run_at.new.content in
    let p = err_from_is_err_and c.from_residual-in_err-text-in-Closed.result c.from_residual-in_err-text-in-Closed.ensures.1 in
    let same : c.as_slice.result.now ≡ held = c.as_slice.ensures ∙ piece.0 in
    let text : IsUtf8 held = (split_ascii held c.in-Closed.after.now 34 (omega arith) (rw piece.1 at (after_run_text i.left.now i.content held c.in_ok-rest.rest.now run (i.invariant.utf8 t)))).0 in
    rw (p.1, p.2)
    (unless_map (IsTooLong c.args.start c.as_slice.result.now) (StringFault c.args.end c.args.start 0 c.args.bytes.now) _ (λ h. absurd (omega (arith, h.1, ap length same, run.4))) (c.in_err-text-in-Closed.ensures.err (subst IsUtf8 (sym same) text)))

pub returns-in-Closed-clause-ok : goal.returns-in-Closed-clause-ok
returns-in-Closed-clause-ok c =
    let piece = rw c.in-Closed.is at c.in_ok-after.ensures.ok in
    let i = c.loop-content in
    let held = c.run_at.new.content in
    let rest = c.in_ok-rest.rest.now in
    let text = c.in_ok-text-in-Closed.ensures.ok in
    let same : c.as_slice.result.now ≡ held = c.as_slice.ensures ∙ piece.0 in
    let leads = after_run c.args.bytes.now i.left.now i.content held rest i.invariant.leads c.in_ok-rest.ensures.ok in
    text_read c.args.bytes.now held rest c.in-Closed.after.now c.in_ok-text-in-Closed.text leads piece.1 (text.0 ∙ same) (subst IsText same text.1)

pub returns-in-Closed-clause-utf8 : goal.returns-in-Closed-clause-utf8
returns-in-Closed-clause-utf8 c = λ t.
    let piece = rw c.in-Closed.is at c.in_ok-after.ensures.ok in
    let i = c.loop-content in
    let held = c.run_at.new.content in
    (split_ascii held c.in-Closed.after.now 34 (omega arith) (rw piece.1 at (after_run_text i.left.now i.content held c.in_ok-rest.rest.now c.in_ok-rest.ensures.ok (i.invariant.utf8 t)))).1

pub returns-then-len-gt-TEXT_BYTES-clause-fault : goal.returns-then-len-gt-TEXT_BYTES-clause-fault
returns-then-len-gt-TEXT_BYTES-clause-fault c = λ t.
    let piece = rw c.in-More.is at c.in_ok-after.ensures.ok in
    let i = c.loop-content in
    let held = c.run_at.new.content in
    let rest = c.in_ok-rest.rest.now in
    let longer : 1_048_576 < length held + length piece.0 = omega (arith, ap length piece.1, length-append held piece.0, c.len.ensures, c.if-len-gt-TEXT_BYTES.true) in
    inr (after_run_fault c.args.end c.args.start c.args.bytes.now i.left.now i.content held rest i.invariant.fault c.in_ok-rest.ensures.ok _ (too_long (length held) rest piece.0 c.in-More.after.now _ piece.2 longer refl))

pub loop-content-preserved : goal.loop-content-preserved
loop-content-preserved c =
    let piece = rw c.in-More.is at c.in_ok-after.ensures.ok in
    let i = c.loop-content in
    let run = c.in_ok-rest.ensures.ok in
    let held = c.run_at.new.content in
    let rest = c.in_ok-rest.rest.now in
    let after = c.in-More.after.now in
    let count : length c.piece_at.new.content ≡ length held + length piece.0 = ap length piece.1 ∙ length-append held piece.0 in
    record {
      leads = λ more left h. rw (piece.1, append_assoc) (after_run c.args.bytes.now i.left.now i.content held rest i.invariant.leads run (piece.0 ++ more) left (piece_then rest piece.0 after more left piece.2 h));
      no_longer = omega (arith, i.invariant.no_longer, piece.3, ap length run.2, length-append run.0 rest);
      short = omega (arith, c.len.ensures, c.if-len-gt-TEXT_BYTES.false);
      utf8 = λ t. rw piece.1 (piece_keeps held rest piece.0 after piece.2 (after_run_text i.left.now i.content held rest run (i.invariant.utf8 t)));
      fault = λ f h.
          after_run_fault c.args.end c.args.start c.args.bytes.now i.left.now i.content held rest i.invariant.fault run f
          (behind (length held) rest piece.0 after f piece.2 (omega (arith, count, c.len.ensures, c.if-len-gt-TEXT_BYTES.false)) (subst (λ n. StringFault c.args.end c.args.start n after f) count h));
    }

pub text_of-requires : goal.text_of-requires
text_of-requires c = λ known.
    let piece = rw c.in-Closed.is at c.in_ok-after.ensures.ok in
    let i = c.loop-content in
    let held = c.run_at.new.content in
    let same : c.as_slice.result.now ≡ held = c.as_slice.ensures ∙ piece.0 in
    let whole = after_run_text i.left.now i.content held c.in_ok-rest.rest.now c.in_ok-rest.ensures.ok (i.invariant.utf8 (c.requires known)) in
    subst IsUtf8 (sym same) (split_ascii held c.in-Closed.after.now 34 (omega arith) (rw piece.1 at whole)).0
