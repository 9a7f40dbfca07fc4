use Rattle.std.proofs.Common.{◌∙◌, ◌++◌, [], ◌∷◌, ap, sym}
use Rattle.std.proofs.lemmas.Result.{on_ok_weaker}
use Rattle.sx_run.specs.Reply.{answer_bytes, hash_bytes}
use Rattle.sx_tree.specs.declared.query.Answer.{Answer}
use Rattle.sx_script.proofs.Growing.{begins_on, grown_twice}
use Rattle.sx_script.proofs.replies.append_answer.Goals as goal

pub returns-in_ok-extend_from_slice-in-Hash-clause-written : goal.returns-in_ok-extend_from_slice-in-Hash-clause-written
returns-in_ok-extend_from_slice-in-Hash-clause-written c =
    let old = c.args.out.now in
    on_ok_weaker c.append_hash.result
    (λ is. grown_twice old (111 ∷ 107 ∷ 32 ∷ []) c.extend_from_slice-in-Hash.new.self (hash_bytes c.in-Hash.hash) c.append_hash.new.out
    c.in_ok-extend_from_slice-in-Hash.ensures.ok is
    ∙ ap (λ (answer : Answer). old ++ 111 ∷ 107 ∷ answer_bytes answer) (sym c.in-Hash.is)) c.append_hash.ensures.written

pub returns-in_ok-extend_from_slice-in-Hash-clause-begins : goal.returns-in_ok-extend_from_slice-in-Hash-clause-begins
returns-in_ok-extend_from_slice-in-Hash-clause-begins c =
    begins_on c.args.out.now _ c.extend_from_slice-in-Hash.new.self c.append_hash.new.out c.in_ok-extend_from_slice-in-Hash.ensures.ok c.append_hash.ensures.begins

pub returns-in_ok-extend_from_slice-in-Nodes-clause-begins : goal.returns-in_ok-extend_from_slice-in-Nodes-clause-begins
returns-in_ok-extend_from_slice-in-Nodes-clause-begins c =
    begins_on c.args.out.now _ c.extend_from_slice-in-Nodes.new.self c.append_numbers.new.out c.in_ok-extend_from_slice-in-Nodes.ensures.ok c.append_numbers.ensures.begins
