use Rattle.std.proofs.Common.{Some, ap, ◌∙◌}
use Rattle.std.specs.Prelude.{option_and_then}
use Rattle.std.specs.BTreeMap.{is_at}
use Rattle.std.specs.Map.{lookup}
use Rattle.sx_paths.specs.Words.{pair_cmp, word_of}
use Rattle.sx_paths.proofs.WordLemmas.{learned, on_err, updated, IsIndex-updated}
use Rattle.sx_paths.proofs.index.Index.put.Goals as goal

pub returns-in_err-word-clause-err : goal.returns-in_err-word-clause-err
returns-in_err-word-clause-err c =
    on_err c.from_residual.result _
    (learned c.args.self.now (record { words = c.learn.new.self; numbers = c.args.self.now.numbers }) c.requires c.learn.ensures.numbered c.learn.ensures.kept)

pub returns-in_err-insert-clause-err : goal.returns-in_err-insert-clause-err
returns-in_err-insert-clause-err c =
    on_err c.from_residual-in_err-insert.result _
    (λ p s.
    ap (λ es. option_and_then (λ w. lookup (is_at (pair_cmp (p, w))) es) (word_of c.learn.new.self.names s)) c.in_err-insert.ensures.err
    ∙ learned c.args.self.now (record { words = c.learn.new.self; numbers = c.insert.new.self }) c.requires c.learn.ensures.numbered c.learn.ensures.kept p s)

pub returns-clause-ok : goal.returns-clause-ok
returns-clause-ok c =
    updated c.args.self.now (record { words = c.learn.new.self; numbers = c.insert.new.self }) c.requires c.learn.ensures.numbered c.learn.ensures.kept
    c.args.parent c.args.step.now c.in_ok-word.word (Some c.args.number) c.in_ok-word.ensures.ok c.in_ok-insert.ensures.updates.0

pub returns-clause-index : goal.returns-clause-index
returns-clause-index c =
    IsIndex-updated c.args.self.now (record { words = c.learn.new.self; numbers = c.insert.new.self }) c.requires c.learn.ensures.numbered c.learn.ensures.kept
    c.args.parent c.args.step.now c.in_ok-word.word (Some c.args.number) c.in_ok-word.ensures.ok c.in_ok-insert.ensures.updates.0
