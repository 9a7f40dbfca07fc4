use Rattle.std.proofs.Common.{None, sym}
use Rattle.sx_paths.proofs.WordLemmas.{updated, IsIndex-updated}
use Rattle.sx_paths.proofs.index.Index.remove.Goals as goal

pub returns-in-Some-clause-removed : goal.returns-in-Some-clause-removed
returns-in-Some-clause-removed c =
    updated c.args.self.now (record { words = c.args.self.now.words; numbers = c.remove.new.self }) c.requires c.requires.numbered (λ s w e. e)
    c.args.parent c.args.step.now c.in-Some.word None (sym c.in-Some.ensures) c.remove.ensures.updates.0

pub returns-in-Some-clause-index : goal.returns-in-Some-clause-index
returns-in-Some-clause-index c =
    IsIndex-updated c.args.self.now (record { words = c.args.self.now.words; numbers = c.remove.new.self }) c.requires c.requires.numbered (λ s w e. e)
    c.args.parent c.args.step.now c.in-Some.word None (sym c.in-Some.ensures) c.remove.ensures.updates.0
