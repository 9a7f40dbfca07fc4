use Rattle.std.proofs.Common.{◌∙◌, ap, arith, length, sym, subst}
use Rattle.sx_model.specs.Commit.{state_of}
use Rattle.sx_root.specs.declared.root.RevisionRoot.{RevisionRoot}
use Rattle.sx_store.specs.Damage.{root_at}
use Rattle.sx_store.specs.Drafts.{IsRootOf}
use Rattle.sx_store.proofs.Answering.{tells-read}
use Rattle.sx_store.proofs.Taking.{drafted, is-made, last-damage, last-root, last-state, none-open, undamaged}
use Rattle.sx_store.proofs.Telling.{count-shown, revision}
use Rattle.sx_store.proofs.Wholes.{numbers}
use Rattle.sx_store.proofs.ledger.Ledger.take_draft.Goals as goal

pub draft_of-requires-clause-there : goal.draft_of-requires-clause-there
draft_of-requires-clause-there g c =
    let all = numbers g.S.Spot c.args.self.now c.requires.whole in
    let below = all.roots c.count.result in
    let node_root = ap (λ (root : RevisionRoot). root.node_root) c.root.ensures.root in
    let long = ap length c.deref.ensures.value in
    omega (arith, below, node_root, long)

pub returns-in-None-clause-made : goal.returns-in-None-clause-made
returns-in-None-clause-made g c =
    is-made g.S.Spot (g.E.ReadEnd.tells c.args.end.now) c.args.self.now c.deref.result.now c.args.self.now.draft c.root.result c.draft_of.result c.deref.ensures.value (sym c.take.ensures.value ∙ c.in-None.is)
    (last-root c.args.self.now c.root.result c.count.result c.root.ensures.root c.count.ensures.count) c.draft_of.ensures.made

pub returns-in-None-clause-damaged : goal.returns-in-None-clause-damaged
returns-in-None-clause-damaged g c damage is =
    last-damage g.S.Spot (g.E.ReadEnd.tells c.args.end.now) c.args.self.now c.deref.result.now c.args.self.now.draft c.root.result damage c.deref.ensures.value (sym c.take.ensures.value ∙ c.in-None.is)
    (last-root c.args.self.now c.root.result c.count.result c.root.ensures.root c.count.ensures.count) (c.draft_of.ensures.damaged damage is)

pub returns-in-None-clause-shown : goal.returns-in-None-clause-shown
returns-in-None-clause-shown g c now book shows =
    let count = c.count.ensures.count ∙ count-shown g.S.Spot c.args.self.now book shows in
    let none = none-open c.args.self.now.draft book (sym c.take.ensures.value ∙ c.in-None.is) shows.draft in
    let is = revision g.S.Spot c.args.self.now book c.count.result c.requires.whole shows (omega (arith, count)) in
    let state = state_of book.commits c.count.result in
    let told = tells-read g.S.Spot state c.args.self.now.cells.items c.deref.result.now (root_at c.args.self.now c.count.result) c.root.result c.deref.ensures.value c.root.ensures.root is.tells in
    let root = subst (IsRootOf state) (sym c.root.ensures.root) is.root in
    drafted book state c.draft_of.result (last-state book c.count.result count none) (c.draft_of.ensures.of_state now state root told)

pub returns-in-None-clause-undamaged : goal.returns-in-None-clause-undamaged
returns-in-None-clause-undamaged g c now book shows damage told_damage =
    let count = c.count.ensures.count ∙ count-shown g.S.Spot c.args.self.now book shows in
    let is = revision g.S.Spot c.args.self.now book c.count.result c.requires.whole shows (omega (arith, count)) in
    let state = state_of book.commits c.count.result in
    let told = tells-read g.S.Spot state c.args.self.now.cells.items c.deref.result.now (root_at c.args.self.now c.count.result) c.root.result c.deref.ensures.value c.root.ensures.root is.tells in
    let root = subst (IsRootOf state) (sym c.root.ensures.root) is.root in
    undamaged state c.draft_of.result damage (c.draft_of.ensures.of_state now state root told) told_damage
