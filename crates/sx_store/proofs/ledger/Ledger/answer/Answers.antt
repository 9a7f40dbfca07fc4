use Rattle.std.proofs.Common.{ap, sym, subst, arith, length, refl}
use Rattle.sx_root.specs.declared.root.RevisionRoot.{RevisionRoot}
use Rattle.sx_model.specs.Commit.{state_of}
use Rattle.sx_store.specs.Damage.{HasNoNode, IsQueryCause, IsQueryDamage, root_at}
use Rattle.sx_store.specs.Drafts.{IsRootOf}
use Rattle.sx_store.specs.Shows.{names_in}
use Rattle.sx_store.proofs.Answering.{damage-asked, damage-read, document-read, explains-read, gives-asked, gives-read, keeps-at, tells-read, unmapped}
use Rattle.sx_store.proofs.Drafting.{are-of}
use Rattle.sx_store.proofs.Telling.{count-shown, revision}
use Rattle.sx_store.proofs.Wholes.{numbers}
use Rattle.sx_store.proofs.ledger.Ledger.answer.Goals as goal

pub read_document-requires-clause-there : goal.read_document-requires-clause-there
read_document-requires-clause-there g c =
    let all = numbers g.S.Spot c.args.self.now c.requires.whole in
    let below = all.roots c.args.revision in
    let node_root = ap (λ (root : RevisionRoot). root.node_root) c.root-root.ensures.root in
    let long = ap length c.deref.ensures.value in
    omega (arith, below, node_root, long)

pub returns-in_err-document-clause-answers : goal.returns-in_err-document-clause-answers
returns-in_err-document-clause-answers g c now book shows =
    let state = state_of book.commits c.args.revision in
    let count = count-shown g.S.Spot c.args.self.now book shows in
    let is = revision g.S.Spot c.args.self.now book c.args.revision c.requires.whole shows (omega (arith, count, c.requires.there)) in
    let told = tells-read g.S.Spot state c.args.self.now.cells.items c.deref.result.now (root_at c.args.self.now c.args.revision) c.root-root.result c.deref.ensures.value c.root-root.ensures.root is.tells in
    gives-read (names_in c.args.self.now) state c.args.query.now c.from_residual.result c.in_err-document.field-0.0 c.from_residual.ensures.1 (c.in_err-document.ensures.of_state now state told)

pub returns-in_err-document-clause-damaged : goal.returns-in_err-document-clause-damaged
returns-in_err-document-clause-damaged g c damage told =
    let explains = explains-read g.S.Spot (g.E.ReadEnd.tells c.args.end.now) _ c.args.self.now.cells.items c.deref.result.now (root_at c.args.self.now c.args.revision) c.root-root.result c.in_err-document.field-0.0 c.deref.ensures.value c.root-root.ensures.root c.in_err-document.ensures.fault in
    damage-read g.S.Spot (g.E.ReadEnd.tells c.args.end.now) _ c.args.self.now.cells.items (root_at c.args.self.now c.args.revision).node_root (IsQueryCause c.args.self.now (root_at c.args.self.now c.args.revision) c.args.query.now) c.from_residual.result c.in_err-document.field-0.0 damage c.from_residual.ensures.1 explains told

pub returns-clause-answers : goal.returns-clause-answers
returns-clause-answers g c now book shows =
    let state = state_of book.commits c.args.revision in
    let count = count-shown g.S.Spot c.args.self.now book shows in
    let is = revision g.S.Spot c.args.self.now book c.args.revision c.requires.whole shows (omega (arith, count, c.requires.there)) in
    let told = tells-read g.S.Spot state c.args.self.now.cells.items c.deref.result.now (root_at c.args.self.now c.args.revision) c.root-root.result c.deref.ensures.value c.root-root.ensures.root is.tells in
    let of = c.in_ok-document.ensures.of_state now state told in
    let root = subst (IsRootOf state) (sym c.root-root.ensures.root) is.root in
    gives-asked _ _ _ c.args.query.now c.ask.result state c.ask.ensures.answers (are-of state c.root-root.result c.in_ok-document.document _ root of refl refl)

pub returns-clause-no_node : goal.returns-clause-no_node
returns-clause-no_node g c node is = (c.ask.ensures.no_node node is).0

pub returns-clause-no_path : goal.returns-clause-no_path
returns-clause-no_path g c path is = ((c.ask.ensures.no_path path).0 is).0

pub returns-clause-damaged : goal.returns-clause-damaged
returns-clause-damaged g c damage is =
    let root = c.root-root.result in
    let at = document-read g.S.Spot (g.E.ReadEnd.tells c.args.end.now) c.args.self.now.cells.items c.deref.result.now root root c.in_ok-document.document c.deref.ensures.value refl c.in_ok-document.ensures.document in
    subst (λ (r : RevisionRoot). IsQueryDamage g.S.Spot (g.E.ReadEnd.tells c.args.end.now) c.args.self.now r c.args.query.now damage) c.root-root.ensures.root
    (damage-asked g.S.Spot (g.E.ReadEnd.tells c.args.end.now) c.args.self.now root c.args.query.now c.in_ok-document.document _ damage at (refl, refl, refl) (c.ask.ensures.damaged damage is))

pub returns-clause-absent : goal.returns-clause-absent
returns-clause-absent g c node is =
    let tells = g.E.ReadEnd.tells c.args.end.now in
    let root = c.root-root.result in
    let at = document-read g.S.Spot tells c.args.self.now.cells.items c.deref.result.now root root c.in_ok-document.document c.deref.ensures.value refl c.in_ok-document.ensures.document in
    subst (λ (r : RevisionRoot). HasNoNode g.S.Spot tells c.args.self.now r node) c.root-root.ensures.root
    (_, keeps-at g.S.Spot tells c.args.self.now.cells.items root.node_root c.in_ok-document.document at, unmapped _ ((c.ask.ensures.no_node node is).1))
