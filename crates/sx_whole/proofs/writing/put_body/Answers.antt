use Rattle.std.specs.FinMap as fin
use Rattle.sx_view.specs.Slots.{held}
use Rattle.sx_whole.proofs.Written.{body_put, whole_of}
use Rattle.sx_whole.proofs.writing.put_body.Goals as goal

pub returns-clause-ok : goal.returns-clause-ok
returns-clause-ok c =
    body_put c.args.out.now c.put_nodes.new.out c.put_paths.new.out (fin.entries (held c.args.nodes.now.slots.entries)) c.args.paths.now.paths c.in_ok-put_nodes.ensures.ok c.in_ok-put_paths.ensures.ok

pub returns-clause-whole : goal.returns-clause-whole
returns-clause-whole c = whole_of (held c.args.nodes.now.slots.entries) c.args.paths.now.paths c.in_ok-put_nodes.ensures.known c.in_ok-put_paths.ensures.known c.in_ok-put_paths.ensures.few
