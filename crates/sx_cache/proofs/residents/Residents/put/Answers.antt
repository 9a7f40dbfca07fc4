use Rattle.std.proofs.Common.{nat_eq, ap}
use Rattle.sx_cache.proofs.ByValue.{nat_eq-same, put_entries-by_value}
use Rattle.sx_cache.proofs.residents.Residents.put.Goals as goal

pub returns-clause-ok : goal.returns-clause-ok
returns-clause-ok g c =
    let moved = put_entries-by_value nat_eq c.self.inside.cells c.args.k c.args.cell (nat_eq-same c.args.k) c.len.ensures.valid.1 in
    rw (← c.self.view_is, c.in_ok-put.ensures.entries) (ap (λ l. record { list = l; places = c.self.inside.cells.cap }) moved)
