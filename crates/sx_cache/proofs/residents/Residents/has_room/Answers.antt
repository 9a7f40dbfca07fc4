use Rattle.sx_cache.proofs.ByValue.{IsSome-lookup, is_some-lookup-by_value, length-by_value, lookup-absent}
use Rattle.std.proofs.Common.{nat_eq, ◌≤◌, inl, sym, ◌∙◌, arith, ltb-false}
use Rattle.sx_cache.proofs.residents.Residents.has_room.Goals as goal

pub returns-then-contains-clause-room : goal.returns-then-contains-clause-room
returns-then-contains-clause-room g c =
    λ t. rw (← c.self.view_is) (inl (IsSome-lookup (nat_eq c.args.k) _ (is_some-lookup-by_value (nat_eq c.args.k) c.self.inside.cells.entries ∙ sym c.if-contains.ensures)))

pub returns-else-contains-clause-no_place : goal.returns-else-contains-clause-no_place
returns-else-contains-clause-no_place g c =
    λ f. let es = c.self.inside.cells.entries in let full : c.get.result ≤ c.len.result = ltb-false _ _ f in
    rw (← c.self.view_is) (lookup-absent (nat_eq c.args.k) _ (is_some-lookup-by_value (nat_eq c.args.k) es ∙ sym c.if-contains.ensures), omega (arith, length-by_value es, c.len.ensures.valid.1, c.len.ensures.len, c.get.ensures.value, c.cap.ensures, full))

pub returns-else-contains-clause-not_empty : goal.returns-else-contains-clause-not_empty
returns-else-contains-clause-not_empty g c =
    λ f. let es = c.self.inside.cells.entries in let full : c.get.result ≤ c.len.result = ltb-false _ _ f in
    rw (← c.self.view_is) (omega (arith, length-by_value es, c.len.ensures.len, c.get.ensures.nonzero, full))
