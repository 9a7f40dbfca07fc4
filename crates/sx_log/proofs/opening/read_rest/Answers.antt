use Rattle.std.proofs.Common.{◌≡◌, ◌∙◌, ◌++◌, sym, subst, List, ℕ, IfSome, take, drop}
use Rattle.sx_frame.specs.declared.table.FrameRow.{FrameRow}
use Rattle.sx_log.proofs.GroupRead.{IsRead, group_at, tells_part}
use Rattle.sx_log.proofs.Ruled.{told}
use Rattle.sx_log.specs.Opening.{part_rules}
use Rattle.sx_log.proofs.opening.read_rest.Goals as goal

pub returns-in-Some-clause-tells : goal.returns-in-Some-clause-tells
returns-in-Some-clause-tells g c =
    let bytes = g.V.Volume.bytes c.args.volume.now in
    let root = c.args.head.now.root in
    let behind : List ℕ = c.in_ok-behind.behind.items in
    let table : List FrameRow = c.in_ok-table.table in
    let read : IsRead bytes (g.V.Volume.size c.args.volume.now) c.args.place root table behind =
    record {
      told_size = g.met.V.Volume.told_size c.args.volume.now;
      below = c.requires.below;
      root_is = c.requires.root;
      rows = c.in_ok-table.ensures.rows;
      count = c.in_ok-table.ensures.count;
      room = c.requires.size;
      kept = c.in_ok-table.ensures.written.0;
      written = sym c.deref.ensures.value ∙ c.in_ok-table.ensures.written.1;
      long = c.in_ok-behind.ensures.long;
      head_read = subst (λ (h : List ℕ). IfSome bytes (λ all. h ≡ take 48 (drop c.args.place all))) c.requires.head c.requires.there;
      behind_read = c.in_ok-behind.ensures.bytes;
    } in
    let tested = c.part_damage.ensures
    ∙ (λ i. told c.args.place (part_rules c.args.last.now root (c.requires.head i ++ c.deref-2.ensures.value i) (c.as_slice.ensures i))) in
    tells_part bytes (g.V.Volume.size c.args.volume.now) c.args.place c.args.last.now root table behind read c.in-Some.damage (sym tested ∙ c.in-Some.is)

pub returns-clause-group : goal.returns-clause-group
returns-clause-group g c =
    let bytes = g.V.Volume.bytes c.args.volume.now in
    let root = c.args.head.now.root in
    let behind : List ℕ = c.in_ok-behind.behind.items in
    let table : List FrameRow = c.in_ok-table.table in
    let read : IsRead bytes (g.V.Volume.size c.args.volume.now) c.args.place root table behind =
    record {
      told_size = g.met.V.Volume.told_size c.args.volume.now;
      below = c.requires.below;
      root_is = c.requires.root;
      rows = c.in_ok-table.ensures.rows;
      count = c.in_ok-table.ensures.count;
      room = c.requires.size;
      kept = c.in_ok-table.ensures.written.0;
      written = sym c.deref.ensures.value ∙ c.in_ok-table.ensures.written.1;
      long = c.in_ok-behind.ensures.long;
      head_read = subst (λ (h : List ℕ). IfSome bytes (λ all. h ≡ take 48 (drop c.args.place all))) c.requires.head c.requires.there;
      behind_read = c.in_ok-behind.ensures.bytes;
    } in
    let tested = c.part_damage.ensures
    ∙ (λ i. told c.args.place (part_rules c.args.last.now root (c.requires.head i ++ c.deref-2.ensures.value i) (c.as_slice.ensures i))) in
    group_at bytes (g.V.Volume.size c.args.volume.now) c.args.place c.args.last.now root table behind read (sym tested ∙ c.in_default.is)
