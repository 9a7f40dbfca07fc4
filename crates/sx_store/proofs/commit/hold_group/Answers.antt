use Rattle.std.proofs.Common.{◌≡◌, ◌∙◌, ap, refl, sym, arith, inl, ℕ, ◌+◌, List, Some, Vec, Global}
use Rattle.std.specs.Arc.{arc_value}
use Rattle.sx_store.proofs.HoldLaws.{content-held, end-below, lies-held, range-held}
use Rattle.sx_store.proofs.Keeping.{sound-held}
use Rattle.sx_store.specs.Shows.{last_root_of}
use Rattle.sx_store.proofs.commit.hold_group.Goals as goal

pub overflow_add-place-2 : goal.overflow_add-place-2
overflow_add-place-2 g c = let below = end-below g.V.Spot.Spot c.args.ledger.now c.requires.sound.whole in omega (arith, below)

pub returns-in_err-hold-clause-sound : goal.returns-in_err-hold-clause-sound
returns-in_err-hold-clause-sound g c =
    sound-held g.V.Spot.Spot c.args.ledger.now _ c.hold.ensures.same c.reserve.ensures.items g.V.Volume c.args.volume.now c.hold.new.volume c.hold.ensures.only.same_bytes c.hold.ensures.only.same_size refl
    c.hold.ensures.keeps c.requires.sound

pub cell_in-requires : goal.cell_in-requires
cell_in-requires g c =
    let next = c.requires.next in
    let bytes : (arc_value c.in_ok-bytes.bytes).items ≡ c.args.group.bytes.items = ap (λ (v : Vec ℕ Global). v.items) c.in_ok-bytes.ensures.ok in
    let held = c.in_ok-hold.ensures.held next.group (record { is_group = next.is_group; follows = next.follows; bytes_are = bytes ∙ next.bytes_are }) in
    record {
      there = inl (lies-held (last_root_of c.args.ledger.now) c.args.group next (g.V.Volume.held c.hold.new.volume) c.hold.new.log.end _
          (held.held ∙ ap (λ (l : List ℕ). Some (c.hold.new.log.end + 1, l)) (sym next.bytes_are)) (ap (λ (n : ℕ). n + 1 + 116) (sym c.hold.ensures.same.end)));
    }

pub returns-clause-sound : goal.returns-clause-sound
returns-clause-sound g c =
    sound-held g.V.Spot.Spot c.args.ledger.now _ c.hold.ensures.same c.reserve.ensures.items g.V.Volume c.args.volume.now c.hold.new.volume c.hold.ensures.only.same_bytes c.hold.ensures.only.same_size refl
    c.hold.ensures.keeps c.requires.sound

pub returns-clause-content : goal.returns-clause-content
returns-clause-content g c =
    let next = c.requires.next in
    let bytes : (arc_value c.in_ok-bytes.bytes).items ≡ c.args.group.bytes.items = ap (λ (v : Vec ℕ Global). v.items) c.in_ok-bytes.ensures.ok in
    let held = c.in_ok-hold.ensures.held next.group (record { is_group = next.is_group; follows = next.follows; bytes_are = bytes ∙ next.bytes_are }) in
    let is = held.held ∙ ap (λ (l : List ℕ). Some (c.hold.new.log.end + 1, l)) (sym next.bytes_are) in
    let at : c.args.ledger.now.log.end + 1 + 116 ≡ c.hold.new.log.end + 1 + 116 = ap (λ (n : ℕ). n + 1 + 116) (sym c.hold.ensures.same.end) in
    let there = lies-held (last_root_of c.args.ledger.now) c.args.group next (g.V.Volume.held c.hold.new.volume) c.hold.new.log.end (c.args.ledger.now.log.end + 1 + 116) is at in
    content-held g.V.Spot.Spot c.cell_in.result (g.V.Volume.bytes c.hold.new.volume) (g.V.Volume.bytes c.args.volume.now) _ _ _ c.hold.ensures.only.same_bytes there
    (range-held c.args.group.bytes.items (g.V.Volume.held c.hold.new.volume) c.hold.new.log.end (c.args.ledger.now.log.end + 1 + 116) c.args.group.row.bytes is at) c.cell_in.ensures.held
